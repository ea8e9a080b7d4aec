use Rattle.std.proofs.Common.{rules, ◌≡◌, ◌+◌, ◌-◌, ◌++◌, ◌≤◌, ◌∙◌, ap, sym, arith, refl, ℕ, List, length, pos, ℤ, FitsSigned, slice_get, replicate}
use Rattle.std.specs.Prelude.{map, sum}
use Rattle.std.specs.Int.{w64}
use mir.Val.{to_z, of_z}
use Rattle.std.proofs.lemmas.Int.{to_z-of_z}
use Rattle.std.proofs.lemmas.List.{length-append, length-replicate}
use Rattle.program.specs.declared.function.Alloca.{Alloca}
use Rattle.serial_stack.specs.Layouts.{alloca_sizes}
use Rattle.serial_stack.proofs.Calling.{end_address, vec_small}
use Rattle.serial_stack.proofs.Owners.{get_more, sizes_are}
use Rattle.serial_stack.proofs.Starting.{begin_shown}
use Rattle.serial_stack.specs.StackShown.{unboxed}
use Rattle.serial_stack.proofs.stack.Stack.begin.Goals as goal

pub returns-clause-begins : goal.returns-clause-begins
returns-clause-begins c = λ globals places memory at stands.
    let prog = c.args.program.now in
    let f = c.function_at-main.result.now in
    let is = c.function_at-main.ensures in
    let numbers = c.args.numbers in
    let items = c.grow.new.self.cells.items in
    let n = c.in-Some.room in
    let e2 = c.in-Some.ensures.some in
    let e3 : sum (map (λ (x : Alloca). x.cells) c.as_slice.result.now) ≡ sum (map (λ (x : Alloca). x.cells) f.allocas) = ap (λ (xs : List Alloca). sum (map (λ (x : Alloca). x.cells) xs)) c.as_slice.ensures in
    let e4 : sum (alloca_sizes prog prog.main.0) ≡ sum (map (λ (x : Alloca). x.cells) f.allocas) = ap (λ (xs : List ℕ). sum xs) (sizes_are prog prog.main.0 f is) in
    let enough : n ≡ sum (alloca_sizes prog prog.main.0) = e2 ∙ e3 ∙ sym e4 in
    let grown : items ≡ numbers.items ++ replicate n (pos 0) = c.in_ok-grow.ensures.grown in
    let long : length items ≡ length numbers.items + n = ap (λ (xs : List ℤ). length xs) grown ∙ length-append numbers.items (replicate n (pos 0)) ∙ ap (λ (k : ℕ). length numbers.items + k) (length-replicate n (pos 0)) in
    let a = c.len-home.ensures in
    let b = numbers.ok.0 in
    let row = stands.long in
    let home : c.len-home.result ≡ sum globals = omega (arith, a, b, row) in
    let low : c.len-home.result ≤ length items = omega (arith, a, b, long) in
    let stays : length items ≤ length items = omega arith in
    let fit : FitsSigned w64 c.cast_signed.result = search rules in
    let at_home : to_z w64 (of_z w64 c.cast_signed.result) ≡ pos (sum globals) = to_z-of_z w64 c.cast_signed.result fit ∙ c.cast_signed.ensures ∙ end_address c.len-home.result (length items) c.grow.new.self.cells low stays ∙ ap (λ (m : ℕ). pos m) home in
    let end = c.in-Some-checked_add.ensures.1 in
    let ends : c.in-Some-checked_add.end ≡ sum globals + sum (alloca_sizes prog prog.main.0) = omega (arith, end, home, enough) in
    let registers = c.in_ok-registers.registers in
    let words = c.in_ok-registers.ensures in
    let most = c.requires.room f is in
    let count = c.len.ensures in
    let as_many : length registers.items ≡ length f.registers =
    (let made : length registers.items ≡ length c.args.arguments.now + (c.len.result - length c.args.arguments.now) = ap (λ (xs : List ℤ). length xs) words ∙ length-append c.args.arguments.now (replicate (c.len.result - length c.args.arguments.now) (pos 0)) ∙ ap (λ (k : ℕ). length c.args.arguments.now + k) (length-replicate (c.len.result - length c.args.arguments.now) (pos 0)) in omega (arith, made, most, count)) in
    begin_shown globals prog places memory at numbers.items stands c.args.arguments.now items n grown enough (vec_small c.grow.new.self.cells) f is (c.requires.entry f is) registers _ at_home as_many
    (λ x z e. ap (λ (xs : List ℤ). slice_get xs x) words ∙ get_more c.args.arguments.now (replicate (c.len.result - length c.args.arguments.now) (pos 0)) x z e)
    _ c.in_ok-new.ensures.ok (ap unboxed c.new-2.ensures.items) refl ends
