use Rattle.std.proofs.Common.{rules, ℕ, FitsSigned, ◌≡◌, ◌+◌, ◌-◌, ◌∙◌, ap, arith, pos, List, Some, length, ◌<◌, ◌≤◌, ◌++◌, replicate, subst, sym, slice_get}
use Rattle.std.specs.Prelude.{map, sum}
use Rattle.std.specs.Int.{w64}
use mir.Val.{to_z, of_z}
use Rattle.std.proofs.lemmas.Int.{to_z-of_z}
use Rattle.serial_stack.specs.Layouts.{end_of, frames_of}
use Rattle.semantics.specs.Frames.{Does}
use Rattle.program.specs.declared.function.Alloca.{Alloca}
use Rattle.program.specs.declared.instruction.Instruction.TheVariants as instruction
use Rattle.serial_stack.specs.StackShown.{item_here}
use Rattle.serial_stack.specs.declared.stack.Stack.{Stack}
use Rattle.serial_stack.proofs.Calling.{begins, call_names, call_shown, callee_within, end_address, grown_long, layout, more, place}
use Rattle.serial_stack.proofs.Detaching.{spared, unboxed_push}
use Rattle.frame_engine.specs.declared.activation.Frame.{Frame}
use Rattle.frame_engine.specs.Activation.{ShowsFrame, allocas_of}
use Rattle.frame_engine.specs.Names.{HasArgument, sizes}
use Rattle.program.specs.declared.instruction.Argument.{Argument}
use Rattle.frame.specs.declared.frame.Wait.TheVariants as wait
use Rattle.serial_stack.proofs.stack.Stack.call.Goals as goal

pub function_at-called-requires : goal.function_at-called-requires
function_at-called-requires c = callee_within c.args.program.now c.args.places.now _ c.args.self.now.top.value c.args.register c.args.callee c.args.arguments.now c.requires.text c.requires.item

pub call_into-requires-clause-names : goal.call_into-requires-clause-names
call_into-requires-clause-names c =
    let places = c.args.places.now in
    let same : c.deref.result.now ≡ c.args.self.now.top.value = c.deref.ensures ∙ ap (λ (x : Stack). x.top.value) c.in_ok-frame.ensures.only in
    subst (λ (f : Frame). (k : ℕ) (a : Argument) → slice_get c.args.arguments.now k ≡ Some a → HasArgument (sizes (length f.registers.items) (length places.globals) (length (allocas_of places f.function.0))) a) (sym same)
    (call_names c.args.program.now places _ c.args.self.now.top.value c.args.register c.args.callee c.args.arguments.now c.requires.text c.requires.stands c.requires.item).1

pub returns-clause-goes : goal.returns-clause-goes
returns-clause-goes c = λ globals s h can.
    let prog = c.args.program.now in
    let places = c.args.places.now in
    let d = c.args.register in
    let g = c.args.callee in
    let xs = c.args.arguments.now in
    let k = c.args.self.now in
    let fresh = c.fresh.new.self in
    let only = c.in_ok-frame.ensures.only in
    let caller = c.wait_for_call.new.self in
    let k2 : Stack = record fresh { cells = k.cells } in
    let like : k2 ≡ record k { spare = fresh.spare } = ap (λ (x : Stack). record x { cells = k.cells }) only in
    let h2 = spared globals prog places s k k2 like h in
    let item : item_here prog k2.top.value ≡ Some (Does (instruction.Call d g xs)) = ap (λ (x : Stack). item_here prog x.top.value) only ∙ c.requires.item in
    let f = c.function_at-called.result.now in
    let is = c.function_at-called.ensures in
    let j = c.push.new.self in
    let pushed = c.in_ok-push.ensures.only in
    let n = c.saturating_sub-missing.result in
    let grown : j.cells.cells.items ≡ k.cells.cells.items ++ replicate n (pos 0) = ap (λ (x : Stack). x.cells.cells.items) pushed ∙ ap (λ (x : Stack). x.cells.cells.items) only ∙ c.in_ok-grow.ensures.grown in
    let a = c.saturating_sub-missing.ensures in
    let b = c.len.ensures in
    let v = k.cells.cells.ok.0 in
    let at_end : j.end ≡ c.in-Some-checked_add.end = ap (λ (x : Stack). x.end) pushed in
    let missing : n ≡ j.end - length k.cells.cells.items = omega (arith, a, b, v, at_end) in
    let same_end : k2.end ≡ k.end = ap (λ (x : Stack). x.end) only in
    let e1 = c.in-Some-checked_add.ensures.1 in
    let e2 = c.in-Some.ensures.some in
    let e3 : sum (map (λ (x : Alloca). x.cells) c.as_slice.result.now) ≡ sum (map (λ (x : Alloca). x.cells) f.allocas) = ap (λ (xs : List Alloca). sum (map (λ (x : Alloca). x.cells) xs)) c.as_slice.ensures in
    let ends : j.end ≡ k2.end + sum (map (λ (x : Alloca). x.cells) f.allocas) = omega (arith, e1, e2, e3, at_end, same_end) in
    let long : j.end ≤ length j.cells.cells.items = grown_long k.cells.cells.items j.cells.cells.items j.end n missing grown in
    let fit : FitsSigned w64 c.cast_signed.result = search rules in
    let low : k2.end ≤ j.end = omega (arith, ends) in
    let at_home : to_z w64 (of_z w64 c.cast_signed.result) ≡ pos (end_of globals prog (frames_of s)) = to_z-of_z w64 c.cast_signed.result fit ∙ c.cast_signed.ensures ∙ end_address k2.end j.end j.cells.cells low long ∙ ap (λ (m : ℕ). pos m) h2.end in
    call_shown globals prog places _ s k2 c.requires.text h2 can d g xs item f is
    c.call_into.new.callee caller
    (c.in_ok-call_into.ensures.registers ∙ c.len-2.ensures)
    c.in_ok-call_into.ensures.function
    (c.in_ok-call_into.ensures.home ∙ at_home)
    (λ vs e alike. c.in_ok-call_into.ensures.shown (layout globals prog places _ s k2 c.requires.text h2 can d g xs item f is) (more globals prog places _ s k2 c.requires.text h2 can d g xs item f is) s.path s.frame vs (subst (ShowsFrame _ places s.path s.frame) (sym c.deref.ensures) h2.top.shown) (can.whole d g xs (place globals prog places _ s k2 c.requires.text h2 can d g xs item f is)) e alike
    (begins globals prog places _ s k2 c.requires.text h2 can d g xs item f is _ at_home))
    (subst (λ (f : Frame). caller ≡ record f { place = record { block = f.place.block; index = f.place.index + 1 }; made = f.made + 1; waits = wait.Call f.made d }) c.deref_mut.ensures.value c.wait_for_call.ensures.is)
    (λ l at p g shown. c.wait_for_call.ensures.shown l at p g (subst (ShowsFrame l at p g) (sym c.deref_mut.ensures.value) shown))
    j n (ap (λ (x : Stack). x.top.value) pushed) (unboxed_push _ _ _ c.in_ok-push.ensures.below) grown missing ends

pub call_into-requires-clause-depth : goal.call_into-requires-clause-depth
call_into-requires-clause-depth c =
    let same : c.deref.result.now ≡ c.args.self.now.top.value = c.deref.ensures ∙ ap (λ (x : Stack). x.top.value) c.in_ok-frame.ensures.only in
    subst (λ (f : Frame). f.depth + 1 < 18446744073709551616) (sym same) c.requires.numbers.depth

pub call_into-requires-clause-there : goal.call_into-requires-clause-there
call_into-requires-clause-there c =
    let same : c.deref.result.now ≡ c.args.self.now.top.value = c.deref.ensures ∙ ap (λ (x : Stack). x.top.value) c.in_ok-frame.ensures.only in
    subst (λ (f : Frame). f.function.0 < length c.args.places.now.allocas) (sym same) (rw c.requires.text.fits.allocas c.requires.stands.there)

pub returns-clause-moves : goal.returns-clause-moves
returns-clause-moves c = ap (λ (x : Stack). x.moves) c.in_ok-push.ensures.only ∙ ap (λ (x : Stack). x.moves) c.in_ok-frame.ensures.only
