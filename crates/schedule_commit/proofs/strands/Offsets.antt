-- A function's allocas begin, counted from their frame's home, where the layouts of stacks have them.
use Rattle.std.proofs.Common.{◌≡◌, ◌∙◌, ◌+◌, ◌<◌, ◌%◌, ℕ, zero, suc, List, [], ◌∷◌, length, cond, Bool, true, false, Option, Some, None, refl, sym, ap, arith, ℤ, pos}
use Rattle.std.specs.Prelude.{nat_lt, slice_get, sum}
use Rattle.std.proofs.Math.Nat.{mod-eq_of_lt}
use Rattle.std.proofs.lemmas.Bool.{lt-ltb, ltb-true}
use Rattle.semantics.specs.Frames.{Body, Child, Frame, Role, cells_of}
use Rattle.program.specs.declared.identifier.ObjectName.TheVariants as object
use Rattle.program.specs.declared.function.Function.{Function}
use Rattle.program.specs.declared.function.Program.{Program}
use Rattle.frame_engine.specs.declared.activation.Places.{Places}
use Rattle.frame_engine.specs.Activation.{allocas_of}
use Rattle.frame_engine.specs.Starts.{starts_from}
use Rattle.strand.specs.serial_stack.Layouts.{alloca_sizes, allocas_in, for_body, offset_in, start_in}
use Rattle.strand.proofs.Living.{alloca_cells as text_cells}
use Rattle.schedule_workers.specs.Going.{TextFits}
use Rattle.schedule_workers.specs.Layouts.{alloca_cells, number_in, own_cells}
use Rattle.schedule_workers.specs.RunShown.{cells_in}
use Rattle.schedule_workers.proofs.Rows.{cells_are, sizes_of, small_number, starts_are, sum_more}

sizes_same : (o : Option Function) → sizes_of o ≡ allocas_in o
sizes_same None = refl
sizes_same (Some f) = refl

pub cells_sum : (prog : Program) (function : ℕ) → cells_in (slice_get prog.functions function) ≡ sum (alloca_sizes prog function)
cells_sum prog function = cells_are (slice_get prog.functions function) ∙ ap (λ (xs : List ℕ). sum xs) (sizes_same (slice_get prog.functions function))

-- the cells of a frame's allocas are those that the text has
own_is : (r : Role) (n : ℕ) → own_cells r n ≡ for_body r n 0
own_is Body n = refl
own_is (Child region continuation) n = refl

pub cells_by_text : (prog : Program) (o : Option Frame) (a : ℕ) → alloca_cells prog o a ≡ text_cells prog o a
cells_by_text prog None a = refl
cells_by_text prog (Some f) a = own_is f.role (cells_of prog f.function (object.Alloca (record { 0 = a })))

there : (sizes : List ℕ) (at n : ℕ) → at + sum sizes < 9223372036854775808 → n < length sizes → number_in (starts_from at sizes) n ≡ pos (at + start_in sizes n)
there [] at n low h = absurd (omega (arith, h))
there (c ∷ cs) at zero low h =
    let small : at < 9223372036854775808 = omega (arith, low) in
    let same : at ≡ at + 0 = omega arith in
    small_number at small ∙ ap (λ (x : ℕ). pos x) same
there (c ∷ cs) at (suc n) low h =
    let s = sum_more c cs in
    let less : at + c + sum cs < 9223372036854775808 = omega (arith, low, s) in
    let small : at + c < 18446744073709551616 = omega (arith, less) in
    let same : at + c + start_in cs n ≡ at + (c + start_in cs n) = omega arith in
    ap (λ (x : ℕ). number_in (starts_from x cs) n) (mod-eq_of_lt small) ∙ there cs (at + c) n less (omega (arith, h)) ∙ ap (λ (x : ℕ). pos x) same

past : (sizes : List ℕ) (at n : ℕ) → (n < length sizes → ⊥) → number_in (starts_from at sizes) n ≡ pos 0
past [] at n out = refl
past (c ∷ cs) at zero out = absurd (out (omega arith))
past (c ∷ cs) at (suc n) out = past cs ((at + c) % 18446744073709551616) n (λ h. out (omega (arith, h)))

number_of : (sizes : List ℕ) (n : ℕ) → sum sizes < 9223372036854775808 → number_in (starts_from 0 sizes) n ≡ pos (offset_in sizes n)
number_of sizes n small = from (nat_lt n (length sizes)) refl
  where
    from : (b : Bool) → nat_lt n (length sizes) ≡ b → number_in (starts_from 0 sizes) n ≡ pos (cond b (start_in sizes n) 0)
    from true is =
        let none_more : 0 + start_in sizes n ≡ start_in sizes n = omega arith in
        there sizes 0 n (omega (arith, small)) (ltb-true n (length sizes) is) ∙ ap (λ (x : ℕ). pos x) none_more
    from false is = past sizes 0 n (λ h. let both : true ≡ false = sym (lt-ltb n (length sizes) h) ∙ is in cc)

pub offset_number : (prog : Program) (places : Places) (moves : ℕ) → TextFits prog places moves → (function a : ℕ) → sum (alloca_sizes prog function) < 9223372036854775808 →
    number_in (allocas_of places function) a ≡ pos (offset_in (alloca_sizes prog function) a)
offset_number prog places moves text function a small =
    ap (λ (xs : List ℤ). number_in xs a) (starts_are prog places function text.allocas ∙ ap (starts_from 0) (sizes_same (slice_get prog.functions function))) ∙
    number_of (alloca_sizes prog function) a small
