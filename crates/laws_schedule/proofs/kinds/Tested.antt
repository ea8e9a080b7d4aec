-- The test of a frame says just that its registers hold values of their kinds.
use Rattle.std.proofs.Common.{◌≡◌, ℕ, zero, suc, ◌+◌, List, [], ◌∷◌, Option, Some, None, true, refl, subst, arith, slice_get}
use Rattle.std.proofs.lemmas.Bool.{and_parts, and_from}
use Rattle.semantics.specs.Frames.{Registers, Wait, Free, OnRegion, OnCall, Halted, Frame}
use Rattle.linear.specs.declared.form.RegisterId.{RegisterId}
use Rattle.syntax.specs.declared.operator.Width.TheVariants.{Bits64, Bits32}
use Rattle.program.specs.declared.function.Function.{Function}
use Rattle.program.specs.declared.function.Program.{Program}
use Rattle.program.specs.declared.function.RegisterKind.{RegisterKind}
use Rattle.program.specs.declared.function.RegisterKind.TheVariants as kind
use Rattle.laws_schedule.specs.typing.Kinds.{IsResult}
use Rattle.laws_schedule.specs.kinds.Holding.{holds_kind, HasKindedRegisters, hold_kinds, is_wide_number, is_result, awaits_number, is_kinded_in, is_kinded}
use Rattle.laws_schedule.specs.kinds.Kept.{KindsAreTested}

-- ---- registers

all_hold : (kinds : List RegisterKind) (from : ℕ) (r : Registers) → hold_kinds from kinds r ≡ true → (i : ℕ) (k : RegisterKind) → slice_get kinds i ≡ Some k → holds_kind k (r (from + i)) ≡ true
all_hold [] from r e i k at = absurd (cc)
all_hold (x ∷ kinds) from r e zero k at =
    let same : x ≡ k = cc in
    let here : holds_kind x (r from) ≡ true = (and_parts (holds_kind x (r from)) (hold_kinds (suc from) kinds r) e).0 in
    let n : from ≡ from + 0 = omega arith in
    subst (λ j. holds_kind k (r j) ≡ true) n (subst (λ (y : RegisterKind). holds_kind y (r from) ≡ true) same here)
all_hold (x ∷ kinds) from r e (suc i) k at =
    let n : suc from + i ≡ from + suc i = omega arith in
    subst (λ j. holds_kind k (r j) ≡ true) n (all_hold kinds (suc from) r (and_parts (holds_kind x (r from)) (hold_kinds (suc from) kinds r) e).1 i k at)

all_tested : (kinds : List RegisterKind) (from : ℕ) (r : Registers) → ((i : ℕ) (k : RegisterKind) → slice_get kinds i ≡ Some k → holds_kind k (r (from + i)) ≡ true) → hold_kinds from kinds r ≡ true
all_tested [] from r each = refl
all_tested (x ∷ kinds) from r each =
    let n : from + 0 ≡ from = omega arith in
    and_from (holds_kind x (r from)) (hold_kinds (suc from) kinds r) (subst (λ j. holds_kind x (r j) ≡ true) n (each 0 x refl))
    (all_tested kinds (suc from) r (λ i k at. let m : from + suc i ≡ suc from + i = omega arith in subst (λ j. holds_kind k (r j) ≡ true) m (each (suc i) k at)))

-- ---- results

wide_is : (o : Option RegisterKind) → is_wide_number o ≡ true → o ≡ Some (kind.Number Bits64)
wide_is None e = absurd (cc)
wide_is (Some (kind.Number Bits64)) e = refl
wide_is (Some (kind.Number Bits32)) e = absurd (cc)
wide_is (Some kind.Truth) e = absurd (cc)
wide_is (Some kind.Object) e = absurd (cc)
wide_is (Some kind.Element) e = absurd (cc)
wide_is (Some kind.Region) e = absurd (cc)

result_is : (kinds : List RegisterKind) (d : Option RegisterId) → is_result kinds d ≡ true → IsResult kinds d
result_is kinds None e = tt
result_is kinds (Some d) e = wide_is (slice_get kinds d.0) e

result_tested : (kinds : List RegisterKind) (d : Option RegisterId) → IsResult kinds d → is_result kinds d ≡ true
result_tested kinds None is = refl
result_tested kinds (Some d) is = rw is refl

awaits_tested : (kinds : List RegisterKind) (w : Wait) → ((k : ℕ) (d : Option RegisterId) → w ≡ OnCall k d → IsResult kinds d) → awaits_number kinds w ≡ true
awaits_tested kinds Free h = refl
awaits_tested kinds (OnRegion r) h = refl
awaits_tested kinds (OnCall k d) h = result_tested kinds d (h k d refl)
awaits_tested kinds Halted h = refl

-- ---- the law

module _ (prog : Program) (f : Frame) where
  function_tested : is_kinded prog f ≡ true → (function : Function) → slice_get prog.functions f.function ≡ Some function → (hold_kinds 0 function.registers f.registers ≡ true) × (awaits_number function.registers f.waits ≡ true)
  function_tested e function at =
      let P : Option Function → Type 0 = λ o. is_kinded_in o f ≡ true in
      and_parts (hold_kinds 0 function.registers f.registers) (awaits_number function.registers f.waits) (subst P at e)

  sound : is_kinded prog f ≡ true → HasKindedRegisters prog f
  sound e = record {
    holds = λ function at r k has. (let n : 0 + r ≡ r = omega arith in subst (λ j. holds_kind k (f.registers j) ≡ true) n (all_hold function.registers 0 f.registers (function_tested e function at).0 r k has));
    awaits = λ function at k d w. result_is function.registers d (let P : Wait → Type 0 = λ x. awaits_number function.registers x ≡ true in subst P w (function_tested e function at).1);
  }

  complete : HasKindedRegisters prog f → is_kinded prog f ≡ true
  complete good = by (slice_get prog.functions f.function) refl
    where
      by : (o : Option Function) → slice_get prog.functions f.function ≡ o → is_kinded_in o f ≡ true
      by None is = refl
      by (Some function) is =
          and_from (hold_kinds 0 function.registers f.registers) (awaits_number function.registers f.waits)
          (all_tested function.registers 0 f.registers (λ i k at. let n : i ≡ 0 + i = omega arith in subst (λ j. holds_kind k (f.registers j) ≡ true) n (good.holds function is i k at))) (awaits_tested function.registers f.waits (good.awaits function is))

pub kinds_are_tested : KindsAreTested
kinds_are_tested prog f = record { sound = sound prog f; complete = complete prog f }
