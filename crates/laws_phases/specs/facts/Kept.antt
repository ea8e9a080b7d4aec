-- The law: facts that hold are kept along the serial run, and what a function's `ensures` say holds of what it returns.
use Rattle.std.specs.Prelude.{◌≡◌, ℕ, Option, Some, None, Bool, true, is_some, All, slice_get, length, ℤ, if◌then◌else◌}
use Rattle.std.specs.Prelude.{◌==◌}
use Rattle.semantics.specs.Paths.{Path}
use Rattle.semantics.specs.Cells.{Memory}
use Rattle.semantics.specs.Written.{or_zero}
use Rattle.semantics.specs.Frames.{Registers, Frame}
use Rattle.semantics.specs.SerialMeaning.{Gave}
use Rattle.laws_conditions.specs.theorem.SerialConditions.{Says, Finds, KeptSerially}
use Rattle.program.specs.declared.function.Function.{Function}
use Rattle.program.specs.declared.function.Program.{Program}
use Rattle.ranges.specs.Rules.{AreRangesRight}
use Rattle.laws_conditions.specs.rules.Costs.{numbers}
use Rattle.laws_conditions.specs.rules.Registers.{returns_number}
use Rattle.laws_phases.specs.facts.Known.{IsMet, KnownHold}
use Rattle.laws_phases.specs.facts.Owing.{IsTyped, AreFactsStable, HasWidths}

-- a function's registers as its `ensures` read them: the one behind the last is the result
abbrev pub with_returned : Function → (ℕ → ℤ) → Option ℤ → ℕ → ℤ
with_returned function v returned r = if r == length function.registers then or_zero returned else v r

abbrev pub AreEnsured : Option Function → Registers → Option ℤ → Type 0
AreEnsured None r returned = Unit {0}
AreEnsured (Some function) r returned = All (IsMet (with_returned function (numbers r) returned)) function.guarantees

-- what a function returns: a number where it gives one, of which the `ensures` are true
pub record IsEnsured (prog : Program) (f : Frame) (returned : Option ℤ) : Type 0 where
  pub number : returns_number prog f.function ≡ true → is_some returned ≡ true
  pub holds : AreEnsured (slice_get prog.functions f.function) f.registers returned

abbrev pub Knows : Program → Says
Knows prog p f m = KnownHold prog f

abbrev pub Ensures : Program → Finds
Ensures prog p f m o = (returned : Option ℤ) → o.ending ≡ Gave returned → IsEnsured prog f returned

-- for conditions that are given by tests
abbrev pub FactsKept : Type 0
FactsKept =
    (prog : Program) (base : Path → Frame → Memory → Bool) → AreRangesRight prog → IsTyped prog → AreFactsStable prog →
    ((p : Path) (f : Frame) (m : Memory) → base p f m ≡ true → HasWidths prog f) →
    KeptSerially prog (λ p f m. base p f m ≡ true) (Knows prog) (Ensures prog)
