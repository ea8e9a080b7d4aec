-- Behind an instruction of a block the facts of its place hold on, and what it makes known with them.
use Rattle.std.proofs.Common.{◌≡◌, ◌≢◌, ◌∙◌, ℕ, suc, ◌<◌, pos, ◌≤ℤ◌, List, ◌++◌, Option, Some, inl, inr, refl, sym, ap, subst, arith}
use Rattle.std.specs.List.{All}
use Rattle.std.proofs.lemmas.Bool.{cases_eq}
use Rattle.std.proofs.lemmas.List.Elements.{All-append}
use Rattle.semantics.specs.Arithmetic.{compares}
use Rattle.semantics.specs.Frames.{Truth, Registers, Frame, Does, item_at, word_of}
use Rattle.linear.specs.Forms.{Holds, value}
use Rattle.linear.specs.Terms.{Combination}
use Rattle.linear_shown.specs.Shown.{AllHold}
use Rattle.linear.specs.declared.form.Fact.{Fact}
use Rattle.linear.proofs.Values.{value_same}
use Rattle.program.specs.declared.function.Program.{Program}
use Rattle.program.specs.declared.instruction.Instruction.{Instruction}
use Rattle.program.specs.declared.instruction.Instruction.TheVariants as instruction
use Rattle.program.specs.declared.instruction.Operand.{Operand}
use Rattle.program.specs.declared.instruction.Operand.TheVariants.{Number, Register}
use Rattle.ranges.specs.Sums.{facts_of}
use Rattle.ranges.specs.Truth.{operand_value}
use Rattle.ranges.specs.Learned.{learned}
use Rattle.ranges.specs.Places.{with_shows}
use Rattle.ranges.proofs.Truth.{facts_true}
use Rattle.laws_conditions.specs.rules.Costs.{numbers, Lacks}
use Rattle.semantics.specs.Written.{or_zero}
use Rattle.laws_conditions.specs.rules.Moves.{dest_of}
use Rattle.laws_phases.specs.facts.Known.{known_at_place, HoldsTest, KnownHold}
use Rattle.laws_phases.specs.facts.Owing.{IsOther, IsUntouched, LeavesKnown, AreFactsStable}
use Rattle.ranges.specs.Rules.{AreRangesRight}
use Rattle.laws_phases.proofs.facts.Effects.{IsLearned}
use Rattle.laws_phases.proofs.facts.Places.{StepAt, step_at, before, known_step, next_is, arrives}

-- registers that differ in this one alone
abbrev pub Others : Option ℕ → Registers → Registers → Type 0
Others dest r s = (x : ℕ) → dest ≢ Some x → s x ≡ r x

-- a form without the register keeps its value
kept_value : (dest : Option ℕ) (r s : Registers) (form : Combination) → Others dest r s → ((d : ℕ) → dest ≡ Some d → Lacks form d) → value (numbers r) form ≡ value (numbers s) form
kept_value dest r s form others lacks =
    value_same (numbers r) (numbers s) form
    (λ k t l. ap (λ o. or_zero (word_of o)) (sym (others _ (λ e. lacks _ e k t l refl))))

pub facts_stay : (dest : Option ℕ) (r s : Registers) (known : List Fact) → Others dest r s → ((d : ℕ) → dest ≡ Some d → All (λ fact. Lacks fact.form d) known) → AllHold (numbers r) known → AllHold (numbers s) known
facts_stay dest r s known others lacks all = λ k d l. subst (λ z. pos 0 ≤ℤ z) (kept_value dest r s _ others (λ e is. lacks e is k d l)) (all k d l)

-- and so does an operand
pub operand_stays : (dest : Option ℕ) (r s : Registers) (x : Operand) → Others dest r s → ((d : ℕ) → dest ≡ Some d → IsOther d x) → operand_value (numbers s) x ≡ operand_value (numbers r) x
operand_stays dest r s (Number z) others apart = refl
operand_stays dest r s (Register x) others apart = ap (λ o. or_zero (word_of o)) (others x.0 (λ e. apart x.0 e refl))

test_stays : (dest : Option ℕ) (r s : Registers) (j : Instruction) → Others dest r s → ((d : ℕ) → dest ≡ Some d → IsUntouched d j) → HoldsTest r j → HoldsTest s j
test_stays dest r s (instruction.Binary d operator width x y) others apart h = tt
test_stays dest r s (instruction.Compare d predicate width x y) others apart h =
    others d.0 (λ e. (apart d.0 e).defines refl) ∙ h
    ∙ ap (λ n. Some (Truth (compares predicate width n (operand_value (numbers r) y)))) (sym (operand_stays dest r s x others (λ e is. (apart e is).reads.0)))
    ∙ ap (λ n. Some (Truth (compares predicate width (operand_value (numbers s) x) n))) (sym (operand_stays dest r s y others (λ e is. (apart e is).reads.1)))
test_stays dest r s (instruction.Convert d conversion x) others apart h = tt
test_stays dest r s (instruction.Alloca d alloca) others apart h = tt
test_stays dest r s (instruction.ElementPointer d object index) others apart h = tt
test_stays dest r s (instruction.Load d address) others apart h = tt
test_stays dest r s (instruction.Store x address) others apart h = tt
test_stays dest r s (instruction.StoreZeros cells object) others apart h = tt
test_stays dest r s (instruction.AtomicAdd address x) others apart h = tt
test_stays dest r s (instruction.Call d callee arguments) others apart h = tt
test_stays dest r s (instruction.StartRegion d) others apart h = tt

module _ (prog : Program) (right : AreRangesRight prog) (stable : AreFactsStable prog) where
  -- what holds behind an instruction
  pub record HoldsBehind (f : Frame) (s : Registers) : Type 0 where
    pub facts : AllHold (numbers s) (known_at_place prog f.function f.block (suc f.index))
    pub tests : (k : ℕ) (j : Instruction) → k < suc f.index → item_at prog f.function f.block k ≡ Some (Does j) → HoldsTest s j

  pub holds_behind : (f : Frame) (i : Instruction) (s : Registers) → KnownHold prog f → item_at prog f.function f.block f.index ≡ Some (Does i) → Others (dest_of i) f.registers s →
      IsLearned prog.functions (known_at_place prog f.function f.block f.index) i s → HoldsBehind f s
  holds_behind f i s good at others learns =
      let place : StepAt prog f.function f.block f.index i = step_at prog f.function f.block f.index i at in
      let steady : (d : ℕ) → dest_of i ≡ Some d → LeavesKnown prog f.function f.block f.index i d = λ d is. stable.steps f.function f.block f.index i d at is in
      let known : List Fact = known_at_place prog f.function f.block f.index in
      let old : AllHold (numbers s) known = facts_stay (dest_of i) f.registers s known others (λ d is. (steady d is).known) good.facts in
      let new : AllHold (numbers s) (known ++ facts_of (learned prog.functions known i)) =
      All-append (λ (g : Fact). Holds (numbers s) g.form) known (facts_of (learned prog.functions known i)) old (facts_true (learned prog.functions known i) (numbers s) learns.sums) in
      let same : known ≡ with_shows (before prog f.function f.block place.of f.index) place.step.shows = known_step prog f.function f.block place.of f.index place.step place.at_step in
      let next : before prog f.function f.block place.of (suc f.index) ≡ known ++ facts_of (learned prog.functions known i) =
      next_is prog.functions _ place.of.block.steps f.index place.step place.at_step
      ∙ ap (λ ks. ks ++ facts_of (learned prog.functions ks place.step.instruction)) (sym same)
      ∙ ap (λ j. known ++ facts_of (learned prog.functions known j)) place.is in
      record {
        facts = arrives prog right f.function f.block place.of (numbers s) (suc f.index) (subst (AllHold (numbers s)) (sym next) new);
        tests = λ k j l there. elim (cases_eq k f.index) [
          | inl e ↦
              let here : item_at prog f.function f.block f.index ≡ Some (Does j) = subst (λ n. item_at prog f.function f.block n ≡ Some (Does j)) e there in
              let is : i ≡ j = (let both : Some (Does i) ≡ Some (Does j) = sym at ∙ here in cc) in
              subst (HoldsTest s) is learns.test
          | inr apart ↦
              let earlier : k < f.index = omega (arith, l, apart) in
              test_stays (dest_of i) f.registers s j others (λ d is. (steady d is).earlier k j earlier there) (good.tests k j earlier there)
        ];
      }
