-- Kinds are kept by every step of every frame.
use Rattle.std.proofs.Common.{◌≡◌, ◌∙◌, ℕ, List, Option, Some, None, refl, sym, ap, subst, slice_get, ℤ}
use Rattle.semantics.specs.Paths.{Path}
use Rattle.semantics.specs.Cells.{Memory}
use Rattle.semantics.specs.Frames.{Value, Registers, OnCall, Frame}
use Rattle.semantics.specs.Effect.{Effect, Action, Plain, Sync, instruction_action, item_action, action_of}
use Rattle.semantics.specs.State.{went, detached, continued, synced, called, waiting, resumed}
use Rattle.semantics.proofs.Diamond.{no_call_after}
use Rattle.laws_conditions.specs.theorem.SerialConditions.{Says, Nothing, KeptSerially}
use Rattle.linear.specs.declared.form.RegisterId.{RegisterId}
use Rattle.program.specs.declared.function.Function.{Function}
use Rattle.program.specs.declared.function.Program.{Program}
use Rattle.program.specs.declared.instruction.Instruction.TheVariants as instruction
use Rattle.program.specs.Heads.{parameters_in}
use Rattle.laws_conditions.specs.rules.InProofs.{Moves, is_next, is_along}
use Rattle.laws_conditions.specs.rules.Moves.{Calls}
use Rattle.laws_conditions.proofs.rules.Moves.{moves, syncs_along, calls_here}
use Rattle.laws_phases.specs.defined.Placed.{NoFinds}
use Rattle.laws_phases.specs.facts.Owing.{IsTyped}
use Rattle.laws_schedule.specs.typing.Kinds.{IsResult, HasKinds}
use Rattle.laws_schedule.specs.zones.ByPhases.{IsKeptBySteps}
use Rattle.laws_schedule.specs.kinds.Holding.{HoldKinds, HasKindedRegisters, Kinded}
use Rattle.laws_schedule.specs.kinds.Kept.{KindsAreKept, KindsAreKeptSerially, StartsKinded}
use Rattle.laws_schedule.proofs.kinds.Registers.{OfAction, by_instruction, along_holds, passed_hold, resulted, numbers_hold}
use Rattle.laws_schedule.proofs.Waits.{free_never, region_never, same_call}

module _ (prog : Program) (typed : IsTyped prog) (kinds : HasKinds prog) where
  -- ---- plain instructions

  plain_holds : (p : Path) (f : Frame) (m : Memory) (e : Effect) (function : Function) → slice_get prog.functions f.function ≡ Some function → HoldKinds function.registers f.registers → action_of prog p f m ≡ Plain e → Moves prog f e → HoldKinds function.registers e.registers
  plain_holds p f m e function at holds act (is_next i there on) =
      let acts : instruction_action prog p f m i ≡ Plain e = sym (ap (item_action prog p f m) there) ∙ act in
      let P : Action → Type 0 = λ a. OfAction function.registers f holds a in
      subst P acts (by_instruction function.registers f holds prog p m i (kinds.steps f.function f.block f.index i function there at))
  plain_holds p f m e function at holds act (is_along t there to on) = along_holds prog kinds f function e.block e.registers at holds on.along

  pub plain_kinded : (p : Path) (f : Frame) (m : Memory) (e : Effect) → HasKindedRegisters prog f → action_of prog p f m ≡ Plain e → e.trap ≡ None → HasKindedRegisters prog (went f e)
  plain_kinded p f m e good act fine = record {
    holds = λ function at. plain_holds p f m e function at (good.holds function at) act (moves prog p f m e act fine);
    awaits = λ function at k d w. absurd (no_call_after e.trap k d w);
  }

  -- ---- frames with the same registers

  pub child_kinded : (f : Frame) (region body next : ℕ) → HasKindedRegisters prog f → HasKindedRegisters prog (detached f region body next)
  child_kinded f region body next good = record { holds = good.holds; awaits = λ function at k d w. absurd (free_never k d w) }

  pub continued_kinded : (f : Frame) (next : ℕ) → HasKindedRegisters prog f → HasKindedRegisters prog (continued f next)
  continued_kinded f next good = record { holds = good.holds; awaits = λ function at k d w. absurd (free_never k d w) }

  pub synced_kinded : (p : Path) (f : Frame) (m : Memory) (region block : ℕ) (rs : Registers) → HasKindedRegisters prog f → action_of prog p f m ≡ Sync region block rs → HasKindedRegisters prog (synced f region block rs)
  synced_kinded p f m region block rs good act = record {
    holds = λ function at. along_holds prog kinds f function block rs at (good.holds function at) (syncs_along prog p f m region block rs act);
    awaits = λ function at k d w. absurd (region_never region k d w);
  }

  -- ---- calls

  module _ (p : Path) (f : Frame) (d : Option RegisterId) (callee : ℕ) (vs : List Value) (call : Calls prog f d callee vs) where
    callee_holds : (function : Function) → slice_get prog.functions callee ≡ Some function → HoldKinds function.registers (slice_get vs)
    callee_holds function at =
        let there : slice_get prog.functions call.function.0 ≡ Some function = ap (λ n. slice_get prog.functions n) call.number ∙ at in
        passed_hold f function call.arguments vs (typed.arguments f.function f.block f.index d call.function call.arguments call.is ∙ ap parameters_in there) call.values_are
        (λ i one has. kinds.parameters callee i function one at has)
        (λ i one wanted given has. kinds.passes f.function f.block f.index i d call.function call.arguments function one wanted call.is given there has)

    pub callee_kinded : HasKindedRegisters prog (called p f callee vs)
    callee_kinded = record { holds = callee_holds; awaits = λ function at k e w. absurd (free_never k e w) }

    result_kind : (function : Function) → slice_get prog.functions f.function ≡ Some function → IsResult function.registers d
    result_kind function at = (kinds.steps f.function f.block f.index (instruction.Call d call.function call.arguments) function call.is at).0

    pub waiting_kinded : HasKindedRegisters prog f → HasKindedRegisters prog (waiting f d)
    waiting_kinded good = record {
      holds = good.holds;
      awaits = λ function at k e w. (let P : Option RegisterId → Type 0 = λ x. IsResult function.registers x in subst P (same_call f.made k d e w) (result_kind function at));
    }

  pub resumed_kinded : (f : Frame) (k : ℕ) (d : Option RegisterId) (result : Option ℤ) → HasKindedRegisters prog f → f.waits ≡ OnCall k d → HasKindedRegisters prog (resumed f d result)
  resumed_kinded f k d result good w = record {
    holds = λ function at. resulted function.registers f.registers d result (good.holds function at) (good.awaits function at k d w);
    awaits = λ function at j e v. absurd (free_never j e v);
  }

  -- ---- the laws

  pub kinds_kept : IsKeptBySteps prog (λ p f. HasKindedRegisters prog f)
  kinds_kept = record {
    plain = λ p f m e good going act fine. plain_kinded p f m e good act fine;
    child = λ p f m region body next good going act. child_kinded f region body next good;
    continues = λ p f m region body next good going act. continued_kinded f next good;
    syncs = λ p f m region block rs good going act. synced_kinded p f m region block rs good act;
    callee = λ p f m d callee vs good going act. callee_kinded p f d callee vs (calls_here prog p f m d callee vs act);
    waits = λ p f m d callee vs good going act. waiting_kinded p f d callee vs (calls_here prog p f m d callee vs act) good;
    resumes = λ p f k d result good w. resumed_kinded f k d result good w;
  }

  pub kinds_kept_serially : (base : Says) → KeptSerially prog base (Kinded prog) NoFinds
  kinds_kept_serially base = record {
    plain_kept = λ p f m e b good act fine nb. record { next = plain_kinded p f m e good act fine; finds = λ o h. tt };
    sync_kept = λ p f m region block rs b good act nb. record { next = synced_kinded p f m region block rs good act; finds = λ o h. tt };
    child_kept = λ p f m region body next b good act nb. child_kinded f region body next good;
    continued_kept = λ p f m region body next b good act nc o gone h nb. record { next = continued_kinded f next good; finds = λ u k. tt };
    callee_kept = λ p f m d callee vs b good act nb. callee_kinded p f d callee vs (calls_here prog p f m d callee vs act);
    resumed_kept = λ p f m d callee vs b good act nc o result gave h nb. record {
      next = resumed_kinded (waiting f d) f.made d result (waiting_kinded p f d callee vs (calls_here prog p f m d callee vs act) good) refl;
      finds = λ u k. tt;
    };
    reattach_finds = λ p f m region b good act. tt;
    return_finds = λ p f m result b good act. tt;
  }

pub kinds_are_kept : KindsAreKept
kinds_are_kept prog typed kinds = kinds_kept prog typed kinds

pub kinds_are_kept_serially : KindsAreKeptSerially
kinds_are_kept_serially prog typed kinds = kinds_kept_serially prog typed kinds Nothing

pub starts_kinded : StartsKinded
starts_kinded prog kinds numbers arguments many = record {
  holds = λ function at. numbers_hold function arguments (many ∙ ap parameters_in at) (numbers function at) (λ i one has. kinds.parameters prog.main.0 i function one at has);
  awaits = λ function at k d w. absurd (free_never k d w);
}
