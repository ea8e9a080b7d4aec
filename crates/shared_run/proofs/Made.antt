-- A strand stays one of its module.
use Rattle.std.proofs.Common.{◌≡◌, ◌∙◌, ◌≤◌, ℕ, arith, sym, subst}
use Rattle.std.specs.Prelude.{Result, Ok, Err, IfOk, vec_capacity}
use Rattle.schedule_workers.specs.Starts.{ArePlaces}
use Rattle.lists.specs.declared.memory.OutOfMemory.{OutOfMemory}
use Rattle.schedule_core.specs.FrameStrands.{HasRoomFor, IsMadeOf}
use Rattle.schedule_core.specs.frame_engine.declared.activation.Places.{Places}
use Rattle.schedule_core.specs.frame_strand.declared.outside.FrameStrand.{FrameStrand}
use Rattle.schedule_core.specs.verifier.Budgets.{IsDepthOf}
use Rattle.program.specs.declared.function.Program.{Program}

pub made_still : (program : Program) (x y : FrameStrand) → IsMadeOf program x → y.program.now ≡ x.program.now → y.places.now ≡ x.places.now →
    vec_capacity y.course.path ≡ vec_capacity x.course.path → IsMadeOf program y
made_still program x y made same places room = record {
  module_is = same ∙ made.module_is;
  places_are = subst (λ (p : Places). ArePlaces program p) (sym places) made.places_are;
  room = subst (λ (n : ℕ). ∥ HasRoomFor program n ∥₁) (sym room) made.room;
}

-- with room for as many numbers as the module's depth
pub made_new : (program : Program) (places : Places) (depth : ℕ) (r : Result FrameStrand OutOfMemory) → IsDepthOf program depth → ArePlaces program places →
    IfOk r (λ s. s.program.now ≡ program) → IfOk r (λ s. s.places.now ≡ places) → IfOk r (λ s. vec_capacity s.course.path ≡ depth) → IfOk r (IsMadeOf program)
made_new program places depth (Err refused) is at same beside room = tt
made_new program places depth (Ok s) is at same beside room = record {
  module_is = same;
  places_are = subst (λ (p : Places). ArePlaces program p) (sym beside) at;
  room = ∣ record { depth = depth; is_depth = is; within = subst (λ (n : ℕ). depth ≤ n) (sym room) (omega arith) } ∣₁;
}
