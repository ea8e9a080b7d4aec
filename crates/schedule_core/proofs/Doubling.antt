-- A machine's copy stands as the machine does.
use Rattle.std.proofs.Common.{◌≡◌, ◌∙◌, ◌≤◌, ℕ, List, Option, length, map, sym, ap, subst, ℤ}
use Rattle.std.proofs.Math.Logic.{∥∥₁_elim, ∥∥₁_map}
use Rattle.std.proofs.Props.{props}
use Rattle.std.proofs.Math.Nat.{ℕ_set}
use Rattle.std.proofs.Math.IntN.{ℤ_set}
use mathlib.Core.Sum.{⊎_set}
use Rattle.semantics.specs.Events.{Machine}
use Rattle.serial_machine.specs.store.Cells.{NamedCells}
use Rattle.frame_engine.specs.declared.activation.Places.{Places}
use Rattle.schedule_workers.specs.Copying.{IsCopy}
use Rattle.frame_engine.specs.Fits.{HasMoves}
use Rattle.schedule_workers.specs.Starts.{ArePlaces}
use Rattle.schedule_workers.specs.Stalls.{last_blocks, no_blocks}
use Rattle.schedule_workers.specs.declared.run.Run.{Run}
use Rattle.schedule_core.specs.declared.stage.Stage.{Stage}
use Rattle.schedule_core.specs.Replaying.{IsMachine, Replays, ReplaysTheSame, StandsAsWell, event_of, first_state, state_after}
use Rattle.schedule_core.specs.Stages.{GoesWell, IsReached, IsState, program_of, workers_of}
use Rattle.schedule_core.proofs.Replaying.{with_run}
use Rattle.schedule_core.proofs.Spots.{spots_kept}

module _ (stage : Stage) (copy : Run) (c : IsCopy stage.run copy) where
  many : length copy.hands.items ≡ length stage.run.hands.items
  many = ap (λ (l : List (Option ℕ)). length l) c.holds.hands

  state_copied : (m : Machine) → IsState stage m → IsState (with_run stage copy) m
  state_copied m s = record {
    shown = c.shown (program_of stage) stage.places m s.shown;
    manned = subst (λ n. 1 ≤ n) (sym many) s.manned;
    reached = subst (λ n. IsReached (program_of stage) n m) (sym many) s.reached;
    well = subst (λ n. GoesWell (program_of stage) n m) (sym many) s.well;
  }

  replays_copied : ReplaysTheSame stage (with_run stage copy)
  replays_copied prog arguments globals workers events r = record {
    program = r.program;
    as_many = many ∙ r.as_many;
    globals_are = r.globals_are;
    state = state_copied (state_after prog arguments globals workers events) r.state;
    stalls = c.stalls (last_blocks prog workers (map event_of events) (first_state prog arguments globals) no_blocks) r.stalls;
  }

  machine_copied : IsMachine stage → IsMachine (with_run stage copy)
  machine_copied m = record {
    accepted = m.accepted;
    moves = subst (λ n. HasMoves (program_of stage) n) (sym (ap (λ (l : List ℤ). length l) c.holds.moves)) m.moves;
    places = m.places;
    made = m.made;
    small = m.small;
    given = c.given m.given;
    arguments = m.arguments;
    taken = m.taken;
    events = m.events;
    replays =
        subst (λ n. Replays (program_of stage) m.arguments stage.memory n m.events (with_run stage copy)) (sym many)
        (replays_copied (program_of stage) m.arguments stage.memory (workers_of stage) m.events m.replays);
  }

-- with places and memory of its own
module _ (stage : Stage) (kept : ∥ IsMachine stage ∥₁) (copy : Run) (c : IsCopy stage.run copy) (places : Places) (at : ArePlaces (program_of stage) places) (memory : List NamedCells) (same : memory ≡ stage.memory) where
  abbrev other : Stage
  other = record { verified = stage.verified; places = places; memory = memory; run = copy }

  same_globals : stage.places.globals ≡ places.globals
  same_globals = ∥∥₁_elim kept (Prim.hlevel (props, ⊎_set, ℕ_set, ℤ_set)) (λ m. m.places.globals ∙ sym at.globals)

  same_allocas : stage.places.allocas ≡ places.allocas
  same_allocas = ∥∥₁_elim kept (Prim.hlevel (props, ⊎_set, ℕ_set, ℤ_set)) (λ m. m.places.allocas ∙ sym at.allocas)

  same_stage : with_run stage copy ≡ other
  same_stage =
      (λ j. record {
        verified = stage.verified;
        places = record { globals = same_globals j; allocas = same_allocas j };
        memory = sym same j;
        run = copy;
      })

  pub machine_doubled : ∥ IsMachine other ∥₁
  machine_doubled = ∥∥₁_map kept (λ m. subst IsMachine same_stage (machine_copied stage copy c m))

  pub doubled : StandsAsWell stage other
  doubled = record {
    state = λ m s. subst (λ (x : Stage). IsState x m) same_stage (state_copied stage copy c m s);
    replays = λ prog arguments globals workers events r.
        subst (λ (x : Stage). Replays prog arguments globals workers events x) same_stage (replays_copied stage copy c prog arguments globals workers events r);
    spots = spots_kept stage other kept machine_doubled c.follows;
    globals = same;
  }
