-- What a strand did is so many steps of its worker, and a worker's frame that was loaded fits.
use Rattle.std.proofs.Common.{◌≡◌, ◌∙◌, ℕ, ℤ, length, Some, None, true, false, Bool, refl, sym, ap, subst}
use Rattle.std.specs.Prelude.{Result, Ok, Err, OnErr}
use Rattle.std.proofs.Math.Logic.{∥∥₁_map}
use Rattle.lists.specs.declared.memory.OutOfMemory.{OutOfMemory}
use Rattle.program.specs.declared.function.Program.{Program}
use Rattle.cactus.specs.declared.node.Node.{Node}
use Rattle.cactus.specs.Frames.{node_at}
use Rattle.schedule_commit.specs.frame_strand.Standing.{IsCopy}
use Rattle.frame_engine.specs.declared.activation.Places.{Places}
use Rattle.schedule_workers.specs.declared.activation.Activation.{Activation}
use Rattle.schedule_workers.specs.declared.run.Run.{Run}
use Rattle.schedule_workers.specs.Follows.{Follows}
use Rattle.schedule_workers.specs.Lent.{IsPartFor}
use Rattle.schedule_workers.specs.Scheduling.{hand_of}
use Rattle.schedule_commit.specs.strand.strand_pages.Tables.{log_of}
use Rattle.laws_strands.specs.stacks.Law.{absorbed}
use Rattle.schedule_commit.specs.strand.Along.{IsUnderWay}
use Rattle.schedule_commit.specs.strand.declared.strand.Strand.{Strand}
use Rattle.schedule_commit.specs.strands.Absorbing.{DoesStrand, LeavesStallsByStrand, StandsForStrands}
use Rattle.schedule_commit.specs.strands.Fitting.{HasNoChild, segment_block}
use Rattle.schedule_core.specs.declared.stage.Stage.{Stage}
use Rattle.schedule_core.specs.Strands.{IsBegun}
use Rattle.schedule_core.specs.Replaying.{IsMachine, state_after}
use Rattle.schedule_core.specs.Stages.{program_of, workers_of}
use Rattle.schedule_core.specs.FrameStrands.{TakesSteps}
use Rattle.schedule_core.proofs.Bases.{loads_here, orderly_here}
use Rattle.schedule_core.proofs.Commits.{absorbed_machine, same_places, takes_steps}
use Rattle.schedule_core.proofs.Loads.{copy_back}
use Rattle.schedule_core.proofs.Replaying.{with_run}

pub stands_for_strands : (stage : Stage) → ∥ IsMachine stage ∥₁ → ∥ StandsForStrands (program_of stage) stage.places stage.run ∥₁
stands_for_strands stage kept =
    ∥∥₁_map kept (λ k.
    let m = state_after (program_of stage) k.arguments stage.memory (workers_of stage) k.events in
    let s = k.replays.state in
    record { machine = m; shown = s.shown; safe = s.well.safe; orderly = orderly_here stage m s; loads = loads_here stage m s })

-- ---- a strand's steps

pub takes_strand : (old : Stage) (k : Run) → length k.hands.items ≡ length old.run.hands.items → (w : ℕ) (x : Strand) → ∥ DoesStrand (program_of old) old.places old.run k w x ∥₁ →
    LeavesStallsByStrand (program_of old) old.places old.run k w x → TakesSteps old (with_run old k) w x.done
takes_strand old k many w x does stalls =
    takes_steps old k many w x.done
    (λ m s. ∥∥₁_map does (λ d. let a = d m s.shown s.well.safe (orderly_here old m s) (loads_here old m s) in (absorbed m w a.strand, a.steps, a.shown)))
    (λ m s. stalls m s.shown s.well.safe (orderly_here old m s) (loads_here old m s))

-- the same, where program and places are known by other names
pub takes_strand_of : (old : Stage) (k : Run) → length k.hands.items ≡ length old.run.hands.items → (w : ℕ) (x : Strand) →
    (q : Program) (p : Places) → q ≡ program_of old → p ≡ old.places → ∥ DoesStrand q p old.run k w x ∥₁ →
    LeavesStallsByStrand q p old.run k w x → TakesSteps old (with_run old k) w x.done
takes_strand_of old k many w x q p is at does stalls =
    takes_strand old k many w x
    (subst (λ (r : Program). ∥ DoesStrand r old.places old.run k w x ∥₁) is
    (subst (λ (s : Places). ∥ DoesStrand q s old.run k w x ∥₁) at does))
    (subst (λ (r : Program). LeavesStallsByStrand r old.places old.run k w x) is
    (subst (λ (s : Places). LeavesStallsByStrand q s old.run k w x) at stalls))

-- ---- a stage stays a machine

module _ (old : Stage) (k : Run) (many : length k.hands.items ≡ length old.run.hands.items) (moves : length k.moves.items ≡ length old.run.moves.items) (follows : Follows old.run.cactus k.cactus) (w n : ℕ) where
  pub same_taking : (r : Result Bool OutOfMemory) → OnErr r (k ≡ old.run) → OnErr r (with_run old k ≡ old)
  same_taking (Err e) same = ap (with_run old) same
  same_taking (Ok done) same = tt

  pub machine_taking : (r : Result Bool OutOfMemory) → OnErr r (k ≡ old.run) → (r ≡ Ok true → TakesSteps old (with_run old k) w n) → (r ≡ Ok false → k ≡ old.run) → ∥ IsMachine old ∥₁ → ∥ IsMachine (with_run old k) ∥₁
  machine_taking (Err e) same does left kept = subst (λ (y : Run). ∥ IsMachine (with_run old y) ∥₁) (sym same) kept
  machine_taking (Ok true) same does left kept = ∥∥₁_map kept (absorbed_machine old k many moves follows w n (does refl))
  machine_taking (Ok false) same does left kept = subst (λ (y : Run). ∥ IsMachine (with_run old y) ∥₁) (sym (left refl)) kept

-- ---- a frame that is loaded

module _ (stage : Stage) (kept : ∥ IsMachine stage ∥₁) (worker slot : ℕ) (node : Node Activation) (x : Strand) (hand : hand_of stage.run.hands.items worker ≡ Some slot) (stands : node_at stage.run.cactus slot ≡ Some node) where
  pub is_begun : x.base.path.items ≡ node.path.numbers → IsCopy node.frame.frame x.base.frame → (x.base.childless ≡ true → HasNoChild node.frame) → (HasNoChild node.frame → x.base.childless ≡ true) → x.done ≡ 0 → ((a : ℤ) → (log_of x.cells.log).reads a ≡ None) →
      IsPartFor (program_of stage) stage.run worker (segment_block x.cells) → ∥ IsUnderWay (program_of stage) stage.places x ∥₁ → IsBegun stage worker x
  is_begun path copy childless none done reads part way = record {
    way = λ places are. subst (λ (q : Places). ∥ IsUnderWay (program_of stage) q x ∥₁) (sym (same_places stage kept places are)) way;
    fits = (
      slot,
      record {
        node = node;
        hand = hand;
        stands = stands;
        path = sym path;
        frame = copy_back node.frame.frame x.base.frame copy;
        childless = childless;
        reads = λ a v read. absurd (let none : None ≡ Some v = sym (reads a) ∙ read in cc);
        free = part.free;
      },
    );
    childless = none;
    part = part;
    done = done;
    reads = reads;
  }
