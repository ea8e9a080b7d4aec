-- A worker's frame of a stage may be the base of a strand.
use Rattle.std.proofs.Common.{◌≡◌, ◌∙◌, ℕ, ◌+◌, ◌<◌, [], length, Some, Bool, true, sym, arith}
use Rattle.std.proofs.Math.Logic.{∥∥₁_map}
use Rattle.semantics.specs.Events.{Machine}
use Rattle.semantics.proofs.ChildCounts.{count_at, counted_none}
use Rattle.cactus.specs.declared.node.Node.{Node}
use Rattle.cactus.specs.Frames.{node_at}
use Rattle.schedule_workers.specs.declared.activation.Activation.{Activation}
use Rattle.schedule_workers.specs.declared.run.Block.{Block}
use Rattle.schedule_workers.specs.Layouts.{layout_of, living, object_at}
use Rattle.schedule_workers.specs.Lent.{IsFree}
use Rattle.schedule_workers.specs.Scheduling.{counted_in, hand_of}
use Rattle.schedule_workers.specs.RunShown.{place_of}
use Rattle.schedule_workers.proofs.Lending.{free_outside, free_small}
use Rattle.schedule_workers.proofs.Onward.{seen}
use Rattle.laws_strands.specs.stacks.Law.{IsOrderly}
use Rattle.laws_strands.proofs.stacks.Reached.{orderly}
use Rattle.schedule_commit.specs.strand.Along.{IsLent, LoadsGoAsStrands, MayBegin}
use Rattle.schedule_commit.specs.strand.Layouts.{Segment}
use Rattle.schedule_core.proofs.laws_workers.strands.Loading.{loads_go_as_strands}
use Rattle.schedule_core.specs.declared.stage.Stage.{Stage}
use Rattle.schedule_core.specs.Replaying.{IsMachine, state_after}
use Rattle.schedule_core.specs.Stages.{IsState, program_of, workers_of}
use Rattle.schedule_core.proofs.Grounds.{laws}
use Rattle.schedule_core.proofs.Reached.{reached_manned}
use Rattle.schedule_core.proofs.Views.{hand_is}

module _ (stage : Stage) (m : Machine) (s : IsState stage m) where
  pub orderly_here : IsOrderly m
  orderly_here = orderly (workers_of stage) m (reached_manned (program_of stage) (workers_of stage) m s.manned s.reached s.shown.shows.trapped)

  few_done : m.core.done + 65538 < 18446744073709551616
  few_done = let counted = (s.well.safe []).counted in omega (arith, counted)

  pub loads_here : LoadsGoAsStrands (program_of stage) stage.places (living (program_of stage) m.core) m
  loads_here = loads_go_as_strands (program_of stage) m orderly_here (s.well.strands []) few_done stage.places

module _ (stage : Stage) (kept : ∥ IsMachine stage ∥₁) (worker slot : ℕ) (node : Node Activation) (hand : hand_of stage.run.hands.items worker ≡ Some slot) (stands : node_at stage.run.cactus slot ≡ Some node)
    (childless : Bool) (none : childless ≡ true → (region : ℕ) → counted_in node.frame region ≡ 0) (part : Block) (free : IsFree (program_of stage) stage.run part)
  where
    abbrev lent : Segment
    lent = record { start = part.start; count = part.cells }

    pub may_load : ∥ MayBegin (program_of stage) stage.places node.path.numbers node.frame.frame childless lent ∥₁
    may_load =
        ∥∥₁_map kept (λ k.
        let m = state_after (program_of stage) k.arguments stage.memory (workers_of stage) k.events in
        let s = k.replays.state in
        let g = seen (program_of stage) stage.places stage.run slot node node.frame stands m s.shown in
        let moves = length stage.run.moves.items in
        let text = laws.texts_fit (program_of stage) k.accepted stage.places k.places moves k.moves in
        let is_lent : IsLent (layout_of (program_of stage) stage.places stage.run.cactus m.core) lent = record {
          apart = s.shown.shows.cells.apart;
          outside = free_outside (program_of stage) stage.places moves text stage.run m s.shown part free;
          small = free_small (program_of stage) stage.places moves text stage.run m s.shown part free;
        } in
        record {
          layout = layout_of (program_of stage) stage.places stage.run.cactus m.core;
          frame = g.frame;
          goes = loads_here stage m s (object_at stage.places stage.run.cactus) lent is_lent worker (place_of node) g.frame node.frame.frame
              (hand_is stage m s worker slot node hand stands) g.is g.shows.shown g.shows.waits childless (λ is region.
              counted_none m.core (place_of node) region g.frame.made (sym (s.shown.agrees.counts slot region node stands ∙ count_at m.core (place_of node) g.frame region g.is) ∙ none is region));
        })
