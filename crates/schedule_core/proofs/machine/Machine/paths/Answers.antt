use Rattle.std.proofs.Common.{◌≡◌, ℕ, List, [], ◌∷◌, ◌++◌, ◌∙◌, subst}
use Rattle.slab.specs.Slab.{entries_from}
use Rattle.cactus.specs.declared.node.Node.{Node}
use Rattle.schedule_workers.specs.declared.activation.Activation.{Activation}
use Rattle.schedule_core.proofs.Listed.{Takes, all_taken, begins, goes_on}
use Rattle.schedule_core.proofs.machine.Machine.paths.Goals as goal

pub loop-slot-init : goal.loop-slot-init
loop-slot-init c =
    let frames = c.args.self.now.stage.run.cactus in
    let items : c.into_iter-slot-iterator.result ≡ entries_from 0 frames.nodes = c.into_iter-slot-iterator.ensures.into_iter_gives ∙ c.iter-slot-items.ensures in
    record {
      can_next = tt;
      is_finite = tt;
      takes = rw c.new-paths.ensures.items (begins frames c.into_iter-slot-iterator.result items);
    }

pub loop-slot-preserved : goal.loop-slot-preserved
loop-slot-preserved c =
    let frames = c.args.self.now.stage.run.cactus in
    record {
      can_next = tt;
      is_finite = tt;
      takes = goes_on frames c.loop-slot._slot-iterator c.next.new.self c.in-Some._slot c.in-Some.node.now c.loop-slot.paths.items c.push_path.new.paths.items c.in-Some.ensures.steps c.in_ok-push_path.ensures c.loop-slot.invariant.takes;
    }

pub returns : goal.returns
returns c m s =
    let stage = c.args.self.now.stage in
    all_taken stage m s c.loop-slot.paths.items (subst (λ (l : List (ℕ × Node Activation)). Takes stage.run.cactus l c.loop-slot.paths.items) c.in-None.ensures.steps.0 c.loop-slot.invariant.takes)
