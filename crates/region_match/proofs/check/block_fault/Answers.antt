use Rattle.std.proofs.Common.{◌⊎◌}
use Rattle.refusal.specs.declared.broken.Broken.{Broken}
use Rattle.region_match.specs.Rules.{IsEndingBroken, IsPendingBroken, IsPlaceBroken}
use Rattle.region_match.specs.ByLabel.{IsPendingBrokenBy, IsEndingBrokenBy}
use Rattle.region_match.specs.Tasks.{task_at}
use Rattle.refusal.proofs.Elements.{earliest_same, earliest_both}
use Rattle.region_match.proofs.Conversion.{ending_by, ending_from, pending_by, pending_from}
use Rattle.region_match.proofs.check.block_fault.Goals as goal

pub returns : goal.returns
returns c =
    let bodies = c.args.bodies.now in
    let blocks = c.args.blocks.now in
    let tasks = c.args.tasks.now in
    let b = c.args.index in
    let block = c.args.block.now in
    earliest_both (IsEndingBroken bodies blocks b block.ending) (λ (x : Broken). IsPendingBroken bodies blocks b block.pending x ⊎ IsPlaceBroken blocks b block x) _ _ _
    (earliest_same (IsEndingBrokenBy bodies tasks (task_at tasks b) block.ending) (IsEndingBroken bodies blocks b block.ending) _
    (λ x p. ending_from bodies blocks tasks c.requires.tasks c.requires.size b block.ending x c.requires.within p)
    (λ x p. ending_by bodies blocks tasks c.requires.tasks c.requires.size b block.ending x c.requires.within p)
    c.ending_fault-at_end.ensures)
    (earliest_both (IsPendingBroken bodies blocks b block.pending) (IsPlaceBroken blocks b block) _ _ _
    (earliest_same (IsPendingBrokenBy bodies tasks (task_at tasks b) block.pending) (IsPendingBroken bodies blocks b block.pending) _
    (λ x p. pending_from bodies blocks tasks c.requires.tasks c.requires.size b block.pending x c.requires.within p)
    (λ x p. pending_by bodies blocks tasks c.requires.tasks c.requires.size b block.pending x c.requires.within p)
    (rw c.as_slice.ensures at c.pending_fault-at_pending.ensures))
    c.place_fault-at_places.ensures
    c.lower.ensures)
    c.lower-2.ensures
