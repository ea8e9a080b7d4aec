use Rattle.std.proofs.Common.{◌≡◌, ◌<◌, length, sym, ◌∙◌, arith, rules}
use Rattle.std.proofs.lemmas.Bool.{eqb-true, eqb-false}
use Rattle.std.proofs.lemmas.List.{replicate_more}
use Rattle.region_match.specs.declared.task.Task.TheVariants.{Unreached}
use Rattle.region_match.proofs.task.first_tasks.Goals.{then-not-is_empty+in_ok-push-2, else-not-is_empty}
use Rattle.region_match.proofs.Labelling.{next_within, next_marked, Labelling-start, Labelling-none, Labelling-step, edges_of-read, read_label, less_left, Labelling-end}
use Rattle.region_match.proofs.task.first_tasks.Goals as goal

pub loop-block-2-init : goal.loop-block-2-init
loop-block-2-init c =
    let made : c.loop-block._block ≡ length c.args.blocks.now = omega (arith, c.loop-block-test.false, c.loop-block.auto._block-end) in
    elim c.if-not-is_empty.branch [
      | then-not-is_empty+in_ok-push-2 w ↦
          let some : length c.args.blocks.now ≡ 0 → ⊥ = eqb-false (length c.args.blocks.now) 0 (sym c.is_empty.ensures ∙ w.if-not-is_empty.true) in
          rw (w.tasks-is, w.work-is, w.in_ok-push-2.ensures.items, c.in_ok-work.ensures.items) (Labelling-start c.args.blocks.now _ _ c.loop-block.invariant made (omega (arith, made, some)))
      | else-not-is_empty w ↦
          let none : length c.args.blocks.now ≡ 0 = eqb-true (length c.args.blocks.now) 0 (sym c.is_empty.ensures ∙ w.if-not-is_empty.false) in
          rw (w.tasks-is, w.work-is, c.in_ok-work.ensures.items) (Labelling-none c.args.blocks.now _ _ c.loop-block.invariant made none)
    ]

pub index-task-requires : goal.index-task-requires
index-task-requires c =
    let within : c.in-Some.block < length c.args.blocks.now = next_within _ _ _ _ _ c.loop-block-2.invariant c.in-Some.ensures.items in
    rw (c.loop-block-2.tasks.ok.0, c.loop-block-2.invariant.size) within

pub offset_bounds-blocks-block : goal.offset_bounds-blocks-block
offset_bounds-blocks-block c =
    let within : c.in-Some.block < length c.args.blocks.now = next_within _ _ _ _ _ c.loop-block-2.invariant c.in-Some.ensures.items in
    search rules

pub bounds-blocks-block : goal.bounds-blocks-block
bounds-blocks-block c = next_within _ _ _ _ _ c.loop-block-2.invariant c.in-Some.ensures.items

pub label_targets-requires : goal.label_targets-requires
label_targets-requires c =
    let within : c.in-Some.block < length c.args.blocks.now = next_within _ _ _ _ _ c.loop-block-2.invariant c.in-Some.ensures.items in
    rw (← read_label c.loop-block-2.tasks.items c.in-Some.block c.index-task.result.now (rw c.loop-block-2.invariant.size within) c.index-task.ensures) (next_marked _ _ _ _ _ c.loop-block-2.invariant c.in-Some.ensures.items)

pub loop-block-2-preserved : goal.loop-block-2-preserved
loop-block-2-preserved c =
    let within : c.in-Some.block < length c.args.blocks.now = next_within _ _ _ _ _ c.loop-block-2.invariant c.in-Some.ensures.items in
    Labelling-step _ _ _ _ c.in-Some.block _ _ c.loop-block-2.invariant c.in-Some.ensures.items
    (rw (edges_of-read c.args.blocks.now c.in-Some.block c.index-blocks-block.result within, ← c.as_slice.ensures, read_label c.loop-block-2.tasks.items c.in-Some.block c.index-task.result.now (rw c.loop-block-2.invariant.size within) c.index-task.ensures) c.in_ok-label_targets.ensures)

pub loop-block-preserved : goal.loop-block-preserved
loop-block-preserved c = rw (c.in_ok-push.ensures.items, c.loop-block.invariant) (replicate_more c.loop-block._block Unreached)

pub loop-block-2-smaller : goal.loop-block-2-smaller
loop-block-2-smaller c = less_left _ _ _ _ _ c.in-Some.block c.in_ok-label_targets.ensures.count c.in-Some.ensures.items

pub returns : goal.returns
returns c = Labelling-end _ _ c.loop-block-2.work.items c.loop-block-2.invariant (rw c.loop-block-2.work.ok.0 at c.in_default.ensures.cases.0)
