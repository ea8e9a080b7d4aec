use Rattle.std.proofs.Common.{◌≡◌, ◌∙◌, List, ℤ, sym, ap, subst, Some, true}
use Rattle.std.specs.Option.{option_copied}
use Rattle.cactus.specs.declared.node.Node.{Node}
use Rattle.cactus.specs.Frames.{node_at}
use Rattle.strand.specs.strand_pages.Committing.{Agrees}
use Rattle.strand.specs.strand_pages.Tables.{log_of}
use Rattle.schedule_commit.specs.frame_strand.Standing.{IsCopy}
use Rattle.schedule_workers.specs.declared.activation.Activation.{Activation}
use Rattle.schedule_workers.specs.declared.run.Block.{Block}
use Rattle.schedule_workers.specs.Lent.{IsFree}
use Rattle.schedule_commit.specs.strands.Fitting.{HasNoChild}
use Rattle.schedule_commit.proofs.strands.fitting.fitting_base.Goals as goal
use Rattle.schedule_commit.proofs.strands.fitting.fitting_base.Goals.{else-same_numbers-via-then-same_numbers+then-is_same+then-is_as_childless+then-reads_agree+else-is_free, else-same_numbers-via-then-same_numbers+then-is_same+then-is_as_childless+else-reads_agree, else-same_numbers-via-then-same_numbers+then-is_same+else-is_as_childless, else-same_numbers-via-then-same_numbers+else-is_same, else-same_numbers-via-else-same_numbers}

pub returns-then-is_free-clause-fits : goal.returns-then-is_free-clause-fits
returns-then-is_free-clause-fits c = record {
  node = c.in_ok-node.node.now;
  hand = sym c.hand.ensures.slot ∙ c.in_ok-slot.was;
  stands = sym c.node.ensures ∙ ap option_copied c.in_ok-node.was;
  path = sym c.as_slice.ensures ∙ (c.same_numbers.ensures).0 c.if-same_numbers.true ∙ c.as_slice-2.ensures.value;
  frame = (c.is_same.ensures).0 c.if-is_same.true;
  childless = (c.is_as_childless.ensures).0 c.if-is_as_childless.true;
  reads = subst (λ (row : List ℤ). Agrees (log_of c.args.strand.now.cells.log) row) c.as_slice-then-is_as_childless.ensures.value ((c.reads_agree.ensures).0 c.if-reads_agree.true);
  free = subst (λ (b : Block). IsFree c.args.program.now c.args.run.now b) c.segment.ensures ((c.is_free.ensures).0 c.if-is_free.true);
}

-- a slot that fits is the worker's, and each test says yes of its node
pub returns-else-same_numbers-clause-only : goal.returns-else-same_numbers-clause-only
returns-else-same_numbers-clause-only c = λ slot f.
    let x = c.args.strand.now in
    let k = c.args.run.now in
    let seen = c.in_ok-node.node.now in
    let hand : Some slot ≡ Some c.in_ok-slot.slot = sym f.hand ∙ sym c.hand.ensures.slot ∙ c.in_ok-slot.was in
    let here : slot ≡ c.in_ok-slot.slot = cc in
    let stands : Some f.node ≡ Some seen = sym f.stands ∙ ap (node_at k.cactus) here ∙ sym c.node.ensures ∙ ap option_copied c.in_ok-node.was in
    let same : f.node ≡ seen = cc in
    let path : seen.path.numbers ≡ x.base.path.items = ap (λ (n : Node Activation). n.path.numbers) (sym same) ∙ f.path in
    elim c.else-same_numbers.branch [
      | else-same_numbers-via-then-same_numbers+then-is_same+then-is_as_childless+then-reads_agree+else-is_free w ↦
          let on = (w.is_free.ensures).1 (subst (λ (b : Block). IsFree c.args.program.now k b) (sym w.segment.ensures) f.free) in
          let off = w.if-is_free.false in cc
      | else-same_numbers-via-then-same_numbers+then-is_same+then-is_as_childless+else-reads_agree w ↦
          let on = (w.reads_agree.ensures).1 (subst (λ (row : List ℤ). Agrees (log_of x.cells.log) row) (sym w.as_slice-then-is_as_childless.ensures.value) f.reads) in
          let off = w.if-reads_agree.false in cc
      | else-same_numbers-via-then-same_numbers+then-is_same+else-is_as_childless w ↦
          let on = (w.is_as_childless.ensures).1 (subst (λ (n : Node Activation). x.base.childless ≡ true → HasNoChild n.frame) same f.childless) in
          let off = w.if-is_as_childless.false in cc
      | else-same_numbers-via-then-same_numbers+else-is_same w ↦
          let on = (w.is_same.ensures).1 (subst (λ (n : Node Activation). IsCopy x.base.frame n.frame.frame) same f.frame) in
          let off = w.if-is_same.false in cc
      | else-same_numbers-via-else-same_numbers w ↦
          let on = (c.same_numbers.ensures).1 (c.as_slice.ensures ∙ path ∙ sym c.as_slice-2.ensures.value) in
          let off = w.if-same_numbers.false in cc
    ]
