use Rattle.std.proofs.Common.{◌∙◌, List, ℤ, sym, ap, subst}
use Rattle.std.specs.Option.{option_copied}
use Rattle.frame_engine.specs.declared.activation.Frame.{Frame}
use Rattle.frame_strand.specs.Standing.{IsCopy}
use Rattle.frame_strand.specs.declared.cells.Read.{Read}
use Rattle.schedule_commit.specs.Fitting.{HoldReads}
use Rattle.schedule_commit.proofs.fitting.fitting_slot.Goals as goal

pub returns-then-hold_reads-clause-fits : goal.returns-then-hold_reads-clause-fits
returns-then-hold_reads-clause-fits c =
    let node = c.in_ok-node.node.now in
    record {
      node = node;
      hand = sym c.hand.ensures.slot ∙ c.in_ok-slot.was;
      stands = sym c.node.ensures ∙ ap option_copied c.in_ok-node.was;
      path = sym c.as_slice.ensures ∙ (c.same_numbers.ensures).0 c.if-same_numbers.true ∙ c.path.ensures;
      frame = subst (λ (f : Frame). IsCopy f node.frame.frame) c.loaded.ensures ((c.is_same.ensures).0 c.if-is_same.true);
      reads = subst (λ (rs : List Read). HoldReads rs c.args.run.now.cells.cells.items) c.reads.ensures (subst (λ (row : List ℤ). HoldReads c.reads.result.now row) c.as_slice-then-is_same.ensures.value ((c.hold_reads.ensures).0 c.if-hold_reads.true));
    }
