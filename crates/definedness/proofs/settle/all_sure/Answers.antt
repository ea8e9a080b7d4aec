use Rattle.std.proofs.Common.{◌≡◌, [], ◌∙◌, arith}
use Rattle.std.proofs.lemmas.List.{length-replicate, get_or-replicate, replicate_more}
use Rattle.definedness_allocas.specs.declared.sets.Label.TheVariants.{Sure, Due}
use Rattle.definedness.proofs.settle.all_sure.Goals as goal

pub loop-block-preserved : goal.loop-block-preserved
loop-block-preserved c = rw (c.in_ok-push.ensures.items, c.loop-block.invariant) (replicate_more c.loop-block._block Sure)

pub returns : goal.returns
returns c =
    let made : c.loop-block._block ≡ c.args.blocks = omega (arith, c.loop-block-test.false, c.loop-block.auto._block-end) in
    record {
      labels = rw c.loop-block.invariant (length-replicate c.loop-block._block Sure ∙ made);
      lacking = c.in_ok-lacking.ensures.size;
      sure = λ b w. rw c.loop-block.invariant (get_or-replicate c.loop-block._block b Sure (Due []) (omega (arith, w, made)));
      unmarked = c.in_ok-lacking.ensures.none;
    }
