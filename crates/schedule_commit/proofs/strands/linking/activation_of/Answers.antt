use Rattle.std.proofs.Common.{◌∙◌, sym, ap, subst}
use Rattle.std.specs.Option.{option_copied}
use Rattle.schedule_workers.specs.declared.activation.Activation.{Activation}
use Rattle.schedule_commit.specs.strands.Linking.{IsFrameOf}
use Rattle.schedule_commit.proofs.strands.Linked.{lower_frame, region_there, top_frame}
use Rattle.schedule_commit.proofs.strands.linking.activation_of.Goals as goal

pub count_above-requires-clause-region : goal.count_above-requires-clause-region
count_above-requires-clause-region c =
    let made = c.in_ok-activation in
    region_there c.args.worker c.args.strand.now c.args.number c.frame_of.result.now c.frame_of.ensures made.activation c.in_ok-frame.frame c.in_ok-frame.ensures
    made.ensures.is made.ensures.none made.ensures.as_many c.requires.regions c.in-Some.above.now (sym c.above.ensures ∙ ap option_copied c.in-Some.is)

pub returns : goal.returns
returns c =
    let made = c.in_ok-activation in
    elim c.match-above.branch [
      | goal.in-Some w ↦
          subst (λ (a : Activation). IsFrameOf c.args.worker c.args.strand.now c.args.number a) (sym w.activation-is)
          (lower_frame c.args.worker c.args.strand.now c.args.number c.frame_of.result.now c.frame_of.ensures made.activation c.in_ok-frame.frame c.in_ok-frame.ensures
          made.ensures.is made.ensures.none made.ensures.as_many w.in-Some.above.now (sym c.above.ensures ∙ ap option_copied w.in-Some.is)
          w.count_above.new.activation w.count_above.ensures.only w.count_above.ensures.as_many w.count_above.ensures.counts)
      | goal.in_default w ↦
          subst (λ (a : Activation). IsFrameOf c.args.worker c.args.strand.now c.args.number a) (sym w.activation-is)
          (top_frame c.args.worker c.args.strand.now c.args.number c.frame_of.result.now c.frame_of.ensures made.activation c.in_ok-frame.frame c.in_ok-frame.ensures
          made.ensures.is made.ensures.none made.ensures.as_many (sym c.above.ensures ∙ ap option_copied w.in_default.is))
    ]
