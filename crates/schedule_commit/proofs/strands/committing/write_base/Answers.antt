use Rattle.std.proofs.Common.{◌∙◌, sym, ap}
use Rattle.std.specs.Option.{option_copied}
use Rattle.schedule_commit.proofs.strands.Based.{base_alone, base_under}
use Rattle.schedule_commit.proofs.strands.committing.write_base.Goals as goal

pub returns-in-Some : goal.returns-in-Some
returns-in-Some c =
    base_under c.args.strand.now c.args.base.now c.frame_of.result.now c.write_frame.new.target c.frame_of.ensures c.write_frame.ensures.only c.write_frame.ensures.registers
    c.in-Some.above.now (sym c.above.ensures ∙ ap option_copied c.in-Some.is) c.count_above.new.activation c.count_above.ensures.only c.count_above.ensures.as_many c.count_above.ensures.counts

pub returns-in_default : goal.returns-in_default
returns-in_default c =
    base_alone c.args.strand.now c.args.base.now c.frame_of.result.now c.write_frame.new.target c.frame_of.ensures c.write_frame.ensures.only c.write_frame.ensures.registers
    (sym c.above.ensures ∙ ap option_copied c.in_default.is)
