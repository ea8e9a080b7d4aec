use Rattle.schedule_core.proofs.StrandTexts.{way_by}
use Rattle.schedule_core.proofs.strands.made_on_top.Goals as goal

pub made_on_top-requires : goal.made_on_top-requires
made_on_top-requires c =
    record {
      way = way_by c.args.verified.now c.program.result.now c.args.code.now c.places.result.now c.program.ensures.value c.places.ensures c.args.strand.now c.requires.way;
    }
