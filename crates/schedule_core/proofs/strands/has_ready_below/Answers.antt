use Rattle.schedule_core.proofs.StrandTexts.{tables_by, way_by}
use Rattle.schedule_core.proofs.strands.has_ready_below.Goals as goal

pub has_ready-requires-clause-tables : goal.has_ready-requires-clause-tables
has_ready-requires-clause-tables c =
    tables_by c.args.verified.now c.program.result.now c.args.code.now c.places.result.now c.program.ensures.value c.places.ensures c.tables.result.now c.tables.ensures c.requires.code

pub has_ready-requires-clause-way : goal.has_ready-requires-clause-way
has_ready-requires-clause-way c =
    way_by c.args.verified.now c.program.result.now c.args.code.now c.places.result.now c.program.ensures.value c.places.ensures c.args.strand.now c.requires.way
