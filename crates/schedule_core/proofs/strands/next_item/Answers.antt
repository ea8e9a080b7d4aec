use Rattle.schedule_core.proofs.StrandTexts.{tables_by, way_by}
use Rattle.schedule_core.proofs.strands.next_item.Goals as goal

pub next_item-requires-clause-tables : goal.next_item-requires-clause-tables
next_item-requires-clause-tables c =
    tables_by c.args.verified.now c.program.result.now c.args.code.now c.places.result.now c.program.ensures.value c.places.ensures c.tables.result.now c.tables.ensures c.requires.code

pub next_item-requires-clause-way : goal.next_item-requires-clause-way
next_item-requires-clause-way c =
    way_by c.args.verified.now c.program.result.now c.args.code.now c.places.result.now c.program.ensures.value c.places.ensures c.args.strand.now c.requires.way
