use Rattle.std.proofs.Common.{length}
use Rattle.schedule_core.proofs.StrandTexts.{settled_back, still_back, tables_by, text_by, way_back, way_by}
use Rattle.schedule_core.proofs.strands.settle_strand.Goals as goal

pub settle-requires-clause-text : goal.settle-requires-clause-text
settle-requires-clause-text c =
    text_by c.args.verified.now c.program.result.now c.args.code.now c.places.result.now c.program.ensures.value c.places.ensures c.program.ensures.accepted c.requires.code
    (length c.args.strand.now.moves.items) c.requires.moves

pub settle-requires-clause-tables : goal.settle-requires-clause-tables
settle-requires-clause-tables c =
    tables_by c.args.verified.now c.program.result.now c.args.code.now c.places.result.now c.program.ensures.value c.places.ensures c.tables.result.now c.tables.ensures c.requires.code

pub settle-requires-clause-way : goal.settle-requires-clause-way
settle-requires-clause-way c =
    way_by c.args.verified.now c.program.result.now c.args.code.now c.places.result.now c.program.ensures.value c.places.ensures c.args.strand.now c.requires.way

pub returns-clause-way : goal.returns-clause-way
returns-clause-way c = way_back c.args.verified.now c.program.result.now c.args.code.now c.places.result.now c.program.ensures.value c.places.ensures c.settle.new.self c.settle.ensures.way

pub returns-clause-still : goal.returns-clause-still
returns-clause-still c = still_back c.args.verified.now c.program.result.now c.args.code.now c.places.result.now c.program.ensures.value c.places.ensures c.args.strand.now c.settle.new.self c.settle.ensures.still

pub returns-clause-made : goal.returns-clause-made
returns-clause-made c = settled_back c.args.verified.now c.program.result.now c.args.code.now c.places.result.now c.program.ensures.value c.places.ensures c.settle.result c.settle.new.self c.requires.code c.settle.ensures.settled
