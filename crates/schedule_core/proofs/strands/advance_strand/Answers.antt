use Rattle.std.proofs.Common.{length}
use Rattle.schedule_core.proofs.StrandTexts.{tables_by, text_by, way_by}
use Rattle.schedule_core.proofs.strands.advance_strand.Goals as goal

pub go-requires-clause-text : goal.go-requires-clause-text
go-requires-clause-text c =
    text_by c.args.verified.now c.program.result.now c.args.code.now c.places.result.now c.program.ensures.value c.places.ensures c.program.ensures.accepted c.requires.code
    (length c.args.strand.now.moves.items) c.requires.moves

pub go-requires-clause-tables : goal.go-requires-clause-tables
go-requires-clause-tables c =
    tables_by c.args.verified.now c.program.result.now c.args.code.now c.places.result.now c.program.ensures.value c.places.ensures c.tables.result.now c.tables.ensures c.requires.code

pub go-requires-clause-way : goal.go-requires-clause-way
go-requires-clause-way c =
    way_by c.args.verified.now c.program.result.now c.args.code.now c.places.result.now c.program.ensures.value c.places.ensures c.args.strand.now c.requires.way
