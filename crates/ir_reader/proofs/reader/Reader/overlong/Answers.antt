use Rattle.std.proofs.Common.{refl}
use Rattle.std.specs.Prelude.{None}
use Rattle.ir_reader.specs.Reading.{Too-late}
use Rattle.ir_reader.proofs.LineByLine.{overlong_line, overlong_item}
use Rattle.ir_reader.proofs.reader.Reader.overlong.Goals as goal

pub returns-in-Ok-Some : goal.returns-in-Ok-Some
returns-in-Ok-Some c =
    let said = rw c.in-Ok-Some.field-0-is at c.in-Ok-Some.ensures.found in
    overlong_item c.too_late.result c.args.self.draft c.args.number c.args.line.now c.in-Ok-Some.line said.0 said.1 c.too_late.ensures

pub returns-in-Ok-None : goal.returns-in-Ok-None
returns-in-Ok-None c =
    let said = rw c.in-Ok-None.field-0-is at c.in-Ok-None.ensures.found in
    (refl, Too-late None 104 said.0 said.1 refl)

pub returns-in-Err : goal.returns-in-Err
returns-in-Err c = rw c.or_too_late.ensures (overlong_line c.in-Err.fault c.args.self.draft c.args.number c.args.line.now c.in-Err.ensures.fault)
