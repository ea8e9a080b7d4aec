use Rattle.std.proofs.Common.{refl}
use Rattle.std.specs.Prelude.{None, Some, Ok}
use Rattle.std.proofs.lemmas.Result.{IfOk-weaker, IfErr-weaker}
use Rattle.ir_reader.specs.Reading.{Said}
use Rattle.ir_reader.proofs.LineByLine.{said_fault, item_fault}
use Rattle.ir_reader.proofs.reader.Reader.step.Goals as goal

pub returns-in-Ok-None-clause-read : goal.returns-in-Ok-None-clause-read
returns-in-Ok-None-clause-read c =
    let said = rw c.in-Ok-None.field-0-is at c.in-Ok-None.ensures.found in
    Said None (Ok c.args.self.draft) said.0 said.1 refl

pub returns-in-Ok-Some-clause-read : goal.returns-in-Ok-Some-clause-read
returns-in-Ok-Some-clause-read c =
    let said = rw c.in-Ok-Some.field-0-is at c.in-Ok-Some.ensures.found in
    IfOk-weaker c.put.result _ _ (λ r h. Said (Some c.in-Ok-Some.line) (Ok r.draft) said.0 said.1 h) c.put.ensures.read

pub returns-in-Ok-Some-clause-fault : goal.returns-in-Ok-Some-clause-fault
returns-in-Ok-Some-clause-fault c =
    let said = rw c.in-Ok-Some.field-0-is at c.in-Ok-Some.ensures.found in
    IfErr-weaker c.put.result _ _ (λ e h. item_fault e c.args.self.draft c.args.number c.args.line.now c.in-Ok-Some.line said.0 said.1 h) c.put.ensures.fault

pub returns-in-Err-clause-fault : goal.returns-in-Err-clause-fault
returns-in-Err-clause-fault c = said_fault c.in-Err.fault c.args.self.draft c.args.number c.args.line.now c.in-Err.ensures.fault
