use Rattle.std.proofs.Common.{◌≡◌, subst}
use Rattle.schedule_text.specs.declared.fault.ScheduleFault.TheVariants.{BadLine, TooLong}
use Rattle.schedule_text.specs.Reading.{IsFault}
use Rattle.schedule_text.proofs.Faults.{bad_reading, long_reading, same_reading}
use Rattle.schedule_text.proofs.print.spells.Goals as goal

pub returns-in-Ok : goal.returns-in-Ok
returns-in-Ok c =
    same_reading c.args.text.now c.in-Ok.read.items c.as_slice.result.now c.args.events.now c.are_same.result c.in-Ok.ensures.ok c.as_slice.ensures.value c.are_same.ensures

pub returns-in-Err-BadLine : goal.returns-in-Err-BadLine
returns-in-Err-BadLine c =
    let fault = c.in-Err-BadLine.is in
    let which = c.in-Err-BadLine.field-0-is in
    let named : c.in-Err-BadLine.field-0 ≡ BadLine c.in-Err-BadLine.field-0-0 = cc in
    bad_reading c.args.text.now c.in-Err-BadLine.field-0-0 c.args.events.now (subst (IsFault c.args.text.now) named c.in-Err-BadLine.ensures.fault)

pub returns-in-Err-TooLong : goal.returns-in-Err-TooLong
returns-in-Err-TooLong c =
    let fault = c.in-Err-TooLong.is in
    let which = c.in-Err-TooLong.field-0-is in
    let named : c.in-Err-TooLong.field-0 ≡ TooLong c.in-Err-TooLong.field-0-0 = cc in
    long_reading c.args.text.now c.in-Err-TooLong.field-0-0 c.args.events.now (subst (IsFault c.args.text.now) named c.in-Err-TooLong.ensures.fault)
