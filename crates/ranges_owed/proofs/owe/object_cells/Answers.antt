use Rattle.ranges_owed.proofs.Cells.{global_seen, global_lacked, alloca_seen, alloca_lacked, pointer_seen, number_seen, parameter_lacked}
use Rattle.ranges_owed.proofs.owe.object_cells.Goals as goal

pub returns-in-Some : goal.returns-in-Some
returns-in-Some c = global_seen c.args.program.now c.args.function.now c.args.object c.in-Global.global c.in-Some.global.now c.as_slice.result.now c.in-Global.is c.as_slice.ensures c.in-Some.ensures.lookup.3.0 c.in-Some.ensures.lookup.1

pub returns-in-None : goal.returns-in-None
returns-in-None c = global_lacked c.args.program.now c.args.function.now c.args.object c.in-Global.global c.as_slice.result.now c.in-Global.is c.as_slice.ensures c.in-None.ensures.lookup.0

pub returns-in-Some-get : goal.returns-in-Some-get
returns-in-Some-get c = alloca_seen c.args.program.now c.args.function.now c.args.object c.in-Alloca.alloca c.in-Some-get.alloca.now c.as_slice-in-Alloca.result.now c.in-Alloca.is c.as_slice-in-Alloca.ensures c.in-Some-get.ensures.lookup.3.0 c.in-Some-get.ensures.lookup.1

pub returns-in-None-get : goal.returns-in-None-get
returns-in-None-get c = alloca_lacked c.args.program.now c.args.function.now c.args.object c.in-Alloca.alloca c.as_slice-in-Alloca.result.now c.in-Alloca.is c.as_slice-in-Alloca.ensures c.in-None-get.ensures.lookup.0

pub returns-in-Some-Pointer : goal.returns-in-Some-Pointer
returns-in-Some-Pointer c = pointer_seen c.args.program.now c.args.function.now c.args.object c.in-Parameter.register c.in-Some-Pointer.field-0.now c.in-Some-Pointer.cells c.as_slice-in-Parameter.result.now c.in-Parameter.is c.as_slice-in-Parameter.ensures c.in-Some-Pointer.field-0-is c.in-Some-Pointer.ensures.lookup.3.0 c.in-Some-Pointer.ensures.lookup.1

pub returns-in-Some-Number : goal.returns-in-Some-Number
returns-in-Some-Number c = number_seen c.args.program.now c.args.function.now c.args.object c.in-Parameter.register c.in-Some-Number.field-0.now c.as_slice-in-Parameter.result.now c.in-Parameter.is c.as_slice-in-Parameter.ensures c.in-Some-Number.field-0-is c.in-Some-Number.ensures.lookup.3.0 c.in-Some-Number.ensures.lookup.1

pub returns-in-None-get-2 : goal.returns-in-None-get-2
returns-in-None-get-2 c = parameter_lacked c.args.program.now c.args.function.now c.args.object c.in-Parameter.register c.as_slice-in-Parameter.result.now c.in-Parameter.is c.as_slice-in-Parameter.ensures c.in-None-get-2.ensures.lookup.0
