use Rattle.std.proofs.Common.{◌≡◌, ◌++◌, take}
use Rattle.std.specs.Prelude.{string_bytes, flat_map}
use Rattle.ir_text.specs.Printed.{function_lines}
use Rattle.ir_text.proofs.printer.push_functions.Given as goal

abbrev pub invariant-loop-function : goal.invariant-loop-function
invariant-loop-function l = string_bytes l.out ≡ string_bytes l.initial.out ++ flat_map function_lines (take l.function-index l.functions)
