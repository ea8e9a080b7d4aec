use Rattle.std.proofs.Common.{◌≡◌, ◌++◌, take}
use Rattle.std.specs.Prelude.{string_bytes, flat_map}
use Rattle.ir_text.specs.Printed.{block_lines}
use Rattle.ir_text.proofs.printer.push_blocks.Given as goal

abbrev pub invariant-loop-block : goal.invariant-loop-block
invariant-loop-block l = string_bytes l.out ≡ string_bytes l.initial.out ++ flat_map block_lines (take l.block-index l.blocks)
