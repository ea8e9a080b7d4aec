use Rattle.std.proofs.Common.{◌≡◌, ◌++◌, take}
use Rattle.std.specs.Prelude.{string_bytes, flat_map}
use Rattle.ir_spelling.specs.Spelling.{behind_comma}
use Rattle.ir_spelling.specs.InstructionText.{entry_text}
use Rattle.ir_spelling.proofs.instruction_text.push_more_entries.Given as goal

abbrev pub invariant-loop-entry : goal.invariant-loop-entry
invariant-loop-entry l = string_bytes l.out ≡ string_bytes l.initial.out ++ flat_map (behind_comma entry_text) (take l.entry-index l.entries)
