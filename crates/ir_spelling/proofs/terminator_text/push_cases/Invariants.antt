use Rattle.std.proofs.Common.{◌≡◌, ◌++◌, take}
use Rattle.std.specs.Prelude.{string_bytes, flat_map}
use Rattle.ir_spelling.specs.TerminatorText.{case_text}
use Rattle.ir_spelling.proofs.terminator_text.push_cases.Given as goal

abbrev pub invariant-loop-case : goal.invariant-loop-case
invariant-loop-case l = string_bytes l.out ≡ string_bytes l.initial.out ++ flat_map (case_text l.width) (take l.case-index l.cases)
