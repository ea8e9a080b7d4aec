use Rattle.std.proofs.Common.{◌≡◌, ◌++◌, take}
use Rattle.std.specs.Prelude.{string_bytes, flat_map}
use Rattle.ir_spelling.specs.LineText.{step_lines}
use Rattle.ir_spelling.proofs.lines.push_steps.Given as goal

abbrev pub invariant-loop-step : goal.invariant-loop-step
invariant-loop-step l = string_bytes l.out ≡ string_bytes l.initial.out ++ flat_map step_lines (take l.step-index l.steps)
