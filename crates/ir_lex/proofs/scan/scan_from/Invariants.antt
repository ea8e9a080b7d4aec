use Rattle.std.proofs.Common.{◌≡◌, ◌≤◌, ◌-◌, length, drop}
use Rattle.ir_lex.specs.Tokens.{tokens_from}
use Rattle.ir_lex.specs.Scanning.{prepend}
use Rattle.ir_lex.proofs.scan.scan_from.Given as goal

-- the tokens so far and those to come are those from the start on
abbrev pub invariant-loop-at : goal.invariant-loop-at
invariant-loop-at l = record {
  within : l.at ≤ length l.line;
  so_far : prepend l.tokens.items (tokens_from l.in_note 0 l.at (drop l.at l.line)) ≡ prepend l.fn.tokens.items (tokens_from l.in_note 0 l.from (drop l.from l.line));
}

abbrev pub decreases-loop-at : goal.decreases-loop-at
decreases-loop-at l = length l.line - l.at
