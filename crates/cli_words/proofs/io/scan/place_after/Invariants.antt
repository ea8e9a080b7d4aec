use Rattle.std.proofs.Common.{◌≡◌, ◌≤◌, ◌+◌, take}
use Rattle.cli_words.specs.io.Data.{line_after, column_after}
use Rattle.cli_words.proofs.io.scan.place_after.Given as goal

abbrev pub invariant-loop-byte : goal.invariant-loop-byte
invariant-loop-byte l =
    record {
      line : l.line ≡ line_after (take l.byte-index l.before);
      column : l.column ≡ column_after (take l.byte-index l.before);
      few_lines : l.line ≤ l.byte-index + 1;
      few_columns : l.column ≤ l.byte-index + 1;
    }
