-- The words that begin annotations.
use Rattle.std.specs.Prelude.{ℕ, List, codes, Option, Some, None, if◌then◌else◌}
use Rattle.std.specs.Str.{bytes_eq}
use Rattle.ir_annotation.specs.declared.keywords.Keyword.{Keyword}
use Rattle.ir_annotation.specs.declared.keywords.Keyword.TheVariants.{Requires, Ensures, Reads, Writes, Adds, Measure}
use Rattle.ir_annotation.specs.declared.keywords.Keyword.TheVariants.{Budget, Keeps, Pending, Left}
use Rattle.ir_annotation.specs.declared.keywords.Keyword.TheVariants.{Foot, Shows}

-- at a block or before an instruction
abbrev pub block_keyword_of : List ℕ → Option Keyword
block_keyword_of word = if bytes_eq word (codes "keeps") then Some Keeps
    else if bytes_eq word (codes "pending") then Some Pending else if bytes_eq word (codes "left") then Some Left
    else if bytes_eq word (codes "foot") then Some Foot else if bytes_eq word (codes "shows") then Some Shows else None

abbrev pub keyword_of : List ℕ → Option Keyword
keyword_of word = if bytes_eq word (codes "requires") then Some Requires
    else if bytes_eq word (codes "ensures") then Some Ensures else if bytes_eq word (codes "reads") then Some Reads
    else if bytes_eq word (codes "writes") then Some Writes else if bytes_eq word (codes "adds") then Some Adds
    else if bytes_eq word (codes "measure") then Some Measure else if bytes_eq word (codes "budget") then Some Budget
    else block_keyword_of word
