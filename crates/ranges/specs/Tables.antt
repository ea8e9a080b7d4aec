-- The tables of facts, and what they say of a block's places.
use Rattle.std.specs.Prelude.{List, ◌++◌, map, ◌≡◌, ℕ, length, take, Some, slice_get, slice_index_or}
use Rattle.linear.specs.declared.form.Fact.{Fact}
use Rattle.ranges.specs.declared.table.EdgeFacts.{EdgeFacts}
use Rattle.program.specs.declared.instruction.Step.{Step}
use Rattle.program.specs.declared.function.Block.{Block}
use Rattle.program.specs.declared.function.Function.{Function}
use Rattle.program.specs.declared.function.Program.{Program}
use Rattle.ranges.specs.declared.table.BlockFacts.{BlockFacts}
use Rattle.ranges.specs.declared.table.Facts.{Facts}
use Rattle.ranges.specs.declared.table.FunctionFacts.{FunctionFacts}
use Rattle.ranges.specs.Places.{facts_at_step, facts_at_end, edges_known}

-- an edge that has only what its being taken says, with all that is known on it, where this is known at the end of its
-- block
abbrev pub with_known : List Fact → EdgeFacts → EdgeFacts
with_known known e = record { to = e.to; way = e.way; moves = e.moves; facts = known ++ e.facts }

abbrev pub all_with_known : List Fact → List EdgeFacts → List EdgeFacts
all_with_known known edges = map (with_known known) edges

-- what the table of a block says is known at its step of this number
abbrev pub facts_in_table : BlockFacts → ℕ → List Fact
facts_in_table table i = take (slice_index_or table.counts i 0) table.facts

-- and on its edges
abbrev pub edges_in_table : BlockFacts → List EdgeFacts
edges_in_table table = all_with_known table.facts table.edges

-- the facts of a block's places and edges
pub record IsBlockTable (functions : List Function) (function : Function) (b : ℕ) (block : Block)
    (table : BlockFacts) : Type 0 where
  pub steps : length table.counts ≡ length block.steps
  pub at_step : (i : ℕ) (step : Step) → slice_get block.steps i ≡ Some step →
      facts_in_table table i ≡ facts_at_step functions function b block i
  pub at_end : table.facts ≡ facts_at_end functions function b block
  pub edges : edges_in_table table ≡ edges_known functions function b block block.ending

pub record IsFunctionTable (functions : List Function) (function : Function) (table : FunctionFacts) : Type 0 where
  pub blocks : length table.blocks ≡ length function.blocks
  pub each : (b : ℕ) (block : Block) (facts : BlockFacts) → slice_get function.blocks b ≡ Some block →
      slice_get table.blocks b ≡ Some facts → IsBlockTable functions function b block facts

-- the facts of a program's places and edges
pub record AreFacts (program : Program) (facts : Facts) : Type 0 where
  pub functions : length facts.functions ≡ length program.functions
  pub each : (f : ℕ) (function : Function) (table : FunctionFacts) → slice_get program.functions f ≡ Some function
      → slice_get facts.functions f ≡ Some table → IsFunctionTable program.functions function table
