-- The law: in an accepted program one labelling has each alloca for sure wherever it is read.
use Rattle.std.specs.Prelude.{◌≡◌, ◌⊎◌, ℕ, true, map, take, Some, None, All, Contains, slice_get}
use Rattle.program.specs.declared.function.Function.{Function}
use Rattle.program.specs.declared.function.Program.{Program}
use Rattle.cfg.specs.Edges.{graph_of}
use Rattle.definedness.specs.declared.act.Act.TheVariants.{Needs}
use Rattle.definedness.specs.declared.act.BlockActs.{BlockActs}
use Rattle.definedness.specs.Definedness.{alloca_table}
use Rattle.definedness.specs.Needs.{gives, given_of}
use Rattle.definedness.specs.Sure.{Labels, AreSets}
use Rattle.verifier.specs.Accepted.{IsAccepted}

-- what is sure and what is due at the start of each block, alloca by alloca
pub record AreReadsSure (function : Function) : Type 0 where
  pub sets : ℕ → Labels
  -- nothing is in a set at the entry, and a set never holds more than each edge gives
  pub respects : (alloca : ℕ) →
      AreSets function.blocks (graph_of function).blocks (map given_of (alloca_table function)) alloca (sets alloca)
  -- where a load, an atomic addition or a call needs an alloca, the block has stored it before, or it is sure when the
  -- block begins
  pub reads : (b k alloca line : ℕ) (block : BlockActs) → slice_get (alloca_table function) b ≡ Some block →
      slice_get block.acts k ≡ Some (Needs alloca line)
      → Contains (gives (take k block.acts)) alloca ⊎ (sets alloca None b ≡ true)

abbrev pub ReadsAreSure : Type 0
ReadsAreSure = (program : Program) → IsAccepted program → All AreReadsSure program.functions
