-- Where a terminator leads, and by which way.
use Rattle.std.specs.Prelude.{◌≡◌, ℕ, Some, slice_get}
use Rattle.program.specs.declared.function.Block.{Block}
use Rattle.program.specs.declared.function.Function.{Function}
use Rattle.program.specs.declared.function.Program.{Program}
use Rattle.program.specs.declared.instruction.Terminator.{Terminator}
use Rattle.program.specs.declared.instruction.Terminator.TheVariants as terminator
use Rattle.cfg.specs.declared.structure.Way.{Way}
use Rattle.cfg.specs.declared.structure.Way.TheVariants as way
use Rattle.laws_conditions.specs.rules.Moves.{JumpsTo, SyncsTo}

abbrev pub DetachesTo : Terminator → ℕ → Type 0
DetachesTo (terminator.Detach region body continuation) b = body.0 ≡ b
DetachesTo other b = ⊥

abbrev pub ContinuesTo : Terminator → ℕ → Type 0
ContinuesTo (terminator.Detach region body continuation) b = continuation.0 ≡ b
ContinuesTo other b = ⊥

-- the terminator leads to the block this way; a reattach leads nowhere in its frame
abbrev pub LeadsTo : Terminator → Way → ℕ → Type 0
LeadsTo t way.Branch b = JumpsTo t b
LeadsTo t way.Detached b = DetachesTo t b
LeadsTo t way.Continued b = ContinuesTo t b
LeadsTo t (way.Synced region) b = SyncsTo t region.0 b

-- the block of this number of the function of that number
pub record IsBlock (prog : Program) (f b : ℕ) (function : Function) (block : Block) : Type 0 where
  pub at_function : slice_get prog.functions f ≡ Some function
  pub at_block : slice_get function.blocks b ≡ Some block
