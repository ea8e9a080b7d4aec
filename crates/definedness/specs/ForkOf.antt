-- For the functions of this crate and their loops alone: what the terminator of a block does to children, as the table
-- has it.
use Rattle.std.specs.Prelude.{◌≡◌, ◌↔◌, ℕ, List, Some}
use Rattle.linear.specs.declared.form.RegisterId.{RegisterId}
use Rattle.program.specs.declared.function.Block.{Block}
use Rattle.cfg.specs.declared.structure.BlockEdges.{BlockEdges}
use Rattle.definedness_allocas.specs.declared.fork.Fork.{Fork}
use Rattle.definedness.specs.Sure.{IsFork, IsEndOf}

pub record IsForkOf (bodies : List Block) (blocks : List BlockEdges) (b : ℕ) (fork : Fork) : Type 0 where
  pub region : (region : RegisterId) → (fork.region ≡ Some region) ↔ IsFork bodies b region
  pub ended : (detach : ℕ) → (fork.ended ≡ Some detach) ↔ IsEndOf bodies blocks detach b
