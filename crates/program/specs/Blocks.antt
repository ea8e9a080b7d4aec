-- What a block declares, where there is one.
use Rattle.std.specs.Prelude.{List, [], Option, Some, None}
use Rattle.program.specs.declared.function.Block.{Block}
use Rattle.program.specs.declared.instruction.Phi.{Phi}

abbrev pub block_phis : Option Block → List Phi
block_phis None = []
block_phis (Some block) = block.phis
