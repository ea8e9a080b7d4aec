-- For the functions of this crate and their loops alone: what a block does, as far as 128 bits hold it.
use Rattle.std.specs.Prelude.{◌≡◌, ℕ, List}
use Rattle.program.specs.declared.function.Block.{Block}
use Rattle.program.specs.declared.function.Function.{Function}
use Rattle.cost_table.specs.declared.work.Work.{Work}
use Rattle.cost_table.specs.Cost.{calls_done, instructions_done}
use Rattle.cost_table.specs.Tables.{as_u128}

pub record IsWork (functions : List Function) (f : ℕ) (block : Block) (work : Work) : Type 0 where
  pub calls : work.calls ≡ as_u128 (calls_done f block)
  pub instructions : work.instructions ≡ as_u128 (instructions_done functions f block)
