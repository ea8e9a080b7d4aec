-- The rules on definedness: what is broken in a module.
use Rattle.std.specs.Prelude.{◌⊎◌, ℕ, suc, List, [], ◌∷◌, map, Any}
use Rattle.program.specs.declared.function.Block.{Block}
use Rattle.program.specs.declared.function.Function.{Function}
use Rattle.program.specs.declared.function.Program.{Program}
use Rattle.refusal.specs.declared.broken.Broken.{Broken}
use Rattle.cfg.specs.Edges.{graph_of}
use Rattle.definedness.specs.declared.act.BlockActs.{BlockActs}
use Rattle.definedness.specs.Missing.{IsMissing}
use Rattle.definedness.specs.Needs.{given_of, IsTableBroken}
use Rattle.definedness.specs.AllocaActs.{alloca_acts}
use Rattle.definedness.specs.RegisterActs.{register_acts}
use Rattle.definedness.specs.Sure.{IsNeverSure}

-- what the last blocks of a function do with registers, from the block of this number on
abbrev pub registers_from : Function → ℕ → List Block → List BlockActs
registers_from function b [] = []
registers_from function b (block ∷ rest) = record { acts = register_acts function b block } ∷
    registers_from function (suc b) rest

abbrev pub register_table : Function → List BlockActs
register_table function = registers_from function 0 function.blocks

-- 401: a use of a register, and a path from the entry to it on which no definition of the register stands before it
abbrev pub IsUndefined : Function → Broken → Type 0
IsUndefined function broken = IsTableBroken (IsMissing (graph_of function).blocks
    (map given_of (register_table function))) 401 (register_table function) broken

abbrev pub alloca_table : Function → List BlockActs
alloca_table function = map (λ block. record { acts = alloca_acts function.allocas block }) function.blocks

-- 402: a load or the passing of an alloca that nothing before it in its block stores, where no labelling has the alloca
-- for sure when the block begins
abbrev pub IsUnsure : Function → Broken → Type 0
IsUnsure function broken = IsTableBroken (IsNeverSure function.blocks (graph_of function).blocks
    (map given_of (alloca_table function))) 402 (alloca_table function) broken

abbrev pub IsFunctionBroken : Function → Broken → Type 0
IsFunctionBroken function broken = IsUndefined function broken ⊎ IsUnsure function broken

abbrev pub IsDefinednessBroken : Program → Broken → Type 0
IsDefinednessBroken program broken = Any (λ function. IsFunctionBroken function broken) program.functions
