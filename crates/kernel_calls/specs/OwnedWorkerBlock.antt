-- What a `WorkerAt` owns: what a box of its block does, or nothing. Assumes nothing: this is a definition.
use base.Fml.{Fml, ftrue}
use denote.RawPtr.{Ptr}
use Rattle.std.specs.Prelude.{Option, Some, None}
use Rattle.std.specs.Box.Ownership.{box_owns}
use Rattle.std.specs.declared.alloc.Global.{Global}
use Rattle.program.specs.declared.function.Program.{Program}
use Rattle.kernel_calls.specs.contracts.block.WorkerBlock.{the_row}
use Rattle.std.specs.contracts.impls.GlobalAllocator.TheImpl.{ghosts}

-- ownership of the block at p and the right to free its block, where there is one
abbrev pub owned : Global → Ptr → Option Program → Fml
owned alloc p None = ftrue
owned alloc p (Some x) = box_owns (ghosts.dealloc_token alloc) the_row p x
