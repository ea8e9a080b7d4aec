-- The edges of a function: where control may go at the end of each block, and what the phis of the target take.
use Rattle.std.specs.Prelude.{ℕ, true, false, List, [], ◌∷◌, suc, map, Option, Some, None, slice_get}
use Rattle.std.specs.List.{filter_map}
use Rattle.std.specs.Option.{option_map}
use Rattle.program.specs.Phis.{entry_for}
use Rattle.program.specs.declared.identifier.BlockId.{BlockId}
use Rattle.program.specs.declared.instruction.Case.{Case}
use Rattle.program.specs.declared.instruction.Operand.{Operand}
use Rattle.program.specs.declared.instruction.Phi.{Phi}
use Rattle.program.specs.declared.instruction.Terminator.{Terminator}
use Rattle.program.specs.declared.instruction.Terminator.TheVariants.{Jump, Branch, Switch, Detach}
use Rattle.program.specs.declared.instruction.Terminator.TheVariants.{Sync}
use Rattle.program.specs.declared.instruction.Ending.{Ending}
use Rattle.program.specs.declared.function.Block.{Block}
use Rattle.program.specs.declared.function.Function.{Function}
use Rattle.program.specs.declared.function.Program.{Program}
use Rattle.cfg.specs.declared.structure.Way.{Way}
use Rattle.cfg.specs.declared.structure.Way.TheVariants.{Branch as ByBranch, Detached, Continued, Synced}
use Rattle.cfg.specs.declared.structure.Guard.{Guard}
use Rattle.cfg.specs.declared.structure.Guard.TheVariants.{Silent, Tested, Matched}
use Rattle.cfg.specs.declared.structure.Successor.{Successor}
use Rattle.cfg.specs.declared.structure.Move.{Move}
use Rattle.cfg.specs.declared.structure.Edge.{Edge}
use Rattle.cfg.specs.declared.structure.BlockEdges.{BlockEdges}
use Rattle.cfg.specs.declared.structure.FunctionGraph.{FunctionGraph}

abbrev pub move_from : ℕ → Phi → Option Move
move_from from phi = option_map (λ v. record { register = phi.register; value = v }) (entry_for from phi.entries)

-- what the phis take on an edge from this block, in their order
abbrev pub moves_from : ℕ → List Phi → List Move
moves_from from phis = filter_map (move_from from) phis

abbrev pub successor : Way → BlockId → Guard → Successor
successor way to guard = record { to = to; way = way; guard = guard }

abbrev pub case_successor : Operand → Case → Successor
case_successor value c = successor ByBranch c.target (Matched value c.number)

-- where a terminator leads, in its order; a reattach leads nowhere
abbrev pub successors : Terminator → List Successor
successors (Jump target) = successor ByBranch target Silent ∷ []
successors (Branch condition when_true when_false) =
    successor ByBranch when_true (Tested condition true) ∷ (successor ByBranch when_false (Tested condition false) ∷ [])
successors (Switch width value default cases) = successor ByBranch default Silent ∷ map (case_successor value) cases
successors (Detach region body continuation) =
    successor Detached body Silent ∷ (successor Continued continuation Silent ∷ [])
successors (Sync region target) = successor (Synced region) target Silent ∷ []
successors other = []

abbrev pub edge_into : ℕ → Successor → Block → Edge
edge_into from x target = record { to = x.to; way = x.way; moves = moves_from from target.phis }

-- the edge to a successor of a block; none where the function has no such block
abbrev pub edge_of : List Block → ℕ → Successor → Option Edge
edge_of blocks from x = option_map (edge_into from x) (slice_get blocks x.to.0)

abbrev pub edges_along : List Block → ℕ → Terminator → List Edge
edges_along blocks from t = filter_map (edge_of blocks from) (successors t)

abbrev pub edges_at_end : List Block → ℕ → Option Ending → List Edge
edges_at_end blocks from None = []
edges_at_end blocks from (Some ending) = edges_along blocks from ending.terminator

-- the edges of the last blocks of a function, from the block of this number on
abbrev pub edges_from : List Block → ℕ → List Block → List BlockEdges
edges_from blocks from [] = []
edges_from blocks from (block ∷ rest) = record { edges = edges_at_end blocks from block.ending } ∷
    edges_from blocks (suc from) rest

abbrev pub graph_of : Function → FunctionGraph
graph_of function = record { blocks = edges_from function.blocks 0 function.blocks }

abbrev pub graphs_of : Program → List FunctionGraph
graphs_of program = map graph_of program.functions
