-- Edges with what is known on them, and what they owe their targets.
use Rattle.std.specs.Prelude.{ℕ, ◌==◌, if◌then◌else◌, ℤ, pos, negsuc, ◌*ℤ◌, Bool, true, false, List, [], ◌∷◌, ◌++◌, map}
use Rattle.std.specs.Prelude.{Option, Some, None, slice_get}
use Rattle.linear.specs.declared.form.RegisterId.{RegisterId}
use Rattle.linear.specs.declared.form.Fact.{Fact}
use Rattle.program.specs.syntax.declared.operator.Predicate.{Predicate}
use Rattle.program.specs.syntax.declared.operator.Predicate.TheVariants.{Equal}
use Rattle.program.specs.syntax.declared.operator.Predicate.TheVariants.{SignedGreater, SignedAtLeast, SignedLess}
use Rattle.program.specs.syntax.declared.operator.Predicate.TheVariants.{SignedAtMost}
use Rattle.program.specs.Blocks.{block_phis}
use Rattle.program.specs.declared.annotation.Inequality.{Inequality}
use Rattle.program.specs.declared.identifier.BlockId.{BlockId}
use Rattle.program.specs.declared.instruction.Instruction.{Instruction}
use Rattle.program.specs.declared.instruction.Instruction.TheVariants as instruction
use Rattle.program.specs.declared.instruction.Operand.{Operand}
use Rattle.program.specs.declared.instruction.Operand.TheVariants.{Number, Register}
use Rattle.program.specs.declared.instruction.Step.{Step}
use Rattle.program.specs.declared.instruction.Terminator.{Terminator}
use Rattle.program.specs.declared.function.Block.{Block}
use Rattle.program.specs.Steps.{first_said}
use Rattle.ranges_owed.specs.cfg.declared.structure.Way.{Way}
use Rattle.ranges_owed.specs.cfg.declared.structure.Guard.{Guard}
use Rattle.ranges_owed.specs.cfg.declared.structure.Guard.TheVariants.{Silent, Tested, Matched}
use Rattle.ranges_owed.specs.cfg.declared.structure.Successor.{Successor}
use Rattle.ranges_owed.specs.cfg.Edges.{moves_from, successors}
use Rattle.ranges_owed.specs.declared.sum.Sum.{Sum}
use Rattle.ranges_owed.specs.declared.sum.Obligation.{Obligation}
use Rattle.ranges.specs.declared.edge.Comparison.{Comparison}
use Rattle.ranges.specs.declared.edge.EdgeSums.{EdgeSums}
use Rattle.ranges.specs.declared.table.EdgeFacts.{EdgeFacts}
use Rattle.ranges_owed.specs.Sums.{one, two}
use Rattle.ranges.specs.Sums.{facts_of}
use Rattle.ranges_owed.specs.Owed.{inequalities_owed}

-- ---- the compare that a branch takes

abbrev pub compare_of : RegisterId → Instruction → Option Comparison
compare_of r (instruction.Compare d predicate width x y) =
    if d.0 == r.0 then Some (record { predicate = predicate; left = x; right = y }) else None
compare_of r other = None

-- the first compare among the steps that defines the register
abbrev pub compared : RegisterId → List Step → Option Comparison
compared r steps = first_said (compare_of r) steps

-- ---- what a branch makes known

-- x >= y
abbrev pub at_least : Operand → Operand → Sum
at_least x y = two (pos 0) (pos 1) x (negsuc 0) y

-- x > y
abbrev pub above : Operand → Operand → Sum
above x y = two (negsuc 0) (pos 1) x (negsuc 0) y

-- a signed compare or its opposite, and equality where it holds; the others say nothing
abbrev pub compare_sums : Predicate → Bool → Operand → Operand → List Sum
compare_sums Equal true x y = at_least x y ∷ (at_least y x ∷ [])
compare_sums SignedGreater true x y = above x y ∷ []
compare_sums SignedGreater false x y = at_least y x ∷ []
compare_sums SignedAtLeast true x y = at_least x y ∷ []
compare_sums SignedAtLeast false x y = above y x ∷ []
compare_sums SignedLess true x y = above y x ∷ []
compare_sums SignedLess false x y = at_least x y ∷ []
compare_sums SignedAtMost true x y = at_least y x ∷ []
compare_sums SignedAtMost false x y = above x y ∷ []
compare_sums predicate holds x y = []

abbrev pub branch_sums : Option Comparison → Bool → List Sum
branch_sums None holds = []
branch_sums (Some c) holds = compare_sums c.predicate holds c.left c.right

-- the register equals the case's number
abbrev pub case_sums : Operand → ℤ → List Sum
case_sums (Number z) number = []
case_sums (Register r) number = one (negsuc 0 *ℤ number) (pos 1) (Register r) ∷ (one number (negsuc 0) (Register r) ∷
    [])

abbrev pub edge_to : BlockId → Way → List Sum → EdgeSums
edge_to to way sums = record { to = to; way = way; sums = sums }

-- what it makes known that a run goes to a successor
abbrev pub guard_sums : List Step → Guard → List Sum
guard_sums steps Silent = []
guard_sums steps (Tested condition holds) = branch_sums (compared condition steps) holds
guard_sums steps (Matched value number) = case_sums value number

abbrev pub edge_along : List Step → Successor → EdgeSums
edge_along steps x = edge_to x.to x.way (guard_sums steps x.guard)

-- the edges of a terminator in its order, each with what its being taken makes known; a reattach has none
abbrev pub edges_out : List Step → Terminator → List EdgeSums
edges_out steps t = map (edge_along steps) (successors t)

-- ---- at the target

abbrev pub keeps_of : Option Block → List Inequality
keeps_of None = []
keeps_of (Some block) = block.keeps

-- an edge from a block where this is known at its end: what its target's phis take, and what is known on it
abbrev pub edge_facts : List Block → ℕ → List Fact → EdgeSums → EdgeFacts
edge_facts blocks from known e =
    record {
      to = e.to;
      way = e.way;
      moves = moves_from from (block_phis (slice_get blocks e.to.0));
      facts = known ++
          facts_of e.sums;
    }

abbrev pub all_edge_facts : List Block → ℕ → List Fact → List EdgeSums → List EdgeFacts
all_edge_facts blocks from known edges = map (edge_facts blocks from known) edges

-- 505: the `keeps` of the target, with what its phis take put in
abbrev pub edge_owed : List Block → EdgeFacts → List Obligation
edge_owed blocks e = inequalities_owed 505 e.moves (keeps_of (slice_get blocks e.to.0))
