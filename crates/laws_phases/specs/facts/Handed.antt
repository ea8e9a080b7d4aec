-- What the facts hand on to the rules above them: facts at places and on edges, true in the frames there, from the
-- start on.
use Rattle.std.specs.Prelude.{◌≡◌, ℕ, List, [], ◌++◌, length, map, Option, Some, None, All, slice_get, ℤ}
use Rattle.semantics.specs.Frames.{block_at}
use Rattle.semantics.specs.State.{root_frame}
use Rattle.linear.specs.declared.form.Fact.{Fact}
use Rattle.program.specs.declared.function.Block.{Block}
use Rattle.program.specs.declared.function.Function.{Function}
use Rattle.program.specs.declared.function.Program.{Program}
use Rattle.program.specs.declared.instruction.Ending.{Ending}
use Rattle.program.specs.declared.instruction.Step.{Step}
use Rattle.program.specs.declared.instruction.Terminator.{Terminator}
use Rattle.program.specs.declared.instruction.Terminator.TheVariants as terminator
use Rattle.ranges.specs.declared.edge.EdgeSums.{EdgeSums}
use Rattle.ranges.specs.Sums.{facts_of}
use Rattle.ranges.specs.Edges.{edges_out}
use Rattle.ranges.specs.Places.{facts_at_step, facts_at_end}
use Rattle.laws_conditions.specs.rules.Costs.{numbers}
use Rattle.laws_conditions.specs.rules.ShownCosts.{Out, FactsHold}
use Rattle.laws_phases.specs.facts.Known.{known_at_place, IsMet, KnownHold}
use Rattle.laws_phases.specs.facts.Owing.{IsTyped, AreFactsStable}
use Rattle.ranges.specs.Rules.{AreRangesRight}

-- an edge with what is known on it
abbrev pub out_of : List Fact → EdgeSums → Out
out_of known e = record { target = e.to.0; facts = known ++ facts_of e.sums }

abbrev pub outs_of : List Fact → List EdgeSums → List Out
outs_of known edges = map (out_of known) edges

-- the edges of a jump, branch, switch or sync, where this is known at the block's end
abbrev pub outs_along : List Fact → List Step → Terminator → List Out
outs_along known steps (terminator.Jump target) = outs_of known (edges_out steps (terminator.Jump target))
outs_along known steps (terminator.Branch condition when_true when_false) =
    outs_of known (edges_out steps (terminator.Branch condition when_true when_false))
outs_along known steps (terminator.Switch width value default cases) =
    outs_of known (edges_out steps (terminator.Switch width value default cases))
outs_along known steps (terminator.Sync region target) = outs_of known (edges_out steps (terminator.Sync region target))
outs_along known steps other = []

abbrev pub outs_behind : List Fact → List Step → Option Ending → List Out
outs_behind known steps None = []
outs_behind known steps (Some ending) = outs_along known steps ending.terminator

abbrev pub outs_in : (ℕ → List Fact) → Option Block → List Out
outs_in known None = []
outs_in known (Some block) = outs_behind (known (length block.steps)) block.steps block.ending

abbrev pub outs_at : Program → ℕ → ℕ → List Out
outs_at prog function block = outs_in (known_at_place prog function block) (block_at prog function block)

-- the facts hold where the rules on cost look for them
abbrev pub FactsHandedOn : Type 0
FactsHandedOn = (prog : Program) → AreRangesRight prog → IsTyped prog → AreFactsStable prog →
    FactsHold prog (λ f. KnownHold prog f) (known_at_place prog) (outs_at prog)

-- they hold at the start, where the arguments meet what `main` requires
abbrev pub FactsAtStart : Type 0
FactsAtStart =
    (prog : Program) → AreRangesRight prog → (arguments : List ℤ) →
    ((function : Function) → slice_get prog.functions prog.main.0 ≡ Some function →
    All (IsMet (numbers (root_frame prog arguments).registers)) function.requirements) →
    KnownHold prog (root_frame prog arguments)

-- the facts of a place are those of the table
pub record IsTabled (prog : Program) (f b : ℕ) (function : Function) (block : Block) : Type 0 where
  pub at_step : (i : ℕ) (step : Step) → slice_get block.steps i ≡ Some step →
      known_at_place prog f b i ≡ facts_at_step prog.functions function b block i
  pub at_end : known_at_place prog f b (length block.steps) ≡ facts_at_end prog.functions function b block

abbrev pub FactsTabled : Type 0
FactsTabled = (prog : Program) (f b : ℕ) (function : Function) (block : Block) →
    slice_get prog.functions f ≡ Some function →
    slice_get function.blocks b ≡ Some block → IsTabled prog f b function block
