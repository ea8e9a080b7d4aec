-- A program, judged function by function.
use Rattle.std.proofs.Common.{◌≡◌, ℕ, ◌+◌, ◌<◌, ◌≤◌, List, [], ◌∷◌, ◌++◌, length, map, take, get_or, Option, None, refl, arith, take_all}
use Rattle.std.specs.List.{All, Any}
use Rattle.std.proofs.lemmas.List.{map_push, take_more}
use Rattle.std.proofs.lemmas.List.Elements.{All-nil}
use Rattle.program.specs.declared.function.Function.{Function}
use Rattle.program.specs.declared.function.Program.{Program}
use Rattle.cfg.specs.declared.structure.FunctionGraph.{FunctionGraph}
use Rattle.refusal.specs.declared.broken.Broken.{Broken}
use Rattle.cfg.specs.Edges.{graph_of, graphs_of}
use Rattle.cfg.specs.Rules.{IsFunctionRight, IsFunctionBroken, IsGraphRight, IsGraphBroken}
use Rattle.refusal.specs.Earliest.{IsJudged}
use Rattle.refusal.specs.Named.{IsLowerOf}
use Rattle.refusal.proofs.Judging.{judged_next}

-- the functions so far: their graphs, and what is broken in them
pub record Judging (functions : List Function) (i : ℕ) (made : List FunctionGraph) (named : Option Broken) : Type 0 where
  pub graphs : made ≡ map graph_of (take i functions)
  pub judged : IsJudged (All IsFunctionRight (take i functions)) (λ b. Any (λ f. IsFunctionBroken f b) (take i functions)) named

pub Judging-none : (functions : List Function) → Judging functions 0 [] None
Judging-none functions = record { graphs = refl; judged = (All-nil _, λ b any. absurd (omega (arith, any.2))) }

pub Judging-next : (functions : List Function) (i : ℕ) (f : Function) (made : List FunctionGraph) (graph : FunctionGraph) (named broken r : Option Broken) → i < length functions → f ≡ get_or functions i f → Judging functions i made named → graph ≡ graph_of f → IsJudged (IsFunctionRight f) (IsFunctionBroken f) broken → IsLowerOf named broken r → Judging functions (i + 1) (made ++ graph ∷ []) r
Judging-next functions i f made graph named broken r l is j read here lower = record {
  graphs = rw (take_more functions i f l, ← is, map_push graph_of (take i functions) f, j.graphs, read) refl;
  judged = judged_next IsFunctionRight IsFunctionBroken functions i f named broken r l is j.judged here lower;
}

pub graphs_all : (program : Program) (i : ℕ) (made : List FunctionGraph) (named : Option Broken) → length program.functions ≤ i → Judging program.functions i made named → made ≡ graphs_of program
graphs_all program i made named past j = rw (take_all {A = Function} i program.functions past) at j.graphs

pub judged_all : (program : Program) (i : ℕ) (made : List FunctionGraph) (named : Option Broken) → length program.functions ≤ i → Judging program.functions i made named → IsJudged (IsGraphRight program) (IsGraphBroken program) named
judged_all program i made named past j = rw (take_all {A = Function} i program.functions past) at j.judged
