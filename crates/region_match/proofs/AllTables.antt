-- The tables of all functions.
use Rattle.std.proofs.Common.{◌≡◌, ℕ, ◌+◌, ◌<◌, ◌≤◌, List, [], ◌∷◌, ◌++◌, zero, suc, length, map, take, get_or, Option, None, refl, sym, ap, subst, ⊎_elim, ◌∙◌, arith, take_all}
use Rattle.std.specs.List.{Any}
use Rattle.std.proofs.lemmas.List.{take_more, get_or-map, length-map}
use Rattle.program.specs.declared.function.Function.{Function}
use Rattle.program.specs.declared.function.Program.{Program}
use Rattle.cfg.specs.declared.structure.FunctionGraph.{FunctionGraph}
use Rattle.refusal.specs.declared.broken.Broken.{Broken}
use Rattle.cfg.specs.Edges.{graph_of}
use Rattle.refusal.specs.Earliest.{IsJudged}
use Rattle.refusal.specs.Named.{IsLowerOf}
use Rattle.refusal.proofs.Judging.{judged_lower, judged_same, Any-append_left, Any-push_cases}
use Rattle.std.proofs.lemmas.List.Quantifiers.{Any-push}
use Rattle.region_match.specs.declared.tables.FunctionTasks.{FunctionTasks}
use Rattle.region_match.specs.Tasks.{AreTasks, AreAllTasks}
use Rattle.region_match.specs.Mixed.{IsMixedIn, IsMixed}

pub all_push : (graphs : List FunctionGraph) (tables : List FunctionTasks) (graph : FunctionGraph) (table : FunctionTasks) → AreAllTasks graphs tables → AreTasks graph.blocks table.tasks → AreAllTasks (graphs ++ graph ∷ []) (tables ++ table ∷ [])
all_push [] [] graph table all one = (one, tt)
all_push [] (t ∷ ts) graph table all one = absurd all
all_push (g ∷ gs) [] graph table all one = absurd all
all_push (g ∷ gs) (t ∷ ts) graph table all one = (all.0, all_push gs ts graph table all.1 one)

pub all_length : (graphs : List FunctionGraph) (tables : List FunctionTasks) → AreAllTasks graphs tables → length tables ≡ length graphs
all_length [] [] all = refl
all_length [] (t ∷ ts) all = absurd all
all_length (g ∷ gs) [] all = absurd all
all_length (g ∷ gs) (t ∷ ts) all = ap suc (all_length gs ts all.1)

pub all_at : (graphs : List FunctionGraph) (tables : List FunctionTasks) (i : ℕ) (graph : FunctionGraph) (table : FunctionTasks) → AreAllTasks graphs tables → i < length graphs → AreTasks (get_or graphs i graph).blocks (get_or tables i table).tasks
all_at [] [] i graph table all l = absurd (omega (arith, l))
all_at [] (t ∷ ts) i graph table all l = absurd all
all_at (g ∷ gs) [] i graph table all l = absurd all
all_at (g ∷ gs) (t ∷ ts) zero graph table all l = all.0
all_at (g ∷ gs) (t ∷ ts) (suc i) graph table all l = all_at gs ts i graph table all.1 (omega arith)

-- the graph of the function that a loop has come to
pub graph_at : (functions : List Function) (graphs : List FunctionGraph) (i : ℕ) (function : Function) (graph : FunctionGraph) → graphs ≡ map graph_of functions → i < length functions → function ≡ get_or functions i function → graph ≡ get_or graphs i graph → graph ≡ graph_of function
graph_at functions graphs i function graph made l is read = read ∙ ap (λ gs. get_or gs i graph) made ∙ get_or-map graph_of functions i function graph l ∙ ap graph_of (sym is)

pub graphs_length : (functions : List Function) (graphs : List FunctionGraph) → graphs ≡ map graph_of functions → length graphs ≡ length functions
graphs_length functions graphs made = ap length made ∙ length-map functions graph_of

-- the functions so far: their tables, or a block with two tasks
pub record Tabling (functions : List Function) (graphs : List FunctionGraph) (i : ℕ) (tables : List FunctionTasks) (named : Option Broken) : Type 0 where
  pub judged : IsJudged (AreAllTasks (take i graphs) tables) (λ b. Any (λ f. IsMixedIn f b) (take i functions)) named

pub Tabling-none : (functions : List Function) (graphs : List FunctionGraph) → Tabling functions graphs 0 [] None
Tabling-none functions graphs = record { judged = (tt, λ b any. absurd (omega (arith, any.2))) }

any_next : (functions : List Function) (i : ℕ) (f : Function) (named broken r : Option Broken) (S T : Type 0) → i < length functions → f ≡ get_or functions i f → IsJudged S (λ b. Any (λ f. IsMixedIn f b) (take i functions)) named → IsJudged T (IsMixedIn f) broken → IsLowerOf named broken r → IsJudged (S × T) (λ b. Any (λ f. IsMixedIn f b) (take (i + 1) functions)) r
any_next functions i f named broken r S T l is before here lower =
    let grown : take i functions ++ f ∷ [] ≡ take (i + 1) functions = ap (λ x. take i functions ++ x ∷ []) is ∙ sym (take_more functions i f l) in
    subst (λ fs. IsJudged (S × T) (λ b. Any (λ f. IsMixedIn f b) fs) r) grown
    (judged_same _ _ _ _ r (λ s. s)
    (λ b p. ⊎_elim (λ old. Any-append_left (λ x. IsMixedIn x b) (take i functions) (f ∷ []) old) (λ new. Any-push (λ x. IsMixedIn x b) (take i functions) f new) p)
    (λ b p. Any-push_cases (λ x. IsMixedIn x b) (take i functions) f p)
    (judged_lower S T (λ b. Any (λ f. IsMixedIn f b) (take i functions)) (IsMixedIn f) named broken r before here lower))

pub Tabling-next : (functions : List Function) (graphs : List FunctionGraph) (i : ℕ) (f : Function) (graph : FunctionGraph) (tables : List FunctionTasks) (table : FunctionTasks) (named broken r : Option Broken) → i < length functions → f ≡ get_or functions i f → i < length graphs → graph ≡ get_or graphs i graph → Tabling functions graphs i tables named → IsJudged (AreTasks graph.blocks table.tasks) (IsMixedIn f) broken → IsLowerOf named broken r → Tabling functions graphs (i + 1) (tables ++ table ∷ []) r
Tabling-next functions graphs i f graph tables table named broken r l is l' read t here lower = record {
  judged =
      let grown : take i graphs ++ graph ∷ [] ≡ take (i + 1) graphs = ap (λ x. take i graphs ++ x ∷ []) read ∙ sym (take_more graphs i graph l') in
      judged_same _ _ _ _ r
      (λ s. subst (λ gs. AreAllTasks gs (tables ++ table ∷ [])) grown (all_push (take i graphs) tables graph table s.0 s.1))
      (λ b p. p)
      (λ b p. p)
      (any_next functions i f named broken r (AreAllTasks (take i graphs) tables) (AreTasks graph.blocks table.tasks) l is t.judged here lower);
}

pub tabling_all : (program : Program) (graphs : List FunctionGraph) (i : ℕ) (tables : List FunctionTasks) (named : Option Broken) → length program.functions ≤ i → length graphs ≡ length program.functions → Tabling program.functions graphs i tables named → IsJudged (AreAllTasks graphs tables) (IsMixed program) named
tabling_all program graphs i tables named past size t =
    let whole = rw (take_all {A = Function} i program.functions past) at t.judged in
    rw (take_all {A = FunctionGraph} i graphs (omega (arith, past, size))) at whole
