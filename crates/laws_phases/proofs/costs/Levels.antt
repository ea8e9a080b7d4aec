-- The detaches around a block are those of its task, and no path passes one twice on the way in.
use Rattle.std.proofs.Common.{◌≡◌, ◌∙◌, ℕ, zero, suc, ◌+◌, ◌<◌, ◌≤◌, eqb, List, [], ◌∷◌, length, get_or, map, Option, Some, None, refl, sym, ap, subst, arith, slice_get}
use Rattle.std.proofs.lemmas.Bool.{ne_eqb, eqb-true}
use Rattle.std.proofs.lemmas.List.Elements.{All-contains}
use Rattle.std.proofs.lemmas.List.Folds.{Any-from_list_any}
use Rattle.std.proofs.lemmas.Map.Keys.{IsDistinct-from_apart}
use Rattle.std.proofs.lemmas.Map.Steps.{length-le_from_distinct_below}
use Rattle.std.proofs.lemmas.Option.{slice_get_within}
use Rattle.semantics.specs.Frames.{Ends, item_at}
use Rattle.program.specs.declared.function.Block.{Block}
use Rattle.program.specs.declared.function.Function.{Function}
use Rattle.program.specs.declared.function.Program.{Program}
use Rattle.program.specs.declared.instruction.Terminator.{Terminator}
use Rattle.program.specs.declared.instruction.Terminator.TheVariants as terminator
use Rattle.cfg.specs.declared.structure.BlockEdges.{BlockEdges}
use Rattle.cfg.specs.declared.structure.Way.{Way}
use Rattle.cfg.specs.declared.structure.Way.TheVariants as way
use Rattle.cfg.specs.Edges.{graph_of, graphs_of}
use Rattle.cfg.specs.Paths.{Leg, IsPath}
use Rattle.cfg.specs.Rules.{IsFunctionRight, IsGraphRight}
use Rattle.cfg.proofs.EdgeLists.{length-edges_from}
use Rattle.region_match.specs.declared.task.Task.{Task}
use Rattle.region_match.specs.declared.tables.FunctionTasks.{FunctionTasks}
use Rattle.region_match.specs.declared.tables.Regions.{Regions}
use Rattle.region_match.specs.Matched.{AreRegionsRight}
use Rattle.region_match.specs.Tasks.{task_along, task_on, HasTask, innermost, task_at, AreTasks, AreAllTasks}
use Rattle.laws_conditions.specs.rules.Depths.{Levels}
use Rattle.laws_phases.specs.defined.Leads.{LeadsTo, IsBlock}
use Rattle.laws_phases.specs.defined.Names.{IsNamed}
use Rattle.laws_phases.proofs.defined.Lists.{at_within}
use Rattle.laws_phases.proofs.defined.Placed.{Arrives, arrives}
use Rattle.laws_phases.proofs.defined.Visits.{one_task}
use Rattle.cost_table.specs.Depth.{detaches_within, detaches_around, tasks_of}
use Rattle.region_match.specs.Tasks.{tasks_in}
use Rattle.laws_phases.specs.costs.Depths.{level_of}
use Rattle.laws_phases.specs.costs.Levels.{LevelsByTasks}
use Rattle.region_match.proofs.OneTask.{edges_within}

-- ---- tasks within tasks

-- the innermost detach of a task is in the task around it
record Around (blocks : List BlockEdges) (detach : ℕ) (outer : List ℕ) : Type 0 where
  below : detach < length blocks
  has : HasTask blocks detach outer

around : (blocks : List BlockEdges) (b : ℕ) (legs : List Leg) (detach : ℕ) (outer : List ℕ) → IsPath blocks 0 legs b → task_on legs ≡ detach ∷ outer → Around blocks detach outer
around blocks b [] detach outer path e = absurd (cc)
around blocks b (leg ∷ legs) detach outer path e = by leg.edge.way e (λ h. around blocks leg.from legs detach outer path.2 h)
  where
    here : leg.from ≡ detach → task_on legs ≡ outer → Around blocks detach outer
    here same rest = record {
      below = subst (λ n. n < length blocks) same (edges_within blocks leg.from leg.edge path.0);
      has = (legs, subst (λ n. IsPath blocks 0 legs n) same path.2, rest);
    }

    by : (w : Way) → task_along w leg.from (task_on legs) ≡ detach ∷ outer → (task_on legs ≡ detach ∷ outer → Around blocks detach outer) → Around blocks detach outer
    by way.Branch h rest = rest h
    by way.Detached h rest = here (cc) (cc)
    by way.Continued h rest = rest h
    by (way.Synced r) h rest = rest h

-- each detach of a task is a block, in the task of those around it
abbrev IsChain : List BlockEdges → List ℕ → Type 0
IsChain blocks [] = Unit {0}
IsChain blocks (d ∷ ds) = Around blocks d ds × IsChain blocks ds

chain : (blocks : List BlockEdges) (ds : List ℕ) (b : ℕ) → HasTask blocks b ds → IsChain blocks ds
chain blocks [] b h = tt
chain blocks (d ∷ ds) b h = let first = around blocks b h.0 d ds h.1 h.2 in (first, chain blocks ds d first.has)

-- the one of this place, with those around it
record Place (blocks : List BlockEdges) (ds : List ℕ) (k d : ℕ) : Type 0 where
  outer : List ℕ
  around : Around blocks (get_or ds k d) outer
  depth : length outer + suc k ≡ length ds

place : (blocks : List BlockEdges) (ds : List ℕ) (k d : ℕ) → IsChain blocks ds → k < length ds → Place blocks ds k d
place blocks [] k d chained within = absurd (omega (arith, within))
place blocks (x ∷ xs) zero d chained within = record { outer = xs; around = chained.0; depth = omega arith }
place blocks (x ∷ xs) (suc k) d chained within =
    let r = place blocks xs k d chained.1 (omega (arith, within)) in
    let n = r.depth in
    record { outer = r.outer; around = r.around; depth = omega (arith, n) }

-- so there are no more than blocks
no_more : (blocks : List BlockEdges) (ds : List ℕ) → IsChain blocks ds → ((d : ℕ) (s t : List ℕ) → d < length blocks → HasTask blocks d s → HasTask blocks d t → s ≡ t) → length ds ≤ length blocks
no_more blocks ds chained one =
    length-le_from_distinct_below ds (length blocks)
    (IsDistinct-from_apart eqb ds
    (λ i j d less within.
    let p = place blocks ds i d chained (omega (arith, less, within)) in
    let q = place blocks ds j d chained within in
    ne_eqb (get_or ds i d) (get_or ds j d)
    (λ e.
    let same = ap length (one (get_or ds i d) p.outer q.outer p.around.below p.around.has (subst (λ n. HasTask blocks n q.outer) (sym e) q.around.has)) in
    let at_p = p.depth in
    let at_q = q.depth in
    absurd (omega (arith, less, same, at_p, at_q)))))
    (λ q is.
    let any = Any-from_list_any (λ (x : ℕ). eqb q x) ds is in
    let p = place blocks ds any.0 any.1 chained any.2 in
    let same : get_or ds any.0 any.1 ≡ q = any.3 ∙ sym (eqb-true q any.1 any.4) in
    subst (λ n. n < length blocks) same p.around.below)

-- ---- levels

within_is : (blocks : List BlockEdges) (tasks : List Task) → AreTasks blocks tasks → (n : ℕ) (ds : List ℕ) → IsChain blocks ds → length ds ≤ n → detaches_within tasks n (innermost ds) ≡ length ds
within_is blocks tasks are zero [] chained few = refl
within_is blocks tasks are zero (d ∷ ds) chained few = absurd (omega (arith, few))
within_is blocks tasks are (suc n) [] chained few = refl
within_is blocks tasks are (suc n) (d ∷ ds) chained few =
    let a = chained.0 in
    let task : task_at tasks d ≡ innermost ds = are.innermost d a.below a.has.0 a.has.1 ∙ ap innermost a.has.2 in
    ap suc (ap (detaches_within tasks n) task ∙ within_is blocks tasks are n ds chained.1 (omega (arith, few)))

around_is : (blocks : List BlockEdges) (tasks : List Task) → AreTasks blocks tasks → ((d : ℕ) (s t : List ℕ) → d < length blocks → HasTask blocks d s → HasTask blocks d t → s ≡ t) → (b : ℕ) (ds : List ℕ) → b < length blocks → HasTask blocks b ds →
    detaches_around tasks b ≡ length ds
around_is blocks tasks are one b ds below h =
    let task : task_at tasks b ≡ innermost ds = are.innermost b below h.0 h.1 ∙ ap innermost h.2 in
    let chained = chain blocks ds b h in
    let few = no_more blocks ds chained one in
    let size = are.size in
    ap (detaches_within tasks (length tasks)) task ∙ within_is blocks tasks are (length tasks) ds chained (omega (arith, few, size))

none_around : (tasks : List Task) (b : ℕ) → length tasks ≡ 0 → detaches_around tasks b ≡ 0
none_around [] b none = refl
none_around (t ∷ tasks) b none = absurd (omega (arith, none))

block_within : (blocks : List Block) (b : ℕ) → b < length blocks → (block : Block) × (slice_get blocks b ≡ Some block)
block_within [] b within = absurd (omega (arith, within))
block_within (x ∷ blocks) zero within = (x, refl)
block_within (x ∷ blocks) (suc b) within = block_within blocks b (omega (arith, within))

no_blocks : (blocks : List Block) → slice_get blocks 0 ≡ None → length blocks ≡ 0
no_blocks [] none = refl
no_blocks (x ∷ blocks) none = absurd (cc)

-- ---- the tasks of all functions

tasks_there : (functions : List Function) (tables : List FunctionTasks) → AreAllTasks (map graph_of functions) tables → (f : ℕ) (function : Function) → slice_get functions f ≡ Some function → AreTasks (graph_of function).blocks (tasks_in (slice_get tables f))
tasks_there [] tables are f function at = absurd (cc)
tasks_there (g ∷ functions) [] are f function at = absurd are
tasks_there (g ∷ functions) (t ∷ tables) are zero function at = let same : g ≡ function = cc in subst (λ (x : Function). AreTasks (graph_of x).blocks t.tasks) same are.0
tasks_there (g ∷ functions) (t ∷ tables) are (suc f) function at = tasks_there functions tables are.1 f function at

tasks_none : (functions : List Function) (tables : List FunctionTasks) → AreAllTasks (map graph_of functions) tables → (f : ℕ) → slice_get functions f ≡ None → tasks_in (slice_get tables f) ≡ []
tasks_none [] [] are f none = refl
tasks_none [] (t ∷ tables) are f none = absurd are
tasks_none (g ∷ functions) [] are f none = absurd are
tasks_none (g ∷ functions) (t ∷ tables) are zero none = absurd (cc)
tasks_none (g ∷ functions) (t ∷ tables) are (suc f) none = tasks_none functions tables are.1 f none

module _ (prog : Program) (regions : Regions) (named : IsNamed prog) (graph : IsGraphRight prog) (right : AreRegionsRight prog) (are : AreAllTasks (graphs_of prog) regions.functions) where
  size_of : (function : Function) → length (graph_of function).blocks ≡ length function.blocks
  size_of function = length-edges_from function.blocks 0 function.blocks

  one : (f : ℕ) (function : Function) → slice_get prog.functions f ≡ Some function → (d : ℕ) (s t : List ℕ) → d < length (graph_of function).blocks → HasTask (graph_of function).blocks d s → HasTask (graph_of function).blocks d t → s ≡ t
  one f function at d s t below h k =
      let size = size_of function in
      let x = block_within function.blocks d (omega (arith, below, size)) in
      sym h.2 ∙ one_task prog right f d function x.0 (record { at_function = at; at_block = x.1 }) h.0 k.0 h.1 k.1 ∙ k.2

  -- the level of a block is the number of detaches of its task
  level_is : (f b : ℕ) (function : Function) (block : Block) (ds : List ℕ) → IsBlock prog f b function block → HasTask (graph_of function).blocks b ds → level_of regions f b ≡ length ds
  level_is f b function block ds is h =
      let size = size_of function in
      let within = slice_get_within function.blocks b block is.at_block in
      around_is (graph_of function).blocks (tasks_of regions f) (tasks_there prog.functions regions.functions are f function is.at_function) (one f function is.at_function) b ds (omega (arith, size, within)) h

  -- each block has a task
  task_there : (f b : ℕ) (function : Function) (block : Block) → IsBlock prog f b function block → (ds : List ℕ) × HasTask (graph_of function).blocks b ds
  task_there f b function block is =
      let path = (All-contains IsFunctionRight prog.functions function graph (at_within prog.functions f function is.at_function) b block is.at_block).1.1 in
      (task_on path.0, (path.0, path.1, refl))

  entry : (f : ℕ) → level_of regions f 0 ≡ 0
  entry f = from (slice_get prog.functions f) refl
    where
      in_function : (function : Function) → slice_get prog.functions f ≡ Some function → (o : Option Block) → slice_get function.blocks 0 ≡ o → level_of regions f 0 ≡ 0
      in_function function at None none =
          let size = size_of function in
          let tasks = (tasks_there prog.functions regions.functions are f function at).size in
          let empty = no_blocks function.blocks none in
          none_around (tasks_of regions f) 0 (omega (arith, size, tasks, empty))
      in_function function at (Some block) there = level_is f 0 function block [] (record { at_function = at; at_block = there }) ([], refl, refl)

      from : (o : Option Function) → slice_get prog.functions f ≡ o → level_of regions f 0 ≡ 0
      from None none = none_around (tasks_of regions f) 0 (ap length (tasks_none prog.functions regions.functions are f none))
      from (Some function) at = in_function function at (slice_get function.blocks 0) refl

  -- along an edge the level is that of the task behind it
  leads_level : (f b i to : ℕ) (t : Terminator) (w : Way) → item_at prog f b i ≡ Some (Ends t) → LeadsTo t w to → (n : ℕ) → ((ds : List ℕ) → length (task_along w b ds) ≡ n + length ds) → level_of regions f to ≡ n + level_of regions f b
  leads_level f b i to t w at leads n longer =
      let a : Arrives prog f b to w = arrives prog named f b i to t w at leads in
      let task = task_there f b a.function a.block a.from in
      let here = level_is f b a.function a.block task.0 a.from task.1 in
      let there = level_is f to a.function a.target (task_along w b task.0) a.is (a.along task.0 task.1) in
      let grown = longer task.0 in
      omega (arith, here, there, grown)

  pub levels : Levels prog (level_of regions)
  levels = record {
    entry = entry;
    along = λ f b i to t at leads. let e = leads_level f b i to t way.Branch at leads 0 (λ ds. omega arith) in omega (arith, e);
    sync = λ f b i r to t at leads. let e = leads_level f b i to t (way.Synced (record { 0 = r })) at leads 0 (λ ds. omega arith) in omega (arith, e);
    body = λ f b i r body continuation at. let e = leads_level f b i body.0 (terminator.Detach r body continuation) way.Detached at refl 1 (λ ds. omega arith) in omega (arith, e);
    continuation = λ f b i r body continuation at. let e = leads_level f b i continuation.0 (terminator.Detach r body continuation) way.Continued at refl 0 (λ ds. omega arith) in omega (arith, e);
  }

pub levels_by_tasks : LevelsByTasks
levels_by_tasks prog regions named graph right are = levels prog regions named graph right are
