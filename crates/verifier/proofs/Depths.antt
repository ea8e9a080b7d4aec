-- Within the limits of a text depths are small: 256 functions, each with 4,097 measures, at each of which a block stands within at most 1,024 detaches.
use Rattle.std.proofs.Common.{◌≡◌, ◌∙◌, ℕ, zero, suc, ◌+◌, ◌*◌, ◌≤◌, inl, inr, Bool, true, false, List, [], ◌∷◌, ◌++◌, length, Option, Some, None, refl, sym, ap, subst, get_or, arith}
use Rattle.std.specs.Prelude.{◌==◌, if◌then◌else◌, slice_get}
use Rattle.std.specs.Option.{option_map}
use Rattle.std.proofs.lemmas.Bool.{cases_eq, cases_lt}
use Rattle.std.proofs.lemmas.List.{length_push, get_or_append_left, get_or_push, get_or_past}
use Rattle.std.proofs.lemmas.Option.{slice_get_within, slice_get-map}
use Rattle.program.specs.declared.function.Block.{Block}
use Rattle.program.specs.declared.function.Function.{Function}
use Rattle.program.specs.declared.function.Program.{Program}
use Rattle.program.specs.declared.instruction.Step.{Step}
use Rattle.program.specs.Calls.{callee_of}
use Rattle.cfg.specs.declared.structure.FunctionGraph.{FunctionGraph}
use Rattle.cfg.specs.Edges.{graph_of, graphs_of}
use Rattle.cfg.proofs.EdgeLists.{length-edges_from}
use Rattle.region_match.specs.declared.task.Task.{Task}
use Rattle.region_match.specs.declared.task.Task.TheVariants.{Unreached, Body, Child}
use Rattle.region_match.specs.declared.tables.FunctionTasks.{FunctionTasks}
use Rattle.region_match.specs.declared.tables.Regions.{Regions}
use Rattle.region_match.specs.Tasks.{task_at, tasks_in, AreTasks, AreAllTasks}
use Rattle.cost_table.specs.Depth.{detaches_within, detaches_around, greatest, greatest_block, callee_depth, block_depth, self_depth, self_call_depth, flat_depth, self_calls_depth, depth_from, tasks_of, whole_depth_of, first_depths, depth}
use Rattle.cost_table.specs.Tables.{as_u64}
use Rattle.verifier.specs.Accepted.{AreTasksOf}
use Rattle.verifier.specs.Limits.{IsWithinLimits}

-- ---- of one function

detaches_few : (tasks : List Task) (n : ℕ) (task : Task) → detaches_within tasks n task ≤ n
detaches_few tasks zero task = omega arith
detaches_few tasks (suc n) Unreached = omega arith
detaches_few tasks (suc n) Body = omega arith
detaches_few tasks (suc n) (Child d) = let rest = detaches_few tasks n (task_at tasks d.0) in omega (arith, rest)

greatest_within : {X : Type 0} (f : X → ℕ) (c : ℕ) → ((x : X) → f x ≤ c) → (xs : List X) → greatest f xs ≤ c
greatest_within {X} f c each [] = omega arith
greatest_within {X} f c each (x ∷ xs) = let here = each x in let rest = greatest_within f c each xs in omega (arith, here, rest)

blocks_within : (f : ℕ → Block → ℕ) (c : ℕ) → ((b : ℕ) (x : Block) → f b x ≤ c) → (b : ℕ) (xs : List Block) → greatest_block f b xs ≤ c
blocks_within f c each b [] = omega arith
blocks_within f c each b (x ∷ xs) = let here = each b x in let rest = blocks_within f c each (suc b) xs in omega (arith, here, rest)

chosen_within : (t : Bool) (x c : ℕ) → x ≤ c → (if t then x else 0) ≤ c
chosen_within true x c h = h
chosen_within false x c h = omega arith

other_within : (t : Bool) (x c : ℕ) → x ≤ c → (if t then 0 else x) ≤ c
other_within true x c h = omega arith
other_within false x c h = h

module _ (before : List ℕ) (self : ℕ) (tasks : List Task) (blocks : List Block) (few : length tasks ≤ 1024) (c : ℕ) (low : (k : ℕ) → get_or before k 0 ≤ c) where
  around : (b : ℕ) → detaches_around tasks b ≤ 1024
  around b = let n = detaches_few tasks (length tasks) (task_at tasks b) in omega (arith, n, few)

  callee_within : (o : Option ℕ) → callee_depth before self o ≤ c
  callee_within None = omega arith
  callee_within (Some g) = other_within (g == self) (get_or before g 0) c (low g)

  self_within : (n below : ℕ) (o : Option ℕ) → n ≤ 1024 → self_depth self (suc n + below) o ≤ 1025 + below
  self_within n below None l = omega arith
  self_within n below (Some g) l = chosen_within (g == self) (suc n + below) (1025 + below) (omega (arith, l))

  flat_within : flat_depth before self tasks blocks ≤ 1025 + c
  flat_within = blocks_within (block_depth before self tasks) (1025 + c) (λ b x.
      let t = around b in
      let calls = greatest_within (λ (s : Step). callee_depth before self (callee_of s.instruction)) c (λ s. callee_within (callee_of s.instruction)) x.steps in
      omega (arith, t, calls)) 0 blocks

  calls_within : (below : ℕ) → self_calls_depth self tasks blocks below ≤ 1025 + below
  calls_within below = blocks_within (self_call_depth self tasks below) (1025 + below) (λ b x.
      greatest_within (λ (s : Step). self_depth self (suc (detaches_around tasks b) + below) (callee_of s.instruction)) (1025 + below)
      (λ s. self_within (detaches_around tasks b) below (callee_of s.instruction) (around b)) x.steps) 0 blocks

  depth_within : (m : ℕ) → depth_from before self tasks blocks m ≤ 1025 * (m + 1) + c
  depth_within zero = let f = flat_within in omega (arith, f)
  depth_within (suc m) =
      let f = flat_within in
      let under = depth_within m in
      let calls = calls_within (depth_from before self tasks blocks m) in
      omega (arith, f, under, calls)

-- ---- of those before it

pushed_within : (xs : List ℕ) (y c : ℕ) → ((k : ℕ) → get_or xs k 0 ≤ c) → y ≤ c → (k : ℕ) → get_or (xs ++ y ∷ []) k 0 ≤ c
pushed_within xs y c low here k = elim (cases_lt k (length xs)) [
  | inl before ↦ rw (get_or_append_left xs (y ∷ []) 0 k before) (low k)
  | inr past ↦ elim (cases_eq k (length xs)) [
    | inl e ↦ rw (get_or_push xs y 0 k (sym e)) here
    | inr ne ↦ rw (get_or_past (xs ++ y ∷ []) k 0 (let n = length_push xs y in omega (arith, n, past, ne))) (omega arith)
  ]
]

-- ---- of a program with a table of its blocks' tasks

table_at : (graphs : List FunctionGraph) (tables : List FunctionTasks) → AreAllTasks graphs tables → (f : ℕ) (g : FunctionGraph) → slice_get graphs f ≡ Some g → AreTasks g.blocks (tasks_in (slice_get tables f))
table_at [] ts all f g e = absurd (cc)
table_at (x ∷ gs) [] all f g e = absurd all
table_at (x ∷ gs) (t ∷ ts) all zero g e = let same : x ≡ g = cc in subst (λ (y : FunctionGraph). AreTasks y.blocks t.tasks) same all.0
table_at (x ∷ gs) (t ∷ ts) all (suc f) g e = table_at gs ts all.1 f g e

pub tasks_at : (program : Program) (regions : Regions) → AreTasksOf program regions → (f : ℕ) (function : Function) → slice_get program.functions f ≡ Some function → AreTasks (graph_of function).blocks (tasks_of regions f)
tasks_at program regions table f function e =
    table_at (graphs_of program) regions.functions table f (graph_of function) (slice_get-map graph_of program.functions f ∙ ap (option_map graph_of) e)

pub graph_long : (function : Function) → length (graph_of function).blocks ≡ length function.blocks
graph_long function = length-edges_from function.blocks 0 function.blocks

module _ (program : Program) (regions : Regions) (table : AreTasksOf program regions) (limits : IsWithinLimits program) where
  tasks_few : (f : ℕ) (function : Function) → slice_get program.functions f ≡ Some function → length (tasks_of regions f) ≤ 1024
  tasks_few f function e =
      let long = (tasks_at program regions table f function e).size in
      let size = graph_long function in
      let few = limits.blocks f function e in
      omega (arith, long, size, few)

  next_within : (f : ℕ) → ((k : ℕ) → get_or (first_depths program regions f) k 0 ≤ f * 4199425) → (o : Option Function) → slice_get program.functions f ≡ o →
      whole_depth_of (first_depths program regions f) f (tasks_of regions f) o ≤ suc f * 4199425
  next_within f low None e = omega arith
  next_within f low (Some function) e =
      let most = depth_within (first_depths program regions f) f (tasks_of regions f) function.blocks (tasks_few f function e) (f * 4199425) low function.measure.bound in
      let bound = limits.measures f function e in
      omega (arith, most, bound)

  first_within : (f k : ℕ) → get_or (first_depths program regions f) k 0 ≤ f * 4199425
  first_within zero k = omega arith
  first_within (suc f) k =
      let low : (j : ℕ) → get_or (first_depths program regions f) j 0 ≤ f * 4199425 = λ j. first_within f j in
      pushed_within (first_depths program regions f) _ (suc f * 4199425) (λ j. let l = low j in omega (arith, l)) (next_within f low (slice_get program.functions f) refl) k

  depth_small : (f m : ℕ) (function : Function) → slice_get program.functions f ≡ Some function → m ≤ function.measure.bound → depth program regions f function m ≤ 1075052800
  depth_small f m function e l =
      let most = depth_within (first_depths program regions f) f (tasks_of regions f) function.blocks (tasks_few f function e) (f * 4199425) (first_within f) m in
      let bound = limits.measures f function e in
      let place = slice_get_within program.functions f function e in
      let count = limits.functions in
      omega (arith, most, bound, place, count, l)

  -- 64 bits hold it
  pub depths_whole : (f m : ℕ) (function : Function) → slice_get program.functions f ≡ Some function → m ≤ function.measure.bound → as_u64 (depth program regions f function m) ≡ depth program regions f function m
  depths_whole f m function e l = uncut (depth program regions f function m) (depth_small f m function e l)
    where
      uncut : (n : ℕ) → n ≤ 1075052800 → as_u64 n ≡ n
      uncut n l = omega (arith, l)

  pub depth_whole : (f : ℕ) (function : Function) → slice_get program.functions f ≡ Some function → as_u64 (depth program regions f function function.measure.bound) ≡ depth program regions f function function.measure.bound
  depth_whole f function e = depths_whole f function.measure.bound function e (omega arith)
