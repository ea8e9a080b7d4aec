-- The depths of a program's calls, block by block and call by call.
use Rattle.std.proofs.Common.{◌≡◌, refl, ◌∙◌, ℕ, zero, suc, ◌+◌, ◌<◌, ◌≤◌, Bool, true, false, List, [], ◌∷◌, ◌++◌, length, get_or, Option, Some, None, sym, ap, ⊎_elim, arith, length-append}
use Rattle.std.specs.Prelude.{slice_get, slice_index_or, ◌==◌, if◌then◌else◌}
use Rattle.std.proofs.Math.Seq.{get_or-append_seam}
use Rattle.std.proofs.lemmas.Bool.{ne_eqb, eq-eqb, cases_lt}
use Rattle.std.proofs.lemmas.List.{get_or_append_left}
use Rattle.std.proofs.lemmas.Option.{slice_get_within, slice_get-get_or, get_or_from_slice_get}
use Rattle.semantics.specs.Frames.{Item, Does, and_then, item_of, block_at}
use Rattle.program.specs.declared.function.Block.{Block}
use Rattle.program.specs.declared.function.Function.{Function}
use Rattle.program.specs.declared.function.Program.{Program}
use Rattle.program.specs.declared.instruction.Ending.{Ending}
use Rattle.program.specs.declared.instruction.Instruction.{Instruction}
use Rattle.program.specs.declared.instruction.Instruction.TheVariants as instruction
use Rattle.program.specs.declared.instruction.Step.{Step}
use Rattle.region_match.specs.declared.task.Task.{Task}
use Rattle.region_match.specs.declared.tables.Regions.{Regions}
use Rattle.laws_conditions.specs.rules.Costs.{bound_in}
use Rattle.laws_conditions.specs.rules.Depths.{DepthTable}
use Rattle.program.specs.Calls.{callee_of}
use Rattle.cost_table.specs.Depth.{detaches_around, greatest, greatest_block, callee_depth, block_depth, self_depth, self_call_depth, flat_depth, self_calls_depth, depth_from, tasks_of, whole_depth_of, first_depths}
use Rattle.laws_phases.specs.costs.Depths.{level_of, depth_in, depth_of, CallsUpward}

-- ---- the greatest of a list

at_step : (f : Instruction → ℕ) (steps : List Step) (ending : Option Ending) (index : ℕ) (i : Instruction) → item_of steps ending index ≡ Some (Does i) → f i ≤ greatest (λ (s : Step). f s.instruction) steps
at_step f [] None index i h = absurd (cc)
at_step f [] (Some e) zero i h = absurd (cc)
at_step f [] (Some e) (suc n) i h = absurd (cc)
at_step f (s ∷ ss) ending zero i h = let e : s.instruction ≡ i = cc in let same = ap f e in omega (arith, same)
at_step f (s ∷ ss) ending (suc n) i h = let below = at_step f ss ending n i h in omega (arith, below)

at_block : (f : ℕ → Block → ℕ) (k : ℕ) (xs : List Block) (i : ℕ) (x : Block) → slice_get xs i ≡ Some x → f (k + i) x ≤ greatest_block f k xs
at_block f k [] i x h = absurd (let w = slice_get_within [] i x h in omega (arith, w))
at_block f k (y ∷ ys) zero x h =
    let e : y ≡ x = get_or_from_slice_get (y ∷ ys) 0 x x h in
    let here : k + 0 ≡ k = omega arith in
    let same : f (k + 0) x ≡ f k y = ap (λ (n : ℕ). f n x) here ∙ ap (f k) (sym e) in
    omega (arith, same)
at_block f k (y ∷ ys) (suc i) x h =
    let w = slice_get_within (y ∷ ys) (suc i) x h in
    let l : i < length ys = omega (arith, w) in
    let e : get_or ys i x ≡ x = get_or_from_slice_get (y ∷ ys) (suc i) x x h in
    let below = at_block f (suc k) ys i x (slice_get-get_or ys i x l ∙ ap Some e) in
    let at : suc k + i ≡ k + suc i = omega arith in
    let same = ap (λ (n : ℕ). f n x) at in
    omega (arith, below, same)

greatest_more : {X : Type 0} (f g : X → ℕ) → ((x : X) → f x ≤ g x) → (xs : List X) → greatest f xs ≤ greatest g xs
greatest_more {X} f g more [] = omega arith
greatest_more {X} f g more (x ∷ xs) = let here = more x in let rest = greatest_more f g more xs in omega (arith, here, rest)

blocks_more : (f g : ℕ → Block → ℕ) → ((b : ℕ) (x : Block) → f b x ≤ g b x) → (b : ℕ) (xs : List Block) → greatest_block f b xs ≤ greatest_block g b xs
blocks_more f g more b [] = omega arith
blocks_more f g more b (x ∷ xs) = let here = more b x in let rest = blocks_more f g more (suc b) xs in omega (arith, here, rest)

-- ---- depths rise with the measure

chosen_more : (b : Bool) (x y : ℕ) → x ≤ y → (if b then x else 0) ≤ (if b then y else 0)
chosen_more true x y less = less
chosen_more false x y less = omega arith

self_more : (self t x y : ℕ) → x ≤ y → (callee : Option ℕ) → self_depth self (suc t + x) callee ≤ self_depth self (suc t + y) callee
self_more self t x y less None = omega arith
self_more self t x y less (Some g) = chosen_more (g == self) (suc t + x) (suc t + y) (omega (arith, less))

calls_more : (self : ℕ) (tasks : List Task) (blocks : List Block) (x y : ℕ) → x ≤ y → self_calls_depth self tasks blocks x ≤ self_calls_depth self tasks blocks y
calls_more self tasks blocks x y less =
    blocks_more (self_call_depth self tasks x) (self_call_depth self tasks y)
    (λ b block. greatest_more (λ (s : Step). self_depth self (suc (detaches_around tasks b) + x) (callee_of s.instruction)) (λ (s : Step). self_depth self (suc (detaches_around tasks b) + y) (callee_of s.instruction))
    (λ s. self_more self (detaches_around tasks b) x y less (callee_of s.instruction)) block.steps)
    0 blocks

rising : (before : List ℕ) (self : ℕ) (tasks : List Task) (blocks : List Block) (m : ℕ) → depth_from before self tasks blocks m ≤ depth_from before self tasks blocks (suc m)
rising before self tasks blocks zero = omega arith
rising before self tasks blocks (suc m) =
    let more = calls_more self tasks blocks (depth_from before self tasks blocks m) (depth_from before self tasks blocks (suc m)) (rising before self tasks blocks m) in
    omega (arith, more)

flat_within : (before : List ℕ) (self : ℕ) (tasks : List Task) (blocks : List Block) (m : ℕ) → flat_depth before self tasks blocks ≤ depth_from before self tasks blocks m
flat_within before self tasks blocks zero = omega arith
flat_within before self tasks blocks (suc m) = omega arith

-- ---- the depths of the functions before

firsts_size : (program : Program) (regions : Regions) (f : ℕ) → length (first_depths program regions f) ≡ f
firsts_size program regions zero = refl
firsts_size program regions (suc f) =
    let size = length-append (first_depths program regions f) (whole_depth_of (first_depths program regions f) f (tasks_of regions f) (slice_get program.functions f) ∷ []) in
    omega (arith, size, firsts_size program regions f)

whole_at : (program : Program) (regions : Regions) → ℕ → ℕ
whole_at program regions g = whole_depth_of (first_depths program regions g) g (tasks_of regions g) (slice_get program.functions g)

first_at : (program : Program) (regions : Regions) (f g : ℕ) → g < f → get_or (first_depths program regions f) g 0 ≡ whole_at program regions g
unfolding whole_at
first_at program regions zero g l = absurd (omega (arith, l))
first_at program regions (suc f) g l =
    let size = firsts_size program regions f in
    let last : ℕ = whole_depth_of (first_depths program regions f) f (tasks_of regions f) (slice_get program.functions f) in
    ⊎_elim
    (λ before. get_or_append_left (first_depths program regions f) (last ∷ []) 0 g (omega (arith, size, before)) ∙ first_at program regions f g before)
    (λ past.
    let e : g ≡ f = omega (arith, l, past) in
    let at : g ≡ length (first_depths program regions f) = omega (arith, e, size) in
    ap (λ (n : ℕ). get_or (first_depths program regions f ++ last ∷ []) n 0) at ∙ get_or-append_seam (first_depths program regions f) last [] 0 ∙ ap (λ (n : ℕ). whole_depth_of (first_depths program regions n) n (tasks_of regions n) (slice_get program.functions n)) (sym e))
    (cases_lt g f)

whole_in : (before : List ℕ) (self : ℕ) (tasks : List Task) (o : Option Function) → whole_depth_of before self tasks o ≡ depth_in before self tasks o (bound_in o)
whole_in before self tasks None = refl
whole_in before self tasks (Some function) = refl

-- ---- at a call

other_in : (b : Bool) (x : ℕ) → b ≡ false → (if b then 0 else x) ≡ x
other_in true x e = absurd (cc)
other_in false x e = refl

own_in : (b : Bool) (x : ℕ) → b ≡ true → (if b then x else 0) ≡ x
own_in true x e = refl
own_in false x e = absurd (cc)

function_at : (o : Option Function) (b : ℕ) (block : Block) → and_then o (λ (f : Function). slice_get f.blocks b) ≡ Some block → (function : Function) × (o ≡ Some function) × (slice_get function.blocks b ≡ Some block)
function_at None b block h = absurd (cc)
function_at (Some function) b block h = (function, refl, h)

block_of : (o : Option Block) (index : ℕ) (item : Item) → and_then o (λ (b : Block). item_of b.steps b.ending index) ≡ Some item → (block : Block) × (o ≡ Some block) × (item_of block.steps block.ending index ≡ Some item)
block_of None index item h = absurd (cc)
block_of (Some block) index item h = (block, refl, h)

-- a block's frames, and those of another function that it calls
block_within : (earlier : List ℕ) (self : ℕ) (tasks : List Task) (blocks : List Block) (b : ℕ) (block : Block) (m : ℕ) → slice_get blocks b ≡ Some block → block_depth earlier self tasks b block ≤ depth_from earlier self tasks blocks m
block_within earlier self tasks blocks b block m here =
    let at = at_block (block_depth earlier self tasks) 0 blocks b block here in
    let e : 0 + b ≡ b = omega arith in
    let same = ap (λ (n : ℕ). block_depth earlier self tasks n block) e in
    let flat = flat_within earlier self tasks blocks m in
    omega (arith, at, same, flat)

own_within : (earlier : List ℕ) (self : ℕ) (tasks : List Task) (blocks : List Block) (b : ℕ) (block : Block) (m : ℕ) → slice_get blocks b ≡ Some block →
    self_call_depth self tasks (depth_from earlier self tasks blocks m) b block ≤ depth_from earlier self tasks blocks (suc m)
own_within earlier self tasks blocks b block m here =
    let below : ℕ = depth_from earlier self tasks blocks m in
    let at = at_block (self_call_depth self tasks below) 0 blocks b block here in
    let e : 0 + b ≡ b = omega arith in
    let same = ap (λ (n : ℕ). self_call_depth self tasks below n block) e in
    omega (arith, at, same)

pub tabled : (program : Program) (regions : Regions) → CallsUpward program → DepthTable program (level_of regions) (depth_of program regions)
unfolding whole_at
tabled program regions upward = record {
  block = λ function block m b here.
      let found = function_at (slice_get program.functions function) block b here in
      let earlier = first_depths program regions function in
      let tasks = tasks_of regions function in
      let within = block_within earlier function tasks found.0.blocks block b m found.2 in
      let same = ap (λ (o : Option Function). depth_in earlier function tasks o m) found.1 in
      omega (arith, within, same);
  call = λ function block index m d g arguments here other.
      let item = block_of (block_at program function block) index (Does (instruction.Call d g arguments)) here in
      let found = function_at (slice_get program.functions function) block item.0 item.1 in
      let earlier = first_depths program regions function in
      let tasks = tasks_of regions function in
      let within = block_within earlier function tasks found.0.blocks block item.0 m found.2 in
      let same = ap (λ (o : Option Function). depth_in earlier function tasks o m) found.1 in
      let step = at_step (λ (i : Instruction). callee_depth earlier function (callee_of i)) item.0.steps item.0.ending index (instruction.Call d g arguments) item.2 in
      let least = upward function block index d g arguments here in
      let less : g.0 < function = ⊎_elim (λ l. l) (λ past. absurd (other (omega (arith, least, past)))) (cases_lt g.0 function) in
      let entry = first_at program regions function g.0 less in
      let whole = whole_in (first_depths program regions g.0) g.0 (tasks_of regions g.0) (slice_get program.functions g.0) in
      let chosen = other_in (g.0 == function) (slice_index_or earlier g.0 0) (ne_eqb g.0 function other) in
      omega (arith, within, same, step, entry, whole, chosen);
  self_call = λ function block index m d g arguments here own.
      let item = block_of (block_at program function block) index (Does (instruction.Call d g arguments)) here in
      let found = function_at (slice_get program.functions function) block item.0 item.1 in
      let earlier = first_depths program regions function in
      let tasks = tasks_of regions function in
      let below : ℕ = depth_from earlier function tasks found.0.blocks m in
      let within = own_within earlier function tasks found.0.blocks block item.0 m found.2 in
      let same = ap (λ (o : Option Function). depth_in earlier function tasks o m) found.1 in
      let same' = ap (λ (o : Option Function). depth_in earlier function tasks o (suc m)) found.1 in
      let step = at_step (λ (i : Instruction). self_depth function (suc (detaches_around tasks block) + below) (callee_of i)) item.0.steps item.0.ending index (instruction.Call d g arguments) item.2 in
      let chosen = own_in (g.0 == function) (suc (detaches_around tasks block) + below) (eq-eqb g.0 function own) in
      omega (arith, within, same, same', step, chosen);
  rises = λ function m. rising_in (first_depths program regions function) function (tasks_of regions function) (slice_get program.functions function) m;
}
  where
    rising_in : (earlier : List ℕ) (self : ℕ) (tasks : List Task) (o : Option Function) (m : ℕ) → depth_in earlier self tasks o m ≤ depth_in earlier self tasks o (suc m)
    rising_in earlier self tasks None m = omega arith
    rising_in earlier self tasks (Some function) m = rising earlier self tasks function.blocks m
