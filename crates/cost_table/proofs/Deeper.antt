-- Depths, cut at the greatest number.
use Rattle.std.proofs.Common.{◌≡◌, refl, ◌∙◌, ℕ, suc, ◌+◌, ◌-◌, ◌^◌, min, max, List, [], ◌∷◌, map, Option, Some, None, Bool, true, false, sym, ap, arith}
use Rattle.std.specs.Prelude.{◌==◌, if◌then◌else◌, slice_index_or}
use Rattle.std.proofs.Math.ListN.{get_or-map}
use Rattle.program.specs.declared.function.Block.{Block}
use Rattle.program.specs.declared.instruction.Step.{Step}
use Rattle.ranges.specs.region_match.declared.task.Task.{Task}
use Rattle.program.specs.Calls.{callee_of}
use Rattle.cost_table.specs.Depth.{greatest, greatest_block, callee_depth, block_depth, self_depth, self_call_depth, flat_depth, self_calls_depth, detaches_around}
use Rattle.cost_table.specs.Tables.{as_u64, above_self_call}
use Rattle.cost_table.proofs.Capped.{capped_sum, capped_max, above_max}

-- ---- other functions' depths

chosen : (b : Bool) (x m : ℕ) → (if b then 0 else min x m) ≡ min (if b then 0 else x) m
chosen true x m = grind arith
chosen false x m = refl

pub callee_cut : (before : List ℕ) (self : ℕ) (callee : Option ℕ) → callee_depth (map as_u64 before) self callee ≡ as_u64 (callee_depth before self callee)
callee_cut before self None = refl
callee_cut before self (Some g) = ap (λ (x : ℕ). if g == self then 0 else x) (get_or-map as_u64 before g 0) ∙ chosen (g == self) (slice_index_or before g 0) (2 ^ 64 - 1)

pub greatest_cut : {X : Type 0} (f g : X → ℕ) (m : ℕ) → ((x : X) → f x ≡ min (g x) m) → (xs : List X) → greatest f xs ≡ min (greatest g xs) m
greatest_cut {X} f g m same [] = sym (cut_none m)
  where
    cut_none : (m : ℕ) → min 0 m ≡ 0
    cut_none m = grind arith
greatest_cut {X} f g m same (x ∷ xs) = ap (λ (n : ℕ). max n (greatest f xs)) (same x) ∙ ap (max (min (g x) m)) (greatest_cut f g m same xs) ∙ capped_max (g x) (greatest g xs) m

pub blocks_cut : (f g : ℕ → Block → ℕ) (m : ℕ) → ((b : ℕ) (x : Block) → min (f b x) m ≡ min (g b x) m) → (b : ℕ) (xs : List Block) → min (greatest_block f b xs) m ≡ min (greatest_block g b xs) m
blocks_cut f g m same b [] = refl
blocks_cut f g m same b (x ∷ xs) =
    sym (capped_max (f b x) (greatest_block f (suc b) xs) m) ∙ ap (λ (n : ℕ). max n (min (greatest_block f (suc b) xs) m)) (same b x)
    ∙ ap (max (min (g b x) m)) (blocks_cut f g m same (suc b) xs) ∙ capped_max (g b x) (greatest_block g (suc b) xs) m

pub flat_cut : (before : List ℕ) (self : ℕ) (tasks : List Task) (blocks : List Block) → as_u64 (flat_depth (map as_u64 before) self tasks blocks) ≡ as_u64 (flat_depth before self tasks blocks)
flat_cut before self tasks blocks = blocks_cut (block_depth (map as_u64 before) self tasks) (block_depth before self tasks) (2 ^ 64 - 1)
    (λ b block.
    ap (λ (n : ℕ). min (suc (detaches_around tasks b) + n) (2 ^ 64 - 1))
    (greatest_cut (λ (s : Step). callee_depth (map as_u64 before) self (callee_of s.instruction)) (λ (s : Step). callee_depth before self (callee_of s.instruction)) (2 ^ 64 - 1) (λ s. callee_cut before self (callee_of s.instruction)) block.steps)
    ∙ capped_sum (suc (detaches_around tasks b)) (greatest (λ (s : Step). callee_depth before self (callee_of s.instruction)) block.steps) (2 ^ 64 - 1))
    0 blocks

-- ---- self calls

lifted : (b : Bool) (t x : ℕ) → (if b then suc t + x else 0) ≡ above_self_call (if b then suc t + 0 else 0) x
lifted true t x = let e : suc t + 0 ≡ suc t = omega arith in sym (ap (λ (n : ℕ). above_self_call n x) e)
lifted false t x = refl

step_lifted : (self t x : ℕ) (callee : Option ℕ) → self_depth self (suc t + x) callee ≡ above_self_call (self_depth self (suc t + 0) callee) x
step_lifted self t x None = refl
step_lifted self t x (Some g) = lifted (g == self) t x

steps_lifted : {X : Type 0} (f g : X → ℕ) (x : ℕ) → ((y : X) → f y ≡ above_self_call (g y) x) → (ys : List X) → greatest f ys ≡ above_self_call (greatest g ys) x
steps_lifted {X} f g x same [] = refl
steps_lifted {X} f g x same (y ∷ ys) = ap (λ (n : ℕ). max n (greatest f ys)) (same y) ∙ ap (max (above_self_call (g y) x)) (steps_lifted f g x same ys) ∙ above_max (g y) (greatest g ys) x

blocks_lifted : (f g : ℕ → Block → ℕ) (x : ℕ) → ((b : ℕ) (y : Block) → f b y ≡ above_self_call (g b y) x) → (b : ℕ) (ys : List Block) → greatest_block f b ys ≡ above_self_call (greatest_block g b ys) x
blocks_lifted f g x same b [] = refl
blocks_lifted f g x same b (y ∷ ys) =
    ap (λ (n : ℕ). max n (greatest_block f (suc b) ys)) (same b y) ∙ ap (max (above_self_call (g b y) x)) (blocks_lifted f g x same (suc b) ys) ∙ above_max (g b y) (greatest_block g (suc b) ys) x

pub self_calls_lifted : (self : ℕ) (tasks : List Task) (blocks : List Block) (x : ℕ) → self_calls_depth self tasks blocks x ≡ above_self_call (self_calls_depth self tasks blocks 0) x
self_calls_lifted self tasks blocks x = blocks_lifted (self_call_depth self tasks x) (self_call_depth self tasks 0) x
    (λ b block. steps_lifted (λ (s : Step). self_depth self (suc (detaches_around tasks b) + x) (callee_of s.instruction)) (λ (s : Step). self_depth self (suc (detaches_around tasks b) + 0) (callee_of s.instruction)) x
    (λ s. step_lifted self (detaches_around tasks b) x (callee_of s.instruction)) block.steps)
    0 blocks

self_cut : (self t : ℕ) (callee : Option ℕ) → self_depth self (as_u64 (suc t)) callee ≡ as_u64 (self_depth self (suc t + 0) callee)
self_cut self t None = refl
self_cut self t (Some g) = picked (g == self) t (2 ^ 64 - 1)
  where
    picked : (b : Bool) (t m : ℕ) → (if b then min (suc t) m else 0) ≡ min (if b then suc t + 0 else 0) m
    picked true t m = grind arith
    picked false t m = grind arith

pub self_calls_cut : (self t : ℕ) (steps : List Step) → greatest (λ (s : Step). self_depth self (as_u64 (suc t)) (callee_of s.instruction)) steps ≡ as_u64 (greatest (λ (s : Step). self_depth self (suc t + 0) (callee_of s.instruction)) steps)
self_calls_cut self t steps = greatest_cut (λ (s : Step). self_depth self (as_u64 (suc t)) (callee_of s.instruction)) (λ (s : Step). self_depth self (suc t + 0) (callee_of s.instruction)) (2 ^ 64 - 1) (λ s. self_cut self t (callee_of s.instruction)) steps
