-- Labellings of allocas, from place to place.
use Rattle.std.proofs.Common.{◌≡◌, ℕ, zero, suc, ◌⊎◌, inl, inr, List, [], ◌∷◌, length, map, Option, Some, None, true, false, refl, sym, ap, subst, ◌∙◌, slice_get}
use Rattle.std.specs.List.{Contains, flat_map}
use Rattle.std.specs.Option.{option_map}
use Rattle.std.proofs.lemmas.Bool.{true≢false}
use Rattle.std.proofs.lemmas.List.Elements.{All-contains, Contains-append_left, Contains-append_right, Contains-append_cases}
use Rattle.std.proofs.lemmas.Option.{slice_get-map}
use Rattle.linear.specs.declared.form.RegisterId.{RegisterId}
use Rattle.program.specs.declared.function.Alloca.{Alloca as AllocaOf}
use Rattle.program.specs.declared.function.Block.{Block}
use Rattle.program.specs.declared.function.Function.{Function}
use Rattle.program.specs.declared.instruction.Step.{Step}
use Rattle.cfg.specs.declared.structure.Edge.{Edge}
use Rattle.cfg.specs.declared.structure.Way.{Way}
use Rattle.cfg.specs.declared.structure.Way.TheVariants as way
use Rattle.cfg.specs.Edges.{graph_of}
use Rattle.cfg.specs.Paths.{edges_of}
use Rattle.definedness.specs.declared.act.Act.{Act}
use Rattle.definedness.specs.declared.act.BlockActs.{BlockActs}
use Rattle.definedness.specs.Needs.{gives, given_of, numbers_of, numbers_at}
use Rattle.definedness.specs.AllocaActs.{step_cells, alloca_acts}
use Rattle.definedness.specs.Definedness.{alloca_table}
use Rattle.definedness.specs.Sure.{Labels, IsHeld, IsAdded, IsStored, IsFork, IsEndOf}
use Rattle.laws_phases.specs.defined.Values.{stored_before, IsLabelled, IsHeldAt}
use Rattle.laws_phases.proofs.defined.Lists.{none_within}
use Rattle.laws_phases.proofs.defined.Items.{Along}
use Rattle.laws_phases.proofs.defined.Defined.{gives_append, Found, found_left, found_right}

-- ---- what the first steps store

pub none_stored : (allocas : List AllocaOf) (whole steps : List Step) (a : ℕ) → Contains (stored_before allocas whole steps 0) a → ⊥
none_stored allocas whole [] a c = none_within a c
none_stored allocas whole (s ∷ steps) a c = none_within a c

pub stored_step : (allocas : List AllocaOf) (whole steps : List Step) (i a : ℕ) (s : Step) → slice_get steps i ≡ Some s → Contains (stored_before allocas whole steps (suc i)) a → Contains (stored_before allocas whole steps i) a ⊎ Contains (gives (step_cells allocas whole s)) a
stored_step allocas whole [] i a s at c = absurd (cc)
stored_step allocas whole (x ∷ xs) zero a s at c = elim (Contains-append_cases (gives (step_cells allocas whole x)) (stored_before allocas whole xs 0) a c) [
  | inl h ↦ let same : x ≡ s = cc in inr (subst (λ (y : Step). Contains (gives (step_cells allocas whole y)) a) same h)
  | inr h ↦ absurd (none_stored allocas whole xs a h)
]
stored_step allocas whole (x ∷ xs) (suc i) a s at c = elim (Contains-append_cases (gives (step_cells allocas whole x)) (stored_before allocas whole xs (suc i)) a c) [
  | inl h ↦ inl (Contains-append_left (gives (step_cells allocas whole x)) (stored_before allocas whole xs i) a h)
  | inr h ↦ elim (stored_step allocas whole xs i a s at h) [
    | inl k ↦ inl (Contains-append_right (gives (step_cells allocas whole x)) (stored_before allocas whole xs i) a k)
    | inr k ↦ inr k
  ]
]

all_stored : (allocas : List AllocaOf) (whole steps : List Step) → gives (flat_map (step_cells allocas whole) steps) ≡ stored_before allocas whole steps (length steps)
all_stored allocas whole [] = refl
all_stored allocas whole (s ∷ steps) = gives_append (step_cells allocas whole s) (flat_map (step_cells allocas whole) steps) ∙ (rw (all_stored allocas whole steps) refl)

pub found_cells : (allocas : List AllocaOf) (whole steps : List Step) (i : ℕ) (s : Step) (x : Act) → slice_get steps i ≡ Some s → Found (step_cells allocas whole s) [] x → Found (flat_map (step_cells allocas whole) steps) (stored_before allocas whole steps i) x
found_cells allocas whole [] i s x at h = absurd (cc)
found_cells allocas whole (y ∷ ys) zero s x at h = let same : y ≡ s = cc in found_left (step_cells allocas whole y) (flat_map (step_cells allocas whole) ys) [] x (subst (λ (z : Step). Found (step_cells allocas whole z) [] x) (sym same) h)
found_cells allocas whole (y ∷ ys) (suc i) s x at h = found_right (step_cells allocas whole y) (flat_map (step_cells allocas whole) ys) (stored_before allocas whole ys i) x (found_cells allocas whole ys i s x at h)

abbrev pub alloca_row : Function → Block → BlockActs
alloca_row function block = record { acts = alloca_acts function.allocas block }

pub row_at : (function : Function) (b : ℕ) (block : Block) → slice_get function.blocks b ≡ Some block → slice_get (alloca_table function) b ≡ Some (alloca_row function block)
row_at function b block at = slice_get-map (alloca_row function) function.blocks b ∙ ap (λ o. option_map (alloca_row function) o) at

pub stored_is : (function : Function) (b : ℕ) (block : Block) → slice_get function.blocks b ≡ Some block → numbers_at (map given_of (alloca_table function)) b ≡ stored_before function.allocas block.steps block.steps (length block.steps)
stored_is function b block at =
    let read : slice_get (map given_of (alloca_table function)) b ≡ Some (given_of (alloca_row function block)) = slice_get-map given_of (alloca_table function) b ∙ ap (λ o. option_map given_of o) (row_at function b block at) in
    ap numbers_of read ∙ all_stored function.allocas block.steps block.steps

-- ---- from place to place

-- sure, or due for a region, at the end of the block
abbrev pub HeldAtEnd : Function → ℕ → Labels → ℕ → Block → Type 0
HeldAtEnd function a l b block = (region : Option RegisterId) × IsHeldAt function l a region b block (length block.steps)

-- the child of the detach at the end of the block is sure of it wherever it ends
abbrev pub BroughtByChild : Function → ℕ → Labels → ℕ → Way → Type 0
BroughtByChild function a l b w = (w ≡ way.Continued) × ((end : ℕ) → IsEndOf function.blocks (graph_of function).blocks b end → IsHeld (IsStored (map given_of (alloca_table function)) a) l None end)

module _ (function : Function) (a : ℕ) (l : Labels) (b : ℕ) (block : Block) (at : slice_get function.blocks b ≡ Some block) where
  abbrev Stored : ℕ → Type 0
  Stored = IsStored (map given_of (alloca_table function)) a

  pub held_at_end : (region : Option RegisterId) → IsHeld Stored l region b → IsHeldAt function l a region b block (length block.steps)
  held_at_end region (inl h) = inl h
  held_at_end region (inr (inl h)) = inr (inl h)
  held_at_end region (inr (inr h)) = inr (inr (subst (λ xs. Contains xs a) (stored_is function b block at) h))

  pub held_from_end : (region : Option RegisterId) → IsHeldAt function l a region b block (length block.steps) → IsHeld Stored l region b
  held_from_end region (inl h) = inl h
  held_from_end region (inr (inl h)) = inr (inl h)
  held_from_end region (inr (inr h)) = inr (inr (subst (λ xs. Contains xs a) (sym (stored_is function b block at)) h))

  added_from : (region : Option RegisterId) (w : Way) → IsAdded Stored (IsFork function.blocks) (IsEndOf function.blocks (graph_of function).blocks) l region b w → HeldAtEnd function a l b block ⊎ BroughtByChild function a l b w
  added_from region way.Branch h = absurd h
  added_from region way.Detached h = absurd h
  added_from region way.Continued h = inr (refl, h.3)
  added_from region (way.Synced its) h = inl (Some its, held_at_end (Some its) h)

  -- what is held where an edge leads was held before it, or a child brought it
  pub held_before : (to : ℕ) (target : Block) (w : Way) (region : Option RegisterId) → IsLabelled function a l → Along (edges_of (graph_of function).blocks b) w to → IsHeldAt function l a region to target 0 → HeldAtEnd function a l b block ⊎ BroughtByChild function a l b w
  held_before to target w region lab along held = by held
    where
      by_edge : (k : Option RegisterId) → l k to ≡ true → HeldAtEnd function a l b block ⊎ BroughtByChild function a l b w
      by_edge k h =
          let rule = All-contains (λ (e : Edge). (r : Option RegisterId) → l r e.to.0 ≡ true → IsHeld Stored l r b ⊎ IsAdded Stored (IsFork function.blocks) (IsEndOf function.blocks (graph_of function).blocks) l r b e.way) (edges_of (graph_of function).blocks b) along.edge (lab.edges b) along.within in
          elim (rule k (ap (λ n. l k n) along.target ∙ h)) [
            | inl g ↦ inl (k, held_at_end k g)
            | inr g ↦ added_from k w (subst (λ (x : Way). IsAdded Stored (IsFork function.blocks) (IsEndOf function.blocks (graph_of function).blocks) l k b x) along.way_is g)
          ]

      by : IsHeldAt function l a region to target 0 → HeldAtEnd function a l b block ⊎ BroughtByChild function a l b w
      by (inl h) = by_edge None h
      by (inr (inl h)) = by_edge region h
      by (inr (inr c)) = absurd (none_stored function.allocas target.steps target.steps a c)

-- nothing is held where a function begins
pub held_at_entry : (function : Function) (a : ℕ) (l : Labels) (region : Option RegisterId) (block : Block) → IsLabelled function a l → IsHeldAt function l a region 0 block 0 → ⊥
held_at_entry function a l region block lab (inl h) = true≢false (sym h ∙ lab.entry None)
held_at_entry function a l region block lab (inr (inl h)) = true≢false (sym h ∙ lab.entry region)
held_at_entry function a l region block lab (inr (inr c)) = none_stored function.allocas block.steps block.steps a c

-- the labelling that holds nothing
abbrev pub nothing_held : Labels
nothing_held region b = false

pub nothing_labelled : (function : Function) (a : ℕ) → IsLabelled function a nothing_held
nothing_labelled function a = record { entry = λ region. refl; edges = λ b k d less region h. absurd (true≢false (sym h)) }
