-- Memory that is made for a program has the cells of its globals, and setting a cell leaves them there.
use Rattle.std.proofs.Common.{◌≡◌, ◌∙◌, inl, inr, ℕ, zero, suc, ◌<◌, List, [], ◌∷◌, replicate, Option, is_some, refl, sym, ap, subst, arith, pos, ℤ}
use Rattle.std.specs.Prelude.{Bool, true, false, IfOk, IsSome, Result, Ok, Err, map, slice_get}
use Rattle.std.specs.Bool.{OnTrue, OnFalse}
use Rattle.std.proofs.lemmas.Bool.{OnTrue_at, OnFalse_at}
use Rattle.std.specs.Option.{option_map}
use Rattle.std.proofs.lemmas.Bool.Decides.{eqb_tells}
use Rattle.std.proofs.lemmas.List.{length-replicate}
use Rattle.std.proofs.lemmas.Option.{slice_get-map}
use Rattle.lists.specs.declared.memory.OutOfMemory.{OutOfMemory}
use Rattle.program.specs.declared.function.Global.{Global}
use Rattle.program.specs.declared.function.Program.{Program}
use Rattle.store.specs.Cells.{NamedCells, cell_in, cell_at}
use Rattle.store.specs.Named.{Sets, zeros}
use Rattle.store.specs.Made.{IsMadeFor}
use Rattle.store.specs.Named.{HasGlobalCells}
use Rattle.store.specs.Rows.{sizes_of}

replicated : {A : Type 0} (n i : ℕ) (a : A) → i < n → IsSome (slice_get (replicate n a) i)
replicated zero i a within = absurd (omega (arith, within))
replicated (suc n) zero a within = refl
replicated (suc n) (suc i) a within = replicated n i a (omega (arith, within))

pub cells_made : (program : Program) → HasGlobalCells program (map zeros program.globals)
cells_made program g i global there within =
    ap (λ o. is_some (cell_in o i)) (slice_get-map zeros program.globals g ∙ ap (option_map zeros) there) ∙ replicated global.cells i (pos 0) within

pub cells_kept : (program : Program) (before after : List NamedCells) (g i : ℕ) (z : ℤ) → Sets before after g i z → HasGlobalCells program before → HasGlobalCells program after
cells_kept program before after h j z sets has g i global there within = elim (eqb_tells g h) [
  | inl a ↦ elim (eqb_tells i j) [
    | inl b ↦ subst (λ k. IsSome (cell_at after k i)) (sym a.1) (subst (λ k. IsSome (cell_at after h k)) (sym b.1) (ap is_some sets.there))
    | inr b ↦ subst (λ (o : Option ℤ). IsSome o) (sym (sets.others g i (λ e. b.1))) (has g i global there within)
  ]
  | inr a ↦ subst (λ (o : Option ℤ). IsSome o) (sym (sets.others g i (λ e. absurd (a.1 e)))) (has g i global there within)
]

pub kept_if : (program : Program) (set : Bool) (before after : List NamedCells) (g i : ℕ) (z : ℤ) → OnTrue set (Sets before after g i z) → OnFalse set (after ≡ before) → HasGlobalCells program before → HasGlobalCells program after
kept_if program true before after g i z sets same has = cells_kept program before after g i z (OnTrue_at refl sets) has
kept_if program false before after g i z sets same has = subst (λ (m : List NamedCells). HasGlobalCells program m) (sym (OnFalse_at refl same)) has

pub made_if : (program : Program) (r : Result (List NamedCells) OutOfMemory) → IfOk r (λ m. m ≡ map zeros program.globals) → IfOk r (λ m. HasGlobalCells program m)
made_if program (Ok memory) is = subst (λ (m : List NamedCells). HasGlobalCells program m) (sym is) (cells_made program)
made_if program (Err e) is = tt

-- just as many as the program declares
zeros_sized : (globals : List Global) → sizes_of (map zeros globals) ≡ map (λ (g : Global). g.cells) globals
zeros_sized [] = refl
zeros_sized (g ∷ globals) = ap (λ n. n ∷ sizes_of (map zeros globals)) (length-replicate g.cells (pos 0)) ∙ ap (λ l. g.cells ∷ l) (zeros_sized globals)

pub made_for_if : (program : Program) (r : Result (List NamedCells) OutOfMemory) → IfOk r (λ m. m ≡ map zeros program.globals) → IfOk r (λ m. IsMadeFor program m)
made_for_if program (Ok memory) is = subst (λ (m : List NamedCells). IsMadeFor program m) (sym is) (zeros_sized program.globals)
made_for_if program (Err e) is = tt
