-- The first frame meets what is kept.
use Rattle.std.proofs.Common.{◌≡◌, ℕ, zero, suc, ◌<◌, List, [], ◌∷◌, length, map, Some, true, is_some, refl, ap, arith, slice_get, ℤ}
use Rattle.semantics.specs.Cells.{Cell, Memory}
use Rattle.semantics.specs.Frames.{Word, cell_of}
use Rattle.semantics.specs.State.{root_frame}
use Rattle.program.specs.declared.function.Function.{Function}
use Rattle.program.specs.declared.function.Program.{Program}
use Rattle.laws_conditions.specs.rules.Costs.{parameters_of}
use Rattle.laws_phases.specs.defined.Names.{StepDefines, IsNamed}
use Rattle.laws_phases.specs.defined.Placed.{IsPlaced}
use Rattle.laws_phases.proofs.defined.Stored.{held_at_entry}
use Rattle.laws_phases.proofs.defined.Registers.{always_defined}
use Rattle.laws_phases.proofs.defined.Regions.{started_there, start_defines, value_within}
use Rattle.laws_phases.proofs.regions.Closed.{starts_in_place}
use Rattle.laws_phases.specs.defined.Starting.{StartsRight, StartsWell}

length_words : (zs : List ℤ) → length (map (λ z. Word z) zs) ≡ length zs
length_words [] = refl
length_words (z ∷ zs) = ap suc (length_words zs)

no_cell : (zs : List ℤ) (k : ℕ) (c : Cell) → cell_of (slice_get (map (λ z. Word z) zs) k) ≡ Some c → ⊥
no_cell [] k c e = cc
no_cell (z ∷ zs) zero c e = cc
no_cell (z ∷ zs) (suc k) c e = no_cell zs k c e

word_there : (zs : List ℤ) (k : ℕ) → k < length zs → is_some (slice_get (map (λ z. Word z) zs) k) ≡ true
word_there [] k less = absurd (omega (arith, less))
word_there (z ∷ zs) zero less = refl
word_there (z ∷ zs) (suc k) less = word_there zs k (omega (arith, less))

module _ (prog : Program) (named : IsNamed prog) (arguments : List ℤ) (memory : Memory) (start : StartsRight prog arguments memory) where
  -- no step has defined a register yet
  none_defined : (function : Function) (b i r : ℕ) → slice_get prog.functions prog.main.0 ≡ Some function → StepDefines function b i r → is_some ((root_frame prog arguments).registers r) ≡ true → ⊥
  none_defined function b i r at mine some =
      let low = value_within (map (λ z. Word z) arguments) r some in
      let high = (named.once prog.main.0 function at).steps_above b i r mine in
      let n : parameters_of prog prog.main.0 ≡ length function.parameters = rw at refl in
      let k = length_words arguments in
      let c = start.count in
      omega (arith, low, high, n, k, c)

  pub first_placed : IsPlaced prog (root_frame prog arguments)
  first_placed = starts_in_place prog arguments start.main

pub starts_well : StartsWell
starts_well prog named right arguments memory start = record {
  placed = first_placed prog named arguments memory start;
  values = record {
    home = omega arith;
    given = λ k c less at. absurd (no_cell arguments k c at);
    globals = λ g. start.globals g;
    sets = λ function block a l region is lab held. absurd (held_at_entry function a l region block lab held);
    elements = λ j d name index c less at holds. absurd (omega (arith, less));
  };
  regions = record {
    around = λ function b i r task its at mine some has here. absurd (none_defined prog named arguments memory start function b i r at mine some);
    own = λ function block b r task is begins some has here. absurd (none_defined prog named arguments memory start function b (started_there block.steps r begins).0 r.0 is.at_function (start_defines function b block r is.at_block begins) some);
  };
  registers = λ r always.
      let low = (always_defined prog named right).entry prog.main.0 r always in
      let c = start.count in
      word_there arguments r (omega (arith, low, c));
}
