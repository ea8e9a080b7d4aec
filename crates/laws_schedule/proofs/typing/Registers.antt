-- No register is defined at two places, where the text defines no name again.
use Rattle.std.proofs.Common.{◌≡◌, inl, inr, ℕ, ◌≤◌, List, length, Some, refl, sym, ap, ◌∙◌, subst, arith, Ok}
use Rattle.std.specs.Prelude.{slice_get}
use Rattle.std.proofs.lemmas.Bool.{cases_lt}
use Rattle.std.proofs.lemmas.List.{length-map}
use Rattle.std.proofs.lemmas.List.Elements.{All-contains}
use Rattle.program.specs.declared.function.Block.{Block}
use Rattle.program.specs.declared.function.Function.{Function}
use Rattle.program.specs.declared.function.Program.{Program}
use Rattle.program.specs.declared.instruction.Phi.{Phi}
use Rattle.syntax.specs.declared.module.Block.{Block as BlockText}
use Rattle.syntax.specs.declared.module.Function.{Function as FunctionText}
use Rattle.syntax.specs.declared.module.Module.{Module}
use Rattle.ir_reader.specs.Kept.{IsKeptFunction, IsKeptModule}
use Rattle.types.specs.declared.names.scope.Named.TheVariants as named
use Rattle.types.specs.names.Item.{items_of}
use Rattle.types.specs.names.Layout.{layout_of}
use Rattle.types.specs.names.Scope.{Scope}
use Rattle.types.specs.Call.{parameter_of}
use Rattle.types.specs.Definitions.{IsParameterName}
use Rattle.types.specs.Meaning.{Means}
use Rattle.types.proofs.Scopes.{IsNamedRight as IsParameterRight, scope_right}
use Rattle.laws_phases.specs.defined.Names.{StepDefines, PhiDefines, DefinesOnce}
use Rattle.laws_phases.proofs.defined.Lists.{at_within}
use Rattle.laws_schedule.proofs.typing.Parts.{FunctionFrom, function_from, block_from, step_from, phi_from}
use Rattle.laws_schedule.proofs.typing.Scoping.{named_found, one_name, layout_right}
use Rattle.laws_schedule.proofs.typing.Instructions.{Defines, phi_defines, is_meant}
use Rattle.laws_schedule.proofs.typing.Once.{PhiNames, StepNames, phi_anew, step_anew, steps_apart, phis_apart, phi_and_step_apart}

pub kept_function : (whole : Module) → IsKeptModule whole → (f : ℕ) (text : FunctionText) → slice_get whole.functions f ≡ Some text → IsKeptFunction text
kept_function whole kept f text at = All-contains IsKeptFunction whole.functions text kept.functions (at_within whole.functions f text at)

-- a register below the parameters' number has a parameter's name
above_by : (text : FunctionText) (name : List ℕ) (r : ℕ) → Defines (layout_of text).scope name r → (IsParameterName text.parameters name → ⊥) → length text.parameters ≤ r
above_by text name r d anew = elim (cases_lt r (length text.parameters)) [
  | inl l ↦ absurd (anew ((named_found (IsParameterRight (length text.parameters) (IsParameterName text.parameters)) (layout_of text).scope name (named.Register d.register) (scope_right text) d.found).1 (let s = d.same in omega arith)))
  | inr g ↦ g
]

module _ (whole : Module) (kept : IsKeptModule whole) (program : Program) (m : Means whole (Ok program)) (f : ℕ) (function : Function) (outer : FunctionFrom whole m.0 f function) where
  abbrev scope : Scope
  scope = (layout_of outer.text).scope

  kept_text : IsKeptFunction outer.text
  kept_text = kept_function whole kept f outer.text outer.at_text

  record NamedStep (b i r : ℕ) : Type 0 where
    pub block : BlockText
    pub at_block : slice_get outer.text.blocks b ≡ Some block
    pub name : List ℕ
    pub names : StepNames block i name
    pub meant : Defines (layout_of outer.text).scope name r

  record NamedPhi (b i r : ℕ) : Type 0 where
    pub block : BlockText
    pub at_block : slice_get outer.text.blocks b ≡ Some block
    pub name : List ℕ
    pub names : PhiNames block i name
    pub meant : Defines (layout_of outer.text).scope name r

  named_step : (b i r : ℕ) → StepDefines function b i r → NamedStep b i r
  named_step b i r d =
      let from = block_from whole m.0 f b function d.block outer d.at_block in
      let step = step_from whole m.0 f b function d.block outer from i d.step d.at_step in
      let by = (is_meant (items_of whole) whole.functions scope m.0 f b step.text.line step.text.instruction d.step.instruction step.is).defined r d.defines in
      record { block = from.text; at_block = from.at_text; name = by.name; names = record { step = step.text; at = step.at_text; is = by.is }; meant = by.meant }

  named_phi : (b i : ℕ) (block : Block) (phi : Phi) → slice_get function.blocks b ≡ Some block → slice_get block.phis i ≡ Some phi → NamedPhi b i phi.register.0
  named_phi b i block phi at_block at_phi =
      let from = block_from whole m.0 f b function block outer at_block in
      let found = phi_from whole m.0 f b function block outer from i phi at_phi in
      record { block = from.text; at_block = from.at_text; name = found.0.register; names = record { phi = found.0; at = found.1; is = refl }; meant = phi_defines scope found.0 phi found.2 }

  same_name : (x y : List ℕ) (r : ℕ) → Defines (layout_of outer.text).scope x r → Defines (layout_of outer.text).scope y r → x ≡ y
  same_name x y r a b = one_name scope x y a.register b.register (layout_right outer.text).apart a.found b.found (a.same ∙ sym b.same)

  steps_once : (b c i j r : ℕ) → StepDefines function b i r → StepDefines function c j r → (b ≡ c) × (i ≡ j)
  steps_once b c i j r x y =
      let first = named_step b i r x in
      let second = named_step c j r y in
      let P : List ℕ → Type 0 = λ n. StepNames second.block j n in
      steps_apart outer.text kept_text b c i j first.block second.block first.name first.at_block second.at_block first.names (subst P (sym (same_name first.name second.name r first.meant second.meant)) second.names)

  named_phis_once : (b c i j r : ℕ) → NamedPhi b i r → NamedPhi c j r → (b ≡ c) × (i ≡ j)
  named_phis_once b c i j r first second =
      let P : List ℕ → Type 0 = λ n. PhiNames second.block j n in
      phis_apart outer.text kept_text b c i j first.block second.block first.name first.at_block second.at_block first.names (subst P (sym (same_name first.name second.name r first.meant second.meant)) second.names)

  phi_of_block : (b r : ℕ) (d : PhiDefines function b r) → NamedPhi b d.number r
  phi_of_block b r d = let P : ℕ → Type 0 = λ k. NamedPhi b d.number k in subst P d.defines (named_phi b d.number d.block d.phi d.at_block d.at_phi)

  phi_no_step : (b c i r : ℕ) → StepDefines function b i r → PhiDefines function c r → ⊥
  phi_no_step b c i r x y =
      let first = phi_of_block c r y in
      let second = named_step b i r x in
      let P : List ℕ → Type 0 = λ n. StepNames second.block i n in
      phi_and_step_apart outer.text kept_text c b y.number i first.block second.block first.name first.at_block second.at_block first.names (subst P (sym (same_name first.name second.name r first.meant second.meant)) second.names)

  count : length function.parameters ≡ length outer.text.parameters
  count = ap length (sym outer.is.parameters_are) ∙ length-map outer.text.parameters parameter_of

  step_above : (b i r : ℕ) → StepDefines function b i r → length function.parameters ≤ r
  step_above b i r x =
      let at = named_step b i r x in
      let l : length outer.text.parameters ≤ r = above_by outer.text at.name r at.meant (step_anew outer.text kept_text b i at.block at.name at.at_block at.names) in
      let n : length function.parameters ≡ length outer.text.parameters = count in
      omega arith

  phi_above : (b r : ℕ) → PhiDefines function b r → length function.parameters ≤ r
  phi_above b r x =
      let at = phi_of_block b r x in
      let l : length outer.text.parameters ≤ r = above_by outer.text at.name r at.meant (phi_anew outer.text kept_text b x.number at.block at.name at.at_block at.names) in
      let n : length function.parameters ≡ length outer.text.parameters = count in
      omega arith

  pub defines_once : DefinesOnce function
  defines_once = record {
    steps = steps_once;
    phis = λ b c r x y. (named_phis_once b c x.number y.number r (phi_of_block b r x) (phi_of_block c r y)).0;
    apart = phi_no_step;
    steps_above = step_above;
    phis_above = phi_above;
  }

  pub phis_of_block_once : (b i j : ℕ) (block : Block) (x y : Phi) → slice_get function.blocks b ≡ Some block → slice_get block.phis i ≡ Some x → slice_get block.phis j ≡ Some y → x.register.0 ≡ y.register.0 → i ≡ j
  phis_of_block_once b i j block x y at at_x at_y same =
      let P : ℕ → Type 0 = λ k. NamedPhi b j k in
      (named_phis_once b b i j x.register.0 (named_phi b i block x at at_x) (subst P (sym same) (named_phi b j block y at at_y))).1

pub once : (whole : Module) → IsKeptModule whole → (program : Program) (m : Means whole (Ok program)) (f : ℕ) (function : Function) → slice_get program.functions f ≡ Some function → DefinesOnce function
once whole kept program m f function at = defines_once whole kept program m f function (function_from whole program m f function at)
