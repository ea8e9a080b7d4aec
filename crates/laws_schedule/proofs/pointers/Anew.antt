-- A module that is read defines no name of a parameter again.
use Rattle.std.proofs.Common.{◌≡◌, ℕ, zero, suc, false, List, [], ◌∷◌, ◌++◌, map, Option, Some, sym, ap, ◌∙◌, subst, true≢false, length, ◌+◌}
use Rattle.std.specs.Prelude.{slice_get}
use Rattle.std.specs.List.{All, flat_map}
use Rattle.std.proofs.lemmas.Bool.{or_parts}
use Rattle.std.proofs.lemmas.List.Concat.{flat_map-cons}
use Rattle.std.proofs.lemmas.List.Elements.{All-head, All-tail}
use Rattle.syntax.specs.declared.instruction.Phi.{Phi}
use Rattle.syntax.specs.declared.instruction.Step.{Step}
use Rattle.syntax.specs.declared.module.Block.{Block}
use Rattle.syntax.specs.declared.module.Function.{Function}
use Rattle.syntax.specs.declared.module.Module.{Module}
use Rattle.ir_reader.specs.Defined.{parameter_name as read_parameter_name, option_list, step_registers, phi_register, block_registers, block_names, reserved_inside, function_names}
use Rattle.ir_reader.specs.Kept.{IsKeptFunction, IsKeptModule}
use Rattle.ir_reader.specs.Names.{is_known, is_repeated}
use Rattle.types.specs.Definitions.{IsParameterName, defined_name, DefinesAnew, EachDefinesAnew}
use Rattle.laws_schedule.proofs.typing.Lists.{in_first, in_map, in_second}
use Rattle.laws_schedule.proofs.typing.Once.{same_defined, same_parameter, known_last, fresh}

-- ---- elements of lists behind each other

in_flat : {A B : Type 0} (f : A → List B) (xs : List A) (b : ℕ) (x : A) (j : ℕ) (a : B) → slice_get xs b ≡ Some x → slice_get (f x) j ≡ Some a → (k : ℕ) × (slice_get (flat_map f xs) k ≡ Some a)
in_flat f [] b x j a e h = absurd (cc)
in_flat {A} {B} f (y ∷ xs) zero x j a e h =
    let same : y ≡ x = cc in
    let P : List B → Type 0 = λ l. slice_get l j ≡ Some a in
    (j, subst P (sym (flat_map-cons f y xs)) (in_first (f y) (flat_map f xs) j a (ap (λ (z : A). slice_get (f z) j) same ∙ h)))
in_flat {A} {B} f (y ∷ xs) (suc b) x j a e h =
    let rest = in_flat f xs b x j a e h in
    let P : List B → Type 0 = λ l. slice_get l (length (f y) + rest.0) ≡ Some a in
    (length (f y) + rest.0, subst P (sym (flat_map-cons f y xs)) (in_second (f y) (flat_map f xs) rest.0 a rest.1))

-- ---- names that are not repeated

-- a name of the first list is none of the second
apart_names : (known xs ys : List (List ℕ)) (i j : ℕ) (name : List ℕ) → is_repeated known (xs ++ ys) ≡ false → slice_get xs i ≡ Some name → slice_get ys j ≡ Some name → ⊥
apart_names known [] ys i j name h e k = cc
apart_names known (x ∷ xs) ys zero j name h e k =
    let same : x ≡ name = cc in
    let rest : is_repeated (known ++ x ∷ []) (xs ++ ys) ≡ false = (or_parts (is_known known x) (is_repeated (known ++ x ∷ []) (xs ++ ys)) h).1 in
    let none : is_known (known ++ x ∷ []) name ≡ false = fresh (known ++ x ∷ []) (xs ++ ys) (length xs + j) name rest (in_second xs ys j name k) in
    true≢false (sym (known_last known name) ∙ ap (λ (y : List ℕ). is_known (known ++ y ∷ []) name) (sym same) ∙ none)
apart_names known (x ∷ xs) ys (suc i) j name h e k =
    apart_names (known ++ x ∷ []) xs ys i j name (or_parts (is_known known x) (is_repeated (known ++ x ∷ []) (xs ++ ys)) h).1 e k

-- ---- of a function that is read

module _ (f : Function) (kept : IsKeptFunction f) where
  parameter_at : (name : List ℕ) → IsParameterName f.parameters name → (i : ℕ) × (slice_get (map read_parameter_name f.parameters) i ≡ Some name)
  parameter_at name (i, one, at, is) = (i, in_map read_parameter_name f.parameters i one at ∙ ap (λ (n : List ℕ). Some n) (same_parameter one ∙ is))

  -- a name of a block is no parameter's
  not_in_block : (b j : ℕ) (block : Block) (name : List ℕ) → slice_get f.blocks b ≡ Some block → slice_get (block_names block) j ≡ Some name → IsParameterName f.parameters name → ⊥
  unfolding function_names
  not_in_block b j block name at here is =
      let first = parameter_at name is in
      let later = in_flat block_names f.blocks b block j name at here in
      let all : is_repeated (reserved_inside ∷ []) (map read_parameter_name f.parameters ++ flat_map block_names f.blocks) ≡ false =
      (or_parts (is_known [] reserved_inside) (is_repeated (reserved_inside ∷ []) (map read_parameter_name f.parameters ++ flat_map block_names f.blocks)) kept.distinct).1 in
      apart_names (reserved_inside ∷ []) (map read_parameter_name f.parameters) (flat_map block_names f.blocks) first.0 later.0 name all first.1 later.1

  phi_at : (i : ℕ) (block : Block) (phi : Phi) → slice_get block.phis i ≡ Some phi → slice_get (block_names block) (suc i) ≡ Some phi.register
  unfolding block_registers
  phi_at i block phi at = in_first (map phi_register block.phis) (flat_map step_registers block.steps) i phi.register (in_map phi_register block.phis i phi at)

  step_at : (s : ℕ) (block : Block) (step : Step) (name : List ℕ) → slice_get block.steps s ≡ Some step → defined_name step.instruction ≡ Some name → (j : ℕ) × (slice_get (block_names block) j ≡ Some name)
  unfolding block_registers
  step_at s block step name at is =
      let own : slice_get (step_registers step) 0 ≡ Some name = ap (λ (o : Option (List ℕ)). slice_get (option_list o) 0) (same_defined step.instruction ∙ is) in
      let later = in_flat step_registers block.steps s step 0 name at own in
      let phis = map phi_register block.phis in
      (suc (length phis + later.0), in_second phis (flat_map step_registers block.steps) later.0 name later.1)

  defines_anew : DefinesAnew f
  defines_anew = record {
    by_phis = λ b i block phi at_b at is. not_in_block b (suc i) block phi.register at_b (phi_at i block phi at) is;
    by_instructions = λ b s block step name at_b at defines is. let here = step_at s block step name at defines in not_in_block b here.0 block name at_b here.1 is;
  }

each_anew : (functions : List Function) → All IsKeptFunction functions → EachDefinesAnew functions
each_anew [] kept f function e = absurd (cc)
each_anew (one ∷ functions) kept zero function e = let same : one ≡ function = cc in let P : Function → Type 0 = λ x. DefinesAnew x in subst P same (defines_anew one (All-head IsKeptFunction one functions kept))
each_anew (one ∷ functions) kept (suc f) function e = each_anew functions (All-tail IsKeptFunction one functions kept) f function e

pub read_anew : (whole : Module) → IsKeptModule whole → EachDefinesAnew whole.functions
read_anew whole kept = each_anew whole.functions kept.functions
