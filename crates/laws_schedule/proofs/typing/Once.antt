-- In a module that is read no name of a function is defined twice.
use Rattle.std.proofs.Common.{◌≡◌, ℕ, zero, suc, ◌+◌, ◌<◌, Bool, true, false, List, [], ◌∷◌, ◌++◌, length, map, Option, Some, refl, sym, ap, ◌∙◌, subst, arith, true≢false}
use Rattle.std.specs.Prelude.{slice_get, ◌||◌}
use Rattle.std.specs.List.{flat_map}
use Rattle.std.specs.Str.{bytes_eq}
use Rattle.std.proofs.lemmas.Bool.{or_parts}
use Rattle.std.proofs.lemmas.List.Concat.{flat_map-cons}
use Rattle.std.proofs.lemmas.List.Folds.{list_any-append}
use Rattle.std.proofs.lemmas.Option.{slice_get_within}
use Rattle.std.proofs.lemmas.Slice.Eq.{bytes_eq-Decides}
use Rattle.syntax.specs.declared.instruction.Instruction.{Instruction}
use Rattle.syntax.specs.declared.instruction.Instruction.TheVariants as text
use Rattle.syntax.specs.declared.instruction.Phi.{Phi}
use Rattle.syntax.specs.declared.instruction.Step.{Step}
use Rattle.syntax.specs.declared.module.Block.{Block}
use Rattle.syntax.specs.declared.module.Function.{Function}
use Rattle.syntax.specs.declared.module.Parameter.{Parameter}
use Rattle.syntax.specs.declared.module.Parameter.TheVariants as parameter
use Rattle.ir_reader.specs.Defined.{parameter_name as read_parameter_name, defined_register, option_list, step_registers, phi_register, block_registers, block_names, reserved_inside, function_names}
use Rattle.ir_reader.specs.Kept.{IsKeptFunction}
use Rattle.ir_reader.specs.Names.{is_known, is_repeated}
use Rattle.types.specs.Definitions.{parameter_name, IsParameterName, defined_name}
use Rattle.laws_schedule.proofs.typing.Lists.{in_first, in_second, in_map}

-- ---- lists in which nothing stands twice

abbrev pub IsOnce : List (List ℕ) → Type 0
IsOnce names = (i j : ℕ) (name : List ℕ) → slice_get names i ≡ Some name → slice_get names j ≡ Some name → i ≡ j

once_first : (xs ys : List (List ℕ)) → IsOnce (xs ++ ys) → IsOnce xs
once_first xs ys h i j name a b = h i j name (in_first xs ys i name a) (in_first xs ys j name b)

once_second : (xs ys : List (List ℕ)) → IsOnce (xs ++ ys) → IsOnce ys
once_second xs ys h i j name a b = let e : length xs + i ≡ length xs + j = h (length xs + i) (length xs + j) name (in_second xs ys i name a) (in_second xs ys j name b) in omega arith

once_apart : (xs ys : List (List ℕ)) (i j : ℕ) (name : List ℕ) → IsOnce (xs ++ ys) → slice_get xs i ≡ Some name → slice_get ys j ≡ Some name → ⊥
once_apart xs ys i j name h a b =
    let e : i ≡ length xs + j = h i (length xs + j) name (in_first xs ys i name a) (in_second xs ys j name b) in
    let l : i < length xs = slice_get_within xs i name a in
    absurd (omega arith)

once_tail : (x : List ℕ) (xs : List (List ℕ)) → IsOnce (x ∷ xs) → IsOnce xs
once_tail x xs h i j name a b = let e : suc i ≡ suc j = h (suc i) (suc j) name a b in omega arith

module _ {A : Type 0} (f : A → List (List ℕ)) where
  in_flat : (xs : List A) (b : ℕ) (x : A) (j : ℕ) (name : List ℕ) → slice_get xs b ≡ Some x → slice_get (f x) j ≡ Some name → (k : ℕ) × (slice_get (flat_map f xs) k ≡ Some name)
  in_flat [] b x j name e h = absurd (cc)
  in_flat (y ∷ xs) zero x j name e h =
      let same : y ≡ x = cc in
      let P : List (List ℕ) → Type 0 = λ l. slice_get l j ≡ Some name in
      (j, subst P (sym (flat_map-cons f y xs)) (in_first (f y) (flat_map f xs) j name (ap (λ (z : A). slice_get (f z) j) same ∙ h)))
  in_flat (y ∷ xs) (suc b) x j name e h =
      let rest = in_flat xs b x j name e h in
      let P : List (List ℕ) → Type 0 = λ l. slice_get l (length (f y) + rest.0) ≡ Some name in
      (length (f y) + rest.0, subst P (sym (flat_map-cons f y xs)) (in_second (f y) (flat_map f xs) rest.0 name rest.1))

  parts : (y : A) (xs : List A) → IsOnce (flat_map f (y ∷ xs)) → IsOnce (f y ++ flat_map f xs)
  parts y xs h = let P : List (List ℕ) → Type 0 = λ l. IsOnce l in subst P (flat_map-cons f y xs) h

  once_part : (xs : List A) (b : ℕ) (x : A) → IsOnce (flat_map f xs) → slice_get xs b ≡ Some x → IsOnce (f x)
  once_part [] b x h e = absurd (cc)
  once_part (y ∷ xs) zero x h e = let same : y ≡ x = cc in let P : A → Type 0 = λ z. IsOnce (f z) in subst P same (once_first (f y) (flat_map f xs) (parts y xs h))
  once_part (y ∷ xs) (suc b) x h e = once_part xs b x (once_second (f y) (flat_map f xs) (parts y xs h)) e

  -- parts that share a name are one part
  once_flat : (xs : List A) (b c : ℕ) (x y : A) (j k : ℕ) (name : List ℕ) → IsOnce (flat_map f xs) → slice_get xs b ≡ Some x → slice_get xs c ≡ Some y → slice_get (f x) j ≡ Some name → slice_get (f y) k ≡ Some name → b ≡ c
  once_flat [] b c x y j k name h at_x at_y in_x in_y = absurd (cc)
  once_flat (z ∷ xs) zero zero x y j k name h at_x at_y in_x in_y = refl
  once_flat (z ∷ xs) zero (suc c) x y j k name h at_x at_y in_x in_y =
      let same : z ≡ x = cc in
      let later = in_flat xs c y k name at_y in_y in
      absurd (once_apart (f z) (flat_map f xs) j later.0 name (parts z xs h) (ap (λ (w : A). slice_get (f w) j) same ∙ in_x) later.1)
  once_flat (z ∷ xs) (suc b) zero x y j k name h at_x at_y in_x in_y =
      let same : z ≡ y = cc in
      let later = in_flat xs b x j name at_x in_x in
      absurd (once_apart (f z) (flat_map f xs) k later.0 name (parts z xs h) (ap (λ (w : A). slice_get (f w) k) same ∙ in_y) later.1)
  once_flat (z ∷ xs) (suc b) (suc c) x y j k name h at_x at_y in_x in_y =
      ap (λ n. suc n) (once_flat xs b c x y j k name (once_second (f z) (flat_map f xs) (parts z xs h)) at_x at_y in_x in_y)

-- ---- names that are not repeated

name_itself : (name : List ℕ) → bytes_eq name name ≡ true
name_itself name = (bytes_eq-Decides name name).1 refl

-- none of them was known before
pub fresh : (known ys : List (List ℕ)) (j : ℕ) (name : List ℕ) → is_repeated known ys ≡ false → slice_get ys j ≡ Some name → is_known known name ≡ false
fresh known [] j name h e = absurd (cc)
fresh known (y ∷ ys) zero name h e = let same : y ≡ name = cc in ap (is_known known) (sym same) ∙ (or_parts (is_known known y) (is_repeated (known ++ y ∷ []) ys) h).0
fresh known (y ∷ ys) (suc j) name h e =
    let later : is_known (known ++ y ∷ []) name ≡ false = fresh (known ++ y ∷ []) ys j name (or_parts (is_known known y) (is_repeated (known ++ y ∷ []) ys) h).1 e in
    let parted : (is_known known name || is_known (y ∷ []) name) ≡ false = sym (list_any-append (bytes_eq name) known (y ∷ [])) ∙ later in
    (or_parts (is_known known name) (is_known (y ∷ []) name) parted).0

last_known : (a b : Bool) → b ≡ true → (a || (b || false)) ≡ true
last_known true b e = refl
last_known false true e = refl
last_known false false e = e

pub known_last : (known : List (List ℕ)) (name : List ℕ) → is_known (known ++ name ∷ []) name ≡ true
known_last known name = list_any-append (bytes_eq name) known (name ∷ []) ∙ last_known (is_known known name) (bytes_eq name name) (name_itself name)

not_later : (known ys : List (List ℕ)) (y : List ℕ) (j : ℕ) (name : List ℕ) → is_repeated known (y ∷ ys) ≡ false → y ≡ name → slice_get ys j ≡ Some name → ⊥
not_later known ys y j name h same at =
    let none : is_known (known ++ y ∷ []) name ≡ false = fresh (known ++ y ∷ []) ys j name (or_parts (is_known known y) (is_repeated (known ++ y ∷ []) ys) h).1 at in
    true≢false (sym (known_last known name) ∙ ap (λ (x : List ℕ). is_known (known ++ x ∷ []) name) (sym same) ∙ none)

once_of : (known names : List (List ℕ)) → is_repeated known names ≡ false → IsOnce names
once_of known [] h i j name a b = absurd (cc)
once_of known (y ∷ ys) h zero zero name a b = refl
once_of known (y ∷ ys) h zero (suc j) name a b = let same : y ≡ name = cc in absurd (not_later known ys y j name h same b)
once_of known (y ∷ ys) h (suc i) zero name a b = let same : y ≡ name = cc in absurd (not_later known ys y i name h same a)
once_of known (y ∷ ys) h (suc i) (suc j) name a b = ap (λ n. suc n) (once_of (known ++ y ∷ []) ys (or_parts (is_known known y) (is_repeated (known ++ y ∷ []) ys) h).1 i j name a b)

-- ---- of a block

pub same_defined : (what : Instruction) → defined_register what ≡ defined_name what
same_defined (text.Binary register operator width left right) = refl
same_defined (text.Compare register predicate width left right) = refl
same_defined (text.Convert register conversion value) = refl
same_defined (text.Alloca register size) = refl
same_defined (text.ElementPointer register base index) = refl
same_defined (text.Load register at) = refl
same_defined (text.Store value at) = refl
same_defined (text.StoreZeros cells at) = refl
same_defined (text.AtomicAdd at value) = refl
same_defined (text.Call register callee arguments) = refl
same_defined (text.StartRegion register) = refl

own_name : (step : Step) (name : List ℕ) → defined_name step.instruction ≡ Some name → slice_get (step_registers step) 0 ≡ Some name
own_name step name is = ap (λ (o : Option (List ℕ)). slice_get (option_list o) 0) (same_defined step.instruction ∙ is)

-- the phi, the step, by its place, defines the name
pub record PhiNames (block : Block) (i : ℕ) (name : List ℕ) : Type 0 where
  pub phi : Phi
  pub at : slice_get block.phis i ≡ Some phi
  pub is : phi.register ≡ name

pub record StepNames (block : Block) (i : ℕ) (name : List ℕ) : Type 0 where
  pub step : Step
  pub at : slice_get block.steps i ≡ Some step
  pub is : defined_name step.instruction ≡ Some name

module _ (block : Block) where
  phi_place : (i : ℕ) (name : List ℕ) → PhiNames block i name → slice_get (map phi_register block.phis) i ≡ Some name
  phi_place i name h = in_map phi_register block.phis i h.phi h.at ∙ ap (λ (n : List ℕ). Some n) h.is

  step_place : (i : ℕ) (name : List ℕ) → StepNames block i name → (k : ℕ) × (slice_get (flat_map step_registers block.steps) k ≡ Some name)
  step_place i name h = in_flat step_registers block.steps i h.step 0 name h.at (own_name h.step name h.is)

  phi_in_block : (i : ℕ) (name : List ℕ) → PhiNames block i name → slice_get (block_names block) (suc i) ≡ Some name
  unfolding block_registers
  phi_in_block i name h = in_first (map phi_register block.phis) (flat_map step_registers block.steps) i name (phi_place i name h)

  step_in_block : (i : ℕ) (name : List ℕ) → StepNames block i name → (k : ℕ) × (slice_get (block_names block) k ≡ Some name)
  unfolding block_registers
  step_in_block i name h =
      let at = step_place i name h in
      (suc (length (map phi_register block.phis) + at.0), in_second (map phi_register block.phis) (flat_map step_registers block.steps) at.0 name at.1)

  module _ (once : IsOnce (block_names block)) where
    registers_once : IsOnce (map phi_register block.phis ++ flat_map step_registers block.steps)
    unfolding block_registers
    registers_once = once_tail block.label (block_registers block) once

    phis_once : (i j : ℕ) (name : List ℕ) → PhiNames block i name → PhiNames block j name → i ≡ j
    phis_once i j name a b = once_first (map phi_register block.phis) (flat_map step_registers block.steps) registers_once i j name (phi_place i name a) (phi_place j name b)

    steps_once : (i j : ℕ) (name : List ℕ) → StepNames block i name → StepNames block j name → i ≡ j
    steps_once i j name a b =
        once_flat step_registers block.steps i j a.step b.step 0 0 name (once_second (map phi_register block.phis) (flat_map step_registers block.steps) registers_once) a.at b.at (own_name a.step name a.is) (own_name b.step name b.is)

    phi_no_step : (i j : ℕ) (name : List ℕ) → PhiNames block i name → StepNames block j name → ⊥
    phi_no_step i j name a b =
        let at = step_place j name b in
        once_apart (map phi_register block.phis) (flat_map step_registers block.steps) i at.0 name registers_once (phi_place i name a) at.1

-- ---- of a function

pub same_parameter : (one : Parameter) → read_parameter_name one ≡ parameter_name one
same_parameter (parameter.Number name) = refl
same_parameter (parameter.Pointer name cells) = refl

module _ (function : Function) (kept : IsKeptFunction function) where
  abbrev parameter_names : List (List ℕ)
  parameter_names = map read_parameter_name function.parameters

  names_once : IsOnce (parameter_names ++ flat_map block_names function.blocks)
  unfolding function_names
  names_once = once_tail reserved_inside (function_names function) (once_of [] (reserved_inside ∷ function_names function) kept.distinct)

  blocks_once : IsOnce (flat_map block_names function.blocks)
  blocks_once = once_second parameter_names (flat_map block_names function.blocks) names_once

  block_once : (b : ℕ) (block : Block) → slice_get function.blocks b ≡ Some block → IsOnce (block_names block)
  block_once b block at = once_part block_names function.blocks b block blocks_once at

  -- a block's name is no parameter's
  no_parameter : (b k : ℕ) (block : Block) (name : List ℕ) → slice_get function.blocks b ≡ Some block → slice_get (block_names block) k ≡ Some name → IsParameterName function.parameters name → ⊥
  no_parameter b k block name at here (i, one, at_one, is) =
      let later = in_flat block_names function.blocks b block k name at here in
      once_apart parameter_names (flat_map block_names function.blocks) i later.0 name names_once
      (in_map read_parameter_name function.parameters i one at_one ∙ ap (λ (n : List ℕ). Some n) (same_parameter one ∙ is)) later.1

  pub phi_anew : (b i : ℕ) (block : Block) (name : List ℕ) → slice_get function.blocks b ≡ Some block → PhiNames block i name → IsParameterName function.parameters name → ⊥
  phi_anew b i block name at h = no_parameter b (suc i) block name at (phi_in_block block i name h)

  pub step_anew : (b i : ℕ) (block : Block) (name : List ℕ) → slice_get function.blocks b ≡ Some block → StepNames block i name → IsParameterName function.parameters name → ⊥
  step_anew b i block name at h = let here = step_in_block block i name h in no_parameter b here.0 block name at here.1

  one_block : (b c : ℕ) (x y : Block) → slice_get function.blocks b ≡ Some x → slice_get function.blocks c ≡ Some y → b ≡ c → y ≡ x
  one_block b c x y at_x at_y same = let e : Some y ≡ Some x = sym at_y ∙ ap (λ n. slice_get function.blocks n) (sym same) ∙ at_x in cc

  pub steps_apart : (b c i j : ℕ) (x y : Block) (name : List ℕ) → slice_get function.blocks b ≡ Some x → slice_get function.blocks c ≡ Some y → StepNames x i name → StepNames y j name → (b ≡ c) × (i ≡ j)
  steps_apart b c i j x y name at_x at_y first second =
      let in_x = step_in_block x i name first in
      let in_y = step_in_block y j name second in
      let same : b ≡ c = once_flat block_names function.blocks b c x y in_x.0 in_y.0 name blocks_once at_x at_y in_x.1 in_y.1 in
      let P : Block → Type 0 = λ z. StepNames z j name in
      (same, steps_once x (block_once b x at_x) i j name first (subst P (one_block b c x y at_x at_y same) second))

  pub phis_apart : (b c i j : ℕ) (x y : Block) (name : List ℕ) → slice_get function.blocks b ≡ Some x → slice_get function.blocks c ≡ Some y → PhiNames x i name → PhiNames y j name → (b ≡ c) × (i ≡ j)
  phis_apart b c i j x y name at_x at_y first second =
      let same : b ≡ c = once_flat block_names function.blocks b c x y (suc i) (suc j) name blocks_once at_x at_y (phi_in_block x i name first) (phi_in_block y j name second) in
      let P : Block → Type 0 = λ z. PhiNames z j name in
      (same, phis_once x (block_once b x at_x) i j name first (subst P (one_block b c x y at_x at_y same) second))

  pub phi_and_step_apart : (b c i j : ℕ) (x y : Block) (name : List ℕ) → slice_get function.blocks b ≡ Some x → slice_get function.blocks c ≡ Some y → PhiNames x i name → StepNames y j name → ⊥
  phi_and_step_apart b c i j x y name at_x at_y first second =
      let in_y = step_in_block y j name second in
      let same : b ≡ c = once_flat block_names function.blocks b c x y (suc i) in_y.0 name blocks_once at_x at_y (phi_in_block x i name first) in_y.1 in
      let P : Block → Type 0 = λ z. StepNames z j name in
      phi_no_step x (block_once b x at_x) i j name first (subst P (one_block b c x y at_x at_y same) second)
