-- Tables, element by element.
use Rattle.std.proofs.Common.{◌≡◌, ◌∙◌, ℕ, ◌+◌, ◌<◌, List, [], ◌∷◌, ◌++◌, length, get_or, Some, sym, ap, subst, ⊎_elim, arith}
use Rattle.std.specs.Prelude.{slice_get}
use Rattle.std.proofs.lemmas.Bool.{cases_eq}
use Rattle.std.proofs.lemmas.List.{length_push, get_or_push, get_or_append_left}
use Rattle.std.proofs.lemmas.Option.{slice_get-get_or, slice_get_within, get_or_from_slice_get}
use Rattle.program.specs.declared.function.Block.{Block}
use Rattle.program.specs.declared.function.Function.{Function}
use Rattle.program.specs.declared.function.Program.{Program}
use Rattle.ranges.specs.declared.table.BlockFacts.{BlockFacts}
use Rattle.ranges.specs.declared.table.FunctionFacts.{FunctionFacts}
use Rattle.ranges.specs.Tables.{IsBlockTable, IsFunctionTable, AreFacts}
use Rattle.refusal.proofs.Places.{same_at, read_at}

-- what the table says of the first elements
pub record Tabled {X T : Type 0} (Is : ℕ → X → T → Type 0) (xs : List X) (n : ℕ) (tables : List T) : Type 0 where
  pub size : length tables ≡ n
  pub each : (i : ℕ) (x : X) (t : T) → slice_get xs i ≡ Some x → slice_get tables i ≡ Some t → Is i x t

pub tabled_start : {X T : Type 0} (Is : ℕ → X → T → Type 0) (xs : List X) (tables : List T) → tables ≡ [] → Tabled Is xs 0 tables
tabled_start Is xs tables none = record {
  size = ap length none;
  each = λ i x t h k. let l = slice_get_within tables i t k in let e = ap length none in absurd (omega (arith, l, e));
}

module _ {X T : Type 0} (Is : ℕ → X → T → Type 0) (xs : List X) (i : ℕ) (x : X) (t : T) (tables tables' : List T)
    (l : i < length xs) (is : x ≡ get_or xs i x) (before : Tabled Is xs i tables) (here : Is i x t) (pushed : tables' ≡ tables ++ t ∷ []) where
  last : (u : T) → slice_get tables' i ≡ Some u → u ≡ t
  last u h = sym (get_or_from_slice_get tables' i u t h) ∙ ap (λ ts. get_or ts i t) pushed ∙ get_or_push tables t t i before.size

  older : (k : ℕ) (u : T) → k < i → slice_get tables' k ≡ Some u → slice_get tables k ≡ Some u
  older k u less h =
      slice_get-get_or tables k u (omega (arith, less, before.size))
      ∙ ap Some (sym (get_or_append_left tables (t ∷ []) u k (omega (arith, less, before.size))) ∙ ap (λ ts. get_or ts k u) (sym pushed) ∙ get_or_from_slice_get tables' k u u h)

  pub tabled_next : Tabled Is xs (i + 1) tables'
  tabled_next = record {
    size = ap length pushed ∙ length_push tables t ∙ ap (λ n. n + 1) before.size;
    each = λ k y u h m.
        let within = slice_get_within tables' k u m in
        let size = ap length pushed ∙ length_push tables t in
        ⊎_elim
        (λ same. let e : y ≡ x = same_at xs i y x (rw same at h) (read_at xs i x l is) in
        let f : u ≡ t = last u (rw same at m) in
        subst (λ j. Is j y u) (sym same) (subst (λ z. Is i z u) (sym e) (subst (λ v. Is i x v) (sym f) here)))
        (λ other. before.each k y u h (older k u (omega (arith, within, size, before.size, other)) m))
        (cases_eq k i);
  }

pub function_table : (functions : List Function) (function : Function) (blocks : List Block) (n : ℕ) (tables : List BlockFacts) → blocks ≡ function.blocks → n ≡ length blocks →
    Tabled (IsBlockTable functions function) blocks n tables → IsFunctionTable functions function (record { blocks = tables })
function_table functions function blocks n tables read end t = record {
  blocks = t.size ∙ end ∙ ap length read;
  each = λ b block facts h k. t.each b block facts (ap (λ bs. slice_get bs b) read ∙ h) k;
}

pub program_table : (program : Program) (functions : List Function) (n : ℕ) (tables : List FunctionFacts) → functions ≡ program.functions → n ≡ length functions →
    Tabled (λ i (f : Function). IsFunctionTable program.functions f) functions n tables → AreFacts program (record { functions = tables })
program_table program functions n tables read end t = record {
  functions = t.size ∙ end ∙ ap length read;
  each = λ i function table h k. t.each i function table (ap (λ fs. slice_get fs i) read ∙ h) k;
}
