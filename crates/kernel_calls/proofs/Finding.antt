-- A global by its name, and by its number.
use Rattle.std.proofs.Common.{◌≡◌, ◌∙◌, ℕ, ◌+◌, ◌<◌, ◌≤◌, Bool, true, false, List, Some, length, slice_get, take, get_or, refl, ap, subst, sym, arith}
use Rattle.std.specs.Prelude.{◌≢◌, nat_lt}
use Rattle.std.proofs.lemmas.Bool.{ltb-false, ltb-true}
use Rattle.std.proofs.lemmas.Option.{get_or_from_slice_get, same_Some, slice_get_read, slice_get_within}
use Rattle.program.specs.declared.function.Global.{Global}
use Rattle.program.specs.declared.function.Program.{Program}
use Rattle.kernel_calls.specs.Told.{cells_of}
use Rattle.kernel_calls.specs.Inside.{IsGlobalAt, LacksName}

-- none of the first n has this name
abbrev pub AreOthers : List Global → List ℕ → ℕ → Type 0
AreOthers globals name n = (k : ℕ) (g : Global) → k < n → slice_get globals k ≡ Some g → g.name ≢ name

pub one_more : (globals : List Global) (name : List ℕ) (n : ℕ) (global : Global) → AreOthers globals name n → slice_get globals n ≡ Some global → global.name ≢ name →
    AreOthers globals name (n + 1)
one_more globals name n global before there other k g low is = by (nat_lt k n) refl
  where
    by : (b : Bool) → nat_lt k n ≡ b → g.name ≢ name
    by true e = before k g (ltb-true k n e) is
    by false e =
        let past : n ≤ k = ltb-false k n e in
        let at : k ≡ n = omega (arith, past, low) in
        let same : g ≡ global = same_Some g global (sym is ∙ ap (λ (i : ℕ). slice_get globals i) at ∙ there) in
        subst (λ (x : Global). x.name ≢ name) (sym same) other

pub none_has : (globals : List Global) (name : List ℕ) (n : ℕ) → AreOthers globals name n → length globals ≤ n → LacksName globals name
none_has globals name n before all number global is = before number global (let within = slice_get_within globals number global is in omega (arith, within, all)) is

pub global_at : (program : Program) (number : ℕ) (name : List ℕ) (first cells : ℕ) (globals : List Global) (global : Global) → globals ≡ program.globals → number < length globals →
    global ≡ get_or globals number global → global.name ≡ name → first ≡ cells_of (take number globals) → cells ≡ global.cells → IsGlobalAt program number name first cells
global_at program number name first cells globals global same within read named begins count = record {
  global = global;
  there = ap (λ (l : List Global). slice_get l number) (sym same) ∙ slice_get_read globals (length globals) number global refl within read;
  named = named;
  first_is = begins ∙ ap (λ (l : List Global). cells_of (take number l)) same;
  cells_are = count;
}

pub global_found : (program : Program) (number : ℕ) (name : List ℕ) (first cells : ℕ) (globals : List Global) (found read : Global) → globals ≡ program.globals →
    slice_get globals number ≡ Some found → found.name ≡ name → read ≡ get_or globals number read → first ≡ cells_of (take number globals) → cells ≡ read.cells →
    IsGlobalAt program number name first cells
global_found program number name first cells globals found read same there named is begins count =
    let one : read ≡ found = is ∙ get_or_from_slice_get globals number found read there in
    global_at program number name first cells globals read same (slice_get_within globals number found there) is (ap (λ (g : Global). g.name) one ∙ named) begins count
