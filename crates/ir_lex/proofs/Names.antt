-- A name is a run, and so is one behind % or @.
use Rattle.std.proofs.Common.{◌≡◌, ℕ, Bool, true, false, cond, eqb, List, [], ◌∷◌, Some, None, refl, ap}
use Rattle.std.specs.List.{list_all}
use Rattle.std.proofs.lemmas.Bool.{eqb-true, and_parts}
use Rattle.ir_lex.specs.declared.token.Kind.TheVariants.{Name, Number, Word}
use Rattle.ir_lex.specs.Spelling.{is_run_byte, begins_name, continues_name, is_name, is_number, is_marked_name, kind_of}

pub by_test : {P : Type 0} (b : Bool) → (b ≡ true → P) → (b ≡ false → P) → P
by_test true if_true unless = if_true refl
by_test false if_true unless = unless refl

pub differs : (p : ℕ → Bool) (b c : ℕ) → p b ≡ true → p c ≡ false → eqb b c ≡ false
differs p b c yes_at no_at = by_test (eqb b c) (λ (h : eqb b c ≡ true). let e : p b ≡ p c = ap p (eqb-true b c h) in absurd cc) (λ (h : eqb b c ≡ false). h)

pub byte_runs : (b : ℕ) → continues_name b ≡ true → is_run_byte b ≡ true
byte_runs b h =
    let d = differs continues_name b in
    rw (d 32 h refl, d 9 h refl, d 61 h refl, d 44 h refl, d 40 h refl, d 41 h refl, d 91 h refl, d 93 h refl, d 123 h refl, d 125 h refl, d 58 h refl, d 59 h refl) refl

bytes_run : (bs : List ℕ) → list_all continues_name bs ≡ true → list_all is_run_byte bs ≡ true
bytes_run [] h = refl
bytes_run (b ∷ bs) h = let t = and_parts (continues_name b) (list_all continues_name bs) h in rw (byte_runs b t.0, bytes_run bs t.1) refl

begins_continues : (b : ℕ) → begins_name b ≡ true → continues_name b ≡ true
begins_continues b h = rw h refl

pub name_runs : (w : List ℕ) → is_name w ≡ true → list_all is_run_byte w ≡ true
name_runs [] h = absurd cc
name_runs (b ∷ bs) h =
    let t = and_parts (begins_name b) (list_all continues_name bs) h in
    rw (byte_runs b (begins_continues b t.0), bytes_run bs t.1) refl

pub name_kind : (w : List ℕ) → is_name w ≡ true → kind_of w ≡ Some Word
name_kind w h = ap (λ (b : Bool). cond b (Some Word) (cond (is_number w) (Some Number) (cond (is_marked_name w) (Some Name) None))) h
