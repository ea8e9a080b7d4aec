-- A word of a line that is no annotation is a name.
use Rattle.std.proofs.Common.{◌≡◌, ℕ, ◌+◌, ◌-◌, ◌≤◌, inl, inr, true, false, cond, eqb, List, [], ◌∷◌, length, take, drop, Option, Some, None, refl, subst, arith}
use Rattle.std.specs.Prelude.{option_map}
use Rattle.std.specs.List.{prefix_len, AllByRecursion}
use Rattle.std.proofs.lemmas.List.{drop_at}
use Rattle.std.proofs.lemmas.List.Sums.{prefix_len-le-length}
use Rattle.ir_lex.specs.declared.token.Kind.{Kind}
use Rattle.ir_lex.specs.declared.token.Kind.TheVariants.{Name, Number, Word, Mark, Note}
use Rattle.ir_lex.specs.declared.token.Token.{Token}
use Rattle.ir_lex.specs.declared.scan.Front.TheVariants.{Space, Comment, Begins}
use Rattle.ir_lex.specs.Spelling.{is_space, is_mark, is_name, is_number, is_marked_name, is_note_mark, is_run_byte, kind_of}
use Rattle.ir_lex.specs.Tokens.{lead_of_run, lead, tokens_from, tokens_of}
use Rattle.ir_lex.specs.Texts.{text_at}
use Rattle.ir_lex.proofs.Hold.{chosen, HoldsAtFronts, from_place}

abbrev pub IsNameIfWord : Kind → List ℕ → Type 0
IsNameIfWord Word text = is_name text ≡ true
IsNameIfWord Name text = Unit {0}
IsNameIfWord Number text = Unit {0}
IsNameIfWord Mark text = Unit {0}
IsNameIfWord Note text = Unit {0}

abbrev pub IsPlainToken : List ℕ → Token → Type 0
IsPlainToken line t = IsNameIfWord t.kind (text_at line t)

run_plain : (run : List ℕ) (kind : Kind) → kind_of run ≡ Some kind → IsNameIfWord kind run
run_plain run kind h =
    elim (chosen (is_name run) (Some Word) (cond (is_number run) (Some Number) (cond (is_marked_name run) (Some Name) None)) (Some kind) h) [
      | inl w ↦ let e : Word ≡ kind = cc in subst (λ (k : Kind). IsNameIfWord k run) e w.0
      | inr n ↦ elim (chosen (is_number run) (Some Number) (cond (is_marked_name run) (Some Name) None) (Some kind) n.1) [
        | inl w ↦ let e : Number ≡ kind = cc in subst (λ (k : Kind). IsNameIfWord k run) e tt
        | inr m ↦ elim (chosen (is_marked_name run) (Some Name) None (Some kind) m.1) [
          | inl w ↦ let e : Name ≡ kind = cc in subst (λ (k : Kind). IsNameIfWord k run) e tt
          | inr w ↦ absurd cc
        ]
      ]
    ]

of_run : (found : Option Kind) (m : ℕ) (kind : Kind) (n : ℕ) → lead_of_run found m ≡ Begins kind n → (found ≡ Some kind) × (m ≡ n)
of_run None m kind n h = absurd cc
of_run (Some k) m kind n h = (cc, cc)

lead_plain : (b : ℕ) (bs : List ℕ) (kind : Kind) (n : ℕ) → lead (b ∷ bs) ≡ Begins kind n → IsNameIfWord kind (take n (b ∷ bs))
unfolding lead
lead_plain b bs kind n h =
    let len : ℕ = prefix_len is_run_byte (b ∷ bs) in
    let run = lead_of_run (kind_of (take len (b ∷ bs))) len in
    let by_semicolon = cond (eqb b 59) Comment run in
    let by_note = cond (is_note_mark (b ∷ bs)) (Begins Note 2) by_semicolon in
    let by_mark = cond (is_mark b) (Begins Mark 1) by_note in
    elim (chosen (is_space b) Space by_mark (Begins kind n) h) [
      | inl w ↦ absurd cc
      | inr s ↦ elim (chosen (is_mark b) (Begins Mark 1) by_note (Begins kind n) s.1) [
        | inl w ↦ let k : Mark ≡ kind = cc in subst (λ (k : Kind). IsNameIfWord k (take n (b ∷ bs))) k tt
        | inr m ↦ elim (chosen (is_note_mark (b ∷ bs)) (Begins Note 2) by_semicolon (Begins kind n) m.1) [
          | inl w ↦ let k : Note ≡ kind = cc in subst (λ (k : Kind). IsNameIfWord k (take n (b ∷ bs))) k tt
          | inr c ↦ elim (chosen (eqb b 59) Comment run (Begins kind n) c.1) [
            | inl w ↦ absurd cc
            | inr w ↦
                let r = of_run (kind_of (take len (b ∷ bs))) len kind n w.1 in
                subst (λ (k : ℕ). IsNameIfWord kind (take k (b ∷ bs))) r.1 (run_plain (take len (b ∷ bs)) kind r.0)
          ]
        ]
      ]
    ]

fronts_plain : HoldsAtFronts IsPlainToken false
fronts_plain before b bs kind n h =
    let e : length before + n - length before ≡ n = omega arith in
    rw (e, drop_at before (b ∷ bs) (length before) refl) (lead_plain b bs kind n h)

-- the tokens of a line whose first one is no ;!
abbrev pub ArePlain : List ℕ → List Token → Type 0
ArePlain line [] = Unit {0}
ArePlain line (t ∷ ts) = (t.kind ≡ Note → ⊥) → AllByRecursion (IsPlainToken line) (t ∷ ts)

noted : (line : List ℕ) (t : Token) (more : Option (List Token)) (ts : List Token) → t.kind ≡ Note → option_map (λ us. t ∷ us) more ≡ Some ts → ArePlain line ts
noted line t None ts k h = absurd cc
noted line t (Some us) ts k h = let e : t ∷ us ≡ ts = cc in subst (ArePlain line) e (λ other. absurd (other k))

if_plain : (line : List ℕ) (ts : List Token) → AllByRecursion (IsPlainToken line) ts → ArePlain line ts
if_plain line [] h = tt
if_plain line (t ∷ ts) h = λ other. h

pub plain_words : (line : List ℕ) (ts : List Token) → tokens_of line ≡ Some ts → ArePlain line ts
plain_words line ts h =
    let start : ℕ = prefix_len is_space line in
    let within : start ≤ length line = prefix_len-le-length is_space line in
    let first : Token = record { kind = Note; from = start; to = start + 2 } in
    let others : Option (List Token) = tokens_from true 0 (start + 2) (drop (start + 2) line) in
    elim (chosen (is_note_mark (drop start line)) (option_map (λ us. first ∷ us) others) (tokens_from false 0 start (drop start line)) (Some ts) h) [
      | inl w ↦ noted line first others ts refl w.1
      | inr w ↦ if_plain line ts (from_place IsPlainToken false fronts_plain start line ts within w.1)
    ]
