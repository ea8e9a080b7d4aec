-- Each token lies in its line, and its bytes are of its kind.
use Rattle.std.proofs.Common.{◌≡◌, ℕ, zero, suc, ◌+◌, ◌-◌, ◌<◌, ◌≤◌, ◌⊎◌, inl, inr, Bool, true, false, cond, eqb, List, [], ◌∷◌, ◌++◌, length, take, drop, All, Option, Some, None, refl, sym, subst, ap, ◌∙◌, arith, append_assoc}
use Rattle.std.specs.Prelude.{option_map}
use Rattle.std.specs.List.{prefix_len, list_all, AllByRecursion}
use Rattle.std.proofs.lemmas.List.{length-take-le, take-append-drop, length-append, length-drop, drop_at}
use Rattle.std.proofs.lemmas.List.Sums.{prefix_len-le-length}
use Rattle.std.proofs.lemmas.List.Elements.{All-from_recursion}
use Rattle.ir_lex.specs.declared.token.Kind.{Kind}
use Rattle.ir_lex.specs.declared.token.Kind.TheVariants.{Name, Number, Word, Mark, Note}
use Rattle.ir_lex.specs.declared.token.Token.{Token}
use Rattle.ir_lex.specs.declared.scan.Front.{Front}
use Rattle.ir_lex.specs.declared.scan.Front.TheVariants.{Space, Comment, Begins, Wrong}
use Rattle.ir_lex.specs.Spelling.{is_space, is_mark, is_name, is_number, is_marked_name, is_note_mark, is_run_byte, is_word_byte, is_printed, kind_of}
use Rattle.ir_lex.specs.Tokens.{lead_of_run, lead, lead_in_note, front_at, begun, tokens_from, tokens_of}
use Rattle.ir_lex.specs.Lexemes.{HasKind, IsTokenOf}
use Rattle.std.proofs.lemmas.Bool.{eqb-true, and_parts}
use Rattle.ir_lex.proofs.Plain.{name_printed}

pub chosen : {A : Type 0} (b : Bool) (x y z : A) → cond b x y ≡ z → ((b ≡ true) × (x ≡ z)) ⊎ ((b ≡ false) × (y ≡ z))
chosen true x y z e = inl (refl, e)
chosen false x y z e = inr (refl, e)

-- the token at the front of bs
pub record IsFront (bs : List ℕ) (kind : Kind) (n : ℕ) : Type 0 where
  pub some : 0 < n
  pub within : n ≤ length bs
  pub kind_is : HasKind kind (take n bs)

run_kind : (run : List ℕ) (kind : Kind) → kind_of run ≡ Some kind → HasKind kind run
run_kind run kind h =
    elim (chosen (is_name run) (Some Word) (cond (is_number run) (Some Number) (cond (is_marked_name run) (Some Name) None)) (Some kind) h) [
      | inl w ↦ let e : Word ≡ kind = cc in subst (λ (k : Kind). HasKind k run) e (name_printed run w.0)
      | inr n ↦ elim (chosen (is_number run) (Some Number) (cond (is_marked_name run) (Some Name) None) (Some kind) n.1) [
        | inl w ↦ let e : Number ≡ kind = cc in subst (λ (k : Kind). HasKind k run) e w.0
        | inr m ↦ elim (chosen (is_marked_name run) (Some Name) None (Some kind) m.1) [
          | inl w ↦ let e : Name ≡ kind = cc in subst (λ (k : Kind). HasKind k run) e w.0
          | inr w ↦ absurd cc
        ]
      ]
    ]

of_run : (found : Option Kind) (m : ℕ) (kind : Kind) (n : ℕ) → lead_of_run found m ≡ Begins kind n → (found ≡ Some kind) × (m ≡ n)
of_run None m kind n h = absurd cc
of_run (Some k) m kind n h = (cc, cc)

run_is_front : (p : ℕ → Bool) (b : ℕ) (bs : List ℕ) (kind : Kind) (n : ℕ) → p b ≡ true → prefix_len p (b ∷ bs) ≡ n → HasKind kind (take (prefix_len p (b ∷ bs)) (b ∷ bs)) → IsFront (b ∷ bs) kind n
run_is_front p b bs kind n first e holds =
    let some : 0 < prefix_len p (b ∷ bs) = rw first (omega arith) in
    let within = prefix_len-le-length p (b ∷ bs) in
    record { some = omega arith; within = omega (arith, within); kind_is = subst (λ (k : ℕ). HasKind kind (take k (b ∷ bs))) e holds }

mark_is_front : (b : ℕ) (bs : List ℕ) → is_mark b ≡ true → IsFront (b ∷ bs) Mark 1
mark_is_front b bs h = record { some = omega arith; within = omega arith; kind_is = (refl, rw h refl) }

note_is_front : (bs : List ℕ) → is_note_mark bs ≡ true → IsFront bs Note 2
note_is_front [] h = absurd cc
note_is_front (b ∷ []) h = absurd cc
note_is_front (b ∷ c ∷ bs) h =
    let t = and_parts (eqb b 59) (eqb c 33) h in
    let first : b ≡ 59 = eqb-true b 59 t.0 in
    let second : c ≡ 33 = eqb-true c 33 t.1 in
    record { some = omega arith; within = omega arith; kind_is = rw (first, second) refl }

lead_is_front : (b : ℕ) (bs : List ℕ) (kind : Kind) (n : ℕ) → lead (b ∷ bs) ≡ Begins kind n → IsFront (b ∷ bs) kind n
unfolding lead
lead_is_front b bs kind n h =
    let run = lead_of_run (kind_of (take (prefix_len is_run_byte (b ∷ bs)) (b ∷ bs))) (prefix_len is_run_byte (b ∷ bs)) in
    let by_semicolon = cond (eqb b 59) Comment run in
    let by_note = cond (is_note_mark (b ∷ bs)) (Begins Note 2) by_semicolon in
    let by_mark = cond (is_mark b) (Begins Mark 1) by_note in
    elim (chosen (is_space b) Space by_mark (Begins kind n) h) [
      | inl w ↦ absurd cc
      | inr s ↦ elim (chosen (is_mark b) (Begins Mark 1) by_note (Begins kind n) s.1) [
        | inl w ↦
            let k : Mark ≡ kind = cc in
            let l : 1 ≡ n = cc in
            subst (λ (k : Kind). IsFront (b ∷ bs) k n) k (subst (IsFront (b ∷ bs) Mark) l (mark_is_front b bs w.0))
        | inr m ↦ elim (chosen (is_note_mark (b ∷ bs)) (Begins Note 2) by_semicolon (Begins kind n) m.1) [
          | inl w ↦
              let k : Note ≡ kind = cc in
              let l : 2 ≡ n = cc in
              subst (λ (k : Kind). IsFront (b ∷ bs) k n) k (subst (IsFront (b ∷ bs) Note) l (note_is_front (b ∷ bs) w.0))
          | inr c ↦ elim (chosen (eqb b 59) Comment run (Begins kind n) c.1) [
            | inl w ↦ absurd cc
            | inr w ↦
                let r = of_run (kind_of (take (prefix_len is_run_byte (b ∷ bs)) (b ∷ bs))) (prefix_len is_run_byte (b ∷ bs)) kind n w.1 in
                let is_run : is_run_byte b ≡ true = rw (s.0, m.0, w.0) refl in
                run_is_front is_run_byte b bs kind n is_run r.1 (run_kind (take (prefix_len is_run_byte (b ∷ bs)) (b ∷ bs)) kind r.0)
          ]
        ]
      ]
    ]

word_kind : (run : List ℕ) (kind : Kind) → cond (list_all is_printed run) (Some Word) None ≡ Some kind → HasKind kind run
word_kind run kind h = elim (chosen (list_all is_printed run) (Some Word) None (Some kind) h) [
  | inl w ↦ let e : Word ≡ kind = cc in subst (λ (k : Kind). HasKind k run) e w.0
  | inr w ↦ absurd cc
]

lead_in_note_is_front : (b : ℕ) (bs : List ℕ) (kind : Kind) (n : ℕ) → lead_in_note (b ∷ bs) ≡ Begins kind n → IsFront (b ∷ bs) kind n
unfolding lead_in_note
lead_in_note_is_front b bs kind n h =
    let len : ℕ = prefix_len is_word_byte (b ∷ bs) in
    let found : Option Kind = cond (list_all is_printed (take len (b ∷ bs))) (Some Word) None in
    elim (chosen (is_space b) Space (lead_of_run found len) (Begins kind n) h) [
      | inl w ↦ absurd cc
      | inr w ↦
          let r = of_run found len kind n w.1 in
          let is_word : is_word_byte b ≡ true = rw w.0 refl in
          run_is_front is_word_byte b bs kind n is_word r.1 (word_kind (take len (b ∷ bs)) kind r.0)
    ]

front_holds : (in_note : Bool) (b : ℕ) (bs : List ℕ) (kind : Kind) (n : ℕ) → front_at in_note (b ∷ bs) ≡ Begins kind n → IsFront (b ∷ bs) kind n
front_holds true b bs kind n h = lead_in_note_is_front b bs kind n h
front_holds false b bs kind n h = lead_is_front b bs kind n h

-- a front at the end of what stands before it
token_holds : (before bs : List ℕ) (kind : Kind) (n : ℕ) → IsFront bs kind n → IsTokenOf (before ++ bs) (record { kind = kind; from = length before; to = length before + n })
token_holds before bs kind n front = record {
  some = omega (arith, front.some);
  within = omega (arith, front.within, length-append before bs);
  kind = let e : length before + n - length before ≡ n = omega arith in rw (e, drop_at before bs (length before) refl) front.kind_is;
}

-- what each token has that stands at a front
abbrev pub HoldsAtFronts : (List ℕ → Token → Type 0) → Bool → Type 0
HoldsAtFronts P in_note = (before : List ℕ) (b : ℕ) (bs : List ℕ) (kind : Kind) (n : ℕ) → front_at in_note (b ∷ bs) ≡ Begins kind n
    → P (before ++ b ∷ bs) (record { kind = kind; from = length before; to = length before + n })

more_hold : (P : Token → Type 0) (t : Token) (more : Option (List Token)) (ts : List Token) → P t → ((us : List Token) → more ≡ Some us → AllByRecursion P us) → option_map (λ ts. t ∷ ts) more ≡ Some ts → AllByRecursion P ts
more_hold P t None ts one others h = absurd cc
more_hold P t (Some us) ts one others h = let e : t ∷ us ≡ ts = cc in subst (AllByRecursion P) e (one, others us refl)

begun_hold : (P : Token → Type 0) (i : ℕ) (after : ℕ → Option (List Token)) (front : Front) (ts : List Token) → ((kind : Kind) (n : ℕ) → front ≡ Begins kind n → P (record { kind = kind; from = i; to = i + n }))
    → ((skip : ℕ) (us : List Token) → after skip ≡ Some us → AllByRecursion P us) → begun i after front ≡ Some ts → AllByRecursion P ts
begun_hold P i after Space ts one others h = others 0 ts h
begun_hold P i after Comment ts one others h = let e : [] ≡ ts = cc in subst (AllByRecursion P) e tt
begun_hold P i after (Begins kind n) ts one others h = more_hold P (record { kind = kind; from = i; to = i + n }) (after (n - 1)) ts (one kind n refl) (others (n - 1)) h
begun_hold P i after Wrong ts one others h = absurd cc

-- the tokens of the rest of a line
next_hold : (P : List ℕ → Token → Type 0) (in_note : Bool) (skip : ℕ) (before : List ℕ) (b : ℕ) (bs : List ℕ) (ts : List Token)
    → ((skip : ℕ) (before : List ℕ) (ts : List Token) → tokens_from in_note skip (length before) bs ≡ Some ts → AllByRecursion (P (before ++ bs)) ts) → tokens_from in_note skip (length before + 1) bs ≡ Some ts
    → AllByRecursion (P (before ++ b ∷ bs)) ts
next_hold P in_note skip before b bs ts later h =
    let len : length before + 1 ≡ length (before ++ b ∷ []) = omega (arith, length-append before (b ∷ [])) in
    let line : (before ++ b ∷ []) ++ bs ≡ before ++ b ∷ bs = append_assoc before (b ∷ []) bs in
    subst (λ (l : List ℕ). AllByRecursion (P l) ts) line (later skip (before ++ b ∷ []) ts (ap (λ (k : ℕ). tokens_from in_note skip k bs) (sym len) ∙ h))

tokens_hold : (P : List ℕ → Token → Type 0) (in_note : Bool) → HoldsAtFronts P in_note → (skip : ℕ) (before bs : List ℕ) (ts : List Token) → tokens_from in_note skip (length before) bs ≡ Some ts → AllByRecursion (P (before ++ bs)) ts
unfolding tokens_from
tokens_hold P in_note each skip before [] ts h = let e : [] ≡ ts = cc in subst (AllByRecursion (P (before ++ []))) e tt
tokens_hold P in_note each (suc skip) before (b ∷ bs) ts h = next_hold P in_note skip before b bs ts (λ k pre us. tokens_hold P in_note each k pre bs us) h
tokens_hold P in_note each zero before (b ∷ bs) ts h =
    begun_hold (P (before ++ b ∷ bs)) (length before) (λ k. tokens_from in_note k (length before + 1) bs) (front_at in_note (b ∷ bs)) ts (λ kind n e. each before b bs kind n e)
    (λ k us. next_hold P in_note k before b bs us (λ j pre vs. tokens_hold P in_note each j pre bs vs)) h

pub from_place : (P : List ℕ → Token → Type 0) (in_note : Bool) → HoldsAtFronts P in_note → (i : ℕ) (line : List ℕ) (ts : List Token) → i ≤ length line → tokens_from in_note 0 i (drop i line) ≡ Some ts → AllByRecursion (P line) ts
from_place P in_note each i line ts le h =
    let len : i ≡ length (take i line) = sym (length-take-le i line le) in
    subst (λ (l : List ℕ). AllByRecursion (P l) ts) (take-append-drop i line) (tokens_hold P in_note each 0 (take i line) (drop i line) ts (ap (λ (k : ℕ). tokens_from in_note 0 k (drop i line)) (sym len) ∙ h))

fronts_hold : (in_note : Bool) → HoldsAtFronts IsTokenOf in_note
fronts_hold in_note before b bs kind n e = token_holds before (b ∷ bs) kind n (front_holds in_note b bs kind n e)

note_is_long : (bs : List ℕ) → is_note_mark bs ≡ true → 2 ≤ length bs
note_is_long bs h = (note_is_front bs h).within

-- the tokens of a line
pub all_hold : (line : List ℕ) (ts : List Token) → tokens_of line ≡ Some ts → All (IsTokenOf line) ts
all_hold line ts h =
    let start : ℕ = prefix_len is_space line in
    let within : start ≤ length line = prefix_len-le-length is_space line in
    let first : Token = record { kind = Note; from = start; to = start + 2 } in
    let others : Option (List Token) = tokens_from true 0 (start + 2) (drop (start + 2) line) in
    All-from_recursion (IsTokenOf line) ts (elim (chosen (is_note_mark (drop start line)) (option_map (λ us. first ∷ us) others) (tokens_from false 0 start (drop start line)) (Some ts) h) [
      | inl w ↦
          let front = note_is_front (drop start line) w.0 in
          let held = token_holds (take start line) (drop start line) Note 2 front in
          let len : length (take start line) ≡ start = length-take-le start line within in
          let long : start + 2 ≤ length line = omega (arith, front.within, length-drop start line) in
          let one : IsTokenOf line first = subst (λ (l : List ℕ). IsTokenOf l first) (take-append-drop start line) (subst (λ (k : ℕ). IsTokenOf (take start line ++ drop start line) (record { kind = Note; from = k; to = k + 2 })) len held) in
          more_hold (IsTokenOf line) first others ts one (λ us. from_place IsTokenOf true (fronts_hold true) (start + 2) line us long) w.1
      | inr w ↦ from_place IsTokenOf false (fronts_hold false) start line ts within w.1
    ])
