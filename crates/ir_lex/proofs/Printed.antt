-- Tokens that are printed with what parts them are read again.
use Rattle.std.proofs.Common.{◌≡◌, ℕ, ◌+◌, ◌-◌, ◌<◌, Bool, true, false, cond, eqb, List, [], ◌∷◌, ◌++◌, length, take, map, Option, Some, refl, subst, ap, ◌∙◌, arith, append_assoc}
use Rattle.std.specs.Prelude.{option_map, ◌||◌, not}
use Rattle.std.specs.List.{prefix_len, list_all}
use Rattle.std.proofs.lemmas.List.{length-append, drop_at, take_at}
use Rattle.std.proofs.lemmas.Bool.{and_parts}
use Rattle.ir_lex.specs.declared.token.Kind.{Kind}
use Rattle.ir_lex.specs.declared.token.Kind.TheVariants.{Mark, Note}
use Rattle.ir_lex.specs.declared.token.Token.{Token}
use Rattle.ir_lex.specs.declared.scan.Front.{Front}
use Rattle.ir_lex.specs.declared.scan.Front.TheVariants.{Space, Comment, Begins}
use Rattle.ir_lex.specs.Spelling.{is_space, is_mark, is_note_mark, is_run_byte, kind_of}
use Rattle.ir_lex.specs.Tokens.{lead_of_run, lead, front_at, tokens_from}
use Rattle.ir_lex.specs.Lexemes.{Lexeme, lexeme_at, lexemes_of}
use Rattle.ir_lex.specs.Texts.{text_at}
use Rattle.ir_lex.proofs.Walk.{at_space, at_token}

-- a lexeme, and whether a space stands behind it
abbrev pub Spaced : Type 0
Spaced = Lexeme × Bool

abbrev pub space_if : Bool → List ℕ
space_if true = 32 ∷ []
space_if false = []

abbrev pub text_of : List Spaced → List ℕ
text_of [] = []
text_of (p ∷ ps) = p.0.1 ++ (space_if p.1 ++ text_of ps)

-- no byte of a run comes next
abbrev pub is_parted : List ℕ → Bool
is_parted [] = true
is_parted (b ∷ bs) = cond (is_run_byte b) false true

nor : (x y z : Bool) → not (x || y || z) ≡ true → (x ≡ false) × (y ≡ false) × (z ≡ false)
nor true true true h = absurd cc
nor true true false h = absurd cc
nor true false true h = absurd cc
nor true false false h = absurd cc
nor false true true h = absurd cc
nor false true false h = absurd cc
nor false false true h = absurd cc
nor false false false h = (refl, refl, refl)

not_true : (x : Bool) → cond x false true ≡ true → x ≡ false
not_true true h = absurd cc
not_true false h = refl

prefix_of_run : (w rest : List ℕ) → list_all is_run_byte w ≡ true → is_parted rest ≡ true → prefix_len is_run_byte (w ++ rest) ≡ length w
prefix_of_run [] [] all parted = refl
prefix_of_run [] (b ∷ bs) all parted = let no : is_run_byte b ≡ false = not_true (is_run_byte b) parted in rw no refl
prefix_of_run (b ∷ w) rest all parted =
    let t = and_parts (is_run_byte b) (list_all is_run_byte w) all in
    rw (t.0, prefix_of_run w rest t.1 parted) (omega arith)

pub no_note : (b : ℕ) (bs : List ℕ) → eqb b 59 ≡ false → is_note_mark (b ∷ bs) ≡ false
no_note b [] h = refl
no_note b (c ∷ bs) h = rw h refl

past : (s m n c : Bool) (run : Front) → s ≡ false → m ≡ false → n ≡ false → c ≡ false → cond s Space (cond m (Begins Mark 1) (cond n (Begins Note 2) (cond c Comment run))) ≡ run
past s m n c run a b d e = rw (a, b, d, e) refl

pub front_of_run : (kind : Kind) (w rest : List ℕ) → kind_of w ≡ Some kind → list_all is_run_byte w ≡ true → 0 < length w → is_parted rest ≡ true → front_at false (w ++ rest) ≡ Begins kind (length w)
unfolding lead
front_of_run kind [] rest k all some parted = absurd (omega arith)
front_of_run kind (b ∷ w) rest k all some parted =
    let t = and_parts (is_run_byte b) (list_all is_run_byte w) all in
    let n = nor (is_space b) (is_mark b) (eqb b 59) t.0 in
    let len : prefix_len is_run_byte (b ∷ (w ++ rest)) ≡ length (b ∷ w) = prefix_of_run (b ∷ w) rest all parted in
    let run : take (length (b ∷ w)) (b ∷ (w ++ rest)) ≡ b ∷ w = take_at (b ∷ w) rest (length (b ∷ w)) refl in
    past (is_space b) (is_mark b) (is_note_mark (b ∷ (w ++ rest))) (eqb b 59) (lead_of_run (kind_of (take (prefix_len is_run_byte (b ∷ (w ++ rest))) (b ∷ (w ++ rest)))) (prefix_len is_run_byte (b ∷ (w ++ rest)))) n.0 n.1 (no_note b (w ++ rest) n.2) n.2
    ∙ ap (λ (l : ℕ). lead_of_run (kind_of (take l (b ∷ (w ++ rest)))) l) len
    ∙ ap (λ (r : List ℕ). lead_of_run (kind_of r) (length (b ∷ w))) run
    ∙ ap (λ (f : Option Kind). lead_of_run f (length (b ∷ w))) k

pub front_of_mark : (m : ℕ) (rest : List ℕ) → is_space m ≡ false → is_mark m ≡ true → front_at false (m ∷ rest) ≡ Begins Mark 1
unfolding lead
front_of_mark m rest s h = rw (s, h) refl

pub front_of_space : (rest : List ℕ) → front_at false (32 ∷ rest) ≡ Space
unfolding lead
front_of_space rest = refl

-- one token more
run_then : (i : ℕ) (kind : Kind) (w rest : List ℕ) → kind_of w ≡ Some kind → list_all is_run_byte w ≡ true → 0 < length w → is_parted rest ≡ true
    → tokens_from false 0 i (w ++ rest) ≡ option_map (λ ts. record { kind = kind; from = i; to = i + length w } ∷ ts) (tokens_from false 0 (i + length w) rest)
run_then i kind w rest k all some parted =
    let token : Token = record { kind = kind; from = i; to = i + length w } in
    at_token false i (w ++ rest) kind (length w) some (omega (arith, length-append w rest)) (front_of_run kind w rest k all some parted)
    ∙ ap (λ (r : List ℕ). option_map (λ ts. token ∷ ts) (tokens_from false 0 (i + length w) r)) (drop_at w rest (length w) refl)

mark_then : (i m : ℕ) (rest : List ℕ) → is_space m ≡ false → is_mark m ≡ true
    → tokens_from false 0 i (m ∷ rest) ≡ option_map (λ ts. record { kind = Mark; from = i; to = i + 1 } ∷ ts) (tokens_from false 0 (i + 1) rest)
mark_then i m rest s h = at_token false i (m ∷ rest) Mark 1 (omega arith) (omega arith) (front_of_mark m rest s h)

pub space_then : (i : ℕ) (rest : List ℕ) → tokens_from false 0 i (32 ∷ rest) ≡ tokens_from false 0 (i + 1) rest
space_then i rest = at_space false i (32 ∷ rest) (omega arith) (front_of_space rest)

-- a run that is parted from the rest, or a mark
pub data IsLexeme (rest : List ℕ) : Kind → List ℕ → Type 0 where
  Run : (kind : Kind) (w : List ℕ) → kind_of w ≡ Some kind → list_all is_run_byte w ≡ true → 0 < length w → is_parted rest ≡ true → IsLexeme rest kind w
  Sign : (m : ℕ) → is_mark m ≡ true → is_space m ≡ false → IsLexeme rest Mark (m ∷ [])

-- what is printed in order
abbrev pub ArePrinted : List Spaced → Type 0
ArePrinted [] = Unit {0}
ArePrinted (p ∷ ps) = IsLexeme (space_if p.1 ++ text_of ps) p.0.0 p.0.1 × ArePrinted ps

-- the tokens of printed lexemes, behind what stands before them
pub record Again (before : List ℕ) (ps : List Spaced) : Type 0 where
  pub tokens : List Token
  pub found : tokens_from false 0 (length before) (text_of ps) ≡ Some tokens
  pub same : lexemes_of (before ++ text_of ps) tokens ≡ map (λ p. p.0) ps

over_space_if : (b : Bool) (i : ℕ) (rest : List ℕ) → tokens_from false 0 i (space_if b ++ rest) ≡ tokens_from false 0 (i + length (space_if b)) rest
over_space_if true i rest = space_then i rest
over_space_if false i rest = ap (λ (k : ℕ). tokens_from false 0 k rest) (omega arith)

pub one_then : (i : ℕ) (kind : Kind) (w rest : List ℕ) → IsLexeme rest kind w
    → tokens_from false 0 i (w ++ rest) ≡ option_map (λ ts. record { kind = kind; from = i; to = i + length w } ∷ ts) (tokens_from false 0 (i + length w) rest)
one_then i _ _ rest (Run kind w k all some parted) = run_then i kind w rest k all some parted
one_then i _ _ rest (Sign m a b) = mark_then i m rest b a

pub printed_again : (before : List ℕ) (ps : List Spaced) → ArePrinted ps → Again before ps
unfolding tokens_from
printed_again before [] fits = record { tokens = []; found = refl; same = refl }
printed_again before (p ∷ ps) fits =
    let w : List ℕ = p.0.1 in
    let sp : List ℕ = space_if p.1 in
    let rest : List ℕ = sp ++ text_of ps in
    let front : List ℕ = before ++ (w ++ sp) in
    let later = printed_again front ps fits.1 in
    let token : Token = record { kind = p.0.0; from = length before; to = length before + length w } in
    let len : length before + length w + length sp ≡ length front = omega (arith, length-append before (w ++ sp), length-append w sp) in
    let line : front ++ text_of ps ≡ before ++ (w ++ rest) = append_assoc before (w ++ sp) (text_of ps) ∙ ap (λ (r : List ℕ). before ++ r) (append_assoc w sp (text_of ps)) in
    let n : length before + length w - length before ≡ length w = omega arith in
    record {
      tokens = token ∷ later.tokens;
      found =
          one_then (length before) p.0.0 w rest fits.0
          ∙ ap (option_map (λ ts. token ∷ ts)) (over_space_if p.1 (length before + length w) (text_of ps) ∙ ap (λ (k : ℕ). tokens_from false 0 k (text_of ps)) len ∙ later.found);
      same =
          let first : text_at (before ++ (w ++ rest)) token ≡ w = rw (n, drop_at before (w ++ rest) (length before) refl, take_at w rest (length w) refl) refl in
          let others : lexemes_of (before ++ (w ++ rest)) later.tokens ≡ map (λ p. p.0) ps = subst (λ (l : List ℕ). lexemes_of l later.tokens ≡ map (λ p. p.0) ps) line later.same in
          let one : lexeme_at (before ++ (w ++ rest)) token ≡ p.0 = ap (λ (t : List ℕ). (p.0.0, t)) first in
          cc;
    }
