-- A line that is printed says its item again.
use Rattle.std.proofs.Common.{◌≡◌, ℕ, zero, suc, ◌+◌, Bool, true, false, cond, eqb, List, [], ◌∷◌, ◌++◌, length, drop, map, Option, Some, None, Ok, refl, sym, ap, ◌∙◌, arith}
use Rattle.std.specs.Prelude.{◌&&◌, ◌||◌, not, option_map}
use Rattle.std.specs.List.{list_all, prefix_len}
use Rattle.std.proofs.lemmas.Bool.{eqb-true, and_parts}
use Rattle.std.proofs.lemmas.List.{drop_at}
use Rattle.ir_lex.specs.declared.token.Kind.{Kind}
use Rattle.ir_lex.specs.declared.token.Kind.TheVariants as kinds
use Rattle.ir_lex.specs.declared.token.Token.{Token}
use Rattle.ir_lex.specs.Spelling.{is_space, is_mark, is_run_byte, is_note_mark}
use Rattle.ir_lex.specs.Tokens.{tokens_from, tokens_of}
use Rattle.ir_lex.specs.Texts.{text_at}
use Rattle.ir_lex.proofs.Printed.{no_note, IsLexeme, Run, Sign}
use Rattle.ir_reader.specs.declared.item.item.Item.{Item}
use Rattle.ir_reader.specs.declared.item.line.Line.{Line}
use Rattle.ir_instruction.specs.declared.symbol.Symbol.{Symbol}
use Rattle.ir_instruction.specs.declared.symbol.Symbol.TheVariants.{Note}
use Rattle.ir_instruction.specs.Symbols.{symbol_of, symbol_at, is_within_limits}
use Rattle.ir_reader.specs.item.Grammar.{item_in}
use Rattle.ir_reader.specs.item.Lines.{item_line, tokens_line, meaning_of, meaning_if_any, line_of}
use Rattle.ir_instruction.specs.Spelling.{Atom, Blank, symbol_text, text_of, symbols_in, spaces}
use Rattle.ir_reader.specs.item.Items.{item_atoms}
use Rattle.ir_instruction.specs.Spelling as spelling
use Rattle.ir_instruction.specs.Spelled.{is_spelled, is_parted_from, are_spelled}
use Rattle.ir_reader.specs.item.Items.{item_fits}
use Rattle.ir_instruction.proofs.Lexed.{symbol_text_is, AreCut, atoms_cut}
use Rattle.ir_reader.proofs.item.Items.{item_again}

-- the first byte of a lexeme
pub record Begins (text : List ℕ) : Type 0 where
  pub first : ℕ
  pub others : List ℕ
  pub is : text ≡ first ∷ others
  pub no_space : is_space first ≡ false
  pub no_semicolon : eqb first 59 ≡ false

nor : (x y z : Bool) → not (x || y || z) ≡ true → (x ≡ false) × (z ≡ false)
nor true true true h = absurd cc
nor true true false h = absurd cc
nor true false true h = absurd cc
nor true false false h = absurd cc
nor false true true h = absurd cc
nor false true false h = absurd cc
nor false false true h = absurd cc
nor false false false h = (refl, refl)

by_case : (b : Bool) → (b ≡ true → b ≡ false) → b ≡ false
by_case true h = h refl
by_case false h = refl

no_semicolon_mark : (b : ℕ) → is_mark b ≡ true → eqb b 59 ≡ false
no_semicolon_mark b h = by_case (eqb b 59) (λ e. let same : is_mark b ≡ is_mark 59 = ap is_mark (eqb-true b 59 e) in absurd cc)

begins : (rest : List ℕ) (kind : Kind) (text : List ℕ) → IsLexeme rest kind text → Begins text
begins rest _ _ (Run kind [] k all some parted) = absurd (omega arith)
begins rest _ _ (Run kind (b ∷ w) k all some parted) =
    let t = and_parts (is_run_byte b) (list_all is_run_byte w) all in
    let n = nor (is_space b) (is_mark b) (eqb b 59) t.0 in
    record { first = b; others = w; is = refl; no_space = n.0; no_semicolon = n.1 }
begins rest _ _ (Sign m h s) = record { first = m; others = []; is = refl; no_space = s; no_semicolon = no_semicolon_mark m h }

pub spaces_then : (k : ℕ) (b : ℕ) (bs : List ℕ) → is_space b ≡ false → prefix_len is_space (spaces k ++ b ∷ bs) ≡ k
spaces_then zero b bs h = rw h refl
spaces_then (suc k) b bs h = rw (spaces_then k b bs h) (omega arith)

only_spaces : (k : ℕ) → prefix_len is_space (spaces k ++ []) ≡ k
only_spaces zero = refl
only_spaces (suc k) = rw (only_spaces k) (omega arith)

pub length_spaces : (k : ℕ) → length (spaces k) ≡ k
length_spaces zero = refl
length_spaces (suc k) = omega (arith, length_spaces k)

-- the tokens of a line from a place on, as they are cut
abbrev cut_at : List ℕ → ℕ → Option (List Token)
cut_at line start =
    cond (is_note_mark (drop start line)) (option_map (λ ts. record { kind = kinds.Note; from = start; to = start + 2 } ∷ ts) (tokens_from true 0 (start + 2) (drop (start + 2) line)))
    (tokens_from false 0 start (drop start line))

plain_cut : (k : ℕ) (text : List ℕ) → is_note_mark text ≡ false → cut_at (spaces k ++ text) k ≡ tokens_from false 0 k text
plain_cut k text h =
    let line : List ℕ = spaces k ++ text in
    let others : Option (List Token) = option_map (λ ts. record { kind = kinds.Note; from = k; to = k + 2 } ∷ ts) (tokens_from true 0 (k + 2) (drop (k + 2) line)) in
    let rest : drop k line ≡ text = drop_at (spaces k) text k (length_spaces k) in
    ap (λ (t : List ℕ). cond (is_note_mark t) others (tokens_from false 0 k t)) rest ∙ ap (λ (b : Bool). cond b others (tokens_from false 0 k text)) h

-- the tokens of printed symbols behind spaces
pub record AreTokens (k : ℕ) (atoms : List Atom) : Type 0 where
  pub tokens : List Token
  pub found : tokens_of (spaces k ++ text_of atoms) ≡ Some tokens
  pub same : map (symbol_at (spaces k ++ text_of atoms)) tokens ≡ symbols_in atoms

no_atoms : (k : ℕ) → AreTokens k []
unfolding tokens_from
no_atoms k = record { tokens = []; found = ap (cut_at (spaces k ++ [])) (only_spaces k) ∙ plain_cut k [] refl; same = refl }

more_spaces : (k : ℕ) (text : List ℕ) → spaces (suc k) ++ text ≡ spaces k ++ 32 ∷ text
more_spaces zero text = refl
more_spaces (suc k) text = ap (λ (t : List ℕ). 32 ∷ t) (more_spaces k text)

begun_tokens : (k : ℕ) (atoms : List Atom) → Begins (text_of atoms) → AreCut (spaces k) atoms → AreTokens k atoms
begun_tokens k atoms b cut =
    let text : List ℕ = text_of atoms in
    let start : prefix_len is_space (spaces k ++ text) ≡ k = ap (λ (t : List ℕ). prefix_len is_space (spaces k ++ t)) b.is ∙ spaces_then k b.first b.others b.no_space in
    let plain : is_note_mark text ≡ false = ap is_note_mark b.is ∙ no_note b.first b.others b.no_semicolon in
    record {
      tokens = cut.tokens;
      found = ap (cut_at (spaces k ++ text)) start ∙ plain_cut k text plain ∙ ap (λ (n : ℕ). tokens_from false 0 n text) (sym (length_spaces k)) ∙ cut.found;
      same = cut.same;
    }

text_begins : (s : Symbol) (atoms : List Atom) → Begins (symbol_text s) → Begins (text_of (spelling.Token s ∷ atoms))
text_begins s atoms b = record { first = b.first; others = b.others ++ text_of atoms; is = ap (λ (t : List ℕ). t ++ text_of atoms) b.is; no_space = b.no_space; no_semicolon = b.no_semicolon }

tokens_again : (k : ℕ) (atoms : List Atom) → are_spelled atoms ≡ true → AreTokens k atoms
tokens_again k [] h = no_atoms k
tokens_again k (Blank ∷ atoms) h =
    let later = tokens_again (suc k) atoms h in
    let line : spaces (suc k) ++ text_of atoms ≡ spaces k ++ 32 ∷ text_of atoms = more_spaces k (text_of atoms) in
    record {
      tokens = later.tokens;
      found = ap tokens_of (sym line) ∙ later.found;
      same = ap (λ (l : List ℕ). map (symbol_at l) later.tokens) (sym line) ∙ later.same;
    }
tokens_again k (spelling.Token s ∷ atoms) h =
    let t = and_parts (is_spelled s && is_parted_from s atoms) (are_spelled atoms) h in
    let u = and_parts (is_spelled s) (is_parted_from s atoms) t.0 in
    let is = symbol_text_is s atoms u.0 u.1 in
    begun_tokens k (spelling.Token s ∷ atoms) (text_begins s atoms (begins (text_of atoms) _ (symbol_text s) is.lexeme)) (atoms_cut (spaces k) (spelling.Token s ∷ atoms) h)

-- what such tokens say

abbrev pub said : Item → List Symbol → Line
said i ss = record { item = i; is_within_limits = list_all is_within_limits ss }

item_said : (at : ℕ) (ts ss : List Symbol) (i : Item) → ts ≡ ss → item_in at ss ≡ Some i → item_line ts (item_in at ts) ≡ Ok (Some (said i ss))
item_said at ts ss i e h = ap (λ (us : List Symbol). item_line us (item_in at us)) e ∙ ap (item_line ss) h

note_says_none : (at : ℕ) (ss others : List Symbol) (i : Item) → ss ≡ Note ∷ others → item_in at ss ≡ Some i → ⊥
unfolding item_in
note_says_none at ss others i e h = let none : None ≡ Some i = ap (item_in at) (sym e) ∙ h in absurd cc

nothing_says_none : (at : ℕ) (i : Item) → item_in at [] ≡ Some i → ⊥
unfolding item_in
nothing_says_none at i h = absurd cc

by_kind : (at : ℕ) (line : List ℕ) (kind : Kind) (t : Token) (ts : List Token) (ss : List Symbol) (i : Item) → t.kind ≡ kind → map (symbol_at line) (t ∷ ts) ≡ ss → item_in at ss ≡ Some i
    → tokens_line at line kind ts (t ∷ ts) ≡ Ok (Some (said i ss))
by_kind at line kinds.Note t ts ss i k e h =
    absurd (note_says_none at ss (map (symbol_at line) ts) i (sym e ∙ ap (λ (kind : Kind). symbol_of kind (text_at line t) ∷ map (symbol_at line) ts) k) h)
by_kind at line kinds.Name t ts ss i k e h = item_said at (map (symbol_at line) (t ∷ ts)) ss i e h
by_kind at line kinds.Number t ts ss i k e h = item_said at (map (symbol_at line) (t ∷ ts)) ss i e h
by_kind at line kinds.Word t ts ss i k e h = item_said at (map (symbol_at line) (t ∷ ts)) ss i e h
by_kind at line kinds.Mark t ts ss i k e h = item_said at (map (symbol_at line) (t ∷ ts)) ss i e h

tokens_say : (at : ℕ) (line : List ℕ) (ts : List Token) (ss : List Symbol) (i : Item) → map (symbol_at line) ts ≡ ss → item_in at ss ≡ Some i → meaning_of at line ts ≡ Ok (Some (said i ss))
tokens_say at line [] ss i e h = absurd (nothing_says_none at i (ap (item_in at) e ∙ h))
tokens_say at line (t ∷ ts) ss i e h = by_kind at line t.kind t ts ss i refl e h

-- The canonical print of an item behind spaces says the item again.
pub line_again : (at k : ℕ) (i : Item) → item_fits at i ≡ true → are_spelled (item_atoms i) ≡ true
    → line_of at (spaces k ++ text_of (item_atoms i)) ≡ Ok (Some (said i (symbols_in (item_atoms i))))
line_again at k i fits spelled =
    let line : List ℕ = spaces k ++ text_of (item_atoms i) in
    let cut = tokens_again k (item_atoms i) spelled in
    ap (meaning_if_any at line) cut.found ∙ tokens_say at line cut.tokens (symbols_in (item_atoms i)) i cut.same (item_again at i fits)
