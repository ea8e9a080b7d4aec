-- The symbols of a line that is printed are cut out of it again.
use Rattle.std.proofs.Common.{◌≡◌, ℕ, ◌+◌, ◌-◌, ◌<◌, true, false, List, [], ◌∷◌, ◌++◌, length, map, Option, Some, refl, sym, ap, ◌∙◌, arith, append_assoc}
use Rattle.std.specs.Prelude.{◌&&◌, option_map}
use Rattle.std.proofs.lemmas.List.{length-append, drop_at, take_at}
use Rattle.std.specs.Fmt.{signed_decimal}
use Rattle.std.proofs.lemmas.Bool.{and_parts}
use Rattle.ir_lex.specs.declared.token.Kind.{Kind}
use Rattle.ir_lex.specs.declared.token.Kind.TheVariants as kinds
use Rattle.ir_lex.specs.declared.token.Token.{Token}
use Rattle.ir_lex.specs.Spelling.{is_name, is_number}
use Rattle.ir_lex.specs.Tokens.{tokens_from}
use Rattle.ir_lex.specs.Texts.{text_at}
use Rattle.ir_lex.proofs.Printed.{is_parted, IsLexeme, Run, Sign, space_then, one_then}
use Rattle.ir_lex.proofs.Names.{name_runs, name_kind}
use Rattle.ir_lex.proofs.KindLaws.{number_kind, number_runs, sigil_kind, mark_is_no_space, mark_is_no_run}
use Rattle.ir_instruction.specs.declared.symbol.Numeral.TheVariants.{Small, Large}
use Rattle.ir_instruction.specs.declared.symbol.Symbol.{Symbol}
use Rattle.ir_instruction.specs.declared.symbol.Symbol.TheVariants.{Register, Global, Number, Word, Mark, Note}
use Rattle.ir_instruction.specs.Symbols.{small_or_large, symbol_of, symbol_at}
use Rattle.ir_instruction.specs.Spelling.{Atom, Blank, symbol_text, text_of, symbols_in}
use Rattle.ir_instruction.specs.Spelling as spelling
use Rattle.ir_instruction.specs.Spelled.{is_spelled, parts, is_parted_from, are_spelled}
use Rattle.ir_instruction.proofs.Digits.{number_of_printed, value_of_printed}

abbrev pub kind_of_symbol : Symbol → Kind
kind_of_symbol (Register name) = kinds.Name
kind_of_symbol (Global name) = kinds.Name
kind_of_symbol (Number n) = kinds.Number
kind_of_symbol (Word text) = kinds.Word
kind_of_symbol (Mark byte) = kinds.Mark
kind_of_symbol Note = kinds.Note

parted_text : (atoms : List Atom) → parts atoms ≡ true → is_parted (text_of atoms) ≡ true
parted_text [] h = refl
parted_text (Blank ∷ atoms) h = refl
parted_text (spelling.Token (Mark byte) ∷ atoms) h = rw (mark_is_no_run byte h) refl
parted_text (spelling.Token (Register name) ∷ atoms) h = absurd cc
parted_text (spelling.Token (Global name) ∷ atoms) h = absurd cc
parted_text (spelling.Token (Number n) ∷ atoms) h = absurd cc
parted_text (spelling.Token (Word text) ∷ atoms) h = absurd cc
parted_text (spelling.Token Note ∷ atoms) h = absurd cc

-- a symbol's text is one lexeme, which stands for it
pub record IsSymbolText (s : Symbol) (rest : List ℕ) : Type 0 where
  pub lexeme : IsLexeme rest (kind_of_symbol s) (symbol_text s)
  pub meaning : symbol_of (kind_of_symbol s) (symbol_text s) ≡ s

some_of_name : (w : List ℕ) → is_name w ≡ true → 0 < length w
some_of_name [] h = absurd cc
some_of_name (b ∷ bs) h = omega arith

some_of_number : (w : List ℕ) → is_number w ≡ true → 0 < length w
some_of_number [] h = absurd cc
some_of_number (b ∷ bs) h = omega arith

pub symbol_text_is : (s : Symbol) (atoms : List Atom) → is_spelled s ≡ true → is_parted_from s atoms ≡ true → IsSymbolText s (text_of atoms)
symbol_text_is (Register name) atoms h p =
    let k = sigil_kind 37 name refl h in
    record { lexeme = Run kinds.Name (37 ∷ name) k.0 k.1 (omega arith) (parted_text atoms p); meaning = refl }
symbol_text_is (Global name) atoms h p =
    let k = sigil_kind 64 name refl h in
    record { lexeme = Run kinds.Name (64 ∷ name) k.0 k.1 (omega arith) (parted_text atoms p); meaning = refl }
symbol_text_is (Number (Small n)) atoms h p =
    let number = (number_of_printed n h).number in
    record {
      lexeme = Run kinds.Number (signed_decimal n) (number_kind (signed_decimal n) number) (number_runs (signed_decimal n) number) (some_of_number (signed_decimal n) number) (parted_text atoms p);
      meaning = ap (λ (v : Option _). Number (small_or_large (signed_decimal n) v)) (value_of_printed n h);
    }
symbol_text_is (Number (Large digits)) atoms h p = absurd cc
symbol_text_is (Word text) atoms h p = record { lexeme = Run kinds.Word text (name_kind text h) (name_runs text h) (some_of_name text h) (parted_text atoms p); meaning = refl }
symbol_text_is (Mark byte) atoms h p = record { lexeme = Sign byte h (mark_is_no_space byte h); meaning = refl }
symbol_text_is Note atoms h p = absurd cc

-- the tokens of what is printed behind other bytes
pub record AreCut (before : List ℕ) (atoms : List Atom) : Type 0 where
  pub tokens : List Token
  pub found : tokens_from false 0 (length before) (text_of atoms) ≡ Some tokens
  pub same : map (symbol_at (before ++ text_of atoms)) tokens ≡ symbols_in atoms

after_blank : (before : List ℕ) (atoms : List Atom) → AreCut (before ++ 32 ∷ []) atoms → AreCut before (Blank ∷ atoms)
after_blank before atoms later =
    let len : length before + 1 ≡ length (before ++ 32 ∷ []) = omega (arith, length-append before (32 ∷ [])) in
    let line : (before ++ 32 ∷ []) ++ text_of atoms ≡ before ++ 32 ∷ text_of atoms = append_assoc before (32 ∷ []) (text_of atoms) in
    record {
      tokens = later.tokens;
      found = space_then (length before) (text_of atoms) ∙ ap (λ (k : ℕ). tokens_from false 0 k (text_of atoms)) len ∙ later.found;
      same = ap (λ (l : List ℕ). map (symbol_at l) later.tokens) (sym line) ∙ later.same;
    }

after_symbol : (before : List ℕ) (s : Symbol) (atoms : List Atom) → IsSymbolText s (text_of atoms) → AreCut (before ++ symbol_text s) atoms → AreCut before (spelling.Token s ∷ atoms)
after_symbol before s atoms is later =
    let w : List ℕ = symbol_text s in
    let rest : List ℕ = text_of atoms in
    let token : Token = record { kind = kind_of_symbol s; from = length before; to = length before + length w } in
    let len : length before + length w ≡ length (before ++ w) = omega (arith, length-append before w) in
    let line : (before ++ w) ++ rest ≡ before ++ (w ++ rest) = append_assoc before w rest in
    let n : length before + length w - length before ≡ length w = omega arith in
    let first : text_at (before ++ (w ++ rest)) token ≡ w = rw (n, drop_at before (w ++ rest) (length before) refl, take_at w rest (length w) refl) refl in
    let one : symbol_at (before ++ (w ++ rest)) token ≡ s = ap (symbol_of (kind_of_symbol s)) first ∙ is.meaning in
    let others : map (symbol_at (before ++ (w ++ rest))) later.tokens ≡ symbols_in atoms = ap (λ (l : List ℕ). map (symbol_at l) later.tokens) (sym line) ∙ later.same in
    record {
      tokens = token ∷ later.tokens;
      found =
          one_then (length before) (kind_of_symbol s) w rest is.lexeme
          ∙ ap (option_map (λ ts. token ∷ ts)) (ap (λ (k : ℕ). tokens_from false 0 k rest) len ∙ later.found);
      same = ap (λ (t : Symbol). t ∷ map (symbol_at (before ++ (w ++ rest))) later.tokens) one ∙ ap (λ (ts : List Symbol). s ∷ ts) others;
    }

pub atoms_cut : (before : List ℕ) (atoms : List Atom) → are_spelled atoms ≡ true → AreCut before atoms
unfolding tokens_from
atoms_cut before [] h = record { tokens = []; found = refl; same = refl }
atoms_cut before (Blank ∷ atoms) h = after_blank before atoms (atoms_cut (before ++ 32 ∷ []) atoms h)
atoms_cut before (spelling.Token s ∷ atoms) h =
    let t = and_parts (is_spelled s && is_parted_from s atoms) (are_spelled atoms) h in
    let u = and_parts (is_spelled s) (is_parted_from s atoms) t.0 in
    after_symbol before s atoms (symbol_text_is s atoms u.0 u.1) (atoms_cut (before ++ symbol_text s) atoms t.1)
