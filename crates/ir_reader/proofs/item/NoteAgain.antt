-- The words of an annotation that is printed are cut out of its line again.
use Rattle.std.proofs.Common.{◌≡◌, ℕ, ◌+◌, true, false, cond, List, [], ◌∷◌, ◌++◌, length, drop, map, Option, Some, refl, sym, ap, ◌∙◌, arith, append_assoc}
use Rattle.std.specs.Prelude.{option_map}
use Rattle.std.specs.List.{prefix_len}
use Rattle.std.proofs.lemmas.List.{length-append, drop_at}
use Rattle.ir_annotation.specs.Lines.{annotation_of}
use Rattle.ir_lex.specs.declared.token.Kind.TheVariants as kinds
use Rattle.ir_lex.specs.declared.token.Token.{Token}
use Rattle.ir_lex.specs.Spelling.{is_space, is_note_mark}
use Rattle.ir_lex.specs.Tokens.{tokens_from, tokens_of}
use Rattle.ir_lex.specs.Texts.{text_at}
use Rattle.ir_lex.specs.Words.{words_text, are_words}
use Rattle.ir_lex.proofs.PrintedWords.{words_cut}
use Rattle.ir_reader.specs.item.Lines.{annotation_line, meaning_if_any, line_of}
use Rattle.ir_instruction.specs.Spelling.{spaces}
use Rattle.ir_reader.proofs.item.LineAgain.{spaces_then, length_spaces}

-- A line of ;! and words parted by spaces says the annotation that the words make.
pub note_again : (at k : ℕ) (words : List (List ℕ)) → are_words words ≡ true → line_of at (spaces k ++ (59 ∷ 33 ∷ words_text words)) ≡ annotation_line (annotation_of words at)
note_again at k words h =
    let rest : List ℕ = words_text words in
    let line : List ℕ = spaces k ++ (59 ∷ 33 ∷ rest) in
    let note : Token = record { kind = kinds.Note; from = k; to = k + 2 } in
    let cut = words_cut (spaces k ++ 59 ∷ 33 ∷ []) words h in
    let front : (spaces k ++ 59 ∷ 33 ∷ []) ++ rest ≡ line = append_assoc (spaces k) (59 ∷ 33 ∷ []) rest in
    let len : k + 2 ≡ length (spaces k ++ 59 ∷ 33 ∷ []) = omega (arith, length_spaces k, length-append (spaces k) (59 ∷ 33 ∷ [])) in
    let start : prefix_len is_space line ≡ k = spaces_then k 59 (33 ∷ rest) refl in
    let after : drop (k + 2) line ≡ rest = ap (drop (k + 2)) (sym front) ∙ drop_at (spaces k ++ 59 ∷ 33 ∷ []) rest (k + 2) (sym len) in
    let at_note : drop k line ≡ 59 ∷ 33 ∷ rest = drop_at (spaces k) (59 ∷ 33 ∷ rest) k (length_spaces k) in
    let words_of : map (text_at line) cut.tokens ≡ words = ap (λ (l : List ℕ). map (text_at l) cut.tokens) (sym front) ∙ cut.same in
    let noted : Option (List Token) = option_map (λ ts. note ∷ ts) (tokens_from true 0 (k + 2) (drop (k + 2) line)) in
    let found : tokens_of line ≡ Some (note ∷ cut.tokens) =
    ap (λ (s : ℕ). cond (is_note_mark (drop s line)) (option_map (λ ts. record { kind = kinds.Note; from = s; to = s + 2 } ∷ ts) (tokens_from true 0 (s + 2) (drop (s + 2) line))) (tokens_from false 0 s (drop s line))) start
    ∙ ap (λ (r : List ℕ). cond (is_note_mark r) noted (tokens_from false 0 k r)) at_note
    ∙ ap (λ (r : List ℕ). option_map (λ ts. note ∷ ts) (tokens_from true 0 (k + 2) r)) after
    ∙ ap (option_map (λ ts. note ∷ ts)) (ap (λ (n : ℕ). tokens_from true 0 n rest) len ∙ cut.found) in
    ap (meaning_if_any at line) found ∙ ap (λ (us : List (List ℕ)). annotation_line (annotation_of us at)) words_of
