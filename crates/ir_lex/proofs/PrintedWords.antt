-- The words of an annotation that are printed are cut again.
use Rattle.std.proofs.Common.{◌≡◌, ℕ, ◌+◌, ◌-◌, ◌≤◌, Bool, true, false, cond, eqb, leb, List, [], ◌∷◌, ◌++◌, length, take, drop, map, Some, None, refl, sym, ap, ◌∙◌, arith, append_assoc}
use Rattle.std.specs.Prelude.{◌&&◌, not, option_map}
use Rattle.std.specs.List.{list_all, prefix_len}
use Rattle.std.proofs.lemmas.Bool.Decides.{nat_tests}
use Rattle.std.proofs.lemmas.List.{length-append, drop_at, take_at}
use Rattle.std.proofs.lemmas.Bool.{and_parts}
use Rattle.ir_lex.specs.declared.token.Kind.TheVariants as kinds
use Rattle.ir_lex.specs.declared.token.Token.{Token}
use Rattle.ir_lex.specs.declared.scan.Front.{Front}
use Rattle.ir_lex.specs.declared.scan.Front.TheVariants.{Space, Begins}
use Rattle.ir_lex.specs.Spelling.{is_space, is_word_byte, is_printed}
use Rattle.ir_lex.specs.Tokens.{lead_of_run, lead_in_note, front_at, tokens_from}
use Rattle.ir_lex.specs.Texts.{text_at}
use Rattle.ir_lex.specs.Words.{words_text, are_words}
use Rattle.ir_lex.proofs.Walk.{at_space, at_token}

printed_is_no_space : (b : ℕ) → is_printed b ≡ true → is_space b ≡ false
printed_is_no_space b h =
    let t = and_parts (leb 33 b && leb b 126) (not (eqb b 59)) h in
    let r = and_parts (leb 33 b) (leb b 126) t.0 in
    let first : eqb b 32 ≡ false = grind (arith, nat_tests) in
    let second : eqb b 9 ≡ false = grind (arith, nat_tests) in
    rw (first, second) refl

-- a word's bytes up to the space behind it
word_prefix : (w : List ℕ) (ws : List (List ℕ)) → list_all is_printed w ≡ true → prefix_len is_word_byte (w ++ words_text ws) ≡ length w
word_prefix [] [] h = refl
word_prefix [] (v ∷ vs) h = refl
word_prefix (b ∷ w) ws h =
    let t = and_parts (is_printed b) (list_all is_printed w) h in
    rw (printed_is_no_space b t.0, word_prefix w ws t.1) (omega arith)

past_space : (s : Bool) (run : Front) → s ≡ false → cond s Space run ≡ run
past_space s run h = rw h refl

front_of_word : (b : ℕ) (w : List ℕ) (ws : List (List ℕ)) → list_all is_printed (b ∷ w) ≡ true → front_at true ((b ∷ w) ++ words_text ws) ≡ Begins kinds.Word (length (b ∷ w))
unfolding lead_in_note
front_of_word b w ws h =
    let t = and_parts (is_printed b) (list_all is_printed w) h in
    let text : List ℕ = (b ∷ w) ++ words_text ws in
    let len : prefix_len is_word_byte text ≡ length (b ∷ w) = word_prefix (b ∷ w) ws h in
    let run : take (length (b ∷ w)) text ≡ b ∷ w = take_at (b ∷ w) (words_text ws) (length (b ∷ w)) refl in
    past_space (is_space b) (lead_of_run (cond (list_all is_printed (take (prefix_len is_word_byte text) text)) (Some kinds.Word) None) (prefix_len is_word_byte text)) (printed_is_no_space b t.0)
    ∙ ap (λ (n : ℕ). lead_of_run (cond (list_all is_printed (take n text)) (Some kinds.Word) None) n) len
    ∙ ap (λ (r : List ℕ). lead_of_run (cond (list_all is_printed r) (Some kinds.Word) None) (length (b ∷ w))) run
    ∙ ap (λ (p : Bool). lead_of_run (cond p (Some kinds.Word) None) (length (b ∷ w))) h

front_of_blank : (rest : List ℕ) → front_at true (32 ∷ rest) ≡ Space
unfolding lead_in_note
front_of_blank rest = refl

-- the words from a place on
pub record AreCutWords (before : List ℕ) (words : List (List ℕ)) : Type 0 where
  pub tokens : List Token
  pub found : tokens_from true 0 (length before) (words_text words) ≡ Some tokens
  pub same : map (text_at (before ++ words_text words)) tokens ≡ words

one_word : (before : List ℕ) (b : ℕ) (w : List ℕ) (ws : List (List ℕ)) → list_all is_printed (b ∷ w) ≡ true → AreCutWords (before ++ 32 ∷ (b ∷ w)) ws → AreCutWords before ((b ∷ w) ∷ ws)
one_word before b w ws h later =
    let word : List ℕ = b ∷ w in
    let rest : List ℕ = words_text ws in
    let token : Token = record { kind = kinds.Word; from = length before + 1; to = length before + 1 + length word } in
    let line : (before ++ 32 ∷ word) ++ rest ≡ before ++ (32 ∷ (word ++ rest)) = append_assoc before (32 ∷ word) rest in
    let shifted : before ++ (32 ∷ (word ++ rest)) ≡ (before ++ 32 ∷ []) ++ (word ++ rest) = sym (append_assoc before (32 ∷ []) (word ++ rest)) in
    let len : length before + 1 + length word ≡ length (before ++ 32 ∷ word) = omega (arith, length-append before (32 ∷ word)) in
    let start : length before + 1 ≡ length (before ++ 32 ∷ []) = omega (arith, length-append before (32 ∷ [])) in
    let n : length before + 1 + length word - (length before + 1) ≡ length word = omega arith in
    let fits : length word ≤ length (word ++ rest) = omega (arith, length-append word rest) in
    let dropped : drop (length before + 1) (before ++ (32 ∷ (word ++ rest))) ≡ word ++ rest = ap (drop (length before + 1)) shifted ∙ drop_at (before ++ 32 ∷ []) (word ++ rest) (length before + 1) (sym start) in
    let first : text_at (before ++ (32 ∷ (word ++ rest))) token ≡ word = rw (n, dropped, take_at word rest (length word) refl) refl in
    let others : map (text_at (before ++ (32 ∷ (word ++ rest)))) later.tokens ≡ ws = ap (λ (l : List ℕ). map (text_at l) later.tokens) (sym line) ∙ later.same in
    record {
      tokens = token ∷ later.tokens;
      found =
          at_space true (length before) (32 ∷ (word ++ rest)) (omega arith) (front_of_blank (word ++ rest))
          ∙ at_token true (length before + 1) (word ++ rest) kinds.Word (length word) (omega arith) fits (front_of_word b w ws h)
          ∙ ap (λ (r : List ℕ). option_map (λ ts. token ∷ ts) (tokens_from true 0 (length before + 1 + length word) r)) (drop_at word rest (length word) refl)
          ∙ ap (option_map (λ ts. token ∷ ts)) (ap (λ (k : ℕ). tokens_from true 0 k rest) len ∙ later.found);
      same = ap (λ (t : List ℕ). t ∷ map (text_at (before ++ (32 ∷ (word ++ rest)))) later.tokens) first ∙ ap (λ (us : List (List ℕ)). word ∷ us) others;
    }

pub words_cut : (before : List ℕ) (words : List (List ℕ)) → are_words words ≡ true → AreCutWords before words
unfolding tokens_from
words_cut before [] h = record { tokens = []; found = refl; same = refl }
words_cut before ([] ∷ ws) h = absurd cc
words_cut before ((b ∷ w) ∷ ws) h =
    let t = and_parts (list_all is_printed (b ∷ w)) (are_words ws) h in
    one_word before b w ws t.0 (words_cut (before ++ 32 ∷ (b ∷ w)) ws t.1)
