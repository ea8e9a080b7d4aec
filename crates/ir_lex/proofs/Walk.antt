-- Going over a line from token to token.
use Rattle.std.proofs.Common.{◌≡◌, ℕ, zero, suc, ◌+◌, ◌-◌, ◌<◌, ◌≤◌, Bool, true, false, List, [], ◌∷◌, ◌++◌, length, take, drop, Option, Some, None, refl, sym, subst, ap, ◌∙◌, arith, append_assoc}
use Rattle.std.proofs.lemmas.List.{take_rest, drop-drop, length-drop, drop_all, append-nil}
use Rattle.std.specs.Prelude.{option_map, IfErr, IsUtf8, Result, Ok, Err}
use Rattle.refusal.specs.declared.refused.Refused.{Refused}
use Rattle.refusal.specs.declared.refused.Refused.TheVariants as faults
use Rattle.ir_lex.specs.declared.token.Kind.{Kind}
use Rattle.ir_lex.specs.declared.token.Token.{Token}
use Rattle.ir_lex.specs.declared.scan.Front.TheVariants.{Space, Comment, Begins, Wrong}
use Rattle.ir_lex.specs.Spelling.{is_space, is_note_mark}
use Rattle.ir_lex.specs.Tokens.{front_at, begun, tokens_from, tokens_of}
use Rattle.std.specs.List.{prefix_len}
use Rattle.ir_lex.specs.Faults.{IsFaultOfTokens, IsLexFault, BadToken}
use Rattle.ir_lex.specs.Scanning.{prepend, IsBadToken}

-- the bytes of the token before are passed over
pub skips : (note : Bool) (k i : ℕ) (bs : List ℕ) → k ≤ length bs → tokens_from note k i bs ≡ tokens_from note 0 (i + k) (drop k bs)
unfolding tokens_from
skips note zero i bs h = ap (λ (j : ℕ). tokens_from note 0 j bs) (omega arith)
skips note (suc k) i [] h = absurd (omega arith)
skips note (suc k) i (b ∷ bs) h = skips note k (i + 1) bs (omega arith) ∙ ap (λ (j : ℕ). tokens_from note 0 j (drop k bs)) (omega arith)

pub at_space : (note : Bool) (i : ℕ) (bs : List ℕ) → 0 < length bs → front_at note bs ≡ Space → tokens_from note 0 i bs ≡ tokens_from note 0 (i + 1) (drop 1 bs)
unfolding tokens_from
at_space note i [] lt h = absurd (omega arith)
at_space note i (b ∷ bs) lt h = ap (begun i (λ skip. tokens_from note skip (i + 1) bs)) h

pub at_comment : (note : Bool) (i : ℕ) (bs : List ℕ) → 0 < length bs → front_at note bs ≡ Comment → tokens_from note 0 i bs ≡ Some []
unfolding tokens_from
at_comment note i [] lt h = absurd (omega arith)
at_comment note i (b ∷ bs) lt h = ap (begun i (λ skip. tokens_from note skip (i + 1) bs)) h

pub at_wrong : (note : Bool) (i : ℕ) (bs : List ℕ) → 0 < length bs → front_at note bs ≡ Wrong → tokens_from note 0 i bs ≡ None
unfolding tokens_from
at_wrong note i [] lt h = absurd (omega arith)
at_wrong note i (b ∷ bs) lt h = ap (begun i (λ skip. tokens_from note skip (i + 1) bs)) h

pub at_token : (note : Bool) (i : ℕ) (bs : List ℕ) (kind : Kind) (n : ℕ) → 0 < n → n ≤ length bs → front_at note bs ≡ Begins kind n
    → tokens_from note 0 i bs ≡ option_map (λ ts. record { kind = kind; from = i; to = i + n } ∷ ts) (tokens_from note 0 (i + n) (drop n bs))
unfolding tokens_from
at_token note i [] kind n lt le h = absurd (omega arith)
at_token note i (b ∷ bs) kind zero lt le h = absurd (omega arith)
at_token note i (b ∷ bs) kind (suc n) lt le h =
    let token : Token = record { kind = kind; from = i; to = i + suc n } in
    let e : suc n - 1 ≡ n = omega arith in
    ap (begun i (λ skip. tokens_from note skip (i + 1) bs)) h
    ∙ ap (λ (k : ℕ). option_map (λ ts. token ∷ ts) (tokens_from note k (i + 1) bs)) e
    ∙ ap (λ (ts : Option (List Token)). option_map (λ ts. token ∷ ts) ts)
    (skips note n (i + 1) bs (omega arith) ∙ ap (λ (j : ℕ). tokens_from note 0 j (drop n bs)) (omega arith))

-- one more token in front
pub prepend-cons : (tokens : List Token) (t : Token) (more : Option (List Token)) → prepend tokens (option_map (λ ts. t ∷ ts) more) ≡ prepend (tokens ++ t ∷ []) more
prepend-cons tokens t None = refl
prepend-cons tokens t (Some more) = ap Some (simp append_assoc)

prepend-none : (tokens : List Token) (more : Option (List Token)) → prepend tokens more ≡ None → more ≡ None
prepend-none tokens None h = refl
prepend-none tokens (Some more) h = cc

-- &line[i..]
abbrev pub rest_of : List ℕ → ℕ → List ℕ
rest_of line i = take (length line - i) (drop i line)

-- A step of the loop, from a place i at which the tokens so far and those to come are all of them.
pub over_space : (note : Bool) (i : ℕ) (line : List ℕ) (tokens : List Token) (all : Option (List Token)) → i < length line → Space ≡ front_at note (rest_of line i)
    → prepend tokens (tokens_from note 0 i (drop i line)) ≡ all → prepend tokens (tokens_from note 0 (i + 1) (drop (i + 1) line)) ≡ all
over_space note i line tokens all lt h so_far =
    let within : 0 < length (drop i line) = rw length-drop (omega arith) in
    ap (prepend tokens) (sym (at_space note i (drop i line) within (sym (h ∙ ap (front_at note) (take_rest line i))) ∙ ap (tokens_from note 0 (i + 1)) (drop-drop 1 i line))) ∙ so_far

pub over_token : (note : Bool) (i : ℕ) (line : List ℕ) (tokens more : List Token) (all : Option (List Token)) (kind : Kind) (n : ℕ) → i < length line → 0 < n → n ≤ length (rest_of line i) → Begins kind n ≡ front_at note (rest_of line i)
    → more ≡ tokens ++ record { kind = kind; from = i; to = i + n } ∷ []
    → prepend tokens (tokens_from note 0 i (drop i line)) ≡ all → prepend more (tokens_from note 0 (i + n) (drop (i + n) line)) ≡ all
over_token note i line tokens more all kind n lt some within h pushed so_far =
    let token : Token = record { kind = kind; from = i; to = i + n } in
    rw pushed (
    sym (ap (prepend tokens) (at_token note i (drop i line) kind n some (rw (← take_rest line i) within) (sym (h ∙ ap (front_at note) (take_rest line i))) ∙ ap (λ (rest : List ℕ). option_map (λ ts. token ∷ ts) (tokens_from note 0 (i + n) rest)) (drop-drop n i line))
    ∙ prepend-cons tokens token (tokens_from note 0 (i + n) (drop (i + n) line)))
    ∙ so_far)

pub at_end : (note : Bool) (i : ℕ) (line : List ℕ) (tokens : List Token) (all : Option (List Token)) → length line ≤ i
    → prepend tokens (tokens_from note 0 i (drop i line)) ≡ all → all ≡ Some tokens
unfolding tokens_from
at_end note i line tokens all le so_far = sym so_far ∙ ap (λ (rest : List ℕ). prepend tokens (tokens_from note 0 i rest)) (drop_all i line le) ∙ ap Some (append-nil tokens)

pub stops_at_comment : (note : Bool) (i : ℕ) (line : List ℕ) (tokens : List Token) (all : Option (List Token)) → i < length line → Comment ≡ front_at note (rest_of line i)
    → prepend tokens (tokens_from note 0 i (drop i line)) ≡ all → all ≡ Some tokens
stops_at_comment note i line tokens all lt h so_far =
    let within : 0 < length (drop i line) = rw length-drop (omega arith) in
    sym so_far ∙ ap (prepend tokens) (at_comment note i (drop i line) within (sym (h ∙ ap (front_at note) (take_rest line i)))) ∙ ap Some (append-nil tokens)

pub stops_at_wrong : (note : Bool) (i : ℕ) (line : List ℕ) (tokens before : List Token) (first : Option (List Token)) → i < length line → Wrong ≡ front_at note (rest_of line i)
    → prepend tokens (tokens_from note 0 i (drop i line)) ≡ prepend before first → first ≡ None
stops_at_wrong note i line tokens before first lt h so_far =
    let within : 0 < length (drop i line) = rw length-drop (omega arith) in
    prepend-none before first (sym so_far ∙ ap (prepend tokens) (at_wrong note i (drop i line) within (sym (h ∙ ap (front_at note) (take_rest line i)))))

-- a line without tokens has the fault 102
pub is_fault : {X : Type 0} (line : List ℕ) (at : ℕ) (ts : Option (List Token)) (r : Result X Refused) → IsUtf8 line → (ts ≡ None → tokens_of line ≡ None) → IfErr r (IsBadToken at ts) → IfErr r (IsFaultOfTokens line at)
is_fault line at ts (Ok x) utf8 none h = tt
is_fault line at ts (Err faults.Memory) utf8 none h = tt
is_fault line at ts (Err (faults.Fault number found_at)) utf8 none h = (h.1, subst (IsLexFault line) (sym h.0) (BadToken utf8 (none h.2)))

pub none_without_note : (line : List ℕ) (start : ℕ) → start ≡ prefix_len is_space line → is_note_mark (rest_of line start) ≡ false
    → tokens_from false 0 start (drop start line) ≡ None → tokens_of line ≡ None
none_without_note line start e h none =
    let no_note : is_note_mark (drop start line) ≡ false = ap is_note_mark (sym (take_rest line start)) ∙ h in
    rw (← e, no_note) none

pub none_with_note : (line : List ℕ) (start : ℕ) → start ≡ prefix_len is_space line → is_note_mark (rest_of line start) ≡ true
    → tokens_from true 0 (start + 2) (drop (start + 2) line) ≡ None → tokens_of line ≡ None
none_with_note line start e h none =
    let note : is_note_mark (drop start line) ≡ true = ap is_note_mark (sym (take_rest line start)) ∙ h in
    rw (← e, note, none) refl
