-- The tokens of one line.
use Rattle.std.specs.Prelude.{ℕ, zero, suc, ◌+◌, ◌-◌, Bool, true, false, ◌==◌, List, [], ◌∷◌, take, drop, Option, Some}
use Rattle.std.specs.Prelude.{None, if◌then◌else◌, option_map}
use Rattle.std.specs.List.{list_all, prefix_len}
use Rattle.ir_lex.specs.declared.token.Kind.{Kind}
use Rattle.ir_lex.specs.declared.token.Kind.TheVariants.{Word, Mark, Note}
use Rattle.ir_lex.specs.declared.token.Token.{Token}
use Rattle.ir_lex.specs.declared.scan.Front.{Front}
use Rattle.ir_lex.specs.declared.scan.Front.TheVariants.{Space, Comment, Begins, Wrong}
use Rattle.ir_lex.specs.Spelling.{is_space, is_mark, is_run_byte, is_word_byte, kind_of, is_printed, is_note_mark}

abbrev pub lead_of_run : Option Kind → ℕ → Front
lead_of_run None n = Wrong
lead_of_run (Some kind) n = Begins kind n

-- what stands at the front of a line's rest that is not empty
unfoldable pub lead : List ℕ → Front
lead [] = Wrong
lead (b ∷ bs) = if is_space b then Space else if is_mark b then Begins Mark 1
    else if is_note_mark (b ∷ bs) then Begins Note 2 else if b == 59 then Comment
    else let len = prefix_len is_run_byte (b ∷ bs) in lead_of_run (kind_of (take len (b ∷ bs))) len

-- and in an annotation
unfoldable pub lead_in_note : List ℕ → Front
lead_in_note [] = Wrong
lead_in_note (b ∷ bs) = if is_space b then Space else let len = prefix_len is_word_byte (b ∷ bs) in
    lead_of_run (if list_all is_printed (take len (b ∷ bs)) then Some Word else None) len

abbrev pub front_at : Bool → List ℕ → Front
front_at true rest = lead_in_note rest
front_at false rest = lead rest

-- the tokens from place i on, by what stands there and by those that follow it
abbrev pub begun : ℕ → (ℕ → Option (List Token)) → Front → Option (List Token)
begun i after Space = after 0
begun i after Comment = Some []
begun i after (Begins kind n) = option_map (λ ts. record { kind = kind; from = i; to = i + n } ∷ ts) (after (n - 1))
begun i after Wrong = None

-- The tokens from place i on, in an annotation or not. The first skip bytes belong to the token before; at each other
-- place stands a space, a comment, which ends the line, or a token.
unfoldable pub tokens_from : Bool → ℕ → ℕ → List ℕ → Option (List Token)
tokens_from in_note skip i [] = Some []
tokens_from in_note (suc skip) i (b ∷ bs) = tokens_from in_note skip (i + 1) bs
tokens_from in_note zero i (b ∷ bs) = begun i (λ skip. tokens_from in_note skip (i + 1) bs) (front_at in_note (b ∷ bs))

-- A line whose first token is ;! is an annotation.
abbrev pub tokens_of : List ℕ → Option (List Token)
tokens_of line = let start = prefix_len is_space line in
    if is_note_mark (drop start line) then option_map (λ ts. record { kind = Note; from = start; to = start + 2 }
    ∷ ts) (tokens_from true 0 (start + 2) (drop (start + 2) line)) else tokens_from false 0 start (drop start line)
