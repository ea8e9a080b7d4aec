-- What a text with annotations put in or taken out is beside the text that it was made of.
use Rattle.std.specs.Prelude.{◌≡◌, ◌⊎◌, ℕ, Bool, IsTrue, List, [], ◌∷◌, Ok, drop}
use Rattle.std.specs.List.{prefix_len}
use Rattle.ir_lex.specs.Spelling.{is_space, is_note_mark}
use Rattle.ir_reader.specs.Lines.{lines_of, content}
use Rattle.ir_reader.specs.Reading.{Answers}
use Rattle.syntax.specs.declared.module.Module.{Module}
use Rattle.program.specs.declared.function.Program.{Program}
use Rattle.verifier.specs.Accepted.{IsProgramOf, IsRefused}

-- the text means a program that keeps the rules
abbrev pub IsAcceptedText : List ℕ → Type 0
IsAcceptedText text = (program : Program) × IsProgramOf text program

-- the text can be read as a module
abbrev pub IsReadable : List ℕ → Type 0
IsReadable text = (whole : Module) × Answers text (Ok whole)

-- the text with lines put in is accepted, or it is the text as it was, or a rule refuses that
abbrev pub StaysAccepted : List ℕ → List ℕ → Type 0
StaysAccepted text annotated = IsAcceptedText annotated ⊎
    ((annotated ≡ text) ⊎ ((number line : ℕ) × IsRefused text (record { line = line; number = number })))

-- behind spaces and tabs the line begins with `;!`
abbrev pub is_annotation : List ℕ → Bool
is_annotation line = is_note_mark (drop (prefix_len is_space line) line)

-- the second list has the lines of the first, in their order, and between them annotations
pub data AreLinesAmong : List (List ℕ) → List (List ℕ) → Type 0 where
  None : AreLinesAmong [] []
  Kept : (line other : List ℕ) (lines more : List (List ℕ)) → content line ≡ content other → AreLinesAmong lines more
      → AreLinesAmong (line ∷ lines) (other ∷ more)
  Added : (line : List ℕ) (lines more : List (List ℕ)) → IsTrue (is_annotation line) → AreLinesAmong lines more →
      AreLinesAmong lines (line ∷ more)

-- the second text is the first with annotations put in, each on a line of its own
abbrev pub IsAnnotated : List ℕ → List ℕ → Type 0
IsAnnotated text annotated = AreLinesAmong (lines_of text) (lines_of annotated)
