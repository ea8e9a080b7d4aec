-- Printing and reading again.
use Rattle.std.specs.Prelude.{◌≡◌, ◌≤◌, ℕ, List, length, Result, Ok, Err}
use Rattle.syntax.specs.declared.module.Module.{Module}
use Rattle.ir_text.specs.Items.{module_text}
use Rattle.ir_reader.specs.Kept.{IsKeptModule}
use Rattle.ir_reader.specs.Reading.{Answers}
use Rattle.ir_text.specs.Unlined.{unlined}

-- Where the canonical text of a module that is kept is no longer than a text may be, reading it gives the module, lines
-- aside.
abbrev pub PrintIsReadBack : Type 0
PrintIsReadBack = (m : Module) → IsKeptModule m → length (module_text m) ≤ 1048576 → (w : Module) ×
    (Answers (module_text m) (Ok w) × (unlined w ≡ unlined m))

-- a text has one answer
abbrev pub AnswersAreOne : Type 0
AnswersAreOne = (text : List ℕ) (a b : Result Module (ℕ × ℕ)) → Answers text a → Answers text b → a ≡ b

-- the module, lines aside
abbrev pub IsAgain : Module → Result Module (ℕ × ℕ) → Type 0
IsAgain m (Ok w) = unlined w ≡ unlined m
IsAgain m (Err fault) = ⊥

-- where the module is kept and the text no longer than a text may be, reading the text gives the module and no fault
abbrev pub IsReadBackAs : Module → List ℕ → Type 0
IsReadBackAs m text = IsKeptModule m → length text ≤ 1048576 → (out : Result Module (ℕ × ℕ)) → Answers text out →
    IsAgain m out
