-- What the reader's parts answer.
use Rattle.std.specs.Prelude.{◌≡◌, ◌≤◌, ℕ, Bool, not, ◌==◌, List, ◌∷◌, ◌++◌, true, min, codes, Option}
use Rattle.std.specs.List.{prefix_len, list_all}
use Rattle.schedule_text.specs.declared.fault.ScheduleFault.{ScheduleFault}
use Rattle.schedule_text.specs.declared.fault.ScheduleFault.TheVariants.{BadLine, TooLong, Memory}
use Rattle.schedule_text.specs.ScheduleText.{IsNumeral, IsSpelled, Differs, stepper, IsBadLine, IsTooLong}
use Rattle.schedule_text.specs.declared.line.Line.{Line}
use Rattle.schedule_text.specs.declared.line.Line.TheVariants.{Steps, Steals}

abbrev pub is_not : ℕ → ℕ → Bool
is_not byte b = not (b == byte)

-- at the first such byte
pub record CutAt (byte : ℕ) (bytes front rest : List ℕ) : Type 0 where
  pub is_split : bytes ≡ front ++ byte ∷ rest
  pub none_before : list_all (is_not byte) front ≡ true

-- the greatest `u64` stands for each number above it
abbrev pub cap : ℕ → ℕ
cap n = min n 18446744073709551615

abbrev pub capped : Line → Line
capped (Steps worker count) = Steps worker (cap count)
capped (Steals worker task) = Steals worker task

-- the number behind the first dot, and what follows it: nothing, or another dot
pub record IsFirstChild (text : List ℕ) (k : ℕ) (rest : List ℕ) : Type 0 where
  pub digits : List ℕ
  pub is_split : text ≡ 46 ∷ digits ++ rest
  pub is_number : IsNumeral digits k
  pub within : k ≤ 1000000000000
  pub starts : prefix_len (is_not 46) rest ≡ 0

-- all of a steal but the numbers of its path
pub record AreStealWords (line : List ℕ) (worker : ℕ) (rest : List ℕ) : Type 0 where
  pub first : List ℕ
  pub is_spelled : line ≡ codes "steal " ++ first ++ 32 ∷ (codes "root" ++ rest)
  pub is_worker : IsNumeral first worker
  pub within : worker ≤ 63

-- the text's first line and what follows it
pub record IsNext (before : Option ℕ) (text : List ℕ) (found : Line) (after : List ℕ) : Type 0 where
  pub line : List ℕ
  pub next : Line
  pub is_split : text ≡ line ++ 10 ∷ after
  pub is_spelled : IsSpelled line next
  pub is_apart : Differs before (stepper next)
  pub is_found : found ≡ capped next

-- want of memory may come at any line
abbrev pub IsFault : List ℕ → ScheduleFault → Type 0
IsFault text (BadLine number) = IsBadLine text number
IsFault text (TooLong number) = IsTooLong text number
IsFault text Memory = Unit {0}
