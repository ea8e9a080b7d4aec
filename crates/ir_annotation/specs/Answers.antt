-- What functions that read annotations answer.
use Rattle.std.specs.Prelude.{◌≡◌, ℕ, Result, Ok, Err}
use Rattle.refusal.specs.declared.refused.Refused.{Refused}
use Rattle.refusal.specs.Refusals.{IfBroken}

-- if a fault, then the one that reading meets, on this line
abbrev pub Fails : {Y : Type 0} → ℕ → Refused → Result Y ℕ → Type 0
Fails line fault read = IfBroken (λ broken. (broken.line ≡ line) × (read ≡ Err broken.number)) fault

-- what a function returned is what reading gives; if a fault, then this one
abbrev pub Gives : {X Y : Type 0} → (X → Y) → ℕ → Result X Refused → Result Y ℕ → Type 0
Gives view line (Ok x) read = read ≡ Ok (view x)
Gives view line (Err e) read = Fails line e read
