-- Parts that are judged together: each rule stands alone, and of all faults the earliest is named.
use Rattle.std.specs.Prelude.{ℕ, ◌+◌, Bool, if◌then◌else◌, List, [], ◌∷◌, ◌++◌, Result, Ok, Err}
use Rattle.refusal.specs.declared.broken.Broken.{Broken as TypeFault}
use Rattle.refusal.specs.Before.{earlier_of}

abbrev pub breaks : ℕ → ℕ → TypeFault
breaks number line = record { line = line; number = number }

-- both parts, else the earlier of their faults
abbrev pub both_of : {A B : Type 0} → Result A TypeFault → Result B TypeFault → Result (A × B) TypeFault
both_of (Ok a) (Ok b) = Ok (a, b)
both_of (Ok a) (Err fault) = Err fault
both_of (Err fault) (Ok b) = Err fault
both_of (Err fault) (Err other) = Err (earlier_of fault other)

abbrev pub and_then : {A B : Type 0} → Result A TypeFault → (A → Result B TypeFault) → Result B TypeFault
and_then (Ok a) f = f a
and_then (Err fault) f = Err fault

abbrev pub made_of : {A B : Type 0} → (A → B) → Result A TypeFault → Result B TypeFault
made_of f (Ok a) = Ok (f a)
made_of f (Err fault) = Err fault

-- nothing where the rule holds, else the fault
abbrev pub unless_of : Bool → TypeFault → Result (Unit {0}) TypeFault
unless_of holds fault = if holds then Ok tt else Err fault

abbrev pub joined_of : {A : Type 0} → Result (List A) TypeFault → Result A TypeFault → Result (List A) TypeFault
joined_of list part = made_of (λ p. p.0 ++ p.1 ∷ []) (both_of list part)

-- what each element means, by its place, behind what is done already
abbrev pub all_from : {A B : Type 0} → (ℕ → A → Result B TypeFault) → ℕ → Result (List B) TypeFault → List A →
    Result (List B) TypeFault
all_from f place done [] = done
all_from f place done (x ∷ xs) = all_from f (place + 1) (joined_of done (f place x)) xs

-- what each element of a list means, by its place; else the earliest fault of all
abbrev pub all_of : {A B : Type 0} → (ℕ → A → Result B TypeFault) → List A → Result (List B) TypeFault
all_of f xs = all_from f 0 (Ok []) xs
