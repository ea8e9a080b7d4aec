-- What functions answer that take memory: a meaning, or that memory was refused. Contracts alone need these.
use Rattle.std.specs.Prelude.{◌≡◌, List, [], ◌∷◌, ◌++◌, Result, Ok, Err}
use Rattle.refusal.specs.declared.broken.Broken.{Broken as TypeFault}
use Rattle.refusal.specs.declared.refused.Refused.{Refused}
use Rattle.refusal.specs.declared.refused.Refused.TheVariants.{Fault, Memory}
use Rattle.refusal.specs.Before.{earlier_of}
use Rattle.refusal.specs.Refusals.{IfBroken}

-- a meaning as an answer
abbrev pub told_of : {A : Type 0} → Result A TypeFault → Result A Refused
told_of (Ok a) = Ok a
told_of (Err fault) = Err (Fault fault.number fault.line)

-- the answer is the meaning; if a fault, then its own
abbrev pub Gives : {A : Type 0} → Result A Refused → Result A TypeFault → Type 0
Gives (Ok a) meaning = meaning ≡ Ok a
Gives (Err refused) meaning = IfBroken (λ fault. meaning ≡ Err fault) refused

-- of two refusals the earlier fault; want of memory comes first
abbrev pub earlier_answer : Refused → Refused → Refused
earlier_answer Memory other = Memory
earlier_answer (Fault number line) Memory = Memory
earlier_answer (Fault number line) (Fault number' line') =
    let first = earlier_of (record { line = line; number = number }) (record {
      line = line';
      number =
          number';
    }) in Fault first.number first.line

-- both answers, else the earlier of their refusals
abbrev pub both_answers : {A B : Type 0} → Result A Refused → Result B Refused → Result (A × B) Refused
both_answers (Ok a) (Ok b) = Ok (a, b)
both_answers (Ok a) (Err refused) = Err refused
both_answers (Err refused) (Ok b) = Err refused
both_answers (Err refused) (Err other) = Err (earlier_answer refused other)

abbrev pub pushed : {A : Type 0} → Result (List A × A) Refused → Result (List A) Refused
pushed (Ok p) = Ok (p.0 ++ p.1 ∷ [])
pushed (Err refused) = Err refused

-- the list with one more part at its end, unless memory was refused for it
abbrev pub Joins : {A : Type 0} → Result (List A) Refused → Result (List A × A) Refused → Type 0
Joins (Ok list) both = pushed both ≡ Ok list
Joins (Err refused) both = IfBroken (λ fault. pushed both ≡ Err (Fault fault.number fault.line)) refused
