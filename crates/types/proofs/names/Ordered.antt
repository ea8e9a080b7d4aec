-- A form's terms, added one by one.
use Rattle.std.proofs.Common.{◌≡◌, ◌∙◌, ℕ, ◌+◌, ◌<◌, pos, List, ◌∷◌, length, get_or, drop, Result, Ok, Err, refl, sym, ap, add-one, drop-cons}
use Rattle.linear.specs.declared.form.Form.{Form}
use Rattle.linear.specs.declared.form.Term.{Term}
use Rattle.refusal.specs.declared.broken.Broken.{Broken as TypeFault}
use Rattle.refusal.specs.declared.refused.Refused.{Refused}
use Rattle.refusal.specs.declared.refused.Refused.TheVariants.{Fault, Memory}
use Rattle.types.specs.names.Fault.{and_then}
use Rattle.types.specs.names.Told.{Gives}
use Rattle.types.specs.names.Form.{with_one, with_all}

-- what a loop reads of the terms
abbrev pub past_end : Term
past_end = record { register = record { 0 = 0 }; coefficient = pos 0 }

next_is : (ts : List Term) (i : ℕ) → i < length ts → drop i ts ≡ get_or ts i past_end ∷ drop (i + 1) ts
next_is ts i within = rw (add-one, drop-cons ts i past_end within) refl

turn : (line : ℕ) (form : Form) (ts : List Term) (i : ℕ) (out : Result Form TypeFault) → i < length ts → with_all line form (drop i ts) ≡ out →
    and_then (with_one line form (get_or ts i past_end)) (λ more. with_all line more (drop (i + 1) ts)) ≡ out
turn line form ts i out within h = ap (with_all line form) (sym (next_is ts i within)) ∙ h

pub goes_on : (line : ℕ) (form more : Form) (ts : List Term) (i : ℕ) (out : Result Form TypeFault) → i < length ts → with_all line form (drop i ts) ≡ out →
    with_one line form (get_or ts i past_end) ≡ Ok more → with_all line more (drop (i + 1) ts) ≡ out
goes_on line form more ts i out within h one =
    ap (λ (r : Result Form TypeFault). and_then r (λ f. with_all line f (drop (i + 1) ts))) (sym one) ∙ turn line form ts i out within h

-- the fault of a term is that of the form
pub stops : (line : ℕ) (form : Form) (ts : List Term) (i : ℕ) (out : Result Form TypeFault) (fault : Refused) → i < length ts → with_all line form (drop i ts) ≡ out →
    Gives (Err fault) (with_one line form (get_or ts i past_end)) → Gives (Err fault) out
stops line form ts i out Memory within h one = tt
stops line form ts i out (Fault number at) within h one =
    sym (turn line form ts i out within h) ∙ ap (λ (r : Result Form TypeFault). and_then r (λ f. with_all line f (drop (i + 1) ts))) one
