-- One callee after the other.
use Rattle.std.proofs.Common.{◌≡◌, ◌∙◌, ◌+◌, ◌<◌, ◌≤◌, ℕ, List, [], ◌∷◌, length, drop, get_or, ap, subst, add-one, drop-cons}
use Rattle.std.proofs.lemmas.List.{drop_all}
use Rattle.cactus.specs.Frames.{Frames}
use Rattle.schedule_workers.specs.declared.activation.Activation.{Activation}
use Rattle.schedule_commit.specs.strands.Committing.{last_of, linked_up, waiting_at}

-- what is still to be done leads to the whole
pub record IsLinkedFrom (all frames : Frames Activation) (last slot : ℕ) (slots : List ℕ) : Type 0 where
  pub linked : linked_up frames slot slots ≡ all
  pub top : last_of slot slots ≡ last

pub link_next : (all frames after : Frames Activation) (last slot i : ℕ) (slots : List ℕ) → i < length slots → IsLinkedFrom all frames last slot (drop i slots) → after ≡ waiting_at frames slot (get_or slots i 0) →
    IsLinkedFrom all after last (get_or slots i 0) (drop (i + 1) slots)
link_next all frames after last slot i slots low from is =
    let shape : drop i slots ≡ get_or slots i 0 ∷ drop (i + 1) slots = rw add-one (drop-cons slots i 0 low) in
    let rest : IsLinkedFrom all frames last slot (get_or slots i 0 ∷ drop (i + 1) slots) = subst (λ (xs : List ℕ). IsLinkedFrom all frames last slot xs) shape from in
    record { linked = ap (λ (f : Frames Activation). linked_up f (get_or slots i 0) (drop (i + 1) slots)) is ∙ rest.linked; top = rest.top }

pub link_over : (all frames : Frames Activation) (last slot i : ℕ) (slots : List ℕ) → length slots ≤ i → IsLinkedFrom all frames last slot (drop i slots) → (frames ≡ all) × (slot ≡ last)
link_over all frames last slot i slots high from =
    let rest : IsLinkedFrom all frames last slot [] = subst (λ (xs : List ℕ). IsLinkedFrom all frames last slot xs) (drop_all i slots high) from in
    (rest.linked, rest.top)
