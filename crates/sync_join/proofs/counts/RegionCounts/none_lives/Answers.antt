use Rattle.std.proofs.Common.{◌≡◌, ◌∙◌, true, false, inl, inr, sym, ap}
use Rattle.std.proofs.lemmas.Bool.Decides.{eqb_tells}
use Rattle.sync_join.specs.Counting.{Counts, living_in}
use Rattle.sync_join.proofs.Counted.{lives_nowhere, none_lives}
use Rattle.sync_join.proofs.counts.RegionCounts.none_lives.Goals as goal

pub returns : goal.returns
returns c =
    let items = c.self.inside.counts.items in (
      (λ yes region. elim (eqb_tells c.self.inside.busy 0) [
        | inl h ↦ sym (ap (λ (k : Counts). living_in k.items region) c.self.view_is) ∙ none_lives items (sym c.self.invariant ∙ h.1) region
        | inr h ↦ absurd (let e : false ≡ true = sym h.0 ∙ yes in cc)
      ]),
      (λ each. elim (eqb_tells c.self.inside.busy 0) [
        | inl h ↦ h.0
        | inr h ↦ absurd (h.1 (c.self.invariant ∙ lives_nowhere items (λ region. ap (λ (k : Counts). living_in k.items region) c.self.view_is ∙ each region)))
      ]),
    )
