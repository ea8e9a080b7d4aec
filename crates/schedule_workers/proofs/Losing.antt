-- Whether a frame goes on once a child of it ended.
use Rattle.std.proofs.Common.{◌≡◌, ◌≢◌, ℕ, ◌+◌, ◌-◌, ◌<◌, Option, Some, None, true, false, eqb, inl, inr, refl, sym, ap, arith}
use Rattle.std.proofs.lemmas.Bool.Decides.{eqb_tells}
use Rattle.frame.specs.declared.frame.Wait.{Wait}
use Rattle.frame.specs.declared.frame.Wait.TheVariants as wait
use Rattle.sync_join.specs.declared.count.Parent.{Parent}
use Rattle.sync_join.specs.declared.count.Parent.TheVariants as parent
use Rattle.schedule_workers.specs.Forking.{parent_of, resumed_by_child}

eqb_at : (a b : ℕ) → a ≡ b → eqb a b ≡ true
eqb_at a b same = elim (eqb_tells a b) [ inl h ↦ h.0 | inr h ↦ absurd (h.1 same) ]

eqb_off : (a b : ℕ) → a ≢ b → eqb a b ≡ false
eqb_off a b differ = elim (eqb_tells a b) [ inl h ↦ absurd (differ h.1) | inr h ↦ h.0 ]

abbrev newest_of : Parent → ℕ
newest_of (parent.Ready newest) = newest
newest_of (parent.Stalled region) = 0
newest_of parent.Busy = 0

abbrev awaited_of : Parent → ℕ
awaited_of (parent.Ready newest) = 0
awaited_of (parent.Stalled region) = region
awaited_of parent.Busy = 0

pub resumed_ready : (runner : Option ℕ) (waits : Wait) (made left child region : ℕ) → 0 < made → parent_of runner waits made ≡ parent.Ready child → true ≡ resumed_by_child runner waits made left child region
resumed_ready (Some w) waits made left child region some is = absurd cc
resumed_ready None wait.Nothing made left child region some is = let newest : made - 1 ≡ child = ap newest_of is in sym (eqb_at made (child + 1) (omega (arith, newest, some)))
resumed_ready None (wait.Region awaited) made left child region some is = absurd cc
resumed_ready None (wait.Call callee register) made left child region some is = absurd cc

pub resumed_stalled : (runner : Option ℕ) (waits : Wait) (made left child region : ℕ) → parent_of runner waits made ≡ parent.Stalled region → left ≡ 0 → true ≡ resumed_by_child runner waits made left child region
resumed_stalled (Some w) waits made left child region is none = absurd cc
resumed_stalled None wait.Nothing made left child region is none = absurd cc
resumed_stalled None (wait.Region awaited) made left child region is none = sym (rw (eqb_at awaited.0 region (ap awaited_of is), eqb_at left 0 none) refl)
resumed_stalled None (wait.Call callee register) made left child region is none = absurd cc

pub not_resumed : (runner : Option ℕ) (waits : Wait) (made left child region : ℕ) → (parent_of runner waits made ≡ parent.Ready child → ⊥) → (parent_of runner waits made ≡ parent.Stalled region × left ≡ 0 → ⊥) → false ≡ resumed_by_child runner waits made left child region
not_resumed (Some w) waits made left child region unready unstalled = refl
not_resumed None wait.Nothing made left child region unready unstalled = sym (eqb_off made (child + 1) (λ e. unready (let newest : made - 1 ≡ child = omega (arith, e) in ap parent.Ready newest)))
not_resumed None (wait.Region awaited) made left child region unready unstalled =
    elim (eqb_tells awaited.0 region) [
      | inl h ↦ sym (rw (h.0, eqb_off left 0 (λ e. unstalled (ap parent.Stalled h.1, e))) refl)
      | inr h ↦ sym (rw h.0 refl)
    ]
not_resumed None (wait.Call callee register) made left child region unready unstalled = refl
