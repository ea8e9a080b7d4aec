-- A cell that was loaded, and not stored since, is no delta and holds its value among the changes too.
use Rattle.std.proofs.Common.{◌≡◌, ◌≢◌, ◌<◌, ◌∙◌, ◌||◌, ℕ, ℤ, Bool, pos, ap, refl, sym, subst, true, false, length, set, inl, inr}
use Rattle.std.proofs.lemmas.Bool.Decides.{eqb_tells}
use Rattle.std.proofs.lemmas.List.{get_or-set_same, get_or-set_other}
use Rattle.strand_pages.specs.Bits.{is_set}
use Rattle.strand_pages.specs.Paging.{number_at}
use Rattle.strand_pages.specs.declared.page.Page.{Page}

at_or_away : {P : ℕ → Type 0} (k : ℕ) → P k → ((j : ℕ) → j ≢ k → P j) → (j : ℕ) → P j
at_or_away {P} k here away j = elim (eqb_tells j k) [ inl q ↦ subst P (sym q.1) here | inr q ↦ away j q.1 ]

or_right : (b : Bool) → (b || true) ≡ true
or_right true = refl
or_right false = refl

module _ (x : Page) (k : ℕ) where
  -- the cell's bit is set among the known ones, and among those of one kind
  module _ (known bits all : ℕ) (on : is_set known k ≡ true) (rest : (j : ℕ) → j ≢ k → is_set known j ≡ is_set x.known j) (reads : (j : ℕ) → j ≢ k → is_set bits j ≡ is_set x.read j) (stored : (j : ℕ) → j ≢ k → is_set all j ≡ is_set x.stored j) where
    known_away : (j : ℕ) → j ≢ k → is_set known j ≡ (is_set bits j || is_set all j)
    known_away j off = rest j off ∙ x.known_is j ∙ sym (λ i. reads j off i || stored j off i)

    pub known_read : is_set bits k ≡ true → (j : ℕ) → is_set known j ≡ (is_set bits j || is_set all j)
    known_read set_now = at_or_away {P = λ j. is_set known j ≡ (is_set bits j || is_set all j)} k (on ∙ sym (ap (λ b. b || is_set all k) set_now)) known_away

    pub known_stored : is_set all k ≡ true → (j : ℕ) → is_set known j ≡ (is_set bits j || is_set all j)
    known_stored set_now = at_or_away {P = λ j. is_set known j ≡ (is_set bits j || is_set all j)} k (on ∙ sym (ap (λ b. is_set bits k || b) set_now ∙ or_right (is_set bits k))) known_away

  still_copied : (z : ℤ) (j : ℕ) → j ≢ k → is_set x.read j ≡ true → is_set x.stored j ≡ false → number_at (set x.changes k z) j ≡ number_at x.values j
  still_copied z j off on fresh = get_or-set_other x.changes k j z (pos 0) off ∙ x.copied j on fresh

  -- the cell's bit is set among the reads
  module _ (bits : ℕ) (others : (j : ℕ) → j ≢ k → is_set bits j ≡ is_set x.read j) where
    pub settled_read : is_set x.delta k ≡ false → (j : ℕ) → is_set bits j ≡ true → is_set x.stored j ≡ false → is_set x.delta j ≡ false
    settled_read plain = at_or_away {P = λ j. is_set bits j ≡ true → is_set x.stored j ≡ false → is_set x.delta j ≡ false} k
        (λ on fresh. plain) (λ j off on fresh. x.settled j (sym (others j off) ∙ on) fresh)

    pub copied_read : k < length x.changes → (z : ℤ) → z ≡ number_at x.values k →
        (j : ℕ) → is_set bits j ≡ true → is_set x.stored j ≡ false → number_at (set x.changes k z) j ≡ number_at x.values j
    copied_read lt z e = at_or_away {P = λ j. is_set bits j ≡ true → is_set x.stored j ≡ false → number_at (set x.changes k z) j ≡ number_at x.values j} k
        (λ on fresh. get_or-set_same x.changes k z (pos 0) lt ∙ e) (λ j off on fresh. still_copied z j off (sym (others j off) ∙ on) fresh)

    -- and among the stored ones
    module _ (all : ℕ) (set_now : is_set all k ≡ true) (rest : (j : ℕ) → j ≢ k → is_set all j ≡ is_set x.stored j) where
      pub settled_stored : (j : ℕ) → is_set bits j ≡ true → is_set all j ≡ false → is_set x.delta j ≡ false
      settled_stored = at_or_away {P = λ j. is_set bits j ≡ true → is_set all j ≡ false → is_set x.delta j ≡ false} k
          (λ on fresh. cc) (λ j off on fresh. x.settled j (sym (others j off) ∙ on) (sym (rest j off) ∙ fresh))

      pub copied_stored : (z : ℤ) (j : ℕ) → is_set bits j ≡ true → is_set all j ≡ false → number_at (set x.changes k z) j ≡ number_at x.values j
      copied_stored z = at_or_away {P = λ j. is_set bits j ≡ true → is_set all j ≡ false → number_at (set x.changes k z) j ≡ number_at x.values j} k
          (λ on fresh. cc) (λ j off on fresh. still_copied z j off (sym (others j off) ∙ on) (sym (rest j off) ∙ fresh))

  -- the cell is to be added to, and was not loaded
  module _ (unread : is_set x.read k ≡ false) where
    pub settled_unread : (all : ℕ) → ((j : ℕ) → j ≢ k → is_set all j ≡ is_set x.delta j) → (j : ℕ) → is_set x.read j ≡ true → is_set x.stored j ≡ false → is_set all j ≡ false
    settled_unread all rest = at_or_away {P = λ j. is_set x.read j ≡ true → is_set x.stored j ≡ false → is_set all j ≡ false} k
        (λ on fresh. cc) (λ j off on fresh. rest j off ∙ x.settled j on fresh)

    pub copied_unread : (z : ℤ) (j : ℕ) → is_set x.read j ≡ true → is_set x.stored j ≡ false → number_at (set x.changes k z) j ≡ number_at x.values j
    copied_unread z = at_or_away {P = λ j. is_set x.read j ≡ true → is_set x.stored j ≡ false → number_at (set x.changes k z) j ≡ number_at x.values j} k
        (λ on fresh. cc) (still_copied z)
