-- What facts show of zones, at values of the registers that meet the facts.
use Rattle.std.proofs.Common.{◌≡◌, ◌∙◌, ℕ, ℤ, pos, negsuc, ◌+ℤ◌, ◌-ℤ◌, ◌*ℤ◌, ◌≤ℤ◌, true, false, not, List, [], ◌∷◌, ◌++◌, refl, sym, ap, subst, ⊎_elim, arith}
use Rattle.std.specs.List.{Any}
use Rattle.std.proofs.lemmas.Bool.{false≢true, eqb-true, eq-eqb, not-true, not-false, and_parts, or_cases}
use Rattle.std.proofs.lemmas.Int.{ints}
use Rattle.std.proofs.lemmas.List.Folds.{Any-from_list_any}
use Rattle.linear.specs.declared.form.Term.{Term}
use Rattle.linear.specs.declared.form.Fact.{Fact}
use Rattle.linear.specs.Terms.{Combination}
use Rattle.ranges.specs.linear_shown.Shown.{AllHold}
use Rattle.linear.proofs.Values.{distributes, associates}
use Rattle.program.specs.declared.annotation.Zone.{Zone}
use Rattle.program.specs.declared.identifier.ObjectName.{ObjectName}
use Rattle.program.specs.declared.identifier.ObjectName.TheVariants.{Global, Alloca, Parameter}
use Rattle.ranges.specs.cfg.declared.structure.Move.{Move}
use Rattle.ranges.specs.ranges_owed.declared.sum.Part.{Part}
use Rattle.ranges.specs.ranges_owed.Inequalities.{parts_of}
use Rattle.ranges.specs.Truth.{parts_value}
use Rattle.ranges.proofs.Truth.{shown_true}
use Rattle.footprints_feet.specs.footprints_zones.Zones.{Span, as_written, mode_covers, modes_agree, between, shows_order, is_empty, covers, is_apart, conflict, is_covered}
use Rattle.program.specs.ObjectNames.{same_object}
use Rattle.footprints.specs.Cells.{moved, terms_value, end_value, HasCell}

-- ---- the value of a difference

opposites : (c w t p : ℤ) → p ≡ negsuc 0 *ℤ t → ((negsuc 0 *ℤ c) *ℤ w) +ℤ p ≡ negsuc 0 *ℤ ((c *ℤ w) +ℤ t)
opposites c w t p e = ap (λ x. ((negsuc 0 *ℤ c) *ℤ w) +ℤ x) e ∙ ap (λ x. x +ℤ (negsuc 0 *ℤ t)) (associates (negsuc 0) c w) ∙ sym (distributes (negsuc 0) (c *ℤ w) t)

lesser_parts : (v : ℕ → ℤ) (moves : List Move) (ts : List Term) → parts_value v (parts_of moves (negsuc 0) ts) ≡ negsuc 0 *ℤ terms_value v moves ts
lesser_parts v moves [] = refl
lesser_parts v moves (t ∷ ts) = opposites t.coefficient (moved v moves t) (terms_value v moves ts) _ (lesser_parts v moves ts)

once : (c : ℤ) → pos 1 *ℤ c ≡ c
once c = omega (arith, ints)

nothing_before : (p : ℤ) → p ≡ pos 0 +ℤ p
nothing_before p = omega (arith, ints)

grouped : (x t p : ℤ) → x +ℤ (t +ℤ p) ≡ (x +ℤ t) +ℤ p
grouped x t p = omega (arith, ints)

greater_parts : (v : ℕ → ℤ) (moves : List Move) (ts : List Term) (rest : List Part) → parts_value v (parts_of moves (pos 1) ts ++ rest) ≡ terms_value v moves ts +ℤ parts_value v rest
greater_parts v moves [] rest = nothing_before (parts_value v rest)
greater_parts v moves (t ∷ ts) rest =
    ap (λ x. (x *ℤ moved v moves t) +ℤ parts_value v (parts_of moves (pos 1) ts ++ rest)) (once t.coefficient)
    ∙ ap (λ x. (t.coefficient *ℤ moved v moves t) +ℤ x) (greater_parts v moves ts rest)
    ∙ grouped (t.coefficient *ℤ moved v moves t) (terms_value v moves ts) (parts_value v rest)

put_together : (a b t u : ℤ) → pos 0 ≤ℤ ((a -ℤ b) +ℤ (t +ℤ (negsuc 0 *ℤ u))) → (b +ℤ u) ≤ℤ (a +ℤ t)
put_together a b t u h = omega (arith, ints, h)

-- where an order is shown it is true
order_true : (facts : List Fact) (for_high : List Move) (high : Combination) (for_low : List Move) (low : Combination) → shows_order facts for_high high for_low low ≡ true →
    (v : ℕ → ℤ) → AllHold v facts → end_value v for_low low ≤ℤ end_value v for_high high
unfolding shows_order
order_true facts for_high high for_low low h v all =
    let parts = greater_parts v for_high high.terms (parts_of for_low (negsuc 0) low.terms) ∙ ap (λ x. terms_value v for_high high.terms +ℤ x) (lesser_parts v for_low low.terms) in
    put_together high.constant low.constant (terms_value v for_high high.terms) (terms_value v for_low low.terms)
    (subst (λ x. pos 0 ≤ℤ ((high.constant -ℤ low.constant) +ℤ x)) parts (shown_true facts (between for_high high for_low low) h v all))

-- ---- tests taken apart

same_names : (a b : ObjectName) → same_object a b ≡ true → a ≡ b
same_names (Global a) (Global b) h = let e = eqb-true a.0 b.0 h in ap (λ (n : ℕ). Global (record { 0 = n })) e
same_names (Global a) (Alloca b) h = absurd (false≢true h)
same_names (Global a) (Parameter b) h = absurd (false≢true h)
same_names (Alloca a) (Global b) h = absurd (false≢true h)
same_names (Alloca a) (Alloca b) h = let e = eqb-true a.0 b.0 h in ap (λ (n : ℕ). Alloca (record { 0 = n })) e
same_names (Alloca a) (Parameter b) h = absurd (false≢true h)
same_names (Parameter a) (Global b) h = absurd (false≢true h)
same_names (Parameter a) (Alloca b) h = absurd (false≢true h)
same_names (Parameter a) (Parameter b) h = let e = eqb-true a.0 b.0 h in ap (λ (n : ℕ). Parameter (record { 0 = n })) e

same_itself : (a : ObjectName) → same_object a a ≡ true
same_itself (Global a) = eq-eqb a.0 a.0 refl
same_itself (Alloca a) = eq-eqb a.0 a.0 refl
same_itself (Parameter a) = eq-eqb a.0 a.0 refl

-- ---- cells

chain : (a b c : ℤ) → a ≤ℤ b → b ≤ℤ c → a ≤ℤ c
chain a b c h k = omega (arith, ints, h, k)

nothing_between : (low high i : ℤ) → high ≤ℤ low → low ≤ℤ i → (i +ℤ pos 1) ≤ℤ high → ⊥
nothing_between low high i h k l = omega (arith, ints, h, k, l)

pub empty_cells : (facts : List Fact) (z : Span) → is_empty facts z ≡ true → (v : ℕ → ℤ) → AllHold v facts → (o : ObjectName) (i : ℤ) → HasCell v z o i → ⊥
unfolding is_empty
empty_cells facts z h v all o i cell =
    nothing_between (end_value v z.moves z.zone.low) (end_value v z.moves z.zone.high) i (order_true facts z.moves z.zone.low z.moves z.zone.high h v all) cell.from_low cell.before_high

pub covered_cells : (facts : List Fact) (z y : Span) → covers facts z y ≡ true → (v : ℕ → ℤ) → AllHold v facts → (o : ObjectName) (i : ℤ) → HasCell v y o i → HasCell v z o i
unfolding covers
covered_cells facts z y h v all o i cell =
    let object = and_parts (same_object z.object y.object) _ h in
    let mode = and_parts (mode_covers z.zone.mode y.zone.mode) _ object.1 in
    let ends = and_parts (shows_order facts y.moves y.zone.low z.moves z.zone.low) _ mode.1 in
    record {
      object_is = cell.object_is ∙ sym (same_names z.object y.object object.0);
      from_low = chain _ _ _ (order_true facts y.moves y.zone.low z.moves z.zone.low ends.0 v all) cell.from_low;
      before_high = chain _ _ _ cell.before_high (order_true facts z.moves z.zone.high y.moves y.zone.high ends.1 v all);
    }

pub covers_mode : (facts : List Fact) (z y : Span) → covers facts z y ≡ true → mode_covers z.zone.mode y.zone.mode ≡ true
unfolding covers
covers_mode facts z y h = (and_parts (mode_covers z.zone.mode y.zone.mode) _ (and_parts (same_object z.object y.object) _ h).1).0

other_object : (z y o : ObjectName) → not (same_object z y) ≡ true → o ≡ z → o ≡ y → ⊥
other_object z y o h e k =
    let same : z ≡ y = sym e ∙ k in
    let differs : same_object z y ≡ false = not-true (same_object z y) h in
    false≢true (sym differs ∙ subst (λ x. same_object z x ≡ true) same (same_itself z))

pub apart_cells : (facts : List Fact) (z y : Span) → is_apart facts z y ≡ true → (v : ℕ → ℤ) → AllHold v facts → (o : ObjectName) (i : ℤ) → HasCell v z o i → HasCell v y o i → ⊥
unfolding is_apart
apart_cells facts z y h v all o i in_z in_y =
    ⊎_elim (λ other. other_object z.object y.object o other in_z.object_is in_y.object_is)
    (λ rest. ⊎_elim (λ e. empty_cells facts z e v all o i in_z)
    (λ rest2. ⊎_elim (λ e. empty_cells facts y e v all o i in_y)
    (λ rest3. ⊎_elim
    (λ e. nothing_between _ _ i (order_true facts z.moves z.zone.low y.moves y.zone.high e v all) in_z.from_low in_y.before_high)
    (λ e. nothing_between _ _ i (order_true facts y.moves y.zone.low z.moves z.zone.high e v all) in_y.from_low in_z.before_high)
    (or_cases (shows_order facts z.moves z.zone.low y.moves y.zone.high) _ rest3))
    (or_cases (is_empty facts y) _ rest2))
    (or_cases (is_empty facts z) _ rest))
    (or_cases (not (same_object z.object y.object)) _ h)

pub shared_cells : (facts : List Fact) (z y : Span) → conflict facts z y ≡ false → (v : ℕ → ℤ) → AllHold v facts → (o : ObjectName) (i : ℤ) → HasCell v z o i → HasCell v y o i → modes_agree z.zone.mode y.zone.mode ≡ true
unfolding conflict
shared_cells facts z y h v all o i in_z in_y =
    ⊎_elim (λ e. e) (λ e. absurd (apart_cells facts z y e v all o i in_z in_y))
    (or_cases (modes_agree z.zone.mode y.zone.mode) (is_apart facts z y) (not-false _ h))

pub covered_by_one : (facts : List Fact) (zones : List Zone) (y : Span) → is_covered facts zones y ≡ true → (v : ℕ → ℤ) → AllHold v facts → (o : ObjectName) (i : ℤ) → HasCell v y o i →
    Any (λ z. HasCell v (as_written z) o i × (mode_covers z.mode y.zone.mode ≡ true)) zones
unfolding is_covered
covered_by_one facts zones y h v all o i cell =
    ⊎_elim (λ e. absurd (empty_cells facts y e v all o i cell))
    (λ e.
    let any = Any-from_list_any (λ (z : Zone). covers facts (as_written z) y) zones e in
    (any.0, any.1, any.2, any.3, (covered_cells facts (as_written any.1) y any.4 v all o i cell, covers_mode facts (as_written any.1) y any.4)))
    (or_cases (is_empty facts y) _ h)
