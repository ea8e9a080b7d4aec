-- What stands for the facts in an index, and what it makes up.
use Rattle.std.proofs.Common.{◌≡◌, ◌∙◌, ℕ, zero, suc, ◌<◌, ◌≤◌, ◌+◌, ◌*◌, ◌^◌, ℤ, pos, negsuc, ◌+ℤ◌, ◌*ℤ◌, ◌-ℤ◌, ◌≤ℤ◌, ◌⊎◌, Bool, true, false, List, [], ◌∷◌, ◌++◌, length, get_or, insert, set, map, take, drop, None, inl, inr, sym, ap, refl, subst, arith}
use Rattle.std.specs.List.{All, Contains}
use Rattle.std.specs.List.Sorted.{IsNonDecreasingBy}
use Rattle.std.proofs.Math.IntN.{zero-*ℤ}
use Rattle.std.proofs.Math.ListN.{get_or-append}
use Rattle.std.proofs.lemmas.Int.{ints}
use Rattle.std.proofs.lemmas.Bool.{cases_eq, cases_Bool}
use Rattle.std.proofs.lemmas.List.{length-map, length-append, map-append, take-append-drop, length-set, get_or_default, get_or-set_same, get_or-set_other}
use Rattle.std.proofs.lemmas.List.Edits.{length-insert, get_or-insert_at}
use Rattle.std.proofs.lemmas.List.Elements.{All-contains, All-cons, Contains-get_or, Contains-append_left, Contains-append_right, Contains-append_cases}
use Rattle.std.proofs.lemmas.List.Sorted.{IsNonDecreasingBy-insert, IsNonDecreasingBy-short, IsPermutation-insert, IsPermutation-sym, All-permutation, Contains-permutation}
use Rattle.linear.specs.declared.form.Term.{Term}
use Rattle.linear.specs.declared.form.Fact.{Fact}
use Rattle.linear.specs.Forms.{IsRising}
use Rattle.linear.specs.Terms.{Combination, coefficient_of, constant_form}
use Rattle.linear_shown.specs.declared.index.Entry.{Entry}
use Rattle.linear_shown.specs.Shown.{IsSum, IsShown}
use Rattle.linear_shown.specs.Sides.{sides}
use Rattle.linear_shown.specs.Search.{factors, IsFound}
use Rattle.linear_shown.specs.Index.{weight, weigh, IsKeyOf, place_at, IsEntry, IsAsStrong, IsIndexed, IsIndex, AreLayers, AreEntries, IsJoined, IsBegun, IsContradiction, AreConsistent, IsNegative, IsMadeUp, IsMadeUpWith, IsMadeUpByB, IsMadeUpByA, AreNotB}
use Rattle.linear.proofs.Values.{distributes, value_combines}
use Rattle.linear_shown.specs.Tested.{is_shown}
use Rattle.linear_shown.proofs.Tested.{shown_from_test}
use Rattle.linear_shown.proofs.Left.{swapped}
use Rattle.linear_shown.proofs.Layers.{layers_index}
use Rattle.linear_shown.proofs.Sound.{keeps_sign}
use Rattle.linear_shown.proofs.Newest.{in_newest, in_sides}
use Rattle.linear_shown.proofs.Found.{is_factor, found_shown, shown_found}

-- ---- strength

pub strong_itself : (f : Combination) → IsAsStrong f f
strong_itself f = record { terms = λ r. refl; constant = omega (arith, ints) }

pub stronger : (f g h : Combination) → IsAsStrong f g → IsAsStrong g h → IsAsStrong f h
stronger f g h p q = record { terms = λ r. p.terms r ∙ q.terms r; constant = omega (arith, ints, p.constant, q.constant) }

pub keeps_order : (a : ℕ) (x y : ℤ) → x ≤ℤ y → (pos a *ℤ x) ≤ℤ (pos a *ℤ y)
keeps_order a x y h =
    let d : ℤ = y -ℤ x in
    let e : x +ℤ d ≡ y = omega (arith, ints) in
    let p : pos 0 ≤ℤ (pos a *ℤ d) = keeps_sign a d (omega (arith, ints, h)) in
    let q : pos a *ℤ y ≡ (pos a *ℤ x) +ℤ (pos a *ℤ d) = ap (λ z. pos a *ℤ z) (sym e) ∙ distributes (pos a) x d in
    omega (arith, ints, p, q)

less_together : (x y z w : ℤ) → x ≤ℤ y → (y +ℤ z) ≤ℤ w → (x +ℤ z) ≤ℤ w
less_together x y z w h k = omega (arith, ints, h, k)

less_after : (x y z w : ℤ) → x ≤ℤ y → (z +ℤ y) ≤ℤ w → (z +ℤ x) ≤ℤ w
less_after x y z w h k = omega (arith, ints, h, k)

pub stronger_first : (e : Combination) (a : ℕ) (f f' : Combination) (b : ℕ) (g : Combination) → IsAsStrong f' f → IsSum e a f b g → IsSum e a f' b g
stronger_first e a f f' b g p s = record {
  terms = λ r. s.terms r ∙ ap (λ z. (pos a *ℤ z) +ℤ (pos b *ℤ coefficient_of g.terms r)) (sym (p.terms r));
  constant = less_together (pos a *ℤ f'.constant) (pos a *ℤ f.constant) (pos b *ℤ g.constant) e.constant (keeps_order a f'.constant f.constant p.constant) s.constant;
}

pub stronger_second : (e : Combination) (a : ℕ) (f : Combination) (b : ℕ) (g g' : Combination) → IsAsStrong g' g → IsSum e a f b g → IsSum e a f b g'
stronger_second e a f b g g' p s = record {
  terms = λ r. s.terms r ∙ ap (λ z. (pos a *ℤ coefficient_of f.terms r) +ℤ (pos b *ℤ z)) (sym (p.terms r));
  constant = less_after (pos b *ℤ g'.constant) (pos b *ℤ g.constant) (pos a *ℤ f.constant) e.constant (keeps_order b g'.constant g.constant p.constant) s.constant;
}

-- ---- keys

scaled_key : (b k : ℕ) (z : ℤ) → pos k ≡ z +ℤ pos (2 ^ 100) → pos (b * k) ≡ (pos b *ℤ z) +ℤ pos (b * 2 ^ 100)
scaled_key b k z h = ap (λ x. pos b *ℤ x) h ∙ distributes (pos b) z (pos (2 ^ 100))

keys_add : (e f g : ℤ) (x y : ℤ) (u v a b k : ℕ) → e ≡ x +ℤ y → pos k ≡ e +ℤ pos (2 ^ 100) → pos u ≡ x +ℤ pos (a * 2 ^ 100) → pos v ≡ y +ℤ pos (b * 2 ^ 100) → v + u + 2 ^ 100 ≡ (a + b) * 2 ^ 100 + k
keys_add e f g x y u v a b k h i j l = omega (arith, ints, h, i, j, l)

-- a form that is made up has the key that is wanted
pub key_of_sum : (e : Combination) (a : ℕ) (f : Combination) (b : ℕ) (g : Combination) (ek fk gk : ℕ) →
    IsKeyOf e.terms ek → IsKeyOf f.terms fk → IsKeyOf g.terms gk → IsSum e a f b g → b * gk + a * fk + 2 ^ 100 ≡ (a + b) * 2 ^ 100 + ek
key_of_sum e a f b g ek fk gk ke kf kg s =
    keys_add (weigh e.terms) (weigh f.terms) (weigh g.terms) (pos a *ℤ weigh f.terms) (pos b *ℤ weigh g.terms) (a * fk) (b * gk) a b ek
    (value_combines (λ r. pos (weight r)) e.terms a f.terms b g.terms s.terms) ke.value (scaled_key a fk (weigh f.terms) kf.value) (scaled_key b gk (weigh g.terms) kg.value)

-- ---- the index grows

entries_none : (facts : List Fact) → AreEntries facts []
entries_none facts = record {
  sorted = IsNonDecreasingBy-short (λ (e : Entry). e.key) [] (omega arith);
  own = λ k d l. absurd (omega (arith, l));
}

-- what is kept, in a list that keeps what was there
pub moved : (facts : List Fact) (old new : List Entry) → ((e : Entry) → Contains old e → (e' : Entry) × Contains new e' × IsAsStrong (place_at facts e'.place) (place_at facts e.place)) →
    (place : ℕ) → IsIndexed facts old place → IsIndexed facts new place
moved facts old new on place (e, c, strong) =
    let m = on e c in
    (m.0, m.1, stronger (place_at facts m.0.place) (place_at facts e.place) (place_at facts place) m.2 strong)

-- as strong an entry is there already
pub joined_same : (facts : List Fact) (es : List Entry) (entry : Entry) (k : ℕ) → AreEntries facts es → k < length es →
    ((r : ℕ) → coefficient_of (place_at facts (get_or es k entry).place).terms r ≡ coefficient_of (place_at facts entry.place).terms r) →
    (place_at facts (get_or es k entry).place).constant ≤ℤ (place_at facts entry.place).constant → IsJoined facts es es entry
joined_same facts es entry k are within same le = record {
  entries = are;
  kept = λ place i. i;
  entered = (get_or es k entry, Contains-get_or es k entry within, record { terms = same; constant = le });
  within = λ e c. inl c;
}

key_stays : (es : List Entry) (entry d : Entry) (k i : ℕ) → k < length es → (get_or es k entry).key ≡ entry.key → (get_or (set es k entry) i d).key ≡ (get_or es i d).key
key_stays es entry d k i within same = elim (cases_eq i k) [
  | inl e ↦ rw e (ap (λ (x : Entry). x.key) (get_or-set_same es k entry d within) ∙ sym same ∙ ap (λ (x : Entry). x.key) (get_or_default es k entry d within))
  | inr ne ↦ ap (λ (x : Entry). x.key) (get_or-set_other es k i entry d ne)
]

set_rises : (es : List Entry) (entry : Entry) (k : ℕ) → IsNonDecreasingBy (λ (e : Entry). e.key) es → k < length es → (get_or es k entry).key ≡ entry.key → IsNonDecreasingBy (λ (e : Entry). e.key) (set es k entry)
set_rises es entry k up within same i j d le l =
    rw (key_stays es entry d k i within same, key_stays es entry d k j within same) (up i j d le (rw (length-set es k entry) at l))

all_set : (P : Entry → Type 0) (es : List Entry) (entry : Entry) (k : ℕ) → All P es → P entry → k < length es → All P (set es k entry)
all_set P es entry k all here within i d l = elim (cases_eq i k) [
  | inl e ↦ rw (e, get_or-set_same es k entry d within) here
  | inr ne ↦ rw (get_or-set_other es k i entry d ne) (all i d (rw (length-set es k entry) at l))
]

-- an entry that was there, or what takes its place
set_keeps : (facts : List Fact) (es : List Entry) (entry : Entry) (k : ℕ) → k < length es → IsAsStrong (place_at facts entry.place) (place_at facts (get_or es k entry).place) →
    (e : Entry) → Contains es e → (e' : Entry) × Contains (set es k entry) e' × IsAsStrong (place_at facts e'.place) (place_at facts e.place)
set_keeps facts es entry k within strong e (i, l, at_i) = elim (cases_eq i k) [
  | inl s ↦
      let it : get_or es k entry ≡ e = ap (λ n. get_or es n entry) (sym s) ∙ get_or_default es i entry e l ∙ at_i in
      (entry, (k, rw (length-set es k entry) within, get_or-set_same es k entry entry within), subst (λ (x : Entry). IsAsStrong (place_at facts entry.place) (place_at facts x.place)) it strong)
  | inr ne ↦ (e, (i, rw (length-set es k entry) l, get_or-set_other es k i entry e ne ∙ at_i), strong_itself (place_at facts e.place))
]

set_within : (es : List Entry) (entry : Entry) (k : ℕ) → k < length es → (e : Entry) → Contains (set es k entry) e → Contains es e ⊎ (e ≡ entry)
set_within es entry k within e (i, l, at_i) = elim (cases_eq i k) [
  | inl s ↦ inr (sym at_i ∙ ap (λ n. get_or (set es k entry) n e) s ∙ get_or-set_same es k entry e within)
  | inr ne ↦ inl (i, (rw (length-set es k entry) at l), sym (get_or-set_other es k i entry e ne) ∙ at_i)
]

-- a weaker entry gives way
pub joined_set : (facts : List Fact) (es : List Entry) (entry : Entry) (k : ℕ) → AreEntries facts es → IsEntry facts entry → k < length es →
    (get_or es k entry).key ≡ entry.key →
    ((r : ℕ) → coefficient_of (place_at facts (get_or es k entry).place).terms r ≡ coefficient_of (place_at facts entry.place).terms r) →
    (place_at facts entry.place).constant ≤ℤ (place_at facts (get_or es k entry).place).constant → IsJoined facts es (set es k entry) entry
joined_set facts es entry k are is within key same le = record {
  entries = record {
    sorted = set_rises es entry k are.sorted within key;
    own = all_set (IsEntry facts) es entry k are.own is within;
  };
  kept = moved facts es (set es k entry) (set_keeps facts es entry k within (record { terms = λ r. sym (same r); constant = le }));
  entered = (entry, (k, rw (length-set es k entry) within, get_or-set_same es k entry entry within), strong_itself (place_at facts entry.place));
  within = set_within es entry k within;
}

all_insert : (P : Entry → Type 0) (es : List Entry) (entry : Entry) (at : ℕ) → at ≤ length es → All P es → P entry → All P (insert es at entry)
all_insert P es entry at le all here = All-permutation P (entry ∷ es) (insert es at entry) (IsPermutation-insert es at entry) (All-cons P entry es here all)

insert_within : (es : List Entry) (entry : Entry) (at : ℕ) → (e : Entry) → Contains (insert es at entry) e → Contains es e ⊎ (e ≡ entry)
insert_within es entry at e c =
    one (Contains-append_cases (entry ∷ []) es e (Contains-permutation (insert es at entry) (entry ∷ es) e (IsPermutation-sym (entry ∷ es) (insert es at entry) (IsPermutation-insert es at entry)) c))
  where
    only : Contains (entry ∷ []) e → e ≡ entry
    only (zero, l, is) = sym is
    only (suc k, l, is) = absurd (omega (arith, l))

    one : Contains (entry ∷ []) e ⊎ Contains es e → Contains es e ⊎ (e ≡ entry)
    one (inl here) = inr (only here)
    one (inr there) = inl there

-- a new entry before those of its key and above
pub joined_insert : (facts : List Fact) (es : List Entry) (entry : Entry) (at : ℕ) → AreEntries facts es → IsEntry facts entry → at ≤ length es →
    ((k : ℕ) (d : Entry) → k < at → (get_or es k d).key ≤ entry.key) → ((k : ℕ) (d : Entry) → at ≤ k → k < length es → entry.key ≤ (get_or es k d).key) →
    IsJoined facts es (insert es at entry) entry
joined_insert facts es entry at are is le below above = record {
  entries = record {
    sorted = IsNonDecreasingBy-insert (λ (e : Entry). e.key) es at entry are.sorted le below above;
    own = all_insert (IsEntry facts) es entry at le are.own is;
  };
  kept = moved facts es (insert es at entry)
      (λ e c. (e, Contains-permutation (entry ∷ es) (insert es at entry) e (IsPermutation-insert es at entry) (Contains-append_right (entry ∷ []) es e c), strong_itself (place_at facts e.place)));
  entered = (entry, (at, rw (length-insert es at entry le) (omega (arith, le)), get_or-insert_at es at entry entry le), strong_itself (place_at facts entry.place));
  within = insert_within es entry at;
}

pub in_recent : (facts : List Fact) (settled recent : List Entry) (place : ℕ) → IsIndexed facts recent place → IsIndexed facts (settled ++ recent) place
in_recent facts settled recent place (e, c, strong) = (e, Contains-append_right settled recent e c, strong)

-- what the old recent ones keep, others keep
pub kept_beside : (facts : List Fact) (settled old new : List Entry) → ((e : Entry) → Contains old e → IsIndexed facts new e.place) → (place : ℕ) →
    IsIndexed facts (settled ++ old) place → IsIndexed facts (settled ++ new) place
kept_beside facts settled old new on place (e, c, strong) = elim (Contains-append_cases settled old e c) [
  | inl settles ↦ (e, Contains-append_left settled new e settles, strong)
  | inr was ↦
      let is = on e was in
      (is.0, Contains-append_right settled new is.0 is.1, stronger (place_at facts is.0.place) (place_at facts e.place) (place_at facts place) is.2 strong)
]

-- the next place has joined
pub layers_joined : (facts : List Fact) (settled old new : List Entry) (entry : Entry) → AreLayers facts entry.place settled old → IsJoined facts old new entry →
    AreLayers facts (suc entry.place) settled new
layers_joined facts settled old new entry layers joined = record {
  settled = layers.settled;
  recent = joined.entries;
  kept = λ place l. elim (cases_eq place entry.place) [
    | inl same ↦ rw same (in_recent facts settled new entry.place joined.entered)
    | inr other ↦ kept_beside facts settled old new (λ e c. joined.kept e.place (e, c, strong_itself (place_at facts e.place))) place (layers.kept place (omega (arith, l, other)))
  ];
}

-- the lists change places
pub layers_swapped : (facts : List Fact) (n : ℕ) (settled recent : List Entry) → AreLayers facts n settled recent → AreLayers facts n recent settled
layers_swapped facts n settled recent layers = record {
  settled = layers.recent;
  recent = layers.settled;
  kept = λ place l. other place (layers.kept place l);
}
  where
    other : (place : ℕ) → IsIndexed facts (settled ++ recent) place → IsIndexed facts (recent ++ settled) place
    other place (e, c, strong) = elim (Contains-append_cases settled recent e c) [
      | inl settles ↦ (e, Contains-append_right recent settled e settles, strong)
      | inr late ↦ (e, Contains-append_left recent settled e late, strong)
    ]

-- the recent ones are merged with those that have settled
pub layers_settled : (facts : List Fact) (n : ℕ) (settled recent new : List Entry) → AreLayers facts n settled recent → AreEntries facts new →
    ((e : Entry) → Contains settled e → IsIndexed facts new e.place) → All (λ (e : Entry). IsIndexed facts new e.place) recent → AreLayers facts n new []
layers_settled facts n settled recent new layers are kept entered = record {
  settled = are;
  recent = entries_none facts;
  kept = λ place l.
      let was = layers.kept place l in
      let is : IsIndexed facts new was.0.place = elim (Contains-append_cases settled recent was.0 was.1) [
        | inl settles ↦ kept was.0 settles
        | inr late ↦ All-contains (λ (e : Entry). IsIndexed facts new e.place) recent was.0 entered late
      ] in
      (is.0, Contains-append_left new [] is.0 is.1, stronger (place_at facts is.0.place) (place_at facts was.0.place) (place_at facts place) is.2 was.2);
}

-- ---- what an index makes up

place_of_side : (facts : List Fact) (g : Combination) (c : Contains (sides facts) g) → (c.0 < suc (length facts)) × (place_at facts c.0 ≡ g)
place_of_side facts g (p, within, is) =
    (omega (arith, within, length-map facts (λ (f : Fact). f.form)), get_or_default (sides facts) p (constant_form (pos 0)) g within ∙ is)

pub kept_side : (facts : List Fact) (es : List Entry) → IsIndex facts (suc (length facts)) es → (g : Combination) → Contains (sides facts) g →
    (e : Entry) × Contains es e × IsAsStrong (place_at facts e.place) g
kept_side facts es index g c =
    let p = place_of_side facts g c in
    let k = index.kept c.0 p.0 in
    (k.0, k.1, rw p.1 at k.2)

pub place_is_side : (facts : List Fact) (place : ℕ) → place ≤ length facts → Contains (sides facts) (place_at facts place)
place_is_side facts place le = Contains-get_or (sides facts) place (constant_form (pos 0)) (omega (arith, le, length-map facts (λ (f : Fact). f.form)))

pub side_of_entry : (facts : List Fact) (e : Entry) → IsEntry facts e → Contains (sides facts) (place_at facts e.place)
side_of_entry facts e is = place_is_side facts e.place is.within

-- one fact alone shows a form
pub alone_shown : (facts : List Fact) (e : Combination) (b : ℕ) → IsRising e.terms → Contains (factors e.terms) b → IsMadeUp facts e (place_at facts 0) 1 b → IsShown facts e
alone_shown facts e b rising in_b (g, in_g, sum) = record {
  f = place_at facts 0;
  g = g;
  a = 1;
  b = b;
  f_is = (0, omega arith, refl);
  g_is = in_g;
  a_is = inl refl;
  b_is = is_factor e b rising in_b;
  sum = sum;
}

-- with a factor 0 the second fact counts for nothing, as the absent one does with the factor 1
second_nothing : (facts : List Fact) (e f : Combination) (a : ℕ) → IsMadeUp facts e f a 0 → IsMadeUp facts e f a 1
second_nothing facts e f a (g, in_g, sum) =
    let with_one : IsSum e a f 1 (constant_form (pos 0)) = record {
      terms = λ r. sum.terms r ∙ ap (λ x. (pos a *ℤ coefficient_of f.terms r) +ℤ x) (zero-*ℤ (coefficient_of g.terms r));
      constant = subst (λ x. ((pos a *ℤ f.constant) +ℤ x) ≤ℤ e.constant) (zero-*ℤ g.constant) sum.constant;
    } in
    (constant_form (pos 0), (0, omega arith, refl), with_one)

with_nothing : (facts : List Fact) (e : Combination) (es : List Entry) (a : ℕ) → IsMadeUpWith facts e es a 0 → IsMadeUpWith facts e es a 1
with_nothing facts e es a (first, c, second) = (first, c, second_nothing facts e (place_at facts first.place) a second)

-- so a factor 0 need not be tried after the factor 1
pub nothing_not : (facts : List Fact) (e : Combination) (es : List Entry) (a k : ℕ) → get_or (factors e.terms) k 0 ≡ 0 →
    AreNotB facts e es a k → IsMadeUpWith facts e es a (get_or (factors e.terms) k 0) → ⊥
nothing_not facts e es a zero is none made = absurd (omega (arith, is))
nothing_not facts e es a (suc k) is none made = none 0 0 (omega arith) (with_nothing facts e es a (rw is at made))

-- two factors make the form up in either order
pub either_order : (facts : List Fact) (es : List Entry) → IsIndex facts (suc (length facts)) es → (e : Combination) (a b : ℕ) → IsMadeUpWith facts e es a b → IsMadeUpWith facts e es b a
either_order facts es index e a b (first, c, (g, in_g, sum)) =
    let k = kept_side facts es index g in_g in
    let f = place_at facts first.place in
    let own = All-contains (IsEntry facts) es first index.own c in
    (k.0, k.1, (f, side_of_entry facts first own, swapped e a f b (place_at facts k.0.place) (stronger_second e a f b g (place_at facts k.0.place) k.2 sum)))

-- so of a first factor no second one need be tried that stands before it
pub not_before : (facts : List Fact) (es : List Entry) → IsIndex facts (suc (length facts)) es → (e : Combination) (a i : ℕ) → Contains (factors e.terms) a →
    All (λ a. IsMadeUpByB facts e es a → ⊥) (take i (factors e.terms)) → AreNotB facts e es a i
not_before facts es index e a i in_a none = λ k d l made. none k d l (a, in_a, either_order facts es index e a (get_or (take i (factors e.terms)) k d) made)

pub shown_by_index : (facts : List Fact) (es : List Entry) → IsIndex facts (suc (length facts)) es → (e : Combination) → IsRising e.terms → IsMadeUpByA facts e es → IsShown facts e
shown_by_index facts es index e rising (a, in_a, (b, in_b, (entry, c, (g, in_g, sum)))) =
    let own = All-contains (IsEntry facts) es entry index.own c in
    found_shown facts e None rising (place_at facts entry.place, in_newest facts (place_at facts entry.place) (side_of_entry facts entry own), (refl, (a, in_a, (g, in_newest facts g in_g, (b, in_b, sum)))))

by_index : (facts : List Fact) (es : List Entry) → IsIndex facts (suc (length facts)) es → (e : Combination) → IsFound facts e None → IsMadeUpByA facts e es
by_index facts es index e (f, in_f, (leads, (a, in_a, (g, in_g, (b, in_b, sum))))) =
    let k = kept_side facts es index f (in_sides facts f in_f) in
    (a, in_a, (b, in_b, (k.0, k.1, (g, in_sides facts g in_g, stronger_first e a f (place_at facts k.0.place) b g k.2 sum))))

pub index_shows : (facts : List Fact) (es : List Entry) → IsIndex facts (suc (length facts)) es → (e : Combination) → IsRising e.terms → IsShown facts e → IsMadeUpByA facts e es
index_shows facts es index e rising s = by_index facts es index e (shown_found facts e None tt rising s)

-- ---- some of the facts

next_one : (x : Combination) (xs : List Combination) (f : Combination) → Contains xs f → Contains (x ∷ xs) f
next_one x xs f (k, within, is) = (suc k, omega (arith, within), is)

dropped : (n : ℕ) (facts : List Fact) (f : Combination) → Contains (map (λ (f : Fact). f.form) (drop n facts)) f → Contains (map (λ (f : Fact). f.form) facts) f
dropped zero facts f c = c
dropped (suc n) [] f c = c
dropped (suc n) (x ∷ xs) f c = next_one x.form (map (λ (f : Fact). f.form) xs) f (dropped n xs f c)

dropped_side : (n : ℕ) (facts : List Fact) (f : Combination) → Contains (sides (drop n facts)) f → Contains (sides facts) f
dropped_side n facts f (zero, within, is) = (0, omega arith, is)
dropped_side n facts f (suc k, within, is) = next_one (constant_form (pos 0)) (map (λ (f : Fact). f.form) facts) f (dropped n facts f (k, omega (arith, within), is))

-- what some of the facts show
pub shown_by_more : (n : ℕ) (facts : List Fact) (e : Combination) → IsShown (drop n facts) e → IsShown facts e
shown_by_more n facts e s = record {
  f = s.f;
  g = s.g;
  a = s.a;
  b = s.b;
  f_is = dropped_side n facts s.f s.f_is;
  g_is = dropped_side n facts s.g s.g_is;
  a_is = s.a_is;
  b_is = s.b_is;
  sum = s.sum;
}

-- ---- facts join

place_more : (facts more : List Fact) (p : ℕ) → p ≤ length facts → place_at (facts ++ more) p ≡ place_at facts p
place_more facts more zero l = refl
place_more facts more (suc p) l =
    rw (map-append (λ (f : Fact). f.form) facts more) (get_or-append (map (λ (f : Fact). f.form) facts) (map (λ (f : Fact). f.form) more) (constant_form (pos 0)) p (rw (length-map facts (λ (f : Fact). f.form)) (omega (arith, l))))

entry_more : (facts more : List Fact) (e : Entry) → IsEntry facts e → IsEntry (facts ++ more) e
entry_more facts more e is = record {
  within = rw (length-append facts more) (omega (arith, is.within));
  key = rw (place_more facts more e.place is.within) is.key;
  constant = rw (place_more facts more e.place is.within) is.constant;
  small = is.small;
}

entries_more : (facts more : List Fact) (es : List Entry) → AreEntries facts es → AreEntries (facts ++ more) es
entries_more facts more es are = record {
  sorted = are.sorted;
  own = λ k d l. entry_more facts more (get_or es k d) (are.own k d l);
}

pub begun_more : (facts more : List Fact) (n : ℕ) (settled recent : List Entry) (b : Bool) → IsBegun facts n settled recent b → IsBegun (facts ++ more) n settled recent b
begun_more facts more n settled recent b begun = record {
  within = rw (length-append facts more) (omega (arith, begun.within));
  layers = record {
    settled = entries_more facts more settled begun.layers.settled;
    recent = entries_more facts more recent begun.layers.recent;
    kept = λ place l.
        let k = begun.layers.kept place l in
        let index = layers_index facts n settled recent begun.layers in
        let own = All-contains (IsEntry facts) (settled ++ recent) k.0 index.own k.1 in
        (k.0, k.1, rw (place_more facts more k.0.place own.within, place_more facts more place (omega (arith, begun.within, l))) k.2);
  };
  consistent = λ is p q lp lq.
      rw (place_more facts more p (omega (arith, begun.within, lp)), place_more facts more q (omega (arith, begun.within, lq))) (begun.consistent is p q lp lq);
}

-- the first facts, and more of them
pub begun_later : (facts : List Fact) (count later : ℕ) (n : ℕ) (settled recent : List Entry) (b : Bool) → count ≤ later → IsBegun (take count facts) n settled recent b →
    IsBegun (take later facts) n settled recent b
begun_later facts count later n settled recent b le begun =
    let first : take count (take later facts) ≡ take count facts = take-take-le count later facts le in
    let whole : take count facts ++ drop count (take later facts) ≡ take later facts = ap (λ xs. xs ++ drop count (take later facts)) (sym first) ∙ take-append-drop count (take later facts) in
    rw whole at (begun_more (take count facts) (drop count (take later facts)) n settled recent b begun)
  where
    take-take-le : (n m : ℕ) (xs : List Fact) → n ≤ m → take n (take m xs) ≡ take n xs
    take-take-le zero m xs l = refl
    take-take-le (suc n) zero xs l = absurd (omega (arith, l))
    take-take-le (suc n) (suc m) [] l = refl
    take-take-le (suc n) (suc m) (x ∷ xs) l = ap (λ ys. x ∷ ys) (take-take-le n m xs (omega (arith, l)))

-- ---- consistency

-- two places that contradict each other have keys that come to the middle one's, twice
pub contradiction_keys : (f g : Combination) (fk gk : ℕ) → IsKeyOf f.terms fk → IsKeyOf g.terms gk → IsContradiction f g → gk + fk ≡ 2 ^ 101
contradiction_keys f g fk gk kf kg s =
    let none : IsKeyOf [] (2 ^ 100) = record { value = omega (arith, ints); small = omega arith } in
    let keys = key_of_sum (constant_form (negsuc 0)) 1 f 1 g (2 ^ 100) fk gk none kf kg s in
    omega (arith, keys)

-- a key that is not this, where none is less from there on, is past it
pub past_key : (es : List Entry) (key at : ℕ) (e : Entry) → IsNonDecreasingBy (λ (e : Entry). e.key) es → at < length es → key ≤ (get_or es at e).key → ((get_or es at e).key ≡ key → ⊥) →
    (k : ℕ) (d : Entry) → at ≤ k → k < length es → (get_or es k d).key ≡ key → ⊥
past_key es key at e up within least other k d later l is =
    let same : (get_or es at d).key ≡ (get_or es at e).key = ap (λ (x : Entry). x.key) (get_or_default es at d e within) in
    other (omega (arith, same, up at k d later l, least, is))

-- the next place, which none of the entries contradicts
consistent_next : (facts : List Fact) (es : List Entry) (entry : Entry) → AreConsistent facts entry.place → IsIndex facts (suc entry.place) es →
    ((d : Entry) → Contains es d → IsContradiction (place_at facts entry.place) (place_at facts d.place) → ⊥) → AreConsistent facts (suc entry.place)
consistent_next facts es entry old index none p q lp lq s =
    let here = place_at facts entry.place in
    let beside : (r : ℕ) → r < suc entry.place → IsContradiction here (place_at facts r) → ⊥ = λ r l t.
    let k = index.kept r l in
    none k.0 k.1 (stronger_second (constant_form (negsuc 0)) 1 here 1 (place_at facts r) (place_at facts k.0.place) k.2 t) in
    elim (cases_eq p entry.place) [
      | inl e ↦ beside q lq (subst (λ (n : ℕ). IsContradiction (place_at facts n) (place_at facts q)) e s)
      | inr ne ↦ elim (cases_eq q entry.place) [
        | inl e ↦ beside p lp (swapped (constant_form (negsuc 0)) 1 (place_at facts p) 1 here (subst (λ (n : ℕ). IsContradiction (place_at facts p) (place_at facts n)) e s))
        | inr other ↦ old p q (omega (arith, lp, ne)) (omega (arith, lq, other)) s
      ]
    ]

pub begun_next : (facts : List Fact) (settled old new : List Entry) (entry : Entry) (b r : Bool) → IsBegun facts entry.place settled old b → IsEntry facts entry →
    IsJoined facts old new entry → (r ≡ true → b ≡ true) →
    (r ≡ true → (d : Entry) → Contains (settled ++ new) d → IsContradiction (place_at facts entry.place) (place_at facts d.place) → ⊥) → IsBegun facts (suc entry.place) settled new r
begun_next facts settled old new entry b r begun own joined before none =
    let layers = layers_joined facts settled old new entry begun.layers joined in
    record {
      within = omega (arith, own.within);
      layers = layers;
      consistent = λ is. consistent_next facts (settled ++ new) entry (begun.consistent (before is)) (layers_index facts (suc entry.place) settled new layers) (none is);
    }

-- in other lists
pub begun_other : (facts : List Fact) (n : ℕ) (settled recent settled' recent' : List Entry) (b : Bool) → IsBegun facts n settled recent b → AreLayers facts n settled' recent' →
    IsBegun facts n settled' recent' b
begun_other facts n settled recent settled' recent' b begun layers = record { within = begun.within; layers = layers; consistent = begun.consistent }

only_one : (n : ℕ) → Contains (factors []) n → n ≡ 1
only_one n (zero, within, is) = sym is
only_one n (suc k, within, is) = absurd (omega (arith, within))

less_yet : (x c : ℤ) → x ≤ℤ c → c ≤ℤ negsuc 0 → x ≤ℤ negsuc 0
less_yet x c h k = omega (arith, ints, h, k)

-- consistent facts show nothing below 0
none_negative : (facts : List Fact) (settled recent : List Entry) → IsBegun facts (suc (length facts)) settled recent true → (c : ℤ) → c ≤ℤ negsuc 0 → IsShown facts (constant_form c) → ⊥
none_negative facts settled recent begun c below s =
    let index = layers_index facts (suc (length facts)) settled recent begun.layers in
    let made = index_shows facts (settled ++ recent) index (constant_form c) tt s in
    let with_b = made.2 in
    let with = with_b.2 in
    let f = place_at facts with.0.place in
    let g = with.2.0 in
    let own = All-contains (IsEntry facts) (settled ++ recent) with.0 index.own with.1 in
    let at_g = place_of_side facts g with.2.1 in
    let one : IsSum (constant_form c) 1 f with_b.0 g = subst (λ (n : ℕ). IsSum (constant_form c) n f with_b.0 g) (only_one made.0 made.1) with.2.2 in
    let both : IsSum (constant_form c) 1 f 1 g = subst (λ (n : ℕ). IsSum (constant_form c) 1 f n g) (only_one with_b.0 with_b.1) one in
    let against : IsContradiction f g = record { terms = both.terms; constant = less_yet ((pos 1 *ℤ f.constant) +ℤ (pos 1 *ℤ g.constant)) c both.constant below } in
    begun.consistent refl with.0.place with.2.1.0 (omega (arith, own.within)) at_g.0 (subst (λ (x : Combination). IsContradiction f x) (sym at_g.1) against)

pub negative_not_shown : (facts : List Fact) (settled recent : List Entry) → IsBegun facts (suc (length facts)) settled recent true → (e : Combination) → IsNegative e → is_shown facts e ≡ false
negative_not_shown facts settled recent begun e negative = elim (cases_Bool (is_shown facts e)) [
  | inl shows ↦
      let s : IsShown facts (constant_form e.constant) = subst (λ (ts : List Term). IsShown facts (record { terms = ts; constant = e.constant })) negative.terms (shown_from_test facts e shows) in
      absurd (none_negative facts settled recent begun e.constant negative.constant s)
  | inr not ↦ not
]
