-- Entries that are merged with fresh ones.
use Rattle.std.proofs.Common.{◌≡◌, ◌∙◌, ℕ, suc, negsuc, ◌<◌, ◌≤◌, ◌+◌, ◌-◌, Bool, true, List, [], ◌∷◌, ◌++◌, length, get_or, take, drop, inl, inr, sym, refl, subst, arith}
use Rattle.std.specs.List.{All, Contains}
use Rattle.std.specs.List.Sorted.{IsNonDecreasingBy, IsPermutation}
use Rattle.std.proofs.Math.ListN.{get_or-append}
use Rattle.std.proofs.lemmas.Bool.{cases_lt, cases_eq}
use Rattle.std.proofs.lemmas.List.{length-append, take-append-drop, get_or-append_right, get_or-append-add, get_or_default}
use Rattle.std.proofs.lemmas.List.Elements.{All-append, All-cons, All-contains, All-more, Contains-append_left, Contains-append_right, Contains-append_cases, Contains-get_or}
use Rattle.std.proofs.lemmas.List.Sorted.{IsNonDecreasingBy-short, All-permutation, Contains-permutation}
use Rattle.linear.specs.declared.form.Fact.{Fact}
use Rattle.linear.specs.Terms.{constant_form}
use Rattle.linear_shown.specs.declared.index.Entry.{Entry}
use Rattle.linear_shown.specs.Index.{place_at, IsEntry, IsIndexed, IsBegun, IsContradiction, AreConsistent, AreEntries, IsJoined, HasPlaces, IsMerging}
use Rattle.linear_shown.proofs.Left.{swapped}
use Rattle.linear_shown.proofs.Slices.{from_front, from_back, in_either, are_taken, are_left}
use Rattle.linear_shown.proofs.Indexing.{strong_itself, stronger_second, in_recent, kept_beside}

-- one sorted list before another whose elements are no less
sorted_append : (xs ys : List Entry) → IsNonDecreasingBy (λ (e : Entry). e.key) xs → IsNonDecreasingBy (λ (e : Entry). e.key) ys →
    ((x y : Entry) → Contains xs x → Contains ys y → x.key ≤ y.key) → IsNonDecreasingBy (λ (e : Entry). e.key) (xs ++ ys)
sorted_append xs ys up_x up_y below i j d le l = elim (cases_lt j (length xs)) [
  | inl early ↦ rw (get_or-append xs ys d i (omega (arith, early, le)), get_or-append xs ys d j early) (up_x i j d le early)
  | inr late ↦
      let within : j - length xs < length ys = omega (arith, late, l, length-append xs ys) in
      elim (cases_lt i (length xs)) [
        | inl front ↦
            rw (get_or-append xs ys d i front, get_or-append_right xs ys (length xs) j d refl late)
            (below (get_or xs i d) (get_or ys (j - length xs) d) (Contains-get_or xs i d front) (Contains-get_or ys (j - length xs) d within))
        | inr back ↦ rw (get_or-append_right xs ys (length xs) i d refl back, get_or-append_right xs ys (length xs) j d refl late) (up_y (i - length xs) (j - length xs) d (omega (arith, le, back)) within)
      ]
]

ordered : (ys zs : List Entry) → IsNonDecreasingBy (λ (e : Entry). e.key) (ys ++ zs) → (m e : Entry) → Contains ys m → Contains zs e → m.key ≤ e.key
ordered ys zs up m e (i, li, at_i) (j, lj, at_j) =
    let first : get_or (ys ++ zs) i m ≡ m = get_or-append ys zs m i li ∙ at_i in
    let second : get_or (ys ++ zs) (length ys + j) m ≡ e = get_or-append-add ys zs j m ∙ get_or_default zs j m e lj ∙ at_j in
    let rises = up i (length ys + j) m (omega (arith, li)) (omega (arith, lj, length-append ys zs)) in
    rw (first, second) at rises

-- what stands in front comes before the rest
front_below : (k : ℕ) (xs : List Entry) → IsNonDecreasingBy (λ (e : Entry). e.key) xs → (m e : Entry) → Contains (take k xs) m → Contains (drop k xs) e → m.key ≤ e.key
front_below k xs up m e m_in e_in =
    ordered (take k xs) (drop k xs) (subst (λ (ys : List Entry). IsNonDecreasingBy (λ (e : Entry). e.key) ys) (sym (take-append-drop k xs)) up) m e m_in e_in

are_append : (facts : List Fact) (xs ys : List Entry) → AreEntries facts xs → AreEntries facts ys → ((x y : Entry) → Contains xs x → Contains ys y → x.key ≤ y.key) → AreEntries facts (xs ++ ys)
are_append facts xs ys p q below = record {
  sorted = sorted_append xs ys p.sorted q.sorted below;
  own = All-append (IsEntry facts) xs ys p.own q.own;
}

in_longer : (facts : List Fact) (xs ys : List Entry) (place : ℕ) → IsIndexed facts xs place → IsIndexed facts (xs ++ ys) place
in_longer facts xs ys place (e, c, strong) = (e, Contains-append_left xs ys e c, strong)

itself : (facts : List Fact) (es : List Entry) (e : Entry) → Contains es e → IsIndexed facts es e.place
itself facts es e c = (e, c, strong_itself (place_at facts e.place))

-- ---- the merge

pub merging_begins : (facts : List Fact) (entries : List Entry) → AreEntries facts entries → IsMerging facts entries [] entries []
merging_begins facts entries are = record {
  waiting = are;
  in_order = record { sorted = IsNonDecreasingBy-short (λ (e : Entry). e.key) [] (omega arith); own = λ k d l. absurd (omega (arith, l)) };
  below = λ m e (k, l, is) e_in. absurd (omega (arith, l));
  kept = λ e c. inl c;
  entered = λ k d l. absurd (omega (arith, l));
}

-- the first of the rest go over
pub merging_poured : (facts : List Fact) (entries fresh rest merged : List Entry) (k : ℕ) → IsMerging facts entries fresh rest merged → IsMerging facts entries fresh (drop k rest) (merged ++ take k rest)
merging_poured facts entries fresh rest merged k m = record {
  waiting = are_left facts k rest m.waiting;
  in_order = are_append facts merged (take k rest) m.in_order (are_taken facts k rest m.waiting) (λ x y x_in y_in. m.below x y x_in (from_front k rest y y_in));
  below = λ x e x_in e_in. elim (Contains-append_cases merged (take k rest) x x_in) [
    | inl before ↦ m.below x e before (from_back k rest e e_in)
    | inr here ↦ front_below k rest m.waiting.sorted x e here e_in
  ];
  kept = λ e c. elim (m.kept e c) [
    | inl waits ↦ elim (in_either k rest e waits) [
      | inl front ↦ inr (itself facts (merged ++ take k rest) e (Contains-append_right merged (take k rest) e front))
      | inr back ↦ inl back
    ]
    | inr is ↦ inr (in_longer facts merged (take k rest) e.place is)
  ];
  entered = λ i d l. in_longer facts merged (take k rest) (get_or fresh i d).place (m.entered i d l);
}

-- a fresh one is entered, before all of the rest
pub merging_entered : (facts : List Fact) (entries fresh rest merged new : List Entry) (i : ℕ) (d : Entry) → i < length fresh → IsMerging facts entries (take i fresh) rest merged →
    IsJoined facts merged new (get_or fresh i d) → ((e : Entry) → Contains rest e → (get_or fresh i d).key ≤ e.key) → IsMerging facts entries (take (i + 1) fresh) rest new
merging_entered facts entries fresh rest merged new i d within m joined before = record {
  waiting = m.waiting;
  in_order = joined.entries;
  below = λ x e x_in e_in. elim (joined.within x x_in) [
    | inl was ↦ m.below x e was e_in
    | inr is ↦ rw is (before e e_in)
  ];
  kept = λ e c. elim (m.kept e c) [
    | inl waits ↦ inl waits
    | inr is ↦ inr (joined.kept e.place is)
  ];
  entered = All-more (λ (e : Entry). IsIndexed facts new e.place) fresh i d within (λ k x l. joined.kept (get_or (take i fresh) k x).place (m.entered k x l)) joined.entered;
}

-- all of the rest goes over
pub all_merged : (facts : List Fact) (entries fresh rest merged : List Entry) → IsMerging facts entries fresh rest merged → AreEntries facts (merged ++ rest)
all_merged facts entries fresh rest merged m = are_append facts merged rest m.in_order m.waiting m.below

pub all_kept : (facts : List Fact) (entries fresh rest merged : List Entry) → IsMerging facts entries fresh rest merged → (e : Entry) → Contains entries e → IsIndexed facts (merged ++ rest) e.place
all_kept facts entries fresh rest merged m e c = elim (m.kept e c) [
  | inl waits ↦ itself facts (merged ++ rest) e (Contains-append_right merged rest e waits)
  | inr is ↦ in_longer facts merged rest e.place is
]

pub all_entered : (facts : List Fact) (entries fresh rest merged : List Entry) → IsMerging facts entries fresh rest merged → All (λ (e : Entry). IsIndexed facts (merged ++ rest) e.place) fresh
all_entered facts entries fresh rest merged m = λ i d l. in_longer facts merged rest (get_or fresh i d).place (m.entered i d l)

-- ---- many places at once

consistent_many : (facts : List Fact) (from upto : ℕ) (es fresh : List Entry) → AreConsistent facts from → HasPlaces facts from upto fresh →
    ((place : ℕ) → place < upto → IsIndexed facts es place) →
    ((e d : Entry) → Contains fresh e → Contains es d → IsContradiction (place_at facts e.place) (place_at facts d.place) → ⊥) → AreConsistent facts upto
consistent_many facts from upto es fresh old has indexed none p q lp lq s =
    let beside : (p q : ℕ) → from ≤ p → p < upto → q < upto → IsContradiction (place_at facts p) (place_at facts q) → ⊥ = λ p q le lp lq t.
    let f = has.each p le lp in
    let k = indexed q lq in
    none f.0 k.0 f.1 k.1
    (rw f.2 (stronger_second (constant_form (negsuc 0)) 1 (place_at facts p) 1 (place_at facts q) (place_at facts k.0.place) k.2 t)) in
    elim (cases_lt p from) [
      | inl p_old ↦ elim (cases_lt q from) [
        | inl q_old ↦ old p q p_old q_old s
        | inr q_new ↦ beside q p q_new lq lp (swapped (constant_form (negsuc 0)) 1 (place_at facts p) 1 (place_at facts q) s)
      ]
      | inr p_new ↦ beside p q p_new lp lq s
    ]

pub begun_many : (facts : List Fact) (from : ℕ) (settled old fresh new : List Entry) (b r : Bool) → IsBegun facts from settled old b → HasPlaces facts from (suc (length facts)) fresh →
    AreEntries facts new → ((e : Entry) → Contains old e → IsIndexed facts new e.place) → All (λ (e : Entry). IsIndexed facts new e.place) fresh → (r ≡ true → b ≡ true) →
    (r ≡ true → (e d : Entry) → Contains fresh e → Contains (settled ++ new) d → IsContradiction (place_at facts e.place) (place_at facts d.place) → ⊥) →
    IsBegun facts (suc (length facts)) settled new r
begun_many facts from settled old fresh new b r begun has are kept entered before none =
    let indexed : (place : ℕ) → place < suc (length facts) → IsIndexed facts (settled ++ new) place = λ place l. elim (cases_lt place from) [
      | inl early ↦ kept_beside facts settled old new kept place (begun.layers.kept place early)
      | inr late ↦
          let own = has.each place late l in
          in_recent facts settled new place (subst (λ (n : ℕ). IsIndexed facts new n) own.2 (All-contains (λ (e : Entry). IsIndexed facts new e.place) fresh own.0 entered own.1))
    ] in
    record {
      within = omega arith;
      layers = record { settled = begun.layers.settled; recent = are; kept = indexed };
      consistent = λ is. consistent_many facts from (suc (length facts)) (settled ++ new) fresh (begun.consistent (before is)) has indexed (none is);
    }

-- places in another order
pub places_permuted : (facts : List Fact) (from upto : ℕ) (xs ys : List Entry) → IsPermutation xs ys → HasPlaces facts from upto xs → HasPlaces facts from upto ys
places_permuted facts from upto xs ys same has = record {
  own = All-permutation (IsEntry facts) xs ys same has.own;
  each = λ place le l. let e = has.each place le l in (e.0, Contains-permutation xs ys e.0 same e.1, e.2);
}

pub places_none : (facts : List Fact) (from : ℕ) → HasPlaces facts from from []
places_none facts from = record {
  own = λ k d l. absurd (omega (arith, l));
  each = λ place le l. absurd (omega (arith, le, l));
}

pub places_next : (facts : List Fact) (from upto : ℕ) (es : List Entry) (entry : Entry) → HasPlaces facts from upto es → IsEntry facts entry → entry.place ≡ upto → HasPlaces facts from (upto + 1) (es ++ entry ∷ [])
places_next facts from upto es entry has is at = record {
  own = All-append (IsEntry facts) es (entry ∷ []) has.own (All-cons (IsEntry facts) entry [] is (λ k d l. absurd (omega (arith, l))));
  each = λ place le l. elim (cases_eq place upto) [
    | inl same ↦ (entry, Contains-append_right es (entry ∷ []) entry (0, omega arith, refl), at ∙ sym same)
    | inr other ↦ let e = has.each place le (omega (arith, l, other)) in (e.0, Contains-append_left es (entry ∷ []) e.0 e.1, e.2)
  ];
}

pub places_fewer : (facts : List Fact) (from upto fewer : ℕ) (es : List Entry) → fewer ≤ upto → HasPlaces facts from upto es → HasPlaces facts from fewer es
places_fewer facts from upto fewer es le has = record {
  own = has.own;
  each = λ place first l. has.each place first (omega (arith, l, le));
}
