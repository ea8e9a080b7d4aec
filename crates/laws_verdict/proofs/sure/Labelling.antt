-- The greatest labelling of an alloca.
use Rattle.std.proofs.Common.{◌≡◌, ◌⊎◌, ◌∙◌, ℕ, zero, suc, ◌<◌, inl, inr, Bool, true, false, ◌&&◌, List, [], ◌∷◌, ◌++◌, length, Option, Some, None, refl, sym, ap, subst, get_or, arith}
use Rattle.std.specs.Prelude.{◌==◌, nat_lt}
use Rattle.std.specs.List.{Contains, list_any}
use Rattle.std.proofs.lemmas.Bool.{and_parts, and_from, or_cases, or_left, or_right, cases_eq, true≢false, false_from_ne_true, eqb-true, ltb-true, lt-ltb, eq-eqb}
use Rattle.std.proofs.lemmas.List.Elements.{All-contains, Contains-get_or, Contains-append_left, Contains-append_right, Contains-append_cases, Contains-push, Contains-push_cases}
use Rattle.std.proofs.lemmas.List.Folds.{list_any-append, list_any_at}
use Rattle.linear.specs.declared.form.RegisterId.{RegisterId}
use Rattle.cfg.specs.declared.structure.BlockEdges.{BlockEdges}
use Rattle.cfg.specs.declared.structure.Edge.{Edge}
use Rattle.cfg.specs.declared.structure.Way.{Way}
use Rattle.cfg.specs.declared.structure.Way.TheVariants.{Branch, Detached, Continued, Synced}
use Rattle.cfg.specs.Paths.{edges_of}
use Rattle.cfg.proofs.Searching.{edges_within}
use Rattle.definedness.specs.Sure.{Labels, IsHeld, IsAdded, IsLabelling}
use Rattle.laws_verdict.proofs.sure.Decided.{Decided, told, told_is, told_so, is_true, never, either, both, whenever, all_below, all_in, same_region}
use Rattle.laws_verdict.proofs.sure.Greatest.{Greatest, greatest}

-- ---- cells: a set and a block

abbrev pub Cell : Type 0
Cell = Option RegisterId × ℕ

abbrev is_same_set : Option RegisterId → Option RegisterId → Bool
is_same_set None None = true
is_same_set None (Some s) = false
is_same_set (Some r) None = false
is_same_set (Some r) (Some s) = r.0 == s.0

abbrev is_same : Cell → Cell → Bool
is_same c d = is_same_set c.0 d.0 && (c.1 == d.1)

same_set : (k j : Option RegisterId) → is_same_set k j ≡ true → k ≡ j
same_set None None e = refl
same_set None (Some s) e = absurd (true≢false (sym e))
same_set (Some r) None e = absurd (true≢false (sym e))
same_set (Some r) (Some s) e = let same = same_region r s (eqb-true r.0 s.0 e) in λ i. Some (same i)

set_self : (k : Option RegisterId) → is_same_set k k ≡ true
set_self None = refl
set_self (Some r) = eq-eqb r.0 r.0 refl

same : (c d : Cell) → is_same c d ≡ true → c ≡ d
same c d e =
    let parts = and_parts (is_same_set c.0 d.0) (c.1 == d.1) e in
    let k = same_set c.0 d.0 parts.0 in
    let b = eqb-true c.1 d.1 parts.1 in
    λ i. (k i, b i)

abbrev contains : List Cell → Cell → Bool
contains xs c = list_any (is_same c) xs

-- ---- those that matter: the sure set, and the due sets of the regions that are synced

row : Option RegisterId → ℕ → List Cell
row k zero = []
row k (suc n) = (k, n) ∷ row k n

row_has : (k : Option RegisterId) (n b : ℕ) → b < n → contains (row k n) (k, b) ≡ true
unfolding row
row_has k zero b l = absurd (omega (arith, l))
row_has k (suc n) b l = elim (cases_eq b n) [
  | inl e ↦ or_left (is_same (k, b) (k, n)) (contains (row k n) (k, b)) (and_from (is_same_set k k) (b == n) (set_self k) (eq-eqb b n e))
  | inr ne ↦ or_right (is_same (k, b) (k, n)) (contains (row k n) (k, b)) (row_has k n b (omega (arith, l, ne)))
]

cells : List RegisterId → ℕ → List Cell
cells [] n = row None n
cells (r ∷ rs) n = row (Some r) n ++ cells rs n

abbrev has_region : List RegisterId → RegisterId → Bool
has_region rs r = list_any (λ (s : RegisterId). r.0 == s.0) rs

sure_in : (rs : List RegisterId) (n b : ℕ) → b < n → contains (cells rs n) (None, b) ≡ true
unfolding cells
sure_in [] n b l = row_has None n b l
sure_in (r ∷ rs) n b l =
    list_any-append (is_same (None, b)) (row (Some r) n) (cells rs n) ∙ or_right (contains (row (Some r) n) (None, b)) (contains (cells rs n) (None, b)) (sure_in rs n b l)

due_in : (rs : List RegisterId) (r : RegisterId) (n b : ℕ) → has_region rs r ≡ true → b < n → contains (cells rs n) (Some r, b) ≡ true
unfolding cells
due_in [] r n b h l = absurd (true≢false (sym h))
due_in (s ∷ rs) r n b h l =
    list_any-append (is_same (Some r, b)) (row (Some s) n) (cells rs n) ∙ (elim (or_cases (r.0 == s.0) (has_region rs r) h) [
      | inl e ↦
          let one : r ≡ s = same_region r s (eqb-true r.0 s.0 e) in
          or_left (contains (row (Some s) n) (Some r, b)) (contains (cells rs n) (Some r, b)) (subst (λ (x : RegisterId). contains (row (Some x) n) (Some r, b) ≡ true) one (row_has (Some r) n b l))
      | inr later ↦ or_right (contains (row (Some s) n) (Some r, b)) (contains (cells rs n) (Some r, b)) (due_in rs r n b later l)
    ])

-- ---- the regions that are synced

region_of : Way → List RegisterId
region_of Branch = []
region_of Detached = []
region_of Continued = []
region_of (Synced its) = its ∷ []

along_edges : List Edge → List RegisterId
along_edges [] = []
along_edges (e ∷ es) = region_of e.way ++ along_edges es

regions_in : List BlockEdges → List RegisterId
regions_in [] = []
regions_in (b ∷ bs) = along_edges b.edges ++ regions_in bs

along_has : (es : List Edge) (e : Edge) (its : RegisterId) → Contains es e → e.way ≡ Synced its → Contains (along_edges es) its
unfolding along_edges region_of
along_has [] e its c is = absurd (omega (arith, c.1))
along_has (x ∷ es) e its c is = elim (Contains-append_cases (x ∷ []) es e c) [
  | inl first ↦ elim (Contains-push_cases [] x e first) [
    | inl none ↦ absurd (omega (arith, none.1))
    | inr one ↦
        let here : x.way ≡ Synced its = ap (λ (y : Edge). y.way) one ∙ is in
        Contains-append_left (region_of x.way) (along_edges es) its (subst (λ (w : Way). Contains (region_of w) its) (sym here) (Contains-push [] its))
  ]
  | inr later ↦ Contains-append_right (region_of x.way) (along_edges es) its (along_has es e its later is)
]

synced_in : (blocks : List BlockEdges) (a : ℕ) (e : Edge) (its : RegisterId) → Contains (edges_of blocks a) e → e.way ≡ Synced its → Contains (regions_in blocks) its
unfolding regions_in
synced_in [] a e its c is = absurd (omega (arith, c.1))
synced_in (b ∷ bs) zero e its c is = Contains-append_left (along_edges b.edges) (regions_in bs) its (along_has b.edges e its c is)
synced_in (b ∷ bs) (suc a) e its c is = Contains-append_right (along_edges b.edges) (regions_in bs) its (synced_in bs a e its c is)

region_told : (rs : List RegisterId) (r : RegisterId) → Contains rs r → has_region rs r ≡ true
region_told rs r c = list_any_at (λ (s : RegisterId). r.0 == s.0) rs c.0 r c.1 (ap (λ (s : RegisterId). r.0 == s.0) c.2 ∙ eq-eqb r.0 r.0 refl)

-- ---- what edges give

module _ (S : ℕ → Type 0) (F : ℕ → RegisterId → Type 0) (E : ℕ → ℕ → Type 0) (blocks : List BlockEdges) (within : (d e : ℕ) → E d e → e < length blocks) (stored : (b : ℕ) → Decided (S b)) (forks : (b : ℕ) (r : RegisterId) → Decided (F b r)) (ends : (d e : ℕ) → Decided (E d e)) where
  abbrev labels : (Cell → Bool) → Labels
  labels l k b = l (k, b)

  abbrev Passes : Labels → Option RegisterId → ℕ → Way → Type 0
  Passes l k a way = IsHeld S l k a ⊎ IsAdded S F E l k a way

  -- no edge to the block gives less
  abbrev IsGiven : Labels → Option RegisterId → ℕ → Type 0
  IsGiven l k b = (b ≡ 0 → ⊥) × ((a : ℕ) → a < length blocks → (e : Edge) → Contains (edges_of blocks a) e → e.to.0 ≡ b → Passes l k a e.way)

  held : (l : Labels) (k : Option RegisterId) (a : ℕ) → Decided (IsHeld S l k a)
  held l k a = either (is_true (l None a)) (either (is_true (l k a)) (stored a))

  joined : (l : Labels) (a : ℕ) → Decided ((e : ℕ) → e < length blocks → E a e → IsHeld S l None e)
  joined l a = all_below (λ e. E a e → IsHeld S l None e) (λ e. whenever (ends a e) (held l None e)) (length blocks)

  added : (l : Labels) (k : Option RegisterId) (a : ℕ) (way : Way) → Decided (IsAdded S F E l k a way)
  added l k a Branch = inr (λ h. h)
  added l k a Detached = inr (λ h. h)
  added l None a Continued = inr (λ h. let e = h.1 in cc)
  added l (Some r) a Continued = elim (both (forks a r) (joined l a)) [
    | inl h ↦ inl (r, refl, h.0, λ e at. h.1 e (within a e at) at)
    | inr off ↦ inr (λ h. let e = h.1 in let one : h.0 ≡ r = cc in off (subst (F a) one h.2, λ e w at. h.3 e at))
  ]
  added l k a (Synced its) = held l (Some its) a

  given : (l : Labels) (k : Option RegisterId) (b : ℕ) → Decided (IsGiven l k b)
  given l k b = both (never (cases_eq b 0))
      (all_below (λ a. (e : Edge) → Contains (edges_of blocks a) e → e.to.0 ≡ b → Passes l k a e.way)
      (λ a. all_in (λ (e : Edge). e.to.0 ≡ b → Passes l k a e.way) (λ e. whenever (cases_eq e.to.0 b) (either (held l k a) (added l k a e.way))) (edges_of blocks a))
      (length blocks))

  -- a labelling passes on no less than one below it
  module _ (l m : Labels) where
    held_more : (k : Option RegisterId) (a : ℕ) → (l None a ≡ true → m None a ≡ true) → (l k a ≡ true → m k a ≡ true) → IsHeld S l k a → IsHeld S m k a
    held_more k a sure due (inl h) = inl (sure h)
    held_more k a sure due (inr (inl h)) = inr (inl (due h))
    held_more k a sure due (inr (inr h)) = inr (inr h)

    passes_more : (k : Option RegisterId) (a : ℕ) (way : Way) → a < length blocks → ((e : ℕ) → e < length blocks → l None e ≡ true → m None e ≡ true) → (l k a ≡ true → m k a ≡ true) → ((its : RegisterId) → way ≡ Synced its → l (Some its) a ≡ true → m (Some its) a ≡ true) →
        Passes l k a way → Passes m k a way
    passes_more k a way w sure due over (inl h) = inl (held_more k a (sure a w) due h)
    passes_more k a Branch w sure due over (inr h) = absurd h
    passes_more k a Detached w sure due over (inr h) = absurd h
    passes_more k a Continued w sure due over (inr h) = inr (h.0, h.1, h.2, λ e at. let x = within a e at in held_more None e (sure e x) (sure e x) (h.3 e at))
    passes_more k a (Synced its) w sure due over (inr h) = inr (held_more (Some its) a (sure a w) (over its refl) h)

  gives : (Cell → Bool) → Cell → Bool
  gives l c = told (given (labels l) c.0 c.1)

  more : (l m : Cell → Bool) → ((c : Cell) → l c ≡ true → m c ≡ true) → (c : Cell) → gives l c ≡ true → gives m c ≡ true
  unfolding gives
  more l m above c h =
      let is : IsGiven (labels l) c.0 c.1 = told_is (given (labels l) c.0 c.1) h in
      told_so (given (labels m) c.0 c.1)
      (is.0, λ a w e at to. passes_more (labels l) (labels m) c.0 a e.way w (λ b _. above (None, b)) (above (c.0, a)) (λ its _. above (Some its, a)) (is.1 a w e at to))

  all : List Cell
  all = cells (regions_in blocks) (length blocks)

  best : Greatest Cell is_same same gives more all
  best = greatest Cell is_same same gives more (length all) all (omega arith)

  -- ---- another labelling, as far as it matters

  abbrev is_set_in : Option RegisterId → Bool
  is_set_in None = true
  is_set_in (Some r) = has_region (regions_in blocks) r

  abbrev inside : Labels → Cell → Bool
  inside l c = l c.0 c.1 && (is_set_in c.0 && nat_lt c.1 (length blocks))

  inside_low : (l : Labels) (c : Cell) → inside l c ≡ true → contains all c ≡ true
  unfolding all
  inside_low l (None, b) h =
      let parts = and_parts (l None b) (true && nat_lt b (length blocks)) h in
      sure_in (regions_in blocks) (length blocks) b (ltb-true b (length blocks) parts.1)
  inside_low l (Some r, b) h =
      let parts = and_parts (l (Some r) b) (has_region (regions_in blocks) r && nat_lt b (length blocks)) h in
      let rest = and_parts (has_region (regions_in blocks) r) (nat_lt b (length blocks)) parts.1 in
      due_in (regions_in blocks) r (length blocks) b rest.0 (ltb-true b (length blocks) rest.1)

  inside_from : (l : Labels) (k : Option RegisterId) (b : ℕ) → is_set_in k ≡ true → b < length blocks → l k b ≡ true → inside l (k, b) ≡ true
  inside_from l k b known w h = and_from (l k b) (is_set_in k && nat_lt b (length blocks)) h (and_from (is_set_in k) (nat_lt b (length blocks)) known (lt-ltb b (length blocks) w))

  inside_given : (l : Labels) → IsLabelling S F E blocks l → (c : Cell) → inside l c ≡ true → gives (inside l) c ≡ true
  unfolding gives
  inside_given l is c h =
      let parts = and_parts (l c.0 c.1) (is_set_in c.0 && nat_lt c.1 (length blocks)) h in
      let known = (and_parts (is_set_in c.0) (nat_lt c.1 (length blocks)) parts.1).0 in
      told_so (given (labels (inside l)) c.0 c.1) (
        λ e. true≢false (sym parts.0 ∙ ap (l c.0) e ∙ is.entry c.0),
        λ a w e at to.
            passes_more l (labels (inside l)) c.0 a e.way w (λ b x. inside_from l None b refl x) (inside_from l c.0 a known w)
            (λ its synced. inside_from l (Some its) a (region_told (regions_in blocks) its (synced_in blocks a e its at synced)) w)
            (All-contains (λ (x : Edge). (q : Option RegisterId) → l q x.to.0 ≡ true → Passes l q a x.way) (edges_of blocks a) e (is.edges a) at c.0 (ap (l c.0) to ∙ parts.0)),
      )

  -- ---- the greatest labelling

  pub record Best : Type 0 where
    pub sets : Labels
    pub is : IsLabelling S F E blocks sets
    pub above : (l : Labels) → IsLabelling S F E blocks l → (b : ℕ) → b < length blocks → l None b ≡ true → sets None b ≡ true

  pub best_labelling : Best
  unfolding gives
  best_labelling = record {
    sets = λ k b. contains best.keep (k, b);
    is = record {
      entry = λ k. false_from_ne_true (contains best.keep (k, 0)) (λ h. (told_is (given (labels (contains best.keep)) k 0) (best.steady (k, 0) h)).0 refl);
      edges = λ a i d w k h.
          let e : Edge = get_or (edges_of blocks a) i d in
          let at : Contains (edges_of blocks a) e = Contains-get_or (edges_of blocks a) i d w in
          (told_is (given (labels (contains best.keep)) k e.to.0) (best.steady (k, e.to.0) h)).1 a (edges_within blocks a at) e at refl;
    };
    above = λ l is b w h. best.above (inside l) (inside_given l is) (inside_low l) (None, b) (inside_from l None b refl w h);
  }
