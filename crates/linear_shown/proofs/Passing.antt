-- Two entries whose keys come to a total, and what is passed over.
use Rattle.std.proofs.Common.{◌≡◌, ◌∙◌, ℕ, suc, ◌<◌, ◌≤◌, ◌+◌, ◌-◌, ◌*◌, ◌/◌, ◌%◌, ◌^◌, ℤ, pos, ◌+ℤ◌, ◌*ℤ◌, ◌≤ℤ◌, List, ◌++◌, length, take, drop, get_or, inl, inr, sym, ap, subst, arith}
use Rattle.std.specs.List.{Contains}
use Rattle.std.specs.List.Sorted.{IsNonDecreasingBy}
use Rattle.std.proofs.Math.Nat.{mul_comm, mul-le-mul_left, mul-div_cancel_left, mul-mod_left, div-add-mod, div-le_of_le-mul}
use Rattle.std.proofs.lemmas.Bool.{cases_lt, cases_eq}
use Rattle.std.proofs.lemmas.List.{get_or_default}
use Rattle.std.proofs.lemmas.Nat.{le-div}
use Rattle.std.proofs.lemmas.List.Elements.{All-contains, Contains-append_cases}
use Rattle.linear.specs.declared.form.Fact.{Fact}
use Rattle.linear.specs.Terms.{Combination}
use Rattle.linear_shown.specs.declared.index.Entry.{Entry}
use Rattle.linear_shown.specs.Shown.{IsSum}
use Rattle.linear_shown.specs.Index.{IsKeyOf, place_at, IsEntry, IsIndex, AreEntries, AreInOrder, IsMadeUpWith, IsMadeUpBetween, Balance, Meet, Serve, AreLeft}
use Rattle.linear_shown.proofs.Left.{swapped}
use Rattle.linear_shown.proofs.Slices.{in_front, in_back}
use Rattle.linear_shown.proofs.Indexing.{key_of_sum, kept_side, side_of_entry, stronger_second}

-- entries of facts are in order as a pass wants them
pub in_order : (facts : List Fact) (es : List Entry) → AreEntries facts es → AreInOrder es
in_order facts es are = record {
  sorted = are.sorted;
  keys = λ k d l. (are.own k d l).key.small;
  constants = λ k d l. (are.own k d l).small;
}

-- up to an entry that is too small
pub below_up_to : (es : List Entry) (a beside total last : ℕ) (e : Entry) → IsNonDecreasingBy (λ (e : Entry). e.key) es → last < length es → a * (get_or es last e).key + beside < total →
    (k : ℕ) (d : Entry) → k ≤ last → a * (get_or es k d).key + beside < total
below_up_to es a beside total last e up within less k d le =
    let same : get_or es last d ≡ get_or es last e = get_or_default es last d e within in
    let rises : (get_or es k d).key ≤ (get_or es last e).key = rw (← same) (up k last d le within) in
    omega (arith, less, mul-le-mul_left a rises)

-- from an entry on that is too great
pub above_from : (es : List Entry) (b beside total at : ℕ) (e : Entry) → IsNonDecreasingBy (λ (e : Entry). e.key) es → at < length es → total < b * (get_or es at e).key + beside →
    (k : ℕ) (d : Entry) → at ≤ k → k < length es → total < b * (get_or es k d).key + beside
above_from es b beside total at e up within more k d le l =
    let same : get_or es at d ≡ get_or es at e = get_or_default es at d e within in
    let rises : (get_or es at e).key ≤ (get_or es k d).key = rw (← same) (up at k d le l) in
    omega (arith, more, mul-le-mul_left b rises)

-- a greater key, and those after it, a times
pub times_greater : (es : List Entry) (a at k : ℕ) (e d : Entry) → IsNonDecreasingBy (λ (e : Entry). e.key) es → 0 < a → at < length es → at + 1 ≤ k → k < length es →
    (get_or es at e).key < (get_or es (at + 1) e).key → a * (get_or es at d).key < a * (get_or es k d).key
times_greater es a at k e d up some within later l less =
    let here : get_or es at e ≡ get_or es at d = get_or_default es at e d within in
    let next : get_or es (at + 1) e ≡ get_or es (at + 1) d = get_or_default es (at + 1) e d (omega (arith, later, l)) in
    let rises : (get_or es at d).key + 1 ≤ (get_or es k d).key = omega (arith, rw (here, next) at less, up (at + 1) k d later l) in
    omega (arith, some, mul-le-mul_left a rises)

-- first ones that are too small beside the last of the second ones meet none of these
pub passed_below : (xs ys : List Entry) (a b total first count next i k : ℕ) (e : Entry) (y : ℕ) → IsNonDecreasingBy (λ (e : Entry). e.key) ys → 0 < count → count ≤ length ys →
    y ≡ b * (get_or ys (count - 1) e).key → ((k : ℕ) (d : Entry) → first ≤ k → k < next → a * (get_or xs k d).key + y < total) →
    first ≤ i → k < count → Meet xs ys a b total i k → next ≤ i
passed_below xs ys a b total first count next i k e y up some within ey below from before meet =
    elim (cases_lt i next) [
      | inl early ↦
          let rises = mul-le-mul_left b (up k (count - 1) e (omega (arith, before)) (omega (arith, some, within))) in
          absurd (omega (arith, below i e from early, ey, rises, meet e))
      | inr late ↦ late
    ]

-- second ones that are too great beside the first of the first ones meet none of these
pub passed_above : (xs ys : List Entry) (a b total first count next i k : ℕ) (d e : Entry) (x y : ℕ) → IsNonDecreasingBy (λ (e : Entry). e.key) xs → i < length xs → count ≤ length ys →
    x ≡ a * (get_or xs first d).key → y ≡ b * (get_or ys (count - 1) e).key → total < x + y →
    ((k : ℕ) (d : Entry) → next ≤ k → k < count - 1 → total < b * (get_or ys k d).key + x) →
    first ≤ i → k < count → Meet xs ys a b total i k → k < next
passed_above xs ys a b total first count next i k d e x y up within_i within ex ey more above from before meet =
    let rises = mul-le-mul_left a (up first i d from within_i) in
    elim (cases_lt k next) [
      | inl early ↦ early
      | inr late ↦ elim (cases_eq k (count - 1)) [
        | inl at_last ↦
            let same : get_or ys (count - 1) e ≡ get_or ys (count - 1) d = get_or_default ys (count - 1) e d (omega (arith, before, within)) in
            let at_y : b * (get_or ys k d).key ≡ y = ap (λ (n : ℕ). b * (get_or ys n d).key) at_last ∙ ap (λ (x : Entry). b * x.key) (sym same) ∙ sym ey in
            absurd (omega (arith, at_y, ex, more, rises, meet d))
        | inr other ↦ absurd (omega (arith, above k d late (omega (arith, before, other)), ex, rises, meet d))
      ]
    ]

-- before an entry of another key than a later one none has the later one's
pub run_ends : (es : List Entry) (count upto k : ℕ) (x y d : Entry) → IsNonDecreasingBy (λ (e : Entry). e.key) es → count ≤ upto → upto ≤ length es →
    ((get_or es (count - 1) x).key ≡ (get_or es (upto - 1) y).key → ⊥) → k < count → (get_or es k d).key ≡ (get_or es (upto - 1) d).key → ⊥
run_ends es count upto k x y d up le within other early same =
    let second : get_or es (count - 1) x ≡ get_or es (count - 1) d = get_or_default es (count - 1) x d (omega (arith, early, le, within)) in
    let last : get_or es (upto - 1) y ≡ get_or es (upto - 1) d = get_or_default es (upto - 1) y d (omega (arith, early, le, within)) in
    let one = up k (count - 1) d (omega (arith, early)) (omega (arith, early, le, within)) in
    let two = up (count - 1) (upto - 1) d (omega (arith, le)) (omega (arith, early, le, within)) in
    other (rw (second, last) (omega (arith, one, two, same)))

-- a sum of two entries' facts, whatever stands past the end
pub at_entries : (facts : List Fact) (e : Combination) (xs ys : List Entry) (a b i k : ℕ) (x y z w : Entry) → i < length xs → k < length ys →
    IsSum e a (place_at facts (get_or xs i x).place) b (place_at facts (get_or ys k y).place) → IsSum e a (place_at facts (get_or xs i z).place) b (place_at facts (get_or ys k w).place)
at_entries facts e xs ys a b i k x y z w li lk sum = rw (get_or_default xs i z x li, get_or_default ys k w y lk) sum

pub they_meet : (xs ys : List Entry) (a b total i k : ℕ) (d e : Entry) (x y : ℕ) → i < length xs → k < length ys → x ≡ a * (get_or xs i d).key → y ≡ b * (get_or ys k e).key → x + y ≡ total →
    Meet xs ys a b total i k
they_meet xs ys a b total i k d e x y li lk ex ey both = λ f. rw (get_or_default xs i f d li, get_or_default ys k f e lk) (omega (arith, ex, ey, both))

cancel : (b x y : ℕ) → 0 < b → b * x ≡ b * y → x ≡ y
cancel b x y some same = sym (mul-div_cancel_left x some) ∙ ap (λ (n : ℕ). n / b) same ∙ mul-div_cancel_left y some

-- before an entry of a greater key than the one before it all keys are less
pub all_before : (es : List Entry) (count k : ℕ) (x d : Entry) → IsNonDecreasingBy (λ (e : Entry). e.key) es → count ≤ length es → 1 < count →
    (get_or es (count - 2) x).key < (get_or es (count - 1) x).key → k < count - 1 → (get_or es k d).key < (get_or es (count - 1) d).key
all_before es count k x d up within two less early =
    let one : get_or es (count - 2) x ≡ get_or es (count - 2) d = get_or_default es (count - 2) x d (omega (arith, two, within)) in
    let last : get_or es (count - 1) x ≡ get_or es (count - 1) d = get_or_default es (count - 1) x d (omega (arith, two, within)) in
    let below : (get_or es (count - 2) d).key < (get_or es (count - 1) d).key = rw (one, last) at less in
    omega (arith, below, up k (count - 2) d (omega (arith, early)) (omega (arith, two, within)))

-- two that meet and do not serve, where the second one is alone of its key: none of those that are passed over then serves
pub passed_alone : (xs ys : List Entry) (u v total a b : ℕ) (most : ℤ) (first count rest i k : ℕ) (x y : Entry) → 0 < v → 0 < count → count ≤ length ys → first < length xs →
    Meet xs ys u v total first (count - 1) →
    (((pos a *ℤ (get_or xs first x).constant) +ℤ (pos b *ℤ (get_or ys (count - 1) y).constant)) ≤ℤ most → ⊥) →
    ((k : ℕ) (d : Entry) → k < count - 1 → (get_or ys k d).key < (get_or ys (count - 1) d).key) →
    count ≤ rest + 1 → ((k : ℕ) (d : Entry) → rest < count → first < k → k < length xs → u * (get_or xs first d).key < u * (get_or xs k d).key) →
    first ≤ i → i < length xs → k < count → Meet xs ys u v total i k → Serve xs ys a b most i k → (first + 1 ≤ i) × (k < rest)
passed_alone xs ys u v total a b most first count rest i k x y positive some within lf met great alone all greater from li before meet serve =
    elim (cases_eq i first) [
      | inl same ↦
          let keys : u * (get_or xs i x).key ≡ u * (get_or xs first x).key = ap (λ (n : ℕ). u * (get_or xs n x).key) same in
          elim (cases_lt k (count - 1)) [
            | inl early ↦
                let seconds : (get_or ys k x).key ≡ (get_or ys (count - 1) x).key = cancel v _ _ positive (omega (arith, met x, meet x, keys)) in
                absurd (omega (arith, seconds, alone k x early))
            | inr late ↦
                let last : k ≡ count - 1 = omega (arith, late, before) in
                let at_last : get_or ys (count - 1) x ≡ get_or ys (count - 1) y = get_or_default ys (count - 1) x y (omega (arith, some, within)) in
                let sums : ((pos a *ℤ (get_or xs first x).constant) +ℤ (pos b *ℤ (get_or ys (count - 1) x).constant)) ≤ℤ most = rw (same, last) at (serve x) in
                absurd (great (rw at_last at sums))
          ]
      | inr other ↦
          let later : first < i = omega (arith, from, other) in
          elim (cases_lt k rest) [
            | inl early ↦ (omega (arith, later), early)
            | inr late ↦
                let last : k ≡ count - 1 = omega (arith, late, before, all) in
                let second_keys : v * (get_or ys k x).key ≡ v * (get_or ys (count - 1) x).key = ap (λ (n : ℕ). v * (get_or ys n x).key) last in
                absurd (omega (arith, meet x, met x, second_keys, greater i x (omega (arith, late, before)) later li))
          ]
    ]

-- the same where the next first one has a greater key, and the second one before has a lesser one: both are passed over
pub passed_both : (xs ys : List Entry) (u v total a b : ℕ) (most : ℤ) (first count i k : ℕ) (x : Entry) → IsNonDecreasingBy (λ (e : Entry). e.key) xs → IsNonDecreasingBy (λ (e : Entry). e.key) ys →
    0 < u → 0 < v → 1 < count → count ≤ length ys → first + 1 < length xs → Meet xs ys u v total first (count - 1) →
    (((pos a *ℤ (get_or xs first x).constant) +ℤ (pos b *ℤ (get_or ys (count - 1) x).constant)) ≤ℤ most → ⊥) →
    (get_or xs first x).key < (get_or xs (first + 1) x).key → (get_or ys (count - 2) x).key < (get_or ys (count - 1) x).key →
    first ≤ i → i < length xs → k < count → Meet xs ys u v total i k → Serve xs ys a b most i k → (first + 1 ≤ i) × (k < count - 1)
passed_both xs ys u v total a b most first count i k x up_xs up_ys some_u some_v two within lf met great rises falls from li before meet serve =
    passed_alone xs ys u v total a b most first count (count - 1) i k x x some_v (omega (arith, two)) within (omega (arith, lf)) met great
    (λ n d early. all_before ys count n x d up_ys within two falls early) (omega (arith, two))
    (λ n d less later l. times_greater xs u first n x d up_xs some_u (omega (arith, lf)) (omega (arith, later)) l rises)
    from li before meet serve

-- a number that a divides, and one that it does not
pub divides : (w a : ℕ) → w % a ≡ 0 → w ≡ a * (w / a)
divides w a even = omega (arith, div-add-mod w a, even)

pub divides_not : (w a : ℕ) → (w % a ≡ 0 → ⊥) → (x : ℕ) → w ≡ a * x → ⊥
divides_not w a odd x is = odd (ap (λ (n : ℕ). n % a) (is ∙ mul_comm a x) ∙ mul-mod_left x a)

-- ---- what is sought

pub whole_total : (key a b total x y : ℕ) → total + 2 ^ 100 ≡ (a + b) * 2 ^ 100 + key → Balance key a b x y → a * x + b * y ≡ total
whole_total key a b total x y is balance = omega (arith, is, balance)

-- a factor that both have is left out
pub shared_total : (key s u v total x y : ℕ) → 0 < s → total % s ≡ 0 → total + 2 ^ 100 ≡ (s * u + s * v) * 2 ^ 100 + key → Balance key (s * u) (s * v) x y → u * x + v * y ≡ total / s
shared_total key s u v total x y some even is balance =
    let spread : s * (u * x + v * y) ≡ s * u * x + s * v * y = omega arith in
    cancel s (u * x + v * y) (total / s) some (omega (arith, spread, is, balance, divides total s even))

pub none_shared : (key s u v total x y : ℕ) → (total % s ≡ 0 → ⊥) → total + 2 ^ 100 ≡ (s * u + s * v) * 2 ^ 100 + key → Balance key (s * u) (s * v) x y → ⊥
none_shared key s u v total x y odd is balance =
    let spread : s * (u * x + v * y) ≡ s * u * x + s * v * y = omega arith in
    divides_not total s odd (u * x + v * y) (omega (arith, spread, is, balance))

-- ---- what makes a form up

pub sum_balances : (facts : List Fact) (e : Combination) (a b key : ℕ) → IsKeyOf e.terms key → (f g : Entry) → IsEntry facts f → IsEntry facts g →
    IsSum e a (place_at facts f.place) b (place_at facts g.place) → Balance key a b f.key g.key
sum_balances facts e a b key is f g own_f own_g sum =
    let keys = key_of_sum e a (place_at facts f.place) b (place_at facts g.place) key f.key g.key is own_f.key own_g.key sum in
    omega (arith, keys)

-- what makes the form up meets
sum_meets : (facts : List Fact) (xs ys : List Entry) → AreEntries facts xs → AreEntries facts ys → (e : Combination) (a b key u v total : ℕ) → IsKeyOf e.terms key →
    ((x y : ℕ) → Balance key a b x y → u * x + v * y ≡ total) →
    (f g : Entry) (f_in : Contains xs f) (g_in : Contains ys g) → IsSum e a (place_at facts f.place) b (place_at facts g.place) → Meet xs ys u v total f_in.0 g_in.0
sum_meets facts xs ys own_xs own_ys e a b key u v total is sought f g f_in g_in sum = λ d.
    let own_f = All-contains (IsEntry facts) xs f own_xs.own f_in in
    let own_g = All-contains (IsEntry facts) ys g own_ys.own g_in in
    let keys = sought f.key g.key (sum_balances facts e a b key is f g own_f own_g sum) in
    let at_f : get_or xs f_in.0 d ≡ f = get_or_default xs f_in.0 d f f_in.1 ∙ f_in.2 in
    let at_g : get_or ys g_in.0 d ≡ g = get_or_default ys g_in.0 d g g_in.1 ∙ g_in.2 in
    rw (at_f, at_g) keys

-- what is left where a pass went on
pub left_passed : (facts : List Fact) (xs ys : List Entry) → AreEntries facts xs → AreEntries facts ys → (e : Combination) (a b key u v total : ℕ) (most : ℤ) (at upto first count : ℕ) → IsKeyOf e.terms key →
    ((x y : ℕ) → Balance key a b x y → u * x + v * y ≡ total) → most ≡ e.constant →
    ((i k : ℕ) → at ≤ i → i < length xs → k < upto → Meet xs ys u v total i k → Serve xs ys a b most i k → (first ≤ i) × (k < count)) →
    AreLeft facts e xs ys a b at upto → AreLeft facts e xs ys a b first count
left_passed facts xs ys own_xs own_ys e a b key u v total most at upto first count is sought same passed left = λ f g f_in g_in sum.
    let was = left f g f_in g_in sum in
    let own_f = All-contains (IsEntry facts) xs f own_xs.own f_in in
    let own_g = All-contains (IsEntry facts) ys g own_ys.own g_in in
    let serve : Serve xs ys a b most f_in.0 g_in.0 = λ d.
    let at_f : get_or xs f_in.0 d ≡ f = get_or_default xs f_in.0 d f f_in.1 ∙ f_in.2 in
    let at_g : get_or ys g_in.0 d ≡ g = get_or_default ys g_in.0 d g g_in.1 ∙ g_in.2 in
    rw (at_f, at_g, own_f.constant, own_g.constant, same) sum.constant in
    passed f_in.0 g_in.0 was.0 f_in.1 was.1 (sum_meets facts xs ys own_xs own_ys e a b key u v total is sought f g f_in g_in sum) serve

-- what is left after two that meet, where the first one makes the form up with none of the second one's key
pub left_next : (facts : List Fact) (xs ys : List Entry) → AreEntries facts xs → AreEntries facts ys → (e : Combination) (a b key u v total at upto rest : ℕ) → IsKeyOf e.terms key →
    ((x y : ℕ) → Balance key a b x y → u * x + v * y ≡ total) → 0 < v → Meet xs ys u v total at (upto - 1) →
    ((d : Entry) (k : ℕ) → k < upto → (get_or ys k d).key ≡ (get_or ys (upto - 1) d).key →
    IsSum e a (place_at facts (get_or xs at d).place) b (place_at facts (get_or ys k d).place) → ⊥) →
    upto ≤ rest + 1 → ((k : ℕ) (d : Entry) → rest < upto → at < k → k < length xs → u * (get_or xs at d).key < u * (get_or xs k d).key) →
    AreLeft facts e xs ys a b at upto → AreLeft facts e xs ys a b (at + 1) rest
left_next facts xs ys own_xs own_ys e a b key u v total at upto rest is sought some met none all greater left = λ f g f_in g_in sum.
    let was = left f g f_in g_in sum in
    let meet = sum_meets facts xs ys own_xs own_ys e a b key u v total is sought f g f_in g_in sum in
    elim (cases_eq f_in.0 at) [
      | inl same ↦
          let at_f : get_or xs at g ≡ f = ap (λ n. get_or xs n g) (sym same) ∙ get_or_default xs f_in.0 g f f_in.1 ∙ f_in.2 in
          let first_keys : u * (get_or xs f_in.0 g).key ≡ u * (get_or xs at g).key = ap (λ (n : ℕ). u * (get_or xs n g).key) same in
          let keys : v * (get_or ys g_in.0 g).key ≡ v * (get_or ys (upto - 1) g).key = omega (arith, meet g, met g, first_keys) in
          absurd (none g g_in.0 was.1 (cancel v _ _ some keys) (rw (at_f, g_in.2) sum))
      | inr other ↦
          let later : at < f_in.0 = omega (arith, was.0, other) in
          elim (cases_lt g_in.0 rest) [
            | inl early ↦ (omega (arith, later), early)
            | inr late ↦
                let last : g_in.0 ≡ upto - 1 = omega (arith, was.1, late, all) in
                let second_keys : v * (get_or ys g_in.0 g).key ≡ v * (get_or ys (upto - 1) g).key = ap (λ (n : ℕ). v * (get_or ys n g).key) last in
                absurd (omega (arith, meet g, met g, second_keys, greater f_in.0 g (omega (arith, late, was.1)) later f_in.1))
          ]
    ]

-- nothing makes the form up where nothing is left
pub none_left : (facts : List Fact) (e : Combination) (xs ys : List Entry) (a b at upto : ℕ) → AreLeft facts e xs ys a b at upto → (at < length xs → 0 < upto → ⊥) → IsMadeUpBetween facts e xs ys a b → ⊥
none_left facts e xs ys a b at upto left closed (f, f_in, g, g_in, sum) =
    let one = left f g f_in g_in sum in
    closed (omega (arith, one.0, f_in.1)) (omega (arith, one.1))

-- nothing makes the form up where no two keys balance
pub none_balance : (facts : List Fact) (xs ys : List Entry) → AreEntries facts xs → AreEntries facts ys → (e : Combination) (a b key : ℕ) → IsKeyOf e.terms key →
    ((x y : ℕ) → Balance key a b x y → ⊥) → IsMadeUpBetween facts e xs ys a b → ⊥
none_balance facts xs ys own_xs own_ys e a b key is none (f, f_in, g, g_in, sum) =
    let own_f = All-contains (IsEntry facts) xs f own_xs.own f_in in
    let own_g = All-contains (IsEntry facts) ys g own_ys.own g_in in
    none f.key g.key (sum_balances facts e a b key is f g own_f own_g sum)

-- with the same factor the two lists may change places
turned : (facts : List Fact) (e : Combination) (xs ys : List Entry) (a b : ℕ) → IsMadeUpBetween facts e xs ys a b → IsMadeUpBetween facts e ys xs b a
turned facts e xs ys a b (f, f_in, g, g_in, sum) = (g, g_in, f, f_in, swapped e a (place_at facts f.place) b (place_at facts g.place) sum)

pub same_factors : (facts : List Fact) (e : Combination) (xs ys : List Entry) (a b : ℕ) → a ≡ b → IsMadeUpBetween facts e ys xs a b → IsMadeUpBetween facts e xs ys a b
same_factors facts e xs ys a b same made =
    subst (λ (n : ℕ). IsMadeUpBetween facts e xs ys a n) same (subst (λ (n : ℕ). IsMadeUpBetween facts e xs ys n a) (sym same) (turned facts e ys xs a b made))

-- among more entries
pub between_more : (facts : List Fact) (e : Combination) (xs ys xs' ys' : List Entry) (a b : ℕ) → ((x : Entry) → Contains xs x → Contains xs' x) → ((y : Entry) → Contains ys y → Contains ys' y) →
    IsMadeUpBetween facts e xs ys a b → IsMadeUpBetween facts e xs' ys' a b
between_more facts e xs ys xs' ys' a b on_x on_y (f, f_in, g, g_in, sum) = (f, on_x f f_in, g, on_y g g_in, sum)

-- ---- one list, by halves

half : (key a x y total : ℕ) → 0 < a → x ≤ y → total + 2 ^ 100 ≡ (a + a) * 2 ^ 100 + key → Balance key a a x y → (x ≤ total / (a * 2)) × (total / (a * 2) ≤ y)
half key a x y total some le is balance =
    let sums : a * x + a * y ≡ total = omega (arith, is, balance) in
    let rises : a * x ≤ a * y = mul-le-mul_left a le in
    (le-div x total (a * 2) (omega (arith, some)) (omega (arith, sums, rises)), div-le_of_le-mul (a * 2) (omega (arith, sums, rises)))

-- of two, the one of the lesser key stands among the first ones up to the middle, and the other one among those from there on
halves : (facts : List Fact) (e : Combination) (es : List Entry) → AreEntries facts es → (a key total upto from : ℕ) → IsKeyOf e.terms key → 0 < a → total + 2 ^ 100 ≡ (a + a) * 2 ^ 100 + key → upto ≤ length es →
    ((k : ℕ) (d : Entry) → upto ≤ k → k < length es → total / (a * 2) < (get_or es k d).key) → ((k : ℕ) (d : Entry) → k < from → (get_or es k d).key < total / (a * 2)) →
    (f g : Entry) → Contains es f → Contains es g → IsSum e a (place_at facts f.place) a (place_at facts g.place) → f.key ≤ g.key → IsMadeUpBetween facts e (take upto es) (drop from es) a a
halves facts e es own a key total upto from is some is_total within above below f g f_in g_in sum le =
    let own_f = All-contains (IsEntry facts) es f own.own f_in in
    let own_g = All-contains (IsEntry facts) es g own.own g_in in
    let both = half key a f.key g.key total some le is_total (sum_balances facts e a a key is f g own_f own_g sum) in
    let key_f : (get_or es f_in.0 f).key ≡ f.key = ap (λ (x : Entry). x.key) f_in.2 in
    let key_g : (get_or es g_in.0 g).key ≡ g.key = ap (λ (x : Entry). x.key) g_in.2 in
    let first : f_in.0 < upto = elim (cases_lt f_in.0 upto) [
      | inl early ↦ early
      | inr late ↦ absurd (omega (arith, above f_in.0 f late f_in.1, key_f, both.0))
    ] in
    let second : from ≤ g_in.0 = elim (cases_lt g_in.0 from) [
      | inl early ↦ absurd (omega (arith, below g_in.0 g early, key_g, both.1))
      | inr late ↦ late
    ] in
    (f, in_front upto es f f_in first within, g, in_back from es g g_in second, sum)

pub halved : (facts : List Fact) (e : Combination) (es : List Entry) → AreEntries facts es → (a key total upto from : ℕ) → IsKeyOf e.terms key → 0 < a → total + 2 ^ 100 ≡ (a + a) * 2 ^ 100 + key → upto ≤ length es →
    ((k : ℕ) (d : Entry) → upto ≤ k → k < length es → total / (a * 2) < (get_or es k d).key) → ((k : ℕ) (d : Entry) → k < from → (get_or es k d).key < total / (a * 2)) →
    IsMadeUpBetween facts e es es a a → IsMadeUpBetween facts e (take upto es) (drop from es) a a
halved facts e es own a key total upto from is some is_total within above below (f, f_in, g, g_in, sum) = elim (cases_lt g.key f.key) [
  | inl more ↦ halves facts e es own a key total upto from is some is_total within above below g f g_in f_in (swapped e a (place_at facts f.place) a (place_at facts g.place) sum) (omega (arith, more))
  | inr less ↦ halves facts e es own a key total upto from is some is_total within above below f g f_in g_in sum (omega (arith, less))
]

-- ---- two lists

-- what entries of an index make up is made up between them
pub with_between : (facts : List Fact) (es : List Entry) → IsIndex facts (suc (length facts)) es → (e : Combination) (a b : ℕ) → IsMadeUpWith facts e es a b → IsMadeUpBetween facts e es es a b
with_between facts es index e a b (first, c, (g, in_g, sum)) =
    let k = kept_side facts es index g in_g in
    (first, c, k.0, k.1, stronger_second e a (place_at facts first.place) b g (place_at facts k.0.place) k.2 sum)

pub between_with : (facts : List Fact) (es : List Entry) → IsIndex facts (suc (length facts)) es → (e : Combination) (a b : ℕ) → IsMadeUpBetween facts e es es a b → IsMadeUpWith facts e es a b
between_with facts es index e a b (f, f_in, g, g_in, sum) =
    (f, f_in, (place_at facts g.place, side_of_entry facts g (All-contains (IsEntry facts) es g index.own g_in), sum))

-- nothing is made up of two lists where nothing is made up within each, nor of one of each
pub none_of_two : (facts : List Fact) (e : Combination) (xs ys : List Entry) (a b : ℕ) → (IsMadeUpBetween facts e xs xs a b → ⊥) → (IsMadeUpBetween facts e ys ys a b → ⊥) →
    (IsMadeUpBetween facts e xs ys a b → ⊥) → (IsMadeUpBetween facts e ys xs a b → ⊥) → IsMadeUpBetween facts e (xs ++ ys) (xs ++ ys) a b → ⊥
none_of_two facts e xs ys a b within_x within_y x_y y_x (f, f_in, g, g_in, sum) = elim (Contains-append_cases xs ys f f_in) [
  | inl f_x ↦ elim (Contains-append_cases xs ys g g_in) [
    | inl g_x ↦ within_x (f, f_x, g, g_x, sum)
    | inr g_y ↦ x_y (f, f_x, g, g_y, sum)
  ]
  | inr f_y ↦ elim (Contains-append_cases xs ys g g_in) [
    | inl g_x ↦ y_x (f, f_y, g, g_x, sum)
    | inr g_y ↦ within_y (f, f_y, g, g_y, sum)
  ]
]
