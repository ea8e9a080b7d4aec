-- Facts by the values of their terms: of those with the same coefficients the strongest alone is kept.
use Rattle.std.specs.Prelude.{◌≡◌, ℕ, suc, ◌<◌, ◌≤◌, ◌+◌, ◌*◌, ◌%◌, ◌^◌, ℤ, pos, negsuc, ◌+ℤ◌, ◌*ℤ◌, ◌≤ℤ◌, ◌⊎◌, Bool}
use Rattle.std.specs.Prelude.{true, List, [], ◌++◌, length, take, All, Contains, slice_index_or, unsigned_abs}
use Rattle.std.specs.List.Sorted.{IsNonDecreasingBy}
use Rattle.linear.specs.declared.form.Term.{Term}
use Rattle.linear.specs.declared.form.Fact.{Fact}
use Rattle.linear.specs.Forms.{value_of}
use Rattle.linear.specs.Terms.{Combination, coefficient_of, constant_form}
use Rattle.linear_shown.specs.declared.index.Entry.{Entry}
use Rattle.linear_shown.specs.Search.{factors}
use Rattle.linear_shown.specs.Shown.{IsSum}
use Rattle.linear_shown.specs.Sides.{sides}

abbrev pub spread : ℕ → ℕ → ℕ
spread step r = (r % 65536 * step + 12345) % 16777213

abbrev pub spread_square : ℕ → ℕ → ℕ
spread_square step r = spread step r * spread step r % 16777213

-- two numbers, so that hardly any two forms of few registers share a key
unfoldable pub weight : ℕ → ℕ
weight r = spread_square 7368787 r * 2 ^ 48 + spread_square 3141601 r

abbrev pub weigh : List Term → ℤ
weigh terms = value_of (λ r. pos (weight r)) terms

pub record IsKeyOf (terms : List Term) (key : ℕ) : Type 0 where
  pub value : pos key ≡ weigh terms +ℤ pos (2 ^ 100)
  pub small : key < 2 ^ 101

-- 1 with the sign of a coefficient
abbrev pub one_of : ℤ → ℤ
one_of (pos n) = pos 1
one_of (negsuc n) = negsuc 0

-- an absent fact at 0, and then the facts in their order
abbrev pub place_at : List Fact → ℕ → Combination
place_at facts place = slice_index_or (sides facts) place (constant_form (pos 0))

pub record IsEntry (facts : List Fact) (entry : Entry) : Type 0 where
  pub within : entry.place ≤ length facts
  pub key : IsKeyOf (place_at facts entry.place).terms entry.key
  pub constant : entry.constant ≡ (place_at facts entry.place).constant
  pub small : unsigned_abs entry.constant < 2 ^ 100

-- it says what the other says, and maybe more
pub record IsAsStrong (f g : Combination) : Type 0 where
  pub terms : (r : ℕ) → coefficient_of f.terms r ≡ coefficient_of g.terms r
  pub constant : f.constant ≤ℤ g.constant

-- some entry is as strong as what stands at the place
abbrev pub IsIndexed : List Fact → List Entry → ℕ → Type 0
IsIndexed facts entries place = (entry : Entry) × Contains entries entry ×
    IsAsStrong (place_at facts entry.place) (place_at facts place)

-- entries by rising keys
pub record AreEntries (facts : List Fact) (entries : List Entry) : Type 0 where
  pub sorted : IsNonDecreasingBy (λ (e : Entry). e.key) entries
  pub own : All (IsEntry facts) entries

-- the entry has joined them: each place that had an entry as strong still has one, and so has its own
pub record IsJoined (facts : List Fact) (old new : List Entry) (entry : Entry) : Type 0 where
  pub entries : AreEntries facts new
  pub kept : (place : ℕ) → IsIndexed facts old place → IsIndexed facts new place
  pub entered : IsIndexed facts new entry.place
  pub within : (e : Entry) → Contains new e → Contains old e ⊎ (e ≡ entry)

-- entries of all places from one on
pub record HasPlaces (facts : List Fact) (from upto : ℕ) (entries : List Entry) : Type 0 where
  pub own : All (IsEntry facts) entries
  pub each : (place : ℕ) → from ≤ place → place < upto → (e : Entry) × Contains entries e × (e.place ≡ place)

-- entries that are merged with fresh ones: these are in, and so is each of the others that is not among the rest, which
-- all come after
pub record IsMerging (facts : List Fact) (entries fresh rest merged : List Entry) : Type 0 where
  pub waiting : AreEntries facts rest
  pub in_order : AreEntries facts merged
  pub below : (m e : Entry) → Contains merged m → Contains rest e → m.key ≤ e.key
  pub kept : (e : Entry) → Contains entries e → Contains rest e ⊎ IsIndexed facts merged e.place
  pub entered : All (λ (e : Entry). IsIndexed facts merged e.place) fresh

-- entries of the first places
pub record IsIndex (facts : List Fact) (count : ℕ) (entries : List Entry) : Type 0 where
  pub own : All (IsEntry facts) entries
  pub kept : (place : ℕ) → place < count → IsIndexed facts entries place

-- the same in two lists, each by rising keys
pub record AreLayers (facts : List Fact) (count : ℕ) (early late : List Entry) : Type 0 where
  pub settled : AreEntries facts early
  pub recent : AreEntries facts late
  pub kept : (place : ℕ) → place < count → IsIndexed facts (early ++ late) place

-- the two say that something below 0 is not below 0
abbrev pub IsContradiction : Combination → Combination → Type 0
IsContradiction f g = IsSum (constant_form (negsuc 0)) 1 f 1 g

-- no two of the first places contradict each other
abbrev pub AreConsistent : List Fact → ℕ → Type 0
AreConsistent facts count = (p q : ℕ) → p < count → q < count → IsContradiction (place_at facts p) (place_at facts q) →
    ⊥

-- an index of the first places, which more may join, and whether these are known to be consistent
pub record IsBegun (facts : List Fact) (count : ℕ) (settled recent : List Entry) (is_consistent : Bool) : Type 0 where
  pub within : count ≤ suc (length facts)
  pub layers : AreLayers facts count settled recent
  pub consistent : is_consistent ≡ true → AreConsistent facts count

-- something below 0, without terms
pub record IsNegative (e : Combination) : Type 0 where
  pub terms : e.terms ≡ []
  pub constant : e.constant ≤ℤ negsuc 0

-- ---- the search: some first factor, some second factor, some first fact, some second fact

abbrev pub IsMadeUp : List Fact → Combination → Combination → ℕ → ℕ → Type 0
IsMadeUp facts e f a b = (g : Combination) × Contains (sides facts) g × IsSum e a f b g

abbrev pub IsMadeUpWith : List Fact → Combination → List Entry → ℕ → ℕ → Type 0
IsMadeUpWith facts e entries a b = (first : Entry) × Contains entries first ×
    IsMadeUp facts e (place_at facts first.place) a b

-- the same with the second fact among entries, too
abbrev pub IsMadeUpBetween : List Fact → Combination → List Entry → List Entry → ℕ → ℕ → Type 0
IsMadeUpBetween facts e firsts seconds a b = (first : Entry) × Contains firsts first × (second : Entry) ×
    Contains seconds second
    × IsSum e a (place_at facts first.place) b (place_at facts second.place)

abbrev pub IsMadeUpByB : List Fact → Combination → List Entry → ℕ → Type 0
IsMadeUpByB facts e entries a = (b : ℕ) × Contains (factors e.terms) b × IsMadeUpWith facts e entries a b

abbrev pub IsMadeUpByA : List Fact → Combination → List Entry → Type 0
IsMadeUpByA facts e entries = (a : ℕ) × Contains (factors e.terms) a × IsMadeUpByB facts e entries a

-- none of the first factors is a second one
abbrev pub AreNotB : List Fact → Combination → List Entry → ℕ → ℕ → Type 0
AreNotB facts e entries a count = All (λ b. IsMadeUpWith facts e entries a b → ⊥) (take count (factors e.terms))

-- ---- a pass: of two lists two entries whose keys come to a total

-- entries by rising keys, which are within their bound, as their constants are
pub record AreInOrder (entries : List Entry) : Type 0 where
  pub sorted : IsNonDecreasingBy (λ (e : Entry). e.key) entries
  pub keys : All (λ (e : Entry). e.key < 2 ^ 101) entries
  pub constants : All (λ (e : Entry). unsigned_abs e.constant < 2 ^ 100) entries

-- the keys of two, the first one a times and the second one b times, come to a total
abbrev pub Meet : List Entry → List Entry → ℕ → ℕ → ℕ → ℕ → ℕ → Type 0
Meet firsts seconds a b total i k = (d : Entry) →
    a * (slice_index_or firsts i d).key + b * (slice_index_or seconds k d).key ≡ total

-- constants, a times the first one and b times the second one, come to no more than a bound
abbrev pub Serve : List Entry → List Entry → ℕ → ℕ → ℤ → ℕ → ℕ → Type 0
Serve firsts seconds a b most i k = (d : Entry)
    → ((pos a *ℤ (slice_index_or firsts i d).constant) +ℤ (pos b *ℤ (slice_index_or seconds k d).constant)) ≤ℤ most

-- keys of what makes a form of this key up with the factors a and b
abbrev pub Balance : ℕ → ℕ → ℕ → ℕ → ℕ → Type 0
Balance key a b x y = a * x + b * y + 2 ^ 100 ≡ (a + b) * 2 ^ 100 + key

-- what makes the form up is left: the first one from a place on, and the second one before another
abbrev pub AreLeft : List Fact → Combination → List Entry → List Entry → ℕ → ℕ → ℕ → ℕ → Type 0
AreLeft facts e firsts seconds a b at upto = (f g : Entry) (f_in : Contains firsts f) (g_in : Contains seconds g)
    → IsSum e a (place_at facts f.place) b (place_at facts g.place) → (at ≤ f_in.0) × (g_in.0 < upto)
