-- What a block has of what is given.
use Rattle.std.proofs.Common.{◌≡◌, ◌==◌, ◌&&◌, ◌||◌, ℕ, ◌+◌, ◌<◌, ◌≤◌, Bool, true, false, cond, List, [], ◌∷◌, ◌++◌, Option, Some, None, length, set, inl, inr, refl, sym, ap, ◌∙◌, arith}
use Rattle.std.specs.List.{filter, list_any, list_all}
use Rattle.std.proofs.lemmas.Bool.{cases_lt, true≢false, false≢true, eqb-true, and_from, cases_Bool}
use Rattle.std.proofs.lemmas.List.{length_push, get_or_past}
use Rattle.std.proofs.lemmas.List.Elements.{Contains-append_left, Contains-push}
use Rattle.std.proofs.lemmas.List.Sums.{sum_by-set, length-filter, count_by-le-length}
use Rattle.linear.specs.declared.form.RegisterId.{RegisterId}
use Rattle.cfg.specs.declared.structure.BlockEdges.{BlockEdges}
use Rattle.definedness_allocas.specs.declared.fork.Fork.{Fork}
use Rattle.definedness_allocas.specs.declared.sets.Label.{Label}
use Rattle.definedness_allocas.specs.declared.sets.Label.TheVariants.{Sure, Due}
use Rattle.definedness_allocas.specs.declared.sets.Sets.{Sets}
use Rattle.definedness.specs.Sure.{Labels}
use Rattle.definedness_allocas.specs.Sets.{has, due_in, label_in, is_sure_label, label_at, label_of, count_sure, IsFit}
use Rattle.definedness.specs.Settling.{due_and_given, weight, load, KeepsBoth, IsTableLabelling, IsBelow, Lowers}
use Rattle.definedness.proofs.Settling.{puts_lowers, label_here, lowers_none, unsure_held}

has_cond : (g : Bool) (x : RegisterId) (rest : List RegisterId) (r : RegisterId) → has (cond g (x ∷ rest) rest) r ≡ ((g && (x.0 == r.0)) || has rest r)
has_cond true x rest r = refl
has_cond false x rest r = refl

and_false : (h : Bool) → (h && false) ≡ false
and_false true = refl
and_false false = refl

both_step : (g s h q : Bool) → (s ≡ true → q ≡ g) → ((g && s) || (h && q)) ≡ ((s || h) && q)
both_step true true h q e = sym (e refl)
both_step false true h q e = rw (e refl) (and_false h)
both_step true false h q e = refl
both_step false false h q e = refl

pub has_both : (given old : List RegisterId) (r : RegisterId) → has (filter (λ its. has given its) old) r ≡ (has old r && has given r)
has_both given [] r = refl
has_both given (x ∷ xs) r =
    has_cond (has given x) x (filter (λ its. has given its) xs) r
    ∙ ap (λ rest. (has given x && (x.0 == r.0)) || rest) (has_both given xs r)
    ∙ both_step (has given x) (x.0 == r.0) (has xs r) (has given r) (λ e. ap (λ n. list_any (λ its. its.0 == n) given) (sym (eqb-true x.0 r.0 e)))

all_kept : (given old : List RegisterId) → length old ≤ length (filter (λ its. has given its) old) → (r : RegisterId) → has old r ≡ true → has given r ≡ true
all_kept given [] le r h = absurd (false≢true h)
all_kept given (x ∷ xs) le r h = elim (cases_Bool (has given x)) [
  | inl t ↦ elim (cases_Bool (x.0 == r.0)) [
    | inl e ↦ ap (λ n. list_any (λ its. its.0 == n) given) (sym (eqb-true x.0 r.0 e)) ∙ t
    | inr ne ↦ all_kept given xs (omega (arith, rw t at le)) r (rw ne at h)
  ]
  | inr f ↦ absurd (omega (arith, rw f at le, length-filter (λ its. has given its) xs, count_by-le-length (λ its. has given its) xs))
]

pub kept_same : (given old : List RegisterId) → list_all (has given) old ≡ true → length old ≤ length (filter (λ its. has given its) old)
kept_same given [] h = omega arith
kept_same given (x ∷ xs) h = elim (cases_Bool (has given x)) [
  | inl t ↦ let rest = kept_same given xs (rw t at h) in rw t (omega (arith, rest))
  | inr f ↦ absurd (false≢true (rw f at h))
]

pub kept_fewer : (given old : List RegisterId) → list_all (has given) old ≡ false → length (filter (λ its. has given its) old) < length old
kept_fewer given [] h = absurd (true≢false h)
kept_fewer given (x ∷ xs) h = elim (cases_Bool (has given x)) [
  | inl t ↦ let rest = kept_fewer given xs (rw t at h) in rw t (omega (arith, rest))
  | inr f ↦ rw f (omega (arith, length-filter (λ its. has given its) xs, count_by-le-length (λ its. has given its) xs))
]

and_left : (a b : Bool) → (a && b) ≡ true → a ≡ true
and_left true b h = refl
and_left false b h = h

and_right : (a b : Bool) → (a && b) ≡ true → b ≡ true
and_right true b h = h
and_right false b h = absurd (false≢true h)

some_label : (x : Label) → label_in x None ≡ false → (r : RegisterId) → label_in x (Some r) ≡ has (due_in x) r
some_label Sure off r = absurd (true≢false off)
some_label (Due regions) off r = refl

weight_due : (n : ℕ) (x : Label) → label_in x None ≡ false → weight n x ≡ length (due_in x) + length (due_in x)
weight_due n Sure off = absurd (true≢false off)
weight_due n (Due regions) off = refl

pub due_within : (sets : Sets) (b m : ℕ) → m < length (due_in (label_at sets b)) → b < length sets.labels.items
due_within sets b m h = elim (cases_lt b (length sets.labels.items)) [
  | inl l ↦ l
  | inr past ↦ absurd (let none : label_at sets b ≡ Due [] = get_or_past sets.labels.items b (Due []) past in let e = rw none at h in omega (arith, e))
]

-- a block where the alloca was not sure
module _ (stops : List Bool) (forks : List Fork) (blocks : List BlockEdges) (before : Sets) (work : List ℕ) (after : Sets) (work' : List ℕ) (to : ℕ) (given : List RegisterId) (fit : IsFit stops forks (length blocks) before) (unsure : label_of before None to ≡ false) (above : (l : Labels) → IsTableLabelling stops forks blocks l → IsBelow (length blocks) l before → (k : Option RegisterId) → l k to ≡ true → label_in (Due given) k ≡ true) where
  kept_below : (k : Option RegisterId) → label_in (Due (due_and_given before to given)) k ≡ true → label_of before k to ≡ true
  kept_below None h = absurd (false≢true h)
  kept_below (Some r) h = some_label (label_at before to) unsure r ∙ and_left (has (due_in (label_at before to)) r) (has given r) (sym (has_both given (due_in (label_at before to)) r) ∙ h)

  kept_given : (k : Option RegisterId) → label_in (Due (due_and_given before to given)) k ≡ true → label_in (Due given) k ≡ true
  kept_given None h = absurd (false≢true h)
  kept_given (Some r) h = and_right (has (due_in (label_at before to)) r) (has given r) (sym (has_both given (due_in (label_at before to)) r) ∙ h)

  both_kept : (k : Option RegisterId) → label_of before k to ≡ true → label_in (Due given) k ≡ true → label_in (Due (due_and_given before to given)) k ≡ true
  both_kept None h g = absurd (false≢true g)
  both_kept (Some r) h g = has_both given (due_in (label_at before to)) r ∙ and_from (has (due_in (label_at before to)) r) (has given r) (sym (some_label (label_at before to) unsure r) ∙ h) g

  all_given : length (due_in (label_at before to)) ≤ length (due_and_given before to given) → (k : Option RegisterId) → label_of before k to ≡ true → label_in (Due given) k ≡ true
  all_given le None h = absurd (false≢true (sym unsure ∙ h))
  all_given le (Some r) h = all_kept given (due_in (label_at before to)) le r (sym (some_label (label_at before to) unsure r) ∙ h)

  module _ (less : length (due_and_given before to given) < length (due_in (label_at before to))) (put : after.labels.items ≡ set before.labels.items to (Due (due_and_given before to given))) (same : after.lacking.items ≡ before.lacking.items) (listed : work' ≡ work ++ to ∷ []) where
    within : to < length before.labels.items
    within = due_within before to _ less

    count_same : count_sure after ≤ count_sure before
    count_same =
        let cells = sum_by-set (λ x. cond (is_sure_label x) 1 0) before.labels.items to (Due (due_and_given before to given)) (Due []) within in
        rw put (omega (arith, cells))

    lighter : load (length blocks) after work' ≤ load (length blocks) before work
    lighter =
        let rows = rw (weight_due (length blocks) (label_at before to) unsure) at (sum_by-set (weight (length blocks)) before.labels.items to (Due (due_and_given before to given)) (Due []) within) in
        let longer = length_push work to in
        rw (put, listed) (omega (arith, rows, longer, less))

    fewer_lowers : Lowers stops forks blocks before work after work'
    fewer_lowers = puts_lowers stops forks blocks before work after work' to (Due (due_and_given before to given)) fit (record {
      within = within;
      put = put;
      below = kept_below;
      given = λ l is below k h. both_kept k (below k to (let w = within in let s = fit.labels in omega arith) h) (above l is below k h);
      size = ap length same;
      marked = λ d h. rw same h;
      lost = λ d h. inl (rw same at h);
      whole = λ d w h ends. inr (inr (unsure_held stops before to unsure (fit.whole d to w (rw same at h) ends)));
      waiting = λ a c. rw listed (Contains-append_left work (to ∷ []) a c);
      listed = rw listed (Contains-push work to);
      woken = λ a w. inr (λ ends held. inr (inr (unsure_held stops before to unsure held)));
      fewer = count_same;
      short = (let s = fit.short to in let f = count_same in omega (arith, less));
      less = lighter;
    })

    fewer_taken : (k : Option RegisterId) → label_of after k to ≡ true → label_in (Due given) k ≡ true
    fewer_taken k h = kept_given k (sym (ap (λ x. label_in x k) (label_here stops forks before after to (Due (due_and_given before to given)) within put)) ∙ h)

  pub due_lowers : KeepsBoth to given before after work work' → Lowers stops forks blocks before work after work'
  due_lowers (inl h) = fewer_lowers h.0 h.1 h.2 h.3
  due_lowers (inr h) = rw (h.1, h.2) (lowers_none stops forks blocks before work fit)

  pub due_taken : KeepsBoth to given before after work work' → (k : Option RegisterId) → label_of after k to ≡ true → label_in (Due given) k ≡ true
  due_taken (inl h) k e = fewer_taken h.0 h.1 h.2 h.3 k e
  due_taken (inr h) k e = all_given h.0 k (rw h.1 at e)
