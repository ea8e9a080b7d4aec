-- Which globals the marked functions name, as far as the loop has come.
use Rattle.std.proofs.Common.{◌≡◌, ◌↔◌, ℕ, ◌+◌, ◌<◌, ◌≤◌, Bool, true, false, List, [], ◌∷◌, ◌++◌, length, get_or, inl, inr, refl, sym, ◌∙◌, ⊎_elim, subst, arith}
use Rattle.std.specs.List.{Contains}
use Rattle.std.proofs.lemmas.Bool.{cases_eq, true≢false}
use Rattle.std.proofs.lemmas.List.{get_or_push, get_or_append_left, length_push}
use Rattle.reachability.specs.Ways.{IsWay}
use Rattle.reachability.specs.Reached.{IsReached}
use Rattle.types.specs.declared.names.mention.Mentions.{Mentions}
use Rattle.types.specs.names.Marks.{SetsMarks}
use Rattle.types.specs.names.Mention.{callees_at, globals_at, IsNamedTable, NamesExactly}
use Rattle.reachability.proofs.Searching.{marked_within, nexts_within, avoids_none}

pub record Naming (mentions : List Mentions) (marked : List Bool) (globals i : ℕ) (marks : List Bool) : Type 0 where
  pub size : length marks ≡ globals
  pub sound : (g : ℕ) → get_or marks g false ≡ true → (f : ℕ) × (get_or marked f false ≡ true) × Contains (globals_at mentions f) g
  pub complete : (f : ℕ) → f < i → get_or marked f false ≡ true → (g : ℕ) → Contains (globals_at mentions f) g → g < globals → get_or marks g false ≡ true

pub Naming-none : (mentions : List Mentions) (marked : List Bool) (globals : ℕ) (marks : List Bool) → length marks ≡ globals → ((g : ℕ) → get_or marks g false ≡ false) → Naming mentions marked globals 0 marks
Naming-none mentions marked globals marks size none = record {
  size = size;
  sound = λ g h. absurd (true≢false (sym h ∙ none g));
  complete = λ f l m g k w. absurd (omega (arith, l));
}

-- a function that is not marked
pub Naming-skip : (mentions : List Mentions) (marked : List Bool) (globals i : ℕ) (marks : List Bool) → Naming mentions marked globals i marks → get_or marked i false ≡ false → Naming mentions marked globals (i + 1) marks
Naming-skip mentions marked globals i marks n h = record {
  size = n.size;
  sound = n.sound;
  complete = λ f l m g k w. ⊎_elim (λ e. absurd (true≢false (sym m ∙ (rw e h)))) (λ ne. n.complete f (omega (arith, l, ne)) m g k w) (cases_eq f i);
}

-- a function that is marked
pub Naming-step : (mentions : List Mentions) (marked : List Bool) (globals i : ℕ) (marks marks' : List Bool) →
    Naming mentions marked globals i marks → get_or marked i false ≡ true → SetsMarks (globals_at mentions i) marks marks' → Naming mentions marked globals (i + 1) marks'
Naming-step mentions marked globals i marks marks' n h p = record {
  size = p.size ∙ n.size;
  sound = λ g k. ⊎_elim (λ old. n.sound g old) (λ new. (i, h, new.0)) ((p.exact g).0 k);
  complete = λ f l m g k w. ⊎_elim
      (λ e. (p.exact g).1 (inr (rw (← e) k, rw n.size w)))
      (λ ne. (p.exact g).1 (inl (n.complete f (omega (arith, l, ne)) m g k w)))
      (cases_eq f i);
}

pub Naming-end : (mentions : List Mentions) (marked : List Bool) (globals i : ℕ) (marks : List Bool) → Naming mentions marked globals i marks → length marked ≤ i →
    (g : ℕ) → (get_or marks g false ≡ true) ↔ ((g < globals) × ((f : ℕ) × (get_or marked f false ≡ true) × Contains (globals_at mentions f) g))
Naming-end mentions marked globals i marks n l g = (
  λ h. (rw (← n.size) (marked_within marks g h), n.sound g h),
  λ k. n.complete k.1.0 (let w : k.1.0 < length marked = marked_within marked k.1.0 k.1.1 in omega (arith, w, l)) k.1.1 g k.1.2 k.0,
)

-- the marks of a function, from those of the functions that it reaches
pub names_exactly : (mentions : List Mentions) (globals start : ℕ) (starts stops marked marks : List Bool) → start < length mentions →
    ((f : ℕ) → (get_or starts f false ≡ true) ↔ ((f ≡ start) × (f < length mentions))) →
    ((f : ℕ) → get_or stops f false ≡ false) →
    length marked ≡ length mentions →
    ((f : ℕ) → f < length mentions → (get_or marked f false ≡ true) ↔ IsReached (callees_at mentions) starts stops f) →
    ((g : ℕ) → (get_or marks g false ≡ true) ↔ ((g < globals) × ((f : ℕ) × (get_or marked f false ≡ true) × Contains (globals_at mentions f) g))) →
    NamesExactly mentions globals start marks
names_exactly mentions globals start starts stops marked marks within one none size reached named g = (
  λ h. let k = (named g).0 h in
      let at : k.1.0 < length mentions = rw (← size) (marked_within marked k.1.0 k.1.1) in
      let r = (reached k.1.0 at).0 k.1.1 in
      (k.0, (k.1.0, r.2, subst (λ from. IsWay (callees_at mentions) from r.2 k.1.0) ((one r.0).0 r.1).0 r.3, k.1.2)),
  λ k. let at : k.1.0 < length mentions = nexts_within (λ (m : Mentions). m.globals) mentions k.1.0 k.1.3 in
      (named g).1 (k.0, (k.1.0, (reached k.1.0 at).1 (start, (one start).1 (refl, within), k.1.1, k.1.2, avoids_none stops k.1.1 none), k.1.3)),
)

pub record Tabling (mentions : List Mentions) (globals i : ℕ) (named : List (List Bool)) : Type 0 where
  pub size : length named ≡ i
  pub exact : (from : ℕ) → from < i → NamesExactly mentions globals from (get_or named from [])

pub Tabling-none : (mentions : List Mentions) (globals : ℕ) → Tabling mentions globals 0 []
Tabling-none mentions globals = record { size = refl; exact = λ from l. absurd (omega (arith, l)) }

pub Tabling-push : (mentions : List Mentions) (globals i : ℕ) (named : List (List Bool)) (row : List Bool) → Tabling mentions globals i named → NamesExactly mentions globals i row → Tabling mentions globals (i + 1) (named ++ row ∷ [])
Tabling-push mentions globals i named row t n = record {
  size = omega (arith, length_push named row, t.size);
  exact = λ from l. ⊎_elim
      (λ e.
      let P : ℕ → Type 0 = λ k. NamesExactly mentions globals k (get_or (named ++ row ∷ []) k []) in
      let Q : List Bool → Type 0 = λ r. NamesExactly mentions globals i r in
      subst P (sym e) (subst Q (sym (get_or_push named row [] i t.size)) n))
      (λ ne.
      let below : from < length named = omega (arith, l, ne, t.size) in
      let Q : List Bool → Type 0 = λ r. NamesExactly mentions globals from r in
      subst Q (sym (get_or_append_left named (row ∷ []) [] from below)) (t.exact from (omega (arith, l, ne))))
      (cases_eq from i);
}

pub Tabling-end : (mentions : List Mentions) (globals i : ℕ) (named : List (List Bool)) → Tabling mentions globals i named → i ≡ length mentions → IsNamedTable mentions globals named
Tabling-end mentions globals i named t e = record { size = t.size ∙ e; exact = λ from l. t.exact from (rw e l) }
