-- The marks of clashes, edge by edge and block by block.
use Rattle.std.proofs.Common.{◌≡◌, ◌⊎◌, ◌↔◌, ℕ, ◌+◌, ◌<◌, ◌≤◌, Bool, true, false, List, [], ◌∷◌, ◌++◌, length, take, get_or, set, inl, inr, refl, sym, ap, ◌∙◌, ⊎_elim, arith, get_or-set_same, get_or-set_other, take_all}
use Rattle.std.specs.List.{Any}
use Rattle.std.proofs.lemmas.Bool.{cases_eq, cases_lt, true≢false}
use Rattle.std.proofs.lemmas.List.{length-set, take_more}
use Rattle.std.proofs.lemmas.List.Quantifiers.{Any-push}
use Rattle.cfg.specs.declared.structure.Edge.{Edge}
use Rattle.cfg.specs.declared.structure.BlockEdges.{BlockEdges}
use Rattle.cfg.specs.Paths.{edges_of}
use Rattle.refusal.proofs.Judging.{Any-append_left, Any-push_cases}
use Rattle.region_match.specs.declared.task.Task.{Task}
use Rattle.region_match.specs.Tasks.{task_at}
use Rattle.region_match.specs.Labels.{is_seen, IsClash, HasClash}
use Rattle.cfg.proofs.Matching.{no_edges_past}

-- the edges so far
pub record ClashMarks (from : ℕ) (edges : List Edge) (tasks : List Task) (marks marks' : List Bool) : Type 0 where
  pub size : length marks' ≡ length marks
  pub exact : (b : ℕ) → b < length tasks → (get_or marks' b false ≡ true) ↔ ((get_or marks b false ≡ true) ⊎ Any (λ e. (e.to.0 ≡ b) × IsClash tasks from e) edges)

pub ClashMarks-none : (from : ℕ) (tasks : List Task) (marks : List Bool) → ClashMarks from [] tasks marks marks
ClashMarks-none from tasks marks = record {
  size = refl;
  exact = λ b l. (inl, λ s. ⊎_elim (λ h. h) (λ any. absurd (omega (arith, any.2))) s);
}

module _ (from : ℕ) (edges : List Edge) (i : ℕ) (e : Edge) (tasks : List Task) (marks marks' : List Bool) (l : i < length edges) (is : e ≡ get_or edges i e) (m : ClashMarks from (take i edges) tasks marks marks') where
  grown : take i edges ++ e ∷ [] ≡ take (i + 1) edges
  grown = ap (λ x. take i edges ++ x ∷ []) is ∙ sym (take_more edges i e l)

  pub clash_skip : (e.to.0 < length tasks → IsClash tasks from e → ⊥) → ClashMarks from (take (i + 1) edges) tasks marks marks'
  clash_skip no-clash = rw (← grown) (record {
    size = m.size;
    exact = λ b w. (
      λ h. ⊎_elim inl (λ any. inr (Any-append_left (λ e. (e.to.0 ≡ b) × IsClash tasks from e) (take i edges) (e ∷ []) any)) ((m.exact b w).0 h),
      λ s. (m.exact b w).1 (⊎_elim inl (λ any. ⊎_elim inr (λ here. absurd (no-clash (rw here.0 w) here.1)) (Any-push_cases (λ e. (e.to.0 ≡ b) × IsClash tasks from e) (take i edges) e any)) s),
    );
  })

  pub clash_mark : e.to.0 < length marks' → IsClash tasks from e → ClashMarks from (take (i + 1) edges) tasks marks (set marks' e.to.0 true)
  clash_mark within clash =
      let same : get_or (set marks' e.to.0 true) e.to.0 false ≡ true = get_or-set_same marks' e.to.0 true false within in
      rw (← grown) (record {
        size = length-set marks' e.to.0 true ∙ m.size;
        exact = λ b w. (
          λ h. elim (cases_eq b e.to.0) [
            | inl eq ↦ inr (Any-push (λ e. (e.to.0 ≡ b) × IsClash tasks from e) (take i edges) e (sym eq, clash))
            | inr ne ↦ ⊎_elim inl (λ any. inr (Any-append_left (λ e. (e.to.0 ≡ b) × IsClash tasks from e) (take i edges) (e ∷ []) any)) ((m.exact b w).0 (sym (get_or-set_other marks' e.to.0 b true false ne) ∙ h))
          ],
          λ s. elim (cases_eq b e.to.0) [
            | inl eq ↦ rw eq same
            | inr ne ↦ get_or-set_other marks' e.to.0 b true false ne ∙ (m.exact b w).1 (⊎_elim inl (λ any. ⊎_elim inr (λ here. absurd (ne (sym here.0))) (Any-push_cases (λ e. (e.to.0 ≡ b) × IsClash tasks from e) (take i edges) e any)) s)
          ],
        );
      })

-- the blocks so far
pub record AllClashMarks (blocks : List BlockEdges) (n : ℕ) (tasks : List Task) (marks : List Bool) : Type 0 where
  pub size : length marks ≡ length blocks
  pub exact : (b : ℕ) → b < length blocks → (get_or marks b false ≡ true) ↔ ((from : ℕ) × (from < n) × Any (λ e. (e.to.0 ≡ b) × IsClash tasks from e) (edges_of blocks from))

pub AllClashMarks-none : (blocks : List BlockEdges) (tasks : List Task) (marks : List Bool) → length marks ≡ length blocks → ((b : ℕ) → get_or marks b false ≡ false) → AllClashMarks blocks 0 tasks marks
AllClashMarks-none blocks tasks marks size none = record {
  size = size;
  exact = λ b l. (λ h. absurd (true≢false (sym h ∙ none b)), λ p. absurd (omega (arith, p.1)));
}

-- a block that no path leads to
pub AllClashMarks-skip : (blocks : List BlockEdges) (n : ℕ) (tasks : List Task) (marks : List Bool) → is_seen (task_at tasks n) ≡ false → AllClashMarks blocks n tasks marks → AllClashMarks blocks (n + 1) tasks marks
AllClashMarks-skip blocks n tasks marks unseen m = record {
  size = m.size;
  exact = λ b l. (
    λ h. let p = (m.exact b l).0 h in (p.0, omega (arith, p.1), p.2),
    λ p. ⊎_elim
        (λ same. absurd (true≢false (sym (rw same at p.2.4.1.0) ∙ unseen)))
        (λ other. (m.exact b l).1 (p.0, omega (arith, p.1, other), p.2))
        (cases_eq p.0 n),
  );
}

pub AllClashMarks-next : (blocks : List BlockEdges) (n : ℕ) (edges : List Edge) (tasks : List Task) (marks marks' : List Bool) → length tasks ≡ length blocks → edges_of blocks n ≡ edges → AllClashMarks blocks n tasks marks → length marks' ≡ length marks → ((b : ℕ) → b < length tasks → (get_or marks' b false ≡ true) ↔ ((get_or marks b false ≡ true) ⊎ Any (λ e. (e.to.0 ≡ b) × IsClash tasks n e) edges)) → AllClashMarks blocks (n + 1) tasks marks'
AllClashMarks-next blocks n edges tasks marks marks' sized read m size step = record {
  size = size ∙ m.size;
  exact = λ b l.
      let w : b < length tasks = rw sized l in (
        λ h. ⊎_elim
            (λ old. let p = (m.exact b l).0 old in (p.0, omega (arith, p.1), p.2))
            (λ any. (n, omega arith, rw read any))
            ((step b w).0 h),
        λ p. (step b w).1 (⊎_elim
            (λ same. inr (rw (← read, ← same) p.2))
            (λ other. inl ((m.exact b l).1 (p.0, omega (arith, p.1, other), p.2)))
            (cases_eq p.0 n)),
      );
}

pub AllClashMarks-all : (blocks : List BlockEdges) (n : ℕ) (tasks : List Task) (marks : List Bool) → length blocks ≤ n → AllClashMarks blocks n tasks marks → (b : ℕ) → b < length blocks → (get_or marks b false ≡ true) ↔ HasClash blocks tasks b
AllClashMarks-all blocks n tasks marks past m b l = (
  λ h. let p = (m.exact b l).0 h in (p.0, p.2),
  λ p. ⊎_elim
      (λ w. (m.exact b l).1 (p.0, w, p.1))
      (λ g. let none = rw (no_edges_past blocks p.0 (omega (arith, g, past))) at p.1 in absurd (omega (arith, none.2)))
      (cases_lt p.0 n),
)

pub clash_all : (from : ℕ) (edges : List Edge) (i : ℕ) (tasks : List Task) (marks marks' : List Bool) → length edges ≤ i → ClashMarks from (take i edges) tasks marks marks' → (b : ℕ) → b < length tasks → (get_or marks' b false ≡ true) ↔ ((get_or marks b false ≡ true) ⊎ Any (λ e. (e.to.0 ≡ b) × IsClash tasks from e) edges)
clash_all from edges i tasks marks marks' past m b l =
    let whole = rw (take_all {A = Edge} i edges past) at (m.exact b l) in
    whole
