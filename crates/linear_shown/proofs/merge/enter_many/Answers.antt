use Rattle.std.proofs.Common.{◌≡◌, ◌∙◌, ℕ, ◌+◌, ◌++◌, Bool, true, suc, length, List, sym, subst, arith}
use Rattle.std.specs.List.{Contains}
use Rattle.std.proofs.lemmas.Bool.{false≢true, not-true}
use Rattle.linear_shown.specs.declared.index.Entry.{Entry}
use Rattle.linear_shown.specs.Index.{place_at, IsBegun, IsContradiction, HasPlaces}
use Rattle.linear_shown.proofs.Merging.{begun_many}
use Rattle.linear_shown.proofs.merge.enter_many.Goals.{then-from, else-from}
use Rattle.linear_shown.proofs.merge.enter_many.Goals as goal

pub returns-after-from-clause-some : goal.returns-after-from-clause-some
returns-after-from-clause-some c =
    let facts = c.args.facts.now in
    let settled = c.args.settled.now in
    let old = c.args.recent.now.items in
    let fresh = c.in-Some.fresh.items in
    let all = c.merge_into.new.entries.items in
    let has : HasPlaces facts c.args.from.count (suc (length facts)) fresh = rw c.in-Some.is at c.in_ok-fresh.ensures in
    let entered = rw c.as_slice.ensures.value at c.in_ok-merge_into-in-Some.ensures.entered in
    let begun : (r : Bool) → (r ≡ true → c.args.from.is_consistent ≡ true) →
    (r ≡ true → (e d : Entry) → Contains fresh e → Contains (settled ++ all) d → IsContradiction (place_at facts e.place) (place_at facts d.place) → ⊥) →
    IsBegun facts (length facts + 1) settled all r = λ r before none.
    subst (λ (n : ℕ). IsBegun facts n settled all r) (omega arith)
    (begun_many facts c.args.from.count settled old fresh all c.args.from.is_consistent r c.requires has c.in_ok-merge_into-in-Some.ensures.entries c.in_ok-merge_into-in-Some.ensures.kept entered before none) in
    elim c.if-from.branch [
      | then-from w ↦ begun c.if-from.is_consistent (λ _. w.if-from.true) (λ is e d e_in d_in s.
          w.one_contradicts_both.ensures e d (not-true w.one_contradicts_both.result (sym w.is_consistent-is ∙ is))
          (subst (λ (xs : List Entry). Contains xs e) (sym w.as_slice-then-from-2.ensures.value) e_in)
          (subst (λ (xs : List Entry). Contains (settled ++ xs) d) (sym w.as_slice-then-from.ensures.value) d_in) s)
      | else-from w ↦ begun c.if-from.is_consistent (λ is. sym w.is_consistent-is ∙ is) (λ is. absurd (false≢true (sym w.if-from.false ∙ (sym w.is_consistent-is ∙ is))))
    ]
