use Rattle.std.proofs.Common.{◌∙◌, ◌≤◌, ap, sym, subst, arith, rules, w64, ℕ, List, set, true}
use Rattle.std.specs.Prelude.{FitsSigned}
use Rattle.std.proofs.lemmas.Int.{to_z-of_z}
use Rattle.std.proofs.lemmas.List.{length-set}
use Rattle.strand_pages.specs.Marks.{AreMarked, mark_of}
use Rattle.strand_pages.specs.declared.added.Added.{Added}
use Rattle.strand_pages.proofs.Marked.{marked_more}
use Rattle.strand_pages.proofs.added.AddList.push.Goals as goal

pub invariant_of-self : goal.invariant_of-self
invariant_of-self c =
    let marks = c.self.inside.marks.items in
    let m = c.mark-mark.result in
    let low = c.mark-mark.ensures.within in
    let long = c.self.invariant.1 in
    let fits : FitsSigned w64 c.args.at.now = search rules in (
      subst (λ (n : ℕ). 16384 ≤ n) (sym c.push_reserved.ensures.capacity) c.self.invariant.0,
      length-set marks m true ∙ long,
      subst (λ (adds : List Added). AreMarked (set marks m true) adds) (sym c.push_reserved.ensures.items)
          (marked_more marks c.self.inside.adds.items _ m (c.mark-mark.ensures.is ∙ ap mark_of (sym (to_z-of_z w64 c.args.at.now fits))) (omega (arith, low, long)) c.self.invariant.2),
    )
