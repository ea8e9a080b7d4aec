use Rattle.std.proofs.Common.{◌≡◌, ◌<◌, ◌∙◌, ap, refl, sym, arith, false, get_or, length, ℕ, Some}
use Rattle.std.specs.Prelude.{slice_get}
use Rattle.std.proofs.lemmas.Option.{same_Some, slice_get-get_or, slice_get_read}
use Rattle.strand_pages.specs.Marks.{mark_of}
use Rattle.strand_pages.specs.Tables.{pages_log, taken_in}
use Rattle.strand_pages.proofs.Marked.{unmarked}
use Rattle.strand_pages.proofs.added.AddList.give.Goals as goal

pub returns-else-index : goal.returns-else-index
returns-else-index c =
    let marks = c.self.inside.marks.items in
    let m = c.mark.result in
    let on = c.index.result.now in
    let x = pages_log c.args.pages.now in
    let low = c.mark.ensures.within in
    let long = c.self.invariant.1 in
    let lt : m < length marks = omega (arith, low, long) in
    let read : slice_get marks m ≡ Some on = slice_get_read marks (length marks) m on refl lt c.index.ensures in
    let off : get_or marks (mark_of c.args.at.now) false ≡ false =
    ap (λ (j : ℕ). get_or marks j false) (sym c.mark.ensures.is) ∙ same_Some (get_or marks m false) on (sym (slice_get-get_or marks m false lt) ∙ read) ∙ c.if-index.false in
    sym (unmarked x c.args.at.now c.requires marks c.self.inside.adds.items c.self.invariant.2 off) ∙ ap (taken_in x c.args.at.now) c.self.view_is
