use Rattle.std.proofs.Common.{◌∙◌, ap, sym, subst, refl, arith, inl, inr}
use Rattle.std.specs.Prelude.{slice_get}
use Rattle.std.proofs.lemmas.Bool.Decides.{eqb_tells}
use Rattle.std.proofs.lemmas.Option.{same_Some}
use Rattle.strand_pages.specs.Committing.{PageAgrees}
use Rattle.strand_pages.specs.Paging.{kept_of}
use Rattle.strand_pages.specs.Tables.{PageTable}
use Rattle.strand_pages.specs.declared.page.Page.{Page}
use Rattle.strand_pages.proofs.Committed.{number_fits, table_agrees, table_differs}
use Rattle.strand_pages.proofs.Slots.{is_table, is_used, page_is}
use Rattle.strand_pages.proofs.table.Pages.reads_agree.Goals as goal

pub agrees-requires : goal.agrees-requires
agrees-requires c =
    let x = c.self.inside in
    let t = c.args.self.now in
    let v = c.self.view_is in
    let ok = c.self.invariant.0 in
    let slot = c.loop-slot.slot in
    let lt = c.loop-slot-test.true in
    number_fits t (is_table x t v ok) slot c.index.result.now (is_used x t v ok slot lt) (page_is x t v ok slot lt c.index.result.now c.index.ensures)

pub returns-then-not-agrees : goal.returns-then-not-agrees
returns-then-not-agrees c =
    let x = c.self.inside in
    let t = c.args.self.now in
    let v = c.self.view_is in
    let ok = c.self.invariant.0 in
    let slot = c.loop-slot.slot in
    let lt = c.loop-slot-test.true in (
      λ h a z e. absurd (let bad = h in cc),
      λ g. absurd (
          table_differs t (is_table x t v ok) c.args.row.now slot c.index.result.now (is_used x t v ok slot lt) (page_is x t v ok slot lt c.index.result.now c.index.ensures)
          (c.if-not-agrees.ensures.no refl) g),
    )

pub loop-slot-preserved : goal.loop-slot-preserved
loop-slot-preserved c s p lt there =
    let here = page_is c.self.inside c.args.self.now c.self.view_is c.self.invariant.0 c.loop-slot.slot c.loop-slot-test.true c.index.result.now c.index.ensures in
    elim (eqb_tells s c.loop-slot.slot) [
      | inl q ↦
          let same = same_Some c.index.result.now p (sym here ∙ ap (slice_get c.args.self.now.pages) (sym q.1) ∙ there) in
          subst (λ (o : Page). PageAgrees (kept_of o) c.args.row.now) same (c.if-not-agrees.ensures.yes refl)
      | inr q ↦ let off = q.1 in c.loop-slot.invariant s p (omega (arith, off, lt)) there
    ]

pub returns : goal.returns
returns c =
    let same = ap (λ (t : PageTable). t.used) c.self.view_is in
    let end = c.loop-slot-test.false in (
      λ h. table_agrees c.args.self.now (is_table c.self.inside c.args.self.now c.self.view_is c.self.invariant.0) c.args.row.now (λ s p lt there. c.loop-slot.invariant s p (omega (arith, lt, same, end)) there),
      λ g. refl,
    )
