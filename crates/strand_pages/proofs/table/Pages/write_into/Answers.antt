use Rattle.std.proofs.Common.{◌≡◌, ap, subst, arith, ℕ}
use Rattle.strand_pages.specs.Tables.{PageTable}
use Rattle.strand_pages.proofs.Committed.{PutUpTo, number_fits, put_no_page, put_page, put_pages, written_within}
use Rattle.strand_pages.proofs.Slots.{is_table, is_used, page_is}
use Rattle.strand_pages.proofs.table.Pages.write_into.Goals as goal

pub write_into-requires-clause-number : goal.write_into-requires-clause-number
write_into-requires-clause-number c =
    let x = c.self.inside in
    let t = c.args.self.now in
    let v = c.self.view_is in
    let ok = c.self.invariant.0 in
    let slot = c.loop-slot.slot in
    let lt = c.loop-slot-test.true in
    number_fits t (is_table x t v ok) slot c.index.result.now (is_used x t v ok slot lt) (page_is x t v ok slot lt c.index.result.now c.index.ensures)

pub write_into-requires-clause-within : goal.write_into-requires-clause-within
write_into-requires-clause-within c =
    let x = c.self.inside in
    let t = c.args.self.now in
    let v = c.self.view_is in
    let ok = c.self.invariant.0 in
    let slot = c.loop-slot.slot in
    let lt = c.loop-slot-test.true in
    written_within t (is_table x t v ok) c.args.row.now c.loop-slot.row c.loop-slot.invariant.long c.requires slot c.index.result.now (is_used x t v ok slot lt)
    (page_is x t v ok slot lt c.index.result.now c.index.ensures)

pub loop-slot-init : goal.loop-slot-init
loop-slot-init c = put_no_page c.args.self.now (is_table c.self.inside c.args.self.now c.self.view_is c.self.invariant.0) c.args.row.now

pub loop-slot-preserved : goal.loop-slot-preserved
loop-slot-preserved c =
    let x = c.self.inside in
    let t = c.args.self.now in
    let v = c.self.view_is in
    let ok = c.self.invariant.0 in
    let slot = c.loop-slot.slot in
    let lt = c.loop-slot-test.true in
    put_page t (is_table x t v ok) c.args.row.now c.loop-slot.row c.write_into.new.row slot c.loop-slot.invariant c.index.result.now (is_used x t v ok slot lt)
    (page_is x t v ok slot lt c.index.result.now c.index.ensures) c.write_into.ensures

pub returns : goal.returns
returns c =
    let same = ap (λ (t : PageTable). t.used) c.self.view_is in
    let end = c.loop-slot-test.false in
    let most = c.loop-slot.auto.slot-end in
    let all : c.loop-slot.slot ≡ c.args.self.now.used = omega (arith, same, end, most) in
    put_pages c.args.self.now (is_table c.self.inside c.args.self.now c.self.view_is c.self.invariant.0) c.args.row.now c.loop-slot.row
    (subst (λ (i : ℕ). PutUpTo c.args.self.now c.args.row.now c.loop-slot.row i) all c.loop-slot.invariant)
