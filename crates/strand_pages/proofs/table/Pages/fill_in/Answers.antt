use Rattle.std.proofs.Common.{◌≡◌, ◌∙◌, ap, refl, arith, length, Some, suc}
use Rattle.std.specs.Prelude.{slice_get}
use Rattle.std.proofs.lemmas.Option.{slice_get_read}
use Rattle.strand_pages.specs.Holding.{page_table_of}
use Rattle.strand_pages.specs.Logs.{with_values}
use Rattle.strand_pages.specs.Tables.{IsTable, PageTable, entry_of, pages_log}
use Rattle.strand_pages.proofs.Paged.{filled_table, repaged, slot_within}
use Rattle.strand_pages.proofs.table.Pages.fill_in.Goals as goal

pub index_mut-requires : goal.index_mut-requires
index_mut-requires c =
    let at = ap (λ (t : PageTable). entry_of t.directory c.args.at.now) c.self.view_is ∙ c.requires.found in
    let lt = slot_within (page_table_of c.self.inside) c.self.invariant.0 c.args.at.now c.args.slot at in
    let long = c.self.inside.pages.ok.0 in
    omega (arith, lt, long)

at : (c : goal.After-self-1) → entry_of c.self.inside.directory.items c.args.at.now ≡ suc c.args.slot
at c = ap (λ (t : PageTable). entry_of t.directory c.args.at.now) c.self.view_is ∙ c.requires.found

is : (c : goal.After-self-1) → slice_get c.self.inside.pages.items c.args.slot ≡ Some c.index_mut.result.now
is c = slice_get_read c.self.inside.pages.items (length c.self.inside.pages.items) c.args.slot c.index_mut.result.now refl (slot_within (page_table_of c.self.inside) c.self.invariant.0 c.args.at.now c.args.slot (at c)) c.index_mut.ensures.value

now : (c : goal.After-self-1) → IsTable (repaged (page_table_of c.self.inside) c.self.invariant.0 c.args.slot c.index_mut.result.now c.fill.new.self (is c)) ×
    (pages_log (repaged (page_table_of c.self.inside) c.self.invariant.0 c.args.slot c.index_mut.result.now c.fill.new.self (is c)) ≡ with_values (pages_log (page_table_of c.self.inside)) c.args.at.now c.args.values.now)
now c = filled_table (page_table_of c.self.inside) c.self.invariant.0 c.args.slot c.index_mut.result.now c.fill.new.self (is c) c.args.at.now (at c) c.args.values.now c.fill.ensures

pub invariant_of-self : goal.invariant_of-self
invariant_of-self c = ((now c).0, c.self.invariant.1)

pub returns : goal.returns
returns c = (now c).1 ∙ ap (λ (t : PageTable). with_values (pages_log t) c.args.at.now c.args.values.now) c.self.view_is
