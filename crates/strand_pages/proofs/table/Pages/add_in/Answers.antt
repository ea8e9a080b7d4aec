use Rattle.std.proofs.Common.{◌≡◌, ◌∙◌, ap, subst, refl, arith, length, Some, ℕ, suc}
use Rattle.std.specs.Prelude.{slice_get}
use Rattle.std.proofs.lemmas.Option.{slice_get_read}
use Rattle.frame_strand.specs.Buffers.{raised_change}
use Rattle.frame_strand.specs.declared.cells.Change.{Change}
use Rattle.strand_pages.specs.Holding.{page_table_of}
use Rattle.strand_pages.specs.Logs.{place_of, with_change}
use Rattle.strand_pages.specs.Pages.{changed_page}
use Rattle.strand_pages.specs.Paging.{kept_of}
use Rattle.strand_pages.specs.Tables.{IsTable, PageTable, entry_of, pages_log}
use Rattle.strand_pages.proofs.Paged.{changed_table, raised_here, repaged, slot_within}
use Rattle.strand_pages.proofs.table.Pages.add_in.Goals as goal

pub index_mut-requires : goal.index_mut-requires
index_mut-requires c =
    let at = ap (λ (t : PageTable). entry_of t.directory c.args.at.now) c.self.view_is ∙ c.requires in
    let lt = slot_within (page_table_of c.self.inside) c.self.invariant.0 c.args.at.now c.args.slot at in
    let long = c.self.inside.pages.ok.0 in
    omega (arith, lt, long)

at : (c : goal.After-self-1) → entry_of c.self.inside.directory.items c.args.at.now ≡ suc c.args.slot
at c = ap (λ (t : PageTable). entry_of t.directory c.args.at.now) c.self.view_is ∙ c.requires

is : (c : goal.After-self-1) → slice_get c.self.inside.pages.items c.args.slot ≡ Some c.index_mut.result.now
is c = slice_get_read c.self.inside.pages.items (length c.self.inside.pages.items) c.args.slot c.index_mut.result.now refl (slot_within (page_table_of c.self.inside) c.self.invariant.0 c.args.at.now c.args.slot (at c)) c.index_mut.ensures.value

now : (c : goal.After-self-1) → IsTable (repaged (page_table_of c.self.inside) c.self.invariant.0 c.args.slot c.index_mut.result.now c.add.new.self (is c)) ×
    (pages_log (repaged (page_table_of c.self.inside) c.self.invariant.0 c.args.slot c.index_mut.result.now c.add.new.self (is c)) ≡
    with_change (pages_log (page_table_of c.self.inside)) c.args.at.now (raised_change c.args.number.now ((pages_log (page_table_of c.self.inside)).writes c.args.at.now) ((pages_log (page_table_of c.self.inside)).reads c.args.at.now)))
now c = changed_table (page_table_of c.self.inside) c.self.invariant.0 c.args.slot c.index_mut.result.now c.add.new.self (is c) c.args.at.now (at c)
    (raised_change c.args.number.now ((pages_log (page_table_of c.self.inside)).writes c.args.at.now) ((pages_log (page_table_of c.self.inside)).reads c.args.at.now))
    (subst (λ (k : ℕ). kept_of c.add.new.self ≡ changed_page (kept_of c.index_mut.result.now) k (raised_change c.args.number.now ((kept_of c.index_mut.result.now).writes k) ((kept_of c.index_mut.result.now).reads k))) c.place.ensures.is c.add.ensures ∙
    ap (λ (u : Change). changed_page (kept_of c.index_mut.result.now) (place_of c.args.at.now) u)
    (raised_here (page_table_of c.self.inside) c.self.invariant.0 c.args.slot c.index_mut.result.now c.add.new.self (is c) c.args.at.now (at c) c.args.number.now))

pub invariant_of-self : goal.invariant_of-self
invariant_of-self c = ((now c).0, c.self.invariant.1)

pub returns : goal.returns
returns c = (now c).1 ∙ ap (λ (t : PageTable). with_change (pages_log t) c.args.at.now (raised_change c.args.number.now ((pages_log t).writes c.args.at.now) ((pages_log t).reads c.args.at.now))) c.self.view_is
