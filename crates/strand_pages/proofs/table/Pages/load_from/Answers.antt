use Rattle.std.proofs.Common.{◌≡◌, ◌∙◌, ap, subst, refl, arith, length, Some, ℕ, suc}
use Rattle.std.specs.Prelude.{slice_get}
use Rattle.std.proofs.lemmas.Option.{slice_get_read}
use Rattle.strand_pages.specs.Holding.{page_table_of}
use Rattle.strand_pages.specs.Known.{value_of}
use Rattle.strand_pages.specs.Logs.{loaded_log, value_at}
use Rattle.strand_pages.specs.Pages.{loaded_page}
use Rattle.strand_pages.specs.Paging.{kept_of}
use Rattle.strand_pages.specs.Tables.{IsTable, PageTable, entry_of, pages_log}
use Rattle.strand_pages.proofs.Paged.{loaded_table, repaged, slot_within, value_here}
use Rattle.strand_pages.proofs.table.Pages.load_from.Goals as goal

pub index_mut-requires : goal.index_mut-requires
index_mut-requires c =
    let at = ap (λ (t : PageTable). entry_of t.directory c.args.at.now) c.self.view_is ∙ c.requires in
    let lt = slot_within (page_table_of c.self.inside) c.self.invariant.0 c.args.at.now c.args.slot at in
    let long = c.self.inside.pages.ok.0 in
    omega (arith, lt, long)

at : (c : goal.After-self-1) → entry_of c.self.inside.directory.items c.args.at.now ≡ suc c.args.slot
at c = ap (λ (t : PageTable). entry_of t.directory c.args.at.now) c.self.view_is ∙ c.requires

is : (c : goal.After-self-1) → slice_get c.self.inside.pages.items c.args.slot ≡ Some c.index_mut.result.now
is c = slice_get_read c.self.inside.pages.items (length c.self.inside.pages.items) c.args.slot c.index_mut.result.now refl (slot_within (page_table_of c.self.inside) c.self.invariant.0 c.args.at.now c.args.slot (at c)) c.index_mut.ensures.value

loaded : (c : goal.After-self-1) → IsTable (repaged (page_table_of c.self.inside) c.self.invariant.0 c.args.slot c.index_mut.result.now c.load.new.self (is c)) ×
    (pages_log (repaged (page_table_of c.self.inside) c.self.invariant.0 c.args.slot c.index_mut.result.now c.load.new.self (is c)) ≡ loaded_log (pages_log (page_table_of c.self.inside)) c.args.at.now)
loaded c = loaded_table (page_table_of c.self.inside) c.self.invariant.0 c.args.slot c.index_mut.result.now c.load.new.self (is c) c.args.at.now (at c)
    (subst (λ (k : ℕ). kept_of c.load.new.self ≡ loaded_page (kept_of c.index_mut.result.now) k) c.place.ensures.is c.load.ensures.done)

pub invariant_of-self : goal.invariant_of-self
invariant_of-self c = ((loaded c).0, c.self.invariant.1)

pub returns-clause-done : goal.returns-clause-done
returns-clause-done c = (loaded c).1 ∙ ap (λ (t : PageTable). loaded_log (pages_log t) c.args.at.now) c.self.view_is

pub returns-clause-value : goal.returns-clause-value
returns-clause-value c =
    c.load.ensures.value ∙ ap (λ (k : ℕ). value_of ((kept_of c.index_mut.result.now).writes k) ((kept_of c.index_mut.result.now).near k)) c.place.ensures.is ∙
    value_here (page_table_of c.self.inside) c.self.invariant.0 c.args.slot c.index_mut.result.now c.load.new.self (is c) c.args.at.now (at c) ∙ ap (λ (t : PageTable). value_at (pages_log t) c.args.at.now) c.self.view_is
