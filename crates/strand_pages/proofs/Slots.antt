-- The page at a slot of a log.
use Rattle.std.proofs.Common.{◌≡◌, ◌<◌, ◌∙◌, ℕ, ap, sym, subst, refl, arith, length, get_or, Some}
use Rattle.std.specs.Prelude.{slice_get}
use Rattle.std.proofs.lemmas.Option.{slice_get_read}
use Rattle.strand_pages.specs.Holding.{page_table_of}
use Rattle.strand_pages.specs.Tables.{IsTable, PageTable}
use Rattle.strand_pages.specs.declared.table.Pages.TheInside.{Inside}
use Rattle.strand_pages.specs.declared.page.Page.{Page}

module _ (x : Inside) (t : PageTable) (view : page_table_of x ≡ t) (ok : IsTable (page_table_of x)) where
  pub is_table : IsTable t
  is_table = subst IsTable view ok

  module _ (slot : ℕ) (lt : slot < x.used) where
    pub is_used : slot < t.used
    is_used = let same = ap (λ (y : PageTable). y.used) view in omega (arith, lt, same)

    pub page_is : (p : Page) → p ≡ get_or x.pages.items slot p → slice_get t.pages slot ≡ Some p
    page_is p e =
        let made = ok.made in
        ap (λ (y : PageTable). slice_get y.pages slot) (sym view) ∙ slice_get_read x.pages.items (length x.pages.items) slot p refl (omega (arith, lt, made)) e
