use Rattle.std.proofs.Common.{◌≡◌, ℕ, refl, ap, ◌∙◌, arith, length, max}
use Rattle.std.specs.Prelude.{slice_index}
use Rattle.strand_pages.specs.Holding.{page_table_of}
use Rattle.strand_pages.specs.Logs.{Log, pages_of}
use Rattle.strand_pages.specs.Tables.{PageTable, pages_log}
use Rattle.strand_pages.proofs.Paged.{same_index, wider_log, wider_table}
use Rattle.strand_pages.proofs.table.Pages.widen.Goals as goal

long : (c : goal.In_ok-resize) → length c.resize.new.self.items ≡ c.page_count-count.result
long c = let made = c.in_ok-resize.ensures.len in let same = c.resize.new.self.ok.0 in omega (arith, made, same)

same : (c : goal.In_ok-resize) (k : ℕ) → slice_index c.resize.new.self.items k ≡ slice_index c.self.inside.directory.items k
same c =
    let len = c.len.ensures in
    let old = c.self.inside.directory.ok.0 in
    let more = c.if-count-len.true in
    let count = long c in
    same_index c.self.inside.directory.items c.resize.new.self.items (λ k lt. c.in_ok-resize.ensures.by_index.0 k 0 (omega (arith, lt, len, old, more)) (omega (arith, lt, old)))
    (λ k le lt. c.in_ok-resize.ensures.by_index.1 k 0 refl (omega (arith, le, old)) (omega (arith, lt, count)))

pub invariant_of-self : goal.invariant_of-self
invariant_of-self c =
    let count = long c in
    let is = c.page_count-count.ensures in
    (wider_table (page_table_of c.self.inside) c.self.invariant.0 c.resize.new.self.items (same c) (omega (arith, count, is)), c.self.invariant.1)

pub returns-in_ok-resize-clause-wide : goal.returns-in_ok-resize-clause-wide
returns-in_ok-resize-clause-wide c =
    let len = c.len.ensures in
    let old = c.self.inside.directory.ok.0 in
    let more = c.if-count-len.true in
    let is = c.page_count-count.ensures in
    let seen = ap (λ (t : PageTable). length t.directory) c.self.view_is in
    let most : c.page_count-count.result ≡ max (length c.args.self.now.directory) (pages_of c.args.cells) = omega (arith, len, old, more, is, seen) in
    wider_log (page_table_of c.self.inside) c.self.invariant.0 c.resize.new.self.items (same c) (max (length c.args.self.now.directory) (pages_of c.args.cells)) (long c ∙ most) ∙
    ap (λ (t : PageTable). wide (pages_log t)) c.self.view_is
  where
    wide : Log → Log
    wide x = record x { pages = max (length c.args.self.now.directory) (pages_of c.args.cells) }
