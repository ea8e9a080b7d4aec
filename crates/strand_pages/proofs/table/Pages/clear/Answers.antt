use Rattle.std.proofs.Common.{◌≡◌, ℕ, List, length, sym, ap, ◌∙◌, arith}
use Rattle.std.specs.Prelude.{slice_index}
use Rattle.std.specs.Vec.{with_items}
use Rattle.std.proofs.lemmas.List.{with_items_is}
use Rattle.strand_pages.specs.Tables.{PageTable}
use Rattle.strand_pages.proofs.Paged.{unused_log, unused_table}
use Rattle.strand_pages.proofs.table.Pages.clear.Goals as goal

pub invariant_of-self : goal.invariant_of-self
invariant_of-self c =
    let d = c.self.inside.directory in
    let new = c.forget.new.directory in
    let long : length new ≡ length d.items = c.forget.ensures.long ∙ ap (λ (xs : List ℕ). length xs) c.as_mut_slice.ensures.value in
    let same : (with_items d new).items ≡ new = with_items_is d new (long ∙ sym d.ok.0) in
    let count = ap (λ (xs : List ℕ). length xs) same in
    let numbers = c.self.invariant.0.numbers in
    (unused_table (with_items d new).items c.self.inside.pages.items (λ n. ap (λ (xs : List ℕ). slice_index xs n) same ∙ c.forget.ensures.none n) (omega (arith, count, long, numbers)), c.self.invariant.1)

pub returns : goal.returns
returns c =
    let d = c.self.inside.directory in
    let new = c.forget.new.directory in
    let long : length new ≡ length d.items = c.forget.ensures.long ∙ ap (λ (xs : List ℕ). length xs) c.as_mut_slice.ensures.value in
    let same : (with_items d new).items ≡ new = with_items_is d new (long ∙ sym d.ok.0) in
    unused_log (with_items d new).items c.self.inside.pages.items (λ n. ap (λ (xs : List ℕ). slice_index xs n) same ∙ c.forget.ensures.none n) (length c.args.self.now.directory)
    (ap (λ (xs : List ℕ). length xs) same ∙ (long ∙ ap (λ (t : PageTable). length t.directory) c.self.view_is))
