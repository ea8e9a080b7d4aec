use Rattle.std.proofs.Common.{◌≡◌, ◌∙◌, ◌<◌, ◌≤◌, ◌/◌, ◌+◌, ap, sym, subst, arith, length, set, ℕ}
use Rattle.std.specs.Prelude.{slice_index}
use Rattle.strand_pages.specs.Holding.{page_table_of}
use Rattle.strand_pages.specs.Logs.{with_page}
use Rattle.strand_pages.specs.Pages.{blank_page}
use Rattle.strand_pages.specs.Tables.{IsTable, PageTable, entry_of, pages_log}
use Rattle.strand_pages.proofs.Paged.{opened_log, opened_table}
use Rattle.strand_pages.proofs.table.Pages.open_next.Goals as goal

pub begin-requires-clause-next : goal.begin-requires-clause-next
begin-requires-clause-next c = c.self.invariant.0.made

pub begin-requires-clause-room : goal.begin-requires-clause-room
begin-requires-clause-room c =
    let used = ap (λ (t : PageTable). t.used) c.self.view_is in
    let few = c.in-Some.ensures.some.1 in
    let room = c.self.invariant.1 in
    omega (arith, used, few, room)

abbrev with_number : goal.After-self-in-Some-1 → ℕ → PageTable
with_number c m = record { directory = set c.self.inside.directory.items m (c.self.inside.used + 1); pages = c.begin.new.pages.items; used = c.self.inside.used + 1 }

opened : (c : goal.After-self-in-Some-1) → IsTable (with_number c c.in-Some.number) × (pages_log (with_number c c.in-Some.number) ≡ with_page (pages_log (page_table_of c.self.inside)) c.args.at.now)
opened c =
    let t = page_table_of c.self.inside in
    let ok = c.self.invariant.0 in
    let n = c.in-Some.ensures.real.0 in
    let is = c.in-Some.ensures.real.1 in
    let page : c.in-Some.number ≡ n / 64 = c.in-Some.ensures.number.1 n is in
    let used = ap (λ (t : PageTable). t.used) c.self.view_is in
    let long = ap (λ (t : PageTable). length t.directory) c.self.view_is in
    let few = c.in-Some.ensures.some.1 in
    let room : c.self.inside.used < 512 = omega (arith, used, few) in
    let below = c.in-Some.ensures.number.0 in
    let inside : n / 64 < length c.self.inside.directory.items = omega (arith, page, long, below) in
    let free : slice_index c.self.inside.directory.items (n / 64) ≡ 0 = sym (ap (entry_of c.self.inside.directory.items) is) ∙ ap (λ (t : PageTable). entry_of t.directory c.args.at.now) c.self.view_is ∙ c.requires in
    let (q, there, made) = c.begin.ensures.blank in
    let blank = made ∙ ap blank_page page in
    let one = opened_table t ok n room inside free c.begin.new.pages.items q there c.begin.ensures.others blank (c.self.inside.used + 1) (c.self.inside.used + 1) (omega arith) (omega arith) in
    let two = opened_log t ok n room inside free c.begin.new.pages.items q there c.begin.ensures.others blank (c.self.inside.used + 1) (c.self.inside.used + 1) (omega arith) (omega arith) in (
      subst (λ (m : ℕ). IsTable (with_number c m)) (sym page) one,
      subst (λ (m : ℕ). pages_log (with_number c m) ≡ with_page (pages_log t) c.args.at.now) (sym page) (two ∙ ap (with_page (pages_log t)) (sym is)),
    )

pub invariant_of-self : goal.invariant_of-self
invariant_of-self c = ((opened c).0, subst (λ (n : ℕ). 512 ≤ n) (sym c.begin.ensures.room) c.self.invariant.1)

pub returns-in-Some-clause-opened : goal.returns-in-Some-clause-opened
returns-in-Some-clause-opened c = (opened c).1 ∙ ap (λ (t : PageTable). with_page (pages_log t) c.args.at.now) c.self.view_is
