use Rattle.std.proofs.Common.{◌≡◌, ◌≤◌, ◌+◌, ◌-◌, ◌*◌, ◌<◌, ◌||◌, ◌∙◌, Bool, true, ap, arith, sym, rules, w64, length}
use Rattle.std.specs.Prelude.{FitsSigned}
use Rattle.std.proofs.lemmas.Int.{to_z-of_z}
use Rattle.std.proofs.lemmas.List.{length-set}
use Rattle.semantics.specs.Arithmetic.{cell_sum}
use Rattle.strand_pages.specs.Bits.{is_set}
use Rattle.strand_pages.specs.Paging.{number_at}
use Rattle.strand_pages.proofs.Addresses.{get_set_other}
use Rattle.strand_pages.proofs.Rows.{delta_then, is_written, put_delta, put_one}
use Rattle.strand_pages.proofs.page.Page.put_from.Goals as goal

pub returns-clause-put : goal.returns-clause-put
returns-clause-put c =
    let x = c.args.self.now in
    let k = c.args.place in
    let row = c.args.row.now in
    let at = x.number * 64 + k in
    let off = sym c.if-is_set.ensures in
    let within : at < length row = c.requires.within k c.requires.place (is_written x k c.requires.written) in
    let fit : FitsSigned w64 c.sum.result = search rules in
    let held : FitsSigned w64 (number_at row at) = search rules in
    let change : FitsSigned w64 (number_at x.changes k) = search rules in
    put_one x k row _ (length-set row at _)
    (put_delta x row at k _ within off (delta_then (is_set x.stored k) (is_set x.delta k) c.requires.written off)
    (to_z-of_z w64 c.sum.result fit ∙ c.sum.ensures ∙ (λ i. cell_sum (to_z-of_z w64 (number_at row at) held i) (to_z-of_z w64 (number_at x.changes k) change i))))
    (λ i away. get_set_other row at i _ away)

pub put_stored-requires-clause-some : goal.put_stored-requires-clause-some
put_stored-requires-clause-some c = c.run_end-end.ensures.later

pub put_stored-requires-clause-page : goal.put_stored-requires-clause-page
put_stored-requires-clause-page c = c.run_end-end.ensures.within

pub put_stored-requires-clause-stored : goal.put_stored-requires-clause-stored
put_stored-requires-clause-stored c = c.run_end-end.ensures.set

pub put_stored-requires-clause-row : goal.put_stored-requires-clause-row
put_stored-requires-clause-row c =
    let x = c.args.self.now in
    let later = c.run_end-end.ensures.later in
    let most = c.run_end-end.ensures.within in
    let k = c.run_end-end.result - 1 in
    let from : c.args.place ≤ k = omega (arith, later) in
    let below : k < c.run_end-end.result = omega (arith, later) in
    let low : k < 64 = omega (arith, below, most) in
    let on : is_set x.stored k ≡ true = c.run_end-end.ensures.set k from below in
    let there = c.requires.within k low (is_written x k (ap (λ (t : Bool). t || is_set x.delta k) on)) in
    omega (arith, there, later)

pub returns-then-is_set-clause-later : goal.returns-then-is_set-clause-later
returns-then-is_set-clause-later c = c.run_end-end.ensures.later

pub returns-then-is_set-clause-page : goal.returns-then-is_set-clause-page
returns-then-is_set-clause-page c = c.run_end-end.ensures.within

pub returns-then-is_set-clause-put : goal.returns-then-is_set-clause-put
returns-then-is_set-clause-put c = c.put_stored.ensures

pub returns-clause-later : goal.returns-clause-later
returns-clause-later c = omega arith

pub returns-clause-page : goal.returns-clause-page
returns-clause-page c = let place = c.requires.place in omega (arith, place)
