use Rattle.std.proofs.Common.{◌≡◌, Some, sym, ◌∙◌, arith}
use Rattle.std.proofs.lemmas.Bool.{true≢false}
use Rattle.definedness.proofs.Settling.{notes_none, notes_one}
use Rattle.definedness.proofs.settle.note_end.Goals as goal

pub returns-in_ok-push : goal.returns-in_ok-push
returns-in_ok-push c = rw c.in_ok-push.ensures.items (notes_one c.args.stops.now c.args.forks.now c.args.block _ _ c.in-Some.detach (omega (arith, c.if-detach-len.true, c.len.ensures, c.args.lacking.now.ok.0)) ((c.ended_by.ensures c.in-Some.detach).0 c.in-Some.is) (λ st. true≢false (sym st ∙ sym c.is_stored.ensures ∙ c.if-is_stored.false)))

pub returns-else-detach-len : goal.returns-else-detach-len
returns-else-detach-len c = notes_none c.args.stops.now c.args.forks.now c.args.block _ _ (λ d w ends unstored.
    let found : c.ended_by.result ≡ Some d = (c.ended_by.ensures d).1 ends in
    let at = c.in-Some.is in
    let e : d ≡ c.in-Some.detach = cc in
    omega (arith, w, e, c.if-detach-len.false, c.len.ensures, c.args.lacking.now.ok.0))

pub returns-in_default : goal.returns-in_default
returns-in_default c = notes_none c.args.stops.now c.args.forks.now c.args.block _ _ (λ d w ends unstored.
    let found : c.ended_by.result ≡ Some d = (c.ended_by.ensures d).1 ends in
    let none = c.in_default.is in
    cc)
