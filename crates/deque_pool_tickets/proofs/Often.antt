-- What was offered is what was taken and what is left.
use Rattle.std.proofs.Common.{[], ◌∷◌, ◌++◌, sym, ap, arith}
use Rattle.std.specs.Prelude.{sum_by}
use Rattle.std.proofs.lemmas.List.Sums.{sum_by-cons, sum_by_push}
use Rattle.deque_pool_tickets.specs.declared.ticket_list.Move.TheVariants.{Offer, Newest, Oldest}
use Rattle.deque_pool_tickets.specs.TicketList.{EachAsOften, offered_in, taken_in}

pub each_as_often : EachAsOften
each_as_often [] tickets weight h = let e = ap (sum_by weight) (sym h) in omega (arith, e)
each_as_often ((seat, Offer t) ∷ log) tickets weight h =
    let rest = each_as_often log h.1.0 weight h.1.2 in
    let longer = ap (sum_by weight) h.1.1 in
    omega (arith, rest, longer, sum_by-cons weight t (offered_in log), sum_by_push weight h.1.0 t)
each_as_often ((seat, Newest t) ∷ log) tickets weight h =
    let rest = each_as_often log (tickets ++ t ∷ []) weight h.1 in
    omega (arith, rest, sum_by-cons weight t (taken_in log), sum_by_push weight tickets t)
each_as_often ((seat, Oldest t) ∷ log) tickets weight h =
    let rest = each_as_often log (t ∷ tickets) weight h.1 in
    omega (arith, rest, sum_by-cons weight t (taken_in log), sum_by-cons weight t tickets)
