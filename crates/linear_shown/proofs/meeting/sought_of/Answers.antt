use Rattle.std.proofs.Common.{◌≡◌, ◌%◌, ◌/◌}
use Rattle.linear_shown.proofs.Passing.{shared_total, none_shared}
use Rattle.linear_shown.proofs.meeting.sought_of.Goals as goal

pub returns-then-total-from-ne0-clause-none : goal.returns-then-total-from-ne0-clause-none
returns-then-total-from-ne0-clause-none c = λ x y balance.
    let shared = c.shared_factor-shared.result in
    let parts = c.shared_factor-shared.ensures in
    let odd : (c.total_of-total.result % shared ≡ 0) → ⊥ = rw c.from.ensures at c.if-total-from-ne0.true in
    none_shared c.args.key shared (c.args.a / shared) (c.args.b / shared) c.total_of-total.result x y odd (rw (parts.first, parts.second) c.total_of-total.ensures) (rw (parts.first, parts.second) balance)

pub returns-clause-total : goal.returns-clause-total
returns-clause-total c = λ x y balance.
    let shared = c.shared_factor-shared.result in
    let parts = c.shared_factor-shared.ensures in
    let even : c.total_of-total.result % shared ≡ 0 = rw c.from.ensures at c.if-total-from-ne0.false in
    rw c.from-2.ensures
    (shared_total c.args.key shared (c.args.a / shared) (c.args.b / shared) c.total_of-total.result x y parts.some even (rw (parts.first, parts.second) c.total_of-total.ensures) (rw (parts.first, parts.second) balance))
