use Rattle.std.proofs.Common.{ℕ, ◌*◌, ◌/◌, refl, ap, ◌∙◌, arith}
use Rattle.schedule_workers.proofs.Making.{holds_usable, share_is, usable}
use Rattle.schedule_workers.proofs.Roomy.{vec_small}
use Rattle.schedule_workers.proofs.run.Run.piece_of.Goals as goal

pub returns-clause-usable : goal.returns-clause-usable
returns-clause-usable c =
    let k = c.args.self.now in
    let row = c.len-row.ensures ∙ k.cells.cells.ok.0 in
    let low = vec_small k.cells.cells in
    let share = c.unwrap_or-share.ensures ∙ share_is c.checked_div.result k.lent.cells c.len.result c.checked_div.ensures ∙ ap (λ (n : ℕ). k.lent.cells / n) (c.len.ensures ∙ k.hands.ok.0) in
    usable k.lent.start k.lent.cells c.unwrap_or-share.result (c.unwrap_or-share.result * c.args.worker) c.len-row.result c.saturating_mul-before.result c.saturating_add-start.result c.saturating_add-lent.result c.saturating_add.result c.min.result c.min-limit.result c.saturating_sub.result
    c.saturating_mul-before.ensures c.saturating_add-start.ensures c.saturating_add-lent.ensures c.saturating_add.ensures c.min.ensures c.min-limit.ensures c.saturating_sub.ensures (omega (arith, row, low))
    k c.args.worker refl refl share (ap (λ (n : ℕ). n * c.args.worker) share) row c.if-row-self.false

pub returns-clause-whole : goal.returns-clause-whole
returns-clause-whole c =
    let k = c.args.self.now in
    let row = c.len-row.ensures ∙ k.cells.cells.ok.0 in
    let low = vec_small k.cells.cells in
    let share = c.unwrap_or-share.ensures ∙ share_is c.checked_div.result k.lent.cells c.len.result c.checked_div.ensures ∙ ap (λ (n : ℕ). k.lent.cells / n) (c.len.ensures ∙ k.hands.ok.0) in
    holds_usable k.lent.start k.lent.cells c.unwrap_or-share.result (c.unwrap_or-share.result * c.args.worker) c.len-row.result c.saturating_mul-before.result c.saturating_add-start.result c.saturating_add-lent.result c.saturating_add.result c.min.result c.min-limit.result c.saturating_sub.result
    c.saturating_mul-before.ensures c.saturating_add-start.ensures c.saturating_add-lent.ensures c.saturating_add.ensures c.min.ensures c.min-limit.ensures c.saturating_sub.ensures (omega (arith, row, low))
    k c.args.worker refl refl share (ap (λ (n : ℕ). n * c.args.worker) share) row c.if-row-self.false
