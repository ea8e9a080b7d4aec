use Rattle.std.proofs.Common.{◌≡◌, ◌∙◌, ap, arith, ℕ, List, length, min}
use Rattle.store.specs.Cells.{NamedCells}
use Rattle.store.specs.Refilled.{refilled}
use Rattle.store.proofs.Refilling.{refill_step, refill_end}
use Rattle.store.proofs.memory.Memory.with_row.Goals as goal

pub loop-global-preserved : goal.loop-global-preserved
loop-global-preserved c =
    let many = c.len.ensures in
    let ok = c.global.inside.cells.ok.0 in
    let seen : length c.global.inside.cells.items ≡ length c.global-item.result.cells = ap (λ (g : NamedCells). length g.cells) c.global.view_is in
    let count : c.len.result ≡ length c.global-item.result.cells = omega (arith, many, ok, seen) in
    refill_step c.deref-global-items.result.now c.loop-global.globals.items c.push.new.self.items c.loop-global.global-index c.min.result c.global-item.result c.in_ok-with_cells.field-0 c.loop-global.rest.now c.split_at.result.0.now c.split_at.result.1.now c.args.row.now
    c.loop-global-test.true c.global-item.is (c.min.ensures ∙ ap (λ (n : ℕ). min n (length c.loop-global.rest.now)) count) c.split_at.ensures.front c.split_at.ensures.back c.in_ok-with_cells.ensures c.in_ok-push.ensures.items c.loop-global.invariant

pub returns : goal.returns
returns c =
    refill_end c.deref-global-items.result.now c.loop-global.globals.items c.loop-global.global-index c.loop-global.rest.now c.args.row.now c.loop-global-test.false c.loop-global.invariant
    ∙ ap (λ (xs : List NamedCells). refilled xs c.args.row.now) (c.deref-global-items.ensures.value ∙ c.self.view_is)
