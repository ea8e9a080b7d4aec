use Rattle.std.proofs.Common.{◌≡◌, ◌+◌, length, subst, sym, arith}
use Rattle.definedness.specs.Sure.{IsNeverSure}
use Rattle.definedness.proofs.Paths.{RowsOf, rows_none, rows_more}
use Rattle.definedness.proofs.fork.Flow.unsure_rows.Goals as goal

pub loop-alloca-init : goal.loop-alloca-init
loop-alloca-init c = (rw c.new-rows.ensures.items (rows_none (IsNeverSure c.args.self.now.bodies.now c.args.self.now.blocks.now c.args.all.now) (length c.args.self.now.blocks.now)), c.in_ok-last.ensures.marks)

pub loop-alloca-preserved : goal.loop-alloca-preserved
loop-alloca-preserved c = (rw c.in_ok-push.ensures.items (rows_more (IsNeverSure c.args.self.now.bodies.now c.args.self.now.blocks.now c.args.all.now) (length c.args.self.now.blocks.now) _ _ _ c.loop-alloca.invariant.0 c.in_ok-unsure_row.ensures.marks), c.in_ok-unsure_row.ensures.last)

pub returns : goal.returns
returns c n b l w =
    let last : c.loop-alloca.alloca ≡ c.args.greatest = omega (arith, c.loop-alloca-test.false, c.loop-alloca.auto.alloca-end) in
    let Rows = RowsOf (IsNeverSure c.args.self.now.bodies.now c.args.self.now.blocks.now c.args.all.now) (length c.args.self.now.blocks.now) in
    let grown = rows_more (IsNeverSure c.args.self.now.bodies.now c.args.self.now.blocks.now c.args.all.now) (length c.args.self.now.blocks.now) c.args.greatest c.loop-alloca.rows.items c.in_ok-unsure_row-2.field-0 (subst (λ k. Rows k c.loop-alloca.rows.items) last c.loop-alloca.invariant.0) c.in_ok-unsure_row-2.ensures.marks in
    (subst (Rows (c.args.greatest + 1)) (sym c.in_ok-push-2.ensures.items) grown).exact n b (omega (arith, l)) w
