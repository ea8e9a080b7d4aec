use Rattle.std.proofs.Common.{arith, ap, inl, inr}
use Rattle.schedule_workers.specs.declared.run.Block.{Block}
use Rattle.schedule_workers.proofs.Ends.{no_part, part_for}
use Rattle.schedule_workers.proofs.run.Run.free_part.Goals as goal

pub returns-then-piece-eq0 : goal.returns-then-piece-eq0
returns-then-piece-eq0 c = no_part c.args.program.now c.args.self.now c.args.worker c.piece_of-piece.result c.if-piece-eq0.true c.piece_of-piece.ensures.whole

pub returns : goal.returns
returns c =
    let some = c.if-piece-eq0.false in
    let piece = c.piece_of-piece in
    let end = c.larger_end in
    part_for c.args.program.now c.args.self.now c.args.worker piece.result (piece.ensures.usable (omega (arith, some))) piece.ensures.whole c.taken.result c.taken.ensures end.result end.ensures.front end.ensures.back
    (elim end.ensures.is [ inl is ↦ inl (ap (λ (b : Block). b.start) is, ap (λ (b : Block). b.cells) is) | inr is ↦ inr is ])
