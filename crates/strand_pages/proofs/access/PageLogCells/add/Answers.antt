use Rattle.std.proofs.Common.{subst, w64, ℤ}
use Rattle.std.specs.Prelude.{OnOk}
use Rattle.std.proofs.lemmas.Int.{to_z-of_z}
use mir.Val.{to_z, of_z}
use Rattle.frame_strand.specs.Buffers.{raised_change}
use Rattle.strand_pages.specs.Doing.{IsKept}
use Rattle.strand_pages.specs.Tables.{log_of}
use Rattle.strand_pages.proofs.Holding.{added_here, others_kept}
use Rattle.strand_pages.proofs.access.PageLogCells.add.Goals as goal

done : (c : goal.After-add_at) → OnOk c.add_at.result (IsKept (log_of c.args.self.now) c.args.at (raised_change c.args.number ((log_of c.args.self.now).writes c.args.at) ((log_of c.args.self.now).reads c.args.at)) (log_of c.add_at.new.self))
done c =
    subst (λ (z : ℤ). OnOk c.add_at.result (IsKept (log_of c.args.self.now) z (raised_change c.args.number ((log_of c.args.self.now).writes z) ((log_of c.args.self.now).reads z)) (log_of c.add_at.new.self))) (to_z-of_z w64 c.args.at c.ranges.at)
    (subst (λ (z : ℤ). OnOk c.add_at.result (IsKept (log_of c.args.self.now) (to_z w64 (of_z w64 c.args.at))
    (raised_change z ((log_of c.args.self.now).writes (to_z w64 (of_z w64 c.args.at))) ((log_of c.args.self.now).reads (to_z w64 (of_z w64 c.args.at)))) (log_of c.add_at.new.self))) (to_z-of_z w64 c.args.number c.ranges.number) c.add_at.ensures.done)

pub returns-clause-does : goal.returns-clause-does
returns-clause-does c = done c

pub returns-clause-here : goal.returns-clause-here
returns-clause-here c = added_here c.args.self.now c.add_at.new.self c.add_at.result c.args.at c.args.number (done c)

pub returns-clause-others : goal.returns-clause-others
returns-clause-others c = others_kept c.args.self.now c.add_at.new.self c.add_at.result c.args.at
    (raised_change c.args.number ((log_of c.args.self.now).writes c.args.at) ((log_of c.args.self.now).reads c.args.at)) (done c) c.add_at.ensures.unchanged
