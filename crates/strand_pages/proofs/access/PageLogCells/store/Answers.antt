use Rattle.std.proofs.Common.{subst, w64, ℤ}
use Rattle.std.specs.Prelude.{OnOk}
use Rattle.std.proofs.lemmas.Int.{to_z-of_z}
use mir.Val.{to_z, of_z}
use Rattle.frame_strand.specs.declared.cells.Change.TheVariants.{Stored}
use Rattle.strand_pages.specs.Doing.{IsChanged}
use Rattle.strand_pages.specs.Tables.{log_of}
use Rattle.strand_pages.proofs.Holding.{others_stay, stored_here}
use Rattle.strand_pages.proofs.access.PageLogCells.store.Goals as goal

done : (c : goal.After-store_at) → OnOk c.store_at.result (IsChanged (log_of c.args.self.now) c.args.at (Stored c.args.number) (log_of c.store_at.new.self))
done c =
    subst (λ (z : ℤ). OnOk c.store_at.result (IsChanged (log_of c.args.self.now) z (Stored c.args.number) (log_of c.store_at.new.self))) (to_z-of_z w64 c.args.at c.ranges.at)
    (subst (λ (z : ℤ). OnOk c.store_at.result (IsChanged (log_of c.args.self.now) (to_z w64 (of_z w64 c.args.at)) (Stored z) (log_of c.store_at.new.self))) (to_z-of_z w64 c.args.number c.ranges.number) c.store_at.ensures.done)

pub returns-clause-does : goal.returns-clause-does
returns-clause-does c = done c

pub returns-clause-here : goal.returns-clause-here
returns-clause-here c = stored_here c.args.self.now c.store_at.new.self c.store_at.result c.args.at c.args.number (done c)

pub returns-clause-others : goal.returns-clause-others
returns-clause-others c = others_stay c.args.self.now c.store_at.new.self c.store_at.result c.args.at (Stored c.args.number) (done c) c.store_at.ensures.unchanged
