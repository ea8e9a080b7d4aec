use Rattle.std.proofs.Common.{subst, ℤ, w64, rules}
use Rattle.std.specs.Prelude.{FitsSigned, OnOk}
use Rattle.std.proofs.lemmas.Int.{to_z-of_z}
use Rattle.frame_strand.specs.Buffers.{IsPut}
use Rattle.frame_strand.specs.declared.cells.Change.TheVariants.{Stored}
use Rattle.frame_strand.proofs.Showing.{became_stored}
use Rattle.frame_strand.proofs.cells.FrameStrandCells.store_at.Goals as goal

pub returns-clause-done : goal.returns-clause-done
returns-clause-done c =
    let fit : FitsSigned w64 c.args.number.now = search rules in
    subst (λ (z : ℤ). OnOk c.put.result (IsPut c.args.self.now c.args.at.now (Stored z) c.put.new.self)) (to_z-of_z w64 c.args.number.now fit) c.put.ensures.done

pub returns-clause-shown : goal.returns-clause-shown
returns-clause-shown c = became_stored c.put.result c.args.self.now c.put.new.self c.args.at.now c.args.number.now (returns-clause-done c)
