use Rattle.std.proofs.Common.{◌≡◌, Option, None, Some, refl, sym, ◌∙◌, subst}
use Rattle.std.specs.Option.{option_copied}
use Rattle.cactus.specs.Frames.{node_at}
use Rattle.schedule_core.proofs.FramesShown.{frame_shown}
use Rattle.schedule_core.proofs.Views.{gone_path, has_node}
use Rattle.schedule_core.proofs.machine.Machine.frame.Goals as goal

pub returns-in_err-slot-clause-absent : goal.returns-in_err-slot-clause-absent
returns-in_err-slot-clause-absent c m s =
    rw c.from_residual.ensures (gone_path c.args.self.now.stage m s c.args.path.now c.in_err-slot.ensures.absent)

pub returns-in_err-node-clause-absent : goal.returns-in_err-node-clause-absent
returns-in_err-node-clause-absent c m s =
    let stage = c.args.self.now.stage in
    let (node, stands, named) = has_node stage.run.cactus c.in_ok-slot.slot c.in_ok-slot._generation c.args.path.now c.in_ok-slot.ensures.found in
    let gone : None ≡ node_at stage.run.cactus c.in_ok-slot.slot =
    subst (λ o. option_copied o ≡ node_at stage.run.cactus c.in_ok-slot.slot) c.in_err-node.was c.node.ensures in
    absurd (let e : None ≡ Some node = gone ∙ stands in cc)

pub returns-clause-shown : goal.returns-clause-shown
returns-clause-shown c m s =
    let stage = c.args.self.now.stage in
    let there = sym (subst (λ o. option_copied o ≡ node_at stage.run.cactus c.in_ok-slot.slot) c.in_ok-node.was c.node.ensures) in
    frame_shown stage m s c.in_ok-slot.slot c.in_ok-slot._generation c.args.path.now _ c.in_ok-node.node.now c.in_ok-slot.ensures.found there refl refl
