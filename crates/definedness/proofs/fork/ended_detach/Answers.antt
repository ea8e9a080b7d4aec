use Rattle.std.proofs.Common.{sym, ◌∙◌}
use Rattle.std.proofs.lemmas.Bool.{true≢false}
use Rattle.definedness.proofs.Forking.{ends_child}
use Rattle.definedness.proofs.fork.ended_detach.Goals as goal

pub returns-then-is_reattach : goal.returns-then-is_reattach
returns-then-is_reattach c detach =
    let same = c.child_of.ensures detach in
    let ends = ends_child c.args.bodies.now c.args.blocks.now c.args.tasks.now c.args.block c.requires.tasks c.requires.size c.requires.within (c.is_reattach.ensures.0 c.if-is_reattach.true) detach in
    (λ h. ends.0 (same.0 h), λ is. same.1 (ends.1 is))

pub returns-else-is_reattach : goal.returns-else-is_reattach
returns-else-is_reattach c detach = (λ e. absurd (cc), λ is. absurd (true≢false (sym (c.is_reattach.ensures.1 is.0) ∙ c.if-is_reattach.false)))
