use Rattle.schedule_text.proofs.Children.{same_child, behind_dot}
use Rattle.schedule_text.proofs.line.next_child.Goals as goal

pub returns-in_err-number-clause-none : goal.returns-in_err-number-clause-none
returns-in_err-number-clause-none c = rw c.from_residual-in_err-number.ensures (λ k numbers h.
    let s = same_child c.args.text.now c.split_before.result.0.now c.split_before.result.1.now k numbers
    (behind_dot c.args.text.now c.in_ok-children.children.now c.split_before.result.0.now c.split_before.result.1.now c.in_ok-children.ensures.some c.split_before.ensures.whole) c.split_before.ensures.none_before c.split_before.ensures.at h in
    c.in_err-number.ensures.none k s.0 s.1)
