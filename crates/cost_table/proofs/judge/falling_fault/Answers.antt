use Rattle.std.proofs.Common.{◌∙◌, List, ap, arith}
use Rattle.ranges.specs.cfg.declared.structure.Move.{Move}
use Rattle.ranges.specs.ranges_owed.Inequalities.{argument_moves}
use Rattle.ranges.specs.Sums.{shows}
use Rattle.cost_table.specs.Rules.{left_behind, less_form, put_in}
use Rattle.cost_table.proofs.Judging.{pair_named}
use Rattle.cost_table.proofs.judge.falling_fault.Goals as goal

pub returns : goal.returns
returns c =
    let known = c.args.known.now in
    let form = c.args.function.now.measure.form in
    let moves = argument_moves 0 c.args.arguments.now in
    pair_named 703 c.args.line c.in_ok-low.low (shows known (put_in moves form)) c.in_ok-falls.falls (shows known (less_form (left_behind form 1) moves form)) _
    (c.in_ok-low.ensures ∙ ap (λ (ms : List Move). shows known (put_in ms form)) (c.deref.ensures.value ∙ c.in_ok-moves.ensures))
    (c.in_ok-falls.ensures 1 (omega arith) ∙ ap (λ (ms : List Move). shows known (less_form (left_behind form 1) ms form)) (c.deref-2.ensures.value ∙ c.in_ok-moves.ensures))
    c.fault_unless.ensures
