use Rattle.std.proofs.Common.{◌∙◌, pos, sym}
use Rattle.std.proofs.lemmas.List.{append-nil, drop_all}
use Rattle.program.specs.declared.instruction.Argument.TheVariants as argument
use Rattle.program.specs.declared.instruction.Operand.TheVariants as operand
use Rattle.ranges_owed.specs.Inequalities.{argument_moves}
use Rattle.ranges_owed.proofs.Joined.{moves_more}
use Rattle.ranges_owed.proofs.inequality.argument_moves.Goals as goal

pub loop-index-preserved : goal.loop-index-preserved
loop-index-preserved c =
    rw c.in_ok-push.ensures.items (moves_more c.loop-index.moves.items c.args.arguments.now c.loop-index.index (argument.Number (operand.Number (pos 0))) c.argument_operand.result (argument_moves 0 c.args.arguments.now)
    c.loop-index-test.true c.argument_operand.ensures c.loop-index.invariant)

pub returns : goal.returns
returns c =
    let none = drop_all c.loop-index.index c.args.arguments.now c.loop-index-test.false in
    sym (append-nil c.loop-index.moves.items) ∙ rw none at c.loop-index.invariant
