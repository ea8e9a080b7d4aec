use Rattle.std.proofs.Common.{◌∙◌, sym}
use Rattle.ir_instruction.proofs.Distinct.{others_distinct}
use Rattle.ir_instruction.proofs.switch.are_distinct.Goals as goal

pub loop-rest-preserved : goal.loop-rest-preserved
loop-rest-preserved c =
    others_distinct c.loop-rest.rest.now c.first-item.result c.in-len1-up.len_at_least c.first-item.is (sym c.if-shares_with_any.false ∙ c.shares_with_any.ensures) ∙ c.loop-rest.invariant
