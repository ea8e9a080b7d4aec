use Rattle.refusal.proofs.Elements.{earliest_both}
use Rattle.definedness.specs.Definedness.{IsUndefined, IsUnsure}
use Rattle.definedness.proofs.check.function_fault.Goals as goal

pub returns : goal.returns
returns c = earliest_both (IsUndefined c.args.function.now) (IsUnsure c.args.function.now) _ _ _ c.in_ok-of_registers.ensures c.in_ok-of_allocas.ensures c.lower.ensures
