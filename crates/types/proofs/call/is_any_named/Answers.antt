use Rattle.refusal.proofs.Places.{read_at}
use Rattle.types.proofs.call.is_any_named.Goals as goal

pub returns-in-Some : goal.returns-in-Some
returns-in-Some c =
    let found = c.in-Some.ensures.lookup in
    rw (read_at c.args.named.now c.args.callee.0 c.in-Some.names.now found.3.0 found.1) c.are_some_named.ensures
