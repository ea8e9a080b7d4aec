use Rattle.definedness.proofs.Judged.{Judging}
use Rattle.definedness.proofs.judge.block_fault.Given as goal

abbrev pub invariant-loop-act : goal.invariant-loop-act
invariant-loop-act l = Judging l.rows l.block l.rule l.acts l.act-index l.here.items l.named
