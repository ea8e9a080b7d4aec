use Rattle.std.proofs.Common.{arith}
use Rattle.schedule_text.proofs.Cuts.{cut_here, found}
use Rattle.schedule_text.proofs.line.cut_at.Goals as goal

pub returns-then-len-bytes-clause-cut : goal.returns-then-len-bytes-clause-cut
returns-then-len-bytes-clause-cut c = cut_here c.args.byte c.args.bytes.now c.length_before-len.result c.length_before-len.ensures.value c.if-len-bytes.true

pub returns-else-len-bytes-clause-none : goal.returns-else-len-bytes-clause-none
returns-else-len-bytes-clause-none c = λ front rest e. let f = found c.args.byte c.args.bytes.now front rest e in absurd (omega (arith, f, c.length_before-len.ensures.value, c.if-len-bytes.false))
