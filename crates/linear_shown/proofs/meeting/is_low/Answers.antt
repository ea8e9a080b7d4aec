use Rattle.std.proofs.Common.{◌<◌, ◌^◌, pos, arith}
use Rattle.std.proofs.lemmas.List.Elements.{All-get_or}
use Rattle.linear_shown.specs.declared.index.Entry.{Entry}
use Rattle.linear_shown.proofs.meeting.is_low.Goals as goal

pub times-requires-clause-key : goal.times-requires-clause-key
times-requires-clause-key c = All-get_or (λ (e : Entry). e.key < 2 ^ 101) c.args.entries.now c.args.place (record { key = 0; constant = pos 0; place = 0 }) c.if-place-entries.true c.requires.order.keys

pub overflow_add-result : goal.overflow_add-result
overflow_add-result c = omega (arith, c.times.ensures.small, c.requires.beside)
