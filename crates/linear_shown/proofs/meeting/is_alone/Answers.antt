use Rattle.std.proofs.Common.{pos, arith}
use Rattle.std.proofs.lemmas.Bool.{ltb-true}
use Rattle.linear_shown.specs.declared.index.Entry.{Entry}
use Rattle.linear_shown.proofs.Passing.{all_before}
use Rattle.linear_shown.proofs.meeting.is_alone.Goals as goal

abbrev none : Entry
none = record { key = 0; constant = pos 0; place = 0 }

pub returns-else-count-lt2 : goal.returns-else-count-lt2
returns-else-count-lt2 c = λ k d h early. all_before c.args.entries.now c.args.count k none d c.requires.sorted c.requires.count (omega (arith, c.if-count-lt2.false)) (ltb-true _ _ h) early
