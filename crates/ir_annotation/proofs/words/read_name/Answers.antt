use Rattle.std.proofs.Common.{rules}
use Rattle.ir_annotation.proofs.Names.{name_utf8}
use Rattle.ir_annotation.proofs.words.read_name.Goals as goal

pub returns-in-Err : goal.returns-in-Err
returns-in-Err c = absurd (c.in-Err.ensures.cases.0 (name_utf8 c.args.name.now (search rules)))
