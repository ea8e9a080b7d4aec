use Rattle.cli_words.proofs.io.Spelled.{number_utf8}
use Rattle.cli_words.proofs.io.scan.number_of.Goals as goal

pub returns-in-Err-clause-none : goal.returns-in-Err-clause-none
returns-in-Err-clause-none c = λ z h. c.in-Err.ensures.cases.0 (number_utf8 c.args.word.now z h)
