use Rattle.ir_reader.proofs.OneAnswer.{one_answer}
use Rattle.ir_text.proofs.RoundTrip.{round_trip}
use Rattle.ir_text.proofs.laws.print_is_read_back.Goals as goal

pub returns-clause-read : goal.returns-clause-read
returns-clause-read c = round_trip

pub returns-clause-one : goal.returns-clause-one
returns-clause-one c = one_answer
