use Rattle.ir_annotation.proofs.AgainTerms.{spelled_again}
use Rattle.ir_annotation.proofs.laws.spelled_form_is_read_back.Goals as goal

pub returns : goal.returns
returns c = spelled_again
