use Rattle.ir_annotation.proofs.Ordered.{read_canonical}
use Rattle.ir_annotation.proofs.laws.read_form_is_canonical.Goals as goal

pub returns : goal.returns
returns c = read_canonical
