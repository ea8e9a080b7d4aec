use Rattle.ir_annotation.proofs.LinesAgain.{annotation_again}
use Rattle.ir_annotation.proofs.line_laws.printed_annotation_is_read_back.Goals as goal

pub returns : goal.returns
returns c = annotation_again
