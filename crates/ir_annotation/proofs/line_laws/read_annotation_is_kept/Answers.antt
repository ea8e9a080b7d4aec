use Rattle.ir_annotation.proofs.LinesRead.{annotation_read}
use Rattle.ir_annotation.proofs.line_laws.read_annotation_is_kept.Goals as goal

pub returns : goal.returns
returns c = annotation_read
