use Rattle.ir_reader.proofs.item.LineAgain.{line_again}
use Rattle.ir_reader.proofs.item.ItemTakes.{item_takes}
use Rattle.ir_reader.proofs.item.NoteAgain.{note_again}
use Rattle.ir_reader.proofs.item.laws.lines_are_read_back.Goals as goal

pub returns-clause-items : goal.returns-clause-items
returns-clause-items c = line_again

pub returns-clause-words : goal.returns-clause-words
returns-clause-words c = note_again

pub returns-clause-spelled : goal.returns-clause-spelled
returns-clause-spelled c = item_takes
