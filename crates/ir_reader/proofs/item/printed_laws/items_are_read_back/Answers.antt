use Rattle.ir_reader.proofs.item.ItemsAgain.{kept_again}
use Rattle.ir_reader.proofs.item.ReadSpelled.{line_kept}
use Rattle.ir_reader.proofs.item.printed_laws.items_are_read_back.Goals as goal

pub returns-clause-again : goal.returns-clause-again
returns-clause-again c = kept_again

pub returns-clause-kept : goal.returns-clause-kept
returns-clause-kept c = line_kept
