use Rattle.cli_words.proofs.io.Printed as printed
use Rattle.cli_words.proofs.io.laws.reads_back.Goals as goal

pub returns : goal.returns
returns c = printed.reads_back
