use Rattle.std.proofs.lemmas.Bool.Decides.{Decides-eqb}
use Rattle.std.proofs.lemmas.Slice.Eq.{strip_prefix_is}
use Rattle.schedule_text.proofs.Parts.{beginning}
use Rattle.schedule_text.proofs.line.behind.Goals as goal

pub returns : goal.returns
returns c = let b = beginning c.args.text.now c.args.beginning.now c.strip_prefix.result (strip_prefix_is Decides-eqb c.args.text.now c.args.beginning.now c.strip_prefix.result c.strip_prefix.ensures.cases) in record { some = b.0; none = b.1 }
