use Rattle.laws_strands.proofs.stacks.Sample.{sample_goes_over_borders}
use Rattle.laws_strands.proofs.stacks.sample_goes_over_borders.Goals as goal

pub returns : goal.returns
returns c = sample_goes_over_borders
