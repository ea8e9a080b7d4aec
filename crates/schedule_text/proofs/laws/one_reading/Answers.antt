use Rattle.schedule_text.proofs.OneText.{one_reading}
use Rattle.schedule_text.proofs.laws.one_reading.Goals as goal

pub returns : goal.returns
returns c = one_reading
