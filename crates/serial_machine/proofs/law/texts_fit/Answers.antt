use Rattle.serial_machine.proofs.text.Fits.{texts_fit}
use Rattle.serial_machine.proofs.law.texts_fit.Goals as goal

pub returns : goal.returns
returns c = texts_fit
