-- A module's code has the places of its objects.
use Rattle.program.specs.declared.function.Program.{Program}
use Rattle.serial_machine.specs.Decoding.{IsCodeOf}
use Rattle.serial_machine.specs.declared.decoded.Decoded.{Decoded}
use Rattle.schedule_workers.specs.Starts.{ArePlaces}

pub places_are : (program : Program) (code : Decoded) → IsCodeOf program code → ArePlaces program code.places
places_are program code is = record { globals = is.globals; allocas = is.allocas }
