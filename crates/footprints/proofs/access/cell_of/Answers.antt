use Rattle.std.proofs.Common.{◌∙◌, ap}
use Rattle.footprints.specs.Pointers.{pointed_by}
use Rattle.footprints.proofs.Looked.{looked_up}
use Rattle.footprints.proofs.access.cell_of.Goals as goal

pub returns-in-Element : goal.returns-in-Element
returns-in-Element c = λ steps is.
    rw c.in-Element.is (c.pointed_by.ensures ∙ (ap (pointed_by c.in-Element.register) is ∙ looked_up c.in-Element.register steps))
