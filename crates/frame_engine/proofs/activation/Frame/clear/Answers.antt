use Rattle.std.proofs.Common.{refl}
use Rattle.frame_engine.proofs.Bits.{written}
use Rattle.frame_engine.proofs.Zeroing.{clear_led, clear_reached, clear_refused, clear_zeroed}
use Rattle.frame_engine.proofs.activation.Frame.clear.Goals as goal

pub write_zeros-requires : goal.write_zeros-requires
write_zeros-requires g c =
    clear_reached _ (g.C.Cells.reaches c.args.cells.now) (g.C.Cells.holds c.args.cells.now) c.args.self.now.registers.items c.args.count c.args.object c.first_cell-at.result _
    c.requires.safe c.first_cell-at.ensures (written c.first_cell-at.result c.first_cell-at.type_inv)

pub returns-in-Ok-clause-led : goal.returns-in-Ok-clause-led
returns-in-Ok-clause-led g c = λ prog l p f m s cells at safe.
    clear_led prog l c.args.places.now p f m c.args.self.now (g.C.Cells.reaches c.args.cells.now) _ (g.C.Cells.holds c.args.cells.now) _ _ c.args.self.now.registers.items c.args.count c.args.object c.first_cell-at.result _ refl refl s cells at safe
    c.first_cell-at.ensures (written c.first_cell-at.result c.first_cell-at.type_inv) c.in-Ok.ensures.zeros c.in-Ok.ensures.others c.write_zeros.ensures.reaches

pub returns-in-Ok-clause-zeroed : goal.returns-in-Ok-clause-zeroed
returns-in-Ok-clause-zeroed g c = λ prog l p f m s cells at safe.
    clear_zeroed g.C.Cells.does prog l c.args.places.now p f m c.args.self.now (g.C.Cells.reaches c.args.cells.now) (g.C.Cells.holds c.args.cells.now) _ c.args.self.now.registers.items c.args.count c.args.object c.first_cell-at.result _ refl refl s cells at safe
    c.first_cell-at.ensures (written c.first_cell-at.result c.first_cell-at.type_inv) c.args.cells.now _ c.in-Ok.ensures.zeroed

pub returns-in-Err-clause-refused : goal.returns-in-Err-clause-refused
returns-in-Err-clause-refused g c = λ prog l p f m s cells at safe.
    clear_refused g.C.Cells.does prog l c.args.places.now p f m c.args.self.now (g.C.Cells.reaches c.args.cells.now) (g.C.Cells.holds c.args.cells.now) _ c.args.self.now.registers.items c.args.count c.args.object c.first_cell-at.result _ refl refl s cells at safe
    c.first_cell-at.ensures (written c.first_cell-at.result c.first_cell-at.type_inv) g.C.Cells.refuses c.args.cells.now _ _ c.in-Err.ensures.refused
