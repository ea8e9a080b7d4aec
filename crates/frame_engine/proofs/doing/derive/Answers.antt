use Rattle.frame_engine.proofs.Bits.{written}
use Rattle.frame_engine.specs.Words.{bases}
use Rattle.frame_engine.proofs.Values.{convert_stepped, alloca_stepped, pointer_stepped}
use Rattle.frame_engine.proofs.doing.derive.Goals as goal

pub returns-in-Convert-clause-stepped : goal.returns-in-Convert-clause-stepped
returns-in-Convert-clause-stepped g c = λ prog l p f m shown safe.
    let i = c.in-Convert in
    let x = c.word.result in
    let z = c.convert-result.result in
    rw i.is (convert_stepped prog l (bases c.args.globals.now c.args.allocas.now c.args.home.now) p f m (g.C.Cells.reaches c.args.cells.now) (g.C.Cells.holds c.args.cells.now) c.args.regs.now _ i.register i.conversion i.value x _ z _ shown (rw i.is at safe) c.word.ensures c.word.type_inv (written x c.word.type_inv) c.convert-result.ensures (rw i.is at c.requires.names).0 (written z c.convert-result.type_inv) c.define.ensures)

pub returns-in-Alloca-clause-stepped : goal.returns-in-Alloca-clause-stepped
returns-in-Alloca-clause-stepped g c = λ prog l p f m shown safe.
    let i = c.in-Alloca in
    let w = c.first-start.result in
    rw i.is (alloca_stepped prog l (bases c.args.globals.now c.args.allocas.now c.args.home.now) p f m (g.C.Cells.reaches c.args.cells.now) (g.C.Cells.holds c.args.cells.now) c.args.regs.now _ i.register i.alloca w _ shown c.first-start.ensures (rw i.is at c.requires.names).0 (written w c.first-start.type_inv) c.define-in-Alloca.ensures)

pub returns-in-ElementPointer-clause-stepped : goal.returns-in-ElementPointer-clause-stepped
returns-in-ElementPointer-clause-stepped g c = λ prog l p f m shown safe.
    let i = c.in-ElementPointer in
    let w = c.first-start-in-ElementPointer.result in
    let x = c.word-in-ElementPointer.result in
    let z = c.behind-cell.result in
    rw i.is (pointer_stepped prog l (bases c.args.globals.now c.args.allocas.now c.args.home.now) p f m (g.C.Cells.reaches c.args.cells.now) (g.C.Cells.holds c.args.cells.now) c.args.regs.now _ i.register i.object i.index w _ x _ z _ shown (rw i.is at safe) c.first-start-in-ElementPointer.ensures (written w c.first-start-in-ElementPointer.type_inv) c.word-in-ElementPointer.ensures (written x c.word-in-ElementPointer.type_inv) c.behind-cell.ensures (rw i.is at c.requires.names).0 (written z c.behind-cell.type_inv) c.define-in-ElementPointer.ensures)
