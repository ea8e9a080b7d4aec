use Rattle.std.proofs.Common.{length, rules}
use Rattle.std.proofs.Common.{FitsSigned}
use Rattle.std.specs.Int.{w64}
use Rattle.std.proofs.lemmas.Int.{to_z-of_z}
use mir.Val.{to_z, of_z}
use Rattle.frame_engine.proofs.Bits.{written}
use Rattle.frame_engine.proofs.Going.{operand_alone}
use Rattle.frame_engine.proofs.PlainSteps.{load_stepped, load_reached}
use Rattle.frame_engine.specs.Words.{bases}
use Rattle.frame_engine.proofs.Writes.{store_stepped, store_reached, add_stepped, add_reached}
use Rattle.std.proofs.Common.{ℤ, subst}
use Rattle.frame_engine.specs.Access.{Loads, Stores, Adds}
use Rattle.frame_engine.proofs.Touches.{load_cell, store_cell, add_cell}
use Rattle.frame_engine.proofs.doing.access.Goals as goal

pub load-requires : goal.load-requires
load-requires g c =
    load_reached (bases c.args.globals.now c.args.allocas.now c.args.home.now) (g.C.Cells.reaches c.args.cells.now) (g.C.Cells.holds c.args.cells.now) c.args.regs.now c.in-Load.register c.in-Load.at c.address.result _ (rw c.in-Load.is at c.requires.safe) c.address.ensures (written c.address.result c.address.type_inv)

pub returns-in-Ok-clause-stepped : goal.returns-in-Ok-clause-stepped
returns-in-Ok-clause-stepped g c = λ prog l p f m shown safe.
    let fit : FitsSigned w64 c.in-Ok.number = search rules in
    rw c.in-Load.is (load_stepped prog l (bases c.args.globals.now c.args.allocas.now c.args.home.now) p f m (g.C.Cells.reaches c.args.cells.now) _ (g.C.Cells.holds c.args.cells.now) _ c.args.regs.now _ c.in-Load.register c.in-Load.at c.address.result _ c.in-Ok.number _ shown (rw c.in-Load.is at safe) c.address.ensures (written c.address.result c.address.type_inv) c.in-Ok.ensures.value c.in-Ok.ensures.kept c.in-Ok.ensures.reaches (rw c.in-Load.is at c.requires.names).0 (to_z-of_z w64 c.in-Ok.number fit) c.define.ensures)

pub store-requires : goal.store-requires
store-requires g c =
    store_reached (bases c.args.globals.now c.args.allocas.now c.args.home.now) (g.C.Cells.reaches c.args.cells.now) (g.C.Cells.holds c.args.cells.now) c.args.regs.now c.in-Store.value c.in-Store.at c.address-cell.result _ (rw c.in-Store.is at c.requires.safe) c.address-cell.ensures (written c.address-cell.result c.address-cell.type_inv)

pub add-requires : goal.add-requires
add-requires g c =
    let at = c.address-cell-in-AtomicAdd in
    add_reached (bases c.args.globals.now c.args.allocas.now c.args.home.now) (g.C.Cells.reaches c.args.cells.now) (g.C.Cells.holds c.args.cells.now) c.args.regs.now c.in-AtomicAdd.at c.in-AtomicAdd.value at.result _ (rw c.in-AtomicAdd.is at c.requires.safe) at.ensures (written at.result at.type_inv)

pub returns-in-Ok-store-clause-stepped : goal.returns-in-Ok-store-clause-stepped
returns-in-Ok-store-clause-stepped g c = λ prog l p f m shown safe.
    let i = c.in-Store in
    let a = c.address-cell.result in
    let n = c.word.result in
    let done = c.in-Ok-store.ensures in
    rw i.is (store_stepped prog l (bases c.args.globals.now c.args.allocas.now c.args.home.now) p f m (g.C.Cells.reaches c.args.cells.now) _ (g.C.Cells.holds c.args.cells.now) _ c.args.regs.now i.value i.at a _ n _ shown (rw i.is at safe) c.address-cell.ensures (written a c.address-cell.type_inv) c.word.ensures (written n c.word.type_inv) done.here done.others done.reaches)

pub returns-in-Ok-add-clause-stepped : goal.returns-in-Ok-add-clause-stepped
returns-in-Ok-add-clause-stepped g c = λ prog l p f m shown safe.
    let i = c.in-AtomicAdd in
    let at = c.address-cell-in-AtomicAdd in
    let n = c.word-in-AtomicAdd.result in
    let done = c.in-Ok-add.ensures in
    rw i.is (add_stepped prog l (bases c.args.globals.now c.args.allocas.now c.args.home.now) p f m (g.C.Cells.reaches c.args.cells.now) _ (g.C.Cells.holds c.args.cells.now) _ c.args.regs.now i.at i.value at.result _ n _ shown (rw i.is at safe) at.ensures (written at.result at.type_inv) c.word-in-AtomicAdd.ensures (written n c.word-in-AtomicAdd.type_inv) done.here done.others done.reaches)

pub returns-in-Ok-clause-touched : goal.returns-in-Ok-clause-touched
returns-in-Ok-clause-touched g c = λ prog l p f m shown safe.
    let t = load_cell prog l _ p f m _ _ c.args.regs.now shown c.in-Load.register c.in-Load.at c.address.result _ (rw c.in-Load.is at safe) c.address.ensures (written c.address.result c.address.type_inv) in
    rw c.in-Load.is (t.0, t.1, t.2, subst (λ (a : ℤ). g.C.Cells.does c.args.cells.now (Loads a) c.load.new.self) t.3 c.in-Ok.ensures.does)

pub returns-in-Err-clause-refused : goal.returns-in-Err-clause-refused
returns-in-Err-clause-refused g c = λ prog l p f m shown safe.
    let t = load_cell prog l _ p f m _ _ c.args.regs.now shown c.in-Load.register c.in-Load.at c.address.result _ (rw c.in-Load.is at safe) c.address.ensures (written c.address.result c.address.type_inv) in
    rw c.in-Load.is (t.0, t.1, t.2, subst (λ (a : ℤ). g.C.Cells.refuses c.args.cells.now (Loads a) c.in-Err.stop) t.3 c.in-Err.ensures.refused)

pub returns-in-Ok-store-clause-touched : goal.returns-in-Ok-store-clause-touched
returns-in-Ok-store-clause-touched g c = λ prog l p f m shown safe.
    let i = c.in-Store in
    let at = c.address-cell in
    let n = c.word in
    let t = store_cell prog l _ p f m _ _ c.args.regs.now shown i.value i.at at.result _ n.result _ (rw i.is at safe) at.ensures (written at.result at.type_inv) n.ensures (written n.result n.type_inv) in
    rw i.is (t.0, t.1, t.2, t.3, t.4, subst (λ (a : ℤ). g.C.Cells.does c.args.cells.now (Stores a t.1) c.store.new.self) t.5 (subst (λ (z : ℤ). g.C.Cells.does c.args.cells.now (Stores (to_z w64 (of_z w64 at.result)) z) c.store.new.self) t.6 c.in-Ok-store.ensures.does))

pub returns-in-Err-store-clause-refused : goal.returns-in-Err-store-clause-refused
returns-in-Err-store-clause-refused g c = λ prog l p f m shown safe.
    let i = c.in-Store in
    let at = c.address-cell in
    let n = c.word in
    let t = store_cell prog l _ p f m _ _ c.args.regs.now shown i.value i.at at.result _ n.result _ (rw i.is at safe) at.ensures (written at.result at.type_inv) n.ensures (written n.result n.type_inv) in
    rw i.is (t.0, t.1, t.2, t.3, t.4, subst (λ (a : ℤ). g.C.Cells.refuses c.args.cells.now (Stores a t.1) c.in-Err-store.stop) t.5 (subst (λ (z : ℤ). g.C.Cells.refuses c.args.cells.now (Stores (to_z w64 (of_z w64 at.result)) z) c.in-Err-store.stop) t.6 c.in-Err-store.ensures.refused))

pub returns-in-Ok-add-clause-touched : goal.returns-in-Ok-add-clause-touched
returns-in-Ok-add-clause-touched g c = λ prog l p f m shown safe.
    let i = c.in-AtomicAdd in
    let at = c.address-cell-in-AtomicAdd in
    let n = c.word-in-AtomicAdd in
    let t = add_cell prog l _ p f m _ _ c.args.regs.now shown i.at i.value at.result _ n.result _ (rw i.is at safe) at.ensures (written at.result at.type_inv) n.ensures (written n.result n.type_inv) in
    rw i.is (t.0, t.1, t.2, t.3, t.4, subst (λ (a : ℤ). g.C.Cells.does c.args.cells.now (Adds a t.1) c.add.new.self) t.5 (subst (λ (z : ℤ). g.C.Cells.does c.args.cells.now (Adds (to_z w64 (of_z w64 at.result)) z) c.add.new.self) t.6 c.in-Ok-add.ensures.does))

pub returns-in-Err-add-clause-refused : goal.returns-in-Err-add-clause-refused
returns-in-Err-add-clause-refused g c = λ prog l p f m shown safe.
    let i = c.in-AtomicAdd in
    let at = c.address-cell-in-AtomicAdd in
    let n = c.word-in-AtomicAdd in
    let t = add_cell prog l _ p f m _ _ c.args.regs.now shown i.at i.value at.result _ n.result _ (rw i.is at safe) at.ensures (written at.result at.type_inv) n.ensures (written n.result n.type_inv) in
    rw i.is (t.0, t.1, t.2, t.3, t.4, subst (λ (a : ℤ). g.C.Cells.refuses c.args.cells.now (Adds a t.1) c.in-Err-add.stop) t.5 (subst (λ (z : ℤ). g.C.Cells.refuses c.args.cells.now (Adds (to_z w64 (of_z w64 at.result)) z) c.in-Err-add.stop) t.6 c.in-Err-add.ensures.refused))

pub returns-in-Err-clause-unchanged : goal.returns-in-Err-clause-unchanged
returns-in-Err-clause-unchanged g c = c.in-Err.ensures.unchanged

pub returns-in-Err-store-clause-unchanged : goal.returns-in-Err-store-clause-unchanged
returns-in-Err-store-clause-unchanged g c = c.in-Err-store.ensures.unchanged

pub returns-in-Err-add-clause-unchanged : goal.returns-in-Err-add-clause-unchanged
returns-in-Err-add-clause-unchanged g c = c.in-Err-add.ensures.unchanged

pub address-requires : goal.address-requires
address-requires g c = (rw c.in-Load.is at c.requires.names).1

pub define-requires : goal.define-requires
define-requires g c = (rw c.in-Load.is at c.requires.names).0

pub address-cell-requires : goal.address-cell-requires
address-cell-requires g c = (rw c.in-Store.is at c.requires.names).1

pub word-requires : goal.word-requires
word-requires g c = operand_alone _ (length c.args.globals.now) (length c.args.allocas.now) c.in-Store.value (rw c.in-Store.is at c.requires.names).0

pub address-cell-requires-in-AtomicAdd : goal.address-cell-requires-in-AtomicAdd
address-cell-requires-in-AtomicAdd g c = (rw c.in-AtomicAdd.is at c.requires.names).0

pub word-requires-in-AtomicAdd : goal.word-requires-in-AtomicAdd
word-requires-in-AtomicAdd g c = operand_alone _ (length c.args.globals.now) (length c.args.allocas.now) c.in-AtomicAdd.value (rw c.in-AtomicAdd.is at c.requires.names).1
