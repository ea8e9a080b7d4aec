use Rattle.std.proofs.Common.{◌≡◌, ◌≢◌, ℤ, None, pos, ◌+◌, refl, ap, sym, ◌∙◌, subst, w64}
use Rattle.std.specs.Prelude.{Result, Ok, Err, OnOk, slice_set}
use Rattle.std.specs.Vec.{with_item}
use Rattle.std.proofs.lemmas.Int.{to_z-of_z}
use mir.Val.{to_z, of_z}
use Rattle.frame_engine.specs.Access.{Stores}
use Rattle.strand.specs.frame_strand.declared.cells.CellStop.{CellStop}
use Rattle.strand_pages.specs.Accessing.{TableDoes}
use Rattle.strand_pages.specs.Tables.{Table}
use Rattle.strand.specs.OwnCells.{CellsDo, IsOwnPut, own_cell}
use Rattle.strand.specs.declared.cells.StrandCells.{StrandCells}
use Rattle.strand.proofs.Putting.{log_does, log_others, own_does, own_holds, own_put, own_there, put_others}
use Rattle.strand.proofs.cells.StrandCellsCells.store.Goals as goal

abbrev after : goal.After-self-1 → StrandCells
after c = record c.args.self.now { own = with_item c.args.self.now.own c.in-Some.place (to_z w64 (of_z w64 c.args.number)) }

place_is : (c : goal.After-self-1) → c.args.at ≡ pos (c.args.self.now.start + c.in-Some.place)
place_is c = sym (to_z-of_z w64 c.args.at c.ranges.at) ∙ c.in-Some.ensures.is

put : (c : goal.After-self-1) → IsOwnPut c.args.self.now c.args.at c.args.number (after c)
put c =
    own_put c.args.self.now (after c) c.args.at c.args.number c.in-Some.place (place_is c) c.in-Some.ensures.within
    (ap (λ (z : ℤ). slice_set c.args.self.now.own.items c.in-Some.place z) (to_z-of_z w64 c.args.number c.ranges.number)) refl refl

pub returns-in-Some-clause-here : goal.returns-in-Some-clause-here
returns-in-Some-clause-here c = own_holds (after c) c.args.at c.args.number (put c).here

pub returns-in-Some-clause-others : goal.returns-in-Some-clause-others
returns-in-Some-clause-others c = λ a z may other. put_others c.args.self.now (after c) c.args.at c.args.number a z (put c) other may

pub returns-in-Some-clause-does : goal.returns-in-Some-clause-does
returns-in-Some-clause-does c =
    let (v, there) = own_there c.args.self.now c.args.at c.in-Some.place (place_is c) c.in-Some.ensures.within in
    own_does c.args.self.now (after c) (Stores c.args.at c.args.number) v there (put c)

pub returns-in-None-clause-others : goal.returns-in-None-clause-others
returns-in-None-clause-others c = λ a z may other. log_others c.args.self.now c.store.new.self a z (λ h. c.store.ensures.others a z h (subst (λ (y : ℤ). a ≢ y) (sym (to_z-of_z w64 c.args.at c.ranges.at)) other)) may

of_log : (x : StrandCells) (b : Table) (a z : ℤ) {T : Type 0} (r : Result T CellStop) → own_cell x a ≡ None → OnOk r (TableDoes x.log (Stores a z) b) → OnOk r (CellsDo x (Stores a z) (record x { log = b }))
of_log x b a z (Ok t) none is = log_does x b (Stores a z) none is
of_log x b a z (Err e) none is = tt

pub returns-in-None-clause-does : goal.returns-in-None-clause-does
returns-in-None-clause-does c =
    subst (λ (z : ℤ). OnOk c.store.result (CellsDo c.args.self.now (Stores c.args.at z) (record c.args.self.now { log = c.store.new.self }))) (to_z-of_z w64 c.args.number c.ranges.number)
    (subst (λ (a : ℤ). OnOk c.store.result (CellsDo c.args.self.now (Stores a (to_z w64 (of_z w64 c.args.number))) (record c.args.self.now { log = c.store.new.self }))) (to_z-of_z w64 c.args.at c.ranges.at)
    (of_log c.args.self.now c.store.new.self (to_z w64 (of_z w64 c.args.at)) (to_z w64 (of_z w64 c.args.number)) c.store.result c.in-None.ensures.absent c.store.ensures.does))
