use Rattle.std.proofs.Common.{◌≡◌, ◌≢◌, ℤ, None, Some, pos, ◌+◌, refl, ap, sym, ◌∙◌, subst, rules, w64}
use Rattle.std.specs.Prelude.{FitsSigned, Result, Ok, Err, OnOk, slice_get, slice_set}
use Rattle.std.specs.Vec.{with_item}
use Rattle.std.proofs.lemmas.Int.{to_z-of_z}
use mir.Val.{to_z, of_z}
use Rattle.semantics.specs.Arithmetic.{cell_sum}
use Rattle.frame_engine.specs.Access.{Adds}
use Rattle.strand.specs.frame_strand.declared.cells.CellStop.{CellStop}
use Rattle.strand_pages.specs.Accessing.{CellHolds, TableDoes}
use Rattle.strand_pages.specs.Tables.{Table}
use Rattle.strand.specs.OwnCells.{CellsDo, IsOwnPut, may_be, own_cell}
use Rattle.strand.specs.declared.cells.StrandCells.{StrandCells}
use Rattle.strand.proofs.Putting.{log_does, log_holds, log_others, log_value, own_does, own_place, own_put, own_sum, put_others}
use Rattle.strand.proofs.cells.StrandCellsCells.add.Goals as goal

abbrev after : goal.After-self-1 → StrandCells
after c = record c.args.self.now { own = with_item c.args.self.now.own c.in-Some.place (to_z w64 (of_z w64 c.sum.result)) }

place_is : (c : goal.After-self-1) → c.args.at ≡ pos (c.args.self.now.start + c.in-Some.place)
place_is c = sym (to_z-of_z w64 c.args.at c.ranges.at) ∙ c.in-Some.ensures.is

held : (c : goal.After-self-1) → own_cell c.args.self.now c.args.at ≡ Some c.number_at.result
held c = own_place c.args.self.now c.args.at c.in-Some.place (place_is c) ∙ ap (λ xs. slice_get xs c.in-Some.place) (sym c.as_slice.ensures.value) ∙ c.number_at.ensures

sum_is : (c : goal.After-self-1) → to_z w64 (of_z w64 c.sum.result) ≡ cell_sum c.number_at.result c.args.number
sum_is c =
    let held_fits : FitsSigned w64 c.number_at.result = search rules in
    let sum_fits : FitsSigned w64 c.sum.result = search rules in
    to_z-of_z w64 c.sum.result sum_fits ∙ c.sum.ensures ∙ (λ i. cell_sum (to_z-of_z w64 c.number_at.result held_fits i) (to_z-of_z w64 c.args.number c.ranges.number i))

put : (c : goal.After-self-1) → IsOwnPut c.args.self.now c.args.at (cell_sum c.number_at.result c.args.number) (after c)
put c =
    own_put c.args.self.now (after c) c.args.at (cell_sum c.number_at.result c.args.number) c.in-Some.place (place_is c) c.in-Some.ensures.within
    (ap (λ (z : ℤ). slice_set c.args.self.now.own.items c.in-Some.place z) (sum_is c)) refl refl

pub returns-in-Some-clause-here : goal.returns-in-Some-clause-here
returns-in-Some-clause-here c = λ z may. own_sum c.args.self.now (after c) c.args.at c.args.number c.number_at.result z (held c) (put c) may

pub returns-in-Some-clause-others : goal.returns-in-Some-clause-others
returns-in-Some-clause-others c = λ a z may other. put_others c.args.self.now (after c) c.args.at (cell_sum c.number_at.result c.args.number) a z (put c) other may

pub returns-in-Some-clause-does : goal.returns-in-Some-clause-does
returns-in-Some-clause-does c = own_does c.args.self.now (after c) (Adds c.args.at c.args.number) c.number_at.result (held c) (put c)

of_log : (x : StrandCells) (b : Table) (a n : ℤ) {T : Type 0} (r : Result T CellStop) → own_cell x a ≡ None → OnOk r ((z : ℤ) → CellHolds x.log a z → CellHolds b a (cell_sum z n)) →
    OnOk r ((z : ℤ) → may_be x a z → may_be (record x { log = b }) a (cell_sum z n))
of_log x b a n (Ok t) none is = λ z may. log_holds x b a (cell_sum z n) none (is z (log_value x a z none may))
of_log x b a n (Err e) none is = tt

pub returns-in-None-clause-here : goal.returns-in-None-clause-here
returns-in-None-clause-here c =
    subst (λ (n : ℤ). OnOk c.add.result ((z : ℤ) → may_be c.args.self.now c.args.at z → may_be (record c.args.self.now { log = c.add.new.self }) c.args.at (cell_sum z n))) (to_z-of_z w64 c.args.number c.ranges.number)
    (subst (λ (a : ℤ). OnOk c.add.result ((z : ℤ) → may_be c.args.self.now a z → may_be (record c.args.self.now { log = c.add.new.self }) a (cell_sum z (to_z w64 (of_z w64 c.args.number))))) (to_z-of_z w64 c.args.at c.ranges.at)
    (of_log c.args.self.now c.add.new.self (to_z w64 (of_z w64 c.args.at)) (to_z w64 (of_z w64 c.args.number)) c.add.result c.in-None.ensures.absent c.add.ensures.here))

pub returns-in-None-clause-others : goal.returns-in-None-clause-others
returns-in-None-clause-others c = λ a z may other. log_others c.args.self.now c.add.new.self a z (λ h. c.add.ensures.others a z h (subst (λ (y : ℤ). a ≢ y) (sym (to_z-of_z w64 c.args.at c.ranges.at)) other)) may

does : (x : StrandCells) (b : Table) (a z : ℤ) {T : Type 0} (r : Result T CellStop) → own_cell x a ≡ None → OnOk r (TableDoes x.log (Adds a z) b) → OnOk r (CellsDo x (Adds a z) (record x { log = b }))
does x b a z (Ok t) none is = log_does x b (Adds a z) none is
does x b a z (Err e) none is = tt

pub returns-in-None-clause-does : goal.returns-in-None-clause-does
returns-in-None-clause-does c =
    subst (λ (z : ℤ). OnOk c.add.result (CellsDo c.args.self.now (Adds c.args.at z) (record c.args.self.now { log = c.add.new.self }))) (to_z-of_z w64 c.args.number c.ranges.number)
    (subst (λ (a : ℤ). OnOk c.add.result (CellsDo c.args.self.now (Adds a (to_z w64 (of_z w64 c.args.number))) (record c.args.self.now { log = c.add.new.self }))) (to_z-of_z w64 c.args.at c.ranges.at)
    (does c.args.self.now c.add.new.self (to_z w64 (of_z w64 c.args.at)) (to_z w64 (of_z w64 c.args.number)) c.add.result c.in-None.ensures.absent c.add.ensures.does))
