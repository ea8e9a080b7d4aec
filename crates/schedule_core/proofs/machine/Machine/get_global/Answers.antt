use Rattle.std.proofs.Common.{rules, ◌∙◌, sym, ap, arith, Some, List, ℤ}
use mir.Val.{of_z, to_z}
use Rattle.std.specs.Int.{w64}
use Rattle.std.specs.Prelude.{FitsSigned}
use Rattle.std.proofs.lemmas.Int.{to_z-of_z}
use Rattle.frame_engine.specs.declared.activation.Places.{Places}
use Rattle.schedule_workers.specs.Layouts.{number_in}
use Rattle.frame_engine.specs.Flat.{cell_in}
use Rattle.schedule_core.proofs.Held.{named_nowhere, named_past, named_there}
use Rattle.schedule_core.proofs.machine.Machine.get_global.Goals as goal

pub returns-in_err-global : goal.returns-in_err-global
returns-in_err-global c m s =
    c.from_residual.ensures ∙ sym (named_nowhere c.args.self.now.stage c.args.self.now.kept m s c.args.name.now c.args.index (c.in_err-global.ensures.not_there c.args.index))

pub returns-then-cells-index : goal.returns-then-cells-index
returns-then-cells-index c m s =
    let (named, size) = c.in_ok-global.ensures.there in
    sym (named_past c.args.self.now.stage c.args.self.now.kept m s c.args.name.now c.in_ok-global.global c.in_ok-global.cells c.args.index named size c.if-cells-index.true)

pub returns : goal.returns
returns c m s =
    let stage = c.args.self.now.stage in
    let (named, size) = c.in_ok-global.ensures.there in
    let fit : FitsSigned w64 c.cell_of.result = search rules in
    let fit_start : FitsSigned w64 c.number_in-start.result = search rules in
    let fit_index : FitsSigned w64 c.cast_signed.result = search rules in
    let fit_address : FitsSigned w64 c.sum-address.result = search rules in
    ap Some (to_z-of_z w64 c.cell_of.result fit)
    ∙ named_there stage c.args.self.now.kept m s c.args.name.now c.in_ok-global.global c.in_ok-global.cells c.args.index named size (omega (arith, c.if-cells-index.false))
    (to_z w64 (of_z w64 c.number_in-start.result)) (to_z w64 (of_z w64 c.cast_signed.result)) c.sum-address.result c.cell_of.result
    (to_z-of_z w64 c.number_in-start.result fit_start ∙ (c.number_in-start.ensures ∙ ap (λ (l : List ℤ). number_in l c.in_ok-global.global) (c.as_slice.ensures ∙ ap (λ (p : Places). p.globals) c.places.ensures)))
    (to_z-of_z w64 c.cast_signed.result fit_index ∙ c.cast_signed.ensures) c.sum-address.ensures
    (λ z e. c.cell_of.ensures z (ap (λ (l : List ℤ). cell_in l (to_z w64 (of_z w64 c.sum-address.result))) c.as_slice-2.ensures.value ∙ (ap (cell_in stage.run.cells.cells.items) (to_z-of_z w64 c.sum-address.result fit_address) ∙ e)))
