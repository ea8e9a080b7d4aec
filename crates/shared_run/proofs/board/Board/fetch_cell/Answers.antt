use Rattle.std.proofs.Common.{rules, ◌≡◌, ◌∷◌, ◌++◌, [], Some, sym, ap, ◌∙◌, ℤ}
use Rattle.std.specs.Int.{w64}
use Rattle.std.specs.Prelude.{FitsSigned}
use Rattle.std.proofs.lemmas.Int.{to_z-of_z}
use Rattle.schedule_core.specs.frame_engine.Flat.{cell_in}
use Rattle.schedule_core.specs.declared.stage.Stage.{Stage}
use Rattle.shared_run.proofs.board.Board.fetch_cell.Goals as goal

pub returns-in-Some-clause-fetches : goal.returns-in-Some-clause-fetches
returns-in-Some-clause-fetches g c p =
    let fit_at : FitsSigned w64 c.args.at = search rules in
    let fit_value : FitsSigned w64 c.in-Some.value = search rules in
    let row = c.args.self.now.stage.run.cells.cells.items in
    let value : c.cell_at.result ≡ cell_in c.machine.result.now.stage.run.cells.cells.items c.args.at =
    c.cell_at.ensures.value ∙ ap (λ (a : ℤ). cell_in c.machine.result.now.stage.run.cells.cells.items a) (to_z-of_z w64 c.args.at fit_at) in
    let held : cell_in row c.args.at ≡ Some c.in-Some.value =
    ap (λ (stage : Stage). cell_in stage.run.cells.cells.items c.args.at) (sym c.machine.ensures.stage) ∙ (sym value ∙ c.in-Some.is) in
    let reads : c.fill.new.self.course.cells.reads ≡ c.args.strand.now.course.cells.reads ++ record { at = c.args.at; value = c.in-Some.value } ∷ [] =
    c.fill.ensures.reads c.args.at c.requires.needs
    ∙ ap (λ (v : ℤ). c.args.strand.now.course.cells.reads ++ record { at = c.args.at; value = v } ∷ []) (to_z-of_z w64 c.in-Some.value fit_value) in (
      c.args.at,
      c.in-Some.value,
      c.requires.needs,
      held,
      record {
        reads = reads;
        loaded = c.fill.ensures.loaded;
        path = c.fill.ensures.path;
        present = c.fill.ensures.present;
        done = c.fill.ensures.done;
        pause = c.fill.ensures.goes_on;
      },
    )
