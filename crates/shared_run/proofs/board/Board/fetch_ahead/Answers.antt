use Rattle.std.proofs.Common.{rules, ◌≡◌, ◌∙◌, ℤ, List, sym, ap, subst, true}
use Rattle.std.specs.Int.{w64}
use Rattle.std.specs.Prelude.{FitsSigned, IsSome}
use Rattle.std.proofs.lemmas.Int.{to_z-of_z}
use Rattle.schedule_core.specs.declared.stage.Stage.{Stage}
use Rattle.schedule_core.specs.frame_engine.Flat.{cell_in}
use Rattle.schedule_core.specs.strand.strand_pages.Logs.{filled_log, page_around}
use Rattle.schedule_core.specs.strand.strand_pages.Tables.{log_of}
use Rattle.shared_run.proofs.Strands.{filled_ahead}
use Rattle.shared_run.proofs.board.Board.fetch_ahead.Goals as goal

pub returns : goal.returns
returns g c =
    let fits : FitsSigned w64 c.args.at = search rules in
    let at = to_z-of_z w64 c.args.at fits in
    let cells : Stage → List ℤ = λ stage. stage.run.cells.cells.items in
    let old = c.args.strand.now in
    let new = c.fill_ahead.new.self in
    let page : c.in-Some.page.now ≡ page_around (cells c.args.self.now.stage) c.args.at =
    c.in-Some.ensures.page ∙ ap (λ (a : ℤ). page_around (cells c.machine.result.now.stage) a) at
    ∙ ap (λ (stage : Stage). page_around (cells stage) c.args.at) c.machine.ensures.stage in
    let there : IsSome (cell_in (cells c.args.self.now.stage) c.args.at) =
    subst (λ (stage : Stage). IsSome (cell_in (cells stage) c.args.at)) c.machine.ensures.stage
    (subst (λ (a : ℤ). IsSome (cell_in (cells c.machine.result.now.stage) a)) at c.in-Some.ensures.there) in
    let filled : c.fill_ahead.result ≡ true → log_of new.strand.cells.log ≡ filled_log (log_of old.strand.cells.log) c.args.at c.in-Some.page.now =
    λ done. c.fill_ahead.ensures.filled done ∙ ap (λ (a : ℤ). filled_log (log_of old.strand.cells.log) a c.in-Some.page.now) at in
    filled_ahead c.args.self.now c.args.at old new c.in-Some.page.now c.fill_ahead.result page there
    c.fill_ahead.ensures.goes_on c.fill_ahead.ensures.only filled c.fill_ahead.ensures.unchanged
