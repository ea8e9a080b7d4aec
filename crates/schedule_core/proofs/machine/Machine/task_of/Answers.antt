use Rattle.std.proofs.Common.{◌≡◌, Some, None, sym, ◌∙◌}
use Rattle.schedule_workers.specs.Scheduling.{hand_of}
use Rattle.schedule_core.proofs.Found.{low_found, run_if, run_never_none}
use Rattle.schedule_core.proofs.Views.{no_hand}
use Rattle.schedule_core.proofs.LinesShown.{run_line_if}
use Rattle.schedule_core.proofs.machine.Machine.task_of.Goals as goal

pub returns-in_err-top-clause-idle : goal.returns-in_err-top-clause-idle
returns-in_err-top-clause-idle c m state =
    let none : hand_of c.args.self.now.stage.run.hands.items c.args.worker ≡ None = sym c.hand.ensures.slot ∙ c.in_err-top.was in
    rw c.from_residual.ensures (no_hand c.args.self.now.stage m state c.args.worker none)

pub returns-in_err-lowest_below-clause-idle : goal.returns-in_err-lowest_below-clause-idle
returns-in_err-lowest_below-clause-idle c m state =
    let has : hand_of c.args.self.now.stage.run.hands.items c.args.worker ≡ Some c.in_ok-top.top = sym c.hand.ensures.slot ∙ c.in_ok-top.was in
    low_found c.args.self.now.stage m state _ c.lowest_below.result c.in_ok-top.top c.args.worker c.in_err-lowest_below.was has c.lowest_below.ensures.found

pub returns-clause-shown : goal.returns-clause-shown
returns-clause-shown c m state =
    let has : hand_of c.args.self.now.stage.run.hands.items c.args.worker ≡ Some c.in_ok-top.top = sym c.hand.ensures.slot ∙ c.in_ok-top.was in
    run_if c.args.self.now.stage m state c.view.result c.in_ok-lowest_below.field-0 c.in_ok-top.top c.args.worker c.in_ok-lowest_below.ensures.lowest has c.view.ensures.shown

pub returns-clause-idle : goal.returns-clause-idle
returns-clause-idle c m state =
    let has : hand_of c.args.self.now.stage.run.hands.items c.args.worker ≡ Some c.in_ok-top.top = sym c.hand.ensures.slot ∙ c.in_ok-top.was in
    run_never_none c.args.self.now.stage m state _ c.view.result c.in_ok-lowest_below.field-0 c.in_ok-top.top c.args.worker c.in_ok-lowest_below.ensures.lowest has c.view.ensures.found

pub returns-clause-line : goal.returns-clause-line
returns-clause-line c = run_line_if c.args.self.now.stage c.view.result c.in_ok-lowest_below.field-0 c.in_ok-top.top c.args.worker c.view.ensures.shown (returns-clause-shown c)
