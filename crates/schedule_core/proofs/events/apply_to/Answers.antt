use Rattle.std.proofs.Common.{length, subst, sym, ap}
use Rattle.std.specs.Prelude.{Ok, IfOk, OnErr, OnOk}
use Rattle.semantics.specs.Events as running
use Rattle.semantics.specs.Events.{Machine}
use Rattle.program.specs.declared.function.Program.{Program}
use Rattle.schedule_workers.specs.Events.{DoesEvent, Grows, LeavesStalls}
use Rattle.frame_engine.specs.declared.activation.Places.{Places}
use Rattle.schedule_workers.specs.Going.{StandsSafely, TextFits}
use Rattle.schedule_workers.specs.Left.{LeavesAsShown}
use Rattle.frame.specs.declared.event.Event.{Event}
use Rattle.frame.specs.declared.event.Event.TheVariants.{Step, Steal}
use Rattle.schedule_core.specs.Replaying.{GrowsOnly, Happens, ReplaysOneMore, event_of}
use Rattle.schedule_core.specs.Stages.{IsState, program_of}
use Rattle.schedule_core.proofs.Replaying.{with_run}
use Rattle.schedule_core.proofs.Promised.{grows_only, happens_after, left_after, machine_after, replays_after, stands_safely, steal_happens, steal_replays, text_fits, unless_done}
use Rattle.schedule_core.proofs.events.apply_to.Goals as goal

pub step-requires-clause-text : goal.step-requires-clause-text
step-requires-clause-text c =
    let old = c.args.stage.now in
    subst (λ (p : Places). TextFits c.program-program.result.now p (length old.run.moves.items)) (sym c.get.ensures)
    (subst (λ (q : Program). TextFits q old.places (length old.run.moves.items)) (sym c.program-program.ensures.value) (text_fits old c.requires c.program-program.ensures.accepted))

pub step-requires-clause-safe : goal.step-requires-clause-safe
step-requires-clause-safe c =
    let old = c.args.stage.now in
    subst (λ (p : Places). StandsSafely c.program-program.result.now p old.run) (sym c.get.ensures)
    (subst (λ (q : Program). StandsSafely q old.places old.run) (sym c.program-program.ensures.value) (stands_safely old c.requires))

pub returns-in-Step-clause-enabled : goal.returns-in-Step-clause-enabled
returns-in-Step-clause-enabled c =
    let old = c.args.stage.now in
    let k = c.step.new.self in
    let does = subst (λ (q : Program). IfOk c.step.result (DoesEvent q old.places old.run k (running.Step c.in-Step.worker))) c.program-program.ensures.value (subst (λ (p : Places). IfOk c.step.result (DoesEvent c.program-program.result.now p old.run k (running.Step c.in-Step.worker))) c.get.ensures c.step.ensures.event) in
    subst (λ (e : Event). IfOk c.step.result (Happens old (with_run old k) (event_of e))) (sym c.in-Step.is)
    (happens_after old k c.step.ensures.workers c.step.ensures.moves c.step.ensures.follows (Step c.in-Step.worker) c.step.result does)

pub returns-in-Step-clause-replays : goal.returns-in-Step-clause-replays
returns-in-Step-clause-replays c =
    let old = c.args.stage.now in
    let k = c.step.new.self in
    let does = subst (λ (q : Program). IfOk c.step.result (DoesEvent q old.places old.run k (running.Step c.in-Step.worker))) c.program-program.ensures.value (subst (λ (p : Places). IfOk c.step.result (DoesEvent c.program-program.result.now p old.run k (running.Step c.in-Step.worker))) c.get.ensures c.step.ensures.event) in
    let stalls = subst (λ (q : Program). IfOk c.step.result (LeavesStalls q old.places old.run k (running.Step c.in-Step.worker))) c.program-program.ensures.value (subst (λ (p : Places). IfOk c.step.result (LeavesStalls c.program-program.result.now p old.run k (running.Step c.in-Step.worker))) c.get.ensures c.step.ensures.stalls) in
    subst (λ (e : Event). OnOk c.step.result (ReplaysOneMore old (with_run old k) e)) (sym c.in-Step.is)
    (replays_after old k c.step.ensures.workers c.step.ensures.moves c.step.ensures.follows (Step c.in-Step.worker) c.step.result does c.step.ensures.left stalls)

pub returns-in-Step-clause-refused : goal.returns-in-Step-clause-refused
returns-in-Step-clause-refused c =
    let old = c.args.stage.now in
    let k = c.step.new.self in
    let left = subst (λ (q : Program). OnErr c.step.result (LeavesAsShown q old.places old.run k)) c.program-program.ensures.value (subst (λ (p : Places). OnErr c.step.result (LeavesAsShown c.program-program.result.now p old.run k)) c.get.ensures c.step.ensures.refused) in
    left_after old k c.step.ensures.workers c.step.ensures.moves c.step.ensures.follows (Step c.in-Step.worker) c.step.result left

pub returns-in-Step-clause-only : goal.returns-in-Step-clause-only
returns-in-Step-clause-only c =
    let old = c.args.stage.now in
    let grows = subst (λ (q : Program). OnErr c.step.result (Grows q old.places old.run c.in-Step.worker)) c.program-program.ensures.value (subst (λ (p : Places). OnErr c.step.result (Grows c.program-program.result.now p old.run c.in-Step.worker)) c.get.ensures c.step.ensures.grows) in
    subst (λ (e : Event). OnErr c.step.result ((m : Machine) → IsState old m → GrowsOnly (program_of old) m e)) (sym c.in-Step.is)
    (grows_only old c.in-Step.worker c.step.result grows)

pub returns-in-Step-clause-machine : goal.returns-in-Step-clause-machine
returns-in-Step-clause-machine c =
    let old = c.args.stage.now in
    let k = c.step.new.self in
    let does = subst (λ (q : Program). IfOk c.step.result (DoesEvent q old.places old.run k (running.Step c.in-Step.worker))) c.program-program.ensures.value (subst (λ (p : Places). IfOk c.step.result (DoesEvent c.program-program.result.now p old.run k (running.Step c.in-Step.worker))) c.get.ensures c.step.ensures.event) in
    let stalls = subst (λ (q : Program). IfOk c.step.result (LeavesStalls q old.places old.run k (running.Step c.in-Step.worker))) c.program-program.ensures.value (subst (λ (p : Places). IfOk c.step.result (LeavesStalls c.program-program.result.now p old.run k (running.Step c.in-Step.worker))) c.get.ensures c.step.ensures.stalls) in
    let left = subst (λ (q : Program). OnErr c.step.result (LeavesAsShown q old.places old.run k)) c.program-program.ensures.value (subst (λ (p : Places). OnErr c.step.result (LeavesAsShown c.program-program.result.now p old.run k)) c.get.ensures c.step.ensures.refused) in
    machine_after old k c.step.ensures.workers c.step.ensures.moves c.step.ensures.follows (Step c.in-Step.worker) c.step.result
    (left_after old k c.step.ensures.workers c.step.ensures.moves c.step.ensures.follows (Step c.in-Step.worker) c.step.result left)
    (replays_after old k c.step.ensures.workers c.step.ensures.moves c.step.ensures.follows (Step c.in-Step.worker) c.step.result does c.step.ensures.left stalls) c.requires

pub returns-in-Steal-clause-enabled : goal.returns-in-Steal-clause-enabled
returns-in-Steal-clause-enabled c =
    let old = c.args.stage.now in
    let k = c.steal.new.self in
    subst (λ (e : Event). Happens old (with_run old k) (event_of e) c.steal.result) (sym c.in-Steal.is)
    (steal_happens old k c.in-Steal.worker c.in-Steal.path c.steal.result c.steal.ensures.steals c.steal.ensures.left c.steal.ensures.stalls c.steal.ensures.workers)

pub returns-in-Steal-clause-not_enabled : goal.returns-in-Steal-clause-not_enabled
returns-in-Steal-clause-not_enabled c off =
    let old = c.args.stage.now in
    ap (with_run old) (unless_done old c.steal.new.self c.in-Steal.worker c.in-Steal.path c.steal.result c.steal.ensures.steals c.steal.ensures.left c.steal.ensures.stalls c.steal.ensures.workers off)

pub returns-in-Steal-clause-replays : goal.returns-in-Steal-clause-replays
returns-in-Steal-clause-replays c =
    let old = c.args.stage.now in
    let k = c.steal.new.self in
    subst (λ (e : Event). ReplaysOneMore old (with_run old k) e) (sym c.in-Steal.is)
    (steal_replays old k c.in-Steal.worker c.in-Steal.path c.steal.result c.steal.ensures.steals c.steal.ensures.left c.steal.ensures.stalls c.steal.ensures.workers)

pub returns-in-Steal-clause-machine : goal.returns-in-Steal-clause-machine
returns-in-Steal-clause-machine c =
    let old = c.args.stage.now in
    let k = c.steal.new.self in
    machine_after old k c.steal.ensures.workers (ap (λ v. length v.items) c.steal.ensures.moves) c.steal.ensures.follows (Steal c.in-Steal.worker c.in-Steal.path) (Ok c.steal.result) tt
    (steal_replays old k c.in-Steal.worker c.in-Steal.path c.steal.result c.steal.ensures.steals c.steal.ensures.left c.steal.ensures.stalls c.steal.ensures.workers) c.requires
