-- Every schedule comes to the serial meaning.
use Rattle.std.proofs.Common.{◌≡◌, ◌∙◌, [], Some, true, sym, subst, slice_get}
use Rattle.std.specs.List.{All}
use Rattle.semantics.specs.State.{root_frame}
use Rattle.laws_conditions.proofs.theorem.EverySchedule.{kept_by_schedules}
use Rattle.program.specs.declared.function.Function.{Function}
use Rattle.laws_conditions.specs.rules.Costs.{numbers}
use Rattle.laws_phases.specs.facts.Known.{IsMet}
use Rattle.laws_phases.proofs.facts.Handed.{facts_at_start}
use Rattle.laws_schedule.specs.zones.Keeping.{Keeping, OfTask, kept_cells, pending_at, Fits, Expects}
use Rattle.laws_schedule.specs.zones.Conditions.{SchedulesAgree}
use Rattle.laws_schedule.proofs.zones.Conditions.{zones_are_met}
use Rattle.laws_schedule.proofs.zones.Starting.{zones_at_start}

pub schedules_agree : SchedulesAgree
schedules_agree prog regions base holds opens judged gives closes arguments memory function block is based held met o meant workers some events =
    let meets = zones_are_met prog regions base judged gives in
    let at_main : (other : Function) → slice_get prog.functions prog.main.0 ≡ Some other → All (IsMet (numbers (root_frame prog arguments).registers)) other.requirements =
    λ other at. (let both : Some function ≡ Some other = sym is.at_function ∙ at in let same : function ≡ other = cc in
    subst (λ (f : Function). All (IsMet (numbers (root_frame prog arguments).registers)) f.requirements) same met) in
    kept_by_schedules Keeping (kept_cells prog) prog (Fits prog regions (λ p f. base p f ≡ true)) (pending_at prog) (Expects prog) (λ p f. holds p f ≡ true) opens meets.stays meets.passes closes arguments memory
    (OfTask (root_frame prog arguments) function.zones [])
    (zones_at_start prog regions base judged arguments function block is based (facts_at_start prog judged.ranges arguments at_main)) held o meant workers some events
