use Rattle.std.proofs.Common.{refl, ap, ◌∙◌}
use Rattle.shared_run.specs.declared.history.Entry.TheVariants.{Steal}
use Rattle.shared_run.specs.Spelled.{spelled}
use Rattle.shared_run.proofs.Runs.{grown, spelled_push, told}
use Rattle.shared_run.proofs.history.History.push_steal.Goals as goal
use Rattle.shared_run.proofs.history.History.push_steal.Goals.{in-Events, in-Nothing}

pub invariant_of-self : goal.invariant_of-self
invariant_of-self c =
    let entry = Steal c.args.worker c.args.path in
    let entries = c.self.inside.entries.items in
    elim c.match-self.branch [
      | in-Events w ↦ rw w.self-inside-is
          (grown c.self.inside.keeping c.self.inside.total 1 entries w.push_reserved.new.self.items c.self.inside.story.items c.and-self-inside.result.items entry c.self.invariant
          c.and-self-inside.ensures
          refl
          (ap spelled w.push_reserved.ensures.items ∙ spelled_push entries entry))
      | in-Nothing w ↦ rw w.self-inside-is
          (told c.self.inside.keeping c.self.inside.total 1 entries c.self.inside.story.items c.and-self-inside.result.items entry c.self.invariant c.and-self-inside.ensures refl
          w.in-Nothing.is)
    ]
