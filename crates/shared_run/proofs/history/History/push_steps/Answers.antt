use Rattle.std.proofs.lemmas.List.{length-replicate}
use Rattle.frame.specs.declared.event.Event.TheVariants as event
use Rattle.shared_run.specs.declared.history.Entry.TheVariants.{Steps}
use Rattle.shared_run.proofs.Runs.{grown, told}
use Rattle.shared_run.proofs.history.History.push_steps.Goals as goal
use Rattle.shared_run.proofs.history.History.push_steps.Goals.{in-Events, in-Nothing}

pub invariant_of-self : goal.invariant_of-self
invariant_of-self c =
    let entry = Steps c.args.worker c.args.count in
    let long = length-replicate c.args.count (event.Step c.args.worker) in
    elim c.match-self.branch [
      | in-Events w ↦ rw w.self-inside-is
          (grown c.self.inside.keeping c.self.inside.total c.args.count c.self.inside.entries.items w.keep_steps.new.entries.items c.self.inside.story.items c.and-self-inside.result.items
          entry
          c.self.invariant
          c.and-self-inside.ensures
          long
          w.keep_steps.ensures)
      | in-Nothing w ↦ rw w.self-inside-is
          (told c.self.inside.keeping c.self.inside.total c.args.count c.self.inside.entries.items c.self.inside.story.items c.and-self-inside.result.items entry c.self.invariant
          c.and-self-inside.ensures
          long
          w.in-Nothing.is)
    ]
