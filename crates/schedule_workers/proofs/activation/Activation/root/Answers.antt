use Rattle.schedule_workers.proofs.Rooted.{root_is}
use Rattle.schedule_workers.proofs.activation.Activation.root.Goals as goal

pub returns : goal.returns
returns c =
    root_is c.args.main c.args.arguments.now c.args.registers c.args.start c.in_ok-registers.registers c.cast_signed.result c.requires.room c.requires.start
    c.cast_signed.ensures c.in_ok-registers.ensures c.new.result c.new.ensures.is c.new.ensures.none c.new.ensures.as_many
