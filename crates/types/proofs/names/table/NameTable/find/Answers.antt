use Rattle.std.proofs.Common.{ap, ◌∙◌}
use Rattle.types.specs.names.Table.{look_up}
use Rattle.types.proofs.names.Tables.{look_up-seen}
use Rattle.types.proofs.names.table.NameTable.find.Goals as goal

pub returns : goal.returns
returns g c =
    c.copied.ensures ∙ c.get.ensures.value ∙ look_up-seen c.self.inside.entries.entries c.args.name.now
    ∙ ap (λ es. look_up es c.args.name.now) c.self.view_is
