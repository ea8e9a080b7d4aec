use Rattle.std.proofs.Common.{rules, ◌≡◌, Some, sym, ap, ◌∙◌}
use Rattle.cactus.specs.Frames.{Frames, node_at}
use Rattle.cactus.proofs.ByPathLemmas.{removed_binds}
use Rattle.cactus.proofs.cactus.Cactus.remove.Goals as goal

pub returns-clause-map : goal.returns-clause-map
returns-clause-map g c tree leaf =
    let stood : node_at c.args.self.now c.args.slot ≡ Some c.remove.result = sym (ap (λ (f : Frames g.row.F.Denot). node_at f c.args.slot) c.self.view_is) ∙ c.remove.ensures.value in
    removed_binds c.args.self.now (record { nodes = c.remove.new.self.slots; made = c.self.inside.made }) c.args.slot c.remove.result tree stood leaf (search rules)
