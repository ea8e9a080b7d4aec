use Rattle.cactus.proofs.ByPathLemmas.{begins_map}
use Rattle.cactus.proofs.cactus.Cactus.add_root.Goals as goal

pub returns-clause-map : goal.returns-clause-map
returns-clause-map g c = begins_map c.put.result c.args.self.now c.put.new.self (record { numbers = c.new.result }) c.args.frame c.new.ensures c.put.ensures.ok
