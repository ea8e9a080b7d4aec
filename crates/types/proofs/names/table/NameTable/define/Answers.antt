use Rattle.std.proofs.Common.{refl, ◌∙◌}
use Rattle.types.proofs.names.Tables.{entered, absent}
use Rattle.types.proofs.names.table.NameTable.define.Goals as goal

pub returns-in_ok-insert-clause-ok : goal.returns-in_ok-insert-clause-ok
returns-in_ok-insert-clause-ok g c = entered _ c.in_ok-key.key c.args.meaning (λ k. refl) c.self.inside.entries.entries c.insert.new.self.entries c.args.self.now c.args.name.now c.self.view_is (c.in_ok-key.ensures.items ∙ c.as_bytes-then-is_none.ensures) (absent c.args.self.now c.as_bytes.result.now c.args.name.now c.find.result c.find.ensures c.as_bytes.ensures c.if-is_none.ensures) c.in_ok-insert.ensures.entries
