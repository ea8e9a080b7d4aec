use Rattle.std.proofs.Common.{ℕ, List, not, sym, ap, ◌∙◌}
use Rattle.ir_reader.specs.Names.{is_known}
use Rattle.ir_reader.proofs.Seen.{seen, repeats_one}
use Rattle.ir_reader.proofs.names.Names.define.Goals as goal

pub returns-clause-fresh : goal.returns-clause-fresh
returns-clause-fresh c =
    c.in_ok-insert.ensures.added
    ∙ ap not (seen c.self.inside.set.keys c.in_ok-name.name.items
    ∙ ap (λ (names : List (List ℕ)). is_known names c.in_ok-name.name.items) c.self.view_is
    ∙ ap (is_known c.args.self.now) c.in_ok-name.ensures.items
    ∙ sym (repeats_one c.args.self.now c.args.name.now))
