use Rattle.std.proofs.Common.{map, ap, ◌∙◌}
use Rattle.types.specs.names.Mention.{mentions_of}
use Rattle.types.proofs.Judging.{resolved}
use Rattle.types.proofs.check.resolve_module.Goals as goal

pub returns : goal.returns
returns c =
    resolved c.args.whole.now c.resolve_program.result _ _ _ _ _ _ c.in_ok-items.ensures
    (c.in_ok-mentions.ensures ∙ ap (λ functions. map (mentions_of c.in_ok-items.items) functions) c.as_slice.ensures)
    c.as_slice-2.ensures c.len.ensures c.in_ok-named.ensures c.as_slice-3.ensures c.resolve_program.ensures
