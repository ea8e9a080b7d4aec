use Rattle.std.proofs.Common.{ℕ, drop, ap, ◌∙◌}
use Rattle.std.proofs.lemmas.List.{take_rest}
use Rattle.ir_lex.specs.Spelling.{is_note_mark}
use Rattle.annotate.proofs.own_lines.is_annotation.Goals as goal

pub returns : goal.returns
returns c =
    c.is_note_mark.ensures ∙ ap is_note_mark (take_rest c.args.line.now c.spaces-start.result)
    ∙ ap (λ (n : ℕ). is_note_mark (drop n c.args.line.now)) c.spaces-start.ensures.value
