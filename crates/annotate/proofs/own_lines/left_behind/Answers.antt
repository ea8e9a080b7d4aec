use Rattle.std.proofs.Common.{sym, ◌∙◌}
use Rattle.annotate.proofs.Among.{added_line, kept_line}
use Rattle.annotate.proofs.own_lines.left_behind.Goals as goal

pub returns-then-are_same : goal.returns-then-are_same
returns-then-are_same c = λ more among.
    kept_line c.args.text.now c.cut_line.result.0.now c.cut_line.result.1.now c.args.line.now c.cut_line.ensures.lines
    (c.are_same.ensures c.if-are_same.true) more among

pub returns-then-is_annotation : goal.returns-then-is_annotation
returns-then-is_annotation c = λ more among.
    added_line c.args.text.now c.args.line.now (sym c.is_annotation.ensures ∙ c.if-is_annotation.true) more among
