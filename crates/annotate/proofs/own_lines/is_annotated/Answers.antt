use Rattle.std.proofs.Common.{◌≡◌, [], sym, ◌∙◌}
use Rattle.std.proofs.lemmas.Bool.{eqb-true}
use Rattle.std.proofs.lemmas.List.{nil_from_length}
use Rattle.annotate.specs.Kept.{None}
use Rattle.ir_reader.specs.Lines.{lines_of}
use Rattle.annotate.proofs.own_lines.is_annotated.Goals as goal

pub loop-rest-preserved : goal.loop-rest-preserved
loop-rest-preserved c = record {
  so_far = λ h. c.loop-rest.invariant.so_far (rw c.cut_line.ensures.lines (c.in-Some.ensures (lines_of c.cut_line.result.1.now) h));
}

pub returns : goal.returns
returns c = λ t.
    let read : c.loop-rest.rest.now ≡ [] = nil_from_length c.loop-rest.rest.now (eqb-true _ _ (sym c.is_empty.ensures ∙ c.loop-rest-test.false)) in
    let passed : c.loop-rest.left.now ≡ [] = nil_from_length c.loop-rest.left.now (eqb-true _ _ t) in
    c.loop-rest.invariant.so_far (rw (read, passed) None)
