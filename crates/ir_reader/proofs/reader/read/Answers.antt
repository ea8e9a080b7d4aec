use Rattle.std.proofs.Common.{◌≡◌, ◌+◌, ◌-◌, ◌<◌, ◌≤◌, ℕ, List, [], length, sym, ap, ◌∙◌, subst, arith}
use Rattle.std.specs.Prelude.{Ok}
use Rattle.std.proofs.lemmas.Bool.{eqb-true}
use Rattle.std.proofs.lemmas.List.{nil_from_length}
use Rattle.std.proofs.lemmas.Result.{err_from_is_err_and, IfOk-weaker, IfErr-weaker}
use Rattle.ir_reader.specs.declared.draft.Draft.{Draft}
use Rattle.ir_reader.specs.Lines.{lines_of}
use Rattle.ir_reader.specs.Reading.{start, Reads, Done, Steps, Read}
use Rattle.ir_reader.proofs.Keeping.{answers_kept}
use Rattle.ir_reader.proofs.LineByLine.{stopped, too_long, goes_on, unfinished, on_a_line, if_on_a_line}
use Rattle.ir_reader.proofs.reader.read.Goals as goal

pub loop-rest-init : goal.loop-rest-init
loop-rest-init c =
    let t : List ℕ = c.args.text.now in
    let whole : length t + 1048576 - length t ≡ 1048576 = omega arith in
    record {
      tracked = c.in-Ok.ensures.tracked;
      counted = omega arith;
      within = omega arith;
      short = omega arith;
      so_far = λ out h. subst (λ (d : Draft). Reads d 1 1048576 (lines_of t) out) c.in-Ok.ensures.draft (subst (λ (k : ℕ). Reads c.in-Ok.reader.draft 1 k (lines_of t) out) whole h);
    }

pub loop-rest-preserved : goal.loop-rest-preserved
loop-rest-preserved c =
    let t : List ℕ = c.args.text.now in
    let line : List ℕ = c.cut_line.result.0.now in
    let after : List ℕ = c.cut_line.result.1.now in
    let room : ℕ = length c.loop-rest.rest.now + 1048576 - length t in
    let next : ℕ = length after + 1048576 - length t in
    let fits : length line ≤ room = omega arith in
    let left : next ≡ room - length line = omega arith in
    let step : Steps c.loop-rest.reader.draft (c.loop-rest.number + 1) _ (Ok c.in_ok-reader.reader.draft) = rw c.content-in-loop-rest.ensures at c.in_ok-reader.ensures.read in
    record {
      tracked = c.in_ok-reader.ensures.tracked;
      counted = omega (arith, ap length c.cut_line.ensures.lines);
      within = omega arith;
      short = omega arith;
      so_far = goes_on t c.loop-rest.reader.draft c.in_ok-reader.reader.draft (c.loop-rest.number + 1) room next line (lines_of after) (λ out r. c.loop-rest.invariant.so_far out (rw c.cut_line.ensures.lines r)) fits left step;
    }

pub returns-then-text-after-gt-MAX_BYTES-clause-fault : goal.returns-then-text-after-gt-MAX_BYTES-clause-fault
returns-then-text-after-gt-MAX_BYTES-clause-fault c =
    let t : List ℕ = c.args.text.now in
    let line : List ℕ = c.cut_line.result.0.now in
    let room : ℕ = length c.loop-rest.rest.now + 1048576 - length t in
    let past : room < length line = omega arith in
    too_long c.overlong.result t c.loop-rest.reader.draft (c.loop-rest.number + 1) room line (lines_of c.cut_line.result.1.now) (λ out r. c.loop-rest.invariant.so_far out (rw c.cut_line.ensures.lines r)) past (rw c.content.ensures at c.overlong.ensures)

pub returns-then-text-after-gt-MAX_BYTES-clause-line : goal.returns-then-text-after-gt-MAX_BYTES-clause-line
returns-then-text-after-gt-MAX_BYTES-clause-line c = on_a_line c.args.text.now c.overlong.result (returns-then-text-after-gt-MAX_BYTES-clause-fault c)

pub returns-in_err-reader-clause-fault : goal.returns-in_err-reader-clause-fault
returns-in_err-reader-clause-fault c =
    let t : List ℕ = c.args.text.now in
    let line : List ℕ = c.cut_line.result.0.now in
    let room : ℕ = length c.loop-rest.rest.now + 1048576 - length t in
    let fits : length line ≤ room = omega arith in
    let p = err_from_is_err_and c.from_residual.result c.from_residual.ensures.1 in
    rw (p.1, p.2) (stopped c.in_err-reader.field-0.0 t c.loop-rest.reader.draft (c.loop-rest.number + 1) room line (lines_of c.cut_line.result.1.now) (λ out r. c.loop-rest.invariant.so_far out (rw c.cut_line.ensures.lines r)) fits
    (rw c.content-in-loop-rest.ensures at c.in_err-reader.ensures.fault))

pub returns-in_err-reader-clause-line : goal.returns-in_err-reader-clause-line
returns-in_err-reader-clause-line c = if_on_a_line c.args.text.now _ (returns-in_err-reader-clause-fault c)

pub returns-clause-exact : goal.returns-clause-exact
returns-clause-exact c =
    let t : List ℕ = c.args.text.now in
    let none : c.loop-rest.rest.now ≡ [] = nil_from_length c.loop-rest.rest.now (eqb-true _ _ (sym c.is_empty.ensures ∙ c.loop-rest-test.false)) in
    let count : c.loop-rest.number ≡ length (lines_of t) = omega (arith, ap (λ (r : List ℕ). length (lines_of r)) none) in
    let all : Reads start 1 1048576 (lines_of t) (Ok c.loop-rest.reader.draft) = c.loop-rest.invariant.so_far (Ok c.loop-rest.reader.draft) (rw none (Done c.loop-rest.reader.draft (c.loop-rest.number + 1) _)) in
    IfOk-weaker c.end.result _ _ (λ m h. Read c.loop-rest.reader.draft (Ok m) all (rw count at h)) c.end.ensures.read

pub returns-clause-fault : goal.returns-clause-fault
returns-clause-fault c =
    let t : List ℕ = c.args.text.now in
    let none : c.loop-rest.rest.now ≡ [] = nil_from_length c.loop-rest.rest.now (eqb-true _ _ (sym c.is_empty.ensures ∙ c.loop-rest-test.false)) in
    let count : c.loop-rest.number ≡ length (lines_of t) = omega (arith, ap (λ (r : List ℕ). length (lines_of r)) none) in
    let all : Reads start 1 1048576 (lines_of t) (Ok c.loop-rest.reader.draft) = c.loop-rest.invariant.so_far (Ok c.loop-rest.reader.draft) (rw none (Done c.loop-rest.reader.draft (c.loop-rest.number + 1) _)) in
    IfErr-weaker c.end.result _ _ (λ e h. unfinished e t c.loop-rest.reader.draft all (rw count at h)) c.end.ensures.fault

pub returns-clause-line : goal.returns-clause-line
returns-clause-line c = if_on_a_line c.args.text.now _ (returns-clause-fault c)

pub returns-clause-kept : goal.returns-clause-kept
returns-clause-kept c = IfOk-weaker c.end.result _ _ (λ m h. answers_kept c.args.text.now m h) (returns-clause-exact c)
