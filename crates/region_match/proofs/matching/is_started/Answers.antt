use Rattle.std.proofs.Common.{refl, sym, ◌∙◌}
use Rattle.std.proofs.lemmas.Bool.{true≢false, false≢true}
use Rattle.region_match.specs.Rules.{Starts}
use Rattle.refusal.proofs.Places.{read_at}
use Rattle.region_match.proofs.Started.{not_started_more, not_started_all}
use Rattle.region_match.proofs.matching.is_started.Goals.{else-is_same-via-then-is_same+else-is_start_among, else-is_same-via-else-is_same}
use Rattle.region_match.proofs.matching.is_started.Goals as goal

pub returns-then-is_start_among : goal.returns-then-is_start_among
returns-then-is_start_among c =
    let block = c.index-bodies-b.result in
    let starts : Starts c.args.region block.steps = rw (← c.as_slice.ensures) (c.is_start_among.ensures.0 c.if-is_start_among.true) in
    (λ _. (c.loop-b.b, block, read_at c.args.bodies.now c.loop-b.b block c.loop-b-test.true c.index-bodies-b.is, starts, c.is_same.ensures.0 c.if-is_same.true), λ _. refl)

pub loop-b-preserved : goal.loop-b-preserved
loop-b-preserved c =
    not_started_more c.args.bodies.now c.args.tasks.now c.args.region c.args.task c.loop-b.b c.index-bodies-b.result c.loop-b-test.true c.index-bodies-b.is c.loop-b.invariant
    (λ starts same. elim c.else-is_same.branch [
      | else-is_same-via-then-is_same+else-is_start_among w ↦ true≢false (sym (w.is_start_among.ensures.1 (rw w.as_slice.ensures starts)) ∙ w.if-is_start_among.false)
      | else-is_same-via-else-is_same w ↦ true≢false (sym (c.is_same.ensures.1 same) ∙ w.if-is_same.false)
    ])

pub returns : goal.returns
returns c = (λ h. absurd (false≢true h), λ started. absurd (not_started_all c.args.bodies.now c.args.tasks.now c.args.region c.args.task _ c.loop-b-test.false c.loop-b.invariant started))
