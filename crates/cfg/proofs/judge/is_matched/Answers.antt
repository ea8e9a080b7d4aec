use Rattle.std.proofs.Common.{false}
use Rattle.std.proofs.lemmas.Bool.{false≢true}
use Rattle.std.proofs.lemmas.List.{get_or_past}
use Rattle.reachability.proofs.Marking.{read_as}
use Rattle.cfg.proofs.Matching.{Matching-next, unmatched, answered}
use Rattle.cfg.proofs.judge.is_matched.Goals.{then-from-len-via-then-from-len, then-from-len-via-else-from-len+then-not-index}
use Rattle.cfg.proofs.judge.is_matched.Goals as goal

pub returns-then-from-len : goal.returns-then-from-len
returns-then-from-len c = (
  λ never. absurd (false≢true never),
  λ all. absurd (elim c.then-from-len.branch [
    | then-from-len-via-then-from-len w ↦
        let past = rw (c.len.ensures, c.loop-entry.left.ok.0) at w.if-from-len.true in
        unmatched _ _ _ _ _ c.loop-entry-test.true c.loop-entry.invariant (get_or_past _ _ false past) all
    | then-from-len-via-else-from-len+then-not-index w ↦
        let within = rw (c.len.ensures, c.loop-entry.left.ok.0) at w.if-from-len.false in
        unmatched _ _ _ _ _ c.loop-entry-test.true c.loop-entry.invariant (read_as _ _ _ _ within w.index.ensures w.if-not-index.true) all
  ]),
)

pub loop-entry-preserved : goal.loop-entry-preserved
loop-entry-preserved c =
    let within = rw (c.len.ensures, c.loop-entry.left.ok.0) at c.if-from-len.false in
    Matching-next _ _ _ _ _ c.loop-entry-test.true c.loop-entry.invariant within (read_as _ _ _ _ within c.index.ensures c.if-not-index.false)

pub returns : goal.returns
returns c = answered _ _ _ _ _ c.loop-entry.invariant c.loop-entry-test.false (rw (← c.deref.ensures.value) c.is_marked.ensures)
