use Rattle.std.proofs.Common.{◌<◌, length, arith}
use Rattle.std.proofs.lemmas.Bool.{false≢true}
use Rattle.linear_shown.specs.Index.{AreLeft}
use Rattle.linear_shown.proofs.Passing.{left_passed, left_next, none_left}
use Rattle.linear_shown.proofs.lookup.made_up_along.Goals.{then-pass-first-via-then-pass-first, then-pass-first-via-else-pass-first+then-count-eq0}
use Rattle.linear_shown.proofs.lookup.made_up_along.Goals as goal

pub returns-then-pass-first : goal.returns-then-pass-first
returns-then-pass-first c =
    let facts = c.args.search.now.facts.now in
    let e = c.args.search.now.form.now in
    let pass = c.args.pass.now in
    let first = c.next_two-first.result.0 in
    let count = c.next_two-first.result.1 in
    let left : AreLeft facts e pass.firsts.now pass.seconds.now pass.a pass.b first count =
    left_passed facts pass.firsts.now pass.seconds.now c.requires.firsts c.requires.seconds e pass.a pass.b c.args.search.now.key pass.sought.first pass.sought.second pass.sought.total pass.most
    c.loop-at.at c.loop-at.upto first count c.requires.key c.requires.total c.requires.most c.next_two-first.ensures.passed c.loop-at.invariant.2 in (
      λ h. absurd (false≢true h),
      λ made. absurd (none_left facts e pass.firsts.now pass.seconds.now pass.a pass.b first count left (λ l some. elim c.then-pass-first.branch [
        | then-pass-first-via-then-pass-first w ↦ omega (arith, w.if-pass-first.true, l)
        | then-pass-first-via-else-pass-first+then-count-eq0 w ↦ omega (arith, w.if-count-eq0.true, some)
      ]) made),
    )

pub loop-at-preserved : goal.loop-at-preserved
loop-at-preserved c =
    let facts = c.args.search.now.facts.now in
    let e = c.args.search.now.form.now in
    let pass = c.args.pass.now in
    let first = c.next_two-first.result.0 in
    let count = c.next_two-first.result.1 in
    let left : AreLeft facts e pass.firsts.now pass.seconds.now pass.a pass.b first count =
    left_passed facts pass.firsts.now pass.seconds.now c.requires.firsts c.requires.seconds e pass.a pass.b c.args.search.now.key pass.sought.first pass.sought.second pass.sought.total pass.most
    c.loop-at.at c.loop-at.upto first count c.requires.key c.requires.total c.requires.most c.next_two-first.ensures.passed c.loop-at.invariant.2 in
    let within : first < length pass.firsts.now = omega (arith, c.if-pass-first.false) in
    let some : 0 < count = omega (arith, c.if-count-eq0.false) in (
      omega (arith, within),
      omega (arith, c.left_after-upto.ensures.within, c.next_two-first.ensures.within, c.loop-at.invariant.1),
      left_next facts pass.firsts.now pass.seconds.now c.requires.firsts c.requires.seconds e pass.a pass.b c.args.search.now.key pass.sought.first pass.sought.second pass.sought.total first count c.left_after-upto.result
          c.requires.key c.requires.total c.requires.some (c.next_two-first.ensures.met within some) (λ d k l same sum. c.is_made_up.ensures.none d k c.if-is_made_up.false l same sum)
          c.left_after-upto.ensures.all c.left_after-upto.ensures.passed left,
    )

pub returns-else-upto-gt0 : goal.returns-else-upto-gt0
returns-else-upto-gt0 c =
    let pass = c.args.pass.now in (
      λ h. absurd (false≢true h),
      λ made. absurd (none_left c.args.search.now.facts.now c.args.search.now.form.now pass.firsts.now pass.seconds.now pass.a pass.b c.loop-at.at c.loop-at.upto c.loop-at.invariant.2 (λ l some. omega (arith, some, c.if-upto-gt0.false)) made),
    )

pub returns-after-loop-at : goal.returns-after-loop-at
returns-after-loop-at c =
    let pass = c.args.pass.now in (
      λ h. absurd (false≢true h),
      λ made. absurd (none_left c.args.search.now.facts.now c.args.search.now.form.now pass.firsts.now pass.seconds.now pass.a pass.b c.loop-at.at c.loop-at.upto c.loop-at.invariant.2 (λ l some. omega (arith, l, c.loop-at-test.false)) made),
    )
