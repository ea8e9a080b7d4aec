use Rattle.std.proofs.Common.{◌∙◌, ◌<◌, ◌≤◌, ◌-◌, ◌^◌, pos, get_or, length, sym, arith}
use Rattle.std.specs.Prelude.{unsigned_abs}
use Rattle.std.proofs.lemmas.Bool.{false≢true}
use Rattle.std.proofs.lemmas.List.Elements.{All-get_or}
use Rattle.linear_shown.specs.declared.index.Entry.{Entry}
use Rattle.linear_shown.specs.Index.{Meet}
use Rattle.linear_shown.proofs.Passing.{passed_both, they_meet}
use Rattle.linear_shown.proofs.meeting.skipped_alike.Goals as goal

abbrev none : Entry
none = record { key = 0; constant = pos 0; place = 0 }

pub loop-first-preserved : goal.loop-first-preserved
loop-first-preserved c =
    let xs = c.args.pass.now.firsts.now in
    let ys = c.args.pass.now.seconds.now in
    let total = c.args.pass.now.sought.total in
    let a = c.args.pass.now.a in
    let first = c.loop-first.first in
    let count = c.loop-first.count in
    let old = c.loop-first.invariant in
    let within : count ≤ length ys = omega (arith, old.2, c.requires.upto) in
    let met : Meet xs ys 1 1 total first (count - 1) = they_meet xs ys 1 1 total first (count - 1) none none (get_or xs first none).key (get_or ys (count - 1) none).key
    (omega (arith, c.loop-first-test.true)) (omega (arith, c.if-count-gt1.true, within)) (omega arith) (omega arith) c.if-one-other.false in (
      omega (arith, old.0),
      omega (arith, c.loop-first-test.true),
      omega (arith, old.2),
      λ i k le li lk m s.
          let was = old.3 i k le li lk m s in
          passed_both xs ys 1 1 total a a c.args.pass.now.most first count i k none c.requires.firsts.sorted c.requires.seconds.sorted (omega arith) (omega arith) c.if-count-gt1.true within c.loop-first-test.true
          met (λ h. false≢true (sym c.if-is_enough.false ∙ c.is_enough.ensures.1 h)) (c.is_single.ensures.first none c.if-not-is_single.false) (c.is_single.ensures.second none c.if-not-is_single.false)
          was.0 li was.1 m s,
    )

pub returns-then-is_enough-clause-passed : goal.returns-then-is_enough-clause-passed
returns-then-is_enough-clause-passed c = rw (c.requires.first, c.requires.second, ← c.requires.same) c.loop-first.invariant.3

pub returns-then-not-is_single-clause-passed : goal.returns-then-not-is_single-clause-passed
returns-then-not-is_single-clause-passed c = rw (c.requires.first, c.requires.second, ← c.requires.same) c.loop-first.invariant.3

pub is_enough-requires-clause-one : goal.is_enough-requires-clause-one
is_enough-requires-clause-one c = All-get_or (λ (e : Entry). unsigned_abs e.constant < 2 ^ 100) c.args.pass.now.firsts.now c.loop-first.first none (omega (arith, c.loop-first-test.true)) c.requires.firsts.constants

pub is_enough-requires-clause-other : goal.is_enough-requires-clause-other
is_enough-requires-clause-other c = All-get_or (λ (e : Entry). unsigned_abs e.constant < 2 ^ 100) c.args.pass.now.seconds.now (c.loop-first.count - 1) none (omega (arith, c.loop-first.invariant.2, c.requires.upto, c.if-count-gt1.true)) c.requires.seconds.constants

pub overflow_add-one : goal.overflow_add-one
overflow_add-one c =
    let one = All-get_or (λ (e : Entry). e.key < 2 ^ 101) c.args.pass.now.firsts.now c.loop-first.first none (omega (arith, c.loop-first-test.true)) c.requires.firsts.keys in
    let other = All-get_or (λ (e : Entry). e.key < 2 ^ 101) c.args.pass.now.seconds.now (c.loop-first.count - 1) none (omega (arith, c.loop-first.invariant.2, c.requires.upto, c.if-count-gt1.true)) c.requires.seconds.keys in
    omega (arith, one, other)

pub returns-then-one-other-clause-passed : goal.returns-then-one-other-clause-passed
returns-then-one-other-clause-passed c = rw (c.requires.first, c.requires.second, ← c.requires.same) c.loop-first.invariant.3

pub returns-else-count-gt1-clause-passed : goal.returns-else-count-gt1-clause-passed
returns-else-count-gt1-clause-passed c = rw (c.requires.first, c.requires.second, ← c.requires.same) c.loop-first.invariant.3

pub returns-after-loop-first-clause-passed : goal.returns-after-loop-first-clause-passed
returns-after-loop-first-clause-passed c = rw (c.requires.first, c.requires.second, ← c.requires.same) c.loop-first.invariant.3
