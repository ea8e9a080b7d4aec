use Rattle.std.proofs.Common.{◌∙◌, ◌<◌, ◌≤◌, ◌-◌, ◌^◌, pos, length, sym, arith}
use Rattle.std.specs.Prelude.{unsigned_abs}
use Rattle.std.proofs.lemmas.List.Elements.{All-get_or}
use Rattle.std.proofs.lemmas.Bool.{false≢true}
use Rattle.linear_shown.specs.declared.index.Entry.{Entry}
use Rattle.linear_shown.specs.Index.{Meet}
use Rattle.linear_shown.proofs.Passing.{passed_below, passed_above, passed_alone, they_meet}
use Rattle.linear_shown.proofs.meeting.next_two.Goals as goal

abbrev none : Entry
none = record { key = 0; constant = pos 0; place = 0 }

pub returns-then-first-pass-clause-passed : goal.returns-then-first-pass-clause-passed
returns-then-first-pass-clause-passed c = λ i k le li lk m s.
    let sought = c.args.pass.now.sought in
    let was = c.loop-first.invariant.3 i k le li lk m s in (
      passed_below c.args.pass.now.firsts.now c.args.pass.now.seconds.now sought.first sought.second sought.total c.loop-first.first c.loop-first.count c.risen-first.result i k none _ c.requires.seconds.sorted (omega (arith, c.if-count-gt0.true))
          (omega (arith, c.loop-first.invariant.2, c.requires.upto)) c.times-of_second.ensures.value c.risen-first.ensures.below was.0 was.1 m,
      was.1,
    )

pub returns-then-is_enough-clause-passed : goal.returns-then-is_enough-clause-passed
returns-then-is_enough-clause-passed c = λ i k le li lk m s.
    let sought = c.args.pass.now.sought in
    let was = c.loop-first.invariant.3 i k le li lk m s in (
      passed_below c.args.pass.now.firsts.now c.args.pass.now.seconds.now sought.first sought.second sought.total c.loop-first.first c.loop-first.count c.risen-first.result i k none _ c.requires.seconds.sorted (omega (arith, c.if-count-gt0.true))
          (omega (arith, c.loop-first.invariant.2, c.requires.upto)) c.times-of_second.ensures.value c.risen-first.ensures.below was.0 was.1 m,
      was.1,
    )

pub returns-then-not-is_alone-clause-passed : goal.returns-then-not-is_alone-clause-passed
returns-then-not-is_alone-clause-passed c = λ i k le li lk m s.
    let sought = c.args.pass.now.sought in
    let was = c.loop-first.invariant.3 i k le li lk m s in (
      passed_below c.args.pass.now.firsts.now c.args.pass.now.seconds.now sought.first sought.second sought.total c.loop-first.first c.loop-first.count c.risen-first.result i k none _ c.requires.seconds.sorted (omega (arith, c.if-count-gt0.true))
          (omega (arith, c.loop-first.invariant.2, c.requires.upto)) c.times-of_second.ensures.value c.risen-first.ensures.below was.0 was.1 m,
      was.1,
    )

pub loop-first-preserved-then-total-of_first : goal.loop-first-preserved-then-total-of_first
loop-first-preserved-then-total-of_first c =
    let xs = c.args.pass.now.firsts.now in
    let ys = c.args.pass.now.seconds.now in
    let sought = c.args.pass.now.sought in
    let count = c.loop-first.count in
    let old = c.loop-first.invariant in
    let some : 0 < count = omega (arith, c.if-count-gt0.true) in
    let within : count ≤ length ys = omega (arith, old.2, c.requires.upto) in (
      omega (arith, old.0, c.risen-first.ensures.from),
      c.risen-first.ensures.within,
      omega (arith, old.2, c.fallen-count.ensures.within),
      λ i k le li lk m s.
          let was = old.3 i k le li lk m s in
          let from = passed_below xs ys sought.first sought.second sought.total c.loop-first.first count c.risen-first.result i k none _ c.requires.seconds.sorted some within c.times-of_second.ensures.value c.risen-first.ensures.below was.0 was.1 m in (
            from,
            passed_above xs ys sought.first sought.second sought.total c.risen-first.result count c.fallen-count.result i k none none _ _ c.requires.firsts.sorted li within
                c.times-of_first.ensures.value c.times-of_second.ensures.value c.if-total-of_first.true c.fallen-count.ensures.above from was.1 m,
          ),
    )

pub loop-first-preserved : goal.loop-first-preserved
loop-first-preserved c =
    let xs = c.args.pass.now.firsts.now in
    let ys = c.args.pass.now.seconds.now in
    let sought = c.args.pass.now.sought in
    let first = c.risen-first.result in
    let count = c.loop-first.count in
    let old = c.loop-first.invariant in
    let some : 0 < count = omega (arith, c.if-count-gt0.true) in
    let within : count ≤ length ys = omega (arith, old.2, c.requires.upto) in
    let there : first < length xs = omega (arith, c.if-first-pass.false) in
    let met : Meet xs ys sought.first sought.second sought.total first (count - 1) = they_meet xs ys sought.first sought.second sought.total first (count - 1) none none _ _ there (omega (arith, some, within))
    c.times-of_first.ensures.value c.times-of_second.ensures.value (omega (arith, c.if-total-of_first.false, c.times-of_first.ensures.value, c.risen-first.ensures.reached none there)) in (
      omega (arith, old.0, c.risen-first.ensures.from, c.skipped.ensures.at),
      c.skipped.ensures.inside,
      omega (arith, c.left_after-count.ensures.within, c.skipped.ensures.within, old.2),
      λ i k le li lk m s.
          let was = old.3 i k le li lk m s in
          let from = passed_below xs ys sought.first sought.second sought.total c.loop-first.first count first i k none _ c.requires.seconds.sorted some within c.times-of_second.ensures.value c.risen-first.ensures.below was.0 was.1 m in
          let next = passed_alone xs ys sought.first sought.second sought.total c.args.pass.now.a c.args.pass.now.b c.args.pass.now.most first count c.left_after-count.result i k none none
          c.requires.some some within there met (λ h. false≢true (sym c.if-is_enough.false ∙ c.is_enough.ensures.1 h))
          (λ k d l. c.is_alone.ensures k d c.if-not-is_alone.false l) c.left_after-count.ensures.all c.left_after-count.ensures.passed from li was.1 m s in
          c.skipped.ensures.passed i k next.0 li next.1 m s,
    )

pub returns-then-is_enough-clause-met : goal.returns-then-is_enough-clause-met
returns-then-is_enough-clause-met c = λ there some.
    let xs = c.args.pass.now.firsts.now in
    let ys = c.args.pass.now.seconds.now in
    let sought = c.args.pass.now.sought in
    let count = c.loop-first.count in
    they_meet xs ys sought.first sought.second sought.total c.risen-first.result (count - 1) none none _ _ there (omega (arith, some, c.loop-first.invariant.2, c.requires.upto))
    c.times-of_first.ensures.value c.times-of_second.ensures.value (omega (arith, c.if-total-of_first.false, c.times-of_first.ensures.value, c.risen-first.ensures.reached none there))

pub returns-then-not-is_alone-clause-met : goal.returns-then-not-is_alone-clause-met
returns-then-not-is_alone-clause-met c = λ there some.
    let xs = c.args.pass.now.firsts.now in
    let ys = c.args.pass.now.seconds.now in
    let sought = c.args.pass.now.sought in
    let count = c.loop-first.count in
    they_meet xs ys sought.first sought.second sought.total c.risen-first.result (count - 1) none none _ _ there (omega (arith, some, c.loop-first.invariant.2, c.requires.upto))
    c.times-of_first.ensures.value c.times-of_second.ensures.value (omega (arith, c.if-total-of_first.false, c.times-of_first.ensures.value, c.risen-first.ensures.reached none there))

pub returns-then-not-is_alone-clause-at : goal.returns-then-not-is_alone-clause-at
returns-then-not-is_alone-clause-at c = omega (arith, c.loop-first.invariant.0, c.risen-first.ensures.from)

pub returns-then-not-is_alone-clause-within : goal.returns-then-not-is_alone-clause-within
returns-then-not-is_alone-clause-within c = c.loop-first.invariant.2

pub is_alone-requires-clause-sorted : goal.is_alone-requires-clause-sorted
is_alone-requires-clause-sorted c = c.requires.seconds.sorted

pub is_alone-requires-clause-count : goal.is_alone-requires-clause-count
is_alone-requires-clause-count c = omega (arith, c.loop-first.invariant.2, c.requires.upto)

pub is_alone-requires-clause-some : goal.is_alone-requires-clause-some
is_alone-requires-clause-some c = c.if-count-gt0.true

pub left_after-count-requires-clause-sorted : goal.left_after-count-requires-clause-sorted
left_after-count-requires-clause-sorted c = c.requires.firsts.sorted

pub left_after-count-requires-clause-at : goal.left_after-count-requires-clause-at
left_after-count-requires-clause-at c = c.if-first-pass.false

pub left_after-count-requires-clause-some : goal.left_after-count-requires-clause-some
left_after-count-requires-clause-some c = c.if-count-gt0.true

pub skipped-requires : goal.skipped-requires
skipped-requires c = record {
  firsts = c.requires.firsts;
  seconds = c.requires.seconds;
  first = c.requires.first;
  second = c.requires.second;
  some = c.requires.some;
  a = c.requires.a;
  b = c.requires.b;
  at = omega (arith, c.if-first-pass.false);
  upto = omega (arith, c.left_after-count.ensures.within, c.loop-first.invariant.2, c.requires.upto);
}

pub returns-then-is_enough-clause-at : goal.returns-then-is_enough-clause-at
returns-then-is_enough-clause-at c = omega (arith, c.loop-first.invariant.0, c.risen-first.ensures.from)

pub returns-then-is_enough-clause-within : goal.returns-then-is_enough-clause-within
returns-then-is_enough-clause-within c = c.loop-first.invariant.2

pub times-of_second-requires-clause-key : goal.times-of_second-requires-clause-key
times-of_second-requires-clause-key c = All-get_or (λ (e : Entry). e.key < 2 ^ 101) c.args.pass.now.seconds.now (c.loop-first.count - 1) none (omega (arith, c.loop-first.invariant.2, c.requires.upto, c.if-count-gt0.true)) c.requires.seconds.keys

pub times-of_first-requires-clause-key : goal.times-of_first-requires-clause-key
times-of_first-requires-clause-key c = All-get_or (λ (e : Entry). e.key < 2 ^ 101) c.args.pass.now.firsts.now c.risen-first.result none (omega (arith, c.if-first-pass.false)) c.requires.firsts.keys

pub is_enough-requires-clause-one : goal.is_enough-requires-clause-one
is_enough-requires-clause-one c = All-get_or (λ (e : Entry). unsigned_abs e.constant < 2 ^ 100) c.args.pass.now.firsts.now c.risen-first.result none (omega (arith, c.if-first-pass.false)) c.requires.firsts.constants

pub is_enough-requires-clause-other : goal.is_enough-requires-clause-other
is_enough-requires-clause-other c = All-get_or (λ (e : Entry). unsigned_abs e.constant < 2 ^ 100) c.args.pass.now.seconds.now (c.loop-first.count - 1) none (omega (arith, c.loop-first.invariant.2, c.requires.upto, c.if-count-gt0.true)) c.requires.seconds.constants

pub loop-first-smaller-then-total-of_first : goal.loop-first-smaller-then-total-of_first
loop-first-smaller-then-total-of_first c = omega (arith, c.risen-first.ensures.from, c.risen-first.ensures.within, c.fallen-count.ensures.within, c.if-count-gt0.true)

pub loop-first-smaller : goal.loop-first-smaller
loop-first-smaller c = omega (arith, c.risen-first.ensures.from, c.if-first-pass.false, c.left_after-count.ensures.within, c.skipped.ensures.at, c.skipped.ensures.inside, c.skipped.ensures.within)

pub returns-else-count-gt0-clause-passed : goal.returns-else-count-gt0-clause-passed
returns-else-count-gt0-clause-passed c = c.loop-first.invariant.3

pub returns-after-loop-first-clause-passed : goal.returns-after-loop-first-clause-passed
returns-after-loop-first-clause-passed c = c.loop-first.invariant.3
