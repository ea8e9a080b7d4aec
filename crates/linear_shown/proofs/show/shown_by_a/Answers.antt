use Rattle.std.proofs.Common.{◌<◌, length, refl, arith}
use Rattle.std.proofs.lemmas.Bool.{false≢true}
use Rattle.std.proofs.lemmas.List.Elements.{All-more, Contains-get_or}
use Rattle.linear_shown.specs.Search.{newest, side_at, IsFoundByB}
use Rattle.linear_shown.proofs.Parts.{none_found, length_newest}
use Rattle.linear_shown.proofs.show.shown_by_a.Goals as goal

pub returns-then-makes_up : goal.returns-then-makes_up
returns-then-makes_up c =
    let within : c.loop-second.second < length (newest c.args.facts.now) = rw (length_newest c.args.facts.now) (omega (arith, c.loop-second-test.true)) in
    (λ _. (side_at c.args.facts.now c.loop-second.second, Contains-get_or (newest c.args.facts.now) c.loop-second.second _ within, c.if-makes_up.ensures.0 refl), λ _. refl)

pub loop-second-preserved : goal.loop-second-preserved
loop-second-preserved c =
    All-more (λ g. IsFoundByB c.args.form.now c.args.a (side_at c.args.facts.now c.args.first) g → ⊥) (newest c.args.facts.now) c.loop-second.second _
    (rw (length_newest c.args.facts.now) (omega (arith, c.loop-second-test.true))) c.loop-second.invariant
    (λ s. false≢true (c.if-makes_up.ensures.1 s))

pub returns : goal.returns
returns c = (
  λ h. absurd (false≢true h),
  λ s. absurd (none_found (λ g. IsFoundByB c.args.form.now c.args.a (side_at c.args.facts.now c.args.first) g) (newest c.args.facts.now) c.loop-second.second c.loop-second.invariant (rw (length_newest c.args.facts.now) (omega (arith, c.loop-second-test.false))) s.0 s.1 s.2),
)
