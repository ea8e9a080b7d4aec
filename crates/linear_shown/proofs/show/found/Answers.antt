use Rattle.std.proofs.Common.{◌<◌, length, refl, arith}
use Rattle.std.proofs.lemmas.Bool.{false≢true}
use Rattle.std.proofs.lemmas.List.Elements.{All-more, Contains-get_or}
use Rattle.linear_shown.specs.Search.{newest, side_at, IsFoundFrom}
use Rattle.linear_shown.proofs.Parts.{none_found, length_newest}
use Rattle.linear_shown.proofs.show.found.Goals as goal

pub returns-then-shown_from : goal.returns-then-shown_from
returns-then-shown_from c =
    let within : c.loop-first.first < length (newest c.args.facts.now) = rw (length_newest c.args.facts.now) (omega (arith, c.loop-first-test.true)) in
    (λ _. (side_at c.args.facts.now c.loop-first.first, Contains-get_or (newest c.args.facts.now) c.loop-first.first _ within, c.if-shown_from.ensures.0 refl), λ _. refl)

pub loop-first-preserved : goal.loop-first-preserved
loop-first-preserved c =
    All-more (λ f. IsFoundFrom c.args.facts.now c.args.form.now c.args.lead f → ⊥) (newest c.args.facts.now) c.loop-first.first _
    (rw (length_newest c.args.facts.now) (omega (arith, c.loop-first-test.true))) c.loop-first.invariant
    (λ s. false≢true (c.if-shown_from.ensures.1 s))

pub returns : goal.returns
returns c = (
  λ h. absurd (false≢true h),
  λ s. absurd (none_found (λ f. IsFoundFrom c.args.facts.now c.args.form.now c.args.lead f) (newest c.args.facts.now) c.loop-first.first c.loop-first.invariant (rw (length_newest c.args.facts.now) (omega (arith, c.loop-first-test.false))) s.0 s.1 s.2),
)
