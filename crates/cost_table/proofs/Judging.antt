-- Pairs of inequalities, judged together.
use Rattle.std.proofs.Common.{◌≡◌, ◌∙◌, ℕ, Bool, List, [], Option, Result, Ok, Err, ap, subst}
use Rattle.std.specs.Prelude.{IfOk}
use Rattle.linear.specs.Terms.{Combination}
use Rattle.linear.specs.declared.form.Fact.{Fact}
use Rattle.refusal.specs.declared.broken.Broken.{Broken}
use Rattle.ranges.specs.cfg.declared.structure.Move.{Move}
use Rattle.refusal.specs.Earliest.{IsEarliest}
use Rattle.ranges.specs.Sums.{shows}
use Rattle.cost_table.specs.Rules.{left_behind, less_form, IsPairBroken}

pub pair_named : (number line : ℕ) (a a' b b' : Bool) (r : Option Broken) → a ≡ a' → b ≡ b' → IsEarliest (IsPairBroken number line a b) r → IsEarliest (IsPairBroken number line a' b') r
pair_named number line a a' b b' r p q j = subst (λ (x : Bool). IsEarliest (IsPairBroken number line x b') r) p (subst (λ (y : Bool). IsEarliest (IsPairBroken number line a y) r) q j)

-- what is shown of an edge, by equal parts
pub shown_next : (facts facts' : List Fact) (left : Combination) (n : ℕ) (moves moves' : List Move) (next next' : Combination) (b : Bool) → facts ≡ facts' → moves ≡ moves' → next ≡ next' →
    b ≡ shows facts (less_form (left_behind left n) moves next) → b ≡ shows facts' (less_form (left_behind left n) moves' next')
shown_next facts facts' left n moves moves' next next' b p q r e =
    e ∙ ap (λ (fs : List Fact). shows fs (less_form (left_behind left n) moves next)) p ∙ ap (λ (ms : List Move). shows facts' (less_form (left_behind left n) ms next)) q
    ∙ ap (λ (g : Combination). shows facts' (less_form (left_behind left n) moves' g)) r

-- and of a detach
pub shown_both : (facts : List Fact) (left : Combination) (n : ℕ) (first first' second second' : Combination) (b : Bool) → first ≡ first' → second ≡ second' →
    b ≡ shows facts (less_form (less_form (left_behind left n) [] first) [] second) → b ≡ shows facts (less_form (less_form (left_behind left n) [] first') [] second')
shown_both facts left n first first' second second' b p q e =
    e ∙ ap (λ (g : Combination). shows facts (less_form (less_form (left_behind left n) [] g) [] second)) p ∙ ap (λ (g : Combination). shows facts (less_form (less_form (left_behind left n) [] first') [] g)) q

pub if_ok_to : {T E : Type 0} (P Q : T → Type 0) (r : Result T E) → ((x : T) → P x → Q x) → IfOk r P → IfOk r Q
if_ok_to {T} {E} P Q (Ok x) f p = f x p
if_ok_to {T} {E} P Q (Err e) f p = p
