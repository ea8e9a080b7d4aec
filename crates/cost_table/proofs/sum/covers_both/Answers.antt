use Rattle.std.proofs.Common.{◌≡◌, ◌∙◌, ℕ, ◌<◌, ◌^◌, ℤ, pos, negsuc, ◌-ℤ◌, Bool, List, [], ◌++◌, sym, ap, rules, arith, FitsSigned}
use Rattle.std.specs.Prelude.{unsigned_abs}
use Rattle.std.specs.Int.{w128}
use Rattle.std.proofs.lemmas.Int.{ints, to_z-of_z}
use Rattle.linear.specs.declared.form.Term.{Term}
use Rattle.ranges.specs.ranges_owed.declared.sum.Part.{Part}
use Rattle.ranges.specs.ranges_owed.declared.sum.Sum.{Sum}
use Rattle.ranges.specs.Sums.{shows}
use Rattle.ranges.specs.ranges_owed.Inequalities.{parts_of}
use Rattle.cost_table.specs.Rules.{left_behind, less_form}
use Rattle.cost_table.specs.Tables.{as_u128}
use Rattle.cost_table.proofs.Judging.{if_ok_to}
use Rattle.cost_table.proofs.Past.{past_both, much, exact, made}
use Rattle.cost_table.proofs.sum.covers_both.Goals as goal

pub returns-then-done-ge-TOO_MUCH : goal.returns-then-done-ge-TOO_MUCH
returns-then-done-ge-TOO_MUCH c = λ n is.
    let small : unsigned_abs c.args.left.now.constant < 2 ^ 100 = rw (← c.side_of-left.ensures.constant) c.side_of-left.ensures.small_constant in
    let small' : unsigned_abs c.args.first.now.constant < 2 ^ 100 = rw (← c.side_of-first.ensures.constant) c.side_of-first.ensures.small_constant in
    let small'' : unsigned_abs c.args.second.now.constant < 2 ^ 100 = rw (← c.side_of-second.ensures.constant) c.side_of-second.ensures.small_constant in
    sym (past_both c.args.facts.now c.args.left.now n c.args.first.now c.args.second.now small small' small'' (much c.args.done n is c.if-done-ge-TOO_MUCH.true))

pub returns : goal.returns
returns c =
    let facts = c.args.facts.now in
    let constant : ℤ = c.constant_left.result in
    let fits : FitsSigned w128 constant = search rules in
    let shown = rw (to_z-of_z w128 c.constant_left.result fits) at c.shows.ensures in
    let sum : Sum = record { constant = constant; parts = c.from_vec.result } in
    let terms = c.args.left.now.terms in
    let first : c.push_parts.new.parts.items ≡ parts_of [] (pos 1) terms =
    c.in_ok-push_parts.ensures.ok ∙ ap (λ (ps : List Part). ps ++ parts_of [] (pos 1) c.side_of-left.result.terms.now) c.new-parts.ensures.items ∙ ap (parts_of [] (pos 1)) c.side_of-left.ensures.terms in
    let second : c.push_parts-2.new.parts.items ≡ parts_of [] (pos 1) terms ++ parts_of [] (negsuc 0) c.args.first.now.terms =
    c.in_ok-push_parts-2.ensures.ok ∙ ap (λ (ps : List Part). ps ++ parts_of [] (negsuc 0) c.side_of-first.result.terms.now) first
    ∙ ap (λ (ts : List Term). parts_of [] (pos 1) terms ++ parts_of [] (negsuc 0) ts) c.side_of-first.ensures.terms in
    let parts : c.from_vec.result ≡ (parts_of [] (pos 1) terms ++ parts_of [] (negsuc 0) c.args.first.now.terms) ++ parts_of [] (negsuc 0) c.args.second.now.terms =
    c.from_vec.ensures ∙ c.in_ok-push_parts-3.ensures.ok ∙ ap (λ (ps : List Part). ps ++ parts_of [] (negsuc 0) c.side_of-second.result.terms.now) second
    ∙ ap (λ (ts : List Term). (parts_of [] (pos 1) terms ++ parts_of [] (negsuc 0) c.args.first.now.terms) ++ parts_of [] (negsuc 0) ts) c.side_of-second.ensures.terms in
    if_ok_to (λ (b : Bool). b ≡ shows facts sum) (λ (b : Bool). (n : ℕ) → c.args.done ≡ as_u128 n → b ≡ shows facts (less_form (less_form (left_behind c.args.left.now n) [] c.args.first.now) [] c.args.second.now)) c.shows.result
    (λ b e. λ n is.
    let same : c.args.done ≡ n = exact c.args.done n is c.if-done-ge-TOO_MUCH.false in
    let value : constant ≡ ((c.args.left.now.constant -ℤ pos n) -ℤ c.args.first.now.constant) -ℤ c.args.second.now.constant = omega (arith, ints, c.constant_left.ensures, c.side_of-left.ensures.constant, c.side_of-first.ensures.constant, c.side_of-second.ensures.constant) in
    e ∙ ap (shows facts) (made constant (((c.args.left.now.constant -ℤ pos n) -ℤ c.args.first.now.constant) -ℤ c.args.second.now.constant) c.from_vec.result _ value parts))
    shown
