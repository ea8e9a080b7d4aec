use Rattle.std.proofs.Common.{rules, ◌≡◌, ℕ, ◌+◌, ◌<◌, ℤ, pos, ◌+ℤ◌, ◌*ℤ◌, List, drop, length, get_or, arith, FitsSigned}
use Rattle.std.specs.Prelude.{slice_get}
use Rattle.std.specs.Int.{w64}
use Rattle.std.proofs.lemmas.Int.{ints, to_z-of_z}
use Rattle.std.proofs.lemmas.List.{drop_more}
use Rattle.linear.specs.declared.form.Term.{Term}
use Rattle.linear.specs.Forms.{value_of}
use Rattle.semantics.specs.Written.{or_zero}
use Rattle.store.specs.Requirements.{value_at}
use Rattle.store.specs.Sums.{number_of}
use Rattle.store.proofs.arguments.value.Goals as goal

added : (product rest sum new whole : ℤ) → new ≡ sum +ℤ product → (product +ℤ rest) +ℤ sum ≡ whole → rest +ℤ new ≡ whole
added product rest sum new whole e is = omega (arith, ints)

value_more : (v : ℕ → ℤ) (terms : List Term) (i : ℕ) (d : Term) (sum new whole : ℤ) → i < length terms →
    new ≡ sum +ℤ ((get_or terms i d).coefficient *ℤ v (get_or terms i d).register.0) → value_of v (drop i terms) +ℤ sum ≡ whole → value_of v (drop (i + 1) terms) +ℤ new ≡ whole
value_more v terms i d sum new whole l e is =
    let t = get_or terms i d in
    added (t.coefficient *ℤ v t.register.0) (value_of v (drop (i + 1) terms)) sum new whole e (rw (drop_more terms i d l) at is)

abbrev none : Term
none = record { register = record { 0 = 0 }; coefficient = pos 0 }

pub loop-term-preserved : goal.loop-term-preserved
loop-term-preserved c =
    let terms : List Term = c.as_slice-term-items.result.now in
    let term : Term = get_or terms c.loop-term.term-index none in
    let v : ℕ → ℤ = λ r. or_zero (slice_get c.args.arguments.now r) in
    let fits_term : FitsSigned w64 term.coefficient = search rules in
    let fits_argument : FitsSigned w64 c.argument_at.result = record { sfits = c.argument_at.type_inv } in
    let more : number_of c.plus_product-sum.result ≡ number_of c.loop-term.sum +ℤ (term.coefficient *ℤ v term.register.0) =
    rw (to_z-of_z w64 term.coefficient fits_term, to_z-of_z w64 c.argument_at.result fits_argument, c.argument_at.ensures) at c.plus_product-sum.ensures.value in
    record {
      rest = value_more v terms c.loop-term.term-index none (number_of c.loop-term.sum) (number_of c.plus_product-sum.result) (value_at c.args.arguments.now c.args.form.now)
          c.loop-term-test.true more c.loop-term.invariant.rest;
      small = omega (arith, c.plus_product-sum.ensures.small, c.loop-term.invariant.small);
    }
