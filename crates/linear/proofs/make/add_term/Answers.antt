use Rattle.std.proofs.Common.{◌≡◌, ◌∙◌, ◌≤◌, ◌^◌, ◌+ℤ◌, pos, sym, ap, rules, w64, FitsSigned, None, Some}
use Rattle.std.specs.Int.RustNames.{unsigned_abs}
use Rattle.std.specs.List.{prefix_len}
use Rattle.std.proofs.lemmas.Int.{to_z-of_z}
use Rattle.linear.specs.Made.{is_below, coefficient_at}
use Rattle.linear.proofs.Placing.{added_new, added_more, none_refused, some_refused, placed_new, placed_more, placed_refused, placed_more_refused}
use Rattle.linear.proofs.make.add_term.Goals as goal

pub returns-in-None-bounded_sum-clause-bounds : goal.returns-in-None-bounded_sum-clause-bounds
returns-in-None-bounded_sum-clause-bounds c = λ _.
    let k = c.place_of-place.result in
    let e : k ≡ prefix_len (is_below c.args.register.0) c.args.terms.now.items = c.place_of-place.ensures.value ∙ ap (prefix_len (is_below c.args.register.0)) c.as_slice.ensures.value in
    let none : None ≡ coefficient_at c.args.terms.now.items k c.args.register.0 = c.in-None.ensures ∙ ap (λ ts. coefficient_at ts k c.args.register.0) c.as_slice-2.ensures.value in
    let large : 2 ^ 24 ≤ unsigned_abs (pos 0 +ℤ c.args.amount) = rw (to_z-of_z w64 c.args.amount c.ranges.amount) at c.in-None-bounded_sum.ensures.none in
    none_refused c.args.terms.now.items k c.args.register c.args.amount e none c.requires.rising large

pub returns-in_ok-insert-in-Some-bounded_sum-clause-ok : goal.returns-in_ok-insert-in-Some-bounded_sum-clause-ok
returns-in_ok-insert-in-Some-bounded_sum-clause-ok c =
    let k = c.place_of-place.result in
    let e : k ≡ prefix_len (is_below c.args.register.0) c.args.terms.now.items = c.place_of-place.ensures.value ∙ ap (prefix_len (is_below c.args.register.0)) c.as_slice.ensures.value in
    let none : None ≡ coefficient_at c.args.terms.now.items k c.args.register.0 = c.in-None.ensures ∙ ap (λ ts. coefficient_at ts k c.args.register.0) c.as_slice-2.ensures.value in
    let sum : c.in-Some-bounded_sum.coefficient ≡ pos 0 +ℤ c.args.amount = c.in-Some-bounded_sum.ensures.sum ∙ ap (λ x. pos 0 +ℤ x) (to_z-of_z w64 c.args.amount c.ranges.amount) in
    rw (c.in_ok-insert-in-Some-bounded_sum.ensures.items)
    (added_new c.args.terms.now.items k c.args.register c.args.amount c.in-Some-bounded_sum.coefficient e none c.requires.rising c.requires.small sum c.in-Some-bounded_sum.ensures.small)

pub returns-in-None-bounded_sum-2-clause-bounds : goal.returns-in-None-bounded_sum-2-clause-bounds
returns-in-None-bounded_sum-2-clause-bounds c = λ _.
    let k = c.place_of-place.result in
    let fits : FitsSigned w64 c.in-Some.coefficient = search rules in
    let some : Some c.in-Some.coefficient ≡ coefficient_at c.args.terms.now.items k c.args.register.0 = c.in-Some.ensures ∙ ap (λ ts. coefficient_at ts k c.args.register.0) c.as_slice-2.ensures.value in
    let large : 2 ^ 24 ≤ unsigned_abs (c.in-Some.coefficient +ℤ c.args.amount) = rw (to_z-of_z w64 c.in-Some.coefficient fits, to_z-of_z w64 c.args.amount c.ranges.amount) at c.in-None-bounded_sum-2.ensures.none in
    some_refused c.args.terms.now.items k c.args.register c.args.amount c.in-Some.coefficient some c.requires.rising large

pub returns-in-Some-bounded_sum-2-clause-ok : goal.returns-in-Some-bounded_sum-2-clause-ok
returns-in-Some-bounded_sum-2-clause-ok c =
    let k = c.place_of-place.result in
    let fits : FitsSigned w64 c.in-Some.coefficient = search rules in
    let some : Some c.in-Some.coefficient ≡ coefficient_at c.args.terms.now.items k c.args.register.0 = c.in-Some.ensures ∙ ap (λ ts. coefficient_at ts k c.args.register.0) c.as_slice-2.ensures.value in
    let sum : c.in-Some-bounded_sum-2.coefficient ≡ c.in-Some.coefficient +ℤ c.args.amount = rw (to_z-of_z w64 c.in-Some.coefficient fits, to_z-of_z w64 c.args.amount c.ranges.amount) at c.in-Some-bounded_sum-2.ensures.sum in
    added_more c.args.terms.now.items k c.args.register c.args.amount c.in-Some.coefficient c.in-Some-bounded_sum-2.coefficient some c.requires.rising c.requires.small sum c.in-Some-bounded_sum-2.ensures.small

pub returns-in-None-bounded_sum-clause-refused : goal.returns-in-None-bounded_sum-clause-refused
returns-in-None-bounded_sum-clause-refused c = λ _.
    let k = c.place_of-place.result in
    let e : k ≡ prefix_len (is_below c.args.register.0) c.args.terms.now.items = c.place_of-place.ensures.value ∙ ap (prefix_len (is_below c.args.register.0)) c.as_slice.ensures.value in
    let none : None ≡ coefficient_at c.args.terms.now.items k c.args.register.0 = c.in-None.ensures ∙ ap (λ ts. coefficient_at ts k c.args.register.0) c.as_slice-2.ensures.value in
    let large : 2 ^ 24 ≤ unsigned_abs (pos 0 +ℤ c.args.amount) = rw (to_z-of_z w64 c.args.amount c.ranges.amount) at c.in-None-bounded_sum.ensures.none in
    placed_refused c.args.terms.now.items k c.args.register c.args.amount e none large

pub returns-in_ok-insert-in-Some-bounded_sum-clause-placed : goal.returns-in_ok-insert-in-Some-bounded_sum-clause-placed
returns-in_ok-insert-in-Some-bounded_sum-clause-placed c =
    let k = c.place_of-place.result in
    let e : k ≡ prefix_len (is_below c.args.register.0) c.args.terms.now.items = c.place_of-place.ensures.value ∙ ap (prefix_len (is_below c.args.register.0)) c.as_slice.ensures.value in
    let none : None ≡ coefficient_at c.args.terms.now.items k c.args.register.0 = c.in-None.ensures ∙ ap (λ ts. coefficient_at ts k c.args.register.0) c.as_slice-2.ensures.value in
    let sum : c.in-Some-bounded_sum.coefficient ≡ pos 0 +ℤ c.args.amount = c.in-Some-bounded_sum.ensures.sum ∙ ap (λ x. pos 0 +ℤ x) (to_z-of_z w64 c.args.amount c.ranges.amount) in
    placed_new c.args.terms.now.items k c.args.register c.args.amount c.in-Some-bounded_sum.coefficient e none sum c.in-Some-bounded_sum.ensures.small ∙ ap Some (sym c.in_ok-insert-in-Some-bounded_sum.ensures.items)

pub returns-in-None-bounded_sum-2-clause-refused : goal.returns-in-None-bounded_sum-2-clause-refused
returns-in-None-bounded_sum-2-clause-refused c = λ _.
    let k = c.place_of-place.result in
    let e : k ≡ prefix_len (is_below c.args.register.0) c.args.terms.now.items = c.place_of-place.ensures.value ∙ ap (prefix_len (is_below c.args.register.0)) c.as_slice.ensures.value in
    let fits : FitsSigned w64 c.in-Some.coefficient = search rules in
    let some : Some c.in-Some.coefficient ≡ coefficient_at c.args.terms.now.items k c.args.register.0 = c.in-Some.ensures ∙ ap (λ ts. coefficient_at ts k c.args.register.0) c.as_slice-2.ensures.value in
    let large : 2 ^ 24 ≤ unsigned_abs (c.in-Some.coefficient +ℤ c.args.amount) = rw (to_z-of_z w64 c.in-Some.coefficient fits, to_z-of_z w64 c.args.amount c.ranges.amount) at c.in-None-bounded_sum-2.ensures.none in
    placed_more_refused c.args.terms.now.items k c.args.register c.args.amount c.in-Some.coefficient e some large

pub returns-in-Some-bounded_sum-2-clause-placed : goal.returns-in-Some-bounded_sum-2-clause-placed
returns-in-Some-bounded_sum-2-clause-placed c =
    let k = c.place_of-place.result in
    let e : k ≡ prefix_len (is_below c.args.register.0) c.args.terms.now.items = c.place_of-place.ensures.value ∙ ap (prefix_len (is_below c.args.register.0)) c.as_slice.ensures.value in
    let fits : FitsSigned w64 c.in-Some.coefficient = search rules in
    let some : Some c.in-Some.coefficient ≡ coefficient_at c.args.terms.now.items k c.args.register.0 = c.in-Some.ensures ∙ ap (λ ts. coefficient_at ts k c.args.register.0) c.as_slice-2.ensures.value in
    let sum : c.in-Some-bounded_sum-2.coefficient ≡ c.in-Some.coefficient +ℤ c.args.amount = rw (to_z-of_z w64 c.in-Some.coefficient fits, to_z-of_z w64 c.args.amount c.ranges.amount) at c.in-Some-bounded_sum-2.ensures.sum in
    placed_more c.args.terms.now.items k c.args.register c.args.amount c.in-Some.coefficient c.in-Some-bounded_sum-2.coefficient e some sum c.in-Some-bounded_sum-2.ensures.small
