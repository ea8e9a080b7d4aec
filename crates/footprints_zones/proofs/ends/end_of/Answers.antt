use Rattle.std.proofs.Common.{rules, ◌≡◌, ◌∙◌, ◌<◌, ◌^◌, FitsSigned, [], ◌∷◌, pos, unsigned_abs, sym, inl, inr, ℤ, get_or, arith}
use Rattle.std.specs.Int.{w64, w128}
use Rattle.std.proofs.lemmas.Int.{ints, to_z-of_z}
use Rattle.std.proofs.lemmas.List.{nil_from_length}
use Rattle.linear.specs.declared.form.Term.{Term}
use Rattle.footprints_zones.proofs.EndsMade.{number_is_end, only_term, number_read, register_is_end}
use Rattle.footprints_zones.proofs.ends.end_of.Goals as goal

word_small : (word z : ℤ) → FitsSigned w64 word → word ≡ z → unsigned_abs z < 2 ^ 64
word_small word z fits is = omega (arith, ints, fits, is)

pub returns-in-empty : goal.returns-in-empty
returns-in-empty c = λ facts known.
    let side = c.side_of-side.result in
    let form = c.args.form.now in
    let wide : FitsSigned w128 side.constant = search rules in
    let fits_constant : FitsSigned w64 c.in_ok-constant.constant = search rules in
    let is_constant : c.in_ok-constant.constant ≡ form.constant = search rules in
    let small : unsigned_abs form.constant < 2 ^ 64 = word_small c.in_ok-constant.constant form.constant fits_constant is_constant in
    let is_number = rw (to_z-of_z w128 side.constant wide, c.side_of-side.ensures.constant) at c.number_end.ensures.constant in
    let none : form.terms ≡ [] = sym c.side_of-side.ensures.terms ∙ nil_from_length side.terms.now (omega (arith, c.in-empty.len_below)) in
    number_is_end facts c.args.moves.now form form.constant c.number_end.result is_number c.number_end.ensures.coefficient c.number_end.ensures.small (c.number_end.ensures.between facts)
    (λ r k z is_none is. inl (record { terms = none; times = is_none; constant = is })) small

pub returns-in-Number : goal.returns-in-Number
returns-in-Number c = λ facts known.
    let side = c.side_of-side.result in
    let form = c.args.form.now in
    let fits_constant : FitsSigned w64 c.in_ok-constant.constant = search rules in
    let is_constant : c.in_ok-constant.constant ≡ form.constant = search rules in
    let small : unsigned_abs form.constant < 2 ^ 64 = word_small c.in_ok-constant.constant form.constant fits_constant is_constant in
    let term : Term = get_or side.terms.now 0 (record { register = record { 0 = 0 }; coefficient = pos 0 }) in
    let terms : form.terms ≡ term ∷ [] = sym c.side_of-side.ensures.terms ∙ only_term side.terms.now _ c.in-len1.len_at_least c.in-len1.len_below in
    let small_term : unsigned_abs term.coefficient < 2 ^ 24 = c.side_of-side.ensures.small 0 _ c.in-len1.len_at_least in
    let fits_term : FitsSigned w64 term.coefficient = omega (arith, ints, small_term) in
    let fits_number : FitsSigned w64 c.in-Number.number = search rules in
    let e = c.number_end-in-Number.ensures in
    number_is_end facts c.args.moves.now form _ c.number_end-in-Number.result e.constant e.coefficient e.small (e.between facts)
    (λ r k z is_none is. inr (inl (record {
      term = term;
      number = c.in-Number.number;
      terms = terms;
      put = sym c.operand_for.ensures ∙ c.in-Number.is;
      times = is_none;
      constant = number_read c.product.result term.coefficient c.in-Number.number side.constant form.constant z c.product.ensures.value fits_term fits_number c.side_of-side.ensures.constant small is;
      small = small_term;
    })))
    small

pub returns-in-Register : goal.returns-in-Register
returns-in-Register c = λ facts known.
    let side = c.side_of-side.result in
    let form = c.args.form.now in
    let fits_constant : FitsSigned w64 c.in_ok-constant.constant = search rules in
    let is_constant : c.in_ok-constant.constant ≡ form.constant = search rules in
    let small : unsigned_abs form.constant < 2 ^ 64 = word_small c.in_ok-constant.constant form.constant fits_constant is_constant in
    let term : Term = get_or side.terms.now 0 (record { register = record { 0 = 0 }; coefficient = pos 0 }) in
    let terms : form.terms ≡ term ∷ [] = sym c.side_of-side.ensures.terms ∙ only_term side.terms.now _ c.in-len1.len_at_least c.in-len1.len_below in
    let small_term : unsigned_abs term.coefficient < 2 ^ 24 = c.side_of-side.ensures.small 0 _ c.in-len1.len_at_least in
    let fits_term : FitsSigned w64 term.coefficient = omega (arith, ints, small_term) in
    let e = c.end_at.ensures in
    let b = c.bounds_for-bounds.ensures in
    register_is_end facts c.args.moves.now form c.bounds_for-bounds.result c.in-Register.register term c.end_at.result e.bounds b.register
    (e.coefficient ∙ to_z-of_z w64 term.coefficient fits_term) (e.constant ∙ to_z-of_z w64 c.in_ok-constant.constant fits_constant ∙ is_constant) (e.between facts (b.bounds facts known))
    terms (sym c.operand_for.ensures ∙ c.in-Register.is) small_term small
