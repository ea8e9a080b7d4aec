use Rattle.std.proofs.Common.{◌≡◌, ◌∙◌, ◌<◌, get_or, length, ap, arith}
use Rattle.std.specs.List.{Contains}
use Rattle.std.proofs.lemmas.List.Elements.{Contains-get_or}
use Rattle.linear.specs.Forms.{IsRising}
use Rattle.linear_shown.specs.Search.{factors}
use Rattle.linear_shown.specs.Index.{place_at}
use Rattle.linear_shown.proofs.Found.{is_factor}
use Rattle.linear_shown.proofs.Indexing.{side_of_entry}
use Rattle.linear_shown.proofs.Parts.{length_factors}
use Rattle.linear_shown.proofs.lookup.made_up_by_bounds.Goals as goal

pub returns : goal.returns
returns c = λ h.
    let facts = c.args.search.now.facts.now in
    let e = c.args.search.now.form.now in
    let same = c.side_of.ensures.terms in
    let rises : IsRising e.terms = rw same at c.side_of.ensures.rising in
    let two = c.if-terms-ne2.false in
    let is_a : c.factor.result ≡ get_or (factors e.terms) 1 0 = c.factor.ensures.value ∙ ap (λ ts. get_or (factors ts) 1 0) same in
    let is_b : c.factor-2.result ≡ get_or (factors e.terms) 2 0 = c.factor-2.ensures.value ∙ ap (λ ts. get_or (factors ts) 2 0) same in
    let long : 2 < length (factors e.terms) = rw (length_factors e.terms) (omega (arith, two, ap length same)) in
    let in_a : Contains (factors e.terms) c.factor.result = rw is_a (Contains-get_or (factors e.terms) 1 0 (omega (arith, long))) in
    let in_b : Contains (factors e.terms) c.factor-2.result = rw is_b (Contains-get_or (factors e.terms) 2 0 long) in
    record {
      f = place_at facts c.bound_of-first.result.place;
      g = place_at facts c.bound_of-second.result.place;
      a = c.factor.result;
      b = c.factor-2.result;
      f_is = side_of_entry facts c.bound_of-first.result c.bound_of-first.ensures;
      g_is = side_of_entry facts c.bound_of-second.result c.bound_of-second.ensures;
      a_is = is_factor e c.factor.result rises in_a;
      b_is = is_factor e c.factor-2.result rises in_b;
      sum = c.is_sum.ensures.0 h;
    }
