use Rattle.std.proofs.Common.{List, subst, arith}
use Rattle.std.specs.List.{Contains}
use Rattle.linear.specs.declared.form.Term.{Term}
use Rattle.linear.specs.Forms.{IsRising}
use Rattle.linear_shown.specs.Search.{factors}
use Rattle.linear_shown.specs.Index.{place_at}
use Rattle.linear_shown.proofs.Found.{is_factor}
use Rattle.linear_shown.proofs.Indexing.{place_is_side}
use Rattle.linear_shown.proofs.lookup.made_up_by.Goals as goal

pub returns : goal.returns
returns c = λ h.
    let facts = c.args.search.now.facts.now in
    let e = c.args.search.now.form.now in
    let hint = c.args.hint in
    let same = c.side_of.ensures.terms in
    let rises : IsRising e.terms = rw same at c.side_of.ensures.rising in
    let in_a : Contains (factors e.terms) hint.a = subst (λ (ts : List Term). Contains (factors ts) hint.a) same (c.is_factor.ensures.found c.if-not-is_factor.false) in
    let in_b : Contains (factors e.terms) hint.b = subst (λ (ts : List Term). Contains (factors ts) hint.b) same (c.is_factor-2.ensures.found c.if-not-is_factor-2.false) in
    record {
      f = place_at facts hint.first;
      g = place_at facts hint.second;
      a = hint.a;
      b = hint.b;
      f_is = place_is_side facts hint.first (omega (arith, c.if-hint-search.false));
      g_is = place_is_side facts hint.second (omega (arith, c.if-hint-search-2.false));
      a_is = is_factor e hint.a rises in_a;
      b_is = is_factor e hint.b rises in_b;
      sum = c.is_sum_at.ensures.0 h;
    }
