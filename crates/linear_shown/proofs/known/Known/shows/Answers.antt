use Rattle.std.proofs.Common.{◌≡◌, true, false, suc, List, length, sym, subst}
use Rattle.linear.specs.declared.form.Fact.{Fact}
use Rattle.linear_shown.specs.Tested.{is_shown}
use Rattle.linear_shown.specs.Index.{IsBegun}
use Rattle.linear_shown.proofs.Indexing.{negative_not_shown}
use Rattle.linear_shown.proofs.known.Known.shows.Goals as goal

pub returns-then-is_negative : goal.returns-then-is_negative
returns-then-is_negative c =
    let facts = c.self.inside.facts.now in
    let settled = c.self.inside.layers.settled.now in
    let recent = c.self.inside.layers.recent.now in
    let begun : IsBegun facts (suc (length facts)) settled recent true = rw c.if-self.true at (c.self.invariant c.if-not-self.false) in
    let not_shown = negative_not_shown facts settled recent begun c.args.form.now (c.is_negative.ensures c.if-is_negative.true) in
    subst (λ (known : List Fact). false ≡ is_shown known c.args.form.now) c.self.view_is (sym not_shown)
