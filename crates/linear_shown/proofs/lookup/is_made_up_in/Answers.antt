use Rattle.std.proofs.Common.{pos, get_or, ℕ, subst, refl}
use Rattle.linear_shown.specs.declared.index.Entry.{Entry}
use Rattle.linear_shown.specs.Shown.{IsSum}
use Rattle.linear_shown.specs.Index.{place_at}
use Rattle.linear_shown.proofs.Indexing.{side_of_entry}
use Rattle.linear_shown.proofs.lookup.is_made_up_in.Goals as goal

pub returns-then-is_sum : goal.returns-then-is_sum
returns-then-is_sum c = λ h.
    let facts = c.args.search.now.facts.now in
    let none : Entry = record { key = 0; constant = pos 0; place = 0 } in
    let entry : Entry = get_or c.args.entries.now c.loop-k.k none in
    let own = c.requires.entries.own c.loop-k.k none c.loop-k-test.true in (
      place_at facts entry.place,
      side_of_entry facts entry own,
      subst (λ (n : ℕ). IsSum c.args.search.now.form.now 1 (place_at facts n) c.args.b (place_at facts entry.place)) c.no_fact.ensures.place (c.if-is_sum.ensures.0 refl),
    )
