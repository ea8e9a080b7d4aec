use Rattle.std.proofs.Common.{◌∙◌, ◌++◌, not, List, sym, subst}
use Rattle.std.specs.List.{Contains}
use Rattle.std.proofs.lemmas.Bool.{false≢true, not-true}
use Rattle.linear_shown.specs.declared.index.Entry.{Entry}
use Rattle.linear_shown.proofs.Indexing.{begun_next}
use Rattle.linear_shown.proofs.index.enter_next.Goals as goal

pub returns-then-is_consistent : goal.returns-then-is_consistent
returns-then-is_consistent c =
    begun_next c.args.facts.now c.args.settled.now c.args.recent.now.items c.enter.new.entries.items c.args.entry c.args.is_consistent (not c.one_of_both_contradicts.result)
    c.requires.begun c.requires.entry c.in_ok-enter.ensures
    (λ _. c.if-is_consistent.true)
    (λ is d d_in s. c.one_of_both_contradicts.ensures d (not-true c.one_of_both_contradicts.result is)
    (subst (λ (es : List Entry). Contains (c.args.settled.now ++ es) d) (sym c.as_slice.ensures.value) d_in) s)

pub returns-else-is_consistent : goal.returns-else-is_consistent
returns-else-is_consistent c =
    begun_next c.args.facts.now c.args.settled.now c.args.recent.now.items c.enter.new.entries.items c.args.entry c.args.is_consistent c.args.is_consistent
    c.requires.begun c.requires.entry c.in_ok-enter.ensures
    (λ is. is) (λ is. absurd (false≢true (sym c.if-is_consistent.false ∙ is)))
