use Rattle.std.proofs.Common.{All, List, sym, subst}
use Rattle.std.proofs.lemmas.List.Elements.{All-push}
use Rattle.debugger.specs.declared.marks.Mark.{Mark}
use Rattle.debugger.specs.Sessions.{IsMark}
use Rattle.debugger.proofs.marks.Marks.add.Goals as goal

pub returns : goal.returns
returns c s are at = record { first = are.first; rest = subst (λ (l : List Mark). All (IsMark s) l) (sym c.in_ok-push.ensures.items) (All-push (IsMark s) _ _ are.rest at) }

pub returns-in_err-push : goal.returns-in_err-push
returns-in_err-push c s are at = record { first = are.first; rest = subst (λ (l : List Mark). All (IsMark s) l) (sym c.in_err-push.ensures.items) are.rest }
