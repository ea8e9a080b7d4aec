use Rattle.std.proofs.Common.{◌<◌, length, sym, subst}
use Rattle.std.specs.List.{All}
use Rattle.std.proofs.lemmas.List.Elements.{All-set, All-push}
use Rattle.std.proofs.lemmas.Result.{IfOk-from_err}
use Rattle.footprints_zones.specs.Ends.{AreBounds}
use Rattle.footprints_zones.proofs.bounds.note.Goals as goal

pub returns-in_err-push-in-None : goal.returns-in_err-push-in-None
returns-in_err-push-in-None c = λ facts _ _. IfOk-from_err c.from_residual.result (λ _. All (AreBounds facts) c.push.new.self.items) c.from_residual.ensures.0

pub returns-in-Some : goal.returns-in-Some
returns-in-Some c = λ facts are says.
    let items = c.args.bounds.now.items in
    let within : c.in-Some.k < length items = rw c.as_slice.ensures.value at c.in-Some.ensures.within in
    let old : AreBounds facts c.index.result.now = subst (AreBounds facts) (sym c.index.ensures) (are c.in-Some.k c.index.result.now within) in
    All-set (AreBounds facts) items c.in-Some.k c.with_saying.result (c.with_saying.ensures.bounds facts old says) are

pub returns-in_ok-push-in-None : goal.returns-in_ok-push-in-None
returns-in_ok-push-in-None c = λ facts are says.
    let new : AreBounds facts c.with_saying-in-None.result = c.with_saying-in-None.ensures.bounds facts (c.unbounded.ensures.bounds facts) says in
    rw c.in_ok-push-in-None.ensures.items (All-push (AreBounds facts) c.args.bounds.now.items c.with_saying-in-None.result are new)
