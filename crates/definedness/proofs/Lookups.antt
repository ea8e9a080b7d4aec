-- An alloca that is not there.
use Rattle.std.proofs.Common.{◌≡◌, ℕ, ◌++◌, List, length, None, false, sym, ltb, ltb-false}
use Rattle.std.specs.Prelude.{slice_get}
use Rattle.std.proofs.lemmas.List.{append-nil}
use Rattle.std.proofs.lemmas.Option.{slice_get_past}
use Rattle.program.specs.declared.function.Alloca.{Alloca as AllocaOf}
use Rattle.program.specs.declared.identifier.AllocaId.{AllocaId}
use Rattle.program.specs.declared.identifier.ObjectName.{ObjectName}
use Rattle.program.specs.declared.identifier.ObjectName.TheVariants.{Alloca}
use Rattle.definedness.specs.declared.act.Act.{Act}
use Rattle.definedness.specs.RegisterActs.{object_needs}
use Rattle.definedness.specs.AllocaActs.{first_set}

pub needs_none : (allocas : List AllocaOf) (line : ℕ) (object : ObjectName) (a : AllocaId) (acts : List Act) → object ≡ Alloca a → false ≡ ltb a.0 (length allocas) → acts ≡ acts ++ object_needs allocas line object
needs_none allocas line object a acts is past =
    let none : slice_get allocas a.0 ≡ None = slice_get_past allocas a.0 (ltb-false a.0 (length allocas) (sym past)) in
    rw (is, none) (sym (append-nil acts))

pub set_none : (allocas : List AllocaOf) (object : ObjectName) (a : AllocaId) (acts : List Act) → object ≡ Alloca a → false ≡ ltb a.0 (length allocas) → acts ≡ acts ++ first_set allocas object
set_none allocas object a acts is past =
    let none : slice_get allocas a.0 ≡ None = slice_get_past allocas a.0 (ltb-false a.0 (length allocas) (sym past)) in
    rw (is, none) (sym (append-nil acts))
