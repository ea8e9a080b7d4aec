-- The cells of an object that a list has or lacks.
use Rattle.std.proofs.Common.{◌≡◌, ℕ, ◌<◌, List, length, get_or, None, false, sym, ltb, ltb-false}
use Rattle.std.specs.Prelude.{slice_get}
use Rattle.std.proofs.lemmas.Option.{slice_get_past}
use Rattle.program.specs.Objects.{object_cells}
use Rattle.program.specs.declared.function.Alloca.{Alloca as AllocaOf}
use Rattle.program.specs.declared.function.Function.{Function}
use Rattle.program.specs.declared.function.Global.{Global as GlobalOf}
use Rattle.program.specs.declared.function.Parameter.{Parameter as ParameterOf}
use Rattle.program.specs.declared.function.Parameter.TheVariants.{Number, Pointer}
use Rattle.program.specs.declared.function.Program.{Program}
use Rattle.program.specs.declared.identifier.AllocaId.{AllocaId}
use Rattle.program.specs.declared.identifier.GlobalId.{GlobalId}
use Rattle.program.specs.declared.identifier.ObjectName.{ObjectName}
use Rattle.program.specs.declared.identifier.ObjectName.TheVariants.{Global, Alloca, Parameter}
use Rattle.linear.specs.declared.form.RegisterId.{RegisterId}
use Rattle.refusal.proofs.Places.{read_at}

lacked : {X : Type 0} (xs : List X) (i : ℕ) → false ≡ ltb i (length xs) → slice_get xs i ≡ None
lacked xs i past = slice_get_past xs i (ltb-false i (length xs) (sym past))

module _ (program : Program) (function : Function) (object : ObjectName) where
  pub global_seen : (g : GlobalId) (x : GlobalOf) (xs : List GlobalOf) → object ≡ Global g → xs ≡ program.globals → g.0 < length xs → x ≡ get_or xs g.0 x → x.cells ≡ object_cells program function object
  global_seen g x xs e same l at = rw (e, ← same, read_at xs g.0 x l at)

  pub global_lacked : (g : GlobalId) (xs : List GlobalOf) → object ≡ Global g → xs ≡ program.globals → false ≡ ltb g.0 (length xs) → 0 ≡ object_cells program function object
  global_lacked g xs e same past = rw (e, ← same, lacked xs g.0 past)

  pub alloca_seen : (a : AllocaId) (x : AllocaOf) (xs : List AllocaOf) → object ≡ Alloca a → xs ≡ function.allocas → a.0 < length xs → x ≡ get_or xs a.0 x → x.cells ≡ object_cells program function object
  alloca_seen a x xs e same l at = rw (e, ← same, read_at xs a.0 x l at)

  pub alloca_lacked : (a : AllocaId) (xs : List AllocaOf) → object ≡ Alloca a → xs ≡ function.allocas → false ≡ ltb a.0 (length xs) → 0 ≡ object_cells program function object
  alloca_lacked a xs e same past = rw (e, ← same, lacked xs a.0 past)

  pub pointer_seen : (r : RegisterId) (x : ParameterOf) (cells : ℕ) (xs : List ParameterOf) → object ≡ Parameter r → xs ≡ function.parameters → x ≡ Pointer cells → r.0 < length xs → x ≡ get_or xs r.0 x → cells ≡ object_cells program function object
  pointer_seen r x cells xs e same is l at = rw (e, ← same, read_at xs r.0 x l at, is)

  pub number_seen : (r : RegisterId) (x : ParameterOf) (xs : List ParameterOf) → object ≡ Parameter r → xs ≡ function.parameters → x ≡ Number → r.0 < length xs → x ≡ get_or xs r.0 x → 0 ≡ object_cells program function object
  number_seen r x xs e same is l at = rw (e, ← same, read_at xs r.0 x l at, is)

  pub parameter_lacked : (r : RegisterId) (xs : List ParameterOf) → object ≡ Parameter r → xs ≡ function.parameters → false ≡ ltb r.0 (length xs) → 0 ≡ object_cells program function object
  parameter_lacked r xs e same past = rw (e, ← same, lacked xs r.0 past)
