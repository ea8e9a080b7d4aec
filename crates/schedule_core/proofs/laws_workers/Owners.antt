-- The cells that a frame may use are cells of objects that live.
use Rattle.std.proofs.Common.{◌≡◌, ℕ, suc, ◌<◌, ◌≤◌, length, Option, ap, sym, subst, arith}
use Rattle.semantics.specs.Paths.{Path}
use Rattle.semantics.specs.Cells.{Object, Shared, Local, Cell}
use Rattle.semantics.specs.Frames.{Role, Child, Body, Frame, cells_of}
use Rattle.semantics.specs.State.{State}
use Rattle.program.specs.declared.function.Program.{Program}
use Rattle.program.specs.declared.identifier.ObjectName.TheVariants as object
use Rattle.serial_machine.specs.laws_schedule.safe.Kept.{OfAll}
use Rattle.serial_machine.specs.laws_schedule.safe.Objects.{HasCells, HasCell, OwnsCells}
use Rattle.serial_machine.proofs.safe.Stacks.{IsOwner}
use Rattle.schedule_workers.specs.Layouts.{alloca_cells, living, own_cells}
use Rattle.schedule_core.proofs.laws_workers.Points.{IsBelow}

has_own : (role : Role) (home owner : Path) (n cells : ℕ) → IsOwner role home owner → home ≡ owner → n ≤ cells → n ≤ own_cells role cells
has_own Body home owner n cells own same le = le
has_own (Child r c) home owner n cells own same le = let e : length home ≡ length owner = ap (λ (q : Path). length q) same in absurd (omega (arith, own, e))

module _ (prog : Program) (s : State) (owned : OfAll s IsBelow) where
  owned_living : (p owner : Path) (a n : ℕ) → OwnsCells prog s p n owner a → n ≤ living prog s (Local owner a)
  owned_living p owner a n own =
      subst (λ (o : Option Frame). n ≤ alloca_cells prog o a) (sym own.lives)
      (has_own own.frame.role own.frame.home owner n (cells_of prog own.frame.function (object.Alloca (record { 0 = a }))) (owned owner own.frame own.lives).owner own.owns own.cells)

  laid : (p : Path) (n : ℕ) (o : Object) → HasCells prog s p n o → n ≤ living prog s o
  laid p n (Shared g) h = h
  laid p n (Local owner a) h = owned_living p owner a n h

  pub cell_living : (p : Path) (c : Cell) → HasCell prog s p c → c.index < living prog s c.object
  cell_living p c h = let l : suc c.index ≤ living prog s c.object = laid p (suc c.index) c.object h in omega (arith, l)
