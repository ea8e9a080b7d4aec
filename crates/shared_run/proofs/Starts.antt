-- Starts by their parts.
use Rattle.std.proofs.Common.{◌≡◌, ℕ, ℤ, List, ap, ◌∙◌}
use Rattle.program.specs.declared.function.Program.{Program}
use Rattle.schedule_core.specs.store.Cells.{NamedCells}
use Rattle.shared_run.specs.Story.{origin}

pub same_origin : (p q : Program) (a b : List ℤ) (m n : List NamedCells) (v w : ℕ) → p ≡ q → a ≡ b → m ≡ n → v ≡ w → origin p a m v ≡ origin q b n w
same_origin p q a b m n v w programs arguments memory workers =
    ap (λ (x : Program). origin x a m v) programs ∙ (ap (λ (x : List ℤ). origin q x m v) arguments ∙ (ap (λ (x : List NamedCells). origin q b x v) memory ∙ ap (λ x. origin q b n x) workers))
