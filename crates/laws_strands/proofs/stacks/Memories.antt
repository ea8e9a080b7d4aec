-- A strand over a whole memory.
use Rattle.std.proofs.Common.{◌≡◌, Option, Some, None, true, refl, sym, ap, ◌∙◌, subst, is_none, is_some, ℤ}
use Rattle.semantics.specs.Paths.{Path}
use Rattle.semantics.specs.Cells.{Cell, Memory}
use Rattle.semantics.specs.Written.{or_zero}
use Rattle.semantics.specs.Frames.{Frame}
use Rattle.semantics.specs.Effect.{Action, Plain, Detach, Reattach, Sync, Call, Return, action_of}
use Rattle.semantics.proofs.Actions.{reads_of, adds_of, action_kept}
use Rattle.laws_strands.specs.stacks.Footprint.{Footprint, held, memory_of, seen}
use Rattle.laws_strands.specs.stacks.Strands.{IsActionHeld, AnyMemoryServes, WritesAreSeen}
use Rattle.laws_strands.proofs.stacks.Keeping.{Agrees, held_put, put_after}
use Rattle.laws_strands.proofs.stacks.Stepping.{LeavesCells, some_is}
use Rattle.laws_strands.proofs.stacks.Traps.{add_there}
use Rattle.program.specs.declared.function.Program.{Program}

module _ (prog : Program) (p : Path) (g : Frame) (f : Footprint) (m : Memory) (agrees : Agrees m f) where
  quiet : (a : Action) → action_of prog p g (seen m f) ≡ a → LeavesCells a → action_of prog p g (memory_of f) ≡ a
  quiet a is (reads, adds) =
      action_kept prog p g (seen m f) (memory_of f)
      (λ x h. absurd (let r : reads_of a x ≡ true = subst (λ b. reads_of b x ≡ true) is h in let n = reads x in cc))
      (λ x h. absurd (let r : is_some (adds_of a x) ≡ true = subst (λ b. is_some (adds_of b x) ≡ true) is h in let n = adds x in cc)) ∙ is

  full : (x : Cell) (o : Option ℤ) → is_some o ≡ true → is_none (memory_of f x) ≡ is_none o
  full x None h = absurd (cc)
  full x (Some y) h = refl

  read_same : (x : Cell) → is_some (held f x) ≡ true → memory_of f x ≡ seen m f x
  read_same x h =
      let (y, is) = some_is (held f x) h in
      ap (λ o. Some (or_zero o)) is ∙ sym (held_put m f agrees x y is)

  serves : (a : Action) → action_of prog p g (seen m f) ≡ a → IsActionHeld f a → action_of prog p g (memory_of f) ≡ a
  serves (Plain e) is (fine, holds) =
      action_kept prog p g (seen m f) (memory_of f)
      (λ x h. read_same x (holds x (subst (λ b. reads_of b x ≡ true) is h)))
      (λ x h. full x (seen m f x) (add_there prog p g (seen m f) e x is fine (subst (λ b. is_some (adds_of b x) ≡ true) is h))) ∙ is
  serves (Detach r b n) is h = quiet (Detach r b n) is (λ x. refl, λ x. refl)
  serves (Reattach r) is h = quiet (Reattach r) is (λ x. refl, λ x. refl)
  serves (Sync r b rs) is h = quiet (Sync r b rs) is (λ x. refl, λ x. refl)
  serves (Call o c vs) is h = quiet (Call o c vs) is (λ x. refl, λ x. refl)
  serves (Return v) is h = quiet (Return v) is (λ x. refl, λ x. refl)

pub any_memory_serves : AnyMemoryServes
any_memory_serves prog d m agrees a is h = serves prog d.top.path d.top.frame d.footprint m agrees a is h

pub writes_are_seen : WritesAreSeen
writes_are_seen d m e agrees = λ i x. put_after m d.footprint e.writes e.adds agrees x i
