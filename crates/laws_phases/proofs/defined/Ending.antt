-- The reattach that stands where a frame reattaches.
use Rattle.std.proofs.Common.{◌≡◌, ℕ, Option, Some, None, Bool, true, false, cond, ◌&&◌, eqb, refl, sym, ap, subst, ◌∙◌, ℤ}
use Rattle.semantics.specs.Paths.{Path, same_path}
use Rattle.semantics.specs.Cells.{Memory}
use Rattle.semantics.specs.Arithmetic.{Unmatched}
use Rattle.semantics.specs.Frames.{Role, Child, Body, Registers, Frame, Ends, item_at, word_at, region_of}
use Rattle.semantics.specs.Effect.{Action, Plain, Detach, Reattach, Sync, Call, Return, registers_along, traps, if_own, syncs, reattaches, returns, returns_value, terminator_action, item_action, action_of}
use Rattle.linear.specs.declared.form.RegisterId.{RegisterId}
use Rattle.program.specs.declared.identifier.BlockId.{BlockId}
use Rattle.program.specs.declared.function.Program.{Program}
use Rattle.program.specs.declared.instruction.Terminator.{Terminator}
use Rattle.program.specs.declared.instruction.Terminator.TheVariants as terminator
use Rattle.laws_conditions.proofs.rules.Moves.{ends_here}

-- a reattach comes of a reattach alone
abbrev ByReattach : Terminator → Action → Type 0
ByReattach t (Plain e) = Unit {0}
ByReattach t (Detach r b k) = Unit {0}
ByReattach t (Reattach r) = (region : RegisterId) × (continuation : BlockId) × (t ≡ terminator.Reattach region continuation)
ByReattach t (Sync r b rs) = Unit {0}
ByReattach t (Call d g vs) = Unit {0}
ByReattach t (Return v) = Unit {0}

module _ (f : Frame) (t : Terminator) where
  chosen : (a b : Action) → ByReattach t a → ByReattach t b → (c : Bool) → ByReattach t (cond c a b)
  chosen a b h k true = h
  chosen a b h k false = k

  owned : (p : Path) (a : Action) → ByReattach t a → (o : Option Path) → ByReattach t (if_own p f a o)
  owned p a h None = tt
  owned p a h (Some owner) = chosen a (traps Unmatched f) h tt (same_path owner p)

  synced_by : (region target : ℕ) (o : Option Registers) → ByReattach t (syncs f region target o)
  synced_by region target None = tt
  synced_by region target (Some r) = tt

  returned : (v : Option ℤ) (role : Role) → ByReattach t (returns f role v)
  returned v (Child r c) = tt
  returned v Body = tt

  value_returned : (o : Option ℤ) → ByReattach t (returns_value f o)
  value_returned None = tt
  value_returned (Some z) = returned (Some z) f.role

reattached : (f : Frame) (region : RegisterId) (continuation : BlockId) (role : Role) → ByReattach (terminator.Reattach region continuation) (reattaches f region.0 continuation.0 role)
reattached f region continuation Body = tt
reattached f region continuation (Child r c) = chosen f (terminator.Reattach region continuation) (Reattach region.0) (traps Unmatched f) (region, continuation, refl) tt (eqb r region.0 && eqb c continuation.0)

by_terminator : (prog : Program) (p : Path) (f : Frame) (t : Terminator) → ByReattach t (terminator_action prog p f t)
by_terminator prog p f (terminator.Jump target) = tt
by_terminator prog p f (terminator.Branch test x y) = tt
by_terminator prog p f (terminator.Switch w a default cases) = tt
by_terminator prog p f (terminator.Return None) = returned f (terminator.Return None) None f.role
by_terminator prog p f (terminator.Return (Some a)) = value_returned f (terminator.Return (Some a)) (word_at f.registers a)
by_terminator prog p f (terminator.Detach region body continuation) = owned f (terminator.Detach region body continuation) p (Detach region.0 body.0 continuation.0) tt (region_of (f.registers region.0))
by_terminator prog p f (terminator.Reattach region continuation) = reattached f region continuation f.role
by_terminator prog p f (terminator.Sync region target) =
    owned f (terminator.Sync region target) p (syncs f region.0 target.0 (registers_along prog f target.0)) (synced_by f (terminator.Sync region target) region.0 target.0 (registers_along prog f target.0)) (region_of (f.registers region.0))

pub reattach_here : (prog : Program) (p : Path) (f : Frame) (m : Memory) (r : ℕ) → action_of prog p f m ≡ Reattach r → (region : RegisterId) × (continuation : BlockId) × (item_at prog f.function f.block f.index ≡ Some (Ends (terminator.Reattach region continuation)))
reattach_here prog p f m r at =
    let e = ends_here prog p f m (Reattach r) tt at in
    let same : terminator_action prog p f e.0 ≡ Reattach r = sym (ap (λ o. item_action prog p f m o) e.1) ∙ at in
    let h : ByReattach e.0 (Reattach r) = subst (λ a. ByReattach e.0 a) same (by_terminator prog p f e.0) in
    (h.0, h.1, e.1 ∙ ap (λ (t : Terminator). Some (Ends t)) h.2)
