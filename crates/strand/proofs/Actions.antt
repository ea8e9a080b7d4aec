-- What a strand that can go on does at a place that is no plain step.
use Rattle.std.proofs.Common.{◌≡◌, List, [], ◌∷◌, refl, subst, Option, Some, None, ℤ}
use Rattle.std.specs.Prelude.{IsSome}
use Rattle.linear.specs.declared.form.RegisterId.{RegisterId}
use Rattle.semantics.specs.Frames.{Value, Registers, Free, OnCall, Frame, Item, Does, Ends, item_at}
use Rattle.semantics.specs.Effect.{Action, Plain, Detach, Reattach, Sync, Call, Return, argument_values, registers_along, terminator_action}
use Rattle.program.specs.declared.identifier.BlockId.{BlockId}
use Rattle.program.specs.declared.identifier.FunctionId.{FunctionId}
use Rattle.program.specs.declared.function.Program.{Program}
use Rattle.program.specs.declared.instruction.Argument.{Argument}
use Rattle.program.specs.declared.instruction.Operand.{Operand}
use Rattle.program.specs.declared.instruction.Instruction.TheVariants as instruction
use Rattle.program.specs.declared.instruction.Terminator.TheVariants as terminator
use Rattle.frame_engine.specs.Shows.{Layout, Safe, TrapFree}
use Rattle.serial_stack.specs.Steps.{HasNoStep, IsStuck, Run}
use Rattle.serial_stack.proofs.Places.{call_here, detach_here, reattach_here, return_here, sync_here}
use Rattle.strand.specs.frame_strand.Alone as alone
use Rattle.laws_strands.specs.stacks.Footprint.{memory_of}
use Rattle.laws_strands.specs.stacks.Strands as strands
use Rattle.laws_strands.specs.stacks.Strands.{Placed, next_action}
use Rattle.strand.specs.Layouts.{Segment, layout_above}
use Rattle.strand.specs.Steps.{CanGo}

-- a frame below for which an action that does not trap can be done
abbrev fake : Frame → Action → List Placed
fake f (Plain e) = []
fake f (Detach r b c) = []
fake f (Sync r b rs) = []
fake f (Call d g vs) = []
fake f (Reattach r) = record { path = []; frame = record f { waits = Free } } ∷ []
fake f (Return v) = record { path = []; frame = record f { waits = OnCall 0 None } } ∷ []

unstuck : (f : Frame) (a : Action) → TrapFree a → HasNoStep a (fake f a) → ⊥
unstuck f (Plain e) free h = let bad = subst IsSome free h in cc
unstuck f (Detach r b c) free h = h
unstuck f (Sync r b rs) free h = h
unstuck f (Call d g vs) free h = h
unstuck f (Reattach r) free h = h
unstuck f (Return v) free h = h

module _ (prog : Program) (l : Layout) (s : Segment) (d : strands.Strand) (can : CanGo prog l s d) where
  pub safe : Safe prog (layout_above l prog s.start d.top d.below) d.top.path d.top.frame (memory_of d.footprint)
  safe = can.stays 0 d.top.frame alone.here (memory_of d.footprint) (λ c within. refl)

  abbrev run : Run
  run = record { path = d.top.path; frame = d.top.frame; below = fake d.top.frame (next_action prog d); memory = memory_of d.footprint }

  goes : IsStuck prog run → ⊥
  goes = unstuck d.top.frame (next_action prog d) safe.trap_free

  abbrev At : Item → Type 0
  At i = item_at prog d.top.frame.function d.top.frame.block d.top.frame.index ≡ Some i

  pub detaches : (r : RegisterId) (b c : BlockId) → At (Ends (terminator.Detach r b c)) → next_action prog d ≡ Detach r.0 b.0 c.0
  detaches r b c e = detach_here prog run goes r b c e

  pub syncs_to : (r : RegisterId) (b : BlockId) → At (Ends (terminator.Sync r b)) → (rs : Registers) × (registers_along prog d.top.frame b.0 ≡ Some rs) × (next_action prog d ≡ Sync r.0 b.0 rs)
  syncs_to r b e = sync_here prog run goes r b e

  pub calls_with : (o : Option RegisterId) (g : FunctionId) (arguments : List Argument) → At (Does (instruction.Call o g arguments)) → (vs : List Value) × (argument_values d.top.frame arguments ≡ Some vs) × (next_action prog d ≡ Call o g.0 vs)
  calls_with o g arguments e = call_here prog run goes o g arguments e

  pub reattaches_to : (r : RegisterId) (c : BlockId) → At (Ends (terminator.Reattach r c)) → next_action prog d ≡ Reattach r.0
  reattaches_to r c e = (reattach_here prog run goes r c e).1

  pub returns_with : (value : Option Operand) → At (Ends (terminator.Return value)) → (v : Option ℤ) × (terminator_action prog d.top.path d.top.frame (terminator.Return value) ≡ Return v) × (next_action prog d ≡ Return v)
  returns_with value e = let here = return_here prog run goes value e in (here.0, here.2, here.3)
