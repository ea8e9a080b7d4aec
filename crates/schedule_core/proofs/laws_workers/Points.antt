-- What a frame points to is of its own function or of one above it, in any order of steps.
use Rattle.std.proofs.Common.{◌≡◌, ◌∙◌, ℕ, zero, suc, ◌<◌, List, [], ◌∷◌, length, map, Option, Some, None, Bool, true, false, cond, eqb, ◌&&◌, refl, sym, ap, subst, arith, slice_get, ℤ, pos, int_le, int_lt}
use Rattle.std.specs.Prelude.{⊤}
use Rattle.linear.specs.declared.form.RegisterId.{RegisterId}
use Rattle.semantics.specs.Paths.{Path}
use Rattle.semantics.specs.Below.{Under, itself, deeper}
use Rattle.semantics.specs.Cells.{Object, Shared, Local, Cell, Memory}
use Rattle.semantics.specs.Arithmetic.{Answer, Gives, Traps, binary, compares, converts}
use Rattle.semantics.specs.Frames.{Value, Word, Truth, Pointer, Region, Registers, Frame, and_then, phis_at, cell_of, cells_of, set_register, word_at, object_at, first_cell, cell_at}
use Rattle.semantics.specs.Effect.{Effect, Action, Plain, Detach, Reattach, Sync, Call, Return, sets, answers, given, points, loads, stores, stores_zeros, adds_to, phi_value, with_phis, registers_along, argument_value, argument_values, calls, instruction_action, item_action, action_of}
use Rattle.semantics.specs.State.{with_result}
use Rattle.semantics.specs.Events.{Event, start}
use Rattle.semantics.specs.Replay.{replay}
use Rattle.semantics.specs.Sound.{NeverTraps}
use Rattle.program.specs.declared.function.Program.{Program}
use Rattle.program.specs.declared.identifier.ObjectName.{ObjectName}
use Rattle.program.specs.declared.identifier.ObjectName.TheVariants as object
use Rattle.program.specs.declared.instruction.Argument.{Argument}
use Rattle.program.specs.declared.instruction.Argument.TheVariants as argument
use Rattle.program.specs.declared.instruction.Instruction.{Instruction}
use Rattle.program.specs.declared.instruction.Instruction.TheVariants as instruction
use Rattle.program.specs.declared.instruction.Phi.{Phi}
use Rattle.serial_machine.specs.laws_conditions.rules.InProofs.{Moves, is_next, is_along}
use Rattle.serial_machine.proofs.laws_conditions.rules.Moves.{moves, syncs_along, calls_here}
use Rattle.serial_machine.specs.laws_schedule.safe.Kept.{OfAll}
use Rattle.serial_machine.specs.laws_schedule.zones.ByPhases.{IsKeptBySteps}
use Rattle.serial_machine.proofs.laws_schedule.kinds.Registers.{argument_at}
use Rattle.serial_machine.proofs.laws_schedule.safe.Everywhere.{everywhere, of_first}
use Rattle.serial_machine.proofs.safe.Mirrors.{under_long}
use Rattle.serial_machine.proofs.safe.Stacks.{IsOwner}
use Rattle.schedule_workers.specs.Going.{IsAbove, PointsUp}

-- ---- values and registers

abbrev ValueUp : Path → Value → Type 0
ValueUp p (Word z) = ⊤
ValueUp p (Truth b) = ⊤
ValueUp p (Pointer c) = IsAbove p c.object
ValueUp p (Region q) = ⊤

abbrev OptionUp : Path → Option Value → Type 0
OptionUp p None = ⊤
OptionUp p (Some v) = ValueUp p v

abbrev RegistersUp : Path → Registers → Type 0
RegistersUp p r = (x : ℕ) → OptionUp p (r x)

held_up : (p : Path) (o : Option Value) (c : Cell) → OptionUp p o → o ≡ Some (Pointer c) → IsAbove p c.object
held_up p o c up is = subst (OptionUp p) is up

option_up : (p : Path) (o : Option Value) → ((c : Cell) → o ≡ Some (Pointer c) → IsAbove p c.object) → OptionUp p o
option_up p None h = tt
option_up p (Some (Word z)) h = tt
option_up p (Some (Truth b)) h = tt
option_up p (Some (Pointer c)) h = h c refl
option_up p (Some (Region q)) h = tt

set_up : (p : Path) (r : Registers) (d : RegisterId) (v : Value) → RegistersUp p r → ValueUp p v → RegistersUp p (set_register r d v)
set_up p r d v up here x = by (eqb d.0 x)
  where
    by : (b : Bool) → OptionUp p (cond b (Some v) (r x))
    by true = here
    by false = up x

deeper_up : (p : Path) (k : ℕ) (o : Object) → IsAbove p o → IsAbove (k ∷ p) o
deeper_up p k (Shared g) up = tt
deeper_up p k (Local owner a) up = deeper k up

child_up : (p : Path) (k : ℕ) (o : Option Value) → OptionUp p o → OptionUp (k ∷ p) o
child_up p k None up = tt
child_up p k (Some (Word z)) up = tt
child_up p k (Some (Truth b)) up = tt
child_up p k (Some (Pointer c)) up = deeper_up p k c.object up
child_up p k (Some (Region q)) up = tt

-- ---- what a step leaves in registers

module _ (p : Path) (f : Frame) (home : Under f.home p) (up : RegistersUp p f.registers) where
  cell_up : (o : Option Value) (q : Object) → OptionUp p o → and_then (cell_of o) (λ (c : Cell). Some c.object) ≡ Some q → IsAbove p q
  cell_up None q h e = absurd (cc)
  cell_up (Some (Word z)) q h e = absurd (cc)
  cell_up (Some (Truth b)) q h e = absurd (cc)
  cell_up (Some (Pointer c)) q h e = let same : c.object ≡ q = cc in subst (IsAbove p) same h
  cell_up (Some (Region x)) q h e = absurd (cc)

  object_up : (name : ObjectName) (q : Object) → object_at f name ≡ Some q → IsAbove p q
  object_up (object.Global g) q e = let same : Shared g.0 ≡ q = cc in subst (IsAbove p) same tt
  object_up (object.Alloca a) q e = let same : Local f.home a.0 ≡ q = cc in subst (IsAbove p) same home
  object_up (object.Parameter x) q e = cell_up (f.registers x.0) q (up x.0) e

  abbrev OfAction : Action → Type 0
  OfAction (Plain e) = RegistersUp p e.registers
  OfAction (Detach r b k) = ⊤
  OfAction (Reattach r) = ⊤
  OfAction (Sync r b rs) = ⊤
  OfAction (Call d g vs) = ⊤
  OfAction (Return v) = ⊤

  abbrev Good : Effect → Type 0
  Good e = RegistersUp p e.registers

  given_good : {A : Type 0} (o : Option A) (next : A → Effect) → ((a : A) → o ≡ Some a → Good (next a)) → Good (given f o next)
  given_good None next h = up
  given_good (Some a) next h = h a refl

  sets_good : (d : RegisterId) (v : Value) → ValueUp p v → Good (sets f d v)
  sets_good d v here = set_up p f.registers d v up here

  answers_good : (d : RegisterId) (a : Answer) → Good (answers f d a)
  answers_good d (Gives z) = sets_good d (Word z) tt
  answers_good d (Traps t) = up

  chosen_good : (b : Bool) (x y : Effect) → Good x → Good y → Good (cond b x y)
  chosen_good true x y h k = h
  chosen_good false x y h k = k

  points_good : (d : RegisterId) (cells : ℕ) (o : Object) (i : ℤ) → IsAbove p o → Good (points f d cells o i)
  points_good d cells o i here = chosen_good (int_le (pos 0) i && int_lt i (pos cells)) _ _ (sets_good d _ here) up

  loads_good : (d : RegisterId) (c : Cell) (o : Option ℤ) → Good (loads f d c o)
  loads_good d c None = up
  loads_good d c (Some z) = sets_good d (Word z) tt

  adds_good : (c : Cell) (z : ℤ) (o : Option ℤ) → Good (adds_to f c z o)
  adds_good c z None = up
  adds_good c z (Some old) = up

  calls_good : (d : Option RegisterId) (g : ℕ) (o : Option (List Value)) → OfAction (calls f d g o)
  calls_good d g None = up
  calls_good d g (Some vs) = tt

  by_instruction : (prog : Program) (m : Memory) (i : Instruction) → OfAction (instruction_action prog p f m i)
  by_instruction prog m (instruction.Binary d op w a b) =
      given_good (word_at f.registers a) _ (λ x first. given_good (word_at f.registers b) _ (λ y second. answers_good d (binary op w x y)))
  by_instruction prog m (instruction.Compare d by w a b) =
      given_good (word_at f.registers a) _ (λ x first. given_good (word_at f.registers b) _ (λ y second. sets_good d (Truth (compares by w x y)) tt))
  by_instruction prog m (instruction.Convert d by a) = given_good (word_at f.registers a) _ (λ x first. sets_good d (Word (converts by x)) tt)
  by_instruction prog m (instruction.Alloca d a) = sets_good d (Pointer (first_cell (Local f.home a.0))) home
  by_instruction prog m (instruction.ElementPointer d name i) =
      given_good (object_at f name) _ (λ o first. given_good (word_at f.registers i) _ (λ z second. points_good d (cells_of prog f.function name) o z (object_up name o first)))
  by_instruction prog m (instruction.Load d at) = given_good (cell_at f at) _ (λ c first. loads_good d c (m c))
  by_instruction prog m (instruction.Store a at) = given_good (cell_at f at) _ (λ c first. given_good (word_at f.registers a) (stores f c) (λ z second. up))
  by_instruction prog m (instruction.StoreZeros cells name) = given_good (object_at f name) (stores_zeros f cells) (λ o first. up)
  by_instruction prog m (instruction.AtomicAdd at a) = given_good (cell_at f at) _ (λ c first. given_good (word_at f.registers a) _ (λ z second. adds_good c z (m c)))
  by_instruction prog m (instruction.Call d g arguments) = calls_good d g.0 (argument_values f arguments)
  by_instruction prog m (instruction.StartRegion d) = sets_good d (Region p) tt

  phis_up : (before : Registers) (from : ℕ) (phis : List Phi) (r s : Registers) → RegistersUp p r → with_phis before from phis r ≡ Some s → RegistersUp p s
  phis_up before from [] r s now e = let same : r ≡ s = cc in subst (λ (x : Registers). RegistersUp p x) same now
  phis_up before from (phi ∷ phis) r s now e = by (phi_value before from phi) e (λ z k h. phis_up before from phis (set_register r phi.register (Word z)) s k h)
    where
      by : (o : Option ℤ) → and_then o (λ z. with_phis before from phis (set_register r phi.register (Word z))) ≡ Some s →
          ((z : ℤ) → RegistersUp p (set_register r phi.register (Word z)) → with_phis before from phis (set_register r phi.register (Word z)) ≡ Some s → RegistersUp p s) → RegistersUp p s
      by None h rest = absurd (cc)
      by (Some z) h rest = rest z (set_up p r phi.register (Word z) now tt) h

  along_up : (prog : Program) (target : ℕ) (rs : Registers) → registers_along prog f target ≡ Some rs → RegistersUp p rs
  along_up prog target rs e = phis_up f.registers f.block (phis_at prog f.function target) f.registers rs up e

  plain_up : (prog : Program) (m : Memory) (e : Effect) → action_of prog p f m ≡ Plain e → Moves prog f e → RegistersUp p e.registers
  plain_up prog m e act (is_next i there on) =
      let acts : instruction_action prog p f m i ≡ Plain e = sym (ap (item_action prog p f m) there) ∙ act in
      subst OfAction acts (by_instruction prog m i)
  plain_up prog m e act (is_along t there to on) = along_up prog e.block e.registers on.along

  passed_up : (one : Argument) (v : Value) → argument_value f one ≡ Some v → ValueUp p v
  passed_up (argument.Number a) v e = by (word_at f.registers a) e
    where
      by : (o : Option ℤ) → and_then o (λ z. Some (Word z)) ≡ Some v → ValueUp p v
      by None h = absurd (cc)
      by (Some z) h = let same : Word z ≡ v = cc in subst (ValueUp p) same tt
  passed_up (argument.Object name) v e = by (object_at f name) refl e
    where
      by : (o : Option Object) → object_at f name ≡ o → and_then o (λ x. Some (Pointer (first_cell x))) ≡ Some v → ValueUp p v
      by None is h = absurd (cc)
      by (Some o) is h = let same : Pointer (first_cell o) ≡ v = cc in subst (ValueUp p) same (object_up name o is)

  values_up : (arguments : List Argument) (vs : List Value) → argument_values f arguments ≡ Some vs → RegistersUp p (slice_get vs)
  values_up arguments vs values x = by (slice_get vs x) refl
    where
      by : (o : Option Value) → slice_get vs x ≡ o → OptionUp p o
      by None is = tt
      by (Some v) is = let one = argument_at f arguments vs x v values is in passed_up one.0 v one.2

result_up : (p : Path) (r : Registers) (d : Option RegisterId) (result : Option ℤ) → RegistersUp p r → RegistersUp p (with_result r d result)
result_up p r None result up = up
result_up p r (Some d) None up = up
result_up p r (Some d) (Some z) up = set_up p r d (Word z) up tt

numbers_up : (p : Path) (zs : List ℤ) (x : ℕ) → OptionUp p (slice_get (map (λ z. Word z) zs) x)
numbers_up p [] x = tt
numbers_up p (z ∷ zs) zero = tt
numbers_up p (z ∷ zs) (suc x) = numbers_up p zs x

-- ---- frames

-- its home is its own path or above it, a detached child's is above it, and so is the owner of what its registers point to
pub record IsBelow (p : Path) (f : Frame) : Type 0 where
  pub home : Under f.home p
  pub owner : IsOwner f.role f.home p
  pub registers : RegistersUp p f.registers

below : (home p : Path) (k : ℕ) → Under home p → length home < suc (length p)
below home p k above = let long = under_long home p above in omega (arith, long)

pub below_kept : (prog : Program) → IsKeptBySteps prog IsBelow
below_kept prog = record {
  plain = λ p f m e h going at fine. record { home = h.home; owner = h.owner; registers = plain_up p f h.home h.registers prog m e at (moves prog p f m e at fine) };
  child = λ p f m r b n h going at. record { home = deeper f.made h.home; owner = below f.home p f.made h.home; registers = λ x. child_up p f.made (f.registers x) (h.registers x) };
  continues = λ p f m r b n h going at. record { home = h.home; owner = h.owner; registers = h.registers };
  syncs = λ p f m r b rs h going at. record { home = h.home; owner = h.owner; registers = along_up p f h.home h.registers prog b rs (syncs_along prog p f m r b rs at) };
  callee = λ p f m d g vs h going at.
      let call = calls_here prog p f m d g vs at in
      record { home = itself; owner = tt; registers = λ x. child_up p f.made (slice_get vs x) (values_up p f h.home h.registers call.arguments vs call.values_are x) };
  waits = λ p f m d g vs h going at. record { home = h.home; owner = h.owner; registers = h.registers };
  resumes = λ p f k d v h waits. record { home = h.home; owner = h.owner; registers = result_up p f.registers d v h.registers };
}

pub always_below : (prog : Program) (arguments : List ℤ) (memory : Memory) (workers : ℕ) → NeverTraps prog workers (start prog arguments memory) → (events : List Event) →
    OfAll (replay prog workers events (start prog arguments memory)).core IsBelow
always_below prog arguments memory workers never events =
    everywhere prog IsBelow (below_kept prog) workers (start prog arguments memory) never
    (of_first prog arguments memory IsBelow (record { home = itself; owner = tt; registers = λ x. numbers_up [] arguments x })) events

pub points_up : (p : Path) (f : Frame) → IsBelow p f → PointsUp p f
points_up p f h = record { home = h.home; registers = λ x c is. held_up p (f.registers x) c (h.registers x) is }
