-- Which cells an instruction uses.
use Rattle.std.proofs.Common.{◌≡◌, ◌∙◌, ℕ, ◌<◌, List, Option, Some, None, Bool, true, false, cond, ◌&&◌, eqb, eqb-true, refl, ap, subst, is_some, ℤ}
use Rattle.std.specs.Prelude.{nat_lt}
use Rattle.std.proofs.lemmas.Bool.{false≢true, ltb-true, and_parts}
use Rattle.syntax.specs.declared.operator.Mode.{Mode}
use Rattle.syntax.specs.declared.operator.Mode.TheVariants.{Reads, Writes, Adds}
use Rattle.semantics.specs.Paths.{Path, same_path}
use Rattle.semantics.specs.Cells.{Object, Cell, same_object, same_cell, Memory}
use Rattle.semantics.specs.Arithmetic.{Trap, Undefined, BadIndex, Unmatched, Answer, Gives, Traps, binary}
use Rattle.semantics.specs.Frames.{Value, Word, Registers, Role, Child, Body, Frame, Item, Does, Ends, item_at, cells_of, word_at, object_at, cell_at, truth_of, region_of}
use Rattle.semantics.specs.Effect.{Effect, Action, Plain, Detach, Reattach, Sync, Call, Return, stops, sets, answers, given, points, loads, stores, stores_zeros, adds_to, enters, jumps, case_for, registers_along, traps, if_own, syncs, reattaches, argument_values, calls, returns, returns_value, instruction_action, terminator_action, item_action, action_of}
use Rattle.linear.specs.declared.form.RegisterId.{RegisterId}
use Rattle.program.specs.declared.function.Program.{Program}
use Rattle.program.specs.declared.instruction.Instruction.{Instruction}
use Rattle.program.specs.declared.instruction.Instruction.TheVariants as instruction
use Rattle.program.specs.declared.instruction.Terminator.{Terminator}
use Rattle.program.specs.declared.instruction.Terminator.TheVariants as terminator
use Rattle.laws_phases.specs.zones.Uses.{Uses}
use Rattle.semantics.proofs.SameCells.{same_object_is}

-- ---- cells that are the same

pub cell_is : (c d : Cell) → same_cell c d ≡ true → c ≡ d
cell_is c d e = let h = and_parts (same_object c.object d.object) (eqb c.index d.index) e in λ i. record { object = same_object_is c.object d.object h.0 i; index = eqb-true c.index d.index h.1 i }

below : (a b : ℕ) → nat_lt a b ≡ true → a < b
below a b e = ltb-true a b e

some_when : {A : Type 0} (b : Bool) (a : A) → is_some (cond b (Some a) None) ≡ true → b ≡ true
some_when true a e = refl
some_when false a e = absurd (false≢true e)

-- ---- effects that use no cell

pub record IsQuiet (e : Effect) : Type 0 where
  pub none : (mode : Mode) (c : Cell) → Uses e mode c → ⊥

stops_none : (t : Trap) (f : Frame) (mode : Mode) (c : Cell) → Uses (stops t f) mode c → ⊥
stops_none t f Reads c h = false≢true h
stops_none t f Writes c h = false≢true h
stops_none t f Adds c h = false≢true h

stops_quiet : (t : Trap) (f : Frame) → IsQuiet (stops t f)
stops_quiet t f = record { none = stops_none t f }

sets_none : (f : Frame) (d : RegisterId) (v : Value) (mode : Mode) (c : Cell) → Uses (sets f d v) mode c → ⊥
sets_none f d v Reads c h = false≢true h
sets_none f d v Writes c h = false≢true h
sets_none f d v Adds c h = false≢true h

sets_quiet : (f : Frame) (d : RegisterId) (v : Value) → IsQuiet (sets f d v)
sets_quiet f d v = record { none = sets_none f d v }

enters_none : (f : Frame) (target : ℕ) (r : Registers) (mode : Mode) (c : Cell) → Uses (enters f target r) mode c → ⊥
enters_none f target r Reads c h = false≢true h
enters_none f target r Writes c h = false≢true h
enters_none f target r Adds c h = false≢true h

enters_quiet : (f : Frame) (target : ℕ) (r : Registers) → IsQuiet (enters f target r)
enters_quiet f target r = record { none = enters_none f target r }

answers_quiet : (f : Frame) (d : RegisterId) (a : Answer) → IsQuiet (answers f d a)
answers_quiet f d (Gives z) = sets_quiet f d (Word z)
answers_quiet f d (Traps t) = stops_quiet t f

chosen_quiet : (a b : Effect) (test : Bool) → IsQuiet a → IsQuiet b → IsQuiet (cond test a b)
chosen_quiet a b true h k = h
chosen_quiet a b false h k = k

given_quiet : {A : Type 0} (f : Frame) (o : Option A) (next : A → Effect) → ((a : A) → IsQuiet (next a)) → IsQuiet (given f o next)
given_quiet f None next h = stops_quiet Undefined f
given_quiet f (Some a) next h = h a

-- ---- what an instruction uses

-- how an instruction uses a cell
abbrev pub UsesBy : Frame → Instruction → Mode → Cell → Type 0
UsesBy f (instruction.Binary d op w a b) mode c = ⊥
UsesBy f (instruction.Compare d by w a b) mode c = ⊥
UsesBy f (instruction.Convert d by a) mode c = ⊥
UsesBy f (instruction.Alloca d a) mode c = ⊥
UsesBy f (instruction.ElementPointer d name i) mode c = ⊥
UsesBy f (instruction.Load d address) mode c = (Reads ≡ mode) × (cell_at f address ≡ Some c)
UsesBy f (instruction.Store a address) mode c = (Writes ≡ mode) × (cell_at f address ≡ Some c)
UsesBy f (instruction.StoreZeros cells name) mode c = (Writes ≡ mode) × (object_at f name ≡ Some c.object) × (c.index < cells)
UsesBy f (instruction.AtomicAdd address a) mode c = (Adds ≡ mode) × (cell_at f address ≡ Some c)
UsesBy f (instruction.Call d callee arguments) mode c = ⊥
UsesBy f (instruction.StartRegion d) mode c = ⊥

record Shows (f : Frame) (i : Instruction) (e : Effect) : Type 0 where
  each : (mode : Mode) (c : Cell) → Uses e mode c → UsesBy f i mode c

abbrev ShowsAction : Frame → Instruction → Action → Type 0
ShowsAction f i (Plain e) = Shows f i e
ShowsAction f i (Detach r b k) = Unit {0}
ShowsAction f i (Reattach r) = Unit {0}
ShowsAction f i (Sync r b rs) = Unit {0}
ShowsAction f i (Call d g vs) = Unit {0}
ShowsAction f i (Return v) = Unit {0}

module _ (f : Frame) where
  quiet_shows : (i : Instruction) (e : Effect) → IsQuiet e → Shows f i e
  quiet_shows i e h = record { each = λ mode c u. absurd (h.none mode c u) }

  given_shows : {A : Type 0} (i : Instruction) (o : Option A) (next : A → Effect) → ((a : A) → o ≡ Some a → Shows f i (next a)) → Shows f i (given f o next)
  given_shows i None next h = quiet_shows i (stops Undefined f) (stops_quiet Undefined f)
  given_shows i (Some a) next h = h a refl

  one_cell : (o : Option Cell) (c d : Cell) → o ≡ Some c → same_cell c d ≡ true → o ≡ Some d
  one_cell o c d is same = is ∙ ap Some (cell_is c d same)

  load_shows : (d : RegisterId) (c : Cell) (o : Option ℤ) (at : Option Cell) → at ≡ Some c → (mode : Mode) (x : Cell) → Uses (loads f d c o) mode x → (Reads ≡ mode) × (at ≡ Some x)
  load_shows d c None at is Reads x h = (refl, one_cell at c x is h)
  load_shows d c None at is Writes x h = absurd (false≢true h)
  load_shows d c None at is Adds x h = absurd (false≢true h)
  load_shows d c (Some z) at is Reads x h = (refl, one_cell at c x is h)
  load_shows d c (Some z) at is Writes x h = absurd (false≢true h)
  load_shows d c (Some z) at is Adds x h = absurd (false≢true h)

  store_shows : (c : Cell) (z : ℤ) (at : Option Cell) → at ≡ Some c → (mode : Mode) (x : Cell) → Uses (stores f c z) mode x → (Writes ≡ mode) × (at ≡ Some x)
  store_shows c z at is Reads x h = absurd (false≢true h)
  store_shows c z at is Writes x h = (refl, one_cell at c x is (some_when (same_cell c x) (Some z) h))
  store_shows c z at is Adds x h = absurd (false≢true h)

  zeros_show : (cells : ℕ) (o : Object) (at : Option Object) → at ≡ Some o → (mode : Mode) (x : Cell) → Uses (stores_zeros f cells o) mode x → (Writes ≡ mode) × (at ≡ Some x.object) × (x.index < cells)
  zeros_show cells o at is Reads x h = absurd (false≢true h)
  zeros_show cells o at is Writes x h =
      let e = and_parts (same_object o x.object) (nat_lt x.index cells) (some_when (same_object o x.object && nat_lt x.index cells) _ h) in
      (refl, is ∙ ap Some (same_object_is o x.object e.0), below x.index cells e.1)
  zeros_show cells o at is Adds x h = absurd (false≢true h)

  add_shows : (c : Cell) (z : ℤ) (o : Option ℤ) (at : Option Cell) → at ≡ Some c → (mode : Mode) (x : Cell) → Uses (adds_to f c z o) mode x → (Adds ≡ mode) × (at ≡ Some x)
  add_shows c z None at is Reads x h = absurd (false≢true h)
  add_shows c z None at is Writes x h = absurd (false≢true h)
  add_shows c z None at is Adds x h = (refl, one_cell at c x is (some_when (same_cell c x) z h))
  add_shows c z (Some old) at is Reads x h = absurd (false≢true h)
  add_shows c z (Some old) at is Writes x h = absurd (false≢true h)
  add_shows c z (Some old) at is Adds x h = (refl, one_cell at c x is (some_when (same_cell c x) z h))

  call_shows : (i : Instruction) (d : Option RegisterId) (g : ℕ) (o : Option (List Value)) → ShowsAction f i (calls f d g o)
  call_shows i d g None = quiet_shows i (stops Undefined f) (stops_quiet Undefined f)
  call_shows i d g (Some vs) = tt

  module _ (prog : Program) (p : Path) (m : Memory) where
    instruction_shows : (i : Instruction) → ShowsAction f i (instruction_action prog p f m i)
    instruction_shows (instruction.Binary d op w a b) = quiet_shows (instruction.Binary d op w a b) _ (given_quiet f (word_at f.registers a) _ (λ x. given_quiet f (word_at f.registers b) _ (λ y. answers_quiet f d (binary op w x y))))
    instruction_shows (instruction.Compare d by w a b) = quiet_shows (instruction.Compare d by w a b) _ (given_quiet f (word_at f.registers a) _ (λ x. given_quiet f (word_at f.registers b) _ (λ y. sets_quiet f d _)))
    instruction_shows (instruction.Convert d by a) = quiet_shows (instruction.Convert d by a) _ (given_quiet f (word_at f.registers a) _ (λ x. sets_quiet f d _))
    instruction_shows (instruction.Alloca d a) = quiet_shows (instruction.Alloca d a) _ (sets_quiet f d _)
    instruction_shows (instruction.ElementPointer d name i) =
        quiet_shows (instruction.ElementPointer d name i) _ (given_quiet f (object_at f name) _ (λ o. given_quiet f (word_at f.registers i) (points f d (cells_of prog f.function name) o) (λ z. chosen_quiet _ _ _ (sets_quiet f d _) (stops_quiet BadIndex f))))
    instruction_shows (instruction.Load d address) = given_shows (instruction.Load d address) (cell_at f address) _ (λ c is. record { each = load_shows d c (m c) (cell_at f address) is })
    instruction_shows (instruction.Store a address) =
        given_shows (instruction.Store a address) (cell_at f address) _ (λ c is. given_shows (instruction.Store a address) (word_at f.registers a) (stores f c) (λ z is2. record { each = store_shows c z (cell_at f address) is }))
    instruction_shows (instruction.StoreZeros cells name) = given_shows (instruction.StoreZeros cells name) (object_at f name) (stores_zeros f cells) (λ o is. record { each = zeros_show cells o (object_at f name) is })
    instruction_shows (instruction.AtomicAdd address a) =
        given_shows (instruction.AtomicAdd address a) (cell_at f address) _ (λ c is. given_shows (instruction.AtomicAdd address a) (word_at f.registers a) _ (λ z is2. record { each = add_shows c z (m c) (cell_at f address) is }))
    instruction_shows (instruction.Call d g arguments) = call_shows (instruction.Call d g arguments) d g.0 (argument_values f arguments)
    instruction_shows (instruction.StartRegion d) = quiet_shows (instruction.StartRegion d) _ (sets_quiet f d _)

-- ---- a terminator uses no cell

abbrev IsQuietAction : Action → Type 0
IsQuietAction (Plain e) = IsQuiet e
IsQuietAction (Detach r b k) = Unit {0}
IsQuietAction (Reattach r) = Unit {0}
IsQuietAction (Sync r b rs) = Unit {0}
IsQuietAction (Call d g vs) = Unit {0}
IsQuietAction (Return v) = Unit {0}

module _ (prog : Program) (f : Frame) where
  jumps_quiet : (target : ℕ) → IsQuiet (jumps prog f target)
  jumps_quiet target = given_quiet f (registers_along prog f target) (enters f target) (λ r. enters_quiet f target r)

  pick_quiet : (a b : Action) (test : Bool) → IsQuietAction a → IsQuietAction b → IsQuietAction (cond test a b)
  pick_quiet a b true h k = h
  pick_quiet a b false h k = k

  own_quiet : (p : Path) (a : Action) (o : Option Path) → IsQuietAction a → IsQuietAction (if_own p f a o)
  own_quiet p a None h = stops_quiet Undefined f
  own_quiet p a (Some owner) h = pick_quiet a (traps Unmatched f) (same_path owner p) h (stops_quiet Unmatched f)

  sync_quiet : (region target : ℕ) (o : Option Registers) → IsQuietAction (syncs f region target o)
  sync_quiet region target None = stops_quiet Undefined f
  sync_quiet region target (Some r) = tt

  return_quiet : (role : Role) (v : Option ℤ) → IsQuietAction (returns f role v)
  return_quiet (Child r c) v = stops_quiet Unmatched f
  return_quiet Body v = tt

  value_quiet : (o : Option ℤ) → IsQuietAction (returns_value f o)
  value_quiet None = stops_quiet Undefined f
  value_quiet (Some z) = return_quiet f.role (Some z)

  reattach_quiet : (region continuation : ℕ) (role : Role) → IsQuietAction (reattaches f region continuation role)
  reattach_quiet region continuation Body = stops_quiet Unmatched f
  reattach_quiet region continuation (Child r c) = pick_quiet (Reattach region) (traps Unmatched f) (eqb r region && eqb c continuation) tt (stops_quiet Unmatched f)

  terminator_quiet : (p : Path) (t : Terminator) → IsQuietAction (terminator_action prog p f t)
  terminator_quiet p (terminator.Jump target) = jumps_quiet target.0
  terminator_quiet p (terminator.Branch test x y) = given_quiet f (truth_of (f.registers test.0)) _ (λ b. jumps_quiet (cond b x.0 y.0))
  terminator_quiet p (terminator.Switch w a default cases) = given_quiet f (word_at f.registers a) _ (λ z. jumps_quiet (case_for z default.0 cases))
  terminator_quiet p (terminator.Return None) = return_quiet f.role None
  terminator_quiet p (terminator.Return (Some a)) = value_quiet (word_at f.registers a)
  terminator_quiet p (terminator.Detach region body continuation) = own_quiet p (Detach region.0 body.0 continuation.0) (region_of (f.registers region.0)) tt
  terminator_quiet p (terminator.Reattach region continuation) = reattach_quiet region.0 continuation.0 f.role
  terminator_quiet p (terminator.Sync region target) = own_quiet p _ (region_of (f.registers region.0)) (sync_quiet region.0 target.0 (registers_along prog f target.0))

-- ---- what stands at a frame's place uses it

pub record UsedHere (prog : Program) (f : Frame) (mode : Mode) (c : Cell) : Type 0 where
  pub what : Instruction
  pub is : item_at prog f.function f.block f.index ≡ Some (Does what)
  pub uses : UsesBy f what mode c

module _ (prog : Program) (p : Path) (f : Frame) (m : Memory) (e : Effect) (mode : Mode) (c : Cell) (u : Uses e mode c) where
  pub used_here : action_of prog p f m ≡ Plain e → UsedHere prog f mode c
  used_here at = from (item_at prog f.function f.block f.index) refl at
    where
      showing : (what : Instruction) → instruction_action prog p f m what ≡ Plain e → Shows f what e
      showing what a = subst (λ (x : Action). ShowsAction f what x) a (instruction_shows f prog p m what)

      quieting : (t : Terminator) → terminator_action prog p f t ≡ Plain e → IsQuiet e
      quieting t a = subst (λ (x : Action). IsQuietAction x) a (terminator_quiet prog f p t)

      from : (o : Option Item) → item_at prog f.function f.block f.index ≡ o → item_action prog p f m o ≡ Plain e → UsedHere prog f mode c
      from None is a = absurd ((stops_quiet Unmatched f).none mode c (subst (λ (x : Effect). Uses x mode c) (let k : e ≡ stops Unmatched f = cc in k) u))
      from (Some (Does what)) is a = record { what = what; is = is; uses = (showing what a).each mode c u }
      from (Some (Ends t)) is a = absurd ((quieting t a).none mode c u)
