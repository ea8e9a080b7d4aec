-- What instructions write: no cell loses its value, and what a step stores of an alloca has values then.
use Rattle.std.proofs.Common.{◌≡◌, ◌≢◌, ℕ, suc, ◌≤◌, inl, inr, List, [], ◌∷◌, length, Option, Some, None, Bool, true, false, cond, eqb, eq-eqb, eqb-true, ◌&&◌, is_some, refl, ap, subst, ◌∙◌, arith, slice_get, ℤ, pos}
use Rattle.std.specs.Prelude.{nat_lt, int_le, int_lt, unsigned_abs}
use Rattle.std.specs.List.{Contains, flat_map}
use Rattle.std.proofs.lemmas.Bool.{and_from, and_parts, lt-ltb}
use Rattle.semantics.specs.Paths.{Path, same_path}
use Rattle.semantics.specs.Cells.{Object, Shared, Local, Cell, Memory, same_object, same_cell, owns}
use Rattle.semantics.specs.Arithmetic.{Trap, Undefined, BadIndex, Unmatched, Answer, Gives as GivesNumber, Traps, binary, compares, converts}
use Rattle.semantics.specs.Frames.{Value, Word, Truth, Pointer, Region, Role, Child, Body, Registers, Frame, Item, Does, Ends, item_at, alloca_cells, cells_of, word_at, truth_of, region_of, object_at, first_cell, cell_at}
use Rattle.semantics.specs.Effect.{Effect, Action, Plain, Detach, Reattach, Sync, Call, Return, stops, sets, answers, given, points, loads, stores, stores_zeros, adds_to, enters, jumps, case_for, registers_along, traps, if_own, syncs, reattaches, argument_values, calls, returns, returns_value, instruction_action, terminator_action, item_action, action_of}
use Rattle.semantics.specs.State.{override, added, sum_in}
use Rattle.semantics.specs.SerialMeaning.{written, cleared}
use Rattle.linear.specs.declared.form.RegisterId.{RegisterId}
use Rattle.program.specs.declared.identifier.AllocaId.{AllocaId}
use Rattle.program.specs.declared.identifier.ObjectName.{ObjectName}
use Rattle.program.specs.declared.identifier.ObjectName.TheVariants as object
use Rattle.program.specs.declared.function.Alloca.{Alloca as AllocaOf}
use Rattle.program.specs.declared.function.Function.{Function}
use Rattle.program.specs.declared.function.Program.{Program}
use Rattle.program.specs.declared.instruction.Address.{Address}
use Rattle.program.specs.declared.instruction.Address.TheVariants.{First, Element}
use Rattle.program.specs.declared.instruction.Argument.{Argument}
use Rattle.program.specs.declared.instruction.Argument.TheVariants as argument
use Rattle.program.specs.declared.instruction.Instruction.{Instruction}
use Rattle.program.specs.declared.instruction.Instruction.TheVariants as instruction
use Rattle.program.specs.declared.instruction.Operand.{Operand}
use Rattle.program.specs.declared.instruction.Step.{Step}
use Rattle.program.specs.declared.instruction.Terminator.{Terminator}
use Rattle.program.specs.declared.instruction.Terminator.TheVariants as terminator
use Rattle.definedness.specs.declared.act.Act.{Act}
use Rattle.definedness.specs.declared.act.Act.TheVariants.{Gives}
use Rattle.definedness.specs.Needs.{gives}
use Rattle.definedness.specs.AllocaActs.{object_read, element_read, address_read, argument_read, object_set, single_set, first_set, address_set, element_object, instruction_cells}
use Rattle.laws_phases.specs.defined.Values.{Full, Shallow}
use Rattle.laws_phases.proofs.defined.Lists.{none_within, within_cases}
use Rattle.laws_phases.proofs.defined.Defined.{Quiet, flat_quiet}

-- ---- cells and paths

same_path_itself : (p : Path) → same_path p p ≡ true
same_path_itself [] = refl
same_path_itself (x ∷ xs) = and_from _ _ (eq-eqb x x refl) (same_path_itself xs)

same_object_itself : (o : Object) → same_object o o ≡ true
same_object_itself (Shared g) = eq-eqb g g refl
same_object_itself (Local p a) = and_from _ _ (same_path_itself p) (eq-eqb a a refl)

same_length : (p q : Path) → same_path p q ≡ true → length p ≡ length q
same_length [] [] e = refl
same_length [] (y ∷ ys) e = absurd (cc)
same_length (x ∷ xs) [] e = absurd (cc)
same_length (x ∷ xs) (y ∷ ys) e = ap suc (same_length xs ys (and_parts _ _ e).1)

-- a frame with fewer frames above it owns other cells
not_owned : (n : ℕ) (q : Path) (o : Object) → Shallow n o → n ≤ length q → owns q o ≡ false
not_owned n q (Shared g) h l = refl
not_owned n q (Local p a) h l = from (same_path q p) refl
  where
    from : (b : Bool) → same_path q p ≡ b → b ≡ false
    from true e = absurd (let s : length q ≡ length p = same_length q p e in omega arith)
    from false e = refl

pub clear_keeps : (n : ℕ) (q : Path) (m : Memory) (c : Cell) → Shallow n c.object → n ≤ length q → is_some (m c) ≡ true → is_some (cleared q m c) ≡ true
clear_keeps n q m c h l g = rw (not_owned n q c.object h l) g

pub shallower : (n k : ℕ) (o : Object) → n ≤ k → Shallow n o → Shallow k o
shallower n k (Shared g) l h = tt
shallower n k (Local q a) l h = omega arith

-- ---- what is written has a value

abbrev pub Values : Effect → Type 0
Values e = (c : Cell) → e.writes c ≢ Some None

stop_values : (t : Trap) (f : Frame) → Values (stops t f)
stop_values t f c e = cc

given_values : {A : Type 0} (f : Frame) (o : Option A) (next : A → Effect) → ((a : A) → Values (next a)) → Values (given f o next)
given_values f None next h = stop_values Undefined f
given_values f (Some a) next h = h a

sets_values : (f : Frame) (d : RegisterId) (v : Value) → Values (sets f d v)
sets_values f d v c e = cc

answers_values : (f : Frame) (d : RegisterId) (a : Answer) → Values (answers f d a)
answers_values f d (GivesNumber z) = sets_values f d (Word z)
answers_values f d (Traps t) = stop_values t f

points_values : (f : Frame) (d : RegisterId) (n : ℕ) (o : Object) (z : ℤ) → Values (points f d n o z)
points_values f d n o z = by (int_le (pos 0) z && int_lt z (pos n))
  where
    by : (b : Bool) → Values (cond b (sets f d (Pointer (record { object = o; index = unsigned_abs z }))) (stops BadIndex f))
    by true = sets_values f d (Pointer (record { object = o; index = unsigned_abs z }))
    by false = stop_values BadIndex f

loads_values : (f : Frame) (d : RegisterId) (c : Cell) (o : Option ℤ) → Values (loads f d c o)
loads_values f d c None x e = cc
loads_values f d c (Some z) x e = cc

adds_values : (f : Frame) (c : Cell) (z : ℤ) (o : Option ℤ) → Values (adds_to f c z o)
adds_values f c z None x e = cc
adds_values f c z (Some old) x e = cc

stores_values : (f : Frame) (c : Cell) (z : ℤ) → Values (stores f c z)
stores_values f c z x e = by (same_cell c x) e
  where
    by : (b : Bool) → cond b (Some (Some z)) None ≡ Some None → ⊥
    by true h = cc
    by false h = cc

zeros_values : (f : Frame) (n : ℕ) (o : Object) → Values (stores_zeros f n o)
zeros_values f n o x e = by (same_object o x.object && nat_lt x.index n) e
  where
    by : (b : Bool) → cond b (Some (Some (pos 0))) None ≡ Some None → ⊥
    by true h = cc
    by false h = cc

abbrev ActionValues : Action → Type 0
ActionValues (Plain e) = Values e
ActionValues (Detach r b k) = Unit {0}
ActionValues (Reattach r) = Unit {0}
ActionValues (Sync r b rs) = Unit {0}
ActionValues (Call d g vs) = Unit {0}
ActionValues (Return v) = Unit {0}

calls_values : (f : Frame) (d : Option RegisterId) (g : ℕ) (o : Option (List Value)) → ActionValues (calls f d g o)
calls_values f d g None = stop_values Undefined f
calls_values f d g (Some vs) = tt

instruction_values : (prog : Program) (p : Path) (f : Frame) (m : Memory) (i : Instruction) → ActionValues (instruction_action prog p f m i)
instruction_values prog p f m (instruction.Binary d op w a b) = given_values f (word_at f.registers a) _ (λ x. given_values f (word_at f.registers b) _ (λ y. answers_values f d (binary op w x y)))
instruction_values prog p f m (instruction.Compare d by w a b) = given_values f (word_at f.registers a) _ (λ x. given_values f (word_at f.registers b) _ (λ y. sets_values f d (Truth (compares by w x y))))
instruction_values prog p f m (instruction.Convert d by a) = given_values f (word_at f.registers a) _ (λ x. sets_values f d (Word (converts by x)))
instruction_values prog p f m (instruction.Alloca d a) = sets_values f d (Pointer (first_cell (Local f.home a.0)))
instruction_values prog p f m (instruction.ElementPointer d name i) = given_values f (object_at f name) _ (λ o. given_values f (word_at f.registers i) (points f d (cells_of prog f.function name) o) (points_values f d (cells_of prog f.function name) o))
instruction_values prog p f m (instruction.Load d a) = given_values f (cell_at f a) _ (λ c. loads_values f d c (m c))
instruction_values prog p f m (instruction.Store v a) = given_values f (cell_at f a) _ (λ c. given_values f (word_at f.registers v) (stores f c) (stores_values f c))
instruction_values prog p f m (instruction.StoreZeros n name) = given_values f (object_at f name) (stores_zeros f n) (zeros_values f n)
instruction_values prog p f m (instruction.AtomicAdd a v) = given_values f (cell_at f a) _ (λ c. given_values f (word_at f.registers v) _ (λ z. adds_values f c z (m c)))
instruction_values prog p f m (instruction.Call d g arguments) = calls_values f d g.0 (argument_values f arguments)
instruction_values prog p f m (instruction.StartRegion d) = sets_values f d (Region p)

enters_values : (f : Frame) (target : ℕ) (r : Registers) → Values (enters f target r)
enters_values f target r c e = cc

jumps_values : (prog : Program) (f : Frame) (target : ℕ) → Values (jumps prog f target)
jumps_values prog f target = given_values f (registers_along prog f target) (enters f target) (enters_values f target)

owned_values : (p : Path) (f : Frame) (a : Action) → ActionValues a → (o : Option Path) → ActionValues (if_own p f a o)
owned_values p f a h None = stop_values Undefined f
owned_values p f a h (Some owner) = by (same_path owner p)
  where
    by : (b : Bool) → ActionValues (cond b a (traps Unmatched f))
    by true = h
    by false = stop_values Unmatched f

returns_values : (f : Frame) (role : Role) (v : Option ℤ) → ActionValues (returns f role v)
returns_values f (Child r c) v = stop_values Unmatched f
returns_values f Body v = tt

return_values : (f : Frame) (o : Option ℤ) → ActionValues (returns_value f o)
return_values f None = stop_values Undefined f
return_values f (Some z) = returns_values f f.role (Some z)

reattach_values : (f : Frame) (region continuation : ℕ) (role : Role) → ActionValues (reattaches f region continuation role)
reattach_values f region continuation Body = stop_values Unmatched f
reattach_values f region continuation (Child r c) = by (eqb r region && eqb c continuation)
  where
    by : (b : Bool) → ActionValues (cond b (Reattach region) (traps Unmatched f))
    by true = tt
    by false = stop_values Unmatched f

syncs_values : (f : Frame) (region target : ℕ) (o : Option Registers) → ActionValues (syncs f region target o)
syncs_values f region target None = stop_values Undefined f
syncs_values f region target (Some r) = tt

terminator_values : (prog : Program) (p : Path) (f : Frame) (t : Terminator) → ActionValues (terminator_action prog p f t)
terminator_values prog p f (terminator.Jump target) = jumps_values prog f target.0
terminator_values prog p f (terminator.Branch test x y) = given_values f (truth_of (f.registers test.0)) _ (λ b. jumps_values prog f (cond b x.0 y.0))
terminator_values prog p f (terminator.Switch w a default cases) = given_values f (word_at f.registers a) _ (λ z. jumps_values prog f (case_for z default.0 cases))
terminator_values prog p f (terminator.Return None) = returns_values f f.role None
terminator_values prog p f (terminator.Return (Some a)) = return_values f (word_at f.registers a)
terminator_values prog p f (terminator.Detach region body continuation) = owned_values p f (Detach region.0 body.0 continuation.0) tt (region_of (f.registers region.0))
terminator_values prog p f (terminator.Reattach region continuation) = reattach_values f region.0 continuation.0 f.role
terminator_values prog p f (terminator.Sync region target) = owned_values p f (syncs f region.0 target.0 (registers_along prog f target.0)) (syncs_values f region.0 target.0 (registers_along prog f target.0)) (region_of (f.registers region.0))

item_values : (prog : Program) (p : Path) (f : Frame) (m : Memory) (o : Option Item) → ActionValues (item_action prog p f m o)
item_values prog p f m None = stop_values Unmatched f
item_values prog p f m (Some (Does i)) = instruction_values prog p f m i
item_values prog p f m (Some (Ends t)) = terminator_values prog p f t

-- no cell loses its value
pub plain_keeps : (prog : Program) (p : Path) (f : Frame) (m : Memory) (e : Effect) → action_of prog p f m ≡ Plain e → (c : Cell) → is_some (m c) ≡ true → is_some (written e m c) ≡ true
plain_keeps prog p f m e at c h = by_add (e.adds c) (by_write (e.writes c) refl)
  where
    values : Values e
    values = subst ActionValues at (item_values prog p f m (item_at prog f.function f.block f.index))

    by_write : (o : Option (Option ℤ)) → e.writes c ≡ o → is_some (override o (m c)) ≡ true
    by_write None is = h
    by_write (Some None) is = absurd (values c is)
    by_write (Some (Some z)) is = refl

    by_sum : (z : ℤ) (v : Option ℤ) → is_some v ≡ true → is_some (sum_in z v) ≡ true
    by_sum z None k = k
    by_sum z (Some old) k = refl

    by_add : (o : Option ℤ) → is_some (override (e.writes c) (m c)) ≡ true → is_some (added o (override (e.writes c) (m c))) ≡ true
    by_add None k = k
    by_add (Some z) k = by_sum z (override (e.writes c) (m c)) k

-- ---- what a step stores of an alloca

store_full : (f : Frame) (m : Memory) (o : Object) (n : ℕ) (v : Option ℤ) → n ≤ 1 → (given f v (stores f (first_cell o))).trap ≡ None → Full n o (written (given f v (stores f (first_cell o))) m)
store_full f m o n None small fine = absurd (let h : (stops Undefined f).trap ≡ None = fine in cc)
store_full f m o n (Some z) small fine = λ i less. rw (and_from _ _ (same_object_itself o) (eq-eqb 0 i (omega arith))) refl

zeros_full : (f : Frame) (m : Memory) (o : Object) (n k : ℕ) → n ≤ k → Full n o (written (stores_zeros f k o) m)
zeros_full f m o n k large = λ i less. rw (and_from _ _ (same_object_itself o) (lt-ltb i k (omega arith))) refl

pub read_quiet : (line : ℕ) (name : ObjectName) → Quiet (object_read line name)
read_quiet line (object.Global g) = refl
read_quiet line (object.Alloca a) = refl
read_quiet line (object.Parameter r) = refl

element_quiet : (line : ℕ) (o : Option ObjectName) → Quiet (element_read line o)
element_quiet line None = refl
element_quiet line (Some name) = read_quiet line name

pub address_quiet : (steps : List Step) (line : ℕ) (a : Address) → Quiet (address_read steps line a)
address_quiet steps line (First name) = read_quiet line name
address_quiet steps line (Element r) = element_quiet line (element_object steps r)

passed_quiet : (line : ℕ) (a : Argument) → Quiet (argument_read line a)
passed_quiet line (argument.Number v) = refl
passed_quiet line (argument.Object name) = read_quiet line name

pub arguments_quiet : (line : ℕ) (arguments : List Argument) → Quiet (flat_map (argument_read line) arguments)
arguments_quiet line arguments = flat_quiet (argument_read line) arguments (passed_quiet line)

pub none_given : (acts : List Act) (a : ℕ) → Quiet acts → Contains (gives acts) a → ⊥
none_given acts a quiet c = none_within a (subst (λ xs. Contains xs a) quiet c)

one_given : (b a : ℕ) → Contains (gives (Gives b ∷ [])) a → b ≡ a
one_given b a c = elim (within_cases b a [] c) [ inl e ↦ e | inr h ↦ absurd (none_within a h) ]

-- of a store through an alloca's own name
single_given : (allocas : List AllocaOf) (b a : ℕ) (o : Option AllocaOf) → slice_get allocas b ≡ o → Contains (gives (single_set b o)) a → (b ≡ a) × (alloca_cells o ≡ 1)
single_given allocas b a None is c = absurd (none_within a c)
single_given allocas b a (Some x) is c = by (eqb x.cells 1) refl c
  where
    by : (t : Bool) → eqb x.cells 1 ≡ t → Contains (gives (cond t (Gives b ∷ []) [])) a → (b ≡ a) × (x.cells ≡ 1)
    by true e k = (one_given b a k, eqb-true x.cells 1 e)
    by false e k = absurd (none_within a k)

module _ (prog : Program) (p : Path) (f : Frame) (m : Memory) (function : Function) (at : slice_get prog.functions f.function ≡ Some function) where
  cells_are : (a : AllocaId) → cells_of prog f.function (object.Alloca a) ≡ alloca_cells (slice_get function.allocas a.0)
  cells_are a = rw at refl

  abbrev Stored : ℕ → Effect → Type 0
  Stored a e = Full (cells_of prog f.function (object.Alloca (record { 0 = a }))) (Local f.home a) (written e m)

  stored_named : (name : ObjectName) (v : Operand) (a : ℕ) → Contains (gives (first_set function.allocas name)) a → (given f (cell_at f (First name)) (λ c. given f (word_at f.registers v) (stores f c))).trap ≡ None →
      Stored a (given f (cell_at f (First name)) (λ c. given f (word_at f.registers v) (stores f c)))
  stored_named (object.Global g) v a c fine = absurd (none_within a c)
  stored_named (object.Alloca b) v a c fine =
      let h = single_given function.allocas b.0 a (slice_get function.allocas b.0) refl c in
      let n : cells_of prog f.function (object.Alloca b) ≡ 1 = cells_are b ∙ h.1 in
      subst (λ (k : ℕ). Full (cells_of prog f.function (object.Alloca (record { 0 = k }))) (Local f.home k) (written (given f (word_at f.registers v) (stores f (first_cell (Local f.home b.0)))) m)) h.0
      (store_full f m (Local f.home b.0) (cells_of prog f.function (object.Alloca b)) (word_at f.registers v) (omega (arith, n)) fine)
  stored_named (object.Parameter r) v a c fine = absurd (none_within a c)

  stored_at : (x : Address) (v : Operand) (a : ℕ) → Contains (gives (address_set function.allocas x)) a → (given f (cell_at f x) (λ c. given f (word_at f.registers v) (stores f c))).trap ≡ None →
      Stored a (given f (cell_at f x) (λ c. given f (word_at f.registers v) (stores f c)))
  stored_at (First name) v a c fine = stored_named name v a c fine
  stored_at (Element r) v a c fine = absurd (none_within a c)

  zeroed : (name : ObjectName) (n a : ℕ) → ((b : AllocaId) → name ≡ object.Alloca b → cells_of prog f.function (object.Alloca b) ≤ n) → Contains (gives (object_set name)) a → Stored a (given f (object_at f name) (stores_zeros f n))
  zeroed (object.Global g) n a large c = absurd (none_within a c)
  zeroed (object.Alloca b) n a large c =
      let same : b.0 ≡ a = one_given b.0 a c in
      subst (λ (k : ℕ). Full (cells_of prog f.function (object.Alloca (record { 0 = k }))) (Local f.home k) (written (stores_zeros f n (Local f.home b.0)) m)) same
      (zeros_full f m (Local f.home b.0) (cells_of prog f.function (object.Alloca b)) n (large b refl))
  zeroed (object.Parameter r) n a large c = absurd (none_within a c)

  -- what the step stores has values behind it
  pub step_stores : (what : Instruction) (steps : List Step) (line a : ℕ) (e : Effect) → ((n : ℕ) (b : AllocaId) → what ≡ instruction.StoreZeros n (object.Alloca b) → cells_of prog f.function (object.Alloca b) ≤ n) →
      instruction_action prog p f m what ≡ Plain e → e.trap ≡ None → Contains (gives (instruction_cells function.allocas steps line what)) a → Stored a e
  step_stores (instruction.Binary d op w x y) steps line a e large is fine c = absurd (none_within a c)
  step_stores (instruction.Compare d by w x y) steps line a e large is fine c = absurd (none_within a c)
  step_stores (instruction.Convert d by x) steps line a e large is fine c = absurd (none_within a c)
  step_stores (instruction.Alloca d x) steps line a e large is fine c = absurd (none_within a c)
  step_stores (instruction.ElementPointer d name x) steps line a e large is fine c = absurd (none_within a c)
  step_stores (instruction.Load d x) steps line a e large is fine c = absurd (none_given (address_read steps line x) a (address_quiet steps line x) c)
  step_stores (instruction.Store v x) steps line a e large is fine c =
      let same : given f (cell_at f x) (λ y. given f (word_at f.registers v) (stores f y)) ≡ e = cc in
      subst (λ (y : Effect). Stored a y) same (stored_at x v a c (ap (λ (y : Effect). y.trap) same ∙ fine))
  step_stores (instruction.StoreZeros n name) steps line a e large is fine c =
      let same : given f (object_at f name) (stores_zeros f n) ≡ e = cc in
      subst (λ (y : Effect). Stored a y) same (zeroed name n a (λ b k. large n b (ap (λ (z : ObjectName). instruction.StoreZeros n z) k)) c)
  step_stores (instruction.AtomicAdd x v) steps line a e large is fine c = absurd (none_given (address_read steps line x) a (address_quiet steps line x) c)
  step_stores (instruction.Call d g arguments) steps line a e large is fine c = absurd (none_given (flat_map (argument_read line) arguments) a (arguments_quiet line arguments) c)
  step_stores (instruction.StartRegion d) steps line a e large is fine c = absurd (none_within a c)
