-- What instructions that do not trap leave of their frames.
use Rattle.std.proofs.Common.{◌≡◌, ◌≢◌, ℕ, List, Option, Some, None, Bool, true, false, cond, ◌&&◌, eqb, eq-eqb, inl, inr, refl, sym, ap, ◌∙◌, subst, is_some, ℤ, ◌⊎◌, [], ◌∷◌}
use Rattle.std.specs.List.{Contains}
use Rattle.std.specs.Ordering.{int_eq}
use Rattle.std.proofs.lemmas.List.Elements.{Contains-append_left, Contains-append_right, Contains-push}
use Rattle.std.proofs.lemmas.Bool.Decides.{eqb_tells}
use Rattle.semantics.specs.Paths.{Path, same_path}
use Rattle.semantics.specs.Cells.{Object, Cell, Memory}
use Rattle.semantics.specs.Arithmetic.{Trap, Undefined, BadIndex, Unmatched, Answer, Gives, Traps, binary}
use Rattle.semantics.specs.Frames.{Value, Word, Registers, Role, Child, Body, Frame, Item, Does, Ends, item_at, cells_of, word_at, object_at, cell_at, truth_of, region_of, set_register}
use Rattle.semantics.specs.Effect.{Effect, Action, Plain, Detach, Reattach, Sync, Call, Return, stops, sets, answers, given, points, loads, stores, stores_zeros, adds_to, enters, jumps, case_for, registers_along, traps, if_own, syncs, reattaches, argument_values, calls, returns, returns_value, instruction_action, terminator_action, item_action, action_of}
use Rattle.linear.specs.declared.form.RegisterId.{RegisterId}
use Rattle.program.specs.declared.identifier.BlockId.{BlockId}
use Rattle.program.specs.declared.identifier.FunctionId.{FunctionId}
use Rattle.program.specs.declared.function.Program.{Program}
use Rattle.program.specs.declared.instruction.Argument.{Argument}
use Rattle.program.specs.declared.instruction.Case.{Case}
use Rattle.program.specs.declared.instruction.Instruction.{Instruction}
use Rattle.program.specs.declared.instruction.Instruction.TheVariants as instruction
use Rattle.program.specs.declared.instruction.Terminator.{Terminator}
use Rattle.program.specs.declared.instruction.Terminator.TheVariants as terminator
use Rattle.laws_conditions.specs.rules.Moves.{dest_of, GoesOn, Enters, Calls, Forks, EndsFrame, JumpsTo, SyncsTo}
use Rattle.laws_conditions.specs.rules.InProofs.{Moves, is_next, is_along}

-- ---- instructions

pub no_trap : {A : Type 0} (t : Trap) → Some t ≡ None → A
no_trap t e = absurd (cc)

-- with a value that is there
pub given_case : {A : Type 0} (P : Effect → Type 0) (f : Frame) (o : Option A) (next : A → Effect) → ((a : A) → o ≡ Some a → (next a).trap ≡ None → P (next a)) → (given f o next).trap ≡ None → P (given f o next)
given_case P f None next h fine = no_trap Undefined fine
given_case P f (Some a) next h fine = h a refl fine

module _ (f : Frame) where
  set_given : (d : RegisterId) (v : Value) (x : ℕ) → Some d.0 ≡ Some x → is_some (set_register f.registers d v x) ≡ true
  set_given d v x e = let same : d.0 ≡ x = cc in rw (eq-eqb d.0 x same) refl

  set_others : (d : RegisterId) (v : Value) (x : ℕ) → Some d.0 ≢ Some x → set_register f.registers d v x ≡ f.registers x
  set_others d v x apart = elim (eqb_tells d.0 x) [ inl e ↦ absurd (apart (ap (λ n. Some n) e.1)) | inr e ↦ rw e.0 refl ]

  sets_goes : (d : RegisterId) (v : Value) → GoesOn f (Some d.0) (sets f d v)
  sets_goes d v = record { block = refl; index = refl; given = set_given d v; others = set_others d v }

  answers_goes : (d : RegisterId) (a : Answer) → (answers f d a).trap ≡ None → GoesOn f (Some d.0) (answers f d a)
  answers_goes d (Gives z) fine = sets_goes d (Word z)
  answers_goes d (Traps t) fine = no_trap t fine

  chosen_goes : (d : RegisterId) (v : Value) (b : Bool) → (cond b (sets f d v) (stops BadIndex f)).trap ≡ None → GoesOn f (Some d.0) (cond b (sets f d v) (stops BadIndex f))
  chosen_goes d v true fine = sets_goes d v
  chosen_goes d v false fine = no_trap BadIndex fine

  loads_goes : (d : RegisterId) (c : Cell) (o : Option ℤ) → (loads f d c o).trap ≡ None → GoesOn f (Some d.0) (loads f d c o)
  loads_goes d c None fine = no_trap Undefined fine
  loads_goes d c (Some z) fine = record { block = refl; index = refl; given = set_given d (Word z); others = set_others d (Word z) }

  nothing_set : (d : ℕ) → None ≡ Some d → is_some (f.registers d) ≡ true
  nothing_set d e = absurd (cc)

  stores_goes : (c : Cell) (z : ℤ) → GoesOn f None (stores f c z)
  stores_goes c z = record { block = refl; index = refl; given = nothing_set; others = λ x apart. refl }

  zeros_goes : (cells : ℕ) (o : Object) → GoesOn f None (stores_zeros f cells o)
  zeros_goes cells o = record { block = refl; index = refl; given = nothing_set; others = λ x apart. refl }

  adds_goes : (c : Cell) (z : ℤ) (o : Option ℤ) → (adds_to f c z o).trap ≡ None → GoesOn f None (adds_to f c z o)
  adds_goes c z None fine = no_trap Undefined fine
  adds_goes c z (Some old) fine = record { block = refl; index = refl; given = nothing_set; others = λ x apart. refl }

-- a call with its arguments
record CallOf (f : Frame) (i : Instruction) (d : Option RegisterId) (callee : ℕ) (values : List Value) : Type 0 where
  function : FunctionId
  arguments : List Argument
  is : i ≡ instruction.Call d function arguments
  number : function.0 ≡ callee
  values_are : argument_values f arguments ≡ Some values

abbrev OfInstruction : Frame → Instruction → Action → Type 0
OfInstruction f i (Plain e) = e.trap ≡ None → GoesOn f (dest_of i) e
OfInstruction f i (Call d callee values) = CallOf f i d callee values
OfInstruction f i (Detach r b k) = ⊥
OfInstruction f i (Reattach r) = ⊥
OfInstruction f i (Sync r b rs) = ⊥
OfInstruction f i (Return v) = ⊥

by_call : (f : Frame) (d : Option RegisterId) (g : FunctionId) (arguments : List Argument) (o : Option (List Value)) → argument_values f arguments ≡ o → OfInstruction f (instruction.Call d g arguments) (calls f d g.0 o)
by_call f d g arguments None is = λ fine. no_trap Undefined fine
by_call f d g arguments (Some values) is = record { function = g; arguments = arguments; is = refl; number = refl; values_are = is }

by_instruction : (prog : Program) (p : Path) (f : Frame) (m : Memory) (i : Instruction) → OfInstruction f i (instruction_action prog p f m i)
by_instruction prog p f m (instruction.Binary d op w a b) = λ fine.
    given_case (λ e. GoesOn f (Some d.0) e) f (word_at f.registers a) _
    (λ x is fine2. given_case (λ e. GoesOn f (Some d.0) e) f (word_at f.registers b) _ (λ y is2 fine3. answers_goes f d (binary op w x y) fine3) fine2) fine
by_instruction prog p f m (instruction.Compare d by w a b) = λ fine.
    given_case (λ e. GoesOn f (Some d.0) e) f (word_at f.registers a) _ (λ x is fine2. given_case (λ e. GoesOn f (Some d.0) e) f (word_at f.registers b) _ (λ y is2 fine3. sets_goes f d _) fine2) fine
by_instruction prog p f m (instruction.Convert d by a) = λ fine. given_case (λ e. GoesOn f (Some d.0) e) f (word_at f.registers a) _ (λ x is fine2. sets_goes f d _) fine
by_instruction prog p f m (instruction.Alloca d a) = λ fine. sets_goes f d _
by_instruction prog p f m (instruction.ElementPointer d name i) = λ fine.
    given_case (λ e. GoesOn f (Some d.0) e) f (object_at f name) _
    (λ o is fine2. given_case (λ e. GoesOn f (Some d.0) e) f (word_at f.registers i) (points f d (cells_of prog f.function name) o) (λ z is2 fine3. chosen_goes f d _ _ fine3) fine2) fine
by_instruction prog p f m (instruction.Load d address) = λ fine. given_case (λ e. GoesOn f (Some d.0) e) f (cell_at f address) _ (λ c is fine2. loads_goes f d c (m c) fine2) fine
by_instruction prog p f m (instruction.Store a address) = λ fine.
    given_case (λ e. GoesOn f None e) f (cell_at f address) _ (λ c is fine2. given_case (λ e. GoesOn f None e) f (word_at f.registers a) (stores f c) (λ z is2 fine3. stores_goes f c z) fine2) fine
by_instruction prog p f m (instruction.StoreZeros cells name) = λ fine. given_case (λ e. GoesOn f None e) f (object_at f name) (stores_zeros f cells) (λ o is fine2. zeros_goes f cells o) fine
by_instruction prog p f m (instruction.AtomicAdd address a) = λ fine.
    given_case (λ e. GoesOn f None e) f (cell_at f address) _ (λ c is fine2. given_case (λ e. GoesOn f None e) f (word_at f.registers a) _ (λ z is2 fine3. adds_goes f c z (m c) fine3) fine2) fine
by_instruction prog p f m (instruction.Call d g arguments) = by_call f d g arguments (argument_values f arguments) refl
by_instruction prog p f m (instruction.StartRegion d) = λ fine. sets_goes f d _

-- ---- terminators

record Jumped (prog : Program) (f : Frame) (t : Terminator) (e : Effect) : Type 0 where
  to : JumpsTo t e.block
  on : Enters prog f e

record Synced (prog : Program) (f : Frame) (t : Terminator) (r b : ℕ) (rs : Registers) : Type 0 where
  to : SyncsTo t r b
  along : registers_along prog f b ≡ Some rs

abbrev OfTerminator : Program → Frame → Terminator → Action → Type 0
OfTerminator prog f t (Plain e) = e.trap ≡ None → Jumped prog f t e
OfTerminator prog f t (Sync r b rs) = Synced prog f t r b rs
OfTerminator prog f t (Call d callee values) = ⊥
OfTerminator prog f t (Detach r b k) = Unit {0}
OfTerminator prog f t (Reattach r) = Unit {0}
OfTerminator prog f t (Return v) = Unit {0}

module _ (prog : Program) (f : Frame) (t : Terminator) where
  trapped : (x : Trap) → OfTerminator prog f t (traps x f)
  trapped x = λ fine. no_trap x fine

  jumps_enter : (target : ℕ) → JumpsTo t target → (jumps prog f target).trap ≡ None → Jumped prog f t (jumps prog f target)
  jumps_enter target to fine = from (registers_along prog f target) refl fine
    where
      from : (o : Option Registers) → registers_along prog f target ≡ o → (given f o (enters f target)).trap ≡ None → Jumped prog f t (given f o (enters f target))
      from None is fine = no_trap Undefined fine
      from (Some r) is fine = record { to = to; on = record { index = refl; along = is } }

  chosen : (a other : Action) → OfTerminator prog f t a → OfTerminator prog f t other → (b : Bool) → OfTerminator prog f t (cond b a other)
  chosen a other h k true = h
  chosen a other h k false = k

  owned : (p : Path) (a : Action) → OfTerminator prog f t a → (o : Option Path) → OfTerminator prog f t (if_own p f a o)
  owned p a h None = trapped Undefined
  owned p a h (Some owner) = chosen a (traps Unmatched f) h (trapped Unmatched) (same_path owner p)

  by_sync : (region target : ℕ) → SyncsTo t region target → (o : Option Registers) → registers_along prog f target ≡ o → OfTerminator prog f t (syncs f region target o)
  by_sync region target to None is = trapped Undefined
  by_sync region target to (Some r) is = record { to = to; along = is }

  by_return : (role : Role) (v : Option ℤ) → OfTerminator prog f t (returns f role v)
  by_return (Child r c) v = trapped Unmatched
  by_return Body v = tt

  by_value : (o : Option ℤ) → OfTerminator prog f t (returns_value f o)
  by_value None = trapped Undefined
  by_value (Some z) = by_return f.role (Some z)

  by_reattach : (region continuation : ℕ) (role : Role) → OfTerminator prog f t (reattaches f region continuation role)
  by_reattach region continuation Body = trapped Unmatched
  by_reattach region continuation (Child r c) = chosen (Reattach region) (traps Unmatched f) tt (trapped Unmatched) (eqb r region && eqb c continuation)

branch_to : (test : RegisterId) (x y : BlockId) (b : Bool) → JumpsTo (terminator.Branch test x y) (cond b x.0 y.0)
branch_to test x y true = inl refl
branch_to test x y false = inr refl

-- the case that is taken is one of the cases, or the default
pub case_to : (z : ℤ) (default : BlockId) (cases : List Case) → (default.0 ≡ case_for z default.0 cases) ⊎ ((c : Case) × Contains cases c × (c.target.0 ≡ case_for z default.0 cases))
case_to z default [] = inl refl
case_to z default (c ∷ cases) = from (int_eq z c.number) (case_to z default cases)
  where
    from : (b : Bool) → (default.0 ≡ case_for z default.0 cases) ⊎ ((d : Case) × Contains cases d × (d.target.0 ≡ case_for z default.0 cases)) →
        (default.0 ≡ cond b c.target.0 (case_for z default.0 cases)) ⊎ ((d : Case) × Contains (c ∷ cases) d × (d.target.0 ≡ cond b c.target.0 (case_for z default.0 cases)))
    from true h = inr (c, Contains-append_left (c ∷ []) cases c (Contains-push [] c), refl)
    from false h = elim h [ inl e ↦ inl e | inr e ↦ inr (e.0, Contains-append_right (c ∷ []) cases e.0 e.1, e.2) ]

by_terminator : (prog : Program) (f : Frame) (p : Path) (t : Terminator) → OfTerminator prog f t (terminator_action prog p f t)
by_terminator prog f p (terminator.Jump target) = λ fine. jumps_enter prog f (terminator.Jump target) target.0 refl fine
by_terminator prog f p (terminator.Branch test x y) = λ fine.
    given_case (λ e. Jumped prog f (terminator.Branch test x y) e) f (truth_of (f.registers test.0)) _ (λ b is fine2. jumps_enter prog f (terminator.Branch test x y) (cond b x.0 y.0) (branch_to test x y b) fine2) fine
by_terminator prog f p (terminator.Switch w a default cases) = λ fine.
    given_case (λ e. Jumped prog f (terminator.Switch w a default cases) e) f (word_at f.registers a) _ (λ z is fine2. jumps_enter prog f (terminator.Switch w a default cases) (case_for z default.0 cases) (case_to z default cases) fine2) fine
by_terminator prog f p (terminator.Return None) = by_return prog f (terminator.Return None) f.role None
by_terminator prog f p (terminator.Return (Some a)) = by_value prog f (terminator.Return (Some a)) (word_at f.registers a)
by_terminator prog f p (terminator.Detach region body continuation) = owned prog f (terminator.Detach region body continuation) p _ tt (region_of (f.registers region.0))
by_terminator prog f p (terminator.Reattach region continuation) = by_reattach prog f (terminator.Reattach region continuation) region.0 continuation.0 f.role
by_terminator prog f p (terminator.Sync region target) =
    owned prog f (terminator.Sync region target) p _ (by_sync prog f (terminator.Sync region target) region.0 target.0 (refl, refl) (registers_along prog f target.0) refl) (region_of (f.registers region.0))

-- ---- which terminators leave or fork a frame

-- the detach that a frame does
record ForkOf (t : Terminator) (r b k : ℕ) : Type 0 where
  region : RegisterId
  body : BlockId
  continuation : BlockId
  is : t ≡ terminator.Detach region body continuation
  region_is : region.0 ≡ r
  body_is : body.0 ≡ b
  continuation_is : continuation.0 ≡ k

abbrev EndsByTerminator : Frame → Terminator → Action → Type 0
EndsByTerminator f t (Plain e) = Unit {0}
EndsByTerminator f t (Detach r b k) = ForkOf t r b k
EndsByTerminator f t (Reattach r) = EndsFrame t
EndsByTerminator f t (Sync r b rs) = Unit {0}
EndsByTerminator f t (Call d g vs) = Unit {0}
EndsByTerminator f t (Return v) = EndsFrame t

abbrev pub IsEnding : Action → Type 0
IsEnding (Plain e) = ⊥
IsEnding (Detach r b k) = ⊥
IsEnding (Reattach r) = Unit {0}
IsEnding (Sync r b rs) = ⊥
IsEnding (Call d g vs) = ⊥
IsEnding (Return v) = Unit {0}

-- no instruction forks or leaves
abbrev StaysByInstruction : Action → Type 0
StaysByInstruction (Plain e) = Unit {0}
StaysByInstruction (Detach r b k) = ⊥
StaysByInstruction (Reattach r) = ⊥
StaysByInstruction (Sync r b rs) = Unit {0}
StaysByInstruction (Call d g vs) = Unit {0}
StaysByInstruction (Return v) = ⊥

module _ (prog : Program) (f : Frame) (t : Terminator) where
  chosen_ends : (a other : Action) → EndsByTerminator f t a → EndsByTerminator f t other → (b : Bool) → EndsByTerminator f t (cond b a other)
  chosen_ends a other h k true = h
  chosen_ends a other h k false = k

  owned_ends : (p : Path) (a : Action) → EndsByTerminator f t a → (o : Option Path) → EndsByTerminator f t (if_own p f a o)
  owned_ends p a h None = tt
  owned_ends p a h (Some owner) = chosen_ends a (traps Unmatched f) h tt (same_path owner p)

  sync_ends : (region target : ℕ) (o : Option Registers) → EndsByTerminator f t (syncs f region target o)
  sync_ends region target None = tt
  sync_ends region target (Some r) = tt

  return_ends : EndsFrame t → (role : Role) (v : Option ℤ) → EndsByTerminator f t (returns f role v)
  return_ends h (Child r c) v = tt
  return_ends h Body v = h

  value_ends : EndsFrame t → (o : Option ℤ) → EndsByTerminator f t (returns_value f o)
  value_ends h None = tt
  value_ends h (Some z) = return_ends h f.role (Some z)

  reattach_ends : EndsFrame t → (region continuation : ℕ) (role : Role) → EndsByTerminator f t (reattaches f region continuation role)
  reattach_ends h region continuation Body = tt
  reattach_ends h region continuation (Child r c) = chosen_ends (Reattach region) (traps Unmatched f) h tt (eqb r region && eqb c continuation)

terminator_ends : (prog : Program) (p : Path) (f : Frame) (t : Terminator) → EndsByTerminator f t (terminator_action prog p f t)
terminator_ends prog p f (terminator.Jump target) = tt
terminator_ends prog p f (terminator.Branch test x y) = tt
terminator_ends prog p f (terminator.Switch w a default cases) = tt
terminator_ends prog p f (terminator.Return None) = return_ends prog f (terminator.Return None) tt f.role None
terminator_ends prog p f (terminator.Return (Some a)) = value_ends prog f (terminator.Return (Some a)) tt (word_at f.registers a)
terminator_ends prog p f (terminator.Detach region body continuation) =
    owned_ends prog f (terminator.Detach region body continuation) p (Detach region.0 body.0 continuation.0)
    (record { region = region; body = body; continuation = continuation; is = refl; region_is = refl; body_is = refl; continuation_is = refl }) (region_of (f.registers region.0))
terminator_ends prog p f (terminator.Reattach region continuation) = reattach_ends prog f (terminator.Reattach region continuation) tt region.0 continuation.0 f.role
terminator_ends prog p f (terminator.Sync region target) =
    owned_ends prog f (terminator.Sync region target) p (syncs f region.0 target.0 (registers_along prog f target.0)) (sync_ends prog f (terminator.Sync region target) region.0 target.0 (registers_along prog f target.0)) (region_of (f.registers region.0))

call_stays : (f : Frame) (d : Option RegisterId) (g : ℕ) (o : Option (List Value)) → StaysByInstruction (calls f d g o)
call_stays f d g None = tt
call_stays f d g (Some vs) = tt

instruction_stays : (prog : Program) (p : Path) (f : Frame) (m : Memory) (i : Instruction) → StaysByInstruction (instruction_action prog p f m i)
instruction_stays prog p f m (instruction.Binary d op w a b) = tt
instruction_stays prog p f m (instruction.Compare d by w a b) = tt
instruction_stays prog p f m (instruction.Convert d by a) = tt
instruction_stays prog p f m (instruction.Alloca d a) = tt
instruction_stays prog p f m (instruction.ElementPointer d name i) = tt
instruction_stays prog p f m (instruction.Load d address) = tt
instruction_stays prog p f m (instruction.Store a address) = tt
instruction_stays prog p f m (instruction.StoreZeros cells name) = tt
instruction_stays prog p f m (instruction.AtomicAdd address a) = tt
instruction_stays prog p f m (instruction.Call d g arguments) = call_stays f d g.0 (argument_values f arguments)
instruction_stays prog p f m (instruction.StartRegion d) = tt

abbrev EndsBy : Frame → Option Item → Action → Type 0
EndsBy f None a = StaysByInstruction a
EndsBy f (Some (Does i)) a = StaysByInstruction a
EndsBy f (Some (Ends t)) a = EndsByTerminator f t a

item_ends : (prog : Program) (p : Path) (f : Frame) (m : Memory) (o : Option Item) → EndsBy f o (item_action prog p f m o)
item_ends prog p f m None = tt
item_ends prog p f m (Some (Does i)) = instruction_stays prog p f m i
item_ends prog p f m (Some (Ends t)) = terminator_ends prog p f t

-- ---- what a return gives

-- nothing, or the operand's number
abbrev pub GivenBack : Terminator → Option ℤ → Type 0
GivenBack (terminator.Jump target) v = ⊥
GivenBack (terminator.Branch test x y) v = ⊥
GivenBack (terminator.Switch w a default cases) v = ⊥
GivenBack (terminator.Return None) v = v ≡ None
GivenBack (terminator.Return (Some a)) v = is_some v ≡ true
GivenBack (terminator.Detach region body continuation) v = ⊥
GivenBack (terminator.Reattach region continuation) v = ⊥
GivenBack (terminator.Sync region target) v = ⊥

abbrev GivesBy : Terminator → Action → Type 0
GivesBy t (Plain e) = Unit {0}
GivesBy t (Detach r b k) = Unit {0}
GivesBy t (Reattach r) = Unit {0}
GivesBy t (Sync r b rs) = Unit {0}
GivesBy t (Call d g vs) = Unit {0}
GivesBy t (Return v) = GivenBack t v

module _ (f : Frame) (t : Terminator) where
  chosen_gives : (a other : Action) → GivesBy t a → GivesBy t other → (b : Bool) → GivesBy t (cond b a other)
  chosen_gives a other h k true = h
  chosen_gives a other h k false = k

  owned_gives : (p : Path) (a : Action) → GivesBy t a → (o : Option Path) → GivesBy t (if_own p f a o)
  owned_gives p a h None = tt
  owned_gives p a h (Some owner) = chosen_gives a (traps Unmatched f) h tt (same_path owner p)

  sync_gives : (region target : ℕ) (o : Option Registers) → GivesBy t (syncs f region target o)
  sync_gives region target None = tt
  sync_gives region target (Some r) = tt

  return_gives : (v : Option ℤ) → GivenBack t v → (role : Role) → GivesBy t (returns f role v)
  return_gives v h (Child r c) = tt
  return_gives v h Body = h

  value_gives : ((z : ℤ) → GivenBack t (Some z)) → (o : Option ℤ) → GivesBy t (returns_value f o)
  value_gives h None = tt
  value_gives h (Some z) = return_gives (Some z) (h z) f.role

  reattach_gives : (region continuation : ℕ) (role : Role) → GivesBy t (reattaches f region continuation role)
  reattach_gives region continuation Body = tt
  reattach_gives region continuation (Child r c) = chosen_gives (Reattach region) (traps Unmatched f) tt tt (eqb r region && eqb c continuation)

terminator_gives : (prog : Program) (p : Path) (f : Frame) (t : Terminator) → GivesBy t (terminator_action prog p f t)
terminator_gives prog p f (terminator.Jump target) = tt
terminator_gives prog p f (terminator.Branch test x y) = tt
terminator_gives prog p f (terminator.Switch w a default cases) = tt
terminator_gives prog p f (terminator.Return None) = return_gives f (terminator.Return None) None refl f.role
terminator_gives prog p f (terminator.Return (Some a)) = value_gives f (terminator.Return (Some a)) (λ z. refl) (word_at f.registers a)
terminator_gives prog p f (terminator.Detach region body continuation) = owned_gives f (terminator.Detach region body continuation) p (Detach region.0 body.0 continuation.0) tt (region_of (f.registers region.0))
terminator_gives prog p f (terminator.Reattach region continuation) = reattach_gives f (terminator.Reattach region continuation) region.0 continuation.0 f.role
terminator_gives prog p f (terminator.Sync region target) =
    owned_gives f (terminator.Sync region target) p (syncs f region.0 target.0 (registers_along prog f target.0)) (sync_gives f (terminator.Sync region target) region.0 target.0 (registers_along prog f target.0)) (region_of (f.registers region.0))

-- ---- what stands at a place

abbrev OfItem : Program → Frame → Option Item → Action → Type 0
OfItem prog f None a = (e : Effect) → a ≡ Plain e → e.trap ≡ None → ⊥
OfItem prog f (Some (Does i)) a = OfInstruction f i a
OfItem prog f (Some (Ends t)) a = OfTerminator prog f t a

by_item : (prog : Program) (p : Path) (f : Frame) (m : Memory) (o : Option Item) → OfItem prog f o (item_action prog p f m o)
by_item prog p f m None = λ e is fine. let h : (stops Unmatched f).trap ≡ e.trap = effect_trap is in no_trap Unmatched (h ∙ fine)
  where
    effect_trap : {a b : Effect} → Plain a ≡ Plain b → a.trap ≡ b.trap
    effect_trap {a} {b} is = let same : a ≡ b = cc in ap (λ x. x.trap) same
by_item prog p f m (Some (Does i)) = by_instruction prog p f m i
by_item prog p f m (Some (Ends t)) = by_terminator prog f p t

module _ (prog : Program) (p : Path) (f : Frame) (m : Memory) where
  here : (a : Action) → action_of prog p f m ≡ a → OfItem prog f (item_at prog f.function f.block f.index) a
  here a at = subst (λ x. OfItem prog f (item_at prog f.function f.block f.index) x) at (by_item prog p f m (item_at prog f.function f.block f.index))

  here_ends : (a : Action) → action_of prog p f m ≡ a → EndsBy f (item_at prog f.function f.block f.index) a
  here_ends a at = subst (λ x. EndsBy f (item_at prog f.function f.block f.index) x) at (item_ends prog p f m (item_at prog f.function f.block f.index))

  -- a plain instruction goes on in its block, or along an edge
  pub moves : (e : Effect) → action_of prog p f m ≡ Plain e → e.trap ≡ None → Moves prog f e
  moves e at fine = from (item_at prog f.function f.block f.index) refl (here (Plain e) at)
    where
      from : (o : Option Item) → item_at prog f.function f.block f.index ≡ o → OfItem prog f o (Plain e) → Moves prog f e
      from None is h = absurd (h e refl fine)
      from (Some (Does i)) is h = is_next i is (h fine)
      from (Some (Ends t)) is h = is_along t is (h fine).to (h fine).on

  -- a sync goes along an edge too
  pub syncs_along : (r b : ℕ) (rs : Registers) → action_of prog p f m ≡ Sync r b rs → registers_along prog f b ≡ Some rs
  syncs_along r b rs at = from (item_at prog f.function f.block f.index) refl (here (Sync r b rs) at)
    where
      from : (o : Option Item) → item_at prog f.function f.block f.index ≡ o → OfItem prog f o (Sync r b rs) → registers_along prog f b ≡ Some rs
      from None is h = absurd (missing is)
        where
          missing : item_at prog f.function f.block f.index ≡ None → ⊥
          missing is = let a : Plain (stops Unmatched f) ≡ Sync r b rs = sym (ap (λ o. item_action prog p f m o) is) ∙ at in cc
      from (Some (Does i)) is h = absurd h
      from (Some (Ends t)) is h = h.along

  pub sync_here : (r b : ℕ) (rs : Registers) → action_of prog p f m ≡ Sync r b rs → (t : Terminator) × (item_at prog f.function f.block f.index ≡ Some (Ends t)) × SyncsTo t r b
  sync_here r b rs at = from (item_at prog f.function f.block f.index) refl (here (Sync r b rs) at)
    where
      from : (o : Option Item) → item_at prog f.function f.block f.index ≡ o → OfItem prog f o (Sync r b rs) → (t : Terminator) × (item_at prog f.function f.block f.index ≡ Some (Ends t)) × SyncsTo t r b
      from None is h = absurd (let a : Plain (stops Unmatched f) ≡ Sync r b rs = sym (ap (λ o. item_action prog p f m o) is) ∙ at in cc)
      from (Some (Does i)) is h = absurd h
      from (Some (Ends t)) is h = (t, is, h.to)

  -- the call that stands there
  pub calls_here : (d : Option RegisterId) (callee : ℕ) (values : List Value) → action_of prog p f m ≡ Call d callee values → Calls prog f d callee values
  calls_here d callee values at = from (item_at prog f.function f.block f.index) refl (here (Call d callee values) at)
    where
      from : (o : Option Item) → item_at prog f.function f.block f.index ≡ o → OfItem prog f o (Call d callee values) → Calls prog f d callee values
      from None is h = absurd (missing is)
        where
          missing : item_at prog f.function f.block f.index ≡ None → ⊥
          missing is = let a : Plain (stops Unmatched f) ≡ Call d callee values = sym (ap (λ o. item_action prog p f m o) is) ∙ at in cc
      from (Some (Does i)) is h = record { function = h.function; arguments = h.arguments; is = is ∙ ap (λ x. Some (Does x)) h.is; number = h.number; values_are = h.values_are }
      from (Some (Ends t)) is h = absurd h

  -- what is no plain instruction stands in a block
  pub item_there : (a : Action) → action_of prog p f m ≡ a → ((e : Effect) → a ≡ Plain e → ⊥) → (x : Item) × (item_at prog f.function f.block f.index ≡ Some x)
  item_there a at other = from (item_at prog f.function f.block f.index) refl
    where
      from : (o : Option Item) → item_at prog f.function f.block f.index ≡ o → (x : Item) × (item_at prog f.function f.block f.index ≡ Some x)
      from None is = absurd (other (stops Unmatched f) (sym at ∙ ap (λ o. item_action prog p f m o) is))
      from (Some x) is = (x, is)

  -- a detach, a reattach or a return is its terminator
  pub forks_here : (r b k : ℕ) → action_of prog p f m ≡ Detach r b k → Forks prog f r b k
  forks_here r b k at = from (item_at prog f.function f.block f.index) refl (here_ends (Detach r b k) at)
    where
      from : (o : Option Item) → item_at prog f.function f.block f.index ≡ o → EndsBy f o (Detach r b k) → Forks prog f r b k
      from None is h = absurd h
      from (Some (Does i)) is h = absurd h
      from (Some (Ends t)) is h = record { region = h.region; body = h.body; continuation = h.continuation; is = is ∙ ap (λ x. Some (Ends x)) h.is; region_is = h.region_is; body_is = h.body_is; continuation_is = h.continuation_is }

  pub ends_here : (a : Action) → IsEnding a → action_of prog p f m ≡ a → (t : Terminator) × (item_at prog f.function f.block f.index ≡ Some (Ends t)) × EndsFrame t
  ends_here a ending at = from (item_at prog f.function f.block f.index) refl (here_ends a at)
    where
      by_action : (a : Action) (t : Terminator) → IsEnding a → EndsByTerminator f t a → EndsFrame t
      by_action (Plain e) t ending h = absurd ending
      by_action (Detach r b k) t ending h = absurd ending
      by_action (Reattach r) t ending h = h
      by_action (Sync r b rs) t ending h = absurd ending
      by_action (Call d g vs) t ending h = absurd ending
      by_action (Return v) t ending h = h

      no_item : (a : Action) → IsEnding a → EndsBy f None a → ⊥
      no_item (Plain e) ending h = ending
      no_item (Detach r b k) ending h = ending
      no_item (Reattach r) ending h = h
      no_item (Sync r b rs) ending h = ending
      no_item (Call d g vs) ending h = ending
      no_item (Return v) ending h = h

      no_step : (a : Action) (i : Instruction) → IsEnding a → EndsBy f (Some (Does i)) a → ⊥
      no_step (Plain e) i ending h = ending
      no_step (Detach r b k) i ending h = ending
      no_step (Reattach r) i ending h = h
      no_step (Sync r b rs) i ending h = ending
      no_step (Call d g vs) i ending h = ending
      no_step (Return v) i ending h = h

      from : (o : Option Item) → item_at prog f.function f.block f.index ≡ o → EndsBy f o a → (t : Terminator) × (item_at prog f.function f.block f.index ≡ Some (Ends t)) × EndsFrame t
      from None is h = absurd (no_item a ending h)
      from (Some (Does i)) is h = absurd (no_step a i ending h)
      from (Some (Ends t)) is h = (t, is, by_action a t ending h)

  pub returns_here : (v : Option ℤ) → action_of prog p f m ≡ Return v → (t : Terminator) × (item_at prog f.function f.block f.index ≡ Some (Ends t)) × GivenBack t v
  returns_here v at =
      let (t, is, ends) = ends_here (Return v) tt at in
      let same : terminator_action prog p f t ≡ Return v = sym (ap (λ o. item_action prog p f m o) is) ∙ at in
      (t, is, subst (λ a. GivesBy t a) same (terminator_gives prog p f t))
