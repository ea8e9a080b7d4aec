-- Where an instruction does not trap, all that it reads is there.
use Rattle.std.proofs.Common.{◌≡◌, ◌∙◌, ℕ, List, Option, Some, None, Bool, true, false, cond, ◌&&◌, eqb, eqb-true, is_some, refl, sym, ap, subst, ℤ}
use Rattle.std.proofs.lemmas.Bool.{and_parts}
use Rattle.linear.specs.declared.form.RegisterId.{RegisterId}
use Rattle.semantics.specs.Paths.{Path, same_path}
use Rattle.semantics.specs.Cells.{Cell, Memory}
use Rattle.semantics.specs.Arithmetic.{Undefined, Unmatched, binary, compares, converts}
use Rattle.semantics.specs.Frames.{Value, Word, Truth, Registers, Role, Child, Body, Frame, Item, Does, Ends, item_at, cells_of, truth_of, region_of, word_at, object_at, cell_at}
use Rattle.semantics.specs.Effect.{Effect, Action, Plain, Detach, Reattach, Sync, Call, Return, given, sets, answers, points, loads, stores, stores_zeros, adds_to, enters, jumps, case_for, registers_along, traps, if_own, syncs, reattaches, argument_values, calls, returns, returns_value, instruction_action, terminator_action, item_action, action_of}
use Rattle.semantics.proofs.Places.{same_path_is}
use Rattle.program.specs.declared.function.Program.{Program}
use Rattle.program.specs.declared.instruction.Instruction.{Instruction}
use Rattle.program.specs.declared.instruction.Instruction.TheVariants as instruction
use Rattle.program.specs.declared.instruction.Terminator.{Terminator}
use Rattle.program.specs.declared.instruction.Terminator.TheVariants as terminator
use Rattle.laws_phases.specs.facts.Traps.{IsThere, IsFull, FindsAll, MayEnd, IsReady}
use Rattle.laws_conditions.proofs.rules.Moves.{no_trap}

abbrev pub NoTrap : Action → Type 0
NoTrap (Plain e) = e.trap ≡ None
NoTrap (Detach region body continuation) = Unit {0}
NoTrap (Reattach region) = Unit {0}
NoTrap (Sync region block registers) = Unit {0}
NoTrap (Call d callee values) = Unit {0}
NoTrap (Return result) = Unit {0}

there : {A : Type 0} (o : Option A) (a : A) → o ≡ Some a → IsThere o
there o a e = ap is_some e

module _ (f : Frame) where
  given_there : {A : Type 0} (o : Option A) (next : A → Effect) → (given f o next).trap ≡ None → (a : A) × (o ≡ Some a) × ((next a).trap ≡ None)
  given_there None next fine = no_trap Undefined fine
  given_there (Some a) next fine = (a, refl, fine)

  given_one : {A : Type 0} (o : Option A) (next : A → Effect) → (given f o next).trap ≡ None → IsThere o
  given_one o next fine = let (a, at, rest) = given_there o next fine in there o a at

  given_two : {A B : Type 0} (o : Option A) (u : Option B) (next : A → B → Effect) → (given f o (λ a. given f u (next a))).trap ≡ None → IsThere o × IsThere u
  given_two o u next fine =
      let (a, at, rest) = given_there o (λ a. given f u (next a)) fine in
      (there o a at, given_one u (next a) rest)

  loads_there : (d : RegisterId) (c : Cell) (o : Option ℤ) → (loads f d c o).trap ≡ None → IsThere o
  loads_there d c None fine = no_trap Undefined fine
  loads_there d c (Some z) fine = refl

  adds_there : (c : Cell) (z : ℤ) (o : Option ℤ) → (adds_to f c z o).trap ≡ None → IsThere o
  adds_there c z None fine = no_trap Undefined fine
  adds_there c z (Some old) fine = refl

  full : (m : Memory) (o : Option Cell) (c : Cell) → o ≡ Some c → IsThere (m c) → IsFull m o
  full m o c at h x other = let same : c ≡ x = (let both : Some c ≡ Some x = sym at ∙ other in cc) in subst (λ (y : Cell). IsThere (m y)) same h

  load_ready : (m : Memory) (d : RegisterId) (o : Option Cell) → (given f o (λ c. loads f d c (m c))).trap ≡ None → IsThere o × IsFull m o
  load_ready m d o fine = let (c, at, rest) = given_there o (λ c. loads f d c (m c)) fine in (there o c at, full m o c at (loads_there d c (m c) rest))

  add_ready : (m : Memory) (o : Option Cell) (u : Option ℤ) → (given f o (λ c. given f u (λ z. adds_to f c z (m c)))).trap ≡ None → IsThere o × IsThere u × IsFull m o
  add_ready m o u fine =
      let (c, at, rest) = given_there o (λ c. given f u (λ z. adds_to f c z (m c))) fine in
      let (z, at2, rest2) = given_there u (λ z. adds_to f c z (m c)) rest in
      (there o c at, there u z at2, full m o c at (adds_there c z (m c) rest2))

  calls_there : (d : Option RegisterId) (callee : ℕ) (o : Option (List Value)) → NoTrap (calls f d callee o) → IsThere o
  calls_there d callee None fine = no_trap Undefined fine
  calls_there d callee (Some vs) fine = refl

  returns_there : (role : Role) (v : Option ℤ) → NoTrap (returns f role v) → role ≡ Body
  returns_there (Child r c) v fine = no_trap Unmatched fine
  returns_there Body v fine = refl

  value_there : (o : Option ℤ) → NoTrap (returns_value f o) → (f.role ≡ Body) × IsThere o
  value_there None fine = no_trap Undefined fine
  value_there (Some z) fine = (returns_there f.role (Some z) fine, refl)

  chosen : (a : Action) (b : Bool) → NoTrap (cond b a (traps Unmatched f)) → (b ≡ true) × NoTrap a
  chosen a true fine = (refl, fine)
  chosen a false fine = no_trap Unmatched fine

  reattaches_there : (region continuation : ℕ) (role : Role) → NoTrap (reattaches f region continuation role) → role ≡ Child region continuation
  reattaches_there region continuation Body fine = no_trap Unmatched fine
  reattaches_there region continuation (Child r c) fine =
      let (both, rest) = chosen (Reattach region) (eqb r region && eqb c continuation) fine in
      let parts = and_parts (eqb r region) (eqb c continuation) both in
      let one : r ≡ region = eqb-true r region parts.0 in
      let two : c ≡ continuation = eqb-true c continuation parts.1 in
      ap (λ n. Child n c) one ∙ ap (λ n. Child region n) two

  own_there : (p : Path) (a : Action) (o : Option Path) → NoTrap (if_own p f a o) → (o ≡ Some p) × NoTrap a
  own_there p a None fine = no_trap Undefined fine
  own_there p a (Some owner) fine = let (same, rest) = chosen a (same_path owner p) fine in (ap (λ (x : Path). Some x) (same_path_is owner p same), rest)

  syncs_there : (region target : ℕ) (o : Option Registers) → NoTrap (syncs f region target o) → IsThere o
  syncs_there region target None fine = no_trap Undefined fine
  syncs_there region target (Some r) fine = refl

module _ (prog : Program) (p : Path) (f : Frame) (m : Memory) where
  finds_all : (i : Instruction) → NoTrap (instruction_action prog p f m i) → FindsAll f m i
  finds_all (instruction.Binary d op w a b) fine = given_two f (word_at f.registers a) (word_at f.registers b) (λ x y. answers f d (binary op w x y)) fine
  finds_all (instruction.Compare d by w a b) fine = given_two f (word_at f.registers a) (word_at f.registers b) (λ x y. sets f d (Truth (compares by w x y))) fine
  finds_all (instruction.Convert d by a) fine = given_one f (word_at f.registers a) (λ x. sets f d (Word (converts by x))) fine
  finds_all (instruction.Alloca d a) fine = tt
  finds_all (instruction.ElementPointer d name i) fine = given_two f (object_at f name) (word_at f.registers i) (points f d (cells_of prog f.function name)) fine
  finds_all (instruction.Load d address) fine = load_ready f m d (cell_at f address) fine
  finds_all (instruction.Store a address) fine = given_two f (cell_at f address) (word_at f.registers a) (stores f) fine
  finds_all (instruction.StoreZeros cells name) fine = given_one f (object_at f name) (stores_zeros f cells) fine
  finds_all (instruction.AtomicAdd address a) fine = add_ready f m (cell_at f address) (word_at f.registers a) fine
  finds_all (instruction.Call d callee arguments) fine = calls_there f d callee.0 (argument_values f arguments) fine
  finds_all (instruction.StartRegion d) fine = tt

  jump_there : (target : ℕ) → (jumps prog f target).trap ≡ None → IsThere (registers_along prog f target)
  jump_there target fine = given_one f (registers_along prog f target) (enters f target) fine

  jumps_there : {A : Type 0} (o : Option A) (target : A → ℕ) → (given f o (λ a. jumps prog f (target a))).trap ≡ None → IsThere o × ((a : A) → o ≡ Some a → IsThere (registers_along prog f (target a)))
  jumps_there o target fine =
      let (a, at, rest) = given_there f o (λ a. jumps prog f (target a)) fine in
      (there o a at, λ x other. let same : a ≡ x = (let both : Some a ≡ Some x = sym at ∙ other in cc) in subst (λ y. IsThere (registers_along prog f (target y))) same (jump_there (target a) rest))

  may_end : (t : Terminator) → NoTrap (terminator_action prog p f t) → MayEnd prog p f t
  may_end (terminator.Jump target) fine = jump_there target.0 fine
  may_end (terminator.Branch test x y) fine = jumps_there (truth_of (f.registers test.0)) (λ b. cond b x.0 y.0) fine
  may_end (terminator.Switch w a default cases) fine = jumps_there (word_at f.registers a) (λ z. case_for z default.0 cases) fine
  may_end (terminator.Return None) fine = returns_there f f.role None fine
  may_end (terminator.Return (Some a)) fine = value_there f (word_at f.registers a) fine
  may_end (terminator.Detach region body continuation) fine = (own_there f p (Detach region.0 body.0 continuation.0) (region_of (f.registers region.0)) fine).0
  may_end (terminator.Reattach region continuation) fine = reattaches_there f region.0 continuation.0 f.role fine
  may_end (terminator.Sync region target) fine =
      let (own, rest) = own_there f p (syncs f region.0 target.0 (registers_along prog f target.0)) (region_of (f.registers region.0)) fine in
      (own, syncs_there f region.0 target.0 (registers_along prog f target.0) rest)

  pub ready : NoTrap (action_of prog p f m) → IsReady prog p f m
  ready fine = from (item_at prog f.function f.block f.index) refl fine
    where
      from : (o : Option Item) → item_at prog f.function f.block f.index ≡ o → NoTrap (item_action prog p f m o) → IsReady prog p f m
      from None is h = no_trap Unmatched h
      from (Some (Does i)) is h = (Does i, is, finds_all i h)
      from (Some (Ends t)) is h = (Ends t, is, may_end t h)
