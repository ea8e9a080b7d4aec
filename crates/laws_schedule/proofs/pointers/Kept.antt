-- Plain instructions, edges and results leave parameters as they are.
use Rattle.std.proofs.Common.{◌≡◌, ℕ, suc, ◌<◌, ◌≤◌, List, [], ◌∷◌, Option, Some, None, Bool, true, false, cond, refl, ◌∙◌, subst, arith, eqb, eqb-true, ℤ, pos, ◌&&◌}
use Rattle.std.specs.Prelude.{slice_get, int_le, int_lt}
use Rattle.linear.specs.declared.form.RegisterId.{RegisterId}
use Rattle.semantics.specs.Paths.{Path, same_path}
use Rattle.semantics.specs.Cells.{Object, Local, Cell, Memory}
use Rattle.semantics.specs.Arithmetic.{Unmatched, Answer, Gives, Traps, binary, compares, converts}
use Rattle.semantics.specs.Frames.{Value, Word, Truth, Pointer, Region, Registers, Role, Child, Body, Frame, and_then, Item, Does, Ends, item_of, block_at, item_at, block_phis, phis_at, cells_of, truth_of, region_of, set_register, word_at, object_at, first_cell, cell_at}
use Rattle.semantics.specs.Effect.{Effect, Action, Plain, Detach, Reattach, Sync, Call, Return, sets, answers, given, points, loads, adds_to, phi_value, with_phis, registers_along, enters, jumps, case_for, traps, if_own, syncs, reattaches, argument_values, calls, returns, returns_value, instruction_action, terminator_action, item_action, action_of}
use Rattle.program.specs.declared.function.Block.{Block}
use Rattle.program.specs.declared.function.Function.{Function}
use Rattle.program.specs.declared.function.Program.{Program}
use Rattle.program.specs.declared.identifier.FunctionId.{FunctionId}
use Rattle.program.specs.declared.instruction.Argument.{Argument}
use Rattle.program.specs.declared.instruction.Instruction.{Instruction}
use Rattle.program.specs.declared.instruction.Instruction.TheVariants as instruction
use Rattle.program.specs.declared.instruction.Phi.{Phi}
use Rattle.program.specs.declared.instruction.Terminator.{Terminator}
use Rattle.program.specs.declared.instruction.Terminator.TheVariants as terminator
use Rattle.types.specs.Apart.{IsBlockAt, IsInstructionAt, parameters_at}
use Rattle.types.specs.Definitions.{IsFrom, DefinesFrom, KeepsParameters}
use Rattle.laws_phases.proofs.defined.Items.{step_there}

-- the first n registers are the same
abbrev pub Agrees : ℕ → Registers → Registers → Type 0
Agrees n before after = (x : ℕ) → x < n → after x ≡ before x

set_other : (r : Registers) (d : RegisterId) (v : Value) (x : ℕ) (b : Bool) → eqb d.0 x ≡ b → (d.0 ≡ x → ⊥) → cond b (Some v) (r x) ≡ r x
set_other r d v x true e ne = absurd (ne (eqb-true d.0 x e))
set_other r d v x false e ne = refl

pub agrees_set : (n : ℕ) (r s : Registers) (d : RegisterId) (v : Value) → Agrees n r s → n ≤ d.0 → Agrees n r (set_register s d v)
agrees_set n r s d v h l x w = set_other s d v x (eqb d.0 x) refl (λ e. omega arith) ∙ h x w

module _ (n : ℕ) (f : Frame) where
  abbrev Quiet : Effect → Type 0
  Quiet e = Agrees n f.registers e.registers

  same : Agrees n f.registers f.registers
  same x w = refl

  given_quiet : {A : Type 0} (o : Option A) (next : A → Effect) → ((a : A) → Quiet (next a)) → Quiet (given f o next)
  given_quiet None next h = same
  given_quiet (Some a) next h = h a

  sets_quiet : (d : RegisterId) (v : Value) → n ≤ d.0 → Quiet (sets f d v)
  sets_quiet d v l = agrees_set n f.registers f.registers d v same l

  answers_quiet : (d : RegisterId) (a : Answer) → n ≤ d.0 → Quiet (answers f d a)
  answers_quiet d (Gives z) l = sets_quiet d (Word z) l
  answers_quiet d (Traps t) l = same

  chosen_quiet : (b : Bool) (x y : Effect) → Quiet x → Quiet y → Quiet (cond b x y)
  chosen_quiet true x y h k = h
  chosen_quiet false x y h k = k

  points_quiet : (d : RegisterId) (cells : ℕ) (o : Object) (i : ℤ) → n ≤ d.0 → Quiet (points f d cells o i)
  points_quiet d cells o i l = chosen_quiet (int_le (pos 0) i && int_lt i (pos cells)) _ _ (sets_quiet d _ l) same

  loads_quiet : (d : RegisterId) (c : Cell) (o : Option ℤ) → n ≤ d.0 → Quiet (loads f d c o)
  loads_quiet d c None l = same
  loads_quiet d c (Some z) l = sets_quiet d (Word z) l

  adds_quiet : (c : Cell) (z : ℤ) (o : Option ℤ) → Quiet (adds_to f c z o)
  adds_quiet c z None = same
  adds_quiet c z (Some old) = same

  with_value : (before : Registers) (phi : Phi) (r s : Registers) → Agrees n before r → n ≤ phi.register.0 → (rest : Registers → Option Registers) →
      ((t : Registers) → Agrees n before t → rest t ≡ Some s → Agrees n before s) →
      (o : Option ℤ) → and_then o (λ z. rest (set_register r phi.register (Word z))) ≡ Some s → Agrees n before s
  with_value before phi r s h l rest then None k = absurd (cc)
  with_value before phi r s h l rest then (Some z) k = then (set_register r phi.register (Word z)) (agrees_set n before r phi.register (Word z) h l) k

  -- all phis at once
  phis_agree : (before : Registers) (from : ℕ) (phis : List Phi) (r s : Registers) → ((i : ℕ) (phi : Phi) → slice_get phis i ≡ Some phi → n ≤ phi.register.0) →
      Agrees n before r → with_phis before from phis r ≡ Some s → Agrees n before s
  phis_agree before from [] r s above h e = let same_registers : r ≡ s = cc in subst (λ (t : Registers). Agrees n before t) same_registers h
  phis_agree before from (phi ∷ phis) r s above h e =
      with_value before phi r s h (above 0 phi refl) (λ t. with_phis before from phis t)
      (λ t agrees k. phis_agree before from phis t s (λ i other at. above (suc i) other at) agrees k) (phi_value before from phi) e

-- ---- by what stands at a place

-- the call that a frame makes
pub record CallIs (prog : Program) (f : Frame) (d : Option RegisterId) (callee : ℕ) (values : List Value) : Type 0 where
  pub id : FunctionId
  pub arguments : List Argument
  pub at : IsInstructionAt prog.functions f.function f.block f.index (instruction.Call d id arguments)
  pub callee_is : id.0 ≡ callee
  pub values_are : argument_values f arguments ≡ Some values
  pub result_above : IsFrom (parameters_at prog.functions f.function) d

-- what follows of an action: the first n registers stay, or which call it is
abbrev pub Passes : Program → Frame → Action → Type 0
Passes prog f (Plain e) = Agrees (parameters_at prog.functions f.function) f.registers e.registers
Passes prog f (Sync region block r) = Agrees (parameters_at prog.functions f.function) f.registers r
Passes prog f (Call d callee values) = CallIs prog f d callee values
Passes prog f (Detach region body next) = Unit {0}
Passes prog f (Reattach region) = Unit {0}
Passes prog f (Return result) = Unit {0}

module _ (prog : Program) (p : Path) (f : Frame) (m : Memory) where
  abbrev count : ℕ
  count = parameters_at prog.functions f.function

  calls_pass : (d : Option RegisterId) (callee : ℕ) (o : Option (List Value)) → ((values : List Value) → o ≡ Some values → CallIs prog f d callee values) → Passes prog f (calls f d callee o)
  calls_pass d callee None h = same count f
  calls_pass d callee (Some values) h = h values refl

  pub instruction_passes : (what : Instruction) → DefinesFrom count what → IsInstructionAt prog.functions f.function f.block f.index what → Passes prog f (instruction_action prog p f m what)
  instruction_passes (instruction.Binary d op w a b) h at = given_quiet count f (word_at f.registers a) _ (λ x. given_quiet count f (word_at f.registers b) _ (λ y. answers_quiet count f d (binary op w x y) h))
  instruction_passes (instruction.Compare d by w a b) h at = given_quiet count f (word_at f.registers a) _ (λ x. given_quiet count f (word_at f.registers b) _ (λ y. sets_quiet count f d (Truth (compares by w x y)) h))
  instruction_passes (instruction.Convert d by a) h at = given_quiet count f (word_at f.registers a) _ (λ x. sets_quiet count f d (Word (converts by x)) h)
  instruction_passes (instruction.Alloca d a) h at = sets_quiet count f d (Pointer (first_cell (Local f.home a.0))) h
  instruction_passes (instruction.ElementPointer d name i) h at = given_quiet count f (object_at f name) _ (λ o. given_quiet count f (word_at f.registers i) _ (λ z. points_quiet count f d (cells_of prog f.function name) o z h))
  instruction_passes (instruction.Load d address) h at = given_quiet count f (cell_at f address) _ (λ c. loads_quiet count f d c (m c) h)
  instruction_passes (instruction.Store a address) h at = given_quiet count f (cell_at f address) _ (λ c. given_quiet count f (word_at f.registers a) _ (λ z. same count f))
  instruction_passes (instruction.StoreZeros cells name) h at = given_quiet count f (object_at f name) _ (λ o. same count f)
  instruction_passes (instruction.AtomicAdd address a) h at = given_quiet count f (cell_at f address) _ (λ c. given_quiet count f (word_at f.registers a) _ (λ z. adds_quiet count f c z (m c)))
  instruction_passes (instruction.Call d callee arguments) h at = calls_pass d callee.0 (argument_values f arguments)
      (λ values e. record { id = callee; arguments = arguments; at = at; callee_is = refl; values_are = e; result_above = h })
  instruction_passes (instruction.StartRegion d) h at = sets_quiet count f d (Region p) h

  -- phis of a block of the function define no parameter
  abbrev PhisAbove : Type 0
  PhisAbove = (target : ℕ) (i : ℕ) (phi : Phi) → slice_get (phis_at prog f.function target) i ≡ Some phi → count ≤ phi.register.0

  module _ (above : PhisAbove) where
    along_agrees : (target : ℕ) (r : Registers) → registers_along prog f target ≡ Some r → Agrees count f.registers r
    along_agrees target r e = phis_agree count f f.registers f.block (phis_at prog f.function target) f.registers r (above target) (same count f) e

    jump_passes : (target : ℕ) → Agrees count f.registers (jumps prog f target).registers
    jump_passes target = from (registers_along prog f target) refl
      where
        from : (o : Option Registers) → registers_along prog f target ≡ o → Agrees count f.registers (given f o (enters f target)).registers
        from None e = same count f
        from (Some r) e = along_agrees target r e

    own_passes : (a : Action) (o : Option Path) → Passes prog f a → Passes prog f (if_own p f a o)
    own_passes a None h = same count f
    own_passes a (Some owner) h = from (same_path owner p)
      where
        from : (b : Bool) → Passes prog f (cond b a (traps Unmatched f))
        from true = h
        from false = same count f

    syncs_pass : (region target : ℕ) → Passes prog f (syncs f region target (registers_along prog f target))
    syncs_pass region target = from (registers_along prog f target) refl
      where
        from : (o : Option Registers) → registers_along prog f target ≡ o → Passes prog f (syncs f region target o)
        from None e = same count f
        from (Some r) e = along_agrees target r e

    returns_pass : (role : Role) (result : Option ℤ) → Passes prog f (returns f role result)
    returns_pass (Child r c) result = same count f
    returns_pass Body result = tt

    value_passes : (o : Option ℤ) → Passes prog f (returns_value f o)
    value_passes None = same count f
    value_passes (Some z) = returns_pass f.role (Some z)

    reattach_passes : (region continuation : ℕ) (role : Role) → Passes prog f (reattaches f region continuation role)
    reattach_passes region continuation Body = same count f
    reattach_passes region continuation (Child r c) = from (eqb r region && eqb c continuation)
      where
        from : (b : Bool) → Passes prog f (cond b (Reattach region) (traps Unmatched f))
        from true = tt
        from false = same count f

    pub terminator_passes : (what : Terminator) → Passes prog f (terminator_action prog p f what)
    terminator_passes (terminator.Jump target) = jump_passes target.0
    terminator_passes (terminator.Branch test when_true when_false) = given_quiet count f (truth_of (f.registers test.0)) _ (λ b. jump_passes (cond b when_true.0 when_false.0))
    terminator_passes (terminator.Switch w a default cases) = given_quiet count f (word_at f.registers a) _ (λ z. jump_passes (case_for z default.0 cases))
    terminator_passes (terminator.Return None) = returns_pass f.role None
    terminator_passes (terminator.Return (Some a)) = value_passes (word_at f.registers a)
    terminator_passes (terminator.Detach region body next) = own_passes (Detach region.0 body.0 next.0) (region_of (f.registers region.0)) tt
    terminator_passes (terminator.Reattach region next) = reattach_passes region.0 next.0 f.role
    terminator_passes (terminator.Sync region target) = own_passes (syncs f region.0 target.0 (registers_along prog f target.0)) (region_of (f.registers region.0)) (syncs_pass region.0 target.0)

-- ---- places

-- a block of the program
pub block_is : (prog : Program) (f b : ℕ) (block : Block) → block_at prog f b ≡ Some block → IsBlockAt prog.functions f b block
block_is prog f b block e = from (slice_get prog.functions f) refl e
  where
    from : (o : Option Function) → slice_get prog.functions f ≡ o → and_then o (λ (g : Function). slice_get g.blocks b) ≡ Some block → IsBlockAt prog.functions f b block
    from None is k = absurd (cc)
    from (Some function) is k = record { function = function; at_function = is; at_block = k }

pub instruction_is : (prog : Program) (f b s : ℕ) (what : Instruction) → item_at prog f b s ≡ Some (Does what) → IsInstructionAt prog.functions f b s what
instruction_is prog f b s what e = from (block_at prog f b) refl e
  where
    from : (o : Option Block) → block_at prog f b ≡ o → and_then o (λ (k : Block). item_of k.steps k.ending s) ≡ Some (Does what) → IsInstructionAt prog.functions f b s what
    from None is k = absurd (cc)
    from (Some block) is k =
        let found = step_there block.steps block.ending s what k in
        record { block = block; step = found.0; at_block = block_is prog f b block is; at_step = found.1; does = found.2 }

module _ (prog : Program) (keeps : KeepsParameters prog.functions) where
  phis_above : (f target i : ℕ) (phi : Phi) → slice_get (phis_at prog f target) i ≡ Some phi → parameters_at prog.functions f ≤ phi.register.0
  phis_above f target i phi e = from (block_at prog f target) refl e
    where
      from : (o : Option Block) → block_at prog f target ≡ o → slice_get (block_phis o) i ≡ Some phi → parameters_at prog.functions f ≤ phi.register.0
      from None is k = absurd (cc)
      from (Some block) is k = keeps.by_phis f target i block phi (block_is prog f target block is) k

  -- what a frame does next leaves its parameters as they are
  pub action_passes : (p : Path) (f : Frame) (m : Memory) → Passes prog f (action_of prog p f m)
  action_passes p f m = from (item_at prog f.function f.block f.index) refl
    where
      from : (o : Option Item) → item_at prog f.function f.block f.index ≡ o → Passes prog f (item_action prog p f m o)
      from None e = same (parameters_at prog.functions f.function) f
      from (Some (Does what)) e =
          let at = instruction_is prog f.function f.block f.index what e in
          instruction_passes prog p f m what (keeps.by_instructions f.function f.block f.index what at) at
      from (Some (Ends what)) e = terminator_passes prog p f m (phis_above f.function) what
