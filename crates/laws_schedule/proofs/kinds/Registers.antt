-- What instructions leave in registers is of their kinds.
use Rattle.std.proofs.Common.{◌≡◌, ℕ, zero, suc, List, [], ◌∷◌, length, map, Option, Some, None, Bool, true, false, cond, eqb, inl, inr, refl, sym, ap, ◌∙◌, subst, arith, slice_get, ℤ}
use Rattle.std.specs.List.{All}
use Rattle.std.proofs.lemmas.Bool.Decides.{eqb_tells}
use Rattle.std.proofs.lemmas.List.Elements.{All-head, All-tail}
use Rattle.semantics.specs.Paths.{Path}
use Rattle.semantics.specs.Cells.{Object, Local, Cell, Memory}
use Rattle.semantics.specs.Arithmetic.{BadIndex, Answer, Gives, Traps, binary, compares, converts}
use Rattle.semantics.specs.Frames.{Value, Word, Truth, Pointer, Region, Registers, Frame, and_then, block_at, block_phis, phis_at, cells_of, word_of, set_register, word_at, object_at, first_cell, cell_at}
use Rattle.semantics.specs.Effect.{Effect, Action, Plain, Detach, Reattach, Sync, Call, Return, stops, sets, answers, given, points, loads, stores, stores_zeros, adds_to, phi_value, with_phis, registers_along, argument_value, argument_values, calls, instruction_action}
use Rattle.program.specs.Phis.{entry_for}
use Rattle.semantics.specs.State.{with_result}
use Rattle.semantics.proofs.Confluence.{one_result}
use Rattle.linear.specs.declared.form.RegisterId.{RegisterId}
use Rattle.syntax.specs.declared.operator.Width.{Width}
use Rattle.syntax.specs.declared.operator.Width.TheVariants.{Bits64, Bits32}
use Rattle.syntax.specs.declared.operator.Conversion.{Conversion}
use Rattle.syntax.specs.declared.operator.Conversion.TheVariants.{Truncate, SignExtend, ZeroExtend}
use Rattle.program.specs.declared.function.Block.{Block}
use Rattle.program.specs.declared.function.Function.{Function}
use Rattle.program.specs.declared.function.Parameter.{Parameter}
use Rattle.program.specs.declared.function.Parameter.TheVariants as parameter
use Rattle.program.specs.declared.function.Program.{Program}
use Rattle.program.specs.declared.function.RegisterKind.{RegisterKind}
use Rattle.program.specs.declared.function.RegisterKind.TheVariants as kind
use Rattle.program.specs.declared.instruction.Argument.{Argument}
use Rattle.program.specs.declared.instruction.Argument.TheVariants as argument
use Rattle.program.specs.declared.instruction.Instruction.{Instruction}
use Rattle.program.specs.declared.instruction.Instruction.TheVariants as instruction
use Rattle.program.specs.declared.instruction.Operand.{Operand}
use Rattle.program.specs.declared.instruction.Operand.TheVariants as operand
use Rattle.program.specs.declared.instruction.Phi.{Phi}
use Rattle.program.specs.declared.instruction.PhiEntry.{PhiEntry}
use Rattle.types.specs.names.Operand.{fits_width}
use Rattle.types.specs.names.Layout.{target_width}
use Rattle.laws_schedule.specs.typing.Kinds.{IsOfKind, IsNumber, IsResult, IsKinded, IsKindedPhi, IsPassed, parameter_kind, HasKinds}
use Rattle.laws_schedule.specs.kinds.Holding.{is_of_width, is_of_kind, holds_kind, HoldKinds}
use Rattle.laws_schedule.proofs.kinds.Widths.{given_width, truncated_width}

-- ---- numbers that are read

text_width : (w : Width) (z : ℤ) → fits_width w z ≡ true → is_of_width w z ≡ true
text_width Bits64 z e = refl
text_width Bits32 z e = e

word_width : (w : Width) (o : Option Value) (z : ℤ) → holds_kind (kind.Number w) o ≡ true → word_of o ≡ Some z → is_of_width w z ≡ true
word_width w None z h e = absurd (cc)
word_width w (Some (Word n)) z h e = let same : n ≡ z = cc in subst (λ (x : ℤ). is_of_width w x ≡ true) same h
word_width w (Some (Truth b)) z h e = absurd (cc)
word_width w (Some (Pointer c)) z h e = absurd (cc)
word_width w (Some (Region p)) z h e = absurd (cc)

pub number_width : (kinds : List RegisterKind) (r : Registers) (w : Width) (a : Operand) (z : ℤ) → HoldKinds kinds r → IsNumber kinds w a → word_at r a ≡ Some z → is_of_width w z ≡ true
number_width kinds r w (operand.Number n) z holds is e = let same : n ≡ z = cc in subst (λ (x : ℤ). is_of_width w x ≡ true) same (text_width w n is)
number_width kinds r w (operand.Register x) z holds is e = word_width w (r x.0) z (holds x.0 (kind.Number w) is) e

-- ---- registers that are set

pub set_holds : (kinds : List RegisterKind) (r : Registers) (d : RegisterId) (v : Value) (k : RegisterKind) → HoldKinds kinds r → IsOfKind kinds d.0 k → is_of_kind k v ≡ true → HoldKinds kinds (set_register r d v)
set_holds kinds r d v k holds is good x other at = elim (eqb_tells d.0 x) [
  | inl e ↦
      let same : k ≡ other = one_result (slice_get kinds x) k other (subst (λ n. slice_get kinds n ≡ Some k) e.1 is) at in
      rw e.0 (subst (λ (y : RegisterKind). is_of_kind y v ≡ true) same good)
  | inr e ↦ rw e.0 (holds x other at)
]

-- a result goes into a register for a number
pub resulted : (kinds : List RegisterKind) (r : Registers) (d : Option RegisterId) (v : Option ℤ) → HoldKinds kinds r → IsResult kinds d → HoldKinds kinds (with_result r d v)
resulted kinds r None v holds is = holds
resulted kinds r (Some d) None holds is = holds
resulted kinds r (Some d) (Some z) holds is = set_holds kinds r d (Word z) (kind.Number Bits64) holds is refl

-- ---- instructions

module _ (kinds : List RegisterKind) (f : Frame) (holds : HoldKinds kinds f.registers) where
  abbrev Good : Effect → Type 0
  Good e = HoldKinds kinds e.registers

  abbrev pub OfAction : Action → Type 0
  OfAction (Plain e) = HoldKinds kinds e.registers
  OfAction (Detach r b k) = Unit {0}
  OfAction (Reattach r) = Unit {0}
  OfAction (Sync r b rs) = Unit {0}
  OfAction (Call d g vs) = Unit {0}
  OfAction (Return v) = Unit {0}

  given_good : {A : Type 0} (o : Option A) (next : A → Effect) → ((a : A) → o ≡ Some a → Good (next a)) → Good (given f o next)
  given_good None next h = holds
  given_good (Some a) next h = h a refl

  sets_good : (d : RegisterId) (v : Value) (k : RegisterKind) → IsOfKind kinds d.0 k → is_of_kind k v ≡ true → Good (sets f d v)
  sets_good d v k is good = set_holds kinds f.registers d v k holds is good

  answers_good : (d : RegisterId) (w : Width) (a : Answer) → IsOfKind kinds d.0 (kind.Number w) → ((z : ℤ) → a ≡ Gives z → is_of_width w z ≡ true) → Good (answers f d a)
  answers_good d w (Gives z) is h = sets_good d (Word z) (kind.Number w) is (h z refl)
  answers_good d w (Traps t) is h = holds

  chosen_good : (d : RegisterId) (c : Cell) (b : Bool) → IsOfKind kinds d.0 kind.Element → Good (cond b (sets f d (Pointer c)) (stops BadIndex f))
  chosen_good d c true is = sets_good d (Pointer c) kind.Element is refl
  chosen_good d c false is = holds

  loads_good : (d : RegisterId) (c : Cell) (o : Option ℤ) → IsOfKind kinds d.0 (kind.Number Bits64) → Good (loads f d c o)
  loads_good d c None is = holds
  loads_good d c (Some z) is = sets_good d (Word z) (kind.Number Bits64) is refl

  adds_good : (c : Cell) (z : ℤ) (o : Option ℤ) → Good (adds_to f c z o)
  adds_good c z None = holds
  adds_good c z (Some old) = holds

  calls_good : (d : Option RegisterId) (g : ℕ) (o : Option (List Value)) → OfAction (calls f d g o)
  calls_good d g None = holds
  calls_good d g (Some vs) = tt

  converted : (by : Conversion) (x : ℤ) → is_of_width (target_width by) (converts by x) ≡ true
  converted Truncate x = truncated_width x
  converted SignExtend x = refl
  converted ZeroExtend x = refl

  pub by_instruction : (prog : Program) (p : Path) (m : Memory) (i : Instruction) → IsKinded kinds i → OfAction (instruction_action prog p f m i)
  by_instruction prog p m (instruction.Binary d op w a b) is =
      given_good (word_at f.registers a) _ (λ x first. given_good (word_at f.registers b) _ (λ y second.
      answers_good d w (binary op w x y) is.0 (λ z e. given_width op w x y z (number_width kinds f.registers w a x holds is.1 first) e)))
  by_instruction prog p m (instruction.Compare d by w a b) is =
      given_good (word_at f.registers a) _ (λ x first. given_good (word_at f.registers b) _ (λ y second. sets_good d (Truth (compares by w x y)) kind.Truth is.0 refl))
  by_instruction prog p m (instruction.Convert d by a) is = given_good (word_at f.registers a) _ (λ x first. sets_good d (Word (converts by x)) (kind.Number (target_width by)) is.0 (converted by x))
  by_instruction prog p m (instruction.Alloca d a) is = sets_good d (Pointer (first_cell (Local f.home a.0))) kind.Object is refl
  by_instruction prog p m (instruction.ElementPointer d name i) is =
      given_good (object_at f name) _ (λ o first. given_good (word_at f.registers i) (points f d (cells_of prog f.function name) o) (λ z second. chosen_good d _ _ is.0))
  by_instruction prog p m (instruction.Load d at) is = given_good (cell_at f at) _ (λ c first. loads_good d c (m c) is)
  by_instruction prog p m (instruction.Store a at) is = given_good (cell_at f at) _ (λ c first. given_good (word_at f.registers a) (stores f c) (λ z second. holds))
  by_instruction prog p m (instruction.StoreZeros cells name) is = given_good (object_at f name) (stores_zeros f cells) (λ o first. holds)
  by_instruction prog p m (instruction.AtomicAdd at a) is = given_good (cell_at f at) _ (λ c first. given_good (word_at f.registers a) _ (λ z second. adds_good c z (m c)))
  by_instruction prog p m (instruction.Call d g arguments) is = calls_good d g.0 (argument_values f arguments)
  by_instruction prog p m (instruction.StartRegion d) is = sets_good d (Region p) kind.Region is refl

-- ---- along an edge

pub entry_kinded : (kinds : List RegisterKind) (w : Width) (from : ℕ) (entries : List PhiEntry) (a : Operand) → All (λ (e : PhiEntry). IsNumber kinds w e.value) entries → entry_for from entries ≡ Some a → IsNumber kinds w a
entry_kinded kinds w from [] a all is = absurd (cc)
entry_kinded kinds w from (e ∷ entries) a all is = by (eqb e.predecessor.0 from) is (λ h. entry_kinded kinds w from entries a (All-tail (λ (x : PhiEntry). IsNumber kinds w x.value) e entries all) h)
  where
    by : (b : Bool) → cond b (Some e.value) (entry_for from entries) ≡ Some a → (entry_for from entries ≡ Some a → IsNumber kinds w a) → IsNumber kinds w a
    by true h rest = let same : e.value ≡ a = cc in subst (λ (x : Operand). IsNumber kinds w x) same (All-head (λ (x : PhiEntry). IsNumber kinds w x.value) e entries all)
    by false h rest = rest h

phi_width : (kinds : List RegisterKind) (before : Registers) (from : ℕ) (phi : Phi) (z : ℤ) → HoldKinds kinds before → IsKindedPhi kinds phi → phi_value before from phi ≡ Some z → is_of_width phi.width z ≡ true
phi_width kinds before from phi z holds is e = by (entry_for from phi.entries) refl e
  where
    by : (o : Option Operand) → entry_for from phi.entries ≡ o → and_then o (word_at before) ≡ Some z → is_of_width phi.width z ≡ true
    by None at h = absurd (cc)
    by (Some a) at h = number_width kinds before phi.width a z holds (entry_kinded kinds phi.width from phi.entries a is.entries at) h

phis_hold : (kinds : List RegisterKind) (before : Registers) (from : ℕ) (phis : List Phi) (r s : Registers) → HoldKinds kinds before → ((i : ℕ) (phi : Phi) → slice_get phis i ≡ Some phi → IsKindedPhi kinds phi) → HoldKinds kinds r →
    with_phis before from phis r ≡ Some s → HoldKinds kinds s
phis_hold kinds before from [] r s holds each now e = let same : r ≡ s = cc in subst (λ (x : Registers). HoldKinds kinds x) same now
phis_hold kinds before from (phi ∷ phis) r s holds each now e =
    by (phi_value before from phi) refl e (λ z k h. phis_hold kinds before from phis (set_register r phi.register (Word z)) s holds (λ i x there. each (suc i) x there) k h)
  where
    by : (o : Option ℤ) → phi_value before from phi ≡ o → and_then o (λ z. with_phis before from phis (set_register r phi.register (Word z))) ≡ Some s →
        ((z : ℤ) → HoldKinds kinds (set_register r phi.register (Word z)) → with_phis before from phis (set_register r phi.register (Word z)) ≡ Some s → HoldKinds kinds s) → HoldKinds kinds s
    by None at h rest = absurd (cc)
    by (Some z) at h rest =
        let is : IsKindedPhi kinds phi = each 0 phi refl in
        rest z (set_holds kinds r phi.register (Word z) (kind.Number phi.width) now is.register (phi_width kinds before from phi z holds is at)) h

pub phi_kinded : (prog : Program) (kinds : HasKinds prog) (g b i : ℕ) (function : Function) (phi : Phi) → slice_get prog.functions g ≡ Some function → slice_get (phis_at prog g b) i ≡ Some phi → IsKindedPhi function.registers phi
phi_kinded prog kinds g b i function phi at there = by (slice_get function.blocks b) refl (subst (λ (o : Option Block). slice_get (block_phis o) i ≡ Some phi) read there)
  where
    read : block_at prog g b ≡ slice_get function.blocks b
    read = rw at refl

    by : (o : Option Block) → slice_get function.blocks b ≡ o → slice_get (block_phis o) i ≡ Some phi → IsKindedPhi function.registers phi
    by None is h = absurd (cc)
    by (Some block) is h = kinds.phis g b i function block phi at is h

pub along_holds : (prog : Program) → HasKinds prog → (f : Frame) (function : Function) (target : ℕ) (rs : Registers) → slice_get prog.functions f.function ≡ Some function → HoldKinds function.registers f.registers → registers_along prog f target ≡ Some rs → HoldKinds function.registers rs
along_holds prog kinds f function target rs at holds e =
    phis_hold function.registers f.registers f.block (phis_at prog f.function target) f.registers rs holds (λ i phi there. phi_kinded prog kinds f.function target i function phi at there) holds e

-- ---- into a call

abbrev OfArgument : Frame → List Argument → List Value → ℕ → Value → Type 0
OfArgument f arguments vs x v = argument_values f arguments ≡ Some vs → slice_get vs x ≡ Some v → (one : Argument) × (slice_get arguments x ≡ Some one) × (argument_value f one ≡ Some v)

-- a value that is passed is that of the argument at its place
pub argument_at : (f : Frame) (arguments : List Argument) (vs : List Value) (x : ℕ) (v : Value) → argument_values f arguments ≡ Some vs → slice_get vs x ≡ Some v → (one : Argument) × (slice_get arguments x ≡ Some one) × (argument_value f one ≡ Some v)
argument_at f [] vs x v e at = absurd (let same : [] ≡ vs = cc in let none : slice_get [] x ≡ Some v = subst (λ (us : List Value). slice_get us x ≡ Some v) (sym same) at in cc)
argument_at f (a ∷ more) vs x v e at = by (argument_value f a) refl e (λ us y rest h. argument_at f more us y v rest h)
  where
    place : (u : Value) (us : List Value) (y : ℕ) → argument_value f a ≡ Some u → argument_values f more ≡ Some us → slice_get (u ∷ us) y ≡ Some v → ((ws : List Value) (z : ℕ) → OfArgument f more ws z v) → (one : Argument) × (slice_get (a ∷ more) y ≡ Some one) × (argument_value f one ≡ Some v)
    place u us zero is others h rest = let same : u ≡ v = cc in (a, refl, is ∙ ap (λ (w : Value). Some w) same)
    place u us (suc y) is others h rest = rest us y others h

    by_rest : (u : Value) (o : Option (List Value)) → argument_value f a ≡ Some u → argument_values f more ≡ o → and_then o (λ us. Some (u ∷ us)) ≡ Some vs → ((ws : List Value) (z : ℕ) → OfArgument f more ws z v) → (one : Argument) × (slice_get (a ∷ more) x ≡ Some one) × (argument_value f one ≡ Some v)
    by_rest u None is others h rest = absurd (cc)
    by_rest u (Some us) is others h rest = let same : u ∷ us ≡ vs = cc in place u us x is others (subst (λ (ws : List Value). slice_get ws x ≡ Some v) (sym same) at) rest

    by : (o : Option Value) → argument_value f a ≡ o → and_then o (λ u. and_then (argument_values f more) (λ us. Some (u ∷ us))) ≡ Some vs → ((ws : List Value) (z : ℕ) → OfArgument f more ws z v) → (one : Argument) × (slice_get (a ∷ more) x ≡ Some one) × (argument_value f one ≡ Some v)
    by None is h rest = absurd (cc)
    by (Some u) is h rest = by_rest u (argument_values f more) is refl h rest

-- a number is passed for a number, an object for a pointer
passed_kind : (f : Frame) (wanted : Parameter) (one : Argument) (v : Value) → IsPassed wanted one → argument_value f one ≡ Some v → is_of_kind (parameter_kind wanted) v ≡ true
passed_kind f parameter.Number (argument.Object name) v p e = absurd p
passed_kind f (parameter.Pointer cells) (argument.Number a) v p e = absurd p
passed_kind f parameter.Number (argument.Number a) v p e = by (word_at f.registers a) e
  where
    by : (o : Option ℤ) → and_then o (λ z. Some (Word z)) ≡ Some v → is_of_kind (kind.Number Bits64) v ≡ true
    by None h = absurd (cc)
    by (Some z) h = let same : Word z ≡ v = cc in subst (λ (w : Value). is_of_kind (kind.Number Bits64) w ≡ true) same refl
passed_kind f (parameter.Pointer cells) (argument.Object name) v p e = by (object_at f name) e
  where
    by : (o : Option Object) → and_then o (λ x. Some (Pointer (first_cell x))) ≡ Some v → is_of_kind kind.Object v ≡ true
    by None h = absurd (cc)
    by (Some o) h = let same : Pointer (first_cell o) ≡ v = cc in subst (λ (w : Value). is_of_kind kind.Object w ≡ true) same refl

there : {A : Type 0} {B : Type 0} (xs : List A) (ys : List B) (i : ℕ) (x : A) → length xs ≡ length ys → slice_get xs i ≡ Some x → (y : B) × (slice_get ys i ≡ Some y)
there [] ys i x same at = absurd (cc)
there (a ∷ xs) [] i x same at = absurd (omega (arith, same))
there (a ∷ xs) (b ∷ ys) zero x same at = (b, refl)
there (a ∷ xs) (b ∷ ys) (suc i) x same at = there xs ys i x (omega (arith, same)) at

-- the values that are passed are of the kinds of the callee's parameters
pub passed_hold : (f : Frame) (callee : Function) (arguments : List Argument) (vs : List Value) → length arguments ≡ length callee.parameters → argument_values f arguments ≡ Some vs →
    ((i : ℕ) (one : Parameter) → slice_get callee.parameters i ≡ Some one → IsOfKind callee.registers i (parameter_kind one)) →
    ((i : ℕ) (one : Argument) (wanted : Parameter) → slice_get arguments i ≡ Some one → slice_get callee.parameters i ≡ Some wanted → IsPassed wanted one) → HoldKinds callee.registers (slice_get vs)
passed_hold f callee arguments vs many values kinds passes x k at = by (slice_get vs x) refl
  where
    by : (o : Option Value) → slice_get vs x ≡ o → holds_kind k o ≡ true
    by None is = refl
    by (Some v) is =
        let a = argument_at f arguments vs x v values is in
        let w = there arguments callee.parameters x a.0 many a.1 in
        let same : parameter_kind w.0 ≡ k = one_result (slice_get callee.registers x) (parameter_kind w.0) k (kinds x w.0 w.1) at in
        subst (λ (y : RegisterKind). is_of_kind y v ≡ true) same (passed_kind f w.0 a.0 v (passes x a.0 w.0 a.1 w.1) a.2)

-- ---- at the start

pub numbers_hold : (function : Function) (arguments : List ℤ) → length arguments ≡ length function.parameters → All (λ one. one ≡ parameter.Number) function.parameters →
    ((i : ℕ) (one : Parameter) → slice_get function.parameters i ≡ Some one → IsOfKind function.registers i (parameter_kind one)) → HoldKinds function.registers (slice_get (map (λ z. Word z) arguments))
numbers_hold function arguments many all kinds x k at = by arguments function.parameters x many all (λ one e. kinds x one e)
  where
    by : (zs : List ℤ) (parameters : List Parameter) (i : ℕ) → length zs ≡ length parameters → All (λ one. one ≡ parameter.Number) parameters → ((one : Parameter) → slice_get parameters i ≡ Some one → IsOfKind function.registers x (parameter_kind one)) →
        holds_kind k (slice_get (map (λ z. Word z) zs) i) ≡ true
    by [] parameters i same each is = refl
    by (z ∷ zs) [] i same each is = absurd (omega (arith, same))
    by (z ∷ zs) (one ∷ parameters) zero same each is =
        let number : one ≡ parameter.Number = All-head (λ (y : Parameter). y ≡ parameter.Number) one parameters each in
        let wide : IsOfKind function.registers x (kind.Number Bits64) = subst (λ (y : Parameter). IsOfKind function.registers x (parameter_kind y)) number (is one refl) in
        subst (λ (y : RegisterKind). is_of_kind y (Word z) ≡ true) (one_result (slice_get function.registers x) (kind.Number Bits64) k wide at) refl
    by (z ∷ zs) (one ∷ parameters) (suc i) same each is = by zs parameters i (omega (arith, same)) (All-tail (λ (y : Parameter). y ≡ parameter.Number) one parameters each) is
