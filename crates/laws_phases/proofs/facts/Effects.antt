-- What the instructions of a block that do not trap make known is true behind them.
use Rattle.std.proofs.Common.{◌≡◌, ◌≢◌, ◌∙◌, ℕ, ℤ, true, eq-eqb, List, Option, Some, None, refl, sym, ap, subst}
use Rattle.std.specs.List.{All}
use Rattle.std.proofs.lemmas.Bool.{ne_eqb}
use Rattle.semantics.specs.Paths.{Path}
use Rattle.semantics.specs.Cells.{Memory}
use Rattle.semantics.specs.Arithmetic.{Undefined, Answer, Gives, Traps, fits, binary, compares, converts}
use Rattle.semantics.specs.Frames.{Value, Word, Truth, Registers, Frame, word_at, set_register}
use Rattle.semantics.specs.Effect.{Effect, Action, Plain, Detach, Reattach, Sync, Call, Return, sets, answers, argument_values, calls, instruction_action}
use Rattle.linear.specs.declared.form.Fact.{Fact}
use Rattle.linear.specs.declared.form.RegisterId.{RegisterId}
use Rattle.linear_shown.specs.Shown.{AllHold}
use Rattle.syntax.specs.declared.operator.Width.{Width}
use Rattle.syntax.specs.declared.operator.Width.TheVariants.{Bits32}
use Rattle.syntax.specs.declared.operator.BinaryOperator.{BinaryOperator}
use Rattle.syntax.specs.declared.operator.Conversion.{Conversion}
use Rattle.syntax.specs.declared.operator.Conversion.TheVariants.{Truncate, SignExtend, ZeroExtend}
use Rattle.program.specs.declared.identifier.FunctionId.{FunctionId}
use Rattle.program.specs.declared.function.Function.{Function}
use Rattle.program.specs.declared.function.Program.{Program}
use Rattle.program.specs.declared.instruction.Argument.{Argument}
use Rattle.program.specs.declared.instruction.Instruction.{Instruction}
use Rattle.program.specs.declared.instruction.Instruction.TheVariants as instruction
use Rattle.program.specs.declared.instruction.Operand.{Operand}
use Rattle.program.specs.declared.instruction.Operand.TheVariants.{Number, Register}
use Rattle.ranges.specs.Truth.{operand_value, IsTrueAt}
use Rattle.ranges.specs.Learned.{learned}
use Rattle.laws_conditions.specs.rules.Costs.{numbers}
use Rattle.laws_conditions.specs.rules.Moves.{dest_of}
use Rattle.laws_conditions.proofs.rules.Moves.{no_trap, given_case}
use Rattle.laws_phases.specs.facts.Known.{HoldsTest}
use Rattle.laws_phases.specs.facts.Owing.{IsOther, Avoids, FitsText, FitsConversion, FitsWidths}
use Rattle.laws_phases.proofs.facts.Sums.{word_value}
use Rattle.laws_phases.proofs.facts.Learning.{none_true, binary_true, extended_true, truncated_true, zeros_true}

-- ---- a register that is set

pub set_value : (r : Registers) (d : RegisterId) (z : ℤ) → operand_value (numbers (set_register r d (Word z))) (Register d) ≡ z
set_value r d z = rw (eq-eqb d.0 d.0 refl) refl

pub other_number : (r : Registers) (d : RegisterId) (u : Value) (x : ℕ) → x ≢ d.0 → numbers (set_register r d u) x ≡ numbers r x
other_number r d u x apart = rw (ne_eqb d.0 x (λ e. apart (sym e))) refl

pub other_value : (r : Registers) (d : RegisterId) (u : Value) (x : Operand) → IsOther d.0 x → operand_value (numbers (set_register r d u)) x ≡ operand_value (numbers r) x
other_value r d u (Number z) other = refl
other_value r d u (Register x) other = other_number r d u x.0 other

-- ---- behind an instruction

-- registers of which what the instruction makes known is true
pub record IsLearned (functions : List Function) (known : List Fact) (i : Instruction) (r : Registers) : Type 0 where
  pub sums : All (IsTrueAt (numbers r)) (learned functions known i)
  pub test : HoldsTest r i

abbrev OfAction : List Function → List Fact → Instruction → Action → Type 0
OfAction functions known i (Plain e) = e.trap ≡ None → IsLearned functions known i e.registers
OfAction functions known i (Call d callee values) = Unit {0}
OfAction functions known i (Detach r b k) = Unit {0}
OfAction functions known i (Reattach r) = Unit {0}
OfAction functions known i (Sync r b rs) = Unit {0}
OfAction functions known i (Return v) = Unit {0}

module _ (functions : List Function) (known : List Fact) (f : Frame) (all : AllHold (numbers f.registers) known) where
  abbrev Known : Instruction → Effect → Type 0
  Known i e = IsLearned functions known i e.registers

  answered : (d : RegisterId) (op : BinaryOperator) (w : Width) (a b : Operand) (x y : ℤ) → IsOther d.0 a → IsOther d.0 b → word_at f.registers a ≡ Some x → word_at f.registers b ≡ Some y → FitsText w b →
      (o : Answer) → binary op w x y ≡ o → (answers f d o).trap ≡ None → Known (instruction.Binary d op w a b) (answers f d o)
  answered d op w a b x y first second is_x is_y fit (Traps t) is fine = no_trap t fine
  answered d op w a b x y first second is_x is_y fit (Gives z) is fine =
      let v : ℕ → ℤ = numbers (set_register f.registers d (Word z)) in
      let x_is : operand_value v a ≡ x = other_value f.registers d (Word z) a first ∙ word_value f.registers a x is_x in
      let y_is : operand_value v b ≡ y = other_value f.registers d (Word z) b second ∙ word_value f.registers b y is_y in
      record {
        sums = binary_true v (numbers f.registers) known all op w (Register d) a b (sym (other_value f.registers d (Word z) a first)) fit
            (ap (λ n. binary op w n (operand_value v b)) x_is ∙ ap (λ n. binary op w x n) y_is ∙ is ∙ ap (λ n. Gives n) (sym (set_value f.registers d z)));
        test = tt;
      }

  converted : (d : RegisterId) (by : Conversion) (a : Operand) (x : ℤ) → IsOther d.0 a → word_at f.registers a ≡ Some x → FitsConversion f.registers by a → Known (instruction.Convert d by a) (sets f d (Word (converts by x)))
  converted d Truncate a x other is fit =
      let v : ℕ → ℤ = numbers (set_register f.registers d (Word (converts Truncate x))) in
      let x_is : operand_value v a ≡ x = other_value f.registers d (Word (converts Truncate x)) a other ∙ word_value f.registers a x is in
      record { sums = truncated_true v (numbers f.registers) known all (Register d) a (sym (other_value f.registers d (Word (converts Truncate x)) a other)) (set_value f.registers d (converts Truncate x) ∙ ap (λ n. converts Truncate n) (sym x_is)); test = tt }
  converted d SignExtend a x other is fit =
      let v : ℕ → ℤ = numbers (set_register f.registers d (Word x)) in
      let x_is : operand_value v a ≡ x = other_value f.registers d (Word x) a other ∙ word_value f.registers a x is in
      record { sums = extended_true v (numbers f.registers) known all (Register d) a (subst (λ n. fits Bits32 n ≡ true) (sym x_is) (fit x is)) (set_value f.registers d x ∙ sym x_is); test = tt }
  converted d ZeroExtend a x other is fit =
      let v : ℕ → ℤ = numbers (set_register f.registers d (Word (converts ZeroExtend x))) in
      let x_is : operand_value v a ≡ x = other_value f.registers d (Word (converts ZeroExtend x)) a other ∙ word_value f.registers a x is in
      record {
        sums = zeros_true v (numbers f.registers) known all (Register d) a (sym (other_value f.registers d (Word (converts ZeroExtend x)) a other)) (subst (λ n. fits Bits32 n ≡ true) (sym x_is) (fit x is))
            (set_value f.registers d (converts ZeroExtend x) ∙ ap (λ n. converts ZeroExtend n) (sym x_is));
        test = tt;
      }

  -- an instruction that makes nothing known
  idle : (i : Instruction) (a : Action) → ((r : Registers) → IsLearned functions known i r) → OfAction functions known i a
  idle i (Plain e) h = λ fine. h e.registers
  idle i (Call d callee values) h = tt
  idle i (Detach r b k) h = tt
  idle i (Reattach r) h = tt
  idle i (Sync r b rs) h = tt
  idle i (Return v) h = tt

  by_call : (d : Option RegisterId) (g : FunctionId) (arguments : List Argument) (o : Option (List Value)) → OfAction functions known (instruction.Call d g arguments) (calls f d g.0 o)
  by_call d g arguments None = λ fine. no_trap Undefined fine
  by_call d g arguments (Some values) = tt

  by_instruction : (prog : Program) (p : Path) (m : Memory) (i : Instruction) → ((d : ℕ) → dest_of i ≡ Some d → Avoids d i) → FitsWidths f.registers i → OfAction functions known i (instruction_action prog p f m i)
  by_instruction prog p m (instruction.Binary d op w a b) avoid fit = λ fine.
      given_case (Known (instruction.Binary d op w a b)) f (word_at f.registers a) _
      (λ x is fine2. given_case (Known (instruction.Binary d op w a b)) f (word_at f.registers b) _ (λ y is2 fine3. answered d op w a b x y (avoid d.0 refl).0 (avoid d.0 refl).1 is is2 fit (binary op w x y) refl fine3) fine2) fine
  by_instruction prog p m (instruction.Compare d by w a b) avoid fit = λ fine.
      given_case (Known (instruction.Compare d by w a b)) f (word_at f.registers a) _
      (λ x is fine2. given_case (Known (instruction.Compare d by w a b)) f (word_at f.registers b) _
      (λ y is2 fine3. record {
        sums = none_true (numbers (set_register f.registers d (Truth (compares by w x y))));
        test =
            let u : Value = Truth (compares by w x y) in
            let v : ℕ → ℤ = numbers (set_register f.registers d u) in
            let x_is : operand_value v a ≡ x = other_value f.registers d u a (avoid d.0 refl).0 ∙ word_value f.registers a x is in
            let y_is : operand_value v b ≡ y = other_value f.registers d u b (avoid d.0 refl).1 ∙ word_value f.registers b y is2 in
            set_here f.registers d u ∙ ap (λ n. Some (Truth (compares by w n y))) (sym x_is) ∙ ap (λ n. Some (Truth (compares by w (operand_value v a) n))) (sym y_is);
      }) fine2) fine
    where
      set_here : (r : Registers) (e : RegisterId) (u : Value) → set_register r e u e.0 ≡ Some u
      set_here r e u = rw (eq-eqb e.0 e.0 refl) refl
  by_instruction prog p m (instruction.Convert d by a) avoid fit = λ fine. given_case (Known (instruction.Convert d by a)) f (word_at f.registers a) _ (λ x is fine2. converted d by a x (avoid d.0 refl) is fit) fine
  by_instruction prog p m (instruction.Alloca d a) avoid fit = idle (instruction.Alloca d a) (instruction_action prog p f m (instruction.Alloca d a)) (λ r. record { sums = none_true (numbers r); test = tt })
  by_instruction prog p m (instruction.ElementPointer d name i) avoid fit = idle (instruction.ElementPointer d name i) (instruction_action prog p f m (instruction.ElementPointer d name i)) (λ r. record { sums = none_true (numbers r); test = tt })
  by_instruction prog p m (instruction.Load d address) avoid fit = idle (instruction.Load d address) (instruction_action prog p f m (instruction.Load d address)) (λ r. record { sums = none_true (numbers r); test = tt })
  by_instruction prog p m (instruction.Store a address) avoid fit = idle (instruction.Store a address) (instruction_action prog p f m (instruction.Store a address)) (λ r. record { sums = none_true (numbers r); test = tt })
  by_instruction prog p m (instruction.StoreZeros cells name) avoid fit = idle (instruction.StoreZeros cells name) (instruction_action prog p f m (instruction.StoreZeros cells name)) (λ r. record { sums = none_true (numbers r); test = tt })
  by_instruction prog p m (instruction.AtomicAdd address a) avoid fit = idle (instruction.AtomicAdd address a) (instruction_action prog p f m (instruction.AtomicAdd address a)) (λ r. record { sums = none_true (numbers r); test = tt })
  by_instruction prog p m (instruction.Call d g arguments) avoid fit = by_call d g arguments (argument_values f arguments)
  by_instruction prog p m (instruction.StartRegion d) avoid fit = idle (instruction.StartRegion d) (instruction_action prog p f m (instruction.StartRegion d)) (λ r. record { sums = none_true (numbers r); test = tt })

  -- a plain instruction that does not trap
  pub learned_here : (prog : Program) (p : Path) (m : Memory) (i : Instruction) (e : Effect) → ((d : ℕ) → dest_of i ≡ Some d → Avoids d i) → FitsWidths f.registers i → instruction_action prog p f m i ≡ Plain e → e.trap ≡ None → IsLearned functions known i e.registers
  learned_here prog p m i e avoid fit is fine = let h : OfAction functions known i (Plain e) = subst (λ a. OfAction functions known i a) is (by_instruction prog p m i avoid fit) in h fine
