-- The rules on cost give each frame of the serial run its budget, and a rank that falls.
use Rattle.std.proofs.Common.{◌≡◌, ◌≢◌, ℕ, zero, suc, ◌+◌, ◌*◌, ◌≤◌, ◌<◌, List, [], ◌∷◌, length, Option, Some, None, Bool, true, false, cond, eqb, ◌⊎◌, inl, inr, refl, sym, ap, ◌∙◌, subst, arith, slice_get, ℤ, pos, negsuc, ◌+ℤ◌, ◌-ℤ◌, ◌≤ℤ◌, ◌<ℤ◌}
use Rattle.std.specs.List.{All}
use Rattle.std.proofs.lemmas.Int.{ints}
use Rattle.std.proofs.lemmas.Nat.{mul-le}
use Rattle.std.proofs.Math.Nat.{add-mul, zero-mul, one-mul}
use Rattle.std.proofs.lemmas.Bool.Decides.{eqb_tells}
use Rattle.std.proofs.lemmas.List.Elements.{All-head, All-tail, All-weaker}
use Rattle.semantics.specs.Paths.{Path}
use Rattle.semantics.specs.Cells.{Memory}
use Rattle.semantics.specs.Written.{or_zero}
use Rattle.semantics.specs.Frames.{Value, Word, Registers, Frame, Does, item_of, item_at, block_at, phis_at, word_of, set_register, and_then}
use Rattle.semantics.specs.Effect.{Effect, Plain, Detach, Sync, Call, phi_value, with_phis, registers_along, action_of}
use Rattle.semantics.specs.State.{went, detached, continued, synced, called, waiting, resumed, with_result}
use Rattle.laws_conditions.specs.theorem.SerialConditions.{Says, Finds, KeptSerially, Below, RunsOn, by_function, by_measure, by_left, by_steps}
use Rattle.laws_conditions.specs.theorem.InProofs.{And}
use Rattle.laws_conditions.specs.theorem.Budgets.{Pays, SpendsBudget}
use Rattle.linear.specs.Forms.{value}
use Rattle.linear.specs.Terms.{Combination}
use Rattle.linear.specs.declared.form.Term.{Term}
use Rattle.linear.specs.declared.form.RegisterId.{RegisterId}
use Rattle.linear.proofs.Values.{value_same}
use Rattle.program.specs.declared.function.Block.{Block}
use Rattle.program.specs.declared.function.Program.{Program}
use Rattle.program.specs.declared.instruction.Ending.{Ending}
use Rattle.program.specs.declared.instruction.Instruction.{Instruction}
use Rattle.program.specs.declared.instruction.Instruction.TheVariants as instruction
use Rattle.program.specs.declared.instruction.Phi.{Phi}
use Rattle.program.specs.declared.instruction.Step.{Step}
use Rattle.laws_conditions.specs.rules.Moves.{number_of, dest_of, GoesOn, Enters, Calls}
use Rattle.laws_conditions.specs.rules.InProofs.{Moves, is_next, is_along}
use Rattle.laws_conditions.specs.rules.Costs.{numbers, parameters_of, measure_of, bound_of, self_calls_of, instructions_of, calls_left, instructions_left, calls_at, instructions_at, measure_at, cost_below, instructions_for, self_calls_for, spent_by, spent_in, instructions_spent, calls_spent, Lacks, IsEntry, natural, self_cost, had, used, may_use, IsCosted}
use Rattle.program.specs.Calls.{callee_of}
use Rattle.laws_conditions.specs.rules.InProofs.{CoversNext, CoversBoth, SomeLeft, CostRules, steps_after, steps_left, rank_of}
use Rattle.laws_conditions.proofs.rules.Moves.{moves, syncs_along, calls_here}

-- ---- numbers

natural_le : (x y : ℤ) (k : ℕ) → pos 0 ≤ℤ x → (x +ℤ pos k) ≤ℤ y → natural x + k ≤ natural y
natural_le (pos a) (pos b) k h l = omega (arith, ints)
natural_le (pos a) (negsuc b) k h l = omega (arith, ints)
natural_le (negsuc a) y k h l = absurd (omega (arith, ints))

natural_both : (x y z : ℤ) (k : ℕ) → pos 0 ≤ℤ x → pos 0 ≤ℤ y → ((x +ℤ y) +ℤ pos k) ≤ℤ z → natural x + natural y + k ≤ natural z
natural_both (pos a) (pos b) (pos c) k h1 h2 l = omega (arith, ints)
natural_both (pos a) (pos b) (negsuc c) k h1 h2 l = omega (arith, ints)
natural_both (pos a) (negsuc b) z k h1 h2 l = absurd (omega (arith, ints))
natural_both (negsuc a) y z k h1 h2 l = absurd (omega (arith, ints))

natural_all : (y : ℤ) (k : ℕ) → pos k ≤ℤ y → k ≤ natural y
natural_all (pos b) k l = omega (arith, ints)
natural_all (negsuc b) k l = omega (arith, ints)

natural_most : (y : ℤ) (k : ℕ) → y ≤ℤ pos k → natural y ≤ k
natural_most (pos b) k l = omega (arith, ints)
natural_most (negsuc b) k l = omega (arith, ints)

natural_less : (x y : ℤ) → pos 0 ≤ℤ x → x <ℤ y → natural x < natural y
natural_less (pos a) (pos b) h l = omega (arith, ints)
natural_less (pos a) (negsuc b) h l = absurd (omega (arith, ints))
natural_less (negsuc a) y h l = absurd (omega (arith, ints))

-- what was had and used, as a difference
pays_one : (a b c d : ℕ) → c + 1 + b ≤ a + d → Pays (pos a -ℤ pos b) (pos c -ℤ pos d)
pays_one a b c d h = omega (arith, ints)

pays_two : (a b c d e g : ℕ) → c + e + 1 + b ≤ a + d + g → Pays (pos a -ℤ pos b) ((pos c -ℤ pos d) +ℤ (pos e -ℤ pos g))
pays_two a b c d e g h = omega (arith, ints)

pays_last : (a b : ℕ) → 1 + b ≤ a → Pays (pos a -ℤ pos b) (pos 0)
pays_last a b h = omega (arith, ints)

edge_sum : (cs ks unit kh kf sh sf : ℕ) → kh + ks ≤ kf → sh + suc cs ≤ sf → (kh * unit + sh) + 1 + (cs + ks * unit) ≤ kf * unit + sf
edge_sum cs ks unit kh kf sh sf hk hs = let all : (kh + ks) * unit ≤ kf * unit = mul-le (kh + ks) unit kf unit hk (omega arith) in let parts : (kh + ks) * unit ≡ kh * unit + ks * unit = add-mul kh ks unit in omega arith

both_sum : (cs ks unit k1 k2 kf s1 s2 sf : ℕ) → k1 + k2 + ks ≤ kf → s1 + s2 + suc cs ≤ sf → (k1 * unit + s1) + (k2 * unit + s2) + 1 + (cs + ks * unit) ≤ kf * unit + sf
both_sum cs ks unit k1 k2 kf s1 s2 sf hk hs =
    let all : (k1 + k2 + ks) * unit ≤ kf * unit = mul-le (k1 + k2 + ks) unit kf unit hk (omega arith) in
    let parts : (k1 + k2 + ks) * unit ≡ (k1 + k2) * unit + ks * unit = add-mul (k1 + k2) ks unit in
    let parts2 : (k1 + k2) * unit ≡ k1 * unit + k2 * unit = add-mul k1 k2 unit in
    omega arith

last_sum : (cs ks unit kf sf : ℕ) → ks ≤ kf → suc cs ≤ sf → 1 + (cs + ks * unit) ≤ kf * unit + sf
last_sum cs ks unit kf sf hk hs = let all : ks * unit ≤ kf * unit = mul-le ks unit kf unit hk (omega arith) in omega arith

entry_sum : (unit k s bk bs : ℕ) → k ≤ bk → s ≤ bs → k * unit + s ≤ bs + bk * unit
entry_sum unit k s bk bs hk hs = let all : k * unit ≤ bk * unit = mul-le k unit bk unit hk (omega arith) in omega arith

-- ---- values of forms in registers that differ elsewhere

same_number : (r s : Registers) (x : ℕ) → s x ≡ r x → numbers s x ≡ numbers r x
same_number r s x e = ap (λ v. or_zero (word_of v)) e

-- registers that are the same below a number
same_below : (n : ℕ) (form : Combination) (r s : Registers) → All (λ (t : Term). t.register.0 < n) form.terms → ((x : ℕ) → x < n → s x ≡ r x) → value (numbers s) form ≡ value (numbers r) form
same_below n form r s all same =
    value_same (numbers s) (numbers r) form (All-weaker (λ (t : Term). t.register.0 < n) (λ (t : Term). numbers s t.register.0 ≡ numbers r t.register.0) (λ t less. same_number r s t.register.0 (same t.register.0 less)) form.terms all)

-- registers that differ in one that the form lacks
same_without : (d : ℕ) (form : Combination) (r s : Registers) → Lacks form d → ((x : ℕ) → d ≢ x → s x ≡ r x) → value (numbers s) form ≡ value (numbers r) form
same_without d form r s lacks same =
    value_same (numbers s) (numbers r) form
    (All-weaker (λ (t : Term). t.register.0 ≢ d) (λ (t : Term). numbers s t.register.0 ≡ numbers r t.register.0) (λ t apart. same_number r s t.register.0 (same t.register.0 (λ e. apart (sym e)))) form.terms lacks)

same_all : (form : Combination) (r s : Registers) → ((x : ℕ) → s x ≡ r x) → value (numbers s) form ≡ value (numbers r) form
same_all form r s same = ap (λ v. value v form) (λ i x. same_number r s x (same x) i)

-- ---- phis

-- the registers below a number that no phi defines stay
phis_keep : (n : ℕ) (before : Registers) (from : ℕ) (phis : List Phi) (r s : Registers) → All (λ (phi : Phi). n ≤ phi.register.0) phis → with_phis before from phis r ≡ Some s → (x : ℕ) → x < n → s x ≡ r x
phis_keep n before from [] r s all e x less = let same : r ≡ s = cc in sym (ap (λ (u : Registers). u x) same)
phis_keep n before from (phi ∷ phis) r s all e x less =
    by_value (phi_value before from phi) e (All-head (λ (y : Phi). n ≤ y.register.0) phi phis all)
    (λ z h. phis_keep n before from phis (set_register r phi.register (Word z)) s (All-tail (λ (y : Phi). n ≤ y.register.0) phi phis all) h x less)
  where
    apart : n ≤ phi.register.0 → eqb phi.register.0 x ≡ false
    apart high = elim (eqb_tells phi.register.0 x) [ inl h ↦ absurd (let same : phi.register.0 ≡ x = h.1 in omega arith) | inr h ↦ h.0 ]

    by_value : (o : Option ℤ) → and_then o (λ z. with_phis before from phis (set_register r phi.register (Word z))) ≡ Some s → n ≤ phi.register.0 →
        ((z : ℤ) → with_phis before from phis (set_register r phi.register (Word z)) ≡ Some s → s x ≡ set_register r phi.register (Word z) x) → s x ≡ r x
    by_value None h high rest = absurd (cc)
    by_value (Some z) h high rest = rest z h ∙ rw (apart high) refl

-- ---- steps of a block

step_at : List Step → ℕ → Option Step
step_at steps index = slice_get steps index

-- the item at a place is the step of its index
pub data StepAt (i : Instruction) (o : Option Block) (index : ℕ) : Type 0 where
  is_step : (b : Block) → o ≡ Some b → item_of b.steps b.ending index ≡ Some (Does i) → StepAt i o index

step_there : (i : Instruction) (o : Option Block) (index : ℕ) → and_then o (λ (b : Block). item_of b.steps b.ending index) ≡ Some (Does i) → StepAt i o index
step_there i None index e = absurd (cc)
step_there i (Some b) index e = is_step b refl e

no_ending : (ending : Option Ending) (index : ℕ) (i : Instruction) → item_of [] ending index ≡ Some (Does i) → ⊥
no_ending None index i e = cc
no_ending (Some x) zero i e = cc
no_ending (Some x) (suc index) i e = cc

does_same : (i j : Instruction) → Some (Does i) ≡ Some (Does j) → i ≡ j
does_same i j e = cc

module _ (cost : Option ℕ → ℕ) (ending : Option Ending) (i : Instruction) where
  spent_first : (steps : List Step) → spent_by cost steps 0 ≡ 0
  spent_first [] = refl
  spent_first (s ∷ steps) = refl

  after_first : (steps : List Step) → steps_after steps 0 < suc (length steps)
  after_first [] = omega arith
  after_first (s ∷ steps) = omega arith

  spent_next : (steps : List Step) (index : ℕ) → item_of steps ending index ≡ Some (Does i) → spent_by cost steps (suc index) ≡ spent_by cost steps index + cost (callee_of i)
  spent_next [] index e = absurd (no_ending ending index i e)
  spent_next (s ∷ steps) zero e =
      let same : s.instruction ≡ i = does_same s.instruction i e in
      let first : spent_by cost steps 0 ≡ 0 = spent_first steps in
      let one : cost (callee_of s.instruction) ≡ cost (callee_of i) = ap (λ x. cost (callee_of x)) same in
      rw (first, one) (omega arith)
  spent_next (s ∷ steps) (suc index) e = rw (spent_next steps index e) (omega arith)

  left_next : (steps : List Step) (index : ℕ) → item_of steps ending index ≡ Some (Does i) → steps_after steps (suc index) < steps_after steps index
  left_next [] index e = absurd (no_ending ending index i e)
  left_next (s ∷ steps) zero e = after_first steps
  left_next (s ∷ steps) (suc index) e = left_next steps index e

spent_step : (cost : Option ℕ → ℕ) (i : Instruction) (o : Option Block) (index : ℕ) → StepAt i o index → spent_in cost o (suc index) ≡ spent_in cost o index + cost (callee_of i)
spent_step cost i o index (is_step b is e) = rw is (spent_next cost b.ending i b.steps index e)

left_step : (i : Instruction) (o : Option Block) (index : ℕ) → StepAt i o index → steps_left o (suc index) < steps_left o index
left_step i o index (is_step b is e) = rw is (left_next (λ x. 0) b.ending i b.steps index e)

spent_start : (cost : Option ℕ → ℕ) (o : Option Block) → spent_in cost o 0 ≡ 0
spent_start cost None = refl
spent_start cost (Some b) = from b.steps
  where
    from : (steps : List Step) → spent_by cost steps 0 ≡ 0
    from [] = refl
    from (s ∷ steps) = refl

-- ---- what a call costs rises with its measure

cost_step : (prog : Program) (fn m : ℕ) → cost_below prog fn m ≤ cost_below prog fn (suc m)
cost_step prog fn zero = omega arith
cost_step prog fn (suc m) = let h = mul-le (self_calls_of prog fn) (cost_below prog fn m) (self_calls_of prog fn) (cost_below prog fn (suc m)) (omega arith) (cost_step prog fn m) in omega arith

pub cost_rises : (prog : Program) (fn m n : ℕ) → m ≤ n → cost_below prog fn m ≤ cost_below prog fn n
cost_rises prog fn m zero less = let same : m ≡ 0 = omega arith in rw same (omega arith)
cost_rises prog fn m (suc n) less = from (eqb_tells m (suc n)) (λ l. cost_rises prog fn m n l)
  where
    from : ((eqb m (suc n) ≡ true) × (m ≡ suc n)) ⊎ ((eqb m (suc n) ≡ false) × (m ≢ suc n)) → (m ≤ n → cost_below prog fn m ≤ cost_below prog fn n) → cost_below prog fn m ≤ cost_below prog fn (suc n)
    from (inl e) rest = rw e.1 (omega arith)
    from (inr e) rest = let h : m ≢ suc n = e.1 in let k = rest (omega arith) in let l = cost_step prog fn n in omega arith

some_cost : (prog : Program) (fn : ℕ) (o : Option ℕ) → 1 ≤ instructions_for prog fn o
some_cost prog fn None = omega arith
some_cost prog fn (Some g) = from (eqb g fn)
  where
    from : (b : Bool) → 1 ≤ cond b 1 (suc (cost_below prog g (suc (bound_of prog g))))
    from true = omega arith
    from false = omega arith

-- ---- the rules

module _ (prog : Program) (fits : Frame → Type 0) (rules : CostRules prog fits) (base : Says) (fit : (p : Path) (f : Frame) (m : Memory) → base p f m → fits f) where
  abbrev pub Costed : Says
  Costed p f m = IsCosted prog f

  -- of the same call: the same function, and the same measure
  record Kin (f h : Frame) : Type 0 where
    function : h.function ≡ f.function
    measure : value (numbers h.registers) (measure_of prog f.function) ≡ measure_at prog f

  kin_measure : (f h : Frame) → Kin f h → measure_at prog h ≡ measure_at prog f
  kin_measure f h k = rw k.function k.measure

  kin_cost : (f h : Frame) → Kin f h → self_cost prog h ≡ self_cost prog f
  kin_cost f h k = rw (k.function, k.measure) refl

  same_kin : (f h : Frame) → h.function ≡ f.function → h.registers ≡ f.registers → Kin f h
  same_kin f h function registers = record { function = function; measure = ap (λ r. value (numbers r) (measure_of prog f.function)) registers }

  entered_kin : (f h : Frame) (target : ℕ) → h.function ≡ f.function → registers_along prog f target ≡ Some h.registers → Kin f h
  entered_kin f h target function along = record {
    function = function;
    measure = same_below (parameters_of prog f.function) (measure_of prog f.function) f.registers h.registers (rules.over_parameters f.function)
        (phis_keep (parameters_of prog f.function) f.registers f.block (phis_at prog f.function target) f.registers h.registers (rules.steady_phis f.function target) along);
  }

  -- at the start of a block something is left
  started : (f h : Frame) → IsCosted prog f → Kin f h → fits h → h.index ≡ 0 → IsCosted prog h
  started f h good k fit_h start =
      let some = rules.some_left h fit_h start in
      record { calls = some.calls; instructions = some.instructions; low = rw (kin_measure f h k) good.low; high = rw (kin_measure f h k, k.function) good.high }

  pub entry_costed : (h : Frame) → fits h → IsEntry h → IsCosted prog h
  entry_costed h fit_h at =
      let some = rules.some_left h fit_h at.index in
      let size = rules.measure h fit_h at in
      record { calls = some.calls; instructions = some.instructions; low = size.0; high = size.1 }

  -- nothing is used there
  unused : (h : Frame) → h.index ≡ 0 → used prog h ≡ 0
  unused h start =
      let a : instructions_spent prog h ≡ 0 = rw start (spent_start (instructions_for prog h.function) (block_at prog h.function h.block)) in
      let b : calls_spent prog h ≡ 0 = rw start (spent_start (self_calls_for h.function) (block_at prog h.function h.block)) in
      let none : 0 * self_cost prog h ≡ 0 = zero-mul _ in
      rw (a, b) (omega (arith, none))

  -- along an edge
  edge_pays : (f h : Frame) → Kin f h → h.index ≡ 0 → IsCosted prog h → CoversNext prog f h → Pays (may_use prog f) (may_use prog h)
  edge_pays f h k start good covers =
      pays_one (had prog f) (used prog f) (had prog h) (used prog h)
      (rw (unused h start, kin_cost f h k) (let sum = edge_sum (instructions_spent prog f) (calls_spent prog f) (self_cost prog f) (natural (calls_at prog h)) (natural (calls_at prog f)) (natural (instructions_at prog h)) (natural (instructions_at prog f))
      (natural_le (calls_at prog h) (calls_at prog f) (calls_spent prog f) good.calls covers.calls)
      (natural_le (instructions_at prog h) (instructions_at prog f) (suc (instructions_spent prog f)) good.instructions covers.instructions) in
      omega (arith, sum)))

  -- ---- a step of the block

  -- the registers that the block's forms and the measure name stay
  record Steady (f : Frame) (r : Registers) : Type 0 where
    calls : value (numbers r) (calls_left prog f.function f.block) ≡ calls_at prog f
    instructions : value (numbers r) (instructions_left prog f.function f.block) ≡ instructions_at prog f
    measure : value (numbers r) (measure_of prog f.function) ≡ measure_at prog f

  set_steady : (f : Frame) (i : Instruction) (r : Registers) → item_at prog f.function f.block f.index ≡ Some (Does i) → ((x : ℕ) → dest_of i ≢ Some x → r x ≡ f.registers x) → Steady f r
  set_steady f i r at others = from (dest_of i) refl others
    where
      from : (o : Option ℕ) → dest_of i ≡ o → ((x : ℕ) → o ≢ Some x → r x ≡ f.registers x) → Steady f r
      from None is same =
          let all : (x : ℕ) → r x ≡ f.registers x = λ x. same x (λ e. absurd (cc)) in
          record { calls = same_all (calls_left prog f.function f.block) f.registers r all; instructions = same_all (instructions_left prog f.function f.block) f.registers r all; measure = same_all (measure_of prog f.function) f.registers r all }
      from (Some d) is same =
          let (high, no_calls, no_instructions) = rules.steady f.function f.block f.index i d at is in
          let apart : (x : ℕ) → d ≢ x → r x ≡ f.registers x = λ x off. same x (λ e. off (let h : d ≡ x = cc in h)) in
          record {
            calls = same_without d (calls_left prog f.function f.block) f.registers r no_calls apart;
            instructions = same_without d (instructions_left prog f.function f.block) f.registers r no_instructions apart;
            measure = same_below (parameters_of prog f.function) (measure_of prog f.function) f.registers r (rules.over_parameters f.function) (λ x less. apart x (λ e. absurd (omega arith)));
          }

  -- the frame after a step
  record After (f h : Frame) (i : Instruction) : Type 0 where
    item : item_at prog f.function f.block f.index ≡ Some (Does i)
    function : h.function ≡ f.function
    block : h.block ≡ f.block
    index : h.index ≡ suc f.index
    steady : Steady f h.registers

  module _ (f h : Frame) (i : Instruction) (step : After f h i) where
    after_calls : calls_at prog h ≡ calls_at prog f
    after_calls = rw (step.function, step.block) step.steady.calls

    after_instructions : instructions_at prog h ≡ instructions_at prog f
    after_instructions = rw (step.function, step.block) step.steady.instructions

    after_measure : measure_at prog h ≡ measure_at prog f
    after_measure = rw step.function step.steady.measure

    after_cost : self_cost prog h ≡ self_cost prog f
    after_cost = rw (step.function, step.steady.measure) refl

    after_had : had prog h ≡ had prog f
    after_had = rw (after_calls, after_instructions, after_cost) refl

    there : StepAt i (block_at prog f.function f.block) f.index
    there = step_there i (block_at prog f.function f.block) f.index step.item

    after_used : used prog h ≡ used prog f + (instructions_for prog f.function (callee_of i) + self_calls_for f.function (callee_of i) * self_cost prog f)
    after_used =
        let a : instructions_spent prog h ≡ instructions_spent prog f + instructions_for prog f.function (callee_of i) = rw (step.function, step.block, step.index) (spent_step (instructions_for prog f.function) i (block_at prog f.function f.block) f.index there) in
        let b : calls_spent prog h ≡ calls_spent prog f + self_calls_for f.function (callee_of i) = rw (step.function, step.block, step.index) (spent_step (self_calls_for f.function) i (block_at prog f.function f.block) f.index there) in
        let parts : (calls_spent prog f + self_calls_for f.function (callee_of i)) * self_cost prog f ≡ calls_spent prog f * self_cost prog f + self_calls_for f.function (callee_of i) * self_cost prog f = add-mul _ _ _ in
        rw (a, b, after_cost, parts) (omega arith)

    after_costed : IsCosted prog f → IsCosted prog h
    after_costed good = record { calls = rw after_calls good.calls; instructions = rw after_instructions good.instructions; low = rw after_measure good.low; high = rw (after_measure, step.function) good.high }

    step_pays : Pays (may_use prog f) (may_use prog h)
    step_pays =
        let some = some_cost prog f.function (callee_of i) in
        pays_one (had prog f) (used prog f) (had prog h) (used prog h) (rw (after_had, after_used) (omega (arith, some)))

    step_below : Below (rank_of prog h) (rank_of prog f)
    step_below = by_steps step.function (ap natural after_measure) (ap natural after_instructions) (rw (step.function, step.block, step.index) (left_step i (block_at prog f.function f.block) f.index there))

  -- ---- plain instructions and syncs

  went_after : (f : Frame) (e : Effect) (i : Instruction) → item_at prog f.function f.block f.index ≡ Some (Does i) → GoesOn f (dest_of i) e → After f (went f e) i
  went_after f e i at on = record { item = at; function = refl; block = on.block; index = on.index; steady = set_steady f i e.registers at on.others }

  entered : (f : Frame) (e : Effect) → Enters prog f e → Kin f (went f e)
  entered f e on = entered_kin f (went f e) e.block refl on.along

  plain_costed : (f : Frame) (e : Effect) → IsCosted prog f → fits (went f e) → Moves prog f e → IsCosted prog (went f e)
  plain_costed f e good fit_h (is_next i at on) = after_costed f (went f e) i (went_after f e i at on) good
  plain_costed f e good fit_h (is_along t at to on) = started f (went f e) good (entered f e on) fit_h on.index

  plain_pays : (p : Path) (f : Frame) (m : Memory) (e : Effect) → fits f → IsCosted prog f → fits (went f e) → action_of prog p f m ≡ Plain e → e.trap ≡ None → Moves prog f e → Pays (may_use prog f) (may_use prog (went f e))
  plain_pays p f m e fit_f good fit_h at fine (is_next i here on) = step_pays f (went f e) i (went_after f e i here on)
  plain_pays p f m e fit_f good fit_h at fine (is_along t here to on) =
      edge_pays f (went f e) (entered f e on) on.index (started f (went f e) good (entered f e on) fit_h on.index) (rules.edge p f m e t fit_f here at fine)

  edge_below : (f h : Frame) → Kin f h → SomeLeft prog h → CoversNext prog f h → Below (rank_of prog h) (rank_of prog f)
  edge_below f h k some covers =
      let less = natural_le (instructions_at prog h) (instructions_at prog f) (suc (instructions_spent prog f)) some.instructions covers.instructions in
      by_left k.function (ap natural (kin_measure f h k)) (omega (arith, less))

  plain_below : (p : Path) (f : Frame) (m : Memory) (e : Effect) → fits f → IsCosted prog f → fits (went f e) → action_of prog p f m ≡ Plain e → e.trap ≡ None → Moves prog f e → Below (rank_of prog (went f e)) (rank_of prog f)
  plain_below p f m e fit_f good fit_h at fine (is_next i here on) = step_below f (went f e) i (went_after f e i here on)
  plain_below p f m e fit_f good fit_h at fine (is_along t here to on) = edge_below f (went f e) (entered f e on) (rules.some_left (went f e) fit_h on.index) (rules.edge p f m e t fit_f here at fine)

  sync_kin : (p : Path) (f : Frame) (m : Memory) (r b : ℕ) (rs : Registers) → action_of prog p f m ≡ Sync r b rs → Kin f (synced f r b rs)
  sync_kin p f m r b rs at = entered_kin f (synced f r b rs) b refl (syncs_along prog p f m r b rs at)

  -- ---- calls

  called_entry : (p : Path) (f : Frame) (g : ℕ) (vs : List Value) → IsEntry (called p f g vs)
  called_entry p f g vs = record { block = refl; index = refl }

  -- a whole call costs what the table says
  entry_had : (h : Frame) → fits h → IsEntry h → had prog h ≤ cost_below prog h.function (suc (natural (measure_at prog h)))
  entry_had h fit_h at =
      let less = rules.budget h fit_h at in
      entry_sum (self_cost prog h) (natural (calls_at prog h)) (natural (instructions_at prog h)) (self_calls_of prog h.function) (instructions_of prog h.function) (natural_most (calls_at prog h) _ less.0) (natural_most (instructions_at prog h) _ less.1)

  pub lower : (p : Path) (f : Frame) (m : Memory) (d : Option RegisterId) (g : ℕ) (vs : List Value) → fits f → action_of prog p f m ≡ Call d g vs → fits (called p f g vs) → g ≡ f.function → natural (measure_at prog (called p f g vs)) < natural (measure_at prog f)
  lower p f m d g vs fit_f at fit_h same = natural_less (measure_at prog (called p f g vs)) (measure_at prog f) (rules.measure (called p f g vs) fit_h (called_entry p f g vs)).0 (rules.falls p f m d g vs fit_f at same)

  -- the callee's budget is what the call's instruction costs
  call_cost : (p : Path) (f : Frame) (m : Memory) (d : Option RegisterId) (g : ℕ) (vs : List Value) → fits f → action_of prog p f m ≡ Call d g vs → fits (called p f g vs) →
      suc (had prog (called p f g vs)) ≤ instructions_for prog f.function (Some g) + self_calls_for f.function (Some g) * self_cost prog f
  call_cost p f m d g vs fit_f at fit_h = from (eqb_tells g f.function)
    where
      most : had prog (called p f g vs) ≤ cost_below prog g (suc (natural (measure_at prog (called p f g vs))))
      most = entry_had (called p f g vs) fit_h (called_entry p f g vs)

      from : ((eqb g f.function ≡ true) × (g ≡ f.function)) ⊎ ((eqb g f.function ≡ false) × (g ≢ f.function)) →
          suc (had prog (called p f g vs)) ≤ instructions_for prog f.function (Some g) + self_calls_for f.function (Some g) * self_cost prog f
      from (inl e) =
          let small = lower p f m d g vs fit_f at fit_h e.1 in
          let rises = cost_rises prog g (suc (natural (measure_at prog (called p f g vs)))) (natural (measure_at prog f)) small in
          let same : cost_below prog g (natural (measure_at prog f)) ≡ self_cost prog f = ap (λ x. cost_below prog x (natural (measure_at prog f))) e.1 in
          let one : 1 * self_cost prog f ≡ self_cost prog f = one-mul _ in
          rw e.0 (omega (arith, most, rises, same, one))
      from (inr e) =
          let high = natural_most (measure_at prog (called p f g vs)) (bound_of prog g) (rules.measure (called p f g vs) fit_h (called_entry p f g vs)).1 in
          let rises = cost_rises prog g (suc (natural (measure_at prog (called p f g vs)))) (suc (bound_of prog g)) (omega (arith, high)) in
          let none : 0 * self_cost prog f ≡ 0 = zero-mul _ in
          rw e.0 (omega (arith, most, rises, none))

  -- the result goes into the register that the call defines
  result_others : (r : Registers) (d : Option RegisterId) (v : Option ℤ) (x : ℕ) → number_of d ≢ Some x → with_result r d v x ≡ r x
  result_others r None v x apart = refl
  result_others r (Some d) None x apart = refl
  result_others r (Some d) (Some z) x apart = elim (eqb_tells d.0 x) [ inl e ↦ absurd (apart (ap (λ n. Some n) e.1)) | inr e ↦ rw e.0 refl ]

  resumed_after : (p : Path) (f : Frame) (d : Option RegisterId) (g : ℕ) (vs : List Value) (v : Option ℤ) (c : Calls prog f d g vs) → After f (resumed (waiting f d) d v) (instruction.Call d c.function c.arguments)
  resumed_after p f d g vs v c = record {
    item = c.is;
    function = refl;
    block = refl;
    index = refl;
    steady = set_steady f (instruction.Call d c.function c.arguments) (with_result f.registers d v) c.is (λ x apart. result_others f.registers d v x apart);
  }

  call_pays : (p : Path) (f : Frame) (m : Memory) (d : Option RegisterId) (g : ℕ) (vs : List Value) (v : Option ℤ) → fits f → action_of prog p f m ≡ Call d g vs → fits (called p f g vs) → Calls prog f d g vs →
      Pays (may_use prog f) (may_use prog (called p f g vs) +ℤ may_use prog (resumed (waiting f d) d v))
  call_pays p f m d g vs v fit_f at fit_h c =
      let step = resumed_after p f d g vs v c in
      let cost : suc (had prog (called p f g vs)) ≤ instructions_for prog f.function (Some c.function.0) + self_calls_for f.function (Some c.function.0) * self_cost prog f =
      subst (λ n. suc (had prog (called p f g vs)) ≤ instructions_for prog f.function (Some n) + self_calls_for f.function (Some n) * self_cost prog f) (sym c.number) (call_cost p f m d g vs fit_f at fit_h) in
      let none : used prog (called p f g vs) ≡ 0 = unused (called p f g vs) refl in
      let same : had prog (resumed (waiting f d) d v) ≡ had prog f = after_had f (resumed (waiting f d) d v) _ step in
      let more : used prog (resumed (waiting f d) d v) ≡ used prog f + (instructions_for prog f.function (Some c.function.0) + self_calls_for f.function (Some c.function.0) * self_cost prog f) = after_used f (resumed (waiting f d) d v) _ step in
      pays_two (had prog f) (used prog f) (had prog (called p f g vs)) (used prog (called p f g vs)) (had prog (resumed (waiting f d) d v)) (used prog (resumed (waiting f d) d v)) (rw (none, same, more) (omega (arith, cost)))

  pub call_below : (p : Path) (f : Frame) (m : Memory) (d : Option RegisterId) (g : ℕ) (vs : List Value) → fits f → action_of prog p f m ≡ Call d g vs → fits (called p f g vs) → Calls prog f d g vs → Below (rank_of prog (called p f g vs)) (rank_of prog f)
  call_below p f m d g vs fit_f at fit_h c = from (eqb_tells g f.function)
    where
      from : ((eqb g f.function ≡ true) × (g ≡ f.function)) ⊎ ((eqb g f.function ≡ false) × (g ≢ f.function)) → Below (rank_of prog (called p f g vs)) (rank_of prog f)
      from (inl e) = by_measure e.1 (lower p f m d g vs fit_f at fit_h e.1)
      from (inr e) =
          let up : c.function.0 ≤ f.function = rules.earlier f.function f.block f.index d c.function c.arguments c.is in
          let number : c.function.0 ≡ g = c.number in
          let other : g ≢ f.function = e.1 in
          by_function (omega arith)

  -- ---- all together

  abbrev pub NoFinds : Finds
  NoFinds p f m o = Unit {0}

  pub costed_kept : KeptSerially prog base Costed NoFinds
  costed_kept = record {
    plain_kept = λ p f m e b good at fine nb. record { next = plain_costed f e good (fit p _ _ nb) (moves prog p f m e at fine); finds = λ o h. tt };
    sync_kept = λ p f m r t rs b good at nb. record { next = started f (synced f r t rs) good (sync_kin p f m r t rs at) (fit p _ _ nb) refl; finds = λ o h. tt };
    child_kept = λ p f m r body next b good at nb. started f (detached f r body next) good (same_kin f (detached f r body next) refl refl) (fit (f.made ∷ p) _ _ nb) refl;
    continued_kept = λ p f m r body next b good at nc o gone h nb. record { next = started f (continued f next) good (same_kin f (continued f next) refl refl) (fit p _ _ nb) refl; finds = λ u k. tt };
    callee_kept = λ p f m d g vs b good at nb. entry_costed (called p f g vs) (fit (f.made ∷ p) _ _ nb) (called_entry p f g vs);
    resumed_kept = λ p f m d g vs b good at nc o v gave h nb. record { next = after_costed f (resumed (waiting f d) d v) _ (resumed_after p f d g vs v (calls_here prog p f m d g vs at)) good; finds = λ u k. tt };
    reattach_finds = λ p f m r b good at. tt;
    return_finds = λ p f m v b good at. tt;
  }

  pub costs_spend : SpendsBudget prog (And base Costed) (may_use prog)
  costs_spend = record {
    plain_pays = λ p f m e b at fine nb. plain_pays p f m e (fit p f m b.0) b.1 (fit p _ _ nb.0) at fine (moves prog p f m e at fine);
    sync_pays = λ p f m r t rs b at nb. edge_pays f (synced f r t rs) (sync_kin p f m r t rs at) refl nb.1 (rules.sync p f m r t rs (fit p f m b.0) at);
    detach_pays = λ p f m n r body next b at nc nb.
        let covers = rules.detach p f m r body next (fit p f m b.0) at in
        let child = unused (detached f r body next) refl in
        let rest = unused (continued f next) refl in
        let kin = kin_cost f (detached f r body next) (same_kin f (detached f r body next) refl refl) in
        let kin2 = kin_cost f (continued f next) (same_kin f (continued f next) refl refl) in
        let sum = both_sum (instructions_spent prog f) (calls_spent prog f) (self_cost prog f)
        (natural (calls_at prog (detached f r body next))) (natural (calls_at prog (continued f next))) (natural (calls_at prog f))
        (natural (instructions_at prog (detached f r body next))) (natural (instructions_at prog (continued f next))) (natural (instructions_at prog f))
        (natural_both (calls_at prog (detached f r body next)) (calls_at prog (continued f next)) (calls_at prog f) (calls_spent prog f) nc.1.calls nb.1.calls covers.calls)
        (natural_both (instructions_at prog (detached f r body next)) (instructions_at prog (continued f next)) (instructions_at prog f) (suc (instructions_spent prog f)) nc.1.instructions nb.1.instructions covers.instructions) in
        pays_two (had prog f) (used prog f) (had prog (detached f r body next)) (used prog (detached f r body next)) (had prog (continued f next)) (used prog (continued f next)) (rw (child, rest) (omega (arith, sum)));
    call_pays = λ p f m n d g vs v b at nc nb. call_pays p f m d g vs v (fit p f m b.0) at (fit (f.made ∷ p) _ _ nc.0) (calls_here prog p f m d g vs at);
    reattach_pays = λ p f m r b at.
        let covers = rules.reattach p f m r (fit p f m b.0) at in
        pays_last (had prog f) (used prog f) (last_sum (instructions_spent prog f) (calls_spent prog f) (self_cost prog f) (natural (calls_at prog f)) (natural (instructions_at prog f)) (natural_all (calls_at prog f) _ covers.calls) (natural_all (instructions_at prog f) _ covers.instructions));
    return_pays = λ p f m v b at.
        let covers = rules.returns p f m v (fit p f m b.0) at in
        pays_last (had prog f) (used prog f) (last_sum (instructions_spent prog f) (calls_spent prog f) (self_cost prog f) (natural (calls_at prog f)) (natural (instructions_at prog f)) (natural_all (calls_at prog f) _ covers.calls) (natural_all (instructions_at prog f) _ covers.instructions));
  }

  -- the ranks fall: all of what runs on needs, but that nothing traps
  pub sync_below : (p : Path) (f : Frame) (m : Memory) (r b : ℕ) (rs : Registers) → fits f → action_of prog p f m ≡ Sync r b rs → fits (synced f r b rs) → Below (rank_of prog (synced f r b rs)) (rank_of prog f)
  sync_below p f m r b rs fit_f at fit_h = edge_below f (synced f r b rs) (sync_kin p f m r b rs at) (rules.some_left (synced f r b rs) fit_h refl) (rules.sync p f m r b rs fit_f at)

  both_below : (f g h : Frame) → SomeLeft prog g → SomeLeft prog h → CoversBoth prog f g h → (natural (instructions_at prog g) < natural (instructions_at prog f)) × (natural (instructions_at prog h) < natural (instructions_at prog f))
  both_below f g h some more covers =
      let less = natural_both (instructions_at prog g) (instructions_at prog h) (instructions_at prog f) (suc (instructions_spent prog f)) some.instructions more.instructions covers.instructions in
      (omega (arith, less), omega (arith, less))

  pub fork_below : (p : Path) (f : Frame) (m : Memory) (r body next : ℕ) → fits f → action_of prog p f m ≡ Detach r body next → Below (rank_of prog (detached f r body next)) (rank_of prog f) × Below (rank_of prog (continued f next)) (rank_of prog f)
  fork_below p f m r body next fit_f at =
      let (some, more) = rules.some_left_on p f m r body next fit_f at in
      let (first, second) = both_below f (detached f r body next) (continued f next) some more (rules.detach p f m r body next fit_f at) in
      (by_left refl refl first, by_left refl refl second)

  -- ---- the measure, for the depth

  pub plain_measure : (f : Frame) (e : Effect) → Moves prog f e → measure_at prog (went f e) ≡ measure_at prog f
  plain_measure f e (is_next i at on) = after_measure f (went f e) i (went_after f e i at on)
  plain_measure f e (is_along t at to on) = kin_measure f (went f e) (entered f e on)

  pub sync_measure : (p : Path) (f : Frame) (m : Memory) (r b : ℕ) (rs : Registers) → action_of prog p f m ≡ Sync r b rs → measure_at prog (synced f r b rs) ≡ measure_at prog f
  sync_measure p f m r b rs at = kin_measure f (synced f r b rs) (sync_kin p f m r b rs at)

  pub resumed_measure : (p : Path) (f : Frame) (m : Memory) (d : Option RegisterId) (g : ℕ) (vs : List Value) (v : Option ℤ) → action_of prog p f m ≡ Call d g vs → measure_at prog (resumed (waiting f d) d v) ≡ measure_at prog f
  resumed_measure p f m d g vs v at = let c = calls_here prog p f m d g vs at in after_measure f (resumed (waiting f d) d v) (instruction.Call d c.function c.arguments) (resumed_after p f d g vs v c)

  pub entry_bound : (h : Frame) → fits h → IsEntry h → natural (measure_at prog h) ≤ bound_of prog h.function
  entry_bound h fit_h at = natural_most (measure_at prog h) (bound_of prog h.function) (rules.measure h fit_h at).1

  -- ---- the whole call

  less_used : (a b n : ℕ) → a ≤ n → (pos a -ℤ pos b) ≤ℤ pos n
  less_used a b n h = omega (arith, ints)

  -- a call's budget
  pub entry_budget : (h : Frame) → fits h → IsEntry h → may_use prog h ≤ℤ pos (cost_below prog h.function (suc (bound_of prog h.function)))
  entry_budget h fit_h at =
      let few = entry_had h fit_h at in
      let high = entry_bound h fit_h at in
      let rises = cost_rises prog h.function (suc (natural (measure_at prog h))) (suc (bound_of prog h.function)) (omega (arith, high)) in
      less_used (had prog h) (used prog h) (cost_below prog h.function (suc (bound_of prog h.function))) (omega (arith, few, rises))

  -- with that nothing traps, the ranks fall
  pub costs_run : ((p : Path) (f : Frame) (m : Memory) (e : Effect) → base p f m → action_of prog p f m ≡ Plain e → e.trap ≡ None) → RunsOn prog (And base Costed) (rank_of prog)
  costs_run no_trap = record {
    no_trap = λ p f m e b at. no_trap p f m e b.0 at;
    plain_falls = λ p f m e b at nb. let fine = no_trap p f m e b.0 at in plain_below p f m e (fit p f m b.0) b.1 (fit p _ _ nb.0) at fine (moves prog p f m e at fine);
    sync_falls = λ p f m r t rs b at nb. sync_below p f m r t rs (fit p f m b.0) at (fit p _ _ nb.0);
    child_falls = λ p f m r body next b at nb. (fork_below p f m r body next (fit p f m b.0) at).0;
    continued_falls = λ p f m n r body next b at nb. (fork_below p f m r body next (fit p f m b.0) at).1;
    callee_falls = λ p f m d g vs b at nb. call_below p f m d g vs (fit p f m b.0) at (fit (f.made ∷ p) _ _ nb.0) (calls_here prog p f m d g vs at);
    resumed_falls = λ p f m n d g vs v b at nb. let c = calls_here prog p f m d g vs at in step_below f (resumed (waiting f d) d v) (instruction.Call d c.function c.arguments) (resumed_after p f d g vs v c);
  }
