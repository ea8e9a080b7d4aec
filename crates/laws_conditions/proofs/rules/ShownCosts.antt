-- The rules on cost that facts show give the inequalities at frames.
use Rattle.std.proofs.Common.{◌≡◌, ℕ, suc, List, Option, Some, None, sym, ap, ◌∙◌, subst, arith, ℤ, pos, ◌+ℤ◌, ◌≤ℤ◌, ◌<ℤ◌}
use Rattle.std.specs.List.{Contains}
use Rattle.std.proofs.lemmas.Int.{ints}
use Rattle.std.proofs.lemmas.List.Elements.{All-contains}
use Rattle.semantics.specs.Paths.{Path}
use Rattle.semantics.specs.Cells.{Memory}
use Rattle.semantics.specs.Frames.{Value, Registers, Frame, Does, Ends, item_at}
use Rattle.semantics.specs.Effect.{Effect, Plain, Detach, Reattach, Sync, Return, registers_along, action_of}
use Rattle.semantics.specs.State.{went, detached, continued, synced, called}
use Rattle.linear.specs.Forms.{plus, minus, put, value}
use Rattle.linear.specs.Terms.{Combination, constant_form}
use Rattle.linear_shown.specs.Shown.{IsShown, AllHold}
use Rattle.linear.specs.declared.form.Fact.{Fact}
use Rattle.linear.specs.declared.form.RegisterId.{RegisterId}
use Rattle.linear.proofs.Values.{minus_orders, value_plus, value_constant}
use Rattle.linear_shown.proofs.Sound.{shown_holds}
use Rattle.program.specs.declared.function.Program.{Program}
use Rattle.program.specs.declared.instruction.Terminator.{Terminator}
use Rattle.laws_conditions.specs.rules.InProofs.{Moves, is_next, is_along}
use Rattle.laws_conditions.specs.rules.Moves.{Calls, Forks, EndsFrame}
use Rattle.laws_conditions.specs.rules.Costs.{numbers, measure_of, bound_of, self_calls_of, instructions_of, calls_left, instructions_left, calls_at, instructions_at, measure_at, instructions_spent, calls_spent, IsEntry}
use Rattle.laws_conditions.specs.rules.InProofs.{CoversNext, CoversBoth, CoversSpent, SomeLeft, CostRules}
use Rattle.laws_conditions.specs.rules.Edges.{edge_forms, argument_forms}
use Rattle.laws_conditions.specs.rules.ShownCosts.{Out, IsAtLeast, EdgeShown, ForkShown, EndShown, CostsShown, FactsHold}
use Rattle.laws_conditions.proofs.rules.Moves.{moves, syncs_along, sync_here, calls_here, forks_here, ends_here}
use Rattle.laws_conditions.proofs.rules.Edges.{along_value, called_value}

-- ---- what is shown, as inequalities of values

at_least : (facts : List Fact) (v : ℕ → ℤ) (e g : Combination) (k : ℕ) → IsAtLeast facts e g k → AllHold v facts → (value v g +ℤ pos k) ≤ℤ value v e
at_least facts v e g k shown all =
    let low : value v (plus g (constant_form (pos k))) ≤ℤ value v e = minus_orders v e (plus g (constant_form (pos k))) (shown_holds facts (minus e (plus g (constant_form (pos k)))) shown v all) in
    let sum : value v (plus g (constant_form (pos k))) ≡ value v g +ℤ pos k = value_plus v g (constant_form (pos k)) ∙ ap (λ z. value v g +ℤ z) (value_constant v (pos k)) in
    subst (λ z. z ≤ℤ value v e) sum low

at_most : (facts : List Fact) (v : ℕ → ℤ) (g : Combination) (n : ℕ) → IsShown facts (minus (constant_form (pos n)) g) → AllHold v facts → value v g ≤ℤ pos n
at_most facts v g n shown all = subst (λ z. value v g ≤ℤ z) (value_constant v (pos n)) (minus_orders v (constant_form (pos n)) g (shown_holds facts (minus (constant_form (pos n)) g) shown v all))

-- above 0 and k more
above : (facts : List Fact) (v : ℕ → ℤ) (e : Combination) (k : ℕ) → IsAtLeast facts e (constant_form (pos 0)) k → AllHold v facts → pos k ≤ℤ value v e
above facts v e k shown all = linear (value v e) k (at_least facts v e (constant_form (pos 0)) k shown all)
  where
    linear : (z : ℤ) (k : ℕ) → (pos 0 +ℤ pos k) ≤ℤ z → pos k ≤ℤ z
    linear z k h = omega (arith, ints)

above_both : (facts : List Fact) (v : ℕ → ℤ) (e a b : Combination) (k : ℕ) → IsAtLeast facts e (plus a b) k → AllHold v facts → ((value v a +ℤ value v b) +ℤ pos k) ≤ℤ value v e
above_both facts v e a b k shown all = subst (λ z. (z +ℤ pos k) ≤ℤ value v e) (value_plus v a b) (at_least facts v e (plus a b) k shown all)

module _ (prog : Program) (fits : Frame → Type 0) (known : ℕ → ℕ → ℕ → List Fact) (outs : ℕ → ℕ → List Out) (shown : CostsShown prog known outs) (hold : FactsHold prog fits known outs) where
  -- along an edge
  record Pays (f : Frame) (target : ℕ) (s : Registers) : Type 0 where
    calls : (value (numbers s) (calls_left prog f.function target) +ℤ pos (calls_spent prog f)) ≤ℤ calls_at prog f
    instructions : (value (numbers s) (instructions_left prog f.function target) +ℤ pos (suc (instructions_spent prog f))) ≤ℤ instructions_at prog f

  edge_pays : (f : Frame) (t : Terminator) (s : Registers) (o : Out) → item_at prog f.function f.block f.index ≡ Some (Ends t) → Contains (outs f.function f.block) o → AllHold (numbers f.registers) o.facts → registers_along prog f o.target ≡ Some s → Pays f o.target s
  edge_pays f t s o at is all along =
      let ok : EdgeShown prog f.function f.block f.index o = All-contains (EdgeShown prog f.function f.block f.index) (outs f.function f.block) o (shown.edges f.function f.block f.index t at) is in
      let calls_is = along_value prog f o.target s (calls_left prog f.function o.target) along in
      let instructions_is = along_value prog f o.target s (instructions_left prog f.function o.target) along in
      record {
        calls = subst (λ z. (z +ℤ pos (calls_spent prog f)) ≤ℤ calls_at prog f) (sym calls_is)
            (at_least o.facts (numbers f.registers) (calls_left prog f.function f.block) (put (edge_forms prog f.function f.block o.target) (calls_left prog f.function o.target)) (calls_spent prog f) ok.calls all);
        instructions = subst (λ z. (z +ℤ pos (suc (instructions_spent prog f))) ≤ℤ instructions_at prog f) (sym instructions_is)
            (at_least o.facts (numbers f.registers) (instructions_left prog f.function f.block) (put (edge_forms prog f.function f.block o.target) (instructions_left prog f.function o.target)) (suc (instructions_spent prog f)) ok.instructions all);
      }

  to_target : (f : Frame) (t : Terminator) (s : Registers) (o : Out) (b : ℕ) → item_at prog f.function f.block f.index ≡ Some (Ends t) → Contains (outs f.function f.block) o → o.target ≡ b → AllHold (numbers f.registers) o.facts → registers_along prog f b ≡ Some s → Pays f b s
  to_target f t s o b at is same all along = subst (λ n. Pays f n s) same (edge_pays f t s o at is all (subst (λ n. registers_along prog f n ≡ Some s) (sym same) along))

  enters : (f : Frame) (e : Effect) (t : Terminator) → item_at prog f.function f.block f.index ≡ Some (Ends t) → Moves prog f e → registers_along prog f e.block ≡ Some e.registers
  enters f e t at (is_next i here on) = absurd (let same : Some (Ends t) ≡ Some (Does i) = sym at ∙ here in cc)
  enters f e t at (is_along u here to on) = on.along

  edge_covers : (p : Path) (f : Frame) (m : Memory) (e : Effect) (t : Terminator) → fits f → item_at prog f.function f.block f.index ≡ Some (Ends t) → action_of prog p f m ≡ Plain e → e.trap ≡ None → CoversNext prog f (went f e)
  edge_covers p f m e t fit at act fine =
      let (o, is, same, all) = hold.edge p f m e t fit at act fine in
      let pays = to_target f t e.registers o e.block at is same all (enters f e t at (moves prog p f m e act fine)) in
      record { calls = pays.calls; instructions = pays.instructions }

  sync_covers : (p : Path) (f : Frame) (m : Memory) (r b : ℕ) (rs : Registers) → fits f → action_of prog p f m ≡ Sync r b rs → CoversNext prog f (synced f r b rs)
  sync_covers p f m r b rs fit act =
      let (o, is, same, all) = hold.sync p f m r b rs fit act in
      let (t, at, to) = sync_here prog p f m r b rs act in
      let pays = to_target f t rs o b at is same all (syncs_along prog p f m r b rs act) in
      record { calls = pays.calls; instructions = pays.instructions }

  -- a fork
  fork_covers : (f : Frame) (r b k : ℕ) → fits f → Forks prog f r b k → CoversBoth prog f (detached f r b k) (continued f k)
  fork_covers f r b k fit c =
      let ok : ForkShown prog (known f.function f.block f.index) f.function f.block f.index c.body.0 c.continuation.0 = shown.forks f.function f.block f.index c.region c.body c.continuation c.is in
      let ok2 : ForkShown prog (known f.function f.block f.index) f.function f.block f.index b c.continuation.0 = subst (λ n. ForkShown prog (known f.function f.block f.index) f.function f.block f.index n c.continuation.0) c.body_is ok in
      let ok3 : ForkShown prog (known f.function f.block f.index) f.function f.block f.index b k = subst (λ n. ForkShown prog (known f.function f.block f.index) f.function f.block f.index b n) c.continuation_is ok2 in
      record {
        calls = above_both (known f.function f.block f.index) (numbers f.registers) (calls_left prog f.function f.block) (calls_left prog f.function b) (calls_left prog f.function k) (calls_spent prog f) ok3.calls (hold.here f fit);
        instructions = above_both (known f.function f.block f.index) (numbers f.registers) (instructions_left prog f.function f.block) (instructions_left prog f.function b) (instructions_left prog f.function k) (suc (instructions_spent prog f)) ok3.instructions (hold.here f fit);
      }

  -- an end
  end_covers : (f : Frame) (t : Terminator) → fits f → item_at prog f.function f.block f.index ≡ Some (Ends t) → EndsFrame t → CoversSpent prog f
  end_covers f t fit at ends =
      let ok : EndShown prog (known f.function f.block f.index) f.function f.block f.index = shown.ends f.function f.block f.index t at ends in
      record {
        calls = above (known f.function f.block f.index) (numbers f.registers) (calls_left prog f.function f.block) (calls_spent prog f) ok.calls (hold.here f fit);
        instructions = above (known f.function f.block f.index) (numbers f.registers) (instructions_left prog f.function f.block) (suc (instructions_spent prog f)) ok.instructions (hold.here f fit);
      }

  -- at a block's start
  left_at : (v : ℕ → ℤ) (fn block : ℕ) → AllHold v (known fn block 0) → (pos 0 ≤ℤ value v (calls_left prog fn block)) × (pos 0 ≤ℤ value v (instructions_left prog fn block))
  left_at v fn block all = (shown_holds (known fn block 0) (calls_left prog fn block) (shown.start_calls fn block) v all, shown_holds (known fn block 0) (instructions_left prog fn block) (shown.start_instructions fn block) v all)

  at_start : (f : Frame) → fits f → f.index ≡ 0 → AllHold (numbers f.registers) (known f.function f.block 0)
  at_start f fit start = subst (λ n. AllHold (numbers f.registers) (known f.function f.block n)) start (hold.here f fit)

  some_left : (f : Frame) → fits f → f.index ≡ 0 → SomeLeft prog f
  some_left f fit start = let h = left_at (numbers f.registers) f.function f.block (at_start f fit start) in record { calls = h.0; instructions = h.1 }

  some_left_on : (p : Path) (f : Frame) (m : Memory) (r b k : ℕ) → fits f → action_of prog p f m ≡ Detach r b k → SomeLeft prog (detached f r b k) × SomeLeft prog (continued f k)
  some_left_on p f m r b k fit act =
      let (first, second) = hold.fork p f m r b k fit act in
      let h = left_at (numbers f.registers) f.function b first in
      let g = left_at (numbers f.registers) f.function k second in
      (record { calls = h.0; instructions = h.1 }, record { calls = g.0; instructions = g.1 })

  -- at the entry
  at_entry : (f : Frame) → fits f → IsEntry f → AllHold (numbers f.registers) (known f.function 0 0)
  at_entry f fit entry = subst (λ n. AllHold (numbers f.registers) (known f.function n 0)) entry.block (at_start f fit entry.index)

  measures : (f : Frame) → fits f → IsEntry f → (pos 0 ≤ℤ measure_at prog f) × (measure_at prog f ≤ℤ pos (bound_of prog f.function))
  measures f fit entry =
      let all = at_entry f fit entry in
      (shown_holds (known f.function 0 0) (measure_of prog f.function) (shown.measure_low f.function) (numbers f.registers) all, at_most (known f.function 0 0) (numbers f.registers) (measure_of prog f.function) (bound_of prog f.function) (shown.measure_high f.function) all)

  budgets : (f : Frame) → fits f → IsEntry f → (calls_at prog f ≤ℤ pos (self_calls_of prog f.function)) × (instructions_at prog f ≤ℤ pos (instructions_of prog f.function))
  budgets f fit entry =
      let all = at_entry f fit entry in (
        subst (λ n. value (numbers f.registers) (calls_left prog f.function n) ≤ℤ pos (self_calls_of prog f.function)) (sym entry.block)
            (at_most (known f.function 0 0) (numbers f.registers) (calls_left prog f.function 0) (self_calls_of prog f.function) (shown.budget_calls f.function) all),
        subst (λ n. value (numbers f.registers) (instructions_left prog f.function n) ≤ℤ pos (instructions_of prog f.function)) (sym entry.block)
            (at_most (known f.function 0 0) (numbers f.registers) (instructions_left prog f.function 0) (instructions_of prog f.function) (shown.budget_instructions f.function) all),
      )

  -- a self call
  one_below : (a b : ℤ) → (a +ℤ pos 1) ≤ℤ b → a <ℤ b
  one_below a b h = omega (arith, ints)

  falls : (p : Path) (f : Frame) (m : Memory) (d : Option RegisterId) (callee : ℕ) (vs : List Value) → fits f → callee ≡ f.function → Calls prog f d callee vs → measure_at prog (called p f callee vs) <ℤ measure_at prog f
  falls p f m d callee vs fit same c =
      let low : (value (numbers f.registers) (put (argument_forms c.arguments) (measure_of prog f.function)) +ℤ pos 1) ≤ℤ measure_at prog f =
      at_least (known f.function f.block f.index) (numbers f.registers) (measure_of prog f.function) (put (argument_forms c.arguments) (measure_of prog f.function)) 1
      (shown.falls f.function f.block f.index d c.function c.arguments c.is (c.number ∙ same)) (hold.here f fit) in
      let is : measure_at prog (called p f callee vs) ≡ value (numbers f.registers) (put (argument_forms c.arguments) (measure_of prog f.function)) =
      called_value f c.arguments vs (measure_of prog callee) c.values_are ∙ ap (λ n. value (numbers f.registers) (put (argument_forms c.arguments) (measure_of prog n))) same in
      subst (λ z. z <ℤ measure_at prog f) (sym is) (one_below _ _ low)

  pub costs_shown : CostRules prog fits
  costs_shown = record {
    steady = shown.steady;
    steady_phis = shown.steady_phis;
    over_parameters = shown.over_parameters;
    earlier = shown.earlier;
    some_left = some_left;
    some_left_on = some_left_on;
    edge = edge_covers;
    sync = sync_covers;
    detach = λ p f m r b k fit act. fork_covers f r b k fit (forks_here prog p f m r b k act);
    reattach = λ p f m r fit act. let (t, at, ends) = ends_here prog p f m (Reattach r) tt act in end_covers f t fit at ends;
    returns = λ p f m v fit act. let (t, at, ends) = ends_here prog p f m (Return v) tt act in end_covers f t fit at ends;
    measure = measures;
    falls = λ p f m d callee vs fit act same. falls p f m d callee vs fit same (calls_here prog p f m d callee vs act);
    budget = budgets;
  }
