-- The law that facts are kept.
use Rattle.std.proofs.Common.{◌≡◌, ◌≢◌, ◌∙◌, ℕ, ◌<◌, ◌≤◌, ℤ, ◌≤ℤ◌, true, false, List, [], ◌∷◌, length, Option, Some, None, inl, inr, refl, sym, ap, subst, arith, slice_get, is_some, get_or}
use Rattle.std.specs.List.{All}
use Rattle.std.proofs.lemmas.Bool.{ne_eqb, eq-eqb}
use Rattle.std.proofs.lemmas.Bool.Decides.{eqb_tells}
use Rattle.std.proofs.lemmas.List.Elements.{All-head, All-tail, All-contains}
use Rattle.semantics.specs.Paths.{Path}
use Rattle.semantics.specs.Cells.{Memory}
use Rattle.semantics.specs.Written.{or_zero}
use Rattle.semantics.specs.Frames.{Value, Word, Registers, Frame, Item, Does, Ends, Role, Child, Body, item_at, phis_at, and_then, word_of, word_at, set_register}
use Rattle.semantics.specs.Arithmetic.{Undefined, Unmatched}
use Rattle.semantics.specs.Effect.{stops, returns, returns_value, Effect, Plain, Sync, Return, registers_along, phi_value, with_phis, terminator_action, item_action, action_of}
use Rattle.semantics.specs.State.{went, detached, continued, synced, called, with_result}
use Rattle.semantics.proofs.Outcomes.{gave_same, left_none}
use Rattle.laws_conditions.specs.theorem.SerialConditions.{Says, KeptSerially}
use Rattle.linear.specs.Forms.{value}
use Rattle.linear_shown.specs.Shown.{AllHold}
use Rattle.linear.specs.declared.form.Fact.{Fact}
use Rattle.linear.specs.declared.form.RegisterId.{RegisterId}
use Rattle.linear.proofs.Values.{value_same}
use Rattle.program.specs.declared.annotation.Inequality.{Inequality}
use Rattle.program.specs.declared.function.Function.{Function}
use Rattle.program.specs.declared.function.Program.{Program}
use Rattle.program.specs.declared.instruction.Instruction.{Instruction}
use Rattle.program.specs.declared.instruction.Instruction.TheVariants as instruction
use Rattle.program.specs.declared.instruction.Operand.{Operand}
use Rattle.program.specs.declared.instruction.Phi.{Phi}
use Rattle.program.specs.declared.instruction.Terminator.{Terminator}
use Rattle.program.specs.declared.instruction.Terminator.TheVariants as terminator
use Rattle.ranges.specs.Truth.{operand_value}
use Rattle.ranges.specs.ranges_owed.Inequalities.{operand_for, result_moves}
use Rattle.ranges.specs.Edges.{edges_out}
use Rattle.ranges.specs.ranges_owed.Owed.{owed_at_end, inequalities_owed}
use Rattle.ranges.specs.Sums.{is_met}
use Rattle.laws_conditions.specs.rules.Costs.{numbers, parameters_of}
use Rattle.program.specs.Heads.{parameters_in}
use Rattle.laws_conditions.specs.rules.Moves.{dest_of, Calls, Forks}
use Rattle.laws_conditions.specs.rules.InProofs.{Moves, is_next, is_along}
use Rattle.laws_conditions.specs.rules.Registers.{returns_number}
use Rattle.laws_conditions.proofs.rules.Moves.{moves, sync_here, syncs_along, calls_here, forks_here, returns_here, GivenBack}
use Rattle.laws_phases.specs.facts.Known.{known_at_place, IsMet, KnownHold}
use Rattle.laws_phases.specs.facts.Owing.{IsGiven, IsTyped, AreFactsStable, HasWidths}
use Rattle.ranges.specs.Rules.{AreRangesRight}
use Rattle.laws_phases.specs.facts.Kept.{with_returned, AreEnsured, IsEnsured, Knows, Ensures, FactsKept}
use Rattle.laws_phases.proofs.facts.Sums.{word_value, met_from_moved}
use Rattle.laws_phases.proofs.facts.Effects.{learned_here}
use Rattle.laws_phases.proofs.facts.Places.{EndAt, end_at, end_met, owed_true}
use Rattle.laws_phases.proofs.facts.Steps.{HoldsBehind, holds_behind}
use Rattle.laws_phases.proofs.facts.Edges.{IsTaken, taken, sync_taken, body_taken, continuation_taken, tests_here, lands_along, lands_forked}
use Rattle.laws_phases.proofs.facts.Calls.{enters_callee, learned_from_call, call_others}

-- at a block's start no compare of it is done
pub at_start : (prog : Program) (g : Frame) → g.index ≡ 0 → AllHold (numbers g.registers) (known_at_place prog g.function g.block 0) → KnownHold prog g
at_start prog g start all = record {
  facts = subst (λ n. AllHold (numbers g.registers) (known_at_place prog g.function g.block n)) (sym start) all;
  tests = λ k i l there. absurd (omega (arith, l, start));
}

-- ---- what `ensures` read stays

same_returned : (prog : Program) (g : ℕ) (function : Function) (r s : Registers) (result : Option ℤ) (x : ℕ) → ((y : ℕ) → y < length function.parameters → s y ≡ r y) → IsGiven prog g function x →
    with_returned function (numbers s) result x ≡ with_returned function (numbers r) result x
same_returned prog g function r s result x same given = elim (eqb_tells x (length function.registers)) [
  | inl e ↦ rw e.0 refl
  | inr e ↦ elim given [
    | inl l ↦ rw e.0 (ap (λ o. or_zero (word_of o)) (same x l))
    | inr h ↦ absurd (e.1 h.0)
  ]
]

met_same : (v w : ℕ → ℤ) (q : Inequality) → All (λ t. v t.register.0 ≡ w t.register.0) q.low.terms → All (λ t. v t.register.0 ≡ w t.register.0) q.high.terms → IsMet v q → IsMet w q
met_same v w q low high h = subst (λ z. z ≤ℤ value w q.high) (value_same v w q.low low) (subst (λ z. value v q.low ≤ℤ z) (value_same v w q.high high) h)

phis_below : (given : Registers) (from n : ℕ) (phis : List Phi) (r s : Registers) → All (λ phi. n ≤ phi.register.0) phis → with_phis given from phis r ≡ Some s → (x : ℕ) → x < n → s x ≡ r x
phis_below given from n [] r s all e x l = let same : r ≡ s = cc in sym (ap (λ (u : Registers). u x) same)
phis_below given from n (phi ∷ phis) r s all e x l =
    by_value (phi_value given from phi) e (λ z k. phis_below given from n phis (set_register r phi.register (Word z)) s (All-tail (λ (p : Phi). n ≤ p.register.0) phi phis all) k x l)
  where
    low : n ≤ phi.register.0
    low = All-head (λ (p : Phi). n ≤ p.register.0) phi phis all

    apart : (z : ℤ) → set_register r phi.register (Word z) x ≡ r x
    apart z = rw (ne_eqb phi.register.0 x (λ h. absurd (let k = low in omega (arith, k, l, h)))) refl

    by_value : (o : Option ℤ) → and_then o (λ z. with_phis given from phis (set_register r phi.register (Word z))) ≡ Some s →
        ((z : ℤ) → with_phis given from phis (set_register r phi.register (Word z)) ≡ Some s → s x ≡ set_register r phi.register (Word z) x) → s x ≡ r x
    by_value None k rest = absurd (cc)
    by_value (Some z) k rest = rest z k ∙ apart z

module _ (prog : Program) (right : AreRangesRight prog) (typed : IsTyped prog) (stable : AreFactsStable prog) where
  ensured_before : (fn : ℕ) (r s : Registers) (result : Option ℤ) → ((x : ℕ) → x < parameters_of prog fn → s x ≡ r x) → (o : Option Function) → slice_get prog.functions fn ≡ o → AreEnsured o s result → AreEnsured o r result
  ensured_before fn r s result same None at h = tt
  ensured_before fn r s result same (Some function) at h =
      let below : (y : ℕ) → y < length function.parameters → s y ≡ r y = λ y l. same y (subst (λ n. y < n) (sym (ap parameters_in at)) l) in
      λ i q l. met_same (with_returned function (numbers s) result) (with_returned function (numbers r) result) (get_or function.guarantees i q)
      (λ j t m. same_returned prog fn function r s result _ below ((typed.guarantees fn function at i q l).low j t m))
      (λ j t m. same_returned prog fn function r s result _ below ((typed.guarantees fn function at i q l).high j t m)) (h i q l)

  -- what a frame later ensures it ensures now
  finds_before : (f : Frame) (s : Registers) (returned : Option ℤ) → ((x : ℕ) → x < parameters_of prog f.function → s x ≡ f.registers x) →
      (returns_number prog f.function ≡ true → is_some returned ≡ true) → AreEnsured (slice_get prog.functions f.function) s returned → IsEnsured prog f returned
  finds_before f s returned same number h = record { number = number; holds = ensured_before f.function f.registers s returned same (slice_get prog.functions f.function) refl h }

  dest_below : (f : Frame) (i : Instruction) (s : Registers) → item_at prog f.function f.block f.index ≡ Some (Does i) → ((x : ℕ) → dest_of i ≢ Some x → s x ≡ f.registers x) → (x : ℕ) → x < parameters_of prog f.function → s x ≡ f.registers x
  dest_below f i s at others x l = others x (λ e. absurd (let h = (stable.steps f.function f.block f.index i x at e).parameter in omega (arith, h, l)))

  along_below : (f : Frame) (target : ℕ) (s : Registers) → registers_along prog f target ≡ Some s → (x : ℕ) → x < parameters_of prog f.function → s x ≡ f.registers x
  along_below f target s is x l = phis_below f.registers f.block (parameters_of prog f.function) (phis_at prog f.function target) f.registers s (stable.phis f.function target) is x l

  -- no edge leads to the entry
  not_entry : (f : Frame) (t : Terminator) (place : EndAt prog f.function f.block f.index t) (v : ℕ → ℤ) (target : ℕ) → item_at prog f.function f.block f.index ≡ Some (Ends t) → IsTaken place.of.block.steps t v target → target ≢ 0
  not_entry f t place v target at way e =
      All-contains (λ d. d.to.0 ≢ 0) (edges_out place.of.block.steps t) way.edge (typed.entry f.function f.block f.index t place.of.block.steps at) way.among (way.to ∙ e)

  -- ---- plain instructions

  pub same_action : (p : Path) (f : Frame) (m : Memory) (x : Item) (e : Effect) → action_of prog p f m ≡ Plain e → item_at prog f.function f.block f.index ≡ Some x → item_action prog p f m (Some x) ≡ Plain e
  same_action p f m x e act at = sym (ap (item_action prog p f m) at) ∙ act

  plain_next : (p : Path) (f : Frame) (m : Memory) (e : Effect) → KnownHold prog f → HasWidths prog f → action_of prog p f m ≡ Plain e → e.trap ≡ None → Moves prog f e → KnownHold prog (went f e)
  plain_next p f m e good widths act fine (is_next i at on) =
      let behind : HoldsBehind prog right stable f e.registers =
      holds_behind prog right stable f i e.registers good at on.others
      (learned_here prog.functions (known_at_place prog f.function f.block f.index) f good.facts prog p m i e (λ d is. (stable.steps f.function f.block f.index i d at is).operands) (widths i at) (same_action p f m (Does i) e act at) fine) in
      record {
        facts =
            subst (λ n. AllHold (numbers e.registers) (known_at_place prog f.function n e.index)) (sym on.block)
            (subst (λ n. AllHold (numbers e.registers) (known_at_place prog f.function f.block n)) (sym on.index) behind.facts);
        tests = λ k j l there. behind.tests k j (subst (λ n. k < n) on.index l) (subst (λ n. item_at prog f.function n k ≡ Some (Does j)) on.block there);
      }
  plain_next p f m e good widths act fine (is_along t at to on) =
      let place : EndAt prog f.function f.block f.index t = end_at prog f.function f.block f.index t at in
      let way : IsTaken place.of.block.steps t (numbers f.registers) e.block =
      taken prog f place.of.block.steps (tests_here prog right f t place good) p t e to (same_action p f m (Ends t) e act at) fine in
      at_start prog (went f e) on.index (lands_along prog right f t place good e.block e.registers (not_entry f t place (numbers f.registers) e.block at way) way (stable.apart f.function e.block) on.along)

  plain_below : (f : Frame) (e : Effect) → Moves prog f e → (x : ℕ) → x < parameters_of prog f.function → e.registers x ≡ f.registers x
  plain_below f e (is_next i at on) = dest_below f i e.registers at on.others
  plain_below f e (is_along t at to on) = along_below f e.block e.registers on.along

  -- ---- syncs and detaches

  sync_next : (p : Path) (f : Frame) (m : Memory) (region block : ℕ) (s : Registers) → KnownHold prog f → action_of prog p f m ≡ Sync region block s → KnownHold prog (synced f region block s)
  sync_next p f m region block s good act =
      let (t, at, to) = sync_here prog p f m region block s act in
      let place : EndAt prog f.function f.block f.index t = end_at prog f.function f.block f.index t at in
      let way : IsTaken place.of.block.steps t (numbers f.registers) block = sync_taken prog f place.of.block.steps (tests_here prog right f t place good) t region block to in
      at_start prog (synced f region block s) refl (lands_along prog right f t place good block s (not_entry f t place (numbers f.registers) block at way) way (stable.apart f.function block) (syncs_along prog p f m region block s act))

  pub child_facts : (f : Frame) (r b k : ℕ) → KnownHold prog f → Forks prog f r b k → AllHold (numbers f.registers) (known_at_place prog f.function b 0)
  child_facts f r b k good c =
      let t : Terminator = terminator.Detach c.region c.body c.continuation in
      let place : EndAt prog f.function f.block f.index t = end_at prog f.function f.block f.index t c.is in
      let way : IsTaken place.of.block.steps t (numbers f.registers) c.body.0 = body_taken prog f place.of.block.steps (tests_here prog right f t place good) c.region c.body c.continuation in
      subst (λ n. AllHold (numbers f.registers) (known_at_place prog f.function n 0)) c.body_is
      (lands_forked prog right f t place good c.body.0 (not_entry f t place (numbers f.registers) c.body.0 c.is way) way (typed.forks f.function f.block f.index c.region c.body c.continuation c.is).0)

  pub continued_facts : (f : Frame) (r b k : ℕ) → KnownHold prog f → Forks prog f r b k → AllHold (numbers f.registers) (known_at_place prog f.function k 0)
  continued_facts f r b k good c =
      let t : Terminator = terminator.Detach c.region c.body c.continuation in
      let place : EndAt prog f.function f.block f.index t = end_at prog f.function f.block f.index t c.is in
      let way : IsTaken place.of.block.steps t (numbers f.registers) c.continuation.0 = continuation_taken prog f place.of.block.steps (tests_here prog right f t place good) c.region c.body c.continuation in
      subst (λ n. AllHold (numbers f.registers) (known_at_place prog f.function n 0)) c.continuation_is
      (lands_forked prog right f t place good c.continuation.0 (not_entry f t place (numbers f.registers) c.continuation.0 c.is way) way (typed.forks f.function f.block f.index c.region c.body c.continuation c.is).1)

  -- ---- calls

  resumed_next : (p : Path) (f : Frame) (m : Memory) (d : Option RegisterId) (callee : ℕ) (values : List Value) (result : Option ℤ) → KnownHold prog f → Calls prog f d callee values → IsEnsured prog (called p f callee values) result →
      HoldsBehind prog right stable f (with_result f.registers d result)
  resumed_next p f m d callee values result good c ensured =
      holds_behind prog right stable f (instruction.Call d c.function c.arguments) (with_result f.registers d result) good c.is (call_others prog right typed stable f d result)
      (learned_from_call prog right typed stable f d callee values result (known_at_place prog f.function f.block f.index) c ensured.number ensured.holds)

  -- ---- returns

  returned_number : (f : Frame) (t : Terminator) (v : Option ℤ) → item_at prog f.function f.block f.index ≡ Some (Ends t) → GivenBack t v → returns_number prog f.function ≡ true → is_some v ≡ true
  returned_number f (terminator.Jump target) v at h number = absurd h
  returned_number f (terminator.Branch test x y) v at h number = absurd h
  returned_number f (terminator.Switch w a default cases) v at h number = absurd h
  returned_number f (terminator.Return None) v at h number = absurd (let never : returns_number prog f.function ≡ false = typed.returns f.function f.block f.index at in let c : true ≡ false = sym number ∙ never in cc)
  returned_number f (terminator.Return (Some a)) v at h number = h
  returned_number f (terminator.Detach region body continuation) v at h number = absurd h
  returned_number f (terminator.Reattach region continuation) v at h number = absurd h
  returned_number f (terminator.Sync region target) v at h number = absurd h

  role_is : (f : Frame) (role : Role) (u v : Option ℤ) → returns f role u ≡ Return v → u ≡ v
  role_is f (Child r c) u v e = absurd (let h : Plain (stops Unmatched f) ≡ Return v = e in cc)
  role_is f Body u v e = let h : Return u ≡ Return v = e in cc

  value_is : (f : Frame) (o v : Option ℤ) → returns_value f o ≡ Return v → o ≡ v
  value_is f None v e = absurd (let h : Plain (stops Undefined f) ≡ Return v = e in cc)
  value_is f (Some z) v e = role_is f f.role (Some z) v e

  -- what is returned is the operand's number
  abbrev Gives : Frame → Option Operand → Option ℤ → Type 0
  Gives f None v = v ≡ None
  Gives f (Some a) v = (word_at f.registers a ≡ v) × (is_some v ≡ true)

  some_word : (r : Registers) (a : Operand) (v : Option ℤ) → word_at r a ≡ v → is_some v ≡ true → operand_value (numbers r) a ≡ or_zero v
  some_word r a None e some = absurd (cc)
  some_word r a (Some z) e some = word_value r a z e

  result_is : (f : Frame) (function : Function) (value : Option Operand) (v : Option ℤ) (r : RegisterId) → length function.parameters ≤ length function.registers → Gives f value v → (value ≡ None → returns_number prog f.function ≡ false) → IsGiven prog f.function function r.0 →
      operand_value (numbers f.registers) (operand_for (result_moves function value) r) ≡ with_returned function (numbers f.registers) v r.0
  result_is f function None v r fewer gives none given = elim given [
    | inl l ↦ rw (ne_eqb r.0 (length function.registers) (λ e. absurd (omega (arith, l, fewer, e)))) refl
    | inr h ↦ absurd (let c : true ≡ false = sym h.1 ∙ none refl in cc)
  ]
  result_is f function (Some a) v r fewer gives none given = elim (eqb_tells (length function.registers) r.0) [
    | inl e ↦ rw (e.0, eq-eqb r.0 (length function.registers) (sym e.1)) (some_word f.registers a v gives.0 gives.1)
    | inr e ↦ rw (e.0, ne_eqb r.0 (length function.registers) (λ h. e.1 (sym h))) refl
  ]

  ensured_here : (f : Frame) (value : Option Operand) (v : Option ℤ) → KnownHold prog f → item_at prog f.function f.block f.index ≡ Some (Ends (terminator.Return value)) → Gives f value v →
      (o : Option Function) → slice_get prog.functions f.function ≡ o → AreEnsured o f.registers v
  ensured_here f value v good at gives None is = tt
  ensured_here f value v good at gives (Some function) is =
      let place : EndAt prog f.function f.block f.index (terminator.Return value) = end_at prog f.function f.block f.index (terminator.Return value) at in
      let same : place.of.function ≡ function = (let both : Some place.of.function ≡ Some function = sym place.of.at_function ∙ is in cc) in
      let known : List Fact = known_at_place prog f.function f.block (length place.of.block.steps) in
      let by_end : All (λ y. is_met known y ≡ true) (owed_at_end place.of.function (terminator.Return value)) =
      subst (λ t. All (λ y. is_met known y ≡ true) (owed_at_end place.of.function t)) place.is (end_met prog right f.function f.block place.of place.ending place.at_ending) in
      let all : All (λ y. is_met known y ≡ true) (inequalities_owed 507 (result_moves function value) function.guarantees) =
      subst (λ (g : Function). All (λ y. is_met known y ≡ true) (inequalities_owed 507 (result_moves g value) g.guarantees)) same by_end in
      let hold : AllHold (numbers f.registers) known = subst (λ n. AllHold (numbers f.registers) (known_at_place prog f.function f.block n)) place.index_is good.facts in
      let sums = owed_true known 507 (result_moves function value) function.guarantees all (numbers f.registers) hold in
      let put : (r : RegisterId) → IsGiven prog f.function function r.0 → operand_value (numbers f.registers) (operand_for (result_moves function value) r) ≡ with_returned function (numbers f.registers) v r.0 =
      λ r given. result_is f function value v r (typed.parameters f.function function is) gives
      (λ e. typed.returns f.function f.block f.index (subst (λ u. item_at prog f.function f.block f.index ≡ Some (Ends (terminator.Return u))) e at)) given in
      λ i q l. met_from_moved (numbers f.registers) (with_returned function (numbers f.registers) v) (result_moves function value) (get_or function.guarantees i q)
      (λ j t m. put _ ((typed.guarantees f.function function is i q l).low j t m)) (λ j t m. put _ ((typed.guarantees f.function function is i q l).high j t m)) (sums i q l)

  ensured_by : (p : Path) (f : Frame) (t : Terminator) (v : Option ℤ) → KnownHold prog f → item_at prog f.function f.block f.index ≡ Some (Ends t) → GivenBack t v → terminator_action prog p f t ≡ Return v → AreEnsured (slice_get prog.functions f.function) f.registers v
  ensured_by p f (terminator.Jump target) v good at h act = absurd h
  ensured_by p f (terminator.Branch test x y) v good at h act = absurd h
  ensured_by p f (terminator.Switch w a default cases) v good at h act = absurd h
  ensured_by p f (terminator.Return None) v good at h act = ensured_here f None v good at (sym (role_is f f.role None v act)) (slice_get prog.functions f.function) refl
  ensured_by p f (terminator.Return (Some a)) v good at h act = ensured_here f (Some a) v good at (value_is f (word_at f.registers a) v act, h) (slice_get prog.functions f.function) refl
  ensured_by p f (terminator.Detach region body continuation) v good at h act = absurd h
  ensured_by p f (terminator.Reattach region continuation) v good at h act = absurd h
  ensured_by p f (terminator.Sync region target) v good at h act = absurd h

  return_ensured : (p : Path) (f : Frame) (m : Memory) (v : Option ℤ) → KnownHold prog f → action_of prog p f m ≡ Return v → IsEnsured prog f v
  return_ensured p f m v good act =
      let (t, at, back) = returns_here prog p f m v act in
      record { number = returned_number f t v at back; holds = ensured_by p f t v good at back (sym (ap (item_action prog p f m) at) ∙ act) }

  pub facts_kept : (base : Says) → ((p : Path) (f : Frame) (m : Memory) → base p f m → HasWidths prog f) → KeptSerially prog base (Knows prog) (Ensures prog)
  facts_kept base widths = record {
    plain_kept = λ p f m e b good act fine nb.
        let way = moves prog p f m e act fine in
        record { next = plain_next p f m e good (widths p f m b) act fine way; finds = λ o h returned gave. let k = h returned gave in finds_before f e.registers returned (plain_below f e way) k.number k.holds };
    sync_kept = λ p f m region block s b good act nb.
        record { next = sync_next p f m region block s good act; finds = λ o h returned gave. let k = h returned gave in finds_before f s returned (along_below f block s (syncs_along prog p f m region block s act)) k.number k.holds };
    child_kept = λ p f m r body next b good act nb. at_start prog (detached f r body next) refl (child_facts f r body next good (forks_here prog p f m r body next act));
    continued_kept = λ p f m r body next b good act nc o gone h nb.
        record {
          next = at_start prog (continued f next) refl (continued_facts f r body next good (forks_here prog p f m r body next act));
          finds = λ u h2 returned gave. let k = h2 returned gave in record { number = k.number; holds = k.holds };
        };
    callee_kept = λ p f m d g vs b good act nb. at_start prog (called p f g vs) refl (enters_callee prog right typed stable f d g vs good (calls_here prog p f m d g vs act));
    resumed_kept = λ p f m d g vs b good act nc o v gave h nb.
        let c = calls_here prog p f m d g vs act in
        let behind = resumed_next p f m d g vs v good c (h v gave) in
        record {
          next = record { facts = behind.facts; tests = behind.tests };
          finds = λ u h2 returned gave2.
              let k = h2 returned gave2 in
              finds_before f (with_result f.registers d v) returned (dest_below f (instruction.Call d c.function c.arguments) (with_result f.registers d v) c.is (call_others prog right typed stable f d v)) k.number k.holds;
        };
    reattach_finds = λ p f m r b good act. λ returned gave. absurd (left_none returned gave);
    return_finds = λ p f m v b good act. λ returned gave. subst (IsEnsured prog f) (gave_same v returned gave) (return_ensured p f m v good act);
  }

pub facts_kept_by_tests : FactsKept
facts_kept_by_tests prog base right typed stable widths = facts_kept prog right typed stable (λ p f m. base p f m ≡ true) widths
