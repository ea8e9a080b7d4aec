-- Registers that have a value keep one along the serial run.
use Rattle.std.proofs.Common.{◌≡◌, ◌≢◌, ℕ, zero, suc, ◌<◌, List, [], ◌∷◌, length, Option, Some, None, Bool, true, false, cond, eqb, eq-eqb, ◌⊎◌, inl, inr, refl, sym, ap, ◌∙◌, subst, arith, slice_get, is_some, ℤ}
use Rattle.std.proofs.lemmas.Bool.Decides.{eqb_tells}
use Rattle.semantics.specs.Paths.{Path}
use Rattle.semantics.specs.Cells.{Memory}
use Rattle.semantics.specs.Frames.{Value, Word, Registers, Frame, Does, Ends, item_at, phis_at, set_register, and_then}
use Rattle.semantics.specs.Effect.{Effect, Sync, phi_value, with_phis, argument_value, argument_values, action_of}
use Rattle.semantics.specs.State.{with_result}
use Rattle.semantics.proofs.Outcomes.{gave_same, left_none}
use Rattle.laws_conditions.specs.theorem.SerialConditions.{Says, KeptSerially}
use Rattle.linear.specs.declared.form.RegisterId.{RegisterId}
use Rattle.program.specs.declared.function.Program.{Program}
use Rattle.program.specs.declared.instruction.Argument.{Argument}
use Rattle.program.specs.declared.instruction.Instruction.{Instruction}
use Rattle.program.specs.declared.instruction.Instruction.TheVariants as instruction
use Rattle.program.specs.declared.instruction.Phi.{Phi}
use Rattle.program.specs.declared.instruction.Terminator.{Terminator}
use Rattle.program.specs.declared.instruction.Terminator.TheVariants as terminator
use Rattle.laws_conditions.specs.rules.Moves.{number_of, dest_of, GoesOn, Calls}
use Rattle.laws_conditions.specs.rules.InProofs.{Moves, is_next, is_along}
use Rattle.laws_conditions.specs.rules.Costs.{parameters_of}
use Rattle.laws_conditions.specs.rules.Registers.{returns_number, HasPhi, DefinesRegisters, Registered, GivesNumber, RegistersKept}
use Rattle.laws_conditions.proofs.rules.Moves.{moves, sync_here, syncs_along, calls_here, forks_here, returns_here, GivenBack}

abbrev Given : Registers → ℕ → Type 0
Given r x = is_some (r x) ≡ true

-- ---- registers that are set

set_given : (r : Registers) (d : RegisterId) (v : Value) (x : ℕ) → Given r x ⊎ (d.0 ≡ x) → Given (set_register r d v) x
set_given r d v x h = from (eqb d.0 x) refl h
  where
    from : (b : Bool) → eqb d.0 x ≡ b → Given r x ⊎ (d.0 ≡ x) → is_some (cond b (Some v) (r x)) ≡ true
    from true e k = refl
    from false e (inl k) = k
    from false e (inr k) = absurd (let t : eqb d.0 x ≡ true = eq-eqb d.0 x k in let c : true ≡ false = sym t ∙ e in cc)

phis_given : (before : Registers) (from : ℕ) (phis : List Phi) (r s : Registers) → with_phis before from phis r ≡ Some s → (x : ℕ) → Given r x ⊎ HasPhi phis x → Given s x
phis_given before from [] r s e x (inl h) = let same : r ≡ s = cc in subst (λ (u : Registers). Given u x) same h
phis_given before from [] r s e x (inr h) = absurd h
phis_given before from (phi ∷ phis) r s e x h = by_value (phi_value before from phi) e (λ z k. phis_given before from phis (set_register r phi.register (Word z)) s k x (on z h))
  where
    on : (z : ℤ) → Given r x ⊎ HasPhi (phi ∷ phis) x → Given (set_register r phi.register (Word z)) x ⊎ HasPhi phis x
    on z (inl k) = inl (set_given r phi.register (Word z) x (inl k))
    on z (inr (inl k)) = inl (set_given r phi.register (Word z) x (inr k))
    on z (inr (inr k)) = inr k

    by_value : (o : Option ℤ) → and_then o (λ z. with_phis before from phis (set_register r phi.register (Word z))) ≡ Some s → ((z : ℤ) → with_phis before from phis (set_register r phi.register (Word z)) ≡ Some s → Given s x) → Given s x
    by_value None k rest = absurd (cc)
    by_value (Some z) k rest = rest z k

values_given : (f : Frame) (arguments : List Argument) (vs : List Value) → argument_values f arguments ≡ Some vs → (x : ℕ) → x < length arguments → Given (slice_get vs) x
values_given f [] vs e x less = absurd (omega arith)
values_given f (a ∷ more) vs e x less = by_first (argument_value f a) e (λ us k y low. values_given f more us k y low)
  where
    by_index : (v : Value) (us : List Value) → ((y : ℕ) → y < length more → Given (slice_get us) y) → (y : ℕ) → y < suc (length more) → Given (slice_get (v ∷ us)) y
    by_index v us rest zero low = refl
    by_index v us rest (suc y) low = rest y (omega arith)

    by_rest : (v : Value) (o : Option (List Value)) → argument_values f more ≡ o → and_then o (λ us. Some (v ∷ us)) ≡ Some vs → ((us : List Value) → argument_values f more ≡ Some us → (y : ℕ) → y < length more → Given (slice_get us) y) → Given (slice_get vs) x
    by_rest v None is k rest = absurd (cc)
    by_rest v (Some us) is k rest = let same : v ∷ us ≡ vs = cc in subst (λ (u : List Value). Given (slice_get u) x) same (by_index v us (rest us is) x less)

    by_first : (o : Option Value) → and_then o (λ v. and_then (argument_values f more) (λ us. Some (v ∷ us))) ≡ Some vs → ((us : List Value) → argument_values f more ≡ Some us → (y : ℕ) → y < length more → Given (slice_get us) y) → Given (slice_get vs) x
    by_first None k rest = absurd (cc)
    by_first (Some v) k rest = by_rest v (argument_values f more) refl k rest

-- a result goes into the register that the call defines
result_given : (r : Registers) (d : Option RegisterId) (v : Option ℤ) (x : ℕ) → ((e : RegisterId) → d ≡ Some e → is_some v ≡ true) → Given r x ⊎ (number_of d ≡ Some x) → Given (with_result r d v) x
result_given r None v x some (inl h) = h
result_given r None v x some (inr h) = absurd (let c : None ≡ Some x = h in cc)
result_given r (Some d) None x some h = absurd (let c : false ≡ true = some d refl in cc)
result_given r (Some d) (Some z) x some (inl h) = set_given r d (Word z) x (inl h)
result_given r (Some d) (Some z) x some (inr h) = let same : d.0 ≡ x = cc in set_given r d (Word z) x (inr same)

module _ (prog : Program) (defined : ℕ → ℕ → ℕ → ℕ → Type 0) (rules : DefinesRegisters prog defined) where
  abbrev Good : Says
  Good = Registered defined

  -- after an instruction of its block
  next_given : (f : Frame) (e : Effect) (i : Instruction) (r : ℕ) → GoesOn f (dest_of i) e → Given f.registers r ⊎ (dest_of i ≡ Some r) → Given e.registers r
  next_given f e i r on (inr h) = on.given r h
  next_given f e i r on (inl h) = from (dest_of i) refl
    where
      kept : (dest_of i ≢ Some r) → Given e.registers r
      kept apart = rw (on.others r apart) h

      from : (o : Option ℕ) → dest_of i ≡ o → Given e.registers r
      from None is = kept (λ k. let c : None ≡ Some r = sym is ∙ k in cc)
      from (Some d) is = elim (eqb_tells d r) [ inl k ↦ on.given r (is ∙ ap (λ n. Some n) k.1) | inr k ↦ kept (λ h2. k.1 (let c : Some d ≡ Some r = sym is ∙ h2 in cc)) ]

  plain_given : (p : Path) (f : Frame) (m : Memory) (e : Effect) → Good p f m → Moves prog f e → (r : ℕ) → defined f.function e.block e.index r → Given e.registers r
  plain_given p f m e good (is_next i at on) r d =
      let here : defined f.function f.block (suc f.index) r = subst (λ n. defined f.function n (suc f.index) r) on.block (subst (λ n. defined f.function e.block n r) on.index d) in
      next_given f e i r on (elim (rules.step f.function f.block f.index r i at here) [ inl h ↦ inl (good r h) | inr h ↦ inr h ])
  plain_given p f m e good (is_along t at to on) r d =
      let here : defined f.function e.block 0 r = subst (λ n. defined f.function e.block n r) on.index d in
      phis_given f.registers f.block (phis_at prog f.function e.block) f.registers e.registers on.along r (elim (rules.along f.function f.block f.index e.block r t at to here) [ inl h ↦ inl (good r h) | inr h ↦ inr h ])

  sync_given : (p : Path) (f : Frame) (m : Memory) (q b : ℕ) (rs : Registers) → Good p f m → action_of prog p f m ≡ Sync q b rs → (r : ℕ) → defined f.function b 0 r → Given rs r
  sync_given p f m q b rs good act r d =
      let (t, at, to) = sync_here prog p f m q b rs act in
      phis_given f.registers f.block (phis_at prog f.function b) f.registers rs (syncs_along prog p f m q b rs act) r (elim (rules.sync f.function f.block f.index q b r t at to d) [ inl h ↦ inl (good r h) | inr h ↦ inr h ])

  called_given : (p : Path) (f : Frame) (g : ℕ) (vs : List Value) (d : Option RegisterId) → Calls prog f d g vs → (r : ℕ) → defined g 0 0 r → Given (slice_get vs) r
  called_given p f g vs d c r there =
      let low : r < parameters_of prog g = rules.entry g r there in
      let many : length c.arguments ≡ parameters_of prog c.function.0 = rules.arguments f.function f.block f.index d c.function c.arguments c.is in
      let same : parameters_of prog c.function.0 ≡ parameters_of prog g = ap (λ n. parameters_of prog n) c.number in
      values_given f c.arguments vs c.values_are r (omega (arith, low, many, same))

  resumed_given : (p : Path) (f : Frame) (m : Memory) (g : ℕ) (vs : List Value) (d : Option RegisterId) (v : Option ℤ) → Good p f m → Calls prog f d g vs → (returns_number prog g ≡ true → is_some v ≡ true) → (r : ℕ) → defined f.function f.block (suc f.index) r → Given (with_result f.registers d v) r
  resumed_given p f m g vs d v good c gives r there =
      result_given f.registers d v r some
      (elim (rules.step f.function f.block f.index r (instruction.Call d c.function c.arguments) c.is there) [ inl h ↦ inl (good r h) | inr h ↦ inr h ])
    where
      some : (e : RegisterId) → d ≡ Some e → is_some v ≡ true
      some e is =
          let at : item_at prog f.function f.block f.index ≡ Some (Does (instruction.Call (Some e) c.function c.arguments)) = c.is ∙ ap (λ x. Some (Does (instruction.Call x c.function c.arguments))) is in
          gives (sym (ap (λ n. returns_number prog n) c.number) ∙ rules.calls f.function f.block f.index e c.function c.arguments at)

  -- what a return gives
  given_back : (f : Frame) (t : Terminator) (v : Option ℤ) → item_at prog f.function f.block f.index ≡ Some (Ends t) → GivenBack t v → returns_number prog f.function ≡ true → is_some v ≡ true
  given_back f (terminator.Jump target) v at h number = absurd h
  given_back f (terminator.Branch test x y) v at h number = absurd h
  given_back f (terminator.Switch w a default cases) v at h number = absurd h
  given_back f (terminator.Return None) v at h number = absurd (let no : returns_number prog f.function ≡ false = rules.returns f.function f.block f.index at in let c : true ≡ false = sym number ∙ no in cc)
  given_back f (terminator.Return (Some a)) v at h number = h
  given_back f (terminator.Detach region body continuation) v at h number = absurd h
  given_back f (terminator.Reattach region continuation) v at h number = absurd h
  given_back f (terminator.Sync region target) v at h number = absurd h

  pub registers_kept : (base : Says) → KeptSerially prog base (Registered defined) (GivesNumber prog)
  registers_kept base = record {
    plain_kept = λ p f m e b good at fine nb. record { next = plain_given p f m e good (moves prog p f m e at fine); finds = λ o h. h };
    sync_kept = λ p f m r t rs b good at nb. record { next = sync_given p f m r t rs good at; finds = λ o h. h };
    child_kept = λ p f m r body next b good at nb. λ x d.
        let c = forks_here prog p f m r body next at in
        good x (rules.body f.function f.block f.index x c.region c.body c.continuation c.is (subst (λ n. defined f.function n 0 x) (sym c.body_is) d));
    continued_kept = λ p f m r body next b good at nc o gone h nb.
        let c = forks_here prog p f m r body next at in
        record { next = λ x d. good x (rules.continuation f.function f.block f.index x c.region c.body c.continuation c.is (subst (λ n. defined f.function n 0 x) (sym c.continuation_is) d)); finds = λ u k. k };
    callee_kept = λ p f m d g vs b good at nb. called_given p f g vs d (calls_here prog p f m d g vs at);
    resumed_kept = λ p f m d g vs b good at nc o v gave h nb. record { next = resumed_given p f m g vs d v good (calls_here prog p f m d g vs at) (h v gave); finds = λ u k. k };
    reattach_finds = λ p f m r b good at. λ v e number. absurd (left_none v e);
    return_finds = λ p f m v b good at. λ u e number.
        let (t, is, back) = returns_here prog p f m v at in
        subst (λ x. is_some x ≡ true) (gave_same v u e) (given_back f t v is back number);
  }

pub registers_kept_by_tests : RegistersKept
registers_kept_by_tests prog defined base rules = registers_kept prog (λ function block index r. defined function block index r ≡ true) rules (λ p f m. base p f m ≡ true)
