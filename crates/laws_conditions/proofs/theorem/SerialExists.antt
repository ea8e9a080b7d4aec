-- Where no instruction traps and the rank falls, the serial meaning exists, and what is found of the outcome holds.
use Rattle.std.proofs.Common.{◌≡◌, ℕ, suc, ◌≤◌, max, [], ◌∷◌, List, Option, Some, None, refl, sym, subst, arith, ℤ}
use Rattle.semantics.specs.Paths.{Path}
use Rattle.semantics.specs.Cells.{Memory, globals_of}
use Rattle.semantics.specs.Arithmetic.{Trap}
use Rattle.semantics.specs.Frames.{Value, Registers, Role, Child, Body, Frame}
use Rattle.semantics.specs.Effect.{Effect, Action, Plain, Detach, Reattach, Sync, Call, Return, action_of}
use Rattle.semantics.specs.State.{went, detached, continued, synced, called, waiting, resumed, root_frame}
use Rattle.semantics.specs.SerialMeaning.{Ending, Left, Gave, Outcome, Rest, written, cleared, after_effect, meaning, IsSerialMeaning}
use Rattle.laws_conditions.specs.theorem.SerialConditions.{Says, Finds, KeptSerially, Rank, Below, RunsOn, Nothing}
use Rattle.laws_conditions.specs.theorem.InProofs.{And, FindsBoth}
use Rattle.semantics.specs.SerialMeaning.{one_more, both_outcomes, at_last}
use Rattle.semantics.proofs.Actions.{return_is_body, reattach_is_child}
use Rattle.laws_conditions.proofs.theorem.RankInduction.{by_rank}
use Rattle.semantics.proofs.Fuel.{more_fuel}
use Rattle.linear.specs.declared.form.RegisterId.{RegisterId}
use Rattle.program.specs.declared.function.Program.{Program}

after_fine : (rest : Rest) (p : Path) (f : Frame) (m : Memory) (e : Effect) (t : Option Trap) (o : Outcome) → t ≡ None → rest p (went f e) (written e m) ≡ Some o → after_effect rest p f m e t ≡ Some (one_more o)
after_fine rest p f m e None o fine is = rw is
after_fine rest p f m e (Some t) o fine is = absurd (cc)

-- a child leaves, and a function's body gives a result
abbrev pub Suits : Role → Ending → Type 0
Suits (Child r n) Left = Unit {0}
Suits (Child r n) (Gave v) = ⊥
Suits Body Left = ⊥
Suits Body (Gave v) = Unit {0}

child_left : (r n : ℕ) (e : Ending) → Suits (Child r n) e → e ≡ Left
child_left r n Left s = refl
child_left r n (Gave v) s = absurd s

pub body_gave : (e : Ending) → Suits Body e → (v : Option ℤ) × (e ≡ Gave v)
body_gave Left s = absurd s
body_gave (Gave v) s = (v, refl)

record At : Type 0 where
  path : Path
  frame : Frame
  memory : Memory

module _ (prog : Program) (good : Says) (post : Finds) (rank : Frame → Rank) (kept : KeptSerially prog Nothing good post) (runs : RunsOn prog good rank) where
  pub record HasMeaning (p : Path) (f : Frame) (m : Memory) : Type 0 where
    pub fuel : ℕ
    pub outcome : Outcome
    pub is : meaning prog fuel p f m ≡ Some outcome
    pub finds : post p f m outcome
    pub suits : Suits f.role outcome.ending

  module _ (p : Path) (f : Frame) (m : Memory) (g : good p f m) (before : (q : Path) (h : Frame) (u : Memory) → Below (rank h) (rank f) → good q h u → HasMeaning q h u) where
    plain_means : (e : Effect) → action_of prog p f m ≡ Plain e → e.trap ≡ None → (n : ℕ) (o : Outcome) → meaning prog n p (went f e) (written e m) ≡ Some o → meaning prog (suc n) p f m ≡ Some (one_more o)
    plain_means e at fine n o is = rw at (after_fine (meaning prog n) p f m e e.trap o fine is)

    by_plain : (e : Effect) → action_of prog p f m ≡ Plain e → HasMeaning p f m
    by_plain e at =
        let fine = runs.no_trap p f m e g at in
        let on = kept.plain_kept p f m e tt g at fine tt in
        let u = before p (went f e) (written e m) (runs.plain_falls p f m e g at on.next) on.next in
        record { fuel = suc u.fuel; outcome = one_more u.outcome; is = plain_means e at fine u.fuel u.outcome u.is; finds = on.finds u.outcome u.finds; suits = u.suits }

    by_sync : (r b : ℕ) (rs : Registers) → action_of prog p f m ≡ Sync r b rs → HasMeaning p f m
    by_sync r b rs at =
        let on = kept.sync_kept p f m r b rs tt g at tt in
        let u = before p (synced f r b rs) m (runs.sync_falls p f m r b rs g at on.next) on.next in
        record { fuel = suc u.fuel; outcome = one_more u.outcome; is = rw (at, u.is); finds = on.finds u.outcome u.finds; suits = u.suits }

    up : (n k : ℕ) → n ≤ k → (q : Path) (h : Frame) (w : Memory) (o : Outcome) → meaning prog n q h w ≡ Some o → meaning prog k q h w ≡ Some o
    up n k less q h w o is = more_fuel prog n k less q h w o is

    detach_means : (r b next : ℕ) → action_of prog p f m ≡ Detach r b next → (n : ℕ) (o u : Outcome) → meaning prog n (f.made ∷ p) (detached f r b next) m ≡ Some o → o.ending ≡ Left →
        meaning prog n p (continued f next) o.memory ≡ Some u → meaning prog (suc n) p f m ≡ Some (both_outcomes o u)
    detach_means r b next at n o u e gone e2 = rw (at, e, gone, e2)

    by_detach : (r b next : ℕ) → action_of prog p f m ≡ Detach r b next → HasMeaning p f m
    by_detach r b next at =
        let child = kept.child_kept p f m r b next tt g at tt in
        let u = before (f.made ∷ p) (detached f r b next) m (runs.child_falls p f m r b next g at child) child in
        let gone = child_left r next u.outcome.ending u.suits in
        let on = kept.continued_kept p f m r b next tt g at tt u.outcome gone u.finds tt in
        let v = before p (continued f next) u.outcome.memory (runs.continued_falls p f m u.outcome.memory r b next g at on.next) on.next in
        record {
          fuel = suc (max u.fuel v.fuel);
          outcome = both_outcomes u.outcome v.outcome;
          is = detach_means r b next at (max u.fuel v.fuel) u.outcome v.outcome (up u.fuel (max u.fuel v.fuel) (omega arith) (f.made ∷ p) (detached f r b next) m u.outcome u.is) gone
              (up v.fuel (max u.fuel v.fuel) (omega arith) p (continued f next) u.outcome.memory v.outcome v.is);
          finds = on.finds v.outcome v.finds;
          suits = v.suits;
        }

    call_means : (d : Option RegisterId) (h : ℕ) (vs : List Value) → action_of prog p f m ≡ Call d h vs → (n : ℕ) (o u : Outcome) (x : Option ℤ) →
        meaning prog n (f.made ∷ p) (called p f h vs) m ≡ Some o → o.ending ≡ Gave x → meaning prog n p (resumed (waiting f d) d x) o.memory ≡ Some u → meaning prog (suc n) p f m ≡ Some (both_outcomes o u)
    call_means d h vs at n o u x e given e2 = rw (at, e, given, e2)

    by_call : (d : Option RegisterId) (h : ℕ) (vs : List Value) → action_of prog p f m ≡ Call d h vs → HasMeaning p f m
    by_call d h vs at =
        let body = kept.callee_kept p f m d h vs tt g at tt in
        let u = before (f.made ∷ p) (called p f h vs) m (runs.callee_falls p f m d h vs g at body) body in
        let (x, given) = body_gave u.outcome.ending u.suits in
        let on = kept.resumed_kept p f m d h vs tt g at tt u.outcome x given u.finds tt in
        let v = before p (resumed (waiting f d) d x) u.outcome.memory (runs.resumed_falls p f m u.outcome.memory d h vs x g at on.next) on.next in
        record {
          fuel = suc (max u.fuel v.fuel);
          outcome = both_outcomes u.outcome v.outcome;
          is = call_means d h vs at (max u.fuel v.fuel) u.outcome v.outcome x (up u.fuel (max u.fuel v.fuel) (omega arith) (f.made ∷ p) (called p f h vs) m u.outcome u.is) given
              (up v.fuel (max u.fuel v.fuel) (omega arith) p (resumed (waiting f d) d x) u.outcome.memory v.outcome v.is);
          finds = on.finds v.outcome v.finds;
          suits = v.suits;
        }

    by_reattach : (r : ℕ) → action_of prog p f m ≡ Reattach r → HasMeaning p f m
    by_reattach r at =
        let (n, role) = reattach_is_child prog p f m r at in
        record { fuel = 1; outcome = at_last Left m; is = rw at; finds = kept.reattach_finds p f m r tt g at; suits = subst (λ x. Suits x Left) (sym role) tt }

    by_return : (v : Option ℤ) → action_of prog p f m ≡ Return v → HasMeaning p f m
    by_return v at =
        let role = return_is_body prog p f m v at in
        record { fuel = 1; outcome = at_last (Gave v) (cleared p m); is = rw at; finds = kept.return_finds p f m v tt g at; suits = subst (λ x. Suits x (Gave v)) (sym role) tt }

    by_any : (a : Action) → action_of prog p f m ≡ a → HasMeaning p f m
    by_any (Plain e) at = by_plain e at
    by_any (Detach r b next) at = by_detach r b next at
    by_any (Reattach r) at = by_reattach r at
    by_any (Sync r b rs) at = by_sync r b rs at
    by_any (Call d h vs) at = by_call d h vs at
    by_any (Return v) at = by_return v at

  pub all_mean : (p : Path) (f : Frame) (m : Memory) → good p f m → HasMeaning p f m
  all_mean p f m g =
      by_rank At (λ x. rank x.frame) (λ x. good x.path x.frame x.memory → HasMeaning x.path x.frame x.memory)
      (λ x before here. by_any x.path x.frame x.memory here (λ q h u low fit. before (record { path = q; frame = h; memory = u }) low fit) (action_of prog x.path x.frame x.memory) refl)
      (record { path = p; frame = f; memory = m }) g

-- the serial run of the whole program
pub serial_meaning : (prog : Program) (good : Says) (post : Finds) (rank : Frame → Rank) → KeptSerially prog Nothing good post → RunsOn prog good rank → (arguments : List ℤ) (given : Memory) → good [] (root_frame prog arguments) (globals_of given) →
    (o : Outcome) × IsSerialMeaning prog arguments given o × post [] (root_frame prog arguments) (globals_of given) o
serial_meaning prog good post rank kept runs arguments given start =
    let means = all_mean prog good post rank kept runs [] (root_frame prog arguments) (globals_of given) start in
    (means.outcome, record { within = means.fuel; meets = means.is }, means.finds)

-- two things that are kept, the second with the help of the first
pub kept_both : (prog : Program) (base good good2 : Says) (post post2 : Finds) → KeptSerially prog base good post → KeptSerially prog (And base good) good2 post2 → KeptSerially prog base (And good good2) (FindsBoth post post2)
kept_both prog base good good2 post post2 k l = record {
  plain_kept = λ p f m e b g at fine nb.
      let x = k.plain_kept p f m e b g.0 at fine nb in
      let y = l.plain_kept p f m e (b, g.0) g.1 at fine (nb, x.next) in
      record { next = (x.next, y.next); finds = λ o h. (x.finds o h.0, y.finds o h.1) };
  sync_kept = λ p f m r t rs b g at nb.
      let x = k.sync_kept p f m r t rs b g.0 at nb in
      let y = l.sync_kept p f m r t rs (b, g.0) g.1 at (nb, x.next) in
      record { next = (x.next, y.next); finds = λ o h. (x.finds o h.0, y.finds o h.1) };
  child_kept = λ p f m r body next b g at nb.
      let x = k.child_kept p f m r body next b g.0 at nb in
      (x, l.child_kept p f m r body next (b, g.0) g.1 at (nb, x));
  continued_kept = λ p f m r body next b g at nc o gone h nb.
      let c = k.child_kept p f m r body next b g.0 at nc in
      let x = k.continued_kept p f m r body next b g.0 at nc o gone h.0 nb in
      let y = l.continued_kept p f m r body next (b, g.0) g.1 at (nc, c) o gone h.1 (nb, x.next) in
      record { next = (x.next, y.next); finds = λ u v. (x.finds u v.0, y.finds u v.1) };
  callee_kept = λ p f m d h vs b g at nb.
      let x = k.callee_kept p f m d h vs b g.0 at nb in
      (x, l.callee_kept p f m d h vs (b, g.0) g.1 at (nb, x));
  resumed_kept = λ p f m d h vs b g at nc o v gave_v e nb.
      let c = k.callee_kept p f m d h vs b g.0 at nc in
      let x = k.resumed_kept p f m d h vs b g.0 at nc o v gave_v e.0 nb in
      let y = l.resumed_kept p f m d h vs (b, g.0) g.1 at (nc, c) o v gave_v e.1 (nb, x.next) in
      record { next = (x.next, y.next); finds = λ u w. (x.finds u w.0, y.finds u w.1) };
  reattach_finds = λ p f m r b g at. (k.reattach_finds p f m r b g.0 at, l.reattach_finds p f m r (b, g.0) g.1 at);
  return_finds = λ p f m v b g at. (k.return_finds p f m v b g.0 at, l.return_finds p f m v (b, g.0) g.1 at);
}

fuel_alone : (prog : Program) (n k : ℕ) (p : Path) (f : Frame) (m : Memory) (o u : Outcome) → meaning prog n p f m ≡ Some o → meaning prog k p f m ≡ Some u → o ≡ u
fuel_alone prog n k p f m o u e h =
    let a : meaning prog (max n k) p f m ≡ Some o = more_fuel prog n (max n k) (omega arith) p f m o e in
    let b : meaning prog (max n k) p f m ≡ Some u = more_fuel prog k (max n k) (omega arith) p f m u h in
    cc

-- the serial meaning is a function
pub serial_alone : (prog : Program) (arguments : List ℤ) (given : Memory) (o u : Outcome) → IsSerialMeaning prog arguments given o → IsSerialMeaning prog arguments given u → o ≡ u
serial_alone prog arguments given o u a b = fuel_alone prog a.within b.within [] (root_frame prog arguments) (globals_of given) o u a.meets b.meets
