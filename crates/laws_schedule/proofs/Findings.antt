-- What is found of each outcome of the serial run that there is, where it is kept.
use Rattle.std.proofs.Common.{◌≡◌, ℕ, zero, suc, ◌+◌, ◌≤◌, max, ◌∷◌, Option, Some, ℤ, refl, sym, subst, arith}
use Rattle.semantics.specs.Paths.{Path}
use Rattle.semantics.specs.Cells.{Memory}
use Rattle.semantics.specs.Frames.{Body, Frame}
use Rattle.semantics.specs.Effect.{Action, Plain, Detach, Reattach, Sync, Call, Return, action_of}
use Rattle.semantics.specs.State.{went, detached, continued, synced, called, waiting, resumed}
use Rattle.semantics.specs.SerialMeaning.{Left, Gave, Outcome, written, cleared, meaning}
use Rattle.semantics.specs.SerialMeaning.{by_action}
use Rattle.laws_conditions.specs.theorem.SerialConditions.{Says, Finds, Nothing, KeptSerially}
use Rattle.semantics.proofs.Actions.{return_is_body, reattach_is_child}
use Rattle.semantics.proofs.Outcomes.{counted_is, joined_is, from_effect, from_child, from_call, from_last}
use Rattle.laws_conditions.proofs.theorem.SerialExists.{Suits, body_gave}
use Rattle.program.specs.declared.function.Program.{Program}

module _ (prog : Program) (good : Says) (post : Finds) (kept : KeptSerially prog Nothing good post) where
  module _ (n : ℕ) (before : (p : Path) (f : Frame) (m : Memory) (o : Outcome) → good p f m → meaning prog n p f m ≡ Some o → post p f m o)
      (p : Path) (f : Frame) (m : Memory) (g : good p f m) (u : Outcome)
    where
      by_found : (a : Action) → action_of prog p f m ≡ a → by_action (meaning prog n) p f m a ≡ Some u → post p f m u
      by_found (Plain e) at is =
          let (fine, next) = from_effect (meaning prog n) p f m e e.trap u is in
          let (v, there, same) = counted_is (meaning prog n p (went f e) (written e m)) u next in
          let on = kept.plain_kept p f m e tt g at fine tt in
          subst (λ o. post p f m o) same (on.finds v (before p (went f e) (written e m) v on.next there))
      by_found (Sync r b rs) at is =
          let (v, there, same) = counted_is (meaning prog n p (synced f r b rs) m) u is in
          let on = kept.sync_kept p f m r b rs tt g at tt in
          subst (λ o. post p f m o) same (on.finds v (before p (synced f r b rs) m v on.next there))
      by_found (Detach r body next) at is =
          let (c, found, gone, rest) = from_child (meaning prog n) p (continued f next)
          (meaning prog n (f.made ∷ p) (detached f r body next) m) u is in
          let (v, there, same) = joined_is c (meaning prog n p (continued f next) c.memory) u rest in
          let child = kept.child_kept p f m r body next tt g at tt in
          let on = kept.continued_kept p f m r body next tt g at tt c gone
          (before (f.made ∷ p) (detached f r body next) m c child found) tt in
          subst (λ o. post p f m o) same (on.finds v (before p (continued f next) c.memory v on.next there))
      by_found (Call d h vs) at is =
          let (c, found, result, gave, rest) = from_call (meaning prog n) p (waiting f d) d
          (meaning prog n (f.made ∷ p) (called p f h vs) m) u is in
          let (v, there, same) = joined_is c (meaning prog n p (resumed (waiting f d) d result) c.memory) u rest in
          let body = kept.callee_kept p f m d h vs tt g at tt in
          let on = kept.resumed_kept p f m d h vs tt g at tt c result gave (before (f.made ∷ p) (called p f h vs) m c body found) tt in
          subst (λ o. post p f m o) same (on.finds v (before p (resumed (waiting f d) d result) c.memory v on.next there))
      by_found (Reattach r) at is = subst (λ o. post p f m o) (from_last Left m u is) (kept.reattach_finds p f m r tt g at)
      by_found (Return v) at is = subst (λ o. post p f m o) (from_last (Gave v) (cleared p m) u is)
          (kept.return_finds p f m v tt g at)

  pub found : (n : ℕ) (p : Path) (f : Frame) (m : Memory) (o : Outcome) → good p f m → meaning prog n p f m ≡ Some o → post p f m o
  found zero p f m o g is = absurd (cc)
  found (suc n) p f m o g is = by_found n (found n) p f m g o (action_of prog p f m) refl is

-- a function's frame gives a result, and a child leaves
abbrev Suited : Finds
Suited p f m o = Suits f.role o.ending

suited_kept : (prog : Program) → KeptSerially prog Nothing Nothing Suited
suited_kept prog = record {
  plain_kept = λ p f m e b g at fine nb. record { next = tt; finds = λ o h. h };
  sync_kept = λ p f m r t rs b g at nb. record { next = tt; finds = λ o h. h };
  child_kept = λ p f m r body next b g at nb. tt;
  continued_kept = λ p f m r body next b g at nc o gone h nb. record { next = tt; finds = λ u k. k };
  callee_kept = λ p f m d c vs b g at nb. tt;
  resumed_kept = λ p f m d c vs b g at nc o v gave h nb. record { next = tt; finds = λ u k. k };
  reattach_finds = λ p f m r b g at. let (n, role) = reattach_is_child prog p f m r at in subst (λ x. Suits x Left) (sym role) tt;
  return_finds = λ p f m v b g at. let role = return_is_body prog p f m v at in subst (λ x. Suits x (Gave v)) (sym role) tt;
}

pub gives_result : (prog : Program) (p : Path) (f : Frame) (m : Memory) (n : ℕ) (o : Outcome) → f.role ≡ Body →
    meaning prog n p f m ≡ Some o → (v : Option ℤ) × (o.ending ≡ Gave v)
gives_result prog p f m n o body is =
    body_gave o.ending (subst (λ x. Suits x o.ending) body (found prog Nothing Suited (suited_kept prog) n p f m o tt is))
