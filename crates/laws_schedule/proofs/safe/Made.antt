-- The frames that a step leaves: those that it does not change, and those that it makes.
use Rattle.std.proofs.Common.{◌≡◌, ℕ, List, ◌∷◌, Option, Some, None, inl, inr, refl, sym, ap, ◌∙◌, subst, ℤ}
use Rattle.semantics.specs.Paths.{Path}
use Rattle.semantics.specs.Frames.{Value, Registers, OnCall, Frame}
use Rattle.semantics.specs.Effect.{Effect, Plain, Detach, Sync, Call, action_of}
use Rattle.semantics.specs.State.{State, Change, apply, override, went, detached, continued, synced, called, waiting, resumed, only, both}
use Rattle.laws_conditions.specs.theorem.Conditions.{Going}
use Rattle.laws_conditions.proofs.theorem.Feet.{going_now}
use Rattle.semantics.proofs.Places.{only_at, both_at}
use Rattle.semantics.proofs.Steps.{Does, plain, detach, reattach, sync, call, ret, end}
use Rattle.linear.specs.declared.form.RegisterId.{RegisterId}
use Rattle.program.specs.declared.function.Program.{Program}
use Rattle.laws_schedule.specs.safe.Kept.{OfAll}

-- what is so of frames before a step of the frame at p gives what is so of those after it
pub record PassesOn (prog : Program) (s : State) (p : Path) (before after : Path → Frame → Type 0) : Type 0 where
  pub stays : (x : Path) (g : Frame) → s.frames x ≡ Some g → before x g → after x g
  pub plain : (f : Frame) (e : Effect) → s.frames p ≡ Some f → before p f → Going f → action_of prog p f s.memory ≡ Plain e → e.trap ≡ None → after p (went f e)
  pub child : (f : Frame) (region body next : ℕ) → s.frames p ≡ Some f → before p f → Going f → action_of prog p f s.memory ≡ Detach region body next → after (f.made ∷ p) (detached f region body next)
  pub continues : (f : Frame) (region body next : ℕ) → s.frames p ≡ Some f → before p f → Going f → action_of prog p f s.memory ≡ Detach region body next → after p (continued f next)
  pub syncs : (f : Frame) (region block : ℕ) (registers : Registers) → s.frames p ≡ Some f → before p f → Going f → action_of prog p f s.memory ≡ Sync region block registers → after p (synced f region block registers)
  pub callee : (f : Frame) (d : Option RegisterId) (callee : ℕ) (values : List Value) → s.frames p ≡ Some f → before p f → Going f → action_of prog p f s.memory ≡ Call d callee values → after (f.made ∷ p) (called p f callee values)
  pub waits : (f : Frame) (d : Option RegisterId) (callee : ℕ) (values : List Value) → s.frames p ≡ Some f → before p f → Going f → action_of prog p f s.memory ≡ Call d callee values → after p (waiting f d)
  pub resumes : (x : Path) (g : Frame) (k : ℕ) (d : Option RegisterId) (result : Option ℤ) → s.frames x ≡ Some g → before x g → g.waits ≡ OnCall k d → after x (resumed g d result)

module _ (after : Path → Frame → Type 0) where
  moved : (x y : Path) (g h : Frame) → x ≡ y → Some g ≡ Some h → after y h → after x g
  moved x y g h place same k = let one : h ≡ g = cc in subst (λ (z : Path). after z g) (sym place) (subst (λ (u : Frame). after y u) one k)

  gone : (x y : Path) (g : Frame) → (x ≡ y) × (Some g ≡ None) → after x g
  gone x y g h = absurd (let e = h.1 in cc)

  pub one_new : (p : Path) (h : Frame) → after p h → (x : Path) (g : Frame) → only p (Some h) x ≡ Some (Some g) → after x g
  one_new p h k x g e = let at = only_at p x (Some h) (Some g) e in moved x p g h at.0 at.1 k

  none_new : (p x : Path) (g : Frame) → only p None x ≡ Some (Some g) → after x g
  none_new p x g e = gone x p g (only_at p x None (Some g) e)

  two_new : (p q : Path) (h u : Frame) → after p h → after q u → (x : Path) (g : Frame) → both p (Some h) q (Some u) x ≡ Some (Some g) → after x g
  two_new p q h u a b x g e = elim (both_at p q x (Some h) (Some u) (Some g) e) [ inl at ↦ moved x p g h at.0 at.1 a | inr at ↦ moved x q g u at.0 at.1 b ]

  second_new : (p q : Path) (u : Frame) → after q u → (x : Path) (g : Frame) → both p None q (Some u) x ≡ Some (Some g) → after x g
  second_new p q u b x g e = elim (both_at p q x None (Some u) (Some g) e) [ inl at ↦ gone x p g at | inr at ↦ moved x q g u at.0 at.1 b ]

module _ (prog : Program) (s : State) (p : Path) (before after : Path → Frame → Type 0) (on : PassesOn prog s p before after) (all : OfAll s before) where
  -- what a change leaves alone is as it was
  rest : (c : Change) → ((x : Path) (g : Frame) → c.frames x ≡ Some (Some g) → after x g) → OfAll (apply c s) after
  rest c new x g at = from (c.frames x) refl at
    where
      from : (o : Option (Option Frame)) → c.frames x ≡ o → override o (s.frames x) ≡ Some g → after x g
      from None e h = on.stays x g h (all x g h)
      from (Some o) e h = new x g (e ∙ ap (λ (k : Option Frame). Some k) h)

  pub all_after : (c : Change) → Does prog s p c → c.trap ≡ None → OfAll (apply c s) after
  all_after c (plain f e is go at) fine = rest c (one_new after p (went f e) (on.plain f e is (all p f is) (going_now s p f go) at fine))
  all_after c (detach f r b n is go at) fine =
      rest c (two_new after p (f.made ∷ p) (continued f n) (detached f r b n) (on.continues f r b n is (all p f is) (going_now s p f go) at) (on.child f r b n is (all p f is) (going_now s p f go) at))
  all_after c (reattach f r n is go at none role) fine = rest c (none_new after p)
  all_after c (sync f r b rs is go at) fine = rest c (one_new after p (synced f r b rs) (on.syncs f r b rs is (all p f is) (going_now s p f go) at))
  all_after c (call f d g vs is go at) fine =
      rest c (two_new after p (f.made ∷ p) (waiting f d) (called p f g vs) (on.waits f d g vs is (all p f is) (going_now s p f go) at) (on.callee f d g vs is (all p f is) (going_now s p f go) at))
  all_after c (ret f v k above g j d is go at none role here over waits) fine = rest c (second_new after p above (resumed g d v) (on.resumes above g j d v over (all above g over) waits))
  all_after c (end f v is go at none role here) fine = rest c (none_new after p)
