-- The steps by cases, as a relation.
use Rattle.std.proofs.Common.{◌≡◌, ℕ, List, [], ◌∷◌, Option, Some, None, Bool, true, false, cond, refl, subst, ℤ}
use Rattle.semantics.specs.Paths.{Path}
use Rattle.semantics.specs.Frames.{Value, Registers, Wait, Free, OnRegion, OnCall, Halted, Child, Body, Frame}
use Rattle.semantics.specs.Effect.{Effect, Action, Plain, Detach, Reattach, Sync, Call, Return, action_of}
use Rattle.semantics.specs.State.{State, Change, plain_change, detach_change, reattach_change, sync_change, call_change, return_change, end_change, may_go, childless, hand_over, to_caller, return_from, act, change_of_frame, change_of}
use Rattle.semantics.proofs.Actions.{return_is_body, reattach_is_child}
use Rattle.program.specs.linear.declared.form.RegisterId.{RegisterId}
use Rattle.program.specs.declared.function.Program.{Program}

pub data Does (prog : Program) (s : State) (p : Path) : Change → Type 0 where
  plain : (f : Frame) (e : Effect) → s.frames p ≡ Some f → may_go s p f.made f.waits ≡ true → action_of prog p f s.memory ≡ Plain e → Does prog s p (plain_change p f e)
  detach : (f : Frame) (r b n : ℕ) → s.frames p ≡ Some f → may_go s p f.made f.waits ≡ true → action_of prog p f s.memory ≡ Detach r b n → Does prog s p (detach_change p f r b n)
  reattach : (f : Frame) (r n : ℕ) → s.frames p ≡ Some f → may_go s p f.made f.waits ≡ true → action_of prog p f s.memory ≡ Reattach r → childless s p f.made ≡ true → f.role ≡ Child r n → Does prog s p (reattach_change p)
  sync : (f : Frame) (r b : ℕ) (rs : Registers) → s.frames p ≡ Some f → may_go s p f.made f.waits ≡ true → action_of prog p f s.memory ≡ Sync r b rs → Does prog s p (sync_change p f r b rs)
  call : (f : Frame) (d : Option RegisterId) (g : ℕ) (vs : List Value) → s.frames p ≡ Some f → may_go s p f.made f.waits ≡ true → action_of prog p f s.memory ≡ Call d g vs → Does prog s p (call_change p f d g vs)
  ret : (f : Frame) (v : Option ℤ) (k : ℕ) (above : Path) (g : Frame) (j : ℕ) (d : Option RegisterId) → s.frames p ≡ Some f → may_go s p f.made f.waits ≡ true → action_of prog p f s.memory ≡ Return v → childless s p f.made ≡ true → f.role ≡ Body → p ≡ k ∷ above → s.frames above ≡ Some g → g.waits ≡ OnCall j d → Does prog s p (return_change p above g d v)
  end : (f : Frame) (v : Option ℤ) → s.frames p ≡ Some f → may_go s p f.made f.waits ≡ true → action_of prog p f s.memory ≡ Return v → childless s p f.made ≡ true → f.role ≡ Body → p ≡ [] → Does prog s p (end_change p v)

pub change_is : (prog : Program) (s : State) (p : Path) (c : Change) → Does prog s p c → change_of prog s p ≡ Some c
change_is prog s p c (plain f e is go at) = rw (is, go, at)
change_is prog s p c (detach f r b n is go at) = rw (is, go, at)
change_is prog s p c (reattach f r n is go at none role) = rw (is, go, at, none)
change_is prog s p c (sync f r b rs is go at) = rw (is, go, at)
change_is prog s p c (call f d g vs is go at) = rw (is, go, at)
change_is prog s p c (ret f v k above g j d is go at none role here over waits) = rw (is, go, at, none, here, over, waits)
change_is prog s p c (end f v is go at none role here) = rw (is, go, at, none, here)

pub some_same : {A : Type 0} (a b : A) → Some a ≡ Some b → a ≡ b
some_same a b e = cc

module _ (prog : Program) (s : State) (p : Path) (c : Change) where
  -- the step that is shown is this one
  this : (d : Change) → Does prog s p d → Some d ≡ Some c → Does prog s p c
  this d does e = subst (λ x. Does prog s p x) (some_same d c e) does

  module _ (f : Frame) (is : s.frames p ≡ Some f) (go : may_go s p f.made f.waits ≡ true) where
    with_left : (r : ℕ) → action_of prog p f s.memory ≡ Reattach r → (b : Bool) → childless s p f.made ≡ b → cond b (Some (reattach_change p)) None ≡ Some c → Does prog s p c
    with_left r at true none h = let (n, role) = reattach_is_child prog p f s.memory r at in this _ (reattach f r n is go at none role) h
    with_left r at false none h = absurd (cc)

    module _ (v : Option ℤ) (at : action_of prog p f s.memory ≡ Return v) (none : childless s p f.made ≡ true) where
      with_wait : (k : ℕ) (above : Path) (g : Frame) → p ≡ k ∷ above → s.frames above ≡ Some g → (w : Wait) → g.waits ≡ w → hand_over p above g w v ≡ Some c → Does prog s p c
      with_wait k above g here over Free e h = absurd (cc)
      with_wait k above g here over (OnRegion r) e h = absurd (cc)
      with_wait k above g here over Halted e h = absurd (cc)
      with_wait k above g here over (OnCall j d) e h = this _ (ret f v k above g j d is go at none (return_is_body prog p f s.memory v at) here over e) h

      with_caller : (k : ℕ) (above : Path) → p ≡ k ∷ above → (o : Option Frame) → s.frames above ≡ o → to_caller p above o v ≡ Some c → Does prog s p c
      with_caller k above here None over h = absurd (cc)
      with_caller k above here (Some g) over h = with_wait k above g here over g.waits refl h

      with_path : (x : Path) → p ≡ x → return_from s x v ≡ Some c → Does prog s p c
      with_path [] here h = this _ (end f v is go at none (return_is_body prog p f s.memory v at) here) (rw here h)
      with_path (k ∷ above) here h = with_caller k above here (s.frames above) refl (rw here h)

    with_returned : (v : Option ℤ) → action_of prog p f s.memory ≡ Return v → (b : Bool) → childless s p f.made ≡ b → cond b (return_from s p v) None ≡ Some c → Does prog s p c
    with_returned v at true none h = with_path v at none p refl h
    with_returned v at false none h = absurd (cc)

    with_action : (a : Action) → action_of prog p f s.memory ≡ a → act s p f a ≡ Some c → Does prog s p c
    with_action (Plain e) at h = this _ (plain f e is go at) h
    with_action (Detach r b n) at h = this _ (detach f r b n is go at) h
    with_action (Reattach r) at h = with_left r at (childless s p f.made) refl h
    with_action (Sync r b rs) at h = this _ (sync f r b rs is go at) h
    with_action (Call d g vs) at h = this _ (call f d g vs is go at) h
    with_action (Return v) at h = with_returned v at (childless s p f.made) refl h

  with_test : (f : Frame) → s.frames p ≡ Some f → (b : Bool) → may_go s p f.made f.waits ≡ b → cond b (act s p f (action_of prog p f s.memory)) None ≡ Some c → Does prog s p c
  with_test f is true go h = with_action f is go (action_of prog p f s.memory) refl h
  with_test f is false go h = absurd (cc)

  with_frame : (o : Option Frame) → s.frames p ≡ o → change_of_frame prog s p o ≡ Some c → Does prog s p c
  with_frame None is h = absurd (cc)
  with_frame (Some f) is h = with_test f is (may_go s p f.made f.waits) refl h

  pub does : change_of prog s p ≡ Some c → Does prog s p c
  does h = with_frame (s.frames p) refl h
