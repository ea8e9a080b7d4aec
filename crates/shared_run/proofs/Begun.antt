-- A step is a detach exactly where the worker runs a child one below the frame that it ran before.
use Rattle.std.proofs.Common.{◌≡◌, ◌≢◌, ℕ, ◌≤◌, List, [], ◌∷◌, length, Option, Some, None, Bool, true, false, cond, ◌⊎◌, eq-eqb, inl, inr, refl, sym, ap, ◌∙◌, subst, arith}
use Rattle.std.proofs.lemmas.Bool.Decides.{eqb_tells}
use Rattle.semantics.specs.Paths.{Path}
use Rattle.semantics.specs.Frames.{Free, Value, Frame}
use Rattle.linear.specs.declared.form.RegisterId.{RegisterId}
use Rattle.semantics.specs.Effect.{Action, Plain, Detach, Reattach, Sync, Call, Return, action_of}
use Rattle.semantics.specs.State.{State, Change, apply, override, both, change_of, continued, detached, called, waiting, none_within}
use Rattle.semantics.specs.Events as running
use Rattle.semantics.specs.Events.{Machine, Step, event, sound_event, unless_trapped, by_hand, by_frame, by_change, next_hand, after_reattach, takes_parent, unless_held, may_be_taken, holder, caller_of, is_child, with_hand, top_status}
use Rattle.semantics.proofs.Places.{both_first, both_second, no_own_child}
use Rattle.semantics.proofs.Diamond.{same_frame}
use Rattle.semantics.proofs.Steps.{Does, plain, detach, reattach, sync, call, ret, end, does}
use Rattle.semantics.proofs.Workers.{Manned}
use Rattle.semantics.proofs.Machines.{holder_some}
use Rattle.program.specs.declared.function.Program.{Program}
use Rattle.shared_run.specs.Calls.{IsDetach}

module _ (prog : Program) (workers : ℕ) (m next : Machine) (w : ℕ) where
  -- what a step that does not trap does
  pub record IsStepOf : Type 0 where
    pub path : Path
    pub frame : Frame
    pub change : Change
    pub hand : m.hands w ≡ Some path
    pub stands : m.core.frames path ≡ Some frame
    pub does : Does prog m.core path change
    pub core : next.core ≡ apply change m.core
    pub hands : next.hands ≡ with_hand m.hands w (next_hand workers m (apply change m.core) path frame (action_of prog path frame m.core.memory))

  by_the_change : (p : Path) (f : Frame) (o : Option Change) → m.hands w ≡ Some p → m.core.frames p ≡ Some f → change_of prog m.core p ≡ o → by_change prog workers m w p f o ≡ next → next.trapped ≡ None → IsStepOf
  by_the_change p f None hand stands is e fine = absurd (let t = ap (λ (x : Machine). x.trapped) e ∙ fine in cc)
  by_the_change p f (Some c) hand stands is e fine =
      record {
        path = p;
        frame = f;
        change = c;
        hand = hand;
        stands = stands;
        does = does prog m.core p c is;
        core = ap (λ (x : Machine). x.core) (sym e);
        hands = ap (λ (x : Machine). x.hands) (sym e);
      }

  by_the_frame : (p : Path) (o : Option Frame) → m.hands w ≡ Some p → m.core.frames p ≡ o → by_frame prog workers m w p o ≡ Some next → next.trapped ≡ None → IsStepOf
  by_the_frame p None hand stands e fine = absurd (cc)
  by_the_frame p (Some f) hand stands e fine =
      by_the_change p f (change_of prog m.core p) hand stands refl (let s : Some (by_change prog workers m w p f (change_of prog m.core p)) ≡ Some next = e in cc) fine

  by_the_hand : (o : Option Path) → m.hands w ≡ o → by_hand prog workers m w o ≡ Some next → next.trapped ≡ None → IsStepOf
  by_the_hand None hand e fine = absurd (cc)
  by_the_hand (Some p) hand e fine = by_the_frame p (m.core.frames p) hand refl e fine

  pub step_of : event prog workers (Step w) m ≡ Some next → m.trapped ≡ None → next.trapped ≡ None → IsStepOf
  step_of is sound fine = by_the_hand (m.hands w) refl (sym (ap (λ o. unless_trapped o (sound_event prog workers (Step w) m)) sound) ∙ is) fine

  -- the worker runs a child now that its frame detached, and the frame waits for nothing
  pub record Begins (p : Path) : Type 0 where
    pub detach : IsDetach prog m w
    pub number : ℕ
    pub hand : next.hands w ≡ Some (number ∷ p)
    pub child : Frame
    pub child_stands : next.core.frames (number ∷ p) ≡ Some child
    pub is_child : is_child child.role ≡ true
    pub parent : Frame
    pub parent_stands : next.core.frames p ≡ Some parent
    pub free : parent.waits ≡ Free

  -- the step was no detach, and the worker runs no child one below its frame
  pub record BeginsNone (p : Path) : Type 0 where
    pub no_detach : ¬ IsDetach prog m w
    pub no_child : (number : ℕ) (above : Path) (f : Frame) → next.hands w ≡ Some (number ∷ above) → length above ≡ length p → next.core.frames (number ∷ above) ≡ Some f → is_child f.role ≡ false

  module _ (s : IsStepOf) where
    hand_now : next.hands w ≡ next_hand workers m (apply s.change m.core) s.path s.frame (action_of prog s.path s.frame m.core.memory)
    hand_now =
        ap (λ h. h w) s.hands
        ∙ ap (λ b. cond b (next_hand workers m (apply s.change m.core) s.path s.frame (action_of prog s.path s.frame m.core.memory)) (m.hands w)) (eq-eqb w w refl)

    hand_by : (a : Action) → action_of prog s.path s.frame m.core.memory ≡ a → next.hands w ≡ next_hand workers m (apply s.change m.core) s.path s.frame a
    hand_by a at = hand_now ∙ ap (λ x. next_hand workers m (apply s.change m.core) s.path s.frame x) at

    frame_is : (f : Frame) → m.core.frames s.path ≡ Some f → f ≡ s.frame
    frame_is f is = same_frame (m.core.frames s.path) f s.frame is s.stands

    action_is : (f : Frame) (a : Action) → m.core.frames s.path ≡ Some f → action_of prog s.path f m.core.memory ≡ a → action_of prog s.path s.frame m.core.memory ≡ a
    action_is f a is at = ap (λ (g : Frame). action_of prog s.path g m.core.memory) (sym (frame_is f is)) ∙ at

    -- the action is no detach
    other_action : (a : Action) → action_of prog s.path s.frame m.core.memory ≡ a → ((r b n : ℕ) → a ≢ Detach r b n) → ¬ IsDetach prog m w
    other_action a at off d =
        let same_path_is : d.path ≡ s.path = (let e : Some d.path ≡ Some s.path = sym d.hand ∙ s.hand in cc) in
        let there : m.core.frames s.path ≡ Some d.frame = subst (λ p. m.core.frames p ≡ Some d.frame) same_path_is d.stands in
        let act : action_of prog s.path d.frame m.core.memory ≡ Detach d.region d.body d.continuation = subst (λ p. action_of prog p d.frame m.core.memory ≡ Detach d.region d.body d.continuation) same_path_is d.action in
        off d.region d.body d.continuation (sym at ∙ action_is d.frame (Detach d.region d.body d.continuation) there act)

    shorter : (o : Option Path) → next.hands w ≡ o → ((y : Path) → o ≡ Some y → length y ≤ length s.path) → (number : ℕ) (above : Path) → next.hands w ≡ Some (number ∷ above) → length above ≡ length s.path → ⊥
    shorter o is low number above has same = let l = low (number ∷ above) (sym is ∙ has) in absurd (omega arith)

    none_by : (a : Action) → action_of prog s.path s.frame m.core.memory ≡ a → ((r b n : ℕ) → a ≢ Detach r b n) → ((y : Path) → next_hand workers m (apply s.change m.core) s.path s.frame a ≡ Some y → length y ≤ length s.path) → BeginsNone s.path
    none_by a at off low =
        record {
          no_detach = other_action a at off;
          no_child = λ number above f has same is. absurd (shorter (next_hand workers m (apply s.change m.core) s.path s.frame a) (hand_by a at) low number above has same);
        }

    held_low : (o : Option ℕ) (b : Bool) (p y : Path) → unless_held o b p ≡ Some y → length y ≤ length p
    held_low None true p y e = let same : p ≡ y = cc in let l = ap (λ (x : Path). length x) same in omega arith
    held_low None false p y e = absurd (cc)
    held_low (Some v) b p y e = absurd (cc)

    takes_low : (k : ℕ) (above : Path) (r : ℕ) (o : Option Frame) (y : Path) → takes_parent workers m (apply s.change m.core) k above r o ≡ Some y → length y ≤ length above
    takes_low k above r None y e = absurd (cc)
    takes_low k above r (Some g) y e = held_low (holder workers m.hands above) (may_be_taken (apply s.change m.core) k above r g g.waits) above y e

    reattach_low : (r : ℕ) (p y : Path) → after_reattach workers m (apply s.change m.core) p r ≡ Some y → length y ≤ length p
    reattach_low r [] y e = absurd (cc)
    reattach_low r (k ∷ above) y e = let l = takes_low k above r (m.core.frames above) y e in omega (arith, l)

    caller_low : (p y : Path) → caller_of p ≡ Some y → length y ≤ length p
    caller_low [] y e = absurd (cc)
    caller_low (k ∷ above) y e = let same : above ≡ y = cc in let l = ap (λ (x : Path). length x) same in omega arith

    sync_low : (b : Bool) (p y : Path) → cond b (Some p) None ≡ Some y → length y ≤ length p
    sync_low true p y e = let same : p ≡ y = cc in let l = ap (λ (x : Path). length x) same in omega arith
    sync_low false p y e = absurd (cc)

    stay_low : (p y : Path) → Some p ≡ Some y → length y ≤ length p
    stay_low p y e = sync_low true p y e

    frames_now : (x : Path) (o : Option (Option Frame)) → s.change.frames x ≡ o → next.core.frames x ≡ override o (m.core.frames x)
    frames_now x o is = ap (λ (t : State). t.frames x) s.core ∙ ap (λ c. override c (m.core.frames x)) is

    module _ (f : Frame) (is : m.core.frames s.path ≡ Some f) where
      begins : (r b n : ℕ) → action_of prog s.path f m.core.memory ≡ Detach r b n → s.change.frames ≡ both s.path (Some (continued f n)) (f.made ∷ s.path) (Some (detached f r b n)) → Begins s.path
      begins r b n at change =
          record {
            detach = record { path = s.path; frame = f; hand = s.hand; stands = is; region = r; body = b; continuation = n; action = at };
            number = f.made;
            hand = hand_by (Detach r b n) (action_is f (Detach r b n) is at) ∙ ap (λ (g : Frame). Some (g.made ∷ s.path)) (sym (frame_is f is));
            child = detached f r b n;
            child_stands =
                frames_now (f.made ∷ s.path) (Some (Some (detached f r b n)))
                (ap (λ h. h (f.made ∷ s.path)) change ∙ both_second s.path (f.made ∷ s.path) (Some (continued f n)) (Some (detached f r b n)) (λ e. no_own_child f.made s.path (sym e)));
            is_child = refl;
            parent = continued f n;
            parent_stands =
                frames_now s.path (Some (Some (continued f n)))
                (ap (λ h. h s.path) change ∙ both_first s.path (f.made ∷ s.path) (Some (continued f n)) (Some (detached f r b n)));
            free = refl;
          }

      calls_none : (d : Option RegisterId) (g : ℕ) (vs : List Value) → action_of prog s.path f m.core.memory ≡ Call d g vs →
          (after : Frame) → s.change.frames ≡ both s.path (Some after) (f.made ∷ s.path) (Some (called s.path f g vs)) → BeginsNone s.path
      calls_none d g vs at after change =
          record {
            no_detach = other_action (Call d g vs) (action_is f (Call d g vs) is at) (λ r b n e. cc);
            no_child = λ number above h has same stands.
                (let now : next.hands w ≡ Some (f.made ∷ s.path) = hand_by (Call d g vs) (action_is f (Call d g vs) is at) ∙ ap (λ (k : Frame). Some (k.made ∷ s.path)) (sym (frame_is f is)) in
                let paths : f.made ∷ s.path ≡ number ∷ above = (let e : Some (f.made ∷ s.path) ≡ Some (number ∷ above) = sym now ∙ has in cc) in
                let callee : next.core.frames (f.made ∷ s.path) ≡ Some (called s.path f g vs) =
                frames_now (f.made ∷ s.path) (Some (Some (called s.path f g vs)))
                (ap (λ q. q (f.made ∷ s.path)) change ∙ both_second s.path (f.made ∷ s.path) (Some after) (Some (called s.path f g vs)) (λ e. no_own_child f.made s.path (sym e))) in
                let one : called s.path f g vs ≡ h = same_frame (next.core.frames (number ∷ above)) (called s.path f g vs) h (subst (λ q. next.core.frames q ≡ Some (called s.path f g vs)) paths callee) stands in
                ap (λ (k : Frame). is_child k.role) (sym one));
          }

    by_case : (p : Path) (c : Change) → s.path ≡ p → s.change ≡ c → Does prog m.core p c → Begins s.path ⊎ BeginsNone s.path
    by_case p c here this (plain f e is go at) =
        inr (none_by (Plain e) (action_is f (Plain e) (subst (λ q. m.core.frames q ≡ Some f) (sym here) is) (subst (λ q. action_of prog q f m.core.memory ≡ Plain e) (sym here) at)) (λ r b n x. cc) (λ y x. stay_low s.path y x))
    by_case p c here this (detach f r b n is go at) =
        inl (begins f (subst (λ q. m.core.frames q ≡ Some f) (sym here) is) r b n (subst (λ q. action_of prog q f m.core.memory ≡ Detach r b n) (sym here) at)
        (subst (λ q. s.change.frames ≡ both q (Some (continued f n)) (f.made ∷ q) (Some (detached f r b n))) (sym here) (ap (λ (x : Change). x.frames) this)))
    by_case p c here this (reattach f r n is go at none role) =
        inr (none_by (Reattach r) (action_is f (Reattach r) (subst (λ q. m.core.frames q ≡ Some f) (sym here) is) (subst (λ q. action_of prog q f m.core.memory ≡ Reattach r) (sym here) at)) (λ r2 b n2 x. cc) (λ y x. reattach_low r s.path y x))
    by_case p c here this (sync f r b rs is go at) =
        inr (none_by (Sync r b rs) (action_is f (Sync r b rs) (subst (λ q. m.core.frames q ≡ Some f) (sym here) is) (subst (λ q. action_of prog q f m.core.memory ≡ Sync r b rs) (sym here) at)) (λ r2 b2 n x. cc)
        (λ y x. sync_low (none_within m.core s.path s.frame.made r) s.path y x))
    by_case p c here this (call f d g vs is go at) =
        inr (calls_none f (subst (λ q. m.core.frames q ≡ Some f) (sym here) is) d g vs (subst (λ q. action_of prog q f m.core.memory ≡ Call d g vs) (sym here) at) (waiting f d)
        (subst (λ q. s.change.frames ≡ both q (Some (waiting f d)) (f.made ∷ q) (Some (called q f g vs))) (sym here) (ap (λ (x : Change). x.frames) this)))
    by_case p c here this (ret f v k above g j d is go at none role up over waits) =
        inr (none_by (Return v) (action_is f (Return v) (subst (λ q. m.core.frames q ≡ Some f) (sym here) is) (subst (λ q. action_of prog q f m.core.memory ≡ Return v) (sym here) at)) (λ r b n x. cc) (λ y x. caller_low s.path y x))
    by_case p c here this (end f v is go at none role up) =
        inr (none_by (Return v) (action_is f (Return v) (subst (λ q. m.core.frames q ≡ Some f) (sym here) is) (subst (λ q. action_of prog q f m.core.memory ≡ Return v) (sym here) at)) (λ r b n x. cc) (λ y x. caller_low s.path y x))

    pub begins_or_none : Begins s.path ⊎ BeginsNone s.path
    begins_or_none = by_case s.path s.change refl refl s.does

    -- after a detach the parent is a ready top
    pub parent_ready : Manned workers m.core m.hands → Begins s.path → top_status workers next s.path ≡ Some running.Ready
    parent_ready man b =
        rw (b.parent_stands, unheld (holder workers next.hands s.path) refl)
        (ap running.waiting_status b.free)
      where
        nobody : (v : ℕ) → next.hands v ≢ Some s.path
        nobody v has =
            elim (eqb_tells w v) [
              | inl h ↦ no_own_child b.number s.path (let e : Some (b.number ∷ s.path) ≡ Some s.path = sym b.hand ∙ subst (λ u. next.hands u ≡ Some s.path) (sym h.1) has in cc)
              | inr h ↦
                  let was : m.hands v ≡ Some s.path = sym (ap (λ q. q v) s.hands ∙ ap (λ t. cond t (next_hand workers m (apply s.change m.core) s.path s.frame (action_of prog s.path s.frame m.core.memory)) (m.hands v)) h.0) ∙ has in
                  h.1 (man.alone w v s.path s.hand was)
            ]

        unheld : (o : Option ℕ) → holder workers next.hands s.path ≡ o → holder workers next.hands s.path ≡ None
        unheld None is = is
        unheld (Some v) is = absurd (nobody v (holder_some workers next.hands s.path v is))
