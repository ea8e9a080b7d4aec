-- What a worker's frame finds at its next step.
use Rattle.std.proofs.Common.{◌≡◌, ◌∙◌, ℕ, List, [], ◌∷◌, Option, Some, None, true, is_some, refl, sym, subst, ℤ}
use Rattle.linear.specs.declared.form.RegisterId.{RegisterId}
use Rattle.semantics.specs.Paths.{Path}
use Rattle.semantics.specs.Cells.{Shared, Memory}
use Rattle.semantics.specs.Frames.{OnCall, Child, Body, Frame}
use Rattle.semantics.specs.Effect.{Action, Plain, Detach, Reattach, Sync, Call, Return, action_of}
use Rattle.semantics.specs.State.{State, Change, apply, may_go, childless, start_state}
use Rattle.semantics.specs.Tree.{Tree}
use Rattle.semantics.specs.Events.{Machine, Event, start}
use Rattle.semantics.specs.Replay.{replay}
use Rattle.semantics.specs.Sound.{NeverTraps}
use Rattle.semantics.proofs.Diamond.{same_frame}
use Rattle.semantics.proofs.Starting.{start_tree}
use Rattle.semantics.proofs.Steps.{Does as DoesStep, plain, detach, reattach, sync, call, ret, end}
use Rattle.semantics.proofs.TreeKept.{step_keeps_tree}
use Rattle.program.specs.declared.function.Program.{Program}
use Rattle.laws_phases.proofs.defined.Written.{plain_keeps}
use Rattle.laws_schedule.specs.zones.ByPhases.{IsKeptBySteps}
use Rattle.laws_schedule.specs.safe.Kept.{OfAll}
use Rattle.laws_schedule.specs.safe.Steps.{KnowsFirst, HasParent, Returns, Does, IsSteady, HeldFramesAreSteady, GlobalsStay}
use Rattle.laws_schedule.proofs.safe.Everywhere.{of_first, step_keeps}
use Rattle.laws_schedule.proofs.safe.Ready.{NoTrap, ready}
use Rattle.laws_schedule.proofs.safe.Replayed.{from_later, held_next, replay_good}

-- ---- the first frame

module _ (prog : Program) where
  below : {A : Type 0} (k : ℕ) (p : Path) → k ∷ p ≡ [] → A
  below k p e = absurd (cc)

  -- a frame of the same function and role
  alike : (p : Path) (f g : Frame) → g.function ≡ f.function → g.role ≡ f.role → KnowsFirst prog p f → KnowsFirst prog p g
  alike p f g fn role h top = let k = h top in record { function = fn ∙ k.function; role = role ∙ k.role }

  pub first_kept : IsKeptBySteps prog (KnowsFirst prog)
  first_kept = record {
    plain = λ p f m e h going at fine. alike p f _ refl refl h;
    child = λ p f m r b n h going at top. below f.made p top;
    continues = λ p f m r b n h going at. alike p f _ refl refl h;
    syncs = λ p f m r b rs h going at. alike p f _ refl refl h;
    callee = λ p f m d g vs h going at top. below f.made p top;
    waits = λ p f m d g vs h going at. alike p f _ refl refl h;
    resumes = λ p f k d v h waits. alike p f _ refl refl h;
  }

  -- the tree of frames, with what the first is
  pub record Rooted (s : State) : Type 0 where
    pub tree : Tree s
    pub first : OfAll s (KnowsFirst prog)

  pub rooted_kept : (s : State) (p : Path) (c : Change) → DoesStep prog s p c → c.trap ≡ None → Rooted s → Rooted (apply c s)
  rooted_kept s p c does fine r = record { tree = step_keeps_tree r.tree does; first = step_keeps prog (KnowsFirst prog) first_kept s p c does fine r.first }

  pub first_rooted : (arguments : List ℤ) (memory : Memory) → Rooted (start_state prog arguments memory)
  first_rooted arguments memory = record {
    tree = start_tree prog arguments memory;
    first = of_first prog arguments memory (KnowsFirst prog) (λ top. record { function = refl; role = refl });
  }

  pub always_rooted : (arguments : List ℤ) (memory : Memory) (workers : ℕ) → NeverTraps prog workers (start prog arguments memory) → (events : List Event) → Rooted (replay prog workers events (start prog arguments memory)).core
  always_rooted arguments memory workers never events = replay_good prog workers Rooted rooted_kept events (start prog arguments memory) never (first_rooted arguments memory)

  -- ---- by the step that is done

  module _ (s : State) (root : Rooted s) (p : Path) (f : Frame) (is : s.frames p ≡ Some f) where
    -- the same of the frame that the step names
    given_as : (g : Frame) → s.frames p ≡ Some g → (P : Frame → Type 0) → P g → P f
    given_as g at P h = let same : g ≡ f = same_frame (s.frames p) g f at is in subst P same h

    parent_of : (r c : ℕ) → f.role ≡ Child r c → (x : Path) → p ≡ x → HasParent s p
    parent_of r c role [] place = absurd (let k = root.first p f is place in let both : Child r c ≡ Body = sym role ∙ k.role in cc)
    parent_of r c role (k ∷ above) place =
        let (g, at, low) = root.tree.has_parent k above f (subst (λ (y : Path). s.frames y ≡ Some f) place is) in
        record { number = k; above = above; place = place; parent = g; lives = at; made = low }

    caller_of : f.role ≡ Body → (k : ℕ) (above : Path) → p ≡ k ∷ above → (g : Frame) × (d : Option RegisterId) × (s.frames above ≡ Some g) × (g.waits ≡ OnCall k d)
    caller_of role k above place = root.tree.awaited k above f (subst (λ (y : Path). s.frames y ≡ Some f) place is) role

    returns : childless s p f.made ≡ true → f.role ≡ Body → Returns s p f
    returns none role = record { none_left = none; role = role; caller = caller_of role }

    abbrev Done : Type 0
    Done = (may_go s p f.made f.waits ≡ true) × NoTrap (action_of prog p f s.memory) × Does s p f (action_of prog p f s.memory)

    done : (a : Action) → may_go s p f.made f.waits ≡ true → action_of prog p f s.memory ≡ a → NoTrap a → Does s p f a → Done
    done a go at fine does = (go, subst NoTrap (sym at) fine, subst (Does s p f) (sym at) does)

    abbrev Acts : Action → Frame → Type 0
    Acts a g = (may_go s p g.made g.waits ≡ true) × (action_of prog p g s.memory ≡ a)

    abbrev ActsAtEnd : Action → Frame → Type 0
    ActsAtEnd a g = Acts a g × (childless s p g.made ≡ true)

    abbrev EndsAsChild : ℕ → ℕ → Frame → Type 0
    EndsAsChild r n g = ActsAtEnd (Reattach r) g × (g.role ≡ Child r n)

    abbrev EndsAsBody : Option ℤ → Frame → Type 0
    EndsAsBody v g = ActsAtEnd (Return v) g × (g.role ≡ Body)

    by_body : (v : Option ℤ) → EndsAsBody v f → Done
    by_body v k = done (Return v) k.0.0.0 k.0.0.1 tt (returns k.0.1 k.1)

    by_does : (c : Change) → DoesStep prog s p c → c.trap ≡ None → Done
    by_does c (plain g e at go act) fine = let k = given_as g at (Acts (Plain e)) (go, act) in done (Plain e) k.0 k.1 fine fine
    by_does c (detach g r b n at go act) fine = let k = given_as g at (Acts (Detach r b n)) (go, act) in done (Detach r b n) k.0 k.1 tt tt
    by_does c (reattach g r n at go act none role) fine =
        let k = given_as g at (EndsAsChild r n) (((go, act), none), role) in
        done (Reattach r) k.0.0.0 k.0.0.1 tt (record { none_left = k.0.1; continuation = n; role = k.1; parent = parent_of r n k.1 p refl })
    by_does c (sync g r b rs at go act) fine = let k = given_as g at (Acts (Sync r b rs)) (go, act) in done (Sync r b rs) k.0 k.1 tt tt
    by_does c (call g d callee vs at go act) fine = let k = given_as g at (Acts (Call d callee vs)) (go, act) in done (Call d callee vs) k.0 k.1 tt tt
    by_does c (ret g v k above up j d at go act none role here over waits) fine = by_body v (given_as g at (EndsAsBody v) (((go, act), none), role))
    by_does c (end g v at go act none role here) fine = by_body v (given_as g at (EndsAsBody v) (((go, act), none), role))

    pub steady : (c : Change) → DoesStep prog s p c → c.trap ≡ None → IsSteady prog s p f
    steady c does fine = let k = by_does c does fine in record { may = k.0; ready = ready prog p f s.memory k.1; does = k.2 }

pub held_frames_are_steady : HeldFramesAreSteady
held_frames_are_steady prog arguments memory workers never events w p f here is =
    let m : Machine = replay prog workers events (start prog arguments memory) in
    let later : NeverTraps prog workers m = from_later prog workers (λ (x : Machine). x.trapped ≡ None) events (start prog arguments memory) never in
    let next = held_next prog workers m later w p f here is in
    steady prog m.core (always_rooted prog arguments memory workers never events) p f is next.change next.does next.fine

-- ---- globals

module _ (prog : Program) (memory : Memory) where
  abbrev Stay : State → Type 0
  Stay s = (g i : ℕ) → is_some (memory (record { object = Shared g; index = i })) ≡ true → is_some (s.memory (record { object = Shared g; index = i })) ≡ true

  globals_kept : (s : State) (p : Path) (c : Change) → DoesStep prog s p c → c.trap ≡ None → Stay s → Stay (apply c s)
  globals_kept s p c (plain f e at go act) fine h g i there = plain_keeps prog p f s.memory e act (record { object = Shared g; index = i }) (h g i there)
  globals_kept s p c (detach f r b n at go act) fine h g i there = h g i there
  globals_kept s p c (reattach f r n at go act none role) fine h g i there = h g i there
  globals_kept s p c (sync f r b rs at go act) fine h g i there = h g i there
  globals_kept s p c (call f d callee vs at go act) fine h g i there = h g i there
  globals_kept s p c (ret f v k above up j d at go act none role here over waits) fine h g i there = h g i there
  globals_kept s p c (end f v at go act none role here) fine h g i there = h g i there

pub globals_stay : GlobalsStay
globals_stay prog arguments memory workers never events = replay_good prog workers (Stay prog memory) (globals_kept prog memory) events (start prog arguments memory) never (λ g i there. there)
