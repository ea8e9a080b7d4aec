-- The stack of a serial run as a state of the tree of frames: each step over the stack is a step of the frame on top.
use Rattle.std.proofs.Common.{◌≡◌, ℕ, suc, ◌<◌, ◌≤◌, List, ◌∷◌, length, Option, Some, None, Bool, true, false, cond, refl, ap, sym, ◌∙◌, subst, arith, ℤ}
use Rattle.linear.specs.declared.form.RegisterId.{RegisterId}
use Rattle.semantics.specs.Paths.{Path, same_path}
use Rattle.semantics.specs.Below.{Under, itself, deeper}
use Rattle.semantics.specs.Cells.{Memory}
use Rattle.semantics.specs.Frames.{Value, Registers, Free, OnCall}
use Rattle.semantics.specs.Effect.{Effect, Action, Plain, Detach, Reattach, Sync, Call, Return, action_of}
use Rattle.semantics.specs.SerialMeaning.{written, cleared}
use Rattle.semantics.specs.State.{State, Change, apply, override, went, detached, continued, synced, called, waiting, resumed, wait_after, plain_change, detach_change, reattach_change, sync_change, call_change, return_change, start_state, may_go, childless}
use Rattle.semantics.proofs.Actions.{reattach_is_child, return_is_body, same_path_itself}
use Rattle.semantics.proofs.Places.{no_own_child, same_path_is}
use Rattle.semantics.proofs.Steps.{Does, plain, detach, reattach, sync, call, ret}
use Rattle.program.specs.declared.function.Program.{Program}
use Rattle.laws_schedule.specs.laws_phases.defined.Names.{IsNamed}
use Rattle.laws_schedule.specs.laws_phases.defined.Values.{NamesObjects}
use Rattle.laws_schedule.specs.safe.Objects.{KnowsObjects}
use Rattle.laws_schedule.proofs.safe.Objects.{Known, known_kept, first_known}
use Rattle.serial_stack.specs.Steps as stack
use Rattle.laws_strands.specs.stacks.Strands.{Placed}
use Rattle.serial_stack.specs.Steps.{Run, Goes, Walk, begins, goes_on, starting}
use Rattle.serial_machine.proofs.safe.Stacks.{at_path, Stacked, stack_of, higher, lower, none_higher, on_top, no_children, IsAwake, may, none_left, put, put_two, gone, handed, AreOwners}

pub under_long : (x y : Path) → Under x y → length x ≤ length y
under_long x y itself = omega arith
under_long x y (deeper k {y = z} u) = let r = under_long x z u in omega (arith, r)

module _ (prog : Program) (named : IsNamed prog) (objects : NamesObjects prog) where
  -- a state of the tree of frames with the run's frames and memory
  pub record Mirrors (s : Run) : Type 0 where
    pub state : State
    pub frames : (x : Path) → state.frames x ≡ at_path (stack_of s) x
    pub memory : state.memory ≡ s.memory
    pub known : Known prog named objects state
    pub stacked : Stacked s.path s.below
    pub awake : IsAwake s.frame.waits
    pub owners : AreOwners (stack_of s)

  module _ (s : Run) (m : Mirrors s) where
    pub here : m.state.frames s.path ≡ Some s.frame
    here = m.frames s.path ∙ on_top s

    bare : (k : ℕ) → m.state.frames (k ∷ s.path) ≡ None
    bare k = m.frames (k ∷ s.path) ∙ no_children s m.stacked k

    go : may_go m.state s.path s.frame.made s.frame.waits ≡ true
    go = may m.state s.path s.frame.made s.frame.waits m.awake bare

    left : childless m.state s.path s.frame.made ≡ true
    left = none_left m.state s.path s.frame.made bare

    pub knows : KnowsObjects prog m.state s.path s.frame
    knows = m.known.known s.path s.frame here

    pub acts : (a : Action) → action_of prog s.path s.frame s.memory ≡ a → action_of prog s.path s.frame m.state.memory ≡ a
    acts a e = ap (λ (w : Memory). action_of prog s.path s.frame w) m.memory ∙ e

    after : (t : Run) (c : Change) → Does prog m.state s.path c → c.trap ≡ None → ((x : Path) → override (c.frames x) (m.state.frames x) ≡ at_path (stack_of t) x) →
        (apply c m.state).memory ≡ t.memory → Stacked t.path t.below → IsAwake t.frame.waits → AreOwners (stack_of t) → Mirrors t
    after t c does fine frames memory stacked awake owners = record {
      state = apply c m.state;
      frames = frames;
      memory = memory;
      known = known_kept prog named objects m.state s.path c does fine m.known;
      stacked = stacked;
      awake = awake;
      owners = owners;
    }

    both_here : (k : ℕ) (x : Path) → same_path s.path x ≡ true → same_path (k ∷ s.path) x ≡ true → ⊥
    both_here k x a b = no_own_child k s.path (same_path_is (k ∷ s.path) x b ∙ sym (same_path_is s.path x a))

    -- nothing of what is below stands at the path of the one on top
    cleared_here : (below : List Placed) → Stacked s.path below → (x : Path) → same_path s.path x ≡ true → at_path below x ≡ None
    cleared_here below h x e =
        let same : length s.path ≡ length x = ap (λ (q : Path). length q) (same_path_is s.path x e) in
        none_higher s.path below x h (omega (arith, same))

    awake_after : (e : Effect) → e.trap ≡ None → IsAwake (wait_after e.trap)
    awake_after e fine = subst (λ o. IsAwake (wait_after o)) (sym fine) tt

    after_plain : (e : Effect) → action_of prog s.path s.frame s.memory ≡ Plain e → e.trap ≡ None →
        Mirrors (record { path = s.path; frame = went s.frame e; below = s.below; memory = written e s.memory })
    after_plain e act fine =
        after (record { path = s.path; frame = went s.frame e; below = s.below; memory = written e s.memory })
        (plain_change s.path s.frame e) (plain s.frame e here go (acts (Plain e) act)) fine
        (λ x. put (same_path s.path x) s.frame (went s.frame e) (m.state.frames x) (at_path s.below x) (m.frames x))
        (ap (λ (w : Memory). written e w) m.memory) m.stacked (awake_after e fine) m.owners

    after_sync : (r b : ℕ) (rs : Registers) → action_of prog s.path s.frame s.memory ≡ Sync r b rs →
        Mirrors (record { path = s.path; frame = synced s.frame r b rs; below = s.below; memory = s.memory })
    after_sync r b rs act =
        after (record { path = s.path; frame = synced s.frame r b rs; below = s.below; memory = s.memory })
        (sync_change s.path s.frame r b rs) (sync s.frame r b rs here go (acts (Sync r b rs) act)) refl
        (λ x. put (same_path s.path x) s.frame (synced s.frame r b rs) (m.state.frames x) (at_path s.below x) (m.frames x))
        m.memory m.stacked tt m.owners

    after_detach : (r b n : ℕ) → action_of prog s.path s.frame s.memory ≡ Detach r b n →
        Mirrors (record {
          path = s.frame.made ∷ s.path;
          frame = detached s.frame r b n;
          below = record { path = s.path; frame = continued s.frame n } ∷ s.below;
          memory = s.memory;
        })
    after_detach r b n act =
        after (record {
          path = s.frame.made ∷ s.path;
          frame = detached s.frame r b n;
          below = record { path = s.path; frame = continued s.frame n } ∷ s.below;
          memory = s.memory;
        })
        (detach_change s.path s.frame r b n) (detach s.frame r b n here go (acts (Detach r b n) act)) refl
        (λ x. put_two (same_path s.path x) (same_path (s.frame.made ∷ s.path) x) s.frame (continued s.frame n) (detached s.frame r b n) (m.state.frames x) (at_path s.below x)
        (both_here s.frame.made x) (m.frames x))
        m.memory (s.frame.made, refl, m.stacked) tt
        ((let l : length s.frame.home ≤ length s.path = under_long s.frame.home s.path knows.home.above in let low : length s.frame.home < suc (length s.path) = omega (arith, l) in low), m.owners)

    after_call : (d : Option RegisterId) (callee : ℕ) (vs : List Value) → action_of prog s.path s.frame s.memory ≡ Call d callee vs →
        Mirrors (record {
          path = s.frame.made ∷ s.path;
          frame = called s.path s.frame callee vs;
          below = record { path = s.path; frame = waiting s.frame d } ∷ s.below;
          memory = s.memory;
        })
    after_call d callee vs act =
        after (record {
          path = s.frame.made ∷ s.path;
          frame = called s.path s.frame callee vs;
          below = record { path = s.path; frame = waiting s.frame d } ∷ s.below;
          memory = s.memory;
        })
        (call_change s.path s.frame d callee vs) (call s.frame d callee vs here go (acts (Call d callee vs) act)) refl
        (λ x. put_two (same_path s.path x) (same_path (s.frame.made ∷ s.path) x) s.frame (waiting s.frame d) (called s.path s.frame callee vs) (m.state.frames x) (at_path s.below x)
        (both_here s.frame.made x) (m.frames x))
        m.memory (s.frame.made, refl, m.stacked) tt (tt, m.owners)

    module _ (g : Placed) (rest : List Placed) (at : s.below ≡ g ∷ rest) where
      stacked_at : Stacked s.path (g ∷ rest)
      stacked_at = subst (Stacked s.path) at m.stacked

      owners_at : AreOwners (g ∷ rest)
      owners_at = subst AreOwners at m.owners.1

      frames_at : (x : Path) → m.state.frames x ≡ cond (same_path s.path x) (Some s.frame) (at_path (g ∷ rest) x)
      frames_at x = m.frames x ∙ ap (λ (below : List Placed). cond (same_path s.path x) (Some s.frame) (at_path below x)) at

      after_reattach : (r : ℕ) → action_of prog s.path s.frame s.memory ≡ Reattach r → g.frame.waits ≡ Free →
          Mirrors (record { path = g.path; frame = g.frame; below = rest; memory = s.memory })
      after_reattach r act free =
          let role = reattach_is_child prog s.path s.frame m.state.memory r (acts (Reattach r) act) in
          after (record { path = g.path; frame = g.frame; below = rest; memory = s.memory })
          (reattach_change s.path) (reattach s.frame r role.0 here go (acts (Reattach r) act) left role.1) refl
          (λ x. gone (same_path s.path x) s.frame (m.state.frames x) (at_path (g ∷ rest) x) (cleared_here (g ∷ rest) stacked_at x) (frames_at x))
          m.memory stacked_at.2 (subst IsAwake (sym free) tt) owners_at

      above_is : m.state.frames g.path ≡ Some g.frame
      above_is =
          let long : length s.path ≡ suc (length g.path) = ap (λ (q : Path). length q) stacked_at.1 in
          frames_at g.path ∙ ap (λ (b : Bool). cond b (Some s.frame) (at_path (g ∷ rest) g.path)) (lower s.path g.path (omega (arith, long)))
          ∙ ap (λ (b : Bool). cond b (Some g.frame) (at_path rest g.path)) (same_path_itself g.path)

      off_above : (x : Path) → same_path s.path x ≡ true → same_path g.path x ≡ false
      off_above x e =
          let same : length s.path ≡ length x = ap (λ (q : Path). length q) (same_path_is s.path x e) in
          let long : length s.path ≡ suc (length g.path) = ap (λ (q : Path). length q) stacked_at.1 in
          higher g.path x (omega (arith, same, long))

      none_in_rest : (x : Path) → same_path s.path x ≡ true → at_path rest x ≡ None
      none_in_rest x e =
          let same : length s.path ≡ length x = ap (λ (q : Path). length q) (same_path_is s.path x e) in
          let long : length s.path ≡ suc (length g.path) = ap (λ (q : Path). length q) stacked_at.1 in
          none_higher g.path rest x stacked_at.2 (omega (arith, same, long))

      after_return : (v : Option ℤ) (k : ℕ) (d : Option RegisterId) → action_of prog s.path s.frame s.memory ≡ Return v → g.frame.waits ≡ OnCall k d →
          Mirrors (record { path = g.path; frame = resumed g.frame d v; below = rest; memory = cleared s.path s.memory })
      after_return v k d act waits =
          let role = return_is_body prog s.path s.frame m.state.memory v (acts (Return v) act) in
          after (record { path = g.path; frame = resumed g.frame d v; below = rest; memory = cleared s.path s.memory })
          (return_change s.path g.path g.frame d v)
          (ret s.frame v stacked_at.0 g.path g.frame k d here go (acts (Return v) act) left role stacked_at.1 above_is waits) refl
          (λ x. handed (same_path s.path x) (same_path g.path x) s.frame g.frame (resumed g.frame d v) (m.state.frames x) (at_path rest x) (off_above x) (none_in_rest x) (frames_at x))
          (ap (λ (w : Memory). cleared s.path w) m.memory) stacked_at.2 tt owners_at

    pub mirrors_on : (t : Run) → Goes prog s t → Mirrors t
    mirrors_on t (stack.plain e act fine) = after_plain e act fine
    mirrors_on t (stack.sync r b rs act) = after_sync r b rs act
    mirrors_on t (stack.detach r b n act) = after_detach r b n act
    mirrors_on t (stack.call d callee vs act) = after_call d callee vs act
    mirrors_on t (stack.reattach r g rest act at free) = after_reattach g rest at r act free
    mirrors_on t (stack.ret v g rest k d act at waits) = after_return g rest at v k d act waits

  first_mirrors : (arguments : List ℤ) (memory : Memory) → Mirrors (starting prog arguments memory)
  first_mirrors arguments memory = record {
    state = start_state prog arguments memory;
    frames = λ x. refl;
    memory = refl;
    known = first_known prog named objects arguments memory;
    stacked = refl;
    awake = tt;
    owners = (tt, tt);
  }

  walk_mirrors : (start : Run) → Mirrors start → (n peak : ℕ) (s : Run) → Walk prog start n peak s → Mirrors s
  walk_mirrors start first n peak s begins = first
  walk_mirrors start first n peak s (goes_on k high r t w g) = mirrors_on r (walk_mirrors start first k high r w) s g

  pub mirrored : (arguments : List ℤ) (memory : Memory) (n peak : ℕ) (s : Run) → Walk prog (starting prog arguments memory) n peak s → Mirrors s
  mirrored arguments memory n peak s w = walk_mirrors (starting prog arguments memory) (first_mirrors arguments memory) n peak s w
