-- One event after another.
use Rattle.std.proofs.Common.{◌≡◌, ℕ, ◌≤◌, List, [], ◌∷◌, ◌++◌, append_assoc, append-nil, length, map, Option, Some, None, Bool, true, false, cond, refl, sym, ap, ◌∙◌, subst, ℤ}
use Rattle.semantics.specs.Events as running
use Rattle.semantics.specs.Events.{Machine}
use Rattle.semantics.specs.Replay.{or_unchanged, replay}
use Rattle.program.specs.declared.function.Program.{Program}
use Rattle.serial_machine.specs.store.Cells.{NamedCells}
use Rattle.schedule_workers.specs.declared.run.Run.{Run}
use Rattle.schedule_workers.specs.Events.{DoesEvent, LeavesStalls}
use Rattle.schedule_workers.specs.Going as crew
use Rattle.schedule_workers.specs.Left.{LeavesAsShown}
use Rattle.schedule_workers.specs.RunShown.{IsShown}
use Rattle.schedule_workers.specs.Stalls.{Blocks, StallsAgree, if_enabled, last_blocks, no_blocks, noted}
use Rattle.frame.specs.declared.event.Event.{Event}
use Rattle.schedule_core.specs.declared.stage.Stage.{Stage}
use Rattle.schedule_core.specs.Replaying.{Becomes, Happens, LeavesAsBefore, Replays, ReplaysMore, ReplaysOneMore, ReplaysTheSame, event_of, first_state, state_after}
use Rattle.schedule_core.specs.Stages.{GoesWell, IsReached, IsState, program_of, workers_of}
use Rattle.schedule_core.proofs.Reached.{reached_next, replay_more}

pub map_more : (events : List Event) (e : Event) → map event_of (events ++ e ∷ []) ≡ map event_of events ++ event_of e ∷ []
map_more [] e = refl
map_more (d ∷ events) e = ap (λ (l : List running.Event). event_of d ∷ l) (map_more events e)

-- ---- blocks of last instructions

module _ (prog : Program) (workers : ℕ) where
  last_more : (events : List running.Event) (e : running.Event) (m : Machine) (last : Blocks) →
      last_blocks prog workers (events ++ e ∷ []) m last ≡
      (let now = replay prog workers events m in let before = last_blocks prog workers events m last in if_enabled (running.event prog workers e now) (noted e now before) before)
  last_more [] e m last = refl
  last_more (d ∷ events) e m last = last_more events e (or_unchanged (running.event prog workers d m) m) (if_enabled (running.event prog workers d m) (noted d m last) last)

  -- where it is known whether the last event is done
  last_event : (events : List running.Event) (e : running.Event) (first : Machine) (o : Option Machine) → running.event prog workers e (replay prog workers events first) ≡ o →
      last_blocks prog workers (events ++ e ∷ []) first no_blocks ≡
      if_enabled o (noted e (replay prog workers events first) (last_blocks prog workers events first no_blocks)) (last_blocks prog workers events first no_blocks)
  last_event events e first o is =
      let before = last_blocks prog workers events first no_blocks in
      last_more events e first no_blocks ∙ ap (λ x. if_enabled x (noted e (replay prog workers events first) before) before) is

  well_next : (m next : Machine) (e : running.Event) → GoesWell prog workers m → running.event prog workers e m ≡ Some next → GoesWell prog workers next
  well_next m next e w is =
      let after : or_unchanged (running.event prog workers e m) m ≡ next = ap (λ o. or_unchanged o m) is in
      subst (λ x. GoesWell prog workers x) after (record { safe = λ events. w.safe (e ∷ events); strands = λ events. w.strands (e ∷ events); full = λ events. w.full (e ∷ events) })

-- ---- one event

abbrev pub with_run : Stage → Run → Stage
with_run old k = record old { run = k }

module _ (old : Stage) (k : Run) (many : length k.hands.items ≡ length old.run.hands.items) where
  abbrev new : Stage
  new = with_run old k

  state_next : (e : running.Event) (m next : Machine) → IsState old m → running.event (program_of old) (workers_of old) e m ≡ Some next → IsShown (program_of old) old.places next k → IsState new next
  state_next e m next s is shown = record {
    shown = shown;
    manned = subst (λ n. 1 ≤ n) (sym many) s.manned;
    reached = subst (λ n. IsReached (program_of old) n next) (sym many) (reached_next (program_of old) (workers_of old) m next e s.reached is);
    well = subst (λ n. GoesWell (program_of old) n next) (sym many) (well_next (program_of old) (workers_of old) m next e s.well is);
  }

  pub happens : (e : running.Event) (done : Bool) → DoesEvent (program_of old) old.places old.run k e done → Happens old new e done
  happens e done does m s = by done (does m s.shown s.well.safe)
    where
      by : (b : Bool) → crew.Becomes (program_of old) old.places (workers_of old) e m k b → Becomes e m old new b
      by true h = (h.0, h.1, state_next e m h.0 s h.1 h.2)
      by false h = h.0

  module _ (e : Event) (done : Bool) (h : Happens old new (event_of e) done) (same : done ≡ false → new ≡ old) (stalls : LeavesStalls (program_of old) old.places old.run k (event_of e) done) where
    module _ (arguments : List ℤ) (globals : List NamedCells) (events : List Event) (r : Replays (program_of old) arguments globals (workers_of old) events old) where
      abbrev first : Machine
      first = first_state (program_of old) arguments globals

      abbrev now : Machine
      now = state_after (program_of old) arguments globals (workers_of old) events

      abbrev blocks : Blocks
      blocks = last_blocks (program_of old) (workers_of old) (map event_of events) first no_blocks

      after : (o : Option Machine) → running.event (program_of old) (workers_of old) (event_of e) now ≡ o → or_unchanged o now ≡ state_after (program_of old) arguments globals (workers_of old) (events ++ e ∷ [])
      after o is =
          sym (ap (λ l. replay (program_of old) (workers_of old) l first) (map_more events e)
          ∙ (replay_more (program_of old) (workers_of old) (map event_of events) (event_of e) first ∙ ap (λ x. or_unchanged x now) is))

      blocks_after : (o : Option Machine) → running.event (program_of old) (workers_of old) (event_of e) now ≡ o →
          if_enabled o (noted (event_of e) now blocks) blocks ≡ last_blocks (program_of old) (workers_of old) (map event_of (events ++ e ∷ [])) first no_blocks
      blocks_after o is =
          sym (ap (λ l. last_blocks (program_of old) (workers_of old) l first no_blocks) (map_more events e) ∙ last_event (program_of old) (workers_of old) (map event_of events) (event_of e) first o is)

      replays_here : (b : Bool) → done ≡ b → Becomes (event_of e) now old new b → Replays (program_of old) arguments globals (workers_of old) (events ++ e ∷ []) new
      replays_here true is (next, enabled, stands) = record {
        program = refl;
        as_many = many;
        globals_are = r.globals_are;
        state = subst (λ x. IsState new x) (after (Some next) enabled) stands;
        stalls =
            let noticed : StallsAgree (cond done (noted (event_of e) now blocks) blocks) k.cactus = stalls now r.state.shown r.state.well.safe blocks r.stalls in
            subst (λ (l : Blocks). StallsAgree l k.cactus) (ap (λ b. cond b (noted (event_of e) now blocks) blocks) is ∙ blocks_after (Some next) enabled) noticed;
      }
      replays_here false is none = record {
        program = refl;
        as_many = many;
        globals_are = r.globals_are;
        state = subst (λ x. IsState new x) (after None none) (subst (λ (s : Stage). IsState s now) (sym (same is)) r.state);
        stalls =
            let noticed : StallsAgree (cond done (noted (event_of e) now blocks) blocks) k.cactus = stalls now r.state.shown r.state.well.safe blocks r.stalls in
            subst (λ (l : Blocks). StallsAgree l k.cactus) (ap (λ b. cond b (noted (event_of e) now blocks) blocks) is ∙ blocks_after None none) noticed;
      }

    pub replays_next : ReplaysOneMore old new e
    replays_next prog arguments globals workers events r =
        let own : Replays (program_of old) arguments globals (workers_of old) events old =
        subst (λ n. Replays (program_of old) arguments globals n events old) (sym r.as_many) (subst (λ q. Replays q arguments globals workers events old) (sym r.program) r) in
        subst (λ q. Replays q arguments globals workers (events ++ e ∷ []) new) r.program
        (subst (λ n. Replays (program_of old) arguments globals n (events ++ e ∷ []) new) r.as_many (replays_here arguments globals events own done refl (h _ own.state)))

-- ---- a run of which the same is seen

module _ (old : Stage) (k : Run) (many : length k.hands.items ≡ length old.run.hands.items) (left : LeavesAsShown (program_of old) old.places old.run k) where
  abbrev seen : Stage
  seen = with_run old k

  state_same : (m : Machine) → IsState old m → IsState seen m
  state_same m s = record {
    shown = left.shown m s.shown s.well.safe;
    manned = subst (λ n. 1 ≤ n) (sym many) s.manned;
    reached = subst (λ n. IsReached (program_of old) n m) (sym many) s.reached;
    well = subst (λ n. GoesWell (program_of old) n m) (sym many) s.well;
  }

  replays_same : ReplaysTheSame old seen
  replays_same prog arguments globals workers events r = record {
    program = r.program;
    as_many = many ∙ r.as_many;
    globals_are = r.globals_are;
    state = state_same _ r.state;
    stalls = left.stalls (last_blocks prog workers (map event_of events) (first_state prog arguments globals) no_blocks) r.stalls;
  }

  pub leaves_as_before : LeavesAsBefore old seen
  leaves_as_before = record { state = state_same; replays = replays_same; uses = left.uses; globals = refl }

-- ---- many

pub none_more : (stage : Stage) → ReplaysMore stage stage []
none_more stage prog arguments globals workers events r = subst (λ (l : List Event). Replays prog arguments globals workers l stage) (sym (append-nil events)) r

pub one_more : (old mid new : Stage) (more : List Event) (e : Event) → ReplaysMore old mid more → ReplaysOneMore mid new e → ReplaysMore old new (more ++ e ∷ [])
one_more old mid new more e before last prog arguments globals workers events r =
    subst (λ (l : List Event). Replays prog arguments globals workers l new) (append_assoc events more (e ∷ []))
    (last prog arguments globals workers (events ++ more) (before prog arguments globals workers events r))
