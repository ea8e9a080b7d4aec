-- Registers that are defined on each path to a frame's place have values, whatever the schedule: a call gives its caller a number where one is due.
-- And a frame's own regions are its own.
use Rattle.std.proofs.Common.{◌≡◌, ◌≢◌, ◌∙◌, ℕ, List, [], ◌∷◌, Option, Some, None, Bool, true, is_some, refl, ap, subst, ℤ}
use Rattle.linear.specs.declared.form.RegisterId.{RegisterId}
use Rattle.semantics.specs.Paths.{Path}
use Rattle.semantics.specs.Cells.{Memory}
use Rattle.semantics.specs.Frames.{Value, Registers, OnCall, Halted, Frame}
use Rattle.semantics.specs.Effect.{Effect, Plain, Detach, Sync, Call, Return, action_of}
use Rattle.semantics.specs.State.{State, Change, apply, went, detached, continued, synced, called, waiting, resumed, root_frame}
use Rattle.semantics.specs.SerialMeaning.{Left, Gave, at_last}
use Rattle.semantics.specs.Events.{Event, start}
use Rattle.semantics.specs.Replay.{replay}
use Rattle.semantics.specs.Sound.{NeverTraps}
use Rattle.semantics.proofs.Diamond.{no_call_after}
use Rattle.semantics.proofs.Outcomes.{gave_same, left_none}
use Rattle.semantics.proofs.Steps.{Does}
use Rattle.program.specs.declared.function.Program.{Program}
use Rattle.serial_machine.specs.laws_conditions.theorem.Conditions.{Zone, Covers, Clear, Going, PassesZonesOn, ClosesRegions}
use Rattle.serial_machine.specs.laws_conditions.theorem.SerialConditions.{Nothing, KeptSerially}
use Rattle.serial_machine.specs.laws_conditions.rules.Registers.{returns_number, Registered, GivesNumber}
use Rattle.serial_machine.specs.laws_phases.region_match.Matched.{AreRegionsRight}
use Rattle.serial_machine.specs.laws_phases.defined.Defined.{IsAlways}
use Rattle.serial_machine.specs.laws_phases.defined.Names.{IsNamed}
use Rattle.serial_machine.specs.laws_phases.defined.Placed.{IsPlaced, Placed, NoFinds}
use Rattle.serial_machine.specs.laws_phases.defined.Regions.{OwnsRegions, Owns}
use Rattle.serial_machine.proofs.laws_phases.defined.Regions.{regions_are_kept}
use Rattle.serial_machine.proofs.laws_phases.defined.Registers.{defined_are_kept}
use Rattle.serial_machine.proofs.laws_schedule.Waits.{free_never, region_never, same_call}
use Rattle.schedule_core.proofs.laws_workers.strands.Feet.{Standing, standing_kept, standing_held, always_stands}

-- a frame of the function of this number touches no cell here; it promises a number where the function returns one
abbrev gives_back : Program → ℕ → Zone
gives_back prog n = record { reads = λ c. ⊥; adds = λ c. ⊥; gives = λ v. returns_number prog n ≡ true → is_some v ≡ true }

abbrev nowhere : Memory
nowhere c = None

-- the place of a frame, its regions and its registers; while it waits for a call, what its regions are behind it
pub record Keeps (prog : Program) (p : Path) (f : Frame) (n : ℕ) : Type 0 where
  pub function : f.function ≡ n
  pub placed : IsPlaced prog f
  pub regions : OwnsRegions prog p f
  pub registers : Going f → Registered (IsAlways prog) p f nowhere
  pub behind : (k : ℕ) (d : Option RegisterId) (v : Option ℤ) → f.waits ≡ OnCall k d → OwnsRegions prog p (resumed f d v)

-- with what the callee gives back its registers have values
abbrev Relies : Program → Frame → ℕ → Type 0
Relies prog f n = (k : ℕ) (d : Option RegisterId) (v : Option ℤ) → f.waits ≡ OnCall k d → (returns_number prog n ≡ true → is_some v ≡ true) → Registered (IsAlways prog) [] (resumed f d v) nowhere

module _ (prog : Program) (named : IsNamed prog) (right : AreRegionsRight prog) (opens : Path → Frame → ℕ → Bool) (closes : ClosesRegions prog (λ p f. IsPlaced prog f) opens) where
  covered : (n k : ℕ) → Covers (gives_back prog n) (gives_back prog k)
  covered n k = record { reads = λ c h. h; adds = λ c h. h }

  clear : (n k : ℕ) → Clear (gives_back prog n) (gives_back prog k)
  clear n k = record { first = λ c h i. h; second = λ c h i. h }

  regions : KeptSerially prog (Placed prog) (Owns prog) NoFinds
  regions = regions_are_kept prog named right

  defined : KeptSerially prog Nothing (Registered (IsAlways prog)) (GivesNumber prog)
  defined = defined_are_kept prog named right

  module _ (p : Path) (f : Frame) (n : ℕ) (m : Memory) (h : Keeps prog p f n) (going : Going f) where
    after_plain : (e : Effect) → action_of prog p f m ≡ Plain e → e.trap ≡ None → Keeps prog p (went f e) n
    after_plain e act fine =
        let placed : IsPlaced prog (went f e) = (closes.plain_holds p f m e h.placed going act fine).0 in
        record {
          function = h.function;
          placed = placed;
          regions = (regions.plain_kept p f m e h.placed h.regions act fine placed).next;
          registers = λ on. (defined.plain_kept p f m e tt (h.registers going) act fine tt).next;
          behind = λ k d v w. absurd (no_call_after e.trap k d w);
        }

    module _ (r b k : ℕ) (act : action_of prog p f m ≡ Detach r b k) where
      child_placed : IsPlaced prog (detached f r b k)
      child_placed = (closes.detach_holds p f m r b k h.placed going act).0

      continued_placed : IsPlaced prog (continued f k)
      continued_placed = (closes.detach_holds p f m r b k h.placed going act).1

      child : Keeps prog (f.made ∷ p) (detached f r b k) f.function
      child = record {
        function = refl;
        placed = child_placed;
        regions = regions.child_kept p f m r b k h.placed h.regions act child_placed;
        registers = λ on. defined.child_kept p f m r b k tt (h.registers going) act tt;
        behind = λ j d v w. absurd (free_never j d w);
      }

      continues : Keeps prog p (continued f k) n
      continues = record {
        function = h.function;
        placed = continued_placed;
        regions = (regions.continued_kept p f m r b k h.placed h.regions act child_placed (at_last Left m) refl tt continued_placed).next;
        registers = λ on. (defined.continued_kept p f m r b k tt (h.registers going) act tt (at_last Left m) refl (λ v e. absurd (left_none v e)) tt).next;
        behind = λ j d v w. absurd (free_never j d w);
      }

    after_sync : (r b : ℕ) (rs : Registers) → action_of prog p f m ≡ Sync r b rs → Keeps prog p (synced f r b rs) n
    after_sync r b rs act =
        let placed : IsPlaced prog (synced f r b rs) = (closes.sync_holds p f m r b rs h.placed going act).0 in
        record {
          function = h.function;
          placed = placed;
          regions = (regions.sync_kept p f m r b rs h.placed h.regions act placed).next;
          registers = λ on. (defined.sync_kept p f m r b rs tt (h.registers going) act tt).next;
          behind = λ k d v w. absurd (region_never r k d w);
        }

    module _ (d : Option RegisterId) (g : ℕ) (vs : List Value) (act : action_of prog p f m ≡ Call d g vs) where
      callee_placed : IsPlaced prog (called p f g vs)
      callee_placed = (closes.call_holds p f m d g vs h.placed going act).0

      waiting_placed : IsPlaced prog (waiting f d)
      waiting_placed = (closes.call_holds p f m d g vs h.placed going act).1

      callee : Keeps prog (f.made ∷ p) (called p f g vs) g
      callee = record {
        function = refl;
        placed = callee_placed;
        regions = regions.callee_kept p f m d g vs h.placed h.regions act callee_placed;
        registers = λ on. defined.callee_kept p f m d g vs tt (h.registers going) act tt;
        behind = λ k e v w. absurd (free_never k e w);
      }

      -- behind the call
      regions_behind : (v : Option ℤ) → OwnsRegions prog p (resumed (waiting f d) d v)
      regions_behind v =
          (regions.resumed_kept p f m d g vs h.placed h.regions act callee_placed (at_last (Gave v) m) v refl tt
          (closes.resume_holds p (waiting f d) f.made d v waiting_placed refl).0).next

      waits : Keeps prog p (waiting f d) n
      waits = record {
        function = h.function;
        placed = waiting_placed;
        regions = record { around = h.regions.around; own = h.regions.own };
        registers = λ on. absurd (on f.made d refl);
        behind = λ k e v w. subst (λ (x : Option RegisterId). OwnsRegions prog p (resumed (waiting f d) x v)) (same_call f.made k d e w) (regions_behind v);
      }

      relies : Relies prog (waiting f d) g
      relies k e v w number =
          subst (λ (x : Option RegisterId). Registered (IsAlways prog) [] (resumed (waiting f d) x v) nowhere) (same_call f.made k d e w)
          (defined.resumed_kept p f m d g vs tt (h.registers going) act tt (at_last (Gave v) m) v refl
          (λ u same due. subst (λ (o : Option ℤ). is_some o ≡ true) (gave_same v u same) (number due)) tt).next

    given_back : (v : Option ℤ) → action_of prog p f m ≡ Return v → returns_number prog n ≡ true → is_some v ≡ true
    given_back v act due = defined.return_finds p f m v tt (h.registers going) act v refl (ap (λ k. returns_number prog k) h.function ∙ due)

  passes : PassesZonesOn ℕ (gives_back prog) prog (Keeps prog) (λ p f r. 0) (Relies prog)
  passes = record {
    plain_ok = λ p f n m e h going act fine. (after_plain p f n m h going e act fine, λ r. covered 0 0);
    detach_ok = λ p f n m r b k h going act.
        (f.function, covered n f.function, λ q. clear f.function 0, child p f n m h going r b k act, continues p f n m h going r b k act, λ q. covered 0 0, covered 0 f.function);
    sync_ok = λ p f n m r b rs h going act. (after_sync p f n m h going r b rs act, λ q apart. covered 0 0);
    call_ok = λ p f n m d g vs h going act.
        (g, covered n g, λ q. clear g 0, callee p f n m h going d g vs act, waits p f n m h going d g vs act, λ q. covered 0 0, relies p f n m h going d g vs act);
    return_ok = λ p f n m v h going act. given_back p f n m h going v act;
    resume_ok = λ p f n y k d v h w relied given. (
      record {
        function = h.function;
        placed = (closes.resume_holds p f k d v h.placed w).0;
        regions = h.behind k d v w;
        registers = λ on. relied k d v w given;
        behind = λ j e u x. absurd (free_never j e x);
      },
      λ q. covered 0 0,
    );
  }

  -- so it is of each frame of a state
  pub record Firm (s : State) : Type 0 where
    standing : Standing ℕ (gives_back prog) prog (Keeps prog) (λ p f r. 0) (Relies prog) passes s

  pub firm_kept : (s : State) (p : Path) (c : Change) → Does prog s p c → c.trap ≡ None → Firm s → Firm (apply c s)
  firm_kept s p c does fine h = record { standing = standing_kept ℕ (gives_back prog) prog (Keeps prog) (λ p f r. 0) (Relies prog) passes s p c does fine h.standing }

  pub firm_held : (s : State) (m : Memory) → Firm s → Firm (record s { memory = m })
  firm_held s m h = record { standing = standing_held ℕ (gives_back prog) prog (Keeps prog) (λ p f r. 0) (Relies prog) passes s m h.standing }

  pub firm_keeps : (s : State) → Firm s → (p : Path) (f : Frame) → s.frames p ≡ Some f → f.waits ≢ Halted → (n : ℕ) × Keeps prog p f n
  firm_keeps s h p f is on = (h.standing.feet p, h.standing.footed.own p f is on)

  pub always_firm : (arguments : List ℤ) (memory : Memory) → IsPlaced prog (root_frame prog arguments) → OwnsRegions prog [] (root_frame prog arguments) → Registered (IsAlways prog) [] (root_frame prog arguments) nowhere →
      (workers : ℕ) → NeverTraps prog workers (start prog arguments memory) → (events : List Event) → Firm (replay prog workers events (start prog arguments memory)).core
  always_firm arguments memory placed own values workers never events = record {
    standing = always_stands ℕ (gives_back prog) prog (Keeps prog) (λ p f r. 0) (Relies prog) passes arguments memory prog.main.0
        (record { function = refl; placed = placed; regions = own; registers = λ on. values; behind = λ k d v w. absurd (free_never k d w) }) workers never events;
  }
