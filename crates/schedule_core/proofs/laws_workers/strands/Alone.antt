-- Whatever plain steps a frame does by itself, with memories that are full of any numbers, its next step is safe: what is kept of it rests on no memory.
use Rattle.std.proofs.Common.{◌≡◌, ◌∙◌, ℕ, ◌<◌, Option, Some, None, Bool, true, false, is_some, refl, sym, ap, subst, ℤ, pos}
use Rattle.syntax.specs.declared.operator.Mode.{Mode}
use Rattle.syntax.specs.declared.operator.Mode.TheVariants.{Reads, Writes, Adds}
use Rattle.semantics.specs.Paths.{Path, same_path}
use Rattle.semantics.specs.Below.{itself}
use Rattle.semantics.specs.Cells.{Object, Shared, Local, Cell, Memory}
use Rattle.semantics.specs.Arithmetic.{Trap}
use Rattle.semantics.specs.Frames.{Frame, Item, Does, item_at, word_at, cell_at}
use Rattle.semantics.specs.Effect.{Effect, Action, Plain, Detach, Reattach, Sync, Call, Return, loads, adds_to, action_of}
use Rattle.semantics.specs.State.{State, apply, override, wait_after, went, only, plain_change, may_go}
use Rattle.semantics.proofs.Actions.{same_cell_itself}
use Rattle.semantics.proofs.Places.{only_here, same_path_is}
use Rattle.semantics.proofs.Steps.{Does as DoesStep, plain}
use Rattle.program.specs.declared.function.Program.{Program}
use Rattle.program.specs.declared.instruction.Address.{Address}
use Rattle.program.specs.declared.instruction.Instruction.{Instruction}
use Rattle.program.specs.declared.instruction.Instruction.TheVariants as instruction
use Rattle.serial_machine.specs.laws_conditions.theorem.Conditions.{Going, ClosesRegions}
use Rattle.serial_machine.specs.laws_conditions.theorem.SerialConditions.{Nothing, KeptSerially}
use Rattle.serial_machine.specs.laws_conditions.rules.Registers.{Registered, GivesNumber}
use Rattle.serial_machine.proofs.laws_conditions.theorem.Feet.{going_now}
use Rattle.serial_machine.specs.laws_phases.region_match.declared.tables.Regions.{Regions}
use Rattle.serial_machine.specs.laws_phases.defined.Defined.{IsAlways}
use Rattle.serial_machine.specs.laws_phases.defined.Placed.{IsPlaced, Placed, NoFinds}
use Rattle.serial_machine.specs.laws_phases.defined.Regions.{OwnsRegions, Owns}
use Rattle.serial_machine.specs.laws_phases.defined.Values.{Reads as ReadsCell, ReadsValues}
use Rattle.serial_machine.specs.laws_phases.facts.Kept.{Knows, Ensures}
use Rattle.serial_machine.specs.laws_phases.facts.Known.{KnownHold}
use Rattle.serial_machine.specs.laws_phases.facts.Traps.{FindsAll, MayDo, IsReady}
use Rattle.serial_machine.specs.laws_phases.zones.Uses.{Uses}
use Rattle.serial_machine.proofs.laws_phases.defined.Regions.{regions_are_kept, regions_are_own}
use Rattle.serial_machine.proofs.laws_phases.defined.Registers.{defined_are_kept}
use Rattle.serial_machine.proofs.laws_phases.facts.Kept.{facts_kept}
use Rattle.serial_machine.proofs.laws_phases.facts.Traps.{no_traps}
use Rattle.serial_machine.specs.laws_schedule.kinds.Holding.{HasKindedRegisters}
use Rattle.serial_machine.specs.laws_schedule.kinds.Ready.{IsReadByRules}
use Rattle.serial_machine.specs.laws_schedule.kinds.Uses.{HasKindedUses}
use Rattle.serial_machine.specs.laws_schedule.safe.Kept.{OfAll}
use Rattle.serial_machine.specs.laws_schedule.safe.Objects.{KnowsObjects}
use Rattle.serial_machine.specs.laws_schedule.safe.Sizes.{HasSizedUses}
use Rattle.serial_machine.specs.laws_schedule.zones.ByPhases.{GivesWidths, IsJudged}
use Rattle.serial_machine.proofs.laws_schedule.Accepted.{IsTaken}
use Rattle.serial_machine.proofs.laws_schedule.kinds.Given.{widths_are_given}
use Rattle.serial_machine.proofs.laws_schedule.kinds.Ready.{frames_are_ready}
use Rattle.serial_machine.proofs.laws_schedule.safe.Cells.{uses_there}
use Rattle.serial_machine.proofs.laws_schedule.safe.Everywhere.{step_keeps}
use Rattle.serial_machine.proofs.laws_schedule.safe.Objects.{Known, known_kept}
use Rattle.serial_machine.proofs.laws_schedule.safe.Owners.{StaysAbove, cells_stay}
use Rattle.serial_machine.proofs.room.Operands.{items_fit}
use Rattle.serial_machine.proofs.safe.Going.{item_whole, some_there}
use Rattle.frame_engine.specs.Shows.{Layout, TrapFree, KeepsWithin, Safe}
use Rattle.schedule_workers.specs.Layouts.{alloca_cells, living}
use Rattle.schedule_core.proofs.laws_workers.Owners.{cell_living}
use Rattle.schedule_core.proofs.laws_workers.Points.{IsBelow, below_kept}
use Rattle.schedule_commit.specs.frame_strand.Alone.{IsFull, AloneSteps, here, more, StaysSafeAlone}

-- the state with another memory
abbrev holding : State → Memory → State
holding s m = record s { memory = m }

zeros : Memory
zeros c = Some (pos 0)

-- ---- what rests on frames alone

module _ (prog : Program) where
  living_held : (s : State) (m : Memory) (o : Object) → living prog (holding s m) o ≡ living prog s o
  living_held s m (Shared g) = refl
  living_held s m (Local owner a) = refl

  frames_held : (s : State) (m : Memory) (p : Path) → StaysAbove s (holding s m) p p
  frames_held s m p = record { below = itself; lives = λ z f above is. (f, is, record { home = refl; function = refl }) }

  pub knows_held : (s : State) (m : Memory) (p : Path) (f : Frame) → KnowsObjects prog s p f → KnowsObjects prog (holding s m) p f
  knows_held s m p f knows = record {
    home = let h = knows.home in record { above = h.above; frame = h.frame; lives = h.lives; owns = h.owns; function = h.function };
    given = λ k c low is. cells_stay prog s (holding s m) p p (frames_held s m p) _ c.object (knows.given k c low is);
    elements = λ j d name index c less is holds. cells_stay prog s (holding s m) p p (frames_held s m p) _ c.object (knows.elements j d name index c less is holds);
    awaits = knows.awaits;
  }

  -- a plain step leaves frames of the same functions
  living_went : (s : State) (p : Path) (f : Frame) (e : Effect) → s.frames p ≡ Some f → (o : Object) → living prog (apply (plain_change p f e) s) o ≡ living prog s o
  living_went s p f e is (Shared g) = refl
  living_went s p f e is (Local owner a) = by (same_path p owner) refl
    where
      by : (b : Bool) → same_path p owner ≡ b → alloca_cells prog (override (only p (Some (went f e)) owner) (s.frames owner)) a ≡ alloca_cells prog (s.frames owner) a
      by true same =
          let there : s.frames owner ≡ Some f = subst (λ (x : Path). s.frames x ≡ Some f) (same_path_is p owner same) is in
          rw (same, there)
      by false apart = rw apart

-- ---- the frame that goes on

module _ (prog : Program) (t : IsTaken prog) (regions : Regions) (met : IsJudged prog regions) (uses : HasKindedUses prog) (sized : HasSizedUses prog)
    (opens : Path → Frame → ℕ → Bool) (closes : ClosesRegions prog (λ p f. IsPlaced prog f) opens) (first : State) (p : Path)
  where
    -- it stands in some state, where the same cells live as in the first
    pub record Alone (s : State) (f : Frame) : Type 0 where
      pub known : Known prog t.names.named t.names.objects s
      pub below : OfAll s IsBelow
      pub lives : s.frames p ≡ Some f
      pub cells : (o : Object) → living prog s o ≡ living prog first o
      pub may : may_go s p f.made f.waits ≡ true
      pub placed : IsPlaced prog f
      pub kinded : HasKindedRegisters prog f
      pub own : OwnsRegions prog p f
      pub registers : Registered (IsAlways prog) p f s.memory
      pub facts : KnownHold prog f

    held : (s : State) (f : Frame) (m : Memory) → Alone s f → Alone (holding s m) f
    held s f m a = record {
      known = record {
        tree = let tree = a.known.tree in record { has_parent = tree.has_parent; awaited = tree.awaited; lives = tree.lives };
        known = λ x g is. knows_held prog s m x g (a.known.known x g is);
      };
      below = a.below;
      lives = a.lives;
      cells = λ o. living_held prog s m o ∙ a.cells o;
      may = a.may;
      placed = a.placed;
      kinded = a.kinded;
      own = a.own;
      registers = a.registers;
      facts = a.facts;
    }

    -- ---- a step

    widths : GivesWidths prog (λ q g. HasKindedRegisters prog g)
    widths = widths_are_given prog t.names.typed t.names.kinds uses

    owned : KeptSerially prog (Placed prog) (Owns prog) NoFinds
    owned = regions_are_kept prog t.names.named t.right.regions

    defined : KeptSerially prog Nothing (Registered (IsAlways prog)) (GivesNumber prog)
    defined = defined_are_kept prog t.names.named t.right.regions

    known : KeptSerially prog (λ q g m. HasKindedRegisters prog g) (Knows prog) (Ensures prog)
    known = facts_kept prog met.ranges met.typed met.stable (λ q g m. HasKindedRegisters prog g) (λ q g m kinded. widths.widths q g kinded)

    module _ (s : State) (f : Frame) (a : Alone s f) (e : Effect) (act : action_of prog p f s.memory ≡ Plain e) (fine : e.trap ≡ None) where
      abbrev after : State
      after = apply (plain_change p f e) s

      does : DoesStep prog s p (plain_change p f e)
      does = plain f e a.lives a.may act

      going : Going f
      going = going_now s p f a.may

      kinded_next : HasKindedRegisters prog (went f e)
      kinded_next = widths.kept.plain p f s.memory e a.kinded going act fine

      placed_next : IsPlaced prog (went f e)
      placed_next = (closes.plain_holds p f s.memory e a.placed going act fine).0

      next : Alone after (went f e)
      next = record {
        known = known_kept prog t.names.named t.names.objects s p (plain_change p f e) does fine a.known;
        below = step_keeps prog IsBelow (below_kept prog) s p (plain_change p f e) does fine a.below;
        lives = rw (only_here p (Some (went f e)));
        cells = λ o. living_went prog s p f e a.lives o ∙ a.cells o;
        may = subst (λ (o : Option Trap). may_go after p f.made (wait_after o) ≡ true) (sym fine) refl;
        placed = placed_next;
        kinded = kinded_next;
        own = (owned.plain_kept p f s.memory e a.placed a.own act fine placed_next).next;
        registers = (defined.plain_kept p f s.memory e tt a.registers act fine tt).next;
        facts = (known.plain_kept p f s.memory e a.kinded a.facts act fine kinded_next).next;
      }

    -- ---- the next step is safe

    abbrev layout : (Object → ℤ) → Layout
    layout at = record { at = at; cells = living prog first }

    module _ (s : State) (f : Frame) (a : Alone s f) where
      abbrev Inside : Cell → Type 0
      Inside c = c.index < living prog first c.object

      ready_by : ReadsValues prog f s.memory → IsReady prog p f s.memory
      ready_by values =
          let read : IsReadByRules prog = record { graph = t.right.graph; regions = t.right.regions; defined = t.names.uses; kinds = t.names.kinds; uses = uses } in
          frames_are_ready prog read p f s.memory
          (record { placed = a.placed; registers = a.registers; kinded = a.kinded; values = values; regions = regions_are_own prog t.right.regions p f a.placed a.own })

      used_inside : IsReady prog p f s.memory → (e : Effect) (mode : Mode) (c : Cell) → action_of prog p f s.memory ≡ Plain e → Uses e mode c → Inside c
      used_inside ready e mode c act u =
          subst (λ n. c.index < n) (a.cells c.object)
          (cell_living prog s a.below p c (uses_there prog t.names.named t.names.objects sized s p f (a.known.known p f a.lives) ready e mode c act u).0)

      found : IsReady prog p f s.memory → (what : Instruction) → item_at prog f.function f.block f.index ≡ Some (Does what) → FindsAll f s.memory what
      found ready what at =
          let same : ready.0 ≡ Does what = (let both : Some ready.0 ≡ Some (Does what) = sym ready.1 ∙ at in cc) in
          subst (λ (x : Item). MayDo prog p f s.memory x) same ready.2

      keeps_within : IsReady prog p f s.memory → (at : Object → ℤ) (x : Action) → action_of prog p f s.memory ≡ x → KeepsWithin (layout at) x
      keeps_within ready at (Plain e) act = (λ c w. used_inside ready e Writes c act (some_there (e.writes c) w), λ c w. used_inside ready e Adds c act (some_there (e.adds c) w))
      keeps_within ready at (Detach r b c) act = tt
      keeps_within ready at (Reattach r) act = tt
      keeps_within ready at (Sync r b rs) act = tt
      keeps_within ready at (Call d g vs) act = tt
      keeps_within ready at (Return v) act = tt

      trap_free : IsReady prog p f s.memory → (x : Action) → action_of prog p f s.memory ≡ x → TrapFree x
      trap_free ready (Plain e) act = no_traps prog met.ranges p f s.memory e a.facts ready act
      trap_free ready (Detach r b c) act = tt
      trap_free ready (Reattach r) act = tt
      trap_free ready (Sync r b rs) act = tt
      trap_free ready (Call d g vs) act = tt
      trap_free ready (Return v) act = tt

      safe_by : ReadsValues prog f s.memory → (at : Object → ℤ) → Safe prog (layout at) p f s.memory
      safe_by values at =
          let ready : IsReady prog p f s.memory = ready_by values in
          record {
            trap_free = trap_free ready (action_of prog p f s.memory) refl;
            within = keeps_within ready at (action_of prog p f s.memory) refl;
            operands = items_fit prog t.names.kinds f a.kinded;
            whole = item_whole prog uses f a.kinded (item_at prog f.function f.block f.index) refl;
          }

    -- what it reads lies within: with zeros everywhere it reads the same cell
    module _ (s : State) (f : Frame) (a : Alone s f) where
      with_zeros : Alone (holding s zeros) f
      with_zeros = held s f zeros a

      ready_with_zeros : IsReady prog p f zeros
      unfolding zeros
      ready_with_zeros = ready_by (holding s zeros) f with_zeros (λ what x c at reads is. refl)

      load_inside : (d : _) (x : Address) (c : Cell) → item_at prog f.function f.block f.index ≡ Some (Does (instruction.Load d x)) → cell_at f x ≡ Some c → Inside s f a c
      unfolding zeros
      load_inside d x c at is =
          let act : action_of prog p f zeros ≡ Plain (loads f d c (Some (pos 0))) = rw (at, is) in
          used_inside (holding s zeros) f with_zeros ready_with_zeros (loads f d c (Some (pos 0))) Reads c act (same_cell_itself c)

      add_inside : (x : Address) (v : _) (c : Cell) → item_at prog f.function f.block f.index ≡ Some (Does (instruction.AtomicAdd x v)) → cell_at f x ≡ Some c → Inside s f a c
      unfolding zeros
      add_inside x v c at is = by (word_at f.registers v) refl (found (holding s zeros) f with_zeros ready_with_zeros (instruction.AtomicAdd x v) at).1
        where
          by : (o : Option ℤ) → word_at f.registers v ≡ o → is_some o ≡ true → Inside s f a c
          by None word there = absurd (cc)
          by (Some z) word there =
              let act : action_of prog p f zeros ≡ Plain (adds_to f c z (Some (pos 0))) = rw (at, is, word) in
              used_inside (holding s zeros) f with_zeros ready_with_zeros (adds_to f c z (Some (pos 0))) Adds c act (rw (same_cell_itself c))

      read_inside : (what : Instruction) (x : Address) (c : Cell) → item_at prog f.function f.block f.index ≡ Some (Does what) → ReadsCell what x → cell_at f x ≡ Some c → Inside s f a c
      read_inside (instruction.Binary d op w u v) x c at reads is = absurd reads
      read_inside (instruction.Compare d by w u v) x c at reads is = absurd reads
      read_inside (instruction.Convert d by u) x c at reads is = absurd reads
      read_inside (instruction.Alloca d u) x c at reads is = absurd reads
      read_inside (instruction.ElementPointer d name i) x c at reads is = absurd reads
      read_inside (instruction.Load d y) x c at reads is = load_inside d y c at (ap (cell_at f) reads ∙ is)
      read_inside (instruction.Store u y) x c at reads is = absurd reads
      read_inside (instruction.StoreZeros n name) x c at reads is = absurd reads
      read_inside (instruction.AtomicAdd y u) x c at reads is = add_inside y u c at (ap (cell_at f) reads ∙ is)
      read_inside (instruction.Call d g arguments) x c at reads is = absurd reads
      read_inside (instruction.StartRegion d) x c at reads is = absurd reads

      safe_in : (at : Object → ℤ) (m : Memory) → IsFull (layout at) m → Safe prog (layout at) p f m
      safe_in at m full = safe_by (holding s m) f (held s f m a) (λ what x c is reads there. full c (read_inside what x c is reads there)) at

    -- ---- wherever steps lead

    module _ (f : Frame) (begins : Alone first f) (at : Object → ℤ) where
      led : (n : ℕ) (g : Frame) → AloneSteps prog (layout at) p f n g → (s : State) × Alone s g
      led n g here = (first, begins)
      led n g (more m e before full act fine) =
          let (s, a) = led _ _ before in
          (after (holding s m) _ (held s _ m a) e act fine, next (holding s m) _ (held s _ m a) e act fine)

      pub stays_safe : StaysSafeAlone prog (layout at) p f
      stays_safe n g steps m full = let (s, a) = led n g steps in safe_in s g a at m full
