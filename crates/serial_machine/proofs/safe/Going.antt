-- Wherever a serial run comes it can do its next step.
use Rattle.std.proofs.Common.{◌≡◌, ◌≢◌, ℕ, ◌≤◌, List, length, Option, Some, None, true, is_some, refl, ap, sym, ◌∙◌, subst, arith, slice_get, eqb-true, ℤ}
use Rattle.std.specs.Prelude.{IsSome}
use Rattle.syntax.specs.declared.operator.Mode.TheVariants.{Writes, Adds}
use Rattle.linear.specs.declared.form.RegisterId.{RegisterId}
use Rattle.semantics.specs.Arithmetic.{Trap}
use Rattle.semantics.specs.Cells.{Object, Shared, Local, Cell, Memory}
use Rattle.semantics.specs.Frames.{Value, Pointer, Frame, Item, Does, Ends, item_at, cells_of}
use Rattle.semantics.specs.Effect.{Action, Plain, Detach, Reattach, Sync, Call, Return, action_of}
use Rattle.semantics.specs.State.{State}
use Rattle.semantics.specs.Paths.{Path}
use Rattle.program.specs.declared.function.Program.{Program}
use Rattle.program.specs.declared.function.RegisterKind.{RegisterKind}
use Rattle.program.specs.declared.function.RegisterKind.TheVariants as kind
use Rattle.program.specs.declared.identifier.ObjectName.{ObjectName}
use Rattle.program.specs.declared.identifier.ObjectName.TheVariants as object
use Rattle.program.specs.declared.instruction.Address.TheVariants as address
use Rattle.program.specs.declared.instruction.Argument.TheVariants as argument
use Rattle.program.specs.declared.instruction.Instruction.{Instruction}
use Rattle.program.specs.declared.instruction.Instruction.TheVariants as instruction
use Rattle.laws_schedule.proofs.laws_conditions.rules.Moves.{calls_here}
use Rattle.laws_schedule.specs.types.Apart.{InstructionNames}
use Rattle.frame_engine.specs.Shows.{Layout, KeepsWithin, NameIsWhole, NamesWhole, ItemWhole, TrapFree}
use Rattle.laws_schedule.specs.laws_phases.defined.Names.{IsNamed}
use Rattle.laws_schedule.specs.laws_phases.defined.Values.{NamesObjects}
use Rattle.laws_schedule.specs.laws_phases.facts.Traps.{IsReady}
use Rattle.laws_schedule.proofs.laws_phases.defined.Values.{passed_at, passed_object}
use Rattle.laws_schedule.specs.kinds.Holding.{HasKindedRegisters, HoldKinds, holds_kind}
use Rattle.laws_schedule.specs.kinds.Uses.{HasKindedUses}
use Rattle.laws_schedule.proofs.kinds.Uses.{uses_are_kinded}
use Rattle.laws_schedule.specs.safe.Objects.{HasCells}
use Rattle.laws_schedule.specs.safe.Sizes.{HasSizedUses}
use Rattle.laws_schedule.proofs.safe.Cells.{uses_there}
use Rattle.laws_schedule.proofs.safe.Objects.{object_cells}
use Rattle.laws_schedule.proofs.safe.Ready.{NoTrap, ready}
use Rattle.laws_schedule.proofs.safe.Sizes.{uses_are_sized}
use Rattle.laws_schedule.specs.typing.Kinds.{HasKinds, IsOfKind}
use Rattle.laws_schedule.specs.Promise.{AreTaken, HasGlobals, KeepsItsPromise}
use Rattle.laws_schedule.proofs.Accepted.{IsTaken, is_taken}
use Rattle.laws_schedule.proofs.Along.{Along, kept_along, kept_at_root}
use Rattle.laws_schedule.proofs.Bounds.{budget_bounded}
use Rattle.laws_schedule.proofs.Promise.{accepted_programs_keep_their_promise}
use Rattle.laws_schedule.proofs.Serially.{Found}
use Rattle.store.specs.verifier.Accepted.{IsProgramOf}
use Rattle.store.specs.verifier.Budgets.{budget_of}
use Rattle.laws_strands.specs.stacks.Strands.{Placed}
use Rattle.serial_stack.specs.Steps.{Run, HasNoStep, IsStuck, Walk, starting}
use Rattle.serial_stack.specs.Layouts.{frames_of, layout_of}
use Rattle.serial_stack.specs.StackShown.{CanGo, CanGoOn, IsOld}
use Rattle.serial_machine.specs.Safe.{HasCellsOf, SerialRunsAreSafe}
use Rattle.serial_machine.specs.walks.Along.{GoesOnTo, IsCounted}
use Rattle.serial_machine.proofs.room.Operands.{function_there, items_fit}
use Rattle.serial_machine.proofs.walks.Ahead.{walks_go_on}
use Rattle.serial_machine.proofs.walks.Counted.{walks_count}
use Rattle.serial_machine.proofs.walks.WalksKept.{walks_keep}
use Rattle.serial_machine.proofs.safe.Mirrors.{Mirrors, knows, acts, under_long, mirrored}
use Rattle.serial_machine.proofs.safe.Sizes.{cell_laid}
use Rattle.serial_machine.proofs.safe.Stacks.{stack_long}

-- ---- no trap

never_traps : (o : Option Trap) → (IsSome o → ⊥) → o ≡ None
never_traps None free = refl
never_traps (Some t) free = absurd (free refl)

trap_free : (a : Action) (below : List Placed) → (HasNoStep a below → ⊥) → TrapFree a
trap_free (Plain e) below free = never_traps e.trap free
trap_free (Detach r b c) below free = tt
trap_free (Reattach r) below free = tt
trap_free (Sync r b rs) below free = tt
trap_free (Call d g vs) below free = tt
trap_free (Return v) below free = tt

no_trap : (a : Action) (below : List Placed) → (HasNoStep a below → ⊥) → NoTrap a
no_trap (Plain e) below free = never_traps e.trap free
no_trap (Detach r b c) below free = tt
no_trap (Reattach r) below free = tt
no_trap (Sync r b rs) below free = tt
no_trap (Call d g vs) below free = tt
no_trap (Return v) below free = tt

pub some_there : {A : Type 0} (o : Option A) → o ≢ None → is_some o ≡ true
some_there None some = absurd (some refl)
some_there (Some a) some = refl

-- ---- pointers to whole objects

module _ (prog : Program) (uses : HasKindedUses prog) (f : Frame) (held : HasKindedRegisters prog f) where
  pointer_whole : (kinds : List RegisterKind) (r : RegisterId) → HoldKinds kinds f.registers → IsOfKind kinds r.0 kind.Object → NameIsWhole f (object.Parameter r)
  pointer_whole kinds r holds is c e = eqb-true c.index 0 (sym (ap (λ (o : Option Value). holds_kind kind.Object o) e) ∙ holds r.0 kind.Object is)

  module _ (what : Instruction) (here : item_at prog f.function f.block f.index ≡ Some (Does what)) where
    pub name_whole : (name : ObjectName) → InstructionNames what name → NameIsWhole f name
    name_whole (object.Global g) names = tt
    name_whole (object.Alloca a) names = tt
    name_whole (object.Parameter r) names =
        let there = function_there prog f.function f.block f.index (Does what) here in
        pointer_whole there.0.registers r (held.holds there.0 there.1) (uses.objects f.function f.block f.index what r there.0 here there.1 names)

  names_whole : (what : Instruction) → item_at prog f.function f.block f.index ≡ Some (Does what) → NamesWhole f what
  names_whole (instruction.Binary d op w a b) here = tt
  names_whole (instruction.Compare d by w a b) here = tt
  names_whole (instruction.Convert d by a) here = tt
  names_whole (instruction.Alloca d a) here = tt
  names_whole (instruction.ElementPointer d n i) here = name_whole (instruction.ElementPointer d n i) here n refl
  names_whole (instruction.Load d (address.First n)) here = name_whole (instruction.Load d (address.First n)) here n refl
  names_whole (instruction.Load d (address.Element x)) here = tt
  names_whole (instruction.Store a (address.First n)) here = name_whole (instruction.Store a (address.First n)) here n refl
  names_whole (instruction.Store a (address.Element x)) here = tt
  names_whole (instruction.StoreZeros cells n) here = name_whole (instruction.StoreZeros cells n) here n refl
  names_whole (instruction.AtomicAdd (address.First n) a) here = name_whole (instruction.AtomicAdd (address.First n) a) here n refl
  names_whole (instruction.AtomicAdd (address.Element x) a) here = tt
  names_whole (instruction.Call d callee arguments) here = tt
  names_whole (instruction.StartRegion d) here = tt

  pub item_whole : (o : Option Item) → item_at prog f.function f.block f.index ≡ o → ItemWhole f o
  item_whole None is = tt
  item_whole (Some (Does what)) is = names_whole what is
  item_whole (Some (Ends t)) is = tt

-- ---- what is passed

old_of : (prog : Program) (s : State) (p : Path) (n : ℕ) (o : Object) → HasCells prog s p n o → IsOld (length p) o
old_of prog s p n (Shared g) h = tt
old_of prog s p n (Local owner a) h = under_long owner p h.above

module _ (prog : Program) (named : IsNamed prog) (objects : NamesObjects prog) (s : Run) (m : Mirrors prog named objects s) where
  passed_old : (d : Option RegisterId) (callee : ℕ) (values : List Value) → action_of prog s.path s.frame s.memory ≡ Call d callee values → (x : ℕ) (c : Cell) → slice_get values x ≡ Some (Pointer c) →
      IsOld (length s.path) c.object
  passed_old d callee values act x c is =
      let call = calls_here prog s.path s.frame s.memory d callee values act in
      let one = passed_at s.frame call.arguments values x (Pointer c) call.values_are is in
      let two = passed_object s.frame one.0 (Pointer c) c one.2 refl in
      let there : slice_get call.arguments x ≡ Some (argument.Object two.0) = one.1 ∙ ap (λ a. Some a) two.1 in
      old_of prog m.state s.path (cells_of prog s.frame.function two.0) c.object
      (object_cells prog named objects m.state s.path s.frame (knows prog named objects s m) two.0 c.object
      (λ r is_r. objects.own s.frame.function s.frame.block s.frame.index (instruction.Call d call.function call.arguments) r call.is (x, there ∙ ap (λ n. Some (argument.Object n)) is_r)) two.2)

  module _ (sized : HasSizedUses prog) (globals : List ℕ) (covers : HasCellsOf prog globals) (free : IsStuck prog s → ⊥) where
    abbrev layout : Layout
    layout = layout_of globals prog (frames_of s)

    here_ready : IsReady prog s.path s.frame m.state.memory
    here_ready = ready prog s.path s.frame m.state.memory (subst NoTrap (sym (acts prog named objects s m (action_of prog s.path s.frame s.memory) refl)) (no_trap (action_of prog s.path s.frame s.memory) s.below free))

    keeps_within : (a : Action) → action_of prog s.path s.frame s.memory ≡ a → KeepsWithin layout a
    keeps_within (Plain e) act =
        let at = acts prog named objects s m (Plain e) act in
        let known = knows prog named objects s m in (
          λ c w. cell_laid globals prog covers named objects s m c (uses_there prog named objects sized m.state s.path s.frame known here_ready e Writes c at (some_there (e.writes c) w)).0,
          λ c w. cell_laid globals prog covers named objects s m c (uses_there prog named objects sized m.state s.path s.frame known here_ready e Adds c at (some_there (e.adds c) w)).0,
        )
    keeps_within (Detach r b c) act = tt
    keeps_within (Reattach r) act = tt
    keeps_within (Sync r b rs) act = tt
    keeps_within (Call d g vs) act = tt
    keeps_within (Return v) act = tt

    module _ (kinds : HasKinds prog) (uses : HasKindedUses prog) (held : HasKindedRegisters prog s.frame) (n : ℕ) (counted : IsCounted n s) (small : n ≤ 1000000000000) where
      pub can_go : CanGo globals prog s
      can_go = record {
        safe = record {
          trap_free = trap_free (action_of prog s.path s.frame s.memory) s.below free;
          within = keeps_within (action_of prog s.path s.frame s.memory) refl;
          operands = items_fit prog kinds s.frame held;
          whole = item_whole prog uses s.frame held (item_at prog s.frame.function s.frame.block s.frame.index) refl;
        };
        goes = free;
        whole = λ d callee arguments is k name at. name_whole prog uses s.frame held (instruction.Call d callee arguments) is name (k, at);
        old = passed_old;
        index = let i = counted.top.index in let b = small in omega (arith, i, b);
        made = let i = counted.top.made in let b = small in omega (arith, i, b);
        depth = let long = stack_long s.path s.below m.stacked in let i = counted.deep in let b = small in omega (arith, long, i, b);
      }

-- ---- along the whole run

module _ (text : List ℕ) (program : Program) (accepted : IsProgramOf text program) (arguments : List ℤ) (memory : Memory) (given : AreTaken program arguments) (valued : HasGlobals program memory)
    (globals : List ℕ) (covers : HasCellsOf program globals)
  where
    taken : IsTaken program
    taken = is_taken text program accepted

    promise : KeepsItsPromise program arguments memory
    promise = accepted_programs_keep_their_promise text program accepted arguments memory given valued

    module _ (n peak : ℕ) (s : Run) (walk : Walk program (starting program arguments memory) n peak s) where
      on : GoesOnTo program promise.serial n s
      on = walks_go_on program arguments memory promise.serial promise.gives.0 promise.is_serial promise.gives.1 n peak s walk

      good : Along program s.path s.frame s.memory
      good =
          walks_keep program (Along program) (Found program) (kept_along text program accepted) arguments memory
          (kept_at_root text program accepted arguments memory given valued) n peak s walk

      pub can_go_on : CanGoOn globals program (budget_of program) n s
      can_go_on =
          let c = on.counted in
          let w = promise.within_budget in
          let b = budget_bounded program taken.right.costs in
          record {
            can = can_go program taken.names.named taken.names.objects s (mirrored program taken.names.named taken.names.objects arguments memory n peak s walk) (uses_are_sized text program accepted) globals covers on.not_stuck
                taken.names.kinds (uses_are_kinded text program accepted) good.0.0.0.0.1 n (walks_count program arguments memory n peak s walk) (omega (arith, c, w, b));
            within = omega (arith, c, w);
          }

pub serial_runs_are_safe : SerialRunsAreSafe
serial_runs_are_safe text program accepted arguments memory given valued globals covers n peak s walk = can_go_on text program accepted arguments memory given valued globals covers n peak s walk
