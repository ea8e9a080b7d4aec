-- A frame that a worker loads may be the base of a strand.
use Rattle.std.proofs.Common.{◌≡◌, ◌∙◌, ℕ, ◌+◌, ◌<◌, ◌≤◌, List, [], ◌∷◌, length, Option, Some, None, Bool, true, false, refl, sym, ap, subst, arith, slice_get, ℤ}
use Rattle.std.specs.List.{All}
use Rattle.std.proofs.lemmas.List.Elements.{All-cons, All-nil}
use Rattle.semantics.specs.Paths.{Path}
use Rattle.semantics.specs.Cells.{Cell, Object, Shared, Local}
use Rattle.semantics.specs.Frames.{Body, Child, Frame, Pointer, Role, Value, cells_of}
use Rattle.semantics.specs.Effect.{Call}
use Rattle.semantics.specs.State.{none_within}
use Rattle.semantics.specs.Events.{Machine}
use Rattle.linear.specs.declared.form.RegisterId.{RegisterId}
use Rattle.program.specs.declared.function.Program.{Program}
use Rattle.program.specs.declared.identifier.ObjectName.TheVariants as object
use Rattle.frame_engine.specs.Shows.{Layout}
use Rattle.frame_engine.specs.declared.activation.Places.{Places}
use Rattle.schedule_commit.specs.strand.serial_stack.Layouts.{for_body}
use Rattle.schedule_commit.specs.strand.serial_stack.StackShown.{IsOld}
use Rattle.schedule_workers.specs.Going.{IsAbove}
use Rattle.schedule_workers.specs.Layouts.{alloca_cells, living, own_cells}
use Rattle.schedule_workers.proofs.Calling.{values_up}
use Rattle.serial_machine.proofs.laws_conditions.rules.Moves.{calls_here}
use Rattle.serial_machine.proofs.laws_schedule.Promise.{accepted_programs_keep_their_promise}
use Rattle.serial_machine.proofs.laws_schedule.safe.Safe.{schedules_are_safe}
use Rattle.schedule_commit.specs.frame_strand.Alone.{StaysSafeAlone}
use Rattle.schedule_commit.specs.strand.Along.{IsLent, LoadsGoAsStrands}
use Rattle.schedule_commit.specs.strand.Layouts.{Segment, layout_above}
use Rattle.schedule_commit.specs.strand.Steps.{CanGo}
use Rattle.schedule_commit.proofs.strand.Coming.{under_long}
use Rattle.schedule_commit.proofs.strand.Living as text
use Rattle.schedule_commit.proofs.strand.Living.{fresh, local_above, shared_above}
use Rattle.laws_strands.specs.stacks.Strands.{Strand, IsStrand, Placed, at, next_action}
use Rattle.laws_strands.specs.stacks.Footprint.{memory_of}
use Rattle.laws_strands.specs.stacks.Law.{IsOrderly, Runs, absorbed}
use Rattle.laws_strands.proofs.stacks.Reached.{reached_are_orderly}
use Rattle.schedule_core.specs.laws_workers.strands.StrandsPromise.{IsSafeStrand, LoadedFramesGoAsStrands, StaysSafeAsStrands, laid_out}
use Rattle.schedule_core.proofs.laws_workers.strands.Law.{frames_go_as_strands}

above_old : (p : Path) (o : Object) → IsAbove p o → IsOld (length p) o
above_old p (Shared g) above = tt
above_old p (Local owner a) above = under_long owner p above

all_of : (P : ℕ → Type 0) → ((n : ℕ) → P n) → (l : List ℕ) → All P l
all_of P each [] = All-nil P
all_of P each (n ∷ l) = All-cons P n l (each n) (all_of P each l)

own_is : (r : Role) (n : ℕ) → own_cells r n ≡ for_body r n 0
own_is Body n = refl
own_is (Child region continuation) n = refl

alloca_is : (prog : Program) (o : Option Frame) (a : ℕ) → alloca_cells prog o a ≡ text.alloca_cells prog o a
alloca_is prog None a = refl
alloca_is prog (Some f) a = own_is f.role (cells_of prog f.function (object.Alloca (record { 0 = a })))

module _ (prog : Program) (m : Machine) (orderly : IsOrderly m) (strands : StaysSafeAsStrands prog m) (small : m.core.done + 65538 < 18446744073709551616) where
  module _ (begins : Object → ℤ) (s : Segment) (lent : IsLent (laid_out begins prog m.core) s) (w : ℕ) (p : Path) (g : Frame) (hand : m.hands w ≡ Some p) (there : m.core.frames p ≡ Some g)
      (d : Strand) (is : IsStrand prog d) (base : d.base ≡ at p g) (clear : All (λ r. none_within m.core p g.made r ≡ true) d.synced) (few : d.done ≤ 65536)
    where
      runs : Runs m w d
      runs = record {
        hand = hand ∙ ap (λ (b : Placed). Some b.path) (sym base);
        frame = ap (λ (b : Placed). m.core.frames b.path) base ∙ (there ∙ ap (λ (b : Placed). Some b.frame) (sym base));
        synced = subst (λ (b : Placed). All (λ r. none_within m.core b.path b.frame.made r ≡ true) d.synced) (sym base) clear;
      }

      safe : IsSafeStrand prog m w d
      safe = strands w d is runs

      abbrev l : Layout
      l = laid_out begins prog m.core

      abbrev above : Layout
      above = layout_above l prog s.start d.top d.below

      local : (owner : Path) (a : ℕ) → l.cells (Local owner a) ≡ text.alloca_cells prog (m.core.frames owner) a
      local owner a = alloca_is prog (m.core.frames owner) a

      cells_above : (o : Object) → living prog (absorbed m w d).core o ≡ above.cells o
      cells_above (Shared n) = sym (shared_above prog l m local w d is runs orderly s.start n)
      cells_above (Local owner a) = alloca_is prog ((absorbed m w d).core.frames owner) a ∙ sym (local_above prog l m local w d is runs orderly s.start owner a)

      same : laid_out above.at prog (absorbed m w d).core ≡ above
      same = λ i. record { at = above.at; cells = λ o. cells_above o i }

      passed : (register : Option RegisterId) (callee : ℕ) (values : List Value) → next_action prog d ≡ Call register callee values → (n : ℕ) (c : Cell) → slice_get values n ≡ Some (Pointer c) →
          IsOld (length d.top.path) c.object
      passed register callee values act n c here =
          let call = calls_here prog d.top.path d.top.frame (memory_of d.footprint) register callee values act in
          above_old d.top.path c.object (values_up d.top.path d.top.frame safe.points call.arguments values call.values_are n c here)

      pub can_go : CanGo prog (laid_out begins prog m.core) s d
      can_go =
          let index = safe.counted.index in
          let made = safe.counted.made in
          let depth = safe.counted.depth in
          record {
            apart = lent.apart;
            outside = lent.outside;
            small = lent.small;
            fresh = λ x come. fresh prog l m local w d is runs orderly s.start x come;
            stays = subst (λ (l : Layout). StaysSafeAlone prog l d.top.path d.top.frame) same (safe.alone above.at);
            whole = safe.whole;
            old = λ register callee values act n c here. passed register callee values act n c here;
            index = omega (arith, index, few, small);
            made = omega (arith, made, few, small);
            depth = omega (arith, depth, few, small);
          }

  -- the regions that a base synced are clear, if it was childless, and else there are none
  clear_if : (p : Path) (g : Frame) (childless : Bool) → (childless ≡ true → (region : ℕ) → none_within m.core p g.made region ≡ true) → (synced : List ℕ) → (childless ≡ false → synced ≡ []) →
      All (λ r. none_within m.core p g.made r ≡ true) synced
  clear_if p g true none synced nothing = all_of (λ r. none_within m.core p g.made r ≡ true) (none refl) synced
  clear_if p g false none synced nothing = subst (λ regions. All (λ r. none_within m.core p g.made r ≡ true) regions) (sym (nothing refl)) (All-nil _)

  pub loads_go_as_strands : (places : Places) → LoadsGoAsStrands prog places (living prog m.core) m
  loads_go_as_strands places begins s lent w p g f hand there shown waits childless none = record {
    shown = shown;
    waits = waits;
    apart = lent.apart;
    goes = λ d is base synced room few. can_go begins s lent w p g hand there d is base (clear_if p g childless none d.synced synced) few;
  }

pub loaded_frames_go_as_strands : LoadedFramesGoAsStrands
loaded_frames_go_as_strands text program accepted places are arguments memory given globals workers some events =
    let promise = accepted_programs_keep_their_promise text program accepted arguments memory given globals in
    let orderly = reached_are_orderly program arguments memory workers some events ((promise.every_schedule workers some events).no_trap.0) in
    let run = schedules_are_safe text program accepted arguments memory given globals workers some events in
    let budget = run.within_budget in
    let small = run.small in
    loads_go_as_strands program _ orderly (frames_go_as_strands text program accepted arguments memory given globals workers some events) (omega (arith, budget, small)) places
