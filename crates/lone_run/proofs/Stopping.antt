-- A strand is not full before its first instruction.
use Rattle.std.proofs.Common.{◌≡◌, ℕ, zero, suc, ◌+◌, ◌<◌, Bool, false, refl, sym, subst, arith, ℤ, Option, Some, None}
use Rattle.std.specs.Prelude.{IsTrue}
use Rattle.semantics.specs.Paths.{Path}
use Rattle.semantics.specs.Cells.{Memory}
use Rattle.semantics.specs.Frames.{Frame, Item, Does, Ends}
use Rattle.program.specs.declared.function.Program.{Program}
use Rattle.program.specs.declared.instruction.Instruction.TheVariants as instruction
use Rattle.frame_engine.specs.Access.{Access, Loads, Stores, Adds}
use Rattle.frame_engine.specs.Accesses.{RefusedItem, RefusedOn, Touched, TouchedOn, touched, untouched}
use Rattle.frame_engine.specs.Activation.{SafeStanding, ShowsFrame}
use Rattle.frame_engine.specs.Pause.{IfBorder, IfLimit, IfStopped}
use Rattle.frame_engine.specs.Shows.{Layout, ShowsCells, StaysSafe, address}
use Rattle.frame_engine.specs.declared.activation.Frame as machine
use Rattle.frame_engine.specs.declared.activation.Places.{Places}
use Rattle.frame_engine.specs.declared.turning.Pause.{Pause}
use Rattle.frame_engine.specs.declared.turning.Pause.TheVariants.{Border, Limit, Stopped}
use Rattle.lone_run.specs.Counted.{IsBlank, IsFull}
use Rattle.lone_run.specs.declared.counted.CountedCells.{CountedCells}
use Rattle.lone_run.specs.declared.counts.Counts.{Counts}
use Rattle.lone_run.specs.declared.counted.Full.{Full}

-- ---- no access needs a place that is not there

none_full : (c : Counts) (a : Access) → IsBlank c → IsFull c a → ⊥
none_full c (Loads at) blank full = let none = blank.0 in omega (arith, none, full)
none_full c (Stores at z) blank full = let none = blank.1 in omega (arith, none, full)
none_full c (Adds at z) blank full = let none = blank.1 in omega (arith, none, full)

module _ (l : Layout) (f : Frame) (c : CountedCells) (s : Full) (blank : IsBlank c.counts) where
  room : (a : Access) → IsFull c.counts a → ⊥
  room a full = none_full c.counts a blank full

  not_refused : (o : Option Item) → RefusedItem {C = CountedCells} {S = Full} (λ d a t. IsFull d.counts a) l f c s o → ⊥
  not_refused None h = absurd h
  not_refused (Some (Ends t)) h = absurd h
  not_refused (Some (Does (instruction.Load r a))) (x, here, is, full) = room (Loads (address l x)) full
  not_refused (Some (Does (instruction.Store v a))) (x, z, here, is, word, full) = room (Stores (address l x) z) full
  not_refused (Some (Does (instruction.AtomicAdd a v))) (x, z, here, is, word, full) = room (Adds (address l x) z) full
  not_refused (Some (Does (instruction.StoreZeros cells name))) h = absurd h
  not_refused (Some (Does (instruction.Call r callee arguments))) h = absurd h
  not_refused (Some (Does (instruction.Binary r op w a b))) h = absurd h
  not_refused (Some (Does (instruction.Compare r by w a b))) h = absurd h
  not_refused (Some (Does (instruction.Convert r by a))) h = absurd h
  not_refused (Some (Does (instruction.Alloca r a))) h = absurd h
  not_refused (Some (Does (instruction.ElementPointer r name i))) h = absurd h
  not_refused (Some (Does (instruction.StartRegion r))) h = absurd h

-- ---- with no step done the cells are as they were

as_before : {C : Type 0} (does : C → Access → C → Type 0) (prog : Program) (l : Layout) (p : Path) (f : Frame) (m : Memory) (first : C) (n : ℕ) (c : C) → Touched does prog l p f m first n c → n ≡ 0 → c ≡ first
as_before does prog l p f m first n c untouched none = refl
as_before does prog l p f m first n c (touched d g k before steps item) none = absurd cc

-- ---- so an instruction was done where the strand stops

module _ (prog : Program) (places : Places) (f : machine.Frame) (reaches : ℤ → Bool) (holds : ℤ → ℤ → Type 0) (does : CountedCells → Access → CountedCells → Type 0) (first c : CountedCells) (n m : ℕ) (s : Full) where
  pub stops_later : SafeStanding prog places f reaches holds → IsBlank first.counts →
      ((l : Layout) (p : Path) (g : Frame) (k : Memory) → ShowsFrame l places p g f → ShowsCells l reaches holds k → StaysSafe prog l p g k → TouchedOn does prog l p g k n m first c) →
      ((l : Layout) (p : Path) (g : Frame) (k : Memory) → ShowsFrame l places p g f → ShowsCells l reaches holds k → StaysSafe prog l p g k → RefusedOn (λ d a t. IsFull d.counts a) prog l p g k n m c s) → n < m
  stops_later w blank touches refuses =
      let t = touches w.layout w.path w.frame w.memory w.shown w.cells w.stays in
      from t.count t.counted t.touched_is
    where
      r : RefusedOn (λ d a t. IsFull d.counts a) prog w.layout w.path w.frame w.memory n m c s
      r = refuses w.layout w.path w.frame w.memory w.shown w.cells w.stays

      from : (count : ℕ) → m ≡ n + count → Touched does prog w.layout w.path w.frame w.memory first count c → n < m
      from zero counted t =
          let same : c ≡ first = as_before does prog w.layout w.path w.frame w.memory first zero c t refl in
          absurd (not_refused w.layout r.refused.frame c s (subst (λ (d : CountedCells). IsBlank d.counts) (sym same) blank) _ r.refused.item)
      from (suc count) counted t = omega (arith, counted)

pub if_stopped : {P Q : Full → Type 0} (pause : Pause Full) → ((s : Full) → P s → Q s) → IfStopped pause P → IfStopped pause Q
if_stopped Border f h = tt
if_stopped Limit f h = tt
if_stopped (Stopped s) f h = f s h

-- ---- a strand that is at no border got on

pub got_on : (pause : Pause Full) (at_border : Bool) (blank : Type 0) (n m limit : ℕ) → IfBorder pause (IsTrue at_border) → at_border ≡ false → IfLimit pause (m ≡ limit) → n < limit → blank → IfStopped pause (λ s. blank → n < m) → n < m
got_on Border at_border blank n m limit paused not reached more begins stops = absurd cc
got_on Limit at_border blank n m limit paused not reached more begins stops = omega (arith, reached, more)
got_on (Stopped s) at_border blank n m limit paused not reached more begins stops = stops begins
