-- What rests on no memory, and is kept by each step, holds wherever a strand comes.
use Rattle.std.proofs.Common.{◌≡◌, ℕ, suc, ◌+◌, max, Option, Some, None, true, refl, ap, ◌∙◌, subst, arith}
use Rattle.semantics.specs.Paths.{Path}
use Rattle.semantics.specs.Cells.{Memory}
use Rattle.semantics.specs.Arithmetic.{Trap}
use Rattle.semantics.specs.Frames.{Wait, Free, OnRegion, OnCall, Halted}
use Rattle.semantics.specs.State.{State, apply, override_result, wait_after, may_go}
use Rattle.semantics.specs.Events.{Machine}
use Rattle.semantics.proofs.Steps.{change_is}
use Rattle.laws_strands.specs.stacks.Footprint.{memory_of}
use Rattle.laws_strands.specs.stacks.Strands.{Strand, loaded, advanced, past_sync, reattached, IsStrand, is_loaded, is_filled, is_advanced, is_past_sync, is_detached, is_called, is_reattached, is_returned}
use Rattle.laws_strands.specs.stacks.Law.{IsOrderly, Runs, Fits, absorbed, IsKept, KeptByStrands, StrandsKeep}
use Rattle.laws_strands.proofs.stacks.Rising.{rises}
use Rattle.laws_strands.proofs.stacks.Moving.{Moves, plain_moves, detach_moves, call_moves, sync_moves, reattach_moves, return_moves, children_gone}
use Rattle.laws_strands.proofs.stacks.Law.{starts, unsynced}
use Rattle.program.specs.declared.function.Program.{Program}

may_with : (s : State) (memory : Memory) (p : Path) (n : ℕ) (w : Wait) → may_go (record s { memory = memory }) p n w ≡ may_go s p n w
may_with s memory p n Free = refl
may_with s memory p n (OnRegion r) = refl
may_with s memory p n (OnCall k d) = refl
may_with s memory p n Halted = refl

free_after : (o : Option Trap) → o ≡ None → (s : State) (p : Path) (n : ℕ) → may_go s p n (wait_after o) ≡ true
free_after None e s p n = refl
free_after (Some t) e s p n = absurd (cc)

module _ (prog : Program) (m : Machine) (w : ℕ) (orderly : IsOrderly m) where
  abbrev state : Strand → Memory → State
  state d memory = record (absorbed m w d).core { memory = memory }

  abbrev MayGo : Strand → Type 0
  MayGo d = may_go m.core d.base.path d.base.frame.made d.base.frame.waits ≡ true

  abbrev Goes : Strand → Memory → Type 0
  Goes d memory = may_go (state d memory) d.top.path d.top.frame.made d.top.frame.waits ≡ true

  shorter : (d : Strand) (r : ℕ) (b : ℕ) (rs : _) → Runs m w (past_sync d r b rs) → Runs m w d
  shorter d r b rs runs = record { hand = runs.hand; frame = runs.frame; synced = (unsynced m d r d.below runs.synced).0 }

  -- the top frame can go on
  pub goes : (d : Strand) → IsStrand prog d → Runs m w d → MayGo d → (memory : Memory) → Goes d memory
  goes _ (is_loaded p f) runs may memory =
      let fits : Fits m w (loaded p f) = record { runs = runs; reads = λ x v e. absurd (cc) } in
      may_with (absorbed m w (loaded p f)).core memory p f.made f.waits ∙ subst (λ (x : Machine). may_go x.core p f.made f.waits ≡ true) (starts m w p f fits) may
  goes _ (is_filled d c v e is here fine reads unheld new) runs may memory = goes d is (record { hand = runs.hand; frame = runs.frame; synced = runs.synced }) may memory
  goes _ (is_advanced d e is here fine holds) runs may memory = free_after e.trap fine (state (advanced d e) memory) d.top.path d.top.frame.made
  goes _ (is_past_sync d r b rs is here) runs may memory =
      children_gone prog m w (past_sync d r b rs) runs orderly (rises prog (past_sync d r b rs) (is_past_sync d r b rs is here)) memory r d.below refl (unsynced m d r d.below runs.synced).1
  goes _ (is_detached d r b n is here) runs may memory = refl
  goes _ (is_called d o g vs is here) runs may memory = refl
  goes _ (is_reattached d r g rest is here below free) runs may memory =
      ap (λ x. may_go (state (reattached d g rest) memory) g.path g.frame.made x) free
  goes _ (is_returned d v g rest k o is here below waits) runs may memory = refl

  module _ (good : State → Type 0) (kept : IsKept prog good) where
    -- a step of the strand keeps it
    by_move : (d after : Strand) (runs : Runs m w d) (is : IsStrand prog d) → Moves prog m w d runs orderly (rises prog d is) (memory_of d.footprint) after → good (absorbed m w d).core → good (absorbed m w after).core
    by_move d after runs is t before =
        let s : State = state d (memory_of d.footprint) in
        let here : good s = kept.memory (absorbed m w d).core (memory_of d.footprint) before in
        let next : good (apply t.change s) = kept.steps s d.top.path t.change here (change_is prog s d.top.path t.change t.does) t.sound in
        subst good (becomes t) (kept.memory (apply t.change s) (absorbed m w after).core.memory next)
      where
        becomes : (t : Moves prog m w d runs orderly (rises prog d is) (memory_of d.footprint) after) →
            record (apply t.change (state d (memory_of d.footprint))) { memory = (absorbed m w after).core.memory } ≡ (absorbed m w after).core
        becomes t =
            let same_count : suc (d.done + m.core.done) ≡ after.done + m.core.done = let n = t.count in omega arith in
            let same_peak : max (max m.core.peak d.deepest) t.change.depth ≡ max m.core.peak after.deepest = let n = t.high in omega arith in
            let same_result : override_result t.change.result m.core.result ≡ m.core.result = ap (λ o. override_result o m.core.result) t.silent in
            λ i. record { frames = λ x. t.stands x i; memory = (absorbed m w after).core.memory; done = same_count i; peak = same_peak i; result = same_result i }

    keeps : (d : Strand) → IsStrand prog d → Runs m w d → MayGo d → good m.core → good (absorbed m w d).core
    keeps _ (is_loaded p f) runs may begins =
        let fits : Fits m w (loaded p f) = record { runs = runs; reads = λ x v e. absurd (cc) } in
        subst (λ (x : Machine). good x.core) (starts m w p f fits) begins
    keeps _ (is_filled d c v e is here fine reads unheld new) runs may begins =
        let before = keeps d is (record { hand = runs.hand; frame = runs.frame; synced = runs.synced }) may begins in
        kept.memory (absorbed m w d).core _ before
    keeps _ (is_advanced d e is here fine holds) runs may begins =
        let runs2 : Runs m w d = record { hand = runs.hand; frame = runs.frame; synced = runs.synced } in
        by_move d _ runs2 is (plain_moves prog m w d runs2 orderly (rises prog d is) (memory_of d.footprint) e here fine (goes d is runs2 may (memory_of d.footprint))) (keeps d is runs2 may begins)
    keeps _ (is_past_sync d r b rs is here) runs may begins =
        let runs2 : Runs m w d = shorter d r b rs runs in
        by_move d _ runs2 is (sync_moves prog m w d runs2 orderly (rises prog d is) (memory_of d.footprint) r b rs here (goes d is runs2 may (memory_of d.footprint))) (keeps d is runs2 may begins)
    keeps _ (is_detached d r b n is here) runs may begins =
        let runs2 : Runs m w d = record { hand = runs.hand; frame = runs.frame; synced = runs.synced } in
        by_move d _ runs2 is (detach_moves prog m w d runs2 orderly (rises prog d is) (memory_of d.footprint) r b n here (goes d is runs2 may (memory_of d.footprint))) (keeps d is runs2 may begins)
    keeps _ (is_called d o g vs is here) runs may begins =
        let runs2 : Runs m w d = record { hand = runs.hand; frame = runs.frame; synced = runs.synced } in
        by_move d _ runs2 is (call_moves prog m w d runs2 orderly (rises prog d is) (memory_of d.footprint) o g vs here (goes d is runs2 may (memory_of d.footprint))) (keeps d is runs2 may begins)
    keeps _ (is_reattached d r g rest is here below free) runs may begins =
        let runs2 : Runs m w d = record { hand = runs.hand; frame = runs.frame; synced = runs.synced } in
        by_move d _ runs2 is (reattach_moves prog m w d runs2 orderly (rises prog d is) (memory_of d.footprint) g rest below r here (goes d is runs2 may (memory_of d.footprint))) (keeps d is runs2 may begins)
    keeps _ (is_returned d v g rest k o is here below waits) runs may begins =
        let runs2 : Runs m w d = record { hand = runs.hand; frame = runs.frame; synced = runs.synced } in
        by_move d _ runs2 is (return_moves prog m w d runs2 orderly (rises prog d is) (memory_of d.footprint) g rest below v k o here waits (goes d is runs2 may (memory_of d.footprint))) (keeps d is runs2 may begins)

pub kept_by_strands : (prog : Program) (good : State → Type 0) → KeptByStrands prog good
kept_by_strands prog good kept m w d is runs orderly may begins = keeps prog m w orderly good kept d is runs may begins

pub strands_keep : StrandsKeep
strands_keep prog test = kept_by_strands prog (λ s. test s ≡ true)
