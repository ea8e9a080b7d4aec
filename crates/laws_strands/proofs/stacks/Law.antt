-- A strand that fits a machine is steps of the worker.
use Rattle.std.proofs.Common.{is_some, ◌≡◌, ℕ, suc, ◌+◌, max, List, [], ◌∷◌, Some, None, Bool, true, false, cond, refl, sym, ap, ◌∙◌, subst, arith, eqb, eqb-true, ℤ}
use Rattle.std.proofs.lemmas.List.Elements.{All-head, All-tail}
use Rattle.std.specs.List.{All}
use Rattle.semantics.specs.Paths.{Path, same_path}
use Rattle.semantics.specs.Cells.{Cell}
use Rattle.semantics.specs.Frames.{Frame}
use Rattle.semantics.specs.State.{none_within, clears, continued, detached, waiting, called}
use Rattle.semantics.specs.Effect.{Effect, Plain}
use Rattle.semantics.specs.State.{change_of}
use Rattle.semantics.specs.Events.{by_change, Machine, Step, event, with_hand}
use Rattle.semantics.specs.Sound.{NeverTraps}
use Rattle.semantics.proofs.Places.{same_path_is}
use Rattle.laws_strands.specs.Law.{steps_by, Happen}
use Rattle.laws_strands.proofs.Happening.{steps_more, happen_more, never_later, sound_next}
use Rattle.laws_strands.specs.stacks.Footprint.{held}
use Rattle.laws_strands.specs.stacks.Strands.{next_action, Placed, Strand, at, if_base, loaded, filled, past_sync, entered, reattached, IsStrand, is_loaded, is_filled, is_advanced, is_past_sync, is_detached, is_called, is_reattached, is_returned}
use Rattle.laws_strands.specs.stacks.Law.{Runs, ReadsAgree, ReadsAreThere, StrandsGoOverBorders, IsOrderly, Fits, with_frames, absorbed, IsSteps, StrandsAreSteps}
use Rattle.laws_strands.proofs.stacks.Keeping.{value_beneath, read_back, put_read, kept_read, here_read, delta_read, delta_after}
use Rattle.laws_strands.proofs.stacks.Rising.{rises}
use Rattle.laws_strands.proofs.stacks.Stepping.{some_is, step_is, read_now, goes_now, values_now, plain_step, detach_step, call_step, sync_step, reattach_step, return_step}
use Rattle.program.specs.declared.function.Program.{Program}

-- a loaded frame that fits changes nothing
pub starts : (m : Machine) (w : ℕ) (p : Path) (f : Frame) → Fits m w (loaded p f) → m ≡ absorbed m w (loaded p f)
starts m w p f fits =
    let zeroth : m.core.done ≡ 0 + m.core.done = omega arith in
    let flat : m.core.peak ≡ max m.core.peak 0 = omega arith in
    λ i. record {
      core = record { frames = λ x. same x i; memory = m.core.memory; done = zeroth i; peak = flat i; result = m.core.result };
      hands = λ v. handed v i;
      trapped = m.trapped;
    }
  where
    same : (x : Path) → m.core.frames x ≡ with_frames (at p f ∷ []) m.core.frames x
    same x = from (same_path p x) refl
      where
        from : (b : Bool) → same_path p x ≡ b → m.core.frames x ≡ cond b (Some f) (m.core.frames x)
        from true is = ap m.core.frames (sym (same_path_is p x is)) ∙ fits.runs.frame
        from false is = refl

    handed : (v : ℕ) → m.hands v ≡ with_hand m.hands w (Some p) v
    handed v = from (eqb w v) refl
      where
        from : (b : Bool) → eqb w v ≡ b → m.hands v ≡ cond b (Some p) (m.hands v)
        from true is = ap m.hands (sym (eqb-true w v is)) ∙ fits.runs.hand
        from false is = refl

-- ---- what a longer strand asks of the machine, the shorter one asks too

unfilled : (m : Machine) (w : ℕ) (d : Strand) (c : Cell) (v : ℤ) → d.footprint.reads c ≡ None → Fits m w (filled d c v) → Fits m w d × (m.core.memory c ≡ Some v)
unfilled m w d c v new fits =
    (record { runs = record { hand = fits.runs.hand; frame = fits.runs.frame; synced = fits.runs.synced }; reads = λ x y e. fits.reads x y (kept_read d.footprint c v new x y e) }, fits.reads c v (here_read d.footprint c v))

absorbs_fill : (m : Machine) (w : ℕ) (d : Strand) (c : Cell) (v : ℤ) → m.core.memory c ≡ Some v → absorbed m w (filled d c v) ≡ absorbed m w d
absorbs_fill m w d c v has =
    λ i. record { core = record (absorbed m w d).core { memory = λ x. put_read m.core.memory d.footprint c v x has i }; hands = (absorbed m w d).hands; trapped = m.trapped }

abbrev pub Clear : Machine → Strand → ℕ → Type 0
Clear m d r = none_within m.core d.base.path d.base.frame.made r ≡ true

pub unsynced : (m : Machine) (d : Strand) (r : ℕ) (below : List Placed) → All (λ q. Clear m d q) (if_base below r d.synced) → All (λ q. Clear m d q) d.synced × (below ≡ [] → Clear m d r)
unsynced m d r [] all = (All-tail (λ q. Clear m d q) r d.synced all, λ e. All-head (λ q. Clear m d q) r d.synced all)
unsynced m d r (g ∷ rest) all = (all, λ e. absurd (cc))

-- ---- the law

module _ (prog : Program) (workers : ℕ) (m : Machine) (w : ℕ) (orderly : IsOrderly m) (never : NeverTraps prog workers m) where
  happens_too : (d : Strand) (next : Machine) → Happen prog workers (steps_by w d.done) m (absorbed m w d) → event prog workers (Step w) (absorbed m w d) ≡ Some next → Happen prog workers (steps_by w (suc d.done)) m next
  happens_too d next steps is =
      subst (λ es. Happen prog workers es m next) (steps_more w d.done) (happen_more prog workers (steps_by w d.done) (Step w) m (absorbed m w d) next steps is)

  later : (d : Strand) → IsSteps prog workers m w d → NeverTraps prog workers (absorbed m w d)
  later d law = never_later prog workers (steps_by w d.done) m (absorbed m w d) law.steps never

  -- a step that writes to no cell
  quietly : (d after : Strand) → IsSteps prog workers m w d → after.done ≡ suc d.done → after.footprint ≡ d.footprint → event prog workers (Step w) (absorbed m w d) ≡ Some (absorbed m w after) → IsSteps prog workers m w after
  quietly d after law count same is =
      record {
        steps = subst (λ n. Happen prog workers (steps_by w n) m (absorbed m w after)) (sym count) (happens_too d (absorbed m w after) law.steps is);
        deltas = λ x z h. law.deltas x z (ap (λ f. f.writes x) (sym same) ∙ h);
      }

  pub law : (d : Strand) → IsStrand prog d → Fits m w d → IsSteps prog workers m w d
  law _ (is_loaded p f) fits = record { steps = starts m w p f fits; deltas = λ x z e. absurd (cc) }
  law _ (is_filled d c v e is here fine reads unheld new) fits =
      let (fits2, has) = unfilled m w d c v new fits in
      let before = law d is fits2 in
      record {
        steps = subst (λ x. Happen prog workers (steps_by w d.done) m x) (sym (absorbs_fill m w d c v has)) before.steps;
        deltas = λ x z e. before.deltas x z (delta_read d.footprint c v x z e);
      }
  law _ (is_advanced d e is here fine holds) fits =
      let fits2 : Fits m w d = record { runs = record { hand = fits.runs.hand; frame = fits.runs.frame; synced = fits.runs.synced }; reads = fits.reads } in
      let before = law d is fits2 in
      let goes = goes_now prog workers m w d fits2 orderly (rises prog d is) (never []) (later d before) in
      let values = values_now prog workers m w d fits2 orderly (rises prog d is) (never []) (later d before) e here fine in
      record {
        steps = happens_too d _ before.steps (plain_step prog workers m w d fits2 orderly (rises prog d is) (never []) e here fine holds goes values);
        deltas = λ x z h. delta_after (e.writes x) (e.adds x) (d.footprint.writes x) (d.footprint.reads x) (m.core.memory x) (values x) (before.deltas x) z h;
      }
  law _ (is_past_sync d r b rs is here) fits =
      let (synced2, clear) = unsynced m d r d.below fits.runs.synced in
      let fits2 : Fits m w d = record { runs = record { hand = fits.runs.hand; frame = fits.runs.frame; synced = synced2 }; reads = fits.reads } in
      let before = law d is fits2 in
      let goes = goes_now prog workers m w d fits2 orderly (rises prog d is) (never []) (later d before) in
      quietly d (past_sync d r b rs) before refl refl (sync_step prog workers m w d fits2 orderly (rises prog d is) (never []) r b rs here goes clear)
  law _ (is_detached d r b n is here) fits =
      let fits2 : Fits m w d = record { runs = record { hand = fits.runs.hand; frame = fits.runs.frame; synced = fits.runs.synced }; reads = fits.reads } in
      let before = law d is fits2 in
      let goes = goes_now prog workers m w d fits2 orderly (rises prog d is) (never []) (later d before) in
      quietly d (entered d (continued d.top.frame n) (detached d.top.frame r b n)) before refl refl (detach_step prog workers m w d fits2 orderly (rises prog d is) (never []) r b n here goes)
  law _ (is_called d o g vs is here) fits =
      let fits2 : Fits m w d = record { runs = record { hand = fits.runs.hand; frame = fits.runs.frame; synced = fits.runs.synced }; reads = fits.reads } in
      let before = law d is fits2 in
      let goes = goes_now prog workers m w d fits2 orderly (rises prog d is) (never []) (later d before) in
      quietly d (entered d (waiting d.top.frame o) (called d.top.path d.top.frame g vs)) before refl refl (call_step prog workers m w d fits2 orderly (rises prog d is) (never []) o g vs here goes)
  law _ (is_reattached d r g rest is here below free) fits =
      let fits2 : Fits m w d = record { runs = record { hand = fits.runs.hand; frame = fits.runs.frame; synced = fits.runs.synced }; reads = fits.reads } in
      let before = law d is fits2 in
      let goes = goes_now prog workers m w d fits2 orderly (rises prog d is) (never []) (later d before) in
      quietly d (reattached d g rest) before refl refl (reattach_step prog workers m w d fits2 orderly (rises prog d is) (never []) g rest below r here free goes)
  law _ (is_returned d v g rest k o is here below waits) fits =
      let fits2 : Fits m w d = record { runs = record { hand = fits.runs.hand; frame = fits.runs.frame; synced = fits.runs.synced }; reads = fits.reads } in
      let before = law d is fits2 in
      let goes = goes_now prog workers m w d fits2 orderly (rises prog d is) (never []) (later d before) in
      record {
        steps = happens_too d _ before.steps (return_step prog workers m w d fits2 orderly (rises prog d is) (never []) g rest below v k o here waits goes);
        deltas = λ x z h. delta_after (clears d.top.path x) None (d.footprint.writes x) (d.footprint.reads x) (m.core.memory x) (λ e. absurd (cc)) (before.deltas x) z h;
      }

pub strands_are_steps : StrandsAreSteps
strands_are_steps prog workers m w d is fits orderly never = law prog workers m w orderly never d is fits

-- ---- with one step more

pub strands_go_over_borders : StrandsGoOverBorders
strands_go_over_borders prog workers m w d is fits orderly never =
    let steps = law prog workers m w orderly never d is fits in
    let border = step_is prog workers m w d fits orderly (rises prog d is) (never []) (change_of prog (absorbed m w d).core d.top.path) refl in
    record {
      after = by_change prog workers (absorbed m w d) w d.top.path d.top.frame (change_of prog (absorbed m w d).core d.top.path);
      border = border;
      steps = happens_too prog workers m w orderly never d _ steps.steps border;
      sound = sound_next prog workers (Step w) (absorbed m w d) _ border (later prog workers m w orderly never d steps);
    }

-- ---- reads that the machine need not hold yet

module _ (prog : Program) (workers : ℕ) (m : Machine) (w : ℕ) (orderly : IsOrderly m) (never : NeverTraps prog workers m) where
  -- what the machine's memory holds of a cell that the strand is to load
  filled_there : (d : Strand) (c : Cell) (e : Effect) → IsStrand prog d → next_action prog d ≡ Plain e → e.trap ≡ None → e.reads c ≡ true → held d.footprint c ≡ None → Fits m w d → is_some (m.core.memory c) ≡ true
  filled_there d c e is here fine reads unheld fits =
      let before = law prog workers m w orderly never d is fits in
      value_beneath (d.footprint.writes c) (d.footprint.reads c) (m.core.memory c) unheld
      (read_now prog workers m w d fits orderly (rises prog d is) (never []) (later prog workers m w orderly never d before) e here fine c reads)

  reads_there : (d : Strand) → IsStrand prog d → Runs m w d → ReadsAgree m d → Fits m w d
  reads_there _ (is_loaded p f) runs agree = record { runs = runs; reads = λ x v e. absurd (cc) }
  reads_there _ (is_filled d c v e is here fine reads unheld new) runs agree =
      let fits = reads_there d is (record { hand = runs.hand; frame = runs.frame; synced = runs.synced }) (λ x y z h k. agree x y z (kept_read d.footprint c v new x y h) k) in
      let (z, has) = some_is (m.core.memory c) (filled_there d c e is here fine reads unheld fits) in
      let holds : m.core.memory c ≡ Some v = has ∙ ap (λ y. Some y) (agree c v z (here_read d.footprint c v) has) in
      record { runs = runs; reads = λ x y h. read_back d.footprint c v (λ x2 y2 k. fits.reads x2 y2 k) holds x y h }
  reads_there _ (is_advanced d e is here fine holds) runs agree =
      let fits = reads_there d is (record { hand = runs.hand; frame = runs.frame; synced = runs.synced }) agree in record { runs = runs; reads = fits.reads }
  reads_there _ (is_past_sync d r b rs is here) runs agree =
      let fits = reads_there d is (record { hand = runs.hand; frame = runs.frame; synced = (unsynced m d r d.below runs.synced).0 }) agree in record { runs = runs; reads = fits.reads }
  reads_there _ (is_detached d r b n is here) runs agree =
      let fits = reads_there d is (record { hand = runs.hand; frame = runs.frame; synced = runs.synced }) agree in record { runs = runs; reads = fits.reads }
  reads_there _ (is_called d o g vs is here) runs agree =
      let fits = reads_there d is (record { hand = runs.hand; frame = runs.frame; synced = runs.synced }) agree in record { runs = runs; reads = fits.reads }
  reads_there _ (is_reattached d r g rest is here below free) runs agree =
      let fits = reads_there d is (record { hand = runs.hand; frame = runs.frame; synced = runs.synced }) agree in record { runs = runs; reads = fits.reads }
  reads_there _ (is_returned d v g rest k o is here below waits) runs agree =
      let fits = reads_there d is (record { hand = runs.hand; frame = runs.frame; synced = runs.synced }) agree in record { runs = runs; reads = fits.reads }

pub reads_are_there : ReadsAreThere
reads_are_there prog workers m w d is runs orderly never agree = reads_there prog workers m w orderly never d is runs agree
