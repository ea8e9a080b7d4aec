-- A strand's instructions are steps of the worker, and so is the border's after them.
use Rattle.std.proofs.Common.{Vec, Global, ◌≡◌, ◌≢◌, ◌∙◌, ℕ, zero, suc, List, [], ◌∷◌, length, Option, Some, true, refl, sym, ap, subst}
use Rattle.std.proofs.lemmas.Option.{same_Some}
use Rattle.semantics.specs.Events.{Machine, Event, Step, event}
use Rattle.program.specs.declared.function.Program.{Program}
use Rattle.laws_strands.specs.Law.{Happen, absorbed, steps_by}
use Rattle.laws_strands.specs.FrameStrands.{is_border, next_of}
use Rattle.laws_strands.proofs.Happening.{happen_more, steps_more}
use Rattle.cactus.specs.declared.node.Node.{Node}
use Rattle.cactus.specs.Frames.{node_at}
use Rattle.cactus.specs.Lending.{with_frame}
use Rattle.cactus.proofs.FramesLemmas.{node_at-with_frame}
use Rattle.frame_engine.specs.declared.activation.Places.{Places}
use Rattle.frame_strand.specs.Along.{IsGoing}
use Rattle.frame_strand.specs.declared.outside.FrameStrand.{FrameStrand}
use Rattle.frame_strand.specs.declared.standing.FrameStrandPause.TheVariants.{Border}
use Rattle.schedule_workers.specs.declared.activation.Activation.{Activation}
use Rattle.schedule_workers.specs.declared.run.Run.{Run}
use Rattle.schedule_workers.specs.Events.{LeavesStalls}
use Rattle.schedule_workers.specs.Follows.{KeepsUses}
use Rattle.schedule_workers.specs.Going.{DoesStep, RunsSafely, Stands}
use Rattle.schedule_workers.specs.RunShown.{IsShown, item_here}
use Rattle.schedule_workers.specs.Stalls.{Blocks, StallsAgree, if_enabled, last_blocks, noted}
use Rattle.schedule_workers.proofs.Standing.{safe_next}
use Rattle.schedule_workers.proofs.Uses.{same_uses, written_uses}
use Rattle.schedule_commit.specs.Absorbing.{DoesSteps, GoesAloneIn, KeepsHand, LeavesStallsBy, StandsAlone}
use Rattle.schedule_commit.specs.Fitting.{FitsRun}
use Rattle.schedule_commit.specs.Putting.{IsPut}
use Rattle.schedule_commit.proofs.Absorbed.{unmoved}
use Rattle.schedule_commit.proofs.Fitted.{along, border_ahead, fits_at, hand_kept, loaded_item, s, steps}
use Rattle.schedule_commit.proofs.Noting.{last_step}
use Rattle.schedule_commit.proofs.Put.{put_item, shown_put, stalls_put}

-- ---- the strand's instructions

module _ (prog : Program) (places : Places) (k new : Run) (worker slot : ℕ) (x : FrameStrand) (left : x.course.done ≡ 0 → new ≡ k) (put : x.course.done ≢ 0 → IsPut k new slot x) where
  -- nothing was done, or it was put
  by_count : (P : Run → Type 0) → (x.course.done ≡ 0 → P k) → (x.course.done ≢ 0 → (p : IsPut k new slot x) → P new) → P new
  by_count P none some = from x.course.done refl
    where
      from : (n : ℕ) → x.course.done ≡ n → P new
      from zero is = subst P (sym (left is)) (none is)
      from (suc n) is = let more : x.course.done ≢ 0 = λ e. (let h : suc n ≡ 0 = sym is ∙ e in cc) in some more (put more)

  pub hands_stay : new.hands ≡ k.hands
  hands_stay = by_count (λ n. n.hands ≡ k.hands) (λ none. refl) (λ more p. ap (λ (n : Run). n.hands) p.is)

  pub moves_stay : new.moves ≡ k.moves
  moves_stay = by_count (λ n. n.moves ≡ k.moves) (λ none. refl) (λ more p. ap (λ (n : Run). n.moves) p.is)

  pub uses_stay : KeepsUses k.cactus new.cactus
  uses_stay = by_count (λ n. KeepsUses k.cactus n.cactus) (λ none. same_uses k.cactus) (λ more p.
      subst (λ (n : Run). KeepsUses k.cactus n.cactus) (sym p.is) (written_uses k.cactus slot (record p.node.frame { frame = p.frame })))

  module _ (fits : FitsRun k worker x slot) (going : IsGoing prog places x.course x.pause) where
    pub does_steps : DoesSteps prog places k new worker x.course.done
    does_steps m shown safe alone =
        by_count (λ n. (after : Machine) × Happen prog (length k.hands.items) (steps_by worker x.course.done) m after × IsShown prog places after n)
        (λ none. (m, subst (λ j. Happen prog (length k.hands.items) (steps_by worker j) m m) (sym none) refl, shown))
        (λ more p.
        let f = fits_at k worker slot x fits p.node p.stood in (
          absorbed m (s prog places k worker slot x f going m shown safe alone),
          steps prog places k worker slot x f going m shown safe alone,
          subst (λ (n : Run). IsShown prog places (absorbed m (s prog places k worker slot x f going m shown safe alone)) n) (sym p.is)
              (shown_put prog places k worker slot x f going m shown safe alone more p.frame p.only p.registers new.cells p.cells),
        ))

    pub leaves_stalls : LeavesStallsBy prog places k new worker x.course.done
    leaves_stalls m shown safe alone last agree =
        by_count (λ n. StallsAgree (last_blocks prog (length k.hands.items) (steps_by worker x.course.done) m last) n.cactus)
        (λ none. subst (λ j. StallsAgree (last_blocks prog (length k.hands.items) (steps_by worker j) m last) k.cactus) (sym none) agree)
        (λ more p.
        let f = fits_at k worker slot x fits p.node p.stood in
        subst (λ (n : Run). StallsAgree (last_blocks prog (length k.hands.items) (steps_by worker x.course.done) m last) n.cactus) (sym p.is)
        (stalls_put prog places k worker slot x f going m shown safe alone more p.frame p.only p.registers last agree))

    -- at a border what stands ahead of the worker's frame is one
    pub border_stands : x.pause ≡ Some Border → (m : Machine) → IsShown prog places m k → RunsSafely prog (length k.hands.items) m → GoesAloneIn prog m →
        (n : Node Activation) → node_at new.cactus slot ≡ Some n → is_border (item_here prog n.frame.frame) ≡ true
    border_stands border m shown safe alone =
        by_count (λ r. (n : Node Activation) → node_at r.cactus slot ≡ Some n → is_border (item_here prog n.frame.frame) ≡ true)
        (λ none n stands.
        let f = fits_at k worker slot x fits n stands in
        let at = along prog places k worker slot x f going m shown safe alone in
        let still = unmoved prog at.strand at.is (at.shown.done ∙ none) in
        ap is_border (loaded_item prog places k worker slot x f going m shown safe alone ∙ ap (next_of prog) (sym still)) ∙ border_ahead prog places k worker slot x f going m shown safe alone border)
        (λ more p n stands.
        let f = fits_at k worker slot x fits p.node p.stood in
        let changed : Activation = record p.node.frame { frame = p.frame } in
        let there : node_at (with_frame k.cactus slot changed) slot ≡ Some n = subst (λ (r : Run). node_at r.cactus slot ≡ Some n) p.is stands in
        let same : record p.node { frame = changed } ≡ n = same_Some (record p.node { frame = changed }) n (sym (node_at-with_frame k.cactus slot changed p.node p.stood) ∙ there) in
        subst (λ (y : Node Activation). is_border (item_here prog y.frame.frame) ≡ true) same
        (ap is_border (put_item prog places k worker slot x f going m shown safe alone more p.frame p.only p.registers) ∙ border_ahead prog places k worker slot x f going m shown safe alone border))

pub keeps_hand : (prog : Program) (places : Places) (k : Run) (worker slot : ℕ) (x : FrameStrand) → FitsRun k worker x slot → IsGoing prog places x.course x.pause → KeepsHand prog places k worker x
keeps_hand prog places k worker slot x fits going m shown safe alone = hand_kept prog places k worker slot x fits going m shown safe alone

-- ---- the border's instruction

safe_along : (prog : Program) (workers : ℕ) (events : List Event) (m after : Machine) → Happen prog workers events m after → RunsSafely prog workers m → RunsSafely prog workers after
safe_along prog workers [] m after same safe = subst (λ (y : Machine). RunsSafely prog workers y) same safe
safe_along prog workers (e ∷ events) m after (next, is, rest) safe = safe_along prog workers events next after rest (safe_next prog workers m next e is safe)

module _ (prog : Program) (places : Places) (k mid : Run) (worker n : ℕ) (does : DoesSteps prog places k mid worker n) (hands : mid.hands ≡ k.hands) where
  as_many : length mid.hands.items ≡ length k.hands.items
  as_many = ap (λ (h : Vec (Option ℕ) Global). length h.items) hands

  -- the machine before the border's instruction
  between : (m : Machine) → IsShown prog places m k → RunsSafely prog (length k.hands.items) m → GoesAloneIn prog m →
      (b : Machine) × Happen prog (length k.hands.items) (steps_by worker n) m b × IsShown prog places b mid × RunsSafely prog (length mid.hands.items) b
  between m shown safe alone =
      let (b, steps, shown_mid) = does m shown safe alone in
      (b, steps, shown_mid, subst (λ j. RunsSafely prog j b) (sym as_many) (safe_along prog (length k.hands.items) (steps_by worker n) m b steps safe))

  pub stands_then : StandsAlone prog places k → Stands prog places mid
  stands_then st =
      let (b, steps, shown, safe) = between st.machine st.shown st.safe st.alone in
      record { machine = b; shown = shown; safe = safe }

  module _ (new : Run) (step : DoesStep prog places mid new worker) where
    pub does_more : DoesSteps prog places k new worker (suc n)
    does_more m shown safe alone =
        let (b, steps, shown_mid, safe_mid) = between m shown safe alone in
        let (next, is, shown_new) = step b shown_mid safe_mid in
        let enabled : event prog (length k.hands.items) (Step worker) b ≡ Some next = subst (λ j. event prog j (Step worker) b ≡ Some next) as_many is in
        (next, subst (λ es. Happen prog (length k.hands.items) es m next) (steps_more worker n) (happen_more prog (length k.hands.items) (steps_by worker n) (Step worker) m b next steps enabled), shown_new)

    pub stalls_more : LeavesStallsBy prog places k mid worker n → LeavesStalls prog places mid new (Step worker) true → LeavesStallsBy prog places k new worker (suc n)
    stalls_more before stalls m shown safe alone last agree =
        let (b, steps, shown_mid, safe_mid) = between m shown safe alone in
        let (next, is, shown_new) = step b shown_mid safe_mid in
        let enabled : event prog (length k.hands.items) (Step worker) b ≡ Some next = subst (λ j. event prog j (Step worker) b ≡ Some next) as_many is in
        let so_far = last_blocks prog (length k.hands.items) (steps_by worker n) m last in
        subst (λ (y : Blocks). StallsAgree y new.cactus)
        (sym (last_step prog (length k.hands.items) worker n m b last steps ∙ ap (λ o. if_enabled o (noted (Step worker) b so_far) so_far) enabled))
        (stalls b shown_mid safe_mid so_far (before m shown safe alone last agree))
