-- A strand's steps tell the blocks of its own frame alone.
use Rattle.std.proofs.Common.{◌≡◌, ◌≢◌, ◌∙◌, ℕ, suc, List, [], ◌∷◌, ◌++◌, Option, Some, None, cond, refl, sym, ap}
use Rattle.std.proofs.lemmas.List.Elements.{All-pop}
use Rattle.semantics.specs.Paths.{Path}
use Rattle.semantics.specs.Events as running
use Rattle.semantics.specs.Events.{Machine, Event, Step, event}
use Rattle.semantics.specs.Replay.{or_unchanged, replay}
use Rattle.semantics.specs.Sound.{NeverTraps}
use Rattle.semantics.proofs.Places.{same_path_apart}
use Rattle.program.specs.declared.function.Program.{Program}
use Rattle.laws_strands.specs.Law.{Fits, Happen, absorbed, steps_by}
use Rattle.laws_strands.specs.FrameStrands.{FrameStrand, IsFrameStrand, is_advanced, is_filled, is_loaded}
use Rattle.laws_strands.proofs.Happening.{steps_more}
use Rattle.laws_strands.proofs.Law.{frame_strands_are_steps}
use Rattle.schedule_workers.specs.Stalls.{Blocks, block_of, if_enabled, last_blocks, noted}

module _ (prog : Program) (workers : ℕ) where
  pub last_all : (events more : List Event) (m : Machine) (last : Blocks) →
      last_blocks prog workers (events ++ more) m last ≡ last_blocks prog workers more (replay prog workers events m) (last_blocks prog workers events m last)
  last_all [] more m last = refl
  last_all (e ∷ events) more m last = last_all events more (or_unchanged (event prog workers e m) m) (if_enabled (event prog workers e m) (noted e m last) last)

  pub happen_replay : (events : List Event) (m after : Machine) → Happen prog workers events m after → replay prog workers events m ≡ after
  happen_replay [] m after same = same
  happen_replay (e ∷ events) m after (next, is, rest) = ap (λ o. replay prog workers events (or_unchanged o m)) is ∙ happen_replay events next after rest

  -- the blocks after one more step
  pub last_step : (w n : ℕ) (m mid : Machine) (last : Blocks) → Happen prog workers (steps_by w n) m mid →
      last_blocks prog workers (steps_by w (suc n)) m last ≡ if_enabled (event prog workers (Step w) mid) (noted (Step w) mid (last_blocks prog workers (steps_by w n) m last)) (last_blocks prog workers (steps_by w n) m last)
  last_step w n m mid last steps =
      let before = last_blocks prog workers (steps_by w n) m last in
      ap (λ es. last_blocks prog workers es m last) (sym (steps_more w n))
      ∙ (last_all (steps_by w n) (Step w ∷ []) m last
      ∙ ap (λ x. if_enabled (event prog workers (Step w) x) (noted (Step w) x before) before) (happen_replay (steps_by w n) m mid steps))

  module _ (m : Machine) (w : ℕ) (never : NeverTraps prog workers m) (last : Blocks) (q : Path) where
    -- a step of the worker tells nothing of another path
    pub step_off : (p : Path) → p ≢ q → (mid : Machine) → mid.hands w ≡ Some p → (before : Blocks) → if_enabled (event prog workers (Step w) mid) (noted (Step w) mid before) before q ≡ before q
    step_off p away mid hand before = from (event prog workers (Step w) mid)
      where
        from : (o : Option Machine) → if_enabled o (noted (Step w) mid before) before q ≡ before q
        from None = refl
        from (Some next) =
            ap (λ o. cond (running.is_place o q) (block_of (mid.core.frames q)) (before q)) hand
            ∙ ap (λ b. cond b (block_of (mid.core.frames q)) (before q)) (same_path_apart p q away)

    pub last_off : (s : FrameStrand) → IsFrameStrand prog s → Fits m w s → s.path ≢ q → last_blocks prog workers (steps_by w s.done) m last q ≡ last q
    last_off _ (is_loaded p f) fits away = refl
    last_off _ (is_filled s c v is paused) fits away =
        let all = (All-pop (λ r. m.core.memory r.0 ≡ Some r.1) (s.footprint.reads ++ (c, v) ∷ []) s.footprint.reads (Some (c, v)) refl fits.reads).0 in
        last_off s is (record { hand = fits.hand; frame = fits.frame; reads = all }) away
    last_off _ (is_advanced s e is free at fine) fits away =
        let fits2 : Fits m w s = record { hand = fits.hand; frame = fits.frame; reads = fits.reads } in
        let steps = (frame_strands_are_steps prog workers m w s is fits2 never).steps in
        ap (λ (l : Blocks). l q) (last_step w s.done m (absorbed m s) last steps)
        ∙ (step_off s.path away (absorbed m s) fits.hand (last_blocks prog workers (steps_by w s.done) m last)
        ∙ last_off s is fits2 away)
