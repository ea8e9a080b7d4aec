-- A strand's steps tell the blocks of its own frames alone, so frames that are stalled elsewhere stay so.
use Rattle.std.proofs.Common.{◌≡◌, ◌≢◌, ◌∙◌, ℕ, suc, List, [], ◌∷◌, Some, None, refl, sym, ap, eq-eqb}
use Rattle.semantics.specs.Paths.{Path}
use Rattle.semantics.specs.Frames.{Frame}
use Rattle.semantics.specs.Events.{Machine}
use Rattle.semantics.specs.Sound.{NeverTraps}
use Rattle.program.specs.declared.function.Program.{Program}
use Rattle.laws_strands.specs.Law.{steps_by}
use Rattle.schedule_workers.specs.Stalls.{Blocks, last_blocks}
use Rattle.schedule_commit.proofs.Noting.{last_step, step_off}
use Rattle.laws_strands.specs.stacks.Strands.{Strand, IsStrand, Placed, is_advanced, is_called, is_detached, is_filled, is_loaded, is_past_sync, is_reattached, is_returned}
use Rattle.laws_strands.specs.stacks.Law.{Fits, IsOrderly, Runs, absorbed}
use Rattle.laws_strands.proofs.stacks.Keeping.{kept_read}
use Rattle.laws_strands.proofs.stacks.Law.{strands_are_steps, unsynced}
use Rattle.laws_strands.proofs.stacks.Rising.{Rises, new_is_none, rises}

module _ (prog : Program) (workers : ℕ) (m : Machine) (w : ℕ) (orderly : IsOrderly m) (never : NeverTraps prog workers m) (last : Blocks) (q : Path) (was : Frame) (lives : m.core.frames q ≡ Some was) where
  top_off : (d : Strand) → IsStrand prog d → Runs m w d → d.base.path ≢ q → d.top.path ≢ q
  top_off d is runs away e = from d.below (rises prog d is)
    where
      from : (below : List Placed) → Rises d.base d.top below → ⊥
      from [] up = away (sym up.0 ∙ e)
      from (g ∷ rest) (k, path, next, new, more) =
          let none : None ≡ Some was = sym (new_is_none m.core orderly.tree d.base runs.frame d.top.path new) ∙ (ap m.core.frames e ∙ lives) in cc

  one_more : (d : Strand) → IsStrand prog d → Fits m w d → d.base.path ≢ q → last_blocks prog workers (steps_by w d.done) m last q ≡ last q → last_blocks prog workers (steps_by w (suc d.done)) m last q ≡ last q
  one_more d is fits away before =
      let steps = (strands_are_steps prog workers m w d is fits orderly never).steps in
      ap (λ (l : Blocks). l q) (last_step prog workers w d.done m (absorbed m w d) last steps)
      ∙ (step_off prog workers m w never last q d.top.path (top_off d is fits.runs away) (absorbed m w d) (rw (eq-eqb w w refl) refl) (last_blocks prog workers (steps_by w d.done) m last)
      ∙ before)

  pub last_off : (d : Strand) → IsStrand prog d → Fits m w d → d.base.path ≢ q → last_blocks prog workers (steps_by w d.done) m last q ≡ last q
  last_off _ (is_loaded p f) fits away = refl
  last_off _ (is_filled d c v e is act fine reads held new) fits away =
      last_off d is (record { runs = record { hand = fits.runs.hand; frame = fits.runs.frame; synced = fits.runs.synced }; reads = λ x y h. fits.reads x y (kept_read d.footprint c v new x y h) }) away
  last_off _ (is_advanced d e is act fine holds) fits away =
      let before : Fits m w d = record { runs = record { hand = fits.runs.hand; frame = fits.runs.frame; synced = fits.runs.synced }; reads = fits.reads } in one_more d is before away (last_off d is before away)
  last_off _ (is_past_sync d region block registers is act) fits away =
      let before : Fits m w d = record { runs = record { hand = fits.runs.hand; frame = fits.runs.frame; synced = (unsynced m d region d.below fits.runs.synced).0 }; reads = fits.reads } in
      one_more d is before away (last_off d is before away)
  last_off _ (is_detached d region body continuation is act) fits away =
      let before : Fits m w d = record { runs = record { hand = fits.runs.hand; frame = fits.runs.frame; synced = fits.runs.synced }; reads = fits.reads } in one_more d is before away (last_off d is before away)
  last_off _ (is_called d register callee values is act) fits away =
      let before : Fits m w d = record { runs = record { hand = fits.runs.hand; frame = fits.runs.frame; synced = fits.runs.synced }; reads = fits.reads } in one_more d is before away (last_off d is before away)
  last_off _ (is_reattached d region g rest is act below waits) fits away =
      let before : Fits m w d = record { runs = record { hand = fits.runs.hand; frame = fits.runs.frame; synced = fits.runs.synced }; reads = fits.reads } in one_more d is before away (last_off d is before away)
  last_off _ (is_returned d result g rest k register is act below waits) fits away =
      let before : Fits m w d = record { runs = record { hand = fits.runs.hand; frame = fits.runs.frame; synced = fits.runs.synced }; reads = fits.reads } in one_more d is before away (last_off d is before away)
