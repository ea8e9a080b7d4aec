-- The steps of one frame, and the cells that they read, are the same whatever the other frames do between.
use Rattle.std.proofs.Common.{◌≡◌, ◌≢◌, ℕ, List, [], ◌∷◌, None, true, inl, inr, sym, ap, subst}
use Rattle.std.proofs.lemmas.Bool.{or_cases}
use Rattle.semantics.specs.Paths.{Path}
use Rattle.semantics.specs.Cells.{Cell}
use Rattle.semantics.specs.Frames.{Frame}
use Rattle.semantics.specs.State.{State, Change, apply}
use Rattle.semantics.specs.Tree.{MissesAt, is_left, is_unseen, is_added}
use Rattle.laws_conditions.specs.theorem.Conditions.{Zone, StaysInZone, PassesZonesOn}
use Rattle.laws_conditions.specs.theorem.Schedules.{StepsOf, read_by}
use Rattle.semantics.proofs.Steps.{Does, does, change_is}
use Rattle.semantics.proofs.Diamond.{stays, apply_commutes, frames_apart, results_apart}
use Rattle.laws_conditions.proofs.theorem.Feet.{steps_apart}
use Rattle.laws_conditions.proofs.theorem.Sound.{Sound, sound_kept}
use Rattle.program.specs.declared.function.Program.{Program}

-- what a change does to a cell that another looks at: nothing
spares : (d c : Change) (x : Cell) → MissesAt d c x → c.reads x ≡ true → (d.writes x ≡ None) × (d.adds x ≡ None)
spares d c x (is_left w a) r = (w, a)
spares d c x (is_unseen q w a) r = absurd (cc)
spares d c x (is_added w v q) r = absurd (cc)

module _ {ℓ} (Z : Type ℓ) (zone : Z → Zone) (prog : Program) (fits : Path → Frame → Z → Type 0) (pending : Path → Frame → ℕ → Z) (expects : Frame → Z → Type 0) (inside : StaysInZone Z zone prog fits pending) (passes : PassesZonesOn Z zone prog fits pending expects) where
  step_sound : (p : Path) (c : Change) (s : State) → Sound Z zone prog fits pending expects inside passes s → Does prog s p c → Sound Z zone prog fits pending expects inside passes (apply c s)
  step_sound p c s sound dp = sound_kept Z zone prog fits pending expects inside passes p s (apply c s) sound (rw (change_is prog s p c dp))

  -- a step of q before them changes none of them
  pub steps_stay : (p q : Path) → p ≢ q → (cs : List Change) (s t : State) (d : Change) → Sound Z zone prog fits pending expects inside passes s → StepsOf prog p cs s t → Does prog s q d → StepsOf prog p cs (apply d s) (apply d t)
  steps_stay p q differ [] s t d sound e dq = ap (apply d) e
  steps_stay p q differ (c ∷ cs) s t d sound (ch, rest) dq =
      let dp = does prog s p c ch in
      let (misses, missed) = steps_apart Z zone prog fits pending expects inside s sound.tree sound.feet sound.footed p q c d differ dp dq in
      let dp2 = stays sound.tree (λ e. differ (sym e)) dq missed dp in
      let dq2 = stays sound.tree differ dp misses dq in
      let same = apply_commutes c d s (frames_apart sound.tree differ dp dq) misses (results_apart sound.tree differ dp dq) in
      (change_is prog (apply d s) p c dp2, subst (λ x. StepsOf prog p cs x (apply d t)) same (steps_stay p q differ cs (apply c s) t d (step_sound p c s sound dp) rest dq2))

  -- nor a cell that they read
  cell_spared : (p q : Path) → p ≢ q → (cs : List Change) (s t : State) (d : Change) (x : Cell) → Sound Z zone prog fits pending expects inside passes s → StepsOf prog p cs s t → Does prog s q d → read_by cs x ≡ true → (d.writes x ≡ None) × (d.adds x ≡ None)
  cell_spared p q differ [] s t d x sound e dq r = absurd (cc)
  cell_spared p q differ (c ∷ cs) s t d x sound (ch, rest) dq r =
      let dp = does prog s p c ch in
      let (misses, missed) = steps_apart Z zone prog fits pending expects inside s sound.tree sound.feet sound.footed p q c d differ dp dq in
      let dq2 = stays sound.tree differ dp misses dq in
      elim (or_cases (c.reads x) (read_by cs x) r) [
        | inl h ↦ spares d c x (missed x) h
        | inr h ↦ cell_spared p q differ cs (apply c s) t d x (step_sound p c s sound dp) rest dq2 h
      ]

  pub cell_stays : (p q : Path) → p ≢ q → (cs : List Change) (s t : State) (d : Change) (x : Cell) → Sound Z zone prog fits pending expects inside passes s → StepsOf prog p cs s t → Does prog s q d → read_by cs x ≡ true → (apply d s).memory x ≡ s.memory x
  cell_stays p q differ cs s t d x sound steps dq r = let (w, a) = cell_spared p q differ cs s t d x sound steps dq r in rw (w, a)
