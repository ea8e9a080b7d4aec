-- Plain steps lead to one frame and one memory.
use Rattle.std.proofs.Common.{◌≡◌, ℕ, suc, refl, ap, sym, ◌∙◌, subst, arith, None}
use Rattle.semantics.specs.Paths.{Path}
use Rattle.semantics.specs.Cells.{Memory}
use Rattle.semantics.specs.Frames.{Frame}
use Rattle.semantics.specs.Effect.{Effect, Action, Plain, action_of}
use Rattle.semantics.specs.State.{went}
use Rattle.program.specs.declared.function.Program.{Program}
use Rattle.frame_engine.specs.Shows.{PlainSteps, here, more, memory_after}

module _ (prog : Program) (p : Path) (f : Frame) (m : Memory) where
  pub no_steps : (n : ℕ) (g : Frame) (k : Memory) → PlainSteps prog p f m n g k → n ≡ 0 → (g ≡ f) × (k ≡ m)
  no_steps n g k here e = (refl, refl)
  no_steps n g k (more {n = j} x s act fine) e = absurd (omega (arith, e))

  -- the last step
  pub record Last (n : ℕ) (g : Frame) (k : Memory) : Type 0 where
    pub frame : Frame
    pub memory : Memory
    pub steps : PlainSteps prog p f m n frame memory
    pub effect : Effect
    pub act : action_of prog p frame memory ≡ Plain effect
    pub fine : effect.trap ≡ None
    pub frame_is : g ≡ went frame effect
    pub memory_is : k ≡ memory_after effect memory

  pub last_step : (j : ℕ) (g : Frame) (k : Memory) → PlainSteps prog p f m j g k → (n : ℕ) → j ≡ suc n → Last n g k
  last_step j g k here n e = absurd (omega (arith, e))
  last_step j g k (more {n = i} {g = h} {k = y} x s act fine) n e =
      let same : i ≡ n = omega (arith, e) in
      record { frame = h; memory = y; steps = subst (λ (c : ℕ). PlainSteps prog p f m c h y) same s; effect = x; act = act; fine = fine; frame_is = refl; memory_is = refl }

  abbrev plain_effect : Effect → Action → Effect
  plain_effect d (Plain e) = e
  plain_effect d other = d

  pub one_way : (n : ℕ) (g : Frame) (k : Memory) → PlainSteps prog p f m n g k → (h : Frame) (i : Memory) → PlainSteps prog p f m n h i → (g ≡ h) × (k ≡ i)
  one_way n g k here h i t = let z = no_steps 0 h i t refl in (sym z.0, sym z.1)
  one_way n g k (more {n = j} {g = a} {k = y} x s act fine) h i t =
      let u = last_step (suc j) h i t j refl in
      let (ea, ey) = one_way j a y s u.frame u.memory u.steps in
      let ex : x ≡ u.effect = ap (plain_effect x) (sym act ∙ (λ z. action_of prog p (ea z) (ey z)) ∙ u.act) in
      ((λ z. went (ea z) (ex z)) ∙ sym u.frame_is, (λ z. memory_after (ex z) (ey z)) ∙ sym u.memory_is)
