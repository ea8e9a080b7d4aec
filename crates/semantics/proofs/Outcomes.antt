-- The outcome of a frame's rest, taken apart: what its first instruction leaves, and the outcomes that it is made of.
use Rattle.std.proofs.Common.{◌≡◌, Option, Some, None, refl, ℤ}
use Rattle.semantics.specs.Paths.{Path}
use Rattle.semantics.specs.Cells.{Memory}
use Rattle.semantics.specs.Arithmetic.{Trap}
use Rattle.semantics.specs.Frames.{Frame}
use Rattle.semantics.specs.Effect.{Effect}
use Rattle.semantics.specs.State.{went, resumed}
use Rattle.semantics.specs.SerialMeaning.{Ending, Left, Gave, Outcome, Rest, written, one_more, both_outcomes, at_last, counted, joined, last, after_effect, after_left, after_child, after_gave, after_call}
use Rattle.program.specs.linear.declared.form.RegisterId.{RegisterId}

pub counted_is : (x : Option Outcome) (o : Outcome) → counted x ≡ Some o → (u : Outcome) × (x ≡ Some u) × (one_more u ≡ o)
counted_is None o e = absurd (cc)
counted_is (Some u) o e = (u, refl, cc)

pub joined_is : (first : Outcome) (x : Option Outcome) (o : Outcome) → joined first x ≡ Some o → (u : Outcome) × (x ≡ Some u) × (both_outcomes first u ≡ o)
joined_is first None o e = absurd (cc)
joined_is first (Some u) o e = (u, refl, cc)

pub gave_same : (v u : Option ℤ) → Gave v ≡ Gave u → v ≡ u
gave_same v u e = cc

pub left_none : (v : Option ℤ) → Left ≡ Gave v → ⊥
left_none v e = cc

module _ (rest : Rest) where
  pub from_effect : (p : Path) (f : Frame) (m : Memory) (e : Effect) (t : Option Trap) (u : Outcome) → after_effect rest p f m e t ≡ Some u →
      (t ≡ None) × (counted (rest p (went f e) (written e m)) ≡ Some u)
  from_effect p f m e (Some t) u is = absurd (cc)
  from_effect p f m e None u is = (refl, is)

  from_left : (p : Path) (f : Frame) (o : Outcome) (e : Ending) (u : Outcome) → after_left rest p f o e ≡ Some u →
      (e ≡ Left) × (joined o (rest p f o.memory) ≡ Some u)
  from_left p f o Left u is = (refl, is)
  from_left p f o (Gave v) u is = absurd (cc)

  pub from_child : (p : Path) (f : Frame) (o : Option Outcome) (u : Outcome) → after_child rest p f o ≡ Some u →
      (c : Outcome) × (o ≡ Some c) × (c.ending ≡ Left) × (joined c (rest p f c.memory) ≡ Some u)
  from_child p f None u is = absurd (cc)
  from_child p f (Some c) u is = let h = from_left p f c c.ending u is in (c, refl, h.0, h.1)

  from_gave : (p : Path) (f : Frame) (d : Option RegisterId) (o : Outcome) (e : Ending) (u : Outcome) → after_gave rest p f d o e ≡ Some u →
      (v : Option ℤ) × (e ≡ Gave v) × (joined o (rest p (resumed f d v) o.memory) ≡ Some u)
  from_gave p f d o Left u is = absurd (cc)
  from_gave p f d o (Gave v) u is = (v, refl, is)

  pub from_call : (p : Path) (f : Frame) (d : Option RegisterId) (o : Option Outcome) (u : Outcome) → after_call rest p f d o ≡ Some u →
      (c : Outcome) × (o ≡ Some c) × (v : Option ℤ) × (c.ending ≡ Gave v) × (joined c (rest p (resumed f d v) c.memory) ≡ Some u)
  from_call p f d None u is = absurd (cc)
  from_call p f d (Some c) u is = let h = from_gave p f d c c.ending u is in (c, refl, h.0, h.1, h.2)

pub from_last : (ending : Ending) (m : Memory) (u : Outcome) → last ending m ≡ Some u → at_last ending m ≡ u
from_last ending m u is = cc
