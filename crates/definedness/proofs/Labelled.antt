-- The labellings of a function are those of its tables.
use Rattle.std.proofs.Common.{◌≡◌, ◌⊎◌, ℕ, true, List, Option, Some, None, inl, inr}
use Rattle.std.proofs.lemmas.List.Elements.{All-weaker}
use Rattle.linear.specs.declared.form.RegisterId.{RegisterId}
use Rattle.cfg.specs.declared.structure.BlockEdges.{BlockEdges}
use Rattle.cfg.specs.declared.structure.Edge.{Edge}
use Rattle.cfg.specs.declared.structure.Way.{Way}
use Rattle.cfg.specs.declared.structure.Way.TheVariants.{Branch, Detached, Continued, Synced}
use Rattle.cfg.specs.Paths.{edges_of}
use Rattle.definedness.specs.Sure.{Labels, IsHeld, IsAdded, IsLabelling}

-- a labelling by some words is one by others that say the same
module _ (S S' : ℕ → Type 0) (F F' : ℕ → RegisterId → Type 0) (E E' : ℕ → ℕ → Type 0) (stores : (b : ℕ) → S b → S' b) (forks : (b : ℕ) (r : RegisterId) → F b r → F' b r) (ends : (d e : ℕ) → E' d e → E d e) where
  held_to : (l : Labels) (k : Option RegisterId) (b : ℕ) → IsHeld S l k b → IsHeld S' l k b
  held_to l k b (inl sure) = inl sure
  held_to l k b (inr (inl due)) = inr (inl due)
  held_to l k b (inr (inr at)) = inr (inr (stores b at))

  kept_to : (l : Labels) (k : Option RegisterId) (a : ℕ) (way : Way) → (IsHeld S l k a ⊎ IsAdded S F E l k a way) → IsHeld S' l k a ⊎ IsAdded S' F' E' l k a way
  kept_to l k a way (inl held) = inl (held_to l k a held)
  kept_to l k a Branch (inr h) = absurd h
  kept_to l k a Detached (inr h) = absurd h
  kept_to l k a Continued (inr h) = inr (h.0, h.1, forks a h.0 h.2, λ end at. held_to l None end (h.3 end (ends a end at)))
  kept_to l k a (Synced its) (inr h) = inr (held_to l (Some its) a h)

  pub labelling_to : (blocks : List BlockEdges) (l : Labels) → IsLabelling S F E blocks l → IsLabelling S' F' E' blocks l
  labelling_to blocks l is = record {
    entry = is.entry;
    edges = λ a. All-weaker (λ (e : Edge). (k : Option RegisterId) → l k e.to.0 ≡ true → IsHeld S l k a ⊎ IsAdded S F E l k a e.way) (λ (e : Edge). (k : Option RegisterId) → l k e.to.0 ≡ true → IsHeld S' l k a ⊎ IsAdded S' F' E' l k a e.way) (λ e f k h. kept_to l k a e.way (f k h)) (edges_of blocks a) (is.edges a);
  }
