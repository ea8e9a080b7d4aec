-- The slots that are not free, counted, are the frames of the state.
use Rattle.std.proofs.Common.{◌≡◌, ◌≢◌, ℕ, suc, ◌+◌, List, [], ◌∷◌, length, reverse, get_or, Option, Some, None, true, false, cond, ◌⊎◌, inl, inr, refl, sym, ap, ◌∙◌, subst, arith}
use Rattle.std.specs.Prelude.{count_by, is_some}
use Rattle.std.specs.List.{AllByRecursion, IsDistinct}
use Rattle.std.specs.Set.{is_member}
use Rattle.std.proofs.lemmas.List.{reverse-reverse}
use Rattle.std.proofs.lemmas.List.Recursion.{is_count_by}
use Rattle.semantics.specs.Paths.{Path, same_path}
use Rattle.semantics.specs.Replay.{CountsFrames}
use Rattle.semantics.proofs.Actions.{same_path_itself}
use Rattle.semantics.proofs.Places.{same_path_tells, same_path_apart}
use Rattle.cactus.specs.declared.node.Node.{Node}
use Rattle.cactus.specs.Frames.{Frames}
use Rattle.cactus.specs.ByPath.{first_named, named}
use Rattle.schedule_workers.specs.declared.activation.Activation.{Activation}
use Rattle.schedule_workers.specs.RunShown.{ShowsAt, place_of}
use Rattle.frame_engine.specs.declared.activation.Places.{Places}
use Rattle.frame_engine.specs.Shows.{Layout}
use Rattle.semantics.specs.Events.{Machine}
use Rattle.semantics.specs.Frames as frames
use Rattle.schedule_core.specs.declared.stage.Stage.{Stage}
use Rattle.schedule_core.specs.Stages.{IsState}

abbrev Slots : Type 0
Slots = List (Option (Node Activation))

-- the paths of the frames, by rising slot
places_of : Slots → List Path
places_of [] = []
places_of (None ∷ nodes) = places_of nodes
places_of (Some node ∷ nodes) = place_of node ∷ places_of nodes

count_step : (o : Option (Node Activation)) (nodes : Slots) → length (places_of (o ∷ nodes)) ≡ cond (is_some o) (1 + length (places_of nodes)) (length (places_of nodes))
unfolding places_of
count_step None nodes = refl
count_step (Some node) nodes = omega arith

no_places : length (places_of []) ≡ 0
unfolding places_of
no_places = refl

count_places : (nodes : Slots) → count_by is_some nodes ≡ length (places_of nodes)
count_places nodes = sym (is_count_by (λ (xs : Slots). length (places_of xs)) is_some no_places count_step nodes)

-- ---- which paths they are

here_tells : (node : Node Activation) (p : Path) → ((same_path node.path.numbers (reverse p) ≡ true) × (same_path p (place_of node) ≡ true)) ⊎ ((same_path node.path.numbers (reverse p) ≡ false) × (same_path p (place_of node) ≡ false))
here_tells node p =
    elim (same_path_tells node.path.numbers (reverse p)) [
      | inl h ↦ inl (h.0, subst (λ q. same_path p q ≡ true) (sym (reverse-reverse p) ∙ sym (ap (λ (l : Path). reverse l) h.1)) (same_path_itself p))
      | inr h ↦ inr (h.0, same_path_apart p (place_of node) (λ e. h.1 (sym (reverse-reverse node.path.numbers) ∙ ap (λ (l : Path). reverse l) (sym e))))
    ]

is_place : (nodes : Slots) (p : Path) → is_member same_path (places_of nodes) p ≡ is_some (first_named nodes (reverse p))
unfolding places_of
is_place [] p = refl
is_place (None ∷ nodes) p = is_place nodes p
is_place (Some node ∷ nodes) p =
    elim (here_tells node p) [
      | inl h ↦ rw (h.0, h.1) refl
      | inr h ↦ rw (h.0, h.1) (is_place nodes p)
    ]

-- ---- they differ

abbrev Apart : Slots → Type 0
Apart nodes = (slot other : ℕ) (node twin : Node Activation) → get_or nodes slot None ≡ Some node → get_or nodes other None ≡ Some twin → node.path.numbers ≡ twin.path.numbers → slot ≡ other

apart_rest : (o : Option (Node Activation)) (nodes : Slots) → Apart (o ∷ nodes) → Apart nodes
apart_rest o nodes apart slot other node twin here there same = let e : suc slot ≡ suc other = apart (suc slot) (suc other) node twin here there same in omega arith

all_differ : (n : Node Activation) (nodes : Slots) → ((slot : ℕ) (twin : Node Activation) → get_or nodes slot None ≡ Some twin → n.path.numbers ≢ twin.path.numbers) → AllByRecursion (λ y. same_path (place_of n) y ≡ false) (places_of nodes)
unfolding places_of
all_differ n [] differs = tt
all_differ n (None ∷ nodes) differs = all_differ n nodes (λ slot twin there. differs (suc slot) twin there)
all_differ n (Some node ∷ nodes) differs = (
  same_path_apart (place_of n) (place_of node) (λ e. differs 0 node refl (sym (reverse-reverse n.path.numbers) ∙ (ap (λ (l : Path). reverse l) e ∙ reverse-reverse node.path.numbers))),
  all_differ n nodes (λ slot twin there. differs (suc slot) twin there),
)

distinct : (nodes : Slots) → Apart nodes → IsDistinct same_path (places_of nodes)
unfolding places_of IsDistinct
distinct [] apart = tt
distinct (None ∷ nodes) apart = distinct nodes (apart_rest None nodes apart)
distinct (Some node ∷ nodes) apart = (
  all_differ node nodes (λ slot twin there same. let e : 0 ≡ suc slot = apart 0 (suc slot) node twin refl there same in omega arith),
  distinct nodes (apart_rest (Some node) nodes apart),
)

-- ---- of a stage

shown_some : (l : Layout) (places : Places) (p : Path) (g : Option frames.Frame) (o : Option (Node Activation)) → ShowsAt l places p g o → is_some o ≡ is_some g
shown_some l places p None None h = refl
shown_some l places p None (Some node) h = absurd h
shown_some l places p (Some g) None h = absurd h
shown_some l places p (Some g) (Some node) h = refl

found_named : (frames : Frames Activation) (numbers : Path) → first_named frames.nodes numbers ≡ named frames numbers
unfolding named
found_named frames numbers = refl

pub counts_frames : (stage : Stage) (m : Machine) (n : ℕ) → IsState stage m → n ≡ count_by is_some stage.run.cactus.nodes → CountsFrames m.core n
counts_frames stage m n s is =
    record {
      living = places_of stage.run.cactus.nodes;
      distinct = distinct stage.run.cactus.nodes s.shown.agrees.tree.distinct;
      all = λ p. is_place stage.run.cactus.nodes p ∙ (ap is_some (found_named stage.run.cactus (reverse p)) ∙ shown_some _ stage.places p (m.core.frames p) (named stage.run.cactus (reverse p)) (s.shown.shows.frames p));
      count = is ∙ count_places stage.run.cactus.nodes;
    }
