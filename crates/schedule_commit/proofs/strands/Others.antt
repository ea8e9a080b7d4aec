-- What a strand leaves of the frames that are not its own.
use Rattle.std.proofs.Common.{◌≡◌, ◌≢◌, ◌∙◌, ◌-◌, ℕ, zero, suc, List, [], ◌∷◌, Option, Some, None, inl, inr, refl, sym, ap, subst}
use Rattle.semantics.specs.Paths.{Path}
use Rattle.semantics.specs.Below.{Under}
use Rattle.semantics.specs.Tree.{Tree}
use Rattle.semantics.specs.Frames.{Frame}
use Rattle.semantics.specs.State.{State, outside, outside_role}
use Rattle.semantics.specs.CoreSteps.{children_within}
use Rattle.semantics.specs.Counts.{count_of}
use Rattle.semantics.proofs.ChildCounts.{count_at}
use Rattle.semantics.proofs.Places.{same_path_tells}
use Rattle.program.specs.declared.function.Program.{Program}
use Rattle.frame_engine.specs.declared.activation.Frame as machine
use Rattle.frame_engine.specs.declared.activation.Places.{Places}
use Rattle.frame_engine.specs.Shows.{Layout}
use Rattle.schedule_workers.proofs.Pointing.{not_above}
use Rattle.laws_strands.specs.stacks.Strands.{Placed}
use Rattle.laws_strands.specs.stacks.Law.{no_count}
use Rattle.strand.specs.Layouts.{Segment}
use Rattle.schedule_commit.proofs.strands.Climbing.{Climbs, IsOff, IsOn, NoneIs}

alike : (s t : State) (q : Path) (r n : ℕ) → ((j : ℕ) → outside r (t.frames (j ∷ q)) ≡ outside r (s.frames (j ∷ q))) → children_within t q n r ≡ children_within s q n r
alike s t q r zero same = refl
alike s t q r (suc n) same = rw (same n, alike s t q r n same) refl

module _ (prog : Program) (places : Places) (k : Layout) (s : Segment) (old new : State) where
  -- no child of another frame is one of the upper ones
  ups_off : (older : ℕ → ℕ) (t : Placed) (f : machine.Frame) (gs : List Placed) (hs : List machine.Frame) → Climbs prog places k s old new older t f gs hs → (j : ℕ) (q : Path) → IsOff q t gs → t.path ≢ j ∷ q → IsOff (j ∷ q) t gs
  ups_off older t f [] hs climbs j q off away = away
  ups_off older t f (g ∷ gs) [] climbs j q off away = absurd climbs
  ups_off older t f (g ∷ gs) (h ∷ hs) (on, up, count, more) j q off away =
      (away, ups_off no_count g h gs hs more j q off.1 (λ e. (let both : (f.made - 1) ∷ t.path ≡ j ∷ q = sym up.path ∙ e in let same : t.path ≡ q = cc in off.0 same)))

  -- and no frame that lived, but for the base
  pub living_off : (older : ℕ → ℕ) (t : Placed) (f : machine.Frame) (gs : List Placed) (hs : List machine.Frame) → Climbs prog places k s old new older t f gs hs → (q : Path) (was : Frame) → old.frames q ≡ Some was → t.path ≢ q → IsOff q t gs
  living_off older t f [] hs climbs q was is away = away
  living_off older t f (g ∷ gs) [] climbs q was is away = absurd climbs
  living_off older t f (g ∷ gs) (h ∷ hs) (on, up, count, more) q was is away =
      (away, living_off no_count g h gs hs more q was is (λ e. (let none : None ≡ Some was = sym up.fresh ∙ (ap old.frames e ∙ is) in cc)))

  -- nor does one of the upper ones stand above a frame that lived
  pub none_above : (tree : Tree old) (older : ℕ → ℕ) (t : Placed) (f : machine.Frame) (gs : List Placed) (hs : List machine.Frame) → Climbs prog places k s old new older t f gs hs → (q : Path) (was : Frame) → old.frames q ≡ Some was →
      NoneIs (λ p. Under p q) gs
  none_above tree older t f [] hs climbs q was is = tt
  none_above tree older t f (g ∷ gs) [] climbs q was is = absurd climbs
  none_above tree older t f (g ∷ gs) (h ∷ hs) (on, up, count, more) q was is = (not_above old tree g.path q up.fresh was is, none_above tree no_count g h gs hs more q was is)

  low_on : (older : ℕ → ℕ) (t : Placed) (f : machine.Frame) (gs : List Placed) (hs : List machine.Frame) → Climbs prog places k s old new older t f gs hs → IsOn prog places k s old new t f
  low_on older t f [] [] climbs = climbs.0
  low_on older t f [] (h ∷ hs) climbs = absurd climbs
  low_on older t f (g ∷ gs) [] climbs = absurd climbs
  low_on older t f (g ∷ gs) (h ∷ hs) climbs = climbs.0

  module _ (older : ℕ → ℕ) (t : Placed) (f : machine.Frame) (gs : List Placed) (hs : List machine.Frame) (climbs : Climbs prog places k s old new older t f gs hs) (was : Frame) (stood : old.frames t.path ≡ Some was) (role : t.frame.role ≡ was.role)
      (elsewhere : (q : Path) → IsOff q t gs → new.frames q ≡ old.frames q) where
    pub on_base : IsOn prog places k s old new t f
    on_base = low_on older t f gs hs climbs

    outside_same : (r j : ℕ) (q : Path) → IsOff q t gs → outside r (new.frames (j ∷ q)) ≡ outside r (old.frames (j ∷ q))
    outside_same r j q off =
        elim (same_path_tells t.path (j ∷ q)) [
          | inl e ↦ subst (λ p. outside r (new.frames p) ≡ outside r (old.frames p)) e.1 (ap (outside r) on_base.there ∙ (ap (outside_role r) role ∙ sym (ap (outside r) stood)))
          | inr e ↦ ap (outside r) (elsewhere (j ∷ q) (ups_off older t f gs hs climbs j q off e.1))
        ]

    -- so each counts the children that it counted
    pub count_same : (q : Path) → IsOff q t gs → (r : ℕ) → count_of new q r ≡ count_of old q r
    count_same q off r = from (old.frames q) refl
      where
        from : (o : Option Frame) → old.frames q ≡ o → count_of new q r ≡ count_of old q r
        from None is = rw (elsewhere q off, is) refl
        from (Some g) is = count_at new q g r (elsewhere q off ∙ is) ∙ (alike old new q r g.made (λ j. outside_same r j q off) ∙ sym (count_at old q g r is))
