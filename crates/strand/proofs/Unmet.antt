-- Cells of frames to come, where the frame on top has the same path and as many children as before, or more.
use Rattle.std.proofs.Common.{◌≡◌, ◌≤◌, List, [], ◌∷◌, ◌∙◌, subst, arith, true}
use Rattle.semantics.specs.Paths.{Path}
use Rattle.semantics.specs.Below.{Under}
use Rattle.semantics.specs.Cells.{Cell, owns}
use Rattle.laws_strands.specs.stacks.Strands.{Placed}
use Rattle.laws_strands.specs.stacks.Footprint.{Footprint}
use Rattle.laws_strands.proofs.stacks.Rising.{Rises}
use Rattle.strand.specs.Layouts.{IsToCome}
use Rattle.strand.specs.Met.{NoneMet, NotMet}
use Rattle.strand.proofs.Coming.{AreClear, IsClear, base_to_come, under_up}

pub met_top : (f : Footprint) (t : Placed) (below : List Placed) → NoneMet f t below → NotMet f t
met_top f t [] met = met
met_top f t (g ∷ rest) met = met.0

-- another frame on top that has no more to make
pub met_again : (f : Footprint) (t u : Placed) (below : List Placed) → ((x : Path) → IsToCome u x → IsToCome t x) → NoneMet f t below → NoneMet f u below
met_again f t u [] less met = λ x come. met x (less x come)
met_again f t u (g ∷ rest) less met = (λ x come. met.0 x (less x come), met.1)

pub comes_later : (t u : Placed) → u.path ≡ t.path → t.frame.made ≤ u.frame.made → (x : Path) → IsToCome u x → IsToCome t x
comes_later t u path made x come =
    let later = come.later in
    record { child = come.child; later = omega (arith, later, made); under = subst (λ (p : Path). Under (come.child ∷ p) x) path come.under }

pub met_same : (f : Footprint) (t u : Placed) (below : List Placed) → u.path ≡ t.path → u.frame.made ≡ t.frame.made → NoneMet f t below → NoneMet f u below
met_same f t u below path made met = met_again f t u below (comes_later t u path (omega (arith, made))) met

-- what a new frame has to make the one below had
pub comes_above : (t c : Placed) → c.path ≡ t.frame.made ∷ t.path → (x : Path) → IsToCome c x → IsToCome t x
comes_above t c path x come = record { child = t.frame.made; later = omega arith; under = under_up come.child (t.frame.made ∷ t.path) x (subst (λ (p : Path). Under (come.child ∷ p) x) path come.under) }

-- Where nothing is known of a path's cells before, and they are none of those of which something may be known afterwards, nothing is.
module _ (f g : Footprint) (P : Cell → Type 0) (others : (y : Cell) → (P y → ⊥) → (g.reads y ≡ f.reads y) × (g.writes y ≡ f.writes y)) where
  not_met : (t : Placed) → ((x : Path) → IsToCome t x → (c : Cell) → owns x c.object ≡ true → P c → ⊥) → NotMet f t → NotMet g t
  not_met t out none x come c mine = let e = others c (out x come c mine) in let n = none x come c mine in (e.0 ∙ n.0, e.1 ∙ n.1)

  pub none_met : (b : Placed) (x : Path) → ((t : Placed) → IsClear x t → (y : Path) → IsToCome t y → IsToCome b y → (c : Cell) → owns y c.object ≡ true → P c → ⊥) → (t : Placed) (below : List Placed) → Rises b t below → AreClear x t below → NoneMet f t below → NoneMet g t below
  none_met b x out t [] r clear met = not_met t (λ y come. out t clear y come (base_to_come b t [] r y come)) met
  none_met b x out t (u ∷ rest) r clear met =
      (not_met t (λ y come. out t clear.0 y come (base_to_come b t (u ∷ rest) r y come)) met.0, none_met b x out u rest r.4 clear.1 met.1)
