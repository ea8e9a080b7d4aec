-- The lowest frame of a strand is the base's: it runs the same function in the same role.
use Rattle.std.proofs.Common.{◌≡◌, List, [], ◌∷◌, refl, ◌∙◌, subst}
use Rattle.semantics.specs.State.{went, continued, synced, waiting, resumed}
use Rattle.laws_strands.specs.stacks.Strands.{Placed, Strand, at, IsStrand, is_loaded, is_filled, is_advanced, is_past_sync, is_detached, is_called, is_reattached, is_returned}
use Rattle.program.specs.declared.function.Program.{Program}

pub record IsSameTask (b t : Placed) : Type 0 where
  pub path : t.path ≡ b.path
  pub function : t.frame.function ≡ b.frame.function
  pub role : t.frame.role ≡ b.frame.role
  pub home : t.frame.home ≡ b.frame.home

abbrev pub IsBased : Placed → Placed → List Placed → Type 0
IsBased b t [] = IsSameTask b t
IsBased b t (g ∷ rest) = IsBased b g rest

-- a frame of the same path, function, role and home
based_kept : (b t u : Placed) (below : List Placed) → IsSameTask t u → IsBased b t below → IsBased b u below
based_kept b t u [] same is = record { path = same.path ∙ is.path; function = same.function ∙ is.function; role = same.role ∙ is.role; home = same.home ∙ is.home }
based_kept b t u (g ∷ rest) same is = is

itself : (t : Placed) → IsSameTask t t
itself t = record { path = refl; function = refl; role = refl; home = refl }

pub based : (prog : Program) (d : Strand) → IsStrand prog d → IsBased d.base d.top d.below
based prog _ (is_loaded p f) = itself (at p f)
based prog _ (is_filled d c v e is here fine reads unheld new) = based prog d is
based prog _ (is_advanced d e is here fine holds) = based_kept d.base d.top (at d.top.path (went d.top.frame e)) d.below (record { path = refl; function = refl; role = refl; home = refl }) (based prog d is)
based prog _ (is_past_sync d r b rs is here) =
    based_kept d.base d.top (at d.top.path (synced d.top.frame r b rs)) d.below (record { path = refl; function = refl; role = refl; home = refl }) (based prog d is)
based prog _ (is_detached d r b n is here) =
    based_kept d.base d.top (at d.top.path (continued d.top.frame n)) d.below (record { path = refl; function = refl; role = refl; home = refl }) (based prog d is)
based prog _ (is_called d o g vs is here) = based_kept d.base d.top (at d.top.path (waiting d.top.frame o)) d.below (record { path = refl; function = refl; role = refl; home = refl }) (based prog d is)
based prog _ (is_reattached d r g rest is here below free) = subst (λ x. IsBased d.base d.top x) below (based prog d is)
based prog _ (is_returned d v g rest k o is here below waits) =
    based_kept d.base g (at g.path (resumed g.frame o v)) rest (record { path = refl; function = refl; role = refl; home = refl }) (subst (λ x. IsBased d.base d.top x) below (based prog d is))
