-- What a strand keeps of its base, and which calls its frames wait for.
use Rattle.std.proofs.Common.{◌≡◌, ◌≢◌, ◌∙◌, ℕ, suc, List, [], ◌∷◌, Option, refl, sym, ap, subst}
use Rattle.semantics.specs.Frames.{Wait, Free, OnCall}
use Rattle.semantics.specs.State.{continued, resumed, synced, waiting, wait_after, went}
use Rattle.linear.specs.declared.form.RegisterId.{RegisterId}
use Rattle.program.specs.declared.function.Program.{Program}
use Rattle.laws_strands.specs.stacks.Strands.{Strand, IsStrand, Placed, at, is_advanced, is_called, is_detached, is_filled, is_loaded, is_past_sync, is_reattached, is_returned}

-- ---- the lowest frame

abbrev pub lowest_of : Placed → List Placed → Placed
lowest_of t [] = t
lowest_of t (g ∷ rest) = lowest_of g rest

-- it runs the function that the base ran, as what that was, with the same allocas
pub record IsAsBase (b t : Placed) : Type 0 where
  pub function : t.frame.function ≡ b.frame.function
  pub role : t.frame.role ≡ b.frame.role
  pub home : t.frame.home ≡ b.frame.home

kept_below : (b t u : Placed) (below : List Placed) → IsAsBase t u → IsAsBase b (lowest_of t below) → IsAsBase b (lowest_of u below)
kept_below b t u [] same is = record { function = same.function ∙ is.function; role = same.role ∙ is.role; home = same.home ∙ is.home }
kept_below b t u (g ∷ rest) same is = is

pub as_base : (prog : Program) (d : Strand) → IsStrand prog d → IsAsBase d.base (lowest_of d.top d.below)
as_base prog _ (is_loaded p f) = record { function = refl; role = refl; home = refl }
as_base prog _ (is_filled d c v e is act fine reads held read) = as_base prog d is
as_base prog _ (is_advanced d e is act fine holds) = kept_below d.base d.top (at d.top.path (went d.top.frame e)) d.below (record { function = refl; role = refl; home = refl }) (as_base prog d is)
as_base prog _ (is_past_sync d region block registers is act) =
    kept_below d.base d.top (at d.top.path (synced d.top.frame region block registers)) d.below (record { function = refl; role = refl; home = refl }) (as_base prog d is)
as_base prog _ (is_detached d region body continuation is act) =
    kept_below d.base d.top (at d.top.path (continued d.top.frame continuation)) d.below (record { function = refl; role = refl; home = refl }) (as_base prog d is)
as_base prog _ (is_called d register callee values is act) =
    kept_below d.base d.top (at d.top.path (waiting d.top.frame register)) d.below (record { function = refl; role = refl; home = refl }) (as_base prog d is)
as_base prog _ (is_reattached d region g rest is act below waits) = subst (λ xs. IsAsBase d.base (lowest_of d.top xs)) below (as_base prog d is)
as_base prog _ (is_returned d result g rest k register is act below waits) =
    kept_below d.base g (at g.path (resumed g.frame register result)) rest (record { function = refl; role = refl; home = refl }) (subst (λ xs. IsAsBase d.base (lowest_of d.top xs)) below (as_base prog d is))

-- ---- calls

-- the frame waits for no call
abbrev pub WaitsForNone : Wait → Type 0
WaitsForNone w = (k : ℕ) (register : Option RegisterId) → w ≢ OnCall k register

pub top_waits : (prog : Program) (d : Strand) → IsStrand prog d → WaitsForNone d.base.frame.waits → WaitsForNone d.top.frame.waits
top_waits prog _ (is_loaded p f) base k register h = base k register h
top_waits prog _ (is_filled d c v e is act fine reads held read) base k register h = top_waits prog d is base k register h
top_waits prog _ (is_advanced d e is act fine holds) base k register h = let free : Free ≡ OnCall k register = sym (ap wait_after fine) ∙ h in cc
top_waits prog _ (is_past_sync d region block registers is act) base k register h = absurd (cc)
top_waits prog _ (is_detached d region body continuation is act) base k register h = absurd (cc)
top_waits prog _ (is_called d o callee values is act) base k register h = absurd (cc)
top_waits prog _ (is_reattached d region g rest is act below waits) base k register h = let free : Free ≡ OnCall k register = sym waits ∙ h in cc
top_waits prog _ (is_returned d result g rest j o is act below waits) base k register h = absurd (cc)

-- a frame that waits for a call made the callee last
abbrev pub WaitsForLast : Placed → Type 0
WaitsForLast g = (k : ℕ) (register : Option RegisterId) → g.frame.waits ≡ OnCall k register → g.frame.made ≡ suc k

abbrev pub AllWaitForLast : List Placed → Type 0
AllWaitForLast [] = Unit {0}
AllWaitForLast (g ∷ rest) = WaitsForLast g × AllWaitForLast rest

pub below_waits : (prog : Program) (d : Strand) → IsStrand prog d → AllWaitForLast d.below
below_waits prog _ (is_loaded p f) = tt
below_waits prog _ (is_filled d c v e is act fine reads held read) = below_waits prog d is
below_waits prog _ (is_advanced d e is act fine holds) = below_waits prog d is
below_waits prog _ (is_past_sync d region block registers is act) = below_waits prog d is
below_waits prog _ (is_detached d region body continuation is act) = (λ k register h. absurd (cc), below_waits prog d is)
below_waits prog _ (is_called d o callee values is act) =
    (λ k register h. (let same : d.top.frame.made ≡ k = cc in ap suc same), below_waits prog d is)
below_waits prog _ (is_reattached d region g rest is act below waits) = (subst AllWaitForLast below (below_waits prog d is)).1
below_waits prog _ (is_returned d result g rest k register is act below waits) = (subst AllWaitForLast below (below_waits prog d is)).1
