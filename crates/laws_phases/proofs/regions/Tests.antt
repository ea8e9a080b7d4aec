-- Tests of terminators and of edges.
use Rattle.std.proofs.Common.{◌≡◌, ℕ, Bool, true, false, eqb, ◌&&◌, inl, inr, List, Option, Some, None, refl, sym, ap, ◌∙◌, true≢false}
use Rattle.std.specs.List.{list_any, Contains}
use Rattle.std.proofs.lemmas.Bool.{and_from, eq-eqb, eqb-true, and_parts}
use Rattle.std.proofs.lemmas.Bool.Decides.{eqb_tells}
use Rattle.std.proofs.lemmas.List.Folds.{Any-from_list_any, list_any_at}
use Rattle.linear.specs.declared.form.RegisterId.{RegisterId}
use Rattle.program.specs.declared.identifier.BlockId.{BlockId}
use Rattle.program.specs.declared.instruction.Terminator.{Terminator}
use Rattle.program.specs.declared.instruction.Terminator.TheVariants as terminator
use Rattle.cfg.specs.declared.structure.Edge.{Edge}
use Rattle.cfg.specs.declared.structure.Way.{Way}
use Rattle.cfg.specs.declared.structure.Way.TheVariants as way
use Rattle.region_match.specs.Rules.{IsSync}
use Rattle.region_match.specs.Tasks.{task_along}

-- ---- a detach within the region r, to the continuation b

abbrev pub forks_to : ℕ → ℕ → Option Terminator → Bool
forks_to r b None = false
forks_to r b (Some (terminator.Jump target)) = false
forks_to r b (Some (terminator.Branch test x y)) = false
forks_to r b (Some (terminator.Switch w a default cases)) = false
forks_to r b (Some (terminator.Return value)) = false
forks_to r b (Some (terminator.Detach region body continuation)) = eqb region.0 r && eqb continuation.0 b
forks_to r b (Some (terminator.Reattach region continuation)) = false
forks_to r b (Some (terminator.Sync region target)) = false

pub record ForksTo (r b : ℕ) (o : Option Terminator) : Type 0 where
  pub region : RegisterId
  pub body : BlockId
  pub continuation : BlockId
  pub is : o ≡ Some (terminator.Detach region body continuation)
  pub region_is : region.0 ≡ r
  pub continuation_is : continuation.0 ≡ b

none_told : {A : Type 0} → false ≡ true → A
none_told e = absurd (true≢false (sym e))

pub forks_there : (r b : ℕ) (o : Option Terminator) → forks_to r b o ≡ true → ForksTo r b o
forks_there r b None e = none_told e
forks_there r b (Some (terminator.Jump target)) e = none_told e
forks_there r b (Some (terminator.Branch test x y)) e = none_told e
forks_there r b (Some (terminator.Switch w a default cases)) e = none_told e
forks_there r b (Some (terminator.Return value)) e = none_told e
forks_there r b (Some (terminator.Detach region body continuation)) e =
    let both = and_parts (eqb region.0 r) (eqb continuation.0 b) e in
    record { region = region; body = body; continuation = continuation; is = refl; region_is = eqb-true region.0 r both.0; continuation_is = eqb-true continuation.0 b both.1 }
forks_there r b (Some (terminator.Reattach region continuation)) e = none_told e
forks_there r b (Some (terminator.Sync region target)) e = none_told e

pub forks_told : (r b : ℕ) (o : Option Terminator) → ForksTo r b o → forks_to r b o ≡ true
forks_told r b o h = rw h.is (and_from (eqb h.region.0 r) (eqb h.continuation.0 b) (eq-eqb h.region.0 r h.region_is) (eq-eqb h.continuation.0 b h.continuation_is))

-- ---- a sync of the region r

abbrev pub syncs : ℕ → Option Terminator → Bool
syncs r None = false
syncs r (Some (terminator.Jump target)) = false
syncs r (Some (terminator.Branch test x y)) = false
syncs r (Some (terminator.Switch w a default cases)) = false
syncs r (Some (terminator.Return value)) = false
syncs r (Some (terminator.Detach region body continuation)) = false
syncs r (Some (terminator.Reattach region continuation)) = false
syncs r (Some (terminator.Sync region target)) = eqb region.0 r

abbrev pub IsUnsynced : ℕ → Option Terminator → Type 0
IsUnsynced r o = (region : RegisterId) → region.0 ≡ r → IsSync o region → ⊥

pub unsynced_there : (r : ℕ) (o : Option Terminator) → syncs r o ≡ false → IsUnsynced r o
unsynced_there r o e region same sync = true≢false (sym told ∙ e)
  where
    told : syncs r o ≡ true
    told = rw sync.1 (eq-eqb region.0 r same)

pub unsynced_told : (r : ℕ) (o : Option Terminator) → IsUnsynced r o → syncs r o ≡ false
unsynced_told r None none = refl
unsynced_told r (Some (terminator.Jump target)) none = refl
unsynced_told r (Some (terminator.Branch test x y)) none = refl
unsynced_told r (Some (terminator.Switch w a default cases)) none = refl
unsynced_told r (Some (terminator.Return value)) none = refl
unsynced_told r (Some (terminator.Detach region body continuation)) none = refl
unsynced_told r (Some (terminator.Reattach region continuation)) none = refl
unsynced_told r (Some (terminator.Sync region target)) none = elim (eqb_tells region.0 r) [ inl h ↦ absurd (none region h.1 (target, refl)) | inr h ↦ h.0 ]

-- ---- an edge within a task, to the block b

abbrev pub stays : Way → Bool
stays way.Branch = true
stays way.Detached = false
stays way.Continued = true
stays (way.Synced region) = true

pub stays_task : (w : Way) (from : ℕ) (ds : List ℕ) → stays w ≡ true → task_along w from ds ≡ ds
stays_task way.Branch from ds e = refl
stays_task way.Detached from ds e = none_told e
stays_task way.Continued from ds e = refl
stays_task (way.Synced region) from ds e = refl

abbrev pub leads_on : ℕ → List Edge → Bool
leads_on b edges = list_any (λ e. eqb e.to.0 b && stays e.way) edges

pub record LeadsOn (b : ℕ) (edges : List Edge) : Type 0 where
  pub edge : Edge
  pub within : Contains edges edge
  pub target : edge.to.0 ≡ b
  pub same_task : stays edge.way ≡ true

pub leads_there : (b : ℕ) (edges : List Edge) → leads_on b edges ≡ true → LeadsOn b edges
leads_there b edges e =
    let any = Any-from_list_any (λ (x : Edge). eqb x.to.0 b && stays x.way) edges e in
    let both = and_parts (eqb any.1.to.0 b) (stays any.1.way) any.4 in
    record { edge = any.1; within = (any.0, any.2, any.3); target = eqb-true any.1.to.0 b both.0; same_task = both.1 }

pub leads_told : (b : ℕ) (edges : List Edge) → LeadsOn b edges → leads_on b edges ≡ true
leads_told b edges h =
    let test : Edge → Bool = λ x. eqb x.to.0 b && stays x.way in
    list_any_at test edges h.within.0 h.edge h.within.1 (ap test h.within.2 ∙ and_from (eqb h.edge.to.0 b) (stays h.edge.way) (eq-eqb h.edge.to.0 b h.target) h.same_task)
