-- The sure set that is left, and labellings.
use Rattle.std.proofs.Common.{◌≡◌, ◌↔◌, ℕ, ◌+◌, ◌<◌, Bool, true, false, not, List, [], ◌∷◌, ◌++◌, length, get_or, Option, Some, None, inl, inr, refl, sym, ◌∙◌, arith}
use Rattle.std.specs.Prelude.{slice_get}
use Rattle.std.specs.List.{Contains}
use Rattle.std.proofs.lemmas.Bool.{cases_eq, cases_lt, true≢false, false≢true, false_from_ne_true}
use Rattle.std.proofs.lemmas.List.{length_push, get_or_append_left, get_or_push}
use Rattle.std.proofs.lemmas.Option.{slice_get-get_or, slice_get_past}
use Rattle.linear.specs.declared.form.RegisterId.{RegisterId}
use Rattle.program.specs.declared.function.Block.{Block}
use Rattle.cfg.specs.declared.structure.BlockEdges.{BlockEdges}
use Rattle.definedness_allocas.specs.declared.fork.Fork.{Fork}
use Rattle.definedness_allocas.specs.declared.sets.Sets.{Sets}
use Rattle.definedness.specs.declared.table.Given.{Given}
use Rattle.definedness.specs.ForkOf.{IsForkOf}
use Rattle.definedness.specs.Needs.{numbers_at}
use Rattle.definedness.specs.Sure.{Labels, IsStored, IsFork, IsEndOf, IsNeverSure}
use Rattle.definedness_allocas.specs.Sets.{label_of, Stores, region_in, Forks, ended_in, Ends}
use Rattle.definedness.specs.Settling.{IsTableLabelling, IsGreatest}
use Rattle.definedness.proofs.Forking.{end_within}
use Rattle.definedness.proofs.Labelled.{labelling_to}

pub record UnsureBelow (label : ℕ → Bool) (n : ℕ) (marks : List Bool) : Type 0 where
  pub size : length marks ≡ n
  pub exact : (b : ℕ) → b < n → (get_or marks b false ≡ true) ↔ (label b ≡ false)

not_exact : (label : Bool) → (not label ≡ true) ↔ (label ≡ false)
not_exact true = (λ h. absurd (false≢true h), λ h. absurd (true≢false h))
not_exact false = (λ h. refl, λ h. refl)

pub unsure_more : (label : ℕ → Bool) (n : ℕ) (marks : List Bool) (here : Bool) → here ≡ label n → UnsureBelow label n marks → UnsureBelow label (n + 1) (marks ++ not here ∷ [])
unsure_more label n marks here is u = record {
  size = length_push marks (not here) ∙ omega (arith, u.size);
  exact = λ b w. elim (cases_eq b n) [
    | inl e ↦
        let last : length marks ≡ b = u.size ∙ sym e in
        let value : get_or (marks ++ not here ∷ []) b false ≡ not here = get_or_push marks (not here) false b last in
        rw (value, e, ← is) (not_exact here)
    | inr ne ↦
        let before : b < length marks = omega (arith, w, ne, u.size) in
        rw (get_or_append_left marks (not here ∷ []) false b before) (u.exact b (omega (arith, w, ne)))
  ];
}

fork_within : (bodies : List Block) (b : ℕ) (region : RegisterId) → IsFork bodies b region → b < length bodies
fork_within bodies b region f = elim (cases_lt b (length bodies)) [
  | inl l ↦ l
  | inr past ↦ absurd (let none = slice_get_past bodies b past in let e = rw none at f.1.1 in cc)
]

module _ (bodies : List Block) (blocks : List BlockEdges) (forks : List Fork) (each : (b : ℕ) (fork : Fork) → slice_get forks b ≡ Some fork → IsForkOf bodies blocks b fork) (size : length forks ≡ length bodies) where
  found : (b : ℕ) → b < length bodies → (fork : Fork) × (slice_get forks b ≡ Some fork)
  found b l =
      let none : Fork = record { region = None; ended = None } in
      (get_or forks b none, slice_get-get_or forks b none (rw size l))

  forked_from : (b : ℕ) (region : RegisterId) → IsFork bodies b region → Forks forks b region
  forked_from b region f =
      let at = found b (fork_within bodies b region f) in
      rw at.1 (((each b at.0 at.1).region region).1 f)

  forked_to : (b : ℕ) (region : RegisterId) (o : Option Fork) → slice_get forks b ≡ o → region_in o ≡ Some region → IsFork bodies b region
  forked_to b region None at e = absurd (cc)
  forked_to b region (Some fork) at e = ((each b fork at).region region).0 e

  ended_from : (d b : ℕ) → IsEndOf bodies blocks d b → Ends forks d b
  ended_from d b is =
      let at = found b (end_within bodies b is.0) in
      rw at.1 (((each b at.0 at.1).ended d).1 is)

  ended_to : (d b : ℕ) (o : Option Fork) → slice_get forks b ≡ o → ended_in o ≡ Some d → IsEndOf bodies blocks d b
  ended_to d b None at e = absurd (cc)
  ended_to d b (Some fork) at e = ((each b fork at).ended d).0 e

  pub never_by_table : (all : List Given) (alloca : ℕ) (stops : List Bool) → ((b : ℕ) → (get_or stops b false ≡ true) ↔ Contains (numbers_at all b) alloca) → (b : ℕ) → IsNeverSure bodies blocks all alloca b ↔ ((l : Labels) → IsTableLabelling stops forks blocks l → l None b ≡ true → ⊥)
  never_by_table all alloca stops stored b =
      let ST : ℕ → Type 0 = Stores stops in
      let FT : ℕ → RegisterId → Type 0 = Forks forks in
      let ET : ℕ → ℕ → Type 0 = Ends forks in
      let S : ℕ → Type 0 = IsStored all alloca in
      let F : ℕ → RegisterId → Type 0 = IsFork bodies in
      let E : ℕ → ℕ → Type 0 = IsEndOf bodies blocks in (
        λ never l is. never l (labelling_to ST S FT F ET E (λ a. (stored a).0) (λ a r at. forked_to a r (slice_get forks a) refl at) ended_from blocks l is),
        λ never l is. never l (labelling_to S ST F FT E ET (λ a. (stored a).1) forked_from (λ d e at. ended_to d e (slice_get forks e) refl at) blocks l is),
      )

-- at the start of a block where the greatest labelling does not have the alloca for sure none has
pub never_greatest : (stops : List Bool) (forks : List Fork) (blocks : List BlockEdges) (sets : Sets) → IsGreatest stops forks blocks sets → (b : ℕ) → b < length blocks → (label_of sets None b ≡ false) ↔ ((l : Labels) → IsTableLabelling stops forks blocks l → l None b ≡ true → ⊥)
never_greatest stops forks blocks sets g b w = (
  λ h l is sure. true≢false (sym (g.greatest l is None b w sure) ∙ h),
  λ never. false_from_ne_true (label_of sets None b) (λ h. never (label_of sets) g.labelling h),
)
