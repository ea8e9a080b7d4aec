-- Paths that come to a block for the first time, and what they pass on the way into a child.
use Rattle.std.proofs.Common.{◌≡◌, ◌≢◌, ℕ, ◌⊎◌, inl, inr, List, [], ◌∷◌, Option, Some, None, refl, sym, ap, subst, ◌∙◌, slice_get}
use Rattle.std.specs.List.{Contains}
use Rattle.std.specs.Option.{option_map}
use Rattle.std.proofs.lemmas.Bool.{cases_eq}
use Rattle.linear.specs.declared.form.RegisterId.{RegisterId}
use Rattle.program.specs.declared.identifier.BlockId.{BlockId}
use Rattle.program.specs.declared.function.Block.{Block}
use Rattle.program.specs.declared.function.Function.{Function}
use Rattle.program.specs.declared.function.Program.{Program}
use Rattle.program.specs.declared.instruction.Ending.{Ending}
use Rattle.program.specs.declared.instruction.Terminator.{Terminator}
use Rattle.program.specs.declared.instruction.Terminator.TheVariants as terminator
use Rattle.refusal.specs.declared.broken.Broken.{Broken}
use Rattle.cfg.specs.declared.structure.Edge.{Edge}
use Rattle.cfg.specs.declared.structure.Way.{Way}
use Rattle.cfg.specs.declared.structure.Way.TheVariants as way
use Rattle.cfg.specs.declared.structure.BlockEdges.{BlockEdges}
use Rattle.cfg.specs.declared.structure.Guard.TheVariants.{Silent}
use Rattle.cfg.specs.declared.structure.Successor.{Successor}
use Rattle.cfg.specs.Edges.{successor, edge_into, edge_of, edges_along, graph_of}
use Rattle.cfg.specs.Paths.{edges_of, Leg, IsPath}
use Rattle.region_match.specs.Mixed.{IsMixedIn}
use Rattle.region_match.specs.Rules.{terminator_of, ending_of, ending_at}
use Rattle.region_match.specs.Tasks.{task_along, task_on}
use Rattle.region_match.specs.Matched.{AreRegionsRight}
use Rattle.laws_phases.specs.defined.Leads.{IsBlock}
use Rattle.laws_phases.proofs.defined.Lists.{none_within, within_cases, within_chosen}
use Rattle.laws_phases.proofs.defined.Items.{block_edges}
use Rattle.laws_phases.proofs.defined.RegionTests.{same_or_not}
use Rattle.laws_phases.proofs.defined.Roles.{any_function}

-- a leg leaves the block
abbrev pub Leaves : List Leg → ℕ → Type 0
Leaves [] b = ⊥
Leaves (leg ∷ legs) b = (leg.from ≡ b) ⊎ Leaves legs b

abbrev pub FirstVisit : List BlockEdges → ℕ → Type 0
FirstVisit blocks b = (legs : List Leg) × IsPath blocks 0 legs b × (Leaves legs b → ⊥)

searched : (blocks : List BlockEdges) (b c : ℕ) (legs : List Leg) → IsPath blocks 0 legs c → (Leaves legs b → ⊥) ⊎ FirstVisit blocks b
searched blocks b c [] path = inl (λ h. h)
searched blocks b c (leg ∷ legs) path = elim (searched blocks b leg.from legs path.2) [
  | inr found ↦ inr found
  | inl free ↦ elim (cases_eq leg.from b) [
    | inl e ↦ inr (legs, subst (λ n. IsPath blocks 0 legs n) e path.2, free)
    | inr ne ↦ inl (apart b leg legs ne free)
  ]
]
  where
    apart : (b : ℕ) (leg : Leg) (legs : List Leg) → leg.from ≢ b → (Leaves legs b → ⊥) → Leaves (leg ∷ legs) b → ⊥
    apart b leg legs ne free (inl e) = ne e
    apart b leg legs ne free (inr h) = free h

pub first_visit : (blocks : List BlockEdges) (b : ℕ) (legs : List Leg) → IsPath blocks 0 legs b → FirstVisit blocks b
first_visit blocks b legs path = elim (searched blocks b b legs path) [ inl free ↦ (legs, path, free) | inr found ↦ found ]

-- the part of a path that leads to a block which it leaves
pub part_to : (blocks : List BlockEdges) (b c d : ℕ) (legs : List Leg) → IsPath blocks 0 legs c → Leaves legs b → (Leaves legs d → ⊥) → (q : List Leg) × IsPath blocks 0 q b × (Leaves q d → ⊥)
part_to blocks b c d [] path h free = absurd h
part_to blocks b c d (leg ∷ legs) path (inl e) free = (legs, subst (λ n. IsPath blocks 0 legs n) e path.2, λ k. free (inr k))
part_to blocks b c d (leg ∷ legs) path (inr h) free = part_to blocks b leg.from d legs path.2 h (λ k. free (inr k))

-- ---- into a child

pub ending_there : (bodies : List Block) (b : ℕ) (t : Terminator) → ending_at bodies b ≡ Some t → (block : Block) × (ending : Ending) × (slice_get bodies b ≡ Some block) × (block.ending ≡ Some ending) × (ending.terminator ≡ t)
ending_there bodies b t e = by_block (slice_get bodies b) refl e
  where
    by_ending : (block : Block) → slice_get bodies b ≡ Some block → (o : Option Ending) → block.ending ≡ o → terminator_of o ≡ Some t → (x : Block) × (ending : Ending) × (slice_get bodies b ≡ Some x) × (x.ending ≡ Some ending) × (ending.terminator ≡ t)
    by_ending block at None is h = absurd (cc)
    by_ending block at (Some ending) is h = (block, ending, at, is, cc)

    by_block : (o : Option Block) → slice_get bodies b ≡ o → ending_of o ≡ Some t → (x : Block) × (ending : Ending) × (slice_get bodies b ≡ Some x) × (x.ending ≡ Some ending) × (ending.terminator ≡ t)
    by_block None at h = absurd (cc)
    by_block (Some block) at h = by_ending block at block.ending refl h

edge_read : (blocks : List Block) (from : ℕ) (x : Successor) (e : Edge) → edge_of blocks from x ≡ Some e → (e.to ≡ x.to) × (e.way ≡ x.way)
edge_read blocks from x e is = by (slice_get blocks x.to.0) is
  where
    by : (o : Option Block) → option_map (edge_into from x) o ≡ Some e → (e.to ≡ x.to) × (e.way ≡ x.way)
    by None h = absurd (cc)
    by (Some target) h =
        let same : edge_into from x target ≡ e = cc in
        (sym (ap (λ (y : Edge). y.to) same), sym (ap (λ (y : Edge). y.way) same))

detached_edge : (function : Function) (detach : ℕ) (region : RegisterId) (body continuation : BlockId) (e : Edge) → ending_at function.blocks detach ≡ Some (terminator.Detach region body continuation) → Contains (edges_of (graph_of function).blocks detach) e → e.way ≡ way.Detached → e.to.0 ≡ body.0
detached_edge function detach region body continuation e ends within detached =
    let x = ending_there function.blocks detach (terminator.Detach region body continuation) ends in
    let read : edges_of (graph_of function).blocks detach ≡ edges_along function.blocks detach (terminator.Detach region body continuation) = block_edges function detach x.0 x.1 x.2 x.3 ∙ ap (λ t. edges_along function.blocks detach t) x.4 in
    let first : Successor = successor way.Detached body Silent in
    let second : Successor = successor way.Continued continuation Silent in
    let (along, among, is) = within_chosen (edge_of function.blocks detach) (first ∷ second ∷ []) e (subst (λ es. Contains es e) read within) in
    let (to, way_is) = edge_read function.blocks detach along e is in
    elim (within_cases first along (second ∷ []) among) [
      | inl same ↦ ap (λ (b : BlockId). b.0) to ∙ ap (λ (y : Successor). y.to.0) (sym same)
      | inr later ↦ elim (within_cases second along [] later) [
        | inl same ↦ absurd (let k : way.Continued ≡ way.Detached = ap (λ (y : Successor). y.way) same ∙ sym way_is ∙ detached in cc)
        | inr none ↦ absurd (none_within along none)
      ]
    ]

module _ (function : Function) (detach : ℕ) (outer : List ℕ) (region : RegisterId) (body continuation : BlockId) (ends : ending_at function.blocks detach ≡ Some (terminator.Detach region body continuation)) where
  -- a path into a child passes its first block
  pub passes_body : (b : ℕ) (legs : List Leg) → IsPath (graph_of function).blocks 0 legs b → task_on legs ≡ detach ∷ outer → (b ≡ body.0) ⊎ Leaves legs body.0
  passes_body b [] path e = absurd (cc)
  passes_body b (leg ∷ legs) path e = by leg.edge.way refl e (λ k. passes_body leg.from legs path.2 k)
    where
      on : (leg.from ≡ body.0) ⊎ Leaves legs body.0 → (b ≡ body.0) ⊎ Leaves (leg ∷ legs) body.0
      on h = inr h

      by : (w : Way) → leg.edge.way ≡ w → task_along w leg.from (task_on legs) ≡ detach ∷ outer → (task_on legs ≡ detach ∷ outer → (leg.from ≡ body.0) ⊎ Leaves legs body.0) → (b ≡ body.0) ⊎ Leaves (leg ∷ legs) body.0
      by way.Branch is h rest = on (rest h)
      by way.Detached is h rest =
          let same : leg.from ≡ detach = cc in
          inl (sym path.1 ∙ detached_edge function detach region body continuation leg.edge ends (subst (λ n. Contains (edges_of (graph_of function).blocks n) leg.edge) same path.0) is)
      by way.Continued is h rest = on (rest h)
      by (way.Synced r) is h rest = on (rest h)

-- 306: one task for all paths to a block
pub one_task : (prog : Program) → AreRegionsRight prog → (f b : ℕ) (function : Function) (block : Block) → IsBlock prog f b function block → (p q : List Leg) → IsPath (graph_of function).blocks 0 p b → IsPath (graph_of function).blocks 0 q b → task_on p ≡ task_on q
one_task prog right f b function block is p q path other = elim (same_or_not (task_on p) (task_on q)) [
  | inl e ↦ e
  | inr n ↦
      let broken : Broken = record { line = block.line; number = 306 } in
      absurd (right.unmixed broken (any_function {P = λ (x : Function). IsMixedIn x broken} prog.functions f function is.at_function (b, block, is.at_block, refl, refl, (p, q, path, other, n))))
]
