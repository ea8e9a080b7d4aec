-- Where the rules on the graph hold, a phi has an entry for the block of each edge to it.
use Rattle.std.proofs.Common.{◌≡◌, ◌∙◌, ℕ, suc, ◌<◌, Bool, true, false, cond, eqb, List, [], ◌∷◌, length, map, Some, is_some, inl, inr, refl, ap, arith, slice_get, eq-eqb}
use Rattle.std.specs.List.{Contains, count_by, filter}
use Rattle.std.proofs.lemmas.List.Elements.{All-contains, All-weaker}
use Rattle.std.proofs.lemmas.List.Folds.{list_any-from_Any}
use Rattle.std.proofs.lemmas.List.Sums.{length-filter}
use Rattle.program.specs.declared.function.Block.{Block}
use Rattle.program.specs.declared.function.Function.{Function}
use Rattle.program.specs.declared.function.Program.{Program}
use Rattle.program.specs.declared.instruction.Case.{Case}
use Rattle.program.specs.declared.instruction.Ending.{Ending}
use Rattle.program.specs.declared.instruction.Operand.{Operand}
use Rattle.program.specs.declared.instruction.Phi.{Phi}
use Rattle.program.specs.declared.instruction.PhiEntry.{PhiEntry}
use Rattle.program.specs.declared.instruction.Step.{Step}
use Rattle.program.specs.declared.instruction.Terminator.{Terminator}
use Rattle.program.specs.declared.instruction.Terminator.TheVariants as terminator
use Rattle.cfg.specs.declared.structure.Edge.{Edge}
use Rattle.cfg.specs.declared.structure.BlockEdges.{BlockEdges}
use Rattle.cfg.specs.declared.structure.Way.{Way}
use Rattle.cfg.specs.declared.structure.Way.TheVariants as way
use Rattle.cfg.specs.declared.structure.Successor.{Successor}
use Rattle.cfg.specs.Edges.{case_successor, graph_of}
use Rattle.program.specs.Phis.{entry_for}
use Rattle.cfg.specs.Paths.{edges_of}
use Rattle.cfg.specs.Rules.{leads_to, IsMatched, IsFunctionRight, IsGraphRight}
use Rattle.ranges.specs.declared.edge.EdgeSums.{EdgeSums}
use Rattle.ranges.specs.Edges.{compared, branch_sums, edge_along, edge_to, edges_out}
use Rattle.laws_phases.specs.defined.Leads.{LeadsTo, IsBlock}
use Rattle.laws_phases.proofs.defined.Lists.{none_within, within_cases, at_within}
use Rattle.laws_phases.proofs.defined.Items.{Along, edge_behind}
use Rattle.laws_phases.proofs.facts.Places.{Any_of}
use Rattle.laws_phases.proofs.costs.Moves.{HaveEntries}

-- ---- an edge with facts is one that the terminator leads along

-- the terminator leads where the edge does
abbrev Leads : Terminator → EdgeSums → Type 0
Leads t e = (w : Way) × LeadsTo t w e.to.0

of_case : (x : Successor → EdgeSums) (value : Operand) (cases : List Case) (e : EdgeSums) → Contains (map x (map (case_successor value) cases)) e → (c : Case) × Contains cases c × (x (case_successor value c) ≡ e)
of_case x value [] e within = absurd (none_within e within)
of_case x value (c ∷ cases) e within = elim (within_cases (x (case_successor value c)) e (map x (map (case_successor value) cases)) within) [
  | inl same ↦ (c, (0, omega arith, refl), same)
  | inr later ↦ let r = of_case x value cases e later in (r.0, (suc r.1.0, (let l = r.1.1 in omega (arith, l)), r.1.2), r.2)
]

only : (x e : EdgeSums) → Contains (x ∷ []) e → x ≡ e
only x e within = elim (within_cases x e [] within) [ inl same ↦ same | inr none ↦ absurd (none_within e none) ]

target_is : (x e : EdgeSums) → x ≡ e → x.to.0 ≡ e.to.0
target_is x e same = ap (λ (y : EdgeSums). y.to.0) same

leads : (steps : List Step) (t : Terminator) (e : EdgeSums) → Contains (edges_out steps t) e → Leads t e
leads steps (terminator.Jump target) e within = (way.Branch, target_is (edge_to target way.Branch []) e (only (edge_to target way.Branch []) e within))
leads steps (terminator.Branch condition x y) e within =
    let first : EdgeSums = edge_to x way.Branch (branch_sums (compared condition steps) true) in
    let second : EdgeSums = edge_to y way.Branch (branch_sums (compared condition steps) false) in
    elim (within_cases first e (second ∷ []) within) [
      | inl same ↦ (way.Branch, inl (target_is first e same))
      | inr later ↦ (way.Branch, inr (target_is second e (only second e later)))
    ]
leads steps (terminator.Switch width value default cases) e within =
    let first : EdgeSums = edge_to default way.Branch [] in
    elim (within_cases first e (map (edge_along steps) (map (case_successor value) cases)) within) [
      | inl same ↦ (way.Branch, inl (target_is first e same))
      | inr later ↦ let r = of_case (edge_along steps) value cases e later in (way.Branch, inr (r.0, r.1, target_is (edge_along steps (case_successor value r.0)) e r.2))
    ]
leads steps (terminator.Return value) e within = absurd (none_within e within)
leads steps (terminator.Detach region body continuation) e within =
    let first : EdgeSums = edge_to body way.Detached [] in
    let second : EdgeSums = edge_to continuation way.Continued [] in
    elim (within_cases first e (second ∷ []) within) [
      | inl same ↦ (way.Detached, target_is first e same)
      | inr later ↦ (way.Continued, target_is second e (only second e later))
    ]
leads steps (terminator.Reattach region continuation) e within = absurd (none_within e within)
leads steps (terminator.Sync region target) e within =
    let first : EdgeSums = edge_to target (way.Synced region) [] in
    (way.Synced region, (refl, target_is first e (only first e within)))

-- ---- entries

some_left : (from : ℕ) (entries : List PhiEntry) → 0 < length (filter (λ e. eqb e.predecessor.0 from) entries) → is_some (entry_for from entries) ≡ true
some_left from [] many = absurd (omega (arith, many))
some_left from (e ∷ entries) many = by (eqb e.predecessor.0 from) many (some_left from entries)
  where
    by : (b : Bool) → 0 < length (cond b (e ∷ filter (λ x. eqb x.predecessor.0 from) entries) (filter (λ x. eqb x.predecessor.0 from) entries)) →
        (0 < length (filter (λ x. eqb x.predecessor.0 from) entries) → is_some (entry_for from entries) ≡ true) → is_some (cond b (Some e.value) (entry_for from entries)) ≡ true
    by true many rest = refl
    by false many rest = rest many

-- where an edge leads, each phi has an entry
has_entry : (blocks : List BlockEdges) (from to : ℕ) (entries : List PhiEntry) (edge : Edge) → Contains (edges_of blocks from) edge → edge.to.0 ≡ to → IsMatched blocks to entries → is_some (entry_for from entries) ≡ true
has_entry blocks from to entries edge within target matched =
    let leading : leads_to to (edges_of blocks from) ≡ true =
    list_any-from_Any (λ (e : Edge). eqb e.to.0 to) (edges_of blocks from) (Any_of (λ (e : Edge). eqb e.to.0 to ≡ true) (edges_of blocks from) edge within (eq-eqb edge.to.0 to target)) in
    let one : count_by (λ (e : PhiEntry). eqb e.predecessor.0 from) entries ≡ 1 = matched from ∙ ap (λ b. cond b 1 0) leading in
    let size : length (filter (λ (e : PhiEntry). eqb e.predecessor.0 from) entries) ≡ count_by (λ (e : PhiEntry). eqb e.predecessor.0 from) entries = length-filter (λ (e : PhiEntry). eqb e.predecessor.0 from) entries in
    some_left from entries (omega (arith, one, size))

pub have_entries : (prog : Program) → IsGraphRight prog → (f b : ℕ) (function : Function) (block target : Block) (ending : Ending) (e : EdgeSums) → IsBlock prog f b function block → block.ending ≡ Some ending → Contains (edges_out block.steps ending.terminator) e →
    slice_get function.blocks e.to.0 ≡ Some target → HaveEntries b target.phis
have_entries prog graph f b function block target ending e is at within there =
    let way_is = leads block.steps ending.terminator e within in
    let edge : Along (edges_of (graph_of function).blocks b) way_is.0 e.to.0 = edge_behind prog f b e.to.0 function block target ending way_is.0 is at there way_is.1 in
    let right = All-contains IsFunctionRight prog.functions function graph (at_within prog.functions f function is.at_function) e.to.0 target there in
    All-weaker (λ (phi : Phi). IsMatched (graph_of function).blocks e.to.0 phi.entries) (λ (phi : Phi). is_some (entry_for b phi.entries) ≡ true)
    (λ phi matched. has_entry (graph_of function).blocks b e.to.0 phi.entries edge.edge edge.within edge.target matched) target.phis right.0
