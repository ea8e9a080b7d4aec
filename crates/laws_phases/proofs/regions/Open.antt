-- Which regions are open at a block is found by a search.
use Rattle.std.proofs.Common.{◌≡◌, ℕ, ◌<◌, ◌≤◌, Bool, true, not, ◌&&◌, List, [], ◌∷◌, ◌++◌, length, Option, Some, None, refl, sym, ap, ◌∙◌, subst, arith, slice_get}
use Rattle.std.specs.Prelude.{IsSome}
use Rattle.std.specs.List.{Contains}
use Rattle.std.specs.Option.{option_map}
use Rattle.std.proofs.lemmas.Bool.{and_from, not-true, and_parts}
use Rattle.std.proofs.lemmas.List.Elements.{All-contains}
use Rattle.std.proofs.lemmas.Option.{slice_get_within}
use Rattle.linear.specs.declared.form.RegisterId.{RegisterId}
use Rattle.semantics.specs.Frames.{and_then, Ends, item_of, item_at}
use Rattle.semantics.proofs.Confluence.{one_result}
use Rattle.program.specs.declared.identifier.BlockId.{BlockId}
use Rattle.program.specs.declared.function.Block.{Block}
use Rattle.program.specs.declared.function.Function.{Function}
use Rattle.program.specs.declared.function.Program.{Program}
use Rattle.program.specs.declared.instruction.Ending.{Ending}
use Rattle.program.specs.declared.instruction.Step.{Step}
use Rattle.program.specs.declared.instruction.Terminator.{Terminator}
use Rattle.program.specs.declared.instruction.Terminator.TheVariants as terminator
use Rattle.cfg.specs.declared.structure.BlockEdges.{BlockEdges}
use Rattle.cfg.specs.declared.structure.Edge.{Edge}
use Rattle.cfg.specs.declared.structure.Way.{Way}
use Rattle.cfg.specs.declared.structure.Way.TheVariants as way
use Rattle.cfg.specs.declared.structure.Successor.{Successor}
use Rattle.cfg.specs.Edges.{successors, edge_into, edge_of, edges_along, graph_of}
use Rattle.cfg.specs.Paths.{edges_of, Leg, IsPath}
use Rattle.cfg.specs.Rules.{IsBlockRight, IsFunctionRight, IsGraphRight}
use Rattle.region_match.specs.Rules.{ending_at, IsSync, IsUnsynced as AreUnsynced}
use Rattle.region_match.specs.Matched.{AreRegionsRight}
use Rattle.region_match.specs.Tasks.{task_along, task_on, HasTask}
use Rattle.laws_phases.specs.defined.Names.{IsNamed}
use Rattle.laws_phases.proofs.defined.Items.{block_is, block_edges}
use Rattle.laws_phases.proofs.defined.Lists.{at_within, within_chosen}
use Rattle.laws_phases.proofs.defined.Paths.{no_edges}
use Rattle.laws_phases.proofs.defined.Placed.{Arrives, arrives}
use Rattle.laws_phases.proofs.defined.Visits.{ending_there, one_task}
use Rattle.laws_phases.specs.regions.Closed.{IsOpenAt}
use Rattle.laws_phases.proofs.regions.Search.{any_below, below_any, below_some, reached, reached_first, reached_next, reached_sound}
use Rattle.laws_phases.proofs.regions.Tests.{forks_to, forks_there, forks_told, syncs, IsUnsynced, unsynced_there, unsynced_told, stays, stays_task, leads_on, leads_there, leads_told}

-- ---- targets of edges

abbrev IsThere : List Block → Edge → Type 0
IsThere blocks e = (target : Block) × (slice_get blocks e.to.0 ≡ Some target)

target_there : (blocks : List Block) (from : ℕ) (e : Edge) (t : Terminator) → Contains (edges_along blocks from t) e → IsThere blocks e
target_there blocks from e t c =
    let (x, among, is) = within_chosen (edge_of blocks from) (successors t) e c in
    by x (slice_get blocks x.to.0) refl is
  where
    by : (x : Successor) (o : Option Block) → slice_get blocks x.to.0 ≡ o → option_map (edge_into from x) o ≡ Some e → IsThere blocks e
    by x None at h = absurd (cc)
    by x (Some target) at h =
        let same : edge_into from x target ≡ e = cc in
        (target, ap (λ (y : Edge). slice_get blocks y.to.0) (sym same) ∙ at)

-- ---- paths

path_on : (blocks : List BlockEdges) (from b : ℕ) (base legs : List Leg) (to : ℕ) → IsPath blocks from base b → IsPath blocks b legs to → IsPath blocks from (legs ++ base) to
path_on blocks from b base [] to first path = subst (λ n. IsPath blocks from base n) path first
path_on blocks from b base (leg ∷ legs) to first path = (path.0, path.1, path_on blocks from b base legs leg.from first path.2)

-- a path that stays in its task
abbrev AllStay : List Leg → Type 0
AllStay [] = Unit {0}
AllStay (leg ∷ legs) = (stays leg.edge.way ≡ true) × AllStay legs

task_grows : (legs base : List Leg) → length (task_on base) ≤ length (task_on (legs ++ base))
task_grows [] base = omega arith
task_grows (leg ∷ legs) base = by leg.edge.way (task_grows legs base)
  where
    by : (w : Way) → length (task_on base) ≤ length (task_on (legs ++ base)) → length (task_on base) ≤ length (task_along w leg.from (task_on (legs ++ base)))
    by way.Branch h = h
    by way.Detached h = omega (arith, h)
    by way.Continued h = h
    by (way.Synced r) h = h

all_stay : (legs base : List Leg) → length (task_on (legs ++ base)) ≤ length (task_on base) → AllStay legs
all_stay [] base few = tt
all_stay (leg ∷ legs) base few = by leg.edge.way refl few (λ h. all_stay legs base h)
  where
    grows : length (task_on base) ≤ length (task_on (legs ++ base))
    grows = task_grows legs base

    by : (w : Way) → leg.edge.way ≡ w → length (task_along w leg.from (task_on (legs ++ base))) ≤ length (task_on base) → (length (task_on (legs ++ base)) ≤ length (task_on base) → AllStay legs) → (stays leg.edge.way ≡ true) × AllStay legs
    by way.Branch is h rest = (ap stays is, rest h)
    by way.Detached is h rest = absurd (let g = grows in omega (arith, h, g))
    by way.Continued is h rest = (ap stays is, rest h)
    by (way.Synced r) is h rest = (ap stays is, rest h)

-- ---- on from a block

-- along an edge within the task, from a block that does not sync the region
pub goes_open : (function : Function) (r a b : ℕ) (e : Edge) → IsOpenAt function a r → Contains (edges_of (graph_of function).blocks a) e → e.to.0 ≡ b → stays e.way ≡ true → IsUnsynced r (ending_at function.blocks a) → IsOpenAt function b r
goes_open function r a b e opened within to same none =
    let o = opened.leads in
    let leg : Leg = record { from = a; edge = e } in
    record {
      detach = opened.detach;
      leads = record {
        region = o.region;
        continuation = o.continuation;
        is_detach = o.is_detach;
        task = o.task;
        detach_task = o.detach_task;
        end_task = (leg ∷ o.end_task.0, (within, to, o.end_task.1), stays_task e.way a (task_on o.end_task.0) same ∙ o.end_task.2);
        legs = leg ∷ o.legs;
        path = (within, to, o.path);
        unsynced = (none o.region opened.within, o.unsynced);
      };
      within = opened.within;
    }

item_end : (steps : List Step) (ending : Ending) → item_of steps (Some ending) (length steps) ≡ Some (Ends ending.terminator)
item_end [] ending = refl
item_end (s ∷ steps) ending = item_end steps ending

-- ---- the search

module _ (function : Function) (r : ℕ) where
  -- behind a detach within the region
  abbrev pub first : ℕ → Bool
  first b = any_below (length function.blocks) (λ d. forks_to r b (ending_at function.blocks d))

  -- along an edge within the task, from a block that does not sync the region
  abbrev pub next : ℕ → ℕ → Bool
  next a b = not (syncs r (ending_at function.blocks a)) && leads_on b (edges_of (graph_of function).blocks a)

  abbrev pub open_at : ℕ → Bool
  open_at b = reached (length function.blocks) next first b

same_register : (a b : RegisterId) → a.0 ≡ b.0 → a ≡ b
same_register a b e = let numbered : ℕ → RegisterId = λ n. record { 0 = n } in ap numbered e

module _ (prog : Program) (named : IsNamed prog) (graph : IsGraphRight prog) (f : ℕ) (function : Function) (at : slice_get prog.functions f ≡ Some function) where
  block_right : (b : ℕ) (block : Block) → slice_get function.blocks b ≡ Some block → IsBlockRight (graph_of function).blocks b block
  block_right b block here = All-contains IsFunctionRight prog.functions function graph (at_within prog.functions f function at) b block here

  block_reached : (b : ℕ) (block : Block) → slice_get function.blocks b ≡ Some block → (legs : List Leg) × IsPath (graph_of function).blocks 0 legs b
  block_reached b block here = (block_right b block here).1.1

  -- the terminator of a block stands behind its steps
  end_at : (b : ℕ) (block : Block) (ending : Ending) (t : Terminator) → slice_get function.blocks b ≡ Some block → block.ending ≡ Some ending → ending.terminator ≡ t → item_at prog f b (length block.steps) ≡ Some (Ends t)
  end_at b block ending t here has is =
      ap (λ (o : Option Block). and_then o (λ (x : Block). item_of x.steps x.ending (length block.steps))) (block_is prog f b function block (record { at_function = at; at_block = here }))
      ∙ ap (λ (o : Option Ending). item_of block.steps o (length block.steps)) has ∙ item_end block.steps ending ∙ ap (λ (x : Terminator). Some (Ends x)) is

  module _ (d : ℕ) (region : RegisterId) (body continuation : BlockId) (ends : ending_at function.blocks d ≡ Some (terminator.Detach region body continuation)) where
    abbrev t : Terminator
    t = terminator.Detach region body continuation

    found : (block : Block) × (ending : Ending) × (slice_get function.blocks d ≡ Some block) × (block.ending ≡ Some ending) × (ending.terminator ≡ t)
    found = ending_there function.blocks d t ends

    detach_below : d < length function.blocks
    detach_below = slice_get_within function.blocks d found.0 found.2

    arrived : Arrives prog f d continuation.0 way.Continued
    arrived = arrives prog named f d (length found.0.steps) continuation.0 t way.Continued (end_at d found.0 found.1 t found.2 found.3 found.4) refl

    same_function : arrived.function ≡ function
    same_function = one_result (slice_get prog.functions f) arrived.function function arrived.is.at_function at

    continuation_there : (block : Block) × (slice_get function.blocks continuation.0 ≡ Some block)
    continuation_there = (arrived.target, subst (λ (x : Function). slice_get x.blocks continuation.0 ≡ Some arrived.target) same_function arrived.is.at_block)

    goes_on_task : (task : List ℕ) → HasTask (graph_of function).blocks d task → HasTask (graph_of function).blocks continuation.0 task
    goes_on_task task h =
        subst (λ (x : Function). HasTask (graph_of x).blocks continuation.0 task) same_function (arrived.along task (subst (λ (x : Function). HasTask (graph_of x).blocks d task) (sym same_function) h))

    -- behind a detach its region is open
    pub begins_open : IsOpenAt function continuation.0 region.0
    begins_open =
        let reach = block_reached d found.0 found.2 in
        let task : HasTask (graph_of function).blocks d (task_on reach.0) = (reach.0, reach.1, refl) in
        record {
          detach = d;
          leads = record {
            region = region;
            continuation = continuation;
            is_detach = (body, ends);
            task = task_on reach.0;
            detach_task = task;
            end_task = goes_on_task (task_on reach.0) task;
            legs = [];
            path = refl;
            unsynced = tt;
          };
          within = refl;
        }

  -- where an edge starts, and where it leads
  edge_start : (a : ℕ) (e : Edge) → Contains (edges_of (graph_of function).blocks a) e → (block : Block) × (slice_get function.blocks a ≡ Some block)
  edge_start a e c = by (slice_get function.blocks a) refl
    where
      by : (o : Option Block) → slice_get function.blocks a ≡ o → (block : Block) × (slice_get function.blocks a ≡ Some block)
      by None is = absurd (no_edges function a e is c)
      by (Some block) is = (block, is)

  edge_end : (a : ℕ) (e : Edge) → Contains (edges_of (graph_of function).blocks a) e → IsThere function.blocks e
  edge_end a e c = let start = edge_start a e c in by start.0 start.1 start.0.ending refl (block_right a start.0 start.1).2
    where
      by : (block : Block) → slice_get function.blocks a ≡ Some block → (o : Option Ending) → block.ending ≡ o → IsSome o → IsThere function.blocks e
      by block here None is there = absurd (cc)
      by block here (Some ending) is there = target_there function.blocks a e ending.terminator (subst (λ es. Contains es e) (block_edges function a block ending here is) c)

  path_end : (from : ℕ) (legs : List Leg) (b : ℕ) → IsPath (graph_of function).blocks from legs b → (first : (block : Block) × (slice_get function.blocks from ≡ Some block)) → (block : Block) × (slice_get function.blocks b ≡ Some block)
  path_end from [] b path first = (first.0, subst (λ n. slice_get function.blocks n ≡ Some first.0) path first.1)
  path_end from (leg ∷ legs) b path first = let there = edge_end leg.from leg.edge path.0 in (there.0, subst (λ n. slice_get function.blocks n ≡ Some there.0) path.1 there.1)

  module _ (r : ℕ) where
    next_open : (a b : ℕ) → IsOpenAt function a r → next function r a b ≡ true → IsOpenAt function b r
    next_open a b opened h =
        let both = and_parts (not (syncs r (ending_at function.blocks a))) (leads_on b (edges_of (graph_of function).blocks a)) h in
        let on = leads_there b (edges_of (graph_of function).blocks a) both.1 in
        goes_open function r a b on.edge opened on.within on.target on.same_task (unsynced_there r (ending_at function.blocks a) (not-true (syncs r (ending_at function.blocks a)) both.0))

    first_open : (b : ℕ) → first function r b ≡ true → IsOpenAt function b r
    first_open b h =
        let d = below_some (length function.blocks) (λ x. forks_to r b (ending_at function.blocks x)) h in
        let fork = forks_there r b (ending_at function.blocks d.0) d.2 in
        subst (λ n. IsOpenAt function b n) fork.region_is (subst (λ n. IsOpenAt function n fork.region.0) fork.continuation_is (begins_open d.0 fork.region fork.body fork.continuation fork.is))

    pub sound : (b : ℕ) → open_at function r b ≡ true → IsOpenAt function b r
    sound b h = reached_sound (length function.blocks) (next function r) (λ n. IsOpenAt function n r) next_open (first function r) first_open b h

    -- along a path that stays in its task and does not sync the region
    follow : (from : ℕ) → open_at function r from ≡ true → (region : RegisterId) → region.0 ≡ r → (legs : List Leg) (b : ℕ) → IsPath (graph_of function).blocks from legs b → AreUnsynced function.blocks region legs → AllStay legs → open_at function r b ≡ true
    follow from start region is [] b path unsynced stay = subst (λ n. open_at function r n ≡ true) path start
    follow from start region is (leg ∷ legs) b path unsynced stay =
        let here = edge_start leg.from leg.edge path.0 in
        let there = edge_end leg.from leg.edge path.0 in
        let none : IsUnsynced r (ending_at function.blocks leg.from) = λ other same sync.
        unsynced.0 (subst (λ (x : RegisterId). IsSync (ending_at function.blocks leg.from) x) (same_register other region (same ∙ sym is)) sync) in
        reached_next (length function.blocks) (next function r) (first function r) leg.from b
        (slice_get_within function.blocks leg.from here.0 here.1)
        (slice_get_within function.blocks b there.0 (subst (λ n. slice_get function.blocks n ≡ Some there.0) path.1 there.1))
        (follow from start region is legs leg.from path.2 unsynced.1 stay.1)
        (and_from (not (syncs r (ending_at function.blocks leg.from))) (leads_on b (edges_of (graph_of function).blocks leg.from)) (ap not (unsynced_told r (ending_at function.blocks leg.from) none))
        (leads_told b (edges_of (graph_of function).blocks leg.from) (record { edge = leg.edge; within = path.0; target = path.1; same_task = stay.0 })))

    pub complete : AreRegionsRight prog → (b : ℕ) → IsOpenAt function b r → open_at function r b ≡ true
    complete right b opened =
        let o = opened.leads in
        let d = opened.detach in
        let start : first function r o.continuation.0 ≡ true =
        below_any (length function.blocks) (λ x. forks_to r o.continuation.0 (ending_at function.blocks x)) d (detach_below d o.region o.is_detach.0 o.continuation o.is_detach.1)
        (forks_told r o.continuation.0 (ending_at function.blocks d) (record { region = o.region; body = o.is_detach.0; continuation = o.continuation; is = o.is_detach.1; region_is = opened.within; continuation_is = refl })) in
        let base = goes_on_task d o.region o.is_detach.0 o.continuation o.is_detach.1 o.task o.detach_task in
        let last = path_end o.continuation.0 o.legs b o.path (continuation_there d o.region o.is_detach.0 o.continuation o.is_detach.1) in
        let one : task_on (o.legs ++ base.0) ≡ task_on o.end_task.0 =
        one_task prog right f b function last.0 (record { at_function = at; at_block = last.1 }) (o.legs ++ base.0) o.end_task.0 (path_on (graph_of function).blocks 0 o.continuation.0 base.0 o.legs b base.1 o.path) o.end_task.1 in
        let same : length (task_on (o.legs ++ base.0)) ≡ length (task_on base.0) = ap length (one ∙ o.end_task.2 ∙ sym base.2) in
        follow o.continuation.0 (reached_first (length function.blocks) (next function r) (first function r) o.continuation.0 start) o.region opened.within o.legs b o.path o.unsynced (all_stay o.legs base.0 (omega (arith, same)))
