-- A register is defined at one place, and what names it is behind that place on each path: so no step writes what its place names.
use Rattle.std.proofs.Common.{◌≡◌, ℕ, suc, ◌≤◌, inl, inr, List, [], ◌∷◌, ◌++◌, length, map, Option, Some, None, refl, subst, ◌∙◌, arith, slice_get}
use Rattle.std.specs.List.{Contains, flat_map}
use Rattle.std.proofs.lemmas.List.Elements.{All-contains, Contains-append_left, Contains-append_right, Contains-append_cases}
use Rattle.program.specs.declared.identifier.BlockId.{BlockId}
use Rattle.program.specs.declared.function.Block.{Block}
use Rattle.program.specs.declared.function.Function.{Function}
use Rattle.program.specs.declared.function.Program.{Program}
use Rattle.program.specs.declared.instruction.Phi.{Phi}
use Rattle.program.specs.declared.instruction.Step.{Step}
use Rattle.program.specs.declared.instruction.Terminator.TheVariants as terminator
use Rattle.cfg.specs.declared.structure.Way.TheVariants as way
use Rattle.cfg.specs.Edges.{graph_of}
use Rattle.cfg.specs.Paths.{edges_of, Leg, IsPath, IsOnPath}
use Rattle.cfg.specs.Rules.{IsFunctionRight, IsGraphRight}
use Rattle.region_match.specs.Tasks.{task_on}
use Rattle.region_match.specs.Matched.{AreRegionsRight}
use Rattle.definedness.specs.declared.act.Act.{Act}
use Rattle.definedness.specs.declared.act.Act.TheVariants.{Needs}
use Rattle.definedness.specs.Missing.{defined_along}
use Rattle.definedness.specs.Needs.{given_of, numbers_at}
use Rattle.definedness.specs.RegisterActs.{inequality_needs, pending_needs, left_needs, zone_needs, instruction_needs, note_needs, register_acts}
use Rattle.definedness.specs.Definedness.{register_table}
use Rattle.laws_conditions.specs.rules.Moves.{dest_of}
use Rattle.laws_conditions.specs.rules.Registers.{HasPhi}
use Rattle.laws_phases.specs.defined.Leads.{IsBlock}
use Rattle.laws_phases.specs.defined.Names.{StepDefines, PhiDefines, DefinesOnce, IsNamed}
use Rattle.laws_phases.specs.defined.Defined.{defined_before, AreUsesDefined}
use Rattle.laws_phases.specs.defined.Stable.{IsOffFoot, IsSteady, IsSteadyPhi, StableByRules}
use Rattle.laws_phases.proofs.defined.Lists.{none_within, at_within}
use Rattle.laws_phases.proofs.defined.Items.{Along, leads_along, block_edges}
use Rattle.laws_phases.proofs.defined.Paths.{no_edges, phi_refused}
use Rattle.laws_phases.proofs.defined.Defined.{Found, left_given, need_defined, note_found, step_found}
use Rattle.laws_phases.proofs.defined.Registers.{Defining, is_parameter, is_phi, is_step, defining, defining_step}
use Rattle.laws_phases.proofs.defined.Visits.{Leaves, FirstVisit, first_visit, part_to, ending_there, passes_body, one_task}

-- the parts of a block's annotations
abbrev keep_needs : Block → List Act
keep_needs block = flat_map inequality_needs block.keeps

abbrev all_pending : Function → Block → List Act
all_pending function block = flat_map (pending_needs function.allocas) block.pending

abbrev behind_pending : Function → Block → List Act
behind_pending function block = left_needs block.left ++ flat_map (zone_needs function.allocas) block.foot

phi_at : (phis : List Phi) (r : ℕ) → HasPhi phis r → (n : ℕ) × (phi : Phi) × (slice_get phis n ≡ Some phi) × (phi.register.0 ≡ r)
phi_at [] r h = absurd h
phi_at (phi ∷ phis) r (inl e) = (0, phi, refl, e)
phi_at (phi ∷ phis) r (inr h) = let k = phi_at phis r h in (suc k.0, k.1, k.2, k.3)

phi_defines : (function : Function) (b r : ℕ) (block : Block) → slice_get function.blocks b ≡ Some block → HasPhi block.phis r → PhiDefines function b r
phi_defines function b r block at h = let k = phi_at block.phis r h in record { block = block; number = k.0; phi = k.1; at_block = at; at_phi = k.2; defines = k.3 }

step_defines : (function : Function) (b j r : ℕ) (block : Block) (s : Step) → slice_get function.blocks b ≡ Some block → slice_get block.steps j ≡ Some s → dest_of s.instruction ≡ Some r → StepDefines function b j r
step_defines function b j r block s at there dest = record { block = block; step = s; at_block = at; at_step = there; defines = dest }

-- the block that a leg leaves defines it
pub record DefinedAt (function : Function) (legs : List Leg) (r : ℕ) : Type 0 where
  pub from : ℕ
  pub block : Block
  pub left : Leaves legs from
  pub at_block : slice_get function.blocks from ≡ Some block
  pub defined : Contains (defined_before function from block (length block.steps)) r

defined_on : (function : Function) (legs : List Leg) (b r : ℕ) → IsPath (graph_of function).blocks 0 legs b → Contains (defined_along (map given_of (register_table function)) legs) r → DefinedAt function legs r
defined_on function [] b r path c = absurd (none_within r c)
defined_on function (leg ∷ legs) b r path c = elim (Contains-append_cases (defined_along (map given_of (register_table function)) legs) (numbers_at (map given_of (register_table function)) leg.from) r c) [
  | inl h ↦ let k = defined_on function legs leg.from r path.2 h in record { from = k.from; block = k.block; left = inr k.left; at_block = k.at_block; defined = k.defined }
  | inr h ↦ here (slice_get function.blocks leg.from) refl h
]
  where
    here : (o : Option Block) → slice_get function.blocks leg.from ≡ o → Contains (numbers_at (map given_of (register_table function)) leg.from) r → DefinedAt function (leg ∷ legs) r
    here None is h = absurd (no_edges function leg.from leg.edge is path.0)
    here (Some block) is h = record { from = leg.from; block = block; left = inl refl; at_block = is; defined = subst (λ xs. Contains xs r) (left_given function leg.from block is) h }

module _ (prog : Program) (named : IsNamed prog) (graph : IsGraphRight prog) (right : AreRegionsRight prog) (rule : AreUsesDefined prog) (f b : ℕ) (function : Function) (block : Block) (is : IsBlock prog f b function block) where
  once : DefinesOnce function
  once = named.once f function is.at_function

  -- 212
  on_path : (c : ℕ) (x : Block) → slice_get function.blocks c ≡ Some x → IsOnPath (graph_of function).blocks c
  on_path c x at = (All-contains IsFunctionRight prog.functions function graph (at_within prog.functions f function is.at_function) c x at).1.1

  visit : (c : ℕ) (x : Block) → slice_get function.blocks c ≡ Some x → FirstVisit (graph_of function).blocks c
  visit c x at = let p = on_path c x at in first_visit (graph_of function).blocks c p.0 p.1

  need : (c : ℕ) (x : Block) → slice_get function.blocks c ≡ Some x → (before : List ℕ) (d line : ℕ) → Found (register_acts function c x) before (Needs d line) → (legs : List Leg) → IsPath (graph_of function).blocks 0 legs c → Contains (defined_along (map given_of (register_table function)) legs ++ before) d
  need c x at before d line found legs path = need_defined function c x at (rule f function is.at_function) before d line found legs path

  -- a register that a step or a phi of the block alone defines is defined on a way only by leaving the block
  module _ (d : ℕ) (above : length function.parameters ≤ d) (only_steps : (c j : ℕ) → StepDefines function c j d → c ≡ b) (only_phis : (c : ℕ) → PhiDefines function c d → c ≡ b) where
    leaves_block : (legs : List Leg) (c : ℕ) → IsPath (graph_of function).blocks 0 legs c → Contains (defined_along (map given_of (register_table function)) legs) d → Leaves legs b
    leaves_block legs c path h =
        let k = defined_on function legs c d path h in
        subst (λ n. Leaves legs n) (by k (defining function k.from k.block (length k.block.steps) d k.defined)) k.left
      where
        by : (k : DefinedAt function legs d) → Defining function k.from k.block (length k.block.steps) d → k.from ≡ b
        by k (is_parameter e less) = absurd (omega (arith, less, above))
        by k (is_phi has) = only_phis k.from (phi_defines function k.from d k.block k.at_block has)
        by k (is_step c2) = let s = defining_step k.block.steps (length k.block.steps) d c2 in only_steps k.from s.0 (step_defines function k.from s.0 d k.block s.1 k.at_block s.3 s.4)

    -- so the zones of the child that the block is in do not name it
    off_foot : ((body : BlockId) (child : Block) → slice_get function.blocks body.0 ≡ Some child → HasPhi child.phis d → (detach : ℕ) → Along (edges_of (graph_of function).blocks detach) way.Detached body.0 → ⊥) → IsOffFoot function b d
    off_foot no_phi detach outer region body continuation child task ends at names =
        let v = visit body.0 child at in
        let found = note_found function body.0 child (Needs d names.0) (Contains-append_right (flat_map inequality_needs child.keeps) (flat_map (pending_needs function.allocas) child.pending ++ (left_needs child.left ++ flat_map (zone_needs function.allocas) child.foot)) (Needs d names.0)
        (Contains-append_right (flat_map (pending_needs function.allocas) child.pending) (left_needs child.left ++ flat_map (zone_needs function.allocas) child.foot) (Needs d names.0)
        (Contains-append_right (left_needs child.left) (flat_map (zone_needs function.allocas) child.foot) (Needs d names.0) names.1))) in
        elim (Contains-append_cases (defined_along (map given_of (register_table function)) v.0) (defined_before function body.0 child 0) d (need body.0 child at (defined_before function body.0 child 0) d names.0 found v.0 v.1)) [
          | inl h ↦
              let left = leaves_block v.0 body.0 v.1 h in
              let part = part_to (graph_of function).blocks b body.0 body.0 v.0 v.1 left v.2 in
              let one : task_on part.0 ≡ detach ∷ outer = one_task prog right f b function block is part.0 task.0 part.1 task.1 ∙ task.2 in
              elim (passes_body function detach outer region body continuation ends b part.0 part.1 one) [
                | inl e ↦ v.2 (subst (λ n. Leaves v.0 n) e left)
                | inr k ↦ part.2 k
              ]
          | inr h ↦ at_start (defining function body.0 child 0 d h)
        ]
      where
        at_start : Defining function body.0 child 0 d → ⊥
        at_start (is_parameter e less) = omega (arith, less, above)
        at_start (is_phi has) =
            let x = ending_there function.blocks detach (terminator.Detach region body continuation) ends in
            let along = leads_along function.blocks detach (terminator.Detach region body continuation) way.Detached body.0 child at refl in
            let read = block_edges function detach x.0 x.1 x.2 x.3 in
            no_phi body child at has detach (rw (read, x.4) along)
        at_start (is_step c) = let s = defining_step child.steps 0 d c in omega (arith, s.2)

  module _ (i d : ℕ) (mine : StepDefines function b i d) where
    above : length function.parameters ≤ d
    above = once.steps_above b i d mine

    only_step : (c j : ℕ) → StepDefines function c j d → c ≡ b
    only_step c j other = (once.steps c b j i d other mine).0

    only_phi : (c : ℕ) → PhiDefines function c d → c ≡ b
    only_phi c other = absurd (once.apart b c i d mine other)

    -- nothing that stands before the step in its block names its register
    not_before : (j line : ℕ) → j ≤ i → Found (register_acts function b block) (defined_before function b block j) (Needs d line) → ⊥
    not_before j line less found =
        let v = visit b block is.at_block in
        elim (Contains-append_cases (defined_along (map given_of (register_table function)) v.0) (defined_before function b block j) d (need b block is.at_block (defined_before function b block j) d line found v.0 v.1)) [
          | inl h ↦ v.2 (leaves_block d above only_step only_phi v.0 b v.1 h)
          | inr h ↦ by (defining function b block j d h)
        ]
      where
        by : Defining function b block j d → ⊥
        by (is_parameter e low) = omega (arith, low, above)
        by (is_phi has) = once.apart b b i d mine (phi_defines function b d block is.at_block has)
        by (is_step c) =
            let s = defining_step block.steps j d c in
            let one = (once.steps b b s.0 i d (step_defines function b s.0 d block s.1 is.at_block s.3 s.4) mine).1 in
            omega (arith, one, less, s.2)

    not_noted : (line : ℕ) → Contains (note_needs function.allocas block) (Needs d line) → ⊥
    not_noted line c = not_before 0 line (omega arith) (note_found function b block (Needs d line) c)

    steady : IsSteady function b block i d
    steady = record {
      parameter = above;
      keeps = λ n. not_noted n.0 (Contains-append_left (keep_needs block) (all_pending function block ++ behind_pending function block) (Needs d n.0) n.1);
      pending = λ n. not_noted n.0 (Contains-append_right (keep_needs block) (all_pending function block ++ behind_pending function block) (Needs d n.0) (Contains-append_left (all_pending function block) (behind_pending function block) (Needs d n.0) n.1));
      left = λ n. not_noted n.0 (Contains-append_right (keep_needs block) (all_pending function block ++ behind_pending function block) (Needs d n.0) (Contains-append_right (all_pending function block) (behind_pending function block) (Needs d n.0) (Contains-append_left (left_needs block.left) (flat_map (zone_needs function.allocas) block.foot) (Needs d n.0) n.1)));
      shows = λ j s less at n. not_before j n.0 less (step_found function b block j s (Needs d n.0) at (Contains-append_left (flat_map inequality_needs s.shows) (instruction_needs function.allocas s.line s.instruction) (Needs d n.0) n.1));
      uses = λ j s less at n. not_before j n.0 less (step_found function b block j s (Needs d n.0) at (Contains-append_right (flat_map inequality_needs s.shows) (instruction_needs function.allocas s.line s.instruction) (Needs d n.0) n.1));
      earlier = λ j s less at dest. let one = (once.steps b b j i d (step_defines function b j d block s is.at_block at dest) mine).1 in omega (arith, one, less);
      foot = off_foot d above only_step only_phi (λ body child at has detach along. once.apart b body.0 i d mine (phi_defines function body.0 d child at has));
    }

  steady_phi : (d : ℕ) → PhiDefines function b d → IsSteadyPhi function b d
  steady_phi d mine = record {
    parameter = once.phis_above b d mine;
    foot = off_foot d (once.phis_above b d mine) (λ c j other. absurd (once.apart c b j d other mine)) (λ c other. once.phis c b d other mine) refused;
  }
    where
      refused : (body : BlockId) (child : Block) → slice_get function.blocks body.0 ≡ Some child → HasPhi child.phis d → (detach : ℕ) → Along (edges_of (graph_of function).blocks detach) way.Detached body.0 → ⊥
      refused body child at has detach along = by child.phis refl has
        where
          by : (phis : List Phi) → child.phis ≡ phis → HasPhi phis d → ⊥
          by [] e h = h
          by (phi ∷ phis) e h = phi_refused prog right f body.0 function child phi phis (record { at_function = is.at_function; at_block = at }) e detach way.Detached (inl refl) along

pub stable_by_rules : StableByRules
stable_by_rules prog named graph right rule = record {
  steps = λ f b i d function block is mine. steady prog named graph right rule f b function block is i d mine;
  phis = λ f b d function block is mine. steady_phi prog named graph right rule f b function block is d mine;
}
