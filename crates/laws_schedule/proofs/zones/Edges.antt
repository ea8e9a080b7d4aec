-- Behind an edge: the registers of its target, and that what is pending goes on.
use Rattle.std.proofs.Common.{◌≡◌, ◌≢◌, ◌∙◌, ℕ, suc, ℤ, List, [], ◌∷◌, ◌++◌, length, map, Option, Some, None, true, false, refl, sym, ap, subst, slice_get}
use Rattle.std.specs.List.{All, Contains}
use Rattle.std.proofs.lemmas.List.Elements.{All-nil, All-cons, All-append}
use Rattle.linear.specs.declared.form.RegisterId.{RegisterId}
use Rattle.linear.specs.declared.form.Fact.{Fact}
use Rattle.linear.specs.Forms.{Holds}
use Rattle.linear_shown.specs.Shown.{AllHold}
use Rattle.semantics.specs.Frames.{Word, Registers, Frame, Ends, and_then, item_at, block_phis, phis_at, cell_of, set_register, object_at}
use Rattle.semantics.specs.Cells.{Cell}
use Rattle.semantics.specs.Effect.{phi_value, with_phis, registers_along}
use Rattle.program.specs.declared.identifier.ObjectName.{ObjectName}
use Rattle.program.specs.declared.identifier.ObjectName.TheVariants.{Global, Alloca, Parameter}
use Rattle.program.specs.declared.function.Block.{Block}
use Rattle.program.specs.declared.function.Function.{Function}
use Rattle.program.specs.declared.function.Program.{Program}
use Rattle.program.specs.declared.instruction.Case.{Case}
use Rattle.program.specs.declared.instruction.Ending.{Ending}
use Rattle.program.specs.declared.instruction.Operand.{Operand}
use Rattle.program.specs.declared.instruction.Phi.{Phi}
use Rattle.program.specs.declared.instruction.Step.{Step}
use Rattle.program.specs.declared.instruction.Terminator.{Terminator}
use Rattle.program.specs.declared.instruction.Terminator.TheVariants as terminator
use Rattle.types.specs.Apart.{parameters_at}
use Rattle.laws_phases.specs.cfg.declared.structure.Move.{Move}
use Rattle.laws_phases.specs.cfg.declared.structure.Way.TheVariants as way
use Rattle.laws_phases.specs.cfg.Edges.{case_successor, moves_from}
use Rattle.laws_phases.specs.ranges.declared.edge.EdgeSums.{EdgeSums}
use Rattle.laws_phases.specs.ranges.declared.table.EdgeFacts.{EdgeFacts}
use Rattle.laws_phases.specs.ranges.Edges.{compared, branch_sums, edges_out, edge_along, edge_to, edge_facts}
use Rattle.laws_phases.specs.ranges_owed.Inequalities.{operand_for}
use Rattle.laws_phases.specs.ranges.Places.{facts_at_end, edges_known}
use Rattle.laws_phases.specs.ranges.Sums.{facts_of}
use Rattle.laws_phases.specs.ranges.Truth.{operand_value}
use Rattle.laws_phases.proofs.ranges.Truth.{facts_true}
use Rattle.laws_conditions.specs.rules.Costs.{numbers}
use Rattle.laws_conditions.specs.rules.Moves.{JumpsTo, SyncsTo}
use Rattle.laws_phases.specs.defined.Names.{PhiDefines}
use Rattle.laws_phases.specs.facts.Known.{KnownHold}
use Rattle.laws_phases.proofs.cfg.Searching.{Contains_map}
use Rattle.laws_phases.proofs.facts.Places.{EndAt}
use Rattle.laws_phases.proofs.facts.Edges.{IsTaken, moves_made}
use Rattle.laws_schedule.proofs.pointers.Kept.{Agrees}
use Rattle.laws_phases.specs.zones.Uses.{StandsIn, IsUsed}
use Rattle.laws_phases.specs.zones.Edges.{GoesAlong}
use Rattle.laws_phases.proofs.zones.Places.{ending_here}
use Rattle.laws_phases.proofs.defined.Values.{set_other}
use Rattle.laws_schedule.specs.zones.ByPhases.{IsJudged}
use Rattle.laws_schedule.proofs.zones.Elements.{known_holds}
use Rattle.laws_phases.specs.region_match.declared.tables.Regions.{Regions}

-- ---- ways

ways_of_cases : (steps : List Step) (a : Operand) (cases : List Case) → All (λ (e : EdgeSums). e.way ≡ way.Branch) (map (edge_along steps) (map (case_successor a) cases))
ways_of_cases steps a [] = All-nil (λ (e : EdgeSums). e.way ≡ way.Branch)
ways_of_cases steps a (c ∷ cases) = All-cons (λ (e : EdgeSums). e.way ≡ way.Branch) (edge_along steps (case_successor a c)) (map (edge_along steps) (map (case_successor a) cases)) refl (ways_of_cases steps a cases)

one_way : (P : EdgeSums → Type 0) (e : EdgeSums) → P e → All P (e ∷ [])
one_way P e h = All-cons P e [] h (All-nil P)

-- the edges of a jump, branch or switch
pub branch_ways : (steps : List Step) (t : Terminator) (b : ℕ) → JumpsTo t b → All (λ (e : EdgeSums). e.way ≡ way.Branch) (edges_out steps t)
branch_ways steps (terminator.Jump x) b to = one_way (λ (e : EdgeSums). e.way ≡ way.Branch) (edge_to x way.Branch []) refl
branch_ways steps (terminator.Branch test x y) b to =
    All-cons (λ (e : EdgeSums). e.way ≡ way.Branch) (edge_to x way.Branch (branch_sums (compared test steps) true)) (edge_to y way.Branch (branch_sums (compared test steps) false) ∷ []) refl
    (one_way (λ (e : EdgeSums). e.way ≡ way.Branch) (edge_to y way.Branch (branch_sums (compared test steps) false)) refl)
branch_ways steps (terminator.Switch w a default cases) b to =
    All-cons (λ (e : EdgeSums). e.way ≡ way.Branch) (edge_to default way.Branch []) (map (edge_along steps) (map (case_successor a) cases)) refl (ways_of_cases steps a cases)
branch_ways steps (terminator.Return v) b to = absurd to
branch_ways steps (terminator.Detach r x y) b to = absurd to
branch_ways steps (terminator.Reattach r x) b to = absurd to
branch_ways steps (terminator.Sync r x) b to = absurd to

-- and of a sync
abbrev pub IsSyncWay : ℕ → EdgeSums → Type 0
IsSyncWay region e = (r : RegisterId) × (e.way ≡ way.Synced r) × (r.0 ≡ region)

pub sync_ways : (steps : List Step) (t : Terminator) (region b : ℕ) → SyncsTo t region b → All (IsSyncWay region) (edges_out steps t)
sync_ways steps (terminator.Jump x) region b to = absurd to
sync_ways steps (terminator.Branch test x y) region b to = absurd to
sync_ways steps (terminator.Switch w a default cases) region b to = absurd to
sync_ways steps (terminator.Return v) region b to = absurd to
sync_ways steps (terminator.Detach r x y) region b to = absurd to
sync_ways steps (terminator.Reattach r x) region b to = absurd to
sync_ways steps (terminator.Sync r x) region b to = one_way (IsSyncWay region) (edge_to x (way.Synced r) []) (r, refl, to.0)

-- ---- registers of phis

phis_outside : (given : Registers) (from : ℕ) (phis : List Phi) (r s : Registers) → with_phis given from phis r ≡ Some s → (x : ℕ) → ((i : ℕ) (phi : Phi) → slice_get phis i ≡ Some phi → phi.register.0 ≢ x) → s x ≡ r x
phis_outside given from [] r s e x apart = let same : r ≡ s = cc in sym (ap (λ (u : Registers). u x) same)
phis_outside given from (phi ∷ phis) r s e x apart =
    by_value (phi_value given from phi) e (λ z k. phis_outside given from phis (set_register r phi.register (Word z)) s k x (λ i other at. apart (suc i) other at))
  where
    by_value : (o : Option ℤ) → and_then o (λ z. with_phis given from phis (set_register r phi.register (Word z))) ≡ Some s →
        ((z : ℤ) → with_phis given from phis (set_register r phi.register (Word z)) ≡ Some s → s x ≡ set_register r phi.register (Word z) x) → s x ≡ r x
    by_value None k rest = absurd (cc)
    by_value (Some z) k rest = rest z k ∙ set_other r phi.register (Word z) x (apart 0 phi refl)

-- registers that no phi of the target defines stay along the edge
pub along_outside : (prog : Program) (f : Frame) (target : ℕ) (s : Registers) (function : Function) (k : Block) → slice_get prog.functions f.function ≡ Some function → slice_get function.blocks target ≡ Some k →
    registers_along prog f target ≡ Some s → (x : ℕ) → (PhiDefines function target x → ⊥) → s x ≡ f.registers x
along_outside prog f target s function k at there is x apart =
    let phis : phis_at prog f.function target ≡ k.phis = ap (λ o. block_phis (and_then o (λ (g : Function). slice_get g.blocks target))) at ∙ ap block_phis there in
    phis_outside f.registers f.block k.phis f.registers s (subst (λ ps. with_phis f.registers f.block ps f.registers ≡ Some s) phis is) x
    (λ i phi at2 e. apart (record { block = k; number = i; phi = phi; at_block = there; at_phi = at2; defines = e }))

-- ---- the edge that is taken

-- an edge of the frame's block to a target, that is taken with what is known on it
pub record Taken (prog : Program) (f : Frame) (function : Function) (block : Block) (ending : Ending) (target : ℕ) : Type 0 where
  pub edge : EdgeSums
  pub among : Contains (edges_out block.steps ending.terminator) edge
  pub to : edge.to.0 ≡ target
  pub hold : AllHold (numbers f.registers) (facts_at_end prog.functions function f.block block ++ facts_of edge.sums)

module _ (prog : Program) (f : Frame) (function : Function) (block : Block) (stands : StandsIn prog f function block) (t : Terminator) (at : item_at prog f.function f.block f.index ≡ Some (Ends t)) where
  pub ending_of : (end : Ending) × (block.ending ≡ Some end) × (f.index ≡ length block.steps) × (end.terminator ≡ t)
  ending_of = ending_here prog f function block stands t at

  abbrev pub end_place : EndAt prog f.function f.block f.index t
  end_place =
      let e = ending_of in
      record { of = record { function = function; block = block; at_function = stands.at_function; at_block = stands.at_block }; ending = e.0; at_ending = e.1; index_is = e.2; is = e.3 }

  pub takes_among : (edge : EdgeSums) → Contains (edges_out block.steps t) edge → Contains (edges_out block.steps ending_of.0.terminator) edge
  takes_among edge among = subst (λ (x : Terminator). Contains (edges_out block.steps x) edge) (sym ending_of.3) among

  pub takes_hold : KnownHold prog f → (edge : EdgeSums) → AllHold (numbers f.registers) (facts_of edge.sums) → AllHold (numbers f.registers) (facts_at_end prog.functions function f.block block ++ facts_of edge.sums)
  takes_hold known edge sums =
      All-append (λ (g : Fact). Holds (numbers f.registers) g.form) (facts_at_end prog.functions function f.block block) (facts_of edge.sums)
      ((known_holds prog f function block stands known).at_end ending_of.2) sums

  abbrev pub takes : KnownHold prog f → (edge : EdgeSums) (target : ℕ) → Contains (edges_out block.steps t) edge → edge.to.0 ≡ target → AllHold (numbers f.registers) (facts_of edge.sums) → Taken prog f function block ending_of.0 target
  takes known edge target among to sums = record { edge = edge; among = takes_among edge among; to = to; hold = takes_hold known edge sums }

  abbrev pub takes_way : KnownHold prog f → (target : ℕ) → (w : IsTaken block.steps t (numbers f.registers) target) → Taken prog f function block ending_of.0 target
  takes_way known target w = takes known w.edge target w.among w.to (facts_true w.edge.sums (numbers f.registers) w.sums)

-- ---- going along it

-- what a name stands for, where the parameters are the same
pub names_stay : (prog : Program) (regions : Regions) (judged : IsJudged prog regions) (f g : Frame) → g.home ≡ f.home → Agrees (parameters_at prog.functions f.function) f.registers g.registers →
    (name : ObjectName) → IsUsed prog.functions f.function name → object_at g name ≡ object_at f name
names_stay prog regions judged f g home agrees (Global x) u = refl
names_stay prog regions judged f g home agrees (Alloca a) u = ap (λ h. object_at (record f { home = h }) (Alloca a)) home
names_stay prog regions judged f g home agrees (Parameter r) u = ap (λ v. and_then (cell_of v) (λ (c : Cell). Some c.object)) (agrees r.0 (judged.names.own f.function r u))

-- the moves of an edge to a block
pub moves_there : (function : Function) (from target : ℕ) (k : Block) (e : EdgeSums) → e.to.0 ≡ target → slice_get function.blocks target ≡ Some k → moves_from from (block_phis (slice_get function.blocks e.to.0)) ≡ moves_from from k.phis
moves_there function from target k e to there = ap (λ n. moves_from from (block_phis (slice_get function.blocks n))) to ∙ ap (λ o. moves_from from (block_phis o)) there

-- the edge as the rules have it
module _ (prog : Program) (f : Frame) (function : Function) (block : Block) (ending : Ending) (target : ℕ) (taken : Taken prog f function block ending target) where
  abbrev pub edge : EdgeFacts
  edge = edge_facts function.blocks f.block (facts_at_end prog.functions function f.block block) taken.edge

  pub edge_known : Contains (edges_known prog.functions function f.block block (Some ending)) edge
  edge_known = Contains_map (edge_facts function.blocks f.block (facts_at_end prog.functions function f.block block)) (edges_out block.steps ending.terminator) taken.edge taken.among

  -- along an edge with phis
  pub goes_along : (regions : Regions) (judged : IsJudged prog regions) (g : Frame) (k : Block) → slice_get prog.functions f.function ≡ Some function → slice_get function.blocks target ≡ Some k →
      registers_along prog f target ≡ Some g.registers → g.home ≡ f.home → Agrees (parameters_at prog.functions f.function) f.registers g.registers → GoesAlong prog f g edge.moves
  goes_along regions judged g k at there is home agrees = record {
    numbers_are = λ x.
        moves_made prog f target g.registers function k at there (judged.stable.apart f.function target) is x
        ∙ ap (λ (moves : List Move). operand_value (numbers f.registers) (operand_for moves x)) (sym (moves_there function f.block target k taken.edge taken.to there));
    objects = names_stay prog regions judged f g home agrees;
  }

  -- along one without phis
  pub goes_straight : (regions : Regions) (judged : IsJudged prog regions) (g : Frame) (k : Block) → slice_get function.blocks target ≡ Some k → k.phis ≡ [] → g.registers ≡ f.registers → g.home ≡ f.home → GoesAlong prog f g edge.moves
  goes_straight regions judged g k there none same home =
      let no_moves : edge.moves ≡ [] = moves_there function f.block target k taken.edge taken.to there ∙ ap (λ ps. moves_from f.block ps) none in
      record {
        numbers_are = λ x. ap (λ (r : Registers). numbers r x.0) same ∙ ap (λ (moves : List Move). operand_value (numbers f.registers) (operand_for moves x)) (sym no_moves);
        objects = names_stay prog regions judged f g home (λ x l. ap (λ (r : Registers). r x) same);
      }
