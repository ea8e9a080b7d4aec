-- What a terminator needs, and what the phis behind it take, is defined on each path to it.
use Rattle.std.proofs.Common.{◌≡◌, ℕ, suc, ◌+◌, List, [], ◌∷◌, length, Some, Bool, true, false, cond, eqb, ◌||◌, eq-eqb, inl, inr, refl, sym, ap, ◌∙◌, subst, arith, slice_get, is_some}
use Rattle.std.specs.Prelude.{◌==◌, if◌then◌else◌, count_by}
use Rattle.std.specs.List.{Contains, flat_map}
use Rattle.std.proofs.lemmas.Bool.{or_right}
use Rattle.std.proofs.lemmas.List.Elements.{Contains-append_right, All-contains}
use Rattle.std.proofs.lemmas.List.Sums.{sum_by-cons}
use Rattle.semantics.specs.Frames.{Ends, item_at}
use Rattle.program.specs.Phis.{entry_for}
use Rattle.linear.specs.declared.form.RegisterId.{RegisterId}
use Rattle.program.specs.declared.function.Block.{Block}
use Rattle.program.specs.declared.function.Function.{Function}
use Rattle.program.specs.declared.function.Program.{Program}
use Rattle.program.specs.declared.instruction.Ending.{Ending}
use Rattle.program.specs.declared.instruction.Operand.{Operand}
use Rattle.program.specs.declared.instruction.Operand.TheVariants as operand
use Rattle.program.specs.declared.instruction.Phi.{Phi}
use Rattle.program.specs.declared.instruction.PhiEntry.{PhiEntry}
use Rattle.program.specs.declared.instruction.Terminator.{Terminator}
use Rattle.laws_phases.specs.cfg.declared.structure.Edge.{Edge}
use Rattle.laws_phases.specs.cfg.declared.structure.Way.{Way}
use Rattle.laws_phases.specs.cfg.Edges.{graph_of}
use Rattle.laws_phases.specs.cfg.Paths.{edges_of}
use Rattle.laws_phases.specs.cfg.Rules.{leads_to, IsMatched, IsFunctionRight, IsGraphRight}
use Rattle.laws_phases.specs.definedness.declared.act.Act.TheVariants.{Needs}
use Rattle.laws_phases.specs.definedness.RegisterActs.{register_acts, inequality_needs, terminator_needs, ending_needs, entry_needs, phi_needs, value_needs}
use Rattle.laws_phases.specs.defined.Defined.{AreUsesDefined, IsAlways, defined_before}
use Rattle.laws_phases.specs.defined.Leads.{IsBlock, LeadsTo}
use Rattle.laws_phases.proofs.defined.Defined.{need_defined, end_found, value_found, Found}
use Rattle.laws_phases.proofs.defined.Items.{stands, end_there, Along, edge_behind}
use Rattle.laws_phases.proofs.defined.Lists.{none_within, first_within, later_within, within_cases, at_within, flat_within}

-- ---- entries of phis

-- an entry for this predecessor, with its value
pub record Entry (entries : List PhiEntry) (from : ℕ) (value : Operand) : Type 0 where
  pub entry : PhiEntry
  pub within : Contains entries entry
  pub is_from : eqb entry.predecessor.0 from ≡ true
  pub value_is : entry.value ≡ value

pub entry_of : (entries : List PhiEntry) (from : ℕ) (value : Operand) → entry_for from entries ≡ Some value → Entry entries from value
entry_of [] from value e = absurd (cc)
entry_of (x ∷ entries) from value e = by (eqb x.predecessor.0 from) refl e (λ h. entry_of entries from value h)
  where
    by : (b : Bool) → eqb x.predecessor.0 from ≡ b → cond b (Some x.value) (entry_for from entries) ≡ Some value → (entry_for from entries ≡ Some value → Entry entries from value) → Entry (x ∷ entries) from value
    by true is h rest = record { entry = x; within = first_within x entries; is_from = is; value_is = cc }
    by false is h rest = let r = rest h in record { entry = r.entry; within = later_within x r.entry entries r.within; is_from = r.is_from; value_is = r.value_is }

-- where one is counted, one is found
counted : (entries : List PhiEntry) (from n : ℕ) → count_by (λ (e : PhiEntry). e.predecessor.0 == from) entries ≡ suc n → is_some (entry_for from entries) ≡ true
counted [] from n e = absurd (cc)
counted (x ∷ entries) from n e = by (eqb x.predecessor.0 from) (sym (sum_by-cons (λ (y : PhiEntry). cond (y.predecessor.0 == from) 1 0) x entries) ∙ e) (λ h. counted entries from n h)
  where
    by : (b : Bool) → cond b 1 0 + count_by (λ (y : PhiEntry). y.predecessor.0 == from) entries ≡ suc n → (count_by (λ (y : PhiEntry). y.predecessor.0 == from) entries ≡ suc n → is_some (entry_for from entries) ≡ true) →
        is_some (cond b (Some x.value) (entry_for from entries)) ≡ true
    by true h rest = refl
    by false h rest = rest (omega (arith, h))

leads : (edges : List Edge) (e : Edge) (to : ℕ) → Contains edges e → e.to.0 ≡ to → leads_to to edges ≡ true
leads [] e to c is = absurd (none_within e c)
leads (x ∷ edges) e to c is = elim (within_cases x e edges c) [
  | inl same ↦ here (ap (λ (y : Edge). y.to.0) same ∙ is)
  | inr k ↦ or_right (x.to.0 == to) (leads_to to edges) (leads edges e to k is)
]
  where
    here : x.to.0 ≡ to → (x.to.0 == to || leads_to to edges) ≡ true
    here e = rw (eq-eqb x.to.0 to e) refl

-- each phi has an entry for the block that an edge comes from
pub entry_there : (prog : Program) → IsGraphRight prog → (f b to i : ℕ) (function : Function) (target : Block) (w : Way) (phi : Phi) → slice_get prog.functions f ≡ Some function → slice_get function.blocks to ≡ Some target → Along (edges_of (graph_of function).blocks b) w to →
    slice_get target.phis i ≡ Some phi → is_some (entry_for b phi.entries) ≡ true
entry_there prog graph f b to i function target w phi at there edge at_phi =
    let right = All-contains IsFunctionRight prog.functions function graph (at_within prog.functions f function at) to target there in
    let matched = All-contains (λ (x : Phi). IsMatched (graph_of function).blocks to x.entries) target.phis phi right.0 (at_within target.phis i phi at_phi) in
    let yes : leads_to to (edges_of (graph_of function).blocks b) ≡ true = leads (edges_of (graph_of function).blocks b) edge.edge to edge.within edge.target in
    counted phi.entries b 0 (matched b ∙ ap (λ t. if t then 1 else 0) yes)

-- ---- what is needed at the end of a block

always_at : (prog : Program) → AreUsesDefined prog → (f b i : ℕ) (function : Function) (block : Block) → IsBlock prog f b function block → i ≡ length block.steps → (n line : ℕ) →
    Found (register_acts function b block) (defined_before function b block (length block.steps)) (Needs n line) → IsAlways prog f b i n
always_at prog rule f b i function block is last n line found = record {
  function = function;
  block = block;
  is = is;
  always = rw last (need_defined function b block is.at_block (rule f function is.at_function) (defined_before function b block (length block.steps)) n line found);
}

module _ (prog : Program) (rule : AreUsesDefined prog) (f b i : ℕ) (t : Terminator) (at : item_at prog f b i ≡ Some (Ends t)) where
  -- the terminator there
  pub record EndAt : Type 0 where
    pub function : Function
    pub block : Block
    pub ending : Ending
    pub is : IsBlock prog f b function block
    pub has : block.ending ≡ Some ending
    pub ends : ending.terminator ≡ t
    pub last : i ≡ length block.steps

  pub end_at : EndAt
  end_at =
      let s = stands prog f b i (Ends t) at in
      let e = end_there s.block.steps s.block.ending i t s.item in
      record { function = s.function; block = s.block; ending = e.0; is = s.is; has = e.1; ends = e.2; last = e.3 }

  always : (n line : ℕ) → Found (register_acts end_at.function b end_at.block) (defined_before end_at.function b end_at.block (length end_at.block.steps)) (Needs n line) → IsAlways prog f b i n
  always n line found = always_at prog rule f b i end_at.function end_at.block end_at.is end_at.last n line found

  -- what the terminator uses
  pub end_defined : (n : ℕ) → ((line : ℕ) → Contains (terminator_needs line t) (Needs n line)) → IsAlways prog f b i n
  end_defined n needed =
      let own : Contains (terminator_needs end_at.ending.line end_at.ending.terminator) (Needs n end_at.ending.line) =
      subst (λ (x : Terminator). Contains (terminator_needs end_at.ending.line x) (Needs n end_at.ending.line)) (sym end_at.ends) (needed end_at.ending.line) in
      let all : Contains (ending_needs end_at.block.ending) (Needs n end_at.ending.line) =
      rw end_at.has (Contains-append_right (flat_map inequality_needs end_at.ending.shows) (terminator_needs end_at.ending.line end_at.ending.terminator) (Needs n end_at.ending.line) own) in
      always n end_at.ending.line (end_found end_at.function b end_at.block (Needs n end_at.ending.line) all)

  -- and what a phi of another block takes from here
  pub value_defined : (to k : ℕ) (target : Block) (phi : Phi) (x : RegisterId) → slice_get end_at.function.blocks to ≡ Some target → slice_get target.phis k ≡ Some phi → entry_for b phi.entries ≡ Some (operand.Register x) → IsAlways prog f b i x.0
  value_defined to k target phi x there at_phi takes =
      let e = entry_of phi.entries b (operand.Register x) takes in
      let entry : Contains (entry_needs b phi.line e.entry) (Needs x.0 phi.line) = rw (e.is_from, e.value_is) (first_within (Needs x.0 phi.line) []) in
      let one : Contains (phi_needs b phi) (Needs x.0 phi.line) = flat_within (entry_needs b phi.line) phi.entries e.entry (Needs x.0 phi.line) e.within entry in
      let block : Contains (value_needs b target) (Needs x.0 phi.line) = flat_within (phi_needs b) target.phis phi (Needs x.0 phi.line) (at_within target.phis k phi at_phi) one in
      let all : Contains (flat_map (value_needs b) end_at.function.blocks) (Needs x.0 phi.line) = flat_within (value_needs b) end_at.function.blocks target (Needs x.0 phi.line) (at_within end_at.function.blocks to target there) block in
      always x.0 phi.line (value_found end_at.function b end_at.block (Needs x.0 phi.line) all)

  -- the edge that the terminator leads along
  pub edge_at : (w : Way) (to : ℕ) (target : Block) → slice_get end_at.function.blocks to ≡ Some target → LeadsTo t w to → Along (edges_of (graph_of end_at.function).blocks b) w to
  edge_at w to target there h = edge_behind prog f b to end_at.function end_at.block target end_at.ending w end_at.is end_at.has there (subst (λ (x : Terminator). LeadsTo x w to) (sym end_at.ends) h)
