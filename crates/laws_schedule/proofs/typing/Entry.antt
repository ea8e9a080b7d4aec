-- What the graph's rules say of entry blocks and of the blocks behind a detach.
use Rattle.std.proofs.Common.{◌≡◌, ◌≢◌, ℕ, ◌+◌, ◌<◌, inl, inr, Bool, true, false, cond, ◌⊎◌, List, [], ◌∷◌, length, map, Some, refl, sym, ap, ◌∙◌, subst, arith, Ok}
use Rattle.std.specs.Prelude.{slice_get, count_by, ◌==◌, if◌then◌else◌}
use Rattle.std.specs.List.{All}
use Rattle.std.proofs.lemmas.Bool.{and_parts}
use Rattle.std.proofs.lemmas.Bool.Decides.{nat_tests}
use Rattle.std.proofs.lemmas.List.Elements.{All-contains, All-head, All-nil, All-cons, All-map, All-weaker}
use Rattle.std.proofs.lemmas.List.Folds.{list_any-from_Any}
use Rattle.std.proofs.lemmas.List.Sums.{sum_by-cons}
use Rattle.linear.specs.declared.form.RegisterId.{RegisterId}
use Rattle.semantics.specs.Frames.{Ends, block_phis, item_at, phis_at}
use Rattle.program.specs.declared.function.Block.{Block}
use Rattle.program.specs.declared.function.Function.{Function}
use Rattle.program.specs.declared.function.Program.{Program}
use Rattle.program.specs.declared.identifier.BlockId.{BlockId}
use Rattle.program.specs.declared.instruction.Case.{Case}
use Rattle.program.specs.declared.instruction.Ending.{Ending}
use Rattle.program.specs.declared.instruction.Operand.{Operand}
use Rattle.program.specs.declared.instruction.Phi.{Phi}
use Rattle.program.specs.declared.instruction.PhiEntry.{PhiEntry}
use Rattle.program.specs.declared.instruction.Step.{Step}
use Rattle.program.specs.declared.instruction.Terminator.{Terminator}
use Rattle.program.specs.declared.instruction.Terminator.TheVariants as terminator
use Rattle.syntax.specs.declared.instruction.Phi.{Phi as PhiText}
use Rattle.syntax.specs.declared.instruction.PhiEntry.{PhiEntry as PhiEntryText}
use Rattle.syntax.specs.declared.module.Block.{Block as BlockText}
use Rattle.syntax.specs.declared.module.Function.{Function as FunctionText}
use Rattle.syntax.specs.declared.module.Module.{Module}
use Rattle.ir_instruction.specs.Fits.{is_some_list}
use Rattle.ir_reader.specs.Kept.{IsBlockWritten, IsPhiWritten, IsKeptFunction, IsKeptModule}
use Rattle.laws_phases.specs.cfg.declared.structure.BlockEdges.{BlockEdges}
use Rattle.laws_phases.specs.cfg.declared.structure.Edge.{Edge}
use Rattle.laws_phases.specs.cfg.declared.structure.Way.{Way}
use Rattle.laws_phases.specs.cfg.declared.structure.Way.TheVariants as way
use Rattle.laws_phases.specs.cfg.declared.structure.Successor.{Successor}
use Rattle.laws_phases.specs.cfg.Edges.{case_successor, graph_of}
use Rattle.laws_phases.specs.cfg.Paths.{edges_of}
use Rattle.laws_phases.specs.cfg.Rules.{leads_to, HasPredecessor, IsMatched, IsBlockRight, IsFunctionRight, IsGraphRight}
use Rattle.laws_phases.specs.region_match.Matched.{AreRegionsRight}
use Rattle.laws_phases.specs.ranges.declared.edge.EdgeSums.{EdgeSums}
use Rattle.laws_phases.specs.ranges.Edges.{edges_out, edge_along, edge_to, compared, branch_sums}
use Rattle.types.specs.names.Layout.{layout_of}
use Rattle.types.specs.names.Scope.{Scope}
use Rattle.types.proofs.names.Inversion.{made_ok, both_ok}
use Rattle.types.specs.Instruction.{phi_of, entry_of}
use Rattle.types.specs.Meaning.{Means}
use Rattle.laws_phases.specs.defined.Leads.{LeadsTo, IsBlock}
use Rattle.laws_phases.proofs.defined.Items.{Along, stands, end_there, edge_behind, is_block, block_is}
use Rattle.laws_phases.proofs.defined.Lists.{at_within}
use Rattle.laws_phases.proofs.defined.Paths.{phi_refused}
use Rattle.laws_schedule.proofs.typing.Parts.{FunctionFrom, function_from, block_from, phi_from}
use Rattle.verifier.proofs.Lists.{all_count}
use Rattle.laws_schedule.proofs.typing.Ends.{targets}
use Rattle.laws_schedule.proofs.typing.Lists.{all_each}
use Rattle.laws_schedule.proofs.typing.Registers.{kept_function}

number_itself : (n : ℕ) → (n == n) ≡ true
number_itself n = grind (arith, nat_tests)

is_number : (a b : ℕ) → a ≡ b → (a == b) ≡ true
is_number a b e = grind (arith, nat_tests)

-- ---- where edges lead

abbrev LeadsOut : Terminator → EdgeSums → Type 0
LeadsOut t e = (w : Way) × LeadsTo t w e.to.0

cases_lead : (steps : List Step) (t : Terminator) (value : Operand) (cases : List Case) → ((i : ℕ) (c : Case) → slice_get cases i ≡ Some c → LeadsTo t way.Branch c.target.0) →
    All (LeadsOut t) (map (edge_along steps) (map (case_successor value) cases))
cases_lead steps t value cases each =
    All-map (LeadsOut t) (edge_along steps) (map (case_successor value) cases)
    (All-map (λ (x : Successor). LeadsOut t (edge_along steps x)) (case_successor value) cases (all_each (λ (c : Case). (w : Way) × LeadsTo t w c.target.0) cases (λ i c e. (way.Branch, each i c e))))

two_lead : (t : Terminator) (x y : EdgeSums) → LeadsOut t x → LeadsOut t y → All (LeadsOut t) (x ∷ y ∷ [])
two_lead t x y h k = All-cons (LeadsOut t) x (y ∷ []) h (All-cons (LeadsOut t) y [] k (All-nil (LeadsOut t)))

one_leads : (t : Terminator) (x : EdgeSums) → LeadsOut t x → All (LeadsOut t) (x ∷ [])
one_leads t x h = All-cons (LeadsOut t) x [] h (All-nil (LeadsOut t))

out_leads : (steps : List Step) (t : Terminator) → All (LeadsOut t) (edges_out steps t)
out_leads steps (terminator.Jump x) = one_leads (terminator.Jump x) (edge_to x way.Branch []) (way.Branch, refl)
out_leads steps (terminator.Branch c x y) =
    two_lead (terminator.Branch c x y) (edge_to x way.Branch (branch_sums (compared c steps) true)) (edge_to y way.Branch (branch_sums (compared c steps) false)) (way.Branch, inl refl) (way.Branch, inr refl)
out_leads steps (terminator.Switch w a x cases) =
    All-cons (LeadsOut (terminator.Switch w a x cases)) (edge_to x way.Branch []) (map (edge_along steps) (map (case_successor a) cases)) (way.Branch, inl refl)
    (cases_lead steps (terminator.Switch w a x cases) a cases (λ i c e. inr (c, at_within cases i c e, refl)))
out_leads steps (terminator.Return v) = All-nil (LeadsOut (terminator.Return v))
out_leads steps (terminator.Detach r x y) = two_lead (terminator.Detach r x y) (edge_to x way.Detached []) (edge_to y way.Continued []) (way.Detached, refl) (way.Continued, refl)
out_leads steps (terminator.Reattach r x) = All-nil (LeadsOut (terminator.Reattach r x))
out_leads steps (terminator.Sync r x) = one_leads (terminator.Sync r x) (edge_to x (way.Synced r) []) (way.Synced r, (refl, refl))

module _ (program : Program) (right : IsGraphRight program) where
  block_right : (f b : ℕ) (function : Function) (block : Block) → IsBlock program f b function block → IsBlockRight (graph_of function).blocks b block
  block_right f b function block is = All-contains IsFunctionRight program.functions function right (at_within program.functions f function is.at_function) b block is.at_block

  -- no edge leads to an entry block
  nowhere : (f b : ℕ) (function : Function) (target : Block) (w : Way) → IsBlock program f 0 function target → Along (edges_of (graph_of function).blocks b) w 0 → ⊥
  nowhere f b function target w is along =
      let test : Edge → Bool = λ e. e.to.0 == 0 in
      let P : Edge → Type 0 = λ e. test e ≡ true in
      let leads : leads_to 0 (edges_of (graph_of function).blocks b) ≡ true =
      list_any-from_Any test (edges_of (graph_of function).blocks b) (along.within.0, along.edge, along.within.1, along.within.2, is_number along.edge.to.0 0 along.target) in
      (block_right f 0 function target is).1.0 refl (b, leads)

  edge_leads : (f b to : ℕ) (function : Function) (block target : Block) (ending : Ending) (t : Terminator) (w : Way) → IsBlock program f b function block → block.ending ≡ Some ending → ending.terminator ≡ t → slice_get function.blocks to ≡ Some target → LeadsTo t w to →
      Along (edges_of (graph_of function).blocks b) w to
  edge_leads f b to function block target ending t w is ends same there leads =
      let P : Terminator → Type 0 = λ x. LeadsTo x w to in
      edge_behind program f b to function block target ending w is ends there (subst P (sym same) leads)

-- ---- phis of entry blocks

one_of : (b : Bool) → b ≡ true → cond {A = ℕ} b 1 0 ≡ 1
one_of true e = refl
one_of false e = absurd (cc)

first_counts : (a : ℕ) (e : PhiEntry) (entries : List PhiEntry) → (e.predecessor.0 == a) ≡ true → count_by (λ (x : PhiEntry). x.predecessor.0 == a) (e ∷ entries) ≡ 0 → ⊥
first_counts a e entries is h =
    let one : cond {A = ℕ} (e.predecessor.0 == a) 1 0 ≡ 1 = one_of (e.predecessor.0 == a) is in
    let whole : count_by (λ (x : PhiEntry). x.predecessor.0 == a) (e ∷ entries) ≡ cond {A = ℕ} (e.predecessor.0 == a) 1 0 + count_by (λ (x : PhiEntry). x.predecessor.0 == a) entries = sum_by-cons (λ (x : PhiEntry). cond (x.predecessor.0 == a) 1 0) e entries in
    absurd (omega arith)

-- where no edge leads to, a phi would have no entries
none_matched : (blocks : List BlockEdges) (e : PhiEntry) (entries : List PhiEntry) → (HasPredecessor blocks 0 → ⊥) → IsMatched blocks 0 (e ∷ entries) → ⊥
none_matched blocks e entries none matched = from (leads_to 0 (edges_of blocks e.predecessor.0)) refl (matched e.predecessor.0)
  where
    from : (b : Bool) → leads_to 0 (edges_of blocks e.predecessor.0) ≡ b → count_by (λ (x : PhiEntry). x.predecessor.0 == e.predecessor.0) (e ∷ entries) ≡ (if b then 1 else 0) → ⊥
    from true is h = none (e.predecessor.0, is)
    from false is h = first_counts e.predecessor.0 e entries (number_itself e.predecessor.0) h

some_entries : (entries : List PhiEntryText) → is_some_list entries ≡ true → 0 < length entries
some_entries [] h = absurd (cc)
some_entries (e ∷ entries) h = omega arith

-- a phi of the text has an entry
phi_written : (text : FunctionText) (kept : IsKeptFunction text) (b i : ℕ) (block : BlockText) (phi : PhiText) → slice_get text.blocks b ≡ Some block → slice_get block.phis i ≡ Some phi → 0 < length phi.entries
phi_written text kept b i block phi at_b at_i =
    let blocks = All-contains IsBlockWritten text.blocks block kept.written.blocks (at_within text.blocks b block at_b) in
    let one : IsPhiWritten phi = All-contains IsPhiWritten block.phis phi blocks.phis (at_within block.phis i phi at_i) in
    some_entries phi.entries (and_parts (0 == 0) (is_some_list phi.entries) one.fits).1

entries_count : (scope : Scope) (written : PhiText) (phi : Phi) → phi_of scope written ≡ Ok phi → length phi.entries ≡ length written.entries
entries_count scope written phi e =
    let made = made_ok _ _ phi e in
    let entries = (both_ok _ _ made.0 made.1).1 in
    let count : length made.0.1 ≡ length written.entries = all_count (λ _. entry_of scope written.line written.width) written.entries made.0.1 entries in
    ap (λ (x : Phi). length x.entries) (sym made.2) ∙ count

module _ (whole : Module) (kept : IsKeptModule whole) (program : Program) (m : Means whole (Ok program)) (right : IsGraphRight program) where
  pub entry : (f : ℕ) (function : Function) (block : Block) → IsBlock program f 0 function block → block.phis ≡ []
  entry f function block is = from block.phis refl
    where
      outer : FunctionFrom whole m.0 f function
      outer = function_from whole program m f function is.at_function

      none : (phi : Phi) (entries : List PhiEntry) → phi.entries ≡ entries → 0 < length entries → IsMatched (graph_of function).blocks 0 phi.entries → ⊥
      none phi [] same l matched = absurd (omega arith)
      none phi (e ∷ entries) same l matched =
          let P : List PhiEntry → Type 0 = λ k. IsMatched (graph_of function).blocks 0 k in
          none_matched (graph_of function).blocks e entries ((block_right program right f 0 function block is).1.0 refl) (subst P same matched)

      some : (phi : Phi) → slice_get block.phis 0 ≡ Some phi → 0 < length phi.entries
      some phi at =
          let of = block_from whole m.0 f 0 function block outer is.at_block in
          let found = phi_from whole m.0 f 0 function block outer of 0 phi at in
          let n : length phi.entries ≡ length found.0.entries = entries_count (layout_of outer.text).scope found.0 phi found.2 in
          let l : 0 < length found.0.entries = phi_written outer.text (kept_function whole kept f outer.text outer.at_text) 0 0 of.text found.0 of.at_text found.1 in
          omega arith

      from : (phis : List Phi) → block.phis ≡ phis → block.phis ≡ []
      from [] e = e
      from (phi ∷ phis) e =
          let P : List Phi → Type 0 = λ l. All (λ (x : Phi). IsMatched (graph_of function).blocks 0 x.entries) l in
          let matched : IsMatched (graph_of function).blocks 0 phi.entries = All-head (λ (x : Phi). IsMatched (graph_of function).blocks 0 x.entries) phi phis (subst P e (block_right program right f 0 function block is).0) in
          absurd (none phi phi.entries refl (some phi (ap (λ (l : List Phi). slice_get l 0) e)) matched)

module _ (whole : Module) (program : Program) (m : Means whole (Ok program)) where
  record TargetAt (f b to : ℕ) (w : Way) : Type 0 where
    pub function : Function
    pub target : Block
    pub is : IsBlock program f to function target
    pub along : Along (edges_of (graph_of function).blocks b) w to

  target_at : (right : IsGraphRight program) (f b i to : ℕ) (t : Terminator) (w : Way) → item_at program f b i ≡ Some (Ends t) → LeadsTo t w to → TargetAt f b to w
  target_at right f b i to t w e leads =
      let s = stands program f b i (Ends t) e in
      let last = end_there s.block.steps s.block.ending i t s.item in
      let target = is_block program f to s.function s.is.at_function (targets whole program m f b i to t w e leads) in
      record { function = s.function; target = target.0; is = target.1; along = edge_leads program right f b to s.function s.block target.0 last.0 t w s.is last.1 last.2 target.1.at_block leads }

  -- no edge leads to an entry block
  pub no_entry : IsGraphRight program → (f b i : ℕ) (t : Terminator) (steps : List Step) → item_at program f b i ≡ Some (Ends t) → All (λ (e : EdgeSums). e.to.0 ≢ 0) (edges_out steps t)
  no_entry right f b i t steps e =
      All-weaker (LeadsOut t) (λ (x : EdgeSums). x.to.0 ≢ 0)
      (λ x leads. λ same.
      let P : ℕ → Type 0 = λ n. LeadsTo t leads.0 n in
      let at = target_at right f b i 0 t leads.0 e (subst P same leads.1) in
      nowhere program right f b at.function at.target leads.0 at.is at.along)
      (edges_out steps t) (out_leads steps t)

  -- where a detach leads to, no phi stands
  no_phis : IsGraphRight program → AreRegionsRight program → (f b i to : ℕ) (t : Terminator) (w : Way) → (w ≡ way.Detached) ⊎ (w ≡ way.Continued) → item_at program f b i ≡ Some (Ends t) → LeadsTo t w to → phis_at program f to ≡ []
  no_phis right regions f b i to t w kind e leads =
      ap block_phis (block_is program f to at.function at.target at.is) ∙ from at.target.phis refl
    where
      at : TargetAt f b to w
      at = target_at right f b i to t w e leads

      from : (phis : List Phi) → at.target.phis ≡ phis → at.target.phis ≡ []
      from [] same = same
      from (phi ∷ phis) same = absurd (phi_refused program regions f to at.function at.target phi phis at.is same b w kind at.along)

  pub forks : IsGraphRight program → AreRegionsRight program → (f b i : ℕ) (region : RegisterId) (body continuation : BlockId) → item_at program f b i ≡ Some (Ends (terminator.Detach region body continuation)) → (phis_at program f body.0 ≡ []) × (phis_at program f continuation.0 ≡ [])
  forks right regions f b i region body continuation e = (
    no_phis right regions f b i body.0 (terminator.Detach region body continuation) way.Detached (inl refl) e refl,
    no_phis right regions f b i continuation.0 (terminator.Detach region body continuation) way.Continued (inr refl) e refl,
  )
