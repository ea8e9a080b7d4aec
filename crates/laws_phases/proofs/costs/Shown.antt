-- Where no rule on cost is broken, facts show the rules as the bridge asks for them.
use Rattle.std.proofs.Common.{◌≡◌, ◌∙◌, ◌⊎◌, ℕ, suc, ◌+◌, ◌<◌, ◌≤◌, pos, Bool, true, List, [], ◌++◌, length, get_or, map, Option, Some, None, is_some, inl, inr, refl, sym, ap, subst, arith, slice_get}
use Rattle.std.specs.List.{All, Any, Contains}
use Rattle.std.proofs.lemmas.Bool.{false≢true, true_from_ne_false}
use Rattle.std.proofs.lemmas.List.Elements.{All-nil, All-map, Contains-get_or, Contains-append_left, Contains-append_right}
use Rattle.semantics.specs.Frames.{Does, Ends, and_then, block_at, item_at, phis_at}
use Rattle.linear.specs.declared.form.Fact.{Fact}
use Rattle.linear.specs.declared.form.Term.{Term}
use Rattle.linear.specs.declared.form.RegisterId.{RegisterId}
use Rattle.linear.specs.Forms.{minus, put}
use Rattle.linear.specs.Terms.{Combination, constant_form}
use Rattle.linear_shown.specs.Shown.{IsShown}
use Rattle.program.specs.declared.function.Block.{Block}
use Rattle.program.specs.declared.function.Function.{Function}
use Rattle.program.specs.declared.function.Program.{Program}
use Rattle.program.specs.declared.identifier.BlockId.{BlockId}
use Rattle.program.specs.declared.identifier.FunctionId.{FunctionId}
use Rattle.program.specs.declared.instruction.Argument.{Argument}
use Rattle.program.specs.declared.instruction.Ending.{Ending}
use Rattle.program.specs.declared.instruction.Instruction.{Instruction}
use Rattle.program.specs.declared.instruction.Instruction.TheVariants as instruction
use Rattle.program.specs.declared.instruction.Terminator.{Terminator}
use Rattle.program.specs.declared.instruction.Terminator.TheVariants as terminator
use Rattle.refusal.specs.declared.broken.Broken.{Broken}
use Rattle.cfg.specs.Edges.{moves_from}
use Rattle.ranges.specs.declared.edge.EdgeSums.{EdgeSums}
use Rattle.ranges.specs.declared.table.EdgeFacts.{EdgeFacts}
use Rattle.ranges.specs.Sums.{facts_of, shows}
use Rattle.ranges.specs.ranges_owed.Inequalities.{argument_moves}
use Rattle.ranges.specs.Edges.{edges_out, edge_facts, all_edge_facts}
use Rattle.program.specs.Blocks.{block_phis}
use Rattle.program.specs.Left.{left_calls, left_instructions}
use Rattle.ranges.specs.Places.{stated, start_facts, facts_at_step, facts_at_end, edges_known}
use Rattle.laws_conditions.specs.rules.Moves.{dest_of, EndsFrame}
use Rattle.laws_conditions.specs.rules.Costs.{parameters_of, measure_in, measure_of, bound_in, bound_of, self_calls_in, self_calls_of, instructions_in, instructions_of, calls_left, instructions_left, instructions_for, self_calls_for, spent_by, spent_in, Lacks}
use Rattle.program.specs.Heads.{parameters_in}
use Rattle.laws_conditions.specs.rules.Edges.{edge_forms, argument_forms}
use Rattle.laws_conditions.specs.rules.ShownCosts.{calls_spent_at, instructions_spent_at, IsAtLeast, EdgeShown, ForkShown, EndShown, CostsShown}
use Rattle.definedness.specs.RegisterActs.{form_needs, register_needs}
use Rattle.definedness.specs.declared.act.Act.{Act}
use Rattle.definedness.specs.declared.act.Act.TheVariants.{Needs}
use Rattle.laws_phases.specs.defined.Leads.{IsBlock}
use Rattle.laws_phases.specs.defined.Stable.{Names}
use Rattle.laws_phases.proofs.defined.Items.{block_is}
use Rattle.laws_phases.proofs.defined.Lists.{first_within, flat_within}
use Rattle.laws_phases.specs.facts.Known.{shows_at, known_at_place}
use Rattle.laws_phases.specs.facts.Handed.{out_of, outs_of, outs_along, outs_at}
use Rattle.laws_phases.proofs.facts.Places.{BlockOf, StepAt, EndAt, step_at, end_at, known_is, known_end, Any_of}
use Rattle.cfg.proofs.Searching.{Contains_map}
use Rattle.laws_phases.proofs.facts.Handed.{outs_are, facts_tabled}
use Rattle.cost_table.specs.Cost.{calls_done, instructions_done, instructions_of as instructions_by}
use Rattle.cost_table.specs.Rules.{left_behind, less_form, number_less, IsPairBroken, IsEdgeUncovered, IsForkUncovered, IsEndUncovered, IsUncoveredAt, IsEndingUncovered, IsCallNotFalling, IsNotFalling, IsEntryBroken, IsBlockBroken}
use Rattle.cost_table.specs.Rules.{AreCostsRight}
use Rattle.laws_phases.specs.costs.Shown.{IsReadable, CostsAreShown}
use Rattle.laws_phases.proofs.costs.Sums.{shown_more, floor_shown, end_shown, moved_shown, fork_shown, ceiling_shown}
use Rattle.laws_phases.proofs.costs.Moves.{HaveEntries, phis_moved, arguments_moved}
use Rattle.laws_phases.proofs.costs.Spent.{instructions_spent_are, calls_spent_are}
use Rattle.laws_phases.proofs.costs.Entries.{have_entries}

both_hold : (number line : ℕ) (a b : Bool) → ((x : Broken) → IsPairBroken number line a b x → ⊥) → (a ≡ true) × (b ≡ true)
both_hold number line a b never =
    let broken : Broken = record { line = line; number = number } in
    (true_from_ne_false a (λ e. never broken (refl, refl, inl e)), true_from_ne_false b (λ e. never broken (refl, refl, inr e)))

nothing_shown : (facts : List Fact) → IsShown facts (constant_form (pos 0))
nothing_shown facts =
    let zero_side : Combination = constant_form (pos 0) in
    record {
      f = zero_side;
      g = zero_side;
      a = 1;
      b = 1;
      f_is = first_within zero_side (map (λ (f : Fact). f.form) facts);
      g_is = first_within zero_side (map (λ (f : Fact). f.form) facts);
      a_is = inl refl;
      b_is = inl refl;
      sum = record { terms = λ r. refl; constant = omega arith };
    }

no_difference : (facts : List Fact) → IsShown facts (minus (constant_form (pos 0)) (constant_form (pos 0)))
no_difference facts = nothing_shown facts

some_there : {X : Type 0} (o : Option X) → is_some o ≡ true → (x : X) × (o ≡ Some x)
some_there None h = absurd (false≢true h)
some_there (Some x) h = (x, refl)

one_more : (a b : ℕ) → a ≡ b → suc a ≡ 1 + b
one_more a b same = omega (arith, same)

-- ---- blocks

as_block : (prog : Program) (f b : ℕ) (o : BlockOf prog f b) → IsBlock prog f b o.function o.block
as_block prog f b o = record { at_function = o.at_function; at_block = o.at_block }

-- a block of the program, or none
block_or_none : (prog : Program) (f b : ℕ) → BlockOf prog f b ⊎ (block_at prog f b ≡ None)
block_or_none prog f b = from (slice_get prog.functions f) refl
  where
    in_function : (function : Function) → slice_get prog.functions f ≡ Some function → (o : Option Block) → slice_get function.blocks b ≡ o → BlockOf prog f b ⊎ (block_at prog f b ≡ None)
    in_function function is None at = inr (ap (λ x. and_then x (λ (g : Function). slice_get g.blocks b)) is ∙ at)
    in_function function is (Some block) at = inl (record { function = function; block = block; at_function = is; at_block = at })

    from : (o : Option Function) → slice_get prog.functions f ≡ o → BlockOf prog f b ⊎ (block_at prog f b ≡ None)
    from None is = inr (ap (λ x. and_then x (λ (g : Function). slice_get g.blocks b)) is)
    from (Some function) is = in_function function is (slice_get function.blocks b) refl

module _ (prog : Program) (f b : ℕ) (o : BlockOf prog f b) where
  calls_are : calls_left prog f b ≡ o.block.left.self_calls
  calls_are = ap left_calls (block_is prog f b o.function o.block (as_block prog f b o))

  instructions_are : instructions_left prog f b ≡ o.block.left.instructions
  instructions_are = ap left_instructions (block_is prog f b o.function o.block (as_block prog f b o))

  calls_spent_is : (index : ℕ) → index ≡ length o.block.steps → calls_spent_at prog f b index ≡ calls_done f o.block
  calls_spent_is index last =
      ap (λ x. spent_in (self_calls_for f) x index) (block_is prog f b o.function o.block (as_block prog f b o)) ∙ ap (λ n. spent_by (self_calls_for f) o.block.steps n) last ∙ calls_spent_are f o.block.steps

  instructions_spent_is : (index : ℕ) → index ≡ length o.block.steps → suc (instructions_spent_at prog f b index) ≡ instructions_done prog.functions f o.block
  instructions_spent_is index last =
      let all = ap (λ x. spent_in (instructions_for prog f) x index) (block_is prog f b o.function o.block (as_block prog f b o)) ∙ ap (λ n. spent_by (instructions_for prog f) o.block.steps n) last
      ∙ instructions_spent_are prog f o.block.steps in
      one_more (instructions_spent_at prog f b index) (instructions_by prog.functions f o.block.steps) all

  -- another block of the function
  beside : (to : ℕ) → block_at prog f to ≡ slice_get o.function.blocks to
  beside to = ap (λ x. and_then x (λ (g : Function). slice_get g.blocks to)) o.at_function

  calls_beside : (to : ℕ) → calls_left prog f to ≡ left_calls (slice_get o.function.blocks to)
  calls_beside to = ap left_calls (beside to)

  instructions_beside : (to : ℕ) → instructions_left prog f to ≡ left_instructions (slice_get o.function.blocks to)
  instructions_beside to = ap left_instructions (beside to)

  phis_beside : (to : ℕ) → phis_at prog f to ≡ block_phis (slice_get o.function.blocks to)
  phis_beside to = ap block_phis (beside to)

  -- what is known at the start is not less than what the rules look at
  known_more : (e : Combination) → IsShown (start_facts o.function b o.block) e → IsShown (known_at_place prog f b 0) e
  known_more e h = subst (λ facts. IsShown facts e) (sym (known_is prog f b o 0)) (shown_more (start_facts o.function b o.block) (stated (shows_at o.block.steps o.block.ending 0)) e h)

-- a form that names no register of this number
form_lacks : (line d : ℕ) (form : Combination) → (Names (form_needs line form) d → ⊥) → Lacks form d
form_lacks line d form never = λ k t l same.
    let term : Term = get_or form.terms k t in
    let need : Act = Needs term.register.0 line in
    let there : Contains (form_needs line form) need = flat_within (λ (x : Term). register_needs line x.register) form.terms term need (Contains-get_or form.terms k t l) (first_within need []) in
    never (line, subst (λ n. Contains (form_needs line form) (Needs n line)) same there)

module _ (prog : Program) (right : AreCostsRight prog) (given : IsReadable prog) where
  block_right : (f b : ℕ) (o : BlockOf prog f b) (x : Broken) → IsBlockBroken prog.functions o.function f b o.block x → ⊥
  block_right f b o x h = right x (f, o.function, o.at_function, inl (b, o.block, o.at_block, h))

  -- ---- at a block's start

  starts : (f b : ℕ) (o : BlockOf prog f b) → IsShown (known_at_place prog f b 0) o.block.left.self_calls × IsShown (known_at_place prog f b 0) o.block.left.instructions
  starts f b o =
      let known : List Fact = start_facts o.function b o.block in
      let hold = both_hold 701 o.block.left.line (shows known (left_behind o.block.left.self_calls 0)) (shows known (left_behind o.block.left.instructions 0)) (λ x h. block_right f b o x (inl h)) in
      (known_more prog f b o o.block.left.self_calls (floor_shown known o.block.left.self_calls hold.0), known_more prog f b o o.block.left.instructions (floor_shown known o.block.left.instructions hold.1))

  start_calls : (f b : ℕ) → IsShown (known_at_place prog f b 0) (calls_left prog f b)
  start_calls f b = elim (block_or_none prog f b) [
    | inl o ↦ subst (λ e. IsShown (known_at_place prog f b 0) e) (sym (calls_are prog f b o)) (starts f b o).0
    | inr none ↦ subst (λ e. IsShown (known_at_place prog f b 0) e) (sym (ap left_calls none)) (nothing_shown (known_at_place prog f b 0))
  ]

  start_instructions : (f b : ℕ) → IsShown (known_at_place prog f b 0) (instructions_left prog f b)
  start_instructions f b = elim (block_or_none prog f b) [
    | inl o ↦ subst (λ e. IsShown (known_at_place prog f b 0) e) (sym (instructions_are prog f b o)) (starts f b o).1
    | inr none ↦ subst (λ e. IsShown (known_at_place prog f b 0) e) (sym (ap left_instructions none)) (nothing_shown (known_at_place prog f b 0))
  ]

  -- ---- at the entry

  entry_of : (f : ℕ) (function : Function) → slice_get prog.functions f ≡ Some function → (block : Block) × (slice_get function.blocks 0 ≡ Some block)
  entry_of f function at = some_there (slice_get function.blocks 0) (given.measured.entry f function at)

  module _ (f : ℕ) (function : Function) (at : slice_get prog.functions f ≡ Some function) (block : Block) (first : slice_get function.blocks 0 ≡ Some block) where
    entry_right : (x : Broken) → IsEntryBroken function (Some block) x → ⊥
    entry_right x h = right x (f, function, at, inr (inl (subst (λ e. IsEntryBroken function e x) (sym first) h)))

    bounded : (shows (start_facts function 0 block) (left_behind function.measure.form 0) ≡ true) × (shows (start_facts function 0 block) (number_less function.measure.bound function.measure.form) ≡ true)
    bounded = both_hold 703 function.measure.line _ _ (λ x h. entry_right x (inl h))

    covered : (shows (start_facts function 0 block) (number_less function.budget.self_calls block.left.self_calls) ≡ true) × (shows (start_facts function 0 block) (number_less function.budget.instructions block.left.instructions) ≡ true)
    covered = both_hold 704 function.budget.line _ _ (λ x h. entry_right x (inr h))

    low_here : IsShown (known_at_place prog f 0 0) (measure_of prog f)
    low_here = subst (λ e. IsShown (known_at_place prog f 0 0) e) (sym (ap measure_in at)) (known_more prog f 0 (record { function = function; block = block; at_function = at; at_block = first }) function.measure.form (floor_shown (start_facts function 0 block) function.measure.form bounded.0))

    high_here : IsShown (known_at_place prog f 0 0) (minus (constant_form (pos (bound_of prog f))) (measure_of prog f))
    high_here =
        subst (λ (o : Option Function). IsShown (known_at_place prog f 0 0) (minus (constant_form (pos (bound_in o))) (measure_in o))) (sym at)
        (known_more prog f 0 (record { function = function; block = block; at_function = at; at_block = first }) (minus (constant_form (pos function.measure.bound)) function.measure.form)
        (ceiling_shown (start_facts function 0 block) function.measure.bound function.measure.form bounded.1))

    calls_here : IsShown (known_at_place prog f 0 0) (minus (constant_form (pos (self_calls_of prog f))) (calls_left prog f 0))
    calls_here =
        let o : BlockOf prog f 0 = record { function = function; block = block; at_function = at; at_block = first } in
        subst (λ e. IsShown (known_at_place prog f 0 0) (minus (constant_form (pos (self_calls_of prog f))) e)) (sym (calls_are prog f 0 o))
        (subst (λ (g : Option Function). IsShown (known_at_place prog f 0 0) (minus (constant_form (pos (self_calls_in g))) block.left.self_calls)) (sym at)
        (known_more prog f 0 o (minus (constant_form (pos function.budget.self_calls)) block.left.self_calls) (ceiling_shown (start_facts function 0 block) function.budget.self_calls block.left.self_calls covered.0)))

    instructions_here : IsShown (known_at_place prog f 0 0) (minus (constant_form (pos (instructions_of prog f))) (instructions_left prog f 0))
    instructions_here =
        let o : BlockOf prog f 0 = record { function = function; block = block; at_function = at; at_block = first } in
        subst (λ e. IsShown (known_at_place prog f 0 0) (minus (constant_form (pos (instructions_of prog f))) e)) (sym (instructions_are prog f 0 o))
        (subst (λ (g : Option Function). IsShown (known_at_place prog f 0 0) (minus (constant_form (pos (instructions_in g))) block.left.instructions)) (sym at)
        (known_more prog f 0 o (minus (constant_form (pos function.budget.instructions)) block.left.instructions) (ceiling_shown (start_facts function 0 block) function.budget.instructions block.left.instructions covered.1)))

  -- where there is no function, nothing is left and the measure is 0
  no_block : (f : ℕ) → slice_get prog.functions f ≡ None → block_at prog f 0 ≡ None
  no_block f none = ap (λ x. and_then x (λ (g : Function). slice_get g.blocks 0)) none

  measure_low : (f : ℕ) → IsShown (known_at_place prog f 0 0) (measure_of prog f)
  measure_low f = from (slice_get prog.functions f) refl
    where
      from : (o : Option Function) → slice_get prog.functions f ≡ o → IsShown (known_at_place prog f 0 0) (measure_of prog f)
      from None none = subst (λ (o : Option Function). IsShown (known_at_place prog f 0 0) (measure_in o)) (sym none) (nothing_shown (known_at_place prog f 0 0))
      from (Some function) at = let e = entry_of f function at in low_here f function at e.0 e.1

  measure_high : (f : ℕ) → IsShown (known_at_place prog f 0 0) (minus (constant_form (pos (bound_of prog f))) (measure_of prog f))
  measure_high f = from (slice_get prog.functions f) refl
    where
      from : (o : Option Function) → slice_get prog.functions f ≡ o → IsShown (known_at_place prog f 0 0) (minus (constant_form (pos (bound_of prog f))) (measure_of prog f))
      from None none = subst (λ (o : Option Function). IsShown (known_at_place prog f 0 0) (minus (constant_form (pos (bound_in o))) (measure_in o))) (sym none) (no_difference (known_at_place prog f 0 0))
      from (Some function) at = let e = entry_of f function at in high_here f function at e.0 e.1

  budget_calls : (f : ℕ) → IsShown (known_at_place prog f 0 0) (minus (constant_form (pos (self_calls_of prog f))) (calls_left prog f 0))
  budget_calls f = from (slice_get prog.functions f) refl
    where
      from : (o : Option Function) → slice_get prog.functions f ≡ o → IsShown (known_at_place prog f 0 0) (minus (constant_form (pos (self_calls_of prog f))) (calls_left prog f 0))
      from None none =
          subst (λ (x : Option Block). IsShown (known_at_place prog f 0 0) (minus (constant_form (pos (self_calls_of prog f))) (left_calls x))) (sym (no_block f none))
          (subst (λ (o : Option Function). IsShown (known_at_place prog f 0 0) (minus (constant_form (pos (self_calls_in o))) (constant_form (pos 0)))) (sym none) (no_difference (known_at_place prog f 0 0)))
      from (Some function) at = let e = entry_of f function at in calls_here f function at e.0 e.1

  budget_instructions : (f : ℕ) → IsShown (known_at_place prog f 0 0) (minus (constant_form (pos (instructions_of prog f))) (instructions_left prog f 0))
  budget_instructions f = from (slice_get prog.functions f) refl
    where
      from : (o : Option Function) → slice_get prog.functions f ≡ o → IsShown (known_at_place prog f 0 0) (minus (constant_form (pos (instructions_of prog f))) (instructions_left prog f 0))
      from None none =
          subst (λ (x : Option Block). IsShown (known_at_place prog f 0 0) (minus (constant_form (pos (instructions_of prog f))) (left_instructions x))) (sym (no_block f none))
          (subst (λ (o : Option Function). IsShown (known_at_place prog f 0 0) (minus (constant_form (pos (instructions_in o))) (constant_form (pos 0)))) (sym none) (no_difference (known_at_place prog f 0 0)))
      from (Some function) at = let e = entry_of f function at in instructions_here f function at e.0 e.1

  -- ---- at a terminator

  module _ (f b index : ℕ) (t : Terminator) (place : EndAt prog f b index t) where
    end_right : (x : Broken) →
        IsUncoveredAt prog.functions place.of.function f place.of.block place.ending.line (facts_at_end prog.functions place.of.function b place.of.block)
        (all_edge_facts place.of.function.blocks b (facts_at_end prog.functions place.of.function b place.of.block) (edges_out place.of.block.steps t)) t x → ⊥
    end_right x h =
        let function : Function = place.of.function in
        let block : Block = place.of.block in
        let known : List Fact = facts_at_end prog.functions function b block in
        let at_ending : IsEndingUncovered prog.functions function f block known (edges_known prog.functions function b block (Some place.ending)) (Some place.ending) x =
        subst (λ (u : Terminator). IsUncoveredAt prog.functions function f block place.ending.line known (all_edge_facts function.blocks b known (edges_out block.steps u)) u x) (sym place.is) h in
        block_right f b place.of x (inr (inl (subst (λ (z : Option Ending). IsEndingUncovered prog.functions function f block known (edges_known prog.functions function b block z) z x) (sym place.at_ending) at_ending)))

    known_here : known_at_place prog f b index ≡ facts_at_end prog.functions place.of.function b place.of.block
    known_here = ap (known_at_place prog f b) place.index_is ∙ known_end prog f b place.of

    entries_beside : (e : EdgeSums) → Contains (edges_out place.of.block.steps t) e → HaveEntries b (phis_at prog f e.to.0)
    entries_beside e within = from (slice_get place.of.function.blocks e.to.0) refl
      where
        from : (o : Option Block) → slice_get place.of.function.blocks e.to.0 ≡ o → HaveEntries b (phis_at prog f e.to.0)
        from None none = subst (HaveEntries b) (sym (phis_beside prog f b place.of e.to.0 ∙ ap block_phis none)) (All-nil _)
        from (Some target) there =
            subst (HaveEntries b) (sym (phis_beside prog f b place.of e.to.0 ∙ ap block_phis there))
            (have_entries prog given.graph f b place.of.function place.of.block target place.ending e (as_block prog f b place.of) place.at_ending (subst (λ (u : Terminator). Contains (edges_out place.of.block.steps u) e) (sym place.is) within) there)

    -- an edge that is covered
    edge_shown : (e : EdgeSums) → Contains (edges_out place.of.block.steps t) e →
        ((x : Broken) → IsEdgeUncovered prog.functions place.of.function f place.of.block place.ending.line (edge_facts place.of.function.blocks b (facts_at_end prog.functions place.of.function b place.of.block) e) x → ⊥) →
        EdgeShown prog f b index (out_of (known_at_place prog f b (length place.of.block.steps)) e)
    edge_shown e within never =
        let o : BlockOf prog f b = place.of in
        let to : ℕ = e.to.0 in
        let hold = both_hold 702 place.ending.line _ _ never in
        let known = known_end prog f b o in
        let phis = phis_beside prog f b o to in
        let calls = calls_are prog f b o in
        let instructions = instructions_are prog f b o in
        let calls_done_is = calls_spent_is prog f b o index place.index_is in
        let instructions_done_is = instructions_spent_is prog f b o index place.index_is in
        let calls_to = calls_beside prog f b o to in
        let instructions_to = instructions_beside prog f b o to in
        let facts : List Fact = known_at_place prog f b (length o.block.steps) ++ facts_of e.sums in
        let moves = moves_from b (phis_at prog f to) in
        record {
          calls = moved_shown facts (calls_left prog f b) (calls_left prog f to) (calls_spent_at prog f b index) moves (edge_forms prog f b to)
              (λ v k d l. phis_moved v b (phis_at prog f to) (given.stable.apart f to) (entries_beside e within) _)
              ((λ i. shows (known i ++ facts_of e.sums) (less_form (left_behind (calls i) (calls_done_is i)) (moves_from b (phis i)) (calls_to i))) ∙ hold.0);
          instructions = moved_shown facts (instructions_left prog f b) (instructions_left prog f to) (suc (instructions_spent_at prog f b index)) moves (edge_forms prog f b to)
              (λ v k d l. phis_moved v b (phis_at prog f to) (given.stable.apart f to) (entries_beside e within) _)
              ((λ i. shows (known i ++ facts_of e.sums) (less_form (left_behind (instructions i) (instructions_done_is i)) (moves_from b (phis i)) (instructions_to i))) ∙ hold.1);
        }

    -- all edges of a terminator that goes on
    edges_shown : ((x : Broken) →
        Any (λ e. IsEdgeUncovered prog.functions place.of.function f place.of.block place.ending.line e x) (all_edge_facts place.of.function.blocks b (facts_at_end prog.functions place.of.function b place.of.block) (edges_out place.of.block.steps t)) → ⊥) →
        All (EdgeShown prog f b index) (outs_of (known_at_place prog f b (length place.of.block.steps)) (edges_out place.of.block.steps t))
    edges_shown never =
        let edges : List EdgeSums = edges_out place.of.block.steps t in
        let known : List Fact = facts_at_end prog.functions place.of.function b place.of.block in
        let made = edge_facts place.of.function.blocks b known in
        All-map (EdgeShown prog f b index) (out_of (known_at_place prog f b (length place.of.block.steps))) edges
        (λ k d l.
        let e : EdgeSums = get_or edges k d in
        let within : Contains edges e = Contains-get_or edges k d l in
        edge_shown e within
        (λ x h. never x (Any_of (λ (y : EdgeFacts). IsEdgeUncovered prog.functions place.of.function f place.of.block place.ending.line y x) (map made edges) (made e) (Contains_map made edges e within) h)))

    fork_here : (body continuation : ℕ) →
        ((x : Broken) → IsForkUncovered prog.functions place.of.function f place.of.block place.ending.line (facts_at_end prog.functions place.of.function b place.of.block) body continuation x → ⊥) →
        ForkShown prog (known_at_place prog f b index) f b index body continuation
    fork_here body continuation never =
        let o : BlockOf prog f b = place.of in
        let hold = both_hold 702 place.ending.line _ _ never in
        let known = known_here in
        let calls = calls_are prog f b o in
        let instructions = instructions_are prog f b o in
        let calls_done_is = calls_spent_is prog f b o index place.index_is in
        let instructions_done_is = instructions_spent_is prog f b o index place.index_is in
        let calls_body = calls_beside prog f b o body in
        let calls_next = calls_beside prog f b o continuation in
        let instructions_body = instructions_beside prog f b o body in
        let instructions_next = instructions_beside prog f b o continuation in
        record {
          calls = fork_shown (known_at_place prog f b index) (calls_left prog f b) (calls_left prog f body) (calls_left prog f continuation) (calls_spent_at prog f b index)
              ((λ i. shows (known i) (less_form (less_form (left_behind (calls i) (calls_done_is i)) [] (calls_body i)) [] (calls_next i))) ∙ hold.0);
          instructions = fork_shown (known_at_place prog f b index) (instructions_left prog f b) (instructions_left prog f body) (instructions_left prog f continuation) (suc (instructions_spent_at prog f b index))
              ((λ i. shows (known i) (less_form (less_form (left_behind (instructions i) (instructions_done_is i)) [] (instructions_body i)) [] (instructions_next i))) ∙ hold.1);
        }

    end_here : ((x : Broken) → IsEndUncovered prog.functions f place.of.block place.ending.line (facts_at_end prog.functions place.of.function b place.of.block) x → ⊥) → EndShown prog (known_at_place prog f b index) f b index
    end_here never =
        let o : BlockOf prog f b = place.of in
        let hold = both_hold 702 place.ending.line _ _ never in
        let known = known_here in
        let calls = calls_are prog f b o in
        let instructions = instructions_are prog f b o in
        let calls_done_is = calls_spent_is prog f b o index place.index_is in
        let instructions_done_is = instructions_spent_is prog f b o index place.index_is in
        record {
          calls = end_shown (known_at_place prog f b index) (calls_left prog f b) (calls_spent_at prog f b index) ((λ i. shows (known i) (left_behind (calls i) (calls_done_is i))) ∙ hold.0);
          instructions = end_shown (known_at_place prog f b index) (instructions_left prog f b) (suc (instructions_spent_at prog f b index)) ((λ i. shows (known i) (left_behind (instructions i) (instructions_done_is i))) ∙ hold.1);
        }

  edges_along : (f b index : ℕ) (t : Terminator) (place : EndAt prog f b index t) → All (EdgeShown prog f b index) (outs_along (known_at_place prog f b (length place.of.block.steps)) place.of.block.steps t)
  edges_along f b index (terminator.Jump target) place = edges_shown f b index (terminator.Jump target) place (end_right f b index (terminator.Jump target) place)
  edges_along f b index (terminator.Branch condition x y) place = edges_shown f b index (terminator.Branch condition x y) place (end_right f b index (terminator.Branch condition x y) place)
  edges_along f b index (terminator.Switch width value default cases) place = edges_shown f b index (terminator.Switch width value default cases) place (end_right f b index (terminator.Switch width value default cases) place)
  edges_along f b index (terminator.Return value) place = All-nil (EdgeShown prog f b index)
  edges_along f b index (terminator.Detach region body continuation) place = All-nil (EdgeShown prog f b index)
  edges_along f b index (terminator.Reattach region continuation) place = All-nil (EdgeShown prog f b index)
  edges_along f b index (terminator.Sync region target) place = edges_shown f b index (terminator.Sync region target) place (end_right f b index (terminator.Sync region target) place)

  edges : (f b index : ℕ) (t : Terminator) → item_at prog f b index ≡ Some (Ends t) → All (EdgeShown prog f b index) (outs_at prog f b)
  edges f b index t at =
      let place : EndAt prog f b index t = end_at prog f b index t at in
      subst (λ outs. All (EdgeShown prog f b index) outs) (sym (outs_are prog f b index t place)) (edges_along f b index t place)

  forks : (f b index : ℕ) (region : RegisterId) (body continuation : BlockId) → item_at prog f b index ≡ Some (Ends (terminator.Detach region body continuation)) → ForkShown prog (known_at_place prog f b index) f b index body.0 continuation.0
  forks f b index region body continuation at =
      let t : Terminator = terminator.Detach region body continuation in
      let place : EndAt prog f b index t = end_at prog f b index t at in
      fork_here f b index t place body.0 continuation.0 (end_right f b index t place)

  ends : (f b index : ℕ) (t : Terminator) → item_at prog f b index ≡ Some (Ends t) → EndsFrame t → EndShown prog (known_at_place prog f b index) f b index
  ends f b index (terminator.Jump target) at h = absurd h
  ends f b index (terminator.Branch condition x y) at h = absurd h
  ends f b index (terminator.Switch width value default cases) at h = absurd h
  ends f b index (terminator.Return value) at h = let place = end_at prog f b index (terminator.Return value) at in end_here f b index (terminator.Return value) place (end_right f b index (terminator.Return value) place)
  ends f b index (terminator.Detach region body continuation) at h = absurd h
  ends f b index (terminator.Reattach region continuation) at h =
      let place = end_at prog f b index (terminator.Reattach region continuation) at in end_here f b index (terminator.Reattach region continuation) place (end_right f b index (terminator.Reattach region continuation) place)
  ends f b index (terminator.Sync region target) at h = absurd h

  -- ---- at a step

  falls : (f b index : ℕ) (d : Option RegisterId) (g : FunctionId) (arguments : List Argument) → item_at prog f b index ≡ Some (Does (instruction.Call d g arguments)) → g.0 ≡ f → IsAtLeast (known_at_place prog f b index) (measure_of prog f) (put (argument_forms arguments) (measure_of prog f)) 1
  falls f b index d g arguments at own =
      let place : StepAt prog f b index (instruction.Call d g arguments) = step_at prog f b index (instruction.Call d g arguments) at in
      let o : BlockOf prog f b = place.of in
      let form : Combination = o.function.measure.form in
      let known : known_at_place prog f b index ≡ facts_at_step prog.functions o.function b o.block index = (facts_tabled prog f b o.function o.block o.at_function o.at_block).at_step index place.step place.at_step in
      let measure : measure_of prog f ≡ form = ap measure_in o.at_function in
      let never : (x : Broken) → IsNotFalling o.function place.step.line (facts_at_step prog.functions o.function b o.block index) arguments x → ⊥ =
      λ x h. block_right f b o x
      (inr (inr (index, place.step, place.at_step, subst (λ (i : Instruction). IsCallNotFalling o.function f place.step.line (facts_at_step prog.functions o.function b o.block index) i x) (sym place.is) (own, h)))) in
      let hold = both_hold 703 place.step.line _ _ never in
      let many : length arguments ≡ parameters_of prog g.0 = given.typed.arguments f b index d g arguments at in
      let few : length arguments ≡ length o.function.parameters = many ∙ ap (parameters_of prog) own ∙ ap parameters_in o.at_function in
      let named = given.measured.parameters f o.function o.at_function in
      subst (λ (m : Combination). IsAtLeast (known_at_place prog f b index) m (put (argument_forms arguments) m) 1) (sym measure)
      (moved_shown (known_at_place prog f b index) form form 1 (argument_moves 0 arguments) (argument_forms arguments)
      (λ v k t l.
      let r : RegisterId = (get_or form.terms k t).register in
      let below = named k t l in
      arguments_moved v arguments 0 r.0 r (omega arith) (omega (arith, below, few)))
      ((λ i. shows (known i) (less_form (left_behind form 1) (argument_moves 0 arguments) form)) ∙ hold.1))

  steady : (f b index : ℕ) (i : Instruction) (d : ℕ) → item_at prog f b index ≡ Some (Does i) → dest_of i ≡ Some d → (parameters_of prog f ≤ d) × Lacks (calls_left prog f b) d × Lacks (instructions_left prog f b) d
  steady f b index i d at dest =
      let place : StepAt prog f b index i = step_at prog f b index i at in
      let o : BlockOf prog f b = place.of in
      let still = given.leaves.steps f b index d o.function o.block (as_block prog f b o)
      (record { block = o.block; step = place.step; at_block = o.at_block; at_step = place.at_step; defines = ap dest_of place.is ∙ dest }) in
      let calls_needs : List Act = form_needs o.block.left.line o.block.left.self_calls in
      let instructions_needs : List Act = form_needs o.block.left.line o.block.left.instructions in
      let calls : Lacks o.block.left.self_calls d = form_lacks o.block.left.line d o.block.left.self_calls (λ n. still.left (n.0, Contains-append_left calls_needs instructions_needs (Needs d n.0) n.1)) in
      let instructions : Lacks o.block.left.instructions d = form_lacks o.block.left.line d o.block.left.instructions (λ n. still.left (n.0, Contains-append_right calls_needs instructions_needs (Needs d n.0) n.1)) in
      ((given.stable.steps f b index i d at dest).parameter, subst (λ e. Lacks e d) (sym (calls_are prog f b o)) calls, subst (λ e. Lacks e d) (sym (instructions_are prog f b o)) instructions)

  over_parameters : (f : ℕ) → All (λ t. t.register.0 < parameters_of prog f) (measure_of prog f).terms
  over_parameters f = from (slice_get prog.functions f) refl
    where
      from : (o : Option Function) → slice_get prog.functions f ≡ o → All (λ (t : Term). t.register.0 < parameters_of prog f) (measure_of prog f).terms
      from None none = subst (λ (o : Option Function). All (λ (t : Term). t.register.0 < parameters_in o) (measure_in o).terms) (sym none) (All-nil (λ (t : Term). t.register.0 < 0))
      from (Some function) at = subst (λ (o : Option Function). All (λ (t : Term). t.register.0 < parameters_in o) (measure_in o).terms) (sym at) (given.measured.parameters f function at)

  pub shown : CostsShown prog (known_at_place prog) (outs_at prog)
  shown = record {
    steady = steady;
    steady_phis = given.stable.phis;
    over_parameters = over_parameters;
    earlier = given.measured.upward;
    start_calls = start_calls;
    start_instructions = start_instructions;
    edges = edges;
    forks = forks;
    ends = ends;
    measure_low = measure_low;
    measure_high = measure_high;
    falls = falls;
    budget_calls = budget_calls;
    budget_instructions = budget_instructions;
  }

pub costs_are_shown : CostsAreShown
costs_are_shown prog right given = shown prog right given
