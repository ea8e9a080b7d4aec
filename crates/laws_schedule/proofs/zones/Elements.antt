-- What a frame knows of its place: facts, names, and where the elements of its block point.
use Rattle.std.proofs.Common.{◌≡◌, ◌∙◌, inl, inr, ℕ, suc, ◌<◌, ◌≤◌, ℤ, pos, negsuc, List, [], ◌++◌, Some, None, Bool, true, false, cond, ◌&&◌, refl, sym, ap, subst, arith, slice_get, int_le, int_lt, unsigned_abs}
use Rattle.std.specs.List.{Contains}
use Rattle.std.proofs.lemmas.Bool.{false≢true, cases_eq, cases_lt, eq-eqb}
use Rattle.std.proofs.lemmas.List.Elements.{Contains-append_left, Contains-append_right}
use Rattle.linear.specs.declared.form.RegisterId.{RegisterId}
use Rattle.linear_shown.specs.Shown.{AllHold}
use Rattle.semantics.specs.Paths.{Path}
use Rattle.semantics.specs.Cells.{Object, Cell, Memory}
use Rattle.semantics.specs.Arithmetic.{BadIndex}
use Rattle.semantics.specs.Frames.{Value, Pointer, Frame, Does, item_at, cells_of, cell_of, word_at, object_at, set_register}
use Rattle.semantics.specs.Effect.{Effect, Plain, given, sets, stops, points, instruction_action}
use Rattle.program.specs.declared.function.Alloca.{Alloca as AllocaOf}
use Rattle.program.specs.declared.function.Block.{Block}
use Rattle.program.specs.declared.function.Function.{Function}
use Rattle.program.specs.declared.function.Program.{Program}
use Rattle.program.specs.declared.identifier.ObjectName.{ObjectName}
use Rattle.program.specs.declared.identifier.ObjectName.TheVariants.{Global, Alloca, Parameter}
use Rattle.program.specs.declared.instruction.Address.{Address}
use Rattle.program.specs.declared.instruction.Address.TheVariants.{Element}
use Rattle.program.specs.declared.instruction.Instruction.{Instruction}
use Rattle.program.specs.declared.instruction.Instruction.TheVariants as instruction
use Rattle.program.specs.declared.instruction.Operand.{Operand}
use Rattle.program.specs.declared.instruction.Step.{Step}
use Rattle.laws_phases.specs.definedness.declared.act.Act.TheVariants.{Needs}
use Rattle.laws_phases.specs.definedness.RegisterActs.{operand_needs, object_needs, address_needs, instruction_needs}
use Rattle.laws_phases.specs.ranges.Truth.{operand_value}
use Rattle.laws_phases.specs.region_match.declared.tables.Regions.{Regions}
use Rattle.laws_conditions.specs.rules.Costs.{numbers}
use Rattle.laws_conditions.specs.rules.Moves.{dest_of}
use Rattle.laws_conditions.proofs.rules.Moves.{given_case}
use Rattle.laws_phases.specs.defined.Leads.{IsBlock}
use Rattle.laws_phases.specs.defined.Names.{StepDefines}
use Rattle.laws_phases.specs.defined.Stable.{Names, IsSteady}
use Rattle.laws_phases.proofs.defined.Lists.{first_within}
use Rattle.laws_phases.specs.facts.Known.{known_at_place, KnownHold}
use Rattle.laws_phases.proofs.facts.Sums.{word_value}
use Rattle.laws_phases.proofs.facts.Edges.{item_is}
use Rattle.laws_phases.proofs.facts.Handed.{facts_tabled}
use Rattle.laws_schedule.specs.pointers.Given.{KnowsGiven}
use Rattle.laws_schedule.specs.pointers.Apart.{IsName}
use Rattle.laws_schedule.proofs.pointers.Given.{names_apart}
use Rattle.laws_phases.specs.zones.Uses.{IsAt, StandsIn, KnownHolds, IsUsed, NamesApart, ElementsHold}
use Rattle.laws_phases.proofs.zones.Places.{step_here}
use Rattle.laws_phases.proofs.zones.Accesses.{pointed_at}
use Rattle.laws_schedule.specs.zones.Keeping.{ElementsAreKept}
use Rattle.laws_schedule.specs.zones.ByPhases.{IsJudged}
use Rattle.laws_schedule.proofs.zones.Zones.{IsOutside, IsNameOff, IsOperandOff, object_stays, operand_stays, name_needed, operand_needed}

-- a use of an element needs its register
at_needs : (allocas : List AllocaOf) (line : ℕ) (i : Instruction) (x : RegisterId) → IsAt i (Element x) → Names (instruction_needs allocas line i) x.0
at_needs allocas line (instruction.Binary d op w a b) x h = absurd h
at_needs allocas line (instruction.Compare d by w a b) x h = absurd h
at_needs allocas line (instruction.Convert d by a) x h = absurd h
at_needs allocas line (instruction.Alloca d a) x h = absurd h
at_needs allocas line (instruction.ElementPointer d name i) x h = absurd h
at_needs allocas line (instruction.Load d at) x h =
    (line, subst (λ (a : Address). Contains (address_needs allocas line a) (Needs x.0 line)) (sym h) (first_within (Needs x.0 line) []))
at_needs allocas line (instruction.Store a at) x h =
    (line, Contains-append_right (operand_needs line a) (address_needs allocas line at) (Needs x.0 line) (subst (λ (y : Address). Contains (address_needs allocas line y) (Needs x.0 line)) (sym h) (first_within (Needs x.0 line) [])))
at_needs allocas line (instruction.StoreZeros cells name) x h = absurd h
at_needs allocas line (instruction.AtomicAdd at a) x h =
    (line, Contains-append_left (address_needs allocas line at) (operand_needs line a) (Needs x.0 line) (subst (λ (y : Address). Contains (address_needs allocas line y) (Needs x.0 line)) (sym h) (first_within (Needs x.0 line) [])))
at_needs allocas line (instruction.Call d callee arguments) x h = absurd h
at_needs allocas line (instruction.StartRegion d) x h = absurd h

-- a register that a step defines, as a change
abbrev pub Sets : Instruction → ℕ → Type 0
Sets i x = dest_of i ≡ Some x

-- ---- what a `getelementptr` leaves

-- where its register points, as the registers were
abbrev PointsNow : Frame → RegisterId → ObjectName → Operand → Effect → Type 0
PointsNow f d name index e = (c : Cell) → cell_of (e.registers d.0) ≡ Some c → (object_at f name ≡ Some c.object) × (operand_value (numbers f.registers) index ≡ pos c.index)

absolute : (i : ℤ) → int_le (pos 0) i ≡ true → i ≡ pos (unsigned_abs i)
absolute (pos n) h = refl
absolute (negsuc n) h = absurd (false≢true h)

first_true : (a b : Bool) → (a && b) ≡ true → a ≡ true
first_true true b h = refl
first_true false b h = absurd (false≢true h)

module _ (f : Frame) (d : RegisterId) (name : ObjectName) (index : Operand) where
  set_here : (v : Value) → set_register f.registers d v d.0 ≡ Some v
  set_here v = rw (eq-eqb d.0 d.0 refl) refl

  points_case : (o : Object) (i : ℤ) (b : Bool) → object_at f name ≡ Some o → word_at f.registers index ≡ Some i → (b ≡ true → int_le (pos 0) i ≡ true) →
      let e : Effect = cond b (sets f d (Pointer (record { object = o; index = unsigned_abs i }))) (stops BadIndex f) in e.trap ≡ None → PointsNow f d name index e
  points_case o i true at is low fine c h =
      let cell : Cell = record { object = o; index = unsigned_abs i } in
      let same : cell ≡ c = (let both : Some cell ≡ Some c = sym (ap cell_of (set_here (Pointer cell))) ∙ h in cc) in (
        at ∙ ap (λ (x : Cell). Some x.object) same,
        word_value f.registers index i is ∙ absolute i (low refl) ∙ ap (λ (x : Cell). pos x.index) same,
      )
  points_case o i false at is low fine c h = absurd (cc)

  pub points_now : (prog : Program) (p : Path) (m : Memory) (e : Effect) → instruction_action prog p f m (instruction.ElementPointer d name index) ≡ Plain e → e.trap ≡ None → PointsNow f d name index e
  points_now prog p m e is fine =
      let effect : Effect = given f (object_at f name) (λ o. given f (word_at f.registers index) (points f d (cells_of prog f.function name) o)) in
      let same : effect ≡ e = (let h : Plain effect ≡ Plain e = is in cc) in
      subst (λ (x : Effect). PointsNow f d name index x) same
      (given_case (PointsNow f d name index) f (object_at f name) _
      (λ o at fine2. given_case (PointsNow f d name index) f (word_at f.registers index) (points f d (cells_of prog f.function name) o)
      (λ i word fine3. points_case o i (int_le (pos 0) i && int_lt i (pos (cells_of prog f.function name))) at word (first_true (int_le (pos 0) i) (int_lt i (pos (cells_of prog f.function name)))) fine3) fine2)
      (subst (λ (x : Effect). x.trap ≡ None) (sym same) fine))

module _ (prog : Program) (f : Frame) (function : Function) (block : Block) (stands : StandsIn prog f function block) where
  is_block : IsBlock prog f.function f.block function block
  is_block = record { at_function = stands.at_function; at_block = stands.at_block }

  -- a step of the frame's block
  pub step_of : (j : ℕ) (i : Instruction) → item_at prog f.function f.block j ≡ Some (Does i) → (step : Step) × (slice_get block.steps j ≡ Some step) × (step.instruction ≡ i)
  step_of j i at = step_here prog (record f { index = j }) function block (record { at_function = stands.at_function; at_block = stands.at_block }) i at

  pub known_holds : KnownHold prog f → KnownHolds prog f function block
  known_holds known =
      let tabled = facts_tabled prog f.function f.block function block stands.at_function stands.at_block in
      record {
        at_step = λ step at. subst (AllHold (numbers f.registers)) (tabled.at_step f.index step at) known.facts;
        at_end = λ e. subst (AllHold (numbers f.registers)) tabled.at_end (subst (λ n. AllHold (numbers f.registers) (known_at_place prog f.function f.block n)) e known.facts);
      }

  module _ (regions : Regions) (judged : IsJudged prog regions) where
    used_is : (name : ObjectName) → IsUsed prog.functions f.function name → IsName prog.functions f.function name
    used_is (Global g) u = u
    used_is (Alloca a) u = tt
    used_is (Parameter r) u = judged.names.own f.function r u

    pub names_are_apart : (p : Path) → KnowsGiven prog.functions p f → NamesApart prog f
    names_are_apart p known a b o ua ub at bt = names_apart prog.functions p f known a b o (used_is a ua) (used_is b ub) at bt

    pub steady : (i d : ℕ) → StepDefines function f.block i d → IsSteady function f.block block i d
    steady i d defines = judged.registers.steps f.function f.block i d function block is_block defines

    pub elements_hold : ElementsAreKept prog f → ElementsHold f block
    elements_hold elements step x named c at used is cell =
        let g = pointed_at x block.steps named is in
        let defines : StepDefines function f.block g.0 x.0 = record { block = block; step = g.1; at_block = stands.at_block; at_step = g.3; defines = ap dest_of g.4 ∙ ap (λ n. Some n) g.5 } in
        let before : g.0 < f.index = elim (cases_lt g.0 f.index) [
          | inl l ↦ l
          | inr h ↦ absurd ((steady g.0 x.0 defines).uses f.index step h at (at_needs function.allocas step.line step.instruction x used))
        ] in
        elements g.0 g.2 named.object named.index c before (there g.0 g.1 g.3 ∙ ap (λ i. Some (Does i)) g.4) (ap (λ n. cell_of (f.registers n)) g.5 ∙ cell)
      where
        there : (j : ℕ) (s : Step) → slice_get block.steps j ≡ Some s → item_at prog f.function f.block j ≡ Some (Does s.instruction)
        there j s at2 = item_is prog f.function f.block (record { function = function; block = block; at_function = stands.at_function; at_block = stands.at_block }) j s at2

    pub sets_steady : (n : ℕ) (i : Instruction) → item_at prog f.function f.block n ≡ Some (Does i) → (x : ℕ) → Sets i x → IsSteady function f.block block n x
    sets_steady n i at x sets =
        let s = step_of n i at in
        steady n x (record { block = block; step = s.0; at_block = stands.at_block; at_step = s.1; defines = ap dest_of s.2 ∙ sets })

    -- an element of a step up to this one names nothing that this one defines
    module _ (n : ℕ) (i : Instruction) (at : item_at prog f.function f.block n ≡ Some (Does i)) (j : ℕ) (d : RegisterId) (name : ObjectName) (index : Operand)
        (there : item_at prog f.function f.block j ≡ Some (Does (instruction.ElementPointer d name index))) (low : j ≤ n) where
      not_needed : (step : Step) → slice_get block.steps j ≡ Some step → step.instruction ≡ instruction.ElementPointer d name index → (x : ℕ) → Sets i x → Contains (object_needs function.allocas step.line name ++ operand_needs step.line index) (Needs x step.line) → ⊥
      not_needed step is does x sets c =
          (sets_steady n i at x sets).uses j step low is (step.line, subst (λ (y : Instruction). Contains (instruction_needs function.allocas step.line y) (Needs x step.line)) (sym does) c)

      name_off : IsNameOff (Sets i) name
      name_off =
          let s = step_of j (instruction.ElementPointer d name index) there in
          name_needed (Sets i) s.0.line function.allocas name (λ x sets c. not_needed s.0 s.1 s.2 x sets (Contains-append_left (object_needs function.allocas s.0.line name) (operand_needs s.0.line index) (Needs x s.0.line) c))

      index_off : IsOperandOff (Sets i) index
      index_off =
          let s = step_of j (instruction.ElementPointer d name index) there in
          operand_needed (Sets i) s.0.line index (λ x sets c. not_needed s.0 s.1 s.2 x sets (Contains-append_right (object_needs function.allocas s.0.line name) (operand_needs s.0.line index) (Needs x s.0.line) c))

      earlier_off : j < n → Sets i d.0 → ⊥
      earlier_off less sets =
          let s = step_of j (instruction.ElementPointer d name index) there in
          (sets_steady n i at d.0 sets).earlier j s.0 less s.1 (ap dest_of s.2)

    -- behind a step of the block: registers that it does not define are the same, and where it is a `getelementptr` its own points as it says
    pub elements_behind : (n : ℕ) (i : Instruction) → item_at prog f.function f.block n ≡ Some (Does i) → n ≤ f.index → (g : Frame) → g.function ≡ f.function → g.block ≡ f.block → g.index ≡ suc n → IsOutside (Sets i) f g →
        ((d : RegisterId) (name : ObjectName) (index : Operand) (c : Cell) → i ≡ instruction.ElementPointer d name index → cell_of (g.registers d.0) ≡ Some c → (object_at f name ≡ Some c.object) × (operand_value (numbers f.registers) index ≡ pos c.index)) →
        ElementsAreKept prog f → ElementsAreKept prog g
    elements_behind n i at within g fn same next outside new old j d name index c less there cell =
        let here : item_at prog f.function g.block j ≡ Some (Does (instruction.ElementPointer d name index)) = ap (λ k. item_at prog k g.block j) (sym fn) ∙ there in
        let here2 : item_at prog f.function f.block j ≡ Some (Does (instruction.ElementPointer d name index)) = subst (λ k. item_at prog f.function k j ≡ Some (Does (instruction.ElementPointer d name index))) same here in
        let low : j ≤ n = omega (arith, less, next) in
        let before : (object_at f name ≡ Some c.object) × (operand_value (numbers f.registers) index ≡ pos c.index) = elim (cases_eq j n) [
          | inl e ↦
              let both : Some (Does i) ≡ Some (Does (instruction.ElementPointer d name index)) = sym at ∙ ap (λ k. item_at prog f.function f.block k) (sym e) ∙ here2 in
              let is : i ≡ instruction.ElementPointer d name index = cc in
              new d name index c is cell
          | inr apart ↦
              let earlier : j < n = omega (arith, low, apart) in
              let kept : g.registers d.0 ≡ f.registers d.0 = outside.registers d.0 (earlier_off n i at j d name index here2 low earlier) in
              old j d name index c (omega (arith, earlier, within)) here2 (sym (ap cell_of kept) ∙ cell)
        ] in (
          object_stays (Sets i) f g outside name (name_off n i at j d name index here2 low) ∙ before.0,
          operand_stays (Sets i) f g outside index (index_off n i at j d name index here2 low) ∙ before.1,
        )
