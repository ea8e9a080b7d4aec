-- What an instruction reads or passes of an alloca has values, where the rule on allocas holds.
use Rattle.std.proofs.Common.{◌≡◌, ◌≢◌, ℕ, zero, suc, ◌<◌, ◌≤◌, inl, inr, List, [], ◌∷◌, length, take, Option, Some, None, true, eq-eqb, is_some, refl, sym, ap, subst, ◌∙◌, arith, slice_get}
use Rattle.std.specs.List.{Contains}
use Rattle.std.proofs.lemmas.Bool.{cases_Bool, true≢false}
use Rattle.std.proofs.lemmas.Bool.Decides.{eqb_tells}
use Rattle.semantics.specs.Paths.{Path}
use Rattle.semantics.specs.Cells.{Object, Shared, Local, Cell, Memory}
use Rattle.semantics.specs.Frames.{Frame, Does, item_at, cells_of, cell_of, object_at, first_cell, and_then}
use Rattle.semantics.proofs.Confluence.{one_result}
use Rattle.linear.specs.declared.form.RegisterId.{RegisterId}
use Rattle.program.specs.declared.identifier.FunctionId.{FunctionId}
use Rattle.program.specs.declared.identifier.ObjectName.{ObjectName}
use Rattle.program.specs.declared.identifier.ObjectName.TheVariants as object
use Rattle.program.specs.declared.function.Block.{Block}
use Rattle.program.specs.declared.function.Function.{Function}
use Rattle.program.specs.declared.function.Program.{Program}
use Rattle.program.specs.declared.instruction.Address.{Address}
use Rattle.program.specs.declared.instruction.Address.TheVariants as address
use Rattle.program.specs.declared.instruction.Argument.{Argument}
use Rattle.program.specs.declared.instruction.Argument.TheVariants as argument
use Rattle.program.specs.declared.instruction.Instruction.{Instruction}
use Rattle.program.specs.declared.instruction.Instruction.TheVariants as instruction
use Rattle.program.specs.declared.instruction.Operand.{Operand}
use Rattle.program.specs.declared.instruction.Step.{Step}
use Rattle.refusal.specs.declared.broken.Broken.{Broken}
use Rattle.definedness.specs.declared.act.Act.TheVariants.{Needs}
use Rattle.definedness.specs.Needs.{gives}
use Rattle.definedness.specs.AllocaActs.{element_in, element_object, object_read, address_read, argument_read, step_cells, alloca_acts}
use Rattle.definedness.specs.Definedness.{IsFunctionBroken, IsDefinednessBroken}
use Rattle.laws_conditions.specs.rules.Moves.{dest_of}
use Rattle.laws_conditions.specs.rules.Costs.{parameters_of}
use Rattle.laws_phases.specs.defined.Leads.{IsBlock}
use Rattle.laws_phases.specs.defined.Names.{StepDefines, IsNamed}
use Rattle.laws_phases.specs.defined.Values.{Reads, NamesObjects, Full, Shallow, stored_before, HasValues, ReadsValues, ReadsHaveValues}
use Rattle.laws_phases.proofs.defined.Lists.{at_within, first_within, flat_within}
use Rattle.laws_phases.proofs.defined.Items.{stands, step_there}
use Rattle.laws_phases.proofs.defined.Roles.{any_function}
use Rattle.laws_phases.proofs.defined.Defined.{Quiet, Found, found_quiet_act, take_split}
use Rattle.laws_phases.proofs.defined.Written.{address_quiet, arguments_quiet}
use Rattle.laws_phases.proofs.defined.Stored.{found_cells, alloca_row, row_at, nothing_held, nothing_labelled}

-- the first step that defines the register gives the element
found_element : (steps : List Step) (j : ℕ) (s : Step) (r : RegisterId) (name : ObjectName) (index : Operand) → slice_get steps j ≡ Some s → s.instruction ≡ instruction.ElementPointer r name index →
    ((k : ℕ) (x : Step) → slice_get steps k ≡ Some x → dest_of x.instruction ≡ Some r.0 → k ≡ j) → element_object steps r ≡ Some name
found_element [] j s r name index at is only = absurd (cc)
found_element (x ∷ xs) zero s r name index at is only =
    let same : x ≡ s = cc in
    let what : x.instruction ≡ instruction.ElementPointer r name index = ap (λ (y : Step). y.instruction) same ∙ is in
    rw (what, eq-eqb r.0 r.0 refl) refl
found_element (x ∷ xs) (suc j) s r name index at is only =
    rw (other x.instruction (λ e. let n : 0 ≡ suc j = only 0 x refl e in omega (arith, n))) (found_element xs j s r name index at is (λ k y h e. let n : suc k ≡ suc j = only (suc k) y h e in omega (arith, n)))
  where
    other : (i : Instruction) → dest_of i ≢ Some r.0 → element_in i r ≡ None
    other (instruction.Binary d op w a b) apart = refl
    other (instruction.Compare d by w a b) apart = refl
    other (instruction.Convert d by a) apart = refl
    other (instruction.Alloca d a) apart = refl
    other (instruction.ElementPointer d o i) apart = elim (eqb_tells d.0 r.0) [ inl h ↦ absurd (apart (ap (λ n. Some n) h.1)) | inr h ↦ rw h.0 refl ]
    other (instruction.Load d a) apart = refl
    other (instruction.Store v a) apart = refl
    other (instruction.StoreZeros n o) apart = refl
    other (instruction.AtomicAdd a v) apart = refl
    other (instruction.Call d g arguments) apart = refl
    other (instruction.StartRegion d) apart = refl

module _ (prog : Program) (named : IsNamed prog) (objects : NamesObjects prog) (right : (b : Broken) → IsDefinednessBroken prog b → ⊥) (p : Path) (f : Frame) (m : Memory) (good : HasValues prog p f m) where
  -- the step at the frame's place
  pub record Here (what : Instruction) : Type 0 where
    pub function : Function
    pub block : Block
    pub step : Step
    pub is : IsBlock prog f.function f.block function block
    pub at_step : slice_get block.steps f.index ≡ Some step
    pub does : step.instruction ≡ what

  pub here : (what : Instruction) → item_at prog f.function f.block f.index ≡ Some (Does what) → Here what
  here what at =
      let s = stands prog f.function f.block f.index (Does what) at in
      let step = step_there s.block.steps s.block.ending f.index what s.item in
      record { function = s.function; block = s.block; step = step.0; is = s.is; at_step = step.1; does = step.2 }

  -- an alloca that the step needs
  needed_full : (function : Function) (block : Block) (s : Step) (a line : ℕ) → IsBlock prog f.function f.block function block → slice_get block.steps f.index ≡ Some s → Found (step_cells function.allocas block.steps s) [] (Needs a line) →
      Full (cells_of prog f.function (object.Alloca (record { 0 = a }))) (Local f.home a) m
  needed_full function block s a line is at found = λ i less. elim (cases_Bool (is_some (m (record { object = Local f.home a; index = i })))) [
    | inl h ↦ h
    | inr h ↦
        let broken : Broken = record { line = line; number = 402 } in
        let inside = found_cells function.allocas block.steps block.steps f.index s (Needs a line) at found in
        let split = take_split inside.first inside.last (Needs a line) in
        let there : slice_get (alloca_acts function.allocas block) (length inside.first) ≡ Some (Needs a line) = ap (λ xs. slice_get xs (length inside.first)) inside.parts ∙ split.0 in
        let taken : gives (take (length inside.first) (alloca_acts function.allocas block)) ≡ stored_before function.allocas block.steps block.steps f.index = ap gives (ap (λ xs. take (length inside.first) xs) inside.parts ∙ split.1) ∙ inside.given_first in
        let empty : Full (cells_of prog f.function (object.Alloca (record { 0 = a }))) (Local f.home a) m → ⊥ = λ full. true≢false (sym (full i less) ∙ h) in
        absurd (right broken (any_function {P = λ (x : Function). IsFunctionBroken x broken} prog.functions f.function function is.at_function
        (inr (
          f.block,
          alloca_row function block,
          row_at function f.block block is.at_block,
          (
            length inside.first,
            Needs a line,
            there,
            (
              refl,
              refl,
              λ c. empty (good.sets function block a nothing_held None is (nothing_labelled function a) (inr (inr (subst (λ xs. Contains xs a) taken c)))),
              λ l sets sure. empty (good.sets function block a l None is sets (inl sure)),
            ),
          ),
        ))))
  ]

  -- the object that a name stands for, where its alloca is needed
  pub object_full : (name : ObjectName) (o : Object) → object_at f name ≡ Some o → ((r : RegisterId) → name ≡ object.Parameter r → r.0 < parameters_of prog f.function) →
      ((a : ℕ) → name ≡ object.Alloca (record { 0 = a }) → Full (cells_of prog f.function (object.Alloca (record { 0 = a }))) (Local f.home a) m) → Full (cells_of prog f.function name) o m × Shallow (suc (length p)) o
  object_full (object.Global g) o is own needed = let same : Shared g.0 ≡ o = cc in subst (λ (x : Object). Full (cells_of prog f.function (object.Global g)) x m × Shallow (suc (length p)) x) same (good.globals g.0, tt)
  object_full (object.Alloca a) o is own needed =
      let same : Local f.home a.0 ≡ o = cc in
      let l : length f.home ≤ length p = good.home in
      let low : length f.home < suc (length p) = omega arith in
      subst (λ (x : Object). Full (cells_of prog f.function (object.Alloca a)) x m × Shallow (suc (length p)) x) same (needed a.0 refl, low)
  object_full (object.Parameter r) o is own needed = by (cell_of (f.registers r.0)) refl is
    where
      by : (c : Option Cell) → cell_of (f.registers r.0) ≡ c → and_then c (λ (x : Cell). Some x.object) ≡ Some o → Full (cells_of prog f.function (object.Parameter r)) o m × Shallow (suc (length p)) o
      by None holds h = absurd (cc)
      by (Some c) holds h =
          let k = good.given r.0 c (own r refl) holds in
          let same : c.object ≡ o = cc in
          subst (λ (x : Object). Full (cells_of prog f.function (object.Parameter r)) x m × Shallow (suc (length p)) x) same (k.1, k.0)

  -- what a step reads by an address
  needs_read : (what : Instruction) (x : Address) (h : Here what) → Reads what x → (a : ℕ) → Contains (address_read h.block.steps h.step.line x) (Needs a h.step.line) → Full (cells_of prog f.function (object.Alloca (record { 0 = a }))) (Local f.home a) m
  needs_read what x h reads a c =
      needed_full h.function h.block h.step a h.step.line h.is h.at_step
      (found_quiet_act (step_cells h.function.allocas h.block.steps h.step) (Needs a h.step.line) (by what reads h.does).0 (by what reads h.does).1)
    where
      by : (i : Instruction) → Reads i x → h.step.instruction ≡ i → Quiet (step_cells h.function.allocas h.block.steps h.step) × Contains (step_cells h.function.allocas h.block.steps h.step) (Needs a h.step.line)
      by (instruction.Binary d op w u v) reads is = absurd reads
      by (instruction.Compare d test w u v) reads is = absurd reads
      by (instruction.Convert d test u) reads is = absurd reads
      by (instruction.Alloca d u) reads is = absurd reads
      by (instruction.ElementPointer d u v) reads is = absurd reads
      by (instruction.Load d u) reads is = rw (is, reads) (address_quiet h.block.steps h.step.line x, c)
      by (instruction.Store v u) reads is = absurd reads
      by (instruction.StoreZeros n u) reads is = absurd reads
      by (instruction.AtomicAdd u v) reads is = rw (is, reads) (address_quiet h.block.steps h.step.line x, c)
      by (instruction.Call d g arguments) reads is = absurd reads
      by (instruction.StartRegion d) reads is = absurd reads

  own_name : (what : Instruction) (x : Address) → Reads what x → item_at prog f.function f.block f.index ≡ Some (Does what) → (name : ObjectName) → x ≡ address.First name → (r : RegisterId) → name ≡ object.Parameter r → r.0 < parameters_of prog f.function
  own_name (instruction.Binary d op w u v) x r at name is q e = absurd r
  own_name (instruction.Compare d by w u v) x r at name is q e = absurd r
  own_name (instruction.Convert d by u) x r at name is q e = absurd r
  own_name (instruction.Alloca d u) x r at name is q e = absurd r
  own_name (instruction.ElementPointer d u i) x r at name is q e = absurd r
  own_name (instruction.Load d u) x r at name is q e = objects.own f.function f.block f.index (instruction.Load d u) q at (rw (r, is, e) refl)
  own_name (instruction.Store v u) x r at name is q e = absurd r
  own_name (instruction.StoreZeros n u) x r at name is q e = absurd r
  own_name (instruction.AtomicAdd u v) x r at name is q e = objects.own f.function f.block f.index (instruction.AtomicAdd u v) q at (rw (r, is, e) refl)
  own_name (instruction.Call d g arguments) x r at name is q e = absurd r
  own_name (instruction.StartRegion d) x r at name is q e = absurd r

  read_within : (name : ObjectName) (line a : ℕ) → name ≡ object.Alloca (record { 0 = a }) → Contains (object_read line name) (Needs a line)
  read_within name line a e = rw e (first_within (Needs a line) [])

  read_first : (what : Instruction) (name : ObjectName) (c : Cell) → item_at prog f.function f.block f.index ≡ Some (Does what) → Reads what (address.First name) → and_then (object_at f name) (λ (o : Object). Some (first_cell o)) ≡ Some c → is_some (m c) ≡ true
  read_first what name c at reads is = by (object_at f name) refl is
    where
      by : (o : Option Object) → object_at f name ≡ o → and_then o (λ (x : Object). Some (first_cell x)) ≡ Some c → is_some (m c) ≡ true
      by None named h = absurd (cc)
      by (Some o) named h =
          let same : first_cell o ≡ c = cc in
          let k = here what at in
          let full = object_full name o named (own_name what (address.First name) reads at name refl) (λ a e. needs_read what (address.First name) k reads a (read_within name k.step.line a e)) in
          subst (λ (x : Cell). is_some (m x) ≡ true) same (full.0 0 (objects.first f.function f.block f.index what name at reads))

  read_element : (what : Instruction) (r : RegisterId) (c : Cell) → item_at prog f.function f.block f.index ≡ Some (Does what) → Reads what (address.Element r) → cell_of (f.registers r.0) ≡ Some c → is_some (m c) ≡ true
  read_element what r c at reads is =
      let e = objects.elements f.function f.block f.index what r at reads in
      let k = here what at in
      let gep : Instruction = instruction.ElementPointer r e.name e.index in
      let lies = good.elements e.before r e.name e.index c e.earlier e.is is in
      let s = stands prog f.function f.block e.before (Does gep) e.is in
      let step = step_there s.block.steps s.block.ending e.before gep s.item in
      let one : s.function ≡ k.function = one_result (slice_get prog.functions f.function) s.function k.function s.is.at_function k.is.at_function in
      let two : s.block ≡ k.block = one_result (slice_get k.function.blocks f.block) s.block k.block (subst (λ (x : Function). slice_get x.blocks f.block ≡ Some s.block) one s.is.at_block) k.is.at_block in
      let there : slice_get k.block.steps e.before ≡ Some step.0 = subst (λ (x : Block). slice_get x.steps e.before ≡ Some step.0) two step.1 in
      let mine : StepDefines k.function f.block e.before r.0 = record { block = k.block; step = step.0; at_block = k.is.at_block; at_step = there; defines = ap dest_of step.2 } in
      let found : element_object k.block.steps r ≡ Some e.name = found_element k.block.steps e.before step.0 r e.name e.index there step.2
      (λ n x h d. ((named.once f.function k.function k.is.at_function).steps f.block f.block n e.before r.0 (record { block = k.block; step = x; at_block = k.is.at_block; at_step = h; defines = d }) mine).1) in
      let full = object_full e.name c.object lies.object (λ q h. objects.own f.function f.block e.before gep q e.is h) (λ a h. needs_read what (address.Element r) k reads a (rw found (read_within e.name k.step.line a h))) in
      full.0 c.index lies.within

  pub reads_values : ReadsValues prog f m
  reads_values what (address.First name) c at reads is = read_first what name c at reads is
  reads_values what (address.Element r) c at reads is = read_element what r c at reads is

  -- an object that a call passes
  pub passed_full : (d : Option RegisterId) (g : FunctionId) (arguments : List Argument) (k : ℕ) (name : ObjectName) (o : Object) → item_at prog f.function f.block f.index ≡ Some (Does (instruction.Call d g arguments)) → slice_get arguments k ≡ Some (argument.Object name) → object_at f name ≡ Some o →
      Full (cells_of prog f.function name) o m × Shallow (suc (length p)) o
  passed_full d g arguments k name o at passed is =
      let h = here (instruction.Call d g arguments) at in
      object_full name o is (λ r e. objects.own f.function f.block f.index (instruction.Call d g arguments) r at (k, passed ∙ ap (λ (x : ObjectName). Some (argument.Object x)) e))
      (λ a e. needed_full h.function h.block h.step a h.step.line h.is h.at_step
      (found_quiet_act (step_cells h.function.allocas h.block.steps h.step) (Needs a h.step.line)
      (rw h.does (arguments_quiet h.step.line arguments))
      (rw h.does (flat_within (argument_read h.step.line) arguments (argument.Object name) (Needs a h.step.line) (at_within arguments k (argument.Object name) passed) (read_within name h.step.line a e)))))

pub reads_have_values : ReadsHaveValues
reads_have_values prog named objects right p f m good = reads_values prog named objects right p f m good
