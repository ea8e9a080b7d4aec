-- Along the serial run cells that are sure, or due, have values.
use Rattle.std.proofs.Common.{◌≡◌, ◌≢◌, ℕ, zero, suc, ◌<◌, ◌≤◌, inl, inr, List, [], ◌∷◌, length, Option, Some, None, Bool, true, false, cond, eq-eqb, ◌&&◌, is_some, refl, sym, ap, subst, ◌∙◌, arith, slice_get, ℤ, pos, negsuc}
use Rattle.std.specs.Prelude.{int_le, int_lt, unsigned_abs}
use Rattle.std.specs.List.{Contains}
use Rattle.std.proofs.lemmas.Bool.{and_parts, ltb-true}
use Rattle.std.proofs.lemmas.Bool.Decides.{eqb_tells}
use Rattle.semantics.specs.Paths.{Path}
use Rattle.semantics.specs.Cells.{Object, Shared, Local, Cell, Memory}
use Rattle.semantics.specs.Arithmetic.{Undefined, BadIndex}
use Rattle.semantics.specs.Frames.{Value, Word, Pointer, Registers, Frame, Does, Ends, item_at, phis_at, cells_of, cell_of, word_at, object_at, first_cell, set_register, and_then}
use Rattle.semantics.specs.Effect.{Effect, Plain, stops, sets, given, points, phi_value, with_phis, argument_value, argument_values, instruction_action, item_action, action_of}
use Rattle.semantics.specs.State.{went, with_result}
use Rattle.semantics.specs.SerialMeaning.{Outcome, written}
use Rattle.semantics.specs.SerialMeaning.{one_more}
use Rattle.semantics.proofs.Confluence.{one_result}
use Rattle.linear.specs.declared.form.RegisterId.{RegisterId}
use Rattle.program.specs.declared.identifier.ObjectName.{ObjectName}
use Rattle.program.specs.declared.identifier.ObjectName.TheVariants as object
use Rattle.program.specs.declared.function.Block.{Block}
use Rattle.program.specs.declared.function.Function.{Function}
use Rattle.program.specs.declared.function.Program.{Program}
use Rattle.program.specs.declared.instruction.Argument.{Argument}
use Rattle.program.specs.declared.instruction.Argument.TheVariants as argument
use Rattle.program.specs.declared.instruction.Instruction.{Instruction}
use Rattle.program.specs.declared.instruction.Instruction.TheVariants as instruction
use Rattle.program.specs.declared.instruction.Operand.{Operand}
use Rattle.program.specs.declared.instruction.Phi.{Phi}
use Rattle.program.specs.declared.instruction.Step.{Step}
use Rattle.program.specs.declared.instruction.Terminator.{Terminator}
use Rattle.cfg.specs.declared.structure.Way.{Way}
use Rattle.cfg.specs.declared.structure.Way.TheVariants as way
use Rattle.cfg.specs.Edges.{graph_of}
use Rattle.region_match.specs.Tasks.{task_along, HasTask}
use Rattle.definedness.specs.Needs.{gives}
use Rattle.definedness.specs.AllocaActs.{instruction_cells, step_cells}
use Rattle.definedness.specs.Sure.{Labels}
use Rattle.laws_conditions.specs.rules.Moves.{number_of, dest_of}
use Rattle.laws_conditions.specs.rules.InProofs.{Moves, is_next, is_along}
use Rattle.laws_conditions.specs.rules.Costs.{parameters_of}
use Rattle.laws_phases.specs.defined.Leads.{LeadsTo, IsBlock}
use Rattle.laws_phases.specs.defined.Names.{StepDefines, IsNamed}
use Rattle.laws_phases.specs.defined.Values.{NamesObjects, Full, Shallow, IsLabelled, IsHeldAt, LiesIn, HasValues, KeepsValues}
use Rattle.laws_phases.proofs.defined.Items.{stands, block_is, step_there, end_there, edge_behind}
use Rattle.laws_phases.proofs.defined.Placed.{arrives}
use Rattle.laws_phases.proofs.defined.Stored.{stored_step, BroughtByChild, held_before}
use Rattle.laws_phases.proofs.defined.Written.{shallower, plain_keeps, step_stores}

-- ---- registers that stay

pub set_other : (r : Registers) (d : RegisterId) (v : Value) (x : ℕ) → d.0 ≢ x → set_register r d v x ≡ r x
set_other r d v x apart = elim (eqb_tells d.0 x) [ inl h ↦ absurd (apart h.1) | inr h ↦ rw h.0 refl ]

pub phis_stay : (before : Registers) (from : ℕ) (phis : List Phi) (r s : Registers) (x : ℕ) → ((i : ℕ) (phi : Phi) → slice_get phis i ≡ Some phi → phi.register.0 ≢ x) → with_phis before from phis r ≡ Some s → s x ≡ r x
phis_stay before from [] r s x apart e = let same : r ≡ s = cc in sym (ap (λ (u : Registers). u x) same)
phis_stay before from (phi ∷ phis) r s x apart e = by_value (phi_value before from phi) e (λ z h. phis_stay before from phis (set_register r phi.register (Word z)) s x (λ i y at. apart (suc i) y at) h)
  where
    by_value : (o : Option ℤ) → and_then o (λ z. with_phis before from phis (set_register r phi.register (Word z))) ≡ Some s →
        ((z : ℤ) → with_phis before from phis (set_register r phi.register (Word z)) ≡ Some s → s x ≡ set_register r phi.register (Word z) x) → s x ≡ r x
    by_value None h rest = absurd (cc)
    by_value (Some z) h rest = rest z h ∙ set_other r phi.register (Word z) x (apart 0 phi refl)

pub result_other : (r : Registers) (d : Option RegisterId) (v : Option ℤ) (x : ℕ) → number_of d ≢ Some x → with_result r d v x ≡ r x
result_other r None v x apart = refl
result_other r (Some d) None x apart = refl
result_other r (Some d) (Some z) x apart = set_other r d (Word z) x (λ e. apart (ap (λ n. Some n) e))

-- ---- elements

pub index_within : (z : ℤ) (n : ℕ) → int_le (pos 0) z && int_lt z (pos n) ≡ true → unsigned_abs z < n
index_within (pos k) n h = ltb-true k n (and_parts _ _ h).1
index_within (negsuc k) n h = absurd (let c : false ≡ true = (and_parts false (int_lt (negsuc k) (pos n)) h).0 in cc)

-- a step that does not trap leaves its register pointing into the object
pub pointed : (f : Frame) (d : RegisterId) (n : ℕ) (a : Option Object) (b : Option ℤ) (e : Effect) (c : Cell) → given f a (λ o. given f b (points f d n o)) ≡ e → e.trap ≡ None → cell_of (e.registers d.0) ≡ Some c → (a ≡ Some c.object) × (c.index < n)
pointed f d n None b e c is fine at = absurd (let h : (stops Undefined f).trap ≡ None = ap (λ (x : Effect). x.trap) is ∙ fine in cc)
pointed f d n (Some o) None e c is fine at = absurd (let h : (stops Undefined f).trap ≡ None = ap (λ (x : Effect). x.trap) is ∙ fine in cc)
pointed f d n (Some o) (Some z) e c is fine at = by (int_le (pos 0) z && int_lt z (pos n)) refl is
  where
    by : (t : Bool) → int_le (pos 0) z && int_lt z (pos n) ≡ t → cond t (sets f d (Pointer (record { object = o; index = unsigned_abs z }))) (stops BadIndex f) ≡ e → (Some o ≡ Some c.object) × (c.index < n)
    by false t same = absurd (let h : (stops BadIndex f).trap ≡ None = ap (λ (x : Effect). x.trap) same ∙ fine in cc)
    by true t same =
        let set : set_register f.registers d (Pointer (record { object = o; index = unsigned_abs z })) d.0 ≡ Some (Pointer (record { object = o; index = unsigned_abs z })) = rw (eq-eqb d.0 d.0 refl) refl in
        let holds : Some (record { object = o; index = unsigned_abs z }) ≡ Some c = sym (ap cell_of set) ∙ ap (λ (x : Effect). cell_of (x.registers d.0)) same ∙ at in
        let cell : record { object = o; index = unsigned_abs z } ≡ c = cc in
        let index : unsigned_abs z ≡ c.index = ap (λ (x : Cell). x.index) cell in
        (ap (λ (x : Cell). Some x.object) cell, subst (λ (k : ℕ). k < n) index (index_within z n t))

-- ---- arguments

pub passed_at : (f : Frame) (arguments : List Argument) (vs : List Value) (k : ℕ) (v : Value) → argument_values f arguments ≡ Some vs → slice_get vs k ≡ Some v → (x : Argument) × (slice_get arguments k ≡ Some x) × (argument_value f x ≡ Some v)
passed_at f [] vs k v is at = absurd (let same : [] ≡ vs = cc in let h : slice_get {X = Value} [] k ≡ Some v = ap (λ us. slice_get us k) same ∙ at in cc)
passed_at f (x ∷ more) vs k v is at = by_first (argument_value f x) refl is (λ us n values there. passed_at f more us n v values there)
  where
    by_index : (w : Value) (us : List Value) → argument_value f x ≡ Some w → argument_values f more ≡ Some us → (n : ℕ) → slice_get (w ∷ us) n ≡ Some v → ((us : List Value) (n : ℕ) → argument_values f more ≡ Some us → slice_get us n ≡ Some v → (y : Argument) × (slice_get more n ≡ Some y) × (argument_value f y ≡ Some v)) → (y : Argument) × (slice_get (x ∷ more) n ≡ Some y) × (argument_value f y ≡ Some v)
    by_index w us here values zero e rest = (x, refl, here ∙ e)
    by_index w us here values (suc n) e rest = rest us n values e

    by_rest : (w : Value) (o : Option (List Value)) → argument_value f x ≡ Some w → argument_values f more ≡ o → and_then o (λ us. Some (w ∷ us)) ≡ Some vs → ((us : List Value) (n : ℕ) → argument_values f more ≡ Some us → slice_get us n ≡ Some v → (y : Argument) × (slice_get more n ≡ Some y) × (argument_value f y ≡ Some v)) → (y : Argument) × (slice_get (x ∷ more) k ≡ Some y) × (argument_value f y ≡ Some v)
    by_rest w None here values e rest = absurd (cc)
    by_rest w (Some us) here values e rest = let same : w ∷ us ≡ vs = cc in by_index w us here values k (ap (λ (zs : List Value). slice_get zs k) same ∙ at) rest

    by_first : (o : Option Value) → argument_value f x ≡ o → and_then o (λ w. and_then (argument_values f more) (λ us. Some (w ∷ us))) ≡ Some vs → ((us : List Value) (n : ℕ) → argument_values f more ≡ Some us → slice_get us n ≡ Some v → (y : Argument) × (slice_get more n ≡ Some y) × (argument_value f y ≡ Some v)) → (y : Argument) × (slice_get (x ∷ more) k ≡ Some y) × (argument_value f y ≡ Some v)
    by_first None here e rest = absurd (cc)
    by_first (Some w) here e rest = by_rest w (argument_values f more) here refl e rest

-- what is passed as a pointer is an object
pub passed_object : (f : Frame) (x : Argument) (v : Value) (c : Cell) → argument_value f x ≡ Some v → cell_of (Some v) ≡ Some c → (name : ObjectName) × (x ≡ argument.Object name) × (object_at f name ≡ Some c.object)
passed_object f (argument.Number a) v c is at = by (word_at f.registers a) is
  where
    by : (o : Option ℤ) → and_then o (λ z. Some (Word z)) ≡ Some v → (name : ObjectName) × (argument.Number a ≡ argument.Object name) × (object_at f name ≡ Some c.object)
    by None h = absurd (cc)
    by (Some z) h = absurd (let same : Word z ≡ v = cc in let w : None ≡ Some c = ap (λ (u : Value). cell_of (Some u)) same ∙ at in cc)
passed_object f (argument.Object name) v c is at = by (object_at f name) refl is
  where
    by : (o : Option Object) → object_at f name ≡ o → and_then o (λ x. Some (Pointer (first_cell x))) ≡ Some v → (other : ObjectName) × (argument.Object name ≡ argument.Object other) × (object_at f other ≡ Some c.object)
    by None named h = absurd (cc)
    by (Some x) named h =
        let same : Pointer (first_cell x) ≡ v = cc in
        let cell : Some (first_cell x) ≡ Some c = ap (λ (u : Value). cell_of (Some u)) same ∙ at in
        let one : first_cell x ≡ c = cc in
        (name, refl, named ∙ ap (λ (y : Cell). Some y.object) one)

full_kept : (n : ℕ) (o : Object) (m u : Memory) → ((c : Cell) → c.object ≡ o → is_some (m c) ≡ true → is_some (u c) ≡ true) → Full n o m → Full n o u
full_kept n o m u keep h = λ i less. keep (record { object = o; index = i }) refl (h i less)

-- the step at a place defines its register
pub defines_here : (prog : Program) (f b i x : ℕ) (function : Function) (what : Instruction) → slice_get prog.functions f ≡ Some function → item_at prog f b i ≡ Some (Does what) → dest_of what ≡ Some x → StepDefines function b i x
defines_here prog f b i x function what at is dest =
    let s = stands prog f b i (Does what) is in
    let one : s.function ≡ function = one_result (slice_get prog.functions f) s.function function s.is.at_function at in
    let step = step_there s.block.steps s.block.ending i what s.item in
    record { block = s.block; step = step.0; at_block = subst (λ (y : Function). slice_get y.blocks b ≡ Some s.block) one s.is.at_block; at_step = step.1; defines = ap dest_of step.2 ∙ dest }

module _ (prog : Program) (named : IsNamed prog) (objects : NamesObjects prog) where
  -- ---- registers of the frame that stay

  parameters_are : (f : ℕ) (function : Function) → slice_get prog.functions f ≡ Some function → parameters_of prog f ≡ length function.parameters
  parameters_are f function at = rw at refl

  -- a step defines no parameter
  pub dest_above : (f b i x : ℕ) (what : Instruction) → item_at prog f b i ≡ Some (Does what) → x < parameters_of prog f → dest_of what ≢ Some x
  dest_above f b i x what is less dest =
      let s = stands prog f b i (Does what) is in
      let high : length s.function.parameters ≤ x = (named.once f s.function s.is.at_function).steps_above b i x (defines_here prog f b i x s.function what s.is.at_function is dest) in
      let n : parameters_of prog f ≡ length s.function.parameters = parameters_are f s.function s.is.at_function in
      omega (arith, high, n, less)

  -- nor does a phi
  phis_above : (f b x : ℕ) (function : Function) (block : Block) → IsBlock prog f b function block → x < parameters_of prog f → (i : ℕ) (phi : Phi) → slice_get (phis_at prog f b) i ≡ Some phi → phi.register.0 ≢ x
  phis_above f b x function block is less i phi at same =
      let read : phis_at prog f b ≡ block.phis = rw (block_is prog f b function block is) refl in
      let high : length function.parameters ≤ x = (named.once f function is.at_function).phis_above b x (record { block = block; number = i; phi = phi; at_block = is.at_block; at_phi = ap (λ (ps : List Phi). slice_get ps i) (sym read) ∙ at; defines = same }) in
      let n : parameters_of prog f ≡ length function.parameters = parameters_are f function is.at_function in
      omega (arith, high, n, less)

  pub along_stays : (f : Frame) (to : ℕ) (rs : Registers) (function : Function) (block : Block) → IsBlock prog f.function to function block → with_phis f.registers f.block (phis_at prog f.function to) f.registers ≡ Some rs → (k : ℕ) → k < parameters_of prog f.function → rs k ≡ f.registers k
  along_stays f to rs function block is e k less = phis_stay f.registers f.block (phis_at prog f.function to) f.registers rs k (phis_above f.function to k function block is less) e

  -- what a name stands for stays, where parameters do
  object_stays : (f h : Frame) (name : ObjectName) → h.home ≡ f.home → ((k : ℕ) → k < parameters_of prog f.function → h.registers k ≡ f.registers k) → ((r : RegisterId) → name ≡ object.Parameter r → r.0 < parameters_of prog f.function) → object_at h name ≡ object_at f name
  object_stays f h (object.Global g) home same own = refl
  object_stays f h (object.Alloca a) home same own = ap (λ (q : Path). Some (Local q a.0)) home
  object_stays f h (object.Parameter r) home same own = ap (λ v. and_then (cell_of v) (λ (c : Cell). Some c.object)) (same r.0 (own r refl))

  element_named : (f b j : ℕ) (d : RegisterId) (name : ObjectName) (index : Operand) → item_at prog f b j ≡ Some (Does (instruction.ElementPointer d name index)) → (r : RegisterId) → name ≡ object.Parameter r → r.0 < parameters_of prog f
  element_named f b j d name index is r e = objects.own f b j (instruction.ElementPointer d name index) r is e

  -- ---- what is kept from one memory to another in which no value of a cell above is lost

  module _ (p : Path) (f : Frame) (m u : Memory) (good : HasValues prog p f m) (keep : (c : Cell) → Shallow (suc (length p)) c.object → is_some (m c) ≡ true → is_some (u c) ≡ true) where
    own_kept : (a n : ℕ) → Full n (Local f.home a) m → Full n (Local f.home a) u
    own_kept a n h = λ i less. keep (record { object = Local f.home a; index = i }) (let l : length f.home ≤ length p = good.home in omega arith) (h i less)

    pub sets_kept : (function : Function) (block : Block) (a : ℕ) (l : Labels) (region : Option RegisterId) → IsBlock prog f.function f.block function block → IsLabelled function a l → IsHeldAt function l a region f.block block f.index →
        Full (cells_of prog f.function (object.Alloca (record { 0 = a }))) (Local f.home a) u
    sets_kept function block a l region is lab held = own_kept a _ (good.sets function block a l region is lab held)

    -- the frame at another place of its function
    pub moved_values : (h : Frame) (q : Path) → h.function ≡ f.function → h.home ≡ f.home → length p ≤ length q → ((k : ℕ) → k < parameters_of prog f.function → h.registers k ≡ f.registers k) →
        ((function : Function) (block : Block) (a : ℕ) (l : Labels) (region : Option RegisterId) → IsBlock prog f.function h.block function block → IsLabelled function a l → IsHeldAt function l a region h.block block h.index → Full (cells_of prog f.function (object.Alloca (record { 0 = a }))) (Local f.home a) u) →
        ((j : ℕ) (d : RegisterId) (name : ObjectName) (index : Operand) (c : Cell) → j < h.index → item_at prog f.function h.block j ≡ Some (Does (instruction.ElementPointer d name index)) → cell_of (h.registers d.0) ≡ Some c → LiesIn prog h name c) →
        HasValues prog q h u
    moved_values h q fn home low same sets elements = record {
      home = let l : length f.home ≤ length p = good.home in rw home (omega arith);
      given = λ k c less at.
          let within : k < parameters_of prog f.function = subst (λ n. k < parameters_of prog n) fn less in
          let old = good.given k c within (ap cell_of (sym (same k within)) ∙ at) in (
            shallower (suc (length p)) (suc (length q)) c.object (omega arith) old.0,
            subst (λ n. Full (cells_of prog n (object.Parameter (record { 0 = k }))) c.object u) (sym fn) (full_kept _ c.object m u (λ x e g. keep x (subst (λ o. Shallow (suc (length p)) o) (sym e) old.0) g) old.1),
          );
      globals = λ g. full_kept _ (Shared g) m u (λ x e g2. keep x (subst (λ o. Shallow (suc (length p)) o) (sym e) tt) g2) (good.globals g);
      sets = λ function block a l region is lab held.
          subst (λ n. Full (cells_of prog n (object.Alloca (record { 0 = a }))) (Local h.home a) u) (sym fn)
          (subst (λ (x : Path). Full (cells_of prog f.function (object.Alloca (record { 0 = a }))) (Local x a) u) (sym home) (sets function block a l region (subst (λ n. IsBlock prog n h.block function block) fn is) lab held));
      elements = λ j d name index c less at holds. elements j d name index c less (subst (λ n. item_at prog n h.block j ≡ Some (Does (instruction.ElementPointer d name index))) fn at) holds;
    }

    -- at the start of a block, nothing of it is done
    pub no_elements : (h : Frame) → h.index ≡ 0 → (j : ℕ) (d : RegisterId) (name : ObjectName) (index : Operand) (c : Cell) → j < h.index → item_at prog f.function h.block j ≡ Some (Does (instruction.ElementPointer d name index)) → cell_of (h.registers d.0) ≡ Some c → LiesIn prog h name c
    no_elements h start j d name index c less at holds = absurd (omega (arith, start, less))

    -- what stood behind the end of a block that leads here
    pub sets_along : (t : Terminator) (w : Way) (to : ℕ) → item_at prog f.function f.block f.index ≡ Some (Ends t) → LeadsTo t w to →
        ((function : Function) (a : ℕ) (l : Labels) → slice_get prog.functions f.function ≡ Some function → IsLabelled function a l → BroughtByChild function a l f.block w → Full (cells_of prog f.function (object.Alloca (record { 0 = a }))) (Local f.home a) u) →
        (function : Function) (block : Block) (a : ℕ) (l : Labels) (region : Option RegisterId) → IsBlock prog f.function to function block → IsLabelled function a l → IsHeldAt function l a region to block 0 → Full (cells_of prog f.function (object.Alloca (record { 0 = a }))) (Local f.home a) u
    sets_along t w to at leads brought function block a l region is lab held =
        let s = stands prog f.function f.block f.index (Ends t) at in
        let end = end_there s.block.steps s.block.ending f.index t s.item in
        let one : s.function ≡ function = one_result (slice_get prog.functions f.function) s.function function s.is.at_function is.at_function in
        let from : IsBlock prog f.function f.block function s.block = subst (λ (x : Function). IsBlock prog f.function f.block x s.block) one s.is in
        let along = edge_behind prog f.function f.block to function s.block block end.0 w from end.1 is.at_block (subst (λ (x : Terminator). LeadsTo x w to) (sym end.2) leads) in
        elim (held_before function a l f.block s.block from.at_block to block w region lab along held) [
          | inl h ↦ sets_kept function s.block a l h.0 from lab (subst (λ (n : ℕ). IsHeldAt function l a h.0 f.block s.block n) (sym end.3) h.1)
          | inr h ↦ brought function a l is.at_function lab h
        ]

    pub no_child : (w : Way) → w ≢ way.Continued → (function : Function) (a : ℕ) (l : Labels) → slice_get prog.functions f.function ≡ Some function → IsLabelled function a l → BroughtByChild function a l f.block w → Full (cells_of prog f.function (object.Alloca (record { 0 = a }))) (Local f.home a) u
    no_child w other function a l at lab h = absurd (other h.0)

    -- behind a step of the block
    pub next_values : (h : Frame) (what : Instruction) → h.function ≡ f.function → h.home ≡ f.home → h.block ≡ f.block → h.index ≡ suc f.index → item_at prog f.function f.block f.index ≡ Some (Does what) →
        ((x : ℕ) → dest_of what ≢ Some x → h.registers x ≡ f.registers x) →
        ((function : Function) (s : Step) (steps : List Step) (a : ℕ) → slice_get prog.functions f.function ≡ Some function → s.instruction ≡ what → Contains (gives (step_cells function.allocas steps s)) a → Full (cells_of prog f.function (object.Alloca (record { 0 = a }))) (Local f.home a) u) →
        ((d : RegisterId) (name : ObjectName) (index : Operand) (c : Cell) → what ≡ instruction.ElementPointer d name index → cell_of (h.registers d.0) ≡ Some c → (object_at f name ≡ Some c.object) × (c.index < cells_of prog f.function name)) →
        HasValues prog p h u
    next_values h what fn home block index at others stores points = moved_values h p fn home (omega arith) stays sets elements
      where
        stays : (k : ℕ) → k < parameters_of prog f.function → h.registers k ≡ f.registers k
        stays k less = others k (dest_above f.function f.block f.index k what at less)

        sets : (function : Function) (b : Block) (a : ℕ) (l : Labels) (region : Option RegisterId) → IsBlock prog f.function h.block function b → IsLabelled function a l → IsHeldAt function l a region h.block b h.index → Full (cells_of prog f.function (object.Alloca (record { 0 = a }))) (Local f.home a) u
        sets function b a l region is lab held =
            let here : IsBlock prog f.function f.block function b = subst (λ n. IsBlock prog f.function n function b) block is in
            let now : IsHeldAt function l a region f.block b (suc f.index) = subst (λ n. IsHeldAt function l a region n b (suc f.index)) block (subst (λ n. IsHeldAt function l a region h.block b n) index held) in
            by function b a l region here lab now
          where
            by : (function : Function) (b : Block) (a : ℕ) (l : Labels) (region : Option RegisterId) → IsBlock prog f.function f.block function b → IsLabelled function a l → IsHeldAt function l a region f.block b (suc f.index) → Full (cells_of prog f.function (object.Alloca (record { 0 = a }))) (Local f.home a) u
            by function b a l region here lab (inl k) = sets_kept function b a l region here lab (inl k)
            by function b a l region here lab (inr (inl k)) = sets_kept function b a l region here lab (inr (inl k))
            by function b a l region here lab (inr (inr k)) =
                let s = stands prog f.function f.block f.index (Does what) at in
                let one : s.function ≡ function = one_result (slice_get prog.functions f.function) s.function function s.is.at_function here.at_function in
                let two : s.block ≡ b = one_result (slice_get function.blocks f.block) s.block b (subst (λ (x : Function). slice_get x.blocks f.block ≡ Some s.block) one s.is.at_block) here.at_block in
                let step = step_there s.block.steps s.block.ending f.index what s.item in
                let there : slice_get b.steps f.index ≡ Some step.0 = subst (λ (x : Block). slice_get x.steps f.index ≡ Some step.0) two step.1 in
                elim (stored_step function.allocas b.steps b.steps f.index a step.0 there k) [
                  | inl c ↦ sets_kept function b a l region here lab (inr (inr c))
                  | inr c ↦ stores function step.0 b.steps a here.at_function step.2 c
                ]

        elements : (j : ℕ) (d : RegisterId) (name : ObjectName) (i : Operand) (c : Cell) → j < h.index → item_at prog f.function h.block j ≡ Some (Does (instruction.ElementPointer d name i)) → cell_of (h.registers d.0) ≡ Some c → LiesIn prog h name c
        elements j d name i c less is holds =
            let there : item_at prog f.function f.block j ≡ Some (Does (instruction.ElementPointer d name i)) = subst (λ n. item_at prog f.function n j ≡ Some (Does (instruction.ElementPointer d name i))) block is in
            let object_is : object_at h name ≡ object_at f name = object_stays f h name home stays (element_named f.function f.block j d name i there) in
            elim (eqb_tells j f.index) [
              | inl e ↦
                  let now : item_at prog f.function f.block f.index ≡ Some (Does (instruction.ElementPointer d name i)) = subst (λ n. item_at prog f.function f.block n ≡ Some (Does (instruction.ElementPointer d name i))) e.1 there in
                  let same : what ≡ instruction.ElementPointer d name i = same_item what (instruction.ElementPointer d name i) (sym at ∙ now) in
                  let k = points d name i c same holds in
                  record { object = object_is ∙ k.0; within = subst (λ n. c.index < cells_of prog n name) (sym fn) k.1 }
              | inr e ↦
                  let before : j < f.index = omega (arith, less, index, e.1) in
                  let old = good.elements j d name i c before there (ap cell_of (sym (others d.0 (apart j d name i before there))) ∙ holds) in
                  record { object = object_is ∙ old.object; within = subst (λ n. c.index < cells_of prog n name) (sym fn) old.within }
            ]
          where
            same_item : (x y : Instruction) → Some (Does x) ≡ Some (Does y) → x ≡ y
            same_item x y e = cc

            apart : (j : ℕ) (d : RegisterId) (name : ObjectName) (i : Operand) → j < f.index → item_at prog f.function f.block j ≡ Some (Does (instruction.ElementPointer d name i)) → dest_of what ≢ Some d.0
            apart j d name i before there dest =
                let s = stands prog f.function f.block f.index (Does what) at in
                let once = named.once f.function s.function s.is.at_function in
                let one = once.steps f.block f.block j f.index d.0 (defines_here prog f.function f.block j d.0 s.function (instruction.ElementPointer d name i) s.is.at_function there refl) (defines_here prog f.function f.block f.index d.0 s.function what s.is.at_function at dest) in
                omega (arith, one.1, before)

  -- ---- what the rest of a frame leaves

  -- the frame that goes on leaves what the frame before it does
  pub finds_along : (p : Path) (f h : Frame) (m u : Memory) (o : Outcome) → ((c : Cell) → Shallow (length p) c.object → is_some (m c) ≡ true → is_some (u c) ≡ true) → h.function ≡ f.function → h.home ≡ f.home →
      ((function : Function) (task : List ℕ) → slice_get prog.functions f.function ≡ Some function → HasTask (graph_of function).blocks f.block task → ((target : Block) × IsBlock prog f.function h.block function target) × HasTask (graph_of function).blocks h.block task) →
      KeepsValues prog p h u o → (v : Outcome) → v.ending ≡ o.ending → v.memory ≡ o.memory → KeepsValues prog p f m v
  finds_along p f h m u o keep fn home goes k v ending memory = record {
    keeps = λ c s g. rw memory (k.keeps c s (keep c s g));
    child = λ left function block a l task is lab has all.
        let to = goes function task is.at_function has in
        let r : Full (cells_of prog h.function (object.Alloca (record { 0 = a }))) (Local h.home a) o.memory = k.child (sym ending ∙ left) function to.0.0 a l task (subst (λ n. IsBlock prog n h.block function to.0.0) (sym fn) to.0.1) lab to.1 all in
        rw memory (subst (λ n. Full (cells_of prog n (object.Alloca (record { 0 = a }))) (Local f.home a) o.memory) fn (subst (λ (x : Path). Full (cells_of prog h.function (object.Alloca (record { 0 = a }))) (Local x a) o.memory) home r));
  }

  pub goes_same : (f h : Frame) (what : Instruction) → item_at prog f.function f.block f.index ≡ Some (Does what) → h.block ≡ f.block → (function : Function) (task : List ℕ) → slice_get prog.functions f.function ≡ Some function → HasTask (graph_of function).blocks f.block task →
      ((target : Block) × IsBlock prog f.function h.block function target) × HasTask (graph_of function).blocks h.block task
  goes_same f h what at block function task is has =
      let s = stands prog f.function f.block f.index (Does what) at in
      let one : s.function ≡ function = one_result (slice_get prog.functions f.function) s.function function s.is.at_function is in
      let from : IsBlock prog f.function f.block function s.block = subst (λ (x : Function). IsBlock prog f.function f.block x s.block) one s.is in
      ((s.block, subst (λ n. IsBlock prog f.function n function s.block) (sym block) from), subst (λ n. HasTask (graph_of function).blocks n task) (sym block) has)

  pub goes_along : (f h : Frame) (t : Terminator) (w : Way) → ((ds : List ℕ) → ds ≡ task_along w f.block ds) → item_at prog f.function f.block f.index ≡ Some (Ends t) → LeadsTo t w h.block → (function : Function) (task : List ℕ) → slice_get prog.functions f.function ≡ Some function → HasTask (graph_of function).blocks f.block task →
      ((target : Block) × IsBlock prog f.function h.block function target) × HasTask (graph_of function).blocks h.block task
  goes_along f h t w same at leads function task is has =
      let to = arrives prog named f.function f.block f.index h.block t w at leads in
      let one : to.function ≡ function = one_result (slice_get prog.functions f.function) to.function function to.from.at_function is in
      let before : HasTask (graph_of to.function).blocks f.block task = subst (λ (x : Function). HasTask (graph_of x).blocks f.block task) (sym one) has in
      let after : HasTask (graph_of to.function).blocks h.block task = subst (λ ds. HasTask (graph_of to.function).blocks h.block ds) (sym (same task)) (to.along task before) in
      ((to.target, subst (λ (x : Function). IsBlock prog f.function h.block x to.target) one to.is), subst (λ (x : Function). HasTask (graph_of x).blocks h.block task) one after)

  -- ---- each kind of step

  same_memory : (p : Path) (m : Memory) (c : Cell) → Shallow (suc (length p)) c.object → is_some (m c) ≡ true → is_some (m c) ≡ true
  same_memory p m c s h = h

  pub plain_next : (p : Path) (f : Frame) (m : Memory) (e : Effect) → HasValues prog p f m → action_of prog p f m ≡ Plain e → e.trap ≡ None → Moves prog f e → HasValues prog p (went f e) (written e m)
  plain_next p f m e good act fine (is_next what at on) =
      let same : instruction_action prog p f m what ≡ Plain e = sym (ap (λ o. item_action prog p f m o) at) ∙ act in
      next_values p f m (written e m) good (λ c s g. plain_keeps prog p f m e act c g) (went f e) what refl refl on.block on.index at on.others
      (λ function s steps a is does c. step_stores prog p f m function is what steps s.line a e (λ n b z. objects.zeros f.function f.block f.index n b (at ∙ ap (λ x. Some (Does x)) z)) same fine (subst (λ x. Contains (gives (instruction_cells function.allocas steps s.line x)) a) does c))
      (λ d name index c is holds. pointed f d (cells_of prog f.function name) (object_at f name) (word_at f.registers index) e c (same_effect d name index e (ap (λ x. instruction_action prog p f m x) (sym is) ∙ same)) fine holds)
    where
      same_effect : (d : RegisterId) (name : ObjectName) (index : Operand) (e : Effect) → instruction_action prog p f m (instruction.ElementPointer d name index) ≡ Plain e → given f (object_at f name) (λ o. given f (word_at f.registers index) (points f d (cells_of prog f.function name) o)) ≡ e
      same_effect d name index e h = cc
  plain_next p f m e good act fine (is_along t at to on) =
      let there = arrives prog named f.function f.block f.index e.block t way.Branch at to in
      moved_values p f m (written e m) good (λ c s g. plain_keeps prog p f m e act c g) (went f e) p refl refl (omega arith)
      (along_stays f e.block e.registers there.function there.target there.is on.along)
      (λ function block a l region is lab held. sets_along p f m (written e m) good (λ c s g. plain_keeps prog p f m e act c g) t way.Branch e.block at to (no_child p f m (written e m) good (λ c s g. plain_keeps prog p f m e act c g) way.Branch (λ h. cc)) function block a l region is lab (subst (λ n. IsHeldAt function l a region e.block block n) on.index held))
      (no_elements p f m (written e m) good (λ c s g. plain_keeps prog p f m e act c g) (went f e) on.index)

  pub plain_finds : (p : Path) (f : Frame) (m : Memory) (e : Effect) → action_of prog p f m ≡ Plain e → Moves prog f e → (o : Outcome) → KeepsValues prog p (went f e) (written e m) o → KeepsValues prog p f m (one_more o)
  plain_finds p f m e act (is_next what at on) o k = finds_along p f (went f e) m (written e m) o (λ c s g. plain_keeps prog p f m e act c g) refl refl (goes_same f (went f e) what at on.block) k (one_more o) refl refl
  plain_finds p f m e act (is_along t at to on) o k = finds_along p f (went f e) m (written e m) o (λ c s g. plain_keeps prog p f m e act c g) refl refl (goes_along f (went f e) t way.Branch (λ ds. refl) at to) k (one_more o) refl refl
