-- Each frame knows its objects, in any order of steps.
use Rattle.std.proofs.Common.{◌≡◌, ◌≢◌, ◌∙◌, inl, inr, ℕ, zero, suc, map, ◌<◌, ◌≤◌, List, [], ◌∷◌, Option, Some, None, refl, sym, ap, subst, arith, slice_get, ℤ}
use Rattle.std.proofs.lemmas.Bool.Decides.{eqb_tells}
use Rattle.linear.specs.declared.form.RegisterId.{RegisterId}
use Rattle.semantics.specs.Paths.{Path}
use Rattle.semantics.specs.Below.{Under, itself, deeper}
use Rattle.semantics.specs.Cells.{Object, Shared, Local, Cell, Memory}
use Rattle.semantics.specs.Frames.{Value, Word, Registers, OnRegion, OnCall, Frame, Does, and_then, item_at, global_cells, cells_of, cell_of, object_at, word_at}
use Rattle.semantics.specs.Effect.{Effect, Plain, Sync, given, points, instruction_action, item_action, action_of}
use Rattle.semantics.specs.State.{State, Change, apply, went, detached, continued, synced, called, waiting, resumed, root_frame, start_state}
use Rattle.semantics.specs.Tree.{Tree}
use Rattle.semantics.proofs.Starting.{start_tree}
use Rattle.semantics.proofs.Steps.{Does as DoesStep}
use Rattle.semantics.proofs.TreeKept.{step_keeps_tree}
use Rattle.program.specs.declared.function.Program.{Program}
use Rattle.program.specs.declared.identifier.FunctionId.{FunctionId}
use Rattle.program.specs.declared.identifier.ObjectName.{ObjectName}
use Rattle.program.specs.declared.identifier.ObjectName.TheVariants as object
use Rattle.program.specs.declared.instruction.Argument.{Argument}
use Rattle.program.specs.declared.instruction.Argument.TheVariants as argument
use Rattle.program.specs.declared.instruction.Instruction.{Instruction}
use Rattle.program.specs.declared.instruction.Instruction.TheVariants as instruction
use Rattle.program.specs.declared.instruction.Operand.{Operand}
use Rattle.laws_phases.specs.cfg.declared.structure.Way.TheVariants as way
use Rattle.laws_conditions.specs.rules.Costs.{parameters_of}
use Rattle.laws_conditions.specs.rules.Moves.{number_of, dest_of, Calls}
use Rattle.laws_conditions.specs.rules.InProofs.{Moves, is_next, is_along}
use Rattle.laws_conditions.proofs.rules.Moves.{moves, syncs_along, sync_here, calls_here}
use Rattle.laws_phases.specs.defined.Names.{IsNamed}
use Rattle.laws_phases.specs.defined.Values.{NamesObjects}
use Rattle.laws_phases.proofs.defined.Items.{stands}
use Rattle.laws_phases.proofs.defined.Placed.{arrives}
use Rattle.laws_phases.proofs.defined.Values.{result_other, passed_at, passed_object, defines_here, dest_above, along_stays, pointed}
use Rattle.laws_schedule.specs.zones.Keeping.{IsBehindCall}
use Rattle.laws_schedule.specs.safe.Kept.{OfAll}
use Rattle.laws_schedule.specs.safe.Objects.{HasCells, HasCell, HasHome, KnowsObjects, ObjectsAreKnown}
use Rattle.laws_schedule.proofs.safe.Everywhere.{of_first}
use Rattle.laws_schedule.proofs.safe.Made.{PassesOn, all_after}
use Rattle.laws_schedule.proofs.safe.Owners.{StaysAbove, less_cells, cells_stay, stays_above}
use Rattle.laws_schedule.proofs.safe.Replayed.{replay_good}
use Rattle.laws_schedule.proofs.Waits.{free_never}
use Rattle.semantics.proofs.TaskLaws.{under_trans}
use Rattle.semantics.proofs.Diamond.{no_call_after}

-- ---- what a `getelementptr` leaves

-- ---- waits

region_never : (r k : ℕ) (d : Option RegisterId) → OnRegion r ≡ OnCall k d → ⊥
region_never r k d e = cc

module _ (prog : Program) (named : IsNamed prog) (objects : NamesObjects prog) where
  -- ---- the objects that a frame's names stand for

  module _ (s : State) (p : Path) (f : Frame) (knows : KnowsObjects prog s p f) where
    given_cells : (r : RegisterId) (o : Object) → r.0 < parameters_of prog f.function → (held : Option Cell) → cell_of (f.registers r.0) ≡ held → and_then held (λ (c : Cell). Some c.object) ≡ Some o → HasCells prog s p (cells_of prog f.function (object.Parameter r)) o
    given_cells r o low None is e = absurd (cc)
    given_cells r o low (Some c) is e =
        let same : c.object ≡ o = cc in
        let P : Object → Type 0 = λ x. HasCells prog s p (cells_of prog f.function (object.Parameter r)) x in
        subst P same (knows.given r.0 c low is)

    pub object_cells : (name : ObjectName) (o : Object) → ((r : RegisterId) → name ≡ object.Parameter r → r.0 < parameters_of prog f.function) → object_at f name ≡ Some o → HasCells prog s p (cells_of prog f.function name) o
    object_cells (object.Global g) o own e =
        let same : Shared g.0 ≡ o = cc in
        let P : Object → Type 0 = λ x. HasCells prog s p (global_cells (slice_get prog.globals g.0)) x in
        let all : global_cells (slice_get prog.globals g.0) ≤ global_cells (slice_get prog.globals g.0) = omega arith in
        subst P same all
    object_cells (object.Alloca a) o own e =
        let same : Local f.home a.0 ≡ o = cc in
        let P : Object → Type 0 = λ x. HasCells prog s p (cells_of prog f.function (object.Alloca a)) x in
        let all : cells_of prog f.function (object.Alloca a) ≤ cells_of prog f.function (object.Alloca a) = omega arith in
        let home = knows.home in
        subst P same (record {
          above = home.above;
          frame = home.frame;
          lives = home.lives;
          owns = home.owns;
          cells = subst (λ k. cells_of prog f.function (object.Alloca a) ≤ cells_of prog k (object.Alloca a)) (sym home.function) all;
        })
    object_cells (object.Parameter r) o own e = given_cells r o (own r refl) (cell_of (f.registers r.0)) refl e

  -- ---- a frame that goes on, at another place of its function

  abbrev ElementsThere : State → Path → Frame → Type 0
  ElementsThere s p f =
      (j : ℕ) (d : RegisterId) (name : ObjectName) (index : Operand) (c : Cell) → j < f.index → item_at prog f.function f.block j ≡ Some (Does (instruction.ElementPointer d name index)) → cell_of (f.registers d.0) ≡ Some c → HasCell prog s p c

  abbrev Awaits : Frame → Type 0
  Awaits f = (k : ℕ) (d : Option RegisterId) → f.waits ≡ OnCall k d → IsBehindCall prog f d

  abbrev KeepsGiven : Frame → Frame → Type 0
  KeepsGiven f g = (k : ℕ) → k < parameters_of prog f.function → g.registers k ≡ f.registers k

  none_yet : (s : State) (p : Path) (f : Frame) → f.index ≡ 0 → ElementsThere s p f
  none_yet s p f start j d name index c less at holds = absurd (omega (arith, start, less))

  -- what stands at a place of a frame of the same function and block
  same_item : (x y : Instruction) → Some (Does x) ≡ Some (Does y) → x ≡ y
  same_item x y e = cc

  -- one place defines a register
  one_place : (f b i j x : ℕ) (what other : Instruction) → item_at prog f b i ≡ Some (Does what) → item_at prog f b j ≡ Some (Does other) → dest_of what ≡ Some x → dest_of other ≡ Some x → i ≡ j
  one_place f b i j x what other is there dest same =
      let s = stands prog f b i (Does what) is in
      let once = named.once f s.function s.is.at_function in
      (once.steps b b i j x (defines_here prog f b i x s.function what s.is.at_function is dest) (defines_here prog f b j x s.function other s.is.at_function there same)).1

  element_no_call : (f b i j : ℕ) (e : RegisterId) (name : ObjectName) (index : Operand) (d : Option RegisterId) (g : FunctionId) (arguments : List Argument) → item_at prog f b i ≡ Some (Does (instruction.ElementPointer e name index)) →
      item_at prog f b j ≡ Some (Does (instruction.Call d g arguments)) → number_of d ≡ Some e.0 → ⊥
  element_no_call f b i j e name index d g arguments is there dest =
      let same : i ≡ j = one_place f b i j e.0 (instruction.ElementPointer e name index) (instruction.Call d g arguments) is there refl dest in
      let both : Some (Does (instruction.ElementPointer e name index)) ≡ Some (Does (instruction.Call d g arguments)) = sym is ∙ ap (λ n. item_at prog f b n) same ∙ there in
      let one : instruction.ElementPointer e name index ≡ instruction.Call d g arguments = same_item _ _ both in
      cc

  module _ (s t : State) (p q : Path) (f : Frame) (knows : KnowsObjects prog s p f) (stay : StaysAbove s t p q) where
    here_too : (g : Frame) → g.function ≡ f.function → g.block ≡ f.block → (j : ℕ) (what : Instruction) → item_at prog g.function g.block j ≡ Some (Does what) → item_at prog f.function f.block j ≡ Some (Does what)
    here_too g fn block j what is = subst (λ n. item_at prog f.function n j ≡ Some (Does what)) block (subst (λ n. item_at prog n g.block j ≡ Some (Does what)) fn is)

    at_home : (g own : Frame) → g.function ≡ f.function → g.home ≡ f.home → t.frames f.home ≡ Some own → own.home ≡ f.home → own.function ≡ f.function → HasHome t q g
    at_home g own fn home lives owns function = record {
      above = subst (λ (x : Path). Under x q) (sym home) (let h = knows.home in under_trans q h.above stay.below);
      frame = own;
      lives = subst (λ (x : Path). t.frames x ≡ Some own) (sym home) lives;
      owns = owns ∙ sym home;
      function = function ∙ sym fn;
    }

    moved : (g : Frame) → g.function ≡ f.function → g.home ≡ f.home → KeepsGiven f g → ElementsThere t q g → Awaits g → KnowsObjects prog t q g
    moved g fn home keeps elements awaits =
        let old = knows.home in
        let (own, lives, same) = stay.lives f.home old.frame old.above old.lives in
        record {
          home = at_home g own fn home lives (same.home ∙ old.owns) (same.function ∙ old.function);
          given = λ k c less at.
              let within : k < parameters_of prog f.function = subst (λ n. k < parameters_of prog n) fn less in
              subst (λ n. HasCells prog t q (cells_of prog n (object.Parameter (record { 0 = k }))) c.object) (sym fn)
              (cells_stay prog s t p q stay _ c.object (knows.given k c within (ap cell_of (sym (keeps k within)) ∙ at)));
          elements = elements;
          awaits = awaits;
        }

    -- elements of steps whose registers stay
    kept_element : (g : Frame) (j : ℕ) (d : RegisterId) (name : ObjectName) (index : Operand) (c : Cell) → j < f.index → item_at prog f.function f.block j ≡ Some (Does (instruction.ElementPointer d name index)) → g.registers d.0 ≡ f.registers d.0 → cell_of (g.registers d.0) ≡ Some c → HasCell prog t q c
    kept_element g j d name index c less at same holds = cells_stay prog s t p q stay (suc c.index) c.object (knows.elements j d name index c less at (ap cell_of (sym same) ∙ holds))

    same_elements : (g : Frame) → g.function ≡ f.function → g.block ≡ f.block → g.index ≡ f.index →
        ((j : ℕ) (d : RegisterId) (name : ObjectName) (index : Operand) → item_at prog f.function f.block j ≡ Some (Does (instruction.ElementPointer d name index)) → g.registers d.0 ≡ f.registers d.0) → ElementsThere t q g
    same_elements g fn block index same j d name i c less is holds =
        let there : item_at prog f.function f.block j ≡ Some (Does (instruction.ElementPointer d name i)) = here_too g fn block j (instruction.ElementPointer d name i) is in
        kept_element g j d name i c (omega (arith, less, index)) there (same j d name i there) holds

    -- behind a step of the block
    next_elements : (g : Frame) (what : Instruction) → g.function ≡ f.function → g.block ≡ f.block → g.index ≡ suc f.index → item_at prog f.function f.block f.index ≡ Some (Does what) →
        ((x : ℕ) → dest_of what ≢ Some x → g.registers x ≡ f.registers x) →
        ((d : RegisterId) (name : ObjectName) (index : Operand) (c : Cell) → what ≡ instruction.ElementPointer d name index → cell_of (g.registers d.0) ≡ Some c → HasCell prog t q c) → ElementsThere t q g
    next_elements g what fn block index at others new j d name i c less is holds =
        let there : item_at prog f.function f.block j ≡ Some (Does (instruction.ElementPointer d name i)) = here_too g fn block j (instruction.ElementPointer d name i) is in
        elim (eqb_tells j f.index) [
          | inl e ↦
              let now : item_at prog f.function f.block f.index ≡ Some (Does (instruction.ElementPointer d name i)) = subst (λ n. item_at prog f.function f.block n ≡ Some (Does (instruction.ElementPointer d name i))) e.1 there in
              new d name i c (same_item what (instruction.ElementPointer d name i) (sym at ∙ now)) holds
          | inr e ↦
              kept_element g j d name i c (omega (arith, less, index, e.1)) there
              (others d.0 (λ dest. e.1 (one_place f.function f.block j f.index d.0 (instruction.ElementPointer d name i) what there at refl dest))) holds
        ]

  -- ---- the frames that a step makes

  module _ (s : State) (tree : Tree s) (p : Path) (c : Change) (does : DoesStep prog s p c) where
    abbrev t : State
    t = apply c s

    abbrev After : Path → Frame → Type 0
    After x g = t.frames x ≡ Some g → KnowsObjects prog t x g

    stay_at : (x : Path) (u : Frame) → t.frames x ≡ Some u → StaysAbove s t x x
    stay_at x u now = stays_above prog s tree p c does x x u itself now

    stay_child : (k : ℕ) (x : Path) (u : Frame) → t.frames (k ∷ x) ≡ Some u → StaysAbove s t x (k ∷ x)
    stay_child k x u now = stays_above prog s tree p c does x (k ∷ x) u (deeper k itself) now

    never : (w : Frame) → ((k : ℕ) (d : Option RegisterId) → w.waits ≡ OnCall k d → ⊥) → Awaits w
    never w none k d e = absurd (none k d e)

    step_next : (f : Frame) (e : Effect) (what : Instruction) → KnowsObjects prog s p f → action_of prog p f s.memory ≡ Plain e → e.trap ≡ None → item_at prog f.function f.block f.index ≡ Some (Does what) →
        (d : RegisterId) (name : ObjectName) (index : Operand) (x : Cell) → what ≡ instruction.ElementPointer d name index → cell_of (e.registers d.0) ≡ Some x → HasCell prog s p x
    step_next f e what knows act fine at d name index x is holds =
        let here : item_at prog f.function f.block f.index ≡ Some (Does (instruction.ElementPointer d name index)) = at ∙ ap (λ i. Some (Does i)) is in
        let acts : instruction_action prog p f s.memory (instruction.ElementPointer d name index) ≡ Plain e = sym (ap (λ o. item_action prog p f s.memory o) here) ∙ act in
        let same : given f (object_at f name) (λ o. given f (word_at f.registers index) (points f d (cells_of prog f.function name) o)) ≡ e = (let h : Plain (given f (object_at f name) (λ o. given f (word_at f.registers index) (points f d (cells_of prog f.function name) o))) ≡ Plain e = acts in cc) in
        let to = pointed f d (cells_of prog f.function name) (object_at f name) (word_at f.registers index) e x same fine holds in
        less_cells prog s p (suc x.index) (cells_of prog f.function name) x.object (let low = to.1 in omega (arith, low))
        (object_cells s p f knows name x.object (λ r named_so. objects.own f.function f.block f.index (instruction.ElementPointer d name index) r here named_so) to.0)

    after_plain : (f : Frame) (e : Effect) → KnowsObjects prog s p f → action_of prog p f s.memory ≡ Plain e → e.trap ≡ None → Moves prog f e → After p (went f e)
    after_plain f e knows act fine (is_next what at on) now =
        let stay = stay_at p (went f e) now in
        moved s t p p f knows stay (went f e) refl refl
        (λ k less. on.others k (dest_above prog named objects f.function f.block f.index k what at less))
        (next_elements s t p p f knows stay (went f e) what refl on.block on.index at on.others
        (λ d name index x is holds. cells_stay prog s t p p stay (suc x.index) x.object (step_next f e what knows act fine at d name index x is holds)))
        (never (went f e) (no_call_after e.trap))
    after_plain f e knows act fine (is_along term at to on) now =
        let there = arrives prog named f.function f.block f.index e.block term way.Branch at to in
        moved s t p p f knows (stay_at p (went f e) now) (went f e) refl refl
        (along_stays prog named objects f e.block e.registers there.function there.target there.is on.along)
        (none_yet t p (went f e) on.index) (never (went f e) (no_call_after e.trap))

    after_sync : (f : Frame) (r b : ℕ) (rs : Registers) → KnowsObjects prog s p f → action_of prog p f s.memory ≡ Sync r b rs → After p (synced f r b rs)
    after_sync f r b rs knows act now =
        let here = sync_here prog p f s.memory r b rs act in
        let there = arrives prog named f.function f.block f.index b here.0 (way.Synced (record { 0 = r })) here.1 here.2 in
        moved s t p p f knows (stay_at p (synced f r b rs) now) (synced f r b rs) refl refl
        (along_stays prog named objects f b rs there.function there.target there.is (syncs_along prog p f s.memory r b rs act))
        (none_yet t p (synced f r b rs) refl) (never (synced f r b rs) (region_never r))

    after_wait : (f : Frame) (d : Option RegisterId) (callee : ℕ) (vs : List Value) → KnowsObjects prog s p f → Calls prog f d callee vs → After p (waiting f d)
    after_wait f d callee vs knows call now =
        let stay = stay_at p (waiting f d) now in
        moved s t p p f knows stay (waiting f d) refl refl (λ k less. refl)
        (next_elements s t p p f knows stay (waiting f d) (instruction.Call d call.function call.arguments) refl refl refl call.is (λ x other. refl) (λ e name index x is holds. absurd (cc)))
        (λ k e w.
        let same : d ≡ e = (let h : OnCall f.made d ≡ OnCall k e = w in cc) in
        subst (λ (x : Option RegisterId). IsBehindCall prog (waiting f d) x) same
        (record { before = f.index; index = refl; callee = call.function; arguments = call.arguments; is = call.is }))

    after_result : (x : Path) (f : Frame) (k : ℕ) (d : Option RegisterId) (result : Option ℤ) → KnowsObjects prog s x f → f.waits ≡ OnCall k d → After x (resumed f d result)
    after_result x f k d result knows waits now =
        let behind = knows.awaits k d waits in
        let call : Instruction = instruction.Call d behind.callee behind.arguments in
        moved s t x x f knows (stay_at x (resumed f d result) now) (resumed f d result) refl refl
        (λ n less. result_other f.registers d result n (dest_above prog named objects f.function f.block behind.before n call behind.is less))
        (same_elements s t x x f knows (stay_at x (resumed f d result) now) (resumed f d result) refl refl refl
        (λ j e name index at. result_other f.registers d result e.0 (λ dest. element_no_call f.function f.block j behind.before e name index d behind.callee behind.arguments at behind.is dest)))
        (never (resumed f d result) free_never)

    passed_cells : (f : Frame) (d : Option RegisterId) (callee : ℕ) (vs : List Value) → KnowsObjects prog s p f → Calls prog f d callee vs → (k : ℕ) (x : Cell) (o : Option Value) → slice_get vs k ≡ o → cell_of o ≡ Some x → HasCells prog s p (cells_of prog callee (object.Parameter (record { 0 = k }))) x.object
    passed_cells f d callee vs knows call k x None is at = absurd (cc)
    passed_cells f d callee vs knows call k x (Some v) is at =
        let one = passed_at f call.arguments vs k v call.values_are is in
        let two = passed_object f one.0 v x one.2 at in
        let there : slice_get call.arguments k ≡ Some (argument.Object two.0) = one.1 ∙ ap (λ a. Some a) two.1 in
        let large : cells_of prog call.function.0 (object.Parameter (record { 0 = k })) ≤ cells_of prog f.function two.0 = objects.large f.function f.block f.index k d call.function call.arguments two.0 call.is there in
        less_cells prog s p _ (cells_of prog f.function two.0) x.object (subst (λ g. cells_of prog g (object.Parameter (record { 0 = k })) ≤ cells_of prog f.function two.0) call.number large)
        (object_cells s p f knows two.0 x.object
        (λ r is_r. objects.own f.function f.block f.index (instruction.Call d call.function call.arguments) r call.is (k, there ∙ ap (λ n. Some (argument.Object n)) is_r)) two.2)

    after_call : (f : Frame) (d : Option RegisterId) (callee : ℕ) (vs : List Value) → KnowsObjects prog s p f → Calls prog f d callee vs → After (f.made ∷ p) (called p f callee vs)
    after_call f d callee vs knows call now = record {
      home = record { above = itself; frame = called p f callee vs; lives = now; owns = refl; function = refl };
      given = λ k x less at. cells_stay prog s t p (f.made ∷ p) (stay_child f.made p (called p f callee vs) now) _ x.object (passed_cells f d callee vs knows call k x (slice_get vs k) refl at);
      elements = none_yet t (f.made ∷ p) (called p f callee vs) refl;
      awaits = never (called p f callee vs) free_never;
    }

    known_on : PassesOn prog s p (KnowsObjects prog s) After
    known_on = record {
      stays = λ x g is h now.
          moved s t x x g h (stay_at x g now) g refl refl (λ k less. refl) (same_elements s t x x g h (stay_at x g now) g refl refl refl (λ j d name index at. refl)) h.awaits;
      plain = λ f e is h going at fine. after_plain f e h at fine (moves prog p f s.memory e at fine);
      child = λ f r b n is h going at now.
          moved s t p (f.made ∷ p) f h (stay_child f.made p (detached f r b n) now) (detached f r b n) refl refl (λ k less. refl) (none_yet t (f.made ∷ p) (detached f r b n) refl) (never (detached f r b n) free_never);
      continues = λ f r b n is h going at now. moved s t p p f h (stay_at p (continued f n) now) (continued f n) refl refl (λ k less. refl) (none_yet t p (continued f n) refl) (never (continued f n) free_never);
      syncs = λ f r b rs is h going at. after_sync f r b rs h at;
      callee = λ f d g vs is h going at. after_call f d g vs h (calls_here prog p f s.memory d g vs at);
      waits = λ f d g vs is h going at. after_wait f d g vs h (calls_here prog p f s.memory d g vs at);
      resumes = λ x g k d result is h waits. after_result x g k d result h waits;
    }

    pub step_known : c.trap ≡ None → OfAll s (KnowsObjects prog s) → OfAll t (KnowsObjects prog t)
    step_known fine all x g is = all_after prog s p (KnowsObjects prog s) After known_on all c does fine x g is is

  -- the tree of frames, with what they know
  pub record Known (s : State) : Type 0 where
    pub tree : Tree s
    pub known : OfAll s (KnowsObjects prog s)

  pub known_kept : (s : State) (p : Path) (c : Change) → DoesStep prog s p c → c.trap ≡ None → Known s → Known (apply c s)
  known_kept s p c does fine k = record { tree = step_keeps_tree k.tree does; known = step_known s k.tree p c does fine k.known }

  -- the first frame was given numbers alone
  no_cell : (zs : List ℤ) (k : ℕ) (c : Cell) → cell_of (slice_get (map (λ z. Word z) zs) k) ≡ Some c → ⊥
  no_cell [] k c e = cc
  no_cell (z ∷ zs) zero c e = cc
  no_cell (z ∷ zs) (suc k) c e = no_cell zs k c e

  pub first_known : (arguments : List ℤ) (memory : Memory) → Known (start_state prog arguments memory)
  first_known arguments memory = record {
    tree = start_tree prog arguments memory;
    known = of_first prog arguments memory (KnowsObjects prog (start_state prog arguments memory)) (record {
      home = record { above = itself; frame = root_frame prog arguments; lives = refl; owns = refl; function = refl };
      given = λ k c less at. absurd (no_cell arguments k c at);
      elements = none_yet (start_state prog arguments memory) [] (root_frame prog arguments) refl;
      awaits = λ k d e. absurd (free_never k d e);
    });
  }

pub objects_are_known : ObjectsAreKnown
objects_are_known prog named objects arguments memory workers never events =
    (replay_good prog workers (Known prog named objects) (known_kept prog named objects) events _ never (first_known prog named objects arguments memory)).known
