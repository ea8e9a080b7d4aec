-- A call: the callee keeps to its zones, the caller waits, and goes on with the result.
use Rattle.std.proofs.Common.{◌≡◌, ◌≢◌, ◌∙◌, inl, inr, ℕ, ℤ, List, [], ◌∷◌, length, Option, Some, None, refl, sym, ap, subst, arith, slice_get}
use Rattle.std.specs.List.{Contains}
use Rattle.std.proofs.lemmas.Bool.{cases_eq, ne_eqb}
use Rattle.linear.specs.declared.form.RegisterId.{RegisterId}
use Rattle.semantics.specs.Paths.{Path}
use Rattle.semantics.specs.Below.{itself}
use Rattle.semantics.specs.Cells.{Cell, Memory}
use Rattle.semantics.specs.Frames.{Value, Word, OnCall, Frame, Does, item_at, set_register}
use Rattle.semantics.specs.Effect.{Call, action_of}
use Rattle.semantics.specs.State.{called, waiting, resumed, with_result}
use Rattle.semantics.specs.SerialMeaning.{Gave}
use Rattle.semantics.specs.SerialMeaning.{both_outcomes, at_last}
use Rattle.semantics.proofs.Outcomes.{gave_same}
use Rattle.laws_conditions.specs.theorem.Conditions.{Covers, Clear, Going}
use Rattle.program.specs.declared.annotation.Zone.{Zone}
use Rattle.program.specs.declared.function.Block.{Block}
use Rattle.program.specs.declared.function.Function.{Function}
use Rattle.program.specs.declared.function.Program.{Program}
use Rattle.program.specs.declared.identifier.FunctionId.{FunctionId}
use Rattle.program.specs.declared.identifier.ObjectName.{ObjectName}
use Rattle.program.specs.declared.instruction.Argument.{Argument}
use Rattle.program.specs.declared.instruction.Instruction.{Instruction}
use Rattle.program.specs.declared.instruction.Instruction.TheVariants as instruction
use Rattle.program.specs.declared.instruction.Operand.{Operand}
use Rattle.types.specs.Apart.{parameters_at}
use Rattle.types.specs.Definitions.{IsFrom}
use Rattle.laws_phases.specs.region_match.declared.tables.Regions.{Regions}
use Rattle.laws_phases.specs.region_match.Tasks.{innermost}
use Rattle.laws_phases.specs.footprints.Rules.{covering_of}
use Rattle.program.specs.Heads.{parameters_in}
use Rattle.laws_conditions.specs.rules.Moves.{number_of, Calls}
use Rattle.laws_conditions.proofs.rules.Moves.{calls_here}
use Rattle.laws_phases.specs.defined.Placed.{IsPlaced}
use Rattle.laws_phases.proofs.defined.Regions.{values_length}
use Rattle.laws_phases.specs.facts.Known.{KnownHold}
use Rattle.laws_phases.specs.facts.Kept.{IsEnsured}
use Rattle.laws_schedule.proofs.pointers.Kept.{CallIs, Agrees, agrees_set, Passes, action_passes}
use Rattle.laws_schedule.proofs.pointers.Passed.{called_knows}
use Rattle.laws_phases.specs.zones.Uses.{StandsIn, HoldsCell, task_of, MayUse}
use Rattle.laws_phases.specs.zones.Callees.{IsOverParameters}
use Rattle.laws_phases.proofs.zones.Callees.{callees_let}
use Rattle.laws_schedule.specs.zones.Keeping.{Keeping, OfTask, kept_cells, pending_at, ElementsAreKept, IsBehindCall, Fits, Expects}
use Rattle.laws_schedule.specs.zones.ByPhases.{IsJudged, GivesWidths}
use Rattle.laws_schedule.proofs.zones.Zones.{IsOutside, IsOff}
use Rattle.laws_schedule.proofs.zones.Tasks.{task_is}
use Rattle.laws_schedule.proofs.zones.Clear.{lets_zones}
use Rattle.laws_schedule.proofs.zones.Elements.{Sets, known_holds, names_are_apart, elements_behind}
use Rattle.laws_schedule.proofs.zones.Passing.{region_covers, pending_stays, next_fits}
use Rattle.laws_schedule.proofs.zones.Meeting.{new_covered, new_clear}
use Rattle.laws_schedule.proofs.zones.Stepping.{facts, tasks, ensured_from, here, names_on, never_waits, covering_stays, waiting_stays}
use Rattle.laws_schedule.proofs.Waits.{free_never, same_call}

-- a call's result goes into its register alone
set_apart : (r : RegisterId) (v : Value) (registers : ℕ → Option Value) (x : ℕ) → r.0 ≢ x → set_register registers r v x ≡ registers x
set_apart r v registers x apart = rw (ne_eqb r.0 x apart) refl

some_apart : (r : RegisterId) (x : ℕ) → (Some r.0 ≡ Some x → ⊥) → r.0 ≢ x
some_apart r x h e = h (ap (λ n. Some n) e)

result_outside : (f : Frame) (d : Option RegisterId) (result : Option ℤ) (x : ℕ) → (number_of d ≡ Some x → ⊥) → with_result f.registers d result x ≡ f.registers x
result_outside f None result x off = refl
result_outside f (Some r) None x off = refl
result_outside f (Some r) (Some v) x off = set_apart r (Word v) f.registers x (some_apart r x off)

result_agrees : (n : ℕ) (f : Frame) (d : Option RegisterId) (v : Option ℤ) → IsFrom n d → Agrees n f.registers (with_result f.registers d v)
result_agrees n f None v h x w = refl
result_agrees n f (Some r) None h x w = refl
result_agrees n f (Some r) (Some z) h x w = agrees_set n f.registers f.registers r (Word z) (λ y u. refl) h x w

call_is_no_element : (d : Option RegisterId) (g : FunctionId) (arguments : List Argument) (r : RegisterId) (name : ObjectName) (index : Operand) →
    instruction.Call d g arguments ≡ instruction.ElementPointer r name index → ⊥
call_is_no_element d g arguments r name index e = cc

module _ (prog : Program) (regions : Regions) (judged : IsJudged prog regions) (base : Path → Frame → Type 0) (gives : GivesWidths prog base) (p : Path) (f : Frame) (z : Keeping) (fits : Fits prog regions base p f z) where
  abbrev function : Function
  function = fits.placed.function

  abbrev block : Block
  block = fits.placed.block

  in_block : StandsIn prog f function block
  in_block = here prog regions judged base gives p f z fits

  module _ (m : Memory) (d : Option RegisterId) (callee : ℕ) (values : List Value) (going : Going f) (act : action_of prog p f m ≡ Call d callee values) where
    known : KnownHold prog f
    known = fits.knows going

    call : Calls prog f d callee values
    call = calls_here prog p f m d callee values act

    passes : CallIs prog f d callee values
    passes = subst (Passes prog f) act (action_passes prog judged.parameters p f m)

    abbrev child : Frame
    child = called p f callee values

    based_child : base (f.made ∷ p) child
    based_child = gives.kept.callee p f m d callee values fits.based going act

    pub placed_child : IsPlaced prog child
    placed_child = (tasks prog regions judged base gives).callee_kept p f m d callee values tt fits.placed act tt

    known_child : KnownHold prog child
    known_child = (facts prog regions judged base gives).callee_kept p f m d callee values fits.based known act based_child

    -- ---- the callee

    abbrev zones : List Zone
    zones = placed_child.function.zones

    many : length values ≡ length placed_child.function.parameters
    many =
        values_length f call.arguments values call.values_are ∙ judged.named.arguments f.function f.block f.index d call.function call.arguments call.is
        ∙ ap (λ n. parameters_in (slice_get prog.functions n)) call.number ∙ ap parameters_in placed_child.is.at_function

    over : (y : Zone) → Contains zones y → IsOverParameters (length values) y
    over y within = subst (λ n. IsOverParameters n y) (sym many) (judged.names.over callee placed_child.function placed_child.is.at_function y within)

    may : (y : Zone) → Contains zones y → (c : Cell) → HoldsCell child y c → MayUse regions f function block y.mode c
    may y within c holds =
        callees_let prog regions judged.zones p f m function block in_block (known_holds prog f function block in_block known) (names_are_apart prog f function block in_block regions judged p fits.names)
        d callee values act placed_child.function placed_child.is.at_function y within (over y within) c holds

    abbrev pub keeping : Keeping
    keeping = OfTask child zones (f.made ∷ p)

    pub callee_covered : Covers (kept_cells prog z) (kept_cells prog keeping)
    callee_covered = new_covered prog regions judged base p f z fits child zones may

    pub callee_clear : (r : ℕ) → Clear (kept_cells prog keeping) (kept_cells prog (pending_at prog p f r))
    callee_clear = new_clear prog regions judged base p f z fits child zones may

    child_task : task_of regions child ≡ innermost []
    child_task = task_is prog regions judged.tasks callee 0 placed_child.function placed_child.block placed_child.is [] ([], refl, refl)

    covering_is : (g : Function) → slice_get prog.functions callee ≡ Some g → covering_of g (task_of regions child) ≡ zones
    covering_is g at =
        let same : g ≡ placed_child.function = (let both : Some g ≡ Some placed_child.function = sym at ∙ placed_child.is.at_function in cc) in
        ap (λ t. covering_of g t) child_task ∙ ap (λ (x : Function). x.zones) same

    pub callee_fits : Fits prog regions base (f.made ∷ p) child keeping
    callee_fits = record {
      placed = placed_child;
      based = based_child;
      knows = λ g. known_child;
      elements = λ j r name index c less there cell. absurd (omega (arith, less));
      names = called_knows prog judged.apart p f fits.names d callee values passes;
      at_home = itself;
      own = λ h. refl;
      covers = λ g at y within c holds.
          let within2 : Contains zones y = subst (λ ys. Contains ys y) (covering_is g at) within in
          lets_zones prog child zones (f.made ∷ p) y within2 c holds;
      owns = λ c below. (inr below, inr below);
      returns = λ v h role. h;
      awaits = λ k e w. absurd (free_never k e w);
    }

    -- ---- the caller waits

    abbrev pause : Frame
    pause = waiting f d

    abbrev what : Instruction
    what = instruction.Call d call.function call.arguments

    awaiting : (k : ℕ) (e : Option RegisterId) → pause.waits ≡ OnCall k e → IsFrom (parameters_at prog.functions f.function) e
    awaiting k e w = subst (λ o. IsFrom (parameters_at prog.functions f.function) o) (same_call f.made k d e w) passes.result_above

    behind : (k : ℕ) (e : Option RegisterId) → pause.waits ≡ OnCall k e → IsBehindCall prog pause e
    behind k e w = subst (IsBehindCall prog pause) (same_call f.made k d e w) (record { before = f.index; index = refl; callee = call.function; arguments = call.arguments; is = call.is })

    placed_pause : IsPlaced prog pause
    placed_pause =
        let x = ((tasks prog regions judged base gives).resumed_kept p f m d callee values tt fits.placed act tt (at_last (Gave None) m) None refl tt tt).next in
        record { function = x.function; block = x.block; is = x.is; within = x.within; task = x.task; has_task = x.has_task; suits = x.suits }

    pause_elements : ElementsAreKept prog pause
    pause_elements j r name index c less there cell = elim (cases_eq j f.index) [
      | inl e ↦
          let both : Some (Does what) ≡ Some (Does (instruction.ElementPointer r name index)) = sym call.is ∙ ap (λ n. item_at prog f.function f.block n) (sym e) ∙ there in
          let is : what ≡ instruction.ElementPointer r name index = cc in
          absurd (call_is_no_element d call.function call.arguments r name index is)
      | inr apart ↦ fits.elements j r name index c (omega (arith, less, apart)) there cell
    ]

    none_outside : IsOutside (λ x. ⊥) f pause
    none_outside = record { home = refl; registers = λ x off. refl }

    none_off : (y : Zone) → IsOff (λ x. ⊥) y
    none_off y = record { low = λ k t l c. c; high = λ k t l c. c; object = λ r e c. c }

    pub pause_fits : Fits prog regions base p pause z
    pause_fits =
        next_fits prog regions judged base p f z fits pause (λ x. ⊥) refl refl none_outside refl (λ y within. none_off y) placed_pause (gives.kept.waits p f m d callee values fits.based going act)
        (λ g. absurd (g f.made d refl)) pause_elements (names_on prog regions judged base gives p f z fits pause refl refl (λ x l. refl) awaiting) (λ v h. record { number = h.number; holds = h.holds }) behind

    pub pause_pending : (r : ℕ) → Covers (kept_cells prog (pending_at prog p pause r)) (kept_cells prog (pending_at prog p f r))
    pause_pending r = region_covers prog f pause p r (omega arith) (pending_stays prog (λ x. ⊥) f pause (record { 0 = r }) refl refl none_outside (λ q within. none_off q.zone))

    -- what it relies on of the callee
    relies : (result : Option ℤ) → IsEnsured prog child result → KnownHold prog (resumed pause d result) × ((v : Option ℤ) → IsEnsured prog (resumed pause d result) v → IsEnsured prog f v)
    relies result ensured =
        let based : base p (resumed pause d result) = gives.kept.resumes p pause f.made d result (gives.kept.waits p f m d callee values fits.based going act) refl in
        let kept = (facts prog regions judged base gives).resumed_kept p f m d callee values fits.based known act based_child (at_last (Gave result) m) result refl
        (λ returned gave. subst (IsEnsured prog child) (gave_same result returned gave) ensured) based in
        (kept.next, ensured_from prog regions judged base gives p p f (resumed pause d result) m m (both_outcomes (at_last (Gave result) m)) kept.finds (λ v. refl))

    pub expected : Expects prog pause keeping
    expected k e result w promised =
        let h = relies result (promised refl) in
        let same : d ≡ e = same_call f.made k d e w in
        let at : Option RegisterId → Type 0 = λ o. KnownHold prog (resumed pause o result) × ((v : Option ℤ) → IsEnsured prog (resumed pause o result) v → IsEnsured prog pause v) in
        subst at same (h.0, λ v k2. let r = h.1 v k2 in record { number = r.number; holds = r.holds })

  -- ---- it goes on

  module _ (y : Keeping) (k : ℕ) (d : Option RegisterId) (result : Option ℤ) (waits : f.waits ≡ OnCall k d) (expects : Expects prog f y) (promised : (kept_cells prog y).gives result) where
    abbrev next : Frame
    next = resumed f d result

    place : IsBehindCall prog f d
    place = fits.awaits k d waits

    abbrev made : Instruction
    made = instruction.Call d place.callee place.arguments

    next_outside : IsOutside (Sets made) f next
    next_outside = record { home = refl; registers = λ x off. result_outside f d result x off }

    placed_next : IsPlaced prog next
    placed_next = let x = fits.placed in record { function = x.function; block = x.block; is = x.is; within = x.within; task = x.task; has_task = x.has_task; suits = x.suits }

    next_elements : ElementsAreKept prog next
    next_elements =
        elements_behind prog f function block in_block regions judged place.before made place.is (omega (arith, place.index)) next refl refl place.index next_outside
        (λ r name index c is cell. absurd (call_is_no_element d place.callee place.arguments r name index is)) fits.elements

    relied : KnownHold prog next × ((v : Option ℤ) → IsEnsured prog next v → IsEnsured prog f v)
    relied = expects k d result waits promised

    pub next_keeps : Fits prog regions base p next z
    next_keeps =
        next_fits prog regions judged base p f z fits next (Sets made) refl refl next_outside refl (covering_stays prog regions judged base gives p f z fits place.before made place.is) placed_next
        (gives.kept.resumes p f k d result fits.based waits) (λ g. relied.0) next_elements
        (names_on prog regions judged base gives p f z fits next refl refl (result_agrees (parameters_at prog.functions f.function) f d result (fits.names.awaits k d waits)) (λ j e w. absurd (free_never j e w)))
        relied.1 (never_waits prog regions judged base gives p f z fits next free_never)

    pub next_pending : (r : ℕ) → Covers (kept_cells prog (pending_at prog p next r)) (kept_cells prog (pending_at prog p f r))
    next_pending r =
        region_covers prog f next p r (omega arith)
        (pending_stays prog (Sets made) f next (record { 0 = r }) refl refl next_outside (waiting_stays prog regions judged base gives p f z fits place.before made place.is))
