-- The zones of a program that a module means.
use Rattle.std.proofs.Common.{◌≡◌, ℕ, ◌<◌, List, [], length, map, Option, Some, sym, ap, ◌∙◌, subst, arith, Ok}
use Rattle.std.specs.Prelude.{slice_get}
use Rattle.std.specs.List.{Contains}
use Rattle.std.proofs.lemmas.List.{length-map}
use Rattle.std.proofs.lemmas.List.Elements.{All-weaker}
use Rattle.linear.specs.declared.form.RegisterId.{RegisterId}
use Rattle.linear.specs.declared.form.Term.{Term}
use Rattle.semantics.specs.Frames.{and_then, Does, item_of, item_at}
use Rattle.program.specs.declared.annotation.Pending.{Pending}
use Rattle.program.specs.declared.annotation.Zone.{Zone}
use Rattle.program.specs.declared.function.Block.{Block}
use Rattle.program.specs.declared.function.Function.{Function}
use Rattle.program.specs.declared.function.Program.{Program}
use Rattle.program.specs.declared.identifier.ObjectName.{ObjectName}
use Rattle.program.specs.declared.identifier.ObjectName.TheVariants as object
use Rattle.program.specs.declared.instruction.Instruction.{Instruction}
use Rattle.program.specs.declared.instruction.Step.{Step}
use Rattle.syntax.specs.declared.module.Block.{Block as BlockText}
use Rattle.syntax.specs.declared.module.Function.{Function as FunctionText}
use Rattle.syntax.specs.declared.module.Module.{Module}
use Rattle.types.specs.declared.names.form.AnnotationPlace.TheVariants as place
use Rattle.types.specs.names.Item.{items_of}
use Rattle.types.specs.names.Layout.{layout_of}
use Rattle.types.specs.names.Note.{more_zones, zone_of, zones_of, pending_of, all_pending_of}
use Rattle.types.proofs.names.Inversion.{made_ok, both_ok, same_ok, all_at}
use Rattle.types.specs.Apart.{IsNamedBy, in_instruction, in_zone, in_pending, in_foot, InstructionNames, parameters_at}
use Rattle.types.specs.Block.{block_with, block_of}
use Rattle.types.specs.Call.{parameter_of}
use Rattle.types.specs.Function.{function_with, head_zones_of, function_of, functions_of}
use Rattle.types.specs.Meaning.{Means}
use Rattle.laws_conditions.specs.rules.Costs.{parameters_of}
use Rattle.program.specs.Heads.{parameters_in as parameters_there, parameters_in}
use Rattle.laws_phases.proofs.defined.Items.{block_is, item_there}
use Rattle.laws_phases.proofs.defined.Lists.{none_within, at_within}
use Rattle.laws_schedule.proofs.typing.Parts.{FunctionFrom, function_from}
use Rattle.laws_schedule.proofs.typing.Sized.{own}
use Rattle.laws_phases.specs.zones.Callees.{IsOverParameters}
use Rattle.laws_schedule.specs.zones.ByPhases.{NamesZones}
use Rattle.laws_schedule.specs.zones.Named.{ZonesAreNamed, AcceptedZonesAreNamed}
use Rattle.laws_schedule.proofs.zones.Texts.{IsOwn, IsHeadZone, zone_own, pending_own, more_head}

module _ (whole : Module) (program : Program) (m : Means whole (Ok program)) where
  -- ---- the head of a function

  record ZonesFrom (f : ℕ) (function : Function) : Type 0 where
    text : FunctionText
    are : head_zones_of (items_of whole) (layout_of text).scope text.notes ≡ Ok function.zones
    parameters_are : map parameter_of text.parameters ≡ function.parameters

  functions_are : functions_of (items_of whole) whole.functions m.0 ≡ Ok program.functions
  functions_are =
      let made = made_ok _ _ program m.2 in
      (both_ok _ _ made.0 made.1).1 ∙ ap (λ (p : Program). Ok p.functions) made.2

  zones_are : (f : ℕ) (text : FunctionText) (function : Function) → function_of (items_of whole) whole.functions m.0 f text ≡ Ok function → ZonesFrom f function
  zones_are f text function e =
      let made = made_ok _ _ function e in
      let parts = both_ok _ _ made.0 made.1 in
      let head = made_ok _ _ made.0.0 parts.0 in
      let back = (both_ok _ _ head.0 head.1).1 in
      let all = ap (λ (g : List Block → Function). g made.0.1) (ap (function_with text (layout_of text)) head.2) ∙ made.2 in
      record {
        text = text;
        are = (both_ok _ _ head.0.1 back).0 ∙ ap (λ (g : Function). Ok g.zones) all;
        parameters_are = ap (λ (g : Function). g.parameters) made.2;
      }

  module _ (f : ℕ) (function : Function) (at : slice_get program.functions f ≡ Some function) where
    from : ZonesFrom f function
    from =
        let found = all_at (function_of (items_of whole) whole.functions m.0) whole.functions program.functions f function functions_are at in
        zones_are f found.0 function found.2

    count_of : (text : FunctionText) → map parameter_of text.parameters ≡ function.parameters → length function.parameters ≡ length text.parameters
    count_of text are = ap length (sym are) ∙ length-map text.parameters parameter_of

    head_zones : (z : Zone) → Contains function.zones z → IsHeadZone (items_of whole) from.text z
    head_zones =
        let scope = (layout_of from.text).scope in
        let notes = from.text.notes in
        more_head (items_of whole) from.text (more_zones (items_of whole) scope place.Head (zones_of (items_of whole) scope place.Head notes.reads) notes.writes) notes.adds function.zones
        (λ ys writes. more_head (items_of whole) from.text (zones_of (items_of whole) scope place.Head notes.reads) notes.writes ys
        (λ xs reads. more_head (items_of whole) from.text (Ok []) notes.reads xs (λ ws none z within. absurd (none_within z (subst (λ (l : List Zone). Contains l z) (sym (same_ok [] ws none)) within))) reads) writes) from.are

    over_own : (r : ℕ) → r < length from.text.parameters → r < length function.parameters
    over_own r less = let n = count_of from.text from.parameters_are in omega (arith, less, n)

    over : (z : Zone) → Contains function.zones z → IsOverParameters (length function.parameters) z
    over z within =
        let head = head_zones z within in
        let P : Term → Type 0 = λ t. t.register.0 < length from.text.parameters in
        let Q : Term → Type 0 = λ t. t.register.0 < length function.parameters in
        record { low = All-weaker P Q (λ t p. over_own t.register.0 p) z.low.terms head.low; high = All-weaker P Q (λ t p. over_own t.register.0 p) z.high.terms head.high }

    -- a parameter of the text is one of the program
    below : (text : FunctionText) → map parameter_of text.parameters ≡ function.parameters → (o : ObjectName) (r : RegisterId) → IsOwn (items_of whole) text o → o ≡ object.Parameter r → r.0 < parameters_at program.functions f
    below text are o r own same =
        let less : r.0 < length text.parameters = subst (IsOwn (items_of whole) text) same own in
        let n = count_of text are in
        let k : parameters_at program.functions f ≡ length function.parameters = ap parameters_in at in
        omega (arith, less, n, k)

    -- ---- the head of a block

    outer : FunctionFrom whole m.0 f function
    outer = function_from whole program m f function at

    record HeadFrom (b : ℕ) (block : Block) : Type 0 where
      text : BlockText
      pending_are : all_pending_of (items_of whole) (layout_of outer.text).scope b text.notes.pending ≡ Ok block.pending
      foot_is : zones_of (items_of whole) (layout_of outer.text).scope place.Body text.notes.foot ≡ Ok block.foot

    head_from : (b : ℕ) (block : Block) → slice_get function.blocks b ≡ Some block → HeadFrom b block
    head_from b block here =
        let scope = (layout_of outer.text).scope in
        let found = all_at (block_of (items_of whole) whole.functions m.0 scope f outer.text.result_type) outer.text.blocks function.blocks b block outer.is.blocks_are here in
        let made = made_ok _ _ block found.2 in
        let head = made_ok _ _ made.0.0 (both_ok _ _ made.0 made.1).0 in
        let parts = both_ok _ _ head.0 head.1 in
        let all = ap (λ h. block_with found.0.line h made.0.1) head.2 ∙ made.2 in
        record {
          text = found.0;
          pending_are = (both_ok _ _ head.0.0 parts.0).1 ∙ ap (λ (x : Block). Ok x.pending) all;
          foot_is = (both_ok _ _ head.0.1 parts.1).1 ∙ ap (λ (x : Block). Ok x.foot) all;
        }

    pending_below : (b i : ℕ) (block : Block) (pending : Pending) (r : RegisterId) → slice_get function.blocks b ≡ Some block → slice_get block.pending i ≡ Some pending → pending.zone.object ≡ object.Parameter r → r.0 < parameters_at program.functions f
    pending_below b i block pending r here stands same =
        let head = head_from b block here in
        let found = all_at (λ k. pending_of (items_of whole) (layout_of outer.text).scope b) head.text.notes.pending block.pending i pending head.pending_are stands in
        below outer.text outer.is.parameters_are pending.zone.object r (pending_own (items_of whole) outer.text b found.0 pending found.2) same

    foot_below : (b i : ℕ) (block : Block) (z : Zone) (r : RegisterId) → slice_get function.blocks b ≡ Some block → slice_get block.foot i ≡ Some z → z.object ≡ object.Parameter r → r.0 < parameters_at program.functions f
    foot_below b i block z r here stands same =
        let head = head_from b block here in
        let found = all_at (λ k. zone_of (items_of whole) (layout_of outer.text).scope place.Body) head.text.notes.foot block.foot i z head.foot_is stands in
        below outer.text outer.is.parameters_are z.object r (zone_own (items_of whole) outer.text place.Body found.0 z found.2) same

    instruction_below : (b s : ℕ) (what : Instruction) (block : Block) (step : Step) (r : RegisterId) → slice_get function.blocks b ≡ Some block → slice_get block.steps s ≡ Some step → step.instruction ≡ what → InstructionNames what (object.Parameter r) → r.0 < parameters_at program.functions f
    instruction_below b s what block step r here stands does names =
        let item : item_at program f b s ≡ Some (Does what) =
        ap (λ (o : Option Block). and_then o (λ (x : Block). item_of x.steps x.ending s)) (block_is program f b function block (record { at_function = at; at_block = here }))
        ∙ item_there block.steps block.ending s step stands ∙ ap (λ (x : Instruction). Some (Does x)) does in
        let less : r.0 < parameters_of program f = own whole program m f b s what r item names in
        let n : parameters_of program f ≡ length function.parameters = ap parameters_there at in
        let k : parameters_at program.functions f ≡ length function.parameters = ap parameters_in at in
        omega (arith, less, n, k)

  same_function : (f : ℕ) (g function : Function) → slice_get program.functions f ≡ Some g → slice_get program.functions f ≡ Some function → g ≡ function
  same_function f g function h k = let e : Some g ≡ Some function = sym h ∙ k in cc

  own_named : (f : ℕ) (r : RegisterId) → IsNamedBy program.functions f (object.Parameter r) → r.0 < parameters_at program.functions f
  own_named f r (in_instruction b s what at names) = instruction_below f at.at_block.function at.at_block.at_function b s what at.block at.step r at.at_block.at_block at.at_step at.does names
  own_named f r (in_zone i function zone at stands same) =
      let head = head_zones f function at zone (at_within function.zones i zone stands) in
      below f function at (from f function at).text (from f function at).parameters_are zone.object r head.own same
  own_named f r (in_pending b i block pending at stands same) = pending_below f at.function at.at_function b i block pending r at.at_block stands same
  own_named f r (in_foot b i block zone at stands same) = foot_below f at.function at.at_function b i block zone r at.at_block stands same

  pub names_zones : NamesZones program
  names_zones = record { own = own_named; over = over }

pub zones_are_named : ZonesAreNamed
zones_are_named whole program m = names_zones whole program m

pub accepted_zones_are_named : AcceptedZonesAreNamed
accepted_zones_are_named text program accepted =
    names_zones accepted.0 program accepted.2
