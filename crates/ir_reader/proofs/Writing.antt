-- What is put behind what was read is spelled within its limits, as each item is.
use Rattle.std.proofs.Common.{◌≡◌, ℕ, Bool, true, false, List, [], ◌∷◌, ◌++◌, length, Option, Some, None, refl, subst, arith}
use Rattle.std.specs.Prelude.{◌==◌, if◌then◌else◌}
use Rattle.std.specs.List.{All}
use Rattle.std.proofs.lemmas.List.Elements.{All-nil, All-push}
use Rattle.ir_annotation.specs.Canonical.{IsTerm, IsCanonical}
use Rattle.ir_annotation.specs.Annotations.{IsInequality, IsZone, IsPending}
use Rattle.ir_reader.specs.item.Printed.{IsKeptItem}
use Rattle.ir_annotation.specs.declared.meaning.Annotation.{Annotation}
use Rattle.ir_annotation.specs.declared.meaning.Annotation.TheVariants as annotation
use Rattle.ir_reader.specs.declared.item.item.Item.{Item}
use Rattle.ir_reader.specs.declared.item.item.Item.TheVariants as item
use Rattle.syntax.specs.declared.annotation.Inequality.{Inequality}
use Rattle.syntax.specs.declared.annotation.Zone.{Zone}
use Rattle.syntax.specs.declared.annotation.FunctionNotes.{FunctionNotes}
use Rattle.syntax.specs.declared.annotation.BlockNotes.{BlockNotes}
use Rattle.syntax.specs.declared.operator.Mode.{Mode}
use Rattle.syntax.specs.declared.operator.Mode.TheVariants as mode
use Rattle.syntax.specs.declared.instruction.Step.{Step}
use Rattle.syntax.specs.declared.module.Block.{Block}
use Rattle.syntax.specs.declared.module.Function.{Function}
use Rattle.syntax.specs.declared.module.Module.{Module}
use Rattle.ir_reader.specs.declared.annotating.FunctionHead.{FunctionHead}
use Rattle.ir_reader.specs.declared.annotating.BlockHead.{BlockHead}
use Rattle.ir_reader.specs.declared.draft.Draft.{Draft}
use Rattle.ir_reader.specs.declared.draft.LineContext.{LineContext}
use Rattle.ir_reader.specs.declared.draft.LineContext.TheVariants as place
use Rattle.ir_reader.specs.Opening.{zero_form, no_function_notes, new_function, new_block, with_global, with_block, with_phi, with_step, with_ending}
use Rattle.ir_reader.specs.Annotating.{with_function_notes, with_block_notes, with_zone_of, annotated_function}
use Rattle.ir_reader.specs.Draft.{drafted, placed, placed_in, placed_outside, placed_at_function, placed_in_function_head, placed_at_block, annotated_in_block_head, placed_in_block_head, placed_in_phis, placed_in_body, placed_in_ended}
use Rattle.ir_reader.specs.Reading.{start}
use Rattle.ir_reader.specs.Kept.{IsZoneOf, AreFunctionNotesWritten, AreBlockNotesWritten, IsPhiWritten, IsStepWritten, IsBlockWritten, IsFunctionWritten, IsGlobalWritten}

pub record IsWholeWritten (m : Module) : Type 0 where
  pub globals : All IsGlobalWritten m.globals
  pub functions : All IsFunctionWritten m.functions

-- what is open
abbrev pub IsPlaceWritten : LineContext → Type 0
IsPlaceWritten place.Outside = Unit {0}
IsPlaceWritten (place.FunctionHead h) = IsFunctionWritten h.function
IsPlaceWritten (place.BlockHead f h) = IsFunctionWritten f × IsBlockWritten h.block
IsPlaceWritten (place.Phis f b) = IsFunctionWritten f × IsBlockWritten b
IsPlaceWritten (place.Body f b shows) = IsFunctionWritten f × IsBlockWritten b × All IsInequality shows
IsPlaceWritten (place.Ended f b) = IsFunctionWritten f × IsBlockWritten b

pub record IsDraftWritten (d : Draft) : Type 0 where
  pub whole : IsWholeWritten d.whole
  pub place : IsPlaceWritten d.place

abbrev WrittenIfSome : Option Draft → Type 0
WrittenIfSome None = Unit {0}
WrittenIfSome (Some e) = IsDraftWritten e

zero_canonical : IsCanonical zero_form
zero_canonical = record { rising = tt; terms = All-nil IsTerm; constant = omega arith }

-- ---- one part more

new_written : (at : ℕ) (label : List ℕ) → IsKeptItem (item.Label label) → IsBlockWritten (new_block at label)
new_written at label is = record {
  label = is;
  notes = record { keeps = All-nil IsInequality; pending = All-nil IsPending; left = record { self_calls = zero_canonical; instructions = zero_canonical }; foot = All-nil IsZone };
  phis = All-nil IsPhiWritten;
  steps = All-nil IsStepWritten;
  ending = tt;
}

function_with : (f : Function) (b : Block) → IsFunctionWritten f → IsBlockWritten b → IsFunctionWritten (with_block f b)
function_with f b f_is b_is = record { head = f_is.head; notes = f_is.notes; blocks = All-push IsBlockWritten f.blocks b f_is.blocks b_is }

-- ---- places

if_written : (test : Bool) (e : Option Draft) → WrittenIfSome e → WrittenIfSome (if test then e else None)
if_written true e h = h
if_written false e h = tt

ended_written : (m : Module) (f : Function) (b : Block) (at : ℕ) (i : Item) → IsWholeWritten m → IsFunctionWritten f → IsBlockWritten b → IsKeptItem i → WrittenIfSome (placed_in_ended m f b at i)
ended_written m f b at (item.Label label) whole f_is b_is is = record { whole = whole; place = (function_with f b f_is b_is, new_written at label is) }
ended_written m f b at item.Close whole f_is b_is is =
    record { whole = record { globals = whole.globals; functions = All-push IsFunctionWritten m.functions (with_block f b) whole.functions (function_with f b f_is b_is) }; place = tt }
ended_written m f b at _ whole f_is b_is is = tt

body_written : (m : Module) (f : Function) (b : Block) (shows : List Inequality) (at : ℕ) (i : Item) → IsWholeWritten m → IsFunctionWritten f → IsBlockWritten b → All IsInequality shows → IsKeptItem i
    → WrittenIfSome (placed_in_body m f b shows at i)
body_written m f b shows at (item.Annotation (annotation.Shows i)) whole f_is b_is each is = record { whole = whole; place = (f_is, b_is, All-push IsInequality shows i each is) }
body_written m f b shows at (item.Annotation _) whole f_is b_is each is = tt
body_written m f b shows at (item.Instruction i) whole f_is b_is each is =
    let s : Step = record { line = at; shows = shows; instruction = i } in
    let next : IsBlockWritten (with_step b at shows i) = record { label = b_is.label; notes = b_is.notes; phis = b_is.phis; steps = All-push IsStepWritten b.steps s b_is.steps (record { shows = each; instruction = is }); ending = b_is.ending } in
    record { whole = whole; place = (f_is, next, All-nil IsInequality) }
body_written m f b shows at (item.Terminator t) whole f_is b_is each is =
    let next : IsBlockWritten (with_ending b at shows t) = record { label = b_is.label; notes = b_is.notes; phis = b_is.phis; steps = b_is.steps; ending = record { shows = each; terminator = is } } in
    record { whole = whole; place = (f_is, next) }
body_written m f b shows at i whole f_is b_is each is = if_written (length shows == 0) (placed_in_ended m f b at i) (ended_written m f b at i whole f_is b_is is)

phis_written : (m : Module) (f : Function) (b : Block) (at : ℕ) (i : Item) → IsWholeWritten m → IsFunctionWritten f → IsBlockWritten b → IsKeptItem i → WrittenIfSome (placed_in_phis m f b at i)
phis_written m f b at (item.Phi p) whole f_is b_is is =
    let next : IsBlockWritten (with_phi b p) = record { label = b_is.label; notes = b_is.notes; phis = All-push IsPhiWritten b.phis p b_is.phis is; steps = b_is.steps; ending = b_is.ending } in
    record { whole = whole; place = (f_is, next) }
phis_written m f b at i whole f_is b_is is = body_written m f b [] at i whole f_is b_is (All-nil IsInequality) is

once_block : (m : Module) (f : Function) (g : BlockHead) (test : Bool) → IsDraftWritten (drafted m (place.BlockHead f g)) → WrittenIfSome (placed_at_block m f (if test then None else Some g))
once_block m f g true h = tt
once_block m f g false h = h

at_block : (m : Module) (f : Function) (h : BlockHead) (n : BlockNotes) (has_left : Bool) → IsWholeWritten m → IsFunctionWritten f → IsBlockWritten h.block → AreBlockNotesWritten n
    → IsDraftWritten (drafted m (place.BlockHead f (record { block = with_block_notes h.block n; has_left = has_left })))
at_block m f h n has_left whole f_is b_is n_is =
    let next : IsBlockWritten (with_block_notes h.block n) = record { label = b_is.label; notes = n_is; phis = b_is.phis; steps = b_is.steps; ending = b_is.ending } in
    record { whole = whole; place = (f_is, next) }

block_annotated : (m : Module) (f : Function) (h : BlockHead) (a : Annotation) → IsWholeWritten m → IsFunctionWritten f → IsBlockWritten h.block → IsKeptItem (item.Annotation a) → WrittenIfSome (annotated_in_block_head m f h a)
block_annotated m f h (annotation.Shows i) whole f_is b_is is = record { whole = whole; place = (f_is, b_is, All-push IsInequality [] i (All-nil IsInequality) is) }
block_annotated m f h (annotation.Keeps i) whole f_is b_is is =
    let n : BlockNotes = h.block.notes in
    let w : AreBlockNotesWritten n = b_is.notes in
    at_block m f h (record n { keeps = n.keeps ++ i ∷ [] }) h.has_left whole f_is b_is (record { keeps = All-push IsInequality n.keeps i w.keeps is; pending = w.pending; left = w.left; foot = w.foot })
block_annotated m f h (annotation.Pending p) whole f_is b_is is =
    let n : BlockNotes = h.block.notes in
    let w : AreBlockNotesWritten n = b_is.notes in
    at_block m f h (record n { pending = n.pending ++ p ∷ [] }) h.has_left whole f_is b_is (record { keeps = w.keeps; pending = All-push IsPending n.pending p w.pending is; left = w.left; foot = w.foot })
block_annotated m f h (annotation.Left l) whole f_is b_is is =
    let n : BlockNotes = h.block.notes in
    let w : AreBlockNotesWritten n = b_is.notes in
    once_block m f (record { block = with_block_notes h.block (record n { left = l }); has_left = true }) h.has_left
    (at_block m f h (record n { left = l }) true whole f_is b_is (record { keeps = w.keeps; pending = w.pending; left = is; foot = w.foot }))
block_annotated m f h (annotation.Foot z) whole f_is b_is is =
    let n : BlockNotes = h.block.notes in
    let w : AreBlockNotesWritten n = b_is.notes in
    at_block m f h (record n { foot = n.foot ++ z ∷ [] }) h.has_left whole f_is b_is (record { keeps = w.keeps; pending = w.pending; left = w.left; foot = All-push IsZone n.foot z w.foot is })
block_annotated m f h _ whole f_is b_is is = tt

block_head_written : (m : Module) (f : Function) (h : BlockHead) (at : ℕ) (i : Item) → IsWholeWritten m → IsFunctionWritten f → IsBlockWritten h.block → IsKeptItem i → WrittenIfSome (placed_in_block_head m f h at i)
block_head_written m f h at (item.Annotation a) whole f_is b_is is = block_annotated m f h a whole f_is b_is is
block_head_written m f h at i whole f_is b_is is = phis_written m f h.block at i whole f_is b_is is

once_function : (m : Module) (g : FunctionHead) (test : Bool) → IsDraftWritten (drafted m (place.FunctionHead g)) → WrittenIfSome (placed_at_function m (if test then None else Some g))
once_function m g true h = tt
once_function m g false h = h

at_function : (m : Module) (h : FunctionHead) (n : FunctionNotes) (has_measure has_budget : Bool) → IsWholeWritten m → IsFunctionWritten h.function → AreFunctionNotesWritten n
    → IsDraftWritten (drafted m (place.FunctionHead (record { function = with_function_notes h.function n; has_measure = has_measure; has_budget = has_budget })))
at_function m h n has_measure has_budget whole f_is n_is =
    let next : IsFunctionWritten (with_function_notes h.function n) = record { head = f_is.head; notes = n_is; blocks = f_is.blocks } in
    record { whole = whole; place = next }

zone_written : (m : Module) (h : FunctionHead) (z : Zone) (which : Mode) → z.mode ≡ which → IsWholeWritten m → IsFunctionWritten h.function → IsZone z
    → IsDraftWritten (drafted m (place.FunctionHead (record h { function = with_zone_of which h.function z })))
zone_written m h z mode.Reads e whole f_is is =
    let n : FunctionNotes = h.function.notes in
    let w : AreFunctionNotesWritten n = f_is.notes in
    at_function m h (record n { reads = n.reads ++ z ∷ [] }) h.has_measure h.has_budget whole f_is
    (record { requirements = w.requirements; guarantees = w.guarantees; reads = All-push (IsZoneOf mode.Reads) n.reads z w.reads (record { mode = e; zone = is }); writes = w.writes; adds = w.adds; measure = w.measure; budget = w.budget })
zone_written m h z mode.Writes e whole f_is is =
    let n : FunctionNotes = h.function.notes in
    let w : AreFunctionNotesWritten n = f_is.notes in
    at_function m h (record n { writes = n.writes ++ z ∷ [] }) h.has_measure h.has_budget whole f_is
    (record { requirements = w.requirements; guarantees = w.guarantees; reads = w.reads; writes = All-push (IsZoneOf mode.Writes) n.writes z w.writes (record { mode = e; zone = is }); adds = w.adds; measure = w.measure; budget = w.budget })
zone_written m h z mode.Adds e whole f_is is =
    let n : FunctionNotes = h.function.notes in
    let w : AreFunctionNotesWritten n = f_is.notes in
    at_function m h (record n { adds = n.adds ++ z ∷ [] }) h.has_measure h.has_budget whole f_is
    (record { requirements = w.requirements; guarantees = w.guarantees; reads = w.reads; writes = w.writes; adds = All-push (IsZoneOf mode.Adds) n.adds z w.adds (record { mode = e; zone = is }); measure = w.measure; budget = w.budget })

function_annotated : (m : Module) (h : FunctionHead) (a : Annotation) → IsWholeWritten m → IsFunctionWritten h.function → IsKeptItem (item.Annotation a) → WrittenIfSome (placed_at_function m (annotated_function h a))
function_annotated m h (annotation.Requires i) whole f_is is =
    let n : FunctionNotes = h.function.notes in
    let w : AreFunctionNotesWritten n = f_is.notes in
    at_function m h (record n { requirements = n.requirements ++ i ∷ [] }) h.has_measure h.has_budget whole f_is
    (record { requirements = All-push IsInequality n.requirements i w.requirements is; guarantees = w.guarantees; reads = w.reads; writes = w.writes; adds = w.adds; measure = w.measure; budget = w.budget })
function_annotated m h (annotation.Ensures i) whole f_is is =
    let n : FunctionNotes = h.function.notes in
    let w : AreFunctionNotesWritten n = f_is.notes in
    at_function m h (record n { guarantees = n.guarantees ++ i ∷ [] }) h.has_measure h.has_budget whole f_is
    (record { requirements = w.requirements; guarantees = All-push IsInequality n.guarantees i w.guarantees is; reads = w.reads; writes = w.writes; adds = w.adds; measure = w.measure; budget = w.budget })
function_annotated m h (annotation.FunctionZone z) whole f_is is = zone_written m h z z.mode refl whole f_is is
function_annotated m h (annotation.Measure x) whole f_is is =
    let n : FunctionNotes = h.function.notes in
    let w : AreFunctionNotesWritten n = f_is.notes in
    once_function m (record { function = with_function_notes h.function (record n { measure = x }); has_measure = true; has_budget = h.has_budget }) h.has_measure
    (at_function m h (record n { measure = x }) true h.has_budget whole f_is (record { requirements = w.requirements; guarantees = w.guarantees; reads = w.reads; writes = w.writes; adds = w.adds; measure = is; budget = w.budget }))
function_annotated m h (annotation.Budget x) whole f_is is =
    let n : FunctionNotes = h.function.notes in
    let w : AreFunctionNotesWritten n = f_is.notes in
    once_function m (record { function = with_function_notes h.function (record n { budget = x }); has_measure = h.has_measure; has_budget = true }) h.has_budget
    (at_function m h (record n { budget = x }) h.has_measure true whole f_is (record { requirements = w.requirements; guarantees = w.guarantees; reads = w.reads; writes = w.writes; adds = w.adds; measure = w.measure; budget = is }))
function_annotated m h _ whole f_is is = tt

function_head_written : (m : Module) (h : FunctionHead) (at : ℕ) (i : Item) → IsWholeWritten m → IsFunctionWritten h.function → IsKeptItem i → WrittenIfSome (placed_in_function_head m h at i)
function_head_written m h at (item.Annotation a) whole f_is is = function_annotated m h a whole f_is is
function_head_written m h at (item.Label label) whole f_is is = record { whole = whole; place = (f_is, new_written at label is) }
function_head_written m h at _ whole f_is is = tt

no_notes_written : (at : ℕ) → AreFunctionNotesWritten (no_function_notes at)
no_notes_written at = record {
  requirements = All-nil IsInequality;
  guarantees = All-nil IsInequality;
  reads = All-nil (IsZoneOf mode.Reads);
  writes = All-nil (IsZoneOf mode.Writes);
  adds = All-nil (IsZoneOf mode.Adds);
  measure = record { form = zero_canonical; bound = omega arith };
  budget = record { self_calls = omega arith; instructions = omega arith };
}

outside_written : (m : Module) (at : ℕ) (i : Item) → IsWholeWritten m → IsKeptItem i → WrittenIfSome (placed_outside m at i)
outside_written m at (item.Global g) whole is =
    let next : IsWholeWritten (with_global m g) = record { globals = All-push IsGlobalWritten m.globals g whole.globals is; functions = whole.functions } in
    if_written (length m.functions == 0) (Some (drafted (with_global m g) place.Outside)) (record { whole = next; place = tt })
outside_written m at (item.Define name result_type parameters) whole is =
    let next : IsFunctionWritten (new_function at name result_type parameters) = record { head = is; notes = no_notes_written at; blocks = All-nil IsBlockWritten } in
    record { whole = whole; place = next }
outside_written m at _ whole is = tt

in_place : (m : Module) (p : LineContext) (at : ℕ) (i : Item) → IsWholeWritten m → IsPlaceWritten p → IsKeptItem i → WrittenIfSome (placed_in m p at i)
in_place m place.Outside at i whole p_is is = outside_written m at i whole is
in_place m (place.FunctionHead h) at i whole p_is is = function_head_written m h at i whole p_is is
in_place m (place.BlockHead f h) at i whole p_is is = block_head_written m f h at i whole p_is.0 p_is.1 is
in_place m (place.Phis f b) at i whole p_is is = phis_written m f b at i whole p_is.0 p_is.1 is
in_place m (place.Body f b shows) at i whole p_is is = body_written m f b shows at i whole p_is.0 p_is.1 p_is.2 is
in_place m (place.Ended f b) at i whole p_is is = ended_written m f b at i whole p_is.0 p_is.1 is

-- An item that is kept leaves all parts spelled within their limits.
pub placed_written : (d e : Draft) (at : ℕ) (i : Item) → IsDraftWritten d → IsKeptItem i → placed d at i ≡ Some e → IsDraftWritten e
placed_written d e at i d_is is h = subst WrittenIfSome h (in_place d.whole d.place at i d_is.whole d_is.place is)

pub start_written : IsDraftWritten start
start_written = record { whole = record { globals = All-nil IsGlobalWritten; functions = All-nil IsFunctionWritten }; place = tt }
