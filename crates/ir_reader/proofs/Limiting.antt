-- Limits hold forwards, as each item is judged, and backwards, since lists only grow.
use Rattle.std.proofs.Common.{◌≡◌, ℕ, ◌<◌, ◌≤◌, Bool, true, false, List, [], ◌∷◌, ◌++◌, length, length-append, Option, Some, None, refl, subst, arith}
use Rattle.std.specs.Prelude.{◌==◌, ◌&&◌, nat_le, nat_lt, if◌then◌else◌}
use Rattle.std.specs.List.{All}
use Rattle.std.proofs.lemmas.Bool.{leb-true, ltb-true, le-leb, lt-ltb, eqb-true, and_parts}
use Rattle.std.proofs.lemmas.List.{get_or_append_left, get_or_at}
use Rattle.std.proofs.lemmas.List.Elements.{All-nil, All-push}
use Rattle.ir_annotation.specs.declared.meaning.Annotation.{Annotation}
use Rattle.ir_annotation.specs.declared.meaning.Annotation.TheVariants as annotation
use Rattle.ir_reader.specs.declared.item.item.Item.{Item}
use Rattle.ir_reader.specs.declared.item.item.Item.TheVariants as item
use Rattle.syntax.specs.declared.annotation.Inequality.{Inequality}
use Rattle.syntax.specs.declared.annotation.Zone.{Zone}
use Rattle.syntax.specs.declared.annotation.FunctionNotes.{FunctionNotes}
use Rattle.syntax.specs.declared.annotation.BlockNotes.{BlockNotes}
use Rattle.syntax.specs.declared.operator.Mode.{Mode}
use Rattle.syntax.specs.declared.operator.Mode.TheVariants as mode
use Rattle.syntax.specs.declared.instruction.Step.{Step}
use Rattle.syntax.specs.declared.module.Block.{Block}
use Rattle.syntax.specs.declared.module.Function.{Function}
use Rattle.syntax.specs.declared.module.Module.{Module}
use Rattle.ir_reader.specs.declared.annotating.FunctionHead.{FunctionHead}
use Rattle.ir_reader.specs.declared.annotating.BlockHead.{BlockHead}
use Rattle.ir_reader.specs.declared.draft.Draft.{Draft}
use Rattle.ir_reader.specs.declared.draft.LineContext.{LineContext}
use Rattle.ir_reader.specs.declared.draft.LineContext.TheVariants as place
use Rattle.ir_reader.specs.Opening.{new_function, new_block, with_global, with_block, with_phi, with_step, with_ending}
use Rattle.ir_reader.specs.Annotating.{with_function_notes, with_block_notes, with_zone_of, annotated_function}
use Rattle.ir_reader.specs.Draft.{drafted, placed, placed_in, placed_outside, placed_at_function, placed_in_function_head, placed_at_block, annotated_in_block_head, placed_in_block_head, placed_in_phis, placed_in_body, placed_in_ended}
use Rattle.ir_reader.specs.Defined.{reserved_inside, function_names, open_function}
use Rattle.ir_reader.specs.Limits.{register_count, function_cells, are_function_notes_within, are_block_notes_within, is_function_head_within, is_block_head_within, is_place_within}
use Rattle.ir_reader.specs.Names.{is_repeated}
use Rattle.ir_reader.specs.Reading.{start}
use Rattle.ir_reader.specs.Kept.{AreFunctionNotesFew, AreBlockNotesFew, AreStepShowsFew, AreEndingShowsFew, IsBlockWithin, IsFunctionWithin}

-- the names and registers of a function, as far as it was read
pub record IsOpenFunction (f : Function) : Type 0 where
  pub distinct : is_repeated [] (reserved_inside ∷ function_names f) ≡ false
  pub registers : register_count f ≤ 4096
  pub alloca_cells : function_cells f ≤ 4096

abbrev pub IsOpenKept : Option Function → Type 0
IsOpenKept None = Unit {0}
IsOpenKept (Some f) = IsOpenFunction f

pub record IsWholeWithin (m : Module) : Type 0 where
  pub few : length m.functions ≤ 256
  pub functions : All IsFunctionWithin m.functions

-- ---- tests and facts

pub function_notes_few : (n : FunctionNotes) → are_function_notes_within n ≡ true → AreFunctionNotesFew n
function_notes_few n h =
    let r : Bool = nat_le (length n.requirements) 32 in
    let g : Bool = nat_le (length n.guarantees) 32 in
    let reads : Bool = nat_le (length n.reads) 32 in
    let writes : Bool = nat_le (length n.writes) 32 in
    let adds : Bool = nat_le (length n.adds) 32 in
    let four = and_parts (r && g && reads && writes) adds h in
    let three = and_parts (r && g && reads) writes four.0 in
    let two = and_parts (r && g) reads three.0 in
    let one = and_parts r g two.0 in
    record {
      requirements = leb-true (length n.requirements) 32 one.0;
      guarantees = leb-true (length n.guarantees) 32 one.1;
      reads = leb-true (length n.reads) 32 two.1;
      writes = leb-true (length n.writes) 32 three.1;
      adds = leb-true (length n.adds) 32 four.1;
    }

function_notes_pass : (n : FunctionNotes) → AreFunctionNotesFew n → are_function_notes_within n ≡ true
function_notes_pass n is =
    rw (le-leb (length n.requirements) 32 is.requirements, le-leb (length n.guarantees) 32 is.guarantees, le-leb (length n.reads) 32 is.reads, le-leb (length n.writes) 32 is.writes, le-leb (length n.adds) 32 is.adds) refl

pub block_notes_few : (n : BlockNotes) → are_block_notes_within n ≡ true → AreBlockNotesFew n
block_notes_few n h =
    let two = and_parts (nat_le (length n.keeps) 32 && nat_le (length n.pending) 32) (nat_le (length n.foot) 32) h in
    let one = and_parts (nat_le (length n.keeps) 32) (nat_le (length n.pending) 32) two.0 in
    record { keeps = leb-true (length n.keeps) 32 one.0; pending = leb-true (length n.pending) 32 one.1; foot = leb-true (length n.foot) 32 two.1 }

block_notes_pass : (n : BlockNotes) → AreBlockNotesFew n → are_block_notes_within n ≡ true
block_notes_pass n is = rw (le-leb (length n.keeps) 32 is.keeps, le-leb (length n.pending) 32 is.pending, le-leb (length n.foot) 32 is.foot) refl

-- ---- lists

All-first : {X : Type 0} (P : X → Type 0) (xs : List X) (y : X) → All P (xs ++ y ∷ []) → All P xs
All-first P xs y all = λ k d h. subst P (get_or_append_left xs (y ∷ []) d k h) (all k d (omega (arith, length-append xs (y ∷ []))))

All-last : {X : Type 0} (P : X → Type 0) (xs : List X) (y : X) → All P (xs ++ y ∷ []) → P y
All-last P xs y all = subst P (get_or_at xs y [] y (length xs) refl) (all (length xs) y (omega (arith, length-append xs (y ∷ []))))

-- ---- forwards

pub record IsOpenWithin (m : Module) (f : Function) (b : Block) : Type 0 where
  pub function : IsFunctionWithin f
  pub room : length m.functions < 256
  pub blocks : length f.blocks < 1024
  pub block : IsBlockWithin b

abbrev pub IsPlaceWithin : Module → LineContext → Type 0
IsPlaceWithin m place.Outside = Unit {0}
IsPlaceWithin m (place.FunctionHead h) = IsFunctionWithin h.function × (length m.functions < 256)
IsPlaceWithin m (place.BlockHead f h) = IsOpenWithin m f h.block
IsPlaceWithin m (place.Phis f b) = IsOpenWithin m f b
IsPlaceWithin m (place.Body f b shows) = IsOpenWithin m f b × (length shows ≤ 32)
IsPlaceWithin m (place.Ended f b) = IsOpenWithin m f b

pub record IsDraftWithin (d : Draft) : Type 0 where
  pub whole : IsWholeWithin d.whole
  pub place : IsPlaceWithin d.whole d.place

abbrev WithinIfSome : Option Draft → Type 0
WithinIfSome None = Unit {0}
WithinIfSome (Some e) = is_place_within e.whole e.place ≡ true → IsDraftWithin e

if_within : (test : Bool) (e : Option Draft) → WithinIfSome e → WithinIfSome (if test then e else None)
if_within true e h = h
if_within false e h = tt

function_with : (m : Module) (f : Function) (b : Block) → IsOpenWithin m f b → IsFunctionWithin (with_block f b)
function_with m f b o = record {
  parameters = o.function.parameters;
  notes = o.function.notes;
  blocks = omega (arith, o.blocks, length-append f.blocks (b ∷ []));
  each_block = All-push IsBlockWithin f.blocks b o.function.each_block o.block;
}

new_within : (at : ℕ) (label : List ℕ) → IsBlockWithin (new_block at label)
new_within at label = record { notes = record { keeps = omega arith; pending = omega arith; foot = omega arith }; shows = All-nil AreStepShowsFew; ending = tt }

ended_within : (m : Module) (f : Function) (b : Block) (at : ℕ) (i : Item) → IsWholeWithin m → IsOpenWithin m f b → WithinIfSome (placed_in_ended m f b at i)
ended_within m f b at (item.Label label) whole o = λ w.
    let g : Function = with_block f b in
    let t = and_parts (nat_lt (length g.blocks) 1024) (are_block_notes_within (new_block at label).notes) w in
    record { whole = whole; place = record { function = function_with m f b o; room = o.room; blocks = ltb-true (length g.blocks) 1024 t.0; block = new_within at label } }
ended_within m f b at item.Close whole o = λ w.
    let g : Function = with_block f b in
    record { whole = record { few = omega (arith, o.room, length-append m.functions (g ∷ [])); functions = All-push IsFunctionWithin m.functions g whole.functions (function_with m f b o) }; place = tt }
ended_within m f b at _ whole o = tt

body_within : (m : Module) (f : Function) (b : Block) (shows : List Inequality) (at : ℕ) (i : Item) → IsWholeWithin m → IsOpenWithin m f b → length shows ≤ 32 → WithinIfSome (placed_in_body m f b shows at i)
body_within m f b shows at (item.Annotation (annotation.Shows i)) whole o few = λ w. record { whole = whole; place = (o, leb-true (length (shows ++ i ∷ [])) 32 w) }
body_within m f b shows at (item.Annotation _) whole o few = tt
body_within m f b shows at (item.Instruction i) whole o few = λ w.
    let s : Step = record { line = at; shows = shows; instruction = i } in
    let next : IsBlockWithin (with_step b at shows i) = record { notes = o.block.notes; shows = All-push AreStepShowsFew b.steps s o.block.shows few; ending = o.block.ending } in
    let opened : IsOpenWithin m f (with_step b at shows i) = record { function = o.function; room = o.room; blocks = o.blocks; block = next } in
    record { whole = whole; place = (opened, omega arith) }
body_within m f b shows at (item.Terminator t) whole o few = λ w.
    let next : IsBlockWithin (with_ending b at shows t) = record { notes = o.block.notes; shows = o.block.shows; ending = few } in
    record { whole = whole; place = record { function = o.function; room = o.room; blocks = o.blocks; block = next } }
body_within m f b shows at i whole o few = if_within (length shows == 0) (placed_in_ended m f b at i) (ended_within m f b at i whole o)

phis_within : (m : Module) (f : Function) (b : Block) (at : ℕ) (i : Item) → IsWholeWithin m → IsOpenWithin m f b → WithinIfSome (placed_in_phis m f b at i)
phis_within m f b at (item.Phi p) whole o = λ w.
    let next : IsBlockWithin (with_phi b p) = record { notes = o.block.notes; shows = o.block.shows; ending = o.block.ending } in
    record { whole = whole; place = record { function = o.function; room = o.room; blocks = o.blocks; block = next } }
phis_within m f b at i whole o = body_within m f b [] at i whole o (omega arith)

at_block : (m : Module) (f : Function) (h : BlockHead) (n : BlockNotes) (has_left : Bool) → IsWholeWithin m → IsOpenWithin m f h.block
    → is_block_head_within f (with_block_notes h.block n) ≡ true → IsDraftWithin (drafted m (place.BlockHead f (record { block = with_block_notes h.block n; has_left = has_left })))
at_block m f h n has_left whole o w =
    let t = and_parts (nat_lt (length f.blocks) 1024) (are_block_notes_within n) w in
    let next : IsBlockWithin (with_block_notes h.block n) = record { notes = block_notes_few n t.1; shows = o.block.shows; ending = o.block.ending } in
    record { whole = whole; place = record { function = o.function; room = o.room; blocks = o.blocks; block = next } }

once_block : (m : Module) (f : Function) (g : BlockHead) (test : Bool) → (is_place_within m (place.BlockHead f g) ≡ true → IsDraftWithin (drafted m (place.BlockHead f g))) → WithinIfSome (placed_at_block m f (if test then None else Some g))
once_block m f g true h = tt
once_block m f g false h = h

block_annotated : (m : Module) (f : Function) (h : BlockHead) (a : Annotation) → IsWholeWithin m → IsOpenWithin m f h.block → WithinIfSome (annotated_in_block_head m f h a)
block_annotated m f h (annotation.Shows i) whole o = λ w. record { whole = whole; place = (o, omega arith) }
block_annotated m f h (annotation.Keeps i) whole o = λ w. let n : BlockNotes = h.block.notes in at_block m f h (record n { keeps = n.keeps ++ i ∷ [] }) h.has_left whole o w
block_annotated m f h (annotation.Pending p) whole o = λ w. let n : BlockNotes = h.block.notes in at_block m f h (record n { pending = n.pending ++ p ∷ [] }) h.has_left whole o w
block_annotated m f h (annotation.Foot z) whole o = λ w. let n : BlockNotes = h.block.notes in at_block m f h (record n { foot = n.foot ++ z ∷ [] }) h.has_left whole o w
block_annotated m f h (annotation.Left l) whole o =
    let n : BlockNotes = record h.block.notes { left = l } in
    once_block m f (record { block = with_block_notes h.block n; has_left = true }) h.has_left (λ w. at_block m f h n true whole o w)
block_annotated m f h _ whole o = tt

block_head_within : (m : Module) (f : Function) (h : BlockHead) (at : ℕ) (i : Item) → IsWholeWithin m → IsOpenWithin m f h.block → WithinIfSome (placed_in_block_head m f h at i)
block_head_within m f h at (item.Annotation a) whole o = block_annotated m f h a whole o
block_head_within m f h at i whole o = phis_within m f h.block at i whole o

at_function : (m : Module) (h : FunctionHead) (n : FunctionNotes) (has_measure has_budget : Bool) → IsWholeWithin m → IsFunctionWithin h.function → length m.functions < 256
    → is_function_head_within m (with_function_notes h.function n) ≡ true → IsDraftWithin (drafted m (place.FunctionHead (record { function = with_function_notes h.function n; has_measure = has_measure; has_budget = has_budget })))
at_function m h n has_measure has_budget whole f_is room w =
    let t = and_parts (nat_lt (length m.functions) 256 && nat_le (length h.function.parameters) 16) (are_function_notes_within n) w in
    let next : IsFunctionWithin (with_function_notes h.function n) = record { parameters = f_is.parameters; notes = function_notes_few n t.1; blocks = f_is.blocks; each_block = f_is.each_block } in
    record { whole = whole; place = (next, room) }

once_function : (m : Module) (g : FunctionHead) (test : Bool) → (is_place_within m (place.FunctionHead g) ≡ true → IsDraftWithin (drafted m (place.FunctionHead g))) → WithinIfSome (placed_at_function m (if test then None else Some g))
once_function m g true h = tt
once_function m g false h = h

zone_within : (m : Module) (h : FunctionHead) (z : Zone) (which : Mode) → IsWholeWithin m → IsFunctionWithin h.function → length m.functions < 256
    → WithinIfSome (Some (drafted m (place.FunctionHead (record h { function = with_zone_of which h.function z }))))
zone_within m h z mode.Reads whole f_is room = λ w. let n : FunctionNotes = h.function.notes in at_function m h (record n { reads = n.reads ++ z ∷ [] }) h.has_measure h.has_budget whole f_is room w
zone_within m h z mode.Writes whole f_is room = λ w. let n : FunctionNotes = h.function.notes in at_function m h (record n { writes = n.writes ++ z ∷ [] }) h.has_measure h.has_budget whole f_is room w
zone_within m h z mode.Adds whole f_is room = λ w. let n : FunctionNotes = h.function.notes in at_function m h (record n { adds = n.adds ++ z ∷ [] }) h.has_measure h.has_budget whole f_is room w

function_annotated : (m : Module) (h : FunctionHead) (a : Annotation) → IsWholeWithin m → IsFunctionWithin h.function → length m.functions < 256 → WithinIfSome (placed_at_function m (annotated_function h a))
function_annotated m h (annotation.Requires i) whole f_is room = λ w. let n : FunctionNotes = h.function.notes in at_function m h (record n { requirements = n.requirements ++ i ∷ [] }) h.has_measure h.has_budget whole f_is room w
function_annotated m h (annotation.Ensures i) whole f_is room = λ w. let n : FunctionNotes = h.function.notes in at_function m h (record n { guarantees = n.guarantees ++ i ∷ [] }) h.has_measure h.has_budget whole f_is room w
function_annotated m h (annotation.FunctionZone z) whole f_is room = zone_within m h z z.mode whole f_is room
function_annotated m h (annotation.Measure x) whole f_is room =
    let n : FunctionNotes = record h.function.notes { measure = x } in
    once_function m (record { function = with_function_notes h.function n; has_measure = true; has_budget = h.has_budget }) h.has_measure (λ w. at_function m h n true h.has_budget whole f_is room w)
function_annotated m h (annotation.Budget x) whole f_is room =
    let n : FunctionNotes = record h.function.notes { budget = x } in
    once_function m (record { function = with_function_notes h.function n; has_measure = h.has_measure; has_budget = true }) h.has_budget (λ w. at_function m h n h.has_measure true whole f_is room w)
function_annotated m h _ whole f_is room = tt

function_head_within : (m : Module) (h : FunctionHead) (at : ℕ) (i : Item) → IsWholeWithin m → IsFunctionWithin h.function → length m.functions < 256 → WithinIfSome (placed_in_function_head m h at i)
function_head_within m h at (item.Annotation a) whole f_is room = function_annotated m h a whole f_is room
function_head_within m h at (item.Label label) whole f_is room = λ w.
    let t = and_parts (nat_lt (length h.function.blocks) 1024) (are_block_notes_within (new_block at label).notes) w in
    record { whole = whole; place = record { function = f_is; room = room; blocks = ltb-true (length h.function.blocks) 1024 t.0; block = new_within at label } }
function_head_within m h at _ whole f_is room = tt

outside_within : (m : Module) (at : ℕ) (i : Item) → IsWholeWithin m → WithinIfSome (placed_outside m at i)
outside_within m at (item.Global g) whole =
    if_within (length m.functions == 0) (Some (drafted (with_global m g) place.Outside)) (λ w. record { whole = record { few = whole.few; functions = whole.functions }; place = tt })
outside_within m at (item.Define name result_type parameters) whole = λ w.
    let f : Function = new_function at name result_type parameters in
    let t = and_parts (nat_lt (length m.functions) 256 && nat_le (length parameters) 16) (are_function_notes_within f.notes) w in
    let u = and_parts (nat_lt (length m.functions) 256) (nat_le (length parameters) 16) t.0 in
    let next : IsFunctionWithin f = record { parameters = leb-true (length parameters) 16 u.1; notes = function_notes_few f.notes t.1; blocks = omega arith; each_block = All-nil IsBlockWithin } in
    record { whole = whole; place = (next, ltb-true (length m.functions) 256 u.0) }
outside_within m at _ whole = tt

in_place : (m : Module) (p : LineContext) (at : ℕ) (i : Item) → IsWholeWithin m → IsPlaceWithin m p → WithinIfSome (placed_in m p at i)
in_place m place.Outside at i whole p_is = outside_within m at i whole
in_place m (place.FunctionHead h) at i whole p_is = function_head_within m h at i whole p_is.0 p_is.1
in_place m (place.BlockHead f h) at i whole p_is = block_head_within m f h at i whole p_is
in_place m (place.Phis f b) at i whole p_is = phis_within m f b at i whole p_is
in_place m (place.Body f b shows) at i whole p_is = body_within m f b shows at i whole p_is.0 p_is.1
in_place m (place.Ended f b) at i whole p_is = ended_within m f b at i whole p_is

-- An item that passes no limit at its place leaves all within limits.
pub placed_within : (d e : Draft) (at : ℕ) (i : Item) → IsDraftWithin d → placed d at i ≡ Some e → is_place_within e.whole e.place ≡ true → IsDraftWithin e
placed_within d e at i d_is h = subst WithinIfSome h (in_place d.whole d.place at i d_is.whole d_is.place)

pub start_within : IsDraftWithin start
start_within = record { whole = record { few = omega arith; functions = All-nil IsFunctionWithin }; place = tt }

-- ---- backwards

-- a block that may have no end yet
pub record IsBodyFew (b : Block) : Type 0 where
  pub notes : AreBlockNotesFew b.notes
  pub shows : All AreStepShowsFew b.steps

pub record IsOpenFew (m : Module) (f : Function) (b : Block) : Type 0 where
  pub function : IsFunctionWithin f
  pub room : length m.functions < 256
  pub blocks : length f.blocks < 1024
  pub body : IsBodyFew b

abbrev pub IsPlaceFew : Module → LineContext → Type 0
IsPlaceFew m place.Outside = Unit {0}
IsPlaceFew m (place.FunctionHead h) = IsFunctionWithin h.function × (length m.functions < 256)
IsPlaceFew m (place.BlockHead f h) = IsOpenFew m f h.block
IsPlaceFew m (place.Phis f b) = IsOpenFew m f b
IsPlaceFew m (place.Body f b shows) = IsOpenFew m f b × (length shows ≤ 32)
IsPlaceFew m (place.Ended f b) = IsOpenFew m f b × AreEndingShowsFew b.ending

pub record IsWholeFew (m : Module) : Type 0 where
  pub within : IsWholeWithin m
  pub counted : All IsOpenFunction m.functions

pub record IsDraftFew (d : Draft) : Type 0 where
  pub whole : IsWholeFew d.whole
  pub place : IsPlaceFew d.whole d.place

-- at both ends of a function
abbrev pub AtItsEnds : Item → Option Function → Type 0
AtItsEnds item.Close o = IsOpenKept o
AtItsEnds (item.Define name result_type parameters) o = IsOpenKept o
AtItsEnds _ o = Unit {0}

abbrev BeforeIfSome : Module → LineContext → Item → Option Draft → Type 0
BeforeIfSome m p i None = Unit {0}
BeforeIfSome m p i (Some e) = IsDraftFew e → IsDraftFew (drafted m p) × AtItsEnds i (open_function p)

-- behind a block that is at its end
record IsCore (m : Module) (f : Function) (b : Block) (i : Item) : Type 0 where
  whole : IsWholeFew m
  opened : IsOpenFew m f b
  ending : AreEndingShowsFew b.ending
  ends : AtItsEnds i (Some (with_block f b))

abbrev CoreIfSome : Module → Function → Block → Item → Option Draft → Type 0
CoreIfSome m f b i None = Unit {0}
CoreIfSome m f b i (Some e) = IsDraftFew e → IsCore m f b i

last_block : (m : Module) (f : Function) (b : Block) → IsFunctionWithin (with_block f b) → length m.functions < 256 → IsOpenFew m f b × AreEndingShowsFew b.ending
last_block m f b g room =
    let more = length-append f.blocks (b ∷ []) in
    let bound : length (f.blocks ++ b ∷ []) ≤ 1024 = g.blocks in
    let f_is : IsFunctionWithin f = record { parameters = g.parameters; notes = g.notes; blocks = omega (arith, more); each_block = All-first IsBlockWithin f.blocks b g.each_block } in
    let b_is : IsBlockWithin b = All-last IsBlockWithin f.blocks b g.each_block in
    (record { function = f_is; room = room; blocks = omega (arith, more); body = record { notes = b_is.notes; shows = b_is.shows } }, b_is.ending)

ended_core : (m : Module) (f : Function) (b : Block) (at : ℕ) (i : Item) → CoreIfSome m f b i (placed_in_ended m f b at i)
ended_core m f b at (item.Label label) = λ e.
    let l = last_block m f b e.place.function e.place.room in
    record { whole = e.whole; opened = l.0; ending = l.1; ends = tt }
ended_core m f b at item.Close = λ e.
    let g : Function = with_block f b in
    let more = length-append m.functions (g ∷ []) in
    let bound : length (m.functions ++ g ∷ []) ≤ 256 = e.whole.within.few in
    let fs = e.whole.within.functions in
    let l = last_block m f b (All-last IsFunctionWithin m.functions g fs) (omega (arith, more)) in
    record {
      whole = record { within = record { few = omega (arith, more); functions = All-first IsFunctionWithin m.functions g fs }; counted = All-first IsOpenFunction m.functions g e.whole.counted };
      opened = l.0;
      ending = l.1;
      ends = All-last IsOpenFunction m.functions g e.whole.counted;
    }
ended_core m f b at _ = tt

ended_before : (m : Module) (f : Function) (b : Block) (i : Item) (o : Option Draft) → CoreIfSome m f b i o → BeforeIfSome m (place.Ended f b) i o
ended_before m f b i None h = tt
ended_before m f b i (Some e) h = λ few. let c : IsCore m f b i = h few in (record { whole = c.whole; place = (c.opened, c.ending) }, c.ends)

core_body : (m : Module) (f : Function) (b : Block) (shows : List Inequality) (i : Item) (o : Option Draft) → length shows ≤ 32 → CoreIfSome m f b i o → BeforeIfSome m (place.Body f b shows) i o
core_body m f b shows i None le h = tt
core_body m f b shows i (Some e) le h = λ few. let c : IsCore m f b i = h few in (record { whole = c.whole; place = (c.opened, le) }, c.ends)

behind_before : (m : Module) (f : Function) (b : Block) (shows : List Inequality) (at : ℕ) (i : Item) (test : Bool) → (length shows == 0) ≡ test → BeforeIfSome m (place.Body f b shows) i (if test then placed_in_ended m f b at i else None)
behind_before m f b shows at i true e = core_body m f b shows i (placed_in_ended m f b at i) (omega (arith, eqb-true (length shows) 0 e)) (ended_core m f b at i)
behind_before m f b shows at i false e = tt

body_before : (m : Module) (f : Function) (b : Block) (shows : List Inequality) (at : ℕ) (i : Item) → BeforeIfSome m (place.Body f b shows) i (placed_in_body m f b shows at i)
body_before m f b shows at (item.Annotation (annotation.Shows i)) = λ e.
    let bound : length (shows ++ i ∷ []) ≤ 32 = e.place.1 in
    (record { whole = e.whole; place = (e.place.0, omega (arith, length-append shows (i ∷ []))) }, tt)
body_before m f b shows at (item.Annotation _) = tt
body_before m f b shows at (item.Instruction i) = λ e.
    let o : IsOpenFew m f (with_step b at shows i) = e.place.0 in
    let s : Step = record { line = at; shows = shows; instruction = i } in
    let all : All AreStepShowsFew (b.steps ++ s ∷ []) = o.body.shows in
    let opened : IsOpenFew m f b = record { function = o.function; room = o.room; blocks = o.blocks; body = record { notes = o.body.notes; shows = All-first AreStepShowsFew b.steps s all } } in
    (record { whole = e.whole; place = (opened, All-last AreStepShowsFew b.steps s all) }, tt)
body_before m f b shows at (item.Terminator t) = λ e.
    let o : IsOpenFew m f (with_ending b at shows t) = e.place.0 in
    let opened : IsOpenFew m f b = record { function = o.function; room = o.room; blocks = o.blocks; body = record { notes = o.body.notes; shows = o.body.shows } } in
    (record { whole = e.whole; place = (opened, e.place.1) }, tt)
body_before m f b shows at i = behind_before m f b shows at i (length shows == 0) refl

-- a place that is followed as another one is
as_phis : (m : Module) (f : Function) (b : Block) (i : Item) (o : Option Draft) → BeforeIfSome m (place.Body f b []) i o → BeforeIfSome m (place.Phis f b) i o
as_phis m f b i None h = tt
as_phis m f b i (Some e) h = λ few. let d = h few in (record { whole = d.0.whole; place = d.0.place.0 }, d.1)

phis_before : (m : Module) (f : Function) (b : Block) (at : ℕ) (i : Item) → BeforeIfSome m (place.Phis f b) i (placed_in_phis m f b at i)
phis_before m f b at (item.Phi p) = λ e.
    let o : IsOpenFew m f (with_phi b p) = e.place in
    let opened : IsOpenFew m f b = record { function = o.function; room = o.room; blocks = o.blocks; body = record { notes = o.body.notes; shows = o.body.shows } } in
    (record { whole = e.whole; place = opened }, tt)
phis_before m f b at i = as_phis m f b i (placed_in_body m f b [] at i) (body_before m f b [] at i)

as_block_head : (m : Module) (f : Function) (h : BlockHead) (i : Item) (o : Option Draft) → BeforeIfSome m (place.Phis f h.block) i o → BeforeIfSome m (place.BlockHead f h) i o
as_block_head m f h i None b = tt
as_block_head m f h i (Some e) b = λ few. let d = b few in (record { whole = d.0.whole; place = d.0.place }, d.1)

-- fewer annotations of a block
block_fewer : (m : Module) (f : Function) (h : BlockHead) (n : BlockNotes) → (AreBlockNotesFew n → AreBlockNotesFew h.block.notes) → IsWholeFew m → IsOpenFew m f (with_block_notes h.block n) → IsDraftFew (drafted m (place.BlockHead f h))
block_fewer m f h n fewer whole o =
    let opened : IsOpenFew m f h.block = record { function = o.function; room = o.room; blocks = o.blocks; body = record { notes = fewer o.body.notes; shows = o.body.shows } } in
    record { whole = whole; place = opened }

once_before : (m : Module) (f : Function) (h g : BlockHead) (a : Annotation) (test : Bool) → (IsDraftFew (drafted m (place.BlockHead f g)) → IsDraftFew (drafted m (place.BlockHead f h)))
    → BeforeIfSome m (place.BlockHead f h) (item.Annotation a) (placed_at_block m f (if test then None else Some g))
once_before m f h g a true b = tt
once_before m f h g a false b = λ e. (b e, tt)

block_annotated_before : (m : Module) (f : Function) (h : BlockHead) (a : Annotation) → BeforeIfSome m (place.BlockHead f h) (item.Annotation a) (annotated_in_block_head m f h a)
block_annotated_before m f h (annotation.Shows i) = λ e. (record { whole = e.whole; place = e.place.0 }, tt)
block_annotated_before m f h (annotation.Keeps i) = λ e.
    let n : BlockNotes = h.block.notes in
    (block_fewer m f h (record n { keeps = n.keeps ++ i ∷ [] }) (λ few. record { keeps = omega (arith, few.keeps, length-append n.keeps (i ∷ [])); pending = few.pending; foot = few.foot }) e.whole e.place, tt)
block_annotated_before m f h (annotation.Pending p) = λ e.
    let n : BlockNotes = h.block.notes in
    (block_fewer m f h (record n { pending = n.pending ++ p ∷ [] }) (λ few. record { keeps = few.keeps; pending = omega (arith, few.pending, length-append n.pending (p ∷ [])); foot = few.foot }) e.whole e.place, tt)
block_annotated_before m f h (annotation.Foot z) = λ e.
    let n : BlockNotes = h.block.notes in
    (block_fewer m f h (record n { foot = n.foot ++ z ∷ [] }) (λ few. record { keeps = few.keeps; pending = few.pending; foot = omega (arith, few.foot, length-append n.foot (z ∷ [])) }) e.whole e.place, tt)
block_annotated_before m f h (annotation.Left l) =
    let n : BlockNotes = record h.block.notes { left = l } in
    once_before m f h (record { block = with_block_notes h.block n; has_left = true }) (annotation.Left l) h.has_left
    (λ e. block_fewer m f h n (λ few. record { keeps = few.keeps; pending = few.pending; foot = few.foot }) e.whole e.place)
block_annotated_before m f h _ = tt

block_head_before : (m : Module) (f : Function) (h : BlockHead) (at : ℕ) (i : Item) → BeforeIfSome m (place.BlockHead f h) i (placed_in_block_head m f h at i)
block_head_before m f h at (item.Annotation a) = block_annotated_before m f h a
block_head_before m f h at i = as_block_head m f h i (placed_in_phis m f h.block at i) (phis_before m f h.block at i)

function_fewer : (m : Module) (h : FunctionHead) (n : FunctionNotes) → (AreFunctionNotesFew n → AreFunctionNotesFew h.function.notes) → IsWholeFew m → IsFunctionWithin (with_function_notes h.function n) × (length m.functions < 256)
    → IsDraftFew (drafted m (place.FunctionHead h))
function_fewer m h n fewer whole g =
    let f_is : IsFunctionWithin h.function = record { parameters = g.0.parameters; notes = fewer g.0.notes; blocks = g.0.blocks; each_block = g.0.each_block } in
    record { whole = whole; place = (f_is, g.1) }

once_function_before : (m : Module) (h g : FunctionHead) (a : Annotation) (test : Bool) → (IsDraftFew (drafted m (place.FunctionHead g)) → IsDraftFew (drafted m (place.FunctionHead h)))
    → BeforeIfSome m (place.FunctionHead h) (item.Annotation a) (placed_at_function m (if test then None else Some g))
once_function_before m h g a true b = tt
once_function_before m h g a false b = λ e. (b e, tt)

zone_before : (m : Module) (h : FunctionHead) (z : Zone) (which : Mode)
    → BeforeIfSome m (place.FunctionHead h) (item.Annotation (annotation.FunctionZone z)) (Some (drafted m (place.FunctionHead (record h { function = with_zone_of which h.function z }))))
zone_before m h z mode.Reads = λ e.
    let n : FunctionNotes = h.function.notes in
    (function_fewer m h (record n { reads = n.reads ++ z ∷ [] }) (λ few. record { requirements = few.requirements; guarantees = few.guarantees; reads = omega (arith, few.reads, length-append n.reads (z ∷ [])); writes = few.writes; adds = few.adds }) e.whole e.place, tt)
zone_before m h z mode.Writes = λ e.
    let n : FunctionNotes = h.function.notes in
    (function_fewer m h (record n { writes = n.writes ++ z ∷ [] }) (λ few. record { requirements = few.requirements; guarantees = few.guarantees; reads = few.reads; writes = omega (arith, few.writes, length-append n.writes (z ∷ [])); adds = few.adds }) e.whole e.place, tt)
zone_before m h z mode.Adds = λ e.
    let n : FunctionNotes = h.function.notes in
    (function_fewer m h (record n { adds = n.adds ++ z ∷ [] }) (λ few. record { requirements = few.requirements; guarantees = few.guarantees; reads = few.reads; writes = few.writes; adds = omega (arith, few.adds, length-append n.adds (z ∷ [])) }) e.whole e.place, tt)

function_annotated_before : (m : Module) (h : FunctionHead) (a : Annotation) → BeforeIfSome m (place.FunctionHead h) (item.Annotation a) (placed_at_function m (annotated_function h a))
function_annotated_before m h (annotation.Requires i) = λ e.
    let n : FunctionNotes = h.function.notes in
    (function_fewer m h (record n { requirements = n.requirements ++ i ∷ [] }) (λ few. record { requirements = omega (arith, few.requirements, length-append n.requirements (i ∷ [])); guarantees = few.guarantees; reads = few.reads; writes = few.writes; adds = few.adds }) e.whole e.place, tt)
function_annotated_before m h (annotation.Ensures i) = λ e.
    let n : FunctionNotes = h.function.notes in
    (function_fewer m h (record n { guarantees = n.guarantees ++ i ∷ [] }) (λ few. record { requirements = few.requirements; guarantees = omega (arith, few.guarantees, length-append n.guarantees (i ∷ [])); reads = few.reads; writes = few.writes; adds = few.adds }) e.whole e.place, tt)
function_annotated_before m h (annotation.FunctionZone z) = zone_before m h z z.mode
function_annotated_before m h (annotation.Measure x) =
    let n : FunctionNotes = record h.function.notes { measure = x } in
    once_function_before m h (record { function = with_function_notes h.function n; has_measure = true; has_budget = h.has_budget }) (annotation.Measure x) h.has_measure
    (λ e. function_fewer m h n (λ few. record { requirements = few.requirements; guarantees = few.guarantees; reads = few.reads; writes = few.writes; adds = few.adds }) e.whole e.place)
function_annotated_before m h (annotation.Budget x) =
    let n : FunctionNotes = record h.function.notes { budget = x } in
    once_function_before m h (record { function = with_function_notes h.function n; has_measure = h.has_measure; has_budget = true }) (annotation.Budget x) h.has_budget
    (λ e. function_fewer m h n (λ few. record { requirements = few.requirements; guarantees = few.guarantees; reads = few.reads; writes = few.writes; adds = few.adds }) e.whole e.place)
function_annotated_before m h _ = tt

function_head_before : (m : Module) (h : FunctionHead) (at : ℕ) (i : Item) → BeforeIfSome m (place.FunctionHead h) i (placed_in_function_head m h at i)
function_head_before m h at (item.Annotation a) = function_annotated_before m h a
function_head_before m h at (item.Label label) = λ e. (record { whole = e.whole; place = (e.place.function, e.place.room) }, tt)
function_head_before m h at _ = tt

if_before : (m : Module) (p : LineContext) (i : Item) (test : Bool) (e : Option Draft) → BeforeIfSome m p i e → BeforeIfSome m p i (if test then e else None)
if_before m p i true e h = h
if_before m p i false e h = tt

outside_before : (m : Module) (at : ℕ) (i : Item) → BeforeIfSome m place.Outside i (placed_outside m at i)
outside_before m at (item.Global g) =
    if_before m place.Outside (item.Global g) (length m.functions == 0) (Some (drafted (with_global m g) place.Outside))
    (λ e. (record { whole = record { within = record { few = e.whole.within.few; functions = e.whole.within.functions }; counted = e.whole.counted }; place = tt }, tt))
outside_before m at (item.Define name result_type parameters) = λ e. (record { whole = e.whole; place = tt }, tt)
outside_before m at _ = tt

before_place : (m : Module) (p : LineContext) (at : ℕ) (i : Item) → BeforeIfSome m p i (placed_in m p at i)
before_place m place.Outside at i = outside_before m at i
before_place m (place.FunctionHead h) at i = function_head_before m h at i
before_place m (place.BlockHead f h) at i = block_head_before m f h at i
before_place m (place.Phis f b) at i = phis_before m f b at i
before_place m (place.Body f b shows) at i = body_before m f b shows at i
before_place m (place.Ended f b) at i = ended_before m f b i (placed_in_ended m f b at i) (ended_core m f b at i)

-- What is within limits behind an item was so before it.
pub placed_before : (d e : Draft) (at : ℕ) (i : Item) → placed d at i ≡ Some e → IsDraftFew e → IsDraftFew d × AtItsEnds i (open_function d.place)
placed_before d e at i h = subst (BeforeIfSome d.whole d.place i) h (before_place d.whole d.place at i)

-- and it passes no limit of its place
pub place_passes : (m : Module) (p : LineContext) → IsPlaceFew m p → is_place_within m p ≡ true
place_passes m place.Outside is = refl
place_passes m (place.FunctionHead h) is = rw (lt-ltb (length m.functions) 256 is.1, le-leb (length h.function.parameters) 16 is.0.parameters, function_notes_pass h.function.notes is.0.notes) refl
place_passes m (place.BlockHead f h) is = rw (lt-ltb (length f.blocks) 1024 is.blocks, block_notes_pass h.block.notes is.body.notes) refl
place_passes m (place.Phis f b) is = refl
place_passes m (place.Body f b shows) is = rw (le-leb (length shows) 32 is.1) refl
place_passes m (place.Ended f b) is = refl
