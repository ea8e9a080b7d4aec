-- The calls of a program keep pointers apart, by what its functions name themselves.
use Rattle.std.proofs.Common.{◌≡◌, ◌⊎◌, inl, inr, ℕ, zero, suc, ◌+◌, ◌<◌, ◌≤◌, List, [], ◌∷◌, ◌++◌, length, map, Option, Some, Bool, true, false, not, refl, sym, ap, ◌∙◌, subst, arith, Result, Ok, nat_eq, true≢false}
use Rattle.std.specs.Prelude.{slice_get}
use Rattle.std.specs.List.{Contains, list_any}
use Rattle.std.proofs.lemmas.Bool.{or_parts, not-true, and_parts}
use Rattle.std.proofs.lemmas.Bool.Decides.{nat_tests}
use Rattle.std.proofs.lemmas.List.{length-map}
use Rattle.linear.specs.declared.form.RegisterId.{RegisterId}
use Rattle.program.specs.declared.annotation.Pending.{Pending}
use Rattle.program.specs.declared.annotation.Zone.{Zone}
use Rattle.program.specs.declared.function.Block.{Block}
use Rattle.program.specs.declared.function.Function.{Function}
use Rattle.program.specs.declared.function.Program.{Program}
use Rattle.program.specs.declared.identifier.FunctionId.{FunctionId}
use Rattle.program.specs.declared.identifier.GlobalId.{GlobalId}
use Rattle.program.specs.declared.identifier.ObjectName.{ObjectName}
use Rattle.program.specs.declared.identifier.ObjectName.TheVariants as object
use Rattle.program.specs.declared.instruction.Argument.{Argument}
use Rattle.program.specs.declared.instruction.Argument.TheVariants as argument
use Rattle.program.specs.declared.instruction.Instruction.{Instruction}
use Rattle.program.specs.declared.instruction.Instruction.TheVariants as instruction
use Rattle.program.specs.declared.instruction.Phi.{Phi}
use Rattle.program.specs.declared.instruction.Step.{Step}
use Rattle.syntax.specs.declared.annotation.Zone.{Zone as ZoneText}
use Rattle.syntax.specs.declared.instruction.Step.{Step as StepText}
use Rattle.syntax.specs.declared.module.Block.{Block as BlockText}
use Rattle.syntax.specs.declared.module.Function.{Function as FunctionText}
use Rattle.syntax.specs.declared.module.Global.{Global as GlobalText}
use Rattle.syntax.specs.declared.module.Module.{Module}
use Rattle.types.specs.declared.block.Body.{Body}
use Rattle.types.specs.declared.block.Head.{Head}
use Rattle.types.specs.declared.function.Head.{Head as FunctionHead}
use Rattle.refusal.specs.declared.broken.Broken.{Broken as TypeFault}
use Rattle.types.specs.declared.names.form.AnnotationPlace.TheVariants as place
use Rattle.types.specs.declared.names.item.Item.{Item}
use Rattle.types.specs.declared.names.item.Item.TheVariants as item
use Rattle.types.specs.declared.names.mention.Mentions.{Mentions}
use Rattle.types.specs.names.Address.{Items}
use Rattle.types.specs.Apart.{InstructionNames, IsBlockAt, IsInstructionAt, IsNamedBy, in_instruction, in_zone, in_pending, in_foot, Reaches, itself, through, NamesGlobal, parameters_at, CallsApart}
use Rattle.program.specs.Heads.{parameters_in}
use Rattle.types.specs.Block.{head_of, body_of, block_with, block_of, blocks_of}
use Rattle.program.specs.ObjectNames.{same_object}
use Rattle.types.specs.Call.{Named, parameter_of, passes, is_passed_again, are_distinct}
use Rattle.types.specs.Definitions.{DefinesFrom, KeepsParameters, IsParameterName, EachDefinesAnew}
use Rattle.types.specs.Function.{head_of as function_head_of, head_zones_of, function_with, function_of, functions_of}
use Rattle.types.specs.Instruction.{phi_of, phis_of, instruction_of, step_of, steps_of}
use Rattle.types.specs.names.Item.{with_globals, with_functions, items_of}
use Rattle.types.specs.names.Layout.{layout_of}
use Rattle.reachability.specs.Ways.{IsWay}
use Rattle.types.specs.names.Mention.{with_address, with_instruction, mentions_of, globals_at, callees_at, ReachesGlobal}
use Rattle.types.specs.names.Note.{zone_of, zones_of, more_zones, pending_of, all_pending_of}
use Rattle.types.specs.names.Scope.{Scope}
use Rattle.types.specs.names.Table.{with_name}
use Rattle.types.specs.Meaning.{Means}
use Rattle.types.proofs.CallLaws.{meant_apart}
use Rattle.types.proofs.Covering.{Bounded, Adds, IsMentioned, named_adds, is_mentioned, zone_adds, pending_adds}
use Rattle.types.proofs.Defining.{phi_from, instruction_from}
use Rattle.types.proofs.names.Growing.{Holds, of_step, of_foot, of_pending, of_reads, of_writes, of_adds}
use Rattle.types.proofs.names.Inversion.{made_ok, both_ok, all_from_ok, same_place, all_at}
use Rattle.types.proofs.Scopes.{Entries, entries_with, IsNamedRight, scope_right}
use Rattle.types.proofs.TextCalls.{IsCallApart as IsTextApart, IsApart as IsTextInstructionApart, CallsApart as TextCallsApart}

-- ---- the globals of a module

abbrev IsBounded : ℕ → List ℕ → Item → Type 0
IsBounded globals name what = (g : ℕ) (cells : ℕ) → what ≡ item.Global (record { 0 = g }) cells → g < globals

abbrev number_of : Item → ℕ
number_of (item.Global id cells) = id.0
number_of (item.Function id) = 0

globals_bounded : (globals : ℕ) (list : List GlobalText) (place : ℕ) (items : Items) → place + length list ≡ globals → Bounded items globals → Bounded (with_globals place items list) globals
globals_bounded globals [] place items e b = b
globals_bounded globals (one ∷ list) place items e b =
    globals_bounded globals list (place + 1) (with_name items one.name (item.Global (record { 0 = place }) one.cells)) (omega arith)
    (entries_with (IsBounded globals) items one.name _ b (λ g cells is. let s : place ≡ g = ap number_of is in omega arith))

functions_bounded : (globals : ℕ) (list : List FunctionText) (place : ℕ) (items : Items) → Bounded items globals → Bounded (with_functions place items list) globals
functions_bounded globals [] place items b = b
functions_bounded globals (one ∷ list) place items b =
    functions_bounded globals list (place + 1) (with_name items one.name (item.Function (record { 0 = place })))
    (entries_with (IsBounded globals) items one.name _ b (λ g cells is. absurd (cc)))

items_bounded : (whole : Module) → Bounded (items_of whole) (length whole.globals)
items_bounded whole =
    functions_bounded (length whole.globals) whole.functions 0 (with_globals 0 [] whole.globals)
    (globals_bounded (length whole.globals) whole.globals 0 [] (omega arith) tt)

-- ---- the parts of a program with their texts

-- an element of two lists one behind the other
behind : {A : Type 0} (xs ys : List A) (i : ℕ) (a : A) → slice_get (xs ++ ys) i ≡ Some a → (slice_get xs i ≡ Some a) ⊎ ((j : ℕ) × (slice_get ys j ≡ Some a))
behind [] ys i a e = inr (i, e)
behind (x ∷ xs) ys zero a e = inl e
behind (x ∷ xs) ys (suc i) a e = behind xs ys i a e

mentioned_at : (items : Items) (functions : List FunctionText) (f : ℕ) (text : FunctionText) → slice_get functions f ≡ Some text →
    (globals_at (map (mentions_of items) functions) f ≡ (mentions_of items text).globals) × (callees_at (map (mentions_of items) functions) f ≡ (mentions_of items text).callees)
mentioned_at items [] f text e = absurd (cc)
mentioned_at items (one ∷ functions) zero text e = let s : one ≡ text = cc in (ap (λ (t : FunctionText). (mentions_of items t).globals) s, ap (λ (t : FunctionText). (mentions_of items t).callees) s)
mentioned_at items (one ∷ functions) (suc f) text e = mentioned_at items functions f text e

-- an element at a place is one of the list
contained_at : {A : Type 0} (xs : List A) (i : ℕ) (x : A) → slice_get xs i ≡ Some x → Contains xs x
contained_at [] i x e = absurd (cc)
contained_at (y ∷ xs) zero x e = (0, omega arith, (let s : y ≡ x = cc in s))
contained_at (y ∷ xs) (suc i) x e = let rest = contained_at xs i x e in (suc rest.0, (let l = rest.1 in omega arith), rest.2)

none_at : (test : Argument → Bool) (xs : List Argument) (i : ℕ) (x : Argument) → list_any test xs ≡ false → slice_get xs i ≡ Some x → test x ≡ false
none_at test [] i x h e = absurd (cc)
none_at test (y ∷ xs) zero x h e = let s : y ≡ x = cc in ap test (sym s) ∙ (or_parts (test y) (list_any test xs) h).0
none_at test (y ∷ xs) (suc i) x h e = none_at test xs i x (or_parts (test y) (list_any test xs) h).1 e

number_itself : (n : ℕ) → nat_eq n n ≡ true
number_itself n = grind (arith, nat_tests)

object_itself : (name : ObjectName) → same_object name name ≡ true
object_itself (object.Global a) = number_itself a.0
object_itself (object.Alloca a) = number_itself a.0
object_itself (object.Parameter a) = number_itself a.0

-- an object that is passed first is not passed again
not_again : (first : Argument) (others : List Argument) (j : ℕ) (name : ObjectName) → first ≡ argument.Object name → is_passed_again first others ≡ false → slice_get others j ≡ Some (argument.Object name) → ⊥
not_again first others j name is h at =
    let P : Argument → Type 0 = λ x. is_passed_again x others ≡ false in
    let none : list_any (passes name) others ≡ false = subst P is h in
    true≢false (sym (object_itself name) ∙ none_at (passes name) others j (argument.Object name) none at)

pub distinct_of : (arguments : List Argument) → are_distinct arguments ≡ true → (i j : ℕ) (name : ObjectName) → slice_get arguments i ≡ Some (argument.Object name) → slice_get arguments j ≡ Some (argument.Object name) → i ≡ j
distinct_of [] h i j name a b = absurd (cc)
distinct_of (first ∷ others) h zero zero name a b = refl
distinct_of (first ∷ others) h zero (suc j) name a b =
    absurd (not_again first others j name (let s : first ≡ argument.Object name = cc in s) (not-true _ (and_parts (not (is_passed_again first others)) (are_distinct others) h).0) b)
distinct_of (first ∷ others) h (suc i) zero name a b =
    absurd (not_again first others i name (let s : first ≡ argument.Object name = cc in s) (not-true _ (and_parts (not (is_passed_again first others)) (are_distinct others) h).0) a)
distinct_of (first ∷ others) h (suc i) (suc j) name a b = ap (λ k. suc k) (distinct_of others (and_parts (not (is_passed_again first others)) (are_distinct others) h).1 i j name a b)

module _ (items : Items) (globals : ℕ) (functions : List FunctionText) (named : Named) (bounded : Bounded items globals) (meant : List Function) (resolved : functions_of items functions named ≡ Ok meant) where
  abbrev mentions : List Mentions
  mentions = map (mentions_of items) functions

  abbrev Right : FunctionText → Type 0
  Right text = Entries (IsNamedRight (length text.parameters) (IsParameterName text.parameters)) (layout_of text).scope

  record FunctionFrom (f : ℕ) (function : Function) : Type 0 where
    pub text : FunctionText
    pub at : slice_get functions f ≡ Some text
    pub head : FunctionHead
    pub blocks : List Block
    pub head_is : function_head_of items (layout_of text) text.result_type text.notes ≡ Ok head
    pub blocks_are : blocks_of items functions named (layout_of text).scope f text.result_type text.blocks ≡ Ok blocks
    pub whole : function_with text (layout_of text) head blocks ≡ function

  function_from : (f : ℕ) (function : Function) → slice_get meant f ≡ Some function → FunctionFrom f function
  function_from f function e =
      let found = all_at (function_of items functions named) functions meant f function resolved e in
      let made = made_ok _ _ function found.2 in
      let parts = both_ok _ _ made.0 made.1 in
      record { text = found.0; at = found.1; head = made.0.0; blocks = made.0.1; head_is = parts.0; blocks_are = parts.1; whole = made.2 }

  parameters_same : (f : ℕ) (function : Function) → slice_get meant f ≡ Some function → (from : FunctionFrom f function) → parameters_at meant f ≡ length from.text.parameters
  parameters_same f function at from =
      ap parameters_in at ∙ ap (λ (g : Function). length g.parameters) (sym from.whole) ∙ length-map from.text.parameters parameter_of

  record BlockFrom (f b : ℕ) (block : Block) : Type 0 where
    pub function : Function
    pub at_function : slice_get meant f ≡ Some function
    pub from : FunctionFrom f function
    pub text : BlockText
    pub at : slice_get from.text.blocks b ≡ Some text
    pub head : Head
    pub body : Body
    pub head_is : head_of items (layout_of from.text).scope b text.notes ≡ Ok head
    pub body_is : body_of items functions named (layout_of from.text).scope f b from.text.result_type text ≡ Ok body
    pub whole : block_with text.line head body ≡ block

  block_from : (f b : ℕ) (block : Block) → IsBlockAt meant f b block → BlockFrom f b block
  block_from f b block k =
      let from = function_from f k.function k.at_function in
      let at : slice_get from.blocks b ≡ Some block = ap (λ (g : Function). slice_get g.blocks b) from.whole ∙ k.at_block in
      let found = all_at (block_of items functions named (layout_of from.text).scope f from.text.result_type) from.text.blocks from.blocks b block from.blocks_are at in
      let made = made_ok _ _ block found.2 in
      let parts = both_ok _ _ made.0 made.1 in
      record {
        function = k.function;
        at_function = k.at_function;
        from = from;
        text = found.0;
        at = found.1;
        head = made.0.0;
        body = made.0.1;
        head_is = parts.0;
        body_is = parts.1;
        whole = made.2;
      }

  module _ (f b : ℕ) (block : Block) (k : BlockFrom f b block) where
    abbrev scope : Scope
    scope = (layout_of k.from.text).scope

    steps_are : steps_of items functions named scope f b k.text.steps ≡ Ok block.steps
    steps_are =
        let made = made_ok _ _ k.body k.body_is in
        let found = (both_ok _ _ made.0.1 (both_ok _ _ made.0 made.1).1).0 in
        found ∙ ap (λ (x : Body). Ok x.steps) made.2 ∙ ap (λ (x : Block). Ok x.steps) k.whole

    phis_are : phis_of scope k.text.phis ≡ Ok block.phis
    phis_are =
        let made = made_ok _ _ k.body k.body_is in
        (both_ok _ _ made.0 made.1).0 ∙ ap (λ (x : Body). Ok x.phis) made.2 ∙ ap (λ (x : Block). Ok x.phis) k.whole

    pending_are : all_pending_of items scope b k.text.notes.pending ≡ Ok block.pending
    pending_are =
        let made = made_ok _ _ k.head k.head_is in
        (both_ok _ _ made.0.0 (both_ok _ _ made.0 made.1).0).1 ∙ ap (λ (x : Head). Ok x.pending) made.2 ∙ ap (λ (x : Block). Ok x.pending) k.whole

    foot_is : zones_of items scope place.Body k.text.notes.foot ≡ Ok block.foot
    foot_is =
        let made = made_ok _ _ k.head k.head_is in
        (both_ok _ _ made.0.1 (both_ok _ _ made.0 made.1).1).1 ∙ ap (λ (x : Head). Ok x.foot) made.2 ∙ ap (λ (x : Block). Ok x.foot) k.whole

  -- a zone behind others
  more_from : (scope : Scope) (before : Result (List Zone) TypeFault) (texts : List ZoneText) (zones : List Zone) (i : ℕ) (zone : Zone) → more_zones items scope place.Head before texts ≡ Ok zones → slice_get zones i ≡ Some zone →
      ((zs : List Zone) × (before ≡ Ok zs) × (slice_get zs i ≡ Some zone)) ⊎ ((j : ℕ) × (text : ZoneText) × (slice_get texts j ≡ Some text) × (zone_of items scope place.Head text ≡ Ok zone))
  more_from scope before texts zones i zone e at =
      let all = all_from_ok (λ _. zone_of items scope place.Head) 0 before texts zones e in
      elim (behind all.0 all.1 i zone (ap (λ (l : List Zone). slice_get l i) (sym all.3) ∙ at)) [
        | inl old ↦ inl (all.0, all.2, old)
        | inr new ↦ (let found = same_place (λ _. zone_of items scope place.Head) 0 texts all.1 new.0 zone all.4 new.1 in inr (new.0, found.0, found.1, found.2))
      ]

  zone_from : (scope : Scope) (texts : List ZoneText) (zones : List Zone) (stands : _) (i : ℕ) (zone : Zone) → zones_of items scope stands texts ≡ Ok zones → slice_get zones i ≡ Some zone →
      (text : ZoneText) × (slice_get texts i ≡ Some text) × (zone_of items scope stands text ≡ Ok zone)
  zone_from scope texts zones stands i zone e at = all_at (λ _. zone_of items scope stands) texts zones i zone e at

  -- ---- what is named is mentioned

  abbrev IsHeld : ℕ → ℕ → Type 0
  IsHeld f g = (g < globals) × Contains (globals_at mentions f) g

  held_by : (f : ℕ) (text : FunctionText) (add : Mentions → Mentions) (id : GlobalId) → slice_get functions f ≡ Some text →
      (id.0 < globals) × ((m : Mentions) → Contains (add m).globals id.0) → Holds items add (mentions_of items text) → IsHeld f id.0
  held_by f text add id at a h =
      let P : List ℕ → Type 0 = λ l. Contains l id.0 in
      (a.0, subst P (sym (mentioned_at items functions f text at).0) (h.held.globals id.0 (a.1 h.before)))

  record StepFrom (f b s : ℕ) (what : Instruction) : Type 0 where
    pub block : Block
    pub from : BlockFrom f b block
    pub text : StepText
    pub at : slice_get from.text.steps s ≡ Some text
    pub is : instruction_of items functions named (layout_of from.from.text).scope (record { function = f; block = b; line = text.line }) text.instruction ≡ Ok what

  step_from : (f b s : ℕ) (what : Instruction) → IsInstructionAt meant f b s what → StepFrom f b s what
  step_from f b s what k =
      let from = block_from f b k.block k.at_block in
      let found = all_at (λ _. step_of items functions named (layout_of from.from.text).scope f b) from.text.steps k.block.steps s k.step (steps_are f b k.block from) k.at_step in
      let made = made_ok _ _ k.step found.2 in
      let one = (both_ok _ _ made.0 made.1).1 in
      let same : made.0.1 ≡ what = ap (λ (x : Step). x.instruction) made.2 ∙ k.does in
      record { block = k.block; from = from; text = found.0; at = found.1; is = one ∙ ap (λ (x : Instruction). Ok x) same }

  step_mentioned : (f b s : ℕ) (what : Instruction) (k : StepFrom f b s what) →
      IsMentioned items globals (length k.from.from.text.parameters) (IsParameterName k.from.from.text.parameters) bounded (layout_of k.from.from.text).scope (scope_right k.from.from.text) functions named (λ m. with_instruction items m k.text.instruction) what
  step_mentioned f b s what k =
      is_mentioned items globals (length k.from.from.text.parameters) (IsParameterName k.from.from.text.parameters) bounded (layout_of k.from.from.text).scope (scope_right k.from.from.text) functions named
      (record { function = f; block = b; line = k.text.line }) k.text.instruction what k.is

  -- of a zone
  held_zone : (f n : ℕ) (IsParameter : List ℕ → Type 0) (text : FunctionText) (written : ZoneText) (name : ObjectName) (id : GlobalId) → slice_get functions f ≡ Some text →
      Adds items globals n IsParameter (λ m. with_address items m written.object) name → name ≡ object.Global id → Holds items (λ m. with_address items m written.object) (mentions_of items text) → IsHeld f id.0
  held_zone f n IsParameter text written name id at a same h =
      let P : ObjectName → Type 0 = λ x. Adds items globals n IsParameter (λ m. with_address items m written.object) x in
      held_by f text (λ m. with_address items m written.object) id at (subst P same a) h

  zones_are : (f : ℕ) (function : Function) (from : FunctionFrom f function) → head_zones_of items (layout_of from.text).scope from.text.notes ≡ Ok function.zones
  zones_are f function from =
      let made = made_ok _ _ from.head from.head_is in
      (both_ok _ _ made.0.1 (both_ok _ _ made.0 made.1).1).0 ∙ ap (λ (x : FunctionHead). Ok x.zones) made.2 ∙ ap (λ (x : Function). Ok x.zones) from.whole

  held_head : (f i : ℕ) (function : Function) (zone : Zone) (id : GlobalId) (from : FunctionFrom f function) → slice_get function.zones i ≡ Some zone → zone.object ≡ object.Global id → IsHeld f id.0
  held_head f i function zone id from at same =
      let scope = (layout_of from.text).scope in
      let notes = from.text.notes in
      let reads = zones_of items scope place.Head notes.reads in
      elim (more_from scope (more_zones items scope place.Head reads notes.writes) notes.adds function.zones i zone (zones_are f function from) at) [
        | inl old ↦ elim (more_from scope reads notes.writes old.0 i zone old.1 old.2) [
          | inl older ↦ (let found = zone_from scope notes.reads older.0 place.Head i zone older.1 older.2 in by_text found.0 found.2 (of_reads items from.text i found.0 found.1))
          | inr new ↦ by_text new.1 new.3 (of_writes items from.text new.0 new.1 new.2)
        ]
        | inr new ↦ by_text new.1 new.3 (of_adds items from.text new.0 new.1 new.2)
      ]
    where
      by_text : (written : ZoneText) → zone_of items (layout_of from.text).scope place.Head written ≡ Ok zone → Holds items (λ m. with_address items m written.object) (mentions_of items from.text) → IsHeld f id.0
      by_text written is h =
          held_zone f (length from.text.parameters) (IsParameterName from.text.parameters) from.text written zone.object id from.at
          (zone_adds items globals (length from.text.parameters) (IsParameterName from.text.parameters) bounded (layout_of from.text).scope (scope_right from.text) place.Head written zone is) same h

  held_foot : (f b i : ℕ) (block : Block) (zone : Zone) (id : GlobalId) (k : BlockFrom f b block) → slice_get block.foot i ≡ Some zone → zone.object ≡ object.Global id → IsHeld f id.0
  held_foot f b i block zone id k at same =
      let text = k.from.text in
      let found = zone_from (layout_of text).scope k.text.notes.foot block.foot place.Body i zone (foot_is f b block k) at in
      held_zone f (length text.parameters) (IsParameterName text.parameters) text found.0 zone.object id k.from.at
      (zone_adds items globals (length text.parameters) (IsParameterName text.parameters) bounded (layout_of text).scope (scope_right text) place.Body found.0 zone found.2) same
      (of_foot items text b k.text k.at i found.0 found.1)

  held_pending : (f b i : ℕ) (block : Block) (pending : Pending) (id : GlobalId) (k : BlockFrom f b block) → slice_get block.pending i ≡ Some pending → pending.zone.object ≡ object.Global id → IsHeld f id.0
  held_pending f b i block pending id k at same =
      let text = k.from.text in
      let found = all_at (λ _. pending_of items (layout_of text).scope b) k.text.notes.pending block.pending i pending (pending_are f b block k) at in
      held_zone f (length text.parameters) (IsParameterName text.parameters) text found.0.zone pending.zone.object id k.from.at
      (pending_adds items globals (length text.parameters) (IsParameterName text.parameters) bounded (layout_of text).scope (scope_right text) b found.0 pending found.2) same
      (of_pending items text b k.text k.at i found.0 found.1)

  held_instruction : (f b s : ℕ) (what : Instruction) (id : GlobalId) (k : StepFrom f b s what) → InstructionNames what (object.Global id) → IsHeld f id.0
  held_instruction f b s what id k names =
      let text = k.from.from.text in
      held_by f text (λ m. with_instruction items m k.text.instruction) id k.from.from.at
      (named_adds items globals (length text.parameters) (IsParameterName text.parameters) bounded (layout_of text).scope (scope_right text) functions named (λ m. with_instruction items m k.text.instruction) what (object.Global id) (step_mentioned f b s what k) names)
      (of_step items text b k.from.text k.from.at s k.text k.at)

  named_held : (f : ℕ) (id : GlobalId) → IsNamedBy meant f (object.Global id) → IsHeld f id.0
  named_held f id (in_instruction b s what at names) = held_instruction f b s what id (step_from f b s what at) names
  named_held f id (in_zone i function zone at_f at same) = held_head f i function zone id (function_from f function at_f) at same
  named_held f id (in_pending b i block pending k at same) = held_pending f b i block pending id (block_from f b block k) at same
  named_held f id (in_foot b i block zone k at same) = held_foot f b i block zone id (block_from f b block k) at same

  -- ---- calls

  call_held : (caller b s : ℕ) (d : Option RegisterId) (id : FunctionId) (arguments : List Argument) (k : StepFrom caller b s (instruction.Call d id arguments)) → Contains (callees_at mentions caller) id.0
  call_held caller b s d id arguments k =
      let text = k.from.from.text in
      let h = of_step items text b k.from.text k.from.at s k.text k.at in
      let P : List ℕ → Type 0 = λ l. Contains l id.0 in
      subst P (sym (mentioned_at items functions caller text k.from.from.at).1) (h.held.callees id.0 ((step_mentioned caller b s (instruction.Call d id arguments) k).0 h.before))

  module _ (apart : TextCallsApart mentions globals meant) where
    text_apart : (caller b s : ℕ) (d : Option RegisterId) (id : FunctionId) (arguments : List Argument) → IsInstructionAt meant caller b s (instruction.Call d id arguments) → IsTextApart mentions globals caller id.0 arguments
    text_apart caller b s d id arguments k =
        let P : Instruction → Type 0 = λ x. IsTextInstructionApart mentions globals caller x in
        subst P k.does (apart caller b s k.at_block.function k.block k.step k.at_block.at_function k.at_block.at_block k.at_step)

    chain_of : (from to : ℕ) → Reaches meant from to → (callers : List ℕ) × IsWay (callees_at mentions) from callers to
    chain_of from to itself = ([], refl)
    chain_of from to (through caller b s d id arguments before k) =
        let rest = chain_of from caller before in
        (caller ∷ rest.0, (call_held caller b s d id arguments (step_from caller b s (instruction.Call d id arguments) k), rest.1))

    is_named : (from : ℕ) (id : GlobalId) → NamesGlobal meant from id → ReachesGlobal mentions from id.0
    is_named from id (to, reaches, named_there) =
        let chain = chain_of from to reaches in
        (to, chain.0, chain.1, (named_held to id named_there).1)

    argument_right : (caller b s : ℕ) (d : Option RegisterId) (id : FunctionId) (arguments : List Argument) (k : StepFrom caller b s (instruction.Call d id arguments)) (i : ℕ) (name : ObjectName) → slice_get arguments i ≡ Some (argument.Object name) →
        Adds items globals (length k.from.from.text.parameters) (IsParameterName k.from.from.text.parameters) (λ m. with_instruction items m k.text.instruction) name
    argument_right caller b s d id arguments k i name at = (step_mentioned caller b s (instruction.Call d id arguments) k).1 i name at

    pub calls_apart : CallsApart meant
    calls_apart caller b s d id arguments k =
        let t = text_apart caller b s d id arguments k in
        let from = step_from caller b s (instruction.Call d id arguments) k in
        let same : parameters_at meant caller ≡ length from.from.from.text.parameters = parameters_same caller from.from.function from.from.at_function from.from.from in
        record {
          upward = t.upward;
          distinct = distinct_of arguments t.distinct;
          own = λ i r at. let P : ℕ → Type 0 = λ n. r.0 < n in subst P (sym same) (argument_right caller b s d id arguments from i (object.Parameter r) at);
          clear = λ i g at names. t.clear g (argument_right caller b s d id arguments from i (object.Global g) at).0 (contained_at arguments i _ at) (is_named id.0 g names);
        }

  -- ---- definitions

  pub parameters_kept : EachDefinesAnew functions → KeepsParameters meant
  parameters_kept anew = record { by_instructions = by_instructions; by_phis = by_phis }
    where
      by_instructions : (f b s : ℕ) (what : Instruction) → IsInstructionAt meant f b s what → DefinesFrom (parameters_at meant f) what
      by_instructions f b s what k =
          let from = step_from f b s what k in
          let text = from.from.from.text in
          let same : parameters_at meant f ≡ length text.parameters = parameters_same f from.from.function from.from.at_function from.from.from in
          let P : ℕ → Type 0 = λ n. DefinesFrom n what in
          subst P (sym same)
          (instruction_from (length text.parameters) (IsParameterName text.parameters) (layout_of text).scope (scope_right text) items functions named (record { function = f; block = b; line = from.text.line }) from.text.instruction what from.is
          (λ name e is. (anew f text from.from.from.at).by_instructions b s from.from.text from.text name from.from.at from.at e is))

      by_phis : (f b i : ℕ) (block : Block) (phi : Phi) → IsBlockAt meant f b block → slice_get block.phis i ≡ Some phi → parameters_at meant f ≤ phi.register.0
      by_phis f b i block phi k at =
          let from = block_from f b block k in
          let text = from.from.text in
          let same : parameters_at meant f ≡ length text.parameters = parameters_same f from.function from.at_function from.from in
          let found = all_at (λ _. phi_of (layout_of text).scope) from.text.phis block.phis i phi (phis_are f b block from) at in
          let P : ℕ → Type 0 = λ n. n ≤ phi.register.0 in
          subst P (sym same)
          (phi_from (length text.parameters) (IsParameterName text.parameters) (layout_of text).scope (scope_right text) found.0 phi found.2 (λ is. (anew f text from.from.at).by_phis b i from.text found.0 from.at found.1 is))

-- of a module
functions_are : (whole : Module) (program : Program) (m : Means whole (Ok program)) → functions_of (items_of whole) whole.functions m.0 ≡ Ok program.functions
functions_are whole program m =
    let made = made_ok _ _ program m.2 in
    (both_ok _ _ made.0 made.1).1 ∙ ap (λ (p : Program). Ok p.functions) made.2

pub program_apart : (whole : Module) (program : Program) → Means whole (Ok program) → CallsApart program.functions
program_apart whole program m =
    calls_apart (items_of whole) (length whole.globals) whole.functions m.0 (items_bounded whole) program.functions (functions_are whole program m) (meant_apart whole program m)

pub program_kept : (whole : Module) (program : Program) → Means whole (Ok program) → EachDefinesAnew whole.functions → KeepsParameters program.functions
program_kept whole program m anew =
    parameters_kept (items_of whole) (length whole.globals) whole.functions m.0 (items_bounded whole) program.functions (functions_are whole program m) anew
