-- What the rules on calls say of the program.
use Rattle.std.proofs.Common.{◌≡◌, ℕ, zero, suc, ◌<◌, Bool, true, false, not, List, [], ◌∷◌, map, length, get_or, refl, sym, ap, ◌∙◌, subst, arith, true≢false, Result, Ok, Err, Option, Some, None, is_some, nat_le, nat_eq}
use Rattle.std.specs.Prelude.{slice_get}
use Rattle.std.specs.List.{Contains, list_any}
use Rattle.std.proofs.lemmas.Bool.{or_parts, not-true}
use Rattle.std.proofs.lemmas.Bool.Decides.{nat_tests}
use Rattle.std.proofs.lemmas.List.{length-map}
use Rattle.std.proofs.lemmas.Option.{slice_get_within, slice_get-get_or}
use Rattle.program.specs.declared.function.Block.{Block}
use Rattle.program.specs.declared.function.Function.{Function}
use Rattle.program.specs.declared.identifier.FunctionId.{FunctionId}
use Rattle.program.specs.declared.identifier.GlobalId.{GlobalId}
use Rattle.program.specs.declared.identifier.ObjectName.TheVariants as object
use Rattle.program.specs.declared.instruction.Argument.{Argument}
use Rattle.program.specs.declared.instruction.Argument.TheVariants as argument
use Rattle.program.specs.declared.instruction.Instruction.{Instruction}
use Rattle.program.specs.declared.instruction.Instruction.TheVariants as instruction
use Rattle.program.specs.declared.instruction.Step.{Step}
use Rattle.syntax.specs.declared.instruction.Argument.{Argument as ArgumentText}
use Rattle.syntax.specs.declared.instruction.Instruction.{Instruction as InstructionText}
use Rattle.syntax.specs.declared.instruction.Instruction.TheVariants as text
use Rattle.syntax.specs.declared.module.Function.{Function as FunctionText}
use Rattle.linear.specs.declared.form.RegisterId.{RegisterId}
use Rattle.program.specs.declared.identifier.AllocaId.{AllocaId}
use Rattle.syntax.specs.declared.module.Module.{Module}
use Rattle.types.specs.declared.names.address.WholeObject.{WholeObject}
use Rattle.types.specs.declared.block.Body.{Body}
use Rattle.types.specs.declared.call.ResolvedCall.{ResolvedCall}
use Rattle.program.specs.declared.function.Program.{Program}
use Rattle.refusal.specs.declared.broken.Broken.{Broken as TypeFault}
use Rattle.types.specs.declared.instruction.Spot.{Spot}
use Rattle.types.specs.declared.names.mention.Mentions.{Mentions}
use Rattle.types.specs.names.Address.{Items, object_of}
use Rattle.types.proofs.TextCalls.{IsCallApart, IsApart, CallsApart}
use Rattle.types.specs.Call.{Named, are_distinct, is_any_named, is_named_below, passed_call, found_call, called, refused_call, arguments_of, fitting_arguments, as_function}
use Rattle.types.specs.names.Fault.{both_of, breaks, made_of, unless_of}
use Rattle.types.specs.Instruction.{instruction_of, step_of, defined_of, alloca_id_of}
use Rattle.types.specs.names.Layout.{layout_of}
use Rattle.types.specs.Function.{function_of, functions_of}
use Rattle.types.specs.Block.{block_of}
use Rattle.types.specs.names.Item.{items_of}
use Rattle.types.specs.Meaning.{Means}
use Rattle.types.specs.names.Mention.{ReachesGlobal, IsNamedTable, mentions_of}
use Rattle.types.specs.names.Scope.{Scope}
use Rattle.types.specs.names.Table.{look_up}
use Rattle.types.proofs.names.Inversion.{made_ok, then_ok, both_ok, unless_ok, all_ok, err_not_ok}

-- a test that no element passes
none_passes : {X : Type 0} (test : X → Bool) (xs : List X) (i : ℕ) (d : X) → list_any test xs ≡ false → i < length xs → test (get_or xs i d) ≡ false
none_passes test [] i d h l = absurd (omega arith)
none_passes test (x ∷ xs) zero d h l = (or_parts (test x) (list_any test xs) h).0
none_passes test (x ∷ xs) (suc i) d h l = none_passes test xs i d (or_parts (test x) (list_any test xs) h).1 (omega arith)

contained : {X : Type 0} (test : X → Bool) (xs : List X) (x : X) → list_any test xs ≡ false → Contains xs x → test x ≡ false
contained {X} test xs x h c = let P : X → Type 0 = λ y. test y ≡ false in subst P c.2 (none_passes test xs c.0 x h c.1)

module _ (mentions : List Mentions) (globals : ℕ) (named : Named) (table : IsNamedTable mentions globals named) where
  clear_by : (callee : ℕ) (arguments : List Argument) → callee < length mentions → is_any_named (slice_get named callee) arguments ≡ false →
      (global : GlobalId) → global.0 < globals → Contains arguments (argument.Object (object.Global global)) → ReachesGlobal mentions callee global.0 → ⊥
  clear_by callee arguments within h global small passed names =
      let row = get_or named callee [] in
      let here : slice_get named callee ≡ Some row = slice_get-get_or named callee [] (let s = table.size in omega (arith, within, s)) in
      let P : Option (List Bool) → Type 0 = λ o. is_any_named o arguments ≡ false in
      let none : list_any (is_named_below row) arguments ≡ false = subst P here h in
      let off : is_named_below row (argument.Object (object.Global global)) ≡ false = contained (is_named_below row) arguments _ none passed in
      true≢false (sym ((table.exact callee within global.0).1 (small, names)) ∙ off)

  passed_apart : (caller line : ℕ) (id : FunctionId) (arguments : List Argument) (call : ResolvedCall) → id.0 < length mentions →
      passed_call named caller line id arguments ≡ Ok call → IsCallApart mentions globals caller call.callee.0 call.arguments
  passed_apart caller line id arguments call within e =
      let first = then_ok _ (unless_of (are_distinct arguments) (breaks 204 line)) call e in
      let second = then_ok _ (unless_of (not (is_any_named (slice_get named id.0) arguments)) (breaks 204 line)) call first.2 in
      let third = made_ok _ (unless_of (nat_le id.0 caller) (breaks 205 line)) call second.2 in
      let P : ResolvedCall → Type 0 = λ c. IsCallApart mentions globals caller c.callee.0 c.arguments in
      let upward : nat_le id.0 caller ≡ true = unless_ok _ _ third.0 third.1 in
      let here : IsCallApart mentions globals caller id.0 arguments = record {
        upward = grind (arith, nat_tests, upward);
        distinct = unless_ok (are_distinct arguments) (breaks 204 line) first.0 first.1;
        clear = clear_by id.0 arguments within (not-true _ (unless_ok _ (breaks 204 line) second.0 second.1));
      } in
      subst P third.2 here

  module _ (items : Items) (functions : List FunctionText) (counted : length functions ≡ length mentions) (scope : Scope) where
    refused_bad : (line : ℕ) (arguments : List ArgumentText) (fault : TypeFault) (call : ResolvedCall) → refused_call items scope line arguments fault ≡ Ok call → ⊥
    refused_bad line arguments fault call e =
        let refused : Result (Unit {0}) TypeFault = Err fault in
        let part = then_ok _ (both_of (arguments_of items scope line [] arguments) refused) call e in
        err_not_ok fault call part.2

    found_apart : (caller line : ℕ) (has_result : Bool) (id : FunctionId) (callee : Option FunctionText) (arguments : List ArgumentText) (call : ResolvedCall) →
        slice_get functions id.0 ≡ callee → found_call items named scope caller line has_result id callee arguments ≡ Ok call → IsCallApart mentions globals caller call.callee.0 call.arguments
    found_apart caller line has_result id None arguments call at e = absurd (err_not_ok _ call e)
    found_apart caller line has_result id (Some callee) arguments call at e =
        let part = then_ok (passed_call named caller line id) (fitting_arguments items scope line has_result callee arguments) call e in
        let within : id.0 < length functions = slice_get_within functions id.0 callee at in
        passed_apart caller line id part.0 call (omega (arith, within, counted)) part.2

    called_apart : (caller line : ℕ) (has_result : Bool) (found : Result FunctionId TypeFault) (arguments : List ArgumentText) (call : ResolvedCall) →
        called items functions named scope caller line has_result found arguments ≡ Ok call → IsCallApart mentions globals caller call.callee.0 call.arguments
    called_apart caller line has_result (Ok id) arguments call e = found_apart caller line has_result id (slice_get functions id.0) arguments call refl e
    called_apart caller line has_result (Err fault) arguments call e = absurd (refused_bad line arguments fault call e)

    pub instruction_apart : (spot : Spot) (written : InstructionText) (meant : Instruction) → instruction_of items functions named scope spot written ≡ Ok meant → IsApart mentions globals spot.function meant
    instruction_apart spot (text.Binary register operator width left right) meant e =
        let P : Instruction → Type 0 = IsApart mentions globals spot.function in subst P (made_ok _ _ meant e).2 tt
    instruction_apart spot (text.Compare register predicate width left right) meant e =
        let P : Instruction → Type 0 = IsApart mentions globals spot.function in subst P (made_ok _ _ meant e).2 tt
    instruction_apart spot (text.Convert register conversion value) meant e =
        let P : Instruction → Type 0 = IsApart mentions globals spot.function in subst P (made_ok _ _ meant e).2 tt
    instruction_apart spot (text.Alloca register size) meant e =
        let P : Instruction → Type 0 = IsApart mentions globals spot.function in
        let entry : Result (Unit {0}) TypeFault = unless_of (nat_eq spot.block 0) (breaks 204 spot.line) in
        let part = then_ok (λ (p : RegisterId × AllocaId). made_of (λ (u : Unit {0}). instruction.Alloca p.0 p.1) entry)
        (both_of (defined_of scope spot.line register) (alloca_id_of scope spot.line register)) meant e in
        subst P (made_ok (λ (u : Unit {0}). instruction.Alloca part.0.0 part.0.1) entry meant part.2).2 tt
    instruction_apart spot (text.ElementPointer register base index) meant e =
        let P : Instruction → Type 0 = IsApart mentions globals spot.function in subst P (made_ok _ _ meant e).2 tt
    instruction_apart spot (text.Load register address) meant e =
        let P : Instruction → Type 0 = IsApart mentions globals spot.function in subst P (made_ok _ _ meant e).2 tt
    instruction_apart spot (text.Store value address) meant e =
        let P : Instruction → Type 0 = IsApart mentions globals spot.function in subst P (made_ok _ _ meant e).2 tt
    instruction_apart spot (text.StoreZeros cells address) meant e =
        let P : Instruction → Type 0 = IsApart mentions globals spot.function in
        let part = then_ok (λ (found : WholeObject). made_of (λ (u : Unit {0}). instruction.StoreZeros cells found.name) (unless_of (nat_eq found.cells cells) (breaks 204 spot.line)))
        (object_of items scope spot.line address) meant e in
        subst P (made_ok (λ (u : Unit {0}). instruction.StoreZeros cells part.0.name) (unless_of (nat_eq part.0.cells cells) (breaks 204 spot.line)) meant part.2).2 tt
    instruction_apart spot (text.AtomicAdd address value) meant e =
        let P : Instruction → Type 0 = IsApart mentions globals spot.function in subst P (made_ok _ _ meant e).2 tt
    instruction_apart spot (text.Call register callee arguments) meant e =
        let P : Instruction → Type 0 = IsApart mentions globals spot.function in
        let part = made_ok _ _ meant e in
        let call = (both_ok _ _ part.0 part.1).1 in
        subst P part.2 (called_apart spot.function spot.line (is_some register) (as_function spot.line (look_up items callee)) arguments part.0.1 call)
    instruction_apart spot (text.StartRegion register) meant e =
        let P : Instruction → Type 0 = IsApart mentions globals spot.function in subst P (made_ok _ _ meant e).2 tt

  pub functions_apart : (items : Items) (functions : List FunctionText) → length functions ≡ length mentions → (meant : List Function) → functions_of items functions named ≡ Ok meant → CallsApart mentions globals meant
  functions_apart items functions counted meant e f b s function block step at_f at_b at_s =
      let one = all_ok (function_of items functions named) functions meant f function e at_f in
      let scope = (layout_of one.0).scope in
      let whole = made_ok _ _ function one.1 in
      let at_b' : slice_get whole.0.1 b ≡ Some block = ap (λ (g : Function). slice_get g.blocks b) whole.2 ∙ at_b in
      let two = all_ok (block_of items functions named scope f one.0.result_type) one.0.blocks whole.0.1 b block (both_ok _ _ whole.0 whole.1).1 at_b' in
      let parts = made_ok _ _ block two.1 in
      let body = made_ok _ _ parts.0.1 (both_ok _ _ parts.0 parts.1).1 in
      let steps = (both_ok _ _ body.0.1 (both_ok _ _ body.0 body.1).1).0 in
      let at_s' : slice_get body.0.1.0 s ≡ Some step = ap (λ (d : Body). slice_get d.steps s) body.2 ∙ ap (λ (k : Block). slice_get k.steps s) parts.2 ∙ at_s in
      let three = all_ok (λ _. step_of items functions named scope f b) two.0.steps body.0.1.0 s step steps at_s' in
      let last = made_ok _ _ step three.1 in
      let P : Step → Type 0 = λ k. IsApart mentions globals f k.instruction in
      let spot : Spot = record { function = f; block = b; line = three.0.line } in
      subst P last.2 (instruction_apart items functions counted scope spot three.0.instruction last.0.1 (both_ok _ _ last.0 last.1).1)

-- the calls of a good module
pub meant_apart : (whole : Module) (program : Program) → Means whole (Ok program) →
    CallsApart (map (mentions_of (items_of whole)) whole.functions) (length whole.globals) program.functions
meant_apart whole program m =
    let mentions : List Mentions = map (mentions_of (items_of whole)) whole.functions in
    let made = made_ok _ _ program m.2 in
    let functions = (both_ok _ _ made.0 made.1).1 in
    let P : Program → Type 0 = λ t. CallsApart mentions (length whole.globals) t.functions in
    subst P made.2 (functions_apart mentions (length whole.globals) m.0 m.1 (items_of whole) whole.functions (sym (length-map whole.functions (mentions_of (items_of whole)))) made.0.1 functions)
