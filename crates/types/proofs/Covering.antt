-- What a resolved part names, its text mentions.
use Rattle.std.proofs.Common.{◌≡◌, ℕ, ◌<◌, List, [], Option, Some, None, Bool, is_some, refl, sym, ap, ◌∙◌, subst, Result, Ok, Err, nat_eq, nat_le, not}
use Rattle.std.specs.Prelude.{slice_get}
use Rattle.std.specs.List.{Contains}
use Rattle.linear.specs.declared.form.RegisterId.{RegisterId}
use Rattle.program.specs.declared.annotation.Pending.{Pending}
use Rattle.program.specs.declared.annotation.Zone.{Zone}
use Rattle.program.specs.declared.identifier.AllocaId.{AllocaId}
use Rattle.program.specs.declared.identifier.FunctionId.{FunctionId}
use Rattle.program.specs.declared.identifier.ObjectName.{ObjectName}
use Rattle.program.specs.declared.identifier.ObjectName.TheVariants as object
use Rattle.program.specs.declared.function.Parameter.{Parameter}
use Rattle.program.specs.declared.instruction.Address.{Address}
use Rattle.program.specs.declared.instruction.Address.TheVariants as address
use Rattle.program.specs.declared.instruction.Argument.{Argument}
use Rattle.program.specs.declared.instruction.Argument.TheVariants as argument
use Rattle.program.specs.declared.instruction.Instruction.{Instruction}
use Rattle.program.specs.declared.instruction.Instruction.TheVariants as instruction
use Rattle.syntax.specs.declared.annotation.Pending.{Pending as PendingText}
use Rattle.syntax.specs.declared.annotation.Zone.{Zone as ZoneText}
use Rattle.syntax.specs.declared.instruction.Address.{Address as AddressText}
use Rattle.syntax.specs.declared.instruction.Address.TheVariants as address_text
use Rattle.syntax.specs.declared.instruction.Argument.{Argument as ArgumentText}
use Rattle.syntax.specs.declared.instruction.Argument.TheVariants as argument_text
use Rattle.syntax.specs.declared.instruction.Instruction.{Instruction as InstructionText}
use Rattle.syntax.specs.declared.instruction.Instruction.TheVariants as text
use Rattle.syntax.specs.declared.module.Function.{Function as FunctionText}
use Rattle.syntax.specs.declared.operator.Width.TheVariants.{Bits64}
use Rattle.types.specs.declared.names.address.WholeObject.{WholeObject}
use Rattle.types.specs.declared.call.ResolvedCall.{ResolvedCall}
use Rattle.refusal.specs.declared.broken.Broken.{Broken as TypeFault}
use Rattle.types.specs.declared.names.form.AnnotationPlace.{AnnotationPlace}
use Rattle.types.specs.declared.names.form.AnnotationPlace.TheVariants as place
use Rattle.types.specs.declared.instruction.Spot.{Spot}
use Rattle.types.specs.declared.names.item.Item.{Item}
use Rattle.types.specs.declared.names.item.Item.TheVariants as item
use Rattle.types.specs.declared.names.mention.Mentions.{Mentions}
use Rattle.types.specs.declared.names.scope.Holding.{Holding}
use Rattle.types.specs.declared.names.scope.Holding.TheVariants as holding
use Rattle.types.specs.declared.names.scope.Named.TheVariants as named_as
use Rattle.types.specs.declared.names.scope.Register.{Register}
use Rattle.types.specs.names.Address.{Items, as_global, as_object, object_of, as_address, address_of}
use Rattle.types.specs.Apart.{AddressNames, InstructionNames}
use Rattle.types.specs.Call.{Named, as_function, argument_of, arguments_of, expected, takes_number, takes_object, fits_extent, fitting_arguments, passed_call, found_call, called, call_of, are_distinct, is_any_named}
use Rattle.types.specs.names.Fault.{and_then, both_of, breaks, made_of, unless_of}
use Rattle.types.specs.names.Form.{parameter_of, made_before}
use Rattle.types.specs.Instruction.{defined_of, instruction_of, alloca_id_of}
use Rattle.types.specs.names.Mention.{with_object, with_callee, with_address, with_argument, with_arguments, with_instruction}
use Rattle.types.specs.names.Note.{noted_global, noted_holding, noted_parameter, noted_register, noted_before, noted_object, zone_of, pending_of}
use Rattle.types.specs.names.Operand.{operand_of, register_of}
use Rattle.types.specs.names.Scope.{Scope, is_step_of}
use Rattle.types.specs.names.Table.{look_up}
use Rattle.types.proofs.names.Growing.{contains_pushed, Holds, arguments_extend, arguments_hold}
use Rattle.types.proofs.names.Inversion.{made_ok, then_ok, both_ok, all_at, err_not_ok, same_ok}
use Rattle.types.proofs.Scopes.{Entries, entries_found, register_found, parameter_found, IsOwnName, HoldsOwn, IsNamedRight}

-- each global is one of the module's
abbrev pub Bounded : Items → ℕ → Type 0
Bounded items globals = Entries (λ (name : List ℕ) (what : Item). (g : ℕ) (cells : ℕ) → what ≡ item.Global (record { 0 = g }) cells → g < globals) items

module _ (items : Items) (globals : ℕ) (n : ℕ) (IsParameter : List ℕ → Type 0) where
  -- where a text adds to what is mentioned: of a global its number, and other names are the function's own
  abbrev pub Adds : (Mentions → Mentions) → ObjectName → Type 0
  Adds add (object.Global id) = (id.0 < globals) × ((m : Mentions) → Contains (add m).globals id.0)
  Adds add (object.Alloca id) = Unit {0}
  Adds add (object.Parameter id) = id.0 < n

  own_adds : (add : Mentions → Mentions) (name : ObjectName) → IsOwnName n name → Adds add name
  own_adds add (object.Global id) h = absurd h
  own_adds add (object.Alloca id) h = tt
  own_adds add (object.Parameter id) h = h

  -- what is added by a part is added by the whole
  pub lifted : (add whole : Mentions → Mentions) (name : ObjectName) → Adds add name → ((m : Mentions) → Holds items add (whole m)) → Adds whole name
  lifted add whole (object.Global id) h k = (h.0, λ m. (k m).held.globals id.0 (h.1 (k m).before))
  lifted add whole (object.Alloca id) h k = tt
  lifted add whole (object.Parameter id) h k = h

  module _ (bounded : Bounded items globals) (scope : Scope) (right : Entries (IsNamedRight n IsParameter) scope) where
    holds_own : (name : List ℕ) (register : Register) → look_up scope name ≡ Some (named_as.Register register) → HoldsOwn n register.holding
    holds_own name register e = (entries_found (IsNamedRight n IsParameter) scope name (named_as.Register register) right e).2.0

    held_own : (line : ℕ) (held : Holding) (found : WholeObject) → HoldsOwn n held → as_object line held ≡ Ok found → IsOwnName n found.name
    held_own line (holding.Number width) found h e = absurd (err_not_ok _ found e)
    held_own line holding.Truth found h e = absurd (err_not_ok _ found e)
    held_own line (holding.Object name cells) found h e =
        let made : WholeObject = record { name = name; cells = cells } in
        let P : WholeObject → Type 0 = λ x. IsOwnName n x.name in
        subst P (same_ok made found e) h
    held_own line holding.Element found h e = absurd (err_not_ok _ found e)
    held_own line holding.Region found h e = absurd (err_not_ok _ found e)

    global_adds : (line : ℕ) (name : List ℕ) (found : WholeObject) → as_global line (look_up items name) ≡ Ok found → Adds (λ m. with_object m (look_up items name)) found.name
    global_adds line name found e = from (look_up items name) refl e
      where
        from : (o : Option Item) → look_up items name ≡ o → as_global line o ≡ Ok found → Adds (λ m. with_object m o) found.name
        from None is k = absurd (err_not_ok _ found k)
        from (Some (item.Function id)) is k = absurd (err_not_ok _ found k)
        from (Some (item.Global id cells)) is k =
            let made : WholeObject = record { name = object.Global id; cells = cells } in
            let P : WholeObject → Type 0 = λ x. Adds (λ m. with_object m (Some (item.Global id cells))) x.name in
            let entry = entries_found _ items name (item.Global id cells) bounded is in
            subst P (same_ok made found k) (entry.2 id.0 cells refl, λ m. contains_pushed m.globals id.0)

    pub object_adds : (line : ℕ) (at : AddressText) (found : WholeObject) → object_of items scope line at ≡ Ok found → Adds (λ m. with_address items m at) found.name
    object_adds line (address_text.Global name) found e = global_adds line name found e
    object_adds line (address_text.Register name) found e =
        let part = then_ok (λ (register : Register). as_object line register.holding) (register_of scope line name) found e in
        own_adds (λ m. m) found.name (held_own line part.0.holding found (holds_own name part.0 (register_found scope line name part.0 part.1)) part.2)

    abbrev pub AddressAdds : (Mentions → Mentions) → Address → Type 0
    AddressAdds add (address.First name) = Adds add name
    AddressAdds add (address.Element register) = Unit {0}

    held_address_adds : (add : Mentions → Mentions) (block line : ℕ) (register : Register) (held : Holding) (at : Address) → HoldsOwn n held → as_address block line register held ≡ Ok at → AddressAdds add at
    held_address_adds add block line register (holding.Number width) at h e = absurd (err_not_ok _ at e)
    held_address_adds add block line register holding.Truth at h e = absurd (err_not_ok _ at e)
    held_address_adds add block line register (holding.Object name cells) at h e =
        let P : Address → Type 0 = λ x. AddressAdds add x in
        subst P (same_ok (address.First name) at e) (own_adds add name h)
    held_address_adds add block line register holding.Element at h e =
        let made = made_ok (λ (u : Unit {0}). address.Element register.id) (unless_of (is_step_of block register.origin) (breaks 204 line)) at e in
        let P : Address → Type 0 = λ x. AddressAdds add x in
        subst P made.2 tt
    held_address_adds add block line register holding.Region at h e = absurd (err_not_ok _ at e)

    pub address_adds : (block line : ℕ) (written : AddressText) (at : Address) → address_of items scope block line written ≡ Ok at → AddressAdds (λ m. with_address items m written) at
    address_adds block line (address_text.Global name) at e =
        let made = made_ok (λ (found : WholeObject). address.First found.name) (as_global line (look_up items name)) at e in
        let P : Address → Type 0 = λ x. AddressAdds (λ m. with_address items m (address_text.Global name)) x in
        subst P made.2 (global_adds line name made.0 made.1)
    address_adds block line (address_text.Register name) at e =
        let part = then_ok (λ (register : Register). as_address block line register register.holding) (register_of scope line name) at e in
        held_address_adds (λ m. m) block line part.0 part.0.holding at (holds_own name part.0 (register_found scope line name part.0 part.1)) part.2

    -- ---- annotations

    noted_own : (line : ℕ) (register : Register) (name : ObjectName) → HoldsOwn n register.holding → noted_holding line register ≡ Ok name → IsOwnName n name
    noted_own line register name h e =
        let made = made_ok (λ (found : WholeObject). found.name) (as_object line register.holding) name e in
        let P : ObjectName → Type 0 = λ x. IsOwnName n x in
        subst P made.2 (held_own line register.holding made.0 h made.1)

    noted_parameter_own : (line : ℕ) (name : List ℕ) (found : ObjectName) → noted_parameter scope line name ≡ Ok found → IsOwnName n found
    noted_parameter_own line name found e =
        let part = then_ok (noted_holding line) (parameter_of scope line name) found e in
        noted_own line part.0 found (holds_own name part.0 (parameter_found scope line name part.0 part.1)) part.2

    noted_register_own : (line : ℕ) (name : List ℕ) (found : ObjectName) → noted_register scope line name ≡ Ok found → IsOwnName n found
    noted_register_own line name found e =
        let part = then_ok (noted_holding line) (register_of scope line name) found e in
        noted_own line part.0 found (holds_own name part.0 (register_found scope line name part.0 part.1)) part.2

    noted_before_own : (block line : ℕ) (name : List ℕ) (found : ObjectName) → noted_before scope block line name ≡ Ok found → IsOwnName n found
    noted_before_own block line name found e =
        let part = then_ok (λ (register : Register). and_then (noted_holding line register) (λ (what : ObjectName). made_of (λ (u : Unit {0}). what) (made_before line block register))) (register_of scope line name) found e in
        let inner = then_ok (λ (what : ObjectName). made_of (λ (u : Unit {0}). what) (made_before line block part.0)) (noted_holding line part.0) found part.2 in
        let made = made_ok (λ (u : Unit {0}). inner.0) (made_before line block part.0) found inner.2 in
        let P : ObjectName → Type 0 = λ x. IsOwnName n x in
        subst P made.2 (noted_own line part.0 inner.0 (holds_own name part.0 (register_found scope line name part.0 part.1)) inner.1)

    noted_global_adds : (line : ℕ) (name : List ℕ) (found : ObjectName) → noted_global line (look_up items name) ≡ Ok found → Adds (λ m. with_object m (look_up items name)) found
    noted_global_adds line name found e = from (look_up items name) refl e
      where
        from : (o : Option Item) → look_up items name ≡ o → noted_global line o ≡ Ok found → Adds (λ m. with_object m o) found
        from None is k = absurd (err_not_ok _ found k)
        from (Some (item.Function id)) is k = absurd (err_not_ok _ found k)
        from (Some (item.Global id cells)) is k =
            let P : ObjectName → Type 0 = λ x. Adds (λ m. with_object m (Some (item.Global id cells))) x in
            let entry = entries_found _ items name (item.Global id cells) bounded is in
            subst P (same_ok (object.Global id) found k) (entry.2 id.0 cells refl, λ m. contains_pushed m.globals id.0)

    noted_adds : (where_it_stands : AnnotationPlace) (line : ℕ) (at : AddressText) (found : ObjectName) → noted_object items scope where_it_stands line at ≡ Ok found → Adds (λ m. with_address items m at) found
    noted_adds place.Head line (address_text.Global name) found e = noted_global_adds line name found e
    noted_adds (place.Guarantee outcome) line (address_text.Global name) found e = noted_global_adds line name found e
    noted_adds place.Body line (address_text.Global name) found e = noted_global_adds line name found e
    noted_adds (place.Start block) line (address_text.Global name) found e = noted_global_adds line name found e
    noted_adds place.Head line (address_text.Register name) found e = own_adds (λ m. m) found (noted_parameter_own line name found e)
    noted_adds (place.Guarantee outcome) line (address_text.Register name) found e = own_adds (λ m. m) found (noted_parameter_own line name found e)
    noted_adds place.Body line (address_text.Register name) found e = own_adds (λ m. m) found (noted_register_own line name found e)
    noted_adds (place.Start block) line (address_text.Register name) found e = own_adds (λ m. m) found (noted_before_own block line name found e)

    pub zone_adds : (stands : AnnotationPlace) (written : ZoneText) (zone : Zone) → zone_of items scope stands written ≡ Ok zone → Adds (λ m. with_address items m written.object) zone.object
    zone_adds stands written zone e =
        let made = made_ok _ _ zone e in
        let parts = both_ok _ _ made.0 made.1 in
        let P : Zone → Type 0 = λ x. Adds (λ m. with_address items m written.object) x.object in
        subst P made.2 (noted_adds stands written.line written.object made.0.0 parts.0)

    pub pending_adds : (block : ℕ) (written : PendingText) (pending : Pending) → pending_of items scope block written ≡ Ok pending → Adds (λ m. with_address items m written.zone.object) pending.zone.object
    pending_adds block written pending e =
        let made = made_ok _ _ pending e in
        let parts = both_ok _ _ made.0 made.1 in
        let P : Pending → Type 0 = λ x. Adds (λ m. with_address items m written.zone.object) x.zone.object in
        subst P made.2 (zone_adds (place.Start block) written.zone made.0.1 parts.1)

    -- ---- calls

    abbrev ArgumentAdds : (Mentions → Mentions) → Argument → Type 0
    ArgumentAdds add (argument.Number value) = Unit {0}
    ArgumentAdds add (argument.Object name) = Adds add name

    argument_adds : (line : ℕ) (parameter : Option Parameter) (written : ArgumentText) (a : Argument) → argument_of items scope line parameter written ≡ Ok a → ArgumentAdds (λ m. with_argument items m written) a
    argument_adds line parameter (argument_text.Number value) a e =
        let part = then_ok _ (operand_of scope line Bits64 value) a e in
        let made = made_ok (λ (u : Unit {0}). argument.Number part.0) (unless_of (takes_number parameter) (breaks 202 line)) a part.2 in
        let P : Argument → Type 0 = λ x. ArgumentAdds (λ m. m) x in
        subst P made.2 tt
    argument_adds line parameter (argument_text.Pointer at) a e =
        let whole : Result (WholeObject × Unit {0}) TypeFault = both_of (object_of items scope line at) (unless_of (takes_object parameter) (breaks 202 line)) in
        let part = then_ok (λ (p : WholeObject × Unit {0}). made_of (λ (u : Unit {0}). argument.Object p.0.name) (unless_of (fits_extent p.0.cells parameter) (breaks 204 line))) whole a e in
        let made = made_ok (λ (u : Unit {0}). argument.Object part.0.0.name) (unless_of (fits_extent part.0.0.cells parameter) (breaks 204 line)) a part.2 in
        let P : Argument → Type 0 = λ x. ArgumentAdds (λ m. with_address items m at) x in
        subst P made.2 (object_adds line at part.0.0 (both_ok _ _ part.0 part.1).0)

    -- each argument's object is mentioned, and so is the callee
    pub record CallAdds (name : List ℕ) (written : List ArgumentText) (call : ResolvedCall) : Type 0 where
      pub callee : (m : Mentions) → Contains (with_callee m (look_up items name)).callees call.callee.0
      pub arguments : (i : ℕ) (passed : ObjectName) → slice_get call.arguments i ≡ Some (argument.Object passed) → Adds (λ m. with_arguments items m written) passed

    function_found : (line : ℕ) (o : Option Item) (id : FunctionId) → as_function line o ≡ Ok id → o ≡ Some (item.Function id)
    function_found line None id e = absurd (err_not_ok _ id e)
    function_found line (Some (item.Global g cells)) id e = absurd (err_not_ok _ id e)
    function_found line (Some (item.Function other)) id e = ap (λ (x : FunctionId). Some (item.Function x)) (same_ok other id e)

    callee_pushed : (o : Option Item) (id : FunctionId) → o ≡ Some (item.Function id) → (m : Mentions) → Contains (with_callee m o).callees id.0
    callee_pushed o id e m =
        let P : Option Item → Type 0 = λ x. Contains (with_callee m x).callees id.0 in
        subst P (sym e) (contains_pushed m.callees id.0)

    module _ (functions : List FunctionText) (named : Named) where
      arguments_add : (line : ℕ) (has_result : Bool) (callee : FunctionText) (written : List ArgumentText) (given : List Argument) → fitting_arguments items scope line has_result callee written ≡ Ok given →
          (i : ℕ) (passed : ObjectName) → slice_get given i ≡ Some (argument.Object passed) → Adds (λ m. with_arguments items m written) passed
      arguments_add line has_result callee written given e i passed at =
          let made = made_ok _ _ given e in
          let resolved = (both_ok _ _ made.0 made.1).0 in
          let same : slice_get made.0.0 i ≡ Some (argument.Object passed) = ap (λ (l : List Argument). slice_get l i) made.2 ∙ at in
          let found = all_at (λ place. argument_of items scope line (expected callee.parameters place)) written made.0.0 i (argument.Object passed) resolved same in
          lifted (λ m. with_argument items m found.0) (λ m. with_arguments items m written) passed
          (argument_adds line (expected callee.parameters i) found.0 (argument.Object passed) found.2)
          (λ m. arguments_hold items written i found.0 m found.1)

      found_adds : (caller line : ℕ) (has_result : Bool) (name : List ℕ) (id : FunctionId) (callee : Option FunctionText) (written : List ArgumentText) (call : ResolvedCall) →
          look_up items name ≡ Some (item.Function id) → found_call items named scope caller line has_result id callee written ≡ Ok call → CallAdds name written call
      found_adds caller line has_result name id None written call is e = absurd (err_not_ok _ call e)
      found_adds caller line has_result name id (Some callee) written call is e =
          let part = then_ok (passed_call named caller line id) (fitting_arguments items scope line has_result callee written) call e in
          let given = part.0 in
          let first = then_ok _ (unless_of (are_distinct given) (breaks 204 line)) call part.2 in
          let second = then_ok _ (unless_of (not (is_any_named (slice_get named id.0) given)) (breaks 204 line)) call first.2 in
          let third = made_ok _ (unless_of (nat_le id.0 caller) (breaks 205 line)) call second.2 in
          let P : ResolvedCall → Type 0 = λ x. CallAdds name written x in
          let here : CallAdds name written (record { callee = id; arguments = given }) = record {
            callee = callee_pushed (look_up items name) id is;
            arguments = arguments_add line has_result callee written given part.1;
          } in
          subst P third.2 here

      pub call_adds : (caller line : ℕ) (has_result : Bool) (name : List ℕ) (written : List ArgumentText) (call : ResolvedCall) → call_of items functions named scope caller line has_result name written ≡ Ok call → CallAdds name written call
      call_adds caller line has_result name written call e = from (as_function line (look_up items name)) refl e
        where
          from : (o : Result FunctionId TypeFault) → as_function line (look_up items name) ≡ o → called items functions named scope caller line has_result o written ≡ Ok call → CallAdds name written call
          from (Err fault) is k =
              let refused : Result (Unit {0}) TypeFault = Err fault in
              let part = then_ok _ (both_of (arguments_of items scope line [] written) refused) call k in
              absurd (err_not_ok fault call part.2)
          from (Ok id) is k = found_adds caller line has_result name id (slice_get functions id.0) written call (function_found line (look_up items name) id is) k

      -- ---- instructions

      -- what the instruction names and calls, its text mentions
      abbrev pub IsMentioned : (Mentions → Mentions) → Instruction → Type 0
      IsMentioned add (instruction.Binary register operator width left right) = Unit {0}
      IsMentioned add (instruction.Compare register predicate width left right) = Unit {0}
      IsMentioned add (instruction.Convert register conversion value) = Unit {0}
      IsMentioned add (instruction.Alloca register alloca) = Unit {0}
      IsMentioned add (instruction.ElementPointer register base index) = Adds add base
      IsMentioned add (instruction.Load register at) = AddressAdds add at
      IsMentioned add (instruction.Store value at) = AddressAdds add at
      IsMentioned add (instruction.StoreZeros cells base) = Adds add base
      IsMentioned add (instruction.AtomicAdd at value) = AddressAdds add at
      IsMentioned add (instruction.Call register callee arguments) =
          ((m : Mentions) → Contains (add m).callees callee.0) × ((i : ℕ) (name : ObjectName) → slice_get arguments i ≡ Some (argument.Object name) → Adds add name)
      IsMentioned add (instruction.StartRegion register) = Unit {0}

      address_named : (add : Mentions → Mentions) (at : Address) (name : ObjectName) → AddressAdds add at → AddressNames at name → Adds add name
      address_named add (address.First other) name h e = let P : ObjectName → Type 0 = λ x. Adds add x in subst P e h
      address_named add (address.Element register) name h e = absurd e

      pub named_adds : (add : Mentions → Mentions) (what : Instruction) (name : ObjectName) → IsMentioned add what → InstructionNames what name → Adds add name
      named_adds add (instruction.Binary register operator width left right) name h e = absurd e
      named_adds add (instruction.Compare register predicate width left right) name h e = absurd e
      named_adds add (instruction.Convert register conversion value) name h e = absurd e
      named_adds add (instruction.Alloca register alloca) name h e = absurd e
      named_adds add (instruction.ElementPointer register base index) name h e = let P : ObjectName → Type 0 = λ x. Adds add x in subst P e h
      named_adds add (instruction.Load register at) name h e = address_named add at name h e
      named_adds add (instruction.Store value at) name h e = address_named add at name h e
      named_adds add (instruction.StoreZeros cells base) name h e = let P : ObjectName → Type 0 = λ x. Adds add x in subst P e h
      named_adds add (instruction.AtomicAdd at value) name h e = address_named add at name h e
      named_adds add (instruction.Call register callee arguments) name h e = h.1 e.0 name e.1
      named_adds add (instruction.StartRegion register) name h e = absurd e

      call_mentioned : (name : List ℕ) (written : List ArgumentText) (call : ResolvedCall) (register : Option RegisterId) → CallAdds name written call →
          IsMentioned (λ m. with_arguments items (with_callee m (look_up items name)) written) (instruction.Call register call.callee call.arguments)
      call_mentioned name written call register c = (
        λ m. (arguments_extend items written (with_callee m (look_up items name))).callees call.callee.0 (c.callee m),
        λ i passed at. further_on passed (c.arguments i passed at),
      )
        where
          further_on : (passed : ObjectName) → Adds (λ m. with_arguments items m written) passed → Adds (λ m. with_arguments items (with_callee m (look_up items name)) written) passed
          further_on (object.Global id) h = (h.0, λ m. h.1 (with_callee m (look_up items name)))
          further_on (object.Alloca id) h = tt
          further_on (object.Parameter id) h = h

      pub is_mentioned : (spot : Spot) (written : InstructionText) (meant : Instruction) → instruction_of items functions named scope spot written ≡ Ok meant → IsMentioned (λ m. with_instruction items m written) meant
      is_mentioned spot (text.Binary register operator width left right) meant e =
          let P : Instruction → Type 0 = λ x. IsMentioned (λ m. m) x in subst P (made_ok _ _ meant e).2 tt
      is_mentioned spot (text.Compare register predicate width left right) meant e =
          let P : Instruction → Type 0 = λ x. IsMentioned (λ m. m) x in subst P (made_ok _ _ meant e).2 tt
      is_mentioned spot (text.Convert register conversion value) meant e =
          let P : Instruction → Type 0 = λ x. IsMentioned (λ m. m) x in subst P (made_ok _ _ meant e).2 tt
      is_mentioned spot (text.Alloca register size) meant e =
          let P : Instruction → Type 0 = λ x. IsMentioned (λ m. m) x in
          let entry : Result (Unit {0}) TypeFault = unless_of (nat_eq spot.block 0) (breaks 204 spot.line) in
          let part = then_ok (λ (p : RegisterId × AllocaId). made_of (λ (u : Unit {0}). instruction.Alloca p.0 p.1) entry)
          (both_of (defined_of scope spot.line register) (alloca_id_of scope spot.line register)) meant e in
          subst P (made_ok (λ (u : Unit {0}). instruction.Alloca part.0.0 part.0.1) entry meant part.2).2 tt
      is_mentioned spot (text.ElementPointer register base index) meant e =
          let P : Instruction → Type 0 = λ x. IsMentioned (λ m. with_address items m base) x in
          let made = made_ok _ _ meant e in
          subst P made.2 (object_adds spot.line base made.0.1.0 (both_ok _ _ made.0.1 (both_ok _ _ made.0 made.1).1).0)
      is_mentioned spot (text.Load register at) meant e =
          let P : Instruction → Type 0 = λ x. IsMentioned (λ m. with_address items m at) x in
          let made = made_ok _ _ meant e in
          subst P made.2 (address_adds spot.block spot.line at made.0.1 (both_ok _ _ made.0 made.1).1)
      is_mentioned spot (text.Store value at) meant e =
          let P : Instruction → Type 0 = λ x. IsMentioned (λ m. with_address items m at) x in
          let made = made_ok _ _ meant e in
          subst P made.2 (address_adds spot.block spot.line at made.0.1 (both_ok _ _ made.0 made.1).1)
      is_mentioned spot (text.StoreZeros cells at) meant e =
          let P : Instruction → Type 0 = λ x. IsMentioned (λ m. with_address items m at) x in
          let part = then_ok (λ (found : WholeObject). made_of (λ (u : Unit {0}). instruction.StoreZeros cells found.name) (unless_of (nat_eq found.cells cells) (breaks 204 spot.line)))
          (object_of items scope spot.line at) meant e in
          subst P (made_ok (λ (u : Unit {0}). instruction.StoreZeros cells part.0.name) (unless_of (nat_eq part.0.cells cells) (breaks 204 spot.line)) meant part.2).2 (object_adds spot.line at part.0 part.1)
      is_mentioned spot (text.AtomicAdd at value) meant e =
          let P : Instruction → Type 0 = λ x. IsMentioned (λ m. with_address items m at) x in
          let made = made_ok _ _ meant e in
          subst P made.2 (address_adds spot.block spot.line at made.0.0 (both_ok _ _ made.0 made.1).0)
      is_mentioned spot (text.Call register callee arguments) meant e =
          let P : Instruction → Type 0 = λ x. IsMentioned (λ m. with_arguments items (with_callee m (look_up items callee)) arguments) x in
          let made = made_ok _ _ meant e in
          let call = (both_ok _ _ made.0 made.1).1 in
          subst P made.2 (call_mentioned callee arguments made.0.1 made.0.0 (call_adds spot.function spot.line (is_some register) callee arguments made.0.1 call))
      is_mentioned spot (text.StartRegion register) meant e =
          let P : Instruction → Type 0 = λ x. IsMentioned (λ m. m) x in subst P (made_ok _ _ meant e).2 tt
