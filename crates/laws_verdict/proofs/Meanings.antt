-- A module means one program, or has one earliest fault: the tables of the globals that functions name are told apart by no rule.
use Rattle.std.proofs.Common.{◌≡◌, ◌↔◌, ◌∙◌, ℕ, ◌<◌, inl, inr, List, [], length, map, Option, Some, None, is_some, Bool, true, false, Result, Ok, Err, not, refl, sym, ap, get_or, arith}
use Rattle.std.specs.Prelude.{slice_get, nat_le}
use Rattle.std.specs.List.{list_any}
use Rattle.std.proofs.lemmas.Bool.{cases_lt}
use Rattle.std.proofs.lemmas.Option.{slice_get-get_or, slice_get_past}
use Rattle.program.specs.declared.identifier.FunctionId.{FunctionId}
use Rattle.program.specs.declared.identifier.ObjectName.TheVariants as object
use Rattle.program.specs.declared.instruction.Argument.{Argument}
use Rattle.program.specs.declared.instruction.Argument.TheVariants as argument
use Rattle.program.specs.declared.instruction.Instruction.TheVariants as instruction
use Rattle.program.specs.declared.function.Program.{Program}
use Rattle.refusal.specs.declared.broken.Broken.{Broken}
use Rattle.syntax.specs.declared.instruction.Argument.{Argument as ArgumentText}
use Rattle.syntax.specs.declared.instruction.Instruction.{Instruction as InstructionText}
use Rattle.syntax.specs.declared.instruction.Instruction.TheVariants as text
use Rattle.syntax.specs.declared.instruction.Step.{Step as StepText}
use Rattle.syntax.specs.declared.module.Block.{Block as BlockText}
use Rattle.syntax.specs.declared.module.Function.{Function as FunctionText}
use Rattle.syntax.specs.declared.module.Module.{Module}
use Rattle.syntax.specs.declared.module.ResultType.{ResultType}
use Rattle.types.specs.declared.names.form.AnnotationPlace.TheVariants.{Body}
use Rattle.types.specs.names.Address.{Items}
use Rattle.types.specs.names.Fault.{all_of, and_then, both_of, breaks, made_of, unless_of}
use Rattle.types.specs.names.Form.{inequalities_of}
use Rattle.types.specs.names.Item.{items_of}
use Rattle.types.specs.names.Layout.{layout_of}
use Rattle.types.specs.names.Mention.{mentions_of, ReachesGlobal}
use Rattle.types.specs.names.Scope.{Scope}
use Rattle.types.specs.declared.instruction.Spot.{Spot}
use Rattle.types.specs.Call.{Named, is_named_below, is_any_named, are_distinct, fitting_arguments, passed_call, found_call, called, as_function}
use Rattle.types.specs.Instruction.{call_register_of, call_step_of, instruction_of, step_of, phis_of}
use Rattle.types.specs.Block.{head_of, body_of, block_with, block_of}
use Rattle.types.specs.Function.{head_of as function_head_of, function_with, function_of}
use Rattle.types.specs.Meaning.{main_of, program_with, program_from, IsNamedIn, Means}
use Rattle.types.specs.Terminator.{ending_of}
use Rattle.types.specs.names.Table.{look_up}

-- ---- the tables tell the same

same_bool : (s t : Bool) (P : Type 0) → (s ≡ true) ↔ P → (t ≡ true) ↔ P → s ≡ t
same_bool true true P h k = refl
same_bool true false P h k = absurd (let e : false ≡ true = k.1 (h.0 refl) in cc)
same_bool false true P h k = absurd (let e : false ≡ true = h.1 (k.0 refl) in cc)
same_bool false false P h k = refl

-- two rows that mark the same globals
row_same : (x y : List Bool) → ((g : ℕ) → get_or x g false ≡ get_or y g false) → (a : Argument) → is_named_below x a ≡ is_named_below y a
row_same x y same (argument.Number value) = refl
row_same x y same (argument.Object (object.Global id)) = same id.0
row_same x y same (argument.Object (object.Alloca id)) = refl
row_same x y same (argument.Object (object.Parameter id)) = refl

module _ (whole : Module) (a b : Named) (one : IsNamedIn whole a) (other : IsNamedIn whole b) where
  marks_same : (id : ℕ) → id < length a → (g : ℕ) → get_or (get_or a id []) g false ≡ get_or (get_or b id []) g false
  marks_same id within g =
      same_bool (get_or (get_or a id []) g false) (get_or (get_or b id []) g false) ((g < length whole.globals) × ReachesGlobal (map (mentions_of (items_of whole)) whole.functions) id g)
      (one.exact id (omega (arith, within, one.size)) g) (other.exact id (omega (arith, within, one.size)) g)

  rows_same : (id : ℕ) (arguments : List Argument) → is_any_named (slice_get a id) arguments ≡ is_any_named (slice_get b id) arguments
  rows_same id arguments = elim (cases_lt id (length a)) [
    | inl within ↦
        let left : slice_get a id ≡ Some (get_or a id []) = slice_get-get_or a id [] within in
        let right : slice_get b id ≡ Some (get_or b id []) = slice_get-get_or b id [] (omega (arith, within, one.size, other.size)) in
        ap (λ (o : Option (List Bool)). is_any_named o arguments) left
        ∙ (λ i. list_any (λ x. row_same (get_or a id []) (get_or b id []) (marks_same id within) x i) arguments)
        ∙ ap (λ (o : Option (List Bool)). is_any_named o arguments) (sym right)
    | inr past ↦
        let left : slice_get a id ≡ None = slice_get_past a id past in
        let right : slice_get b id ≡ None = slice_get_past b id (omega (arith, past, one.size, other.size)) in
        ap (λ (o : Option (List Bool)). is_any_named o arguments) (left ∙ sym right)
  ]

-- ---- so what is made by them is the same

module _ (items : Items) (texts : List FunctionText) (a b : Named) (same : (id : ℕ) (arguments : List Argument) → is_any_named (slice_get a id) arguments ≡ is_any_named (slice_get b id) arguments) where
  passed_same : (caller line : ℕ) (id : FunctionId) (arguments : List Argument) → passed_call a caller line id arguments ≡ passed_call b caller line id arguments
  passed_same caller line id arguments = λ i.
      and_then (unless_of (are_distinct arguments) (breaks 204 line)) (λ _.
      and_then (unless_of (not (same id.0 arguments i)) (breaks 204 line)) (λ _.
      made_of (λ _. record { callee = id; arguments = arguments }) (unless_of (nat_le id.0 caller) (breaks 205 line))))

  found_same : (scope : Scope) (caller line : ℕ) (has_result : Bool) (id : FunctionId) (callee : Option FunctionText) (arguments : List ArgumentText) →
      found_call items a scope caller line has_result id callee arguments ≡ found_call items b scope caller line has_result id callee arguments
  found_same scope caller line has_result id None arguments = refl
  found_same scope caller line has_result id (Some callee) arguments = λ i.
      and_then (fitting_arguments items scope line has_result callee arguments) (λ xs. passed_same caller line id xs i)

  called_same : (scope : Scope) (caller line : ℕ) (has_result : Bool) (callee : Result FunctionId Broken) (arguments : List ArgumentText) →
      called items texts a scope caller line has_result callee arguments ≡ called items texts b scope caller line has_result callee arguments
  called_same scope caller line has_result (Err fault) arguments = refl
  called_same scope caller line has_result (Ok id) arguments = found_same scope caller line has_result id (slice_get texts id.0) arguments

  call_same : (scope : Scope) (caller line : ℕ) (register : Option (List ℕ)) (callee : List ℕ) (arguments : List ArgumentText) →
      call_step_of items texts a scope caller line register callee arguments ≡ call_step_of items texts b scope caller line register callee arguments
  call_same scope caller line register callee arguments = λ i.
      made_of (λ p. instruction.Call p.0 p.1.callee p.1.arguments)
      (both_of (call_register_of scope line register) (called_same scope caller line (is_some register) (as_function line (look_up items callee)) arguments i))

  instruction_same : (scope : Scope) (spot : Spot) (what : InstructionText) → instruction_of items texts a scope spot what ≡ instruction_of items texts b scope spot what
  instruction_same scope spot (text.Binary register operator width left right) = refl
  instruction_same scope spot (text.Compare register predicate width left right) = refl
  instruction_same scope spot (text.Convert register conversion value) = refl
  instruction_same scope spot (text.Alloca register size) = refl
  instruction_same scope spot (text.ElementPointer register base index) = refl
  instruction_same scope spot (text.Load register address) = refl
  instruction_same scope spot (text.Store value address) = refl
  instruction_same scope spot (text.StoreZeros cells address) = refl
  instruction_same scope spot (text.AtomicAdd address value) = refl
  instruction_same scope spot (text.Call register callee arguments) = call_same scope spot.function spot.line register callee arguments
  instruction_same scope spot (text.StartRegion register) = refl

  step_same : (scope : Scope) (function block : ℕ) (step : StepText) → step_of items texts a scope function block step ≡ step_of items texts b scope function block step
  step_same scope function block step = λ i.
      made_of (λ p. record { line = step.line; shows = p.0; instruction = p.1 })
      (both_of (inequalities_of scope Body step.shows) (instruction_same scope (record { function = function; block = block; line = step.line }) step.instruction i))

  body_same : (scope : Scope) (function block : ℕ) (result : ResultType) (of : BlockText) → body_of items texts a scope function block result of ≡ body_of items texts b scope function block result of
  body_same scope function block result of = λ i.
      made_of (λ p. record { phis = p.0; steps = p.1.0; ending = p.1.1 })
      (both_of (phis_of scope of.phis) (both_of (all_of (λ _ step. step_same scope function block step i) of.steps) (ending_of scope result of.ending)))

  block_same : (scope : Scope) (function : ℕ) (result : ResultType) (block : ℕ) (of : BlockText) → block_of items texts a scope function result block of ≡ block_of items texts b scope function result block of
  block_same scope function result block of = λ i.
      made_of (λ p. block_with of.line p.0 p.1) (both_of (head_of items scope block of.notes) (body_same scope function block result of i))

  function_same : (place : ℕ) (of : FunctionText) → function_of items texts a place of ≡ function_of items texts b place of
  function_same place of = λ i.
      made_of (λ p. function_with of (layout_of of) p.0 p.1)
      (both_of (function_head_of items (layout_of of) of.result_type of.notes)
      (all_of (λ k block. block_same (layout_of of).scope place of.result_type k block i) of.blocks))

program_same : (whole : Module) (items : Items) (a b : Named) → ((id : ℕ) (arguments : List Argument) → is_any_named (slice_get a id) arguments ≡ is_any_named (slice_get b id) arguments) →
    program_from items a whole ≡ program_from items b whole
program_same whole items a b same = λ i.
    made_of (λ p. program_with whole p.0 p.1)
    (both_of (main_of items whole.functions) (all_of (λ place of. function_same items whole.functions a b same place of i) whole.functions))

pub one_meaning : (whole : Module) (m n : Result Program Broken) → Means whole m → Means whole n → m ≡ n
one_meaning whole m n (a, one, is) (b, other, means) = sym is ∙ program_same whole (items_of whole) a b (rows_same whole a b one other) ∙ means
