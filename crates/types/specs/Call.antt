-- Calls: their callee, their arguments, and which pointers may be passed.
use Rattle.std.specs.Prelude.{ℕ, nat_eq, nat_le, Bool, true, false, ◌&&◌, not, List, [], ◌∷◌, length, slice_get}
use Rattle.std.specs.Prelude.{slice_index_or, Option, Some, None}
use Rattle.std.specs.Prelude.{Result, Ok, Err}
use Rattle.std.specs.List.{list_any}
use Rattle.std.specs.Option.{option_map}
use Rattle.program.specs.ObjectNames.{same_object}
use Rattle.program.specs.declared.function.Parameter.{Parameter}
use Rattle.program.specs.declared.function.Parameter.TheVariants as parameter
use Rattle.program.specs.declared.identifier.FunctionId.{FunctionId}
use Rattle.program.specs.declared.identifier.ObjectName.{ObjectName}
use Rattle.program.specs.declared.identifier.ObjectName.TheVariants as object
use Rattle.program.specs.declared.instruction.Argument.{Argument}
use Rattle.program.specs.declared.instruction.Argument.TheVariants as argument
use Rattle.syntax.specs.declared.instruction.Argument.{Argument as ArgumentText}
use Rattle.syntax.specs.declared.instruction.Argument.TheVariants as text
use Rattle.syntax.specs.declared.module.Function.{Function as FunctionText}
use Rattle.syntax.specs.declared.module.Parameter.{Parameter as ParameterText}
use Rattle.syntax.specs.declared.module.Parameter.TheVariants as parameter_text
use Rattle.syntax.specs.declared.module.ResultType.{ResultType}
use Rattle.syntax.specs.declared.module.ResultType.TheVariants.{Number, Void}
use Rattle.syntax.specs.declared.operator.Width.TheVariants.{Bits64}
use Rattle.types.specs.declared.call.ResolvedCall.{ResolvedCall}
use Rattle.refusal.specs.declared.broken.Broken.{Broken as TypeFault}
use Rattle.types.specs.declared.names.item.Item.{Item}
use Rattle.types.specs.declared.names.item.Item.TheVariants as item
use Rattle.types.specs.names.Address.{Items, object_of}
use Rattle.types.specs.names.Fault.{all_of, and_then, both_of, breaks, made_of, unless_of}
use Rattle.types.specs.names.Operand.{operand_of}
use Rattle.types.specs.names.Scope.{Scope}
use Rattle.types.specs.names.Table.{look_up}

-- the function: 201 where nothing has the name, 202 where a global has it
abbrev pub as_function : ℕ → Option Item → Result FunctionId TypeFault
as_function line None = Err (breaks 201 line)
as_function line (Some (item.Global id cells)) = Err (breaks 202 line)
as_function line (Some (item.Function id)) = Ok id

-- a call has a result where its callee gives one
abbrev pub fits_result : Bool → ResultType → Bool
fits_result has_result Number = has_result
fits_result has_result Void = not has_result

abbrev pub parameter_of : ParameterText → Parameter
parameter_of (parameter_text.Number name) = parameter.Number
parameter_of (parameter_text.Pointer name cells) = parameter.Pointer cells

-- the parameter for the argument at this place, if the callee has one there
abbrev pub expected : List ParameterText → ℕ → Option Parameter
expected parameters place = option_map parameter_of (slice_get parameters place)

-- a number where the callee has a number, if it has a parameter there
abbrev pub takes_number : Option Parameter → Bool
takes_number (Some (parameter.Pointer cells)) = false
takes_number other = true

-- a pointer where the callee has one, if it has a parameter there
abbrev pub takes_object : Option Parameter → Bool
takes_object (Some parameter.Number) = false
takes_object other = true

abbrev pub fits_extent : ℕ → Option Parameter → Bool
fits_extent cells (Some (parameter.Pointer extent)) = nat_le extent cells
fits_extent cells other = true

-- an argument for a parameter: 202 where they differ, 204 where the object is too short
abbrev pub argument_of : Items → Scope → ℕ → Option Parameter → ArgumentText → Result Argument TypeFault
argument_of items scope line parameter (text.Number value) = and_then (operand_of scope line Bits64 value)
    (λ v. made_of (λ _. argument.Number v) (unless_of (takes_number parameter) (breaks 202 line)))
argument_of items scope line parameter (text.Pointer address) =
    and_then (both_of (object_of items scope line address) (unless_of (takes_object parameter) (breaks 202 line))) (λ p.
    made_of (λ _. argument.Object p.0.name) (unless_of (fits_extent p.0.cells parameter) (breaks 204 line)))

abbrev pub arguments_of : Items → Scope → ℕ → List ParameterText → List ArgumentText → Result (List Argument) TypeFault
arguments_of items scope line parameters arguments =
    all_of (λ place. argument_of items scope line (expected parameters place)) arguments

abbrev pub passes : ObjectName → Argument → Bool
passes name (argument.Number value) = false
passes name (argument.Object other) = same_object name other

abbrev pub is_passed_again : Argument → List Argument → Bool
is_passed_again (argument.Number value) others = false
is_passed_again (argument.Object name) others = list_any (passes name) others

abbrev pub are_distinct : List Argument → Bool
are_distinct [] = true
are_distinct (first ∷ others) = not (is_passed_again first others) && are_distinct others

-- the argument passes a global that is among the named ones
abbrev pub is_named_below : List Bool → Argument → Bool
is_named_below named (argument.Object (object.Global id)) = slice_index_or named id.0 false
is_named_below named other = false

-- a function each: the globals that it and those that it calls name
abbrev pub Named : Type 0
Named = List (List Bool)

abbrev pub is_any_named : Option (List Bool) → List Argument → Bool
is_any_named None arguments = false
is_any_named (Some named) arguments = list_any (is_named_below named) arguments

-- the arguments of a call of a known function: 202 where the results differ, 203 where the counts do
abbrev pub fitting_arguments : Items → Scope → ℕ → Bool → FunctionText → List ArgumentText →
    Result (List Argument) TypeFault
fitting_arguments items scope line has_result callee arguments = made_of (λ p. p.0) (both_of (arguments_of items scope
    line callee.parameters arguments) (both_of (unless_of (fits_result has_result callee.result_type) (breaks 202 line))
    (unless_of (nat_eq (length arguments) (length callee.parameters)) (breaks 203 line))))

-- 204 where two pointers are one object or a global is named below; 205 where the callee stands below
abbrev pub passed_call : Named → ℕ → ℕ → FunctionId → List Argument → Result ResolvedCall TypeFault
passed_call named caller line id arguments = and_then (unless_of (are_distinct arguments) (breaks 204 line))
    (λ _. and_then (unless_of (not (is_any_named (slice_get named id.0) arguments)) (breaks 204 line)) (λ _.
    made_of (λ _. record { callee = id; arguments = arguments }) (unless_of (nat_le id.0 caller) (breaks 205 line))))

abbrev pub known_call : Items → Named → Scope → ℕ → ℕ → Bool → FunctionId → FunctionText → List ArgumentText →
    Result ResolvedCall TypeFault
known_call items named scope caller line has_result id callee arguments =
    and_then (fitting_arguments items scope line has_result callee arguments) (passed_call named caller line id)

-- a call whose callee is none: its arguments are judged all the same
abbrev pub refused_call : Items → Scope → ℕ → List ArgumentText → TypeFault → Result ResolvedCall TypeFault
refused_call items scope line arguments fault = let refused : Result (Unit {0}) TypeFault = Err fault in
    and_then (both_of (arguments_of items scope line [] arguments) refused) (λ _. Err fault)

abbrev pub found_call : Items → Named → Scope → ℕ → ℕ → Bool → FunctionId → Option FunctionText → List ArgumentText →
    Result ResolvedCall TypeFault
found_call items named scope caller line has_result id None arguments = Err (breaks 201 line)
found_call items named scope caller line has_result id (Some callee) arguments =
    known_call items named scope caller line has_result id callee arguments

abbrev pub called : Items → List FunctionText → Named → Scope → ℕ → ℕ → Bool → Result FunctionId TypeFault →
    List ArgumentText → Result ResolvedCall TypeFault
called items functions named scope caller line has_result (Err fault) arguments =
    refused_call items scope line arguments fault
called items functions named scope caller line has_result (Ok id) arguments =
    found_call items named scope caller line has_result id (slice_get functions id.0) arguments

abbrev pub call_of : Items → List FunctionText → Named → Scope → ℕ → ℕ → Bool → List ℕ → List ArgumentText →
    Result ResolvedCall TypeFault
call_of items functions named scope caller line has_result callee arguments =
    called items functions named scope caller line has_result (as_function line (look_up items callee)) arguments
