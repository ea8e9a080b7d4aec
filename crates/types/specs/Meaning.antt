-- The program that a module means.
use Rattle.std.specs.Prelude.{◌≡◌, Bool, true, false, List, map, length, codes, slice_get, Option, Some, None, Result}
use Rattle.std.specs.Prelude.{Ok, Err}
use Rattle.std.specs.List.{list_all}
use Rattle.program.specs.declared.function.Function.{Function}
use Rattle.program.specs.declared.function.Global.{Global}
use Rattle.program.specs.declared.function.Program.{Program}
use Rattle.program.specs.declared.identifier.FunctionId.{FunctionId}
use Rattle.syntax.specs.declared.module.Function.{Function as FunctionText}
use Rattle.syntax.specs.declared.module.Global.{Global as GlobalText}
use Rattle.syntax.specs.declared.module.Module.{Module}
use Rattle.syntax.specs.declared.module.Parameter.{Parameter as ParameterText}
use Rattle.syntax.specs.declared.module.Parameter.TheVariants as parameter
use Rattle.syntax.specs.declared.module.ResultType.{ResultType}
use Rattle.syntax.specs.declared.module.ResultType.TheVariants.{Number, Void}
use Rattle.refusal.specs.declared.broken.Broken.{Broken as TypeFault}
use Rattle.types.specs.declared.names.item.Item.{Item}
use Rattle.types.specs.declared.names.item.Item.TheVariants as item
use Rattle.types.specs.names.Address.{Items}
use Rattle.types.specs.Call.{Named}
use Rattle.types.specs.names.Fault.{both_of, breaks, made_of, unless_of}
use Rattle.types.specs.Function.{functions_of}
use Rattle.types.specs.names.Item.{items_of}
use Rattle.types.specs.names.Mention.{mentions_of, IsNamedTable}
use Rattle.types.specs.names.Table.{look_up}

abbrev pub is_number : ParameterText → Bool
is_number (parameter.Number name) = true
is_number (parameter.Pointer name cells) = false

abbrev pub main_form : ResultType → List ParameterText → Bool
main_form Void parameters = false
main_form Number parameters = list_all is_number parameters

-- `@main` gives an `i64` and takes nothing else, else 202 at its `define`
abbrev pub as_main : FunctionId → Option FunctionText → Result FunctionId TypeFault
as_main id None = Err (breaks 201 1)
as_main id (Some function) =
    made_of (λ _. id) (unless_of (main_form function.result_type function.parameters) (breaks 202 function.line))

-- 201 at line 1 where no function is called `@main`
abbrev pub found_main : List FunctionText → Option Item → Result FunctionId TypeFault
found_main functions (Some (item.Function id)) = as_main id (slice_get functions id.0)
found_main functions other = Err (breaks 201 1)

abbrev pub main_of : Items → List FunctionText → Result FunctionId TypeFault
main_of items functions = found_main functions (look_up items (codes "main"))

abbrev pub global_of : GlobalText → Global
global_of global = record { line = global.line; name = global.name; cells = global.cells }

abbrev pub program_with : Module → FunctionId → List Function → Program
program_with whole main functions = record { globals = map global_of whole.globals; functions = functions; main = main }

abbrev pub program_from : Items → Named → Module → Result Program TypeFault
program_from items named whole = made_of (λ p. program_with whole p.0 p.1)
    (both_of (main_of items whole.functions) (functions_of items whole.functions named))

abbrev pub IsNamedIn : Module → Named → Type 0
IsNamedIn whole named = IsNamedTable (map (mentions_of (items_of whole)) whole.functions) (length whole.globals) named

-- the program that a module means, else its earliest fault
abbrev pub Means : Module → Result Program TypeFault → Type 0
Means whole meaning = (named : Named) × IsNamedIn whole named × (program_from (items_of whole) named whole ≡ meaning)

-- some module means the program, so no rule on names and types is broken
abbrev pub IsMeant : Program → Type 0
IsMeant program = (whole : Module) × Means whole (Ok program)
