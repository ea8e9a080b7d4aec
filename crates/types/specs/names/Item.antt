-- The names behind `@`.
use Rattle.std.specs.Prelude.{ℕ, ◌+◌, List, [], ◌∷◌}
use Rattle.syntax.specs.declared.module.Function.{Function as FunctionText}
use Rattle.syntax.specs.declared.module.Global.{Global as GlobalText}
use Rattle.syntax.specs.declared.module.Module.{Module}
use Rattle.types.specs.declared.names.item.Item.TheVariants as item
use Rattle.types.specs.names.Address.{Items}
use Rattle.types.specs.names.Table.{with_name}

abbrev pub with_globals : ℕ → Items → List GlobalText → Items
with_globals place items [] = items
with_globals place items (global ∷ globals) =
    with_globals (place + 1) (with_name items global.name (item.Global (record { 0 = place }) global.cells)) globals

abbrev pub with_functions : ℕ → Items → List FunctionText → Items
with_functions place items [] = items
with_functions place items (function ∷ functions) =
    with_functions (place + 1) (with_name items function.name (item.Function (record { 0 = place }))) functions

-- globals and functions share one name space; a name that is defined twice keeps its first meaning
abbrev pub items_of : Module → Items
items_of whole = with_functions 0 (with_globals 0 [] whole.globals) whole.functions
