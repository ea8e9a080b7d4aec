-- Functions.
use Rattle.std.specs.Prelude.{ℕ, List, length, map, Option, Some, None, Result}
use Rattle.linear.specs.declared.form.RegisterId.{RegisterId}
use Rattle.program.specs.declared.annotation.Budget.{Budget}
use Rattle.program.specs.declared.annotation.Zone.{Zone}
use Rattle.program.specs.declared.function.Block.{Block}
use Rattle.program.specs.declared.function.Function.{Function}
use Rattle.syntax.specs.declared.annotation.Budget.{Budget as BudgetText}
use Rattle.syntax.specs.declared.annotation.FunctionNotes.{FunctionNotes}
use Rattle.syntax.specs.declared.module.Function.{Function as FunctionText}
use Rattle.syntax.specs.declared.module.ResultType.{ResultType}
use Rattle.syntax.specs.declared.module.ResultType.TheVariants.{Number, Void}
use Rattle.refusal.specs.declared.broken.Broken.{Broken as TypeFault}
use Rattle.types.specs.declared.names.form.AnnotationPlace.TheVariants as place
use Rattle.types.specs.declared.function.Head.{Head}
use Rattle.types.specs.declared.names.layout.Layout.{Layout}
use Rattle.types.specs.names.Address.{Items}
use Rattle.types.specs.Block.{blocks_of}
use Rattle.types.specs.Call.{Named, parameter_of}
use Rattle.types.specs.names.Fault.{all_of, both_of, made_of}
use Rattle.types.specs.names.Form.{inequalities_of}
use Rattle.types.specs.names.Layout.{layout_of}
use Rattle.types.specs.names.Note.{measure_of, more_zones, zones_of}
use Rattle.types.specs.names.Scope.{Scope}

-- the register that stands for the result in `ensures`: the one behind the last
abbrev pub result_register : ResultType → ℕ → Option RegisterId
result_register Number registers = Some (record { 0 = registers })
result_register Void registers = None

-- `reads`, then `writes`, then `adds`
abbrev pub head_zones_of : Items → Scope → FunctionNotes → Result (List Zone) TypeFault
head_zones_of items scope notes = more_zones items scope place.Head
    (more_zones items scope place.Head (zones_of items scope place.Head notes.reads) notes.writes) notes.adds

-- the annotations at a function's head but its budget
abbrev pub head_of : Items → Layout → ResultType → FunctionNotes → Result Head TypeFault
head_of items layout result notes =
    made_of (λ p. record { requirements = p.0.0; guarantees = p.0.1; zones = p.1.0; measure = p.1.1 })
    (both_of (both_of (inequalities_of layout.scope place.Head notes.requirements) (inequalities_of layout.scope
    (place.Guarantee (result_register result (length layout.registers))) notes.guarantees))
    (both_of (head_zones_of items layout.scope notes) (measure_of layout.scope notes.measure)))

abbrev pub resolved_budget : BudgetText → Budget
resolved_budget budget =
    record { line = budget.line; self_calls = budget.self_calls; instructions = budget.instructions }

abbrev pub function_with : FunctionText → Layout → Head → List Block → Function
function_with text layout head blocks = record {
  line = text.line;
  name = text.name;
  result_type = text.result_type;
  parameters = map parameter_of text.parameters;
  registers = layout.registers;
  allocas = layout.allocas;
  requirements = head.requirements;
  guarantees = head.guarantees;
  zones = head.zones;
  measure = head.measure;
  budget = resolved_budget text.notes.budget;
  blocks = blocks;
}

abbrev pub function_of : Items → List FunctionText → Named → ℕ → FunctionText → Result Function TypeFault
function_of items functions named place text = made_of (λ p. function_with text (layout_of text) p.0 p.1)
    (both_of (head_of items (layout_of text) text.result_type text.notes)
    (blocks_of items functions named (layout_of text).scope place text.result_type text.blocks))

abbrev pub functions_of : Items → List FunctionText → Named → Result (List Function) TypeFault
functions_of items functions named = all_of (function_of items functions named) functions
