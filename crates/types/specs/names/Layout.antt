-- The registers of a function in their order, and what its names stand for.
use Rattle.std.specs.Prelude.{ℕ, ◌+◌, List, [], ◌∷◌, ◌++◌, length, Option, Some, None}
use Rattle.program.specs.declared.function.RegisterKind.{RegisterKind}
use Rattle.program.specs.declared.function.RegisterKind.TheVariants as kind
use Rattle.program.specs.declared.identifier.ObjectName.TheVariants as object
use Rattle.syntax.specs.Cells.{size_cells}
use Rattle.syntax.specs.declared.instruction.Instruction.{Instruction as InstructionText}
use Rattle.syntax.specs.declared.instruction.Instruction.TheVariants as text
use Rattle.syntax.specs.declared.instruction.Phi.{Phi as PhiText}
use Rattle.syntax.specs.declared.instruction.Step.{Step as StepText}
use Rattle.syntax.specs.declared.module.Block.{Block as BlockText}
use Rattle.syntax.specs.declared.module.Function.{Function as FunctionText}
use Rattle.syntax.specs.declared.module.Parameter.{Parameter as ParameterText}
use Rattle.syntax.specs.declared.module.Parameter.TheVariants as parameter
use Rattle.syntax.specs.declared.operator.Conversion.{Conversion}
use Rattle.syntax.specs.declared.operator.Conversion.TheVariants.{Truncate}
use Rattle.syntax.specs.declared.operator.Width.{Width}
use Rattle.syntax.specs.declared.operator.Width.TheVariants.{Bits64, Bits32}
use Rattle.types.specs.declared.names.layout.Layout.{Layout}
use Rattle.types.specs.declared.names.scope.Holding.{Holding}
use Rattle.types.specs.declared.names.scope.Holding.TheVariants as holding
use Rattle.types.specs.declared.names.scope.Named.TheVariants as named
use Rattle.types.specs.declared.names.scope.Origin.{Origin}
use Rattle.types.specs.declared.names.scope.Origin.TheVariants as origin
use Rattle.types.specs.names.Table.{with_name}

abbrev pub kind_of : Holding → RegisterKind
kind_of (holding.Number width) = kind.Number width
kind_of holding.Truth = kind.Truth
kind_of (holding.Object name cells) = kind.Object
kind_of holding.Element = kind.Element
kind_of holding.Region = kind.Region

abbrev pub target_width : Conversion → Width
target_width Truncate = Bits32
target_width other = Bits64

abbrev pub with_register : Layout → List ℕ → Holding → Origin → Layout
with_register layout name held from = record {
  scope = with_name layout.scope name (named.Register (record {
    id = record { 0 = length layout.registers };
    holding = held;
    origin = from;
  }));
  registers = layout.registers ++ kind_of held ∷ [];
  allocas = layout.allocas;
}

abbrev pub with_parameter : Layout → ParameterText → Layout
with_parameter layout (parameter.Number name) = with_register layout name (holding.Number Bits64) origin.Parameter
with_parameter layout (parameter.Pointer name cells) = with_register layout name
    (holding.Object (object.Parameter (record { 0 = length layout.registers })) cells) origin.Parameter

abbrev pub with_phi : Layout → PhiText → Layout
with_phi layout phi = with_register layout phi.register (holding.Number phi.width) origin.Phi

abbrev pub with_alloca : Layout → ℕ → List ℕ → ℕ → Origin → Layout
with_alloca layout line name cells from =
    let made : Layout = with_register layout name
    (holding.Object (object.Alloca (record { 0 = length layout.allocas })) cells) from in
    record made {
      allocas = layout.allocas ++ record {
        line = line;
        register = record { 0 = length layout.registers };
        cells = cells;
      } ∷ [];
    }

abbrev pub with_call : Layout → Option (List ℕ) → Origin → Layout
with_call layout None from = layout
with_call layout (Some name) from = with_register layout name (holding.Number Bits64) from

abbrev pub with_instruction : Layout → ℕ → Origin → InstructionText → Layout
with_instruction layout line from (text.Binary register operator width left right) =
    with_register layout register (holding.Number width) from
with_instruction layout line from (text.Compare register predicate width left right) =
    with_register layout register holding.Truth from
with_instruction layout line from (text.Convert register conversion value) =
    with_register layout register (holding.Number (target_width conversion)) from
with_instruction layout line from (text.Alloca register size) = with_alloca layout line register (size_cells size) from
with_instruction layout line from (text.ElementPointer register base index) =
    with_register layout register holding.Element from
with_instruction layout line from (text.Load register address) =
    with_register layout register (holding.Number Bits64) from
with_instruction layout line from (text.Call register callee arguments) = with_call layout register from
with_instruction layout line from (text.StartRegion register) = with_register layout register holding.Region from
with_instruction layout line from other = layout

abbrev pub with_step : ℕ → Layout → StepText → Layout
with_step block layout step = with_instruction layout step.line (origin.Step block) step.instruction

abbrev pub with_phis : Layout → List PhiText → Layout
with_phis layout [] = layout
with_phis layout (phi ∷ phis) = with_phis (with_phi layout phi) phis

abbrev pub with_steps : ℕ → Layout → List StepText → Layout
with_steps block layout [] = layout
with_steps block layout (step ∷ steps) = with_steps block (with_step block layout step) steps

abbrev pub with_block : ℕ → Layout → BlockText → Layout
with_block place layout block = with_steps place (with_phis layout block.phis) block.steps

abbrev pub with_parameters : Layout → List ParameterText → Layout
with_parameters layout [] = layout
with_parameters layout (parameter ∷ parameters) = with_parameters (with_parameter layout parameter) parameters

abbrev pub with_blocks : ℕ → Layout → List BlockText → Layout
with_blocks place layout [] = layout
with_blocks place layout (block ∷ blocks) = with_blocks (place + 1) (with_block place layout block) blocks

abbrev pub with_label : ℕ → Layout → BlockText → Layout
with_label place layout block =
    record layout { scope = with_name layout.scope block.label (named.Label (record { 0 = place })) }

abbrev pub with_labels : ℕ → Layout → List BlockText → Layout
with_labels place layout [] = layout
with_labels place layout (block ∷ blocks) = with_labels (place + 1) (with_label place layout block) blocks

abbrev pub no_layout : Layout
no_layout = record { scope = []; registers = []; allocas = [] }

-- the parameters come first, then the other registers in the order of the text, then the labels
abbrev pub layout_of : FunctionText → Layout
layout_of function = with_labels 0 (with_blocks 0 (with_parameters no_layout function.parameters) function.blocks)
    function.blocks
