-- The objects of a text have few cells.
use Rattle.std.proofs.Common.{◌≡◌, ◌∙◌, ℕ, ◌+◌, ◌*◌, ◌≤◌, ◌^◌, pos, List, [], ◌∷◌, ◌++◌, map, Option, Some, None, refl, ap, subst, Result, Ok, arith}
use Rattle.std.specs.Prelude.{slice_get}
use Rattle.std.specs.List.{All}
use Rattle.std.proofs.lemmas.List.Elements.{All-append, All-cons, All-contains, All-head, All-nil, All-tail}
use Rattle.program.specs.Cells.{global_cells, alloca_cells, parameter_cells}
use Rattle.program.specs.Objects.{object_cells}
use Rattle.program.specs.declared.function.Alloca.{Alloca}
use Rattle.program.specs.declared.function.Function.{Function}
use Rattle.program.specs.declared.function.Global.{Global}
use Rattle.program.specs.declared.function.Parameter.{Parameter}
use Rattle.program.specs.declared.function.Parameter.TheVariants as parameter
use Rattle.program.specs.declared.function.Program.{Program}
use Rattle.program.specs.declared.identifier.ObjectName.{ObjectName}
use Rattle.program.specs.declared.identifier.ObjectName.TheVariants as object
use Rattle.syntax.specs.declared.instruction.AllocaSize.TheVariants.{One, Array}
use Rattle.syntax.specs.declared.instruction.Instruction.{Instruction as InstructionText}
use Rattle.syntax.specs.declared.instruction.Instruction.TheVariants as text
use Rattle.syntax.specs.declared.instruction.Phi.{Phi as PhiText}
use Rattle.syntax.specs.declared.instruction.Step.{Step as StepText}
use Rattle.syntax.specs.declared.module.Block.{Block as BlockText}
use Rattle.syntax.specs.declared.module.Function.{Function as FunctionText}
use Rattle.syntax.specs.declared.module.Global.{Global as GlobalText}
use Rattle.syntax.specs.declared.module.Module.{Module}
use Rattle.syntax.specs.declared.module.Parameter.{Parameter as ParameterText}
use Rattle.syntax.specs.declared.module.Parameter.TheVariants as parameter_text
use Rattle.syntax.specs.declared.module.ResultType.{ResultType}
use Rattle.refusal.specs.declared.broken.Broken.{Broken}
use Rattle.ir_reader.specs.declared.item.item.Item.TheVariants as item
use Rattle.ir_reader.specs.item.Printed.{IsKeptItem}
use Rattle.ir_instruction.specs.Spelling.{Blank, a_mark, define_atoms, global_atoms, instruction_atoms, parameter_atoms, parted}
use Rattle.ir_reader.specs.Kept.{IsStepWritten, IsBlockWritten, IsFunctionWritten, IsGlobalWritten, IsKeptFunction, IsKeptModule}
use Rattle.types.specs.declared.names.layout.Layout.{Layout}
use Rattle.types.specs.declared.names.scope.Origin.{Origin}
use Rattle.types.specs.declared.names.scope.Origin.TheVariants as origin
use Rattle.types.specs.names.Address.{Items}
use Rattle.types.specs.names.Item.{items_of}
use Rattle.types.specs.names.Layout.{with_call, with_instruction, with_step, with_phi, with_phis, with_steps, with_block, with_parameter, with_parameters, with_blocks, with_label, with_labels, no_layout, layout_of}
use Rattle.types.proofs.names.Inversion.{made_ok, both_ok}
use Rattle.types.specs.Call.{Named, parameter_of}
use Rattle.types.specs.Function.{function_of, functions_of}
use Rattle.types.specs.Meaning.{Means, global_of}
use Rattle.laws_phases.proofs.defined.Lists.{at_within}
use Rattle.verifier.proofs.Lists.{each_of}
use Rattle.laws_verdict.proofs.limits.Numbers.{AreSpelled, spelled, front, number_fits, parted_spelled}
use Rattle.laws_verdict.proofs.limits.Words.{meant_from}

abbrev pub IsFew : ℕ → Type 0
IsFew cells = cells ≤ 2 ^ 63

-- ---- globals

abbrev IsFewGlobal : Global → Type 0
IsFewGlobal g = IsFew g.cells

global_few : (g : GlobalText) → IsGlobalWritten g → IsFewGlobal (global_of g)
global_few g kept = let all = spelled (global_atoms g) kept.spelled in number_fits (pos g.cells) all.1.1.1.1.0

globals_few : (gs : List GlobalText) → All IsGlobalWritten gs → All IsFewGlobal (map global_of gs)
globals_few [] h = All-nil IsFewGlobal
globals_few (g ∷ gs) h = All-cons IsFewGlobal (global_of g) (map global_of gs) (global_few g (All-head IsGlobalWritten g gs h)) (globals_few gs (All-tail IsGlobalWritten g gs h))

-- ---- parameters

abbrev IsFewParameter : Parameter → Type 0
IsFewParameter parameter.Number = Unit {0}
IsFewParameter (parameter.Pointer cells) = IsFew cells

parameter_few : (p : ParameterText) → AreSpelled (parameter_atoms p) → IsFewParameter (parameter_of p)
parameter_few (parameter_text.Number name) h = tt
parameter_few (parameter_text.Pointer name cells) h = let l = number_fits (pos (8 * cells)) h.1.1.1.1.0 in omega (arith, l)

abbrev IsFewParameterText : ParameterText → Type 0
IsFewParameterText p = IsFewParameter (parameter_of p)

behind_few : (ps : List ParameterText) → AreSpelled ((parted parameter_atoms ps ++ a_mark 41 ∷ []) ++ Blank ∷ a_mark 123 ∷ []) → All IsFewParameterText ps
behind_few ps h =
    parted_spelled parameter_atoms IsFewParameterText parameter_few ps (front (parted parameter_atoms ps) (a_mark 41 ∷ []) (front (parted parameter_atoms ps ++ a_mark 41 ∷ []) (Blank ∷ a_mark 123 ∷ []) h))

head_few : (name : List ℕ) (result : ResultType) (ps : List ParameterText) → AreSpelled (define_atoms name result ps) → All IsFewParameterText ps
head_few name result ps h = behind_few ps h.1.1.1.1

parameters_few : (ps : List ParameterText) → All IsFewParameterText ps → All IsFewParameter (map parameter_of ps)
parameters_few [] h = All-nil IsFewParameter
parameters_few (p ∷ ps) h = All-cons IsFewParameter (parameter_of p) (map parameter_of ps) (All-head IsFewParameterText p ps h) (parameters_few ps (All-tail IsFewParameterText p ps h))

-- ---- allocas

abbrev IsFewAlloca : Alloca → Type 0
IsFewAlloca a = IsFew a.cells

abbrev AreFew : Layout → Type 0
AreFew layout = All IsFewAlloca layout.allocas

call_few : (layout : Layout) (register : Option (List ℕ)) (from : Origin) → AreFew layout → AreFew (with_call layout register from)
call_few layout None from h = h
call_few layout (Some name) from h = h

instruction_few : (layout : Layout) (line : ℕ) (from : Origin) (i : InstructionText) → IsKeptItem (item.Instruction i) → AreFew layout → AreFew (with_instruction layout line from i)
instruction_few layout line from (text.Binary register operator width left right) kept h = h
instruction_few layout line from (text.Compare register predicate width left right) kept h = h
instruction_few layout line from (text.Convert register conversion value) kept h = h
instruction_few layout line from (text.Alloca register One) kept h = All-append IsFewAlloca layout.allocas _ h (All-cons IsFewAlloca _ [] (omega arith) (All-nil IsFewAlloca))
instruction_few layout line from (text.Alloca register (Array n)) kept h =
    let all = spelled (instruction_atoms (text.Alloca register (Array n))) kept.spelled in
    All-append IsFewAlloca layout.allocas _ h (All-cons IsFewAlloca _ [] (number_fits (pos n) all.1.1.1.1.0) (All-nil IsFewAlloca))
instruction_few layout line from (text.ElementPointer register base index) kept h = h
instruction_few layout line from (text.Load register address) kept h = h
instruction_few layout line from (text.Store value address) kept h = h
instruction_few layout line from (text.StoreZeros cells address) kept h = h
instruction_few layout line from (text.AtomicAdd address value) kept h = h
instruction_few layout line from (text.Call register callee arguments) kept h = call_few layout register from h
instruction_few layout line from (text.StartRegion register) kept h = h

steps_few : (place : ℕ) (layout : Layout) (steps : List StepText) → All IsStepWritten steps → AreFew layout → AreFew (with_steps place layout steps)
steps_few place layout [] kept h = h
steps_few place layout (step ∷ steps) kept h =
    steps_few place (with_step place layout step) steps (All-tail IsStepWritten step steps kept)
    (instruction_few layout step.line (origin.Step place) step.instruction (All-head IsStepWritten step steps kept).instruction h)

phis_few : (layout : Layout) (phis : List PhiText) → AreFew layout → AreFew (with_phis layout phis)
phis_few layout [] h = h
phis_few layout (phi ∷ phis) h = phis_few (with_phi layout phi) phis h

blocks_few : (place : ℕ) (layout : Layout) (blocks : List BlockText) → All IsBlockWritten blocks → AreFew layout → AreFew (with_blocks place layout blocks)
blocks_few place layout [] kept h = h
blocks_few place layout (block ∷ blocks) kept h =
    blocks_few (place + 1) (with_block place layout block) blocks (All-tail IsBlockWritten block blocks kept)
    (steps_few place (with_phis layout block.phis) block.steps (All-head IsBlockWritten block blocks kept).steps (phis_few layout block.phis h))

taking_few : (layout : Layout) (ps : List ParameterText) → AreFew layout → AreFew (with_parameters layout ps)
taking_few layout [] h = h
taking_few layout (parameter_text.Number name ∷ ps) h = taking_few (with_parameter layout (parameter_text.Number name)) ps h
taking_few layout (parameter_text.Pointer name cells ∷ ps) h = taking_few (with_parameter layout (parameter_text.Pointer name cells)) ps h

labels_few : (place : ℕ) (layout : Layout) (blocks : List BlockText) → AreFew layout → AreFew (with_labels place layout blocks)
labels_few place layout [] h = h
labels_few place layout (block ∷ blocks) h = labels_few (place + 1) (with_label place layout block) blocks h

layout_few : (function : FunctionText) → IsFunctionWritten function → AreFew (layout_of function)
layout_few function kept =
    labels_few 0 _ function.blocks (blocks_few 0 (with_parameters no_layout function.parameters) function.blocks kept.blocks (taking_few no_layout function.parameters (All-nil IsFewAlloca)))

-- ---- functions

record HasFewCells (function : Function) : Type 0 where
  allocas : All IsFewAlloca function.allocas
  parameters : All IsFewParameter function.parameters

function_few : (items : Items) (functions : List FunctionText) (named : Named) (f : ℕ) (written : FunctionText) (function : Function) → IsKeptFunction written → function_of items functions named f written ≡ Ok function → HasFewCells function
function_few items functions named f written function kept e =
    let made = made_ok _ _ function e in
    let head = kept.written.head in
    subst HasFewCells made.2
    (record {
      allocas = layout_few written kept.written;
      parameters = parameters_few written.parameters (head_few written.name written.result_type written.parameters (spelled (define_atoms written.name written.result_type written.parameters) head.spelled));
    })

-- ---- of a program

global_at : (gs : List Global) (n : ℕ) (o : Option Global) → All IsFewGlobal gs → slice_get gs n ≡ o → IsFew (global_cells o)
global_at gs n None all e = omega arith
global_at gs n (Some g) all e = All-contains IsFewGlobal gs g all (at_within gs n g e)

alloca_at : (xs : List Alloca) (n : ℕ) (o : Option Alloca) → All IsFewAlloca xs → slice_get xs n ≡ o → IsFew (alloca_cells o)
alloca_at xs n None all e = omega arith
alloca_at xs n (Some a) all e = All-contains IsFewAlloca xs a all (at_within xs n a e)

parameter_at : (ps : List Parameter) (n : ℕ) (o : Option Parameter) → All IsFewParameter ps → slice_get ps n ≡ o → IsFew (parameter_cells o)
parameter_at ps n None all e = omega arith
parameter_at ps n (Some parameter.Number) all e = omega arith
parameter_at ps n (Some (parameter.Pointer cells)) all e = All-contains IsFewParameter ps (parameter.Pointer cells) all (at_within ps n (parameter.Pointer cells) e)

cells_few : (program : Program) (function : Function) → HasFewCells function → All IsFewGlobal program.globals → (name : ObjectName) → IsFew (object_cells program function name)
cells_few program function own shared (object.Global g) = global_at program.globals g.0 (slice_get program.globals g.0) shared refl
cells_few program function own shared (object.Alloca a) = alloca_at function.allocas a.0 (slice_get function.allocas a.0) own.allocas refl
cells_few program function own shared (object.Parameter r) = parameter_at function.parameters r.0 (slice_get function.parameters r.0) own.parameters refl

pub objects_few : (whole : Module) → IsKeptModule whole → (program : Program) → Means whole (Ok program) → (f : ℕ) (function : Function) → slice_get program.functions f ≡ Some function →
    (name : ObjectName) → object_cells program function name ≤ 2 ^ 63
objects_few whole kept program m f function at =
    let made = made_ok _ _ program m.2 in
    let are : functions_of (items_of whole) whole.functions m.0 ≡ Ok program.functions = (both_ok _ _ made.0 made.1).1 ∙ ap (λ (p : Program). Ok p.functions) made.2 in
    let g : ℕ → FunctionText → Result Function Broken = function_of (items_of whole) whole.functions m.0 in
    let all : All HasFewCells program.functions = meant_from g IsKeptFunction HasFewCells (λ n x y h k. function_few (items_of whole) whole.functions m.0 n x y h k) 0 whole.functions program.functions kept.functions (each_of g whole.functions program.functions are) in
    let P : Program → Type 0 = λ p. All IsFewGlobal p.globals in
    cells_few program function (All-contains HasFewCells program.functions function all (at_within program.functions f function at)) (subst P made.2 (globals_few whole.globals kept.globals))
