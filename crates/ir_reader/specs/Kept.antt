-- What every module that is read keeps.
use Rattle.std.specs.Prelude.{◌≡◌, ◌<◌, ◌≤◌, false, [], ◌∷◌, length, Option, Some, None}
use Rattle.std.specs.List.{All}
use Rattle.syntax.specs.declared.operator.Mode.{Mode}
use Rattle.syntax.specs.declared.operator.Mode.TheVariants as mode
use Rattle.syntax.specs.declared.annotation.Zone.{Zone}
use Rattle.syntax.specs.declared.annotation.FunctionNotes.{FunctionNotes}
use Rattle.syntax.specs.declared.annotation.BlockNotes.{BlockNotes}
use Rattle.syntax.specs.declared.instruction.Phi.{Phi}
use Rattle.syntax.specs.declared.instruction.Step.{Step}
use Rattle.syntax.specs.declared.terminator.Ending.{Ending}
use Rattle.syntax.specs.declared.module.Global.{Global}
use Rattle.syntax.specs.declared.module.Block.{Block}
use Rattle.syntax.specs.declared.module.Function.{Function}
use Rattle.syntax.specs.declared.module.Module.{Module}
use Rattle.ir_annotation.specs.Annotations.{IsShortName, IsInequality, IsZone, IsPending, IsMeasure, IsBudget, IsLeft}
use Rattle.ir_reader.specs.declared.item.item.Item.TheVariants as item
use Rattle.ir_reader.specs.item.Printed.{IsKeptItem}
use Rattle.ir_reader.specs.Names.{is_repeated}
use Rattle.ir_reader.specs.Defined.{reserved_outside, reserved_inside, function_names, module_names}
use Rattle.ir_reader.specs.Limits.{register_count, function_cells, global_cells}

-- ---- each part is spelled within its limits

pub record IsZoneOf (m : Mode) (z : Zone) : Type 0 where
  pub mode : z.mode ≡ m
  pub zone : IsZone z

-- forms are canonical; zones stand with those of their mode
pub record AreFunctionNotesWritten (n : FunctionNotes) : Type 0 where
  pub requirements : All IsInequality n.requirements
  pub guarantees : All IsInequality n.guarantees
  pub reads : All (IsZoneOf mode.Reads) n.reads
  pub writes : All (IsZoneOf mode.Writes) n.writes
  pub adds : All (IsZoneOf mode.Adds) n.adds
  pub measure : IsMeasure n.measure
  pub budget : IsBudget n.budget

pub record AreBlockNotesWritten (n : BlockNotes) : Type 0 where
  pub keeps : All IsInequality n.keeps
  pub pending : All IsPending n.pending
  pub left : IsLeft n.left
  pub foot : All IsZone n.foot

abbrev pub IsPhiWritten : Phi → Type 0
IsPhiWritten p = IsKeptItem (item.Phi p)

pub record IsStepWritten (s : Step) : Type 0 where
  pub shows : All IsInequality s.shows
  pub instruction : IsKeptItem (item.Instruction s.instruction)

pub record IsEndingWritten (e : Ending) : Type 0 where
  pub shows : All IsInequality e.shows
  pub terminator : IsKeptItem (item.Terminator e.terminator)

-- a block may have none: that is for the layers above to refuse
abbrev pub IsEndingWrittenIfAny : Option Ending → Type 0
IsEndingWrittenIfAny None = Unit {0}
IsEndingWrittenIfAny (Some e) = IsEndingWritten e

pub record IsBlockWritten (b : Block) : Type 0 where
  pub label : IsKeptItem (item.Label b.label)
  pub notes : AreBlockNotesWritten b.notes
  pub phis : All IsPhiWritten b.phis
  pub steps : All IsStepWritten b.steps
  pub ending : IsEndingWrittenIfAny b.ending

pub record IsFunctionWritten (f : Function) : Type 0 where
  pub head : IsKeptItem (item.Define f.name f.result_type f.parameters)
  pub notes : AreFunctionNotesWritten f.notes
  pub blocks : All IsBlockWritten f.blocks

abbrev pub IsGlobalWritten : Global → Type 0
IsGlobalWritten g = IsKeptItem (item.Global g)

-- ---- no list is longer than its limit

pub record AreFunctionNotesFew (n : FunctionNotes) : Type 0 where
  pub requirements : length n.requirements ≤ 32
  pub guarantees : length n.guarantees ≤ 32
  pub reads : length n.reads ≤ 32
  pub writes : length n.writes ≤ 32
  pub adds : length n.adds ≤ 32

pub record AreBlockNotesFew (n : BlockNotes) : Type 0 where
  pub keeps : length n.keeps ≤ 32
  pub pending : length n.pending ≤ 32
  pub foot : length n.foot ≤ 32

abbrev pub AreStepShowsFew : Step → Type 0
AreStepShowsFew s = length s.shows ≤ 32

abbrev pub AreEndingShowsFew : Option Ending → Type 0
AreEndingShowsFew None = Unit {0}
AreEndingShowsFew (Some e) = length e.shows ≤ 32

pub record IsBlockWithin (b : Block) : Type 0 where
  pub notes : AreBlockNotesFew b.notes
  pub shows : All AreStepShowsFew b.steps
  pub ending : AreEndingShowsFew b.ending

pub record IsFunctionWithin (f : Function) : Type 0 where
  pub parameters : length f.parameters ≤ 16
  pub notes : AreFunctionNotesFew f.notes
  pub blocks : length f.blocks ≤ 1024
  pub each_block : All IsBlockWithin f.blocks

-- ---- all of it

-- labels, registers and parameters are names of at most 64 bytes, defined once, and none has the reserved name; there
-- is a block
pub record IsKeptFunction (f : Function) : Type 0 where
  pub distinct : is_repeated [] (reserved_inside ∷ function_names f) ≡ false
  pub names : All IsShortName (function_names f)
  pub some : 0 < length f.blocks
  pub registers : register_count f ≤ 4096
  pub alloca_cells : function_cells f ≤ 4096
  pub written : IsFunctionWritten f
  pub within : IsFunctionWithin f

-- globals and functions have names of at most 64 bytes, defined once, and none has the reserved name
pub record IsKeptModule (m : Module) : Type 0 where
  pub distinct : is_repeated [] (reserved_outside ∷ module_names m) ≡ false
  pub names : All IsShortName (module_names m)
  pub functions : All IsKeptFunction m.functions
  pub cells : global_cells m ≤ 1048576
  pub globals : All IsGlobalWritten m.globals
  pub function_count : length m.functions ≤ 256
