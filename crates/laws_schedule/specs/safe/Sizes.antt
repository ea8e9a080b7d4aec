-- What an instruction loads, stores or adds to lies within an object of the text, by the cells that the text declares.
use Rattle.std.specs.Prelude.{◌≡◌, ℕ, ◌<◌, ◌≤◌, List, Some}
use Rattle.semantics.specs.Frames.{Does, item_at, cells_of}
use Rattle.linear.specs.declared.form.RegisterId.{RegisterId}
use Rattle.program.specs.declared.function.Program.{Program}
use Rattle.program.specs.declared.identifier.ObjectName.{ObjectName}
use Rattle.program.specs.declared.instruction.Address.TheVariants as address
use Rattle.program.specs.declared.instruction.Instruction.{Instruction}
use Rattle.program.specs.declared.instruction.Instruction.TheVariants as instruction
use Rattle.laws_phases.specs.defined.Values.{IsElement}
use Rattle.laws_schedule.specs.kinds.Uses.{address_in}
use Rattle.verifier.specs.Accepted.{IsProgramOf}

-- the cells that instructions name are among those that the text declares
pub record HasSizedUses (prog : Program) : Type 0 where
  -- an object whose first cell is an address has a cell
  pub first : (f b i : ℕ) (what : Instruction) (name : ObjectName) → item_at prog f b i ≡ Some (Does what) →
      address_in what ≡ Some (address.First name) →
      0 < cells_of prog f name
  -- an address in a register is that of an element which a step of the block before gave
  pub elements : (f b i : ℕ) (what : Instruction) (r : RegisterId) → item_at prog f b i ≡ Some (Does what) →
      address_in what ≡ Some (address.Element r) →
      IsElement prog f b i r
  -- an array store sets no more cells than the object has
  pub zeros : (f b i n : ℕ) (name : ObjectName) → item_at prog f b i ≡ Some (Does (instruction.StoreZeros n name)) →
      n ≤ cells_of prog f name

-- so it is with each program that the verifier takes
abbrev pub UsesAreSized : Type 0
UsesAreSized = (text : List ℕ) (program : Program) → IsProgramOf text program → HasSizedUses program
