-- That a program fits has one proof.
use Rattle.std.proofs.Common.{ℕ, List, Option, Some, None}
use Rattle.std.proofs.Props.{props}
use Rattle.program.specs.declared.function.Block.{Block}
use Rattle.program.specs.declared.function.Program.{Program}
use Rattle.program.specs.declared.identifier.ObjectName.{ObjectName}
use Rattle.program.specs.declared.identifier.ObjectName.TheVariants.{Global, Alloca, Parameter}
use Rattle.program.specs.declared.instruction.Address.{Address}
use Rattle.program.specs.declared.instruction.Address.TheVariants.{First, Element}
use Rattle.program.specs.declared.instruction.Argument.{Argument}
use Rattle.program.specs.declared.instruction.Argument.TheVariants as argument
use Rattle.program.specs.declared.instruction.Ending.{Ending}
use Rattle.program.specs.declared.instruction.Instruction.{Instruction}
use Rattle.program.specs.declared.instruction.Instruction.TheVariants as instruction
use Rattle.program.specs.declared.instruction.Operand.{Operand}
use Rattle.program.specs.declared.instruction.Operand.TheVariants.{Number, Register}
use Rattle.program.specs.declared.instruction.Terminator.{Terminator}
use Rattle.program.specs.declared.instruction.Terminator.TheVariants as terminator
use Rattle.linear.specs.declared.form.RegisterId.{RegisterId}
use Rattle.frame_engine.specs.Activation.{FrameFits, ProgramFits}
use Rattle.frame_engine.specs.Fits.{BlockFits, EdgeFits, EndingFits, HasEnding, HasEntry, HasReturned}
use Rattle.frame_engine.specs.Names.{HasAddress, HasArgument, HasNames, HasObject, HasOperand, HasResult, Sizes}
use Rattle.frame_engine.specs.declared.activation.Frame.{Frame}
use Rattle.frame_engine.specs.declared.activation.Places.{Places}

module _ (n : Sizes) where
  operand_prop : (a : Operand) → IsProp (HasOperand n a)
  operand_prop (Number z) = hlevel props
  operand_prop (Register x) = hlevel props

  object_prop : (name : ObjectName) → IsProp (HasObject n name)
  object_prop (Global g) = hlevel props
  object_prop (Alloca a) = hlevel props
  object_prop (Parameter x) = hlevel props

  address_prop : (a : Address) → IsProp (HasAddress n a)
  address_prop (First name) = object_prop name
  address_prop (Element x) = hlevel props

  argument_prop : (a : Argument) → IsProp (HasArgument n a)
  argument_prop (argument.Number a) = operand_prop a
  argument_prop (argument.Object name) = object_prop name

  result_prop : (registers : ℕ) (d : Option RegisterId) → IsProp (HasResult registers d)
  result_prop registers None = hlevel props
  result_prop registers (Some d) = hlevel props

  names_prop : (i : Instruction) → IsProp (HasNames n i)
  names_prop (instruction.Binary d op w a b) = hlevel (props, operand_prop)
  names_prop (instruction.Compare d by w a b) = hlevel (props, operand_prop)
  names_prop (instruction.Convert d by a) = hlevel (props, operand_prop)
  names_prop (instruction.Alloca d a) = hlevel props
  names_prop (instruction.ElementPointer d name i) = hlevel (props, operand_prop, object_prop)
  names_prop (instruction.Load d address) = hlevel (props, address_prop)
  names_prop (instruction.Store a address) = hlevel (props, operand_prop, address_prop)
  names_prop (instruction.StoreZeros cells name) = object_prop name
  names_prop (instruction.AtomicAdd address a) = hlevel (props, operand_prop, address_prop)
  names_prop (instruction.Call d callee arguments) = hlevel (props, result_prop, argument_prop)
  names_prop (instruction.StartRegion d) = hlevel props

  entry_prop : (a : Option Operand) → IsProp (HasEntry n a)
  entry_prop None = hlevel props
  entry_prop (Some a) = operand_prop a

  returned_prop : (a : Option Operand) → IsProp (HasReturned n a)
  returned_prop None = hlevel props
  returned_prop (Some a) = operand_prop a

  edge_prop : (moves from : ℕ) (blocks : List Block) (target : ℕ) → IsProp (EdgeFits n moves from blocks target)
  edge_prop moves from blocks target = hlevel (props, entry_prop)

  terminator_prop : (moves from : ℕ) (blocks : List Block) (t : Terminator) → IsProp (EndingFits n moves from blocks t)
  terminator_prop moves from blocks (terminator.Jump target) = edge_prop moves from blocks target.0
  terminator_prop moves from blocks (terminator.Branch test one other) = hlevel (props, edge_prop)
  terminator_prop moves from blocks (terminator.Switch w a default cases) = hlevel (props, operand_prop, edge_prop)
  terminator_prop moves from blocks (terminator.Return a) = returned_prop a
  terminator_prop moves from blocks (terminator.Detach r b c) = hlevel props
  terminator_prop moves from blocks (terminator.Reattach r c) = hlevel props
  terminator_prop moves from blocks (terminator.Sync r t) = edge_prop moves from blocks t.0

  ending_prop : (moves from : ℕ) (blocks : List Block) (e : Option Ending) → IsProp (HasEnding n moves from blocks e)
  ending_prop moves from blocks None = hlevel props
  ending_prop moves from blocks (Some e) = terminator_prop moves from blocks e.terminator

  block_prop : (moves from : ℕ) (blocks : List Block) (b : Block) → IsProp (BlockFits n moves from blocks b)
  block_prop moves from blocks b = hlevel (props, names_prop, ending_prop)

pub program_prop : (prog : Program) (places : Places) (moves : ℕ) → IsProp (ProgramFits prog places moves)
program_prop prog places moves = hlevel (props, block_prop)

pub frame_prop : (prog : Program) (f : Frame) → IsProp (FrameFits prog f)
frame_prop prog f = hlevel props
