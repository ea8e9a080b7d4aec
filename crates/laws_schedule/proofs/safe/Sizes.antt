-- In a program that the verifier takes, what instructions load, store and add to lies within objects of the text.
use Rattle.std.proofs.Common.{◌≡◌, ℕ, ◌<◌, ◌≤◌, Some, None, subst, arith, Ok}
use Rattle.linear.specs.declared.form.RegisterId.{RegisterId}
use Rattle.semantics.specs.Frames.{Does, item_at, cells_of}
use Rattle.program.specs.declared.function.Program.{Program}
use Rattle.program.specs.declared.identifier.ObjectName.{ObjectName}
use Rattle.program.specs.declared.instruction.Address.{Address}
use Rattle.program.specs.declared.instruction.Instruction.{Instruction}
use Rattle.program.specs.declared.instruction.Address.TheVariants as address
use Rattle.program.specs.declared.instruction.Instruction.TheVariants as instruction
use Rattle.syntax.specs.declared.module.Function.{Function as FunctionText}
use Rattle.syntax.specs.declared.module.Module.{Module}
use Rattle.ir_reader.specs.Kept.{IsKeptModule}
use Rattle.ir_reader.proofs.Keeping.{answers_kept}
use Rattle.types.specs.names.Item.{items_of}
use Rattle.types.specs.names.Layout.{layout_of}
use Rattle.types.specs.Call.{Named}
use Rattle.types.specs.Meaning.{Means}
use Rattle.laws_phases.specs.defined.Stable.{IsStable}
use Rattle.laws_phases.specs.defined.Values.{IsElement}
use Rattle.laws_phases.proofs.defined.Stable.{stable_by_rules}
use Rattle.laws_schedule.proofs.typing.Accepted.{accepted_programs_are_typed}
use Rattle.laws_schedule.proofs.typing.Calls.{instruction_at}
use Rattle.laws_schedule.proofs.typing.Instructions.{AddressOf, Uses}
use Rattle.laws_schedule.proofs.typing.Objects.{IsObject, IsAddress, object_is, address_is, cells_are}
use Rattle.laws_schedule.proofs.typing.Positive.{object_positive}
use Rattle.laws_schedule.proofs.typing.Registers.{kept_function}
use Rattle.laws_schedule.specs.kinds.Uses.{address_in}
use Rattle.laws_schedule.proofs.typing.Elements.{element_before}
use Rattle.laws_schedule.specs.safe.Sizes.{HasSizedUses, UsesAreSized}

module _ (whole : Module) (function : FunctionText) (named : Named) (f b : ℕ) where
  no_address : (at : Address) → None ≡ Some at → IsAddress whole function b at
  no_address at e = absurd (cc)

  address_meant : (from at : Address) → AddressOf (items_of whole) (layout_of function).scope b from → Some from ≡ Some at → IsAddress whole function b at
  address_meant from at of e =
      let same : from ≡ at = cc in
      let P : Address → Type 0 = λ x. IsAddress whole function b x in
      subst P same (address_is whole function b of.line of.written from of.is)

  -- the cell that an instruction loads, stores or adds to is that of an address
  uses_address : (what : Instruction) (at : Address) → Uses (items_of whole) whole.functions (layout_of function).scope named f b what → address_in what ≡ Some at → IsAddress whole function b at
  uses_address (instruction.Binary d op w x y) at uses e = no_address at e
  uses_address (instruction.Compare d by w x y) at uses e = no_address at e
  uses_address (instruction.Convert d by x) at uses e = no_address at e
  uses_address (instruction.Alloca d a) at uses e = no_address at e
  uses_address (instruction.ElementPointer d base index) at uses e = no_address at e
  uses_address (instruction.Load d from) at uses e = address_meant from at uses e
  uses_address (instruction.Store x from) at uses e = address_meant from at uses e
  uses_address (instruction.StoreZeros n base) at uses e = no_address at e
  uses_address (instruction.AtomicAdd from x) at uses e = address_meant from at uses e
  uses_address (instruction.Call d g given) at uses e = no_address at e
  uses_address (instruction.StartRegion d) at uses e = no_address at e

module _ (whole : Module) (kept : IsKeptModule whole) (program : Program) (m : Means whole (Ok program)) where
  first : (f b i : ℕ) (what : Instruction) (name : ObjectName) → item_at program f b i ≡ Some (Does what) → address_in what ≡ Some (address.First name) → 0 < cells_of program f name
  first f b i what name e named =
      let at = instruction_at whole program m f b i what e in
      let found = uses_address whole at.outer.text m.0 f b what (address.First name) at.meant.uses named in
      let l : 0 < found.0 = object_positive whole kept at.outer.text (kept_function whole kept f at.outer.text at.outer.at_text) name found.0 found.1 in
      let same : cells_of program f name ≡ found.0 = cells_are whole program m f at.function at.is.at_function at.outer name found.0 found.1 in
      omega (arith, l, same)

  elements : IsStable program → (f b i : ℕ) (what : Instruction) (r : RegisterId) → item_at program f b i ≡ Some (Does what) → address_in what ≡ Some (address.Element r) → IsElement program f b i r
  elements stable f b i what r e named =
      let at = instruction_at whole program m f b i what e in
      element_before whole program m stable f b i what r at (uses_address whole at.outer.text m.0 f b what (address.Element r) at.meant.uses named) named

  zeros : (f b i n : ℕ) (name : ObjectName) → item_at program f b i ≡ Some (Does (instruction.StoreZeros n name)) → n ≤ cells_of program f name
  zeros f b i n name e =
      let at = instruction_at whole program m f b i (instruction.StoreZeros n name) e in
      let uses = at.meant.uses in
      let P : ObjectName → Type 0 = λ x. IsObject whole at.outer.text x uses.0.cells in
      let sized : IsObject whole at.outer.text name uses.0.cells = subst P uses.2 (object_is whole at.outer.text uses.1.line uses.1.written uses.0 uses.1.is) in
      let cells : cells_of program f name ≡ uses.0.cells = cells_are whole program m f at.function at.is.at_function at.outer name uses.0.cells sized in
      let same : uses.0.cells ≡ n = uses.3 in
      omega (arith, cells, same)

  pub sized_uses : IsStable program → HasSizedUses program
  sized_uses stable = record { first = first; elements = elements stable; zeros = zeros }

pub uses_are_sized : UsesAreSized
uses_are_sized text program accepted =
    let right = accepted.3 in
    let all = accepted_programs_are_typed text program accepted in
    sized_uses accepted.0 (answers_kept text accepted.0 accepted.1) program accepted.2 (stable_by_rules program all.named right.graph right.regions all.uses)
