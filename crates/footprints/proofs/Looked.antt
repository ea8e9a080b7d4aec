-- What is looked up among the pointers of a block is what its steps say.
use Rattle.std.proofs.Common.{◌≡◌, ◌==◌, Bool, true, false, List, [], ◌∷◌, Option, Some, None, if◌then◌else◌, refl}
use Rattle.linear.specs.declared.form.RegisterId.{RegisterId}
use Rattle.program.specs.declared.instruction.Step.{Step}
use Rattle.program.specs.Steps.{or_else}
use Rattle.footprints.specs.declared.access.Cell.{Cell}
use Rattle.footprints.specs.declared.access.Pointer.{Pointer}
use Rattle.footprints.specs.Footprints.{pointed}
use Rattle.footprints.specs.Pointers.{defined_pointer, with_pointer, pointed_by}
use Rattle.footprints.specs.Touched.{pointers_of}

either : (b : Bool) (x : Cell) (one rest : Option Cell) → one ≡ rest → (if b then Some x else one) ≡ or_else (if b then Some x else None) rest
either true x one rest h = refl
either false x one rest h = h

next : (r : RegisterId) (o : Option Pointer) (ps : List Pointer) (rest : Option Cell) → pointed_by r ps ≡ rest → pointed_by r (with_pointer o ps) ≡ or_else (pointed_by r (with_pointer o [])) rest
next r None ps rest h = h
next r (Some p) ps rest h = either (p.register.0 == r.0) p.cell (pointed_by r ps) rest h

pub looked_up : (r : RegisterId) (steps : List Step) → pointed_by r (pointers_of steps) ≡ pointed r steps
looked_up r [] = refl
looked_up r (step ∷ steps) = next r (defined_pointer step.instruction) (pointers_of steps) (pointed r steps) (looked_up r steps)
