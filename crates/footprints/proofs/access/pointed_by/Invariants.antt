use Rattle.std.proofs.Common.{◌≡◌, drop}
use Rattle.footprints.specs.Pointers.{pointed_by}
use Rattle.footprints.proofs.access.pointed_by.Given as goal

abbrev pub invariant-loop-pointer : goal.invariant-loop-pointer
invariant-loop-pointer l = pointed_by l.register (drop l.pointer-index l.pointers) ≡ pointed_by l.register l.pointers
