-- Names of whole objects.
use Rattle.std.specs.Prelude.{◌==◌, Bool, false}
use Rattle.program.specs.declared.identifier.ObjectName.{ObjectName}
use Rattle.program.specs.declared.identifier.ObjectName.TheVariants.{Global, Alloca, Parameter}

-- whether two names of a function are of one object: its own names are of different objects
abbrev pub same_object : ObjectName → ObjectName → Bool
same_object (Global a) (Global b) = a.0 == b.0
same_object (Alloca a) (Alloca b) = a.0 == b.0
same_object (Parameter a) (Parameter b) = a.0 == b.0
same_object one other = false
