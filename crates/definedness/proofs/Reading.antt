-- What one entry, one argument or two parts add to a list of acts.
use Rattle.std.proofs.Common.{◌≡◌, ℕ, ◌++◌, List, sym, append_assoc}
use Rattle.std.proofs.lemmas.Bool.{eq-eqb, ne_eqb}
use Rattle.std.proofs.lemmas.List.{append-nil}
use Rattle.program.specs.declared.identifier.ObjectName.{ObjectName}
use Rattle.program.specs.declared.instruction.Argument.{Argument}
use Rattle.program.specs.declared.instruction.Argument.TheVariants as argument
use Rattle.program.specs.declared.instruction.Operand.{Operand}
use Rattle.program.specs.declared.instruction.PhiEntry.{PhiEntry}
use Rattle.definedness.specs.declared.act.Act.{Act}
use Rattle.definedness.specs.AllocaActs.{object_read, argument_read}
use Rattle.definedness.specs.RegisterActs.{operand_needs, entry_needs}

pub entry_taken : (from line : ℕ) (e : PhiEntry) (now new : List Act) → e.predecessor.0 ≡ from → new ≡ now ++ operand_needs line e.value → new ≡ now ++ entry_needs from line e
entry_taken from line e now new h is = rw (eq-eqb e.predecessor.0 from h) is

pub entry_passed : (from line : ℕ) (e : PhiEntry) (now : List Act) → (e.predecessor.0 ≡ from → ⊥) → now ≡ now ++ entry_needs from line e
entry_passed from line e now h = rw (ne_eqb e.predecessor.0 from h) (sym (append-nil now))

pub object_taken : (line : ℕ) (a : Argument) (o : ObjectName) (now new : List Act) → a ≡ argument.Object o → new ≡ now ++ object_read line o → new ≡ now ++ argument_read line a
object_taken line a o now new h is = rw h is

pub number_passed : (line : ℕ) (a : Argument) (v : Operand) (now : List Act) → a ≡ argument.Number v → now ≡ now ++ argument_read line a
number_passed line a v now h = rw h (sym (append-nil now))
