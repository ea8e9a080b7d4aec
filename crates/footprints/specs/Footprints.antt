-- The rules on zones, over the places and edges of a function.
use Rattle.std.specs.Prelude.{ℕ, ◌==◌, pos, ◌+ℤ◌, ℤ, Bool, true, false, not, ◌&&◌, ◌||◌, List, [], ◌∷◌}
use Rattle.std.specs.Prelude.{Option, Some, None, slice_get}
use Rattle.std.specs.List.{list_any, list_all}
use Rattle.std.specs.Option.{option_map}
use Rattle.syntax.specs.declared.operator.Mode.{Mode}
use Rattle.syntax.specs.declared.operator.Mode.TheVariants.{Reads, Writes, Adds}
use Rattle.linear.specs.declared.form.RegisterId.{RegisterId}
use Rattle.linear.specs.declared.form.Term.{Term}
use Rattle.linear.specs.Terms.{Combination}
use Rattle.program.specs.declared.annotation.Pending.{Pending}
use Rattle.program.specs.declared.annotation.Zone.{Zone}
use Rattle.program.specs.declared.identifier.ObjectName.{ObjectName}
use Rattle.program.specs.declared.identifier.ObjectName.TheVariants.{Global, Alloca, Parameter}
use Rattle.program.specs.declared.instruction.Address.{Address}
use Rattle.program.specs.declared.instruction.Address.TheVariants.{First, Element}
use Rattle.program.specs.declared.instruction.Argument.{Argument}
use Rattle.program.specs.declared.instruction.Argument.TheVariants as argument
use Rattle.program.specs.declared.instruction.Instruction.{Instruction}
use Rattle.program.specs.declared.instruction.Instruction.TheVariants as instruction
use Rattle.program.specs.declared.instruction.Operand.{Operand}
use Rattle.program.specs.declared.instruction.Operand.TheVariants.{Number, Register}
use Rattle.program.specs.declared.instruction.Step.{Step}
use Rattle.program.specs.declared.instruction.Terminator.{Terminator}
use Rattle.program.specs.declared.instruction.Terminator.TheVariants as terminator
use Rattle.program.specs.declared.function.Block.{Block}
use Rattle.program.specs.declared.function.Function.{Function}
use Rattle.program.specs.Steps.{first_said}
use Rattle.ranges.specs.cfg.declared.structure.Way.{Way}
use Rattle.ranges.specs.cfg.declared.structure.Way.TheVariants.{Detached, Continued, Synced}
use Rattle.ranges.specs.declared.table.EdgeFacts.{EdgeFacts}
use Rattle.ranges.specs.ranges_owed.Inequalities.{argument_moves}
use Rattle.footprints.specs.declared.access.Cell.{Cell}
use Rattle.footprints.specs.Pointers.{defined_pointer, with_pointer, pointed_by}
use Rattle.footprints_feet.specs.footprints_zones.declared.place.Use.{Use}
use Rattle.footprints_feet.specs.footprints_zones.Zones.{Span, span, as_written, covers, is_empty}
pub use Rattle.footprints_feet.specs.footprints_zones.Places.{Place, place_of, is_own}
unfoldable pub use Rattle.footprints_feet.specs.footprints_zones.Places.{is_allowed, is_clear}
pub use Rattle.footprints_feet.specs.Feet.{no_use, foot_use}

-- ---- the cell of an address

-- what an instruction's pointer points to, if its register is this one
abbrev pub pointer_of : RegisterId → Instruction → Option Cell
pointer_of r i = pointed_by r (with_pointer (defined_pointer i) [])

-- what the first `getelementptr` among the steps that defines the register points to
abbrev pub pointed : RegisterId → List Step → Option Cell
pointed r steps = first_said (pointer_of r) steps

abbrev pub first_cell : ObjectName → Cell
first_cell object = record { object = object; index = Number (pos 0) }

-- the first cell of an object, or what a `getelementptr` of the block points to
abbrev pub address_cell : List Step → Address → Option Cell
address_cell steps (First object) = Some (first_cell object)
address_cell steps (Element r) = pointed r steps

-- ---- the zone of an access

abbrev pub operand_terms : Operand → List Term
operand_terms (Number z) = []
operand_terms (Register r) = record { register = r; coefficient = pos 1 } ∷ []

abbrev pub operand_constant : Operand → ℤ
operand_constant (Number z) = z
operand_constant (Register r) = pos 0

-- x + offset
abbrev pub form_at : Operand → ℕ → Combination
form_at x offset = record { terms = operand_terms x; constant = operand_constant x +ℤ pos offset }

-- so many cells of an object from an index on
abbrev pub cells_zone : ℕ → Mode → Cell → ℕ → Zone
cells_zone line mode cell count = record
    { line = line; mode = mode; object = cell.object; low = form_at cell.index 0; high = form_at cell.index count }

-- ---- what a step or a terminator touches

-- 601: an access; one through a pointer of another block is not covered
abbrev pub access_use : Place → Option Zone → Use
access_use p None = record { number = 601; covered = false; clear = true }
access_use p (Some z) =
    record { number = 601; covered = is_allowed p (as_written z); clear = is_clear p (as_written z) }

abbrev pub cell_use : Place → ℕ → Mode → Option Cell → Use
cell_use p line mode cell = access_use p (option_map (λ c. cells_zone line mode c 1) cell)

abbrev pub argument_object : Option Argument → Option ObjectName
argument_object (Some (argument.Object o)) = Some o
argument_object other = None

-- the caller's object behind a callee's name
abbrev pub put_object : List Argument → ObjectName → Option ObjectName
put_object arguments (Global g) = Some (Global g)
put_object arguments (Alloca a) = None
put_object arguments (Parameter r) = argument_object (slice_get arguments r.0)

-- a callee's zone with the arguments put in
abbrev pub put_in : List Argument → Zone → Option Span
put_in arguments z = option_map (λ o. span o (argument_moves 0 arguments) z) (put_object arguments z.object)

abbrev pub is_put_allowed : Place → Option Span → Bool
is_put_allowed p None = false
is_put_allowed p (Some y) = is_allowed p y

abbrev pub is_put_clear : Place → Option Span → Bool
is_put_clear p None = true
is_put_clear p (Some y) = is_clear p y

-- 604: a callee's zones
abbrev pub callee_use : Place → Function → List Argument → Use
callee_use p callee arguments = record {
  number = 604;
  covered = list_all (λ (z : Zone). is_put_allowed p (put_in arguments z)) callee.zones;
  clear = list_all (λ (z : Zone). is_put_clear p (put_in arguments z)) callee.zones;
}

abbrev pub call_use : Place → Option Function → List Argument → Use
call_use p None arguments = no_use
call_use p (Some callee) arguments = callee_use p callee arguments

abbrev pub step_use : Place → List Function → List Step → ℕ → Instruction → Use
step_use p functions steps line (instruction.Load d address) = cell_use p line Reads (address_cell steps address)
step_use p functions steps line (instruction.Store x address) = cell_use p line Writes (address_cell steps address)
step_use p functions steps line (instruction.StoreZeros cells object) =
    access_use p (Some (cells_zone line Writes (first_cell object) cells))
step_use p functions steps line (instruction.AtomicAdd address x) = cell_use p line Adds (address_cell steps address)
step_use p functions steps line (instruction.Call d callee arguments) =
    call_use p (slice_get functions callee.0) arguments
step_use p functions steps line other = no_use

abbrev pub foot_of : Option Block → List Zone
foot_of None = []
foot_of (Some block) = block.foot

abbrev pub child_foot : List Block → Terminator → List Zone
child_foot blocks (terminator.Detach region body continuation) = foot_of (slice_get blocks body.0)
child_foot blocks other = []

-- what a terminator touches: the foot of a new child
abbrev pub end_use : Place → List Block → Terminator → Use
end_use p blocks t = foot_use p (child_foot blocks t)

-- ---- along edges

-- whether what is pending of a region goes on along an edge
abbrev pub hands_on : Way → RegisterId → Bool
hands_on Detached region = false
hands_on (Synced synced) region = not (synced.0 == region.0)
hands_on other region = true

-- 603: what is pending of the region at the target, with what its phis take put in, covers it
unfoldable pub is_passed : EdgeFacts → List Pending → RegisterId → Zone → Bool
is_passed e waiting region z = is_empty e.facts (as_written z) || list_any (λ (q : Pending). (q.region.0 == region.0) &&
    covers e.facts (span q.zone.object e.moves q.zone) (as_written z)) waiting

abbrev pub are_passed : EdgeFacts → List Pending → List Pending → Bool
are_passed e waiting pending =
    list_all (λ (q : Pending). not (hands_on e.way q.region) || is_passed e waiting q.region q.zone) pending

abbrev pub foot_passed : EdgeFacts → List Pending → RegisterId → List Zone → Bool
foot_passed e waiting region foot = list_all (λ (z : Zone). is_passed e waiting region z) foot

-- a new child's foot, on the edge to the continuation
abbrev pub child_passed_on : List Block → EdgeFacts → List Pending → Way → Terminator → Bool
child_passed_on blocks e waiting Continued (terminator.Detach region body continuation) =
    foot_passed e waiting region (foot_of (slice_get blocks body.0))
child_passed_on blocks e waiting one other = true

abbrev pub pending_of : Option Block → List Pending
pending_of None = []
pending_of (Some block) = block.pending

-- 603: each pending zone of the source, and a new child's foot
abbrev pub passes_on : List Block → List Pending → Terminator → EdgeFacts → Bool
passes_on blocks pending t e = are_passed e (pending_of (slice_get blocks e.to.0)) pending &&
    child_passed_on blocks e (pending_of (slice_get blocks e.to.0)) e.way t
