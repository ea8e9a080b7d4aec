-- Zones at a place, and what facts show of them.
use Rattle.std.specs.Prelude.{pos, negsuc, ◌-ℤ◌, Bool, true, false, not, ◌&&◌, ◌||◌, List, [], ◌++◌}
use Rattle.std.specs.List.{list_any}
use Rattle.syntax.specs.declared.operator.Mode.{Mode}
use Rattle.syntax.specs.declared.operator.Mode.TheVariants.{Reads, Writes, Adds}
use Rattle.linear.specs.declared.form.Fact.{Fact}
use Rattle.linear.specs.Terms.{Combination}
use Rattle.program.specs.declared.annotation.Zone.{Zone}
use Rattle.program.specs.declared.identifier.ObjectName.{ObjectName}
use Rattle.program.specs.ObjectNames.{same_object}
use Rattle.ranges.specs.cfg.declared.structure.Move.{Move}
use Rattle.ranges.specs.ranges_owed.declared.sum.Sum.{Sum}
use Rattle.ranges.specs.Sums.{shows}
use Rattle.ranges.specs.ranges_owed.Inequalities.{parts_of}

-- a zone at a place: the object that it is of there, and the operands that stand for its registers there
pub record Span : Type 0 where
  pub object : ObjectName
  pub moves : List Move
  pub zone : Zone

abbrev pub span : ObjectName → List Move → Zone → Span
span object moves zone = record { object = object; moves = moves; zone = zone }

-- a zone in its own function, where each register stands for itself
abbrev pub as_written : Zone → Span
as_written zone = span zone.object [] zone

-- ---- modes

-- a zone of this mode lets its cells be used by that mode: `writes` by every mode, any other only by its own
abbrev pub mode_covers : Mode → Mode → Bool
mode_covers Writes mode = true
mode_covers Reads Reads = true
mode_covers Adds Adds = true
mode_covers one other = false

-- uses of one cell in any order come to the same: two reads, or two adds
abbrev pub modes_agree : Mode → Mode → Bool
modes_agree Reads Reads = true
modes_agree Adds Adds = true
modes_agree one other = false

-- ---- what facts show

-- high - low, each with the operands of its own zone put in
abbrev pub between : List Move → Combination → List Move → Combination → Sum
between for_high high for_low low =
    record {
      constant = high.constant -ℤ low.constant;
      parts = parts_of for_high (pos 1) high.terms ++
          parts_of for_low (negsuc 0) low.terms;
    }

-- high >= low is shown
unfoldable pub shows_order : List Fact → List Move → Combination → List Move → Combination → Bool
shows_order facts for_high high for_low low = shows facts (between for_high high for_low low)

-- it has no cell: its low end is at least its high end
unfoldable pub is_empty : List Fact → Span → Bool
is_empty facts z = shows_order facts z.moves z.zone.low z.moves z.zone.high

-- it has each cell of the other, for each use that the other has them for
unfoldable pub covers : List Fact → Span → Span → Bool
covers facts z y = same_object z.object y.object && (mode_covers z.zone.mode y.zone.mode && (shows_order facts y.moves
    y.zone.low z.moves z.zone.low && shows_order facts z.moves z.zone.high y.moves y.zone.high))

-- they have no cell in common
unfoldable pub is_apart : List Fact → Span → Span → Bool
is_apart facts z y = not (same_object z.object y.object) || (is_empty facts z || (is_empty facts y || (shows_order facts
    z.moves z.zone.low y.moves y.zone.high || shows_order facts y.moves y.zone.low z.moves z.zone.high)))

-- they may have a cell in common, and the order of its uses may matter
unfoldable pub conflict : List Fact → Span → Span → Bool
conflict facts z y = not (modes_agree z.zone.mode y.zone.mode || is_apart facts z y)

-- one of the zones covers it, or it is empty
unfoldable pub is_covered : List Fact → List Zone → Span → Bool
is_covered facts zones y = is_empty facts y || list_any (λ z. covers facts (as_written z) y) zones
