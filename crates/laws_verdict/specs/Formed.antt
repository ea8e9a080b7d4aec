-- The law: no sum that the rules on numbers and zones ask of a program that a text means passes the bounds of a form,
-- whether the rules are kept or broken, and facts show such a sum just where they show it as it stands, over the
-- integers without bounds. So no text is refused for these bounds. Of the rules on costs `Limited` says the same where
-- less than 2^98 is done.
use Rattle.std.specs.Prelude.{◌≡◌, ◌↔◌, ℕ, ◌≤◌, ◌^◌, List, [], Some, All, Contains, IsSome, IsTrue, slice_get}
use Rattle.syntax.specs.declared.operator.Mode.{Mode}
use Rattle.linear_shown.specs.Shown.{IsShown}
use Rattle.linear.specs.declared.form.Fact.{Fact}
use Rattle.program.specs.declared.function.Block.{Block}
use Rattle.program.specs.declared.function.Function.{Function}
use Rattle.program.specs.declared.function.Program.{Program}
use Rattle.program.specs.declared.instruction.Ending.{Ending}
use Rattle.program.specs.declared.instruction.Step.{Step}
use Rattle.ranges.specs.declared.edge.EdgeSums.{EdgeSums}
use Rattle.ranges.specs.ranges_owed.declared.sum.Obligation.{Obligation}
use Rattle.ranges.specs.ranges_owed.declared.sum.Sum.{Sum}
use Rattle.ranges.specs.Edges.{edges_out, edge_facts, edge_owed}
use Rattle.ranges.specs.ranges_owed.Inequalities.{differences_of}
use Rattle.ranges.specs.Learned.{learned}
use Rattle.ranges.specs.ranges_owed.Owed.{owed, owed_at_end}
use Rattle.ranges.specs.Sums.{shows, sum_form}
use Rattle.footprints.specs.declared.access.Cell.{Cell}
use Rattle.footprints.specs.Footprints.{cells_zone}
use Rattle.footprints.specs.Zones.{Span, between}
use Rattle.laws_verdict.specs.Plain.{plain_form}
use Rattle.laws_verdict.specs.Sums.{IsWord}
use Rattle.laws_verdict.specs.Limited.{AreWords}
use Rattle.laws_verdict.specs.Written.{AreEndsLimited, IsRead}

abbrev pub HasForm : Sum → Type 0
HasForm sum = IsSome (sum_form sum)

abbrev pub HaveForms : List Sum → Type 0
HaveForms sums = All HasForm sums

abbrev pub HasChoices : Obligation → Type 0
HasChoices obligation = HaveForms obligation.choices

-- ---- numbers

pub record IsStepFormed (program : Program) (function : Function) (step : Step) : Type 0 where
  pub shows : HaveForms (differences_of [] step.shows)
  -- whatever is known before it
  pub learned : (known : List Fact) → HaveForms (learned program.functions known step.instruction)
  pub owed : All HasChoices (owed program function step.instruction)

pub record IsEndFormed (function : Function) (b : ℕ) (block : Block) (ending : Ending) : Type 0 where
  pub shows : HaveForms (differences_of [] ending.shows)
  pub owed : All HasChoices (owed_at_end function ending.terminator)
  pub known : (e : EdgeSums) → Contains (edges_out block.steps ending.terminator) e → HaveForms e.sums
  pub edges : (known : List Fact) (e : EdgeSums) → Contains (edges_out block.steps ending.terminator) e
      → All HasChoices (edge_owed function.blocks (edge_facts function.blocks b known e))

pub record IsBlockFormed (program : Program) (function : Function) (b : ℕ) (block : Block) : Type 0 where
  pub keeps : HaveForms (differences_of [] block.keeps)
  pub steps : (i : ℕ) (step : Step) → slice_get block.steps i ≡ Some step → IsStepFormed program function step
  pub ending : (ending : Ending) → block.ending ≡ Some ending → IsEndFormed function b block ending

-- ---- zones

-- one end of a zone against one of another, by which it is told whether one is empty, covers the other or is apart from
-- it
pub record AreCompared (z y : Span) : Type 0 where
  pub lows : HasForm (between z.moves z.zone.low y.moves y.zone.low)
  pub highs : HasForm (between z.moves z.zone.high y.moves y.zone.high)
  pub before : HasForm (between z.moves z.zone.low y.moves y.zone.high)
  pub behind : HasForm (between z.moves z.zone.high y.moves y.zone.low)

-- ---- all of it

pub record HasFormedSums (program : Program) : Type 0 where
  pub requirements : (f : ℕ) (function : Function) → slice_get program.functions f ≡ Some function →
      HaveForms (differences_of [] function.requirements)
  pub blocks : (f b : ℕ) (function : Function) (block : Block) → slice_get program.functions f ≡ Some function
      → slice_get function.blocks b ≡ Some block → IsBlockFormed program function b block

pub record SumsHaveForms : Type 0 where
  pub numbers : (program : Program) → IsRead program → HasFormedSums program
  -- the cells that an access touches are a zone of the same kind
  pub accesses : (line : ℕ) (mode : Mode) (cell : Cell) (count : ℕ) → IsWord cell.index → count ≤ 2 ^ 63 →
      AreEndsLimited (cells_zone line mode cell count)
  -- one that has a form is shown just where it is shown as it stands
  pub plain : (facts : List Fact) (sum : Sum) → HasForm sum → IsTrue (shows facts sum) ↔ IsShown facts (plain_form sum)
  pub zones : (z y : Span) → AreEndsLimited z.zone → AreEndsLimited y.zone → AreWords z.moves → AreWords y.moves →
      AreCompared z y
