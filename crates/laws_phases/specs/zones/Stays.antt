-- The law: a zone has the same cells behind a step that writes no register that it names.
use Rattle.std.specs.Prelude.{◌≡◌, ◌≢◌, ◌↔◌, ℕ, Option, Some}
use Rattle.semantics.specs.Cells.{Cell}
use Rattle.semantics.specs.Frames.{Frame}
use Rattle.semantics.specs.Effect.{Effect}
use Rattle.semantics.specs.State.{went}
use Rattle.program.specs.declared.annotation.Zone.{Zone}
use Rattle.program.specs.declared.identifier.ObjectName.TheVariants.{Parameter}
use Rattle.laws_conditions.specs.rules.Moves.{GoesOn}
use Rattle.laws_conditions.specs.rules.Costs.{Lacks}
use Rattle.laws_phases.specs.zones.Uses.{HoldsCell}

-- the zone names no such register
pub record IsUnnamed (d : ℕ) (z : Zone) : Type 0 where
  pub low : Lacks z.low d
  pub high : Lacks z.high d
  pub object : z.object ≢ Parameter (record { 0 = d })

abbrev pub ZonesStay : Type 0
ZonesStay =
    (f : Frame) (dest : Option ℕ) (e : Effect) → GoesOn f dest e → (z : Zone) →
    ((d : ℕ) → dest ≡ Some d → IsUnnamed d z) → (c : Cell) →
    HoldsCell f z c ↔ HoldsCell (went f e) z c
