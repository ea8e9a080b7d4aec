-- The rules of a phase are not both right and broken, and one fault is the earliest.
use Rattle.std.proofs.Common.{◌≡◌, ◌⊎◌, ℕ, inl, inr, List, Option, Some, None, sym, subst, arith}
use Rattle.std.specs.Prelude.{IsSome, IsNone}
use Rattle.std.specs.List.{All, Any}
use Rattle.refusal.specs.declared.broken.Broken.{Broken}
use Rattle.refusal.specs.Earliest.{IsFirst}
use Rattle.program.specs.declared.function.Block.{Block}
use Rattle.program.specs.declared.function.Program.{Program}
use Rattle.program.specs.declared.instruction.Ending.{Ending}
use Rattle.program.specs.declared.instruction.Phi.{Phi}
use Rattle.cfg.specs.declared.structure.BlockEdges.{BlockEdges}
use Rattle.cfg.specs.Edges.{graph_of, graphs_of}
use Rattle.cfg.specs.Rules.{IsBlockRight, IsBlockBroken, IsMatched, IsUnmatched, IsFunctionRight, IsFunctionBroken, IsGraphRight, IsGraphBroken}
use Rattle.region_match.specs.declared.tables.Regions.{Regions}
use Rattle.region_match.specs.Matched.{AreRegionsRight, IsTaskBroken}
use Rattle.definedness.specs.Definedness.{IsDefinednessBroken}
use Rattle.ranges.specs.Rules.{IsRangeBroken, AreRangesRight}
use Rattle.footprints.specs.Rules.{IsZoneBroken, AreZonesRightBy}
use Rattle.cost_table.specs.Rules.{IsCostBroken, AreCostsRight}
use Rattle.verifier.specs.Accepted.{AreTasksOf, AreZonesRight, IsFirstOfZones, IsRight, IsFaulty}
use Rattle.laws_phases.proofs.zones.Tables.{one_table}

-- ---- of one phase

pub same_broken : (a b : Broken) → a.line ≡ b.line → a.number ≡ b.number → a ≡ b
same_broken a b lines numbers = λ i. record { line = lines i; number = numbers i }

pub one_earliest : (P : Broken → Type 0) (a b : Broken) → IsFirst P a → IsFirst P b → a ≡ b
one_earliest P a b h k =
    let to = h.1 b k.0 in
    let back = k.1 a h.0 in
    let lines : a.line ≡ b.line = omega (arith, to.0, back.0) in
    same_broken a b lines (omega (arith, to.1 lines, back.1 (sym lines)))

-- a rule that holds of each element is broken by none
pub all_but_any : {X : Type 0} (P Q : X → Type 0) (xs : List X) → ((x : X) → P x → Q x → ⊥) → All P xs → Any Q xs → ⊥
all_but_any P Q xs never all (k, x, within, is, broken) = never x (subst P is (all k x within)) broken

block_right : (blocks : List BlockEdges) (b : ℕ) (block : Block) (broken : Broken) → IsBlockRight blocks b block → IsBlockBroken blocks b block broken → ⊥
block_right blocks b block broken right (inl phi) =
    all_but_any (λ (p : Phi). IsMatched blocks b p.entries) (λ p. IsUnmatched blocks b p broken) block.phis (λ p fits h. h.2 fits) right.0 phi
block_right blocks b block broken right (inr (inl (number, line, inl entry))) = right.1.0 entry.0 entry.1
block_right blocks b block broken right (inr (inl (number, line, inr off))) = off right.1.1
block_right blocks b block broken right (inr (inr end)) = ends block.ending right.2 end.2
  where
    ends : (o : Option Ending) → IsSome o → IsNone o → ⊥
    ends None some none = absurd (cc)
    ends (Some ending) some none = absurd (cc)

pub graph_right : (program : Program) (broken : Broken) → IsGraphRight program → IsGraphBroken program broken → ⊥
graph_right program broken =
    all_but_any IsFunctionRight (λ f. IsFunctionBroken f broken) program.functions
    (λ f right h. block_right (graph_of f).blocks h.0 h.1 broken (right h.0 h.1 h.2) h.3)

pub regions_right : (program : Program) (broken : Broken) → AreRegionsRight program → IsTaskBroken program broken → ⊥
regions_right program broken right (inl mixed) = right.unmixed broken mixed
regions_right program broken right (inr (unmixed, region)) = right.unbroken broken region

-- the tasks have one table, so it does not matter by which the rules on zones are judged
one_regions : (program : Program) (a b : Regions) → AreTasksOf program a → AreTasksOf program b → a ≡ b
one_regions program a b h k =
    let same = one_table (graphs_of program) a.functions b.functions h k in
    λ i. record { functions = same i }

pub zones_right : (program : Program) (broken : Broken) → AreZonesRight program → IsFirstOfZones program broken → ⊥
zones_right program broken (a, one, right) (b, other, fault) =
    subst (λ (r : Regions). AreZonesRightBy program r) (one_regions program a b one other) right broken fault.0

pub one_zone_fault : (program : Program) (broken broken' : Broken) → IsFirstOfZones program broken → IsFirstOfZones program broken' → broken ≡ broken'
one_zone_fault program broken broken' (a, one, h) (b, other, k) =
    one_earliest (IsZoneBroken program b) broken broken'
    (subst (λ (r : Regions). IsFirst (IsZoneBroken program r) broken) (one_regions program a b one other) h) k

-- ---- of all phases

pub right_or_faulty : (program : Program) (broken : Broken) → IsRight program → IsFaulty program broken → ⊥
right_or_faulty program broken right (inl h) = graph_right program _ right.graph h.0
right_or_faulty program broken right (inr (_, inl h)) = regions_right program _ right.regions h.0
right_or_faulty program broken right (inr (_, inr (_, inl h))) = right.definedness _ h.0
right_or_faulty program broken right (inr (_, inr (_, inr (_, inl h)))) = right.ranges _ h.0
right_or_faulty program broken right (inr (_, inr (_, inr (_, inr (_, inl h))))) = zones_right program broken right.zones h
right_or_faulty program broken right (inr (_, inr (_, inr (_, inr (_, inr (_, inl h)))))) = right.costs _ h.0
right_or_faulty program broken right (inr (_, inr (_, inr (_, inr (_, inr (_, inr (_, h))))))) = absurd h

module _ (program : Program) (a b : Broken) where
  -- of a phase and those behind it, which are reached where its rules hold
  phase : (P : Broken → Type 0) (Right Later Later' : Type 0) → (Right → (x : Broken) → P x → ⊥) → (Later → Later' → a ≡ b) → IsFirst P a ⊎ (Right × Later) → IsFirst P b ⊎ (Right × Later') → a ≡ b
  phase P Right Later Later' never later (inl h) (inl k) = one_earliest P a b h k
  phase P Right Later Later' never later (inl h) (inr k) = absurd (never k.0 _ h.0)
  phase P Right Later Later' never later (inr h) (inl k) = absurd (never h.0 _ k.0)
  phase P Right Later Later' never later (inr h) (inr k) = later h.1 k.1

  costs : IsFirst (IsCostBroken program) a ⊎ (AreCostsRight program × ⊥) → IsFirst (IsCostBroken program) b ⊎ (AreCostsRight program × ⊥) → a ≡ b
  costs (inl h) (inl k) = one_earliest (IsCostBroken program) a b h k
  costs (inl h) (inr (_, k)) = absurd k
  costs (inr (_, h)) k = absurd h

  zones : IsFirstOfZones program a ⊎ (AreZonesRight program × (IsFirst (IsCostBroken program) a ⊎ (AreCostsRight program × ⊥))) → IsFirstOfZones program b ⊎ (AreZonesRight program × (IsFirst (IsCostBroken program) b ⊎ (AreCostsRight program × ⊥))) → a ≡ b
  zones (inl h) (inl k) = one_zone_fault program a b h k
  zones (inl h) (inr k) = absurd (zones_right program a k.0 h)
  zones (inr h) (inl k) = absurd (zones_right program b h.0 k)
  zones (inr h) (inr k) = costs h.1 k.1

  pub one_fault : IsFaulty program a → IsFaulty program b → a ≡ b
  one_fault =
      phase (IsGraphBroken program) (IsGraphRight program) _ _ (λ right x. graph_right program x right)
      (phase (IsTaskBroken program) (AreRegionsRight program) _ _ (λ right x. regions_right program x right)
      (phase (IsDefinednessBroken program) _ _ _ (λ right. right)
      (phase (IsRangeBroken program) (AreRangesRight program) _ _ (λ right. right) zones)))
