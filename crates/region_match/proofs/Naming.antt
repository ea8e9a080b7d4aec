-- Which rule is named: 306 before the others.
use Rattle.std.proofs.Common.{Some, inl, inr, ⊎_elim}
use Rattle.refusal.specs.declared.broken.Broken.{Broken}
use Rattle.refusal.specs.Earliest.{IsEarliest}
use Rattle.program.specs.declared.function.Program.{Program}
use Rattle.region_match.specs.Mixed.{IsMixed}
use Rattle.region_match.specs.Matched.{IsRegionBroken, IsTaskBroken}

pub mixed_first : (program : Program) (named : Broken) → IsEarliest (IsMixed program) (Some named) → IsEarliest (IsTaskBroken program) (Some named)
mixed_first program named j = (inl j.0, λ b p. ⊎_elim (λ mixed. j.1 b mixed) (λ other. absurd (other.0 named j.0)) p)

pub others_next : (program : Program) (named : Broken) → ((b : Broken) → IsMixed program b → ⊥) → IsEarliest (IsRegionBroken program) (Some named) →
    IsEarliest (IsTaskBroken program) (Some named)
others_next program named unmixed j = (inr (unmixed, j.0), λ b p. ⊎_elim (λ mixed. absurd (unmixed b mixed)) (λ other. j.1 b other.1) p)
