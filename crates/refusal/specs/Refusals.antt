-- What a contract says of a refusal. Only contracts speak of memory: no meaning of a text and no broken rule does.
use Rattle.refusal.specs.declared.broken.Broken.{Broken}
use Rattle.refusal.specs.declared.refused.Refused.{Refused}
use Rattle.refusal.specs.declared.refused.Refused.TheVariants.{Fault, Memory}

-- where a broken rule is named, so much of it; nothing is said where memory was refused
abbrev pub IfBroken : (Broken → Type 0) → Refused → Type 0
IfBroken Says Memory = Unit {0}
IfBroken Says (Fault number line) = Says (record { line = line; number = number })
