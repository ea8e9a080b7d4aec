use Rattle.std.proofs.Common.{take}
use Rattle.std.specs.List.{All, Contains}
use Rattle.linear_shown.specs.declared.index.Entry.{Entry}
use Rattle.linear_shown.specs.Index.{place_at, IsContradiction}
use Rattle.linear_shown.proofs.merge.one_contradicts.Given as goal

abbrev pub invariant-loop-entry : goal.invariant-loop-entry
invariant-loop-entry l = All (λ (e : Entry). (d : Entry) → Contains l.entries d → IsContradiction (place_at l.facts e.place) (place_at l.facts d.place) → ⊥) (take l.entry-index l.fresh)
