use Rattle.std.proofs.Common.{◌≡◌, false, take}
use Rattle.std.specs.List.{list_any}
use Rattle.windows.specs.declared.windows.Saved.{Saved}
use Rattle.strand.specs.Leaving.{is_detach}
use Rattle.strand.specs.Spans.{slot_item}
use Rattle.strand.proofs.strand.Strand.has_ready.Given as goal

abbrev pub invariant-loop-saved : goal.invariant-loop-saved
invariant-loop-saved l = (list_any (λ (s : Saved). is_detach (slot_item l.program s.at)) (take l.saved-index l.saved-items) ≡ false)
