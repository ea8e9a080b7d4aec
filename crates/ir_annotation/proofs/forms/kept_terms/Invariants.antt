use Rattle.std.proofs.Common.{◌≡◌, ◌++◌}
use Rattle.std.specs.List.{filter_map}
use Rattle.std.specs.Vec.Iter.{into_iter_items}
use Rattle.ir_annotation.specs.Forms.{kept}
use Rattle.ir_annotation.proofs.forms.kept_terms.Given as goal

abbrev pub invariant-loop-term : goal.invariant-loop-term
invariant-loop-term l = (l.found ≡ filter_map kept l.yielded) × (l.yielded ++ into_iter_items l.term-iterator ≡ l.fn.terms.items)
