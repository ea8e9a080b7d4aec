use Rattle.std.proofs.lemmas.Result.{IfOk-from_err}
use Rattle.std.proofs.Common.{◌≡◌, ◌∙◌, ◌⊎◌, ap}
use Rattle.std.specs.List.{Any}
use Rattle.refusal.specs.declared.broken.Broken.{Broken}
use Rattle.refusal.proofs.Elements.{earliest_both}
use Rattle.ranges.specs.declared.table.EdgeFacts.{EdgeFacts}
use Rattle.ranges_owed.specs.Owed.{owed_at_end}
use Rattle.ranges.specs.Edges.{edge_owed}
use Rattle.ranges.specs.Tables.{all_with_known}
use Rattle.ranges.specs.Places.{with_shows}
use Rattle.ranges.specs.Rules.{AreUnmet, AreUnshown}
use Rattle.ranges.proofs.walk.walk_ending.Goals as goal

pub returns-clause-named : goal.returns-clause-named
returns-clause-named c =
    let function = c.args.function.now in
    let ending = c.args.ending.now in
    let before = c.args.facts.now in
    let known : c.known.result ≡ with_shows before ending.shows = c.known.ensures ∙ c.index.ensures ∙ c.in_ok-unshown.ensures.known ∙ ap (with_shows before) c.as_slice.ensures in
    let edges = all_with_known c.index.new.self c.in_ok-edges.edges.items in
    earliest_both (AreUnshown before ending.shows) (λ (x : Broken). AreUnmet (with_shows before ending.shows) ending.line (owed_at_end function ending.terminator) x ⊎ Any (λ (e : EdgeFacts). AreUnmet e.facts ending.line (edge_owed function.blocks e) x) edges) _ _ _
    (rw c.as_slice.ensures at c.in_ok-unshown.ensures.named)
    (earliest_both (AreUnmet (with_shows before ending.shows) ending.line (owed_at_end function ending.terminator)) (λ (x : Broken). Any (λ (e : EdgeFacts). AreUnmet e.facts ending.line (edge_owed function.blocks e) x) edges) _ _ _
    (rw (known, c.deref.ensures.value, c.in_ok-owed.ensures) at c.in_ok-unmet.ensures)
    (rw (c.as_slice-blocks.ensures, c.as_slice-3.ensures, c.deref-3.ensures.value) at c.in_ok-unkept.ensures)
    c.lower.ensures)
    c.lower-2.ensures

pub returns-in_err-unshown-clause-known : goal.returns-in_err-unshown-clause-known
returns-in_err-unshown-clause-known c = IfOk-from_err c.from_residual.result _ c.from_residual.ensures.0

pub returns-in_err-unshown-clause-edges : goal.returns-in_err-unshown-clause-edges
returns-in_err-unshown-clause-edges c = IfOk-from_err c.from_residual.result _ c.from_residual.ensures.0

pub returns-in_err-unshown-clause-named : goal.returns-in_err-unshown-clause-named
returns-in_err-unshown-clause-named c = IfOk-from_err c.from_residual.result _ c.from_residual.ensures.0

pub returns-in_err-owed-clause-known : goal.returns-in_err-owed-clause-known
returns-in_err-owed-clause-known c = IfOk-from_err c.from_residual-in_err-owed.result _ c.from_residual-in_err-owed.ensures.0

pub returns-in_err-owed-clause-edges : goal.returns-in_err-owed-clause-edges
returns-in_err-owed-clause-edges c = IfOk-from_err c.from_residual-in_err-owed.result _ c.from_residual-in_err-owed.ensures.0

pub returns-in_err-owed-clause-named : goal.returns-in_err-owed-clause-named
returns-in_err-owed-clause-named c = IfOk-from_err c.from_residual-in_err-owed.result _ c.from_residual-in_err-owed.ensures.0

pub returns-in_err-index-clause-known : goal.returns-in_err-index-clause-known
returns-in_err-index-clause-known c = IfOk-from_err c.from_residual-in_err-index.result _ c.from_residual-in_err-index.ensures.0

pub returns-in_err-index-clause-edges : goal.returns-in_err-index-clause-edges
returns-in_err-index-clause-edges c = IfOk-from_err c.from_residual-in_err-index.result _ c.from_residual-in_err-index.ensures.0

pub returns-in_err-index-clause-named : goal.returns-in_err-index-clause-named
returns-in_err-index-clause-named c = IfOk-from_err c.from_residual-in_err-index.result _ c.from_residual-in_err-index.ensures.0

pub returns-in_err-unmet-clause-known : goal.returns-in_err-unmet-clause-known
returns-in_err-unmet-clause-known c = IfOk-from_err c.from_residual-in_err-unmet.result _ c.from_residual-in_err-unmet.ensures.0

pub returns-in_err-unmet-clause-edges : goal.returns-in_err-unmet-clause-edges
returns-in_err-unmet-clause-edges c = IfOk-from_err c.from_residual-in_err-unmet.result _ c.from_residual-in_err-unmet.ensures.0

pub returns-in_err-unmet-clause-named : goal.returns-in_err-unmet-clause-named
returns-in_err-unmet-clause-named c = IfOk-from_err c.from_residual-in_err-unmet.result _ c.from_residual-in_err-unmet.ensures.0

pub returns-in_err-sums-clause-known : goal.returns-in_err-sums-clause-known
returns-in_err-sums-clause-known c = IfOk-from_err c.from_residual-in_err-sums.result _ c.from_residual-in_err-sums.ensures.0

pub returns-in_err-sums-clause-edges : goal.returns-in_err-sums-clause-edges
returns-in_err-sums-clause-edges c = IfOk-from_err c.from_residual-in_err-sums.result _ c.from_residual-in_err-sums.ensures.0

pub returns-in_err-sums-clause-named : goal.returns-in_err-sums-clause-named
returns-in_err-sums-clause-named c = IfOk-from_err c.from_residual-in_err-sums.result _ c.from_residual-in_err-sums.ensures.0

pub returns-in_err-edges-clause-known : goal.returns-in_err-edges-clause-known
returns-in_err-edges-clause-known c = IfOk-from_err c.from_residual-in_err-edges.result _ c.from_residual-in_err-edges.ensures.0

pub returns-in_err-edges-clause-edges : goal.returns-in_err-edges-clause-edges
returns-in_err-edges-clause-edges c = IfOk-from_err c.from_residual-in_err-edges.result _ c.from_residual-in_err-edges.ensures.0

pub returns-in_err-edges-clause-named : goal.returns-in_err-edges-clause-named
returns-in_err-edges-clause-named c = IfOk-from_err c.from_residual-in_err-edges.result _ c.from_residual-in_err-edges.ensures.0

pub returns-in_err-unkept-clause-known : goal.returns-in_err-unkept-clause-known
returns-in_err-unkept-clause-known c = IfOk-from_err c.from_residual-in_err-unkept.result _ c.from_residual-in_err-unkept.ensures.0

pub returns-in_err-unkept-clause-edges : goal.returns-in_err-unkept-clause-edges
returns-in_err-unkept-clause-edges c = IfOk-from_err c.from_residual-in_err-unkept.result _ c.from_residual-in_err-unkept.ensures.0

pub returns-in_err-unkept-clause-named : goal.returns-in_err-unkept-clause-named
returns-in_err-unkept-clause-named c = IfOk-from_err c.from_residual-in_err-unkept.result _ c.from_residual-in_err-unkept.ensures.0
