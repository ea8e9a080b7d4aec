use Rattle.std.proofs.Common.{◌∙◌, List, ap, subst}
use Rattle.std.specs.List.{Any}
use Rattle.program.specs.declared.function.Block.{Block}
use Rattle.refusal.specs.declared.broken.Broken.{Broken}
use Rattle.refusal.specs.Earliest.{IsEarliest}
use Rattle.refusal.proofs.Elements.{earliest_both}
use Rattle.ranges.specs.declared.table.EdgeFacts.{EdgeFacts}
use Rattle.ranges.specs.Tables.{all_with_known}
use Rattle.footprints_feet.specs.footprints_zones.declared.place.Use.{Use}
use Rattle.linear.specs.declared.form.Fact.{Fact}
use Rattle.footprints.specs.Footprints.{Place, end_use}
use Rattle.footprints.specs.Rules.{place_in, IsUseBroken, IsEdgeBroken}
use Rattle.footprints.proofs.check.Site.ending_fault.Goals as goal

pub returns : goal.returns
returns c =
    let block = c.args.self.now.block.now in
    let ending = c.args.ending.now in
    let here = place_in c.args.self.now.function.now c.args.self.now.task block c.args.facts.now in
    let used =
    c.in_ok-used.ensures
    ∙ ap (λ (p : Place). end_use p c.as_slice-blocks.result.now ending.terminator) c.place-place.ensures
    ∙ ap (λ (bs : List Block). end_use here bs ending.terminator) c.as_slice-blocks.ensures in
    earliest_both (IsUseBroken ending.line (end_use here c.args.self.now.function.now.blocks ending.terminator)) (λ (b : Broken). Any (λ (e : EdgeFacts). IsEdgeBroken c.args.self.now.function.now.blocks block ending e b) (all_with_known c.args.facts.now c.args.edges.now)) _ _ _
    (subst (λ (u : Use). IsEarliest (IsUseBroken ending.line u) c.use_fault-at_end.result) used c.use_fault-at_end.ensures)
    (subst (λ (bs : List Block). IsEarliest (λ (b : Broken). Any (λ (e : EdgeFacts). IsEdgeBroken bs block ending e b) (all_with_known c.args.facts.now c.args.edges.now)) c.in_ok-on_edges.on_edges) c.as_slice-blocks.ensures
    (subst (λ (fs : List Fact). IsEarliest (λ (b : Broken). Any (λ (e : EdgeFacts). IsEdgeBroken c.as_slice-blocks.result.now block ending e b) (all_with_known fs c.args.edges.now)) c.in_ok-on_edges.on_edges) (ap (λ (x : List Fact × List Fact). x.0) c.new-branches.ensures ∙ c.facts.ensures) c.in_ok-on_edges.ensures))
    c.lower.ensures
