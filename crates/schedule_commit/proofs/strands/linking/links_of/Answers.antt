use Rattle.std.proofs.Common.{◌≡◌, ◌∙◌, ◌-◌, List, Some, length, subst, ap, sym}
use Rattle.std.specs.Prelude.{slice_get}
use Rattle.cactus.specs.declared.node.Link.{Link}
use Rattle.schedule_workers.specs.declared.activation.Activation.{Activation}
use Rattle.schedule_commit.proofs.strands.Linked.{path_ready, ready_next}
use Rattle.schedule_commit.proofs.strands.linking.links_of.Goals as goal

pub loop-number-preserved : goal.loop-number-preserved
loop-number-preserved c =
    let l = c.loop-number in
    let links = l.links.items in
    let same = c.as_slice.ensures.value in
    let below = c.path_below.ensures in
    let was = path_ready c.args.worker c.args.strand.now l.number links c.path_below.result.now l.invariant.0
    (λ none. below.base (ap (λ (xs : List (Link Activation)). length xs) same ∙ none))
    (λ link last. below.uppermost link (subst (λ (xs : List (Link Activation)). slice_get xs (length xs - 1) ≡ Some link) (sym same) last)) in (
      ready_next c.args.worker c.args.strand.now l.number c.frame_of.result.now c.frame_of.ensures c.path_below.result.now c.saturating_sub-child.result links c.push.new.self.items
          (record { path = c.in_ok-path.path; frame = c.in_ok-frame.frame }) was l.invariant.0 c.saturating_sub-child.ensures c.in_ok-path.ensures c.in_ok-frame.ensures c.in_ok-push.ensures.items,
      c.of_gone-lists.ensures ∙ l.invariant.1,
    )
