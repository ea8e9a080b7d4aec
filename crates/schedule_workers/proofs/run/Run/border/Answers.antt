use Rattle.std.proofs.Common.{◌≡◌, Some, sym, ap, ◌∙◌}
use Rattle.std.specs.Option.{option_copied}
use Rattle.std.proofs.Math.Logic.{∥∥₁_elim}
use Rattle.std.proofs.Props.{props}
use Rattle.cactus.specs.Frames.{node_at}
use Rattle.schedule_workers.proofs.Onward.{fits_prop}
use Rattle.schedule_workers.proofs.Stepping.{has_ending}
use Rattle.schedule_workers.proofs.Views.{node_tells}
use Rattle.schedule_workers.proofs.run.Run.border.Goals as goal

pub unreachable-requires : goal.unreachable-requires
unreachable-requires c = ∥∥₁_elim c.requires.safe (hlevel props) (λ s.
    let (node, stands) = node_tells c.args.self.now.cactus c.args.slot (s.shown.agrees.held c.args.worker c.args.slot c.requires.hand) in
    let none = sym c.node.ensures ∙ ap option_copied c.in_default.is in
    let e = sym stands ∙ none in
    cc)

pub item-requires-clause-stands : goal.item-requires-clause-stands
item-requires-clause-stands c =
    let n = c.in-Some.node.now in
    let at : node_at c.args.self.now.cactus c.args.slot ≡ Some n = sym c.node.ensures ∙ ap option_copied c.in-Some.is in
    ∥∥₁_elim c.requires.safe (fits_prop _ _) (λ s. (s.shown.agrees.nodes c.args.slot n at).fits)

pub item-requires-clause-ends : goal.item-requires-clause-ends
item-requires-clause-ends c = λ b e none. has_ending c.args.program.now c.args.places.now _ c.in-Some.node.now.frame.frame.function.0 c.in-Some.node.now.frame.frame.place.block.0 b c.requires.text e none
