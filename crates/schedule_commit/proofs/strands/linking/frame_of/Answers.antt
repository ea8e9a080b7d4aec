use Rattle.std.proofs.Common.{◌≡◌, ◌∙◌, ℕ, Some, ap, arith, length, subst, sym}
use Rattle.std.specs.Prelude.{slice_get}
use Rattle.std.proofs.lemmas.Option.{slice_get_read}
use Rattle.frame_engine.specs.declared.activation.Frame.{Frame}
use Rattle.schedule_commit.specs.strands.Linking.{frames_of}
use Rattle.schedule_commit.proofs.strands.Linked.{box_at, top_at}
use Rattle.schedule_commit.proofs.strands.linking.frame_of.Goals as goal

pub returns-then-number-len : goal.returns-then-number-len
returns-then-number-len c =
    let x = c.args.strand.now in
    let box = c.index.result.now in
    let here = slice_get_read x.below.items c.len.result c.args.number box (c.len.ensures ∙ x.below.ok.0) c.if-number-len.true c.index.ensures in
    box_at x.below.items x.top.value c.args.number box here ∙ ap (λ (f : Frame). Some f) (sym c.as_ref.ensures)

pub returns-else-number-len : goal.returns-else-number-len
returns-else-number-len c =
    let x = c.args.strand.now in
    let low = c.requires in
    let high = c.if-number-len.false in
    let count = c.len.ensures ∙ x.below.ok.0 in
    let last : length x.below.items ≡ c.args.number = omega (arith, low, high, count) in
    subst (λ (n : ℕ). slice_get (frames_of x) n ≡ Some x.top.value) last (top_at x.below.items x.top.value) ∙ ap (λ (f : Frame). Some f) (sym c.as_ref-else-number-len.ensures)
