use Rattle.std.proofs.Common.{List, ℕ, sym, ◌∙◌, subst}
use Rattle.reachability.proofs.Searching.{nexts_at-read}
use Rattle.types.specs.declared.names.mention.Mentions.{Mentions}
use Rattle.types.specs.names.Marks.{SetsMarks}
use Rattle.types.proofs.names.Naming.{Naming-none, Naming-skip, Naming-step, Naming-end}
use Rattle.types.proofs.names.reach.named_by.Goals as goal

pub loop-place-init : goal.loop-place-init
loop-place-init c = Naming-none _ _ _ _ c.in_ok-marks.ensures.size c.in_ok-marks.ensures.none

pub loop-place-preserved : goal.loop-place-preserved
loop-place-preserved c =
    let named = c.as_slice.ensures ∙ sym (nexts_at-read (λ (m : Mentions). m.globals) c.args.mentions.now c.loop-place.place c.index-mentions-place.result c.loop-place-test.true) in
    let P : List ℕ → Type 0 = λ ps. SetsMarks ps c.loop-place.marks.items c.set_marks.new.marks.items in
    Naming-step _ _ _ _ _ _ c.loop-place.invariant c.if-not-marked-place.false (subst P named c.set_marks.ensures)

pub loop-place-preserved-then-not-marked-place : goal.loop-place-preserved-then-not-marked-place
loop-place-preserved-then-not-marked-place c = Naming-skip _ _ _ _ _ c.loop-place.invariant c.if-not-marked-place.true

pub returns : goal.returns
returns c = Naming-end _ _ _ _ _ c.loop-place.invariant (rw c.requires c.loop-place-test.false)
