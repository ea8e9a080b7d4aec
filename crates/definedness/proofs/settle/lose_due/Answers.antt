use Rattle.std.proofs.Common.{◌<◌, length, inl, inr, refl, sym, ◌∙◌}
use Rattle.definedness_allocas.specs.Sets.{due_in, label_at}
use Rattle.definedness.specs.Settling.{due_and_given}
use Rattle.definedness.proofs.Due.{due_within, kept_same, kept_fewer}
use Rattle.definedness.proofs.OnOk.{on_ok_three}
use Rattle.definedness.proofs.settle.lose_due.Goals as goal

pub put_due-requires : goal.put_due-requires
put_due-requires c =
    due_within c.args.sets.now c.args.to (length (due_and_given c.args.sets.now c.args.to c.args.given.now)) (kept_fewer c.args.given.now (due_in (label_at c.args.sets.now c.args.to)) (sym c.is_given.ensures ∙ c.if-is_given.false))

pub returns-then-is_given : goal.returns-then-is_given
returns-then-is_given c =
    inr (kept_same c.args.given.now (due_in (label_at c.args.sets.now c.args.to)) (sym c.is_given.ensures ∙ c.if-is_given.true), refl, refl)

pub returns : goal.returns
returns c =
    let less : length (due_and_given c.args.sets.now c.args.to c.args.given.now) < length (due_in (label_at c.args.sets.now c.args.to)) = kept_fewer c.args.given.now (due_in (label_at c.args.sets.now c.args.to)) (sym c.is_given.ensures ∙ c.if-is_given.false) in
    on_ok_three c.put_due.result _ _ _ _ (λ labels lacking listed. inl (less, labels, lacking, listed)) (rw (c.from_vec.ensures, c.in_ok-kept.ensures) at c.put_due.ensures.labels) c.put_due.ensures.lacking c.put_due.ensures.listed
