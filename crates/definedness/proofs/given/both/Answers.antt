use Rattle.std.proofs.Common.{◌≡◌, ◌∙◌, ◌+◌, ◌<◌, ℕ, Bool, true, false, cond, List, [], ◌∷◌, ◌++◌, append-nil, length, get_or, take, sym, ap, arith}
use Rattle.std.specs.List.{filter}
use Rattle.std.proofs.lemmas.List.{take_all}
use Rattle.std.proofs.lemmas.List.Elements.{filter_more}
use Rattle.linear.specs.declared.form.RegisterId.{RegisterId}
use Rattle.definedness_allocas.specs.Sets.{has}
use Rattle.definedness.proofs.given.both.Goals as goal
use Rattle.definedness.proofs.given.both.Goals.{then-is_found+in_ok-push, else-is_found}

kept_next : (right left : List RegisterId) (i : ℕ) (d : RegisterId) (kept : List RegisterId) (found : Bool) → i < length left → kept ≡ filter (has right) (take i left) → found ≡ has right (get_or left i d) →
    kept ++ cond found (get_or left i d ∷ []) [] ≡ filter (has right) (take (i + 1) left)
kept_next right left i d kept found within k e =
    (λ j. k j ++ cond (e j) (get_or left i d ∷ []) []) ∙ sym (filter_more (has right) left i d within)

kept_push : (right left : List RegisterId) (i : ℕ) (d : RegisterId) (kept : List RegisterId) (found : Bool) → i < length left → kept ≡ filter (has right) (take i left) → found ≡ has right (get_or left i d) → found ≡ true →
    kept ++ get_or left i d ∷ [] ≡ filter (has right) (take (i + 1) left)
kept_push right left i d kept found within k e t =
    ap (λ (b : Bool). kept ++ cond b (get_or left i d ∷ []) []) (sym t) ∙ kept_next right left i d kept found within k e

kept_same : (right left : List RegisterId) (i : ℕ) (d : RegisterId) (kept : List RegisterId) (found : Bool) → i < length left → kept ≡ filter (has right) (take i left) → found ≡ has right (get_or left i d) → found ≡ false →
    kept ≡ filter (has right) (take (i + 1) left)
kept_same right left i d kept found within k e f =
    sym (append-nil kept) ∙ ap (λ (b : Bool). kept ++ cond b (get_or left i d ∷ []) []) (sym f) ∙ kept_next right left i d kept found within k e

pub loop-place-preserved : goal.loop-place-preserved
loop-place-preserved c = elim c.if-is_found.branch [
  | then-is_found+in_ok-push w ↦ rw (w.kept-is, w.in_ok-push.ensures.items)
      (kept_push c.args.right.now c.args.left.now c.loop-place.place _ c.loop-place.kept.items c.is_found.result c.loop-place-test.true c.loop-place.invariant c.is_found.ensures w.if-is_found.true)
  | else-is_found w ↦ rw w.kept-is
      (kept_same c.args.right.now c.args.left.now c.loop-place.place _ c.loop-place.kept.items c.is_found.result c.loop-place-test.true c.loop-place.invariant c.is_found.ensures w.if-is_found.false)
]

pub returns : goal.returns
returns c = c.loop-place.invariant ∙ ap (filter (has c.args.right.now)) (take_all c.loop-place.place c.args.left.now (omega arith))
