use Rattle.std.proofs.Common.{◌≡◌, ℕ, zero, suc, false, get_or, replicate, refl, sym, arith}
use Rattle.std.proofs.lemmas.List.{length-replicate}
use Rattle.std.proofs.lemmas.Grind.{replicate_next}
use Rattle.reachability.proofs.marks.no_marks.Goals as goal

get_or_replicate : {A : Type 0} (a : A) (n k : ℕ) → get_or (replicate n a) k a ≡ a
get_or_replicate a zero k = refl
get_or_replicate a (suc n) zero = refl
get_or_replicate a (suc n) (suc k) = get_or_replicate a n k

pub loop-node-preserved : goal.loop-node-preserved
loop-node-preserved c = rw (c.in_ok-push.ensures.items, c.loop-node.invariant) (sym (replicate_next c.loop-node._node false))

pub returns-clause-size : goal.returns-clause-size
returns-clause-size c = rw (c.loop-node.invariant, length-replicate c.loop-node._node false) (omega arith)

pub returns-clause-none : goal.returns-clause-none
returns-clause-none c = rw c.loop-node.invariant (λ n. get_or_replicate false c.loop-node._node n)
