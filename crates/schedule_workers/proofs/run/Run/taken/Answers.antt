use Rattle.std.proofs.Common.{arith, ◌≡◌, ℕ, List, [], ◌∷◌, Contains, refl, sym, ap, subst, ◌∙◌, inl, inr}
use Rattle.slab.specs.Slab.{entries_from}
use Rattle.slab.proofs.SlabLemmas.{Contains-entries, Contains-cons, Contains-cons_cases}
use Rattle.cactus.specs.declared.node.Node.{Node}
use Rattle.schedule_workers.specs.declared.activation.Activation.{Activation}
use Rattle.schedule_workers.specs.Pieces.{Covers}
use Rattle.schedule_workers.proofs.Ends.{covers_next, from_next, to_next}
use Rattle.schedule_workers.proofs.run.Run.taken.Goals as goal

abbrev listed_in : List (ℕ × Node Activation) → ℕ → Node Activation → Type 0
listed_in l slot node = Contains l (slot, node)

pub loop-slot-init : goal.loop-slot-init
loop-slot-init c =
    let frames = c.args.self.now.cactus in
    let items : c.into_iter-slot-iterator.result ≡ entries_from 0 frames.nodes = c.into_iter-slot-iterator.ensures.into_iter_gives ∙ c.iter-slot-items.ensures in
    let less = c.requires in
    record {
      can_next = tt;
      is_finite = tt;
      listed = λ slot node there. (Contains-entries (record { slots = frames.nodes; vacant_key = 0; capacity = 0 }) slot node).0 (subst (λ (l : List (ℕ × Node Activation)). listed_in l slot node) items there);
      remains = λ slot node stands. inl (subst (λ (l : List (ℕ × Node Activation)). listed_in l slot node) (sym items) ((Contains-entries (record { slots = frames.nodes; vacant_key = 0; capacity = 0 }) slot node).1 stands));
      low = omega arith;
      high = omega arith;
      from = inl refl;
      to = inl refl;
    }

-- where no function has allocas, nothing is taken
pub returns-then-needs_no_allocas : goal.returns-then-needs_no_allocas
returns-then-needs_no_allocas c =
    let less = c.requires in
    record {
      low = omega arith;
      high = omega arith;
      covers = λ slot node stands touch. absurd (let none = c.needs_no_allocas.ensures c.if-needs_no_allocas.true node.frame.frame.function.0 in let some = touch.some in omega (arith, some, none));
      from = inl refl;
      to = inl refl;
    }

first_listed : {X : Type 0} (x : X) (rest all : List X) → all ≡ x ∷ rest → Contains all x
first_listed x rest all is = rw is (0, omega arith, refl)

none_listed : {X : Type 0} (x : X) (l : List X) → l ≡ [] → Contains l x → ⊥
none_listed {X = X} x l empty there = let t : Contains [] x = subst (λ (m : List X). Contains m x) empty there in let (k, below, is) = t in absurd (omega arith)

pub loop-slot-preserved : goal.loop-slot-preserved
loop-slot-preserved c =
    let steps = c.in-Some.ensures.steps in
    let prog = c.args.program.now in
    let start = c.args.start in
    let limit = c.args.limit in
    let at = c.in-Some._slot in
    let it = c.in-Some.node.now in
    let old = c.loop-slot.taken in
    let new = c.with_frame-taken.result in
    let with = c.with_frame-taken.ensures in
    let was = c.loop-slot.invariant in
    let stands = was.listed at it (first_listed (at, it) c.next.new.self c.loop-slot._slot-iterator steps) in
    let down = with.from_down in
    let up = with.to_up in
    let low = was.low in
    let high = was.high in
    record {
      can_next = tt;
      is_finite = tt;
      listed = λ slot node there. was.listed slot node (subst (λ (l : List (ℕ × Node Activation)). listed_in l slot node) (sym steps) (Contains-cons (at, it) (slot, node) c.next.new.self there));
      remains = λ slot node there.
          elim (was.remains slot node there) [
            | inr done ↦ inr (covers_next prog start limit node.frame.frame it.frame.frame old new with done)
            | inl listed ↦ elim (Contains-cons_cases (at, it) (slot, node) c.next.new.self (subst (λ (l : List (ℕ × Node Activation)). listed_in l slot node) steps listed)) [
              | inl here ↦ inr (subst (λ (n : Node Activation). Covers prog start limit n.frame.frame new) (ap (λ p. p.1) here) with.covers)
              | inr there ↦ inl there
            ]
          ];
      low = omega (arith, down, low);
      high = omega (arith, up, high);
      from = from_next prog c.args.self.now start limit at it old new stands with was.from;
      to = to_next prog c.args.self.now start limit at it old new stands with was.to;
    }

pub returns : goal.returns
returns c =
    let was = c.loop-slot.invariant in
    record {
      low = was.low;
      high = was.high;
      covers = λ slot node stands. elim (was.remains slot node stands) [
        | inl listed ↦ absurd (none_listed (slot, node) c.loop-slot._slot-iterator c.in-None.ensures.steps.0 listed)
        | inr covered ↦ covered
      ];
      from = was.from;
      to = was.to;
    }
