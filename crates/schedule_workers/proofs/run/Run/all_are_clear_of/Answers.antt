use Rattle.std.proofs.Common.{arith, ◌≡◌, ℕ, List, [], ◌∷◌, Contains, refl, sym, ap, subst, ◌∙◌, inl, inr}
use Rattle.std.specs.Prelude.{true, false}
use Rattle.slab.specs.Slab.{entries_from}
use Rattle.slab.proofs.SlabLemmas.{Contains-entries, Contains-cons, Contains-cons_cases}
use Rattle.cactus.specs.declared.node.Node.{Node}
use Rattle.schedule_workers.specs.declared.activation.Activation.{Activation}
use Rattle.schedule_workers.specs.Lent.{IsClearOf}
use Rattle.schedule_workers.proofs.run.Run.all_are_clear_of.Goals as goal

abbrev listed_in : List (ℕ × Node Activation) → ℕ → Node Activation → Type 0
listed_in l slot node = Contains l (slot, node)

pub loop-slot-init : goal.loop-slot-init
loop-slot-init c =
    let frames = c.args.self.now.cactus in
    let items : c.into_iter-slot-iterator.result ≡ entries_from 0 frames.nodes = c.into_iter-slot-iterator.ensures.into_iter_gives ∙ c.iter-slot-items.ensures in
    record {
      can_next = tt;
      is_finite = tt;
      listed = λ slot node there. (Contains-entries (record { slots = frames.nodes; vacant_key = 0; capacity = 0 }) slot node).0 (subst (λ (l : List (ℕ × Node Activation)). listed_in l slot node) items there);
      remains = λ slot node stands. inl (subst (λ (l : List (ℕ × Node Activation)). listed_in l slot node) (sym items) ((Contains-entries (record { slots = frames.nodes; vacant_key = 0; capacity = 0 }) slot node).1 stands));
    }

-- where no function has allocas, no frame has
pub returns-then-needs_no_allocas : goal.returns-then-needs_no_allocas
returns-then-needs_no_allocas c = (
  (λ yes slot node stands body some. absurd (let none = c.needs_no_allocas.ensures c.if-needs_no_allocas.true node.frame.frame.function.0 in omega (arith, some, none))),
  λ all. refl,
)

first_listed : {X : Type 0} (x : X) (rest all : List X) → all ≡ x ∷ rest → Contains all x
first_listed x rest all is = rw is (0, omega arith, refl)

none_listed : {X : Type 0} (x : X) (l : List X) → l ≡ [] → Contains l x → ⊥
none_listed {X = X} x l empty there = let t : Contains [] x = subst (λ (m : List X). Contains m x) empty there in let (k, below, is) = t in absurd (omega arith)

pub loop-slot-preserved : goal.loop-slot-preserved
loop-slot-preserved c =
    let steps = c.in-Some.ensures.steps in
    let clear : IsClearOf c.args.program.now c.args.part c.in-Some.node.now.frame.frame = c.is_clear_of.ensures.0 c.if-not-is_clear_of.false in
    record {
      can_next = tt;
      is_finite = tt;
      listed = λ slot node there. c.loop-slot.invariant.listed slot node (subst (λ (l : List (ℕ × Node Activation)). listed_in l slot node) (sym steps) (Contains-cons (c.in-Some._slot, c.in-Some.node.now) (slot, node) c.next.new.self there));
      remains = λ slot node stands.
          elim (c.loop-slot.invariant.remains slot node stands) [
            | inr done ↦ inr done
            | inl listed ↦ elim (Contains-cons_cases (c.in-Some._slot, c.in-Some.node.now) (slot, node) c.next.new.self (subst (λ (l : List (ℕ × Node Activation)). listed_in l slot node) steps listed)) [
              | inl here ↦ inr (subst (λ (n : Node Activation). IsClearOf c.args.program.now c.args.part n.frame.frame) (ap (λ p. p.1) here) clear)
              | inr there ↦ inl there
            ]
          ];
    }

pub returns-then-not-is_clear_of : goal.returns-then-not-is_clear_of
returns-then-not-is_clear_of c = (
  (λ no. absurd (let e : false ≡ true = no in cc)),
  λ all.
      let listed = first_listed (c.in-Some._slot, c.in-Some.node.now) c.next.new.self c.loop-slot._slot-iterator c.in-Some.ensures.steps in
      let stands = c.loop-slot.invariant.listed c.in-Some._slot c.in-Some.node.now listed in
      let yes : c.is_clear_of.result ≡ true = c.is_clear_of.ensures.1 (all c.in-Some._slot c.in-Some.node.now stands) in
      let no = c.if-not-is_clear_of.true in
      absurd (let e : false ≡ true = sym no ∙ yes in cc),
)

pub returns : goal.returns
returns c = (
  (λ yes slot node stands. elim (c.loop-slot.invariant.remains slot node stands) [
    | inl listed ↦ absurd (none_listed (slot, node) c.loop-slot._slot-iterator c.in-None.ensures.steps.0 listed)
    | inr clear ↦ clear
  ]),
  λ all. refl,
)
