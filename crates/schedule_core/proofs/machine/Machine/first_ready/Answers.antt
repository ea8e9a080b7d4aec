use Rattle.std.proofs.Common.{◌≡◌, ℕ, List, [], Contains, arith, inl, inr, sym, ap, subst, ◌∙◌}
use Rattle.std.specs.Option.{option_copied}
use Rattle.slab.specs.Slab.{entries_from}
use Rattle.slab.proofs.SlabLemmas.{Contains-cons_cases}
use Rattle.cactus.specs.declared.node.Node.{Node}
use Rattle.schedule_workers.specs.declared.activation.Activation.{Activation}
use Rattle.schedule_core.proofs.Firsts.{Covered, covered_next, found_next, least_found, listed_node, none_found}
use Rattle.schedule_core.proofs.machine.Machine.first_ready.Goals as goal

pub loop-slot-init : goal.loop-slot-init
loop-slot-init c =
    let items : c.into_iter-slot-iterator.result ≡ entries_from 0 c.args.self.now.stage.run.cactus.nodes = c.into_iter-slot-iterator.ensures.into_iter_gives ∙ c.iter-slot-items.ensures in
    record {
      can_next = tt;
      is_finite = tt;
      found = tt;
      remains = λ tree slot node stands. inl (subst (λ (l : List (ℕ × Node Activation)). Contains l (slot, node)) (sym items) (listed_node c.args.self.now.stage.run.cactus slot node stands));
    }

pub loop-slot-preserved : goal.loop-slot-preserved
loop-slot-preserved c =
    let steps = c.in-Some.ensures.steps in
    record {
      can_next = tt;
      is_finite = tt;
      found = found_next c.args.self.now.stage.run.cactus c.in-Some.slot (option_copied c.loop-slot.first) (option_copied c.first_of-first.result) c.first_of-first.ensures c.loop-slot.invariant.found;
      remains = λ tree slot node stands.
          elim (c.loop-slot.invariant.remains tree slot node stands) [
            | inr covered ↦ inr (covered_next c.args.self.now.stage.run.cactus c.in-Some.slot slot (option_copied c.loop-slot.first) (option_copied c.first_of-first.result) c.first_of-first.ensures covered)
            | inl listed ↦ elim (Contains-cons_cases (c.in-Some.slot, c.in-Some._node.now) (slot, node) c.next.new.self (subst (λ (l : List (ℕ × Node Activation)). Contains l (slot, node)) steps listed)) [
              | inl here ↦ inr (subst (λ x. Covered c.args.self.now.stage.run.cactus x (option_copied c.first_of-first.result)) (ap (λ p. p.0) here) (c.first_of-first.ensures.covers tree))
              | inr there ↦ inl there
            ]
          ];
    }

none_listed : {X : Type 0} (x : X) (l : List X) → l ≡ [] → Contains l x → ⊥
none_listed {X = X} x l empty there = let t : Contains [] x = subst (λ (m : List X). Contains m x) empty there in let (k, below, is) = t in absurd (omega arith)

pub returns-clause-least : goal.returns-clause-least
returns-clause-least c m state =
    least_found c.args.self.now.stage m state (option_copied c.loop-slot.first) c.loop-slot.invariant.found
    (λ tree slot node stands. elim (c.loop-slot.invariant.remains tree slot node stands) [ inl listed ↦ absurd (none_listed (slot, node) c.loop-slot.slot-iterator c.in-None.ensures.steps.0 listed) | inr covered ↦ covered ])

pub returns-clause-none : goal.returns-clause-none
returns-clause-none c m state =
    none_found c.args.self.now.stage m state (option_copied c.loop-slot.first)
    (λ tree slot node stands. elim (c.loop-slot.invariant.remains tree slot node stands) [ inl listed ↦ absurd (none_listed (slot, node) c.loop-slot.slot-iterator c.in-None.ensures.steps.0 listed) | inr covered ↦ covered ])
