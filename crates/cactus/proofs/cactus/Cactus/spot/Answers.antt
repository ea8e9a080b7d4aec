use Rattle.std.proofs.Common.{arith, ◌≡◌, ℕ, List, [], ◌∷◌, Some, Contains, refl, sym, ap, subst, ◌∙◌, inl, inr}
use Rattle.slab.specs.Slab.{entries, get}
use Rattle.slab.proofs.SlabLemmas.{Contains-entries, Contains-cons, Contains-cons_cases}
use Rattle.cactus.specs.declared.node.Node.{Node}
use Rattle.frame.specs.declared.path.Path.{Path}
use Rattle.cactus.specs.Frames.{Frames, node_at, HasPath}
use Rattle.cactus.proofs.FramesLemmas.{node_of_use-own}
use Rattle.cactus.proofs.ByPathLemmas.{named_is, not_named}
use Rattle.cactus.proofs.cactus.Cactus.spot.Goals as goal

pub loop-slot-init : goal.loop-slot-init
loop-slot-init g c =
    let items : c.into_iter-slot-iterator.result ≡ entries c.self.inside.nodes = c.into_iter-slot-iterator.ensures.into_iter_gives ∙ c.iter-slot-items.ensures.rest in
    let seen : (slot : ℕ) → node_at c.args.self.now slot ≡ get c.self.inside.nodes slot = λ slot. sym (ap (λ (f : Frames g.row.F.Denot). node_at f slot) c.self.view_is) in
    record {
      can_next = tt;
      is_finite = tt;
      listed = λ slot node there. seen slot ∙ (Contains-entries c.self.inside.nodes slot node).0 (subst (λ (l : List (ℕ × Node g.row.F.Denot)). Contains l (slot, node)) items there);
      remains = λ slot node stands same. subst (λ (l : List (ℕ × Node g.row.F.Denot)). Contains l (slot, node)) (sym items) ((Contains-entries c.self.inside.nodes slot node).1 (sym (seen slot) ∙ stands));
    }

has_path : {F : Type 0} (frames : Frames F) (slot : ℕ) (node : Node F) (path : Path) → node_at frames slot ≡ Some node → node.path.numbers ≡ path.numbers → HasPath frames slot node.generation path
has_path frames slot node path stands same = rw (node_of_use-own frames slot node stands) (ap (λ (n : List ℕ). record { numbers = n }) same)

first_listed : {X : Type 0} (x : X) (rest all : List X) → all ≡ x ∷ rest → Contains all x
first_listed x rest all is = rw is (0, omega arith, refl)

pub returns-then-has_path-clause-found : goal.returns-then-has_path-clause-found
returns-then-has_path-clause-found g c =
    let listed = first_listed (c.in-Some.slot, c.in-Some.node.now) c.next.new.self c.loop-slot.slot-iterator c.in-Some.ensures.steps in
    let stands : node_at c.args.self.now c.in-Some.slot ≡ Some c.in-Some.node.now = c.loop-slot.invariant.listed c.in-Some.slot c.in-Some.node.now listed in
    has_path c.args.self.now c.in-Some.slot c.in-Some.node.now c.args.path.now stands (c.has_path.ensures.0 c.if-has_path.true)

pub loop-slot-preserved : goal.loop-slot-preserved
loop-slot-preserved g c =
    let steps = c.in-Some.ensures.steps in
    record {
      can_next = tt;
      is_finite = tt;
      listed = λ slot node there. c.loop-slot.invariant.listed slot node (subst (λ (l : List (ℕ × Node g.row.F.Denot)). Contains l (slot, node)) (sym steps) (Contains-cons (c.in-Some.slot, c.in-Some.node.now) (slot, node) c.next.new.self there));
      remains = λ slot node stands same.
          elim (Contains-cons_cases (c.in-Some.slot, c.in-Some.node.now) (slot, node) c.next.new.self (subst (λ (l : List (ℕ × Node g.row.F.Denot)). Contains l (slot, node)) steps (c.loop-slot.invariant.remains slot node stands same))) [
            | inl here ↦
                let this : c.in-Some.node.now ≡ node = ap (λ p. p.1) here in
                let numbers : c.in-Some.node.now.path.numbers ≡ c.args.path.now.numbers = ap (λ (n : Node g.row.F.Denot). n.path.numbers) this ∙ ap (λ (p : Path). p.numbers) same in
                let yes = c.has_path.ensures.1 numbers in
                let no = c.if-has_path.false in
                absurd (cc)
            | inr there ↦ there
          ];
    }

pub returns-then-has_path-clause-map : goal.returns-then-has_path-clause-map
returns-then-has_path-clause-map g c tree =
    let listed = first_listed (c.in-Some.slot, c.in-Some.node.now) c.next.new.self c.loop-slot.slot-iterator c.in-Some.ensures.steps in
    let stands : node_at c.args.self.now c.in-Some.slot ≡ Some c.in-Some.node.now = c.loop-slot.invariant.listed c.in-Some.slot c.in-Some.node.now listed in
    node_of_use-own c.args.self.now c.in-Some.slot c.in-Some.node.now stands ∙ sym (named_is c.args.self.now tree c.in-Some.slot c.in-Some.node.now c.args.path.now.numbers stands (c.has_path.ensures.0 c.if-has_path.true))

none_listed : {X : Type 0} (x : X) (l : List X) → l ≡ [] → Contains l x → ⊥
none_listed {X = X} x l empty there = let t : Contains [] x = subst (λ (m : List X). Contains m x) empty there in let (k, below, is) = t in absurd (omega arith)

pub returns-clause-map : goal.returns-clause-map
returns-clause-map g c tree =
    sym (not_named c.args.self.now c.args.path.now.numbers (λ slot node stands same. none_listed (slot, node) c.loop-slot.slot-iterator c.in-None.ensures.steps.0 (c.loop-slot.invariant.remains slot node stands (ap (λ (n : List ℕ). record { numbers = n }) same))))
