-- Edges with all that is known on them.
use Rattle.std.proofs.Common.{◌≡◌, ◌∙◌, ℕ, ◌+◌, ◌<◌, List, [], ◌∷◌, ◌++◌, length, take, Some, ◌≤◌, get_or, map, Option, refl, sym, ap, subst, arith}
use Rattle.std.specs.List.{Any}
use Rattle.std.specs.Prelude.{slice_get}
use Rattle.std.proofs.lemmas.Option.{slice_get_read, slice_get_past}
use Rattle.std.proofs.lemmas.List.{get_or-map, get_or_default, length-map, map-append, take_more}
use Rattle.linear.specs.declared.form.Fact.{Fact}
use Rattle.refusal.specs.declared.broken.Broken.{Broken}
use Rattle.refusal.specs.Earliest.{IsEarliest}
use Rattle.refusal.proofs.Elements.{earliest_same}
use Rattle.ranges.specs.declared.table.EdgeFacts.{EdgeFacts}
use Rattle.program.specs.Blocks.{block_phis}
use Rattle.program.specs.declared.function.Block.{Block}
use Rattle.ranges_owed.specs.cfg.declared.structure.Move.{Move}
use Rattle.ranges_owed.specs.cfg.Edges.{moves_from}
use Rattle.ranges.specs.declared.edge.EdgeSums.{EdgeSums}
use Rattle.ranges.specs.Sums.{facts_of}
use Rattle.ranges.specs.Edges.{edge_facts}
use Rattle.ranges.specs.Tables.{with_known, all_with_known}

any_to : {X Y : Type 0} (f : X → Y) (P : Y → Type 0) (xs : List X) → Any (λ x. P (f x)) xs → Any P (map f xs)
any_to f P xs (i, x, l, is, p) = (i, f x, rw (length-map xs f) l, get_or-map f xs i x (f x) l ∙ ap f is, p)

any_from : {X Y : Type 0} (f : X → Y) (P : Y → Type 0) (xs : List X) → Any P (map f xs) → Any (λ x. P (f x)) xs
any_from f P [] (i, y, l, is, p) = absurd (omega (arith, l))
any_from f P (x ∷ xs) (i, y, l, is, p) =
    let within : i < length (x ∷ xs) = rw (length-map (x ∷ xs) f) at l in
    let e = get_or (x ∷ xs) i x in
    (i, e, within, get_or_default (x ∷ xs) i e x within, subst P (sym is ∙ get_or-map f (x ∷ xs) i x y within) p)

-- what is named of edges with what is known at the end of their block
pub earliest_known : (known : List Fact) (P : EdgeFacts → Broken → Type 0) (edges : List EdgeFacts) (r : Option Broken) →
    IsEarliest (λ b. Any (λ e. P (with_known known e) b) edges) r → IsEarliest (λ b. Any (λ e. P e b) (all_with_known known edges)) r
earliest_known known P edges r named =
    earliest_same _ _ r (λ b any. any_to (with_known known) (λ e. P e b) edges any) (λ b any. any_from (with_known known) (λ e. P e b) edges any) named

-- one more element of each list
pub mapped_alike : {X Y Z : Type 0} (f : X → Z) (g : Y → Z) (xs : List X) (x : X) (ys : List Y) (i : ℕ) (d : Y) → i < length ys → map f xs ≡ map g (take i ys) → f x ≡ g (get_or ys i d) → map f (xs ++ x ∷ []) ≡ map g (take (i + 1) ys)
mapped_alike f g xs x ys i d within before own = rw (map-append f xs (x ∷ []), own, before, take_more ys i d within, map-append g (take i ys) (get_or ys i d ∷ [])) refl

-- an edge that has the moves of its target's phis and the facts of its sums
edge_made : (blocks : List Block) (from : ℕ) (known : List Fact) (e : EdgeSums) (moves : List Move) (facts : List Fact) → moves ≡ moves_from from (block_phis (slice_get blocks e.to.0)) → facts ≡ facts_of e.sums →
    with_known known (record { to = e.to; way = e.way; moves = moves; facts = facts }) ≡ edge_facts blocks from known e
edge_made blocks from known e moves facts is_moves is_facts = rw (is_moves, is_facts) refl

pub edge_made_inside : (blocks : List Block) (from : ℕ) (known : List Fact) (e : EdgeSums) (moves : List Move) (facts : List Fact) (target : Block) → e.to.0 < length blocks → ((d : Block) → target ≡ get_or blocks e.to.0 d) → moves ≡ moves_from from target.phis → facts ≡ facts_of e.sums →
    with_known known (record { to = e.to; way = e.way; moves = moves; facts = facts }) ≡ edge_facts blocks from known e
edge_made_inside blocks from known e moves facts target within is is_moves is_facts = edge_made blocks from known e moves facts (rw there is_moves) is_facts
  where
    there : slice_get blocks e.to.0 ≡ Some target
    there = slice_get_read blocks (length blocks) e.to.0 target refl within (is target)

pub edge_made_past : (blocks : List Block) (from : ℕ) (known : List Fact) (e : EdgeSums) (moves : List Move) (facts : List Fact) → length blocks ≤ e.to.0 → moves ≡ [] → facts ≡ facts_of e.sums →
    with_known known (record { to = e.to; way = e.way; moves = moves; facts = facts }) ≡ edge_facts blocks from known e
edge_made_past blocks from known e moves facts past is_moves is_facts = edge_made blocks from known e moves facts (rw (slice_get_past blocks e.to.0 past) is_moves) is_facts
