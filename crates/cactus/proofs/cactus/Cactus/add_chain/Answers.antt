use Rattle.std.proofs.Common.{◌≡◌, ◌+◌, ◌≤◌, ◌<◌, ◌++◌, ◌∷◌, ◌∙◌, [], ℕ, List, Some, length, vec_capacity, refl, subst, sym, suc, ap, arith}
use Rattle.std.proofs.lemmas.List.{length-append}
use Rattle.std.specs.Vec.Iter.{into_iter_items, into_iter_len}
use Rattle.slab.specs.Slab.{slab_len}
use Rattle.cactus.specs.Frames.{Frames}
use Rattle.cactus.specs.Chain.{AddsUpTo}
use Rattle.cactus.proofs.Chains.{chain_next, chain_whole, chained}
use Rattle.cactus.proofs.cactus.Cactus.add_chain.Goals as goal

fits_more : (slots more : List ℕ) (top rest left capacity after : ℕ) → more ≡ slots ++ top ∷ [] → left ≡ suc rest → after ≡ capacity → length slots + left ≤ capacity → length more + rest ≤ after
fits_more slots more top rest left capacity after is one same fits =
    let long : length more ≡ length slots + 1 = ap (λ (xs : List ℕ). length xs) is ∙ length-append slots (top ∷ []) in
    omega (arith, long, one, same, fits)

pub loop-link-preserved : goal.loop-link-preserved
loop-link-preserved g c =
    let l = c.loop-link in
    let i = l.invariant in
    let made = c.insert_reserved-top in
    let pushed = c.push_reserved in
    let mid : Frames g.row.F.Denot = record { nodes = l.self-inside.nodes.slots; made = l.self-inside.made } in
    let new : Frames g.row.F.Denot = record { nodes = made.new.self.slots; made = l.self-inside.made + 1 } in
    let fits : slab_len l.self-inside.nodes + length (into_iter_items l.link-iterator) ≤ made.new.self.capacity = (let a = made.ensures.capacity in let b = i.3 in omega (arith, a, b)) in
    let (whole, many, chain, room, low) = chain_next c.args.self.now mid new c.args.parent l.top made.result l.yielded (into_iter_items l.link-iterator) (into_iter_items c.next.new.self) c.args.links.items
    l.slots.items c.in-Some.link made.new.self.capacity 9223372036854775808 (slab_len l.self-inside.nodes) (slab_len made.new.self) (into_iter_len l.link-iterator) (into_iter_len c.next.new.self)
    i.0 i.1 i.2 fits i.4 c.in-Some.ensures.steps.0 c.in-Some.ensures.steps.1
    (record { free = made.ensures.was_vacant; made = refl; change = record { changed = made.ensures.updates.changed; others = made.ensures.updates.others } })
    made.ensures.len in (
      whole,
      many,
      subst (λ (xs : List ℕ). AddsUpTo c.args.self.now new c.args.parent (l.yielded ++ c.in-Some.link ∷ []) xs made.result) (sym pushed.ensures.items) chain,
      room,
      low,
      fits_more l.slots.items pushed.new.self.items made.result (length (into_iter_items c.next.new.self)) (length (into_iter_items l.link-iterator)) (vec_capacity l.slots) (vec_capacity pushed.new.self)
          pushed.ensures.items (ap (λ xs. length xs) c.in-Some.ensures.steps.0) pushed.ensures.capacity i.5,
    )

pub returns-clause-ok : goal.returns-clause-ok
returns-clause-ok g c =
    let l = c.loop-link in
    let i = l.invariant in (
      l.top,
      chain_whole c.args.self.now (record { nodes = l.self-inside.nodes.slots; made = l.self-inside.made }) c.args.parent l.top l.yielded (into_iter_items l.link-iterator) c.args.links.items l.slots.items
          i.0 (sym i.1 ∙ c.in-None.ensures.steps.0) i.2,
    )

pub returns-clause-map : goal.returns-clause-map
returns-clause-map g c =
    let l = c.loop-link in
    let i = l.invariant in
    let new : Frames g.row.F.Denot = record { nodes = l.self-inside.nodes.slots; made = l.self-inside.made } in
    chained c.args.links.items l.slots.items c.args.self.now new c.args.parent l.top
    (chain_whole c.args.self.now new c.args.parent l.top l.yielded (into_iter_items l.link-iterator) c.args.links.items l.slots.items i.0 (sym i.1 ∙ c.in-None.ensures.steps.0) i.2)
