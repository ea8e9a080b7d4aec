use Rattle.std.proofs.Common.{◌≡◌, ◌+◌, ◌≤◌, ◌<◌, ◌++◌, length, vec_capacity, ℕ}
use Rattle.std.specs.Vec.Iter.{into_iter_items, into_iter_len}
use Rattle.slab.specs.Slab.{slab_len}
use Rattle.cactus.specs.Chain.{AddsUpTo}
use Rattle.cactus.proofs.cactus.Cactus.add_chain.Given as goal

abbrev pub invariant-loop-link : goal.invariant-loop-link
invariant-loop-link g l =
    (l.yielded ++ into_iter_items l.link-iterator ≡ l.fn.links.items) ×
    (into_iter_len l.link-iterator ≡ length (into_iter_items l.link-iterator)) ×
    AddsUpTo l.fn.self (record { nodes = l.self-inside.nodes.slots; made = l.self-inside.made }) l.parent l.yielded l.slots.items l.top ×
    (slab_len l.self-inside.nodes + length (into_iter_items l.link-iterator) ≤ l.self-inside.nodes.capacity) ×
    (l.self-inside.made + length (into_iter_items l.link-iterator) < 9223372036854775808) ×
    (length l.slots.items + length (into_iter_items l.link-iterator) ≤ vec_capacity l.slots)
