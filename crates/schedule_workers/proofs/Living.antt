-- Frames that live, and hands that are as many as before.
use Rattle.std.proofs.Common.{◌≡◌, ◌≢◌, ℕ, ℤ, ◌+◌, ◌<◌, ◌++◌, List, drop, length, length-append, length-drop, length-set, length-take, take, Vec, Global, Option, Some, None, refl, sym, ◌∙◌, subst, arith}
use Rattle.std.specs.Prelude.{IsSome}
use Rattle.std.specs.Vec.{vec_len, with_item}
use Rattle.cactus.specs.declared.node.Node.{Node}
use Rattle.cactus.specs.Frames.{AddsChild, Frames, Lives, node_at}
use Rattle.schedule_workers.specs.declared.activation.Activation.{Activation}
use Rattle.schedule_workers.specs.declared.run.Block.{Block}
use Rattle.schedule_workers.specs.declared.run.Run.{Run}
use Rattle.schedule_workers.specs.Rooms.{IsRoom}
use Rattle.schedule_workers.proofs.Roomy.{vec_small}
use Rattle.schedule_workers.proofs.Uses.{not_both}

pub lives_at : (frames : Frames Activation) (slot : ℕ) (node : Node Activation) → node_at frames slot ≡ Some node → Lives frames slot
lives_at frames slot node stands = subst (λ (o : Option (Node Activation)). IsSome o) (sym stands) refl

-- above a new child
pub parent_lives : (old new : Frames Activation) (parent number child : ℕ) (a : Activation) → AddsChild old new parent number a child → Lives new parent
parent_lives old new parent number child a adds =
    let away : parent ≢ child = λ e. not_both old parent adds.above adds.stands (subst (λ s. node_at old s ≡ None) (sym e) adds.added.free) in
    lives_at new parent adds.above (adds.added.change.others parent away ∙ adds.stands)

pub as_many_hands : (hands : Vec (Option ℕ) Global) (worker : ℕ) (hand : Option ℕ) → length (with_item hands worker hand).items ≡ length hands.items
as_many_hands hands worker hand = length-set hands.items worker hand

pub room_small : (k : Run) (slot cells : ℕ) (b : Block) → IsRoom k slot cells b → b.start + b.cells < 9223372036854775808
room_small k slot cells b room = let within = room.within in let small = vec_small k.cells.cells in omega (arith, within, small)

pub room_there : (k : Run) (slot cells : ℕ) (b : Block) → IsRoom k slot cells b → slot < vec_len k.blocks
room_there k slot cells b room = subst (λ (n : ℕ). slot < n) (sym k.blocks.ok.0) room.there

-- where as many are written over the first ones
pub written_long : (v : Vec ℤ Global) (xs : List ℤ) → length xs ≡ length v.items → length (take v.len (xs ++ drop (length xs) v.items)) ≡ length v.items
written_long v xs same =
    let all = v.ok.0 in
    let took = length-take v.len (xs ++ drop (length xs) v.items) in
    let both = length-append xs (drop (length xs) v.items) in
    let rest = length-drop (length xs) v.items in
    omega (arith, same, all, took, both, rest)
