-- Frames stay in their uses of slots over a commit, and those that it makes are new uses.
use Rattle.std.proofs.Common.{◌≡◌, ◌∙◌, ◌<◌, ◌≤◌, ℕ, List, [], ◌∷◌, Option, Some, None, ◌⊎◌, inl, inr, refl, sym, ap, arith}
use Rattle.std.proofs.lemmas.Bool.Decides.{eqb_tells}
use Rattle.std.proofs.lemmas.Option.{same_Some}
use Rattle.cactus.specs.declared.node.Link.{Link}
use Rattle.cactus.specs.declared.node.Node.{Node}
use Rattle.cactus.specs.Frames.{Frames, frame_at, node_at}
use Rattle.cactus.specs.Chain.{AddsUpTo}
use Rattle.cactus.specs.Lending.{with_frame}
use Rattle.schedule_workers.specs.declared.activation.Activation.{Activation}
use Rattle.schedule_workers.specs.Follows.{Follows, IsSameUse, KeepsUses}
use Rattle.schedule_workers.proofs.Uses.{follows_kept, kept_uses, same_uses, written_uses}
use Rattle.schedule_commit.specs.strands.Committing.{linked_up, under, under_at, waiting_at}
use Rattle.schedule_commit.proofs.strands.Stood.{chain_free, chain_made, chain_out, out_of_free}

-- a use of a slot that was free
record IsFresh (old new : Frames Activation) (z : ℕ) (n : Node Activation) : Type 0 where
  free : node_at old z ≡ None
  least : old.made ≤ n.generation
  below : n.generation < new.made

fresh_or : (links : List (Link Activation)) (slots : List ℕ) (old new : Frames Activation) (parent top : ℕ) → AddsUpTo old new parent links slots top → (z : ℕ) (n : Node Activation) → node_at new z ≡ Some n →
    (node_at old z ≡ Some n) ⊎ IsFresh old new z n
fresh_or [] [] old new parent top adds z n stands = inl (ap (λ (f : Frames Activation). node_at f z) (sym adds.0) ∙ stands)
fresh_or [] (s ∷ slots) old new parent top adds z n stands = absurd adds
fresh_or (l ∷ links) [] old new parent top adds z n stands = absurd adds
fresh_or (l ∷ links) (s ∷ slots) old new parent top (mid, one, rest) z n stands =
    let made = one.made in
    let grown = chain_made links slots mid new s top rest in
    elim (fresh_or links slots mid new s top rest z n stands) [
      | inl was ↦ elim (eqb_tells z s) [
        | inl e ↦
            let same : record { generation = old.made; path = l.path; parent = Some parent; frame = l.frame } ≡ n = same_Some _ n (sym one.change.changed ∙ (ap (node_at mid) (sym e.1) ∙ was)) in
            let number : old.made ≡ n.generation = ap (λ (y : Node Activation). y.generation) same in
            inr (record { free = ap (node_at old) e.1 ∙ one.free; least = omega (arith, number); below = omega (arith, number, made, grown) })
        | inr e ↦ inl (sym (one.change.others z e.1) ∙ was)
      ]
      | inr fresh ↦
          let low = fresh.least in
          let high = fresh.below in
          inr (record {
            free = elim (eqb_tells z s) [ inl e ↦ ap (node_at old) e.1 ∙ one.free | inr e ↦ sym (one.change.others z e.1) ∙ fresh.free ];
            least = omega (arith, low, made);
            below = high;
          })
    ]

chain_follows : (links : List (Link Activation)) (slots : List ℕ) (old new : Frames Activation) (parent top : ℕ) → AddsUpTo old new parent links slots top → Follows old new
chain_follows links slots old new parent top adds = record {
  made = (let grown = chain_made links slots old new parent top adds in omega (arith, grown));
  uses = λ z n stands. elim (fresh_or links slots old new parent top adds z n stands) [
    | inl was ↦ inl (same z n was)
    | inr fresh ↦ inr (record {
      free = fresh.free;
      least = fresh.least;
      below = fresh.below;
      others = λ other was lived. record {
        there = was;
        stands = chain_out links slots old new parent top adds other (out_of_free old other was lived slots (chain_free links slots old new parent top adds)) ∙ lived;
        generation = refl;
        path = refl;
      };
    })
  ];
}
  where
    same : (z : ℕ) (n : Node Activation) → node_at old z ≡ Some n → IsSameUse old z n
    same z n was = record { there = n; stands = was; generation = refl; path = refl }

linked_uses : (frames : Frames Activation) (s : ℕ) (slots : List ℕ) → KeepsUses frames (linked_up frames s slots)
linked_uses frames s [] = same_uses frames
linked_uses frames s (c ∷ slots) = kept_uses frames (waiting_at frames s c) (linked_up (waiting_at frames s c) c slots) (by (frame_at frames s)) (linked_uses (waiting_at frames s c) c slots)
  where
    by : (o : Option Activation) → KeepsUses frames (under_at frames s c o)
    by None = same_uses frames
    by (Some a) = written_uses frames s (under c a)

pub commit_follows : (old mid : Frames Activation) (s : ℕ) (links : List (Link Activation)) (slots : List ℕ) (top : ℕ) (base : Activation) → AddsUpTo old mid s links slots top → Follows old (linked_up (with_frame mid s base) s slots)
commit_follows old mid s links slots top base adds =
    follows_kept old mid (linked_up (with_frame mid s base) s slots) (chain_follows links slots old mid s top adds)
    (kept_uses mid (with_frame mid s base) (linked_up (with_frame mid s base) s slots) (written_uses mid s base) (linked_uses (with_frame mid s base) s slots))
