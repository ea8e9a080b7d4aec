-- What is taken of a piece, with a frame's allocas.
use Rattle.std.proofs.Common.{◌≡◌, ℕ, ◌≤◌, min, max, ◌⊎◌, inl, inr, refl, arith}
use Rattle.std.proofs.lemmas.Bool.Decides.{leb_tells}
use Rattle.program.specs.declared.function.Program.{Program}
use Rattle.frame_engine.specs.declared.activation.Frame.{Frame}
use Rattle.schedule_workers.specs.declared.pieces.Taken.{Taken}
use Rattle.schedule_workers.specs.Lent.{own_block}
use Rattle.schedule_workers.specs.Pieces.{IsWithFrame, Touches, own_end}

module _ (prog : Program) (start limit : ℕ) (f : Frame) (old : Taken) where
  pub untouched : (Touches prog start limit f → ⊥) → IsWithFrame prog start limit f old old
  untouched no_touch = record {
    from_down = omega arith;
    to_up = omega arith;
    covers = λ t. absurd (no_touch t);
    from = inl refl;
    to = inl refl;
  }

  -- the frame ends where it begins, or before the start
  pub beside : (end : ℕ) → end ≡ own_end prog f → (end ≤ (own_block prog f).start) ⊎ (end ≤ start) → Touches prog start limit f → ⊥
  beside end is (inl none) t = let some = t.some in omega (arith, is, none, some)
  beside end is (inr before) t = let behind = t.behind in omega (arith, is, before, behind)

  module _ (touches : Touches prog start limit f) (stop from to : ℕ) (from_is : from ≡ min old.from (own_block prog f).start) (to_is : to ≡ max old.to stop) (most : stop ≤ own_end prog f) (all : (own_end prog f ≤ stop) ⊎ (limit ≤ stop)) where
    lowest : (from ≡ old.from) ⊎ (Touches prog start limit f × (from ≡ (own_block prog f).start))
    lowest =
        elim (leb_tells old.from (own_block prog f).start) [
          | inl h ↦ let low = h.1 in inl (omega (arith, from_is, low))
          | inr h ↦ let low = h.1 in inr (touches, omega (arith, from_is, low))
        ]

    highest : (to ≡ old.to) ⊎ (Touches prog start limit f × (to ≤ own_end prog f))
    highest =
        elim (leb_tells stop old.to) [
          | inl h ↦ let low = h.1 in inl (omega (arith, to_is, low))
          | inr h ↦ let low = h.1 in inr (touches, omega (arith, to_is, low, most))
        ]

    reached : (own_end prog f ≤ to) ⊎ (limit ≤ to)
    reached =
        elim all [
          | inl h ↦ inl (omega (arith, to_is, h))
          | inr h ↦ inr (omega (arith, to_is, h))
        ]

    pub with_own : IsWithFrame prog start limit f old (record { from = from; to = to })
    with_own = record {
      from_down = omega (arith, from_is);
      to_up = omega (arith, to_is);
      covers = λ t. (omega (arith, from_is), reached);
      from = lowest;
      to = highest;
    }
