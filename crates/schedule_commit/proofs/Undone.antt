-- What the run is once a strand that a border refused is taken back.
use Rattle.std.proofs.Common.{◌≡◌, ◌≢◌, ℕ, zero, suc, List, ℤ, refl, sym, ◌∙◌, subst}
use Rattle.frame_strand.specs.declared.outside.FrameStrand.{FrameStrand}
use Rattle.schedule_workers.specs.Rooms.{IsRoomier}
use Rattle.schedule_workers.specs.declared.run.Run.{Run}
use Rattle.schedule_commit.specs.TakingBack.{WasPut}

pub roomier_after : (before between late new : Run) (slot : ℕ) (x : FrameStrand) (numbers : List ℤ) → (x.course.done ≡ 0 → between ≡ before) → IsRoomier between late →
    (x.course.done ≢ 0 → WasPut before late slot x numbers) → (x.course.done ≡ 0 → new ≡ late) → (x.course.done ≢ 0 → (k : Run) → WasPut k late slot x numbers → IsRoomier k new) → IsRoomier before new
roomier_after before between late new slot x numbers left refused was same back = from x.course.done refl
  where
    from : (n : ℕ) → x.course.done ≡ n → IsRoomier before new
    from zero is = subst (λ (k : Run). IsRoomier before k) (sym (same is)) (subst (λ (k : Run). IsRoomier k late) (left is) refused)
    from (suc n) is = let more : x.course.done ≢ 0 = λ e. (let h : suc n ≡ 0 = sym is ∙ e in cc) in back more before (was more)
