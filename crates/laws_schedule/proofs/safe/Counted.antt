-- Places, children made and frames above are no more than the instructions done.
use Rattle.std.proofs.Common.{◌≡◌, ℕ, suc, ◌≤◌, length, None, arith}
use Rattle.semantics.specs.Paths.{Path}
use Rattle.semantics.specs.Frames.{Frame}
use Rattle.semantics.specs.State.{State, Change, apply}
use Rattle.semantics.proofs.Steps.{Does}
use Rattle.program.specs.declared.function.Program.{Program}
use Rattle.laws_conditions.specs.rules.InProofs.{Moves, is_next, is_along}
use Rattle.laws_conditions.proofs.rules.Moves.{moves}
use Rattle.laws_schedule.specs.safe.Kept.{OfAll, IsWithin, FramesAreCounted}
use Rattle.laws_schedule.proofs.safe.Everywhere.{of_first}
use Rattle.laws_schedule.proofs.safe.Made.{PassesOn, all_after}
use Rattle.laws_schedule.proofs.safe.Replayed.{replay_good}

next_within : (a b n : ℕ) → a ≡ suc b → b ≤ n → a ≤ suc n
next_within a b n e h = omega (arith, e, h)

at_zero : (a n : ℕ) → a ≡ 0 → a ≤ n
at_zero a n e = omega (arith, e)

zero_within : (n : ℕ) → 0 ≤ n
zero_within n = omega arith

more : (a n : ℕ) → a ≤ n → a ≤ suc n
more a n h = omega (arith, h)

one_more : (a n : ℕ) → a ≤ n → suc a ≤ suc n
one_more a n h = omega (arith, h)

module _ (prog : Program) (s : State) (p : Path) where
  abbrev before : Path → Frame → Type 0
  before = IsWithin s.done

  abbrev after : Path → Frame → Type 0
  after = IsWithin (suc s.done)

  by_moves : (f : Frame) (e : _) → Moves prog f e → f.index ≤ s.done → e.index ≤ suc s.done
  by_moves f e (is_next i at on) h = next_within e.index f.index s.done on.index h
  by_moves f e (is_along t at to on) h = at_zero e.index (suc s.done) on.index

  counted_on : PassesOn prog s p before after
  counted_on = record {
    stays = λ x g is h. record { index = more _ _ h.index; made = more _ _ h.made; depth = more _ _ h.depth };
    plain = λ f e is h going at fine. record { index = by_moves f e (moves prog p f s.memory e at fine) h.index; made = more _ _ h.made; depth = more _ _ h.depth };
    child = λ f r b n is h going at. record { index = zero_within _; made = zero_within _; depth = one_more (length p) s.done h.depth };
    continues = λ f r b n is h going at. record { index = zero_within _; made = one_more f.made s.done h.made; depth = more _ _ h.depth };
    syncs = λ f r b rs is h going at. record { index = zero_within _; made = more _ _ h.made; depth = more _ _ h.depth };
    callee = λ f d g vs is h going at. record { index = zero_within _; made = zero_within _; depth = one_more (length p) s.done h.depth };
    waits = λ f d g vs is h going at. record { index = one_more f.index s.done h.index; made = one_more f.made s.done h.made; depth = more _ _ h.depth };
    resumes = λ x g k d result is h waits. record { index = more _ _ h.index; made = more _ _ h.made; depth = more _ _ h.depth };
  }

  pub step_counted : (c : Change) → Does prog s p c → c.trap ≡ None → OfAll s (IsWithin s.done) → OfAll (apply c s) (IsWithin (apply c s).done)
  step_counted c does fine all = all_after prog s p before after counted_on all c does fine

pub frames_are_counted : FramesAreCounted
frames_are_counted prog arguments memory workers never events =
    replay_good prog workers (λ s. OfAll s (IsWithin s.done)) (step_counted prog) events _ never
    (of_first prog arguments memory (IsWithin 0) (record { index = zero_within 0; made = zero_within 0; depth = zero_within 0 }))
