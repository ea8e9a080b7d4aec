-- No frame is deeper than the peak.
use Rattle.std.proofs.Common.{◌≡◌, ℕ, suc, ◌+◌, ◌≤◌, max, ◌∷◌, length, Option, Some, inl, inr, sym, ap, ◌∙◌, arith}
use Rattle.semantics.specs.Paths.{Path}
use Rattle.semantics.specs.Frames.{Frame}
use Rattle.semantics.specs.State.{State, Change, apply}
use Rattle.semantics.specs.Tree.{Tree}
use Rattle.semantics.proofs.Places.{only_at, both_at, no_own_child}
use Rattle.semantics.proofs.Steps.{Does, plain, detach, reattach, sync, call, ret, end}
use Rattle.semantics.proofs.Diamond.{goes, spot}
use Rattle.semantics.proofs.TreeKept.{Origin, was, born, origin}
use Rattle.program.specs.declared.function.Program.{Program}

unfoldable pub Deep : State → Type 0
Deep s = (x : Path) (f : Frame) → s.frames x ≡ Some f → length x + 1 ≤ s.peak

-- the new frame of a step lies at the depth that the step notes
new_depth : {prog : Program} {s : State} {p : Path} {c : Change} → Does prog s p c → (k : ℕ) (x : Path) (o : Option Frame) → x ≡ k ∷ p → c.frames x ≡ Some o → length x + 1 ≤ c.depth
new_depth {p = p} (plain f e is go at) k x o here h = absurd (no_own_child k p (sym here ∙ (only_at p x _ o h).0))
new_depth {p = p} (detach f r b n is go at) k x o here h = let l : length x ≡ suc (length p) = ap length here in omega arith
new_depth {p = p} (reattach f r n is go at none role) k x o here h = absurd (no_own_child k p (sym here ∙ (only_at p x _ o h).0))
new_depth {p = p} (sync f r b rs is go at) k x o here h = absurd (no_own_child k p (sym here ∙ (only_at p x _ o h).0))
new_depth {p = p} (call f d g vs is go at) k x o here h = let l : length x ≡ suc (length p) = ap length here in omega arith
new_depth {p = p} (ret f v m above g j d is go at none role up over waits) k x o here h =
    elim (both_at p above x _ _ o h) [
      | inl e ↦ absurd (no_own_child k p (sym here ∙ e.0))
      | inr e ↦ absurd (let l : length x ≡ suc (length p) = ap length here in let m2 : length p ≡ suc (length above) = ap length up in let a2 : length x ≡ length above = ap length e.0 in omega arith)
    ]
new_depth {p = p} (end f v is go at none role up) k x o here h = absurd (no_own_child k p (sym here ∙ (only_at p x _ o h).0))

pub deep_kept : {prog : Program} (s : State) (p : Path) (c : Change) → Tree s → Does prog s p c → Deep s → Deep (apply c s)
unfolding Deep
deep_kept s p c tree dp deep x g now = from (origin s p c tree (goes dp) (spot tree dp) x g now)
  where
    from : Origin s p c tree (goes dp) (spot tree dp) x g → length x + 1 ≤ max s.peak c.depth
    from (was f old role) = let d : length x + 1 ≤ s.peak = deep x f old in omega arith
    from (born k h there here up made free calls2) = let d : length x + 1 ≤ c.depth = new_depth dp k x (Some g) here there in omega arith
