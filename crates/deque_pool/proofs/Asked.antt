-- The gate of a run of one worker alone was asked before each strand.
use Rattle.std.proofs.Common.{◌≡◌, ℕ, ◌+◌, ◌*◌, ◌<◌, ◌≤◌, arith, below_more, min, subst, Option, Some}
use Rattle.std.specs.Prelude.{Result, Ok, Err, IfOk, IfSome}
use Rattle.shared_run.specs.store.declared.outcome.Finished.{Finished}
use Rattle.shared_run.specs.store.declared.outcome.RunFault.{RunFault}
use Rattle.deque_pool.specs.declared.gate.Go.{Go}
use Rattle.deque_pool.specs.declared.gate.Go.TheVariants.{On}
use Rattle.deque_pool.specs.Gates.{LetsOn, WasAsked}

module _ (says : ℕ → ℕ → Go → Type 0) where
  -- where the gate is not to be called each call counts as answered
  pub asked_whole : ((worker strand : ℕ) → says worker strand On) → (result : Result Finished RunFault) → IfOk result (λ done. WasAsked says done.instructions)
  asked_whole always (Ok done) = (done.instructions, (let n : ℕ = done.instructions in omega arith), λ n low. always 0 n)
  asked_whole always (Err fault) = tt

  pub let_on : (strands : ℕ) → LetsOn says strands → says 0 strands On → LetsOn says (strands + 1)
  let_on strands before on = below_more (λ n. says 0 n On) strands before on

  -- the run has ended in the strand behind these
  pub last_asked : (strands old : ℕ) (end : Option Finished) (done : Finished) → end ≡ Some done → IfSome end (λ f. f.instructions ≤ old + 65537) →
      old ≤ strands * 65537 → LetsOn says strands → says 0 strands On → WasAsked says done.instructions
  last_asked strands old end done is last enough before on =
      let few : done.instructions ≤ old + 65537 = subst (λ (x : Option Finished). IfSome x (λ f. f.instructions ≤ old + 65537)) is last in
      (strands + 1, omega (arith, few, enough), let_on strands before on)

-- the number of strands has room
pub counted : (strands next old new : ℕ) → next ≡ min (strands + 1) 18446744073709551615 → strands ≤ old → old < new → new < 18446744073709551616 → next ≡ strands + 1
counted strands next old new is few more room = omega (arith, is)
