use Rattle.std.proofs.Common.{◌≡◌, ℕ, ◌<◌, false}
use Rattle.cfg.specs.Paths.{edges_of}
use Rattle.cfg.specs.Rules.{leads_to}
use Rattle.cfg.proofs.judge.is_followed.Given as goal

abbrev pub invariant-loop-body : goal.invariant-loop-body
invariant-loop-body l = (a : ℕ) → a < l.body-index → leads_to l.block (edges_of l.blocks a) ≡ false
