use Rattle.std.proofs.Common.{◌≡◌, true}
use Rattle.refusal.specs.Earliest.{IsEarliest}
use Rattle.definedness.specs.declared.act.BlockActs.{BlockActs}
use Rattle.definedness.specs.Needs.{IsBlockBroken}
use Rattle.definedness.specs.Marks.{mark_at}
use Rattle.refusal.proofs.Places.{Below}
use Rattle.definedness.proofs.judge.table_fault.Given as goal

abbrev pub invariant-loop-index : goal.invariant-loop-index
invariant-loop-index l = IsEarliest (Below (λ b (block : BlockActs). IsBlockBroken (λ n. mark_at l.rows n b ≡ true) l.rule block.acts) l.table l.index) l.named
