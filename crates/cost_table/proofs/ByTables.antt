-- What is broken, by the tables of facts.
use Rattle.std.proofs.Common.{ℕ, List, Option, inl, inr, sym, subst, ⊎_elim}
use Rattle.linear.specs.declared.form.Fact.{Fact}
use Rattle.program.specs.declared.function.Block.{Block}
use Rattle.program.specs.declared.function.Function.{Function}
use Rattle.refusal.specs.declared.broken.Broken.{Broken}
use Rattle.refusal.specs.Earliest.{IsEarliest}
use Rattle.refusal.proofs.Elements.{earliest_same}
use Rattle.ranges.specs.declared.table.BlockFacts.{BlockFacts}
use Rattle.ranges.specs.declared.table.EdgeFacts.{EdgeFacts}
use Rattle.ranges.specs.Places.{start_facts, facts_at_step, facts_at_end, edges_known}
use Rattle.ranges.specs.Tables.{IsBlockTable, facts_in_table, edges_in_table}
use Rattle.cost_table.specs.Rules.{IsCallNotFalling, AreStepsNotFalling, IsEndingUncovered, IsBlockBrokenBy, IsBlockBroken}

module _ (functions : List Function) (function : Function) (f b : ℕ) (block : Block) (table : BlockFacts) (t : IsBlockTable functions function b block table) (broken : Broken) where
  steps_to : AreStepsNotFalling function f block (facts_in_table table) broken → AreStepsNotFalling function f block (facts_at_step functions function b block) broken
  steps_to s = (s.0, s.1, s.2, subst (λ (fs : List Fact). IsCallNotFalling function f s.1.line fs s.1.instruction broken) (t.at_step s.0 s.1 s.2) s.3)

  steps_from : AreStepsNotFalling function f block (facts_at_step functions function b block) broken → AreStepsNotFalling function f block (facts_in_table table) broken
  steps_from s = (s.0, s.1, s.2, subst (λ (fs : List Fact). IsCallNotFalling function f s.1.line fs s.1.instruction broken) (sym (t.at_step s.0 s.1 s.2)) s.3)

  end_to : IsEndingUncovered functions function f block table.facts (edges_in_table table) block.ending broken → IsEndingUncovered functions function f block (facts_at_end functions function b block) (edges_known functions function b block block.ending) block.ending broken
  end_to e =
      subst (λ (es : List EdgeFacts). IsEndingUncovered functions function f block (facts_at_end functions function b block) es block.ending broken) t.edges
      (subst (λ (fs : List Fact). IsEndingUncovered functions function f block fs (edges_in_table table) block.ending broken) t.at_end e)

  end_from : IsEndingUncovered functions function f block (facts_at_end functions function b block) (edges_known functions function b block block.ending) block.ending broken → IsEndingUncovered functions function f block table.facts (edges_in_table table) block.ending broken
  end_from e =
      subst (λ (fs : List Fact). IsEndingUncovered functions function f block fs (edges_in_table table) block.ending broken) (sym t.at_end)
      (subst (λ (es : List EdgeFacts). IsEndingUncovered functions function f block (facts_at_end functions function b block) es block.ending broken) (sym t.edges) e)

  block_to : IsBlockBrokenBy functions function f block (start_facts function b block) (facts_in_table table) table.facts (edges_in_table table) broken → IsBlockBroken functions function f b block broken
  block_to p = ⊎_elim inl (λ q. inr (⊎_elim (λ e. inl (end_to e)) (λ s. inr (steps_to s)) q)) p

  block_from : IsBlockBroken functions function f b block broken → IsBlockBrokenBy functions function f block (start_facts function b block) (facts_in_table table) table.facts (edges_in_table table) broken
  block_from p = ⊎_elim inl (λ q. inr (⊎_elim (λ e. inl (end_from e)) (λ s. inr (steps_from s)) q)) p

-- what is broken in a block with what its table says is known there
pub block_by_table : (functions : List Function) (function : Function) (f b : ℕ) (block : Block) (table : BlockFacts) (r : Option Broken) → IsBlockTable functions function b block table →
    IsEarliest (IsBlockBrokenBy functions function f block (start_facts function b block) (facts_in_table table) table.facts (edges_in_table table)) r → IsEarliest (IsBlockBroken functions function f b block) r
block_by_table functions function f b block table r t j =
    earliest_same _ _ r (block_to functions function f b block table t) (block_from functions function f b block table t) j
