use Rattle.std.proofs.Common.{◌∙◌, ℕ, ℤ, subst, sym}
use Rattle.std.specs.Prelude.{IsTrue}
use Rattle.frame_engine.specs.Accesses.{Zeroed}
use Rattle.frame_engine.proofs.Going.{at_once, below_end}
use Rattle.std.specs.Int.{w64}
use mir.Val.{to_z}
use Rattle.frame_engine.proofs.Bits.{written}
use Rattle.frame_engine.proofs.Zeroing.{one_further, others_more, zeroed_more, zeros_more}
use Rattle.frame_engine.proofs.clearing.write_zeros.Goals as goal

pub loop-index-preserved : goal.loop-index-preserved
loop-index-preserved g c =
    let at = c.args.at.now in
    let next : ℤ = to_z w64 c.loop-index.next-bits in
    let e = c.loop-index.invariant.at in
    record {
      at = written c.behind-next.result c.behind-next.type_inv ∙ one_further at next c.behind-next.result c.loop-index._index e c.behind-next.ensures;
      zeros = zeros_more (g.C.Cells.holds c.loop-index.cells) (g.C.Cells.holds c.store.new.self) at next c.loop-index._index e c.in_ok-store.ensures.here c.in_ok-store.ensures.others c.loop-index.invariant.zeros;
      others = others_more (g.C.Cells.holds c.args.cells.now) (g.C.Cells.holds c.loop-index.cells) (g.C.Cells.holds c.store.new.self) at next c.loop-index._index e c.in_ok-store.ensures.others c.loop-index.invariant.others;
      zeroed = zeroed_more g.C.Cells.does at next c.loop-index._index c.args.cells.now c.loop-index.cells c.store.new.self e c.loop-index.invariant.zeroed c.in_ok-store.ensures.does;
      reaches = λ a h. c.in_ok-store.ensures.reaches a (c.loop-index.invariant.reaches a h);
    }

pub store-requires : goal.store-requires
store-requires g c =
    subst (λ (a : ℤ). IsTrue (g.C.Cells.reaches c.loop-index.cells a)) (sym c.loop-index.invariant.at) (c.loop-index.invariant.reaches _ (c.requires c.loop-index._index c.loop-index-test.true))

pub returns-clause-zeros : goal.returns-clause-zeros
returns-clause-zeros g c = λ i h. c.loop-index.invariant.zeros i (below_end i c.args.count c.loop-index._index h c.loop-index-test.false)

pub returns-clause-others : goal.returns-clause-others
returns-clause-others g c = λ a z held other. c.loop-index.invariant.others a z held (λ i h. other i (below_end i c.loop-index._index c.args.count h c.loop-index.auto._index-end))

pub returns-clause-reaches : goal.returns-clause-reaches
returns-clause-reaches g c = c.loop-index.invariant.reaches

pub returns-clause-zeroed : goal.returns-clause-zeroed
returns-clause-zeroed g c =
    subst (λ (n : ℕ). Zeroed g.C.Cells.does c.args.at.now c.args.cells.now n c.loop-index.cells) (at_once c.loop-index._index c.args.count c.loop-index.auto._index-end c.loop-index-test.false) c.loop-index.invariant.zeroed

pub returns-in_err-store-clause-reaches : goal.returns-in_err-store-clause-reaches
returns-in_err-store-clause-reaches g c = λ a h. c.in_err-store.ensures.reaches a (c.loop-index.invariant.reaches a h)
