use Rattle.std.proofs.Common.{◌∙◌, ℤ, pos, ◌+ℤ◌, ap, subst, below_more}
use Rattle.std.specs.Int.{w64}
use mir.Val.{to_z}
use Rattle.semantics.specs.Arithmetic.{wrapped}
use Rattle.syntax.specs.declared.operator.Width.TheVariants.{Bits64}
use Rattle.frame_engine.proofs.Bits.{written}
use Rattle.frame_engine.proofs.Zeroing.{one_further}
use Rattle.strand_pages.specs.Tables.{log_of}
use Rattle.strand_pages.proofs.Opening.{wider_on}
use Rattle.strand.specs.OwnCells.{CanStore}
use Rattle.strand.specs.declared.cells.StrandCells.{StrandCells}
use Rattle.strand.proofs.Opened.{still_can}
use Rattle.strand.proofs.cells.StrandCells.reserve.Goals as goal

pub loop-index-preserved : goal.loop-index-preserved
loop-index-preserved c =
    let at = c.args.at.now in
    let next : ℤ = to_z w64 c.loop-index.next-bits in
    let i = c.loop-index.invariant in
    let new = c.open.new.self in
    record {
      only = c.open.ensures.only ∙ ap (λ (y : StrandCells). record y { log = new.log }) i.only;
      wider = wider_on (log_of c.args.self.now.log) (log_of c.loop-index.self.log) (log_of new.log) i.wider c.open.ensures.wider;
      at = written c.behind-next.result c.behind-next.type_inv ∙ one_further at next c.behind-next.result c.loop-index._index i.at c.behind-next.ensures;
      can = below_more (λ j. CanStore new (wrapped Bits64 (at +ℤ pos j))) c.loop-index._index
          (λ j low. still_can c.loop-index.self new (wrapped Bits64 (at +ℤ pos j)) c.open.ensures.only c.open.ensures.wider (i.can j low))
          (subst (λ (a : ℤ). CanStore new a) i.at (c.open.ensures.yes c.if-not-open.false));
    }
