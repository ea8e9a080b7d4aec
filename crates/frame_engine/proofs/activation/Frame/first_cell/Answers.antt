use Rattle.std.proofs.Common.{List, ℤ, refl, subst, sym}
use Rattle.frame_engine.specs.Activation.{bases_in}
use Rattle.frame_engine.specs.Words.{Bases, IsFirst, bases}
use Rattle.frame_engine.proofs.Bits.{written}
use Rattle.frame_engine.proofs.Activations.{bases_lent}
use Rattle.frame_engine.proofs.activation.Frame.first_cell.Goals as goal

pub returns : goal.returns
returns c =
    let eb = bases_lent c.args.places.now c.args.self.now c.args.places.now.globals c.as_slice.result.now c.index-as_slice-self.result c.index-as_slice-self.result refl c.as_slice.ensures c.requires.there c.index-as_slice-self.is refl in
    subst (λ (z : ℤ). IsFirst (bases_in c.args.places.now c.args.self.now) c.args.self.now.registers.items c.args.object z) (sym (written c.first.result c.first.type_inv))
    (subst (λ (b : Bases). IsFirst b c.args.self.now.registers.items c.args.object c.first.result) eb
    (subst (λ (regs : List ℤ). IsFirst (bases c.args.places.now.globals c.index-as_slice-self.result c.args.self.now.home) regs c.args.object c.first.result) c.as_slice-2.ensures.value c.first.ensures))
