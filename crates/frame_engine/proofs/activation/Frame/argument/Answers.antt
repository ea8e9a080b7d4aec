use Rattle.std.proofs.Common.{ap, refl}
use Rattle.frame_engine.specs.Words.{Bases}
use Rattle.frame_engine.proofs.Activations.{bases_lent}
use Rattle.frame_engine.proofs.Bits.{written}
use Rattle.frame_engine.proofs.activation.Frame.argument.Goals as goal

pub returns-in-Number : goal.returns-in-Number
returns-in-Number c =
    rw (c.in-Number.is, written c.word.result c.word.type_inv, ← c.as_slice-in-Number.ensures.value) c.word.ensures

pub returns-in-Object : goal.returns-in-Object
returns-in-Object c =
    let eb = bases_lent c.args.places.now c.args.self.now c.args.places.now.globals c.as_slice.result.now c.index-as_slice-self.result c.index-as_slice-self.result refl c.as_slice.ensures c.requires.there c.index-as_slice-self.is refl in
    rw (c.in-Object.is, written c.first.result c.first.type_inv, ← c.as_slice-in-Object.ensures.value, ← eb) c.first.ensures

pub first-requires : goal.first-requires
first-requires c =
    let eb = bases_lent c.args.places.now c.args.self.now c.args.places.now.globals c.as_slice.result.now c.index-as_slice-self.result c.index-as_slice-self.result refl c.as_slice.ensures c.requires.there c.index-as_slice-self.is refl in
    rw (c.as_slice-in-Object.ensures.value, ap (λ (b : Bases). b.allocas) eb) (rw c.in-Object.is at c.requires.names)
