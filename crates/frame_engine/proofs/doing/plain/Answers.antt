use Rattle.std.proofs.Common.{◌∙◌}
use Rattle.std.proofs.Common.{◌≡◌, length, rules}
use Rattle.semantics.specs.Arithmetic.{Gives, binary}
use Rattle.frame_engine.proofs.Bits.{written}
use Rattle.frame_engine.proofs.Going.{operand_alone}
use Rattle.frame_engine.proofs.PlainSteps.{binary_ready, binary_stepped, compare_stepped, bool_word}
use Rattle.frame_engine.specs.Words.{bases}
use Rattle.frame_engine.proofs.doing.plain.Goals as goal

pub binary-result-requires : goal.binary-result-requires
binary-result-requires g c =
    let r = binary_ready (bases c.args.globals.now c.args.allocas.now c.args.home.now) (g.C.Cells.reaches c.args.cells.now) (g.C.Cells.holds c.args.cells.now) c.args.regs.now c.in-Binary.register c.in-Binary.operator c.in-Binary.width c.in-Binary.left c.in-Binary.right c.word.result c.word-in-Binary.result _ _ (rw c.in-Binary.is at c.requires.safe) c.word.ensures c.word-in-Binary.ensures c.word.type_inv c.word-in-Binary.type_inv (written c.word.result c.word.type_inv) (written c.word-in-Binary.result c.word-in-Binary.type_inv) in
    record { left = r.left; right = r.right; given = r.given }

pub returns-in-Binary-clause-stepped : goal.returns-in-Binary-clause-stepped
returns-in-Binary-clause-stepped g c = λ prog l p f m shown safe.
    let i = c.in-Binary in
    let x = c.word.result in
    let y = c.word-in-Binary.result in
    let z = c.binary-result.result in
    let e : Gives z ≡ binary i.operator i.width x y = c.binary-result.ensures ∙ (λ k. binary i.operator i.width (written x c.word.type_inv k) (written y c.word-in-Binary.type_inv k)) in
    rw i.is (binary_stepped prog l (bases c.args.globals.now c.args.allocas.now c.args.home.now) p f m (g.C.Cells.reaches c.args.cells.now) (g.C.Cells.holds c.args.cells.now) c.args.regs.now _ i.register i.operator i.width i.left i.right x y z _ shown (rw i.is at safe) c.word.ensures c.word-in-Binary.ensures e (rw i.is at c.requires.names).0 (written z c.binary-result.type_inv) c.define.ensures)

pub returns-in-Compare-clause-stepped : goal.returns-in-Compare-clause-stepped
returns-in-Compare-clause-stepped g c = λ prog l p f m shown safe.
    let i = c.in-Compare in
    let x = c.word-in-Compare.result in
    let y = c.word-in-Compare-2.result in
    rw i.is (compare_stepped prog l (bases c.args.globals.now c.args.allocas.now c.args.home.now) p f m (g.C.Cells.reaches c.args.cells.now) (g.C.Cells.holds c.args.cells.now) c.args.regs.now _ i.register i.predicate i.width i.left i.right x y _ _ _ c.compare-result.result shown (rw i.is at safe) c.word-in-Compare.ensures c.word-in-Compare-2.ensures c.word-in-Compare.type_inv c.word-in-Compare-2.type_inv (written x c.word-in-Compare.type_inv) (written y c.word-in-Compare-2.type_inv) c.compare-result.ensures (rw i.is at c.requires.names).0 (bool_word c.compare-result.result) c.define-in-Compare.ensures)

pub word-requires : goal.word-requires
word-requires g c = operand_alone _ (length c.args.globals.now) (length c.args.allocas.now) c.in-Binary.left (rw c.in-Binary.is at c.requires.names).1

pub word-requires-in-Binary : goal.word-requires-in-Binary
word-requires-in-Binary g c = operand_alone _ (length c.args.globals.now) (length c.args.allocas.now) c.in-Binary.right (rw c.in-Binary.is at c.requires.names).2

pub word-requires-in-Compare : goal.word-requires-in-Compare
word-requires-in-Compare g c = operand_alone _ (length c.args.globals.now) (length c.args.allocas.now) c.in-Compare.left (rw c.in-Compare.is at c.requires.names).1

pub word-requires-in-Compare-2 : goal.word-requires-in-Compare-2
word-requires-in-Compare-2 g c = operand_alone _ (length c.args.globals.now) (length c.args.allocas.now) c.in-Compare.right (rw c.in-Compare.is at c.requires.names).2

pub define-requires : goal.define-requires
define-requires g c = (rw c.in-Binary.is at c.requires.names).0

pub define-requires-in-Compare : goal.define-requires-in-Compare
define-requires-in-Compare g c = (rw c.in-Compare.is at c.requires.names).0

pub access-requires : goal.access-requires
access-requires g c = record { kind = search rules; names = c.requires.names; safe = c.requires.safe }

pub derive-requires-clause-names : goal.derive-requires-clause-names
derive-requires-clause-names g c = c.requires.names

pub derive-requires-clause-safe : goal.derive-requires-clause-safe
derive-requires-clause-safe g c = c.requires.safe

pub returns-in-Load-clause-length : goal.returns-in-Load-clause-length
returns-in-Load-clause-length g c = c.access.ensures.length

pub returns-in-Load-clause-stepped : goal.returns-in-Load-clause-stepped
returns-in-Load-clause-stepped g c = c.access.ensures.stepped

pub returns-in-Load-clause-touched : goal.returns-in-Load-clause-touched
returns-in-Load-clause-touched g c = c.access.ensures.touched

pub returns-in-Load-clause-refused : goal.returns-in-Load-clause-refused
returns-in-Load-clause-refused g c = c.access.ensures.refused

pub returns-in-Load-clause-unchanged : goal.returns-in-Load-clause-unchanged
returns-in-Load-clause-unchanged g c = c.access.ensures.unchanged

pub returns-in-Load-clause-registers : goal.returns-in-Load-clause-registers
returns-in-Load-clause-registers g c = c.access.ensures.registers

pub returns-in-Load-clause-holds : goal.returns-in-Load-clause-holds
returns-in-Load-clause-holds g c = c.access.ensures.holds

pub returns-in-Load-clause-reaches : goal.returns-in-Load-clause-reaches
returns-in-Load-clause-reaches g c = c.access.ensures.reaches

pub returns-in_default-clause-length : goal.returns-in_default-clause-length
returns-in_default-clause-length g c = c.derive.ensures.length

pub returns-in_default-clause-stepped : goal.returns-in_default-clause-stepped
returns-in_default-clause-stepped g c = c.derive.ensures.stepped
