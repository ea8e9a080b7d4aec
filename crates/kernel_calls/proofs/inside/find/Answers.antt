use Rattle.std.proofs.Common.{◌≡◌, ◌∙◌, true, false, ap, sym, arith, refl}
use Rattle.std.proofs.lemmas.Bool.Decides.{Decides-eqb}
use Rattle.std.proofs.lemmas.Option.{slice_get_read}
use Rattle.std.proofs.lemmas.Slice.Eq.{slice_eq-Decides}
use Rattle.program.specs.declared.function.Global.{Global}
use Rattle.kernel_calls.proofs.Finding.{none_has, one_more}
use Rattle.kernel_calls.proofs.inside.find.Goals as goal

pub returns-then-eq-clause-found : goal.returns-then-eq-clause-found
returns-then-eq-clause-found c =
    let global = c.index-globals-number.result in
    let read = slice_get_read c.args.globals.now _ c.loop-number.number global refl (omega arith) c.index-globals-number.is in
    let named : c.as_bytes.result.now ≡ global.name = c.as_bytes.ensures ∙ sym (ap (λ (g : Global). g.name) c.index-globals-number.is) in
    let decides = slice_eq-Decides Decides-eqb _ _ _ c.eq.ensures in
    (global, read, sym named ∙ decides.0 c.if-eq.true)

pub loop-number-preserved : goal.loop-number-preserved
loop-number-preserved c =
    let global = c.index-globals-number.result in
    let read = slice_get_read c.args.globals.now _ c.loop-number.number global refl (omega arith) c.index-globals-number.is in
    let named : c.as_bytes.result.now ≡ global.name = c.as_bytes.ensures ∙ sym (ap (λ (g : Global). g.name) c.index-globals-number.is) in
    let decides = slice_eq-Decides Decides-eqb _ _ _ c.eq.ensures in
    one_more c.args.globals.now c.args.name.now c.loop-number.number global c.loop-number.invariant read
    (λ same. absurd (let yes : c.eq.result ≡ true = decides.1 (named ∙ same) in let no : c.eq.result ≡ false = c.if-eq.false in cc))

pub returns-clause-none : goal.returns-clause-none
returns-clause-none c = none_has c.args.globals.now c.args.name.now c.loop-number.number c.loop-number.invariant (omega arith)
