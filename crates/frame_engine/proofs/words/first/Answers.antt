use Rattle.std.proofs.Common.{◌∙◌, ◌+ℤ◌, rules, FitsSigned}
use Rattle.std.proofs.lemmas.Int.{to_z-of_z}
use Rattle.std.specs.Int.{w64}
use Rattle.frame_engine.proofs.Bits.{written}
use Rattle.semantics.specs.Arithmetic.{wrapped}
use Rattle.syntax.specs.declared.operator.Width.TheVariants.{Bits64}
use Rattle.frame_engine.proofs.words.first.Goals as goal

pub returns-in-Alloca : goal.returns-in-Alloca
returns-in-Alloca c =
    let fit : FitsSigned w64 c.args.home.now = search rules in
    rw c.in-Alloca.is (
      c.number_in-in-Alloca.result,
      c.number_in-in-Alloca.ensures,
      written c.behind.result c.behind.type_inv ∙ c.behind.ensures ∙
          (λ i. wrapped Bits64 (to_z-of_z w64 c.args.home.now fit i +ℤ written c.number_in-in-Alloca.result c.number_in-in-Alloca.type_inv i)),
    )
