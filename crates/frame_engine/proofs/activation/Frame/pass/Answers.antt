use Rattle.std.proofs.Common.{◌≡◌, arith, length, subst, ℕ}
use Rattle.frame_engine.specs.Activation.{bases_in}
use Rattle.frame_engine.proofs.Bits.{written}
use Rattle.frame_engine.proofs.Passing.{Passed, all_passed, word_passed}
use Rattle.frame_engine.proofs.activation.Frame.pass.Goals as goal

pub returns-clause-passed : goal.returns-clause-passed
returns-clause-passed c = λ l p g values s whole e.
    let end : c.loop-i.i ≡ length c.args.arguments.now = omega arith in
    let passed : Passed (bases_in c.args.places.now c.args.self.now) c.args.self.now.registers.items c.args.arguments.now c.loop-i.words (length c.args.arguments.now) = subst (λ (n : ℕ). Passed (bases_in c.args.places.now c.args.self.now) c.args.self.now.registers.items c.args.arguments.now c.loop-i.words n) end c.loop-i.invariant.passed in
    all_passed l (bases_in c.args.places.now c.args.self.now) c.args.self.now.registers.items c.loop-i.words g c.args.arguments.now values s.bases s.registers whole e passed

pub loop-i-preserved : goal.loop-i-preserved
loop-i-preserved c =
    let more = word_passed (bases_in c.args.places.now c.args.self.now) c.args.self.now.registers.items c.args.arguments.now c.loop-i.words c.args.words.now c.loop-i.i _ c.argument.result _ c.loop-i-test.true c.requires.room c.loop-i.invariant.length c.argument.ensures (written c.argument.result c.argument.type_inv) c.loop-i.invariant.passed in
    record { length = more.0; passed = more.1 }
