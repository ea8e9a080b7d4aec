use Rattle.std.proofs.Common.{◌≡◌, true, List, Option, subst, arith}
use Rattle.linear.specs.declared.form.RegisterId.{RegisterId}
use Rattle.definedness_allocas.specs.declared.sets.Label.TheVariants.{Due}
use Rattle.definedness_allocas.specs.Sets.{label_in, label_of}
use Rattle.definedness.proofs.Greatest.{fit_start, settling_start, settling_next, settling_done}
use Rattle.definedness.proofs.fork.Flow.settle.Goals as goal

pub narrow-requires-clause-fit : goal.narrow-requires-clause-fit
narrow-requires-clause-fit c = fit_start c.args.stops.now c.args.self.now.forks.now c.args.self.now.blocks.now c.in_ok-sets.sets (omega (arith, c.requires)) c.in_ok-sets.ensures

pub loop-block-init : goal.loop-block-init
loop-block-init c = settling_start c.args.stops.now c.args.self.now.forks.now c.args.self.now.blocks.now c.in_ok-sets.sets (omega (arith, c.requires)) c.in_ok-sets.ensures _ _ (rw c.in_ok-work.ensures.items at c.in_ok-narrow.ensures.lowers) (subst (λ (x : List RegisterId). (k : Option RegisterId) → label_of c.narrow.new.sets k 0 ≡ true → label_in (Due x) k ≡ true) c.new.ensures c.in_ok-narrow.ensures.taken)

pub loop-block-preserved : goal.loop-block-preserved
loop-block-preserved c = settling_next c.args.stops.now c.args.self.now.forks.now c.args.self.now.blocks.now _ _ _ _ _ c.in-Some.block c.in-Some.ensures.items c.loop-block.invariant c.in_ok-lower_block.ensures.lowers c.in_ok-lower_block.ensures.kept

pub returns : goal.returns
returns c = settling_done c.args.stops.now c.args.self.now.forks.now c.args.self.now.blocks.now _ _ (omega (arith, c.in_default.ensures.cases, c.loop-block.work.ok.0)) c.loop-block.invariant
