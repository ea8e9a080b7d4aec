use Rattle.std.proofs.Common.{◌≡◌, ◌<◌, ◌≤◌, List, Some, ap, arith, length}
use Rattle.std.specs.Prelude.{slice_get}
use Rattle.program.specs.declared.instruction.Step.{Step}
use Rattle.frame_engine.proofs.Activations.{block_is, function_is, item_does, item_ends, read_at}
use Rattle.frame_engine.proofs.activation.Frame.item.Goals as goal

pub returns-then-self-steps : goal.returns-then-self-steps
returns-then-self-steps c =
    let f = c.args.self.now in
    let function = c.index-as_slice-self.result in
    let b = c.index-as_slice-self-2.result in
    let is : slice_get c.args.program.now.functions f.function.0 ≡ Some function = function_is c.args.program.now f.function.0 c.as_slice.result.now function c.as_slice.ensures c.requires.stands.there c.index-as_slice-self.is in
    let fits = c.requires.stands.place function is in
    let at : slice_get function.blocks f.place.block.0 ≡ Some b = read_at c.as_slice-2.result.now function.blocks f.place.block.0 b c.as_slice-2.ensures fits.there c.index-as_slice-self-2.is in
    let there = block_is c.args.program.now f.function.0 function f.place.block.0 b is at in
    let as_long : length c.as_slice-steps.result.now ≡ length b.steps = ap (λ (xs : List Step). length xs) c.as_slice-steps.ensures in
    let below : f.place.index < length c.as_slice-steps.result.now = c.if-self-steps.true in
    let within : f.place.index < length b.steps = omega (arith, as_long, below) in
    item_does c.args.program.now f.function.0 f.place.block.0 f.place.index b c.index-steps-self.result there (read_at c.as_slice-steps.result.now b.steps f.place.index c.index-steps-self.result c.as_slice-steps.ensures within c.index-steps-self.is)

pub unreachable-requires : goal.unreachable-requires
unreachable-requires c =
    let f = c.args.self.now in
    let function = c.index-as_slice-self.result in
    let b = c.index-as_slice-self-2.result in
    let is : slice_get c.args.program.now.functions f.function.0 ≡ Some function = function_is c.args.program.now f.function.0 c.as_slice.result.now function c.as_slice.ensures c.requires.stands.there c.index-as_slice-self.is in
    let fits = c.requires.stands.place function is in
    let at : slice_get function.blocks f.place.block.0 ≡ Some b = read_at c.as_slice-2.result.now function.blocks f.place.block.0 b c.as_slice-2.ensures fits.there c.index-as_slice-self-2.is in
    let there = block_is c.args.program.now f.function.0 function f.place.block.0 b is at in
    c.requires.ends b there c.in-None.is

pub returns : goal.returns
returns c =
    let f = c.args.self.now in
    let function = c.index-as_slice-self.result in
    let b = c.index-as_slice-self-2.result in
    let is : slice_get c.args.program.now.functions f.function.0 ≡ Some function = function_is c.args.program.now f.function.0 c.as_slice.result.now function c.as_slice.ensures c.requires.stands.there c.index-as_slice-self.is in
    let fits = c.requires.stands.place function is in
    let at : slice_get function.blocks f.place.block.0 ≡ Some b = read_at c.as_slice-2.result.now function.blocks f.place.block.0 b c.as_slice-2.ensures fits.there c.index-as_slice-self-2.is in
    let there = block_is c.args.program.now f.function.0 function f.place.block.0 b is at in
    let as_long : length c.as_slice-steps.result.now ≡ length b.steps = ap (λ (xs : List Step). length xs) c.as_slice-steps.ensures in
    let past : length c.as_slice-steps.result.now ≤ f.place.index = c.if-self-steps.false in
    let within : f.place.index ≤ length b.steps = fits.within b at in
    item_ends c.args.program.now f.function.0 f.place.block.0 f.place.index b c.in-Some.ending there c.in-Some.is (omega (arith, as_long, past, within))
