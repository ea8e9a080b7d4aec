use Rattle.std.proofs.Common.{◌≡◌, ◌+◌, ◌-◌, Some, arith, sym, ap, ◌∙◌, subst, inl, length}
use Rattle.std.specs.Option.{option_copied}
use Rattle.cactus.specs.Frames.{node_at}
use Rattle.schedule_workers.specs.Tasks.{IsLowest}
use Rattle.schedule_workers.specs.Lowest.{lowest, under}
use Rattle.schedule_workers.proofs.Lengths.{HasLength, not_empty, not_low, own_length, shorter_at, not_there}
use Rattle.schedule_workers.proofs.run.Run.lowest_below.Goals as goal

pub returns-in_err-node-clause-found : goal.returns-in_err-node-clause-found
returns-in_err-node-clause-found c tree lives =
    absurd (not_there c.args.self.now.cactus c.args.top (sym c.node.ensures ∙ ap option_copied c.in_err-node.was) lives)

pub loop-init : goal.loop-init
loop-init c =
    let stands : node_at c.args.self.now.cactus c.args.top ≡ Some c.in_ok-node.field-0.now = sym c.node.ensures ∙ ap option_copied c.in_ok-node.was in
    let long : length c.in_ok-node.field-0.now.path.numbers ≡ c.len-most.result - 0 = omega arith in
    record {
      is_lowest = λ low below. below;
      length = λ tree. subst (λ n. HasLength c.args.self.now.cactus c.args.top n) long (own_length c.args.self.now.cactus c.args.top c.in_ok-node.field-0.now stands);
      within = omega arith;
    }

pub returns-in_err-node-2-clause-found : goal.returns-in_err-node-2-clause-found
returns-in_err-node-2-clause-found c tree lives =
    absurd (not_empty c.args.self.now.cactus c.loop.lowest (c.len-most.result - c.loop.counter) (c.loop.invariant.length tree) (sym c.node-in-loop.ensures ∙ ap option_copied c.in_err-node-2.was))

pub returns-then-is_lowest-clause-lowest : goal.returns-then-is_lowest-clause-lowest
returns-then-is_lowest-clause-lowest c =
    let stands : node_at c.args.self.now.cactus c.loop.lowest ≡ Some c.in_ok-node-2.node.now = sym c.node-in-loop.ensures ∙ ap option_copied c.in_ok-node-2.was in
    c.loop.invariant.is_lowest c.loop.lowest (lowest c.loop.lowest c.in_ok-node-2.node.now stands (c.is_lowest.ensures.0 c.if-is_lowest.true))

pub returns-in_err-lowest-clause-found : goal.returns-in_err-lowest-clause-found
returns-in_err-lowest-clause-found c tree lives =
    let low : IsLowest c.in_ok-node-2.node.now = inl c.in_err-lowest.was in
    absurd (let yes = c.is_lowest.ensures.1 low in let no = c.if-is_lowest.false in cc)

pub loop-preserved : goal.loop-preserved
loop-preserved c =
    let stands : node_at c.args.self.now.cactus c.loop.lowest ≡ Some c.in_ok-node-2.node.now = sym c.node-in-loop.ensures ∙ ap option_copied c.in_ok-node-2.was in
    let high : ¬ IsLowest c.in_ok-node-2.node.now = λ low. (let yes = c.is_lowest.ensures.1 low in let no = c.if-is_lowest.false in cc) in
    record {
      is_lowest = λ low below. c.loop.invariant.is_lowest low (under c.loop.lowest c.in_ok-lowest.lowest low c.in_ok-node-2.node.now stands high c.in_ok-lowest.was below);
      length = λ tree. shorter_at c.args.self.now.cactus tree c.loop.lowest c.in_ok-lowest.lowest (c.len-most.result - c.loop.counter) (c.len-most.result - (c.loop.counter + 1)) c.in_ok-node-2.node.now stands c.in_ok-lowest.was (c.loop.invariant.length tree) (omega arith);
      within = omega arith;
    }

pub returns-in_err-last-clause-found : goal.returns-in_err-last-clause-found
returns-in_err-last-clause-found c tree lives =
    absurd (not_empty c.args.self.now.cactus c.loop.lowest (c.len-most.result - c.loop.counter) (c.loop.invariant.length tree) (sym c.node-2.ensures ∙ ap option_copied c.in_err-last.was))

pub returns-then-is_lowest-2-clause-lowest : goal.returns-then-is_lowest-2-clause-lowest
returns-then-is_lowest-2-clause-lowest c =
    let stands : node_at c.args.self.now.cactus c.loop.lowest ≡ Some c.in_ok-last.last.now = sym c.node-2.ensures ∙ ap option_copied c.in_ok-last.was in
    c.loop.invariant.is_lowest c.loop.lowest (lowest c.loop.lowest c.in_ok-last.last.now stands (c.is_lowest-2.ensures.0 c.if-is_lowest-2.true))

pub returns-else-is_lowest-2-clause-found : goal.returns-else-is_lowest-2-clause-found
returns-else-is_lowest-2-clause-found c tree lives =
    let stands : node_at c.args.self.now.cactus c.loop.lowest ≡ Some c.in_ok-last.last.now = sym c.node-2.ensures ∙ ap option_copied c.in_ok-last.was in
    absurd (not_low c.args.self.now.cactus tree c.loop.lowest (c.len-most.result - c.loop.counter) c.in_ok-last.last.now stands (c.loop.invariant.length tree) (omega arith)
    (λ low. (let yes = c.is_lowest-2.ensures.1 low in let no = c.if-is_lowest-2.false in cc)))
