use Rattle.std.proofs.Common.{◌≤◌, length, arith, ap, drop, refl}
use Rattle.std.proofs.lemmas.List.{length-drop, take_rest}
use Rattle.ir_lex.specs.Tokens.{tokens_from}
use Rattle.ir_lex.proofs.Walk.{rest_of, over_space, over_token, at_end, stops_at_comment, stops_at_wrong}
use Rattle.ir_lex.proofs.scan.scan_from.Goals as goal

pub loop-at-preserved-in-Space : goal.loop-at-preserved-in-Space
loop-at-preserved-in-Space c = record {
  within = omega arith;
  so_far = over_space c.args.in_note c.loop-at.at c.args.line.now c.loop-at.tokens.items _ c.loop-at-test.true c.in-Space.ensures.value c.loop-at.invariant.so_far;
}

pub returns-in-Comment-clause-found : goal.returns-in-Comment-clause-found
returns-in-Comment-clause-found c = stops_at_comment c.args.in_note c.loop-at.at c.args.line.now c.loop-at.tokens.items _ c.loop-at-test.true c.in-Comment.ensures.value c.loop-at.invariant.so_far

pub loop-at-preserved : goal.loop-at-preserved
loop-at-preserved c =
    let fits : c.in-Begins.len ≤ length (rest_of c.args.line.now c.loop-at.at) = c.in-Begins.ensures.within.1 in
    let shorter = length-drop c.loop-at.at c.args.line.now in
    let same = ap length (take_rest c.args.line.now c.loop-at.at) in
    record {
      within = omega (arith, c.loop-at-test.true);
      so_far = over_token c.args.in_note c.loop-at.at c.args.line.now c.loop-at.tokens.items c.push.new.self.items _ c.in-Begins.kind c.in-Begins.len c.loop-at-test.true c.in-Begins.ensures.within.0 fits c.in-Begins.ensures.value c.in_ok-push-in-Begins.ensures.items c.loop-at.invariant.so_far;
    }

pub returns-in-Wrong-clause-fault : goal.returns-in-Wrong-clause-fault
returns-in-Wrong-clause-fault c = (refl, refl, stops_at_wrong c.args.in_note c.loop-at.at c.args.line.now c.loop-at.tokens.items c.args.tokens.items (tokens_from c.args.in_note 0 c.args.from (drop c.args.from c.args.line.now)) c.loop-at-test.true c.in-Wrong.ensures.value c.loop-at.invariant.so_far)

pub returns-clause-found : goal.returns-clause-found
returns-clause-found c = at_end c.args.in_note c.loop-at.at c.args.line.now c.loop-at.tokens.items _ c.loop-at-test.false c.loop-at.invariant.so_far
