use Rattle.std.proofs.Common.{rules, of_z, to_z, ◌≡◌, ◌∙◌, Some, ap, sym}
use Rattle.std.specs.Int.{w64}
use Rattle.std.proofs.lemmas.Int.{to_z-of_z}
use Rattle.kernel_calls.proofs.replay.come_to.Goals as goal

pub returns-in-Some-clause-ended : goal.returns-in-Some-clause-ended
returns-in-Some-clause-ended c is_done m s =
    let shown = c.shown.ensures.ran is_done in
    let read : to_z w64 (of_z w64 c.in-Some.result) ≡ c.in-Some.result = to_z-of_z w64 c.in-Some.result (let auto = c.result.auto in let inv = c.result.type_inv in search rules) in
    record {
      ended = sym (c.result.ensures m s) ∙ c.in-Some.is ∙ ap Some (sym read ∙ sym shown.result);
      instructions = shown.instructions ∙ c.instructions-instructions.ensures m s;
      peak = shown.peak ∙ c.peak-peak.ensures m s;
      globals = c.into_memory.result;
      cells = (c.into_memory.ensures m s).cells;
      numbers = shown.numbers;
    }

pub returns-in-None-clause-stands : goal.returns-in-None-clause-stands
returns-in-None-clause-stands c is m s = record {
  unended = sym (c.result.ensures m s) ∙ c.in-None.is;
  instructions = c.instructions-instructions.ensures m s;
  peak = c.peak-peak.ensures m s;
}
