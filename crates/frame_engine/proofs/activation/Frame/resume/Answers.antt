use Rattle.std.proofs.Common.{◌≡◌, ◌<◌, ◌∙◌, subst, sym, length, inl, inr, ap, ℤ, List, rules, FitsSigned}
use Rattle.std.specs.Int.{w64}
use Rattle.std.proofs.lemmas.Int.{to_z-of_z}
use Rattle.std.proofs.lemmas.List.{length-set}
use Rattle.semantics.specs.Frames.{Registers}
use Rattle.semantics.specs.State.{with_result}
use Rattle.frame_engine.specs.Shows.{ShowsRegisters}
use Rattle.frame_engine.proofs.Activations.{vec_words}
use Rattle.frame_engine.proofs.Passing.{result_shown, untaken}
use Rattle.frame_engine.proofs.activation.Frame.resume.Goals as goal

pub returns-in-Some-Some-clause-shown : goal.returns-in-Some-Some-clause-shown
returns-in-Some-Some-clause-shown c = λ l places p g s.
    let i = c.in-Some-Some in
    let before = c.as_mut_slice.result.now in
    let after = c.define.new.regs in
    let fit : FitsSigned w64 i.word = search rules in
    let lent : before ≡ c.args.self.now.registers.items = c.as_mut_slice.ensures.value in
    let there : i.taker.0 < length c.args.self.now.registers.items = rw i.is-0 at c.requires in
    let lt : i.taker.0 < length before = subst (λ (xs : List ℤ). i.taker.0 < length xs) (sym lent) there in
    let words = vec_words c.args.self.now.registers before after (ap (λ (xs : List ℤ). length xs) c.define.ensures ∙ length-set before i.taker.0 _) lent in
    record {
      function = s.function;
      block = s.block;
      index = s.index;
      made = s.made;
      role = s.role;
      depth = s.depth;
      bases = s.bases;
      registers = subst (ShowsRegisters l (with_result g.registers c.args.register c.args.number)) (sym words) (result_shown l g.registers c.args.register c.args.number c.args.self.now.registers.items before after i.taker i.word _ s.registers i.is-0 i.is-1 lent lt (to_z-of_z w64 i.word fit) c.define.ensures);
    }

pub returns-in-Some-None-clause-shown : goal.returns-in-Some-None-clause-shown
returns-in-Some-None-clause-shown c = λ l places p g s. record {
  function = s.function;
  block = s.block;
  index = s.index;
  made = s.made;
  role = s.role;
  depth = s.depth;
  bases = s.bases;
  registers = subst (λ (r : Registers). ShowsRegisters l r c.args.self.now.registers.items) (sym (untaken g.registers c.args.register c.args.number (inr c.in-Some-None.is-1))) s.registers;
}

pub returns-in-None-default-clause-shown : goal.returns-in-None-default-clause-shown
returns-in-None-default-clause-shown c = λ l places p g s. record {
  function = s.function;
  block = s.block;
  index = s.index;
  made = s.made;
  role = s.role;
  depth = s.depth;
  bases = s.bases;
  registers = subst (λ (r : Registers). ShowsRegisters l r c.args.self.now.registers.items) (sym (untaken g.registers c.args.register c.args.number (inl c.in-None-default.is-0))) s.registers;
}
