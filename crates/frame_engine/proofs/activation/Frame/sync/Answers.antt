use Rattle.std.proofs.Common.{◌≡◌, ◌∙◌, ℕ, List, Option, Some, ℤ, ap, length, refl, subst, sym}
use Rattle.std.specs.Prelude.{slice_get}
use Rattle.semantics.specs.Frames.{and_then, block_at, block_phis, phis_at}
use Rattle.semantics.specs.Effect.{with_phis}
use Rattle.program.specs.declared.function.Function.{Function}
use Rattle.program.specs.declared.instruction.Phi.{Phi}
use Rattle.frame_engine.specs.Fits.{EdgeFits}
use Rattle.frame_engine.specs.Names.{sizes}
use Rattle.frame_engine.specs.Shows.{ShowsRegisters}
use Rattle.frame_engine.proofs.Activations.{vec_words}
use Rattle.frame_engine.proofs.Turns.{there_is}
use Rattle.frame_engine.proofs.activation.Frame.sync.Goals as goal

pub enter-requires : goal.enter-requires
enter-requires c =
    subst (λ (xs : List ℤ). EdgeFits (sizes (length xs) 0 0) (length c.args.moves.now) c.args.self.now.place.block.0 c.function_at-function.result.now.blocks c.args.target.0) (sym c.as_mut_slice.ensures.value)
    (c.requires.edge c.function_at-function.result.now c.function_at-function.ensures)

pub returns-clause-shown : goal.returns-clause-shown
returns-clause-shown c = λ l places p g r s along.
    let function = c.function_at-function.result.now in
    let lent : c.as_mut_slice.result.now ≡ c.args.self.now.registers.items = c.as_mut_slice.ensures.value in
    let t = there_is function.blocks c.args.target.0 (c.requires.edge function c.function_at-function.ensures).there in
    let at : block_at c.args.program.now g.function c.args.target.0 ≡ Some t.0 =
    ap (λ (o : Option Function). and_then o (λ (f : Function). slice_get f.blocks c.args.target.0)) (ap (slice_get c.args.program.now.functions) s.function ∙ c.function_at-function.ensures) ∙ t.1 in
    let phis : phis_at c.args.program.now g.function c.args.target.0 ≡ t.0.phis = ap block_phis at in
    let moved : with_phis g.registers c.args.self.now.place.block.0 t.0.phis g.registers ≡ Some r =
    subst (λ (n : ℕ). with_phis g.registers n t.0.phis g.registers ≡ Some r) s.block (subst (λ (xs : List Phi). with_phis g.registers g.block xs g.registers ≡ Some r) phis along) in
    let entered = c.enter.ensures.entered l g.registers r t.0 t.1 (subst (ShowsRegisters l g.registers) (sym lent) s.registers) moved in
    let words = vec_words c.args.self.now.registers c.as_mut_slice.result.now c.enter.new.regs c.enter.ensures.length lent in
    record {
      function = s.function;
      block = refl;
      index = refl;
      made = s.made;
      role = s.role;
      depth = s.depth;
      bases = s.bases;
      registers = subst (ShowsRegisters l r) (sym words) entered;
    }
