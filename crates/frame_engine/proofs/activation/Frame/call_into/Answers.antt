use Rattle.std.proofs.Common.{◌∷◌, arith, sym, subst, refl, rules, FitsSigned, ℤ}
use Rattle.std.specs.Int.{w64}
use Rattle.std.specs.Prelude.{slice_get}
use Rattle.std.proofs.lemmas.Int.{to_z-of_z}
use Rattle.frame_engine.specs.Activation.{allocas_of}
use Rattle.frame_engine.specs.Shows.{ShowsBases, ShowsRegisters}
use Rattle.frame_engine.specs.Words.{bases}
use Rattle.frame_engine.proofs.Activations.{vec_words}
use Rattle.frame_engine.proofs.Passing.{shown_alike}
use Rattle.frame_engine.proofs.activation.Frame.call_into.Goals as goal

pub returns-clause-shown : goal.returns-clause-shown
returns-clause-shown c = λ l k p g values s whole e alike begins.
    let fit : FitsSigned w64 c.args.home = search rules in
    let words = vec_words c.have_words.new.words c.as_mut_slice.result.now c.pass.new.words c.pass.ensures.length c.as_mut_slice.ensures.value in
    let deep = s.depth in
    record {
      function = refl;
      block = refl;
      index = refl;
      made = refl;
      role = refl;
      depth = omega (arith, deep);
      bases = subst (λ (h : ℤ). ShowsBases k (bases c.args.places.now.globals (allocas_of c.args.places.now c.args.function.0) h) (g.made ∷ p)) (sym (to_z-of_z w64 c.args.home fit)) begins;
      registers = subst (ShowsRegisters k (slice_get values)) (sym words) (shown_alike l k values c.pass.new.words alike (c.pass.ensures.passed l p g values s whole e));
    }
