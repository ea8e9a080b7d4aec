use Rattle.std.proofs.Common.{◌≡◌, ◌++◌, take}
use Rattle.std.specs.List.{flat_map}
use Rattle.linear.specs.declared.form.Term.{Term}
use Rattle.definedness.specs.RegisterActs.{register_needs}
use Rattle.definedness.proofs.registers.push_form.Given as goal

abbrev pub invariant-loop-term : goal.invariant-loop-term
invariant-loop-term l = l.acts.items ≡ l.fn.acts.items ++ flat_map (λ (t : Term). register_needs l.line t.register) (take l.term-index l.term-items)
