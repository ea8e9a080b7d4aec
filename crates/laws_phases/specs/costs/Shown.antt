-- The rules on cost as facts of places show them.
use Rattle.std.specs.Prelude.{◌≡◌, ℕ, ◌<◌, length, Some, All, true, is_some, slice_get}
use Rattle.program.specs.declared.function.Function.{Function}
use Rattle.program.specs.declared.function.Program.{Program}
use Rattle.cfg.specs.Rules.{IsGraphRight}
use Rattle.laws_conditions.specs.rules.ShownCosts.{CostsShown}
use Rattle.laws_phases.specs.defined.Stable.{IsStable as LeavesNamedAlone}
use Rattle.laws_phases.specs.facts.Known.{known_at_place}
use Rattle.laws_phases.specs.facts.Owing.{IsTyped, AreFactsStable}
use Rattle.laws_phases.specs.facts.Handed.{outs_at}
use Rattle.cost_table.specs.Rules.{AreCostsRight}
use Rattle.laws_phases.specs.costs.Depths.{CallsUpward}

-- what the rules on names and types give of a program, as far as the laws here ask for more than those on facts
pub record IsMeasured (prog : Program) : Type 0 where
  -- a measure names parameters alone
  pub parameters : (g : ℕ) (function : Function) → slice_get prog.functions g ≡ Some function →
      All (λ t. t.register.0 < length function.parameters) function.measure.form.terms
  -- each function has an entry block
  pub entry : (g : ℕ) (function : Function) → slice_get prog.functions g ≡ Some function →
      is_some (slice_get function.blocks 0) ≡ true
  pub upward : CallsUpward prog

-- What the rules on names, types, the graph and definedness give of the program.
pub record IsReadable (prog : Program) : Type 0 where
  pub graph : IsGraphRight prog
  pub typed : IsTyped prog
  pub stable : AreFactsStable prog
  pub leaves : LeavesNamedAlone prog
  pub measured : IsMeasured prog

abbrev pub CostsAreShown : Type 0
CostsAreShown = (prog : Program) → AreCostsRight prog → IsReadable prog →
    CostsShown prog (known_at_place prog) (outs_at prog)
