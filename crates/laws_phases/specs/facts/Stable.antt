-- What the law on facts asks of definedness, from the rules.
use Rattle.std.specs.Prelude.{◌≡◌, ℕ, Some, slice_get}
use Rattle.program.specs.declared.function.Block.{Block}
use Rattle.program.specs.declared.function.Function.{Function}
use Rattle.program.specs.declared.function.Program.{Program}
use Rattle.program.specs.declared.instruction.Phi.{Phi}
use Rattle.cfg.specs.Rules.{IsGraphRight}
use Rattle.region_match.specs.Matched.{AreRegionsRight}
use Rattle.laws_phases.specs.defined.Leads.{IsBlock}
use Rattle.laws_phases.specs.defined.Names.{IsNamed}
use Rattle.laws_phases.specs.defined.Defined.{AreUsesDefined}
use Rattle.laws_phases.specs.facts.Owing.{IsTyped, AreFactsStable}

-- two phis of a block define two registers, as the rules on names have it
abbrev pub ArePhisApart : Program → Type 0
ArePhisApart prog =
    (f b m n : ℕ) (function : Function) (block : Block) (x y : Phi) → IsBlock prog f b function block →
    slice_get block.phis m ≡ Some x →
    slice_get block.phis n ≡ Some y → x.register.0 ≡ y.register.0 → m ≡ n

abbrev pub FactsAreStable : Type 0
FactsAreStable = (prog : Program) → IsNamed prog → ArePhisApart prog → IsTyped prog → IsGraphRight prog →
    AreRegionsRight prog → AreUsesDefined prog →
    AreFactsStable prog
