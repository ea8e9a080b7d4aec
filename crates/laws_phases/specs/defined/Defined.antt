-- Registers that are defined on each path to a place, as the rule on registers has them.
use Rattle.std.specs.Prelude.{◌≡◌, ℕ, zero, suc, List, [], ◌∷◌, ◌++◌, length, map, Option, Some, None, Contains}
use Rattle.std.specs.Prelude.{slice_get}
use Rattle.semantics.specs.Frames.{Does, item_at}
use Rattle.laws_conditions.specs.theorem.SerialConditions.{Nothing, KeptSerially}
use Rattle.std.specs.List.{flat_map}
use Rattle.program.specs.declared.function.Block.{Block}
use Rattle.program.specs.declared.function.Function.{Function}
use Rattle.program.specs.declared.function.Program.{Program}
use Rattle.program.specs.declared.instruction.Instruction.{Instruction}
use Rattle.program.specs.declared.instruction.Step.{Step}
use Rattle.cfg.specs.Edges.{graph_of}
use Rattle.cfg.specs.Paths.{Leg, IsPath}
use Rattle.definedness.specs.Missing.{defined_along}
use Rattle.definedness.specs.Needs.{gives, given_of}
use Rattle.definedness.specs.declared.act.Act.TheVariants.{Needs}
use Rattle.definedness.specs.RegisterActs.{phi_gives, start_gives, instruction_needs}
use Rattle.region_match.specs.Matched.{AreRegionsRight}
use Rattle.definedness.specs.Definedness.{register_table}
use Rattle.definedness.specs.Defined.{AreRegistersDefined}
use Rattle.laws_conditions.specs.rules.Moves.{dest_of}
use Rattle.laws_conditions.specs.rules.Registers.{Registered, GivesNumber}
use Rattle.laws_phases.specs.defined.Leads.{IsBlock}
use Rattle.laws_phases.specs.defined.Names.{IsNamed}

abbrev pub listed : Option ℕ → List ℕ
listed None = []
listed (Some r) = r ∷ []

-- what the first steps define
abbrev pub steps_define : List Step → ℕ → List ℕ
steps_define [] i = []
steps_define (s ∷ steps) zero = []
steps_define (s ∷ steps) (suc i) = listed (dest_of s.instruction) ++ steps_define steps i

-- what a block has defined before its step of this number: the parameters in the entry block, its phis, and its steps
-- before
abbrev pub defined_before : Function → ℕ → Block → ℕ → List ℕ
defined_before function b block i = gives (start_gives b (length function.parameters)) ++
    (gives (flat_map phi_gives block.phis) ++ steps_define block.steps i)

-- on each path to the place the register is defined before it
pub record IsAlways (prog : Program) (f b i r : ℕ) : Type 0 where
  pub function : Function
  pub block : Block
  pub is : IsBlock prog f b function block
  pub always : (legs : List Leg) → IsPath (graph_of function).blocks 0 legs b →
      Contains (defined_along (map given_of (register_table function)) legs ++ defined_before function b block i) r

-- 401 holds in each function
abbrev pub AreUsesDefined : Program → Type 0
AreUsesDefined prog = (f : ℕ) (function : Function) → slice_get prog.functions f ≡ Some function →
    AreRegistersDefined function

-- registers that are defined on each path to a frame's place have values in it
abbrev pub DefinedAreKept : Type 0
DefinedAreKept = (prog : Program) → IsNamed prog → AreRegionsRight prog →
    KeptSerially prog Nothing (Registered (IsAlways prog)) (GivesNumber prog)

-- and each register that an instruction uses is one of them
abbrev pub UsesAreDefined : Type 0
UsesAreDefined = (prog : Program) → AreUsesDefined prog → (f b i : ℕ) (what : Instruction) (n : ℕ) →
    item_at prog f b i ≡ Some (Does what) →
    ((function : Function) (line : ℕ) → slice_get prog.functions f ≡ Some function →
    Contains (instruction_needs function.allocas line what) (Needs n line)) →
    IsAlways prog f b i n
