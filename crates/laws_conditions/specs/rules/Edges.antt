-- Forms on the far side of an edge or call, said of the registers on the near side: operands put in for phis and
-- parameters.
use Rattle.std.specs.Prelude.{ℕ, zero, suc, List, [], ◌∷◌, Option, Some, None, cond, eqb, pos}
use Rattle.semantics.specs.Frames.{phis_at}
use Rattle.program.specs.Phis.{entry_for}
use Rattle.linear.specs.Forms.{register_form}
use Rattle.linear.specs.Terms.{Combination, constant_form}
use Rattle.program.specs.declared.function.Program.{Program}
use Rattle.program.specs.declared.instruction.Argument.{Argument}
use Rattle.program.specs.declared.instruction.Argument.TheVariants as argument
use Rattle.program.specs.declared.instruction.Operand.{Operand}
use Rattle.program.specs.declared.instruction.Operand.TheVariants.{Number, Register}
use Rattle.program.specs.declared.instruction.Phi.{Phi}

abbrev pub operand_form : Operand → Combination
operand_form (Number z) = constant_form z
operand_form (Register x) = register_form x.0

abbrev pub entry_form : Option Operand → Combination
entry_form None = constant_form (pos 0)
entry_form (Some a) = operand_form a

-- the phis' values on the edge from a block, over what stands for the registers else
abbrev pub phi_forms : ℕ → List Phi → (ℕ → Combination) → ℕ → Combination
phi_forms from [] forms = forms
phi_forms from (phi ∷ phis) forms =
    phi_forms from phis (λ x. cond (eqb phi.register.0 x) (entry_form (entry_for from phi.entries)) (forms x))

abbrev pub edge_forms : Program → ℕ → ℕ → ℕ → ℕ → Combination
edge_forms prog function from target = phi_forms from (phis_at prog function target) register_form

-- a pointer, or no argument, reads as 0
abbrev pub argument_form : Argument → Combination
argument_form (argument.Number a) = operand_form a
argument_form (argument.Object name) = constant_form (pos 0)

-- the arguments for the callee's parameters
abbrev pub argument_forms : List Argument → ℕ → Combination
argument_forms [] x = constant_form (pos 0)
argument_forms (a ∷ more) zero = argument_form a
argument_forms (a ∷ more) (suc x) = argument_forms more x
