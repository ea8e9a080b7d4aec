-- Only the printer's own functions need these: how values and types are spelled, as text.
use Rattle.std.specs.Prelude.{ℕ, ◌*◌, List, [], ◌∷◌, ◌++◌, codes, flat_map}
use Rattle.std.specs.Fmt.{signed_decimal, decimal}
use Rattle.syntax.specs.declared.operator.BinaryOperator.{BinaryOperator}
use Rattle.syntax.specs.declared.module.Parameter.{Parameter}
use Rattle.syntax.specs.declared.module.Parameter.TheVariants as parameter
use Rattle.syntax.specs.declared.instruction.Operand.{Operand}
use Rattle.syntax.specs.declared.instruction.Operand.TheVariants as operand
use Rattle.syntax.specs.declared.instruction.Address.{Address}
use Rattle.syntax.specs.declared.instruction.Address.TheVariants as address
use Rattle.syntax.specs.declared.instruction.Argument.{Argument}
use Rattle.syntax.specs.declared.instruction.Argument.TheVariants as argument
use Rattle.ir_lex.specs.Names.{register_text, global_text}
use Rattle.ir_instruction.specs.Spelling.{text_of, operator_atoms}

abbrev pub operator_text : BinaryOperator → List ℕ
operator_text operator = text_of (operator_atoms operator)

abbrev pub label_text : List ℕ → List ℕ
label_text name = codes "label " ++ register_text name

-- V
abbrev pub operand_text : Operand → List ℕ
operand_text (operand.Number n) = signed_decimal n
operand_text (operand.Register name) = register_text name

-- ptr P
abbrev pub address_text : Address → List ℕ
address_text (address.Register name) = codes "ptr " ++ register_text name
address_text (address.Global name) = codes "ptr " ++ global_text name

-- [N x i64]
abbrev pub array_text : ℕ → List ℕ
array_text cells = codes "[" ++ decimal cells ++ codes " x i64]"

unfoldable pub pointer_parameter_text : List ℕ → ℕ → List ℕ
pointer_parameter_text name cells = codes "ptr noalias dereferenceable(" ++ decimal (cells * 8) ++ codes ") %" ++ name

-- i64 %x, ptr noalias dereferenceable(B) %p
abbrev pub parameter_text : Parameter → List ℕ
parameter_text (parameter.Number name) = codes "i64 " ++ register_text name
parameter_text (parameter.Pointer name cells) = pointer_parameter_text name cells

-- i64 V, ptr P
abbrev pub argument_text : Argument → List ℕ
argument_text (argument.Number value) = codes "i64 " ++ operand_text value
argument_text (argument.Pointer pointer) = address_text pointer

abbrev pub behind_comma : {A : Type 0} → (A → List ℕ) → A → List ℕ
behind_comma text x = codes ", " ++ text x

-- parted by commas
abbrev pub parameters_text : List Parameter → List ℕ
parameters_text [] = []
parameters_text (p ∷ ps) = parameter_text p ++ flat_map (behind_comma parameter_text) ps

abbrev pub arguments_text : List Argument → List ℕ
arguments_text [] = []
arguments_text (a ∷ as_) = argument_text a ++ flat_map (behind_comma argument_text) as_
