-- Only the printer's own functions need these: how terminators are spelled, as text.
use Rattle.std.specs.Prelude.{ℕ, List, ◌++◌, codes, flat_map, Option, Some, None}
use Rattle.std.specs.Fmt.{signed_decimal}
use Rattle.syntax.specs.declared.operator.Width.{Width}
use Rattle.syntax.specs.declared.instruction.Operand.{Operand}
use Rattle.syntax.specs.declared.terminator.Case.{Case}
use Rattle.syntax.specs.declared.terminator.Terminator.{Terminator}
use Rattle.syntax.specs.declared.terminator.Terminator.TheVariants as terminator
use Rattle.ir_lex.specs.Names.{register_text}
use Rattle.ir_instruction.specs.Spelling.{width_word}
use Rattle.ir_spelling.specs.Spelling.{label_text, operand_text}

abbrev pub jump_text : List ℕ → List ℕ
jump_text target = codes "br " ++ label_text target

abbrev pub branch_text : List ℕ → List ℕ → List ℕ → List ℕ
branch_text condition when_true when_false =
    codes "br i1 " ++ register_text condition ++ codes ", " ++ label_text when_true ++ codes ", " ++
    label_text when_false

abbrev pub case_text : Width → Case → List ℕ
case_text width c = codes " " ++ width_word width ++ codes " " ++ signed_decimal c.number ++ codes ", " ++
    label_text c.target

abbrev pub switch_text : Width → Operand → List ℕ → List Case → List ℕ
switch_text width value default cases =
    codes "switch " ++ width_word width ++ codes " " ++ operand_text value ++ codes ", " ++ label_text default
    ++ codes " [" ++ flat_map (case_text width) cases ++ codes " ]"

abbrev pub return_text : Option Operand → List ℕ
return_text None = codes "ret void"
return_text (Some value) = codes "ret i64 " ++ operand_text value

abbrev pub detach_text : List ℕ → List ℕ → List ℕ → List ℕ
detach_text region body continuation =
    codes "detach within " ++ register_text region ++ codes ", " ++ label_text body ++ codes ", " ++
    label_text continuation

unfoldable pub reattach_text : List ℕ → List ℕ → List ℕ
reattach_text region continuation = codes "reattach within " ++ register_text region ++ codes ", " ++
    label_text continuation

abbrev pub sync_text : List ℕ → List ℕ → List ℕ
sync_text region target = codes "sync within " ++ register_text region ++ codes ", " ++ label_text target

abbrev pub terminator_text : Terminator → List ℕ
terminator_text (terminator.Jump target) = jump_text target
terminator_text (terminator.Branch condition when_true when_false) = branch_text condition when_true when_false
terminator_text (terminator.Switch width value default cases) = switch_text width value default cases
terminator_text (terminator.Return value) = return_text value
terminator_text (terminator.Detach region body continuation) = detach_text region body continuation
terminator_text (terminator.Reattach region continuation) = reattach_text region continuation
terminator_text (terminator.Sync region target) = sync_text region target
