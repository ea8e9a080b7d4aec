-- Terminators.
use Rattle.std.specs.Prelude.{ℕ, List, Option, Some, None, Result, Ok, Err}
use Rattle.program.specs.declared.instruction.Case.{Case}
use Rattle.program.specs.declared.instruction.Ending.{Ending}
use Rattle.program.specs.declared.instruction.Terminator.{Terminator}
use Rattle.program.specs.declared.instruction.Terminator.TheVariants as terminator
use Rattle.syntax.specs.declared.instruction.Operand.{Operand as OperandText}
use Rattle.syntax.specs.declared.module.ResultType.{ResultType}
use Rattle.syntax.specs.declared.module.ResultType.TheVariants.{Number, Void}
use Rattle.syntax.specs.declared.operator.Width.{Width}
use Rattle.syntax.specs.declared.operator.Width.TheVariants.{Bits64}
use Rattle.syntax.specs.declared.terminator.Case.{Case as CaseText}
use Rattle.syntax.specs.declared.terminator.Ending.{Ending as EndingText}
use Rattle.syntax.specs.declared.terminator.Terminator.{Terminator as TerminatorText}
use Rattle.syntax.specs.declared.terminator.Terminator.TheVariants as text
use Rattle.refusal.specs.declared.broken.Broken.{Broken as TypeFault}
use Rattle.types.specs.declared.names.form.AnnotationPlace.TheVariants.{Body}
use Rattle.types.specs.names.Fault.{all_of, and_then, both_of, breaks, made_of, unless_of}
use Rattle.types.specs.names.Form.{inequalities_of}
use Rattle.types.specs.names.Operand.{condition_of, fits_width, label_of, operand_of, region_of}
use Rattle.types.specs.names.Scope.{Scope}

-- a case: its number is one of the switch's width, else 202
abbrev pub case_of : Scope → ℕ → Width → CaseText → Result Case TypeFault
case_of scope line width text = made_of (λ p. record { number = text.number; target = p.0 })
    (both_of (label_of scope line text.target) (unless_of (fits_width width text.number) (breaks 202 line)))

abbrev pub cases_of : Scope → ℕ → Width → List CaseText → Result (List Case) TypeFault
cases_of scope line width texts = all_of (λ _. case_of scope line width) texts

-- `ret` gives what the function's type says, else 202
abbrev pub return_of : Scope → ℕ → ResultType → Option OperandText → Result Terminator TypeFault
return_of scope line Void None = Ok (terminator.Return None)
return_of scope line Number None = Err (breaks 202 line)
return_of scope line Number (Some value) =
    made_of (λ v. terminator.Return (Some v)) (operand_of scope line Bits64 value)
return_of scope line Void (Some value) = and_then (operand_of scope line Bits64 value) (λ _. Err (breaks 202 line))

abbrev pub jump_of : Scope → ℕ → List ℕ → Result Terminator TypeFault
jump_of scope line target = made_of terminator.Jump (label_of scope line target)

abbrev pub branch_of : Scope → ℕ → List ℕ → List ℕ → List ℕ → Result Terminator TypeFault
branch_of scope line condition when_true when_false = made_of (λ p. terminator.Branch p.0 p.1.0 p.1.1) (both_of
    (condition_of scope line condition) (both_of (label_of scope line when_true) (label_of scope line when_false)))

abbrev pub switch_of : Scope → ℕ → Width → OperandText → List ℕ → List CaseText → Result Terminator TypeFault
switch_of scope line width value default cases = made_of (λ p. terminator.Switch width p.0 p.1.0 p.1.1) (both_of
    (operand_of scope line width value) (both_of (label_of scope line default) (cases_of scope line width cases)))

abbrev pub detach_of : Scope → ℕ → List ℕ → List ℕ → List ℕ → Result Terminator TypeFault
detach_of scope line region body continuation = made_of (λ p. terminator.Detach p.0 p.1.0 p.1.1)
    (both_of (region_of scope line region) (both_of (label_of scope line body) (label_of scope line continuation)))

abbrev pub reattach_of : Scope → ℕ → List ℕ → List ℕ → Result Terminator TypeFault
reattach_of scope line region continuation = made_of (λ p. terminator.Reattach p.0 p.1)
    (both_of (region_of scope line region) (label_of scope line continuation))

abbrev pub sync_of : Scope → ℕ → List ℕ → List ℕ → Result Terminator TypeFault
sync_of scope line region target =
    made_of (λ p. terminator.Sync p.0 p.1) (both_of (region_of scope line region) (label_of scope line target))

abbrev pub terminator_of : Scope → ℕ → ResultType → TerminatorText → Result Terminator TypeFault
terminator_of scope line result (text.Jump target) = jump_of scope line target
terminator_of scope line result (text.Branch condition when_true when_false) =
    branch_of scope line condition when_true when_false
terminator_of scope line result (text.Switch width value default cases) = switch_of scope line width value default cases
terminator_of scope line result (text.Return value) = return_of scope line result value
terminator_of scope line result (text.Detach region body continuation) = detach_of scope line region body continuation
terminator_of scope line result (text.Reattach region continuation) = reattach_of scope line region continuation
terminator_of scope line result (text.Sync region target) = sync_of scope line region target

abbrev pub known_ending_of : Scope → ResultType → EndingText → Result Ending TypeFault
known_ending_of scope result ending = made_of (λ p. record { line = ending.line; shows = p.0; terminator = p.1 })
    (both_of (inequalities_of scope Body ending.shows) (terminator_of scope ending.line result ending.terminator))

abbrev pub ending_of : Scope → ResultType → Option EndingText → Result (Option Ending) TypeFault
ending_of scope result None = Ok None
ending_of scope result (Some ending) = made_of Some (known_ending_of scope result ending)
