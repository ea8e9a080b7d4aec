-- What is told of a program that a handle holds.
use Rattle.std.proofs.Common.{◌≡◌, ◌∙◌, ◌≤◌, ℕ, Option, Some, None, ap, arith, length, subst, sym}
use Rattle.program.specs.declared.function.Function.{Function}
use Rattle.program.specs.declared.function.Program.{Program}
use Rattle.kernel_calls.specs.Inside.{AreAtMost, HasFrames, arguments_in, globals_in, parameters_in}

pub globals_held : (handle : Option Program) (program : Program) (count : ℕ) → handle ≡ Some program → count ≡ length program.globals → count ≡ globals_in handle
globals_held handle program count is all = all ∙ sym (ap (λ (o : Option Program). globals_in o) is)

pub globals_none : (handle : Option Program) → handle ≡ None → 0 ≡ globals_in handle
globals_none handle is = sym (ap (λ (o : Option Program). globals_in o) is)

pub arguments_held : (handle : Option Program) (program : Program) (count : ℕ) → handle ≡ Some program → count ≡ arguments_in (Some program) → count ≡ arguments_in handle
arguments_held handle program count is all = all ∙ sym (ap (λ (o : Option Program). arguments_in o) is)

pub arguments_none : (handle : Option Program) → handle ≡ None → 0 ≡ arguments_in handle
arguments_none handle is = sym (ap (λ (o : Option Program). arguments_in o) is)

pub frames_held : (handle : Option Program) (program : Program) (most : ℕ) → handle ≡ Some program → AreAtMost program.functions most → HasFrames handle most
frames_held handle program most is all = subst (λ (o : Option Program). HasFrames o most) (sym is) all

pub frames_none : (handle : Option Program) (most : ℕ) → handle ≡ None → most ≡ 0 → HasFrames handle most
frames_none handle most is none = subst (λ (o : Option Program). HasFrames o most) (sym is) none

pub parameters_held : (found : Option Function) (main : Function) (count : ℕ) → found ≡ Some main → count ≡ length main.parameters → count ≡ parameters_in found
parameters_held found main count is all = all ∙ sym (ap (λ (o : Option Function). parameters_in o) is)

pub parameters_none : (found : Option Function) → found ≡ None → 0 ≡ parameters_in found
parameters_none found is = sym (ap (λ (o : Option Function). parameters_in o) is)

pub parameters_few : (found : Option Function) (main : Function) (number : ℕ) → found ≡ Some main → length main.parameters ≤ number → parameters_in found ≤ number
parameters_few found main number is few = subst (λ (o : Option Function). parameters_in o ≤ number) (sym is) few

pub parameters_lacking : (found : Option Function) (number : ℕ) → found ≡ None → parameters_in found ≤ number
parameters_lacking found number is = subst (λ (o : Option Function). parameters_in o ≤ number) (sym is) (omega arith)
