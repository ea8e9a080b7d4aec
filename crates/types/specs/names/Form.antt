-- Forms of annotations, and what they may name.
use Rattle.std.specs.Prelude.{ℕ, ◌+◌, ℤ, pos, negsuc, ◌-ℤ◌, int_le, int_lt, nat_le, Bool, ◌&&◌, ◌||◌, not}
use Rattle.std.specs.Prelude.{codes, List, [], ◌∷◌, length}
use Rattle.std.specs.Prelude.{count_by, Option, Some, None, if◌then◌else◌, Result, Ok, Err}
use Rattle.std.specs.List.{list_all}
use Rattle.std.specs.Str.{bytes_eq}
use Rattle.linear.specs.declared.form.Form.{Form}
use Rattle.linear.specs.declared.form.RegisterId.{RegisterId}
use Rattle.linear.specs.declared.form.Term.{Term}
use Rattle.linear.specs.Terms.{constant_form}
use Rattle.linear.specs.Lookup.{looked_up}
use Rattle.linear.specs.Made.{with_term}
use Rattle.program.specs.declared.annotation.Inequality.{Inequality}
use Rattle.syntax.specs.declared.annotation.Form.{Form as FormText}
use Rattle.syntax.specs.declared.annotation.Inequality.{Inequality as InequalityText}
use Rattle.syntax.specs.declared.annotation.Relation.{Relation}
use Rattle.syntax.specs.declared.annotation.Relation.TheVariants.{AtMost, AtLeast}
use Rattle.syntax.specs.declared.annotation.Term.{Term as TermText}
use Rattle.syntax.specs.declared.operator.Width.TheVariants.{Bits64}
use Rattle.refusal.specs.declared.broken.Broken.{Broken as TypeFault}
use Rattle.types.specs.declared.names.form.AnnotationPlace.{AnnotationPlace}
use Rattle.types.specs.declared.names.form.AnnotationPlace.TheVariants as place
use Rattle.types.specs.declared.names.scope.Named.{Named}
use Rattle.types.specs.declared.names.scope.Named.TheVariants as named
use Rattle.types.specs.declared.names.scope.Register.{Register}
use Rattle.types.specs.names.Fault.{all_of, and_then, both_of, breaks, made_of, unless_of}
use Rattle.types.specs.names.Operand.{passing, register_of}
use Rattle.types.specs.names.Scope.{Scope, is_number, is_number_of, is_parameter, is_step_of}
use Rattle.types.specs.names.Table.{look_up}

-- the parameter: 201 where no parameter has the name
abbrev pub as_parameter : ℕ → Option Named → Result Register TypeFault
as_parameter line (Some (named.Register register)) =
    made_of (λ _. register) (unless_of (is_parameter register.origin) (breaks 201 line))
as_parameter line other = Err (breaks 201 line)

abbrev pub parameter_of : Scope → ℕ → List ℕ → Result Register TypeFault
parameter_of scope line name = as_parameter line (look_up scope name)

-- a parameter that is a number, else 202
abbrev pub parameter_term_of : Scope → ℕ → List ℕ → Result RegisterId TypeFault
parameter_term_of scope line name = and_then (parameter_of scope line name) (passing (is_number_of Bits64) line)

-- `%.ret`, which a function that returns nothing has not
abbrev pub as_outcome : ℕ → Option RegisterId → Result RegisterId TypeFault
as_outcome line None = Err (breaks 201 line)
as_outcome line (Some register) = Ok register

abbrev pub guarantee_term_of : Scope → ℕ → Option RegisterId → List ℕ → Result RegisterId TypeFault
guarantee_term_of scope line outcome name =
    if bytes_eq name (codes ".ret") then as_outcome line outcome else parameter_term_of scope line name

-- a register that holds a number of either width, else 202
abbrev pub number_of : Scope → ℕ → List ℕ → Result Register TypeFault
number_of scope line name = and_then (register_of scope line name)
    (λ register. made_of (λ _. register) (unless_of (is_number register.holding) (breaks 202 line)))

-- 206: an instruction of the block itself defines the register
abbrev pub made_before : ℕ → ℕ → Register → Result (Unit {0}) TypeFault
made_before line block register = unless_of (not (is_step_of block register.origin)) (breaks 206 line)

abbrev pub term_register_of : Scope → AnnotationPlace → ℕ → List ℕ → Result RegisterId TypeFault
term_register_of scope place.Head line name = parameter_term_of scope line name
term_register_of scope (place.Guarantee outcome) line name = guarantee_term_of scope line outcome name
term_register_of scope place.Body line name = made_of (λ register. register.id) (number_of scope line name)
term_register_of scope (place.Start block) line name =
    and_then (number_of scope line name) (λ register. made_of (λ _. register.id) (made_before line block register))

abbrev pub is_small_coefficient : ℤ → Bool
is_small_coefficient coefficient = int_le (negsuc 999999) coefficient && int_le coefficient (pos 1000000)

-- a term: 206 beside the faults of its register
abbrev pub term_of : Scope → AnnotationPlace → ℕ → TermText → Result Term TypeFault
term_of scope place line term = made_of (λ p. record { register = p.0; coefficient = term.coefficient })
    (both_of (term_register_of scope place line term.register)
    (unless_of (is_small_coefficient term.coefficient) (breaks 206 line)))

abbrev pub keeps_limits : FormText → Bool
keeps_limits form = nat_le (length form.terms) 4 && int_le (negsuc 9223372036854775806) form.constant

-- 206 where the coefficient of a register would pass the bounds of a form
abbrev pub within_bounds : ℕ → Option Form → Result Form TypeFault
within_bounds line None = Err (breaks 206 line)
within_bounds line (Some form) = Ok form

-- a form with one more term, at its place among the registers
abbrev pub with_one : ℕ → Form → Term → Result Form TypeFault
with_one line form term = within_bounds line (with_term form term.register term.coefficient)

abbrev pub with_all : ℕ → Form → List Term → Result Form TypeFault
with_all line form [] = Ok form
with_all line form (term ∷ terms) = and_then (with_one line form term) (λ more. with_all line more terms)

-- a form whose terms rise by their registers
abbrev pub ordered_form : ℕ → List Term → ℤ → Result Form TypeFault
ordered_form line terms constant = with_all line (constant_form constant) terms

-- `F`
abbrev pub form_in_scope : Scope → AnnotationPlace → ℕ → FormText → Result Form TypeFault
form_in_scope scope place line form = and_then (both_of (all_of (λ _. term_of scope place line) form.terms)
    (unless_of (keeps_limits form) (breaks 206 line))) (λ p. ordered_form line p.0 form.constant)

abbrev pub differs : ℤ → ℤ → Bool
differs a b = int_lt a b || int_lt b a

abbrev pub is_changed : List Term → Term → Bool
is_changed others term = differs term.coefficient (looked_up others term.register.0)

abbrev pub is_new : List Term → Term → Bool
is_new others term = not (differs (looked_up others term.register.0) (pos 0))

abbrev pub is_close : ℤ → ℤ → Bool
is_close a b = int_le (negsuc 999999) (a -ℤ b) && int_le (a -ℤ b) (pos 1000000)

abbrev pub are_terms_within : List Term → List Term → Bool
are_terms_within left right = nat_le (count_by (is_changed right) left + count_by (is_new left) right) 4 &&
    list_all (λ term. is_close term.coefficient (looked_up right term.register.0)) left

abbrev pub is_within_numbers : ℤ → ℤ → Bool
is_within_numbers a b = int_le (negsuc 9223372036854775806) (a -ℤ b) && int_le (a -ℤ b) (pos 9223372036854775807)

-- the difference of both sides keeps the limits of a form
unfoldable pub is_difference_within : List Term → ℤ → List Term → ℤ → Bool
is_difference_within left constant right constant' = are_terms_within left right && is_within_numbers constant constant'

-- `F >= G` stands as `G <= F`
abbrev pub inequality_between : ℕ → Relation → Form → Form → Inequality
inequality_between line AtMost left right = record { line = line; low = left; high = right }
inequality_between line AtLeast left right = record { line = line; low = right; high = left }

-- 206 where the difference of both sides passes a limit
abbrev pub limited_inequality : InequalityText → Form → Form → Result Inequality TypeFault
limited_inequality text left right = made_of (λ _. inequality_between text.line text.relation left right) (unless_of
    (is_difference_within left.terms text.left.constant right.terms text.right.constant) (breaks 206 text.line))

-- `F R F`
abbrev pub inequality_of : Scope → AnnotationPlace → InequalityText → Result Inequality TypeFault
inequality_of scope place text = and_then (both_of (form_in_scope scope place text.line text.left)
    (form_in_scope scope place text.line text.right)) (λ p. limited_inequality text p.0 p.1)

abbrev pub inequalities_of : Scope → AnnotationPlace → List InequalityText → Result (List Inequality) TypeFault
inequalities_of scope place texts = all_of (λ _. inequality_of scope place) texts
