-- The canonical spelling of annotations' words, parted by one space.
use Rattle.std.specs.Prelude.{ℕ, ℤ, ◌==◌, Bool, true, false, List, [], ◌∷◌, ◌++◌, codes, flat_map, unsigned_abs, int_lt}
use Rattle.std.specs.Prelude.{pos, if◌then◌else◌}
use Rattle.std.specs.Fmt.{signed_decimal, decimal}
use Rattle.syntax.specs.declared.annotation.Term.{Term}
use Rattle.syntax.specs.declared.annotation.Form.{Form}
use Rattle.syntax.specs.declared.annotation.Relation.{Relation}
use Rattle.syntax.specs.declared.annotation.Relation.TheVariants.{AtMost, AtLeast}
use Rattle.syntax.specs.declared.annotation.Inequality.{Inequality}
use Rattle.syntax.specs.declared.annotation.Zone.{Zone}
use Rattle.syntax.specs.declared.annotation.Pending.{Pending}
use Rattle.syntax.specs.declared.annotation.Measure.{Measure}
use Rattle.syntax.specs.declared.annotation.Budget.{Budget}
use Rattle.syntax.specs.declared.annotation.Left.{Left}
use Rattle.syntax.specs.declared.instruction.Address.{Address}
use Rattle.syntax.specs.declared.instruction.Address.TheVariants as address
use Rattle.syntax.specs.declared.operator.Mode.{Mode}
use Rattle.syntax.specs.declared.operator.Mode.TheVariants.{Reads, Writes, Adds}
use Rattle.ir_lex.specs.Names.{register_text, global_text}

-- the sign before a term or the constant; the first term has none but a minus
abbrev pub sign_text : Bool → ℤ → List ℕ
sign_text is_first z = if int_lt z (pos 0) then codes "-" else if is_first then [] else codes "+"

-- 1 is left out
abbrev pub factor_text : ℕ → List ℕ
factor_text n = if n == 1 then [] else decimal n ++ codes "*"

abbrev pub term_text : Bool → Term → List ℕ
term_text is_first t = sign_text is_first t.coefficient ++ factor_text (unsigned_abs t.coefficient) ++ codes "%" ++
    t.register

-- the constant behind a register
abbrev pub constant_text : ℤ → List ℕ
constant_text z = if unsigned_abs z == 0 then [] else sign_text false z ++ decimal (unsigned_abs z)

abbrev pub terms_text : List Term → ℤ → List ℕ
terms_text [] constant = signed_decimal constant
terms_text (t ∷ ts) constant = term_text true t ++ flat_map (term_text false) ts ++ constant_text constant

-- registers in their order, and then the constant, unless it is 0 behind a register
unfoldable pub form_text : Form → List ℕ
form_text f = terms_text f.terms f.constant

abbrev pub relation_text : Relation → List ℕ
relation_text AtMost = codes "<="
relation_text AtLeast = codes ">="

abbrev pub mode_text : Mode → List ℕ
mode_text Reads = codes "reads"
mode_text Writes = codes "writes"
mode_text Adds = codes "adds"

abbrev pub object_text : Address → List ℕ
object_text (address.Register name) = register_text name
object_text (address.Global name) = global_text name

-- WORD F R F
unfoldable pub inequality_text : List ℕ → Inequality → List ℕ
inequality_text word i = word ++ codes " " ++ form_text i.left ++ codes " " ++ relation_text i.relation ++ codes " " ++
    form_text i.right

-- MODE O F F
unfoldable pub zone_text : Zone → List ℕ
zone_text z = mode_text z.mode ++ codes " " ++ object_text z.object ++ codes " " ++ form_text z.low ++ codes " " ++
    form_text z.high

unfoldable pub measure_text : Measure → List ℕ
measure_text m = codes "measure " ++ form_text m.form ++ codes " max " ++ decimal m.bound

unfoldable pub budget_text : Budget → List ℕ
budget_text b = codes "budget " ++ decimal b.self_calls ++ codes " " ++ decimal b.instructions

unfoldable pub pending_text : Pending → List ℕ
pending_text p = codes "pending " ++ register_text p.region ++ codes " " ++ zone_text p.zone

unfoldable pub left_text : Left → List ℕ
left_text l = codes "left " ++ form_text l.self_calls ++ codes " " ++ form_text l.instructions

unfoldable pub foot_text : Zone → List ℕ
foot_text z = codes "foot " ++ zone_text z
