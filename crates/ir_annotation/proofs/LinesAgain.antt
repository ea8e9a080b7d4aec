-- Annotations that are printed are read back.
use Rattle.std.proofs.Common.{◌≡◌, ℕ, ◌^◌, ◌<◌, ◌≤◌, Bool, cond, List, [], ◌∷◌, ◌++◌, Option, Result, Ok, Err, refl, ap, ◌∙◌, arith}
use Rattle.std.specs.Prelude.{codes}
use Rattle.std.specs.Fmt.{decimal}
use Rattle.std.proofs.lemmas.Bool.{le-leb}
use Rattle.syntax.specs.declared.annotation.Relation.{Relation}
use Rattle.syntax.specs.declared.annotation.Relation.TheVariants.{AtMost, AtLeast}
use Rattle.syntax.specs.declared.annotation.Inequality.{Inequality}
use Rattle.syntax.specs.declared.annotation.Zone.{Zone}
use Rattle.syntax.specs.declared.annotation.Pending.{Pending}
use Rattle.syntax.specs.declared.annotation.Measure.{Measure}
use Rattle.syntax.specs.declared.annotation.Budget.{Budget}
use Rattle.syntax.specs.declared.annotation.Left.{Left}
use Rattle.syntax.specs.declared.instruction.Address.{Address}
use Rattle.syntax.specs.declared.instruction.Address.TheVariants as address
use Rattle.syntax.specs.declared.operator.Mode.{Mode}
use Rattle.syntax.specs.declared.operator.Mode.TheVariants.{Reads, Writes, Adds}
use Rattle.ir_annotation.specs.declared.limits.Limited.{Limited}
use Rattle.ir_annotation.specs.declared.meaning.Annotation.{Annotation}
use Rattle.ir_annotation.specs.declared.meaning.Annotation.TheVariants as annotation
use Rattle.ir_annotation.specs.Limits.{within, past_limit, up_to}
use Rattle.ir_annotation.specs.Reading.{made}
use Rattle.ir_lex.specs.Numerals.{small_value}
use Rattle.ir_annotation.specs.Words.{number_of, name_of, register_of, object_of, relation_of, mode_of}
use Rattle.ir_annotation.specs.Spelling.{form_text, relation_text, mode_text, object_text}
use Rattle.ir_annotation.specs.Lines.{inequality_of, zone_of, measure_of, budget_from_words, left_of, moded_zone_of, pending_of, as_line, annotation_behind, annotation_of}
use Rattle.ir_annotation.specs.Annotations.{read_as, IsShortName, address_name, IsInequality, IsZone, IsPending, IsMeasure, IsBudget, IsLeft, IsKeptAnnotation, inequality_words, zone_words, moded_zone_words, annotation_words, inequality_on, zone_on, pending_on, measure_on, budget_on, left_on, annotation_on}
use Rattle.ir_annotation.proofs.Again.{numeral_decimal, small_again, name_again}
use Rattle.ir_annotation.proofs.AgainTerms.{spelled_again}

-- ---- words

relation_again : (r : Relation) → relation_of (relation_text r) ≡ Ok r
relation_again AtMost = refl
relation_again AtLeast = refl

mode_again : (m : Mode) → mode_of (mode_text m) ≡ Ok m
mode_again Reads = refl
mode_again Writes = refl
mode_again Adds = refl

short_again : (name : List ℕ) → IsShortName name → name_of name ≡ Ok (within name)
short_again name is = name_again name is.spelled is.short

object_again : (a : Address) → IsShortName (address_name a) → object_of (object_text a) ≡ Ok (within a)
object_again (address.Register name) is = rw (short_again name is) refl
object_again (address.Global name) is = rw (short_again name is) refl

region_again : (name : List ℕ) → IsShortName name → register_of (codes "%" ++ name) ≡ Ok (within name)
region_again name is = short_again name is

bounded_again : (most n : ℕ) → n ≤ most → n < 2 ^ 63 → number_of most (decimal n) ≡ Ok (within n)
unfolding number_of
bounded_again most n le h =
    ap (λ (b : Bool). cond b (let r : Result (Limited ℕ) ℕ = Ok (up_to most (small_value (decimal n))) in r) (Err 103)) (numeral_decimal n h)
    ∙ ap (λ (o : Option ℕ). let r : Result (Limited ℕ) ℕ = Ok (up_to most o) in r) (small_again n h)
    ∙ ap (λ (b : Bool). let r : Result (Limited ℕ) ℕ = Ok (cond b (within n) (past_limit 0)) in r) (le-leb n most le)

-- ---- shapes

inequality_again : (line : ℕ) (i : Inequality) → IsInequality i → inequality_of line (inequality_words i) ≡ Ok (within (inequality_on line i))
unfolding inequality_of
inequality_again line i is = rw (spelled_again i.left is.left, relation_again i.relation, spelled_again i.right is.right) refl

abbrev zone_as : ℕ → Mode → Zone → Zone
zone_as line m z = record { line = line; mode = m; object = z.object; low = z.low; high = z.high }

zone_again : (line : ℕ) (m : Mode) (z : Zone) → IsZone z → zone_of line m (zone_words z) ≡ Ok (within (zone_as line m z))
unfolding zone_of
zone_again line m z is = rw (object_again z.object is.object, spelled_again z.low is.low, spelled_again z.high is.high) refl

moded_zone_again : (line : ℕ) (z : Zone) → IsZone z → moded_zone_of line (moded_zone_words z) ≡ Ok (within (zone_on line z))
unfolding moded_zone_of
moded_zone_again line z is = rw (mode_again z.mode) (zone_again line z.mode z is)

pending_again : (line : ℕ) (p : Pending) → IsPending p → pending_of line ((codes "%" ++ p.region) ∷ moded_zone_words p.zone) ≡ Ok (within (pending_on line p))
unfolding pending_of
pending_again line p is = rw (short_again p.region is.region, moded_zone_again line p.zone is.zone) refl

measure_again : (line : ℕ) (m : Measure) → IsMeasure m → measure_of line (form_text m.form ∷ codes "max" ∷ decimal m.bound ∷ []) ≡ Ok (within (measure_on line m))
unfolding measure_of
measure_again line m is = rw (spelled_again m.form is.form, bounded_again 4096 m.bound is.bound (omega (arith, is.bound))) refl

budget_again : (line : ℕ) (b : Budget) → IsBudget b → budget_from_words line (decimal b.self_calls ∷ decimal b.instructions ∷ []) ≡ Ok (within (budget_on line b))
unfolding budget_from_words
budget_again line b is =
    rw (bounded_again 1000000000000 b.self_calls is.self_calls (omega (arith, is.self_calls)), bounded_again 1000000000000 b.instructions is.instructions (omega (arith, is.instructions))) refl

left_again : (line : ℕ) (l : Left) → IsLeft l → left_of line (form_text l.self_calls ∷ form_text l.instructions ∷ []) ≡ Ok (within (left_on line l))
unfolding left_of
left_again line l is = rw (spelled_again l.self_calls is.self_calls, spelled_again l.instructions is.instructions) refl

-- ---- lines

zone_line_again : (line : ℕ) (m : Mode) (z : Zone) → IsZone z → annotation_of (mode_text m ∷ zone_words z) line ≡ Ok (read_as (annotation.FunctionZone (zone_as line m z)))
unfolding annotation_behind
zone_line_again line Reads z is = ap (made (as_line annotation.FunctionZone)) (zone_again line Reads z is)
zone_line_again line Writes z is = ap (made (as_line annotation.FunctionZone)) (zone_again line Writes z is)
zone_line_again line Adds z is = ap (made (as_line annotation.FunctionZone)) (zone_again line Adds z is)

pub annotation_again : (line : ℕ) (a : Annotation) → IsKeptAnnotation a → annotation_of (annotation_words a) line ≡ Ok (read_as (annotation_on line a))
unfolding annotation_behind
annotation_again line (annotation.Requires i) is = ap (made (as_line annotation.Requires)) (inequality_again line i is)
annotation_again line (annotation.Ensures i) is = ap (made (as_line annotation.Ensures)) (inequality_again line i is)
annotation_again line (annotation.FunctionZone z) is = zone_line_again line z.mode z is
annotation_again line (annotation.Measure m) is = ap (made (as_line annotation.Measure)) (measure_again line m is)
annotation_again line (annotation.Budget b) is = ap (made (as_line annotation.Budget)) (budget_again line b is)
annotation_again line (annotation.Keeps i) is = ap (made (as_line annotation.Keeps)) (inequality_again line i is)
annotation_again line (annotation.Pending p) is = ap (made (as_line annotation.Pending)) (pending_again line p is)
annotation_again line (annotation.Left l) is = ap (made (as_line annotation.Left)) (left_again line l is)
annotation_again line (annotation.Foot z) is = ap (made (as_line annotation.Foot)) (moded_zone_again line z is)
annotation_again line (annotation.Shows i) is = ap (made (as_line annotation.Shows)) (inequality_again line i is)
