-- The words of a line behind ;! and what they say: a row for each shape. 103 where the words are of another shape, 107
-- where the first word begins no annotation.
use Rattle.std.specs.Prelude.{ℕ, ◌&&◌, List, [], ◌∷◌, codes, Option, Some, None, Result, Ok, Err, if◌then◌else◌}
use Rattle.std.specs.Str.{bytes_eq}
use Rattle.syntax.specs.declared.annotation.Inequality.{Inequality}
use Rattle.syntax.specs.declared.annotation.Zone.{Zone}
use Rattle.syntax.specs.declared.annotation.Pending.{Pending}
use Rattle.syntax.specs.declared.annotation.Measure.{Measure}
use Rattle.syntax.specs.declared.annotation.Budget.{Budget}
use Rattle.syntax.specs.declared.annotation.Left.{Left}
use Rattle.syntax.specs.declared.operator.Mode.{Mode}
use Rattle.syntax.specs.declared.operator.Mode.TheVariants as mode
use Rattle.ir_annotation.specs.declared.limits.Limited.{Limited}
use Rattle.ir_annotation.specs.declared.keywords.Keyword.{Keyword}
use Rattle.ir_annotation.specs.declared.keywords.Keyword.TheVariants as keyword
use Rattle.ir_annotation.specs.declared.meaning.Annotation.{Annotation}
use Rattle.ir_annotation.specs.declared.meaning.Annotation.TheVariants as annotation
use Rattle.ir_annotation.specs.declared.meaning.AnnotationLine.{AnnotationLine}
use Rattle.ir_annotation.specs.Reading.{◌>>=◌, made}
use Rattle.ir_annotation.specs.Words.{number_of, register_of, object_of, relation_of, mode_of}
use Rattle.ir_annotation.specs.Forms.{form_of}
use Rattle.ir_annotation.specs.Keywords.{keyword_of}
use Rattle.ir_annotation.specs.Limits.{limited}

-- F R F
unfoldable pub inequality_of : ℕ → List (List ℕ) → Result (Limited Inequality) ℕ
inequality_of line (left ∷ relation ∷ right ∷ []) = form_of left >>= λ l. relation_of relation >>=
    λ r. form_of right >>= λ h. Ok (limited (record { line = line; left = l.value; relation = r; right = h.value })
    (l.is_within_limits && h.is_within_limits))
inequality_of line _ = Err 103

-- O F F
unfoldable pub zone_of : ℕ → Mode → List (List ℕ) → Result (Limited Zone) ℕ
zone_of line mode (object ∷ low ∷ high ∷ []) = object_of object >>= λ o. form_of low >>= λ l. form_of high >>=
    λ h. Ok (limited (record { line = line; mode = mode; object = o.value; low = l.value; high = h.value })
    (o.is_within_limits && l.is_within_limits && h.is_within_limits))
zone_of line mode _ = Err 103

-- max N, N up to 4096
abbrev pub bound_of : List ℕ → List ℕ → Result (Limited ℕ) ℕ
bound_of max bound = if bytes_eq max (codes "max") then number_of 4096 bound else Err 103

-- F max N
unfoldable pub measure_of : ℕ → List (List ℕ) → Result (Limited Measure) ℕ
measure_of line (form ∷ max ∷ bound ∷ []) = form_of form >>= λ f. bound_of max bound >>= λ n.
    Ok (limited (record { line = line; form = f.value; bound = n.value }) (f.is_within_limits && n.is_within_limits))
measure_of line _ = Err 103

-- K S, each up to 10^12
unfoldable pub budget_from_words : ℕ → List (List ℕ) → Result (Limited Budget) ℕ
budget_from_words line (calls ∷ instructions ∷ []) = number_of 1000000000000 calls >>= λ k. number_of 1000000000000
    instructions >>= λ s. Ok (limited (record { line = line; self_calls = k.value; instructions = s.value })
    (k.is_within_limits && s.is_within_limits))
budget_from_words line _ = Err 103

-- F F
unfoldable pub left_of : ℕ → List (List ℕ) → Result (Limited Left) ℕ
left_of line (calls ∷ instructions ∷ []) = form_of calls >>= λ k. form_of instructions >>= λ s. Ok (limited
    (record { line = line; self_calls = k.value; instructions = s.value }) (k.is_within_limits && s.is_within_limits))
left_of line _ = Err 103

-- MODE O F F
unfoldable pub moded_zone_of : ℕ → List (List ℕ) → Result (Limited Zone) ℕ
moded_zone_of line [] = Err 103
moded_zone_of line (word ∷ words) = mode_of word >>= λ m. zone_of line m words

-- %s MODE O F F
unfoldable pub pending_of : ℕ → List (List ℕ) → Result (Limited Pending) ℕ
pending_of line [] = Err 103
pending_of line (region ∷ words) = register_of region >>= λ s. moded_zone_of line words >>=
    λ z. Ok (limited (record { region = s.value; zone = z.value }) (s.is_within_limits && z.is_within_limits))

abbrev pub as_line : {A : Type 0} → (A → Annotation) → Limited A → AnnotationLine
as_line kind found = record { annotation = kind found.value; is_within_limits = found.is_within_limits }

-- behind the first word
unfoldable pub annotation_behind : ℕ → Keyword → List (List ℕ) → Result AnnotationLine ℕ
annotation_behind line keyword.Requires words = made (as_line annotation.Requires) (inequality_of line words)
annotation_behind line keyword.Ensures words = made (as_line annotation.Ensures) (inequality_of line words)
annotation_behind line keyword.Reads words = made (as_line annotation.FunctionZone) (zone_of line mode.Reads words)
annotation_behind line keyword.Writes words = made (as_line annotation.FunctionZone) (zone_of line mode.Writes words)
annotation_behind line keyword.Adds words = made (as_line annotation.FunctionZone) (zone_of line mode.Adds words)
annotation_behind line keyword.Measure words = made (as_line annotation.Measure) (measure_of line words)
annotation_behind line keyword.Budget words = made (as_line annotation.Budget) (budget_from_words line words)
annotation_behind line keyword.Keeps words = made (as_line annotation.Keeps) (inequality_of line words)
annotation_behind line keyword.Pending words = made (as_line annotation.Pending) (pending_of line words)
annotation_behind line keyword.Left words = made (as_line annotation.Left) (left_of line words)
annotation_behind line keyword.Foot words = made (as_line annotation.Foot) (moded_zone_of line words)
annotation_behind line keyword.Shows words = made (as_line annotation.Shows) (inequality_of line words)

abbrev pub behind_keyword : ℕ → Option Keyword → List (List ℕ) → Result AnnotationLine ℕ
behind_keyword line None words = Err 107
behind_keyword line (Some keyword) words = annotation_behind line keyword words

-- the annotation that the words behind ;! of a line make
abbrev pub annotation_of : List (List ℕ) → ℕ → Result AnnotationLine ℕ
annotation_of [] line = Err 103
annotation_of (word ∷ words) line = behind_keyword line (keyword_of word) words
