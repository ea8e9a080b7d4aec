-- Annotations as a module's text keeps them, and the words that print them.
use Rattle.std.specs.Prelude.{◌≡◌, ℕ, ◌≤◌, true, List, [], ◌∷◌, codes, length}
use Rattle.std.specs.Fmt.{decimal}
use Rattle.syntax.specs.declared.annotation.Inequality.{Inequality}
use Rattle.syntax.specs.declared.annotation.Zone.{Zone}
use Rattle.syntax.specs.declared.annotation.Pending.{Pending}
use Rattle.syntax.specs.declared.annotation.Measure.{Measure}
use Rattle.syntax.specs.declared.annotation.Budget.{Budget}
use Rattle.syntax.specs.declared.annotation.Left.{Left}
use Rattle.syntax.specs.declared.instruction.Address.{Address}
use Rattle.syntax.specs.declared.instruction.Address.TheVariants as address
use Rattle.ir_annotation.specs.declared.meaning.Annotation.{Annotation}
use Rattle.ir_annotation.specs.declared.meaning.Annotation.TheVariants as annotation
use Rattle.ir_annotation.specs.declared.meaning.AnnotationLine.{AnnotationLine}
use Rattle.ir_lex.specs.Spelling.{is_name}
use Rattle.ir_lex.specs.Names.{register_text}
use Rattle.ir_annotation.specs.Canonical.{IsCanonical}
use Rattle.ir_annotation.specs.Spelling.{form_text, relation_text, mode_text, object_text}

-- within its limits
abbrev pub read_as : Annotation → AnnotationLine
read_as a = record { annotation = a; is_within_limits = true }

-- ---- what an annotation keeps

-- a name within its limit
pub record IsShortName (name : List ℕ) : Type 0 where
  pub spelled : is_name name ≡ true
  pub short : length name ≤ 64

abbrev pub address_name : Address → List ℕ
address_name (address.Register name) = name
address_name (address.Global name) = name

pub record IsInequality (i : Inequality) : Type 0 where
  pub left : IsCanonical i.left
  pub right : IsCanonical i.right

pub record IsZone (z : Zone) : Type 0 where
  pub object : IsShortName (address_name z.object)
  pub low : IsCanonical z.low
  pub high : IsCanonical z.high

pub record IsPending (p : Pending) : Type 0 where
  pub region : IsShortName p.region
  pub zone : IsZone p.zone

pub record IsMeasure (m : Measure) : Type 0 where
  pub form : IsCanonical m.form
  pub bound : m.bound ≤ 4096

pub record IsBudget (b : Budget) : Type 0 where
  pub self_calls : b.self_calls ≤ 1000000000000
  pub instructions : b.instructions ≤ 1000000000000

pub record IsLeft (l : Left) : Type 0 where
  pub self_calls : IsCanonical l.self_calls
  pub instructions : IsCanonical l.instructions

-- forms are canonical, and names and numbers within their limits
abbrev pub IsKeptAnnotation : Annotation → Type 0
IsKeptAnnotation (annotation.Requires i) = IsInequality i
IsKeptAnnotation (annotation.Ensures i) = IsInequality i
IsKeptAnnotation (annotation.FunctionZone z) = IsZone z
IsKeptAnnotation (annotation.Measure m) = IsMeasure m
IsKeptAnnotation (annotation.Budget b) = IsBudget b
IsKeptAnnotation (annotation.Keeps i) = IsInequality i
IsKeptAnnotation (annotation.Pending p) = IsPending p
IsKeptAnnotation (annotation.Left l) = IsLeft l
IsKeptAnnotation (annotation.Foot z) = IsZone z
IsKeptAnnotation (annotation.Shows i) = IsInequality i

-- ---- how it is printed

abbrev pub inequality_words : Inequality → List (List ℕ)
inequality_words i = form_text i.left ∷ relation_text i.relation ∷ form_text i.right ∷ []

abbrev pub zone_words : Zone → List (List ℕ)
zone_words z = object_text z.object ∷ form_text z.low ∷ form_text z.high ∷ []

abbrev pub moded_zone_words : Zone → List (List ℕ)
moded_zone_words z = mode_text z.mode ∷ zone_words z

-- the words behind ;!
abbrev pub annotation_words : Annotation → List (List ℕ)
annotation_words (annotation.Requires i) = codes "requires" ∷ inequality_words i
annotation_words (annotation.Ensures i) = codes "ensures" ∷ inequality_words i
annotation_words (annotation.FunctionZone z) = moded_zone_words z
annotation_words (annotation.Measure m) = codes "measure" ∷ form_text m.form ∷ codes "max" ∷ decimal m.bound ∷ []
annotation_words (annotation.Budget b) = codes "budget" ∷ decimal b.self_calls ∷ decimal b.instructions ∷ []
annotation_words (annotation.Keeps i) = codes "keeps" ∷ inequality_words i
annotation_words (annotation.Pending p) = codes "pending" ∷ register_text p.region ∷ moded_zone_words p.zone
annotation_words (annotation.Left l) = codes "left" ∷ form_text l.self_calls ∷ form_text l.instructions ∷ []
annotation_words (annotation.Foot z) = codes "foot" ∷ moded_zone_words z
annotation_words (annotation.Shows i) = codes "shows" ∷ inequality_words i

-- ---- the same on another line

abbrev pub inequality_on : ℕ → Inequality → Inequality
inequality_on line i = record i { line = line }

abbrev pub zone_on : ℕ → Zone → Zone
zone_on line z = record z { line = line }

abbrev pub pending_on : ℕ → Pending → Pending
pending_on line p = record p { zone = zone_on line p.zone }

abbrev pub measure_on : ℕ → Measure → Measure
measure_on line m = record m { line = line }

abbrev pub budget_on : ℕ → Budget → Budget
budget_on line b = record b { line = line }

abbrev pub left_on : ℕ → Left → Left
left_on line l = record l { line = line }

abbrev pub annotation_on : ℕ → Annotation → Annotation
annotation_on line (annotation.Requires i) = annotation.Requires (inequality_on line i)
annotation_on line (annotation.Ensures i) = annotation.Ensures (inequality_on line i)
annotation_on line (annotation.FunctionZone z) = annotation.FunctionZone (zone_on line z)
annotation_on line (annotation.Measure m) = annotation.Measure (measure_on line m)
annotation_on line (annotation.Budget b) = annotation.Budget (budget_on line b)
annotation_on line (annotation.Keeps i) = annotation.Keeps (inequality_on line i)
annotation_on line (annotation.Pending p) = annotation.Pending (pending_on line p)
annotation_on line (annotation.Left l) = annotation.Left (left_on line l)
annotation_on line (annotation.Foot z) = annotation.Foot (zone_on line z)
annotation_on line (annotation.Shows i) = annotation.Shows (inequality_on line i)
