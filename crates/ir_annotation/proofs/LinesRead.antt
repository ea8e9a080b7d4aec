-- Annotations that are read are as a module's text keeps them.
use Rattle.std.proofs.Common.{◌≡◌, ℕ, ◌≤◌, Bool, true, false, cond, eqb, List, [], ◌∷◌, Option, Some, None, Result, Ok, Err, refl, subst}
use Rattle.std.specs.Prelude.{codes, nat_le, ◌&&◌}
use Rattle.std.specs.Str.{bytes_eq}
use Rattle.std.proofs.lemmas.Bool.{leb-true, and_parts}
use Rattle.syntax.specs.declared.annotation.Form.{Form}
use Rattle.syntax.specs.declared.annotation.Relation.{Relation}
use Rattle.syntax.specs.declared.annotation.Inequality.{Inequality}
use Rattle.syntax.specs.declared.annotation.Zone.{Zone}
use Rattle.syntax.specs.declared.annotation.Pending.{Pending}
use Rattle.syntax.specs.declared.annotation.Measure.{Measure}
use Rattle.syntax.specs.declared.annotation.Budget.{Budget}
use Rattle.syntax.specs.declared.annotation.Left.{Left}
use Rattle.syntax.specs.declared.instruction.Address.{Address}
use Rattle.syntax.specs.declared.instruction.Address.TheVariants as address
use Rattle.syntax.specs.declared.operator.Mode.{Mode}
use Rattle.syntax.specs.declared.operator.Mode.TheVariants as mode
use Rattle.ir_annotation.specs.declared.limits.Limited.{Limited}
use Rattle.ir_annotation.specs.declared.keywords.Keyword.{Keyword}
use Rattle.ir_annotation.specs.declared.keywords.Keyword.TheVariants as keyword
use Rattle.ir_annotation.specs.declared.meaning.Annotation.{Annotation}
use Rattle.ir_annotation.specs.declared.meaning.Annotation.TheVariants as annotation
use Rattle.ir_annotation.specs.declared.meaning.AnnotationLine.{AnnotationLine}
use Rattle.ir_annotation.specs.Limits.{within, past_limit, up_to}
use Rattle.ir_annotation.specs.Reading.{◌>>=◌, made}
use Rattle.ir_lex.specs.Numerals.{is_numeral, small_value}
use Rattle.ir_annotation.specs.Words.{number_of, name_of, register_of, object_of, relation_of, mode_of}
use Rattle.ir_annotation.specs.Keywords.{keyword_of}
use Rattle.ir_annotation.specs.Forms.{form_of}
use Rattle.ir_annotation.specs.Lines.{inequality_of, zone_of, measure_of, budget_from_words, left_of, moded_zone_of, pending_of, as_line, annotation_behind, behind_keyword, annotation_of}
use Rattle.ir_annotation.specs.Annotations.{IsShortName, address_name, IsInequality, IsZone, IsPending, IsMeasure, IsBudget, IsLeft, IsKeptAnnotation}
use Rattle.ir_annotation.proofs.Ordered.{bound, IsNameRead, name_read, register_read, read_canonical}

-- what was read has this, where it is within its limits
abbrev HasWithin : {A : Type 0} → (A → Type 0) → Limited A → Type 0
HasWithin P l = l.is_within_limits ≡ true → P l.value

abbrev Reads-only : {A : Type 0} → (A → Type 0) → Result (Limited A) ℕ → Type 0
Reads-only {A} P read = (l : Limited A) → read ≡ Ok l → HasWithin P l

-- ---- words

short_name : (name : List ℕ) → Reads-only IsShortName (name_of name)
short_name name l h w = let n : IsNameRead l.value l.is_within_limits = name_read name l h in record { spelled = n.spelled; short = n.short w }

short_register : (word : List ℕ) → Reads-only IsShortName (register_of word)
short_register word l h w = let n : IsNameRead l.value l.is_within_limits = register_read word l h in record { spelled = n.spelled; short = n.short w }

up_to_most : (most : ℕ) (o : Option ℕ) → HasWithin (λ n. n ≤ most) (up_to most o)
up_to_most most None w = absurd cc
up_to_most most (Some n) w =
    elim (nat_le n most) as (λ v. nat_le n most ≡ v → HasWithin (λ k. k ≤ most) (cond v (within n) (past_limit 0))) [
      | true ↦ λ (h : nat_le n most ≡ true) (w : true ≡ true). leb-true n most h
      | false ↦ λ (h : nat_le n most ≡ false) (w : false ≡ true). absurd cc
    ] refl w

bounded : (most : ℕ) (word : List ℕ) → Reads-only (λ n. n ≤ most) (number_of most word)
unfolding number_of
bounded most word l h =
    elim (is_numeral word) as (λ v. cond v (let r : Result (Limited ℕ) ℕ = Ok (up_to most (small_value word)) in r) (Err 103) ≡ Ok l → HasWithin (λ n. n ≤ most) l) [
      | true ↦ λ (e : (let r : Result (Limited ℕ) ℕ = Ok (up_to most (small_value word)) in r) ≡ Ok l).
          let same : up_to most (small_value word) ≡ l = cc in
          subst (HasWithin (λ n. n ≤ most)) same (up_to_most most (small_value word))
      | false ↦ λ (e : (let r : Result (Limited ℕ) ℕ = Err 103 in r) ≡ Ok l). absurd cc
    ] h

abbrev IsObject : Address → Type 0
IsObject a = IsShortName (address_name a)

abbrev addressed : (List ℕ → Address) → Limited (List ℕ) → Result (Limited Address) ℕ
addressed kind n = Ok (record { value = kind n.value; is_within_limits = n.is_within_limits })

named_object : (kind : List ℕ → Address) → ((n : List ℕ) → IsShortName n → IsObject (kind n)) → (name : List ℕ) → Reads-only IsObject (name_of name >>= addressed kind)
named_object kind good name l h w =
    let b = bound (name_of name) (addressed kind) l h in
    let n : Limited (List ℕ) = b.value in
    let goes : addressed kind n ≡ Ok l = b.goes in
    let made_of : Limited Address = record { value = kind n.value; is_within_limits = n.is_within_limits } in
    let same : made_of ≡ l = cc in
    subst (HasWithin IsObject) same (λ (v : n.is_within_limits ≡ true). good n.value (short_name name n b.read_is v)) w

if_read : {A : Type 0} (P : A → Type 0) (b : Bool) (x y : Result (Limited A) ℕ) → Reads-only P x → Reads-only P y → Reads-only P (cond b x y)
if_read P true x y hx hy = hx
if_read P false x y hx hy = hy

fails_read : {A : Type 0} (P : A → Type 0) (number : ℕ) → Reads-only P (Err number)
fails_read P number l h = absurd cc

object_read : (word : List ℕ) → Reads-only IsObject (object_of word)
object_read [] = fails_read IsObject 103
object_read (sigil ∷ name) =
    if_read IsObject (eqb sigil 37) (name_of name >>= addressed address.Register) (cond (eqb sigil 64) (name_of name >>= addressed address.Global) (Err 103))
    (named_object address.Register (λ n is. is) name)
    (if_read IsObject (eqb sigil 64) (name_of name >>= addressed address.Global) (Err 103) (named_object address.Global (λ n is. is) name) (fails_read IsObject 103))

-- ---- shapes

abbrev inequality_made : ℕ → Limited Form → Relation → Limited Form → Result (Limited Inequality) ℕ
inequality_made line l r h = Ok (record { value = record { line = line; left = l.value; relation = r; right = h.value }; is_within_limits = l.is_within_limits && h.is_within_limits })

inequality_three : (line : ℕ) (left relation right : List ℕ) → Reads-only IsInequality (form_of left >>= λ l. relation_of relation >>= λ r. form_of right >>= λ h. inequality_made line l r h)
inequality_three line left relation right out e w =
    let first = bound (form_of left) (λ l. relation_of relation >>= λ r. form_of right >>= λ h. inequality_made line l r h) out e in
    let l : Limited Form = first.value in
    let second = bound (relation_of relation) (λ r. form_of right >>= λ h. inequality_made line l r h) out first.goes in
    let r : Relation = second.value in
    let third = bound (form_of right) (λ h. inequality_made line l r h) out second.goes in
    let h : Limited Form = third.value in
    let goes : inequality_made line l r h ≡ Ok out = third.goes in
    let all : Limited Inequality = record { value = record { line = line; left = l.value; relation = r; right = h.value }; is_within_limits = l.is_within_limits && h.is_within_limits } in
    let same : all ≡ out = cc in
    let good : HasWithin IsInequality all = λ (v : (l.is_within_limits && h.is_within_limits) ≡ true).
    let parts = and_parts l.is_within_limits h.is_within_limits v in
    record { left = read_canonical left l first.read_is parts.0; right = read_canonical right h third.read_is parts.1 } in
    subst (HasWithin IsInequality) same good w

inequality_read : (line : ℕ) (words : List (List ℕ)) → Reads-only IsInequality (inequality_of line words)
unfolding inequality_of
inequality_read line (left ∷ relation ∷ right ∷ []) = inequality_three line left relation right
inequality_read line [] = fails_read IsInequality 103
inequality_read line (a ∷ []) = fails_read IsInequality 103
inequality_read line (a ∷ b ∷ []) = fails_read IsInequality 103
inequality_read line (a ∷ b ∷ c ∷ d ∷ words) = fails_read IsInequality 103

abbrev zone_made : ℕ → Mode → Limited Address → Limited Form → Limited Form → Result (Limited Zone) ℕ
zone_made line m o l h = Ok (record { value = record { line = line; mode = m; object = o.value; low = l.value; high = h.value }; is_within_limits = o.is_within_limits && l.is_within_limits && h.is_within_limits })

zone_three : (line : ℕ) (m : Mode) (object low high : List ℕ) → Reads-only IsZone (object_of object >>= λ o. form_of low >>= λ l. form_of high >>= λ h. zone_made line m o l h)
zone_three line m object low high out e w =
    let first = bound (object_of object) (λ o. form_of low >>= λ l. form_of high >>= λ h. zone_made line m o l h) out e in
    let o : Limited Address = first.value in
    let second = bound (form_of low) (λ l. form_of high >>= λ h. zone_made line m o l h) out first.goes in
    let l : Limited Form = second.value in
    let third = bound (form_of high) (λ h. zone_made line m o l h) out second.goes in
    let h : Limited Form = third.value in
    let goes : zone_made line m o l h ≡ Ok out = third.goes in
    let all : Limited Zone = record { value = record { line = line; mode = m; object = o.value; low = l.value; high = h.value }; is_within_limits = o.is_within_limits && l.is_within_limits && h.is_within_limits } in
    let same : all ≡ out = cc in
    let good : HasWithin IsZone all = λ (v : (o.is_within_limits && l.is_within_limits && h.is_within_limits) ≡ true).
    let outer = and_parts (o.is_within_limits && l.is_within_limits) h.is_within_limits v in
    let inner = and_parts o.is_within_limits l.is_within_limits outer.0 in
    record { object = object_read object o first.read_is inner.0; low = read_canonical low l second.read_is inner.1; high = read_canonical high h third.read_is outer.1 } in
    subst (HasWithin IsZone) same good w

zone_read : (line : ℕ) (m : Mode) (words : List (List ℕ)) → Reads-only IsZone (zone_of line m words)
unfolding zone_of
zone_read line m (object ∷ low ∷ high ∷ []) = zone_three line m object low high
zone_read line m [] = fails_read IsZone 103
zone_read line m (a ∷ []) = fails_read IsZone 103
zone_read line m (a ∷ b ∷ []) = fails_read IsZone 103
zone_read line m (a ∷ b ∷ c ∷ d ∷ words) = fails_read IsZone 103

moded_zone_read : (line : ℕ) (words : List (List ℕ)) → Reads-only IsZone (moded_zone_of line words)
unfolding moded_zone_of
moded_zone_read line [] = fails_read IsZone 103
moded_zone_read line (word ∷ words) = λ (out : Limited Zone) (e : (mode_of word >>= λ m. zone_of line m words) ≡ Ok out).
    let b = bound (mode_of word) (λ m. zone_of line m words) out e in
    zone_read line b.value words out b.goes

abbrev measure_made : ℕ → Limited Form → Limited ℕ → Result (Limited Measure) ℕ
measure_made line f n = Ok (record { value = record { line = line; form = f.value; bound = n.value }; is_within_limits = f.is_within_limits && n.is_within_limits })

abbrev bound_of : List ℕ → List ℕ → Result (Limited ℕ) ℕ
bound_of max bound = cond (bytes_eq max (codes "max")) (number_of 4096 bound) (Err 103)

measure_three : (line : ℕ) (form max most : List ℕ) → Reads-only IsMeasure (form_of form >>= λ f. bound_of max most >>= λ n. measure_made line f n)
measure_three line form max most out e w =
    let first = bound (form_of form) (λ f. bound_of max most >>= λ n. measure_made line f n) out e in
    let f : Limited Form = first.value in
    let second = bound (bound_of max most) (λ n. measure_made line f n) out first.goes in
    let n : Limited ℕ = second.value in
    let goes : measure_made line f n ≡ Ok out = second.goes in
    let all : Limited Measure = record { value = record { line = line; form = f.value; bound = n.value }; is_within_limits = f.is_within_limits && n.is_within_limits } in
    let same : all ≡ out = cc in
    let few : Reads-only (λ k. k ≤ 4096) (bound_of max most) = if_read (λ k. k ≤ 4096) (bytes_eq max (codes "max")) (number_of 4096 most) (Err 103) (bounded 4096 most) (fails_read (λ k. k ≤ 4096) 103) in
    let good : HasWithin IsMeasure all = λ (v : (f.is_within_limits && n.is_within_limits) ≡ true).
    let parts = and_parts f.is_within_limits n.is_within_limits v in
    record { form = read_canonical form f first.read_is parts.0; bound = few n second.read_is parts.1 } in
    subst (HasWithin IsMeasure) same good w

measure_read : (line : ℕ) (words : List (List ℕ)) → Reads-only IsMeasure (measure_of line words)
unfolding measure_of
measure_read line (form ∷ max ∷ most ∷ []) = measure_three line form max most
measure_read line [] = fails_read IsMeasure 103
measure_read line (a ∷ []) = fails_read IsMeasure 103
measure_read line (a ∷ b ∷ []) = fails_read IsMeasure 103
measure_read line (a ∷ b ∷ c ∷ d ∷ words) = fails_read IsMeasure 103

abbrev budget_made : ℕ → Limited ℕ → Limited ℕ → Result (Limited Budget) ℕ
budget_made line k s = Ok (record { value = record { line = line; self_calls = k.value; instructions = s.value }; is_within_limits = k.is_within_limits && s.is_within_limits })

budget_two : (line : ℕ) (calls instructions : List ℕ) → Reads-only IsBudget (number_of 1000000000000 calls >>= λ k. number_of 1000000000000 instructions >>= λ s. budget_made line k s)
budget_two line calls instructions out e w =
    let first = bound (number_of 1000000000000 calls) (λ k. number_of 1000000000000 instructions >>= λ s. budget_made line k s) out e in
    let k : Limited ℕ = first.value in
    let second = bound (number_of 1000000000000 instructions) (λ s. budget_made line k s) out first.goes in
    let s : Limited ℕ = second.value in
    let goes : budget_made line k s ≡ Ok out = second.goes in
    let all : Limited Budget = record { value = record { line = line; self_calls = k.value; instructions = s.value }; is_within_limits = k.is_within_limits && s.is_within_limits } in
    let same : all ≡ out = cc in
    let good : HasWithin IsBudget all = λ (v : (k.is_within_limits && s.is_within_limits) ≡ true).
    let parts = and_parts k.is_within_limits s.is_within_limits v in
    record { self_calls = bounded 1000000000000 calls k first.read_is parts.0; instructions = bounded 1000000000000 instructions s second.read_is parts.1 } in
    subst (HasWithin IsBudget) same good w

budget_read : (line : ℕ) (words : List (List ℕ)) → Reads-only IsBudget (budget_from_words line words)
unfolding budget_from_words
budget_read line (calls ∷ instructions ∷ []) = budget_two line calls instructions
budget_read line [] = fails_read IsBudget 103
budget_read line (a ∷ []) = fails_read IsBudget 103
budget_read line (a ∷ b ∷ c ∷ words) = fails_read IsBudget 103

abbrev left_made : ℕ → Limited Form → Limited Form → Result (Limited Left) ℕ
left_made line k s = Ok (record { value = record { line = line; self_calls = k.value; instructions = s.value }; is_within_limits = k.is_within_limits && s.is_within_limits })

left_two : (line : ℕ) (calls instructions : List ℕ) → Reads-only IsLeft (form_of calls >>= λ k. form_of instructions >>= λ s. left_made line k s)
left_two line calls instructions out e w =
    let first = bound (form_of calls) (λ k. form_of instructions >>= λ s. left_made line k s) out e in
    let k : Limited Form = first.value in
    let second = bound (form_of instructions) (λ s. left_made line k s) out first.goes in
    let s : Limited Form = second.value in
    let goes : left_made line k s ≡ Ok out = second.goes in
    let all : Limited Left = record { value = record { line = line; self_calls = k.value; instructions = s.value }; is_within_limits = k.is_within_limits && s.is_within_limits } in
    let same : all ≡ out = cc in
    let good : HasWithin IsLeft all = λ (v : (k.is_within_limits && s.is_within_limits) ≡ true).
    let parts = and_parts k.is_within_limits s.is_within_limits v in
    record { self_calls = read_canonical calls k first.read_is parts.0; instructions = read_canonical instructions s second.read_is parts.1 } in
    subst (HasWithin IsLeft) same good w

left_read : (line : ℕ) (words : List (List ℕ)) → Reads-only IsLeft (left_of line words)
unfolding left_of
left_read line (calls ∷ instructions ∷ []) = left_two line calls instructions
left_read line [] = fails_read IsLeft 103
left_read line (a ∷ []) = fails_read IsLeft 103
left_read line (a ∷ b ∷ c ∷ words) = fails_read IsLeft 103

abbrev pending_made : Limited (List ℕ) → Limited Zone → Result (Limited Pending) ℕ
pending_made s z = Ok (record { value = record { region = s.value; zone = z.value }; is_within_limits = s.is_within_limits && z.is_within_limits })

pending_two : (line : ℕ) (region : List ℕ) (words : List (List ℕ)) → Reads-only IsPending (register_of region >>= λ s. moded_zone_of line words >>= λ z. pending_made s z)
pending_two line region words out e w =
    let first = bound (register_of region) (λ s. moded_zone_of line words >>= λ z. pending_made s z) out e in
    let s : Limited (List ℕ) = first.value in
    let second = bound (moded_zone_of line words) (λ z. pending_made s z) out first.goes in
    let z : Limited Zone = second.value in
    let goes : pending_made s z ≡ Ok out = second.goes in
    let all : Limited Pending = record { value = record { region = s.value; zone = z.value }; is_within_limits = s.is_within_limits && z.is_within_limits } in
    let same : all ≡ out = cc in
    let good : HasWithin IsPending all = λ (v : (s.is_within_limits && z.is_within_limits) ≡ true).
    let parts = and_parts s.is_within_limits z.is_within_limits v in
    record { region = short_register region s first.read_is parts.0; zone = moded_zone_read line words z second.read_is parts.1 } in
    subst (HasWithin IsPending) same good w

pending_read : (line : ℕ) (words : List (List ℕ)) → Reads-only IsPending (pending_of line words)
unfolding pending_of
pending_read line [] = fails_read IsPending 103
pending_read line (region ∷ words) = pending_two line region words

-- ---- lines

abbrev IsKeptLine : AnnotationLine → Type 0
IsKeptLine found = found.is_within_limits ≡ true → IsKeptAnnotation found.annotation

kind_read : {A : Type 0} (P : A → Type 0) (kind : A → Annotation) → ((x : A) → P x → IsKeptAnnotation (kind x)) → (read : Result (Limited A) ℕ) → Reads-only P read
    → (found : AnnotationLine) → made (as_line kind) read ≡ Ok found → IsKeptLine found
kind_read P kind good (Ok l) each found h =
    let line : AnnotationLine = as_line kind l in
    let same : line ≡ found = cc in
    let here : IsKeptLine line = λ (w : l.is_within_limits ≡ true). good l.value (each l refl w) in
    subst IsKeptLine same here
kind_read P kind good (Err e) each found h = absurd cc

behind_read : (line : ℕ) (k : Keyword) (words : List (List ℕ)) (found : AnnotationLine) → annotation_behind line k words ≡ Ok found → IsKeptLine found
unfolding annotation_behind
behind_read line keyword.Requires words = kind_read IsInequality annotation.Requires (λ x is. is) (inequality_of line words) (inequality_read line words)
behind_read line keyword.Ensures words = kind_read IsInequality annotation.Ensures (λ x is. is) (inequality_of line words) (inequality_read line words)
behind_read line keyword.Reads words = kind_read IsZone annotation.FunctionZone (λ x is. is) (zone_of line mode.Reads words) (zone_read line mode.Reads words)
behind_read line keyword.Writes words = kind_read IsZone annotation.FunctionZone (λ x is. is) (zone_of line mode.Writes words) (zone_read line mode.Writes words)
behind_read line keyword.Adds words = kind_read IsZone annotation.FunctionZone (λ x is. is) (zone_of line mode.Adds words) (zone_read line mode.Adds words)
behind_read line keyword.Measure words = kind_read IsMeasure annotation.Measure (λ x is. is) (measure_of line words) (measure_read line words)
behind_read line keyword.Budget words = kind_read IsBudget annotation.Budget (λ x is. is) (budget_from_words line words) (budget_read line words)
behind_read line keyword.Keeps words = kind_read IsInequality annotation.Keeps (λ x is. is) (inequality_of line words) (inequality_read line words)
behind_read line keyword.Pending words = kind_read IsPending annotation.Pending (λ x is. is) (pending_of line words) (pending_read line words)
behind_read line keyword.Left words = kind_read IsLeft annotation.Left (λ x is. is) (left_of line words) (left_read line words)
behind_read line keyword.Foot words = kind_read IsZone annotation.Foot (λ x is. is) (moded_zone_of line words) (moded_zone_read line words)
behind_read line keyword.Shows words = kind_read IsInequality annotation.Shows (λ x is. is) (inequality_of line words) (inequality_read line words)

worded_read : (line : ℕ) (k : Option Keyword) (words : List (List ℕ)) (found : AnnotationLine) → behind_keyword line k words ≡ Ok found → IsKeptLine found
worded_read line None words found h = absurd cc
worded_read line (Some k) words found h = behind_read line k words found h

pub annotation_read : (line : ℕ) (words : List (List ℕ)) (found : AnnotationLine) → annotation_of words line ≡ Ok found → found.is_within_limits ≡ true → IsKeptAnnotation found.annotation
annotation_read line [] found h = absurd cc
annotation_read line (word ∷ words) found h = worded_read line (keyword_of word) words found h
