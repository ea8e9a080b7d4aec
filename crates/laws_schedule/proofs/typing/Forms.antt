-- Which registers the forms of annotations name: those of a function's head name parameters, and its `ensures` the result too.
use Rattle.std.proofs.Common.{◌≡◌, ◌⊎◌, inl, inr, ℕ, ◌<◌, ℤ, Bool, true, false, List, [], ◌∷◌, length, take, drop, Option, Some, None, refl, ap, subst, Ok}
use Rattle.std.specs.Prelude.{slice_get, if◌then◌else◌, codes}
use Rattle.std.specs.List.{All}
use Rattle.std.specs.Str.{bytes_eq}
use Rattle.std.proofs.lemmas.List.Elements.{All-nil, All-cons, All-head, All-tail, All-append, All-set, All-take, All-drop}
use Rattle.linear.specs.declared.form.Form.{Form}
use Rattle.linear.specs.declared.form.RegisterId.{RegisterId}
use Rattle.linear.specs.declared.form.Term.{Term}
use Rattle.linear.specs.Terms.{constant_form}
use Rattle.linear.specs.Made.{is_below, coefficient_at, placed_at, placed, with_terms, with_term}
use Rattle.std.specs.List.{prefix_len}
use Rattle.program.specs.declared.annotation.Inequality.{Inequality}
use Rattle.program.specs.declared.annotation.Measure.{Measure}
use Rattle.syntax.specs.declared.annotation.Form.{Form as FormText}
use Rattle.syntax.specs.declared.annotation.Inequality.{Inequality as InequalityText}
use Rattle.syntax.specs.declared.annotation.Relation.{Relation}
use Rattle.syntax.specs.declared.annotation.Relation.TheVariants.{AtMost, AtLeast}
use Rattle.syntax.specs.declared.annotation.Term.{Term as TermText}
use Rattle.syntax.specs.declared.module.Function.{Function as FunctionText}
use Rattle.syntax.specs.declared.operator.Width.TheVariants.{Bits64}
use Rattle.types.specs.declared.names.form.AnnotationPlace.{AnnotationPlace}
use Rattle.types.specs.declared.names.form.AnnotationPlace.TheVariants as place
use Rattle.types.specs.declared.names.scope.Named.{Named}
use Rattle.types.specs.declared.names.scope.Named.TheVariants as named
use Rattle.types.specs.declared.names.scope.Register.{Register}
use Rattle.types.specs.names.Fault.{breaks, unless_of}
use Rattle.types.specs.names.Form.{as_parameter, parameter_of, parameter_term_of, as_outcome, guarantee_term_of, term_register_of, term_of, within_bounds, with_one, with_all, form_in_scope, inequality_between, inequality_of, inequalities_of}
use Rattle.types.specs.names.Layout.{layout_of}
use Rattle.types.specs.names.Note.{measure_of}
use Rattle.types.specs.names.Operand.{passing}
use Rattle.types.specs.names.Scope.{Scope, is_number_of, is_parameter}
use Rattle.types.specs.names.Table.{look_up}
use Rattle.types.proofs.names.Inversion.{made_ok, then_ok, both_ok, same_ok, unless_ok, err_not_ok, all_at}
use Rattle.laws_schedule.proofs.typing.Lists.{all_each}
use Rattle.laws_schedule.proofs.typing.Scoping.{IsNamedRight, named_found, layout_right}

-- ---- terms of forms

module _ (P : ℕ → Type 0) where
  abbrev pub Over : List Term → Type 0
  Over ts = All (λ (t : Term). P t.register.0) ts

  some_over : (ts us : List Term) → Some ts ≡ Some us → Over ts → Over us
  some_over ts us e h = let same : ts ≡ us = cc in let Q : List Term → Type 0 = λ l. Over l in subst Q same h

  test_over : (b : Bool) (ts us : List Term) → (if b then Some ts else None) ≡ Some us → Over ts → Over us
  test_over true ts us e h = some_over ts us e h
  test_over false ts us e h = absurd (cc)

  placed_at_over : (ts us : List Term) (k : ℕ) (register : RegisterId) (amount : ℤ) (read : Option ℤ) → Over ts → P register.0 → placed_at ts k register amount read ≡ Some us → Over us
  placed_at_over ts us k register amount None over own e =
      let Q : Term → Type 0 = λ t. P t.register.0 in
      test_over _ _ us e (All-append Q (take k ts) _ (All-take Q k ts over) (All-cons Q _ (drop k ts) own (All-drop Q k ts over)))
  placed_at_over ts us k register amount (Some c) over own e =
      let Q : Term → Type 0 = λ t. P t.register.0 in
      test_over _ _ us e (All-set Q ts k _ own over)

  placed_over : (ts us : List Term) (register : RegisterId) (amount : ℤ) → Over ts → P register.0 → placed ts register amount ≡ Some us → Over us
  unfolding placed
  placed_over ts us register amount over own e = placed_at_over ts us (prefix_len (is_below register.0) ts) register amount (coefficient_at ts (prefix_len (is_below register.0) ts) register.0) over own e

  with_terms_over : (constant : ℤ) (o : Option (List Term)) (form : Form) → ((us : List Term) → o ≡ Some us → Over us) → with_terms constant o ≡ Some form → Over form.terms
  with_terms_over constant None form over e = absurd (cc)
  with_terms_over constant (Some us) form over e =
      let same : record { terms = us; constant = constant } ≡ form = cc in
      let Q : Form → Type 0 = λ x. Over x.terms in
      subst Q same (over us refl)

  with_one_over : (line : ℕ) (form more : Form) (term : Term) → Over form.terms → P term.register.0 → with_one line form term ≡ Ok more → Over more.terms
  with_one_over line form more term over own e = from (with_term form term.register term.coefficient) refl e
    where
      from : (o : Option Form) → with_term form term.register term.coefficient ≡ o → within_bounds line o ≡ Ok more → Over more.terms
      from None is k = absurd (err_not_ok _ more k)
      from (Some other) is k =
          let Q : Form → Type 0 = λ x. Over x.terms in
          subst Q (same_ok other more k)
          (with_terms_over form.constant (placed form.terms term.register term.coefficient) other (λ us h. placed_over form.terms us term.register term.coefficient over own h) is)

  with_all_over : (line : ℕ) (terms : List Term) (form more : Form) → Over form.terms → Over terms → with_all line form terms ≡ Ok more → Over more.terms
  with_all_over line [] form more over all e = let Q : Form → Type 0 = λ x. Over x.terms in subst Q (same_ok form more e) over
  with_all_over line (term ∷ terms) form more over all e =
      let Q : Term → Type 0 = λ t. P t.register.0 in
      let part = then_ok _ _ more e in
      with_all_over line terms part.0 more (with_one_over line form part.0 term over (All-head Q term terms all) part.1) (All-tail Q term terms all) part.2

  module _ (scope : Scope) (stands : AnnotationPlace) (own : (line : ℕ) (name : List ℕ) (id : RegisterId) → term_register_of scope stands line name ≡ Ok id → P id.0) where
    term_over : (line : ℕ) (written : TermText) (term : Term) → term_of scope stands line written ≡ Ok term → P term.register.0
    term_over line written term e =
        let made = made_ok _ _ term e in
        let Q : Term → Type 0 = λ t. P t.register.0 in
        subst Q made.2 (own line written.register made.0.0 (both_ok _ _ made.0 made.1).0)

    pub form_over : (line : ℕ) (written : FormText) (form : Form) → form_in_scope scope stands line written ≡ Ok form → Over form.terms
    form_over line written form e =
        let part = then_ok _ _ form e in
        let terms = (both_ok _ _ part.0 part.1).0 in
        let none : Over [] = All-nil (λ (t : Term). P t.register.0) in
        with_all_over line part.0.0 (constant_form written.constant) form none
        (all_each (λ (t : Term). P t.register.0) part.0.0 (λ i t at. let found = all_at (λ _. term_of scope stands line) written.terms part.0.0 i t terms at in term_over line found.0 t found.2))
        part.2

    -- both sides
    pub record Sides (q : Inequality) : Type 0 where
      pub low : Over q.low.terms
      pub high : Over q.high.terms

    between_over : (line : ℕ) (relation : Relation) (left right : Form) → Over left.terms → Over right.terms → Sides (inequality_between line relation left right)
    between_over line AtMost left right l r = record { low = l; high = r }
    between_over line AtLeast left right l r = record { low = r; high = l }

    inequality_over : (written : InequalityText) (q : Inequality) → inequality_of scope stands written ≡ Ok q → Sides q
    inequality_over written q e =
        let part = then_ok _ _ q e in
        let forms = both_ok _ _ part.0 part.1 in
        let made = made_ok _ _ q part.2 in
        let Q : Inequality → Type 0 = λ x. Sides x in
        subst Q made.2 (between_over written.line written.relation part.0.0 part.0.1 (form_over written.line written.left part.0.0 forms.0) (form_over written.line written.right part.0.1 forms.1))

    pub inequalities_over : (texts : List InequalityText) (all : List Inequality) → inequalities_of scope stands texts ≡ Ok all → (i : ℕ) (q : Inequality) → slice_get all i ≡ Some q → Sides q
    inequalities_over texts all e i q at = let found = all_at (λ _. inequality_of scope stands) texts all i q e at in inequality_over found.0 q found.2

-- ---- registers of a function's head

module _ (function : FunctionText) where
  abbrev scope : Scope
  scope = (layout_of function).scope

  abbrev pub IsParameter : ℕ → Type 0
  IsParameter r = r < length function.parameters

  parameter_below : (line : ℕ) (name : List ℕ) (register : Register) → parameter_of scope line name ≡ Ok register → IsParameter register.id.0
  parameter_below line name register e = from (look_up scope name) refl e
    where
      from : (o : Option Named) → look_up scope name ≡ o → as_parameter line o ≡ Ok register → IsParameter register.id.0
      from None is k = absurd (err_not_ok _ register k)
      from (Some (named.Label block)) is k = absurd (err_not_ok _ register k)
      from (Some (named.Register other)) is k =
          let made = made_ok (λ (u : Unit {0}). other) (unless_of (is_parameter other.origin) (breaks 201 line)) register k in
          let right = named_found (IsNamedRight function (length (layout_of function).registers) (layout_of function).allocas) scope name (named.Register other) (layout_right function).entries is in
          let Q : Register → Type 0 = λ x. IsParameter x.id.0 in
          subst Q made.2 (right.parameter (unless_ok (is_parameter other.origin) (breaks 201 line) made.0 made.1))

  pub parameter_term_below : (line : ℕ) (name : List ℕ) (id : RegisterId) → parameter_term_of scope line name ≡ Ok id → IsParameter id.0
  parameter_term_below line name id e =
      let part = then_ok (passing (is_number_of Bits64) line) (parameter_of scope line name) id e in
      let made = made_ok (λ (u : Unit {0}). part.0.id) (unless_of (is_number_of Bits64 part.0.holding) (breaks 202 line)) id part.2 in
      let Q : RegisterId → Type 0 = λ x. IsParameter x.0 in
      subst Q made.2 (parameter_below line name part.0 part.1)

  -- a parameter, or the register of the result
  abbrev pub IsParameterOr : Option RegisterId → ℕ → Type 0
  IsParameterOr outcome r = IsParameter r ⊎ ((id : RegisterId) × (outcome ≡ Some id) × (id.0 ≡ r))

  outcome_is : (line : ℕ) (outcome : Option RegisterId) (id : RegisterId) → as_outcome line outcome ≡ Ok id → outcome ≡ Some id
  outcome_is line None id e = absurd (err_not_ok _ id e)
  outcome_is line (Some register) id e = ap (λ (x : RegisterId). Some x) (same_ok register id e)

  guarantee_term_below : (line : ℕ) (outcome : Option RegisterId) (name : List ℕ) (id : RegisterId) → guarantee_term_of scope line outcome name ≡ Ok id → IsParameterOr outcome id.0
  guarantee_term_below line outcome name id e = from (bytes_eq name (codes ".ret")) e
    where
      from : (b : Bool) → (if b then as_outcome line outcome else parameter_term_of scope line name) ≡ Ok id → IsParameterOr outcome id.0
      from true k = inr (id, outcome_is line outcome id k, refl)
      from false k = inl (parameter_term_below line name id k)

  pub requirements_over : (all : List Inequality) → inequalities_of scope place.Head function.notes.requirements ≡ Ok all → (i : ℕ) (q : Inequality) → slice_get all i ≡ Some q → Over IsParameter q.low.terms × Over IsParameter q.high.terms
  requirements_over all e i q at = let s = inequalities_over IsParameter scope place.Head (λ line name id h. parameter_term_below line name id h) function.notes.requirements all e i q at in (s.low, s.high)

  pub guarantees_over : (outcome : Option RegisterId) (all : List Inequality) → inequalities_of scope (place.Guarantee outcome) function.notes.guarantees ≡ Ok all → (i : ℕ) (q : Inequality) → slice_get all i ≡ Some q →
      Over (IsParameterOr outcome) q.low.terms × Over (IsParameterOr outcome) q.high.terms
  guarantees_over outcome all e i q at =
      let s = inequalities_over (IsParameterOr outcome) scope (place.Guarantee outcome) (λ line name id h. guarantee_term_below line outcome name id h) function.notes.guarantees all e i q at in (s.low, s.high)

  pub measure_over : (all : Measure) → measure_of scope function.notes.measure ≡ Ok all → Over IsParameter all.form.terms
  measure_over all e =
      let made = made_ok _ _ all e in
      let Q : Measure → Type 0 = λ x. Over IsParameter x.form.terms in
      subst Q made.2 (form_over IsParameter scope place.Head (λ line name id h. parameter_term_below line name id h) function.notes.measure.line function.notes.measure.form made.0 made.1)
