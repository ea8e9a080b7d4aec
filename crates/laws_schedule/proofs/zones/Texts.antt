-- What a zone of the text says of the zone that it means.
use Rattle.std.proofs.Common.{◌≡◌, ℕ, List, length, Option, Some, None, refl, ap, ◌∙◌, subst, inl, inr, Result, Ok}
use Rattle.std.specs.List.{Contains}
use Rattle.std.proofs.lemmas.List.Elements.{Contains-append_cases}
use Rattle.std.proofs.lemmas.Option.{slice_get_within}
use Rattle.program.specs.declared.annotation.Pending.{Pending}
use Rattle.program.specs.declared.annotation.Zone.{Zone}
use Rattle.program.specs.declared.identifier.ObjectName.{ObjectName}
use Rattle.program.specs.declared.identifier.ObjectName.TheVariants as object
use Rattle.syntax.specs.declared.annotation.Pending.{Pending as PendingText}
use Rattle.syntax.specs.declared.annotation.Zone.{Zone as ZoneText}
use Rattle.syntax.specs.declared.instruction.Address.{Address as AddressText}
use Rattle.syntax.specs.declared.instruction.Address.TheVariants as text
use Rattle.syntax.specs.declared.module.Function.{Function as FunctionText}
use Rattle.refusal.specs.declared.broken.Broken.{Broken as TypeFault}
use Rattle.types.specs.declared.names.form.AnnotationPlace.{AnnotationPlace}
use Rattle.types.specs.declared.names.form.AnnotationPlace.TheVariants as place
use Rattle.types.specs.declared.names.item.Item.{Item}
use Rattle.types.specs.declared.names.item.Item.TheVariants as item
use Rattle.types.specs.declared.names.scope.Holding.{Holding}
use Rattle.types.specs.declared.names.scope.Holding.TheVariants as holding
use Rattle.types.specs.declared.names.scope.Named.TheVariants as named
use Rattle.types.specs.declared.names.scope.Register.{Register}
use Rattle.types.specs.names.Address.{Items, as_object}
use Rattle.types.specs.names.Form.{parameter_of, made_before}
use Rattle.types.specs.names.Layout.{layout_of}
use Rattle.types.specs.names.Note.{noted_global, noted_holding, noted_parameter, noted_register, noted_before, noted_object, zone_of, more_zones, pending_of}
use Rattle.types.specs.names.Operand.{register_of}
use Rattle.types.specs.names.Scope.{Scope}
use Rattle.types.specs.names.Table.{look_up}
use Rattle.types.proofs.names.Inversion.{made_ok, then_ok, both_ok, same_ok, err_not_ok, all_from_ok, same_place}
use Rattle.types.proofs.Scopes.{register_found, parameter_found}
use Rattle.laws_phases.proofs.defined.Lists.{within_at}
use Rattle.laws_schedule.proofs.typing.Forms.{Over, form_over, IsParameter, parameter_term_below}
use Rattle.laws_schedule.proofs.typing.Scoping.{IsOwnObject, HoldsRight, IsRegisterRight, IsNamedRight, named_found, layout_right}

module _ (items : Items) (function : FunctionText) where
  abbrev scope : Scope
  scope = (layout_of function).scope

  -- a parameter that stands for the object is the function's own
  abbrev pub IsOwn : ObjectName → Type 0
  IsOwn (object.Global id) = Unit {0}
  IsOwn (object.Alloca id) = Unit {0}
  IsOwn (object.Parameter id) = IsParameter function id.0

  right_of : (name : List ℕ) (register : Register) → look_up scope name ≡ Some (named.Register register) → IsRegisterRight function (length (layout_of function).registers) (layout_of function).allocas name register
  right_of name register e = named_found (IsNamedRight function (length (layout_of function).registers) (layout_of function).allocas) scope name (named.Register register) (layout_right function).entries e

  -- ---- objects

  own_there : (o : ObjectName) (cells : ℕ) → IsOwnObject function.parameters (layout_of function).allocas o cells → IsOwn o
  own_there (object.Global id) cells h = tt
  own_there (object.Alloca id) cells h = tt
  own_there (object.Parameter id) cells (name, is) = slice_get_within function.parameters id.0 _ is

  held_own : (line : ℕ) (name : List ℕ) (register : Register) (o : ObjectName) → look_up scope name ≡ Some (named.Register register) → noted_holding line register ≡ Ok o → IsOwn o
  held_own line name register o found e =
      let made = made_ok _ (as_object line register.holding) o e in
      from register.holding refl made.0 made.1 made.2
    where
      from : (held : Holding) → register.holding ≡ held → (whole : _) → as_object line held ≡ Ok whole → whole.name ≡ o → IsOwn o
      from (holding.Object other cells) is whole k same =
          let Q : Holding → Type 0 = λ x. HoldsRight function (layout_of function).allocas name register.origin x in
          let named_same : other ≡ o = ap (λ x. x.name) (same_ok _ whole k) ∙ same in
          subst IsOwn named_same (own_there other cells (subst Q is (right_of name register found).holds))
      from holding.Element is whole k same = absurd (err_not_ok _ whole k)
      from (holding.Number width) is whole k same = absurd (err_not_ok _ whole k)
      from holding.Truth is whole k same = absurd (err_not_ok _ whole k)
      from holding.Region is whole k same = absurd (err_not_ok _ whole k)

  global_own : (line : ℕ) (o : Option Item) (found : ObjectName) → noted_global line o ≡ Ok found → IsOwn found
  global_own line None found e = absurd (err_not_ok _ found e)
  global_own line (Some (item.Global id cells)) found e = let one : ObjectName = object.Global id in subst IsOwn (same_ok one found e) tt
  global_own line (Some (item.Function id)) found e = absurd (err_not_ok _ found e)

  parameter_own : (line : ℕ) (name : List ℕ) (o : ObjectName) → noted_parameter scope line name ≡ Ok o → IsOwn o
  parameter_own line name o e =
      let part = then_ok (noted_holding line) (parameter_of scope line name) o e in
      held_own line name part.0 o (parameter_found scope line name part.0 part.1) part.2

  register_own : (line : ℕ) (name : List ℕ) (o : ObjectName) → noted_register scope line name ≡ Ok o → IsOwn o
  register_own line name o e =
      let part = then_ok (noted_holding line) (register_of scope line name) o e in
      held_own line name part.0 o (register_found scope line name part.0 part.1) part.2

  before_own : (block line : ℕ) (name : List ℕ) (o : ObjectName) → noted_before scope block line name ≡ Ok o → IsOwn o
  before_own block line name o e =
      let part = then_ok _ (register_of scope line name) o e in
      let rest = then_ok _ (noted_holding line part.0) o part.2 in
      let made = made_ok (λ (u : Unit {0}). rest.0) (made_before line block part.0) o rest.2 in
      subst IsOwn made.2 (held_own line name part.0 rest.0 (register_found scope line name part.0 part.1) rest.1)

  object_own : (stands : AnnotationPlace) (line : ℕ) (written : AddressText) (o : ObjectName) → noted_object items scope stands line written ≡ Ok o → IsOwn o
  object_own stands line (text.Global name) o e = global_own line (look_up items name) o e
  object_own place.Head line (text.Register name) o e = parameter_own line name o e
  object_own (place.Guarantee outcome) line (text.Register name) o e = parameter_own line name o e
  object_own place.Body line (text.Register name) o e = register_own line name o e
  object_own (place.Start block) line (text.Register name) o e = before_own block line name o e

  pub zone_own : (stands : AnnotationPlace) (written : ZoneText) (z : Zone) → zone_of items scope stands written ≡ Ok z → IsOwn z.object
  zone_own stands written z e =
      let made = made_ok _ _ z e in
      let P : Zone → Type 0 = λ x. IsOwn x.object in
      subst P made.2 (object_own stands written.line written.object made.0.0 (both_ok _ _ made.0 made.1).0)

  pub pending_own : (block : ℕ) (written : PendingText) (p : Pending) → pending_of items scope block written ≡ Ok p → IsOwn p.zone.object
  pending_own block written p e =
      let made = made_ok _ _ p e in
      let P : Pending → Type 0 = λ x. IsOwn x.zone.object in
      subst P made.2 (zone_own (place.Start block) written.zone made.0.1 (both_ok _ _ made.0 made.1).1)

  -- ---- the ends of zones at the function's head

  pub record IsHeadZone (z : Zone) : Type 0 where
    pub low : Over (IsParameter function) z.low.terms
    pub high : Over (IsParameter function) z.high.terms
    pub own : IsOwn z.object

  head_zone : (written : ZoneText) (z : Zone) → zone_of items scope place.Head written ≡ Ok z → IsHeadZone z
  head_zone written z e =
      let made = made_ok _ _ z e in
      let parts = both_ok _ _ made.0 made.1 in
      let forms = both_ok _ _ made.0.1 parts.1 in
      let over = form_over (IsParameter function) scope place.Head (λ line name id h. parameter_term_below function line name id h) written.line in
      subst IsHeadZone made.2 (record { low = over written.low made.0.1.0 forms.0; high = over written.high made.0.1.1 forms.1; own = object_own place.Head written.line written.object made.0.0 parts.0 })

  -- ---- lists of zones

  abbrev AreHeadZones : List Zone → Type 0
  AreHeadZones zones = (z : Zone) → Contains zones z → IsHeadZone z

  pub more_head : (before : Result (List Zone) TypeFault) (written : List ZoneText) (zones : List Zone) → ((zs : List Zone) → before ≡ Ok zs → AreHeadZones zs) → more_zones items scope place.Head before written ≡ Ok zones → AreHeadZones zones
  more_head before written zones first e z within =
      let f : ℕ → ZoneText → Result Zone TypeFault = λ k. zone_of items scope place.Head in
      let whole = all_from_ok f 0 before written zones e in
      elim (Contains-append_cases whole.0 whole.1 z (subst (λ zs. Contains zs z) whole.3 within)) [
        | inl h ↦ first whole.0 whole.2 z h
        | inr h ↦
            let at = within_at whole.1 z h in
            let found = same_place f 0 written whole.1 at.0 z whole.4 at.1 in
            head_zone found.0 z found.2
      ]
