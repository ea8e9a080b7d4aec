-- Zones, what is pending, and what is left.
use Rattle.std.specs.Prelude.{ℕ, List, [], Option, Some, Result, Ok, Err}
use Rattle.linear.specs.declared.form.RegisterId.{RegisterId}
use Rattle.program.specs.declared.annotation.Left.{Left}
use Rattle.program.specs.declared.annotation.Measure.{Measure}
use Rattle.program.specs.declared.annotation.Pending.{Pending}
use Rattle.program.specs.declared.annotation.Zone.{Zone}
use Rattle.program.specs.declared.identifier.ObjectName.{ObjectName}
use Rattle.program.specs.declared.identifier.ObjectName.TheVariants as object
use Rattle.syntax.specs.declared.annotation.Left.{Left as LeftText}
use Rattle.syntax.specs.declared.annotation.Measure.{Measure as MeasureText}
use Rattle.syntax.specs.declared.annotation.Pending.{Pending as PendingText}
use Rattle.syntax.specs.declared.annotation.Zone.{Zone as ZoneText}
use Rattle.syntax.specs.declared.instruction.Address.{Address as AddressText}
use Rattle.syntax.specs.declared.instruction.Address.TheVariants as text
use Rattle.refusal.specs.declared.broken.Broken.{Broken as TypeFault}
use Rattle.types.specs.declared.names.form.AnnotationPlace.{AnnotationPlace}
use Rattle.types.specs.declared.names.form.AnnotationPlace.TheVariants as place
use Rattle.types.specs.declared.names.item.Item.{Item}
use Rattle.types.specs.declared.names.item.Item.TheVariants as item
use Rattle.types.specs.declared.names.scope.Register.{Register}
use Rattle.types.specs.names.Address.{Items, as_object}
use Rattle.types.specs.names.Fault.{all_from, all_of, and_then, both_of, breaks, made_of}
use Rattle.types.specs.names.Form.{form_in_scope, made_before, parameter_of}
use Rattle.types.specs.names.Operand.{region_of, register_of}
use Rattle.types.specs.names.Scope.{Scope}
use Rattle.types.specs.names.Table.{look_up}

-- a global; a function's name is an unknown one here (201)
abbrev pub noted_global : ℕ → Option Item → Result ObjectName TypeFault
noted_global line (Some (item.Global id cells)) = Ok (object.Global id)
noted_global line other = Err (breaks 201 line)

-- the object that a register holds: a `getelementptr` result is 204, what is no pointer 202
abbrev pub noted_holding : ℕ → Register → Result ObjectName TypeFault
noted_holding line register = made_of (λ found. found.name) (as_object line register.holding)

abbrev pub noted_parameter : Scope → ℕ → List ℕ → Result ObjectName TypeFault
noted_parameter scope line name = and_then (parameter_of scope line name) (noted_holding line)

abbrev pub noted_register : Scope → ℕ → List ℕ → Result ObjectName TypeFault
noted_register scope line name = and_then (register_of scope line name) (noted_holding line)

-- 206 too where an instruction of the block itself makes the object
abbrev pub noted_before : Scope → ℕ → ℕ → List ℕ → Result ObjectName TypeFault
noted_before scope block line name = and_then (register_of scope line name) (λ register.
    and_then (noted_holding line register) (λ found. made_of (λ _. found) (made_before line block register)))

-- `O` of an annotation
abbrev pub noted_object : Items → Scope → AnnotationPlace → ℕ → AddressText → Result ObjectName TypeFault
noted_object items scope place line (text.Global name) = noted_global line (look_up items name)
noted_object items scope place.Head line (text.Register name) = noted_parameter scope line name
noted_object items scope (place.Guarantee outcome) line (text.Register name) = noted_parameter scope line name
noted_object items scope place.Body line (text.Register name) = noted_register scope line name
noted_object items scope (place.Start block) line (text.Register name) = noted_before scope block line name

-- `O F F`
abbrev pub zone_of : Items → Scope → AnnotationPlace → ZoneText → Result Zone TypeFault
zone_of items scope place zone =
    made_of (λ p. record { line = zone.line; mode = zone.mode; object = p.0; low = p.1.0; high = p.1.1 })
    (both_of (noted_object items scope place zone.line zone.object)
    (both_of (form_in_scope scope place zone.line zone.low) (form_in_scope scope place zone.line zone.high)))

-- the zones of one kind behind those before
abbrev pub more_zones : Items → Scope → AnnotationPlace → Result (List Zone) TypeFault → List ZoneText →
    Result (List Zone) TypeFault
more_zones items scope place before zones = all_from (λ _. zone_of items scope place) 0 before zones

abbrev pub zones_of : Items → Scope → AnnotationPlace → List ZoneText → Result (List Zone) TypeFault
zones_of items scope place zones = more_zones items scope place (Ok []) zones

-- the region of a `pending` line: 206 where an instruction of the block itself starts it
abbrev pub pending_region_of : Scope → ℕ → ℕ → List ℕ → Result RegisterId TypeFault
pending_region_of scope block line name = and_then (region_of scope line name) (λ region.
    and_then (register_of scope line name) (λ register. made_of (λ _. region) (made_before line block register)))

-- `pending %s MODE O F F`
abbrev pub pending_of : Items → Scope → ℕ → PendingText → Result Pending TypeFault
pending_of items scope block pending = made_of (λ p. record { region = p.0; zone = p.1 }) (both_of (pending_region_of
    scope block pending.zone.line pending.region) (zone_of items scope (place.Start block) pending.zone))

abbrev pub all_pending_of : Items → Scope → ℕ → List PendingText → Result (List Pending) TypeFault
all_pending_of items scope block lines = all_of (λ _. pending_of items scope block) lines

-- `left F F`
abbrev pub left_of : Scope → ℕ → LeftText → Result Left TypeFault
left_of scope block left = made_of (λ p. record { line = left.line; self_calls = p.0; instructions = p.1 })
    (both_of (form_in_scope scope (place.Start block) left.line left.self_calls)
    (form_in_scope scope (place.Start block) left.line left.instructions))

-- `measure F max N`
abbrev pub measure_of : Scope → MeasureText → Result Measure TypeFault
measure_of scope measure = made_of (λ form. record { line = measure.line; form = form; bound = measure.bound })
    (form_in_scope scope place.Head measure.line measure.form)
