-- What a new child may touch, its parent may touch at the detach.
use Rattle.std.proofs.Common.{◌≡◌, ◌∙◌, ℕ, Option, Some, None, true, refl, sym, ap, subst, arith}
use Rattle.std.specs.Prelude.{Contains, slice_get}
use Rattle.std.proofs.lemmas.List.Elements.{All-contains}
use Rattle.semantics.specs.Paths.{Path}
use Rattle.semantics.specs.Cells.{Cell, Memory}
use Rattle.semantics.specs.Frames.{Frame, Ends, item_at, object_at}
use Rattle.semantics.specs.Effect.{Detach, action_of}
use Rattle.semantics.specs.State.{detached}
use Rattle.program.specs.declared.annotation.Zone.{Zone}
use Rattle.program.specs.declared.identifier.ObjectName.{ObjectName}
use Rattle.program.specs.declared.identifier.ObjectName.TheVariants.{Global, Alloca, Parameter}
use Rattle.program.specs.declared.function.Block.{Block}
use Rattle.program.specs.declared.function.Function.{Function}
use Rattle.program.specs.declared.function.Program.{Program}
use Rattle.program.specs.declared.instruction.Terminator.{Terminator}
use Rattle.program.specs.declared.instruction.Terminator.TheVariants as terminator
use Rattle.types.specs.Apart.{IsNamedBy, in_foot}
use Rattle.region_match.specs.declared.tables.Regions.{Regions}
use Rattle.ranges.specs.Places.{facts_at_end}
use Rattle.footprints.specs.Zones.{as_written}
use Rattle.footprints.specs.Footprints.{Place, is_allowed, is_clear, foot_of, end_use}
use Rattle.footprints.specs.Rules.{place_in}
use Rattle.laws_conditions.proofs.rules.Moves.{forks_here}
use Rattle.laws_phases.specs.zones.Uses.{StandsIn, KnownHolds, NamesApart, HoldsCell, task_of, MayUse}
use Rattle.footprints.specs.Rules.{AreZonesRightBy}
use Rattle.laws_phases.specs.zones.Children.{FeetAreLet}
use Rattle.laws_phases.proofs.zones.Places.{all_pass, get_is, ending_here, end_covered, end_clear}
use Rattle.laws_phases.proofs.zones.Spans.{as_cell, span_let, used_name}

-- names stand for the same objects in a new child
child_objects : (f : Frame) (region body continuation : ℕ) (name : ObjectName) → object_at (detached f region body continuation) name ≡ object_at f name
child_objects f region body continuation (Global g) = refl
child_objects f region body continuation (Alloca a) = refl
child_objects f region body continuation (Parameter r) = refl

pub from_child : (f : Frame) (region body continuation : ℕ) (z : Zone) (c : Cell) → HoldsCell (detached f region body continuation) z c → HoldsCell f z c
from_child f region body continuation z c h = record {
  object = sym (child_objects f region body continuation z.object) ∙ h.object;
  from_low = h.from_low;
  before_high = h.before_high;
}

-- a zone of a foot is in the text of its function
pub foot_named : (prog : Program) (f : Frame) (function : Function) (block : Block) → StandsIn prog f function block → (b : ℕ) (z : Zone) → Contains (foot_of (slice_get function.blocks b)) z → IsNamedBy prog.functions f.function z.object
foot_named prog f function block stands b z at = from (slice_get function.blocks b) refl at
  where
    from : (o : Option Block) → slice_get function.blocks b ≡ o → Contains (foot_of o) z → IsNamedBy prog.functions f.function z.object
    from None e k = absurd (omega (arith, k.1))
    from (Some child) e k =
        in_foot b k.0 child z (record { function = function; at_function = stands.at_function; at_block = e }) (get_is child.foot k.0 z k.1 ∙ ap (λ (y : Zone). Some y) k.2) refl

module _ (prog : Program) (regions : Regions) (right : AreZonesRightBy prog regions) (f : Frame) (function : Function) (block : Block) (stands : StandsIn prog f function block)
    (known : KnownHolds prog f function block) (names : NamesApart prog f) where
  abbrev place : Place
  place = place_in function (task_of regions f) block (facts_at_end prog.functions function f.block block)

  module _ (t : Terminator) (at : item_at prog f.function f.block f.index ≡ Some (Ends t)) where
    all_allowed : (end_use place function.blocks t).covered ≡ true
    all_allowed = let end = ending_here prog f function block stands t at in subst (λ (x : Terminator). (end_use place function.blocks x).covered ≡ true) end.3 (end_covered prog f function block stands regions right end.0 end.1)

    all_clear : (end_use place function.blocks t).clear ≡ true
    all_clear = let end = ending_here prog f function block stands t at in subst (λ (x : Terminator). (end_use place function.blocks x).clear ≡ true) end.3 (end_clear prog f function block stands regions right end.0 end.1)

  foot_let : (p : Path) (m : Memory) (region body continuation : ℕ) → action_of prog p f m ≡ Detach region body continuation → (z : Zone) → Contains (foot_of (slice_get function.blocks body)) z → (c : Cell) → HoldsCell f z c → MayUse regions f function block z.mode c
  foot_let p m region body continuation at z is c holds =
      let fork = forks_here prog p f m region body continuation at in
      let t : Terminator = terminator.Detach fork.region fork.body fork.continuation in
      let end = ending_here prog f function block stands t fork.is in
      let is2 : Contains (foot_of (slice_get function.blocks fork.body.0)) z = subst (λ (n : ℕ). Contains (foot_of (slice_get function.blocks n)) z) (sym fork.body_is) is in
      span_let prog regions f function block stands names (facts_at_end prog.functions function f.block block) (known.at_end end.2) (as_written z) c holds.object (as_cell f z c z.object refl holds)
      (used_name prog.functions f.function z.object (foot_named prog f function block stands fork.body.0 z is2))
      (All-contains (λ (y : Zone). is_allowed place (as_written y) ≡ true) (foot_of (slice_get function.blocks fork.body.0)) z (all_pass (λ (y : Zone). is_allowed place (as_written y)) (foot_of (slice_get function.blocks fork.body.0)) (all_allowed t fork.is)) is2)
      (All-contains (λ (y : Zone). is_clear place (as_written y) ≡ true) (foot_of (slice_get function.blocks fork.body.0)) z (all_pass (λ (y : Zone). is_clear place (as_written y)) (foot_of (slice_get function.blocks fork.body.0)) (all_clear t fork.is)) is2)

pub feet_let : FeetAreLet
feet_let prog regions right p f m function block stands known names region body continuation at z is c holds =
    foot_let prog regions right f function block stands known names p m region body continuation at z is c (from_child f region body continuation z c holds)
