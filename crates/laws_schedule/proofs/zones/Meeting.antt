-- A new frame's cells are clear of what is pending, and lie within its parent's.
use Rattle.std.proofs.Common.{◌≡◌, ◌⊎◌, inl, inr, ℕ, ◌<◌, List, ◌∷◌, refl, subst, arith}
use Rattle.std.specs.List.{Contains}
use Rattle.syntax.specs.declared.operator.Mode.{Mode}
use Rattle.syntax.specs.declared.operator.Mode.TheVariants.{Reads, Adds}
use Rattle.linear.specs.declared.form.RegisterId.{RegisterId}
use Rattle.semantics.specs.Paths.{Path}
use Rattle.semantics.specs.Cells.{Cell}
use Rattle.semantics.specs.Frames.{Frame, block_at}
use Rattle.laws_conditions.specs.theorem.Conditions.{Covers, Clear, OwnedBelow}
use Rattle.program.specs.declared.annotation.Pending.{Pending}
use Rattle.program.specs.declared.annotation.Zone.{Zone}
use Rattle.program.specs.declared.function.Program.{Program}
use Rattle.types.specs.Apart.{IsNamedBy, in_pending}
use Rattle.laws_phases.specs.region_match.declared.tables.Regions.{Regions}
use Rattle.laws_phases.specs.footprints.Footprints.{pending_of}
use Rattle.laws_phases.proofs.defined.Lists.{within_at}
use Rattle.laws_phases.specs.zones.Uses.{HoldsCell, IsInOne, MayUse}
use Rattle.laws_phases.specs.zones.Edges.{IsPendingFor}
use Rattle.laws_schedule.specs.zones.Keeping.{Keeping, OfTask, MadeBelow, kept_cells, pending_at, LetsUse, Fits}
use Rattle.laws_schedule.specs.zones.ByPhases.{IsJudged}
use Rattle.laws_schedule.proofs.zones.Paths.{owned_up, same_child, not_below}
use Rattle.laws_schedule.proofs.zones.Tasks.{own_name}
use Rattle.laws_schedule.proofs.zones.Clear.{Mixed, read_add, add_read, mixed_from, lets_covered, lets, none_pending, pending_here}

module _ (prog : Program) (regions : Regions) (judged : IsJudged prog regions) (base : Path → Frame → Type 0) (p : Path) (f : Frame) (z : Keeping) (fits : Fits prog regions base p f z) where
  -- what is pending is no child's alloca
  pending_not_below : (q : Pending) → Contains (pending_of (block_at prog f.function f.block)) q → (c : Cell) → HoldsCell f q.zone c → (k : ℕ) → OwnedBelow (k ∷ p) c.object → ⊥
  pending_not_below q within c holds k below =
      let place = within_at fits.placed.block.pending q (subst (λ qs. Contains qs q) (pending_here prog regions judged base p f z fits) within) in
      let named : IsNamedBy prog.functions f.function q.zone.object =
      in_pending f.block place.0 fits.placed.block q (record { function = fits.placed.function; at_function = fits.placed.is.at_function; at_block = fits.placed.is.at_block }) place.1 refl in
      not_below prog.functions p f fits.names q.zone.object c.object (own_name prog judged.names f.function fits.placed.function fits.placed.is.at_function q.zone.object named) holds.object k below

  -- a new frame g that keeps to zones whose cells the frame may use
  module _ (g : Frame) (zones : List Zone) (may : (y : Zone) → Contains zones y → (c : Cell) → HoldsCell g y c → MayUse regions f fits.placed.function fits.placed.block y.mode c) where
    abbrev new : Keeping
    new = OfTask g zones (f.made ∷ p)

    new_lets : (mode : Mode) (c : Cell) → IsInOne g zones mode c → LetsUse (kept_cells prog z) mode c
    new_lets mode c any = lets_covered (kept_cells prog z) any.1.mode mode c any.4.1 (lets prog regions judged base p f z fits any.1.mode c (may any.1 (any.0, any.2, any.3) c any.4.0))

    pub new_covered : Covers (kept_cells prog z) (kept_cells prog new)
    new_covered = record {
      reads = λ c h. elim h [ inl any ↦ new_lets Reads c any | inr below ↦ (fits.owns c (owned_up f.made p c.object below)).0 ];
      adds = λ c h. elim h [ inl any ↦ new_lets Adds c any | inr below ↦ (fits.owns c (owned_up f.made p c.object below)).1 ];
    }

    apart : (mode other : Mode) (region : RegisterId) (c : Cell) → Mixed mode other → IsInOne g zones mode c ⊎ OwnedBelow (f.made ∷ p) c.object →
        IsPendingFor f (pending_of (block_at prog f.function f.block)) region other c ⊎ MadeBelow p f.made c.object → ⊥
    apart mode other region c mix (inl any) h = none_pending prog regions judged base p f z fits any.1.mode c (may any.1 (any.0, any.2, any.3) c any.4.0) region other (mixed_from any.1.mode mode other any.4.1 mix) h
    apart mode other region c mix (inr below) (inl any) = pending_not_below any.1 (any.0, any.2, any.3) c any.4.1.0 f.made below
    apart mode other region c mix (inr below) (inr made) =
        let same : made.0 ≡ f.made = same_child made.0 f.made p c.object made.2 below in
        let less : made.0 < f.made = made.1 in
        omega (arith, less, same)

    pub new_clear : (region : ℕ) → Clear (kept_cells prog new) (kept_cells prog (pending_at prog p f region))
    new_clear region = record {
      first = λ c h k. apart Reads Adds (record { 0 = region }) c read_add h k;
      second = λ c h k. apart Adds Reads (record { 0 = region }) c add_read h k;
    }
