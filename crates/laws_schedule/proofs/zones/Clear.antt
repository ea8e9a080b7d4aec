-- What a frame may use by the rules lies in what it keeps to, and is clear of what is pending.
use Rattle.std.proofs.Common.{◌≡◌, ◌∙◌, ◌⊎◌, inl, inr, ℕ, List, ◌∷◌, Some, true, refl, sym, ap, subst, slice_get}
use Rattle.std.specs.List.{Contains}
use Rattle.std.proofs.lemmas.Bool.{false≢true}
use Rattle.std.proofs.lemmas.List.Elements.{All-contains}
use Rattle.syntax.specs.declared.operator.Mode.{Mode}
use Rattle.syntax.specs.declared.operator.Mode.TheVariants.{Reads, Writes, Adds}
use Rattle.linear.specs.declared.form.RegisterId.{RegisterId}
use Rattle.semantics.specs.Paths.{Path}
use Rattle.semantics.specs.Below.{Under, itself}
use Rattle.semantics.specs.Cells.{Local, Cell}
use Rattle.semantics.specs.Frames.{Frame, and_then, block_at}
use Rattle.semantics.specs.Effect.{Effect}
use Rattle.laws_conditions.specs.theorem.Conditions.{Zone as Cells, Covers, Clear, touched, OwnedBelow}
use Rattle.program.specs.declared.annotation.Pending.{Pending}
use Rattle.program.specs.declared.annotation.Zone.{Zone}
use Rattle.program.specs.declared.identifier.ObjectName.TheVariants.{Alloca}
use Rattle.program.specs.declared.function.Function.{Function}
use Rattle.program.specs.declared.function.Program.{Program}
use Rattle.laws_phases.specs.region_match.declared.tables.Regions.{Regions}
use Rattle.laws_phases.specs.region_match.Tasks.{innermost}
use Rattle.laws_phases.specs.footprints.Zones.{mode_covers, modes_agree}
use Rattle.laws_phases.specs.footprints.Footprints.{pending_of}
use Rattle.laws_phases.specs.footprints.Rules.{covering_of}
use Rattle.laws_phases.specs.zones.Uses.{Uses, StandsIn, HoldsCell, IsInOne, task_of, MayUse}
use Rattle.laws_phases.specs.zones.Edges.{IsPendingFor}
use Rattle.laws_schedule.specs.zones.Keeping.{Keeping, OfTask, MadeBelow, kept_cells, pending_at, LetsUse, Fits}
use Rattle.laws_schedule.specs.zones.ByPhases.{IsJudged}
use Rattle.laws_schedule.proofs.zones.Paths.{not_below}
use Rattle.laws_schedule.proofs.zones.Tasks.{task_is, own_name, covering_named}

-- ---- modes

-- uses of one cell whose order matters: a zone that is pending for the one does not agree with the other
abbrev pub Mixed : Mode → Mode → Type 0
Mixed used other = (a : Mode) → mode_covers a other ≡ true → modes_agree a used ≡ true → ⊥

pub read_add : Mixed Reads Adds
read_add Reads h k = false≢true h
read_add Writes h k = false≢true k
read_add Adds h k = false≢true k

pub write_add : Mixed Writes Adds
write_add Reads h k = false≢true h
write_add Writes h k = false≢true k
write_add Adds h k = false≢true k

pub add_read : Mixed Adds Reads
add_read Reads h k = false≢true k
add_read Writes h k = false≢true k
add_read Adds h k = false≢true h

pub write_read : Mixed Writes Reads
write_read Reads h k = false≢true k
write_read Writes h k = false≢true k
write_read Adds h k = false≢true h

-- what agrees with a mode agrees with those that it covers
agree_less : (b a mode : Mode) → mode_covers a mode ≡ true → modes_agree b a ≡ true → modes_agree b mode ≡ true
agree_less b Reads Reads e h = h
agree_less b Reads Writes e h = absurd (false≢true e)
agree_less b Reads Adds e h = absurd (false≢true e)
agree_less Reads Writes mode e h = absurd (false≢true h)
agree_less Writes Writes mode e h = absurd (false≢true h)
agree_less Adds Writes mode e h = absurd (false≢true h)
agree_less b Adds Reads e h = absurd (false≢true e)
agree_less b Adds Writes e h = absurd (false≢true e)
agree_less b Adds Adds e h = h

pub mixed_from : (a mode other : Mode) → mode_covers a mode ≡ true → Mixed mode other → Mixed a other
mixed_from a mode other e mix b covers agree = mix b covers (agree_less b a mode e agree)

-- what lets a use lets those that it covers
pub lets_covered : (z : Cells) (a mode : Mode) (c : Cell) → mode_covers a mode ≡ true → LetsUse z a c → LetsUse z mode c
lets_covered z Reads Reads c e h = h
lets_covered z Reads Writes c e h = absurd (false≢true e)
lets_covered z Reads Adds c e h = absurd (false≢true e)
lets_covered z Writes Reads c e h = h.0
lets_covered z Writes Writes c e h = h
lets_covered z Writes Adds c e h = h.1
lets_covered z Adds Reads c e h = absurd (false≢true e)
lets_covered z Adds Writes c e h = absurd (false≢true e)
lets_covered z Adds Adds c e h = h

pub lets_both : (z : Cells) (mode : Mode) (c : Cell) → z.reads c × z.adds c → LetsUse z mode c
lets_both z Reads c h = h.0
lets_both z Writes c h = h
lets_both z Adds c h = h.1

-- a zone's own cells are let to its mode
lets_own : (z : Cells) (mode : Mode) (c : Cell) → ((other : Mode) → mode_covers mode other ≡ true → LetsUse z other c) → LetsUse z mode c
lets_own z Reads c h = h Reads refl
lets_own z Writes c h = h Writes refl
lets_own z Adds c h = h Adds refl

-- ---- what covers

pub covers_trans : (a m other : Mode) → mode_covers a m ≡ true → mode_covers m other ≡ true → mode_covers a other ≡ true
covers_trans Writes m other h k = refl
covers_trans Reads Reads other h k = k
covers_trans Reads Writes other h k = absurd (false≢true h)
covers_trans Reads Adds other h k = absurd (false≢true h)
covers_trans Adds Reads other h k = absurd (false≢true h)
covers_trans Adds Writes other h k = absurd (false≢true h)
covers_trans Adds Adds other h k = k

pub covers_own : (a : Mode) → mode_covers a a ≡ true
covers_own Reads = refl
covers_own Writes = refl
covers_own Adds = refl

-- the cells of the zones that a frame keeps to are let
pub lets_zones : (prog : Program) (f : Frame) (zones : List Zone) (p : Path) (y : Zone) → Contains zones y → (c : Cell) → HoldsCell f y c → LetsUse (kept_cells prog (OfTask f zones p)) y.mode c
lets_zones prog f zones p y within c holds = lets_own (kept_cells prog (OfTask f zones p)) y.mode c by
  where
    in_one : (other : Mode) → mode_covers y.mode other ≡ true → IsInOne f zones other c
    in_one other covers = (within.0, y, within.1, within.2, (holds, covers))

    by : (other : Mode) → mode_covers y.mode other ≡ true → LetsUse (kept_cells prog (OfTask f zones p)) other c
    by Reads covers = inl (in_one Reads covers)
    by Writes covers = (inl (in_one Reads (covers_trans y.mode Writes Reads covers refl)), inl (in_one Adds (covers_trans y.mode Writes Adds covers refl)))
    by Adds covers = inl (in_one Adds covers)

-- ---- frames

module _ (prog : Program) (regions : Regions) (judged : IsJudged prog regions) (base : Path → Frame → Type 0) (p : Path) (f : Frame) (z : Keeping) (fits : Fits prog regions base p f z) where
  pub stands : StandsIn prog f fits.placed.function fits.placed.block
  stands = record { at_function = fits.placed.is.at_function; at_block = fits.placed.is.at_block }

  pub block_here : block_at prog f.function f.block ≡ Some fits.placed.block
  block_here = ap (λ o. and_then o (λ (g : Function). slice_get g.blocks f.block)) fits.placed.is.at_function ∙ fits.placed.is.at_block

  pub pending_here : pending_of (block_at prog f.function f.block) ≡ fits.placed.block.pending
  pending_here = ap pending_of block_here

  pub task_here : task_of regions f ≡ innermost fits.placed.task
  task_here = task_is prog regions judged.tasks f.function f.block fits.placed.function fits.placed.block fits.placed.is fits.placed.task fits.placed.has_task

  module _ (mode : Mode) (c : Cell) (may : MayUse regions f fits.placed.function fits.placed.block mode c) where
    -- it lies in what the frame keeps to
    pub lets : LetsUse (kept_cells prog z) mode c
    lets = elim may.covered [
      | inl own ↦
          let at : f.home ≡ p = fits.own own.0 in
          let object : Local f.home own.1.0 ≡ c.object = (let e = own.2 in cc) in
          let mine : OwnedBelow p (Local f.home own.1.0) = subst (Under p) (sym at) itself in
          lets_both (kept_cells prog z) mode c (fits.owns c (subst (OwnedBelow p) object mine))
      | inr any ↦
          lets_covered (kept_cells prog z) any.1.mode mode c any.4.1
          (fits.covers fits.placed.function fits.placed.is.at_function any.1 (any.0, any.2, any.3) c any.4.0)
    ]

    -- and is of no child's frame
    pub not_made : (k : ℕ) → OwnedBelow (k ∷ p) c.object → ⊥
    not_made k below = elim may.covered [
      | inl own ↦ not_below prog.functions p f fits.names (Alloca own.1) c.object tt own.2 k below
      | inr any ↦
          let within : Contains (covering_of fits.placed.function (innermost fits.placed.task)) any.1 = subst (λ t. Contains (covering_of fits.placed.function t) any.1) task_here (any.0, any.2, any.3) in
          let named = covering_named prog judged.names f.function fits.placed.function fits.placed.is.at_function fits.placed.task any.1 within in
          not_below prog.functions p f fits.names any.1.object c.object (own_name prog judged.names f.function fits.placed.function fits.placed.is.at_function any.1.object named) any.4.0.object k below
    ]

    -- no zone that is pending has it for a use that does not go with this one
    pub none_pending : (region : RegisterId) (other : Mode) → Mixed mode other → IsPendingFor f (pending_of (block_at prog f.function f.block)) region other c ⊎ MadeBelow p f.made c.object → ⊥
    none_pending region other mix (inl any) =
        let within : Contains fits.placed.block.pending any.1 = subst (λ qs. Contains qs any.1) pending_here (any.0, any.2, any.3) in
        let agree = All-contains (λ (q : Pending). HoldsCell f q.zone c → modes_agree q.zone.mode mode ≡ true) fits.placed.block.pending any.1 may.clear within in
        mix any.1.zone.mode any.4.1.1 (agree any.4.1.0)
    none_pending region other mix (inr made) = not_made made.0 made.2

  -- ---- what an effect touches

  module _ (e : Effect) (may : (mode : Mode) (c : Cell) → Uses e mode c → MayUse regions f fits.placed.function fits.placed.block mode c) where
    pub touched_covered : Covers (kept_cells prog z) (touched e)
    touched_covered = record {
      reads = λ c u. elim u [ inl r ↦ lets Reads c (may Reads c r) | inr w ↦ (lets Writes c (may Writes c w)).0 ];
      adds = λ c u. elim u [ inl w ↦ (lets Writes c (may Writes c w)).1 | inr a ↦ lets Adds c (may Adds c a) ];
    }

    pub touched_clear : (region : ℕ) → Clear (touched e) (kept_cells prog (pending_at prog p f region))
    touched_clear region = record {
      first = λ c u h. elim u [
        | inl r ↦ none_pending Reads c (may Reads c r) (record { 0 = region }) Adds read_add h
        | inr w ↦ none_pending Writes c (may Writes c w) (record { 0 = region }) Adds write_add h
      ];
      second = λ c u h. elim u [
        | inl w ↦ none_pending Writes c (may Writes c w) (record { 0 = region }) Reads write_read h
        | inr a ↦ none_pending Adds c (may Adds c a) (record { 0 = region }) Reads add_read h
      ];
    }
