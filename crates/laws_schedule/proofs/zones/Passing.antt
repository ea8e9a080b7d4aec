-- How what a frame keeps to, and what is pending, pass on to the frame that a step makes of it.
use Rattle.std.proofs.Common.{◌≡◌, ◌∙◌, inl, inr, ℕ, ◌≤◌, ℤ, List, Option, Some, true, refl, sym, ap, subst, arith, slice_get}
use Rattle.std.specs.List.{Contains, flat_map}
use Rattle.syntax.specs.declared.operator.Mode.{Mode}
use Rattle.syntax.specs.declared.operator.Mode.TheVariants.{Reads, Adds}
use Rattle.linear.specs.declared.form.RegisterId.{RegisterId}
use Rattle.semantics.specs.Paths.{Path}
use Rattle.semantics.specs.Cells.{Object, Cell}
use Rattle.semantics.specs.Frames.{OnCall, Frame, and_then, block_at}
use Rattle.laws_conditions.specs.theorem.Conditions.{Covers, Going}
use Rattle.program.specs.declared.annotation.Pending.{Pending}
use Rattle.program.specs.declared.annotation.Zone.{Zone}
use Rattle.program.specs.declared.function.Alloca.{Alloca as AllocaOf}
use Rattle.program.specs.declared.function.Function.{Function}
use Rattle.program.specs.declared.function.Program.{Program}
use Rattle.program.specs.declared.instruction.Ending.{Ending}
use Rattle.laws_phases.specs.definedness.declared.act.Act.TheVariants.{Needs}
use Rattle.laws_phases.specs.definedness.RegisterActs.{register_needs, zone_needs, pending_needs}
use Rattle.laws_phases.specs.region_match.declared.tables.Regions.{Regions}
use Rattle.laws_phases.specs.region_match.Tasks.{innermost}
use Rattle.laws_phases.specs.footprints.Footprints.{hands_on, pending_of}
use Rattle.laws_phases.specs.footprints.Rules.{covering_of, is_own_block}
use Rattle.laws_phases.specs.defined.Placed.{IsPlaced}
use Rattle.laws_phases.specs.defined.Stable.{Names}
use Rattle.laws_phases.proofs.defined.Lists.{flat_within}
use Rattle.std.proofs.lemmas.List.Elements.{Contains-append_right}
use Rattle.laws_phases.specs.facts.Known.{KnownHold}
use Rattle.laws_phases.specs.facts.Kept.{IsEnsured}
use Rattle.laws_schedule.specs.pointers.Given.{KnowsGiven}
use Rattle.laws_phases.specs.zones.Uses.{HoldsCell, task_of}
use Rattle.laws_phases.specs.zones.Edges.{GoesAlong, IsPendingFor}
use Rattle.laws_phases.proofs.zones.Edges.{pending_goes_on}
use Rattle.laws_schedule.specs.zones.Keeping.{Keeping, MadeBelow, kept_cells, pending_at, ElementsAreKept, IsBehindCall, Fits}
use Rattle.laws_schedule.specs.zones.ByPhases.{IsJudged}
use Rattle.laws_schedule.proofs.zones.Zones.{IsOutside, IsOff, zone_stays, zone_back, needs_off}
use Rattle.laws_schedule.proofs.zones.Clear.{covers_trans, covers_own, stands, pending_here, task_here}
use Rattle.laws_schedule.proofs.zones.Edges.{Taken, edge, edge_known}

-- ---- what is pending

module _ (prog : Program) (f g : Frame) where
  -- it is enough that each zone that is pending of the region has its cells behind the step
  abbrev pub GoOn : RegisterId → Type 0
  GoOn region = (q : Pending) → Contains (pending_of (block_at prog f.function f.block)) q → q.region.0 ≡ region.0 → (c : Cell) → HoldsCell f q.zone c → IsPendingFor g (pending_of (block_at prog g.function g.block)) q.region q.zone.mode c

  pub pending_for : (region : RegisterId) (mode : Mode) (c : Cell) → GoOn region → IsPendingFor f (pending_of (block_at prog f.function f.block)) region mode c → IsPendingFor g (pending_of (block_at prog g.function g.block)) region mode c
  pending_for region mode c on any =
      let next = on any.1 (any.0, any.2, any.3) any.4.0 c any.4.1.0 in
      (next.0, next.1, next.2, next.3, (next.4.0 ∙ any.4.0, (next.4.1.0, covers_trans next.1.zone.mode any.1.zone.mode mode next.4.1.1 any.4.1.1)))

  made_on : (p : Path) (o : Object) → f.made ≤ g.made → MadeBelow p f.made o → MadeBelow p g.made o
  made_on p o more h = (h.0, (let l = h.1 in omega (arith, more, l)), h.2)

  pub region_covers : (p : Path) (region : ℕ) → f.made ≤ g.made → GoOn (record { 0 = region }) → Covers (kept_cells prog (pending_at prog p g region)) (kept_cells prog (pending_at prog p f region))
  region_covers p region more on = record {
    reads = λ c h. elim h [ inl any ↦ inl (pending_for (record { 0 = region }) Reads c on any) | inr made ↦ inr (made_on p c.object more made) ];
    adds = λ c h. elim h [ inl any ↦ inl (pending_for (record { 0 = region }) Adds c on any) | inr made ↦ inr (made_on p c.object more made) ];
  }

-- a zone that is pending is pending still in the same block, where nothing that it names changes
pub pending_stays : (prog : Program) (changed : ℕ → Type 0) (f g : Frame) (region : RegisterId) → g.function ≡ f.function → g.block ≡ f.block → IsOutside changed f g →
    ((q : Pending) → Contains (pending_of (block_at prog f.function f.block)) q → IsOff changed q.zone) → GoOn prog f g region
pending_stays prog changed f g region fn same outside off q within is c holds =
    let here : Contains (pending_of (block_at prog g.function g.block)) q = rw (fn, same) within in
    (here.0, q, here.1, here.2, (refl, (zone_stays changed f g outside q.zone (off q within) c holds, covers_own q.zone.mode)))

-- what is pending needs its zone's registers
pub pending_off : (changed : ℕ → Type 0) (allocas : List AllocaOf) (pending : List Pending) → ((x : ℕ) → changed x → Names (flat_map (pending_needs allocas) pending) x → ⊥) → (q : Pending) → Contains pending q → IsOff changed q.zone
pending_off changed allocas pending apart q within =
    needs_off changed allocas q.zone
    (λ x ch n. apart x ch (n.0, flat_within (pending_needs allocas) pending q (Needs x n.0) within (Contains-append_right (register_needs q.zone.line q.region) (zone_needs allocas q.zone) (Needs x n.0) n.1)))

-- ---- frames

module _ (prog : Program) (regions : Regions) (judged : IsJudged prog regions) (base : Path → Frame → Type 0) (p : Path) (f : Frame) (z : Keeping) (fits : Fits prog regions base p f z) where
  -- along an edge that hands the region on
  pub pending_along : (g : Frame) (ending : Ending) (target : ℕ) (region : RegisterId) → fits.placed.block.ending ≡ Some ending → (taken : Taken prog f fits.placed.function fits.placed.block ending target) →
      g.function ≡ f.function → g.block ≡ target → GoesAlong prog f g (edge prog f fits.placed.function fits.placed.block ending target taken).moves →
      ((q : RegisterId) → q.0 ≡ region.0 → hands_on taken.edge.way q ≡ true) → GoOn prog f g region
  pending_along g ending target region is taken fn to along hands q within same c holds =
      let at : pending_of (slice_get fits.placed.function.blocks taken.edge.to.0) ≡ pending_of (block_at prog g.function g.block) =
      ap (λ n. pending_of (slice_get fits.placed.function.blocks n)) (taken.to ∙ sym to)
      ∙ sym (ap (λ o. pending_of (and_then o (λ (h : Function). slice_get h.blocks g.block))) (ap (λ n. slice_get prog.functions n) fn ∙ fits.placed.is.at_function)) in
      subst (λ qs. IsPendingFor g qs q.region q.zone.mode c) at
      (pending_goes_on prog regions judged.zones f g fits.placed.function fits.placed.block ending (stands prog regions judged base p f z fits) is
      (edge prog f fits.placed.function fits.placed.block ending target taken) (edge_known prog f fits.placed.function fits.placed.block ending target taken) taken.hold along
      q (subst (λ qs. Contains qs q) (pending_here prog regions judged base p f z fits) within) (hands q.region same) c holds)

  -- the task and what covers it stay, where nothing that the zones name changes
  pub next_fits : (g : Frame) (changed : ℕ → Type 0) → g.function ≡ f.function → g.home ≡ f.home → IsOutside changed f g → task_of regions g ≡ task_of regions f →
      ((y : Zone) → Contains (covering_of fits.placed.function (innermost fits.placed.task)) y → IsOff changed y) →
      IsPlaced prog g → base p g → (Going g → KnownHold prog g) → ElementsAreKept prog g → KnowsGiven prog.functions p g → ((v : Option ℤ) → IsEnsured prog g v → IsEnsured prog f v) →
      ((k : ℕ) (d : Option RegisterId) → g.waits ≡ OnCall k d → IsBehindCall prog g d) → Fits prog regions base p g z
  next_fits g changed fn home outside task off placed based knows elements names returns awaits = record {
    placed = placed;
    based = based;
    knows = knows;
    elements = elements;
    names = names;
    at_home = rw home fits.at_home;
    own = λ h. home ∙ fits.own (sym (ap is_own_block task) ∙ h);
    covers = λ function at y within c holds.
        let at2 : slice_get prog.functions f.function ≡ Some function = sym (ap (λ n. slice_get prog.functions n) fn) ∙ at in
        let same : function ≡ fits.placed.function = (let both : Some function ≡ Some fits.placed.function = sym at2 ∙ fits.placed.is.at_function in cc) in
        let within2 : Contains (covering_of function (task_of regions f)) y = subst (λ t. Contains (covering_of function t) y) task within in
        let within3 : Contains (covering_of fits.placed.function (innermost fits.placed.task)) y =
        subst (λ t. Contains (covering_of fits.placed.function t) y) (task_here prog regions judged base p f z fits) (subst (λ (x : Function). Contains (covering_of x (task_of regions f)) y) same within2) in
        fits.covers function at2 y within2 c (zone_back changed f g outside y (off y within3) c holds);
    owns = fits.owns;
    returns = λ v h. fits.returns v (returns v h);
    awaits = awaits;
  }
