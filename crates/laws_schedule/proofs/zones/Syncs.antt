-- A sync: the frame goes on along its edge, and what is pending of other regions with it.
use Rattle.std.proofs.Common.{◌≡◌, ◌≢◌, ◌∙◌, ℕ, Some, true, not, refl, sym, ap, subst, arith}
use Rattle.std.proofs.lemmas.Bool.{ne_eqb}
use Rattle.std.proofs.lemmas.List.Elements.{All-contains}
use Rattle.linear.specs.declared.form.RegisterId.{RegisterId}
use Rattle.semantics.specs.Paths.{Path}
use Rattle.semantics.specs.Cells.{Memory}
use Rattle.semantics.specs.Frames.{Registers, Frame, Ends, item_at}
use Rattle.semantics.specs.Effect.{Sync, registers_along, action_of}
use Rattle.semantics.specs.State.{synced}
use Rattle.semantics.specs.SerialMeaning.{one_more}
use Rattle.laws_conditions.specs.theorem.Conditions.{Covers, Going}
use Rattle.program.specs.declared.function.Program.{Program}
use Rattle.program.specs.declared.instruction.Terminator.{Terminator}
use Rattle.types.specs.Apart.{parameters_at}
use Rattle.laws_phases.specs.cfg.declared.structure.Way.{Way}
use Rattle.laws_phases.specs.cfg.declared.structure.Way.TheVariants as way
use Rattle.laws_phases.specs.ranges.Edges.{edges_out}
use Rattle.laws_phases.specs.region_match.declared.tables.Regions.{Regions}
use Rattle.laws_phases.specs.footprints.Footprints.{hands_on}
use Rattle.laws_conditions.specs.rules.Costs.{numbers}
use Rattle.laws_conditions.specs.rules.Moves.{SyncsTo}
use Rattle.laws_conditions.proofs.rules.Moves.{sync_here, syncs_along}
use Rattle.laws_phases.specs.defined.Leads.{LeadsTo}
use Rattle.laws_phases.specs.facts.Known.{KnownHold}
use Rattle.laws_phases.proofs.facts.Edges.{IsTaken, sync_taken, tests_here}
use Rattle.laws_schedule.proofs.pointers.Kept.{Agrees, Passes, action_passes}
use Rattle.laws_phases.specs.zones.Uses.{StandsIn}
use Rattle.laws_schedule.specs.zones.Keeping.{Keeping, kept_cells, pending_at, Fits}
use Rattle.laws_schedule.specs.zones.ByPhases.{IsJudged, GivesWidths}
use Rattle.laws_schedule.proofs.zones.Edges.{IsSyncWay, sync_ways, end_place, takes_way}
use Rattle.laws_schedule.proofs.zones.Stepping.{facts, tasks, ensured_from, here, edge_fits, edge_pending}
use Rattle.laws_schedule.proofs.Waits.{region_never}

hands_other : (w : Way) (region q : RegisterId) → w ≡ way.Synced region → region.0 ≢ q.0 → hands_on w q ≡ true
hands_other w region q e apart = ap (λ x. hands_on x q) e ∙ ap not (ne_eqb region.0 q.0 apart)

other_region : (r region : ℕ) (s q : RegisterId) → r ≢ region → q.0 ≡ r → s.0 ≡ region → s.0 ≢ q.0
other_region r region s q apart same is e = apart (sym same ∙ sym e ∙ is)

module _ (prog : Program) (regions : Regions) (judged : IsJudged prog regions) (base : Path → Frame → Type 0) (gives : GivesWidths prog base) (p : Path) (f : Frame) (z : Keeping) (fits : Fits prog regions base p f z)
    (m : Memory) (region target : ℕ) (registers : Registers) (going : Going f) (act : action_of prog p f m ≡ Sync region target registers) where
  abbrev next : Frame
  next = synced f region target registers

  known : KnownHold prog f
  known = fits.knows going

  stop : (t : Terminator) × (item_at prog f.function f.block f.index ≡ Some (Ends t)) × SyncsTo t region target
  stop = sync_here prog p f m region target registers act

  abbrev the_way : Way
  the_way = way.Synced (record { 0 = region })

  leads : LeadsTo stop.0 the_way target
  leads = stop.2

  abbrev in_block : StandsIn prog f fits.placed.function fits.placed.block
  in_block = here prog regions judged base gives p f z fits

  along : registers_along prog f target ≡ Some registers
  along = syncs_along prog p f m region target registers act

  agrees : Agrees (parameters_at prog.functions f.function) f.registers registers
  agrees = subst (Passes prog f) act (action_passes prog judged.parameters p f m)

  based : base p next
  based = gives.kept.syncs p f m region target registers fits.based going act

  pub sync_fits : Fits prog regions base p next z
  sync_fits =
      let kept = (facts prog regions judged base gives).sync_kept p f m region target registers fits.based known act based in
      edge_fits prog regions judged base gives p f z fits stop.0 the_way target stop.1 leads refl next refl refl refl refl along agrees (region_never region)
      ((tasks prog regions judged base gives).sync_kept p f m region target registers tt fits.placed act tt).next based kept.next
      (ensured_from prog regions judged base gives p p f next m m one_more kept.finds (λ v. refl))

  pub sync_pending : (r : ℕ) → r ≢ region → Covers (kept_cells prog (pending_at prog p next r)) (kept_cells prog (pending_at prog p f r))
  sync_pending r apart =
      let place = end_place prog f fits.placed.function fits.placed.block in_block stop.0 stop.1 in
      let way_taken : IsTaken fits.placed.block.steps stop.0 (numbers f.registers) target = sync_taken prog f fits.placed.block.steps (tests_here prog judged.ranges f stop.0 place known) stop.0 region target stop.2 in
      let ways = All-contains (IsSyncWay region) (edges_out fits.placed.block.steps stop.0) way_taken.edge (sync_ways fits.placed.block.steps stop.0 region target stop.2) way_taken.among in
      edge_pending prog regions judged base gives p f z fits stop.0 the_way target stop.1 leads refl next refl refl refl refl along agrees (region_never region)
      (takes_way prog f fits.placed.function fits.placed.block in_block stop.0 stop.1 known target way_taken) r (omega arith)
      (λ q same. hands_other way_taken.edge.way ways.0 q ways.1 (other_region r region ways.0 q apart same ways.2))
