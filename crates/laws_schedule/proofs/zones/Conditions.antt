-- The conditions on zones.
use Rattle.std.proofs.Common.{◌≡◌, true, refl}
use Rattle.semantics.specs.Paths.{Path}
use Rattle.semantics.specs.Frames.{Frame}
use Rattle.laws_conditions.specs.theorem.Conditions.{StaysInZone, PassesZonesOn}
use Rattle.program.specs.declared.function.Program.{Program}
use Rattle.laws_phases.specs.region_match.declared.tables.Regions.{Regions}
use Rattle.laws_conditions.proofs.rules.Moves.{moves}
use Rattle.laws_phases.proofs.zones.Accesses.{accesses_let}
use Rattle.laws_schedule.specs.zones.Keeping.{Keeping, kept_cells, pending_at, Fits, Expects}
use Rattle.laws_schedule.specs.zones.ByPhases.{IsJudged, GivesWidths}
use Rattle.laws_schedule.specs.zones.Conditions.{ZonesAreMet}
use Rattle.laws_schedule.proofs.zones.Clear.{touched_covered, touched_clear}
use Rattle.laws_schedule.proofs.zones.Elements.{known_holds, names_are_apart, elements_hold}
use Rattle.laws_schedule.proofs.zones.Stepping.{facts, here, plain_fits, plain_pending}
use Rattle.laws_schedule.proofs.zones.Children as child
use Rattle.laws_schedule.proofs.zones.Syncs.{sync_fits, sync_pending}
use Rattle.laws_schedule.proofs.zones.Calls as call

module _ (prog : Program) (regions : Regions) (judged : IsJudged prog regions) (base : Path → Frame → Type 0) (gives : GivesWidths prog base) where
  stays : StaysInZone Keeping (kept_cells prog) prog (Fits prog regions base) (pending_at prog)
  stays = record {
    keeps = λ p f z m e fits going act.
        let stands = here prog regions judged base gives p f z fits in
        let may = accesses_let prog regions judged.zones p f m fits.placed.function fits.placed.block stands (known_holds prog f fits.placed.function fits.placed.block stands (fits.knows going))
        (names_are_apart prog f fits.placed.function fits.placed.block stands regions judged p fits.names) (elements_hold prog f fits.placed.function fits.placed.block stands regions judged fits.elements) e act in
        (touched_covered prog regions judged base p f z fits e may, touched_clear prog regions judged base p f z fits e may);
    owns = λ p f z c fits below. fits.owns c below;
  }

  passes : PassesZonesOn Keeping (kept_cells prog) prog (Fits prog regions base) (pending_at prog) (Expects prog)
  passes = record {
    plain_ok = λ p f z m e fits going act fine.
        let way = moves prog p f m e act fine in
        (plain_fits prog regions judged base gives p f z fits m e going act fine way, plain_pending prog regions judged base gives p f z fits m e going act fine way);
    detach_ok = λ p f z m region body next fits going act. (
      child.keeping prog regions judged base gives p f z fits m region body next going act,
      child.child_covered prog regions judged base gives p f z fits m region body next going act,
      child.child_clear prog regions judged base gives p f z fits m region body next going act,
      child.child_fits prog regions judged base gives p f z fits m region body next going act,
      child.on_fits prog regions judged base gives p f z fits m region body next going act,
      child.on_pending prog regions judged base gives p f z fits m region body next going act,
      child.foot_covered prog regions judged base gives p f z fits m region body next going act,
    );
    sync_ok = λ p f z m region block registers fits going act. (
      sync_fits prog regions judged base gives p f z fits m region block registers going act,
      sync_pending prog regions judged base gives p f z fits m region block registers going act,
    );
    call_ok = λ p f z m d callee values fits going act. (
      call.keeping prog regions judged base gives p f z fits m d callee values going act,
      call.callee_covered prog regions judged base gives p f z fits m d callee values going act,
      call.callee_clear prog regions judged base gives p f z fits m d callee values going act,
      call.callee_fits prog regions judged base gives p f z fits m d callee values going act,
      call.pause_fits prog regions judged base gives p f z fits m d callee values going act,
      call.pause_pending prog regions judged base gives p f z fits m d callee values going act,
      call.expected prog regions judged base gives p f z fits m d callee values going act,
    );
    return_ok = λ p f z m result fits going act.
        fits.returns result ((facts prog regions judged base gives).return_finds p f m result fits.based (fits.knows going) act result refl);
    resume_ok = λ p f z y k d result fits waits expects promised. (
      call.next_keeps prog regions judged base gives p f z fits y k d result waits expects promised,
      call.next_pending prog regions judged base gives p f z fits y k d result waits expects promised,
    );
  }

pub zones_are_met : ZonesAreMet
zones_are_met prog regions base judged gives = record {
  stays = stays prog regions judged (λ p f. base p f ≡ true) gives;
  passes = passes prog regions judged (λ p f. base p f ≡ true) gives;
}
