use Rattle.std.proofs.Common.{◌≡◌, ◌≤◌, ◌+◌, arith, rules, subst}
use Rattle.std.proofs.Math.Logic.{∥∥₁_elim}
use Rattle.std.proofs.Props.{props}
use Rattle.program.specs.declared.function.Program.{Program}
use Rattle.schedule_workers.specs.Starts.{ArePlaces}
use Rattle.schedule_core.specs.strand.Along.{IsUnderWay}
use Rattle.schedule_core.proofs.Coding.{places_are}
use Rattle.shared_run.specs.Strands.{Apart, StandsSo}
use Rattle.shared_run.proofs.Strands.{holds_onward, stands_so}
use Rattle.shared_run.proofs.worker_strand.WorkerStrand.advance.Goals as goal

pub invariant_of-self : goal.invariant_of-self
invariant_of-self g c =
    let x = c.self.inside in (
      c.self.invariant.0,
      c.self.invariant.1,
      holds_onward x.verified.now x.code.now.places c.advance_strand.new.strand c.in-Ok.pause c.of-self-inside.result c.of-self-inside.ensures c.in-Ok.ensures.moves c.in-Ok.ensures.board c.in-Ok.ensures.going,
      tt,
    )

-- a strand that is under way has done no more than one may
pub advance_strand-requires-clause-room : goal.advance_strand-requires-clause-room
advance_strand-requires-clause-room g c =
    let x = c.self.inside in
    let way : ∥ IsUnderWay x.verified.now x.code.now.places x.strand ∥₁ = search rules in
    let sum = c.saturating_add.ensures in
    let least = c.min-limit.ensures in
    ∥∥₁_elim way (hlevel props) (λ w. let short = w.short in omega (arith, short, sum, least))

pub returns-in-Ok-clause-why : goal.returns-in-Ok-clause-why
returns-in-Ok-clause-why g c =
    let x = c.self.inside in
    stands_so x.verified.now g.L.Bench.code x.code.now.places (record { strand = c.advance_strand.new.strand; standing = c.of-self-inside.result }) c.self.invariant.0 (places_are x.verified.now x.code.now c.self.invariant.1)
    (holds_onward x.verified.now x.code.now.places c.advance_strand.new.strand c.in-Ok.pause c.of-self-inside.result c.of-self-inside.ensures c.in-Ok.ensures.moves c.in-Ok.ensures.board c.in-Ok.ensures.going)

pub returns-then-ne-clause-why : goal.returns-then-ne-clause-why
returns-then-ne-clause-why g c =
    let x = c.self.inside in
    subst (λ (y : Apart). StandsSo g.L.Bench.code y) c.self.view_is
    (stands_so x.verified.now g.L.Bench.code x.code.now.places (record { strand = x.strand; standing = x.standing }) c.self.invariant.0 (places_are x.verified.now x.code.now c.self.invariant.1) c.self.invariant.2)

pub returns-in-Err-clause-why : goal.returns-in-Err-clause-why
returns-in-Err-clause-why g c =
    let x = c.self.inside in (
      x.code.now.places,
      subst (λ (q : Program). ArePlaces q x.code.now.places) c.self.invariant.0 (places_are x.verified.now x.code.now c.self.invariant.1),
      tt,
    )
