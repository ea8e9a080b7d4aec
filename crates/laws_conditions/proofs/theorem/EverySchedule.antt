-- The schedule theorem from the start on.
use Rattle.std.proofs.Common.{◌≡◌, ℕ, ◌≤◌, List, [], Bool, true, refl, sym, ap, ◌∙◌, subst, arith, le_trans, ℤ, pos, ◌≤ℤ◌}
use Rattle.std.proofs.lemmas.Int.{ints}
use Rattle.semantics.specs.Paths.{Path}
use Rattle.semantics.specs.Cells.{Memory, globals_of}
use Rattle.semantics.specs.Frames.{Free, OnCall, Frame}
use Rattle.semantics.specs.State.{root_frame}
use Rattle.laws_conditions.specs.theorem.Conditions.{Zone, StaysInZone, PassesZonesOn, ClosesRegions}
use Rattle.semantics.specs.SerialMeaning.{Outcome, IsSerialMeaning}
use Rattle.semantics.specs.Events.{Event, start}
use Rattle.semantics.specs.Replay.{replay}
use Rattle.laws_conditions.specs.theorem.SerialConditions.{Says, Finds, Rank}
use Rattle.laws_conditions.specs.theorem.Budgets.{RunsSerially}
use Rattle.laws_conditions.specs.theorem.Schedules.{KeepsSchedule, RunsAsSerial, TestedZone, tested, IsGood, IsFound, EverySchedule}
use Rattle.laws_conditions.proofs.theorem.Feet.{Footed}
use Rattle.laws_conditions.proofs.theorem.Sound.{Sound}
use Rattle.laws_conditions.proofs.theorem.Closed.{span, Holds, no_more}
use Rattle.semantics.proofs.Starting.{begin, at_start, start_tree, start_deep, start_manned, finishes}
use Rattle.laws_conditions.proofs.theorem.SerialExists.{serial_alone}
use Rattle.laws_conditions.proofs.theorem.Budgets.{serially}
use Rattle.laws_conditions.proofs.theorem.Theorem.{Shut, Reached, replay_reached, kept}
use Rattle.program.specs.declared.function.Program.{Program}

-- the root keeps to its zone at the start
start_footed {ℓ} : (Z : Type ℓ) (zone : Z → Zone) (prog : Program) (fits : Path → Frame → Z → Type 0) (pending : Path → Frame → ℕ → Z) (expects : Frame → Z → Type 0) (arguments : List ℤ) (given : Memory) (z : Z) →
    fits [] (root_frame prog arguments) z → Footed Z zone fits pending expects (begin prog arguments given) (λ x. z)
start_footed Z zone prog fits pending expects arguments given z fit = record {
  own = λ p f e on. let (a, b) = at_start prog arguments given p f e in subst (λ (x : Path). fits x f z) (sym a) (subst (λ (y : Frame). fits [] y z) (sym b) fit);
  nested = λ k p c e. absurd (cc);
  waited = λ k r n p f c e e2. absurd (cc);
  siblings = λ k j p c d differ e. absurd (cc);
  expected = λ k d p f e wait. absurd (let (a, b) = at_start prog arguments given p f e in let w : Free ≡ OnCall k d = sym (ap (λ (y : Frame). y.waits) b) ∙ wait in cc);
}

-- whatever the schedule, a program that meets the conditions on zones and regions does what its serial run does
pub kept_by_schedules {ℓ} : (Z : Type ℓ) (zone : Z → Zone) (prog : Program) (fits : Path → Frame → Z → Type 0) (pending : Path → Frame → ℕ → Z) (expects : Frame → Z → Type 0) (holds : Path → Frame → Type 0) (opens : Path → Frame → ℕ → Bool) →
    StaysInZone Z zone prog fits pending → PassesZonesOn Z zone prog fits pending expects → ClosesRegions prog holds opens →
    (arguments : List ℤ) (given : Memory) (z : Z) → fits [] (root_frame prog arguments) z → holds [] (root_frame prog arguments) →
    (o : Outcome) → IsSerialMeaning prog arguments given o → (workers : ℕ) → 1 ≤ workers → (events : List Event) → KeepsSchedule prog workers o (replay prog workers events (start prog arguments given))
kept_by_schedules Z zone prog fits pending expects holds opens inside passes closes arguments given z fit hold o meant workers some events =
    let sound : Sound Z zone prog fits pending expects inside passes (begin prog arguments given) = record {
      tree = start_tree prog arguments given;
      feet = λ x. z;
      footed = start_footed Z zone prog fits pending expects arguments given z fit;
      deep = start_deep prog arguments given;
    } in
    let shut : Shut Z zone prog fits pending expects inside passes holds opens closes (begin prog arguments given) = record {
      tree = start_tree prog arguments given;
      feet = λ x. true;
      footed = start_footed Bool span prog (Holds prog holds opens closes) opens (no_more prog holds opens closes) arguments given true (hold, refl);
    } in
    let fin = finishes prog arguments given o meant in
    let reached : Reached Z zone prog fits pending expects inside passes holds opens closes (begin prog arguments given) sound shut fin.labels fin.last fin.run fin.none workers (start prog arguments given) = record {
      labels = [];
      run_to = refl;
      manned = start_manned prog arguments given workers some;
      fine = refl;
    } in
    let there = replay_reached Z zone prog fits pending expects inside passes holds opens closes (begin prog arguments given) sound shut fin.labels fin.last fin.run fin.none workers events (start prog arguments given) reached in
    kept Z zone prog fits pending expects inside passes holds opens closes (begin prog arguments given) sound shut fin.labels fin.last fin.run fin.none workers o fin.count fin.memory fin.peak fin.result refl (replay prog workers events (start prog arguments given)) there

-- the schedule theorem, for conditions that are facts
pub schedule_theorem {ℓ} : (Z : Type ℓ) (zone : Z → Zone) (prog : Program) (fits : Path → Frame → Z → Type 0) (pending : Path → Frame → ℕ → Z) (expects : Frame → Z → Type 0) (holds : Path → Frame → Type 0) (opens : Path → Frame → ℕ → Bool)
    (good : Says) (post : Finds) (rank : Frame → Rank) (may_use : Frame → ℤ) (may_reach : Frame → ℕ) →
    StaysInZone Z zone prog fits pending → PassesZonesOn Z zone prog fits pending expects → ClosesRegions prog holds opens → RunsSerially prog good post rank may_use may_reach →
    (arguments : List ℤ) (given : Memory) (budget depth : ℕ) (z : Z) → fits [] (root_frame prog arguments) z → holds [] (root_frame prog arguments) → good [] (root_frame prog arguments) (globals_of given) →
    may_use (root_frame prog arguments) ≤ℤ pos budget → may_reach (root_frame prog arguments) ≤ depth →
    (t : RunsAsSerial prog arguments given budget depth) × post [] (root_frame prog arguments) (globals_of given) t.outcome
schedule_theorem Z zone prog fits pending expects holds opens good post rank may_use may_reach inside passes closes serial arguments given budget depth z fit hold start low shallow =
    let s = serially prog good post rank may_use may_reach serial arguments given start in (
      record {
        outcome = s.outcome;
        serial = s.is;
        only_one = λ o meant. serial_alone prog arguments given o s.outcome meant s.is;
        within_budget = under s.outcome.count budget _ s.count low;
        within_depth = le_trans s.depth shallow;
        every_schedule = λ workers some events. kept_by_schedules Z zone prog fits pending expects holds opens inside passes closes arguments given z fit hold s.outcome s.is workers some events;
      },
      s.finds,
    )
  where
    under : (n k : ℕ) (z : ℤ) → pos n ≤ℤ z → z ≤ℤ pos k → n ≤ k
    under n k z h l = omega (arith, ints)

pub every_schedule : EverySchedule
every_schedule prog t meets arguments given budget depth root =
    (schedule_theorem TestedZone tested prog (λ p f y. t.fits p f y ≡ true) t.pending (λ f y. t.expects f y ≡ true) (λ p f. t.holds p f ≡ true) t.opens (IsGood t) (IsFound t) t.rank t.may_use t.may_reach meets.stays meets.passes meets.closes meets.serial
    arguments given budget depth root.zone root.fits root.holds root.good root.may_use root.may_reach).0
