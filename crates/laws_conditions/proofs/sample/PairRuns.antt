-- The schedule theorem applied to the sample program.
use Rattle.std.proofs.Common.{◌≡◌, [], ◌∷◌, Option, Some, None, refl, sym, ap, ◌∙◌, arith, ℤ}
use Rattle.std.proofs.lemmas.Int.{ints}
use Rattle.semantics.specs.Cells.{Memory, globals_of}
use Rattle.semantics.specs.State.{root_frame}
use Rattle.semantics.specs.SerialMeaning.{Gave, Outcome, IsSerialMeaning, meaning}
use Rattle.laws_conditions.specs.theorem.Schedules.{RunsAsSerial}
use Rattle.laws_conditions.specs.sample.Pair.{pair, PairOnEverySchedule, PairOnTwoWorkers}
use Rattle.laws_conditions.proofs.theorem.EverySchedule.{schedule_theorem}
use Rattle.laws_conditions.proofs.sample.PairSample.{At, Extent, All, zone, pending, opens, Fits, entry_start, Holding, pair_stays, pair_passes, pair_closes}
use Rattle.laws_conditions.proofs.sample.PairSerial.{may_use, may_reach, rank, Serial, Found, pair_serially}
use Rattle.laws_conditions.proofs.sample.PairSerial as serial

outcome_or : Outcome → Option Outcome → Outcome
outcome_or o None = o
outcome_or o (Some u) = u

module _ (n : ℤ) (memory : Memory) where
  -- its serial run, by the definition
  abbrev computed : Outcome
  unfolding outcome_or
  computed = outcome_or (record { ending = Gave None; memory = memory; count = 0; depth = 0 }) (meaning pair 14 [] (root_frame pair (n ∷ [])) (globals_of memory))

  computed_is : IsSerialMeaning pair (n ∷ []) memory computed
  unfolding outcome_or
  computed_is = record { within = 14; meets = refl }

  entry : At n (root_frame pair (n ∷ [])) 0 0
  entry = record { function = refl; is_block = refl; is_index = refl; argument = refl; calls_nobody = λ k d w. absurd (cc) }

  by_theorem : (t : RunsAsSerial pair (n ∷ []) memory 14 2) × Found n [] (root_frame pair (n ∷ [])) (globals_of memory) t.outcome
  by_theorem =
      let fit : Fits n [] (root_frame pair (n ∷ [])) All = entry_start (root_frame pair (n ∷ [])) entry refl refl in
      let good : Serial n [] (root_frame pair (n ∷ [])) (globals_of memory) = serial.entry_start (root_frame pair (n ∷ [])) (globals_of memory) entry refl refl in
      schedule_theorem Extent zone pair (Fits n) pending (λ f z. ⊥) (Holding n) opens (Serial n) (Found n) rank may_use may_reach (pair_stays n) (pair_passes n) (pair_closes n) (pair_serially n)
      (n ∷ []) memory 14 2 All fit (All, fit) good (omega (arith, ints)) (omega arith)

  same : computed ≡ by_theorem.0.outcome
  same = by_theorem.0.only_one computed computed_is

  count_is : computed.count ≡ 14
  unfolding outcome_or
  count_is = refl

  depth_is : computed.depth ≡ 2
  unfolding outcome_or
  depth_is = refl

pub pair_on_every_schedule : PairOnEverySchedule
pair_on_every_schedule n memory =
    let found = (by_theorem n memory).1 in
    ((by_theorem n memory).0, found.0, sym (ap (λ (o : Outcome). o.count) (same n memory)) ∙ count_is n memory, sym (ap (λ (o : Outcome). o.depth) (same n memory)) ∙ depth_is n memory, found.1, found.2)

pub pair_on_two_workers : PairOnTwoWorkers
pair_on_two_workers n memory = record { is_going = refl; done_then = refl; root_then = refl; child_then = refl; idle_then = refl; has_ended_later = refl; done_later = refl; result_later = refl }
