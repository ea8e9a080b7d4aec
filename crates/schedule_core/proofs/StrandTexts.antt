-- What a strand goes by, of a module that was decoded: program, places and codes may be known by other names.
use Rattle.std.proofs.Common.{◌≡◌, ℕ, List, Bool, length, sym, subst}
use Rattle.std.specs.Prelude.{Result, Ok, Err, OnOk}
use Rattle.std.proofs.Math.Logic.{∥∥₁_map}
use Rattle.program.specs.declared.function.Program.{Program}
use Rattle.frame_engine.specs.declared.activation.Places.{Places}
use Rattle.frame_engine.specs.declared.activation.Frame.{Frame}
use Rattle.frame_engine.specs.Fits.{HasMoves}
use Rattle.code_tables.specs.Coded.{AreTables}
use Rattle.code_tables.specs.declared.tables.Tables.{Tables}
use Rattle.serial_machine.specs.Decoding.{IsCodeOf}
use Rattle.serial_machine.specs.declared.decoded.Decoded.{Decoded}
use Rattle.serial_machine.specs.verifier.Accepted.{IsAccepted}
use Rattle.schedule_commit.specs.strand.serial_stack.StackShown.{TextFits}
use Rattle.schedule_commit.specs.strand.Along.{IsSettled, IsUnderWay, MayBegin}
use Rattle.schedule_commit.specs.strand.Going.{GoesStill}
use Rattle.schedule_commit.specs.strand.Layouts.{Segment}
use Rattle.schedule_commit.specs.strand.Loading.{HasText}
use Rattle.schedule_commit.specs.strand.declared.strand.Strand.{Strand}
use Rattle.schedule_core.specs.Strands.{IsStrandOf}
use Rattle.schedule_core.specs.declared.stage.Stage.{Stage}
use Rattle.schedule_core.specs.Replaying.{IsMachine}
use Rattle.schedule_core.specs.Stages.{program_of}
use Rattle.schedule_core.proofs.Coding.{places_are}
use Rattle.schedule_core.proofs.Commits.{same_places}
use Rattle.schedule_core.proofs.Grounds.{laws}
use Rattle.schedule_core.proofs.Promised.{has_moves}

module _ (program q : Program) (code : Decoded) (p : Places) (named : q ≡ program) (at : p ≡ code.places) where
  -- what is so of the program and its places is so by the other names
  over : (P : Program → Places → Type 0) → P program code.places → P q p
  over P x = subst (λ (places : Places). P q places) (sym at) (subst (λ (r : Program). P r code.places) (sym named) x)

  back : (P : Program → Places → Type 0) → P q p → P program code.places
  back P x = subst (λ (r : Program). P r code.places) named (subst (λ (places : Places). P q places) at x)

  pub text_by : IsAccepted program → IsCodeOf program code → (moves : ℕ) → HasMoves program moves → TextFits q p moves
  text_by accepted is moves has =
      let text = laws.texts_fit program accepted code.places (places_are program code is) moves has in
      over (λ r places. TextFits r places moves) (record { fits = text.fits; allocas = text.allocas; entries = text.entries; calls = text.calls })

  pub tables_by : (t : Tables) → t ≡ code.tables → IsCodeOf program code → AreTables q p t
  tables_by t by is = subst (λ (u : Tables). AreTables q p u) (sym by) (over (λ r places. AreTables r places code.tables) is.tables)

  pub way_by : (x : Strand) → ∥ IsUnderWay program code.places x ∥₁ → ∥ IsUnderWay q p x ∥₁
  way_by x = over (λ r places. ∥ IsUnderWay r places x ∥₁)

  pub way_back : (x : Strand) → ∥ IsUnderWay q p x ∥₁ → ∥ IsUnderWay program code.places x ∥₁
  way_back x = back (λ r places. ∥ IsUnderWay r places x ∥₁)

  pub still_back : (old new : Strand) → GoesStill q p old new → GoesStill program code.places old new
  still_back old new = back (λ r places. GoesStill r places old new)

  pub settled_back : {T E : Type 0} (r : Result T E) (x : Strand) → IsCodeOf program code → OnOk r (∥ IsSettled q p x ∥₁) → OnOk r (IsStrandOf program x)
  settled_back (Ok t) x is settled =
      record { places = code.places; places_are = places_are program code is; way = back (λ r places. ∥ IsSettled r places x ∥₁) settled }
  settled_back (Err e) x is settled = tt

-- ---- a frame of a stage is loaded

module _ (stage : Stage) (kept : ∥ IsMachine stage ∥₁) (q : Program) (code : Decoded) (p : Places) (named : q ≡ program_of stage) (at : p ≡ code.places) (is : IsCodeOf (program_of stage) code) where
  pub has_text : IsAccepted (program_of stage) → HasText q p
  has_text accepted = (length stage.run.moves.items, text_by (program_of stage) q code p named at accepted is (length stage.run.moves.items) (has_moves stage kept))

  same : code.places ≡ stage.places
  same = same_places stage kept code.places (places_are (program_of stage) code is)

  pub loaded_way : (path : List ℕ) (f : Frame) (childless : Bool) (s : Segment) (x : Strand) →
      ∥ MayBegin (program_of stage) stage.places path f childless s ∥₁ → (MayBegin q p path f childless s → IsUnderWay q p x) → ∥ IsUnderWay (program_of stage) stage.places x ∥₁
  loaded_way path f childless s x begins way =
      subst (λ (places : Places). ∥ IsUnderWay (program_of stage) places x ∥₁) same
      (∥∥₁_map begins (λ b.
      back (program_of stage) q code p named at (λ r places. IsUnderWay r places x)
      (way
      (over (program_of stage) q code p named at (λ r places. MayBegin r places path f childless s)
      (subst (λ (places : Places). MayBegin (program_of stage) places path f childless s) (sym same) b)))))
