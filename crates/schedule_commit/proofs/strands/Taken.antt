-- What a commit asks for, of a strand that is under way and fits a run that stands safely.
use Rattle.std.proofs.Common.{◌≡◌, ◌≢◌, ◌∙◌, ◌+◌, ◌<◌, ◌≤◌, ℕ, ℤ, List, length, Option, Some, None, refl, sym, ap, subst, arith}
use Rattle.std.specs.Prelude.{IsSome, IsTrue, slice_get}
use Rattle.std.specs.Option.{option_map}
use Rattle.std.proofs.Math.Logic.{∥∥₁_elim, ∥∥₁_map}
use Rattle.std.proofs.Props.{props}
use Rattle.std.proofs.lemmas.List.{get_or_past}
use Rattle.program.specs.declared.function.Program.{Program}
use Rattle.cactus.specs.declared.node.Link.{Link}
use Rattle.cactus.specs.declared.node.Node.{Node}
use Rattle.cactus.specs.Frames.{Frames, frame_at, node_at}
use Rattle.cactus.specs.Chain.{AddsChain, GrowsChain}
use Rattle.frame_engine.specs.declared.activation.Frame.{Frame}
use Rattle.frame_engine.specs.declared.activation.Places.{Places}
use Rattle.frame_engine.specs.Flat.{is_cell}
use Rattle.strand.specs.strand_pages.Tables.{log_of}
use Rattle.schedule_workers.specs.declared.activation.Activation.{Activation}
use Rattle.schedule_workers.specs.declared.run.Run.{Run}
use Rattle.schedule_workers.specs.Follows.{Follows}
use Rattle.schedule_workers.specs.Going.{TextFits}
use Rattle.schedule_workers.specs.Scheduling.{hand_of}
use Rattle.strand.specs.Along.{IsSettled}
use Rattle.strand.specs.declared.strand.Strand.{Strand}
use Rattle.schedule_commit.specs.strands.Absorbing.{DoesStrand, LeavesStallsByStrand, StandsForStrands}
use Rattle.schedule_commit.specs.strands.Committing.{IsCommitted, MayCount}
use Rattle.schedule_commit.specs.strands.Fitting.{FitsStrand}
use Rattle.schedule_commit.specs.strands.Linking.{AreLinks, RegionsFit, frames_of}
use Rattle.schedule_commit.proofs.strands.OfRun.{IsStrandOfRun, strand_of_run}
use Rattle.schedule_commit.proofs.strands.Does.{does_strand, stalls_by_strand}
use Rattle.schedule_commit.proofs.strands.Following.{commit_follows}
use Rattle.schedule_commit.proofs.strands.Ready.{above_fit, frames_room, lowest_long, may_count, own_begins, own_ends, steps_room, within_row}
use Rattle.schedule_commit.proofs.strands.Stood.{still_there}

pub hand_within : (hands : List (Option ℕ)) (worker slot : ℕ) → hand_of hands worker ≡ Some slot → worker < length hands
hand_within hands worker slot has = grind (arith, get_or_past)

stalls_prop : (prog : Program) (places : Places) (k new : Run) (worker : ℕ) (x : Strand) → IsProp (LeavesStallsByStrand prog places k new worker x)
stalls_prop prog places k new worker x = hlevel props

-- frames follow, whoever asks
pub committed_follows : (k new : Run) (x : Strand) (worker slot : ℕ) (mid : Frames Activation) (links : List (Link Activation)) (slots given : List ℕ) → AddsChain k.cactus mid slot links slots → given ≡ slots →
    IsCommitted (record k { cactus = mid }) new worker slot x given → Follows k.cactus new.cactus
committed_follows k new x worker slot mid links slots given adds same made =
    let did : IsCommitted (record k { cactus = mid }) new worker slot x slots = subst (λ (ss : List ℕ). IsCommitted (record k { cactus = mid }) new worker slot x ss) same made in
    subst (λ (f : Frames Activation). Follows k.cactus f) (sym did.cactus) (commit_follows k.cactus mid slot links slots adds.0 did.base adds.1)

module _ (prog : Program) (places : Places) (moves : ℕ) (text : TextFits prog places moves) (k : Run) (x : Strand) (worker slot : ℕ) (fits : FitsStrand prog k worker x slot) (way : ∥ IsSettled prog places x ∥₁) (safe : ∥ StandsForStrands prog places k ∥₁) where
  strand_of : IsSettled prog places x → (st : StandsForStrands prog places k) → IsStrandOfRun prog places k worker x st.machine
  strand_of w st = strand_of_run prog places moves text k worker slot x fits w st.machine st.shown st.safe st.orderly st.loads

  pub regions : RegionsFit x
  regions n f g r continuation at_f at_g is_child =
      ∥∥₁_elim way (hlevel props) (λ w. ∥∥₁_elim safe (hlevel props) (λ st. above_fit prog places k x worker slot fits st (strand_of w st) moves text n f g r continuation at_f at_g is_child))

  pub room : k.cactus.made + length x.below.items < 9223372036854775808
  room = ∥∥₁_elim way (hlevel props) (λ w. ∥∥₁_elim safe (hlevel props) (λ st. frames_room prog places k x worker slot fits st (strand_of w st)))

  pub counted : k.instructions + x.done < 18446744073709551616
  counted = ∥∥₁_elim way (hlevel props) (λ w. ∥∥₁_elim safe (hlevel props) (λ st. steps_room prog places k x worker slot fits st (strand_of w st)))

  pub within : (a : ℤ) → (log_of x.cells.log).writes a ≢ None → IsTrue (is_cell k.cells.cells.items a)
  within a written = ∥∥₁_elim way (hlevel props) (λ w. ∥∥₁_elim safe (hlevel props) (λ st. within_row prog places k x worker slot fits st (strand_of w st) a written))

  pub begins : x.cells.start ≤ x.end
  begins = ∥∥₁_elim way (hlevel props) (λ w. ∥∥₁_elim safe (hlevel props) (λ st. own_begins prog places k x worker slot fits st (strand_of w st)))

  pub ends : x.end ≤ x.cells.start + length x.cells.own.items
  ends = ∥∥₁_elim way (hlevel props) (λ w. ∥∥₁_elim safe (hlevel props) (λ st. own_ends prog places k x worker slot fits st (strand_of w st)))

  pub row : x.end ≤ length k.cells.cells.items
  row = let own = ends in let low = fits.free.row in omega (arith, own, low)

  -- ---- once the frames were made

  module _ (mid : Frames Activation) (links : List (Link Activation)) (slots : List ℕ) (adds : AddsChain k.cactus mid slot links slots) where
    there : node_at mid slot ≡ Some fits.node
    there = still_there k.cactus mid slot fits.node fits.stands links slots adds.0 adds.1 fits.node.frame

    pub lives : IsSome (frame_at mid slot)
    lives = rw there refl

    same : (a : Activation) → frame_at mid slot ≡ Some a → frame_at k.cactus slot ≡ Some a
    same a found = ap (option_map (λ (n : Node Activation). n.frame)) (fits.stands ∙ sym there) ∙ found

    pub registers : (a : Activation) → frame_at mid slot ≡ Some a → (f : Frame) → slice_get (frames_of x) 0 ≡ Some f → length f.registers.items ≡ length a.frame.registers.items
    registers a found f at =
        ∥∥₁_elim way (hlevel props) (λ w. ∥∥₁_elim safe (hlevel props) (λ st. lowest_long prog places k x worker slot fits st (strand_of w st) a (same a found) f at))

    pub counts : (a : Activation) → frame_at mid slot ≡ Some a → MayCount x a
    counts a found = ∥∥₁_elim way (hlevel props) (λ w. ∥∥₁_elim safe (hlevel props) (λ st. may_count prog places k x worker slot fits st (strand_of w st) moves text a (same a found)))

    whole : (new : Run) (given : List ℕ) → given ≡ slots → IsCommitted (record k { cactus = mid }) new worker slot x given → IsCommitted (record k { cactus = mid }) new worker slot x slots
    whole new given is did = subst (λ (ss : List ℕ). IsCommitted (record k { cactus = mid }) new worker slot x ss) is did

    pub does : (new : Run) (given : List ℕ) → given ≡ slots → AreLinks worker x links → GrowsChain k.cactus mid slot links → IsCommitted (record k { cactus = mid }) new worker slot x given → ∥ DoesStrand prog places k new worker x ∥₁
    does new given is are grows did =
        ∥∥₁_map way (λ w. does_strand prog places moves text k new x worker slot fits (hand_within k.hands.items worker slot fits.hand) w mid links are slots adds grows (whole new given is did))

    pub stalls : (new : Run) (given : List ℕ) → given ≡ slots → AreLinks worker x links → GrowsChain k.cactus mid slot links → IsCommitted (record k { cactus = mid }) new worker slot x given → LeavesStallsByStrand prog places k new worker x
    stalls new given is are grows did =
        ∥∥₁_elim way (stalls_prop prog places k new worker x) (λ w. stalls_by_strand prog places moves text k new x worker slot fits (hand_within k.hands.items worker slot fits.hand) w mid links are slots adds grows (whole new given is did))
