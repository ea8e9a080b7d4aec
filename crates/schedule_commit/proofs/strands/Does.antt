-- What a strand did happens as steps of the worker, and the run after the commit shows the machine after them.
use Rattle.std.proofs.Common.{◌≡◌, ◌∙◌, ◌<◌, ℕ, List, [], length, Some, None, sym, ap, subst}
use Rattle.std.specs.Option.{option_map}
use Rattle.std.proofs.lemmas.Option.{same_Some}
use Rattle.semantics.specs.Events.{Machine}
use Rattle.program.specs.declared.function.Program.{Program}
use Rattle.cactus.specs.declared.node.Link.{Link}
use Rattle.cactus.specs.declared.node.Node.{Node}
use Rattle.cactus.specs.Frames.{Frames, node_at}
use Rattle.cactus.specs.ByPath.{IsTree}
use Rattle.cactus.specs.Chain.{AddsChain, GrowsChain}
use Rattle.frame_engine.specs.declared.activation.Places.{Places}
use Rattle.schedule_workers.specs.declared.activation.Activation.{Activation}
use Rattle.schedule_workers.specs.declared.run.Run.{Run}
use Rattle.schedule_workers.specs.Stalls.{last_blocks}
use Rattle.schedule_workers.specs.Going.{RunsSafely, TextFits}
use Rattle.schedule_workers.specs.RunShown.{IsShown}
use Rattle.schedule_commit.proofs.Sound.{never_traps}
use Rattle.laws_strands.specs.Law.{Happen, steps_by}
use Rattle.laws_strands.specs.stacks.Law.{IsOrderly, absorbed}
use Rattle.laws_strands.proofs.stacks.Law.{strands_are_steps}
use Rattle.strand.specs.Along.{IsSettled}
use Rattle.strand.specs.declared.strand.Strand.{Strand}
use Rattle.schedule_commit.specs.strands.Absorbing.{Absorbs, DoesStrand, GoAsStrandsIn, LeavesStallsByStrand}
use Rattle.schedule_commit.specs.strands.Committing.{IsBase, IsCommitted}
use Rattle.schedule_commit.specs.strands.Fitting.{FitsStrand}
use Rattle.schedule_commit.specs.strands.Linking.{AreLinks}
use Rattle.schedule_commit.proofs.strands.OfRun.{IsStrandOfRun, callee_none, strand_of_run}
use Rattle.schedule_commit.proofs.strands.Noting.{last_off}
use Rattle.schedule_commit.proofs.strands.CommitShown.{committed_shown, committed_stalls, mid_tree}
use Rattle.schedule_commit.proofs.strands.Stood.{AreSeated, final_tree, seated, still_there}

module _ (prog : Program) (places : Places) (moves : ℕ) (text : TextFits prog places moves) (k new : Run) (x : Strand) (worker slot : ℕ) (fits : FitsStrand prog k worker x slot) (within : worker < length k.hands.items) (way : IsSettled prog places x)
    (mid : Frames Activation) (links : List (Link Activation)) (are : AreLinks worker x links) (slots : List ℕ) (adds : AddsChain k.cactus mid slot links slots) (grows : GrowsChain k.cactus mid slot links)
    (did : IsCommitted (record k { cactus = mid }) new worker slot x slots) where
  abbrev node : Node Activation
  node = fits.node

  is_base : IsBase x node.frame did.base
  is_base =
      let there : node_at mid slot ≡ Some node = still_there k.cactus mid slot node fits.stands links slots adds.0 adds.1 did.base in
      let same : did.was ≡ node.frame = same_Some did.was node.frame (sym did.stood ∙ ap (option_map (λ (n : Node Activation). n.frame)) there) in
      subst (λ (a : Activation). IsBase x a did.base) same did.is_base

  seats : AreSeated k.cactus new.cactus slot node.path.numbers did.base links slots
  seats = subst (λ (f : Frames Activation). AreSeated k.cactus f slot node.path.numbers did.base links slots) (sym did.cactus) (seated k.cactus mid slot node fits.stands links slots adds.0 adds.1 did.base)

  module _ (m : Machine) (shown : IsShown prog places m k) (safe : RunsSafely prog (length k.hands.items) m) (orderly : IsOrderly m) (loads : GoAsStrandsIn prog places m) where
    abbrev d : IsStrandOfRun prog places k worker x m
    d = strand_of_run prog places moves text k worker slot x fits way m shown safe orderly loads

    none : node.frame.callee ≡ None
    none = callee_none prog places moves text k worker slot x fits way m shown safe orderly loads

    tree : IsTree new.cactus
    tree =
        subst (λ (f : Frames Activation). IsTree f) (sym did.cactus)
        (final_tree k.cactus mid slot node fits.stands links slots adds.0 adds.1 did.base (mid_tree prog places moves text k m shown orderly (safe []).points x worker slot fits within d none links are mid grows))

    steps : Happen prog (length k.hands.items) (steps_by worker x.done) m (absorbed m worker d.strand)
    steps =
        subst (λ n. Happen prog (length k.hands.items) (steps_by worker n) m (absorbed m worker d.strand)) d.shown.done
        (strands_are_steps prog (length k.hands.items) m worker d.strand d.is d.fits orderly (never_traps prog (length k.hands.items) m safe shown.shows.trapped)).steps

    pub absorbs : Absorbs prog places k new worker x m
    absorbs = record {
      strand = d.strand;
      is = d.is;
      shows = d.shown;
      steps = steps;
      shown = subst (λ (r : Run). IsShown prog places (absorbed m worker d.strand) r) (sym did.only)
          (committed_shown prog places moves text k m shown orderly (safe []).points x worker slot fits within d none links are new.cactus tree did.base is_base slots seats new.cells did.cells);
    }

  pub does_strand : DoesStrand prog places k new worker x
  does_strand m shown safe orderly loads = absorbs m shown safe orderly loads

  pub stalls_by_strand : LeavesStallsByStrand prog places k new worker x
  stalls_by_strand m shown safe orderly loads last agree =
      let s = d m shown safe orderly loads in
      let workers = length k.hands.items in
      let never = never_traps prog workers m safe shown.shows.trapped in
      committed_stalls prog places moves text k m shown orderly (safe []).points x worker slot fits within s (none m shown safe orderly loads) links are new.cactus (tree m shown safe orderly loads) did.base is_base slots seats new.cells did.cells
      last (last_blocks prog workers (steps_by worker x.done) m last)
      (λ q was lives away. ap (λ j. last_blocks prog workers (steps_by worker j) m last q) (sym s.shown.done) ∙ last_off prog workers m worker orderly never last q was lives s.strand s.is s.fits away)
      agree
