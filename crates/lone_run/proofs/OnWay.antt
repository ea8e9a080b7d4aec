-- A strand leads the run on, or to its end.
use Rattle.std.proofs.Common.{◌≡◌, ℕ, suc, ◌+◌, ◌<◌, ◌≤◌, max, List, length, sym, subst, ℤ, Some, None}
use Rattle.std.proofs.Math.Logic.{∥∥₁_elim, ∥∥₁_map}
use Rattle.std.proofs.Props.{props}
use Rattle.program.specs.declared.function.Program.{Program}
use Rattle.store.specs.Cells.{NamedCells}
use Rattle.store.specs.Refilled.{refilled}
use Rattle.store.specs.verifier.Budgets.{budget_of}
use Rattle.frame_engine.specs.Activation.{FrameFits}
use Rattle.frame_engine.specs.declared.activation.Places.{Places}
use Rattle.code_tables.specs.declared.tables.Tables.{Tables}
use Rattle.serial_stack.specs.Runs.{HasWalked}
use Rattle.serial_stack.specs.StackShown.{Advances, HasNumbers, Returns, RunsSafely, StandsSafely, StaysSafely, TextFits}
use Rattle.serial_stack.specs.Steps.{Run}
use Rattle.serial_stack.specs.declared.stack.Stack.{Stack}
use Rattle.serial_stack.proofs.Turning.{fits_prop, goes_on_here, may_go_on, numbers_here, no_less, numbers_prop, stands_here, stays_here, turned, walked_on, within_here}
use Rattle.serial_machine.specs.SerialPromise.{EndsWithinBudget, TakesMore}
use Rattle.serial_machine.proofs.Engine.{ends, globals, safe, start, takes_more, walked}
use Rattle.lone_run.specs.UnderWay.{IsOnWay}

module _ (program : Program) (arguments : List ℤ) (memory : List NamedCells) (places : Places) (tables : Tables) (k : Stack) (n peak : ℕ) (w : IsOnWay program arguments memory places tables k n peak) where
  -- ---- where it stands

  from_start : RunsSafely (globals program w.may.accepted arguments memory w.may.taken w.may.cells) program (budget_of program)
      (start program w.may.accepted arguments memory w.may.taken w.may.cells)
  from_start = safe program w.may.accepted arguments memory w.may.taken w.may.cells

  has_walked : HasWalked (globals program w.may.accepted arguments memory w.may.taken w.may.cells) program places
      (start program w.may.accepted arguments memory w.may.taken w.may.cells) n peak k
  has_walked = w.walked _ _ from_start
      (walked program w.may.accepted arguments memory w.may.taken w.may.cells places w.globals w.allocas w.first w.begun)

  pub fits : FrameFits program k.top.value
  fits = ∥∥₁_elim w.safe (fits_prop _ _) (λ m. m.walked.shown.top.fits)

  pub stays : StaysSafely program places k
  stays = ∥∥₁_map w.safe (stays_here program places (budget_of program) n k)

  pub stands : StandsSafely program places k
  stands = ∥∥₁_map w.safe (stands_here program places (budget_of program) n k)

  pub numbers : HasNumbers k.top.value
  numbers = ∥∥₁_elim w.safe (numbers_prop _) (numbers_here program places (budget_of program) n k)

  pub within : n < budget_of program
  within = ∥∥₁_elim w.safe (hlevel props) (within_here program places (budget_of program) n k)

  -- ---- plain steps

  pub done_before : (j : Stack) (m : ℕ) → Advances program places k j n m → n ≤ m
  done_before j m on = ∥∥₁_elim w.safe (hlevel props) (no_less program places (budget_of program) n k m j on)

  pub went_on : (j : Stack) (m : ℕ) → length j.moves.items ≡ length k.moves.items → Advances program places k j n m → IsOnWay program arguments memory places tables j m peak
  went_on j m moves on = record {
    may = w.may;
    globals = w.globals;
    allocas = w.allocas;
    coded = w.coded;
    small = w.small;
    few = w.few;
    text = subst (λ (x : ℕ). TextFits program places x) (sym moves) w.text;
    safe = ∥∥₁_map w.safe (goes_on_here program places (budget_of program) n k m j on);
    first = w.first;
    begun = w.begun;
    walked = λ globals start safe h. walked_on globals program places (budget_of program) n m peak start k j safe (w.walked globals start safe h) on;
  }

  -- ---- over a border

  pub passed : (j : Stack) (m high : ℕ) → length j.moves.items ≡ length k.moves.items → m ≡ n + 1 → high ≡ max peak (suc (length j.below.items)) → Returns program places k j None →
      IsOnWay program arguments memory places tables j m high
  passed j m high moves one top returns =
      let on : (globals : List ℕ) (start : Run) (p : ℕ) → RunsSafely globals program (budget_of program) start → HasWalked globals program places start n p k → HasWalked globals program places start m (max p (suc (length j.below.items))) j =
      λ globals start p safe h. turned globals program places (budget_of program) n m p start k j None safe h one returns in
      record {
        may = w.may;
        globals = w.globals;
        allocas = w.allocas;
        coded = w.coded;
        small = w.small;
        few = w.few;
        text = subst (λ (x : ℕ). TextFits program places x) (sym moves) w.text;
        safe = ∥∥₁_map w.safe (may_go_on program places (budget_of program) n m (suc (length j.below.items)) k j on);
        first = w.first;
        begun = w.begun;
        walked = λ globals start safe h. subst (λ (x : ℕ). HasWalked globals program places start m x j) (sym top) (on globals start peak safe (w.walked globals start safe h));
      }

  pub over : (j : Stack) (m : ℕ) (z : ℤ) → m ≡ n + 1 → Returns program places k j (Some z) →
      EndsWithinBudget program arguments memory (record { result = z; memory = refilled memory j.cells.cells.items; instructions = m; peak = peak })
  over j m z one returns =
      ends program w.may.accepted arguments memory w.may.taken w.may.cells places m peak j w.small z
      (turned _ program places (budget_of program) n m peak _ k j (Some z) from_start has_walked one returns)

  -- ---- what is left

  pub takes : TakesMore program arguments memory n
  takes = takes_more program w.may.accepted arguments memory w.may.taken w.may.cells places n peak k has_walked
