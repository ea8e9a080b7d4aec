use Rattle.std.proofs.Common.{rules, ◌≡◌, ◌∙◌, ◌<◌, ap, sym, subst, ℕ, List, length, ℤ, FitsSigned, Option}
use Rattle.std.specs.Prelude.{IfNone, IfSome, min}
use Rattle.std.specs.Int.{w64}
use mir.Val.{to_z, of_z}
use Rattle.std.proofs.lemmas.Int.{to_z-of_z}
use Rattle.frame_engine.specs.Fits.{HasMoves}
use Rattle.store.specs.Refilled.{refilled, row_of}
use Rattle.store.specs.declared.outcome.Finished.{Finished}
use Rattle.store.specs.verifier.Budgets.{budget_of}
use Rattle.serial_stack.proofs.Calling.{vec_small}
use Rattle.window_runs.specs.Ways.{BeginsRun, RunsBeyond, RunsTo}
use Rattle.window_runs.specs.declared.running.Ended.{Ended}
use Rattle.serial_machine.specs.SerialPromise.{EndsWithinBudget}
use Rattle.serial_machine.proofs.Engine.{room}
use Rattle.serial_machine.proofs.Windows.{ends, goes, has_tables, takes_more}
use Rattle.serial_machine.proofs.run.run_in_places.Goals as goal

pub begin-requires-clause-room : goal.begin-requires-clause-room
begin-requires-clause-room c =
    room c.args.code.program.now c.requires.accepted c.args.arguments.now c.args.memory.now c.requires.taken c.requires.cells

pub begin-requires-clause-tables : goal.begin-requires-clause-tables
begin-requires-clause-tables c =
    let r = c.requires in
    has_tables c.args.code.program.now r.accepted c.args.arguments.now c.args.memory.now r.taken r.cells c.args.code.places.now
    r.globals r.allocas c.args.code.tables.now r.tables

pub run-requires : goal.run-requires
run-requires c =
    let r = c.requires in
    let program = c.args.code.program.now in
    let tables = c.args.code.tables.now in
    let arguments = c.args.arguments.now in
    let m = c.args.memory.now in
    let k = c.in_ok-stack.stack in
    let place = c.in_ok-stack.start in
    let moves = length c.as_mut_slice.result.now in
    let long : moves ≡ c.most_moves.result = c.as_mut_slice.ensures.len ∙ c.in_ok-moves.ensures.len in
    let enough : HasMoves program moves = subst (HasMoves program) (sym long) c.most_moves.ensures in
    let begun : BeginsRun program tables arguments (row_of m) k place =
    subst (λ (xs : List ℤ). BeginsRun program tables arguments xs k place) c.in_ok-row.ensures
    c.in_ok-stack.ensures.begins in
    record {
      safe = goes program r.accepted arguments m r.taken r.cells c.args.code.places.now r.globals r.allocas tables r.tables
          moves enough k place begun;
    }

pub returns-in_default-clause-beyond : goal.returns-in_default-clause-beyond
returns-in_default-clause-beyond c =
    let r = c.requires in
    let program = c.args.code.program.now in
    let places = c.args.code.places.now in
    let tables = c.args.code.tables.now in
    let arguments = c.args.arguments.now in
    let m = c.args.memory.now in
    let fuel = c.args.limits.fuel in
    let k = c.in_ok-stack.stack in
    let place = c.in_ok-stack.start in
    let moves = length c.as_mut_slice.result.now in
    let limit : c.min.result ≡ min fuel (budget_of program) = c.min.ensures ∙ ap (λ (n : ℕ). min fuel n) r.budget in
    let long : moves ≡ c.most_moves.result = c.as_mut_slice.ensures.len ∙ c.in_ok-moves.ensures.len in
    let enough : HasMoves program moves = subst (HasMoves program) (sym long) c.most_moves.ensures in
    let begun : BeginsRun program tables arguments (row_of m) k place =
    subst (λ (xs : List ℤ). BeginsRun program tables arguments xs k place) c.in_ok-row.ensures
    c.in_ok-stack.ensures.begins in
    let beyond : RunsBeyond program places tables moves k place c.min.result =
    subst (λ (o : Option Ended). IfNone o (RunsBeyond program places tables moves k place c.min.result)) c.in_default.is
    c.in_ok-ended.ensures.beyond in
    takes_more program r.accepted arguments m r.taken r.cells places r.globals r.allocas tables r.tables moves enough
    k place begun fuel (subst (λ (n : ℕ). RunsBeyond program places tables moves k place n) limit beyond)

pub returns-clause-ends : goal.returns-clause-ends
returns-clause-ends c =
    let r = c.requires in
    let program = c.args.code.program.now in
    let places = c.args.code.places.now in
    let tables = c.args.code.tables.now in
    let arguments = c.args.arguments.now in
    let m = c.args.memory.now in
    let k = c.in_ok-stack.stack in
    let place = c.in_ok-stack.start in
    let moves = length c.as_mut_slice.result.now in
    let new = c.run.new.stack in
    let items = new.cells.cells.items in
    let e = c.in-Some.ended in
    let long : moves ≡ c.most_moves.result = c.as_mut_slice.ensures.len ∙ c.in_ok-moves.ensures.len in
    let enough : HasMoves program moves = subst (HasMoves program) (sym long) c.most_moves.ensures in
    let begun : BeginsRun program tables arguments (row_of m) k place =
    subst (λ (xs : List ℤ). BeginsRun program tables arguments xs k place) c.in_ok-row.ensures
    c.in_ok-stack.ensures.begins in
    let small : length (row_of m) < 9223372036854775808 =
    subst (λ (xs : List ℤ). length xs < 9223372036854775808) c.in_ok-row.ensures (vec_small c.in_ok-row.row) in
    let runs : RunsTo program places tables moves k place new e =
    subst (λ (o : Option Ended). IfSome o (RunsTo program places tables moves k place new)) c.in-Some.is
    c.in_ok-ended.ensures.ends in
    let kept : c.take.result ≡ refilled m items =
    c.take.ensures.all ∙ c.set_row.ensures ∙ ap (λ (xs : List ℤ). refilled m xs) c.as_slice.ensures.value in
    let fit : FitsSigned w64 e.result = search rules in
    let number : to_z w64 (of_z w64 e.result) ≡ e.result = to_z-of_z w64 e.result fit in
    let same : ◌≡◌ {A = Finished} (record { result = e.result; memory = refilled m items; instructions = e.instructions; peak = e.peak })
    (record { result = to_z w64 (of_z w64 e.result); memory = c.take.result; instructions = e.instructions; peak = e.peak }) =
    λ i. record { result = sym number i; memory = sym kept i; instructions = e.instructions; peak = e.peak } in
    subst (λ (d : Finished). EndsWithinBudget program arguments m d) same
    (ends program r.accepted arguments m r.taken r.cells places r.globals r.allocas tables r.tables moves enough k
    place begun small new e runs)
