use Rattle.std.proofs.Common.{◌≡◌, ◌<◌, ◌≤◌, List, length, slice_get, Some, sym, ap, ◌∙◌, subst, arith, ℤ}
use Rattle.std.specs.Prelude.{sum}
use Rattle.program.specs.declared.function.Function.{Function}
use Rattle.program.specs.declared.function.Program.{Program}
use Rattle.serial_machine.specs.store.Rows.{sizes_of}
use Rattle.serial_machine.specs.store.Refilled.{row_of}
use Rattle.frame_engine.specs.Fits.{HasMoves}
use Rattle.schedule_workers.specs.Starts.{ArePlaces, Begins}
use Rattle.schedule_core.specs.declared.stage.Stage.{Stage}
use Rattle.schedule_core.proofs.Grounds.{laws}
use Rattle.schedule_core.proofs.Begun.{begun_machine, begun_replays, row_long}
use Rattle.schedule_core.proofs.events.staged.Goals as goal

pub start-requires-clause-there : goal.start-requires-clause-there
start-requires-clause-there c = subst (λ (q : Program). q.main.0 < length q.functions) (sym c.program-program.ensures.value) (laws.main c.args.verified.now c.program-program.ensures.accepted c.args.arguments.now c.requires.met).there

pub start-requires-clause-room : goal.start-requires-clause-room
start-requires-clause-room c =
    subst (λ (q : Program). (f : Function) → slice_get q.functions q.main.0 ≡ Some f → length c.args.arguments.now ≤ length f.registers) (sym c.program-program.ensures.value)
    (laws.main c.args.verified.now c.program-program.ensures.accepted c.args.arguments.now c.requires.met).room

pub start-requires-clause-entry : goal.start-requires-clause-entry
start-requires-clause-entry c =
    subst (λ (q : Program). (f : Function) → slice_get q.functions q.main.0 ≡ Some f → 0 < length f.blocks) (sym c.program-program.ensures.value)
    (laws.main c.args.verified.now c.program-program.ensures.accepted c.args.arguments.now c.requires.met).entry

pub returns-clause-replays : goal.returns-clause-replays
returns-clause-replays c =
    let program = c.args.verified.now in
    let places = c.in_ok-places.places in
    let k = c.in_ok-run.run' in
    let stage : Stage = record { verified = c.args.verified; places = places; memory = c.args.memory; run = k } in
    let are : ArePlaces program places = subst (λ (q : Program). ArePlaces q places) c.program-program.ensures.value c.in_ok-places.ensures in
    let begins : Begins program c.args.arguments.now (row_of c.args.memory) k =
    subst (λ (xs : List ℤ). Begins program c.args.arguments.now xs k) c.in_ok-row.ensures (subst (λ (q : Program). Begins q c.args.arguments.now c.in_ok-row.row.items k) c.program-program.ensures.value c.in_ok-run.ensures.begins) in
    begun_replays stage c.program-program.ensures.accepted c.args.arguments.now c.requires.met c.requires.made c.args.workers c.requires.workers are begins c.in_ok-run.ensures.workers c.in_ok-run.ensures.stalls

pub returns-clause-machine : goal.returns-clause-machine
returns-clause-machine c =
    let program = c.args.verified.now in
    let places = c.in_ok-places.places in
    let k = c.in_ok-run.run' in
    let stage : Stage = record { verified = c.args.verified; places = places; memory = c.args.memory; run = k } in
    let are : ArePlaces program places = subst (λ (q : Program). ArePlaces q places) c.program-program.ensures.value c.in_ok-places.ensures in
    let begins : Begins program c.args.arguments.now (row_of c.args.memory) k =
    subst (λ (xs : List ℤ). Begins program c.args.arguments.now xs k) c.in_ok-row.ensures (subst (λ (q : Program). Begins q c.args.arguments.now c.in_ok-row.row.items k) c.program-program.ensures.value c.in_ok-run.ensures.begins) in
    let moves : HasMoves program (length k.moves.items) =
    subst (λ n. HasMoves program n) (sym c.in_ok-run.ensures.moves) (subst (λ (q : Program). HasMoves q c.most_moves.result) c.program-program.ensures.value c.most_moves.ensures) in
    let v = c.in_ok-row.row in
    let long : length v.items ≡ sum (sizes_of c.args.memory) = ap (λ (xs : List ℤ). length xs) c.in_ok-row.ensures ∙ row_long c.args.memory in
    let small : sum (sizes_of c.args.memory) < 9223372036854775808 = let a = v.ok.0 in let b = v.ok.1 in let d = v.small in omega (arith, a, b, d, long) in
    begun_machine stage c.program-program.ensures.accepted c.args.arguments.now c.requires.met c.requires.made c.args.workers c.requires.workers are begins c.in_ok-run.ensures.workers c.in_ok-run.ensures.stalls moves small c.in_ok-run.ensures.given
