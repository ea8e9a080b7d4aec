use Rattle.std.proofs.Common.{◌≡◌, ◌∙◌, ◌<◌, ap, sym, subst, ℕ, List, length, ℤ, refl}
use Rattle.store.specs.Rows.{sizes_of}
use Rattle.store.specs.Refilled.{row_of}
use Rattle.frame_engine.specs.Starts.{starts_from}
use Rattle.serial_stack.specs.StackShown.{TextFits}
use Rattle.serial_stack.specs.Starts.{Begins}
use Rattle.serial_stack.proofs.Calling.{vec_small}
use Rattle.serial_machine.proofs.Engine.{fits, goes, room}
use Rattle.serial_machine.proofs.Windows.{some_fit}
use Rattle.lone_run.proofs.run.LoneRun.of_taken.Goals as goal

pub decode-requires : goal.decode-requires
decode-requires c =
    let places = c.in_ok-places.places in
    let globals : places.globals ≡ starts_from 0 (sizes_of c.args.memory) = c.in_ok-places.ensures.globals ∙ ap (λ (xs : List ℕ). starts_from 0 xs) (sym c.requires.made) in
    record { fits = some_fit c.args.program.now c.requires.accepted c.args.arguments.now c.args.memory c.requires.taken c.requires.cells places globals c.in_ok-places.ensures.allocas }

pub begin-requires-clause-room : goal.begin-requires-clause-room
begin-requires-clause-room c = room c.args.program.now c.requires.accepted c.args.arguments.now c.args.memory c.requires.taken c.requires.cells

pub begin-requires-clause-entry : goal.begin-requires-clause-entry
begin-requires-clause-entry c =
    let places = c.in_ok-places.places in
    let globals : places.globals ≡ starts_from 0 (sizes_of c.args.memory) = c.in_ok-places.ensures.globals ∙ ap (λ (xs : List ℕ). starts_from 0 xs) (sym c.requires.made) in
    (fits c.args.program.now c.requires.accepted c.args.arguments.now c.args.memory c.requires.taken c.requires.cells places globals c.in_ok-places.ensures.allocas c.most_moves.result c.most_moves.ensures).entries c.args.program.now.main.0

pub returns-clause-begins : goal.returns-clause-begins
returns-clause-begins c =
    let program = c.args.program.now in
    let arguments = c.args.arguments.now in
    let m = c.args.memory in
    let places = c.in_ok-places.places in
    let k = c.in_ok-stack.stack in
    let globals : places.globals ≡ starts_from 0 (sizes_of m) = c.in_ok-places.ensures.globals ∙ ap (λ (xs : List ℕ). starts_from 0 xs) (sym c.requires.made) in
    let begun : Begins program arguments (row_of m) k = subst (λ (xs : List ℤ). Begins program arguments xs k) c.in_ok-row.ensures c.in_ok-stack.ensures.begins in (
      refl,
      refl,
      refl,
      record {
        may = record { accepted = c.requires.accepted; taken = c.requires.taken; cells = c.requires.cells };
        globals = globals;
        allocas = c.in_ok-places.ensures.allocas;
        coded = c.in_ok-tables.ensures;
        small = subst (λ (xs : List ℤ). length xs < 9223372036854775808) c.in_ok-row.ensures (vec_small c.in_ok-row.row);
        few = c.requires.few;
        text = subst (λ (n : ℕ). TextFits program places n) (sym c.in_ok-stack.ensures.moves)
            (fits program c.requires.accepted arguments m c.requires.taken c.requires.cells places globals c.in_ok-places.ensures.allocas c.most_moves.result c.most_moves.ensures);
        safe = goes program c.requires.accepted arguments m c.requires.taken c.requires.cells places globals c.in_ok-places.ensures.allocas k begun;
        first = k;
        begun = begun;
        walked = λ globals start safe h. h;
      },
    )
