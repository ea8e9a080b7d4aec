use Rattle.std.proofs.Common.{Vec, Global, ◌≡◌, ◌∙◌, ◌-◌, List, ℕ, ℤ, None, Some, length, ap, map, subst, sym}
use Rattle.std.specs.Prelude.{IsTrue, slice_get}
use Rattle.std.specs.Option.{option_copied_mut}
use Rattle.std.specs.Vec.{with_items}
use Rattle.std.proofs.lemmas.Option.{same_Some}
use Rattle.cactus.specs.Frames.{frame_at}
use Rattle.cactus.specs.Lending.{with_frame}
use Rattle.frame_engine.specs.Flat.{is_cell}
use Rattle.frame_engine.specs.declared.activation.Frame.{Frame}
use Rattle.frame_strand.specs.Keeping.{AreDifferent}
use Rattle.frame_strand.specs.declared.cells.Written.{Written}
use Rattle.schedule_workers.specs.Rooms.{IsRoomier}
use Rattle.schedule_commit.specs.TakingBack.{IsRestored}
use Rattle.schedule_commit.proofs.Restored.{cells_there}
use Rattle.schedule_commit.proofs.TakenBack.{as_many, cells_late, frame_late, goes_back, present}
use Rattle.schedule_commit.proofs.taking_back.take_back.Goals as goal

pub restore-requires-clause-within : goal.restore-requires-clause-within
restore-requires-clause-within c = λ i w at.
    let (before, was) = c.requires in
    let x = c.args.strand.now in
    let numbers = c.args.numbers.now in
    let late = c.args.run.now in
    let there : slice_get x.course.cells.writes i ≡ Some w = ap (λ (ws : List Written). slice_get ws i) (sym c.writes.ensures.is) ∙ at in
    subst (λ (row : List ℤ). IsTrue (is_cell row w.at)) (sym c.as_mut_slice.ensures.value)
    (cells_there x.course.cells.writes numbers before.cells.cells.items late.cells.cells.items was.numbers_are (cells_late before late c.args.slot x numbers was) i w there)

pub restore-requires-clause-many : goal.restore-requires-clause-many
restore-requires-clause-many c = c.requires.1.numbers_are.many ∙ ap (λ (ws : List Written). length ws) (sym c.writes.ensures.is)

pub restore-requires-clause-differ : goal.restore-requires-clause-differ
restore-requires-clause-differ c = subst (λ (ws : List Written). AreDifferent (map (λ (w : Written). w.at) ws)) (sym c.writes.ensures.is) c.writes.ensures.differ

pub unreachable-requires : goal.unreachable-requires
unreachable-requires c =
    let (before, was) = c.requires in
    let none : frame_at c.args.run.now.cactus c.args.slot ≡ None = sym c.frame_mut.ensures.value ∙ ap option_copied_mut c.in_default.is in
    let some = frame_late before c.args.run.now c.args.slot c.args.strand.now c.args.numbers.now was in
    let e = sym none ∙ some in
    cc

pub write_frame-requires : goal.write_frame-requires
write_frame-requires c =
    let (before, was) = c.requires in
    let late = c.args.run.now in
    let x = c.args.strand.now in
    let numbers = c.args.numbers.now in
    let here = same_Some c.in-Some.activation.now (present before late c.args.slot x numbers was)
    (sym (ap option_copied_mut c.in-Some.is) ∙ c.frame_mut.ensures.value ∙ frame_late before late c.args.slot x numbers was) in
    ap (λ (f : Frame). length f.registers.items) c.loaded-loaded.ensures ∙ as_many before late c.args.slot x numbers was ∙ ap (λ a. length a.frame.registers.items) (sym here)

pub returns : goal.returns
returns c = λ before was.
    let late = c.args.run.now in
    let slot = c.args.slot in
    let x = c.args.strand.now in
    let numbers = c.args.numbers.now in
    let a = c.in-Some.activation.now in
    let here = same_Some a (present before late slot x numbers was)
    (sym (ap option_copied_mut c.in-Some.is) ∙ c.frame_mut.ensures.value ∙ frame_late before late slot x numbers was) in
    let restored = subst (λ (row : List ℤ). IsRestored x.course.cells.writes numbers row c.restore.new.row) c.as_mut_slice.ensures.value
    (subst (λ (ws : List Written). IsRestored ws numbers c.as_mut_slice.result.now c.restore.new.row) c.writes.ensures.is c.restore.ensures) in
    let loaded = c.loaded-loaded.result.now in
    let frame = c.write_frame.ensures.only
    ∙ ap (λ (v : Vec ℤ Global). record a.frame { place = loaded.place; registers = v; waits = loaded.waits }) c.write_frame.ensures.room
    ∙ ap (λ (f : Frame). record a.frame { place = f.place; registers = with_items a.frame.registers f.registers.items; waits = f.waits }) c.loaded-loaded.ensures in
    let back = goes_back before late slot x numbers was c.restore.new.row (c.restore.ensures.long ∙ c.as_mut_slice.ensures.len) restored a here c.write_frame.new.target frame in
    subst (λ (n : ℕ). IsRoomier before (record late {
      cells = record { cells = with_items late.cells.cells c.restore.new.row };
      cactus = with_frame late.cactus slot (record a { frame = c.write_frame.new.target });
      instructions = late.instructions - n;
    })) (sym c.done.ensures) back
