use Rattle.std.proofs.Common.{◌≡◌, ◌∙◌, ◌+◌, List, ℤ, length, sym, ap, subst}
use Rattle.std.specs.Option.{option_copied_mut}
use Rattle.std.specs.Vec.{with_items}
use Rattle.std.proofs.lemmas.List.{with_items_is}
use Rattle.frame.specs.declared.frame.Wait.TheVariants.{Nothing}
use Rattle.cactus.specs.Lending.{with_frame}
use Rattle.frame_engine.specs.declared.activation.Frame.{Frame}
use Rattle.frame_strand.specs.declared.cells.Written.{Written}
use Rattle.schedule_workers.proofs.Onward.{node_of}
use Rattle.schedule_commit.specs.Putting.{IsPutInto}
use Rattle.schedule_commit.proofs.taking.put_frame_strand.Goals as goal

pub returns : goal.returns
returns c =
    let k = c.args.run.now in
    let x = c.args.strand.now in
    let a = c.in-Some.activation.now in
    let n = node_of k.cactus c.args.slot a (sym c.frame_mut.ensures.value ∙ ap option_copied_mut c.in-Some.is) in
    let f = c.write_frame.new.target in
    let row = c.put_writes.new.row in
    let long : length row ≡ k.cells.cells.len = c.put_writes.ensures.long ∙ (ap (λ (xs : List ℤ). length xs) c.as_mut_slice.ensures.value ∙ sym k.cells.cells.ok.0) in
    record {
      node = record n.0 { frame = a };
      stood = n.1;
      frame = f;
      only = c.write_frame.ensures.only ∙ ap (λ (y : Frame). record a.frame { place = y.place; registers = f.registers; waits = Nothing }) c.present.ensures;
      registers = c.write_frame.ensures.registers ∙ ap (λ (y : Frame). y.registers.items) c.present.ensures;
      room = c.write_frame.ensures.room ∙ ap (λ (y : Frame). with_items a.frame.registers y.registers.items) c.present.ensures;
      cells = subst (λ xs. IsPutInto x.course.cells.writes k.cells.cells.items xs) (sym (with_items_is k.cells.cells row long))
          (subst (λ (ws : List Written). IsPutInto ws k.cells.cells.items row) c.writes.ensures.is
          (subst (λ (old : List ℤ). IsPutInto c.writes.result.now old row) c.as_mut_slice.ensures.value c.put_writes.ensures));
      is = λ i. record k {
        cactus = with_frame k.cactus c.args.slot (record a { frame = f });
        cells = record { cells = with_items k.cells.cells row };
        instructions = k.instructions + c.done.ensures i;
      };
    }
