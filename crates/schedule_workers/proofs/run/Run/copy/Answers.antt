use Rattle.std.proofs.Common.{◌∙◌, refl}
use Rattle.schedule_workers.specs.declared.run.Run.{Run}
use Rattle.schedule_workers.proofs.Copied.{is_copy}
use Rattle.schedule_workers.proofs.run.Run.copy.Goals as goal

pub returns : goal.returns
returns c =
    let k : Run = c.args.self.now in
    is_copy k (record k {
      cactus = c.in_ok-clone.field-0;
      cells = record { cells = c.in_ok-from_slice.field-0 };
      blocks = c.in_ok-from_slice-2.field-0;
      hands = c.in_ok-from_slice-3.field-0;
      moves = c.in_ok-from_slice-4.field-0;
    }) (record {
      only = refl;
      frames = c.in_ok-clone.ensures.cases;
      cells = c.in_ok-from_slice.ensures.items ∙ c.as_slice.ensures.value;
      blocks = c.in_ok-from_slice-2.ensures.items ∙ c.as_slice-2.ensures.value;
      hands = c.in_ok-from_slice-3.ensures.items ∙ c.as_slice-3.ensures.value;
      moves = c.in_ok-from_slice-4.ensures.items ∙ c.as_slice-4.ensures.value;
    })
