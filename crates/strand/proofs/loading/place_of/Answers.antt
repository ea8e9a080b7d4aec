use Rattle.std.proofs.Common.{◌∙◌}
use Rattle.window_runs.proofs.Alone.{left_within, segment_left, start_here}
use Rattle.strand.proofs.Begun.{place_there}
use Rattle.strand.proofs.loading.place_of.Goals as goal

pub slot_of-pc-requires : goal.slot_of-pc-requires
slot_of-pc-requires c = let r = c.requires in start_here c.args.code.program.now c.args.code.places.now c.args.code.tables.now r.text.0 r.text.1 r.tables c.args.frame.now r.stands

pub steps_at-requires : goal.steps_at-requires
steps_at-requires c =
    let r = c.requires in
    left_within c.args.code.program.now c.args.code.places.now c.args.code.tables.now r.text.0 r.text.1 r.tables c.args.frame.now r.stands c.slot_of-pc.result c.slot_of-pc.ensures

pub returns : goal.returns
returns c =
    let r = c.requires in
    record {
      pc = place_there c.args.code.program.now c.args.code.places.now r.text.0 r.text.1 c.args.frame.now r.stands c.args.code.tables.now r.tables c.slot_of-pc.result c.slot_of-pc.ensures;
      end = c.len.ensures ∙ c.args.frame.now.registers.ok.0;
      steps = segment_left c.args.code.program.now c.args.code.places.now c.args.code.tables.now r.text.0 r.text.1 r.tables c.args.frame.now r.stands c.slot_of-pc.result c.slot_of-pc.ensures c.steps_at.result c.steps_at.ensures;
    }
