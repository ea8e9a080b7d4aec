use Rattle.std.proofs.Common.{◌+◌, ◌<◌, ap, arith, rules, Box, Global, FitsSigned, w64}
use Rattle.std.proofs.lemmas.Int.{to_z-of_z}
use Rattle.frame_engine.specs.declared.activation.Frame.{Frame}
use Rattle.strand.proofs.Outside.{unboxed_push, went_out}
use Rattle.strand.proofs.Settling.{made_read, one_base, one_code, one_deep, one_item, one_low, one_made, one_slot, one_there}
use Rattle.strand.proofs.strand.Strand.give_out_one.Goals as goal

pub made_by_now-made-requires : goal.made_by_now-made-requires
made_by_now-made-requires c =
    one_made c.args.program.now c.args.places.now c.args.self.now c.requires.way _ c.requires.fits.text c.args.number c.requires.number c.index-saved.result.now (made_read _ c.args.number c.index-saved.result.now c.requires.number c.index-saved.ensures)

pub overflow_sub-end : goal.overflow_sub-end
overflow_sub-end c =
    one_base c.args.program.now c.args.places.now c.args.self.now c.requires.way _ c.requires.fits.text c.args.number c.requires.number c.index-saved.result.now (made_read _ c.args.number c.index-saved.result.now c.requires.number c.index-saved.ensures)
    c.base_above-end.result c.base_above-end.ensures

pub item_at-requires-clause-there : goal.item_at-requires-clause-there
item_at-requires-clause-there c =
    one_slot c.args.program.now c.args.places.now c.args.self.now c.requires.way _ c.requires.fits.text c.args.number c.requires.number c.index-saved.result.now (made_read _ c.args.number c.index-saved.result.now c.requires.number c.index-saved.ensures)

pub made_by-waits-requires : goal.made_by-waits-requires
made_by-waits-requires c =
    one_item c.args.program.now c.args.places.now c.args.self.now c.requires.way _ c.requires.fits.text c.args.number c.requires.number c.index-saved.result.now (made_read _ c.args.number c.index-saved.result.now c.requires.number c.index-saved.ensures)
    _ c.item_at.ensures c.made_by_now-made.result c.made_by_now-made.ensures.base c.made_by_now-made.ensures.other

pub write_window-requires-clause-code : goal.write_window-requires-clause-code
write_window-requires-clause-code c =
    one_code c.args.program.now c.args.places.now c.args.self.now c.requires.way _ c.requires.fits.text c.args.number c.requires.number c.index-saved.result.now (made_read _ c.args.number c.index-saved.result.now c.requires.number c.index-saved.ensures)
    c.args.tables.now.places c.requires.fits.tables_are.places_are

pub write_window-requires-clause-window : goal.write_window-requires-clause-window
write_window-requires-clause-window c =
    one_low c.args.program.now c.args.places.now c.args.self.now c.requires.way _ c.requires.fits.text c.args.number c.requires.number c.index-saved.result.now (made_read _ c.args.number c.index-saved.result.now c.requires.number c.index-saved.ensures)
    c.base_above-end.result c.base_above-end.ensures

pub write_window-requires-clause-there : goal.write_window-requires-clause-there
write_window-requires-clause-there c =
    one_there c.args.program.now c.args.places.now c.args.self.now c.requires.way _ c.requires.fits.text c.args.number c.requires.number c.index-saved.result.now (made_read _ c.args.number c.index-saved.result.now c.requires.number c.index-saved.ensures)
    c.base_above-end.result c.base_above-end.ensures

pub returns-clause-out : goal.returns-clause-out
returns-clause-out c = λ l s d is h old.
    let fits : FitsSigned w64 c.index-saved.result.now.home = search rules in
    went_out c.args.program.now c.args.places.now _ c.requires.fits.text c.args.self.now c.args.number c.requires.number c.index-saved.result.now (made_read _ c.args.number c.index-saved.result.now c.requires.number c.index-saved.ensures) l s d is h
    c.base_above-end.result c.base_above-end.ensures c.args.tables.now.places c.requires.fits.tables_are.places_are _ c.item_at.ensures c.made_by_now-made.result c.made_by_now-made.ensures.base c.made_by_now-made.ensures.other
    c.made_by-waits.result.0 c.made_by-waits.result.1 c.made_by-waits.ensures old c.as_mut-top.result.now c.write_window.new.frame c.as_mut-top.ensures.value c.in_ok-write_window.ensures
    _ (to_z-of_z w64 c.index-saved.result.now.home fits) c.push.new.self
    (unboxed_push c.args.self.now.below.items c.push.new.self.below.items _ c.in_ok-push.ensures.below) (ap (λ (b : Box Frame Global). b.value.role) c.in_ok-push.ensures.top) (ap (λ (b : Box Frame Global). b.value.depth) c.in_ok-push.ensures.top)

pub overflow_add-above : goal.overflow_add-above
overflow_add-above c =
    let deep : c.args.self.now.base.frame.depth + c.args.number + 1 < 18446744073709551616 =
    one_deep c.args.program.now c.args.places.now c.args.self.now c.requires.way _ c.requires.fits.text c.args.number c.requires.number c.index-saved.result.now (made_read _ c.args.number c.index-saved.result.now c.requires.number c.index-saved.ensures) in
    search (arith, deep)

pub overflow_add-above-2 : goal.overflow_add-above-2
overflow_add-above-2 c =
    let deep : c.args.self.now.base.frame.depth + c.args.number + 1 < 18446744073709551616 =
    one_deep c.args.program.now c.args.places.now c.args.self.now c.requires.way _ c.requires.fits.text c.args.number c.requires.number c.index-saved.result.now (made_read _ c.args.number c.index-saved.result.now c.requires.number c.index-saved.ensures) in
    search (arith, deep)
