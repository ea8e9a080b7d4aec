use Rattle.std.proofs.Common.{◌∙◌, ap, sym, arith, Some}
use Rattle.std.specs.Int.{w64}
use Rattle.std.proofs.lemmas.Int.{to_z-of_z}
use Rattle.store.proofs.Setting.{set_is, sizes_set, not_there}
use Rattle.std.proofs.lemmas.Option.{slice_get-get_or}
use Rattle.store.proofs.memory.Memory.set_cell.Goals as goal

pub returns-then-global-len-clause-set : goal.returns-then-global-len-clause-set
returns-then-global-len-clause-set c =
    let items = c.self.inside.globals.items in
    let read = slice_get-get_or items c.args.global.0 _ (omega (arith, c.len.ensures, c.if-global-len.true)) ∙ ap Some (sym c.index_mut-found.ensures.value) in
    set_is c.args.self.now items c.args.global.0 c.args.index c.args.value _ c.index_mut-found.result.now c.set.new.self c.set.result (to_z-of_z w64 c.args.value c.ranges.value) c.self.view_is read c.set.ensures.there.0 c.set.ensures.set

pub returns-else-global-len-clause-there : goal.returns-else-global-len-clause-there
returns-else-global-len-clause-there c = (
  (λ t. absurd cc),
  (λ k. not_there c.args.self.now c.self.inside.globals.items c.args.global.0 c.args.index c.self.view_is (omega (arith, c.len.ensures, c.if-global-len.false)) k),
)

pub returns-then-global-len-clause-sizes : goal.returns-then-global-len-clause-sizes
returns-then-global-len-clause-sizes c =
    let items = c.self.inside.globals.items in
    let read = slice_get-get_or items c.args.global.0 _ (omega (arith, c.len.ensures, c.if-global-len.true)) ∙ ap Some (sym c.index_mut-found.ensures.value) in
    sizes_set c.args.self.now items c.args.global.0 c.args.index _ _ c.set.new.self c.set.result c.self.view_is read c.set.ensures.set c.set.ensures.not_there
