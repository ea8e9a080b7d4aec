use Rattle.std.proofs.Common.{◌∙◌, List, length, suc, drop, Some, slice_set, add-one, refl, ap, sym, subst, arith, ℤ}
use Rattle.std.proofs.lemmas.List.{length-set}
use Rattle.std.proofs.lemmas.Option.{slice_get-get_or}
use Rattle.store.specs.Cells.{NamedCells}
use Rattle.store.specs.Refilled.{refilled}
use Rattle.store.proofs.Refilling.{Partly, partly_done, partly_next}
use Rattle.store.proofs.memory.Memory.set_row.Goals as goal

pub loop-i-init : goal.loop-i-init
loop-i-init c = ((refl, refl), refl)

pub loop-i-preserved : goal.loop-i-preserved
loop-i-preserved c =
    let gs = c.self.inside.globals.items in
    let items = c.loop-i.self-inside.globals.items in
    let i = c.loop-i.i in
    let row = c.args.row.now in
    let read = slice_get-get_or items i _ (omega (arith, c.len-i-end.ensures, c.loop-i-test.true, c.loop-i.invariant.1)) ∙ ap Some (sym c.index_mut.ensures.value) in
    let next = partly_next gs items i c.loop-i.rest.now row _ c.loop-i.invariant.0 read in (
      subst (λ n. Partly gs (slice_set items i c.refill-rest.new.self) n c.refill-rest.result.now row) (sym (add-one i))
          (subst (λ (l : List ℤ). Partly gs (slice_set items i c.refill-rest.new.self) (suc i) l row) (sym c.refill-rest.ensures.rest)
          (subst (λ (g : NamedCells). Partly gs (slice_set items i g) (suc i) (drop (length c.index_mut.result.now.cells) c.loop-i.rest.now) row) (sym c.refill-rest.ensures.taken) next)),
      length-set items i c.refill-rest.new.self ∙ c.loop-i.invariant.1,
    )

pub returns : goal.returns
returns c =
    partly_done c.self.inside.globals.items c.loop-i.self-inside.globals.items c.loop-i.i c.loop-i.rest.now c.args.row.now c.loop-i.invariant.0
    (omega (arith, c.len-i-end.ensures, c.loop-i-test.false))
    ∙ ap (λ (m : List NamedCells). refilled m c.args.row.now) c.self.view_is
