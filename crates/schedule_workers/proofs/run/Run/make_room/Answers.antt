use Rattle.std.proofs.Common.{◌≡◌, ◌≤◌, ◌⊎◌, length, Some, inl, inr, refl, sym, ap, ◌∙◌, subst, arith}
use Rattle.std.specs.Prelude.{slice_get}
use Rattle.std.proofs.lemmas.Option.{slice_get_read}
use Rattle.schedule_workers.specs.declared.run.Block.{Block}
use Rattle.schedule_workers.proofs.Making.{has_room, roomier, roomier_still}
use Rattle.schedule_workers.proofs.run.Run.make_room.Goals as goal
use Rattle.schedule_workers.proofs.run.Run.make_room.Goals.{then-cells-own, else-cells-own}

pub returns-in_err-reach-clause-roomier : goal.returns-in_err-reach-clause-roomier
returns-in_err-reach-clause-roomier c = roomier_still c.args.self.now c.reach.new.self c.reach.new.self.cells c.reach.ensures.only c.reach.ensures.kept refl

pub returns-in_default-clause-roomier : goal.returns-in_default-clause-roomier
returns-in_default-clause-roomier c = roomier_still c.args.self.now c.reach.new.self c.reach.new.self.cells c.reach.ensures.only c.reach.ensures.kept refl

pub returns-in_err-grow-clause-roomier : goal.returns-in_err-grow-clause-roomier
returns-in_err-grow-clause-roomier c = roomier_still c.args.self.now c.reach.new.self c.grow.new.self c.reach.ensures.only c.reach.ensures.kept c.in_err-grow.ensures.same

pub returns-clause-roomier : goal.returns-clause-roomier
returns-clause-roomier c =
    roomier c.args.self.now c.reach.new.self c.grow.new.self c.reach.ensures.only c.reach.ensures.kept c.saturating_sub-missing.result c.in_ok-grow.ensures.grown

pub returns-clause-room : goal.returns-clause-room
returns-clause-room c =
    let k = c.reach.new.self in
    let b = c.if-cells-own.block in
    let there = c.in_ok-reach.ensures.there in
    let own = slice_get_read k.blocks.items (length k.blocks.items) c.args.slot c.index-own.result.now refl there c.index-own.ensures in
    let enough : c.args.cells ≤ b.cells = elim c.if-cells-own.branch [
      | then-cells-own w ↦ subst (λ (x : Block). c.args.cells ≤ x.cells) (sym w.block-is) w.if-cells-own.true
      | else-cells-own w ↦ let same = ap (λ (x : Block). x.cells) w.block-is in omega (arith, same)
    ] in
    let is : (slice_get k.blocks.items c.args.slot ≡ Some b) ⊎ (b.start ≡ k.end) = elim c.if-cells-own.branch [
      | then-cells-own w ↦ inl (own ∙ ap Some (sym w.block-is))
      | else-cells-own w ↦ inr (ap (λ (x : Block). x.start) w.block-is)
    ] in
    has_room k c.grow.new.self b c.in-Some.end c.max.result c.len.result c.saturating_sub-missing.result c.in-Some.ensures.1 c.max.ensures c.len.ensures c.saturating_sub-missing.ensures c.in_ok-grow.ensures.grown
    c.args.slot c.args.cells there enough is
