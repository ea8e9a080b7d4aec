use Rattle.std.proofs.Common.{◌≡◌, ◌∙◌, ◌-◌, ◌+◌, suc, ℕ, reverse, List, Option, sym, ap, subst, arith}
use Rattle.std.proofs.lemmas.List.{reverse-reverse}
use Rattle.schedule_workers.specs.Scheduling.{hand_of}
use Rattle.schedule_core.specs.declared.ready.Ticket.{Ticket}
use Rattle.schedule_core.specs.ReadyBelow.{AreReadyBelow, Notes}
use Rattle.schedule_core.proofs.ReadyBelow.{Walks, ready_below, walk_one, walked}
use Rattle.schedule_core.proofs.machine.Machine.ready_below.Goals as goal

pub loop-level-preserved : goal.loop-level-preserved
loop-level-preserved c =
    let frames = c.args.self.now.stage.run.cactus in
    let hand = hand_of c.args.self.now.stage.run.hands.items c.args.worker in
    let l = c.loop-level in
    let low = c.loop-level-test.true in
    let one = c.note.ensures.one in
    let short = l.invariant.short in
    let large = c.note.ensures.as_large in
    let room = l.invariant.room in
    let left : c.args.levels - l._level ≡ suc (c.args.levels - (l._level + 1)) = omega (arith, low) in
    record {
      walk = λ tree.
          subst (λ (o : Option ℕ). Walks frames c.args.levels hand (c.args.levels - (l._level + 1)) o c.note.new.tickets.items) (sym c.maker-slot.ensures)
          (walk_one frames c.args.levels (c.args.levels - l._level) (c.args.levels - (l._level + 1)) hand l.slot l.tickets.items c.note.new.tickets.items left (l.invariant.walk tree)
          (subst (λ (o : Option ℕ). Notes frames o l.tickets.items c.note.new.tickets.items) c.maker-slot.ensures (c.note.ensures.notes tree)));
      short = omega (arith, one, short);
      room = omega (arith, large, room);
    }

pub returns : goal.returns
returns c m state =
    let stage = c.args.self.now.stage in
    let frames = stage.run.cactus in
    let l = c.loop-level in
    let over = c.loop-level-test.false in
    let none : c.args.levels - l._level ≡ 0 = omega (arith, over) in
    subst (λ (spots : List Ticket). AreReadyBelow stage m c.args.worker c.args.levels spots) (sym (ap (λ (spots : List Ticket). reverse spots) c.reverse.ensures.items ∙ reverse-reverse l.tickets.items))
    (ready_below stage m state c.args.worker c.args.levels l.tickets.items
    (walked frames c.args.levels (c.args.levels - l._level) (hand_of stage.run.hands.items c.args.worker) l.slot l.tickets.items none (l.invariant.walk state.shown.agrees.tree)))
