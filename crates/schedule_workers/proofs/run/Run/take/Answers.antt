use Rattle.std.proofs.Common.{rules, ◌≡◌, ◌<◌, length, Option, Some, None, sym, ap, ◌∙◌}
use Rattle.std.specs.Option.{option_copied_mut}
use Rattle.std.specs.Vec.{with_item}
use Rattle.cactus.specs.Frames.{frame_at}
use Rattle.cactus.specs.Lending.{with_frame}
use Rattle.schedule_workers.specs.declared.activation.Activation.{Activation}
use Rattle.schedule_workers.specs.Scheduling.{hand_of}
use Rattle.schedule_workers.specs.Tasks.{IsReady, run_at}
use Rattle.schedule_workers.proofs.run.Run.take.Goals as goal

pub returns-clause-takes : goal.returns-clause-takes
returns-clause-takes c t =
    let k = c.args.self.now in
    let stood : frame_at c.args.self.now.cactus c.args.top ≡ Some c.in-Some.activation.now = sym c.frame_mut.ensures.value ∙ ap option_copied_mut c.in-Some.is in
    let within : c.args.worker < length c.args.self.now.hands.items = search rules in
    let nothing : hand_of c.args.self.now.hands.items c.args.worker ≡ None = search rules in
    let ready : IsReady c.in-Some.activation.now = c.is_ready.ensures.0 c.if-is_ready.true in
    record {
      idle = record { is_worker = within; no_task = nothing };
      ready = rw stood ready;
      is = c.set_hand.ensures
          ∙ (ap (λ (a : Activation). record k { cactus = with_frame k.cactus c.args.top a; hands = with_item k.hands c.args.worker (Some c.args.top) }) c.run_by.ensures
          ∙ sym (ap (λ (o : Option Activation). record k { cactus = run_at k.cactus c.args.top c.args.worker o; hands = with_item k.hands c.args.worker (Some c.args.top) }) stood));
    }
