use Rattle.std.proofs.Common.{inl, inr, refl, sym, ◌∙◌}
use Rattle.schedule_workers.proofs.Losing.{not_resumed, resumed_ready, resumed_stalled}
use Rattle.schedule_workers.proofs.activation.Activation.lose_child.Goals as goal

pub returns-in-ResumeReady : goal.returns-in-ResumeReady
returns-in-ResumeReady c =
    let a = c.args.self.now in
    let r = c.args.region.0 in
    let found = c.as_parent-parent.ensures in
    record {
      only = refl;
      as_many = c.close.ensures.as_many;
      counted = c.close.ensures.counted;
      resumed = elim c.in-ResumeReady.is [
        | inl h ↦ resumed_ready a.runner a.frame.waits a.frame.made _ c.args.child r c.requires.made (sym found ∙ c.close.ensures.ready.0 h)
        | inr h ↦ let s = c.close.ensures.stalled.0 h in resumed_stalled a.runner a.frame.waits a.frame.made _ c.args.child r (sym found ∙ s.0) s.1
      ];
    }

pub returns-in-Leave-clause-counted : goal.returns-in-Leave-clause-counted
returns-in-Leave-clause-counted c = c.close.ensures.counted

pub returns-in-Leave-clause-resumed : goal.returns-in-Leave-clause-resumed
returns-in-Leave-clause-resumed c =
    let a = c.args.self.now in
    let r = c.args.region.0 in
    let found = c.as_parent-parent.ensures in
    not_resumed a.runner a.frame.waits a.frame.made _ c.args.child r
    (λ e. let gone = sym c.in-Leave.is ∙ c.close.ensures.ready.1 (found ∙ e) in absurd cc)
    (λ e. let gone = sym c.in-Leave.is ∙ c.close.ensures.stalled.1 (found ∙ e.0, e.1) in absurd cc)
