use Rattle.std.proofs.Common.{◌≡◌, ◌⊎◌, inl, subst}
use Rattle.std.specs.Prelude.{Result, Ok, Err, IfOk, OnErr}
use Rattle.shared_run.specs.Answer.{IsSerialAnswer, LeadTo}
use Rattle.shared_run.specs.Story.{Origin}
use Rattle.shared_run.proofs.board.Board.finish.Goals as goal

pub returns-clause-answer : goal.returns-clause-answer
returns-clause-answer g c =
    subst (λ (o : Origin). IfOk c.answer.result (λ done. IsSerialAnswer o done.0)) (c.began_at.ensures.0 c.if-not-began_at.false) c.answer.ensures.answer

pub returns-clause-replays : goal.returns-clause-replays
returns-clause-replays g c =
    subst (λ (o : Origin). IfOk c.answer.result (λ done. LeadTo o done.1.events done.0)) (c.began_at.ensures.0 c.if-not-began_at.false) c.answer.ensures.replays

either : {T E : Type 0} → (A B : Type 0) → (r : Result T E) → OnErr r A → OnErr r (A ⊎ B)
either A B (Ok done) refused = tt
either A B (Err back) refused = inl refused

pub returns-clause-refused : goal.returns-clause-refused
returns-clause-refused g c = either _ _ c.answer.result c.answer.ensures.refused
