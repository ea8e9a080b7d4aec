-- From one position to the next.
use Rattle.std.proofs.Common.{◌≡◌, ◌≢◌, ◌↔◌, inl, inr, ℕ, ℤ, ◌+◌, ◌<◌, ◌≤◌, ◌++◌, ◌∷◌, [], List, All, take, length, get_or, Option, None, Some, Bool, sym, ap, ◌∙◌, subst, arith}
use Rattle.std.proofs.lemmas.Bool.Decides.{eqb_tells}
use Rattle.std.proofs.lemmas.List.{take_more}
use Rattle.std.specs.Prelude.{IfNone, IfSome, IsTrue}
use Rattle.semantics.specs.Events as running
use Rattle.frame.specs.declared.path.Path.{Path}
use Rattle.schedule_core.specs.store.Cells.{NamedCells}
use Rattle.frame.specs.declared.event.Event.{Event}
use Rattle.schedule_core.specs.declared.stage.Stage.{Stage}
use Rattle.schedule_core.specs.Lines.{StandsAt}
use Rattle.schedule_core.specs.declared.task.TaskView.{TaskView}
use Rattle.schedule_core.specs.Replaying.{HasLine, Replays, ReplaysOneMore}
use Rattle.schedule_core.specs.Stages.{IsState, global_named, program_of, workers_of}
use Rattle.schedule_core.specs.Viewed.{place_in, status_in}
use Rattle.debugger.specs.declared.marks.Mark.{Mark}
use Rattle.debugger.specs.declared.marks.Marks.{Marks}
use Rattle.debugger.specs.Sessions.{Session, HasLineAt, IsAt, AreMarks, IsMark, IsFirstStop, state_at}

module _ (s : Session) where
  -- the next event
  pub at_next : (events : List Event) → s.events ≡ events → (n : ℕ) (old new : Stage) (e : Event) → n < length events → e ≡ get_or events n e → ReplaysOneMore old new e → IsAt s n old → IsAt s (n + 1) new
  at_next events listed n old new e inside there next at =
      subst (λ l. Replays s.program s.arguments s.globals s.workers l new) (sym more) (next s.program s.arguments s.globals s.workers (take n s.events) at)
    where
      within : n < length s.events
      within = subst (λ l. n < length l) (sym listed) inside

      is : e ≡ get_or s.events n e
      is = subst (λ l. e ≡ get_or l n e) (sym listed) there

      more : take (n + 1) s.events ≡ take n s.events ++ e ∷ []
      more = take_more s.events n e within ∙ ap (λ x. take n s.events ++ x ∷ []) (sym is)

  -- the line of a view, at the position
  pub line_shown : (n : ℕ) (path : Path) (stage : Stage) → IsAt s n stage → (o : Option TaskView) → IfSome o (HasLine stage (place_in path)) → IfSome o (HasLineAt s n path)
  line_shown n path stage at None shown = tt
  line_shown n path stage at (Some view) shown = shown s.program s.arguments s.globals s.workers (take n s.events) at

  -- a test for a worker on the line tells of the definitions' state
  pub stands_there : (n line : ℕ) (stage : Stage) (b : Bool) → IsAt s n stage → ((m : running.Machine) → IsState stage m → IsTrue b ↔ StandsAt (program_of stage) m line) → IsTrue b ↔ StandsAt s.program (state_at s n) line
  stands_there n line stage b at tells = subst (λ q. IsTrue b ↔ StandsAt q (state_at s n) line) at.program (tells (state_at s n) at.state)

  -- no task of the path, where the stage's machine has none
  pub absent_there : (n : ℕ) (path : Path) (stage : Stage) → IsAt s n stage → (o : Option TaskView) → IfNone o (status_in (workers_of stage) (state_at s n) path ≡ None) → IfNone o (status_in s.workers (state_at s n) path ≡ None)
  absent_there n path stage at o absent = subst (λ w. IfNone o (status_in w (state_at s n) path ≡ None)) at.as_many absent

  -- what a cell holds
  pub cell_there : (n : ℕ) (name : List ℕ) (i : ℕ) (stage : Stage) → IsAt s n stage → (o : Option ℤ) → o ≡ global_named (state_at s n) stage.memory name i → o ≡ global_named (state_at s n) s.globals name i
  cell_there n name i stage at o is = is ∙ ap (λ (g : List NamedCells). global_named (state_at s n) g name i) at.globals_are

  -- no earlier position, and not this one
  pub past_more : (line from n : ℕ) → ¬ StandsAt s.program (state_at s (n + 1)) line → ((k : ℕ) → from < k → k ≤ n → ¬ StandsAt s.program (state_at s k) line) → (k : ℕ) → from < k → k ≤ n + 1 → ¬ StandsAt s.program (state_at s k) line
  past_more line from n off before k later within stands =
      elim (eqb_tells k (n + 1)) [
        | inl h ↦ off (subst (λ j. StandsAt s.program (state_at s j) line) h.1 stands)
        | inr h ↦ before k later (let differ : k ≢ n + 1 = h.1 in omega arith) stands
      ]

  -- it stops here
  pub stop_here : (line from n : ℕ) → from ≤ n → StandsAt s.program (state_at s (n + 1)) line → ((k : ℕ) → from < k → k ≤ n → ¬ StandsAt s.program (state_at s k) line) → IsFirstStop s line from (n + 1)
  stop_here line from n le on before = record { later = omega arith; past = λ k later within. before k later (omega arith); stops = inl (omega arith, on) }

  pub stop_end : (line from n : ℕ) → from ≤ n → n ≡ length s.events → ((k : ℕ) → from < k → k ≤ n → ¬ StandsAt s.program (state_at s k) line) → IsFirstStop s line from n
  stop_end line from n le is before = record { later = le; past = λ k later within. before k later (omega arith); stops = inr is }

  -- ---- marks

  pub none_marked : (marks : Marks) → marks.rest.items ≡ [] → IsAt s 0 marks.first.stage → AreMarks s marks
  none_marked marks none at = record { first = at; rest = subst (λ l. All (IsMark s) l) (sym none) (λ k d below. absurd (omega arith)) }

  pub mark_at : (marks : Marks) (listed : List Mark) → listed ≡ marks.rest.items → (k : ℕ) (mark : Mark) → k < length listed → mark ≡ get_or listed k mark → AreMarks s marks → IsMark s mark
  mark_at marks listed same k mark within is are = subst (λ (x : Mark). IsMark s x) (sym is) (subst (λ l. All (IsMark s) l) (sym same) are.rest k mark within)
