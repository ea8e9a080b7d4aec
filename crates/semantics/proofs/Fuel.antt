-- More fuel gives the same meaning.
use Rattle.std.proofs.Common.{◌≡◌, ℕ, zero, suc, ◌≤◌, Option, Some, None, refl, ap, arith}
use Rattle.semantics.specs.Paths.{Path}
use Rattle.semantics.specs.Cells.{Memory}
use Rattle.semantics.specs.Arithmetic.{Trap}
use Rattle.semantics.specs.Frames.{Frame}
use Rattle.semantics.specs.Effect.{Effect, Action, Plain, Detach, Reattach, Sync, Call, Return, action_of}
use Rattle.semantics.specs.State.{went, continued, synced, waiting, resumed}
use Rattle.semantics.specs.SerialMeaning.{Ending, Left, Gave, Outcome, Rest, written, counted, joined, after_effect, after_left, after_child, after_gave, after_call, by_action, meaning}
use Rattle.semantics.proofs.Outcomes.{counted_is, joined_is}
use Rattle.program.specs.linear.declared.form.RegisterId.{RegisterId}
use Rattle.program.specs.declared.function.Program.{Program}

abbrev Gives : Rest → Rest → Type 0
Gives r1 r2 = (p : Path) (f : Frame) (m : Memory) (o : Outcome) → r1 p f m ≡ Some o → r2 p f m ≡ Some o

module _ (prog : Program) (r1 r2 : Rest) (more : Gives r1 r2) (p : Path) where
  step_more : (f : Frame) (m : Memory) (o : Outcome) → counted (r1 p f m) ≡ Some o → counted (r2 p f m) ≡ Some o
  step_more f m o e = let (u, there, made) = counted_is (r1 p f m) o e in rw (more p f m u there) (ap (λ x. Some x) made)

  rest_more : (o1 : Outcome) (f : Frame) (m : Memory) (o : Outcome) → joined o1 (r1 p f m) ≡ Some o → joined o1 (r2 p f m) ≡ Some o
  rest_more o1 f m o e = let (u, there, made) = joined_is o1 (r1 p f m) o e in rw (more p f m u there) (ap (λ x. Some x) made)

  effect_more : (f : Frame) (m : Memory) (e : Effect) (t : Option Trap) (o : Outcome) → after_effect r1 p f m e t ≡ Some o → after_effect r2 p f m e t ≡ Some o
  effect_more f m e (Some t) o h = h
  effect_more f m e None o h = step_more (went f e) (written e m) o h

  left_more : (f : Frame) (o1 : Outcome) (x : Ending) (o : Outcome) → after_left r1 p f o1 x ≡ Some o → after_left r2 p f o1 x ≡ Some o
  left_more f o1 Left o h = rest_more o1 f o1.memory o h
  left_more f o1 (Gave v) o h = h

  child_more : (f : Frame) (x y : Option Outcome) → ((u : Outcome) → x ≡ Some u → y ≡ Some u) → (o : Outcome) → after_child r1 p f x ≡ Some o → after_child r2 p f y ≡ Some o
  child_more f None y same o h = absurd (cc)
  child_more f (Some u) y same o h = rw (same u refl) (left_more f u u.ending o h)

  gave_more : (f : Frame) (d : Option RegisterId) (o1 : Outcome) (x : Ending) (o : Outcome) → after_gave r1 p f d o1 x ≡ Some o → after_gave r2 p f d o1 x ≡ Some o
  gave_more f d o1 Left o h = h
  gave_more f d o1 (Gave v) o h = rest_more o1 (resumed f d v) o1.memory o h

  call_more : (f : Frame) (d : Option RegisterId) (x y : Option Outcome) → ((u : Outcome) → x ≡ Some u → y ≡ Some u) → (o : Outcome) → after_call r1 p f d x ≡ Some o → after_call r2 p f d y ≡ Some o
  call_more f d None y same o h = absurd (cc)
  call_more f d (Some u) y same o h = rw (same u refl) (gave_more f d u u.ending o h)

  action_more : (f : Frame) (m : Memory) (a : Action) (o : Outcome) → by_action r1 p f m a ≡ Some o → by_action r2 p f m a ≡ Some o
  action_more f m (Plain e) o h = effect_more f m e e.trap o h
  action_more f m (Detach r b n) o h = child_more (continued f n) _ _ (λ u e. more _ _ _ u e) o h
  action_more f m (Reattach r) o h = h
  action_more f m (Sync r b rs) o h = step_more (synced f r b rs) m o h
  action_more f m (Call d g vs) o h = call_more (waiting f d) d _ _ (λ u e. more _ _ _ u e) o h
  action_more f m (Return v) o h = h

pub more_fuel : (prog : Program) (n k : ℕ) → n ≤ k → (p : Path) (f : Frame) (m : Memory) (o : Outcome) → meaning prog n p f m ≡ Some o → meaning prog k p f m ≡ Some o
more_fuel prog zero k less p f m o e = absurd (cc)
more_fuel prog (suc n) zero less p f m o e = absurd (omega arith)
more_fuel prog (suc n) (suc k) less p f m o e = action_more prog (meaning prog n) (meaning prog k) (λ q g u w h. more_fuel prog n k (omega arith) q g u w h) p f m (action_of prog p f m) o e
