-- Steps over a stack of frames come to the serial meaning: from the rest of the run after a step to the rest before it.
use Rattle.std.proofs.Common.{◌≡◌, ℕ, suc, ◌+◌, ◌≤◌, max, List, [], ◌∷◌, length, Option, Some, None, refl, ap, sym, ◌∙◌, subst, arith, ℤ}
use Rattle.semantics.specs.Paths.{Path}
use Rattle.semantics.specs.Cells.{Memory}
use Rattle.semantics.specs.Frames.{Value, Registers, Wait, Free, OnRegion, OnCall, Halted, Frame}
use Rattle.semantics.specs.Effect.{Effect, Plain, Detach, Reattach, Sync, Call, Return, action_of}
use Rattle.semantics.specs.State.{went, detached, continued, synced, called, waiting, resumed}
use Rattle.semantics.specs.SerialMeaning.{Ending, Left, Gave, Outcome, IsSerialMeaning, written, cleared, counted, after_effect, by_action, meaning, one_more, both_outcomes, at_last}
use Rattle.semantics.proofs.Fuel.{more_fuel}
use Rattle.linear.specs.declared.form.RegisterId.{RegisterId}
use Rattle.program.specs.declared.function.Program.{Program}
use Rattle.laws_strands.specs.stacks.Strands.{Placed}
use Rattle.serial_stack.specs.Steps.{Run, Goes, plain, sync, detach, call, reattach, ret, Walk, begins, goes_on, starting}

-- ---- what the rest of a run comes to

pub record ComesTo (prog : Program) (p : Path) (f : Frame) (m : Memory) (o : Outcome) : Type 0 where
  pub within : ℕ
  pub meets : meaning prog within p f m ≡ Some o
  pub deep : 1 ≤ o.depth

-- a frame's outcome and then that of the frames below it, of which there are n; depths count from the root
abbrev pub over : ℕ → Outcome → Outcome → Outcome
over n o u = record { ending = u.ending; memory = u.memory; count = o.count + u.count; depth = max (n + o.depth) u.depth }

-- The nearest frame below goes on: behind the detach of a child that has left, or behind its call with what was returned.
abbrev pub GoesOn : (Frame → Memory → Outcome → Type 0) → ℕ → Outcome → Frame → Ending → Wait → Outcome → Type 0
GoesOn next n o g Left Free x = (u : Outcome) × next g o.memory u × (x ≡ over n o u)
GoesOn next n o g Left (OnRegion r) x = ⊥
GoesOn next n o g Left (OnCall k d) x = ⊥
GoesOn next n o g Left Halted x = ⊥
GoesOn next n o g (Gave v) Free x = ⊥
GoesOn next n o g (Gave v) (OnRegion r) x = ⊥
GoesOn next n o g (Gave v) (OnCall k d) x = (u : Outcome) × next (resumed g d v) o.memory u × (x ≡ over n o u)
GoesOn next n o g (Gave v) Halted x = ⊥

abbrev pub Rests : Program → Path → Frame → List Placed → Memory → Outcome → Type 0
Rests prog p f [] m x = ComesTo prog p f m x
Rests prog p f (g ∷ below) m x =
    (o : Outcome) × ComesTo prog p f m o × GoesOn (λ h w u. Rests prog g.path h below w u) (suc (length below)) o g.frame o.ending g.frame.waits x

pub outcome_is : (e : Ending) (m : Memory) (c d h k : ℕ) → c ≡ d → h ≡ k → ◌≡◌ {A = Outcome} (record { ending = e; memory = m; count = c; depth = h }) (record { ending = e; memory = m; count = d; depth = k })
outcome_is e m c d h k a b = λ i. record { ending = e; memory = m; count = a i; depth = b i }

module _ (prog : Program) (p : Path) (f : Frame) (m : Memory) where
  -- ---- one frame

  pub plain_means : (e : Effect) → action_of prog p f m ≡ Plain e → e.trap ≡ None → (o : Outcome) → ComesTo prog p (went f e) (written e m) o → ComesTo prog p f m (one_more o)
  plain_means e act free o h = record { within = suc h.within; meets = ap (by_action (meaning prog h.within) p f m) act ∙ ap (after_effect (meaning prog h.within) p f m e) free ∙ ap counted h.meets; deep = h.deep }

  pub sync_means : (r b : ℕ) (rs : Registers) → action_of prog p f m ≡ Sync r b rs → (o : Outcome) → ComesTo prog p (synced f r b rs) m o → ComesTo prog p f m (one_more o)
  sync_means r b rs act o h = record { within = suc h.within; meets = ap (by_action (meaning prog h.within) p f m) act ∙ ap counted h.meets; deep = h.deep }

  pub reattach_means : (r : ℕ) → action_of prog p f m ≡ Reattach r → ComesTo prog p f m (at_last Left m)
  reattach_means r act = record { within = 1; meets = rw act refl; deep = omega arith }

  pub return_means : (v : Option ℤ) → action_of prog p f m ≡ Return v → ComesTo prog p f m (at_last (Gave v) (cleared p m))
  return_means v act = record { within = 1; meets = rw act refl; deep = omega arith }

  pub detach_means : (r b n : ℕ) → action_of prog p f m ≡ Detach r b n → (o u : Outcome) → o.ending ≡ Left → ComesTo prog (f.made ∷ p) (detached f r b n) m o → ComesTo prog p (continued f n) o.memory u → ComesTo prog p f m (both_outcomes o u)
  detach_means r b n act o u left h k =
      let both = h.within + k.within in
      let first : meaning prog both (f.made ∷ p) (detached f r b n) m ≡ Some o = more_fuel prog h.within both (omega arith) (f.made ∷ p) (detached f r b n) m o h.meets in
      let second : meaning prog both p (continued f n) o.memory ≡ Some u = more_fuel prog k.within both (omega arith) p (continued f n) o.memory u k.meets in
      record { within = suc both; meets = rw (act, first, left, second) refl; deep = omega arith }

  pub call_means : (d : Option RegisterId) (g : ℕ) (vs : List Value) (v : Option ℤ) → action_of prog p f m ≡ Call d g vs → (o u : Outcome) → o.ending ≡ Gave v → ComesTo prog (f.made ∷ p) (called p f g vs) m o → ComesTo prog p (resumed (waiting f d) d v) o.memory u → ComesTo prog p f m (both_outcomes o u)
  call_means d g vs v act o u gave h k =
      let both = h.within + k.within in
      let first : meaning prog both (f.made ∷ p) (called p f g vs) m ≡ Some o = more_fuel prog h.within both (omega arith) (f.made ∷ p) (called p f g vs) m o h.meets in
      let second : meaning prog both p (resumed (waiting f d) d v) o.memory ≡ Some u = more_fuel prog k.within both (omega arith) p (resumed (waiting f d) d v) o.memory u k.meets in
      record { within = suc both; meets = rw (act, first, gave, second) refl; deep = omega arith }

-- ---- a stack

abbrev Next : Type 1
Next = Frame → Memory → Outcome → Type 0

abbrev next_of : Program → Placed → List Placed → Frame → Memory → Outcome → Type 0
next_of prog q below h w u = Rests prog q.path h below w u

more_goes : (next : Next) (n : ℕ) (o : Outcome) (g : Frame) (e : Ending) (w : Wait) (x : Outcome) → GoesOn next n o g e w x → GoesOn next n (one_more o) g e w (one_more x)
more_goes next n o g Left Free x h = (h.0, h.1, (ap one_more h.2 ∙ outcome_is h.0.ending h.0.memory _ _ _ _ (omega arith) refl))
more_goes next n o g Left (OnRegion r) x h = h
more_goes next n o g Left (OnCall k d) x h = h
more_goes next n o g Left Halted x h = h
more_goes next n o g (Gave v) Free x h = h
more_goes next n o g (Gave v) (OnRegion r) x h = h
more_goes next n o g (Gave v) (OnCall k d) x h = (h.0, h.1, (ap one_more h.2 ∙ outcome_is h.0.ending h.0.memory _ _ _ _ (omega arith) refl))
more_goes next n o g (Gave v) Halted x h = h

-- an instruction that neither makes nor at_last a frame
pub top_back : (prog : Program) (p : Path) (f g : Frame) (m w : Memory) (below : List Placed) → ((o : Outcome) → ComesTo prog p g w o → ComesTo prog p f m (one_more o)) → (x : Outcome) → Rests prog p g below w x → Rests prog p f below m (one_more x)
top_back prog p f g m w [] step x h = step x h
top_back prog p f g m w (q ∷ below) step x h = (one_more h.0, step h.0 h.1, more_goes (next_of prog q below) (suc (length below)) h.0 q.frame h.0.ending q.frame.waits x h.2)

join_goes : (next : Next) (n : ℕ) (o o2 : Outcome) (g : Frame) (e : Ending) (w : Wait) (u x : Outcome) → GoesOn next n o2 g e w u → x ≡ over (suc n) o u → GoesOn next n (both_outcomes o o2) g e w (one_more x)
join_goes next n o o2 g Left Free u x h is = (h.0, h.1, joined_is n o o2 u x h.0 h.2 is)
  where
    joined_is : (k : ℕ) (a b v y z : Outcome) → v ≡ over k b z → y ≡ over (suc k) a v → one_more y ≡ over k (both_outcomes a b) z
    joined_is k a b v y z e1 e2 = ap one_more (e2 ∙ ap (over (suc k) a) e1) ∙ outcome_is z.ending z.memory _ _ _ _ (omega arith) (omega arith)
join_goes next n o o2 g Left (OnRegion r) u x h is = h
join_goes next n o o2 g Left (OnCall k d) u x h is = h
join_goes next n o o2 g Left Halted u x h is = h
join_goes next n o o2 g (Gave v) Free u x h is = h
join_goes next n o o2 g (Gave v) (OnRegion r) u x h is = h
join_goes next n o o2 g (Gave v) (OnCall k d) u x h is = (h.0, h.1, joined_is n o o2 u x h.0 h.2 is)
  where
    joined_is : (j : ℕ) (a b s y z : Outcome) → s ≡ over j b z → y ≡ over (suc j) a s → one_more y ≡ over j (both_outcomes a b) z
    joined_is j a b s y z e1 e2 = ap one_more (e2 ∙ ap (over (suc j) a) e1) ∙ outcome_is z.ending z.memory _ _ _ _ (omega arith) (omega arith)
join_goes next n o o2 g (Gave v) Halted u x h is = h

-- an instruction that made a frame, whose outcome is o
join_back : (prog : Program) (p : Path) (f g : Frame) (m : Memory) (below : List Placed) (o : Outcome) → ((u : Outcome) → ComesTo prog p g o.memory u → ComesTo prog p f m (both_outcomes o u)) → (u x : Outcome) → Rests prog p g below o.memory u → x ≡ over (suc (length below)) o u → Rests prog p f below m (one_more x)
join_back prog p f g m [] o step u x h is = subst (ComesTo prog p f m) (sym (ap one_more is ∙ outcome_is u.ending u.memory _ _ _ _ refl (omega arith))) (step u h)
join_back prog p f g m (q ∷ below) o step u x h is = (both_outcomes o h.0, step h.0 h.1, join_goes (next_of prog q below) (suc (length below)) o h.0 q.frame h.0.ending q.frame.waits u x h.2 is)

pub detach_back : (prog : Program) (p : Path) (f : Frame) (m : Memory) (below : List Placed) (r b n : ℕ) → action_of prog p f m ≡ Detach r b n → (x : Outcome) →
    Rests prog (f.made ∷ p) (detached f r b n) (record { path = p; frame = continued f n } ∷ below) m x → Rests prog p f below m (one_more x)
detach_back prog p f m below r b n act x h = go h.0 h.1 h.0.ending refl h.2
  where
    go : (o : Outcome) → ComesTo prog (f.made ∷ p) (detached f r b n) m o → (e : Ending) → o.ending ≡ e → GoesOn (λ g w u. Rests prog p g below w u) (suc (length below)) o (continued f n) e Free x → Rests prog p f below m (one_more x)
    go o means Left left k = join_back prog p f (continued f n) m below o (λ u after. detach_means prog p f m r b n act o u left means after) k.0 x k.1 k.2
    go o means (Gave v) left k = absurd k

pub call_back : (prog : Program) (p : Path) (f : Frame) (m : Memory) (below : List Placed) (d : Option RegisterId) (g : ℕ) (vs : List Value) → action_of prog p f m ≡ Call d g vs → (x : Outcome) →
    Rests prog (f.made ∷ p) (called p f g vs) (record { path = p; frame = waiting f d } ∷ below) m x → Rests prog p f below m (one_more x)
call_back prog p f m below d g vs act x h = go h.0 h.1 h.0.ending refl h.2
  where
    go : (o : Outcome) → ComesTo prog (f.made ∷ p) (called p f g vs) m o → (e : Ending) → o.ending ≡ e → GoesOn (λ h w u. Rests prog p h below w u) (suc (length below)) o (waiting f d) e (OnCall f.made d) x → Rests prog p f below m (one_more x)
    go o means Left gave k = absurd k
    go o means (Gave v) gave k = join_back prog p f (resumed (waiting f d) d v) m below o (λ u after. call_means prog p f m d g vs v act o u gave means after) k.0 x k.1 k.2

pub reattach_back : (prog : Program) (p q : Path) (f g : Frame) (m : Memory) (below : List Placed) (r : ℕ) → action_of prog p f m ≡ Reattach r → g.waits ≡ Free → (x : Outcome) → Rests prog q g below m x →
    Rests prog p f (record { path = q; frame = g } ∷ below) m (over (suc (length below)) (at_last Left m) x)
reattach_back prog p q f g m below r act free x h = (at_last Left m, reattach_means prog p f m r act, rw free (x, h, refl))

pub return_back : (prog : Program) (p q : Path) (f g : Frame) (m : Memory) (below : List Placed) (v : Option ℤ) (k : ℕ) (d : Option RegisterId) → action_of prog p f m ≡ Return v → g.waits ≡ OnCall k d → (x : Outcome) →
    Rests prog q (resumed g d v) below (cleared p m) x → Rests prog p f (record { path = q; frame = g } ∷ below) m (over (suc (length below)) (at_last (Gave v) (cleared p m)) x)
return_back prog p q f g m below v k d act waits x h = (at_last (Gave v) (cleared p m), return_means prog p f m v act, rw waits (x, h, refl))

-- the depth of the frame on top counts
goes_deep : (next : Next) (n : ℕ) (o : Outcome) (g : Frame) (e : Ending) (w : Wait) (x : Outcome) → 1 ≤ o.depth → GoesOn next n o g e w x → suc n ≤ x.depth
goes_deep next n o g Left Free x deep h = let e : x.depth ≡ max (n + o.depth) h.0.depth = ap (λ (y : Outcome). y.depth) h.2 in omega (arith, e, deep)
goes_deep next n o g Left (OnRegion r) x deep h = absurd h
goes_deep next n o g Left (OnCall k d) x deep h = absurd h
goes_deep next n o g Left Halted x deep h = absurd h
goes_deep next n o g (Gave v) Free x deep h = absurd h
goes_deep next n o g (Gave v) (OnRegion r) x deep h = absurd h
goes_deep next n o g (Gave v) (OnCall k d) x deep h = let e : x.depth ≡ max (n + o.depth) h.0.depth = ap (λ (y : Outcome). y.depth) h.2 in omega (arith, e, deep)
goes_deep next n o g (Gave v) Halted x deep h = absurd h

pub rests_deep : (prog : Program) (p : Path) (f : Frame) (below : List Placed) (m : Memory) (x : Outcome) → Rests prog p f below m x → suc (length below) ≤ x.depth
rests_deep prog p f [] m x h = h.deep
rests_deep prog p f (q ∷ below) m x h = goes_deep (next_of prog q below) (suc (length below)) h.0 q.frame h.0.ending q.frame.waits x h.1.deep h.2

-- ---- walks

abbrev RunRests : Program → Run → Outcome → Type 0
RunRests prog s x = Rests prog s.path s.frame s.below s.memory x

-- an outcome behind so many steps
abbrev behind : ℕ → ℕ → Outcome → Outcome
behind n peak x = record { ending = x.ending; memory = x.memory; count = n + x.count; depth = max peak x.depth }

step_back : (prog : Program) (s t : Run) (n peak : ℕ) → suc (length s.below) ≤ peak → Goes prog s t → (x : Outcome) → RunRests prog t x → (y : Outcome) × RunRests prog s y × (behind n peak y ≡ behind (suc n) (max peak (suc (length t.below))) x)
step_back prog s t n peak fits (plain e act free) x h =
    (one_more x, top_back prog s.path s.frame (went s.frame e) s.memory (written e s.memory) s.below (plain_means prog s.path s.frame s.memory e act free) x h, outcome_is x.ending x.memory _ _ _ _ (omega arith) (omega arith))
step_back prog s t n peak fits (sync r b rs act) x h =
    (one_more x, top_back prog s.path s.frame (synced s.frame r b rs) s.memory s.memory s.below (sync_means prog s.path s.frame s.memory r b rs act) x h, outcome_is x.ending x.memory _ _ _ _ (omega arith) (omega arith))
step_back prog s t n peak fits (detach r b c act) x h =
    let deep = rests_deep prog (s.frame.made ∷ s.path) (detached s.frame r b c) (record { path = s.path; frame = continued s.frame c } ∷ s.below) s.memory x h in
    (one_more x, detach_back prog s.path s.frame s.memory s.below r b c act x h, outcome_is x.ending x.memory _ _ _ _ (omega arith) (omega (arith, deep)))
step_back prog s t n peak fits (call d g vs act) x h =
    let deep = rests_deep prog (s.frame.made ∷ s.path) (called s.path s.frame g vs) (record { path = s.path; frame = waiting s.frame d } ∷ s.below) s.memory x h in
    (one_more x, call_back prog s.path s.frame s.memory s.below d g vs act x h, outcome_is x.ending x.memory _ _ _ _ (omega arith) (omega (arith, deep)))
step_back prog s t n peak fits (reattach r g rest act at free) x h =
    let n_below : length s.below ≡ suc (length rest) = ap length at in
    (over (suc (length rest)) (at_last Left s.memory) x, subst (λ below. Rests prog s.path s.frame below s.memory (over (suc (length rest)) (at_last Left s.memory) x)) (sym at) (reattach_back prog s.path g.path s.frame g.frame s.memory rest r act free x h), outcome_is x.ending x.memory _ _ _ _ (omega arith) (omega (arith, n_below, fits)))
step_back prog s t n peak fits (ret v g rest k d act at waits) x h =
    let n_below : length s.below ≡ suc (length rest) = ap length at in
    (over (suc (length rest)) (at_last (Gave v) (cleared s.path s.memory)) x, subst (λ below. Rests prog s.path s.frame below s.memory (over (suc (length rest)) (at_last (Gave v) (cleared s.path s.memory)) x)) (sym at) (return_back prog s.path g.path s.frame g.frame s.memory rest v k d act waits x h), outcome_is x.ending x.memory _ _ _ _ (omega arith) (omega (arith, n_below, fits)))

walk_fits : (prog : Program) (start s : Run) (n peak : ℕ) → length start.below ≡ 0 → Walk prog start n peak s → suc (length s.below) ≤ peak
walk_fits prog start s n peak root begins = omega (arith, root)
walk_fits prog start s n peak root (goes_on k high r t w g) = omega arith

walk_back : (prog : Program) (start s : Run) (n peak : ℕ) → length start.below ≡ 0 → Walk prog start n peak s → (x : Outcome) → RunRests prog s x → RunRests prog start (behind n peak x)
walk_back prog start s n peak root begins x h =
    let deep = rests_deep prog start.path start.frame start.below start.memory x h in
    subst (RunRests prog start) (outcome_is x.ending x.memory _ _ _ _ (omega arith) (omega (arith, deep))) h
walk_back prog start s n peak root (goes_on k high r t w g) x h =
    let (y, before, same) = step_back prog r t k high (walk_fits prog start r k high root w) g x h in
    subst (RunRests prog start) same (walk_back prog start r k high root w y before)

-- with as many instructions as steps, and as deep as the stack was at most
pub steps_mean : (prog : Program) (arguments : List ℤ) (memory : Memory) (n peak : ℕ) (s : Run) (v : Option ℤ) → Walk prog (starting prog arguments memory) n peak s → s.below ≡ [] → action_of prog s.path s.frame s.memory ≡ Return v →
    IsSerialMeaning prog arguments memory (record { ending = Gave v; memory = cleared s.path s.memory; count = suc n; depth = peak })
steps_mean prog arguments memory n peak s v w last act =
    let only = return_means prog s.path s.frame s.memory v act in
    let at : RunRests prog s (at_last (Gave v) (cleared s.path s.memory)) = subst (λ below. Rests prog s.path s.frame below s.memory (at_last (Gave v) (cleared s.path s.memory))) (sym last) only in
    let whole = walk_back prog (starting prog arguments memory) s n peak refl w (at_last (Gave v) (cleared s.path s.memory)) at in
    let high = walk_fits prog (starting prog arguments memory) s n peak refl w in
    let same : behind n peak (at_last (Gave v) (cleared s.path s.memory)) ≡ record { ending = Gave v; memory = cleared s.path s.memory; count = suc n; depth = peak } = outcome_is (Gave v) (cleared s.path s.memory) _ _ _ _ (omega arith) (omega (arith, high)) in
    record { within = whole.within; meets = whole.meets ∙ ap (λ o. Some o) same }
