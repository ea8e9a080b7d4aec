-- The steps of a serial run, forwards: from the rest of the run before a step to the rest after it, which has one instruction less.
use Rattle.std.proofs.Common.{◌≡◌, ℕ, suc, ◌+◌, ◌<◌, ◌≤◌, max, List, [], ◌∷◌, length, Option, Some, None, is_some, true, refl, ap, sym, ◌∙◌, subst, arith, ℤ}
use Rattle.semantics.specs.Paths.{Path}
use Rattle.semantics.specs.Cells.{Memory}
use Rattle.semantics.specs.Frames.{Wait, Free, OnRegion, OnCall, Halted, Frame}
use Rattle.semantics.specs.Effect.{Action, Plain, Detach, Reattach, Sync, Call, Return, action_of}
use Rattle.semantics.specs.State.{went, detached, continued, synced, called, waiting, resumed}
use Rattle.semantics.specs.SerialMeaning.{Ending, Left, Gave, Outcome, written, cleared}
use Rattle.semantics.specs.SerialMeaning.{one_more, both_outcomes, at_last}
use Rattle.linear.specs.declared.form.RegisterId.{RegisterId}
use Rattle.program.specs.declared.function.Program.{Program}
use Rattle.laws_strands.specs.stacks.Strands.{Placed}
use Rattle.serial_stack.specs.Steps.{Run, Goes, plain, sync, detach, call, reattach, ret, IsNotFree, IsNotCalling, HasNoStep, Walk, begins, goes_on, starting}
use Rattle.serial_stack.proofs.Walks.{ComesTo, over, GoesOn, Rests, rests_deep, outcome_is}
use Rattle.serial_machine.specs.walks.Along.{GoesOnTo, WalksGoOn}
use Rattle.serial_machine.proofs.walks.Apart.{meaning_means, plain_apart, sync_apart, detach_apart, call_apart, reattach_apart, return_apart}

abbrev Next : Type 1
Next = Frame → Memory → Outcome → Type 0

abbrev next_of : Program → Placed → List Placed → Frame → Memory → Outcome → Type 0
next_of prog q below h w u = Rests prog q.path h below w u

-- ---- the frame on top and those below it

-- the frames below go on behind the outcome o of the one on top, which makes x in all
abbrev Behind : Program → List Placed → Outcome → Outcome → Type 0
Behind prog [] o x = o ≡ x
Behind prog (q ∷ below) o x = GoesOn (next_of prog q below) (suc (length below)) o q.frame o.ending q.frame.waits x

rests_parts : (prog : Program) (p : Path) (f : Frame) (below : List Placed) (m : Memory) (x : Outcome) → Rests prog p f below m x → (o : Outcome) × ComesTo prog p f m o × Behind prog below o x
rests_parts prog p f [] m x h = (x, h, refl)
rests_parts prog p f (q ∷ below) m x h = (h.0, h.1, h.2)

rests_from : (prog : Program) (p : Path) (f : Frame) (below : List Placed) (m : Memory) (o x : Outcome) → ComesTo prog p f m o → Behind prog below o x → Rests prog p f below m x
rests_from prog p f [] m o x h same = subst (ComesTo prog p f m) same h
rests_from prog p f (q ∷ below) m o x h on = (o, h, on)

-- ---- one instruction less

goes_less : (next : Next) (n : ℕ) (v : Outcome) (g : Frame) (e : Ending) (w : Wait) (x : Outcome) → GoesOn next n (one_more v) g e w x → (y : Outcome) × GoesOn next n v g e w y × (x ≡ one_more y)
goes_less next n v g Left Free x h = (over n v h.0, (h.0, h.1, refl), (h.2 ∙ outcome_is h.0.ending h.0.memory _ _ _ _ (omega arith) refl))
goes_less next n v g Left (OnRegion r) x h = absurd h
goes_less next n v g Left (OnCall k d) x h = absurd h
goes_less next n v g Left Halted x h = absurd h
goes_less next n v g (Gave z) Free x h = absurd h
goes_less next n v g (Gave z) (OnRegion r) x h = absurd h
goes_less next n v g (Gave z) (OnCall k d) x h = (over n v h.0, (h.0, h.1, refl), (h.2 ∙ outcome_is h.0.ending h.0.memory _ _ _ _ (omega arith) refl))
goes_less next n v g (Gave z) Halted x h = absurd h

behind_less : (prog : Program) (below : List Placed) (v x : Outcome) → Behind prog below (one_more v) x → (y : Outcome) × Behind prog below v y × (x ≡ one_more y)
behind_less prog [] v x same = (v, refl, sym same)
behind_less prog (q ∷ below) v x h = goes_less (next_of prog q below) (suc (length below)) v q.frame v.ending q.frame.waits x h

-- ---- a frame that was made, and then the rest of the one that made it

goes_apart : (next : Next) (n : ℕ) (c v : Outcome) (g : Frame) (e : Ending) (w : Wait) (x : Outcome) → GoesOn next n (both_outcomes c v) g e w x → (u : Outcome) × GoesOn next n v g e w u × (x ≡ one_more (over (suc n) c u))
goes_apart next n c v g Left Free x h = (over n v h.0, (h.0, h.1, refl), (h.2 ∙ outcome_is h.0.ending h.0.memory _ _ _ _ (omega arith) (omega arith)))
goes_apart next n c v g Left (OnRegion r) x h = absurd h
goes_apart next n c v g Left (OnCall k d) x h = absurd h
goes_apart next n c v g Left Halted x h = absurd h
goes_apart next n c v g (Gave z) Free x h = absurd h
goes_apart next n c v g (Gave z) (OnRegion r) x h = absurd h
goes_apart next n c v g (Gave z) (OnCall k d) x h = (over n v h.0, (h.0, h.1, refl), (h.2 ∙ outcome_is h.0.ending h.0.memory _ _ _ _ (omega arith) (omega arith)))
goes_apart next n c v g (Gave z) Halted x h = absurd h

behind_apart : (prog : Program) (below : List Placed) (c v x : Outcome) → Behind prog below (both_outcomes c v) x → (u : Outcome) × Behind prog below v u × (x ≡ one_more (over (suc (length below)) c u))
behind_apart prog [] c v x same = (v, refl, (sym same ∙ outcome_is v.ending v.memory _ _ _ _ refl (omega arith)))
behind_apart prog (q ∷ below) c v x h = goes_apart (next_of prog q below) (suc (length below)) c v q.frame v.ending q.frame.waits x h

child_rests : (prog : Program) (p q : Path) (f g : Frame) (m : Memory) (below : List Placed) (c u : Outcome) → ComesTo prog q f m c → c.ending ≡ Left → g.waits ≡ Free → Rests prog p g below c.memory u →
    Rests prog q f (record { path = p; frame = g } ∷ below) m (over (suc (length below)) c u)
child_rests prog p q f g m below c u means left free after =
    (c, means, left_goes (next_of prog (record { path = p; frame = g }) below) (suc (length below)) c g c.ending g.waits (over (suc (length below)) c u) left free u after refl)
  where
    left_goes : (next : Next) (n : ℕ) (o : Outcome) (h : Frame) (e : Ending) (w : Wait) (x : Outcome) → e ≡ Left → w ≡ Free → (v : Outcome) → next h o.memory v → x ≡ over n o v → GoesOn next n o h e w x
    left_goes next n o h e w x at_left at_free v rest same = rw (at_left, at_free) (v, rest, same)

callee_rests : (prog : Program) (p q : Path) (f g : Frame) (m : Memory) (below : List Placed) (c u : Outcome) (v : Option ℤ) (k : ℕ) (d : Option RegisterId) → ComesTo prog q f m c → c.ending ≡ Gave v → g.waits ≡ OnCall k d →
    Rests prog p (resumed g d v) below c.memory u → Rests prog q f (record { path = p; frame = g } ∷ below) m (over (suc (length below)) c u)
callee_rests prog p q f g m below c u v k d means gave waits after = (c, means, rw (gave, waits) (u, after, refl))

-- ---- the end of a frame

child_leaves : (next : Next) (n : ℕ) (m : Memory) (o : Outcome) (g : Frame) (x : Outcome) → at_last Left m ≡ o → g.waits ≡ Free → GoesOn next n o g o.ending g.waits x → (u : Outcome) × next g m u × (x ≡ over n (at_last Left m) u)
child_leaves next n m o g x same free h =
    subst (λ w. GoesOn next n (at_last Left m) g Left w x) free (subst (λ (y : Outcome). GoesOn next n y g y.ending g.waits x) (sym same) h)

callee_gives : (next : Next) (n : ℕ) (m : Memory) (v : Option ℤ) (k : ℕ) (d : Option RegisterId) (o : Outcome) (g : Frame) (x : Outcome) → at_last (Gave v) m ≡ o → g.waits ≡ OnCall k d → GoesOn next n o g o.ending g.waits x →
    (u : Outcome) × next (resumed g d v) m u × (x ≡ over n (at_last (Gave v) m) u)
callee_gives next n m v k d o g x same waits h =
    subst (λ w. GoesOn next n (at_last (Gave v) m) g (Gave v) w x) waits (subst (λ (y : Outcome). GoesOn next n y g y.ending g.waits x) (sym same) h)

-- ---- steps

abbrev RunRests : Program → Run → Outcome → Type 0
RunRests prog s x = Rests prog s.path s.frame s.below s.memory x

-- the rest of the run at t, with n instructions less than o, no deeper, and with the same end
record Ahead (prog : Program) (o : Outcome) (n : ℕ) (t : Run) : Type 0 where
  rest : Outcome
  rests : RunRests prog t rest
  ending : rest.ending ≡ o.ending
  counted : n + rest.count ≡ o.count
  deep : rest.depth ≤ o.depth

one_less : (prog : Program) (t : Run) (x y : Outcome) → RunRests prog t y → x ≡ one_more y → Ahead prog x 1 t
one_less prog t x y h same =
    let count : x.count ≡ suc y.count = ap (λ (o : Outcome). o.count) same in
    let depth : x.depth ≡ y.depth = ap (λ (o : Outcome). o.depth) same in
    record { rest = y; rests = h; ending = ap (λ (o : Outcome). o.ending) (sym same); counted = omega (arith, count); deep = omega (arith, depth) }

after_end : (prog : Program) (t : Run) (n : ℕ) (e : Ending) (m : Memory) (x y : Outcome) → RunRests prog t y → x ≡ over n (at_last e m) y → Ahead prog x 1 t
after_end prog t n e m x y h same =
    let count : x.count ≡ 1 + y.count = ap (λ (o : Outcome). o.count) same in
    let depth : x.depth ≡ max (n + 1) y.depth = ap (λ (o : Outcome). o.depth) same in
    record { rest = y; rests = h; ending = ap (λ (o : Outcome). o.ending) (sym same); counted = omega (arith, count); deep = omega (arith, depth) }

step_on : (prog : Program) (s t : Run) → Goes prog s t → (x : Outcome) → RunRests prog s x → Ahead prog x 1 t
step_on prog s t (plain e act fine) x h =
    let (o, means, on) = rests_parts prog s.path s.frame s.below s.memory x h in
    let (free, v, after, same) = plain_apart prog s.path s.frame s.memory e act o means in
    let (y, below, less) = behind_less prog s.below v x (subst (λ u. Behind prog s.below u x) (sym same) on) in
    one_less prog t x y (rests_from prog s.path (went s.frame e) s.below (written e s.memory) v y after below) less
step_on prog s t (sync r b rs act) x h =
    let (o, means, on) = rests_parts prog s.path s.frame s.below s.memory x h in
    let (v, after, same) = sync_apart prog s.path s.frame s.memory r b rs act o means in
    let (y, below, less) = behind_less prog s.below v x (subst (λ u. Behind prog s.below u x) (sym same) on) in
    one_less prog t x y (rests_from prog s.path (synced s.frame r b rs) s.below s.memory v y after below) less
step_on prog s t (detach r b k act) x h =
    let (o, means, on) = rests_parts prog s.path s.frame s.below s.memory x h in
    let (c, child, left, v, after, same) = detach_apart prog s.path s.frame s.memory r b k act o means in
    let (u, below, less) = behind_apart prog s.below c v x (subst (λ y. Behind prog s.below y x) (sym same) on) in
    let rest = rests_from prog s.path (continued s.frame k) s.below c.memory v u after below in
    one_less prog t x (over (suc (length s.below)) c u)
    (child_rests prog s.path (s.frame.made ∷ s.path) (detached s.frame r b k) (continued s.frame k) s.memory s.below c u child left refl rest) less
step_on prog s t (call d g vs act) x h =
    let (o, means, on) = rests_parts prog s.path s.frame s.below s.memory x h in
    let (c, callee, z, gave, v, after, same) = call_apart prog s.path s.frame s.memory d g vs act o means in
    let (u, below, less) = behind_apart prog s.below c v x (subst (λ y. Behind prog s.below y x) (sym same) on) in
    let rest = rests_from prog s.path (resumed (waiting s.frame d) d z) s.below c.memory v u after below in
    one_less prog t x (over (suc (length s.below)) c u)
    (callee_rests prog s.path (s.frame.made ∷ s.path) (called s.path s.frame g vs) (waiting s.frame d) s.memory s.below c u z s.frame.made d callee gave refl rest) less
step_on prog s t (reattach r g rest act at free) x h =
    let whole : Rests prog s.path s.frame (g ∷ rest) s.memory x = subst (λ below. Rests prog s.path s.frame below s.memory x) at h in
    let (o, means, on) = rests_parts prog s.path s.frame (g ∷ rest) s.memory x whole in
    let (u, after, same) = child_leaves (next_of prog g rest) (suc (length rest)) s.memory o g.frame x (reattach_apart prog s.path s.frame s.memory r act o means) free on in
    after_end prog t (suc (length rest)) Left s.memory x u after same
step_on prog s t (ret v g rest k d act at waits) x h =
    let whole : Rests prog s.path s.frame (g ∷ rest) s.memory x = subst (λ below. Rests prog s.path s.frame below s.memory x) at h in
    let (o, means, on) = rests_parts prog s.path s.frame (g ∷ rest) s.memory x whole in
    let (u, after, same) = callee_gives (next_of prog g rest) (suc (length rest)) (cleared s.path s.memory) v k d o g.frame x (return_apart prog s.path s.frame s.memory v act o means) waits on in
    after_end prog t (suc (length rest)) (Gave v) (cleared s.path s.memory) x u after same

walk_on : (prog : Program) (start : Run) (o : Outcome) → RunRests prog start o → (n peak : ℕ) (s : Run) → Walk prog start n peak s → Ahead prog o n s
walk_on prog start o first n peak s begins = record { rest = o; rests = first; ending = refl; counted = omega arith; deep = omega arith }
walk_on prog start o first n peak s (goes_on k high r t w g) =
    let before = walk_on prog start o first k high r w in
    let after = step_on prog r s g before.rest before.rests in
    record { rest = after.rest; rests = after.rests; ending = after.ending ∙ before.ending; counted = summed k after.rest.count before.rest.count o.count after.counted before.counted; deep = through after.rest.depth before.rest.depth o.depth after.deep before.deep }
  where
    summed : (n a b c : ℕ) → 1 + a ≡ b → n + b ≡ c → suc n + a ≡ c
    summed n a b c h k = omega arith

    through : (a b c : ℕ) → a ≤ b → b ≤ c → a ≤ c
    through a b c h k = omega arith

-- ---- what the rest of a run says of the run

goes_counted : (next : Next) (n : ℕ) (o : Outcome) (g : Frame) (e : Ending) (w : Wait) (x : Outcome) → 1 ≤ o.count → GoesOn next n o g e w x → 1 ≤ x.count
goes_counted next n o g Left Free x some h = let e : x.count ≡ o.count + h.0.count = ap (λ (y : Outcome). y.count) h.2 in omega (arith, e, some)
goes_counted next n o g Left (OnRegion r) x some h = absurd h
goes_counted next n o g Left (OnCall k d) x some h = absurd h
goes_counted next n o g Left Halted x some h = absurd h
goes_counted next n o g (Gave v) Free x some h = absurd h
goes_counted next n o g (Gave v) (OnRegion r) x some h = absurd h
goes_counted next n o g (Gave v) (OnCall k d) x some h = let e : x.count ≡ o.count + h.0.count = ap (λ (y : Outcome). y.count) h.2 in omega (arith, e, some)
goes_counted next n o g (Gave v) Halted x some h = absurd h

-- each frame does an instruction
means_counted : (prog : Program) (p : Path) (f : Frame) (m : Memory) (o : Outcome) → ComesTo prog p f m o → (a : Action) → action_of prog p f m ≡ a → 1 ≤ o.count
means_counted prog p f m o h (Plain e) act = let (free, v, after, same) = plain_apart prog p f m e act o h in subst (λ (u : Outcome). 1 ≤ u.count) same (omega arith)
means_counted prog p f m o h (Detach r b k) act = let (c, child, left, v, after, same) = detach_apart prog p f m r b k act o h in subst (λ (u : Outcome). 1 ≤ u.count) same (omega arith)
means_counted prog p f m o h (Reattach r) act = subst (λ (u : Outcome). 1 ≤ u.count) (reattach_apart prog p f m r act o h) (omega arith)
means_counted prog p f m o h (Sync r b rs) act = let (v, after, same) = sync_apart prog p f m r b rs act o h in subst (λ (u : Outcome). 1 ≤ u.count) same (omega arith)
means_counted prog p f m o h (Call d g vs) act = let (c, callee, z, gave, v, after, same) = call_apart prog p f m d g vs act o h in subst (λ (u : Outcome). 1 ≤ u.count) same (omega arith)
means_counted prog p f m o h (Return v) act = subst (λ (u : Outcome). 1 ≤ u.count) (return_apart prog p f m v act o h) (omega arith)

rests_counted : (prog : Program) (p : Path) (f : Frame) (below : List Placed) (m : Memory) (x : Outcome) → Rests prog p f below m x → 1 ≤ x.count
rests_counted prog p f [] m x h = means_counted prog p f m x h (action_of prog p f m) refl
rests_counted prog p f (q ∷ below) m x h =
    goes_counted (next_of prog q below) (suc (length below)) h.0 q.frame h.0.ending q.frame.waits x (means_counted prog p f m h.0 h.1 (action_of prog p f m) refl) h.2

-- ---- no run that has a rest which gives a number is stuck

not_left : (e : Ending) (v : Option ℤ) → Left ≡ e → e ≡ Gave v → ⊥
not_left e v a b = let h : Left ≡ Gave v = a ∙ b in absurd (cc)

not_none : (e : Ending) (z : ℤ) (v : Option ℤ) → v ≡ None → Gave v ≡ e → e ≡ Gave (Some z) → ⊥
not_none e z v none a b = let h : Gave v ≡ Gave (Some z) = a ∙ b in absurd (cc)

traps_not : {A : Type 0} (o : Option A) → o ≡ None → is_some o ≡ true → ⊥
traps_not None fine some = absurd (cc)
traps_not (Some a) fine some = absurd (cc)

left_not_free : (next : Next) (n : ℕ) (o : Outcome) (g : Frame) (w : Wait) (x : Outcome) → IsNotFree w → GoesOn next n o g Left w x → ⊥
left_not_free next n o g Free x other h = other
left_not_free next n o g (OnRegion r) x other h = h
left_not_free next n o g (OnCall k d) x other h = h
left_not_free next n o g Halted x other h = h

gave_not_calling : (next : Next) (n : ℕ) (o : Outcome) (g : Frame) (v : Option ℤ) (w : Wait) (x : Outcome) → IsNotCalling w → GoesOn next n o g (Gave v) w x → ⊥
gave_not_calling next n o g v Free x other h = h
gave_not_calling next n o g v (OnRegion r) x other h = h
gave_not_calling next n o g v (OnCall k d) x other h = other
gave_not_calling next n o g v Halted x other h = h

stuck_by : (prog : Program) (p : Path) (f : Frame) (below : List Placed) (m : Memory) (x : Outcome) (z : ℤ) → Rests prog p f below m x → x.ending ≡ Gave (Some z) → (a : Action) → action_of prog p f m ≡ a → HasNoStep a below → ⊥
stuck_by prog p f below m x z h number (Plain e) act stuck =
    let (o, means, on) = rests_parts prog p f below m x h in
    let (fine, v, after, same) = plain_apart prog p f m e act o means in
    traps_not e.trap fine stuck
stuck_by prog p f below m x z h number (Detach r b k) act stuck = stuck
stuck_by prog p f [] m x z h number (Reattach r) act stuck = not_left x.ending (Some z) (ap (λ (o : Outcome). o.ending) (reattach_apart prog p f m r act x h)) number
stuck_by prog p f (q ∷ below) m x z h number (Reattach r) act stuck =
    let same = reattach_apart prog p f m r act h.0 h.1 in
    left_not_free (next_of prog q below) (suc (length below)) (at_last Left m) q.frame q.frame.waits x stuck
    (subst (λ (y : Outcome). GoesOn (next_of prog q below) (suc (length below)) y q.frame y.ending q.frame.waits x) (sym same) h.2)
stuck_by prog p f below m x z h number (Sync r b rs) act stuck = stuck
stuck_by prog p f below m x z h number (Call d g vs) act stuck = stuck
stuck_by prog p f [] m x z h number (Return v) act stuck = not_none x.ending z v stuck (ap (λ (o : Outcome). o.ending) (return_apart prog p f m v act x h)) number
stuck_by prog p f (q ∷ below) m x z h number (Return v) act stuck =
    let same = return_apart prog p f m v act h.0 h.1 in
    gave_not_calling (next_of prog q below) (suc (length below)) (at_last (Gave v) (cleared p m)) q.frame v q.frame.waits x stuck
    (subst (λ (y : Outcome). GoesOn (next_of prog q below) (suc (length below)) y q.frame y.ending q.frame.waits x) (sym same) h.2)

-- ---- the law

less_counted : (n a c : ℕ) → n + a ≡ c → 1 ≤ a → n < c
less_counted n a c h k = omega arith

less_deep : (a b c : ℕ) → a ≤ b → b ≤ c → a ≤ c
less_deep a b c h k = omega arith

ahead_goes : (prog : Program) (o : Outcome) (z : ℤ) (n : ℕ) (s : Run) → o.ending ≡ Gave (Some z) → Ahead prog o n s → GoesOnTo prog o n s
ahead_goes prog o z n s number h = record {
  not_stuck = λ stuck. stuck_by prog s.path s.frame s.below s.memory h.rest z h.rests (h.ending ∙ number) (action_of prog s.path s.frame s.memory) refl stuck;
  counted = less_counted n h.rest.count o.count h.counted (rests_counted prog s.path s.frame s.below s.memory h.rest h.rests);
  deep = less_deep (suc (length s.below)) h.rest.depth o.depth (rests_deep prog s.path s.frame s.below s.memory h.rest h.rests) h.deep;
}

pub walks_go_on : WalksGoOn
walks_go_on prog arguments memory o z means number n peak s w =
    let start = starting prog arguments memory in
    let first = meaning_means prog means.within start.path start.frame start.memory o means.meets in
    ahead_goes prog o z n s number (walk_on prog start o first n peak s w)
