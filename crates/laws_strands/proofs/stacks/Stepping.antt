-- One instruction more of a strand is one step of its worker.
use Rattle.std.proofs.Common.{◌≡◌, ℕ, suc, ◌+◌, max, List, [], ◌∷◌, Option, Some, None, Bool, true, false, cond, inl, inr, refl, sym, ap, ◌∙◌, subst, arith, eqb, eq-eqb, is_none, is_some, ℤ}
use Rattle.std.proofs.lemmas.Bool.Decides.{eqb_tells}
use Rattle.semantics.specs.Paths.{Path}
use Rattle.semantics.specs.Cells.{Cell}
use Rattle.semantics.specs.Written.{or_zero}
use Rattle.semantics.specs.Arithmetic.{Undefined, Unmatched}
use Rattle.semantics.specs.Frames.{Value, Registers, Free, OnCall, Frame}
use Rattle.semantics.specs.Effect.{Effect, Action, Plain, Detach, Reattach, Sync, Call, Return, action_of}
use Rattle.semantics.specs.State.{State, Change, override_result, apply, none_within, may_go, detached, continued, called, waiting, plain_change, change_of}
use Rattle.semantics.specs.Events.{Machine, Step, event, unless_trapped, by_hand, by_frame, by_change, stepped, next_hand, with_hand, takes_parent, unless_held, may_be_taken, after_reattach, caller_of}
use Rattle.semantics.specs.Sound.{NeverTraps}
use Rattle.semantics.proofs.Actions.{reads_of, adds_of, action_kept, same_path_itself}
use Rattle.semantics.proofs.Steps.{plain, change_is}
use Rattle.semantics.proofs.Workers.{Unheld}
use Rattle.laws_strands.proofs.Happening.{sound_next}
use Rattle.laws_strands.specs.stacks.Footprint.{held, memory_of, put}
use Rattle.laws_strands.specs.stacks.Strands.{Placed, Strand, next_action, Holds, advanced, past_sync, entered, reattached, returned}
use Rattle.laws_strands.specs.stacks.Law.{IsOrderly, Fits, absorbed}
use Rattle.laws_strands.proofs.stacks.Keeping.{held_put, put_after}
use Rattle.laws_strands.proofs.stacks.Rising.{Rises}
use Rattle.laws_strands.proofs.stacks.Moving.{holder_free, others, Moves, plain_moves, detach_moves, call_moves, sync_moves, reattach_moves, return_moves, children_gone, apart, over}
use Rattle.laws_strands.proofs.stacks.Traps.{add_traps, load_traps}
use Rattle.linear.specs.declared.form.RegisterId.{RegisterId}
use Rattle.program.specs.declared.function.Program.{Program}

pub some_is : (o : Option ℤ) → is_some o ≡ true → (y : ℤ) × (o ≡ Some y)
some_is None h = absurd (cc)
some_is (Some y) h = (y, refl)

some_none : (o : Option ℤ) → is_some o ≡ true → is_none o ≡ false
some_none None h = absurd (cc)
some_none (Some y) h = refl

-- an action that leaves all cells alone
abbrev pub LeavesCells : Action → Type 0
LeavesCells a = ((x : Cell) → reads_of a x ≡ false) × ((x : Cell) → adds_of a x ≡ None)

module _ (prog : Program) (workers : ℕ) (m : Machine) (w : ℕ) (d : Strand) (fits : Fits m w d) (orderly : IsOrderly m) (stack : Rises d.base d.top d.below) (sound : m.trapped ≡ None) where
  abbrev now : Machine
  now = absorbed m w d

  abbrev p : Path
  p = d.top.path

  abbrev f : Frame
  f = d.top.frame

  frame_now : now.core.frames p ≡ Some f
  frame_now = rw (same_path_itself p)

  hand_now : now.hands w ≡ Some p
  hand_now = rw (eq-eqb w w refl)

  -- the step, by what its frame's change is
  pub step_is : (o : Option Change) → change_of prog now.core p ≡ o → event prog workers (Step w) now ≡ Some (by_change prog workers now w p f o)
  step_is o is =
      ap (λ t. unless_trapped t (by_hand prog workers now w (now.hands w))) sound ∙
      (ap (λ h. by_hand prog workers now w h) hand_now ∙
      (ap (λ g. by_frame prog workers now w p g) frame_now ∙
      ap (λ c. Some (by_change prog workers now w p f c)) is))

  abbrev May : Bool → Type 0
  May b = may_go now.core p f.made f.waits ≡ b

  stuck : May false → change_of prog now.core p ≡ None
  stuck off = rw (frame_now, off)

  -- ---- what the machine's frame does

  same_quiet : (a : Action) → next_action prog d ≡ a → LeavesCells a → action_of prog p f now.core.memory ≡ a
  same_quiet a is (reads, adds) =
      action_kept prog p f (memory_of d.footprint) now.core.memory
      (λ x h. absurd (let r : reads_of a x ≡ true = subst (λ b. reads_of b x ≡ true) is h in let n = reads x in cc))
      (λ x h. absurd (let r : is_some (adds_of a x) ≡ true = subst (λ b. is_some (adds_of b x) ≡ true) is h in let n = adds x in cc)) ∙ is

  read_same : (e : Effect) → Holds d.footprint e → (x : Cell) → e.reads x ≡ true → now.core.memory x ≡ memory_of d.footprint x
  read_same e holds x h =
      let (y, is) = some_is (held d.footprint x) (holds x h) in
      held_put m.core.memory d.footprint fits.reads x y is ∙ sym (ap (λ o. Some (or_zero o)) is)

  -- what it adds to has a value
  abbrev pub HasAdded : Effect → Type 0
  HasAdded e = (x : Cell) → is_some (e.adds x) ≡ true → is_some (now.core.memory x) ≡ true

  same_plain : (e : Effect) → next_action prog d ≡ Plain e → Holds d.footprint e → HasAdded e → action_of prog p f now.core.memory ≡ Plain e
  same_plain e is holds values =
      action_kept prog p f (memory_of d.footprint) now.core.memory
      (λ x h. read_same e holds x (subst (λ b. reads_of b x ≡ true) is h))
      (λ x h. some_none (now.core.memory x) (values x (subst (λ b. is_some (adds_of b x) ≡ true) is h))) ∙ is

  module _ (never : NeverTraps prog workers now) where
    pub goes_now : May true
    goes_now = from (may_go now.core p f.made f.waits) refl
      where
        from : (b : Bool) → May b → May true
        from true is = is
        from false is = absurd (let t : Some Unmatched ≡ None = sound_next prog workers (Step w) now _ (step_is None (stuck is)) never in cc)

    -- a cell has a value, where an effect without one would trap
    value_there : (x : Cell) → (now.core.memory x ≡ None → (g : Effect) × (action_of prog p f now.core.memory ≡ Plain g) × (g.trap ≡ Some Undefined)) → is_some (now.core.memory x) ≡ true
    value_there x traps = from (now.core.memory x) refl
      where
        from : (o : Option ℤ) → now.core.memory x ≡ o → is_some o ≡ true
        from (Some y) has = refl
        from None has =
            let (g, act, trap) = traps has in
            let change : change_of prog now.core p ≡ Some (plain_change p f g) = change_is prog now.core p _ (plain f g frame_now goes_now act) in
            let quiet : g.trap ≡ None = sound_next prog workers (Step w) now _ (step_is _ change) never in
            absurd (cc)

    pub values_now : (e : Effect) → next_action prog d ≡ Plain e → e.trap ≡ None → HasAdded e
    values_now e is fine x h = value_there x (λ has. add_traps prog p f (memory_of d.footprint) now.core.memory e x is fine has h)

    pub read_now : (e : Effect) → next_action prog d ≡ Plain e → e.trap ≡ None → (x : Cell) → e.reads x ≡ true → is_some (now.core.memory x) ≡ true
    read_now e is fine x h = value_there x (λ has. load_traps prog p f (memory_of d.footprint) now.core.memory e x is fine has h)

  -- ---- the machine after it

  handed : (y : Path) (v : ℕ) → with_hand now.hands w (Some y) v ≡ with_hand m.hands w (Some y) v
  handed y v = from (eqb w v)
    where
      from : (b : Bool) → cond b (Some y) (cond b (Some p) (m.hands v)) ≡ cond b (Some y) (m.hands v)
      from true = refl
      from false = refl

  abbrev MovesTo : Strand → Type 0
  MovesTo after = Moves prog m w d fits.runs orderly stack now.core.memory after

  becomes : (after : Strand) (t : MovesTo after) → stepped now w t.change (Some after.top.path) ≡ absorbed m w after
  becomes after t =
      let same_count : suc (d.done + m.core.done) ≡ after.done + m.core.done = let n = t.count in omega arith in
      let same_peak : max (max m.core.peak d.deepest) t.change.depth ≡ max m.core.peak after.deepest = let n = t.high in omega arith in
      let same_result : override_result t.change.result m.core.result ≡ m.core.result = ap (λ o. override_result o m.core.result) t.silent in
      λ i. record {
        core = record {
          frames = λ x. t.stands x i;
          memory = λ x. (put_after m.core.memory d.footprint t.change.writes t.change.adds fits.reads x ∙ sym (ap (λ o. put o (m.core.memory x)) (t.writes x))) i;
          done = same_count i;
          peak = same_peak i;
          result = same_result i;
        };
        hands = λ v. handed after.top.path v i;
        trapped = (t.sound ∙ sym sound) i;
      }

  step_to : (after : Strand) (a : Action) (t : MovesTo after) → action_of prog p f now.core.memory ≡ a → next_hand workers now (apply t.change now.core) p f a ≡ Some after.top.path →
      event prog workers (Step w) now ≡ Some (absorbed m w after)
  step_to after a t act hand =
      step_is _ (change_is prog now.core p t.change t.does) ∙
      (ap (λ x. Some (stepped now w t.change (next_hand workers now (apply t.change now.core) p f x))) act ∙
      (ap (λ x. Some (stepped now w t.change x)) hand ∙
      ap (λ x. Some x) (becomes after t)))

  -- ---- by kinds

  pub plain_step : (e : Effect) → next_action prog d ≡ Plain e → e.trap ≡ None → Holds d.footprint e → May true → HasAdded e →
      event prog workers (Step w) now ≡ Some (absorbed m w (advanced d e))
  plain_step e is fine holds goes values =
      let act = same_plain e is holds values in step_to (advanced d e) (Plain e) (plain_moves prog m w d fits.runs orderly stack now.core.memory e act fine goes) act refl

  pub detach_step : (r b n : ℕ) → next_action prog d ≡ Detach r b n → May true →
      event prog workers (Step w) now ≡ Some (absorbed m w (entered d (continued f n) (detached f r b n)))
  detach_step r b n is goes =
      let act = same_quiet (Detach r b n) is (λ x. refl, λ x. refl) in
      step_to (entered d (continued f n) (detached f r b n)) (Detach r b n) (detach_moves prog m w d fits.runs orderly stack now.core.memory r b n act goes) act refl

  pub call_step : (o : Option RegisterId) (g : ℕ) (vs : List Value) → next_action prog d ≡ Call o g vs → May true →
      event prog workers (Step w) now ≡ Some (absorbed m w (entered d (waiting f o) (called p f g vs)))
  call_step o g vs is goes =
      let act = same_quiet (Call o g vs) is (λ x. refl, λ x. refl) in
      step_to (entered d (waiting f o) (called p f g vs)) (Call o g vs) (call_moves prog m w d fits.runs orderly stack now.core.memory o g vs act goes) act refl

  pub sync_step : (r b : ℕ) (rs : Registers) → next_action prog d ≡ Sync r b rs → May true → (d.below ≡ [] → none_within m.core d.base.path d.base.frame.made r ≡ true) →
      event prog workers (Step w) now ≡ Some (absorbed m w (past_sync d r b rs))
  sync_step r b rs is goes clear =
      let act = same_quiet (Sync r b rs) is (λ x. refl, λ x. refl) in
      step_to (past_sync d r b rs) (Sync r b rs) (sync_moves prog m w d fits.runs orderly stack now.core.memory r b rs act goes) act
      (ap (λ t. cond t (Some p) None) (children_gone prog m w d fits.runs orderly stack now.core.memory r d.below refl clear))

  module _ (g : Placed) (rest : List Placed) (below : d.below ≡ g ∷ rest) where
    rising : Rises d.base d.top (g ∷ rest)
    rising = subst (λ x. Rises d.base d.top x) below stack

    unheld : Unheld now.hands g.path
    unheld v e =
        elim (eqb_tells w v) [
          | inl h ↦ apart prog m w d fits.runs orderly stack now.core.memory g rest below (let same : Some p ≡ Some g.path = rw h.0 at e in cc)
          | inr h ↦ others m w d.base orderly fits.runs.hand fits.runs.frame g rest rising.4 v h.1 (rw h.0 at e)
        ]

    pub reattach_step : (r : ℕ) → next_action prog d ≡ Reattach r → g.frame.waits ≡ Free → May true →
        event prog workers (Step w) now ≡ Some (absorbed m w (reattached d g rest))
    reattach_step r is free goes =
        let act = same_quiet (Reattach r) is (λ x. refl, λ x. refl) in
        let t = reattach_moves prog m w d fits.runs orderly stack now.core.memory g rest below r act goes in
        step_to (reattached d g rest) (Reattach r) t act (taken (apply t.change now.core) r)
      where
        newest : eqb g.frame.made (suc rising.0) ≡ true
        newest = eq-eqb g.frame.made (suc rising.0) rising.2

        taken : (new : State) (r : ℕ) → after_reattach workers now new p r ≡ Some g.path
        taken new r =
            ap (λ x. after_reattach workers now new x r) rising.1 ∙
            (ap (λ o. takes_parent workers now new rising.0 g.path r o) (over prog m w d fits.runs orderly stack now.core.memory g rest below) ∙
            (ap (λ o. unless_held o (may_be_taken new rising.0 g.path r g.frame g.frame.waits) g.path) (holder_free workers now.hands g.path unheld) ∙
            (ap (λ y. unless_held None (may_be_taken new rising.0 g.path r g.frame y) g.path) free ∙
            ap (λ b. unless_held None b g.path) newest)))

    pub return_step : (v : Option ℤ) (j : ℕ) (o : Option RegisterId) → next_action prog d ≡ Return v → g.frame.waits ≡ OnCall j o → May true →
        event prog workers (Step w) now ≡ Some (absorbed m w (returned d g rest o v))
    return_step v j o is waits goes =
        let act = same_quiet (Return v) is (λ x. refl, λ x. refl) in
        step_to (returned d g rest o v) (Return v) (return_moves prog m w d fits.runs orderly stack now.core.memory g rest below v j o act waits goes) act (ap caller_of rising.1)
