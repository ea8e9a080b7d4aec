-- One instruction more of a strand is a step of its frames, whatever the cells hold.
use Rattle.std.proofs.Common.{◌≡◌, ℕ, zero, suc, ◌<◌, max, List, [], ◌∷◌, Option, Some, None, ◌≢◌, Bool, true, false, cond, refl, sym, ap, ◌∙◌, subst, arith, is_none, is_some, ℤ}
use Rattle.semantics.specs.Paths.{Path, same_path}
use Rattle.semantics.specs.Cells.{Cell, Memory}
use Rattle.semantics.specs.Frames.{Value, Registers, OnCall, Frame}
use Rattle.semantics.specs.Effect.{Effect, Plain, Detach, Reattach, Sync, Call, Return, action_of}
use Rattle.semantics.specs.State.{State, Change, override, only, both, all_below, outside, none_within, may_go, childless, went, detached, continued, synced, called, waiting, resumed, plain_change, detach_change, reattach_change, sync_change, call_change, return_change}
use Rattle.semantics.specs.Events.{Machine, holder, is_place}
use Rattle.semantics.proofs.Actions.{same_path_itself, return_is_body, reattach_is_child}
use Rattle.semantics.proofs.Places.{same_path_apart, same_path_is, no_own_child, all_below_at}
use Rattle.semantics.proofs.Steps.{Does, plain, detach, reattach, sync, call, ret}
use Rattle.semantics.proofs.Diamond.{same_frame}
use Rattle.semantics.proofs.Workers.{Unheld}
use Rattle.laws_strands.specs.stacks.Footprint.{added_to, stored}
use Rattle.laws_strands.specs.stacks.Strands.{Placed, Strand, at, advanced, past_sync, entered, reattached, returned}
use Rattle.laws_strands.specs.stacks.Law.{IsOrderly, Runs, with_frames, absorbed}
use Rattle.laws_strands.proofs.stacks.Rising.{Rises, new_is_none, above_top, top_is_new, top_has_none}
use Rattle.linear.specs.declared.form.RegisterId.{RegisterId}
use Rattle.program.specs.declared.function.Program.{Program}

pub all_true : (n : ℕ) (f : ℕ → Bool) → ((k : ℕ) → k < n → f k ≡ true) → all_below n f ≡ true
all_true zero f h = refl
all_true (suc n) f h = rw (h n (omega arith)) (all_true n f (λ k lt. h k (omega arith)))

pub holder_free : (n : ℕ) (hands : ℕ → Option Path) (x : Path) → Unheld hands x → holder n hands x ≡ None
holder_free zero hands x free = refl
holder_free (suc n) hands x free = from (hands n) (holder_free n hands x free) refl
  where
    at_place : (y : Path) (b : Bool) → holder n hands x ≡ None → hands n ≡ Some y → same_path y x ≡ b → cond b (Some n) (holder n hands x) ≡ None
    at_place y true rest has is = absurd (free n (has ∙ ap (λ z. Some z) (same_path_is y x is)))
    at_place y false rest has is = rest

    from : (o : Option Path) → holder n hands x ≡ None → hands n ≡ o → cond (is_place o x) (Some n) (holder n hands x) ≡ None
    from None rest has = rest
    from (Some y) rest has = at_place y (same_path y x) rest has refl

pub not_some : (o : Option Frame) → o ≡ None → is_some o ≡ true → ⊥
not_some None e h = absurd (cc)
not_some (Some g) e h = absurd (cc)

-- no other worker has a frame of the strand
pub others : (m : Machine) (w : ℕ) (b : Placed) → IsOrderly m → m.hands w ≡ Some b.path → m.core.frames b.path ≡ Some b.frame →
    (t : Placed) (below : List Placed) → Rises b t below → (v : ℕ) → w ≢ v → m.hands v ≡ Some t.path → ⊥
others m w b orderly hand base t [] (is, le) v other has = other (orderly.alone w v b.path hand (has ∙ ap (λ x. Some x) is))
others m w b orderly hand base t (g ∷ rest) (j, is, next, new, more) v other has =
    not_some (m.core.frames t.path) (new_is_none m.core orderly.tree b base t.path new) (orderly.lives v t.path has)

module _ (prog : Program) (m : Machine) (w : ℕ) (d : Strand) (runs : Runs m w d) (orderly : IsOrderly m) (stack : Rises d.base d.top d.below) (memory : Memory) where
  abbrev p : Path
  p = d.top.path

  abbrev f : Frame
  f = d.top.frame

  -- the strand's frames in the machine's, with this memory
  abbrev pub state : State
  state = record (absorbed m w d).core { memory = memory }

  abbrev frames : Path → Option Frame
  frames = (absorbed m w d).core.frames

  frame_now : frames p ≡ Some f
  frame_now = rw (same_path_itself p)

  abbrev pub May : Bool → Type 0
  May b = may_go state p f.made f.waits ≡ b

  -- a step of the top frame that leads to the frames and the count of this strand
  pub record Moves (after : Strand) : Type 0 where
    pub change : Change
    pub does : Does prog state p change
    pub sound : change.trap ≡ None
    pub silent : change.result ≡ None
    pub count : after.done ≡ suc d.done
    pub high : after.deepest ≡ max d.deepest change.depth
    pub stands : (x : Path) → override (change.frames x) (frames x) ≡ with_frames (after.top ∷ after.below) m.core.frames x
    pub writes : (x : Cell) → after.footprint.writes x ≡ added_to (change.adds x) (stored (change.writes x) (d.footprint.writes x)) (d.footprint.reads x)

  -- a change of the top frame alone
  moved : (g : Frame) (x : Path) → override (only p (Some g) x) (frames x) ≡ with_frames (at p g ∷ d.below) m.core.frames x
  moved g x = from (same_path p x)
    where
      from : (b : Bool) → override (cond b (Some (Some g)) None) (cond b (Some f) (with_frames d.below m.core.frames x)) ≡ cond b (Some g) (with_frames d.below m.core.frames x)
      from true = refl
      from false = refl

  -- a new frame on top
  pushed : (g c : Frame) (x : Path) → override (both p (Some g) (f.made ∷ p) (Some c) x) (frames x) ≡ with_frames (at (f.made ∷ p) c ∷ at p g ∷ d.below) m.core.frames x
  pushed g c x = from (same_path p x) (same_path (f.made ∷ p) x) refl refl
    where
      from : (a b : Bool) → same_path p x ≡ a → same_path (f.made ∷ p) x ≡ b →
          override (cond a (Some (Some g)) (cond b (Some (Some c)) None)) (cond a (Some f) (with_frames d.below m.core.frames x)) ≡ cond b (Some c) (cond a (Some g) (with_frames d.below m.core.frames x))
      from true true is too = absurd (no_own_child f.made p (same_path_is (f.made ∷ p) x too ∙ sym (same_path_is p x is)))
      from true false is too = refl
      from false true is too = refl
      from false false is too = refl

  -- ---- by kinds

  pub plain_moves : (e : Effect) → action_of prog p f memory ≡ Plain e → e.trap ≡ None → May true → Moves (advanced d e)
  plain_moves e act fine goes =
      record { change = plain_change p f e; does = plain f e frame_now goes act; sound = fine; silent = refl; count = refl; high = omega arith; stands = moved (went f e); writes = λ x. refl }

  pub detach_moves : (r b n : ℕ) → action_of prog p f memory ≡ Detach r b n → May true → Moves (entered d (continued f n) (detached f r b n))
  detach_moves r b n act goes =
      record { change = detach_change p f r b n; does = detach f r b n frame_now goes act; sound = refl; silent = refl; count = refl; high = refl; stands = pushed (continued f n) (detached f r b n); writes = λ x. refl }

  pub call_moves : (o : Option RegisterId) (g : ℕ) (vs : List Value) → action_of prog p f memory ≡ Call o g vs → May true → Moves (entered d (waiting f o) (called p f g vs))
  call_moves o g vs act goes =
      record { change = call_change p f o g vs; does = call f o g vs frame_now goes act; sound = refl; silent = refl; count = refl; high = refl; stands = pushed (waiting f o) (called p f g vs); writes = λ x. refl }

  pub sync_moves : (r b : ℕ) (rs : Registers) → action_of prog p f memory ≡ Sync r b rs → May true → Moves (past_sync d r b rs)
  sync_moves r b rs act goes =
      record { change = sync_change p f r b rs; does = sync f r b rs frame_now goes act; sound = refl; silent = refl; count = refl; high = omega arith; stands = moved (synced f r b rs); writes = λ x. refl }

  -- no child lives in a region that is synced
  pub children_gone : (r : ℕ) (below : List Placed) → d.below ≡ below → (below ≡ [] → none_within m.core d.base.path d.base.frame.made r ≡ true) → none_within state p f.made r ≡ true
  children_gone r (g ∷ rest) is clear =
      let rise : Rises d.base d.top (g ∷ rest) = subst (λ x. Rises d.base d.top x) is stack in
      all_true f.made _ (λ k lt. ap (λ o. outside r o)
      (ap (λ b. with_frames (d.top ∷ b) m.core.frames (k ∷ p)) is ∙ top_has_none m.core orderly.tree d.base runs.frame d.top g rest rise k))
  children_gone r [] is clear =
      let rise : Rises d.base d.top [] = subst (λ x. Rises d.base d.top x) is stack in
      all_true f.made _ (λ k lt. from rise k (m.core.frames (k ∷ d.base.path)) refl)
    where
      none : none_within m.core d.base.path d.base.frame.made r ≡ true
      none = clear refl

      here : Rises d.base d.top [] → (k : ℕ) → frames (k ∷ p) ≡ m.core.frames (k ∷ d.base.path)
      here rise k =
          ap (λ b. with_frames (d.top ∷ b) m.core.frames (k ∷ p)) is ∙
          (above_top m.core orderly.tree d.base runs.frame d.top [] rise (k ∷ p) (omega arith) ∙
          ap (λ x. m.core.frames (k ∷ x)) rise.0)

      from : Rises d.base d.top [] → (k : ℕ) (o : Option Frame) → m.core.frames (k ∷ d.base.path) ≡ o → outside r (frames (k ∷ p)) ≡ true
      from rise k None there = ap (λ o. outside r o) (here rise k ∙ there)
      from rise k (Some g) there =
          let (u, parent, lt) = orderly.tree.has_parent k d.base.path g there in
          let same : u.made ≡ d.base.frame.made = ap (λ (y : Frame). y.made) (same_frame (m.core.frames d.base.path) u d.base.frame parent runs.frame) in
          ap (λ o. outside r o) (here rise k) ∙ all_below_at d.base.frame.made _ none k (omega arith)

  -- ---- ends

  module _ (g : Placed) (rest : List Placed) (below : d.below ≡ g ∷ rest) where
    pub rise : Rises d.base d.top (g ∷ rest)
    rise = subst (λ x. Rises d.base d.top x) below stack

    abbrev pub k : ℕ
    k = rise.0

    pub up : p ≡ k ∷ g.path
    up = rise.1

    pub apart : p ≢ g.path
    apart e = no_own_child k g.path (sym up ∙ e)

    pub over : frames g.path ≡ Some g.frame
    over = ap (λ b. with_frames (d.top ∷ b) m.core.frames g.path) below ∙ (rw (same_path_apart p g.path apart, same_path_itself g.path))

    alone : childless state p f.made ≡ true
    alone =
        all_true f.made _ (λ j lt. ap (λ o. is_none o)
        (ap (λ b. with_frames (d.top ∷ b) m.core.frames (j ∷ p)) below ∙ top_has_none m.core orderly.tree d.base runs.frame d.top g rest rise j))

    gone : (x : Path) → same_path p x ≡ true → with_frames (g ∷ rest) m.core.frames x ≡ None
    gone x is = ap (λ y. with_frames (g ∷ rest) m.core.frames y) (sym (same_path_is p x is)) ∙ top_is_new m.core orderly.tree d.base runs.frame d.top g rest rise

    popped : (o : Frame) (x : Path) → override (both p None g.path (Some o) x) (frames x) ≡ with_frames (at g.path o ∷ rest) m.core.frames x
    popped o x = ap (λ b. override (both p None g.path (Some o) x) (with_frames (d.top ∷ b) m.core.frames x)) below ∙ from (same_path p x) (same_path g.path x) refl refl
      where
        from : (a b : Bool) → same_path p x ≡ a → same_path g.path x ≡ b →
            override (cond a (Some None) (cond b (Some (Some o)) None)) (cond a (Some f) (cond b (Some g.frame) (with_frames rest m.core.frames x))) ≡ cond b (Some o) (with_frames rest m.core.frames x)
        from true true is too = absurd (apart (same_path_is p x is ∙ sym (same_path_is g.path x too)))
        from true false is too = sym (let n = gone x is in rw too at n)
        from false true is too = refl
        from false false is too = refl

    left : (x : Path) → override (only p None x) (frames x) ≡ with_frames (g ∷ rest) m.core.frames x
    left x = ap (λ b. override (only p None x) (with_frames (d.top ∷ b) m.core.frames x)) below ∙ from (same_path p x) refl
      where
        from : (a : Bool) → same_path p x ≡ a → override (cond a (Some None) None) (cond a (Some f) (with_frames (g ∷ rest) m.core.frames x)) ≡ with_frames (g ∷ rest) m.core.frames x
        from true is = sym (gone x is)
        from false is = refl

    pub reattach_moves : (r : ℕ) → action_of prog p f memory ≡ Reattach r → May true → Moves (reattached d g rest)
    reattach_moves r act goes =
        let (n, role) = reattach_is_child prog p f memory r act in
        record { change = reattach_change p; does = reattach f r n frame_now goes act alone role; sound = refl; silent = refl; count = refl; high = omega arith; stands = left; writes = λ x. refl }

    pub return_moves : (v : Option ℤ) (j : ℕ) (o : Option RegisterId) → action_of prog p f memory ≡ Return v → g.frame.waits ≡ OnCall j o → May true → Moves (returned d g rest o v)
    return_moves v j o act waits goes =
        record {
          change = return_change p g.path g.frame o v;
          does = ret f v k g.path g.frame j o frame_now goes act alone (return_is_body prog p f memory v act) up over waits;
          sound = refl;
          silent = refl;
          count = refl;
          high = omega arith;
          stands = popped (resumed g.frame o v);
          writes = λ x. refl;
        }
