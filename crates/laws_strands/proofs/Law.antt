-- A strand that fits a machine is steps of the worker.
use Rattle.std.proofs.Common.{◌≡◌, ℕ, suc, ◌+◌, max, [], ◌∷◌, ◌++◌, Option, Some, None, Bool, true, false, cond, refl, sym, ap, ◌∙◌, subst, arith, eqb, eqb-true, nat_le, is_some, is_none, ℤ}
use Rattle.std.proofs.lemmas.List.Elements.{All-nil, All-pop, All-push}
use Rattle.std.specs.Map.{lookup}
use Rattle.semantics.specs.Paths.{Path, same_path}
use Rattle.semantics.specs.Cells.{Cell, Memory, same_cell}
use Rattle.semantics.specs.Written.{or_zero}
use Rattle.semantics.specs.Arithmetic.{Trap, Unmatched, cell_sum}
use Rattle.semantics.specs.Frames.{Frame, Item}
use Rattle.semantics.specs.Effect.{Effect, Plain, action_of}
use Rattle.semantics.specs.State.{Change, override, only, apply, may_go, wait_after, went, plain_change, change_of}
use Rattle.semantics.specs.Events.{Machine, Step, event, unless_trapped, by_hand, by_frame, by_change, stepped, next_hand, with_hand}
use Rattle.semantics.proofs.Actions.{reads_of, adds_of, action_kept, same_cell_itself}
use Rattle.semantics.proofs.Places.{only_here, same_path_is}
use Rattle.semantics.proofs.Steps.{plain, change_is}
use Rattle.laws_strands.specs.Footprint.{Write, Stored, Delta, Footprint, read_at, write_at, held, memory_of, with_write, stored, raised, added_to, settled, with_read, put}
use Rattle.laws_strands.specs.FrameStrands.{FrameStrand, Access, Nowhere, Loads, Stores, Adds, is_border, next_of, access_of, most_done, Pause, Border, Limit, Full, Need, is_full, need, pause_at, pause_of, loaded, filled, footprint_after, advanced, next_action, IsFrameStrand, is_loaded, is_filled, is_advanced}
use Rattle.laws_strands.specs.Law.{steps_by, Happen, Fits, absorbed, IsSteps, FrameStrandsAreSteps, ReadsAgree, FrameReadsAreThere, HasValues, FrameStrandsAreStepsWhereDefined, FrameStrandsGoOverBorders}
use Rattle.semantics.specs.Sound.{NeverTraps}
use Rattle.semantics.proofs.SameCells.{same_cell_is}
use Rattle.laws_strands.proofs.Footprints.{lookup_with_write}
use Rattle.laws_strands.proofs.Items.{Touches, touches, Wants, undefined_traps}
use Rattle.laws_strands.proofs.Growing.{held_put, put_read, put_after, put_some, raised_some, value_beneath}
use Rattle.laws_strands.proofs.Happening.{steps_more, happen_more, never_later, sound_next}
use Rattle.semantics.specs.program.declared.function.Program.{Program}

-- ---- where a strand goes on

-- no pause, or one for a cell that it needs
abbrev IsOfNeed : Option Pause → Type 0
IsOfNeed None = Unit {0}
IsOfNeed (Some (Need c)) = Unit {0}
IsOfNeed other = ⊥

paused_by_need : (f : Footprint) (n : ℕ) (o : Option Item) (a : Access) (p : Option Pause) → IsOfNeed p → pause_at f n o a ≡ p → (is_border o ≡ false) × (need f a ≡ p)
paused_by_need f n o a p of_need e = at_border (is_border o) refl e
  where
    at_full : (b : Bool) → cond b (Some Full) (need f a) ≡ p → need f a ≡ p
    at_full true h = absurd (subst IsOfNeed (sym h) of_need)
    at_full false h = h

    at_limit : (b : Bool) → cond b (Some Limit) (cond (is_full f a) (Some Full) (need f a)) ≡ p → need f a ≡ p
    at_limit true h = absurd (subst IsOfNeed (sym h) of_need)
    at_limit false h = at_full (is_full f a) h

    at_border : (b : Bool) → is_border o ≡ b → cond b (Some Border) (cond (nat_le most_done n) (Some Limit) (cond (is_full f a) (Some Full) (need f a))) ≡ p → (is_border o ≡ false) × (need f a ≡ p)
    at_border true is h = absurd (subst IsOfNeed (sym h) of_need)
    at_border false is h = (is, at_limit (nat_le most_done n) h)

not_paused : (f : Footprint) (n : ℕ) (o : Option Item) (a : Access) → pause_at f n o a ≡ None → (is_border o ≡ false) × (need f a ≡ None)
not_paused f n o a e = paused_by_need f n o a None tt e

held_there : (f : Footprint) (c : Cell) → need f (Loads c) ≡ None → (y : ℤ) × (held f c ≡ Some y)
held_there f c e = from (held f c) refl e
  where
    from : (o : Option ℤ) → held f c ≡ o → cond (is_some o) None (Some (Need c)) ≡ None → (y : ℤ) × (held f c ≡ Some y)
    from None is h = absurd (cc)
    from (Some y) is h = (y, is)

-- a strand that needs a cell is before a load of it
loads_needed : (f : Footprint) (a : Access) (c : Cell) → need f a ≡ Some (Need c) → Wants a c × (held f c ≡ None)
loads_needed f Nowhere c e = absurd (cc)
loads_needed f (Stores d) c e = absurd (cc)
loads_needed f (Adds d) c e = absurd (cc)
loads_needed f (Loads d) c e = from (held f d) refl e
  where
    from : (o : Option ℤ) → held f d ≡ o → cond (is_some o) None (Some (Need d)) ≡ Some (Need c) → Wants (Loads d) c × (held f c ≡ None)
    from None is h = let same : d ≡ c = cc in (same, ap (λ x. held f x) (sym same) ∙ is)
    from (Some y) is h = absurd (cc)

-- ---- one instruction more

module _ (prog : Program) (workers : ℕ) (m : Machine) (w : ℕ) (s : FrameStrand) (fits : Fits m w s) (sound : m.trapped ≡ None) where
  abbrev now : Machine
  now = absorbed m s

  frame_now : now.core.frames s.path ≡ Some s.present
  frame_now = ap (λ o. override o (m.core.frames s.path)) (only_here s.path (Some s.present))

  -- the step, by what its frame's change is
  step_is : (o : Option Change) → change_of prog now.core s.path ≡ o → event prog workers (Step w) now ≡ Some (by_change prog workers now w s.path s.present o)
  step_is o is =
      ap (λ t. unless_trapped t (by_hand prog workers now w (m.hands w))) sound ∙
      (ap (λ h. by_hand prog workers now w h) fits.hand ∙
      (ap (λ f. by_frame prog workers now w s.path f) frame_now ∙
      ap (λ c. Some (by_change prog workers now w s.path s.present c)) is))

  abbrev May : Bool → Type 0
  May b = may_go now.core s.path s.present.made s.present.waits ≡ b

  stuck : May false → change_of prog now.core s.path ≡ None
  stuck off = rw (frame_now, off)

  -- the machine's frame does what the strand's did
  module _ (e : Effect) (free : pause_of prog s ≡ None) (at : next_action prog s ≡ Plain e) (fine : e.trap ≡ None) where
    abbrev access : Access
    access = access_of prog s.present

    abbrev needs : (is_border (next_of prog s.present) ≡ false) × (need s.footprint access ≡ None)
    needs = not_paused s.footprint s.done (next_of prog s.present) access free

    touched : Touches access e
    touched = touches prog s.path s.present (memory_of s.footprint) (next_of prog s.present) e needs.0 at fine

    read_same : (a : Access) → need s.footprint a ≡ None → Touches a e → (x : Cell) → e.reads x ≡ true → now.core.memory x ≡ memory_of s.footprint x
    read_same (Loads c) known (r, _, _) x h =
        let (y, is) = held_there s.footprint c known in
        let same : c ≡ x = same_cell_is c x (sym (r x) ∙ h) in
        let is2 : held s.footprint x ≡ Some y = subst (λ z. held s.footprint z ≡ Some y) same is in
        held_put m.core.memory s.footprint fits.reads x y is2 ∙ sym (ap (λ o. Some (or_zero o)) is2)
    read_same Nowhere known t x h = absurd (let r = t.reads x in cc)
    read_same (Stores c) known (z, r, _, _) x h = absurd (let r2 = r x in cc)
    read_same (Adds c) known (z, r, _, _) x h = absurd (let r2 = r x in cc)

    abbrev HasAdded : Type 0
    HasAdded = (c : Cell) → access ≡ Adds c → is_some (now.core.memory c) ≡ true

    none_of_some : (o : Option ℤ) → is_some o ≡ true → is_none o ≡ false
    none_of_some None h = absurd (cc)
    none_of_some (Some y) h = refl

    add_same : (a : Access) → access ≡ a → HasAdded → Touches a e → (x : Cell) → is_some (e.adds x) ≡ true → is_none (now.core.memory x) ≡ false
    add_same Nowhere is values t x h = absurd (let a = t.adds x in cc)
    add_same (Loads c) is values (_, _, a) x h = absurd (let a2 = a x in cc)
    add_same (Stores c) is values (z, _, _, a) x h = absurd (let a2 = a x in cc)
    add_same (Adds c) is values (z, _, _, a) x h = from (same_cell c x) refl (ap (λ o. is_some o) (sym (a x)) ∙ h)
      where
        from : (b : Bool) → same_cell c x ≡ b → is_some (cond b (Some z) None) ≡ true → is_none (now.core.memory x) ≡ false
        from false off k = absurd (cc)
        from true on k = none_of_some (now.core.memory x) (subst (λ y. is_some (now.core.memory y) ≡ true) (same_cell_is c x on) (values c is))

    same_action : HasAdded → action_of prog s.path s.present now.core.memory ≡ Plain e
    same_action values =
        action_kept prog s.path s.present (memory_of s.footprint) now.core.memory
        (λ x h. read_same access needs.1 touched x (subst (λ a. reads_of a x ≡ true) at h))
        (λ x h. add_same access refl values touched x (subst (λ a. is_some (adds_of a x) ≡ true) at h)) ∙ at

    -- ---- the machine after it

    framed : (x : Path) → override (only s.path (Some (went s.present e)) x) (override (only s.path (Some s.present) x) (m.core.frames x)) ≡ override (only s.path (Some (went s.present e)) x) (m.core.frames x)
    framed x = from (same_path s.path x)
      where
        from : (b : Bool) → override (cond b (Some (Some (went s.present e))) None) (override (cond b (Some (Some s.present)) None) (m.core.frames x)) ≡ override (cond b (Some (Some (went s.present e))) None) (m.core.frames x)
        from true = refl
        from false = refl

    handed : (v : ℕ) → with_hand m.hands w (Some s.path) v ≡ m.hands v
    handed v = from (eqb w v) refl
      where
        from : (b : Bool) → eqb w v ≡ b → cond b (Some s.path) (m.hands v) ≡ m.hands v
        from true is = sym fits.hand ∙ ap m.hands (eqb-true w v is)
        from false is = refl

    count_up : (n k : ℕ) → suc (n + k) ≡ suc n + k
    count_up n k = omega arith

    no_deeper : (n : ℕ) → max n 0 ≡ n
    no_deeper n = omega arith

    becomes : stepped now w (plain_change s.path s.present e) (Some s.path) ≡ absorbed m (advanced prog s e)
    becomes =
        λ i. record {
          core = record {
            frames = λ x. framed x i;
            memory = λ x. put_after m.core.memory s.footprint access e fits.reads touched x i;
            done = count_up s.done m.core.done i;
            peak = no_deeper m.core.peak i;
            result = m.core.result;
          };
          hands = λ v. handed v i;
          trapped = (fine ∙ sym sound) i;
        }

    pub step_more : May true → HasAdded → event prog workers (Step w) now ≡ Some (absorbed m (advanced prog s e))
    step_more goes values =
        let at2 = same_action values in
        let change : change_of prog now.core s.path ≡ Some (plain_change s.path s.present e) = change_is prog now.core s.path _ (plain s.present e frame_now goes at2) in
        step_is _ change ∙
        (ap (λ a. Some (stepped now w (plain_change s.path s.present e) (next_hand workers now (apply (plain_change s.path s.present e) now.core) s.path s.present a))) at2 ∙
        ap (λ x. Some x) becomes)

  -- ---- a machine that never traps

  module _ (never : NeverTraps prog workers now) where
    pub goes_now : May true
    goes_now = from (may_go now.core s.path s.present.made s.present.waits) refl
      where
        from : (b : Bool) → May b → May true
        from true is = is
        from false is = absurd (let t : Some Unmatched ≡ None = sound_next prog workers (Step w) now _ (step_is None (stuck is)) never in cc)

    pub value_now : (c : Cell) → Wants (access_of prog s.present) c → is_some (now.core.memory c) ≡ true
    value_now c wants = from (now.core.memory c) refl
      where
        from : (o : Option ℤ) → now.core.memory c ≡ o → is_some o ≡ true
        from (Some y) has = refl
        from None has =
            let (e, at, trap) = undefined_traps prog s.path s.present now.core.memory (next_of prog s.present) c wants has in
            let change : change_of prog now.core s.path ≡ Some (plain_change s.path s.present e) = change_is prog now.core s.path _ (plain s.present e frame_now goes_now at) in
            let quiet : e.trap ≡ None = sound_next prog workers (Step w) now _ (step_is _ change) never in
            absurd (cc)

    pub added_now : (c : Cell) → access_of prog s.present ≡ Adds c → is_some (now.core.memory c) ≡ true
    added_now c is = value_now c (subst (λ a. Wants a c) (sym is) refl)

-- ---- the law

-- a loaded frame that fits changes nothing
starts : (m : Machine) (w : ℕ) (p : Path) (f : Frame) → Fits m w (loaded p f) → m ≡ absorbed m (loaded p f)
starts m w p f fits = λ i. record { core = record { frames = λ x. same x i; memory = m.core.memory; done = zeroth m.core.done i; peak = m.core.peak; result = m.core.result }; hands = m.hands; trapped = m.trapped }
  where
    same : (x : Path) → m.core.frames x ≡ override (only p (Some f) x) (m.core.frames x)
    same x = from (same_path p x) refl
      where
        from : (b : Bool) → same_path p x ≡ b → m.core.frames x ≡ override (cond b (Some (Some f)) None) (m.core.frames x)
        from true is = ap m.core.frames (sym (same_path_is p x is)) ∙ fits.frame
        from false is = refl

    zeroth : (n : ℕ) → n ≡ 0 + n
    zeroth n = omega arith

-- what a fill asks of the machine
unfilled : (m : Machine) (w : ℕ) (s : FrameStrand) (c : Cell) (v : ℤ) → Fits m w (filled s c v) → Fits m w s × (m.core.memory c ≡ Some v)
unfilled m w s c v fits =
    let (all, here) = All-pop (λ r. m.core.memory r.0 ≡ Some r.1) (s.footprint.reads ++ (c, v) ∷ []) s.footprint.reads (Some (c, v)) refl fits.reads in
    (record { hand = fits.hand; frame = fits.frame; reads = all }, here)

absorbs_fill : (m : Machine) (s : FrameStrand) (c : Cell) (v : ℤ) → m.core.memory c ≡ Some v → absorbed m (filled s c v) ≡ absorbed m s
absorbs_fill m s c v has = λ i. record { core = record (absorbed m s).core { memory = λ x. put_read m.core.memory s.footprint c v x has i }; hands = m.hands; trapped = m.trapped }

-- ---- what deltas are added to

-- a delta after a fill was there before it
kept_delta : (f : Footprint) (c : Cell) (v : ℤ) (x : Cell) (z : ℤ) → write_at (with_read f c v) x ≡ Some (Delta z) → write_at f x ≡ Some (Delta z)
kept_delta f c v x z e = from (write_at f c) e
  where
    beside : (b : Bool) (y : ℤ) → cond b (Some (Stored y)) (write_at f x) ≡ Some (Delta z) → write_at f x ≡ Some (Delta z)
    beside true y h = absurd (cc)
    beside false y h = h

    from : (o : Option Write) → lookup (same_cell x) (settled f.writes c v o) ≡ Some (Delta z) → write_at f x ≡ Some (Delta z)
    from None h = h
    from (Some (Stored y)) h = h
    from (Some (Delta y)) h = beside (same_cell x c) (cell_sum v y) (sym (lookup_with_write f.writes c (Stored (cell_sum v y)) x) ∙ h)

-- a delta after an instruction was there before it, or is added to what the memory holds
module _ (m : Memory) (f : Footprint) (x : Cell) (y : ℤ) (before : (z : ℤ) → write_at f x ≡ Some (Delta z) → is_some (m x) ≡ true) where
  after_store : (c : Cell) (o : Option (Option ℤ)) → lookup (same_cell x) (stored f.writes c o) ≡ Some (Delta y) → is_some (m x) ≡ true
  after_store c None e = before y e
  after_store c (Some None) e = before y e
  after_store c (Some (Some z)) e = from (same_cell x c) (sym (lookup_with_write f.writes c (Stored z) x) ∙ e)
    where
      from : (b : Bool) → cond b (Some (Stored z)) (write_at f x) ≡ Some (Delta y) → is_some (m x) ≡ true
      from true h = absurd (cc)
      from false h = before y h

  after_add : (c : Cell) (o : Option ℤ) → is_some (put (write_at f c) (m c)) ≡ true → lookup (same_cell x) (added_to f c o) ≡ Some (Delta y) → is_some (m x) ≡ true
  after_add c None there e = before y e
  after_add c (Some z) there e = from (same_cell x c) refl (sym (lookup_with_write f.writes c (raised z (write_at f c) (read_at f c)) x) ∙ e)
    where
      from : (b : Bool) → same_cell x c ≡ b → cond b (Some (raised z (write_at f c) (read_at f c))) (write_at f x) ≡ Some (Delta y) → is_some (m x) ≡ true
      from true is h = subst (λ d. is_some (m d) ≡ true) (sym (same_cell_is x c is)) (raised_some z y (write_at f c) (read_at f c) (m c) (cc) there)
      from false is h = before y h

  deltas_after : (a : Access) (e : Effect) → ((c : Cell) → a ≡ Adds c → is_some (put (write_at f c) (m c)) ≡ true) → write_at (footprint_after f a e) x ≡ Some (Delta y) → is_some (m x) ≡ true
  deltas_after Nowhere e there h = before y h
  deltas_after (Loads c) e there h = before y h
  deltas_after (Stores c) e there h = after_store c (e.writes c) h
  deltas_after (Adds c) e there h = after_add c (e.adds c) (there c refl) h

module _ (prog : Program) (workers : ℕ) (m : Machine) (w : ℕ) where
  happens_too : (s : FrameStrand) (next : Machine) → Happen prog workers (steps_by w s.done) m (absorbed m s) → event prog workers (Step w) (absorbed m s) ≡ Some next → Happen prog workers (steps_by w (suc s.done)) m next
  happens_too s next steps is = subst (λ es. Happen prog workers es m next) (steps_more w s.done) (happen_more prog workers (steps_by w s.done) (Step w) m (absorbed m s) next steps is)

  never_law : (s : FrameStrand) → IsFrameStrand prog s → Fits m w s → NeverTraps prog workers m → IsSteps prog workers m w s
  never_law _ (is_loaded p f) fits never = record { steps = starts m w p f fits; deltas = λ x z e. absurd (cc) }
  never_law _ (is_filled s c v is paused) fits never =
      let (fits2, has) = unfilled m w s c v fits in
      let law = never_law s is fits2 never in
      record {
        steps = subst (λ x. Happen prog workers (steps_by w s.done) m x) (sym (absorbs_fill m s c v has)) law.steps;
        deltas = λ x z e. law.deltas x z (kept_delta s.footprint c v x z e);
      }
  never_law _ (is_advanced s e is free at fine) fits never =
      let fits2 : Fits m w s = record { hand = fits.hand; frame = fits.frame; reads = fits.reads } in
      let law = never_law s is fits2 never in
      let later = never_later prog workers (steps_by w s.done) m (absorbed m s) law.steps never in
      let values = added_now prog workers m w s fits2 (never []) later in
      let goes = goes_now prog workers m w s fits2 (never []) later in
      record {
        steps = happens_too s _ law.steps (step_more prog workers m w s fits2 (never []) e free at fine goes values);
        deltas = λ x z h. deltas_after m.core.memory s.footprint x z (λ y k. law.deltas x y k) (access_of prog s.present) e values h;
      }

pub frame_strands_are_steps : FrameStrandsAreSteps
frame_strands_are_steps prog workers m w s is fits never = never_law prog workers m w s is fits never

-- ---- reads that the machine need not hold yet

number_in : (o : Option ℤ) → is_some o ≡ true → (z : ℤ) × (o ≡ Some z)
number_in None h = absurd (cc)
number_in (Some z) h = (z, refl)

module _ (prog : Program) (workers : ℕ) (m : Machine) (w : ℕ) (never : NeverTraps prog workers m) where
  abbrev Agrees : Cell × ℤ → Type 0
  Agrees r = (z : ℤ) → m.core.memory r.0 ≡ Some z → z ≡ r.1

  -- the load that asked for the cell does not trap
  filled_there : (s : FrameStrand) (c : Cell) → IsFrameStrand prog s → pause_of prog s ≡ Some (Need c) → Fits m w s → is_some (m.core.memory c) ≡ true
  filled_there s c is paused fits =
      let law = never_law prog workers m w s is fits never in
      let later = never_later prog workers (steps_by w s.done) m (absorbed m s) law.steps never in
      let load = loads_needed s.footprint (access_of prog s.present) c (paused_by_need s.footprint s.done (next_of prog s.present) (access_of prog s.present) (Some (Need c)) tt paused).1 in
      value_beneath (write_at s.footprint c) (read_at s.footprint c) (m.core.memory c) load.1 (value_now prog workers m w s fits (never []) later c load.0)

  reads_there : (s : FrameStrand) → IsFrameStrand prog s → m.hands w ≡ Some s.path → m.core.frames s.path ≡ Some s.loaded → ReadsAgree m s → Fits m w s
  reads_there _ (is_loaded p f) hand frame agree = record { hand = hand; frame = frame; reads = All-nil (λ r. m.core.memory r.0 ≡ Some r.1) }
  reads_there _ (is_filled s c v is paused) hand frame agree =
      let (all, here) = All-pop Agrees (s.footprint.reads ++ (c, v) ∷ []) s.footprint.reads (Some (c, v)) refl agree in
      let fits = reads_there s is hand frame all in
      let (z, has) = number_in (m.core.memory c) (filled_there s c is paused fits) in
      record { hand = hand; frame = frame; reads = All-push (λ r. m.core.memory r.0 ≡ Some r.1) s.footprint.reads (c, v) fits.reads (has ∙ ap Some (here z has)) }
  reads_there _ (is_advanced s e is free at fine) hand frame agree =
      let fits = reads_there s is hand frame agree in
      record { hand = fits.hand; frame = fits.frame; reads = fits.reads }

pub frame_reads_are_there : FrameReadsAreThere
frame_reads_are_there prog workers m w s is hand frame never agree = reads_there prog workers m w never s is hand frame agree

-- ---- of any machine

-- what was written stays written
module _ (f : Footprint) (x : Cell) (there : is_some (write_at f x) ≡ true) where
  some_with : (c : Cell) (u : Write) → is_some (lookup (same_cell x) (with_write f.writes c u)) ≡ true
  some_with c u = rw (lookup_with_write f.writes c u x) (from (same_cell x c))
    where
      from : (b : Bool) → is_some (cond b (Some u) (write_at f x)) ≡ true
      from true = refl
      from false = there

  some_settled : (c : Cell) (v : ℤ) (o : Option Write) → is_some (lookup (same_cell x) (settled f.writes c v o)) ≡ true
  some_settled c v None = there
  some_settled c v (Some (Stored z)) = there
  some_settled c v (Some (Delta z)) = some_with c (Stored (cell_sum v z))

  some_stored : (c : Cell) (o : Option (Option ℤ)) → is_some (lookup (same_cell x) (stored f.writes c o)) ≡ true
  some_stored c None = there
  some_stored c (Some None) = there
  some_stored c (Some (Some z)) = some_with c (Stored z)

  some_added : (c : Cell) (o : Option ℤ) → is_some (lookup (same_cell x) (added_to f c o)) ≡ true
  some_added c None = there
  some_added c (Some z) = some_with c (raised z (write_at f c) (read_at f c))

  some_after : (a : Access) (e : Effect) → is_some (write_at (footprint_after f a e) x) ≡ true
  some_after Nowhere e = there
  some_after (Loads c) e = there
  some_after (Stores c) e = some_stored c (e.writes c)
  some_after (Adds c) e = some_added c (e.adds c)

-- a cell that is added to is written
adds_written : (f : Footprint) (c : Cell) (e : Effect) → Touches (Adds c) e → is_some (write_at (footprint_after f (Adds c) e) c) ≡ true
adds_written f c e (z, r, w, a) =
    let a1 : e.adds c ≡ Some z = rw (a c) (rw (same_cell_itself c)) in
    rw (a1, lookup_with_write f.writes c (raised z (write_at f c) (read_at f c)) c, same_cell_itself c)

module _ (prog : Program) (workers : ℕ) (m : Machine) (w : ℕ) where
  free_after : (o : Option Trap) → o ≡ None → (p : Path) (n : ℕ) → may_go m.core p n (wait_after o) ≡ true
  free_after None e p n = refl
  free_after (Some t) e p n = absurd (cc)

  goes_on : (s : FrameStrand) → IsFrameStrand prog s → Fits m w s → HasValues m s → may_go (absorbed m s).core s.path s.present.made s.present.waits ≡ true
  goes_on _ (is_loaded p f) fits has = subst (λ (x : Machine). may_go x.core p f.made f.waits ≡ true) (starts m w p f fits) has.goes
  goes_on _ (is_filled s c v is paused) fits has =
      goes_on s is (unfilled m w s c v fits).0 (record { sound = has.sound; goes = has.goes; values = λ x h. has.values x (some_settled s.footprint x h c v (write_at s.footprint c)) })
  goes_on _ (is_advanced s e is free at fine) fits has = rw fine

  any_law : (s : FrameStrand) → IsFrameStrand prog s → Fits m w s → HasValues m s → Happen prog workers (steps_by w s.done) m (absorbed m s)
  any_law _ (is_loaded p f) fits has = starts m w p f fits
  any_law _ (is_filled s c v is paused) fits has =
      let (fits2, here) = unfilled m w s c v fits in
      let law = any_law s is fits2 (record { sound = has.sound; goes = has.goes; values = λ x h. has.values x (some_settled s.footprint x h c v (write_at s.footprint c)) }) in
      subst (λ x. Happen prog workers (steps_by w s.done) m x) (sym (absorbs_fill m s c v here)) law
  any_law _ (is_advanced s e is free at fine) fits has =
      let fits2 : Fits m w s = record { hand = fits.hand; frame = fits.frame; reads = fits.reads } in
      let has2 : HasValues m s = record { sound = has.sound; goes = has.goes; values = λ x h. has.values x (some_after s.footprint x h (access_of prog s.present) e) } in
      let t = touches prog s.path s.present (memory_of s.footprint) (next_of prog s.present) e (not_paused s.footprint s.done (next_of prog s.present) (access_of prog s.present) free).0 at fine in
      happens_too prog workers m w s _ (any_law s is fits2 has2)
      (step_more prog workers m w s fits2 has.sound e free at fine (goes_on s is fits2 has2)
      (λ c acc. put_some (write_at s.footprint c) (m.core.memory c) (has.values c (subst (λ a. is_some (write_at (footprint_after s.footprint a e) c) ≡ true) (sym acc) (adds_written s.footprint c e (subst (λ a. Touches a e) acc t))))))

pub frame_strands_are_steps_where_defined : FrameStrandsAreStepsWhereDefined
frame_strands_are_steps_where_defined prog workers m w s is fits has = any_law prog workers m w s is fits has

-- ---- with the border's instruction

pub frame_strands_go_over_borders : FrameStrandsGoOverBorders
frame_strands_go_over_borders prog workers m w s is fits never =
    let law = never_law prog workers m w s is fits never in
    let border = step_is prog workers m w s fits (never []) (change_of prog (absorbed m s).core s.path) refl in
    record {
      after = by_change prog workers (absorbed m s) w s.path s.present (change_of prog (absorbed m s).core s.path);
      border = border;
      steps = happens_too prog workers m w s _ law.steps border;
      sound = sound_next prog workers (Step w) (absorbed m s) _ border (never_later prog workers (steps_by w s.done) m (absorbed m s) law.steps never);
    }
