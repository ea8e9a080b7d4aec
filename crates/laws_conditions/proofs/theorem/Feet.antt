-- Frames that keep to their zones do not touch one another's cells.
use Rattle.std.proofs.Common.{◌≡◌, ℕ, ◌<◌, ◌∷◌, Option, Some, None, ◌≢◌, Bool, true, false, cond, not, inl, inr, refl, sym, ap, ◌∙◌, subst, arith, eqb, eq-eqb, is_some, is_none, ℤ}
use Rattle.std.proofs.lemmas.Bool.{false_from_ne_true}
use Rattle.semantics.specs.Paths.{Path}
use Rattle.semantics.specs.Below.{Under, itself, deeper}
use Rattle.semantics.specs.Cells.{Object, Shared, Local, Cell, owns}
use Rattle.semantics.specs.Frames.{Wait, OnRegion, OnCall, Halted, Role, Child, Body, Frame}
use Rattle.semantics.specs.Effect.{no_cells, no_writes, no_adds}
use Rattle.semantics.specs.State.{State, Change, clears, outside, outside_role, may_go, childless}
use Rattle.semantics.specs.Tree.{Tree, MissesAt, is_left, is_unseen, is_added, Misses, Apart}
use Rattle.laws_conditions.specs.theorem.Conditions.{Zone, Covers, Clear, zone_of, touched, OwnedBelow, Going, StaysInZone}
use Rattle.semantics.proofs.Places.{same_path_is, all_below_at}
use Rattle.semantics.proofs.Steps.{Does, plain, detach, reattach, sync, call, ret, end}
use Rattle.semantics.proofs.Diamond.{Goes, goes, stands, same_frame}
use Rattle.laws_conditions.proofs.theorem.Parting.{Split, are_same, is_higher, is_lower, are_parted, split}
use Rattle.linear.specs.declared.form.RegisterId.{RegisterId}
use Rattle.program.specs.declared.function.Program.{Program}

-- feet: what each living frame keeps to
pub record Footed {ℓ} (Z : Type ℓ) (zone : Z → Zone) (fits : Path → Frame → Z → Type 0) (pending : Path → Frame → ℕ → Z) (expects : Frame → Z → Type 0) (s : State) (feet : Path → Z) : Type 0 where
  pub own : (p : Path) (f : Frame) → s.frames p ≡ Some f → f.waits ≢ Halted → fits p f (feet p)
  pub nested : (k : ℕ) (p : Path) (c : Frame) → s.frames (k ∷ p) ≡ Some c → Covers (zone (feet p)) (zone (feet (k ∷ p)))
  pub waited : (k r n : ℕ) (p : Path) (f c : Frame) → s.frames p ≡ Some f → s.frames (k ∷ p) ≡ Some c → c.role ≡ Child r n → f.waits ≢ OnRegion r → f.waits ≢ Halted → Covers (zone (pending p f r)) (zone (feet (k ∷ p)))
  pub siblings : (k j : ℕ) (p : Path) (c d : Frame) → k ≢ j → s.frames (k ∷ p) ≡ Some c → s.frames (j ∷ p) ≡ Some d → Clear (zone (feet (k ∷ p))) (zone (feet (j ∷ p)))
  pub expected : (k : ℕ) (d : Option RegisterId) (p : Path) (f : Frame) → s.frames p ≡ Some f → f.waits ≡ OnCall k d → expects f (feet (k ∷ p))

pub covers_all : (z y x : Zone) → Covers z y → Covers y x → Covers z x
covers_all z y x a b = record { reads = λ c h. a.reads c (b.reads c h); adds = λ c h. a.adds c (b.adds c h) }

pub covers_itself : (z : Zone) → Covers z z
covers_itself z = record { reads = λ c h. h; adds = λ c h. h }

pub clear_back : (z y : Zone) → Clear z y → Clear y z
clear_back z y c = record { first = λ x a b. c.second x b a; second = λ x a b. c.first x b a }

-- what is covered by clear zones is clear
pub clear_within : (z y u v : Zone) → Clear z y → Covers z u → Covers y v → Clear u v
clear_within z y u v c a b = record { first = λ x h k. c.first x (a.reads x h) (b.adds x k); second = λ x h k. c.second x (a.adds x h) (b.reads x k) }

abbrev zone_at : Change → Zone
zone_at c = zone_of c.reads c.writes c.adds

none_of_not : {A : Type 0} (o : Option A) → (is_some o ≡ true → ⊥) → o ≡ None
none_of_not None h = refl
none_of_not (Some a) h = absurd (h refl)

-- clear zones of two changes: neither writes what the other reads or writes, and where one adds the other at most adds
misses_of_clear : (c d : Change) → Clear (zone_at c) (zone_at d) → Misses c d
misses_of_clear c d clear x = from (c.writes x) refl (c.adds x) refl
  where
    from : (o : Option (Option ℤ)) → c.writes x ≡ o → (a : Option ℤ) → c.adds x ≡ a → MissesAt c d x
    from None e None h = is_left e h
    from (Some v) e a h =
        let w : is_some (c.writes x) ≡ true = rw e in
        is_unseen (false_from_ne_true (d.reads x) (λ r. clear.second x (inl w) (inl r))) (none_of_not (d.writes x) (λ r. clear.second x (inl w) (inr r))) (none_of_not (d.adds x) (λ r. clear.first x (inr w) (inr r)))
    from None e (Some v) h =
        let w : is_some (c.adds x) ≡ true = rw h in
        is_added e (none_of_not (d.writes x) (λ r. clear.second x (inr w) (inr r))) (false_from_ne_true (d.reads x) (λ r. clear.second x (inr w) (inl r)))

apart_of_clear : (c d : Change) → Clear (zone_at c) (zone_at d) → Apart c d
apart_of_clear c d clear = (misses_of_clear c d clear, misses_of_clear d c (clear_back _ _ clear))

-- a frame that goes does not wait for a living child
pub not_waiting : {s : State} {p : Path} → Tree s → (go : Goes s p) → (f c : Frame) (k r n : ℕ) → s.frames p ≡ Some f → s.frames (k ∷ p) ≡ Some c → c.role ≡ Child r n → f.waits ≢ OnRegion r
not_waiting {s} {p} tree go f c k r n is there role wait =
    let f_is : go.frame ≡ f = same_frame (s.frames p) go.frame f go.is is in
    let (g, at, lt) = tree.has_parent k p c there in
    let g_is : f ≡ g = same_frame (s.frames p) f g is at in
    let less : k < f.made = subst (λ (y : Frame). k < y.made) (sym g_is) lt in
    let may : may_go s p f.made f.waits ≡ true = subst (λ (y : Frame). may_go s p y.made y.waits ≡ true) f_is go.may in
    let may2 : may_go s p f.made (OnRegion r) ≡ true = subst (λ y. may_go s p f.made y ≡ true) wait may in
    let out : outside r (s.frames (k ∷ p)) ≡ true = all_below_at f.made (λ j. outside r (s.frames (j ∷ p))) may2 k less in
    let out2 : outside_role r c.role ≡ true = rw there at out in
    let out3 : not (eqb r r) ≡ true = rw role at out2 in
    let eq : eqb r r ≡ true = eq-eqb r r refl in
    cc

-- a frame that goes has not trapped
pub alive : {s : State} {p : Path} → (go : Goes s p) → (f : Frame) → s.frames p ≡ Some f → f.waits ≢ Halted
alive {s} {p} go f is wait =
    let same : go.frame ≡ f = same_frame (s.frames p) go.frame f go.is is in
    let w : go.frame.waits ≡ Halted = ap (λ x. x.waits) same ∙ wait in
    let m : may_go s p go.frame.made Halted ≡ true = subst (λ x. may_go s p go.frame.made x ≡ true) w go.may in
    cc

pub not_halted : (w : Wait) (k : ℕ) (d : Option RegisterId) → w ≡ OnCall k d → w ≢ Halted
not_halted w k d e h = cc

-- the child of a frame that goes is a detached one
pub going_child : {s : State} {p : Path} → Tree s → Goes s p → (c : Frame) (k : ℕ) → s.frames (k ∷ p) ≡ Some c → (r : ℕ) × (n : ℕ) × (c.role ≡ Child r n)
going_child {s} {p} tree go c k there = from c.role refl
  where
    from : (x : Role) → c.role ≡ x → (r : ℕ) × (n : ℕ) × (c.role ≡ Child r n)
    from (Child r n) e = (r, n, e)
    from Body e = let (g, d, at, wait) = tree.awaited k p c there e in absurd (stands go g k d at wait)

pub alive_now : (s : State) (p : Path) (f : Frame) → s.frames p ≡ Some f → may_go s p f.made f.waits ≡ true → f.waits ≢ Halted
alive_now s p f is go = let stand : Goes s p = record { frame = f; is = is; may = go } in alive stand f is

-- a frame that may go waits for no call
pub going_now : (s : State) (p : Path) (f : Frame) → may_go s p f.made f.waits ≡ true → Going f
going_now s p f go k d w = let m : may_go s p f.made (OnCall k d) ≡ true = subst (λ x. may_go s p f.made x ≡ true) w go in cc

nowhere : Zone
nowhere = record { reads = λ x. ⊥; adds = λ x. ⊥; gives = λ v. Unit {0} }

module _ {ℓ} (Z : Type ℓ) (zone : Z → Zone) (prog : Program) (fits : Path → Frame → Z → Type 0) (pending : Path → Frame → ℕ → Z) (expects : Frame → Z → Type 0) (stays : StaysInZone Z zone prog fits pending) (s : State) (tree : Tree s) (feet : Path → Z) (footed : Footed Z zone fits pending expects s feet) where
  none_covered : (z : Zone) → Covers z (zone_of no_cells no_writes no_adds)
  none_covered z = record {
    reads = λ x h. elim h [ inl e ↦ absurd (let a : false ≡ true = e in cc) | inr e ↦ absurd (let a : false ≡ true = e in cc) ];
    adds = λ x h. elim h [ inl e ↦ absurd (let a : false ≡ true = e in cc) | inr e ↦ absurd (let a : false ≡ true = e in cc) ];
  }

  clear_of_none : (z : Zone) → Clear (zone_of no_cells no_writes no_adds) z
  unfolding nowhere
  clear_of_none z = record { first = λ x h k. absurd ((none_covered nowhere).reads x h); second = λ x h k. absurd ((none_covered nowhere).adds x h) }

  -- a frame that goes clears its own cells
  cleared : (p : Path) (x : Cell) → is_some (clears p x) ≡ true → OwnedBelow p x.object
  cleared p x e = from x.object (owns p x.object) refl e
    where
      from : (o : Object) (b : Bool) → owns p o ≡ b → is_some (cond {A = Option (Option ℤ)} b (Some None) None) ≡ true → OwnedBelow p o
      from (Shared g) b h e = absurd (let f : b ≡ true = set b e in cc)
        where
          set : (b : Bool) → is_some (cond {A = Option (Option ℤ)} b (Some None) None) ≡ true → b ≡ true
          set true e = refl
          set false e = absurd (cc)
      from (Local owner n) true h e = subst (λ y. Under p y) (same_path_is p owner h) itself
      from (Local owner n) false h e = absurd (cc)

  owned_covered : (p : Path) (f : Frame) → fits p f (feet p) → Covers (zone (feet p)) (zone_of no_cells (clears p) no_adds)
  owned_covered p f fit = record {
    reads = λ x h. elim h [ inl e ↦ absurd (let a : false ≡ true = e in cc) | inr e ↦ (stays.owns p f (feet p) x fit (cleared p x e)).0 ];
    adds = λ x h. elim h [ inl e ↦ (stays.owns p f (feet p) x fit (cleared p x e)).1 | inr e ↦ absurd (let a : false ≡ true = e in cc) ];
  }

  -- a step keeps to the zone of its frame, and away from what is pending
  keeps_to : (p : Path) (c : Change) → Does prog s p c → Covers (zone (feet p)) (zone_at c)
  keeps_to p c (plain f e is go at) = (stays.keeps p f (feet p) s.memory e (footed.own p f is (alive_now s p f is go)) (going_now s p f go) at).0
  keeps_to p c (detach f r b n is go at) = none_covered (zone (feet p))
  keeps_to p c (reattach f r n is go at none role) = none_covered (zone (feet p))
  keeps_to p c (sync f r b rs is go at) = none_covered (zone (feet p))
  keeps_to p c (call f d g vs is go at) = none_covered (zone (feet p))
  keeps_to p c (ret f v k up g j d is go at none role here over waits) = owned_covered p f (footed.own p f is (alive_now s p f is go))
  keeps_to p c (end f v is go at none role here) = owned_covered p f (footed.own p f is (alive_now s p f is go))

  -- a frame with a child has no last step
  has_child : (p : Path) (f d : Frame) (k : ℕ) → s.frames p ≡ Some f → s.frames (k ∷ p) ≡ Some d → childless s p f.made ≡ true → ⊥
  has_child p f d k is there none =
      let (g, at, lt) = tree.has_parent k p d there in
      let same : g.made ≡ f.made = ap (λ y. y.made) (same_frame (s.frames p) g f at is) in
      let gone : is_none (s.frames (k ∷ p)) ≡ true = all_below_at f.made (λ j. is_none (s.frames (j ∷ p))) none k (omega arith) in
      cc

  keeps_off : (p : Path) (c : Change) (k : ℕ) (child : Frame) → s.frames (k ∷ p) ≡ Some child → Does prog s p c → (f : Frame) → s.frames p ≡ Some f → (q : ℕ) → Clear (zone_at c) (zone (pending p f q))
  keeps_off p c k child there (plain f e is go at) g is2 q =
      subst (λ (y : Frame). Clear (touched e) (zone (pending p y q))) (same_frame (s.frames p) f g is is2) ((stays.keeps p f (feet p) s.memory e (footed.own p f is (alive_now s p f is go)) (going_now s p f go) at).1 q)
  keeps_off p c k child there (detach f r b n is go at) g is2 q = clear_of_none _
  keeps_off p c k child there (reattach f r n is go at none role) g is2 q = clear_of_none _
  keeps_off p c k child there (sync f r b rs is go at) g is2 q = clear_of_none _
  keeps_off p c k child there (call f d h vs is go at) g is2 q = clear_of_none _
  keeps_off p c k child there (ret f v i up h j d is go at none role here over waits) g is2 q = absurd (has_child p f child k is there none)
  keeps_off p c k child there (end f v is go at none role here) g is2 q = absurd (has_child p f child k is there none)

  lives_up : (x y : Path) (g : Frame) → Under x y → s.frames y ≡ Some g → (f : Frame) × (s.frames x ≡ Some f)
  lives_up x y g itself is = (g, is)
  lives_up x y g (deeper k {y = z} u) is = let (h, at, lt) = tree.has_parent k z g is in lives_up x z h u at

  covers_down : (x y : Path) (g : Frame) → Under x y → s.frames y ≡ Some g → Covers (zone (feet x)) (zone (feet y))
  covers_down x y g itself is = covers_itself (zone (feet x))
  covers_down x y g (deeper k {y = z} u) is =
      let (h, at, lt) = tree.has_parent k z g is in
      covers_all (zone (feet x)) (zone (feet z)) (zone (feet (k ∷ z))) (covers_down x z h u at) (footed.nested k z g is)

  -- a step of a frame, and one of a frame below it
  clear_below : (p q : Path) (c d : Change) (k : ℕ) → Does prog s p c → Does prog s q d → Under (k ∷ p) q → Clear (zone_at c) (zone_at d)
  clear_below p q c d k dp dq u =
      let gp = goes dp in
      let gq = goes dq in
      let (child, there) = lives_up (k ∷ p) q gq.frame u gq.is in
      let (r, n, role) = going_child tree gp child k there in
      let waited = footed.waited k r n p gp.frame child gp.is there role (not_waiting tree gp gp.frame child k r n gp.is there role) (alive gp gp.frame gp.is) in
      clear_within _ _ _ _ (keeps_off p c k child there dp gp.frame gp.is r) (covers_itself _)
      (covers_all _ _ _ waited (covers_all _ _ _ (covers_down (k ∷ p) q gq.frame u gq.is) (keeps_to q d dq)))

  -- two steps of different frames touch different cells
  pub steps_apart : (p q : Path) (c d : Change) → p ≢ q → Does prog s p c → Does prog s q d → Apart c d
  steps_apart p q c d differ dp dq = apart_of_clear c d (from (split p q))
    where
      from : Split p q → Clear (zone_at c) (zone_at d)
      from (are_same e) = absurd (differ e)
      from (is_higher k u) = clear_below p q c d k dp dq u
      from (is_lower k u) = clear_back _ _ (clear_below q p d c k dq dp u)
      from (are_parted a i j e u v) =
          let gp = goes dp in
          let gq = goes dq in
          let (f, at) = lives_up (i ∷ a) p gp.frame u gp.is in
          let (g, at2) = lives_up (j ∷ a) q gq.frame v gq.is in
          clear_within _ _ _ _ (footed.siblings i j a f g e at at2)
          (covers_all _ _ _ (covers_down (i ∷ a) p gp.frame u gp.is) (keeps_to p c dp))
          (covers_all _ _ _ (covers_down (j ∷ a) q gq.frame v gq.is) (keeps_to q d dq))
