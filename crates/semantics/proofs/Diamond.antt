-- Steps of different frames commute.
use Rattle.std.proofs.Common.{◌≡◌, ℕ, suc, ◌≤◌, max, [], ◌∷◌, Option, Some, None, ◌≢◌, Bool, true, false, ◌⊎◌, inl, inr, refl, sym, ap, ◌∙◌, subst, arith, is_none, is_some, le_refl, ℤ, ◌+ℤ◌}
use Rattle.std.proofs.lemmas.Int.{ints, int_wrap-add_left}
use Rattle.std.specs.Int.{w64, int_wrap}
use Rattle.semantics.specs.Paths.{Path}
use Rattle.semantics.specs.Cells.{Cell}
use Rattle.semantics.specs.Arithmetic.{Trap, cell_sum}
use Rattle.semantics.specs.Frames.{Wait, Free, OnRegion, OnCall, Halted, Body, Frame}
use Rattle.semantics.specs.Effect.{Action, Plain, no_cells, no_adds, action_of}
use Rattle.semantics.specs.State.{State, Change, override, override_result, added, apply, wait_after, called, resumed}
use Rattle.semantics.specs.State.{may_go, childless, outside, outside_role, change_of}
use Rattle.semantics.specs.CoreSteps.{core_step}
use Rattle.semantics.specs.Tree.{Tree, MissesAt, is_left, is_unseen, is_added, Misses, Apart}
use Rattle.semantics.proofs.Actions.{reads_of, adds_of, action_kept}
use Rattle.semantics.proofs.Steps.{Does, plain, detach, reattach, sync, call, ret, end, change_is, does}
use Rattle.semantics.proofs.Places.{only_at, both_at, both_first, both_second, no_own_child, all_below_kept}
use Rattle.program.specs.linear.declared.form.RegisterId.{RegisterId}
use Rattle.program.specs.declared.function.Program.{Program}

-- what stands at a place x that a step of p changes, and what it becomes; at is all that the step changes
pub data Spot (s : State) (p : Path) (at : Path → Option (Option Frame)) (x : Path) (o : Option Frame) : Type 0 where
  is_moved : (f g : Frame) → x ≡ p → s.frames x ≡ Some f → o ≡ Some g → g.role ≡ f.role → f.made ≤ g.made →
      ((k : ℕ) (d : Option RegisterId) → g.waits ≡ OnCall k d → (h : Frame) × (at (k ∷ p) ≡ Some (Some h)) × (h.role ≡ Body)) → Spot s p at x o
  is_gone : (f : Frame) → x ≡ p → s.frames x ≡ Some f → o ≡ None → childless s p f.made ≡ true →
      (f.role ≡ Body → (k : ℕ) (y : Path) → p ≡ k ∷ y → (g : Frame) × (at y ≡ Some (Some g))) → Spot s p at x o
  is_fresh : (k : ℕ) (g h : Frame) → x ≡ k ∷ p → s.frames x ≡ None → o ≡ Some g → g.waits ≡ Free → at p ≡ Some (Some h) → h.made ≡ suc k →
      (g.role ≡ Body → (d : Option RegisterId) × (h.waits ≡ OnCall k d)) → Spot s p at x o
  is_above : (k : ℕ) (d : Option RegisterId) (f g : Frame) → p ≡ k ∷ x → s.frames x ≡ Some f → f.waits ≡ OnCall k d → o ≡ Some g → g.role ≡ f.role → g.made ≡ f.made → g.waits ≡ Free → at p ≡ Some None → Spot s p at x o

-- a frame that may do its next instruction
pub record Goes (s : State) (p : Path) : Type 0 where
  pub frame : Frame
  pub is : s.frames p ≡ Some frame
  pub may : may_go s p frame.made frame.waits ≡ true

standing : {s : State} {p : Path} (f : Frame) → s.frames p ≡ Some f → may_go s p f.made f.waits ≡ true → Goes s p
standing f is go = record { frame = f; is = is; may = go }

pub goes : {prog : Program} {s : State} {p : Path} {c : Change} → Does prog s p c → Goes s p
goes (plain f e is go at) = standing f is go
goes (detach f r b n is go at) = standing f is go
goes (reattach f r n is go at none role) = standing f is go
goes (sync f r b rs is go at) = standing f is go
goes (call f d g vs is go at) = standing f is go
goes (ret f v k above g j d is go at none role here over waits) = standing f is go
goes (end f v is go at none role here) = record { frame = f; is = is; may = go }

pub same_frame : (o : Option Frame) (f g : Frame) → o ≡ Some f → o ≡ Some g → f ≡ g
same_frame o f g e h = cc

-- the name of the next child is free
pub next_free : {s : State} → Tree s → (p : Path) (f : Frame) → s.frames p ≡ Some f → s.frames (f.made ∷ p) ≡ None
next_free {s} tree p f is = from (s.frames (f.made ∷ p)) refl
  where
    from : (o : Option Frame) → s.frames (f.made ∷ p) ≡ o → s.frames (f.made ∷ p) ≡ None
    from None e = e
    from (Some c) e =
        let (g, at, lt) = tree.has_parent f.made p c e in
        let same : g ≡ f = same_frame (s.frames p) g f at is in
        let made : g.made ≡ f.made = ap (λ x. x.made) same in
        absurd (omega arith)

itself_moved : {s : State} {p : Path} (at : Path → Option (Option Frame)) (x : Path) (o : Option Frame) (f g : Frame) → s.frames p ≡ Some f → g.role ≡ f.role → f.made ≤ g.made →
    ((k : ℕ) (d : Option RegisterId) → g.waits ≡ OnCall k d → (h : Frame) × (at (k ∷ p) ≡ Some (Some h)) × (h.role ≡ Body)) → (x ≡ p) × (o ≡ Some g) → Spot s p at x o
itself_moved {s} at x o f g is role made calls h = is_moved f g h.0 (subst (λ y. s.frames y ≡ Some f) (sym h.0) is) h.1 role made calls

itself_gone : {s : State} {p : Path} (at : Path → Option (Option Frame)) (x : Path) (o : Option Frame) (f : Frame) → s.frames p ≡ Some f → childless s p f.made ≡ true →
    (f.role ≡ Body → (k : ℕ) (y : Path) → p ≡ k ∷ y → (g : Frame) × (at y ≡ Some (Some g))) → (x ≡ p) × (o ≡ None) → Spot s p at x o
itself_gone {s} at x o f is none hands h = is_gone f h.0 (subst (λ y. s.frames y ≡ Some f) (sym h.0) is) h.1 none hands

child_fresh : {s : State} → Tree s → {p : Path} (at : Path → Option (Option Frame)) (x : Path) (o : Option Frame) (f g h : Frame) → s.frames p ≡ Some f → g.waits ≡ Free → at p ≡ Some (Some h) → h.made ≡ suc f.made →
    (g.role ≡ Body → (d : Option RegisterId) × (h.waits ≡ OnCall f.made d)) → (x ≡ f.made ∷ p) × (o ≡ Some g) → Spot s p at x o
child_fresh {s} tree {p} at x o f g h is free up made calls e = is_fresh f.made g h e.0 (subst (λ y. s.frames y ≡ None) (sym e.0) (next_free tree p f is)) e.1 free up made calls

pub no_trap_after : (t : Option Trap) → wait_after t ≢ Halted → t ≡ None
no_trap_after (Some t) h = absurd (h refl)
no_trap_after None h = refl

pub no_call_after : (t : Option Trap) (k : ℕ) (d : Option RegisterId) → wait_after t ≡ OnCall k d → ⊥
no_call_after (Some t) k d e = cc
no_call_after None k d e = cc

child_number : (k j : ℕ) (d e : Option RegisterId) → OnCall j d ≡ OnCall k e → j ≡ k
child_number k j d e h = cc

same_above : (k m : ℕ) (p x y : Path) → p ≡ k ∷ x → p ≡ m ∷ y → x ≡ y
same_above k m p x y e h = cc

pub spot : {prog : Program} {s : State} {p : Path} {c : Change} → Tree s → Does prog s p c → (x : Path) (o : Option Frame) → c.frames x ≡ Some o → Spot s p c.frames x o
spot {p = p} {c = c} tree (plain f e is go at) x o h = itself_moved c.frames x o f _ is refl (le_refl f.made) (λ k d w. absurd (no_call_after e.trap k d w)) (only_at p x _ o h)
spot {p = p} {c = c} tree (detach f r b n is go at) x o h =
    elim (both_at p (f.made ∷ p) x _ _ o h) [
      | inl a ↦ itself_moved c.frames x o f _ is refl (omega arith) (λ k d e. absurd (cc)) a
      | inr a ↦ child_fresh tree c.frames x o f _ _ is refl (both_first p (f.made ∷ p) _ _) refl (λ e. absurd (cc)) a
    ]
spot {p = p} {c = c} tree (reattach f r n is go at none role) x o h = itself_gone c.frames x o f is none (λ e k y q. absurd (cc)) (only_at p x _ o h)
spot {p = p} {c = c} tree (sync f r b rs is go at) x o h = itself_moved c.frames x o f _ is refl (le_refl f.made) (λ k d e. absurd (cc)) (only_at p x _ o h)
spot {p = p} {c = c} tree (call f d g vs is go at) x o h =
    elim (both_at p (f.made ∷ p) x _ _ o h) [
      | inl b ↦ itself_moved c.frames x o f _ is refl (omega arith) (λ j e w. (called p f g vs, subst (λ (j : ℕ). c.frames (j ∷ p) ≡ Some (Some (called p f g vs))) (child_number j f.made d e w) (both_second p (f.made ∷ p) _ _ (λ same. no_own_child f.made p (sym same))), refl)) b
      | inr a ↦ child_fresh tree c.frames x o f _ _ is refl (both_first p (f.made ∷ p) _ _) refl (λ e. (d, refl)) a
    ]
spot {s = s} {p = p} {c = c} tree (ret f v k above g j d is go at none role here over_is waits) x o h =
    elim (both_at p above x _ _ o h) [
      | inl b ↦ itself_gone c.frames x o f is none (λ e m y q. (resumed g d v, subst (λ (z : Path). c.frames z ≡ Some (Some (resumed g d v))) (same_above k m p above y here q) (both_second p above _ _ (λ same. no_own_child k above (sym here ∙ same))))) b
      | inr a ↦
          let (g2, d2, over2, waits2) = tree.awaited k above f (subst (λ y. s.frames y ≡ Some f) here is) role in
          let same : g2 ≡ g = same_frame (s.frames above) g2 g over2 over_is in
          is_above k d2 g _ (here ∙ ap (λ y. k ∷ y) (sym a.0)) (subst (λ y. s.frames y ≡ Some g) (sym a.0) over_is) (subst (λ (y : Frame). y.waits ≡ OnCall k d2) same waits2) a.1 refl refl refl
          (both_first p above _ _)
    ]
spot {p = p} {c = c} tree (end f v is go at none role here) x o h = itself_gone c.frames x o f is none (λ e k y q. absurd (cc)) (only_at p x _ o h)

-- where a spot is, for telling two of them apart
pub data Near (s : State) (p x : Path) : Type 0 where
  is_here : x ≡ p → Near s p x
  is_new : (k : ℕ) → x ≡ k ∷ p → s.frames x ≡ None → Near s p x
  is_caller : (k : ℕ) (d : Option RegisterId) (f : Frame) → p ≡ k ∷ x → s.frames x ≡ Some f → f.waits ≡ OnCall k d → Near s p x

near : {s : State} {p x : Path} {at : Path → Option (Option Frame)} {o : Option Frame} → Spot s p at x o → Near s p x
near (is_moved f g here is new role made calls) = is_here here
near (is_gone f here is new none hands) = is_here here
near (is_fresh k g h here is new free up made calls) = is_new k here is
near (is_above k d f g here is waits new role made free gone) = is_caller k d f here is waits

-- a frame that waits for a call does not go
pub stands : {s : State} {p : Path} → Goes s p → (f : Frame) (k : ℕ) (d : Option RegisterId) → s.frames p ≡ Some f → f.waits ≡ OnCall k d → ⊥
stands {s} {p} goes f k d is waits =
    let same : goes.frame ≡ f = same_frame (s.frames p) goes.frame f goes.is is in
    let w : goes.frame.waits ≡ OnCall k d = ap (λ x. x.waits) same ∙ waits in
    let m : may_go s p goes.frame.made (OnCall k d) ≡ true = subst (λ x. may_go s p goes.frame.made x ≡ true) w goes.may in
    cc

-- the places that two steps change are different ones
pub disjoint : {s : State} {p q x : Path} → Goes s p → Goes s q → p ≢ q → Near s p x → Near s q x → ⊥
disjoint {s} gp gq apart (is_here a) (is_here b) = apart (sym a ∙ b)
disjoint {s} gp gq apart (is_here a) (is_new k b none) = let e : s.frames _ ≡ Some gp.frame = subst (λ y. s.frames y ≡ Some gp.frame) (sym a) gp.is in cc
disjoint {s} gp gq apart (is_here a) (is_caller k d f b is waits) = stands gp f k d (subst (λ y. s.frames y ≡ Some f) a is) waits
disjoint {s} gp gq apart (is_new k a none) (is_here b) = let e : s.frames _ ≡ Some gq.frame = subst (λ y. s.frames y ≡ Some gq.frame) (sym b) gq.is in cc
disjoint {s} gp gq apart (is_new k a none) (is_new j b none2) = apart (cc)
disjoint {s} gp gq apart (is_new k a none) (is_caller j d f b is waits) = cc
disjoint {s} gp gq apart (is_caller k d f a is waits) (is_here b) = stands gq f k d (subst (λ y. s.frames y ≡ Some f) b is) waits
disjoint {s} gp gq apart (is_caller k d f a is waits) (is_new j b none) = cc
disjoint {s} gp gq apart (is_caller k d f a is waits) (is_caller j e g b is2 waits2) = apart (cc)

not_some : {A : Type 0} (o : Option A) → ((a : A) → o ≡ Some a → ⊥) → o ≡ None
not_some None h = refl
not_some (Some a) h = absurd (h a refl)

at_root : {prog : Program} {s : State} {p : Path} {c : Change} → Does prog s p c → (c.result ≡ None) ⊎ (p ≡ [])
at_root (plain f e is go at) = inl refl
at_root (detach f r b n is go at) = inl refl
at_root (reattach f r n is go at none role) = inl refl
at_root (sync f r b rs is go at) = inl refl
at_root (call f d g vs is go at) = inl refl
at_root (ret f v k above g j d is go at none role here over waits) = inl refl
at_root (end f v is go at none role here) = inr here

-- the frame at x after a step that leaves it
pub left_alone : (c : Change) (s : State) (x : Path) → c.frames x ≡ None → (apply c s).frames x ≡ s.frames x
left_alone c s x e = rw e

module _ {prog : Program} {s : State} {p q : Path} {c : Change} (tree : Tree s) (apart : p ≢ q) (dp : Does prog s p c) (gq : Goes s q) where
  -- where q's step changes something, p's does not
  pub untouched : (x : Path) → Near s q x → c.frames x ≡ None
  untouched x n = not_some (c.frames x) (λ o e. disjoint (goes dp) gq apart (near (spot tree dp x o e)) n)

  -- what q looks at below itself
  below_kept : (k : ℕ) (test : Option Frame → Bool) → ((o : Option Frame) → Spot s p c.frames (k ∷ q) o → test (s.frames (k ∷ q)) ≡ true → test o ≡ true) → test (s.frames (k ∷ q)) ≡ true → test ((apply c s).frames (k ∷ q)) ≡ true
  below_kept k test kept h = from (c.frames (k ∷ q)) refl
    where
      from : (o : Option (Option Frame)) → c.frames (k ∷ q) ≡ o → test (override o (s.frames (k ∷ q))) ≡ true
      from None e = h
      from (Some o) e = kept o (spot tree dp (k ∷ q) o e) h

  role_kept : (r : ℕ) (x : Path) (f g : Frame) → s.frames x ≡ Some f → g.role ≡ f.role → outside r (s.frames x) ≡ true → outside_role r g.role ≡ true
  role_kept r x f g is role h = let e : outside r (Some f) ≡ true = subst (λ o. outside r o ≡ true) is h in rw role e

  outside_kept : (r k : ℕ) (o : Option Frame) → Spot s p c.frames (k ∷ q) o → outside r (s.frames (k ∷ q)) ≡ true → outside r o ≡ true
  outside_kept r k o (is_moved f g here is new role made calls) h = rw new (role_kept r _ f g is role h)
  outside_kept r k o (is_gone f here is new none hands) h = rw new
  outside_kept r k o (is_fresh j g u here is new free up made calls) h = absurd (apart (cc))
  outside_kept r k o (is_above j e f g here is waits new role made free gone) h = rw new (role_kept r _ f g is role h)

  none_kept : (k : ℕ) (o : Option Frame) → Spot s p c.frames (k ∷ q) o → is_none (s.frames (k ∷ q)) ≡ true → is_none o ≡ true
  none_kept k o (is_moved f g here is new role made calls) h = absurd (let e : is_none (Some f) ≡ true = subst (λ o. is_none o ≡ true) is h in cc)
  none_kept k o (is_gone f here is new none hands) h = rw new
  none_kept k o (is_fresh j g u here is new free up made calls) h = absurd (apart (cc))
  none_kept k o (is_above j e f g here is waits new role made free gone) h = absurd (let e : is_none (Some f) ≡ true = subst (λ o. is_none o ≡ true) is h in cc)

  may_kept : (made : ℕ) (w : Wait) → may_go s q made w ≡ true → may_go (apply c s) q made w ≡ true
  may_kept made Free h = refl
  may_kept made (OnRegion r) h = all_below_kept made _ _ (λ k lt. below_kept k (outside r) (outside_kept r k)) h
  may_kept made (OnCall k e) h = absurd (cc)
  may_kept made Halted h = absurd (cc)

  childless_kept : (made : ℕ) → childless s q made ≡ true → childless (apply c s) q made ≡ true
  childless_kept made h = all_below_kept made _ _ (λ k lt. below_kept k is_none (none_kept k)) h

  pub own_kept : (f : Frame) → s.frames q ≡ Some f → (apply c s).frames q ≡ Some f
  own_kept f is = left_alone c s q (untouched q (is_here refl)) ∙ is

  -- the other frame still may do its next instruction
  pub goes_stays : Goes (apply c s) q
  goes_stays = record { frame = gq.frame; is = own_kept gq.frame gq.is; may = may_kept gq.frame.made gq.frame.waits gq.may }

module _ {prog : Program} {s : State} {p q : Path} {c d : Change} (tree : Tree s) (apart : p ≢ q) (dp : Does prog s p c) (dq : Does prog s q d) where
  pub frames_apart : (x : Path) → (c.frames x ≡ None) ⊎ (d.frames x ≡ None)
  frames_apart x = from (c.frames x) refl
    where
      from : (o : Option (Option Frame)) → c.frames x ≡ o → (c.frames x ≡ None) ⊎ (d.frames x ≡ None)
      from None e = inl e
      from (Some o) e = inr (not_some (d.frames x) (λ u h. disjoint (goes dp) (goes dq) apart (near (spot tree dp x o e)) (near (spot tree dq x u h))))

  pub results_apart : (c.result ≡ None) ⊎ (d.result ≡ None)
  results_apart = elim (at_root dp) [ inl e ↦ inl e | inr e ↦ elim (at_root dq) [ inl h ↦ inr h | inr h ↦ absurd (apart (e ∙ sym h)) ] ]

unread : (c d : Change) (s : State) → Misses c d → (x : Cell) → d.reads x ≡ true → (apply c s).memory x ≡ s.memory x
unread c d s misses x r = from (misses x)
  where
    from : MissesAt c d x → (apply c s).memory x ≡ s.memory x
    from (is_left w a) = rw (w, a)
    from (is_unseen q w a) = absurd (cc)
    from (is_added w v q) = absurd (cc)

added_defined : (a m : Option ℤ) → is_none (added a m) ≡ is_none m
added_defined None m = refl
added_defined (Some z) None = refl
added_defined (Some z) (Some m) = refl

unemptied : (c d : Change) (s : State) → Misses c d → (x : Cell) → is_some (d.adds x) ≡ true → is_none ((apply c s).memory x) ≡ is_none (s.memory x)
unemptied c d s misses x r = from (misses x)
  where
    from : MissesAt c d x → is_none ((apply c s).memory x) ≡ is_none (s.memory x)
    from (is_left w a) = rw (w, a)
    from (is_unseen q w a) = absurd (let e : is_some (d.adds x) ≡ false = rw a in cc)
    from (is_added w v q) = rw w (added_defined (c.adds x) (s.memory x))

none_there : (x : Cell) → no_cells x ≡ true → ⊥
none_there x e = let f : false ≡ true = e in cc

none_added : (x : Cell) → is_some (no_adds x) ≡ true → ⊥
none_added x e = let f : false ≡ true = e in cc

-- the other frame's action stays the same
pub same_action : (prog : Program) (s : State) (q : Path) (f : Frame) (c d : Change) (a : Action) → Misses c d → action_of prog q f s.memory ≡ a → ((x : Cell) → reads_of a x ≡ true → d.reads x ≡ true) → ((x : Cell) → is_some (adds_of a x) ≡ true → is_some (d.adds x) ≡ true) →
    action_of prog q f (apply c s).memory ≡ a
same_action prog s q f c d a misses at reads adds =
    action_kept prog q f s.memory (apply c s).memory (λ x r. unread c d s misses x (reads x (subst (λ (b : Action). reads_of b x ≡ true) at r))) (λ x r. unemptied c d s misses x (adds x (subst (λ (b : Action). is_some (adds_of b x) ≡ true) at r))) ∙ at

-- an action on the tree looks at no cell
still : (prog : Program) (s : State) (q : Path) (f : Frame) (c d : Change) (a : Action) → Misses c d → action_of prog q f s.memory ≡ a → reads_of a ≡ no_cells → adds_of a ≡ no_adds → action_of prog q f (apply c s).memory ≡ a
still prog s q f c d a misses at reads adds =
    same_action prog s q f c d a misses at (λ x r. absurd (none_there x (subst (λ (g : Cell → Bool). g x ≡ true) reads r))) (λ x r. absurd (none_added x (subst (λ (g : Cell → Option ℤ). is_some (g x) ≡ true) adds r)))

-- the other frame's step stays possible, and stays the same
pub stays : {prog : Program} {s : State} {p q : Path} {c d : Change} → Tree s → p ≢ q → Does prog s p c → Misses c d → Does prog s q d → Does prog (apply c s) q d
stays {prog = prog} {s = s} {q = q} {c = c} {d = d} tree apart dp misses (plain f e is go at) =
    let gq = standing f is go in
    plain f e (own_kept tree apart dp gq f is) (may_kept tree apart dp gq f.made f.waits go) (same_action prog s q f c d (Plain e) misses at (λ x r. r) (λ x r. r))
stays {prog = prog} {s = s} {q = q} {c = c} {d = d} tree apart dp misses (detach f r b n is go at) =
    let gq = standing f is go in
    detach f r b n (own_kept tree apart dp gq f is) (may_kept tree apart dp gq f.made f.waits go) (still prog s q f c d _ misses at refl refl)
stays {prog = prog} {s = s} {q = q} {c = c} {d = d} tree apart dp misses (reattach f r n is go at none role) =
    let gq = standing f is go in
    reattach f r n (own_kept tree apart dp gq f is) (may_kept tree apart dp gq f.made f.waits go) (still prog s q f c d _ misses at refl refl) (childless_kept tree apart dp gq f.made none) role
stays {prog = prog} {s = s} {q = q} {c = c} {d = d} tree apart dp misses (sync f r b rs is go at) =
    let gq = standing f is go in
    sync f r b rs (own_kept tree apart dp gq f is) (may_kept tree apart dp gq f.made f.waits go) (still prog s q f c d _ misses at refl refl)
stays {prog = prog} {s = s} {q = q} {c = c} {d = d} tree apart dp misses (call f e g vs is go at) =
    let gq = standing f is go in
    call f e g vs (own_kept tree apart dp gq f is) (may_kept tree apart dp gq f.made f.waits go) (still prog s q f c d _ misses at refl refl)
stays {prog = prog} {s = s} {q = q} {c = c} {d = d} tree apart dp misses (ret f v k above g j e is go at none role here over waits) =
    let gq = standing f is go in
    let (g2, d2, over2, waits2) = tree.awaited k above f (subst (λ y. s.frames y ≡ Some f) here is) role in
    ret f v k above g j e (own_kept tree apart dp gq f is) (may_kept tree apart dp gq f.made f.waits go) (still prog s q f c d _ misses at refl refl) (childless_kept tree apart dp gq f.made none) role here
    (left_alone c s above (untouched tree apart dp gq above (is_caller k d2 g2 here over2 waits2)) ∙ over) waits
stays {prog = prog} {s = s} {q = q} {c = c} {d = d} tree apart dp misses (end f v is go at none role here) =
    let gq = standing f is go in
    end f v (own_kept tree apart dp gq f is) (may_kept tree apart dp gq f.made f.waits go) (still prog s q f c d _ misses at refl refl) (childless_kept tree apart dp gq f.made none) role here

-- two changes at different places commute
override_apart : {A : Type 0} (a b : Option A) (x : A) → (a ≡ None) ⊎ (b ≡ None) → override b (override a x) ≡ override a (override b x)
override_apart None None x h = refl
override_apart None (Some v) x h = refl
override_apart (Some u) None x h = refl
override_apart (Some u) (Some v) x (inl e) = absurd (cc)
override_apart (Some u) (Some v) x (inr e) = absurd (cc)

override_result_apart : (a b x : Option ℤ) → (a ≡ None) ⊎ (b ≡ None) → override_result b (override_result a x) ≡ override_result a (override_result b x)
override_result_apart None None x h = refl
override_result_apart None (Some v) x h = refl
override_result_apart (Some u) None x h = refl
override_result_apart (Some u) (Some v) x (inl e) = absurd (cc)
override_result_apart (Some u) (Some v) x (inr e) = absurd (cc)

-- two numbers added to a cell commute
swapped : (y z m : ℤ) → (m +ℤ y) +ℤ z ≡ (m +ℤ z) +ℤ y
swapped y z m = omega (arith, ints)

sums_commute : (y z m : ℤ) → cell_sum (cell_sum m y) z ≡ cell_sum (cell_sum m z) y
sums_commute y z m = int_wrap-add_left w64 (m +ℤ y) z ∙ ap (λ n. int_wrap w64 n) (swapped y z m) ∙ sym (int_wrap-add_left w64 (m +ℤ z) y)

added_twice : (a b m : Option ℤ) → added b (added a m) ≡ added a (added b m)
added_twice None b m = refl
added_twice (Some y) None m = refl
added_twice (Some y) (Some z) None = refl
added_twice (Some y) (Some z) (Some m) = ap Some (sums_commute y z m)

cell_commutes : (c d : Change) (x : Cell) (m : Option ℤ) → MissesAt c d x → added (d.adds x) (override (d.writes x) (added (c.adds x) (override (c.writes x) m))) ≡ added (c.adds x) (override (c.writes x) (added (d.adds x) (override (d.writes x) m)))
cell_commutes c d x m (is_left w a) = rw (w, a) refl
cell_commutes c d x m (is_unseen q w a) = rw (w, a) refl
cell_commutes c d x m (is_added w v q) = rw (w, v) (added_twice (c.adds x) (d.adds x) m)

deeper_twice : (a b c : ℕ) → max (max a b) c ≡ max (max a c) b
deeper_twice a b c = omega arith

pub apply_commutes : (c d : Change) (s : State) → ((x : Path) → (c.frames x ≡ None) ⊎ (d.frames x ≡ None)) → Misses c d → ((c.result ≡ None) ⊎ (d.result ≡ None)) → apply d (apply c s) ≡ apply c (apply d s)
apply_commutes c d s frames misses results =
    λ i. record {
      frames = λ x. override_apart (c.frames x) (d.frames x) (s.frames x) (frames x) i;
      memory = λ x. cell_commutes c d x (s.memory x) (misses x) i;
      done = suc (suc s.done);
      peak = deeper_twice s.peak c.depth d.depth i;
      result = override_result_apart c.result d.result s.result results i;
    }

step_of : (prog : Program) (p : Path) (s : State) (c : Change) → Does prog s p c → core_step prog p s ≡ Some (apply c s)
step_of prog p s c dp = rw (change_is prog s p c dp)

-- steps of different frames that touch different cells commute
pub diamond : (prog : Program) (s : State) (p q : Path) (c d : Change) → Tree s → p ≢ q → change_of prog s p ≡ Some c → change_of prog s q ≡ Some d → Apart c d →
    (v : State) × (core_step prog q (apply c s) ≡ Some v) × (core_step prog p (apply d s) ≡ Some v)
diamond prog s p q c d tree apart ep eq (misses, missed) =
    let dp = does prog s p c ep in
    let dq = does prog s q d eq in (
      apply d (apply c s),
      step_of prog q (apply c s) d (stays tree apart dp misses dq),
      step_of prog p (apply d s) c (stays tree (λ e. apart (sym e)) dq missed dp) ∙ ap Some (sym (apply_commutes c d s (frames_apart tree apart dp dq) misses (results_apart tree apart dp dq))),
    )
