-- The serial meaning is a run of the core.
use Rattle.std.proofs.Common.{◌≡◌, ℕ, zero, suc, ◌+◌, ◌≤◌, max, List, [], ◌∷◌, ◌++◌, length, length-append, Option, Some, None, ◌≢◌, Bool, true, inl, inr, refl, sym, ap, ◌∙◌, subst, arith, ℤ}
use Rattle.semantics.specs.Paths.{Path}
use Rattle.semantics.specs.Cells.{Memory}
use Rattle.semantics.specs.Arithmetic.{Trap}
use Rattle.semantics.specs.Frames.{Value, Registers, Wait, Free, OnRegion, OnCall, Halted, Child, Body, Frame}
use Rattle.semantics.specs.Effect.{Effect, Action, Plain, Detach, Reattach, Sync, Call, Return, action_of}
use Rattle.semantics.specs.State.{State, Change, apply, all_below, may_go, childless, went, detached, continued, synced}
use Rattle.semantics.specs.State.{called, waiting, resumed, plain_change, detach_change, reattach_change, sync_change}
use Rattle.semantics.specs.State.{call_change, return_change, only, both}
use Rattle.semantics.specs.CoreSteps.{core_step}
use Rattle.semantics.specs.Tree.{Tree}
use Rattle.semantics.specs.SerialMeaning.{Ending, Left, Gave, Outcome, cleared, counted, last, after_effect, after_left, after_child, after_gave, after_call, by_action, meaning}
use Rattle.semantics.proofs.Confluence.{Run}
use Rattle.semantics.proofs.Actions.{return_is_body, reattach_is_child}
use Rattle.semantics.proofs.Places.{same_path_tells, no_own_child, only_here, both_first, both_second, only_off, both_off}
use Rattle.semantics.proofs.Steps.{Does, plain, detach, reattach, sync, call, ret, change_is}
use Rattle.semantics.proofs.Diamond.{left_alone}
use Rattle.semantics.proofs.TreeKept.{step_keeps_tree}
use Rattle.semantics.proofs.Deep.{Deep, deep_kept}
use Rattle.semantics.proofs.Outcomes.{counted_is, joined_is}
use Rattle.program.specs.linear.declared.form.RegisterId.{RegisterId}
use Rattle.program.specs.declared.function.Program.{Program}

-- a frame that waits for no call
pub data Awake : Wait → Type 0 where
  free : Awake Free
  on_region : (r : ℕ) → Awake (OnRegion r)

-- the frame p of s: its children have gone
pub record Stands (s : State) (p : Path) (f : Frame) : Type 0 where
  pub is : s.frames p ≡ Some f
  pub awake : Awake f.waits
  pub bare : (k : ℕ) → s.frames (k ∷ p) ≡ None
  pub tree : Tree s
  pub deep : Deep s

-- where the frame does its last instruction
pub data Ends (prog : Program) (p : Path) (f : Frame) (m : Memory) : Ending → Type 0 where
  leaves_now : (r n : ℕ) → action_of prog p f m ≡ Reattach r → f.role ≡ Child r n → Ends prog p f m Left
  gives_now : (v : Option ℤ) → action_of prog p f m ≡ Return v → f.role ≡ Body → Ends prog p f m (Gave v)

-- what the last instruction leaves of memory
abbrev pub at_end : Path → Ending → Memory → Memory
at_end p Left m = m
at_end p (Gave v) m = cleared p m

pub record Arrives (prog : Program) (s : State) (p : Path) (f : Frame) (o : Outcome) : Type 0 where
  pub labels : List Path
  pub state : State
  pub last : Frame
  pub run : Run (λ q u. core_step prog q u) labels s state
  pub count : length labels + 1 ≡ o.count
  pub stands : Stands state p last
  pub role : last.role ≡ f.role
  pub others : (x : Path) → p ≢ x → state.frames x ≡ s.frames x
  pub memory : at_end p o.ending state.memory ≡ o.memory
  pub peak : state.peak ≡ max s.peak (length p + o.depth)
  pub result : state.result ≡ s.result
  pub ends : Ends prog p last state.memory o.ending
  pub some_depth : 1 ≤ o.depth

all_true : (n : ℕ) (f : ℕ → Bool) → ((k : ℕ) → f k ≡ true) → all_below n f ≡ true
all_true zero f h = refl
all_true (suc n) f h = rw (h n) (all_true n f h)

pub may : {s : State} {p : Path} {f : Frame} → Stands s p f → may_go s p f.made f.waits ≡ true
may {s} {p} {f} st = from f.waits st.awake
  where
    from : (w : Wait) → Awake w → may_go s p f.made w ≡ true
    from Free free = refl
    from (OnRegion r) (on_region q) = all_true f.made _ (λ k. rw (st.bare k))
    from (OnCall k d) a = elim a [ ]
    from Halted a = elim a [ ]

pub no_children : {s : State} {p : Path} {f : Frame} → Stands s p f → childless s p f.made ≡ true
no_children {s} {p} {f} st = all_true f.made _ (λ k. rw (st.bare k))

pub step_by : (prog : Program) (s : State) (p : Path) (c : Change) → Does prog s p c → core_step prog p s ≡ Some (apply c s)
step_by prog s p c dp = rw (change_is prog s p c dp)

module _ (prog : Program) where
  pub run_on : (ps qs : List Path) (s t u : State) → Run (λ q x. core_step prog q x) ps s t → Run (λ q x. core_step prog q x) qs t u → Run (λ q x. core_step prog q x) (ps ++ qs) s u
  run_on [] qs s t u e r = subst (λ x. Run (λ q y. core_step prog q y) qs x u) (sym e) r
  run_on (p ∷ ps) qs s t u (mid, e, rest) r = (mid, e, run_on ps qs mid t u rest r)

  own_apart : (k : ℕ) (p : Path) → p ≢ k ∷ p
  own_apart k p e = no_own_child k p (sym e)

  -- a step of the frame alone, and then the rest
  stands_on : (s : State) (p : Path) (f g : Frame) (c : Change) → Stands s p f → Does prog s p c → c.frames ≡ only p (Some g) → Awake g.waits → Stands (apply c s) p g
  stands_on s p f g c st dp at awake =
      let mine : c.frames p ≡ Some (Some g) = ap (λ m. m p) at ∙ only_here p (Some g) in
      record {
        is = rw mine;
        awake = awake;
        bare = λ k. left_alone c s (k ∷ p) (ap (λ m. m (k ∷ p)) at ∙ only_off p (k ∷ p) (Some g) (own_apart k p)) ∙ st.bare k;
        tree = step_keeps_tree st.tree dp;
        deep = deep_kept s p c st.tree dp st.deep;
      }

  go_on : (s : State) (p : Path) (f g : Frame) (c : Change) (o : Outcome) → Does prog s p c → c.frames ≡ only p (Some g) → g.role ≡ f.role → c.depth ≡ 0 → (apply c s).result ≡ s.result → Arrives prog (apply c s) p g o → Arrives prog s p f (record o { count = suc o.count })
  go_on s p f g c o dp at role flat quiet a =
      record {
        labels = p ∷ a.labels;
        state = a.state;
        last = a.last;
        run = (apply c s, step_by prog s p c dp, a.run);
        count = let n : length a.labels + 1 ≡ o.count = a.count in omega arith;
        stands = a.stands;
        role = a.role ∙ role;
        others = λ x apart. a.others x apart ∙ left_alone c s x (ap (λ m. m x) at ∙ only_off p x (Some g) apart);
        memory = a.memory;
        peak = let high : a.state.peak ≡ max (max s.peak c.depth) (length p + o.depth) = a.peak in omega arith;
        result = a.result ∙ quiet;
        ends = a.ends;
        some_depth = a.some_depth;
      }

  -- a child is made, runs to its end and goes, and then the rest
  module _ (s : State) (p : Path) (f f1 f2 d : Frame) (c1 : Change) (st : Stands s p f) (dp1 : Does prog s p c1) (at1 : c1.frames ≡ both p (Some f1) (f.made ∷ p) (Some d)) (deep1 : c1.depth ≡ length p + 2) (memory1 : (apply c1 s).memory ≡ s.memory) (result1 : (apply c1 s).result ≡ s.result) (free_child : Awake d.waits) where
    child_path : Path
    child_path = f.made ∷ p

    -- the child stands
    child_stands : Stands (apply c1 s) (f.made ∷ p) d
    child_stands =
        let child : c1.frames (f.made ∷ p) ≡ Some (Some d) = ap (λ m. m (f.made ∷ p)) at1 ∙ both_second p (f.made ∷ p) _ _ (own_apart f.made p) in
        record {
          is = rw child;
          awake = free_child;
          bare = λ j. left_alone c1 s (j ∷ f.made ∷ p) (ap (λ m. m (j ∷ f.made ∷ p)) at1 ∙ both_off p (f.made ∷ p) (j ∷ f.made ∷ p) _ _ (two_apart j) (own_apart j (f.made ∷ p))) ∙ none_below j (s.frames (j ∷ f.made ∷ p)) refl;
          tree = step_keeps_tree st.tree dp1;
          deep = deep_kept s p c1 st.tree dp1 st.deep;
        }
      where
        two_apart : (j : ℕ) → p ≢ j ∷ f.made ∷ p
        two_apart j e = let l : length p ≡ length (j ∷ f.made ∷ p) = ap length e in omega arith

        none_below : (j : ℕ) (o : Option Frame) → s.frames (j ∷ f.made ∷ p) ≡ o → s.frames (j ∷ f.made ∷ p) ≡ None
        none_below j None e = e
        none_below j (Some g) e = let (h, at, lt) = st.tree.has_parent j (f.made ∷ p) g e in let none = st.bare f.made in absurd (cc)

    module _ (o1 o3 : Outcome) (a1 : Arrives prog (apply c1 s) (f.made ∷ p) d o1) (c2 : Change) (dp2 : Does prog a1.state (f.made ∷ p) c2)
        (top2 : (apply c2 a1.state).frames p ≡ Some f2) (gone2 : (apply c2 a1.state).frames (f.made ∷ p) ≡ None) (others2 : (x : Path) → p ≢ x → f.made ∷ p ≢ x → c2.frames x ≡ None)
        (memory2 : (apply c2 a1.state).memory ≡ o1.memory) (flat2 : c2.depth ≡ 0) (result2 : (apply c2 a1.state).result ≡ a1.state.result) (awake2 : Awake f2.waits) (role2 : f2.role ≡ f.role)
        (rest : Stands (apply c2 a1.state) p f2 → (apply c2 a1.state).memory ≡ o1.memory → Arrives prog (apply c2 a1.state) p f2 o3) where
      same_elsewhere : (x : Path) → p ≢ x → f.made ∷ p ≢ x → (apply c2 a1.state).frames x ≡ s.frames x
      same_elsewhere x apart apart2 =
          left_alone c2 a1.state x (others2 x apart apart2) ∙ a1.others x apart2 ∙ left_alone c1 s x (ap (λ m. m x) at1 ∙ both_off p (f.made ∷ p) x _ _ apart apart2)

      children_gone : (j : ℕ) → (apply c2 a1.state).frames (j ∷ p) ≡ None
      children_gone j =
          elim (same_path_tells (f.made ∷ p) (j ∷ p)) [
            | inl e ↦ subst (λ x. (apply c2 a1.state).frames x ≡ None) e.1 gone2
            | inr e ↦ same_elsewhere (j ∷ p) (own_apart j p) e.1 ∙ st.bare j
          ]

      parent_stands : Stands (apply c2 a1.state) p f2
      parent_stands = record { is = top2; awake = awake2; bare = children_gone; tree = step_keeps_tree a1.stands.tree dp2; deep = deep_kept a1.state (f.made ∷ p) c2 a1.stands.tree dp2 a1.stands.deep }

      around : Arrives prog s p f (record { ending = o3.ending; memory = o3.memory; count = suc (o1.count + o3.count); depth = max (suc o1.depth) o3.depth })
      around =
          let a3 = rest parent_stands memory2 in
          record {
            labels = p ∷ (a1.labels ++ (f.made ∷ p) ∷ a3.labels);
            state = a3.state;
            last = a3.last;
            run = (apply c1 s, step_by prog s p c1 dp1, run_on a1.labels ((f.made ∷ p) ∷ a3.labels) (apply c1 s) a1.state a3.state a1.run (apply c2 a1.state, step_by prog a1.state (f.made ∷ p) c2 dp2, a3.run));
            count =
                let n1 : length a1.labels + 1 ≡ o1.count = a1.count in
                let n3 : length a3.labels + 1 ≡ o3.count = a3.count in
                let n : length (a1.labels ++ (f.made ∷ p) ∷ a3.labels) ≡ length a1.labels + suc (length a3.labels) = length-append a1.labels ((f.made ∷ p) ∷ a3.labels) in
                omega arith;
            stands = a3.stands;
            role = a3.role ∙ role2;
            others = λ x apart. a3.others x apart ∙
                elim (same_path_tells (f.made ∷ p) x) [
                  | inl e ↦ subst (λ y. (apply c2 a1.state).frames y ≡ s.frames y) e.1 (gone2 ∙ sym (st.bare f.made))
                  | inr e ↦ same_elsewhere x apart e.1
                ];
            memory = a3.memory;
            peak =
                let h1 : a1.state.peak ≡ max (max s.peak c1.depth) (length (f.made ∷ p) + o1.depth) = a1.peak in
                let h3 : a3.state.peak ≡ max (max a1.state.peak c2.depth) (length p + o3.depth) = a3.peak in
                let one : 1 ≤ o1.depth = a1.some_depth in
                omega arith;
            result = a3.result ∙ result2 ∙ a1.result ∙ result1;
            ends = a3.ends;
            some_depth = let one : 1 ≤ o1.depth = a1.some_depth in omega arith;
          }

module _ (prog : Program) where
  pub Meant : ℕ → Type 0
  Meant n = (p : Path) (f : Frame) (o : Outcome) (s : State) → Stands s p f → meaning prog n p f s.memory ≡ Some o → Arrives prog s p f o

  -- how the child left
  left_now : (o : Outcome) (p : Path) (f : Frame) (m : Memory) → o.ending ≡ Left → Ends prog p f m o.ending → (r : ℕ) × (n : ℕ) × (action_of prog p f m ≡ Reattach r) × (f.role ≡ Child r n)
  left_now o p f m e h = from o.ending e h
    where
      from : (x : Ending) → x ≡ Left → Ends prog p f m x → (r : ℕ) × (n : ℕ) × (action_of prog p f m ≡ Reattach r) × (f.role ≡ Child r n)
      from Left e (leaves_now r n at role) = (r, n, at, role)
      from (Gave v) e h = absurd (cc)

  gave_now : (v : Option ℤ) (o : Outcome) (p : Path) (f : Frame) (m : Memory) → o.ending ≡ Gave v → Ends prog p f m o.ending → (action_of prog p f m ≡ Return v) × (f.role ≡ Body)
  gave_now v o p f m e h = from o.ending e h
    where
      from : (x : Ending) → x ≡ Gave v → Ends prog p f m x → (action_of prog p f m ≡ Return v) × (f.role ≡ Body)
      from Left e h = absurd (cc)
      from (Gave u) e (gives_now w at role) = let same : u ≡ v = cc in (at ∙ ap (λ x. Return x) same, role)

  module _ (n : ℕ) (before : Meant n) (p : Path) (f : Frame) (o : Outcome) (s : State) (st : Stands s p f) where
    met : (u : Outcome) → u ≡ o → Arrives prog s p f u → Arrives prog s p f o
    met u e a = subst (λ x. Arrives prog s p f x) e a

    by_effect : (e : Effect) → action_of prog p f s.memory ≡ Plain e → (x : Option Trap) → e.trap ≡ x → after_effect (meaning prog n) p f s.memory e x ≡ Some o → Arrives prog s p f o
    unfolding Meant
    by_effect ef at (Some t) fails e = absurd (cc)
    by_effect ef at None fine e =
        let (u, there, made) = counted_is _ o e in
        let dp = plain f ef st.is (may st) at in
        let g : Frame = went f ef in
        let wake : Awake g.waits = rw fine free in
        met _ made (go_on prog s p f g (plain_change p f ef) u dp refl refl refl refl (before p g u (apply (plain_change p f ef) s) (stands_on prog s p f g (plain_change p f ef) st dp refl wake) there))

    by_sync : (r b : ℕ) (rs : Registers) → action_of prog p f s.memory ≡ Sync r b rs → counted (meaning prog n p (synced f r b rs) s.memory) ≡ Some o → Arrives prog s p f o
    unfolding Meant
    by_sync r b rs at e =
        let (u, there, made) = counted_is _ o e in
        let dp = sync f r b rs st.is (may st) at in
        let g : Frame = synced f r b rs in
        met _ made (go_on prog s p f g (sync_change p f r b rs) u dp refl refl refl refl (before p g u (apply (sync_change p f r b rs) s) (stands_on prog s p f g (sync_change p f r b rs) st dp refl (on_region r)) there))

    by_child : (r b next : ℕ) → action_of prog p f s.memory ≡ Detach r b next → (x : Option Outcome) → meaning prog n (f.made ∷ p) (detached f r b next) s.memory ≡ x →
        after_child (meaning prog n) p (continued f next) x ≡ Some o → Arrives prog s p f o
    unfolding Meant
    by_child r b next at None child e = absurd (cc)
    by_child r b next at (Some o1) child e = from o1.ending refl e
      where
        from : (x : Ending) → o1.ending ≡ x → after_left (meaning prog n) p (continued f next) o1 x ≡ Some o → Arrives prog s p f o
        from (Gave v) ending h = absurd (cc)
        from Left ending h =
            let (o3, there, made) = joined_is o1 _ o h in
            let dp = detach f r b next st.is (may st) at in
            let c1 = detach_change p f r b next in
            let g : Frame = continued f next in
            let d : Frame = detached f r b next in
            let a1 = before (f.made ∷ p) d o1 (apply c1 s) (child_stands prog s p f g g d c1 st dp refl refl refl refl free) child in
            let (q, m, now, role) = left_now o1 (f.made ∷ p) a1.last a1.state.memory ending a1.ends in
            let dp2 = reattach a1.last q m a1.stands.is (may a1.stands) now (no_children a1.stands) role in
            let mine : (apply c1 s).frames p ≡ Some g = rw (both_first p (f.made ∷ p) (Some g) (Some d)) in
            let after : a1.state.memory ≡ o1.memory = subst (λ x. at_end (f.made ∷ p) x a1.state.memory ≡ o1.memory) ending a1.memory in
            met _ made
            (around prog s p f g g d c1 st dp refl refl refl refl free o1 o3 a1 (reattach_change (f.made ∷ p)) dp2
            (left_alone (reattach_change (f.made ∷ p)) a1.state p (only_off (f.made ∷ p) p None (no_own_child f.made p)) ∙ a1.others p (no_own_child f.made p) ∙ mine)
            (rw (only_here (f.made ∷ p) None))
            (λ x apart apart2. only_off (f.made ∷ p) x None apart2)
            after refl refl free refl
            (λ st2 mem2. before p g o3 (apply (reattach_change (f.made ∷ p)) a1.state) st2 (rw mem2 there)))

    by_call : (d : Option RegisterId) (g : ℕ) (vs : List Value) → action_of prog p f s.memory ≡ Call d g vs → (x : Option Outcome) → meaning prog n (f.made ∷ p) (called p f g vs) s.memory ≡ x →
        after_call (meaning prog n) p (waiting f d) d x ≡ Some o → Arrives prog s p f o
    unfolding Meant
    by_call d g vs at None child e = absurd (cc)
    by_call d g vs at (Some o1) child e = from o1.ending refl e
      where
        from : (x : Ending) → o1.ending ≡ x → after_gave (meaning prog n) p (waiting f d) d o1 x ≡ Some o → Arrives prog s p f o
        from Left ending h = absurd (cc)
        from (Gave v) ending h =
            let (o3, there, made) = joined_is o1 _ o h in
            let dp = call f d g vs st.is (may st) at in
            let c1 = call_change p f d g vs in
            let f1 : Frame = waiting f d in
            let f2 = resumed f1 d v in
            let body : Frame = called p f g vs in
            let a1 = before (f.made ∷ p) body o1 (apply c1 s) (child_stands prog s p f f1 f2 body c1 st dp refl refl refl refl free) child in
            let (now, role) = gave_now v o1 (f.made ∷ p) a1.last a1.state.memory ending a1.ends in
            let mine : (apply c1 s).frames p ≡ Some f1 = rw (both_first p (f.made ∷ p) (Some f1) (Some body)) in
            let over : a1.state.frames p ≡ Some f1 = a1.others p (no_own_child f.made p) ∙ mine in
            let dp2 = ret a1.last v f.made p f1 f.made d a1.stands.is (may a1.stands) now (no_children a1.stands) role refl over refl in
            let c2 = return_change (f.made ∷ p) p f1 d v in
            let after : cleared (f.made ∷ p) a1.state.memory ≡ o1.memory = subst (λ x. at_end (f.made ∷ p) x a1.state.memory ≡ o1.memory) ending a1.memory in
            met _ made
            (around prog s p f f1 f2 body c1 st dp refl refl refl refl free o1 o3 a1 c2 dp2
            (rw (both_second (f.made ∷ p) p None (Some (resumed f1 d v)) (no_own_child f.made p)))
            (rw (both_first (f.made ∷ p) p None (Some (resumed f1 d v))))
            (λ x apart apart2. both_off (f.made ∷ p) p x None _ apart2 apart)
            after refl refl free refl
            (λ st2 mem2. before p f2 o3 (apply c2 a1.state) st2 (rw mem2 there)))

    by_end : (x : Ending) (m : Memory) → Ends prog p f s.memory x → at_end p x s.memory ≡ m → last x m ≡ Some o → Arrives prog s p f o
    unfolding Deep
    by_end x m ends memory e =
        let made : record { ending = x; memory = m; count = 1; depth = 1 } ≡ o = cc in
        met _ made record {
          labels = [];
          state = s;
          last = f;
          run = refl;
          count = refl;
          stands = st;
          role = refl;
          others = λ x apart. refl;
          memory = memory;
          peak = let d : length p + 1 ≤ s.peak = st.deep p f st.is in omega arith;
          result = refl;
          ends = ends;
          some_depth = omega arith;
        }

    by_reattach : (r : ℕ) → action_of prog p f s.memory ≡ Reattach r → last Left s.memory ≡ Some o → Arrives prog s p f o
    by_reattach r at e = let (m, role) = reattach_is_child prog p f s.memory r at in by_end Left s.memory (leaves_now r m at role) refl e

    now_by : (a : Action) → action_of prog p f s.memory ≡ a → by_action (meaning prog n) p f s.memory a ≡ Some o → Arrives prog s p f o
    now_by (Plain ef) at e = by_effect ef at ef.trap refl e
    now_by (Detach r b next) at e = by_child r b next at _ refl e
    now_by (Reattach r) at e = by_reattach r at e
    now_by (Sync r b rs) at e = by_sync r b rs at e
    now_by (Call d g vs) at e = by_call d g vs at _ refl e
    now_by (Return v) at e = by_end (Gave v) (cleared p s.memory) (gives_now v at (return_is_body prog p f s.memory v at)) refl e

  pub arrives : (n : ℕ) → Meant n
  unfolding Meant
  arrives zero p f o s st e = absurd (cc)
  arrives (suc n) p f o s st e = now_by n (arrives n) p f o s st (action_of prog p f s.memory) refl e

  pub arrives_from : (n : ℕ) (p : Path) (f : Frame) (o : Outcome) (s : State) → Stands s p f → meaning prog n p f s.memory ≡ Some o → Arrives prog s p f o
  unfolding Meant
  arrives_from n = arrives n
