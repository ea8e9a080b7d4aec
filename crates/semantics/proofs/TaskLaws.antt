-- Counts and tasks along a schedule, whatever the program.
use Rattle.std.proofs.Common.{◌≡◌, ℕ, zero, suc, ◌+◌, ◌-◌, ◌≤◌, [], ◌∷◌, List, length, Option, Some, None, Bool, true, false, cond, refl, sym, ap, ◌∙◌, subst, arith, ℤ}
use Rattle.semantics.specs.Paths.{Path}
use Rattle.semantics.specs.Below.{Under, itself, deeper}
use Rattle.semantics.specs.Cells.{Memory}
use Rattle.semantics.specs.Arithmetic.{Trap, Unmatched}
use Rattle.semantics.specs.Frames.{Wait, Free, OnRegion, OnCall, Halted, Role, Child, Body, Frame}
use Rattle.semantics.specs.Effect.{action_of}
use Rattle.semantics.specs.State.{State, Change, apply, change_of, trap_change, halted}
use Rattle.semantics.specs.CoreSteps.{children_within}
use Rattle.semantics.specs.Tree.{Tree}
use Rattle.semantics.specs.Events.{Machine, Event, Step, Steal, event, start, sound_event, unless_trapped, by_hand, by_frame, by_change, holder, on_wait, on_frame, top_within, waiting_status, unheld_status, is_child, is_task, top_of, Status, Running, Ready, Stalled, status_at, top_status, status_of}
use Rattle.semantics.specs.Replay.{or_unchanged, replay}
use Rattle.semantics.specs.Counts.{Counts, no_counts, counts_after, if_changed, counts_of_frame, counts_of_hand, counts_by, if_enabled, counts_along, count_of, CountsChildren, RegionCounts}
use Rattle.semantics.specs.Tasks.{OnTask, is_lowest, is_called, NewestChildLives, FramesOnTasks}
use Rattle.semantics.proofs.Places.{only_at}
use Rattle.semantics.proofs.Steps.{does}
use Rattle.semantics.proofs.Diamond.{Goes, Spot, is_moved}
use Rattle.semantics.proofs.TreeKept.{step_keeps_tree, tree_kept, Origin, was, born, origin}
use Rattle.semantics.proofs.Deep.{Deep, deep_kept}
use Rattle.semantics.proofs.Workers.{Manned, Parked, calls, ready, stalled}
use Rattle.semantics.proofs.Machines.{unheld_by, step_manned, found, stolen_manned}
use Rattle.semantics.proofs.Starting.{begin, start_tree, start_deep, start_manned}
use Rattle.semantics.proofs.ChildCounts.{none_counted, counted_none, count_at, moved_alone, step_counts}
use Rattle.program.specs.linear.declared.form.RegisterId.{RegisterId}
use Rattle.program.specs.declared.function.Program.{Program}

-- ---- a trap halts its frame, and nothing else changes

module _ (prog : Program) (s : State) (tree : Tree s) (p : Path) (f : Frame) (t : Trap) (go : Goes s p) (is : s.frames p ≡ Some f) where
  trap_spot : (x : Path) (o : Option Frame) → (trap_change p f t).frames x ≡ Some o → Spot s p (trap_change p f t).frames x o
  trap_spot x o e =
      let (here, what) = only_at p x (Some (halted f)) o e in
      is_moved f (halted f) here (subst (λ y. s.frames y ≡ Some f) (sym here) is) what refl (omega arith) (λ k d w. absurd (let h : Halted ≡ OnCall k d = w in cc))

  trap_tree : Tree (apply (trap_change p f t) s)
  trap_tree = tree_kept s p (trap_change p f t) tree go trap_spot

  trap_deep : Deep s → Deep (apply (trap_change p f t) s)
  unfolding Deep
  trap_deep deep x g now = from (origin s p (trap_change p f t) tree go trap_spot x g now)
    where
      peak_is : (apply (trap_change p f t) s).peak ≡ s.peak
      peak_is = omega arith

      from : Origin s p (trap_change p f t) tree go trap_spot x g → length x + 1 ≤ (apply (trap_change p f t) s).peak
      from (was h old role) = let d : length x + 1 ≤ s.peak = deep x h old in omega arith
      from (born k h there here up made free calls2) = let none : (trap_change p f t).frames x ≡ Some (Some g) = there in absurd (let e = (only_at p x (Some (halted f)) (Some g) none).1 in let w = ap (λ o. wait_in o) e in let h2 : Free ≡ Halted = sym free ∙ w in cc)
        where
          wait_in : Option Frame → Wait
          wait_in None = Free
          wait_in (Some y) = y.waits

-- ---- what holds of each machine that a schedule leads to

module _ (prog : Program) (workers : ℕ) where
  record Law (m : Machine) (counts : Counts) : Type 0 where
    tree : Tree m.core
    deep : Deep m.core
    manned : m.trapped ≡ None → Manned workers m.core m.hands
    counted : counts ≡ count_of m.core

  module _ (m : Machine) (counts : Counts) (law : Law m counts) (fine : m.trapped ≡ None) where
    man : Manned workers m.core m.hands
    man = law.manned fine

    by_step : (w : ℕ) (p : Path) (f : Frame) → m.hands w ≡ Some p → m.core.frames p ≡ Some f → (o : Option Change) → change_of prog m.core p ≡ o → Law (by_change prog workers m w p f o) (if_changed o (counts_after p (action_of prog p f m.core.memory) counts) counts)
    by_step w p f here is None ch = record {
      tree = trap_tree prog m.core law.tree p f Unmatched (man.goers w p here) is;
      deep = trap_deep prog m.core law.tree p f Unmatched (man.goers w p here) is law.deep;
      manned = λ e. absurd (let h : Some Unmatched ≡ None = e in cc);
      counted =
          let same : count_of (apply (trap_change p f Unmatched) m.core) ≡ count_of m.core = λ i q r. moved_alone prog m.core law.tree p (trap_change p f Unmatched) f (halted f) refl is refl refl q r i in
          law.counted ∙ sym same;
    }
    by_step w p f here is (Some c) ch =
        let dp = does prog m.core p c ch in
        record {
          tree = step_keeps_tree law.tree dp;
          deep = deep_kept m.core p c law.tree dp law.deep;
          manned = λ e. step_manned prog workers m man w p here c dp e f is;
          counted =
              let same : count_of (apply c m.core) ≡ counts_after p (action_of prog p f m.core.memory) (count_of m.core) = λ i q r. step_counts prog m.core law.tree p c dp f is q r i in
              ap (λ n. counts_after p (action_of prog p f m.core.memory) n) law.counted ∙ sym same;
        }

    by_place : (w : ℕ) (p : Path) → m.hands w ≡ Some p → (o : Option Frame) → m.core.frames p ≡ o → Law (or_unchanged (by_frame prog workers m w p o) m) (if_enabled (by_frame prog workers m w p o) (counts_of_frame prog m.core p o counts) counts)
    by_place w p here None is = law
    by_place w p here (Some f) is = by_step w p f here is (change_of prog m.core p) refl

    by_worker : (w : ℕ) (o : Option Path) → m.hands w ≡ o → Law (or_unchanged (by_hand prog workers m w o) m) (if_enabled (by_hand prog workers m w o) (counts_of_hand prog m.core o counts) counts)
    by_worker w None here = law
    by_worker w (Some p) here = by_place w p here (m.core.frames p) refl

    by_steal : (w : ℕ) (t : Path) (o : Option Machine) → sound_event prog workers (Steal w t) m ≡ o → Law (or_unchanged o m) (if_enabled o counts counts)
    by_steal w t None e = law
    by_steal w t (Some after) e =
        let got = found workers m man prog w t after e in
        subst (λ x. Law x counts) got.made (record { tree = law.tree; deep = law.deep; manned = λ h. stolen_manned workers m man w t after got; counted = law.counted })

    by_event : (e : Event) → Law (or_unchanged (sound_event prog workers e m) m) (if_enabled (sound_event prog workers e m) (counts_by prog m e counts) counts)
    by_event (Step w) = by_worker w (m.hands w) refl
    by_event (Steal w t) = by_steal w t (sound_event prog workers (Steal w t) m) refl

  event_law : (m : Machine) (counts : Counts) → Law m counts → (e : Event) → Law (or_unchanged (event prog workers e m) m) (if_enabled (event prog workers e m) (counts_by prog m e counts) counts)
  event_law m counts law e = from m.trapped refl
    where
      from : (t : Option Trap) → m.trapped ≡ t → Law (or_unchanged (unless_trapped t (sound_event prog workers e m)) m) (if_enabled (unless_trapped t (sound_event prog workers e m)) (counts_by prog m e counts) counts)
      from None fine = by_event m counts law fine e
      from (Some t) is = law

  replay_law : (events : List Event) (m : Machine) (counts : Counts) → Law m counts → Law (replay prog workers events m) (counts_along prog workers events m counts)
  replay_law [] m counts law = law
  replay_law (e ∷ events) m counts law = replay_law events (or_unchanged (event prog workers e m) m) (if_enabled (event prog workers e m) (counts_by prog m e counts) counts) (event_law m counts law e)

  module _ (some : 1 ≤ workers) (arguments : List ℤ) (given : Memory) where
    start_law : Law (start prog arguments given) no_counts
    start_law = record {
      tree = start_tree prog arguments given;
      deep = start_deep prog arguments given;
      manned = λ e. start_manned prog arguments given workers some;
      counted = λ i p r. from p r i;
    }
      where
        from : (p : Path) (r : ℕ) → 0 ≡ count_of (begin prog arguments given) p r
        from [] r = refl
        from (k ∷ p) r = refl

    reached : (events : List Event) → Law (replay prog workers events (start prog arguments given)) (counts_along prog workers events (start prog arguments given) no_counts)
    reached events = replay_law events (start prog arguments given) no_counts start_law

-- ---- counts

children_counted : (counts : Counts) (s : State) → counts ≡ count_of s → CountsChildren counts s
children_counted counts s is = record {
  same = λ p r. ap (λ n. n p r) is;
  passes = λ p f r there none. counted_none s p r f.made (sym (here p f r there) ∙ none);
  stalls = λ p f r there test. here p f r there ∙ none_counted s p r f.made test;
}
  where
    here : (p : Path) (f : Frame) (r : ℕ) → s.frames p ≡ Some f → counts p r ≡ children_within s p f.made r
    here p f r there = ap (λ n. n p r) is ∙ count_at s p f r there

pub region_counts : RegionCounts
region_counts prog arguments memory workers some events = children_counted _ _ (reached prog workers some arguments memory events).counted

-- ---- tasks

lowest_lives : (t : Path) (o : Option Frame) → is_task t o ≡ true → (f : Frame) × (o ≡ Some f)
lowest_lives t None e = absurd (cc)
lowest_lives t (Some f) e = (f, refl)

pub under_trans : {x : Path} {y : Path} (z : Path) → Under x y → Under y z → Under x z
under_trans z u itself = u
under_trans z u (deeper k {y = v} w) = deeper k (under_trans v u w)

module _ (s : State) (tree : Tree s) where
  task_of_role : (k : ℕ) (p : Path) (f : Frame) → s.frames (k ∷ p) ≡ Some f → (role : Role) → f.role ≡ role → ((g : Frame) → s.frames p ≡ Some g → (t : Path) × OnTask s t p) → (t : Path) × OnTask s t (k ∷ p)
  task_of_role k p f is (Child r n) role above = (k ∷ p, is_lowest (rw (is, role) refl))
  task_of_role k p f is Body role above =
      let (g, over, lt) = tree.has_parent k p f is in
      let (t, on) = above g over in
      (t, is_called k f on is role)

  some_task : (p : Path) (f : Frame) → s.frames p ≡ Some f → (t : Path) × OnTask s t p
  some_task [] f is = ([], is_lowest (rw is refl))
  some_task (k ∷ p) f is = task_of_role k p f is f.role refl (λ g over. some_task p g over)

  -- the lowest frame of a task was not called
  not_called : (t : Path) (k : ℕ) (p : Path) (f : Frame) → is_task t (s.frames t) ≡ true → t ≡ k ∷ p → s.frames (k ∷ p) ≡ Some f → f.role ≡ Body → ⊥
  not_called t k p f e here is role =
      let a : is_task (k ∷ p) (s.frames (k ∷ p)) ≡ true = subst (λ x. is_task x (s.frames x) ≡ true) here e in
      let b : is_child f.role ≡ true = rw is at a in
      let c : is_child Body ≡ true = rw role at b in
      cc

  one_task : (t u p x : Path) → OnTask s t p → OnTask s u x → p ≡ x → t ≡ u
  one_task t u p x (is_lowest a) (is_lowest b) e = e
  one_task t u p x (is_lowest a) (is_called k f on is role) e = absurd (not_called t k _ f a e is role)
  one_task t u p x (is_called k f on is role) (is_lowest b) e = absurd (not_called u k _ f b (sym e) is role)
  one_task t u p x (is_called k {p = q} f on is role) (is_called j {p = r} g on2 is2 role2) e = one_task t u q r on on2 (same_rest k j q r e)
    where
      same_rest : (k j : ℕ) (q r : Path) → k ∷ q ≡ j ∷ r → q ≡ r
      same_rest k j q r e = cc

  lives : (t p : Path) → OnTask s t p → (f : Frame) × (s.frames p ≡ Some f)
  lives t p (is_lowest a) = lowest_lives t (s.frames t) a
  lives t p (is_called k f on is role) = (f, is)

  -- what is reached by calls from a frame of a task is on the task
  rises : (n : ℕ) (t p : Path) → OnTask s t p → OnTask s t (top_within n s p)
  rises zero t p on = on
  rises (suc n) t p on = from (s.frames p) refl (λ k up. rises n t (k ∷ p) up)
    where
      by_wait : (f : Frame) → s.frames p ≡ Some f → (w : Wait) → f.waits ≡ w → ((k : ℕ) → OnTask s t (k ∷ p) → OnTask s t (top_within n s (k ∷ p))) → OnTask s t (on_wait (λ k. top_within n s (k ∷ p)) p w)
      by_wait f is Free e higher = on
      by_wait f is (OnRegion r) e higher = on
      by_wait f is (OnCall k d) e higher = let (c, there, role) = tree.lives k d p f is e in higher k (is_called k c on there role)
      by_wait f is Halted e higher = on

      from : (o : Option Frame) → s.frames p ≡ o → ((k : ℕ) → OnTask s t (k ∷ p) → OnTask s t (top_within n s (k ∷ p))) → OnTask s t (on_frame (λ k. top_within n s (k ∷ p)) p o)
      from None is higher = on
      from (Some f) is higher = by_wait f is f.waits refl higher

  below : (n : ℕ) (p : Path) → Under p (top_within n s p)
  below zero p = itself
  below (suc n) p = from (s.frames p) (λ k. below n (k ∷ p))
    where
      by_wait : (w : Wait) → ((k : ℕ) → Under (k ∷ p) (top_within n s (k ∷ p))) → Under p (on_wait (λ k. top_within n s (k ∷ p)) p w)
      by_wait Free higher = itself
      by_wait (OnRegion r) higher = itself
      by_wait (OnCall k d) higher = under_trans _ (deeper k itself) (higher k)
      by_wait Halted higher = itself

      from : (o : Option Frame) → ((k : ℕ) → Under (k ∷ p) (top_within n s (k ∷ p))) → Under p (on_frame (λ k. top_within n s (k ∷ p)) p o)
      from None higher = itself
      from (Some f) higher = by_wait f.waits higher

  -- so many calls lead from the task's lowest frame to this one
  record Leads (t p : Path) : Type 0 where
    steps : ℕ
    far : length p ≡ length t + steps
    same : (n : ℕ) → top_within (steps + n) s t ≡ top_within n s p

  leads : (t p : Path) → OnTask s t p → Leads t p
  leads t p (is_lowest a) = record { steps = 0; far = omega arith; same = λ n. ap (λ k. top_within k s t) (omega arith) }
  leads t p (is_called k {p = q} f on is role) =
      let l = leads t q on in
      let (g, d, over, wait) = tree.awaited k q f is role in
      record {
        steps = suc l.steps;
        far = let far : length q ≡ length t + l.steps = l.far in omega arith;
        same = λ n. ap (λ k. top_within k s t) (moved l.steps n) ∙ l.same (suc n) ∙ rw (over, wait) refl;
      }
    where
      moved : (a n : ℕ) → suc a + n ≡ a + suc n
      moved a n = omega arith

  top_of_task : Deep s → (t p : Path) → OnTask s t p → OnTask s t (top_of s t) × Under p (top_of s t)
  unfolding Deep
  top_of_task deep t p on =
      let l = leads t p on in
      let (f, is) = lives t p on in
      let (g, lowest) = lives t t (start t p on) in
      let high : length p + 1 ≤ s.peak = deep p f is in
      let far : length p ≡ length t + l.steps = l.far in
      let parts : s.peak ≡ l.steps + (s.peak - l.steps) = omega arith in
      let top : top_of s t ≡ top_within (s.peak - l.steps) s p = ap (λ k. top_within k s t) parts ∙ l.same (s.peak - l.steps) in
      (rises s.peak t t (start t p on), subst (λ x. Under p x) (sym top) (below (s.peak - l.steps) p))
    where
      start : (t p : Path) → OnTask s t p → OnTask s t t
      start t p (is_lowest a) = is_lowest a
      start t p (is_called k {p = q} f on is role) = start t q on

  -- the top frame waits for no call
  top_waits : Deep s → (t : Path) → OnTask s t t → (f : Frame) (k : ℕ) (d : Option RegisterId) → s.frames (top_of s t) ≡ Some f → f.waits ≡ OnCall k d → ⊥
  top_waits deep t on f k d is wait =
      let (up, u) = top_of_task deep t t on in
      let (c, there, role) = tree.lives k d (top_of s t) f is wait in
      let (top, under) = top_of_task deep t (k ∷ top_of s t) (is_called k c up there role) in
      not_under k (top_of s t) under
    where
      length_under : (x y : Path) → Under x y → length x ≤ length y
      length_under x y itself = omega arith
      length_under x y (deeper j {y = z} w) = let h = length_under x z w in omega (arith, h)

      not_under : (k : ℕ) (x : Path) → Under (k ∷ x) x → ⊥
      not_under k x u = let h : suc (length x) ≤ length x = length_under (k ∷ x) x u in omega arith

-- ---- statuses

status_here : (workers : ℕ) (m : Machine) → Manned workers m.core m.hands → Deep m.core → (t : Path) → is_task t (m.core.frames t) ≡ true → (x : Status) × (status_of workers m t ≡ Some x)
status_here workers m man deep t task =
    let on : OnTask m.core t t = is_lowest task in
    let (up, u) = top_of_task m.core man.tree deep t t on in
    let (f, is) = lives m.core man.tree t (top_of m.core t) up in
    let (x, e) = by_holder f is (holder workers m.hands (top_of m.core t)) refl in
    (x, rw (task, is) e)
  where
    on_top : OnTask m.core t t
    on_top = is_lowest task

    by_parked : (f : Frame) → m.core.frames (top_of m.core t) ≡ Some f → Parked m.core (top_of m.core t) f → (x : Status) × (unheld_status (Some f) ≡ Some x)
    by_parked f is (calls k d wait) = absurd (top_waits m.core man.tree deep t on_top f k d is wait)
    by_parked f is (ready k c free made there) = (Ready, rw free refl)
    by_parked f is (stalled r k n c wait there role) = (Stalled r, rw wait refl)

    by_holder : (f : Frame) → m.core.frames (top_of m.core t) ≡ Some f → (o : Option ℕ) → holder workers m.hands (top_of m.core t) ≡ o → (x : Status) × (status_at (Some f) (holder workers m.hands (top_of m.core t)) ≡ Some x)
    by_holder f is None none = let (x, e) = by_parked f is (man.parked (top_of m.core t) f is (unheld_by workers m.core m.hands man (top_of m.core t) none)) in (x, rw none e)
    by_holder f is (Some w) held = (Running w, rw held refl)

ready_top : (workers : ℕ) (m : Machine) → Manned workers m.core m.hands → (t : Path) → status_of workers m t ≡ Some Ready → NewestChildLives m.core (top_of m.core t)
ready_top workers m man t e = by_task (is_task t (m.core.frames t)) e
  where
    -- the child of a frame that waits for no call was not called
    by_role : (k : ℕ) (f c : Frame) → m.core.frames (top_of m.core t) ≡ Some f → f.waits ≡ Free → m.core.frames (k ∷ (top_of m.core t)) ≡ Some c → (role : Role) → c.role ≡ role → is_child role ≡ true
    by_role k f c is free there (Child region continuation) role = refl
    by_role k f c is free there Body role =
        let (g, d, over, wait) = man.tree.awaited k (top_of m.core t) c there role in
        let same : f ≡ g = let h : Some f ≡ Some g = sym is ∙ over in cc in
        absurd (let h : Free ≡ OnCall k d = sym free ∙ ap (λ (x : Frame). x.waits) same ∙ wait in cc)

    by_parked : (f : Frame) → m.core.frames (top_of m.core t) ≡ Some f → f.waits ≡ Free → Parked m.core (top_of m.core t) f → NewestChildLives m.core (top_of m.core t)
    by_parked f is free (calls k d wait) = absurd (let h : Free ≡ OnCall k d = sym free ∙ wait in cc)
    by_parked f is free (ready k c free2 made there) = record { frame = f; number = k; child = c; here = is; newest = made; lives = there; detached = by_role k f c is free there c.role refl }
    by_parked f is free (stalled r k n c wait there role) = absurd (let h : Free ≡ OnRegion r = sym free ∙ wait in cc)

    by_wait : (f : Frame) → m.core.frames (top_of m.core t) ≡ Some f → holder workers m.hands (top_of m.core t) ≡ None → (w : Wait) → f.waits ≡ w → waiting_status w ≡ Some Ready → NewestChildLives m.core (top_of m.core t)
    by_wait f is none Free free e = by_parked f is free (man.parked (top_of m.core t) f is (unheld_by workers m.core m.hands man (top_of m.core t) none))
    by_wait f is none (OnRegion r) wait e = absurd (let h : Some (Stalled r) ≡ Some Ready = e in cc)
    by_wait f is none (OnCall k d) wait e = absurd (let h : None ≡ Some Ready = e in cc)
    by_wait f is none Halted wait e = absurd (let h : None ≡ Some Ready = e in cc)

    by_top : (o : Option Frame) → m.core.frames (top_of m.core t) ≡ o → holder workers m.hands (top_of m.core t) ≡ None → unheld_status o ≡ Some Ready → NewestChildLives m.core (top_of m.core t)
    by_top None is none e = absurd (let h : None ≡ Some Ready = e in cc)
    by_top (Some f) is none e = by_wait f is none f.waits refl e

    by_hand : (h : Option ℕ) → holder workers m.hands (top_of m.core t) ≡ h → status_at (m.core.frames (top_of m.core t)) h ≡ Some Ready → NewestChildLives m.core (top_of m.core t)
    by_hand None none e = by_top (m.core.frames (top_of m.core t)) refl none e
    by_hand (Some w) held e = absurd (let h : Some (Running w) ≡ Some Ready = e in cc)

    by_task : (b : Bool) → cond b (top_status workers m (top_of m.core t)) None ≡ Some Ready → NewestChildLives m.core (top_of m.core t)
    by_task true e = by_hand (holder workers m.hands (top_of m.core t)) refl e
    by_task false e = absurd (let h : None ≡ Some Ready = e in cc)

pub frames_on_tasks : FramesOnTasks
frames_on_tasks prog arguments memory workers some events =
    let law = reached prog workers some arguments memory events in
    let m = replay prog workers events (start prog arguments memory) in
    record {
      some_task = λ p f is. some_task m.core law.tree p f is;
      one_task = λ p t u on on2. one_task m.core law.tree t u p p on on2 refl;
      top = λ t p on. top_of_task m.core law.tree law.deep t p on;
      status = λ fine t task. status_here workers m (law.manned fine) law.deep t task;
      ready = λ fine t is. ready_top workers m (law.manned fine) t is;
    }
