-- The tops that are ready, by slots, are those of the ready tasks.
use Rattle.std.proofs.Common.{◌≡◌, ◌≢◌, ℕ, List, Contains, reverse, Option, Some, None, Bool, true, false, cond, ◌⊎◌, inl, inr, refl, sym, ap, ◌∙◌, subst}
use Rattle.std.specs.Prelude.{IsSomeAnd, IfNone, IfSome}
use Rattle.std.specs.Cmp.Lexicographic.{slice_cmp}
use Rattle.std.specs.Cmp.{IsTotalOrder}
use Rattle.std.specs.Ordering.{nat_cmp, ordering_reverse}
use Rattle.std.specs.declared.cmp.Ordering.{Ordering}
use Rattle.std.specs.declared.cmp.Ordering.TheVariants.{Less, Equal, Greater}
use Rattle.std.proofs.lemmas.List.{reverse-reverse}
use Rattle.std.proofs.lemmas.Cmp.{nat_list_cmp_total}
use Rattle.semantics.specs.Frames as defined
use Rattle.semantics.specs.Events as running
use Rattle.semantics.specs.Events.{Machine}
use Rattle.semantics.specs.Tasks.{OnTask, is_lowest}
use Rattle.frame.specs.declared.path.Path.{Path}
use Rattle.frame.specs.declared.frame.Wait.{Wait}
use Rattle.frame.specs.declared.frame.Wait.TheVariants as wait
use Rattle.frame.specs.Reading.{wait_of}
use Rattle.cactus.specs.declared.node.Node.{Node}
use Rattle.cactus.specs.Frames.{Frames, frame_at, node_at}
use Rattle.cactus.specs.ByPath.{IsTree}
use Rattle.slab.specs.Slab.{entries_from}
use Rattle.slab.proofs.SlabLemmas.{Contains-entries}
use Rattle.schedule_workers.specs.declared.activation.Activation.{Activation}
use Rattle.schedule_workers.specs.Lowest.{IsLowestBelow, lowest, under}
use Rattle.schedule_workers.specs.RunShown.{CalleeStands, place_of}
use Rattle.schedule_workers.specs.Tasks.{IsLowest, IsReady}
use Rattle.schedule_workers.proofs.Topmost.{holder_is}
use Rattle.schedule_core.specs.declared.stage.Stage.{Stage}
use Rattle.schedule_core.specs.Stages.{IsState, program_of, workers_of}
use Rattle.schedule_core.specs.Viewed.{status_in, Advances, IsAtMost, IsNamedBelow, IsReadyAt, IsLesser, IsFirstReady, IsNoneReady}
use Rattle.schedule_core.proofs.Spots.{same_node}
use Rattle.schedule_core.proofs.TaskPlaces.{here_at, parts, lowest_is_task, lowest_of, slot_of, top_of_slots}
use Rattle.schedule_core.proofs.TasksShown.{lowest_low, status_of_slots}

-- ---- the order of paths

abbrev order : List ℕ → List ℕ → Ordering
order p q = slice_cmp nat_cmp p q

back_is : (p q : List ℕ) → order p q ≡ ordering_reverse (order q p)
back_is p q = let total : IsTotalOrder order = nat_list_cmp_total in total.antisymm p q

less_through : (p q r : List ℕ) → order p q ≡ Less → order q r ≡ Less → order p r ≡ Less
less_through p q r a b = let total : IsTotalOrder order = nat_list_cmp_total in total.trans p q r a b

same_before : (p q r : List ℕ) → order p q ≡ Equal → order p r ≡ order q r
same_before p q r a = let total : IsTotalOrder order = nat_list_cmp_total in total.congr p q r a

pub at_most_itself : (p : Path) → IsAtMost p p
at_most_itself p = from (order p.numbers p.numbers) refl (back_is p.numbers p.numbers)
  where
    from : (o : Ordering) → order p.numbers p.numbers ≡ o → order p.numbers p.numbers ≡ ordering_reverse (order p.numbers p.numbers) → o ≢ Greater
    from Less is e more = cc
    from Equal is e more = cc
    from Greater is e more = let f : Greater ≡ Less = sym is ∙ (e ∙ ap ordering_reverse is) in cc

pub at_most_less : (p q : Path) → order p.numbers q.numbers ≡ Less → IsAtMost p q
at_most_less p q less more = let e : Less ≡ Greater = sym less ∙ more in cc

pub at_most_back : (p q : Path) → order p.numbers q.numbers ≢ Less → IsAtMost q p
at_most_back p q off more = off (back_is p.numbers q.numbers ∙ ap ordering_reverse more)

pub at_most_trans : (p q r : Path) → IsAtMost p q → IsAtMost q r → IsAtMost p r
at_most_trans p q r a b = from (order p.numbers q.numbers) (order q.numbers r.numbers) refl refl
  where
    from : (x y : Ordering) → order p.numbers q.numbers ≡ x → order q.numbers r.numbers ≡ y → IsAtMost p r
    from Greater y is at more = a is
    from Less Greater is at more = b at
    from Less Less is at more = at_most_less p r (less_through p.numbers q.numbers r.numbers is at) more
    from Less Equal is at more =
        let back : order r.numbers q.numbers ≡ Equal = back_is r.numbers q.numbers ∙ ap ordering_reverse at in
        let over : order r.numbers p.numbers ≡ order q.numbers p.numbers = same_before r.numbers q.numbers p.numbers back in
        let first : order q.numbers p.numbers ≡ Greater = back_is q.numbers p.numbers ∙ ap ordering_reverse is in
        let last : order r.numbers p.numbers ≡ Less = back_is r.numbers p.numbers ∙ ap ordering_reverse more in
        let e : Less ≡ Greater = sym last ∙ (over ∙ first) in
        cc
    from Equal y is at more = b (sym (same_before p.numbers q.numbers r.numbers is) ∙ more)

pub lesser_new : (path : Path) → IsLesser None path path
lesser_new path = record { among = inl refl; at_most = at_most_itself path; at_most_first = λ p e. absurd (cc) }

pub lesser_less : (first path : Path) → order path.numbers first.numbers ≡ Less → IsLesser (Some first) path path
lesser_less first path less = record { among = inl refl; at_most = at_most_itself path; at_most_first = λ p e. let same : first ≡ p = cc in subst (λ q. IsAtMost path q) same (at_most_less path first less) }

pub lesser_not : (first path : Path) → order path.numbers first.numbers ≢ Less → IsLesser (Some first) path first
lesser_not first path off = record { among = inr refl; at_most = at_most_back path first off; at_most_first = λ p e. let same : first ≡ p = cc in subst (λ q. IsAtMost first q) same (at_most_itself first) }

-- ---- the walk over the slots

-- one task stands below a slot
one_low : (frames : Frames Activation) (slot a b : ℕ) → IsLowestBelow frames slot a → IsLowestBelow frames slot b → a ≡ b
one_low frames slot a b (lowest s n at is_low) other = from b other
  where
    from : (b : ℕ) → IsLowestBelow frames s b → s ≡ b
    from b (lowest t k there too) = refl
    from b (under t caller l k there off has rest) = absurd (off (subst (λ (x : Node Activation). IsLowest x) (same_node (node_at frames s) n k at there) is_low))
one_low frames slot a b (under s caller l n at off has rest) other = from b other (λ c x. one_low frames caller a c rest x)
  where
    from : (b : ℕ) → IsLowestBelow frames s b → ((c : ℕ) → IsLowestBelow frames caller c → a ≡ c) → a ≡ b
    from b (lowest t k there too) more = absurd (off (subst (λ (x : Node Activation). IsLowest x) (same_node (node_at frames s) k n there at) too))
    from b (under t up low k there high has_up below) more =
        let same : n ≡ k = same_node (node_at frames s) n k at there in
        let e : Some caller ≡ Some up = sym has ∙ (ap (λ (x : Node Activation). x.parent) same ∙ has_up) in
        let one : caller ≡ up = cc in
        more low (subst (λ x. IsLowestBelow frames x low) (sym one) below)

one_name : (frames : Frames Activation) (slot : ℕ) (p q : Path) → IsNamedBelow frames slot p → IsNamedBelow frames slot q → p ≡ q
one_name frames slot p q a b =
    let one : a.low ≡ b.low = one_low frames slot a.low b.low a.below b.below in
    let same : a.lowest ≡ b.lowest = same_node (node_at frames a.low) a.lowest b.lowest a.stands (subst (λ x. node_at frames x ≡ Some b.lowest) (sym one) b.stands) in
    sym a.named ∙ (ap (λ (x : Node Activation). x.path) same ∙ b.named)

pub advances_ready : (frames : Frames Activation) (slot : ℕ) (first : Option Path) (path least : Path) → IsReadyAt frames slot path → IsLesser first path least → Advances frames slot first (Some least)
advances_ready frames slot first path least ready l =
    record {
      among = elim l.among [ inl e ↦ inr (subst (λ p. IsReadyAt frames slot p) (sym e) ready) | inr e ↦ inl e ];
      at_most = λ p e. l.at_most_first p e;
      covers = λ tree p r. subst (λ q. IsAtMost least q) (one_name frames slot path p ready.task r.task) l.at_most;
    }

pub advances_not : (frames : Frames Activation) (slot : ℕ) (first : Option Path) → (IsTree frames → ¬ IsSomeAnd (frame_at frames slot) IsReady) → Advances frames slot first first
advances_not frames slot first absent =
    record {
      among = by first;
      at_most = λ p e. rw e (at_most_itself p);
      covers = λ tree p r. absurd (absent tree (rw r.stands r.ready));
    }
  where
    by : (o : Option Path) → IfSome o (λ path. (o ≡ Some path) ⊎ IsReadyAt frames slot path)
    by None = tt
    by (Some p) = inl refl

pub ready_if : (frames : Frames Activation) (slot : ℕ) (top : Node Activation) → node_at frames slot ≡ Some top → IsReady top.frame → (o : Option Path) → IfSome o (IsNamedBelow frames slot) → IfSome o (IsReadyAt frames slot)
ready_if frames slot top stands ready None below = tt
ready_if frames slot top stands ready (Some p) below = record { top = top; stands = stands; ready = ready; task = below }

abbrev pub Found : Frames Activation → Option Path → Type 0
Found frames o = IfSome o (λ path. (slot : ℕ) × IsReadyAt frames slot path)

abbrev pub Covered : Frames Activation → ℕ → Option Path → Type 0
Covered frames slot o = (path : Path) → IsReadyAt frames slot path → IsSomeAnd o (λ least. IsAtMost least path)

pub found_next : (frames : Frames Activation) (slot : ℕ) (first next : Option Path) → Advances frames slot first next → Found frames first → Found frames next
found_next frames slot first next a found = from next a.among
  where
    from : (o : Option Path) → IfSome o (λ path. (first ≡ Some path) ⊎ IsReadyAt frames slot path) → Found frames o
    from None among = tt
    from (Some p) among = elim among [ inl e ↦ subst (λ o. Found frames o) e found | inr r ↦ (slot, r) ]

pub covered_next : (frames : Frames Activation) (slot other : ℕ) (first next : Option Path) → Advances frames slot first next → Covered frames other first → Covered frames other next
covered_next frames slot other first next a covered path r = from first refl (covered path r)
  where
    through : (p : Path) (o : Option Path) → IsAtMost p path → IsSomeAnd o (λ least. IsAtMost least p) → IsSomeAnd o (λ least. IsAtMost least path)
    through p None at low = low
    through p (Some l) at low = at_most_trans l p path low at

    from : (o : Option Path) → first ≡ o → IsSomeAnd o (λ least. IsAtMost least path) → IsSomeAnd next (λ least. IsAtMost least path)
    from None is none = absurd none
    from (Some p) is at = through p next at (a.at_most p is)

pub listed_node : (frames : Frames Activation) (slot : ℕ) (node : Node Activation) → node_at frames slot ≡ Some node → Contains (entries_from 0 frames.nodes) (slot, node)
listed_node frames slot node stands = (Contains-entries (record { slots = frames.nodes; vacant_key = 0; capacity = 0 }) slot node).1 stands

-- ---- ready tasks

free_is : (w : Wait) → wait_of w ≡ defined.Free → w ≡ wait.Nothing
free_is wait.Nothing e = refl
free_is (wait.Region region) e = absurd (cc)
free_is (wait.Call child register) e = absurd (cc)

module _ (stage : Stage) (m : Machine) (state : IsState stage m) where
  -- a top that is ready is a ready task's
  pub ready_status : (slot : ℕ) (path : Path) → IsReadyAt stage.run.cactus slot path → status_in (workers_of stage) m path ≡ Some running.Ready
  ready_status slot path r =
      let none : r.top.frame.callee ≡ None = subst (λ w. CalleeStands stage.run.cactus r.top w r.top.frame.callee) r.ready.free (state.shown.agrees.nodes slot r.top r.stands).callee in
      let status : running.status_of (workers_of stage) m (place_of r.task.lowest) ≡ Some running.Ready =
      status_of_slots stage m state slot r.top r.task.lowest r.stands
      (lowest_is_task stage m state r.task.low r.task.lowest r.task.stands (lowest_low stage m state slot r.task.low r.task.below r.task.lowest r.task.stands))
      (top_of_slots stage m state slot r.task.low r.task.below r.top r.task.lowest r.stands r.task.stands none)
      ∙ rw (r.ready.unheld, r.ready.free) refl in
      subst (λ (p : Path). status_in (workers_of stage) m p ≡ Some running.Ready) r.task.named status

  -- the top of a ready task
  pub ready_found : (path : Path) → status_in (workers_of stage) m path ≡ Some running.Ready → (slot : ℕ) × IsReadyAt stage.run.cactus slot path
  ready_found path is = by_task (running.is_task (reverse path.numbers) (m.core.frames (reverse path.numbers))) refl is
    where
      by_slots : running.is_task (reverse path.numbers) (m.core.frames (reverse path.numbers)) ≡ true → (low slot : ℕ) (base node : Node Activation) → node_at stage.run.cactus low ≡ Some base → place_of base ≡ reverse path.numbers → node_at stage.run.cactus slot ≡ Some node → place_of node ≡ (running.top_of m.core (reverse path.numbers)) →
          node.frame.runner ≡ None → node.frame.frame.waits ≡ wait.Nothing → (s : ℕ) × IsReadyAt stage.run.cactus s path
      by_slots task low slot base node at low_place stands place unheld free =
          let on : OnTask m.core (reverse path.numbers) (running.top_of m.core (reverse path.numbers)) = ((parts stage m state).top (reverse path.numbers) (reverse path.numbers) (is_lowest task)).0 in
          let numbers : base.path.numbers ≡ path.numbers = sym (reverse-reverse base.path.numbers) ∙ (ap (λ (l : List ℕ). reverse l) low_place ∙ reverse-reverse path.numbers) in (
            slot,
            record {
              top = node;
              stands = stands;
              ready = record { unheld = unheld; free = free };
              task = record {
                low = low;
                below = lowest_of stage m state (reverse path.numbers) (running.top_of m.core (reverse path.numbers)) on slot low node base stands place at low_place;
                lowest = base;
                stands = at;
                named = ap (λ (l : List ℕ). record { numbers = l }) numbers;
              };
            },
          )

      by_top : running.is_task (reverse path.numbers) (m.core.frames (reverse path.numbers)) ≡ true → (f : defined.Frame) → m.core.frames (reverse path.numbers) ≡ Some f → (g : defined.Frame) → m.core.frames (running.top_of m.core (reverse path.numbers)) ≡ Some g → running.holder (workers_of stage) m.hands (running.top_of m.core (reverse path.numbers)) ≡ None → g.waits ≡ defined.Free → (s : ℕ) × IsReadyAt stage.run.cactus s path
      by_top task f at g over none free =
          let (low, base, there, low_place) = slot_of stage m state (reverse path.numbers) f at in
          let (slot, node, stands, place) = slot_of stage m state (running.top_of m.core (reverse path.numbers)) g over in
          let here = here_at stage m state slot node stands in
          let e : Some here.frame ≡ Some g = sym here.is ∙ (ap m.core.frames place ∙ over) in
          let same : here.frame ≡ g = cc in
          let runner : node.frame.runner ≡ None = sym (holder_is (program_of stage) stage.places m stage.run state.shown slot node stands) ∙ (ap (λ p. running.holder (workers_of stage) m.hands p) place ∙ none) in
          by_slots task low slot base node there low_place stands place runner (free_is node.frame.frame.waits (sym here.waits ∙ (ap (λ (h : defined.Frame). h.waits) same ∙ free)))

      by_wait : (w : defined.Wait) → running.waiting_status w ≡ Some running.Ready → w ≡ defined.Free
      by_wait defined.Free e = refl
      by_wait (defined.OnRegion r) e = absurd (let f : Some (running.Stalled r) ≡ Some running.Ready = e in cc)
      by_wait (defined.OnCall j d) e = absurd (let f : None ≡ Some running.Ready = e in cc)
      by_wait defined.Halted e = absurd (let f : None ≡ Some running.Ready = e in cc)

      by_holder : (o : Option ℕ) (h : Option defined.Frame) → running.holder (workers_of stage) m.hands (running.top_of m.core (reverse path.numbers)) ≡ o → m.core.frames (running.top_of m.core (reverse path.numbers)) ≡ h → running.status_at h o ≡ Some running.Ready → (g : defined.Frame) × (m.core.frames (running.top_of m.core (reverse path.numbers)) ≡ Some g) × (running.holder (workers_of stage) m.hands (running.top_of m.core (reverse path.numbers)) ≡ None) × (g.waits ≡ defined.Free)
      by_holder (Some w) h held over e = absurd (let f : Some (running.Running w) ≡ Some running.Ready = e in cc)
      by_holder None None held over e = absurd (let f : None ≡ Some running.Ready = e in cc)
      by_holder None (Some g) held over e = (g, over, held, by_wait g.waits e)

      by_frame : (o : Option defined.Frame) → m.core.frames (reverse path.numbers) ≡ o → running.is_task (reverse path.numbers) o ≡ true → (f : defined.Frame) × (m.core.frames (reverse path.numbers) ≡ Some f)
      by_frame None at e = absurd (let f : false ≡ true = e in cc)
      by_frame (Some f) at e = (f, at)

      by_task : (b : Bool) → running.is_task (reverse path.numbers) (m.core.frames (reverse path.numbers)) ≡ b → cond b (running.top_status (workers_of stage) m (running.top_of m.core (reverse path.numbers))) None ≡ Some running.Ready → (s : ℕ) × IsReadyAt stage.run.cactus s path
      by_task false task e = absurd (let f : None ≡ Some running.Ready = e in cc)
      by_task true task e =
          let (f, at) = by_frame (m.core.frames (reverse path.numbers)) refl task in
          let (g, over, none, free) = by_holder (running.holder (workers_of stage) m.hands (running.top_of m.core (reverse path.numbers))) (m.core.frames (running.top_of m.core (reverse path.numbers))) refl refl e in
          by_top task f at g over none free

  -- ---- what the walk over the slots found

  pub first_is : (slot : ℕ) (path : Path) → IsReadyAt stage.run.cactus slot path → ((s : ℕ) (q : Path) → IsReadyAt stage.run.cactus s q → IsAtMost path q) → IsFirstReady (workers_of stage) m path
  first_is slot path here covers =
      record {
        ready = ready_status slot path here;
        least = λ other is. let (s, r) = ready_found other is in covers s other r;
      }

  pub none_is : ((s : ℕ) (q : Path) → ¬ IsReadyAt stage.run.cactus s q) → IsNoneReady (workers_of stage) m
  none_is covers path is = let (s, r) = ready_found path is in covers s path r

  -- what a walk over all slots found
  pub least_found : (o : Option Path) → Found stage.run.cactus o → (IsTree stage.run.cactus → (s : ℕ) (n : Node Activation) → node_at stage.run.cactus s ≡ Some n → Covered stage.run.cactus s o) → IfSome o (IsFirstReady (workers_of stage) m)
  least_found None found covers = tt
  least_found (Some p) found covers = first_is found.0 p found.1 (λ s q r. covers state.shown.agrees.tree s r.top r.stands q r)

  pub none_found : (o : Option Path) → (IsTree stage.run.cactus → (s : ℕ) (n : Node Activation) → node_at stage.run.cactus s ≡ Some n → Covered stage.run.cactus s o) → IfNone o (IsNoneReady (workers_of stage) m)
  none_found (Some p) covers = tt
  none_found None covers = none_is (λ s q r. covers state.shown.agrees.tree s r.top r.stands q r)
