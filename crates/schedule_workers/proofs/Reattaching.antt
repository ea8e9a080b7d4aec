-- A reattach of the frame in a slot: the child ends, and its worker goes on with the parent or is idle.
use Rattle.std.proofs.Common.{◌≡◌, ◌≢◌, ℕ, zero, suc, ◌+◌, ◌-◌, ◌<◌, List, [], ◌∷◌, ◌++◌, length, max, reverse, Option, Some, None, Bool, true, false, cond, ◌&&◌, eqb, eq-eqb, not, inl, inr, refl, sym, ap, ◌∙◌, subst, arith, ℤ, ◌+ℤ◌}
use Rattle.std.specs.Prelude.{◌↔◌, IsSome, pos, slice_get}
use Rattle.std.specs.Option.{option_map_or}
use Rattle.std.specs.Vec.{with_item}
use Rattle.std.proofs.lemmas.Bool.Decides.{eqb_tells}
use Rattle.std.proofs.lemmas.List.{length-append, reverse-reverse}
use Rattle.std.proofs.lemmas.Option.{slice_get_within}
use Rattle.linear.specs.declared.form.RegisterId.{RegisterId}
use Rattle.semantics.specs.Arithmetic.{Unmatched}
use Rattle.semantics.specs.Paths.{Path}
use Rattle.semantics.specs.Frames.{Frame as Shown, Role, cells_of, Body, Child, Ends, item_at}
use Rattle.semantics.specs.Effect.{Reattach, action_of, item_action, reattaches}
use Rattle.semantics.specs.State.{State, Change, act, apply, override, may_go, childless, none_within, outside}
use Rattle.semantics.specs.State.{outside_role, change_of_frame, reattach_change}
use Rattle.semantics.specs.CoreSteps.{children_within}
use Rattle.semantics.specs.Counts.{changed_at, count_of, counts_after, left_by, lowered}
use Rattle.semantics.specs.Events as running
use Rattle.semantics.specs.Events.{Machine, Step, event}
use Rattle.semantics.proofs.Steps.{change_is, reattach, some_same}
use Rattle.semantics.proofs.Places.{same_path_tells, same_path_apart, only_here, only_off}
use Rattle.semantics.proofs.Actions.{reattach_is_child, same_path_itself}
use Rattle.semantics.proofs.ChildCounts.{count_at, counted_none, none_counted, step_counts}
use Rattle.program.specs.declared.function.Function.{Function}
use Rattle.program.specs.declared.identifier.BlockId.{BlockId}
use Rattle.program.specs.declared.function.Program.{Program}
use Rattle.program.specs.declared.identifier.ObjectName.TheVariants as object
use Rattle.program.specs.declared.instruction.Terminator.TheVariants as terminator
use Rattle.frame.specs.declared.frame.Role.{Role as RoleOf}
use Rattle.frame.specs.declared.frame.Role.TheVariants as role
use Rattle.frame.specs.declared.frame.Wait.{Wait}
use Rattle.frame.specs.declared.frame.Wait.TheVariants as wait
use Rattle.frame.specs.Reading.{role_of, wait_of}
use Rattle.cactus.specs.declared.node.Node.{Node}
use Rattle.cactus.specs.Frames.{Frames, Lives, IsRemoved, frame_at, node_at}
use Rattle.cactus.specs.ByPath.{named, Binds, IsBelow, ShrinksMap}
use Rattle.cactus.specs.Lending.{with_frame}
use Rattle.cactus.proofs.FramesLemmas.{node_at-with_frame, node_at-with_frame_other}
use Rattle.cactus.proofs.ByPathLemmas.{written_binds}
use Rattle.sync_join.specs.declared.count.RegionCount.{RegionCount}
use Rattle.frame_engine.specs.declared.activation.Frame.{Frame}
use Rattle.frame_engine.specs.declared.activation.Places.{Places}
use Rattle.frame_engine.specs.Activation.{FrameFits, ShowsFrame, allocas_of}
use Rattle.frame_engine.specs.Shows.{Layout, TrapFree}
use Rattle.schedule_workers.specs.declared.activation.Activation.{Activation}
use Rattle.schedule_workers.specs.declared.run.Run.{Run}
use Rattle.schedule_workers.specs.Scheduling.{hand_of, counted_in}
use Rattle.schedule_workers.specs.Layouts.{alloca_at, alloca_cells, layout_of, number_in, object_at, own_at, own_cells}
use Rattle.schedule_workers.specs.RunShown.{CalleeStands, HasBlock, HasTaker, IsShown, ShowsAt, ShowsNode, item_here, place_of}
use Rattle.schedule_workers.specs.Forking.{resumed_by_child, resumed_unheld}
use Rattle.schedule_workers.specs.Going.{CanStep, RunsSafely}
use Rattle.schedule_workers.proofs.Leaving as leaving
use Rattle.schedule_workers.proofs.Leaving.{remains, tested}
pub use Rattle.schedule_workers.proofs.Leaving.{none_some}
use Rattle.schedule_workers.proofs.Onward.{seen, standing}
use Rattle.schedule_workers.proofs.Standing.{can_step, may_go_on}
use Rattle.schedule_workers.proofs.Syncing.{LeadsTo, chosen}
use Rattle.schedule_workers.proofs.Topmost.{holder_is, reverse_last}
use Rattle.schedule_workers.proofs.Views.{named_at_place}
use Rattle.schedule_workers.proofs.Changed.{Holds, Told, alike, anew, changed, changed_shown, kept_holds}
use Rattle.schedule_workers.proofs.Handing.{hands_after, held_then, others_stay, seen_at, seen_then, taken_up}

-- ---- which action

reattaches_own : (f : Shown) (r n : ℕ) (o : Role) → TrapFree (reattaches f r n o) → reattaches f r n o ≡ Reattach r
reattaches_own f r n Body free = absurd cc
reattaches_own f r n (Child x y) free = chosen (eqb x r && eqb y n) (Reattach r) f Unmatched free

not_a_body : (x y : ℕ) → Child x y ≡ Body → ⊥
not_a_body x y e = cc

free_runner : (x : Option ℕ) (t : Wait) (made left child region : ℕ) → resumed_by_child x t made left child region ≡ true → x ≡ None
free_runner None t made left child region e = refl
free_runner (Some v) t made left child region e = absurd (let f : false ≡ true = e in cc)

-- ---- numbers of children

none_counts : (s : State) (q : Path) (r n : ℕ) → none_within s q n r ≡ eqb (children_within s q n r) 0
none_counts s q r n = from (none_within s q n r) refl
  where
    from : (b : Bool) → none_within s q n r ≡ b → none_within s q n r ≡ eqb (children_within s q n r) 0
    from true e = e ∙ sym (ap (λ x. eqb x 0) (none_counted s q r n e))
    from false e =
        elim (eqb_tells (children_within s q n r) 0) [
          | inl h ↦ absurd (let t : none_within s q n r ≡ true = counted_none s q r n h.1 in cc)
          | inr h ↦ e ∙ sym h.0
        ]

-- a living child of the region is counted
child_counted : (s : State) (q : Path) (r k n : ℕ) → k < n → outside r (s.frames (k ∷ q)) ≡ false → 0 < children_within s q n r
child_counted s q r k zero low is = absurd (omega (arith, low))
child_counted s q r k (suc n) low is =
    elim (eqb_tells k n) [
      | inl e ↦ here (outside r (s.frames (n ∷ q))) (subst (λ j. outside r (s.frames (j ∷ q)) ≡ false) e.1 is)
      | inr e ↦ later (outside r (s.frames (n ∷ q))) (child_counted s q r k n (let differ = e.1 in omega (arith, low, differ)) is)
    ]
  where
    here : (b : Bool) → b ≡ false → 0 < cond b (children_within s q n r) (suc (children_within s q n r))
    here true e = absurd (cc)
    here false e = omega arith

    later : (b : Bool) → 0 < children_within s q n r → 0 < cond b (children_within s q n r) (suc (children_within s q n r))
    later true h = h
    later false h = omega arith

unheld_place : (b : Bool) (x : Path) → running.unless_held None b x ≡ cond b (Some x) None
unheld_place true x = refl
unheld_place false x = refl

-- ---- what the code knows of the parent

-- the parent that was found has lost the child of this number
pub record HasLost (r number : ℕ) (goes : Bool) (lost found : Activation) : Type 0 where
  pub only : lost ≡ record found { counts = lost.counts }
  pub as_many : length lost.counts.items ≡ length found.counts.items
  pub counted : (x : ℕ) → counted_in lost x ≡ cond (eqb r x) (counted_in found r - 1) (counted_in found x)
  pub resumed : goes ≡ resumed_by_child found.runner found.frame.waits found.frame.made (counted_in lost r) number r

last_at : (xs : List ℕ) (x : ℕ) → slice_get (xs ++ x ∷ []) (length (xs ++ x ∷ []) - 1) ≡ Some x
last_at xs x =
    let long : length (xs ++ x ∷ []) ≡ length xs + 1 = length-append xs (x ∷ []) in
    let at : length (xs ++ x ∷ []) - 1 ≡ length xs = omega (arith, long) in
    ap (slice_get (xs ++ x ∷ [])) at ∙ at_end xs
  where
    at_end : (ys : List ℕ) → slice_get (ys ++ x ∷ []) (length ys) ≡ Some x
    at_end [] = refl
    at_end (y ∷ ys) = at_end ys

-- who is called depends on the caller's path alone
moved_callee : (frames : Frames Activation) (x y : Node Activation) → x.path.numbers ≡ y.path.numbers → (t : Wait) (o : Option ℕ) → CalleeStands frames x t o → CalleeStands frames y t o
moved_callee frames x y same wait.Nothing o h = h
moved_callee frames x y same (wait.Region region) o h = h
moved_callee frames x y same (wait.Call number register) o h =
    let (s, called, at, there, path) = h in
    (s, called, at, there, path ∙ ap (λ (xs : List ℕ). xs ++ number ∷ []) same)

-- ---- the event

module _ (prog : Program) (places : Places) (k : Run) (slot : ℕ) (node : Node Activation) (stands : node_at k.cactus slot ≡ Some node) (m : Machine) (shown : IsShown prog places m k)
    (r : RegisterId) (n : BlockId) (item : item_here prog node.frame.frame ≡ Some (Ends (terminator.Reattach r n)))
    (w : ℕ) (hand : hand_of k.hands.items w ≡ Some slot) (safe : RunsSafely prog (length k.hands.items) m) where
  abbrev p : Path
  p = place_of node

  abbrev a : Activation
  a = node.frame

  abbrev workers : ℕ
  workers = length k.hands.items

  abbrev l : Layout
  l = layout_of prog places k.cactus m.core

  abbrev g : Shown
  g = (seen prog places k slot node a stands m shown).frame

  abbrev is_g : m.core.frames p ≡ Some g
  is_g = (seen prog places k slot node a stands m shown).is

  abbrev shows_g : ShowsFrame l places p g a.frame
  shows_g = (seen prog places k slot node a stands m shown).shows.shown

  can : CanStep prog m p g
  can = can_step prog workers w p m g m.core.memory (standing prog places k slot node a stands m shown w hand safe)

  acts : action_of prog p g m.core.memory ≡ Reattach r.0
  acts =
      let t = shows_g in
      let placed : item_at prog g.function g.block g.index ≡ Some (Ends (terminator.Reattach r n)) = (λ j. item_at prog (t.function j) (t.block j) (t.index j)) ∙ item in
      let here = ap (item_action prog p g m.core.memory) placed in
      let free = (can.safe (object_at places k.cactus)).trap_free in
      here ∙ reattaches_own g r.0 n.0 g.role (subst TrapFree here free)

  go : may_go m.core p g.made g.waits ≡ true
  go = may_go_on prog workers w p m g is_g can.goes

  is_child : (y : ℕ) × (g.role ≡ Child r.0 y)
  is_child = reattach_is_child prog p g m.core.memory r.0 acts

  child_role : a.frame.role ≢ role.Body
  child_role e = not_a_body r.0 is_child.0 (sym is_child.1 ∙ (shows_g.role ∙ ap role_of e))

  none : childless m.core p g.made ≡ true
  none =
      let some : IsSome (change_of_frame prog m.core p (Some g)) = subst (λ (o : Option Shown). IsSome (change_of_frame prog m.core p o)) is_g can.goes in
      let acted : IsSome (act m.core p g (action_of prog p g m.core.memory)) = subst (λ b. IsSome (cond b (act m.core p g (action_of prog p g m.core.memory)) None)) go some in
      tested (childless m.core p g.made) (Some (reattach_change p)) (subst (λ x. IsSome (act m.core p g x)) acts acted)

  pub done_room : k.instructions + 2 < 9223372036854775808
  done_room = let x = (safe []).counted in let y = shown.shows.done in omega (arith, x, y)

  abbrev change : Change
  change = reattach_change p

  abbrev next_place : Option Path
  next_place = running.after_reattach workers m (apply change m.core) p r.0

  abbrev next : Machine
  next = running.stepped m w change next_place

  happens : event prog workers (Step w) m ≡ Some next
  happens =
      let s = standing prog places k slot node a stands m shown w hand safe in
      ap (λ t. running.unless_trapped t (running.by_hand prog workers m w (m.hands w))) s.sound
      ∙ ap (running.by_hand prog workers m w) s.hand
      ∙ ap (running.by_frame prog workers m w p) is_g
      ∙ ap (λ o. Some (running.by_change prog workers m w p g o)) (change_is prog m.core p change (reattach g r.0 is_child.0 is_g go acts none is_child.1))
      ∙ ap (λ x. Some (running.stepped m w change (running.next_hand workers m next.core p g x))) acts

  gone : next.core.frames p ≡ None
  gone = ap (λ o. override o (m.core.frames p)) (only_here p None)

  off : (x : Path) → p ≢ x → next.core.frames x ≡ m.core.frames x
  off x away = ap (λ o. override o (m.core.frames x)) (only_off p x None away)

  follow : (x : Path) (y : ℕ) → count_of next.core x y ≡ counts_after p (Reattach r.0) (count_of m.core) x y
  follow x y =
      step_counts prog m.core (safe []).tree p change (reattach g r.0 is_child.0 is_g go acts none is_child.1) g is_g x y
      ∙ ap (λ z. counts_after p z (count_of m.core) x y) acts

  no_depth : (x : ℕ) → max x 0 ≡ x
  no_depth x = omega arith

  -- ---- the frames

  -- nobody calls the child
  not_called : (x : ℕ) (y : Node Activation) (number : ℕ) (register : Option RegisterId) (s : ℕ) (called : Node Activation) → node_at k.cactus x ≡ Some y → y.frame.frame.waits ≡ wait.Call number register → node_at k.cactus s ≡ Some called → called.path.numbers ≡ y.path.numbers ++ number ∷ [] → s ≢ slot
  not_called x y number register s called here calls there path e =
      let same : called ≡ node = some_same called node (sym there ∙ (ap (node_at k.cactus) e ∙ stands)) in
      let place : p ≡ number ∷ place_of y = ap (λ (z : Node Activation). place_of z) (sym same) ∙ (ap reverse path ∙ reverse_last y.path.numbers number) in
      let y_seen = seen prog places k x y y.frame here m shown in
      let (h, lives, body) = (safe []).tree.lives number register (place_of y) y_seen.frame y_seen.is (y_seen.shows.waits ∙ ap wait_of calls) in
      let one : h ≡ g = some_same h g (sym lives ∙ (ap m.core.frames (sym place) ∙ is_g)) in
      not_a_body r.0 is_child.0 (sym is_child.1 ∙ (ap (λ (z : Shown). z.role) (sym one) ∙ body))

  module _ (within : w < length k.hands.items) (mid : Frames Activation) (removed : IsRemoved k.cactus mid slot) (shrinks : ShrinksMap k.cactus mid slot node) where
    abbrev binds : Binds k.cactus mid node.path.numbers None
    binds = shrinks shown.agrees.tree (leaving.leaf prog places k slot node stands m shown (safe []).tree g is_g none)

    left_there : (x : ℕ) (y : Node Activation) → node_at mid x ≡ Some y → (x ≢ slot) × (node_at k.cactus x ≡ Some y)
    left_there = remains k.cactus mid slot removed

    -- where frames stand that are those of mid, but for one that is written
    module _ (frames : Frames Activation) (still : (x : ℕ) (y : Node Activation) → x ≢ slot → node_at k.cactus x ≡ Some y → (z : Node Activation) × (node_at frames x ≡ Some z) × (z.path ≡ y.path)) where
      callee_still : (x : ℕ) (y : Node Activation) → node_at k.cactus x ≡ Some y → (t : Wait) → y.frame.frame.waits ≡ t → (o : Option ℕ) → CalleeStands k.cactus y t o → CalleeStands frames y t o
      callee_still x y here wait.Nothing is o h = h
      callee_still x y here (wait.Region region) is o h = h
      callee_still x y here (wait.Call number register) is o h =
          let (s, called, at, there, path) = h in
          let (z, now, same) = still s called (not_called x y number register s called here is there path) there in
          (s, z, at, now, ap (λ t. t.numbers) same ∙ path)

    told_child : (frames : Frames Activation) (o : Option ℕ) (next_peak : ℕ) → named frames (reverse p) ≡ None → Told prog places m next k frames next_peak (hands_after prog places m k shown slot node stands w hand within o) p
    told_child frames o next_peak here =
        anew
        (subst (λ (x : Option Shown). ShowsAt l places p x (named frames (reverse p))) (sym gone) (subst (λ (x : Option (Node Activation)). ShowsAt l places p None x) (sym here) tt))
        (λ x. ap (λ y. alloca_cells prog y x) gone ∙ (no_cells x ∙ sym (ap (λ y. alloca_cells prog y x) is_g)))
        (λ x. ap (λ y. alloca_at places y x) here ∙ (no_start x ∙ sym (ap (λ y. alloca_at places y x) (named_at_place k.cactus shown.agrees.tree slot node stands))))
      where
        own_none : (t : Role) (y : ℕ) (cells : ℕ) → t ≡ Child r.0 y → 0 ≡ own_cells t cells
        own_none Body y cells e = absurd (cc)
        own_none (Child s c) y cells e = refl

        no_cells : (x : ℕ) → 0 ≡ alloca_cells prog (Some g) x
        no_cells x = own_none g.role is_child.0 (cells_of prog g.function (object.Alloca (record { 0 = x }))) is_child.1

        starts_none : (t : RoleOf) (z : ℤ) → t ≢ role.Body → pos 0 ≡ own_at t z
        starts_none role.Body z e = absurd (e refl)
        starts_none (role.Child s c) z e = refl

        no_start : (x : ℕ) → pos 0 ≡ alloca_at places (Some node) x
        no_start x = starts_none a.frame.role (a.frame.home +ℤ number_in (allocas_of places a.frame.function.0) x) child_role

    -- ---- a child without a parent

    module _ (root : node.parent ≡ None) where
      at_root : p ≡ []
      at_root = ap reverse (shown.agrees.tree.root slot node stands root)

      still_mid : (x : ℕ) (y : Node Activation) → x ≢ slot → node_at k.cactus x ≡ Some y → (z : Node Activation) × (node_at mid x ≡ Some z) × (z.path ≡ y.path)
      still_mid = leaving.still_there prog places k slot node stands m shown (safe []).tree mid removed

      counts_same : (x : Path) (y : ℕ) → count_of next.core x y ≡ count_of m.core x y
      counts_same x y = follow x y ∙ ap (λ z. left_by z r.0 (count_of m.core) x y) at_root

      pub root_ends : LeadsTo prog places k (changed prog places m next k mid k.peak (with_item k.hands w None)) w m
      root_ends = (
        next,
        happens,
        changed_shown prog places m next k mid k.peak (with_item k.hands w None) shown (record {
          tree = binds.tree;
          told = λ x. elim (same_path_tells p x) [
            | inl h ↦ subst (λ y. Told prog places m next k mid k.peak (with_item k.hands w None) y) h.1 (told_child mid None k.peak (ap (named mid) (reverse-reverse node.path.numbers) ∙ binds.here))
            | inr h ↦ alike (off x h.1) (binds.elsewhere (reverse x) (λ y. h.1 (ap reverse (sym y) ∙ reverse-reverse x)))
          ];
          holds = λ x y here.
              let (away, was) = left_there x y here in
              kept_holds prog places m next k mid k.peak (with_item k.hands w None) shown x y (record {
                was = was;
                same_hands = others_stay prog places m k shown slot node stands w hand within None x away (none_some _);
                callee = callee_still mid still_mid x y was y.frame.frame.waits refl y.frame.callee (shown.agrees.nodes x y was).callee;
                counts = counts_same (place_of y);
              });
          seen = λ v. ap (λ z. running.with_hand m.hands w z v) (ap (λ z. running.after_reattach workers m (apply change m.core) z r.0) at_root) ∙ seen_then prog places m k shown slot node stands w hand within None mid None refl still_mid v;
          held = held_then prog places m k shown slot node stands w hand within None mid (λ x e. absurd (none_some x e)) still_mid;
          made = (let e = removed.made in omega (arith, e));
          memory = refl;
          done = omega arith;
          peak_is = no_depth m.core.peak ∙ shown.shows.peak;
          result = refl;
          sound = refl;
        }),
      )

    -- ---- a child and its parent

    module _ (up : ℕ) (has : node.parent ≡ Some up) where
      abbrev pub below : IsBelow k.cactus up node.path.numbers
      below = leaving.below prog places k slot node stands m shown (safe []).tree mid removed up has

      abbrev above : Node Activation
      above = below.above

      abbrev number : ℕ
      number = below.number

      abbrev pa : Path
      pa = place_of above

      place : p ≡ number ∷ pa
      place = leaving.place prog places k slot node stands m shown (safe []).tree mid removed up has

      apart : p ≢ pa
      apart = leaving.apart prog places k slot node stands m shown (safe []).tree mid removed up has

      up_away : up ≢ slot
      up_away = leaving.up_away prog places k slot node stands m shown (safe []).tree mid removed up has

      abbrev h : Shown
      h = (seen prog places k up above above.frame below.stands m shown).frame

      abbrev is_h : m.core.frames pa ≡ Some h
      is_h = (seen prog places k up above above.frame below.stands m shown).is

      abbrev shows_h : ShowsFrame l places pa h above.frame.frame
      shows_h = (seen prog places k up above above.frame below.stands m shown).shows.shown

      lives_below : m.core.frames (number ∷ pa) ≡ Some g
      lives_below = leaving.lives_below prog places k slot node stands m shown (safe []).tree mid removed up has g is_g

      below_made : number < h.made
      below_made =
          let (z, at, lt) = (safe []).tree.has_parent number pa g lives_below in
          let one : z ≡ h = some_same z h (sym at ∙ is_h) in
          subst (λ (y : Shown). number < y.made) one lt

      later_h : next.core.frames pa ≡ Some h
      later_h = off pa apart ∙ is_h

      follow_up : (x : Path) (y : ℕ) → count_of next.core x y ≡ changed_at pa r.0 lowered (count_of m.core) x y
      follow_up x y = follow x y ∙ ap (λ z. left_by z r.0 (count_of m.core) x y) place

      pub living_room : 0 < counted_in above.frame r.0
      living_room =
          let told : outside r.0 (m.core.frames (number ∷ pa)) ≡ false = ap (outside r.0) lives_below ∙ (ap (outside_role r.0) is_child.1 ∙ ap not (eq-eqb r.0 r.0 refl)) in
          let some : 0 < children_within m.core pa h.made r.0 = child_counted m.core pa r.0 number h.made below_made told in
          let same : counted_in above.frame r.0 ≡ children_within m.core pa h.made r.0 = shown.agrees.counts up r.0 above below.stands ∙ count_at m.core pa h r.0 is_h in
          omega (arith, some, same)

      pub counted_room : r.0 < length above.frame.counts.items
      counted_room = from (slice_get above.frame.counts.items r.0) refl living_room
        where
          from : (o : Option RegionCount) → slice_get above.frame.counts.items r.0 ≡ o → 0 < option_map_or (λ (x : RegionCount). x.living) (slice_get above.frame.counts.items r.0) 0 → r.0 < length above.frame.counts.items
          from None e some = absurd (let none : option_map_or (λ (x : RegionCount). x.living) (slice_get above.frame.counts.items r.0) 0 ≡ 0 = ap (λ o. option_map_or (λ (x : RegionCount). x.living) o 0) e in omega (arith, some, none))
          from (Some x) e some = slice_get_within above.frame.counts.items r.0 x e

      pub made_room : 0 < above.frame.frame.made
      made_room = let x = below_made in let y = shows_h.made in omega (arith, x, y)

      pub last_is : slice_get node.path.numbers (length node.path.numbers - 1) ≡ Some number
      last_is = subst (λ (xs : List ℕ). slice_get xs (length xs - 1) ≡ Some number) (sym below.is) (last_at above.path.numbers number)

      pub stays_mid : node_at mid up ≡ Some above
      stays_mid = leaving.stays_mid prog places k slot node stands m shown (safe []).tree mid removed up has

      pub lives_mid : Lives mid up
      lives_mid = leaving.lives_mid prog places k slot node stands m shown (safe []).tree mid removed up has

      pub found_above : (found : Activation) → frame_at mid up ≡ Some found → above.frame ≡ found
      found_above = leaving.found_above prog places k slot node stands m shown (safe []).tree mid removed up has

      module _ (c : Activation) (frame_is : c.frame ≡ above.frame.frame) (callee_is : c.callee ≡ above.frame.callee) (as_many : length c.counts.items ≡ length above.frame.counts.items)
          (counted : (x : ℕ) → counted_in c x ≡ cond (eqb r.0 x) (counted_in above.frame r.0 - 1) (counted_in above.frame x)) where
        abbrev frames : Frames Activation
        frames = with_frame mid up c

        abbrev later : Node Activation
        later = record above { frame = c }

        abbrev again : Binds mid frames above.path.numbers (Some later)
        again = written_binds mid up above c binds.tree stays_mid

        at_up : node_at frames up ≡ Some later
        at_up = node_at-with_frame mid up c above stays_mid

        at_other : (x : ℕ) → x ≢ up → node_at frames x ≡ node_at mid x
        at_other x away = node_at-with_frame_other mid up x c away

        still : (x : ℕ) (y : Node Activation) → x ≢ slot → node_at k.cactus x ≡ Some y → (z : Node Activation) × (node_at frames x ≡ Some z) × (z.path ≡ y.path)
        still x y away here =
            elim (eqb_tells up x) [
              | inl d ↦
                  let same : above ≡ y = some_same above y (sym below.stands ∙ subst (λ z. node_at k.cactus z ≡ Some y) (sym d.1) here) in
                  (later, subst (λ z. node_at frames z ≡ Some later) d.1 at_up, ap (λ (z : Node Activation). z.path) same)
              | inr d ↦ (y, at_other x (λ e. d.1 (sym e)) ∙ (removed.change.others x away ∙ here), refl)
            ]

        counts_here : (x : ℕ) → counted_in c x ≡ count_of next.core pa x
        counts_here x =
            let was : (y : ℕ) → counted_in above.frame y ≡ count_of m.core pa y = λ y. shown.agrees.counts up y above below.stands in
            elim (eqb_tells r.0 x) [
              | inl d ↦
                  counted x
                  ∙ (ap (λ t. cond t (counted_in above.frame r.0 - 1) (counted_in above.frame x)) d.0
                  ∙ (less (counted_in above.frame r.0)
                  ∙ (ap lowered (was r.0 ∙ ap (count_of m.core pa) d.1)
                  ∙ sym (follow_up pa x ∙ rw (same_path_itself pa, d.0) refl))))
              | inr d ↦ counted x ∙ (ap (λ t. cond t (counted_in above.frame r.0 - 1) (counted_in above.frame x)) d.0 ∙ (was x ∙ sym (follow_up pa x ∙ rw (same_path_itself pa, d.0) refl)))
            ]
          where
            less : (x : ℕ) → x - 1 ≡ lowered x
            less zero = let e : 0 - 1 ≡ 0 = omega arith in e
            less (suc x) = let e : suc x - 1 ≡ x = omega arith in e

        left : counted_in c r.0 ≡ children_within next.core pa h.made r.0
        left = counts_here r.0 ∙ count_at next.core pa h r.0 later_h

        -- ---- who goes on

        abbrev taken : Bool
        taken = resumed_by_child above.frame.runner above.frame.frame.waits above.frame.frame.made (counted_in c r.0) number r.0

        region_case : (x : ℕ) → eqb x r.0 && none_within next.core pa h.made x ≡ eqb x r.0 && eqb (counted_in c r.0) 0
        region_case x =
            elim (eqb_tells x r.0) [
              | inl d ↦ ap (λ t. eqb x r.0 && t) (none_counts next.core pa x h.made ∙ (ap (λ z. eqb (children_within next.core pa h.made z) 0) d.1 ∙ ap (λ z. eqb z 0) (sym left)))
              | inr d ↦ ap (λ t. t && none_within next.core pa h.made x) d.0 ∙ sym (ap (λ t. t && eqb (counted_in c r.0) 0) d.0)
            ]

        by_wait : (t : Wait) → h.waits ≡ wait_of t → running.may_be_taken next.core number pa r.0 h h.waits ≡ resumed_unheld t above.frame.frame.made (counted_in c r.0) number r.0
        by_wait wait.Nothing e = ap (running.may_be_taken next.core number pa r.0 h) e ∙ (let one : suc number ≡ number + 1 = omega arith in λ i. eqb (shows_h.made i) (one i))
        by_wait (wait.Region x) e = ap (running.may_be_taken next.core number pa r.0 h) e ∙ region_case x.0
        by_wait (wait.Call x y) e = ap (running.may_be_taken next.core number pa r.0 h) e

        by_runner : (o : Option ℕ) → running.unless_held o (running.may_be_taken next.core number pa r.0 h h.waits) pa ≡ cond (resumed_by_child o above.frame.frame.waits above.frame.frame.made (counted_in c r.0) number r.0) (Some pa) None
        by_runner None = unheld_place (running.may_be_taken next.core number pa r.0 h h.waits) pa ∙ ap (λ t. cond t (Some pa) None) (by_wait above.frame.frame.waits (seen prog places k up above above.frame below.stands m shown).shows.waits)
        by_runner (Some v) = refl

        next_is : next_place ≡ cond taken (Some pa) None
        next_is =
            ap (λ z. running.after_reattach workers m (apply change m.core) z r.0) place
            ∙ ap (running.takes_parent workers m (apply change m.core) number pa r.0) is_h
            ∙ ap (λ o. running.unless_held o (running.may_be_taken next.core number pa r.0 h h.waits) pa) (holder_is prog places m k shown up above below.stands)
            ∙ by_runner above.frame.runner

        -- ---- what is shown, whoever it is

        module _ (o : Option ℕ) where
          abbrev ToldAt : Path → Type 0
          ToldAt = Told prog places m next k frames k.peak (hands_after prog places m k shown slot node stands w hand within o)

          abbrev HoldsAt : ℕ → Node Activation → Type 0
          HoldsAt = Holds prog places m next k frames k.peak (hands_after prog places m k shown slot node stands w hand within o)

          told_parent : ToldAt pa
          told_parent =
              let here : named frames (reverse pa) ≡ Some later = ap (named frames) (reverse-reverse above.path.numbers) ∙ again.here in
              anew
              (subst (λ (x : Option Shown). ShowsAt l places pa x (named frames (reverse pa))) (sym later_h)
              (subst (λ (x : Option (Node Activation)). ShowsAt l places pa (Some h) x) (sym here)
              (subst (λ (x : Frame). ShowsNode l places pa h x) (sym frame_is) (seen prog places k up above above.frame below.stands m shown).shows)))
              (λ x. ap (λ y. alloca_cells prog y x) (off pa apart))
              (λ x. ap (λ y. alloca_at places y x) here
              ∙ (ap (λ (y : Frame). own_at y.role (y.home +ℤ number_in (allocas_of places y.function.0) x)) frame_is
              ∙ sym (ap (λ y. alloca_at places y x) (named_at_place k.cactus shown.agrees.tree up above below.stands))))

          told : (x : Path) → ToldAt x
          told x =
              elim (same_path_tells p x) [
                | inl d ↦ subst (λ y. ToldAt y) d.1 (told_child frames o k.peak
                    (again.elsewhere (reverse p) (λ e. apart (sym (reverse-reverse p) ∙ ap reverse e)) ∙ (ap (named mid) (reverse-reverse node.path.numbers) ∙ binds.here)))
                | inr d ↦ elim (same_path_tells pa x) [
                  | inl e ↦ subst (λ y. ToldAt y) e.1 told_parent
                  | inr e ↦ alike (off x d.1)
                      (again.elsewhere (reverse x) (λ y. e.1 (ap reverse (sym y) ∙ reverse-reverse x))
                      ∙ binds.elsewhere (reverse x) (λ y. d.1 (ap reverse (sym y) ∙ reverse-reverse x)))
                ]
              ]

          module _ (runs : (v : ℕ) → (c.runner ≡ Some v) ↔ (hand_of (hands_after prog places m k shown slot node stands w hand within o).items v ≡ Some up)) (one : (x : ℕ) → o ≡ Some x → up ≡ x) (sees : seen_at frames o ≡ next_place) where
            holds_parent : HoldsAt up later
            holds_parent =
                let before = shown.agrees.nodes up above below.stands in
                record {
                  runner = runs;
                  fits = record {
                    fits = subst (FrameFits prog) (sym frame_is) before.fits;
                    callee = subst (λ (x : Frame). CalleeStands frames later x.waits c.callee) (sym frame_is) (subst (λ x. CalleeStands frames later above.frame.frame.waits x) (sym callee_is) (moved_callee frames above later refl above.frame.frame.waits above.frame.callee (callee_still frames still up above below.stands above.frame.frame.waits refl above.frame.callee before.callee)));
                    taker = subst (λ (x : Frame). (y : Function) → slice_get prog.functions x.function.0 ≡ Some y → HasTaker (length y.registers) x.waits) (sym frame_is) before.taker;
                    counts = λ y is. as_many ∙ before.counts y (sym (ap (λ (x : Frame). slice_get prog.functions x.function.0) frame_is) ∙ is);
                  };
                  counts = counts_here;
                  block = subst (λ (x : Frame). HasBlock prog k.blocks.items k.lent up x) (sym frame_is) (shown.agrees.blocks.owned up above below.stands);
                }

            holds_other : (x : ℕ) (y : Node Activation) → x ≢ up → node_at mid x ≡ Some y → HoldsAt x y
            holds_other x y away here =
                let (off, was) = left_there x y here in
                kept_holds prog places m next k frames k.peak (hands_after prog places m k shown slot node stands w hand within o) shown x y (record {
                  was = was;
                  same_hands = others_stay prog places m k shown slot node stands w hand within o x off (λ e. away (sym (one x e)));
                  callee = callee_still frames still x y was y.frame.frame.waits refl y.frame.callee (shown.agrees.nodes x y was).callee;
                  counts = λ z. follow_up (place_of y) z ∙ rw (same_path_apart pa (place_of y) (λ e. away (shown.agrees.tree.distinct x up y above was below.stands (sym (reverse-reverse y.path.numbers) ∙ (ap reverse (sym e) ∙ reverse-reverse above.path.numbers))))) refl;
                })

            holds : (x : ℕ) (y : Node Activation) → node_at frames x ≡ Some y → HoldsAt x y
            holds x y here =
                elim (eqb_tells up x) [
                  | inl d ↦
                      let same : later ≡ y = some_same later y (sym at_up ∙ subst (λ z. node_at frames z ≡ Some y) (sym d.1) here) in
                      subst (λ z. HoldsAt z y) d.1 (subst (λ z. HoldsAt up z) same holds_parent)
                  | inr d ↦ holds_other x y (λ e. d.1 (sym e)) (sym (at_other x (λ e. d.1 (sym e))) ∙ here)
                ]

            ends : LeadsTo prog places k (changed prog places m next k frames k.peak (with_item k.hands w o)) w m
            ends = (
              next,
              happens,
              changed_shown prog places m next k frames k.peak (with_item k.hands w o) shown (record {
                tree = again.tree;
                told = told;
                holds = holds;
                seen = seen_then prog places m k shown slot node stands w hand within o frames next_place sees still;
                held = held_then prog places m k shown slot node stands w hand within o frames (λ x e. subst (λ z. Lives frames z) (one x e) lives_up) still;
                made = (let e = made_stays in let d = removed.made in omega (arith, e, d));
                memory = refl;
                done = omega arith;
                peak_is = no_depth m.core.peak ∙ shown.shows.peak;
                result = refl;
                sound = refl;
              }),
            )
              where
                lives_up : Lives frames up
                lives_up = rw at_up refl

                made_stays : frames.made ≡ mid.made
                made_stays = rw stays_mid refl

        -- the worker goes on with the parent
        pub resumes : taken ≡ true → c.runner ≡ Some w → LeadsTo prog places k (changed prog places m next k frames k.peak (with_item k.hands w (Some up))) w m
        resumes goes runs =
            let alone : above.frame.runner ≡ None = free_runner above.frame.runner above.frame.frame.waits above.frame.frame.made (counted_in c r.0) number r.0 goes in
            let by = taken_up prog places m k shown slot node stands w hand within (Some up) up refl
            (λ v differ e. none_some v (sym alone ∙ (shown.agrees.runners up v above below.stands).1 e)) in
            ends (Some up)
            (λ v. ((λ e. (by v).0 (sym runs ∙ e)), λ e. runs ∙ (by v).1 e))
            (λ x e. some_same up x e)
            (seen_up ∙ sym (next_is ∙ ap (λ t. cond t (Some pa) None) goes))
          where
            seen_up : seen_at frames (Some up) ≡ Some pa
            seen_up = rw at_up refl

        -- the worker is idle
        pub leaves : taken ≡ false → c.runner ≡ above.frame.runner → LeadsTo prog places k (changed prog places m next k frames k.peak (with_item k.hands w None)) w m
        leaves stops runner =
            let keeps = others_stay prog places m k shown slot node stands w hand within None up up_away (none_some _) in
            ends None
            (λ v. ((λ e. (keeps v).0 ((shown.agrees.runners up v above below.stands).0 (sym runner ∙ e))), λ e. runner ∙ (shown.agrees.runners up v above below.stands).1 ((keeps v).1 e)))
            (λ x e. absurd (none_some x e))
            (sym (next_is ∙ ap (λ t. cond t (Some pa) None) stops))

      -- ---- as the code has it

      module _ (found lost : Activation) (stood : frame_at mid up ≡ Some found) (last : ℕ) (is_last : slice_get node.path.numbers (length node.path.numbers - 1) ≡ Some last) (goes : Bool) (loses : HasLost r.0 last goes lost found) where
        its_number : last ≡ number
        its_number = some_same last number (sym is_last ∙ last_is)

        loses_above : HasLost r.0 number goes lost above.frame
        loses_above = subst (λ y. HasLost r.0 y goes lost above.frame) its_number (subst (λ (x : Activation). HasLost r.0 last goes lost x) (sym (found_above found stood)) loses)

        frame_is : lost.frame ≡ above.frame.frame
        frame_is = ap (λ (x : Activation). x.frame) loses_above.only

        callee_is : lost.callee ≡ above.frame.callee
        callee_is = ap (λ (x : Activation). x.callee) loses_above.only

        pub goes_on : goes ≡ true → LeadsTo prog places k (changed prog places m next k (with_frame mid up (record lost { runner = Some w; stalled_in = None })) k.peak (with_item k.hands w (Some up))) w m
        goes_on going = resumes (record lost { runner = Some w; stalled_in = None }) frame_is callee_is loses_above.as_many loses_above.counted (sym loses_above.resumed ∙ going) refl

        pub stops : goes ≡ false → LeadsTo prog places k (changed prog places m next k (with_frame mid up lost) k.peak (with_item k.hands w None)) w m
        stops idle = leaves lost frame_is callee_is loses_above.as_many loses_above.counted (sym loses_above.resumed ∙ idle) (ap (λ (x : Activation). x.runner) loses_above.only)
