-- A detach of the frame in a slot: the worker goes on with the child, and nobody runs the parent.
use Rattle.std.proofs.Common.{◌≡◌, ◌≢◌, ℕ, zero, suc, ◌+◌, ◌<◌, ◌≤◌, List, [], ◌∷◌, ◌++◌, length, max, reverse, Option, Some, None, Bool, true, false, cond, eqb, inl, inr, refl, sym, ap, ◌∙◌, subst, arith, ℤ, ◌+ℤ◌}
use Rattle.std.specs.Prelude.{slice_get}
use Rattle.std.specs.Vec.{with_item}
use Rattle.std.proofs.lemmas.Bool.Decides.{eqb_tells}
use Rattle.std.proofs.lemmas.List.{reverse-reverse}
use Rattle.linear.specs.declared.form.RegisterId.{RegisterId}
use Rattle.semantics.specs.Paths.{Path}
use Rattle.semantics.specs.Frames.{Frame as Shown, Ends, item_at, region_of}
use Rattle.semantics.specs.Effect.{Detach, action_of, item_action}
use Rattle.semantics.specs.State.{State, Change, continued, detached, detach_change, may_go, override, outside}
use Rattle.semantics.specs.CoreSteps.{children_within}
use Rattle.semantics.specs.Counts.{count_of, counts_after}
use Rattle.semantics.specs.Events as running
use Rattle.semantics.specs.Events.{Machine, Step, event}
use Rattle.semantics.proofs.Steps.{change_is, detach}
use Rattle.semantics.proofs.Places.{same_path_tells, same_path_apart, no_own_child, both_first, both_second, both_off}
use Rattle.semantics.proofs.Actions.{same_path_itself}
use Rattle.semantics.proofs.Diamond.{next_free}
use Rattle.semantics.proofs.ChildCounts.{count_at, step_counts}
use Rattle.program.specs.declared.identifier.BlockId.{BlockId}
use Rattle.program.specs.declared.function.Program.{Program}
use Rattle.program.specs.declared.instruction.Terminator.TheVariants as terminator
use Rattle.frame.specs.declared.frame.Role.TheVariants as role
use Rattle.frame.specs.declared.frame.Wait.{Wait}
use Rattle.frame.specs.declared.frame.Wait.TheVariants as wait
use Rattle.frame.specs.Reading.{wait_of}
use Rattle.cactus.specs.declared.node.Node.{Node}
use Rattle.cactus.specs.Frames.{Frames, Lives, AddsChild, frame_at, node_at}
use Rattle.cactus.specs.ByPath.{named, Binds, GrowsMap, child_node}
use Rattle.cactus.specs.Lending.{with_frame}
use Rattle.cactus.proofs.FramesLemmas.{node_at-with_frame, node_at-with_frame_other}
use Rattle.cactus.proofs.ByPathLemmas.{written_binds}
use Rattle.frame_engine.specs.declared.activation.Frame.{Frame}
use Rattle.frame_engine.specs.declared.activation.Places.{Places}
use Rattle.frame_engine.specs.Activation.{FrameFits, ShowsFrame, allocas_of}
use Rattle.frame_engine.specs.Shows.{Layout, ShowsRegisters, TrapFree}
use Rattle.frame_engine.proofs.Texts.{Located, ends_fit, frame_stands, located, starts_block}
use Rattle.schedule_workers.specs.declared.activation.Activation.{Activation}
use Rattle.schedule_workers.specs.declared.run.Run.{Run}
use Rattle.schedule_workers.specs.Scheduling.{hand_of, counted_in}
use Rattle.schedule_workers.specs.Layouts.{alloca_at, alloca_cells, layout_of, number_in, object_at, own_at}
use Rattle.schedule_workers.specs.RunShown.{CalleeStands, HasTaker, IsShown, ShowsAt, cells_in, item_here, place_of}
use Rattle.schedule_workers.specs.Forking.{IsChildFrame}
use Rattle.schedule_workers.specs.Going.{CanStep, RunsSafely, TextFits}
use Rattle.schedule_workers.proofs.Onward.{free_callee, seen, standing}
use Rattle.schedule_workers.proofs.Standing.{can_step, may_go_on}
use Rattle.schedule_workers.proofs.Syncing.{own}
use Rattle.schedule_workers.proofs.Topmost.{reverse_last}
use Rattle.schedule_workers.proofs.Views.{frame_found, named_at_place}
use Rattle.schedule_workers.proofs.Changed.{Changes, Holds, Told, alike, anew, changed, changed_shown, kept_holds}
use Rattle.schedule_workers.proofs.Handing.{hands_after, held_then, let_go, others_stay, seen_then, taken_up}

-- ---- what the parent and the text give

within_made : (s : State) (q : Path) (r n : ℕ) → children_within s q n r ≤ n
within_made s q r zero = omega arith
within_made s q r (suc n) = by (outside r (s.frames (n ∷ q))) (within_made s q r n)
  where
    by : (b : Bool) → children_within s q n r ≤ n → cond b (children_within s q n r) (suc (children_within s q n r)) ≤ suc n
    by true h = omega (arith, h)
    by false h = omega (arith, h)

pub child_shown : (l : Layout) (places : Places) (p : Path) (g : Shown) (parent f : Frame) (r : RegisterId) (b n : BlockId) → ShowsFrame l places p g parent → IsChildFrame parent r b n f → ShowsFrame l places (g.made ∷ p) (detached g r.0 b.0 n.0) f
child_shown l places p g parent f r b n s is =
    subst (λ (x : Frame). ShowsFrame l places (g.made ∷ p) (detached g r.0 b.0 n.0) x) (sym is.is)
    (record {
      function = s.function;
      block = refl;
      index = refl;
      made = refl;
      role = refl;
      depth = (let d = s.depth in omega (arith, d));
      bases = s.bases;
      registers = subst (ShowsRegisters l g.registers) (sym is.registers) s.registers;
    })

module _ (prog : Program) (places : Places) (moves : ℕ) (text : TextFits prog places moves) (a : Frame) (fits : FrameFits prog a) (r : RegisterId) (b n : BlockId) (item : item_here prog a ≡ Some (Ends (terminator.Detach r b n))) where
  abbrev at : Located prog a.function.0 a.place.block.0 a.place.index (Ends (terminator.Detach r b n))
  at = located prog a.function.0 a.place.block.0 a.place.index (Ends (terminator.Detach r b n)) item

  region_within : r.0 < length a.registers.items
  region_within =
      let low = text.detaches a.function.0 a.place.block.0 a.place.index r b n at.function at.is item in
      let words = fits.registers at.function at.is in
      omega (arith, low, words)

  parent_fits : (f : Frame) (made : ℕ) → f ≡ record a { place = record { block = n; index = 0 }; made = made; waits = wait.Nothing } → FrameFits prog f
  parent_fits f made is =
      let ends = ends_fit prog places moves a.function.0 a.place.block.0 a.place.index (terminator.Detach r b n) text.fits at in
      subst (FrameFits prog) (sym is) (frame_stands prog (record a { place = record { block = n; index = 0 }; made = made; waits = wait.Nothing }) at.function at.is (fits.registers at.function at.is) (starts_block at.function.blocks n.0 ends.1))

  child_fits : (f : Frame) → IsChildFrame a r b n f → FrameFits prog f
  child_fits f is =
      let ends = ends_fit prog places moves a.function.0 a.place.block.0 a.place.index (terminator.Detach r b n) text.fits at in
      let fresh : Frame = record a { place = record { block = b; index = 0 }; registers = f.registers; made = 0; waits = wait.Nothing; role = role.Child r n; depth = a.depth + 1 } in
      subst (FrameFits prog) (sym is.is) (frame_stands prog fresh at.function at.is (ap (λ (xs : List ℤ). length xs) is.registers ∙ fits.registers at.function at.is) (starts_block at.function.blocks b.0 ends.0))

-- nothing stands where the definitions have nothing
unnamed : (l : Layout) (places : Places) (q : Path) (o : Option Shown) (s : Option (Node Activation)) → o ≡ None → ShowsAt l places q o s → s ≡ None
unnamed l places q None None e h = refl
unnamed l places q None (Some node) e h = absurd h
unnamed l places q (Some g) s e h = absurd (cc)

-- the parent is what it was, once the child stands in a slot
pub found_again : (frames : Frames Activation) (slot : ℕ) (node : Node Activation) → node_at frames slot ≡ Some node → (mid : Frames Activation) (number : ℕ) (child : Activation) (s : ℕ) → AddsChild frames mid slot number child s → (found : Activation) → frame_at mid slot ≡ Some found → node.frame ≡ found
found_again frames slot node stands mid number child s adds found is =
    let here : node_at mid slot ≡ Some node = adds.added.change.others slot (λ e. no_slot (subst (λ x. node_at frames x ≡ None) (sym e) adds.added.free)) ∙ stands in
    frame_found mid slot node here found is
  where
    no_slot : node_at frames slot ≡ None → ⊥
    no_slot none = let e : Some node ≡ None = sym stands ∙ none in cc

-- ---- the event

module _ (prog : Program) (places : Places) (k : Run) (slot : ℕ) (node : Node Activation) (stands : node_at k.cactus slot ≡ Some node) (m : Machine) (shown : IsShown prog places m k)
    (r : RegisterId) (b n : BlockId) (item : item_here prog node.frame.frame ≡ Some (Ends (terminator.Detach r b n)))
    (w : ℕ) (hand : hand_of k.hands.items w ≡ Some slot) (safe : RunsSafely prog (length k.hands.items) m) where
  abbrev p : Path
  p = place_of node

  abbrev a : Activation
  a = node.frame

  abbrev workers : ℕ
  workers = length k.hands.items

  abbrev l : Layout
  l = layout_of prog places k.cactus m.core

  abbrev g : Shown
  g = (seen prog places k slot node a stands m shown).frame

  abbrev is_g : m.core.frames p ≡ Some g
  is_g = (seen prog places k slot node a stands m shown).is

  abbrev shows_g : ShowsFrame l places p g a.frame
  shows_g = (seen prog places k slot node a stands m shown).shows.shown

  can : CanStep prog m p g
  can = can_step prog workers w p m g m.core.memory (standing prog places k slot node a stands m shown w hand safe)

  act : action_of prog p g m.core.memory ≡ Detach r.0 b.0 n.0
  act =
      let t = shows_g in
      let placed : item_at prog g.function g.block g.index ≡ Some (Ends (terminator.Detach r b n)) = (λ j. item_at prog (t.function j) (t.block j) (t.index j)) ∙ item in
      let here = ap (item_action prog p g m.core.memory) placed in
      let free = (can.safe (object_at places k.cactus)).trap_free in
      here ∙ own p g (Detach r.0 b.0 n.0) (region_of (g.registers r.0)) (subst TrapFree here free)

  go : may_go m.core p g.made g.waits ≡ true
  go = may_go_on prog workers w p m g is_g can.goes

  -- ---- room

  made_is : g.made ≡ a.frame.made
  made_is = shows_g.made

  pub made_room : a.frame.made + 1 < 18446744073709551616
  made_room = let x = can.made in let y = made_is in omega (arith, x, y)

  pub depth_room : a.frame.depth + 2 < 18446744073709551616
  depth_room = let x = can.depth in let y = shows_g.depth in omega (arith, x, y)

  pub frames_room : k.cactus.made + 1 < 9223372036854775808
  frames_room = let x = (safe []).counted in let y = shown.shows.done in let z = shown.agrees.made in omega (arith, x, y, z)

  pub done_room : k.instructions + 2 < 9223372036854775808
  done_room = let x = (safe []).counted in let y = shown.shows.done in omega (arith, x, y)

  pub count_room : counted_in a r.0 + 1 < 18446744073709551616
  count_room =
      let few : children_within m.core p g.made r.0 ≤ g.made = within_made m.core p r.0 g.made in
      let same : counted_in a r.0 ≡ children_within m.core p g.made r.0 = shown.agrees.counts slot r.0 node stands ∙ count_at m.core p g r.0 is_g in
      let x = can.made in
      omega (arith, few, same, x)

  pub counts_region : (moves : ℕ) → TextFits prog places moves → r.0 < length a.counts.items
  counts_region moves text =
      let fits = shown.agrees.nodes slot node stands in
      let low = region_within prog places moves text a.frame fits.fits r b n item in
      let found = at prog places moves text a.frame fits.fits r b n item in
      let words = fits.fits.registers found.function found.is in
      let counts = fits.counts found.function found.is in
      omega (arith, low, words, counts)

  -- ---- the event

  abbrev q : Path
  q = g.made ∷ p

  abbrev change : Change
  change = detach_change p g r.0 b.0 n.0

  abbrev next : Machine
  next = running.stepped m w change (Some q)

  apart : p ≢ q
  apart e = no_own_child g.made p (sym e)

  happens : event prog workers (Step w) m ≡ Some next
  happens =
      let s = standing prog places k slot node a stands m shown w hand safe in
      ap (λ t. running.unless_trapped t (running.by_hand prog workers m w (m.hands w))) s.sound
      ∙ ap (running.by_hand prog workers m w) s.hand
      ∙ ap (running.by_frame prog workers m w p) is_g
      ∙ ap (λ o. Some (running.by_change prog workers m w p g o)) (change_is prog m.core p change (detach g r.0 b.0 n.0 is_g go act))
      ∙ ap (λ x. Some (running.stepped m w change (running.next_hand workers m next.core p g x))) act

  now : next.core.frames p ≡ Some (continued g n.0)
  now = ap (λ o. override o (m.core.frames p)) (both_first p q (Some (continued g n.0)) (Some (detached g r.0 b.0 n.0)))

  born : next.core.frames q ≡ Some (detached g r.0 b.0 n.0)
  born = ap (λ o. override o (m.core.frames q)) (both_second p q (Some (continued g n.0)) (Some (detached g r.0 b.0 n.0)) apart)

  off : (x : Path) → p ≢ x → q ≢ x → next.core.frames x ≡ m.core.frames x
  off x away other = ap (λ o. override o (m.core.frames x)) (both_off p q x (Some (continued g n.0)) (Some (detached g r.0 b.0 n.0)) away other)

  free : m.core.frames q ≡ None
  free = next_free (safe []).tree p g is_g

  follow : (x : Path) (y : ℕ) → count_of next.core x y ≡ counts_after p (Detach r.0 b.0 n.0) (count_of m.core) x y
  follow x y =
      step_counts prog m.core (safe []).tree p change (detach g r.0 b.0 n.0 is_g go act) g is_g x y
      ∙ ap (λ z. counts_after p z (count_of m.core) x y) act

  counts_off : (x : Path) (y : ℕ) → p ≢ x → count_of next.core x y ≡ count_of m.core x y
  counts_off x y away = follow x y ∙ rw (same_path_apart p x away) refl

  -- ---- the frames

  abbrev numbers : List ℕ
  numbers = node.path.numbers ++ a.frame.made ∷ []

  name_is : reverse q ≡ numbers
  name_is = ap (λ x. reverse (x ∷ p)) made_is ∙ (ap reverse (sym (reverse_last node.path.numbers a.frame.made)) ∙ reverse-reverse numbers)

  place_is : reverse numbers ≡ q
  place_is = ap reverse (sym name_is) ∙ reverse-reverse q

  pub fresh : named k.cactus numbers ≡ None
  fresh = ap (named k.cactus) (sym name_is) ∙ unnamed l places q (m.core.frames q) (named k.cactus (reverse q)) free (shown.shows.frames q)

  module _ (within : w < length k.hands.items) (moves : ℕ) (text : TextFits prog places moves) (mid : Frames Activation) (s : ℕ) (f : Frame) (is_child : IsChildFrame a.frame r b n f)
      (child : Activation) (child_is : child ≡ record { frame = f; counts = child.counts; callee = None; runner = Some w; stalled_in = None }) (child_none : (x : ℕ) → counted_in child x ≡ 0) (child_counts : length child.counts.items ≡ length f.registers.items)
      (adds : AddsChild k.cactus mid slot a.frame.made child s) (grows : GrowsMap k.cactus mid slot a.frame.made child)
      (c : Activation) (only : c ≡ record a { frame = c.frame; counts = c.counts; runner = None }) (frame_is : c.frame ≡ record a.frame { place = record { block = n; index = 0 }; made = a.frame.made + 1; waits = wait.Nothing })
      (shows : (y : Layout) (x : Path) (h : Shown) → ShowsFrame y places x h a.frame → ShowsFrame y places x (continued h n.0) c.frame)
      (as_many : length c.counts.items ≡ length a.counts.items) (counted : (x : ℕ) → counted_in c x ≡ cond (eqb r.0 x) (counted_in a r.0 + 1) (counted_in a x)) where
    away : s ≢ slot
    away e = let none : node_at k.cactus slot ≡ None = subst (λ x. node_at k.cactus x ≡ None) e adds.added.free in let some : Some node ≡ None = sym stands ∙ none in cc

    stays_mid : node_at mid slot ≡ Some node
    stays_mid = adds.added.change.others slot (λ e. away (sym e)) ∙ stands

    abbrev younger : Node Activation
    younger = child_node k.cactus node slot a.frame.made child

    in_mid : node_at mid s ≡ Some younger
    in_mid =
        let same : adds.above ≡ node = (let e : Some adds.above ≡ Some node = sym adds.stands ∙ stands in cc) in
        let path : adds.path.numbers ≡ numbers = adds.numbers ∙ ap (λ (x : Node Activation). x.path.numbers ++ a.frame.made ∷ []) same in
        adds.added.change.changed ∙ ap (λ (x : List ℕ). Some (record { generation = k.cactus.made; path = record { numbers = x }; parent = Some slot; frame = child })) path

    abbrev binds : Binds k.cactus mid numbers (Some younger)
    binds = grows node shown.agrees.tree stands fresh

    abbrev frames : Frames Activation
    frames = with_frame mid slot c

    abbrev later : Node Activation
    later = record node { frame = c }

    abbrev again : Binds mid frames node.path.numbers (Some later)
    again = written_binds mid slot node c binds.tree stays_mid

    at_slot : node_at frames slot ≡ Some later
    at_slot = node_at-with_frame mid slot c node stays_mid

    at_child : node_at frames s ≡ Some younger
    at_child = node_at-with_frame_other mid slot s c away ∙ in_mid

    at_other : (x : ℕ) → x ≢ slot → x ≢ s → node_at frames x ≡ node_at k.cactus x
    at_other x one other = node_at-with_frame_other mid slot x c one ∙ adds.added.change.others x other

    not_child : (x : ℕ) (y : Node Activation) → node_at k.cactus x ≡ Some y → x ≢ s
    not_child x y here e = let none : node_at k.cactus x ≡ None = subst (λ z. node_at k.cactus z ≡ None) (sym e) adds.added.free in let some : Some y ≡ None = sym here ∙ none in cc

    still : (x : ℕ) (y : Node Activation) → node_at k.cactus x ≡ Some y → (z : Node Activation) × (node_at frames x ≡ Some z) × (z.path ≡ y.path)
    still x y here =
        elim (eqb_tells slot x) [
          | inl h ↦
              let e : Some node ≡ Some y = sym stands ∙ subst (λ z. node_at k.cactus z ≡ Some y) (sym h.1) here in
              let same : node ≡ y = cc in
              (later, subst (λ z. node_at frames z ≡ Some later) h.1 at_slot, ap (λ (z : Node Activation). z.path) same)
          | inr h ↦ (y, at_other x (λ e. h.1 (sym e)) (not_child x y here) ∙ here, refl)
        ]

    callee_still : (x : Node Activation) (y : Wait) (o : Option ℕ) → CalleeStands k.cactus x y o → CalleeStands frames x y o
    callee_still x wait.Nothing o h = h
    callee_still x (wait.Region region) o h = h
    callee_still x (wait.Call number register) o h =
        let (z, called, is, there, path) = h in
        let (y, here, same) = still z called there in
        (z, y, is, here, ap (λ t. t.numbers) same ∙ path)

    -- ---- what stands at each path

    role_is : c.frame.role ≡ a.frame.role
    role_is = ap (λ (x : Frame). x.role) frame_is

    home_is : c.frame.home ≡ a.frame.home
    home_is = ap (λ (x : Frame). x.home) frame_is

    function_is : c.frame.function.0 ≡ a.frame.function.0
    function_is = ap (λ (x : Frame). x.function.0) frame_is

    waits_is : c.frame.waits ≡ wait.Nothing
    waits_is = ap (λ (x : Frame). x.waits) frame_is

    child_frame : child.frame ≡ f
    child_frame = ap (λ (x : Activation). x.frame) child_is

    child_role : child.frame.role ≡ role.Child r n
    child_role = ap (λ (x : Frame). x.role) child_frame ∙ ap (λ (x : Frame). x.role) is_child.is

    child_waits : child.frame.waits ≡ wait.Nothing
    child_waits = ap (λ (x : Frame). x.waits) child_frame ∙ ap (λ (x : Frame). x.waits) is_child.is

    child_callee : child.callee ≡ None
    child_callee = ap (λ (x : Activation). x.callee) child_is

    not_longer : node.path.numbers ≢ numbers
    not_longer e = apart (ap reverse e ∙ place_is)

    abbrev ToldAt : Path → Type 0
    ToldAt = Told prog places m next k frames (max m.core.peak (length p + 2)) (hands_after prog places m k shown slot node stands w hand within (Some s))

    told_parent : ToldAt p
    told_parent =
        let here : named frames (reverse p) ≡ Some later = ap (named frames) (reverse-reverse node.path.numbers) ∙ again.here in
        anew
        (subst (λ (o : Option Shown). ShowsAt l places p o (named frames (reverse p))) (sym now)
        (subst (λ (o : Option (Node Activation)). ShowsAt l places p (Some (continued g n.0)) o) (sym here) (record { shown = shows l p g shows_g; waits = sym (ap wait_of waits_is) })))
        (λ x. ap (λ o. alloca_cells prog o x) now ∙ sym (ap (λ o. alloca_cells prog o x) is_g))
        (λ x. ap (λ o. alloca_at places o x) here
        ∙ ((λ i. own_at (role_is i) (home_is i +ℤ number_in (allocas_of places (function_is i)) x))
        ∙ sym (ap (λ o. alloca_at places o x) (named_at_place k.cactus shown.agrees.tree slot node stands))))

    told_child : ToldAt q
    told_child =
        let here : named frames (reverse q) ≡ Some younger = again.elsewhere (reverse q) (λ e. not_longer (sym e ∙ name_is)) ∙ (ap (named mid) name_is ∙ binds.here) in
        let gone : named k.cactus (reverse q) ≡ None = ap (named k.cactus) name_is ∙ fresh in
        anew
        (subst (λ (o : Option Shown). ShowsAt l places q o (named frames (reverse q))) (sym born)
        (subst (λ (o : Option (Node Activation)). ShowsAt l places q (Some (detached g r.0 b.0 n.0)) o) (sym here)
        (record { shown = subst (λ (x : Frame). ShowsFrame l places q (detached g r.0 b.0 n.0) x) (sym child_frame) (child_shown l places p g a.frame f r b n shows_g is_child); waits = sym (ap wait_of child_waits) })))
        (λ x. ap (λ o. alloca_cells prog o x) born ∙ sym (ap (λ o. alloca_cells prog o x) free))
        (λ x. ap (λ o. alloca_at places o x) here
        ∙ (ap (λ y. own_at y (child.frame.home +ℤ number_in (allocas_of places child.frame.function.0) x)) child_role
        ∙ sym (ap (λ o. alloca_at places o x) gone)))

    told : (x : Path) → ToldAt x
    told x =
        elim (same_path_tells p x) [
          | inl h ↦ subst (λ y. ToldAt y) h.1 told_parent
          | inr h ↦ elim (same_path_tells q x) [
            | inl e ↦ subst (λ y. ToldAt y) e.1 told_child
            | inr e ↦ alike (off x h.1 e.1)
                (again.elsewhere (reverse x) (λ y. h.1 (ap reverse (sym y) ∙ reverse-reverse x))
                ∙ binds.elsewhere (reverse x) (λ y. e.1 (sym place_is ∙ (ap reverse (sym y) ∙ reverse-reverse x))))
          ]
        ]

    -- ---- how each node agrees

    abbrev HoldsAt : ℕ → Node Activation → Type 0
    HoldsAt = Holds prog places m next k frames (max m.core.peak (length p + 2)) (hands_after prog places m k shown slot node stands w hand within (Some s))

    other_slot : (x : ℕ) → s ≢ x → Some s ≢ Some x
    other_slot x differ e = differ (let h : Some s ≡ Some x = e in cc)

    callee_none : a.callee ≡ None
    callee_none =
        free_callee m.core p g.made k.cactus node a.frame.waits (ap (may_go m.core p g.made) (sym (seen prog places k slot node a stands m shown).shows.waits) ∙ go) (shown.agrees.nodes slot node stands).callee

    counts_here : (x : ℕ) → counted_in c x ≡ count_of next.core p x
    counts_here x =
        let was : (y : ℕ) → counted_in a y ≡ count_of m.core p y = λ y. shown.agrees.counts slot y node stands in
        elim (eqb_tells r.0 x) [
          | inl h ↦
              counted x
              ∙ (ap (λ t. cond t (counted_in a r.0 + 1) (counted_in a x)) h.0
              ∙ ((let z : counted_in a r.0 ≡ count_of m.core p x = was r.0 ∙ ap (count_of m.core p) h.1 in let y : counted_in a r.0 + 1 ≡ suc (count_of m.core p x) = omega (arith, z) in y)
              ∙ sym (follow p x ∙ rw (same_path_itself p, h.0) refl)))
          | inr h ↦ counted x ∙ (ap (λ t. cond t (counted_in a r.0 + 1) (counted_in a x)) h.0 ∙ (was x ∙ sym (follow p x ∙ rw (same_path_itself p, h.0) refl)))
        ]

    holds_parent : HoldsAt slot later
    holds_parent =
        let before = shown.agrees.nodes slot node stands in
        let alone : c.runner ≡ None = ap (λ (x : Activation). x.runner) only in
        record {
          runner = λ v. ((λ e. absurd (let x : None ≡ Some v = sym alone ∙ e in cc)), λ e. absurd (let_go prog places m k shown slot node stands w hand within (Some s) (other_slot slot away) v e));
          fits = record {
            fits = parent_fits prog places moves text a.frame before.fits r b n item c.frame (a.frame.made + 1) frame_is;
            callee = subst (λ x. CalleeStands frames later x c.callee) (sym waits_is) (ap (λ (x : Activation). x.callee) only ∙ callee_none);
            taker = λ x is. subst (HasTaker (length x.registers)) (sym waits_is) tt;
            counts = λ x is. as_many ∙ before.counts x (sym (ap (slice_get prog.functions) function_is) ∙ is);
          };
          counts = counts_here;
          block = λ body some.
              let mine = shown.agrees.blocks.owned slot node stands (sym role_is ∙ body) (subst (λ x. 0 < cells_in (slice_get prog.functions x)) function_is some) in
              (mine.0, mine.1, record { home = home_is ∙ mine.2.home; room = subst (λ x. cells_in (slice_get prog.functions x) ≤ mine.0.cells) (sym function_is) mine.2.room });
        }

    holds_child : HoldsAt s younger
    holds_child =
        let before = shown.agrees.nodes slot node stands in
        let runs : child.runner ≡ Some w = ap (λ (x : Activation). x.runner) child_is in
        let up = taken_up prog places m k shown slot node stands w hand within (Some s) s refl
        (λ v differ e. let lives : Lives k.cactus s = shown.agrees.held v s e in let none : node_at k.cactus s ≡ None = adds.added.free in no_life none lives) in
        let function : child.frame.function.0 ≡ a.frame.function.0 = ap (λ (x : Frame). x.function.0) child_frame ∙ ap (λ (x : Frame). x.function.0) is_child.is in
        record {
          runner = λ v. ((λ e. (up v).0 (sym runs ∙ e)), λ e. runs ∙ (up v).1 e);
          fits = record {
            fits = subst (FrameFits prog) (sym child_frame) (child_fits prog places moves text a.frame before.fits r b n item f is_child);
            callee = subst (λ x. CalleeStands frames younger x child.callee) (sym child_waits) child_callee;
            taker = λ x is. subst (HasTaker (length x.registers)) (sym child_waits) tt;
            counts = λ x is. child_counts ∙ (ap (λ (xs : List ℤ). length xs) is_child.registers ∙ before.fits.registers x (sym (ap (slice_get prog.functions) function) ∙ is));
          };
          counts = λ x. child_none x ∙ sym (ap (λ y. count_of next.core y x) place_is ∙ (counts_off q x apart ∙ none_counted x));
          block = λ body some. absurd (let e : role.Child r n ≡ role.Body = sym child_role ∙ body in cc);
        }
      where
        no_life : node_at k.cactus s ≡ None → Lives k.cactus s → ⊥
        no_life none lives = let some = rw none at lives in cc

        none_counted : (x : ℕ) → count_of m.core q x ≡ 0
        none_counted x = rw free refl

    holds_other : (x : ℕ) (y : Node Activation) → x ≢ slot → x ≢ s → node_at k.cactus x ≡ Some y → HoldsAt x y
    holds_other x y one other was =
        kept_holds prog places m next k frames (max m.core.peak (length p + 2)) (hands_after prog places m k shown slot node stands w hand within (Some s)) shown x y
        (record {
          was = was;
          same_hands = others_stay prog places m k shown slot node stands w hand within (Some s) x one (other_slot x (λ e. other (sym e)));
          callee = callee_still y y.frame.frame.waits y.frame.callee (shown.agrees.nodes x y was).callee;
          counts = λ z. counts_off (place_of y) z (λ e. one (shown.agrees.tree.distinct x slot y node was stands (sym (reverse-reverse y.path.numbers) ∙ (ap reverse (sym e) ∙ reverse-reverse node.path.numbers))));
        })

    holds : (x : ℕ) (y : Node Activation) → node_at frames x ≡ Some y → HoldsAt x y
    holds x y here =
        elim (eqb_tells slot x) [
          | inl h ↦
              let e : Some later ≡ Some y = sym at_slot ∙ subst (λ z. node_at frames z ≡ Some y) (sym h.1) here in
              let same : later ≡ y = cc in
              subst (λ z. HoldsAt z y) h.1 (subst (λ z. HoldsAt slot z) same holds_parent)
          | inr h ↦ elim (eqb_tells s x) [
            | inl d ↦
                let e : Some younger ≡ Some y = sym at_child ∙ subst (λ z. node_at frames z ≡ Some y) (sym d.1) here in
                let same : younger ≡ y = cc in
                subst (λ z. HoldsAt z y) d.1 (subst (λ z. HoldsAt s z) same holds_child)
            | inr d ↦ holds_other x y (λ e. h.1 (sym e)) (λ e. d.1 (sym e)) (sym (at_other x (λ e. h.1 (sym e)) (λ e. d.1 (sym e))) ∙ here)
          ]
        ]

    -- ---- the step

    pub detach_shown : (peak : ℕ) → peak ≡ max k.peak (f.depth + 1) → (x : Machine) × (event prog workers (Step w) m ≡ Some x) × IsShown prog places x (changed prog places m next k frames peak (with_item k.hands w (Some s)))
    detach_shown peak peak_is = (
      next,
      happens,
      changed_shown prog places m next k frames peak (with_item k.hands w (Some s)) shown (subst (λ y. Changes prog places m next k frames y (with_item k.hands w (Some s))) (sym peaks) (record {
        tree = again.tree;
        told = told;
        holds = holds;
        seen = seen_then prog places m k shown slot node stands w hand within (Some s) frames (Some q) (rw at_child (ap Some place_is)) (λ x y differ here. still x y here);
        held = held_then prog places m k shown slot node stands w hand within (Some s) frames
            (λ x e. let same : s ≡ x = (let h : Some s ≡ Some x = e in cc) in subst (λ z. Lives frames z) same (lives_by s younger at_child))
            (λ x y differ here. still x y here);
        made = (let e : frames.made ≡ mid.made = made_stays in let d = adds.added.made in omega (arith, e, d));
        memory = refl;
        done = omega arith;
        peak_is = refl;
        result = refl;
        sound = refl;
      })),
    )
      where
        peaks : peak ≡ max m.core.peak (length p + 2)
        peaks =
            let deep : f.depth ≡ a.frame.depth + 1 = ap (λ (x : Frame). x.depth) is_child.is in
            let long = shows_g.depth in
            let was = shown.shows.peak in
            let sum : f.depth + 1 ≡ length p + 2 = omega (arith, deep, long) in
            peak_is ∙ (λ i. max (sym was i) (sum i))

        made_stays : frames.made ≡ mid.made
        made_stays = rw stays_mid refl

        lives_by : (x : ℕ) (y : Node Activation) → node_at frames x ≡ Some y → Lives frames x
        lives_by x y e = rw e refl
