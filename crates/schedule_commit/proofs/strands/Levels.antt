-- Each frame of the strand stands in its slot as the machine has it that absorbed it.
use Rattle.std.proofs.Common.{Vec, Global, ◌≡◌, ◌≢◌, ◌∙◌, ◌+◌, ◌-◌, ◌<◌, ℕ, List, [], ◌∷◌, ◌++◌, length, reverse, Option, Some, None, ◌⊎◌, inl, inr, refl, sym, ap, subst, arith, ◌+ℤ◌}
use Rattle.std.specs.Prelude.{◌↔◌, slice_get}
use Rattle.std.specs.Vec.{with_item}
use Rattle.std.proofs.lemmas.List.{reverse-reverse}
use Rattle.std.proofs.lemmas.Option.{same_Some}
use Rattle.std.proofs.lemmas.Bool.Decides.{eqb_tells}
use Rattle.semantics.specs.Paths.{Path}
use Rattle.semantics.specs.Cells.{Local}
use Rattle.semantics.specs.Frames as frames
use Rattle.semantics.specs.Frames.{OnCall, OnRegion}
use Rattle.semantics.specs.Counts.{count_of}
use Rattle.semantics.specs.Events.{Machine}
use Rattle.semantics.proofs.Places.{same_path_tells}
use Rattle.linear.specs.declared.form.RegisterId.{RegisterId}
use Rattle.program.specs.declared.function.Program.{Program}
use Rattle.frame.specs.declared.frame.Wait.{Wait}
use Rattle.frame.specs.declared.frame.Wait.TheVariants as wait
use Rattle.frame.specs.Reading.{wait_of}
use Rattle.sync_join.specs.Counting.{Counts, living_in}
use Rattle.cactus.specs.declared.node.Link.{Link}
use Rattle.cactus.specs.declared.node.Node.{Node}
use Rattle.cactus.specs.Frames.{Frames, node_at}
use Rattle.cactus.specs.ByPath.{named, IsTree}
use Rattle.cactus.proofs.ByPathLemmas.{named_is}
use Rattle.frame_engine.specs.declared.activation.Frame.{Frame}
use Rattle.frame_engine.specs.declared.activation.Places.{Places}
use Rattle.frame_engine.specs.Activation.{FrameFits, allocas_of}
use Rattle.frame_engine.specs.Names.{HasResult}
use Rattle.frame_engine.specs.Shows.{Layout}
use Rattle.strand.specs.serial_stack.StackShown as serial
use Rattle.schedule_workers.specs.declared.activation.Activation.{Activation}
use Rattle.schedule_workers.specs.declared.run.Run.{Run}
use Rattle.schedule_workers.specs.Layouts.{alloca_at, number_in, own_at}
use Rattle.schedule_workers.specs.Lent.{IsFree}
use Rattle.schedule_workers.specs.Scheduling.{counted_in, hand_of}
use Rattle.schedule_workers.specs.RunShown.{CalleeStands, HasBlock, HasTaker, IsShown, ShowsAt, ShowsNode, place_of}
use Rattle.schedule_workers.proofs.Changed.{Holds}
use Rattle.schedule_workers.proofs.Handing.{hand_set, taken_up}
use Rattle.laws_strands.specs.stacks.Strands.{Placed}
use Rattle.laws_strands.specs.stacks.Law.{counts_in, no_count}
use Rattle.laws_strands.proofs.stacks.Rising.{IsBehind, of_call, of_detach}
use Rattle.strand.specs.OwnCells.{segment_of}
use Rattle.strand.specs.declared.cells.StrandCells.{StrandCells}
use Rattle.schedule_commit.specs.strands.Fitting.{segment_block}
use Rattle.schedule_commit.specs.strands.Committing.{by_wait, last_of, under}
use Rattle.schedule_commit.specs.strands.Linking.{counted_above}
use Rattle.schedule_commit.proofs.strands.Bases.{WaitsForNone}
use Rattle.schedule_commit.proofs.strands.Climbing.{Climbs, IsOff, IsOn, highest}
use Rattle.schedule_commit.proofs.strands.Linked.{AreLinked, head_of}
use Rattle.schedule_commit.proofs.strands.Seats.{Seat, role_counts, seat_up}
use Rattle.schedule_commit.proofs.strands.Stood.{AreFree, Held, IsOut, last_out}

-- ---- a frame that knows its callee's slot

under_frame : (c : ℕ) (w : Wait) (a : Activation) → (by_wait w c a).frame ≡ a.frame
under_frame c wait.Nothing a = refl
under_frame c (wait.Region region) a = refl
under_frame c (wait.Call child register) a = refl

under_runner : (c : ℕ) (w : Wait) (a : Activation) → (by_wait w c a).runner ≡ a.runner
under_runner c wait.Nothing a = refl
under_runner c (wait.Region region) a = refl
under_runner c (wait.Call child register) a = refl

under_counts : (c : ℕ) (w : Wait) (a : Activation) → (by_wait w c a).counts ≡ a.counts
under_counts c wait.Nothing a = refl
under_counts c (wait.Region region) a = refl
under_counts c (wait.Call child register) a = refl

uncalled : (frames : Frames Activation) (n : Node Activation) (w : Wait) (callee : Option ℕ) → WaitsForNone (wait_of w) → callee ≡ None → CalleeStands frames n w callee
uncalled frames n wait.Nothing callee none e = e
uncalled frames n (wait.Region region) callee none e = e
uncalled frames n (wait.Call child register) callee none e = absurd (none child register refl)

called : (frames : Frames Activation) (n : Node Activation) (w : Wait) (c : ℕ) (a : Activation) (next : Node Activation) → a.callee ≡ None → node_at frames c ≡ Some next →
    ((child : ℕ) (register : Option RegisterId) → w ≡ wait.Call child register → next.path.numbers ≡ n.path.numbers ++ child ∷ []) → CalleeStands frames n w (by_wait w c a).callee
called frames n wait.Nothing c a next e stands path = e
called frames n (wait.Region region) c a next e stands path = e
called frames n (wait.Call child register) c a next e stands path = (c, next, refl, stands, path child register refl)

takes : (registers : ℕ) (f : Frame) (w : Wait) → length f.registers.items ≡ registers → serial.HasTaker f w → HasTaker registers w
takes registers f wait.Nothing long taker = tt
takes registers f (wait.Region region) long taker = tt
takes registers f (wait.Call child register) long taker = subst (λ (n : ℕ). HasResult n register) long taker

-- a frame behind another waits for no region
not_stalled : (r : frames.Role) (w : frames.Wait) (region : ℕ) → IsBehind r w → w ≡ OnRegion region → ⊥
not_stalled _ _ region (of_call k register) h = cc
not_stalled _ _ region (of_detach q n) h = cc

-- the frame of these stands in its slot
held_there : (frames : Frames Activation) (s : ℕ) (path : List ℕ) (a : Activation) (slots : List ℕ) (links : List (Link Activation)) → Held frames s path a slots links →
    (n : Node Activation) × (node_at frames s ≡ Some n) × (n.path.numbers ≡ path)
held_there frames s path a [] [] held = (held.node, held.stands, held.path_is)
held_there frames s path a [] (l ∷ links) held = absurd held
held_there frames s path a (c ∷ slots) [] held = absurd held
held_there frames s path a (c ∷ slots) (l ∷ links) held = (held.0.node, held.0.stands, held.0.path_is)

-- what stands at a path now, and where its allocas lie
pub record StandsAt (places : Places) (to : Layout) (next : Machine) (new : Frames Activation) (q : Path) : Type 0 where
  pub shows : ShowsAt to places q (next.core.frames q) (named new (reverse q))
  pub at : (a : ℕ) → alloca_at places (named new (reverse q)) a ≡ to.at (Local q a)

module _ (prog : Program) (places : Places) (k : Run) (m next : Machine) (shown : IsShown prog places m k) (x : StrandCells) (lent : IsFree prog k (segment_block x)) (to : Layout) (worker slot : ℕ) (node : Node Activation) (stands : node_at k.cactus slot ≡ Some node)
    (hand : hand_of k.hands.items worker ≡ Some slot) (within : worker < length k.hands.items) (new : Frames Activation) (tree : IsTree new) (peak top : ℕ) where
  abbrev hands : Vec (Option ℕ) Global
  hands = with_item k.hands worker (Some top)

  abbrev HoldsAt : ℕ → Node Activation → Type 0
  HoldsAt = Holds prog places m next k new peak hands

  abbrev ToldAt : Path → Type 0
  ToldAt = StandsAt places to next new

  abbrev SeatOf : Option Frame → (ℕ → ℕ) → Placed → Frame → ℕ → List ℕ → Activation → Type 0
  SeatOf = Seat prog places k m shown worker to

  -- ---- one frame

  pub record Level (t : Placed) (s : ℕ) : Type 0 where
    pub there : Node Activation
    pub in_slot : node_at new s ≡ Some there
    pub place : place_of there ≡ t.path
    pub holds : Holds prog places m next k new peak (with_item k.hands worker (Some top)) s there
    pub told : StandsAt places to next new t.path
    -- it is not stalled
    pub going : (region : RegisterId) → there.frame.runner ≡ None → there.frame.frame.waits ≢ wait.Region region

  module _ (above : Option Frame) (older : ℕ → ℕ) (t : Placed) (f : Frame) (s : ℕ) (path : List ℕ) (a : Activation) (seat : SeatOf above older t f s path a) (on : IsOn prog places to (segment_of x) m.core next.core t f)
      (n : Node Activation) (here : node_at new s ≡ Some n) (numbers : n.path.numbers ≡ path) (same : n.frame.frame ≡ a.frame) (counted : n.frame.counts ≡ a.counts)
      (runs : (v : ℕ) → (n.frame.runner ≡ Some v) ↔ (hand_of hands.items v ≡ Some s)) (callee : CalleeStands new n n.frame.frame.waits n.frame.callee)
      (count : (r : ℕ) → count_of next.core t.path r ≡ counted_above above r + older r)
      (goes : (region : RegisterId) → n.frame.runner ≡ None → n.frame.frame.waits ≢ wait.Region region) where
    place : place_of n ≡ t.path
    place = ap reverse (numbers ∙ seat.place) ∙ reverse-reverse t.path

    level : Level t s
    level = record {
      there = n;
      in_slot = here;
      place = place;
      going = goes;
      holds = record {
        runner = runs;
        fits = record {
          fits = subst (λ (y : Frame). FrameFits prog y) (sym same) seat.fits;
          callee = callee;
          taker = λ g there.
              let there_a : slice_get prog.functions a.frame.function.0 ≡ Some g = ap (λ (y : Frame). slice_get prog.functions y.function.0) (sym same) ∙ there in
              let there_f : slice_get prog.functions f.function.0 ≡ Some g = ap (slice_get prog.functions) (sym on.shows.shown.function ∙ seat.shows.shown.function) ∙ there_a in
              subst (HasTaker (length g.registers)) (sym (ap (λ (y : Frame). y.waits) same ∙ seat.waits)) (takes (length g.registers) f f.waits (on.shows.fits.registers g there_f) on.taker);
          counts = λ g there. ap (λ (y : Counts). length y.items) counted ∙ seat.as_many g (ap (λ (y : Frame). slice_get prog.functions y.function.0) (sym same) ∙ there);
        };
        counts = λ r.
            let own : counted_in n.frame r ≡ counted_in a r = ap (λ (y : Counts). living_in y.items r) counted in
            own ∙ (seat.counts r ∙ (sym (count r) ∙ ap (λ (q : Path). count_of next.core q r) (sym place)));
        block = subst (λ (y : Frame). HasBlock prog k.blocks.items k.lent s y) (sym same) seat.block;
      };
      told =
          let at_path : named new (reverse t.path) ≡ Some n = named_is new tree s n (reverse t.path) here (numbers ∙ seat.place) in
          record {
            shows = subst (λ (o : Option frames.Frame). ShowsAt to places t.path o (named new (reverse t.path))) (sym on.there)
                (subst (λ (o : Option (Node Activation)). ShowsAt to places t.path (Some t.frame) o) (sym at_path)
                (subst (λ (y : Frame). ShowsNode to places t.path t.frame y) (sym same) seat.shows));
            at = λ i. ap (λ o. alloca_at places o i) at_path ∙ (ap (λ (y : Frame). own_at y.role (y.home +ℤ number_in (allocas_of places y.function.0) i)) same ∙ seat.at i);
          };
    }

  -- ---- all of them

  abbrev pub Levels : Placed → List Placed → ℕ → List ℕ → Type 0
  Levels t [] s [] = Level t s
  Levels t [] s (c ∷ slots) = ⊥
  Levels t (g ∷ gs) s [] = ⊥
  Levels t (g ∷ gs) s (c ∷ slots) = Level t s × Levels g gs c slots

  no_runner : (s : ℕ) → ((v : ℕ) → worker ≢ v → hand_of k.hands.items v ≢ Some s) → s ≢ top → (o : Option ℕ) → o ≡ None → (v : ℕ) → (o ≡ Some v) ↔ (hand_of hands.items v ≡ Some s)
  no_runner s unheld away o none v = (
    (λ e. absurd (let h : None ≡ Some v = sym none ∙ e in cc)),
    (λ e. absurd (elim (hand_set prog places m k shown slot node stands worker hand within (Some top) v) [
      | inl h ↦ away (same_Some s top (sym e ∙ h.1))
      | inr h ↦ unheld v h.0 (sym h.1 ∙ e)
    ])),
  )

  pub levels : (older : ℕ → ℕ) (t : Placed) (f : Frame) (gs : List Placed) (hs : List Frame) (s : ℕ) (path : List ℕ) (a : Activation) (slots : List ℕ) (links : List (Link Activation)) →
      Climbs prog places to (segment_of x) m.core next.core older t f gs hs → Held new s path a slots links → AreLinked worker path f hs links → SeatOf (head_of hs) older t f s path a → AreFree k.cactus slots → top ≡ last_of s slots → Levels t gs s slots
  levels older t f [] [] s path a [] [] climbs held linked seat free last =
      let here = held.frame_is in
      level None older t f s path a seat climbs.0 held.node held.stands held.path_is (ap (λ (y : Activation). y.frame) here) (ap (λ (y : Activation). y.counts) here)
      (λ v. (let by = taken_up prog places m k shown slot node stands worker hand within (Some top) s (ap Some last) seat.unheld v in
      let is : held.node.frame.runner ≡ Some worker = ap (λ (y : Activation). y.runner) here ∙ seat.runner in
      (λ e. by.0 (sym is ∙ e), λ e. is ∙ by.1 e)))
      (uncalled new held.node held.node.frame.frame.waits held.node.frame.callee
      (subst WaitsForNone (climbs.0.shows.waits ∙ ap wait_of (sym (ap (λ (y : Activation). y.frame.waits) here ∙ seat.waits))) climbs.1) (ap (λ (y : Activation). y.callee) here ∙ seat.callee))
      (λ r. (let c = climbs.2 r in omega (arith, c)))
      (λ region free. (let runs : None ≡ Some worker = sym free ∙ (ap (λ (y : Activation). y.runner) here ∙ seat.runner) in absurd (cc)))
  levels older t f [] [] s path a [] (y ∷ links) climbs held linked seat free last = absurd held
  levels older t f [] [] s path a (c ∷ slots) [] climbs held linked seat free last = absurd held
  levels older t f [] [] s path a (c ∷ slots) (y ∷ links) climbs held linked seat free last = absurd linked
  levels older t f [] (h ∷ hs) s path a slots links climbs held linked seat free last = absurd climbs
  levels older t f (g ∷ gs) [] s path a slots links climbs held linked seat free last = absurd climbs
  levels older t f (g ∷ gs) (h ∷ hs) s path a [] [] climbs held linked seat free last = absurd linked
  levels older t f (g ∷ gs) (h ∷ hs) s path a [] (y ∷ links) climbs held linked seat free last = absurd held
  levels older t f (g ∷ gs) (h ∷ hs) s path a (c ∷ slots) [] climbs held linked seat free last = absurd held
  levels older t f (g ∷ gs) (h ∷ hs) s path a (c ∷ slots) (y ∷ links) (on, up, count, more) (mine, out, rest) (path_is, is_act, linked) seat free last =
      let here = mine.frame_is in
      let (after, after_stands, after_path) = held_there new c y.path.numbers y.frame slots links rest in
      let away : s ≢ top = λ e. last_out s c slots out (e ∙ last) in
      let up_on : IsOn prog places to (segment_of x) m.core next.core g h = lower_on gs hs more in (
        level (Some h) older t f s path a seat on mine.node mine.stands mine.path_is (ap (λ (z : Activation). z.frame) here ∙ under_frame c a.frame.waits a) (ap (λ (z : Activation). z.counts) here ∙ under_counts c a.frame.waits a)
            (no_runner s seat.unheld away mine.node.frame.runner (ap (λ (z : Activation). z.runner) here ∙ (under_runner c a.frame.waits a ∙ seat.runner)))
            (subst (λ (z : Activation). CalleeStands new mine.node z.frame.waits z.callee) (sym here)
            (subst (λ (w : Wait). CalleeStands new mine.node w (under c a).callee) (sym (ap (λ (z : Frame). z.waits) (under_frame c a.frame.waits a)))
            (called new mine.node a.frame.waits c a after seat.callee after_stands (λ child register e. by_number child register e after mine.node after_path mine.path_is))))
            (λ r. (count r ∙ ap (λ n. n + older r) (ap (λ q. counts_in q r) up_on.shows.shown.role ∙ role_counts h.role r)))
            (λ region free waits. not_stalled g.frame.role t.frame.waits region.0 up.behind (on.shows.waits ∙ ap wait_of (sym (ap (λ (z : Frame). z.waits) (ap (λ (z : Activation). z.frame) here ∙ under_frame c a.frame.waits a) ∙ seat.waits) ∙ waits))),
        levels no_count g h gs hs c y.path.numbers y.frame slots links more rest linked
            (seat_up prog places k m shown worker to x lent next t g f h (head_of hs) c y.path.numbers path y.frame up_on up is_act seat.place path_is free.0) free.1 last,
      )
    where
      lower_on : (gs2 : List Placed) (hs2 : List Frame) → Climbs prog places to (segment_of x) m.core next.core no_count g h gs2 hs2 → IsOn prog places to (segment_of x) m.core next.core g h
      lower_on [] [] climb = climb.0
      lower_on [] (h2 ∷ hs2) climb = absurd climb
      lower_on (g2 ∷ gs2) [] climb = absurd climb
      lower_on (g2 ∷ gs2) (h2 ∷ hs2) climb = climb.0

      by_number : (child : ℕ) (register : Option RegisterId) → a.frame.waits ≡ wait.Call child register → (after mine : Node Activation) → after.path.numbers ≡ y.path.numbers → mine.path.numbers ≡ path → after.path.numbers ≡ mine.path.numbers ++ child ∷ []
      by_number child register e after mine after_path mine_path =
          let waits : t.frame.waits ≡ OnCall child register = on.shows.waits ∙ ap wait_of (sym seat.waits ∙ e) in
          let made = on.last child register waits in
          let shown_made = on.shows.shown.made in
          let number : f.made - 1 ≡ child = omega (arith, made, shown_made) in
          after_path ∙ (path_is ∙ (λ i. sym mine_path i ++ number i ∷ []))

  -- ---- found by slot and by path

  pub by_slot : (z : ℕ) (t : Placed) (gs : List Placed) (s : ℕ) (slots : List ℕ) → Levels t gs s slots →
      ((n : Node Activation) → node_at new z ≡ Some n → HoldsAt z n × (IsOff (place_of n) t gs → ⊥) × ((region : RegisterId) → n.frame.runner ≡ None → n.frame.frame.waits ≢ wait.Region region)) ⊎ IsOut z (s ∷ slots)
  by_slot z t [] s [] here =
      elim (eqb_tells z s) [
        | inl e ↦ inl (λ n stands_n.
            let same : here.there ≡ n = same_Some here.there n (sym here.in_slot ∙ subst (λ y. node_at new y ≡ Some n) e.1 stands_n) in
            (subst (λ y. HoldsAt y n) (sym e.1) (subst (λ y. HoldsAt s y) same here.holds), λ off. off (sym here.place ∙ ap place_of same), subst (λ (y : Node Activation). (region : RegisterId) → y.frame.runner ≡ None → y.frame.frame.waits ≢ wait.Region region) same here.going))
        | inr e ↦ inr (e.1, tt)
      ]
  by_slot z t [] s (c ∷ slots) here = absurd here
  by_slot z t (g ∷ gs) s [] here = absurd here
  by_slot z t (g ∷ gs) s (c ∷ slots) (here, more) =
      elim (eqb_tells z s) [
        | inl e ↦ inl (λ n stands_n.
            let same : here.there ≡ n = same_Some here.there n (sym here.in_slot ∙ subst (λ y. node_at new y ≡ Some n) e.1 stands_n) in
            (subst (λ y. HoldsAt y n) (sym e.1) (subst (λ y. HoldsAt s y) same here.holds), λ off. off.0 (sym here.place ∙ ap place_of same), subst (λ (y : Node Activation). (region : RegisterId) → y.frame.runner ≡ None → y.frame.frame.waits ≢ wait.Region region) same here.going))
        | inr e ↦ elim (by_slot z g gs c slots more) [
          | inl found ↦ inl (λ n stands_n. let (holds, on_path, going) = found n stands_n in (holds, λ off. on_path off.1, going))
          | inr out ↦ inr (e.1, out)
        ]
      ]

  pub by_path : (q : Path) (t : Placed) (gs : List Placed) (s : ℕ) (slots : List ℕ) → Levels t gs s slots → ToldAt q ⊎ IsOff q t gs
  by_path q t [] s [] here = elim (same_path_tells t.path q) [ inl e ↦ inl (subst (λ y. ToldAt y) e.1 here.told) | inr e ↦ inr e.1 ]
  by_path q t [] s (c ∷ slots) here = absurd here
  by_path q t (g ∷ gs) s [] here = absurd here
  by_path q t (g ∷ gs) s (c ∷ slots) (here, more) =
      elim (same_path_tells t.path q) [
        | inl e ↦ inl (subst (λ y. ToldAt y) e.1 here.told)
        | inr e ↦ elim (by_path q g gs c slots more) [ inl told ↦ inl told | inr off ↦ inr (e.1, off) ]
      ]

  -- the worker's hand
  pub top_there : (t : Placed) (gs : List Placed) (s : ℕ) (slots : List ℕ) → Levels t gs s slots → top ≡ last_of s slots → (n : Node Activation) × (node_at new top ≡ Some n) × (place_of n ≡ highest t gs)
  top_there t [] s [] here last = (here.there, ap (node_at new) last ∙ here.in_slot, here.place)
  top_there t [] s (c ∷ slots) here last = absurd here
  top_there t (g ∷ gs) s [] here last = absurd here
  top_there t (g ∷ gs) s (c ∷ slots) (here, more) last = top_there g gs c slots more last
