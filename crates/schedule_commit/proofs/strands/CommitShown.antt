-- The run after a commit shows the machine that absorbed the strand.
use Rattle.std.proofs.Common.{Vec, Global, ◌≡◌, ◌≢◌, ◌∙◌, ◌+◌, ◌-◌, ◌<◌, ◌≤◌, ℕ, List, [], ◌∷◌, ◌++◌, length, max, reverse, Option, Some, None, ◌⊎◌, inl, inr, refl, sym, ap, subst, arith, pos}
use Rattle.std.specs.Option.{option_map}
use Rattle.std.specs.Vec.{with_item}
use Rattle.std.specs.List.{All}
use Rattle.std.proofs.lemmas.List.{length-reverse, reverse-append, reverse-reverse}
use Rattle.std.proofs.lemmas.List.Elements.{All-cons, All-nil}
use Rattle.std.proofs.lemmas.Option.{same_Some}
use Rattle.std.proofs.lemmas.Bool.Decides.{eqb_tells}
use Rattle.semantics.specs.Paths.{Path}
use Rattle.semantics.specs.Below.{Under}
use Rattle.semantics.specs.Cells.{Object, Shared, Local}
use Rattle.semantics.specs.Frames as frames
use Rattle.semantics.specs.Counts.{count_of}
use Rattle.semantics.specs.Events.{Machine}
use Rattle.linear.specs.declared.form.RegisterId.{RegisterId}
use Rattle.program.specs.declared.function.Program.{Program}
use Rattle.frame.specs.declared.frame.Wait.{Wait}
use Rattle.frame.specs.declared.frame.Wait.TheVariants as wait
use Rattle.cactus.specs.declared.node.Link.{Link}
use Rattle.cactus.specs.declared.node.Node.{Node}
use Rattle.cactus.specs.Frames.{Frames, Lives, node_at}
use Rattle.cactus.specs.ByPath.{named, IsTree}
use Rattle.cactus.specs.Chain.{GrowsChain, RiseFrom}
use Rattle.cactus.proofs.ByPathLemmas.{FoundAt, named_found, named_is, named_none, not_named}
use Rattle.frame_engine.specs.declared.activation.Frame.{Frame}
use Rattle.frame_engine.specs.declared.activation.Places.{Places}
use Rattle.frame_engine.specs.declared.flat.Flat.{Flat}
use Rattle.frame_engine.specs.Shows.{Layout}
use Rattle.schedule_workers.specs.declared.activation.Activation.{Activation}
use Rattle.schedule_workers.specs.declared.run.Run.{Run}
use Rattle.schedule_workers.specs.Going.{PointsUp, TextFits}
use Rattle.schedule_workers.specs.Layouts.{alloca_at, layout_of, living, object_at}
use Rattle.schedule_workers.specs.RunShown.{CalleeStands, IsShown, ShowsAt, place_of}
use Rattle.schedule_workers.specs.Stalls.{Blocks, StallsAgree}
use Rattle.schedule_workers.proofs.Changed.{Holds, changed_by, changed_to_shown, kept_holds}
use Rattle.schedule_workers.proofs.Handing.{held_then, others_stay, seen_at, seen_then}
use Rattle.schedule_workers.proofs.Onward.{seen}
use Rattle.schedule_workers.proofs.Views.{hand_seen}
use Rattle.laws_strands.specs.stacks.Strands.{Placed}
use Rattle.laws_strands.specs.stacks.Law.{IsOrderly, absorbed, no_count}
use Rattle.laws_strands.proofs.stacks.Rising.{rises}
use Rattle.strand.specs.Layouts.{Segment, layout_above}
use Rattle.strand.specs.OwnCells.{segment_of}
use Rattle.strand.specs.Putting.{ArePutInto}
use Rattle.strand.specs.serial_stack.StackShown.{unboxed}
use Rattle.strand.specs.declared.strand.Strand.{Strand}
use Rattle.strand.proofs.Committed.{strand_shown}
use Rattle.strand.proofs.Living.{alloca_cells as text_cells, local_above, shared_above}
use Rattle.strand.proofs.Over.{LiesOver, lies_over}
use Rattle.schedule_commit.specs.strands.Committing.{IsBase, last_of}
use Rattle.schedule_commit.specs.strands.Fitting.{FitsStrand}
use Rattle.schedule_commit.specs.strands.Linking.{AreLinks}
use Rattle.schedule_commit.proofs.strands.Climbing.{Climbed, Climbs, IsOff, NoneIs, climbed, off_all, shared_at}
use Rattle.schedule_commit.proofs.strands.OfRun.{IsStrandOfRun}
use Rattle.schedule_commit.proofs.strands.Levels.{Levels, StandsAt, by_path, by_slot, levels, top_there}
use Rattle.schedule_commit.proofs.strands.Linked.{AreLinked, are_linked, length-unboxed}
use Rattle.schedule_commit.proofs.strands.Others.{count_same, living_off, none_above, on_base}
use Rattle.schedule_commit.proofs.strands.Offsets.{cells_by_text}
use Rattle.schedule_commit.proofs.strands.Ready.{as_many_below, below_done}
use Rattle.schedule_commit.proofs.strands.Seats.{seat_base, unnamed}
use Rattle.schedule_commit.proofs.strands.Stood.{AreSeated, Held, IsOut, last_out, out_of_free}

low_off : (q : Path) (t : Placed) (gs : List Placed) → IsOff q t gs → t.path ≢ q
low_off q t [] off = off
low_off q t (g ∷ gs) off = off.0

module _ (prog : Program) (places : Places) (moves : ℕ) (text : TextFits prog places moves) (k : Run) (m : Machine) (shown : IsShown prog places m k) (orderly : IsOrderly m) (points : (q : Path) (f : frames.Frame) → m.core.frames q ≡ Some f → PointsUp q f) (x : Strand) (worker slot : ℕ) (fits : FitsStrand prog k worker x slot)
    (within : worker < length k.hands.items) (d : IsStrandOfRun prog places k worker x m) (callee_none : fits.node.frame.callee ≡ None) where
  abbrev l : Layout
  l = layout_of prog places k.cactus m.core

  abbrev segment : Segment
  segment = segment_of x.cells

  -- where all of it lies then
  abbrev to : Layout
  to = layout_above l prog segment.start d.strand.top d.strand.below

  abbrev next : Machine
  next = absorbed m worker d.strand

  abbrev node : Node Activation
  node = fits.node

  abbrev older : ℕ → ℕ
  older = count_of m.core d.strand.base.path

  nowhere : (q : Path) (a : ℕ) → m.core.frames q ≡ None → l.at (Local q a) ≡ pos 0
  nowhere q a gone = ap (λ o. alloca_at places o a) (unnamed l places q _ _ gone (shown.shows.frames q))

  abbrev c : Climbed prog places moves text l m worker d.strand d.is x segment d.shown d.can d.fits.runs orderly d.points nowhere
  c = climbed prog places moves text l m worker d.strand d.is x segment d.shown d.can d.fits.runs orderly d.points nowhere d.free

  stood : m.core.frames c.low.path ≡ Some d.strand.base.frame
  stood = ap m.core.frames c.path ∙ d.fits.runs.frame

  same_place : c.low.path ≡ place_of node
  same_place =
      c.path ∙ same_Some d.strand.base.path (place_of node) (sym d.fits.runs.hand ∙ (shown.shows.hands worker ∙ hand_seen k.cactus k.hands.items worker slot node fits.hand fits.stands))

  -- none of the new frames stands above one that lived
  above_old : (q : Path) (was : frames.Frame) → m.core.frames q ≡ Some was → NoneIs (λ p. Under p q) c.ups
  above_old q was is = none_above prog places to segment m.core next.core orderly.tree older c.low c.frame c.ups c.frames c.climbs q was is

  -- so that is shown as it was
  lift_at : (q : Path) (o : Option frames.Frame) (n : Option (Node Activation)) → m.core.frames q ≡ o → ShowsAt l places q o n → ShowsAt to places q o n
  lift_at q None None is h = h
  lift_at q None (Some n) is h = absurd h
  lift_at q (Some g) None is h = absurd h
  lift_at q (Some g) (Some n) is h = record { shown = c.lifted.shown q g n.frame.frame (above_old q g is) (points q g is) h.shown; waits = h.waits }

  -- ---- the frames that are made can be made

  rise : (counts : ℕ → ℕ) (t : Placed) (f : Frame) (gs : List Placed) (hs : List Frame) (path : List ℕ) (links : List (Link Activation)) → Climbs prog places to segment m.core next.core counts t f gs hs → AreLinked worker path f hs links → path ≡ reverse t.path →
      RiseFrom path links × All (λ (link : Link Activation). named k.cactus link.path.numbers ≡ None) links
  rise counts t f [] [] path [] climbs linked is = (tt, All-nil (λ (link : Link Activation). named k.cactus link.path.numbers ≡ None))
  rise counts t f [] [] path (y ∷ links) climbs linked is = absurd linked
  rise counts t f [] (h ∷ hs) path links climbs linked is = absurd climbs
  rise counts t f (g ∷ gs) [] path links climbs linked is = absurd climbs
  rise counts t f (g ∷ gs) (h ∷ hs) path [] climbs linked is = absurd linked
  rise counts t f (g ∷ gs) (h ∷ hs) path (y ∷ links) (on, up, count, more) (path_is, act, linked) is =
      let here : y.path.numbers ≡ reverse g.path = path_is ∙ (ap (λ (ns : List ℕ). ns ++ (f.made - 1) ∷ []) is ∙ (sym (reverse-append ((f.made - 1) ∷ []) t.path) ∙ ap reverse (sym up.path))) in
      let (rises, free) = rise no_count g h gs hs y.path.numbers links more linked here in (
        ((f.made - 1, path_is), rises),
        All-cons (λ (link : Link Activation). named k.cactus link.path.numbers ≡ None) y links (ap (named k.cactus) here ∙ unnamed l places g.path _ _ up.fresh (shown.shows.frames g.path)) free,
      )

  module _ (links : List (Link Activation)) (are : AreLinks worker x links) where
    linked : AreLinked worker node.path.numbers c.frame c.frames links
    linked = subst (λ (p : List ℕ). AreLinked worker p c.frame c.frames links) (sym fits.path) (are_linked worker x links are c.frame c.frames c.all)

    numbers_are : node.path.numbers ≡ reverse c.low.path
    numbers_are = sym (reverse-reverse node.path.numbers) ∙ ap reverse (sym same_place)

    pub mid_tree : (mid : Frames Activation) → GrowsChain k.cactus mid slot links → IsTree mid
    mid_tree mid grows =
        let (rises, free) = rise older c.low c.frame c.ups c.frames node.path.numbers links c.climbs linked numbers_are in
        (grows node shown.agrees.tree fits.stands rises free).tree

    module _ (new : Frames Activation) (tree : IsTree new) (base : Activation) (is_base : IsBase x node.frame base) (slots : List ℕ) (seats : AreSeated k.cactus new slot node.path.numbers base links slots) (cells : Flat)
        (puts : ArePutInto x.cells x.end k.cells.cells.items cells.cells.items) where
      abbrev top : ℕ
      top = last_of slot slots

      abbrev peak : ℕ
      peak = max k.peak x.deepest

      abbrev hands : Vec (Option ℕ) Global
      hands = with_item k.hands worker (Some top)

      abbrev HoldsAt : ℕ → Node Activation → Type 0
      HoldsAt = Holds prog places m next k new peak hands

      all : Levels prog places k m next shown x.cells fits.free to worker slot node fits.stands fits.hand within new tree peak top c.low c.ups slot slots
      all =
          levels prog places k m next shown x.cells fits.free to worker slot node fits.stands fits.hand within new tree peak top older c.low c.frame c.ups c.frames slot node.path.numbers base slots links c.climbs seats.held linked
          (seat_base prog places k m shown worker to slot x fits within d callee_none base is_base c.low c.frame c.frames c.all c.path c.like next
          (on_base prog places to segment m.core next.core older c.low c.frame c.ups c.frames c.climbs d.strand.base.frame stood c.like.role c.elsewhere)
          (c.lifted.shown d.strand.base.path d.strand.base.frame x.base.frame (above_old d.strand.base.path d.strand.base.frame d.fits.runs.frame) (points d.strand.base.path d.strand.base.frame d.fits.runs.frame) d.shown.loaded)
          (λ i. c.lifted.at c.low.path i (c.lifted.other c.low.path (omega arith))))
          seats.free refl

      found : (z : ℕ) → ((n : Node Activation) → node_at new z ≡ Some n → HoldsAt z n × (IsOff (place_of n) c.low c.ups → ⊥) × ((region : RegisterId) → n.frame.runner ≡ None → n.frame.frame.waits ≢ wait.Region region)) ⊎ IsOut z (slot ∷ slots)
      found z = by_slot prog places k m next shown x.cells fits.free to worker slot node fits.stands fits.hand within new tree peak top z c.low c.ups slot slots all

      -- ---- the other frames

      -- what stood in another slot is none of the new frames, and stays
      out_of : (z : ℕ) (n : Node Activation) → z ≢ slot → node_at k.cactus z ≡ Some n → IsOut z (slot ∷ slots)
      out_of z n away stands = (away, out_of_free k.cactus z n stands slots seats.free)

      low_there : (n : Node Activation) × (node_at new slot ≡ Some n) × (n.path.numbers ≡ node.path.numbers)
      low_there = from links slots seats.held
        where
          from : (ls : List (Link Activation)) (ss : List ℕ) → Held new slot node.path.numbers base ss ls → (n : Node Activation) × (node_at new slot ≡ Some n) × (n.path.numbers ≡ node.path.numbers)
          from [] [] held = (held.node, held.stands, held.path_is)
          from (y ∷ ls) [] held = absurd held
          from [] (z ∷ ss) held = absurd held
          from (y ∷ ls) (z ∷ ss) held = (held.0.node, held.0.stands, held.0.path_is)

      still : (z : ℕ) (n : Node Activation) → node_at k.cactus z ≡ Some n → (y : Node Activation) × (node_at new z ≡ Some y) × (y.path ≡ n.path)
      still z n stands =
          elim (eqb_tells z slot) [
            | inl e ↦
                let same : node ≡ n = same_Some node n (sym fits.stands ∙ subst (λ y. node_at k.cactus y ≡ Some n) e.1 stands) in
                let (y, there, path) = low_there in
                (y, ap (node_at new) e.1 ∙ there, ap (λ (ns : List ℕ). record { numbers = ns }) (path ∙ ap (λ (q : Node Activation). q.path.numbers) same))
            | inr e ↦ (n, seats.out z (out_of z n e.1 stands) ∙ stands, refl)
          ]

      callee_still : (n : Node Activation) (w : Wait) (callee : Option ℕ) → CalleeStands k.cactus n w callee → CalleeStands new n w callee
      callee_still n wait.Nothing callee e = e
      callee_still n (wait.Region region) callee e = e
      callee_still n (wait.Call child register) callee (s, called, at, there, numbers) =
          let (y, now, path) = still s called there in
          (s, y, at, now, ap (λ p. p.numbers) path ∙ numbers)

      off_path : (z : ℕ) (n : Node Activation) → z ≢ slot → node_at k.cactus z ≡ Some n → IsOff (place_of n) c.low c.ups
      off_path z n away stands =
          let v = seen prog places k z n n.frame stands m shown in
          living_off prog places to segment m.core next.core older c.low c.frame c.ups c.frames c.climbs (place_of n) v.frame v.is
          (λ e. away (shown.agrees.tree.distinct z slot n node stands fits.stands (sym (reverse-reverse n.path.numbers) ∙ (ap reverse (sym e ∙ same_place) ∙ reverse-reverse node.path.numbers))))

      holds_other : (z : ℕ) (n : Node Activation) → IsOut z (slot ∷ slots) → node_at new z ≡ Some n → HoldsAt z n
      holds_other z n out stands =
          let was : node_at k.cactus z ≡ Some n = sym (seats.out z out) ∙ stands in
          kept_holds prog places m next k new peak hands shown z n (record {
            was = was;
            same_hands = others_stay prog places m k shown slot node fits.stands worker fits.hand within (Some top) z out.0 (λ e. last_out z slot slots out (sym (same_Some top z e)));
            callee = callee_still n n.frame.frame.waits n.frame.callee (shown.agrees.nodes z n was).callee;
            counts = λ r. count_same prog places to segment m.core next.core older c.low c.frame c.ups c.frames c.climbs d.strand.base.frame stood c.like.role c.elsewhere (place_of n) (off_path z n out.0 was) r;
          })

      holds : (z : ℕ) (n : Node Activation) → node_at new z ≡ Some n → HoldsAt z n
      holds z n stands = elim (found z) [ inl here ↦ (here n stands).0 | inr out ↦ holds_other z n out stands ]

      -- ---- paths

      named_off : (q : Path) → IsOff q c.low c.ups → named new (reverse q) ≡ named k.cactus (reverse q)
      named_off q off = from (named k.cactus (reverse q)) refl
        where
          back : (n : Node Activation) → n.path.numbers ≡ reverse q → place_of n ≡ q
          back n is = ap reverse is ∙ reverse-reverse q

          not_low : (n : Node Activation) → n.path.numbers ≡ reverse q → node ≡ n → ⊥
          not_low n is same = low_off q c.low c.ups off (same_place ∙ (ap place_of same ∙ back n is))

          from : (o : Option (Node Activation)) → named k.cactus (reverse q) ≡ o → named new (reverse q) ≡ o
          from (Some n) is =
              let at : FoundAt k.cactus (reverse q) n = named_found k.cactus (reverse q) n is in
              let away : at.slot ≢ slot = λ e. not_low n at.is (same_Some node n (sym fits.stands ∙ (ap (node_at k.cactus) (sym e) ∙ at.stands))) in
              named_is new tree at.slot n (reverse q) (seats.out at.slot (out_of at.slot n away at.stands) ∙ at.stands) at.is
          from None is = not_named new (reverse q) (λ z n stands numbers. elim (found z) [
            | inl here ↦ (here n stands).1 (subst (λ y. IsOff y c.low c.ups) (sym (back n numbers)) off)
            | inr out ↦ named_none k.cactus (reverse q) is z n (sym (seats.out z out) ∙ stands) numbers
          ])

      told : (q : Path) → StandsAt places to next new q
      told q =
          elim (by_path prog places k m next shown x.cells fits.free to worker slot node fits.stands fits.hand within new tree peak top q c.low c.ups slot slots all) [
            | inl t ↦ t
            | inr off ↦ record {
              shows = subst (λ (o : Option frames.Frame). ShowsAt to places q o (named new (reverse q))) (sym (c.elsewhere q off))
                  (subst (λ (n : Option (Node Activation)). ShowsAt to places q (m.core.frames q) n) (sym (named_off q off)) (lift_at q (m.core.frames q) (named k.cactus (reverse q)) refl (shown.shows.frames q)));
              at = λ a. ap (λ o. alloca_at places o a) (named_off q off) ∙ sym (c.lifted.at q a (off_all q c.low c.ups off));
            }
          ]

      -- ---- cells

      local : (owner : Path) (a : ℕ) → l.cells (Local owner a) ≡ text_cells prog (m.core.frames owner) a
      local owner a = cells_by_text prog (m.core.frames owner) a

      laid_at : (o : Object) → object_at places new o ≡ to.at o
      laid_at (Shared n) = sym (shared_at l prog segment.start n d.strand.top d.strand.below)
      laid_at (Local owner a) = (told owner).at a

      laid_cells : (o : Object) → living prog next.core o ≡ to.cells o
      laid_cells (Shared n) = sym (shared_above prog l m local worker d.strand d.is d.fits.runs orderly segment.start n)
      laid_cells (Local owner a) = cells_by_text prog (next.core.frames owner) a ∙ sym (local_above prog l m local worker d.strand d.is d.fits.runs orderly segment.start owner a)

      over : LiesOver l to segment.start x.end
      over =
          subst (λ (n : ℕ). LiesOver l to segment.start n) (sym d.shown.end)
          (lies_over l prog segment d.strand.base d.can.apart d.can.outside d.can.fresh d.can.small d.strand.top d.strand.below (rises prog d.strand d.is) d.shown.room)

      room : x.end ≤ segment.start + segment.count
      room = let same = d.shown.end in let all = d.shown.room in omega (arith, same, all)

      within_row : x.end ≤ length k.cells.cells.items
      within_row = let low = room in let row = fits.free.row in omega (arith, low, row)

      -- ---- all of it

      at_top : (n : Node Activation) × (node_at new top ≡ Some n) × (place_of n ≡ d.strand.top.path)
      at_top =
          let (n, stands, place) = top_there prog places k m next shown x.cells fits.free to worker slot node fits.stands fits.hand within new tree peak top c.low c.ups slot slots all refl in
          (n, stands, place ∙ c.top)

      seen_top : seen_at new (Some top) ≡ Some d.strand.top.path
      seen_top = let (n, stands, place) = at_top in ap (option_map place_of) stands ∙ ap Some place

      lives_top : (z : ℕ) → Some top ≡ Some z → Lives new z
      lives_top z e = let (n, stands, place) = at_top in subst (λ y. Lives new y) (same_Some top z e) (rw stands refl)

      few : new.made ≤ k.instructions + x.done + 1
      few =
          let made = seats.made in
          let many = are.many in
          let was = shown.agrees.made in
          let low = below_done prog d.strand d.is in
          let one = as_many_below l prog places segment.start d.strand.below (reverse (unboxed x.below.items)) d.shown.below in
          let two = length-reverse (unboxed x.below.items) in
          let boxes = length-unboxed x.below.items in
          let done = d.shown.done in
          omega (arith, made, many, was, low, one, two, boxes, done)

      pub committed_shown : IsShown prog places next (changed_by prog places m next k new peak hands shown (k.instructions + x.done) cells)
      committed_shown = changed_to_shown prog places m next k new peak hands shown (k.instructions + x.done) cells to (record {
        laid = λ i. record { at = λ o. laid_at o i; cells = λ o. laid_cells o i };
        tree = tree;
        stands = λ q. (told q).shows;
        holds = holds;
        seen = seen_then prog places m k shown slot node fits.stands worker fits.hand within (Some top) new (Some d.strand.top.path) seen_top (λ z n away stands. still z n stands);
        held = held_then prog places m k shown slot node fits.stands worker fits.hand within (Some top) new lives_top (λ z n away stands. still z n stands);
        made = few;
        holds_cells = strand_shown l to d.shown.first d.strand.footprint x.cells d.shown.kept segment refl x.end over d.can.outside room m.core.memory d.fits.reads k.cells.cells.items cells.cells.items shown.shows.cells within_row puts;
        done_is = (let a = d.shown.done in let b = shown.shows.done in omega (arith, a, b));
        peak_is = (let a = d.shown.deepest in let b = shown.shows.peak in omega (arith, a, b));
        result = refl;
        sound = shown.shows.trapped;
      })

      -- stalled frames are others, of whose paths the steps tell nothing
      pub committed_stalls : (last later : Blocks) → ((q : Path) (was : frames.Frame) → m.core.frames q ≡ Some was → d.strand.base.path ≢ q → later q ≡ last q) → StallsAgree last k.cactus → StallsAgree later new
      committed_stalls last later same agree z n stands region free waits = elim (found z) [
        | inl here ↦ absurd ((here n stands).2 region free waits)
        | inr out ↦
            let was : node_at k.cactus z ≡ Some n = sym (seats.out z out) ∙ stands in
            let v = seen prog places k z n n.frame was m shown in
            agree z n was region free waits ∙ sym (same (place_of n) v.frame v.is (λ e. low_off (place_of n) c.low c.ups (off_path z n out.0 was) (c.path ∙ e)))
      ]
