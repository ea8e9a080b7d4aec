-- What is shown after a call.
use Rattle.std.proofs.Common.{◌≡◌, ◌≢◌, ℕ, ◌+◌, ◌<◌, ◌≤◌, List, [], ◌∷◌, ◌++◌, length, max, reverse, Option, Some, None, true, false, cond, eqb, inl, inr, refl, sym, ap, ◌∙◌, subst, arith, ℤ, pos, ◌+ℤ◌, Vec, Global}
use Rattle.std.specs.Prelude.{◌↔◌, IsTrue, map, sum, slice_get, option_and_then}
use Rattle.std.specs.Option.{option_map}
use Rattle.std.specs.Vec.{with_item}
use Rattle.std.proofs.lemmas.Bool.Decides.{eqb_tells}
use Rattle.std.proofs.lemmas.Int.{ints}
use Rattle.std.proofs.lemmas.List.{get_or-set_same, get_or-set_other}
use Rattle.std.proofs.lemmas.Option.{same_Some, get_or_from_slice_get}
use Rattle.linear.specs.declared.form.RegisterId.{RegisterId}
use Rattle.semantics.specs.Arithmetic.{wrapped}
use Rattle.semantics.specs.Paths.{Path}
use Rattle.semantics.specs.Cells.{Cell, Object, Shared, Local}
use Rattle.semantics.specs.Frames as frames
use Rattle.semantics.specs.Frames.{Value, Pointer, Does, OnCall, first_cell}
use Rattle.semantics.specs.Effect.{Call, action_of, argument_values}
use Rattle.semantics.specs.State.{called, waiting}
use Rattle.semantics.specs.Counts.{count_in, count_of}
use Rattle.semantics.specs.Events as running
use Rattle.semantics.specs.Events.{Machine, Step, event}
use Rattle.semantics.proofs.Places.{same_path_tells}
use Rattle.semantics.proofs.Steps.{some_same}
use Rattle.frame.proofs.Changes.{get_set, get_other}
use Rattle.frame.specs.declared.path.Path.{Path as Name}
use Rattle.syntax.specs.declared.operator.Width.TheVariants.{Bits64}
use Rattle.program.specs.declared.function.Function.{Function}
use Rattle.program.specs.declared.function.Global.{Global as SharedCells}
use Rattle.program.specs.declared.function.Program.{Program}
use Rattle.program.specs.declared.identifier.FunctionId.{FunctionId}
use Rattle.program.specs.declared.identifier.ObjectName.TheVariants as object
use Rattle.program.specs.declared.instruction.Argument.{Argument}
use Rattle.program.specs.declared.instruction.Instruction.TheVariants as instruction
use Rattle.frame.specs.declared.frame.Wait.{Wait}
use Rattle.frame.specs.declared.frame.Wait.TheVariants as wait
use Rattle.frame.specs.Reading.{wait_of}
use Rattle.cactus.specs.declared.node.Node.{Node}
use Rattle.cactus.specs.Frames.{Frames, node_at, AddsChild, Lives}
use Rattle.cactus.specs.ByPath.{named, GrowsMap}
use Rattle.frame_engine.specs.declared.activation.Frame.{Frame}
use Rattle.frame_engine.specs.declared.activation.Places.{Places}
use Rattle.frame_engine.specs.Activation.{FrameFits, ShowsFrame, allocas_of}
use Rattle.frame_engine.specs.Fits.{PlaceFits}
use Rattle.frame_engine.specs.Flat.{cell_in, is_cell}
use Rattle.frame_engine.specs.Names.{HasArgument, HasResult, sizes}
use Rattle.frame_engine.specs.Shows.{IsIn, Layout, PointsAlike, ShowsBases, ShowsCells, address}
use Rattle.frame_engine.specs.Words.{bases}
use Rattle.frame_engine.proofs.Texts.{behind_step, does_fit, frame_stands, located, starts_block}
use Rattle.schedule_workers.specs.declared.activation.Activation.{Activation}
use Rattle.schedule_workers.specs.declared.run.Block.{Block}
use Rattle.schedule_workers.specs.declared.run.Run.{Run}
use Rattle.schedule_workers.specs.Calls.{IsCallee, waiting_on}
use Rattle.schedule_workers.specs.Rooms.{IsRoom}
use Rattle.schedule_workers.specs.Scheduling.{hand_of, counted_in}
use Rattle.schedule_workers.specs.Layouts.{alloca_at, alloca_cells, layout_of, number_in, object_at, own_at}
use Rattle.schedule_workers.specs.Going.{PointsUp, RunsSafely, TextFits}
use Rattle.schedule_workers.specs.RunShown.{Agrees, AreBeside, BlocksStand, CalleeStands, HasBlock, HasTaker, IsBlockOf, IsPlaced, IsShown, NodeFits, ShowsAt, ShowsMachine, cells_in, item_here, place_of, hands_of}
use Rattle.schedule_workers.proofs.Begun.{back_down, NamedNow, StoodNow, the_caller, the_callee, another, as_caller, as_callee, as_before}
use Rattle.schedule_workers.proofs.Begun as now
use Rattle.schedule_workers.proofs.Calling as step
use Rattle.schedule_workers.proofs.Lying.{alloca_address, alloca_offset, lies, offset_below, same_offset}
use Rattle.schedule_workers.proofs.Pointing.{IsAlike, IsApart, address_apart, apart_above, living_shown, whose}
use Rattle.schedule_workers.proofs.Roomy.{is_cell_at, lent_side, new_after, new_beside, placed_beside, vec_small}
use Rattle.schedule_workers.proofs.Views.{hand_seen, named_at_place, node_tells}

eqb_same : (x : ℕ) → eqb x x ≡ true
eqb_same x = elim (eqb_tells x x) [ inl h ↦ h.0 | inr h ↦ absurd (h.1 refl) ]

eqb_apart : (x y : ℕ) → x ≢ y → eqb x y ≡ false
eqb_apart x y off = elim (eqb_tells x y) [ inl h ↦ absurd (off h.1) | inr h ↦ h.0 ]

-- ---- the text

pub call_names : (prog : Program) (places : Places) (moves : ℕ) (f : Frame) (d : Option RegisterId) (callee : FunctionId) (arguments : List Argument) → TextFits prog places moves → FrameFits prog f → item_here prog f ≡ Some (Does (instruction.Call d callee arguments)) →
    HasResult (length f.registers.items) d × ((k : ℕ) (a : Argument) → slice_get arguments k ≡ Some a → HasArgument (sizes (length f.registers.items) (length places.globals) (length (allocas_of places f.function.0))) a)
call_names prog places moves f d callee arguments text fits item =
    let at = located prog f.function.0 f.place.block.0 f.place.index (Does (instruction.Call d callee arguments)) item in
    let words : length f.registers.items ≡ length at.function.registers = fits.registers at.function at.is in
    let names = does_fit prog places moves f.function.0 f.place.block.0 f.place.index (instruction.Call d callee arguments) text.fits at in (
      subst (λ (n : ℕ). HasResult n d) (sym words) names.0,
      subst (λ (n : ℕ). (k : ℕ) (a : Argument) → slice_get arguments k ≡ Some a → HasArgument (sizes n (length places.globals) (length (allocas_of places f.function.0))) a) (sym words) names.1,
    )

module _ (prog : Program) (places : Places) (moves : ℕ) (text : TextFits prog places moves) (k : Run) (slot : ℕ) (n : Node Activation) (a : Activation) (stands : node_at k.cactus slot ≡ Some (record n { frame = a })) (m : Machine) (shown : IsShown prog places m k)
    (d : Option RegisterId) (callee : FunctionId) (arguments : List Argument) (item : item_here prog a.frame ≡ Some (Does (instruction.Call d callee arguments)))
    (w : ℕ) (hand : hand_of k.hands.items w ≡ Some slot) (safe : RunsSafely prog (length k.hands.items) m) where
  abbrev g : frames.Frame
  g = step.g prog places k slot n a stands m shown d callee arguments item w hand safe

  abbrev p : Path
  p = place_of (record n { frame = a })

  abbrev c : Path
  c = g.made ∷ p

  abbrev next : Machine
  next = step.next prog places k slot n a stands m shown d callee arguments item w hand safe

  abbrev node : Node Activation
  node = record n { frame = a }

  abbrev values : List Value
  values = (step.act prog places k slot n a stands m shown d callee arguments item w hand safe).0

  nobody : m.core.frames c ≡ None
  nobody = step.nobody prog places k slot n a stands m shown d callee arguments item w hand safe

  abbrev l : Layout
  l = layout_of prog places k.cactus m.core

  abbrev act : (vs : List Value) × (argument_values g arguments ≡ Some vs) × (action_of prog p g m.core.memory ≡ Call d callee.0 vs)
  act = step.act prog places k slot n a stands m shown d callee arguments item w hand safe

  abbrev is_g : m.core.frames p ≡ Some g
  is_g = step.is_g prog places k slot n a stands m shown d callee arguments item w hand safe

  abbrev shows_g : ShowsFrame l places p g a.frame
  shows_g = step.shows_g prog places k slot n a stands m shown d callee arguments item w hand safe

  abbrev caller_next : next.core.frames p ≡ Some (waiting g d)
  caller_next = step.caller_next prog places k slot n a stands m shown d callee arguments item w hand safe

  abbrev begun_next : next.core.frames c ≡ Some (called p g callee.0 values)
  begun_next = step.begun_next prog places k slot n a stands m shown d callee arguments item w hand safe

  off_next : (q : Path) → p ≢ q → c ≢ q → next.core.frames q ≡ m.core.frames q
  off_next = step.off_next prog places k slot n a stands m shown d callee arguments item w hand safe

  -- the path that the callee's frame gets is free
  pub fresh : named k.cactus (node.path.numbers ++ g.made ∷ []) ≡ None
  fresh = from (named k.cactus (reverse c)) refl (subst (λ (o : Option frames.Frame). ShowsAt l places c o (named k.cactus (reverse c))) nobody (shown.shows.frames c))
    where
      from : (o : Option (Node Activation)) → named k.cactus (reverse c) ≡ o → ShowsAt l places c None o → named k.cactus (node.path.numbers ++ g.made ∷ []) ≡ None
      from None e h = ap (named k.cactus) (sym (back_down node.path.numbers g.made)) ∙ e
      from (Some x) e h = absurd h

  module _ (mid : Frames Activation) (b : Activation) (child : ℕ) (adds : AddsChild k.cactus mid slot g.made b child) (grows : GrowsMap k.cactus mid slot g.made b)
      (f : Function) (is : slice_get prog.functions callee.0 ≡ Some f) (block : Block) (room : IsRoom k child (cells_in (Some f)) block)
      (begins : IsCallee places a.frame w callee (length f.registers) arguments block.start b) (within : w < length k.hands.items)
      (went : (x : Layout) (at : Places) (q : Path) (h : frames.Frame) → ShowsFrame x at q h a.frame → ShowsFrame x at q (waiting h d) (waiting_on d child a).frame) where
    abbrev changed : Activation
    changed = waiting_on d child a

    abbrev after : Frames Activation
    after = now.after k.cactus mid slot g.made b child adds grows shown.agrees.tree node stands fresh changed

    abbrev begun : Node Activation
    begun = now.begun k.cactus mid slot g.made b child adds grows shown.agrees.tree node stands fresh changed

    abbrev caller : Node Activation
    caller = now.caller k.cactus mid slot g.made b child adds grows shown.agrees.tree node stands fresh changed

    abbrev Named : Path → Type 0
    Named q = NamedNow k.cactus mid slot g.made b child adds grows shown.agrees.tree node stands fresh changed q

    at_path : (q : Path) → Named q
    at_path q = now.named_now k.cactus mid slot g.made b child adds grows shown.agrees.tree node stands fresh changed q

    abbrev Stood : ℕ → Node Activation → Type 0
    Stood s x = StoodNow k.cactus mid slot g.made b child adds grows shown.agrees.tree node stands fresh changed s x

    in_slot : (s : ℕ) (x : Node Activation) → node_at after s ≡ Some x → Stood s x
    in_slot = now.stood_now k.cactus mid slot g.made b child adds grows shown.agrees.tree node stands fresh changed

    still : (s : ℕ) (x : Node Activation) → node_at k.cactus s ≡ Some x → (y : Node Activation) × (node_at after s ≡ Some y) × (y.path ≡ x.path)
    still = now.still_now k.cactus mid slot g.made b child adds grows shown.agrees.tree node stands fresh changed

    callee_now : node_at after child ≡ Some begun
    callee_now = now.callee_now k.cactus mid slot g.made b child adds grows shown.agrees.tree node stands fresh changed

    away : slot ≢ child
    away = now.away k.cactus mid slot g.made b child adds grows shown.agrees.tree node stands fresh changed

    not_child : (s : ℕ) (x : Node Activation) → node_at k.cactus s ≡ Some x → s ≢ child
    not_child = now.not_child k.cactus mid slot g.made b child adds grows shown.agrees.tree node stands fresh changed

    -- ---- the layout

    abbrev l2 : Layout
    l2 = layout_of prog places after next.core

    at_by : (owner : Path) (x : ℕ) → c ≢ owner → Named owner → object_at places after (Local owner x) ≡ object_at places k.cactus (Local owner x)
    at_by owner x off (the_caller e h) =
        ap (λ o. alloca_at places o x) h ∙ sym (ap (λ o. alloca_at places o x) (subst (λ q. named k.cactus (reverse q) ≡ Some node) e (named_at_place k.cactus shown.agrees.tree slot node stands)))
    at_by owner x off (the_callee e h) = absurd (off e)
    at_by owner x off (another u v h) = ap (λ o. alloca_at places o x) h

    at_same : (o : Object) → IsApart c o → l2.at o ≡ l.at o
    at_same (Shared x) off = refl
    at_same (Local owner x) off = at_by owner x off (at_path owner)

    cells_same : (o : Object) → IsApart c o → l2.cells o ≡ l.cells o
    cells_same (Shared x) off = refl
    cells_same (Local owner x) off =
        elim (same_path_tells p owner) [
          | inl h ↦ subst (λ q. alloca_cells prog (next.core.frames q) x ≡ alloca_cells prog (m.core.frames q) x) h.1 (ap (λ o. alloca_cells prog o x) caller_next ∙ sym (ap (λ o. alloca_cells prog o x) is_g))
          | inr h ↦ ap (λ o. alloca_cells prog o x) (off_next owner h.1 off)
        ]

    alike : IsAlike c l l2
    alike = record { at = at_same; cells = cells_same }

    own_by : (x : ℕ) → Named c → l2.at (Local c x) ≡ pos block.start +ℤ number_in (allocas_of places callee.0) x
    own_by x (the_caller e h) = absurd (step.off_path prog places k slot n a stands m shown d callee arguments item w hand safe e)
    own_by x (the_callee e h) = ap (λ o. alloca_at places o x) h ∙ (λ j. own_at (begins.role j) (begins.home j +ℤ number_in (allocas_of places (begins.function j).0) x))
    own_by x (another u v h) = absurd (v refl)

    own_at_block : (x : ℕ) → l2.at (Local c x) ≡ pos block.start +ℤ number_in (allocas_of places callee.0) x
    own_at_block x = own_by x (at_path c)

    abbrev cells_of_alloca : ℕ → ℕ
    cells_of_alloca x = frames.cells_of prog callee.0 (object.Alloca (record { 0 = x }))

    own_size : (x : ℕ) → l2.cells (Local c x) ≡ cells_of_alloca x
    own_size x = ap (λ o. alloca_cells prog o x) begun_next

    -- ---- frames

    points : PointsUp p g
    points = (safe []).points p g is_g

    values_alike : PointsAlike l l2 values
    values_alike x y h = address_apart c l l2 alike y (apart_above m.core (safe []).tree c p nobody g is_g y.object (step.values_up p g points arguments values act.1 x y h))

    bases_begin : ShowsBases l2 (bases places.globals (allocas_of places callee.0) (pos block.start)) c
    bases_begin = record {
      globals = λ x z h. shows_g.bases.globals x z h ∙ sym (address_apart c l l2 alike (first_cell (Shared x)) tt);
      allocas = λ x z h.
          let at : l2.at (Local c x) ≡ pos block.start +ℤ z = own_at_block x ∙ ap (λ y. pos block.start +ℤ y) (get_or_from_slice_get (allocas_of places callee.0) x z (pos 0) h) in
          let zero_more : pos block.start +ℤ z ≡ (pos block.start +ℤ z) +ℤ pos 0 = omega (arith, ints) in
          ap (wrapped Bits64) zero_more ∙ ap (λ y. wrapped Bits64 (y +ℤ pos 0)) (sym at);
    }

    callee_shown : ShowsFrame l2 places c (called p g callee.0 values) b.frame
    callee_shown =
        let can = step.can prog places k slot n a stands m shown d callee arguments item w hand safe in
        begins.shown l l2 p g values shows_g (can.whole d callee arguments (step.item_g prog places k slot n a stands m shown d callee arguments item w hand safe)) act.1 values_alike bases_begin

    caller_shown : ShowsFrame l2 places p (waiting g d) changed.frame
    caller_shown = went l2 places p g (living_shown m.core (safe []).tree (safe []).points c nobody l l2 alike places p g a.frame is_g shows_g)

    others_shown : (q : Path) (o : Option frames.Frame) (x : Option (Node Activation)) → m.core.frames q ≡ o → ShowsAt l places q o x → ShowsAt l2 places q o x
    others_shown q None None e h = tt
    others_shown q None (Some x) e h = absurd h
    others_shown q (Some h) None e s = absurd s
    others_shown q (Some h) (Some x) e s = record { shown = living_shown m.core (safe []).tree (safe []).points c nobody l l2 alike places q h x.frame.frame e s.shown; waits = s.waits }

    frames_by : (q : Path) → Named q → ShowsAt l2 places q (next.core.frames q) (named after (reverse q))
    frames_by q (the_caller e h) =
        subst (λ (o : Option frames.Frame). ShowsAt l2 places q o (named after (reverse q))) (sym (subst (λ x. next.core.frames x ≡ Some (waiting g d)) e caller_next))
        (subst (λ (o : Option (Node Activation)). ShowsAt l2 places q (Some (waiting g d)) o) (sym h)
        (record { shown = subst (λ x. ShowsFrame l2 places x (waiting g d) changed.frame) e caller_shown; waits = ap (λ x. OnCall x d) shows_g.made }))
    frames_by q (the_callee e h) =
        subst (λ (o : Option frames.Frame). ShowsAt l2 places q o (named after (reverse q))) (sym (subst (λ x. next.core.frames x ≡ Some (called p g callee.0 values)) e begun_next))
        (subst (λ (o : Option (Node Activation)). ShowsAt l2 places q (Some (called p g callee.0 values)) o) (sym h)
        (record { shown = subst (λ x. ShowsFrame l2 places x (called p g callee.0 values) b.frame) e callee_shown; waits = sym (ap wait_of begins.waits) }))
    frames_by q (another u v h) =
        subst (λ (o : Option frames.Frame). ShowsAt l2 places q o (named after (reverse q))) (sym (off_next q u v))
        (subst (λ (o : Option (Node Activation)). ShowsAt l2 places q (m.core.frames q) o) (sym h) (others_shown q (m.core.frames q) (named k.cactus (reverse q)) refl (shown.shows.frames q)))

    -- ---- cells

    abbrev items : List ℤ
    items = k.cells.cells.items

    small : k.end < 9223372036854775808
    small = let low = vec_small k.cells.cells in let end = room.end in omega (arith, low, end)

    cells_is : cells_in (slice_get prog.functions callee.0) ≡ cells_in (Some f)
    cells_is = ap cells_in is

    abbrev offset : ℕ → ℕ → ℕ
    offset x i = alloca_offset prog places moves text callee.0 block.start x i

    offset_low : (x i : ℕ) → i < cells_of_alloca x → offset x i < block.cells
    offset_low x i h =
        let low = offset_below prog places moves text callee.0 block.start x i h in
        let all = cells_is in
        let fit = room.room in
        omega (arith, low, all, fit)

    own_address : (y : Cell) (x : ℕ) → y.object ≡ Local c x → y.index < cells_of_alloca x → address l2 y ≡ pos (block.start + offset x y.index)
    own_address y x e h =
        let all = cells_is in
        let fit = room.room in
        let end = room.within in
        let vec = vec_small k.cells.cells in
        let low : block.start + cells_in (slice_get prog.functions callee.0) < 9223372036854775808 = omega (arith, all, fit, end, vec) in
        ap (λ (o : Object). wrapped Bits64 (l2.at o +ℤ pos y.index)) e ∙ ap (λ z. wrapped Bits64 (z +ℤ pos y.index)) (own_at_block x) ∙ alloca_address prog places moves text callee.0 block.start x y.index h low

    data Kind (y : Cell) : Type 0 where
      old : IsIn l y → IsApart c y.object → Kind y
      own : (x : ℕ) → y.object ≡ Local c x → y.index < cells_of_alloca x → Kind y

    sort : (y : Cell) → IsIn l2 y → Kind y
    sort y h = elim (whose c y.object) [
      | inl off ↦ old (subst (λ j. y.index < j) (cells_same y.object off) h) off
      | inr o ↦ own o.0 o.1 (subst (λ j. y.index < j) (ap (λ x. l2.cells x) o.1 ∙ own_size o.0) h)
    ]

    living_apart : (o : Object) (i : ℕ) → i < l.cells o → IsApart c o
    living_apart (Shared x) i h = tt
    living_apart (Local owner x) i h = λ e. let none : alloca_cells prog (m.core.frames owner) x ≡ 0 = ap (λ o. alloca_cells prog o x) (subst (λ q. m.core.frames q ≡ None) e nobody) in absurd (omega (arith, h, none))

    same_pos : (x y : ℕ) → pos x ≡ pos y → x ≡ y
    same_pos x y e = cc

    -- no cell of before lies in the block
    clear : (y : Cell) → IsIn l y → (x : ℕ) → x < block.cells → address l y ≡ pos (block.start + x) → ⊥
    clear y h x low e = elim (lies prog places moves text k m shown small y h) [
      | inl t ↦
          let at : t.place ≡ block.start + x = same_pos _ _ (sym t.is ∙ e) in
          let below = t.below in
          let over = new_after prog k shown.agrees.blocks child (cells_in (Some f)) block room in
          omega (arith, at, below, over)
      | inr t ↦
          let at : t.place ≡ block.start + x = same_pos _ _ (sym t.is ∙ e) in
          let from = t.from in
          let below = t.below in
          elim (placed_beside prog k shown.agrees.blocks child (cells_in (Some f)) block room t.slot t.block t.placed (not_child t.slot t.node t.stands)) [
            | inl s ↦ omega (arith, at, from, low, s)
            | inr s ↦ omega (arith, at, below, s)
          ]
    ]

    reached_by : (y : Cell) → Kind y → IsTrue (is_cell items (address l2 y))
    reached_by y (old h off) = subst (λ z. IsTrue (is_cell items z)) (sym (address_apart c l l2 alike y off)) (shown.shows.cells.reached y h)
    reached_by y (own x e h) =
        let low = offset_low x y.index h in
        let end = room.within in
        subst (λ z. IsTrue (is_cell items z)) (sym (own_address y x e h)) (is_cell_at items (block.start + offset x y.index) (omega (arith, low, end)))

    apart_by : (y z : Cell) → Kind y → Kind z → address l2 y ≡ address l2 z → y ≡ z
    apart_by y z (old h off) (old i away) e = shown.shows.cells.apart y z h i (sym (address_apart c l l2 alike y off) ∙ e ∙ address_apart c l l2 alike z away)
    apart_by y z (old h off) (own x is_own i) e = absurd (clear y h (offset x z.index) (offset_low x z.index i) (sym (address_apart c l l2 alike y off) ∙ e ∙ own_address z x is_own i))
    apart_by y z (own x is_own h) (old i off) e = absurd (clear z i (offset x y.index) (offset_low x y.index h) (sym (address_apart c l l2 alike z off) ∙ sym e ∙ own_address y x is_own h))
    apart_by y z (own x is_x h) (own u is_u i) e =
        let at : block.start + offset x y.index ≡ block.start + offset u z.index = same_pos _ _ (sym (own_address y x is_x h) ∙ e ∙ own_address z u is_u i) in
        let less : offset x y.index ≡ offset u z.index = omega (arith, at) in
        let same = same_offset prog places moves text callee.0 block.start x u y.index z.index h i less in
        (λ j. record { object = (is_x ∙ ap (λ v. Local c v) same.0 ∙ sym is_u) j; index = same.1 j })

    cells_shown : ShowsCells l2 (is_cell items) (λ x z. cell_in items x ≡ Some z) m.core.memory
    cells_shown = record {
      values = λ y z v. let h = shown.shows.cells.inside y z v in subst (λ x. cell_in items x ≡ Some z) (sym (address_apart c l l2 alike y (living_apart y.object y.index h))) (shown.shows.cells.values y z v);
      inside = λ y z v. let h = shown.shows.cells.inside y z v in subst (λ j. y.index < j) (sym (cells_same y.object (living_apart y.object y.index h))) h;
      reached = λ y h. reached_by y (sort y h);
      apart = λ y z h i e. apart_by y z (sort y h) (sort z i) e;
    }

    -- ---- hands

    abbrev hands : Vec (Option ℕ) Global
    hands = with_item k.hands w (Some child)

    data HandNow (v : ℕ) : Type 0 where
      of_worker : w ≡ v → hand_of hands.items v ≡ Some child → HandNow v
      of_other : w ≢ v → hand_of hands.items v ≡ hand_of k.hands.items v → HandNow v

    hand_now : (v : ℕ) → HandNow v
    hand_now v = elim (eqb_tells w v) [
      | inl h ↦ of_worker h.1 (subst (λ x. hand_of hands.items x ≡ Some child) h.1 (get_or-set_same k.hands.items w (Some child) None within))
      | inr h ↦ of_other h.1 (get_or-set_other k.hands.items w v (Some child) None (λ e. h.1 (sym e)))
    ]

    places_stay : (v : ℕ) (o : Option ℕ) → hand_of k.hands.items v ≡ o → option_and_then (λ s. option_map place_of (node_at k.cactus s)) o ≡ option_and_then (λ s. option_map place_of (node_at after s)) o
    places_stay v None e = refl
    places_stay v (Some s) e =
        let (x, at) = node_tells k.cactus s (shown.agrees.held v s e) in
        let (y, at_now, path) = still s x at in
        ap (option_map place_of) at ∙ ap (λ (z : Name). Some (reverse z.numbers)) (sym path) ∙ sym (ap (option_map place_of) at_now)

    seen_by : (v : ℕ) → HandNow v → next.hands v ≡ hands_of after hands.items v
    seen_by v (of_worker e h) =
        subst (λ x. running.with_hand m.hands w (Some c) x ≡ hands_of after hands.items x) e (ap (λ t. cond t (Some c) (m.hands w)) (eqb_same w) ∙ sym (hand_seen after hands.items w child begun (subst (λ x. hand_of hands.items x ≡ Some child) (sym e) h) callee_now ∙ ap Some begun_place))
      where
        begun_place : place_of begun ≡ c
        begun_place = now.begun_path k.cactus mid slot g.made b child adds grows shown.agrees.tree node stands fresh changed
    seen_by v (of_other off h) =
        ap (λ t. cond t (Some c) (m.hands v)) (eqb_apart w v off) ∙ shown.shows.hands v ∙ places_stay v (hand_of k.hands.items v) refl ∙ sym (ap (option_and_then (λ s. option_map place_of (node_at after s))) h)

    held_by : (v s : ℕ) → HandNow v → hand_of hands.items v ≡ Some s → Lives after s
    held_by v s (of_worker e h) has = let same : Some child ≡ Some s = sym h ∙ has in subst (λ x. Lives after x) (some_same child s same) (rw callee_now refl)
    held_by v s (of_other off h) has =
        let (x, at) = node_tells k.cactus s (shown.agrees.held v s (sym h ∙ has)) in
        let (y, at_now, path) = still s x at in
        rw at_now refl

    own_hand : (v : ℕ) → hand_of k.hands.items v ≡ Some slot → w ≡ v
    own_hand v has = some_same w v (sym ((shown.agrees.runners slot w node stands).1 hand) ∙ (shown.agrees.runners slot v node stands).1 has)

    runs_by : (s v : ℕ) (x : Node Activation) → Stood s x → HandNow v → (x.frame.runner ≡ Some v) ↔ (hand_of hands.items v ≡ Some s)
    runs_by s v x (as_caller e i) (of_worker f h) = (
      (λ r. absurd (let none : None ≡ Some v = ap (λ (y : Node Activation). y.frame.runner) i ∙ r in cc)),
      λ r. absurd (away (some_same slot child (ap Some e ∙ sym r ∙ h))),
    )
    runs_by s v x (as_caller e i) (of_other off h) = (
      (λ r. absurd (let none : None ≡ Some v = ap (λ (y : Node Activation). y.frame.runner) i ∙ r in cc)),
      λ r. absurd (off (own_hand v (sym h ∙ r ∙ ap Some (sym e)))),
    )
    runs_by s v x (as_callee e i) (of_worker f h) = (
      (λ r. h ∙ ap Some e),
      λ r. sym (ap (λ (y : Node Activation). y.frame.runner) i) ∙ ap (λ (y : Activation). y.runner) begins.is ∙ ap Some f,
    )
    runs_by s v x (as_callee e i) (of_other off h) = (
      (λ r. absurd (off (some_same w v (sym (ap (λ (y : Activation). y.runner) begins.is) ∙ ap (λ (y : Node Activation). y.frame.runner) i ∙ r)))),
      λ r. absurd (let (y, at) = node_tells k.cactus s (shown.agrees.held v s (sym h ∙ r)) in not_child s y at (sym e)),
    )
    runs_by s v x (as_before u t here) (of_worker f h) = (
      (λ r. absurd (u (some_same s slot (sym ((shown.agrees.runners s v x here).0 r) ∙ subst (λ y. hand_of k.hands.items y ≡ Some slot) f hand)))),
      λ r. absurd (t (some_same s child (sym r ∙ h))),
    )
    runs_by s v x (as_before u t here) (of_other off h) = (
      (λ r. h ∙ (shown.agrees.runners s v x here).0 r),
      λ r. (shown.agrees.runners s v x here).1 (sym h ∙ r),
    )

    -- ---- nodes

    callee_still : (x : Node Activation) (v : Wait) (o : Option ℕ) → CalleeStands k.cactus x v o → CalleeStands after x v o
    callee_still x wait.Nothing o h = h
    callee_still x (wait.Region region) o h = h
    callee_still x (wait.Call number register) o h =
        let (s, y, at, there, path) = h in
        let (z, at_now, same) = still s y there in
        (s, z, at, at_now, ap (λ (q : Name). q.numbers) same ∙ path)

    caller_fits : NodeFits prog after caller
    caller_fits =
        let before = shown.agrees.nodes slot node stands in
        let at = located prog a.frame.function.0 a.frame.place.block.0 a.frame.place.index (Does (instruction.Call d callee arguments)) item in
        record {
          fits = frame_stands prog changed.frame at.function at.is (before.fits.registers at.function at.is) (behind_step prog a.frame.function.0 a.frame.place.block.0 a.frame.place.index (instruction.Call d callee arguments) at);
          callee = (child, begun, refl, callee_now, ap (λ x. node.path.numbers ++ x ∷ []) shows_g.made);
          taker = λ x there. subst (λ y. HasResult y d) (before.fits.registers x there) (call_names prog places moves a.frame d callee arguments text before.fits item).0;
          counts = before.counts;
        }

    begun_fits : NodeFits prog after begun
    begun_fits =
        let there : slice_get prog.functions b.frame.function.0 ≡ Some f = ap (λ (x : FunctionId). slice_get prog.functions x.0) begins.function ∙ is in
        record {
          fits = frame_stands prog b.frame f there begins.registers
              (subst (λ (x : ℕ). PlaceFits f.blocks x b.frame.place.index) callee_shown.block (subst (λ (x : ℕ). PlaceFits f.blocks 0 x) callee_shown.index (starts_block f.blocks 0 (text.entries callee.0 f is))));
          callee = subst (λ v. CalleeStands after begun v b.callee) (sym begins.waits) (ap (λ (x : Activation). x.callee) begins.is);
          taker = λ x at. subst (HasTaker (length x.registers)) (sym begins.waits) tt;
          counts = λ x at. begins.as_many ∙ ap (λ (y : Function). length y.registers) (same_Some f x (sym there ∙ at));
        }

    fits_by : (s : ℕ) (x : Node Activation) → Stood s x → NodeFits prog after x
    fits_by s x (as_caller e i) = subst (λ y. NodeFits prog after y) i caller_fits
    fits_by s x (as_callee e i) = subst (λ y. NodeFits prog after y) i begun_fits
    fits_by s x (as_before u v here) =
        let before = shown.agrees.nodes s x here in
        record { fits = before.fits; callee = callee_still x x.frame.frame.waits x.frame.callee before.callee; taker = before.taker; counts = before.counts }

    counts_next : (q : Path) (r : ℕ) → count_of next.core q r ≡ count_of m.core q r
    counts_next = step.counts_next prog places k slot n a stands m shown d callee arguments item w hand safe

    counts_by : (s r : ℕ) (x : Node Activation) → Stood s x → counted_in x.frame r ≡ count_of next.core (place_of x) r
    counts_by s r x (as_caller e i) = subst (λ (y : Node Activation). counted_in y.frame r ≡ count_of next.core (place_of y) r) i (shown.agrees.counts slot r node stands ∙ sym (counts_next p r))
    counts_by s r x (as_callee e i) =
        subst (λ (y : Node Activation). counted_in y.frame r ≡ count_of next.core (place_of y) r) i
        (begins.none r ∙ sym (counts_next (place_of begun) r ∙ ap (λ q. count_of m.core q r) (now.begun_path k.cactus mid slot g.made b child adds grows shown.agrees.tree node stands fresh changed) ∙ ap (λ o. count_in m.core c o r) nobody))
    counts_by s r x (as_before u v here) = shown.agrees.counts s r x here ∙ sym (counts_next (place_of x) r)

    -- ---- blocks

    abbrev blocks : List Block
    blocks = (with_item k.blocks child block).items

    block_here : slice_get blocks child ≡ Some block
    block_here = get_set k.blocks.items child block room.there

    block_off : (s : ℕ) → s ≢ child → slice_get blocks s ≡ slice_get k.blocks.items s
    block_off s off = get_other k.blocks.items child s block off

    data BlockNow (s : ℕ) (x : Block) : Type 0 where
      the_new : child ≡ s → x ≡ block → BlockNow s x
      as_it_was : s ≢ child → slice_get k.blocks.items s ≡ Some x → BlockNow s x

    block_now : (s : ℕ) (x : Block) → slice_get blocks s ≡ Some x → BlockNow s x
    block_now s x at = elim (eqb_tells child s) [
      | inl h ↦ the_new h.1 (some_same x block (sym at ∙ subst (λ y. slice_get blocks y ≡ Some block) h.1 block_here))
      | inr h ↦ as_it_was (λ e. h.1 (sym e)) (sym (block_off s (λ e. h.1 (sym e))) ∙ at)
    ]

    abbrev end : ℕ
    end = max k.end (block.start + block.cells)

    below_by : (s : ℕ) (x : Block) → BlockNow s x → x.start + x.cells ≤ end
    below_by s x (the_new e i) = let at = ap (λ (y : Block). y.start) i in let long = ap (λ (y : Block). y.cells) i in omega (arith, at, long)
    below_by s x (as_it_was off at) = let low = shown.agrees.blocks.below s x at in omega (arith, low)

    over_by : (s : ℕ) (x : Block) → BlockNow s x → sum (map (λ (y : SharedCells). y.cells) prog.globals) ≤ x.start
    over_by s x (the_new e i) = subst (λ (y : Block). sum (map (λ (z : SharedCells). z.cells) prog.globals) ≤ y.start) (sym i) (new_after prog k shown.agrees.blocks child (cells_in (Some f)) block room)
    over_by s x (as_it_was off at) = shown.agrees.blocks.after s x at

    beside_by : (s t : ℕ) (x y : Block) → BlockNow s x → BlockNow t y → s ≢ t → AreBeside x y
    beside_by s t x y (the_new e i) (the_new h j) off = absurd (off (sym e ∙ h))
    beside_by s t x y (the_new e i) (as_it_was u at) off = subst (λ z. AreBeside z y) (sym i) (new_beside prog k shown.agrees.blocks child (cells_in (Some f)) block room t y at u)
    beside_by s t x y (as_it_was u at) (the_new e i) off =
        elim (new_beside prog k shown.agrees.blocks child (cells_in (Some f)) block room s x at u) [
          | inl z ↦ inr (subst (λ (v : Block). v.start + v.cells ≤ x.start) (sym i) z)
          | inr z ↦ inl (subst (λ (v : Block). x.start + x.cells ≤ v.start) (sym i) z)
        ]
    beside_by s t x y (as_it_was u at) (as_it_was v here) off = shown.agrees.blocks.beside s t x y at here off

    lent_by : (s : ℕ) (x : Block) → BlockNow s x → AreBeside x k.lent
    lent_by s x (the_new e i) = subst (λ z. AreBeside z k.lent) (sym i) (lent_side prog k shown.agrees.blocks child (cells_in (Some f)) block room)
    lent_by s x (as_it_was off at) = shown.agrees.blocks.lent_beside s x at

    abbrev Owned : ℕ → Node Activation → Type 0
    Owned s x = (y : Block) × IsPlaced blocks k.lent s y × IsBlockOf prog x.frame.frame y

    placed_off : (s : ℕ) (y : Block) → s ≢ child → IsPlaced k.blocks.items k.lent s y → IsPlaced blocks k.lent s y
    placed_off s y off (inl e) = inl (block_off s off ∙ e)
    placed_off s y off (inr w) = inr w

    owned_by : (s : ℕ) (x : Node Activation) → Stood s x → HasBlock prog blocks k.lent s x.frame.frame
    owned_by s x (as_caller e i) body some =
        let own = shown.agrees.blocks.owned slot node stands (ap (λ (y : Node Activation). y.frame.frame.role) i ∙ body)
        (subst (λ (y : Node Activation). 0 < cells_in (slice_get prog.functions y.frame.frame.function.0)) (sym i) some) in
        subst (λ y. Owned s y) i (own.0, subst (λ y. IsPlaced blocks k.lent y own.0) e (placed_off slot own.0 away own.1), record { home = own.2.home; room = own.2.room })
    owned_by s x (as_callee e i) body some =
        subst (λ y. Owned s y) i (
          block,
          inl (subst (λ y. slice_get blocks y ≡ Some block) e block_here),
          record {
            home = begins.home;
            room = subst (λ (y : ℕ). cells_in (slice_get prog.functions y) ≤ block.cells) (sym (ap (λ (y : FunctionId). y.0) begins.function)) (subst (λ y. y ≤ block.cells) (sym cells_is) room.room);
          },
        )
    owned_by s x (as_before u v here) body some = let own = shown.agrees.blocks.owned s x here body some in (own.0, placed_off s own.0 v own.1, own.2)

    -- ---- all of it

    abbrev new : ℕ → Vec ℤ Global → Run
    new depth moves = record k {
      cactus = after;
      blocks = with_item k.blocks child block;
      end = end;
      hands = hands;
      instructions = k.instructions + 1;
      peak = max k.peak (depth + 1);
      moves = moves;
    }

    module _ (depth : ℕ) (deep : depth ≡ a.frame.depth + 1) (room_for_moves : Vec ℤ Global) where
      peak_is : next.core.peak ≡ max k.peak (depth + 1)
      peak_is =
          let below : length p ≡ a.frame.depth = shows_g.depth in
          let same = shown.shows.peak in
          let up : max m.core.peak (length p + 2) ≡ max k.peak (depth + 1) = omega (arith, below, same, deep) in
          up

      blocks_stand : BlocksStand prog (new depth room_for_moves)
      blocks_stand = record {
        owned = λ s x at. owned_by s x (in_slot s x at);
        below = λ s x at. below_by s x (block_now s x at);
        globals = (let low = shown.agrees.blocks.globals in omega (arith, low));
        after = λ s x at. over_by s x (block_now s x at);
        beside = λ s t x y at here off. beside_by s t x y (block_now s x at) (block_now t y here) off;
        lent_after = shown.agrees.blocks.lent_after;
        lent_below = (let low = shown.agrees.blocks.lent_below in omega (arith, low));
        lent_beside = λ s x at. lent_by s x (block_now s x at);
      }

      agrees : Agrees prog next (new depth room_for_moves)
      agrees = record {
        tree = now.tree_now k.cactus mid slot g.made b child adds grows shown.agrees.tree node stands fresh changed;
        held = λ v s has. held_by v s (hand_now v) has;
        runners = λ s v x at. runs_by s v x (in_slot s x at) (hand_now v);
        nodes = λ s x at. fits_by s x (in_slot s x at);
        counts = λ s r x at. counts_by s r x (in_slot s x at);
        made = (let was = shown.agrees.made in let one = now.made_now k.cactus mid slot g.made b child adds grows shown.agrees.tree node stands fresh changed in omega (arith, was, one));
        blocks = blocks_stand;
      }

      shows : ShowsMachine prog places next (new depth room_for_moves)
      shows = record {
        frames = λ q. frames_by q (at_path q);
        cells = cells_shown;
        done = (let was = shown.shows.done in omega (arith, was));
        peak = peak_is;
        result = shown.shows.result;
        hands = λ v. seen_by v (hand_now v);
        trapped = refl;
      }

      pub called_shown : (x : Machine) × (event prog (length k.hands.items) (Step w) m ≡ Some x) × IsShown prog places x (new depth room_for_moves)
      called_shown = (next, step.happens prog places k slot n a stands m shown d callee arguments item w hand safe, record { shows = shows; agrees = agrees })
