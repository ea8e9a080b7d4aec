-- The state before the first event: the root alone, with its allocas behind the cells of the globals.
use Rattle.std.proofs.Common.{◌≡◌, ◌≢◌, ℕ, zero, suc, ◌+◌, ◌<◌, ◌≤◌, List, [], ◌∷◌, ◌++◌, get_or, length, replicate, reverse, take, Option, Some, None, cond, eqb, ◌⊎◌, inl, inr, refl, sym, ap, ◌∙◌, subst, arith, ℤ, pos, ◌+ℤ◌}
use Rattle.std.specs.Prelude.{◌↔◌, IsSomeAnd, IsTrue, map, slice_get, slice_set, sum}
use Rattle.std.specs.Option.{option_map}
use Rattle.std.proofs.lemmas.Bool.Decides.{eqb_tells}
use Rattle.std.proofs.lemmas.Int.{ints}
use Rattle.std.proofs.lemmas.List.{get_or-set_same, get_or-set_other, get_or_past, length-append, length-replicate, reverse-reverse}
use Rattle.std.proofs.lemmas.Option.{same_Some, get_or_from_slice_get, slice_get-map}
use Rattle.std.proofs.Math.Nat.{mod-eq_of_lt}
use Rattle.semantics.specs.Arithmetic.{signed, wrapped}
use Rattle.semantics.specs.Cells.{Cell, Memory, Object, Shared, Local, if_shared}
use Rattle.semantics.specs.Frames.{Value, Word, first_cell, global_cells}
use Rattle.semantics.specs.Paths.{Path}
use Rattle.semantics.specs.State.{root_frame}
use Rattle.semantics.specs.Counts.{count_of}
use Rattle.semantics.specs.Events as running
use Rattle.semantics.specs.Events.{Machine}
use Rattle.semantics.proofs.Steps.{some_same}
use Rattle.syntax.specs.declared.operator.Width.TheVariants.{Bits64}
use Rattle.program.specs.declared.function.Alloca.{Alloca}
use Rattle.program.specs.declared.function.Function.{Function}
use Rattle.program.specs.declared.function.Global.{Global as SharedCells}
use Rattle.program.specs.declared.function.Program.{Program}
use Rattle.cactus.specs.declared.node.Node.{Node}
use Rattle.cactus.specs.Frames.{Frames, node_at, IsAdded, Lives}
use Rattle.cactus.specs.ByPath.{named, IsTree, Binds}
use Rattle.cactus.proofs.ByPathLemmas.{not_named}
use Rattle.frame_engine.specs.declared.activation.Frame.{Frame}
use Rattle.frame_engine.specs.declared.activation.Places.{Places}
use Rattle.frame_engine.specs.Activation.{FrameFits, ShowsFrame, allocas_of}
use Rattle.frame_engine.specs.Flat.{cell_in, is_cell}
use Rattle.frame_engine.specs.Shows.{IsIn, Layout, ShowsCells, ShowsRegisters, Stands, address}
use Rattle.frame_engine.specs.Starts.{starts_from}
use Rattle.frame_engine.proofs.Texts.{frame_stands, starts_block}
use Rattle.schedule_workers.specs.declared.activation.Activation.{Activation}
use Rattle.schedule_workers.specs.declared.run.Block.{Block}
use Rattle.schedule_workers.specs.declared.run.Run.{Run}
use Rattle.schedule_workers.specs.Layouts.{alloca_at, layout_of, number_in}
use Rattle.schedule_workers.specs.Rooms.{empty_at}
use Rattle.schedule_workers.specs.Roots.{HasBlock, IsRoot, first_frame}
use Rattle.schedule_workers.specs.Scheduling.{counted_in, hand_of}
use Rattle.schedule_workers.specs.RunShown.{AreBeside, BlocksStand, IsBlockOf, IsPlaced, IsShown, NodeFits, ShowsAt, hands_of, place_of}
use Rattle.schedule_workers.specs.Starts.{ArePlaces, IsRowOf, sizes_in}
use Rattle.schedule_workers.proofs.Roomy.{get_more, is_cell_at, vec_small}
use Rattle.schedule_workers.proofs.Rows.{cells_are, first_row_address, global_size, row_address, same_place, size_in, size_is, sizes_of, small_number, start_below, start_in, starts_are, sum_more, wrapped_small}

-- ---- rows

starts_sum : (cells : List ℕ) (n : ℕ) → sum (take n cells) ≡ start_in cells n
starts_sum [] zero = refl
starts_sum [] (suc n) = refl
starts_sum (c ∷ cs) zero = refl
starts_sum (c ∷ cs) (suc n) = sum_more c (take n cs) ∙ ap (λ (s : ℕ). c + s) (starts_sum cs n)

start_at_most : (cells : List ℕ) (n : ℕ) → start_in cells n ≤ sum cells
start_at_most [] n = omega arith
start_at_most (c ∷ cs) zero = omega arith
start_at_most (c ∷ cs) (suc n) = let r = start_at_most cs n in let s = sum_more c cs in omega (arith, r, s)

-- where an object in a row begins, whether it has cells or not
start_is : (sizes : List ℕ) (at n : ℕ) (w : ℤ) → at + sum sizes < 9223372036854775808 → slice_get (starts_from at sizes) n ≡ Some w → w ≡ pos (at + start_in sizes n)
start_is [] at n w low e = absurd cc
start_is (c ∷ cs) at zero w low e =
    let small : at < 9223372036854775808 = omega (arith, low) in
    let same : at ≡ at + 0 = omega arith in
    sym (same_Some (signed Bits64 at) w e) ∙ small_number at small ∙ ap (λ (x : ℕ). pos x) same
start_is (c ∷ cs) at (suc n) w low e =
    let s = sum_more c cs in
    let less : at + c + sum cs < 9223372036854775808 = omega (arith, low, s) in
    let small : at + c < 18446744073709551616 = omega (arith, less) in
    let same : at + c + start_in cs n ≡ at + (c + start_in cs n) = omega arith in
    start_is cs (at + c) n w less (ap (λ (x : ℕ). slice_get (starts_from x cs) n) (sym (mod-eq_of_lt small)) ∙ e) ∙ ap (λ (x : ℕ). pos x) same

-- ---- words of the arguments

word_stands : (l : Layout) (o : Option ℤ) (v : Value) (w : ℤ) → option_map (λ z. Word z) o ≡ Some v → ((z : ℤ) → o ≡ Some z → w ≡ z) → Stands l v w
word_stands l None v w e held = absurd cc
word_stands l (Some z) v w e held = let same : Word z ≡ v = cc in subst (λ (x : Value). Stands l x w) same (held z refl)

arguments_shown : (l : Layout) (arguments regs : List ℤ) → ((x : ℕ) (z : ℤ) → slice_get arguments x ≡ Some z → slice_get regs x ≡ Some z) → ShowsRegisters l (slice_get (map (λ z. Word z) arguments)) regs
arguments_shown l arguments regs held x v w hv hw =
    word_stands l (slice_get arguments x) v w (sym (slice_get-map (λ z. Word z) arguments x) ∙ hv) (λ z e. same_Some w z (sym hw ∙ held x z e))

-- ---- nobody else

none_in : (workers v : ℕ) → get_or {A = Option ℕ} (replicate workers None) v None ≡ None
none_in zero zero = refl
none_in zero (suc v) = refl
none_in (suc n) zero = refl
none_in (suc n) (suc v) = none_in n v

abbrev pub main_cells : Function → ℕ
main_cells f = sum (map (λ (x : Alloca). x.cells) f.allocas)

-- what the code makes
pub record IsFirst (prog : Program) (arguments row : List ℤ) (f : Function) (workers slot : ℕ) (a : Activation) (k : Run) : Type 0 where
  pub before : Frames Activation
  pub bare : before.nodes ≡ []
  pub unmade : before.made ≡ 0
  pub tree : IsTree before
  pub added : IsAdded before k.cactus (record { numbers = [] }) None a slot
  pub grows : IsTree before → named before [] ≡ None → IsSomeAnd (node_at k.cactus slot) (λ node. Binds before k.cactus [] (Some node))
  pub root : IsRoot prog.main arguments (length f.registers) (length row) a
  pub cells : k.cells.cells.items ≡ row ++ replicate (main_cells f) (pos 0)
  pub blocks : HasBlock k.blocks.items slot (record { start = length row; cells = main_cells f })
  pub lent : k.lent ≡ empty_at k.end
  pub end : k.end ≡ length row + main_cells f
  pub hands : k.hands.items ≡ slice_set (replicate workers None) 0 (Some slot)
  pub instructions : k.instructions ≡ 0
  pub peak : k.peak ≡ 1
  pub result : k.result ≡ None

module _ (prog : Program) (arguments row : List ℤ) (f : Function) (workers slot : ℕ) (a : Activation) (k : Run) (first : IsFirst prog arguments row f workers slot a k) where
  abbrev root : Node Activation
  root = record { generation = first.before.made; path = record { numbers = [] }; parent = None; frame = a }

  none_at : (s : ℕ) → node_at first.before s ≡ None
  none_at s = ap (λ (l : List (Option (Node Activation))). get_or l s None) first.bare ∙ get_or_past [] s None (omega arith)

  none_named : (numbers : List ℕ) → named first.before numbers ≡ None
  none_named numbers = not_named first.before numbers (λ s n here. absurd (let e : None ≡ Some n = sym (none_at s) ∙ here in cc))

  there : node_at k.cactus slot ≡ Some root
  there = first.added.change.changed

  binds : Binds first.before k.cactus [] (Some root)
  binds = subst (λ (o : Option (Node Activation)). IsSomeAnd o (λ node. Binds first.before k.cactus [] (Some node))) there (first.grows first.tree (none_named []))

  named_below : (j : ℕ) (p : Path) → named k.cactus (reverse (j ∷ p)) ≡ None
  named_below j p = binds.elsewhere (reverse (j ∷ p)) (λ e. off (sym (reverse-reverse (j ∷ p)) ∙ ap reverse e)) ∙ none_named (reverse (j ∷ p))
    where
      off : j ∷ p ≢ []
      off e = cc

  -- only the root stands
  stood : (s : ℕ) (n : Node Activation) → node_at k.cactus s ≡ Some n → (slot ≡ s) × (root ≡ n)
  stood s n here =
      elim (eqb_tells slot s) [
        | inl h ↦ (h.1, some_same root n (sym there ∙ subst (λ x. node_at k.cactus x ≡ Some n) (sym h.1) here))
        | inr h ↦ absurd (let e : None ≡ Some n = sym (none_at s) ∙ (sym (first.added.change.others s (λ e. h.1 (sym e))) ∙ here) in cc)
      ]

  runs : a.runner ≡ Some 0
  runs = ap (λ (x : Activation). x.runner) first.root.is

  -- ---- hands

  module _ (some : 0 < workers) where
    first_hand : hand_of k.hands.items 0 ≡ Some slot
    first_hand = ap (λ (l : List (Option ℕ)). hand_of l 0) first.hands ∙ get_or-set_same (replicate workers None) 0 (Some slot) None (subst (λ n. 0 < n) (sym (length-replicate workers None)) some)

    other_hands : (v : ℕ) → 0 ≢ v → hand_of k.hands.items v ≡ None
    other_hands v away = ap (λ (l : List (Option ℕ)). hand_of l v) first.hands ∙ (get_or-set_other (replicate workers None) 0 v (Some slot) None (λ e. away (sym e)) ∙ none_in workers v)

    hands_begin : (v : ℕ) → cond (eqb 0 v) (Some []) None ≡ hands_of k.cactus k.hands.items v
    hands_begin v =
        elim (eqb_tells 0 v) [
          | inl h ↦ subst (λ x. cond (eqb 0 x) (Some []) None ≡ hands_of k.cactus k.hands.items x) h.1 (rw (first_hand, there) refl)
          | inr h ↦ rw (h.0, other_hands v h.1) refl
        ]

    at_hand : (v s : ℕ) → hand_of k.hands.items v ≡ Some s → (0 ≡ v) × (slot ≡ s)
    at_hand v s is =
        elim (eqb_tells 0 v) [
          | inl h ↦ (h.1, some_same slot s (sym first_hand ∙ subst (λ x. hand_of k.hands.items x ≡ Some s) (sym h.1) is))
          | inr h ↦ absurd (let e : None ≡ Some s = sym (other_hands v h.1) ∙ is in cc)
        ]

    runs_at : (s v : ℕ) (n : Node Activation) → node_at k.cactus s ≡ Some n → (n.frame.runner ≡ Some v) ↔ (hand_of k.hands.items v ≡ Some s)
    runs_at s v n here = (
      (λ e.
          let zero_is : 0 ≡ v = some_same 0 v (sym runs ∙ (ap (λ (x : Node Activation). x.frame.runner) (stood s n here).1 ∙ e)) in
          subst (λ x. hand_of k.hands.items x ≡ Some s) zero_is (first_hand ∙ ap Some (stood s n here).0)),
      (λ is. sym (ap (λ (x : Node Activation). x.frame.runner) (stood s n here).1) ∙ (runs ∙ ap Some (at_hand v s is).0)),
    )

    module _ (is : slice_get prog.functions prog.main.0 ≡ Some f) (entry : 0 < length f.blocks) (places : Places) (memory : Memory) (at : ArePlaces prog places) (stands : IsRowOf prog memory row) where
      abbrev m : Machine
      m = running.start prog arguments memory

      abbrev l : Layout
      l = layout_of prog places k.cactus m.core

      abbrev items : List ℤ
      items = k.cells.cells.items

      abbrev sizes : List ℕ
      sizes = sizes_in prog

      abbrev own : List ℕ
      own = sizes_of (slice_get prog.functions prog.main.0)

      abbrev home : ℕ
      home = length row

      own_sum : sum own ≡ main_cells f
      own_sum = ap (λ (o : Option Function). sum (sizes_of o)) is

      items_long : length items ≡ home + main_cells f
      items_long = ap (λ (xs : List ℤ). length xs) first.cells ∙ length-append row (replicate (main_cells f) (pos 0)) ∙ ap (λ (n : ℕ). home + n) (length-replicate (main_cells f) (pos 0))

      small : home + sum own < 9223372036854775808
      small = let low = vec_small k.cells.cells in let long = items_long in let same = own_sum in omega (arith, low, long, same)

      globals_small : sum sizes < 9223372036854775808
      globals_small = let low = small in let long = stands.long in omega (arith, low, long)

      -- ---- where cells lie

      data Lies : Cell → Type 0 where
        of_global : (g i : ℕ) → i < size_in sizes g → Lies (record { object = Shared g; index = i })
        of_root : (x i : ℕ) → i < size_in own x → Lies (record { object = Local [] x; index = i })

      lies_by : (o : Object) (i : ℕ) → i < l.cells o → Lies (record { object = o; index = i })
      lies_by (Shared g) i h = of_global g i (subst (λ (n : ℕ). i < n) (global_size prog.globals g) h)
      lies_by (Local [] x) i h = of_root x i (subst (λ (n : ℕ). i < n) (size_is prog (slice_get prog.functions prog.main.0) x) h)
      lies_by (Local (j ∷ p) x) i h = absurd (omega (arith, h))

      lies : (c : Cell) → IsIn l c → Lies c
      lies c h = lies_by c.object c.index h

      abbrev place : (c : Cell) → Lies c → ℕ
      place c (of_global g i h) = start_in sizes g + i
      place c (of_root x i h) = home + (start_in own x + i)

      below : (c : Cell) (t : Lies c) → place c t < length items
      below c (of_global g i h) = let low = start_below sizes g i h in let long = items_long in let row_long = stands.long in omega (arith, low, long, row_long)
      below c (of_root x i h) = let low = start_below own x i h in let long = items_long in let same = own_sum in omega (arith, low, long, same)

      own_at : (x : ℕ) → l.at (Local [] x) ≡ pos home +ℤ number_in (allocas_of places prog.main.0) x
      own_at x = ap (λ o. alloca_at places o x) binds.here ∙ ap (λ (y : Activation). alloca_at places (Some (record root { frame = y })) x) first.root.is

      place_is : (c : Cell) (t : Lies c) → address l c ≡ pos (place c t)
      place_is c (of_global g i h) = first_row_address sizes g i (number_in places.globals g) (ap (λ xs. number_in xs g) at.globals) globals_small h
      place_is c (of_root x i h) =
          ap (λ z. wrapped Bits64 (z +ℤ pos i)) (own_at x)
          ∙ row_address own home x i (number_in (allocas_of places prog.main.0) x) (ap (λ xs. number_in xs x) (starts_are prog places prog.main.0 at.allocas)) small h

      same_cells : (c d : Cell) (s : Lies c) (t : Lies d) → place c s ≡ place d t → c ≡ d
      same_cells c d (of_global g i h) (of_global x j u) e =
          let same = same_place sizes g x i j h u e in
          (λ z. record { object = Shared (same.0 z); index = same.1 z })
      same_cells c d (of_global g i h) (of_root x j u) e = let low = start_below sizes g i h in let long = stands.long in absurd (omega (arith, low, long, e))
      same_cells c d (of_root x i h) (of_global g j u) e = let low = start_below sizes g j u in let long = stands.long in absurd (omega (arith, low, long, e))
      same_cells c d (of_root x i h) (of_root y j u) e =
          let less : start_in own x + i ≡ start_in own y + j = omega (arith, e) in
          let same = same_place own x y i j h u less in
          (λ z. record { object = Local [] (same.0 z); index = same.1 z })

      same_pos : (x y : ℕ) → pos x ≡ pos y → x ≡ y
      same_pos x y e = cc

      -- ---- what they hold

      within_global : (g i : ℕ) (z : ℤ) → memory (record { object = Shared g; index = i }) ≡ Some z → i < global_cells (slice_get prog.globals g)
      within_global g i z e = let (global, here, low) = stands.within g i z e in subst (λ (o : Option SharedCells). i < global_cells o) (sym here) low

      held_global : (g i : ℕ) (z : ℤ) → memory (record { object = Shared g; index = i }) ≡ Some z → cell_in items (address l (record { object = Shared g; index = i })) ≡ Some z
      held_global g i z e =
          let lies_at : address l (record { object = Shared g; index = i }) ≡ pos (start_in sizes g + i) = first_row_address sizes g i (number_in places.globals g) (ap (λ xs. number_in xs g) at.globals) globals_small (subst (λ (n : ℕ). i < n) (global_size prog.globals g) (within_global g i z e)) in
          let read : slice_get row (start_in sizes g + i) ≡ Some z = ap (λ (n : ℕ). slice_get row (n + i)) (sym (starts_sum sizes g)) ∙ stands.held g i z e in
          ap (cell_in items) lies_at ∙ ap (λ (xs : List ℤ). slice_get xs (start_in sizes g + i)) first.cells ∙ get_more row (replicate (main_cells f) (pos 0)) (start_in sizes g + i) z read

      values : (o : Object) (i : ℕ) (z : ℤ) → if_shared o (memory (record { object = o; index = i })) ≡ Some z → cell_in items (address l (record { object = o; index = i })) ≡ Some z
      values (Shared g) i z e = held_global g i z e
      values (Local owner x) i z e = absurd cc

      inside : (o : Object) (i : ℕ) (z : ℤ) → if_shared o (memory (record { object = o; index = i })) ≡ Some z → i < l.cells o
      inside (Shared g) i z e = within_global g i z e
      inside (Local owner x) i z e = absurd cc

      cells_begin : ShowsCells l (is_cell items) (λ x z. cell_in items x ≡ Some z) m.core.memory
      cells_begin = record {
        values = λ c z e. values c.object c.index z e;
        inside = λ c z e. inside c.object c.index z e;
        reached = λ c h. let t = lies c h in subst (λ x. IsTrue (is_cell items x)) (sym (place_is c t)) (is_cell_at items (place c t) (below c t));
        apart = λ c d h u e. let s = lies c h in let t = lies d u in same_cells c d s t (same_pos (place c s) (place d t) (sym (place_is c s) ∙ e ∙ place_is d t));
      }

      -- ---- the root's frame

      zero_more : (z : ℤ) → z ≡ z +ℤ pos 0
      zero_more z = omega (arith, ints)

      shared_base : (g : ℕ) (w : ℤ) → slice_get places.globals g ≡ Some w → w ≡ address l (first_cell (Shared g))
      shared_base g w e =
          let less : 0 + sum sizes < 9223372036854775808 = (let low = globals_small in omega (arith, low)) in
          let start : w ≡ pos (0 + start_in sizes g) = start_is sizes 0 g w less (ap (λ (xs : List ℤ). slice_get xs g) (sym at.globals) ∙ e) in
          let low : 0 + start_in sizes g < 9223372036854775808 = (let most = start_at_most sizes g in omega (arith, most, less)) in
          start ∙ sym (wrapped_small (0 + start_in sizes g) low) ∙ ap (wrapped Bits64) (sym start ∙ zero_more w) ∙ ap (λ z. wrapped Bits64 (z +ℤ pos 0)) (sym (get_or_from_slice_get places.globals g w (pos 0) e))

      own_base : (x : ℕ) (z : ℤ) → slice_get (allocas_of places prog.main.0) x ≡ Some z → wrapped Bits64 (pos home +ℤ z) ≡ address l (first_cell (Local [] x))
      own_base x z e =
          let begins : l.at (Local [] x) ≡ pos home +ℤ z = own_at x ∙ ap (λ y. pos home +ℤ y) (get_or_from_slice_get (allocas_of places prog.main.0) x z (pos 0) e) in
          ap (wrapped Bits64) (zero_more (pos home +ℤ z)) ∙ ap (λ y. wrapped Bits64 (y +ℤ pos 0)) (sym begins)

      abbrev main_frame : Frame
      main_frame = first_frame prog.main home a.frame

      frame_is : a.frame ≡ main_frame
      frame_is = ap (λ (x : Activation). x.frame) first.root.is

      main_shown : ShowsFrame l places [] (root_frame prog arguments) main_frame
      main_shown = record {
        function = refl;
        block = refl;
        index = refl;
        made = refl;
        role = refl;
        depth = refl;
        bases = record { globals = shared_base; allocas = own_base };
        registers = arguments_shown l arguments a.frame.registers.items first.root.held;
      }

      frames_begin : (p : Path) → ShowsAt l places p (m.core.frames p) (named k.cactus (reverse p))
      frames_begin [] =
          subst (λ (o : Option (Node Activation)). ShowsAt l places [] (Some (root_frame prog arguments)) o) (sym binds.here)
          (subst (λ (x : Frame). ShowsAt l places [] (Some (root_frame prog arguments)) (Some (record root { frame = record a { frame = x } }))) (sym frame_is) (record { shown = main_shown; waits = refl }))
      frames_begin (j ∷ p) = subst (λ (o : Option (Node Activation)). ShowsAt l places (j ∷ p) None o) (sym (named_below j p)) tt

      -- ---- what agrees

      main_fits : FrameFits prog main_frame
      main_fits = frame_stands prog main_frame f is first.root.registers (starts_block f.blocks 0 entry)

      root_fits : NodeFits prog k.cactus root
      root_fits =
          subst (λ (y : Activation). NodeFits prog k.cactus (record root { frame = y })) (sym first.root.is) (record {
            fits = main_fits;
            callee = refl;
            taker = λ g here. tt;
            counts = λ g here. first.root.as_many ∙ ap (λ (y : Function). length y.registers) (same_Some f g (sym is ∙ here));
          })

      block_now : (s : ℕ) (b : Block) → slice_get k.blocks.items s ≡ Some b → (slot ≡ s × (b ≡ record { start = home; cells = main_cells f })) ⊎ (s ≢ slot × (b ≡ empty_at home))
      block_now s b here =
          elim (eqb_tells slot s) [
            | inl h ↦ inl (h.1, some_same b _ (sym here ∙ subst (λ x. slice_get k.blocks.items x ≡ Some (record { start = home; cells = main_cells f })) h.1 first.blocks.own))
            | inr h ↦ inr ((λ e. h.1 (sym e)), first.blocks.others s b here (λ e. h.1 (sym e)))
          ]

      start_of : (s : ℕ) (b : Block) → slice_get k.blocks.items s ≡ Some b → b.start ≡ home
      start_of s b here = elim (block_now s b here) [ inl h ↦ ap (λ (x : Block). x.start) h.1 | inr h ↦ ap (λ (x : Block). x.start) h.1 ]

      below_end : (s : ℕ) (b : Block) → slice_get k.blocks.items s ≡ Some b → b.start + b.cells ≤ k.end
      below_end s b here =
          let end = first.end in
          elim (block_now s b here) [
            | inl h ↦ let at = ap (λ (x : Block). x.start) h.1 in let many = ap (λ (x : Block). x.cells) h.1 in omega (arith, at, many, end)
            | inr h ↦ let at = ap (λ (x : Block). x.start) h.1 in let many = ap (λ (x : Block). x.cells) h.1 in omega (arith, at, many, end)
          ]

      beside_all : (s t : ℕ) (b c : Block) → slice_get k.blocks.items s ≡ Some b → slice_get k.blocks.items t ≡ Some c → s ≢ t → AreBeside b c
      beside_all s t b c is_b is_c away =
          let at_b = start_of s b is_b in
          let at_c = start_of t c is_c in
          elim (block_now s b is_b) [
            | inl h ↦ elim (block_now t c is_c) [ inl u ↦ absurd (away (sym h.0 ∙ u.0)) | inr u ↦ let none = ap (λ (x : Block). x.cells) u.1 in inr (omega (arith, at_b, at_c, none)) ]
            | inr h ↦ let none = ap (λ (x : Block). x.cells) h.1 in inl (omega (arith, at_b, at_c, none))
          ]

      blocks_begin : BlocksStand prog k
      blocks_begin = record {
        owned = λ s n here body some.
            subst (λ x. (b : Block) × IsPlaced k.blocks.items k.lent x b × IsBlockOf prog n.frame.frame b) (stood s n here).0 (
              record { start = home; cells = main_cells f },
              inl first.blocks.own,
              subst (λ (x : Node Activation). IsBlockOf prog x.frame.frame (record { start = home; cells = main_cells f })) (stood s n here).1 root_block,
            );
        below = below_end;
        globals = (let end = first.end in let long = stands.long in omega (arith, end, long));
        after = λ s b here. let begins = start_of s b here in let long = stands.long in omega (arith, begins, long);
        beside = beside_all;
        lent_after = (let end = first.end in let long = stands.long in let at = lent_at in omega (arith, end, long, at));
        lent_below = (let at = lent_at in let none = ap (λ (x : Block). x.cells) first.lent in omega (arith, at, none));
        lent_beside = λ s b here. (let low = below_end s b here in let at = lent_at in inl (omega (arith, low, at)));
      }
        where
          lent_at : k.lent.start ≡ k.end
          lent_at = ap (λ (x : Block). x.start) first.lent

          root_block : IsBlockOf prog a.frame (record { start = home; cells = main_cells f })
          root_block = subst (λ (x : Frame). IsBlockOf prog x (record { start = home; cells = main_cells f })) (sym frame_is) (record {
            home = refl;
            room = (let all = cells_are (slice_get prog.functions prog.main.0) in let same = own_sum in omega (arith, all, same));
          })

      pub begin_shown : IsShown prog places m k
      begin_shown = record {
        shows = record {
          frames = frames_begin;
          cells = cells_begin;
          done = sym first.instructions;
          peak = sym first.peak;
          result = sym first.result;
          hands = hands_begin;
          trapped = refl;
        };
        agrees = record {
          tree = binds.tree;
          held = λ v s has. subst (λ x. Lives k.cactus x) (at_hand v s has).1 (rw there refl);
          runners = λ s v n here. runs_at s v n here;
          nodes = λ s n here. subst (λ (x : Node Activation). NodeFits prog k.cactus x) (stood s n here).1 root_fits;
          counts = λ s region n here. subst (λ (x : Node Activation). counted_in x.frame region ≡ count_of m.core (place_of x) region) (stood s n here).1 (first.root.none region);
          made = (let one = first.added.made in let none = first.unmade in let zero_done = first.instructions in omega (arith, one, none, zero_done));
          blocks = blocks_begin;
        };
      }
