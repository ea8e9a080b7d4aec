-- Where the cells of a machine that is shown lie: those of globals first, each other one in the block of its owner.
use Rattle.std.proofs.Common.{◌≡◌, ℕ, ◌+◌, ◌<◌, ◌≤◌, List, Option, Some, None, reverse, ◌⊎◌, inl, inr, refl, sym, ap, ◌∙◌, subst, arith, pos, ◌+ℤ◌}
use Rattle.std.specs.Prelude.{map, sum, slice_get}
use Rattle.semantics.specs.Arithmetic.{wrapped}
use Rattle.semantics.specs.Paths.{Path}
use Rattle.semantics.specs.Cells.{Cell, Object, Shared, Local}
use Rattle.semantics.specs.Frames as frames
use Rattle.semantics.specs.Frames.{Role, Child, Body}
use Rattle.semantics.specs.Events.{Machine}
use Rattle.syntax.specs.declared.operator.Width.TheVariants.{Bits64}
use Rattle.program.specs.declared.function.Global.{Global as SharedCells}
use Rattle.program.specs.declared.function.Program.{Program}
use Rattle.program.specs.declared.identifier.ObjectName.TheVariants as object
use Rattle.frame.specs.declared.frame.Role.{Role as Kind}
use Rattle.frame.specs.declared.frame.Role.TheVariants as role
use Rattle.frame.specs.Reading.{role_of}
use Rattle.cactus.specs.declared.node.Node.{Node}
use Rattle.cactus.specs.Frames.{node_at}
use Rattle.cactus.specs.ByPath.{named}
use Rattle.cactus.proofs.ByPathLemmas.{FoundAt, named_found}
use Rattle.frame_engine.specs.declared.activation.Places.{Places}
use Rattle.frame_engine.specs.Activation.{allocas_of}
use Rattle.frame_engine.specs.Shows.{IsIn, Layout, address}
use Rattle.schedule_workers.specs.declared.activation.Activation.{Activation}
use Rattle.schedule_workers.specs.declared.run.Block.{Block}
use Rattle.schedule_workers.specs.declared.run.Run.{Run}
use Rattle.schedule_workers.specs.Layouts.{alloca_at, alloca_cells, layout_of, number_in, own_at, own_cells}
use Rattle.schedule_workers.specs.Going.{TextFits}
use Rattle.schedule_workers.specs.RunShown.{IsBlockOf, IsPlaced, IsShown, ShowsAt, cells_in}
use Rattle.schedule_workers.proofs.Rows.{cells_are, first_row_address, global_size, row_address, same_place, size_in, size_is, sizes_of, start_below, start_in, starts_are}

-- ---- the allocas of one frame

pub is_body : (r : Kind) → Body ≡ role_of r → r ≡ role.Body
is_body role.Body e = refl
is_body (role.Child region continuation) e = absurd cc

-- a role with cells is a function's
own_body : (r : Role) (cells i : ℕ) → i < own_cells r cells → (r ≡ Body) × (i < cells)
own_body Body cells i h = (refl, h)
own_body (Child region continuation) cells i h = absurd (omega (arith, h))

module _ (prog : Program) (places : Places) (moves : ℕ) (text : TextFits prog places moves) (function start : ℕ) where
  abbrev sizes : List ℕ
  sizes = sizes_of (slice_get prog.functions function)

  -- a cell of an alloca of a frame of the function lies so far behind its home
  abbrev pub alloca_offset : ℕ → ℕ → ℕ
  alloca_offset a i = start_in sizes a + i

  pub offset_below : (a i : ℕ) → i < frames.cells_of prog function (object.Alloca (record { 0 = a })) → alloca_offset a i < cells_in (slice_get prog.functions function)
  offset_below a i h =
      let size = size_is prog (slice_get prog.functions function) a in
      let all = cells_are (slice_get prog.functions function) in
      let within : i < size_in sizes a = subst (λ (n : ℕ). i < n) size h in
      let low = start_below sizes a i within in
      subst (λ (n : ℕ). start_in sizes a + i < n) (sym all) low

  pub alloca_address : (a i : ℕ) → i < frames.cells_of prog function (object.Alloca (record { 0 = a })) → start + cells_in (slice_get prog.functions function) < 9223372036854775808 →
      wrapped Bits64 ((pos start +ℤ number_in (allocas_of places function) a) +ℤ pos i) ≡ pos (start + alloca_offset a i)
  alloca_address a i h low =
      let size = size_is prog (slice_get prog.functions function) a in
      let all = cells_are (slice_get prog.functions function) in
      let within : i < size_in sizes a = subst (λ (n : ℕ). i < n) size h in
      let less : start + sum sizes < 9223372036854775808 = subst (λ (n : ℕ). start + n < 9223372036854775808) all low in
      row_address sizes start a i (number_in (allocas_of places function) a) (ap (λ xs. number_in xs a) (starts_are prog places function text.allocas)) less within

  pub same_offset : (a b i j : ℕ) → i < frames.cells_of prog function (object.Alloca (record { 0 = a })) → j < frames.cells_of prog function (object.Alloca (record { 0 = b })) → alloca_offset a i ≡ alloca_offset b j → (a ≡ b) × (i ≡ j)
  same_offset a b i j h k e =
      same_place sizes a b i j (subst (λ (n : ℕ). i < n) (size_is prog (slice_get prog.functions function) a) h) (subst (λ (n : ℕ). j < n) (size_is prog (slice_get prog.functions function) b) k) e

-- ---- all of a machine

module _ (prog : Program) (places : Places) (moves : ℕ) (text : TextFits prog places moves) (k : Run) (m : Machine) (shown : IsShown prog places m k) (small : k.end < 9223372036854775808) where
  abbrev l : Layout
  l = layout_of prog places k.cactus m.core

  abbrev globals : ℕ
  globals = sum (map (λ (g : SharedCells). g.cells) prog.globals)

  pub record InBlock (c : Cell) : Type 0 where
    pub slot : ℕ
    pub node : Node Activation
    pub stands : node_at k.cactus slot ≡ Some node
    pub block : Block
    pub placed : IsPlaced k.blocks.items k.lent slot block
    pub place : ℕ
    pub is : address l c ≡ pos place
    pub from : block.start ≤ place
    pub below : place < block.start + block.cells
    -- in the allocas of the frame, which is a function's
    pub body : node.frame.frame.role ≡ role.Body
    pub home : node.frame.frame.home ≡ pos block.start
    pub own : place < block.start + cells_in (slice_get prog.functions node.frame.frame.function.0)

  pub record InGlobals (c : Cell) : Type 0 where
    pub place : ℕ
    pub is : address l c ≡ pos place
    pub below : place < globals

  placed_below : (slot : ℕ) (b : Block) → IsPlaced k.blocks.items k.lent slot b → b.start + b.cells ≤ k.end
  placed_below slot b (inl e) = shown.agrees.blocks.below slot b e
  placed_below slot b (inr w) = let low = shown.agrees.blocks.lent_below in let within = w.1 in omega (arith, low, within)

  global_lies : (g i : ℕ) → i < l.cells (Shared g) → InGlobals (record { object = Shared g; index = i })
  global_lies g i h =
      let sizes = map (λ (x : SharedCells). x.cells) prog.globals in
      let within : i < size_in sizes g = subst (λ (n : ℕ). i < n) (global_size prog.globals g) h in
      let low = shown.agrees.blocks.globals in
      let less : globals < 9223372036854775808 = omega (arith, low, small) in
      record {
        place = start_in sizes g + i;
        is = first_row_address sizes g i (number_in places.globals g) (ap (λ xs. number_in xs g) text.globals) less within;
        below = start_below sizes g i within;
      }

  module _ (owner : Path) (a i : ℕ) where
    body_lies : (g : frames.Frame) (node : Node Activation) → ShowsAt l places owner (Some g) (Some node) → named k.cactus (reverse owner) ≡ Some node → i < own_cells g.role (frames.cells_of prog g.function (object.Alloca (record { 0 = a }))) → InBlock (record { object = Local owner a; index = i })
    body_lies g node s name h =
        let (body, within) = own_body g.role (frames.cells_of prog g.function (object.Alloca (record { 0 = a }))) i h in
        let kind : node.frame.frame.role ≡ role.Body = is_body node.frame.frame.role (sym body ∙ s.shown.role) in
        let at : FoundAt k.cactus (reverse owner) node = named_found k.cactus (reverse owner) node name in
        let inside : i < frames.cells_of prog node.frame.frame.function.0 (object.Alloca (record { 0 = a })) = subst (λ (n : ℕ). i < frames.cells_of prog n (object.Alloca (record { 0 = a }))) s.shown.function within in
        let some = offset_below prog places moves text node.frame.frame.function.0 0 a i inside in
        let own = shown.agrees.blocks.owned at.slot node at.stands kind (omega (arith, some)) in
        let fits : IsBlockOf prog node.frame.frame own.0 = own.2 in
        let end = placed_below at.slot own.0 own.1 in
        let room = fits.room in
        let low : own.0.start + cells_in (slice_get prog.functions node.frame.frame.function.0) < 9223372036854775808 = omega (arith, room, end, small) in
        let off = offset_below prog places moves text node.frame.frame.function.0 own.0.start a i inside in
        let x = alloca_offset prog places moves text node.frame.frame.function.0 own.0.start a i in
        record {
          slot = at.slot;
          node = node;
          stands = at.stands;
          block = own.0;
          placed = own.1;
          place = own.0.start + x;
          is =
              ap (λ o. wrapped Bits64 (alloca_at places o a +ℤ pos i)) name
              ∙ (λ j. wrapped Bits64 (own_at (kind j) (fits.home j +ℤ number_in (allocas_of places node.frame.frame.function.0) a) +ℤ pos i))
              ∙ alloca_address prog places moves text node.frame.frame.function.0 own.0.start a i inside low;
          from = omega arith;
          below = omega (arith, off, room);
          body = kind;
          home = fits.home;
          own = omega (arith, off);
        }

    local_lies : (o : Option frames.Frame) (x : Option (Node Activation)) → ShowsAt l places owner o x → named k.cactus (reverse owner) ≡ x → i < alloca_cells prog o a → InBlock (record { object = Local owner a; index = i })
    local_lies None x s name h = absurd (omega (arith, h))
    local_lies (Some g) None s name h = absurd s
    local_lies (Some g) (Some x) s name h = body_lies g x s name h

  lies_by : (o : Object) (i : ℕ) → i < l.cells o → InGlobals (record { object = o; index = i }) ⊎ InBlock (record { object = o; index = i })
  lies_by (Shared g) i h = inl (global_lies g i h)
  lies_by (Local owner a) i h = inr (local_lies owner a i (m.core.frames owner) (named k.cactus (reverse owner)) (shown.shows.frames owner) refl h)

  pub lies : (c : Cell) → IsIn l c → InGlobals c ⊎ InBlock c
  lies c h = lies_by c.object c.index h
