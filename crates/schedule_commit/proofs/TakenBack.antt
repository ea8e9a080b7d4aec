-- A run into which a strand was put is what it was, once the strand is taken back.
use mathlib.Core.HLevel.{is_prop→PathP}
use Rattle.std.proofs.Common.{Vec, Global, ◌≡◌, ℕ, ◌+◌, ◌-◌, ◌<◌, ◌≤◌, List, ◌++◌, length, replicate, Some, None, refl, sym, ap, ◌∙◌, subst, arith, ℤ, pos}
use Rattle.std.specs.Prelude.{slice_set}
use Rattle.std.specs.Option.{option_map}
use Rattle.std.specs.Vec.{with_items}
use Rattle.std.proofs.Props.{props}
use Rattle.std.proofs.lemmas.List.{length-append, set-set, set-get_or, with_items_is}
use Rattle.std.proofs.lemmas.Option.{same_Some}
use Rattle.cactus.specs.declared.node.Node.{Node}
use Rattle.cactus.specs.Frames.{Frames, frame_at, node_at}
use Rattle.cactus.specs.Lending.{with_frame, written}
use Rattle.cactus.proofs.FramesLemmas.{node_at-with_frame}
use Rattle.frame_engine.specs.declared.activation.Frame.{Frame}
use Rattle.frame_engine.specs.declared.flat.Flat.{Flat}
use Rattle.frame_strand.specs.Standing.{IsCopy}
use Rattle.frame_strand.specs.declared.outside.FrameStrand.{FrameStrand}
use Rattle.schedule_workers.specs.declared.activation.Activation.{Activation}
use Rattle.schedule_workers.specs.declared.run.Run.{Run}
use Rattle.schedule_workers.specs.Rooms.{IsRoomier, empty_at}
use Rattle.schedule_commit.specs.Fitting.{FitsRun}
use Rattle.schedule_commit.specs.Putting.{IsPut}
use Rattle.schedule_commit.specs.TakingBack.{AreNumbersOf, IsRestored, WasPut}
use Rattle.schedule_commit.proofs.Restored.{row_back}

-- ---- registers that hold again what they held

same_vec : (u v : Vec ℤ Global) → u.ptr ≡ v.ptr → u.len ≡ v.len → u.cap ≡ v.cap → u.alloc ≡ v.alloc → u.items ≡ v.items → u ≡ v
same_vec u v at long room heap items = λ i. record {
  ptr = at i;
  len = long i;
  cap = room i;
  alloc = heap i;
  items = items i;
  ok = is_prop→PathP (λ j. (long j ≡ length (items j)) × (long j ≤ room j)) (λ j. hlevel props) u.ok v.ok i;
  small = is_prop→PathP (λ j. room j < 9223372036854775808) (λ j. hlevel props) u.small v.small i;
}

pub written_again : (v : Vec ℤ Global) (now was : List ℤ) → was ≡ v.items → with_items (with_items v now) was ≡ v
written_again v now was same =
    let long : length was ≡ v.len = ap length same ∙ sym v.ok.0 in
    same_vec (with_items (with_items v now) was) v refl refl refl refl (with_items_is (with_items v now) was long ∙ same)

-- ---- a slot that holds again the frame that it held

pub frame_again : (frames : Frames Activation) (slot : ℕ) (node : Node Activation) (a : Activation) → node_at frames slot ≡ Some node → with_frame (with_frame frames slot a) slot node.frame ≡ frames
frame_again frames slot node a stands =
    let there = node_at-with_frame frames slot a node stands in
    let first : with_frame frames slot a ≡ record frames { nodes = slice_set frames.nodes slot (Some (record node { frame = a })) } = ap (λ o. written frames slot o a) stands in
    let nodes : slice_set (slice_set frames.nodes slot (Some (record node { frame = a }))) slot (Some node) ≡ frames.nodes =
    set-set frames.nodes slot (Some (record node { frame = a })) (Some node) ∙ ap (slice_set frames.nodes slot) (sym stands) ∙ set-get_or frames.nodes slot None in
    ap (λ o. written (with_frame frames slot a) slot o node.frame) there
    ∙ ap (λ (g : Frames Activation). record g { nodes = slice_set g.nodes slot (Some node) }) first
    ∙ ap (λ ns. record frames { nodes = ns }) nodes

-- ---- the run

-- a strand that fits was put, and a border's refusal left more room at most
pub was_put : (before between late : Run) (worker slot : ℕ) (x : FrameStrand) (numbers : List ℤ) → FitsRun before worker x slot → IsPut before between slot x →
    IsRoomier between late → AreNumbersOf before.cells.cells.items x.course.cells.writes numbers → WasPut before late slot x numbers
was_put before between late worker slot x numbers fits put roomier are = record {
  between = between;
  put = put;
  copy = subst (λ (n : Node Activation). IsCopy x.course.loaded n.frame.frame) (same_Some fits.node put.node (sym fits.stands ∙ put.stood)) fits.frame;
  roomier = roomier;
  numbers_are = are;
}

module _ (before late : Run) (slot : ℕ) (x : FrameStrand) (numbers : List ℤ) (was : WasPut before late slot x numbers) where
  abbrev node : Node Activation
  node = was.put.node

  -- what the strand was put into the slot with
  abbrev pub present : Activation
  present = record node.frame { frame = was.put.frame }

  slots_late : late.cactus ≡ with_frame before.cactus slot present
  slots_late = ap (λ (k : Run). k.cactus) was.roomier.only ∙ ap (λ (k : Run). k.cactus) was.put.is

  done_late : late.instructions ≡ before.instructions + x.course.done
  done_late = ap (λ (k : Run). k.instructions) was.roomier.only ∙ ap (λ (k : Run). k.instructions) was.put.is

  pub counted : x.course.done ≤ late.instructions
  counted = let e = done_late in omega (arith, e)

  pub frame_late : frame_at late.cactus slot ≡ Some present
  frame_late = ap (λ (k : Frames Activation). frame_at k slot) slots_late ∙ ap (option_map (λ (n : Node Activation). n.frame)) (node_at-with_frame before.cactus slot present node was.put.stood)

  pub cells_late : length before.cells.cells.items ≤ length late.cells.cells.items
  cells_late =
      let long = was.put.cells.long in
      let more = ap (λ (xs : List ℤ). length xs) was.roomier.cells.1 in
      let sum = length-append was.between.cells.cells.items (replicate was.roomier.cells.0 (pos 0)) in
      omega (arith, long, more, sum)

  -- as many registers as the loaded frame has
  pub as_many : length x.course.loaded.registers.items ≡ length was.put.frame.registers.items
  as_many =
      let old = node.frame.frame.registers in
      let now = with_items old x.course.present.registers.items in
      let a = ap (λ (xs : List ℤ). length xs) was.copy.registers in
      let b = old.ok.0 in
      let c = now.ok.0 in
      let d = ap (λ (v : Vec ℤ Global). length v.items) was.put.room in
      sym a ∙ sym b ∙ c ∙ sym d

  module _ (cells : Flat) (restored : IsRestored x.course.cells.writes numbers late.cells.cells.items cells.cells.items) where
    abbrev pub put_back : Frame → Frame
    put_back f = record f { place = x.course.loaded.place; registers = with_items f.registers x.course.loaded.registers.items; waits = x.course.loaded.waits }

    frame_back : put_back was.put.frame ≡ node.frame.frame
    frame_back =
        let copy = was.copy in
        let words : with_items was.put.frame.registers x.course.loaded.registers.items ≡ node.frame.frame.registers =
        ap (λ (v : Vec ℤ Global). with_items v x.course.loaded.registers.items) was.put.room
        ∙ written_again node.frame.frame.registers x.course.present.registers.items x.course.loaded.registers.items (sym copy.registers) in
        ap (λ (f : Frame). record f { place = x.course.loaded.place; registers = with_items was.put.frame.registers x.course.loaded.registers.items; waits = x.course.loaded.waits }) was.put.only
        ∙ (λ i. record node.frame.frame { place = sym copy.place i; registers = words i; waits = sym copy.waits i })

    abbrev pub slots : Frames Activation
    slots = with_frame late.cactus slot (record present { frame = put_back was.put.frame })

    slots_back : slots ≡ before.cactus
    slots_back = (λ i. with_frame (slots_late i) slot (record node.frame { frame = frame_back i })) ∙ frame_again before.cactus slot node present was.put.stood

    done_back : late.instructions - x.course.done ≡ before.instructions
    done_back = let e = done_late in omega (arith, e)

    pub taken_back : IsRoomier before (record late { cells = cells; cactus = slots; instructions = late.instructions - x.course.done })
    taken_back = record {
      only = ap (λ (k : Run). record k { cells = cells; cactus = slots; instructions = late.instructions - x.course.done })
          (was.roomier.only ∙ ap (λ (k : Run). record k { cells = late.cells; blocks = late.blocks }) was.put.is)
          ∙ (λ i. record before { cells = cells; blocks = late.blocks; cactus = slots_back i; instructions = done_back i });
      cells = (
        was.roomier.cells.0,
        row_back x.course.cells.writes numbers before.cells.cells.items was.between.cells.cells.items late.cells.cells.items cells.cells.items
            (replicate was.roomier.cells.0 (pos 0)) was.put.cells was.roomier.cells.1 was.numbers_are restored,
      );
      blocks = (was.roomier.blocks.0, subst (λ (k : Run). late.blocks.items ≡ k.blocks.items ++ replicate was.roomier.blocks.0 (empty_at k.end)) was.put.is was.roomier.blocks.1);
    }

  -- what a function that puts all of it back has made
  pub goes_back : (row : List ℤ) → length row ≡ late.cells.cells.len → IsRestored x.course.cells.writes numbers late.cells.cells.items row →
      (a : Activation) → a ≡ present → (f : Frame) → f ≡ record a.frame { place = x.course.loaded.place; registers = with_items a.frame.registers x.course.loaded.registers.items; waits = x.course.loaded.waits } →
      IsRoomier before (record late { cells = record { cells = with_items late.cells.cells row }; cactus = with_frame late.cactus slot (record a { frame = f }); instructions = late.instructions - x.course.done })
  goes_back row long restored a here f is =
      let cells : Flat = record { cells = with_items late.cells.cells row } in
      let now : IsRestored x.course.cells.writes numbers late.cells.cells.items cells.cells.items =
      subst (λ (r : List ℤ). IsRestored x.course.cells.writes numbers late.cells.cells.items r) (sym (with_items_is late.cells.cells row long)) restored in
      let written : record a { frame = f } ≡ record present { frame = put_back cells now was.put.frame } =
      ap (λ (g : Frame). record a { frame = g }) is ∙ ap (λ (b : Activation). record b { frame = put_back cells now b.frame }) here in
      subst (λ (b : Activation). IsRoomier before (record late { cells = cells; cactus = with_frame late.cactus slot b; instructions = late.instructions - x.course.done }))
      (sym written) (taken_back cells now)
