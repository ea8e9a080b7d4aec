-- Views of frames and of cells show those of the definitions.
use Rattle.std.proofs.Common.{◌≡◌, ℕ, ℤ, pos, ◌+ℤ◌, ◌<◌, ◌%◌, List, Option, Some, None, refl, sym, ap, ◌∙◌, subst, reverse, slice_get, w64}
use Rattle.std.specs.Int.{cast_signed, int_wrap}
use Rattle.std.proofs.Math.Nat.{mod-eq_of_lt}
use Rattle.std.proofs.lemmas.Int.{int_wrap-add_right}
use Rattle.std.proofs.lemmas.Option.{same_Some}
use Rattle.syntax.specs.declared.operator.Width.TheVariants.{Bits64}
use Rattle.semantics.specs.Arithmetic.{cell_sum, wrapped}
use Rattle.semantics.specs.Frames.{Frame, first_cell}
use Rattle.frame_engine.specs.Activation.{allocas_of, or_none}
use Rattle.frame_engine.specs.declared.activation.Places.{Places}
use Rattle.frame_engine.proofs.Values.{cells_on}
use Rattle.semantics.specs.Cells.{Cell, Local}
use Rattle.semantics.specs.Events.{Machine}
use Rattle.frame.specs.declared.path.Path.{Path}
use Rattle.frame_engine.specs.Flat.{cell_in}
use Rattle.frame_engine.specs.Shows.{Layout, address}
use Rattle.frame_engine.specs.declared.activation.Frame as machine
use Rattle.cactus.specs.declared.node.Node.{Node}
use Rattle.cactus.specs.Frames.{node_at, HasPath}
use Rattle.schedule_workers.specs.declared.activation.Activation.{Activation}
use Rattle.schedule_workers.specs.RunShown.{ShowsNode, place_of}
use Rattle.schedule_workers.proofs.Onward.{seen}
use Rattle.schedule_core.specs.declared.frames.FrameView.{FrameView}
use Rattle.schedule_core.specs.declared.stage.Stage.{Stage}
use Rattle.schedule_core.specs.FrameViews.{IsAddressIn, IsFrameAt, IsHeldAt, IsHeldBy, layout_in}
use Rattle.schedule_core.specs.Stages.{IsState, program_of}
use Rattle.schedule_core.specs.Viewed.{place_in}
use Rattle.schedule_core.proofs.Spots.{same_node}
use Rattle.schedule_core.proofs.Views.{has_node}

module _ (stage : Stage) (m : Machine) (s : IsState stage m) where
  -- the frame in the slot of this path
  pub frame_shown : (slot generation : ℕ) (path : Path) (view : FrameView) (node : Node Activation) → HasPath stage.run.cactus slot generation path →
      node_at stage.run.cactus slot ≡ Some node → view.path.now ≡ node.path → view.frame.now ≡ node.frame.frame → IsFrameAt stage m path view
  frame_shown slot generation path view node has stands named shows =
      let h = has_node stage.run.cactus slot generation path has in
      let same : node ≡ h.0 = same_node (node_at stage.run.cactus slot) node h.0 stands h.1 in
      let is : node.path ≡ path = ap (λ (k : Node Activation). k.path) same ∙ h.2 in
      let g = seen (program_of stage) stage.places stage.run slot node node.frame stands m s.shown in
      let shown : ShowsNode (layout_in stage m) stage.places (place_in path) g.frame node.frame.frame =
      subst (λ (p : Path). ShowsNode (layout_in stage m) stage.places (place_in p) g.frame node.frame.frame) is g.shows in
      record {
        named = named ∙ is;
        frame = g.frame;
        stands = subst (λ (p : Path). m.core.frames (place_in p) ≡ Some g.frame) is g.is;
        shown = subst (λ (f : machine.Frame). ShowsNode (layout_in stage m) stage.places (place_in path) g.frame f) (sym shows) shown;
      }

  -- what stands in the row at an address
  pub held_at : (at : ℤ) (word : Option ℤ) → ((z : ℤ) → cell_in stage.run.cells.cells.items at ≡ Some z → word ≡ Some z) → IsHeldAt stage m at word
  held_at at word holds c z same held = holds z (subst (λ (a : ℤ). cell_in stage.run.cells.cells.items a ≡ Some z) same (s.shown.shows.cells.values c z held))

-- ---- cells of allocas

wrapped_pos : (n : ℕ) → wrapped Bits64 (pos n) ≡ cast_signed w64 (n % 18446744073709551616)
unfolding int_wrap
wrapped_pos n = refl

index_wraps : (n : ℕ) → n < 18446744073709551616 → cast_signed w64 n ≡ wrapped Bits64 (pos n)
index_wraps n low = ap (cast_signed w64) (sym (mod-eq_of_lt low)) ∙ sym (wrapped_pos n)

-- an object's cell lies so far behind its first one
cell_behind : (at first : ℤ) (n : ℕ) → n < 18446744073709551616 → first ≡ wrapped Bits64 (at +ℤ pos 0) → wrapped Bits64 (first +ℤ cast_signed w64 n) ≡ wrapped Bits64 (at +ℤ pos n)
cell_behind at first n low e = ap (λ (y : ℤ). wrapped Bits64 (first +ℤ y)) (index_wraps n low) ∙ int_wrap-add_right w64 first (pos n) ∙ cells_on at first (pos n) n e refl

-- a function that is not there has no alloca
pub no_alloca : (places : Places) (function alloca : ℕ) → slice_get places.allocas function ≡ None → slice_get (allocas_of places function) alloca ≡ None
no_alloca places function alloca none = ap (λ (o : Option (List ℤ)). slice_get (or_none o) alloca) none

-- no frame lives at the path, so none of its cells holds anything
pub gone_held : (stage : Stage) (m : Machine) (path : Path) (alloca index : ℕ) → m.core.frames (place_in path) ≡ None → IsHeldBy stage m path alloca index None
gone_held stage m path alloca index gone f k z lives stands held = absurd (let e : None ≡ Some f = sym gone ∙ lives in cc)

module _ (stage : Stage) (m : Machine) (path : Path) where
  -- where no such alloca is, none of its cells holds anything
  pub none_held : (view : FrameView) (alloca index : ℕ) → IsFrameAt stage m path view → slice_get (allocas_of stage.places view.frame.now.function.0) alloca ≡ None → IsHeldBy stage m path alloca index None
  none_held view alloca index s none f k z lives stands held =
      let same : s.frame ≡ f = same_Some s.frame f (sym s.stands ∙ lives) in
      let function : f.function ≡ view.frame.now.function.0 = ap (λ (g : Frame). g.function) (sym same) ∙ s.shown.shown.function in
      absurd (let e : None ≡ Some k = sym none ∙ subst (λ (g : ℕ). slice_get (allocas_of stage.places g) alloca ≡ Some k) function stands in cc)

  pub alloca_held : (view : FrameView) (alloca index : ℕ) (at : ℤ) (word : Option ℤ) → IsFrameAt stage m path view → index < 18446744073709551616 →
      IsAddressIn stage.places view.frame.now alloca index at → IsHeldAt stage m at word → IsHeldBy stage m path alloca index word
  alloca_held view alloca index at word s low a held f k z lives stands value =
      let same : s.frame ≡ f = same_Some s.frame f (sym s.stands ∙ lives) in
      let l : Layout = layout_in stage m in
      let first : cell_sum view.frame.now.home a.start ≡ address l (first_cell (Local s.frame.home alloca)) = s.shown.shown.bases.allocas alloca a.start a.there in
      let behind : at ≡ address l (record { object = Local s.frame.home alloca; index = index }) = a.is ∙ cell_behind (l.at (Local s.frame.home alloca)) (cell_sum view.frame.now.home a.start) index low first in
      held (record { object = Local f.home alloca; index = index }) z (sym (behind ∙ ap (λ (g : Frame). address l (record { object = Local g.home alloca; index = index })) same)) value
