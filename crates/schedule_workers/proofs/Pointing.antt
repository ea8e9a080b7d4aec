-- What no living frame points to may lie anywhere.
use Rattle.std.proofs.Common.{◌≡◌, ◌≢◌, ℕ, Some, None, inl, inr, ◌⊎◌, refl, sym, ap, ◌∙◌, subst, ℤ, ◌+ℤ◌, pos}
use Rattle.std.specs.Prelude.{⊤}
use Rattle.semantics.specs.Arithmetic.{wrapped}
use Rattle.semantics.specs.Paths.{Path}
use Rattle.semantics.specs.Below.{Under, itself, deeper}
use Rattle.semantics.specs.Cells.{Cell, Object, Shared, Local}
use Rattle.semantics.specs.Frames.{Frame, Value, Word, Truth, Pointer, Region, first_cell}
use Rattle.semantics.specs.State.{State}
use Rattle.semantics.specs.Tree.{Tree}
use Rattle.semantics.proofs.Places.{same_path_tells}
use Rattle.syntax.specs.declared.operator.Width.TheVariants.{Bits64}
use Rattle.frame_engine.specs.declared.activation.Frame.{Frame as Standing}
use Rattle.frame_engine.specs.declared.activation.Places.{Places}
use Rattle.frame_engine.specs.Activation.{ShowsFrame}
use Rattle.frame_engine.specs.Shows.{Layout, Stands, address}
use Rattle.schedule_workers.specs.Going.{IsAbove, PointsUp}

-- ---- whom frames point to

module _ (s : State) (tree : Tree s) where
  -- the frames above a living one live
  pub lives_above : (c q : Path) → Under c q → (f : Frame) → s.frames q ≡ Some f → (g : Frame) × (s.frames c ≡ Some g)
  lives_above c q itself f is = (f, is)
  lives_above c q (deeper k {y} u) f is = let (g, over, lt) = tree.has_parent k y f is in lives_above c y u g over

  pub not_above : (c q : Path) → s.frames c ≡ None → (f : Frame) → s.frames q ≡ Some f → Under c q → ⊥
  not_above c q none f is u = let (g, lives) = lives_above c q u f is in absurd (let e : None ≡ Some g = sym none ∙ lives in cc)

-- not an alloca of the frame at c
abbrev pub IsApart : Path → Object → Type 0
IsApart c (Shared g) = ⊤
IsApart c (Local owner a) = c ≢ owner

pub apart_above : (s : State) → Tree s → (c q : Path) → s.frames c ≡ None → (f : Frame) → s.frames q ≡ Some f → (o : Object) → IsAbove q o → IsApart c o
apart_above s tree c q none f is (Shared g) up = tt
apart_above s tree c q none f is (Local owner a) up = λ e. not_above s tree c q none f is (subst (λ (x : Path). Under x q) (sym e) up)

pub whose : (c : Path) (o : Object) → IsApart c o ⊎ ((a : ℕ) × (o ≡ Local c a))
whose c (Shared g) = inl tt
whose c (Local owner a) = elim (same_path_tells c owner) [ inl h ↦ inr (a, ap (λ (q : Path). Local q a) (sym h.1)) | inr h ↦ inl h.1 ]

-- ---- layouts that differ in the allocas of one frame

pub record IsAlike (c : Path) (l k : Layout) : Type 0 where
  pub at : (o : Object) → IsApart c o → k.at o ≡ l.at o
  pub cells : (o : Object) → IsApart c o → k.cells o ≡ l.cells o

module _ (c : Path) (l k : Layout) (alike : IsAlike c l k) where
  pub address_apart : (x : Cell) → IsApart c x.object → address k x ≡ address l x
  address_apart x apart = ap (λ (y : ℤ). wrapped Bits64 (y +ℤ pos x.index)) (alike.at x.object apart)

  stands_on : (v : Value) (w : ℤ) → ((x : Cell) → v ≡ Pointer x → IsApart c x.object) → Stands l v w → Stands k v w
  stands_on (Word z) w apart s = s
  stands_on (Truth b) w apart s = s
  stands_on (Pointer x) w apart s = s ∙ sym (address_apart x (apart x refl))
  stands_on (Region p) w apart s = s

  -- a frame that points to no alloca of that one is shown as before
  pub shown_on : (places : Places) (q : Path) (g : Frame) (f : Standing) → c ≢ g.home → ((x : ℕ) (y : Cell) → g.registers x ≡ Some (Pointer y) → IsApart c y.object) → ShowsFrame l places q g f → ShowsFrame k places q g f
  shown_on places q g f home apart t = record {
    function = t.function;
    block = t.block;
    index = t.index;
    made = t.made;
    role = t.role;
    depth = t.depth;
    bases = record {
      globals = λ x w h. t.bases.globals x w h ∙ sym (address_apart (first_cell (Shared x)) tt);
      allocas = λ a z h. t.bases.allocas a z h ∙ sym (address_apart (first_cell (Local g.home a)) home);
    };
    registers = λ x v w h i. stands_on v w (λ y e. apart x y (h ∙ ap Some e)) (t.registers x v w h i);
  }

-- ---- frames that live

module _ (s : State) (tree : Tree s) (points : (q : Path) (f : Frame) → s.frames q ≡ Some f → PointsUp q f) (c : Path) (none : s.frames c ≡ None) (l k : Layout) (alike : IsAlike c l k) where
  pub living_shown : (places : Places) (q : Path) (g : Frame) (f : Standing) → s.frames q ≡ Some g → ShowsFrame l places q g f → ShowsFrame k places q g f
  living_shown places q g f is =
      shown_on c l k alike places q g f (λ e. not_above s tree c q none g is (subst (λ (x : Path). Under x q) (sym e) (points q g is).home))
      (λ x y h. apart_above s tree c q none g is y.object ((points q g is).registers x y h))
