-- A detach keeps the stack shown.
use Rattle.std.proofs.Common.{◌≡◌, ℕ, suc, ◌+◌, ◌<◌, List, [], ◌∷◌, ◌++◌, length, reverse, ap, sym, ◌∙◌, subst, Some, Box, Global}
use Rattle.std.specs.Prelude.{slice_get}
use Rattle.std.proofs.lemmas.List.{map-append, reverse-append}
use Rattle.linear.specs.declared.form.RegisterId.{RegisterId}
use Rattle.semantics.specs.Paths.{Path}
use Rattle.semantics.specs.Frames as frames
use Rattle.semantics.specs.Frames.{Role, Child, Body, Free, Ends}
use Rattle.semantics.specs.Effect.{Detach, action_of}
use Rattle.semantics.specs.State.{detached, continued}
use Rattle.program.specs.declared.identifier.BlockId.{BlockId}
use Rattle.program.specs.declared.function.Function.{Function}
use Rattle.program.specs.declared.function.Program.{Program}
use Rattle.program.specs.declared.instruction.Terminator.TheVariants as terminator
use Rattle.frame.specs.declared.frame.Wait.TheVariants as wait
use Rattle.frame.specs.Reading.{wait_of}
use Rattle.frame_engine.specs.declared.activation.Frame.{Frame}
use Rattle.frame_engine.specs.declared.activation.Places.{Places}
use Rattle.frame_engine.specs.Activation.{FrameFits, ShowsFrame}
use Rattle.frame_engine.specs.Fits.{PlaceFits}
use Rattle.frame_engine.specs.Flat.{cell_in, is_cell}
use Rattle.frame_engine.specs.declared.flat.Flat.{Flat}
use Rattle.frame_engine.specs.Shows.{Layout, ShowsCells}
use Rattle.serial_stack.specs.Layouts.{end_of, frames_of, layout_of}
use Rattle.laws_strands.specs.stacks.Strands.{Placed}
use Rattle.serial_stack.specs.Steps.{Run, Goes, detach}
use Rattle.serial_stack.specs.StackShown.{BeginsAt, CanGo, HasTaker, ShowsBelow, ShowsOn, ShowsRun, TextFits, place_of, unboxed}
use Rattle.serial_stack.specs.declared.stack.Stack.{Stack}
use Rattle.serial_stack.proofs.Places.{detach_here}
use Rattle.serial_stack.proofs.Texts.{Located, ends_fit, frame_stands, located, starts_block}

pub reverse_push : (l : List Frame) (f : Frame) → reverse (l ++ (f ∷ [])) ≡ f ∷ reverse l
reverse_push l f = reverse-append l (f ∷ [])

pub unboxed_push : (xs ys : List (Box Frame Global)) (b : Box Frame Global) → ys ≡ xs ++ b ∷ [] → unboxed ys ≡ unboxed xs ++ b.value ∷ []
unboxed_push xs ys b e = ap unboxed e ∙ map-append (λ (x : Box Frame Global). x.value) xs (b ∷ [])

-- spare frames are not shown
pub spared : (globals : List ℕ) (prog : Program) (places : Places) (s : Run) (k j : Stack) → j ≡ record k { spare = j.spare } → ShowsRun globals prog places s k → ShowsRun globals prog places s j
spared globals prog places s k j e h = subst (ShowsRun globals prog places s) (sym e) (record { top = h.top; below = h.below; cells = h.cells; end = h.end })

-- the frame below, made by its parts
record Waits (globals : List ℕ) (prog : Program) (places : Places) (g : Placed) (below : List Placed) (f : Frame) : Type 0 where
  on : ShowsOn globals prog places g below f
  waits : g.frame.waits ≡ wait_of f.waits
  taker : HasTaker f f.waits

module _ (globals : List ℕ) (prog : Program) (places : Places) (moves : ℕ) (s : Run) (k : Stack) (text : TextFits prog places moves) (h : ShowsRun globals prog places s k) (can : CanGo globals prog s) where
  -- the function of the frame on top
  function_of : (f : Function) → slice_get prog.functions s.frame.function ≡ Some f → slice_get prog.functions k.top.value.function.0 ≡ Some f
  function_of f is = ap (slice_get prog.functions) (sym h.top.shown.function) ∙ is

  module _ (r : RegisterId) (b c : BlockId) (place : place_of prog s ≡ Some (Ends (terminator.Detach r b c))) (child : Frame)
      (words : child.registers.items ≡ k.top.value.registers.items) (same : child.function ≡ k.top.value.function)
      (child_shown : (l : Layout) (at : Places) (p : Path) (g : frames.Frame) → ShowsFrame l at p g k.top.value → ShowsFrame l at (g.made ∷ p) (detached g r.0 b.0 c.0) child)
      (parent : Frame) (parent_is : parent ≡ record k.top.value { place = record { block = c; index = 0 }; made = k.top.value.made + 1; waits = wait.Nothing })
      (parent_shown : (l : Layout) (at : Places) (p : Path) (g : frames.Frame) → ShowsFrame l at p g k.top.value → ShowsFrame l at p (continued g c.0) parent)
    where
      at : Located prog s.frame.function s.frame.block s.frame.index (Ends (terminator.Detach r b c))
      at = located prog s.frame.function s.frame.block s.frame.index (Ends (terminator.Detach r b c)) place

      both : (b.0 < length at.function.blocks) × (c.0 < length at.function.blocks)
      both = ends_fit prog places moves s.frame.function s.frame.block s.frame.index (terminator.Detach r b c) text.fits at

      abbrev layout : Layout
      layout = layout_of globals prog (frames_of s)

      child_fits : FrameFits prog child
      child_fits =
          let shown = child_shown layout places s.path s.frame h.top.shown in
          frame_stands prog child at.function (ap (λ x. slice_get prog.functions x.0) same ∙ function_of at.function at.is)
          (ap length words ∙ h.top.fits.registers at.function (function_of at.function at.is))
          (subst (λ (n : ℕ). PlaceFits at.function.blocks n child.place.index) shown.block (subst (λ (n : ℕ). PlaceFits at.function.blocks b.0 n) shown.index (starts_block at.function.blocks b.0 both.0)))

      parent_waits : Waits globals prog places (record { path = s.path; frame = continued s.frame c.0 }) s.below parent
      parent_waits =
          let shown = parent_shown layout places s.path s.frame h.top.shown in
          record {
            on = record {
              shown = shown;
              fits = frame_stands prog parent at.function (ap (λ (x : Frame). slice_get prog.functions x.function.0) parent_is ∙ function_of at.function at.is)
                  (ap (λ (x : Frame). length x.registers.items) parent_is ∙ h.top.fits.registers at.function (function_of at.function at.is))
                  (subst (λ (n : ℕ). PlaceFits at.function.blocks n parent.place.index) shown.block (subst (λ (n : ℕ). PlaceFits at.function.blocks c.0 n) shown.index (starts_block at.function.blocks c.0 both.1)));
              tall = h.top.tall;
              home = subst (λ (x : Frame). BeginsAt s.frame.role x.home (end_of globals prog s.below)) (sym parent_is) h.top.home;
            };
            waits = sym (ap (λ (x : Frame). wait_of x.waits) parent_is);
            taker = subst (λ (x : Frame). HasTaker x x.waits) (sym parent_is) tt;
          }

      pub detach_shown : (j : Stack) → j.top.value ≡ child → unboxed j.below.items ≡ unboxed k.below.items ++ parent ∷ [] → j.cells ≡ k.cells → j.end ≡ k.end → (t : Run) × Goes prog s t × ShowsRun globals prog places t j
      detach_shown j top pushed cells end =
          let act : action_of prog s.path s.frame s.memory ≡ Detach r.0 b.0 c.0 = detach_here prog s can.goes r b c place in
          let now : reverse (unboxed j.below.items) ≡ parent ∷ reverse (unboxed k.below.items) = ap reverse pushed ∙ reverse_push (unboxed k.below.items) parent in
          let t : Run = record { path = s.frame.made ∷ s.path; frame = detached s.frame r.0 b.0 c.0; below = record { path = s.path; frame = continued s.frame c.0 } ∷ s.below; memory = s.memory } in
          let on : ShowsOn globals prog places (record { path = t.path; frame = t.frame }) t.below child = record {
            shown = child_shown layout places s.path s.frame h.top.shown;
            fits = child_fits;
            tall = ap suc h.top.tall;
            home = tt;
          } in (
            t,
            detach r.0 b.0 c.0 act,
            record {
              top = subst (ShowsOn globals prog places (record { path = t.path; frame = t.frame }) t.below) (sym top) on;
              below = subst (ShowsBelow globals prog places t.below) (sym now) (parent_waits.on, parent_waits.waits, parent_waits.taker, h.below);
              cells = subst (λ (q : Flat). ShowsCells layout (is_cell q.cells.items) (λ a z. cell_in q.cells.items a ≡ Some z) s.memory) (sym cells) h.cells;
              end = end ∙ h.end;
            },
          )
