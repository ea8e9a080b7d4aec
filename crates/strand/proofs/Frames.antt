-- Each frame below the one on top, with what is kept of it.
use Rattle.std.proofs.Common.{◌≡◌, ℕ, zero, suc, ◌+◌, ◌<◌, ◌≤◌, ◌++◌, List, [], ◌∷◌, drop, length, map, refl, ap, sym, ◌∙◌, subst, arith, Option, Some, None, ℤ, get_or}
use Rattle.std.specs.Prelude.{slice_get}
use Rattle.std.specs.Option.{option_map}
use Rattle.std.proofs.lemmas.List.{length-map}
use Rattle.std.proofs.lemmas.Option.{same_Some, slice_get-get_or, slice_get-map}
use Rattle.semantics.specs.Frames.{Item}
use Rattle.program.specs.declared.function.Program.{Program}
use Rattle.serial_stack.specs.Layouts.{Ground}
use Rattle.laws_strands.specs.stacks.Strands.{Placed}
use Rattle.windows.specs.declared.windows.Saved.{Saved}
use Rattle.windows.specs.declared.windows.Windows.{Windows}
use Rattle.windows.specs.WindowsShown.{HasTaker, ShowsBelow, ShowsOn, Text, registers_in}
use Rattle.window_runs.specs.Standing.{BelowStand, SavedAt}
use Rattle.strand.specs.Leaving.{IsBaseAbove}
use Rattle.strand.specs.Spans.{AreMakers, HasMade, IsMaker, slot_item}
use Rattle.strand.proofs.Items.{AtEach}

-- ---- lists

get_left : {A : Type 0} (xs ys : List A) (k : ℕ) (x : A) → slice_get xs k ≡ Some x → slice_get (xs ++ ys) k ≡ Some x
get_left [] ys k x e = absurd cc
get_left (y ∷ xs) ys zero x e = e
get_left (y ∷ xs) ys (suc k) x e = get_left xs ys k x e

get_last : {A : Type 0} (xs : List A) (y : A) → slice_get (xs ++ y ∷ []) (length xs) ≡ Some y
get_last [] y = refl
get_last (x ∷ xs) y = get_last xs y

-- ---- where windows begin

abbrev pub base_of : Saved → ℕ
base_of s = s.base

pub base_next : (w : Windows) (number : ℕ) (s : Saved) → slice_get w.below.items (suc number) ≡ Some s → IsBaseAbove w number s.base
base_next w number s e =
    get_left (map base_of w.below.items) (w.base ∷ []) (suc number) s.base (slice_get-map base_of w.below.items (suc number) ∙ ap (option_map base_of) e)

pub base_read : (w : Windows) (number : ℕ) (s : Saved) → number + 1 < length w.below.items → s ≡ get_or w.below.items (number + 1) s → IsBaseAbove w number s.base
base_read w number s lt is =
    let e : slice_get w.below.items (number + 1) ≡ Some s = slice_get-get_or w.below.items (number + 1) s lt ∙ ap (λ (x : Saved). Some x) (sym is) in
    let up : number + 1 ≡ suc number = omega arith in
    base_next w number s (subst (λ (k : ℕ). slice_get w.below.items k ≡ Some s) up e)

pub base_last : (w : Windows) (number : ℕ) → suc number ≡ length w.below.items → IsBaseAbove w number w.base
base_last w number last =
    let long : length (map base_of w.below.items) ≡ suc number = length-map w.below.items base_of ∙ sym last in
    subst (λ (k : ℕ). slice_get (map base_of w.below.items ++ w.base ∷ []) k ≡ Some w.base) long (get_last (map base_of w.below.items) w.base)

-- ---- the items by which frames made others

pub made_some : (o : Option Item) (g above : Placed) → HasMade o g above → o ≡ None → ⊥
made_some None g above h e = h
made_some (Some item) g above h e = absurd cc

pub below_long : (floor : Ground) (t : Text) (row : List ℤ) (below : List Placed) (saved : List Saved) (next : ℕ) → ShowsBelow floor t row below saved next → length below ≡ length saved
below_long floor t row [] [] next h = refl
below_long floor t row [] (s ∷ saved) next h = absurd h
below_long floor t row (g ∷ below) [] next h = absurd h
below_long floor t row (g ∷ below) (s ∷ saved) next h = ap suc (below_long floor t row below saved s.base h.3)

abbrev pub IsMade : Program → Saved → Type 0
IsMade prog s = slot_item prog s.at ≡ None → ⊥

pub makers_there : (prog : Program) (before done : ℕ) (above : Placed) (below : List Placed) (saved : List Saved) → length below ≡ length saved → AreMakers prog before done above below saved → AtEach (IsMade prog) saved
makers_there prog before done above [] [] long h k s e = absurd cc
makers_there prog before done above [] (x ∷ saved) long h k s e = absurd (omega (arith, long))
makers_there prog before done above (g ∷ below) [] long h k s e = absurd h
makers_there prog before done above (g ∷ below) (x ∷ saved) long h zero s e = subst (IsMade prog) (same_Some x s e) (made_some (slot_item prog x.at) g above h.0.by)
makers_there prog before done above (g ∷ below) (x ∷ saved) long h (suc k) s e = makers_there prog before done g below saved (omega (arith, long)) h.1 k s e

-- ---- one of them

-- so many frames below the one on top; this is above it, and its window begins there
pub record FrameOut (floor : Ground) (t : Text) (row : List ℤ) (before done : ℕ) (top : Placed) (below : List Placed) (saved : List Saved) (next : ℕ) (j : ℕ) : Type 0 where
  pub above : Placed
  pub frame : Placed
  pub rest : List Placed
  pub kept : Saved
  pub base : ℕ
  pub above_is : slice_get (top ∷ below) j ≡ Some above
  pub frame_is : drop j below ≡ frame ∷ rest
  pub kept_is : slice_get saved j ≡ Some kept
  pub base_is : slice_get (next ∷ map base_of saved) j ≡ Some base
  pub low : base ≤ next
  pub shown : ShowsOn floor t row frame rest kept.pc kept.base kept.home
  pub wide : kept.base + registers_in t.prog frame.frame.function < base
  pub taker : HasTaker (registers_in t.prog frame.frame.function) frame.frame.waits kept.taker
  pub stands : SavedAt t kept base
  pub maker : IsMaker t.prog before done above frame rest kept

pub frame_out : (floor : Ground) (t : Text) (row : List ℤ) (before done : ℕ) (top : Placed) (below : List Placed) (saved : List Saved) (next j : ℕ) →
    ShowsBelow floor t row below saved next → BelowStand t saved next → AreMakers t.prog before done top below saved → j < length saved →
    FrameOut floor t row before done top below saved next j
frame_out floor t row before done top [] [] next j shown stand makers lt = absurd (omega (arith, lt))
frame_out floor t row before done top [] (s ∷ saved) next j shown stand makers lt = absurd shown
frame_out floor t row before done top (g ∷ below) [] next j shown stand makers lt = absurd shown
frame_out floor t row before done top (g ∷ below) (s ∷ saved) next zero shown stand makers lt = record {
  above = top;
  frame = g;
  rest = below;
  kept = s;
  base = next;
  above_is = refl;
  frame_is = refl;
  kept_is = refl;
  base_is = refl;
  low = omega arith;
  shown = shown.0;
  wide = shown.1;
  taker = shown.2;
  stands = stand.0;
  maker = makers.0;
}
frame_out floor t row before done top (g ∷ below) (s ∷ saved) next (suc j) shown stand makers lt =
    let r = frame_out floor t row before done g below saved s.base j shown.3 stand.1 makers.1 (omega (arith, lt)) in
    let low = r.low in
    let wide = shown.1 in
    record {
      above = r.above;
      frame = r.frame;
      rest = r.rest;
      kept = r.kept;
      base = r.base;
      above_is = r.above_is;
      frame_is = r.frame_is;
      kept_is = r.kept_is;
      base_is = r.base_is;
      low = omega (arith, low, wide);
      shown = r.shown;
      wide = r.wide;
      taker = r.taker;
      stands = r.stands;
      maker = r.maker;
    }
