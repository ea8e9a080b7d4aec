-- Cells in a row: objects lie apart, within the end.
use Rattle.std.proofs.Common.{◌≡◌, ℕ, zero, suc, ◌+◌, ◌<◌, ◌≤◌, List, [], ◌∷◌, length, refl, ap, sym, ◌∙◌, subst, arith, Bool, true, false, cond, ◌⊎◌, inl, inr, ℤ, pos, ◌+ℤ◌, Some}
use Rattle.std.specs.Prelude.{IsTrue, nat_lt, fold, sum}
use Rattle.std.specs.Int.{w64}
use Rattle.std.proofs.lemmas.Int.{ints, int_wrap_fits}
use Rattle.std.proofs.lemmas.Bool.{lt-ltb}
use Rattle.std.proofs.lemmas.Bool.Decides.{nat_tests}
use Rattle.semantics.specs.Arithmetic.{wrapped}
use Rattle.semantics.specs.Paths.{Path, same_path}
use Rattle.semantics.specs.Cells.{Object, Shared, Local, Cell, Memory}
use Rattle.semantics.specs.Frames.{Role, Child, Body}
use Rattle.semantics.proofs.Places.{same_path_is}
use Rattle.syntax.specs.declared.operator.Width.TheVariants.{Bits64}
use Rattle.program.specs.declared.function.Program.{Program}
use Rattle.frame_engine.specs.Flat.{cell_in, is_cell}
use Rattle.frame_engine.specs.Shows.{IsIn, Layout, ShowsCells, address}
use Rattle.serial_stack.specs.Layouts.{offset_in, size_in, start_in, of_globals, with_allocas, alloca_sizes, for_body, end_of, layout_of}
use Rattle.laws_strands.specs.stacks.Strands.{Placed}

summed : (a : ℕ) (cells : List ℕ) → fold (λ (s x : ℕ). s + x) a cells ≡ a + fold (λ (s x : ℕ). s + x) 0 cells
summed a [] = omega arith
summed a (c ∷ cs) =
    let one = summed (a + c) cs in
    let other = summed (0 + c) cs in
    omega (arith, one, other)

pub sum_more : (c : ℕ) (cells : List ℕ) → sum (c ∷ cells) ≡ c + sum cells
sum_more c cells = let s = summed (0 + c) cells in omega (arith, s)

pub start_below : (cells : List ℕ) (n i : ℕ) → i < size_in cells n → start_in cells n + i < sum cells
start_below [] n i h = absurd (omega (arith, h))
start_below (c ∷ cs) zero i h = let s = sum_more c cs in omega (arith, h, s)
start_below (c ∷ cs) (suc n) i h = let r = start_below cs n i h in let s = sum_more c cs in omega (arith, r, s)

pub same_place : (cells : List ℕ) (a b i j : ℕ) → i < size_in cells a → j < size_in cells b → start_in cells a + i ≡ start_in cells b + j → (a ≡ b) × (i ≡ j)
same_place [] a b i j h k e = absurd (omega (arith, h))
same_place (c ∷ cs) zero zero i j h k e = (refl, omega (arith, e))
same_place (c ∷ cs) zero (suc b) i j h k e = absurd (omega (arith, h, e))
same_place (c ∷ cs) (suc a) zero i j h k e = absurd (omega (arith, k, e))
same_place (c ∷ cs) (suc a) (suc b) i j h k e =
    let less : start_in cs a + i ≡ start_in cs b + j = omega (arith, e) in
    let r = same_place cs a b i j h k less in
    (ap suc r.0, r.1)

size_within : (cells : List ℕ) (n i : ℕ) → i < size_in cells n → n < length cells
size_within [] n i h = absurd (omega (arith, h))
size_within (c ∷ cs) zero i h = omega arith
size_within (c ∷ cs) (suc n) i h = let r = size_within cs n i h in omega (arith, r)

pub offset_is : (cells : List ℕ) (n : ℕ) → n < length cells → offset_in cells n ≡ start_in cells n
offset_is cells n h = ap (λ (b : Bool). cond b (start_in cells n) 0) (lt-ltb n (length cells) h)

-- ---- packed layouts

abbrev pub place_in : Layout → Cell → ℤ
place_in l c = l.at c.object +ℤ pos c.index

pub record LiesAt (l : Layout) (c : Cell) (end : ℕ) : Type 0 where
  pub place : ℕ
  pub is : place_in l c ≡ pos place
  pub below : place < end

-- the cells lie below the end, no two at one place
pub record IsPacked (l : Layout) (end : ℕ) : Type 0 where
  pub lies : (c : Cell) → IsIn l c → LiesAt l c end
  pub apart : (c d : Cell) → IsIn l c → IsIn l d → place_in l c ≡ place_in l d → c ≡ d

sum_of : (a b : ℕ) → pos a +ℤ pos b ≡ pos (a + b)
sum_of a b = omega (arith, ints)

pub same_pos : (a b : ℕ) → pos a ≡ pos b → a ≡ b
same_pos a b e = cc

pub cell_is : (c d : Cell) → c.object ≡ d.object → c.index ≡ d.index → c ≡ d
cell_is c d o i = λ k. record { object = o k; index = i k }

global_lies : (globals : List ℕ) (o : Object) (i : ℕ) → i < (of_globals globals).cells o → (g : ℕ) × (o ≡ Shared g) × (i < size_in globals g) × ((of_globals globals).at o ≡ pos (start_in globals g))
global_lies globals (Shared g) i h = (g, refl, h, refl)
global_lies globals (Local owner n) i h = absurd (omega (arith, h))

globals_packed : (globals : List ℕ) → IsPacked (of_globals globals) (sum globals)
globals_packed globals = record {
  lies = λ c h.
      let t = global_lies globals c.object c.index h in
      record { place = start_in globals t.0 + c.index; is = ap (λ (x : ℤ). x +ℤ pos c.index) t.3 ∙ sum_of (start_in globals t.0) c.index; below = start_below globals t.0 c.index t.2 };
  apart = λ c d h k e.
      let t = global_lies globals c.object c.index h in
      let u = global_lies globals d.object d.index k in
      let places : pos (start_in globals t.0 + c.index) ≡ pos (start_in globals u.0 + d.index) =
      sym (ap (λ (x : ℤ). x +ℤ pos c.index) t.3 ∙ sum_of (start_in globals t.0) c.index) ∙ e ∙ ap (λ (x : ℤ). x +ℤ pos d.index) u.3 ∙ sum_of (start_in globals u.0) d.index in
      let same = same_place globals t.0 u.0 c.index d.index t.2 u.2 (same_pos _ _ places) in
      cell_is c d (t.1 ∙ ap Shared same.0 ∙ sym u.1) same.1;
}

-- ---- one more frame's allocas

pub record IsOwn (p : Path) (sizes : List ℕ) (home : ℕ) (at : ℤ) (o : Object) (i : ℕ) : Type 0 where
  pub alloca : ℕ
  pub object : o ≡ Local p alloca
  pub within : i < size_in sizes alloca
  pub at_is : at ≡ pos (home + start_in sizes alloca)

pub record IsOlder (l : Layout) (at : ℤ) (o : Object) (i : ℕ) : Type 0 where
  pub within : i < l.cells o
  pub at_is : at ≡ l.at o

whose : (p : Path) (sizes : List ℕ) (home : ℕ) (l : Layout) (owner : Path) (n i : ℕ) (b : Bool) → same_path p owner ≡ b → i < cond b (size_in sizes n) (l.cells (Local owner n)) →
    IsOwn p sizes home (cond b (pos (home + offset_in sizes n)) (l.at (Local owner n))) (Local owner n) i ⊎ IsOlder l (cond b (pos (home + offset_in sizes n)) (l.at (Local owner n))) (Local owner n) i
whose p sizes home l owner n i true e h = inl (record {
  alloca = n;
  object = ap (λ (q : Path). Local q n) (sym (same_path_is p owner e));
  within = h;
  at_is = ap (λ (x : ℕ). pos (home + x)) (offset_is sizes n (size_within sizes n i h));
})
whose p sizes home l owner n i false e h = inr (record { within = h; at_is = refl })

pub either_one : (p : Path) (sizes : List ℕ) (home : ℕ) (l : Layout) (o : Object) (i : ℕ) → i < (with_allocas p sizes home l).cells o → IsOwn p sizes home ((with_allocas p sizes home l).at o) o i ⊎ IsOlder l ((with_allocas p sizes home l).at o) o i
either_one p sizes home l (Shared g) i h = inr (record { within = h; at_is = refl })
either_one p sizes home l (Local owner n) i h = whose p sizes home l owner n i (same_path p owner) refl h

module _ (p : Path) (sizes : List ℕ) (home : ℕ) (l : Layout) (packed : IsPacked l home) where
  abbrev more : Layout
  more = with_allocas p sizes home l

  own_place : (c : Cell) (t : IsOwn p sizes home (more.at c.object) c.object c.index) → place_in more c ≡ pos (home + (start_in sizes t.alloca + c.index))
  own_place c t =
      let regroup : pos (home + start_in sizes t.alloca) +ℤ pos c.index ≡ pos (home + (start_in sizes t.alloca + c.index)) = omega (arith, ints) in
      ap (λ (x : ℤ). x +ℤ pos c.index) t.at_is ∙ regroup

  older_place : (c : Cell) → IsOlder l (more.at c.object) c.object c.index → place_in more c ≡ place_in l c
  older_place c t = ap (λ (x : ℤ). x +ℤ pos c.index) t.at_is

  beside : (c d : Cell) → IsOwn p sizes home (more.at c.object) c.object c.index → IsOlder l (more.at d.object) d.object d.index → place_in more c ≡ place_in more d → ⊥
  beside c d t u e =
      let r = packed.lies d u.within in
      let places : home + (start_in sizes t.alloca + c.index) ≡ r.place = same_pos _ _ (sym (own_place c t) ∙ e ∙ older_place d u ∙ r.is) in
      let low = r.below in
      omega (arith, places, low)

  allocas_packed : IsPacked more (home + sum sizes)
  allocas_packed = record {
    lies = λ c h. elim (either_one p sizes home l c.object c.index h) [
      | inl t ↦
          let low = start_below sizes t.alloca c.index t.within in
          record { place = home + (start_in sizes t.alloca + c.index); is = own_place c t; below = omega (arith, low) }
      | inr t ↦
          let r = packed.lies c t.within in
          let low = r.below in
          record { place = r.place; is = older_place c t ∙ r.is; below = omega (arith, low) }
    ];
    apart = λ c d h k e. elim (either_one p sizes home l c.object c.index h) [
      | inl t ↦ elim (either_one p sizes home l d.object d.index k) [
        | inl u ↦
            let places : home + (start_in sizes t.alloca + c.index) ≡ home + (start_in sizes u.alloca + d.index) = same_pos _ _ (sym (own_place c t) ∙ e ∙ own_place d u) in
            let less : start_in sizes t.alloca + c.index ≡ start_in sizes u.alloca + d.index = omega (arith, places) in
            let same = same_place sizes t.alloca u.alloca c.index d.index t.within u.within less in
            cell_is c d (t.object ∙ ap (λ (n : ℕ). Local p n) same.0 ∙ sym u.object) same.1
        | inr u ↦ absurd (beside c d t u e)
      ]
      | inr t ↦ elim (either_one p sizes home l d.object d.index k) [
        | inl u ↦ absurd (beside d c u t (sym e))
        | inr u ↦ packed.apart c d t.within u.within (sym (older_place c t) ∙ e ∙ older_place d u)
      ]
    ];
  }

-- ---- a stack

module _ (globals : List ℕ) (prog : Program) where
  role_packed : (role : Role) (p : Path) (sizes : List ℕ) (home : ℕ) (l : Layout) → IsPacked l home → IsPacked (for_body role (with_allocas p sizes home l) l) (for_body role (home + sum sizes) home)
  role_packed Body p sizes home l packed = allocas_packed p sizes home l packed
  role_packed (Child region continuation) p sizes home l packed = packed

  pub packed : (below : List Placed) → IsPacked (layout_of globals prog below) (end_of globals prog below)
  packed [] = globals_packed globals
  packed (g ∷ below) = role_packed g.frame.role g.path (alloca_sizes prog g.frame.function) (end_of globals prog below) (layout_of globals prog below) (packed below)

-- ---- flat cells

pub address_is : (l : Layout) (end : ℕ) (c : Cell) (packed : IsPacked l end) → end < 9223372036854775808 → (h : IsIn l c) → address l c ≡ pos (packed.lies c h).place
address_is l end c packed small h =
    let r = packed.lies c h in
    let low = r.below in
    let fits : r.place < 9223372036854775808 = omega (arith, low, small) in
    ap (wrapped Bits64) r.is ∙ int_wrap_fits w64 (pos r.place) (record { sfits = fits })

reaches : (items : List ℤ) (n : ℕ) → n < length items → IsTrue (is_cell items (pos n))
reaches items n h = let t : nat_lt n (length items) ≡ true = grind (arith, nat_tests) in t

-- what holds of cells in a row makes them the cells of the engine
pub cells_shown : (l : Layout) (end : ℕ) (items : List ℤ) (m : Memory) → IsPacked l end → end ≤ length items → end < 9223372036854775808 →
    ((c : Cell) (z : ℤ) → m c ≡ Some z → cell_in items (address l c) ≡ Some z) → ((c : Cell) (z : ℤ) → m c ≡ Some z → IsIn l c) →
    ShowsCells l (is_cell items) (λ a z. cell_in items a ≡ Some z) m
cells_shown l end items m packed long small values inside = record {
  values = values;
  inside = inside;
  reached = λ c h.
      let r = packed.lies c h in
      let low = r.below in
      let within : r.place < length items = omega (arith, low, long) in
      subst (λ (a : ℤ). IsTrue (is_cell items a)) (sym (address_is l end c packed small h)) (reaches items r.place within);
  apart = λ c d h k e.
      let places : (packed.lies c h).place ≡ (packed.lies d k).place = same_pos _ _ (sym (address_is l end c packed small h) ∙ e ∙ address_is l end d packed small k) in
      packed.apart c d h k ((packed.lies c h).is ∙ ap pos places ∙ sym (packed.lies d k).is);
}
