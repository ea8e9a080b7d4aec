-- The layout of a strand lies over that of the machine: cells of its own frames are in the segment, all others where they were.
use Rattle.std.proofs.Common.{◌≡◌, ℕ, suc, ◌+◌, ◌-◌, ◌≤◌, ◌<◌, List, [], ◌∷◌, length, refl, ap, sym, ◌∙◌, subst, arith, false, inl, inr, ◌⊎◌, ℤ, pos, ◌+ℤ◌}
use Rattle.std.specs.Prelude.{sum}
use Rattle.std.specs.Int.{w64}
use Rattle.std.proofs.lemmas.Int.{ints, int_wrap_fits}
use Rattle.std.proofs.lemmas.Bool.{false_from_ne_true}
use Rattle.std.proofs.lemmas.Bool.Decides.{leb_tells}
use Rattle.semantics.specs.Arithmetic.{wrapped}
use Rattle.syntax.specs.declared.operator.Width.TheVariants.{Bits64}
use Rattle.semantics.specs.Paths.{Path, same_path}
use Rattle.semantics.specs.Cells.{Object, Shared, Local, Cell, owns}
use Rattle.semantics.specs.Frames.{Role, Body, Child}
use Rattle.semantics.proofs.Places.{same_path_is}
use Rattle.program.specs.declared.function.Program.{Program}
use Rattle.frame_engine.specs.Shows.{IsIn, Layout, address}
use Rattle.serial_stack.specs.Layouts.{alloca_sizes, for_body, start_in, with_allocas}
use Rattle.serial_stack.proofs.Owners.{IsApart, address_apart, in_apart}
use Rattle.serial_stack.proofs.Rows.{IsOlder, IsOwn, cell_is, either_one, same_place, same_pos, start_below}
use Rattle.strand.specs.frame_strand.Showing.{AreApart}
use Rattle.laws_strands.specs.stacks.Strands.{Placed}
use Rattle.laws_strands.proofs.stacks.Rising.{Rises}
use Rattle.strand.specs.Layouts.{IsOutside, IsToCome, OwnsNone, Segment, end_above, layout_above}
use Rattle.strand.proofs.Coming.{IsOf, new_to_come, owner_of, under_long}

-- ---- owners

pub apart_of : (p : Path) (o : Object) → owns p o ≡ false → IsApart p o
apart_of p (Shared g) e = tt
apart_of p (Local owner a) e = e

pub owned_not : (p : Path) (o : Object) → IsApart p o → owns p o ≡ false
owned_not p (Shared g) e = refl
owned_not p (Local owner a) e = e

-- what a shorter path owns a longer one does not
above_apart : (p q : Path) (o : Object) → length q < length p → IsOf q o → IsApart p o
above_apart p q o low t =
    subst (IsApart p) (sym t.is) (false_from_ne_true (same_path p t.owner) (λ e.
    let same : length p ≡ length t.owner = ap (λ (x : Path). length x) (same_path_is p t.owner e) in
    let long = under_long t.owner q t.above in
    omega (arith, low, same, long)))

-- ---- a cell of the segment

pub record IsAt (a : ℤ) (low high : ℕ) : Type 0 where
  pub place : ℕ
  pub is : a ≡ pos place
  pub after : low ≤ place
  pub before : place < high

pub record LiesOver (l k : Layout) (start end : ℕ) : Type 0 where
  pub kept : (c : Cell) → IsIn l c → IsIn k c
  pub same : (c : Cell) → IsIn l c → address k c ≡ address l c
  pub own : (c : Cell) → (IsIn l c → ⊥) → IsIn k c → IsAt (address k c) start end
  pub apart : AreApart k

pub in_or_not : (l : Layout) (c : Cell) → IsIn l c ⊎ (IsIn l c → ⊥)
in_or_not l c = elim (leb_tells (suc c.index) (l.cells c.object)) [
  | inl q ↦ inl (let r = q.1 in omega (arith, r))
  | inr q ↦ inr (λ h. let r = q.1 in omega (arith, r, h))
]

-- ---- one more frame

module _ (l k : Layout) (s : Segment) (home : ℕ) (p : Path) (sizes : List ℕ) (over : LiesOver l k s.start home) (outside : (c : Cell) → IsIn l c → IsOutside s (address l c)) (none : OwnsNone k p)
    (low : s.start ≤ home) (room : home + sum sizes ≤ s.start + s.count) (small : s.start + s.count < 9223372036854775808)
  where
    abbrev more : Layout
    more = with_allocas p sizes home k

    away : (c : Cell) → IsIn k c → IsApart p c.object
    away c h = apart_of p c.object (none c h)

    abbrev Own : Cell → Type 0
    Own c = IsOwn p sizes home (more.at c.object) c.object c.index

    abbrev Older : Cell → Type 0
    Older c = IsOlder k (more.at c.object) c.object c.index

    own_address : (c : Cell) (t : Own c) → address more c ≡ pos (home + (start_in sizes t.alloca + c.index))
    own_address c t =
        let below = start_below sizes t.alloca c.index t.within in
        let fits : home + (start_in sizes t.alloca + c.index) < 9223372036854775808 = omega (arith, below, room, small) in
        let regroup : pos (home + start_in sizes t.alloca) +ℤ pos c.index ≡ pos (home + (start_in sizes t.alloca + c.index)) = omega (arith, ints) in
        ap (λ (x : ℤ). wrapped Bits64 (x +ℤ pos c.index)) t.at_is ∙ ap (wrapped Bits64) regroup ∙ int_wrap_fits w64 (pos (home + (start_in sizes t.alloca + c.index))) (record { sfits = fits })

    own_at : (c : Cell) → Own c → IsAt (address more c) home (home + sum sizes)
    own_at c t =
        let below = start_below sizes t.alloca c.index t.within in
        record {
          place = home + (start_in sizes t.alloca + c.index);
          is = own_address c t;
          after = omega arith;
          before = omega (arith, below);
        }

    same_k : (c : Cell) → IsIn k c → address more c ≡ address k c
    same_k c h = address_apart p sizes home k c (away c h)

    -- the machine's cells lie outside of the segment, those of frames below before the home
    not_own : (c : Cell) → IsIn k c → (n : ℕ) → home ≤ n → n < home + sum sizes → address k c ≡ pos n → ⊥
    not_own c h n after before e = elim (in_or_not l c) [
      | inl q ↦
          let behind : s.start + (n - s.start) ≡ n = omega (arith, after, low) in
          outside c q (n - s.start) (omega (arith, before, room, after, low)) (sym (over.same c q) ∙ e ∙ ap pos (sym behind))
      | inr q ↦ let r = over.own c q h in let same = same_pos r.place n (sym r.is ∙ e) in let b = r.before in omega (arith, same, b, after)
    ]

    apart_cells : (c d : Cell) → Own c ⊎ Older c → Own d ⊎ Older d → address more c ≡ address more d → c ≡ d
    apart_cells c d (inl t) (inl u) e =
        let places : home + (start_in sizes t.alloca + c.index) ≡ home + (start_in sizes u.alloca + d.index) = same_pos _ _ (sym (own_address c t) ∙ e ∙ own_address d u) in
        let less : start_in sizes t.alloca + c.index ≡ start_in sizes u.alloca + d.index = omega (arith, places) in
        let same = same_place sizes t.alloca u.alloca c.index d.index t.within u.within less in
        cell_is c d (t.object ∙ ap (λ (n : ℕ). Local p n) same.0 ∙ sym u.object) same.1
    apart_cells c d (inl t) (inr u) e = let x = own_at c t in absurd (not_own d u.within x.place x.after x.before (sym (same_k d u.within) ∙ sym e ∙ x.is))
    apart_cells c d (inr t) (inl u) e = let x = own_at d u in absurd (not_own c t.within x.place x.after x.before (sym (same_k c t.within) ∙ e ∙ x.is))
    apart_cells c d (inr t) (inr u) e = over.apart c d t.within u.within (sym (same_k c t.within) ∙ e ∙ same_k d u.within)

    pub one_more : LiesOver l more s.start (home + sum sizes)
    one_more = record {
      kept = λ c h. in_apart p sizes home k c (away c (over.kept c h)) (over.kept c h);
      same = λ c h. same_k c (over.kept c h) ∙ over.same c h;
      own = λ c out h. elim (either_one p sizes home k c.object c.index h) [
        | inl t ↦ let x = own_at c t in let a = x.after in record { place = x.place; is = x.is; after = omega (arith, a, low); before = x.before }
        | inr t ↦ let x = over.own c out t.within in let b = x.before in record { place = x.place; is = same_k c t.within ∙ x.is; after = x.after; before = omega (arith, b) }
      ];
      apart = λ c d h i e. apart_cells c d (either_one p sizes home k c.object c.index h) (either_one p sizes home k d.object d.index i) e;
    }

-- ---- all frames

module _ (l : Layout) (prog : Program) (s : Segment) (b : Placed) (apart : AreApart l) (outside : (c : Cell) → IsIn l c → IsOutside s (address l c))
    (fresh : (x : Path) → IsToCome b x → OwnsNone l x) (small : s.start + s.count < 9223372036854775808)
  where
    -- a new path owns nothing of the layout of the frame below it
    pub owns_none : (g : Placed) (rest : List Placed) → Rises b g rest → (x : Path) → IsToCome b x → length g.path < length x → OwnsNone (layout_above l prog s.start g rest) x
    owns_none g rest r x new long c h = elim (owner_of l prog s.start b g rest r c h) [
      | inl q ↦ fresh x new c q
      | inr q ↦ owned_not x c.object (above_apart x g.path c.object long q)
    ]

    role_low : (role : Role) (home room : ℕ) → s.start ≤ home → s.start ≤ for_body role (home + room) home
    role_low Body home room h = omega (arith, h)
    role_low (Child region continuation) home room h = h

    pub low_end : (t : Placed) (below : List Placed) → s.start ≤ end_above prog s.start t below
    low_end t [] = omega arith
    low_end t (g ∷ rest) = role_low t.frame.role (end_above prog s.start g rest) (sum (alloca_sizes prog t.frame.function)) (low_end g rest)

    role_room : (role : Role) (home sizes end : ℕ) → for_body role (home + sizes) home ≤ end → home ≤ end
    role_room Body home sizes end h = omega (arith, h)
    role_room (Child region continuation) home sizes end h = h

    pub room_below : (t g : Placed) (rest : List Placed) (end : ℕ) → end_above prog s.start t (g ∷ rest) ≤ end → end_above prog s.start g rest ≤ end
    room_below t g rest end h = role_room t.frame.role (end_above prog s.start g rest) (sum (alloca_sizes prog t.frame.function)) end h

    role_over : (role : Role) (p : Path) (sizes : List ℕ) (home : ℕ) (k : Layout) → s.start ≤ home → OwnsNone k p → for_body role (home + sum sizes) home ≤ s.start + s.count → LiesOver l k s.start home → LiesOver l (for_body role (with_allocas p sizes home k) k) s.start (for_body role (home + sum sizes) home)
    role_over Body p sizes home k low none room over = one_more l k s home p sizes over outside none low room small
    role_over (Child region continuation) p sizes home k low none room over = over

    pub lies_over : (t : Placed) (below : List Placed) → Rises b t below → end_above prog s.start t below ≤ s.start + s.count → LiesOver l (layout_above l prog s.start t below) s.start (end_above prog s.start t below)
    lies_over t [] r room = record { kept = λ c h. h; same = λ c h. refl; own = λ c out h. absurd (out h); apart = apart }
    lies_over t (g ∷ rest) (k, is, next, new, more) room =
        let long : length t.path ≡ suc (length g.path) = ap (λ (x : Path). length x) is in
        role_over t.frame.role t.path (alloca_sizes prog t.frame.function) (end_above prog s.start g rest) (layout_above l prog s.start g rest) (low_end g rest)
        (owns_none g rest more t.path (new_to_come b t.path new) (omega (arith, long))) room
        (lies_over g rest more (room_below t g rest (s.start + s.count) room))

-- ---- frames of the same role and function have the same cells

module _ (l : Layout) (prog : Program) (start : ℕ) where
  pub same_layout : (t u : Placed) (below : List Placed) → u.path ≡ t.path → u.frame.role ≡ t.frame.role → u.frame.function ≡ t.frame.function → layout_above l prog start u below ≡ layout_above l prog start t below
  same_layout t u [] p r f = refl
  same_layout t u (g ∷ rest) p r f = λ i. for_body (r i) (with_allocas (p i) (alloca_sizes prog (f i)) (end_above prog start g rest) (layout_above l prog start g rest)) (layout_above l prog start g rest)

  pub same_end : (t u : Placed) (below : List Placed) → u.frame.role ≡ t.frame.role → u.frame.function ≡ t.frame.function → end_above prog start u below ≡ end_above prog start t below
  same_end t u [] r f = refl
  same_end t u (g ∷ rest) r f = λ i. for_body (r i) (end_above prog start g rest + sum (alloca_sizes prog (f i))) (end_above prog start g rest)
