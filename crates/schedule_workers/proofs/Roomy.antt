-- Room for a frame's allocas: a run with more cells shows what it showed, and a new block lies beside all others.
use Rattle.std.proofs.Common.{◌≡◌, ◌≢◌, ℕ, zero, suc, ◌+◌, ◌<◌, ◌≤◌, List, [], ◌∷◌, ◌++◌, length, replicate, Some, true, inl, inr, ◌⊎◌, sym, ap, ◌∙◌, subst, arith, ℤ, pos, negsuc, Vec, Global}
use Rattle.std.specs.Prelude.{IsTrue, nat_lt, map, sum, slice_get}
use Rattle.std.proofs.lemmas.Bool.Decides.{nat_tests}
use Rattle.std.proofs.lemmas.List.{length-append}
use Rattle.std.proofs.lemmas.Option.{same_Some}
use Rattle.semantics.specs.Events.{Machine}
use Rattle.program.specs.declared.function.Global.{Global as Shared}
use Rattle.program.specs.declared.function.Program.{Program}
use Rattle.frame_engine.specs.declared.activation.Places.{Places}
use Rattle.frame_engine.specs.Flat.{cell_in, is_cell}
use Rattle.frame_engine.specs.Shows.{ShowsCells, address}
use Rattle.schedule_workers.specs.declared.run.Block.{Block}
use Rattle.schedule_workers.specs.declared.run.Run.{Run}
use Rattle.schedule_workers.specs.Layouts.{layout_of}
use Rattle.schedule_workers.specs.Rooms.{IsRoom, IsRoomier, empty_at}
use Rattle.schedule_workers.specs.RunShown.{AreBeside, BlocksStand, IsPlaced, IsShown}

-- ---- more items at the end of a list

pub get_more : {X : Type 0} (xs ys : List X) (n : ℕ) (x : X) → slice_get xs n ≡ Some x → slice_get (xs ++ ys) n ≡ Some x
get_more [] ys n x e = absurd cc
get_more (y ∷ xs) ys zero x e = e
get_more (y ∷ xs) ys (suc n) x e = get_more xs ys n x e

get_replicate : {X : Type 0} (k : ℕ) (y : X) (n : ℕ) (x : X) → slice_get (replicate k y) n ≡ Some x → x ≡ y
get_replicate zero y n x e = absurd cc
get_replicate (suc k) y zero x e = sym (same_Some y x e)
get_replicate (suc k) y (suc n) x e = get_replicate k y n x e

-- an item is one of before, or what was added
pub get_either : {X : Type 0} (xs : List X) (k : ℕ) (y : X) (n : ℕ) (x : X) → slice_get (xs ++ replicate k y) n ≡ Some x → (slice_get xs n ≡ Some x) ⊎ (x ≡ y)
get_either [] k y n x e = inr (get_replicate k y n x e)
get_either (z ∷ xs) k y zero x e = inl e
get_either (z ∷ xs) k y (suc n) x e = get_either xs k y n x e

pub cell_more : (xs ys : List ℤ) (a z : ℤ) → cell_in xs a ≡ Some z → cell_in (xs ++ ys) a ≡ Some z
cell_more xs ys (pos n) z e = get_more xs ys n z e
cell_more xs ys (negsuc n) z e = absurd cc

lower : (n k : ℕ) → IsTrue (nat_lt n k) → n < k
lower n k t = let e : nat_lt n k ≡ true = t in grind (arith, nat_tests, e)

pub is_cell_at : (items : List ℤ) (n : ℕ) → n < length items → IsTrue (is_cell items (pos n))
is_cell_at items n h = let t : nat_lt n (length items) ≡ true = grind (arith, nat_tests) in t

reach_more : (xs ys : List ℤ) (a : ℤ) → IsTrue (is_cell xs a) → IsTrue (is_cell (xs ++ ys) a)
reach_more xs ys (pos n) t =
    let low = lower n (length xs) t in
    let long = length-append xs ys in
    is_cell_at (xs ++ ys) n (omega (arith, low, long))
reach_more xs ys (negsuc n) t = absurd cc

-- ---- the run with more room

module _ (prog : Program) (old new : Run) (more : IsRoomier old new) (stand : BlocksStand prog old) where
  end_same : new.end ≡ old.end
  end_same = ap (λ (x : Run). x.end) more.only

  was : (s : ℕ) (b : Block) → slice_get new.blocks.items s ≡ Some b → (slice_get old.blocks.items s ≡ Some b) ⊎ (b ≡ empty_at old.end)
  was s b is = get_either old.blocks.items more.blocks.0 (empty_at old.end) s b (ap (λ (xs : List Block). slice_get xs s) (sym more.blocks.1) ∙ is)

  below_end : (s : ℕ) (b : Block) → slice_get new.blocks.items s ≡ Some b → b.start + b.cells ≤ old.end
  below_end s b is = elim (was s b is) [
    | inl e ↦ stand.below s b e
    | inr e ↦ let at = ap (λ (x : Block). x.start) e in let none = ap (λ (x : Block). x.cells) e in omega (arith, at, none)
  ]

  after_globals : (s : ℕ) (b : Block) → slice_get new.blocks.items s ≡ Some b → sum (map (λ (g : Shared). g.cells) prog.globals) ≤ b.start
  after_globals s b is = elim (was s b is) [
    | inl e ↦ stand.after s b e
    | inr e ↦ let at = ap (λ (x : Block). x.start) e in let low = stand.globals in omega (arith, at, low)
  ]

  beside_all : (s t : ℕ) (a b : Block) → slice_get new.blocks.items s ≡ Some a → slice_get new.blocks.items t ≡ Some b → s ≢ t → AreBeside a b
  beside_all s t a b is_a is_b away = elim (was s a is_a) [
    | inl e ↦ elim (was t b is_b) [
      | inl f ↦ stand.beside s t a b e f away
      | inr f ↦ let low = below_end s a is_a in let at = ap (λ (x : Block). x.start) f in inl (omega (arith, low, at))
    ]
    | inr e ↦ let low = below_end t b is_b in let at = ap (λ (x : Block). x.start) e in inr (omega (arith, low, at))
  ]

  placed_more : (s : ℕ) (b : Block) → IsPlaced old.blocks.items old.lent s b → IsPlaced new.blocks.items old.lent s b
  placed_more s b (inl e) = inl (subst (λ (xs : List Block). slice_get xs s ≡ Some b) (sym more.blocks.1) (get_more old.blocks.items (replicate more.blocks.0 (empty_at old.end)) s b e))
  placed_more s b (inr w) = inr w

  beside_lent : (s : ℕ) (b : Block) → slice_get new.blocks.items s ≡ Some b → AreBeside b old.lent
  beside_lent s b is = elim (was s b is) [
    | inl e ↦ stand.lent_beside s b e
    | inr e ↦ let at = ap (λ (x : Block). x.start) e in let low = stand.lent_below in inr (omega (arith, at, low))
  ]

module _ (prog : Program) (places : Places) (old new : Run) (more : IsRoomier old new) (m : Machine) (shown : IsShown prog places m old) where
  abbrev pub roomy : Run
  roomy = record old { cells = new.cells; blocks = new.blocks }

  cells_shown : ShowsCells (layout_of prog places old.cactus m.core) (is_cell new.cells.cells.items) (λ a z. cell_in new.cells.cells.items a ≡ Some z) m.core.memory
  cells_shown =
      let c = shown.shows.cells in
      record {
        values = λ x z v. subst (λ (xs : List ℤ). cell_in xs (address (layout_of prog places old.cactus m.core) x) ≡ Some z) (sym more.cells.1)
            (cell_more old.cells.cells.items (replicate more.cells.0 (pos 0)) (address (layout_of prog places old.cactus m.core) x) z (c.values x z v));
        inside = c.inside;
        reached = λ x h. subst (λ (xs : List ℤ). IsTrue (is_cell xs (address (layout_of prog places old.cactus m.core) x))) (sym more.cells.1)
            (reach_more old.cells.cells.items (replicate more.cells.0 (pos 0)) (address (layout_of prog places old.cactus m.core) x) (c.reached x h));
        apart = c.apart;
      }

  pub roomy_shown : IsShown prog places m roomy
  roomy_shown =
      let s = shown.shows in
      let a = shown.agrees in
      let b = a.blocks in
      record {
        shows = record { frames = s.frames; cells = cells_shown; done = s.done; peak = s.peak; result = s.result; hands = s.hands; trapped = s.trapped };
        agrees = record {
          tree = a.tree;
          held = a.held;
          runners = a.runners;
          nodes = a.nodes;
          counts = a.counts;
          made = a.made;
          blocks = record {
            owned = λ s n is body some.
                let own = b.owned s n is body some in
                (own.0, placed_more prog old new more b s own.0 own.1, own.2);
            below = below_end prog old new more b;
            globals = b.globals;
            after = after_globals prog old new more b;
            beside = beside_all prog old new more b;
            lent_after = b.lent_after;
            lent_below = b.lent_below;
            lent_beside = beside_lent prog old new more b;
          };
        };
      }

  pub room_shown : IsShown prog places m new
  room_shown = subst (λ (x : Run). IsShown prog places m x) (sym more.only) roomy_shown

-- ---- the block of a frame that begins

module _ (prog : Program) (k : Run) (stand : BlocksStand prog k) (slot cells : ℕ) (b : Block) (room : IsRoom k slot cells b) where
  pub new_after : sum (map (λ (g : Shared). g.cells) prog.globals) ≤ b.start
  new_after = elim room.is [ inl e ↦ stand.after slot b e | inr e ↦ let low = stand.globals in omega (arith, low, e) ]

  pub new_beside : (s : ℕ) (x : Block) → slice_get k.blocks.items s ≡ Some x → s ≢ slot → AreBeside b x
  new_beside s x is away = elim room.is [
    | inl e ↦ stand.beside slot s b x e is (λ h. away (sym h))
    | inr e ↦ let low = stand.below s x is in inr (omega (arith, low, e))
  ]

  -- nor in what is lent
  pub lent_side : AreBeside b k.lent
  lent_side = elim room.is [ inl e ↦ stand.lent_beside slot b e | inr e ↦ let low = stand.lent_below in inr (omega (arith, low, e)) ]

  pub placed_beside : (s : ℕ) (x : Block) → IsPlaced k.blocks.items k.lent s x → s ≢ slot → AreBeside b x
  placed_beside s x (inl e) away = new_beside s x e away
  placed_beside s x (inr w) away = elim lent_side [
    | inl h ↦ let from = w.0 in inl (omega (arith, h, from))
    | inr h ↦ let to = w.1 in inr (omega (arith, h, to))
  ]

pub vec_small : (v : Vec ℤ Global) → length v.items < 9223372036854775808
vec_small v = let a = v.ok.0 in let b = v.ok.1 in let c = v.small in omega (arith, a, b, c)
