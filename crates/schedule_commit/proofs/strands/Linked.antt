-- The frames above the base, as they are made ready for the cactus.
use Rattle.std.proofs.Common.{◌≡◌, ◌⊎◌, inl, inr, ◌<◌, ◌+◌, ◌-◌, ℕ, zero, suc, List, [], ◌∷◌, ◌++◌, length, map, take, Option, Some, None, refl, sym, ap, ◌∙◌, subst, arith, append_assoc, Box, Global}
use Rattle.std.specs.Prelude.{slice_get}
use Rattle.std.proofs.lemmas.List.{length-append, length-map}
use Rattle.std.proofs.lemmas.Option.{same_Some}
use Rattle.linear.specs.declared.form.RegisterId.{RegisterId}
use Rattle.program.specs.declared.identifier.BlockId.{BlockId}
use Rattle.frame.specs.declared.frame.Role.TheVariants as role
use Rattle.cactus.specs.declared.node.Link.{Link}
use Rattle.frame_engine.specs.declared.activation.Frame.{Frame}
use Rattle.schedule_commit.specs.frame_strand.Standing.{IsCopy}
use Rattle.schedule_workers.specs.declared.activation.Activation.{Activation}
use Rattle.schedule_workers.specs.Copying.{IsFrameCopy}
use Rattle.schedule_workers.specs.Scheduling.{counted_in}
use Rattle.schedule_commit.specs.strands.Linking.{AreLinks, IsActivation, IsFrameOf, IsLink, RegionsFit, counted_above, counted_of, frames_of, path_of, runner_below}
use Rattle.strand.specs.serial_stack.StackShown.{unboxed}
use Rattle.strand.specs.declared.strand.Strand.{Strand}

-- ---- lists

abbrev pub head_of : List Frame → Option Frame
head_of [] = None
head_of (f ∷ fs) = Some f

take_next : {X : Type 0} (xs : List X) (n : ℕ) (x : X) → slice_get xs n ≡ Some x → take (suc n) xs ≡ take n xs ++ x ∷ []
take_next [] n x e = absurd cc
take_next (y ∷ xs) zero x e = let same : y ≡ x = same_Some y x e in ap (λ z. z ∷ []) same
take_next (y ∷ xs) (suc n) x e = ap (λ zs. y ∷ zs) (take_next xs n x e)

map_last : {X Y : Type 0} (f : X → Y) (xs : List X) (x : X) → map f (xs ++ x ∷ []) ≡ map f xs ++ f x ∷ []
map_last f [] x = refl
map_last f (y ∷ xs) x = ap (λ zs. f y ∷ zs) (map_last f xs x)

append_none : (xs : List ℕ) → xs ++ [] ≡ xs
append_none [] = refl
append_none (z ∷ xs) = ap (λ (zs : List ℕ). z ∷ zs) (append_none xs)

last_or : {X : Type 0} (xs : List X) (y : X) (i : ℕ) (x : X) → slice_get (xs ++ y ∷ []) i ≡ Some x → (slice_get xs i ≡ Some x) ⊎ ((i ≡ length xs) × (y ≡ x))
last_or [] y zero x e = inr (refl, same_Some y x e)
last_or [] y (suc i) x e = absurd cc
last_or (z ∷ xs) y zero x e = inl e
last_or (z ∷ xs) y (suc i) x e = elim (last_or xs y i x e) [ inl h ↦ inl h | inr h ↦ inr (ap suc h.0, h.1) ]

-- ---- frames in boxes

pub length-unboxed : (boxes : List (Box Frame Global)) → length (unboxed boxes) ≡ length boxes
length-unboxed boxes = length-map boxes (λ (b : Box Frame Global). b.value)

pub box_at : (boxes : List (Box Frame Global)) (f : Frame) (n : ℕ) (b : Box Frame Global) → slice_get boxes n ≡ Some b → slice_get (unboxed boxes ++ f ∷ []) n ≡ Some b.value
box_at [] f n b e = absurd cc
box_at (c ∷ boxes) f zero b e = ap (λ (x : Box Frame Global). Some x.value) (same_Some c b e)
box_at (c ∷ boxes) f (suc n) b e = box_at boxes f n b e

pub top_at : (boxes : List (Box Frame Global)) (f : Frame) → slice_get (unboxed boxes ++ f ∷ []) (length boxes) ≡ Some f
top_at [] f = refl
top_at (c ∷ boxes) f = top_at boxes f

-- ---- one frame

pub path_next : (x : Strand) (n : ℕ) (f : Frame) → slice_get (frames_of x) n ≡ Some f → path_of x (suc n) ≡ path_of x n ++ (f.made - 1) ∷ []
path_next x n f at =
    let number : Frame → ℕ = λ (g : Frame). g.made - 1 in
    ap (λ (fs : List Frame). x.base.path.items ++ map number fs) (take_next (frames_of x) n f at)
    ∙ (ap (λ (ns : List ℕ). x.base.path.items ++ ns) (map_last number (take n (frames_of x)) f)
    ∙ sym (append_assoc x.base.path.items (map number (take n (frames_of x))) ((f.made - 1) ∷ [])))

same_frame : (f h : Frame) → IsFrameCopy f h → IsCopy f h
same_frame f h copied =
    record {
      function = ap (λ (g : Frame). g.function) copied.only;
      place = ap (λ (g : Frame). g.place) copied.only;
      registers = copied.registers;
      home = ap (λ (g : Frame). g.home) copied.only;
      made = ap (λ (g : Frame). g.made) copied.only;
      waits = ap (λ (g : Frame). g.waits) copied.only;
      role = ap (λ (g : Frame). g.role) copied.only;
      depth = ap (λ (g : Frame). g.depth) copied.only;
    }

module _ (worker : ℕ) (x : Strand) (n : ℕ) (f : Frame) (at : slice_get (frames_of x) n ≡ Some f) (a : Activation) (h : Frame) (copied : IsFrameCopy f h)
    (is : a ≡ record { frame = h; counts = a.counts; callee = None; runner = Some worker; stalled_in = None })
    (none : (region : ℕ) → counted_in a region ≡ 0) (as_many : length a.counts.items ≡ length h.registers.items) where
  copy : IsCopy f a.frame
  copy = subst (λ (g : Frame). IsCopy f g) (sym (ap (λ (b : Activation). b.frame) is)) (same_frame f h copied)

  long : length a.counts.items ≡ length f.registers.items
  long = as_many ∙ ap (λ zs. length zs) copied.registers

  pub top_frame : slice_get (frames_of x) (suc n) ≡ None → IsFrameOf worker x n a
  top_frame last = record {
    frame = f;
    there = at;
    is = record {
      copy = copy;
      callee = ap (λ (b : Activation). b.callee) is;
      runner = ap (λ (b : Activation). b.runner) is ∙ ap (runner_below worker) (sym last);
      counts = λ region. none region ∙ ap (λ o. counted_above o region) (sym last);
      as_many = long;
    };
  }

  pub lower_frame : (g : Frame) → slice_get (frames_of x) (suc n) ≡ Some g → (b : Activation) → b ≡ record a { runner = None; counts = b.counts } → length b.counts.items ≡ length a.counts.items →
      ((region : ℕ) → counted_in b region ≡ counted_of g.role region + counted_in a region) → IsFrameOf worker x n b
  lower_frame g next b only same counts = record {
    frame = f;
    there = at;
    is = record {
      copy = subst (λ (e : Frame). IsCopy f e) (ap (λ (c : Activation). c.frame) (sym only)) copy;
      callee = ap (λ (c : Activation). c.callee) only ∙ ap (λ (c : Activation). c.callee) is;
      runner = ap (λ (c : Activation). c.runner) only ∙ ap (runner_below worker) (sym next);
      counts = λ region. (let z = none region in let s = counts region in let e : counted_in b region ≡ counted_of g.role region = omega (arith, z, s) in e ∙ ap (λ o. counted_above o region) (sym next));
      as_many = same ∙ long;
    };
  }

  pub region_there : RegionsFit x → (g : Frame) → slice_get (frames_of x) (suc n) ≡ Some g → (r : RegisterId) (b : BlockId) → g.role ≡ role.Child r b → r.0 < length a.counts.items
  region_there fit g next r b is_child = let low = fit n f g r b at next is_child in let l = long in omega (arith, low, l)

-- ---- all of them

-- so many are ready
pub record AreReady (worker : ℕ) (x : Strand) (n : ℕ) (links : List (Link Activation)) : Type 0 where
  pub many : length links ≡ n
  pub each : (i : ℕ) (l : Link Activation) → slice_get links i ≡ Some l → IsLink worker x (suc i) l

pub none_ready : (worker : ℕ) (x : Strand) → AreReady worker x 0 []
none_ready worker x = record { many = refl; each = λ i l e. absurd cc }

pub one_ready : (worker : ℕ) (x : Strand) (n : ℕ) (links : List (Link Activation)) (l : Link Activation) → AreReady worker x n links → IsLink worker x (suc n) l → AreReady worker x (suc n) (links ++ l ∷ [])
one_ready worker x n links l ready here =
    let m = ready.many in
    let long = length-append links (l ∷ []) in
    record {
      many = omega (arith, m, long);
      each = λ i k e. elim (last_or links l i k e) [
        | inl h ↦ ready.each i k h
        | inr h ↦ subst (λ (j : ℕ). IsLink worker x (suc j) k) (sym (h.0 ∙ m)) (subst (λ (z : Link Activation). IsLink worker x (suc n) z) h.1 here)
      ];
    }

there_at : {X : Type 0} (xs : List X) (k : ℕ) → k < length xs → (x : X) × (slice_get xs k ≡ Some x)
there_at [] k within = absurd (omega (arith, within))
there_at (x ∷ xs) zero within = (x, refl)
there_at (x ∷ xs) (suc k) within = there_at xs k (omega (arith, within))

-- the next one stands on the uppermost of them, or on the base
pub path_ready : (worker : ℕ) (x : Strand) (n : ℕ) (links : List (Link Activation)) (numbers : List ℕ) → AreReady worker x n links → (length links ≡ 0 → numbers ≡ x.base.path.items) →
    ((l : Link Activation) → slice_get links (length links - 1) ≡ Some l → numbers ≡ l.path.numbers) → numbers ≡ path_of x n
path_ready worker x zero links numbers ready base uppermost = base ready.many ∙ sym (append_none x.base.path.items)
path_ready worker x (suc k) links numbers ready base uppermost =
    let m = ready.many in
    let (l, is) = there_at links k (omega (arith, m)) in
    let last : length links - 1 ≡ k = omega (arith, m) in
    uppermost l (ap (slice_get links) last ∙ is) ∙ (ready.each k l is).path

pub ready_next : (worker : ℕ) (x : Strand) (n : ℕ) (f : Frame) → slice_get (frames_of x) n ≡ Some f → (numbers : List ℕ) (number : ℕ) (links more : List (Link Activation)) (l : Link Activation) →
    numbers ≡ path_of x n → AreReady worker x n links → number ≡ f.made - 1 → l.path.numbers ≡ numbers ++ number ∷ [] → IsFrameOf worker x (n + 1) l.frame →
    more ≡ links ++ l ∷ [] → AreReady worker x (n + 1) more
ready_next worker x n f there numbers number links more l was ready made path frame is =
    let one : suc n ≡ n + 1 = omega arith in
    let next : numbers ++ number ∷ [] ≡ path_of x (suc n) = ap (λ (k : ℕ). numbers ++ k ∷ []) made ∙ (ap (λ (ns : List ℕ). ns ++ (f.made - 1) ∷ []) was ∙ sym (path_next x n f there)) in
    let here : IsLink worker x (suc n) l = record { path = path ∙ next; frame = subst (λ (k : ℕ). IsFrameOf worker x k l.frame) (sym one) frame } in
    subst (λ (k : ℕ). AreReady worker x k more) one (subst (λ (ls : List (Link Activation)). AreReady worker x (suc n) ls) (sym is) (one_ready worker x n links l ready here))

-- ---- as they stand one on the other

-- the frames above this one, the lowest first, with what the scheduler is to know of them
abbrev pub AreLinked : ℕ → List ℕ → Frame → List Frame → List (Link Activation) → Type 0
AreLinked worker path f [] [] = Unit {0}
AreLinked worker path f [] (l ∷ links) = ⊥
AreLinked worker path f (h ∷ hs) [] = ⊥
AreLinked worker path f (h ∷ hs) (l ∷ links) =
    (l.path.numbers ≡ path ++ (f.made - 1) ∷ []) × IsActivation worker h (head_of hs) l.frame × AreLinked worker l.path.numbers h hs links

from_index : (worker : ℕ) (x : Strand) (hs : List Frame) (links : List (Link Activation)) (n : ℕ) (f : Frame) → ((i : ℕ) → slice_get (frames_of x) (n + i) ≡ slice_get (f ∷ hs) i) → length links ≡ length hs →
    ((i : ℕ) (l : Link Activation) → slice_get links i ≡ Some l → IsLink worker x (suc (n + i)) l) → AreLinked worker (path_of x n) f hs links
from_index worker x [] [] n f there many each = tt
from_index worker x [] (l ∷ links) n f there many each = absurd (omega (arith, many))
from_index worker x (h ∷ hs) [] n f there many each = absurd (omega (arith, many))
from_index worker x (h ∷ hs) (l ∷ links) n f there many each =
    let none : n + 0 ≡ n = omega arith in
    let one : n + 1 ≡ suc n = omega arith in
    let two : n + 2 ≡ suc (suc n) = omega arith in
    let here : IsLink worker x (suc n) l = subst (λ (j : ℕ). IsLink worker x (suc j) l) none (each 0 l refl) in
    let own : slice_get (frames_of x) n ≡ Some f = subst (λ (j : ℕ). slice_get (frames_of x) j ≡ Some f) none (there 0) in
    let above : slice_get (frames_of x) (suc n) ≡ Some h = subst (λ (j : ℕ). slice_get (frames_of x) j ≡ Some h) one (there 1) in
    let next : slice_get (frames_of x) (suc (suc n)) ≡ head_of hs = subst (λ (j : ℕ). slice_get (frames_of x) j ≡ head_of hs) two (there 2 ∙ head_get hs) in
    let same : here.frame.frame ≡ h = same_Some here.frame.frame h (sym here.frame.there ∙ above) in
    let shift : (i : ℕ) → n + suc i ≡ suc n + i = λ i. omega arith in (
      here.path ∙ path_next x n f own,
      subst (λ (o : Option Frame). IsActivation worker h o l.frame) next (subst (λ (g : Frame). IsActivation worker g (slice_get (frames_of x) (suc (suc n))) l.frame) same here.frame.is),
      subst (λ (p : List ℕ). AreLinked worker p h hs links) (sym here.path) (from_index worker x hs links (suc n) h
          (λ i. subst (λ (j : ℕ). slice_get (frames_of x) j ≡ slice_get (h ∷ hs) i) (shift i) (there (suc i)))
          (omega (arith, many))
          (λ i k e. subst (λ (j : ℕ). IsLink worker x (suc j) k) (shift i) (each (suc i) k e))),
    )
  where
    head_get : (fs : List Frame) → slice_get fs 0 ≡ head_of fs
    head_get [] = refl
    head_get (g ∷ fs) = refl

pub are_linked : (worker : ℕ) (x : Strand) (links : List (Link Activation)) → AreLinks worker x links → (f : Frame) (hs : List Frame) → frames_of x ≡ f ∷ hs → AreLinked worker x.base.path.items f hs links
are_linked worker x links are f hs all =
    let many = are.many in
    let long = length-append (unboxed x.below.items) (x.top.value ∷ []) in
    let boxes = length-unboxed x.below.items in
    let count : length (frames_of x) ≡ suc (length hs) = ap (λ (fs : List Frame). length fs) all in
    let zero_more : (i : ℕ) → 0 + i ≡ i = λ i. omega arith in
    subst (λ (p : List ℕ). AreLinked worker p f hs links) (append_none x.base.path.items)
    (from_index worker x hs links 0 f
    (λ i. ap (slice_get (frames_of x)) (zero_more i) ∙ ap (λ (fs : List Frame). slice_get fs i) all)
    (omega (arith, many, long, boxes, count))
    (λ i l e. subst (λ (j : ℕ). IsLink worker x (suc j) l) (sym (zero_more i)) (are.each i l e)))
