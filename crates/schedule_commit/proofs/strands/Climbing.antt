-- The frames of a strand from the base up, as they stand in the machine that absorbed it, and the code's that show them.
use Rattle.std.proofs.Common.{◌≡◌, ◌≢◌, ◌∙◌, ◌+◌, ◌-◌, ◌≤◌, ◌<◌, ℕ, suc, List, [], ◌∷◌, ◌++◌, length, reverse, Some, None, refl, sym, ap, subst, arith, append_assoc, ℤ, pos, ◌+ℤ◌}
use Rattle.std.specs.Prelude.{⊤, slice_get, sum}
use Rattle.std.proofs.lemmas.Int.{ints}
use Rattle.std.proofs.lemmas.List.{reverse-append, reverse-reverse}
use Rattle.semantics.specs.Paths.{Path}
use Rattle.semantics.specs.Below.{Under}
use Rattle.semantics.specs.Cells.{Object, Shared, Local}
use Rattle.semantics.specs.Frames.{Frame as Shown, Role, Body, Child}
use Rattle.semantics.specs.State.{State}
use Rattle.semantics.specs.Counts.{count_of}
use Rattle.semantics.specs.Events.{Machine}
use Rattle.semantics.proofs.Actions.{same_path_itself}
use Rattle.semantics.proofs.Places.{same_path_apart}
use Rattle.program.specs.declared.function.Program.{Program}
use Rattle.frame.specs.declared.frame.Role.{Role as Kind}
use Rattle.frame.specs.declared.frame.Role.TheVariants as role
use Rattle.frame.specs.declared.frame.Wait.{Wait}
use Rattle.frame.specs.declared.frame.Wait.TheVariants as wait
use Rattle.frame.specs.Reading.{role_of, wait_of}
use Rattle.frame_engine.specs.declared.activation.Frame.{Frame}
use Rattle.frame_engine.specs.declared.activation.Places.{Places}
use Rattle.frame_engine.specs.Activation.{FrameFits, ShowsFrame, allocas_of}
use Rattle.frame_engine.specs.Shows.{Layout}
use Rattle.strand.specs.serial_stack.Layouts.{alloca_sizes, for_body, offset_in, with_allocas}
use Rattle.strand.specs.serial_stack.StackShown as serial
use Rattle.strand.specs.serial_stack.StackShown.{HasTaker, unboxed}
use Rattle.schedule_workers.specs.Going.{IsAbove, PointsUp, TextFits}
use Rattle.schedule_workers.specs.Layouts.{number_in, own_at}
use Rattle.schedule_workers.specs.RunShown.{cells_in}
use Rattle.schedule_workers.proofs.Pointing.{IsAlike, IsApart, shown_on}
use Rattle.laws_strands.specs.stacks.Strands as strands
use Rattle.laws_strands.specs.stacks.Strands.{IsStrand, Placed}
use Rattle.laws_strands.specs.stacks.Law.{CountsAre, IsOrderly, Runs, absorbed, counts_in, no_count, with_frames}
use Rattle.laws_strands.proofs.stacks.Counting.{strands_count}
use Rattle.laws_strands.proofs.stacks.Rising.{AreBehind, IsBehind, Rises, behind, new_is_none, rises}
use Rattle.strand.specs.Layouts.{Segment, end_above, layout_above}
use Rattle.strand.specs.Boxes.{ShowsBelow, ShowsOn, ShowsStrand}
use Rattle.strand.specs.Steps.{CanGo}
use Rattle.strand.specs.declared.strand.Strand.{Strand}
use Rattle.strand.proofs.Coming.{under_long}
use Rattle.strand.proofs.Over.{low_end, room_below}
use Rattle.schedule_commit.specs.strands.Linking.{frames_of}
use Rattle.schedule_commit.proofs.strands.Bases.{AllWaitForLast, IsAsBase, WaitsForLast, WaitsForNone, as_base, below_waits, lowest_of, top_waits}
use Rattle.schedule_commit.proofs.strands.Offsets.{cells_sum, offset_number}

-- the path is of none of the frames
abbrev pub IsOff : Path → Placed → List Placed → Type 0
IsOff q t [] = t.path ≢ q
IsOff q t (g ∷ gs) = (t.path ≢ q) × IsOff q g gs

-- the path of the uppermost
abbrev pub highest : Placed → List Placed → Path
highest t [] = t.path
highest t (g ∷ gs) = highest g gs

-- no path of these is one of those
abbrev pub NoneIs : (Path → Type 0) → List Placed → Type 0
NoneIs P [] = ⊤
NoneIs P (g ∷ gs) = (P g.path → ⊥) × NoneIs P gs

pub off_all : (q : Path) (t : Placed) (gs : List Placed) → IsOff q t gs → NoneIs (λ p. p ≡ q) gs
off_all q t [] off = tt
off_all q t (g ∷ gs) off = (first gs off.1, off_all q g gs off.1)
  where
    first : (ys : List Placed) → IsOff q g ys → g.path ≡ q → ⊥
    first [] away = away
    first (y ∷ ys) away = away.0

-- the code's frame shows this one, in a layout with the allocas of all of them
pub record ShowsIn (prog : Program) (places : Places) (k : Layout) (t : Placed) (f : Frame) : Type 0 where
  pub shown : ShowsFrame k places t.path t.frame f
  pub fits : FrameFits prog f
  pub waits : t.frame.waits ≡ wait_of f.waits

-- a function's frame has its allocas in the segment
pub record LiesIn (prog : Program) (s : Segment) (f : Frame) : Type 0 where
  pub home : ℕ
  pub is : f.home ≡ pos home
  pub after : s.start ≤ home
  pub before : home + cells_in (slice_get prog.functions f.function.0) ≤ s.start + s.count

module _ (prog : Program) (places : Places) (k : Layout) (s : Segment) (old new : State) where
  -- a frame stands in the new state, and the code's shows it
  pub record IsOn (t : Placed) (f : Frame) : Type 0 where
    pub shows : ShowsIn prog places k t f
    pub taker : HasTaker f f.waits
    pub there : new.frames t.path ≡ Some t.frame
    pub last : WaitsForLast t

  -- the frame g, which is new and which h shows, stands on t, which f shows
  pub record IsNext (t g : Placed) (f h : Frame) : Type 0 where
    pub path : g.path ≡ (f.made - 1) ∷ t.path
    pub behind : IsBehind g.frame.role t.frame.waits
    pub fresh : old.frames g.path ≡ None
    pub at : (a : ℕ) → own_at h.role (h.home +ℤ number_in (allocas_of places h.function.0) a) ≡ k.at (Local g.path a)
    pub lies : h.role ≡ role.Body → LiesIn prog s h

  abbrev pub Climbs : (ℕ → ℕ) → Placed → Frame → List Placed → List Frame → Type 0
  Climbs older t f [] [] = IsOn t f × WaitsForNone t.frame.waits × ((r : ℕ) → count_of new t.path r ≡ older r)
  Climbs older t f [] (h ∷ hs) = ⊥
  Climbs older t f (g ∷ gs) [] = ⊥
  Climbs older t f (g ∷ gs) (h ∷ hs) = IsOn t f × IsNext t g f h × ((r : ℕ) → count_of new t.path r ≡ counts_in g.frame.role r + older r) × Climbs no_count g h gs hs

no_call : (w : Wait) (f : Frame) → WaitsForNone (wait_of w) → HasTaker f w
no_call wait.Nothing f none = tt
no_call (wait.Region region) f none = tt
no_call (wait.Call child register) f none = absurd (none child register refl)

no_call_last : (t : Placed) → WaitsForNone t.frame.waits → WaitsForLast t
no_call_last t none k register e = absurd (none k register e)

pub reverse_onto : (f : Frame) (fs more : List Frame) → reverse (f ∷ fs) ++ more ≡ reverse fs ++ (f ∷ more)
reverse_onto f fs more = ap (λ (xs : List Frame). xs ++ more) (reverse-append (f ∷ []) fs) ∙ append_assoc (reverse fs) (f ∷ []) more

-- ---- the layouts of the frames, each with one frame's allocas more

module _ (l : Layout) (prog : Program) (start : ℕ) where
  pub shared_at : (n : ℕ) (t : Placed) (below : List Placed) → (layout_above l prog start t below).at (Shared n) ≡ l.at (Shared n)
  shared_at n t [] = refl
  shared_at n t (g ∷ rest) = by t.frame.role (shared_at n g rest)
    where
      by : (r : Role) → (layout_above l prog start g rest).at (Shared n) ≡ l.at (Shared n) →
          (for_body r (with_allocas t.path (alloca_sizes prog t.frame.function) (end_above prog start g rest) (layout_above l prog start g rest)) (layout_above l prog start g rest)).at (Shared n) ≡ l.at (Shared n)
      by Body same = same
      by (Child region continuation) same = same

  module _ (t g : Placed) (rest : List Placed) where
    abbrev lower : Layout
    lower = layout_above l prog start g rest

    abbrev sizes : List ℕ
    sizes = alloca_sizes prog t.frame.function

    abbrev home : ℕ
    home = end_above prog start g rest

    abbrev laid : Role → Layout
    laid r = for_body r (with_allocas t.path sizes home lower) lower

    -- another path's allocas stay
    pub at_other : (q : Path) (a : ℕ) → (t.path ≡ q → ⊥) → (layout_above l prog start t (g ∷ rest)).at (Local q a) ≡ lower.at (Local q a)
    at_other q a away = by t.frame.role
      where
        by : (r : Role) → (laid r).at (Local q a) ≡ lower.at (Local q a)
        by Body = rw (same_path_apart t.path q away) refl
        by (Child region continuation) = refl

    pub at_own : (a : ℕ) → t.frame.role ≡ Body → (layout_above l prog start t (g ∷ rest)).at (Local t.path a) ≡ pos (home + offset_in sizes a)
    at_own a body = ap (λ (r : Role). (laid r).at (Local t.path a)) body ∙ rw (same_path_itself t.path) refl

    apart_alike : IsAlike t.path lower (with_allocas t.path sizes home lower)
    apart_alike = record { at = λ o apart. at_by o apart; cells = λ o apart. cells_by o apart }
      where
        at_by : (o : Object) → IsApart t.path o → (with_allocas t.path sizes home lower).at o ≡ lower.at o
        at_by (Shared n) apart = refl
        at_by (Local owner a) apart = rw (same_path_apart t.path owner apart) refl

        cells_by : (o : Object) → IsApart t.path o → (with_allocas t.path sizes home lower).cells o ≡ lower.cells o
        cells_by (Shared n) apart = refl
        cells_by (Local owner a) apart = rw (same_path_apart t.path owner apart) refl

    not_pointed : (q : Path) → (Under t.path q → ⊥) → (o : Object) → IsAbove q o → IsApart t.path o
    not_pointed q away (Shared n) above = tt
    not_pointed q away (Local owner a) above = λ e. away (subst (λ (p : Path). Under p q) (sym e) above)

    -- a frame is shown as before, if this one does not stand above it
    pub shown_above : (places : Places) (q : Path) (v : Shown) (f : Frame) → (Under t.path q → ⊥) → PointsUp q v → ShowsFrame lower places q v f → ShowsFrame (layout_above l prog start t (g ∷ rest)) places q v f
    shown_above places q v f away points shown = by t.frame.role
      where
        by : (r : Role) → ShowsFrame (laid r) places q v f
        by Body = shown_on t.path lower (with_allocas t.path sizes home lower) apart_alike places q v f (λ e. away (subst (λ (p : Path). Under p q) (sym e) points.home))
            (λ x y h. not_pointed q away y.object (points.registers x y h)) shown
        by (Child region continuation) = shown

-- allocas of longer paths stay
long_at : (l : Layout) (prog : Program) (start : ℕ) (b t : Placed) (below : List Placed) → Rises b t below → (q : Path) (a : ℕ) → length t.path < length q → (layout_above l prog start t below).at (Local q a) ≡ l.at (Local q a)
long_at l prog start b t [] rise q a low = refl
long_at l prog start b t (g ∷ rest) (k, is, next, new, more) q a low =
    let up : length t.path ≡ suc (length g.path) = ap (λ (y : Path). length y) is in
    at_other l prog start t g rest q a (λ e. (let n : length t.path ≡ length q = ap (λ (y : Path). length y) e in omega (arith, n, low))) ∙ long_at l prog start b g rest more q a (omega (arith, low, up))

-- ---- all frames

module _ (prog : Program) (places : Places) (moves : ℕ) (text : TextFits prog places moves) (l : Layout) (m : Machine) (w : ℕ) (d : strands.Strand) (is : IsStrand prog d) (x : Strand) (s : Segment) (strand : ShowsStrand l prog places s d x)
    (can : CanGo prog l s d) (runs : Runs m w d) (orderly : IsOrderly m) (points : (q : Path) (f : Shown) → (absorbed m w d).core.frames q ≡ Some f → PointsUp q f)
    (nowhere : (q : Path) (a : ℕ) → m.core.frames q ≡ None → l.at (Local q a) ≡ pos 0)
  where
    abbrev k : Layout
    k = layout_above l prog s.start d.top d.below

    abbrev z : State
    z = (absorbed m w d).core

    abbrev ClimbsFrom : (ℕ → ℕ) → Placed → Frame → List Placed → List Frame → Type 0
    ClimbsFrom = Climbs prog places k s m.core z

    abbrev older : ℕ → ℕ
    older = count_of m.core d.base.path

    -- what the frames above one leave
    pub record IsLifted (t : Placed) (below gs : List Placed) : Type 0 where
      pub at : (q : Path) (a : ℕ) → NoneIs (λ p. p ≡ q) gs → (layout_above l prog s.start d.top d.below).at (Local q a) ≡ (layout_above l prog s.start t below).at (Local q a)
      pub shown : (q : Path) (v : Shown) (f : Frame) → NoneIs (λ p. Under p q) gs → PointsUp q v → ShowsFrame (layout_above l prog s.start t below) places q v f → ShowsFrame (layout_above l prog s.start d.top d.below) places q v f
      -- they are longer
      pub other : (q : Path) → length q ≤ length t.path → NoneIs (λ p. p ≡ q) gs
      pub lower : (q : Path) → length q ≤ length t.path → NoneIs (λ p. Under p q) gs

    top_lifted : IsLifted d.top d.below []
    top_lifted = record { at = λ q a off. refl; shown = λ q v f off up h. h; other = λ q low. tt; lower = λ q low. tt }

    lifted_below : (t g : Placed) (rest gs : List Placed) → length t.path ≡ suc (length g.path) → IsLifted t (g ∷ rest) gs → IsLifted g rest (t ∷ gs)
    lifted_below t g rest gs longer up = record {
      at = λ q a off. up.at q a off.1 ∙ at_other l prog s.start t g rest q a off.0;
      shown = λ q v f off above h. up.shown q v f off.1 above (shown_above l prog s.start t g rest places q v f off.0 above h);
      other = λ q low. (
        (λ e. (let n : length t.path ≡ length q = ap (λ (y : Path). length y) e in omega (arith, n, low, longer))),
        up.other q (omega (arith, low, longer)),
      );
      lower = λ q low. (
        (λ u. (let n = under_long t.path q u in omega (arith, n, low, longer))),
        up.lower q (omega (arith, low, longer)),
      );
    }

    -- all of them
    pub record Climbed : Type 0 where
      pub low : Placed
      pub frame : Frame
      pub ups : List Placed
      pub frames : List Frame
      pub climbs : Climbs prog places (layout_above l prog s.start d.top d.below) s m.core (absorbed m w d).core (count_of m.core d.base.path) low frame ups frames
      pub all : frames_of x ≡ frame ∷ frames
      pub path : low.path ≡ d.base.path
      pub like : IsAsBase d.base low
      pub elsewhere : (q : Path) → IsOff q low ups → (absorbed m w d).core.frames q ≡ m.core.frames q
      pub top : highest low ups ≡ d.top.path
      pub lifted : IsLifted low [] ups

    -- those from t up stand, if t stands with so many children
    abbrev Waiting : (ℕ → ℕ) → Placed → Frame → List Placed → List Frame → Type 0
    Waiting newest t f gs hs = (more : ℕ → ℕ) → IsOn prog places k s m.core z t f → ((r : ℕ) → count_of z t.path r ≡ newest r + more r) → ClimbsFrom more t f gs hs

    small_end : (end : ℕ) → end ≤ s.start + s.count → end < 9223372036854775808
    small_end end room = let small = can.small in omega (arith, room, small)

    in_k : (t : Placed) (below gs : List Placed) (f : Frame) → IsLifted t below gs → z.frames t.path ≡ Some t.frame → ShowsOn l prog places s.start t below f → ShowsIn prog places k t f
    in_k t below gs f lifted there on = record {
      shown = lifted.shown t.path t.frame f (lifted.lower t.path (omega arith)) (points t.path t.frame there) on.shown;
      fits = on.fits;
      waits = on.waits;
    }

    -- where an upper frame has its allocas
    module _ (t g : Placed) (rest gs : List Placed) (f : Frame) (lifted : IsLifted t (g ∷ rest) gs) (on : ShowsOn l prog places s.start t (g ∷ rest) f) (rise : Rises d.base t (g ∷ rest))
        (room : end_above prog s.start t (g ∷ rest) ≤ s.start + s.count) (gone : m.core.frames t.path ≡ None)
      where
        abbrev own_start : ℕ
        own_start = end_above prog s.start g rest

        abbrev own_sizes : List ℕ
        own_sizes = alloca_sizes prog t.frame.function

        room_body : t.frame.role ≡ Body → own_start + sum own_sizes ≤ s.start + s.count
        room_body body = subst (λ (n : ℕ). n ≤ s.start + s.count) (ap (λ (r : Role). for_body r (own_start + sum own_sizes) own_start) body) room

        home_body : t.frame.role ≡ Body → f.home ≡ pos own_start
        home_body body = subst (λ (r : Role). serial.BeginsAt r f.home own_start) body on.home

        own : (a : ℕ) → k.at (Local t.path a) ≡ (layout_above l prog s.start t (g ∷ rest)).at (Local t.path a)
        own a = lifted.at t.path a (lifted.other t.path (omega arith))

        number : (a : ℕ) → t.frame.role ≡ Body → number_in (allocas_of places f.function.0) a ≡ pos (offset_in own_sizes a)
        number a body =
            let fits = room_body body in
            let less : own_start + sum own_sizes < 9223372036854775808 = small_end (own_start + sum own_sizes) fits in
            (λ i. number_in (allocas_of places (sym on.shown.function i)) a) ∙ offset_number prog places moves text t.frame.function a (omega (arith, less))

        body_at : (a : ℕ) → t.frame.role ≡ Body → f.home +ℤ number_in (allocas_of places f.function.0) a ≡ k.at (Local t.path a)
        body_at a body =
            let join : pos own_start +ℤ pos (offset_in own_sizes a) ≡ pos (own_start + offset_in own_sizes a) = omega (arith, ints) in
            (λ i. home_body body i +ℤ number a body i) ∙ (join ∙ sym (own a ∙ at_own l prog s.start t g rest a body))

        child_at : (a region continuation : ℕ) → t.frame.role ≡ Child region continuation → pos 0 ≡ k.at (Local t.path a)
        child_at a region continuation child =
            let up : length t.path ≡ suc (length g.path) = ap (λ (q : Path). length q) rise.1 in
            sym (own a ∙ (ap (λ (r : Role). (laid l prog s.start t g rest r).at (Local t.path a)) child ∙ (long_at l prog s.start d.base g rest rise.4 t.path a (omega (arith, up)) ∙ nowhere t.path a gone)))

        at_is : (r : Kind) → f.role ≡ r → (a : ℕ) → own_at r (f.home +ℤ number_in (allocas_of places f.function.0) a) ≡ k.at (Local t.path a)
        at_is role.Body is a = body_at a (on.shown.role ∙ ap role_of is)
        at_is (role.Child region continuation) is a = child_at a region.0 continuation.0 (on.shown.role ∙ ap role_of is)

        lies : f.role ≡ role.Body → LiesIn prog s f
        lies is =
            let body : t.frame.role ≡ Body = on.shown.role ∙ ap role_of is in
            record {
              home = own_start;
              is = home_body body;
              after = low_end l prog s d.base can.apart can.outside can.fresh can.small g rest;
              before = subst (λ (n : ℕ). own_start + n ≤ s.start + s.count) (sym (ap (λ (n : ℕ). cells_in (slice_get prog.functions n)) (sym on.shown.function) ∙ cells_sum prog t.frame.function)) (room_body body);
            }

    turn : (t : Placed) (below : List Placed) (f : Frame) (fs : List Frame) (gs : List Placed) (hs : List Frame) (newest : ℕ → ℕ) → IsLifted t below gs → ShowsOn l prog places s.start t below f → HasTaker f f.waits → WaitsForLast t →
        Rises d.base t below → AreBehind t below → ShowsBelow l prog places s.start below fs → end_above prog s.start t below ≤ s.start + s.count → AllWaitForLast below → CountsAre (count_of z) older newest t below →
        ((q : Path) → length q ≤ length t.path → z.frames q ≡ with_frames (t ∷ below) m.core.frames q) → ((q : Path) → IsOff q t gs → z.frames q ≡ with_frames below m.core.frames q) →
        reverse fs ++ (f ∷ hs) ≡ frames_of x → IsAsBase d.base (lowest_of t below) → highest t gs ≡ d.top.path → Waiting newest t f gs hs → Climbed
    turn t [] f [] gs hs newest lifted on taker last rise back below room waits counts same off all like top up =
        let here = same t.path (omega arith) ∙ rw (same_path_itself t.path) refl in
        record {
          low = t;
          frame = f;
          ups = gs;
          frames = hs;
          climbs = up older (record { shows = in_k t [] gs f lifted here on; taker = taker; there = here; last = last }) counts;
          all = sym all;
          path = rise.0;
          like = like;
          elsewhere = off;
          top = top;
          lifted = lifted;
        }
    turn t [] f (h ∷ fs) gs hs newest lifted on taker last rise back below room waits counts same off all like top up = absurd below
    turn t (g ∷ rest) f [] gs hs newest lifted on taker last rise back below room waits counts same off all like top up = absurd below
    turn t (g ∷ rest) f (h ∷ fs) gs hs newest lifted on taker last (k, path, next, new, more) back below room waits counts same off all like top up =
        turn g rest h fs (t ∷ gs) (f ∷ hs) (counts_in t.frame.role) (lifted_below t g rest gs longer lifted) below.0 below.1 waits.0 more back.1 below.2
        (room_below l prog s d.base can.apart can.outside can.fresh can.small t g rest (s.start + s.count) room) waits.1 counts.1 lower off_below
        (sym (reverse_onto h fs (f ∷ hs)) ∙ all) like top
        (λ many here count. (
          here,
          record {
            path = path ∙ ap (λ (j : ℕ). j ∷ g.path) number_is;
            behind = back.0;
            fresh = gone;
            at = at_is t g rest gs f lifted on (k, path, next, new, more) room gone f.role refl;
            lies = lies t g rest gs f lifted on (k, path, next, new, more) room gone;
          },
          count,
          up no_count (record { shows = in_k t (g ∷ rest) gs f lifted there on; taker = taker; there = there; last = last }) (λ r. (let c = counts.0 r in omega (arith, c))),
        ))
      where
        gone : m.core.frames t.path ≡ None
        gone = new_is_none m.core orderly.tree d.base runs.frame t.path new

        there : z.frames t.path ≡ Some t.frame
        there = same t.path (omega arith) ∙ rw (same_path_itself t.path) refl

        longer : length t.path ≡ suc (length g.path)
        longer = ap (λ (q : Path). length q) path

        number_is : k ≡ h.made - 1
        number_is = let made = below.0.shown.made in omega (arith, next, made)

        lower : (q : Path) → length q ≤ length g.path → z.frames q ≡ with_frames (g ∷ rest) m.core.frames q
        lower q low =
            let long = longer in
            same q (omega (arith, low, long)) ∙ rw (same_path_apart t.path q (λ e. (let n : length t.path ≡ length q = ap (λ (y : Path). length y) e in omega (arith, n, low, long)))) refl

        off_below : (q : Path) → IsOff q g (t ∷ gs) → z.frames q ≡ with_frames rest m.core.frames q
        off_below q away = off q away.1 ∙ rw (same_path_apart g.path q away.0) refl

    pub climbed : WaitsForNone d.base.frame.waits → Climbed
    climbed base =
        let free : WaitsForNone d.top.frame.waits = top_waits prog d is base in
        turn d.top d.below x.top.value (reverse (unboxed x.below.items)) [] [] no_count top_lifted strand.top (no_call x.top.value.waits x.top.value (subst WaitsForNone strand.top.waits free)) (no_call_last d.top free)
        (rises prog d is) (behind prog d is) strand.below strand.room (below_waits prog d is) (strands_count prog m w d is runs orderly) (λ q low. refl)
        (λ q away. rw (same_path_apart d.top.path q away) refl)
        (ap (λ (fs : List Frame). fs ++ x.top.value ∷ []) (reverse-reverse (unboxed x.below.items))) (as_base prog d is) refl
        (λ more here count. (here, free, λ r. (let c = count r in omega (arith, c))))
