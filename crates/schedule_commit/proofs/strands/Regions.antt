-- A detached child's region is a register of its parent.
use Rattle.std.proofs.Common.{◌≡◌, ◌∙◌, ◌<◌, ℕ, zero, suc, List, [], ◌∷◌, ◌++◌, length, reverse, Option, Some, None, Bool, true, false, eqb, ◌&&◌, refl, sym, ap, subst, arith, ℤ}
use Rattle.std.specs.Prelude.{⊤, slice_get}
use Rattle.std.proofs.lemmas.Option.{same_Some}
use Rattle.std.proofs.lemmas.List.{reverse-reverse}
use Rattle.semantics.specs.Paths.{Path, same_path}
use Rattle.semantics.specs.Cells.{Memory}
use Rattle.semantics.specs.Frames as frames
use Rattle.semantics.specs.Frames.{Item, Does, Ends, Role, Child, Body, Registers, Value, item_at, region_of}
use Rattle.semantics.specs.Effect.{Action, Detach, argument_values, calls, if_own, item_action, reattaches, registers_along, returns, returns_value, syncs}
use Rattle.semantics.specs.State.{continued, waiting, went, synced, resumed}
use Rattle.linear.specs.declared.form.RegisterId.{RegisterId}
use Rattle.program.specs.declared.identifier.BlockId.{BlockId}
use Rattle.program.specs.declared.function.Function.{Function}
use Rattle.program.specs.declared.function.Program.{Program}
use Rattle.program.specs.declared.instruction.Instruction.TheVariants as instruction
use Rattle.program.specs.declared.instruction.Terminator.TheVariants as terminator
use Rattle.frame.specs.declared.frame.Role.TheVariants as role
use Rattle.frame.specs.Reading.{role_of}
use Rattle.frame_engine.specs.declared.activation.Frame.{Frame}
use Rattle.frame_engine.specs.declared.activation.Places.{Places}
use Rattle.frame_engine.specs.Shows.{Layout}
use Rattle.frame_engine.proofs.Turns.{there_is}
use Rattle.schedule_workers.specs.Going.{TextFits}
use Rattle.strand.specs.Layouts.{Segment}
use Rattle.strand.specs.Boxes.{ShowsBelow, ShowsOn, ShowsStrand}
use Rattle.strand.specs.serial_stack.StackShown.{unboxed}
use Rattle.strand.specs.declared.strand.Strand.{Strand}
use Rattle.schedule_commit.specs.strands.Linking.{RegionsFit, frames_of}
use Rattle.schedule_commit.proofs.strands.Bases.{as_base, lowest_of}
use Rattle.schedule_commit.proofs.strands.Climbing.{reverse_onto}
use Rattle.laws_strands.specs.stacks.Footprint.{memory_of}
use Rattle.laws_strands.specs.stacks.Strands as strands
use Rattle.laws_strands.specs.stacks.Strands.{IsStrand, Placed, at, is_advanced, is_called, is_detached, is_filled, is_loaded, is_past_sync, is_reattached, is_returned}

-- ---- what a detach is

abbrev IsDetachOf : Option Item → ℕ → Type 0
IsDetachOf o r = (x : RegisterId) × (y : BlockId) × (z : BlockId) × (o ≡ Some (Ends (terminator.Detach x y z))) × (x.0 ≡ r)

own_or : (p : Path) (f : frames.Frame) (a : Action) (o : Option Path) (r b n : ℕ) → if_own p f a o ≡ Detach r b n → a ≡ Detach r b n
own_or p f a None r b n e = absurd cc
own_or p f a (Some owner) r b n e = by (same_path owner p) refl
  where
    by : (t : Bool) → same_path owner p ≡ t → a ≡ Detach r b n
    by true is = rw is at e
    by false is = absurd (let h = rw is at e in cc)

not_sync : (f : frames.Frame) (x y : ℕ) (o : Option Registers) (r b n : ℕ) → syncs f x y o ≡ Detach r b n → ⊥
not_sync f x y None r b n e = cc
not_sync f x y (Some rs) r b n e = cc

not_call : (f : frames.Frame) (d : Option RegisterId) (callee : ℕ) (o : Option (List Value)) (r b n : ℕ) → calls f d callee o ≡ Detach r b n → ⊥
not_call f d callee None r b n e = cc
not_call f d callee (Some vs) r b n e = cc

not_reattach : (f : frames.Frame) (x y : ℕ) (role : Role) (r b n : ℕ) → reattaches f x y role ≡ Detach r b n → ⊥
not_reattach f x y Body r b n e = cc
not_reattach f x y (Child k c) r b n e = by (eqb k x && eqb c y) refl
  where
    by : (t : Bool) → (eqb k x && eqb c y) ≡ t → ⊥
    by true is = let h = rw is at e in cc
    by false is = let h = rw is at e in cc

not_return : (f : frames.Frame) (role : Role) (v : Option ℤ) (r b n : ℕ) → returns f role v ≡ Detach r b n → ⊥
not_return f (Child k c) v r b n e = cc
not_return f Body v r b n e = cc

not_value : (f : frames.Frame) (o : Option ℤ) (r b n : ℕ) → returns_value f o ≡ Detach r b n → ⊥
not_value f None r b n e = cc
not_value f (Some z) r b n e = not_return f f.role (Some z) r b n e

detach_item : (prog : Program) (p : Path) (f : frames.Frame) (m : Memory) (o : Option Item) (r b n : ℕ) → item_action prog p f m o ≡ Detach r b n → IsDetachOf o r
detach_item prog p f m None r b n e = absurd cc
detach_item prog p f m (Some (Does (instruction.Binary d op w x y))) r b n e = absurd cc
detach_item prog p f m (Some (Does (instruction.Compare d by w x y))) r b n e = absurd cc
detach_item prog p f m (Some (Does (instruction.Convert d by x))) r b n e = absurd cc
detach_item prog p f m (Some (Does (instruction.Alloca d x))) r b n e = absurd cc
detach_item prog p f m (Some (Does (instruction.ElementPointer d name i))) r b n e = absurd cc
detach_item prog p f m (Some (Does (instruction.Load d x))) r b n e = absurd cc
detach_item prog p f m (Some (Does (instruction.Store x y))) r b n e = absurd cc
detach_item prog p f m (Some (Does (instruction.StoreZeros cells name))) r b n e = absurd cc
detach_item prog p f m (Some (Does (instruction.AtomicAdd x y))) r b n e = absurd cc
detach_item prog p f m (Some (Does (instruction.Call d callee arguments))) r b n e = absurd (not_call f d callee.0 (argument_values f arguments) r b n e)
detach_item prog p f m (Some (Does (instruction.StartRegion d))) r b n e = absurd cc
detach_item prog p f m (Some (Ends (terminator.Jump x))) r b n e = absurd cc
detach_item prog p f m (Some (Ends (terminator.Branch t x y))) r b n e = absurd cc
detach_item prog p f m (Some (Ends (terminator.Switch w x d cases))) r b n e = absurd cc
detach_item prog p f m (Some (Ends (terminator.Return None))) r b n e = absurd (not_return f f.role None r b n e)
detach_item prog p f m (Some (Ends (terminator.Return (Some x)))) r b n e = absurd (not_value f _ r b n e)
detach_item prog p f m (Some (Ends (terminator.Detach x y z))) r b n e =
    let same = own_or p f (Detach x.0 y.0 z.0) (region_of (f.registers x.0)) r b n e in
    (x, y, z, refl, (let h : x.0 ≡ r = cc in h))
detach_item prog p f m (Some (Ends (terminator.Reattach x y))) r b n e = absurd (not_reattach f x.0 y.0 f.role r b n e)
detach_item prog p f m (Some (Ends (terminator.Sync x y))) r b n e =
    absurd (not_sync f x.0 y.0 (registers_along prog f y.0) r b n (own_or p f (syncs f x.0 y.0 (registers_along prog f y.0)) (region_of (f.registers x.0)) r b n e))

-- ---- in a strand

abbrev IsRegionOf : Program → ℕ → Role → Type 0
IsRegionOf prog k Body = ⊤
IsRegionOf prog k (Child r n) = (h : Function) → slice_get prog.functions k ≡ Some h → r < length h.registers

abbrev RegionsIn : Program → Placed → List Placed → Type 0
RegionsIn prog t [] = ⊤
RegionsIn prog t (g ∷ rest) = IsRegionOf prog g.frame.function t.frame.role × RegionsIn prog g rest

regions_kept : (prog : Program) (t u : Placed) (below : List Placed) → u.frame.role ≡ t.frame.role → RegionsIn prog t below → RegionsIn prog u below
regions_kept prog t u [] same are = tt
regions_kept prog t u (g ∷ rest) same are = (subst (IsRegionOf prog g.frame.function) (sym same) are.0, are.1)

module _ (prog : Program) (places : Places) (moves : ℕ) (text : TextFits prog places moves) where
  pub regions_in : (d : strands.Strand) → IsStrand prog d → RegionsIn prog d.top d.below
  regions_in _ (is_loaded p f) = tt
  regions_in _ (is_filled d c v e is act fine reads held read) = regions_in d is
  regions_in _ (is_advanced d e is act fine holds) = regions_kept prog d.top (at d.top.path (went d.top.frame e)) d.below refl (regions_in d is)
  regions_in _ (is_past_sync d region block registers is act) = regions_kept prog d.top (at d.top.path (synced d.top.frame region block registers)) d.below refl (regions_in d is)
  regions_in _ (is_detached d region body continuation is act) =
      let (x, y, z, stands, same) = detach_item prog d.top.path d.top.frame (memory_of d.footprint) (item_at prog d.top.frame.function d.top.frame.block d.top.frame.index) region body continuation act in (
        (λ h there. subst (λ (r : ℕ). r < length h.registers) same (text.detaches d.top.frame.function d.top.frame.block d.top.frame.index x y z h there stands)),
        regions_kept prog d.top (at d.top.path (continued d.top.frame continuation)) d.below refl (regions_in d is),
      )
  regions_in _ (is_called d register callee values is act) = (tt, regions_kept prog d.top (at d.top.path (waiting d.top.frame register)) d.below refl (regions_in d is))
  regions_in _ (is_reattached d region g rest is act below waits) = (subst (λ xs. RegionsIn prog d.top xs) below (regions_in d is)).1
  regions_in _ (is_returned d result g rest k register is act below waits) =
      regions_kept prog g (at g.path (resumed g.frame register result)) rest refl (subst (λ xs. RegionsIn prog d.top xs) below (regions_in d is)).1

-- ---- in the machine's frames

abbrev IsFit : Frame → Frame → Type 0
IsFit f g = (r : RegisterId) (n : BlockId) → g.role ≡ role.Child r n → r.0 < length f.registers.items

-- the nearest first
abbrev FitBelow : Frame → List Frame → Type 0
FitBelow g [] = ⊤
FitBelow g (f ∷ fs) = IsFit f g × FitBelow f fs

-- the lowest first
abbrev FitAbove : Frame → List Frame → Type 0
FitAbove f [] = ⊤
FitAbove f (g ∷ gs) = IsFit f g × FitAbove g gs

abbrev AllFit : List Frame → Type 0
AllFit [] = ⊤
AllFit (f ∷ fs) = FitAbove f fs

fit_at : (f : Frame) (fs : List Frame) → FitAbove f fs → (n : ℕ) (x y : Frame) → slice_get (f ∷ fs) n ≡ Some x → slice_get (f ∷ fs) (suc n) ≡ Some y → IsFit x y
fit_at f [] fit n x y a b = absurd cc
fit_at f (g ∷ gs) fit zero x y a b = subst (λ (z : Frame). IsFit z y) (same_Some f x a) (subst (λ (z : Frame). IsFit f z) (same_Some g y b) fit.0)
fit_at f (g ∷ gs) fit (suc n) x y a b = fit_at g gs fit.1 n x y a b

all_at : (fs : List Frame) → AllFit fs → (n : ℕ) (x y : Frame) → slice_get fs n ≡ Some x → slice_get fs (suc n) ≡ Some y → IsFit x y
all_at [] fit n x y a b = absurd cc
all_at (f ∷ fs) fit n x y a b = fit_at f fs fit n x y a b

turned : (fs : List Frame) (f : Frame) (more : List Frame) → FitBelow f fs → FitAbove f more → AllFit (reverse fs ++ f ∷ more)
turned [] f more below above = above
turned (g ∷ fs) f more below above = subst AllFit (sym (reverse_onto g fs (f ∷ more))) (turned fs g (f ∷ more) below.1 (below.0, above))

child_fit : (l : Layout) (prog : Program) (places : Places) (start : ℕ) (t g : Placed) (below lower : List Placed) (ft fg : Frame) → ShowsOn l prog places start t below ft → ShowsOn l prog places start g lower fg → IsRegionOf prog g.frame.function t.frame.role → IsFit fg ft
child_fit l prog places start t g below lower ft fg top low region r n is =
    let (h, there) = there_is prog.functions fg.function.0 low.fits.there in
    let is_child : t.frame.role ≡ Child r.0 n.0 = top.shown.role ∙ ap role_of is in
    let small = subst (IsRegionOf prog g.frame.function) is_child region h (ap (slice_get prog.functions) low.shown.function ∙ there) in
    let long = low.fits.registers h there in
    omega (arith, small, long)

fit_below : (l : Layout) (prog : Program) (places : Places) (start : ℕ) (t : Placed) (gs : List Placed) (f : Frame) (fs : List Frame) → ShowsOn l prog places start t gs f → ShowsBelow l prog places start gs fs → RegionsIn prog t gs → FitBelow f fs
fit_below l prog places start t [] f [] top below are = tt
fit_below l prog places start t [] f (g ∷ fs) top below are = absurd below
fit_below l prog places start t (g ∷ gs) f [] top below are = absurd below
fit_below l prog places start t (g ∷ gs) f (h ∷ fs) top below are =
    (child_fit l prog places start t g (g ∷ gs) gs f h top below.0 are.0, fit_below l prog places start g gs h fs below.0 below.2 are.1)

pub regions_fit : (l : Layout) (prog : Program) (places : Places) (s : Segment) (moves : ℕ) → TextFits prog places moves → (d : strands.Strand) → IsStrand prog d → (x : Strand) → ShowsStrand l prog places s d x → RegionsFit x
regions_fit l prog places s moves text d is x shown n f g r continuation at_f at_g is_child =
    let near = fit_below l prog places s.start d.top d.below x.top.value (reverse (unboxed x.below.items)) shown.top shown.below (regions_in prog places moves text d is) in
    let all : AllFit (frames_of x) = subst (λ (fs : List Frame). AllFit (fs ++ x.top.value ∷ [])) (reverse-reverse (unboxed x.below.items)) (turned (reverse (unboxed x.below.items)) x.top.value [] near tt) in
    all_at (frames_of x) all n f g at_f at_g r continuation is_child

-- ---- the base

-- the machine's lowest frame is the base's
lowest : (l : Layout) (prog : Program) (places : Places) (start : ℕ) (t : Placed) (gs : List Placed) (f : Frame) (fs more : List Frame) → ShowsOn l prog places start t gs f → ShowsBelow l prog places start gs fs → (y : Frame) →
    slice_get (reverse fs ++ f ∷ more) 0 ≡ Some y → ShowsOn l prog places start (lowest_of t gs) [] y
lowest l prog places start t [] f [] more top below y e = subst (λ (z : Frame). ShowsOn l prog places start t [] z) (same_Some f y e) top
lowest l prog places start t [] f (h ∷ fs) more top below y e = absurd below
lowest l prog places start t (g ∷ gs) f [] more top below y e = absurd below
lowest l prog places start t (g ∷ gs) f (h ∷ fs) more top below y e =
    lowest l prog places start g gs h fs (f ∷ more) below.0 below.2 y (ap (λ (xs : List Frame). slice_get xs 0) (sym (reverse_onto h fs (f ∷ more))) ∙ e)

pub lowest_frame : (l : Layout) (prog : Program) (places : Places) (s : Segment) (d : strands.Strand) → IsStrand prog d → (x : Strand) → ShowsStrand l prog places s d x → (y : Frame) → slice_get (frames_of x) 0 ≡ Some y →
    ShowsOn l prog places s.start (lowest_of d.top d.below) [] y
lowest_frame l prog places s d is x shown y at =
    lowest l prog places s.start d.top d.below x.top.value (reverse (unboxed x.below.items)) [] shown.top shown.below y
    (ap (λ (fs : List Frame). slice_get (fs ++ x.top.value ∷ []) 0) (reverse-reverse (unboxed x.below.items)) ∙ at)

head_there : (fs : List Frame) (y : Frame) → slice_get fs 1 ≡ Some y → (x : Frame) × (slice_get fs 0 ≡ Some x)
head_there [] y e = absurd cc
head_there (f ∷ fs) y e = (f, refl)

-- so its regions are among those that it counts
pub base_regions : (l : Layout) (prog : Program) (places : Places) (s : Segment) (moves : ℕ) → TextFits prog places moves → (d : strands.Strand) → IsStrand prog d → (x : Strand) → ShowsStrand l prog places s d x →
    (counts function : ℕ) → function ≡ x.base.frame.function.0 → ((h : Function) → slice_get prog.functions function ≡ Some h → counts ≡ length h.registers) →
    (f : Frame) (r : RegisterId) (n : BlockId) → slice_get (frames_of x) 1 ≡ Some f → f.role ≡ role.Child r n → r.0 < counts
base_regions l prog places s moves text d is x shown counts function same many f r n at_f is_child =
    let (base, at_base) = head_there (frames_of x) f at_f in
    let small = regions_fit l prog places s moves text d is x shown 0 base f r n at_base at_f is_child in
    let low = lowest_frame l prog places s d is x shown base at_base in
    let (h, there) = there_is prog.functions base.function.0 low.fits.there in
    let long = low.fits.registers h there in
    let one : function ≡ base.function.0 = same ∙ (sym shown.loaded.function ∙ (sym (as_base prog d is).function ∙ low.shown.function)) in
    let all = many h (ap (slice_get prog.functions) one ∙ there) in
    omega (arith, small, long, all)
