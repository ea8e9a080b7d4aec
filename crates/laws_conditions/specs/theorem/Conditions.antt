-- Local conditions: what a checked program keeps, each about one frame at one place. They suffice for every schedule.
-- Z names zones of cells, and zone says which cells; what is shown of a frame is a relation to the name of its zone.
use Rattle.std.specs.Prelude.{◌≡◌, ◌≢◌, ℕ, ◌∷◌, List, Option, None, Bool, true, false, ◌⊎◌, is_some, ℤ}
use Rattle.semantics.specs.Paths.{Path}
use Rattle.semantics.specs.Below.{Under}
use Rattle.semantics.specs.Cells.{Object, Shared, Local, Cell, Memory}
use Rattle.semantics.specs.Frames.{Value, Registers, OnCall, Frame}
use Rattle.semantics.specs.Effect.{Effect, Plain, Detach, Reattach, Sync, Call, Return, action_of}
use Rattle.semantics.specs.State.{went, detached, continued, synced, called, waiting, resumed}
use Rattle.linear.specs.declared.form.RegisterId.{RegisterId}
use Rattle.program.specs.declared.function.Program.{Program}

-- What a frame and all below it keep to: cells that may be read, and cells that may be added to; a cell that may be
-- written is both. gives is what a function's frame promises of its result.
pub record Zone : Type 1 where
  pub reads : Cell → Type 0
  pub adds : Cell → Type 0
  pub gives : Option ℤ → Type 0

pub record Covers (z y : Zone) : Type 0 where
  pub reads : (x : Cell) → y.reads x → z.reads x
  pub adds : (x : Cell) → y.adds x → z.adds x

-- two reads meet, and two adds meet, but nothing else does
pub record Clear (z y : Zone) : Type 0 where
  pub first : (x : Cell) → z.reads x → y.adds x → ⊥
  pub second : (x : Cell) → z.adds x → y.reads x → ⊥

abbrev pub zone_of : (Cell → Bool) → (Cell → Option (Option ℤ)) → (Cell → Option ℤ) → Zone
zone_of reads writes adds = record {
  reads = λ x. (reads x ≡ true) ⊎ (is_some (writes x) ≡ true);
  adds = λ x. (is_some (writes x) ≡ true) ⊎ (is_some (adds x) ≡ true);
  gives = λ v. Unit {0};
}

-- the cells that an effect touches
abbrev pub touched : Effect → Zone
touched e = zone_of e.reads e.writes e.adds

-- allocas of the frame at p and of frames below it
abbrev pub OwnedBelow : Path → Object → Type 0
OwnedBelow p (Shared g) = ⊥
OwnedBelow p (Local owner n) = Under p owner

-- a frame that waits for no call
abbrev pub Going : Frame → Type 0
Going f = (k : ℕ) (d : Option RegisterId) → f.waits ≢ OnCall k d

-- fits p f z: what is known at its place holds of the frame f at p, which keeps to z. pending p f r: what the children
-- that it may have within the region r keep to. expects f z: what f, which waits for a call, relies on of the callee
-- that keeps to z.
module _ {ℓ} (Z : Type ℓ) (zone : Z → Zone) (prog : Program) (fits : Path → Frame → Z → Type 0) (pending : Path →
    Frame → ℕ → Z) where
  -- an instruction's cells lie in the frame's zone, and clear of what is pending
  pub record StaysInZone : Type ℓ where
    pub keeps : (p : Path) (f : Frame) (z : Z) (m : Memory) (e : Effect) → fits p f z → Going f →
        action_of prog p f m ≡ Plain e →
        Covers (zone z) (touched e) × ((r : ℕ) → Clear (touched e) (zone (pending p f r)))
    -- the allocas of a frame that returns are cleared
    pub owns : (p : Path) (f : Frame) (z : Z) (c : Cell) → fits p f z → OwnedBelow p c.object → (zone z).reads c ×
        (zone z).adds c

  -- how zones and what is pending pass on from a frame to the frames that a step makes of it
  pub record PassesZonesOn (expects : Frame → Z → Type 0) : Type ℓ where
    pub plain_ok : (p : Path) (f : Frame) (z : Z) (m : Memory) (e : Effect) → fits p f z → Going f →
        action_of prog p f m ≡ Plain e → e.trap ≡ None →
        fits p (went f e) z × ((r : ℕ) → Covers (zone (pending p (went f e) r)) (zone (pending p f r)))
    pub detach_ok : (p : Path) (f : Frame) (z : Z) (m : Memory) (region body next : ℕ) → fits p f z → Going f →
        action_of prog p f m ≡ Detach region body next →
        (y : Z) × Covers (zone z) (zone y) × ((r : ℕ) → Clear (zone y) (zone (pending p f r))) ×
        fits (f.made ∷ p) (detached f region body next) y ×
        fits p (continued f next) z ×
        ((r : ℕ) → Covers (zone (pending p (continued f next) r)) (zone (pending p f r))) ×
        Covers (zone (pending p (continued f next) region)) (zone y)
    pub sync_ok : (p : Path) (f : Frame) (z : Z) (m : Memory) (region block : ℕ) (registers : Registers) → fits p f z →
        Going f →
        action_of prog p f m ≡ Sync region block registers →
        fits p (synced f region block registers) z ×
        ((r : ℕ) → r ≢ region → Covers (zone (pending p (synced f region block registers) r)) (zone (pending p f r)))
    pub call_ok : (p : Path) (f : Frame) (z : Z) (m : Memory) (d : Option RegisterId) (callee : ℕ)
        (values : List Value) → fits p f z → Going f →
        action_of prog p f m ≡ Call d callee values →
        (y : Z) × Covers (zone z) (zone y) × ((r : ℕ) → Clear (zone y) (zone (pending p f r))) ×
        fits (f.made ∷ p) (called p f callee values) y ×
        fits p (waiting f d) z ×
        ((r : ℕ) → Covers (zone (pending p (waiting f d) r)) (zone (pending p f r))) × expects (waiting f d) y
    pub return_ok : (p : Path) (f : Frame) (z : Z) (m : Memory) (result : Option ℤ) → fits p f z → Going f →
        action_of prog p f m ≡ Return result →
        (zone z).gives result
    pub resume_ok : (p : Path) (f : Frame) (z y : Z) (k : ℕ) (d : Option RegisterId) (result : Option ℤ) → fits p f z →
        f.waits ≡ OnCall k d → expects f y →
        (zone y).gives result →
        fits p (resumed f d result) z ×
        ((r : ℕ) → Covers (zone (pending p (resumed f d result) r)) (zone (pending p f r)))

-- what is open stays open
abbrev pub StaysOpen : (Path → Frame → ℕ → Bool) → Path → Frame → Frame → Type 0
StaysOpen opens p f g = (r : ℕ) → opens p f r ≡ true → opens p g r ≡ true

-- Regions: opens p f r is true where a child within r may live, and nothing is open where a frame ends. holds p f: what
-- is known at its place.
pub record ClosesRegions (prog : Program) (holds : Path → Frame → Type 0) (opens : Path → Frame → ℕ →
    Bool) : Type 0 where
  pub plain_holds : (p : Path) (f : Frame) (m : Memory) (e : Effect) → holds p f → Going f →
      action_of prog p f m ≡ Plain e → e.trap ≡ None →
      holds p (went f e) × StaysOpen opens p f (went f e)
  pub detach_holds : (p : Path) (f : Frame) (m : Memory) (region body next : ℕ) → holds p f → Going f →
      action_of prog p f m ≡ Detach region body next →
      holds (f.made ∷ p) (detached f region body next) × holds p (continued f next) ×
      StaysOpen opens p f (continued f next) ×
      (opens p (continued f next) region ≡ true)
  pub sync_holds : (p : Path) (f : Frame) (m : Memory) (region block : ℕ) (registers : Registers) → holds p f →
      Going f →
      action_of prog p f m ≡ Sync region block registers →
      holds p (synced f region block registers) × ((r : ℕ) → r ≢ region → opens p f r ≡ true →
      opens p (synced f region block registers) r ≡ true)
  pub call_holds : (p : Path) (f : Frame) (m : Memory) (d : Option RegisterId) (callee : ℕ) (values : List Value) →
      holds p f → Going f →
      action_of prog p f m ≡ Call d callee values →
      holds (f.made ∷ p) (called p f callee values) × holds p (waiting f d) × StaysOpen opens p f (waiting f d)
  pub resume_holds : (p : Path) (f : Frame) (k : ℕ) (d : Option RegisterId) (result : Option ℤ) → holds p f →
      f.waits ≡ OnCall k d →
      holds p (resumed f d result) × StaysOpen opens p f (resumed f d result)
  pub reattach_closed : (p : Path) (f : Frame) (m : Memory) (region r : ℕ) → holds p f → Going f →
      action_of prog p f m ≡ Reattach region → opens p f r ≡ false
  pub return_closed : (p : Path) (f : Frame) (m : Memory) (result : Option ℤ) (r : ℕ) → holds p f → Going f →
      action_of prog p f m ≡ Return result →
      opens p f r ≡ false
