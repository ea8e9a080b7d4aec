-- The frames above the base, as they are to stand in the cactus.
use Rattle.std.specs.Prelude.{◌≡◌, ℕ, suc, ◌-◌, ◌<◌, List, [], ◌∷◌, ◌++◌, length, map, take, Option, Some, None, cond}
use Rattle.std.specs.Prelude.{eqb, slice_get}
use Rattle.linear.specs.declared.form.RegisterId.{RegisterId}
use Rattle.program.specs.declared.identifier.BlockId.{BlockId}
use Rattle.frame.specs.declared.frame.Role.{Role}
use Rattle.frame.specs.declared.frame.Role.TheVariants as role
use Rattle.cactus.specs.declared.node.Link.{Link}
use Rattle.frame_engine.specs.declared.activation.Frame.{Frame}
use Rattle.schedule_commit.specs.frame_strand.Standing.{IsCopy}
use Rattle.schedule_workers.specs.declared.activation.Activation.{Activation}
use Rattle.schedule_workers.specs.Scheduling.{counted_in}
use Rattle.strand.specs.serial_stack.StackShown.{unboxed}
use Rattle.strand.specs.declared.strand.Strand.{Strand}

-- the frames from the base up
abbrev pub frames_of : Strand → List Frame
frames_of x = unboxed x.below.items ++ x.top.value ∷ []

-- the path of the frame of this number, the root's number first: each frame made the one above it last
abbrev pub path_of : Strand → ℕ → List ℕ
path_of x n = x.base.path.items ++ map (λ (f : Frame). f.made - 1) (take n (frames_of x))

-- each detached child's region is a register of its parent
abbrev pub RegionsFit : Strand → Type 0
RegionsFit x =
    (n : ℕ) (f g : Frame) (r : RegisterId) (continuation : BlockId) → slice_get (frames_of x) n ≡ Some f →
    slice_get (frames_of x) (suc n) ≡ Some g →
    g.role ≡ role.Child r continuation → r.0 < length f.registers.items

abbrev pub counted_of : Role → ℕ → ℕ
counted_of role.Body region = 0
counted_of (role.Child named continuation) region = cond (eqb named.0 region) 1 0

-- a frame counts the one above it within the region of its detach, and no other
abbrev pub counted_above : Option Frame → ℕ → ℕ
counted_above None region = 0
counted_above (Some f) region = counted_of f.role region

-- the worker runs the uppermost
abbrev pub runner_below : ℕ → Option Frame → Option ℕ
runner_below worker None = Some worker
runner_below worker (Some f) = None

-- what the scheduler knows of a frame on which this one stands, or none
pub record IsActivation (worker : ℕ) (f : Frame) (above : Option Frame) (a : Activation) : Type 0 where
  pub copy : IsCopy f a.frame
  pub callee : a.callee ≡ None
  pub runner : a.runner ≡ runner_below worker above
  pub counts : (region : ℕ) → counted_in a region ≡ counted_above above region
  pub as_many : length a.counts.items ≡ length f.registers.items

-- of the frame of this number
pub record IsFrameOf (worker : ℕ) (x : Strand) (n : ℕ) (a : Activation) : Type 0 where
  pub frame : Frame
  pub there : slice_get (frames_of x) n ≡ Some frame
  pub is : IsActivation worker frame (slice_get (frames_of x) (suc n)) a

pub record IsLink (worker : ℕ) (x : Strand) (n : ℕ) (l : Link Activation) : Type 0 where
  pub path : l.path.numbers ≡ path_of x n
  pub frame : IsFrameOf worker x n l.frame

-- the frames above the base, the lowest first
pub record AreLinks (worker : ℕ) (x : Strand) (links : List (Link Activation)) : Type 0 where
  pub many : length links ≡ length x.below.items
  pub each : (i : ℕ) (l : Link Activation) → slice_get links i ≡ Some l → IsLink worker x (suc i) l
