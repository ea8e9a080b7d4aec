-- What a call makes: the callee's frame, and its caller, which waits.
use Rattle.std.specs.Prelude.{◌≡◌, ℕ, ◌+◌, ◌∷◌, List, length, Option, Some, None, pos}
use Rattle.semantics.specs.Paths.{Path}
use Rattle.semantics.specs.Frames as frames
use Rattle.semantics.specs.Frames.{Value}
use Rattle.semantics.specs.Effect.{argument_values}
use Rattle.semantics.specs.State.{called}
use Rattle.linear.specs.declared.form.RegisterId.{RegisterId}
use Rattle.program.specs.declared.identifier.FunctionId.{FunctionId}
use Rattle.program.specs.declared.instruction.Argument.{Argument}
use Rattle.frame.specs.declared.frame.Role.TheVariants as role
use Rattle.frame.specs.declared.frame.Wait.TheVariants as wait
use Rattle.frame_engine.specs.declared.activation.Frame.{Frame}
use Rattle.frame_engine.specs.declared.activation.Places.{Places}
use Rattle.frame_engine.specs.Activation.{ShowsFrame, allocas_of}
use Rattle.frame_engine.specs.Arguments.{ArgumentsAreWhole}
use Rattle.frame_engine.specs.Shows.{Layout, PointsAlike, ShowsBases}
use Rattle.frame_engine.specs.Words.{bases}
use Rattle.schedule_workers.specs.declared.activation.Activation.{Activation}
use Rattle.schedule_workers.specs.Scheduling.{counted_in}

-- a frame that the worker begins: the function's, with its allocas from the start of a block on
pub record IsCallee (places : Places) (caller : Frame) (worker : ℕ) (callee : FunctionId) (count : ℕ)
    (arguments : List Argument) (start : ℕ)
    (a : Activation) : Type 0 where
  pub is : a ≡ record { frame = a.frame; counts = a.counts; callee = None; runner = Some worker; stalled_in = None }
  pub none : (region : ℕ) → counted_in a region ≡ 0
  pub as_many : length a.counts.items ≡ count
  pub registers : length a.frame.registers.items ≡ count
  pub function : a.frame.function ≡ callee
  pub home : a.frame.home ≡ pos start
  pub role : a.frame.role ≡ role.Body
  pub waits : a.frame.waits ≡ wait.Nothing
  pub shown : (l k : Layout) (p : Path) (g : frames.Frame) (values : List Value) → ShowsFrame l places p g caller →
      ArgumentsAreWhole g arguments →
      argument_values g arguments ≡ Some values → PointsAlike l k values →
      ShowsBases k (bases places.globals (allocas_of places callee.0) (pos start)) (g.made ∷ p) →
      ShowsFrame k places (g.made ∷ p) (called p g callee.0 values) a.frame

-- the caller waits, and no worker runs it
abbrev pub waiting_on : Option RegisterId → ℕ → Activation → Activation
waiting_on register child a =
    record a {
      frame = record a.frame {
        place = record { block = a.frame.place.block; index = a.frame.place.index + 1 };
        made = a.frame.made + 1;
        waits = wait.Call a.frame.made register;
      };
      callee = Some child;
      runner = None;
    }
