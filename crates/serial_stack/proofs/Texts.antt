-- What the text gives at a place.
use Rattle.std.proofs.Common.{◌≡◌, ℕ, List, ◌∙◌, Some}
use Rattle.semantics.specs.Frames.{Item, item_at}
use Rattle.program.specs.declared.function.Program.{Program}
use Rattle.frame_engine.specs.declared.activation.Places.{Places}
use Rattle.serial_stack.specs.Steps.{Run}
use Rattle.serial_stack.specs.StackShown.{ShowsRun, item_here, place_of}
use Rattle.serial_stack.specs.declared.stack.Stack.{Stack}
pub use Rattle.frame_engine.proofs.Texts.{Located, located, sizes_in, ends_fit, does_fit, starts_block, behind_step, frame_stands}

-- at the place of the frame on top stands what stands there in the definitions
pub placed : (globals : List ℕ) (prog : Program) (places : Places) (s : Run) (k : Stack) (i : Item) → ShowsRun globals prog places s k → item_here prog k.top.value ≡ Some i → place_of prog s ≡ Some i
placed globals prog places s k i h e = let t = h.top.shown in (λ j. item_at prog (t.function j) (t.block j) (t.index j)) ∙ e
