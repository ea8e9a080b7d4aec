-- Functions and blocks as their first lines open them, and what is put into them.
use Rattle.std.specs.Prelude.{ℕ, pos, List, [], ◌∷◌, ◌++◌, Some, None}
use Rattle.syntax.specs.declared.annotation.Form.{Form}
use Rattle.syntax.specs.declared.annotation.Inequality.{Inequality}
use Rattle.syntax.specs.declared.annotation.FunctionNotes.{FunctionNotes}
use Rattle.syntax.specs.declared.annotation.BlockNotes.{BlockNotes}
use Rattle.syntax.specs.declared.instruction.Phi.{Phi}
use Rattle.syntax.specs.declared.instruction.Instruction.{Instruction}
use Rattle.syntax.specs.declared.terminator.Terminator.{Terminator}
use Rattle.syntax.specs.declared.module.Global.{Global}
use Rattle.syntax.specs.declared.module.ResultType.{ResultType}
use Rattle.syntax.specs.declared.module.Parameter.{Parameter}
use Rattle.syntax.specs.declared.module.Block.{Block}
use Rattle.syntax.specs.declared.module.Function.{Function}
use Rattle.syntax.specs.declared.module.Module.{Module}

abbrev pub zero_form : Form
zero_form = record { terms = []; constant = pos 0 }

-- no measure and no budget is written: both are 0, on the function's line
abbrev pub no_function_notes : ℕ → FunctionNotes
no_function_notes line = record {
  requirements = [];
  guarantees = [];
  reads = [];
  writes = [];
  adds = [];
  measure = record { line = line; form = zero_form; bound = 0 };
  budget = record { line = line; self_calls = 0; instructions = 0 };
}

abbrev pub new_function : ℕ → List ℕ → ResultType → List Parameter → Function
new_function line name result_type parameters = record {
  line = line;
  name = name;
  result_type = result_type;
  parameters = parameters;
  notes = no_function_notes line;
  blocks = [];
}

-- nothing is written of what is left: it is 0, on the label's line
abbrev pub no_block_notes : ℕ → BlockNotes
no_block_notes line = record {
  keeps = [];
  pending = [];
  left = record { line = line; self_calls = zero_form; instructions = zero_form };
  foot = [];
}

abbrev pub new_block : ℕ → List ℕ → Block
new_block line label =
    record { line = line; label = label; notes = no_block_notes line; phis = []; steps = []; ending = None }

abbrev pub with_global : Module → Global → Module
with_global m g = record m { globals = m.globals ++ g ∷ [] }

abbrev pub with_function : Module → Function → Module
with_function m f = record m { functions = m.functions ++ f ∷ [] }

abbrev pub with_block : Function → Block → Function
with_block f b = record f { blocks = f.blocks ++ b ∷ [] }

abbrev pub with_phi : Block → Phi → Block
with_phi b p = record b { phis = b.phis ++ p ∷ [] }

abbrev pub with_step : Block → ℕ → List Inequality → Instruction → Block
with_step b line shows i = record b { steps = b.steps ++ record { line = line; shows = shows; instruction = i } ∷ [] }

abbrev pub with_ending : Block → ℕ → List Inequality → Terminator → Block
with_ending b line shows t = record b { ending = Some (record { line = line; shows = shows; terminator = t }) }
