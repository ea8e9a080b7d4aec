-- A module, lines aside: each part is on line 0.
use Rattle.std.specs.Prelude.{List, map, option_map}
use Rattle.ir_annotation.specs.Annotations.{inequality_on, zone_on, pending_on, measure_on, budget_on, left_on}
use Rattle.syntax.specs.declared.annotation.Inequality.{Inequality}
use Rattle.syntax.specs.declared.annotation.Zone.{Zone}
use Rattle.syntax.specs.declared.annotation.FunctionNotes.{FunctionNotes}
use Rattle.syntax.specs.declared.annotation.BlockNotes.{BlockNotes}
use Rattle.syntax.specs.declared.instruction.Phi.{Phi}
use Rattle.syntax.specs.declared.instruction.Step.{Step}
use Rattle.syntax.specs.declared.terminator.Ending.{Ending}
use Rattle.syntax.specs.declared.module.Global.{Global}
use Rattle.syntax.specs.declared.module.Block.{Block}
use Rattle.syntax.specs.declared.module.Function.{Function}
use Rattle.syntax.specs.declared.module.Module.{Module}

abbrev pub unlined_inequalities : List Inequality → List Inequality
unlined_inequalities is = map (inequality_on 0) is

abbrev pub unlined_zones : List Zone → List Zone
unlined_zones zs = map (zone_on 0) zs

abbrev pub unlined_function_notes : FunctionNotes → FunctionNotes
unlined_function_notes n = record {
  requirements = unlined_inequalities n.requirements;
  guarantees = unlined_inequalities n.guarantees;
  reads = unlined_zones n.reads;
  writes = unlined_zones n.writes;
  adds = unlined_zones n.adds;
  measure = measure_on 0 n.measure;
  budget = budget_on 0 n.budget;
}

abbrev pub unlined_block_notes : BlockNotes → BlockNotes
unlined_block_notes n = record {
  keeps = unlined_inequalities n.keeps;
  pending = map (pending_on 0) n.pending;
  left = left_on 0 n.left;
  foot = unlined_zones n.foot;
}

abbrev pub unlined_phi : Phi → Phi
unlined_phi p = record p { line = 0 }

abbrev pub unlined_step : Step → Step
unlined_step s = record { line = 0; shows = unlined_inequalities s.shows; instruction = s.instruction }

abbrev pub unlined_ending : Ending → Ending
unlined_ending e = record { line = 0; shows = unlined_inequalities e.shows; terminator = e.terminator }

abbrev pub unlined_block : Block → Block
unlined_block b = record {
  line = 0;
  label = b.label;
  notes = unlined_block_notes b.notes;
  phis = map unlined_phi b.phis;
  steps = map unlined_step b.steps;
  ending = option_map unlined_ending b.ending;
}

abbrev pub unlined_function : Function → Function
unlined_function f = record {
  line = 0;
  name = f.name;
  result_type = f.result_type;
  parameters = f.parameters;
  notes = unlined_function_notes f.notes;
  blocks = map unlined_block f.blocks;
}

abbrev pub unlined_global : Global → Global
unlined_global g = record g { line = 0 }

abbrev pub unlined : Module → Module
unlined m = record { globals = map unlined_global m.globals; functions = map unlined_function m.functions }
