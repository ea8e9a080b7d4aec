-- Annotations, each put behind those of its kind.
use Rattle.std.specs.Prelude.{true, [], ◌∷◌, ◌++◌, Option, Some, None, if◌then◌else◌}
use Rattle.ir_annotation.specs.declared.meaning.Annotation.{Annotation}
use Rattle.ir_annotation.specs.declared.meaning.Annotation.TheVariants as annotation
use Rattle.syntax.specs.declared.operator.Mode.{Mode}
use Rattle.syntax.specs.declared.operator.Mode.TheVariants as mode
use Rattle.syntax.specs.declared.annotation.Zone.{Zone}
use Rattle.syntax.specs.declared.annotation.Inequality.{Inequality}
use Rattle.syntax.specs.declared.annotation.Pending.{Pending}
use Rattle.syntax.specs.declared.annotation.Left.{Left}
use Rattle.syntax.specs.declared.annotation.Measure.{Measure}
use Rattle.syntax.specs.declared.annotation.Budget.{Budget}
use Rattle.syntax.specs.declared.annotation.FunctionNotes.{FunctionNotes}
use Rattle.syntax.specs.declared.annotation.BlockNotes.{BlockNotes}
use Rattle.syntax.specs.declared.module.Block.{Block}
use Rattle.syntax.specs.declared.module.Function.{Function}
use Rattle.ir_reader.specs.declared.annotating.FunctionHead.{FunctionHead}
use Rattle.ir_reader.specs.declared.annotating.BlockHead.{BlockHead}

abbrev pub with_function_notes : Function → FunctionNotes → Function
with_function_notes f notes = record f { notes = notes }

abbrev pub with_block_notes : Block → BlockNotes → Block
with_block_notes b notes = record b { notes = notes }

abbrev pub with_zone_of : Mode → Function → Zone → Function
with_zone_of mode.Reads f zone = with_function_notes f (record f.notes { reads = f.notes.reads ++ zone ∷ [] })
with_zone_of mode.Writes f zone = with_function_notes f (record f.notes { writes = f.notes.writes ++ zone ∷ [] })
with_zone_of mode.Adds f zone = with_function_notes f (record f.notes { adds = f.notes.adds ++ zone ∷ [] })

abbrev pub with_zone : Function → Zone → Function
with_zone f zone = with_zone_of zone.mode f zone

abbrev pub with_requirement : Function → Inequality → Function
with_requirement f i = with_function_notes f (record f.notes { requirements = f.notes.requirements ++ i ∷ [] })

abbrev pub with_guarantee : Function → Inequality → Function
with_guarantee f i = with_function_notes f (record f.notes { guarantees = f.notes.guarantees ++ i ∷ [] })

abbrev pub with_measure : Function → Measure → Function
with_measure f measure = with_function_notes f (record f.notes { measure = measure })

abbrev pub with_budget : Function → Budget → Function
with_budget f budget = with_function_notes f (record f.notes { budget = budget })

-- at a function: any number of inequalities and zones, a measure once, a budget once
abbrev pub annotated_function : FunctionHead → Annotation → Option FunctionHead
annotated_function h (annotation.Requires i) = Some (record h { function = with_requirement h.function i })
annotated_function h (annotation.Ensures i) = Some (record h { function = with_guarantee h.function i })
annotated_function h (annotation.FunctionZone zone) = Some (record h { function = with_zone h.function zone })
annotated_function h (annotation.Measure measure) =
    if h.has_measure then None else Some (record h { function = with_measure h.function measure; has_measure = true })
annotated_function h (annotation.Budget budget) =
    if h.has_budget then None else Some (record h { function = with_budget h.function budget; has_budget = true })
annotated_function h _ = None

abbrev pub with_keeps : Block → Inequality → Block
with_keeps b i = with_block_notes b (record b.notes { keeps = b.notes.keeps ++ i ∷ [] })

abbrev pub with_pending : Block → Pending → Block
with_pending b p = with_block_notes b (record b.notes { pending = b.notes.pending ++ p ∷ [] })

abbrev pub with_left : Block → Left → Block
with_left b left = with_block_notes b (record b.notes { left = left })

abbrev pub with_foot : Block → Zone → Block
with_foot b zone = with_block_notes b (record b.notes { foot = b.notes.foot ++ zone ∷ [] })

-- at a block: any number of inequalities and zones, what is left once
abbrev pub annotated_block : BlockHead → Annotation → Option BlockHead
annotated_block h (annotation.Keeps i) = Some (record h { block = with_keeps h.block i })
annotated_block h (annotation.Pending p) = Some (record h { block = with_pending h.block p })
annotated_block h (annotation.Left left) = if h.has_left then None
    else Some (record { block = with_left h.block left; has_left = true })
annotated_block h (annotation.Foot zone) = Some (record h { block = with_foot h.block zone })
annotated_block h _ = None
