-- Which item may stand behind which, and what it makes of the module so far.
use Rattle.std.specs.Prelude.{ℕ, false, List, [], ◌∷◌, ◌++◌, length, ◌==◌, Option, Some, None, if◌then◌else◌}
use Rattle.ir_annotation.specs.declared.meaning.Annotation.{Annotation}
use Rattle.ir_annotation.specs.declared.meaning.Annotation.TheVariants as annotation
use Rattle.ir_reader.specs.declared.item.item.Item.{Item}
use Rattle.ir_reader.specs.declared.item.item.Item.TheVariants as item
use Rattle.syntax.specs.declared.annotation.Inequality.{Inequality}
use Rattle.syntax.specs.declared.module.Block.{Block}
use Rattle.syntax.specs.declared.module.Function.{Function}
use Rattle.syntax.specs.declared.module.Module.{Module}
use Rattle.ir_reader.specs.declared.annotating.FunctionHead.{FunctionHead}
use Rattle.ir_reader.specs.declared.annotating.BlockHead.{BlockHead}
use Rattle.ir_reader.specs.declared.draft.Draft.{Draft}
use Rattle.ir_reader.specs.declared.draft.LineContext.{LineContext}
use Rattle.ir_reader.specs.declared.draft.LineContext.TheVariants as place
use Rattle.ir_reader.specs.Opening.{new_function, new_block, with_global, with_function, with_block, with_phi}
use Rattle.ir_reader.specs.Opening.{with_step, with_ending}
use Rattle.ir_reader.specs.Annotating.{annotated_function, annotated_block}

abbrev pub drafted : Module → LineContext → Draft
drafted m p = record { whole = m; place = p }

-- behind a label
abbrev pub new_place : Function → ℕ → List ℕ → LineContext
new_place f line label = place.BlockHead f (record { block = new_block line label; has_left = false })

abbrev pub placed_outside : Module → ℕ → Item → Option Draft
placed_outside m line (item.Global g) =
    if length m.functions == 0 then Some (drafted (with_global m g) place.Outside) else None
placed_outside m line (item.Define name result_type parameters) = Some (drafted m (place.FunctionHead
    (record { function = new_function line name result_type parameters; has_measure = false; has_budget = false })))
placed_outside m line _ = None

abbrev pub placed_at_function : Module → Option FunctionHead → Option Draft
placed_at_function m None = None
placed_at_function m (Some h) = Some (drafted m (place.FunctionHead h))

abbrev pub placed_in_function_head : Module → FunctionHead → ℕ → Item → Option Draft
placed_in_function_head m h line (item.Label label) = Some (drafted m (new_place h.function line label))
placed_in_function_head m h line (item.Annotation a) = placed_at_function m (annotated_function h a)
placed_in_function_head m h line _ = None

-- a label or the end of the function, behind a whole block
abbrev pub placed_in_ended : Module → Function → Block → ℕ → Item → Option Draft
placed_in_ended m f b line (item.Label label) = Some (drafted m (new_place (with_block f b) line label))
placed_in_ended m f b line item.Close = Some (drafted (with_function m (with_block f b)) place.Outside)
placed_in_ended m f b line _ = None

abbrev pub annotated_in_body : Module → Function → Block → List Inequality → Annotation → Option Draft
annotated_in_body m f b shows (annotation.Shows i) = Some (drafted m (place.Body f b (shows ++ i ∷ [])))
annotated_in_body m f b shows _ = None

-- behind `shows` lines only what they are shown for may stand
abbrev pub placed_behind : Module → Function → Block → List Inequality → ℕ → Item → Option Draft
placed_behind m f b shows line i = if length shows == 0 then placed_in_ended m f b line i else None

abbrev pub placed_in_body : Module → Function → Block → List Inequality → ℕ → Item → Option Draft
placed_in_body m f b shows line (item.Annotation a) = annotated_in_body m f b shows a
placed_in_body m f b shows line (item.Instruction i) = Some (drafted m (place.Body f (with_step b line shows i) []))
placed_in_body m f b shows line (item.Terminator t) = Some (drafted m (place.Ended f (with_ending b line shows t)))
placed_in_body m f b shows line i = placed_behind m f b shows line i

abbrev pub placed_in_phis : Module → Function → Block → ℕ → Item → Option Draft
placed_in_phis m f b line (item.Phi p) = Some (drafted m (place.Phis f (with_phi b p)))
placed_in_phis m f b line i = placed_in_body m f b [] line i

abbrev pub placed_at_block : Module → Function → Option BlockHead → Option Draft
placed_at_block m f None = None
placed_at_block m f (Some h) = Some (drafted m (place.BlockHead f h))

abbrev pub annotated_in_block_head : Module → Function → BlockHead → Annotation → Option Draft
annotated_in_block_head m f h (annotation.Shows i) = Some (drafted m (place.Body f h.block (i ∷ [])))
annotated_in_block_head m f h a = placed_at_block m f (annotated_block h a)

abbrev pub placed_in_block_head : Module → Function → BlockHead → ℕ → Item → Option Draft
placed_in_block_head m f h line (item.Annotation a) = annotated_in_block_head m f h a
placed_in_block_head m f h line i = placed_in_phis m f h.block line i

abbrev pub placed_in : Module → LineContext → ℕ → Item → Option Draft
placed_in m place.Outside line i = placed_outside m line i
placed_in m (place.FunctionHead h) line i = placed_in_function_head m h line i
placed_in m (place.BlockHead f h) line i = placed_in_block_head m f h line i
placed_in m (place.Phis f b) line i = placed_in_phis m f b line i
placed_in m (place.Body f b shows) line i = placed_in_body m f b shows line i
placed_in m (place.Ended f b) line i = placed_in_ended m f b line i

-- what was read, with the item of one more line; none where the item may not stand there
abbrev pub placed : Draft → ℕ → Item → Option Draft
placed d line i = placed_in d.whole d.place line i
