-- Blocks.
use Rattle.std.specs.Prelude.{ℕ, List, Result}
use Rattle.program.specs.declared.function.Block.{Block}
use Rattle.syntax.specs.declared.annotation.BlockNotes.{BlockNotes}
use Rattle.syntax.specs.declared.module.Block.{Block as BlockText}
use Rattle.syntax.specs.declared.module.Function.{Function as FunctionText}
use Rattle.syntax.specs.declared.module.ResultType.{ResultType}
use Rattle.types.specs.declared.block.Body.{Body}
use Rattle.types.specs.declared.block.Head.{Head}
use Rattle.refusal.specs.declared.broken.Broken.{Broken as TypeFault}
use Rattle.types.specs.declared.names.form.AnnotationPlace.TheVariants as place
use Rattle.types.specs.names.Address.{Items}
use Rattle.types.specs.Call.{Named}
use Rattle.types.specs.names.Fault.{all_of, both_of, made_of}
use Rattle.types.specs.names.Form.{inequalities_of}
use Rattle.types.specs.Instruction.{phis_of, steps_of}
use Rattle.types.specs.names.Note.{all_pending_of, left_of, zones_of}
use Rattle.types.specs.names.Scope.{Scope}
use Rattle.types.specs.Terminator.{ending_of}

-- the annotations at a block's head
abbrev pub head_of : Items → Scope → ℕ → BlockNotes → Result Head TypeFault
head_of items scope block notes = made_of (λ p. record { keeps = p.0.0; pending = p.0.1; left = p.1.0; foot = p.1.1 })
    (both_of (both_of (inequalities_of scope (place.Start block) notes.keeps) (all_pending_of items scope block
    notes.pending)) (both_of (left_of scope block notes.left) (zones_of items scope place.Body notes.foot)))

abbrev pub body_of : Items → List FunctionText → Named → Scope → ℕ → ℕ → ResultType → BlockText → Result Body TypeFault
body_of items functions named scope function block result text =
    made_of (λ p. record { phis = p.0; steps = p.1.0; ending = p.1.1 }) (both_of (phis_of scope text.phis)
    (both_of (steps_of items functions named scope function block text.steps) (ending_of scope result text.ending)))

abbrev pub block_with : ℕ → Head → Body → Block
block_with line head body =
    record {
      line = line;
      keeps = head.keeps;
      pending = head.pending;
      left = head.left;
      foot = head.foot;
      phis = body.phis;
      steps = body.steps;
      ending = body.ending;
    }

abbrev pub block_of : Items → List FunctionText → Named → Scope → ℕ → ResultType → ℕ → BlockText →
    Result Block TypeFault
block_of items functions named scope function result block text = made_of (λ p. block_with text.line p.0 p.1)
    (both_of (head_of items scope block text.notes) (body_of items functions named scope function block result text))

abbrev pub blocks_of : Items → List FunctionText → Named → Scope → ℕ → ResultType → List BlockText →
    Result (List Block) TypeFault
blocks_of items functions named scope function result texts =
    all_of (block_of items functions named scope function result) texts
