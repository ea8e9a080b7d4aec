-- What a function's text means, by its parts that were judged together.
use Rattle.std.proofs.Common.{◌≡◌, ◌∙◌, ℕ, List, map, ap, Result, Ok, Err}
use Rattle.program.specs.declared.annotation.Budget.{Budget}
use Rattle.program.specs.declared.function.Block.{Block}
use Rattle.program.specs.declared.function.Function.{Function}
use Rattle.program.specs.declared.function.Parameter.{Parameter}
use Rattle.syntax.specs.declared.module.Function.{Function as FunctionText}
use Rattle.refusal.specs.declared.refused.Refused.{Refused}
use Rattle.types.specs.declared.function.Head.{Head}
use Rattle.types.specs.declared.names.layout.Layout.{Layout}
use Rattle.types.specs.Block.{blocks_of}
use Rattle.types.specs.Call.{Named, parameter_of}
use Rattle.types.specs.Function.{function_of, function_with, head_of, resolved_budget}
use Rattle.types.specs.names.Address.{Items}
use Rattle.types.specs.names.Fault.{both_of}
use Rattle.types.specs.names.Told.{both_answers, Gives}
use Rattle.types.specs.names.Layout.{layout_of}
use Rattle.types.proofs.names.Giving.{gives_from}
use Rattle.types.proofs.names.Kept.{kept_give, good_kept, bad_kept, same_parts}

abbrev pub whole : FunctionText → Layout → Head → List Block → List ℕ → List Parameter → Budget → Function
whole text layout head blocks name parameters budget = record {
  line = text.line;
  name = name;
  result_type = text.result_type;
  parameters = parameters;
  registers = layout.registers;
  allocas = layout.allocas;
  requirements = head.requirements;
  guarantees = head.guarantees;
  zones = head.zones;
  measure = head.measure;
  budget = budget;
  blocks = blocks;
}

same_whole : (text : FunctionText) (layout other : Layout) (head : Head) (blocks : List Block) (name name' : List ℕ) (parameters parameters' : List Parameter) (budget budget' : Budget) →
    layout ≡ other → name ≡ name' → parameters ≡ parameters' → budget ≡ budget' → whole text other head blocks name' parameters' budget' ≡ whole text layout head blocks name parameters budget
same_whole text layout other head blocks name name' parameters parameters' budget budget' el en ep eb = rw (el, en, ep, eb)

module _
    (items : Items)
    (functions : List FunctionText)
    (named : Named)
    (place : ℕ)
    (text : FunctionText)
    (layout : Layout)
    (head : Result Head Refused)
    (blocks : Result (List Block) Refused)
    (signature : Result (List ℕ × List Parameter) Refused)
    (inner : Result (Head × List Block) Refused)
    (outer : Result ((Head × List Block) × (List ℕ × List Parameter)) Refused)
    (laid : layout ≡ layout_of text)
    (joined : inner ≡ both_answers head blocks)
    (signed : outer ≡ both_answers inner signature)
    (of_head : Gives head (head_of items layout text.result_type text.notes))
    (of_blocks : Gives blocks (blocks_of items functions named layout.scope place text.result_type text.blocks))
    (of_signature : Gives signature (Ok (text.name, map parameter_of text.parameters)))
  where
    given : Gives outer (both_of (both_of (head_of items (layout_of text) text.result_type text.notes) (blocks_of items functions named (layout_of text).scope place text.result_type text.blocks)) (Ok (text.name, map parameter_of text.parameters)))
    given =
        kept_give head _ blocks _ signature _ inner outer joined signed
        (gives_from (λ l. head_of items l text.result_type text.notes) head layout (layout_of text) laid of_head)
        (gives_from (λ l. blocks_of items functions named l.scope place text.result_type text.blocks) blocks layout (layout_of text) laid of_blocks)
        of_signature

    pub function_fault : (fault : Refused) → outer ≡ Err fault → Gives (Err fault) (function_of items functions named place text)
    function_fault fault e = bad_kept (λ (p : Head × List Block). function_with text (layout_of text) p.0 p.1) outer _ _ fault e given

    pub function_good : (a : Head) (b : List Block) (name : List ℕ) (parameters : List Parameter) (budget : Budget) →
        outer ≡ Ok ((a, b), (name, parameters)) → budget ≡ resolved_budget text.notes.budget → function_of items functions named place text ≡ Ok (whole text layout a b name parameters budget)
    function_good a b name parameters budget e eb =
        let same = same_parts outer _ name text.name parameters (map parameter_of text.parameters) (a, b) e given in
        good_kept (λ (p : Head × List Block) v. function_with text (layout_of text) p.0 p.1) outer _ (text.name, map parameter_of text.parameters) (name, parameters) (a, b) e given
        ∙ ap Ok (same_whole text layout (layout_of text) a b name text.name parameters (map parameter_of text.parameters) budget (resolved_budget text.notes.budget) laid same.0 same.1 eb)
