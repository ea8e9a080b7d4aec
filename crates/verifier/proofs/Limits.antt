-- The limits of a text hold of the program that it means.
use Rattle.std.proofs.Common.{◌≡◌, ◌∙◌, ℕ, ◌≤◌, List, length, Some, Ok, ap, subst, arith}
use Rattle.std.specs.Prelude.{slice_get}
use Rattle.std.specs.List.{Contains}
use Rattle.std.proofs.lemmas.List.Elements.{All-contains, Contains-get_or}
use Rattle.std.proofs.lemmas.Option.{get_or_from_slice_get, slice_get_within}
use Rattle.program.specs.declared.annotation.Measure.{Measure}
use Rattle.program.specs.declared.function.Block.{Block}
use Rattle.program.specs.declared.function.Function.{Function}
use Rattle.program.specs.declared.function.Program.{Program}
use Rattle.syntax.specs.declared.module.Function.{Function as FunctionText}
use Rattle.syntax.specs.declared.module.Module.{Module}
use Rattle.ir_reader.specs.Kept.{IsKeptFunction, IsKeptModule}
use Rattle.ir_reader.specs.Reading.{Answers}
use Rattle.ir_reader.proofs.Keeping.{answers_kept}
use Rattle.types.specs.names.Item.{items_of}
use Rattle.types.specs.names.Layout.{layout_of}
use Rattle.types.proofs.names.Inversion.{all_at, both_ok, made_ok}
use Rattle.types.specs.Function.{function_of, function_with, functions_of}
use Rattle.types.specs.Meaning.{Means}
use Rattle.verifier.specs.Limits.{IsWithinLimits}
use Rattle.verifier.proofs.Lists.{all_count}

module _ (whole : Module) (kept : IsKeptModule whole) (program : Program) (m : Means whole (Ok program)) where
  functions_are : functions_of (items_of whole) whole.functions m.0 ≡ Ok program.functions
  functions_are =
      let made = made_ok _ _ program m.2 in
      (both_ok _ _ made.0 made.1).1 ∙ ap (λ (p : Program). Ok p.functions) made.2

  record IsSmall (function : Function) : Type 0 where
    pub blocks : length function.blocks ≤ 1024
    pub measure : function.measure.bound ≤ 4096

  small : (f : ℕ) (function : Function) → slice_get program.functions f ≡ Some function → IsSmall function
  small f function at =
      let found = all_at (function_of (items_of whole) whole.functions m.0) whole.functions program.functions f function functions_are at in
      let text : FunctionText = found.0 in
      let right : IsKeptFunction text = All-contains IsKeptFunction whole.functions text kept.functions (within whole.functions f text found.1) in
      let made = made_ok _ _ function found.2 in
      let parts = both_ok _ _ made.0 made.1 in
      let head = made_ok _ _ made.0.0 parts.0 in
      let back = (both_ok _ _ head.0 head.1).1 in
      let measure = made_ok _ _ head.0.1.1 (both_ok _ _ head.0.1 back).1 in
      let blocks : length function.blocks ≡ length text.blocks =
      all_count _ text.blocks function.blocks (parts.1 ∙ ap (λ (g : Function). Ok g.blocks) made.2) in
      let few = right.within.blocks in
      let bound = right.written.notes.measure.bound in
      let same : text.notes.measure.bound ≡ function.measure.bound =
      ap (λ (x : Measure). x.bound) measure.2
      ∙ ap (λ (g : Function). g.measure.bound) (ap (λ (g : List Block → Function). g made.0.1) (ap (function_with text (layout_of text)) head.2) ∙ made.2) in
      record { blocks = omega (arith, blocks, few); measure = omega (arith, same, bound) }
    where
      within : (xs : List FunctionText) (k : ℕ) (x : FunctionText) → slice_get xs k ≡ Some x → Contains xs x
      within xs k x e = subst (Contains xs) (get_or_from_slice_get xs k x x e) (Contains-get_or xs k x (slice_get_within xs k x e))

  within_by : IsWithinLimits program
  within_by = record {
    functions = let n : length program.functions ≡ length whole.functions = all_count _ whole.functions program.functions functions_are in let l = kept.function_count in omega (arith, n, l);
    blocks = λ f function at. (small f function at).blocks;
    measures = λ f function at. (small f function at).measure;
  }

pub within_limits : (text : List ℕ) (whole : Module) → Answers text (Ok whole) → (program : Program) → Means whole (Ok program) → IsWithinLimits program
within_limits text whole a program m = within_by whole (answers_kept text whole a) program m
