-- What a text's limits leave of the functions that it means.
use Rattle.std.proofs.Common.{◌≡◌, ◌∙◌, ℕ, List, [], length, Option, Some, None, sym, ap, subst, Result, Ok}
use Rattle.std.specs.List.{All}
use Rattle.std.proofs.lemmas.List.Elements.{All-append, All-nil, All-weaker}
use Rattle.linear.specs.declared.form.Form.{Form}
use Rattle.program.specs.declared.annotation.Inequality.{Inequality}
use Rattle.program.specs.declared.annotation.Left.{Left}
use Rattle.program.specs.declared.annotation.Measure.{Measure}
use Rattle.program.specs.declared.annotation.Pending.{Pending}
use Rattle.program.specs.declared.annotation.Zone.{Zone}
use Rattle.program.specs.declared.function.Block.{Block}
use Rattle.program.specs.declared.function.Function.{Function}
use Rattle.program.specs.declared.function.Program.{Program}
use Rattle.program.specs.declared.instruction.Ending.{Ending}
use Rattle.program.specs.declared.instruction.Phi.{Phi}
use Rattle.program.specs.declared.instruction.Step.{Step}
use Rattle.syntax.specs.declared.annotation.FunctionNotes.{FunctionNotes}
use Rattle.syntax.specs.declared.annotation.Inequality.{Inequality as InequalityText}
use Rattle.syntax.specs.declared.annotation.Left.{Left as LeftText}
use Rattle.syntax.specs.declared.annotation.Pending.{Pending as PendingText}
use Rattle.syntax.specs.declared.annotation.Relation.{Relation}
use Rattle.syntax.specs.declared.annotation.Relation.TheVariants.{AtMost, AtLeast}
use Rattle.syntax.specs.declared.annotation.Zone.{Zone as ZoneText}
use Rattle.syntax.specs.declared.instruction.Phi.{Phi as PhiText}
use Rattle.syntax.specs.declared.instruction.Step.{Step as StepText}
use Rattle.syntax.specs.declared.module.Block.{Block as BlockText}
use Rattle.syntax.specs.declared.module.Function.{Function as FunctionText}
use Rattle.syntax.specs.declared.module.Module.{Module}
use Rattle.syntax.specs.declared.module.ResultType.{ResultType}
use Rattle.syntax.specs.declared.operator.Mode.{Mode}
use Rattle.syntax.specs.declared.terminator.Ending.{Ending as EndingText}
use Rattle.refusal.specs.declared.broken.Broken.{Broken}
use Rattle.ir_annotation.specs.Annotations.{IsInequality, IsZone, IsPending, IsLeft}
use Rattle.ir_reader.specs.Kept.{IsZoneOf, AreFunctionNotesWritten, IsPhiWritten, IsStepWritten, IsEndingWritten, IsEndingWrittenIfAny, IsBlockWritten, IsKeptFunction, IsKeptModule}
use Rattle.ir_reader.proofs.Keeping.{answers_kept}
use Rattle.types.specs.declared.names.form.AnnotationPlace.{AnnotationPlace}
use Rattle.types.specs.declared.names.form.AnnotationPlace.TheVariants as place
use Rattle.types.specs.declared.names.layout.Layout.{Layout}
use Rattle.types.specs.names.Address.{Items}
use Rattle.types.specs.names.Form.{inequality_between, inequality_of, inequalities_of}
use Rattle.types.specs.names.Item.{items_of}
use Rattle.types.specs.names.Layout.{layout_of}
use Rattle.types.specs.names.Note.{zone_of, zones_of, more_zones, pending_of, left_of}
use Rattle.types.specs.names.Scope.{Scope}
use Rattle.types.proofs.names.Inversion.{made_ok, then_ok, both_ok, same_ok, all_from_ok}
use Rattle.types.specs.Block.{block_with, block_of}
use Rattle.types.specs.Call.{Named}
use Rattle.types.specs.Function.{result_register, head_zones_of, function_with, function_of, functions_of}
use Rattle.types.specs.Instruction.{phi_of, step_of}
use Rattle.types.specs.Meaning.{Means}
use Rattle.types.specs.Terminator.{known_ending_of, ending_of}
use Rattle.verifier.proofs.Lists.{each_of}
use Rattle.laws_verdict.specs.Limited.{IsLimited}
use Rattle.laws_verdict.specs.Written.{AreSidesLimited, AreEndsLimited, TakesWords, IsStepLimited, IsEndLimited, IsEndLimitedIfAny, IsBlockLimited, IsFunctionLimited, FormsAreLimited}
use Rattle.laws_verdict.proofs.limits.Forms.{form_limited}
use Rattle.laws_verdict.proofs.limits.Words.{meant_from, words_of, phi_words, end_words}

-- ---- annotations

module _ (scope : Scope) (stands : AnnotationPlace) where
  between_limited : (line : ℕ) (relation : Relation) (left right : Form) → IsLimited left → IsLimited right → AreSidesLimited (inequality_between line relation left right)
  between_limited line AtMost left right h k = record { low = h; high = k }
  between_limited line AtLeast left right h k = record { low = k; high = h }

  sides_limited : (text : InequalityText) (q : Inequality) → IsInequality text → inequality_of scope stands text ≡ Ok q → AreSidesLimited q
  sides_limited text q kept e =
      let part = then_ok _ _ q e in
      let forms = both_ok _ _ part.0 part.1 in
      let made = made_ok _ _ q part.2 in
      subst AreSidesLimited made.2
      (between_limited text.line text.relation part.0.0 part.0.1 (form_limited scope stands text.line text.left part.0.0 kept.left forms.0)
      (form_limited scope stands text.line text.right part.0.1 kept.right forms.1))

  pub inequalities_limited : (texts : List InequalityText) (qs : List Inequality) → All IsInequality texts → inequalities_of scope stands texts ≡ Ok qs → All AreSidesLimited qs
  inequalities_limited texts qs kept e =
      let f : ℕ → InequalityText → Result Inequality Broken = λ _. inequality_of scope stands in
      meant_from f IsInequality AreSidesLimited (λ n x y h k. sides_limited x y h k) 0 texts qs kept (each_of f texts qs e)

  module _ (items : Items) where
    pub ends_limited : (text : ZoneText) (z : Zone) → IsZone text → zone_of items scope stands text ≡ Ok z → AreEndsLimited z
    ends_limited text z kept e =
        let made = made_ok _ _ z e in
        let forms = both_ok _ _ made.0.1 (both_ok _ _ made.0 made.1).1 in
        subst AreEndsLimited made.2
        (record { low = form_limited scope stands text.line text.low made.0.1.0 kept.low forms.0; high = form_limited scope stands text.line text.high made.0.1.1 kept.high forms.1 })

    -- behind others that are
    pub more_limited : (before : Result (List Zone) Broken) (texts : List ZoneText) (zs : List Zone) → All IsZone texts → ((xs : List Zone) → before ≡ Ok xs → All AreEndsLimited xs) →
        more_zones items scope stands before texts ≡ Ok zs → All AreEndsLimited zs
    more_limited before texts zs kept rest e =
        let f : ℕ → ZoneText → Result Zone Broken = λ _. zone_of items scope stands in
        let whole = all_from_ok f 0 before texts zs e in
        let more : All AreEndsLimited whole.1 = meant_from f IsZone AreEndsLimited (λ n x y h k. ends_limited x y h k) 0 texts whole.1 kept whole.4 in
        subst (All AreEndsLimited) (sym whole.3) (All-append AreEndsLimited whole.0 whole.1 (rest whole.0 whole.2) more)

    pub zones_limited : (texts : List ZoneText) (zs : List Zone) → All IsZone texts → zones_of items scope stands texts ≡ Ok zs → All AreEndsLimited zs
    zones_limited texts zs kept e = more_limited (Ok []) texts zs kept (λ xs h. subst (All AreEndsLimited) (same_ok [] xs h) (All-nil AreEndsLimited)) e

of_mode : (mode : Mode) (texts : List ZoneText) → All (IsZoneOf mode) texts → All IsZone texts
of_mode mode texts h = All-weaker (IsZoneOf mode) IsZone (λ x k. k.zone) texts h

-- ---- blocks

abbrev ArePendingLimited : Pending → Type 0
ArePendingLimited p = AreEndsLimited p.zone

module _ (items : Items) (functions : List FunctionText) (named : Named) (scope : Scope) (f b : ℕ) (result : ResultType) where
  pending_limited : (text : PendingText) (p : Pending) → IsPending text → pending_of items scope b text ≡ Ok p → AreEndsLimited p.zone
  pending_limited text p kept e =
      let made = made_ok _ _ p e in
      let P : Pending → Type 0 = λ x. AreEndsLimited x.zone in
      subst P made.2 (ends_limited scope (place.Start b) items text.zone made.0.1 kept.zone (both_ok _ _ made.0 made.1).1)

  record IsLeftLimited (left : Left) : Type 0 where
    calls : IsLimited left.self_calls
    instructions : IsLimited left.instructions

  left_limited : (text : LeftText) (left : Left) → IsLeft text → left_of scope b text ≡ Ok left → IsLeftLimited left
  left_limited text left kept e =
      let made = made_ok _ _ left e in
      let forms = both_ok _ _ made.0 made.1 in
      subst IsLeftLimited made.2
      (record { calls = form_limited scope (place.Start b) text.line text.self_calls made.0.0 kept.self_calls forms.0; instructions = form_limited scope (place.Start b) text.line text.instructions made.0.1 kept.instructions forms.1 })

  step_limited : (text : StepText) (step : Step) → IsStepWritten text → step_of items functions named scope f b text ≡ Ok step → IsStepLimited step
  step_limited text step kept e =
      let made = made_ok _ _ step e in
      let parts = both_ok _ _ made.0 made.1 in
      subst IsStepLimited made.2
      (record { shows = inequalities_limited scope place.Body text.shows made.0.0 kept.shows parts.0; words = words_of items functions named scope f b text.line text.instruction made.0.1 kept.instruction parts.1 })

  end_limited : (text : EndingText) (ending : Ending) → IsEndingWritten text → known_ending_of scope result text ≡ Ok ending → IsEndLimited ending
  end_limited text ending kept e =
      let made = made_ok _ _ ending e in
      let parts = both_ok _ _ made.0 made.1 in
      subst IsEndLimited made.2
      (record { shows = inequalities_limited scope place.Body text.shows made.0.0 kept.shows parts.0; words = end_words scope text.line result text.terminator made.0.1 kept.terminator parts.1 })

  ending_limited : (text : Option EndingText) (ending : Option Ending) → IsEndingWrittenIfAny text → ending_of scope result text ≡ Ok ending → IsEndLimitedIfAny ending
  ending_limited None ending kept e = let none : Option Ending = None in subst IsEndLimitedIfAny (same_ok none ending e) tt
  ending_limited (Some text) ending kept e =
      let made = made_ok _ _ ending e in
      subst IsEndLimitedIfAny made.2 (end_limited text made.0 kept made.1)

  pub block_limited : (text : BlockText) (block : Block) → IsBlockWritten text → block_of items functions named scope f result b text ≡ Ok block → IsBlockLimited block
  block_limited text block kept e =
      let made = made_ok _ _ block e in
      let parts = both_ok _ _ made.0 made.1 in
      let head = made_ok _ _ made.0.0 parts.0 in
      let heads = both_ok _ _ head.0 head.1 in
      let front = both_ok _ _ head.0.0 heads.0 in
      let back = both_ok _ _ head.0.1 heads.1 in
      let body = made_ok _ _ made.0.1 parts.1 in
      let bodies = both_ok _ _ body.0 body.1 in
      let rest = both_ok _ _ body.0.1 bodies.1 in
      let left = left_limited text.notes.left head.0.1.0 kept.notes.left back.0 in
      let p : ℕ → PendingText → Result Pending Broken = λ _. pending_of items scope b in
      let q : ℕ → PhiText → Result Phi Broken = λ _. phi_of scope in
      let s : ℕ → StepText → Result Step Broken = λ _. step_of items functions named scope f b in
      let by_head = ap (λ h. block_with text.line h made.0.1) head.2 ∙ made.2 in
      let by_body = ap (block_with text.line made.0.0) body.2 ∙ made.2 in
      record {
        keeps = subst (λ (x : Block). All AreSidesLimited x.keeps) by_head (inequalities_limited scope (place.Start b) text.notes.keeps head.0.0.0 kept.notes.keeps front.0);
        pending = subst (λ (x : Block). All ArePendingLimited x.pending) by_head
            (meant_from p IsPending ArePendingLimited (λ n x y h k. pending_limited x y h k) 0 text.notes.pending head.0.0.1 kept.notes.pending (each_of p text.notes.pending head.0.0.1 front.1));
        calls = subst (λ (x : Block). IsLimited x.left.self_calls) by_head left.calls;
        instructions = subst (λ (x : Block). IsLimited x.left.instructions) by_head left.instructions;
        foot = subst (λ (x : Block). All AreEndsLimited x.foot) by_head (zones_limited scope place.Body items text.notes.foot head.0.1.1 kept.notes.foot back.1);
        phis = subst (λ (x : Block). All TakesWords x.phis) by_body
            (meant_from q IsPhiWritten TakesWords (λ n x y h k. phi_words scope x y h k) 0 text.phis body.0.0 kept.phis (each_of q text.phis body.0.0 bodies.0));
        steps = subst (λ (x : Block). All IsStepLimited x.steps) by_body
            (meant_from s IsStepWritten IsStepLimited (λ n x y h k. step_limited x y h k) 0 text.steps body.0.1.0 kept.steps (each_of s text.steps body.0.1.0 rest.0));
        ending = subst (λ (x : Block). IsEndLimitedIfAny x.ending) by_body (ending_limited text.ending body.0.1.1 kept.ending rest.1);
      }

-- ---- functions

module _ (items : Items) (functions : List FunctionText) (named : Named) where
  head_zones_limited : (scope : Scope) (notes : FunctionNotes) (zs : List Zone) → AreFunctionNotesWritten notes → head_zones_of items scope notes ≡ Ok zs → All AreEndsLimited zs
  head_zones_limited scope notes zs kept e =
      more_limited scope place.Head items (more_zones items scope place.Head (zones_of items scope place.Head notes.reads) notes.writes) notes.adds zs (of_mode _ notes.adds kept.adds)
      (λ ys writes. more_limited scope place.Head items (zones_of items scope place.Head notes.reads) notes.writes ys (of_mode _ notes.writes kept.writes)
      (λ xs reads. zones_limited scope place.Head items notes.reads xs (of_mode _ notes.reads kept.reads) reads) writes) e

  function_limited : (f : ℕ) (text : FunctionText) (function : Function) → IsKeptFunction text → function_of items functions named f text ≡ Ok function → IsFunctionLimited function
  function_limited f text function kept e =
      let made = made_ok _ _ function e in
      let parts = both_ok _ _ made.0 made.1 in
      let head = made_ok _ _ made.0.0 parts.0 in
      let heads = both_ok _ _ head.0 head.1 in
      let front = both_ok _ _ head.0.0 heads.0 in
      let back = both_ok _ _ head.0.1 heads.1 in
      let measure = made_ok _ _ head.0.1.1 back.1 in
      let layout : Layout = layout_of text in
      let notes = kept.written.notes in
      let g : ℕ → BlockText → Result Block Broken = block_of items functions named layout.scope f text.result_type in
      subst IsFunctionLimited (ap (λ (g : List Block → Function). g made.0.1) (ap (function_with text layout) head.2) ∙ made.2)
      (record {
        requirements = inequalities_limited layout.scope place.Head text.notes.requirements head.0.0.0 notes.requirements front.0;
        guarantees = inequalities_limited layout.scope (place.Guarantee (result_register text.result_type (length layout.registers))) text.notes.guarantees head.0.0.1 notes.guarantees front.1;
        zones = head_zones_limited layout.scope text.notes head.0.1.0 notes back.0;
        measure = subst (λ (x : Measure). IsLimited x.form) measure.2 (form_limited layout.scope place.Head text.notes.measure.line text.notes.measure.form measure.0 notes.measure.form measure.1);
        blocks = meant_from g IsBlockWritten IsBlockLimited (λ n x y h k. block_limited items functions named layout.scope f n text.result_type x y h k) 0 text.blocks made.0.1 kept.written.blocks (each_of g text.blocks made.0.1 parts.1);
      })

pub means_limited : (whole : Module) → IsKeptModule whole → (program : Program) → Means whole (Ok program) → All IsFunctionLimited program.functions
means_limited whole kept program m =
    let made = made_ok _ _ program m.2 in
    let are : functions_of (items_of whole) whole.functions m.0 ≡ Ok program.functions = (both_ok _ _ made.0 made.1).1 ∙ ap (λ (p : Program). Ok p.functions) made.2 in
    let f : ℕ → FunctionText → Result Function Broken = function_of (items_of whole) whole.functions m.0 in
    meant_from f IsKeptFunction IsFunctionLimited (λ n x y h k. function_limited (items_of whole) whole.functions m.0 n x y h k) 0 whole.functions program.functions kept.functions (each_of f whole.functions program.functions are)

pub forms_are_limited : FormsAreLimited
forms_are_limited program read = means_limited read.whole (answers_kept read.text read.whole read.answers) program read.means
