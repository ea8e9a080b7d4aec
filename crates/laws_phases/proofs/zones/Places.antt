-- What the rules on zones say of the place of a frame.
use Rattle.std.proofs.Common.{◌≡◌, ◌∙◌, ℕ, zero, suc, ◌<◌, List, [], ◌∷◌, length, Option, Some, Bool, true, inl, inr, refl, sym, ap, subst, arith}
use Rattle.std.specs.Prelude.{Contains, slice_get, slice_index_or}
use Rattle.std.specs.List.{All, list_all}
use Rattle.std.proofs.lemmas.List.Elements.{All-nil, All-cons}
use Rattle.std.proofs.lemmas.Bool.{true_from_ne_false, and_parts}
use Rattle.semantics.specs.Frames.{Frame, Does, Ends, item_of, item_at, block_at, and_then}
use Rattle.program.specs.declared.function.Block.{Block}
use Rattle.program.specs.declared.function.Function.{Function}
use Rattle.program.specs.declared.function.Program.{Program}
use Rattle.program.specs.declared.instruction.Ending.{Ending}
use Rattle.program.specs.declared.instruction.Instruction.{Instruction}
use Rattle.program.specs.declared.instruction.Step.{Step}
use Rattle.program.specs.declared.instruction.Terminator.{Terminator}
use Rattle.region_match.specs.declared.tables.Regions.{Regions}
use Rattle.refusal.specs.declared.broken.Broken.{Broken}
use Rattle.ranges.specs.declared.table.EdgeFacts.{EdgeFacts}
use Rattle.ranges.specs.Places.{facts_at_step, facts_at_end, edges_known}
use Rattle.footprints.specs.footprints_zones.declared.place.Use.{Use}
use Rattle.footprints.specs.Footprints.{step_use, end_use, passes_on}
use Rattle.footprints.specs.Rules.{place_in, IsEndBroken}
use Rattle.laws_phases.specs.zones.Uses.{StandsIn, task_of}
use Rattle.footprints.specs.Rules.{AreZonesRightBy}
use Rattle.laws_phases.proofs.defined.Items.{step_there}
use Rattle.laws_phases.proofs.facts.Places.{end_of}

pub get_is : {X : Type 0} (xs : List X) (k : ℕ) (d : X) → k < length xs → slice_get xs k ≡ Some (slice_index_or xs k d)
get_is [] k d lt = absurd (omega (arith, lt))
get_is (x ∷ xs) zero d lt = refl
get_is (x ∷ xs) (suc k) d lt = get_is xs k d (omega (arith, lt))

pub all_pass : {X : Type 0} (test : X → Bool) (xs : List X) → list_all test xs ≡ true → All (λ x. test x ≡ true) xs
all_pass test [] h = All-nil (λ x. test x ≡ true)
all_pass test (x ∷ xs) h = let e = and_parts (test x) (list_all test xs) h in All-cons (λ x. test x ≡ true) x xs e.0 (all_pass test xs e.1)

-- ---- what stands there

module _ (prog : Program) (f : Frame) (function : Function) (block : Block) (stands : StandsIn prog f function block) where
  pub item_in : item_at prog f.function f.block f.index ≡ item_of block.steps block.ending f.index
  item_in =
      let at : block_at prog f.function f.block ≡ Some block = ap (λ o. and_then o (λ (g : Function). slice_get g.blocks f.block)) stands.at_function ∙ stands.at_block in
      ap (λ o. and_then o (λ (b : Block). item_of b.steps b.ending f.index)) at

  pub step_here : (what : Instruction) → item_at prog f.function f.block f.index ≡ Some (Does what) → (step : Step) × (slice_get block.steps f.index ≡ Some step) × (step.instruction ≡ what)
  step_here what e = step_there block.steps block.ending f.index what (sym item_in ∙ e)

  pub ending_here : (t : Terminator) → item_at prog f.function f.block f.index ≡ Some (Ends t) → (end : Ending) × (block.ending ≡ Some end) × (f.index ≡ length block.steps) × (end.terminator ≡ t)
  ending_here t e = end_of block.steps block.ending f.index t (sym item_in ∙ e)

  -- ---- the rules there

  module _ (regions : Regions) (right : AreZonesRightBy prog regions) where
    abbrev pub used_by : Step → Use
    used_by step = step_use (place_in function (task_of regions f) block (facts_at_step prog.functions function f.block block f.index)) prog.functions block.steps step.line step.instruction

    pub step_covered : (step : Step) → slice_get block.steps f.index ≡ Some step → (used_by step).covered ≡ true
    step_covered step at = true_from_ne_false (used_by step).covered
        (λ e. right (record { line = step.line; number = (used_by step).number })
        (f.function, function, stands.at_function, (f.block, block, stands.at_block, inl (f.index, step, at, inl (refl, refl, e)))))

    pub step_clear : (step : Step) → slice_get block.steps f.index ≡ Some step → (used_by step).clear ≡ true
    step_clear step at = true_from_ne_false (used_by step).clear
        (λ e. right (record { line = step.line; number = 602 })
        (f.function, function, stands.at_function, (f.block, block, stands.at_block, inl (f.index, step, at, inr (refl, refl, e)))))

    abbrev pub used_at_end : Ending → Use
    used_at_end end = end_use (place_in function (task_of regions f) block (facts_at_end prog.functions function f.block block)) function.blocks end.terminator

    -- what is broken at the end, where it is this ending
    end_broken : (end : Ending) (broken : Broken) → block.ending ≡ Some end →
        IsEndBroken function (task_of regions f) block (facts_at_end prog.functions function f.block block) (edges_known prog.functions function f.block block (Some end)) (Some end) broken → ⊥
    end_broken end broken is h = right broken (
      f.function,
      function,
      stands.at_function,
      (
        f.block,
        block,
        stands.at_block,
        inr (subst (λ (o : Option Ending). IsEndBroken function (task_of regions f) block (facts_at_end prog.functions function f.block block) (edges_known prog.functions function f.block block o) o broken) (sym is) h),
      ),
    )

    pub end_covered : (end : Ending) → block.ending ≡ Some end → (used_at_end end).covered ≡ true
    end_covered end is = true_from_ne_false (used_at_end end).covered (λ e. end_broken end (record { line = end.line; number = (used_at_end end).number }) is (inl (inl (refl, refl, e))))

    pub end_clear : (end : Ending) → block.ending ≡ Some end → (used_at_end end).clear ≡ true
    end_clear end is = true_from_ne_false (used_at_end end).clear (λ e. end_broken end (record { line = end.line; number = 602 }) is (inl (inr (refl, refl, e))))

    pub edge_passes : (end : Ending) → block.ending ≡ Some end → (edge : EdgeFacts) → Contains (edges_known prog.functions function f.block block (Some end)) edge → passes_on function.blocks block.pending end.terminator edge ≡ true
    edge_passes end is edge at = true_from_ne_false (passes_on function.blocks block.pending end.terminator edge)
        (λ e. end_broken end (record { line = end.line; number = 603 }) is (inr (at.0, edge, at.1, at.2, (refl, refl, e))))
