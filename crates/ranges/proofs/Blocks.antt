-- A block's table, and what is named of it.
use Rattle.std.proofs.Common.{◌≡◌, ◌∙◌, ◌⊎◌, ℕ, ◌<◌, List, length, get_or, take, Option, Some, None, refl, sym, ap, subst}
use Rattle.std.specs.Prelude.{slice_get}
use Rattle.std.specs.List.{Any}
use Rattle.std.proofs.lemmas.List.{take-append-le}
use Rattle.std.proofs.lemmas.Option.{slice_get_within}
use Rattle.linear.specs.declared.form.Fact.{Fact}
use Rattle.program.specs.declared.instruction.Ending.{Ending}
use Rattle.program.specs.declared.instruction.Step.{Step}
use Rattle.program.specs.declared.function.Block.{Block}
use Rattle.program.specs.declared.function.Function.{Function}
use Rattle.program.specs.declared.function.Program.{Program}
use Rattle.refusal.specs.declared.broken.Broken.{Broken}
use Rattle.refusal.specs.Earliest.{IsEarliest}
use Rattle.refusal.specs.Named.{IsLowerOf}
use Rattle.refusal.proofs.Elements.{earliest_same, earliest_both}
use Rattle.ranges.specs.declared.table.EdgeFacts.{EdgeFacts}
use Rattle.ranges_owed.specs.Owed.{owed_at_end}
use Rattle.ranges.specs.Edges.{edge_owed}
use Rattle.ranges.specs.Tables.{all_with_known}
use Rattle.ranges.specs.Places.{start_facts, with_shows, stated, step_shows, ending_shows, facts_before, facts_at_step}
use Rattle.ranges.specs.Places.{facts_at_end, edges_known}
use Rattle.ranges.specs.Tables.{IsBlockTable}
use Rattle.ranges.specs.Rules.{AreUnmet, AreUnshown, IsStepBroken, AreStepsBroken, IsEndBroken, IsBlockBroken}
use Rattle.ranges.specs.Walks.{IsWalked, edges_behind, IsEndUnmetAt}

edges_same : (functions : List Function) (function : Function) (b : ℕ) (block : Block) (known : List Fact) (ending : Option Ending) → known ≡ facts_at_end functions function b block →
    edges_behind function b block known ending ≡ edges_known functions function b block ending
edges_same functions function b block known None e = refl
edges_same functions function b block known (Some ending) e = ap (λ k. edges_behind function b block k (Some ending)) e

module _ (functions : List Function) (function : Function) (b : ℕ) (block : Block) (start walked known : List Fact) (counts : List ℕ) (edges : List EdgeFacts)
    (starts : start ≡ start_facts function b block) (w : IsWalked functions start block.steps counts walked)
    (ends : known ≡ with_shows walked (ending_shows block.ending)) (edges_are : all_with_known known edges ≡ edges_behind function b block known block.ending) where
  pub walked_is : walked ≡ facts_before functions (start_facts function b block) block.steps (length block.steps)
  walked_is = w.facts_are ∙ ap (λ s. facts_before functions s block.steps (length block.steps)) starts

  pub known_is : known ≡ facts_at_end functions function b block
  known_is = ends ∙ ap (λ k. with_shows k (ending_shows block.ending)) walked_is

  pub edges_all : all_with_known known edges ≡ edges_known functions function b block block.ending
  edges_all = edges_are ∙ edges_same functions function b block known block.ending known_is

  step_at : (i : ℕ) (step : Step) → slice_get block.steps i ≡ Some step → take (get_or counts i 0) known ≡ facts_at_step functions function b block i
  step_at i step h =
      let l : i < length block.steps = slice_get_within block.steps i step h in
      ap (take (get_or counts i 0)) ends
      ∙ take-append-le (get_or counts i 0) walked (stated (ending_shows block.ending)) (w.within i step l h)
      ∙ w.at_step i step l h
      ∙ ap (λ s. with_shows (facts_before functions s block.steps i) step.shows) starts
      ∙ ap (λ o. with_shows (facts_before functions (start_facts function b block) block.steps i) (step_shows o)) (sym h)

  pub block_table : IsBlockTable functions function b block (record { facts = known; counts = counts; edges = edges })
  block_table = record { steps = w.size; at_step = step_at; at_end = known_is; edges = edges_all }

-- ---- what is named

abbrev EndParts : Function → Ending → List Fact → List Fact → List EdgeFacts → Broken → Type 0
EndParts function e before known edges x =
    AreUnshown before e.shows x ⊎ (AreUnmet known e.line (owed_at_end function e.terminator) x ⊎ Any (λ d. AreUnmet d.facts e.line (edge_owed function.blocks d) x) edges)

parts_along : (function : Function) (e : Ending) (before before' known known' : List Fact) (edges edges' : List EdgeFacts) (x : Broken) →
    before ≡ before' → known ≡ known' → edges ≡ edges' → EndParts function e before known edges x → EndParts function e before' known' edges' x
parts_along function e before before' known known' edges edges' x p q r h =
    subst (λ d. EndParts function e before' known' d x) r (subst (λ k. EndParts function e before' k edges x) q (subst (λ c. EndParts function e c known edges x) p h))

end_to : (program : Program) (function : Function) (b : ℕ) (block : Block) (walked : List Fact) (edges : List EdgeFacts) (ending : Option Ending) (x : Broken) → block.ending ≡ ending →
    walked ≡ facts_before program.functions (start_facts function b block) block.steps (length block.steps) → edges ≡ edges_known program.functions function b block ending →
    IsEndUnmetAt function walked edges ending x → IsEndBroken program function b block ending x
end_to program function b block walked edges None x is w e h = h
end_to program function b block walked edges (Some ending) x is w e h =
    parts_along function ending _ _ _ _ _ _ x w (ap (λ k. with_shows k ending.shows) w ∙ ap (λ o. with_shows (facts_before program.functions (start_facts function b block) block.steps (length block.steps)) (ending_shows o)) (sym is)) e h

end_from : (program : Program) (function : Function) (b : ℕ) (block : Block) (walked : List Fact) (edges : List EdgeFacts) (ending : Option Ending) (x : Broken) → block.ending ≡ ending →
    walked ≡ facts_before program.functions (start_facts function b block) block.steps (length block.steps) → edges ≡ edges_known program.functions function b block ending →
    IsEndBroken program function b block ending x → IsEndUnmetAt function walked edges ending x
end_from program function b block walked edges None x is w e h = h
end_from program function b block walked edges (Some ending) x is w e h =
    parts_along function ending _ _ _ _ _ _ x (sym w) (sym (ap (λ k. with_shows k ending.shows) w ∙ ap (λ o. with_shows (facts_before program.functions (start_facts function b block) block.steps (length block.steps)) (ending_shows o)) (sym is))) (sym e) h

abbrev StepsFrom : Program → Function → List Fact → List Step → Broken → Type 0
StepsFrom program function start steps x = (i : ℕ) × (step : Step) × (slice_get steps i ≡ Some step) × IsStepBroken program function (facts_before program.functions start steps i) step x

pub block_named : (program : Program) (function : Function) (b : ℕ) (block : Block) (start walked : List Fact) (edges : List EdgeFacts) (at_steps at_end r : Option Broken) →
    start ≡ start_facts function b block → walked ≡ facts_before program.functions (start_facts function b block) block.steps (length block.steps) → edges ≡ edges_known program.functions function b block block.ending →
    IsEarliest (StepsFrom program function start block.steps) at_steps → IsEarliest (IsEndUnmetAt function walked edges block.ending) at_end → IsLowerOf at_steps at_end r →
    IsEarliest (IsBlockBroken program function b block) r
block_named program function b block start walked edges at_steps at_end r s w e steps_named end_named lower =
    earliest_both (AreStepsBroken program function b block) (IsEndBroken program function b block block.ending) at_steps at_end r
    (subst (λ k. IsEarliest (StepsFrom program function k block.steps) at_steps) s steps_named)
    (earliest_same (IsEndUnmetAt function walked edges block.ending) (IsEndBroken program function b block block.ending) at_end
    (λ x h. end_to program function b block walked edges block.ending x refl w e h)
    (λ x h. end_from program function b block walked edges block.ending x refl w e h)
    end_named)
    lower
