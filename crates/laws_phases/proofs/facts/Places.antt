-- What stands at a place, and what the rules say of it.
use Rattle.std.proofs.Common.{◌≡◌, ◌∙◌, ℕ, zero, suc, ◌<◌, ◌≤◌, ℤ, true, false, List, [], ◌∷◌, ◌++◌, length, take, get_or, Option, Some, None, ◌⊎◌, inl, inr, refl, sym, ap, subst, arith, slice_get, add-one, map}
use Rattle.std.specs.List.{All, Any, Contains}
use Rattle.std.proofs.lemmas.Bool.{cases_eq, true_from_ne_false}
use Rattle.std.proofs.lemmas.List.{take_all}
use Rattle.std.proofs.lemmas.List.Elements.{All-nil, All-cons, All-head, All-tail, All-append, All-more, Contains-get_or}
use Rattle.std.proofs.lemmas.Option.{slice_get_cases, slice_get_within, get_or_from_slice_get}
use Rattle.semantics.specs.Frames.{Item, Does, Ends, item_of, item_at, and_then}
use Rattle.linear.specs.Forms.{Holds}
use Rattle.linear_shown.specs.Shown.{AllHold}
use Rattle.linear.specs.declared.form.Fact.{Fact}
use Rattle.program.specs.declared.annotation.Inequality.{Inequality}
use Rattle.program.specs.declared.function.Block.{Block}
use Rattle.program.specs.declared.function.Function.{Function}
use Rattle.program.specs.declared.function.Program.{Program}
use Rattle.program.specs.declared.instruction.Ending.{Ending}
use Rattle.program.specs.declared.instruction.Instruction.{Instruction}
use Rattle.program.specs.declared.instruction.Step.{Step}
use Rattle.program.specs.declared.instruction.Terminator.{Terminator}
use Rattle.cfg.specs.declared.structure.Move.{Move}
use Rattle.refusal.specs.declared.broken.Broken.{Broken}
use Rattle.ranges.specs.declared.edge.EdgeSums.{EdgeSums}
use Rattle.ranges.specs.ranges_owed.declared.sum.Obligation.{Obligation}
use Rattle.ranges.specs.declared.table.EdgeFacts.{EdgeFacts}
use Rattle.ranges.specs.Sums.{shows, is_met, facts_of}
use Rattle.ranges.specs.Truth.{IsTrueAt}
use Rattle.ranges.specs.ranges_owed.Inequalities.{difference_of}
use Rattle.ranges.specs.ranges_owed.Owed.{must, owed, owed_at_end, inequalities_owed}
use Rattle.ranges.specs.Edges.{edges_out, edge_facts, edge_owed}
use Rattle.ranges.specs.Places.{start_facts, with_shows, after_step, facts_before, facts_at_end, ending_shows}
use Rattle.ranges.specs.Rules.{AreUnmet, AreUnshown, IsEndBroken, IsBlockBroken}
use Rattle.ranges.proofs.Truth.{shown_true, met_true}
use Rattle.laws_phases.specs.facts.Known.{shows_at, known_in_block, known_in, known_at_place, IsMet}
use Rattle.ranges.specs.Rules.{AreRangesRight}
use Rattle.cfg.proofs.Searching.{Contains_map}
use Rattle.laws_phases.proofs.facts.Sums.{met_from_moved, unmoved, stated_true}
use Rattle.laws_phases.proofs.defined.Items.{step_there}

-- ---- what stands at a place

-- the block of a place
pub record BlockOf (prog : Program) (fn b : ℕ) : Type 0 where
  pub function : Function
  pub block : Block
  pub at_function : slice_get prog.functions fn ≡ Some function
  pub at_block : slice_get function.blocks b ≡ Some block

pub record StepAt (prog : Program) (fn b index : ℕ) (i : Instruction) : Type 0 where
  pub of : BlockOf prog fn b
  pub step : Step
  pub at_step : slice_get of.block.steps index ≡ Some step
  pub is : step.instruction ≡ i

pub record EndAt (prog : Program) (fn b index : ℕ) (t : Terminator) : Type 0 where
  pub of : BlockOf prog fn b
  pub ending : Ending
  pub at_ending : of.block.ending ≡ Some ending
  pub index_is : index ≡ length of.block.steps
  pub is : ending.terminator ≡ t

pub end_of : (steps : List Step) (o : Option Ending) (index : ℕ) (t : Terminator) → item_of steps o index ≡ Some (Ends t) → (ending : Ending) × (o ≡ Some ending) × (index ≡ length steps) × (ending.terminator ≡ t)
end_of [] None index t e = absurd (cc)
end_of [] (Some ending) zero t e = (ending, refl, refl, cc)
end_of [] (Some ending) (suc index) t e = absurd (cc)
end_of (s ∷ steps) o zero t e = absurd (cc)
end_of (s ∷ steps) o (suc index) t e = let (ending, is, at, same) = end_of steps o index t e in (ending, is, ap suc at, same)

-- an item stands in a block
pub block_of : (prog : Program) (fn b index : ℕ) (x : Item) → item_at prog fn b index ≡ Some x → (o : BlockOf prog fn b) × (item_of o.block.steps o.block.ending index ≡ Some x)
block_of prog fn b index x e = from (slice_get prog.functions fn) refl e
  where
    in_function : (function : Function) → slice_get prog.functions fn ≡ Some function → (o : Option Block) → slice_get function.blocks b ≡ o → and_then o (λ (k : Block). item_of k.steps k.ending index) ≡ Some x →
        (o : BlockOf prog fn b) × (item_of o.block.steps o.block.ending index ≡ Some x)
    in_function function is None at h = absurd (cc)
    in_function function is (Some block) at h = (record { function = function; block = block; at_function = is; at_block = at }, h)

    from : (o : Option Function) → slice_get prog.functions fn ≡ o → and_then (and_then o (λ (f : Function). slice_get f.blocks b)) (λ (k : Block). item_of k.steps k.ending index) ≡ Some x →
        (o : BlockOf prog fn b) × (item_of o.block.steps o.block.ending index ≡ Some x)
    from None is h = absurd (cc)
    from (Some function) is h = in_function function is (slice_get function.blocks b) refl h

pub step_at : (prog : Program) (fn b index : ℕ) (i : Instruction) → item_at prog fn b index ≡ Some (Does i) → StepAt prog fn b index i
step_at prog fn b index i e =
    let (o, h) = block_of prog fn b index (Does i) e in
    let (step, at, is) = step_there o.block.steps o.block.ending index i h in
    record { of = o; step = step; at_step = at; is = is }

pub end_at : (prog : Program) (fn b index : ℕ) (t : Terminator) → item_at prog fn b index ≡ Some (Ends t) → EndAt prog fn b index t
end_at prog fn b index t e =
    let (o, h) = block_of prog fn b index (Ends t) e in
    let (ending, at, index_is, is) = end_of o.block.steps o.block.ending index t h in
    record { of = o; ending = ending; at_ending = at; index_is = index_is; is = is }

-- ---- what is known there

abbrev pub before : (prog : Program) (fn b : ℕ) → BlockOf prog fn b → ℕ → List Fact
before prog fn b o index = facts_before prog.functions (start_facts o.function b o.block) o.block.steps index

pub known_is : (prog : Program) (fn b : ℕ) (o : BlockOf prog fn b) (index : ℕ) → known_at_place prog fn b index ≡ with_shows (before prog fn b o index) (shows_at o.block.steps o.block.ending index)
known_is prog fn b o index = ap (λ x. known_in prog.functions x b index) o.at_function ∙ ap (λ x. known_in_block prog.functions o.function b x index) o.at_block

shows_at_step : (steps : List Step) (ending : Option Ending) (index : ℕ) (step : Step) → slice_get steps index ≡ Some step → shows_at steps ending index ≡ step.shows
shows_at_step [] ending index step e = absurd (cc)
shows_at_step (s ∷ steps) ending zero step e = let same : s ≡ step = cc in ap (λ (x : Step). x.shows) same
shows_at_step (s ∷ steps) ending (suc index) step e = shows_at_step steps ending index step e

pub known_step : (prog : Program) (fn b : ℕ) (o : BlockOf prog fn b) (index : ℕ) (step : Step) → slice_get o.block.steps index ≡ Some step → known_at_place prog fn b index ≡ with_shows (before prog fn b o index) step.shows
known_step prog fn b o index step at = known_is prog fn b o index ∙ ap (λ ls. with_shows (before prog fn b o index) ls) (shows_at_step o.block.steps o.block.ending index step at)

shows_at_end : (steps : List Step) (o : Option Ending) → shows_at steps o (length steps) ≡ ending_shows o
shows_at_end [] None = refl
shows_at_end [] (Some ending) = refl
shows_at_end (s ∷ steps) o = shows_at_end steps o

shows_nowhere : (steps : List Step) (ending : Option Ending) (index : ℕ) → length steps < index → shows_at steps ending index ≡ []
shows_nowhere [] None index l = refl
shows_nowhere [] (Some ending) zero l = absurd (omega arith)
shows_nowhere [] (Some ending) (suc index) l = refl
shows_nowhere (s ∷ steps) ending zero l = absurd (omega arith)
shows_nowhere (s ∷ steps) ending (suc index) l = shows_nowhere steps ending index (omega (arith, l))

pub known_end : (prog : Program) (fn b : ℕ) (o : BlockOf prog fn b) → known_at_place prog fn b (length o.block.steps) ≡ facts_at_end prog.functions o.function b o.block
known_end prog fn b o = known_is prog fn b o (length o.block.steps) ∙ ap (λ ls. with_shows (before prog fn b o (length o.block.steps)) ls) (shows_at_end o.block.steps o.block.ending)

pub next_is : (functions : List Function) (known : List Fact) (steps : List Step) (index : ℕ) (step : Step) → slice_get steps index ≡ Some step →
    facts_before functions known steps (suc index) ≡ after_step functions (facts_before functions known steps index) step
next_is functions known [] index step h = cc
next_is functions known (s ∷ steps) zero step h = let e : s ≡ step = cc in ap (after_step functions known) e
next_is functions known (s ∷ steps) (suc index) step h = next_is functions (after_step functions known s) steps index step h

-- ---- what is not broken

pub Any_at : {X : Type 0} (P : X → Type 0) (xs : List X) (i : ℕ) (x : X) → slice_get xs i ≡ Some x → P x → Any P xs
Any_at P xs i x e p = (i, x, slice_get_within xs i x e, get_or_from_slice_get xs i x x e, p)

pub Any_of : {X : Type 0} (P : X → Type 0) (xs : List X) (x : X) → Contains xs x → P x → Any P xs
Any_of P xs x c p = (c.0, x, c.1, c.2, p)

-- obligations that are not broken are met
met : (known : List Fact) (line : ℕ) (obligations : List Obligation) → ((x : Broken) → AreUnmet known line obligations x → ⊥) → All (λ o. is_met known o ≡ true) obligations
met known line obligations never = λ k d l.
    let o : Obligation = get_or obligations k d in
    true_from_ne_false (is_met known o)
    (λ e. never (record { line = line; number = o.number })
    (Any_of (λ (y : Obligation). (o.number ≡ y.number) × (line ≡ line) × (is_met known y ≡ false)) obligations o (Contains-get_or obligations k d l) (refl, refl, e)))

module _ (prog : Program) (right : AreRangesRight prog) (fn b : ℕ) (o : BlockOf prog fn b) where
  block_right : (x : Broken) → IsBlockBroken prog o.function b o.block x → ⊥
  block_right x h = right x (Any_at (λ (g : Function). (c : ℕ) × (k : Block) × (slice_get g.blocks c ≡ Some k) × IsBlockBroken prog g c k x) prog.functions fn o.function o.at_function (b, o.block, o.at_block, h))

  -- ---- `shows` lines

  shows_of : (known : List Fact) (lines : List Inequality) → ((x : Broken) → AreUnshown known lines x → ⊥) → (i : ℕ) (q : Inequality) → slice_get lines i ≡ Some q → shows (with_shows known (take i lines)) (difference_of [] q) ≡ true
  shows_of known lines never i q at = true_from_ne_false (shows (with_shows known (take i lines)) (difference_of [] q)) (λ e. never (record { line = q.line; number = 508 }) (i, q, at, (refl, refl, e)))

  lines_met : (v : ℕ → ℤ) (known : List Fact) (lines : List Inequality) → ((x : Broken) → AreUnshown known lines x → ⊥) → AllHold v known → (n : ℕ) → All (IsMet v) (take n lines)
  lines_met v known lines never all zero = All-nil (IsMet v)
  lines_met v known lines never all (suc n) = from (slice_get_cases lines n).1 (lines_met v known lines never all n)
    where
      from : ((q : Inequality) × (n < length lines) × (slice_get lines n ≡ Some q) × (get_or lines n q ≡ q)) ⊎ ((length lines ≤ n) × (slice_get lines n ≡ None)) → All (IsMet v) (take n lines) → All (IsMet v) (take (suc n) lines)
      from (inl (q, l, at, is)) old =
          let known_now : AllHold v (with_shows known (take n lines)) = All-append (λ (g : Fact). Holds v g.form) known _ all (stated_true v (take n lines) old) in
          let new : IsMet v q = met_from_moved v v [] q (unmoved v q.low.terms) (unmoved v q.high.terms) (shown_true (with_shows known (take n lines)) (difference_of [] q) (shows_of known lines never n q at) v known_now) in
          subst (λ k. All (IsMet v) (take k lines)) (add-one n) (All-more (IsMet v) lines n q l old (subst (IsMet v) (sym is) new))
      from (inr (l, none)) old =
          let same : take n lines ≡ take (suc n) lines = take_all n lines l ∙ sym (take_all (suc n) lines (omega (arith, l))) in
          subst (All (IsMet v)) same old

  lines_hold : (v : ℕ → ℤ) (known : List Fact) (lines : List Inequality) → ((x : Broken) → AreUnshown known lines x → ⊥) → AllHold v known → AllHold v (with_shows known lines)
  lines_hold v known lines never all =
      let whole : All (IsMet v) lines = subst (All (IsMet v)) (take_all (length lines) lines (omega arith)) (lines_met v known lines never all (length lines)) in
      All-append (λ (g : Fact). Holds v g.form) known _ all (stated_true v lines whole)

  nothing_more : (v : ℕ → ℤ) (known : List Fact) → AllHold v known → AllHold v (with_shows known [])
  nothing_more v known all = All-append (λ (g : Fact). Holds v g.form) known [] all (All-nil (λ (g : Fact). Holds v g.form))

  at_step : (v : ℕ → ℤ) (index : ℕ) (step : Step) → slice_get o.block.steps index ≡ Some step → AllHold v (before prog fn b o index) → AllHold v (with_shows (before prog fn b o index) step.shows)
  at_step v index step at all = lines_hold v (before prog fn b o index) step.shows (λ x h. block_right x (inl (index, step, at, inl h))) all

  end_right : (ending : Ending) → o.block.ending ≡ Some ending → (x : Broken) → IsEndBroken prog o.function b o.block (Some ending) x → ⊥
  end_right ending is x h = block_right x (inr (subst (λ k. IsEndBroken prog o.function b o.block k x) (sym is) h))

  at_end : (v : ℕ → ℤ) (e : Option Ending) → o.block.ending ≡ e → AllHold v (before prog fn b o (length o.block.steps)) → AllHold v (with_shows (before prog fn b o (length o.block.steps)) (ending_shows e))
  at_end v None is all = nothing_more v (before prog fn b o (length o.block.steps)) all
  at_end v (Some ending) is all = lines_hold v (before prog fn b o (length o.block.steps)) ending.shows (λ x h. end_right ending is x (inl h)) all

  -- the facts before a place hold, and so do those at it
  pub arrives : (v : ℕ → ℤ) (index : ℕ) → AllHold v (before prog fn b o index) → AllHold v (known_at_place prog fn b index)
  arrives v index all = subst (AllHold v) (sym (known_is prog fn b o index)) (from (slice_get_cases o.block.steps index).1)
    where
      past : (length o.block.steps ≡ index) ⊎ (length o.block.steps < index) → AllHold v (with_shows (before prog fn b o index) (shows_at o.block.steps o.block.ending index))
      past (inl e) =
          subst (λ n. AllHold v (with_shows (before prog fn b o n) (shows_at o.block.steps o.block.ending n))) e
          (subst (λ ls. AllHold v (with_shows (before prog fn b o (length o.block.steps)) ls)) (sym (shows_at_end o.block.steps o.block.ending))
          (at_end v o.block.ending refl (subst (λ n. AllHold v (before prog fn b o n)) (sym e) all)))
      past (inr l) = subst (λ ls. AllHold v (with_shows (before prog fn b o index) ls)) (sym (shows_nowhere o.block.steps o.block.ending index l)) (nothing_more v (before prog fn b o index) all)

      from : ((s : Step) × (index < length o.block.steps) × (slice_get o.block.steps index ≡ Some s) × (get_or o.block.steps index s ≡ s)) ⊎ ((length o.block.steps ≤ index) × (slice_get o.block.steps index ≡ None)) →
          AllHold v (with_shows (before prog fn b o index) (shows_at o.block.steps o.block.ending index))
      from (inl (s, l, at, is)) = subst (λ ls. AllHold v (with_shows (before prog fn b o index) ls)) (sym (shows_at_step o.block.steps o.block.ending index s at)) (at_step v index s at all)
      from (inr (l, none)) = past (elim (cases_eq (length o.block.steps) index) [ inl e ↦ inl e | inr apart ↦ inr (omega (arith, l, apart)) ])

  -- ---- what is owed

  pub step_met : (index : ℕ) (step : Step) → slice_get o.block.steps index ≡ Some step → All (λ y. is_met (known_at_place prog fn b index) y ≡ true) (owed prog o.function step.instruction)
  step_met index step at =
      subst (λ ks. All (λ y. is_met ks y ≡ true) (owed prog o.function step.instruction))
      (sym (known_step prog fn b o index step at))
      (met (with_shows (before prog fn b o index) step.shows) step.line (owed prog o.function step.instruction) (λ x h. block_right x (inl (index, step, at, inr h))))

  pub end_met : (ending : Ending) → o.block.ending ≡ Some ending → All (λ y. is_met (known_at_place prog fn b (length o.block.steps)) y ≡ true) (owed_at_end o.function ending.terminator)
  end_met ending is =
      subst (λ ks. All (λ y. is_met ks y ≡ true) (owed_at_end o.function ending.terminator)) (sym (known_end prog fn b o))
      (met (facts_at_end prog.functions o.function b o.block) ending.line (owed_at_end o.function ending.terminator) (λ x h. end_right ending is x (inr (inl h))))

  pub edge_met : (ending : Ending) → o.block.ending ≡ Some ending → (e : EdgeSums) → Contains (edges_out o.block.steps ending.terminator) e →
      All (λ y. is_met (known_at_place prog fn b (length o.block.steps) ++ facts_of e.sums) y ≡ true) (edge_owed o.function.blocks (edge_facts o.function.blocks b (known_at_place prog fn b (length o.block.steps)) e))
  edge_met ending is e c =
      let known : List Fact = facts_at_end prog.functions o.function b o.block in
      let there : EdgeFacts = edge_facts o.function.blocks b known e in
      let in_map : Contains (map (edge_facts o.function.blocks b known) (edges_out o.block.steps ending.terminator)) there = Contains_map (edge_facts o.function.blocks b known) (edges_out o.block.steps ending.terminator) e c in
      subst (λ ks. All (λ y. is_met (ks ++ facts_of e.sums) y ≡ true) (edge_owed o.function.blocks (edge_facts o.function.blocks b ks e))) (sym (known_end prog fn b o))
      (met (known ++ facts_of e.sums) ending.line (edge_owed o.function.blocks there)
      (λ x h. end_right ending is x (inr (inr (Any_of (λ (d : EdgeFacts). AreUnmet d.facts ending.line (edge_owed o.function.blocks d) x) (map (edge_facts o.function.blocks b known) (edges_out o.block.steps ending.terminator)) there in_map h)))))

-- ---- what is met is true

pub sole : {X : Type 0} (P : X → Type 0) (x : X) → Any P (x ∷ []) → P x
sole P x (zero, y, l, e, p) = subst P (sym e) p
sole P x (suc k, y, l, e, p) = absurd (omega (arith, l))

pub owed_true : (known : List Fact) (number : ℕ) (moves : List Move) (qs : List Inequality) → All (λ y. is_met known y ≡ true) (inequalities_owed number moves qs) → (v : ℕ → ℤ) → AllHold v known → All (λ q. IsTrueAt v (difference_of moves q)) qs
owed_true known number moves [] all v hold = All-nil (λ q. IsTrueAt v (difference_of moves q))
owed_true known number moves (q ∷ qs) all v hold =
    let P : Obligation → Type 0 = λ y. is_met known y ≡ true in
    let head : is_met known (must number (difference_of moves q)) ≡ true = All-head P (must number (difference_of moves q)) (inequalities_owed number moves qs) all in
    All-cons (λ q. IsTrueAt v (difference_of moves q)) q qs
    (sole (IsTrueAt v) (difference_of moves q) (met_true known (must number (difference_of moves q)) head v hold))
    (owed_true known number moves qs (All-tail P (must number (difference_of moves q)) (inequalities_owed number moves qs) all) v hold)
