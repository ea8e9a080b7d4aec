-- Along the serial run the regions of a frame's task are its own.
use Rattle.std.proofs.Common.{◌≡◌, ◌≢◌, ℕ, suc, ◌<◌, ◌≤◌, inl, inr, List, [], ◌∷◌, length, Option, Some, None, true, eq-eqb, is_some, refl, sym, ap, subst, ◌∙◌, arith, slice_get, ℤ}
use Rattle.std.proofs.lemmas.Option.{slice_get-get_or, slice_get_within}
use Rattle.semantics.specs.Paths.{Path}
use Rattle.semantics.specs.Cells.{Memory}
use Rattle.semantics.specs.Frames.{Value, Region, Registers, Frame, Does, Ends, item_at, phis_at, set_register, and_then}
use Rattle.semantics.specs.Effect.{Effect, Plain, Sync, Call, Detach, sets, with_phis, argument_value, argument_values, instruction_action, item_action, action_of}
use Rattle.semantics.specs.State.{went, detached, continued, synced, called, waiting, resumed}
use Rattle.semantics.proofs.Confluence.{one_result}
use Rattle.linear.specs.declared.form.RegisterId.{RegisterId}
use Rattle.program.specs.declared.function.Block.{Block}
use Rattle.program.specs.declared.function.Function.{Function}
use Rattle.program.specs.declared.function.Program.{Program}
use Rattle.program.specs.declared.instruction.Argument.{Argument}
use Rattle.program.specs.declared.instruction.Instruction.{Instruction}
use Rattle.program.specs.declared.instruction.Instruction.TheVariants as instruction
use Rattle.program.specs.declared.instruction.Phi.{Phi}
use Rattle.program.specs.declared.instruction.Step.{Step}
use Rattle.program.specs.declared.instruction.Terminator.{Terminator}
use Rattle.program.specs.declared.instruction.Terminator.TheVariants as terminator
use Rattle.cfg.specs.declared.structure.Way.{Way}
use Rattle.cfg.specs.declared.structure.Way.TheVariants as way
use Rattle.cfg.specs.Edges.{graph_of}
use Rattle.region_match.specs.Rules.{Starts, IsStarted, IsEndingWrong}
use Rattle.region_match.specs.Tasks.{task_along, HasTask}
use Rattle.region_match.specs.Matched.{AreRegionsRight}
use Rattle.laws_conditions.specs.rules.Moves.{dest_of}
use Rattle.laws_conditions.specs.rules.InProofs.{Moves, is_next, is_along}
use Rattle.laws_conditions.specs.rules.Costs.{parameters_of}
use Rattle.laws_conditions.proofs.rules.Moves.{moves, sync_here, syncs_along, calls_here, forks_here}
use Rattle.laws_phases.specs.defined.Leads.{IsBlock}
use Rattle.laws_phases.specs.defined.Names.{StepDefines, IsNamed}
use Rattle.laws_phases.specs.defined.Placed.{IsPlaced}
use Rattle.laws_phases.specs.defined.Regions.{IsAround, OwnsRegions, RegionsAreKept, RegionsAreOwn}
use Rattle.laws_phases.proofs.defined.Items.{stands, block_is, step_there}
use Rattle.laws_phases.proofs.defined.Placed.{Arrives, arrives}
use Rattle.laws_phases.proofs.defined.Roles.{at_end}
use Rattle.laws_phases.proofs.defined.RegionTests.{is_region}
use Rattle.laws_phases.proofs.defined.Registers.{dest_or_not}
use Rattle.laws_phases.proofs.defined.Values.{phis_stay, result_other, defines_here}
use Rattle.laws_phases.proofs.defined.Visits.{one_task}

around_itself : (ds : List ℕ) → IsAround ds ds
around_itself [] = refl
around_itself (d ∷ ds) = inl refl

around_length : (outer ds : List ℕ) → IsAround outer ds → length outer ≤ length ds
around_length outer [] h = let n : length outer ≡ 0 = ap length h in omega (arith, n)
around_length outer (d ∷ ds) (inl e) = let n : length outer ≡ suc (length ds) = ap length e in omega (arith, n)
around_length outer (d ∷ ds) (inr h) = let n = around_length outer ds h in omega (arith, n)

-- the step that starts a region
pub started_there : (steps : List Step) (r : RegisterId) → Starts r steps → (i : ℕ) × (s : Step) × (slice_get steps i ≡ Some s) × (s.instruction ≡ instruction.StartRegion r)
started_there steps r h = (h.0, h.1, slice_get-get_or steps h.0 h.1 h.2 ∙ ap (λ x. Some x) h.3, h.4)

pub start_defines : (function : Function) (b : ℕ) (block : Block) (r : RegisterId) → slice_get function.blocks b ≡ Some block → (h : Starts r block.steps) → StepDefines function b (started_there block.steps r h).0 r.0
start_defines function b block r at h =
    let s = started_there block.steps r h in
    record { block = block; step = s.1; at_block = at; at_step = s.2; defines = ap dest_of s.3 }

-- the values are as many as the arguments
pub values_length : (f : Frame) (arguments : List Argument) (vs : List Value) → argument_values f arguments ≡ Some vs → length vs ≡ length arguments
values_length f [] vs e = let same : [] ≡ vs = cc in sym (ap length same)
values_length f (a ∷ more) vs e = by_first (argument_value f a) e (λ us k. values_length f more us k)
  where
    by_rest : (v : Value) (o : Option (List Value)) → argument_values f more ≡ o → and_then o (λ us. Some (v ∷ us)) ≡ Some vs → ((us : List Value) → argument_values f more ≡ Some us → length us ≡ length more) → length vs ≡ suc (length more)
    by_rest v None is k rest = absurd (cc)
    by_rest v (Some us) is k rest = let same : v ∷ us ≡ vs = cc in sym (ap length same) ∙ ap suc (rest us is)

    by_first : (o : Option Value) → and_then o (λ v. and_then (argument_values f more) (λ us. Some (v ∷ us))) ≡ Some vs → ((us : List Value) → argument_values f more ≡ Some us → length us ≡ length more) → length vs ≡ suc (length more)
    by_first None k rest = absurd (cc)
    by_first (Some v) k rest = by_rest v (argument_values f more) refl k rest

pub value_within : (vs : List Value) (r : ℕ) → is_some (slice_get vs r) ≡ true → r < length vs
value_within vs r h = by (slice_get vs r) refl h
  where
    by : (o : Option Value) → slice_get vs r ≡ o → is_some o ≡ true → r < length vs
    by None e k = absurd (cc)
    by (Some v) e k = slice_get_within vs r v e

module _ (prog : Program) (named : IsNamed prog) (right : AreRegionsRight prog) where
  same_task : (f b : ℕ) (function : Function) (block : Block) → IsBlock prog f b function block → (ds es : List ℕ) → HasTask (graph_of function).blocks b ds → HasTask (graph_of function).blocks b es → ds ≡ es
  same_task f b function block is ds es h k = sym h.2 ∙ one_task prog right f b function block is h.0 k.0 h.1 k.1 ∙ k.2

  -- a frame whose registers that steps define are as they were, in the same task
  stays : (p : Path) (f h : Frame) → IsPlaced prog f → OwnsRegions prog p f → h.function ≡ f.function →
      ((function : Function) (b i r : ℕ) → slice_get prog.functions f.function ≡ Some function → StepDefines function b i r → h.registers r ≡ f.registers r) →
      ((function : Function) (task : List ℕ) → slice_get prog.functions f.function ≡ Some function → HasTask (graph_of function).blocks h.block task → HasTask (graph_of function).blocks f.block task) → OwnsRegions prog p h
  stays p f h placed good fn same back = record {
    around = λ function b i r task its at mine some has its_has.
        let there : slice_get prog.functions f.function ≡ Some function = subst (λ n. slice_get prog.functions n ≡ Some function) fn at in
        good.around function b i r task its there mine (subst (λ v. is_some v ≡ true) (same function b i r there mine) some) has (back function task there its_has);
    own = λ function block b r task is starts some has here.
        let there : IsBlock prog f.function b function block = subst (λ n. IsBlock prog n b function block) fn is in
        let mine = start_defines function b block r there.at_block starts in
        let kept = same function b (started_there block.steps r starts).0 r.0 there.at_function mine in
        kept ∙ good.own function block b r task there starts (subst (λ v. is_some v ≡ true) kept some) has (back function task there.at_function here);
  }

  -- a step of the block
  next_owns : (p : Path) (f h : Frame) (what : Instruction) → IsPlaced prog f → OwnsRegions prog p f → h.function ≡ f.function → h.block ≡ f.block → item_at prog f.function f.block f.index ≡ Some (Does what) →
      ((x : ℕ) → dest_of what ≢ Some x → h.registers x ≡ f.registers x) → ((r : RegisterId) → what ≡ instruction.StartRegion r → h.registers r.0 ≡ Some (Region p)) → OwnsRegions prog p h
  next_owns p f h what placed good fn block at others starts_here = record {
    around = λ function b i r task its is mine some has here.
        let there : slice_get prog.functions f.function ≡ Some function = subst (λ n. slice_get prog.functions n ≡ Some function) fn is in
        let now : HasTask (graph_of function).blocks f.block task = subst (λ n. HasTask (graph_of function).blocks n task) block here in
        elim (dest_or_not (dest_of what) r) [
          | inr apart ↦ good.around function b i r task its there mine (subst (λ v. is_some v ≡ true) (others r apart) some) has now
          | inl dest ↦
              let this : StepDefines function f.block f.index r = defines_here prog f.function f.block f.index r function what there at dest in
              let same : b ≡ f.block = ((named.once f.function function there).steps b f.block i f.index r mine this).0 in
              let x = placed_block function there in
              subst (λ ds. IsAround its ds) (same_task f.function f.block function x.0 x.1 its task (subst (λ n. HasTask (graph_of function).blocks n its) same has) now) (around_itself its)
        ];
    own = λ function x b r task is begins some has here.
        let there : IsBlock prog f.function b function x = subst (λ n. IsBlock prog n b function x) fn is in
        let now : HasTask (graph_of function).blocks f.block task = subst (λ n. HasTask (graph_of function).blocks n task) block here in
        elim (dest_or_not (dest_of what) r.0) [
          | inr apart ↦ others r.0 apart ∙ good.own function x b r task there begins (subst (λ v. is_some v ≡ true) (others r.0 apart) some) has now
          | inl dest ↦
              let this : StepDefines function f.block f.index r.0 = defines_here prog f.function f.block f.index r.0 function what there.at_function at dest in
              let s = started_there x.steps r begins in
              let mine = start_defines function b x r there.at_block begins in
              let same = (named.once f.function function there.at_function).steps b f.block s.0 f.index r.0 mine this in
              starts_here r (what_is function x b r s.0 s.1 there same.0 same.1 s.2 s.3)
        ];
  }
    where
      placed_block : (function : Function) → slice_get prog.functions f.function ≡ Some function → (x : Block) × IsBlock prog f.function f.block function x
      placed_block function is =
          let one : placed.function ≡ function = one_result (slice_get prog.functions f.function) placed.function function placed.is.at_function is in
          (placed.block, subst (λ (y : Function). IsBlock prog f.function f.block y placed.block) one placed.is)

      what_is : (function : Function) (x : Block) (b : ℕ) (r : RegisterId) (i : ℕ) (s : Step) → IsBlock prog f.function b function x → b ≡ f.block → i ≡ f.index → slice_get x.steps i ≡ Some s → s.instruction ≡ instruction.StartRegion r → what ≡ instruction.StartRegion r
      what_is function x b r i s is same_block same_index there starts =
          let z = stands prog f.function f.block f.index (Does what) at in
          let step = step_there z.block.steps z.block.ending f.index what z.item in
          let one : z.function ≡ function = one_result (slice_get prog.functions f.function) z.function function z.is.at_function is.at_function in
          let two : z.block ≡ x = one_result (slice_get function.blocks f.block) z.block x (subst (λ (y : Function). slice_get y.blocks f.block ≡ Some z.block) one z.is.at_block) (subst (λ n. slice_get function.blocks n ≡ Some x) same_block is.at_block) in
          let three : step.0 ≡ s = one_result (slice_get x.steps f.index) step.0 s (subst (λ (y : Block). slice_get y.steps f.index ≡ Some step.0) two step.1) (subst (λ n. slice_get x.steps n ≡ Some s) same_index there) in
          sym step.2 ∙ ap (λ (y : Step). y.instruction) three ∙ starts

  -- phis define what no step does
  along_same : (f : Frame) (to : ℕ) (rs : Registers) → (target : Block) → (function : Function) → IsBlock prog f.function to function target → with_phis f.registers f.block (phis_at prog f.function to) f.registers ≡ Some rs →
      (other : Function) (b i r : ℕ) → slice_get prog.functions f.function ≡ Some other → StepDefines other b i r → rs r ≡ f.registers r
  along_same f to rs target function is e other b i r at mine = phis_stay f.registers f.block (phis_at prog f.function to) f.registers rs r apart e
    where
      apart : (n : ℕ) (phi : Phi) → slice_get (phis_at prog f.function to) n ≡ Some phi → phi.register.0 ≢ r
      apart n phi there same =
          let read : phis_at prog f.function to ≡ target.phis = rw (block_is prog f.function to function target is) refl in
          let one : function ≡ other = one_result (slice_get prog.functions f.function) function other is.at_function at in
          (named.once f.function other at).apart b to i r mine (record { block = target; number = n; phi = phi; at_block = subst (λ (y : Function). slice_get y.blocks to ≡ Some target) one is.at_block; at_phi = ap (λ (ps : List Phi). slice_get ps n) (sym read) ∙ there; defines = same })

  -- back along a way within the task
  task_back : (f : Frame) (to : ℕ) (w : Way) → IsPlaced prog f → Arrives prog f.function f.block to w → ((ds : List ℕ) → task_along w f.block ds ≡ ds) → (function : Function) (task : List ℕ) → slice_get prog.functions f.function ≡ Some function → HasTask (graph_of function).blocks to task → HasTask (graph_of function).blocks f.block task
  task_back f to w placed there same function task at here =
      let one : there.function ≡ function = one_result (slice_get prog.functions f.function) there.function function there.from.at_function at in
      let two : placed.function ≡ function = one_result (slice_get prog.functions f.function) placed.function function placed.is.at_function at in
      let mine : HasTask (graph_of function).blocks f.block placed.task = subst (λ (y : Function). HasTask (graph_of y).blocks f.block placed.task) two placed.has_task in
      let ahead : HasTask (graph_of function).blocks to placed.task = subst (λ ds. HasTask (graph_of function).blocks to ds) (same placed.task)
      (subst (λ (y : Function). HasTask (graph_of y).blocks to (task_along w f.block placed.task)) one (there.along placed.task (subst (λ (y : Function). HasTask (graph_of y).blocks f.block placed.task) (sym one) mine))) in
      let target : IsBlock prog f.function to function there.target = subst (λ (y : Function). IsBlock prog f.function to y there.target) one there.is in
      subst (λ ds. HasTask (graph_of function).blocks f.block ds) (same_task f.function to function there.target target placed.task task ahead here) mine

  plain_owns : (p : Path) (f : Frame) (m : Memory) (e : Effect) → IsPlaced prog f → OwnsRegions prog p f → action_of prog p f m ≡ Plain e → Moves prog f e → OwnsRegions prog p (went f e)
  plain_owns p f m e placed good act (is_next what at on) = next_owns p f (went f e) what placed good refl on.block at on.others
      (λ r is. started r (ap (λ (x : Instruction). instruction_action prog p f m x) (sym is) ∙ sym (ap (λ o. item_action prog p f m o) at) ∙ act))
    where
      started : (r : RegisterId) → instruction_action prog p f m (instruction.StartRegion r) ≡ Plain e → e.registers r.0 ≡ Some (Region p)
      started r h =
          let same : sets f r (Region p) ≡ e = cc in
          let set : set_register f.registers r (Region p) r.0 ≡ Some (Region p) = rw (eq-eqb r.0 r.0 refl) refl in
          sym (ap (λ (x : Effect). x.registers r.0) same) ∙ set
  plain_owns p f m e placed good act (is_along t at to on) =
      let there = arrives prog named f.function f.block f.index e.block t way.Branch at to in
      stays p f (went f e) placed good refl (along_same f e.block e.registers there.target there.function there.is on.along) (task_back f e.block way.Branch placed there (λ ds. refl))

  sync_owns : (p : Path) (f : Frame) (m : Memory) (r b : ℕ) (rs : Registers) → IsPlaced prog f → OwnsRegions prog p f → action_of prog p f m ≡ Sync r b rs → OwnsRegions prog p (synced f r b rs)
  sync_owns p f m r b rs placed good act =
      let s = sync_here prog p f m r b rs act in
      let there = arrives prog named f.function f.block f.index b s.0 (way.Synced (record { 0 = r })) s.1 s.2 in
      stays p f (synced f r b rs) placed good refl (along_same f b rs there.target there.function there.is (syncs_along prog p f m r b rs act)) (task_back f b (way.Synced (record { 0 = r })) placed there (λ ds. refl))

  continued_owns : (p : Path) (f : Frame) (m : Memory) (r body next : ℕ) → IsPlaced prog f → OwnsRegions prog p f → action_of prog p f m ≡ Detach r body next → OwnsRegions prog p (continued f next)
  continued_owns p f m r body next placed good act =
      let c = forks_here prog p f m r body next act in
      let there = arrives prog named f.function f.block f.index next (terminator.Detach c.region c.body c.continuation) way.Continued c.is c.continuation_is in
      stays p f (continued f next) placed good refl (λ function b i x at mine. refl) (task_back f next way.Continued placed there (λ ds. refl))

  -- a child has no region of its own yet
  child_owns : (p : Path) (f : Frame) (m : Memory) (r body next : ℕ) → IsPlaced prog f → OwnsRegions prog p f → action_of prog p f m ≡ Detach r body next → OwnsRegions prog (f.made ∷ p) (detached f r body next)
  child_owns p f m r body next placed good act =
      let c = forks_here prog p f m r body next act in
      let there = arrives prog named f.function f.block f.index body (terminator.Detach c.region c.body c.continuation) way.Detached c.is c.body_is in
      record {
        around = λ function b i x task its at mine some has here.
            let new = child_task there function at task here in
            subst (λ ds. IsAround its ds) new.2 (inr (good.around function b i x new.0 its at mine some has new.1));
        own = λ function block b x task is begins some has here.
            let new = child_task there function is.at_function task here in
            let mine = start_defines function b block x is.at_block begins in
            let outside = good.around function b (started_there block.steps x begins).0 x.0 new.0 task is.at_function mine some has new.1 in
            let long = around_length task new.0 outside in
            let n : suc (length new.0) ≡ length task = ap length new.2 in
            absurd (omega (arith, long, n));
      }
    where
      child_task : Arrives prog f.function f.block body way.Detached → (function : Function) → slice_get prog.functions f.function ≡ Some function → (task : List ℕ) → HasTask (graph_of function).blocks body task → (outer : List ℕ) × HasTask (graph_of function).blocks f.block outer × (f.block ∷ outer ≡ task)
      child_task there function at task here =
          let one : there.function ≡ function = one_result (slice_get prog.functions f.function) there.function function there.from.at_function at in
          let two : placed.function ≡ function = one_result (slice_get prog.functions f.function) placed.function function placed.is.at_function at in
          let mine : HasTask (graph_of function).blocks f.block placed.task = subst (λ (y : Function). HasTask (graph_of y).blocks f.block placed.task) two placed.has_task in
          let ahead : HasTask (graph_of function).blocks body (f.block ∷ placed.task) = subst (λ (y : Function). HasTask (graph_of y).blocks body (f.block ∷ placed.task)) one (there.along placed.task (subst (λ (y : Function). HasTask (graph_of y).blocks f.block placed.task) (sym one) mine)) in
          let target : IsBlock prog f.function body function there.target = subst (λ (y : Function). IsBlock prog f.function body y there.target) one there.is in
          (placed.task, mine, same_task f.function body function there.target target (f.block ∷ placed.task) task ahead here)

  -- a called function has its parameters alone
  callee_owns : (p : Path) (f : Frame) (m : Memory) (d : Option RegisterId) (g : ℕ) (vs : List Value) → action_of prog p f m ≡ Call d g vs → OwnsRegions prog (f.made ∷ p) (called p f g vs)
  callee_owns p f m d g vs act =
      let c = calls_here prog p f m d g vs act in
      let many : length vs ≡ parameters_of prog g = values_length f c.arguments vs c.values_are ∙ named.arguments f.function f.block f.index d c.function c.arguments c.is ∙ ap (λ n. parameters_of prog n) c.number in
      record {
        around = λ function b i r task its at mine some has here. absurd (none many function b i r at mine some);
        own = λ function block b r task is begins some has here. absurd (none many function b (started_there block.steps r begins).0 r.0 is.at_function (start_defines function b block r is.at_block begins) some);
      }
    where
      none : length vs ≡ parameters_of prog g → (function : Function) (b i r : ℕ) → slice_get prog.functions g ≡ Some function → StepDefines function b i r → is_some (slice_get vs r) ≡ true → ⊥
      none many function b i r at mine some =
          let low = value_within vs r some in
          let high = (named.once g function at).steps_above b i r mine in
          let n : parameters_of prog g ≡ length function.parameters = rw at refl in
          omega (arith, low, high, many, n)

  resumed_owns : (p : Path) (f : Frame) (m : Memory) (d : Option RegisterId) (g : ℕ) (vs : List Value) (v : Option ℤ) → IsPlaced prog f → OwnsRegions prog p f → action_of prog p f m ≡ Call d g vs → OwnsRegions prog p (resumed (waiting f d) d v)
  resumed_owns p f m d g vs v placed good act =
      let c = calls_here prog p f m d g vs act in
      next_owns p f (resumed (waiting f d) d v) (instruction.Call d c.function c.arguments) placed good refl refl c.is (λ x apart. result_other f.registers d v x apart) (λ r is. absurd (cc))

pub regions_are_kept : RegionsAreKept
regions_are_kept prog named right = record {
  plain_kept = λ p f m e placed good at fine nb. record { next = plain_owns prog named right p f m e placed good at (moves prog p f m e at fine); finds = λ o h. tt };
  sync_kept = λ p f m r t rs placed good at nb. record { next = sync_owns prog named right p f m r t rs placed good at; finds = λ o h. tt };
  child_kept = λ p f m r body next placed good at nb. child_owns prog named right p f m r body next placed good at;
  continued_kept = λ p f m r body next placed good at nc o gone h nb. record { next = continued_owns prog named right p f m r body next placed good at; finds = λ u k. tt };
  callee_kept = λ p f m d g vs placed good at nb. callee_owns prog named right p f m d g vs at;
  resumed_kept = λ p f m d g vs placed good at nc o v gave h nb. record { next = resumed_owns prog named right p f m d g vs v placed good at; finds = λ u k. tt };
  reattach_finds = λ p f m r placed good at. tt;
  return_finds = λ p f m v placed good at. tt;
}

-- 303: so it is at a detach and at a sync
module _ (prog : Program) (right : AreRegionsRight prog) (p : Path) (f : Frame) (placed : IsPlaced prog f) (good : OwnsRegions prog p f) where
  own_region : (region : RegisterId) (t : Terminator) → item_at prog f.function f.block f.index ≡ Some (Ends t) → ((IsStarted placed.function.blocks (graph_of placed.function).blocks region placed.task → ⊥) → IsEndingWrong placed.function.blocks (graph_of placed.function).blocks f.block t 303) →
      is_some (f.registers region.0) ≡ true → f.registers region.0 ≡ Some (Region p)
  own_region region t at wrong some = by (f.registers region.0) refl
    where
      started : IsStarted placed.function.blocks (graph_of placed.function).blocks region placed.task → f.registers region.0 ≡ Some (Region p)
      started h = good.own placed.function h.1 h.0 region placed.task (record { at_function = placed.is.at_function; at_block = h.2 }) h.3 some h.4 placed.has_task

      refuse : (f.registers region.0 ≡ Some (Region p) → ⊥) → ⊥
      refuse foreign = at_end prog right f placed t 303 at (wrong (λ h. foreign (started h)))

      by : (v : Option Value) → f.registers region.0 ≡ v → f.registers region.0 ≡ Some (Region p)
      by v is = elim (is_region v p) [
        | inl e ↦ is ∙ e
        | inr foreign ↦ absurd (refuse (λ h. foreign (sym is ∙ h)))
      ]

pub regions_are_own : RegionsAreOwn
regions_are_own prog right p f placed good = record {
  detaches = λ region body continuation at some. own_region prog right p f placed good region (terminator.Detach region body continuation) at (λ foreign. (refl, (placed.task, placed.has_task, foreign))) some;
  syncs = λ region target at some. own_region prog right p f placed good region (terminator.Sync region target) at (λ foreign. (refl, (placed.task, placed.has_task, foreign))) some;
}
