-- A frame that goes on, in its block or along an edge, keeps to what it kept to, and so does what is pending.
use Rattle.std.proofs.Common.{◌≡◌, ◌∙◌, ℕ, ◌≤◌, ℤ, pos, length, Option, Some, None, true, refl, sym, ap, subst, arith}
use Rattle.std.specs.List.{Contains, All}
use Rattle.std.proofs.lemmas.List.Elements.{All-contains}
use Rattle.linear.specs.declared.form.RegisterId.{RegisterId}
use Rattle.semantics.specs.Paths.{Path}
use Rattle.semantics.specs.Cells.{Cell, Memory}
use Rattle.semantics.specs.Frames.{OnCall, Frame, Does, Ends, block_at, item_at, cell_of, object_at}
use Rattle.semantics.specs.Effect.{Effect, Plain, registers_along, instruction_action, terminator_action, action_of}
use Rattle.semantics.specs.State.{went}
use Rattle.semantics.specs.SerialMeaning.{written, Gave, Outcome}
use Rattle.laws_conditions.specs.theorem.SerialConditions.{Nothing, KeptSerially}
use Rattle.semantics.specs.SerialMeaning.{one_more, at_last}
use Rattle.semantics.proofs.Outcomes.{gave_same}
use Rattle.semantics.proofs.Diamond.{no_call_after}
use Rattle.laws_conditions.specs.theorem.Conditions.{Covers, Going}
use Rattle.program.specs.declared.annotation.Pending.{Pending}
use Rattle.program.specs.declared.annotation.Zone.{Zone}
use Rattle.program.specs.declared.function.Block.{Block}
use Rattle.program.specs.declared.function.Function.{Function}
use Rattle.program.specs.declared.function.Program.{Program}
use Rattle.program.specs.declared.identifier.ObjectName.{ObjectName}
use Rattle.program.specs.declared.instruction.Instruction.{Instruction}
use Rattle.program.specs.declared.instruction.Instruction.TheVariants as instruction
use Rattle.program.specs.declared.instruction.Operand.{Operand}
use Rattle.program.specs.declared.instruction.Terminator.{Terminator}
use Rattle.types.specs.Apart.{parameters_at}
use Rattle.types.specs.Definitions.{IsFrom}
use Rattle.laws_phases.specs.cfg.declared.structure.Way.{Way}
use Rattle.laws_phases.specs.cfg.declared.structure.Way.TheVariants as way
use Rattle.laws_phases.specs.cfg.Edges.{graph_of}
use Rattle.laws_phases.specs.ranges.declared.edge.EdgeSums.{EdgeSums}
use Rattle.laws_phases.specs.ranges.Edges.{edges_out}
use Rattle.laws_phases.specs.ranges.Truth.{operand_value}
use Rattle.laws_phases.specs.region_match.declared.tables.Regions.{Regions}
use Rattle.laws_phases.specs.region_match.Tasks.{HasTask, innermost, task_along}
use Rattle.laws_phases.specs.footprints.Footprints.{hands_on, pending_of}
use Rattle.laws_phases.specs.footprints.Rules.{covering_of}
use Rattle.laws_conditions.specs.rules.Costs.{numbers}
use Rattle.laws_conditions.specs.rules.Moves.{dest_of, GoesOn}
use Rattle.laws_conditions.specs.rules.InProofs.{Moves, is_next, is_along}
use Rattle.laws_phases.specs.defined.Leads.{IsBlock, LeadsTo}
use Rattle.laws_phases.specs.defined.Names.{PhiDefines}
use Rattle.laws_phases.specs.defined.Placed.{IsPlaced, Placed, NoFinds}
use Rattle.laws_phases.proofs.defined.Placed.{Arrives, arrives, tasks_kept}
use Rattle.laws_phases.specs.facts.Known.{KnownHold}
use Rattle.laws_phases.specs.facts.Kept.{IsEnsured, Knows, Ensures}
use Rattle.laws_phases.proofs.facts.Edges.{IsTaken, taken, tests_here}
use Rattle.laws_phases.proofs.facts.Kept.{same_action, facts_kept}
use Rattle.laws_schedule.specs.pointers.Given.{KnowsGiven}
use Rattle.laws_schedule.proofs.pointers.Kept.{Agrees, Passes, action_passes}
use Rattle.laws_schedule.proofs.pointers.Runs.{carried}
use Rattle.laws_phases.specs.zones.Uses.{StandsIn, task_of}
use Rattle.laws_schedule.specs.zones.Keeping.{Keeping, kept_cells, pending_at, IsBehindCall, Fits}
use Rattle.laws_schedule.specs.zones.ByPhases.{IsJudged, GivesWidths}
use Rattle.laws_schedule.proofs.zones.Zones.{IsOutside, IsOff}
use Rattle.laws_schedule.proofs.zones.Tasks.{task_is, covering_off}
use Rattle.laws_schedule.proofs.zones.Clear.{stands, pending_here, task_here}
use Rattle.laws_schedule.proofs.zones.Elements.{Sets, sets_steady, points_now, elements_behind}
use Rattle.laws_schedule.proofs.zones.Edges.{branch_ways, along_outside, Taken, ending_of, end_place, takes_way, goes_along}
use Rattle.laws_schedule.proofs.zones.Passing.{region_covers, pending_stays, pending_off, pending_along, next_fits}

no_less : (n : ℕ) → n ≤ n
no_less n = omega arith

hands_branch : (w : Way) (q : RegisterId) → w ≡ way.Branch → hands_on w q ≡ true
hands_branch w q e = ap (λ x. hands_on x q) e

module _ (prog : Program) (regions : Regions) (judged : IsJudged prog regions) (base : Path → Frame → Type 0) (gives : GivesWidths prog base) where
  pub facts : KeptSerially prog (λ p f m. base p f) (Knows prog) (Ensures prog)
  facts = facts_kept prog judged.ranges judged.typed judged.stable (λ p f m. base p f) (λ p f m b. gives.widths p f b)

  pub tasks : KeptSerially prog Nothing (Placed prog) NoFinds
  tasks = tasks_kept prog judged.named Nothing

  -- what is true of a result behind a step is true of it before
  pub ensured_from : (p q : Path) (f g : Frame) (m n : Memory) (more : Outcome → Outcome) → ((o : Outcome) → Ensures prog q g n o → Ensures prog p f m (more o)) → ((v : Option ℤ) → (more (at_last (Gave v) m)).ending ≡ Gave v) → (v : Option ℤ) → IsEnsured prog g v → IsEnsured prog f v
  ensured_from p q f g m n more finds same v h = finds (at_last (Gave v) m) (λ returned gave. subst (IsEnsured prog g) (gave_same v returned gave) h) v (same v)

  module _ (p : Path) (f : Frame) (z : Keeping) (fits : Fits prog regions base p f z) where
    abbrev function : Function
    function = fits.placed.function

    abbrev block : Block
    block = fits.placed.block

    pub here : StandsIn prog f function block
    here = stands prog regions judged base p f z fits

    -- the frame that goes on is given what it was given
    pub names_on : (g : Frame) → g.function ≡ f.function → g.home ≡ f.home → Agrees (parameters_at prog.functions f.function) f.registers g.registers → ((k : ℕ) (d : Option RegisterId) → g.waits ≡ OnCall k d → IsFrom (parameters_at prog.functions f.function) d) → KnowsGiven prog.functions p g
    names_on g fn home agrees waits = carried prog.functions p p f g fits.names fn home agrees (no_less (length p)) waits

    pub never_waits : (g : Frame) → ((k : ℕ) (d : Option RegisterId) → g.waits ≡ OnCall k d → ⊥) → (k : ℕ) (d : Option RegisterId) → g.waits ≡ OnCall k d → IsBehindCall prog g d
    never_waits g never k d e = absurd (never k d e)

    -- ---- within the block

    module _ (n : ℕ) (i : Instruction) (at : item_at prog f.function f.block n ≡ Some (Does i)) where
      pub covering_stays : (y : Zone) → Contains (covering_of function (innermost fits.placed.task)) y → IsOff (Sets i) y
      covering_stays = covering_off prog judged.names f.function function fits.placed.is.at_function (Sets i) f.block
          (λ x sets. (sets_steady prog f function block here regions judged n i at x sets).parameter) (λ x sets. (sets_steady prog f function block here regions judged n i at x sets).foot) fits.placed.task fits.placed.has_task

      pub waiting_stays : (q : Pending) → Contains (pending_of (block_at prog f.function f.block)) q → IsOff (Sets i) q.zone
      waiting_stays q within = pending_off (Sets i) function.allocas block.pending (λ x sets named. (sets_steady prog f function block here regions judged n i at x sets).pending named) q
          (subst (λ qs. Contains qs q) (pending_here prog regions judged base p f z fits) within)

    -- ---- along an edge

    -- the target of an edge, with the task behind it
    module _ (t : Terminator) (w : Way) (target : ℕ) (at : item_at prog f.function f.block f.index ≡ Some (Ends t)) (leads : LeadsTo t w target) where
      pub to : Arrives prog f.function f.block target w
      to = arrives prog judged.named f.function f.block f.index target t w at leads

      same_function : to.function ≡ function
      same_function = let both : Some to.function ≡ Some function = sym to.is.at_function ∙ fits.placed.is.at_function in cc

      pub target_is : IsBlock prog f.function target function to.target
      target_is = subst (λ (x : Function). IsBlock prog f.function target x to.target) same_function to.is

      pub target_task : HasTask (graph_of function).blocks target (task_along w f.block fits.placed.task)
      target_task = subst (λ (x : Function). HasTask (graph_of x).blocks target (task_along w f.block fits.placed.task)) same_function
          (to.along fits.placed.task (subst (λ (x : Function). HasTask (graph_of x).blocks f.block fits.placed.task) (sym same_function) fits.placed.has_task))

      -- the table's task of a frame there
      pub task_there : (g : Frame) → g.function ≡ f.function → g.block ≡ target → task_of regions g ≡ innermost (task_along w f.block fits.placed.task)
      task_there g fn same = rw (fn, same) (task_is prog regions judged.tasks f.function target function to.target target_is (task_along w f.block fits.placed.task) target_task)

    -- with the phis' values, in the same task
    module _ (t : Terminator) (w : Way) (target : ℕ) (at : item_at prog f.function f.block f.index ≡ Some (Ends t)) (leads : LeadsTo t w target) (stays : task_along w f.block fits.placed.task ≡ fits.placed.task)
        (g : Frame) (fn : g.function ≡ f.function) (same : g.block ≡ target) (start : g.index ≡ 0) (home : g.home ≡ f.home) (along : registers_along prog f target ≡ Some g.registers)
        (agrees : Agrees (parameters_at prog.functions f.function) f.registers g.registers) (never : (k : ℕ) (d : Option RegisterId) → g.waits ≡ OnCall k d → ⊥) where
      edge_outside : IsOutside (PhiDefines function target) f g
      edge_outside = record { home = home; registers = along_outside prog f target g.registers function (to t w target at leads).target fits.placed.is.at_function (target_is t w target at leads).at_block along }

      edge_covering : (y : Zone) → Contains (covering_of function (innermost fits.placed.task)) y → IsOff (PhiDefines function target) y
      edge_covering = covering_off prog judged.names f.function function fits.placed.is.at_function (PhiDefines function target) target
          (λ x phi. (judged.registers.phis f.function target x function (to t w target at leads).target (target_is t w target at leads) phi).parameter)
          (λ x phi. (judged.registers.phis f.function target x function (to t w target at leads).target (target_is t w target at leads) phi).foot)
          fits.placed.task (subst (λ ds. HasTask (graph_of function).blocks target ds) stays (target_task t w target at leads))

      pub edge_fits : IsPlaced prog g → base p g → KnownHold prog g → ((v : Option ℤ) → IsEnsured prog g v → IsEnsured prog f v) → Fits prog regions base p g z
      edge_fits placed based known returns =
          next_fits prog regions judged base p f z fits g (PhiDefines function target) fn home edge_outside
          (task_there t w target at leads g fn same ∙ ap innermost stays ∙ sym (task_here prog regions judged base p f z fits)) edge_covering placed based (λ going. known)
          (λ j d name index c less there cell. absurd (omega (arith, less, start))) (names_on g fn home agrees (λ k d e. absurd (never k d e))) returns (never_waits g never)

      pub edge_pending : (taken : Taken prog f function block (ending_of prog f function block here t at).0 target) →
          (region : ℕ) → f.made ≤ g.made → ((q : RegisterId) → q.0 ≡ region → hands_on taken.edge.way q ≡ true) → Covers (kept_cells prog (pending_at prog p g region)) (kept_cells prog (pending_at prog p f region))
      edge_pending taken region more hands =
          let e = ending_of prog f function block here t at in
          region_covers prog f g p region more
          (pending_along prog regions judged base p f z fits g e.0 target (record { 0 = region }) e.1 taken fn same
          (goes_along prog f function block e.0 target taken regions judged g (to t w target at leads).target fits.placed.is.at_function (target_is t w target at leads).at_block along home agrees) hands)

    -- ---- by what stands there

    module _ (m : Memory) (e : Effect) (going : Going f) (act : action_of prog p f m ≡ Plain e) (fine : e.trap ≡ None) where
      known : KnownHold prog f
      known = fits.knows going

      based_next : base p (went f e)
      based_next = gives.kept.plain p f m e fits.based going act fine

      placed_next : IsPlaced prog (went f e)
      placed_next = (tasks.plain_kept p f m e tt fits.placed act fine tt).next

      known_next : KnownHold prog (went f e)
      known_next = (facts.plain_kept p f m e fits.based known act fine based_next).next

      returns_next : (v : Option ℤ) → IsEnsured prog (went f e) v → IsEnsured prog f v
      returns_next = ensured_from p p f (went f e) m (written e m) one_more (facts.plain_kept p f m e fits.based known act fine based_next).finds (λ v. refl)

      agrees_next : Agrees (parameters_at prog.functions f.function) f.registers e.registers
      agrees_next = subst (Passes prog f) act (action_passes prog judged.parameters p f m)

      abbrev never : (k : ℕ) (d : Option RegisterId) → (went f e).waits ≡ OnCall k d → ⊥
      never = no_call_after e.trap

      step_outside : (i : Instruction) → GoesOn f (dest_of i) e → IsOutside (Sets i) f (went f e)
      step_outside i on = record { home = refl; registers = λ x off. on.others x off }

      step_points : (i : Instruction) → item_at prog f.function f.block f.index ≡ Some (Does i) → (d : RegisterId) (name : ObjectName) (index : Operand) (c : Cell) → i ≡ instruction.ElementPointer d name index → cell_of (e.registers d.0) ≡ Some c →
          (object_at f name ≡ Some c.object) × (operand_value (numbers f.registers) index ≡ pos c.index)
      step_points i at d name index c is cell =
          let acts : instruction_action prog p f m i ≡ Plain e = same_action prog judged.ranges judged.typed judged.stable p f m (Does i) e act at in
          points_now f d name index prog p m e (subst (λ (x : Instruction). instruction_action prog p f m x ≡ Plain e) is acts) fine c cell

      pub plain_fits : Moves prog f e → Fits prog regions base p (went f e) z
      plain_fits (is_next i at on) =
          next_fits prog regions judged base p f z fits (went f e) (Sets i) refl refl (step_outside i on) (ap (λ n. task_of regions (record f { block = n })) on.block) (covering_stays f.index i at) placed_next based_next (λ g. known_next)
          (elements_behind prog f function block here regions judged f.index i at (no_less f.index) (went f e) refl on.block on.index (step_outside i on) (step_points i at) fits.elements)
          (names_on (went f e) refl refl agrees_next (λ k d h. absurd (never k d h))) returns_next (never_waits (went f e) never)
      plain_fits (is_along t at to on) = edge_fits t way.Branch e.block at to refl (went f e) refl refl on.index refl on.along agrees_next never placed_next based_next known_next returns_next

      pub plain_pending : Moves prog f e → (region : ℕ) → Covers (kept_cells prog (pending_at prog p (went f e) region)) (kept_cells prog (pending_at prog p f region))
      plain_pending (is_next i at on) region = region_covers prog f (went f e) p region (no_less f.made) (pending_stays prog (Sets i) f (went f e) (record { 0 = region }) refl on.block (step_outside i on) (waiting_stays f.index i at))
      plain_pending (is_along t at to on) region =
          let acts : terminator_action prog p f t ≡ Plain e = same_action prog judged.ranges judged.typed judged.stable p f m (Ends t) e act at in
          let place = end_place prog f function block here t at in
          let way_taken : IsTaken block.steps t (numbers f.registers) e.block = taken prog f block.steps (tests_here prog judged.ranges f t place known) p t e to acts fine in
          let ways : All (λ (x : EdgeSums). x.way ≡ way.Branch) (edges_out block.steps t) = branch_ways block.steps t e.block to in
          edge_pending t way.Branch e.block at to refl (went f e) refl refl on.index refl on.along agrees_next never (takes_way prog f function block here t at known e.block way_taken) region (no_less f.made)
          (λ q same. hands_branch way_taken.edge.way q (All-contains (λ (x : EdgeSums). x.way ≡ way.Branch) (edges_out block.steps t) way_taken.edge ways way_taken.among))
