-- Along the serial run each frame stands in a block whose task suits its role.
use Rattle.std.proofs.Common.{◌≡◌, ℕ, zero, suc, ◌<◌, ◌≤◌, List, [], ◌∷◌, length, Option, Some, None, true, is_some, refl, ap, subst, ◌∙◌, arith, slice_get}
use Rattle.std.specs.Prelude.{IsSome}
use Rattle.std.proofs.lemmas.List.Elements.{All-contains}
use Rattle.std.proofs.lemmas.Option.{slice_get_within}
use Rattle.semantics.specs.Paths.{Path}
use Rattle.semantics.specs.Frames.{Registers, Body, Frame, Item, Does, Ends, item_of, block_at, item_at}
use Rattle.semantics.specs.Effect.{Effect}
use Rattle.semantics.specs.State.{went, detached, continued, synced, called, waiting, resumed}
use Rattle.semantics.proofs.Confluence.{one_result}
use Rattle.laws_conditions.specs.theorem.SerialConditions.{Says, Nothing, KeptSerially}
use Rattle.linear.specs.declared.form.RegisterId.{RegisterId}
use Rattle.program.specs.declared.identifier.BlockId.{BlockId}
use Rattle.program.specs.declared.function.Block.{Block}
use Rattle.program.specs.declared.function.Function.{Function}
use Rattle.program.specs.declared.function.Program.{Program}
use Rattle.program.specs.declared.instruction.Ending.{Ending}
use Rattle.program.specs.declared.instruction.Instruction.{Instruction}
use Rattle.program.specs.declared.instruction.Instruction.TheVariants as instruction
use Rattle.program.specs.declared.instruction.Step.{Step}
use Rattle.program.specs.declared.instruction.Terminator.{Terminator}
use Rattle.program.specs.declared.instruction.Terminator.TheVariants as terminator
use Rattle.cfg.specs.declared.structure.Way.{Way}
use Rattle.cfg.specs.declared.structure.Way.TheVariants as way
use Rattle.cfg.specs.Edges.{graph_of}
use Rattle.cfg.specs.Rules.{IsFunctionRight}
use Rattle.region_match.specs.Rules.{ending_at}
use Rattle.region_match.specs.Tasks.{task_along, task_on, HasTask}
use Rattle.laws_conditions.specs.rules.InProofs.{Moves, is_next, is_along}
use Rattle.laws_conditions.specs.rules.Moves.{SyncsTo}
use Rattle.laws_conditions.proofs.rules.Moves.{moves, sync_here, calls_here, forks_here}
use Rattle.laws_phases.specs.defined.Leads.{LeadsTo, IsBlock}
use Rattle.laws_phases.specs.defined.Names.{IsNamed}
use Rattle.laws_phases.specs.defined.Placed.{Suits, IsPlaced, Placed, NoFinds, TasksKept, PlacesHaveItems}
use Rattle.laws_phases.proofs.defined.Lists.{at_within}
use Rattle.laws_phases.proofs.defined.Items.{stands, is_block, end_there, edge_behind, step_there, function_there}

-- the terminator at a place is that of its block
pub record EndsBlock (prog : Program) (f b : ℕ) (t : Terminator) : Type 0 where
  pub function : Function
  pub block : Block
  pub ending : Ending
  pub is : IsBlock prog f b function block
  pub has : block.ending ≡ Some ending
  pub ends : ending.terminator ≡ t

pub ends_block : (prog : Program) (f b i : ℕ) (t : Terminator) → item_at prog f b i ≡ Some (Ends t) → EndsBlock prog f b t
ends_block prog f b i t at =
    let s = stands prog f b i (Ends t) at in
    let e = end_there s.block.steps s.block.ending i t s.item in
    record { function = s.function; block = s.block; ending = e.0; is = s.is; has = e.1; ends = e.2 }

pub ending_is : (bodies : List Block) (b : ℕ) (block : Block) (ending : Ending) (t : Terminator) → slice_get bodies b ≡ Some block → block.ending ≡ Some ending → ending.terminator ≡ t → ending_at bodies b ≡ Some t
ending_is bodies b block ending t at has ends = rw (at, has, ends) refl

-- a block to which a terminator leads has the task behind that way
pub record Arrives (prog : Program) (f b to : ℕ) (w : Way) : Type 0 where
  pub function : Function
  pub block : Block
  pub target : Block
  pub from : IsBlock prog f b function block
  pub is : IsBlock prog f to function target
  pub along : (task : List ℕ) → HasTask (graph_of function).blocks b task → HasTask (graph_of function).blocks to (task_along w b task)

module _ (prog : Program) (named : IsNamed prog) where
  pub arrives : (f b i to : ℕ) (t : Terminator) (w : Way) → item_at prog f b i ≡ Some (Ends t) → LeadsTo t w to → Arrives prog f b to w
  arrives f b i to t w at leads =
      let e = ends_block prog f b i t at in
      let there = is_block prog f to e.function e.is.at_function (named.targets f b i to t w at leads) in
      let edge = edge_behind prog f b to e.function e.block there.0 e.ending w e.is e.has there.1.at_block (rw e.ends leads) in
      record {
        function = e.function;
        block = e.block;
        target = there.0;
        from = e.is;
        is = there.1;
        along = λ task h. (
          record { from = b; edge = edge.edge } ∷ h.0,
          (edge.within, edge.target, h.1),
          ap (λ x. task_along x b (task_on h.0)) edge.way_is ∙ ap (λ ds. task_along w b ds) h.2,
        );
      }

  same_function : (f b c : ℕ) (function other : Function) (block target : Block) → IsBlock prog f b function block → IsBlock prog f c other target → function ≡ other
  same_function f b c function other block target h k = one_result (slice_get prog.functions f) function other h.at_function k.at_function

  -- a frame that goes on in its task
  pub goes_placed : (f h : Frame) (w : Way) → IsPlaced prog f → Arrives prog f.function f.block h.block w → h.function ≡ f.function → h.role ≡ f.role → h.index ≡ 0 → ((ds : List ℕ) → task_along w f.block ds ≡ ds) → IsPlaced prog h
  goes_placed f h w good to fn role start same =
      let one : good.function ≡ to.function = same_function f.function f.block f.block good.function to.function good.block to.block good.is to.from in
      record {
        function = to.function;
        block = to.target;
        is = rw fn to.is;
        within = omega (arith, start);
        task = good.task;
        has_task = subst (λ ds. HasTask (graph_of to.function).blocks h.block ds) (same good.task) (to.along good.task (subst (λ (x : Function). HasTask (graph_of x).blocks f.block good.task) one good.has_task));
        suits = rw role (subst (λ (x : Function). Suits x.blocks f.role good.task) one good.suits);
      }

  -- a step of a block stands within it
  step_inside : (f : Frame) (what : Instruction) → (good : IsPlaced prog f) → item_at prog f.function f.block f.index ≡ Some (Does what) → f.index < length good.block.steps
  step_inside f what good at =
      let s = stands prog f.function f.block f.index (Does what) at in
      let step = step_there s.block.steps s.block.ending f.index what s.item in
      let one : s.function ≡ good.function = same_function f.function f.block f.block s.function good.function s.block good.block s.is good.is in
      let two : s.block ≡ good.block = one_result (slice_get good.function.blocks f.block) s.block good.block (subst (λ (x : Function). slice_get x.blocks f.block ≡ Some s.block) one s.is.at_block) good.is.at_block in
      slice_get_within good.block.steps f.index step.0 (subst (λ (x : Block). slice_get x.steps f.index ≡ Some step.0) two step.1)

  stays_placed : (f h : Frame) (what : Instruction) → IsPlaced prog f → item_at prog f.function f.block f.index ≡ Some (Does what) → h.function ≡ f.function → h.block ≡ f.block → h.role ≡ f.role → h.index ≡ suc f.index → IsPlaced prog h
  stays_placed f h what good at fn block role index = record {
    function = good.function;
    block = good.block;
    is = rw (fn, block) good.is;
    within = let less = step_inside f what good at in omega (arith, index, less);
    task = good.task;
    has_task = rw block good.has_task;
    suits = rw role good.suits;
  }

  sync_way : (t : Terminator) (r b : ℕ) → SyncsTo t r b → LeadsTo t (way.Synced (record { 0 = r })) b
  sync_way t r b h = h

  -- a new child is in the task of its detach
  child_placed : (f : Frame) (r b k : ℕ) (region : RegisterId) (body continuation : BlockId) → IsPlaced prog f → item_at prog f.function f.block f.index ≡ Some (Ends (terminator.Detach region body continuation)) → region.0 ≡ r → body.0 ≡ b → continuation.0 ≡ k →
      IsPlaced prog (detached f r b k)
  child_placed f r b k region body continuation good at region_is body_is continuation_is =
      let to = arrives f.function f.block f.index b (terminator.Detach region body continuation) way.Detached at body_is in
      let e = ends_block prog f.function f.block f.index (terminator.Detach region body continuation) at in
      let one : good.function ≡ to.function = same_function f.function f.block f.block good.function to.function good.block to.block good.is to.from in
      let two : e.function ≡ to.function = same_function f.function f.block f.block e.function to.function e.block to.block e.is to.from in
      let ending : ending_at e.function.blocks f.block ≡ Some (terminator.Detach region body continuation) = ending_is e.function.blocks f.block e.block e.ending (terminator.Detach region body continuation) e.is.at_block e.has e.ends in
      record {
        function = to.function;
        block = to.target;
        is = to.is;
        within = omega arith;
        task = f.block ∷ good.task;
        has_task = to.along good.task (subst (λ (x : Function). HasTask (graph_of x).blocks f.block good.task) one good.has_task);
        suits = (region, continuation, (body, subst (λ (x : Function). ending_at x.blocks f.block ≡ Some (terminator.Detach region body continuation)) two ending), region_is, continuation_is);
      }

  callee_placed : (p : Path) (f : Frame) (g : ℕ) (function : Function) (block : Block) → IsBlock prog g 0 function block → (home : Path) (registers : Registers) → (h : Frame) → h.function ≡ g → h.block ≡ 0 → h.index ≡ 0 → h.role ≡ Body → IsPlaced prog h
  callee_placed p f g function block is home registers h fn at start role = record {
    function = function;
    block = block;
    is = rw (fn, at) is;
    within = omega (arith, start);
    task = [];
    has_task = rw at ([], refl, refl);
    suits = rw role tt;
  }

  pub tasks_kept : (base : Says) → KeptSerially prog base (Placed prog) NoFinds
  tasks_kept base = record {
    plain_kept = λ p f m e b good at fine nb. record { next = plain_placed f e good (moves prog p f m e at fine); finds = λ o h. tt };
    sync_kept = λ p f m r t rs b good at nb.
        let s = sync_here prog p f m r t rs at in
        record { next = goes_placed f (synced f r t rs) (way.Synced (record { 0 = r })) good (arrives f.function f.block f.index t s.0 (way.Synced (record { 0 = r })) s.1 (sync_way s.0 r t s.2)) refl refl refl (λ ds. refl); finds = λ o h. tt };
    child_kept = λ p f m r body next b good at nb. let c = forks_here prog p f m r body next at in child_placed f r body next c.region c.body c.continuation good c.is c.region_is c.body_is c.continuation_is;
    continued_kept = λ p f m r body next b good at nc o gone h nb.
        let c = forks_here prog p f m r body next at in
        record { next = goes_placed f (continued f next) way.Continued good (arrives f.function f.block f.index next (terminator.Detach c.region c.body c.continuation) way.Continued c.is c.continuation_is) refl refl refl (λ ds. refl); finds = λ u k. tt };
    callee_kept = λ p f m d g vs b good at nb.
        let c = calls_here prog p f m d g vs at in
        let there = function_there prog g (subst (λ n. is_some (block_at prog n 0) ≡ true) c.number (named.callees f.function f.block f.index d c.function c.arguments c.is)) in
        callee_placed p f g there.0 there.1 there.2 (f.made ∷ p) f.registers (called p f g vs) refl refl refl refl;
    resumed_kept = λ p f m d g vs b good at nc o v gave h nb. let c = calls_here prog p f m d g vs at in record { next = stays_placed f (resumed (waiting f d) d v) (instruction.Call d c.function c.arguments) good c.is refl refl refl refl; finds = λ u k. tt };
    reattach_finds = λ p f m r b good at. tt;
    return_finds = λ p f m v b good at. tt;
  }
    where
      plain_placed : (f : Frame) (e : Effect) → IsPlaced prog f → Moves prog f e → IsPlaced prog (went f e)
      plain_placed f e good (is_next i at on) = stays_placed f (went f e) i good at refl on.block refl on.index
      plain_placed f e good (is_along t at to on) = goes_placed f (went f e) way.Branch good (arrives f.function f.block f.index e.block t way.Branch at to) refl refl on.index (λ ds. refl)

pub tasks_kept_alone : TasksKept
tasks_kept_alone prog named = tasks_kept prog named Nothing

-- a step, or behind all of them the terminator
item_within : (steps : List Step) (ending : Ending) (i : ℕ) → i ≤ length steps → (x : Item) × (item_of steps (Some ending) i ≡ Some x)
item_within [] ending zero low = (Ends ending.terminator, refl)
item_within [] ending (suc i) low = absurd (omega (arith, low))
item_within (s ∷ steps) ending zero low = (Does s.instruction, refl)
item_within (s ∷ steps) ending (suc i) low = item_within steps ending i (omega (arith, low))

pub places_have_items : PlacesHaveItems
places_have_items prog graph f placed =
    let right = All-contains IsFunctionRight prog.functions placed.function graph (at_within prog.functions f.function placed.function placed.is.at_function) f.block placed.block placed.is.at_block in
    by placed.block.ending refl right.2
  where
    by : (o : Option Ending) → placed.block.ending ≡ o → IsSome o → (x : Item) × (item_at prog f.function f.block f.index ≡ Some x)
    by None is there = absurd (cc)
    by (Some ending) is there =
        let x = item_within placed.block.steps ending f.index placed.within in
        (x.0, rw (placed.is.at_function, placed.is.at_block, is) x.1)
