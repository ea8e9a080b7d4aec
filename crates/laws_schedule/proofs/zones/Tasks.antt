-- The task of a frame by the table, and what covers its block.
use Rattle.std.proofs.Common.{◌≡◌, ◌∙◌, ℕ, zero, suc, ◌<◌, ◌≤◌, List, [], ◌∷◌, length, map, Option, Some, None, refl, ap, subst, arith, slice_get}
use Rattle.std.specs.List.{Contains}
use Rattle.std.proofs.lemmas.Option.{slice_get_within}
use Rattle.linear.specs.declared.form.RegisterId.{RegisterId}
use Rattle.program.specs.declared.annotation.Zone.{Zone}
use Rattle.program.specs.declared.identifier.BlockId.{BlockId}
use Rattle.program.specs.declared.identifier.ObjectName.{ObjectName}
use Rattle.program.specs.declared.identifier.ObjectName.TheVariants.{Global, Alloca, Parameter}
use Rattle.program.specs.declared.function.Block.{Block}
use Rattle.program.specs.declared.function.Function.{Function}
use Rattle.program.specs.declared.function.Program.{Program}
use Rattle.program.specs.declared.instruction.Terminator.{Terminator}
use Rattle.program.specs.declared.instruction.Terminator.TheVariants as terminator
use Rattle.types.specs.Apart.{IsNamedBy, in_zone, in_foot, parameters_at}
use Rattle.program.specs.Heads.{parameters_in}
use Rattle.laws_phases.specs.cfg.Edges.{graph_of, graphs_of}
use Rattle.laws_phases.proofs.cfg.EdgeLists.{length-edges_from}
use Rattle.laws_phases.specs.definedness.declared.act.Act.TheVariants.{Needs}
use Rattle.laws_phases.specs.definedness.RegisterActs.{zone_needs}
use Rattle.laws_phases.specs.region_match.declared.tables.FunctionTasks.{FunctionTasks}
use Rattle.laws_phases.specs.region_match.declared.tables.Regions.{Regions}
use Rattle.laws_phases.specs.region_match.Rules.{ending_at}
use Rattle.laws_phases.specs.region_match.Tasks.{HasTask, innermost, task_at, tasks_in, AreTasks, AreAllTasks}
use Rattle.laws_phases.specs.footprints.Footprints.{foot_of, child_foot}
use Rattle.laws_phases.specs.footprints.Rules.{foot_at_end, covering_of}
use Rattle.laws_phases.specs.defined.Leads.{IsBlock}
use Rattle.laws_phases.specs.defined.Stable.{IsOffFoot}
use Rattle.laws_phases.proofs.defined.Lists.{none_within, flat_within, within_at}
use Rattle.laws_schedule.specs.zones.ByPhases.{NamesZones}
use Rattle.laws_schedule.proofs.zones.Zones.{IsOff, over_off, needs_off}
use Rattle.laws_schedule.proofs.zones.Paths.{IsOwnName}

-- ---- the table

record TableAt (tables : List FunctionTasks) (f : ℕ) (function : Function) : Type 0 where
  table : FunctionTasks
  at : slice_get tables f ≡ Some table
  tasks : AreTasks (graph_of function).blocks table.tasks

table_at : (functions : List Function) (tables : List FunctionTasks) → AreAllTasks (map graph_of functions) tables → (f : ℕ) (function : Function) → slice_get functions f ≡ Some function → TableAt tables f function
table_at [] tables h f function e = absurd (cc)
table_at (g ∷ gs) [] h f function e = absurd h
table_at (g ∷ gs) (t ∷ ts) h zero function e = let same : g ≡ function = cc in record { table = t; at = refl; tasks = subst (λ (x : Function). AreTasks (graph_of x).blocks t.tasks) same h.0 }
table_at (g ∷ gs) (t ∷ ts) h (suc f) function e = let r = table_at gs ts h.1 f function e in record { table = r.table; at = r.at; tasks = r.tasks }

block_within : (function : Function) (b : ℕ) (block : Block) → slice_get function.blocks b ≡ Some block → b < length (graph_of function).blocks
block_within function b block at =
    let l : b < length function.blocks = slice_get_within function.blocks b block at in
    let e : length (graph_of function).blocks ≡ length function.blocks = length-edges_from function.blocks 0 function.blocks in
    omega (arith, l, e)

-- the table has the innermost detach of a block's task
pub task_is : (prog : Program) (regions : Regions) → AreAllTasks (graphs_of prog) regions.functions → (f b : ℕ) (function : Function) (block : Block) → IsBlock prog f b function block →
    (task : List ℕ) → HasTask (graph_of function).blocks b task → task_at (tasks_in (slice_get regions.functions f)) b ≡ innermost task
task_is prog regions tables f b function block is task has =
    let t : TableAt regions.functions f function = table_at prog.functions regions.functions tables f function is.at_function in
    ap (λ o. task_at (tasks_in o) b) t.at ∙ t.tasks.innermost b (block_within function b block is.at_block) has.0 has.1 ∙ ap innermost has.2

-- ---- what covers a block

-- one of the zones of the foot that a detach's child has
pub record IsFoot (function : Function) (detach : ℕ) (y : Zone) : Type 0 where
  pub region : RegisterId
  pub body : BlockId
  pub continuation : BlockId
  pub child : Block
  pub ends : ending_at function.blocks detach ≡ Some (terminator.Detach region body continuation)
  pub at : slice_get function.blocks body.0 ≡ Some child
  pub within : Contains child.foot y

foot_is : (function : Function) (detach : ℕ) (y : Zone) → Contains (foot_at_end function.blocks (ending_at function.blocks detach)) y → IsFoot function detach y
foot_is function detach y c = from (ending_at function.blocks detach) refl c
  where
    by_child : (region : RegisterId) (body continuation : BlockId) → ending_at function.blocks detach ≡ Some (terminator.Detach region body continuation) → (o : Option Block) → slice_get function.blocks body.0 ≡ o → Contains (foot_of o) y → IsFoot function detach y
    by_child region body continuation is None at h = absurd (none_within y h)
    by_child region body continuation is (Some child) at h = record { region = region; body = body; continuation = continuation; child = child; ends = is; at = at; within = h }

    by_end : (t : Terminator) → ending_at function.blocks detach ≡ Some t → Contains (child_foot function.blocks t) y → IsFoot function detach y
    by_end (terminator.Jump target) is h = absurd (none_within y h)
    by_end (terminator.Branch test x z) is h = absurd (none_within y h)
    by_end (terminator.Switch w a default cases) is h = absurd (none_within y h)
    by_end (terminator.Return v) is h = absurd (none_within y h)
    by_end (terminator.Detach region body continuation) is h = by_child region body continuation is (slice_get function.blocks body.0) refl h
    by_end (terminator.Reattach region continuation) is h = absurd (none_within y h)
    by_end (terminator.Sync region target) is h = absurd (none_within y h)

    from : (o : Option Terminator) → ending_at function.blocks detach ≡ o → Contains (foot_at_end function.blocks o) y → IsFoot function detach y
    from None is h = absurd (none_within y h)
    from (Some t) is h = by_end t is h

module _ (prog : Program) (names : NamesZones prog) (f : ℕ) (function : Function) (at : slice_get prog.functions f ≡ Some function) where
  counted : parameters_at prog.functions f ≡ length function.parameters
  counted = ap parameters_in at

  head_named : (y : Zone) → Contains function.zones y → IsNamedBy prog.functions f y.object
  head_named y c = let (i, e) = within_at function.zones y c in in_zone i function y at e refl

  foot_named : (detach : ℕ) (y : Zone) → IsFoot function detach y → IsNamedBy prog.functions f y.object
  foot_named detach y h = let (i, e) = within_at h.child.foot y h.within in in_foot h.body.0 i h.child y (record { function = function; at_function = at; at_block = h.at }) e refl

  pub own_name : (name : ObjectName) → IsNamedBy prog.functions f name → IsOwnName prog.functions f name
  own_name (Global g) h = tt
  own_name (Alloca a) h = tt
  own_name (Parameter r) h = names.own f r h

  pub covering_named : (task : List ℕ) (y : Zone) → Contains (covering_of function (innermost task)) y → IsNamedBy prog.functions f y.object
  covering_named [] y c = head_named y c
  covering_named (d ∷ ds) y c = foot_named d y (foot_is function d y c)

  -- changes of registers that are no parameters, and that the foot of a child does not name in its blocks, are off what covers them
  pub covering_off : (changed : ℕ → Type 0) (b : ℕ) → ((x : ℕ) → changed x → length function.parameters ≤ x) → ((x : ℕ) → changed x → IsOffFoot function b x) →
      (task : List ℕ) → HasTask (graph_of function).blocks b task → (y : Zone) → Contains (covering_of function (innermost task)) y → IsOff changed y
  covering_off changed b above off [] has y c =
      over_off changed (length function.parameters) y above (names.over f function at y c)
      (λ r e. subst (λ n. r.0 < n) counted (names.own f r (subst (λ (n : ObjectName). IsNamedBy prog.functions f n) e (head_named y c))))
  covering_off changed b above off (d ∷ ds) has y c =
      let foot : IsFoot function d y = foot_is function d y c in
      needs_off changed function.allocas y
      (λ x ch n. off x ch d ds foot.region foot.body foot.continuation foot.child has foot.ends foot.at (n.0, flat_within (zone_needs function.allocas) foot.child.foot y (Needs x n.0) foot.within n.1))
