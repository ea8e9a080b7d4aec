-- A detach: the child keeps to the foot of its block, the parent goes on, and the foot is pending there.
use Rattle.std.proofs.Common.{◌≡◌, ◌∙◌, inl, inr, ℕ, ℤ, List, [], ◌∷◌, Option, Some, true, refl, sym, ap, subst, arith, slice_get}
use Rattle.std.specs.List.{Contains}
use Rattle.std.proofs.lemmas.Bool.{false≢true}
use Rattle.syntax.specs.declared.operator.Mode.{Mode}
use Rattle.syntax.specs.declared.operator.Mode.TheVariants.{Reads, Adds}
use Rattle.semantics.specs.Paths.{Path}
use Rattle.semantics.specs.Below.{deeper}
use Rattle.semantics.specs.Cells.{Cell, Memory}
use Rattle.semantics.specs.Frames.{Child, Body, Frame, block_at, block_phis, phis_at, and_then}
use Rattle.semantics.specs.Effect.{Detach, action_of}
use Rattle.semantics.specs.State.{detached, continued}
use Rattle.semantics.specs.SerialMeaning.{Left, Gave, Outcome}
use Rattle.semantics.specs.SerialMeaning.{at_last}
use Rattle.laws_conditions.specs.theorem.Conditions.{Covers, Clear, Going}
use Rattle.program.specs.declared.annotation.Pending.{Pending}
use Rattle.program.specs.declared.annotation.Zone.{Zone}
use Rattle.program.specs.declared.function.Block.{Block}
use Rattle.program.specs.declared.function.Function.{Function}
use Rattle.program.specs.declared.function.Program.{Program}
use Rattle.program.specs.declared.instruction.Terminator.{Terminator}
use Rattle.program.specs.declared.instruction.Terminator.TheVariants as terminator
use Rattle.laws_phases.specs.cfg.declared.structure.Way.TheVariants as way
use Rattle.laws_phases.specs.ranges.declared.edge.EdgeSums.{EdgeSums}
use Rattle.laws_phases.specs.ranges.Edges.{edge_to}
use Rattle.linear.specs.declared.form.Fact.{Fact}
use Rattle.linear.specs.Forms.{Holds}
use Rattle.std.proofs.lemmas.List.Elements.{All-nil}
use Rattle.laws_phases.specs.region_match.declared.tables.Regions.{Regions}
use Rattle.laws_phases.specs.region_match.Rules.{ending_at}
use Rattle.laws_phases.specs.region_match.Tasks.{innermost}
use Rattle.laws_phases.specs.region_match.declared.task.Task.{Task}
use Rattle.laws_phases.specs.footprints.Zones.{mode_covers}
use Rattle.laws_phases.specs.footprints.Footprints.{foot_of, pending_of}
use Rattle.laws_phases.specs.footprints.Rules.{foot_at_end, covering_of, is_own_block}
use Rattle.laws_conditions.specs.rules.Costs.{numbers}
use Rattle.laws_conditions.specs.rules.Moves.{Forks}
use Rattle.laws_conditions.proofs.rules.Moves.{forks_here}
use Rattle.laws_phases.specs.defined.Leads.{IsBlock}
use Rattle.laws_phases.proofs.defined.Placed.{ending_is}
use Rattle.laws_phases.specs.facts.Known.{KnownHold}
use Rattle.laws_schedule.proofs.pointers.Runs.{carried}
use Rattle.laws_phases.specs.zones.Uses.{StandsIn, HoldsCell, IsInOne, task_of, MayUse}
use Rattle.laws_phases.specs.zones.Edges.{GoesAlong, IsPendingFor}
use Rattle.laws_phases.proofs.zones.Children.{from_child, feet_let}
use Rattle.laws_phases.proofs.zones.Edges.{feet_go_on}
use Rattle.laws_schedule.specs.zones.Keeping.{Keeping, OfTask, kept_cells, pending_at, Fits}
use Rattle.laws_schedule.specs.zones.ByPhases.{IsJudged, GivesWidths}
use Rattle.laws_schedule.proofs.zones.Zones.{IsOutside, IsOff}
use Rattle.laws_schedule.proofs.zones.Clear.{covers_trans, lets_zones, task_here}
use Rattle.laws_schedule.proofs.zones.Elements.{known_holds, names_are_apart}
use Rattle.laws_schedule.proofs.zones.Edges.{Taken, ending_of, takes, goes_straight, edge, edge_known}
use Rattle.laws_schedule.proofs.zones.Passing.{region_covers, pending_along, next_fits}
use Rattle.laws_schedule.proofs.zones.Meeting.{new_covered, new_clear}
use Rattle.laws_schedule.proofs.zones.Stepping.{facts, tasks, here, names_on, never_waits, to, target_is, task_there}
use Rattle.laws_schedule.proofs.Waits.{free_never}

no_phis : (prog : Program) (f target : ℕ) (function : Function) (k : Block) → slice_get prog.functions f ≡ Some function → slice_get function.blocks target ≡ Some k → phis_at prog f target ≡ [] → k.phis ≡ []
no_phis prog f target function k at there none = sym (ap (λ o. block_phis (and_then o (λ (g : Function). slice_get g.blocks target))) at ∙ ap block_phis there) ∙ none

-- a name's zone that is empty of changes
nothing_off : (z : Zone) → IsOff (λ x. ⊥) z
nothing_off z = record { low = λ k t l c. c; high = λ k t l c. c; object = λ r e c. c }

module _ (prog : Program) (regions : Regions) (judged : IsJudged prog regions) (base : Path → Frame → Type 0) (gives : GivesWidths prog base) (p : Path) (f : Frame) (z : Keeping) (fits : Fits prog regions base p f z)
    (m : Memory) (region body next : ℕ) (going : Going f) (act : action_of prog p f m ≡ Detach region body next) where
  abbrev function : Function
  function = fits.placed.function

  abbrev block : Block
  block = fits.placed.block

  known : KnownHold prog f
  known = fits.knows going

  in_block : StandsIn prog f function block
  in_block = here prog regions judged base gives p f z fits

  fork : Forks prog f region body next
  fork = forks_here prog p f m region body next act

  abbrev t : Terminator
  t = terminator.Detach fork.region fork.body fork.continuation

  abbrev child : Frame
  child = detached f region body next

  abbrev foot : List Zone
  foot = foot_of (slice_get function.blocks body)

  -- ---- the child

  may : (y : Zone) → Contains foot y → (c : Cell) → HoldsCell child y c → MayUse regions f function block y.mode c
  may y within c holds =
      feet_let prog regions judged.zones p f m function block in_block (known_holds prog f function block in_block known) (names_are_apart prog f function block in_block regions judged p fits.names)
      region body next act y within c holds

  abbrev pub keeping : Keeping
  keeping = OfTask child foot (f.made ∷ p)

  pub child_covered : Covers (kept_cells prog z) (kept_cells prog keeping)
  child_covered = new_covered prog regions judged base p f z fits child foot may

  pub child_clear : (r : ℕ) → Clear (kept_cells prog keeping) (kept_cells prog (pending_at prog p f r))
  child_clear = new_clear prog regions judged base p f z fits child foot may

  based_child : base (f.made ∷ p) child
  based_child = gives.kept.child p f m region body next fits.based going act

  known_child : KnownHold prog child
  known_child = (facts prog regions judged base gives).child_kept p f m region body next fits.based known act based_child

  child_task : task_of regions child ≡ innermost (f.block ∷ fits.placed.task)
  child_task = task_there prog regions judged base gives p f z fits t way.Detached body fork.is fork.body_is child refl refl

  covering_is : (g : Function) → slice_get prog.functions f.function ≡ Some g → covering_of g (task_of regions child) ≡ foot
  covering_is g at =
      let same : g ≡ function = (let both : Some g ≡ Some function = sym at ∙ fits.placed.is.at_function in cc) in
      let e = ending_of prog f function block in_block t fork.is in
      let ends : ending_at function.blocks f.block ≡ Some t = ending_is function.blocks f.block block e.0 t fits.placed.is.at_block e.1 e.3 in
      ap (λ (x : Task). covering_of g x) child_task ∙ ap (λ (x : Function). covering_of x (innermost (f.block ∷ fits.placed.task))) same
      ∙ ap (λ o. foot_at_end function.blocks o) ends ∙ ap (λ n. foot_of (slice_get function.blocks n)) fork.body_is

  not_own : is_own_block (task_of regions child) ≡ true → child.home ≡ f.made ∷ p
  not_own h = absurd (false≢true (sym (ap is_own_block child_task) ∙ h))

  not_body : (r k : ℕ) → Child r k ≡ Body → ⊥
  not_body r k e = cc

  pub child_fits : Fits prog regions base (f.made ∷ p) child keeping
  child_fits = record {
    placed = (tasks prog regions judged base gives).child_kept p f m region body next tt fits.placed act tt;
    based = based_child;
    knows = λ g. known_child;
    elements = λ j d name index c less there cell. absurd (omega (arith, less));
    names = carried prog.functions p (f.made ∷ p) f child fits.names refl refl (λ x l. refl) (omega arith) (λ k d e. absurd (free_never k d e));
    at_home = deeper f.made fits.at_home;
    own = not_own;
    covers = λ g at y within c holds.
        let within2 : Contains foot y = subst (λ ys. Contains ys y) (covering_is g at) within in
        lets_zones prog child foot (f.made ∷ p) y within2 c holds;
    owns = λ c below. (inr below, inr below);
    returns = λ v h role. absurd (not_body region next role);
    awaits = λ k d e. absurd (free_never k d e);
  }

  -- ---- the parent goes on

  abbrev on : Frame
  on = continued f next

  gone : Outcome
  gone = at_last Left m

  based_on : base p on
  based_on = gives.kept.continues p f m region body next fits.based going act

  left_never : (v : Option ℤ) → Left ≡ Gave v → ⊥
  left_never v e = cc

  nothing_outside : IsOutside (λ x. ⊥) f on
  nothing_outside = record { home = refl; registers = λ x off. refl }

  pub on_fits : Fits prog regions base p on z
  on_fits =
      let kept = (facts prog regions judged base gives).continued_kept p f m region body next fits.based known act based_child (at_last Left m) refl (λ v e. absurd (left_never v e)) based_on in
      next_fits prog regions judged base p f z fits on (λ x. ⊥) refl refl nothing_outside
      (task_there prog regions judged base gives p f z fits t way.Continued next fork.is fork.continuation_is on refl refl ∙ sym (task_here prog regions judged base p f z fits))
      (λ y within. nothing_off y)
      ((tasks prog regions judged base gives).continued_kept p f m region body next tt fits.placed act tt (at_last Left m) refl tt tt).next
      based_on (λ g. kept.next) (λ j d name index c less there cell. absurd (omega (arith, less)))
      (names_on prog regions judged base gives p f z fits on refl refl (λ x l. refl) (λ k d e. absurd (free_never k d e)))
      (λ v h. let k = h in record { number = k.number; holds = k.holds }) (never_waits prog regions judged base gives p f z fits on free_never)

  -- ---- what is pending

  abbrev leaving : EdgeSums
  leaving = edge_to fork.continuation way.Continued []

  abbrev taken : Taken prog f function block (ending_of prog f function block in_block t fork.is).0 next
  taken = takes prog f function block in_block t fork.is known leaving next (1, omega arith, refl) fork.continuation_is (All-nil (λ (g : Fact). Holds (numbers f.registers) g.form))

  there : IsBlock prog f.function next function (to prog regions judged base gives p f z fits t way.Continued next fork.is fork.continuation_is).target
  there = target_is prog regions judged base gives p f z fits t way.Continued next fork.is fork.continuation_is

  goes : GoesAlong prog f on (edge prog f function block (ending_of prog f function block in_block t fork.is).0 next taken).moves
  goes =
      let k : Block = (to prog regions judged base gives p f z fits t way.Continued next fork.is fork.continuation_is).target in
      let none : phis_at prog f.function next ≡ [] = subst (λ n. phis_at prog f.function n ≡ []) fork.continuation_is (judged.typed.forks f.function f.block f.index fork.region fork.body fork.continuation fork.is).1 in
      goes_straight prog f function block (ending_of prog f function block in_block t fork.is).0 next taken regions judged on k there.at_block (no_phis prog f.function next function k fits.placed.is.at_function there.at_block none) refl refl

  pub on_pending : (r : ℕ) → Covers (kept_cells prog (pending_at prog p on r)) (kept_cells prog (pending_at prog p f r))
  on_pending r =
      let e = ending_of prog f function block in_block t fork.is in
      region_covers prog f on p r (omega arith) (pending_along prog regions judged base p f z fits on e.0 next (record { 0 = r }) e.1 taken refl refl goes (λ q same. refl))

  for_region : (mode other : Mode) (c : Cell) (qs : List Pending) → IsPendingFor on qs fork.region mode c → mode_covers mode other ≡ true → IsPendingFor on qs (record { 0 = region }) other c
  for_region mode other c qs h covers = (h.0, h.1, h.2, h.3, (h.4.0 ∙ fork.region_is, (h.4.1.0, covers_trans h.1.zone.mode mode other h.4.1.1 covers)))

  -- the foot is pending of the region behind the detach
  foot_pending : (mode : Mode) (c : Cell) → IsInOne child foot mode c → IsPendingFor on (pending_of (block_at prog f.function next)) (record { 0 = region }) mode c
  foot_pending mode c any =
      let e = ending_of prog f function block in_block t fork.is in
      let within : Contains (foot_of (slice_get function.blocks fork.body.0)) any.1 = subst (λ n. Contains (foot_of (slice_get function.blocks n)) any.1) (sym fork.body_is) (any.0, any.2, any.3) in
      let at : pending_of (slice_get function.blocks fork.continuation.0) ≡ pending_of (block_at prog f.function next) =
      ap (λ n. pending_of (slice_get function.blocks n)) fork.continuation_is ∙ sym (ap (λ o. pending_of (and_then o (λ (h : Function). slice_get h.blocks next))) fits.placed.is.at_function) in
      let found = subst (λ qs. IsPendingFor on qs fork.region any.1.mode c) at
      (feet_go_on prog regions judged.zones f on function block e.0 in_block e.1 (edge prog f function block e.0 next taken) (edge_known prog f function block e.0 next taken) taken.hold goes
      fork.region fork.body fork.continuation e.3 refl any.1 within c (from_child f region body next any.1 c any.4.0)) in
      for_region any.1.mode mode c (pending_of (block_at prog f.function next)) found any.4.1

  pub foot_covered : Covers (kept_cells prog (pending_at prog p on region)) (kept_cells prog keeping)
  foot_covered = record {
    reads = λ c h. elim h [ inl any ↦ inl (foot_pending Reads c any) | inr below ↦ inr (f.made, omega arith, below) ];
    adds = λ c h. elim h [ inl any ↦ inl (foot_pending Adds c any) | inr below ↦ inr (f.made, omega arith, below) ];
  }
