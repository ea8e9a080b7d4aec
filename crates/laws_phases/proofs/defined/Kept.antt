-- Along the serial run each frame has the values that the rule on allocas speaks of.
use Rattle.std.proofs.Common.{◌≡◌, ℕ, suc, ◌<◌, ◌≤◌, List, ◌∷◌, length, Option, Some, None, true, is_some, refl, sym, ap, subst, ◌∙◌, arith, slice_get, ℤ}
use Rattle.semantics.specs.Paths.{Path}
use Rattle.semantics.specs.Cells.{Local, Cell, Memory}
use Rattle.semantics.specs.Frames.{Value, Registers, Frame, Does, Ends, item_at, cells_of, cell_of}
use Rattle.semantics.specs.Effect.{Sync, Call, Reattach, Detach, argument_values, action_of}
use Rattle.semantics.specs.State.{detached, continued, synced, called, waiting, resumed}
use Rattle.semantics.specs.SerialMeaning.{Left, Gave, Outcome}
use Rattle.laws_conditions.specs.theorem.SerialConditions.{Says, KeptSerially}
use Rattle.semantics.specs.SerialMeaning.{one_more, both_outcomes, at_last}
use Rattle.semantics.proofs.Confluence.{one_result}
use Rattle.linear.specs.declared.form.RegisterId.{RegisterId}
use Rattle.program.specs.declared.identifier.BlockId.{BlockId}
use Rattle.program.specs.declared.identifier.FunctionId.{FunctionId}
use Rattle.program.specs.declared.instruction.Argument.{Argument}
use Rattle.program.specs.declared.instruction.Argument.TheVariants as argument
use Rattle.program.specs.declared.identifier.ObjectName.TheVariants as object
use Rattle.program.specs.declared.function.Block.{Block}
use Rattle.program.specs.declared.function.Function.{Function}
use Rattle.program.specs.declared.function.Program.{Program}
use Rattle.program.specs.declared.instruction.Instruction.TheVariants as instruction
use Rattle.program.specs.declared.instruction.Terminator.{Terminator}
use Rattle.program.specs.declared.instruction.Terminator.TheVariants as terminator
use Rattle.refusal.specs.declared.broken.Broken.{Broken}
use Rattle.cfg.specs.declared.structure.Way.{Way}
use Rattle.cfg.specs.declared.structure.Way.TheVariants as way
use Rattle.cfg.specs.Edges.{graph_of}
use Rattle.region_match.specs.Rules.{ending_at}
use Rattle.region_match.specs.Tasks.{HasTask}
use Rattle.definedness.specs.Definedness.{IsDefinednessBroken}
use Rattle.definedness.specs.AllocaActs.{step_cells}
use Rattle.definedness.specs.Sure.{Labels, IsReattach}
use Rattle.laws_conditions.specs.rules.Costs.{parameters_of}
use Rattle.laws_conditions.proofs.rules.Moves.{moves, sync_here, syncs_along, calls_here, forks_here}
use Rattle.laws_phases.specs.defined.Leads.{LeadsTo, IsBlock}
use Rattle.laws_phases.specs.defined.Names.{IsNamed}
use Rattle.laws_phases.specs.defined.Placed.{IsPlaced}
use Rattle.laws_phases.specs.defined.Values.{NamesObjects, Full, Shallow, IsLabelled, IsHeldAt, HasValues, KeepsValues, ValuesAreKept}
use Rattle.laws_phases.proofs.defined.Items.{stands, end_there}
use Rattle.laws_phases.proofs.defined.Placed.{ending_is, arrives}
use Rattle.laws_phases.proofs.defined.Stored.{BroughtByChild, held_at_end, held_at_entry}
use Rattle.laws_phases.proofs.defined.Written.{clear_keeps, shallower, none_given, arguments_quiet}
use Rattle.laws_phases.proofs.defined.Values.{result_other, passed_at, passed_object, along_stays, moved_values, no_elements, sets_along, no_child, next_values, finds_along, goes_same, goes_along, plain_next, plain_finds}
use Rattle.laws_phases.proofs.defined.Needed.{passed_full}
use Rattle.laws_phases.proofs.defined.Ending.{reattach_here}

module _ (prog : Program) (named : IsNamed prog) (objects : NamesObjects prog) (right : (b : Broken) → IsDefinednessBroken prog b → ⊥) where
  abbrev Cells : Path → Memory → Memory → Type 0
  Cells p m u = (c : Cell) → Shallow (suc (length p)) c.object → is_some (m c) ≡ true → is_some (u c) ≡ true

  all_cells : (p : Path) (m : Memory) → Cells p m m
  all_cells p m c s h = h

  -- a frame at the start of a block that its terminator leads to, with the registers that it had or those of the edge
  edge_values : (p q : Path) (f h : Frame) (m u : Memory) (t : Terminator) (w : Way) → HasValues prog p f m → (keep : Cells p m u) → item_at prog f.function f.block f.index ≡ Some (Ends t) → LeadsTo t w h.block → h.function ≡ f.function → h.home ≡ f.home → h.index ≡ 0 → length p ≤ length q →
      ((k : ℕ) → k < parameters_of prog f.function → h.registers k ≡ f.registers k) →
      ((function : Function) (a : ℕ) (l : Labels) → slice_get prog.functions f.function ≡ Some function → IsLabelled function a l → BroughtByChild function a l f.block w → Full (cells_of prog f.function (object.Alloca (record { 0 = a }))) (Local f.home a) u) → HasValues prog q h u
  edge_values p q f h m u t w good keep at leads fn home index low same brought =
      moved_values prog named objects p f m u good keep h q fn home low same
      (λ function block a l region is lab held. sets_along prog named objects p f m u good keep t w h.block at leads brought function block a l region is lab (subst (λ n. IsHeldAt function l a region h.block block n) index held))
      (no_elements prog named objects p f m u good keep h index)

  sync_values : (p : Path) (f : Frame) (m : Memory) (r b : ℕ) (rs : Registers) → HasValues prog p f m → action_of prog p f m ≡ Sync r b rs → HasValues prog p (synced f r b rs) m
  sync_values p f m r b rs good act =
      let s = sync_here prog p f m r b rs act in
      let w : Way = way.Synced (record { 0 = r }) in
      let there = arrives prog named f.function f.block f.index b s.0 (way.Synced (record { 0 = r })) s.1 s.2 in
      edge_values p p f (synced f r b rs) m m s.0 (way.Synced (record { 0 = r })) good (all_cells p m) s.1 s.2 refl refl refl (omega arith)
      (along_stays prog named objects f b rs there.function there.target there.is (syncs_along prog p f m r b rs act))
      (no_child prog named objects p f m m good (all_cells p m) (way.Synced (record { 0 = r })) (λ h. cc))

  sync_finds : (p : Path) (f : Frame) (m : Memory) (r b : ℕ) (rs : Registers) → action_of prog p f m ≡ Sync r b rs → (o : Outcome) → KeepsValues prog p (synced f r b rs) m o → KeepsValues prog p f m (one_more o)
  sync_finds p f m r b rs act o k =
      let s = sync_here prog p f m r b rs act in
      finds_along prog named objects p f (synced f r b rs) m m o (λ c e g. g) refl refl (goes_along prog named objects f (synced f r b rs) s.0 (way.Synced (record { 0 = r })) (λ ds. refl) s.1 s.2) k (one_more o) refl refl

  child_values : (p : Path) (f : Frame) (m : Memory) (r body next : ℕ) → HasValues prog p f m → action_of prog p f m ≡ Detach r body next → HasValues prog (f.made ∷ p) (detached f r body next) m
  child_values p f m r body next good act =
      let c = forks_here prog p f m r body next act in
      edge_values p (f.made ∷ p) f (detached f r body next) m m (terminator.Detach c.region c.body c.continuation) way.Detached good (all_cells p m) c.is c.body_is refl refl refl (omega arith) (λ k less. refl)
      (no_child prog named objects p f m m good (all_cells p m) way.Detached (λ h. cc))

  -- behind a child, what it brought has values
  continued_values : (p : Path) (f : Frame) (m : Memory) (r body next : ℕ) → HasValues prog p f m → IsPlaced prog f → action_of prog p f m ≡ Detach r body next → (o : Outcome) → o.ending ≡ Left → KeepsValues prog (f.made ∷ p) (detached f r body next) m o → HasValues prog p (continued f next) o.memory
  continued_values p f m r body next good placed act o left k =
      let c = forks_here prog p f m r body next act in
      let there = arrives prog named f.function f.block f.index body (terminator.Detach c.region c.body c.continuation) way.Detached c.is c.body_is in
      edge_values p p f (continued f next) m o.memory (terminator.Detach c.region c.body c.continuation) way.Continued good k.keeps c.is c.continuation_is refl refl refl (omega arith) (λ n less. refl)
      (λ function a l at lab h.
      let one : there.function ≡ function = one_result (slice_get prog.functions f.function) there.function function there.from.at_function at in
      let mine : placed.function ≡ there.function = one_result (slice_get prog.functions f.function) placed.function there.function placed.is.at_function there.from.at_function in
      let outer : HasTask (graph_of there.function).blocks f.block placed.task = subst (λ (x : Function). HasTask (graph_of x).blocks f.block placed.task) mine placed.has_task in
      k.child left function there.target a l (f.block ∷ placed.task) (subst (λ (x : Function). IsBlock prog f.function body x there.target) one there.is) lab (subst (λ (x : Function). HasTask (graph_of x).blocks body (f.block ∷ placed.task)) one (there.along placed.task outer))
      (λ end reattach task. h.1 end (reattach, placed.task, task)))

  both_finds : (p : Path) (f h : Frame) (m : Memory) (o u : Outcome) → Cells p m o.memory → h.function ≡ f.function → h.home ≡ f.home →
      ((function : Function) (task : List ℕ) → slice_get prog.functions f.function ≡ Some function → HasTask (graph_of function).blocks f.block task → ((target : Block) × IsBlock prog f.function h.block function target) × HasTask (graph_of function).blocks h.block task) →
      KeepsValues prog p h o.memory u → KeepsValues prog p f m (both_outcomes o u)
  both_finds p f h m o u keep fn home goes k =
      finds_along prog named objects p f h m o.memory u (λ c s g. keep c (shallower (length p) (suc (length p)) c.object (omega arith) s) g) fn home goes k (both_outcomes o u) refl refl

  continued_finds : (p : Path) (f : Frame) (m : Memory) (r body next : ℕ) → action_of prog p f m ≡ Detach r body next → (o : Outcome) → KeepsValues prog (f.made ∷ p) (detached f r body next) m o → (u : Outcome) → KeepsValues prog p (continued f next) o.memory u → KeepsValues prog p f m (both_outcomes o u)
  continued_finds p f m r body next act o k u l =
      let c = forks_here prog p f m r body next act in
      both_finds p f (continued f next) m o u k.keeps refl refl (goes_along prog named objects f (continued f next) (terminator.Detach c.region c.body c.continuation) way.Continued (λ ds. refl) c.is c.continuation_is) l

  callee_values : (p : Path) (f : Frame) (m : Memory) (d : Option RegisterId) (g : ℕ) (vs : List Value) → HasValues prog p f m → action_of prog p f m ≡ Call d g vs → HasValues prog (f.made ∷ p) (called p f g vs) m
  callee_values p f m d g vs good act =
      let c = calls_here prog p f m d g vs act in
      record {
        home = omega arith;
        given = λ k x less at. by c.is c.number c.values_are k x at;
        globals = good.globals;
        sets = λ function block a l region is lab held. absurd (held_at_entry function a l region block lab held);
        elements = λ j e name index x less at holds. absurd (omega (arith, less));
      }
    where
      by : {function : FunctionId} {arguments : List Argument} → item_at prog f.function f.block f.index ≡ Some (Does (instruction.Call d function arguments)) → function.0 ≡ g → argument_values f arguments ≡ Some vs →
          (k : ℕ) (x : Cell) → cell_of (slice_get vs k) ≡ Some x → Shallow (suc (length (f.made ∷ p))) x.object × Full (cells_of prog g (object.Parameter (record { 0 = k }))) x.object m
      by {function} {arguments} is number values k x at = from (slice_get vs k) refl at
        where
          from : (o : Option Value) → slice_get vs k ≡ o → cell_of o ≡ Some x → Shallow (suc (length (f.made ∷ p))) x.object × Full (cells_of prog g (object.Parameter (record { 0 = k }))) x.object m
          from None there h = absurd (cc)
          from (Some v) there h =
              let a = passed_at f arguments vs k v values there in
              let b = passed_object f a.0 v x a.2 h in
              let passed : slice_get arguments k ≡ Some (argument.Object b.0) = a.1 ∙ ap (λ y. Some y) b.1 in
              let full = passed_full prog named objects right p f m good d function arguments k b.0 x.object is passed b.2 in
              let large = objects.large f.function f.block f.index k d function arguments b.0 is passed in
              let narrow : Full (cells_of prog function.0 (object.Parameter (record { 0 = k }))) x.object m = λ i less. full.0 i (omega (arith, large, less)) in
              (shallower (suc (length p)) (suc (length (f.made ∷ p))) x.object (omega arith) full.1, subst (λ n. Full (cells_of prog n (object.Parameter (record { 0 = k }))) x.object m) number narrow)

  resumed_values : (p : Path) (f : Frame) (m : Memory) (d : Option RegisterId) (g : ℕ) (vs : List Value) → HasValues prog p f m → action_of prog p f m ≡ Call d g vs → (o : Outcome) (v : Option ℤ) → KeepsValues prog (f.made ∷ p) (called p f g vs) m o → HasValues prog p (resumed (waiting f d) d v) o.memory
  resumed_values p f m d g vs good act o v k =
      let c = calls_here prog p f m d g vs act in
      next_values prog named objects p f m o.memory good k.keeps (resumed (waiting f d) d v) (instruction.Call d c.function c.arguments) refl refl refl refl c.is
      (λ x apart. result_other f.registers d v x apart)
      (λ function s steps a at does stored. absurd (none_given (step_cells function.allocas steps s) a (rw does (arguments_quiet s.line c.arguments)) stored))
      (λ e name index x same holds. absurd (cc))

  resumed_finds : (p : Path) (f : Frame) (m : Memory) (d : Option RegisterId) (g : ℕ) (vs : List Value) → action_of prog p f m ≡ Call d g vs → (o : Outcome) (v : Option ℤ) → KeepsValues prog (f.made ∷ p) (called p f g vs) m o → (u : Outcome) → KeepsValues prog p (resumed (waiting f d) d v) o.memory u → KeepsValues prog p f m (both_outcomes o u)
  resumed_finds p f m d g vs act o v k u l =
      let c = calls_here prog p f m d g vs act in
      both_finds p f (resumed (waiting f d) d v) m o u k.keeps refl refl (goes_same prog named objects f (resumed (waiting f d) d v) (instruction.Call d c.function c.arguments) c.is refl) l

  -- a child that ends is sure of what it is sure of at this end
  reattach_values : (p : Path) (f : Frame) (m : Memory) (r : ℕ) → HasValues prog p f m → action_of prog p f m ≡ Reattach r → KeepsValues prog p f m (at_last Left m)
  reattach_values p f m r good act = record {
    keeps = λ c s g. g;
    child = λ left function block a l task is lab has all.
        let e = reattach_there in
        let s = stands prog f.function f.block f.index (Ends (terminator.Reattach e.0 e.1)) e.2 in
        let end = end_there s.block.steps s.block.ending f.index (terminator.Reattach e.0 e.1) s.item in
        let one : s.function ≡ function = one_result (slice_get prog.functions f.function) s.function function s.is.at_function is.at_function in
        let two : s.block ≡ block = one_result (slice_get function.blocks f.block) s.block block (subst (λ (x : Function). slice_get x.blocks f.block ≡ Some s.block) one s.is.at_block) is.at_block in
        let has_ending : block.ending ≡ Some end.0 = subst (λ (x : Block). x.ending ≡ Some end.0) two end.1 in
        let last : f.index ≡ length block.steps = end.3 ∙ ap (λ (x : Block). length x.steps) two in
        let reattaches : IsReattach (ending_at function.blocks f.block) = (e.0, e.1, ending_is function.blocks f.block block end.0 (terminator.Reattach e.0 e.1) is.at_block has_ending end.2) in
        good.sets function block a l None is lab (subst (λ n. IsHeldAt function l a None f.block block n) (sym last) (held_at_end function a l f.block block is.at_block None (all f.block reattaches has)));
  }
    where
      reattach_there : (region : RegisterId) × (continuation : BlockId) × (item_at prog f.function f.block f.index ≡ Some (Ends (terminator.Reattach region continuation)))
      reattach_there = reattach_here prog p f m r act

  pub values_kept : (base : Says) → ((p : Path) (f : Frame) (m : Memory) → base p f m → IsPlaced prog f) → KeptSerially prog base (HasValues prog) (KeepsValues prog)
  values_kept base placed = record {
    plain_kept = λ p f m e b good at fine nb. record { next = plain_next prog named objects p f m e good at fine (moves prog p f m e at fine); finds = plain_finds prog named objects p f m e at (moves prog p f m e at fine) };
    sync_kept = λ p f m r t rs b good at nb. record { next = sync_values p f m r t rs good at; finds = sync_finds p f m r t rs at };
    child_kept = λ p f m r body next b good at nb. child_values p f m r body next good at;
    continued_kept = λ p f m r body next b good at nc o gone h nb. record { next = continued_values p f m r body next good (placed p f m b) at o gone h; finds = continued_finds p f m r body next at o h };
    callee_kept = λ p f m d g vs b good at nb. callee_values p f m d g vs good at;
    resumed_kept = λ p f m d g vs b good at nc o v gave h nb. record { next = resumed_values p f m d g vs good at o v h; finds = resumed_finds p f m d g vs at o v h };
    reattach_finds = λ p f m r b good at. reattach_values p f m r good at;
    return_finds = λ p f m v b good at. record { keeps = λ c s g. clear_keeps (length p) p m c s (omega arith) g; child = λ left function block a l task is lab has all. absurd (let no : Gave v ≡ Left = left in cc) };
  }

pub values_are_kept : ValuesAreKept
values_are_kept prog named objects right = values_kept prog named objects right (λ p f m. IsPlaced prog f) (λ p f m placed. placed)
