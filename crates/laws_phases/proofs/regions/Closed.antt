-- What is open stays open until its sync, and nothing is where a frame ends.
use Rattle.std.proofs.Common.{◌≡◌, ◌≢◌, ◌↔◌, ℕ, Bool, true, false, List, [], Option, Some, None, refl, sym, ap, ◌∙◌, subst, arith, true≢false, inl, slice_get}
use Rattle.std.proofs.lemmas.Bool.{false_from_ne_true}
use Rattle.semantics.specs.Paths.{Path}
use Rattle.semantics.specs.Cells.{Memory}
use Rattle.semantics.specs.Frames.{Value, Registers, Frame, Ends, item_at}
use Rattle.semantics.specs.Effect.{Effect, Action, Detach, Reattach, Sync, Call, Return, action_of}
use Rattle.semantics.specs.State.{went, continued, synced, waiting, resumed}
use Rattle.semantics.specs.SerialMeaning.{Left, Gave}
use Rattle.laws_conditions.specs.theorem.SerialConditions.{Nothing, KeptSerially}
use Rattle.semantics.specs.SerialMeaning.{at_last}
use Rattle.semantics.proofs.Confluence.{one_result}
use Rattle.linear.specs.declared.form.RegisterId.{RegisterId}
use Rattle.program.specs.declared.identifier.BlockId.{BlockId}
use Rattle.program.specs.declared.function.Function.{Function}
use Rattle.program.specs.declared.function.Program.{Program}
use Rattle.program.specs.declared.instruction.Terminator.{Terminator}
use Rattle.program.specs.declared.instruction.Terminator.TheVariants as terminator
use Rattle.refusal.specs.declared.broken.Broken.{Broken}
use Rattle.cfg.specs.declared.structure.Way.{Way}
use Rattle.cfg.specs.declared.structure.Way.TheVariants as way
use Rattle.cfg.specs.Rules.{IsGraphRight}
use Rattle.region_match.specs.Rules.{ending_at, is_leave}
use Rattle.region_match.specs.Matched.{IsFunctionBroken, AreRegionsRight}
use Rattle.laws_conditions.specs.rules.InProofs.{Moves, is_next, is_along}
use Rattle.laws_conditions.specs.rules.Moves.{JumpsTo, SyncsTo, EndsFrame}
use Rattle.laws_conditions.proofs.rules.Moves.{IsEnding, moves, sync_here, forks_here, ends_here}
use Rattle.laws_phases.specs.defined.Leads.{LeadsTo}
use Rattle.laws_phases.specs.defined.Names.{IsNamed}
use Rattle.laws_phases.specs.defined.Placed.{IsPlaced, Placed, NoFinds}
use Rattle.laws_phases.proofs.defined.Items.{is_block, edge_behind, function_there}
use Rattle.laws_phases.proofs.defined.Placed.{EndsBlock, ends_block, ending_is, tasks_kept}
use Rattle.laws_phases.proofs.defined.Roles.{any_function}
use Rattle.laws_phases.specs.regions.Closed.{IsOpenAt, IsOpenIn, ClosesByPlace, RegionsAreClosed, StartsInPlace}
use Rattle.laws_phases.proofs.regions.Tests.{IsUnsynced, stays}
use Rattle.laws_phases.proofs.regions.Open.{open_at, goes_open, begins_open, sound, complete}

-- ---- the test

tells : Option Function → ℕ → ℕ → Bool
tells None b r = false
tells (Some function) b r = open_at function r b

none_true : false ≡ true → ⊥
none_true e = true≢false (sym e)

not_function : (function : Function) → None ≡ Some function → ⊥
not_function function e = cc

module _ (prog : Program) (named : IsNamed prog) (graph : IsGraphRight prog) (right : AreRegionsRight prog) where
  opens : Path → Frame → ℕ → Bool
  opens p f r = tells (slice_get prog.functions f.function) f.block r

  told : (f b r : ℕ) (o : Option Function) → slice_get prog.functions f ≡ o → (tells o b r ≡ true) ↔ ((function : Function) × (slice_get prog.functions f ≡ Some function) × IsOpenAt function b r)
  unfolding tells
  told f b r None is = (λ e. absurd (none_true e), λ h. absurd (not_function h.0 (sym is ∙ h.1)))
  told f b r (Some function) is = (
    λ e. (function, is, sound prog named graph f function is r b e),
    λ h. complete prog named graph f function is r right b (subst (λ (x : Function). IsOpenAt x b r) (one_result (slice_get prog.functions f) h.0 function h.1 is) h.2),
  )

  exact : (p : Path) (f : Frame) (r : ℕ) → (opens p f r ≡ true) ↔ IsOpenIn prog f r
  unfolding opens
  exact p f r = told f.function f.block r (slice_get prog.functions f.function) refl

  -- ---- along an edge

  -- no terminator that syncs the region
  abbrev SyncsNone : Terminator → ℕ → Type 0
  SyncsNone t r = (region : RegisterId) (target : BlockId) → region.0 ≡ r → t ≡ terminator.Sync region target → ⊥

  unsynced : (f b i : ℕ) (t : Terminator) (r : ℕ) (e : EndsBlock prog f b t) → SyncsNone t r → IsUnsynced r (ending_at e.function.blocks b)
  unsynced f b i t r e none region same sync =
      let both : Some t ≡ Some (terminator.Sync region sync.0) = sym (ending_is e.function.blocks b e.block e.ending t e.is.at_block e.has e.ends) ∙ sync.1 in
      none region sync.0 same (one_result (Some t) t (terminator.Sync region sync.0) refl both)

  leads_open : (f b i to : ℕ) (t : Terminator) (w : Way) (r : ℕ) → item_at prog f b i ≡ Some (Ends t) → LeadsTo t w to → stays w ≡ true → SyncsNone t r →
      (function : Function) → slice_get prog.functions f ≡ Some function → IsOpenAt function b r → IsOpenAt function to r
  leads_open f b i to t w r at leads stay none function here opened =
      let e = ends_block prog f b i t at in
      let one : function ≡ e.function = one_result (slice_get prog.functions f) function e.function here e.is.at_function in
      let there = is_block prog f to e.function e.is.at_function (named.targets f b i to t w at leads) in
      let edge = edge_behind prog f b to e.function e.block there.0 e.ending w e.is e.has there.1.at_block (rw e.ends leads) in
      subst (λ (x : Function). IsOpenAt x to r) (sym one)
      (goes_open e.function r b to edge.edge (subst (λ (x : Function). IsOpenAt x b r) one opened) edge.within edge.target (ap stays edge.way_is ∙ stay) (unsynced f b i t r e none))

  -- ---- step by step

  jump_syncs_none : (t : Terminator) (to r : ℕ) → JumpsTo t to → SyncsNone t r
  jump_syncs_none t to r leads region target same is = subst (λ (x : Terminator). JumpsTo x to) is leads

  detach_syncs_none : (region : RegisterId) (body continuation : BlockId) (r : ℕ) → SyncsNone (terminator.Detach region body continuation) r
  detach_syncs_none region body continuation r other target same is = cc

  sync_syncs_none : (t : Terminator) (region to r : ℕ) → SyncsTo t region to → r ≢ region → SyncsNone t r
  sync_syncs_none t region to r leads apart other target same is = let here = subst (λ (x : Terminator). SyncsTo x region to) is leads in apart (sym same ∙ here.0)

  plain_open : (f : Frame) (e : Effect) (r : ℕ) → Moves prog f e → IsOpenIn prog f r → IsOpenIn prog (went f e) r
  plain_open f e r (is_next i at on) (function, here, opened) = (function, here, subst (λ n. IsOpenAt function n r) (sym on.block) opened)
  plain_open f e r (is_along t at to on) (function, here, opened) = (function, here, leads_open f.function f.block f.index e.block t way.Branch r at to refl (jump_syncs_none t e.block r to) function here opened)

  tasks : KeptSerially prog Nothing (Placed prog) NoFinds
  tasks = tasks_kept prog named Nothing

  module _ (p : Path) (f : Frame) (m : Memory) (region body continuation : ℕ) (good : IsPlaced prog f) (at : action_of prog p f m ≡ Detach region body continuation) where
    continued_open : (r : ℕ) → IsOpenIn prog f r → IsOpenIn prog (continued f continuation) r
    continued_open r (function, here, opened) =
        let c = forks_here prog p f m region body continuation at in
        (function, here, leads_open f.function f.block f.index continuation (terminator.Detach c.region c.body c.continuation) way.Continued r c.is c.continuation_is refl (detach_syncs_none c.region c.body c.continuation r) function here opened)

    -- a detach opens its region
    child_open : IsOpenIn prog (continued f continuation) region
    child_open =
        let c = forks_here prog p f m region body continuation at in
        let t = terminator.Detach c.region c.body c.continuation in
        let e = ends_block prog f.function f.block f.index (terminator.Detach c.region c.body c.continuation) c.is in
        let ends = ending_is e.function.blocks f.block e.block e.ending (terminator.Detach c.region c.body c.continuation) e.is.at_block e.has e.ends in
        let opened = begins_open prog named graph f.function e.function e.is.at_function f.block c.region c.body c.continuation ends in
        (e.function, e.is.at_function, subst (λ n. IsOpenAt e.function continuation n) c.region_is (subst (λ n. IsOpenAt e.function n c.region.0) c.continuation_is opened))

  synced_open : (p : Path) (f : Frame) (m : Memory) (region block : ℕ) (registers : Registers) (r : ℕ) → action_of prog p f m ≡ Sync region block registers → r ≢ region → IsOpenIn prog f r → IsOpenIn prog (synced f region block registers) r
  synced_open p f m region block registers r at apart (function, here, opened) =
      let s = sync_here prog p f m region block registers at in
      (function, here, leads_open f.function f.block f.index block s.0 (way.Synced (record { 0 = region })) r s.1 s.2 refl (sync_syncs_none s.0 region block r s.2 apart) function here opened)

  -- ---- at an end

  leaves : (t : Terminator) → EndsFrame t → is_leave t ≡ true
  leaves (terminator.Jump target) h = absurd h
  leaves (terminator.Branch test x y) h = absurd h
  leaves (terminator.Switch w a default cases) h = absurd h
  leaves (terminator.Return value) h = refl
  leaves (terminator.Detach region body continuation) h = absurd h
  leaves (terminator.Reattach region continuation) h = refl
  leaves (terminator.Sync region target) h = absurd h

  -- 304: an end with an open region
  none_open : (f b i : ℕ) (t : Terminator) (r : ℕ) → item_at prog f b i ≡ Some (Ends t) → is_leave t ≡ true → (function : Function) → slice_get prog.functions f ≡ Some function → IsOpenAt function b r → ⊥
  none_open f b i t r at leave function here opened =
      let e = ends_block prog f b i t at in
      let one : function ≡ e.function = one_result (slice_get prog.functions f) function e.function here e.is.at_function in
      let now : IsOpenAt e.function b r = subst (λ (x : Function). IsOpenAt x b r) one opened in
      let broken : Broken = record { line = e.ending.line; number = 304 } in
      right.unbroken broken (any_function {P = λ (x : Function). IsFunctionBroken x broken} prog.functions f e.function e.is.at_function
      (inl (b, e.block, e.ending, e.is.at_block, e.has, ap is_leave e.ends ∙ leave, refl, refl, now.detach, now.leads)))

  end_closed : (p : Path) (f : Frame) (m : Memory) (a : Action) (r : ℕ) → IsEnding a → action_of prog p f m ≡ a → opens p f r ≡ false
  end_closed p f m a r ending at =
      let t = ends_here prog p f m a ending at in
      false_from_ne_true (opens p f r) (λ e. let opened = (exact p f r).0 e in none_open f.function f.block f.index t.0 r t.1 (leaves t.0 t.2) opened.0 opened.1 opened.2)

  -- ---- all of it

  -- what is open in a frame is open in the frame that it goes on as
  stays_open : (p : Path) (f g : Frame) (r : ℕ) → (IsOpenIn prog f r → IsOpenIn prog g r) → opens p f r ≡ true → opens p g r ≡ true
  stays_open p f g r on e = (exact p g r).1 (on ((exact p f r).0 e))

  waiting_placed : (p : Path) (f : Frame) (m : Memory) (d : Option RegisterId) (callee : ℕ) (values : List Value) → IsPlaced prog f → action_of prog p f m ≡ Call d callee values → IsPlaced prog (waiting f d)
  waiting_placed p f m d callee values good at =
      let x = (tasks.resumed_kept p f m d callee values tt good at tt (at_last (Gave None) m) None refl tt tt).next in
      record { function = x.function; block = x.block; is = x.is; within = x.within; task = x.task; has_task = x.has_task; suits = x.suits }

  pub closed : ClosesByPlace prog
  closed = record {
    opens = opens;
    exact = exact;
    closes = record {
      plain_holds = λ p f m e good going at fine. ((tasks.plain_kept p f m e tt good at fine tt).next, λ r. stays_open p f (went f e) r (plain_open f e r (moves prog p f m e at fine)));
      detach_holds = λ p f m region body next good going at. (
        tasks.child_kept p f m region body next tt good at tt,
        (tasks.continued_kept p f m region body next tt good at tt (at_last Left m) refl tt tt).next,
        λ r. stays_open p f (continued f next) r (continued_open p f m region body next good at r),
        (exact p (continued f next) region).1 (child_open p f m region body next good at),
      );
      sync_holds = λ p f m region block registers good going at. (
        (tasks.sync_kept p f m region block registers tt good at tt).next,
        λ r apart. stays_open p f (synced f region block registers) r (synced_open p f m region block registers r at apart),
      );
      call_holds = λ p f m d callee values good going at. (
        tasks.callee_kept p f m d callee values tt good at tt,
        waiting_placed p f m d callee values good at,
        λ r. stays_open p f (waiting f d) r (λ opened. opened),
      );
      resume_holds = λ p f k d result good waits. (
        record { function = good.function; block = good.block; is = good.is; within = good.within; task = good.task; has_task = good.has_task; suits = good.suits },
        λ r. stays_open p f (resumed f d result) r (λ opened. opened),
      );
      reattach_closed = λ p f m region r good going at. end_closed p f m (Reattach region) r tt at;
      return_closed = λ p f m result r good going at. end_closed p f m (Return result) r tt at;
    };
  }

pub regions_are_closed : RegionsAreClosed
regions_are_closed prog named graph right = closed prog named graph right

-- ---- the first frame

pub starts_in_place : StartsInPlace
starts_in_place prog arguments main =
    let there = function_there prog prog.main.0 main in
    record { function = there.0; block = there.1; is = there.2; within = omega arith; task = []; has_task = ([], refl, refl); suits = tt }
