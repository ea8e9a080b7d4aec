-- What a serial run keeps holds of the frame on top of each stack: and of each frame below, once those above it are done.
use Rattle.std.proofs.Common.{◌≡◌, ℕ, true, List, [], ◌∷◌, Option, refl, subst}
use Rattle.std.specs.Prelude.{⊤}
use Rattle.semantics.specs.Paths.{Path}
use Rattle.semantics.specs.Cells.{Memory}
use Rattle.semantics.specs.Frames.{Value, Wait, Free, OnRegion, OnCall, Halted, Frame}
use Rattle.semantics.specs.Effect.{Detach, Call, action_of}
use Rattle.semantics.specs.State.{went, detached, continued, synced, called, waiting, resumed}
use Rattle.semantics.specs.SerialMeaning.{Ending, Left, Gave, Outcome, written, cleared}
use Rattle.laws_schedule.specs.laws_conditions.theorem.SerialConditions.{Says, Finds, Nothing, KeptSerially}
use Rattle.semantics.specs.SerialMeaning.{one_more, both_outcomes, at_last}
use Rattle.linear.specs.declared.form.RegisterId.{RegisterId}
use Rattle.program.specs.declared.function.Program.{Program}
use Rattle.laws_strands.specs.stacks.Strands.{Placed}
use Rattle.serial_stack.specs.Steps.{Run, Goes, plain, sync, detach, call, reattach, ret, Walk, begins, goes_on, starting}
use Rattle.serial_machine.specs.walks.Along.{WalksKeepTests, KeepsAlong}

-- so it is whatever is kept
abbrev pub WalksKeep : Type 1
WalksKeep = (prog : Program) (good : Says) (post : Finds) → KeepsAlong prog good post

-- where the frame above ends so, the frame g goes on as what is said
abbrev GoesOnAs : (Frame → Type 0) → Frame → Ending → Wait → Type 0
GoesOnAs says g Left Free = says g
GoesOnAs says g Left (OnRegion r) = ⊤
GoesOnAs says g Left (OnCall k d) = ⊤
GoesOnAs says g Left Halted = ⊤
GoesOnAs says g (Gave v) Free = ⊤
GoesOnAs says g (Gave v) (OnRegion r) = ⊤
GoesOnAs says g (Gave v) (OnCall k d) = says (resumed g d v)
GoesOnAs says g (Gave v) Halted = ⊤

-- whatever is found of the outcome of the frame f, the frames below go on good
abbrev Chain : Says → Finds → List Placed → Path → Frame → Memory → Type 0
Chain good post [] p f m = ⊤
Chain good post (g ∷ below) p f m =
    (o : Outcome) → post p f m o → GoesOnAs (λ h. good g.path h o.memory × Chain good post below g.path h o.memory) g.frame o.ending g.frame.waits

-- the run is good: the frame on top, and those below
abbrev GoodRun : Says → Finds → Run → Type 0
GoodRun good post s = good s.path s.frame s.memory × Chain good post s.below s.path s.frame s.memory

module _ (prog : Program) (good : Says) (post : Finds) (kept : KeptSerially prog Nothing good post) where
  chain_more : (below : List Placed) (p : Path) (f h : Frame) (m w : Memory) → ((o : Outcome) → post p h w o → post p f m (one_more o)) → Chain good post below p f m → Chain good post below p h w
  chain_more [] p f h m w finds chain = tt
  chain_more (g ∷ below) p f h m w finds chain = λ o found. chain (one_more o) (finds o found)

  chain_both : (below : List Placed) (p : Path) (f h : Frame) (m w : Memory) (c : Outcome) → ((o : Outcome) → post p h w o → post p f m (both_outcomes c o)) → Chain good post below p f m → Chain good post below p h w
  chain_both [] p f h m w c finds chain = tt
  chain_both (g ∷ below) p f h m w c finds chain = λ o found. chain (both_outcomes c o) (finds o found)

  module _ (p : Path) (f : Frame) (m : Memory) (below : List Placed) (here : good p f m) (chain : Chain good post below p f m) where
    -- behind the detach, once the child has left
    detach_chain : (r body next : ℕ) → action_of prog p f m ≡ Detach r body next → (o : Outcome) → post (f.made ∷ p) (detached f r body next) m o → (e : Ending) → o.ending ≡ e →
        GoesOnAs (λ h. good p h o.memory × Chain good post below p h o.memory) (continued f next) e Free
    detach_chain r body next act o found Left left =
        let on = kept.continued_kept p f m r body next tt here act tt o left found tt in
        (on.next, chain_both below p f (continued f next) m o.memory o on.finds chain)
    detach_chain r body next act o found (Gave v) left = tt

    -- behind the call, with what the callee gave
    call_chain : (d : Option RegisterId) (g : ℕ) (vs : List Value) → action_of prog p f m ≡ Call d g vs → (o : Outcome) → post (f.made ∷ p) (called p f g vs) m o → (e : Ending) → o.ending ≡ e →
        GoesOnAs (λ h. good p h o.memory × Chain good post below p h o.memory) (waiting f d) e (OnCall f.made d)
    call_chain d g vs act o found Left gave = tt
    call_chain d g vs act o found (Gave v) gave =
        let on = kept.resumed_kept p f m d g vs tt here act tt o v gave found tt in
        (on.next, chain_both below p f (resumed (waiting f d) d v) m o.memory o on.finds chain)

  chain_at : (s : Run) (g : Placed) (rest : List Placed) → s.below ≡ g ∷ rest → Chain good post s.below s.path s.frame s.memory → Chain good post (g ∷ rest) s.path s.frame s.memory
  chain_at s g rest at chain = subst (λ below. Chain good post below s.path s.frame s.memory) at chain

  step_kept : (s t : Run) → Goes prog s t → GoodRun good post s → GoodRun good post t
  step_kept s t (plain e act fine) h =
      let on = kept.plain_kept s.path s.frame s.memory e tt h.0 act fine tt in
      (on.next, chain_more s.below s.path s.frame (went s.frame e) s.memory (written e s.memory) on.finds h.1)
  step_kept s t (sync r b rs act) h =
      let on = kept.sync_kept s.path s.frame s.memory r b rs tt h.0 act tt in
      (on.next, chain_more s.below s.path s.frame (synced s.frame r b rs) s.memory s.memory on.finds h.1)
  step_kept s t (detach r body next act) h =
      (kept.child_kept s.path s.frame s.memory r body next tt h.0 act tt, λ o found. detach_chain s.path s.frame s.memory s.below h.0 h.1 r body next act o found o.ending refl)
  step_kept s t (call d g vs act) h =
      (kept.callee_kept s.path s.frame s.memory d g vs tt h.0 act tt, λ o found. call_chain s.path s.frame s.memory s.below h.0 h.1 d g vs act o found o.ending refl)
  step_kept s t (reattach r g rest act at free) h =
      let on = chain_at s g rest at h.1 (at_last Left s.memory) (kept.reattach_finds s.path s.frame s.memory r tt h.0 act) in
      subst (λ w. GoesOnAs (λ f. good g.path f s.memory × Chain good post rest g.path f s.memory) g.frame Left w) free on
  step_kept s t (ret v g rest k d act at waits) h =
      let on = chain_at s g rest at h.1 (at_last (Gave v) (cleared s.path s.memory)) (kept.return_finds s.path s.frame s.memory v tt h.0 act) in
      subst (λ w. GoesOnAs (λ f. good g.path f (cleared s.path s.memory) × Chain good post rest g.path f (cleared s.path s.memory)) g.frame (Gave v) w) waits on

  walk_kept : (start : Run) → GoodRun good post start → (n peak : ℕ) (s : Run) → Walk prog start n peak s → GoodRun good post s
  walk_kept start first n peak s begins = first
  walk_kept start first n peak s (goes_on k high r t w g) = step_kept r s g (walk_kept start first k high r w)

pub walks_keep : WalksKeep
walks_keep prog good post kept arguments memory first n peak s w = (walk_kept prog good post kept (starting prog arguments memory) (first, tt) n peak s w).0

pub walks_keep_tests : WalksKeepTests
walks_keep_tests prog good post = walks_keep prog (λ p f m. good p f m ≡ true) (λ p f m o. post p f m o ≡ true)
