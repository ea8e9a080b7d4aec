-- Each frame of each state that is reached knows what it was given.
use Rattle.std.proofs.Common.{◌≡◌, inl, inr, ℕ, ◌<◌, ◌≤◌, List, [], ◌∷◌, length, Option, Some, None, refl, sym, ap, ◌∙◌, subst, arith, ℤ}
use Rattle.std.specs.Prelude.{slice_get}
use Rattle.std.specs.Option.{option_map}
use Rattle.std.proofs.lemmas.Option.{slice_get-map}
use Rattle.linear.specs.declared.form.RegisterId.{RegisterId}
use Rattle.semantics.specs.Paths.{Path}
use Rattle.semantics.specs.Cells.{Cell, Memory}
use Rattle.semantics.specs.Frames.{Value, Word, Pointer, Registers, Wait, Free, OnRegion, OnCall, Frame}
use Rattle.semantics.specs.Effect.{Effect, Action, Plain, Sync, Call, action_of}
use Rattle.semantics.specs.State.{State, Change, plain_change, detach_change, reattach_change, sync_change, call_change}
use Rattle.semantics.specs.State.{return_change, end_change, apply, override, change_of, went, wait_after, detached}
use Rattle.semantics.specs.State.{continued, synced, called, waiting, with_result, resumed, only, both, root_frame}
use Rattle.semantics.specs.State.{start_state}
use Rattle.semantics.specs.CoreSteps.{applied}
use Rattle.semantics.proofs.Places.{only_at, both_at}
use Rattle.semantics.proofs.Starting.{at_start}
use Rattle.semantics.proofs.Steps.{Does as Does_step, plain, detach, reattach, sync, call, ret, end, does}
use Rattle.semantics.proofs.Diamond.{no_call_after}
use Rattle.program.specs.declared.function.Function.{Function}
use Rattle.program.specs.declared.function.Program.{Program}
use Rattle.types.specs.Apart.{NamesGlobal, parameters_at, CallsApart}
use Rattle.types.specs.Definitions.{IsFrom, KeepsParameters}
use Rattle.laws_schedule.specs.pointers.Apart.{IsReached, at_start as starts, by_step, PointerNamesAreApart, MeantNamesAreApart, AcceptedNamesAreApart}
use Rattle.types.proofs.Programs.{program_apart, program_kept}
use Rattle.ir_reader.proofs.Keeping.{answers_kept}
use Rattle.laws_schedule.proofs.pointers.Anew.{read_anew}
use Rattle.laws_schedule.specs.pointers.Given.{IsGiven, KnowsGiven}
use Rattle.laws_schedule.proofs.pointers.Given.{names_apart}
use Rattle.laws_schedule.proofs.pointers.Kept.{Agrees, agrees_set, Passes, CallIs, action_passes}
use Rattle.laws_schedule.proofs.pointers.Passed.{called_knows}
use Rattle.laws_schedule.proofs.Waits.{free_never, region_never}

module _ (functions : List Function) where
  -- a frame of the same function that has the same parameters, at the same place or below
  pub carried : (p q : Path) (f g : Frame) → KnowsGiven functions p f → g.function ≡ f.function → g.home ≡ f.home → Agrees (parameters_at functions f.function) f.registers g.registers →
      length p ≤ length q → ((k : ℕ) (d : Option RegisterId) → g.waits ≡ OnCall k d → IsFrom (parameters_at functions f.function) d) → KnowsGiven functions q g
  carried p q f g known same home agrees below waits = record {
    first = λ x c h. known.first x c (back x c h);
    differ = λ x y c d h k. known.differ x y c d (back x c h) (back y d k);
    foreign = λ x c owner n h e. let l : length owner < length f.home = known.foreign x c owner n (back x c h) e in let s : length g.home ≡ length f.home = ap length home in omega arith;
    unnamed = λ x c global h e named. known.unnamed x c global (back x c h) e (let P : ℕ → Type 0 = λ j. NamesGlobal functions j global in subst P same named);
    at_home = let l : length f.home ≤ length p = known.at_home in let s : length g.home ≡ length f.home = ap length home in omega arith;
    awaits = λ k d e. let P : ℕ → Type 0 = λ j. IsFrom (parameters_at functions j) d in subst P (sym same) (waits k d e);
  }
    where
      back : (x : ℕ) (c : Cell) → IsGiven functions g x c → IsGiven functions f x c
      back x c h =
          let l : x < parameters_at functions f.function = let P : ℕ → Type 0 = λ j. x < parameters_at functions j in subst P same h.within in
          record { within = l; holds = sym (agrees x l) ∙ h.holds }

unwaiting : (w : Wait) → ((k : ℕ) (d : Option RegisterId) → w ≡ OnCall k d → ⊥) → (n : ℕ) (k : ℕ) (d : Option RegisterId) → w ≡ OnCall k d → IsFrom n d
unwaiting w never n k d e = absurd (never k d e)

result_agrees : (n : ℕ) (r : Registers) (d : Option RegisterId) (v : Option ℤ) → IsFrom n d → Agrees n r (with_result r d v)
result_agrees n r None v h x w = refl
result_agrees n r (Some d) None h x w = refl
result_agrees n r (Some d) (Some z) h x w = agrees_set n r r d (Word z) (λ y u. refl) h x w

module _ (prog : Program) (apart : CallsApart prog.functions) (keeps : KeepsParameters prog.functions) where
  abbrev Known : Path → Frame → Type 0
  Known = KnowsGiven prog.functions

  abbrev AllKnown : State → Type 0
  AllKnown s = (q : Path) (g : Frame) → s.frames q ≡ Some g → Known q g

  -- what a change leaves alone is known still
  all_after : (s : State) (c : Change) → AllKnown s → ((q : Path) (g : Frame) → c.frames q ≡ Some (Some g) → Known q g) → AllKnown (apply c s)
  all_after s c known new q g at = from (c.frames q) refl at
    where
      from : (o : Option (Option Frame)) → c.frames q ≡ o → override o (s.frames q) ≡ Some g → Known q g
      from None e h = known q g h
      from (Some o) e h = new q g (e ∙ ap (λ (k : Option Frame). Some k) h)

  module _ (s : State) (known : AllKnown s) (p : Path) (f : Frame) (is : s.frames p ≡ Some f) where
    abbrev mine : Known p f
    mine = known p f is

    one_new : (h : Frame) → Known p h → (q : Path) (g : Frame) → only p (Some h) q ≡ Some (Some g) → Known q g
    one_new h k q g e =
        let at = only_at p q (Some h) (Some g) e in
        let same : h ≡ g = (let t : Some g ≡ Some h = at.1 in cc) in
        let P : Frame → Type 0 = λ x. Known p x in
        let Q : Path → Type 0 = λ x. Known x g in
        subst Q (sym at.0) (subst P same k)

    two_new : (r : Path) (o : Option Frame) (u : Frame) → ((h : Frame) → o ≡ Some h → Known p h) → Known r u → (q : Path) (g : Frame) → both p o r (Some u) q ≡ Some (Some g) → Known q g
    two_new r o u a b q g e = elim (both_at p r q o (Some u) (Some g) e) [
      | inl at ↦ (let Q : Path → Type 0 = λ x. Known x g in subst Q (sym at.0) (a g (sym at.1)))
      | inr at ↦ (let same : u ≡ g = (let t : Some g ≡ Some u = at.1 in cc) in let P : Frame → Type 0 = λ x. Known r x in let Q : Path → Type 0 = λ x. Known x g in subst Q (sym at.0) (subst P same b))
    ]

    stays : (g : Frame) → g.function ≡ f.function → g.home ≡ f.home → Agrees (parameters_at prog.functions f.function) f.registers g.registers →
        ((k : ℕ) (d : Option RegisterId) → g.waits ≡ OnCall k d → IsFrom (parameters_at prog.functions f.function) d) → Known p g
    stays g same home agrees waits = carried prog.functions p p f g mine same home agrees (omega arith) waits

    passes : (a : Action) → action_of prog p f s.memory ≡ a → Passes prog f a
    passes a at = let P : Action → Type 0 = λ x. Passes prog f x in subst P at (action_passes prog keeps p f s.memory)

    after_plain : (e : Effect) → action_of prog p f s.memory ≡ Plain e → Known p (went f e)
    after_plain e at = stays (went f e) refl refl (passes (Plain e) at) (unwaiting (wait_after e.trap) (no_call_after e.trap) (parameters_at prog.functions f.function))

    after_sync : (r b : ℕ) (rs : Registers) → action_of prog p f s.memory ≡ Sync r b rs → Known p (synced f r b rs)
    after_sync r b rs at = stays (synced f r b rs) refl refl (passes (Sync r b rs) at) (unwaiting (OnRegion r) (region_never r) (parameters_at prog.functions f.function))

    after_continue : (n : ℕ) → Known p (continued f n)
    after_continue n = stays (continued f n) refl refl (λ x w. refl) (unwaiting Free free_never (parameters_at prog.functions f.function))

    after_detach : (r b n : ℕ) → Known (f.made ∷ p) (detached f r b n)
    after_detach r b n = carried prog.functions p (f.made ∷ p) f (detached f r b n) mine refl refl (λ x w. refl) (omega arith) (unwaiting Free free_never (parameters_at prog.functions f.function))

    awaiting : (d : Option RegisterId) → IsFrom (parameters_at prog.functions f.function) d → (k : ℕ) (e : Option RegisterId) → OnCall f.made d ≡ OnCall k e → IsFrom (parameters_at prog.functions f.function) e
    awaiting d h k e same = let one : d ≡ e = cc in let P : Option RegisterId → Type 0 = λ x. IsFrom (parameters_at prog.functions f.function) x in subst P one h

    after_call : (d : Option RegisterId) (callee : ℕ) (values : List Value) → action_of prog p f s.memory ≡ Call d callee values → Known p (waiting f d) × Known (f.made ∷ p) (called p f callee values)
    after_call d callee values at =
        let call : CallIs prog f d callee values = passes (Call d callee values) at in
        (stays (waiting f d) refl refl (λ x w. refl) (awaiting d call.result_above), called_knows prog apart p f mine d callee values call)

    after_result : (k : ℕ) (d : Option RegisterId) (v : Option ℤ) → f.waits ≡ OnCall k d → Known p (resumed f d v)
    after_result k d v waits = stays (resumed f d v) refl refl (result_agrees _ f.registers d v (mine.awaits k d waits)) (unwaiting Free free_never (parameters_at prog.functions f.function))

  step_known : (s : State) (p : Path) (c : Change) → AllKnown s → Does_step prog s p c → AllKnown (apply c s)
  step_known s p c known (plain f e is go at) = all_after s (plain_change p f e) known (one_new s known p f is (went f e) (after_plain s known p f is e at))
  step_known s p c known (detach f r b n is go at) =
      all_after s (detach_change p f r b n) known (two_new s known p f is (f.made ∷ p) (Some (continued f n)) (detached f r b n) (λ h e. let same : continued f n ≡ h = cc in let P : Frame → Type 0 = λ x. Known p x in subst P same (after_continue s known p f is n)) (after_detach s known p f is r b n))
  step_known s p c known (reattach f r n is go at none role) = all_after s (reattach_change p) known (λ q g e. absurd (let at2 = only_at p q None (Some g) e in let t : Some g ≡ None = at2.1 in cc))
  step_known s p c known (sync f r b rs is go at) = all_after s (sync_change p f r b rs) known (one_new s known p f is (synced f r b rs) (after_sync s known p f is r b rs at))
  step_known s p c known (call f d g vs is go at) =
      let new = after_call s known p f is d g vs at in
      all_after s (call_change p f d g vs) known (two_new s known p f is (f.made ∷ p) (Some (waiting f d)) (called p f g vs) (λ h e. let same : waiting f d ≡ h = cc in let P : Frame → Type 0 = λ x. Known p x in subst P same new.0) new.1)
  step_known s p c known (ret f v k above g j d is go at none role here over waits) =
      all_after s (return_change p above g d v) known (two_new s known p f is above None (resumed g d v) (λ h e. absurd (let t : None ≡ Some h = e in cc)) (after_result s known above g over j d v waits))
  step_known s p c known (end f v is go at none role here) = all_after s (end_change p v) known (λ q g e. absurd (let at2 = only_at p q None (Some g) e in let t : Some g ≡ None = at2.1 in cc))

  -- the root frame was given numbers alone
  word_only : (o : Option ℤ) (c : Cell) → option_map (λ z. Word z) o ≡ Some (Pointer c) → ⊥
  word_only None c e = cc
  word_only (Some z) c e = let w : Word z ≡ Pointer c = cc in cc

  pub root_known : (arguments : List ℤ) → Known [] (root_frame prog arguments)
  root_known arguments = record {
    first = λ x c g. absurd (none x c g);
    differ = λ x y c d g h e. absurd (none x c g);
    foreign = λ x c owner n g e. absurd (none x c g);
    unnamed = λ x c global g e named. none x c g;
    at_home = omega arith;
    awaits = λ k d e. absurd (free_never k d e);
  }
    where
      none : (x : ℕ) (c : Cell) → IsGiven prog.functions (root_frame prog arguments) x c → ⊥
      none x c g = word_only (slice_get arguments x) c (sym (slice_get-map (λ z. Word z) arguments x) ∙ g.holds)

  start_known : (arguments : List ℤ) (memory : Memory) → AllKnown (start_state prog arguments memory)
  start_known arguments memory q g e =
      let at = at_start prog arguments memory q g e in
      let P : Frame → Type 0 = λ x. Known [] x in
      let Q : Path → Type 0 = λ x. Known x g in
      subst Q (sym at.0) (subst P (sym at.1) (root_known arguments))

  applied_known : (s : State) (p : Path) (next : State) → AllKnown s → (o : Option Change) → change_of prog s p ≡ o → applied s o ≡ Some next → AllKnown next
  applied_known s p next known None e h = absurd (cc)
  applied_known s p next known (Some c) e h =
      let same : apply c s ≡ next = cc in
      let P : State → Type 0 = λ x. AllKnown x in
      subst P same (step_known s p c known (does prog s p c e))

  pub reached_known : (arguments : List ℤ) (memory : Memory) (s : State) → IsReached prog arguments memory s → AllKnown s
  reached_known arguments memory s starts = start_known arguments memory
  reached_known arguments memory s (by_step p before next reached step) = applied_known before p next (reached_known arguments memory before reached) (change_of prog before p) refl step

pub names_are_apart : PointerNamesAreApart
names_are_apart prog apart keeps arguments memory s reached p f is = names_apart prog.functions p f (reached_known prog apart keeps arguments memory s reached p f is)

pub meant_names_are_apart : MeantNamesAreApart
meant_names_are_apart text whole prog read means =
    let anew = read_anew whole (answers_kept text whole read) in
    names_are_apart prog (program_apart whole prog means) (program_kept whole prog means anew)

pub accepted_names_are_apart : AcceptedNamesAreApart
accepted_names_are_apart text prog accepted =
    meant_names_are_apart text accepted.0 prog accepted.1 accepted.2
