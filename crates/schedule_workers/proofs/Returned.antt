-- A return of the frame in a slot: its worker goes on with the caller, or the run is over.
use Rattle.std.proofs.Common.{Vec, Global, ◌≡◌, ◌≢◌, ℕ, ◌+◌, ◌<◌, [], ◌∷◌, ◌++◌, length, max, reverse, Option, Some, None, Bool, true, false, cond, inl, inr, refl, sym, ap, ◌∙◌, subst, arith, ℤ}
use Rattle.std.specs.Prelude.{IsSome, is_some, slice_get}
use Rattle.std.proofs.Props.{props}
use Rattle.std.specs.Vec.{with_item}
use Rattle.std.proofs.lemmas.Bool.Decides.{eqb_tells}
use Rattle.std.proofs.lemmas.List.{reverse-reverse}
use Rattle.std.proofs.lemmas.Option.{slice_get_cases}
use Rattle.linear.specs.declared.form.RegisterId.{RegisterId}
use Rattle.semantics.specs.Paths.{Path}
use Rattle.semantics.specs.Frames.{Frame as Shown, Wait as Waits, Role, Child, Body, Ends, OnCall, item_at, word_at}
use Rattle.semantics.specs.Effect.{Return, action_of, item_action, returns, returns_value, terminator_action}
use Rattle.semantics.specs.State.{Change, act, childless, change_of_frame, end_change, may_go, override, override_result, resumed, return_change, return_from}
use Rattle.semantics.specs.Counts.{count_of, counts_after}
use Rattle.semantics.specs.Events as running
use Rattle.semantics.specs.Events.{Machine, Step, event}
use Rattle.semantics.proofs.Actions.{return_is_body}
use Rattle.semantics.proofs.ChildCounts.{step_counts}
use Rattle.semantics.proofs.Places.{both_first, both_second, both_off, only_here, only_off, same_path_tells}
use Rattle.semantics.proofs.Steps.{Does, change_is, end, ret, some_same}
use Rattle.program.specs.declared.function.Function.{Function}
use Rattle.program.specs.declared.function.Program.{Program}
use Rattle.program.specs.declared.instruction.Operand.{Operand}
use Rattle.program.specs.declared.instruction.Operand.TheVariants.{Number, Register}
use Rattle.program.specs.declared.instruction.Terminator.TheVariants as terminator
use Rattle.frame.specs.declared.frame.Wait.{Wait}
use Rattle.frame.specs.declared.frame.Wait.TheVariants as wait
use Rattle.frame.specs.Reading.{wait_of}
use Rattle.cactus.specs.declared.node.Node.{Node}
use Rattle.cactus.specs.Frames.{Frames, Lives, IsRemoved, node_at}
use Rattle.cactus.specs.ByPath.{named, Binds, ShrinksMap}
use Rattle.cactus.specs.Lending.{with_frame}
use Rattle.cactus.proofs.FramesLemmas.{node_at-with_frame, node_at-with_frame_other}
use Rattle.cactus.proofs.ByPathLemmas.{written_binds}
use Rattle.frame_engine.specs.declared.activation.Frame.{Frame}
use Rattle.frame_engine.specs.declared.activation.Places.{Places}
use Rattle.frame_engine.specs.Activation.{FrameFits, ShowsFrame}
use Rattle.frame_engine.specs.Fits.{HasReturned}
use Rattle.frame_engine.specs.Names.{HasResult, Sizes, sizes, taker_of}
use Rattle.frame_engine.specs.Shows.{Layout, TrapFree}
use Rattle.frame_engine.proofs.Texts.{ends_fit, located, sizes_in}
use Rattle.schedule_workers.specs.declared.activation.Activation.{Activation}
use Rattle.schedule_workers.specs.declared.run.Run.{Run}
use Rattle.schedule_workers.specs.Layouts.{alloca_at, alloca_cells, layout_of, object_at}
use Rattle.schedule_workers.specs.Going.{CanGo, CanStep, RunsSafely, TextFits}
use Rattle.schedule_workers.specs.Scheduling.{hand_of}
use Rattle.schedule_workers.specs.RunShown.{CalleeStands, HasTaker, IsShown, ShowsAt, item_here, place_of}
use Rattle.schedule_workers.proofs.Changed.{Holds, Told, alike, anew, kept_holds}
use Rattle.schedule_workers.proofs.Cleared.{over_shown}
use Rattle.schedule_workers.proofs.Uses.{made_still}
use Rattle.schedule_workers.proofs.Handing.{held_then, others_stay, seen_at, seen_then, taken_up}
use Rattle.schedule_workers.proofs.Leaving as leaving
use Rattle.schedule_workers.proofs.Leaving.{none_some, remains, tested}
use Rattle.schedule_workers.proofs.Onward.{seen, standing}
use Rattle.schedule_workers.proofs.Standing.{can_step, may_go_on, safe_next}
use Rattle.schedule_workers.proofs.Syncing.{LeadsTo}
use Rattle.schedule_workers.proofs.Topmost.{reverse_last}
use Rattle.schedule_workers.proofs.Views.{hand_seen, named_at_place}

-- ---- what the text gives

returned_again : (n : Sizes) (k : ℕ) (value : Option Operand) → k ≡ n.registers → HasReturned n value → HasReturned (sizes k 0 0) value
returned_again n k None e h = tt
returned_again n k (Some (Number z)) e h = tt
returned_again n k (Some (Register x)) e h = omega (arith, e, h)

pub return_names : (prog : Program) (places : Places) (moves : ℕ) (f : Frame) (value : Option Operand) → TextFits prog places moves → FrameFits prog f → item_here prog f ≡ Some (Ends (terminator.Return value)) → HasReturned (sizes (length f.registers.items) 0 0) value
return_names prog places moves f value text fits item =
    let at = located prog f.function.0 f.place.block.0 f.place.index (Ends (terminator.Return value)) item in
    returned_again (sizes_in places f.function.0 at.function) (length f.registers.items) value (fits.registers at.function at.is) (ends_fit prog places moves f.function.0 f.place.block.0 f.place.index (terminator.Return value) text.fits at)

function_there : (prog : Program) (f : Frame) → FrameFits prog f → (x : Function) × (slice_get prog.functions f.function.0 ≡ Some x)
function_there prog f fits = elim (slice_get_cases prog.functions f.function.0).1 [
  | inl h ↦ (h.0, h.2)
  | inr h ↦ let low = fits.there in let past = h.0 in absurd (omega (arith, low, past))
]

-- ---- which action

gives_role : (f : Shown) (v : Option ℤ) (r : Role) → TrapFree (returns f r v) → returns f r v ≡ Return v
gives_role f v (Child x y) free = absurd cc
gives_role f v Body free = refl

gives_value : (f : Shown) (o : Option ℤ) → TrapFree (returns_value f o) → (v : Option ℤ) × (returns_value f o ≡ Return v)
gives_value f None free = absurd cc
gives_value f (Some z) free = (Some z, gives_role f (Some z) f.role free)

gives : (prog : Program) (p : Path) (f : Shown) (value : Option Operand) → TrapFree (terminator_action prog p f (terminator.Return value)) → (v : Option ℤ) × (terminator_action prog p f (terminator.Return value) ≡ Return v)
gives prog p f None free = (None, gives_role f None f.role free)
gives prog p f (Some a) free = gives_value f (word_at f.registers a) free

-- ---- who takes what is returned

-- a frame that waits for a call has its register
takes : (t : Wait) (j : ℕ) (d : Option RegisterId) → OnCall j d ≡ wait_of t → taker_of t ≡ d
takes wait.Nothing j d e = absurd cc
takes (wait.Region region) j d e = absurd cc
takes (wait.Call child register) j d e = cc

pub has_taker : (registers : ℕ) (t : Wait) → HasTaker registers t → HasResult registers (taker_of t)
has_taker registers wait.Nothing h = tt
has_taker registers (wait.Region region) h = tt
has_taker registers (wait.Call child register) h = h

-- what the run returns, where the root gave a number or none
pub root_result : (number old : Option ℤ) {v : Option ℤ} → number ≡ v → is_some number ≡ true → override_result v old ≡ number
root_result None old e some = absurd cc
root_result (Some z) old e some = ap (λ n. override_result n old) (sym e)

pub no_result : (number old : Option ℤ) {v : Option ℤ} → number ≡ v → is_some number ≡ false → override_result v old ≡ old
no_result None old e none = ap (λ n. override_result n old) (sym e)
no_result (Some z) old e none = absurd cc

pub has_result_prop : (n : ℕ) (d : Option RegisterId) → IsProp (HasResult n d)
has_result_prop n None = hlevel props
has_result_prop n (Some d) = hlevel props

-- the worker's hand, once it was set
abbrev pub handed : Run → ℕ → Option ℕ → Run
handed x w o = record x { hands = with_item x.hands w o }

-- who waits for a call does nothing
no_step : (s : Waits) (may : Waits → Bool) (j : ℕ) (d : Option RegisterId) → s ≡ OnCall j d → may (OnCall j d) ≡ false → may s ≡ true → ⊥
no_step s may j d is stops goes = let e : false ≡ true = sym stops ∙ (ap may (sym is) ∙ goes) in cc

-- ---- the event

module _ (prog : Program) (places : Places) (k : Run) (slot : ℕ) (node : Node Activation) (stands : node_at k.cactus slot ≡ Some node) (m : Machine) (shown : IsShown prog places m k)
    (value : Option Operand) (item : item_here prog node.frame.frame ≡ Some (Ends (terminator.Return value)))
    (w : ℕ) (hand : hand_of k.hands.items w ≡ Some slot) (safe : RunsSafely prog (length k.hands.items) m) where
  abbrev p : Path
  p = place_of node

  abbrev a : Activation
  a = node.frame

  abbrev workers : ℕ
  workers = length k.hands.items

  abbrev l : Layout
  l = layout_of prog places k.cactus m.core

  abbrev g : Shown
  g = (seen prog places k slot node a stands m shown).frame

  abbrev is_g : m.core.frames p ≡ Some g
  is_g = (seen prog places k slot node a stands m shown).is

  abbrev shows_g : ShowsFrame l places p g a.frame
  shows_g = (seen prog places k slot node a stands m shown).shows.shown

  can : CanStep prog m p g
  can = can_step prog workers w p m g m.core.memory (standing prog places k slot node a stands m shown w hand safe)

  acts_by : action_of prog p g m.core.memory ≡ terminator_action prog p g (terminator.Return value)
  acts_by =
      let t = shows_g in
      let placed : item_at prog g.function g.block g.index ≡ Some (Ends (terminator.Return value)) = (λ j. item_at prog (t.function j) (t.block j) (t.index j)) ∙ item in
      ap (item_action prog p g m.core.memory) placed

  pub given : (v : Option ℤ) × (terminator_action prog p g (terminator.Return value) ≡ Return v)
  given = gives prog p g value (subst TrapFree acts_by (can.safe (object_at places k.cactus)).trap_free)

  abbrev v : Option ℤ
  v = given.0

  pub acts : action_of prog p g m.core.memory ≡ Return v
  acts = acts_by ∙ given.1

  body : g.role ≡ Body
  body = return_is_body prog p g m.core.memory v acts

  go : may_go m.core p g.made g.waits ≡ true
  go = may_go_on prog workers w p m g is_g can.goes

  none : childless m.core p g.made ≡ true
  none =
      let some : IsSome (change_of_frame prog m.core p (Some g)) = subst (λ (o : Option Shown). IsSome (change_of_frame prog m.core p o)) is_g can.goes in
      let acted : IsSome (act m.core p g (action_of prog p g m.core.memory)) = subst (λ b. IsSome (cond b (act m.core p g (action_of prog p g m.core.memory)) None)) go some in
      tested (childless m.core p g.made) (return_from m.core p v) (subst (λ x. IsSome (act m.core p g x)) acts acted)

  -- what was returned, as the code has it
  pub number_is : (number : Option ℤ) → ((prog : Program) (x : Layout) (at : Places) (q : Path) (h : Shown) (n : Option ℤ) → ShowsFrame x at q h a.frame → terminator_action prog q h (terminator.Return value) ≡ Return n → number ≡ n) → number ≡ v
  number_is number returned = returned prog l places p g v shows_g given.1

  -- ---- the machine after a change that ends the frame

  module _ (change : Change) (does : Does prog m.core p change) where
    abbrev next : Machine
    next = running.stepped m w change (running.caller_of p)

    happens : event prog workers (Step w) m ≡ Some next
    happens =
        let s = standing prog places k slot node a stands m shown w hand safe in
        ap (λ t. running.unless_trapped t (running.by_hand prog workers m w (m.hands w))) s.sound
        ∙ ap (running.by_hand prog workers m w) s.hand
        ∙ ap (running.by_frame prog workers m w p) is_g
        ∙ ap (λ o. Some (running.by_change prog workers m w p g o)) (change_is prog m.core p change does)
        ∙ ap (λ x. Some (running.stepped m w change (running.next_hand workers m next.core p g x))) acts

    safe_then : CanGo prog next
    safe_then = safe_next prog workers m next (Step w) happens safe []

    counts_next : (q : Path) (r : ℕ) → count_of next.core q r ≡ count_of m.core q r
    counts_next q r = step_counts prog m.core (safe []).tree p change does g is_g q r ∙ ap (λ x. counts_after p x (count_of m.core) q r) acts

  no_depth : (x : ℕ) → max x 0 ≡ x
  no_depth x = omega arith

  module _ (within : w < length k.hands.items) (mid : Frames Activation) (removed : IsRemoved k.cactus mid slot) (shrinks : ShrinksMap k.cactus mid slot node) where
    abbrev binds : Binds k.cactus mid node.path.numbers None
    binds = shrinks shown.agrees.tree (leaving.leaf prog places k slot node stands m shown (safe []).tree g is_g none)

    left_there : (x : ℕ) (y : Node Activation) → node_at mid x ≡ Some y → (x ≢ slot) × (node_at k.cactus x ≡ Some y)
    left_there = remains k.cactus mid slot removed

    unnamed_mid : named mid (reverse p) ≡ None
    unnamed_mid = ap (named mid) (reverse-reverse node.path.numbers) ∙ binds.here

    off_mid : (q : Path) → p ≢ q → named mid (reverse q) ≡ named k.cactus (reverse q)
    off_mid q off = binds.elsewhere (reverse q) (λ y. off (ap reverse (sym y) ∙ reverse-reverse q))

    -- who is called has its caller as its parent
    caller_is : (x : ℕ) (y : Node Activation) (number : ℕ) (register : Option RegisterId) (s : ℕ) (called : Node Activation) → node_at k.cactus x ≡ Some y → node_at k.cactus s ≡ Some called → called.path.numbers ≡ y.path.numbers ++ number ∷ [] → s ≡ slot → p ≡ number ∷ place_of y
    caller_is x y number register s called here there path e =
        let same : called ≡ node = some_same called node (sym there ∙ (ap (node_at k.cactus) e ∙ stands)) in
        ap (λ (z : Node Activation). place_of z) (sym same) ∙ (ap reverse path ∙ reverse_last y.path.numbers number)

    module _ (frames : Frames Activation) (still : (x : ℕ) (y : Node Activation) → x ≢ slot → node_at k.cactus x ≡ Some y → (z : Node Activation) × (node_at frames x ≡ Some z) × (z.path ≡ y.path)) where
      callee_still : (x : ℕ) (y : Node Activation) → node_at k.cactus x ≡ Some y → ((number : ℕ) → p ≢ number ∷ place_of y) → (t : Wait) (o : Option ℕ) → CalleeStands k.cactus y t o → CalleeStands frames y t o
      callee_still x y here other wait.Nothing o h = h
      callee_still x y here other (wait.Region region) o h = h
      callee_still x y here other (wait.Call number register) o h =
          let (s, called, at, there, path) = h in
          let (z, now, same) = still s called (λ e. other number (caller_is x y number register s called here there path e)) there in
          (s, z, at, now, ap (λ t. t.numbers) same ∙ path)

    -- ---- the root

    module _ (root : node.parent ≡ None) where
      at_root : p ≡ []
      at_root = ap reverse (shown.agrees.tree.root slot node stands root)

      ends : Does prog m.core p (end_change p v)
      ends = end g v is_g go acts none body at_root

      abbrev last : Machine
      last = next (end_change p v) ends

      still_mid : (x : ℕ) (y : Node Activation) → x ≢ slot → node_at k.cactus x ≡ Some y → (z : Node Activation) × (node_at mid x ≡ Some z) × (z.path ≡ y.path)
      still_mid = leaving.still_there prog places k slot node stands m shown (safe []).tree mid removed

      off_last : (q : Path) → p ≢ q → last.core.frames q ≡ m.core.frames q
      off_last q off = ap (λ o. override o (m.core.frames q)) (only_off p q None off)

      not_child : (number : ℕ) (q : Path) → p ≢ number ∷ q
      not_child number q e = let nil : [] ≡ number ∷ q = sym at_root ∙ e in cc

      pub run_ends : (result : Option ℤ) → override_result v k.result ≡ result → LeadsTo prog places k (record k { cactus = mid; instructions = k.instructions + 1; hands = with_item k.hands w None; result = result }) w m
      run_ends result result_is = (
        last,
        happens (end_change p v) ends,
        over_shown prog places m last k node mid (with_item k.hands w None) result shown (record {
          tree = binds.tree;
          gone = ap (λ o. override o (m.core.frames p)) (only_here p None);
          unnamed = unnamed_mid;
          told = λ q off. alike (off_last q off) (off_mid q off);
          holds = λ x y here.
              let (away, was) = left_there x y here in
              kept_holds prog places m last k mid k.peak (with_item k.hands w None) shown x y (record {
                was = was;
                same_hands = others_stay prog places m k shown slot node stands w hand within None x away (none_some _);
                callee = callee_still mid still_mid x y was (λ number. not_child number (place_of y)) y.frame.frame.waits y.frame.callee (shown.agrees.nodes x y was).callee;
                counts = counts_next (end_change p v) ends (place_of y);
              });
          seen = λ u. ap (λ z. running.with_hand m.hands w (running.caller_of z) u) at_root ∙ seen_then prog places m k shown slot node stands w hand within None mid None refl still_mid u;
          held = held_then prog places m k shown slot node stands w hand within None mid (λ x e. absurd (none_some x e)) still_mid;
          made = (let e = removed.made in omega (arith, e));
          memory = λ x. refl;
          done = omega arith;
          peak = no_depth m.core.peak;
          result_is = ap (override_result v) shown.shows.result ∙ result_is;
          sound = refl;
          parents = (safe_then (end_change p v) ends).tree;
          points = (safe_then (end_change p v) ends).points;
        }),
      )

    -- ---- the caller

    module _ (up : ℕ) (has : node.parent ≡ Some up) where
      abbrev above : Node Activation
      above = leaving.above prog places k slot node stands m shown (safe []).tree mid removed up has

      abbrev number : ℕ
      number = (leaving.below prog places k slot node stands m shown (safe []).tree mid removed up has).number

      below_stands : node_at k.cactus up ≡ Some above
      below_stands = (leaving.below prog places k slot node stands m shown (safe []).tree mid removed up has).stands

      abbrev pa : Path
      pa = place_of above

      place : p ≡ number ∷ pa
      place = leaving.place prog places k slot node stands m shown (safe []).tree mid removed up has

      apart : p ≢ pa
      apart = leaving.apart prog places k slot node stands m shown (safe []).tree mid removed up has

      up_away : up ≢ slot
      up_away = leaving.up_away prog places k slot node stands m shown (safe []).tree mid removed up has

      abbrev h : Shown
      h = (seen prog places k up above above.frame below_stands m shown).frame

      abbrev is_h : m.core.frames pa ≡ Some h
      is_h = (seen prog places k up above above.frame below_stands m shown).is

      -- it waits for this very call
      waits : (d : Option RegisterId) × (h.waits ≡ OnCall number d)
      waits =
          let (f, d, at, calls) = (safe []).tree.awaited number pa g (leaving.lives_below prog places k slot node stands m shown (safe []).tree mid removed up has g is_g) body in
          (d, subst (λ (x : Shown). x.waits ≡ OnCall number d) (some_same f h (sym at ∙ is_h)) calls)

      abbrev d : Option RegisterId
      d = waits.0

      taker : taker_of above.frame.frame.waits ≡ d
      taker = takes above.frame.frame.waits number d (sym waits.1 ∙ (seen prog places k up above above.frame below_stands m shown).shows.waits)

      pub has_register : HasResult (length above.frame.frame.registers.items) (taker_of above.frame.frame.waits)
      has_register =
          let before = shown.agrees.nodes up above below_stands in
          let there = function_there prog above.frame.frame before.fits in
          subst (λ n. HasResult n (taker_of above.frame.frame.waits)) (sym (before.fits.registers there.0 there.1)) (has_taker (length there.0.registers) above.frame.frame.waits (before.taker there.0 there.1))

      returns_to : Does prog m.core p (return_change p pa h d v)
      returns_to = ret g v number pa h number d is_g go acts none body place is_h waits.1

      abbrev then : Machine
      then = next (return_change p pa h d v) returns_to

      abbrev resumed_h : Shown
      resumed_h = resumed h d v

      resumed_then : then.core.frames pa ≡ Some resumed_h
      resumed_then = ap (λ o. override o (m.core.frames pa)) (both_second p pa None (Some resumed_h) apart)

      off_then : (q : Path) → p ≢ q → pa ≢ q → then.core.frames q ≡ m.core.frames q
      off_then q x y = ap (λ o. override o (m.core.frames q)) (both_off p pa q None (Some resumed_h) x y)

      -- nobody ran it
      unheld : (u : ℕ) → hand_of k.hands.items u ≢ Some up
      unheld u has_up =
          let place_u : m.hands u ≡ Some pa = shown.shows.hands u ∙ hand_seen k.cactus k.hands.items u up above has_up below_stands in
          let goes = ((safe []).steps u pa h place_u is_h).goes in
          no_step h.waits (may_go m.core pa h.made) number d waits.1 refl (may_go_on prog workers u pa m h is_h goes)

      module _ (registers : Vec ℤ Global) (words : length registers.items ≡ length above.frame.frame.registers.items) where
        -- the caller goes on
        abbrev pub back : Activation
        back = record above.frame { frame = record above.frame.frame { registers = registers; waits = wait.Nothing }; callee = None; runner = Some w }

        abbrev frames : Frames Activation
        frames = with_frame mid up back

        abbrev later : Node Activation
        later = record above { frame = back }

        stays_mid : node_at mid up ≡ Some above
        stays_mid = leaving.stays_mid prog places k slot node stands m shown (safe []).tree mid removed up has

        abbrev again : Binds mid frames above.path.numbers (Some later)
        again = written_binds mid up above back binds.tree stays_mid

        at_up : node_at frames up ≡ Some later
        at_up = node_at-with_frame mid up back above stays_mid

        at_other : (x : ℕ) → x ≢ up → node_at frames x ≡ node_at mid x
        at_other x away = node_at-with_frame_other mid up x back away

        still : (x : ℕ) (y : Node Activation) → x ≢ slot → node_at k.cactus x ≡ Some y → (z : Node Activation) × (node_at frames x ≡ Some z) × (z.path ≡ y.path)
        still x y away here =
            elim (eqb_tells up x) [
              | inl e ↦
                  let same : above ≡ y = some_same above y (sym below_stands ∙ subst (λ z. node_at k.cactus z ≡ Some y) (sym e.1) here) in
                  (later, subst (λ z. node_at frames z ≡ Some later) e.1 at_up, ap (λ (z : Node Activation). z.path) same)
              | inr e ↦ (y, at_other x (λ z. e.1 (sym z)) ∙ (removed.change.others x away ∙ here), refl)
            ]

        abbrev hands : Vec (Option ℕ) Global
        hands = with_item k.hands w (Some up)

        abbrev ToldAt : Path → Type 0
        ToldAt = Told prog places m then k frames k.peak hands

        abbrev HoldsAt : ℕ → Node Activation → Type 0
        HoldsAt = Holds prog places m then k frames k.peak hands

        off_frames : (q : Path) → p ≢ q → pa ≢ q → named frames (reverse q) ≡ named k.cactus (reverse q)
        off_frames q x y = again.elsewhere (reverse q) (λ e. y (ap reverse (sym e) ∙ reverse-reverse q)) ∙ off_mid q x

        later_named : named frames (reverse pa) ≡ Some later
        later_named = ap (named frames) (reverse-reverse above.path.numbers) ∙ again.here

        told_caller : ShowsFrame l places pa resumed_h back.frame → ToldAt pa
        told_caller shows =
            anew
            (subst (λ (x : Option Shown). ShowsAt l places pa x (named frames (reverse pa))) (sym resumed_then)
            (subst (λ (x : Option (Node Activation)). ShowsAt l places pa (Some resumed_h) x) (sym later_named) (record { shown = shows; waits = refl })))
            (λ x. ap (λ y. alloca_cells prog y x) resumed_then ∙ sym (ap (λ y. alloca_cells prog y x) is_h))
            (λ x. ap (λ y. alloca_at places y x) later_named ∙ sym (ap (λ y. alloca_at places y x) (named_at_place k.cactus shown.agrees.tree up above below_stands)))

        told : ShowsFrame l places pa resumed_h back.frame → (q : Path) → p ≢ q → ToldAt q
        told shows q off =
            elim (same_path_tells pa q) [
              | inl e ↦ subst (λ y. ToldAt y) e.1 (told_caller shows)
              | inr e ↦ alike (off_then q off e.1) (off_frames q off e.1)
            ]

        holds_caller : HoldsAt up later
        holds_caller =
            let before = shown.agrees.nodes up above below_stands in
            record {
              runner = taken_up prog places m k shown slot node stands w hand within (Some up) up refl (λ u differ e. unheld u e);
              fits = record {
                fits = record { there = before.fits.there; registers = λ f is. words ∙ before.fits.registers f is; place = before.fits.place };
                callee = refl;
                taker = λ f is. tt;
                counts = before.counts;
              };
              counts = λ r. shown.agrees.counts up r above below_stands ∙ sym (counts_next (return_change p pa h d v) returns_to pa r);
              block = λ is_body some. let own = shown.agrees.blocks.owned up above below_stands is_body some in (own.0, own.1, record { home = own.2.home; room = own.2.room });
            }

        one_caller : (x : ℕ) (y : Node Activation) → x ≢ up → node_at k.cactus x ≡ Some y → (j : ℕ) → p ≢ j ∷ place_of y
        one_caller x y away was j e =
            let same : number ∷ pa ≡ j ∷ place_of y = sym place ∙ e in
            let tails : pa ≡ place_of y = cc in
            away (shown.agrees.tree.distinct x up y above was below_stands (sym (reverse-reverse y.path.numbers) ∙ (ap reverse (sym tails) ∙ reverse-reverse above.path.numbers)))

        holds_other : (x : ℕ) (y : Node Activation) → x ≢ up → node_at mid x ≡ Some y → HoldsAt x y
        holds_other x y away at =
            let (gone_by, was) = left_there x y at in
            kept_holds prog places m then k frames k.peak hands shown x y (record {
              was = was;
              same_hands = others_stay prog places m k shown slot node stands w hand within (Some up) x gone_by (λ e. away (sym (some_same up x e)));
              callee = callee_still frames still x y was (one_caller x y away was) y.frame.frame.waits y.frame.callee (shown.agrees.nodes x y was).callee;
              counts = counts_next (return_change p pa h d v) returns_to (place_of y);
            })

        holds : (x : ℕ) (y : Node Activation) → node_at frames x ≡ Some y → HoldsAt x y
        holds x y at =
            elim (eqb_tells up x) [
              | inl e ↦
                  let same : later ≡ y = some_same later y (sym at_up ∙ subst (λ z. node_at frames z ≡ Some y) (sym e.1) at) in
                  subst (λ z. HoldsAt z y) e.1 (subst (λ z. HoldsAt up z) same holds_caller)
              | inr e ↦ holds_other x y (λ z. e.1 (sym z)) (sym (at_other x (λ z. e.1 (sym z))) ∙ at)
            ]

        goes_back : ShowsFrame l places pa resumed_h back.frame → LeadsTo prog places k (record k { cactus = frames; instructions = k.instructions + 1; hands = hands }) w m
        goes_back shows = (
          then,
          happens (return_change p pa h d v) returns_to,
          over_shown prog places m then k node frames hands k.result shown (record {
            tree = again.tree;
            gone = ap (λ o. override o (m.core.frames p)) (both_first p pa None (Some resumed_h));
            unnamed = again.elsewhere (reverse p) (λ e. apart (sym (reverse-reverse p) ∙ ap reverse e)) ∙ unnamed_mid;
            told = told shows;
            holds = holds;
            seen = seen_then prog places m k shown slot node stands w hand within (Some up) frames (running.caller_of p) (seen_up ∙ sym (ap running.caller_of place)) still;
            held = held_then prog places m k shown slot node stands w hand within (Some up) frames (λ x e. subst (λ z. Lives frames z) (some_same up x e) lives_up) still;
            made = (let e = made_still mid up back in let x = removed.made in omega (arith, e, x));
            memory = λ x. refl;
            done = omega arith;
            peak = no_depth m.core.peak;
            result_is = shown.shows.result;
            sound = refl;
            parents = (safe_then (return_change p pa h d v) returns_to).tree;
            points = (safe_then (return_change p pa h d v) returns_to).points;
          }),
        )
          where
            seen_up : seen_at frames (Some up) ≡ Some pa
            seen_up = rw at_up refl

            lives_up : Lives frames up
            lives_up = rw at_up refl

      -- ---- as the code has it

      pub goes_on : (result : Option ℤ) (found new : Activation) → above.frame ≡ found → result ≡ v → new ≡ record found { frame = new.frame; callee = None; runner = Some w } → new.frame ≡ record found.frame { registers = new.frame.registers; waits = wait.Nothing } →
          length new.frame.registers.items ≡ length found.frame.registers.items →
          ((x : Layout) (at : Places) (q : Path) (f : Shown) → ShowsFrame x at q f found.frame → ShowsFrame x at q (resumed f (taker_of found.frame.waits) result) new.frame) →
          LeadsTo prog places k (record k { cactus = with_frame mid up new; instructions = k.instructions + 1; hands = with_item k.hands w (Some up) }) w m
      goes_on result found new same gives only frame words shows =
          subst (λ (x : Activation). LeadsTo prog places k (record k { cactus = with_frame mid up x; instructions = k.instructions + 1; hands = with_item k.hands w (Some up) }) w m) (sym is)
          (goes_back new.frame.registers (words ∙ ap (λ (x : Activation). length x.frame.registers.items) (sym same))
          (subst (λ (x : Frame). ShowsFrame l places pa resumed_h x) is_frame shown_new))
        where
          is_frame : new.frame ≡ record above.frame.frame { registers = new.frame.registers; waits = wait.Nothing }
          is_frame = frame ∙ ap (λ (x : Activation). record x.frame { registers = new.frame.registers; waits = wait.Nothing }) (sym same)

          is : new ≡ back new.frame.registers (words ∙ ap (λ (x : Activation). length x.frame.registers.items) (sym same))
          is = only ∙ (λ i. record (sym same i) { frame = is_frame i; callee = None; runner = Some w })

          shown_h : ShowsFrame l places pa h found.frame
          shown_h = subst (λ (x : Activation). ShowsFrame l places pa h x.frame) same (seen prog places k up above above.frame below_stands m shown).shows.shown

          register : taker_of found.frame.waits ≡ d
          register = ap (λ (x : Activation). taker_of x.frame.waits) (sym same) ∙ taker

          shown_new : ShowsFrame l places pa resumed_h new.frame
          shown_new =
              subst (λ (n : Option ℤ). ShowsFrame l places pa (resumed h d n) new.frame) gives
              (subst (λ (r : Option RegisterId). ShowsFrame l places pa (resumed h r result) new.frame) register (shows l places pa h shown_h))
