-- A call of the frame in a slot: the callee begins in a slot of its own, with a block for its allocas.
use Rattle.std.proofs.Common.{◌≡◌, ◌≢◌, ℕ, zero, suc, ◌+◌, List, [], ◌∷◌, length, max, Option, Some, None, true, refl, sym, ap, ◌∙◌, subst, arith, ℤ}
use Rattle.std.specs.Prelude.{slice_get}
use Rattle.std.proofs.lemmas.Option.{same_Some}
use Rattle.linear.specs.declared.form.RegisterId.{RegisterId}
use Rattle.semantics.specs.Paths.{Path}
use Rattle.semantics.specs.Cells.{Cell, Object, Shared, Local}
use Rattle.semantics.specs.Frames.{Frame as Shown, Value, Word, Pointer, Does, Body, first_cell, item_at, and_then, cell_of}
use Rattle.semantics.specs.Frames as frames
use Rattle.semantics.specs.Effect.{Call, action_of, argument_value, argument_values, calls, item_action}
use Rattle.semantics.specs.State.{Change, override, called, waiting, call_change, may_go, apply}
use Rattle.semantics.specs.Counts.{count_of, counts_after}
use Rattle.semantics.specs.Events as running
use Rattle.semantics.specs.Events.{Machine, Step, event}
use Rattle.semantics.proofs.Steps.{Does as Steps, change_is, call}
use Rattle.semantics.proofs.Places.{no_own_child, both_first, both_second, both_off}
use Rattle.semantics.proofs.ChildCounts.{step_counts}
use Rattle.program.specs.declared.identifier.FunctionId.{FunctionId}
use Rattle.program.specs.declared.identifier.ObjectName.{ObjectName}
use Rattle.program.specs.declared.identifier.ObjectName.TheVariants as name
use Rattle.program.specs.declared.function.Program.{Program}
use Rattle.program.specs.declared.instruction.Argument.{Argument}
use Rattle.program.specs.declared.instruction.Argument.TheVariants as argument
use Rattle.program.specs.declared.instruction.Instruction.TheVariants as instruction
use Rattle.cactus.specs.declared.node.Node.{Node}
use Rattle.cactus.specs.Frames.{node_at}
use Rattle.frame_engine.specs.declared.activation.Places.{Places}
use Rattle.frame_engine.specs.Activation.{ShowsFrame}
use Rattle.frame_engine.specs.Shows.{TrapFree}
use Rattle.frame_engine.proofs.Shown.{held_cell, then_some}
use Rattle.schedule_workers.specs.declared.activation.Activation.{Activation}
use Rattle.schedule_workers.specs.declared.run.Run.{Run}
use Rattle.schedule_workers.specs.Scheduling.{hand_of}
use Rattle.schedule_workers.specs.Layouts.{layout_of, object_at}
use Rattle.schedule_workers.specs.Going.{CanStep, IsAbove, PointsUp, RunsSafely}
use Rattle.schedule_workers.specs.RunShown.{IsShown, item_here, place_of}
use Rattle.schedule_workers.proofs.Onward.{seen, standing}
use Rattle.schedule_workers.proofs.Standing.{can_step, may_go_on}

-- ---- what a call passes points up

argument_up : (p : Path) (g : Shown) → PointsUp p g → (a : Argument) (x : Cell) → argument_value g a ≡ Some (Pointer x) → IsAbove p x.object
argument_up p g up (argument.Number a) x e = let t = then_some (frames.word_at g.registers a) (λ (z : ℤ). Some (Word z)) (Pointer x) e in absurd (let n : Word t.0 ≡ Pointer x = same_Some (Word t.0) (Pointer x) t.2 in cc)
argument_up p g up (argument.Object n) x e =
    let t = then_some (frames.object_at g n) (λ (o : Object). Some (Pointer (first_cell o))) (Pointer x) e in
    let is : Pointer (first_cell t.0) ≡ Pointer x = same_Some (Pointer (first_cell t.0)) (Pointer x) t.2 in
    let cell : first_cell t.0 ≡ x = cc in
    subst (IsAbove p) (ap (λ (y : Cell). y.object) cell) (object_up n t.0 t.1)
  where
    object_up : (n : ObjectName) (o : Object) → frames.object_at g n ≡ Some o → IsAbove p o
    object_up (name.Global y) o is = subst (IsAbove p) (same_Some (Shared y.0) o is) tt
    object_up (name.Alloca y) o is = subst (IsAbove p) (same_Some (Local g.home y.0) o is) up.home
    object_up (name.Parameter y) o is =
        let t = then_some (cell_of (g.registers y.0)) (λ (c : Cell). Some c.object) o is in
        subst (IsAbove p) (same_Some t.0.object o t.2) (up.registers y.0 t.0 (held_cell (g.registers y.0) t.0 t.1))

pub values_up : (p : Path) (g : Shown) → PointsUp p g → (arguments : List Argument) (values : List Value) → argument_values g arguments ≡ Some values →
    (k : ℕ) (x : Cell) → slice_get values k ≡ Some (Pointer x) → IsAbove p x.object
values_up p g up [] values e k x h = absurd (let none : slice_get {X = Value} [] k ≡ Some (Pointer x) = ap (λ (xs : List Value). slice_get xs k) (same_Some [] values e) ∙ h in cc)
values_up p g up (a ∷ more) values e zero x h =
    let t = then_some (argument_value g a) (λ (v : Value). and_then (argument_values g more) (λ (vs : List Value). Some (v ∷ vs))) values e in
    let u = then_some (argument_values g more) (λ (vs : List Value). Some (t.0 ∷ vs)) values t.2 in
    let there : slice_get (t.0 ∷ u.0) 0 ≡ Some (Pointer x) = ap (λ (xs : List Value). slice_get xs 0) (same_Some (t.0 ∷ u.0) values u.2) ∙ h in
    argument_up p g up a x (t.1 ∙ there)
values_up p g up (a ∷ more) values e (suc k) x h =
    let t = then_some (argument_value g a) (λ (v : Value). and_then (argument_values g more) (λ (vs : List Value). Some (v ∷ vs))) values e in
    let u = then_some (argument_values g more) (λ (vs : List Value). Some (t.0 ∷ vs)) values t.2 in
    let there : slice_get (t.0 ∷ u.0) (suc k) ≡ Some (Pointer x) = ap (λ (xs : List Value). slice_get xs (suc k)) (same_Some (t.0 ∷ u.0) values u.2) ∙ h in
    values_up p g up more u.0 u.1 k x there

-- ---- the definitions' step

calls_free : (f : Shown) (d : Option RegisterId) (callee : ℕ) (o : Option (List Value)) → TrapFree (calls f d callee o) → (vs : List Value) × (o ≡ Some vs)
calls_free f d callee None free = absurd cc
calls_free f d callee (Some vs) free = (vs, refl)

module _ (prog : Program) (places : Places) (k : Run) (slot : ℕ) (n : Node Activation) (a : Activation) (stands : node_at k.cactus slot ≡ Some (record n { frame = a })) (m : Machine) (shown : IsShown prog places m k)
    (d : Option RegisterId) (callee : FunctionId) (arguments : List Argument) (item : item_here prog a.frame ≡ Some (Does (instruction.Call d callee arguments)))
    (w : ℕ) (hand : hand_of k.hands.items w ≡ Some slot) (safe : RunsSafely prog (length k.hands.items) m) where
  abbrev pub p : Path
  p = place_of (record n { frame = a })

  abbrev pub workers : ℕ
  workers = length k.hands.items

  abbrev pub g : Shown
  g = (seen prog places k slot n a stands m shown).frame

  abbrev pub is_g : m.core.frames p ≡ Some g
  is_g = (seen prog places k slot n a stands m shown).is

  abbrev pub shows_g : ShowsFrame (layout_of prog places k.cactus m.core) places p g a.frame
  shows_g = (seen prog places k slot n a stands m shown).shows.shown

  pub can : CanStep prog m p g
  can = can_step prog workers w p m g m.core.memory (standing prog places k slot n a stands m shown w hand safe)

  pub item_g : item_at prog g.function g.block g.index ≡ Some (Does (instruction.Call d callee arguments))
  item_g = let t = shows_g in (λ j. item_at prog (t.function j) (t.block j) (t.index j)) ∙ item

  pub act : (vs : List Value) × (argument_values g arguments ≡ Some vs) × (action_of prog p g m.core.memory ≡ Call d callee.0 vs)
  act =
      let here : action_of prog p g m.core.memory ≡ calls g d callee.0 (argument_values g arguments) = ap (item_action prog p g m.core.memory) item_g in
      let on = calls_free g d callee.0 (argument_values g arguments) (subst TrapFree here (can.safe (object_at places k.cactus)).trap_free) in
      (on.0, on.1, here ∙ ap (calls g d callee.0) on.1)

  go : may_go m.core p g.made g.waits ≡ true
  go = may_go_on prog workers w p m g is_g can.goes

  -- the callee's path
  abbrev pub c : Path
  c = g.made ∷ p

  abbrev pub caller : Shown
  caller = waiting g d

  abbrev pub begun : Shown
  begun = called p g callee.0 act.0

  abbrev pub change : Change
  change = call_change p g d callee.0 act.0

  abbrev pub next : Machine
  next = running.stepped m w change (Some c)

  steps : Steps prog m.core p change
  steps = call g d callee.0 act.0 is_g go act.2

  pub happens : event prog workers (Step w) m ≡ Some next
  happens =
      let s = standing prog places k slot n a stands m shown w hand safe in
      ap (λ t. running.unless_trapped t (running.by_hand prog workers m w (m.hands w))) s.sound
      ∙ ap (running.by_hand prog workers m w) s.hand
      ∙ ap (running.by_frame prog workers m w p) is_g
      ∙ ap (λ o. Some (running.by_change prog workers m w p g o)) (change_is prog m.core p change steps)
      ∙ ap (λ x. Some (running.stepped m w change (running.next_hand workers m (apply change m.core) p g x))) act.2

  pub off_path : p ≢ c
  off_path e = no_own_child g.made p (sym e)

  pub caller_next : next.core.frames p ≡ Some caller
  caller_next = ap (λ o. override o (m.core.frames p)) (both_first p c (Some caller) (Some begun))

  pub begun_next : next.core.frames c ≡ Some begun
  begun_next = ap (λ o. override o (m.core.frames c)) (both_second p c (Some caller) (Some begun) off_path)

  pub off_next : (q : Path) → p ≢ q → c ≢ q → next.core.frames q ≡ m.core.frames q
  off_next q x y = ap (λ o. override o (m.core.frames q)) (both_off p c q (Some caller) (Some begun) x y)

  -- nobody lived there
  pub nobody : m.core.frames c ≡ None
  nobody = from (m.core.frames c) refl
    where
      from : (o : Option Shown) → m.core.frames c ≡ o → m.core.frames c ≡ None
      from None e = e
      from (Some f) e =
          let (h, over, lt) = (safe []).tree.has_parent g.made p f e in
          let same : h ≡ g = same_Some h g (sym over ∙ is_g) in
          let made : h.made ≡ g.made = ap (λ (x : Shown). x.made) same in
          absurd (omega (arith, lt, made))

  pub counts_next : (q : Path) (r : ℕ) → count_of next.core q r ≡ count_of m.core q r
  counts_next q r = step_counts prog m.core (safe []).tree p change steps g is_g q r ∙ ap (λ x. counts_after p x (count_of m.core) q r) act.2

  pub peak_next : next.core.peak ≡ max m.core.peak (length p + 2)
  peak_next = refl
