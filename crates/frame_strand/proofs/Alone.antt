-- What a strand does is done alone, and a frame that stays safe alone stays safe with a memory that is full.
use Rattle.std.proofs.Common.{◌≡◌, ℕ, suc, ◌+◌, refl, ap, sym, ◌∙◌, subst, arith, cond, ◌&&◌, ℤ, Bool, true, false, is_some, Option, Some, None}
use Rattle.std.specs.Prelude.{IsSome, pos, eqb, nat_lt}
use Rattle.semantics.specs.Paths.{Path, same_path}
use Rattle.semantics.specs.Arithmetic.{Trap}
use Rattle.semantics.specs.Cells.{Cell, Memory, Object, same_cell, same_object}
use Rattle.semantics.specs.Frames.{Frame, Item, Does, Ends, item_at, object_at}
use Rattle.semantics.specs.Effect.{Effect, Action, Plain, Detach, Reattach, Sync, Call, Return, action_of, calls, given, item_action, stops, stores_zeros}
use Rattle.semantics.specs.Frames.{Value}
use Rattle.semantics.specs.State.{added, override, sum_in, went}
use Rattle.program.specs.declared.function.Program.{Program}
use Rattle.program.specs.declared.instruction.Instruction.{Instruction}
use Rattle.program.specs.declared.instruction.Instruction.TheVariants as instruction
use Rattle.linear.specs.declared.form.RegisterId.{RegisterId}
use Rattle.std.specs.Prelude.{List}
use Rattle.laws_strands.specs.Footprint.{memory_of}
use Rattle.laws_strands.specs.FrameStrands as frame_strands
use Rattle.laws_strands.specs.FrameStrands.{FrameStrand, Access, Nowhere, IsFrameStrand, is_loaded, is_filled, is_advanced, is_border, item_access}
use Rattle.laws_strands.proofs.Items.{Touches, touches}
use Rattle.frame_engine.specs.Shows.{Layout, IsIn, PlainSteps, here, more, StaysSafe, memory_after}
use Rattle.frame_strand.specs.Alone as alone
use Rattle.frame_strand.specs.Alone.{AloneSteps, IsFull, StaysSafeAlone}
use Rattle.frame_strand.proofs.Advancing.{no_border}

-- ---- a plain effect undefines no cell

abbrev Keeps : Effect → Type 0
Keeps e = (x : Cell) (v : Option ℤ) → IsSome v → IsSome (override (e.writes x) v)

added_some : (a v : Option ℤ) → IsSome v → IsSome (added a v)
added_some None v h = h
added_some (Some z) None h = absurd cc
added_some (Some z) (Some y) h = refl

some_kept : (e : Effect) (m : Memory) → Keeps e → (x : Cell) → IsSome (m x) → IsSome (memory_after e m x)
some_kept e m k x h = added_some (e.adds x) (override (e.writes x) (m x)) (k x (m x) h)

unwritten : (e : Effect) → ((x : Cell) → e.writes x ≡ None) → Keeps e
unwritten e none x v h = subst (λ (o : Option (Option ℤ)). IsSome (override o v)) (sym (none x)) h

put_some : (b : Bool) (z : ℤ) (v : Option ℤ) → IsSome v → IsSome (override (cond b (Some (Some z)) None) v)
put_some true z v h = refl
put_some false z v h = h

touch_keeps : (a : Access) (e : Effect) → Touches a e → Keeps e
touch_keeps Nowhere e t = unwritten e t.writes
touch_keeps (frame_strands.Loads c) e (r, w, d) = unwritten e w
touch_keeps (frame_strands.Adds c) e (z, r, w, d) = unwritten e w
touch_keeps (frame_strands.Stores c) e (z, r, w, d) = λ x v h. subst (λ (o : Option (Option ℤ)). IsSome (override o v)) (sym (w x)) (put_some (same_cell c x) z v h)

abbrev KeepsBy : Action → Type 0
KeepsBy (Plain e) = Keeps e
KeepsBy (Detach r b c) = Unit {0}
KeepsBy (Reattach r) = Unit {0}
KeepsBy (Sync r b rs) = Unit {0}
KeepsBy (Call d g vs) = Unit {0}
KeepsBy (Return v) = Unit {0}

zeros_keep : (f : Frame) (cells : ℕ) (o : Option Object) → Keeps (given f o (stores_zeros f cells))
zeros_keep f cells None = λ x v h. h
zeros_keep f cells (Some o) = λ x v h. put_some (same_object o x.object && nat_lt x.index cells) (pos 0) v h

calls_keep : (f : Frame) (d : Option RegisterId) (callee : ℕ) (o : Option (List Value)) → KeepsBy (calls f d callee o)
calls_keep f d callee None = λ x v h. h
calls_keep f d callee (Some vs) = tt

module _ (prog : Program) (p : Path) (f : Frame) (m : Memory) where
  free_keeps : (o : Option Item) (e : Effect) → is_border o ≡ false → item_action prog p f m o ≡ Plain e → e.trap ≡ None → Keeps e
  free_keeps o e free act fine = touch_keeps (item_access f o) e (touches prog p f m o e free act fine)

  item_keeps : (o : Option Item) (e : Effect) → item_action prog p f m o ≡ Plain e → e.trap ≡ None → Keeps e
  item_keeps None e act fine = free_keeps None e refl act fine
  item_keeps (Some (Ends t)) e act fine = free_keeps (Some (Ends t)) e (no_border p f prog t e act fine) act fine
  item_keeps (Some (Does (instruction.StoreZeros cells name))) e act fine = subst KeepsBy act (zeros_keep f cells (object_at f name))
  item_keeps (Some (Does (instruction.Call d callee arguments))) e act fine = subst KeepsBy act (calls_keep f d callee.0 _)
  item_keeps (Some (Does (instruction.Binary d op w a b))) e act fine = free_keeps (Some (Does (instruction.Binary d op w a b))) e refl act fine
  item_keeps (Some (Does (instruction.Compare d by w a b))) e act fine = free_keeps (Some (Does (instruction.Compare d by w a b))) e refl act fine
  item_keeps (Some (Does (instruction.Convert d by a))) e act fine = free_keeps (Some (Does (instruction.Convert d by a))) e refl act fine
  item_keeps (Some (Does (instruction.Alloca d a))) e act fine = free_keeps (Some (Does (instruction.Alloca d a))) e refl act fine
  item_keeps (Some (Does (instruction.ElementPointer d name i))) e act fine = free_keeps (Some (Does (instruction.ElementPointer d name i))) e refl act fine
  item_keeps (Some (Does (instruction.Load d a))) e act fine = free_keeps (Some (Does (instruction.Load d a))) e refl act fine
  item_keeps (Some (Does (instruction.Store a b))) e act fine = free_keeps (Some (Does (instruction.Store a b))) e refl act fine
  item_keeps (Some (Does (instruction.AtomicAdd a b))) e act fine = free_keeps (Some (Does (instruction.AtomicAdd a b))) e refl act fine
  item_keeps (Some (Does (instruction.StartRegion d))) e act fine = free_keeps (Some (Does (instruction.StartRegion d))) e refl act fine

-- ---- steps alone

pub frame_strand_alone : (prog : Program) (l : Layout) (s : FrameStrand) → IsFrameStrand prog s → AloneSteps prog l s.path s.loaded s.done s.present
frame_strand_alone prog l _ (is_loaded p f) = alone.here
frame_strand_alone prog l _ (is_filled s c v is paused) = frame_strand_alone prog l s is
frame_strand_alone prog l _ (is_advanced s e is free act fine) = alone.more (memory_of s.footprint) e (frame_strand_alone prog l s is) (λ c within. refl) act fine

module _ (prog : Program) (l : Layout) (p : Path) (f g : Frame) (k : Memory) where
  alone_on : (i : ℕ) → AloneSteps prog l p f i g → IsFull l k → (n : ℕ) (h : Frame) (j : Memory) → PlainSteps prog p g k n h j → AloneSteps prog l p f (i + n) h × IsFull l j
  alone_on i a full n h j here = (subst (λ (c : ℕ). AloneSteps prog l p f c g) (omega arith) a, full)
  alone_on i a full n h j (more {n = n'} {g = h'} {k = j'} e steps act fine) =
      let (b, full') = alone_on i a full n' h' j' steps in
      let far : suc (i + n') ≡ i + suc n' = omega arith in (
        subst (λ (c : ℕ). AloneSteps prog l p f c (went h' e)) far (alone.more j' e b full' act fine),
        λ c within. some_kept e j' (item_keeps prog p h' j' (item_at prog h'.function h'.block h'.index) e act fine) c (full' c within),
      )

pub stays_safe : (prog : Program) (l : Layout) (s : FrameStrand) (m : Memory) → IsFrameStrand prog s → StaysSafeAlone prog l s.path s.loaded → IsFull l m → StaysSafe prog l s.path s.present m
stays_safe prog l s m is stays full = λ n g k steps.
    let (a, full') = alone_on prog l s.path s.loaded s.present m s.done (frame_strand_alone prog l s is) full n g k steps in
    stays (s.done + n) g a k full'
