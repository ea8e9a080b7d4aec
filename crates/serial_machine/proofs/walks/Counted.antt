-- Places, frames made and frames below are no more than the steps.
use Rattle.std.proofs.Common.{◌≡◌, ℕ, suc, ◌≤◌, List, [], ◌∷◌, length, Option, Some, None, Bool, true, false, cond, ◌&&◌, ap, subst, arith, ℤ, pos, int_lt, int_le, eqb}
use Rattle.semantics.specs.Paths.{Path, same_path}
use Rattle.semantics.specs.Cells.{Object, Cell, Memory}
use Rattle.semantics.specs.Arithmetic.{Answer, Gives, Traps, binary}
use Rattle.semantics.specs.Frames.{Value, Registers, Role, Child, Body, Frame, Item, Does, Ends, item_at, word_at, object_at, cell_at, cells_of, truth_of, region_of}
use Rattle.semantics.specs.Effect.{Effect, Action, Plain, Detach, Reattach, Sync, Call, Return, given, answers, points, loads, adds_to, enters, jumps, case_for, if_own, syncs, calls, returns, returns_value, reattaches, registers_along, argument_values, instruction_action, terminator_action, item_action, action_of}
use Rattle.linear.specs.declared.form.RegisterId.{RegisterId}
use Rattle.program.specs.declared.function.Program.{Program}
use Rattle.program.specs.declared.instruction.Instruction.{Instruction}
use Rattle.program.specs.declared.instruction.Instruction.TheVariants as instruction
use Rattle.program.specs.declared.instruction.Terminator.{Terminator}
use Rattle.program.specs.declared.instruction.Terminator.TheVariants as terminator
use Rattle.laws_strands.specs.stacks.Strands.{Placed}
use Rattle.serial_stack.specs.Steps.{Run, Goes, plain, sync, detach, call, reattach, ret, Walk, begins, goes_on, starting}
use Rattle.serial_machine.specs.walks.Along.{IsWithin, AreWithin, IsCounted, WalksCount}

-- ---- an instruction goes one place on at most

abbrev Near : Frame → Effect → Type 0
Near f e = e.index ≤ suc f.index

abbrev NearBy : Frame → Action → Type 0
NearBy f (Plain e) = Near f e
NearBy f (Detach r b c) = Unit {0}
NearBy f (Reattach r) = Unit {0}
NearBy f (Sync r b rs) = Unit {0}
NearBy f (Call d g vs) = Unit {0}
NearBy f (Return v) = Unit {0}

stays : (n : ℕ) → n ≤ suc n
stays n = omega arith

goes : (n : ℕ) → n ≤ n
goes n = omega arith

begins_block : (n : ℕ) → 0 ≤ n
begins_block n = omega arith

given_near : {A : Type 0} (f : Frame) (o : Option A) (next : A → Effect) → ((a : A) → Near f (next a)) → Near f (given f o next)
given_near f None next h = stays f.index
given_near f (Some a) next h = h a

answers_near : (f : Frame) (d : RegisterId) (a : Answer) → Near f (answers f d a)
answers_near f d (Gives z) = goes (suc f.index)
answers_near f d (Traps t) = stays f.index

either_near : (f : Frame) (a b : Effect) → Near f a → Near f b → (t : Bool) → Near f (cond t a b)
either_near f a b h k true = h
either_near f a b h k false = k

points_near : (f : Frame) (d : RegisterId) (cells : ℕ) (o : Object) (i : ℤ) → Near f (points f d cells o i)
points_near f d cells o i = either_near f _ _ (goes (suc f.index)) (stays f.index) (int_le (pos 0) i && int_lt i (pos cells))

loads_near : (f : Frame) (d : RegisterId) (c : Cell) (o : Option ℤ) → Near f (loads f d c o)
loads_near f d c None = stays f.index
loads_near f d c (Some z) = goes (suc f.index)

adds_near : (f : Frame) (c : Cell) (z : ℤ) (o : Option ℤ) → Near f (adds_to f c z o)
adds_near f c z None = stays f.index
adds_near f c z (Some old) = goes (suc f.index)

jumps_near : (prog : Program) (f : Frame) (target : ℕ) → Near f (jumps prog f target)
jumps_near prog f target = given_near f (registers_along prog f target) (enters f target) (λ r. begins_block (suc f.index))

chosen_near : (f : Frame) (a other : Action) → NearBy f a → NearBy f other → (b : Bool) → NearBy f (cond b a other)
chosen_near f a other h k true = h
chosen_near f a other h k false = k

within_near : (p : Path) (f : Frame) (a : Action) → NearBy f a → (o : Option Path) → NearBy f (if_own p f a o)
within_near p f a h None = stays f.index
within_near p f a h (Some owner) = chosen_near f a _ h (stays f.index) (same_path owner p)

syncs_near : (f : Frame) (r b : ℕ) (o : Option Registers) → NearBy f (syncs f r b o)
syncs_near f r b None = stays f.index
syncs_near f r b (Some rs) = tt

calls_near : (f : Frame) (d : Option RegisterId) (g : ℕ) (o : Option (List Value)) → NearBy f (calls f d g o)
calls_near f d g None = stays f.index
calls_near f d g (Some vs) = tt

returns_near : (f : Frame) (role : Role) (v : Option ℤ) → NearBy f (returns f role v)
returns_near f (Child r c) v = stays f.index
returns_near f Body v = tt

returns_value_near : (f : Frame) (o : Option ℤ) → NearBy f (returns_value f o)
returns_value_near f None = stays f.index
returns_value_near f (Some z) = returns_near f f.role (Some z)

reattaches_near : (f : Frame) (region continuation : ℕ) (role : Role) → NearBy f (reattaches f region continuation role)
reattaches_near f region continuation Body = stays f.index
reattaches_near f region continuation (Child r c) = chosen_near f (Reattach region) _ tt (stays f.index) (eqb r region && eqb c continuation)

instruction_near : (prog : Program) (p : Path) (f : Frame) (m : Memory) (i : Instruction) → NearBy f (instruction_action prog p f m i)
instruction_near prog p f m (instruction.Binary d op w a b) =
    given_near f (word_at f.registers a) _ (λ x. given_near f (word_at f.registers b) _ (λ y. answers_near f d (binary op w x y)))
instruction_near prog p f m (instruction.Compare d by w a b) = given_near f (word_at f.registers a) _ (λ x. given_near f (word_at f.registers b) _ (λ y. goes (suc f.index)))
instruction_near prog p f m (instruction.Convert d by a) = given_near f (word_at f.registers a) _ (λ x. goes (suc f.index))
instruction_near prog p f m (instruction.Alloca d a) = goes (suc f.index)
instruction_near prog p f m (instruction.ElementPointer d name i) =
    given_near f (object_at f name) _ (λ o. given_near f (word_at f.registers i) _ (points_near f d (cells_of prog f.function name) o))
instruction_near prog p f m (instruction.Load d a) = given_near f (cell_at f a) _ (λ c. loads_near f d c (m c))
instruction_near prog p f m (instruction.Store a b) = given_near f (cell_at f b) _ (λ c. given_near f (word_at f.registers a) _ (λ z. goes (suc f.index)))
instruction_near prog p f m (instruction.StoreZeros cells name) = given_near f (object_at f name) _ (λ o. goes (suc f.index))
instruction_near prog p f m (instruction.AtomicAdd a b) = given_near f (cell_at f a) _ (λ c. given_near f (word_at f.registers b) _ (λ z. adds_near f c z (m c)))
instruction_near prog p f m (instruction.Call d g arguments) = calls_near f d g.0 (argument_values f arguments)
instruction_near prog p f m (instruction.StartRegion d) = goes (suc f.index)

terminator_near : (prog : Program) (p : Path) (f : Frame) (t : Terminator) → NearBy f (terminator_action prog p f t)
terminator_near prog p f (terminator.Jump target) = jumps_near prog f target.0
terminator_near prog p f (terminator.Branch test x y) = given_near f (truth_of (f.registers test.0)) _ (λ b. jumps_near prog f (cond b x.0 y.0))
terminator_near prog p f (terminator.Switch w a default cases) = given_near f (word_at f.registers a) _ (λ z. jumps_near prog f (case_for z default.0 cases))
terminator_near prog p f (terminator.Return None) = returns_near f f.role None
terminator_near prog p f (terminator.Return (Some a)) = returns_value_near f (word_at f.registers a)
terminator_near prog p f (terminator.Detach region body continuation) = within_near p f _ tt (region_of (f.registers region.0))
terminator_near prog p f (terminator.Reattach region continuation) = reattaches_near f region.0 continuation.0 f.role
terminator_near prog p f (terminator.Sync region target) = within_near p f _ (syncs_near f region.0 target.0 (registers_along prog f target.0)) (region_of (f.registers region.0))

item_near : (prog : Program) (p : Path) (f : Frame) (m : Memory) (o : Option Item) → NearBy f (item_action prog p f m o)
item_near prog p f m None = stays f.index
item_near prog p f m (Some (Does i)) = instruction_near prog p f m i
item_near prog p f m (Some (Ends t)) = terminator_near prog p f t

pub plain_near : (prog : Program) (p : Path) (f : Frame) (m : Memory) (e : Effect) → action_of prog p f m ≡ Plain e → e.index ≤ suc f.index
plain_near prog p f m e act = subst (NearBy f) act (item_near prog p f m (item_at prog f.function f.block f.index))

-- ---- along the steps

within_more : (n : ℕ) (f : Frame) → IsWithin n f → IsWithin (suc n) f
within_more n f h = record { index = more f.index n h.index; made = more f.made n h.made }
  where
    more : (a b : ℕ) → a ≤ b → a ≤ suc b
    more a b l = omega arith

all_within_more : (n : ℕ) (below : List Placed) → AreWithin n below → AreWithin (suc n) below
all_within_more n [] h = tt
all_within_more n (g ∷ below) h = (within_more n g.frame h.0, all_within_more n below h.1)

all_within_at : (n : ℕ) (s : Run) (g : Placed) (rest : List Placed) → s.below ≡ g ∷ rest → AreWithin n s.below → IsWithin n g.frame × AreWithin n rest
all_within_at n s g rest at h = subst (AreWithin n) at h

less : (a b n : ℕ) → a ≤ suc b → b ≤ n → a ≤ suc n
less a b n h k = omega arith

fewer : (a b n : ℕ) → a ≡ suc b → a ≤ n → b ≤ suc n
fewer a b n e h = omega arith

step_counted : (prog : Program) (n : ℕ) (s t : Run) → Goes prog s t → IsCounted n s → IsCounted (suc n) t
step_counted prog n s t (plain e act fine) h = record {
  top = record { index = less e.index s.frame.index n (plain_near prog s.path s.frame s.memory e act) h.top.index; made = less s.frame.made s.frame.made n (stays s.frame.made) h.top.made };
  below = all_within_more n s.below h.below;
  deep = less (length s.below) (length s.below) n (stays (length s.below)) h.deep;
}
step_counted prog n s t (sync r b rs act) h = record {
  top = record { index = begins_block (suc n); made = less s.frame.made s.frame.made n (stays s.frame.made) h.top.made };
  below = all_within_more n s.below h.below;
  deep = less (length s.below) (length s.below) n (stays (length s.below)) h.deep;
}
step_counted prog n s t (detach r b c act) h = record {
  top = record { index = begins_block (suc n); made = begins_block (suc n) };
  below = (record { index = begins_block (suc n); made = less (suc s.frame.made) s.frame.made n (goes (suc s.frame.made)) h.top.made }, all_within_more n s.below h.below);
  deep = less (suc (length s.below)) (length s.below) n (goes (suc (length s.below))) h.deep;
}
step_counted prog n s t (call d g vs act) h = record {
  top = record { index = begins_block (suc n); made = begins_block (suc n) };
  below = (
    record {
      index = less (suc s.frame.index) s.frame.index n (goes (suc s.frame.index)) h.top.index;
      made = less (suc s.frame.made) s.frame.made n (goes (suc s.frame.made)) h.top.made;
    },
    all_within_more n s.below h.below,
  );
  deep = less (suc (length s.below)) (length s.below) n (goes (suc (length s.below))) h.deep;
}
step_counted prog n s t (reattach r g rest act at free) h =
    let both = all_within_at n s g rest at h.below in
    record { top = within_more n g.frame both.0; below = all_within_more n rest both.1; deep = fewer (length s.below) (length rest) n (ap length at) h.deep }
step_counted prog n s t (ret v g rest k d act at waits) h =
    let both = all_within_at n s g rest at h.below in
    let top = within_more n g.frame both.0 in
    record { top = record { index = top.index; made = top.made }; below = all_within_more n rest both.1; deep = fewer (length s.below) (length rest) n (ap length at) h.deep }

walk_counted : (prog : Program) (start : Run) → IsCounted 0 start → (n peak : ℕ) (s : Run) → Walk prog start n peak s → IsCounted n s
walk_counted prog start first n peak s begins = first
walk_counted prog start first n peak s (goes_on k high r t w g) = step_counted prog k r s g (walk_counted prog start first k high r w)

pub walks_count : WalksCount
walks_count prog arguments memory n peak s w =
    walk_counted prog (starting prog arguments memory) (record { top = record { index = goes 0; made = goes 0 }; below = tt; deep = goes 0 }) n peak s w
