-- What an instruction that is no border does to cells: it loads from one, stores to one or adds to one, or does none of these.
use Rattle.std.proofs.Common.{◌≡◌, ℕ, Option, Some, None, Bool, true, false, cond, ◌&&◌, refl, sym, ap, ◌∙◌, subst, ℤ}
use Rattle.std.specs.Prelude.{pos, int_lt, int_le, unsigned_abs}
use Rattle.semantics.specs.Paths.{Path}
use Rattle.semantics.specs.Cells.{Object, Cell, Memory, same_cell}
use Rattle.semantics.specs.Arithmetic.{Trap, Undefined, BadIndex, Answer, Gives, Traps, binary}
use Rattle.semantics.specs.Frames.{Pointer, Frame, Item, Does, Ends, word_at, cell_at, object_at, truth_of, cells_of}
use Rattle.semantics.specs.Effect.{Effect, Action, Plain, Detach, Reattach, Sync, Call, Return, stops, given, loads, stores, adds_to, sets, answers, points, jumps, registers_along, instruction_action, terminator_action, item_action}
use Rattle.laws_strands.specs.FrameStrands.{Access, Nowhere, Loads, Stores, Adds, to_cell, item_access, is_border}
use Rattle.semantics.specs.linear.declared.form.RegisterId.{RegisterId}
use Rattle.semantics.specs.program.declared.function.Program.{Program}
use Rattle.semantics.specs.program.declared.instruction.Instruction.{Instruction}
use Rattle.semantics.specs.program.declared.instruction.Instruction.TheVariants as instruction
use Rattle.semantics.specs.program.declared.instruction.Terminator.{Terminator}
use Rattle.semantics.specs.program.declared.instruction.Terminator.TheVariants as terminator

-- ---- effects that leave cells alone

pub record Quiet (e : Effect) : Type 0 where
  pub reads : (x : Cell) → e.reads x ≡ false
  pub writes : (x : Cell) → e.writes x ≡ None
  pub adds : (x : Cell) → e.adds x ≡ None

silent : (e : Effect) → ((x : Cell) → e.reads x ≡ false) → ((x : Cell) → e.writes x ≡ None) → ((x : Cell) → e.adds x ≡ None) → Quiet e
silent e reads writes adds = record { reads = reads; writes = writes; adds = adds }

stopped_quiet : (t : Trap) (f : Frame) → Quiet (stops t f)
stopped_quiet t f = silent _ (λ x. refl) (λ x. refl) (λ x. refl)

given_quiet : {A : Type 0} (f : Frame) (o : Option A) (next : A → Effect) → ((a : A) → Quiet (next a)) → Quiet (given f o next)
given_quiet f None next each = stopped_quiet Undefined f
given_quiet f (Some a) next each = each a

answers_quiet : (f : Frame) (d : RegisterId) (a : Answer) → Quiet (answers f d a)
answers_quiet f d (Gives z) = silent _ (λ x. refl) (λ x. refl) (λ x. refl)
answers_quiet f d (Traps t) = stopped_quiet t f

chosen_quiet : (b : Bool) (e d : Effect) → Quiet e → Quiet d → Quiet (cond b e d)
chosen_quiet true e d h k = h
chosen_quiet false e d h k = k

points_quiet : (f : Frame) (d : RegisterId) (cells : ℕ) (o : Object) (i : ℤ) → Quiet (points f d cells o i)
points_quiet f d cells o i =
    chosen_quiet (int_le (pos 0) i && int_lt i (pos cells)) (sets f d (Pointer (record { object = o; index = unsigned_abs i }))) (stops BadIndex f) (silent _ (λ x. refl) (λ x. refl) (λ x. refl)) (stopped_quiet BadIndex f)

jumps_quiet : (prog : Program) (f : Frame) (target : ℕ) → Quiet (jumps prog f target)
jumps_quiet prog f target = given_quiet f (registers_along prog f target) _ (λ r. silent _ (λ x. refl) (λ x. refl) (λ x. refl))

-- ---- an effect that does not trap, by what its instruction accesses

abbrev pub Touches : Access → Effect → Type 0
Touches Nowhere e = Quiet e
Touches (Loads c) e = ((x : Cell) → e.reads x ≡ same_cell c x) × ((x : Cell) → e.writes x ≡ None) × ((x : Cell) → e.adds x ≡ None)
Touches (Stores c) e = (z : ℤ) × ((x : Cell) → e.reads x ≡ false) × ((x : Cell) → e.writes x ≡ cond (same_cell c x) (Some (Some z)) None) × ((x : Cell) → e.adds x ≡ None)
Touches (Adds c) e = (z : ℤ) × ((x : Cell) → e.reads x ≡ false) × ((x : Cell) → e.writes x ≡ None) × ((x : Cell) → e.adds x ≡ cond (same_cell c x) (Some z) None)

abbrev TouchesBy : Access → Action → Type 0
TouchesBy a (Plain e) = e.trap ≡ None → Touches a e
TouchesBy a (Detach r b c) = Unit {0}
TouchesBy a (Reattach r) = Unit {0}
TouchesBy a (Sync r b rs) = Unit {0}
TouchesBy a (Call d g vs) = Unit {0}
TouchesBy a (Return v) = Unit {0}

load_touches : (f : Frame) (d : RegisterId) (m : Memory) (o : Option Cell) → (given f o (λ c. loads f d c (m c))).trap ≡ None → Touches (to_cell Loads o) (given f o (λ c. loads f d c (m c)))
load_touches f d m None e = absurd (cc)
load_touches f d m (Some c) e = from (m c) e
  where
    from : (v : Option ℤ) → (loads f d c v).trap ≡ None → Touches (Loads c) (loads f d c v)
    from None h = absurd (cc)
    from (Some v) h = (λ x. refl, λ x. refl, λ x. refl)

store_touches : (f : Frame) (o : Option Cell) (v : Option ℤ) → (given f o (λ c. given f v (stores f c))).trap ≡ None → Touches (to_cell Stores o) (given f o (λ c. given f v (stores f c)))
store_touches f None v e = absurd (cc)
store_touches f (Some c) None e = absurd (cc)
store_touches f (Some c) (Some z) e = (z, λ x. refl, λ x. refl, λ x. refl)

add_touches : (f : Frame) (m : Memory) (o : Option Cell) (v : Option ℤ) → (given f o (λ c. given f v (λ z. adds_to f c z (m c)))).trap ≡ None → Touches (to_cell Adds o) (given f o (λ c. given f v (λ z. adds_to f c z (m c))))
add_touches f m None v e = absurd (cc)
add_touches f m (Some c) None e = absurd (cc)
add_touches f m (Some c) (Some z) e = from (m c) e
  where
    from : (v : Option ℤ) → (adds_to f c z v).trap ≡ None → Touches (Adds c) (adds_to f c z v)
    from None h = absurd (cc)
    from (Some v) h = (z, λ x. refl, λ x. refl, λ x. refl)

instruction_touches : (prog : Program) (p : Path) (f : Frame) (m : Memory) (i : Instruction) → is_border (Some (Does i)) ≡ false → TouchesBy (item_access f (Some (Does i))) (instruction_action prog p f m i)
instruction_touches prog p f m (instruction.Binary d op w a b) h = λ _. given_quiet f (word_at f.registers a) _ (λ x. given_quiet f (word_at f.registers b) _ (λ y. answers_quiet f d (binary op w x y)))
instruction_touches prog p f m (instruction.Compare d by w a b) h = λ _. given_quiet f (word_at f.registers a) _ (λ x. given_quiet f (word_at f.registers b) _ (λ y. silent _ (λ x. refl) (λ x. refl) (λ x. refl)))
instruction_touches prog p f m (instruction.Convert d by a) h = λ _. given_quiet f (word_at f.registers a) _ (λ x. silent _ (λ x. refl) (λ x. refl) (λ x. refl))
instruction_touches prog p f m (instruction.Alloca d a) h = λ _. silent _ (λ x. refl) (λ x. refl) (λ x. refl)
instruction_touches prog p f m (instruction.ElementPointer d name i) h =
    λ _. given_quiet f (object_at f name) _ (λ o. given_quiet f (word_at f.registers i) _ (points_quiet f d (cells_of prog f.function name) o))
instruction_touches prog p f m (instruction.Load d a) h = load_touches f d m (cell_at f a)
instruction_touches prog p f m (instruction.Store a b) h = store_touches f (cell_at f b) (word_at f.registers a)
instruction_touches prog p f m (instruction.StoreZeros cells name) h = absurd (cc)
instruction_touches prog p f m (instruction.AtomicAdd a b) h = add_touches f m (cell_at f a) (word_at f.registers b)
instruction_touches prog p f m (instruction.Call d g arguments) h = absurd (cc)
instruction_touches prog p f m (instruction.StartRegion d) h = λ _. silent _ (λ x. refl) (λ x. refl) (λ x. refl)

terminator_touches : (prog : Program) (p : Path) (f : Frame) (t : Terminator) → is_border (Some (Ends t)) ≡ false → TouchesBy Nowhere (terminator_action prog p f t)
terminator_touches prog p f (terminator.Jump target) h = λ _. jumps_quiet prog f target.0
terminator_touches prog p f (terminator.Branch test x y) h = λ _. given_quiet f (truth_of (f.registers test.0)) _ (λ b. jumps_quiet prog f _)
terminator_touches prog p f (terminator.Switch w a default cases) h = λ _. given_quiet f (word_at f.registers a) _ (λ z. jumps_quiet prog f _)
terminator_touches prog p f (terminator.Return v) h = absurd (cc)
terminator_touches prog p f (terminator.Detach region body continuation) h = absurd (cc)
terminator_touches prog p f (terminator.Reattach region continuation) h = absurd (cc)
terminator_touches prog p f (terminator.Sync region target) h = absurd (cc)

item_touches : (prog : Program) (p : Path) (f : Frame) (m : Memory) (o : Option Item) → is_border o ≡ false → TouchesBy (item_access f o) (item_action prog p f m o)
item_touches prog p f m None h = λ _. stopped_quiet _ f
item_touches prog p f m (Some (Does i)) h = instruction_touches prog p f m i h
item_touches prog p f m (Some (Ends t)) h = terminator_touches prog p f t h

pub touches : (prog : Program) (p : Path) (f : Frame) (m : Memory) (o : Option Item) (e : Effect) → is_border o ≡ false → item_action prog p f m o ≡ Plain e → e.trap ≡ None → Touches (item_access f o) e
touches prog p f m o e h at fine = (subst (λ a. TouchesBy (item_access f o) a) at (item_touches prog p f m o h)) fine

-- ---- a load of a cell without a value traps, and so does an add to one

abbrev TrapsBy : Action → Type 0
TrapsBy a = (e : Effect) × (a ≡ Plain e) × (e.trap ≡ Some Undefined)

-- the cell has to have a value
abbrev pub Wants : Access → Cell → Type 0
Wants Nowhere c = ⊥
Wants (Loads d) c = d ≡ c
Wants (Stores d) c = ⊥
Wants (Adds d) c = d ≡ c

load_traps : (f : Frame) (d : RegisterId) (m : Memory) (o : Option Cell) (c : Cell) → Wants (to_cell Loads o) c → m c ≡ None → TrapsBy (Plain (given f o (λ x. loads f d x (m x))))
load_traps f d m None c is none = absurd is
load_traps f d m (Some x) c is none = let gone : m x ≡ None = ap m is ∙ none in (loads f d x (m x), refl, rw gone)

add_traps : (f : Frame) (m : Memory) (o : Option Cell) (v : Option ℤ) (c : Cell) → Wants (to_cell Adds o) c → m c ≡ None → TrapsBy (Plain (given f o (λ x. given f v (λ z. adds_to f x z (m x)))))
add_traps f m None v c is none = absurd is
add_traps f m (Some x) None c is none = (_, refl, refl)
add_traps f m (Some x) (Some z) c is none = let gone : m x ≡ None = ap m is ∙ none in (adds_to f x z (m x), refl, rw gone)

store_wants : (o : Option Cell) (c : Cell) → Wants (to_cell Stores o) c → ⊥
store_wants None c is = is
store_wants (Some x) c is = is

instruction_traps : (prog : Program) (p : Path) (f : Frame) (m : Memory) (i : Instruction) (c : Cell) → Wants (item_access f (Some (Does i))) c → m c ≡ None → TrapsBy (instruction_action prog p f m i)
instruction_traps prog p f m (instruction.Load d a) c is none = load_traps f d m (cell_at f a) c is none
instruction_traps prog p f m (instruction.Store a b) c is none = absurd (store_wants (cell_at f b) c is)
instruction_traps prog p f m (instruction.AtomicAdd a b) c is none = add_traps f m (cell_at f a) (word_at f.registers b) c is none
instruction_traps prog p f m (instruction.Binary d op w a b) c is none = absurd is
instruction_traps prog p f m (instruction.Compare d by w a b) c is none = absurd is
instruction_traps prog p f m (instruction.Convert d by a) c is none = absurd is
instruction_traps prog p f m (instruction.Alloca d a) c is none = absurd is
instruction_traps prog p f m (instruction.ElementPointer d name i) c is none = absurd is
instruction_traps prog p f m (instruction.StoreZeros cells name) c is none = absurd is
instruction_traps prog p f m (instruction.Call d g arguments) c is none = absurd is
instruction_traps prog p f m (instruction.StartRegion d) c is none = absurd is

pub undefined_traps : (prog : Program) (p : Path) (f : Frame) (m : Memory) (o : Option Item) (c : Cell) → Wants (item_access f o) c → m c ≡ None → TrapsBy (item_action prog p f m o)
undefined_traps prog p f m None c is none = absurd is
undefined_traps prog p f m (Some (Does i)) c is none = instruction_traps prog p f m i c is none
undefined_traps prog p f m (Some (Ends t)) c is none = absurd is

pub add_traps_at : (prog : Program) (p : Path) (f : Frame) (m : Memory) (o : Option Item) (c : Cell) → item_access f o ≡ Adds c → m c ≡ None → TrapsBy (item_action prog p f m o)
add_traps_at prog p f m o c is none = undefined_traps prog p f m o c (subst (λ a. Wants a c) (sym is) refl) none
