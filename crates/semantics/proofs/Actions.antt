-- What is true of the actions of all kinds of instruction.
use Rattle.std.proofs.Common.{◌≡◌, ℕ, ◌∷◌, [], Option, Some, None, Bool, true, false, cond, ◌&&◌, refl, ap, subst, eqb, eq-eqb, eqb-true, is_none, is_some, ℤ}
use Rattle.std.proofs.lemmas.Bool.{and_parts}
use Rattle.semantics.specs.Paths.{Path, same_path}
use Rattle.semantics.specs.Cells.{Object, Shared, Local, Cell, same_object, same_cell, Memory}
use Rattle.semantics.specs.Arithmetic.{Unmatched}
use Rattle.semantics.specs.Frames.{Registers, Role, Child, Body, Frame, Item, Does, Ends, item_at, word_at, cell_at, region_of}
use Rattle.semantics.specs.Effect.{traps, Action, Plain, Detach, Reattach, Sync, Call, Return, given, loads, adds_to, no_cells, no_adds, if_own, syncs, calls, returns, returns_value, reattaches, registers_along, argument_values, instruction_action, terminator_action, item_action, action_of, Effect}
use Rattle.program.specs.linear.declared.form.RegisterId.{RegisterId}
use Rattle.program.specs.declared.function.Program.{Program}
use Rattle.program.specs.declared.instruction.Instruction.{Instruction}
use Rattle.program.specs.declared.instruction.Instruction.TheVariants as instruction
use Rattle.program.specs.declared.instruction.Terminator.{Terminator}
use Rattle.program.specs.declared.instruction.Terminator.TheVariants as terminator

-- ---- which frames end how

-- an action that is no end of its frame, for what follows from an end
abbrev FromEnd : Frame → Action → Type 0
FromEnd f (Return v) = f.role ≡ Body
FromEnd f (Reattach r) = (c : ℕ) × (f.role ≡ Child r c)
FromEnd f (Plain e) = Unit {0}
FromEnd f (Detach r b c) = Unit {0}
FromEnd f (Sync r b rs) = Unit {0}
FromEnd f (Call d g vs) = Unit {0}

calls_end : (f : Frame) (d : Option RegisterId) (g : ℕ) (o : Option _) → FromEnd f (calls f d g o)
calls_end f d g None = tt
calls_end f d g (Some vs) = tt

chosen_end : (f : Frame) (a other : Action) → FromEnd f a → FromEnd f other → (b : Bool) → FromEnd f (cond b a other)
chosen_end f a other h k true = h
chosen_end f a other h k false = k

within_end : (p : Path) (f : Frame) (a : Action) → FromEnd f a → (o : Option Path) → FromEnd f (if_own p f a o)
within_end p f a h None = tt
within_end p f a h (Some owner) = chosen_end f a (traps Unmatched f) h tt (same_path owner p)

syncs_end : (f : Frame) (r b : ℕ) (o : Option Registers) → FromEnd f (syncs f r b o)
syncs_end f r b None = tt
syncs_end f r b (Some rs) = tt

returns_end : (f : Frame) (v : Option ℤ) (role : Role) → f.role ≡ role → FromEnd f (returns f role v)
returns_end f v Body e = e
returns_end f v (Child r c) e = tt

returns_value_end : (f : Frame) (o : Option ℤ) → FromEnd f (returns_value f o)
returns_value_end f None = tt
returns_value_end f (Some z) = returns_end f (Some z) f.role refl

pub same_effect : (e g : Effect) → Plain e ≡ Plain g → e ≡ g
same_effect e g h = cc

matched_end : (f : Frame) (r c region continuation : ℕ) → f.role ≡ Child r c → (b : Bool) → eqb r region && eqb c continuation ≡ b → FromEnd f (cond b (Reattach region) (traps Unmatched f))
matched_end f r c region continuation role false e = tt
matched_end f r c region continuation role true e =
    let (same, rest) = and_parts (eqb r region) (eqb c continuation) e in
    (c, subst (λ n. f.role ≡ Child n c) (eqb-true r region same) role)

reattaches_end : (f : Frame) (region continuation : ℕ) (role : Role) → f.role ≡ role → FromEnd f (reattaches f region continuation role)
reattaches_end f region continuation Body e = tt
reattaches_end f region continuation (Child r c) e = matched_end f r c region continuation e (eqb r region && eqb c continuation) refl

instruction_end : (prog : Program) (p : Path) (f : Frame) (m : Memory) (i : Instruction) → FromEnd f (instruction_action prog p f m i)
instruction_end prog p f m (instruction.Binary d op w a b) = tt
instruction_end prog p f m (instruction.Compare d by w a b) = tt
instruction_end prog p f m (instruction.Convert d by a) = tt
instruction_end prog p f m (instruction.Alloca d a) = tt
instruction_end prog p f m (instruction.ElementPointer d name i) = tt
instruction_end prog p f m (instruction.Load d a) = tt
instruction_end prog p f m (instruction.Store a b) = tt
instruction_end prog p f m (instruction.StoreZeros cells name) = tt
instruction_end prog p f m (instruction.AtomicAdd a b) = tt
instruction_end prog p f m (instruction.Call d g arguments) = calls_end f d g.0 (argument_values f arguments)
instruction_end prog p f m (instruction.StartRegion d) = tt

terminator_end : (prog : Program) (p : Path) (f : Frame) (t : Terminator) → FromEnd f (terminator_action prog p f t)
terminator_end prog p f (terminator.Jump target) = tt
terminator_end prog p f (terminator.Branch test x y) = tt
terminator_end prog p f (terminator.Switch w a default cases) = tt
terminator_end prog p f (terminator.Return None) = returns_end f None f.role refl
terminator_end prog p f (terminator.Return (Some a)) = returns_value_end f (word_at f.registers a)
terminator_end prog p f (terminator.Detach region body continuation) = within_end p f _ tt (region_of (f.registers region.0))
terminator_end prog p f (terminator.Reattach region continuation) = reattaches_end f region.0 continuation.0 f.role refl
terminator_end prog p f (terminator.Sync region target) = within_end p f _ (syncs_end f region.0 target.0 (registers_along prog f target.0)) (region_of (f.registers region.0))

item_end : (prog : Program) (p : Path) (f : Frame) (m : Memory) (o : Option Item) → FromEnd f (item_action prog p f m o)
item_end prog p f m None = tt
item_end prog p f m (Some (Does i)) = instruction_end prog p f m i
item_end prog p f m (Some (Ends t)) = terminator_end prog p f t

-- a function's frame returns
pub return_is_body : (prog : Program) (p : Path) (f : Frame) (m : Memory) (v : Option ℤ) → action_of prog p f m ≡ Return v → f.role ≡ Body
return_is_body prog p f m v e = subst (FromEnd f) e (item_end prog p f m (item_at prog f.function f.block f.index))

-- a child of the region reattaches
pub reattach_is_child : (prog : Program) (p : Path) (f : Frame) (m : Memory) (r : ℕ) → action_of prog p f m ≡ Reattach r → (c : ℕ) × (f.role ≡ Child r c)
reattach_is_child prog p f m r e = subst (FromEnd f) e (item_end prog p f m (item_at prog f.function f.block f.index))

-- ---- an action depends on the cells that it reads, and on whether those have values that it adds to

abbrev pub reads_of : Action → Cell → Bool
reads_of (Plain e) = e.reads
reads_of (Detach r b c) = no_cells
reads_of (Reattach r) = no_cells
reads_of (Sync r b rs) = no_cells
reads_of (Call d g vs) = no_cells
reads_of (Return v) = no_cells

abbrev pub adds_of : Action → Cell → Option ℤ
adds_of (Plain e) = e.adds
adds_of (Detach r b c) = no_adds
adds_of (Reattach r) = no_adds
adds_of (Sync r b rs) = no_adds
adds_of (Call d g vs) = no_adds
adds_of (Return v) = no_adds

pub same_path_itself : (p : Path) → same_path p p ≡ true
same_path_itself [] = refl
same_path_itself (x ∷ xs) = rw (eq-eqb x x refl) (same_path_itself xs)

same_object_itself : (o : Object) → same_object o o ≡ true
same_object_itself (Shared g) = eq-eqb g g refl
same_object_itself (Local p n) = rw (same_path_itself p) (eq-eqb n n refl)

pub same_cell_itself : (c : Cell) → same_cell c c ≡ true
same_cell_itself c = rw (same_object_itself c.object) (eq-eqb c.index c.index refl)

reads_it : (f : Frame) (d : RegisterId) (c : Cell) (o : Option ℤ) → (loads f d c o).reads c ≡ true
reads_it f d c None = same_cell_itself c
reads_it f d c (Some z) = same_cell_itself c

load_kept : (f : Frame) (d : RegisterId) (m n : Memory) (o : Option Cell) → ((x : Cell) → (given f o (λ c. loads f d c (m c))).reads x ≡ true → n x ≡ m x) →
    given f o (λ c. loads f d c (n c)) ≡ given f o (λ c. loads f d c (m c))
load_kept f d m n None kept = refl
load_kept f d m n (Some c) kept = rw (kept c (reads_it f d c (m c)))

same_emptiness : (f : Frame) (c : Cell) (z : ℤ) (a b : Option ℤ) → is_none b ≡ is_none a → adds_to f c z b ≡ adds_to f c z a
same_emptiness f c z None None e = refl
same_emptiness f c z None (Some b) e = absurd (cc)
same_emptiness f c z (Some a) None e = absurd (cc)
same_emptiness f c z (Some a) (Some b) e = refl

adds_it : (f : Frame) (c : Cell) (z : ℤ) (o : Option ℤ) → is_some ((adds_to f c z o).adds c) ≡ true
adds_it f c z None = rw (same_cell_itself c)
adds_it f c z (Some old) = rw (same_cell_itself c)

add_kept : (f : Frame) (m n : Memory) (o : Option Cell) (a : Option ℤ) → ((x : Cell) → is_some ((given f o (λ c. given f a (λ z. adds_to f c z (m c)))).adds x) ≡ true → is_none (n x) ≡ is_none (m x)) →
    given f o (λ c. given f a (λ z. adds_to f c z (n c))) ≡ given f o (λ c. given f a (λ z. adds_to f c z (m c)))
add_kept f m n None a kept = refl
add_kept f m n (Some c) None kept = refl
add_kept f m n (Some c) (Some z) kept = same_emptiness f c z (m c) (n c) (kept c (adds_it f c z (m c)))

abbrev Alike : (m n : Memory) → Action → Type 0
Alike m n a = ((x : Cell) → reads_of a x ≡ true → n x ≡ m x) × ((x : Cell) → is_some (adds_of a x) ≡ true → is_none (n x) ≡ is_none (m x))

instruction_kept : (prog : Program) (p : Path) (f : Frame) (m n : Memory) (i : Instruction) → Alike m n (instruction_action prog p f m i) → instruction_action prog p f n i ≡ instruction_action prog p f m i
instruction_kept prog p f m n (instruction.Binary d op w a b) h = refl
instruction_kept prog p f m n (instruction.Compare d by w a b) h = refl
instruction_kept prog p f m n (instruction.Convert d by a) h = refl
instruction_kept prog p f m n (instruction.Alloca d a) h = refl
instruction_kept prog p f m n (instruction.ElementPointer d name i) h = refl
instruction_kept prog p f m n (instruction.Load d a) h = ap (λ e. Plain e) (load_kept f d m n (cell_at f a) h.0)
instruction_kept prog p f m n (instruction.Store a b) h = refl
instruction_kept prog p f m n (instruction.StoreZeros cells name) h = refl
instruction_kept prog p f m n (instruction.AtomicAdd a b) h = ap (λ e. Plain e) (add_kept f m n (cell_at f a) (word_at f.registers b) h.1)
instruction_kept prog p f m n (instruction.Call d g arguments) h = refl
instruction_kept prog p f m n (instruction.StartRegion d) h = refl

item_kept : (prog : Program) (p : Path) (f : Frame) (m n : Memory) (o : Option Item) → Alike m n (item_action prog p f m o) → item_action prog p f n o ≡ item_action prog p f m o
item_kept prog p f m n None h = refl
item_kept prog p f m n (Some (Does i)) h = instruction_kept prog p f m n i h
item_kept prog p f m n (Some (Ends t)) h = refl

pub action_kept : (prog : Program) (p : Path) (f : Frame) (m n : Memory) → ((x : Cell) → reads_of (action_of prog p f m) x ≡ true → n x ≡ m x) →
    ((x : Cell) → is_some (adds_of (action_of prog p f m) x) ≡ true → is_none (n x) ≡ is_none (m x)) → action_of prog p f n ≡ action_of prog p f m
action_kept prog p f m n reads adds = item_kept prog p f m n (item_at prog f.function f.block f.index) (reads, adds)
