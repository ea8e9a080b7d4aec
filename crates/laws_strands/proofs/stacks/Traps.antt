-- A load of a cell without a value traps, and so does an add to one.
use Rattle.std.proofs.Common.{◌≡◌, ℕ, Option, Some, None, Bool, true, false, cond, ◌&&◌, eqb, refl, sym, ap, ◌∙◌, subst, is_some, ℤ}
use Rattle.semantics.specs.Paths.{Path, same_path}
use Rattle.semantics.specs.Cells.{Object, Cell, Memory, same_cell}
use Rattle.semantics.specs.Arithmetic.{Undefined, Unmatched}
use Rattle.semantics.specs.Frames.{Registers, Role, Child, Body, Frame, Item, Does, Ends, item_at, word_at, object_at, region_of}
use Rattle.semantics.specs.Effect.{Effect, Action, Plain, Detach, Reattach, Sync, Call, Return, given, stores_zeros, traps, if_own, syncs, calls, returns, returns_value, reattaches, registers_along, argument_values, item_action, action_of}
use Rattle.semantics.proofs.SameCells.{same_cell_is}
use Rattle.semantics.proofs.Actions.{same_effect}
use Rattle.laws_strands.specs.FrameStrands.{Access, Nowhere, Loads, Stores, Adds, item_access, is_border}
use Rattle.laws_strands.proofs.Items.{Touches, touches, Wants, undefined_traps, add_traps_at}
use Rattle.linear.specs.declared.form.RegisterId.{RegisterId}
use Rattle.program.specs.declared.function.Program.{Program}
use Rattle.program.specs.declared.instruction.Instruction.TheVariants as instruction
use Rattle.program.specs.declared.instruction.Terminator.TheVariants as terminator

-- ---- no border loads or adds

abbrev UsesNothing : Action → Type 0
UsesNothing (Plain e) = (x : Cell) → (e.reads x ≡ false) × (e.adds x ≡ None)
UsesNothing (Detach r b c) = Unit {0}
UsesNothing (Reattach r) = Unit {0}
UsesNothing (Sync r b rs) = Unit {0}
UsesNothing (Call d g vs) = Unit {0}
UsesNothing (Return v) = Unit {0}

call_uses : (f : Frame) (d : Option RegisterId) (g : ℕ) (o : Option _) → UsesNothing (calls f d g o)
call_uses f d g None = λ x. (refl, refl)
call_uses f d g (Some vs) = tt

zeros_use : (f : Frame) (cells : ℕ) (o : Option Object) → UsesNothing (Plain (given f o (stores_zeros f cells)))
zeros_use f cells None = λ x. (refl, refl)
zeros_use f cells (Some o) = λ x. (refl, refl)

chosen_uses : (f : Frame) (a : Action) → UsesNothing a → (b : Bool) → UsesNothing (cond b a (traps Unmatched f))
chosen_uses f a h true = h
chosen_uses f a h false = λ x. (refl, refl)

within_uses : (p : Path) (f : Frame) (a : Action) → UsesNothing a → (o : Option Path) → UsesNothing (if_own p f a o)
within_uses p f a h None = λ x. (refl, refl)
within_uses p f a h (Some owner) = chosen_uses f a h (same_path owner p)

sync_uses : (f : Frame) (r b : ℕ) (o : Option Registers) → UsesNothing (syncs f r b o)
sync_uses f r b None = λ x. (refl, refl)
sync_uses f r b (Some rs) = tt

return_uses : (f : Frame) (role : Role) (v : Option ℤ) → UsesNothing (returns f role v)
return_uses f Body v = tt
return_uses f (Child r c) v = λ x. (refl, refl)

value_uses : (f : Frame) (o : Option ℤ) → UsesNothing (returns_value f o)
value_uses f None = λ x. (refl, refl)
value_uses f (Some z) = return_uses f f.role (Some z)

reattach_uses : (f : Frame) (region continuation : ℕ) (role : Role) → UsesNothing (reattaches f region continuation role)
reattach_uses f region continuation Body = λ x. (refl, refl)
reattach_uses f region continuation (Child r c) = chosen_uses f (Reattach region) tt (eqb r region && eqb c continuation)

border_uses : (prog : Program) (p : Path) (f : Frame) (m : Memory) (o : Option Item) → is_border o ≡ true → UsesNothing (item_action prog p f m o)
border_uses prog p f m None h = absurd (cc)
border_uses prog p f m (Some (Does (instruction.Binary d op w a b))) h = absurd (cc)
border_uses prog p f m (Some (Does (instruction.Compare d by w a b))) h = absurd (cc)
border_uses prog p f m (Some (Does (instruction.Convert d by a))) h = absurd (cc)
border_uses prog p f m (Some (Does (instruction.Alloca d a))) h = absurd (cc)
border_uses prog p f m (Some (Does (instruction.ElementPointer d name i))) h = absurd (cc)
border_uses prog p f m (Some (Does (instruction.Load d a))) h = absurd (cc)
border_uses prog p f m (Some (Does (instruction.Store a b))) h = absurd (cc)
border_uses prog p f m (Some (Does (instruction.StoreZeros cells name))) h = zeros_use f cells (object_at f name)
border_uses prog p f m (Some (Does (instruction.AtomicAdd a b))) h = absurd (cc)
border_uses prog p f m (Some (Does (instruction.Call d g arguments))) h = call_uses f d g.0 (argument_values f arguments)
border_uses prog p f m (Some (Does (instruction.StartRegion d))) h = absurd (cc)
border_uses prog p f m (Some (Ends (terminator.Jump target))) h = absurd (cc)
border_uses prog p f m (Some (Ends (terminator.Branch test x y))) h = absurd (cc)
border_uses prog p f m (Some (Ends (terminator.Switch w a default cases))) h = absurd (cc)
border_uses prog p f m (Some (Ends (terminator.Return None))) h = return_uses f f.role None
border_uses prog p f m (Some (Ends (terminator.Return (Some a)))) h = value_uses f (word_at f.registers a)
border_uses prog p f m (Some (Ends (terminator.Detach region body continuation))) h = within_uses p f _ tt (region_of (f.registers region.0))
border_uses prog p f m (Some (Ends (terminator.Reattach region continuation))) h = reattach_uses f region.0 continuation.0 f.role
border_uses prog p f m (Some (Ends (terminator.Sync region target))) h =
    within_uses p f _ (sync_uses f region.0 target.0 (registers_along prog f target.0)) (region_of (f.registers region.0))

-- ---- what adds is an add, and what reads is a load

module _ (e : Effect) (x : Cell) where
  added_there : (a : Access) → Touches a e → is_some (e.adds x) ≡ true → a ≡ Adds x
  added_there Nowhere t h = absurd (let n = t.adds x in cc)
  added_there (Loads c) (_, _, a) h = absurd (let n = a x in cc)
  added_there (Stores c) (z, _, _, a) h = absurd (let n = a x in cc)
  added_there (Adds c) (z, _, _, a) h = from (same_cell c x) refl (ap (λ o. is_some o) (sym (a x)) ∙ h)
    where
      from : (b : Bool) → same_cell c x ≡ b → is_some (cond b (Some z) None) ≡ true → Adds c ≡ Adds x
      from true is k = ap (λ y. Adds y) (same_cell_is c x is)
      from false is k = absurd (cc)

  read_there : (a : Access) → Touches a e → e.reads x ≡ true → a ≡ Loads x
  read_there Nowhere t h = absurd (let n = t.reads x in cc)
  read_there (Loads c) (r, _, _) h = ap (λ y. Loads y) (same_cell_is c x (sym (r x) ∙ h))
  read_there (Stores c) (z, r, _, _) h = absurd (let n = r x in cc)
  read_there (Adds c) (z, r, _, _) h = absurd (let n = r x in cc)

  module _ (prog : Program) (p : Path) (f : Frame) (m : Memory) (o : Option Item) (at : item_action prog p f m o ≡ Plain e) where
    adds_access : e.trap ≡ None → is_some (e.adds x) ≡ true → item_access f o ≡ Adds x
    adds_access fine h = from (is_border o) refl
      where
        from : (b : Bool) → is_border o ≡ b → item_access f o ≡ Adds x
        from false is = added_there (item_access f o) (touches prog p f m o e is at fine) h
        from true is = absurd (let n = (subst UsesNothing at (border_uses prog p f m o is) x).1 in cc)

    reads_access : e.trap ≡ None → e.reads x ≡ true → item_access f o ≡ Loads x
    reads_access fine h = from (is_border o) refl
      where
        from : (b : Bool) → is_border o ≡ b → item_access f o ≡ Loads x
        from false is = read_there (item_access f o) (touches prog p f m o e is at fine) h
        from true is = absurd (let n = (subst UsesNothing at (border_uses prog p f m o is) x).0 in cc)

module _ (prog : Program) (p : Path) (f : Frame) (mine theirs : Memory) (e : Effect) (x : Cell) (at : action_of prog p f mine ≡ Plain e) (fine : e.trap ≡ None) (none : theirs x ≡ None) where
  abbrev TrapsThere : Type 0
  TrapsThere = (g : Effect) × (action_of prog p f theirs ≡ Plain g) × (g.trap ≡ Some Undefined)

  abbrev here : Option Item
  here = item_at prog f.function f.block f.index

  -- an effect that adds to a cell traps where the cell has no value
  pub add_traps : is_some (e.adds x) ≡ true → TrapsThere
  add_traps h = add_traps_at prog p f theirs here x (adds_access e x prog p f mine here at fine h) none

  pub load_traps : e.reads x ≡ true → TrapsThere
  load_traps h = undefined_traps prog p f theirs here x (subst (λ a. Wants a x) (sym (reads_access e x prog p f mine here at fine h)) refl) none

-- where the effect does not trap, what it adds to has a value
pub add_there : (prog : Program) (p : Path) (f : Frame) (m : Memory) (e : Effect) (x : Cell) → action_of prog p f m ≡ Plain e → e.trap ≡ None → is_some (e.adds x) ≡ true → is_some (m x) ≡ true
add_there prog p f m e x at fine h = from (m x) refl
  where
    from : (o : Option ℤ) → m x ≡ o → is_some o ≡ true
    from (Some y) has = refl
    from None has =
        let (g, act, trap) = add_traps prog p f m m e x at fine has h in
        let same : e ≡ g = same_effect e g (sym at ∙ act) in
        let fine2 : g.trap ≡ None = subst (λ (y : Effect). y.trap ≡ None) same fine in
        absurd (cc)
