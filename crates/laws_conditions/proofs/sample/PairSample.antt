-- The sample program meets the conditions on zones and regions, so they are not void.
use Rattle.std.proofs.Common.{◌≡◌, ◌≢◌, ℕ, suc, List, [], ◌∷◌, Option, Some, None, Bool, true, false, cond, ◌&&◌, eqb, eqb-true, ◌⊎◌, inl, inr, refl, sym, ap, ◌∙◌, subst, is_some, ℤ, ◌+ℤ◌}
use Rattle.std.proofs.lemmas.Bool.Decides.{eqb_tells}
use Rattle.std.proofs.lemmas.Bool.{and_parts}
use Rattle.semantics.specs.Paths.{Path}
use Rattle.semantics.specs.Cells.{Object, Shared, Local, Cell, same_object, same_cell, Memory}
use Rattle.semantics.specs.Arithmetic.{Undefined, Gives, wrapped}
use Rattle.semantics.specs.Frames.{Value, Word, Pointer, Region, Registers, Child, Body, Frame, OnCall, word_of}
use Rattle.semantics.specs.Effect.{Effect, Action, Plain, Detach, Reattach, Sync, Call, Return, sets, stops, given, answers, loads, stores, returns, returns_value, action_of}
use Rattle.semantics.specs.State.{went, detached, continued, synced}
use Rattle.semantics.proofs.Actions.{same_effect}
use Rattle.semantics.proofs.Diamond.{no_call_after}
use Rattle.laws_conditions.specs.theorem.Conditions.{Zone, Covers, Clear, touched, OwnedBelow, StaysInZone, PassesZonesOn, StaysOpen, ClosesRegions}
use Rattle.laws_conditions.specs.sample.Pair.{register, pair, cell_of_a}
use Rattle.laws_conditions.proofs.theorem.Feet.{covers_itself}
use Rattle.linear.specs.declared.form.RegisterId.{RegisterId}
use Rattle.syntax.specs.declared.operator.Width.TheVariants.{Bits64}

-- ---- zones

pub data Extent : Type 0 where
  All : Extent
  -- the child's cell
  First : Extent
  Nothing : Extent

abbrev pub zone : Extent → Zone
zone All = record { reads = λ x. Unit {0}; adds = λ x. Unit {0}; gives = λ v. Unit {0} }
zone First = record { reads = λ x. (x ≡ cell_of_a 0) ⊎ OwnedBelow (0 ∷ []) x.object; adds = λ x. (x ≡ cell_of_a 0) ⊎ OwnedBelow (0 ∷ []) x.object; gives = λ v. Unit {0} }
zone Nothing = record { reads = λ x. ⊥; adds = λ x. ⊥; gives = λ v. Unit {0} }

-- the child may run while the continuation's block does
abbrev pub opens : Path → Frame → ℕ → Bool
opens p f r = eqb f.block 2 && eqb r 1

abbrev pub pending : Path → Frame → ℕ → Extent
pending p f r = cond (eqb f.block 2 && eqb r 1) First Nothing

-- ---- what is known at each place

pub record At (n : ℤ) (f : Frame) (block index : ℕ) : Type 0 where
  pub function : f.function ≡ 0
  pub is_block : f.block ≡ block
  pub is_index : f.index ≡ index
  pub argument : f.registers 0 ≡ Some (Word n)
  pub calls_nobody : (k : ℕ) (d : Option RegisterId) → f.waits ≡ OnCall k d → ⊥

pub data Fits (n : ℤ) : Path → Frame → Extent → Type 0 where
  entry_start : (f : Frame) → At n f 0 0 → f.made ≡ 0 → f.role ≡ Body → Fits n [] f All
  entry_detach : (f : Frame) → At n f 0 1 → f.made ≡ 0 → f.role ≡ Body → f.registers 1 ≡ Some (Region []) → Fits n [] f All
  child_point : (f : Frame) → At n f 1 0 → f.role ≡ Child 1 2 → Fits n (0 ∷ []) f First
  child_store : (f : Frame) → At n f 1 1 → f.role ≡ Child 1 2 → f.registers 2 ≡ Some (Pointer (cell_of_a 0)) → Fits n (0 ∷ []) f First
  child_end : (f : Frame) → At n f 1 2 → f.role ≡ Child 1 2 → Fits n (0 ∷ []) f First
  next_point : (f : Frame) → At n f 2 0 → f.role ≡ Body → f.registers 1 ≡ Some (Region []) → Fits n [] f All
  next_store : (f : Frame) → At n f 2 1 → f.role ≡ Body → f.registers 1 ≡ Some (Region []) → f.registers 3 ≡ Some (Pointer (cell_of_a 1)) → Fits n [] f All
  next_sync : (f : Frame) → At n f 2 2 → f.role ≡ Body → f.registers 1 ≡ Some (Region []) → Fits n [] f All
  last_point : (f : Frame) → At n f 3 0 → f.role ≡ Body → Fits n [] f All
  last_load : (f : Frame) → At n f 3 1 → f.role ≡ Body → f.registers 4 ≡ Some (Pointer (cell_of_a 0)) → Fits n [] f All
  last_point_again : (f : Frame) → At n f 3 2 → f.role ≡ Body → Fits n [] f All
  last_load_again : (f : Frame) → At n f 3 3 → f.role ≡ Body → f.registers 6 ≡ Some (Pointer (cell_of_a 1)) → Fits n [] f All
  last_add : (f : Frame) → At n f 3 4 → f.role ≡ Body → Fits n [] f All
  last_return : (f : Frame) → At n f 3 5 → f.role ≡ Body → Fits n [] f All

-- what each place does
data Did (n : ℤ) (p : Path) (f : Frame) (z : Extent) : Action → Type 0 where
  goes : (e : Effect) → Covers (zone z) (touched e) → ((r : ℕ) → Clear (touched e) (zone (pending p f r))) → (e.trap ≡ None → Fits n p (went f e) z × (e.block ≡ f.block)) → Did n p f z (Plain e)
  forks : p ≡ [] → z ≡ All → f.block ≡ 0 → Fits n (f.made ∷ p) (detached f 1 1 2) First → Fits n p (continued f 2) z → Did n p f z (Detach 1 1 2)
  leaves : f.block ≡ 1 → Did n p f z (Reattach 1)
  joins : f.block ≡ 2 → (rs : Registers) → Fits n p (synced f 1 3 rs) z → Did n p f z (Sync 1 3 rs)
  returns_it : f.block ≡ 3 → (v : Option ℤ) → Did n p f z (Return v)

-- ---- zones of effects

in_all : (y : Zone) → Covers (zone All) y
in_all y = record { reads = λ x h. tt; adds = λ x h. tt }

off_nothing : (y : Zone) → Clear y (zone Nothing)
off_nothing y = record { first = λ x h k. k; second = λ x h k. k }

-- outside the continuation's block nothing is pending
none_pending : (p : Path) (f : Frame) (b r : ℕ) → f.block ≡ b → eqb b 2 ≡ false → pending p f r ≡ Nothing
none_pending p f b r is off = rw (is, off)

off_pending : (p : Path) (f : Frame) (b : ℕ) (y : Zone) → f.block ≡ b → eqb b 2 ≡ false → (r : ℕ) → Clear y (zone (pending p f r))
off_pending p f b y is off r = subst (λ z. Clear y (zone z)) (sym (none_pending p f b r is off)) (off_nothing y)

untouched : (f : Frame) (d : RegisterId) (v : Value) (A : Type 0) → (false ≡ true) ⊎ (false ≡ true) → A
untouched f d v A h = elim h [ inl e ↦ absurd (let a : false ≡ true = e in cc) | inr e ↦ absurd (let a : false ≡ true = e in cc) ]

sets_in : (z : Zone) (f : Frame) (d : RegisterId) (v : Value) → Covers z (touched (sets f d v))
sets_in z f d v = record { reads = λ x h. untouched f d v _ h; adds = λ x h. untouched f d v _ h }

sets_off : (z : Zone) (f : Frame) (d : RegisterId) (v : Value) → Clear (touched (sets f d v)) z
sets_off z f d v = record { first = λ x h k. untouched f d v _ h; second = λ x h k. untouched f d v _ h }

cell_is : (k : ℕ) (o : Object) (i : ℕ) → same_object (Shared 0) o && eqb k i ≡ true → ◌≡◌ {A = Cell} (record { object = o; index = i }) (cell_of_a k)
cell_is k (Shared g) i e =
    let (a, b) = and_parts (eqb 0 g) (eqb k i) e in
    λ j. record { object = Shared (sym (eqb-true 0 g a) j); index = sym (eqb-true k i b) j }
cell_is k (Local p n) i e = absurd (cc)

stored_at : (f : Frame) (k : ℕ) (z : ℤ) (x : Cell) → is_some ((stores f (cell_of_a k) z).writes x) ≡ true → x ≡ cell_of_a k
stored_at f k z x e = from (same_cell (cell_of_a k) x) refl e
  where
    from : (b : Bool) → same_cell (cell_of_a k) x ≡ b → is_some (cond {A = Option (Option ℤ)} b (Some (Some z)) None) ≡ true → x ≡ cell_of_a k
    from true h e2 = cell_is k x.object x.index h
    from false h e2 = absurd (cc)

store_touches : (f : Frame) (k : ℕ) (z : ℤ) (x : Cell) → (false ≡ true) ⊎ (is_some ((stores f (cell_of_a k) z).writes x) ≡ true) → x ≡ cell_of_a k
store_touches f k z x h = elim h [ inl e ↦ absurd (let a : false ≡ true = e in cc) | inr e ↦ stored_at f k z x e ]

store_adds : (f : Frame) (k : ℕ) (z : ℤ) (x : Cell) → (is_some ((stores f (cell_of_a k) z).writes x) ≡ true) ⊎ (false ≡ true) → x ≡ cell_of_a k
store_adds f k z x h = elim h [ inl e ↦ stored_at f k z x e | inr e ↦ absurd (let a : false ≡ true = e in cc) ]

store_in_first : (f : Frame) (z : ℤ) → Covers (zone First) (touched (stores f (cell_of_a 0) z))
store_in_first f z = record { reads = λ x h. inl (store_touches f 0 z x h); adds = λ x h. inl (store_adds f 0 z x h) }

not_first : (x : Cell) → x ≡ cell_of_a 1 → (x ≡ cell_of_a 0) ⊎ OwnedBelow (0 ∷ []) x.object → ⊥
not_first x e h = elim h [ inl k ↦ (let i : ◌≡◌ {A = ℕ} 1 0 = ap (λ (c : Cell). c.index) (sym e ∙ k) in cc) | inr k ↦ subst (λ (c : Cell). OwnedBelow (0 ∷ []) c.object) e k ]

store_off : (f : Frame) (z : ℤ) (b : Bool) → Clear (touched (stores f (cell_of_a 1) z)) (zone (cond b First Nothing))
store_off f z true = record { first = λ x h k. not_first x (store_touches f 1 z x h) k; second = λ x h k. not_first x (store_adds f 1 z x h) k }
store_off f z false = off_nothing _

store_off_pending : (p : Path) (f : Frame) (z : ℤ) (r : ℕ) → f.block ≡ 2 → Clear (touched (stores f (cell_of_a 1) z)) (zone (pending p f r))
store_off_pending p f z r is = subst (λ b. Clear (touched (stores f (cell_of_a 1) z)) (zone (cond (eqb b 2 && eqb r 1) First Nothing))) (sym is) (store_off f z (eqb r 1))

-- ---- places

pub next_at : (n : ℤ) (f : Frame) (b i : ℕ) (e : Effect) → At n f b i → e.block ≡ f.block → e.index ≡ suc f.index → e.registers 0 ≡ f.registers 0 → At n (went f e) b (suc i)
next_at n f b i e h block index first = record { function = h.function; is_block = block ∙ h.is_block; is_index = index ∙ ap (λ x. suc x) h.is_index; argument = first ∙ h.argument; calls_nobody = λ k d w. no_call_after e.trap k d w }

-- a load, an addition and a return, with what the registers and cells hold
loaded : (n : ℤ) (f : Frame) (d : ℕ) (c : Cell) (b i : ℕ) → At n f b i → eqb b 2 ≡ false → ((v : Value) → Fits n [] (went f (sets f (register d) v)) All) → (o : Option ℤ) → Did n [] f All (Plain (loads f (register d) c o))
loaded n f d c b i h off next None =
    let ef : Effect = loads f (register d) c None in
    goes ef (in_all (touched ef)) (off_pending [] f b (touched ef) h.is_block off) (λ e. absurd (let t : Some Undefined ≡ None = e in cc))
loaded n f d c b i h off next (Some z) =
    let ef : Effect = loads f (register d) c (Some z) in
    goes ef (in_all (touched ef)) (off_pending [] f b (touched ef) h.is_block off) (λ e. (next (Word z), refl))

undefined : (n : ℤ) (f : Frame) (b i : ℕ) → At n f b i → eqb b 2 ≡ false → Did n [] f All (Plain (stops Undefined f))
undefined n f b i h off =
    let ef : Effect = stops Undefined f in
    goes ef (in_all (touched ef)) (off_pending [] f b (touched ef) h.is_block off) (λ e. absurd (let t : Some Undefined ≡ None = e in cc))

added_up : (n : ℤ) (f : Frame) → At n f 3 4 → f.role ≡ Body → (a b : Option ℤ) → Did n [] f All (Plain (given f a (λ x. given f b (λ y. answers f (register 8) (Gives (wrapped Bits64 (x +ℤ y)))))))
added_up n f h role None b = undefined n f 3 4 h refl
added_up n f h role (Some x) None = undefined n f 3 4 h refl
added_up n f h role (Some x) (Some y) =
    let ef : Effect = sets f (register 8) (Word (wrapped Bits64 (x +ℤ y))) in
    goes ef (in_all (touched ef)) (off_pending [] f 3 (touched ef) h.is_block refl) (λ e. (last_return (went f ef) (next_at n f 3 4 ef h refl refl refl) role, refl))

returned : (n : ℤ) (f : Frame) → At n f 3 5 → f.role ≡ Body → (o : Option ℤ) → Did n [] f All (returns_value f o)
returned n f h role None = undefined n f 3 5 h refl
returned n f h role (Some z) = subst (λ x. Did n [] f All (returns f x (Some z))) (sym role) (returns_it h.is_block (Some z))

-- a plain instruction of the root outside the continuation's block
set_by_root : (n : ℤ) (f : Frame) (b i d : ℕ) (v : Value) → At n f b i → eqb b 2 ≡ false → Fits n [] (went f (sets f (register d) v)) All → Did n [] f All (Plain (sets f (register d) v))
set_by_root n f b i d v h off next = let ef : Effect = sets f (register d) v in goes ef (in_all (touched ef)) (off_pending [] f b (touched ef) h.is_block off) (λ e. (next, refl))

did : (n : ℤ) (p : Path) (f : Frame) (z : Extent) (m : Memory) → Fits n p f z → Did n p f z (action_of pair p f m)
did n p f z m (entry_start g h made role) =
    let ef : Effect = sets f (register 1) (Region []) in
    let act : action_of pair [] f m ≡ Plain ef = rw (h.function, h.is_block, h.is_index) in
    subst (λ a. Did n [] f All a) (sym act) (set_by_root n f 0 0 1 (Region []) h refl (entry_detach (went f ef) (next_at n f 0 0 ef h refl refl refl) made role refl))
did n p f z m (entry_detach g h made role region) =
    let act : action_of pair [] f m ≡ Detach 1 1 2 = rw (h.function, h.is_block, h.is_index, region) in
    let child : Fits n (0 ∷ []) (detached f 1 1 2) First = child_point (detached f 1 1 2) (record { function = h.function; is_block = refl; is_index = refl; argument = h.argument; calls_nobody = λ k d w. absurd (cc) }) refl in
    let next : Fits n [] (continued f 2) All = next_point (continued f 2) (record { function = h.function; is_block = refl; is_index = refl; argument = h.argument; calls_nobody = λ k d w. absurd (cc) }) role region in
    subst (λ a. Did n [] f All a) (sym act) (forks refl refl h.is_block (subst (λ k. Fits n (k ∷ []) (detached f 1 1 2) First) (sym made) child) next)
did n p f z m (child_point g h role) =
    let ef : Effect = sets f (register 2) (Pointer (cell_of_a 0)) in
    let act : action_of pair (0 ∷ []) f m ≡ Plain ef = rw (h.function, h.is_block, h.is_index) in
    let next : Fits n (0 ∷ []) (went f ef) First = child_store (went f ef) (next_at n f 1 0 ef h refl refl refl) role refl in
    subst (λ a. Did n (0 ∷ []) f First a) (sym act) (goes ef (sets_in (zone First) f (register 2) (Pointer (cell_of_a 0))) (off_pending (0 ∷ []) f 1 (touched ef) h.is_block refl) (λ e. (next, refl)))
did n p f z m (child_store g h role at) =
    let ef : Effect = stores f (cell_of_a 0) n in
    let act : action_of pair (0 ∷ []) f m ≡ Plain ef = rw (h.function, h.is_block, h.is_index, h.argument, at) in
    let next : Fits n (0 ∷ []) (went f ef) First = child_end (went f ef) (next_at n f 1 1 ef h refl refl refl) role in
    subst (λ a. Did n (0 ∷ []) f First a) (sym act) (goes ef (store_in_first f n) (off_pending (0 ∷ []) f 1 (touched ef) h.is_block refl) (λ e. (next, refl)))
did n p f z m (child_end g h role) =
    let act : action_of pair (0 ∷ []) f m ≡ Reattach 1 = rw (h.function, h.is_block, h.is_index, role) in
    subst (λ a. Did n (0 ∷ []) f First a) (sym act) (leaves h.is_block)
did n p f z m (next_point g h role region) =
    let ef : Effect = sets f (register 3) (Pointer (cell_of_a 1)) in
    let act : action_of pair [] f m ≡ Plain ef = rw (h.function, h.is_block, h.is_index) in
    let next : Fits n [] (went f ef) All = next_store (went f ef) (next_at n f 2 0 ef h refl refl refl) role region refl in
    subst (λ a. Did n [] f All a) (sym act) (goes ef (in_all (touched ef)) (λ r. sets_off (zone (pending [] f r)) f (register 3) (Pointer (cell_of_a 1))) (λ e. (next, refl)))
did n p f z m (next_store g h role region at) =
    let ef : Effect = stores f (cell_of_a 1) n in
    let act : action_of pair [] f m ≡ Plain ef = rw (h.function, h.is_block, h.is_index, h.argument, at) in
    let next : Fits n [] (went f ef) All = next_sync (went f ef) (next_at n f 2 1 ef h refl refl refl) role region in
    subst (λ a. Did n [] f All a) (sym act) (goes ef (in_all (touched ef)) (λ r. store_off_pending [] f n r h.is_block) (λ e. (next, refl)))
did n p f z m (next_sync g h role region) =
    let act : action_of pair [] f m ≡ Sync 1 3 f.registers = rw (h.function, h.is_block, h.is_index, region) in
    let next : Fits n [] (synced f 1 3 f.registers) All = last_point (synced f 1 3 f.registers) (record { function = h.function; is_block = refl; is_index = refl; argument = h.argument; calls_nobody = λ k d w. absurd (cc) }) role in
    subst (λ a. Did n [] f All a) (sym act) (joins h.is_block f.registers next)
did n p f z m (last_point g h role) =
    let ef : Effect = sets f (register 4) (Pointer (cell_of_a 0)) in
    let act : action_of pair [] f m ≡ Plain ef = rw (h.function, h.is_block, h.is_index) in
    subst (λ a. Did n [] f All a) (sym act) (set_by_root n f 3 0 4 (Pointer (cell_of_a 0)) h refl (last_load (went f ef) (next_at n f 3 0 ef h refl refl refl) role refl))
did n p f z m (last_load g h role at) =
    let act : action_of pair [] f m ≡ Plain (loads f (register 5) (cell_of_a 0) (m (cell_of_a 0))) = rw (h.function, h.is_block, h.is_index, at) in
    subst (λ a. Did n [] f All a) (sym act)
    (loaded n f 5 (cell_of_a 0) 3 1 h refl (λ v. last_point_again (went f (sets f (register 5) v)) (next_at n f 3 1 (sets f (register 5) v) h refl refl refl) role) (m (cell_of_a 0)))
did n p f z m (last_point_again g h role) =
    let ef : Effect = sets f (register 6) (Pointer (cell_of_a 1)) in
    let act : action_of pair [] f m ≡ Plain ef = rw (h.function, h.is_block, h.is_index) in
    subst (λ a. Did n [] f All a) (sym act) (set_by_root n f 3 2 6 (Pointer (cell_of_a 1)) h refl (last_load_again (went f ef) (next_at n f 3 2 ef h refl refl refl) role refl))
did n p f z m (last_load_again g h role at) =
    let act : action_of pair [] f m ≡ Plain (loads f (register 7) (cell_of_a 1) (m (cell_of_a 1))) = rw (h.function, h.is_block, h.is_index, at) in
    subst (λ a. Did n [] f All a) (sym act)
    (loaded n f 7 (cell_of_a 1) 3 3 h refl (λ v. last_add (went f (sets f (register 7) v)) (next_at n f 3 3 (sets f (register 7) v) h refl refl refl) role) (m (cell_of_a 1)))
did n p f z m (last_add g h role) =
    let act : action_of pair [] f m ≡ Plain (given f (word_of (f.registers 5)) (λ x. given f (word_of (f.registers 7)) (λ y. answers f (register 8) (Gives (wrapped Bits64 (x +ℤ y)))))) = rw (h.function, h.is_block, h.is_index) in
    subst (λ a. Did n [] f All a) (sym act) (added_up n f h role (word_of (f.registers 5)) (word_of (f.registers 7)))
did n p f z m (last_return g h role) =
    let act : action_of pair [] f m ≡ returns_value f (word_of (f.registers 8)) = rw (h.function, h.is_block, h.is_index) in
    subst (λ a. Did n [] f All a) (sym act) (returned n f h role (word_of (f.registers 8)))

-- ---- the conditions

module _ (n : ℤ) where
  pub pair_stays : StaysInZone Extent zone pair (Fits n) pending
  pair_stays = record { keeps = λ p f z m e fit go at. from p f z m e at (action_of pair p f m) refl (did n p f z m fit); owns = owns }
    where
      from : (p : Path) (f : Frame) (z : Extent) (m : Memory) (e : Effect) → action_of pair p f m ≡ Plain e → (a : Action) → action_of pair p f m ≡ a → Did n p f z a → Covers (zone z) (touched e) × ((r : ℕ) → Clear (touched e) (zone (pending p f r)))
      from p f z m e at a is (goes x covers clear on) =
          let same : x ≡ e = same_effect x e (sym is ∙ at) in
          subst (λ (y : Effect). Covers (zone z) (touched y) × ((r : ℕ) → Clear (touched y) (zone (pending p f r)))) same (covers, clear)
      from p f z m e at a is (forks root whole block child next) = absurd (cc)
      from p f z m e at a is (leaves block) = absurd (cc)
      from p f z m e at a is (joins block rs next) = absurd (cc)
      from p f z m e at a is (returns_it block v) = absurd (cc)

      all : (c : Cell) → (zone All).reads c × (zone All).adds c
      all c = (tt, tt)

      owns : (p : Path) (f : Frame) (z : Extent) (c : Cell) → Fits n p f z → OwnedBelow p c.object → (zone z).reads c × (zone z).adds c
      owns p f z c (entry_start g h made role) own = all c
      owns p f z c (entry_detach g h made role region) own = all c
      owns p f z c (child_point g h role) own = (inr own, inr own)
      owns p f z c (child_store g h role at) own = (inr own, inr own)
      owns p f z c (child_end g h role) own = (inr own, inr own)
      owns p f z c (next_point g h role region) own = all c
      owns p f z c (next_store g h role region at) own = all c
      owns p f z c (next_sync g h role region) own = all c
      owns p f z c (last_point g h role) own = all c
      owns p f z c (last_load g h role at) own = all c
      owns p f z c (last_point_again g h role) own = all c
      owns p f z c (last_load_again g h role at) own = all c
      owns p f z c (last_add g h role) own = all c
      owns p f z c (last_return g h role) own = all c

  -- in one block the same is pending
  same_pending : (p : Path) (f g : Frame) (r : ℕ) → g.block ≡ f.block → Covers (zone (pending p g r)) (zone (pending p f r))
  same_pending p f g r e = subst (λ b. Covers (zone (cond (eqb b 2 && eqb r 1) First Nothing)) (zone (pending p f r))) (sym e) (covers_itself (zone (pending p f r)))

  covers_nothing : (z : Zone) → Covers z (zone Nothing)
  covers_nothing z = record { reads = λ x h. absurd h; adds = λ x h. absurd h }

  covers_off : (z : Zone) (p : Path) (f : Frame) (b r : ℕ) → f.block ≡ b → eqb b 2 ≡ false → Covers z (zone (pending p f r))
  covers_off z p f b r is off = subst (λ x. Covers z (zone x)) (sym (none_pending p f b r is off)) (covers_nothing z)

  -- what the synced region leaves
  other_region : (z : Zone) (p : Path) (f : Frame) (r : ℕ) → r ≢ 1 → f.block ≡ 2 → Covers z (zone (pending p f r))
  other_region z p f r differ is = subst (λ x. Covers z (zone x)) (sym none) (covers_nothing z)
    where
      none : pending p f r ≡ Nothing
      none = elim (eqb_tells r 1) [ inl h ↦ absurd (differ h.1) | inr h ↦ rw (is, h.0) ]

  abbrev Forked : Path → Frame → Extent → ℕ → ℕ → ℕ → Type 0
  Forked p f z r b k =
      (y : Extent) × Covers (zone z) (zone y) × ((q : ℕ) → Clear (zone y) (zone (pending p f q))) × Fits n (f.made ∷ p) (detached f r b k) y × Fits n p (continued f k) z ×
      ((q : ℕ) → Covers (zone (pending p (continued f k) q)) (zone (pending p f q))) × Covers (zone (pending p (continued f k) r)) (zone y)

  abbrev Joined : Path → Frame → Extent → ℕ → ℕ → Registers → Type 0
  Joined p f z r b rs = Fits n p (synced f r b rs) z × ((q : ℕ) → q ≢ r → Covers (zone (pending p (synced f r b rs) q)) (zone (pending p f q)))

  pub pair_passes : PassesZonesOn Extent zone pair (Fits n) pending (λ f z. ⊥)
  pair_passes = record {
    plain_ok = λ p f z m e fit go at fine. plain p f z m e at fine (action_of pair p f m) refl (did n p f z m fit);
    detach_ok = λ p f z m r b k fit go at. detach p f z m r b k at (action_of pair p f m) refl (did n p f z m fit);
    sync_ok = λ p f z m r b rs fit go at. sync p f z m r b rs at (action_of pair p f m) refl (did n p f z m fit);
    call_ok = λ p f z m d g vs fit go at. absurd (call p f z m d g vs at (action_of pair p f m) refl (did n p f z m fit));
    return_ok = λ p f z m v fit go at. gives z v;
    resume_ok = λ p f z y k d v fit wait so given. absurd so;
  }
    where
      gives : (z : Extent) (v : Option ℤ) → (zone z).gives v
      gives All v = tt
      gives First v = tt
      gives Nothing v = tt

      plain : (p : Path) (f : Frame) (z : Extent) (m : Memory) (e : Effect) → action_of pair p f m ≡ Plain e → e.trap ≡ None → (a : Action) → action_of pair p f m ≡ a → Did n p f z a → Fits n p (went f e) z × ((r : ℕ) → Covers (zone (pending p (went f e) r)) (zone (pending p f r)))
      plain p f z m e at fine a is (goes x covers clear on) =
          let same : x ≡ e = same_effect x e (sym is ∙ at) in
          let next : e.trap ≡ None → Fits n p (went f e) z × (e.block ≡ f.block) = subst (λ (y : Effect). y.trap ≡ None → Fits n p (went f y) z × (y.block ≡ f.block)) same on in
          ((next fine).0, λ r. same_pending p f (went f e) r (next fine).1)
      plain p f z m e at fine a is (forks root whole block child next) = absurd (cc)
      plain p f z m e at fine a is (leaves block) = absurd (cc)
      plain p f z m e at fine a is (joins block rs next) = absurd (cc)
      plain p f z m e at fine a is (returns_it block v) = absurd (cc)

      detach : (p : Path) (f : Frame) (z : Extent) (m : Memory) (r b k : ℕ) → action_of pair p f m ≡ Detach r b k → (a : Action) → action_of pair p f m ≡ a → Did n p f z a → Forked p f z r b k
      detach p f z m r b k at a is (goes x covers clear on) = absurd (cc)
      detach p f z m r b k at a is (forks root whole block child next) =
          let r_is : 1 ≡ r = (let e : Detach 1 1 2 ≡ Detach r b k = sym is ∙ at in cc) in
          let b_is : 1 ≡ b = (let e : Detach 1 1 2 ≡ Detach r b k = sym is ∙ at in cc) in
          let k_is : 2 ≡ k = (let e : Detach 1 1 2 ≡ Detach r b k = sym is ∙ at in cc) in
          let ok : Forked p f z 1 1 2 = (
            First,
            subst (λ x. Covers (zone x) (zone First)) (sym whole) (in_all (zone First)),
            off_pending p f 0 (zone First) block refl,
            child,
            next,
            λ q. covers_off _ p f 0 q block refl,
            covers_itself (zone First),
          ) in
          subst (λ i. Forked p f z i b k) r_is (subst (λ i. Forked p f z 1 i k) b_is (subst (λ i. Forked p f z 1 1 i) k_is ok))
      detach p f z m r b k at a is (leaves block) = absurd (cc)
      detach p f z m r b k at a is (joins block rs next) = absurd (cc)
      detach p f z m r b k at a is (returns_it block v) = absurd (cc)

      sync : (p : Path) (f : Frame) (z : Extent) (m : Memory) (r b : ℕ) (rs : Registers) → action_of pair p f m ≡ Sync r b rs → (a : Action) → action_of pair p f m ≡ a → Did n p f z a → Joined p f z r b rs
      sync p f z m r b rs at a is (goes x covers clear on) = absurd (cc)
      sync p f z m r b rs at a is (forks root whole block child next) = absurd (cc)
      sync p f z m r b rs at a is (leaves block) = absurd (cc)
      sync p f z m r b rs at a is (joins block us next) =
          let e : Sync 1 3 us ≡ Sync r b rs = sym is ∙ at in
          let r_is : 1 ≡ r = cc in
          let b_is : 3 ≡ b = cc in
          let rs_is : us ≡ rs = cc in
          let ok : Joined p f z 1 3 us = (next, λ q differ. other_region _ p f q differ block) in
          subst (λ i. Joined p f z i b rs) r_is (subst (λ i. Joined p f z 1 i rs) b_is (subst (λ i. Joined p f z 1 3 i) rs_is ok))
      sync p f z m r b rs at a is (returns_it block v) = absurd (cc)

      call : (p : Path) (f : Frame) (z : Extent) (m : Memory) (d : Option RegisterId) (g : ℕ) (vs : List Value) → action_of pair p f m ≡ Call d g vs → (a : Action) → action_of pair p f m ≡ a → Did n p f z a → ⊥
      call p f z m d g vs at a is (goes x covers clear on) = let e : Plain x ≡ Call d g vs = sym is ∙ at in absurd (cc)
      call p f z m d g vs at a is (forks root whole block child next) = let e : Detach 1 1 2 ≡ Call d g vs = sym is ∙ at in absurd (cc)
      call p f z m d g vs at a is (leaves block) = let e : Reattach 1 ≡ Call d g vs = sym is ∙ at in absurd (cc)
      call p f z m d g vs at a is (joins block rs next) = let e : Sync 1 3 rs ≡ Call d g vs = sym is ∙ at in absurd (cc)
      call p f z m d g vs at a is (returns_it block v) = let e : Return v ≡ Call d g vs = sym is ∙ at in absurd (cc)

  abbrev pub Holding : Path → Frame → Type 0
  Holding p f = (z : Extent) × Fits n p f z

  at_calls : (p : Path) (f : Frame) (z : Extent) → Fits n p f z → (k : ℕ) (d : Option RegisterId) → f.waits ≡ OnCall k d → ⊥
  at_calls p f z (entry_start g h made role) = h.calls_nobody
  at_calls p f z (entry_detach g h made role region) = h.calls_nobody
  at_calls p f z (child_point g h role) = h.calls_nobody
  at_calls p f z (child_store g h role at) = h.calls_nobody
  at_calls p f z (child_end g h role) = h.calls_nobody
  at_calls p f z (next_point g h role region) = h.calls_nobody
  at_calls p f z (next_store g h role region at) = h.calls_nobody
  at_calls p f z (next_sync g h role region) = h.calls_nobody
  at_calls p f z (last_point g h role) = h.calls_nobody
  at_calls p f z (last_load g h role at) = h.calls_nobody
  at_calls p f z (last_point_again g h role) = h.calls_nobody
  at_calls p f z (last_load_again g h role at) = h.calls_nobody
  at_calls p f z (last_add g h role) = h.calls_nobody
  at_calls p f z (last_return g h role) = h.calls_nobody

  closed_off : (p : Path) (f : Frame) (b r : ℕ) → f.block ≡ b → eqb b 2 ≡ false → opens p f r ≡ false
  closed_off p f b r is off = rw (is, off)

  closed_other : (p : Path) (f : Frame) (r : ℕ) → r ≢ 1 → f.block ≡ 2 → opens p f r ≡ false
  closed_other p f r differ is = elim (eqb_tells r 1) [ inl h ↦ absurd (differ h.1) | inr h ↦ rw (is, h.0) ]

  clash : (b : Bool) (A : Type 0) → b ≡ false → b ≡ true → A
  clash b A e h = absurd (cc)

  pub pair_closes : ClosesRegions pair Holding opens
  pair_closes = record {
    plain_holds = λ p f m e hold go at fine. plain p f hold.0 m e at fine (action_of pair p f m) refl (did n p f hold.0 m hold.1);
    detach_holds = λ p f m r b k hold go at. detach p f hold.0 m r b k at (action_of pair p f m) refl (did n p f hold.0 m hold.1);
    sync_holds = λ p f m r b rs hold go at. sync p f hold.0 m r b rs at (action_of pair p f m) refl (did n p f hold.0 m hold.1);
    call_holds = λ p f m d g vs hold go at. absurd (call p f hold.0 m d g vs at (action_of pair p f m) refl (did n p f hold.0 m hold.1));
    resume_holds = λ p f k d v hold wait. absurd (at_calls p f hold.0 hold.1 k d wait);
    reattach_closed = λ p f m q r hold go at. reattach p f hold.0 m q r at (action_of pair p f m) refl (did n p f hold.0 m hold.1);
    return_closed = λ p f m v r hold go at. gives p f hold.0 m v r at (action_of pair p f m) refl (did n p f hold.0 m hold.1);
  }
    where
      plain : (p : Path) (f : Frame) (z : Extent) (m : Memory) (e : Effect) → action_of pair p f m ≡ Plain e → e.trap ≡ None → (a : Action) → action_of pair p f m ≡ a → Did n p f z a → Holding p (went f e) × StaysOpen opens p f (went f e)
      plain p f z m e at fine a is (goes x covers clear on) =
          let same : x ≡ e = same_effect x e (sym is ∙ at) in
          let next : e.trap ≡ None → Fits n p (went f e) z × (e.block ≡ f.block) = subst (λ (y : Effect). y.trap ≡ None → Fits n p (went f y) z × (y.block ≡ f.block)) same on in
          ((z, (next fine).0), λ r was. subst (λ b. eqb b 2 && eqb r 1 ≡ true) (sym (next fine).1) was)
      plain p f z m e at fine a is (forks root whole block child next) = absurd (cc)
      plain p f z m e at fine a is (leaves block) = absurd (cc)
      plain p f z m e at fine a is (joins block rs next) = absurd (cc)
      plain p f z m e at fine a is (returns_it block v) = absurd (cc)

      detach : (p : Path) (f : Frame) (z : Extent) (m : Memory) (r b k : ℕ) → action_of pair p f m ≡ Detach r b k → (a : Action) → action_of pair p f m ≡ a → Did n p f z a →
          Holding (f.made ∷ p) (detached f r b k) × Holding p (continued f k) × StaysOpen opens p f (continued f k) × (opens p (continued f k) r ≡ true)
      detach p f z m r b k at a is (goes x covers clear on) = absurd (cc)
      detach p f z m r b k at a is (forks root whole block child next) =
          let e : Detach 1 1 2 ≡ Detach r b k = sym is ∙ at in
          let r_is : 1 ≡ r = cc in
          let b_is : 1 ≡ b = cc in
          let k_is : 2 ≡ k = cc in
          subst (λ i. Holding (f.made ∷ p) (detached f i b k) × Holding p (continued f k) × StaysOpen opens p f (continued f k) × (opens p (continued f k) i ≡ true)) r_is
          (subst (λ i. Holding (f.made ∷ p) (detached f 1 i k) × Holding p (continued f k) × StaysOpen opens p f (continued f k) × (opens p (continued f k) 1 ≡ true)) b_is
          (subst (λ i. Holding (f.made ∷ p) (detached f 1 1 i) × Holding p (continued f i) × StaysOpen opens p f (continued f i) × (opens p (continued f i) 1 ≡ true)) k_is
          ((First, child), (z, next), (λ q was. clash _ _ (closed_off p f 0 q block refl) was), refl)))
      detach p f z m r b k at a is (leaves block) = absurd (cc)
      detach p f z m r b k at a is (joins block rs next) = absurd (cc)
      detach p f z m r b k at a is (returns_it block v) = absurd (cc)

      sync : (p : Path) (f : Frame) (z : Extent) (m : Memory) (r b : ℕ) (rs : Registers) → action_of pair p f m ≡ Sync r b rs → (a : Action) → action_of pair p f m ≡ a → Did n p f z a →
          Holding p (synced f r b rs) × ((q : ℕ) → q ≢ r → opens p f q ≡ true → opens p (synced f r b rs) q ≡ true)
      sync p f z m r b rs at a is (goes x covers clear on) = absurd (cc)
      sync p f z m r b rs at a is (forks root whole block child next) = absurd (cc)
      sync p f z m r b rs at a is (leaves block) = absurd (cc)
      sync p f z m r b rs at a is (joins block us next) =
          let e : Sync 1 3 us ≡ Sync r b rs = sym is ∙ at in
          let r_is : 1 ≡ r = cc in
          let b_is : 3 ≡ b = cc in
          let rs_is : us ≡ rs = cc in
          subst (λ i. Holding p (synced f i b rs) × ((q : ℕ) → q ≢ i → opens p f q ≡ true → opens p (synced f i b rs) q ≡ true)) r_is
          (subst (λ i. Holding p (synced f 1 i rs) × ((q : ℕ) → q ≢ 1 → opens p f q ≡ true → opens p (synced f 1 i rs) q ≡ true)) b_is
          (subst (λ i. Holding p (synced f 1 3 i) × ((q : ℕ) → q ≢ 1 → opens p f q ≡ true → opens p (synced f 1 3 i) q ≡ true)) rs_is
          ((z, next), λ q differ was. clash _ _ (closed_other p f q differ block) was)))
      sync p f z m r b rs at a is (returns_it block v) = absurd (cc)

      call : (p : Path) (f : Frame) (z : Extent) (m : Memory) (d : Option RegisterId) (g : ℕ) (vs : List Value) → action_of pair p f m ≡ Call d g vs → (a : Action) → action_of pair p f m ≡ a → Did n p f z a → ⊥
      call p f z m d g vs at a is (goes x covers clear on) = let e : Plain x ≡ Call d g vs = sym is ∙ at in absurd (cc)
      call p f z m d g vs at a is (forks root whole block child next) = let e : Detach 1 1 2 ≡ Call d g vs = sym is ∙ at in absurd (cc)
      call p f z m d g vs at a is (leaves block) = let e : Reattach 1 ≡ Call d g vs = sym is ∙ at in absurd (cc)
      call p f z m d g vs at a is (joins block rs next) = let e : Sync 1 3 rs ≡ Call d g vs = sym is ∙ at in absurd (cc)
      call p f z m d g vs at a is (returns_it block v) = let e : Return v ≡ Call d g vs = sym is ∙ at in absurd (cc)

      reattach : (p : Path) (f : Frame) (z : Extent) (m : Memory) (q r : ℕ) → action_of pair p f m ≡ Reattach q → (a : Action) → action_of pair p f m ≡ a → Did n p f z a → opens p f r ≡ false
      reattach p f z m q r at a is (goes x covers clear on) = absurd (cc)
      reattach p f z m q r at a is (forks root whole block child next) = absurd (cc)
      reattach p f z m q r at a is (leaves block) = closed_off p f 1 r block refl
      reattach p f z m q r at a is (joins block rs next) = absurd (cc)
      reattach p f z m q r at a is (returns_it block v) = absurd (cc)

      gives : (p : Path) (f : Frame) (z : Extent) (m : Memory) (v : Option ℤ) (r : ℕ) → action_of pair p f m ≡ Return v → (a : Action) → action_of pair p f m ≡ a → Did n p f z a → opens p f r ≡ false
      gives p f z m v r at a is (goes x covers clear on) = absurd (cc)
      gives p f z m v r at a is (forks root whole block child next) = absurd (cc)
      gives p f z m v r at a is (leaves block) = absurd (cc)
      gives p f z m v r at a is (joins block rs next) = absurd (cc)
      gives p f z m v r at a is (returns_it block u) = closed_off p f 3 r block refl
