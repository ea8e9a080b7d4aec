-- The sample program meets the conditions for the serial run too: it does not trap, and uses what its blocks declare.
use Rattle.std.proofs.Common.{◌≡◌, ℕ, zero, suc, ◌+◌, ◌-◌, ◌<◌, ◌≤◌, [], ◌∷◌, Option, Some, None, refl, sym, subst, arith, ℤ, pos, ◌+ℤ◌, ◌≤ℤ◌}
use Rattle.std.proofs.lemmas.Int.{ints}
use Rattle.semantics.specs.Paths.{Path}
use Rattle.semantics.specs.Cells.{Memory}
use Rattle.semantics.specs.Arithmetic.{wrapped}
use Rattle.semantics.specs.Frames.{Word, Pointer, Region, Registers, Role, Child, Body, Frame}
use Rattle.semantics.specs.Effect.{Effect, Action, Plain, Detach, Reattach, Sync, Call, Return, sets, loads, stores, action_of}
use Rattle.semantics.specs.State.{went, detached, continued, synced}
use Rattle.semantics.specs.SerialMeaning.{Ending, Left, Gave, written, cleared}
use Rattle.laws_conditions.specs.theorem.SerialConditions.{Says, Finds, Nothing, KeptSerially, Rank, by_left, RunsOn}
use Rattle.laws_conditions.specs.theorem.Budgets.{SpendsBudget, StaysInDepth, RunsSerially}
use Rattle.laws_conditions.specs.sample.Pair.{register, pair, cell_of_a}
use Rattle.laws_conditions.proofs.sample.PairSample.{At, next_at}
use Rattle.syntax.specs.declared.operator.Width.TheVariants.{Bits64}

-- what a block declares that may be used from its start on
abbrev declared : ℕ → ℕ
declared zero = 14
declared (suc zero) = 3
declared (suc (suc zero)) = 9
declared (suc (suc (suc b))) = 6

abbrev unspent : Frame → ℕ
unspent f = declared f.block - f.index

abbrev pub may_use : Frame → ℤ
may_use f = pos (unspent f)

abbrev reach_from : ℕ → ℕ
reach_from zero = 2
reach_from (suc b) = 1

abbrev pub may_reach : Frame → ℕ
may_reach f = reach_from f.block

abbrev pub rank : Frame → Rank
rank f = record { function = 0; measure = 0; left = unspent f; steps = 0 }

abbrev pub twice : ℤ → ℤ
twice n = wrapped Bits64 (n +ℤ n)

-- what is known at each place
pub data Serial (n : ℤ) : Path → Frame → Memory → Type 0 where
  entry_start : (f : Frame) (m : Memory) → At n f 0 0 → f.made ≡ 0 → f.role ≡ Body → Serial n [] f m
  entry_detach : (f : Frame) (m : Memory) → At n f 0 1 → f.made ≡ 0 → f.role ≡ Body → f.registers 1 ≡ Some (Region []) → Serial n [] f m
  child_point : (f : Frame) (m : Memory) → At n f 1 0 → f.role ≡ Child 1 2 → Serial n (0 ∷ []) f m
  child_store : (f : Frame) (m : Memory) → At n f 1 1 → f.role ≡ Child 1 2 → f.registers 2 ≡ Some (Pointer (cell_of_a 0)) → Serial n (0 ∷ []) f m
  child_end : (f : Frame) (m : Memory) → At n f 1 2 → f.role ≡ Child 1 2 → m (cell_of_a 0) ≡ Some n → Serial n (0 ∷ []) f m
  next_point : (f : Frame) (m : Memory) → At n f 2 0 → f.role ≡ Body → f.registers 1 ≡ Some (Region []) → m (cell_of_a 0) ≡ Some n → Serial n [] f m
  next_store : (f : Frame) (m : Memory) → At n f 2 1 → f.role ≡ Body → f.registers 1 ≡ Some (Region []) → f.registers 3 ≡ Some (Pointer (cell_of_a 1)) → m (cell_of_a 0) ≡ Some n → Serial n [] f m
  next_sync : (f : Frame) (m : Memory) → At n f 2 2 → f.role ≡ Body → f.registers 1 ≡ Some (Region []) → m (cell_of_a 0) ≡ Some n → m (cell_of_a 1) ≡ Some n → Serial n [] f m
  last_point : (f : Frame) (m : Memory) → At n f 3 0 → f.role ≡ Body → m (cell_of_a 0) ≡ Some n → m (cell_of_a 1) ≡ Some n → Serial n [] f m
  last_load : (f : Frame) (m : Memory) → At n f 3 1 → f.role ≡ Body → f.registers 4 ≡ Some (Pointer (cell_of_a 0)) → m (cell_of_a 0) ≡ Some n → m (cell_of_a 1) ≡ Some n → Serial n [] f m
  last_point_again : (f : Frame) (m : Memory) → At n f 3 2 → f.role ≡ Body → f.registers 5 ≡ Some (Word n) → m (cell_of_a 0) ≡ Some n → m (cell_of_a 1) ≡ Some n → Serial n [] f m
  last_load_again : (f : Frame) (m : Memory) → At n f 3 3 → f.role ≡ Body → f.registers 5 ≡ Some (Word n) → f.registers 6 ≡ Some (Pointer (cell_of_a 1)) → m (cell_of_a 0) ≡ Some n → m (cell_of_a 1) ≡ Some n → Serial n [] f m
  last_add : (f : Frame) (m : Memory) → At n f 3 4 → f.role ≡ Body → f.registers 5 ≡ Some (Word n) → f.registers 7 ≡ Some (Word n) → m (cell_of_a 0) ≡ Some n → m (cell_of_a 1) ≡ Some n → Serial n [] f m
  last_return : (f : Frame) (m : Memory) → At n f 3 5 → f.role ≡ Body → f.registers 8 ≡ Some (Word (twice n)) → m (cell_of_a 0) ≡ Some n → m (cell_of_a 1) ≡ Some n → Serial n [] f m

-- what a child leaves, and what the root gives
abbrev pub FoundBy : ℤ → Role → Ending → Memory → Type 0
FoundBy n (Child r c) ending m = m (cell_of_a 0) ≡ Some n
FoundBy n Body ending m = (ending ≡ Gave (Some (twice n))) × (m (cell_of_a 0) ≡ Some n) × (m (cell_of_a 1) ≡ Some n)

abbrev pub Found : ℤ → Finds
Found n p f m o = FoundBy n f.role o.ending o.memory

-- ---- what each place does

record PlainAt (n : ℤ) (p : Path) (f : Frame) (m : Memory) (e : Effect) : Type 0 where
  fine : e.trap ≡ None
  next : Serial n p (went f e) (written e m)
  spends : suc (unspent (went f e)) ≤ unspent f
  reach : may_reach (went f e) ≤ may_reach f

record DetachAt (n : ℤ) (p : Path) (f : Frame) (m : Memory) (r b k : ℕ) : Type 0 where
  child : Serial n (f.made ∷ p) (detached f r b k) m
  next : (u : Memory) → u (cell_of_a 0) ≡ Some n → Serial n p (continued f k) u
  spends : suc (unspent (detached f r b k) + unspent (continued f k)) ≤ unspent f
  reach : may_reach (detached f r b k) < may_reach f
  reach_on : may_reach (continued f k) ≤ may_reach f

record SyncAt (n : ℤ) (p : Path) (f : Frame) (m : Memory) (r b : ℕ) (rs : Registers) : Type 0 where
  next : Serial n p (synced f r b rs) m
  spends : suc (unspent (synced f r b rs)) ≤ unspent f
  reach : may_reach (synced f r b rs) ≤ may_reach f

record EndAt (n : ℤ) (f : Frame) (ending : Ending) (m : Memory) : Type 0 where
  found : FoundBy n f.role ending m
  spends : 1 ≤ unspent f
  reach : 1 ≤ may_reach f

abbrev Runs : ℤ → Path → Frame → Memory → Action → Type 0
Runs n p f m (Plain e) = PlainAt n p f m e
Runs n p f m (Detach r b k) = DetachAt n p f m r b k
Runs n p f m (Reattach r) = EndAt n f Left m
Runs n p f m (Sync r b rs) = SyncAt n p f m r b rs
Runs n p f m (Call d g vs) = ⊥
Runs n p f m (Return v) = EndAt n f (Gave v) (cleared p m)

-- an instruction that sets a register, or stores
stepped : (n : ℤ) (p : Path) (f : Frame) (m : Memory) (b i : ℕ) (e : Effect) → At n f b i → e.trap ≡ None → e.block ≡ f.block → e.index ≡ suc f.index → suc (declared b - suc i) ≤ declared b - i → Serial n p (went f e) (written e m) → PlainAt n p f m e
stepped n p f m b i e at fine block index less next = record {
  fine = fine;
  next = next;
  spends = rw (block, index, at.is_block, at.is_index) less;
  reach = rw block (omega arith);
}

runs : (n : ℤ) (p : Path) (f : Frame) (m : Memory) → Serial n p f m → Runs n p f m (action_of pair p f m)
runs n p f m (entry_start g w h made role) =
    let e : Effect = sets f (register 1) (Region []) in
    let act : action_of pair [] f m ≡ Plain e = rw (h.function, h.is_block, h.is_index) in
    subst (λ a. Runs n [] f m a) (sym act) (stepped n [] f m 0 0 e h refl refl refl (omega arith) (entry_detach (went f e) (written e m) (next_at n f 0 0 e h refl refl refl) made role refl))
runs n p f m (entry_detach g w h made role region) =
    let act : action_of pair [] f m ≡ Detach 1 1 2 = rw (h.function, h.is_block, h.is_index, region) in
    let child : Serial n (0 ∷ []) (detached f 1 1 2) m = child_point (detached f 1 1 2) m (record { function = h.function; is_block = refl; is_index = refl; argument = h.argument; calls_nobody = λ k d w. absurd (cc) }) refl in
    subst (λ a. Runs n [] f m a) (sym act)
    (record {
      child = subst (λ k. Serial n (k ∷ []) (detached f 1 1 2) m) (sym made) child;
      next = λ u has. next_point (continued f 2) u (record { function = h.function; is_block = refl; is_index = refl; argument = h.argument; calls_nobody = λ k d w. absurd (cc) }) role region has;
      spends = rw (h.is_block, h.is_index) (omega arith);
      reach = rw h.is_block (omega arith);
      reach_on = rw h.is_block (omega arith);
    })
runs n p f m (child_point g w h role) =
    let e : Effect = sets f (register 2) (Pointer (cell_of_a 0)) in
    let act : action_of pair (0 ∷ []) f m ≡ Plain e = rw (h.function, h.is_block, h.is_index) in
    subst (λ a. Runs n (0 ∷ []) f m a) (sym act) (stepped n (0 ∷ []) f m 1 0 e h refl refl refl (omega arith) (child_store (went f e) (written e m) (next_at n f 1 0 e h refl refl refl) role refl))
runs n p f m (child_store g w h role at) =
    let e : Effect = stores f (cell_of_a 0) n in
    let act : action_of pair (0 ∷ []) f m ≡ Plain e = rw (h.function, h.is_block, h.is_index, h.argument, at) in
    subst (λ a. Runs n (0 ∷ []) f m a) (sym act) (stepped n (0 ∷ []) f m 1 1 e h refl refl refl (omega arith) (child_end (went f e) (written e m) (next_at n f 1 1 e h refl refl refl) role refl))
runs n p f m (child_end g w h role has) =
    let act : action_of pair (0 ∷ []) f m ≡ Reattach 1 = rw (h.function, h.is_block, h.is_index, role) in
    subst (λ a. Runs n (0 ∷ []) f m a) (sym act) (record { found = rw role has; spends = rw (h.is_block, h.is_index) (omega arith); reach = rw h.is_block (omega arith) })
runs n p f m (next_point g w h role region has) =
    let e : Effect = sets f (register 3) (Pointer (cell_of_a 1)) in
    let act : action_of pair [] f m ≡ Plain e = rw (h.function, h.is_block, h.is_index) in
    subst (λ a. Runs n [] f m a) (sym act) (stepped n [] f m 2 0 e h refl refl refl (omega arith) (next_store (went f e) (written e m) (next_at n f 2 0 e h refl refl refl) role region refl has))
runs n p f m (next_store g w h role region at has) =
    let e : Effect = stores f (cell_of_a 1) n in
    let act : action_of pair [] f m ≡ Plain e = rw (h.function, h.is_block, h.is_index, h.argument, at) in
    subst (λ a. Runs n [] f m a) (sym act) (stepped n [] f m 2 1 e h refl refl refl (omega arith) (next_sync (went f e) (written e m) (next_at n f 2 1 e h refl refl refl) role region has refl))
runs n p f m (next_sync g w h role region has has2) =
    let act : action_of pair [] f m ≡ Sync 1 3 f.registers = rw (h.function, h.is_block, h.is_index, region) in
    let next : Serial n [] (synced f 1 3 f.registers) m = last_point (synced f 1 3 f.registers) m (record { function = h.function; is_block = refl; is_index = refl; argument = h.argument; calls_nobody = λ k d w. absurd (cc) }) role has has2 in
    subst (λ a. Runs n [] f m a) (sym act) (record { next = next; spends = rw (h.is_block, h.is_index) (omega arith); reach = rw h.is_block (omega arith) })
runs n p f m (last_point g w h role has has2) =
    let e : Effect = sets f (register 4) (Pointer (cell_of_a 0)) in
    let act : action_of pair [] f m ≡ Plain e = rw (h.function, h.is_block, h.is_index) in
    subst (λ a. Runs n [] f m a) (sym act) (stepped n [] f m 3 0 e h refl refl refl (omega arith) (last_load (went f e) (written e m) (next_at n f 3 0 e h refl refl refl) role refl has has2))
runs n p f m (last_load g w h role at has has2) =
    let e : Effect = loads f (register 5) (cell_of_a 0) (Some n) in
    let act : action_of pair [] f m ≡ Plain e = rw (h.function, h.is_block, h.is_index, at, has) in
    subst (λ a. Runs n [] f m a) (sym act) (stepped n [] f m 3 1 e h refl refl refl (omega arith) (last_point_again (went f e) (written e m) (next_at n f 3 1 e h refl refl refl) role refl has has2))
runs n p f m (last_point_again g w h role first has has2) =
    let e : Effect = sets f (register 6) (Pointer (cell_of_a 1)) in
    let act : action_of pair [] f m ≡ Plain e = rw (h.function, h.is_block, h.is_index) in
    subst (λ a. Runs n [] f m a) (sym act) (stepped n [] f m 3 2 e h refl refl refl (omega arith) (last_load_again (went f e) (written e m) (next_at n f 3 2 e h refl refl refl) role first refl has has2))
runs n p f m (last_load_again g w h role first at has has2) =
    let e : Effect = loads f (register 7) (cell_of_a 1) (Some n) in
    let act : action_of pair [] f m ≡ Plain e = rw (h.function, h.is_block, h.is_index, at, has2) in
    subst (λ a. Runs n [] f m a) (sym act) (stepped n [] f m 3 3 e h refl refl refl (omega arith) (last_add (went f e) (written e m) (next_at n f 3 3 e h refl refl refl) role first refl has has2))
runs n p f m (last_add g w h role first second has has2) =
    let e : Effect = sets f (register 8) (Word (twice n)) in
    let act : action_of pair [] f m ≡ Plain e = rw (h.function, h.is_block, h.is_index, first, second) in
    subst (λ a. Runs n [] f m a) (sym act) (stepped n [] f m 3 4 e h refl refl refl (omega arith) (last_return (went f e) (written e m) (next_at n f 3 4 e h refl refl refl) role refl has has2))
runs n p f m (last_return g w h role sum has has2) =
    let act : action_of pair [] f m ≡ Return (Some (twice n)) = rw (h.function, h.is_block, h.is_index, sum, role) in
    subst (λ a. Runs n [] f m a) (sym act) (record { found = rw role (refl, has, has2); spends = rw (h.is_block, h.is_index) (omega arith); reach = rw h.is_block (omega arith) })

-- ---- the conditions

paid : (rest all : ℕ) → suc rest ≤ all → (pos rest +ℤ pos 1) ≤ℤ pos all
paid rest all h = omega (arith, ints)

paid_both : (first rest all : ℕ) → suc (first + rest) ≤ all → ((pos first +ℤ pos rest) +ℤ pos 1) ≤ℤ pos all
paid_both first rest all h = omega (arith, ints)

module _ (n : ℤ) where
  abbrev pub Good : Says
  Good = Serial n

  plain : (p : Path) (f : Frame) (m : Memory) (e : Effect) → Good p f m → action_of pair p f m ≡ Plain e → PlainAt n p f m e
  plain p f m e g at = subst (λ a. Runs n p f m a) at (runs n p f m g)

  detach : (p : Path) (f : Frame) (m : Memory) (r b k : ℕ) → Good p f m → action_of pair p f m ≡ Detach r b k → DetachAt n p f m r b k
  detach p f m r b k g at = subst (λ a. Runs n p f m a) at (runs n p f m g)

  sync : (p : Path) (f : Frame) (m : Memory) (r b : ℕ) (rs : Registers) → Good p f m → action_of pair p f m ≡ Sync r b rs → SyncAt n p f m r b rs
  sync p f m r b rs g at = subst (λ a. Runs n p f m a) at (runs n p f m g)

  leave : (p : Path) (f : Frame) (m : Memory) (r : ℕ) → Good p f m → action_of pair p f m ≡ Reattach r → EndAt n f Left m
  leave p f m r g at = subst (λ a. Runs n p f m a) at (runs n p f m g)

  give : (p : Path) (f : Frame) (m : Memory) (v : Option ℤ) → Good p f m → action_of pair p f m ≡ Return v → EndAt n f (Gave v) (cleared p m)
  give p f m v g at = subst (λ a. Runs n p f m a) at (runs n p f m g)

  never : {A : Type 0} (p : Path) (f : Frame) (m : Memory) (a : Action) → Good p f m → action_of pair p f m ≡ a → (Runs n p f m a → ⊥) → A
  never p f m a g at nothing = absurd (nothing (subst (λ x. Runs n p f m x) at (runs n p f m g)))

  pair_kept : KeptSerially pair Nothing Good (Found n)
  pair_kept = record {
    plain_kept = λ p f m e b g at fine nb. record { next = (plain p f m e g at).next; finds = λ o h. h };
    sync_kept = λ p f m r t rs b g at nb. record { next = (sync p f m r t rs g at).next; finds = λ o h. h };
    child_kept = λ p f m r t k b g at nb. (detach p f m r t k g at).child;
    continued_kept = λ p f m r t k b g at nc o gone h nb. record { next = (detach p f m r t k g at).next o.memory h; finds = λ u j. j };
    callee_kept = λ p f m d c vs b g at nb. never p f m (Call d c vs) g at (λ x. x);
    resumed_kept = λ p f m d c vs b g at nc o v gave h nb. never p f m (Call d c vs) g at (λ x. x);
    reattach_finds = λ p f m r b g at. (leave p f m r g at).found;
    return_finds = λ p f m v b g at. (give p f m v g at).found;
  }

  pair_runs : RunsOn pair Good rank
  pair_runs = record {
    no_trap = λ p f m e g at. (plain p f m e g at).fine;
    plain_falls = λ p f m e g at on. by_left refl refl (plain p f m e g at).spends;
    sync_falls = λ p f m r t rs g at on. by_left refl refl (sync p f m r t rs g at).spends;
    child_falls = λ p f m r t k g at on. let h = (detach p f m r t k g at).spends in by_left refl refl (omega (arith, h));
    continued_falls = λ p f m u r t k g at on. let h = (detach p f m r t k g at).spends in by_left refl refl (omega (arith, h));
    callee_falls = λ p f m d c vs g at on. never p f m (Call d c vs) g at (λ x. x);
    resumed_falls = λ p f m u d c vs v g at on. never p f m (Call d c vs) g at (λ x. x);
  }

  pair_spends : SpendsBudget pair Good may_use
  pair_spends = record {
    plain_pays = λ p f m e g at fine on. paid _ _ (plain p f m e g at).spends;
    sync_pays = λ p f m r t rs g at on. paid _ _ (sync p f m r t rs g at).spends;
    detach_pays = λ p f m u r t k g at on on2. paid_both _ _ _ (detach p f m r t k g at).spends;
    call_pays = λ p f m u d c vs v g at on on2. never p f m (Call d c vs) g at (λ x. x);
    reattach_pays = λ p f m r g at. paid 0 _ (leave p f m r g at).spends;
    return_pays = λ p f m v g at. paid 0 _ (give p f m v g at).spends;
  }

  pair_reach : StaysInDepth pair Good may_reach
  pair_reach = record {
    plain_reach = λ p f m e g at fine on. (plain p f m e g at).reach;
    sync_reach = λ p f m r t rs g at on. (sync p f m r t rs g at).reach;
    child_reach = λ p f m r t k g at on. (detach p f m r t k g at).reach;
    continued_reach = λ p f m u r t k g at on. (detach p f m r t k g at).reach_on;
    callee_reach = λ p f m d c vs g at on. never p f m (Call d c vs) g at (λ x. x);
    resumed_reach = λ p f m u d c vs v g at on. never p f m (Call d c vs) g at (λ x. x);
    reattach_reach = λ p f m r g at. (leave p f m r g at).reach;
    return_reach = λ p f m v g at. (give p f m v g at).reach;
  }

  pub pair_serially : RunsSerially pair Good (Found n) rank may_use may_reach
  pair_serially = record { kept = pair_kept; runs = pair_runs; budget = pair_spends; depth = pair_reach }
