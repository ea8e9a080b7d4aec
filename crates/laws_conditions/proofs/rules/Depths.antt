-- The table of depths bounds how deep each frame of the serial run may reach.
use Rattle.std.proofs.Common.{◌≡◌, ◌≢◌, ℕ, zero, suc, ◌+◌, ◌-◌, ◌≤◌, ◌<◌, List, ◌∷◌, Option, Some, None, true, false, eqb, ◌⊎◌, inl, inr, refl, sym, ap, ◌∙◌, subst, arith}
use Rattle.std.proofs.lemmas.Bool.Decides.{eqb_tells}
use Rattle.semantics.specs.Paths.{Path}
use Rattle.semantics.specs.Cells.{Memory}
use Rattle.semantics.specs.Frames.{Value, Frame, Item, item_of, block_at, and_then}
use Rattle.semantics.specs.Effect.{Effect, Action, Plain, Detach, Reattach, Call, Return, action_of}
use Rattle.semantics.specs.State.{went, continued, synced, called, waiting, resumed}
use Rattle.laws_conditions.specs.theorem.SerialConditions.{Says}
use Rattle.laws_conditions.specs.theorem.Budgets.{StaysInDepth}
use Rattle.linear.specs.declared.form.RegisterId.{RegisterId}
use Rattle.program.specs.declared.function.Block.{Block}
use Rattle.program.specs.declared.function.Program.{Program}
use Rattle.laws_conditions.specs.rules.InProofs.{Moves, is_next, is_along}
use Rattle.laws_conditions.specs.rules.Moves.{Calls}
use Rattle.laws_conditions.specs.rules.Costs.{bound_of, natural, measure_at, IsEntry}
use Rattle.laws_conditions.specs.rules.InProofs.{CostRules}
use Rattle.laws_conditions.specs.rules.Depths.{Levels, DepthTable, may_reach}
use Rattle.laws_conditions.proofs.rules.Moves.{moves, sync_here, calls_here, forks_here, item_there}
use Rattle.laws_conditions.proofs.rules.Costs.{plain_measure, sync_measure, resumed_measure, entry_bound, lower}

block_there : (o : Option Block) (index : ℕ) (x : Item) → and_then o (λ (b : Block). item_of b.steps b.ending index) ≡ Some x → (b : Block) × (o ≡ Some b)
block_there None index x e = absurd (cc)
block_there (Some b) index x e = (b, refl)

-- less by the same, or by one more
same_less : (a b c d : ℕ) → a ≡ b → c ≡ d → a - c ≤ b - d
same_less a b c d e h = omega arith

one_less : (all level : ℕ) → level + 1 ≤ all → all - suc level < all - level
one_less all level h = omega arith

call_less : (all level own : ℕ) → level + 1 + own ≤ all → own < all - level
call_less all level own h = omega arith

some_less : (all level : ℕ) → level + 1 ≤ all → 1 ≤ all - level
some_less all level h = omega arith

module _ (prog : Program) (fits : Frame → Type 0) (rules : CostRules prog fits) (base : Says) (fit : (p : Path) (f : Frame) (m : Memory) → base p f m → fits f) (level depth : ℕ → ℕ → ℕ) (levels : Levels prog level) (table : DepthTable prog level depth) where
  pub rises : (fn m n : ℕ) → m ≤ n → depth fn m ≤ depth fn n
  rises fn m zero less = let same : m ≡ 0 = omega arith in rw same (omega arith)
  rises fn m (suc n) less = from (eqb_tells m (suc n)) (λ l. rises fn m n l)
    where
      from : ((eqb m (suc n) ≡ true) × (m ≡ suc n)) ⊎ ((eqb m (suc n) ≡ false) × (m ≢ suc n)) → (m ≤ n → depth fn m ≤ depth fn n) → depth fn m ≤ depth fn (suc n)
      from (inl e) rest = rw e.1 (omega arith)
      from (inr e) rest = let h : m ≢ suc n = e.1 in let k = rest (omega arith) in let l = table.rises fn n in omega (arith, k, l)

  measured : Frame → ℕ
  measured f = natural (measure_at prog f)

  -- along an edge and within a block
  same_reach : (f h : Frame) → h.function ≡ f.function → level f.function h.block ≡ level f.function f.block → measure_at prog h ≡ measure_at prog f → may_reach prog level depth h ≤ may_reach prog level depth f
  same_reach f h function at measure =
      same_less (depth h.function (natural (measure_at prog h))) (depth f.function (natural (measure_at prog f))) (level h.function h.block) (level f.function f.block)
      (ap (λ n. depth n (natural (measure_at prog h))) function ∙ ap (λ z. depth f.function (natural z)) measure) (ap (λ n. level n h.block) function ∙ at)

  plain_reach : (p : Path) (f : Frame) (m : Memory) (e : Effect) → action_of prog p f m ≡ Plain e → e.trap ≡ None → Moves prog f e → may_reach prog level depth (went f e) ≤ may_reach prog level depth f
  plain_reach p f m e at fine (is_next i here on) = same_reach f (went f e) refl (ap (λ b. level f.function b) on.block) (plain_measure prog fits rules base fit f e (is_next i here on))
  plain_reach p f m e at fine (is_along t here to on) = same_reach f (went f e) refl (levels.along f.function f.block f.index e.block t here to) (plain_measure prog fits rules base fit f e (is_along t here to on))

  -- the table counts the block of an instruction that is no plain one
  counted : (p : Path) (f : Frame) (m : Memory) (a : Action) → action_of prog p f m ≡ a → ((e : Effect) → a ≡ Plain e → ⊥) → level f.function f.block + 1 ≤ depth f.function (natural (measure_at prog f))
  counted p f m a at other =
      let (x, is) = item_there prog p f m a at other in
      let (b, there) = block_there (block_at prog f.function f.block) f.index x is in
      table.block f.function f.block (natural (measure_at prog f)) b there

  call_counted : (p : Path) (f : Frame) (m : Memory) (d : Option RegisterId) (g : ℕ) (vs : List Value) → fits f → action_of prog p f m ≡ Call d g vs → fits (called p f g vs) → Calls prog f d g vs →
      level f.function f.block + 1 + depth g (natural (measure_at prog (called p f g vs))) ≤ depth f.function (natural (measure_at prog f))
  call_counted p f m d g vs fit_f at fit_h c = from (eqb_tells g f.function)
    where
      own : ℕ
      own = natural (measure_at prog (called p f g vs))

      with_measure : (k : ℕ) → natural (measure_at prog (called p f g vs)) < k → g ≡ f.function → level f.function f.block + 1 + depth g (natural (measure_at prog (called p f g vs))) ≤ depth f.function k
      with_measure zero less e = absurd (omega arith)
      with_measure (suc k) less e =
          let higher = rises g (natural (measure_at prog (called p f g vs))) k (omega arith) in
          let same : depth g k ≡ depth f.function k = ap (λ n. depth n k) e in
          let up = table.self_call f.function f.block f.index k d c.function c.arguments c.is (c.number ∙ e) in
          omega (arith, higher, same, up)

      from : ((eqb g f.function ≡ true) × (g ≡ f.function)) ⊎ ((eqb g f.function ≡ false) × (g ≢ f.function)) → level f.function f.block + 1 + depth g (natural (measure_at prog (called p f g vs))) ≤ depth f.function (natural (measure_at prog f))
      from (inl e) = with_measure (natural (measure_at prog f)) (lower prog fits rules base fit p f m d g vs fit_f at fit_h e.1) e.1
      from (inr e) =
          let high = entry_bound prog fits rules base fit (called p f g vs) fit_h (record { block = refl; index = refl }) in
          let higher = rises g (natural (measure_at prog (called p f g vs))) (bound_of prog g) high in
          let up : level f.function f.block + 1 + depth g (bound_of prog g) ≤ depth f.function (natural (measure_at prog f)) =
          subst (λ n. level f.function f.block + 1 + depth n (bound_of prog n) ≤ depth f.function (natural (measure_at prog f))) c.number
          (table.call f.function f.block f.index (natural (measure_at prog f)) d c.function c.arguments c.is (λ h. e.1 (sym c.number ∙ h))) in
          omega (arith, higher, up)

  pub depths_stay : StaysInDepth prog base (may_reach prog level depth)
  depths_stay = record {
    plain_reach = λ p f m e b at fine nb. plain_reach p f m e at fine (moves prog p f m e at fine);
    sync_reach = λ p f m r t rs b at nb.
        let (u, is, to) = sync_here prog p f m r t rs at in
        same_reach f (synced f r t rs) refl (levels.sync f.function f.block f.index r t u is to) (sync_measure prog fits rules base fit p f m r t rs at);
    child_reach = λ p f m r body next b at nb.
        let c = forks_here prog p f m r body next at in
        let up : level f.function body ≡ suc (level f.function f.block) = subst (λ n. level f.function n ≡ suc (level f.function f.block)) c.body_is (levels.body f.function f.block f.index c.region c.body c.continuation c.is) in
        rw up (one_less (depth f.function (natural (measure_at prog f))) (level f.function f.block) (counted p f m (Detach r body next) at (λ e h. cc)));
    continued_reach = λ p f m n r body next b at nb.
        let c = forks_here prog p f m r body next at in
        same_reach f (continued f next) refl (subst (λ k. level f.function k ≡ level f.function f.block) c.continuation_is (levels.continuation f.function f.block f.index c.region c.body c.continuation c.is)) refl;
    callee_reach = λ p f m d g vs b at nb.
        let few = call_counted p f m d g vs (fit p f m b) at (fit (f.made ∷ p) _ _ nb) (calls_here prog p f m d g vs at) in
        let less : depth g (natural (measure_at prog (called p f g vs))) < depth f.function (natural (measure_at prog f)) - level f.function f.block =
        call_less (depth f.function (natural (measure_at prog f))) (level f.function f.block) (depth g (natural (measure_at prog (called p f g vs)))) few in
        rw (levels.entry g) (omega (arith, less));
    resumed_reach = λ p f m n d g vs v b at nb. same_reach f (resumed (waiting f d) d v) refl refl (resumed_measure prog fits rules base fit p f m d g vs v at);
    reattach_reach = λ p f m r b at. some_less (depth f.function (natural (measure_at prog f))) (level f.function f.block) (counted p f m (Reattach r) at (λ e h. cc));
    return_reach = λ p f m v b at. some_less (depth f.function (natural (measure_at prog f))) (level f.function f.block) (counted p f m (Return v) at (λ e h. cc));
  }

  -- a call's depth
  pub entry_reach : (h : Frame) → fits h → IsEntry h → may_reach prog level depth h ≤ depth h.function (bound_of prog h.function)
  entry_reach h fit_h at =
      let high = entry_bound prog fits rules base fit h fit_h at in
      let higher = rises h.function (natural (measure_at prog h)) (bound_of prog h.function) high in
      omega (arith, higher)
