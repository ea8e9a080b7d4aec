-- Budget and depth, added up along the serial run.
use Rattle.std.proofs.Common.{◌≡◌, ℕ, suc, ◌+◌, ◌<◌, ◌≤◌, max, List, [], true, arith, ℤ, pos, ◌+ℤ◌, ◌≤ℤ◌}
use Rattle.std.proofs.lemmas.Int.{ints}
use Rattle.semantics.specs.Cells.{Memory, globals_of}
use Rattle.semantics.specs.Frames.{Frame}
use Rattle.semantics.specs.State.{root_frame}
use Rattle.semantics.specs.SerialMeaning.{Outcome, IsSerialMeaning}
use Rattle.laws_conditions.specs.theorem.SerialConditions.{Says, Finds, Nothing, KeptSerially, Rank}
use Rattle.laws_conditions.specs.theorem.InProofs.{And, FindsBoth}
use Rattle.laws_conditions.specs.theorem.InProofs.{WithinBudget, WithinDepth}
use Rattle.laws_conditions.specs.theorem.Budgets.{Pays, SpendsBudget, StaysInDepth, RunsSerially, SerialRunExists}
use Rattle.laws_conditions.proofs.theorem.SerialExists.{kept_both, serial_meaning}
use Rattle.program.specs.declared.function.Program.{Program}

one_paid : (c : ℕ) (all rest : ℤ) → Pays all rest → pos c ≤ℤ rest → pos (suc c) ≤ℤ all
one_paid c all rest pays h = omega (arith, ints)

both_paid : (c d : ℕ) (all first rest : ℤ) → Pays all (first +ℤ rest) → pos c ≤ℤ first → pos d ≤ℤ rest → pos (suc (c + d)) ≤ℤ all
both_paid c d all first rest pays h k = omega (arith, ints)

last_paid : (all : ℤ) → Pays all (pos 0) → pos 1 ≤ℤ all
last_paid all pays = omega (arith, ints)

module _ (prog : Program) (base : Says) where
  -- the count is within what may be used
  pub budget_kept : (may_use : Frame → ℤ) → SpendsBudget prog base may_use → KeptSerially prog base Nothing (WithinBudget may_use)
  budget_kept may_use spends = record {
    plain_kept = λ p f m e b g at fine nb. record { next = tt; finds = λ o h. one_paid o.count _ _ (spends.plain_pays p f m e b at fine nb) h };
    sync_kept = λ p f m r t rs b g at nb. record { next = tt; finds = λ o h. one_paid o.count _ _ (spends.sync_pays p f m r t rs b at nb) h };
    child_kept = λ p f m r body next b g at nb. tt;
    continued_kept = λ p f m r body next b g at nc o gone h nb. record { next = tt; finds = λ u k. both_paid o.count u.count _ _ _ (spends.detach_pays p f m o.memory r body next b at nc nb) h k };
    callee_kept = λ p f m d c vs b g at nb. tt;
    resumed_kept = λ p f m d c vs b g at nc o v gave h nb. record { next = tt; finds = λ u k. both_paid o.count u.count _ _ _ (spends.call_pays p f m o.memory d c vs v b at nc nb) h k };
    reattach_finds = λ p f m r b g at. last_paid _ (spends.reattach_pays p f m r b at);
    return_finds = λ p f m v b g at. last_paid _ (spends.return_pays p f m v b at);
  }

  higher : (a b c : ℕ) → a ≤ b → b ≤ c → a ≤ c
  higher a b c h k = omega arith

  deeper : (a b c d all : ℕ) → a ≤ c → c < all → b ≤ d → d ≤ all → max (suc a) b ≤ all
  deeper a b c d all h1 h2 h3 h4 = omega arith

  -- the depth is within what may be reached
  pub depth_kept : (may_reach : Frame → ℕ) → StaysInDepth prog base may_reach → KeptSerially prog base Nothing (WithinDepth may_reach)
  depth_kept may_reach stays = record {
    plain_kept = λ p f m e b g at fine nb. record { next = tt; finds = λ o h. higher o.depth _ _ h (stays.plain_reach p f m e b at fine nb) };
    sync_kept = λ p f m r t rs b g at nb. record { next = tt; finds = λ o h. higher o.depth _ _ h (stays.sync_reach p f m r t rs b at nb) };
    child_kept = λ p f m r body next b g at nb. tt;
    continued_kept = λ p f m r body next b g at nc o gone h nb. record {
      next = tt;
      finds = λ u k. deeper o.depth u.depth _ _ _ h (stays.child_reach p f m r body next b at nc) k (stays.continued_reach p f m o.memory r body next b at nb);
    };
    callee_kept = λ p f m d c vs b g at nb. tt;
    resumed_kept = λ p f m d c vs b g at nc o v gave h nb. record {
      next = tt;
      finds = λ u k. deeper o.depth u.depth _ _ _ h (stays.callee_reach p f m d c vs b at nc) k (stays.resumed_reach p f m o.memory d c vs v b at nb);
    };
    reattach_finds = λ p f m r b g at. stays.reattach_reach p f m r b at;
    return_finds = λ p f m v b g at. stays.return_reach p f m v b at;
  }

  -- weaker premises do, where nothing more is given
  under_nothing : (post : Finds) → KeptSerially prog base Nothing post → KeptSerially prog (And Nothing base) Nothing post
  under_nothing post k = record {
    plain_kept = λ p f m e b g at fine nb. k.plain_kept p f m e b.1 g at fine nb.1;
    sync_kept = λ p f m r t rs b g at nb. k.sync_kept p f m r t rs b.1 g at nb.1;
    child_kept = λ p f m r body next b g at nb. tt;
    continued_kept = λ p f m r body next b g at nc o gone h nb. k.continued_kept p f m r body next b.1 g at nc.1 o gone h nb.1;
    callee_kept = λ p f m d c vs b g at nb. tt;
    resumed_kept = λ p f m d c vs b g at nc o v gave h nb. k.resumed_kept p f m d c vs b.1 g at nc.1 o v gave h nb.1;
    reattach_finds = λ p f m r b g at. k.reattach_finds p f m r b.1 g at;
    return_finds = λ p f m v b g at. k.return_finds p f m v b.1 g at;
  }

  -- nothing more is kept than before
  with_nothing : (post : Finds) → KeptSerially prog Nothing (And base Nothing) post → KeptSerially prog Nothing base post
  with_nothing post k = record {
    plain_kept = λ p f m e b g at fine nb. let x = k.plain_kept p f m e b (g, tt) at fine nb in record { next = x.next.0; finds = x.finds };
    sync_kept = λ p f m r t rs b g at nb. let x = k.sync_kept p f m r t rs b (g, tt) at nb in record { next = x.next.0; finds = x.finds };
    child_kept = λ p f m r body next b g at nb. (k.child_kept p f m r body next b (g, tt) at nb).0;
    continued_kept = λ p f m r body next b g at nc o gone h nb. let x = k.continued_kept p f m r body next b (g, tt) at nc o gone h nb in record { next = x.next.0; finds = x.finds };
    callee_kept = λ p f m d c vs b g at nb. (k.callee_kept p f m d c vs b (g, tt) at nb).0;
    resumed_kept = λ p f m d c vs b g at nc o v gave h nb. let x = k.resumed_kept p f m d c vs b (g, tt) at nc o v gave h nb in record { next = x.next.0; finds = x.finds };
    reattach_finds = λ p f m r b g at. k.reattach_finds p f m r b (g, tt) at;
    return_finds = λ p f m v b g at. k.return_finds p f m v b (g, tt) at;
  }

  pub with_one_more : (post more : Finds) → KeptSerially prog Nothing base post → KeptSerially prog base Nothing more → KeptSerially prog Nothing base (FindsBoth post more)
  with_one_more post more k l = with_nothing (FindsBoth post more) (kept_both prog Nothing base Nothing post more k (under_nothing more l))

-- what the serial run of the whole program is found to be
pub record Serially (prog : Program) (arguments : List ℤ) (given : Memory) (post : Finds) (may_use : Frame → ℤ) (may_reach : Frame → ℕ) : Type 0 where
  pub outcome : Outcome
  pub is : IsSerialMeaning prog arguments given outcome
  pub finds : post [] (root_frame prog arguments) (globals_of given) outcome
  pub count : pos outcome.count ≤ℤ may_use (root_frame prog arguments)
  pub depth : outcome.depth ≤ may_reach (root_frame prog arguments)

-- the serial run exists, within its budget and depth
pub serially : (prog : Program) (good : Says) (post : Finds) (rank : Frame → Rank) (may_use : Frame → ℤ) (may_reach : Frame → ℕ) → RunsSerially prog good post rank may_use may_reach →
    (arguments : List ℤ) (given : Memory) → good [] (root_frame prog arguments) (globals_of given) → Serially prog arguments given post may_use may_reach
serially prog good post rank may_use may_reach conditions arguments given start =
    let counted = with_one_more prog good post (WithinBudget may_use) conditions.kept (budget_kept prog good may_use conditions.budget) in
    let all = with_one_more prog good (FindsBoth post (WithinBudget may_use)) (WithinDepth may_reach) counted (depth_kept prog good may_reach conditions.depth) in
    let (o, is, found) = serial_meaning prog good (FindsBoth (FindsBoth post (WithinBudget may_use)) (WithinDepth may_reach)) rank all conditions.runs arguments given start in
    record { outcome = o; is = is; finds = found.0.0; count = found.0.1; depth = found.1 }

pub serial_run_exists : SerialRunExists
serial_run_exists prog good post rank may_use may_reach conditions arguments given start =
    let s = serially prog (λ p f m. good p f m ≡ true) (λ p f m o. post p f m o ≡ true) rank may_use may_reach conditions arguments given start in
    (s.outcome, s.is, s.finds, s.count, s.depth)
