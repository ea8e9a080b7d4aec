-- The sample program meets the rules on cost and depth, so they are not void.
use Rattle.std.proofs.Common.{◌≡◌, ℕ, zero, suc, ◌<◌, ◌≤◌, List, [], ◌∷◌, Option, Some, None, inl, refl, sym, ◌∙◌, subst, arith, ℤ, pos}
use Rattle.std.specs.List.{All, Contains}
use Rattle.std.proofs.lemmas.Int.{ints}
use Rattle.std.proofs.lemmas.List.Elements.{All-nil, All-cons, Contains-push}
use Rattle.semantics.specs.Paths.{Path}
use Rattle.semantics.specs.Cells.{Memory, globals_of}
use Rattle.semantics.specs.Frames.{Frame, Does, Ends, item_at, phis_at}
use Rattle.semantics.specs.Effect.{Effect}
use Rattle.semantics.specs.State.{root_frame}
use Rattle.semantics.proofs.Steps.{some_same}
use Rattle.laws_conditions.specs.sample.Pair.{pair, register, block}
use Rattle.laws_conditions.proofs.sample.PairSample.{At}
use Rattle.laws_conditions.proofs.sample.PairSerial.{Serial, Found, entry_start, pair_serially}
use Rattle.linear.specs.Forms.{minus}
use Rattle.linear.specs.Terms.{constant_form}
use Rattle.linear_shown.specs.Shown.{IsShown, AllHold}
use Rattle.linear.specs.declared.form.Fact.{Fact}
use Rattle.linear.specs.declared.form.RegisterId.{RegisterId}
use Rattle.program.specs.declared.identifier.BlockId.{BlockId}
use Rattle.program.specs.declared.identifier.FunctionId.{FunctionId}
use Rattle.program.specs.declared.instruction.Argument.{Argument}
use Rattle.program.specs.declared.instruction.Instruction.{Instruction}
use Rattle.program.specs.declared.instruction.Instruction.TheVariants as instruction
use Rattle.program.specs.declared.instruction.Operand.TheVariants as operand
use Rattle.program.specs.declared.instruction.Phi.{Phi}
use Rattle.program.specs.declared.instruction.Terminator.{Terminator}
use Rattle.program.specs.declared.instruction.Terminator.TheVariants as terminator
use Rattle.laws_conditions.specs.rules.Moves.{dest_of, JumpsTo, SyncsTo, EndsFrame}
use Rattle.laws_conditions.specs.rules.InProofs.{Moves, is_next, is_along}
use Rattle.laws_conditions.specs.rules.Costs.{numbers, parameters_of, measure_of, bound_of, self_calls_of, instructions_of, calls_left, instructions_left, Lacks}
use Rattle.program.specs.Calls.{callee_of}
use Rattle.laws_conditions.specs.rules.ShownCosts.{Out, EdgeShown, ForkShown, EndShown, CostsShown, FactsHold}
use Rattle.laws_conditions.specs.rules.Depths.{Levels, DepthTable}
use Rattle.laws_conditions.specs.rules.Serially.{IsShownSerially}
use Rattle.laws_conditions.specs.sample.PairCosts.{two_deep, PairWithinTables}
use Rattle.laws_conditions.proofs.rules.Moves.{moves, sync_here}
use Rattle.laws_conditions.proofs.rules.Serially.{by_shown, within_tables}

-- ---- what stands at its places

-- what its instructions have in common: none is a call, and none defines the parameter
record Simple (i : Instruction) : Type 0 where
  no_call : callee_of i ≡ None
  high : (d : ℕ) → dest_of i ≡ Some d → 1 ≤ d

same_instruction : (i j : Instruction) → Some (Does i) ≡ Some (Does j) → Simple i → Simple j
same_instruction i j e h = let same : i ≡ j = cc in subst Simple same h

defines : (i : Instruction) (k : ℕ) → callee_of i ≡ None → dest_of i ≡ Some (suc k) → Simple i
defines i k none is = record { no_call = none; high = λ d e. let same : suc k ≡ d = some_same (suc k) d (sym is ∙ e) in omega arith }

defines_none : (i : Instruction) → callee_of i ≡ None → dest_of i ≡ None → Simple i
defines_none i none is = record { no_call = none; high = λ d e. absurd (clash d (sym is ∙ e)) }
  where
    clash : (d : ℕ) → None ≡ Some d → ⊥
    clash d e = cc

does : (fn b i : ℕ) (x : Instruction) → item_at pair fn b i ≡ Some (Does x) → Simple x
does zero zero zero x e = same_instruction _ x e (defines _ 0 refl refl)
does zero zero (suc zero) x e = absurd (cc)
does zero zero (suc (suc i)) x e = absurd (cc)
does zero (suc zero) zero x e = same_instruction _ x e (defines _ 1 refl refl)
does zero (suc zero) (suc zero) x e = same_instruction _ x e (defines_none _ refl refl)
does zero (suc zero) (suc (suc zero)) x e = absurd (cc)
does zero (suc zero) (suc (suc (suc i))) x e = absurd (cc)
does zero (suc (suc zero)) zero x e = same_instruction _ x e (defines _ 2 refl refl)
does zero (suc (suc zero)) (suc zero) x e = same_instruction _ x e (defines_none _ refl refl)
does zero (suc (suc zero)) (suc (suc zero)) x e = absurd (cc)
does zero (suc (suc zero)) (suc (suc (suc i))) x e = absurd (cc)
does zero (suc (suc (suc zero))) zero x e = same_instruction _ x e (defines _ 3 refl refl)
does zero (suc (suc (suc zero))) (suc zero) x e = same_instruction _ x e (defines _ 4 refl refl)
does zero (suc (suc (suc zero))) (suc (suc zero)) x e = same_instruction _ x e (defines _ 5 refl refl)
does zero (suc (suc (suc zero))) (suc (suc (suc zero))) x e = same_instruction _ x e (defines _ 6 refl refl)
does zero (suc (suc (suc zero))) (suc (suc (suc (suc zero)))) x e = same_instruction _ x e (defines _ 7 refl refl)
does zero (suc (suc (suc zero))) (suc (suc (suc (suc (suc zero))))) x e = absurd (cc)
does zero (suc (suc (suc zero))) (suc (suc (suc (suc (suc (suc i)))))) x e = absurd (cc)
does zero (suc (suc (suc (suc b)))) i x e = absurd (cc)
does (suc fn) b i x e = absurd (cc)

data EndsAt : ℕ → ℕ → ℕ → Terminator → Type 0 where
  forks_at : EndsAt 0 0 1 (terminator.Detach (register 1) (block 1) (block 2))
  leaves_at : EndsAt 0 1 2 (terminator.Reattach (register 1) (block 2))
  joins_at : EndsAt 0 2 2 (terminator.Sync (register 1) (block 3))
  returns_at : EndsAt 0 3 5 (terminator.Return (Some (operand.Register (register 8))))

same_end : (fn b i : ℕ) (t u : Terminator) → Some (Ends t) ≡ Some (Ends u) → EndsAt fn b i t → EndsAt fn b i u
same_end fn b i t u e h = let same : t ≡ u = cc in subst (λ x. EndsAt fn b i x) same h

ends : (fn b i : ℕ) (t : Terminator) → item_at pair fn b i ≡ Some (Ends t) → EndsAt fn b i t
ends zero zero zero t e = absurd (cc)
ends zero zero (suc zero) t e = same_end 0 0 1 _ t e forks_at
ends zero zero (suc (suc i)) t e = absurd (cc)
ends zero (suc zero) zero t e = absurd (cc)
ends zero (suc zero) (suc zero) t e = absurd (cc)
ends zero (suc zero) (suc (suc zero)) t e = same_end 0 1 2 _ t e leaves_at
ends zero (suc zero) (suc (suc (suc i))) t e = absurd (cc)
ends zero (suc (suc zero)) zero t e = absurd (cc)
ends zero (suc (suc zero)) (suc zero) t e = absurd (cc)
ends zero (suc (suc zero)) (suc (suc zero)) t e = same_end 0 2 2 _ t e joins_at
ends zero (suc (suc zero)) (suc (suc (suc i))) t e = absurd (cc)
ends zero (suc (suc (suc zero))) zero t e = absurd (cc)
ends zero (suc (suc (suc zero))) (suc zero) t e = absurd (cc)
ends zero (suc (suc (suc zero))) (suc (suc zero)) t e = absurd (cc)
ends zero (suc (suc (suc zero))) (suc (suc (suc zero))) t e = absurd (cc)
ends zero (suc (suc (suc zero))) (suc (suc (suc (suc zero)))) t e = absurd (cc)
ends zero (suc (suc (suc zero))) (suc (suc (suc (suc (suc zero))))) t e = same_end 0 3 5 _ t e returns_at
ends zero (suc (suc (suc zero))) (suc (suc (suc (suc (suc (suc i)))))) t e = absurd (cc)
ends zero (suc (suc (suc (suc b)))) i t e = absurd (cc)
ends (suc fn) b i t e = absurd (cc)

no_jump : (fn b i c : ℕ) (t : Terminator) → EndsAt fn b i t → JumpsTo t c → ⊥
no_jump fn b i c t forks_at h = h
no_jump fn b i c t leaves_at h = h
no_jump fn b i c t joins_at h = h
no_jump fn b i c t returns_at h = h

-- ---- forms without registers

abbrev no_facts : ℕ → ℕ → ℕ → List Fact
no_facts fn b i = []

-- a constant is shown by nothing
constant_shown : (n : ℕ) → IsShown [] (constant_form (pos n))
constant_shown n = record {
  f = constant_form (pos 0);
  g = constant_form (pos 0);
  a = 1;
  b = 1;
  f_is = Contains-push [] (constant_form (pos 0));
  g_is = Contains-push [] (constant_form (pos 0));
  a_is = inl refl;
  b_is = inl refl;
  sum = record { terms = λ r. refl; constant = omega (arith, ints) };
}

calls_shown : (fn b : ℕ) → IsShown [] (calls_left pair fn b)
calls_shown zero zero = constant_shown 0
calls_shown zero (suc zero) = constant_shown 0
calls_shown zero (suc (suc zero)) = constant_shown 0
calls_shown zero (suc (suc (suc zero))) = constant_shown 0
calls_shown zero (suc (suc (suc (suc b)))) = constant_shown 0
calls_shown (suc fn) b = constant_shown 0

instructions_shown : (fn b : ℕ) → IsShown [] (instructions_left pair fn b)
instructions_shown zero zero = constant_shown 14
instructions_shown zero (suc zero) = constant_shown 3
instructions_shown zero (suc (suc zero)) = constant_shown 9
instructions_shown zero (suc (suc (suc zero))) = constant_shown 6
instructions_shown zero (suc (suc (suc (suc b)))) = constant_shown 0
instructions_shown (suc fn) b = constant_shown 0

no_terms : (fn b d : ℕ) → Lacks (calls_left pair fn b) d × Lacks (instructions_left pair fn b) d
no_terms zero zero d = (All-nil _, All-nil _)
no_terms zero (suc zero) d = (All-nil _, All-nil _)
no_terms zero (suc (suc zero)) d = (All-nil _, All-nil _)
no_terms zero (suc (suc (suc zero))) d = (All-nil _, All-nil _)
no_terms zero (suc (suc (suc (suc b)))) d = (All-nil _, All-nil _)
no_terms (suc fn) b d = (All-nil _, All-nil _)

one_parameter : (fn : ℕ) → parameters_of pair fn ≤ 1
one_parameter zero = omega arith
one_parameter (suc fn) = omega arith

no_phis : (fn b : ℕ) → All (λ (phi : Phi). parameters_of pair fn ≤ phi.register.0) (phis_at pair fn b)
no_phis zero zero = All-nil _
no_phis zero (suc zero) = All-nil _
no_phis zero (suc (suc zero)) = All-nil _
no_phis zero (suc (suc (suc zero))) = All-nil _
no_phis zero (suc (suc (suc (suc b)))) = All-nil _
no_phis (suc fn) b = All-nil _

outs : ℕ → ℕ → List Out
outs fn zero = []
outs fn (suc zero) = []
outs fn (suc (suc zero)) = record { target = 3; facts = [] } ∷ []
outs fn (suc (suc (suc b))) = []

no_call : (d : Option RegisterId) (g : FunctionId) (arguments : List Argument) (A : Type 0) → Simple (instruction.Call d g arguments) → A
no_call d g arguments A h = absurd (clash h.no_call)
  where
    clash : Some g.0 ≡ None → ⊥
    clash e = cc

edges_at : (fn b i : ℕ) (t : Terminator) → EndsAt fn b i t → All (EdgeShown pair fn b i) (outs fn b)
unfolding outs
edges_at fn b i t forks_at = All-nil _
edges_at fn b i t leaves_at = All-nil _
edges_at fn b i t joins_at = All-cons (EdgeShown pair 0 2 2) (record { target = 3; facts = [] }) [] (record { calls = constant_shown 0; instructions = constant_shown 0 }) (All-nil _)
edges_at fn b i t returns_at = All-nil _

forks_from : (fn b i : ℕ) (t : Terminator) (region : RegisterId) (body continuation : BlockId) → EndsAt fn b i t → t ≡ terminator.Detach region body continuation → ForkShown pair [] fn b i body.0 continuation.0
forks_from fn b i t region body continuation forks_at e =
    let first : block 1 ≡ body = cc in
    let second : block 2 ≡ continuation = cc in
    subst (λ (x : BlockId). ForkShown pair [] 0 0 1 x.0 continuation.0) first (subst (λ (x : BlockId). ForkShown pair [] 0 0 1 1 x.0) second (record { calls = constant_shown 0; instructions = constant_shown 0 }))
forks_from fn b i t region body continuation leaves_at e = absurd (cc)
forks_from fn b i t region body continuation joins_at e = absurd (cc)
forks_from fn b i t region body continuation returns_at e = absurd (cc)

ends_from : (fn b i : ℕ) (t : Terminator) → EndsAt fn b i t → EndsFrame t → EndShown pair [] fn b i
ends_from fn b i t forks_at h = absurd h
ends_from fn b i t leaves_at h = record { calls = constant_shown 0; instructions = constant_shown 0 }
ends_from fn b i t joins_at h = absurd h
ends_from fn b i t returns_at h = record { calls = constant_shown 0; instructions = constant_shown 0 }

pair_costs : CostsShown pair no_facts outs
pair_costs = record {
  steady = λ fn b i x d at is.
      let low = one_parameter fn in
      let high = (does fn b i x at).high d is in
      (omega (arith, low, high), (no_terms fn b d).0, (no_terms fn b d).1);
  steady_phis = no_phis;
  over_parameters = over;
  earlier = λ fn b i d g arguments at. no_call d g arguments _ (does fn b i (instruction.Call d g arguments) at);
  start_calls = calls_shown;
  start_instructions = instructions_shown;
  edges = λ fn b i t at. edges_at fn b i t (ends fn b i t at);
  forks = λ fn b i region body continuation at. forks_from fn b i (terminator.Detach region body continuation) region body continuation (ends fn b i (terminator.Detach region body continuation) at) refl;
  ends = λ fn b i t at h. ends_from fn b i t (ends fn b i t at) h;
  measure_low = low;
  measure_high = high;
  falls = λ fn b i d g arguments at same. no_call d g arguments _ (does fn b i (instruction.Call d g arguments) at);
  budget_calls = calls;
  budget_instructions = instructions;
}
  where
    over : (fn : ℕ) → All (λ t. t.register.0 < parameters_of pair fn) (measure_of pair fn).terms
    over zero = All-nil _
    over (suc fn) = All-nil _

    low : (fn : ℕ) → IsShown [] (measure_of pair fn)
    low zero = constant_shown 0
    low (suc fn) = constant_shown 0

    high : (fn : ℕ) → IsShown [] (minus (constant_form (pos (bound_of pair fn))) (measure_of pair fn))
    high zero = constant_shown 0
    high (suc fn) = constant_shown 0

    calls : (fn : ℕ) → IsShown [] (minus (constant_form (pos (self_calls_of pair fn))) (calls_left pair fn 0))
    calls zero = constant_shown 0
    calls (suc fn) = constant_shown 0

    instructions : (fn : ℕ) → IsShown [] (minus (constant_form (pos (instructions_of pair fn))) (instructions_left pair fn 0))
    instructions zero = constant_shown 0
    instructions (suc fn) = constant_shown 0

abbrev any_frame : Frame → Type 0
any_frame f = Unit {0}

no_edge : (p : Path) (f : Frame) (m : Memory) (e : Effect) (t : Terminator) → item_at pair f.function f.block f.index ≡ Some (Ends t) → Moves pair f e → ⊥
no_edge p f m e t at (is_next i here on) = let same : Some (Ends t) ≡ Some (Does i) = sym at ∙ here in cc
no_edge p f m e t at (is_along u here to on) = no_jump f.function f.block f.index e.block u (ends f.function f.block f.index u here) to

sync_out : (fn b i r c : ℕ) (t : Terminator) (v : ℕ → ℤ) → EndsAt fn b i t → SyncsTo t r c → (o : Out) × Contains (outs fn b) o × (o.target ≡ c) × AllHold v o.facts
unfolding outs
sync_out fn b i r c t v forks_at h = absurd h
sync_out fn b i r c t v leaves_at h = absurd h
sync_out fn b i r c t v joins_at h = (record { target = 3; facts = [] }, Contains-push [] (record { target = 3; facts = [] }), h.1, All-nil _)
sync_out fn b i r c t v returns_at h = absurd h

pair_facts : FactsHold pair any_frame no_facts outs
pair_facts = record {
  here = λ f fit. All-nil _;
  edge = λ p f m e t fit at act fine. absurd (no_edge p f m e t at (moves pair p f m e act fine));
  sync = λ p f m r c rs fit act. let (t, at, to) = sync_here pair p f m r c rs act in sync_out f.function f.block f.index r c t (numbers f.registers) (ends f.function f.block f.index t at) to;
  fork = λ p f m r body next fit act. (All-nil _, All-nil _);
}

-- ---- depths

level : ℕ → ℕ → ℕ
level fn zero = 0
level fn (suc zero) = 1
level fn (suc (suc b)) = 0

low_level : (fn b : ℕ) → level fn b ≤ 1
unfolding level
low_level fn zero = omega arith
low_level fn (suc zero) = omega arith
low_level fn (suc (suc b)) = omega arith

sync_level : (fn b i r c : ℕ) (t : Terminator) → EndsAt fn b i t → SyncsTo t r c → level fn c ≡ level fn b
unfolding level
sync_level fn b i r c t forks_at h = absurd h
sync_level fn b i r c t leaves_at h = absurd h
sync_level fn b i r c t joins_at h = rw (← h.1) refl
sync_level fn b i r c t returns_at h = absurd h

fork_level : (fn b i : ℕ) (t : Terminator) (region : RegisterId) (body continuation : BlockId) → EndsAt fn b i t → t ≡ terminator.Detach region body continuation → (level fn body.0 ≡ suc (level fn b)) × (level fn continuation.0 ≡ level fn b)
unfolding level
fork_level fn b i t region body continuation forks_at e =
    let first : block 1 ≡ body = cc in
    let second : block 2 ≡ continuation = cc in
    (subst (λ (x : BlockId). level 0 x.0 ≡ 1) first refl, subst (λ (x : BlockId). level 0 x.0 ≡ 0) second refl)
fork_level fn b i t region body continuation leaves_at e = absurd (cc)
fork_level fn b i t region body continuation joins_at e = absurd (cc)
fork_level fn b i t region body continuation returns_at e = absurd (cc)

pair_levels : Levels pair level
unfolding level
pair_levels = record {
  entry = entry;
  along = λ fn b i c t at to. absurd (no_jump fn b i c t (ends fn b i t at) to);
  sync = λ fn b i r c t at to. sync_level fn b i r c t (ends fn b i t at) to;
  body = λ fn b i region body continuation at. (fork_level fn b i (terminator.Detach region body continuation) region body continuation (ends fn b i (terminator.Detach region body continuation) at) refl).0;
  continuation = λ fn b i region body continuation at. (fork_level fn b i (terminator.Detach region body continuation) region body continuation (ends fn b i (terminator.Detach region body continuation) at) refl).1;
}
  where
    entry : (fn : ℕ) → level fn 0 ≡ 0
    entry fn = refl

pair_depths : DepthTable pair level two_deep
pair_depths = record {
  block = λ fn b m x there. let low = low_level fn b in omega (arith, low);
  call = λ fn b i m d g arguments at off. no_call d g arguments _ (does fn b i (instruction.Call d g arguments) at);
  self_call = λ fn b i m d g arguments at same. no_call d g arguments _ (does fn b i (instruction.Call d g arguments) at);
  rises = λ fn m. omega arith;
}

pair_shown : (n : ℤ) → IsShownSerially pair (Serial n) (Found n) any_frame no_facts outs level two_deep
pair_shown n = record {
  kept = (pair_serially n).kept;
  no_trap = λ p f m e g at. (pair_serially n).runs.no_trap p f m e g at;
  fit = λ p f m g. tt;
  holds = pair_facts;
  costs = pair_costs;
  levels = pair_levels;
  depths = pair_depths;
}

pub pair_within_tables : PairWithinTables
pair_within_tables n memory =
    let entry : At n (root_frame pair (n ∷ [])) 0 0 = record { function = refl; is_block = refl; is_index = refl; argument = refl; calls_nobody = λ k d w. absurd (cc) } in (
      within_tables pair (Serial n) (Found n) any_frame level two_deep (by_shown pair (Serial n) (Found n) any_frame no_facts outs level two_deep (pair_shown n)) (n ∷ []) memory (entry_start (root_frame pair (n ∷ [])) (globals_of memory) entry refl refl),
      refl,
    )
