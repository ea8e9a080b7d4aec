-- The tasks of the blocks of a program have one table.
use Rattle.std.proofs.Common.{◌≡◌, ◌≢◌, ◌∙◌, ◌⊎◌, ℕ, suc, ◌<◌, List, [], ◌∷◌, length, inl, inr, refl, sym, arith}
use Rattle.cfg.specs.declared.structure.BlockEdges.{BlockEdges}
use Rattle.region_match.specs.declared.task.Task.{Task}
use Rattle.region_match.specs.declared.task.Task.TheVariants.{Unreached, Body, Child}
use Rattle.region_match.specs.Tasks.{task_at, AreTasks}
use Rattle.laws_phases.specs.zones.Tables.{TasksHaveOneTable}

same_items : (xs ys : List Task) → length xs ≡ length ys → ((k : ℕ) → k < length xs → task_at xs k ≡ task_at ys k) → xs ≡ ys
same_items [] [] l h = refl
same_items [] (y ∷ ys) l h = absurd (omega (arith, l))
same_items (x ∷ xs) [] l h = absurd (omega (arith, l))
same_items (x ∷ xs) (y ∷ ys) l h =
    let first : x ≡ y = h 0 (omega arith) in
    let rest : xs ≡ ys = same_items xs ys (omega (arith, l)) (λ k lt. h (suc k) (omega (arith, lt))) in
    λ i. first i ∷ rest i

is_reached : (t : Task) → (t ≡ Unreached) ⊎ (t ≢ Unreached)
is_reached Unreached = inl refl
is_reached Body = inr (λ e. absurd (cc))
is_reached (Child d) = inr (λ e. absurd (cc))

module _ (blocks : List BlockEdges) (a b : List Task) (one : AreTasks blocks a) (other : AreTasks blocks b) where
  -- where the one has a task, the other has it too
  by_path : (k : ℕ) → k < length blocks → task_at a k ≢ Unreached → task_at a k ≡ task_at b k
  by_path k lt reached =
      let path = one.reached k reached in
      one.innermost k lt path.1.0 path.1.1 ∙ sym (other.innermost k lt path.1.0 path.1.1)

table_is : (blocks : List BlockEdges) (a b : List Task) → AreTasks blocks a → AreTasks blocks b → a ≡ b
table_is blocks a b one other = same_items a b (one.size ∙ sym other.size) (λ k lt. at k (omega (arith, lt, one.size)) (is_reached (task_at a k)) (is_reached (task_at b k)))
  where
    at : (k : ℕ) → k < length blocks → (task_at a k ≡ Unreached) ⊎ (task_at a k ≢ Unreached) → (task_at b k ≡ Unreached) ⊎ (task_at b k ≢ Unreached) → task_at a k ≡ task_at b k
    at k lt (inr reached) d = by_path blocks a b one other k lt reached
    at k lt (inl e) (inr reached) = sym (by_path blocks b a other one k lt reached)
    at k lt (inl e) (inl f) = e ∙ sym f

pub one_table : TasksHaveOneTable
one_table [] [] [] h k = refl
one_table [] [] (y ∷ ys) h k = absurd k
one_table [] (x ∷ xs) ys h k = absurd h
one_table (g ∷ gs) [] ys h k = absurd h
one_table (g ∷ gs) (x ∷ xs) [] h k = absurd k
one_table (g ∷ gs) (x ∷ xs) (y ∷ ys) h k =
    let first : x.tasks ≡ y.tasks = table_is g.blocks x.tasks y.tasks h.0 k.0 in
    let rest : xs ≡ ys = one_table gs xs ys h.1 k.1 in
    λ i. record { tasks = first i } ∷ rest i
