-- What terminators do to children, block by block.
use Rattle.std.proofs.Common.{◌≡◌, ◌↔◌, ℕ, ◌+◌, ◌<◌, List, [], ◌∷◌, ◌++◌, length, get_or, Some, inl, inr, refl, sym, ap, subst, ◌∙◌, arith}
use Rattle.std.specs.Prelude.{slice_get}
use Rattle.std.proofs.lemmas.Bool.{cases_eq, cases_lt}
use Rattle.std.proofs.lemmas.List.{length_push, get_or_append_left, get_or_push}
use Rattle.std.proofs.lemmas.Option.{slice_get-get_or, slice_get_within, slice_get_past}
use Rattle.program.specs.declared.function.Block.{Block}
use Rattle.cfg.specs.declared.structure.BlockEdges.{BlockEdges}
use Rattle.region_match.specs.declared.task.Task.{Task}
use Rattle.region_match.specs.declared.task.Task.TheVariants.{Child}
use Rattle.region_match.specs.Rules.{ending_at}
use Rattle.region_match.specs.Tasks.{task_at, AreTasks}
use Rattle.region_match.proofs.Conversion.{label_of as label_of_task, child_task}
use Rattle.definedness_allocas.specs.declared.fork.Fork.{Fork}
use Rattle.definedness.specs.Sure.{IsReattach, IsEndOf}
use Rattle.definedness.specs.ForkOf.{IsForkOf}

-- a block with a reattach is a block
pub end_within : (bodies : List Block) (b : ℕ) → IsReattach (ending_at bodies b) → b < length bodies
end_within bodies b r = elim (cases_lt b (length bodies)) [
  | inl l ↦ l
  | inr past ↦ absurd (let none = slice_get_past bodies b past in let e = rw none at r.2 in cc)
]

-- the task of a block that ends a child
pub end_task : (bodies : List Block) (blocks : List BlockEdges) (tasks : List Task) (detach n : ℕ) → AreTasks blocks tasks → length blocks ≡ length bodies → n < length bodies → IsEndOf bodies blocks detach n → task_at tasks n ≡ Child (record { 0 = detach })
end_task bodies blocks tasks detach n t size l is = label_of_task bodies blocks tasks t size n (detach ∷ is.1) (omega (arith, l, size)) is.2

-- a block of this task that ends with a reattach ends the child of its detach
pub ends_child : (bodies : List Block) (blocks : List BlockEdges) (tasks : List Task) (n : ℕ) → AreTasks blocks tasks → length blocks ≡ length bodies → n < length bodies → IsReattach (ending_at bodies n) → (detach : ℕ) → (task_at tasks n ≡ Child (record { 0 = detach })) ↔ IsEndOf bodies blocks detach n
ends_child bodies blocks tasks n t size l r detach = (
  λ child. let task = child_task bodies blocks tasks t size n (record { 0 = detach }) (omega (arith, l, size)) child in (r, task.0, task.1),
  λ is. end_task bodies blocks tasks detach n t size l is,
)

pub record ForksBelow (bodies : List Block) (blocks : List BlockEdges) (n : ℕ) (forks : List Fork) : Type 0 where
  pub size : length forks ≡ n
  pub each : (b : ℕ) (fork : Fork) → slice_get forks b ≡ Some fork → IsForkOf bodies blocks b fork

pub forks_none : (bodies : List Block) (blocks : List BlockEdges) → ForksBelow bodies blocks 0 []
forks_none bodies blocks = record { size = refl; each = λ b fork at. absurd (let w = slice_get_within [] b fork at in omega (arith, w)) }

pub forks_more : (bodies : List Block) (blocks : List BlockEdges) (n : ℕ) (forks : List Fork) (fork : Fork) → IsForkOf bodies blocks n fork → ForksBelow bodies blocks n forks → ForksBelow bodies blocks (n + 1) (forks ++ fork ∷ [])
forks_more bodies blocks n forks fork here f =
    let longer : length (forks ++ fork ∷ []) ≡ length forks + 1 = length_push forks fork in
    record {
      size = omega (arith, longer, f.size);
      each = λ b other at.
          let w : b < length (forks ++ fork ∷ []) = slice_get_within (forks ++ fork ∷ []) b other at in
          let read : Some (get_or (forks ++ fork ∷ []) b fork) ≡ Some other = sym (slice_get-get_or (forks ++ fork ∷ []) b fork w) ∙ at in
          elim (cases_eq b n) [
            | inl e ↦
                let last : length forks ≡ b = f.size ∙ sym e in
                let value : get_or (forks ++ fork ∷ []) b fork ≡ fork = get_or_push forks fork fork b last in
                let same : fork ≡ other = cc in
                rw e (subst (IsForkOf bodies blocks n) same here)
            | inr ne ↦
                let before : b < length forks = omega (arith, w, longer, ne, f.size) in
                let old : slice_get forks b ≡ Some other = slice_get-get_or forks b fork before ∙ ap Some (sym (get_or_append_left forks (fork ∷ []) fork b before)) ∙ read in
                f.each b other old
          ];
    }
