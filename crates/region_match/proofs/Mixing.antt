-- Blocks with two tasks, one by one.
use Rattle.std.proofs.Common.{◌≡◌, ◌≢◌, ◌↔◌, ℕ, ◌+◌, ◌<◌, ◌≤◌, Bool, true, false, List, length, get_or, Option, Some, None, inl, inr, refl, sym, ap, subst, ⊎_elim, ◌∙◌, arith}
use Rattle.std.specs.Prelude.{slice_get}
use Rattle.std.proofs.lemmas.Bool.{cases_eq, true≢false}
use Rattle.std.proofs.lemmas.Option.{slice_get-get_or, slice_get_within}
use Rattle.program.specs.declared.function.Block.{Block}
use Rattle.program.specs.declared.function.Function.{Function}
use Rattle.cfg.specs.declared.structure.BlockEdges.{BlockEdges}
use Rattle.refusal.specs.declared.broken.Broken.{Broken}
use Rattle.refusal.specs.Earliest.{IsJudged}
use Rattle.refusal.specs.Named.{IsLowerOf}
use Rattle.refusal.proofs.Places.{same_at}
use Rattle.refusal.proofs.Judging.{judged_lower, judged_same}
use Rattle.region_match.specs.declared.task.Task.{Task}
use Rattle.region_match.specs.declared.task.Task.TheVariants.{Unreached, Body, Child}
use Rattle.region_match.specs.Tasks.{AreTasks, HasTwoTasks, IsInnermostAt, task_at, task_on}
use Rattle.region_match.specs.Labels.{is_seen, IsLabelled}
use Rattle.region_match.specs.Mixed.{IsMixedBlock, IsMixedIn}
use Rattle.cfg.specs.Edges.{graph_of}

abbrev pub AreUnmixed : List Bool → ℕ → Type 0
AreUnmixed marks n = (b : ℕ) → b < n → get_or marks b false ≡ false

abbrev pub AreMixed : List Block → List BlockEdges → ℕ → Broken → Type 0
AreMixed bodies blocks n broken = (b : ℕ) × (block : Block) × (b < n) × (slice_get bodies b ≡ Some block) × (broken.number ≡ 306) × (broken.line ≡ block.line) × HasTwoTasks blocks b

-- one block
pub mixed_one : (blocks : List BlockEdges) (b line : ℕ) (mark : Bool) → (mark ≡ true) ↔ HasTwoTasks blocks b → mark ≡ true → IsJudged (mark ≡ false) (λ broken. (broken.number ≡ 306) × (broken.line ≡ line) × HasTwoTasks blocks b) (Some (record { line = line; number = 306 }))
mixed_one blocks b line mark exact on = ((refl, refl, exact.0 on), λ broken p. (omega (arith, p.1), λ same. omega (arith, p.0)))

pub unmixed_one : (blocks : List BlockEdges) (b line : ℕ) (mark : Bool) → (mark ≡ true) ↔ HasTwoTasks blocks b → mark ≡ false → IsJudged (mark ≡ false) (λ broken. (broken.number ≡ 306) × (broken.line ≡ line) × HasTwoTasks blocks b) None
unmixed_one blocks b line mark exact off = (off, λ broken p. true≢false (sym (exact.1 p.2) ∙ off))

pub mixed_next : (bodies : List Block) (blocks : List BlockEdges) (marks : List Bool) (i : ℕ) (block : Block) (named broken r : Option Broken) → i < length bodies → block ≡ get_or bodies i block → IsJudged (AreUnmixed marks i) (AreMixed bodies blocks i) named → IsJudged (get_or marks i false ≡ false) (λ broken. (broken.number ≡ 306) × (broken.line ≡ block.line) × HasTwoTasks blocks i) broken → IsLowerOf named broken r → IsJudged (AreUnmixed marks (i + 1)) (AreMixed bodies blocks (i + 1)) r
mixed_next bodies blocks marks i block named broken r l is before here lower =
    let read : slice_get bodies i ≡ Some block = slice_get-get_or bodies i block l ∙ ap Some (sym is) in
    judged_same _ _ _ _ r
    (λ s b w. ⊎_elim (λ same. rw same s.1) (λ other. s.0 b (omega (arith, w, other))) (cases_eq b i))
    (λ x p. ⊎_elim
    (λ old. (old.0, old.1, omega (arith, old.2), old.3, old.4, old.5, old.6))
    (λ new. (i, block, omega arith, read, new.0, new.1, new.2))
    p)
    (λ x p. ⊎_elim
    (λ same. let h = rw same at p.3 in let e : p.1 ≡ block = same_at bodies i p.1 block h read in inr (p.4, rw (← e) p.5, rw (← same) p.6))
    (λ other. inl (p.0, p.1, omega (arith, p.2, other), p.3, p.4, p.5, p.6))
    (cases_eq p.0 i))
    (judged_lower (AreUnmixed marks i) (get_or marks i false ≡ false) (AreMixed bodies blocks i) (λ broken. (broken.number ≡ 306) × (broken.line ≡ block.line) × HasTwoTasks blocks i) named broken r before here lower)

pub mixed_all : (bodies : List Block) (blocks : List BlockEdges) (marks : List Bool) (n : ℕ) (r : Option Broken) → length blocks ≡ length bodies → length bodies ≤ n → IsJudged (AreUnmixed marks n) (AreMixed bodies blocks n) r → IsJudged ((b : ℕ) → b < length blocks → get_or marks b false ≡ false) (IsMixedBlock bodies blocks) r
mixed_all bodies blocks marks n r size past j = judged_same _ _ _ _ r
    (λ s b w. s b (omega (arith, w, size, past)))
    (λ x p. (p.0, p.1, p.3, p.4, p.5, p.6))
    (λ x p. (p.0, p.1, (let w = slice_get_within bodies p.0 p.1 p.2 in omega (arith, w, past)), p.2, p.3, p.4, p.5))
    j

unseen : (task : Task) → is_seen task ≡ false → task ≡ Unreached
unseen Unreached h = refl
unseen Body h = absurd (true≢false h)
unseen (Child d) h = absurd (true≢false h)

seen_of : (task : Task) → task ≢ Unreached → is_seen task ≡ true
seen_of Unreached h = absurd (h refl)
seen_of Body h = refl
seen_of (Child d) h = refl

-- where no block is mixed, the labels are the tasks
pub tasks_of : (blocks : List BlockEdges) (tasks : List Task) → IsLabelled blocks tasks → ((b : ℕ) → b < length blocks → IsInnermostAt blocks tasks b) → AreTasks blocks tasks
tasks_of blocks tasks s inner = record {
  size = s.size;
  innermost = inner;
  reached = λ b h. let p = s.path b (seen_of (task_at tasks b) h) in (task_on p.0, (p.0, p.1, refl));
}

-- what is named of a function
pub tasks_judged : (function : Function) (bodies : List Block) (blocks : List BlockEdges) (tasks : List Task) (marks : List Bool) (r : Option Broken) → bodies ≡ function.blocks → blocks ≡ (graph_of function).blocks → IsLabelled blocks tasks → ((b : ℕ) → b < length blocks → get_or marks b false ≡ false → IsInnermostAt blocks tasks b) → IsJudged ((b : ℕ) → b < length blocks → get_or marks b false ≡ false) (IsMixedBlock bodies blocks) r → IsJudged (AreTasks blocks tasks) (IsMixedIn function) r
tasks_judged function bodies blocks tasks marks r read made s inner j =
    judged_same _ _ _ _ r
    (λ off. tasks_of blocks tasks s (λ b l. inner b l (off b l)))
    (λ x p. subst (λ bs. IsMixedBlock bs (graph_of function).blocks x) read (subst (λ es. IsMixedBlock bodies es x) made p))
    (λ x p. subst (λ bs. IsMixedBlock bs blocks x) (sym read) (subst (λ es. IsMixedBlock function.blocks es x) (sym made) p))
    j
