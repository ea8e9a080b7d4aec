-- The blocks that start a region, one by one.
use Rattle.std.proofs.Common.{◌≡◌, ℕ, ◌+◌, ◌<◌, ◌≤◌, List, length, get_or, Some, sym, ap, ⊎_elim, ◌∙◌, arith}
use Rattle.std.specs.Prelude.{slice_get}
use Rattle.std.proofs.lemmas.Bool.{cases_eq}
use Rattle.std.proofs.lemmas.Option.{slice_get-get_or, slice_get_within}
use Rattle.program.specs.linear.declared.form.RegisterId.{RegisterId}
use Rattle.program.specs.declared.function.Block.{Block}
use Rattle.region_match.specs.declared.task.Task.{Task}
use Rattle.region_match.specs.Tasks.{task_at}
use Rattle.region_match.specs.Rules.{Starts}
use Rattle.refusal.proofs.Places.{same_at, read_at}
use Rattle.region_match.specs.ByLabel.{IsStartedBy}

-- none of the first blocks of this label starts the region
abbrev pub IsNotStarted : List Block → List Task → RegisterId → Task → ℕ → Type 0
IsNotStarted bodies tasks region task n = (b : ℕ) (block : Block) → b < n → slice_get bodies b ≡ Some block → Starts region block.steps → task_at tasks b ≡ task → ⊥

pub not_started_more : (bodies : List Block) (tasks : List Task) (region : RegisterId) (task : Task) (i : ℕ) (block : Block) → i < length bodies → block ≡ get_or bodies i block → IsNotStarted bodies tasks region task i → (Starts region block.steps → task_at tasks i ≡ task → ⊥) → IsNotStarted bodies tasks region task (i + 1)
not_started_more bodies tasks region task i block l is before here b x w h starts t =
    ⊎_elim
    (λ same.
    let e : x ≡ block = same_at bodies i x block (rw (← same) h) (read_at bodies i block l is) in
    here (rw (← e) starts) (rw (← same) t))
    (λ other. before b x (omega (arith, w, other)) h starts t)
    (cases_eq b i)

pub not_started_all : (bodies : List Block) (tasks : List Task) (region : RegisterId) (task : Task) (n : ℕ) → length bodies ≤ n → IsNotStarted bodies tasks region task n → IsStartedBy bodies tasks region task → ⊥
not_started_all bodies tasks region task n past none started =
    none started.0 started.1 (let w = slice_get_within bodies started.0 started.1 started.2 in omega (arith, w, past)) started.2 started.3 started.4
