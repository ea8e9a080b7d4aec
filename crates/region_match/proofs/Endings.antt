-- What a terminator breaks.
use Rattle.std.proofs.Common.{◌≡◌, ◌⊎◌, ℕ, List, Option, Some, None, inr, refl, sym, subst, ⊎_elim, arith}
use Rattle.program.specs.linear.declared.form.RegisterId.{RegisterId}
use Rattle.program.specs.declared.identifier.BlockId.{BlockId}
use Rattle.program.specs.declared.instruction.Ending.{Ending}
use Rattle.program.specs.declared.instruction.Terminator.{Terminator}
use Rattle.program.specs.declared.function.Block.{Block}
use Rattle.refusal.specs.declared.broken.Broken.{Broken}
use Rattle.region_match.specs.declared.task.Task.{Task}
use Rattle.region_match.specs.declared.task.Task.TheVariants.{Child}
use Rattle.region_match.specs.Rules.{ending_at, IsDetach}
use Rattle.refusal.specs.Earliest.{IsEarliest}
use Rattle.region_match.specs.ByLabel.{IsStrayBy, IsElsewhereBy, IsForeignBy, IsEndingWrongBy, IsEndingBrokenBy}
use Rattle.refusal.proofs.Elements.{earliest_one, earliest_same}

not_stray : (bodies : List Block) (task : Task) (detach : BlockId) (region : RegisterId) → task ≡ Child detach → (continuation : BlockId) × IsDetach (ending_at bodies detach.0) region continuation → IsStrayBy bodies task region → ⊥
not_stray bodies task detach region is within stray =
    let here : IsStrayBy bodies (Child detach) region = subst (λ t. IsStrayBy bodies t region) is stray in
    here within.0 within.1

pub reattach_elsewhere : (bodies : List Block) (task : Task) (detach : BlockId) (region : RegisterId) (continuation : BlockId) (line : ℕ) → task ≡ Child detach → (k : BlockId) × IsDetach (ending_at bodies detach.0) region k → ((r : RegisterId) × IsDetach (ending_at bodies detach.0) r continuation → ⊥) → IsEarliest (λ broken. (broken.line ≡ line) × (((broken.number ≡ 301) × IsStrayBy bodies task region) ⊎ ((broken.number ≡ 302) × IsElsewhereBy bodies task continuation))) (Some (record { line = line; number = 302 }))
reattach_elsewhere bodies task detach region continuation line is within other =
    let wrong : IsElsewhereBy bodies (Child detach) continuation = λ r h. other (r, h) in
    earliest_one (λ broken. (broken.line ≡ line) × (((broken.number ≡ 301) × IsStrayBy bodies task region) ⊎ ((broken.number ≡ 302) × IsElsewhereBy bodies task continuation))) (record { line = line; number = 302 })
    (refl, inr (refl, subst (λ t. IsElsewhereBy bodies t continuation) (sym is) wrong))
    (λ b p. (p.0, ⊎_elim (λ k. absurd (not_stray bodies task detach region is within k.1)) (λ k. omega (arith, k.0)) p.1))

pub reattach_right : (bodies : List Block) (task : Task) (detach : BlockId) (region : RegisterId) (continuation : BlockId) (line : ℕ) → task ≡ Child detach → (k : BlockId) × IsDetach (ending_at bodies detach.0) region k → (r : RegisterId) × IsDetach (ending_at bodies detach.0) r continuation → IsEarliest (λ broken. (broken.line ≡ line) × (((broken.number ≡ 301) × IsStrayBy bodies task region) ⊎ ((broken.number ≡ 302) × IsElsewhereBy bodies task continuation))) None
reattach_right bodies task detach region continuation line is within before = (
  tt,
  λ b p. ⊎_elim
      (λ k. not_stray bodies task detach region is within k.1)
      (λ k. let here : IsElsewhereBy bodies (Child detach) continuation = subst (λ t. IsElsewhereBy bodies t continuation) is k.1 in here before.0 before.1)
      p.1,
)

-- a known terminator
pub ending_known : (bodies : List Block) (tasks : List Task) (task : Task) (opt : Option Ending) (ending : Ending) (terminator : Terminator) (r : Option Broken) → opt ≡ Some ending → ending.terminator ≡ terminator → IsEarliest (λ broken. (broken.line ≡ ending.line) × IsEndingWrongBy bodies tasks task terminator broken.number) r → IsEarliest (IsEndingBrokenBy bodies tasks task opt) r
ending_known bodies tasks task opt ending terminator r is end j =
    subst (λ o. IsEarliest (IsEndingBrokenBy bodies tasks task o) r) (sym is)
    (earliest_same (λ broken. (broken.line ≡ ending.line) × IsEndingWrongBy bodies tasks task terminator broken.number) (IsEndingBrokenBy bodies tasks task (Some ending)) r
    (λ b p. (p.0, subst (λ t. IsEndingWrongBy bodies tasks task t b.number) (sym end) p.1))
    (λ b p. (p.0, subst (λ t. IsEndingWrongBy bodies tasks task t b.number) end p.1))
    j)

pub use_known : (bodies : List Block) (tasks : List Task) (task : Task) (region : RegisterId) (line : ℕ) (r : Option Broken) → IsEarliest (λ broken. (broken.number ≡ 303) × (broken.line ≡ line) × IsForeignBy bodies tasks task region) r → IsEarliest (λ broken. (broken.line ≡ line) × ((broken.number ≡ 303) × IsForeignBy bodies tasks task region)) r
use_known bodies tasks task region line r j = earliest_same _ _ r (λ b p. (p.1, (p.0, p.2))) (λ b p. (p.1.0, p.0, p.1.1)) j
