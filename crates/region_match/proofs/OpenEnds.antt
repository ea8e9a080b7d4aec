-- The ends of tasks that a detach is open at.
use Rattle.std.proofs.Common.{◌≡◌, ◌↔◌, ℕ, ◌+◌, ◌<◌, ◌≤◌, Bool, true, IsTrue, List, length, Option, Some, None, inl, inr, sym, ap, subst, ⊎_elim, ◌∙◌, arith}
use Rattle.std.proofs.lemmas.Bool.{cases_eq, cases_lt}
use Rattle.std.proofs.lemmas.Option.{slice_get_past}
use Rattle.program.specs.linear.declared.form.RegisterId.{RegisterId}
use Rattle.program.specs.declared.identifier.BlockId.{BlockId}
use Rattle.program.specs.declared.instruction.Ending.{Ending}
use Rattle.program.specs.declared.instruction.Terminator.{Terminator}
use Rattle.program.specs.declared.instruction.Terminator.TheVariants.{Detach}
use Rattle.program.specs.declared.function.Block.{Block}
use Rattle.cfg.specs.declared.structure.BlockEdges.{BlockEdges}
use Rattle.refusal.specs.declared.broken.Broken.{Broken}
use Rattle.refusal.specs.Earliest.{IsEarliest}
use Rattle.refusal.specs.Named.{IsLowerOf}
use Rattle.cfg.specs.Paths.{Leg, IsPath}
use Rattle.region_match.specs.declared.task.Task.{Task}
use Rattle.region_match.specs.Tasks.{task_at, HasTask, AreTasks, innermost}
use Rattle.region_match.specs.Labels.{is_seen}
use Rattle.region_match.specs.Rules.{ending_at, ending_of, IsDetach, IsUnsynced, IsOpen, is_leave, IsOpenEnd}
use Rattle.region_match.specs.ByLabel.{IsOpenEndOf}
use Rattle.refusal.proofs.Elements.{earliest_same, earliest_both}
use Rattle.refusal.proofs.Places.{Within}
use Rattle.region_match.proofs.Conversion.{label_of, same_task, seen_not, seen_task}

detach_same : (t : Option Terminator) (r r' : RegisterId) (k k' : BlockId) → IsDetach t r k → IsDetach t r' k' → (r ≡ r') × (k ≡ k')
detach_same t r r' k k' h h' =
    let e : Some (Detach r h.0 k) ≡ Some (Detach r' h'.0 k') = sym h.1 ∙ h'.1 in
    (cc, cc)

detach_within : (bodies : List Block) (d : ℕ) (r : RegisterId) (k : BlockId) → IsDetach (ending_at bodies d) r k → d < length bodies
detach_within bodies d r k h =
    ⊎_elim
    (λ l. l)
    (λ g.
    let none : ending_at bodies d ≡ None = ap ending_of (slice_get_past bodies d g) in
    let e : None ≡ Some (Detach r h.0 k) = sym none ∙ h.1 in
    absurd cc)
    (cases_lt d (length bodies))

module _ (bodies : List Block) (blocks : List BlockEdges) (tasks : List Task) (t : AreTasks blocks tasks) (size : length blocks ≡ length bodies) where
  pub open_iff : (d to : ℕ) (region : RegisterId) (continuation : BlockId) (reached same first mark all : Bool) → d < length blocks → to < length blocks → IsDetach (ending_at bodies d) region continuation → reached ≡ is_seen (task_at tasks d) → IsTrue same ↔ (task_at tasks to ≡ task_at tasks d) → IsTrue first ↔ ((IsTrue reached) × (IsTrue same)) → (mark ≡ true) ↔ ((legs : List Leg) × IsPath blocks continuation.0 legs to × IsUnsynced bodies region legs) → IsTrue all ↔ ((IsTrue first) × (IsTrue mark)) → IsTrue all ↔ IsOpen bodies blocks d to
  open_iff d to region continuation reached same first mark all l l' detach r s f m a = (
    λ h.
        let both = a.0 h in
        let pair = f.0 both.0 in
        let seen : is_seen (task_at tasks d) ≡ true = sym r ∙ pair.0 in
        let label : task_at tasks to ≡ task_at tasks d = s.0 pair.1 in
        let path = m.0 both.1 in
        let mine = t.reached d (seen_not (task_at tasks d) seen) in
        let its = t.reached to (λ u. seen_not (task_at tasks d) seen (sym label ∙ u)) in
        let same_tasks : its.0 ≡ mine.0 = same_task bodies blocks tasks t size to d its.0 mine.0 l' l its.1 mine.1 label in
        record {
          region = region;
          continuation = continuation;
          is_detach = detach;
          task = mine.0;
          detach_task = mine.1;
          end_task = subst (λ ds. HasTask blocks to ds) same_tasks its.1;
          legs = path.0;
          path = path.1;
          unsynced = path.2;
        },
    λ o.
        let names = detach_same (ending_at bodies d) o.region region o.continuation continuation o.is_detach detach in
        let at_detach : task_at tasks d ≡ innermost o.task = label_of bodies blocks tasks t size d o.task l o.detach_task in
        let at_end : task_at tasks to ≡ innermost o.task = label_of bodies blocks tasks t size to o.task l' o.end_task in
        let seen : is_seen (task_at tasks d) ≡ true = rw at_detach (seen_task bodies blocks tasks t size o.task) in
        let p : IsPath blocks continuation.0 o.legs to = subst (λ (k : BlockId). IsPath blocks k.0 o.legs to) names.1 o.path in
        let u : IsUnsynced bodies region o.legs = subst (λ (g : RegisterId). IsUnsynced bodies g o.legs) names.0 o.unsynced in
        a.1 (f.1 (r ∙ seen, s.1 (at_end ∙ sym at_detach)), m.1 (o.legs, p, u)),
  )

-- what one end says
abbrev pub OpenAt : List Block → List BlockEdges → ℕ → ℕ → Block → Broken → Type 0
OpenAt bodies blocks d to block broken = (end : Ending) × (block.ending ≡ Some end) × (is_leave end.terminator ≡ true) × (broken.number ≡ 304) × (broken.line ≡ end.line) × IsOpen bodies blocks d to

pub end_open : (bodies : List Block) (blocks : List BlockEdges) (d to : ℕ) (block : Block) (all : Bool) (r : Option Broken) → IsTrue all ↔ IsOpen bodies blocks d to → IsEarliest (λ b. (end : Ending) × (block.ending ≡ Some end) × (is_leave end.terminator ≡ true) × (b.number ≡ 304) × (b.line ≡ end.line) × (IsTrue all)) r → IsEarliest (OpenAt bodies blocks d to block) r
end_open bodies blocks d to block all r at j = earliest_same _ _ r
    (λ x p. (p.0, p.1, p.2, p.3, p.4, at.0 p.5))
    (λ x p. (p.0, p.1, p.2, p.3, p.4, at.1 p.5))
    j

pub open_within : (bodies : List Block) (blocks : List BlockEdges) (d : ℕ) (r : Option Broken) → IsEarliest (Within (OpenAt bodies blocks d) bodies) r → IsEarliest (IsOpenEndOf bodies blocks d) r
open_within bodies blocks d r j = earliest_same _ _ r
    (λ x p. (p.0, p.1, p.3.0, p.2, p.3.1, p.3.2, p.3.3, p.3.4, p.3.5))
    (λ x p. (p.0, p.1, p.3, (p.2, p.4, p.5, p.6, p.7, p.8)))
    j

-- the first detaches
abbrev pub OpenBelow : List Block → List BlockEdges → ℕ → Broken → Type 0
OpenBelow bodies blocks n broken = (d : ℕ) × (d < n) × IsOpenEndOf bodies blocks d broken

pub open_none : (bodies : List Block) (blocks : List BlockEdges) → IsEarliest (OpenBelow bodies blocks 0) None
open_none bodies blocks = (tt, λ b p. absurd (omega (arith, p.1)))

pub open_next : (bodies : List Block) (blocks : List BlockEdges) (n : ℕ) (named broken r : Option Broken) → IsEarliest (OpenBelow bodies blocks n) named → IsEarliest (IsOpenEndOf bodies blocks n) broken → IsLowerOf named broken r → IsEarliest (OpenBelow bodies blocks (n + 1)) r
open_next bodies blocks n named broken r before here lower = earliest_same _ _ r
    (λ x p. ⊎_elim (λ old. (old.0, omega (arith, old.1), old.2)) (λ new. (n, omega arith, new)) p)
    (λ x p. ⊎_elim (λ same. inr (subst (λ d. IsOpenEndOf bodies blocks d x) same p.2)) (λ other. inl (p.0, omega (arith, p.1, other), p.2)) (cases_eq p.0 n))
    (earliest_both (OpenBelow bodies blocks n) (IsOpenEndOf bodies blocks n) named broken r before here lower)

pub open_all : (bodies : List Block) (blocks : List BlockEdges) (n : ℕ) (r : Option Broken) → length bodies ≤ n → IsEarliest (OpenBelow bodies blocks n) r → IsEarliest (IsOpenEnd bodies blocks) r
open_all bodies blocks n r past j = earliest_same _ _ r
    (λ x p. (p.2.0, p.2.1, p.2.2, p.2.3, p.2.4, p.2.5, p.2.6, p.2.7, p.0, p.2.8))
    (λ x p.
    let o : IsOpen bodies blocks p.8 p.0 = p.9 in
    let w = detach_within bodies p.8 o.region o.continuation o.is_detach in
    (p.8, omega (arith, w, past), (p.0, p.1, p.2, p.3, p.4, p.5, p.6, p.7, o)))
    j

-- a block that does not end with a detach
pub no_detach : (bodies : List Block) (blocks : List BlockEdges) (d : ℕ) → ((r : RegisterId) (k : BlockId) → IsDetach (ending_at bodies d) r k → ⊥) → IsEarliest (IsOpenEndOf bodies blocks d) None
no_detach bodies blocks d none = (tt, λ x p. let o : IsOpen bodies blocks d p.0 = p.8 in none o.region o.continuation o.is_detach)
