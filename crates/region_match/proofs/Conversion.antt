-- Between labels and tasks.
use Rattle.std.proofs.Common.{◌≡◌, ◌≢◌, ℕ, ◌<◌, true, List, [], ◌∷◌, suc, length, Option, Some, None, inl, inr, refl, sym, ap, subst, ⊎_elim, ◌∙◌, arith}
use Rattle.std.proofs.lemmas.Option.{slice_get_within}
use Rattle.program.specs.linear.declared.form.RegisterId.{RegisterId}
use Rattle.program.specs.declared.identifier.BlockId.{BlockId}
use Rattle.program.specs.declared.annotation.Pending.{Pending}
use Rattle.program.specs.declared.instruction.Ending.{Ending}
use Rattle.program.specs.declared.instruction.Terminator.{Terminator}
use Rattle.program.specs.declared.instruction.Terminator.TheVariants.{Jump, Branch, Switch, Return, Detach, Reattach, Sync}
use Rattle.program.specs.declared.function.Block.{Block}
use Rattle.cfg.specs.declared.structure.BlockEdges.{BlockEdges}
use Rattle.refusal.specs.declared.broken.Broken.{Broken}
use Rattle.region_match.specs.declared.task.Task.{Task}
use Rattle.region_match.specs.declared.task.Task.TheVariants.{Unreached, Body, Child}
use Rattle.region_match.specs.Tasks.{task_on, innermost, task_at, HasTask, AreTasks}
use Rattle.region_match.specs.Labels.{is_seen}
use Rattle.region_match.specs.Rules.{IsStray, IsElsewhere, IsForeign, IsInside, IsEndingWrong, IsEndingBroken, IsPendingBroken}
use Rattle.region_match.specs.ByLabel.{IsStrayBy, IsElsewhereBy, IsForeignBy, IsInsideBy, IsEndingWrongBy, IsEndingBrokenBy, IsPendingBrokenBy}
use Rattle.region_match.proofs.OneTask.{one_task, start_within, no_task, IsClear}

Child≢Body : (d : BlockId) → Child d ≡ Body → ⊥
Child≢Body d e = cc

Child≢Unreached : (d : BlockId) → Child d ≡ Unreached → ⊥
Child≢Unreached d e = cc

Body≢Unreached : Body ≡ Unreached → ⊥
Body≢Unreached e = cc

pub seen_not : (task : Task) → is_seen task ≡ true → task ≢ Unreached
seen_not Unreached h e = absurd cc
seen_not Body h e = Body≢Unreached e
seen_not (Child d) h e = Child≢Unreached d e

first_of : (ds : List ℕ) (d : BlockId) → innermost ds ≡ Child d → (outer : List ℕ) × (ds ≡ d.0 ∷ outer)
first_of [] d e = absurd (Child≢Body d (sym e))
first_of (x ∷ xs) d e =
    let same : record { 0 = x } ≡ d = cc in
    (xs, ap (λ (b : BlockId). b.0 ∷ xs) same)

module _ (bodies : List Block) (blocks : List BlockEdges) (tasks : List Task) (t : AreTasks blocks tasks) (size : length blocks ≡ length bodies) where
  pub label_of : (b : ℕ) (ds : List ℕ) → b < length blocks → HasTask blocks b ds → task_at tasks b ≡ innermost ds
  label_of b ds l h = t.innermost b l h.0 h.1 ∙ ap innermost h.2

  pub same_task : (b c : ℕ) (ds es : List ℕ) → b < length blocks → c < length blocks → HasTask blocks b ds → HasTask blocks c es → task_at tasks b ≡ task_at tasks c → ds ≡ es
  same_task b c ds es l l' h k e =
      let clear : (x : ℕ) → x < length blocks → IsClear blocks tasks x = λ x w d legs path. t.innermost d (start_within blocks d x legs path w) in
      let inner : innermost (task_on h.0) ≡ innermost (task_on k.0) = sym (t.innermost b l h.0 h.1) ∙ e ∙ t.innermost c l' k.0 k.1 in
      sym h.2 ∙ one_task blocks tasks (suc (length h.0)) b c h.0 k.0 (omega arith) (clear b l) (clear c l') h.1 k.1 inner ∙ k.2

  pub body_task : (b : ℕ) → b < length blocks → task_at tasks b ≡ Body → HasTask blocks b []
  body_task b l e =
      let r = t.reached b (λ u. Body≢Unreached (sym e ∙ u)) in
      subst (λ ds. HasTask blocks b ds) (no_task r.0 (sym (label_of b r.0 l r.1) ∙ e)) r.1

  pub child_task : (b : ℕ) (d : BlockId) → b < length blocks → task_at tasks b ≡ Child d → (outer : List ℕ) × HasTask blocks b (d.0 ∷ outer)
  child_task b d l e =
      let r = t.reached b (λ u. Child≢Unreached d (sym e ∙ u)) in
      let f = first_of r.0 d (sym (label_of b r.0 l r.1) ∙ e) in
      (f.0, subst (λ ds. HasTask blocks b ds) f.1 r.1)

  -- ---- 301, 302, 305

  stray_by : (b : ℕ) (region : RegisterId) → b < length blocks → IsStray bodies blocks b region → IsStrayBy bodies (task_at tasks b) region
  stray_by b region l s = ⊎_elim
      (λ h. subst (λ x. IsStrayBy bodies x region) (sym (label_of b [] l h)) tt)
      (λ p. subst (λ x. IsStrayBy bodies x region) (sym (label_of b (p.0 ∷ p.1) l p.2)) p.3)
      s

  stray_from : (b : ℕ) (region : RegisterId) (task : Task) → b < length blocks → task_at tasks b ≡ task → IsStrayBy bodies task region → IsStray bodies blocks b region
  stray_from b region Unreached l e s = absurd s
  stray_from b region Body l e s = inl (body_task b l e)
  stray_from b region (Child d) l e s = let c = child_task b d l e in inr (d.0, c.0, c.1, s)

  elsewhere_by : (b : ℕ) (k : BlockId) → b < length blocks → IsElsewhere bodies blocks b k → IsElsewhereBy bodies (task_at tasks b) k
  elsewhere_by b k l p = subst (λ x. IsElsewhereBy bodies x k) (sym (label_of b (p.0 ∷ p.1) l p.2)) p.3

  elsewhere_from : (b : ℕ) (k : BlockId) (task : Task) → b < length blocks → task_at tasks b ≡ task → IsElsewhereBy bodies task k → IsElsewhere bodies blocks b k
  elsewhere_from b k Unreached l e s = absurd s
  elsewhere_from b k Body l e s = absurd s
  elsewhere_from b k (Child d) l e s = let c = child_task b d l e in (d.0, c.0, c.1, s)

  inside_by : (b : ℕ) → b < length blocks → IsInside blocks b → IsInsideBy (task_at tasks b)
  inside_by b l p = subst (λ x. IsInsideBy x) (sym (label_of b (p.0 ∷ p.1) l p.2)) tt

  inside_from : (b : ℕ) (task : Task) → b < length blocks → task_at tasks b ≡ task → IsInsideBy task → IsInside blocks b
  inside_from b Unreached l e s = absurd s
  inside_from b Body l e s = absurd s
  inside_from b (Child d) l e s = let c = child_task b d l e in (d.0, c.0, c.1)

  -- ---- 303

  pub seen_task : (ds : List ℕ) → is_seen (innermost ds) ≡ true
  seen_task [] = refl
  seen_task (d ∷ ds) = refl

  foreign_by : (b : ℕ) (region : RegisterId) → b < length blocks → IsForeign bodies blocks b region → IsForeignBy bodies tasks (task_at tasks b) region
  foreign_by b region l p = (
    rw (label_of b p.0 l p.1) (seen_task p.0),
    λ s.
        let w : s.0 < length blocks = (let v = slice_get_within bodies s.0 s.1 s.2 in omega (arith, v, size)) in
        let r = t.reached s.0 (λ u. seen_not (task_at tasks b) (rw (label_of b p.0 l p.1) (seen_task p.0)) (sym s.4 ∙ u)) in
        let same : r.0 ≡ p.0 = same_task s.0 b r.0 p.0 w l r.1 p.1 s.4 in
        p.2 (s.0, s.1, s.2, s.3, subst (λ ds. HasTask blocks s.0 ds) same r.1),
  )

  foreign_from : (b : ℕ) (region : RegisterId) → b < length blocks → IsForeignBy bodies tasks (task_at tasks b) region → IsForeign bodies blocks b region
  foreign_from b region l p =
      let r = t.reached b (seen_not (task_at tasks b) p.0) in (
        r.0,
        r.1,
        λ s.
            let w : s.0 < length blocks = (let v = slice_get_within bodies s.0 s.1 s.2 in omega (arith, v, size)) in
            p.1 (s.0, s.1, s.2, s.3, label_of s.0 r.0 w s.4 ∙ sym (label_of b r.0 l r.1)),
      )

  -- ---- a terminator

  wrong_by : (b : ℕ) (terminator : Terminator) (number : ℕ) → b < length blocks → IsEndingWrong bodies blocks b terminator number → IsEndingWrongBy bodies tasks (task_at tasks b) terminator number
  wrong_by b (Jump target) number l p = absurd p
  wrong_by b (Branch condition x y) number l p = absurd p
  wrong_by b (Switch width value default cases) number l p = absurd p
  wrong_by b (Return value) number l p = (p.0, inside_by b l p.1)
  wrong_by b (Detach region body k) number l p = (p.0, foreign_by b region l p.1)
  wrong_by b (Reattach region k) number l p = ⊎_elim (λ x. inl (x.0, stray_by b region l x.1)) (λ x. inr (x.0, elsewhere_by b k l x.1)) p
  wrong_by b (Sync region target) number l p = (p.0, foreign_by b region l p.1)

  wrong_from : (b : ℕ) (terminator : Terminator) (number : ℕ) → b < length blocks → IsEndingWrongBy bodies tasks (task_at tasks b) terminator number → IsEndingWrong bodies blocks b terminator number
  wrong_from b (Jump target) number l p = absurd p
  wrong_from b (Branch condition x y) number l p = absurd p
  wrong_from b (Switch width value default cases) number l p = absurd p
  wrong_from b (Return value) number l p = (p.0, inside_from b (task_at tasks b) l refl p.1)
  wrong_from b (Detach region body k) number l p = (p.0, foreign_from b region l p.1)
  wrong_from b (Reattach region k) number l p = ⊎_elim (λ x. inl (x.0, stray_from b region (task_at tasks b) l refl x.1)) (λ x. inr (x.0, elsewhere_from b k (task_at tasks b) l refl x.1)) p
  wrong_from b (Sync region target) number l p = (p.0, foreign_from b region l p.1)

  pub ending_by : (b : ℕ) (ending : Option Ending) (broken : Broken) → b < length blocks → IsEndingBroken bodies blocks b ending broken → IsEndingBrokenBy bodies tasks (task_at tasks b) ending broken
  ending_by b None broken l p = absurd p
  ending_by b (Some ending) broken l p = (p.0, wrong_by b ending.terminator broken.number l p.1)

  pub ending_from : (b : ℕ) (ending : Option Ending) (broken : Broken) → b < length blocks → IsEndingBrokenBy bodies tasks (task_at tasks b) ending broken → IsEndingBroken bodies blocks b ending broken
  ending_from b None broken l p = absurd p
  ending_from b (Some ending) broken l p = (p.0, wrong_from b ending.terminator broken.number l p.1)

  pub pending_by : (b : ℕ) (pending : List Pending) (broken : Broken) → b < length blocks → IsPendingBroken bodies blocks b pending broken → IsPendingBrokenBy bodies tasks (task_at tasks b) pending broken
  pending_by b pending broken l p = (p.0, p.1, p.2, p.3, (p.4.0, p.4.1, foreign_by b p.1.region l p.4.2))

  pub pending_from : (b : ℕ) (pending : List Pending) (broken : Broken) → b < length blocks → IsPendingBrokenBy bodies tasks (task_at tasks b) pending broken → IsPendingBroken bodies blocks b pending broken
  pending_from b pending broken l p = (p.0, p.1, p.2, p.3, (p.4.0, p.4.1, foreign_from b p.1.region l p.4.2))
