-- What can be told of blocks.
use Rattle.std.proofs.Common.{◌≡◌, ◌⊎◌, ℕ, zero, suc, ◌<◌, inl, inr, Bool, true, false, List, [], ◌∷◌, length, Option, Some, None, refl, sym, ap, subst, arith}
use Rattle.std.specs.List.{Contains}
use Rattle.std.proofs.lemmas.Bool.{cases_eq, cases_lt, true≢false}
use Rattle.std.proofs.lemmas.List.Elements.{Contains-append_left, Contains-append_right, Contains-append_cases, Contains-push, Contains-push_cases}
use Rattle.std.proofs.lemmas.Option.{slice_get_past}
use Rattle.linear.specs.declared.form.RegisterId.{RegisterId}
use Rattle.program.specs.declared.identifier.BlockId.{BlockId}
use Rattle.program.specs.declared.instruction.Terminator.{Terminator}
use Rattle.program.specs.declared.instruction.Terminator.TheVariants.{Jump, Branch, Switch, Return, Detach, Reattach, Sync}
use Rattle.program.specs.declared.function.Block.{Block}
use Rattle.cfg.specs.declared.structure.BlockEdges.{BlockEdges}
use Rattle.region_match.specs.declared.task.Task.{Task}
use Rattle.region_match.specs.declared.task.Task.TheVariants.{Unreached, Body, Child}
use Rattle.region_match.specs.Rules.{ending_at, IsDetach}
use Rattle.region_match.specs.Tasks.{task_at, AreTasks}
use Rattle.definedness.specs.Sure.{IsFork, IsReattach, IsEndOf}
use Rattle.region_match.proofs.Conversion.{label_of, child_task}

abbrev pub Decided : Type 0 → Type 0
Decided P = P ⊎ (P → ⊥)

abbrev pub told : {P : Type 0} → Decided P → Bool
told {P} (inl on) = true
told {P} (inr off) = false

pub told_is : {P : Type 0} (d : Decided P) → told d ≡ true → P
told_is {P} (inl on) e = on
told_is {P} (inr off) e = absurd (true≢false (sym e))

pub told_so : {P : Type 0} (d : Decided P) → P → told d ≡ true
told_so {P} (inl on) p = refl
told_so {P} (inr off) p = absurd (off p)

-- ---- put together

pub is_true : (b : Bool) → Decided (b ≡ true)
is_true true = inl refl
is_true false = inr (λ e. true≢false (sym e))

pub never : {P : Type 0} → Decided P → Decided (P → ⊥)
never {P} (inl on) = inr (λ off. off on)
never {P} (inr off) = inl off

pub either : {P Q : Type 0} → Decided P → Decided Q → Decided (P ⊎ Q)
either {P} {Q} (inl p) d = inl (inl p)
either {P} {Q} (inr p) (inl q) = inl (inr q)
either {P} {Q} (inr p) (inr q) = inr (λ h. elim h [ inl a ↦ p a | inr b ↦ q b ])

pub both : {P Q : Type 0} → Decided P → Decided Q → Decided (P × Q)
both {P} {Q} (inl p) (inl q) = inl (p, q)
both {P} {Q} (inl p) (inr q) = inr (λ h. q h.1)
both {P} {Q} (inr p) d = inr (λ h. p h.0)

pub whenever : {P Q : Type 0} → Decided P → Decided Q → Decided (P → Q)
whenever {P} {Q} (inl p) (inl q) = inl (λ _. q)
whenever {P} {Q} (inl p) (inr q) = inr (λ h. q (h p))
whenever {P} {Q} (inr p) d = inl (λ a. absurd (p a))

-- of all numbers below one
pub all_below : (P : ℕ → Type 0) → ((a : ℕ) → Decided (P a)) → (n : ℕ) → Decided ((a : ℕ) → a < n → P a)
all_below P each zero = inl (λ a l. absurd (omega (arith, l)))
all_below P each (suc n) = elim (each n) [
  | inr off ↦ inr (λ h. off (h n (omega arith)))
  | inl here ↦ elim (all_below P each n) [
    | inr off ↦ inr (λ h. off (λ a l. h a (omega (arith, l))))
    | inl below ↦ inl (λ a l. elim (cases_eq a n) [ inl e ↦ subst P (sym e) here | inr ne ↦ below a (omega (arith, l, ne)) ])
  ]
]

-- of the elements of a list
pub all_in : {X : Type 0} (P : X → Type 0) → ((x : X) → Decided (P x)) → (xs : List X) → Decided ((x : X) → Contains xs x → P x)
all_in {X} P each [] = inl (λ x c. absurd (omega (arith, c.1)))
all_in {X} P each (y ∷ ys) = elim (each y) [
  | inr off ↦ inr (λ h. off (h y (Contains-append_left (y ∷ []) ys y (Contains-push [] y))))
  | inl here ↦ elim (all_in P each ys) [
    | inr off ↦ inr (λ h. off (λ x c. h x (Contains-append_right (y ∷ []) ys x c)))
    | inl rest ↦ inl (λ x c. elim (Contains-append_cases (y ∷ []) ys x c) [
      | inl first ↦ elim (Contains-push_cases [] y x first) [ inl none ↦ absurd (omega (arith, none.1)) | inr e ↦ subst P e here ]
      | inr later ↦ rest x later
    ])
  ]
]

-- ---- membership

nothing : (x : ℕ) → Contains [] x → ⊥
nothing x c = omega (arith, c.1)

pub contained : (xs : List ℕ) (x : ℕ) → Decided (Contains xs x)
contained [] x = inr (nothing x)
contained (y ∷ ys) x = elim (contained ys x) [
  | inl c ↦ inl (Contains-append_right (y ∷ []) ys x c)
  | inr other ↦ elim (cases_eq x y) [
    | inl e ↦ inl (rw e (Contains-append_left (y ∷ []) ys y (Contains-push [] y)))
    | inr ne ↦ inr (λ c. elim (Contains-append_cases (y ∷ []) ys x c) [
      | inl h ↦ elim (Contains-push_cases [] y x h) [ inl none ↦ nothing x none | inr e ↦ ne (sym e) ]
      | inr h ↦ other h
    ])
  ]
]

-- ---- terminators

pub same_region : (r s : RegisterId) → r.0 ≡ s.0 → r ≡ s
same_region r s e = λ i. record { 0 = e i }

detached : (o : Option Terminator) (r : RegisterId) → Decided ((continuation : BlockId) × IsDetach o r continuation)
detached None r = inr (λ h. let e = h.1.1 in cc)
detached (Some (Jump target)) r = inr (λ h. let e = h.1.1 in cc)
detached (Some (Branch condition on off)) r = inr (λ h. let e = h.1.1 in cc)
detached (Some (Switch width value default cases)) r = inr (λ h. let e = h.1.1 in cc)
detached (Some (Return value)) r = inr (λ h. let e = h.1.1 in cc)
detached (Some (Detach region body continuation)) r = elim (cases_eq region.0 r.0) [
  | inl e ↦ let same : region ≡ r = same_region region r e in inl (continuation, (body, λ i. Some (Detach (same i) body continuation)))
  | inr ne ↦ inr (λ h. let e = h.1.1 in let same : region ≡ r = cc in ne (ap (λ (x : RegisterId). x.0) same))
]
detached (Some (Reattach region continuation)) r = inr (λ h. let e = h.1.1 in cc)
detached (Some (Sync region target)) r = inr (λ h. let e = h.1.1 in cc)

reattached : (o : Option Terminator) → Decided (IsReattach o)
reattached None = inr (λ h. let e = h.2 in cc)
reattached (Some (Jump target)) = inr (λ h. let e = h.2 in cc)
reattached (Some (Branch condition on off)) = inr (λ h. let e = h.2 in cc)
reattached (Some (Switch width value default cases)) = inr (λ h. let e = h.2 in cc)
reattached (Some (Return value)) = inr (λ h. let e = h.2 in cc)
reattached (Some (Detach region body continuation)) = inr (λ h. let e = h.2 in cc)
reattached (Some (Reattach region continuation)) = inl (region, continuation, refl)
reattached (Some (Sync region target)) = inr (λ h. let e = h.2 in cc)

pub forked : (bodies : List Block) (b : ℕ) (r : RegisterId) → Decided (IsFork bodies b r)
forked bodies b r = detached (ending_at bodies b) r

child_of : (task : Task) (d : ℕ) → Decided (task ≡ Child (record { 0 = d }))
child_of Unreached d = inr (λ e. cc)
child_of Body d = inr (λ e. cc)
child_of (Child x) d = elim (cases_eq x.0 d) [
  | inl e ↦ inl (λ i. Child (record { 0 = e i }))
  | inr ne ↦ inr (λ h. let same : x ≡ record { 0 = d } = cc in ne (ap (λ (y : BlockId). y.0) same))
]

-- a block with a reattach is a block
pub end_within : (bodies : List Block) (b : ℕ) → IsReattach (ending_at bodies b) → b < length bodies
end_within bodies b r = elim (cases_lt b (length bodies)) [
  | inl l ↦ l
  | inr past ↦ absurd (let none = slice_get_past bodies b past in let e = rw none at r.2 in cc)
]

-- a reattach ends the child of the innermost detach
pub ended : (bodies : List Block) (blocks : List BlockEdges) (tasks : List Task) → AreTasks blocks tasks → length blocks ≡ length bodies → (d e : ℕ) → Decided (IsEndOf bodies blocks d e)
ended bodies blocks tasks table size d e = elim (cases_lt e (length bodies)) [
  | inr past ↦ inr (λ is. let within = end_within bodies e is.0 in omega (arith, past, within))
  | inl within ↦ elim (reattached (ending_at bodies e)) [
    | inr off ↦ inr (λ is. off is.0)
    | inl ends ↦ elim (child_of (task_at tasks e) d) [
      | inl child ↦
          let found = child_task bodies blocks tasks table size e (record { 0 = d }) (omega (arith, within, size)) child in
          inl (ends, found.0, found.1)
      | inr other ↦ inr (λ is. other (label_of bodies blocks tasks table size e (d ∷ is.1) (omega (arith, within, size)) is.2))
    ]
  ]
]
