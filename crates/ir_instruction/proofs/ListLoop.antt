-- Reading elements one after the other, as a loop does.
use Rattle.std.proofs.Common.{◌≡◌, ℕ, suc, ◌-◌, ◌+◌, ◌≤◌, ◌<◌, List, [], ◌∷◌, ◌++◌, Option, Some, None, refl, sym, ap, ◌∙◌, append_assoc, arith}
use Rattle.ir_instruction.specs.declared.fault.LineFault.{LineFault}
use Rattle.ir_instruction.specs.declared.fault.LineFault.TheVariants as faults
use Rattle.ir_instruction.specs.declared.symbol.Symbol.{Symbol}
use Rattle.ir_instruction.specs.Outcome.{◌>>=◌}
use Rattle.ir_instruction.specs.Answers.{Fails}
use Rattle.ir_instruction.specs.Lists.{list_at}

-- what was read before, and what is still read
abbrev pub with_front : {A : Type 0} → List A → Option (List A × List Symbol) → Option (List A × List Symbol)
with_front front found = found >>= λ x. Some (front ++ x.0, x.1)

regroup : {A : Type 0} (front : List A) (n : A) (found : Option (List A × List Symbol)) → with_front front (found >>= λ x. Some (n ∷ x.0, x.1)) ≡ with_front (front ++ n ∷ []) found
regroup {A} front n (Some x) = ap (λ (ns : List A). Some (ns, x.1)) (simp append_assoc)
regroup front n None = refl

pub goes_on : {A : Type 0} (element : List Symbol → Option (A × List Symbol)) (next : List Symbol → Option (List Symbol)) (front : List A) (count i : ℕ) (line : List Symbol) (n : A) (after rest : List Symbol) (total : Option (List A × List Symbol))
    → i < count → element line ≡ Some (n, after) → next after ≡ Some rest
    → with_front front (list_at element next (count - i) line) ≡ total → with_front (front ++ n ∷ []) (list_at element next (count - (i + 1)) rest) ≡ total
unfolding list_at
goes_on element next front count i line n after rest total lt h follows so_far =
    let k : count - i ≡ suc (count - (i + 1)) = omega arith in
    let one : with_front front (list_at element next (count - i) line) ≡ with_front (front ++ n ∷ []) (list_at element next (count - (i + 1)) rest) = rw (k, h, follows) (regroup front n (list_at element next (count - (i + 1)) rest)) in
    sym one ∙ so_far

pub stops : {A : Type 0} (element : List Symbol → Option (A × List Symbol)) (next : List Symbol → Option (List Symbol)) (front : List A) (count i : ℕ) (line : List Symbol) (n : A) (after : List Symbol) (total : Option (List A × List Symbol))
    → i < count → element line ≡ Some (n, after) → next after ≡ None
    → with_front front (list_at element next (count - i) line) ≡ total → total ≡ Some (front ++ n ∷ [], after)
unfolding list_at
stops element next front count i line n after total lt h follows so_far =
    let k : count - i ≡ suc (count - (i + 1)) = omega arith in
    let one : with_front front (list_at element next (count - i) line) ≡ Some (front ++ n ∷ [], after) = rw (k, h, follows) refl in
    sym so_far ∙ one

pub ends : {A : Type 0} (e : LineFault) (element : List Symbol → Option (A × List Symbol)) (next : List Symbol → Option (List Symbol)) (front : List A) (count i : ℕ) (line : List Symbol) (total : Option (List A × List Symbol))
    → i < count → Fails e (element line)
    → with_front front (list_at element next (count - i) line) ≡ total → Fails e total
unfolding list_at
ends faults.Memory element next front count i line total lt h so_far = tt
ends faults.Unexpected element next front count i line total lt h so_far =
    let k : count - i ≡ suc (count - (i + 1)) = omega arith in
    let one : with_front front (list_at element next (count - i) line) ≡ None = rw (k, h) refl in
    sym so_far ∙ one

pub runs_out : {A : Type 0} (element : List Symbol → Option (A × List Symbol)) (next : List Symbol → Option (List Symbol)) (front : List A) (count i : ℕ) (line : List Symbol) (total : Option (List A × List Symbol))
    → count ≤ i → with_front front (list_at element next (count - i) line) ≡ total → total ≡ None
unfolding list_at
runs_out element next front count i line total le so_far =
    let k : count - i ≡ 0 = omega arith in
    let one : with_front front (list_at element next (count - i) line) ≡ None = rw k refl in
    sym so_far ∙ one
