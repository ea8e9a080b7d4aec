-- A text has one verdict.
use Rattle.std.proofs.Common.{◌≡◌, ◌⊎◌, ℕ, List, Result, Ok, Err, inl, inr, sym, ap, subst}
use Rattle.refusal.specs.declared.broken.Broken.{Broken}
use Rattle.syntax.specs.declared.module.Module.{Module}
use Rattle.program.specs.declared.function.Program.{Program}
use Rattle.ir_reader.specs.Reading.{Answers}
use Rattle.ir_reader.proofs.OneAnswer.{one_answer}
use Rattle.types.specs.Meaning.{Means}
use Rattle.verifier.specs.Accepted.{IsProgramOf, IsFaulty, IsRefused}
use Rattle.laws_verdict.specs.Verdicts.{VerdictsAreOne}
use Rattle.laws_verdict.proofs.Meanings.{one_meaning}
use Rattle.laws_verdict.proofs.Phases.{same_broken, right_or_faulty, one_fault}

-- ---- what two readings give

same_module : (text : List ℕ) (a b : Module) → Answers text (Ok a) → Answers text (Ok b) → a ≡ b
same_module text a b one other = let e = one_answer text (Ok a) (Ok b) one other in cc

never_both : (text : List ℕ) (a : Module) (fault : ℕ × ℕ) → Answers text (Ok a) → Answers text (Err fault) → ⊥
never_both text a fault one other = let e = one_answer text (Ok a) (Err fault) one other in cc

same_program : (a b : Module) (p q : Program) → a ≡ b → Means a (Ok p) → Means b (Ok q) → p ≡ q
same_program a b p q e h k =
    let same = one_meaning b (Ok p) (Ok q) (subst (λ (m : Module). Means m (Ok p)) e h) k in
    cc

never_faulty : (a b : Module) (p : Program) (fault : Broken) → a ≡ b → Means a (Ok p) → Means b (Err fault) → ⊥
never_faulty a b p fault e h k =
    let same = one_meaning b (Ok p) (Err fault) (subst (λ (m : Module). Means m (Ok p)) e h) k in
    cc

same_fault : (a b : Module) (f g : Broken) → a ≡ b → Means a (Err f) → Means b (Err g) → f ≡ g
same_fault a b f g e h k =
    let same = one_meaning b (Err f) (Err g) (subst (λ (m : Module). Means m (Err f)) e h) k in
    cc

pair : (f g : ℕ × ℕ) → (let r : Result Module (ℕ × ℕ) = Err f in r) ≡ Err g → f ≡ g
pair f g e = cc

-- ---- the law

one_program : (text : List ℕ) (p q : Program) → IsProgramOf text p → IsProgramOf text q → p ≡ q
one_program text p q (a, read, means, right) (b, reads, means', right') =
    same_program a b p q (same_module text a b read reads) means means'

fault_after : (a b : Module) (f g : Broken) → a ≡ b →
    Means a (Err f) ⊎ ((p : Program) × Means a (Ok p) × IsFaulty p f) →
    Means b (Err g) ⊎ ((q : Program) × Means b (Ok q) × IsFaulty q g) →
    f ≡ g
fault_after a b f g e (inl h) (inl k) = same_fault a b f g e h k
fault_after a b f g e (inl h) (inr (q, k, _)) = absurd (never_faulty b a q f (sym e) k h)
fault_after a b f g e (inr (p, h, _)) (inl k) = absurd (never_faulty a b p g e h k)
fault_after a b f g e (inr (p, h, faulty)) (inr (q, k, faulty')) =
    one_fault q f g (subst (λ (r : Program). IsFaulty r f) (same_program a b p q e h k) faulty) faulty'

one_refusal : (text : List ℕ) (f g : Broken) → IsRefused text f → IsRefused text g → f ≡ g
one_refusal text f g (inl h) (inl k) =
    let e = pair (f.number, f.line) (g.number, g.line) (one_answer text (Err (f.number, f.line)) (Err (g.number, g.line)) h k) in
    same_broken f g (ap (λ (x : ℕ × ℕ). x.1) e) (ap (λ (x : ℕ × ℕ). x.0) e)
one_refusal text f g (inl h) (inr (b, reads, _)) = absurd (never_both text b (f.number, f.line) reads h)
one_refusal text f g (inr (a, read, _)) (inl k) = absurd (never_both text a (g.number, g.line) read k)
one_refusal text f g (inr (a, read, h)) (inr (b, reads, k)) = fault_after a b f g (same_module text a b read reads) h k

not_refused : (text : List ℕ) (p : Program) (f : Broken) → IsProgramOf text p → IsRefused text f → ⊥
not_refused text p f (a, read, means, right) (inl h) = never_both text a (f.number, f.line) read h
not_refused text p f (a, read, means, right) (inr (b, reads, inl h)) = never_faulty a b p f (same_module text a b read reads) means h
not_refused text p f (a, read, means, right) (inr (b, reads, inr (q, means', h))) =
    right_or_faulty p f right
    (subst (λ (r : Program). IsFaulty r f) (sym (same_program a b p q (same_module text a b read reads) means means')) h)

pub one_verdict : VerdictsAreOne
one_verdict text = record {
  program = one_program text;
  fault = one_refusal text;
  apart = not_refused text;
}
