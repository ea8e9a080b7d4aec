-- What stands where it may not.
use Rattle.std.proofs.Common.{◌≡◌, ◌≢◌, ◌⊎◌, ◌↔◌, ℕ, ◌+◌, ◌<◌, ◌≤◌, Bool, true, false, not, IsTrue, List, length, Option, inl, inr, refl, sym, ⊎_elim, ◌∙◌, arith}
use Rattle.std.specs.List.{Any}
use Rattle.std.proofs.lemmas.Bool.{cases_Bool, cases_eq, cases_lt, true≢false, false≢true}
use Rattle.program.specs.linear.declared.form.RegisterId.{RegisterId}
use Rattle.program.specs.declared.annotation.Zone.{Zone}
use Rattle.program.specs.declared.instruction.Instruction.TheVariants.{StartRegion}
use Rattle.program.specs.declared.instruction.Step.{Step}
use Rattle.program.specs.declared.instruction.Phi.{Phi}
use Rattle.program.specs.declared.function.Block.{Block}
use Rattle.cfg.specs.declared.structure.Way.{Way}
use Rattle.cfg.specs.declared.structure.Way.TheVariants.{Detached, Continued}
use Rattle.cfg.specs.declared.structure.Edge.{Edge}
use Rattle.cfg.specs.declared.structure.BlockEdges.{BlockEdges}
use Rattle.refusal.specs.declared.broken.Broken.{Broken}
use Rattle.cfg.specs.Paths.{edges_of}
use Rattle.cfg.specs.Rules.{IsPredecessor}
use Rattle.region_match.specs.Rules.{IsEntered, IsShared, IsStartBroken, IsPhiBroken, IsFootBroken, IsLabelBroken}
use Rattle.refusal.specs.Earliest.{IsEarliest}
use Rattle.refusal.proofs.Elements.{earliest_same}
use Rattle.cfg.proofs.Matching.{no_edges_past}

abbrev pub AreStartsWrong : Bool → List Step → Broken → Type 0
AreStartsWrong wrong steps b = Any (λ step. (IsTrue wrong) × (b.number ≡ 307) × (b.line ≡ step.line) × (region : RegisterId) × (step.instruction ≡ StartRegion region)) steps

abbrev pub ArePhisWrong : Bool → List Phi → Broken → Type 0
ArePhisWrong wrong phis b = Any (λ phi. (IsTrue wrong) × (b.number ≡ 307) × (b.line ≡ phi.line)) phis

abbrev pub IsFootWrong : Bool → List Zone → Broken → Type 0
IsFootWrong wrong foot b = Any (λ zone. (IsTrue wrong) × (b.number ≡ 307) × (b.line ≡ zone.line)) foot

pub not_entered : (blocks : List BlockEdges) (b n : ℕ) (way : Way) → length blocks ≤ n → ((a : ℕ) → a < n → Any (λ (e : Edge). (e.to.0 ≡ b) × (e.way ≡ way)) (edges_of blocks a) → ⊥) → IsEntered blocks b way → ⊥
not_entered blocks b n way past none entered =
    ⊎_elim
    (λ l. none entered.0 l entered.1)
    (λ g. let empty = rw (no_edges_past blocks entered.0 (omega (arith, g, past))) at entered.1 in absurd (omega (arith, empty.2)))
    (cases_lt entered.0 n)

pub not_followed : (blocks : List BlockEdges) (b one n : ℕ) → length blocks ≤ n → ((a : ℕ) → a < n → a ≢ one → IsPredecessor blocks a b → ⊥) → (other : ℕ) × (other ≢ one) × IsPredecessor blocks other b → ⊥
not_followed blocks b one n past none has =
    ⊎_elim
    (λ l. none has.0 l has.1 has.2)
    (λ g. true≢false (sym has.2 ∙ (rw (no_edges_past blocks has.0 (omega (arith, g, past))) refl)))
    (cases_lt has.0 n)

pub not_shared : (blocks : List BlockEdges) (b n : ℕ) → length blocks ≤ n → ((a : ℕ) → a < n → Any (λ (e : Edge). (e.to.0 ≡ b) × (e.way ≡ Detached)) (edges_of blocks a) → (other : ℕ) × (other ≢ a) × IsPredecessor blocks other b → ⊥) → IsShared blocks b → ⊥
not_shared blocks b n past none shared =
    ⊎_elim
    (λ l. none shared.0 l shared.1 (shared.2, shared.3, shared.4))
    (λ g. let empty = rw (no_edges_past blocks shared.0 (omega (arith, g, past))) at shared.1 in absurd (omega (arith, empty.2)))
    (cases_lt shared.0 n)

pub entered_more : (blocks : List BlockEdges) (b i : ℕ) (way : Way) (edges : List Edge) → edges_of blocks i ≡ edges → ((a : ℕ) → a < i → Any (λ (e : Edge). (e.to.0 ≡ b) × (e.way ≡ way)) (edges_of blocks a) → ⊥) → (Any (λ (e : Edge). (e.to.0 ≡ b) × (e.way ≡ way)) edges → ⊥) → (a : ℕ) → a < i + 1 → Any (λ (e : Edge). (e.to.0 ≡ b) × (e.way ≡ way)) (edges_of blocks a) → ⊥
entered_more blocks b i way edges read none here a l any =
    ⊎_elim
    (λ same. here (rw (← read, ← same) any))
    (λ other. none a (omega (arith, l, other)) any)
    (cases_eq a i)

pub followed_more : (blocks : List BlockEdges) (b one i : ℕ) → ((a : ℕ) → a < i → a ≢ one → IsPredecessor blocks a b → ⊥) → (i ≢ one → IsPredecessor blocks i b → ⊥) → (a : ℕ) → a < i + 1 → a ≢ one → IsPredecessor blocks a b → ⊥
followed_more blocks b one i none here a l ne p =
    ⊎_elim
    (λ same. here (λ e. ne (same ∙ e)) (rw (← same) p))
    (λ other. none a (omega (arith, l, other)) ne p)
    (cases_eq a i)

pub shared_more : (blocks : List BlockEdges) (b i : ℕ) (edges : List Edge) → edges_of blocks i ≡ edges → ((a : ℕ) → a < i → Any (λ (e : Edge). (e.to.0 ≡ b) × (e.way ≡ Detached)) (edges_of blocks a) → (other : ℕ) × (other ≢ a) × IsPredecessor blocks other b → ⊥) → (Any (λ (e : Edge). (e.to.0 ≡ b) × (e.way ≡ Detached)) edges → (other : ℕ) × (other ≢ i) × IsPredecessor blocks other b → ⊥) → (a : ℕ) → a < i + 1 → Any (λ (e : Edge). (e.to.0 ≡ b) × (e.way ≡ Detached)) (edges_of blocks a) → (other : ℕ) × (other ≢ a) × IsPredecessor blocks other b → ⊥
shared_more blocks b i edges read none here a l any has =
    ⊎_elim
    (λ same. here (rw (← read, ← same) any) (has.0, λ e. has.1 (e ∙ sym same), has.2))
    (λ other. none a (omega (arith, l, other)) any has)
    (cases_eq a i)

pub starts_named : (blocks : List BlockEdges) (b : ℕ) (steps : List Step) (wrong detached : Bool) (r : Option Broken) → IsTrue wrong ↔ ((b ≢ 0) × (detached ≡ false)) → IsTrue detached ↔ IsEntered blocks b Detached → IsEarliest (AreStartsWrong wrong steps) r → IsEarliest (IsStartBroken blocks b steps) r
starts_named blocks b steps wrong detached r at entered j = earliest_same _ _ r
    (λ x any. let w = at.0 any.4.0 in (w.0, λ e. true≢false (sym (entered.1 e) ∙ w.1), (any.0, any.1, any.2, any.3, (any.4.1, any.4.2, any.4.3, any.4.4))))
    (λ x p.
    let off : detached ≡ false = ⊎_elim (λ on. absurd (p.1 (entered.0 on))) (λ e. e) (cases_Bool detached) in
    (p.2.0, p.2.1, p.2.2, p.2.3, (at.1 (p.0, off), p.2.4.0, p.2.4.1, p.2.4.2, p.2.4.3)))
    j

pub phis_named : (blocks : List BlockEdges) (b : ℕ) (phis : List Phi) (wrong detached continued : Bool) (r : Option Broken) → IsTrue wrong ↔ (IsTrue detached ⊎ IsTrue continued) → IsTrue detached ↔ IsEntered blocks b Detached → IsTrue continued ↔ IsEntered blocks b Continued → IsEarliest (ArePhisWrong wrong phis) r → IsEarliest (IsPhiBroken blocks b phis) r
phis_named blocks b phis wrong detached continued r at d k j = earliest_same _ _ r
    (λ x any. (⊎_elim (λ h. inl (d.0 h)) (λ h. inr (k.0 h)) (at.0 any.4.0), (any.0, any.1, any.2, any.3, (any.4.1, any.4.2))))
    (λ x p. (p.1.0, p.1.1, p.1.2, p.1.3, (at.1 (⊎_elim (λ h. inl (d.1 h)) (λ h. inr (k.1 h)) p.0), p.1.4.0, p.1.4.1)))
    j

pub foot_named : (blocks : List BlockEdges) (b : ℕ) (foot : List Zone) (detached : Bool) (r : Option Broken) → IsTrue detached ↔ IsEntered blocks b Detached → IsEarliest (IsFootWrong (not detached) foot) r → IsEarliest (IsFootBroken blocks b foot) r
foot_named blocks b foot detached r d j = earliest_same _ _ r
    (λ x any. (λ e. let on : detached ≡ true = d.1 e in let wrong : not detached ≡ true = any.4.0 in false≢true (rw on at wrong), (any.0, any.1, any.2, any.3, (any.4.1, any.4.2))))
    (λ x p.
    let off : detached ≡ false = ⊎_elim (λ on. absurd (p.0 (d.0 on))) (λ e. e) (cases_Bool detached) in
    let wrong : not detached ≡ true = rw off refl in
    (p.1.0, p.1.1, p.1.2, p.1.3, (wrong, p.1.4.0, p.1.4.1)))
    j

pub label_named : (blocks : List BlockEdges) (b : ℕ) (block : Block) (shared : Bool) (r : Option Broken) → IsTrue shared ↔ IsShared blocks b → IsEarliest (λ x. (IsTrue shared) × (x.number ≡ 307) × (x.line ≡ block.line)) r → IsEarliest (IsLabelBroken blocks b block) r
label_named blocks b block shared r s j = earliest_same _ _ r
    (λ x p. (p.1, p.2, s.0 p.0))
    (λ x p. (s.1 p.2, p.0, p.1))
    j

pub start_here : (wrong starts both : Bool) (step : Step) (r : Option Broken) → IsTrue starts ↔ ((region : RegisterId) × (step.instruction ≡ StartRegion region)) → IsTrue both ↔ ((IsTrue wrong) × (IsTrue starts)) → IsEarliest (λ b. (IsTrue both) × (b.number ≡ 307) × (b.line ≡ step.line)) r → IsEarliest (λ b. (IsTrue wrong) × (b.number ≡ 307) × (b.line ≡ step.line) × (region : RegisterId) × (step.instruction ≡ StartRegion region)) r
start_here wrong starts both step r s t j = earliest_same _ _ r
    (λ x p. let k = t.0 p.0 in let g = s.0 k.1 in (k.0, p.1, p.2, g.0, g.1))
    (λ x p. (t.1 (p.0, s.1 (p.3, p.4)), p.1, p.2))
    j
