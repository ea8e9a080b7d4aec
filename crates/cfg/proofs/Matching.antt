-- Predecessors, and the entries of a phi against them.
use Rattle.std.proofs.Common.{◌≡◌, ◌↔◌, ◌==◌, IsTrue, not, ℕ, ◌+◌, ◌<◌, ◌≤◌, Bool, true, false, cond, List, [], ◌∷◌, zero, suc, length, take, drop, get_or, set, map, count_by, Some, None, eq-eqb, inl, inr, refl, sym, ap, ⊎_elim, ◌∙◌, arith, get_or-set_same, get_or-set_other}
use Rattle.std.specs.List.{list_any}
use Rattle.std.proofs.lemmas.Bool.{cases_eq, cases_lt, cases_Bool, ne_eqb, true≢false, false≢true}
use Rattle.std.proofs.lemmas.List.{length-set, get_or_default, take_all}
use Rattle.std.proofs.lemmas.List.Sums.{count_by_more_yes, count_by_more_no, sum_by-take-drop}
use Rattle.std.proofs.lemmas.List.Folds.{list_any_at, Any-from_list_any}
use Rattle.program.specs.declared.instruction.PhiEntry.{PhiEntry}
use Rattle.program.specs.declared.instruction.Phi.{Phi}
use Rattle.cfg.specs.declared.structure.BlockEdges.{BlockEdges}
use Rattle.cfg.specs.Paths.{edges_of}
use Rattle.cfg.specs.Rules.{leads_to, HasPredecessor, IsMatched, IsUnmatched}
use Rattle.refusal.specs.Earliest.{IsJudged}
use Rattle.reachability.proofs.Searching.{marked_within}

-- the marks of the predecessors, read at a block
pub leads_to-read : (blocks : List BlockEdges) (b a : ℕ) → get_or (map (λ (body : BlockEdges). leads_to b body.edges) blocks) a false ≡ leads_to b (edges_of blocks a)
leads_to-read [] b a = refl
leads_to-read (x ∷ xs) b zero = refl
leads_to-read (x ∷ xs) b (suc a) = leads_to-read xs b a

-- the entries that were looked at, against the marks that they took
pub record Matching (leading : List Bool) (done : List PhiEntry) (left : List Bool) : Type 0 where
  pub size : length left ≡ length leading
  pub count : (a : ℕ) → count_by (λ e. e.predecessor.0 == a) done + cond (get_or left a false) 1 0 ≡ cond (get_or leading a false) 1 0

pub Matching-none : (leading : List Bool) → Matching leading [] leading
Matching-none leading = record { size = refl; count = λ a. omega arith }

pub Matching-next : (leading : List Bool) (entries : List PhiEntry) (i : ℕ) (d : PhiEntry) (left : List Bool) → i < length entries → Matching leading (take i entries) left → (get_or entries i d).predecessor.0 < length left → get_or left (get_or entries i d).predecessor.0 false ≡ true → Matching leading (take (i + 1) entries) (set left (get_or entries i d).predecessor.0 false)
Matching-next leading entries i d left l m within marked =
    let from = (get_or entries i d).predecessor.0 in
    record {
      size = length-set left from false ∙ m.size;
      count = λ a. ⊎_elim
          (λ same.
          let yes : count_by (λ e. e.predecessor.0 == from) (take (i + 1) entries) ≡ count_by (λ e. e.predecessor.0 == from) (take i entries) + 1 = count_by_more_yes (λ e. e.predecessor.0 == from) entries i d l (eq-eqb from from refl) in
          let off : get_or (set left from false) from false ≡ false = get_or-set_same left from false false within in
          let before : count_by (λ e. e.predecessor.0 == from) (take i entries) + 1 ≡ cond (get_or leading from false) 1 0 = rw marked at (m.count from) in
          rw same (rw off (omega (arith, yes, before))))
          (λ other.
          let no-more : count_by (λ e. e.predecessor.0 == a) (take (i + 1) entries) ≡ count_by (λ e. e.predecessor.0 == a) (take i entries) = count_by_more_no (λ e. e.predecessor.0 == a) entries i d l (ne_eqb from a (λ e. other (sym e))) in
          rw (get_or-set_other left from a false false other, no-more) (m.count a))
          (cases_eq a from);
    }

-- an entry of a block that is no predecessor, or has an entry already
pub unmatched : (leading : List Bool) (entries : List PhiEntry) (i : ℕ) (d : PhiEntry) (left : List Bool) → i < length entries → Matching leading (take i entries) left → get_or left (get_or entries i d).predecessor.0 false ≡ false → ((a : ℕ) → count_by (λ e. e.predecessor.0 == a) entries ≡ cond (get_or leading a false) 1 0) → ⊥
unmatched leading entries i d left l m clear all =
    let from = (get_or entries i d).predecessor.0 in
    let yes : count_by (λ e. e.predecessor.0 == from) (take (i + 1) entries) ≡ count_by (λ e. e.predecessor.0 == from) (take i entries) + 1 = count_by_more_yes (λ e. e.predecessor.0 == from) entries i d l (eq-eqb from from refl) in
    let before : count_by (λ e. e.predecessor.0 == from) (take i entries) + 0 ≡ cond (get_or leading from false) 1 0 = rw clear at (m.count from) in
    let whole : count_by (λ e. e.predecessor.0 == from) entries ≡ count_by (λ e. e.predecessor.0 == from) (take (i + 1) entries) + count_by (λ e. e.predecessor.0 == from) (drop (i + 1) entries) = sym (sum_by-take-drop (λ (e : PhiEntry). cond (e.predecessor.0 == from) 1 0) entries (i + 1)) in
    omega (arith, yes, before, whole, all from)

-- each mark was taken
pub all_matched : (leading : List Bool) (entries : List PhiEntry) (left : List Bool) → Matching leading entries left → list_any (λ mark. mark) left ≡ false → (a : ℕ) → count_by (λ e. e.predecessor.0 == a) entries ≡ cond (get_or leading a false) 1 0
all_matched leading entries left m clear a =
    let off : get_or left a false ≡ false = ⊎_elim
    (λ on. let within = marked_within left a on in absurd (false≢true (sym clear ∙ list_any_at (λ (mark : Bool). mark) left a false within on)))
    (λ e. e)
    (cases_Bool (get_or left a false)) in
    let counted : count_by (λ e. e.predecessor.0 == a) entries + 0 ≡ cond (get_or leading a false) 1 0 = rw off at (m.count a) in
    omega (arith, counted)

-- a mark is left
pub mark_left : (leading : List Bool) (entries : List PhiEntry) (left : List Bool) → Matching leading entries left → list_any (λ mark. mark) left ≡ true → ((a : ℕ) → count_by (λ e. e.predecessor.0 == a) entries ≡ cond (get_or leading a false) 1 0) → ⊥
mark_left leading entries left m on all =
    let any = Any-from_list_any (λ (mark : Bool). mark) left on in
    let mark : get_or left any.0 false ≡ true = get_or_default left any.0 false any.1 any.2 ∙ any.3 ∙ any.4 in
    let counted : count_by (λ e. e.predecessor.0 == any.0) entries + 1 ≡ cond (get_or leading any.0 false) 1 0 = rw mark at (m.count any.0) in
    omega (arith, counted, all any.0)

pub no_edges_past : (blocks : List BlockEdges) (a : ℕ) → length blocks ≤ a → edges_of blocks a ≡ []
no_edges_past [] a l = refl
no_edges_past (x ∷ xs) zero l = absurd (omega (arith, l))
no_edges_past (x ∷ xs) (suc a) l = no_edges_past xs a (omega arith)

-- no edge of the first blocks leads there, and there are no others
pub no_predecessor : (blocks : List BlockEdges) (b n : ℕ) → ((a : ℕ) → a < n → leads_to b (edges_of blocks a) ≡ false) → length blocks ≤ n → HasPredecessor blocks b → ⊥
no_predecessor blocks b n none past has =
    ⊎_elim
    (λ l. true≢false (sym has.1 ∙ none has.0 l))
    (λ g. true≢false (sym has.1 ∙ (rw (no_edges_past blocks has.0 (omega arith)) refl)))
    (cases_lt has.0 n)

-- the answer after all entries
pub answered : (leading : List Bool) (entries : List PhiEntry) (i : ℕ) (left : List Bool) (marked : Bool) → Matching leading (take i entries) left → length entries ≤ i → marked ≡ list_any (λ mark. mark) left → IsTrue (not marked) ↔ ((a : ℕ) → count_by (λ e. e.predecessor.0 == a) entries ≡ cond (get_or leading a false) 1 0)
answered leading entries i left marked m past e =
    let whole = rw (take_all {A = PhiEntry} i entries past) at m in
    elim (cases_Bool marked) [
      | inl on ↦ rw on (λ h. absurd (false≢true h), λ all. absurd (mark_left leading entries left whole (sym e ∙ on) all))
      | inr off ↦ rw off (λ h. all_matched leading entries left whole (sym e ∙ off), λ all. refl)
    ]

-- the answer at one phi
pub phi_matched : (blocks : List BlockEdges) (b : ℕ) (phi : Phi) (leading : List Bool) (entries : List PhiEntry) (r : Bool) → leading ≡ map (λ (body : BlockEdges). leads_to b body.edges) blocks → entries ≡ phi.entries → IsTrue r ↔ ((a : ℕ) → count_by (λ e. e.predecessor.0 == a) entries ≡ cond (get_or leading a false) 1 0) → IsTrue r ↔ IsMatched blocks b phi.entries
phi_matched blocks b phi leading entries r marks read exact =
    rw (← read) (
      λ t a. exact.0 t a ∙ rw marks (ap (λ x. cond x 1 0) (leads_to-read blocks b a)),
      λ all. exact.1 (λ a. all a ∙ rw marks (ap (λ x. cond x 1 0) (sym (leads_to-read blocks b a)))),
    )

pub phi_judged : (blocks : List BlockEdges) (b : ℕ) (phi : Phi) (r : Bool) → IsTrue r ↔ IsMatched blocks b phi.entries → r ≡ true → IsJudged (IsMatched blocks b phi.entries) (IsUnmatched blocks b phi) None
phi_judged blocks b phi r exact e =
    let holds : IsMatched blocks b phi.entries = exact.0 e in
    (holds, λ broken p. p.2 holds)

pub phi_refused : (blocks : List BlockEdges) (b : ℕ) (phi : Phi) (r : Bool) → IsTrue r ↔ IsMatched blocks b phi.entries → r ≡ false → IsJudged (IsMatched blocks b phi.entries) (IsUnmatched blocks b phi) (Some (record { line = phi.line; number = 211 }))
phi_refused blocks b phi r exact e =
    ((refl, refl, λ all. false≢true (rw e at (exact.1 all))), λ broken p. (omega (arith, p.1), λ same. omega (arith, p.0)))
