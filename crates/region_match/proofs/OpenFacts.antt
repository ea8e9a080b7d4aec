-- Detaches that no sync follows.
use Rattle.std.proofs.Common.{◌≡◌, ◌↔◌, ℕ, ◌+◌, ◌<◌, Bool, true, false, IsTrue, List, [], ◌∷◌, ◌++◌, length, get_or, refl, sym, subst, ⊎_elim, ◌∙◌, arith}
use Rattle.std.proofs.lemmas.Bool.{cases_Bool, cases_eq, true≢false}
use Rattle.std.proofs.lemmas.List.{length_push, get_or_append_left, get_or_push}
use Rattle.program.specs.linear.declared.form.RegisterId.{RegisterId}
use Rattle.program.specs.declared.identifier.BlockId.{BlockId}
use Rattle.program.specs.declared.function.Block.{Block}
use Rattle.cfg.specs.declared.structure.BlockEdges.{BlockEdges}
use Rattle.cfg.specs.Paths.{Leg, IsPath}
use Rattle.cfg.specs.Reached.{Avoids, IsReached}
use Rattle.region_match.specs.Rules.{ending_at, IsSync, IsUnsynced}
use Rattle.region_match.proofs.OneTask.{start_within, edges_within}

-- the marks of the first blocks
pub record SyncMarks (bodies : List Block) (region : RegisterId) (n : ℕ) (marks : List Bool) : Type 0 where
  pub size : length marks ≡ n
  pub exact : (b : ℕ) → b < n → (get_or marks b false ≡ true) ↔ IsSync (ending_at bodies b) region

pub SyncMarks-none : (bodies : List Block) (region : RegisterId) → SyncMarks bodies region 0 []
SyncMarks-none bodies region = record { size = refl; exact = λ b l. absurd (omega (arith, l)) }

pub SyncMarks-next : (bodies : List Block) (region : RegisterId) (n : ℕ) (marks : List Bool) (mark : Bool) → SyncMarks bodies region n marks → IsTrue mark ↔ IsSync (ending_at bodies n) region → SyncMarks bodies region (n + 1) (marks ++ mark ∷ [])
SyncMarks-next bodies region n marks mark s at = record {
  size = omega (arith, length_push marks mark, s.size);
  exact = λ b l. ⊎_elim
      (λ same.
      let read : get_or (marks ++ mark ∷ []) b false ≡ mark = get_or_push marks mark false b (s.size ∙ sym same) in
      (λ h. rw same (at.0 (sym read ∙ h)), λ k. read ∙ at.1 (rw (← same) k)))
      (λ other.
      let w : b < n = omega (arith, l, other) in
      let read : get_or (marks ++ mark ∷ []) b false ≡ get_or marks b false = get_or_append_left marks (mark ∷ []) false b (omega (arith, w, s.size)) in
      (λ h. (s.exact b w).0 (sym read ∙ h), λ k. read ∙ (s.exact b w).1 k))
      (cases_eq b n);
}

module _ (bodies : List Block) (blocks : List BlockEdges) (region : RegisterId) (continuation : BlockId) (size : length blocks ≡ length bodies) (starts stops marks : List Bool)
    (one : (b : ℕ) → (get_or starts b false ≡ true) ↔ ((b ≡ continuation.0) × (b < length blocks)))
    (sync : (b : ℕ) → b < length bodies → (get_or stops b false ≡ true) ↔ IsSync (ending_at bodies b) region)
    (exact : (b : ℕ) → b < length blocks → (get_or marks b false ≡ true) ↔ IsReached blocks starts stops b) where
  unsynced_of : (from to : ℕ) (legs : List Leg) → IsPath blocks from legs to → Avoids (λ b. get_or stops b false) legs → IsUnsynced bodies region legs
  unsynced_of from to [] path free = tt
  unsynced_of from to (leg ∷ legs) path free =
      let w : leg.from < length bodies = (let v = edges_within blocks leg.from leg.edge path.0 in omega (arith, v, size)) in
      (λ s. true≢false (sym ((sync leg.from w).1 s) ∙ free.0), unsynced_of from leg.from legs path.2 free.1)

  avoids_of : (from to : ℕ) (legs : List Leg) → IsPath blocks from legs to → IsUnsynced bodies region legs → Avoids (λ b. get_or stops b false) legs
  avoids_of from to [] path free = tt
  avoids_of from to (leg ∷ legs) path free =
      let w : leg.from < length bodies = (let v = edges_within blocks leg.from leg.edge path.0 in omega (arith, v, size)) in
      (⊎_elim (λ on. absurd (free.0 ((sync leg.from w).0 on))) (λ off. off) (cases_Bool (get_or stops leg.from false)), avoids_of from leg.from legs path.2 free.1)

  pub open_exact : (b : ℕ) → b < length blocks → (get_or marks b false ≡ true) ↔ ((legs : List Leg) × IsPath blocks continuation.0 legs b × IsUnsynced bodies region legs)
  open_exact b l = (
    λ h.
        let r = (exact b l).0 h in
        let start : r.0 ≡ continuation.0 = ((one r.0).0 r.1).0 in
        (r.2, subst (λ x. IsPath blocks x r.2 b) start r.3, unsynced_of r.0 b r.2 r.3 r.4),
    λ p. (exact b l).1 (continuation.0, (one continuation.0).1 (refl, start_within blocks continuation.0 b p.0 p.1 l), p.0, p.1, avoids_of continuation.0 b p.0 p.1 p.2),
  )
