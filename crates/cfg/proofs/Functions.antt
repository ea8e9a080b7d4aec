-- A function, judged block by block.
use Rattle.std.proofs.Common.{◌≡◌, ℕ, ◌+◌, ◌<◌, ◌≤◌, List, length, get_or, Option, Some, inl, inr, sym, ap, ⊎_elim, ◌∙◌, arith}
use Rattle.std.specs.Prelude.{slice_get}
use Rattle.std.proofs.lemmas.Bool.{cases_eq}
use Rattle.std.proofs.lemmas.Option.{slice_get-get_or, slice_get_within}
use Rattle.program.specs.declared.function.Block.{Block}
use Rattle.program.specs.declared.function.Function.{Function}
use Rattle.cfg.specs.declared.structure.BlockEdges.{BlockEdges}
use Rattle.refusal.specs.declared.broken.Broken.{Broken}
use Rattle.cfg.specs.Rules.{IsBlockRight, IsBlockBroken, IsFunctionRight, IsFunctionBroken}
use Rattle.cfg.specs.Edges.{graph_of}
use Rattle.refusal.specs.Earliest.{IsJudged}
use Rattle.refusal.specs.Named.{IsLowerOf}
use Rattle.refusal.proofs.Places.{same_at}
use Rattle.refusal.proofs.Judging.{judged_lower, judged_same}

-- the rules hold of the first blocks
abbrev pub AreBlocksRight : List Block → List BlockEdges → ℕ → Type 0
AreBlocksRight bodies blocks n = (b : ℕ) (block : Block) → b < n → slice_get bodies b ≡ Some block → IsBlockRight blocks b block

-- one of the first blocks breaks a rule
abbrev pub AreBlocksBroken : List Block → List BlockEdges → ℕ → Broken → Type 0
AreBlocksBroken bodies blocks n broken = (b : ℕ) × (block : Block) × (b < n) × (slice_get bodies b ≡ Some block) × IsBlockBroken blocks b block broken

pub blocks_next : (bodies : List Block) (blocks : List BlockEdges) (i : ℕ) (block : Block) (named broken r : Option Broken) → i < length bodies → block ≡ get_or bodies i block → IsJudged (AreBlocksRight bodies blocks i) (AreBlocksBroken bodies blocks i) named → IsJudged (IsBlockRight blocks i block) (IsBlockBroken blocks i block) broken → IsLowerOf named broken r → IsJudged (AreBlocksRight bodies blocks (i + 1)) (AreBlocksBroken bodies blocks (i + 1)) r
blocks_next bodies blocks i block named broken r l is before here lower =
    let read : slice_get bodies i ≡ Some block = slice_get-get_or bodies i block l ∙ ap Some (sym is) in
    judged_same _ _ _ _ r
    (λ s b x w h. ⊎_elim
    (λ same. let e : block ≡ x = same_at bodies i block x read (rw (← same) h) in rw (same, ← e) s.1)
    (λ other. s.0 b x (omega (arith, w, other)) h)
    (cases_eq b i))
    (λ b p. ⊎_elim
    (λ old. (old.0, old.1, omega (arith, old.2), old.3, old.4))
    (λ new. (i, block, omega arith, read, new))
    p)
    (λ b p. ⊎_elim
    (λ same. let h = rw same at p.3 in let e : p.1 ≡ block = same_at bodies i p.1 block h read in inr (rw (← e, ← same) p.4))
    (λ other. inl (p.0, p.1, omega (arith, p.2, other), p.3, p.4))
    (cases_eq p.0 i))
    (judged_lower (AreBlocksRight bodies blocks i) (IsBlockRight blocks i block) (AreBlocksBroken bodies blocks i) (IsBlockBroken blocks i block) named broken r before here lower)

-- all blocks of a function
pub blocks_all : (function : Function) (bodies : List Block) (blocks : List BlockEdges) (n : ℕ) (r : Option Broken) → bodies ≡ function.blocks → blocks ≡ (graph_of function).blocks → length bodies ≤ n → IsJudged (AreBlocksRight bodies blocks n) (AreBlocksBroken bodies blocks n) r → IsJudged (IsFunctionRight function) (IsFunctionBroken function) r
blocks_all function bodies blocks n r read made past j =
    let whole : length function.blocks ≤ n = rw (← read) past in
    let j' = rw (read, made) at j in
    judged_same _ _ _ _ r
    (λ s b block h. s b block (let w = slice_get_within function.blocks b block h in omega (arith, w, whole)) h)
    (λ b p. (p.0, p.1, p.3, p.4))
    (λ b p. (p.0, p.1, (let w = slice_get_within function.blocks p.0 p.1 p.2 in omega (arith, w, whole)), p.2, p.3))
    j'
