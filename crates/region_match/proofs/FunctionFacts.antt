-- What is named of a function.
use Rattle.std.proofs.Common.{◌≡◌, ◌⊎◌, ℕ, ◌≤◌, List, length, Option, sym, ap, subst, ◌∙◌}
use Rattle.program.specs.declared.function.Block.{Block}
use Rattle.program.specs.declared.function.Function.{Function}
use Rattle.cfg.specs.declared.structure.BlockEdges.{BlockEdges}
use Rattle.refusal.specs.declared.broken.Broken.{Broken}
use Rattle.cfg.specs.Edges.{graph_of}
use Rattle.refusal.specs.Earliest.{IsEarliest}
use Rattle.refusal.specs.Named.{IsLowerOf}
use Rattle.cfg.proofs.EdgeLists.{length-edges_from}
use Rattle.region_match.specs.Rules.{IsOpenEnd}
use Rattle.region_match.specs.Matched.{IsBlockBroken, IsFunctionBroken}
use Rattle.refusal.proofs.Elements.{earliest_same, earliest_both}
use Rattle.refusal.proofs.Places.{Below, Within, below_all}

pub blocks_size : (function : Function) (blocks : List BlockEdges) (bodies : List Block) → blocks ≡ (graph_of function).blocks → bodies ≡ function.blocks → length blocks ≡ length bodies
blocks_size function blocks bodies made read = ap length made ∙ length-edges_from function.blocks 0 function.blocks ∙ ap length (sym read)

AnyBroken : List Block → List BlockEdges → Broken → Type 0
AnyBroken bodies blocks x = IsOpenEnd bodies blocks x ⊎ Within (IsBlockBroken bodies blocks) bodies x

pub function_named : (function : Function) (bodies : List Block) (blocks : List BlockEdges) (n : ℕ) (unsynced named r : Option Broken) → bodies ≡ function.blocks → blocks ≡ (graph_of function).blocks → length bodies ≤ n → IsEarliest (IsOpenEnd bodies blocks) unsynced → IsEarliest (Below (IsBlockBroken bodies blocks) bodies n) named → IsLowerOf unsynced named r → IsEarliest (IsFunctionBroken function) r
unfolding AnyBroken
function_named function bodies blocks n unsynced named r read made past ends j lower =
    earliest_same (AnyBroken bodies blocks) (IsFunctionBroken function) r
    (λ x p. subst (λ bs. AnyBroken bs (graph_of function).blocks x) read (subst (λ es. AnyBroken bodies es x) made p))
    (λ x p. subst (λ bs. AnyBroken bs blocks x) (sym read) (subst (λ es. AnyBroken function.blocks es x) (sym made) p))
    (earliest_both (IsOpenEnd bodies blocks) (Within (IsBlockBroken bodies blocks) bodies) unsynced named r ends (below_all (IsBlockBroken bodies blocks) bodies n named past j) lower)
