-- Edges of blocks that are there, and paths that visit a block for the first time.
use Rattle.std.proofs.Common.{◌≡◌, ℕ, zero, suc, ◌⊎◌, inl, inr, List, [], ◌∷◌, None, refl, subst, ◌∙◌, slice_get}
use Rattle.std.specs.List.{Contains}
use Rattle.program.specs.declared.function.Block.{Block}
use Rattle.program.specs.declared.function.Function.{Function}
use Rattle.program.specs.declared.function.Program.{Program}
use Rattle.program.specs.declared.instruction.Phi.{Phi}
use Rattle.refusal.specs.declared.broken.Broken.{Broken}
use Rattle.cfg.specs.declared.structure.Edge.{Edge}
use Rattle.cfg.specs.declared.structure.Way.{Way}
use Rattle.cfg.specs.declared.structure.Way.TheVariants as way
use Rattle.cfg.specs.Edges.{edges_from, graph_of}
use Rattle.cfg.specs.Paths.{edges_of}
use Rattle.region_match.specs.Rules.{IsEntered}
use Rattle.region_match.specs.Matched.{IsFunctionBroken, AreRegionsRight}
use Rattle.laws_phases.specs.defined.Leads.{IsBlock}
use Rattle.laws_phases.proofs.defined.Lists.{none_within, first_within}
use Rattle.laws_phases.proofs.defined.Items.{Along}
use Rattle.laws_phases.proofs.defined.Roles.{any_function}

edges_past : (all : List Block) (from : ℕ) (rest : List Block) (c : ℕ) → slice_get rest c ≡ None → edges_of (edges_from all from rest) c ≡ []
edges_past all from [] c e = refl
edges_past all from (x ∷ xs) zero e = absurd (cc)
edges_past all from (x ∷ xs) (suc c) e = edges_past all (suc from) xs c e

pub no_edges : (function : Function) (c : ℕ) (e : Edge) → slice_get function.blocks c ≡ None → Contains (edges_of (graph_of function).blocks c) e → ⊥
no_edges function c e past within = none_within e (subst (λ es. Contains es e) (edges_past function.blocks 0 function.blocks c past) within)

-- 307: a phi of a detached block or a continuation
pub phi_refused : (prog : Program) → AreRegionsRight prog → (f to : ℕ) (function : Function) (block : Block) (phi : Phi) (phis : List Phi) → IsBlock prog f to function block → block.phis ≡ phi ∷ phis → (a : ℕ) (w : Way) → (w ≡ way.Detached) ⊎ (w ≡ way.Continued) → Along (edges_of (graph_of function).blocks a) w to → ⊥
phi_refused prog right f to function block phi phis is e a w kind edge =
    let broken : Broken = record { line = phi.line; number = 307 } in
    let entered : (x : Way) → w ≡ x → IsEntered (graph_of function).blocks to x = λ x same. (a, (edge.within.0, edge.edge, edge.within.1, edge.within.2, (edge.target, edge.way_is ∙ same))) in
    let which : IsEntered (graph_of function).blocks to way.Detached ⊎ IsEntered (graph_of function).blocks to way.Continued = elim kind [ inl k ↦ inl (entered way.Detached k) | inr k ↦ inr (entered way.Continued k) ] in
    let here = first_within phi phis in
    right.unbroken broken (any_function {P = λ (x : Function). IsFunctionBroken x broken} prog.functions f function is.at_function
    (inr (to, block, is.at_block, inr (inr (inl (inr (which, rw e (here.0, phi, here.1, here.2, (refl, refl)))))))))
