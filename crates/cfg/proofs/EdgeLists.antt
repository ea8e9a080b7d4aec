-- Lists of edges, built from the front.
use Rattle.std.proofs.Common.{◌≡◌, ℕ, ◌+◌, ◌<◌, false, List, [], ◌∷◌, ◌++◌, suc, length, take, get_or, ltb, Some, None, refl, sym, ap, ◌∙◌, arith, append-nil, length-take}
use Rattle.std.specs.Prelude.{slice_get}
use Rattle.std.proofs.lemmas.Bool.{ltb-false}
use Rattle.std.proofs.lemmas.Option.{slice_get_past}
use Rattle.std.specs.List.{filter_map}
use Rattle.std.proofs.lemmas.List.{append_assoc, take_more}
use Rattle.std.proofs.lemmas.List.Elements.{filter_map-append}
use Rattle.program.specs.Phis.{entry_for}
use Rattle.program.specs.declared.instruction.Operand.{Operand}
use Rattle.program.specs.declared.instruction.PhiEntry.{PhiEntry}
use Rattle.program.specs.declared.instruction.Phi.{Phi}
use Rattle.program.specs.declared.function.Block.{Block}
use Rattle.cfg.specs.declared.structure.Edge.{Edge}
use Rattle.cfg.specs.declared.structure.Successor.{Successor}
use Rattle.cfg.specs.declared.structure.Move.{Move}
use Rattle.cfg.specs.declared.structure.BlockEdges.{BlockEdges}
use Rattle.cfg.specs.Edges.{move_from, moves_from, edge_of, edges_at_end, edges_from}

-- a phi that takes a value
pub moves_push : (from : ℕ) (phis : List Phi) (i : ℕ) (phi : Phi) (entries : List PhiEntry) (moves : List Move) (v : Operand) → i < length phis → moves ≡ moves_from from (take i phis) → phi ≡ get_or phis i phi → entries ≡ phi.entries → Some v ≡ entry_for from entries → moves ++ record { register = phi.register; value = v } ∷ [] ≡ moves_from from (take (i + 1) phis)
moves_push from phis i phi entries moves v l e is read found =
    let found' : entry_for from phi.entries ≡ Some v = ap (entry_for from) (sym read) ∙ sym found in
    rw (take_more phis i phi l, ← is, filter_map-append (move_from from) (take i phis) (phi ∷ []), e, found') refl

-- a phi with no entry
pub moves_skip : (from : ℕ) (phis : List Phi) (i : ℕ) (phi : Phi) (entries : List PhiEntry) (moves : List Move) → i < length phis → moves ≡ moves_from from (take i phis) → phi ≡ get_or phis i phi → entries ≡ phi.entries → None ≡ entry_for from entries → moves ≡ moves_from from (take (i + 1) phis)
moves_skip from phis i phi entries moves l e is read none =
    let none' : entry_for from phi.entries ≡ None = ap (entry_for from) (sym read) ∙ sym none in
    rw (take_more phis i phi l, ← is, filter_map-append (move_from from) (take i phis) (phi ∷ []), none') (e ∙ sym (append-nil _))

pub edges_from-push : (blocks : List Block) (from : ℕ) (front : List Block) (block : Block) → edges_from blocks from (front ++ block ∷ []) ≡ edges_from blocks from front ++ record { edges = edges_at_end blocks (from + length front) block.ending } ∷ []
edges_from-push blocks from [] block =
    let same : from ≡ from + 0 = omega arith in
    ap (λ n. record { edges = edges_at_end blocks n block.ending } ∷ []) same
edges_from-push blocks from (b ∷ bs) block =
    let same : suc from + length bs ≡ from + suc (length bs) = omega arith in
    ap (λ es. record { edges = edges_at_end blocks from b.ending } ∷ es) (edges_from-push blocks (suc from) bs block ∙ ap (λ n. edges_from blocks (suc from) bs ++ record { edges = edges_at_end blocks n block.ending } ∷ []) same)

pub edges_push : (blocks : List Block) (i : ℕ) (block : Block) (made : List BlockEdges) (edges : BlockEdges) → i < length blocks → made ≡ edges_from blocks 0 (take i blocks) → block ≡ get_or blocks i block → edges.edges ≡ edges_at_end blocks i block.ending → made ++ edges ∷ [] ≡ edges_from blocks 0 (take (i + 1) blocks)
edges_push blocks i block made edges l e is read =
    let number : 0 + length (take i blocks) ≡ i = omega (arith, length-take i blocks) in
    rw (take_more blocks i block l, ← is, edges_from-push blocks 0 (take i blocks) block, number, e, ← read) refl

-- a successor that is no block
pub edge_to_none : (blocks : List Block) (from : ℕ) (x : Successor) (edges : List Edge) → false ≡ ltb x.to.0 (length blocks) → edges ≡ edges ++ filter_map (edge_of blocks from) (x ∷ [])
edge_to_none blocks from x edges past =
    let none : slice_get blocks x.to.0 ≡ None = slice_get_past blocks x.to.0 (ltb-false x.to.0 (length blocks) (sym past)) in
    rw none (sym (append-nil edges))

-- the edge to one successor more
pub successors_push : (blocks : List Block) (from : ℕ) (xs : List Successor) (i : ℕ) (d : Successor) (edges now new : List Edge) → i < length xs → now ≡ edges ++ filter_map (edge_of blocks from) (take i xs) → new ≡ now ++ filter_map (edge_of blocks from) (get_or xs i d ∷ []) → new ≡ edges ++ filter_map (edge_of blocks from) (take (i + 1) xs)
successors_push blocks from xs i d edges now new l e is =
    rw (is, e, take_more xs i d l, filter_map-append (edge_of blocks from) (take i xs) (get_or xs i d ∷ [])) (append_assoc edges (filter_map (edge_of blocks from) (take i xs)) (filter_map (edge_of blocks from) (get_or xs i d ∷ [])))

pub length-edges_from : (blocks : List Block) (from : ℕ) (rest : List Block) → length (edges_from blocks from rest) ≡ length rest
length-edges_from blocks from [] = refl
length-edges_from blocks from (b ∷ bs) = ap suc (length-edges_from blocks (suc from) bs)
