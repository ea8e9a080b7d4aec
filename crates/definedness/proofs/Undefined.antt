-- The table of a function, and what is named of it.
use Rattle.std.proofs.Common.{◌≡◌, ◌↔◌, ℕ, ◌+◌, ◌<◌, true, List, [], ◌∷◌, ◌++◌, suc, length, get_or, take, map, Option, Some, refl, sym, ap, subst, ◌∙◌, arith}
use Rattle.std.specs.Prelude.{slice_get}
use Rattle.std.proofs.lemmas.List.{take_more, length-map}
use Rattle.std.proofs.lemmas.Option.{slice_get_within, slice_get-get_or}
use Rattle.program.specs.declared.function.Block.{Block}
use Rattle.program.specs.declared.function.Function.{Function}
use Rattle.refusal.specs.declared.broken.Broken.{Broken}
use Rattle.cfg.specs.declared.structure.BlockEdges.{BlockEdges}
use Rattle.cfg.specs.Edges.{graph_of}
use Rattle.cfg.proofs.EdgeLists.{length-edges_from}
use Rattle.refusal.specs.Earliest.{IsEarliest}
use Rattle.refusal.proofs.Elements.{earliest_same}
use Rattle.definedness.specs.declared.act.Act.{Act}
use Rattle.definedness.specs.declared.act.Act.TheVariants.{Needs, Gives}
use Rattle.definedness.specs.declared.act.BlockActs.{BlockActs}
use Rattle.definedness.specs.declared.table.Given.{Given}
use Rattle.definedness.specs.declared.table.Row.{Row}
use Rattle.definedness.specs.Definedness.{registers_from, register_table, alloca_table, IsUndefined, IsUnsure}
use Rattle.definedness.specs.Missing.{IsMissing}
use Rattle.definedness.specs.Needs.{gives, given_of, IsNeedBroken, IsTableBroken}
use Rattle.definedness.specs.Marks.{mark_at, IsNeedBelow, AreNeedsBelow}
use Rattle.definedness.specs.AllocaActs.{alloca_acts}
use Rattle.definedness.specs.RegisterActs.{register_acts}
use Rattle.definedness.specs.Sure.{IsNeverSure}
use Rattle.refusal.proofs.Places.{same_at}

pub registers_length : (function : Function) (b : ℕ) (blocks : List Block) → length (registers_from function b blocks) ≡ length blocks
registers_length function b [] = refl
registers_length function b (x ∷ xs) = ap suc (registers_length function (suc b) xs)

registers_push : (function : Function) (b : ℕ) (blocks : List Block) (block : Block) → registers_from function b (blocks ++ block ∷ []) ≡ registers_from function b blocks ++ record { acts = register_acts function (b + length blocks) block } ∷ []
registers_push function b [] block = let e : b ≡ b + 0 = omega arith in ap (λ n. record { acts = register_acts function n block } ∷ []) e
registers_push function b (x ∷ xs) block =
    let e : suc b + length xs ≡ b + suc (length xs) = omega arith in
    let P : ℕ → List BlockActs = λ n. registers_from function (suc b) xs ++ record { acts = register_acts function n block } ∷ [] in
    ap (λ t. record { acts = register_acts function b x } ∷ t) (registers_push function (suc b) xs block ∙ ap P e)

pub registers_next : (function : Function) (blocks : List Block) (i : ℕ) (block : Block) (table : List BlockActs) (acts : List Act) → i < length blocks → block ≡ get_or blocks i block → length (take i blocks) ≡ i → table ≡ registers_from function 0 (take i blocks) → acts ≡ register_acts function i block → table ++ record { acts = acts } ∷ [] ≡ registers_from function 0 (take (i + 1) blocks)
registers_next function blocks i block table acts l is at before here =
    let zeroth : 0 + length (take i blocks) ≡ i = omega (arith, at) in
    let P : ℕ → List BlockActs = λ n. registers_from function 0 (take i blocks) ++ record { acts = register_acts function n block } ∷ [] in
    rw (before, here, take_more blocks i block l, ← is) (sym (registers_push function 0 (take i blocks) block ∙ ap P zeroth))

-- needs that are judged by rows of marks
module _ (Lacks : ℕ → ℕ → Type 0) (rows : List Row) (count blocks rule : ℕ) (table : List BlockActs) (exact : (n b : ℕ) → n < count → b < blocks → (mark_at rows n b ≡ true) ↔ Lacks n b) (size : length table ≡ blocks) (below : AreNeedsBelow count table) where
  need_of : (b : ℕ) (before : List ℕ) (act : Act) (broken : Broken) → b < blocks → IsNeedBelow count act → IsNeedBroken (λ n. mark_at rows n b ≡ true) rule before act broken → IsNeedBroken (λ n. Lacks n b) rule before act broken
  need_of b before (Needs n line) broken w l p = (p.0, p.1, p.2, (exact n b l w).0 p.3)
  need_of b before (Gives n) broken w l p = p

  need_to : (b : ℕ) (before : List ℕ) (act : Act) (broken : Broken) → b < blocks → IsNeedBelow count act → IsNeedBroken (λ n. Lacks n b) rule before act broken → IsNeedBroken (λ n. mark_at rows n b ≡ true) rule before act broken
  need_to b before (Needs n line) broken w l p = (p.0, p.1, p.2, (exact n b l w).1 p.3)
  need_to b before (Gives n) broken w l p = p

  block_within : (b : ℕ) (block : BlockActs) → slice_get table b ≡ Some block → b < blocks
  block_within b block is = rw (← size) (slice_get_within table b block is)

  act_below : (b : ℕ) (block : BlockActs) (k : ℕ) (act : Act) → slice_get table b ≡ Some block → slice_get block.acts k ≡ Some act → IsNeedBelow count act
  act_below b block k act is at =
      let l : b < length table = slice_get_within table b block is in
      let m : k < length block.acts = slice_get_within block.acts k act at in
      let e : get_or table b block ≡ block = same_at table b (get_or table b block) block (slice_get-get_or table b block l) is in
      let f : get_or block.acts k act ≡ act = same_at block.acts k (get_or block.acts k act) act (slice_get-get_or block.acts k act m) at in
      rw f at ((rw e at (below b block l)) k act m)

  pub table_named : (r : Option Broken) → IsEarliest (IsTableBroken (λ n b. mark_at rows n b ≡ true) rule table) r → IsEarliest (IsTableBroken Lacks rule table) r
  table_named r j = earliest_same (IsTableBroken (λ n b. mark_at rows n b ≡ true) rule table) (IsTableBroken Lacks rule table) r
      (λ x p. (p.0, p.1, p.2, (p.3.0, p.3.1, p.3.2, need_of p.0 (gives (take p.3.0 p.1.acts)) p.3.1 x (block_within p.0 p.1 p.2) (act_below p.0 p.1 p.3.0 p.3.1 p.2 p.3.2) p.3.3)))
      (λ x p. (p.0, p.1, p.2, (p.3.0, p.3.1, p.3.2, need_to p.0 (gives (take p.3.0 p.1.acts)) p.3.1 x (block_within p.0 p.1 p.2) (act_below p.0 p.1 p.3.0 p.3.1 p.2 p.3.2) p.3.3)))
      j

pub table_size : (function : Function) (blocks : List BlockEdges) → blocks ≡ (graph_of function).blocks → length (register_table function) ≡ length blocks
table_size function blocks graph = registers_length function 0 function.blocks ∙ sym (ap length graph ∙ length-edges_from function.blocks 0 function.blocks)

pub undefined_named : (function : Function) (blocks : List BlockEdges) (table t1 t2 t5 : List BlockActs) (all a3 : List Given) (rows r4 : List Row) (count : ℕ) (r : Option Broken) → blocks ≡ (graph_of function).blocks → table ≡ register_table function → t1 ≡ table → t2 ≡ table → t5 ≡ table → all ≡ map given_of t1 → a3 ≡ all → r4 ≡ rows → AreNeedsBelow count t2 → ((n b : ℕ) → n < count → b < length blocks → (mark_at rows n b ≡ true) ↔ IsMissing blocks a3 n b) → IsEarliest (IsTableBroken (λ n b. mark_at r4 n b ≡ true) 401 t5) r → IsEarliest (IsUndefined function) r
undefined_named function blocks table t1 t2 t5 all a3 rows r4 count r graph made e1 e2 e5 defs e3 e4 below exact j =
    let T = register_table function in
    let f1 : t1 ≡ T = e1 ∙ made in
    let f2 : t2 ≡ T = e2 ∙ made in
    let f5 : t5 ≡ T = e5 ∙ made in
    let g3 : a3 ≡ map given_of T = e3 ∙ defs ∙ ap (map given_of) f1 in
    let P : List Row → List BlockActs → Type 0 = λ rs t. IsEarliest (IsTableBroken (λ n b. mark_at rs n b ≡ true) 401 t) r in
    table_named (IsMissing (graph_of function).blocks (map given_of T)) rows count (length blocks) 401 T
    (λ n b l w. subst (λ bs. (mark_at rows n b ≡ true) ↔ IsMissing bs (map given_of T) n b) graph (subst (λ a. (mark_at rows n b ≡ true) ↔ IsMissing blocks a n b) g3 (exact n b l w)))
    (table_size function blocks graph)
    (subst (λ t. AreNeedsBelow count t) f2 below)
    r
    (subst (λ t. P rows t) f5 (subst (λ rs. P rs t5) e4 j))

pub unsure_named : (function : Function) (blocks : List BlockEdges) (bodies : List Block) (table t1 t2 t5 : List BlockActs) (all a3 : List Given) (rows r4 : List Row) (count : ℕ) (r : Option Broken) → blocks ≡ (graph_of function).blocks → bodies ≡ function.blocks → table ≡ alloca_table function → t1 ≡ table → t2 ≡ table → t5 ≡ table → all ≡ map given_of t1 → a3 ≡ all → r4 ≡ rows → AreNeedsBelow count t2 → ((n b : ℕ) → n < count → b < length blocks → (mark_at rows n b ≡ true) ↔ IsNeverSure bodies blocks a3 n b) → IsEarliest (IsTableBroken (λ n b. mark_at r4 n b ≡ true) 402 t5) r → IsEarliest (IsUnsure function) r
unsure_named function blocks bodies table t1 t2 t5 all a3 rows r4 count r graph read made e1 e2 e5 defs e3 e4 below exact j =
    let T = alloca_table function in
    let f1 : t1 ≡ T = e1 ∙ made in
    let f2 : t2 ≡ T = e2 ∙ made in
    let f5 : t5 ≡ T = e5 ∙ made in
    let g3 : a3 ≡ map given_of T = e3 ∙ defs ∙ ap (map given_of) f1 in
    let P : List Row → List BlockActs → Type 0 = λ rs t. IsEarliest (IsTableBroken (λ n b. mark_at rs n b ≡ true) 402 t) r in
    table_named (IsNeverSure function.blocks (graph_of function).blocks (map given_of T)) rows count (length blocks) 402 T
    (λ n b l w. subst (λ bs. (mark_at rows n b ≡ true) ↔ IsNeverSure function.blocks bs (map given_of T) n b) graph (subst (λ a. (mark_at rows n b ≡ true) ↔ IsNeverSure function.blocks blocks a n b) g3 (subst (λ bs. (mark_at rows n b ≡ true) ↔ IsNeverSure bs blocks a3 n b) read (exact n b l w))))
    (length-map function.blocks (λ (block : Block). let acts : BlockActs = record { acts = alloca_acts function.allocas block } in acts) ∙ sym (ap length graph ∙ length-edges_from function.blocks 0 function.blocks))
    (subst (λ t. AreNeedsBelow count t) f2 below)
    r
    (subst (λ t. P rows t) f5 (subst (λ rs. P rs t5) e4 j))
