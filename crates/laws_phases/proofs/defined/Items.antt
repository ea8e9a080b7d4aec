-- What stands at a place, and the edges behind it.
use Rattle.std.proofs.Common.{◌≡◌, ℕ, zero, suc, ◌+◌, inl, inr, List, [], ◌∷◌, length, map, Option, Some, None, is_some, true, refl, sym, ap, ◌∙◌, subst, arith, slice_get, false}
use Rattle.std.specs.List.{Contains}
use Rattle.std.specs.Option.{option_map}
use Rattle.linear.specs.declared.form.RegisterId.{RegisterId}
use Rattle.semantics.specs.Frames.{and_then, Item, Does, Ends, item_of, block_at, item_at}
use Rattle.program.specs.declared.function.Block.{Block}
use Rattle.program.specs.declared.function.Function.{Function}
use Rattle.program.specs.declared.function.Program.{Program}
use Rattle.program.specs.declared.instruction.Ending.{Ending}
use Rattle.program.specs.declared.instruction.Instruction.{Instruction}
use Rattle.program.specs.declared.instruction.Step.{Step}
use Rattle.program.specs.declared.instruction.Terminator.{Terminator}
use Rattle.program.specs.declared.instruction.Terminator.TheVariants as terminator
use Rattle.cfg.specs.declared.structure.Edge.{Edge}
use Rattle.cfg.specs.declared.structure.Way.{Way}
use Rattle.cfg.specs.declared.structure.Way.TheVariants as way
use Rattle.cfg.specs.declared.structure.Guard.TheVariants.{Silent, Tested}
use Rattle.cfg.specs.declared.structure.Successor.{Successor}
use Rattle.cfg.specs.Edges.{successor, case_successor, successors, edge_into, edge_of, edges_along, edges_at_end, edges_from, graph_of}
use Rattle.cfg.specs.Paths.{edges_of}
use Rattle.laws_phases.specs.defined.Leads.{LeadsTo, IsBlock}
use Rattle.cfg.proofs.Searching.{Contains_map}
use Rattle.laws_phases.proofs.defined.Lists.{first_within, later_within, chosen_within}

-- ---- blocks

pub record Stands (prog : Program) (f b i : ℕ) (x : Item) : Type 0 where
  pub function : Function
  pub block : Block
  pub is : IsBlock prog f b function block
  pub item : item_of block.steps block.ending i ≡ Some x

pub stands : (prog : Program) (f b i : ℕ) (x : Item) → item_at prog f b i ≡ Some x → Stands prog f b i x
stands prog f b i x e = by_function (slice_get prog.functions f) refl e
  where
    by_block : (function : Function) → slice_get prog.functions f ≡ Some function → (o : Option Block) → slice_get function.blocks b ≡ o → and_then o (λ (c : Block). item_of c.steps c.ending i) ≡ Some x → Stands prog f b i x
    by_block function at None is e = absurd (cc)
    by_block function at (Some block) is e = record { function = function; block = block; is = record { at_function = at; at_block = is }; item = e }

    by_function : (o : Option Function) → slice_get prog.functions f ≡ o → and_then (and_then o (λ (c : Function). slice_get c.blocks b)) (λ (c : Block). item_of c.steps c.ending i) ≡ Some x → Stands prog f b i x
    by_function None at e = absurd (cc)
    by_function (Some function) at e = by_block function at (slice_get function.blocks b) refl e

pub block_is : (prog : Program) (f b : ℕ) (function : Function) (block : Block) → IsBlock prog f b function block → block_at prog f b ≡ Some block
block_is prog f b function block h = rw (h.at_function, h.at_block) refl

pub is_block : (prog : Program) (f b : ℕ) (function : Function) → slice_get prog.functions f ≡ Some function → is_some (block_at prog f b) ≡ true → (block : Block) × IsBlock prog f b function block
is_block prog f b function at there = from (slice_get function.blocks b) refl (rw at at there)
  where
    from : (o : Option Block) → slice_get function.blocks b ≡ o → is_some o ≡ true → (block : Block) × IsBlock prog f b function block
    from None is h = absurd (cc)
    from (Some block) is h = (block, record { at_function = at; at_block = is })

pub function_there : (prog : Program) (g : ℕ) → is_some (block_at prog g 0) ≡ true → (function : Function) × (block : Block) × IsBlock prog g 0 function block
function_there prog g there = from (slice_get prog.functions g) refl
  where
    missing : false ≡ true → ⊥
    missing h = cc

    from : (o : Option Function) → slice_get prog.functions g ≡ o → (function : Function) × (block : Block) × IsBlock prog g 0 function block
    from None is = absurd (missing (rw is at there))
    from (Some function) is = let r = is_block prog g 0 function is there in (function, r.0, r.1)

pub item_there : (steps : List Step) (ending : Option Ending) (i : ℕ) (step : Step) → slice_get steps i ≡ Some step → item_of steps ending i ≡ Some (Does step.instruction)
item_there [] ending i step e = absurd (cc)
item_there (s ∷ steps) ending zero step e = let same : s ≡ step = cc in ap (λ (x : Step). Some (Does x.instruction)) same
item_there (s ∷ steps) ending (suc i) step e = item_there steps ending i step e

-- ---- items

pub step_there : (steps : List Step) (ending : Option Ending) (i : ℕ) (what : Instruction) → item_of steps ending i ≡ Some (Does what) → (s : Step) × (slice_get steps i ≡ Some s) × (s.instruction ≡ what)
step_there [] None i what e = absurd (cc)
step_there [] (Some ending) zero what e = absurd (cc)
step_there [] (Some ending) (suc i) what e = absurd (cc)
step_there (s ∷ steps) ending zero what e = (s, refl, cc)
step_there (s ∷ steps) ending (suc i) what e = step_there steps ending i what e

pub end_there : (steps : List Step) (ending : Option Ending) (i : ℕ) (t : Terminator) → item_of steps ending i ≡ Some (Ends t) → (e : Ending) × (ending ≡ Some e) × (e.terminator ≡ t) × (i ≡ length steps)
end_there [] None i t e = absurd (cc)
end_there [] (Some ending) zero t e = (ending, refl, cc, refl)
end_there [] (Some ending) (suc i) t e = absurd (cc)
end_there (s ∷ steps) ending zero t e = absurd (cc)
end_there (s ∷ steps) ending (suc i) t e = let r = end_there steps ending i t e in (r.0, r.1, r.2, ap suc r.3)

-- ---- edges

edges_read : (all : List Block) (from : ℕ) (rest : List Block) (b : ℕ) (block : Block) → slice_get rest b ≡ Some block → edges_of (edges_from all from rest) b ≡ edges_at_end all (from + b) block.ending
edges_read all from [] b block e = absurd (cc)
edges_read all from (x ∷ xs) zero block e = let same : x ≡ block = cc in let n : from ≡ from + 0 = omega arith in ap (λ (y : Block). edges_at_end all from y.ending) same ∙ ap (λ k. edges_at_end all k block.ending) n
edges_read all from (x ∷ xs) (suc b) block e = let n : suc from + b ≡ from + suc b = omega arith in edges_read all (suc from) xs b block e ∙ ap (λ k. edges_at_end all k block.ending) n

pub block_edges : (function : Function) (b : ℕ) (block : Block) (ending : Ending) → slice_get function.blocks b ≡ Some block → block.ending ≡ Some ending → edges_of (graph_of function).blocks b ≡ edges_along function.blocks b ending.terminator
block_edges function b block ending at is =
    let n : 0 + b ≡ b = omega arith in
    edges_read function.blocks 0 function.blocks b block at ∙ ap (λ k. edges_at_end function.blocks k block.ending) n ∙ ap (λ o. edges_at_end function.blocks b o) is

-- an edge of a list, to a block by a way
pub record Along (edges : List Edge) (w : Way) (to : ℕ) : Type 0 where
  pub edge : Edge
  pub within : Contains edges edge
  pub target : edge.to.0 ≡ to
  pub way_is : edge.way ≡ w

abbrev IsSuccessor : Terminator → Way → ℕ → Type 0
IsSuccessor t w b = (x : Successor) × Contains (successors t) x × (x.way ≡ w) × (x.to.0 ≡ b)

first_to : (t : Terminator) (x : Successor) (xs : List Successor) (b : ℕ) → successors t ≡ x ∷ xs → x.to.0 ≡ b → IsSuccessor t x.way b
first_to t x xs b are to = (x, subst (λ ys. Contains ys x) (sym are) (first_within x xs), refl, to)

later_to : (t : Terminator) (y x : Successor) (xs : List Successor) (b : ℕ) → successors t ≡ y ∷ xs → Contains xs x → x.to.0 ≡ b → IsSuccessor t x.way b
later_to t y x xs b are there to = (x, subst (λ ys. Contains ys x) (sym are) (later_within y x xs there), refl, to)

-- where a terminator leads is one of its successors
is_successor : (t : Terminator) (w : Way) (b : ℕ) → LeadsTo t w b → IsSuccessor t w b
is_successor (terminator.Jump x) way.Branch b h = first_to (terminator.Jump x) (successor way.Branch x Silent) [] b refl h
is_successor (terminator.Branch test x y) way.Branch b (inl h) =
    first_to (terminator.Branch test x y) (successor way.Branch x (Tested test true)) (successor way.Branch y (Tested test false) ∷ []) b refl h
is_successor (terminator.Branch test x y) way.Branch b (inr h) =
    let second = successor way.Branch y (Tested test false) in
    later_to (terminator.Branch test x y) (successor way.Branch x (Tested test true)) second (second ∷ []) b refl (first_within second []) h
is_successor (terminator.Switch w a default cases) way.Branch b (inl h) = first_to (terminator.Switch w a default cases) (successor way.Branch default Silent) (map (case_successor a) cases) b refl h
is_successor (terminator.Switch w a default cases) way.Branch b (inr h) =
    later_to (terminator.Switch w a default cases) (successor way.Branch default Silent) (case_successor a h.0) (map (case_successor a) cases) b refl (Contains_map (case_successor a) cases h.0 h.1) h.2
is_successor (terminator.Return v) way.Branch b h = absurd h
is_successor (terminator.Detach r x y) way.Branch b h = absurd h
is_successor (terminator.Reattach r x) way.Branch b h = absurd h
is_successor (terminator.Sync r x) way.Branch b h = absurd h
is_successor (terminator.Jump x) way.Detached b h = absurd h
is_successor (terminator.Branch test x y) way.Detached b h = absurd h
is_successor (terminator.Switch w a default cases) way.Detached b h = absurd h
is_successor (terminator.Return v) way.Detached b h = absurd h
is_successor (terminator.Detach r x y) way.Detached b h = first_to (terminator.Detach r x y) (successor way.Detached x Silent) (successor way.Continued y Silent ∷ []) b refl h
is_successor (terminator.Reattach r x) way.Detached b h = absurd h
is_successor (terminator.Sync r x) way.Detached b h = absurd h
is_successor (terminator.Jump x) way.Continued b h = absurd h
is_successor (terminator.Branch test x y) way.Continued b h = absurd h
is_successor (terminator.Switch w a default cases) way.Continued b h = absurd h
is_successor (terminator.Return v) way.Continued b h = absurd h
is_successor (terminator.Detach r x y) way.Continued b h =
    let second = successor way.Continued y Silent in
    later_to (terminator.Detach r x y) (successor way.Detached x Silent) second (second ∷ []) b refl (first_within second []) h
is_successor (terminator.Reattach r x) way.Continued b h = absurd h
is_successor (terminator.Sync r x) way.Continued b h = absurd h
is_successor (terminator.Jump x) (way.Synced region) b h = absurd h
is_successor (terminator.Branch test x y) (way.Synced region) b h = absurd h
is_successor (terminator.Switch w a default cases) (way.Synced region) b h = absurd h
is_successor (terminator.Return v) (way.Synced region) b h = absurd h
is_successor (terminator.Detach r x y) (way.Synced region) b h = absurd h
is_successor (terminator.Reattach r x) (way.Synced region) b h = absurd h
is_successor (terminator.Sync r x) (way.Synced region) b h =
    let same : r ≡ region = ap (λ n. record { 0 = n }) h.0 in
    subst (λ (q : RegisterId). IsSuccessor (terminator.Sync r x) (way.Synced q) b) same (first_to (terminator.Sync r x) (successor (way.Synced r) x Silent) [] b refl h.1)

-- an edge where a terminator leads to a block
pub leads_along : (blocks : List Block) (from : ℕ) (t : Terminator) (w : Way) (b : ℕ) (target : Block) → slice_get blocks b ≡ Some target → LeadsTo t w b → Along (edges_along blocks from t) w b
leads_along blocks from t w b target at h =
    let (x, there, way_is, to) = is_successor t w b h in
    let read : slice_get blocks x.to.0 ≡ Some target = ap (λ n. slice_get blocks n) to ∙ at in
    record {
      edge = edge_into from x target;
      within = chosen_within (edge_of blocks from) (successors t) x (edge_into from x target) there (ap (option_map (edge_into from x)) read);
      target = to;
      way_is = way_is;
    }

-- the edge of a frame's function behind a terminator at a place
pub edge_behind : (prog : Program) (f b to : ℕ) (function : Function) (block target : Block) (ending : Ending) (w : Way) → IsBlock prog f b function block → block.ending ≡ Some ending → slice_get function.blocks to ≡ Some target → LeadsTo ending.terminator w to →
    Along (edges_of (graph_of function).blocks b) w to
edge_behind prog f b to function block target ending w at is there leads =
    rw (block_edges function b block ending at.at_block is) (leads_along function.blocks b ending.terminator w to target there leads)
