-- The objects that live with a strand's frames are those of the machine and the allocas of the frames above the base.
use Rattle.std.proofs.Common.{◌≡◌, ◌∙◌, ℕ, zero, suc, ◌<◌, ◌≤◌, List, [], ◌∷◌, map, Option, Some, None, Bool, true, false, cond, refl, sym, ap, arith, slice_get}
use Rattle.semantics.specs.Paths.{Path, same_path}
use Rattle.semantics.specs.Below.{Under, itself, deeper}
use Rattle.semantics.specs.Cells.{Object, Shared, Local, owns}
use Rattle.semantics.specs.Frames as frames
use Rattle.semantics.specs.Frames.{Frame, Role, Child, Body, cells_of}
use Rattle.semantics.specs.Events.{Machine}
use Rattle.semantics.proofs.Places.{same_path_is}
use Rattle.program.specs.declared.identifier.ObjectName.TheVariants as object
use Rattle.program.specs.declared.function.Alloca.{Alloca}
use Rattle.program.specs.declared.function.Function.{Function}
use Rattle.program.specs.declared.function.Program.{Program}
use Rattle.frame_engine.specs.Shows.{Layout}
use Rattle.serial_stack.specs.Layouts.{alloca_sizes, allocas_in, for_body, size_in, with_allocas}
use Rattle.strand.specs.Layouts.{IsToCome, OwnsNone, end_above, layout_above}
use Rattle.laws_strands.specs.stacks.Strands.{Strand, IsStrand, Placed}
use Rattle.laws_strands.specs.stacks.Law.{IsOrderly, Runs, absorbed, with_frames}
use Rattle.laws_strands.proofs.stacks.Based.{IsBased, based}
use Rattle.laws_strands.proofs.stacks.Rising.{IsNew, new_below, new_child, Rises, new_is_none, rises, top_is_new}

-- ---- cells by the text

alloca_size : (xs : List Alloca) (a : ℕ) → frames.alloca_cells (slice_get xs a) ≡ size_in (map (λ (x : Alloca). x.cells) xs) a
alloca_size [] a = refl
alloca_size (x ∷ xs) zero = refl
alloca_size (x ∷ xs) (suc a) = alloca_size xs a

size_is : (prog : Program) (o : Option Function) (a : ℕ) → frames.cells_in prog o (object.Alloca (record { 0 = a })) ≡ size_in (allocas_in o) a
size_is prog None a = refl
size_is prog (Some f) a = alloca_size f.allocas a

-- the cells of a frame's alloca
abbrev pub alloca_cells : Program → Option Frame → ℕ → ℕ
alloca_cells prog None a = 0
alloca_cells prog (Some f) a = for_body f.role (cells_of prog f.function (object.Alloca (record { 0 = a }))) 0

-- ---- cells of a strand's frames

module _ (prog : Program) (l : Layout) (m : Machine) (local : (owner : Path) (a : ℕ) → l.cells (Local owner a) ≡ alloca_cells prog (m.core.frames owner) a) (w : ℕ) (d : Strand) (is : IsStrand prog d) (runs : Runs m w d)
    (orderly : IsOrderly m) (start : ℕ)
  where
    abbrev cells_at : List Placed → Path → ℕ → ℕ
    cells_at gs owner a = alloca_cells prog (with_frames gs m.core.frames owner) a

    -- the base has the cells that it had
    base_cells : (owner : Path) (a : ℕ) (t : Placed) → IsBased d.base t [] → alloca_cells prog (m.core.frames owner) a ≡ cells_at (t ∷ []) owner a
    base_cells owner a t task = from (same_path t.path owner) refl
      where
        from : (here : Bool) → same_path t.path owner ≡ here → alloca_cells prog (m.core.frames owner) a ≡ alloca_cells prog (cond here (Some t.frame) (m.core.frames owner)) a
        from false off = refl
        from true same =
            let there = ap m.core.frames (sym (same_path_is t.path owner same) ∙ task.path) ∙ runs.frame in
            ap (λ o. alloca_cells prog o a) there ∙ sym (λ i. for_body (task.role i) (cells_of prog (task.function i) (object.Alloca (record { 0 = a }))) 0)

    -- one frame more
    module _ (owner : Path) (a : ℕ) (t g : Placed) (rest : List Placed) (rise : Rises d.base t (g ∷ rest)) where
      abbrev lower : Layout
      lower = layout_above l prog start g rest

      abbrev text_cells : ℕ
      text_cells = cells_of prog t.frame.function (object.Alloca (record { 0 = a }))

      abbrev laid : Role → Layout
      laid r = for_body r (with_allocas t.path (alloca_sizes prog t.frame.function) (end_above prog start g rest) lower) lower

      alloca_here : (here : Bool) → alloca_cells prog (cond here (Some t.frame) (with_frames (g ∷ rest) m.core.frames owner)) a ≡ cond here (for_body t.frame.role text_cells 0) (cells_at (g ∷ rest) owner a)
      alloca_here true = refl
      alloca_here false = refl

      by_body : (here : Bool) → lower.cells (Local owner a) ≡ cells_at (g ∷ rest) owner a →
          cond here (size_in (alloca_sizes prog t.frame.function) a) (lower.cells (Local owner a)) ≡ cond here text_cells (cells_at (g ∷ rest) owner a)
      by_body true ih = sym (size_is prog (slice_get prog.functions t.frame.function) a)
      by_body false ih = ih

      by_child : (here : Bool) → same_path t.path owner ≡ here → lower.cells (Local owner a) ≡ cells_at (g ∷ rest) owner a → lower.cells (Local owner a) ≡ cond here 0 (cells_at (g ∷ rest) owner a)
      by_child false off ih = ih
      by_child true same ih =
          let gone = ap (λ x. with_frames (g ∷ rest) m.core.frames x) (sym (same_path_is t.path owner same)) ∙ top_is_new m.core orderly.tree d.base runs.frame t g rest rise in
          ih ∙ ap (λ o. alloca_cells prog o a) gone

      by_role : (r : Role) → lower.cells (Local owner a) ≡ cells_at (g ∷ rest) owner a → (laid r).cells (Local owner a) ≡ cond (same_path t.path owner) (for_body r text_cells 0) (cells_at (g ∷ rest) owner a)
      by_role Body ih = by_body (same_path t.path owner) ih
      by_role (Child region continuation) ih = by_child (same_path t.path owner) refl ih

      more_cells : lower.cells (Local owner a) ≡ cells_at (g ∷ rest) owner a → (laid t.frame.role).cells (Local owner a) ≡ cells_at (t ∷ g ∷ rest) owner a
      more_cells ih = by_role t.frame.role ih ∙ sym (alloca_here (same_path t.path owner))

    local_cells : (owner : Path) (a : ℕ) (t : Placed) (below : List Placed) → Rises d.base t below → IsBased d.base t below → (layout_above l prog start t below).cells (Local owner a) ≡ cells_at (t ∷ below) owner a
    local_cells owner a t [] rise task = local owner a ∙ base_cells owner a t task
    local_cells owner a t (g ∷ rest) rise task = more_cells owner a t g rest rise (local_cells owner a g rest rise.4 task)

    shared_cells : (n : ℕ) (t : Placed) (below : List Placed) → (layout_above l prog start t below).cells (Shared n) ≡ l.cells (Shared n)
    shared_cells n t [] = refl
    shared_cells n t (g ∷ rest) = by t.frame.role (shared_cells n g rest)
      where
        by : (r : Role) → (layout_above l prog start g rest).cells (Shared n) ≡ l.cells (Shared n) →
            (for_body r (with_allocas t.path (alloca_sizes prog t.frame.function) (end_above prog start g rest) (layout_above l prog start g rest)) (layout_above l prog start g rest)).cells (Shared n) ≡ l.cells (Shared n)
        by Body ih = ih
        by (Child region continuation) ih = ih

    pub shared_above : (n : ℕ) → (layout_above l prog start d.top d.below).cells (Shared n) ≡ l.cells (Shared n)
    shared_above n = shared_cells n d.top d.below

    pub local_above : (owner : Path) (a : ℕ) → (layout_above l prog start d.top d.below).cells (Local owner a) ≡ alloca_cells prog ((absorbed m w d).core.frames owner) a
    local_above owner a = local_cells owner a d.top d.below (rises prog d is) (based prog d is)

    -- ---- frames to come

    to_new : (p : Path) (n k : ℕ) → n ≤ k → (x : Path) → Under (k ∷ p) x → IsNew p n x
    to_new p n k le _ itself = new_child k le
    to_new p n k le _ (deeper j {y = y} u) = new_below j y (to_new p n k le y u)

    owned_none : (x : Path) → m.core.frames x ≡ None → OwnsNone l x
    owned_none x gone c within = from c.object within (owns x c.object) refl
      where
        from : (o : Object) → c.index < l.cells o → (b : Bool) → owns x o ≡ b → owns x o ≡ false
        from o low false is_not = is_not
        from (Shared g) low true own = refl
        from (Local owner a) low true own =
            absurd (let none : l.cells (Local owner a) ≡ 0 = local owner a ∙ ap (λ o. alloca_cells prog o a) (ap m.core.frames (sym (same_path_is x owner own)) ∙ gone) in omega (arith, none, low))

    pub fresh : (x : Path) → IsToCome d.base x → OwnsNone l x
    fresh x come = owned_none x (new_is_none m.core orderly.tree d.base runs.frame x (to_new d.base.path d.base.frame.made come.child come.later x come.under))
