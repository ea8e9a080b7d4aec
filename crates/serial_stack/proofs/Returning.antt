-- A return keeps the stack shown: the callee's allocas go.
use Rattle.std.proofs.Common.{◌≡◌, ℕ, ◌<◌, List, [], ◌∷◌, ◌++◌, length, reverse, ap, sym, ◌∙◌, subst, arith, inl, inr, ℤ, pos, Option, Some, None}
use Rattle.std.specs.Prelude.{slice_get}
use Rattle.std.proofs.Props.{props}
use Rattle.std.specs.Prelude.{FitsSigned}
use Rattle.std.specs.Int.{w64}
use Rattle.std.proofs.lemmas.Int.{to_z-of_z}
use lib.Dec.{T}
use lib.Signed.{non_neg}
use lib.IntN.{nat_abs}
use mir.Val.{Fits, to_z, of_z}
use Rattle.linear.specs.declared.form.RegisterId.{RegisterId}
use Rattle.semantics.specs.Paths.{Path}
use Rattle.semantics.specs.Frames as frames
use Rattle.semantics.specs.Frames.{Role, Body, OnCall, Ends}
use Rattle.semantics.specs.Effect.{Return, action_of, terminator_action}
use Rattle.semantics.specs.SerialMeaning.{cleared}
use Rattle.semantics.specs.State.{resumed}
use Rattle.program.specs.declared.function.Program.{Program}
use Rattle.program.specs.declared.instruction.Operand.{Operand}
use Rattle.program.specs.declared.instruction.Operand.TheVariants.{Number, Register}
use Rattle.program.specs.declared.instruction.Terminator.TheVariants as terminator
use Rattle.frame.specs.declared.frame.Wait.{Wait}
use Rattle.frame.specs.declared.frame.Wait.TheVariants as wait
use Rattle.frame.specs.Reading.{wait_of}
use Rattle.frame_engine.specs.declared.activation.Frame.{Frame}
use Rattle.frame_engine.specs.declared.activation.Places.{Places}
use Rattle.frame_engine.specs.declared.flat.Flat.{Flat}
use Rattle.frame_engine.specs.Activation.{FrameFits, ShowsFrame}
use Rattle.frame_engine.specs.Fits.{HasReturned, PlaceFits}
use Rattle.frame_engine.specs.Flat.{cell_in, is_cell}
use Rattle.frame_engine.specs.Names.{HasResult, Sizes, sizes, taker_of}
use Rattle.frame_engine.specs.Shows.{Layout, ShowsCells}
use Rattle.serial_stack.specs.Layouts.{end_of, layout_of}
use Rattle.laws_strands.specs.stacks.Strands.{Placed}
use Rattle.serial_stack.specs.Steps.{Run, Goes, ret}
use Rattle.serial_stack.specs.StackShown.{BeginsAt, CanGo, HasTaker, Ends as EndsRun, ShowsBelow, ShowsOn, ShowsRun, TextFits, item_here, unboxed}
use Rattle.serial_stack.specs.declared.stack.Stack.{Stack}
use Rattle.serial_stack.proofs.Calling.{tall_below}
use Rattle.serial_stack.proofs.Cells.{caller_cells}
use Rattle.serial_stack.proofs.Joining.{below_is, nothing_left, popped}
use Rattle.serial_stack.proofs.Places.{return_here}
use Rattle.serial_stack.proofs.Texts.{ends_fit, located, placed, sizes_in}

-- ---- what the text gives

returned_again : (n : Sizes) (k : ℕ) (value : Option Operand) → k ≡ n.registers → HasReturned n value → HasReturned (sizes k 0 0) value
returned_again n k None e h = tt
returned_again n k (Some (Number z)) e h = tt
returned_again n k (Some (Register x)) e h = omega (arith, e, h)

pub return_names : (prog : Program) (places : Places) (moves : ℕ) (f : Frame) (value : Option Operand) → TextFits prog places moves → FrameFits prog f → item_here prog f ≡ Some (Ends (terminator.Return value)) → HasReturned (sizes (length f.registers.items) 0 0) value
return_names prog places moves f value text fits item =
    let at = located prog f.function.0 f.place.block.0 f.place.index (Ends (terminator.Return value)) item in
    returned_again (sizes_in places f.function.0 at.function) (length f.registers.items) value (fits.registers at.function at.is) (ends_fit prog places moves f.function.0 f.place.block.0 f.place.index (terminator.Return value) text.fits at)

-- ---- the caller

-- a frame that waits for a call has its register
takes : (w : Wait) (k : ℕ) (d : Option RegisterId) → OnCall k d ≡ wait_of w → taker_of w ≡ d
takes wait.Nothing k d e = absurd cc
takes (wait.Region region) k d e = absurd cc
takes (wait.Call child register) k d e = cc

taken : (f : Frame) (w : Wait) → HasTaker f w → HasResult (length f.registers.items) (taker_of w)
taken f wait.Nothing h = tt
taken f (wait.Region region) h = tt
taken f (wait.Call child register) h = h

module _ (globals : List ℕ) (prog : Program) (places : Places) (s : Run) (k : Stack) (h : ShowsRun globals prog places s k) (can : CanGo globals prog s)
    (value : Option Operand) (item : item_here prog k.top.value ≡ Some (Ends (terminator.Return value))) (caller : Frame) (rest : List Frame) (items : unboxed k.below.items ≡ rest ++ caller ∷ [])
  where
    -- the frame that is popped is the caller's
    pub under : (g : Placed) (below : List Placed) → s.below ≡ g ∷ below → ShowsBelow globals prog places (g ∷ below) (caller ∷ reverse rest)
    under g below e = subst (ShowsBelow globals prog places (g ∷ below)) (popped (unboxed k.below.items) rest caller items) (below_is globals prog places g below s.below (reverse (unboxed k.below.items)) e h.below)

    pub record Caller : Type 0 where
      pub placed_at : Placed
      pub others : List Placed
      pub number : ℕ
      pub register : Option RegisterId
      pub result : Option ℤ
      pub is : s.below ≡ placed_at ∷ others
      pub waits : placed_at.frame.waits ≡ OnCall number register
      pub role : s.frame.role ≡ Body
      pub gives : terminator_action prog s.path s.frame (terminator.Return value) ≡ Return result
      pub act : action_of prog s.path s.frame s.memory ≡ Return result

    nothing_under : ShowsBelow globals prog places [] (reverse (unboxed k.below.items)) → ⊥
    nothing_under b = subst (ShowsBelow globals prog places []) (popped (unboxed k.below.items) rest caller items) b

    pub caller_of : Caller
    caller_of =
        let here = return_here prog s can.goes value (placed globals prog places s k (Ends (terminator.Return value)) h item) in
        elim here.4 [
          | inl t ↦ record { placed_at = t.0; others = t.1; number = t.2; register = t.3; result = here.0; is = t.4; waits = t.5; role = here.1; gives = here.2; act = here.3 }
          | inr t ↦ absurd (nothing_under (subst (λ (b : List Placed). ShowsBelow globals prog places b (reverse (unboxed k.below.items))) t.1 h.below))
        ]

    pub caller_takes : HasResult (length caller.registers.items) (taker_of caller.waits)
    caller_takes = let c = caller_of in taken caller caller.waits (under c.placed_at c.others c.is).2

    pub home_is : k.top.value.home ≡ pos (end_of globals prog s.below)
    home_is = let c = caller_of in subst (λ (r : Role). BeginsAt r k.top.value.home (end_of globals prog s.below)) c.role h.top.home

    -- ---- the cells

    abbrev low : Layout
    low = layout_of globals prog s.below

    cells_low : ShowsCells low (is_cell k.cells.cells.items) (λ a z. cell_in k.cells.cells.items a ≡ Some z) (cleared s.path s.memory)
    cells_low =
        let c = caller_of in
        caller_cells globals prog s (h.top.tall, tall_below globals prog places s.below (reverse (unboxed k.below.items)) h.below) k.cells.cells.items h.cells c.role

    -- ---- the step

    pub return_shown : (back : Frame) (number : Option ℤ) (register : Option RegisterId) (j : Stack) → register ≡ taker_of caller.waits → back ≡ record caller { registers = back.registers; waits = wait.Nothing } → length back.registers.items ≡ length caller.registers.items →
        ((l : Layout) (at : Places) (p : Path) (g : frames.Frame) → ShowsFrame l at p g caller → ShowsFrame l at p (resumed g register number) back) →
        ((v : Option ℤ) → terminator_action prog s.path s.frame (terminator.Return value) ≡ Return v → number ≡ v) →
        j.top.value ≡ back → unboxed j.below.items ≡ rest → j.cells ≡ k.cells → pos j.end ≡ k.top.value.home → (t : Run) × Goes prog s t × ShowsRun globals prog places t j
    return_shown back number register j reg only words shows gives top below cells end =
        let c = caller_of in
        let g = c.placed_at in
        let b = under g c.others c.is in
        let same_register : register ≡ c.register = reg ∙ takes caller.waits c.number c.register (sym c.waits ∙ b.1) in
        let same_number : number ≡ c.result = gives c.result c.gives in
        let layout : low ≡ layout_of globals prog (g ∷ c.others) = ap (layout_of globals prog) c.is in
        let ends : pos j.end ≡ pos (end_of globals prog (g ∷ c.others)) = end ∙ home_is ∙ ap (λ (x : List Placed). pos (end_of globals prog x)) c.is in
        let l = layout_of globals prog (g ∷ c.others) in
        let shown : ShowsFrame l places g.path (resumed g.frame c.register c.result) back =
        subst (λ (r : Option RegisterId). ShowsFrame l places g.path (resumed g.frame r c.result) back) same_register
        (subst (λ (v : Option ℤ). ShowsFrame l places g.path (resumed g.frame register v) back) same_number (shows l places g.path g.frame b.0.shown)) in
        let fits : FrameFits prog back = record {
          there = subst (λ (x : Frame). x.function.0 < length prog.functions) (sym only) b.0.fits.there;
          registers = λ f is. words ∙ b.0.fits.registers f (sym (ap (λ (x : Frame). slice_get prog.functions x.function.0) only) ∙ is);
          place = λ f is. subst (λ (x : Frame). PlaceFits f.blocks x.place.block.0 x.place.index) (sym only) (b.0.fits.place f (sym (ap (λ (x : Frame). slice_get prog.functions x.function.0) only) ∙ is));
        } in
        let on : ShowsOn globals prog places (record { path = g.path; frame = resumed g.frame c.register c.result }) c.others back = record {
          shown = shown;
          fits = fits;
          tall = b.0.tall;
          home = subst (λ (x : Frame). BeginsAt g.frame.role x.home (end_of globals prog c.others)) (sym only) b.0.home;
        } in (
          record { path = g.path; frame = resumed g.frame c.register c.result; below = c.others; memory = cleared s.path s.memory },
          ret c.result g c.others c.number c.register c.act c.is c.waits,
          record {
            top = subst (ShowsOn globals prog places (record { path = g.path; frame = resumed g.frame c.register c.result }) c.others) (sym top) on;
            below = subst (λ (xs : List Frame). ShowsBelow globals prog places c.others (reverse xs)) (sym below) b.3;
            cells = subst (λ (q : Flat). ShowsCells l (is_cell q.cells.items) (λ a z. cell_in q.cells.items a ≡ Some z) (cleared s.path s.memory)) (sym cells)
                (subst (λ (x : Layout). ShowsCells x (is_cell k.cells.cells.items) (λ a z. cell_in k.cells.cells.items a ≡ Some z) (cleared s.path s.memory)) layout cells_low);
            end = cc;
          },
        )

-- ---- the end of the run

pub run_ends : (globals : List ℕ) (prog : Program) (places : Places) (s : Run) (k : Stack) (value : Option Operand) (number : Option ℤ) → ShowsRun globals prog places s k → CanGo globals prog s → item_here prog k.top.value ≡ Some (Ends (terminator.Return value)) → unboxed k.below.items ≡ [] →
    ((v : Option ℤ) → terminator_action prog s.path s.frame (terminator.Return value) ≡ Return v → number ≡ v) → EndsRun prog s number
run_ends globals prog places s k value number h can item none gives =
    let here = return_here prog s can.goes value (placed globals prog places s k (Ends (terminator.Return value)) h item) in
    elim here.4 [
      | inl t ↦ absurd (nothing_left globals prog places t.0 t.1 (unboxed k.below.items) none (below_is globals prog places t.0 t.1 s.below (reverse (unboxed k.below.items)) t.4 h.below))
      | inr t ↦ record { number = t.0; is = gives here.0 here.2 ∙ t.2; ends = record { root = t.1; returns = here.3 ∙ ap Return t.2 } }
    ]

-- ---- what the code may do

pub result_prop : (n : ℕ) (d : Option RegisterId) → IsProp (HasResult n d)
result_prop n None = hlevel props
result_prop n (Some d) = hlevel props

pub whole_home : (z : ℤ) (n : ℕ) → FitsSigned w64 z → z ≡ pos n → T (non_neg (to_z w64 (of_z w64 z))) × Fits w64 (nat_abs (to_z w64 (of_z w64 z)))
whole_home z n fit e =
    let small : FitsSigned w64 (pos n) = subst (FitsSigned w64) e fit in
    let low = small.sfits in
    subst (λ (y : ℤ). T (non_neg y) × Fits w64 (nat_abs y)) (sym (to_z-of_z w64 z fit ∙ e)) (tt, record { fits = omega (arith, low) })

pub home_again : (z : ℤ) (n m : ℕ) → FitsSigned w64 z → z ≡ pos n → m ≡ nat_abs (to_z w64 (of_z w64 z)) → pos m ≡ z
home_again z n m fit e is = ap pos (is ∙ ap nat_abs (to_z-of_z w64 z fit ∙ e)) ∙ sym e
