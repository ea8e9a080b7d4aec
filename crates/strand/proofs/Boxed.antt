-- A box shows the frame whose window was written into it.
use Rattle.std.proofs.Common.{◌≡◌, ℕ, ◌+◌, ◌≤◌, List, [], ◌∷◌, length, refl, ap, sym, ◌∙◌, subst, arith, Some, None, false, ℤ}
use Rattle.std.specs.Prelude.{slice_get}
use Rattle.std.specs.List.{between}
use Rattle.std.proofs.lemmas.Option.{same_Some, slice_get_within}
use Rattle.semantics.specs.Frames.{item_at}
use Rattle.program.specs.declared.function.Block.{Block}
use Rattle.program.specs.declared.function.Program.{Program}
use Rattle.frame.specs.Reading.{role_of, wait_of}
use Rattle.frame.specs.declared.frame.Wait.{Wait}
use Rattle.frame.specs.declared.frame.Wait.TheVariants as wait
use Rattle.frame_engine.specs.declared.activation.Frame.{Frame}
use Rattle.frame_engine.specs.declared.activation.Places.{Places}
use Rattle.frame_engine.specs.Activation.{FrameFits, allocas_of}
use Rattle.frame_engine.specs.Shows.{Layout, ShowsBases, ShowsRegisters}
use Rattle.frame_engine.specs.Words.{bases}
use Rattle.frame_engine.proofs.Texts.{frame_stands, located}
use Rattle.serial_stack.specs.Layouts.{IsHeld, end_on}
use Rattle.serial_stack.specs.StackShown as serial
use Rattle.serial_stack.specs.StackShown.{TextFits}
use Rattle.laws_strands.specs.stacks.Strands.{Placed}
use Rattle.windows.specs.declared.places.CodePlace.{CodePlace}
use Rattle.windows.specs.CodeSlots.{places_of}
use Rattle.windows.specs.Nested.{window}
use Rattle.windows.specs.WindowsShown as windows
use Rattle.windows.specs.WindowsShown.{Text, registers_in, registers_of}
use Rattle.windows.proofs.Rows.{window_long}
use Rattle.windows.proofs.Slots.{within_block}
use Rattle.window_runs.specs.Frames.{IsSlot}
use Rattle.window_runs.proofs.Slots.{same_place}
use Rattle.strand.specs.Boxes.{BeginsAt, ShowsOn}
use Rattle.strand.specs.Layouts.{base_on, layout_above}
use Rattle.strand.specs.Spans.{AreAllocas, text_of}

begins_in : (l : Layout) (prog : Program) (start : ℕ) (g : Placed) (rest : List Placed) (home : ℤ) → (IsHeld false rest → serial.BeginsAt g.frame.role home (end_on (base_on l start) prog rest)) → BeginsAt prog start g rest home
begins_in l prog start g [] home h = tt
begins_in l prog start g (f ∷ rest) home h = h tt

-- the register that takes a call's result
taker_in : (n taker : ℕ) (f : Frame) (w : Wait) → n ≡ length f.registers.items → windows.HasTaker n (wait_of w) taker → serial.HasTaker f w
taker_in n taker f wait.Nothing same h = tt
taker_in n taker f (wait.Region r) same h = tt
taker_in n taker f (wait.Call child None) same h = tt
taker_in n taker f (wait.Call child (Some d)) same h = let lt = h.1 in omega (arith, same, lt)

module _ (l : Layout) (prog : Program) (places : Places) (start moves : ℕ) (allocas : AreAllocas prog places) (fits : TextFits prog places moves) (g : Placed) (rest : List Placed) (row : List ℤ) (pc base : ℕ) (home : ℤ) (on : windows.ShowsOn (base_on l start) (text_of prog places allocas) row g rest pc base home)
    (function block index : ℕ) (at : IsSlot (text_of prog places allocas) pc function block index) (end : ℕ) (end_is : end ≡ base + registers_in prog function) (long : end ≤ length row)
    (f : Frame) (place : CodePlace) (there : slice_get (places_of prog) pc ≡ Some place) (function_is : f.function ≡ place.function) (block_is : f.place.block ≡ place.block) (index_is : f.place.index ≡ place.index) (words : f.registers.items ≡ between base end row) (home_is : f.home ≡ home)
    (made : g.frame.made ≡ f.made) (role : g.frame.role ≡ role_of f.role) (depth : length g.path ≡ f.depth) (waits : g.frame.waits ≡ wait_of f.waits)
  where
    abbrev layout : Layout
    layout = layout_above l prog start g rest

    same : (g.frame.function ≡ function) × (g.frame.block ≡ block) × (g.frame.index ≡ index)
    same = same_place (text_of prog places allocas) moves (record { at_is = refl; fits = fits }) pc function block index at g.frame.function g.frame.block g.frame.index on.stands

    here : on.stands.place ≡ place
    here = same_Some on.stands.place place (sym on.stands.is ∙ there)

    at_function : g.frame.function ≡ f.function.0
    at_function = on.stands.function_is ∙ ap (λ (p : CodePlace). p.function.0) here ∙ ap (λ x. x.0) (sym function_is)

    at_block : g.frame.block ≡ f.place.block.0
    at_block = on.stands.block_is ∙ ap (λ (p : CodePlace). p.block.0) here ∙ ap (λ x. x.0) (sym block_is)

    at_index : g.frame.index ≡ f.place.index
    at_index = on.stands.index_is ∙ ap (λ (p : CodePlace). p.index) here ∙ sym index_is

    width : registers_in prog g.frame.function ≡ registers_in prog function
    width = ap (registers_in prog) same.0

    is_window : between base end row ≡ window row base (registers_in prog g.frame.function)
    is_window = let wide : end ≡ base + registers_in prog g.frame.function = end_is ∙ ap (λ (n : ℕ). base + n) (sym width) in ap (λ (n : ℕ). between base n row) wide

    words_long : length f.registers.items ≡ registers_in prog g.frame.function
    words_long =
        let wide = width in
        ap (λ (xs : List ℤ). length xs) (words ∙ is_window) ∙ window_long row base (registers_in prog g.frame.function) (omega (arith, long, end_is, wide))

    item_is : item_at prog f.function.0 f.place.block.0 f.place.index ≡ Some at.item
    item_is = (λ i. item_at prog ((sym at_function ∙ same.0) i) ((sym at_block ∙ same.1) i) ((sym at_index ∙ same.2) i)) ∙ at.item_is

    frame_fits : FrameFits prog f
    frame_fits =
        let x = located prog f.function.0 f.place.block.0 f.place.index at.item item_is in
        frame_stands prog f x.function x.is (words_long ∙ ap (registers_in prog) at_function ∙ ap registers_of x.is) (record {
          there = slice_get_within x.function.blocks f.place.block.0 x.block x.at;
          within = λ b is. subst (λ (y : Block). f.place.index ≤ length y.steps) (same_Some x.block b (sym x.at ∙ is)) (within_block x.block.steps x.block.ending f.place.index at.item x.item_is);
        })

    pub boxed_on : ShowsOn l prog places start g rest f
    boxed_on = record {
      shown = record {
        function = at_function;
        block = at_block;
        index = at_index;
        made = made;
        role = role;
        depth = depth;
        bases = subst (λ b. ShowsBases layout b g.frame.home) (λ i. bases places.globals (allocas_of places (at_function i)) (sym home_is i)) on.bases;
        registers = subst (ShowsRegisters layout g.frame.registers) (sym (words ∙ is_window)) on.registers;
      };
      fits = frame_fits;
      waits = waits;
      home = subst (BeginsAt prog start g rest) (sym home_is) (begins_in l prog start g rest home on.begins);
    }

    pub boxed_taker : (taker : ℕ) → windows.HasTaker (registers_in prog g.frame.function) g.frame.waits taker → serial.HasTaker f f.waits
    boxed_taker taker h = taker_in (registers_in prog g.frame.function) taker f f.waits (sym words_long) (subst (λ w. windows.HasTaker (registers_in prog g.frame.function) w taker) waits h)
