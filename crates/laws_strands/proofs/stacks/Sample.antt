-- The sample's strand, instruction by instruction.
use Rattle.std.proofs.Common.{◌≡◌, ℕ, List, [], ◌∷◌, Some, None, cond, true, refl, ℤ, pos, is_some, sym, ◌∙◌, subst, slice_get}
use Rattle.semantics.specs.Paths.{Path}
use Rattle.semantics.specs.Cells.{Cell, same_cell}
use Rattle.semantics.specs.Arithmetic.{cell_sum}
use Rattle.semantics.specs.Frames.{Word, Region, Registers, Wait, Free, OnRegion, OnCall, Role, Child, Body, Frame, set_register}
use Rattle.semantics.specs.Effect.{Effect, Action, Plain, Detach, Reattach, Sync, Call, Return, no_writes, no_adds, goes_on}
use Rattle.semantics.specs.State.{clears, root_frame}
use Rattle.semantics.proofs.SameCells.{same_cell_is}
use Rattle.laws_strands.specs.stacks.Footprint.{Footprint, untouched, held, with_read, with_writes}
use Rattle.laws_strands.specs.stacks.Strands.{Placed, Strand, Holds, at, next_action, loaded, filled, IsStrand, is_loaded, is_filled, is_advanced, is_past_sync, is_detached, is_called, is_reattached, is_returned}
use Rattle.laws_strands.specs.stacks.Sample.{sample, register, global_cell, own_cell, SampleGoesOverBorders}

-- the effect that it has, if it is a plain one
abbrev effect_of : Strand → Action → Effect
effect_of d (Plain e) = e
effect_of d (Detach r b n) = goes_on d.top.frame
effect_of d (Sync r b rs) = goes_on d.top.frame
effect_of d (Call o g vs) = goes_on d.top.frame
effect_of d (Reattach r) = goes_on d.top.frame
effect_of d (Return v) = goes_on d.top.frame

abbrev effect : Strand → Effect
effect d = effect_of d (next_action sample d)

-- it reads the one cell, which is held
holds_one : (d : Strand) (e : Effect) (c : Cell) → ((x : Cell) → e.reads x ≡ same_cell c x) → is_some (held d.footprint c) ≡ true → Holds d.footprint e
holds_one d e c reads there x h = subst_held (same_cell_is c x (sym (reads x) ∙ h))
  where
    subst_held : c ≡ x → is_some (held d.footprint x) ≡ true
    subst_held same = subst (λ y. is_some (held d.footprint y) ≡ true) same there

-- Each strand on the way is written out, so that none is computed from those before it.
abbrev strand : Placed → List Placed → ℕ → ℕ → Footprint → List ℕ → Strand
strand top below done deepest f synced =
    record { base = at [] (root_frame sample []); top = top; below = below; done = done; deepest = deepest; footprint = f; synced = synced }

abbrev frame : ℕ → ℕ → ℕ → Registers → ℕ → Wait → Role → Path → Frame
frame function block index registers made waits role home =
    record { function = function; block = block; index = index; registers = registers; made = made; waits = waits; role = role; home = home }

-- the registers of the root's function, once its region is started, and none
abbrev started : Registers
started = set_register (slice_get []) (register 0) (Region [])

abbrev no_registers : Registers
no_registers = slice_get []

-- the paths of the root's child, and of the frame that it called
abbrev child_path : Path
child_path = 0 ∷ []

abbrev callee_path : Path
callee_path = 0 ∷ child_path

-- the root waits behind its detach, and the child behind its call
abbrev root_behind : Placed
root_behind = at [] (frame 0 2 0 started 1 Free Body [])

abbrev child_behind : Placed
child_behind = at child_path (frame 0 1 1 started 1 (OnCall 0 (Some (register 1))) (Child 0 2) [])

-- what is read and written after the child's add, its store, and its end
abbrev with_add : Footprint
with_add = with_writes untouched no_writes (λ x. cond (same_cell global_cell x) (Some (pos 5)) None)

abbrev with_store : Footprint
with_store = with_writes with_add (λ x. cond (same_cell own_cell x) (Some (Some (pos 7))) None) no_adds

abbrev with_end : Footprint
with_end = with_writes with_store (clears callee_path) no_adds

abbrev d0 : Strand
d0 = loaded [] (root_frame sample [])

abbrev d1 : Strand
d1 = strand (at [] (frame 0 0 1 started 0 Free Body [])) [] 1 0 untouched []

abbrev d2 : Strand
d2 = strand (at child_path (frame 0 1 0 started 0 Free (Child 0 2) [])) (root_behind ∷ []) 2 2 untouched []

abbrev d3 : Strand
d3 = strand (at callee_path (frame 1 0 0 no_registers 0 Free Body callee_path)) (child_behind ∷ root_behind ∷ []) 3 3 untouched []

abbrev d4 : Strand
d4 = strand (at callee_path (frame 1 0 1 no_registers 0 Free Body callee_path)) (child_behind ∷ root_behind ∷ []) 4 3 with_add []

abbrev d5 : Strand
d5 = strand (at callee_path (frame 1 0 2 no_registers 0 Free Body callee_path)) (child_behind ∷ root_behind ∷ []) 5 3 with_store []

abbrev d6 : Strand
d6 =
    strand (at callee_path (frame 1 0 3 (set_register no_registers (register 0) (Word (pos 7))) 0 Free Body callee_path)) (child_behind ∷ root_behind ∷ []) 6 3
    with_store []

abbrev returned_to : Registers
returned_to = set_register started (register 1) (Word (pos 7))

abbrev d7 : Strand
d7 = strand (at child_path (frame 0 1 1 returned_to 1 Free (Child 0 2) [])) (root_behind ∷ []) 7 3 with_end []

abbrev d8 : Strand
d8 = strand root_behind [] 8 3 with_end []

abbrev d9 : Strand
d9 = strand (at [] (frame 0 3 0 started 1 (OnRegion 0) Body [])) [] 9 3 with_end (0 ∷ [])

is1 : IsStrand sample d1
is1 = is_advanced d0 (effect d0) (is_loaded [] (root_frame sample [])) refl refl (λ x h. absurd (cc))

is2 : IsStrand sample d2
is2 = is_detached d1 0 1 2 is1 refl

is3 : IsStrand sample d3
is3 = is_called d2 (Some (register 1)) 1 [] is2 refl

is4 : IsStrand sample d4
is4 = is_advanced d3 (effect d3) is3 refl refl (λ x h. absurd (cc))

is5 : IsStrand sample d5
is5 = is_advanced d4 (effect d4) is4 refl refl (λ x h. absurd (cc))

is6 : IsStrand sample d6
is6 = is_advanced d5 (effect d5) is5 refl refl (holds_one d5 (effect d5) own_cell (λ x. refl) refl)

is7 : IsStrand sample d7
is7 = is_returned d6 (Some (pos 7)) child_behind (root_behind ∷ []) 0 (Some (register 1)) is6 refl refl refl

is8 : IsStrand sample d8
is8 = is_reattached d7 0 root_behind [] is7 refl refl refl

is9 : IsStrand sample d9
is9 = is_past_sync d8 0 3 started is8 refl

abbrev filled9 : ℤ → Strand
filled9 v = filled d9 global_cell v

is_filled9 : (v : ℤ) → IsStrand sample (filled9 v)
is_filled9 v = is_filled d9 global_cell v (effect d9) is9 refl refl refl refl refl

-- with the cell's number and what was added to it
abbrev with_sum : ℤ → Registers
with_sum v = set_register started (register 1) (Word (cell_sum v (pos 5)))

abbrev d10 : ℤ → Strand
d10 v = strand (at [] (frame 0 3 1 (with_sum v) 1 Free Body [])) [] 10 3 (with_read with_end global_cell v) (0 ∷ [])

is10 : (v : ℤ) → IsStrand sample (d10 v)
is10 v =
    is_advanced (filled9 v) (effect (filled9 v)) (is_filled9 v) refl refl (holds_one (filled9 v) (effect (filled9 v)) global_cell (λ x. refl) refl)

pub sample_goes_over_borders : SampleGoesOverBorders
sample_goes_over_borders v =
    record { strand = d10 v; is = is10 v; base = refl; path = refl; block_is = refl; below = refl; done = refl; deepest = refl; synced = refl; read = refl; sum_is = refl; gone = refl }
