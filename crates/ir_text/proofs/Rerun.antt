-- Items that make a module which is kept are each judged good on the way.
use Rattle.std.proofs.Common.{◌≡◌, ℕ, ◌≤◌, true, false, List, [], ◌∷◌, ◌++◌, Option, Some, None, refl, sym, subst, ap, ◌∙◌, arith}
use Rattle.std.proofs.lemmas.Bool.{le-leb, or_parts}
use Rattle.ir_reader.specs.declared.item.item.Item.{Item}
use Rattle.ir_reader.specs.declared.item.item.Item.TheVariants as item
use Rattle.ir_reader.specs.item.Printed.{item_on}
use Rattle.syntax.specs.declared.module.Function.{Function}
use Rattle.syntax.specs.declared.module.Module.{Module}
use Rattle.ir_reader.specs.declared.draft.Draft.{Draft}
use Rattle.ir_reader.specs.declared.limits.Counts.{Counts}
use Rattle.ir_reader.specs.Draft.{placed}
use Rattle.ir_reader.specs.Names.{is_repeated}
use Rattle.ir_reader.specs.Defined.{open_function, names_outside, names_in, names_inside, defined_outside, defined_inside, inside_before}
use Rattle.ir_reader.specs.Counting.{counts_in, counts_of, are_counts_within, is_within_limits}
use Rattle.ir_reader.specs.Counted.{counts_with, IsSmall}
use Rattle.ir_reader.specs.Tracking.{IsStepless}
use Rattle.ir_reader.specs.Reading.{defines_again}
use Rattle.ir_reader.proofs.Follows.{Follows, placed_follows}
use Rattle.ir_reader.proofs.Keeping.{repeats-append}
use Rattle.ir_reader.proofs.Limiting.{IsOpenKept, AtItsEnds, IsDraftFew, placed_before, place_passes}
use Rattle.ir_text.proofs.Fills.{Puts, Fills}

pub record IsGoodDraft (d : Draft) : Type 0 where
  pub outside : is_repeated [] (names_outside d) ≡ false
  pub inside : is_repeated [] (names_inside d) ≡ false
  pub small : IsSmall (counts_of d)
  pub few : IsDraftFew d

-- names

apart : (xs ys : List (List ℕ)) → is_repeated [] (xs ++ ys) ≡ false → (is_repeated [] xs ≡ false) × (is_repeated xs ys ≡ false)
apart xs ys h = or_parts (is_repeated [] xs) (is_repeated xs ys) (sym (repeats-append [] xs ys) ∙ h)

open_distinct : (o : Option Function) → IsOpenKept o → is_repeated [] (names_in o) ≡ false
open_distinct None h = refl
open_distinct (Some f) h = h.distinct

inside_was : (o : Option Function) (i : Item) → AtItsEnds i o → is_repeated [] (inside_before (names_in o) i) ≡ false → is_repeated [] (names_in o) ≡ false
inside_was o (item.Define name result_type parameters) ends h = open_distinct o ends
inside_was o item.Close ends h = open_distinct o ends
inside_was o _ ends h = h

-- counts

open_small : (m : Module) (o : Option Function) → IsOpenKept o → (counts_in m o).global_cells ≤ 1048576 → IsSmall (counts_in m o)
open_small m None h cells = record { global_cells = cells; registers = omega arith; alloca_cells = omega arith }
open_small m (Some f) h cells = record { global_cells = cells; registers = h.registers; alloca_cells = h.alloca_cells }

small_was : (m : Module) (o : Option Function) (i : Item) → AtItsEnds i o → IsSmall (counts_with (counts_in m o) i) → IsSmall (counts_in m o)
small_was m o (item.Global g) ends s = record { global_cells = omega (arith, s.global_cells); registers = s.registers; alloca_cells = s.alloca_cells }
small_was m o (item.Define name result_type parameters) ends s = open_small m o ends s.global_cells
small_was m o (item.Phi p) ends s = record { global_cells = s.global_cells; registers = omega (arith, s.registers); alloca_cells = s.alloca_cells }
small_was m o (item.Instruction i) ends s = record { global_cells = s.global_cells; registers = omega (arith, s.registers); alloca_cells = omega (arith, s.alloca_cells) }
small_was m o item.Close ends s = open_small m o ends s.global_cells
small_was m o _ ends s = s

counts_pass : (c : Counts) → IsSmall c → are_counts_within c ≡ true
counts_pass c s = rw (le-leb c.global_cells 1048576 s.global_cells, le-leb c.registers 4096 s.registers, le-leb c.alloca_cells 4096 s.alloca_cells) refl

-- one item

pub record IsPassed (d : Draft) (i : Item) (e : Draft) : Type 0 where
  pub put : placed d 0 i ≡ Some e
  pub within : is_within_limits e ≡ true
  pub once : defines_again d i ≡ false

passed : (d e : Draft) (i : Item) → IsStepless d.place → placed d 0 i ≡ Some e → IsGoodDraft e → IsPassed d i e × IsGoodDraft d
passed d e i stepless put good =
    let follows : Follows _ _ i e = placed_follows d e 0 i stepless put in
    let before = placed_before d e 0 i put good.few in
    let outs = apart (names_outside d) (defined_outside i) (ap (is_repeated []) (sym follows.adds.outside) ∙ good.outside) in
    let ins = apart (inside_before (names_inside d) i) (defined_inside i) (ap (is_repeated []) (sym follows.adds.inside) ∙ good.inside) in
    let counted : IsSmall (counts_with (counts_of d) i) = subst IsSmall follows.adds.counted good.small in
    let within : is_within_limits e ≡ true = rw (counts_pass (counts_of e) good.small, place_passes e.whole e.place good.few.place) refl in
    let once : defines_again d i ≡ false = rw (outs.1, ins.1) refl in (
      record { put = put; within = within; once = once },
      record { outside = outs.0; inside = inside_was (open_function d.place) i before.1 ins.0; small = small_was d.whole (open_function d.place) i before.1 counted; few = before.0 },
    )

-- all of them

abbrev pub Passes : Draft → List Item → Draft → Type 0
Passes d [] e = d ≡ e
Passes d (i ∷ items) e = (g : Draft) × (IsPassed d (item_on 0 i) g × Passes g items e)

pub all_pass : (d e : Draft) (items : List Item) → IsStepless d.place → Fills d items e → IsGoodDraft e → Passes d items e × IsGoodDraft d
all_pass d e [] stepless h good = (h, subst IsGoodDraft (sym h) good)
all_pass d e (i ∷ items) stepless h good =
    let g : Draft = h.0 in
    let put : Puts d i g = h.1.0 in
    let follows : Follows _ _ (item_on 0 i) g = placed_follows d g 0 (item_on 0 i) stepless put in
    let later = all_pass g e items follows.stepless h.1.1 good in
    let here = passed d g (item_on 0 i) stepless put later.1 in
    ((g, (here.0, later.0)), here.1)
