-- An item is judged by the names that stand and by what is counted.
use Rattle.std.proofs.Common.{◌≡◌, ℕ, Bool, true, false, leb, not, List, [], ◌∷◌, ◌++◌, refl, sym, subst, ap, ◌∙◌, arith}
use Rattle.std.specs.Prelude.{◌&&◌, ◌||◌, Result, Ok, Err, Option, Some, None, IfOk, IfErr, IsTrue, if◌then◌else◌}
use Rattle.std.proofs.lemmas.Bool.{leb-true, and_parts}
use Rattle.ir_reader.specs.declared.item.item.Item.{Item}
use Rattle.ir_reader.specs.declared.item.line.Line.{Line}
use Rattle.ir_reader.specs.declared.draft.Draft.{Draft}
use Rattle.ir_reader.specs.declared.limits.Counts.{Counts}
use Rattle.ir_reader.specs.declared.scope.Scope.{Scope}
use Rattle.refusal.specs.declared.refused.Refused.{Refused}
use Rattle.refusal.specs.declared.refused.Refused.TheVariants as faults
use Rattle.ir_reader.specs.declared.reader.Reader.{Reader}
use Rattle.ir_reader.specs.Names.{is_repeated}
use Rattle.ir_reader.specs.Defined.{module_names, names_outside, inside_before, defined_outside, defined_inside, reserved_outside}
use Rattle.ir_reader.specs.Counting.{counts_of, are_counts_within, is_within_limits}
use Rattle.ir_reader.specs.Counted.{IsSmall, counts_with}
use Rattle.ir_reader.specs.Limits.{is_place_within}
use Rattle.ir_reader.specs.Scoping.{repeats, scope_with}
use Rattle.ir_reader.specs.Draft.{placed}
use Rattle.ir_reader.specs.Tracking.{IsTracked, Answered, judged_reader, judged_place, FailsAt}
use Rattle.ir_reader.specs.Reading.{start, defines_again, judged, judged_if_placed, with_item}
use Rattle.ir_reader.proofs.Follows.{Follows, placed_follows}

abbrev pub reader : Draft → Counts → Scope → Reader
reader d c s = record { draft = d; counts = c; scope = s }

-- counts within the limits are small
pub counts_small : (c : Counts) → are_counts_within c ≡ true → IsSmall c
counts_small c h =
    let outer = and_parts (leb c.global_cells 1048576 && leb c.registers 4096) (leb c.alloca_cells 4096) h in
    let inner = and_parts (leb c.global_cells 1048576) (leb c.registers 4096) outer.0 in
    record { global_cells = leb-true c.global_cells 1048576 inner.0; registers = leb-true c.registers 4096 inner.1; alloca_cells = leb-true c.alloca_cells 4096 outer.1 }

pub start_tracked : (c : Counts) (s : Scope) → c ≡ record { global_cells = 0; registers = 0; alloca_cells = 0 } → s ≡ record { outside = reserved_outside ∷ []; inside = [] } → IsTracked (reader start c s)
unfolding module_names
start_tracked c s counts scope = record {
  outside = ap (λ (t : Scope). t.outside) scope;
  inside = ap (λ (t : Scope). t.inside) scope;
  counted = counts;
  small = subst IsSmall (sym counts) (record { global_cells = omega arith; registers = omega arith; alloca_cells = omega arith });
  stepless = tt;
}

-- the counts with the item are those of what was read with it
pub counts_follow : (r : Reader) (e : Draft) (at : ℕ) (i : Item) (c : Counts) → IsTracked r → c ≡ counts_with r.counts i → placed r.draft at i ≡ Some e → c ≡ counts_of e
counts_follow r e at i c tracked counted put =
    counted ∙ ap (λ (d : Counts). counts_with d i) tracked.counted ∙ sym (placed_follows r.draft e at i tracked.stepless put).adds.counted

-- the item repeats a name of the scope where it defines one again
repeats-tracked : (r : Reader) (i : Item) → IsTracked r → repeats r.scope i ≡ defines_again r.draft i
repeats-tracked r i tracked =
    ap (λ (ns : List (List ℕ)). is_repeated ns (defined_outside i) || is_repeated (inside_before r.scope.inside i) (defined_inside i)) tracked.outside
    ∙ ap (λ (ns : List (List ℕ)). is_repeated (names_outside r.draft) (defined_outside i) || is_repeated (inside_before ns i) (defined_inside i)) tracked.inside

-- what a put answers
pub record IsPut (r : Reader) (at : ℕ) (line : Line) (out : Result Reader Refused) : Type 0 where
  pub tracked : IfOk out IsTracked
  pub read : IfOk out (λ e. with_item r.draft at line ≡ Ok e.draft)
  pub fault : IfErr out (FailsAt at (with_item r.draft at line))

with_item-placed : (d e : Draft) (at : ℕ) (line : Line) → placed d at line.item ≡ Some e → with_item d at line ≡ judged d line e
unfolding with_item
with_item-placed d e at line put = ap (judged_if_placed d line) put

pub with_item-misplaced : (d : Draft) (at : ℕ) (line : Line) → placed d at line.item ≡ None → with_item d at line ≡ Err 103
unfolding with_item
with_item-misplaced d at line put = ap (judged_if_placed d line) put

not_true : (b : Bool) → true ≡ not b → b ≡ false
not_true true h = absurd cc
not_true false h = refl

not_false : (b : Bool) → false ≡ not b → b ≡ true
not_false true h = refl
not_false false h = absurd cc

good_tracked : (r : Reader) (e : Draft) (c : Counts) (s : Scope) (at : ℕ) (i : Item) → IsTracked r → c ≡ counts_with r.counts i → s ≡ scope_with r.scope i → placed r.draft at i ≡ Some e → is_within_limits e ≡ true → IsTracked (reader e c s)
good_tracked r e c s at i tracked counted scoped put within =
    let follows : Follows _ _ i e = placed_follows r.draft e at i tracked.stepless put in
    let counts : c ≡ counts_of e = counts_follow r e at i c tracked counted put in
    let small : IsSmall (counts_of e) = counts_small (counts_of e) (and_parts (are_counts_within (counts_of e)) (is_place_within e.whole e.place) within).0 in
    record {
      outside = ap (λ (t : Scope). t.outside) scoped ∙ ap (λ (ns : List (List ℕ)). ns ++ defined_outside i) tracked.outside ∙ sym follows.adds.outside;
      inside = ap (λ (t : Scope). t.inside) scoped ∙ ap (λ (ns : List (List ℕ)). inside_before ns i ++ defined_inside i) tracked.inside ∙ sym follows.adds.inside;
      counted = counts;
      small = subst IsSmall (sym counts) small;
      stepless = follows.stepless;
    }

-- by the two tests
judged_by : (r : Reader) (e : Draft) (c : Counts) (s : Scope) (at : ℕ) (line : Line) (good is_new again : Bool) (out : Result Reader Refused)
    → IsTracked r → c ≡ counts_with r.counts line.item → (IsTrue is_new → s ≡ scope_with r.scope line.item) → placed r.draft at line.item ≡ Some e → (good ≡ true → is_within_limits e ≡ true)
    → is_new ≡ not again → with_item r.draft at line ≡ (if good then (if again then Err 106 else Ok e) else Err 104)
    → out ≡ (if good then (if is_new then Ok (reader e c s) else Err (faults.Fault 106 at)) else Err (faults.Fault 104 at)) → IsPut r at line out
judged_by r e c s at line false is_new again out tracked counted scoped put within news said answered = subst (IsPut r at line) (sym answered) (record { tracked = tt; read = tt; fault = (refl, said) })
judged_by r e c s at line true true true out tracked counted scoped put within news said answered = absurd cc
judged_by r e c s at line true true false out tracked counted scoped put within news said answered =
    subst (IsPut r at line) (sym answered) (record { tracked = good_tracked r e c s at line.item tracked counted (scoped refl) put (within refl); read = said; fault = tt })
judged_by r e c s at line true false true out tracked counted scoped put within news said answered = subst (IsPut r at line) (sym answered) (record { tracked = tt; read = tt; fault = (refl, said) })
judged_by r e c s at line true false false out tracked counted scoped put within news said answered = absurd cc

pub judged_put : (r : Reader) (e : Draft) (c : Counts) (s : Scope) (at : ℕ) (line : Line) (is_new : Bool) (out : Result Reader Refused)
    → IsTracked r → c ≡ counts_with r.counts line.item → is_new ≡ not (repeats r.scope line.item) → (IsTrue is_new → s ≡ scope_with r.scope line.item) → Some e ≡ placed r.draft at line.item
    → out ≡ judged_reader at line.is_within_limits is_new (reader e c s) → IsPut r at line out
judged_put r e c s at line is_new out tracked counted news scoped put answered =
    judged_by r e c s at line (line.is_within_limits && is_within_limits e) is_new (defines_again r.draft line.item) out tracked counted scoped (sym put)
    (λ h. (and_parts line.is_within_limits (is_within_limits e) h).1)
    (news ∙ ap not (repeats-tracked r line.item tracked)) (with_item-placed r.draft e at line (sym put)) answered

pub or_memory : (r out : Result Reader Refused) → r ≡ out → Answered r out
or_memory (Err faults.Memory) out h = tt
or_memory (Err (faults.Fault number at)) out h = sym h
or_memory (Ok r) out h = sym h

misplaced : (r : Reader) (at : ℕ) (line : Line) (out : Result Reader Refused) → placed r.draft at line.item ≡ None → out ≡ Err (faults.Fault 103 at) → IsPut r at line out
misplaced r at line out none answered = subst (IsPut r at line) (sym answered) (record { tracked = tt; read = tt; fault = (refl, with_item-misplaced r.draft at line none) })

place_judged : (r : Reader) (o : Option Draft) (c : Counts) (s : Scope) (at : ℕ) (line : Line) (is_new : Bool) (out : Result Reader Refused)
    → IsTracked r → c ≡ counts_with r.counts line.item → is_new ≡ not (repeats r.scope line.item) → (IsTrue is_new → s ≡ scope_with r.scope line.item) → placed r.draft at line.item ≡ o
    → out ≡ judged_place at o line.is_within_limits is_new c s → IsPut r at line out
place_judged r None c s at line is_new out tracked counted news scoped put answered = misplaced r at line out put answered
place_judged r (Some e) c s at line is_new out tracked counted news scoped put answered = judged_put r e c s at line is_new out tracked counted news scoped (sym put) answered

pub put_of : (r : Reader) (c : Counts) (s : Scope) (at : ℕ) (line : Line) (is_new : Bool) (out : Result Reader Refused)
    → IsTracked r → c ≡ counts_with r.counts line.item → is_new ≡ not (repeats r.scope line.item) → (IsTrue is_new → s ≡ scope_with r.scope line.item)
    → Answered out (judged_place at (placed r.draft at line.item) line.is_within_limits is_new c s) → IsPut r at line out
put_of r c s at line is_new (Err faults.Memory) tracked counted news scoped h = record { tracked = tt; read = tt; fault = tt }
put_of r c s at line is_new (Err (faults.Fault number found_at)) tracked counted news scoped h = place_judged r (placed r.draft at line.item) c s at line is_new (Err (faults.Fault number found_at)) tracked counted news scoped refl (sym h)
put_of r c s at line is_new (Ok e) tracked counted news scoped h = place_judged r (placed r.draft at line.item) c s at line is_new (Ok e) tracked counted news scoped refl (sym h)
