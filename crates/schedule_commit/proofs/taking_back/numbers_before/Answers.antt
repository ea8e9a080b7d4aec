use Rattle.std.proofs.Common.{FitsSigned, arith, get_or, rules, w64, ◌≡◌, ◌<◌, ◌≤◌, ◌∙◌, ◌+◌, ◌∷◌, ◌++◌, [], List, ℕ, ℤ, Some, ap, length, sym, subst}
use Rattle.std.specs.Prelude.{IsTrue, slice_get}
use Rattle.std.proofs.lemmas.Int.{to_z-of_z}
use Rattle.std.proofs.lemmas.Option.{slice_get-get_or}
use Rattle.frame_engine.specs.Flat.{is_cell}
use Rattle.frame_strand.specs.declared.cells.Written.{Written}
use Rattle.schedule_commit.specs.TakingBack.{AreNumbersOf}
use Rattle.schedule_commit.proofs.Restored.{AreNumbersTo, numbers_all, numbers_more, numbers_none}
use Rattle.schedule_commit.proofs.taking_back.numbers_before.Goals as goal

-- a write's cell is one of the row, which is said of the list and the row as they are named elsewhere
cell_there : (held : List ℤ) (noted : List Written) → ((i : ℕ) (w : Written) → slice_get noted i ≡ Some w → IsTrue (is_cell held w.at)) →
    (row : List ℤ) (writes : List Written) (n : ℕ) (none : Written) → row ≡ held → writes ≡ noted → n < length writes → IsTrue (is_cell row (get_or writes n none).at)
cell_there held noted within row writes n none same noted_is low =
    subst (λ (xs : List ℤ). IsTrue (is_cell xs (get_or writes n none).at)) (sym same)
    (within n (get_or writes n none) (ap (λ (ws : List Written). slice_get ws n) (sym noted_is) ∙ slice_get-get_or writes n none low))

-- after the last write the numbers are those of the row and the list as they are named elsewhere
numbers_there : (held : List ℤ) (noted : List Written) (row : List ℤ) (writes : List Written) (numbers : List ℤ) (n : ℕ) → row ≡ held → writes ≡ noted →
    length writes ≤ n → n ≤ length writes → AreNumbersTo n row writes numbers → AreNumbersOf held noted numbers
numbers_there held noted row writes numbers n same noted_is all most to =
    subst (λ (xs : List ℤ). AreNumbersOf xs noted numbers) same
    (subst (λ (ws : List Written). AreNumbersOf row ws numbers) noted_is (numbers_all row writes numbers n (omega arith) to))

pub loop-written-init : goal.loop-written-init
loop-written-init c = subst (λ (xs : List ℤ). AreNumbersTo 0 c.as_slice-row.result.now c.writes-writes.result.now xs) (sym c.in_ok-numbers.ensures.items) (numbers_none c.as_slice-row.result.now c.writes-writes.result.now)

pub loop-written-preserved : goal.loop-written-preserved
loop-written-preserved c =
    let n = c.loop-written.written-index in
    let row = c.as_slice-row.result.now in
    let writes = c.writes-writes.result.now in
    let fit : FitsSigned w64 c.number_of.result = search rules in
    subst (λ (xs : List ℤ). AreNumbersTo (n + 1) row writes xs)
    (sym (c.in_ok-push.ensures.items ∙ ap (λ z. c.loop-written.numbers.items ++ z ∷ []) (to_z-of_z w64 c.number_of.result fit)))
    (numbers_more row writes c.loop-written.numbers.items n _ _ c.loop-written.invariant (slice_get-get_or writes n _ c.loop-written-test.true) c.number_of.ensures)

pub number_of-requires : goal.number_of-requires
number_of-requires c =
    cell_there c.args.run.now.cells.cells.items c.args.strand.now.course.cells.writes c.requires c.as_slice-row.result.now c.writes-writes.result.now
    c.loop-written.written-index _ c.as_slice-row.ensures.value c.writes-writes.ensures.is c.loop-written-test.true

pub returns : goal.returns
returns c =
    numbers_there c.args.run.now.cells.cells.items c.args.strand.now.course.cells.writes c.as_slice-row.result.now c.writes-writes.result.now
    c.loop-written.numbers.items c.loop-written.written-index c.as_slice-row.ensures.value c.writes-writes.ensures.is c.loop-written-test.false
    c.loop-written.auto.written-index-end c.loop-written.invariant
