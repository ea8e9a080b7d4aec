-- The sums that are asked at the places of a program have forms.
use Rattle.std.proofs.Common.{◌≡◌, ℕ, ◌^◌, ◌<◌, ◌≤◌, ℤ, pos, negsuc, ◌*ℤ◌, ◌-ℤ◌, Bool, true, false, List, [], ◌∷◌, map, Option, Some, None, refl, subst, arith}
use Rattle.std.specs.Prelude.{◌==◌, if◌then◌else◌, slice_get, unsigned_abs}
use Rattle.std.specs.List.{All, cons_option}
use Rattle.std.specs.Option.{option_map}
use Rattle.std.proofs.lemmas.Int.{ints}
use Rattle.std.proofs.lemmas.List.Elements.{All-cons, All-contains, All-head, All-nil, All-tail}
use Rattle.linear.specs.declared.form.Fact.{Fact}
use Rattle.linear.specs.declared.form.RegisterId.{RegisterId}
use Rattle.syntax.specs.declared.operator.BinaryOperator.{BinaryOperator}
use Rattle.syntax.specs.declared.operator.BinaryOperator.TheVariants as operator
use Rattle.syntax.specs.declared.operator.Predicate.{Predicate}
use Rattle.syntax.specs.declared.operator.Predicate.TheVariants as predicate
use Rattle.syntax.specs.declared.operator.Width.{Width}
use Rattle.syntax.specs.declared.operator.Width.TheVariants.{Bits64, Bits32}
use Rattle.program.specs.Blocks.{block_phis}
use Rattle.program.specs.Objects.{object_cells}
use Rattle.program.specs.declared.annotation.Inequality.{Inequality}
use Rattle.program.specs.declared.function.Block.{Block}
use Rattle.program.specs.declared.function.Function.{Function}
use Rattle.program.specs.declared.function.Program.{Program}
use Rattle.program.specs.declared.instruction.Argument.{Argument}
use Rattle.program.specs.declared.instruction.Case.{Case}
use Rattle.program.specs.declared.instruction.Ending.{Ending}
use Rattle.program.specs.declared.instruction.Instruction.{Instruction}
use Rattle.program.specs.declared.instruction.Instruction.TheVariants as instruction
use Rattle.program.specs.declared.instruction.Operand.{Operand}
use Rattle.program.specs.declared.instruction.Operand.TheVariants.{Number, Register}
use Rattle.program.specs.declared.identifier.ObjectName.{ObjectName}
use Rattle.program.specs.declared.instruction.Phi.{Phi}
use Rattle.program.specs.declared.instruction.PhiEntry.{PhiEntry}
use Rattle.program.specs.declared.instruction.Step.{Step}
use Rattle.program.specs.declared.instruction.Terminator.{Terminator}
use Rattle.program.specs.declared.instruction.Terminator.TheVariants as terminator
use Rattle.program.specs.Steps.{first_said, or_else}
use Rattle.cfg.specs.declared.structure.Move.{Move}
use Rattle.cfg.specs.declared.structure.Way.TheVariants.{Branch, Detached, Continued, Synced}
use Rattle.cfg.specs.Edges.{case_successor, moves_from}
use Rattle.program.specs.Phis.{entry_for}
use Rattle.ranges.specs.declared.edge.Comparison.{Comparison}
use Rattle.ranges.specs.declared.edge.EdgeSums.{EdgeSums}
use Rattle.ranges.specs.ranges_owed.declared.sum.Obligation.{Obligation}
use Rattle.ranges.specs.ranges_owed.declared.sum.Part.{Part}
use Rattle.ranges.specs.ranges_owed.declared.sum.Sum.{Sum}
use Rattle.ranges.specs.Edges.{compare_of, compared, at_least, above, compare_sums, branch_sums, case_sums, edge_to, edge_along, edges_out, keeps_of}
use Rattle.ranges.specs.ranges_owed.Inequalities.{difference_of, argument_moves, result_of, result_moves}
use Rattle.ranges.specs.ranges_owed.Scales.{scale_of}
use Rattle.ranges.specs.Learned.{learned}
use Rattle.ranges.specs.ranges_owed.Owed.{must, half, greatest, last_bit, is_not_zero, is_not_least_by_minus_one, product_owed, is_amount, binary_owed, index_owed, inequalities_owed, call_owed, owed, owed_at_end}
use Rattle.ranges.specs.ranges_owed.Sums.{one, two}
use Rattle.footprints.specs.Footprints.{form_at}
use Rattle.laws_phases.proofs.defined.Lists.{at_within}
use Rattle.laws_verdict.specs.Sums.{IsWord}
use Rattle.laws_verdict.specs.Limited.{IsLimited, AreWords}
use Rattle.laws_verdict.specs.Written.{AreSidesLimited, IsArgumentWord, HasWords, EndsInWords, IsCaseNumber, TakesWords, IsStepLimited, IsEndLimited, IsEndLimitedIfAny, IsBlockLimited, IsFunctionLimited}
use Rattle.laws_verdict.specs.Formed.{HasForm, HaveForms, HasChoices, IsStepFormed, IsEndFormed, IsBlockFormed, SumsHaveForms}
use Rattle.laws_verdict.proofs.Plain.{shown_plain}
use Rattle.laws_verdict.proofs.Limited.{limited_forms_ask_little, none_moved}
use Rattle.laws_verdict.proofs.Sums.{modest_sums_have_forms}
use Rattle.laws_verdict.proofs.Formed.{small_part, one_formed, two_formed, none_formed, with_formed, pair_formed, plus_one, minus_one, opposite, IsScaled, product_scaled, binary_formed, conversion_formed, difference_formed, differences_formed, argument_words, call_formed}
use Rattle.laws_verdict.proofs.limits.Forms.{weight_cons}
use Rattle.laws_verdict.proofs.limits.Objects.{objects_few}
use Rattle.laws_verdict.proofs.limits.Texts.{forms_are_limited}
use Rattle.ir_reader.proofs.Keeping.{answers_kept}

at_place : {X : Type 0} (P : X → Type 0) (xs : List X) (k : ℕ) (x : X) → All P xs → slice_get xs k ≡ Some x → P x
at_place P xs k x all e = All-contains P xs x all (at_within xs k x e)

-- ---- what is owed by one sum

pair_owed : (o p : Obligation) → HasChoices o → HasChoices p → All HasChoices (o ∷ (p ∷ []))
pair_owed o p h k = All-cons HasChoices o (p ∷ []) h (All-cons HasChoices p [] k (All-nil HasChoices))

only_formed : (s : Sum) → HasForm s → HaveForms (s ∷ [])
only_formed s h = with_formed s [] h none_formed

inequalities_formed : (number : ℕ) (moves : List Move) → AreWords moves → (qs : List Inequality) → All AreSidesLimited qs → All HasChoices (inequalities_owed number moves qs)
inequalities_formed number moves words [] h = All-nil HasChoices
inequalities_formed number moves words (q ∷ qs) h =
    All-cons HasChoices (must number (difference_of moves q)) (inequalities_owed number moves qs)
    (only_formed (difference_of moves q) (difference_formed moves words q (All-head AreSidesLimited q qs h)))
    (inequalities_formed number moves words qs (All-tail AreSidesLimited q qs h))

last_cell : (cells : ℕ) → cells ≤ 2 ^ 63 → unsigned_abs (pos cells -ℤ pos 1) < 2 ^ 99
last_cell cells few = omega (arith, ints, few)

index_formed : (cells : ℕ) (index : Operand) → cells ≤ 2 ^ 63 → IsWord index → All HasChoices (index_owed cells index)
index_formed cells index few word =
    pair_owed (must 501 (one (pos 0) (pos 1) index)) (must 501 (one (pos cells -ℤ pos 1) (negsuc 0) index))
    (only_formed (one (pos 0) (pos 1) index) (one_formed (pos 0) (pos 1) index (omega arith) (plus_one word)))
    (only_formed (one (pos cells -ℤ pos 1) (negsuc 0) index) (one_formed (pos cells -ℤ pos 1) (negsuc 0) index (last_cell cells few) (minus_one word)))

-- ---- what arithmetic owes

half_small : (w : Width) → unsigned_abs (half w) < 2 ^ 99
half_small Bits64 = omega arith
half_small Bits32 = omega arith

greatest_small : (w : Width) → unsigned_abs (greatest w) < 2 ^ 99
greatest_small Bits64 = omega arith
greatest_small Bits32 = omega arith

last_small : (w : Width) → unsigned_abs (last_bit w) < 2 ^ 99
last_small Bits64 = omega arith
last_small Bits32 = omega arith

not_zero_formed : (y : Operand) → IsWord y → HasChoices (is_not_zero y)
not_zero_formed y u = pair_formed (one (negsuc 0) (pos 1) y) (one (negsuc 0) (negsuc 0) y) (one_formed (negsuc 0) (pos 1) y (omega arith) (plus_one u)) (one_formed (negsuc 0) (negsuc 0) y (omega arith) (minus_one u))

not_least_formed : (w : Width) (x y : Operand) → IsWord x → IsWord y → HasChoices (is_not_least_by_minus_one w x y)
not_least_formed w x y v u =
    with_formed (one (pos 0) (pos 1) y) (one (negsuc 1) (negsuc 0) y ∷ (one (greatest w) (pos 1) x ∷ [])) (one_formed (pos 0) (pos 1) y (omega arith) (plus_one u))
    (pair_formed (one (negsuc 1) (negsuc 0) y) (one (greatest w) (pos 1) x) (one_formed (negsuc 1) (negsuc 0) y (omega arith) (minus_one u)) (one_formed (greatest w) (pos 1) x (greatest_small w) (plus_one v)))

divided_formed : (w : Width) (x y : Operand) → IsWord x → IsWord y → All HasChoices (is_not_zero y ∷ (is_not_least_by_minus_one w x y ∷ []))
divided_formed w x y v u = pair_owed (is_not_zero y) (is_not_least_by_minus_one w x y) (not_zero_formed y u) (not_least_formed w x y v u)

product_owed_formed : (w : Width) (o : Option Part) → IsScaled o → All HasChoices (product_owed w o)
product_owed_formed w None p = All-cons HasChoices (record { number = 503; choices = [] }) [] none_formed (All-nil HasChoices)
product_owed_formed w (Some p) q =
    let turned = opposite p.factor in
    let l = q.factor in
    pair_owed (must 503 (one (half w) p.factor p.operand)) (must 503 (one (greatest w) (negsuc 0 *ℤ p.factor) p.operand))
    (only_formed (one (half w) p.factor p.operand) (one_formed (half w) p.factor p.operand (half_small w) q))
    (only_formed (one (greatest w) (negsuc 0 *ℤ p.factor) p.operand) (one_formed (greatest w) (negsuc 0 *ℤ p.factor) p.operand (greatest_small w) (small_part (negsuc 0 *ℤ p.factor) p.operand (omega (arith, turned, l)) q.word)))

amount_formed : (w : Width) (y : Operand) → IsWord y → All HasChoices (is_amount w y)
amount_formed w y u =
    pair_owed (must 504 (one (pos 0) (pos 1) y)) (must 504 (one (last_bit w) (negsuc 0) y)) (only_formed (one (pos 0) (pos 1) y) (one_formed (pos 0) (pos 1) y (omega arith) (plus_one u)))
    (only_formed (one (last_bit w) (negsuc 0) y) (one_formed (last_bit w) (negsuc 0) y (last_small w) (minus_one u)))

binary_owed_formed : (o : BinaryOperator) (w : Width) (x y : Operand) → IsWord x → IsWord y → All HasChoices (binary_owed o w x y)
binary_owed_formed operator.Add w x y v u = All-nil HasChoices
binary_owed_formed operator.Subtract w x y v u = All-nil HasChoices
binary_owed_formed operator.Multiply w x y v u = All-nil HasChoices
binary_owed_formed operator.AddNoWrap w x y v u =
    pair_owed (must 503 (two (half w) (pos 1) x (pos 1) y)) (must 503 (two (greatest w) (negsuc 0) x (negsuc 0) y))
    (only_formed (two (half w) (pos 1) x (pos 1) y) (two_formed (half w) (pos 1) x (pos 1) y (half_small w) (plus_one v) (plus_one u)))
    (only_formed (two (greatest w) (negsuc 0) x (negsuc 0) y) (two_formed (greatest w) (negsuc 0) x (negsuc 0) y (greatest_small w) (minus_one v) (minus_one u)))
binary_owed_formed operator.SubtractNoWrap w x y v u =
    pair_owed (must 503 (two (half w) (pos 1) x (negsuc 0) y)) (must 503 (two (greatest w) (negsuc 0) x (pos 1) y))
    (only_formed (two (half w) (pos 1) x (negsuc 0) y) (two_formed (half w) (pos 1) x (negsuc 0) y (half_small w) (plus_one v) (minus_one u)))
    (only_formed (two (greatest w) (negsuc 0) x (pos 1) y) (two_formed (greatest w) (negsuc 0) x (pos 1) y (greatest_small w) (minus_one v) (plus_one u)))
binary_owed_formed operator.MultiplyNoWrap w x y v u = product_owed_formed w (scale_of x y) (product_scaled x y v u)
binary_owed_formed operator.SignedDivide w x y v u = divided_formed w x y v u
binary_owed_formed operator.UnsignedDivide w x y v u = All-cons HasChoices (is_not_zero y) [] (not_zero_formed y u) (All-nil HasChoices)
binary_owed_formed operator.SignedRemainder w x y v u = divided_formed w x y v u
binary_owed_formed operator.UnsignedRemainder w x y v u = All-cons HasChoices (is_not_zero y) [] (not_zero_formed y u) (All-nil HasChoices)
binary_owed_formed operator.ShiftLeft w x y v u = amount_formed w y u
binary_owed_formed operator.LogicalShiftRight w x y v u = amount_formed w y u
binary_owed_formed operator.ArithmeticShiftRight w x y v u = amount_formed w y u
binary_owed_formed operator.And w x y v u = All-nil HasChoices
binary_owed_formed operator.Or w x y v u = All-nil HasChoices
binary_owed_formed operator.ExclusiveOr w x y v u = All-nil HasChoices

-- ---- at a step

call_owed_formed : (o : Option Function) (arguments : List Argument) → All IsArgumentWord arguments → ((callee : Function) → o ≡ Some callee → All AreSidesLimited callee.requirements) → All HasChoices (call_owed o arguments)
call_owed_formed None arguments words limited = All-nil HasChoices
call_owed_formed (Some callee) arguments words limited = inequalities_formed 506 (argument_moves 0 arguments) (argument_words 0 arguments words) callee.requirements (limited callee refl)

module _ (program : Program) (all : All IsFunctionLimited program.functions) where
  learned_formed : (known : List Fact) (i : Instruction) → HasWords i → HaveForms (learned program.functions known i)
  learned_formed known (instruction.Binary d o width x y) words = binary_formed known o (Register d) x y tt words.0 words.1
  learned_formed known (instruction.Compare d p width x y) words = none_formed
  learned_formed known (instruction.Convert d c x) words = conversion_formed known c (Register d) x tt words
  learned_formed known (instruction.Alloca d alloca) words = none_formed
  learned_formed known (instruction.ElementPointer d object index) words = none_formed
  learned_formed known (instruction.Load d address) words = none_formed
  learned_formed known (instruction.Store x address) words = none_formed
  learned_formed known (instruction.StoreZeros cells object) words = none_formed
  learned_formed known (instruction.AtomicAdd address x) words = none_formed
  learned_formed known (instruction.Call d callee arguments) words =
      call_formed (slice_get program.functions callee.0) arguments d words (λ g e. (at_place IsFunctionLimited program.functions callee.0 g all e).guarantees)
  learned_formed known (instruction.StartRegion d) words = none_formed

  owed_formed : (function : Function) → ((name : ObjectName) → object_cells program function name ≤ 2 ^ 63) → (i : Instruction) → HasWords i → All HasChoices (owed program function i)
  owed_formed function few (instruction.Binary d o width x y) words = binary_owed_formed o width x y words.0 words.1
  owed_formed function few (instruction.Compare d p width x y) words = All-nil HasChoices
  owed_formed function few (instruction.Convert d c x) words = All-nil HasChoices
  owed_formed function few (instruction.Alloca d alloca) words = All-nil HasChoices
  owed_formed function few (instruction.ElementPointer d object index) words = index_formed (object_cells program function object) index (few object) words
  owed_formed function few (instruction.Load d address) words = All-nil HasChoices
  owed_formed function few (instruction.Store x address) words = All-nil HasChoices
  owed_formed function few (instruction.StoreZeros cells object) words = All-nil HasChoices
  owed_formed function few (instruction.AtomicAdd address x) words = All-nil HasChoices
  owed_formed function few (instruction.Call d callee arguments) words =
      call_owed_formed (slice_get program.functions callee.0) arguments words (λ g e. (at_place IsFunctionLimited program.functions callee.0 g all e).requirements)
  owed_formed function few (instruction.StartRegion d) words = All-nil HasChoices

-- ---- at an end

abbrev IsMoveWord : Move → Type 0
IsMoveWord m = IsWord m.value

returned_words : (function : Function) (value : Option Operand) → EndsInWords (terminator.Return value) → AreWords (result_moves function value)
returned_words function None words = All-nil IsMoveWord
returned_words function (Some x) words = All-cons IsMoveWord (record { register = result_of function; value = x }) [] words (All-nil IsMoveWord)

end_owed_formed : (function : Function) (t : Terminator) → EndsInWords t → All AreSidesLimited function.guarantees → All HasChoices (owed_at_end function t)
end_owed_formed function (terminator.Jump target) words h = All-nil HasChoices
end_owed_formed function (terminator.Branch condition when_true when_false) words h = All-nil HasChoices
end_owed_formed function (terminator.Switch width value default cases) words h = All-nil HasChoices
end_owed_formed function (terminator.Return value) words h = inequalities_formed 507 (result_moves function value) (returned_words function value words) function.guarantees h
end_owed_formed function (terminator.Detach region body continuation) words h = All-nil HasChoices
end_owed_formed function (terminator.Reattach region continuation) words h = All-nil HasChoices
end_owed_formed function (terminator.Sync region target) words h = All-nil HasChoices

-- ---- what phis take on an edge from a block

abbrev IsEntryWord : PhiEntry → Type 0
IsEntryWord e = IsWord e.value

abbrev IsWordIfAny : Option Operand → Type 0
IsWordIfAny None = Unit {0}
IsWordIfAny (Some v) = IsWord v

first_word : (b : Bool) (v : Operand) (o : Option Operand) → IsWord v → IsWordIfAny o → IsWordIfAny (if b then Some v else o)
first_word true v o h k = h
first_word false v o h k = k

entry_word : (from : ℕ) (entries : List PhiEntry) → All IsEntryWord entries → IsWordIfAny (entry_for from entries)
entry_word from [] words = tt
entry_word from (e ∷ es) words = first_word (e.predecessor.0 == from) e.value (entry_for from es) (All-head IsEntryWord e es words) (entry_word from es (All-tail IsEntryWord e es words))

moves_words : (from : ℕ) (phis : List Phi) → All TakesWords phis → AreWords (moves_from from phis)
moves_words from [] words = All-nil IsMoveWord
moves_words from (phi ∷ phis) words = by (entry_for from phi.entries) (entry_word from phi.entries (All-head TakesWords phi phis words)) (moves_words from phis (All-tail TakesWords phi phis words))
  where
    by : (o : Option Operand) → IsWordIfAny o → AreWords (moves_from from phis) → AreWords (cons_option (option_map (λ v. record { register = phi.register; value = v }) o) (moves_from from phis))
    by None here rest = rest
    by (Some v) here rest = All-cons IsMoveWord (record { register = phi.register; value = v }) (moves_from from phis) here rest

-- a compare of words
abbrev ComparesWords : Option Comparison → Type 0
ComparesWords None = Unit {0}
ComparesWords (Some c) = IsWord c.left × IsWord c.right

compare_if : (b : Bool) (p : Predicate) (x y : Operand) → IsWord x → IsWord y → ComparesWords (if b then Some (record { predicate = p; left = x; right = y }) else None)
compare_if true p x y v u = (v, u)
compare_if false p x y v u = tt

compare_words : (r : RegisterId) (i : Instruction) → HasWords i → ComparesWords (compare_of r i)
compare_words r (instruction.Binary d o width x y) words = tt
compare_words r (instruction.Compare d p width x y) words = compare_if (d.0 == r.0) p x y words.0 words.1
compare_words r (instruction.Convert d c x) words = tt
compare_words r (instruction.Alloca d alloca) words = tt
compare_words r (instruction.ElementPointer d object index) words = tt
compare_words r (instruction.Load d address) words = tt
compare_words r (instruction.Store x address) words = tt
compare_words r (instruction.StoreZeros cells object) words = tt
compare_words r (instruction.AtomicAdd address x) words = tt
compare_words r (instruction.Call d callee arguments) words = tt
compare_words r (instruction.StartRegion d) words = tt

or_words : (a b : Option Comparison) → ComparesWords a → ComparesWords b → ComparesWords (or_else a b)
or_words None b h k = k
or_words (Some c) b h k = h

compared_words : (r : RegisterId) (steps : List Step) → All IsStepLimited steps → ComparesWords (compared r steps)
compared_words r [] h = tt
compared_words r (step ∷ steps) h =
    or_words (compare_of r step.instruction) (first_said (compare_of r) steps) (compare_words r step.instruction (All-head IsStepLimited step steps h).words) (compared_words r steps (All-tail IsStepLimited step steps h))

at_least_formed : (x y : Operand) → IsWord x → IsWord y → HasForm (at_least x y)
at_least_formed x y v u = two_formed (pos 0) (pos 1) x (negsuc 0) y (omega arith) (plus_one v) (minus_one u)

above_formed : (x y : Operand) → IsWord x → IsWord y → HasForm (above x y)
above_formed x y v u = two_formed (negsuc 0) (pos 1) x (negsuc 0) y (omega arith) (plus_one v) (minus_one u)

compare_formed : (p : Predicate) (holds : Bool) (x y : Operand) → IsWord x → IsWord y → HaveForms (compare_sums p holds x y)
compare_formed predicate.Equal true x y v u = pair_formed (at_least x y) (at_least y x) (at_least_formed x y v u) (at_least_formed y x u v)
compare_formed predicate.Equal false x y v u = none_formed
compare_formed predicate.NotEqual holds x y v u = none_formed
compare_formed predicate.UnsignedGreater holds x y v u = none_formed
compare_formed predicate.UnsignedAtLeast holds x y v u = none_formed
compare_formed predicate.UnsignedLess holds x y v u = none_formed
compare_formed predicate.UnsignedAtMost holds x y v u = none_formed
compare_formed predicate.SignedGreater true x y v u = only_formed (above x y) (above_formed x y v u)
compare_formed predicate.SignedGreater false x y v u = only_formed (at_least y x) (at_least_formed y x u v)
compare_formed predicate.SignedAtLeast true x y v u = only_formed (at_least x y) (at_least_formed x y v u)
compare_formed predicate.SignedAtLeast false x y v u = only_formed (above y x) (above_formed y x u v)
compare_formed predicate.SignedLess true x y v u = only_formed (above y x) (above_formed y x u v)
compare_formed predicate.SignedLess false x y v u = only_formed (at_least x y) (at_least_formed x y v u)
compare_formed predicate.SignedAtMost true x y v u = only_formed (at_least y x) (at_least_formed y x u v)
compare_formed predicate.SignedAtMost false x y v u = only_formed (above x y) (above_formed x y v u)

branch_formed : (o : Option Comparison) (holds : Bool) → ComparesWords o → HaveForms (branch_sums o holds)
branch_formed None holds words = none_formed
branch_formed (Some c) holds words = compare_formed c.predicate holds c.left c.right words.0 words.1

case_formed : (value : Operand) (number : ℤ) → unsigned_abs number ≤ 2 ^ 63 → HaveForms (case_sums value number)
case_formed (Number z) number low = none_formed
case_formed (Register r) number low =
    let turned = opposite number in
    pair_formed (one (negsuc 0 *ℤ number) (pos 1) (Register r)) (one number (negsuc 0) (Register r)) (one_formed (negsuc 0 *ℤ number) (pos 1) (Register r) (omega (arith, turned, low)) (plus_one {x = Register r} tt))
    (one_formed number (negsuc 0) (Register r) (omega (arith, low)) (minus_one {x = Register r} tt))

abbrev KnowsForms : EdgeSums → Type 0
KnowsForms e = HaveForms e.sums

cases_formed : (steps : List Step) (value : Operand) (cases : List Case) → All IsCaseNumber cases → All KnowsForms (map (edge_along steps) (map (case_successor value) cases))
cases_formed steps value [] h = All-nil KnowsForms
cases_formed steps value (c ∷ cases) h = All-cons KnowsForms (edge_along steps (case_successor value c)) (map (edge_along steps) (map (case_successor value) cases)) (case_formed value c.number (All-head IsCaseNumber c cases h)) (cases_formed steps value cases (All-tail IsCaseNumber c cases h))

edges_formed : (steps : List Step) (t : Terminator) → All IsStepLimited steps → EndsInWords t → All KnowsForms (edges_out steps t)
edges_formed steps (terminator.Jump target) h words = All-cons KnowsForms (edge_to target Branch []) [] none_formed (All-nil KnowsForms)
edges_formed steps (terminator.Branch condition when_true when_false) h words =
    let c : Option Comparison = compared condition steps in
    let otherwise : EdgeSums = edge_to when_false Branch (branch_sums c false) in
    All-cons KnowsForms (edge_to when_true Branch (branch_sums c true)) (otherwise ∷ []) (branch_formed c true (compared_words condition steps h))
    (All-cons KnowsForms otherwise [] (branch_formed c false (compared_words condition steps h)) (All-nil KnowsForms))
edges_formed steps (terminator.Switch width value default cases) h words =
    All-cons KnowsForms (edge_to default Branch []) (map (edge_along steps) (map (case_successor value) cases)) none_formed (cases_formed steps value cases words)
edges_formed steps (terminator.Return value) h words = All-nil KnowsForms
edges_formed steps (terminator.Detach region body continuation) h words =
    All-cons KnowsForms (edge_to body Detached []) (edge_to continuation Continued [] ∷ []) none_formed
    (All-cons KnowsForms (edge_to continuation Continued []) [] none_formed (All-nil KnowsForms))
edges_formed steps (terminator.Reattach region continuation) h words = All-nil KnowsForms
edges_formed steps (terminator.Sync region target) h words = All-cons KnowsForms (edge_to target (Synced region) []) [] none_formed (All-nil KnowsForms)

-- ---- the zone of an access

end_limited : (x : Operand) (n : ℕ) → IsWord x → n ≤ 2 ^ 63 → IsLimited (form_at x n)
end_limited (Number z) n word few = record { weight = omega arith; constant = omega (arith, ints, word, few) }
end_limited (Register r) n word few =
    let one = weight_cons (record { register = r; coefficient = pos 1 }) [] in
    record { weight = omega (arith, one); constant = omega (arith, few) }

-- ---- all places

module _ (program : Program) (all : All IsFunctionLimited program.functions) (few : (f : ℕ) (function : Function) → slice_get program.functions f ≡ Some function → (name : ObjectName) → object_cells program function name ≤ 2 ^ 63) (f b : ℕ) (function : Function) (block : Block) (at_function : slice_get program.functions f ≡ Some function) (at_block : slice_get function.blocks b ≡ Some block) where
  own : IsFunctionLimited function
  own = at_place IsFunctionLimited program.functions f function all at_function

  limits : IsBlockLimited block
  limits = at_place IsBlockLimited function.blocks b block own.blocks at_block

  step_formed : (i : ℕ) (step : Step) → slice_get block.steps i ≡ Some step → IsStepFormed program function step
  step_formed i step at =
      let limited = at_place IsStepLimited block.steps i step limits.steps at in
      record {
        shows = differences_formed [] none_moved step.shows limited.shows;
        learned = λ known. learned_formed program all known step.instruction limited.words;
        owed = owed_formed program all function (few f function at_function) step.instruction limited.words;
      }

  ending_limits : (ending : Ending) → block.ending ≡ Some ending → IsEndLimited ending
  ending_limits ending is = subst IsEndLimitedIfAny is limits.ending

  -- at a block that an edge leads to
  target_formed : (o : Option Block) (b : ℕ) → slice_get function.blocks b ≡ o → (from : ℕ) → All HasChoices (inequalities_owed 505 (moves_from from (block_phis o)) (keeps_of o))
  target_formed None b e from = inequalities_formed 505 (moves_from from []) (moves_words from [] (All-nil TakesWords)) [] (All-nil AreSidesLimited)
  target_formed (Some target) b e from =
      let there = at_place IsBlockLimited function.blocks b target own.blocks e in
      inequalities_formed 505 (moves_from from target.phis) (moves_words from target.phis there.phis) target.keeps there.keeps

  end_formed : (ending : Ending) → block.ending ≡ Some ending → IsEndFormed function b block ending
  end_formed ending is =
      let limited = ending_limits ending is in
      record {
        shows = differences_formed [] none_moved ending.shows limited.shows;
        owed = end_owed_formed function ending.terminator limited.words own.guarantees;
        known = λ e c. All-contains KnowsForms (edges_out block.steps ending.terminator) e (edges_formed block.steps ending.terminator limits.steps limited.words) c;
        edges = λ known e c. target_formed (slice_get function.blocks e.to.0) e.to.0 refl b;
      }

  block_formed : IsBlockFormed program function b block
  block_formed = record { keeps = differences_formed [] none_moved block.keeps limits.keeps; steps = step_formed; ending = end_formed }

pub sums_have_forms : SumsHaveForms
sums_have_forms = record {
  numbers = λ program read.
      let all = forms_are_limited program read in
      let few = objects_few read.whole (answers_kept read.text read.whole read.answers) program read.means in
      record {
        requirements = λ f function at. differences_formed [] none_moved function.requirements (at_place IsFunctionLimited program.functions f function all at).requirements;
        blocks = λ f b function block at_f at_b. block_formed program all few f b function block at_f at_b;
      };
  accesses = λ line mode cell count word few. record { low = end_limited cell.index 0 word (omega arith); high = end_limited cell.index count word few };
  plain = shown_plain;
  zones = λ z y h k words words'. record {
    lows = modest_sums_have_forms _ (limited_forms_ask_little.differences z.moves y.moves z.zone.low y.zone.low words words' h.low k.low);
    highs = modest_sums_have_forms _ (limited_forms_ask_little.differences z.moves y.moves z.zone.high y.zone.high words words' h.high k.high);
    before = modest_sums_have_forms _ (limited_forms_ask_little.differences z.moves y.moves z.zone.low y.zone.high words words' h.low k.high);
    behind = modest_sums_have_forms _ (limited_forms_ask_little.differences z.moves y.moves z.zone.high y.zone.low words words' h.high k.low);
  };
}
