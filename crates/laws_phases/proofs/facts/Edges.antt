-- Along an edge the `keeps` of its target hold, with what its phis took.
use Rattle.std.proofs.Common.{◌≡◌, ◌≢◌, ◌∙◌, ℕ, zero, suc, ℤ, pos, negsuc, ◌+ℤ◌, ◌*ℤ◌, ◌≤ℤ◌, Bool, true, false, cond, eqb, List, [], ◌∷◌, ◌++◌, length, map, Option, Some, None, ◌⊎◌, inl, inr, refl, sym, ap, subst, arith, slice_get}
use Rattle.std.specs.Prelude.{int_le, int_lt}
use Rattle.std.specs.List.{All, Contains, cons_option}
use Rattle.std.specs.Option.{option_map}
use Rattle.std.specs.Ordering.{int_eq}
use Rattle.std.proofs.lemmas.Bool.{ne_eqb}
use Rattle.std.proofs.lemmas.Option.{slice_get_within}
use Rattle.std.proofs.lemmas.Bool.Decides.{eqb_tells, Decides-int_eq}
use Rattle.std.proofs.lemmas.Int.{ints}
use Rattle.std.proofs.lemmas.List.Elements.{All-nil, All-head, All-tail, All-append, All-weaker}
use Rattle.semantics.specs.Paths.{Path}
use Rattle.semantics.specs.Arithmetic.{compares}
use Rattle.semantics.specs.Frames.{Word, Truth, Registers, Frame, Does, item_of, item_at, phis_at, and_then, truth_of, word_at, set_register}
use Rattle.semantics.specs.Effect.{Effect, Plain, given, enters, jumps, case_for, registers_along, with_phis, terminator_action}
use Rattle.program.specs.Phis.{entry_for}
use Rattle.semantics.proofs.Actions.{same_effect}
use Rattle.linear.specs.Forms.{Holds}
use Rattle.linear_shown.specs.Shown.{AllHold}
use Rattle.linear.specs.declared.form.Fact.{Fact}
use Rattle.linear.specs.declared.form.RegisterId.{RegisterId}
use Rattle.syntax.specs.declared.operator.Predicate.{Predicate}
use Rattle.syntax.specs.declared.operator.Predicate.TheVariants.{Equal, NotEqual, UnsignedGreater, UnsignedAtLeast, UnsignedLess, UnsignedAtMost, SignedGreater, SignedAtLeast, SignedLess, SignedAtMost}
use Rattle.syntax.specs.declared.operator.Width.{Width}
use Rattle.program.specs.declared.identifier.BlockId.{BlockId}
use Rattle.program.specs.declared.function.Block.{Block}
use Rattle.program.specs.declared.function.Function.{Function}
use Rattle.program.specs.declared.function.Program.{Program}
use Rattle.program.specs.declared.instruction.Case.{Case}
use Rattle.program.specs.declared.instruction.Instruction.{Instruction}
use Rattle.program.specs.declared.instruction.Instruction.TheVariants as instruction
use Rattle.program.specs.declared.instruction.Operand.{Operand}
use Rattle.program.specs.declared.instruction.Operand.TheVariants.{Number, Register}
use Rattle.program.specs.declared.instruction.Phi.{Phi}
use Rattle.program.specs.declared.instruction.Step.{Step}
use Rattle.program.specs.declared.instruction.Terminator.{Terminator}
use Rattle.program.specs.declared.instruction.Terminator.TheVariants as terminator
use Rattle.cfg.specs.declared.structure.Move.{Move}
use Rattle.cfg.specs.declared.structure.Way.TheVariants.{Branch, Detached, Continued, Synced}
use Rattle.cfg.specs.Edges.{case_successor, moves_from}
use Rattle.ranges.specs.declared.edge.Comparison.{Comparison}
use Rattle.ranges.specs.declared.edge.EdgeSums.{EdgeSums}
use Rattle.ranges.specs.ranges_owed.Sums.{one}
use Rattle.ranges.specs.Sums.{facts_of}
use Rattle.ranges.specs.Truth.{operand_value, IsTrueAt}
use Rattle.ranges.specs.ranges_owed.Inequalities.{operand_for, difference_of}
use Rattle.ranges.specs.Edges.{compare_of, compared, at_least, above, compare_sums, branch_sums, case_sums, edge_to, edge_along, edges_out, keeps_of}
use Rattle.program.specs.Blocks.{block_phis}
use Rattle.program.specs.Steps.{or_else}
use Rattle.ranges.proofs.Truth.{facts_true}
use Rattle.laws_conditions.specs.rules.Costs.{numbers}
use Rattle.laws_conditions.specs.rules.Moves.{JumpsTo, SyncsTo}
use Rattle.laws_conditions.proofs.rules.Moves.{given_case}
use Rattle.laws_phases.specs.facts.Known.{known_at_place, known_in, known_in_block, IsMet, HoldsTest, KnownHold}
use Rattle.laws_phases.specs.facts.Owing.{AreApart}
use Rattle.ranges.specs.Rules.{AreRangesRight}
use Rattle.laws_phases.proofs.facts.Sums.{word_value, met_from_moved, stated_true}
use Rattle.laws_phases.proofs.facts.Learning.{none_true, one_true, two_true, multiple_low}
use Rattle.cfg.proofs.Searching.{Contains_map}
use Rattle.laws_phases.proofs.facts.Places.{BlockOf, EndAt, before, arrives, edge_met, owed_true}
use Rattle.laws_phases.proofs.defined.Items.{item_there}
use Rattle.laws_phases.proofs.defined.Lists.{first_within, later_within}

-- ---- phis

-- what moves put in for a register, over values else
abbrev pub moved_or : List Move → (ℕ → ℤ) → (ℕ → ℤ) → ℕ → ℤ
moved_or [] v w x = w x
moved_or (m ∷ moves) v w x = cond (eqb m.register.0 x) (operand_value v m.value) (moved_or moves v w x)

pub moved_or_is : (moves : List Move) (v : ℕ → ℤ) (r : RegisterId) → moved_or moves v v r.0 ≡ operand_value v (operand_for moves r)
moved_or_is [] v r = refl
moved_or_is (m ∷ moves) v r = from (eqb m.register.0 r.0) (moved_or_is moves v r)
  where
    from : (b : Bool) → moved_or moves v v r.0 ≡ operand_value v (operand_for moves r) → cond b (operand_value v m.value) (moved_or moves v v r.0) ≡ operand_value v (cond b m.value (operand_for moves r))
    from true h = refl
    from false h = h

pub moved_or_same : (moves : List Move) (v w u : ℕ → ℤ) (x : ℕ) → w x ≡ u x → moved_or moves v w x ≡ moved_or moves v u x
moved_or_same [] v w u x e = e
moved_or_same (m ∷ moves) v w u x e = ap (λ z. cond (eqb m.register.0 x) (operand_value v m.value) z) (moved_or_same moves v w u x e)

-- no move is of a register that no phi defines
pub not_moved : (from : ℕ) (phis : List Phi) (v w : ℕ → ℤ) (d : ℕ) → All (λ other. other.register.0 ≢ d) phis → moved_or (moves_from from phis) v w d ≡ w d
not_moved from [] v w d all = refl
not_moved from (phi ∷ phis) v w d all = by_entry (entry_for from phi.entries) (not_moved from phis v w d (All-tail (λ (other : Phi). other.register.0 ≢ d) phi phis all))
  where
    by_entry : (o : Option Operand) → moved_or (moves_from from phis) v w d ≡ w d → moved_or (cons_option (option_map (λ a. record { register = phi.register; value = a }) o) (moves_from from phis)) v w d ≡ w d
    by_entry None rest = rest
    by_entry (Some a) rest = rw (ne_eqb phi.register.0 d (All-head (λ (other : Phi). other.register.0 ≢ d) phi phis all)) rest

one_moved : (r : Registers) (d : RegisterId) (z : ℤ) (moves : List Move) (v : ℕ → ℤ) (a : Operand) → operand_value v a ≡ z → (moved_or moves v (numbers (set_register r d (Word z))) d.0 ≡ numbers (set_register r d (Word z)) d.0) → (x : ℕ) →
    moved_or moves v (numbers (set_register r d (Word z))) x ≡ moved_or (record { register = d; value = a } ∷ moves) v (numbers r) x
one_moved r d z moves v a is apart x = elim (eqb_tells d.0 x) [
  | inl e ↦
      let here : numbers (set_register r d (Word z)) x ≡ z = rw e.0 refl in
      let there : moved_or moves v (numbers (set_register r d (Word z))) x ≡ numbers (set_register r d (Word z)) x = subst (λ n. moved_or moves v (numbers (set_register r d (Word z))) n ≡ numbers (set_register r d (Word z)) n) e.1 apart in
      rw e.0 (there ∙ here ∙ sym is)
  | inr e ↦
      let same : numbers (set_register r d (Word z)) x ≡ numbers r x = rw e.0 refl in
      rw e.0 (moved_or_same moves v (numbers (set_register r d (Word z))) (numbers r) x same)
]

phis_moved : (given : Registers) (from : ℕ) (phis : List Phi) (r s : Registers) → AreApart phis → with_phis given from phis r ≡ Some s → (x : ℕ) → numbers s x ≡ moved_or (moves_from from phis) (numbers given) (numbers r) x
phis_moved given from [] r s apart e x = let same : r ≡ s = cc in sym (ap (λ (u : Registers). numbers u x) same)
phis_moved given from (phi ∷ phis) r s apart e x =
    by_entry (entry_for from phi.entries) refl (λ z h. phis_moved given from phis (set_register r phi.register (Word z)) s apart.1 h x)
  where
    by_word : (a : Operand) (o : Option ℤ) → word_at given a ≡ o → and_then o (λ z. with_phis given from phis (set_register r phi.register (Word z))) ≡ Some s →
        ((z : ℤ) → with_phis given from phis (set_register r phi.register (Word z)) ≡ Some s → numbers s x ≡ moved_or (moves_from from phis) (numbers given) (numbers (set_register r phi.register (Word z))) x) →
        numbers s x ≡ moved_or (record { register = phi.register; value = a } ∷ moves_from from phis) (numbers given) (numbers r) x
    by_word a None is h rest = absurd (cc)
    by_word a (Some z) is h rest =
        rest z h ∙ one_moved r phi.register z (moves_from from phis) (numbers given) a (word_value given a z is) (not_moved from phis (numbers given) (numbers (set_register r phi.register (Word z))) phi.register.0 apart.0) x

    by_entry : (o : Option Operand) → entry_for from phi.entries ≡ o →
        ((z : ℤ) → with_phis given from phis (set_register r phi.register (Word z)) ≡ Some s → numbers s x ≡ moved_or (moves_from from phis) (numbers given) (numbers (set_register r phi.register (Word z))) x) →
        numbers s x ≡ moved_or (cons_option (option_map (λ a. record { register = phi.register; value = a }) o) (moves_from from phis)) (numbers given) (numbers r) x
    by_entry None is rest =
        let none : entry_for from phi.entries ≡ None = is in
        absurd (let h : None ≡ Some s = sym (ap (λ o. and_then (and_then o (word_at given)) (λ z. with_phis given from phis (set_register r phi.register (Word z)))) none) ∙ e in cc)
    by_entry (Some a) is rest =
        let some : entry_for from phi.entries ≡ Some a = is in
        by_word a (word_at given a) refl (sym (ap (λ o. and_then (and_then o (word_at given)) (λ z. with_phis given from phis (set_register r phi.register (Word z)))) some) ∙ e) rest

-- ---- compares and cases

greater_from : (x y : ℤ) → int_lt y x ≡ true → pos 0 ≤ℤ (negsuc 0 +ℤ ((pos 1 *ℤ x) +ℤ ((negsuc 0 *ℤ y) +ℤ pos 0)))
greater_from x y e = grind (arith, ints)

not_greater_from : (x y : ℤ) → int_lt y x ≡ false → pos 0 ≤ℤ (pos 0 +ℤ ((pos 1 *ℤ y) +ℤ ((negsuc 0 *ℤ x) +ℤ pos 0)))
not_greater_from x y e = grind (arith, ints)

at_most_from : (x y : ℤ) → int_le y x ≡ true → pos 0 ≤ℤ (pos 0 +ℤ ((pos 1 *ℤ x) +ℤ ((negsuc 0 *ℤ y) +ℤ pos 0)))
at_most_from x y e = grind (arith, ints)

not_at_most_from : (x y : ℤ) → int_le y x ≡ false → pos 0 ≤ℤ (negsuc 0 +ℤ ((pos 1 *ℤ y) +ℤ ((negsuc 0 *ℤ x) +ℤ pos 0)))
not_at_most_from x y e = grind (arith, ints)

module _ (v : ℕ → ℤ) where
  compare_true : (predicate : Predicate) (w : Width) (x y : Operand) (holds : Bool) → compares predicate w (operand_value v x) (operand_value v y) ≡ holds → All (IsTrueAt v) (compare_sums predicate holds x y)
  compare_true Equal w x y true e =
      let same : operand_value v x ≡ operand_value v y = (Decides-int_eq (operand_value v x) (operand_value v y)).0 e in
      two_true v (at_least x y) (at_least y x) (multiple_low (operand_value v x) (operand_value v y) same) (multiple_low (operand_value v y) (operand_value v x) (sym same))
  compare_true Equal w x y false e = none_true v
  compare_true NotEqual w x y holds e = none_true v
  compare_true UnsignedGreater w x y holds e = none_true v
  compare_true UnsignedAtLeast w x y holds e = none_true v
  compare_true UnsignedLess w x y holds e = none_true v
  compare_true UnsignedAtMost w x y holds e = none_true v
  compare_true SignedGreater w x y true e = one_true v (above x y) (greater_from (operand_value v x) (operand_value v y) e)
  compare_true SignedGreater w x y false e = one_true v (at_least y x) (not_greater_from (operand_value v x) (operand_value v y) e)
  compare_true SignedAtLeast w x y true e = one_true v (at_least x y) (at_most_from (operand_value v x) (operand_value v y) e)
  compare_true SignedAtLeast w x y false e = one_true v (above y x) (not_at_most_from (operand_value v x) (operand_value v y) e)
  compare_true SignedLess w x y true e = one_true v (above y x) (greater_from (operand_value v y) (operand_value v x) e)
  compare_true SignedLess w x y false e = one_true v (at_least x y) (not_greater_from (operand_value v y) (operand_value v x) e)
  compare_true SignedAtMost w x y true e = one_true v (at_least y x) (at_most_from (operand_value v y) (operand_value v x) e)
  compare_true SignedAtMost w x y false e = one_true v (above x y) (not_at_most_from (operand_value v y) (operand_value v x) e)

  equals_low : (x n : ℤ) → x ≡ n → pos 0 ≤ℤ ((negsuc 0 *ℤ n) +ℤ ((pos 1 *ℤ x) +ℤ pos 0))
  equals_low x n e = omega (arith, ints)

  equals_high : (x n : ℤ) → x ≡ n → pos 0 ≤ℤ (n +ℤ ((negsuc 0 *ℤ x) +ℤ pos 0))
  equals_high x n e = omega (arith, ints)

  case_true : (x : Operand) (number : ℤ) → operand_value v x ≡ number → All (IsTrueAt v) (case_sums x number)
  case_true (Number z) number e = none_true v
  case_true (Register r) number e = two_true v (one (negsuc 0 *ℤ number) (pos 1) (Register r)) (one number (negsuc 0) (Register r)) (equals_low (v r.0) number e) (equals_high (v r.0) number e)

-- ---- the compare that a branch takes is one that the block did

-- a compare among the steps, that defines the register
record IsCompared (r : RegisterId) (steps : List Step) (c : Comparison) : Type 0 where
  place : ℕ
  step : Step
  at_step : slice_get steps place ≡ Some step
  width : Width
  register : RegisterId
  register_is : register.0 ≡ r.0
  is : step.instruction ≡ instruction.Compare register c.predicate width c.left c.right

compare_is : (r : RegisterId) (i : Instruction) (c : Comparison) → compare_of r i ≡ Some c → (w : Width) × (d : RegisterId) × (d.0 ≡ r.0) × (i ≡ instruction.Compare d c.predicate w c.left c.right)
compare_is r (instruction.Binary d operator width x y) c e = absurd (cc)
compare_is r (instruction.Compare d predicate width x y) c e = elim (eqb_tells d.0 r.0) [
  | inl h ↦
      let is : Some (record { predicate = predicate; left = x; right = y }) ≡ Some c = rw h.0 at e in
      let same : record { predicate = predicate; left = x; right = y } ≡ c = cc in
      (width, d, h.1, ap (λ (z : Comparison). instruction.Compare d z.predicate width z.left z.right) same)
  | inr h ↦ absurd (let is : None ≡ Some c = rw h.0 at e in cc)
]
compare_is r (instruction.Convert d conversion x) c e = absurd (cc)
compare_is r (instruction.Alloca d alloca) c e = absurd (cc)
compare_is r (instruction.ElementPointer d object index) c e = absurd (cc)
compare_is r (instruction.Load d address) c e = absurd (cc)
compare_is r (instruction.Store x address) c e = absurd (cc)
compare_is r (instruction.StoreZeros cells object) c e = absurd (cc)
compare_is r (instruction.AtomicAdd address x) c e = absurd (cc)
compare_is r (instruction.Call d callee arguments) c e = absurd (cc)
compare_is r (instruction.StartRegion d) c e = absurd (cc)

compared_is : (r : RegisterId) (steps : List Step) (c : Comparison) → compared r steps ≡ Some c → IsCompared r steps c
compared_is r [] c e = absurd (cc)
compared_is r (s ∷ steps) c e = from (compare_of r s.instruction) refl e (λ h. compared_is r steps c h)
  where
    from : (o : Option Comparison) → compare_of r s.instruction ≡ o → or_else o (compared r steps) ≡ Some c → (compared r steps ≡ Some c → IsCompared r steps c) → IsCompared r (s ∷ steps) c
    from None is h later = let p = later h in record { place = suc p.place; step = p.step; at_step = p.at_step; width = p.width; register = p.register; register_is = p.register_is; is = p.is }
    from (Some d) is h later =
        let same : d ≡ c = cc in
        let k = compare_is r s.instruction c (is ∙ ap Some same) in
        record { place = 0; step = s; at_step = refl; width = k.0; register = k.1; register_is = k.2; is = k.3 }

pub item_is : (prog : Program) (fn b : ℕ) (o : BlockOf prog fn b) (k : ℕ) (step : Step) → slice_get o.block.steps k ≡ Some step → item_at prog fn b k ≡ Some (Does step.instruction)
item_is prog fn b o k step e =
    ap (λ x. and_then (and_then x (λ (f : Function). slice_get f.blocks b)) (λ (c : Block). item_of c.steps c.ending k)) o.at_function
    ∙ ap (λ x. and_then x (λ (c : Block). item_of c.steps c.ending k)) o.at_block
    ∙ item_there o.block.steps o.block.ending k step e

-- ---- the edge that is taken

-- an edge of the terminator to the block, of which what its being taken makes known is true
pub record IsTaken (steps : List Step) (t : Terminator) (v : ℕ → ℤ) (target : ℕ) : Type 0 where
  pub edge : EdgeSums
  pub among : Contains (edges_out steps t) edge
  pub to : edge.to.0 ≡ target
  pub sums : All (IsTrueAt v) edge.sums

module _ (prog : Program) (f : Frame) (steps : List Step) (tests : (k : ℕ) (step : Step) → slice_get steps k ≡ Some step → HoldsTest f.registers step.instruction) where
  abbrev Taken : Terminator → ℕ → Type 0
  Taken t target = IsTaken steps t (numbers f.registers) target

  holds_is : (r : RegisterId) (d : RegisterId) (q b : Bool) → d.0 ≡ r.0 → f.registers d.0 ≡ Some (Truth q) → truth_of (f.registers r.0) ≡ Some b → q ≡ b
  holds_is r d q b e h g = let k : Some q ≡ Some b = sym (ap truth_of (ap f.registers (sym e) ∙ h)) ∙ g in cc

  branch_true : (r : RegisterId) (b : Bool) (o : Option Comparison) → compared r steps ≡ o → truth_of (f.registers r.0) ≡ Some b → All (IsTrueAt (numbers f.registers)) (branch_sums o b)
  branch_true r b None is h = none_true (numbers f.registers)
  branch_true r b (Some c) is h =
      let k = compared_is r steps c is in
      let test : HoldsTest f.registers (instruction.Compare k.register c.predicate k.width c.left c.right) = subst (HoldsTest f.registers) k.is (tests k.place k.step k.at_step) in
      compare_true (numbers f.registers) c.predicate k.width c.left c.right b (holds_is r k.register (compares c.predicate k.width (operand_value (numbers f.registers) c.left) (operand_value (numbers f.registers) c.right)) b k.register_is test h)

  branch_taken : (r : RegisterId) (x y : BlockId) (b : Bool) → truth_of (f.registers r.0) ≡ Some b → Taken (terminator.Branch r x y) (cond b x.0 y.0)
  branch_taken r x y true h = record { edge = edge_to x Branch (branch_sums (compared r steps) true); among = first_within (edge_to x Branch (branch_sums (compared r steps) true)) (edge_to y Branch (branch_sums (compared r steps) false) ∷ []); to = refl; sums = branch_true r true (compared r steps) refl h }
  branch_taken r x y false h = record {
    edge = edge_to y Branch (branch_sums (compared r steps) false);
    among =
        later_within (edge_to x Branch (branch_sums (compared r steps) true)) (edge_to y Branch (branch_sums (compared r steps) false)) (edge_to y Branch (branch_sums (compared r steps) false) ∷ [])
        (first_within (edge_to y Branch (branch_sums (compared r steps) false)) []);
    to = refl;
    sums = branch_true r false (compared r steps) refl h;
  }

  case_is : (z : ℤ) (default : ℕ) (cases : List Case) → (case_for z default cases ≡ default) ⊎ ((c : Case) × Contains cases c × (c.target.0 ≡ case_for z default cases) × (z ≡ c.number))
  case_is z default [] = inl refl
  case_is z default (c ∷ cases) = from (int_eq z c.number) refl (case_is z default cases)
    where
      from : (b : Bool) → int_eq z c.number ≡ b → (case_for z default cases ≡ default) ⊎ ((d : Case) × Contains cases d × (d.target.0 ≡ case_for z default cases) × (z ≡ d.number)) →
          (cond b c.target.0 (case_for z default cases) ≡ default) ⊎ ((d : Case) × Contains (c ∷ cases) d × (d.target.0 ≡ cond b c.target.0 (case_for z default cases)) × (z ≡ d.number))
      from true is h = inr (c, first_within c cases, refl, (Decides-int_eq z c.number).0 is)
      from false is (inl e) = inl e
      from false is (inr (d, there, to, same)) = inr (d, later_within c d cases there, to, same)

  switch_taken : (w : Width) (a : Operand) (default : BlockId) (cases : List Case) (z : ℤ) → word_at f.registers a ≡ Some z → Taken (terminator.Switch w a default cases) (case_for z default.0 cases)
  switch_taken w a default cases z is = from (case_is z default.0 cases)
    where
      from : (case_for z default.0 cases ≡ default.0) ⊎ ((c : Case) × Contains cases c × (c.target.0 ≡ case_for z default.0 cases) × (z ≡ c.number)) → Taken (terminator.Switch w a default cases) (case_for z default.0 cases)
      from (inl e) = record { edge = edge_to default Branch []; among = first_within (edge_to default Branch []) (map (edge_along steps) (map (case_successor a) cases)); to = sym e; sums = none_true (numbers f.registers) }
      from (inr (c, there, to, same)) = record {
        edge = edge_to c.target Branch (case_sums a c.number);
        among =
            later_within (edge_to default Branch []) (edge_to c.target Branch (case_sums a c.number)) (map (edge_along steps) (map (case_successor a) cases))
            (Contains_map (edge_along steps) (map (case_successor a) cases) (case_successor a c) (Contains_map (case_successor a) cases c there));
        to = to;
        sums = case_true (numbers f.registers) a c.number (word_value f.registers a z is ∙ same);
      }

  jump_taken : (t : Terminator) (target : ℕ) (o : Option Registers) → Taken t target → (given f o (enters f target)).trap ≡ None → Taken t (given f o (enters f target)).block
  jump_taken t target o taken fine = given_case (λ (e : Effect). Taken t e.block) f o (enters f target) (λ r is fine2. taken) fine

  along : (t : Terminator) (e g : Effect) → Plain e ≡ Plain g → (e.trap ≡ None → Taken t e.block) → g.trap ≡ None → Taken t g.block
  along t e g same h fine = subst (λ (u : Effect). u.trap ≡ None → Taken t u.block) (same_effect e g same) h fine

  -- along a jump, branch or switch
  pub taken : (p : Path) (t : Terminator) (e : Effect) → JumpsTo t e.block → terminator_action prog p f t ≡ Plain e → e.trap ≡ None → Taken t e.block
  taken p (terminator.Jump target) e to is fine = record { edge = edge_to target Branch []; among = first_within (edge_to target Branch []) []; to = to; sums = none_true (numbers f.registers) }
  taken p (terminator.Branch r x y) e to is fine =
      along (terminator.Branch r x y) (given f (truth_of (f.registers r.0)) (λ b. jumps prog f (cond b x.0 y.0))) e is
      (λ fine2. given_case (λ (u : Effect). Taken (terminator.Branch r x y) u.block) f (truth_of (f.registers r.0)) (λ b. jumps prog f (cond b x.0 y.0))
      (λ b there fine3. jump_taken (terminator.Branch r x y) (cond b x.0 y.0) (registers_along prog f (cond b x.0 y.0)) (branch_taken r x y b there) fine3) fine2)
      fine
  taken p (terminator.Switch w a default cases) e to is fine =
      along (terminator.Switch w a default cases) (given f (word_at f.registers a) (λ z. jumps prog f (case_for z default.0 cases))) e is
      (λ fine2. given_case (λ (u : Effect). Taken (terminator.Switch w a default cases) u.block) f (word_at f.registers a) (λ z. jumps prog f (case_for z default.0 cases))
      (λ z there fine3. jump_taken (terminator.Switch w a default cases) (case_for z default.0 cases) (registers_along prog f (case_for z default.0 cases)) (switch_taken w a default cases z there) fine3) fine2)
      fine
  taken p (terminator.Return value) e to is fine = absurd to
  taken p (terminator.Detach region body continuation) e to is fine = absurd to
  taken p (terminator.Reattach region continuation) e to is fine = absurd to
  taken p (terminator.Sync region target) e to is fine = absurd to

  pub sync_taken : (t : Terminator) (region target : ℕ) → SyncsTo t region target → Taken t target
  sync_taken (terminator.Jump b) region target to = absurd to
  sync_taken (terminator.Branch r x y) region target to = absurd to
  sync_taken (terminator.Switch w a default cases) region target to = absurd to
  sync_taken (terminator.Return value) region target to = absurd to
  sync_taken (terminator.Detach r body continuation) region target to = absurd to
  sync_taken (terminator.Reattach r continuation) region target to = absurd to
  sync_taken (terminator.Sync r b) region target to = record { edge = edge_to b (Synced r) []; among = first_within (edge_to b (Synced r) []) []; to = to.1; sums = none_true (numbers f.registers) }

  pub body_taken : (region : RegisterId) (body continuation : BlockId) → Taken (terminator.Detach region body continuation) body.0
  body_taken region body continuation = record { edge = edge_to body Detached []; among = first_within (edge_to body Detached []) (edge_to continuation Continued [] ∷ []); to = refl; sums = none_true (numbers f.registers) }

  pub continuation_taken : (region : RegisterId) (body continuation : BlockId) → Taken (terminator.Detach region body continuation) continuation.0
  continuation_taken region body continuation = record {
    edge = edge_to continuation Continued [];
    among = later_within (edge_to body Detached []) (edge_to continuation Continued []) (edge_to continuation Continued [] ∷ []) (first_within (edge_to continuation Continued []) []);
    to = refl;
    sums = none_true (numbers f.registers);
  }

-- ---- at the target

phis_there : (prog : Program) (fn b : ℕ) (function : Function) (k : Block) → slice_get prog.functions fn ≡ Some function → slice_get function.blocks b ≡ Some k → phis_at prog fn b ≡ k.phis
phis_there prog fn b function k at there = ap (λ x. block_phis (and_then x (λ (g : Function). slice_get g.blocks b))) at ∙ ap block_phis there

-- behind an edge each register has what the moves put in for it
pub moves_made : (prog : Program) (f : Frame) (target : ℕ) (s : Registers) (function : Function) (k : Block) → slice_get prog.functions f.function ≡ Some function → slice_get function.blocks target ≡ Some k →
    AreApart (phis_at prog f.function target) → registers_along prog f target ≡ Some s → (r : RegisterId) → numbers s r.0 ≡ operand_value (numbers f.registers) (operand_for (moves_from f.block k.phis) r)
moves_made prog f target s function k at there distinct is r =
    let phis : phis_at prog f.function target ≡ k.phis = phis_there prog f.function target function k at there in
    phis_moved f.registers f.block k.phis f.registers s (subst AreApart phis distinct) (subst (λ ps. with_phis f.registers f.block ps f.registers ≡ Some s) phis is) r.0 ∙ moved_or_is (moves_from f.block k.phis) (numbers f.registers) r

module _ (prog : Program) (right : AreRangesRight prog) (f : Frame) (t : Terminator) (place : EndAt prog f.function f.block f.index t) (good : KnownHold prog f) where
  pub tests_here : (k : ℕ) (step : Step) → slice_get place.of.block.steps k ≡ Some step → HoldsTest f.registers step.instruction
  tests_here k step at =
      let l = slice_get_within place.of.block.steps k step at in
      let e = place.index_is in
      good.tests k step.instruction (omega (arith, l, e)) (item_is prog f.function f.block place.of k step at)

  known_end_holds : AllHold (numbers f.registers) (known_at_place prog f.function f.block (length place.of.block.steps))
  known_end_holds = subst (λ n. AllHold (numbers f.registers) (known_at_place prog f.function f.block n)) place.index_is good.facts

  -- what the target keeps, with the phis' moves put in
  keeps_true : (e : EdgeSums) → Contains (edges_out place.of.block.steps t) e → All (IsTrueAt (numbers f.registers)) e.sums →
      All (λ q. IsTrueAt (numbers f.registers) (difference_of (moves_from f.block (block_phis (slice_get place.of.function.blocks e.to.0))) q)) (keeps_of (slice_get place.of.function.blocks e.to.0))
  keeps_true e c true_sums =
      let known : List Fact = known_at_place prog f.function f.block (length place.of.block.steps) in
      let among : Contains (edges_out place.of.block.steps place.ending.terminator) e = subst (λ u. Contains (edges_out place.of.block.steps u) e) (sym place.is) c in
      let whole : AllHold (numbers f.registers) (known ++ facts_of e.sums) = All-append (λ (g : Fact). Holds (numbers f.registers) g.form) known (facts_of e.sums) known_end_holds (facts_true e.sums (numbers f.registers) true_sums) in
      owed_true (known ++ facts_of e.sums) 505 (moves_from f.block (block_phis (slice_get place.of.function.blocks e.to.0))) (keeps_of (slice_get place.of.function.blocks e.to.0))
      (edge_met prog right f.function f.block place.of place.ending place.at_ending e among) (numbers f.registers) whole

  starts : (target : ℕ) → target ≢ 0 → (o : BlockOf prog f.function target) (s : Registers) → All (IsMet (numbers s)) o.block.keeps → AllHold (numbers s) (before prog f.function target o 0)
  starts zero apart o s all = absurd (apart refl)
  starts (suc b) apart o s all = stated_true (numbers s) o.block.keeps all

  -- registers at the target: each has what the moves put in for it
  pub lands : (target : ℕ) (s : Registers) → target ≢ 0 → IsTaken place.of.block.steps t (numbers f.registers) target →
      ((k : Block) → slice_get place.of.function.blocks target ≡ Some k → (r : RegisterId) → operand_value (numbers f.registers) (operand_for (moves_from f.block k.phis) r) ≡ numbers s r.0) →
      AllHold (numbers s) (known_at_place prog f.function target 0)
  lands target s apart way moved = from (slice_get place.of.function.blocks target) refl
    where
      from : (o : Option Block) → slice_get place.of.function.blocks target ≡ o → AllHold (numbers s) (known_at_place prog f.function target 0)
      from None is =
          let none : known_at_place prog f.function target 0 ≡ [] = ap (λ x. known_in prog.functions x target 0) place.of.at_function ∙ ap (λ x. known_in_block prog.functions place.of.function target x 0) is in
          subst (AllHold (numbers s)) (sym none) (All-nil (λ (g : Fact). Holds (numbers s) g.form))
      from (Some k) is =
          let there : slice_get place.of.function.blocks way.edge.to.0 ≡ Some k = ap (λ n. slice_get place.of.function.blocks n) way.to ∙ is in
          let sums = keeps_true way.edge way.among way.sums in
          let put : All (λ q. IsTrueAt (numbers f.registers) (difference_of (moves_from f.block k.phis) q)) k.keeps =
          subst (λ x. All (λ q. IsTrueAt (numbers f.registers) (difference_of (moves_from f.block (block_phis x)) q)) (keeps_of x)) there sums in
          let o : BlockOf prog f.function target = record { function = place.of.function; block = k; at_function = place.of.at_function; at_block = is } in
          let all : All (IsMet (numbers s)) k.keeps =
          All-weaker (λ q. IsTrueAt (numbers f.registers) (difference_of (moves_from f.block k.phis) q)) (IsMet (numbers s))
          (λ q h. met_from_moved (numbers f.registers) (numbers s) (moves_from f.block k.phis) q (λ i d l. moved k is _) (λ i d l. moved k is _) h) k.keeps put in
          arrives prog right f.function target o (numbers s) 0 (starts target apart o s all)

  -- along an edge with its phis
  pub lands_along : (target : ℕ) (s : Registers) → target ≢ 0 → IsTaken place.of.block.steps t (numbers f.registers) target → AreApart (phis_at prog f.function target) → registers_along prog f target ≡ Some s → AllHold (numbers s) (known_at_place prog f.function target 0)
  lands_along target s apart way distinct is = lands target s apart way (λ k there r. sym (moves_made prog f target s place.of.function k place.of.at_function there distinct is r))

  -- along a detach, where no phi stands
  pub lands_forked : (target : ℕ) → target ≢ 0 → IsTaken place.of.block.steps t (numbers f.registers) target → phis_at prog f.function target ≡ [] → AllHold (numbers f.registers) (known_at_place prog f.function target 0)
  lands_forked target apart way none = lands target f.registers apart way moved
    where
      moved : (k : Block) → slice_get place.of.function.blocks target ≡ Some k → (r : RegisterId) → operand_value (numbers f.registers) (operand_for (moves_from f.block k.phis) r) ≡ numbers f.registers r.0
      moved k there r =
          let phis : k.phis ≡ [] = sym (phis_there prog f.function target place.of.function k place.of.at_function there) ∙ none in
          ap (λ ps. operand_value (numbers f.registers) (operand_for (moves_from f.block ps) r)) phis
