-- What is known at a place names no register that the place's step defines.
use Rattle.std.proofs.Common.{◌≡◌, ◌≢◌, ℕ, zero, suc, ◌+◌, ◌<◌, ◌≤◌, ◌⊎◌, inl, inr, List, [], ◌∷◌, ◌++◌, length, Option, Some, None, Bool, true, false, cond, is_some, refl, sym, ap, subst, ◌∙◌, arith, slice_get, ℤ, pos, negsuc, ◌+ℤ◌, ◌*ℤ◌, ◌-ℤ◌}
use Rattle.std.specs.Prelude.{nat_lt, unsigned_abs, int_le, slice_set, insert}
use Rattle.std.specs.List.{All, Contains, flat_map, prefix_len}
use Rattle.std.specs.Option.{option_map, option_to_list}
use Rattle.std.proofs.lemmas.Bool.Decides.{eqb_tells}
use Rattle.std.proofs.lemmas.List.Elements.{All-nil, All-cons, All-head, All-tail, All-append, All-set, All-weaker, All-contains_itself, Contains-append_left, Contains-append_right}
use Rattle.semantics.specs.Frames.{Does, item_at}
use Rattle.linear.specs.declared.form.RegisterId.{RegisterId}
use Rattle.linear.specs.declared.form.Term.{Term}
use Rattle.linear.specs.declared.form.Fact.{Fact}
use Rattle.linear.specs.Terms.{Combination, constant_form}
use Rattle.linear.specs.Made.{is_below, is_bounded, with_term, with_terms, with_constant, placed, placed_at, coefficient_at}
use Rattle.syntax.specs.declared.operator.BinaryOperator.{BinaryOperator}
use Rattle.syntax.specs.declared.operator.BinaryOperator.TheVariants.{Add, Subtract, Multiply, AddNoWrap, SubtractNoWrap, MultiplyNoWrap, SignedDivide, UnsignedDivide, SignedRemainder, UnsignedRemainder, ShiftLeft, LogicalShiftRight, ArithmeticShiftRight, And, Or, ExclusiveOr}
use Rattle.syntax.specs.declared.operator.Conversion.{Conversion}
use Rattle.syntax.specs.declared.operator.Conversion.TheVariants.{Truncate, SignExtend, ZeroExtend}
use Rattle.program.specs.declared.annotation.Inequality.{Inequality}
use Rattle.program.specs.declared.function.Alloca.{Alloca as AllocaOf}
use Rattle.program.specs.declared.function.Block.{Block}
use Rattle.program.specs.declared.function.Function.{Function}
use Rattle.program.specs.declared.function.Program.{Program}
use Rattle.program.specs.declared.identifier.FunctionId.{FunctionId}
use Rattle.program.specs.declared.instruction.Argument.{Argument}
use Rattle.program.specs.declared.instruction.Argument.TheVariants as argument
use Rattle.program.specs.declared.instruction.Instruction.{Instruction}
use Rattle.program.specs.declared.instruction.Instruction.TheVariants as instruction
use Rattle.program.specs.declared.instruction.Operand.{Operand}
use Rattle.program.specs.declared.instruction.Operand.TheVariants.{Number, Register}
use Rattle.program.specs.declared.instruction.Step.{Step}
use Rattle.cfg.specs.declared.structure.Move.{Move}
use Rattle.definedness.specs.declared.act.Act.TheVariants.{Needs}
use Rattle.definedness.specs.RegisterActs.{register_needs, operand_needs, form_needs, inequality_needs, argument_needs, instruction_needs}
use Rattle.ranges.specs.ranges_owed.declared.sum.Part.{Part}
use Rattle.ranges.specs.ranges_owed.declared.sum.Sum.{Sum}
use Rattle.ranges.specs.ranges_owed.Sums.{one}
use Rattle.ranges.specs.Sums.{with_operand, with_parts, start_of, sum_form, fact_of, facts_of, shows}
use Rattle.ranges.specs.ranges_owed.Inequalities.{operand_for, parts_of, differences_of, argument_operand, argument_moves, result_moves, register_operand, call_moves}
use Rattle.ranges.specs.ranges_owed.Scales.{scale_number, scale_left, scale_right, scale_of}
use Rattle.ranges.specs.Learned.{is_multiple, is_product, is_between, is_quotient, is_divisor, binary_sums, is_32_bits, conversion_sums, call_sums, learned}
use Rattle.ranges.specs.Places.{stated, start_facts, with_shows, after_step, facts_before, step_shows, facts_at_step}
use Rattle.laws_conditions.specs.rules.Moves.{dest_of}
use Rattle.laws_conditions.specs.rules.Costs.{Lacks}
use Rattle.laws_phases.specs.defined.Leads.{IsBlock}
use Rattle.laws_phases.specs.defined.Names.{StepDefines}
use Rattle.laws_phases.specs.defined.Stable.{Names, IsSteady, IsStable}
use Rattle.laws_phases.specs.defined.Names.{NamesOnly}
use Rattle.laws_phases.specs.defined.Known.{IsPut, NamesParameters, KnownIsStable}
use Rattle.laws_phases.proofs.defined.Lists.{none_within, first_within, flat_within}
use Rattle.laws_phases.proofs.defined.Items.{item_there}

module _ (d : ℕ) where
  abbrev pub OperandLacks : Operand → Type 0
  OperandLacks (Number z) = Unit {0}
  OperandLacks (Register r) = r.0 ≢ d

  abbrev pub PartsLack : List Part → Type 0
  PartsLack [] = Unit {0}
  PartsLack (p ∷ ps) = OperandLacks p.operand × PartsLack ps

  abbrev pub SumsLack : List Sum → Type 0
  SumsLack [] = Unit {0}
  SumsLack (s ∷ ss) = PartsLack s.parts × SumsLack ss

  abbrev pub FactsLack : List Fact → Type 0
  FactsLack facts = All (λ (fact : Fact). Lacks fact.form d) facts

  abbrev pub TermsLack : List Term → Type 0
  TermsLack terms = All (λ (t : Term). t.register.0 ≢ d) terms

  -- ---- forms of sums

  insert_lacks : (terms : List Term) (k : ℕ) (t : Term) → t.register.0 ≢ d → TermsLack terms → TermsLack (insert terms k t)
  insert_lacks [] zero t h all = All-cons (λ (u : Term). u.register.0 ≢ d) t [] h all
  insert_lacks [] (suc k) t h all = All-cons (λ (u : Term). u.register.0 ≢ d) t [] h all
  insert_lacks (u ∷ us) zero t h all = All-cons (λ (x : Term). x.register.0 ≢ d) t (u ∷ us) h all
  insert_lacks (u ∷ us) (suc k) t h all = All-cons (λ (x : Term). x.register.0 ≢ d) u (insert us k t) (All-head (λ (x : Term). x.register.0 ≢ d) u us all) (insert_lacks us k t h (All-tail (λ (x : Term). x.register.0 ≢ d) u us all))

  placed_lacks : (terms : List Term) (k : ℕ) (r : RegisterId) (amount : ℤ) (o : Option ℤ) (made : List Term) → r.0 ≢ d → TermsLack terms → placed_at terms k r amount o ≡ Some made → TermsLack made
  placed_lacks terms k r amount None made h all e = by (is_bounded (pos 0 +ℤ amount)) e
    where
      by : (b : Bool) → cond b (Some (insert terms k (record { register = r; coefficient = pos 0 +ℤ amount }))) None ≡ Some made → TermsLack made
      by true is = let same : insert terms k (record { register = r; coefficient = pos 0 +ℤ amount }) ≡ made = cc in subst TermsLack same (insert_lacks terms k (record { register = r; coefficient = pos 0 +ℤ amount }) h all)
      by false is = absurd (cc)
  placed_lacks terms k r amount (Some c) made h all e = by (is_bounded (c +ℤ amount)) e
    where
      by : (b : Bool) → cond b (Some (slice_set terms k (record { register = r; coefficient = c +ℤ amount }))) None ≡ Some made → TermsLack made
      by true is = let same : slice_set terms k (record { register = r; coefficient = c +ℤ amount }) ≡ made = cc in subst TermsLack same (All-set (λ (u : Term). u.register.0 ≢ d) terms k (record { register = r; coefficient = c +ℤ amount }) h all)
      by false is = absurd (cc)

  term_lacks : (f g : Combination) (r : RegisterId) (amount : ℤ) → r.0 ≢ d → Lacks f d → with_term f r amount ≡ Some g → Lacks g d
  unfolding placed
  term_lacks f g r amount h all e = by (placed f.terms r amount) refl e
    where
      by : (o : Option (List Term)) → placed f.terms r amount ≡ o → with_terms f.constant o ≡ Some g → Lacks g d
      by None is k = absurd (cc)
      by (Some made) is k =
          let same : record { terms = made; constant = f.constant } ≡ g = cc in
          subst (λ (x : Combination). Lacks x d) same (placed_lacks f.terms (prefix_len (is_below r.0) f.terms) r amount (coefficient_at f.terms (prefix_len (is_below r.0) f.terms) r.0) made h all is)

  constant_lacks : (f g : Combination) (amount : ℤ) → Lacks f d → with_constant f amount ≡ Some g → Lacks g d
  constant_lacks f g amount all e = by (nat_lt (unsigned_abs (amount +ℤ f.constant)) 1267650600228229401496703205376) e
    where
      by : (b : Bool) → cond b (Some (record { terms = f.terms; constant = amount +ℤ f.constant })) None ≡ Some g → Lacks g d
      by true is = let same : record { terms = f.terms; constant = amount +ℤ f.constant } ≡ g = cc in subst (λ (x : Combination). Lacks x d) same all
      by false is = absurd (cc)

  operand_lacks : (f g : Combination) (factor : ℤ) (x : Operand) → OperandLacks x → Lacks f d → with_operand f factor x ≡ Some g → Lacks g d
  operand_lacks f g factor (Number z) h all e = by (is_bounded factor) e
    where
      by : (b : Bool) → cond b (with_constant f (factor *ℤ z)) None ≡ Some g → Lacks g d
      by true is = constant_lacks f g (factor *ℤ z) all is
      by false is = absurd (cc)
  operand_lacks f g factor (Register r) h all e = term_lacks f g r factor h all e

  parts_lack : (ps : List Part) (o : Option Combination) (g : Combination) → PartsLack ps → ((f : Combination) → o ≡ Some f → Lacks f d) → with_parts ps o ≡ Some g → Lacks g d
  parts_lack [] o g h all e = all g e
  parts_lack (p ∷ ps) None g h all e = absurd (cc)
  parts_lack (p ∷ ps) (Some f) g h all e = parts_lack ps (with_operand f p.factor p.operand) g h.1 (λ x is. operand_lacks f x p.factor p.operand h.0 (all f refl) is) e

  start_lacks : (constant : ℤ) (f : Combination) → start_of constant ≡ Some f → Lacks f d
  start_lacks constant f e = by (nat_lt (unsigned_abs constant) 1267650600228229401496703205376) e
    where
      by : (b : Bool) → cond b (Some (constant_form constant)) None ≡ Some f → Lacks f d
      by true is = let same : constant_form constant ≡ f = cc in subst (λ (x : Combination). Lacks x d) same (All-nil (λ (t : Term). t.register.0 ≢ d))
      by false is = absurd (cc)

  form_lacks : (s : Sum) (f : Combination) → PartsLack s.parts → sum_form s ≡ Some f → Lacks f d
  unfolding sum_form
  form_lacks s f h e = parts_lack s.parts (start_of s.constant) f h (λ x is. start_lacks s.constant x is) e

  pub facts_lack : (sums : List Sum) → SumsLack sums → FactsLack (facts_of sums)
  facts_lack [] h = All-nil (λ (fact : Fact). Lacks fact.form d)
  facts_lack (s ∷ ss) h = All-append (λ (fact : Fact). Lacks fact.form d) (option_to_list (fact_of s)) (facts_of ss) (by (sum_form s) refl) (facts_lack ss h.1)
    where
      by : (o : Option Combination) → sum_form s ≡ o → FactsLack (option_to_list (option_map (λ (f : Combination). record { form = f }) o))
      by None is = All-nil (λ (fact : Fact). Lacks fact.form d)
      by (Some f) is = All-cons (λ (fact : Fact). Lacks fact.form d) (record { form = f }) [] (form_lacks s f h.0 is) (All-nil (λ (fact : Fact). Lacks fact.form d))

  -- ---- inequalities

  put_lacks : (moves : List Move) (sign : ℤ) (terms : List Term) → All (λ (t : Term). OperandLacks (operand_for moves t.register)) terms → PartsLack (parts_of moves sign terms)
  put_lacks moves sign [] all = tt
  put_lacks moves sign (t ∷ ts) all = (All-head (λ (u : Term). OperandLacks (operand_for moves u.register)) t ts all, put_lacks moves sign ts (All-tail (λ (u : Term). OperandLacks (operand_for moves u.register)) t ts all))

  both_lack : (ps qs : List Part) → PartsLack ps → PartsLack qs → PartsLack (ps ++ qs)
  both_lack [] qs h k = k
  both_lack (p ∷ ps) qs h k = (h.0, both_lack ps qs h.1 k)

  differences_lack : (moves : List Move) (qs : List Inequality) → All (NamesOnly (λ r. OperandLacks (operand_for moves (record { 0 = r })))) qs → SumsLack (differences_of moves qs)
  differences_lack moves [] all = tt
  differences_lack moves (q ∷ qs) all =
      let h = All-head (NamesOnly (λ r. OperandLacks (operand_for moves (record { 0 = r })))) q qs all in (
        both_lack (parts_of moves (pos 1) q.high.terms) (parts_of moves (negsuc 0) q.low.terms) (put_lacks moves (pos 1) q.high.terms h.high) (put_lacks moves (negsuc 0) q.low.terms h.low),
        differences_lack moves qs (All-tail (NamesOnly (λ r. OperandLacks (operand_for moves (record { 0 = r })))) q qs all),
      )

  form_named : (line : ℕ) (form : Combination) → (Names (form_needs line form) d → ⊥) → TermsLack form.terms
  form_named line form lacks = All-weaker (Contains form.terms) (λ (t : Term). t.register.0 ≢ d)
      (λ t within same. lacks (line, flat_within (λ (u : Term). register_needs line u.register) form.terms t (Needs d line) within (subst (λ n. Contains (register_needs line t.register) (Needs n line)) same (first_within (Needs t.register.0 line) []))))
      form.terms (All-contains_itself form.terms)

  named_over : (qs : List Inequality) → (Names (flat_map inequality_needs qs) d → ⊥) → All (NamesOnly (λ r. r ≢ d)) qs
  named_over [] lacks = All-nil (NamesOnly (λ r. r ≢ d))
  named_over (q ∷ qs) lacks = All-cons (NamesOnly (λ r. r ≢ d)) q qs
      (record {
        low = form_named q.line q.low (λ n. lacks (n.0, Contains-append_left (inequality_needs q) (flat_map inequality_needs qs) (Needs d n.0) (Contains-append_left (form_needs q.line q.low) (form_needs q.line q.high) (Needs d n.0) n.1)));
        high = form_named q.line q.high (λ n. lacks (n.0, Contains-append_left (inequality_needs q) (flat_map inequality_needs qs) (Needs d n.0) (Contains-append_right (form_needs q.line q.low) (form_needs q.line q.high) (Needs d n.0) n.1)));
      })
      (named_over qs (λ n. lacks (n.0, Contains-append_right (inequality_needs q) (flat_map inequality_needs qs) (Needs d n.0) n.1)))

  pub stated_lack : (qs : List Inequality) → All (NamesOnly (λ r. r ≢ d)) qs → FactsLack (stated qs)
  stated_lack qs over = facts_lack (differences_of [] qs) (differences_lack [] qs over)

  -- ---- what instructions make known

  sums_append : (xs ys : List Sum) → SumsLack xs → SumsLack ys → SumsLack (xs ++ ys)
  sums_append [] ys h k = k
  sums_append (x ∷ xs) ys h k = (h.0, sums_append xs ys h.1 k)

  chosen_lack : (b : Bool) (xs : List Sum) → SumsLack xs → SumsLack (cond b xs [])
  chosen_lack true xs h = h
  chosen_lack false xs h = tt

  product_lacks : (x y : Operand) (r : Operand) → OperandLacks r → OperandLacks x → OperandLacks y → SumsLack (is_product r (scale_of x y))
  product_lacks x y r h hx hy = by_right y hy (scale_number y)
    where
      by_part : (o : Option Part) → ((p : Part) → o ≡ Some p → OperandLacks p.operand) → SumsLack (is_product r o)
      by_part None all = tt
      by_part (Some p) all = let k = all p refl in ((h, (k, tt)), ((h, (k, tt)), tt))

      by_left : (y : Operand) → OperandLacks y → (o : Option ℤ) → SumsLack (is_product r (scale_left y o))
      by_left y hy None = tt
      by_left y hy (Some c) = ((h, (hy, tt)), ((h, (hy, tt)), tt))

      by_right : (y : Operand) → OperandLacks y → (o : Option ℤ) → SumsLack (is_product r (scale_right x y o))
      by_right y hy None = by_left y hy (scale_number x)
      by_right y hy (Some c) = ((h, (hx, tt)), ((h, (hx, tt)), tt))

  binary_lacks : (known : List Fact) (op : BinaryOperator) (r x y : Operand) → OperandLacks r → OperandLacks x → OperandLacks y → SumsLack (binary_sums known op r x y)
  binary_lacks known Add r x y h hx hy = tt
  binary_lacks known Subtract r x y h hx hy = tt
  binary_lacks known Multiply r x y h hx hy = tt
  binary_lacks known AddNoWrap r x y h hx hy = ((h, (hx, (hy, tt))), ((h, (hx, (hy, tt))), tt))
  binary_lacks known SubtractNoWrap r x y h hx hy = ((h, (hx, (hy, tt))), ((h, (hx, (hy, tt))), tt))
  binary_lacks known MultiplyNoWrap r x y h hx hy = product_lacks x y r h hx hy
  binary_lacks known SignedDivide r x (Number c) h hx hy = chosen_lack (is_divisor known x c) (is_quotient r x c) ((hx, (h, tt)), ((h, (hx, tt)), ((h, tt), tt)))
  binary_lacks known SignedDivide r x (Register y) h hx hy = tt
  binary_lacks known UnsignedDivide r x y h hx hy = tt
  binary_lacks known SignedRemainder r x (Number c) h hx hy = chosen_lack (is_divisor known x c) (is_between (pos 0) (c -ℤ pos 1) r) ((h, tt), ((h, tt), tt))
  binary_lacks known SignedRemainder r x (Register y) h hx hy = tt
  binary_lacks known UnsignedRemainder r x y h hx hy = tt
  binary_lacks known ShiftLeft r x y h hx hy = tt
  binary_lacks known LogicalShiftRight r x y h hx hy = tt
  binary_lacks known ArithmeticShiftRight r x y h hx hy = tt
  binary_lacks known And r x (Number m) h hx hy = chosen_lack (int_le (pos 0) m) (is_between (pos 0) m r) ((h, tt), ((h, tt), tt))
  binary_lacks known And r x (Register y) h hx hy = tt
  binary_lacks known Or r x y h hx hy = tt
  binary_lacks known ExclusiveOr r x y h hx hy = tt

  conversion_lacks : (known : List Fact) (by : Conversion) (r x : Operand) → OperandLacks r → OperandLacks x → SumsLack (conversion_sums known by r x)
  conversion_lacks known SignExtend r x h hx = ((h, tt), ((h, tt), ((h, (hx, tt)), ((h, (hx, tt)), tt))))
  conversion_lacks known Truncate r x h hx = sums_append (is_between (negsuc 2147483647) (pos 2147483647) r) (cond (is_32_bits known x) (is_multiple r (pos 1) x) []) ((h, tt), ((h, tt), tt)) (chosen_lack (is_32_bits known x) (is_multiple r (pos 1) x) ((h, (hx, tt)), ((h, (hx, tt)), tt)))
  conversion_lacks known ZeroExtend r x h hx = sums_append (is_between (pos 0) (pos 4294967295) r) (cond (shows known (one (pos 0) (pos 1) x)) (is_multiple r (pos 1) x) []) ((h, tt), ((h, tt), tt)) (chosen_lack (shows known (one (pos 0) (pos 1) x)) (is_multiple r (pos 1) x) ((h, (hx, tt)), ((h, (hx, tt)), tt)))

  operand_named : (line : ℕ) (x : Operand) → (Names (operand_needs line x) d → ⊥) → OperandLacks x
  operand_named line (Number z) lacks = tt
  operand_named line (Register r) lacks = λ same. lacks (line, subst (λ n. Contains (register_needs line r) (Needs n line)) same (first_within (Needs r.0 line) []))

  -- a call's arguments and its result, put in
  result_lacks : (callee : Function) (e : Option RegisterId) (r : ℕ) → r ≡ length callee.registers → is_some e ≡ true → ((x : RegisterId) → e ≡ Some x → x.0 ≢ d) → OperandLacks (operand_for (result_moves callee (register_operand e)) (record { 0 = r }))
  result_lacks callee None r is there other = absurd (cc)
  result_lacks callee (Some x) r is there other = elim (eqb_tells (length callee.registers) r) [
    | inl h ↦ rw h.0 (other x refl)
    | inr h ↦ absurd (h.1 (sym is))
  ]

  moved_lacks : (callee : Function) (e : Option RegisterId) (arguments : List Argument) (n r : ℕ) → ((a : Argument) → Contains arguments a → OperandLacks (argument_operand a)) → ((x : RegisterId) → e ≡ Some x → x.0 ≢ d) →
      ((n ≤ r) × (r < n + length arguments)) ⊎ ((r ≡ length callee.registers) × (is_some e ≡ true)) → OperandLacks (operand_for (argument_moves n arguments ++ result_moves callee (register_operand e)) (record { 0 = r }))
  moved_lacks callee e [] n r all other (inl h) = absurd (omega (arith, h.0, h.1))
  moved_lacks callee e [] n r all other (inr h) = result_lacks callee e r h.0 h.1 other
  moved_lacks callee e (a ∷ more) n r all other h = elim (eqb_tells n r) [
    | inl k ↦ rw k.0 (all a (first_within a more))
    | inr k ↦ rw k.0 (moved_lacks callee e more (suc n) r (λ x within. all x (Contains-append_right (a ∷ []) more x within)) other (next h k.1))
  ]
    where
      next : ((n ≤ r) × (r < n + suc (length more))) ⊎ ((r ≡ length callee.registers) × (is_some e ≡ true)) → n ≢ r → ((suc n ≤ r) × (r < suc n + length more)) ⊎ ((r ≡ length callee.registers) × (is_some e ≡ true))
      next (inl x) ne = inl (omega (arith, x.0, ne), omega (arith, x.1))
      next (inr x) ne = inr x

  argument_lacks : (allocas : List AllocaOf) (line : ℕ) (arguments : List Argument) (a : Argument) → (Names (flat_map (argument_needs allocas line) arguments) d → ⊥) → Contains arguments a → OperandLacks (argument_operand a)
  argument_lacks allocas line arguments (argument.Number x) lacks within = operand_named line x (λ n. lacks (n.0, flat_within (argument_needs allocas line) arguments (argument.Number x) (Needs d n.0) within n.1))
  argument_lacks allocas line arguments (argument.Object name) lacks within = tt

  call_lacks : (allocas : List AllocaOf) (line : ℕ) (o : Option Function) (arguments : List Argument) (e : Option RegisterId) → (Names (flat_map (argument_needs allocas line) arguments) d → ⊥) → ((x : RegisterId) → e ≡ Some x → x.0 ≢ d) →
      ((callee : Function) → o ≡ Some callee → All (NamesOnly (IsPut callee arguments e)) callee.guarantees) → SumsLack (call_sums o arguments e)
  call_lacks allocas line None arguments e lacks other put = tt
  call_lacks allocas line (Some callee) arguments e lacks other put = differences_lack (call_moves callee arguments e) callee.guarantees
      (All-weaker (NamesOnly (IsPut callee arguments e)) (NamesOnly (λ r. OperandLacks (operand_for (call_moves callee arguments e) (record { 0 = r }))))
      (λ q over. record {
        low = All-weaker (λ (t : Term). IsPut callee arguments e t.register.0) (λ (t : Term). OperandLacks (operand_for (call_moves callee arguments e) t.register)) (λ t h. moved t.register.0 h) q.low.terms over.low;
        high = All-weaker (λ (t : Term). IsPut callee arguments e t.register.0) (λ (t : Term). OperandLacks (operand_for (call_moves callee arguments e) t.register)) (λ t h. moved t.register.0 h) q.high.terms over.high;
      })
      callee.guarantees (put callee refl))
    where
      from_zero : (r : ℕ) → IsPut callee arguments e r → ((0 ≤ r) × (r < 0 + length arguments)) ⊎ ((r ≡ length callee.registers) × (is_some e ≡ true))
      from_zero r (inl h) = inl (omega arith, omega (arith, h))
      from_zero r (inr h) = inr h

      moved : (r : ℕ) → IsPut callee arguments e r → OperandLacks (operand_for (call_moves callee arguments e) (record { 0 = r }))
      moved r h = moved_lacks callee e arguments 0 r (λ a within. argument_lacks allocas line arguments a lacks within) other (from_zero r h)

  own_result : (r : RegisterId) → Some r.0 ≢ Some d → OperandLacks (Register r)
  own_result r apart = λ same. apart (ap (λ n. Some n) same)

  learned_lacks : (functions : List Function) (allocas : List AllocaOf) (line : ℕ) (known : List Fact) (what : Instruction) → dest_of what ≢ Some d → (Names (instruction_needs allocas line what) d → ⊥) →
      ((e : Option RegisterId) (g : FunctionId) (arguments : List Argument) (callee : Function) → what ≡ instruction.Call e g arguments → slice_get functions g.0 ≡ Some callee → All (NamesOnly (IsPut callee arguments e)) callee.guarantees) → SumsLack (learned functions known what)
  learned_lacks functions allocas line known (instruction.Binary r op w x y) apart lacks put =
      binary_lacks known op (Register r) x y (own_result r apart) (operand_named line x (λ n. lacks (n.0, Contains-append_left (operand_needs line x) (operand_needs line y) (Needs d n.0) n.1))) (operand_named line y (λ n. lacks (n.0, Contains-append_right (operand_needs line x) (operand_needs line y) (Needs d n.0) n.1)))
  learned_lacks functions allocas line known (instruction.Compare r test w x y) apart lacks put = tt
  learned_lacks functions allocas line known (instruction.Convert r test x) apart lacks put = conversion_lacks known test (Register r) x (own_result r apart) (operand_named line x lacks)
  learned_lacks functions allocas line known (instruction.Alloca r a) apart lacks put = tt
  learned_lacks functions allocas line known (instruction.ElementPointer r name i) apart lacks put = tt
  learned_lacks functions allocas line known (instruction.Load r a) apart lacks put = tt
  learned_lacks functions allocas line known (instruction.Store v a) apart lacks put = tt
  learned_lacks functions allocas line known (instruction.StoreZeros n name) apart lacks put = tt
  learned_lacks functions allocas line known (instruction.AtomicAdd a v) apart lacks put = tt
  learned_lacks functions allocas line known (instruction.Call e g arguments) apart lacks put =
      call_lacks allocas line (slice_get functions g.0) arguments e lacks (λ x is same. apart (rw is (ap (λ n. Some n) same))) (λ callee is. put e g arguments callee refl is)
  learned_lacks functions allocas line known (instruction.StartRegion r) apart lacks put = tt

  -- ---- along a block

  -- what the first steps and what is known before them lack, is lacking behind them
  pub before_lacks : (functions : List Function) (allocas : List AllocaOf) (known : List Fact) (steps : List Step) (i : ℕ) → FactsLack known →
      ((j : ℕ) (s : Step) → j < i → slice_get steps j ≡ Some s → (dest_of s.instruction ≢ Some d) × (Names (flat_map inequality_needs s.shows) d → ⊥) × (Names (instruction_needs allocas s.line s.instruction) d → ⊥)
      × ((e : Option RegisterId) (g : FunctionId) (arguments : List Argument) (callee : Function) → s.instruction ≡ instruction.Call e g arguments → slice_get functions g.0 ≡ Some callee → All (NamesOnly (IsPut callee arguments e)) callee.guarantees)) →
      FactsLack (facts_before functions known steps i)
  before_lacks functions allocas known [] zero all each = all
  before_lacks functions allocas known (s ∷ steps) zero all each = all
  before_lacks functions allocas known [] (suc i) all each = all
  before_lacks functions allocas known (s ∷ steps) (suc i) all each =
      let h = each 0 s (omega arith) refl in
      let shown : FactsLack (with_shows known s.shows) = All-append (λ (fact : Fact). Lacks fact.form d) known (stated s.shows) all (stated_lack s.shows (named_over s.shows h.1)) in
      before_lacks functions allocas (after_step functions known s) steps i
      (All-append (λ (fact : Fact). Lacks fact.form d) (with_shows known s.shows) (facts_of (learned functions (with_shows known s.shows) s.instruction)) shown
      (facts_lack (learned functions (with_shows known s.shows) s.instruction) (learned_lacks functions allocas s.line (with_shows known s.shows) s.instruction h.0 h.2 h.3)))
      (λ j t less at. each (suc j) t (omega (arith, less)) at)

  pub shows_lack : (qs : List Inequality) → (Names (flat_map inequality_needs qs) d → ⊥) → FactsLack (stated qs)
  shows_lack qs lacks = stated_lack qs (named_over qs lacks)

module _ (prog : Program) (stable : IsStable prog) (names : NamesParameters prog) (f b i d : ℕ) (function : Function) (block : Block) (is : IsBlock prog f b function block) (mine : StepDefines function b i d) where
  steady : IsSteady function b block i d
  steady = stable.steps f b i d function block is mine

  start_lack : FactsLack d (start_facts function b block)
  start_lack = by b
    where
      by : (n : ℕ) → FactsLack d (start_facts function n block)
      by zero = stated_lack d function.requirements (All-weaker (NamesOnly (λ r. r < length function.parameters)) (NamesOnly (λ r. r ≢ d)) (λ q over. record {
        low = All-weaker (λ (t : Term). t.register.0 < length function.parameters) (λ (t : Term). t.register.0 ≢ d) (λ t less. low t less) q.low.terms over.low;
        high = All-weaker (λ (t : Term). t.register.0 < length function.parameters) (λ (t : Term). t.register.0 ≢ d) (λ t less. low t less) q.high.terms over.high;
      }) function.requirements (names.requirements f function is.at_function))
        where
          low : (t : Term) → t.register.0 < length function.parameters → t.register.0 ≢ d
          low t less same = let high = steady.parameter in omega (arith, less, same, high)
      by (suc n) = shows_lack d block.keeps steady.keeps

  item_is : (j : ℕ) (s : Step) → slice_get block.steps j ≡ Some s → item_at prog f b j ≡ Some (Does s.instruction)
  item_is j s at = rw (is.at_function, is.at_block) (item_there block.steps block.ending j s at)

  pub known_lacks : FactsLack d (facts_at_step prog.functions function b block i)
  known_lacks =
      All-append (λ (fact : Fact). Lacks fact.form d) (facts_before prog.functions (start_facts function b block) block.steps i) (stated (step_shows (slice_get block.steps i)))
      (before_lacks d prog.functions function.allocas (start_facts function b block) block.steps i start_lack
      (λ j s less at. (
        steady.earlier j s less at,
        steady.shows j s (omega (arith, less)) at,
        steady.uses j s (omega (arith, less)) at,
        λ e g arguments callee what there. names.guarantees f b j e g arguments callee (item_is j s at ∙ ap (λ x. Some (Does x)) what) there,
      )))
      (here (slice_get block.steps i) refl)
    where
      here : (o : Option Step) → slice_get block.steps i ≡ o → FactsLack d (stated (step_shows o))
      here None at = shows_lack d [] (λ n. none_within (Needs d n.0) n.1)
      here (Some s) at = shows_lack d s.shows (steady.shows i s (omega arith) at)

pub known_is_stable : KnownIsStable
known_is_stable prog stable names f b i d function block is mine = known_lacks prog stable names f b i d function block is mine
