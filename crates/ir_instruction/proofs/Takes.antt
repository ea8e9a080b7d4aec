-- A line that is read is the spelling of what is read.
use Rattle.std.proofs.Common.{◌≡◌, ℕ, zero, suc, ◌*◌, ◌/◌, ◌%◌, ◌<◌, ◌⊎◌, inl, inr, List, [], ◌∷◌, ◌++◌, length, Bool, true, false, cond, eqb, Option, Some, None, refl, sym, subst, ap, ◌∙◌, append_assoc, arith}
use Rattle.std.specs.Prelude.{codes, pos, negsuc, nat_lt, ◌&&◌, option_map}
use Rattle.std.specs.List.{list_all}
use Rattle.std.specs.Str.{bytes_eq}
use Rattle.std.proofs.lemmas.Bool.{eqb-true, ltb-true, lt-ltb, and_parts}
use Rattle.std.proofs.lemmas.Slice.Eq.{bytes_eq-Decides}
use Rattle.syntax.specs.declared.instruction.Operand.{Operand}
use Rattle.syntax.specs.declared.instruction.Operand.TheVariants as operands
use Rattle.syntax.specs.declared.instruction.Address.{Address}
use Rattle.syntax.specs.declared.instruction.Address.TheVariants as addresses
use Rattle.syntax.specs.declared.instruction.Argument.{Argument}
use Rattle.syntax.specs.declared.instruction.Argument.TheVariants as argument
use Rattle.syntax.specs.declared.instruction.PhiEntry.{PhiEntry}
use Rattle.syntax.specs.declared.module.Parameter.{Parameter}
use Rattle.syntax.specs.declared.module.Parameter.TheVariants as parameter
use Rattle.syntax.specs.declared.module.ResultType.{ResultType}
use Rattle.syntax.specs.declared.module.ResultType.TheVariants as results
use Rattle.syntax.specs.declared.operator.Predicate.{Predicate}
use Rattle.syntax.specs.declared.operator.Predicate.TheVariants.{Equal, NotEqual, UnsignedGreater, UnsignedAtLeast, UnsignedLess, UnsignedAtMost, SignedGreater, SignedAtLeast, SignedLess, SignedAtMost}
use Rattle.syntax.specs.declared.operator.Width.{Width}
use Rattle.syntax.specs.declared.operator.Width.TheVariants.{Bits64, Bits32}
use Rattle.ir_instruction.specs.declared.symbol.Numeral.{Numeral}
use Rattle.ir_instruction.specs.declared.symbol.Numeral.TheVariants.{Small, Large}
use Rattle.ir_instruction.specs.declared.symbol.Symbol.{Symbol}
use Rattle.ir_instruction.specs.declared.symbol.Symbol.TheVariants.{Register, Global, Number, Word, Mark}
use Rattle.ir_instruction.specs.declared.switch.SpelledCase.{SpelledCase}
use Rattle.ir_instruction.specs.Outcome.{◌>>=◌}
use Rattle.ir_instruction.specs.Symbols.{is_within_limits}
use Rattle.ir_instruction.specs.Numerals.{count_of, cells_of_bytes}
use Rattle.ir_instruction.specs.Fronts.{mark_at, word_at, named_at, end_at, is_word, is_mark, behind, register_at, global_at, label_at, numeral_at, operand_at, address_at, pointer_at, count_at, array_at, bytes_at, width_at, result_type_at}
use Rattle.ir_instruction.specs.Operators.{predicate_of, predicate_at}
use Rattle.ir_instruction.specs.Lists.{list_at, more_at, comma_at, case_follows, pointer_parameter_at, number_parameter_at, parameter_at, pointer_argument_at, number_argument_at, argument_at, entry_at, case_at, all_at, all_cases_at}
use Rattle.ir_instruction.specs.Shape.{Gap, register, function, label, operand, pointer, array, width, result_type, predicate, parameters, arguments, cases, entries, Piece, word, mark, named, gap, space, Held, Gaps, gap_at, gaps_of}
use Rattle.ir_instruction.specs.Spelling.{Atom, Token, symbols_in, operand_symbol, address_symbol, width_word, result_word, predicate_word, array_atoms, parameter_atoms, argument_atoms, entry_atoms, case_atoms, parted, cases_atoms, gap_atoms, atoms_of}
use Rattle.ir_instruction.specs.Fits.{has_cells, is_some_list, fits, gaps_fit}
use Rattle.ir_instruction.proofs.Again.{symbols_appended, others, some_parted}

-- steps that did not fail

pub bind_some : {A B : Type 0} (r : Option A) (f : A → Option B) (y : B) → (r >>= f) ≡ Some y → (x : A) × (r ≡ Some x) × (f x ≡ Some y)
bind_some (Some x) f y e = (x, refl, e)
bind_some None f y e = absurd cc

pub map_some : {A B : Type 0} (f : A → B) (r : Option A) (y : B) → option_map f r ≡ Some y → (x : A) × (r ≡ Some x) × (f x ≡ y)
map_some f (Some x) y e = (x, refl, cc)
map_some f None y e = absurd cc

pub tested : {A : Type 0} (b : Bool) (x y : A) → cond b (Some x) None ≡ Some y → (b ≡ true) × (x ≡ y)
tested true x y e = (refl, cc)
tested false x y e = absurd cc

pub chosen : {A : Type 0} (b : Bool) (x y z : A) → cond b x y ≡ z → ((b ≡ true) × (x ≡ z)) ⊎ ((b ≡ false) × (y ≡ z))
chosen true x y z e = inl (refl, e)
chosen false x y z e = inr (refl, e)

pub some_is : {A : Type 0} (x y : A) → Some x ≡ Some y → x ≡ y
some_is x y e = cc

pub same_bytes : (a b : List ℕ) → bytes_eq a b ≡ true → a ≡ b
same_bytes a b h = (bytes_eq-Decides a b).0 h

-- no number is outside i64

abbrev pub are_within : List Symbol → Type 0
are_within line = list_all is_within_limits line ≡ true

pub rest_within : (xs ys : List Symbol) → are_within (xs ++ ys) → are_within ys
rest_within [] ys h = h
rest_within (x ∷ xs) ys h = rest_within xs ys (and_parts (is_within_limits x) (list_all is_within_limits (xs ++ ys)) h).1

-- the rest of a line that begins with these symbols
pub behind_within : (line xs ys : List Symbol) → are_within line → line ≡ xs ++ ys → are_within ys
behind_within line xs ys h e = rest_within xs ys (subst are_within e h)

-- one symbol

pub word_takes : (text : List ℕ) (line rest : List Symbol) → word_at text line ≡ Some rest → line ≡ Word text ∷ rest
word_takes text (Word found ∷ more) rest h =
    let t = tested (bytes_eq found text) more rest h in
    let same : found ≡ text = same_bytes found text t.0 in
    let tail : more ≡ rest = t.1 in
    cc
word_takes text _ rest h = absurd cc

pub mark_takes : (byte : ℕ) (line rest : List Symbol) → mark_at byte line ≡ Some rest → line ≡ Mark byte ∷ rest
mark_takes byte (Mark found ∷ more) rest h =
    let t = tested (eqb found byte) more rest h in
    let same : found ≡ byte = eqb-true found byte t.0 in
    let tail : more ≡ rest = t.1 in
    cc
mark_takes byte _ rest h = absurd cc

named_takes : (text : List ℕ) (line rest : List Symbol) → named_at text line ≡ Some rest → line ≡ Global text ∷ rest
named_takes text (Global found ∷ more) rest h =
    let t = tested (bytes_eq found text) more rest h in
    let same : found ≡ text = same_bytes found text t.0 in
    let tail : more ≡ rest = t.1 in
    cc
named_takes text _ rest h = absurd cc

end_takes : (line : List Symbol) (x : Unit {0}) → end_at line ≡ Some x → line ≡ []
end_takes [] x h = refl
end_takes (s ∷ line) x h = absurd cc

register_takes : (line : List Symbol) (x : List ℕ × List Symbol) → register_at line ≡ Some x → line ≡ Register x.0 ∷ x.1
register_takes (Register name ∷ more) x h = ap (λ (y : List ℕ × List Symbol). Register y.0 ∷ y.1) (some_is (name, more) x h)
register_takes _ x h = absurd cc

global_takes : (line : List Symbol) (x : List ℕ × List Symbol) → global_at line ≡ Some x → line ≡ Global x.0 ∷ x.1
global_takes (Global name ∷ more) x h = ap (λ (y : List ℕ × List Symbol). Global y.0 ∷ y.1) (some_is (name, more) x h)
global_takes _ x h = absurd cc

numeral_takes : (line : List Symbol) (x : Numeral × List Symbol) → numeral_at line ≡ Some x → line ≡ Number x.0 ∷ x.1
numeral_takes (Number n ∷ more) x h = ap (λ (y : Numeral × List Symbol). Number y.0 ∷ y.1) (some_is (n, more) x h)
numeral_takes _ x h = absurd cc

operand_takes : (line : List Symbol) (x : Operand × List Symbol) → are_within line → operand_at line ≡ Some x → line ≡ operand_symbol x.0 ∷ x.1
operand_takes (Register name ∷ more) x w h = ap (λ (y : Operand × List Symbol). operand_symbol y.0 ∷ y.1) (some_is (operands.Register name, more) x h)
operand_takes (Number (Small n) ∷ more) x w h = ap (λ (y : Operand × List Symbol). operand_symbol y.0 ∷ y.1) (some_is (operands.Number n, more) x h)
operand_takes (Number (Large digits) ∷ more) x w h = absurd cc
operand_takes _ x w h = absurd cc

address_takes : (line : List Symbol) (x : Address × List Symbol) → address_at line ≡ Some x → line ≡ address_symbol x.0 ∷ x.1
address_takes (Register name ∷ more) x h = ap (λ (y : Address × List Symbol). address_symbol y.0 ∷ y.1) (some_is (addresses.Register name, more) x h)
address_takes (Global name ∷ more) x h = ap (λ (y : Address × List Symbol). address_symbol y.0 ∷ y.1) (some_is (addresses.Global name, more) x h)
address_takes _ x h = absurd cc

-- several symbols

pub label_takes : (line : List Symbol) (x : List ℕ × List Symbol) → label_at line ≡ Some x → line ≡ Word (codes "label") ∷ Register x.0 ∷ x.1
label_takes line x h =
    let b = bind_some (word_at (codes "label") line) register_at x h in
    word_takes (codes "label") line b.0 b.1 ∙ ap (λ (t : List Symbol). Word (codes "label") ∷ t) (register_takes b.0 x b.2)

pub pointer_takes : (line : List Symbol) (x : Address × List Symbol) → pointer_at line ≡ Some x → line ≡ Word (codes "ptr") ∷ address_symbol x.0 ∷ x.1
pointer_takes line x h =
    let b = bind_some (word_at (codes "ptr") line) address_at x h in
    word_takes (codes "ptr") line b.0 b.1 ∙ ap (λ (t : List Symbol). Word (codes "ptr") ∷ t) (address_takes b.0 x b.2)

count_is : (n : Numeral) (k : ℕ) → is_within_limits (Number n) ≡ true → count_of n ≡ Some k → (n ≡ Small (pos k)) × (nat_lt 0 k ≡ true)
count_is (Small (pos m)) k w h =
    let t = tested (nat_lt 0 m) m k h in
    (ap (λ (j : ℕ). Small (pos j)) t.1, ap (nat_lt 0) (sym t.1) ∙ t.0)
count_is (Small (negsuc m)) k w h = absurd cc
count_is (Large digits) k w h = absurd cc

count_takes : (line : List Symbol) (x : ℕ × List Symbol) → are_within line → count_at line ≡ Some x → (line ≡ Number (Small (pos x.0)) ∷ x.1) × (nat_lt 0 x.0 ≡ true)
count_takes (Number n ∷ more) x w h =
    let m = map_some (λ (count : ℕ). (count, more)) (count_of n) x h in
    let c = count_is n m.0 (and_parts (is_within_limits (Number n)) (list_all is_within_limits more) w).0 m.1 in
    (ap (λ (k : Numeral). Number k ∷ more) c.0 ∙ ap (λ (y : ℕ × List Symbol). Number (Small (pos y.0)) ∷ y.1) m.2, ap (λ (y : ℕ × List Symbol). nat_lt 0 y.0) (sym m.2) ∙ c.1)
count_takes _ x w h = absurd cc

cells_are : (n : Numeral) (k : ℕ) → is_within_limits (Number n) ≡ true → cells_of_bytes n ≡ Some k → (n ≡ Small (pos (8 * k))) × (0 < k)
cells_are (Small (pos m)) k w h =
    let t = tested (nat_lt 0 m && eqb (m % 8) 0) (m / 8) k h in
    let u = and_parts (nat_lt 0 m) (eqb (m % 8) 0) t.0 in
    let some : 0 < m = ltb-true 0 m u.0 in
    let whole : m % 8 ≡ 0 = eqb-true (m % 8) 0 u.1 in
    let eighth : m / 8 ≡ k = t.1 in
    let back : m ≡ 8 * k = omega arith in
    (ap (λ (j : ℕ). Small (pos j)) back, omega arith)
cells_are (Small (negsuc m)) k w h = absurd cc
cells_are (Large digits) k w h = absurd cc

bytes_takes : (line : List Symbol) (x : ℕ × List Symbol) → are_within line → bytes_at line ≡ Some x → (line ≡ Number (Small (pos (8 * x.0))) ∷ x.1) × (0 < x.0)
bytes_takes (Number n ∷ more) x w h =
    let m = map_some (λ (cells : ℕ). (cells, more)) (cells_of_bytes n) x h in
    let c = cells_are n m.0 (and_parts (is_within_limits (Number n)) (list_all is_within_limits more) w).0 m.1 in
    (ap (λ (k : Numeral). Number k ∷ more) c.0 ∙ ap (λ (y : ℕ × List Symbol). Number (Small (pos (8 * y.0))) ∷ y.1) m.2, subst (λ (y : ℕ × List Symbol). 0 < y.0) m.2 c.1)
bytes_takes _ x w h = absurd cc

array_takes : (line : List Symbol) (x : ℕ × List Symbol) → are_within line → array_at line ≡ Some x → (line ≡ symbols_in (array_atoms x.0) ++ x.1) × (nat_lt 0 x.0 ≡ true)
array_takes line x w h =
    let p = bind_some (mark_at 91 line >>= count_at) (λ count. word_at (codes "x") count.1 >>= word_at (codes "i64") >>= mark_at 93 >>= λ rest. Some (count.0, rest)) x h in
    let q = bind_some (mark_at 91 line) count_at p.0 p.1 in
    let r = bind_some (word_at (codes "x") p.0.1 >>= word_at (codes "i64") >>= mark_at 93) (λ rest. Some (p.0.0, rest)) x p.2 in
    let s = bind_some (word_at (codes "x") p.0.1 >>= word_at (codes "i64")) (mark_at 93) r.0 r.1 in
    let t = bind_some (word_at (codes "x") p.0.1) (word_at (codes "i64")) s.0 s.1 in
    let e1 = mark_takes 91 line q.0 q.1 in
    let e2 = count_takes q.0 p.0 (behind_within line (Mark 91 ∷ []) q.0 w e1) q.2 in
    let e3 = word_takes (codes "x") p.0.1 t.0 t.1 in
    let e4 = word_takes (codes "i64") t.0 s.0 t.2 in
    let e5 = mark_takes 93 s.0 r.0 s.2 in
    let e6 = some_is (p.0.0, r.0) x r.2 in
    let n : p.0.0 ≡ x.0 = ap (λ (y : ℕ × List Symbol). y.0) e6 in (
      e1 ∙ ap (λ (l : List Symbol). Mark 91 ∷ l) (e2.0 ∙ ap (λ (l : List Symbol). Number (Small (pos p.0.0)) ∷ l) (e3 ∙ ap (λ (l : List Symbol). Word (codes "x") ∷ l) (e4 ∙ ap (λ (l : List Symbol). Word (codes "i64") ∷ l) e5)))
          ∙ ap (λ (y : ℕ × List Symbol). symbols_in (array_atoms y.0) ++ y.1) e6,
      ap (nat_lt 0) (sym n) ∙ e2.1,
    )

pub word_is : (text : List ℕ) (line : List Symbol) → is_word text line ≡ true → line ≡ Word text ∷ behind line
word_is text (Word found ∷ rest) h = ap (λ (t : List ℕ). Word t ∷ rest) (same_bytes found text h)
word_is text _ h = absurd cc

pub mark_is : (byte : ℕ) (line : List Symbol) → is_mark byte line ≡ true → line ≡ Mark byte ∷ behind line
mark_is byte (Mark found ∷ rest) h = ap (λ (b : ℕ). Mark b ∷ rest) (eqb-true found byte h)
mark_is byte _ h = absurd cc

width_takes : (line : List Symbol) (x : Width × List Symbol) → width_at line ≡ Some x → line ≡ Word (width_word x.0) ∷ x.1
width_takes line x h =
    let narrow : Option (Width × List Symbol) = cond (is_word (codes "i32") line) (Some (Bits32, behind line)) None in
    elim (chosen (is_word (codes "i64") line) (Some (Bits64, behind line)) narrow (Some x) h) [
      | inl v ↦ word_is (codes "i64") line v.0 ∙ ap (λ (y : Width × List Symbol). Word (width_word y.0) ∷ y.1) (some_is (Bits64, behind line) x v.1)
      | inr v ↦
          let t = tested (is_word (codes "i32") line) (Bits32, behind line) x v.1 in
          word_is (codes "i32") line t.0 ∙ ap (λ (y : Width × List Symbol). Word (width_word y.0) ∷ y.1) t.1
    ]

result_takes : (line : List Symbol) (x : ResultType × List Symbol) → result_type_at line ≡ Some x → line ≡ Word (result_word x.0) ∷ x.1
result_takes line x h =
    let other : Option (ResultType × List Symbol) = cond (is_word (codes "void") line) (Some (results.Void, behind line)) None in
    elim (chosen (is_word (codes "i64") line) (Some (results.Number, behind line)) other (Some x) h) [
      | inl v ↦ word_is (codes "i64") line v.0 ∙ ap (λ (y : ResultType × List Symbol). Word (result_word y.0) ∷ y.1) (some_is (results.Number, behind line) x v.1)
      | inr v ↦
          let t = tested (is_word (codes "void") line) (results.Void, behind line) x v.1 in
          word_is (codes "void") line t.0 ∙ ap (λ (y : ResultType × List Symbol). Word (result_word y.0) ∷ y.1) t.1
    ]

pub pick : {A : Type 0} (b : Bool) (a : A) (rest : Option A) (p : A) → cond b (Some a) rest ≡ Some p → ((b ≡ true) × (a ≡ p)) ⊎ (rest ≡ Some p)
pick true a rest p h = inl (refl, cc)
pick false a rest p h = inr h

predicate_is : (w : List ℕ) (p : Predicate) → predicate_of w ≡ Some p → w ≡ predicate_word p
unfolding predicate_of
predicate_is w p h = elim (pick (bytes_eq w (codes "eq")) Equal _ p h) [
  | inl t ↦ same_bytes w (codes "eq") t.0 ∙ ap predicate_word t.1
  | inr h ↦ elim (pick (bytes_eq w (codes "ne")) NotEqual _ p h) [
    | inl t ↦ same_bytes w (codes "ne") t.0 ∙ ap predicate_word t.1
    | inr h ↦ elim (pick (bytes_eq w (codes "ugt")) UnsignedGreater _ p h) [
      | inl t ↦ same_bytes w (codes "ugt") t.0 ∙ ap predicate_word t.1
      | inr h ↦ elim (pick (bytes_eq w (codes "uge")) UnsignedAtLeast _ p h) [
        | inl t ↦ same_bytes w (codes "uge") t.0 ∙ ap predicate_word t.1
        | inr h ↦ elim (pick (bytes_eq w (codes "ult")) UnsignedLess _ p h) [
          | inl t ↦ same_bytes w (codes "ult") t.0 ∙ ap predicate_word t.1
          | inr h ↦ elim (pick (bytes_eq w (codes "ule")) UnsignedAtMost _ p h) [
            | inl t ↦ same_bytes w (codes "ule") t.0 ∙ ap predicate_word t.1
            | inr h ↦ elim (pick (bytes_eq w (codes "sgt")) SignedGreater _ p h) [
              | inl t ↦ same_bytes w (codes "sgt") t.0 ∙ ap predicate_word t.1
              | inr h ↦ elim (pick (bytes_eq w (codes "sge")) SignedAtLeast _ p h) [
                | inl t ↦ same_bytes w (codes "sge") t.0 ∙ ap predicate_word t.1
                | inr h ↦ elim (pick (bytes_eq w (codes "slt")) SignedLess _ p h) [
                  | inl t ↦ same_bytes w (codes "slt") t.0 ∙ ap predicate_word t.1
                  | inr h ↦
                      let t = tested (bytes_eq w (codes "sle")) SignedAtMost p h in
                      same_bytes w (codes "sle") t.0 ∙ ap predicate_word t.1
                ]
              ]
            ]
          ]
        ]
      ]
    ]
  ]
]

predicate_takes : (line : List Symbol) (x : Predicate × List Symbol) → predicate_at line ≡ Some x → line ≡ Word (predicate_word x.0) ∷ x.1
predicate_takes (Word w ∷ more) x h =
    let m = map_some (λ (p : Predicate). (p, more)) (predicate_of w) x h in
    ap (λ (t : List ℕ). Word t ∷ more) (predicate_is w m.0 m.1) ∙ ap (λ (y : Predicate × List Symbol). Word (predicate_word y.0) ∷ y.1) m.2
predicate_takes _ x h = absurd cc

-- elements of lists

abbrev pub Takes : {A : Type 0} → (A → Bool) → (A → List Symbol) → List Symbol → A × List Symbol → Type 0
Takes ok f line x = (line ≡ f x.0 ++ x.1) × (ok x.0 ≡ true)

pointer_parameter_takes : (line : List Symbol) (x : Parameter × List Symbol) → are_within line → pointer_parameter_at line ≡ Some x → Takes has_cells (λ p. symbols_in (parameter_atoms p)) line x
pointer_parameter_takes line x w h =
    let front : Option (List Symbol) = word_at (codes "ptr") line >>= word_at (codes "noalias") >>= word_at (codes "dereferenceable") >>= mark_at 40 in
    let p = bind_some (front >>= bytes_at) (λ cells. mark_at 41 cells.1 >>= register_at >>= λ name. Some (parameter.Pointer name.0 cells.0, name.1)) x h in
    let q = bind_some front bytes_at p.0 p.1 in
    let r = bind_some (word_at (codes "ptr") line >>= word_at (codes "noalias") >>= word_at (codes "dereferenceable")) (mark_at 40) q.0 q.1 in
    let s = bind_some (word_at (codes "ptr") line >>= word_at (codes "noalias")) (word_at (codes "dereferenceable")) r.0 r.1 in
    let t = bind_some (word_at (codes "ptr") line) (word_at (codes "noalias")) s.0 s.1 in
    let u = bind_some (mark_at 41 p.0.1 >>= register_at) (λ name. Some (parameter.Pointer name.0 p.0.0, name.1)) x p.2 in
    let v = bind_some (mark_at 41 p.0.1) register_at u.0 u.1 in
    let e1 = word_takes (codes "ptr") line t.0 t.1 in
    let e2 = word_takes (codes "noalias") t.0 s.0 t.2 in
    let e3 = word_takes (codes "dereferenceable") s.0 r.0 s.2 in
    let e4 = mark_takes 40 r.0 q.0 r.2 in
    let before : line ≡ Word (codes "ptr") ∷ Word (codes "noalias") ∷ Word (codes "dereferenceable") ∷ Mark 40 ∷ q.0 = cc in
    let e5 = bytes_takes q.0 p.0 (behind_within line (Word (codes "ptr") ∷ Word (codes "noalias") ∷ Word (codes "dereferenceable") ∷ Mark 40 ∷ []) q.0 w before) q.2 in
    let e6 = mark_takes 41 p.0.1 v.0 v.1 in
    let e7 = register_takes v.0 u.0 v.2 in
    let e8 = some_is (parameter.Pointer u.0.0 p.0.0, u.0.1) x u.2 in
    let tail : p.0.1 ≡ Mark 41 ∷ Register u.0.0 ∷ u.0.1 = cc in
    let number : q.0 ≡ Number (Small (pos (8 * p.0.0))) ∷ p.0.1 = e5.0 in (
      before ∙ ap (λ (l : List Symbol). Word (codes "ptr") ∷ Word (codes "noalias") ∷ Word (codes "dereferenceable") ∷ Mark 40 ∷ l) (number ∙ ap (λ (l : List Symbol). Number (Small (pos (8 * p.0.0))) ∷ l) tail)
          ∙ ap (λ (y : Parameter × List Symbol). symbols_in (parameter_atoms y.0) ++ y.1) e8,
      ap (λ (y : Parameter × List Symbol). has_cells y.0) (sym e8) ∙ lt-ltb 0 p.0.0 e5.1,
    )

number_parameter_takes : (line : List Symbol) (x : Parameter × List Symbol) → number_parameter_at line ≡ Some x → Takes has_cells (λ p. symbols_in (parameter_atoms p)) line x
number_parameter_takes line x h =
    let u = bind_some (word_at (codes "i64") line >>= register_at) (λ name. Some (parameter.Number name.0, name.1)) x h in
    let v = bind_some (word_at (codes "i64") line) register_at u.0 u.1 in
    let e1 = word_takes (codes "i64") line v.0 v.1 in
    let e2 = register_takes v.0 u.0 v.2 in
    let e3 = some_is (parameter.Number u.0.0, u.0.1) x u.2 in (
      e1 ∙ ap (λ (l : List Symbol). Word (codes "i64") ∷ l) e2 ∙ ap (λ (y : Parameter × List Symbol). symbols_in (parameter_atoms y.0) ++ y.1) e3,
      ap (λ (y : Parameter × List Symbol). has_cells y.0) (sym e3),
    )

parameter_takes : (line : List Symbol) (x : Parameter × List Symbol) → are_within line → parameter_at line ≡ Some x → Takes has_cells (λ p. symbols_in (parameter_atoms p)) line x
parameter_takes line x w h = elim (chosen (is_word (codes "ptr") line) (pointer_parameter_at line) (number_parameter_at line) (Some x) h) [
  | inl v ↦ pointer_parameter_takes line x w v.1
  | inr v ↦ number_parameter_takes line x v.1
]

abbrev any : {A : Type 0} → A → Bool
any x = true

argument_takes : (line : List Symbol) (x : Argument × List Symbol) → are_within line → argument_at line ≡ Some x → Takes any (λ a. symbols_in (argument_atoms a)) line x
argument_takes line x w h = elim (chosen (is_word (codes "ptr") line) (pointer_argument_at line) (number_argument_at line) (Some x) h) [
  | inl v ↦
      let b = bind_some (pointer_at line) (λ found. Some (argument.Pointer found.0, found.1)) x v.1 in
      (pointer_takes line b.0 b.1 ∙ ap (λ (y : Argument × List Symbol). symbols_in (argument_atoms y.0) ++ y.1) (some_is (argument.Pointer b.0.0, b.0.1) x b.2), refl)
  | inr v ↦
      let b = bind_some (word_at (codes "i64") line >>= operand_at) (λ found. Some (argument.Number found.0, found.1)) x v.1 in
      let c = bind_some (word_at (codes "i64") line) operand_at b.0 b.1 in
      let e1 = word_takes (codes "i64") line c.0 c.1 in
      let e2 = operand_takes c.0 b.0 (behind_within line (Word (codes "i64") ∷ []) c.0 w e1) c.2 in
      (e1 ∙ ap (λ (l : List Symbol). Word (codes "i64") ∷ l) e2 ∙ ap (λ (y : Argument × List Symbol). symbols_in (argument_atoms y.0) ++ y.1) (some_is (argument.Number b.0.0, b.0.1) x b.2), refl)
]

entry_takes : (line : List Symbol) (x : PhiEntry × List Symbol) → are_within line → entry_at line ≡ Some x → Takes any (λ e. symbols_in (entry_atoms e)) line x
entry_takes line x w h =
    let p = bind_some (mark_at 91 line >>= operand_at) (λ found. mark_at 44 found.1 >>= register_at >>= λ name. mark_at 93 name.1 >>= λ rest. Some (record { value = found.0; predecessor = name.0 }, rest)) x h in
    let q = bind_some (mark_at 91 line) operand_at p.0 p.1 in
    let r = bind_some (mark_at 44 p.0.1 >>= register_at) (λ name. mark_at 93 name.1 >>= λ rest. Some (record { value = p.0.0; predecessor = name.0 }, rest)) x p.2 in
    let s = bind_some (mark_at 44 p.0.1) register_at r.0 r.1 in
    let t = bind_some (mark_at 93 r.0.1) (λ rest. Some (record { value = p.0.0; predecessor = r.0.0 }, rest)) x r.2 in
    let e1 = mark_takes 91 line q.0 q.1 in
    let e2 = operand_takes q.0 p.0 (behind_within line (Mark 91 ∷ []) q.0 w e1) q.2 in
    let e3 = mark_takes 44 p.0.1 s.0 s.1 in
    let e4 = register_takes s.0 r.0 s.2 in
    let e5 = mark_takes 93 r.0.1 t.0 t.1 in
    let entry : PhiEntry = record { value = p.0.0; predecessor = r.0.0 } in (
      e1 ∙ ap (λ (l : List Symbol). Mark 91 ∷ l) (e2 ∙ ap (λ (l : List Symbol). operand_symbol p.0.0 ∷ l) (e3 ∙ ap (λ (l : List Symbol). Mark 44 ∷ l) (e4 ∙ ap (λ (l : List Symbol). Register r.0.0 ∷ l) e5)))
          ∙ ap (λ (y : PhiEntry × List Symbol). symbols_in (entry_atoms y.0) ++ y.1) (some_is (entry, t.0) x t.2),
      refl,
    )

case_takes : (line : List Symbol) (x : SpelledCase × List Symbol) → case_at line ≡ Some x → line ≡ symbols_in (case_atoms x.0) ++ x.1
case_takes line x h =
    let p = bind_some (width_at line) (λ w. numeral_at w.1 >>= λ number. mark_at 44 number.1 >>= label_at >>= λ target. Some (record { width = w.0; number = number.0; target = target.0 }, target.1)) x h in
    let q = bind_some (numeral_at p.0.1) (λ number. mark_at 44 number.1 >>= label_at >>= λ target. Some (record { width = p.0.0; number = number.0; target = target.0 }, target.1)) x p.2 in
    let r = bind_some (mark_at 44 q.0.1 >>= label_at) (λ target. Some (record { width = p.0.0; number = q.0.0; target = target.0 }, target.1)) x q.2 in
    let s = bind_some (mark_at 44 q.0.1) label_at r.0 r.1 in
    let e1 = width_takes line p.0 p.1 in
    let e2 = numeral_takes p.0.1 q.0 q.1 in
    let e3 = mark_takes 44 q.0.1 s.0 s.1 in
    let e4 = label_takes s.0 r.0 s.2 in
    let c : SpelledCase = record { width = p.0.0; number = q.0.0; target = r.0.0 } in
    e1 ∙ ap (λ (l : List Symbol). Word (width_word p.0.0) ∷ l) (e2 ∙ ap (λ (l : List Symbol). Number q.0.0 ∷ l) (e3 ∙ ap (λ (l : List Symbol). Mark 44 ∷ l) e4))
    ∙ ap (λ (y : SpelledCase × List Symbol). symbols_in (case_atoms y.0) ++ y.1) (some_is (c, r.0.1) x r.2)

-- lists parted by commas

pub record IsListed {A : Type 0} (ok : A → Bool) (f : A → List Symbol) (line : List Symbol) (found : List A × List Symbol) : Type 0 where
  pub first : A
  pub more : List A
  pub is : found.0 ≡ first ∷ more
  pub spelled : line ≡ f first ++ (others f more ++ found.1)
  pub good : list_all ok (first ∷ more) ≡ true

comma_takes : (line rest : List Symbol) → comma_at line ≡ Some rest → line ≡ Mark 44 ∷ rest
comma_takes line rest h =
    let t = tested (is_mark 44 line) (behind line) rest h in
    mark_is 44 line t.0 ∙ ap (λ (l : List Symbol). Mark 44 ∷ l) t.1

more_takes : {A : Type 0} (at : List Symbol → Option (A × List Symbol)) (ok : A → Bool) (f : A → List Symbol) (most : ℕ) (first : A × List Symbol) (next : Option (List Symbol)) (found : List A × List Symbol)
    → are_within first.1 → ok first.0 ≡ true → comma_at first.1 ≡ next
    → ((rest : List Symbol) (g : List A × List Symbol) → are_within rest → list_at at comma_at most rest ≡ Some g → IsListed ok f rest g)
    → more_at first (list_at at comma_at most) next ≡ Some found → IsListed ok f (f first.0 ++ first.1) found
more_takes {A} at ok f most first None found w good follows later h =
    let e = some_is (first.0 ∷ [], first.1) found h in
    record {
      first = first.0;
      more = [];
      is = ap (λ (y : List A × List Symbol). y.0) (sym e);
      spelled = ap (λ (y : List A × List Symbol). f first.0 ++ y.1) e;
      good = rw good refl;
    }
more_takes {A} at ok f most first (Some rest) found w good follows later h =
    let b = bind_some (list_at at comma_at most rest) (λ g. Some (first.0 ∷ g.0, g.1)) found h in
    let comma = comma_takes first.1 rest follows in
    let l = later rest b.0 (behind_within first.1 (Mark 44 ∷ []) rest w comma) b.1 in
    let e = some_is (first.0 ∷ b.0.0, b.0.1) found b.2 in
    record {
      first = first.0;
      more = l.first ∷ l.more;
      is = ap (λ (y : List A × List Symbol). y.0) (sym e) ∙ ap (λ (ys : List A). first.0 ∷ ys) l.is;
      spelled =
          ap (λ (t : List Symbol). f first.0 ++ t) (comma ∙ ap (λ (t : List Symbol). Mark 44 ∷ t) (l.spelled ∙ sym (append_assoc (f l.first) (others f l.more) b.0.1)))
          ∙ ap (λ (y : List A × List Symbol). f first.0 ++ ((Mark 44 ∷ (f l.first ++ others f l.more)) ++ y.1)) e;
      good = rw (good, l.good) refl;
    }

list_takes : {A : Type 0} (at : List Symbol → Option (A × List Symbol)) (ok : A → Bool) (f : A → List Symbol)
    → ((line : List Symbol) (x : A × List Symbol) → are_within line → at line ≡ Some x → Takes ok f line x)
    → (most : ℕ) (line : List Symbol) (found : List A × List Symbol) → are_within line → list_at at comma_at most line ≡ Some found → IsListed ok f line found
unfolding list_at
list_takes at ok f takes zero line found w h = absurd cc
list_takes {A} at ok f takes (suc most) line found w h =
    let b = bind_some (at line) (λ first. more_at first (list_at at comma_at most) (comma_at first.1)) found h in
    let t = takes line b.0 w b.1 in
    let within : are_within b.0.1 = behind_within line (f b.0.0) b.0.1 w t.0 in
    subst (λ (l : List Symbol). IsListed ok f l found) (sym t.0) (more_takes at ok f most b.0 (comma_at b.0.1) found within t.1 refl (list_takes at ok f takes most) b.2)

listed_symbols : {A : Type 0} (ok : A → Bool) (f : A → List Atom) (line : List Symbol) (found : List A × List Symbol) → IsListed ok (λ x. symbols_in (f x)) line found → line ≡ symbols_in (parted f found.0) ++ found.1
listed_symbols {A} ok f line found l = l.spelled ∙ sym (some_parted f l.first l.more found.1) ∙ ap (λ (ys : List A). symbols_in (parted f ys) ++ found.1) (sym l.is)

listed_good : {A : Type 0} (ok : A → Bool) (f : A → List Symbol) (line : List Symbol) (found : List A × List Symbol) → IsListed ok f line found → list_all ok found.0 ≡ true
listed_good {A} ok f line found l = ap (λ (ys : List A). list_all ok ys) l.is ∙ l.good

all_takes : {A : Type 0} (at : List Symbol → Option (A × List Symbol)) (ok : A → Bool) (f : A → List Atom)
    → ((line : List Symbol) (x : A × List Symbol) → are_within line → at line ≡ Some x → Takes ok (λ x. symbols_in (f x)) line x)
    → (line : List Symbol) (x : List A × List Symbol) → are_within line → all_at at line ≡ Some x
    → (line ≡ symbols_in (parted f x.0 ++ Token (Mark 41) ∷ []) ++ x.1) × (list_all ok x.0 ≡ true)
all_takes {A} at ok f takes line x w h =
    let some : Option (List A × List Symbol) = list_at at comma_at (length line) line >>= λ found. mark_at 41 found.1 >>= λ rest. Some (found.0, rest) in
    elim (chosen (is_mark 41 line) (Some ([], behind line)) some (Some x) h) [
      | inl v ↦
          let e = some_is ([], behind line) x v.1 in
          (mark_is 41 line v.0 ∙ ap (λ (y : List A × List Symbol). symbols_in (parted f y.0 ++ Token (Mark 41) ∷ []) ++ y.1) e, ap (λ (y : List A × List Symbol). list_all ok y.0) (sym e))
      | inr v ↦
          let b = bind_some (list_at at comma_at (length line) line) (λ found. mark_at 41 found.1 >>= λ rest. Some (found.0, rest)) x v.1 in
          let c = bind_some (mark_at 41 b.0.1) (λ rest. Some (b.0.0, rest)) x b.2 in
          let l = list_takes at ok (λ x. symbols_in (f x)) takes (length line) line b.0 w b.1 in
          let e = some_is (b.0.0, c.0) x c.2 in
          let whole : line ≡ symbols_in (parted f b.0.0) ++ (Mark 41 ∷ c.0) = listed_symbols ok f line b.0 l ∙ ap (λ (t : List Symbol). symbols_in (parted f b.0.0) ++ t) (mark_takes 41 b.0.1 c.0 c.1) in
          let closed : symbols_in (parted f b.0.0 ++ Token (Mark 41) ∷ []) ++ c.0 ≡ symbols_in (parted f b.0.0) ++ (Mark 41 ∷ c.0) =
          ap (λ (t : List Symbol). t ++ c.0) (symbols_appended (parted f b.0.0) (Token (Mark 41) ∷ [])) ∙ append_assoc (symbols_in (parted f b.0.0)) (Mark 41 ∷ []) c.0 in (
            whole ∙ sym closed ∙ ap (λ (y : List A × List Symbol). symbols_in (parted f y.0 ++ Token (Mark 41) ∷ []) ++ y.1) e,
            ap (λ (y : List A × List Symbol). list_all ok y.0) (sym e) ∙ listed_good ok (λ x. symbols_in (f x)) line b.0 l,
          )
    ]

-- cases

abbrev joined : List SpelledCase → List Symbol
joined [] = []
joined (c ∷ cs) = symbols_in (case_atoms c) ++ joined cs

cases_end : (cs : List SpelledCase) (rest : List Symbol) → symbols_in (cases_atoms cs) ++ rest ≡ joined cs ++ (Mark 93 ∷ rest)
cases_end [] rest = refl
cases_end (c ∷ cs) rest = ap (λ (t : List Symbol). symbols_in (case_atoms c) ++ t) (cases_end cs rest)

follows_is : (line rest : List Symbol) → case_follows line ≡ Some rest → line ≡ rest
follows_is line rest h = elim (chosen (is_mark 93 line) None (Some line) (Some rest) h) [ inl v ↦ absurd cc | inr v ↦ some_is line rest v.1 ]

more_cases_take : (most : ℕ) (first : SpelledCase × List Symbol) (next : Option (List Symbol)) (found : List SpelledCase × List Symbol) → case_follows first.1 ≡ next
    → ((rest : List Symbol) (g : List SpelledCase × List Symbol) → list_at case_at case_follows most rest ≡ Some g → (rest ≡ joined g.0 ++ g.1) × (is_some_list g.0 ≡ true))
    → more_at first (list_at case_at case_follows most) next ≡ Some found → (symbols_in (case_atoms first.0) ++ first.1 ≡ joined found.0 ++ found.1) × (is_some_list found.0 ≡ true)
more_cases_take most first None found follows later h =
    let e = some_is (first.0 ∷ [], first.1) found h in
    (ap (λ (y : List SpelledCase × List Symbol). joined y.0 ++ y.1) e, ap (λ (y : List SpelledCase × List Symbol). is_some_list y.0) (sym e))
more_cases_take most first (Some rest) found follows later h =
    let b = bind_some (list_at case_at case_follows most rest) (λ g. Some (first.0 ∷ g.0, g.1)) found h in
    let same : first.1 ≡ rest = follows_is first.1 rest follows in
    let l = later rest b.0 b.1 in
    let e = some_is (first.0 ∷ b.0.0, b.0.1) found b.2 in
    (ap (λ (t : List Symbol). symbols_in (case_atoms first.0) ++ t) (same ∙ l.0) ∙ ap (λ (y : List SpelledCase × List Symbol). joined y.0 ++ y.1) e, ap (λ (y : List SpelledCase × List Symbol). is_some_list y.0) (sym e))

cases_take : (most : ℕ) (line : List Symbol) (found : List SpelledCase × List Symbol) → list_at case_at case_follows most line ≡ Some found → (line ≡ joined found.0 ++ found.1) × (is_some_list found.0 ≡ true)
unfolding list_at
cases_take zero line found h = absurd cc
cases_take (suc most) line found h =
    let b = bind_some (case_at line) (λ first. more_at first (list_at case_at case_follows most) (case_follows first.1)) found h in
    let m = more_cases_take most b.0 (case_follows b.0.1) found refl (cases_take most) b.2 in
    (case_takes line b.0 b.1 ∙ m.0, m.1)

all_cases_take : (line : List Symbol) (x : List SpelledCase × List Symbol) → all_cases_at line ≡ Some x → (line ≡ symbols_in (cases_atoms x.0) ++ x.1) × (is_some_list x.0 ≡ true)
all_cases_take line x h =
    let b = bind_some (list_at case_at case_follows (length line) line) (λ found. mark_at 93 found.1 >>= λ rest. Some (found.0, rest)) x h in
    let c = bind_some (mark_at 93 b.0.1) (λ rest. Some (b.0.0, rest)) x b.2 in
    let t = cases_take (length line) line b.0 b.1 in
    let e = some_is (b.0.0, c.0) x c.2 in (
      t.0 ∙ ap (λ (l : List Symbol). joined b.0.0 ++ l) (mark_takes 93 b.0.1 c.0 c.1) ∙ sym (cases_end b.0.0 c.0) ∙ ap (λ (y : List SpelledCase × List Symbol). symbols_in (cases_atoms y.0) ++ y.1) e,
      ap (λ (y : List SpelledCase × List Symbol). is_some_list y.0) (sym e) ∙ t.1,
    )

-- a gap, and a whole shape

gap_takes : (g : Gap) (line : List Symbol) (x : Held g × List Symbol) → are_within line → gap_at g line ≡ Some x → (line ≡ symbols_in (gap_atoms g x.0) ++ x.1) × (fits g x.0 ≡ true)
gap_takes register line x w h = (register_takes line x h, refl)
gap_takes function line x w h = (global_takes line x h, refl)
gap_takes label line x w h = (label_takes line x h, refl)
gap_takes operand line x w h = (operand_takes line x w h, refl)
gap_takes pointer line x w h = (pointer_takes line x h, refl)
gap_takes array line x w h = array_takes line x w h
gap_takes width line x w h = (width_takes line x h, refl)
gap_takes result_type line x w h = (result_takes line x h, refl)
gap_takes predicate line x w h = (predicate_takes line x h, refl)
gap_takes parameters line x w h = all_takes parameter_at has_cells parameter_atoms parameter_takes line x w h
gap_takes arguments line x w h = ((all_takes argument_at any argument_atoms argument_takes line x w h).0, refl)
gap_takes cases line x w h = all_cases_take line x h
gap_takes entries line x w h =
    let l = list_takes entry_at any (λ e. symbols_in (entry_atoms e)) entry_takes (length line) line x w h in
    (listed_symbols any entry_atoms line x l, ap (λ (es : List PhiEntry). is_some_list es) l.is)

-- a line of a shape is spelled by what stands in its gaps
pub gaps_take : (shape : List Piece) (line : List Symbol) (gaps : Gaps shape) → are_within line → gaps_of shape line ≡ Some gaps → (line ≡ symbols_in (atoms_of shape gaps)) × (gaps_fit shape gaps ≡ true)
gaps_take [] line gaps w h = (end_takes line gaps h, refl)
gaps_take (word text ∷ shape) line gaps w h =
    let b = bind_some (word_at text line) (gaps_of shape) gaps h in
    let e = word_takes text line b.0 b.1 in
    let t = gaps_take shape b.0 gaps (behind_within line (Word text ∷ []) b.0 w e) b.2 in
    (e ∙ ap (λ (r : List Symbol). Word text ∷ r) t.0, t.1)
gaps_take (mark byte ∷ shape) line gaps w h =
    let b = bind_some (mark_at byte line) (gaps_of shape) gaps h in
    let e = mark_takes byte line b.0 b.1 in
    let t = gaps_take shape b.0 gaps (behind_within line (Mark byte ∷ []) b.0 w e) b.2 in
    (e ∙ ap (λ (r : List Symbol). Mark byte ∷ r) t.0, t.1)
gaps_take (named text ∷ shape) line gaps w h =
    let b = bind_some (named_at text line) (gaps_of shape) gaps h in
    let e = named_takes text line b.0 b.1 in
    let t = gaps_take shape b.0 gaps (behind_within line (Global text ∷ []) b.0 w e) b.2 in
    (e ∙ ap (λ (r : List Symbol). Global text ∷ r) t.0, t.1)
gaps_take (space ∷ shape) line gaps w h = gaps_take shape line gaps w h
gaps_take (gap g ∷ shape) line gaps w h =
    let b = bind_some (gap_at g line) (λ found. gaps_of shape found.1 >>= λ more. Some (found.0, more)) gaps h in
    let c = bind_some (gaps_of shape b.0.1) (λ more. Some (b.0.0, more)) gaps b.2 in
    let t = gap_takes g line b.0 w b.1 in
    let u = gaps_take shape b.0.1 c.0 (behind_within line (symbols_in (gap_atoms g b.0.0)) b.0.1 w t.0) c.1 in
    let e = some_is (b.0.0, c.0) gaps c.2 in (
      t.0 ∙ ap (λ (r : List Symbol). symbols_in (gap_atoms g b.0.0) ++ r) u.0 ∙ sym (symbols_appended (gap_atoms g b.0.0) (atoms_of shape c.0))
          ∙ ap (λ (y : Held g × Gaps shape). symbols_in (gap_atoms g y.0 ++ atoms_of shape y.1)) e,
      ap (λ (y : Held g × Gaps shape). fits g y.0 && gaps_fit shape y.1) (sym e) ∙ (let v : (fits g b.0.0 && gaps_fit shape c.0) ≡ true = rw (t.1, u.1) refl in v),
    )
