-- Symbols that say an instruction are its spelling.
use Rattle.std.proofs.Common.{◌≡◌, ℕ, inl, inr, List, [], ◌∷◌, ◌++◌, Bool, true, Option, Some, None, refl, sym, subst, ap, ◌∙◌}
use Rattle.std.specs.Prelude.{codes, option_map, nat_lt}
use Rattle.std.specs.Str.{bytes_eq}
use Rattle.std.proofs.lemmas.Bool.{and_parts}
use Rattle.syntax.specs.declared.instruction.Instruction.{Instruction}
use Rattle.syntax.specs.declared.operator.BinaryOperator.{BinaryOperator}
use Rattle.syntax.specs.declared.operator.BinaryOperator.TheVariants.{Add, Subtract, Multiply, AddNoWrap, SubtractNoWrap, MultiplyNoWrap, SignedDivide, UnsignedDivide, SignedRemainder, UnsignedRemainder, ShiftLeft, LogicalShiftRight, ArithmeticShiftRight, And, Or, ExclusiveOr}
use Rattle.syntax.specs.declared.operator.Conversion.TheVariants.{SignExtend, ZeroExtend}
use Rattle.ir_instruction.specs.declared.symbol.Symbol.{Symbol}
use Rattle.ir_instruction.specs.declared.symbol.Symbol.TheVariants.{Register, Word, Mark}
use Rattle.ir_instruction.specs.Outcome.{◌>>=◌}
use Rattle.ir_instruction.specs.Fronts.{is_word, behind}
use Rattle.ir_instruction.specs.Operators.{operator_of, without_wrap}
use Rattle.ir_instruction.specs.Shape.{Piece, Gaps, gaps_of}
use Rattle.ir_instruction.specs.Grammar.{binary_shape, binary_from, compare_shape, compare_from, truncate_shape, truncate_from, extend_shape, extend_from, alloca_shape, alloca_from, alloca_array_shape, alloca_array_from, element_pointer_shape, element_pointer_from, load_shape, load_from, start_region_shape, start_region_from, call_shape, call_from, binary, alloca, call, fixed, store_shape, store_from, store_zeros_shape, store_zeros_from, store}
use Rattle.ir_instruction.specs.Spelling.{Atom, Blank, symbols_in, operator_atoms, atoms_of, instruction_atoms}
use Rattle.ir_instruction.specs.Fits.{gaps_fit, instruction_fits}
use Rattle.ir_instruction.proofs.Again.{symbols_appended}
use Rattle.ir_instruction.proofs.Takes.{bind_some, map_some, chosen, pick, some_is, same_bytes, are_within, behind_within, word_is, gaps_take}

-- what stands before a line and the line are what spells y
abbrev pub Spells : {B : Type 0} → (B → List Atom) → (B → Bool) → List Symbol → B → Type 0
Spells atoms ok line y = (line ≡ symbols_in (atoms y)) × (ok y ≡ true)

-- a row of the table
pub spelled : {B : Type 0} (atoms : B → List Atom) (ok : B → Bool) (shape : List Piece) (make : Gaps shape → B) (front line : List Symbol) (y : B) → are_within line → option_map make (gaps_of shape line) ≡ Some y
    → ((g : Gaps shape) → front ++ symbols_in (atoms_of shape g) ≡ symbols_in (atoms (make g))) → ((g : Gaps shape) → gaps_fit shape g ≡ true → ok (make g) ≡ true) → Spells atoms ok (front ++ line) y
spelled {B} atoms ok shape make front line y w h same good =
    let m = map_some make (gaps_of shape line) y h in
    let t = gaps_take shape line m.0 w m.1 in
    (ap (λ (l : List Symbol). front ++ l) t.0 ∙ same m.0 ∙ ap (λ (z : B). symbols_in (atoms z)) m.2, ap (λ (z : B). ok z) (sym m.2) ∙ good m.0 t.1)

-- instructions that define a register

abbrev pub Defines : List ℕ → List ℕ → List Symbol → Instruction → Type 0
Defines d text rest i = Spells instruction_atoms instruction_fits (Register d ∷ Mark 61 ∷ Word text ∷ rest) i

-- whatever the word is, it is this one
pub by_word : (text known : List ℕ) (P : List ℕ → Type 0) → bytes_eq text known ≡ true → P known → P text
by_word text known P h p = subst P (sym (same_bytes text known h)) p

operator_is : (w : List ℕ) (op : BinaryOperator) → operator_of w ≡ Some op → Word w ∷ [] ≡ symbols_in (operator_atoms op)
unfolding operator_of
operator_is w op h =
    let found = λ (known : List ℕ) (a : BinaryOperator) (t : bytes_eq w known ≡ true) (e : a ≡ op) (s : Word known ∷ [] ≡ symbols_in (operator_atoms a)). ap (λ (v : List ℕ). Word v ∷ []) (same_bytes w known t) ∙ s ∙ ap (λ (o : BinaryOperator). symbols_in (operator_atoms o)) e in
    elim (pick (bytes_eq w (codes "add")) Add _ op h) [
      | inl t ↦ found (codes "add") Add t.0 t.1 refl
      | inr h ↦ elim (pick (bytes_eq w (codes "sub")) Subtract _ op h) [
        | inl t ↦ found (codes "sub") Subtract t.0 t.1 refl
        | inr h ↦ elim (pick (bytes_eq w (codes "mul")) Multiply _ op h) [
          | inl t ↦ found (codes "mul") Multiply t.0 t.1 refl
          | inr h ↦ elim (pick (bytes_eq w (codes "sdiv")) SignedDivide _ op h) [
            | inl t ↦ found (codes "sdiv") SignedDivide t.0 t.1 refl
            | inr h ↦ elim (pick (bytes_eq w (codes "udiv")) UnsignedDivide _ op h) [
              | inl t ↦ found (codes "udiv") UnsignedDivide t.0 t.1 refl
              | inr h ↦ elim (pick (bytes_eq w (codes "srem")) SignedRemainder _ op h) [
                | inl t ↦ found (codes "srem") SignedRemainder t.0 t.1 refl
                | inr h ↦ elim (pick (bytes_eq w (codes "urem")) UnsignedRemainder _ op h) [
                  | inl t ↦ found (codes "urem") UnsignedRemainder t.0 t.1 refl
                  | inr h ↦ elim (pick (bytes_eq w (codes "shl")) ShiftLeft _ op h) [
                    | inl t ↦ found (codes "shl") ShiftLeft t.0 t.1 refl
                    | inr h ↦ elim (pick (bytes_eq w (codes "lshr")) LogicalShiftRight _ op h) [
                      | inl t ↦ found (codes "lshr") LogicalShiftRight t.0 t.1 refl
                      | inr h ↦ elim (pick (bytes_eq w (codes "ashr")) ArithmeticShiftRight _ op h) [
                        | inl t ↦ found (codes "ashr") ArithmeticShiftRight t.0 t.1 refl
                        | inr h ↦ elim (pick (bytes_eq w (codes "and")) And _ op h) [
                          | inl t ↦ found (codes "and") And t.0 t.1 refl
                          | inr h ↦ elim (pick (bytes_eq w (codes "or")) Or _ op h) [
                            | inl t ↦ found (codes "or") Or t.0 t.1 refl
                            | inr h ↦ elim (pick (bytes_eq w (codes "xor")) ExclusiveOr None op h) [
                              | inl t ↦ found (codes "xor") ExclusiveOr t.0 t.1 refl
                              | inr h ↦ absurd cc
                            ]
                          ]
                        ]
                      ]
                    ]
                  ]
                ]
              ]
            ]
          ]
        ]
      ]
    ]

wrap_is : (op other : BinaryOperator) → without_wrap op ≡ Some other → symbols_in (operator_atoms other) ≡ symbols_in (operator_atoms op) ++ Word (codes "nsw") ∷ []
wrap_is Add other h = ap (λ (o : BinaryOperator). symbols_in (operator_atoms o)) (sym (some_is AddNoWrap other h))
wrap_is Subtract other h = ap (λ (o : BinaryOperator). symbols_in (operator_atoms o)) (sym (some_is SubtractNoWrap other h))
wrap_is Multiply other h = ap (λ (o : BinaryOperator). symbols_in (operator_atoms o)) (sym (some_is MultiplyNoWrap other h))
wrap_is _ other h = absurd cc

binary_takes : (d w : List ℕ) (op : BinaryOperator) (rest : List Symbol) (i : Instruction) → are_within rest → Word w ∷ [] ≡ symbols_in (operator_atoms op) → binary d op rest ≡ Some i → Defines d w rest i
binary_takes d w op rest i within is h =
    let with_nsw : Option Instruction = without_wrap op >>= λ operator. option_map (binary_from d operator) (gaps_of binary_shape (behind rest)) in
    elim (chosen (is_word (codes "nsw") rest) with_nsw (option_map (binary_from d op) (gaps_of binary_shape rest)) (Some i) h) [
      | inl v ↦
          let b = bind_some (without_wrap op) (λ operator. option_map (binary_from d operator) (gaps_of binary_shape (behind rest))) i v.1 in
          let nsw : rest ≡ Word (codes "nsw") ∷ behind rest = word_is (codes "nsw") rest v.0 in
          let words : Word w ∷ Word (codes "nsw") ∷ [] ≡ symbols_in (operator_atoms b.0) = ap (λ (l : List Symbol). l ++ Word (codes "nsw") ∷ []) is ∙ sym (wrap_is op b.0 b.1) in
          let s = spelled instruction_atoms instruction_fits binary_shape (binary_from d b.0) (Register d ∷ Mark 61 ∷ Word w ∷ Word (codes "nsw") ∷ []) (behind rest) i (behind_within rest (Word (codes "nsw") ∷ []) (behind rest) within nsw) b.2
          (λ g. ap (λ (l : List Symbol). Register d ∷ Mark 61 ∷ (l ++ symbols_in (atoms_of binary_shape g))) words ∙ ap (λ (l : List Symbol). Register d ∷ Mark 61 ∷ l) (sym (symbols_appended (operator_atoms b.0) (Blank ∷ atoms_of binary_shape g)))) (λ g f. refl) in
          (ap (λ (l : List Symbol). Register d ∷ Mark 61 ∷ Word w ∷ l) nsw ∙ s.0, s.1)
      | inr v ↦
          spelled instruction_atoms instruction_fits binary_shape (binary_from d op) (Register d ∷ Mark 61 ∷ Word w ∷ []) rest i within v.1
          (λ g. ap (λ (l : List Symbol). Register d ∷ Mark 61 ∷ (l ++ symbols_in (atoms_of binary_shape g))) is ∙ ap (λ (l : List Symbol). Register d ∷ Mark 61 ∷ l) (sym (symbols_appended (operator_atoms op) (Blank ∷ atoms_of binary_shape g)))) (λ g f. refl)
    ]

abbrev defining : List ℕ → List ℕ → List Symbol
defining d text = Register d ∷ Mark 61 ∷ Word text ∷ []

alloca_takes : (d : List ℕ) (rest : List Symbol) (i : Instruction) → are_within rest → alloca d rest ≡ Some i → Defines d (codes "alloca") rest i
alloca_takes d rest i w h = elim (chosen (is_word (codes "i64") rest) (option_map (alloca_from d) (gaps_of alloca_shape rest)) (option_map (alloca_array_from d) (gaps_of alloca_array_shape rest)) (Some i) h) [
  | inl v ↦ spelled instruction_atoms instruction_fits alloca_shape (alloca_from d) (defining d (codes "alloca")) rest i w v.1 (λ g. refl) (λ g f. refl)
  | inr v ↦ spelled instruction_atoms instruction_fits alloca_array_shape (alloca_array_from d) (defining d (codes "alloca")) rest i w v.1 (λ g. refl) (λ g f. (and_parts (nat_lt 0 g.0) true f).0)
]

pub call_takes : (d : List ℕ) (rest : List Symbol) (i : Instruction) → are_within rest → call d rest ≡ Some i → Defines d (codes "call") rest i
call_takes d rest i w h = elim (chosen (is_word (codes "token") rest) (option_map (start_region_from d) (gaps_of start_region_shape rest)) (option_map (call_from d) (gaps_of call_shape rest)) (Some i) h) [
  | inl v ↦ spelled instruction_atoms instruction_fits start_region_shape (start_region_from d) (defining d (codes "call")) rest i w v.1 (λ g. refl) (λ g f. refl)
  | inr v ↦ spelled instruction_atoms instruction_fits call_shape (call_from d) (defining d (codes "call")) rest i w v.1 (λ g. refl) (λ g f. refl)
]

pub fixed_takes : (d text : List ℕ) (rest : List Symbol) (i : Instruction) → are_within rest → fixed d text rest ≡ Some i → Defines d text rest i
unfolding fixed
fixed_takes d text rest i w h =
    let P = λ (t : List ℕ). Defines d t rest i in
    elim (chosen (bytes_eq text (codes "icmp")) _ _ (Some i) h) [
      | inl v ↦ by_word text (codes "icmp") P v.0 (spelled instruction_atoms instruction_fits compare_shape (compare_from d) (defining d (codes "icmp")) rest i w v.1 (λ g. refl) (λ g f. refl))
      | inr v ↦ elim (chosen (bytes_eq text (codes "trunc")) _ _ (Some i) v.1) [
        | inl v ↦ by_word text (codes "trunc") P v.0 (spelled instruction_atoms instruction_fits truncate_shape (truncate_from d) (defining d (codes "trunc")) rest i w v.1 (λ g. refl) (λ g f. refl))
        | inr v ↦ elim (chosen (bytes_eq text (codes "sext")) _ _ (Some i) v.1) [
          | inl v ↦ by_word text (codes "sext") P v.0 (spelled instruction_atoms instruction_fits extend_shape (extend_from d SignExtend) (defining d (codes "sext")) rest i w v.1 (λ g. refl) (λ g f. refl))
          | inr v ↦ elim (chosen (bytes_eq text (codes "zext")) _ _ (Some i) v.1) [
            | inl v ↦ by_word text (codes "zext") P v.0 (spelled instruction_atoms instruction_fits extend_shape (extend_from d ZeroExtend) (defining d (codes "zext")) rest i w v.1 (λ g. refl) (λ g f. refl))
            | inr v ↦ elim (chosen (bytes_eq text (codes "alloca")) _ _ (Some i) v.1) [
              | inl v ↦ by_word text (codes "alloca") P v.0 (alloca_takes d rest i w v.1)
              | inr v ↦ elim (chosen (bytes_eq text (codes "getelementptr")) _ _ (Some i) v.1) [
                | inl v ↦ by_word text (codes "getelementptr") P v.0 (spelled instruction_atoms instruction_fits element_pointer_shape (element_pointer_from d) (defining d (codes "getelementptr")) rest i w v.1 (λ g. refl) (λ g f. refl))
                | inr v ↦ elim (chosen (bytes_eq text (codes "load")) _ _ (Some i) v.1) [
                  | inl v ↦ by_word text (codes "load") P v.0 (spelled instruction_atoms instruction_fits load_shape (load_from d) (defining d (codes "load")) rest i w v.1 (λ g. refl) (λ g f. refl))
                  | inr v ↦
                      let b = bind_some (operator_of text) (λ operator. binary d operator rest) i v.1 in
                      binary_takes d text b.0 rest i w (operator_is text b.0 b.1) b.2
                ]
              ]
            ]
          ]
        ]
      ]
    ]

-- instructions that define none

pub store_takes : (rest : List Symbol) (j : Instruction) → are_within rest → store rest ≡ Some j → Spells instruction_atoms instruction_fits (Word (codes "store") ∷ rest) j
store_takes rest j w h = elim (chosen (is_word (codes "i64") rest) (option_map store_from (gaps_of store_shape rest)) (option_map store_zeros_from (gaps_of store_zeros_shape rest)) (Some j) h) [
  | inl v ↦ spelled instruction_atoms instruction_fits store_shape store_from (Word (codes "store") ∷ []) rest j w v.1 (λ g. refl) (λ g f. refl)
  | inr v ↦ spelled instruction_atoms instruction_fits store_zeros_shape store_zeros_from (Word (codes "store") ∷ []) rest j w v.1 (λ g. refl) (λ g f. (and_parts (nat_lt 0 g.0) true f).0)
]
