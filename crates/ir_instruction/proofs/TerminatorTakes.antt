-- Symbols that say a terminator are its spelling.
use Rattle.std.proofs.Common.{◌≡◌, ℕ, inl, inr, List, [], ◌∷◌, ◌++◌, Bool, true, false, cond, Some, None, refl, sym, ap, ◌∙◌}
use Rattle.std.specs.Prelude.{codes, not, ◌&&◌, option_map, nat_le, length}
use Rattle.std.specs.List.{list_all}
use Rattle.std.specs.Str.{bytes_eq}
use Rattle.std.proofs.lemmas.Bool.{and_parts}
use Rattle.std.proofs.lemmas.List.{append-nil}
use Rattle.syntax.specs.declared.operator.Width.{Width}
use Rattle.syntax.specs.declared.operator.Width.TheVariants.{Bits64, Bits32}
use Rattle.syntax.specs.declared.terminator.Terminator.{Terminator}
use Rattle.syntax.specs.declared.terminator.Terminator.TheVariants as terminator
use Rattle.ir_instruction.specs.declared.symbol.Numeral.{Numeral}
use Rattle.ir_instruction.specs.declared.symbol.Numeral.TheVariants.{Small, Large}
use Rattle.ir_instruction.specs.declared.symbol.Symbol.{Symbol}
use Rattle.ir_instruction.specs.declared.symbol.Symbol.TheVariants.{Register, Number, Word, Mark}
use Rattle.ir_instruction.specs.declared.switch.SpelledCase.{SpelledCase}
use Rattle.ir_instruction.specs.Outcome.{◌>>=◌}
use Rattle.ir_instruction.specs.Symbols.{is_within_limits}
use Rattle.ir_instruction.specs.Fronts.{is_word}
use Rattle.ir_instruction.specs.Cases.{is_case_of, are_distinct, are_cases_of, cases_from}
use Rattle.syntax.specs.Widths.{is_same_width}
use Rattle.ir_instruction.specs.Shape.{gaps_of}
use Rattle.ir_instruction.specs.Grammar.{jump_shape, jump_from, branch_shape, branch_from, branch_in, br, switch_shape, switch_from, return_void_shape, return_void_from, return_shape, return_from, return, detach_shape, detach_from, region_shape, reattach_from, sync_from, terminator_in}
use Rattle.ir_instruction.specs.Spelling.{symbols_in, operand_symbol, width_word, cases_atoms, atoms_of, terminator_atoms, spelled_cases}
use Rattle.ir_instruction.specs.Fits.{is_some_list, terminator_fits}
use Rattle.ir_instruction.proofs.Again.{symbols_appended}
use Rattle.ir_instruction.proofs.Takes.{bind_some, chosen, tested, are_within, behind_within, gaps_take}
use Rattle.ir_instruction.proofs.InstructionTakes.{Spells, spelled, by_word}

abbrev pub Ends : List ℕ → List Symbol → Terminator → Type 0
Ends text rest t = Spells terminator_atoms terminator_fits (Word text ∷ rest) t

unless_test : {A : Type 0} (b : Bool) (x y : A) → cond b None (Some x) ≡ Some y → (b ≡ false) × (x ≡ y)
unless_test true x y h = absurd cc
unless_test false x y h = (refl, cc)

br_takes : (rest : List Symbol) (t : Terminator) → are_within rest → br rest ≡ Some t → Ends (codes "br") rest t
br_takes rest t w h = elim (chosen (is_word (codes "label") rest) (option_map jump_from (gaps_of jump_shape rest)) (branch_in rest) (Some t) h) [
  | inl v ↦ spelled terminator_atoms terminator_fits jump_shape jump_from (Word (codes "br") ∷ []) rest t w v.1 (λ g. refl) (λ g f. refl)
  | inr v ↦
      let b = bind_some (gaps_of branch_shape rest) branch_from t v.1 in
      let s = gaps_take branch_shape rest b.0 w b.1 in
      let made : Terminator = terminator.Branch b.0.0 b.0.1.0 b.0.1.1.0 in
      let u = unless_test (bytes_eq b.0.1.0 b.0.1.1.0) made t b.2 in
      (ap (λ (l : List Symbol). Word (codes "br") ∷ l) s.0 ∙ ap (λ (z : Terminator). symbols_in (terminator_atoms z)) u.1, ap (λ (z : Terminator). terminator_fits z) (sym u.1) ∙ ap not u.0)
]

detach_takes : (rest : List Symbol) (t : Terminator) → are_within rest → (gaps_of detach_shape rest >>= detach_from) ≡ Some t → Ends (codes "detach") rest t
detach_takes rest t w h =
    let b = bind_some (gaps_of detach_shape rest) detach_from t h in
    let s = gaps_take detach_shape rest b.0 w b.1 in
    let made : Terminator = terminator.Detach b.0.0 b.0.1.0 b.0.1.1.0 in
    let u = unless_test (bytes_eq b.0.1.0 b.0.1.1.0) made t b.2 in
    (ap (λ (l : List Symbol). Word (codes "detach") ∷ l) s.0 ∙ ap (λ (z : Terminator). symbols_in (terminator_atoms z)) u.1, ap (λ (z : Terminator). terminator_fits z) (sym u.1) ∙ ap not u.0)

return_takes : (rest : List Symbol) (t : Terminator) → are_within rest → return rest ≡ Some t → Ends (codes "ret") rest t
return_takes rest t w h = elim (chosen (is_word (codes "void") rest) (option_map return_void_from (gaps_of return_void_shape rest)) (option_map return_from (gaps_of return_shape rest)) (Some t) h) [
  | inl v ↦ spelled terminator_atoms terminator_fits return_void_shape return_void_from (Word (codes "ret") ∷ []) rest t w v.1 (λ g. refl) (λ g f. refl)
  | inr v ↦ spelled terminator_atoms terminator_fits return_shape return_from (Word (codes "ret") ∷ []) rest t w v.1 (λ g. refl) (λ g f. refl)
]

-- the cases of a switch have its width, and numbers in i64

same_width : (a b : Width) → is_same_width a b ≡ true → a ≡ b
same_width Bits64 Bits64 h = refl
same_width Bits32 Bits32 h = refl
same_width Bits64 Bits32 h = absurd cc
same_width Bits32 Bits64 h = absurd cc

one_back : (w v : Width) (n : Numeral) (l : List ℕ) → v ≡ w → is_within_limits (Number n) ≡ true → spelled_cases w (cases_from (record { width = v; number = n; target = l } ∷ [])) ≡ record { width = v; number = n; target = l } ∷ []
one_back w v (Small n) l e h = ap (λ (u : Width). record { width = u; number = Small n; target = l } ∷ []) (sym e)
one_back w v (Large digits) l e h = absurd cc

case_back : (w : Width) (d : List ℕ) (c : SpelledCase) → is_case_of w d c ≡ true → is_within_limits (Number c.number) ≡ true → spelled_cases w (cases_from (c ∷ [])) ≡ c ∷ []
case_back w d c h n = one_back w c.width c.number c.target (same_width c.width w (and_parts (is_same_width c.width w) (not (bytes_eq c.target d)) h).0) n

cases_back : (w : Width) (d : List ℕ) (cs : List SpelledCase) → list_all (is_case_of w d) cs ≡ true → are_within (symbols_in (cases_atoms cs)) → spelled_cases w (cases_from cs) ≡ cs
cases_back w d [] h n = refl
cases_back w d (c ∷ cs) h n =
    let t = and_parts (is_case_of w d c) (list_all (is_case_of w d) cs) h in
    let later : List Symbol = symbols_in (cases_atoms cs) in
    let n1 = and_parts (is_within_limits (Word (width_word c.width))) (list_all is_within_limits (Number c.number ∷ Mark 44 ∷ Word (codes "label") ∷ Register c.target ∷ later)) n in
    let n2 = and_parts (is_within_limits (Number c.number)) (list_all is_within_limits (Mark 44 ∷ Word (codes "label") ∷ Register c.target ∷ later)) n1.1 in
    let n3 = and_parts (is_within_limits (Register c.target)) (list_all is_within_limits later) n2.1 in
    let first : spelled_cases w (cases_from (c ∷ [])) ≡ c ∷ [] = case_back w d c t.0 n2.0 in
    ap (λ (l : List SpelledCase). l ++ spelled_cases w (cases_from cs)) first ∙ ap (λ (l : List SpelledCase). c ∷ l) (cases_back w d cs t.1 n3.1)

switch_takes : (rest : List Symbol) (t : Terminator) → are_within rest → (gaps_of switch_shape rest >>= switch_from) ≡ Some t → Ends (codes "switch") rest t
switch_takes rest t w h =
    let b = bind_some (gaps_of switch_shape rest) switch_from t h in
    let s = gaps_take switch_shape rest b.0 w b.1 in
    let wide : Width = b.0.0 in
    let default : List ℕ = b.0.1.1.0 in
    let cs : List SpelledCase = b.0.1.1.1.0 in
    let made : Terminator = terminator.Switch wide b.0.1.0 default (cases_from cs) in
    let u = tested (are_cases_of wide default cs) made t b.2 in
    let v = and_parts (nat_le (length cs) 64 && list_all (is_case_of wide default) cs) (are_distinct cs) u.0 in
    let each = (and_parts (nat_le (length cs) 64) (list_all (is_case_of wide default) cs) v.0).1 in
    let front : List Symbol = Word (width_word wide) ∷ operand_symbol b.0.1.0 ∷ Mark 44 ∷ Word (codes "label") ∷ Register default ∷ Mark 91 ∷ [] in
    let plain : symbols_in (cases_atoms cs ++ []) ≡ symbols_in (cases_atoms cs) = symbols_appended (cases_atoms cs) [] ∙ append-nil (symbols_in (cases_atoms cs)) in
    let numbers : are_within (symbols_in (cases_atoms cs)) = behind_within rest front (symbols_in (cases_atoms cs)) w (s.0 ∙ ap (λ (l : List Symbol). front ++ l) plain) in
    let back : spelled_cases wide (cases_from cs) ≡ cs = cases_back wide default cs each numbers in
    let some : is_some_list cs ≡ true = (and_parts (is_some_list cs) true s.1).0 in
    let good : (is_some_list cs && are_cases_of wide default cs) ≡ true = rw (some, u.0) refl in (
      ap (λ (l : List Symbol). Word (codes "switch") ∷ l) s.0
          ∙ ap (λ (ds : List SpelledCase). Word (codes "switch") ∷ symbols_in (atoms_of switch_shape (wide, (b.0.1.0, (default, (ds, tt)))))) (sym back)
          ∙ ap (λ (z : Terminator). symbols_in (terminator_atoms z)) u.1,
      ap (λ (z : Terminator). terminator_fits z) (sym u.1) ∙ ap (λ (ds : List SpelledCase). is_some_list ds && are_cases_of wide default ds) back ∙ good,
    )

pub terminator_takes : (text : List ℕ) (rest : List Symbol) (t : Terminator) → are_within rest → terminator_in text rest ≡ Some t → Ends text rest t
unfolding terminator_in
terminator_takes text rest t w h =
    let P = λ (s : List ℕ). Ends s rest t in
    elim (chosen (bytes_eq text (codes "br")) _ _ (Some t) h) [
      | inl v ↦ by_word text (codes "br") P v.0 (br_takes rest t w v.1)
      | inr v ↦ elim (chosen (bytes_eq text (codes "switch")) _ _ (Some t) v.1) [
        | inl v ↦ by_word text (codes "switch") P v.0 (switch_takes rest t w v.1)
        | inr v ↦ elim (chosen (bytes_eq text (codes "ret")) _ _ (Some t) v.1) [
          | inl v ↦ by_word text (codes "ret") P v.0 (return_takes rest t w v.1)
          | inr v ↦ elim (chosen (bytes_eq text (codes "detach")) _ _ (Some t) v.1) [
            | inl v ↦ by_word text (codes "detach") P v.0 (detach_takes rest t w v.1)
            | inr v ↦ elim (chosen (bytes_eq text (codes "reattach")) _ _ (Some t) v.1) [
              | inl v ↦ by_word text (codes "reattach") P v.0 (spelled terminator_atoms terminator_fits region_shape reattach_from (Word (codes "reattach") ∷ []) rest t w v.1 (λ g. refl) (λ g f. refl))
              | inr v ↦ elim (chosen (bytes_eq text (codes "sync")) (option_map sync_from (gaps_of region_shape rest)) None (Some t) v.1) [
                | inl v ↦ by_word text (codes "sync") P v.0 (spelled terminator_atoms terminator_fits region_shape sync_from (Word (codes "sync") ∷ []) rest t w v.1 (λ g. refl) (λ g f. refl))
                | inr v ↦ absurd cc
              ]
            ]
          ]
        ]
      ]
    ]
