-- A line that says an item is the item's spelling.
use Rattle.std.proofs.Common.{◌≡◌, ℕ, inl, inr, List, [], ◌∷◌, true, eq-eqb, Some, None, refl, subst, ap, ◌∙◌, eqb}
use Rattle.std.specs.Prelude.{codes, option_map, nat_lt}
use Rattle.std.specs.Str.{bytes_eq}
use Rattle.std.proofs.lemmas.Bool.{and_parts, eqb-true}
use Rattle.syntax.specs.declared.instruction.Instruction.{Instruction}
use Rattle.ir_reader.specs.declared.item.item.Item.{Item}
use Rattle.ir_reader.specs.declared.item.item.Item.TheVariants as item
use Rattle.ir_instruction.specs.declared.symbol.Symbol.{Symbol}
use Rattle.ir_instruction.specs.declared.symbol.Symbol.TheVariants.{Register, Word, Mark, Global}
use Rattle.ir_instruction.specs.Fronts.{behind, mark_at, is_mark}
use Rattle.ir_instruction.specs.Shape.{Gaps, gaps_of}
use Rattle.ir_instruction.specs.Grammar.{phi_shape, phi_from, call, fixed, atomic_shape, atomic_from, call_void_shape, call_void_from, store, global_shape, define_shape, terminator_in}
use Rattle.ir_reader.specs.item.Grammar.{definition, global_from, define_from, worded, item_in}
use Rattle.ir_instruction.specs.Spelling.{instruction_atoms}
use Rattle.ir_reader.specs.item.Items.{item_atoms, item_fits}
use Rattle.ir_instruction.specs.Fits.{is_some_list, gaps_fit, instruction_fits, has_cells}
use Rattle.ir_instruction.proofs.Takes.{bind_some, map_some, chosen, are_within, behind_within, mark_is, mark_takes}
use Rattle.std.specs.List.{list_all}
use Rattle.ir_instruction.specs.Symbols.{is_within_limits}
use Rattle.ir_instruction.proofs.InstructionTakes.{Spells, spelled, by_word, call_takes, fixed_takes, store_takes}
use Rattle.ir_instruction.proofs.TerminatorTakes.{terminator_takes}

abbrev pub ItemSpells : ℕ → List Symbol → Item → Type 0
ItemSpells at line i = Spells item_atoms (item_fits at) line i

of_instruction : (at : ℕ) (line : List Symbol) (j : Instruction) (i : Item) → item.Instruction j ≡ i → Spells instruction_atoms instruction_fits line j → ItemSpells at line i
of_instruction at line j i e s = subst (λ (i : Item). ItemSpells at line i) e s

phi_good : (at : ℕ) (d : List ℕ) (g : Gaps phi_shape) → gaps_fit phi_shape g ≡ true → item_fits at (item.Phi (phi_from at d g)) ≡ true
phi_good at d g f = let t = and_parts (is_some_list g.1.0) true f in rw (eq-eqb at at refl, t.0) refl

definition_takes : (at : ℕ) (d text : List ℕ) (rest : List Symbol) (i : Item) → are_within rest → definition at d (Word text ∷ rest) ≡ Some i → ItemSpells at (Register d ∷ Mark 61 ∷ Word text ∷ rest) i
unfolding definition
definition_takes at d text rest i w h =
    let P = λ (t : List ℕ). ItemSpells at (Register d ∷ Mark 61 ∷ Word t ∷ rest) i in
    elim (chosen (bytes_eq text (codes "phi")) _ _ (Some i) h) [
      | inl v ↦ by_word text (codes "phi") P v.0 (spelled item_atoms (item_fits at) phi_shape (λ g. item.Phi (phi_from at d g)) (Register d ∷ Mark 61 ∷ Word (codes "phi") ∷ []) rest i w v.1 (λ g. refl) (phi_good at d))
      | inr v ↦ elim (chosen (bytes_eq text (codes "call")) _ _ (Some i) v.1) [
        | inl v ↦
            let m = map_some item.Instruction (call d rest) i v.1 in
            by_word text (codes "call") P v.0 (of_instruction at (Register d ∷ Mark 61 ∷ Word (codes "call") ∷ rest) m.0 i m.2 (call_takes d rest m.0 w m.1))
        | inr v ↦
            let m = map_some item.Instruction (fixed d text rest) i v.1 in
            of_instruction at (Register d ∷ Mark 61 ∷ Word text ∷ rest) m.0 i m.2 (fixed_takes d text rest m.0 w m.1)
      ]
    ]

worded_takes : (at : ℕ) (text : List ℕ) (rest : List Symbol) (i : Item) → are_within rest → worded text rest ≡ Some i → ItemSpells at (Word text ∷ rest) i
unfolding worded
worded_takes at text rest i w h =
    let P = λ (s : List ℕ). ItemSpells at (Word s ∷ rest) i in
    elim (chosen (bytes_eq text (codes "define")) _ _ (Some i) h) [
      | inl v ↦ by_word text (codes "define") P v.0 (spelled item_atoms (item_fits at) define_shape define_from (Word (codes "define") ∷ []) rest i w v.1 (λ g. refl) (λ g f. (and_parts (list_all has_cells g.1.1.0) true f).0))
      | inr v ↦ elim (chosen (bytes_eq text (codes "store")) _ _ (Some i) v.1) [
        | inl v ↦
            let m = map_some item.Instruction (store rest) i v.1 in
            by_word text (codes "store") P v.0 (of_instruction at (Word (codes "store") ∷ rest) m.0 i m.2 (store_takes rest m.0 w m.1))
        | inr v ↦ elim (chosen (bytes_eq text (codes "atomicrmw")) _ _ (Some i) v.1) [
          | inl v ↦ by_word text (codes "atomicrmw") P v.0 (spelled item_atoms (item_fits at) atomic_shape (λ g. item.Instruction (atomic_from g)) (Word (codes "atomicrmw") ∷ []) rest i w v.1 (λ g. refl) (λ g f. refl))
          | inr v ↦ elim (chosen (bytes_eq text (codes "call")) _ _ (Some i) v.1) [
            | inl v ↦ by_word text (codes "call") P v.0 (spelled item_atoms (item_fits at) call_void_shape (λ g. item.Instruction (call_void_from g)) (Word (codes "call") ∷ []) rest i w v.1 (λ g. refl) (λ g f. refl))
            | inr v ↦
                let m = map_some item.Terminator (terminator_in text rest) i v.1 in
                subst (λ (i : Item). ItemSpells at (Word text ∷ rest) i) m.2 (terminator_takes text rest m.0 w m.1)
          ]
        ]
      ]
    ]

defined_takes : (at : ℕ) (d : List ℕ) (more : List Symbol) (i : Item) → are_within more → definition at d more ≡ Some i → ItemSpells at (Register d ∷ Mark 61 ∷ more) i
unfolding definition
defined_takes at d (Word text ∷ rest) i w h = definition_takes at d text rest i (and_parts (is_within_limits (Word text)) (list_all is_within_limits rest) w).1 h
defined_takes at d _ i w h = absurd cc

global_good : (at : ℕ) (name : List ℕ) (g : Gaps global_shape) → gaps_fit global_shape g ≡ true → item_fits at (global_from at name g) ≡ true
global_good at name g f = rw (eq-eqb at at refl, (and_parts (nat_lt 0 g.0) true f).0) refl

-- A line that says an item is its spelling, and the item fits the line.
pub item_takes : (at : ℕ) (line : List Symbol) (i : Item) → are_within line → item_in at line ≡ Some i → ItemSpells at line i
unfolding item_in
item_takes at (Register d ∷ rest) i w h =
    let b = bind_some (mark_at 61 rest) (definition at d) i h in
    let e = mark_takes 61 rest b.0 b.1 in
    let within : are_within b.0 = behind_within (Register d ∷ rest) (Register d ∷ Mark 61 ∷ []) b.0 w (ap (λ (l : List Symbol). Register d ∷ l) e) in
    let s = defined_takes at d b.0 i within b.2 in
    (ap (λ (l : List Symbol). Register d ∷ l) e ∙ s.0, s.1)
item_takes at (Global name ∷ rest) i w h =
    spelled item_atoms (item_fits at) global_shape (global_from at name) (Global name ∷ []) rest i (and_parts (is_within_limits (Global name)) (list_all is_within_limits rest) w).1 h (λ g. refl) (global_good at name)
item_takes at (Word text ∷ rest) i w h =
    let within : are_within rest = (and_parts (is_within_limits (Word text)) (list_all is_within_limits rest) w).1 in
    elim (chosen (is_mark 58 rest) (option_map (λ g. item.Label text) (gaps_of [] (behind rest))) (worded text rest) (Some i) h) [
      | inl v ↦
          let e = mark_is 58 rest v.0 in
          let s = spelled item_atoms (item_fits at) [] (λ g. item.Label text) (Word text ∷ Mark 58 ∷ []) (behind rest) i (behind_within rest (Mark 58 ∷ []) (behind rest) within e) v.1 (λ g. refl) (λ g f. refl) in
          (ap (λ (l : List Symbol). Word text ∷ l) e ∙ s.0, s.1)
      | inr v ↦ worded_takes at text rest i within v.1
    ]
item_takes at (Mark byte ∷ rest) i w h = elim (chosen (eqb byte 125) (option_map (λ g. item.Close) (gaps_of [] rest)) None (Some i) h) [
  | inl v ↦
      let s = spelled item_atoms (item_fits at) [] (λ g. item.Close) (Mark 125 ∷ []) rest i (and_parts (is_within_limits (Mark byte)) (list_all is_within_limits rest) w).1 v.1 (λ g. refl) (λ g f. refl) in
      (ap (λ (b : ℕ). Mark b ∷ rest) (eqb-true byte 125 v.0) ∙ s.0, s.1)
  | inr v ↦ absurd cc
]
item_takes at _ i w h = absurd cc
