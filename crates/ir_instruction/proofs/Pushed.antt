-- What one more item adds to what items were made into, and a name behind its mark.
use Rattle.std.proofs.Common.{◌≡◌, ℕ, ◌+◌, ◌-◌, ◌<◌, List, [], ◌∷◌, ◌++◌, length, length-drop, get_or, map, suc, take, drop, subst, sym, arith}
use Rattle.std.proofs.lemmas.Bool.{eq-eqb, ne_eqb}
use Rattle.std.proofs.lemmas.List.{map-append, take_all, take_more}
use Rattle.ir_instruction.specs.declared.symbol.Symbol.TheVariants.{Register, Global}
use Rattle.ir_instruction.specs.Symbols.{named}

pub pushed : {X A : Type 0} (f : X → A) (xs : List X) (i : ℕ) (d : X) (x : A) (now new : List A) → i < length xs → x ≡ f (get_or xs i d) → new ≡ now ++ x ∷ [] → now ≡ map f (take i xs) → new ≡ map f (take (i + 1) xs)
pushed f xs i d x now new l at more is = rw (more, at, is, take_more xs i d l, map-append f (take i xs) (get_or xs i d ∷ []))

behind_mark : (text : List ℕ) → take (length text - 1) (drop 1 text) ≡ drop 1 text
behind_mark text = take_all (length text - 1) (drop 1 text) (omega (arith, length-drop 1 text))

pub register_named : (text name : List ℕ) → name ≡ take (length text - 1) (drop 1 text) → get_or text 0 0 ≡ 37 → Register name ≡ named text
register_named text name e h = rw (e, behind_mark text, eq-eqb (get_or text 0 0) 37 h)

pub global_named : (text name : List ℕ) → name ≡ take (length text - 1) (drop 1 text) → (get_or text 0 0 ≡ 37 → ⊥) → Global name ≡ named text
global_named text name e h = rw (e, behind_mark text, ne_eqb (get_or text 0 0) 37 h)

dropped_ascii : (text : List ℕ) → ((i : ℕ) → get_or text i 0 < 128) → (i : ℕ) → get_or (drop 1 text) i 0 < 128
dropped_ascii [] h i = h i
dropped_ascii (x ∷ xs) h i = h (suc i)

pub behind_ascii : (text : List ℕ) → ((i : ℕ) → get_or text i 0 < 128) → (i : ℕ) → get_or (take (length text - 1) (drop 1 text)) i 0 < 128
behind_ascii text h i =
    let P : List ℕ → Type 0 = λ l. get_or l i 0 < 128 in
    subst P (sym (behind_mark text)) (dropped_ascii text h i)
