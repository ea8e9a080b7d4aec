-- The text of symbols and spaces.
use Rattle.std.proofs.Common.{◌≡◌, ℕ, List, [], ◌∷◌, ◌++◌, refl, sym, ap, ◌∙◌, append_assoc}
use Rattle.std.specs.Prelude.{flat_map}
use Rattle.std.proofs.lemmas.List.{append-nil}
use Rattle.ir_instruction.specs.Spelling.{Atom, Token, Blank, symbol_text, text_of, parted, other_atoms}

pub text_appended : (xs ys : List Atom) → text_of (xs ++ ys) ≡ text_of xs ++ text_of ys
text_appended [] ys = refl
text_appended (Blank ∷ xs) ys = ap (λ (t : List ℕ). 32 ∷ t) (text_appended xs ys)
text_appended (Token s ∷ xs) ys = ap (λ (t : List ℕ). symbol_text s ++ t) (text_appended xs ys) ∙ sym (append_assoc (symbol_text s) (text_of xs) (text_of ys))

others_text : {A : Type 0} (f : A → List Atom) (xs : List A) → text_of (flat_map (other_atoms f) xs) ≡ flat_map (λ x. text_of (other_atoms f x)) xs
others_text f [] = refl
others_text f (x ∷ xs) = text_appended (other_atoms f x) (flat_map (other_atoms f) xs) ∙ ap (λ (t : List ℕ). text_of (other_atoms f x) ++ t) (others_text f xs)

pub parted_text : {A : Type 0} (f : A → List Atom) (x : A) (xs : List A) → text_of (parted f (x ∷ xs)) ≡ text_of (f x) ++ flat_map (λ y. text_of (other_atoms f y)) xs
parted_text f x xs = text_appended (f x) (flat_map (other_atoms f) xs) ∙ ap (λ (t : List ℕ). text_of (f x) ++ t) (others_text f xs)

pub ruleset texts = (text_appended, parted_text, append_assoc)
