-- What one more item adds to what items were made into.
use Rattle.std.proofs.Common.{◌≡◌, ℕ, ◌+◌, ◌<◌, List, [], ◌∷◌, ◌++◌, length, get_or, map, take, drop, append_assoc, add-one}
use Rattle.std.proofs.lemmas.List.{map-append, take_more, drop_more}
use Rattle.program.specs.declared.instruction.Argument.{Argument}
use Rattle.program.specs.declared.instruction.Operand.{Operand}
use Rattle.cfg.specs.declared.structure.Move.{Move}
use Rattle.ranges_owed.specs.Inequalities.{argument_operand, argument_moves}

pub mapped_more : {X A : Type 0} (f : X → A) (xs : List X) (i : ℕ) (d : X) (now : List A) → i < length xs → now ≡ map f (take i xs) → now ++ f (get_or xs i d) ∷ [] ≡ map f (take (i + 1) xs)
mapped_more f xs i d now l is = rw (is, take_more xs i d l, map-append f (take i xs) (get_or xs i d ∷ []))

pub mapped_after : {X A : Type 0} (f : X → A) (front : List A) (xs : List X) (i : ℕ) (d : X) (now : List A) → i < length xs → now ≡ front ++ map f (take i xs) → now ++ f (get_or xs i d) ∷ [] ≡ front ++ map f (take (i + 1) xs)
mapped_after f front xs i d now l is = rw (is, take_more xs i d l, map-append f (take i xs) (get_or xs i d ∷ [])) (append_assoc front (map f (take i xs)) (f (get_or xs i d) ∷ []))

pub moves_more : (front : List Move) (arguments : List Argument) (i : ℕ) (d : Argument) (x : Operand) (whole : List Move) → i < length arguments → x ≡ argument_operand (get_or arguments i d)
    → front ++ argument_moves i (drop i arguments) ≡ whole → (front ++ record { register = record { 0 = i }; value = x } ∷ []) ++ argument_moves (i + 1) (drop (i + 1) arguments) ≡ whole
moves_more front arguments i d x whole l e is =
    let h = rw (drop_more arguments i d l, add-one) at is in
    rw (e, append_assoc front (record { register = record { 0 = i }; value = argument_operand (get_or arguments i d) } ∷ []) (argument_moves (i + 1) (drop (i + 1) arguments)), add-one) h
