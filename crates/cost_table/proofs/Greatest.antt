-- Greatest values of lists, element by element.
use Rattle.std.proofs.Common.{◌≡◌, refl, ◌∙◌, ℕ, suc, ◌+◌, ◌<◌, ◌≤◌, max, List, [], ◌∷◌, ◌++◌, length, get_or, take, sym, ap, arith, take_all}
use Rattle.std.proofs.lemmas.List.{take_more, length-take-le}
use Rattle.std.proofs.lemmas.List.Recursion.{max_push}
use Rattle.program.specs.declared.function.Block.{Block}
use Rattle.cost_table.specs.Depth.{greatest, greatest_block}

pub greatest_next : {X : Type 0} (f : X → ℕ) (xs : List X) (i : ℕ) (x : X) → i < length xs → x ≡ get_or xs i x → max (greatest f (take i xs)) (f x) ≡ greatest f (take (i + 1) xs)
greatest_next {X} f xs i x l is = rw (take_more xs i x l, ← is) (sym (max_push (greatest f) f refl (λ y ys. refl) (take i xs) x))

pub greatest_all : {X : Type 0} (f : X → ℕ) (xs : List X) (i : ℕ) → length xs ≤ i → greatest f (take i xs) ≡ greatest f xs
greatest_all {X} f xs i past = ap (greatest f) (take_all {A = X} i xs past)

max_assoc : (a b c : ℕ) → max a (max b c) ≡ max (max a b) c
max_assoc a b c = grind arith

pub block_push : (f : ℕ → Block → ℕ) (b : ℕ) (xs : List Block) (y : Block) → greatest_block f b (xs ++ y ∷ []) ≡ max (greatest_block f b xs) (f (b + length xs) y)
block_push f b [] y = let e : b ≡ b + 0 = omega arith in ap (λ (n : ℕ). max (f n y) 0) e ∙ swap (f (b + 0) y)
  where
    swap : (n : ℕ) → max n 0 ≡ max 0 n
    swap n = grind arith
block_push f b (x ∷ xs) y =
    let e : suc b + length xs ≡ b + length (x ∷ xs) = omega arith in
    ap (max (f b x)) (block_push f (suc b) xs y) ∙ max_assoc (f b x) (greatest_block f (suc b) xs) (f (suc b + length xs) y) ∙ ap (λ (n : ℕ). max (greatest_block f b (x ∷ xs)) (f n y)) e

pub block_next : (f : ℕ → Block → ℕ) (xs : List Block) (i : ℕ) (x : Block) → i < length xs → x ≡ get_or xs i x → max (greatest_block f 0 (take i xs)) (f i x) ≡ greatest_block f 0 (take (i + 1) xs)
block_next f xs i x l is =
    let e : i ≡ 0 + length (take i xs) = sym (length-take-le i xs (omega (arith, l))) ∙ (omega arith) in
    rw (take_more xs i x l, ← is, block_push f 0 (take i xs) x) (ap (λ (n : ℕ). max (greatest_block f 0 (take i xs)) (f n x)) e)

pub block_all : (f : ℕ → Block → ℕ) (xs : List Block) (i : ℕ) → length xs ≤ i → greatest_block f 0 (take i xs) ≡ greatest_block f 0 xs
block_all f xs i past = ap (greatest_block f 0) (take_all {A = Block} i xs past)
