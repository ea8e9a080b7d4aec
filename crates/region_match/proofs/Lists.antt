-- Lists with no element, or with one, of which something holds.
use Rattle.std.proofs.Common.{◌≡◌, ℕ, ◌+◌, ◌<◌, List, length, get_or, take, sym, subst}
use Rattle.std.specs.List.{All, Any}
use Rattle.std.proofs.lemmas.List.{take_more}
use Rattle.std.proofs.lemmas.List.Elements.{All-push}

pub none_any : {X : Type 0} (P : X → Type 0) (xs : List X) → All (λ x. P x → ⊥) xs → Any P xs → ⊥
none_any P xs none any = none any.0 any.1 any.2 (subst P (sym any.3) any.4)

pub none_more : {X : Type 0} (P : X → Type 0) (xs : List X) (i : ℕ) (x : X) → i < length xs → x ≡ get_or xs i x → All (λ x. P x → ⊥) (take i xs) → (P x → ⊥) → All (λ x. P x → ⊥) (take (i + 1) xs)
none_more P xs i x l is before here = rw (take_more xs i x l, ← is) (All-push (λ x. P x → ⊥) (take i xs) x before here)

pub any_at : {X : Type 0} (P : X → Type 0) (xs : List X) (i : ℕ) (x : X) → i < length xs → x ≡ get_or xs i x → P x → Any P xs
any_at P xs i x l is p = (i, x, l, sym is, p)
