-- Names as the set keeps them.
use Rattle.std.proofs.Common.{◌≡◌, ℕ, Bool, true, false, List, [], ◌∷◌, map, refl, ap}
use Rattle.std.specs.Prelude.{◌||◌}
use Rattle.std.specs.Global.{Vec}
use Rattle.std.specs.List.{list_any}
use Rattle.std.specs.Str.{bytes_eq}
use Rattle.ir_reader.specs.Names.{is_known, is_repeated}

pub seen : (ks : List (Vec ℕ)) (name : List ℕ) → list_any (λ (y : Vec ℕ). bytes_eq name y.items) ks ≡ is_known (map (λ v. v.items) ks) name
seen [] name = refl
seen (k ∷ ks) name = ap (λ (b : Bool). bytes_eq name k.items || b) (seen ks name)

or_false : (b : Bool) → (b || false) ≡ b
or_false true = refl
or_false false = refl

pub repeats_one : (known : List (List ℕ)) (name : List ℕ) → is_repeated known (name ∷ []) ≡ is_known known name
repeats_one known name = or_false (is_known known name)
