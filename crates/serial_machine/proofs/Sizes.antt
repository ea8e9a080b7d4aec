-- What one more object adds to where objects of these sizes begin.
use Rattle.std.proofs.Common.{◌≡◌, ℕ, ◌+◌, ◌%◌, ◌<◌, ℤ, List, [], ◌∷◌, ◌++◌, length, get_or, drop, append_assoc}
use Rattle.std.proofs.lemmas.List.{drop_more}
use Rattle.semantics.specs.Arithmetic.{signed}
use Rattle.syntax.specs.declared.operator.Width.TheVariants.{Bits64}
use Rattle.frame_engine.specs.Starts.{starts_from}

pub sizes_more : (front : List ℤ) (sizes : List ℕ) (i next d x : ℕ) (start : ℤ) (whole : List ℤ) → i < length sizes → x ≡ get_or sizes i d → start ≡ signed Bits64 next
    → front ++ starts_from next (drop i sizes) ≡ whole → (front ++ start ∷ []) ++ starts_from ((next + x) % 18446744073709551616) (drop (i + 1) sizes) ≡ whole
sizes_more front sizes i next d x start whole l item e is =
    let h = rw (drop_more sizes i d l) at is in
    rw (e, item, append_assoc front (signed Bits64 next ∷ []) (starts_from ((next + get_or sizes i d) % 18446744073709551616) (drop (i + 1) sizes))) h
