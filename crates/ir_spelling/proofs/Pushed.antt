-- What a last push leaves.
use Rattle.std.proofs.Common.{◌≡◌, ℕ, List, ◌++◌, ◌∙◌}
use Rattle.std.specs.Prelude.{Result, Ok, Err, OnOk, is_ok, if◌then◌else◌}

pub pushed : {A E : Type 0} (r : Result A E) (now old more all : List ℕ) → now ≡ (if is_ok r then old ++ more else old) → old ++ more ≡ all → OnOk r (now ≡ all)
pushed (Ok x) now old more all h e = h ∙ e
pushed (Err x) now old more all h e = tt
