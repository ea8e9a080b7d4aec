-- Answers of four parts.
use Rattle.std.proofs.Common.{◌≡◌, sym, ap, ◌∙◌, subst, Result}
use Rattle.refusal.specs.declared.broken.Broken.{Broken as TypeFault}
use Rattle.refusal.specs.declared.refused.Refused.{Refused}
use Rattle.types.specs.names.Fault.{both_of}
use Rattle.types.specs.names.Told.{both_answers, Gives}
use Rattle.types.proofs.names.Giving.{both_gives}

pub four_give : {A B C D : Type 0} (a : Result A Refused) (x : Result A TypeFault) (b : Result B Refused) (y : Result B TypeFault) (c : Result C Refused) (z : Result C TypeFault) (d : Result D Refused) (w : Result D TypeFault)
    (first : Result (A × B) Refused) (second : Result (C × D) Refused) (all : Result ((A × B) × (C × D)) Refused) →
    first ≡ both_answers a b → second ≡ both_answers c d → all ≡ both_answers first second → Gives a x → Gives b y → Gives c z → Gives d w →
    Gives all (both_of (both_of x y) (both_of z w))
four_give {A} {B} {C} {D} a x b y c z d w first second all f s e ga gb gc gd =
    let P : Result ((A × B) × (C × D)) Refused → Type 0 = λ r. Gives r (both_of (both_of x y) (both_of z w)) in
    let same : both_answers (both_answers a b) (both_answers c d) ≡ all = sym (e ∙ ap (λ r. both_answers r second) f ∙ ap (λ r. both_answers (both_answers a b) r) s) in
    subst P same (both_gives _ _ _ _ (both_gives a x b y ga gb) (both_gives c z d w gc gd))
