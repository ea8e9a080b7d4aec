-- Going over cases of which no two may share a number or a label.
use Rattle.std.proofs.Common.{◌≡◌, ◌-◌, ◌≤◌, false, List, [], ◌∷◌, length, take, drop, get_or, refl, sym, ap, ◌∙◌, arith}
use Rattle.std.specs.List.{list_any}
use Rattle.std.proofs.lemmas.List.{take_rest}
use Rattle.ir_instruction.specs.declared.switch.SpelledCase.{SpelledCase}
use Rattle.ir_instruction.specs.Cases.{share_number_or_label, are_distinct}

-- behind a case that shares nothing with the others
pub others_distinct : (cs : List SpelledCase) (c : SpelledCase) → 1 ≤ length cs → c ≡ get_or cs 0 c → false ≡ list_any (share_number_or_label c) (take (length cs - 1) (drop 1 cs))
    → are_distinct (take (length cs - 1) (drop 1 cs)) ≡ are_distinct cs
others_distinct [] c some first apart = absurd (omega arith)
others_distinct (d ∷ cs) c some first apart =
    let rest : take (length (d ∷ cs) - 1) (drop 1 (d ∷ cs)) ≡ cs = take_rest (d ∷ cs) 1 in
    let none : list_any (share_number_or_label d) cs ≡ false = sym (apart ∙ ap (list_any (share_number_or_label c)) rest ∙ ap (λ (e : SpelledCase). list_any (share_number_or_label e) cs) first) in
    ap are_distinct rest ∙ rw none refl
