use Rattle.std.proofs.Common.{◌≡◌, true, false, eqb, length, drop, ap, ◌∙◌}
use Rattle.cli_words.specs.io.Data.{is_blank}
use Rattle.cli_words.proofs.io.Scans.{all_pass, next_is}
use Rattle.cli_words.proofs.io.scan.next_word.Goals as goal

pub returns-then-is_empty-clause-none : goal.returns-then-is_empty-clause-none
returns-then-is_empty-clause-none c =
    let none : true ≡ eqb (length c.split_at.result.1.now) 0 = c.if-is_empty.ensures in
    all_pass is_blank c.args.text.now (rw (c.split_at.ensures.back, c.blanks_in_front.ensures.value) at none)

pub returns-clause-word : goal.returns-clause-word
returns-clause-word c =
    let some : false ≡ eqb (length c.split_at.result.1.now) 0 = c.if-is_empty.ensures in
    rw (c.split_at-2.ensures.front, c.split_at-2.ensures.back, c.solids_in_front.ensures.value)
    (next_is c.args.text.now c.split_at.result.1.now (c.split_at.ensures.back ∙ ap (λ n. drop n c.args.text.now) c.blanks_in_front.ensures.value) some)
