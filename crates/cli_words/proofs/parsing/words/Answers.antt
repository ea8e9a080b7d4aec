use Rattle.std.proofs.Common.{◌≡◌, List, ℕ, Some, map, rules}
use Rattle.std.proofs.lemmas.Result.{IfOk-weaker}
use Rattle.clap.specs.Matches.{subcommand_name_of}
use Rattle.cli_words.specs.Asked.{IsAsked, word_of}
use Rattle.cli_words.proofs.parsing.words.Goals as goal

pub returns-in-Some-verb_of : goal.returns-in-Some-verb_of
returns-in-Some-verb_of c =
    let named : subcommand_name_of c.in-Ok.matches ≡ Some c.in-Some.word.now = search rules in
    let meant : c.in-Some.word.now ≡ word_of c.in-Some-verb_of.verb = search rules in
    let texts : List (List ℕ) = map (λ w. w.now) c.args.words.now in
    IfOk-weaker c.request_for.result (λ r. r.verb ≡ c.in-Some-verb_of.verb) (λ r. IsAsked texts r.verb)
    (λ r e. record {
      command = c.in_ok-command.field-0;
      matches = c.in-Ok.matches;
      is_parsed = c.in-Ok.ensures.parsed;
      finds = c.in-Ok.ensures.matches;
      is_named = rw (e, ← meant) named;
    })
    c.request_for.ensures
