use Rattle.std.proofs.Common.{◌≡◌, ◌∙◌, ◌+◌, ◌<◌, ℕ, List, [], ◌∷◌, ◌++◌, length, get_or, take, map, sym, ap, arith}
use Rattle.std.proofs.lemmas.List.{map_more, take_all}
use Rattle.definedness.specs.declared.act.BlockActs.{BlockActs}
use Rattle.definedness.specs.declared.table.Given.{Given}
use Rattle.definedness.specs.Needs.{given_of}
use Rattle.definedness.specs.Needs.{gives}
use Rattle.definedness.proofs.table.all_given.Goals as goal

given_push : (xs : List BlockActs) (i : ℕ) (b : BlockActs) (all : List Given) (n : List ℕ) → i < length xs → all ≡ map given_of (take i xs) → b ≡ get_or xs i b → n ≡ gives b.acts →
    let g : Given = record { numbers = n } in all ++ g ∷ [] ≡ map given_of (take (i + 1) xs)
given_push xs i b all n within a is e =
    (λ k. a k ++ (let g : Given = record { numbers = e k } in g) ∷ []) ∙ ap (λ y. map given_of (take i xs) ++ given_of y ∷ []) is ∙ sym (map_more given_of xs i b within)

pub loop-block-preserved : goal.loop-block-preserved
loop-block-preserved c =
    rw c.in_ok-push.ensures.items (given_push _ _ c.block-item.result _ _ c.loop-block-test.true c.loop-block.invariant c.block-item.is
    (c.from_vec.ensures ∙ c.in_ok-numbers.ensures ∙ ap gives c.as_slice.ensures))

pub returns : goal.returns
returns c = c.loop-block.invariant ∙ ap (map given_of) (take_all c.loop-block.block-index c.args.table.now (omega arith))
