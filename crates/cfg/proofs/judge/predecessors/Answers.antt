use Rattle.std.proofs.Common.{◌≡◌, ℕ, ◌+◌, ◌<◌, List, [], ◌∷◌, ◌++◌, length, ap, get_or, map, take, ◌∙◌}
use Rattle.std.proofs.lemmas.List.{map-append, take_all, take_more}
use Rattle.cfg.specs.declared.structure.BlockEdges.{BlockEdges}
use Rattle.cfg.specs.Rules.{leads_to}
use Rattle.cfg.proofs.judge.predecessors.Goals as goal

mapped_more : {X A : Type 0} (f : X → A) (xs : List X) (i : ℕ) (d : X) (now : List A) → i < length xs → now ≡ map f (take i xs) → now ++ f (get_or xs i d) ∷ [] ≡ map f (take (i + 1) xs)
mapped_more f xs i d now l is = rw (is, take_more xs i d l, map-append f (take i xs) (get_or xs i d ∷ []))

pub loop-body-preserved : goal.loop-body-preserved
loop-body-preserved c =
    rw (c.in_ok-push.ensures.items, c.leads_to.ensures, c.body-item.is) (mapped_more (λ (body : BlockEdges). leads_to c.args.block body.edges) c.args.blocks.now c.loop-body.body-index c.body-item.result c.loop-body.marks.items
    c.loop-body-test.true c.loop-body.invariant)

pub returns : goal.returns
returns c =
    c.loop-body.invariant ∙ ap (map (λ (body : BlockEdges). leads_to c.args.block body.edges)) (take_all c.loop-body.body-index c.args.blocks.now c.loop-body-test.false)
