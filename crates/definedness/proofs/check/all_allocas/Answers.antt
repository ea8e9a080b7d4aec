use Rattle.std.proofs.Common.{◌≡◌, ◌∙◌, ◌+◌, ◌<◌, ℕ, List, [], ◌∷◌, ◌++◌, length, get_or, take, map, sym, ap}
use Rattle.std.proofs.lemmas.List.{map_more, take_all}
use Rattle.program.specs.declared.function.Alloca.{Alloca}
use Rattle.program.specs.declared.function.Block.{Block}
use Rattle.definedness.specs.declared.act.Act.{Act}
use Rattle.definedness.specs.declared.act.BlockActs.{BlockActs}
use Rattle.definedness.specs.AllocaActs.{alloca_acts}
use Rattle.definedness.proofs.check.all_allocas.Goals as goal

abbrev acts_of : List Alloca → Block → BlockActs
acts_of allocas block = record { acts = alloca_acts allocas block }

acts_push : (allocas : List Alloca) (xs : List Block) (i : ℕ) (b : Block) (table : List BlockActs) (acts : List Act) → i < length xs → table ≡ map (acts_of allocas) (take i xs) → b ≡ get_or xs i b → acts ≡ alloca_acts allocas b →
    let made : BlockActs = record { acts = acts } in table ++ made ∷ [] ≡ map (acts_of allocas) (take (i + 1) xs)
acts_push allocas xs i b table acts within t is e =
    (λ k. t k ++ (let made : BlockActs = record { acts = e k } in made) ∷ []) ∙ ap (λ y. map (acts_of allocas) (take i xs) ++ acts_of allocas y ∷ []) is ∙ sym (map_more (acts_of allocas) xs i b within)

pub loop-block-preserved : goal.loop-block-preserved
loop-block-preserved c =
    rw c.in_ok-push.ensures.items (acts_push _ _ _ c.block-item.result _ _ c.loop-block-test.true c.loop-block.invariant c.block-item.is
    (c.from_vec.ensures ∙ c.in_ok-acts.ensures))

pub returns : goal.returns
returns c =
    c.loop-block.invariant ∙ ap (map (acts_of c.as_slice-allocas.result.now)) (take_all c.loop-block.block-index c.as_slice-block-items.result.now c.loop-block-test.false)
    ∙ (λ k. map (acts_of (c.as_slice-allocas.ensures k)) (c.as_slice-block-items.ensures k))
