-- Allocas that are read are sure.
use Rattle.std.proofs.Common.{◌≡◌, ◌∙◌, ℕ, ◌<◌, inl, inr, false, List, length, map, take, get_or, Some, None, refl, sym, arith}
use Rattle.std.specs.Prelude.{slice_get}
use Rattle.std.proofs.lemmas.List.{length-map}
use Rattle.std.proofs.lemmas.Bool.{cases_Bool, true≢false}
use Rattle.std.proofs.lemmas.Option.{slice_get-get_or, slice_get_within}
use Rattle.refusal.specs.declared.broken.Broken.{Broken}
use Rattle.refusal.proofs.Places.{same_read}
use Rattle.program.specs.declared.function.Block.{Block}
use Rattle.program.specs.declared.function.Function.{Function}
use Rattle.cfg.specs.declared.structure.BlockEdges.{BlockEdges}
use Rattle.cfg.specs.Edges.{graph_of}
use Rattle.region_match.specs.declared.task.Task.{Task}
use Rattle.region_match.specs.Tasks.{AreTasks}
use Rattle.definedness.specs.declared.act.Act.TheVariants.{Needs}
use Rattle.definedness.specs.declared.act.BlockActs.{BlockActs}
use Rattle.definedness.specs.declared.table.Given.{Given}
use Rattle.definedness.specs.AllocaActs.{alloca_acts}
use Rattle.definedness.specs.Definedness.{alloca_table, IsUnsure}
use Rattle.definedness.specs.Needs.{gives, given_of, numbers_at}
use Rattle.definedness.specs.Sure.{IsStored, IsFork, IsEndOf, IsNeverSure}
use Rattle.cost_table.specs.Depth.{tasks_of}
use Rattle.laws_verdict.specs.Sure.{AreReadsSure, ReadsAreSure}
use Rattle.verifier.proofs.Depths.{tasks_at, graph_long}
use Rattle.laws_verdict.proofs.sure.Decided.{contained, forked, ended, end_within}
use Rattle.laws_verdict.proofs.sure.Labelling.{Best, best_labelling}

module _ (function : Function) (tasks : List Task) (table : AreTasks (graph_of function).blocks tasks) where
  abbrev bodies : List Block
  bodies = function.blocks

  abbrev blocks : List BlockEdges
  blocks = (graph_of function).blocks

  abbrev all : List Given
  all = map given_of (alloca_table function)

  within : (d e : ℕ) → IsEndOf bodies blocks d e → e < length blocks
  within d e is = let w = end_within bodies e is.0 in let size = graph_long function in omega (arith, w, size)

  best : (alloca : ℕ) → Best (IsStored all alloca) (IsFork bodies) (IsEndOf bodies blocks) blocks within
      (λ b. contained (numbers_at all b) alloca) (forked bodies) (ended bodies blocks tasks table (graph_long function))
  best alloca = best_labelling (IsStored all alloca) (IsFork bodies) (IsEndOf bodies blocks) blocks within
      (λ b. contained (numbers_at all b) alloca) (forked bodies) (ended bodies blocks tasks table (graph_long function))

  never_sure : (alloca b : ℕ) → b < length blocks → (best alloca).sets None b ≡ false → IsNeverSure bodies blocks all alloca b
  never_sure alloca b w off l is sure = true≢false (sym ((best alloca).above l is b w sure) ∙ off)

  pub reads_sure : ((b : Broken) → IsUnsure function b → ⊥) → AreReadsSure function
  reads_sure unbroken = record {
    sets = λ alloca. (best alloca).sets;
    respects = λ alloca. (best alloca).is;
    reads = λ b k alloca line block is needs. elim (contained (gives (take k block.acts)) alloca) [
      | inl before ↦ inl before
      | inr lacks ↦ elim (cases_Bool ((best alloca).sets None b)) [
        | inl sure ↦ inr sure
        | inr off ↦
            let row = slice_get_within (alloca_table function) b block is in
            let rows = length-map function.blocks (λ (x : Block). let acts : BlockActs = record { acts = alloca_acts function.allocas x } in acts) in
            let w : b < length blocks = (let size = graph_long function in omega (arith, row, rows, size)) in
            let broken : Broken = record { line = line; number = 402 } in
            absurd (unbroken broken (b, block, is, (k, Needs alloca line, needs, (refl, refl, lacks, never_sure alloca b w off))))
      ]
    ];
  }

pub reads_are_sure : ReadsAreSure
reads_are_sure program accepted k d w =
    let right = accepted.means.3 in
    let function : Function = get_or program.functions k d in
    let at : slice_get program.functions k ≡ Some function = slice_get-get_or program.functions k d w in
    reads_sure function (tasks_of right.zones.0 k) (tasks_at program right.zones.0 right.zones.1 k function at)
    (λ b broken. right.definedness b (k, function, w, sym (same_read program.functions k d w), inr broken))
