use Rattle.std.proofs.Common.{◌≡◌, ◌+◌, ◌++◌, List, length, replicate, None, sym, ap, ◌∙◌, subst, arith, pos, refl}
use Rattle.std.specs.Prelude.{map, sum}
use Rattle.semantics.specs.Events as running
use Rattle.program.specs.declared.function.Alloca.{Alloca}
use Rattle.cactus.specs.Frames.{Frames}
use Rattle.schedule_workers.specs.declared.activation.Activation.{Activation}
use Rattle.schedule_workers.specs.declared.run.Run.{Run}
use Rattle.schedule_workers.specs.Roots.{HasBlock, IsRoot}
use Rattle.schedule_workers.specs.Follows.{AreGiven}
use Rattle.schedule_workers.specs.RunShown.{IsShown}
use Rattle.schedule_workers.specs.Stalls.{StallsAgree, no_blocks}
use Rattle.schedule_workers.proofs.Rooted.{root_given, root_runs}
use Rattle.schedule_workers.proofs.Starting.{IsFirst, begin_shown, main_cells}
use Rattle.schedule_workers.proofs.run.Run.start.Goals as goal

pub returns-clause-begins : goal.returns-clause-begins
returns-clause-begins c =
    let prog = c.args.program.now in
    let arguments = c.args.arguments.now in
    let f = c.function_at-main.result.now in
    let numbers = c.args.numbers in
    let slot = c.in_ok-slot.slot in
    let a = c.in_ok-root.root in
    let blocks = c.in_ok-first_blocks.field-0.items in
    let many : c.in-Some.cells ≡ main_cells f = c.in-Some.ensures.some ∙ ap (λ (xs : List Alloca). sum (map (λ (x : Alloca). x.cells) xs)) c.as_slice.ensures in
    let home : c.len-start.result ≡ length numbers.items = c.len-start.ensures ∙ numbers.ok.0 in
    let sum_is = c.in-Some-checked_add.ensures.1 in
    let end : c.in-Some-checked_add.end ≡ length numbers.items + main_cells f = omega (arith, sum_is, home, many) in
    let begun : Frames Activation → Run = λ frames. record {
      alloc = c.args.alloc;
      cactus = frames;
      cells = c.grow.new.self;
      blocks = c.in_ok-first_blocks.field-0;
      lent = record { start = c.in-Some-checked_add.end; cells = 0 };
      end = c.in-Some-checked_add.end;
      hands = c.in_ok-first_hands.field-0;
      instructions = 0;
      peak = 1;
      result = None;
      moves = c.in_ok-vec.field-0;
    } in
    let first : IsFirst prog arguments numbers.items f c.args.workers slot a (begun c.add_root.new.self) = record {
      before = c.new-cactus.result;
      bare = c.new-cactus.ensures.none;
      unmade = c.new-cactus.ensures.made;
      tree = c.new-cactus.ensures.tree;
      added = c.in_ok-slot.ensures.ok;
      grows = c.in_ok-slot.ensures.map;
      root = subst (λ n. IsRoot prog.main arguments n (length numbers.items) a) c.len.ensures (subst (λ n. IsRoot prog.main arguments c.len.result n a) home c.in_ok-root.ensures);
      cells = c.in_ok-grow.ensures.grown ∙ ap (λ n. numbers.items ++ replicate n (pos 0)) many;
      blocks = subst (λ n. HasBlock blocks slot (record { start = n; cells = main_cells f })) home (subst (λ n. HasBlock blocks slot (record { start = c.len-start.result; cells = n })) many c.in_ok-first_blocks.ensures);
      lent = refl;
      end = end;
      hands = c.in_ok-first_hands.ensures;
      instructions = refl;
      peak = refl;
      result = refl;
    } in
    λ places memory at stands.
    subst (λ frames. IsShown prog places (running.start prog arguments memory) (begun frames)) (sym c.cactus.view_is)
    (begin_shown prog arguments numbers.items f c.args.workers slot a (begun c.add_root.new.self) first c.requires.workers c.function_at-main.ensures (c.requires.entry f c.function_at-main.ensures) places memory at stands)

pub returns-clause-given : goal.returns-clause-given
returns-clause-given c =
    subst AreGiven (sym c.cactus.view_is) (root_given c.new-cactus.result c.add_root.new.self c.in_ok-root.root c.in_ok-slot.slot c.new-cactus.ensures.none c.in_ok-slot.ensures.ok)

pub returns-clause-stalls : goal.returns-clause-stalls
returns-clause-stalls c =
    let runs = ap (λ (x : Activation). x.runner) c.in_ok-root.ensures.is in
    subst (StallsAgree no_blocks) (sym c.cactus.view_is) (root_runs c.new-cactus.result c.add_root.new.self c.in_ok-root.root c.in_ok-slot.slot c.new-cactus.ensures.none c.in_ok-slot.ensures.ok runs)
