-- What is so of the root, which stands alone when a run begins.
use Rattle.std.proofs.Common.{◌≡◌, ℕ, ◌-◌, ◌<◌, ◌≤◌, List, [], ◌++◌, get_or, length, replicate, Option, Some, None, Result, Ok, Err, Vec, Global, inl, inr, sym, ap, ◌∙◌, subst, arith, ℤ, pos, to_z, of_z, w64, length-append}
use Rattle.std.specs.Prelude.{IfOk, slice_get}
use Rattle.std.proofs.lemmas.Bool.Decides.{eqb_tells}
use Rattle.std.proofs.lemmas.Int.{to_z_pos}
use Rattle.std.proofs.lemmas.List.{get_or_past, length-replicate}
use Rattle.std.proofs.lemmas.Option.{same_Some}
use Rattle.lists.specs.declared.memory.OutOfMemory.{OutOfMemory}
use Rattle.program.specs.declared.identifier.FunctionId.{FunctionId}
use Rattle.frame.specs.declared.frame.Role.TheVariants.{Body}
use Rattle.frame.specs.declared.frame.Wait.TheVariants.{Nothing}
use Rattle.cactus.specs.declared.node.Node.{Node}
use Rattle.cactus.specs.Frames.{Frames, IsAdded, node_at}
use Rattle.frame_engine.specs.declared.activation.Frame.{Frame}
use Rattle.schedule_workers.specs.declared.activation.Activation.{Activation}
use Rattle.schedule_workers.specs.Follows.{AreGiven}
use Rattle.schedule_workers.specs.Roots.{IsRoot}
use Rattle.schedule_workers.specs.Scheduling.{counted_in}
use Rattle.schedule_workers.specs.Stalls.{StallsAgree, no_blocks}
use Rattle.schedule_workers.proofs.Noted.{run_free}
use Rattle.schedule_workers.proofs.Roomy.{get_more}

-- ---- the root's frame

abbrev made_frame : FunctionId → Vec ℤ Global → ℤ → Frame
made_frame main registers home = record {
  function = main;
  place = record { block = record { 0 = 0 }; index = 0 };
  registers = registers;
  home = home;
  made = 0;
  waits = Nothing;
  role = Body;
  depth = 0;
}

module _ (main : FunctionId) (arguments : List ℤ) (count start : ℕ) (registers : Vec ℤ Global) (home : ℤ) (few : length arguments ≤ count) (low : start < 9223372036854775808) (at : home ≡ to_z w64 start) (has : registers.items ≡ arguments ++ replicate (count - length arguments) (pos 0)) where
  as_many : length registers.items ≡ count
  as_many =
      let long = length-append arguments (replicate (count - length arguments) (pos 0)) in
      let rest = length-replicate (count - length arguments) (pos 0) in
      let same = ap (λ (xs : List ℤ). length xs) has in
      omega (arith, long, rest, same, few)

  low_home : to_z w64 start ≡ pos start
  low_home = to_z_pos w64 start low

  home_is : to_z w64 (of_z w64 home) ≡ pos start
  home_is = ap (λ (z : ℤ). to_z w64 (of_z w64 z)) (at ∙ low_home) ∙ low_home

  held : (x : ℕ) (z : ℤ) → slice_get arguments x ≡ Some z → slice_get registers.items x ≡ Some z
  held x z e = subst (λ (xs : List ℤ). slice_get xs x ≡ Some z) (sym has) (get_more arguments (replicate (count - length arguments) (pos 0)) x z e)

  pub root_is : (r : Result Activation OutOfMemory) →
      IfOk r (λ a. a ≡ record { frame = made_frame main registers (to_z w64 (of_z w64 home)); counts = a.counts; callee = None; runner = Some 0; stalled_in = None }) →
      IfOk r (λ a. (region : ℕ) → counted_in a region ≡ 0) →
      IfOk r (λ a. length a.counts.items ≡ length registers.items) →
      IfOk r (IsRoot main arguments count start)
  root_is (Err e) is none long = is
  root_is (Ok a) is none long =
      let regs : a.frame.registers ≡ registers = ap (λ (x : Activation). x.frame.registers) is in
      record {
        is = is ∙ ap (λ (f : Frame). record { frame = f; counts = a.counts; callee = None; runner = Some 0; stalled_in = None })
            (ap (λ (z : ℤ). made_frame main registers z) home_is ∙ ap (λ (v : Vec ℤ Global). made_frame main v (pos start)) (sym regs));
        none = none;
        as_many = long ∙ as_many;
        registers = ap (λ (v : Vec ℤ Global). length v.items) regs ∙ as_many;
        held = λ x z e. subst (λ (v : Vec ℤ Global). slice_get v.items x ≡ Some z) (sym regs) (held x z e);
      }

-- ---- the root alone

module _ (before after : Frames Activation) (a : Activation) (slot : ℕ) (bare : before.nodes ≡ []) (added : IsAdded before after (record { numbers = [] }) None a slot) where
  abbrev root : Node Activation
  root = record { generation = before.made; path = record { numbers = [] }; parent = None; frame = a }

  none_before : (s : ℕ) → node_at before s ≡ None
  none_before s = ap (λ (l : List (Option (Node Activation))). get_or l s None) bare ∙ get_or_past [] s None (omega arith)

  only_root : (s : ℕ) (n : Node Activation) → node_at after s ≡ Some n → root ≡ n
  only_root s n here =
      elim (eqb_tells slot s) [
        | inl h ↦ same_Some root n (sym added.change.changed ∙ subst (λ x. node_at after x ≡ Some n) (sym h.1) here)
        | inr h ↦ absurd (let e : None ≡ Some n = sym (none_before s) ∙ (sym (added.change.others s (λ e. h.1 (sym e))) ∙ here) in cc)
      ]

  pub root_given : AreGiven after
  root_given s n here =
      let old : before.made ≡ n.generation = ap (λ (x : Node Activation). x.generation) (only_root s n here) in
      let more = added.made in
      omega (arith, old, more)

  pub root_runs : a.runner ≡ Some 0 → StallsAgree no_blocks after
  root_runs runs s n here = run_free n.frame 0 (sym (ap (λ (x : Node Activation). x.frame.runner) (only_root s n here)) ∙ runs) None
