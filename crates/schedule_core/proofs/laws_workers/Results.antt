-- A result is there just where the root has returned.
use Rattle.std.proofs.Common.{◌≡◌, ◌∙◌, ℕ, List, [], Option, Some, None, refl, sym, ap, ℤ}
use Rattle.semantics.specs.Paths.{Path}
use Rattle.semantics.specs.Cells.{Memory}
use Rattle.semantics.specs.Frames.{Frame}
use Rattle.semantics.specs.State.{State, Change, apply, override, only}
use Rattle.semantics.specs.Tree.{Tree}
use Rattle.semantics.specs.Events.{Event, start}
use Rattle.semantics.specs.Replay.{replay}
use Rattle.semantics.specs.Sound.{NeverTraps}
use Rattle.semantics.proofs.Diamond.{Spot, is_moved, is_gone, is_fresh, is_above, spot}
use Rattle.semantics.proofs.Starting.{start_tree}
use Rattle.semantics.proofs.Steps.{Does, plain, detach, reattach, sync, call, ret, end}
use Rattle.semantics.proofs.TreeKept.{step_keeps_tree}
use Rattle.program.specs.declared.function.Program.{Program}
use Rattle.serial_machine.proofs.laws_schedule.safe.Replayed.{replay_good}

-- as long as the root lives there is no result
pub record IsOpen (s : State) : Type 0 where
  pub tree : Tree s
  pub none_yet : (f : Frame) → s.frames [] ≡ Some f → s.result ≡ None

module _ (prog : Program) where
  module _ (s : State) (p : Path) (c : Change) (does : Does prog s p c) where
    -- no step makes a root
    lived : Tree s → (g : Frame) → (apply c s).frames [] ≡ Some g → (f : Frame) × (s.frames [] ≡ Some f)
    lived tree g after = by (c.frames []) refl after
      where
        from : (o : Option Frame) → o ≡ Some g → Spot s p c.frames [] o → (f : Frame) × (s.frames [] ≡ Some f)
        from o is (is_moved f h here old new role made calls) = (f, old)
        from o is (is_gone f here old gone none hands) = absurd (let both : None ≡ Some g = sym gone ∙ is in cc)
        from o is (is_fresh k h above here old new free up made calls) = absurd (cc)
        from o is (is_above k d f h here old waits new role made free gone) = (f, old)

        by : (o : Option (Option Frame)) → c.frames [] ≡ o → override o (s.frames []) ≡ Some g → (f : Frame) × (s.frames [] ≡ Some f)
        by None at is = (g, is)
        by (Some o) at is = from o is (spot tree does [] o at)

  -- only the root's end gives a result, and the root goes with it
  quiet : (s : State) (p : Path) (c : Change) → Does prog s p c → (g : Frame) → (apply c s).frames [] ≡ Some g → s.result ≡ None → (apply c s).result ≡ None
  quiet s p c (plain f e is go at) g after none = none
  quiet s p c (detach f r b n is go at) g after none = none
  quiet s p c (reattach f r n is go at left role) g after none = none
  quiet s p c (sync f r b rs is go at) g after none = none
  quiet s p c (call f d callee vs is go at) g after none = none
  quiet s p c (ret f v k above h j d is go at left role here over waits) g after none = none
  quiet s p c (end f v is go at left role here) g after none =
      absurd (let gone : None ≡ Some g = ap (λ (q : Path). override (only q None []) (s.frames [])) (sym here) ∙ after in cc)

  open_kept : (s : State) (p : Path) (c : Change) → Does prog s p c → c.trap ≡ None → IsOpen s → IsOpen (apply c s)
  open_kept s p c does fine h = record {
    tree = step_keeps_tree h.tree does;
    none_yet = λ g after. let before = lived s p c does h.tree g after in quiet s p c does g after (h.none_yet before.0 before.1);
  }

  pub always_open : (arguments : List ℤ) (memory : Memory) (workers : ℕ) → NeverTraps prog workers (start prog arguments memory) → (events : List Event) → IsOpen (replay prog workers events (start prog arguments memory)).core
  always_open arguments memory workers never events =
      replay_good prog workers IsOpen open_kept events (start prog arguments memory) never (record { tree = start_tree prog arguments memory; none_yet = λ f is. refl })
