-- What each frame keeps with what its caller relies on is so of each state that a schedule leads to, whatever its cells hold.
use Rattle.std.proofs.Common.{◌≡◌, ◌∙◌, ℕ, List, [], None, sym, ap, subst, ℤ}
use Rattle.semantics.specs.Paths.{Path}
use Rattle.semantics.specs.Cells.{Memory}
use Rattle.semantics.specs.Frames.{Free, OnCall, Frame}
use Rattle.semantics.specs.State.{State, Change, apply, root_frame, start_state}
use Rattle.semantics.specs.Tree.{Tree}
use Rattle.semantics.specs.Events.{Event, start}
use Rattle.semantics.specs.Replay.{replay}
use Rattle.semantics.specs.Sound.{NeverTraps}
use Rattle.semantics.proofs.Starting.{at_start, start_tree}
use Rattle.semantics.proofs.Steps.{Does}
use Rattle.semantics.proofs.TreeKept.{step_keeps_tree}
use Rattle.program.specs.declared.function.Program.{Program}
use Rattle.serial_machine.specs.laws_conditions.theorem.Conditions.{Zone, PassesZonesOn}
use Rattle.serial_machine.proofs.laws_conditions.theorem.Feet.{Footed}
use Rattle.serial_machine.proofs.laws_conditions.theorem.FeetKept.{step_footed}
use Rattle.serial_machine.proofs.laws_schedule.safe.Replayed.{replay_good}

module _ (Z : Type 0) (zone : Z → Zone) (prog : Program) (fits : Path → Frame → Z → Type 0) (pending : Path → Frame → ℕ → Z) (expects : Frame → Z → Type 0)
    (passes : PassesZonesOn Z zone prog fits pending expects)
  where
    pub record Standing (s : State) : Type 0 where
      pub tree : Tree s
      pub feet : Path → Z
      pub footed : Footed Z zone fits pending expects s feet

    -- it rests on no memory
    pub standing_held : (s : State) (m : Memory) → Standing s → Standing (record s { memory = m })
    standing_held s m h = record {
      tree = record { has_parent = h.tree.has_parent; awaited = h.tree.awaited; lives = h.tree.lives };
      feet = h.feet;
      footed = record { own = h.footed.own; nested = h.footed.nested; waited = h.footed.waited; siblings = h.footed.siblings; expected = h.footed.expected };
    }

    pub standing_kept : (s : State) (p : Path) (c : Change) → Does prog s p c → c.trap ≡ None → Standing s → Standing (apply c s)
    standing_kept s p c does fine h =
        let (next, footed) = step_footed Z zone prog fits pending expects passes s h.tree h.feet h.footed p c does in
        record { tree = step_keeps_tree h.tree does; feet = next; footed = footed }

    module _ (arguments : List ℤ) (memory : Memory) (z : Z) (root : fits [] (root_frame prog arguments) z) where
      first_footed : Footed Z zone fits pending expects (start_state prog arguments memory) (λ x. z)
      first_footed = record {
        own = λ p f is on.
            let (a, b) = at_start prog arguments memory p f is in
            subst (λ (x : Path). fits x f z) (sym a) (subst (λ (y : Frame). fits [] y z) (sym b) root);
        nested = λ k p c e. absurd (cc);
        waited = λ k r n p f c e e2. absurd (cc);
        siblings = λ k j p c d differ e. absurd (cc);
        expected = λ k d p f is wait. absurd (let (a, b) = at_start prog arguments memory p f is in let w : Free ≡ OnCall k d = sym (ap (λ (y : Frame). y.waits) b) ∙ wait in cc);
      }

      pub always_stands : (workers : ℕ) → NeverTraps prog workers (start prog arguments memory) → (events : List Event) → Standing (replay prog workers events (start prog arguments memory)).core
      always_stands workers never events =
          replay_good prog workers Standing standing_kept events (start prog arguments memory) never
          (record { tree = start_tree prog arguments memory; feet = λ x. z; footed = first_footed })
