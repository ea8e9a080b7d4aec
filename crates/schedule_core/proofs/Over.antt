-- Where the root has returned there is no frame, and so nothing that an event could move.
use Rattle.std.proofs.Common.{◌≡◌, ℕ, [], ◌∷◌, Option, Some, None, Bool, true, false, cond, refl, sym, ap, ◌∙◌, ltb, is_none, ◌&&◌}
use Rattle.semantics.specs.Paths.{Path}
use Rattle.semantics.specs.Arithmetic.{Trap}
use Rattle.semantics.specs.Frames.{Frame}
use Rattle.semantics.specs.State.{State}
use Rattle.semantics.specs.Tree.{Tree}
use Rattle.semantics.specs.Events.{Machine, Event, Step, Steal, by_frame, by_hand, event, sound_event, start, status_of, stolen, if_ready, unless_trapped}
use Rattle.semantics.specs.Replay.{replay}
use Rattle.program.specs.declared.function.Program.{Program}
use Rattle.schedule_core.specs.Over.{EndedEnablesNothing}
use Rattle.schedule_core.proofs.Reached.{reached_manned}

unless : {A : Type 0} (b : Bool) (o : Option A) → o ≡ None → cond b o None ≡ None
unless true o e = e
unless false o e = refl

-- without the root there is no frame
pub no_frames : (s : State) → Tree s → s.frames [] ≡ None → (p : Path) → s.frames p ≡ None
no_frames s tree none [] = none
no_frames s tree none (k ∷ p) = from (s.frames (k ∷ p)) refl (no_frames s tree none p)
  where
    from : (o : Option Frame) → s.frames (k ∷ p) ≡ o → s.frames p ≡ None → s.frames (k ∷ p) ≡ None
    from None e up = e
    from (Some c) e up = let (f, at, lt) = tree.has_parent k p c e in absurd (let h : None ≡ Some f = sym up ∙ at in cc)

module _ (prog : Program) (workers : ℕ) (c : Machine) (none : (p : Path) → c.core.frames p ≡ None) where
  by_no_hand : (w : ℕ) (o : Option Path) → by_hand prog workers c w o ≡ None
  by_no_hand w None = refl
  by_no_hand w (Some p) = ap (by_frame prog workers c w p) (none p)

  nothing_enabled : (e : Event) → sound_event prog workers e c ≡ None
  nothing_enabled (Step w) = by_no_hand w (c.hands w)
  nothing_enabled (Steal w t) = unless (ltb w workers && is_none (c.hands w)) (if_ready (stolen c w t) (status_of workers c t)) (rw (none t) refl)

pub no_root : (o : Option Frame) → is_none o ≡ true → o ≡ None
no_root None e = refl
no_root (Some f) e = absurd (cc)

pub ended_enables_nothing : EndedEnablesNothing
ended_enables_nothing prog arguments memory workers some events over e = by c.trapped refl
  where
    c : Machine
    c = replay prog workers events (start prog arguments memory)

    by : (o : Option Trap) → c.trapped ≡ o → event prog workers e c ≡ None
    by (Some t) is = ap (λ o. unless_trapped o (sound_event prog workers e c)) is
    by None is =
        let tree = (reached_manned prog workers c some (record { arguments = arguments; memory = memory; events = events; after = refl }) is).tree in
        ap (λ o. unless_trapped o (sound_event prog workers e c)) is ∙ nothing_enabled prog workers c (no_frames c.core tree (no_root (c.core.frames []) over)) e
