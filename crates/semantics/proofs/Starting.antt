-- The start, and the whole serial run from it.
use Rattle.std.proofs.Common.{◌≡◌, ℕ, ◌+◌, ◌≤◌, ◌<◌, max, List, [], ◌∷◌, ◌++◌, length, length-append, Option, Some, None, inl, inr, refl, sym, ap, ◌∙◌, subst, arith, ℤ}
use Rattle.std.proofs.lemmas.Bool.Decides.{eqb_tells}
use Rattle.semantics.specs.Paths.{Path}
use Rattle.semantics.specs.Cells.{Memory}
use Rattle.semantics.specs.Frames.{Free, OnCall, Child, Body, Frame}
use Rattle.semantics.specs.State.{State, apply, end_change, override_result, root_frame, start_state}
use Rattle.semantics.specs.CoreSteps.{core_step}
use Rattle.semantics.specs.Tree.{Tree}
use Rattle.semantics.specs.SerialMeaning.{Ending, Left, Gave, Outcome, IsSerialMeaning}
use Rattle.semantics.specs.Events.{start}
use Rattle.semantics.proofs.Confluence.{Run}
use Rattle.semantics.proofs.Steps.{end}
use Rattle.semantics.proofs.Diamond.{Goes}
use Rattle.semantics.proofs.Deep.{Deep}
use Rattle.semantics.proofs.SerialRun.{Stands, free, Ends, leaves_now, gives_now, at_end, Arrives, arrives_from, step_by, run_on, no_children, may}
use Rattle.semantics.proofs.Workers.{Unheld, Parked, Manned}
use Rattle.program.specs.declared.function.Program.{Program}

module _ (prog : Program) (arguments : List ℤ) (given : Memory) where
  abbrev first : Frame
  first = root_frame prog arguments

  abbrev pub begin : State
  begin = start_state prog arguments given

  pub at_start : (x : Path) (g : Frame) → begin.frames x ≡ Some g → (x ≡ []) × (g ≡ first)
  at_start [] g e = (refl, cc)
  at_start (k ∷ x) g e = absurd (cc)

  pub start_tree : Tree begin
  start_tree = record {
    has_parent = λ k p c e. absurd (cc);
    awaited = λ k p c e role. absurd (cc);
    lives = λ k d p g e wait. absurd (let (a, b) = at_start p g e in let w : Free ≡ OnCall k d = sym (ap (λ (y : Frame). y.waits) b) ∙ wait in cc);
  }

  pub start_deep : Deep begin
  unfolding Deep
  start_deep x g e = let (a, b) = at_start x g e in let l : length x ≡ 0 = ap length a in omega arith

  hand_at : (w : ℕ) (p : Path) → (start prog arguments given).hands w ≡ Some p → (0 ≡ w) × (p ≡ [])
  hand_at w p e = elim (eqb_tells 0 w) [ inl h ↦ (h.1, (let e2 = rw h.0 at e in cc)) | inr h ↦ absurd (let e2 = rw h.0 at e in cc) ]

  pub start_manned : (workers : ℕ) → 1 ≤ workers → Manned workers begin (start prog arguments given).hands
  start_manned workers some = record {
    tree = start_tree;
    below = λ w p e. subst (λ n. n < workers) (hand_at w p e).0 (omega arith);
    alone = λ v w p e h. sym (hand_at v p e).0 ∙ (hand_at w p h).0;
    goers = λ w p e. subst (λ x. Goes begin x) (sym (hand_at w p e).1) (record { frame = first; is = refl; may = refl });
    parked = parked;
  }
    where
      parked : (p : Path) (g : Frame) → begin.frames p ≡ Some g → Unheld (start prog arguments given).hands p → Parked begin p g
      parked [] g e n = absurd (n 0 refl)
      parked (k ∷ p) g e n = absurd (cc)

  start_stands : Stands begin [] first
  start_stands = record { is = refl; awake = free; bare = λ k. refl; tree = start_tree; deep = start_deep }

  -- the whole serial run: it ends with no frame
  pub record Finishes (o : Outcome) : Type 0 where
    pub labels : List Path
    pub last : State
    pub run : Run (λ p x. core_step prog p x) labels begin last
    pub count : length labels ≡ o.count
    pub none : last.frames [] ≡ None
    pub memory : last.memory ≡ o.memory
    pub peak : last.peak ≡ o.depth
    pub result : o.ending ≡ Gave last.result

  result_is : (v r : Option ℤ) → r ≡ None → override_result v r ≡ v
  result_is None r e = e
  result_is (Some z) r e = refl

  pub finishes : (o : Outcome) → IsSerialMeaning prog arguments given o → Finishes o
  finishes o meant = from o.ending refl a.ends
    where
      a : Arrives prog begin [] first o
      a = arrives_from prog meant.within [] first o begin start_stands meant.meets

      from : (x : Ending) → o.ending ≡ x → Ends prog [] a.last a.state.memory x → Finishes o
      from Left is (leaves_now r n at role) = absurd (let r2 : Body ≡ Child r n = sym a.role ∙ role in cc)
      from (Gave v) is (gives_now u at role) =
          let dp = end a.last v a.stands.is (may a.stands) at (no_children a.stands) role refl in
          let c = end_change [] v in
          record {
            labels = a.labels ++ [] ∷ [];
            last = apply c a.state;
            run = run_on prog a.labels ([] ∷ []) begin a.state (apply c a.state) a.run (apply c a.state, step_by prog a.state [] c dp, refl);
            count = let l : length (a.labels ++ [] ∷ []) ≡ length a.labels + 1 = length-append a.labels ([] ∷ []) in l ∙ a.count;
            none = refl;
            memory = subst (λ x. at_end [] x a.state.memory ≡ o.memory) is a.memory;
            peak = let h : a.state.peak ≡ max 1 (0 + o.depth) = a.peak in let one : 1 ≤ o.depth = a.some_depth in omega arith;
            result = is ∙ ap (λ x. Gave x) (sym (result_is v a.state.result a.result));
          }
