-- The base, written.
use Rattle.std.proofs.Common.{◌≡◌, ◌∙◌, ◌+◌, ℕ, length, Some, None, refl, sym, ap, arith}
use Rattle.std.specs.Prelude.{slice_get}
use Rattle.frame_engine.specs.declared.activation.Frame.{Frame}
use Rattle.schedule_workers.specs.declared.activation.Activation.{Activation}
use Rattle.schedule_workers.specs.Scheduling.{counted_in}
use Rattle.strand.specs.declared.strand.Strand.{Strand}
use Rattle.schedule_commit.specs.strands.Committing.{IsBase, runner_under}
use Rattle.schedule_commit.specs.strands.Linking.{counted_above, counted_of, frames_of}

module _ (x : Strand) (old : Activation) (f target : Frame) (there : slice_get (frames_of x) 0 ≡ Some f)
    (only : target ≡ record old.frame { place = f.place; registers = target.registers; made = f.made; waits = f.waits }) (registers : target.registers.items ≡ f.registers.items) where
  -- alone
  pub base_alone : slice_get (frames_of x) 1 ≡ None → IsBase x old (record old { frame = target })
  base_alone none = record {
    frame = f;
    there = there;
    only = λ i. record old { frame = target; runner = runner_under (sym none i) old.runner };
    went = only;
    registers = registers;
    counts = λ region. sym (ap (λ o. counted_above o region + counted_in old region) none ∙ nothing (counted_in old region));
    as_many = refl;
  }
    where
      nothing : (n : ℕ) → 0 + n ≡ n
      nothing n = omega arith

  -- under the frame g
  pub base_under : (g : Frame) → slice_get (frames_of x) 1 ≡ Some g → (new : Activation) → new ≡ record old { frame = target; counts = new.counts; runner = None } → length new.counts.items ≡ length old.counts.items →
      ((region : ℕ) → counted_in new region ≡ counted_of g.role region + counted_in old region) → IsBase x old new
  base_under g above new is as_many counts =
      let same : new.frame ≡ target = ap (λ (a : Activation). a.frame) is in
      record {
        frame = f;
        there = there;
        only = is ∙ (λ i. record old { frame = sym same i; counts = new.counts; runner = runner_under (sym above i) old.runner });
        went = same ∙ (only ∙ (λ i. record old.frame { place = f.place; registers = (sym same i).registers; made = f.made; waits = f.waits }));
        registers = ap (λ (h : Frame). h.registers.items) same ∙ registers;
        counts = λ region. counts region ∙ ap (λ o. counted_above o region + counted_in old region) (sym above);
        as_many = as_many;
      }
