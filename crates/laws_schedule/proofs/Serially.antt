-- What the laws keep of frames along the serial run, put together.
use Rattle.std.proofs.Common.{◌≡◌, ◌≢◌, ℕ, Option, Some, None, refl}
use Rattle.semantics.specs.Paths.{Path}
use Rattle.semantics.specs.Cells.{Memory}
use Rattle.semantics.specs.Arithmetic.{Trap}
use Rattle.semantics.specs.Frames.{Free, OnRegion, OnCall, Frame}
use Rattle.semantics.specs.State.{wait_after, waiting}
use Rattle.laws_conditions.specs.theorem.Conditions.{Going}
use Rattle.laws_conditions.specs.theorem.SerialConditions.{Says, Finds, Nothing, KeptSerially}
use Rattle.laws_conditions.specs.theorem.InProofs.{And, FindsBoth}
use Rattle.laws_conditions.proofs.theorem.SerialExists.{kept_both}
use Rattle.linear.specs.declared.form.RegisterId.{RegisterId}
use Rattle.program.specs.declared.function.Program.{Program}
use Rattle.laws_phases.specs.region_match.Matched.{AreRegionsRight}
use Rattle.laws_conditions.specs.rules.Registers.{Registered, GivesNumber}
use Rattle.laws_phases.specs.defined.Defined.{IsAlways}
use Rattle.laws_phases.specs.defined.Names.{IsNamed}
use Rattle.laws_phases.specs.defined.Placed.{Placed, NoFinds}
use Rattle.laws_phases.specs.defined.Regions.{Owns}
use Rattle.laws_phases.specs.defined.Values.{NamesObjects, HasValues, KeepsValues, IsDefinednessRight}
use Rattle.laws_phases.proofs.defined.Kept.{values_are_kept}
use Rattle.laws_phases.proofs.defined.Placed.{tasks_kept_alone}
use Rattle.laws_phases.proofs.defined.Regions.{regions_are_kept}
use Rattle.laws_phases.proofs.defined.Registers.{defined_are_kept}
use Rattle.laws_schedule.specs.zones.ByPhases.{IsKeptBySteps}

-- ---- with more to rest on

pub kept_over : (prog : Program) (base more good : Says) (post : Finds) →
    ((p : Path) (f : Frame) (m : Memory) → more p f m → base p f m) →
    KeptSerially prog base good post → KeptSerially prog more good post
kept_over prog base more good post within k = record {
  plain_kept = λ p f m e b g at fine nb. k.plain_kept p f m e (within _ _ _ b) g at fine (within _ _ _ nb);
  sync_kept = λ p f m r t rs b g at nb. k.sync_kept p f m r t rs (within _ _ _ b) g at (within _ _ _ nb);
  child_kept = λ p f m r body next b g at nb. k.child_kept p f m r body next (within _ _ _ b) g at (within _ _ _ nb);
  continued_kept = λ p f m r body next b g at nc o gone h nb.
      k.continued_kept p f m r body next (within _ _ _ b) g at (within _ _ _ nc) o gone h (within _ _ _ nb);
  callee_kept = λ p f m d c vs b g at nb. k.callee_kept p f m d c vs (within _ _ _ b) g at (within _ _ _ nb);
  resumed_kept = λ p f m d c vs b g at nc o v gave h nb.
      k.resumed_kept p f m d c vs (within _ _ _ b) g at (within _ _ _ nc) o v gave h (within _ _ _ nb);
  reattach_finds = λ p f m r b g at. k.reattach_finds p f m r (within _ _ _ b) g at;
  return_finds = λ p f m v b g at. k.return_finds p f m v (within _ _ _ b) g at;
}

-- ---- what every step of every frame keeps is kept along the serial run, where no frame goes on while it waits for a call

abbrev pub Goes : Path → Frame → Memory → Type 0
Goes p f m = Going f

plain_goes : (o : Option Trap) (k : ℕ) (d : Option RegisterId) → o ≡ None → wait_after o ≢ OnCall k d
plain_goes None k d fine e = cc
plain_goes (Some t) k d fine e = absurd (cc)

pub free_goes : (k : ℕ) (d : Option RegisterId) → Free ≢ OnCall k d
free_goes k d e = cc

region_goes : (r k : ℕ) (d : Option RegisterId) → OnRegion r ≢ OnCall k d
region_goes r k d e = cc

goes_kept : (prog : Program) → KeptSerially prog Nothing Goes NoFinds
goes_kept prog = record {
  plain_kept = λ p f m e b g at fine nb. record { next = λ k d. plain_goes e.trap k d fine; finds = λ o h. tt };
  sync_kept = λ p f m r t rs b g at nb. record { next = λ k d. region_goes r k d; finds = λ o h. tt };
  child_kept = λ p f m r body next b g at nb. free_goes;
  continued_kept = λ p f m r body next b g at nc o gone h nb. record { next = free_goes; finds = λ u k. tt };
  callee_kept = λ p f m d c vs b g at nb. free_goes;
  resumed_kept = λ p f m d c vs b g at nc o v gave h nb. record { next = free_goes; finds = λ u k. tt };
  reattach_finds = λ p f m r b g at. tt;
  return_finds = λ p f m v b g at. tt;
}

abbrev pub Always : (Path → Frame → Type 0) → Says
Always holds p f m = holds p f

pub always_kept : (prog : Program) (holds : Path → Frame → Type 0) → IsKeptBySteps prog holds → KeptSerially prog Goes (Always holds) NoFinds
always_kept prog holds k = record {
  plain_kept = λ p f m e b g at fine nb. record { next = k.plain p f m e g b at fine; finds = λ o h. tt };
  sync_kept = λ p f m r t rs b g at nb. record { next = k.syncs p f m r t rs g b at; finds = λ o h. tt };
  child_kept = λ p f m r body next b g at nb. k.child p f m r body next g b at;
  continued_kept = λ p f m r body next b g at nc o gone h nb.
      record { next = k.continues p f m r body next g b at; finds = λ u x. tt };
  callee_kept = λ p f m d c vs b g at nb. k.callee p f m d c vs g b at;
  resumed_kept = λ p f m d c vs b g at nc o v gave h nb.
      record { next = k.resumes p (waiting f d) f.made d v (k.waits p f m d c vs g b at) refl; finds = λ u x. tt };
  reattach_finds = λ p f m r b g at. tt;
  return_finds = λ p f m v b g at. tt;
}

-- ---- all of it

-- a frame that goes on stands at its place: so far each holds of the frame alone
abbrev pub Stands : Program → (Path → Frame → Type 0) → Says
Stands prog kinded = And (And Goes (Always kinded)) (Placed prog)

-- cells and registers that have values, and the frame's own regions
abbrev pub Runs : Program → (Path → Frame → Type 0) → Says
Runs prog kinded = And (And (And (Stands prog kinded) (HasValues prog)) (Owns prog)) (Registered (IsAlways prog))

abbrev pub StandsFound : Finds
StandsFound = FindsBoth (FindsBoth NoFinds NoFinds) NoFinds

abbrev pub Found : Program → Finds
Found prog = FindsBoth (FindsBoth (FindsBoth StandsFound (KeepsValues prog)) NoFinds) (GivesNumber prog)

stands_kept : (prog : Program) → IsNamed prog → (kinded : Path → Frame → Type 0) → IsKeptBySteps prog kinded →
    KeptSerially prog Nothing (Stands prog kinded) StandsFound
stands_kept prog named kinded kept =
    kept_both prog Nothing (And Goes (Always kinded)) (Placed prog) (FindsBoth NoFinds NoFinds) NoFinds
    (kept_both prog Nothing Goes (Always kinded) NoFinds NoFinds (goes_kept prog)
    (kept_over prog Goes (And Nothing Goes) (Always kinded) NoFinds (λ p f m b. b.1) (always_kept prog kinded kept)))
    (kept_over prog Nothing (And Nothing (And Goes (Always kinded))) (Placed prog) NoFinds (λ p f m b. tt) (tasks_kept_alone prog named))

module _ (prog : Program) (named : IsNamed prog) (objects : NamesObjects prog) (matched : AreRegionsRight prog)
    (defined : IsDefinednessRight prog)
    (kinded : Path → Frame → Type 0) (kept : IsKeptBySteps prog kinded)
  where
    stored_kept : KeptSerially prog Nothing (And (Stands prog kinded) (HasValues prog)) (FindsBoth StandsFound (KeepsValues prog))
    stored_kept =
        kept_both prog Nothing (Stands prog kinded) (HasValues prog) StandsFound (KeepsValues prog) (stands_kept prog named kinded kept)
        (kept_over prog (Placed prog) (And Nothing (Stands prog kinded)) (HasValues prog) (KeepsValues prog) (λ p f m b. b.1.1)
        (values_are_kept prog named objects defined))

    owned_kept : KeptSerially prog Nothing (And (And (Stands prog kinded) (HasValues prog)) (Owns prog))
        (FindsBoth (FindsBoth StandsFound (KeepsValues prog)) NoFinds)
    owned_kept =
        kept_both prog Nothing (And (Stands prog kinded) (HasValues prog)) (Owns prog)
        (FindsBoth StandsFound (KeepsValues prog)) NoFinds stored_kept
        (kept_over prog (Placed prog) (And Nothing (And (Stands prog kinded) (HasValues prog))) (Owns prog) NoFinds (λ p f m b. b.1.0.1)
        (regions_are_kept prog named matched))

    pub runs_kept : KeptSerially prog Nothing (Runs prog kinded) (Found prog)
    runs_kept =
        kept_both prog Nothing (And (And (Stands prog kinded) (HasValues prog)) (Owns prog)) (Registered (IsAlways prog))
        (FindsBoth (FindsBoth StandsFound (KeepsValues prog)) NoFinds) (GivesNumber prog) owned_kept
        (kept_over prog Nothing (And Nothing (And (And (Stands prog kinded) (HasValues prog)) (Owns prog))) (Registered (IsAlways prog))
        (GivesNumber prog) (λ p f m b. tt) (defined_are_kept prog named matched))
