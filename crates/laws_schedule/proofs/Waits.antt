-- A frame that goes on waits for no call.
use Rattle.std.proofs.Common.{◌≡◌, ℕ, Option}
use Rattle.semantics.specs.Frames.{Free, OnRegion, OnCall}
use Rattle.linear.specs.declared.form.RegisterId.{RegisterId}

pub free_never : (k : ℕ) (d : Option RegisterId) → Free ≡ OnCall k d → ⊥
free_never k d e = cc

pub region_never : (r k : ℕ) (d : Option RegisterId) → OnRegion r ≡ OnCall k d → ⊥
region_never r k d e = cc

pub same_call : (k j : ℕ) (d e : Option RegisterId) → OnCall k d ≡ OnCall j e → d ≡ e
same_call k j d e same = cc
