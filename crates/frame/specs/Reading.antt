-- How the parts of a machine's frame read in the definitions of running.
use Rattle.semantics.specs.Frames as frames
use Rattle.semantics.specs.Frames.{Free, OnRegion, OnCall}
use Rattle.frame.specs.declared.frame.Wait.{Wait}
use Rattle.frame.specs.declared.frame.Wait.TheVariants as wait
use Rattle.frame.specs.declared.frame.Role.{Role}
use Rattle.frame.specs.declared.frame.Role.TheVariants as role

abbrev pub wait_of : Wait → frames.Wait
wait_of wait.Nothing = Free
wait_of (wait.Region r) = OnRegion r.0
wait_of (wait.Call child r) = OnCall child r

abbrev pub role_of : Role → frames.Role
role_of role.Body = frames.Body
role_of (role.Child region continuation) = frames.Child region.0 continuation.0
