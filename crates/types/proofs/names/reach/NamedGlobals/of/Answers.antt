use Rattle.types.proofs.names.Naming.{names_exactly}
use Rattle.types.proofs.names.reach.NamedGlobals.of.Goals as goal

pub returns : goal.returns
returns c =
    rw c.from_vec.ensures
    (names_exactly _ _ _ _ _ _ _ c.requires (rw c.deref.ensures.value c.in_ok-starts.ensures.one) (rw c.deref-2.ensures.value c.in_ok-stops.ensures.none)
    c.in_ok-marked.ensures.size c.in_ok-marked.ensures.exact (rw c.as_slice.ensures.value at c.in_ok-marks.ensures))
