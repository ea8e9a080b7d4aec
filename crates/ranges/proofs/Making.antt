-- A form that is made, or refused at its bounds.
use Rattle.std.proofs.Common.{◌≡◌, refl, sym, Option, Some, None, Result, Ok, Err}
use Rattle.std.specs.Prelude.{IfOk, IsErr}
use Rattle.std.proofs.lemmas.Bool.{false≢true}
use Rattle.lists.specs.declared.memory.OutOfMemory.{OutOfMemory}
use Rattle.linear.specs.declared.fault.FormFault.{FormFault}
use Rattle.linear.specs.declared.fault.FormFault.TheVariants.{Bounds, Memory}
use Rattle.linear.specs.Terms.{Combination}

refused_is : (result : Result (Option Combination) OutOfMemory) (o : Option Combination) → IsErr result → IfOk result (λ f. f ≡ o)
refused_is (Ok f) o e = absurd (false≢true e)
refused_is (Err m) o e = tt

pub bounded_is : (made : Result Combination FormFault) (result : Result (Option Combination) OutOfMemory) (o : Option Combination) →
    IfOk made (λ f. result ≡ Ok (Some f)) → (made ≡ Err Bounds → result ≡ Ok None) → (made ≡ Err Memory → IsErr result) →
    IfOk made (λ f. o ≡ Some f) → (made ≡ Err Bounds → o ≡ None) → IfOk result (λ f. f ≡ o)
bounded_is (Ok f) result o some none memory exact refused = rw some (sym exact)
bounded_is (Err Bounds) result o some none memory exact refused = rw (none refl) (sym (refused refl))
bounded_is (Err Memory) result o some none memory exact refused = refused_is result o (memory refl)
