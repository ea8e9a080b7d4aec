use Rattle.std.proofs.Common.{ℕ, ap, nat_eq, w64}
use Rattle.std.proofs.lemmas.Nat.Bits.{bit_at_set_same, bit_at_set_other}
use Rattle.strand_pages.proofs.bits.with_bit.Goals as goal

pub returns-clause-set : goal.returns-clause-set
returns-clause-set c = ap (λ (n : ℕ). nat_eq n 1) (bit_at_set_same w64 c.args.mask c.args.place c.requires)

pub returns-clause-others : goal.returns-clause-others
returns-clause-others c k other = ap (λ (n : ℕ). nat_eq n 1) (bit_at_set_other w64 c.args.mask c.args.place c.requires k other)
