-- The terminator of a block that is there or not.
use Rattle.std.proofs.Common.{◌≡◌, ℕ, ◌<◌, List, Some, None, false, length, get_or, sym, ltb, ltb-false}
use Rattle.std.proofs.lemmas.Option.{slice_get_past}
use Rattle.program.specs.declared.function.Block.{Block}
use Rattle.program.specs.declared.instruction.Ending.{Ending}
use Rattle.refusal.proofs.Places.{read_at}
use Rattle.region_match.specs.Rules.{ending_at}

pub ending_seen : (bodies : List Block) (b : ℕ) (body : Block) (e : Ending) → b < length bodies → body ≡ get_or bodies b body → body.ending ≡ Some e → Some e.terminator ≡ ending_at bodies b
ending_seen bodies b body e l at is = rw (read_at bodies b body l at, is)

pub ending_lacked : (bodies : List Block) (b : ℕ) (body : Block) → b < length bodies → body ≡ get_or bodies b body → body.ending ≡ None → None ≡ ending_at bodies b
ending_lacked bodies b body l at is = rw (read_at bodies b body l at, is)

pub ending_past : (bodies : List Block) (b : ℕ) → false ≡ ltb b (length bodies) → None ≡ ending_at bodies b
ending_past bodies b past = rw (slice_get_past bodies b (ltb-false b (length bodies) (sym past)))
