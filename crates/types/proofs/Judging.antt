-- The answer of the whole.
use Rattle.std.proofs.Common.{◌≡◌, ℕ, List, map, length, ap, ◌∙◌, subst, Result, Ok, Err}
use Rattle.program.specs.declared.function.Program.{Program}
use Rattle.syntax.specs.declared.module.Module.{Module}
use Rattle.refusal.specs.declared.refused.Refused.{Refused}
use Rattle.refusal.specs.declared.refused.Refused.TheVariants.{Fault, Memory}
use Rattle.types.specs.declared.names.mention.Mentions.{Mentions}
use Rattle.types.specs.names.Address.{Items}
use Rattle.types.specs.Call.{Named}
use Rattle.types.specs.names.Told.{Gives}
use Rattle.types.specs.names.Item.{items_of}
use Rattle.types.specs.Meaning.{program_from, IsNamedIn}
use Rattle.types.specs.Typed.{Judges}
use Rattle.types.specs.names.Mention.{mentions_of, IsNamedTable}

by_table : (whole : Module) (named : Named) (answer : Result Program Refused) → IsNamedIn whole named → Gives answer (program_from (items_of whole) named whole) → Judges (λ program. program) whole answer
by_table whole named (Ok program) table g = (named, table, g)
by_table whole named (Err Memory) table g = tt
by_table whole named (Err (Fault number line)) table g = (named, table, g)

pub resolved : (whole : Module) (answer : Result Program Refused) (items : Items) (mentions mentions' : List Mentions) (globals : ℕ) (named named' : Named) →
    items ≡ items_of whole → mentions ≡ map (mentions_of items) whole.functions → mentions' ≡ mentions → globals ≡ length whole.globals →
    IsNamedTable mentions' globals named → named' ≡ named → Gives answer (program_from items named' whole) → Judges (λ program. program) whole answer
resolved whole answer items mentions mentions' globals named named' i m m' n table same g =
    let P : List Mentions → Type 0 = λ ms. IsNamedTable ms globals named in
    let Q : ℕ → Type 0 = λ k. IsNamedTable (map (mentions_of (items_of whole)) whole.functions) k named in
    let R : Items → Type 0 = λ is. Gives answer (program_from is named whole) in
    let S : Named → Type 0 = λ ns. Gives answer (program_from items ns whole) in
    by_table whole named answer
    (subst Q n (subst P (m' ∙ m ∙ ap (λ is. map (mentions_of is) whole.functions) i) table))
    (subst R i (subst S same g))
