use Rattle.std.proofs.Common.{◌∙◌, suc, length, ap, arith}
use Rattle.std.proofs.lemmas.List.{length-map}
use Rattle.definedness.proofs.Undefined.{undefined_named, table_size}
use Rattle.definedness.specs.Needs.{given_of}
use Rattle.definedness.proofs.check.register_fault.Goals as goal

pub missing_rows-requires : goal.missing_rows-requires
missing_rows-requires c = ap length (c.deref-3.ensures.value ∙ c.in_ok-all.ensures) ∙ length-map c.deref.result.now given_of ∙ ap length (c.deref.ensures.value ∙ c.in_ok-table.ensures) ∙ table_size c.args.function.now c.args.blocks.now c.requires

pub returns : goal.returns
returns c = undefined_named c.args.function.now c.args.blocks.now c.in_ok-table.table.items c.deref.result.now c.deref-2.result.now c.deref-5.result.now c.in_ok-all.all.items c.deref-3.result.now c.in_ok-rows.rows.items c.deref-4.result.now (suc c.greatest_needed-greatest.result) _ c.requires c.in_ok-table.ensures c.deref.ensures.value c.deref-2.ensures.value c.deref-5.ensures.value c.in_ok-all.ensures c.deref-3.ensures.value c.deref-4.ensures.value c.greatest_needed-greatest.ensures (λ n b l w. c.in_ok-rows.ensures n b (omega (arith, l)) w) c.in_ok-table_fault.ensures
