use Rattle.std.proofs.Common.{string_bytes, sym, ◌∙◌}
use Rattle.std.proofs.lemmas.Result.{IfOk-weaker}
use Rattle.ir_text.proofs.Bridge.{module_same}
use Rattle.ir_text.proofs.RoundTrip.{if_read_back}
use Rattle.ir_text.proofs.printer.print.Goals as goal

pub returns-clause-text : goal.returns-clause-text
returns-clause-text c = IfOk-weaker c.spelled.result _ _ (λ text h. h ∙ sym (module_same _)) c.spelled.ensures

pub returns-clause-read_back : goal.returns-clause-read_back
returns-clause-read_back c = if_read_back string_bytes _ _ (returns-clause-text c)
