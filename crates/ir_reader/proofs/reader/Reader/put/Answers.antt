use Rattle.std.proofs.Common.{sym}
use Rattle.ir_reader.proofs.Tracked.{counts_follow, put_of}
use Rattle.ir_reader.proofs.reader.Reader.put.Goals as goal

pub placed-requires : goal.placed-requires
placed-requires c = λ e h. counts_follow c.args.self e c.args.number c.args.line.item c.with-self.result c.requires c.with-self.ensures (sym h)

pub returns-in-Ok : goal.returns-in-Ok
returns-in-Ok c =
    let put = put_of c.args.self c.with-self.result c.define.new.self c.args.number c.args.line c.in-Ok.is_new c.placed.result c.requires c.with-self.ensures c.in-Ok.ensures.fresh c.in-Ok.ensures.ok c.placed.ensures in
    record { tracked = put.tracked; read = put.read; fault = put.fault }
