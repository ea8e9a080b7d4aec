use Rattle.std.specs.Prelude.{codes, string_bytes}
use Rattle.std.proofs.lemmas.Result.{on_ok_weaker}
use Rattle.ir_annotation.specs.Spelling.{form_text, relation_text, inequality_text}
use Rattle.ir_annotation.proofs.Written.{inequality_written}
use Rattle.ir_annotation.proofs.spelling.write_inequality.Goals as goal

pub returns : goal.returns
unfolding inequality_text
returns c =
    let i = c.args.inequality.now in
    on_ok_weaker _
    (inequality_written (codes " ") (string_bytes c.args.out.now) (string_bytes c.push_str.new.self) (string_bytes c.push_str-2.new.self) (string_bytes c.write_forms.new.out)
    c.args.word.now (form_text i.left) c.spaced_relation.result.now (relation_text i.relation) (form_text i.right)
    c.in_ok-push_str.ensures.bytes c.in_ok-push_str-2.ensures.bytes c.spaced_relation.ensures)
    c.write_forms.ensures
