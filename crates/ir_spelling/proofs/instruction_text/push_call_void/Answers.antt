use Rattle.std.proofs.Common.{◌++◌}
use Rattle.std.specs.Prelude.{string_bytes, codes}
use Rattle.ir_spelling.specs.Spelling.{arguments_text}
use Rattle.ir_spelling.specs.InstructionText.{call_void_text}
use Rattle.ir_spelling.proofs.Grouped.{call_void_ends}
use Rattle.ir_spelling.proofs.Pushed.{pushed}
use Rattle.ir_spelling.proofs.instruction_text.push_call_void.Goals as goal

pub returns : goal.returns
unfolding call_void_text
returns c =
    pushed c.push_str.result (string_bytes c.push_str.new.self) (string_bytes c.push_arguments.new.out) (codes ")")
    (string_bytes c.args.out.now ++ call_void_text c.args.callee.now c.args.arguments.now) c.push_str.ensures.bytes
    (rw (c.in_ok-push_arguments.ensures, c.in_ok-push_pieces.ensures)
    (call_void_ends (string_bytes c.args.out.now) (codes "call void @") c.args.callee.now (codes "(") (arguments_text c.args.arguments.now) (codes ")")))
