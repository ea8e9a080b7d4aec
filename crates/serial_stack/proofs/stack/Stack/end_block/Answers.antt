use Rattle.std.proofs.Common.{Some, ap, ◌∙◌}
use Rattle.semantics.specs.Frames.{Ends}
use Rattle.program.specs.declared.instruction.Terminator.{Terminator}
use Rattle.serial_stack.proofs.stack.Stack.end_block.Goals as goal

pub return_with-requires : goal.return_with-requires
return_with-requires c = record { stands = c.requires.stands; text = c.requires.text; item = c.requires.item ∙ ap (λ (t : Terminator). Some (Ends t)) c.in-Return.is; safe = c.requires.safe }

pub detach-requires : goal.detach-requires
detach-requires c = record { stands = c.requires.stands; text = c.requires.text; item = c.requires.item ∙ ap (λ (t : Terminator). Some (Ends t)) c.in-Detach.is; numbers = c.requires.numbers }

pub reattach-requires : goal.reattach-requires
reattach-requires c = record { item = c.requires.item ∙ ap (λ (t : Terminator). Some (Ends t)) c.in-Reattach.is; safe = c.requires.safe }

pub sync-requires : goal.sync-requires
sync-requires c = record { stands = c.requires.stands; text = c.requires.text; item = c.requires.item ∙ ap (λ (t : Terminator). Some (Ends t)) c.in-Sync.is; safe = c.requires.safe }

pub returns-in-Return-clause-goes : goal.returns-in-Return-clause-goes
returns-in-Return-clause-goes c = c.return_with.ensures.goes

pub returns-in-Sync-clause-moves : goal.returns-in-Sync-clause-moves
returns-in-Sync-clause-moves c = c.sync.ensures.moves
