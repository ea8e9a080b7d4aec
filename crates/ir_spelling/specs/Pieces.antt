-- Only the printer's own functions need these: the parts of lines, as text.
use Rattle.std.specs.Prelude.{ℕ, ◌*◌, List}
use Rattle.std.specs.Fmt.{signed_decimal, decimal}
use Rattle.ir_annotation.specs.Spelling.{zone_text, measure_text, budget_text, pending_text, left_text, foot_text}
use Rattle.ir_instruction.specs.Spelling.{width_word}
use Rattle.ir_spelling.specs.Spelling.{operand_text, address_text}
use Rattle.ir_spelling.specs.declared.pieces.Piece.{Piece}
use Rattle.ir_spelling.specs.declared.pieces.Piece.TheVariants as pieces

abbrev pub piece_text : Piece → List ℕ
piece_text (pieces.Text text) = text.now
piece_text (pieces.Name name) = name.now
piece_text (pieces.Value value) = operand_text value.now
piece_text (pieces.Pointer address) = address_text address.now
piece_text (pieces.Number n) = signed_decimal n
piece_text (pieces.Cells cells) = decimal cells
piece_text (pieces.BytesOf cells) = decimal (cells * 8)
piece_text (pieces.Width width) = width_word width
piece_text (pieces.Zone zone) = zone_text zone.now
piece_text (pieces.Measure measure) = measure_text measure.now
piece_text (pieces.Budget budget) = budget_text budget.now
piece_text (pieces.Pending pending) = pending_text pending.now
piece_text (pieces.Left left) = left_text left.now
piece_text (pieces.Foot foot) = foot_text foot.now
