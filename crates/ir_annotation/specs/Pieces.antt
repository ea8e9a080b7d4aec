-- What the pieces of an annotation are as text.
use Rattle.std.specs.Prelude.{ℕ, List}
use Rattle.std.specs.Fmt.{decimal}
use Rattle.ir_annotation.specs.Spelling.{mode_text, object_text, form_text}
use Rattle.ir_annotation.specs.declared.pieces.Piece.{Piece}
use Rattle.ir_annotation.specs.declared.pieces.Piece.TheVariants as pieces

abbrev pub piece_text : Piece → List ℕ
piece_text (pieces.Text text) = text.now
piece_text (pieces.Name name) = name.now
piece_text (pieces.Mode mode) = mode_text mode
piece_text (pieces.Object object) = object_text object.now
piece_text (pieces.Form form) = form_text form.now
piece_text (pieces.Count n) = decimal n
