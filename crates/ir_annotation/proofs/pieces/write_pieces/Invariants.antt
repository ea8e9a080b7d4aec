use Rattle.std.proofs.Common.{◌≡◌, ◌++◌, take}
use Rattle.std.specs.Prelude.{string_bytes, flat_map}
use Rattle.ir_annotation.specs.Pieces.{piece_text}
use Rattle.ir_annotation.proofs.pieces.write_pieces.Given as goal

abbrev pub invariant-loop-piece : goal.invariant-loop-piece
invariant-loop-piece l = string_bytes l.out ≡ string_bytes l.initial.out ++ flat_map piece_text (take l.piece-index l.pieces)
