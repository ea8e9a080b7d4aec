use Rattle.std.proofs.Common.{◌≡◌, ◌++◌, take, false}
use Rattle.std.specs.Prelude.{string_bytes, flat_map}
use Rattle.ir_annotation.specs.Spelling.{term_text}
use Rattle.ir_annotation.proofs.spelling.write_terms.Given as goal

abbrev pub invariant-loop-term : goal.invariant-loop-term
invariant-loop-term l = string_bytes l.out ≡ string_bytes l.initial.out ++ flat_map (term_text false) (take l.term-index l.terms)
