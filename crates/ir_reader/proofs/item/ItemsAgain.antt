-- The line that prints an item says the item.
use Rattle.std.proofs.Common.{◌≡◌, ℕ, Bool, true, List, ◌++◌, Option, Some, Result, Ok, refl, sym, ap, ◌∙◌, eq-eqb}
use Rattle.std.specs.Prelude.{nat_lt}
use Rattle.std.specs.List.{list_all}
use Rattle.ir_annotation.specs.Annotations.{annotation_words}
use Rattle.ir_annotation.proofs.LinesAgain.{annotation_again}
use Rattle.ir_reader.specs.declared.item.item.Item.{Item}
use Rattle.ir_reader.specs.declared.item.item.Item.TheVariants as item
use Rattle.ir_reader.specs.declared.item.line.Line.{Line}
use Rattle.ir_instruction.specs.Symbols.{is_within_limits}
use Rattle.ir_instruction.specs.Fits.{is_some_list}
use Rattle.ir_reader.specs.item.Items.{item_fits}
use Rattle.ir_reader.specs.item.Lines.{annotation_line, line_of}
use Rattle.ir_instruction.specs.Spelling.{Atom, spaces, text_of, symbols_in}
use Rattle.ir_reader.specs.item.Items.{item_atoms}
use Rattle.ir_instruction.specs.Spelled.{are_spelled}
use Rattle.ir_reader.specs.item.Printed.{item_on, IsSpelledItem, IsKeptItem, item_text, said}
use Rattle.ir_reader.proofs.item.LineAgain.{line_again}
use Rattle.ir_reader.proofs.item.NoteAgain.{note_again}
use Rattle.ir_reader.proofs.item.Shown.{annotation_words_are}

abbrev Says : ℕ → ℕ → Item → Type 0
Says at k i = line_of at (spaces k ++ item_text i) ≡ Ok (Some (said (item_on at i)))

fits_at : (at : ℕ) (i : Item) → item_fits 0 (item_on 0 i) ≡ true → item_fits at (item_on at i) ≡ true
fits_at at (item.Global g) h = let here : nat_lt 0 g.cells ≡ true = h in rw (eq-eqb at at refl, here) refl
fits_at at (item.Phi p) h = let here : is_some_list p.entries ≡ true = h in rw (eq-eqb at at refl, here) refl
fits_at at (item.Define name r ps) h = h
fits_at at (item.Label name) h = h
fits_at at (item.Instruction i) h = h
fits_at at (item.Terminator t) h = h
fits_at at item.Close h = h
fits_at at (item.Annotation a) h = h

spelled_again : (at k : ℕ) (i : Item) → IsSpelledItem i → item_atoms (item_on at i) ≡ item_atoms i → line_of at (spaces k ++ text_of (item_atoms i)) ≡ Ok (Some (said (item_on at i)))
spelled_again at k i is same =
    let on : Item = item_on at i in
    let spelled : are_spelled (item_atoms on) ≡ true = ap are_spelled same ∙ is.spelled in
    let within : list_all is_within_limits (symbols_in (item_atoms on)) ≡ true = ap (λ (as_ : List Atom). list_all is_within_limits (symbols_in as_)) same ∙ is.within in
    ap (λ (as_ : List Atom). line_of at (spaces k ++ text_of as_)) (sym same) ∙ line_again at k on (fits_at at i is.fits) spelled
    ∙ ap (λ (w : Bool). let l : Line = record { item = on; is_within_limits = w } in let r : Result (Option Line) ℕ = Ok (Some l) in r) within

-- The line that prints an item that is kept says the item again, on its own line.
pub kept_again : (at k : ℕ) (i : Item) → IsKeptItem i → line_of at (spaces k ++ item_text i) ≡ Ok (Some (said (item_on at i)))
kept_again at k (item.Annotation a) is = note_again at k (annotation_words a) (annotation_words_are a is) ∙ ap annotation_line (annotation_again at a is)
kept_again at k (item.Global g) is = spelled_again at k (item.Global g) is refl
kept_again at k (item.Define name r ps) is = spelled_again at k (item.Define name r ps) is refl
kept_again at k (item.Label name) is = spelled_again at k (item.Label name) is refl
kept_again at k (item.Phi p) is = spelled_again at k (item.Phi p) is refl
kept_again at k (item.Instruction i) is = spelled_again at k (item.Instruction i) is refl
kept_again at k (item.Terminator t) is = spelled_again at k (item.Terminator t) is refl
kept_again at k item.Close is = spelled_again at k item.Close is refl
