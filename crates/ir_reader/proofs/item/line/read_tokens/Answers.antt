use Rattle.std.proofs.Common.{◌≡◌, ◌∙◌, ℕ, ◌≤◌, ◌-◌, List, [], ◌∷◌, length, get_or, take, drop, map, refl, sym, ap, subst, arith, Result, Ok, Option}
use Rattle.std.specs.Result.{IfOk, IfErr}
use Rattle.std.proofs.lemmas.List.{take_all}
use Rattle.std.proofs.lemmas.List.Elements.{All-take, All-drop}
use Rattle.lists.specs.declared.name.Name.{Name}
use Rattle.ir_lex.specs.declared.token.Token.{Token}
use Rattle.ir_lex.specs.declared.token.Kind.TheVariants as kinds
use Rattle.ir_lex.specs.Lexemes.{IsTokenOf}
use Rattle.ir_lex.specs.Texts.{text_at}
use Rattle.ir_annotation.specs.Lines.{annotation_of}
use Rattle.ir_reader.specs.declared.item.line.Line.{Line}
use Rattle.ir_reader.specs.item.Lines.{meaning_of, annotation_line}
use Rattle.ir_reader.specs.item.Answers.{IsMeaningFault}
use Rattle.ir_reader.proofs.item.line.read_tokens.Goals as goal

note : (at : ℕ) (line : List ℕ) (tokens : List Token) (d : Token) → 1 ≤ length tokens → (get_or tokens 0 d).kind ≡ kinds.Note →
    annotation_line (annotation_of (map (text_at line) (take (length tokens - 1) (drop 1 tokens))) at) ≡ meaning_of at line tokens
note at line [] d some is = absurd (omega (arith, some))
note at line (t ∷ ts) d some is = let all : take (length (t ∷ ts) - 1) ts ≡ ts = take_all (length (t ∷ ts) - 1) ts (omega arith) in rw (is, all) refl

said : (c : goal.After-drop-words) → annotation_line (annotation_of c.as_slice.result.now c.args.number) ≡ meaning_of c.args.number c.args.line.now c.args.tokens.now
said c = ap (λ (ws : List Name). annotation_line (annotation_of ws c.args.number)) (c.as_slice.ensures.value ∙ c.in_ok-words-in-Note.ensures) ∙ note c.args.number c.args.line.now c.args.tokens.now _ c.in-len1-up.len_at_least c.in-Note.is

pub words_of-requires : goal.words_of-requires
words_of-requires c = All-take (IsTokenOf c.args.line.now) _ _ (All-drop (IsTokenOf c.args.line.now) 1 c.args.tokens.now c.requires)

pub returns-in_ok-words-in-Note-clause-found : goal.returns-in_ok-words-in-Note-clause-found
returns-in_ok-words-in-Note-clause-found c = subst (λ (meaning : Result (Option Line) ℕ). IfOk c.read_words.result (λ said. meaning ≡ Ok said)) (said c) c.read_words.ensures.found

pub returns-in_ok-words-in-Note-clause-fault : goal.returns-in_ok-words-in-Note-clause-fault
returns-in_ok-words-in-Note-clause-fault c = subst (λ (meaning : Result (Option Line) ℕ). IfErr c.read_words.result (IsMeaningFault c.args.number meaning)) (said c) c.read_words.ensures.fault
