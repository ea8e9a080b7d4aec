use Rattle.std.proofs.Common.{◌≡◌, length, refl, sym, ◌∙◌, rules, FitsSigned, w64}
use Rattle.std.proofs.lemmas.Int.{to_z-of_z}
use Rattle.strand.proofs.Outside.{settles}
use Rattle.strand.proofs.Settling.{top_code, top_made_small, top_there, top_window}
use Rattle.strand.proofs.strand.Strand.give_out_top.Goals as goal

pub made_by_now-made-requires : goal.made_by_now-made-requires
made_by_now-made-requires c = λ none.
    top_made_small c.args.program.now c.args.places.now c.args.self.now c.requires.way (sym (c.len.ensures ∙ c.args.self.now.span.windows.below.ok.0) ∙ none)

pub write_window-requires-clause-code : goal.write_window-requires-clause-code
write_window-requires-clause-code c = top_code c.args.program.now c.args.places.now c.args.self.now c.requires.way c.args.tables.now.places c.requires.fits.tables_are.places_are

pub write_window-requires-clause-window : goal.write_window-requires-clause-window
write_window-requires-clause-window c = top_window c.args.program.now c.args.places.now c.args.self.now c.requires.way

pub write_window-requires-clause-there : goal.write_window-requires-clause-there
write_window-requires-clause-there c = top_there c.args.program.now c.args.places.now c.args.self.now c.requires.way _ c.requires.fits.text

pub returns-clause-settles : goal.returns-clause-settles
returns-clause-settles c = λ l s d is h old.
    let long : c.len.result ≡ length c.args.self.now.span.windows.below.items = c.len.ensures ∙ c.args.self.now.span.windows.below.ok.0 in
    let fits : FitsSigned w64 c.args.self.now.span.windows.home = search rules in
    settles c.args.program.now c.args.places.now c.args.self.now l s d is h _ c.requires.fits.text c.args.tables.now.places c.requires.fits.tables_are.places_are c.waits_now-waits.result c.waits_now-waits.ensures c.made_by_now-made.result
    (λ none. c.made_by_now-made.ensures.base (long ∙ none)) (λ some. c.made_by_now-made.ensures.other (λ none. some (sym long ∙ none))) old
    c.as_mut-top.result.now c.write_window.new.frame c.as_mut-top.ensures.value c.in_ok-write_window.ensures _ (to_z-of_z w64 c.args.self.now.span.windows.home fits) _ refl refl
