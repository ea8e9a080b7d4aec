use Rattle.std.proofs.Common.{◌≡◌, ◌∙◌, ◌++◌, ◌∷◌, [], ap, sym, subst, List}
use Rattle.frame_strand.specs.Buffers.{raised_change}
use Rattle.strand_pages.specs.Doing.{IsKept}
use Rattle.strand_pages.specs.Tables.{Table, log_of}
use Rattle.strand_pages.specs.declared.added.Added.{Added}
use Rattle.strand_pages.proofs.Listed.{is_listed, open_paged}
use Rattle.strand_pages.proofs.log.PageLog.put_aside.Goals as goal

pub returns-clause-done : goal.returns-clause-done
returns-clause-done c took =
    let old = c.args.self.now in
    let e : Added = record { at = c.args.at.now; number = c.args.number.now } in
    let pages = ap (λ (t : Table). t.pages) c.self.view_is in
    let adds = ap (λ (t : Table). t.adds) c.self.view_is in
    let new : record { pages = old.pages; adds = old.adds ++ e ∷ [] } ≡ record { pages = c.self.inside.pages; adds = c.push.new.self } =
    λ i. record { pages = sym pages i; adds = (ap (λ (xs : List Added). xs ++ e ∷ []) (sym adds) ∙ sym (c.push.ensures.pushed took)) i } in
    subst (λ (t : Table). IsKept (log_of old) c.args.at.now (raised_change c.args.number.now ((log_of old).writes c.args.at.now) ((log_of old).reads c.args.at.now)) (log_of t)) new
    (is_listed old.pages old.adds e (sym (open_paged old.pages c.args.at.now) ∙ c.requires))
