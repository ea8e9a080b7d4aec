use Rattle.std.proofs.Common.{◌≡◌, ◌∙◌, ap, arith, length, List, [], ◌∷◌, ◌++◌}
use Rattle.std.specs.Prelude.{slice_get}
use Rattle.strand_pages.specs.declared.page.Page.{Page}
use Rattle.strand_pages.proofs.Addresses.{get_push_last, get_push_other, get_set_other, get_set_same}
use Rattle.strand_pages.proofs.table.begin.Goals as goal

pub returns-then-slot-len-clause-blank : goal.returns-then-slot-len-clause-blank
returns-then-slot-len-clause-blank c =
    let len = c.len.ensures in
    let long = c.args.pages.now.ok.0 in
    let less = c.if-slot-len.true in
    (c.restart.new.self, get_set_same c.args.pages.now.items c.args.slot c.restart.new.self (omega (arith, len, long, less)), c.restart.ensures)

pub returns-then-slot-len-clause-others : goal.returns-then-slot-len-clause-others
returns-then-slot-len-clause-others c other lt = get_set_other c.args.pages.now.items c.args.slot other c.restart.new.self (λ e. let same = e in omega (arith, lt, same))

pub returns-else-slot-len-clause-blank : goal.returns-else-slot-len-clause-blank
returns-else-slot-len-clause-blank c =
    let xs = c.args.pages.now.items in
    let y = c.new.result in
    let len = c.len.ensures in
    let long = c.args.pages.now.ok.0 in
    let more = c.if-slot-len.false in
    let next = c.requires.next in
    let last : c.args.slot ≡ length xs = omega (arith, len, long, more, next) in
    (y, ap (λ (zs : List Page). slice_get zs c.args.slot) c.push_reserved.ensures.items ∙ ap (slice_get (xs ++ y ∷ [])) last ∙ get_push_last xs y, c.new.ensures)

pub returns-else-slot-len-clause-others : goal.returns-else-slot-len-clause-others
returns-else-slot-len-clause-others c other lt =
    let xs = c.args.pages.now.items in
    let next = c.requires.next in
    ap (λ (zs : List Page). slice_get zs other) c.push_reserved.ensures.items ∙ get_push_other xs c.new.result other (omega (arith, lt, next))
