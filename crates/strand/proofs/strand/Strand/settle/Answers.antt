use Rattle.std.proofs.Common.{◌≡◌, ◌∙◌, length, arith, ap}
use Rattle.std.proofs.Math.Logic.{∥∥₁_map}
use Rattle.std.proofs.lemmas.Result.{on_ok_weaker}
use Rattle.strand.specs.declared.strand.Strand.{Strand}
use Rattle.strand.proofs.Outside.{began}
use Rattle.strand.proofs.Settling.{all_out, one_more_out, only_again, only_top, still_with_boxes, way_with_boxes}
use Rattle.strand.proofs.strand.Strand.settle.Goals as goal

pub returns-in_err-begin_boxes-clause-way : goal.returns-in_err-begin_boxes-clause-way
returns-in_err-begin_boxes-clause-way c = ∥∥₁_map c.requires.way (way_with_boxes c.args.program.now c.args.places.now c.args.self.now c.begin_boxes.new.self c.begin_boxes.ensures.only)

pub returns-in_err-begin_boxes-clause-still : goal.returns-in_err-begin_boxes-clause-still
returns-in_err-begin_boxes-clause-still c = still_with_boxes c.args.program.now c.args.places.now c.args.self.now c.begin_boxes.new.self c.begin_boxes.ensures.only

pub loop-number-init : goal.loop-number-init
loop-number-init c = (c.begin_boxes.ensures.only, search arith, λ l s d is h. began c.args.program.now c.args.places.now c.begin_boxes.new.self l s d is h c.in_ok-begin_boxes.ensures.begins)

pub give_out_one-requires-clause-way : goal.give_out_one-requires-clause-way
give_out_one-requires-clause-way c = ∥∥₁_map c.requires.way (way_with_boxes c.args.program.now c.args.places.now c.args.self.now c.loop-number.self c.loop-number.invariant.0)

pub returns-in_err-give_out_one-clause-way : goal.returns-in_err-give_out_one-clause-way
returns-in_err-give_out_one-clause-way c =
    ∥∥₁_map c.requires.way (way_with_boxes c.args.program.now c.args.places.now c.args.self.now c.give_out_one.new.self
    (only_again c.args.self.now c.loop-number.self c.give_out_one.new.self c.loop-number.invariant.0 c.give_out_one.ensures.only))

pub returns-in_err-give_out_one-clause-still : goal.returns-in_err-give_out_one-clause-still
returns-in_err-give_out_one-clause-still c =
    still_with_boxes c.args.program.now c.args.places.now c.args.self.now c.give_out_one.new.self
    (only_again c.args.self.now c.loop-number.self c.give_out_one.new.self c.loop-number.invariant.0 c.give_out_one.ensures.only)

pub loop-number-preserved : goal.loop-number-preserved
loop-number-preserved c =
    let i = c.loop-number.invariant in
    let lt = c.loop-number-test.true in
    let long : c.len-number-end.result ≡ length c.args.self.now.span.windows.below.items =
    c.len-number-end.ensures ∙ c.begin_boxes.new.self.span.windows.below.ok.0 ∙ ap (λ (v : Strand). length v.span.windows.below.items) c.begin_boxes.ensures.only in
    (only_again c.args.self.now c.loop-number.self c.give_out_one.new.self i.0 c.give_out_one.ensures.only, omega (arith, lt, long), one_more_out c.args.program.now c.args.places.now c.loop-number.number c.loop-number.self c.give_out_one.new.self c.give_out_one.ensures.only i.2 c.in_ok-give_out_one.ensures.out)

pub give_out_top-requires-clause-way : goal.give_out_top-requires-clause-way
give_out_top-requires-clause-way c = ∥∥₁_map c.requires.way (way_with_boxes c.args.program.now c.args.places.now c.args.self.now c.loop-number.self c.loop-number.invariant.0)

pub returns-clause-way : goal.returns-clause-way
returns-clause-way c =
    ∥∥₁_map c.requires.way (way_with_boxes c.args.program.now c.args.places.now c.args.self.now c.give_out_top.new.self
    (only_again c.args.self.now c.loop-number.self c.give_out_top.new.self c.loop-number.invariant.0 (only_top c.loop-number.self c.give_out_top.new.self c.give_out_top.ensures.only)))

pub returns-clause-still : goal.returns-clause-still
returns-clause-still c =
    still_with_boxes c.args.program.now c.args.places.now c.args.self.now c.give_out_top.new.self
    (only_again c.args.self.now c.loop-number.self c.give_out_top.new.self c.loop-number.invariant.0 (only_top c.loop-number.self c.give_out_top.new.self c.give_out_top.ensures.only))

pub returns-clause-settled : goal.returns-clause-settled
returns-clause-settled c =
    let i = c.loop-number.invariant in
    let end = c.loop-number.auto.number-end in
    let past = c.loop-number-test.false in
    let long : c.len-number-end.result ≡ length c.args.self.now.span.windows.below.items =
    c.len-number-end.ensures ∙ c.begin_boxes.new.self.span.windows.below.ok.0 ∙ ap (λ (v : Strand). length v.span.windows.below.items) c.begin_boxes.ensures.only in
    let last : c.loop-number.number ≡ length c.args.self.now.span.windows.below.items = omega (arith, end, past, long) in
    on_ok_weaker c.give_out_top.result (λ settles. ∥∥₁_map c.requires.way (all_out c.args.program.now c.args.places.now c.loop-number.number c.args.self.now c.loop-number.self c.give_out_top.new.self i.0 last i.2 c.give_out_top.ensures.only settles)) c.give_out_top.ensures.settles
