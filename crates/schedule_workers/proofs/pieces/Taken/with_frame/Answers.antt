use Rattle.std.proofs.Common.{rules, ◌≡◌, ◌<◌, ◌≤◌, ◌⊎◌, inl, inr, arith}
use Rattle.frame.specs.declared.frame.Role.TheVariants.{Body}
use Rattle.schedule_workers.specs.Lent.{place_at}
use Rattle.schedule_workers.specs.Pieces.{Touches, own_end}
use Rattle.schedule_workers.proofs.Covering.{beside, untouched, with_own}
use Rattle.schedule_workers.proofs.pieces.Taken.with_frame.Goals as goal

pub returns-in-Some : goal.returns-in-Some
returns-in-Some c =
    let f = c.args.frame.now in
    let home : c.home_place-home.result ≡ place_at f.home = search rules in
    let none : (c.in-Some.end ≤ place_at f.home) ⊎ (c.in-Some.end ≤ c.args.start) = elim c.if-end-start.either [ inl h ↦ inl (omega (arith, home, h)) | inr h ↦ inr h.1 ] in
    untouched c.args.program.now c.args.start c.args.limit f c.args.self
    (beside c.args.program.now c.args.start c.args.limit f c.args.self c.in-Some.end c.in-Some.ensures.some none)

pub returns-in-Some-2 : goal.returns-in-Some-2
returns-in-Some-2 c =
    let f = c.args.frame.now in
    let prog = c.args.program.now in
    let end = c.in-Some.end in
    let home : c.home_place-home.result ≡ place_at f.home = search rules in
    let body : f.role ≡ Body = search rules in
    let same : end ≡ own_end prog f = c.in-Some.ensures.some in
    let before = c.if-limit-home.false in
    let behind = c.if-end-start.false.1 in
    let long = c.if-end-start.false.0 in
    let low = c.min.ensures in
    let touches : Touches prog c.args.start c.args.limit f = record { body = body; some = omega (arith, home, same, long); before = omega (arith, home, before); behind = omega (arith, same, behind) } in
    with_own prog c.args.start c.args.limit f c.args.self touches end c.min.result c.max.result (omega (arith, low, home)) c.max.ensures (omega (arith, same)) (inl (omega (arith, same)))

pub returns-in-None : goal.returns-in-None
returns-in-None c =
    let f = c.args.frame.now in
    let prog = c.args.program.now in
    let home : c.home_place-home.result ≡ place_at f.home = search rules in
    let body : f.role ≡ Body = search rules in
    let before = c.if-limit-home.false in
    let high : 18446744073709551616 ≤ own_end prog f = c.in-None.ensures.none in
    let fits : c.args.limit < 18446744073709551616 = c.ranges.limit.fits in
    let starts = c.requires in
    let low = c.min-in-None.ensures in
    let touches : Touches prog c.args.start c.args.limit f = record { body = body; some = omega (arith, home, before, high, fits); before = omega (arith, home, before); behind = omega (arith, starts, high, fits) } in
    with_own prog c.args.start c.args.limit f c.args.self touches c.args.limit c.min-in-None.result c.max-in-None.result (omega (arith, low, home)) c.max-in-None.ensures (omega (arith, high, fits)) (inr (omega arith))
